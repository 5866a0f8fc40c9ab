use Rattle.std.proofs.Common.{◌≡◌, List, sym, ap, subst, ◌∙◌, Some}
use Rattle.bd_message.specs.declared.message.Message.{Message}
use Rattle.bd_node.specs.declared.index.Index.{Index}
use Rattle.bd_node.specs.Keeping.{staying}
use Rattle.bd_node.proofs.InPlace.{IsIndexOf}
use Rattle.bd_node.proofs.messages.Messages.kept.Goals as goal
use Rattle.bd_node.proofs.messages.Messages.kept.Goals.{In_ok-index}

list_is : (c : In_ok-index) → c.in_ok-items.items.items ≡ staying c.args.mask.now c.args.self.now
list_is c = c.in_ok-items.ensures ∙ ap (λ (l : List Message). staying c.args.mask.now l) (c.as_slice.ensures.value ∙ c.self.view_is)

index_is : (c : In_ok-index) (list : List Message) (x : Index) → list ≡ c.in_ok-items.items.items → c.in_ok-index.index ≡ Some x → IsIndexOf list x
index_is c list x same is = subst (λ (l : List Message). IsIndexOf l x) (sym (same ∙ list_is c)) (c.in_ok-index.ensures x is)

pub regrown-requires-clause-index : goal.regrown-requires-clause-index
regrown-requires-clause-index c = λ x is. (index_is (goal.at.regrown-requires-clause-index c).In_ok-index c.as_slice-list.result.now x c.as_slice-list.ensures.value is).0

pub regrown-requires-clause-stems : goal.regrown-requires-clause-stems
regrown-requires-clause-stems c = λ x is. (index_is (goal.at.regrown-requires-clause-stems c).In_ok-index c.as_slice-list.result.now x c.as_slice-list.ensures.value is).1
