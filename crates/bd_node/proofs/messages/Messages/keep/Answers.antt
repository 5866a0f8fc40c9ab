use Rattle.std.proofs.Common.{List, sym, ap, subst, ◌∙◌}
use Rattle.bd_message.specs.declared.message.Message.{Message}
use Rattle.bd_node.specs.Keeping.{staying}
use Rattle.bd_node.proofs.InPlace.{IsIndexOf}
use Rattle.bd_node.proofs.messages.Messages.keep.Goals as goal

pub invariant_of-self : goal.invariant_of-self
invariant_of-self c = λ x is.
    subst (λ (l : List Message). IsIndexOf l x) (sym (c.keep.ensures ∙ ap (λ (l : List Message). staying c.args.mask.now l) c.self.view_is)) (c.requires.index x is)
