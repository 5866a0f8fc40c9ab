use Rattle.std.proofs.Common.{◌≡◌, ◌<◌, List, length, get_or, sym, subst, arith}
use Rattle.std.proofs.lemmas.Option.{same_Some}
use Rattle.bd_message.specs.declared.message.Message.{Message}
use Rattle.bd_node.specs.declared.index.Index.{Index}
use Rattle.bd_node.specs.Keeping.{staying}
use Rattle.bd_node.proofs.InPlace.{IsIndexOf, kept_both}
use Rattle.bd_node.proofs.messages.Messages.kept_index.Goals as goal

index_is : (list items : List Message) (index : Index) → list ≡ items → IsIndexOf items index → IsIndexOf list index
index_is list items index same h = subst (λ (l : List Message). IsIndexOf l index) (sym same) h

pub moved_index-requires-clause-points : goal.moved_index-requires-clause-points
moved_index-requires-clause-points c = λ q low.
    let below : get_or c.in-Some.index.points.items q 0 < length c.args.self.now = (index_is c.args.self.now c.self.inside.items.items c.in-Some.index (sym c.self.view_is) (c.self.invariant c.in-Some.index c.in-Some.is)).0.below q low in
    omega arith

pub moved_index-requires-clause-ranges : goal.moved_index-requires-clause-ranges
moved_index-requires-clause-ranges c = λ q low.
    let under : get_or c.in-Some.index.ranges.items q 0 < length c.args.self.now = (index_is c.args.self.now c.self.inside.items.items c.in-Some.index (sym c.self.view_is) (c.self.invariant c.in-Some.index c.in-Some.is)).0.under q low in
    omega arith

pub moved_index-requires-clause-stems : goal.moved_index-requires-clause-stems
moved_index-requires-clause-stems c = λ q low.
    let below : get_or c.in-Some.index.stems.items q 0 < length c.args.self.now = (index_is c.args.self.now c.self.inside.items.items c.in-Some.index (sym c.self.view_is) (c.self.invariant c.in-Some.index c.in-Some.is)).1.below q low in
    omega arith

pub returns-in_ok-moved_index-in-Some : goal.returns-in_ok-moved_index-in-Some
returns-in_ok-moved_index-in-Some c = λ x is.
    subst (λ (i : Index). IsIndexOf (staying c.args.mask.now c.args.self.now) i) (same_Some c.in_ok-moved_index-in-Some.field-0 x is)
    (kept_both c.args.mask.now c.args.self.now c.in-Some.index c.in_ok-moved_index-in-Some.field-0 c.requires
    (index_is c.args.self.now c.self.inside.items.items c.in-Some.index (sym c.self.view_is) (c.self.invariant c.in-Some.index c.in-Some.is))
    c.in_ok-moved_index-in-Some.ensures.points c.in_ok-moved_index-in-Some.ensures.ranges c.in_ok-moved_index-in-Some.ensures.stems)
