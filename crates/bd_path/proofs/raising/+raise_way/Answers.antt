use Rattle.std.proofs.Common.{arith, ap, refl, ◌∙◌, ◌∷◌, ◌+◌, reverse}
use Rattle.bd_node.specs.Nodes.{level_of}
use Rattle.bd_path.specs.Raising.{raised}
use Rattle.bd_path.proofs.Raisings.{upwards, raised_high, cannot, more_raised, as_above, last_raised}
use Rattle.bd_path.proofs.raising.+raise_way.Goals as goal

pub returns-then-level-own : goal.returns-then-level-own
returns-then-level-own t c =
    raised_high c.args.level c.level-own.result (c.args.nearest.now ∷ reverse c.args.above.now) (reverse c.args.above.now) c.args.nearest.now c.args.changes.items refl
    (c.level-own.ensures ∙ ap level_of c.deref.ensures) (omega arith)

pub returns-then-own-ge-MAX_LEVEL : goal.returns-then-own-ge-MAX_LEVEL
returns-then-own-ge-MAX_LEVEL t c =
    cannot c.args.level c.level-own.result (c.args.nearest.now ∷ reverse c.args.above.now) (reverse c.args.above.now) c.args.nearest.now c.requires refl
    (c.level-own.ensures ∙ ap level_of c.deref.ensures) (omega arith) (omega arith)

pub returns-in-Some : goal.returns-in-Some
returns-in-Some t c =
    more_raised (λ v. v.items) c.args.level c.level-own.result (c.args.nearest.now ∷ reverse c.args.above.now) (reverse c.args.above.now) c.args.nearest.now c.args.changes.items c.push.new.self.items c.in_ok-raised.field-0 c.raise_way.result
    refl (c.level-own.ensures ∙ ap level_of c.deref.ensures) (omega arith) (omega arith) c.in_ok-push.ensures.items (c.in_ok-raised.ensures ∙ ap raised c.deref-2.ensures)
    (as_above (λ v. v.items) (c.level-own.result + 1) c.args.above.now c.in-Some.others.now c.in-Some.next.now c.push.new.self.items c.raise_way.result (upwards c.args.above.now c.in-Some.others.now c.in-Some.next.now c.in-Some.ensures.cases) c.raise_way.ensures)

pub returns-in-None : goal.returns-in-None
returns-in-None t c =
    last_raised c.args.level c.level-own.result c.args.above.now c.args.nearest.now c.args.changes.items c.push.new.self.items c.in_ok-raised.field-0
    (c.level-own.ensures ∙ ap level_of c.deref.ensures) (omega arith) (omega arith) c.in_ok-push.ensures.items (c.in_ok-raised.ensures ∙ ap raised c.deref-2.ensures) c.in-None.ensures.cases
