use Rattle.std.proofs.Common.{arith, ap, ◌∙◌, ◌+◌, ◌++◌, ◌∷◌, [], List, Some, Ok}
use Rattle.std.specs.Prelude.{⊤}
use Rattle.bd_node.specs.declared.node.Change.{Change}
use Rattle.bd_path.proofs.Raisings.{upwards, as_above, all_raised, none_over, on_over}
use Rattle.bd_path.proofs.raising.changes_over.Goals as goal

pub returns-then-level-own : goal.returns-then-level-own
returns-then-level-own c =
    none_over c.args.level c.level-own.result c.args.parent c.args.above.now c.push.new.self.items c.level-own.ensures (omega arith)
    (c.in_ok-push.ensures.items ∙ ap (λ (l : List Change). l ++ c.args.parent ∷ []) c.new-changes.ensures.items)

pub returns-in-Some : goal.returns-in-Some
returns-in-Some c =
    on_over (λ v. v.items) c.args.level c.level-own.result c.args.parent c.args.above.now c.push-2.new.self.items c.in_ok-raised.field-0 c.raise_way.result c.level-own.ensures (omega arith)
    (c.in_ok-push-2.ensures.items ∙ ap (λ (l : List Change). l ++ (record { id = c.args.parent.id; node = c.in_ok-raised.field-0 }) ∷ []) c.new-changes.ensures.items)
    c.in_ok-raised.ensures
    (as_above (λ v. v.items) (c.level-own.result + 1) c.args.above.now c.in-Some.others.now c.in-Some.nearest.now c.push-2.new.self.items c.raise_way.result (upwards c.args.above.now c.in-Some.others.now c.in-Some.nearest.now c.in-Some.ensures.cases) c.raise_way.ensures)

pub returns : goal.returns
returns c =
    on_over {E = ⊤} (λ (v : List Change). v) c.args.level c.level-own.result c.args.parent c.args.above.now c.push-2.new.self.items c.in_ok-raised.field-0 (Ok (Some c.push-2.new.self.items)) c.level-own.ensures (omega arith)
    (c.in_ok-push-2.ensures.items ∙ ap (λ (l : List Change). l ++ (record { id = c.args.parent.id; node = c.in_ok-raised.field-0 }) ∷ []) c.new-changes.ensures.items)
    c.in_ok-raised.ensures
    (all_raised (c.level-own.result + 1) c.args.above.now c.push-2.new.self.items c.in-None.ensures.cases)
