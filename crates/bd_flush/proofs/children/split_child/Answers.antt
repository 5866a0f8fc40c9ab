use Rattle.std.proofs.Common.{arith, subst, Option, inl, reverse, ◌+◌, ◌∷◌}
use Rattle.std.specs.Prelude.{MatchOption}
use Rattle.std.proofs.lemmas.Result.{err_from_is_err_and}
use Rattle.bd_node.specs.declared.node.Node.{Node}
use Rattle.bd_node.specs.declared.node.Step.{Step}
use Rattle.bd_node.specs.Nodes.{level_of}
use Rattle.bd_inner.specs.Halves.{AreHalves}
use Rattle.bd_flush.specs.Children.{IsLongPivot, IsChildStep}
use Rattle.bd_path.specs.Raising.{CannotRise}
use Rattle.bd_flush.specs.Between.{IsBetweenStep, IsSplitStep, IsHighSplit}
use Rattle.bd_flush.specs.Between.IsSplitStep.{short, long}
use Rattle.bd_path.proofs.Made.{made_wider, worn_wider}
use Rattle.bd_flush.proofs.ChildCommits.{is_to_split_child, may_split, split_in_place, split_flushed, split_no_higher, split_visits, split_cause}
use Rattle.bd_flush.proofs.PutBetween.{way_of, long_pivot}
use Rattle.bd_flush.proofs.children.split_child.Goals as goal

pub commit-requires-clause-step : goal.commit-requires-clause-step
commit-requires-clause-step g c =
    may_split (g.S.NodeStore.table c.args.store.now) c.args.parent.now c.args.place c.args.child.now c.in-Some.step
    (is_to_split_child (g.S.NodeStore.table c.args.store.now) c.args.parent.now c.args.place c.args.child.now c.in-Some.step c.root-root.result c.next_id-next.result c.root-root.ensures.table c.requires.can c.root-root.ensures.value c.next_id-next.ensures.value (omega arith)
    (subst (λ (o : Option Step). MatchOption o (IsLongPivot c.args.parent.now.node.value c.args.place c.args.child.now.node.value) (λ (s : Step). IsChildStep c.root-root.result c.next_id-next.result c.args.parent.now c.args.place c.args.child.now s)) c.in-Some.is c.in_ok-step.ensures))

pub commit-requires-clause-in_place : goal.commit-requires-clause-in_place
commit-requires-clause-in_place g c = λ known sound.
    split_in_place (g.S.NodeStore.nodes c.args.store.now) (g.S.NodeStore.table c.args.store.now) c.args.parent.now c.args.place c.args.child.now c.in-Some.step
    (is_to_split_child (g.S.NodeStore.table c.args.store.now) c.args.parent.now c.args.place c.args.child.now c.in-Some.step c.root-root.result c.next_id-next.result c.root-root.ensures.table c.requires.can c.root-root.ensures.value c.next_id-next.ensures.value (omega arith)
    (subst (λ (o : Option Step). MatchOption o (IsLongPivot c.args.parent.now.node.value c.args.place c.args.child.now.node.value) (λ (s : Step). IsChildStep c.root-root.result c.next_id-next.result c.args.parent.now c.args.place c.args.child.now s)) c.in-Some.is c.in_ok-step.ensures)) sound (c.requires.family known sound)

pub returns-in_err-commit-clause-cause : goal.returns-in_err-commit-clause-cause
returns-in_err-commit-clause-cause g c =
    let p = err_from_is_err_and c.from_residual-in_err-commit.result c.from_residual-in_err-commit.ensures.1 in
    rw (p.1, p.2)
    (split_cause (g.S.NodeStore.fault_count c.args.store.now) (g.S.NodeStore.fault_count c.commit.new.self) (g.S.NodeStore.last_failed c.commit.new.self) (g.S.NodeStore.bad c.commit.new.self) (g.S.NodeStore.table c.args.store.now) (reverse c.args.above.now) c.args.parent.now c.args.place c.args.child.now c.in-Some.step c.in_err-commit.field-0.0
    (is_to_split_child (g.S.NodeStore.table c.args.store.now) c.args.parent.now c.args.place c.args.child.now c.in-Some.step c.root-root.result c.next_id-next.result c.root-root.ensures.table c.requires.can c.root-root.ensures.value c.next_id-next.ensures.value (omega arith)
    (subst (λ (o : Option Step). MatchOption o (IsLongPivot c.args.parent.now.node.value c.args.place c.args.child.now.node.value) (λ (s : Step). IsChildStep c.root-root.result c.next_id-next.result c.args.parent.now c.args.place c.args.child.now s)) c.in-Some.is c.in_ok-step.ensures)) c.in_err-commit.ensures.cause)

pub returns-clause-flushed : goal.returns-clause-flushed
returns-clause-flushed g c = λ known sound.
    split_flushed (g.S.NodeStore.nodes c.args.store.now) (g.S.NodeStore.table c.args.store.now) c.args.parent.now c.args.place c.args.child.now c.in-Some.step (g.S.NodeStore.nodes c.commit.new.self) (g.S.NodeStore.table c.commit.new.self)
    (is_to_split_child (g.S.NodeStore.table c.args.store.now) c.args.parent.now c.args.place c.args.child.now c.in-Some.step c.root-root.result c.next_id-next.result c.root-root.ensures.table c.requires.can c.root-root.ensures.value c.next_id-next.ensures.value (omega arith)
    (subst (λ (o : Option Step). MatchOption o (IsLongPivot c.args.parent.now.node.value c.args.place c.args.child.now.node.value) (λ (s : Step). IsChildStep c.root-root.result c.next_id-next.result c.args.parent.now c.args.place c.args.child.now s)) c.in-Some.is c.in_ok-step.ensures)) sound (c.requires.family known sound) c.in_ok-commit.ensures.table (c.in_ok-commit.ensures.committed known sound)

pub returns-clause-made : goal.returns-clause-made
returns-clause-made g c = λ known sound.
    record {
      step = c.in-Some.step;
      is = short (is_to_split_child (g.S.NodeStore.table c.args.store.now) c.args.parent.now c.args.place c.args.child.now c.in-Some.step c.root-root.result c.next_id-next.result c.root-root.ensures.table c.requires.can c.root-root.ensures.value c.next_id-next.ensures.value (omega arith)
          (subst (λ (o : Option Step). MatchOption o (IsLongPivot c.args.parent.now.node.value c.args.place c.args.child.now.node.value) (λ (s : Step). IsChildStep c.root-root.result c.next_id-next.result c.args.parent.now c.args.place c.args.child.now s)) c.in-Some.is c.in_ok-step.ensures)).split;
      after = c.in_ok-commit.ensures.table;
      committed = c.in_ok-commit.ensures.committed known sound;
    }

pub returns-clause-table : goal.returns-clause-table
returns-clause-table g c =
    inl (split_no_higher (g.S.NodeStore.table c.args.store.now) c.args.parent.now c.args.place c.args.child.now c.in-Some.step (g.S.NodeStore.table c.commit.new.self)
    (is_to_split_child (g.S.NodeStore.table c.args.store.now) c.args.parent.now c.args.place c.args.child.now c.in-Some.step c.root-root.result c.next_id-next.result c.root-root.ensures.table c.requires.can c.root-root.ensures.value c.next_id-next.ensures.value (omega arith)
    (subst (λ (o : Option Step). MatchOption o (IsLongPivot c.args.parent.now.node.value c.args.place c.args.child.now.node.value) (λ (s : Step). IsChildStep c.root-root.result c.next_id-next.result c.args.parent.now c.args.place c.args.child.now s)) c.in-Some.is c.in_ok-step.ensures)) c.in_ok-commit.ensures.table)

pub returns-clause-few_visits : goal.returns-clause-few_visits
returns-clause-few_visits g c =
    omega (
      arith,
      split_visits (g.S.NodeStore.table c.args.store.now) c.args.parent.now c.args.place c.args.child.now c.in-Some.step (g.S.NodeStore.visit_count c.args.store.now) (g.S.NodeStore.visit_count c.commit.new.self)
          (is_to_split_child (g.S.NodeStore.table c.args.store.now) c.args.parent.now c.args.place c.args.child.now c.in-Some.step c.root-root.result c.next_id-next.result c.root-root.ensures.table c.requires.can c.root-root.ensures.value c.next_id-next.ensures.value (omega arith)
          (subst (λ (o : Option Step). MatchOption o (IsLongPivot c.args.parent.now.node.value c.args.place c.args.child.now.node.value) (λ (s : Step). IsChildStep c.root-root.result c.next_id-next.result c.args.parent.now c.args.place c.args.child.now s)) c.in-Some.is c.in_ok-step.ensures)) c.in_ok-commit.ensures.visits,
    )

pub put_between-requires-clause-way : goal.put_between-requires-clause-way
put_between-requires-clause-way g c = way_of (g.S.NodeStore.table c.args.store.now) (reverse c.args.above.now) c.args.parent.now c.args.place c.args.child.now c.requires.can c.requires.way

pub returns-in_default-clause-made : goal.returns-in_default-clause-made
returns-in_default-clause-made g c = λ known sound.
    made_wider (IsBetweenStep (g.S.NodeStore.table c.args.store.now).root (g.S.NodeStore.table c.args.store.now).next (c.args.parent.now ∷ reverse c.args.above.now) c.args.child.now c.in_ok-halves.halves) (IsSplitStep (g.S.NodeStore.table c.args.store.now) (reverse c.args.above.now) c.args.parent.now c.args.place c.args.child.now) (g.S.NodeStore.nodes c.args.store.now) (g.S.NodeStore.table c.args.store.now) (g.S.NodeStore.nodes c.put_between.new.store) (g.S.NodeStore.table c.put_between.new.store) c.put_between.result (λ step is. long c.in_ok-halves.halves (long_pivot c.args.parent.now c.args.place c.args.child.now c.in_ok-step.field-0 (λ (s : Step). IsChildStep c.root-root.result c.next_id-next.result c.args.parent.now c.args.place c.args.child.now s) c.in_default.is c.in_ok-step.ensures) (subst (λ (n : Node). AreHalves n c.in_ok-halves.halves) c.deref.ensures c.in_ok-halves.ensures) is) (c.put_between.ensures.made known sound)

pub returns-in_default-clause-cause : goal.returns-in_default-clause-cause
returns-in_default-clause-cause g c =
    worn_wider (g.S.NodeStore.fault_count c.args.store.now) (g.S.NodeStore.fault_count c.put_between.new.store) (g.S.NodeStore.last_failed c.put_between.new.store) (g.S.NodeStore.bad c.put_between.new.store) (IsBetweenStep (g.S.NodeStore.table c.args.store.now).root (g.S.NodeStore.table c.args.store.now).next (c.args.parent.now ∷ reverse c.args.above.now) c.args.child.now c.in_ok-halves.halves) (IsSplitStep (g.S.NodeStore.table c.args.store.now) (reverse c.args.above.now) c.args.parent.now c.args.place c.args.child.now) (CannotRise (level_of c.args.child.now.node.value + 1) (c.args.parent.now ∷ reverse c.args.above.now)) (IsHighSplit (reverse c.args.above.now) c.args.parent.now c.args.place c.args.child.now) (g.S.NodeStore.table c.args.store.now) c.put_between.result (λ step is. long c.in_ok-halves.halves (long_pivot c.args.parent.now c.args.place c.args.child.now c.in_ok-step.field-0 (λ (s : Step). IsChildStep c.root-root.result c.next_id-next.result c.args.parent.now c.args.place c.args.child.now s) c.in_default.is c.in_ok-step.ensures) (subst (λ (n : Node). AreHalves n c.in_ok-halves.halves) c.deref.ensures c.in_ok-halves.ensures) is) (λ up. ((long_pivot c.args.parent.now c.args.place c.args.child.now c.in_ok-step.field-0 (λ (s : Step). IsChildStep c.root-root.result c.next_id-next.result c.args.parent.now c.args.place c.args.child.now s) c.in_default.is c.in_ok-step.ensures), up)) c.put_between.ensures.cause
