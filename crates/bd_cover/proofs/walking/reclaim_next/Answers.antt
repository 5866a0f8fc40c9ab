use Rattle.std.proofs.Common.{ℕ, refl, sym, subst, nat_eq}
use Rattle.std.specs.HashSet.{contains}
use Rattle.bd_node.specs.Tables.{Table, IsTable, IsKept}
use Rattle.bd_cover.specs.Walking.{IsDue, IsFoundFrom, IsFoundIn}
use Rattle.bd_cover.proofs.Passed.{none_passed, none_once, root_kept}
use Rattle.bd_cover.proofs.Looks.{walk_due, walk_to_do, walk_at, one_at, found_one, found_to_do, still_sound}
use Rattle.bd_cover.proofs.Visits.{one_size, two_sizes, one_walk, two_walks}
use Rattle.bd_cover.proofs.walking.reclaim_next.Goals as goal

pub returns-then-is_empty-clause-due : goal.returns-then-is_empty-clause-due
returns-then-is_empty-clause-due g c = λ known sound.
    walk_due c.args.pushes (g.S.NodeStore.nodes c.args.store.now) (g.S.NodeStore.nodes c.args.store.now) (g.S.NodeStore.table c.args.store.now) (g.S.NodeStore.table c.args.store.now) c.root-root.result c.next_from.result refl refl c.root-root.ensures.value (c.next_from.ensures.due known sound) (c.next_from.ensures.none known sound refl (none_passed c.args.pushes (g.S.NodeStore.nodes c.args.store.now) (g.S.NodeStore.table c.args.store.now) c.args.passed.now (c.is_empty.ensures.0 c.if-is_empty.true)))

pub returns-then-is_empty-clause-to_do : goal.returns-then-is_empty-clause-to_do
returns-then-is_empty-clause-to_do g c = walk_to_do (g.S.NodeStore.table c.args.store.now) (g.S.NodeStore.table c.args.store.now) c.root-root.result c.next_from.result refl c.root-root.ensures.value c.next_from.ensures.found

pub returns-then-is_empty-clause-at : goal.returns-then-is_empty-clause-at
returns-then-is_empty-clause-at g c = λ known sound.
    walk_at c.args.pushes (g.S.NodeStore.nodes c.args.store.now) (g.S.NodeStore.nodes c.args.store.now) (g.S.NodeStore.table c.args.store.now) (g.S.NodeStore.table c.args.store.now) c.root-root.result c.next_from.result refl refl c.root-root.ensures.value sound (c.next_from.ensures.due known sound) c.next_from.ensures.found (c.next_from.ensures.there known)

pub returns-then-is_empty-clause-few_visits : goal.returns-then-is_empty-clause-few_visits
returns-then-is_empty-clause-few_visits g c = λ known. one_size (g.S.NodeStore.nodes c.args.store.now) (g.S.NodeStore.table c.args.store.now) c.root-root.result (g.S.NodeStore.visit_count c.args.store.now) (g.S.NodeStore.visit_count c.next_from.new.store) c.root-root.ensures.value (c.next_from.ensures.few_visits known)

pub returns-then-is_empty-clause-twice : goal.returns-then-is_empty-clause-twice
returns-then-is_empty-clause-twice g c = one_walk (g.S.NodeStore.table c.args.store.now) c.root-root.result (contains nat_eq c.args.passed.now) (contains nat_eq c.next_from.new.passed) (g.S.NodeStore.visit_count c.args.store.now) (g.S.NodeStore.visit_count c.next_from.new.store) c.root-root.ensures.value c.next_from.ensures.hardly_more

pub returns-in-Some-clause-due : goal.returns-in-Some-clause-due
returns-in-Some-clause-due g c = λ known sound.
    subst (λ (i : ℕ). IsDue c.args.pushes (g.S.NodeStore.nodes c.args.store.now) (g.S.NodeStore.table c.args.store.now) c.in-Some.step i) c.root-root.ensures.value (found_one (λ step. IsDue c.args.pushes (g.S.NodeStore.nodes c.args.store.now) (g.S.NodeStore.table c.args.store.now) step c.root-root.result) c.in_ok-step.field-0 c.in-Some.step c.in-Some.is (c.in_ok-step.ensures.due known sound))

pub returns-in-Some-clause-to_do : goal.returns-in-Some-clause-to_do
returns-in-Some-clause-to_do g c = found_to_do (g.S.NodeStore.table c.args.store.now) c.in-Some.step (subst (λ (i : ℕ). IsFoundFrom (g.S.NodeStore.table c.args.store.now) i c.in-Some.step) c.root-root.ensures.value (found_one (IsFoundFrom (g.S.NodeStore.table c.args.store.now) c.root-root.result) c.in_ok-step.field-0 c.in-Some.step c.in-Some.is (c.in_ok-step.ensures.found)))

pub returns-in-Some-clause-at : goal.returns-in-Some-clause-at
returns-in-Some-clause-at g c = λ known sound.
    one_at c.args.pushes (g.S.NodeStore.nodes c.args.store.now) (g.S.NodeStore.table c.args.store.now) c.root-root.result c.in-Some.step c.root-root.ensures.value sound (found_one (λ step. IsDue c.args.pushes (g.S.NodeStore.nodes c.args.store.now) (g.S.NodeStore.table c.args.store.now) step c.root-root.result) c.in_ok-step.field-0 c.in-Some.step c.in-Some.is (c.in_ok-step.ensures.due known sound)) (found_one (IsFoundFrom (g.S.NodeStore.table c.args.store.now) c.root-root.result) c.in_ok-step.field-0 c.in-Some.step c.in-Some.is (c.in_ok-step.ensures.found)) (found_one (IsFoundIn (g.S.NodeStore.nodes c.args.store.now)) c.in_ok-step.field-0 c.in-Some.step c.in-Some.is (c.in_ok-step.ensures.there known))

pub returns-in-Some-clause-few_visits : goal.returns-in-Some-clause-few_visits
returns-in-Some-clause-few_visits g c = λ known. one_size (g.S.NodeStore.nodes c.args.store.now) (g.S.NodeStore.table c.args.store.now) c.root-root.result (g.S.NodeStore.visit_count c.args.store.now) (g.S.NodeStore.visit_count c.next_from-2.new.store) c.root-root.ensures.value (c.in_ok-step.ensures.few_visits known)

pub returns-in-Some-clause-twice : goal.returns-in-Some-clause-twice
returns-in-Some-clause-twice g c = one_walk (g.S.NodeStore.table c.args.store.now) c.root-root.result (contains nat_eq c.args.passed.now) (contains nat_eq c.next_from-2.new.passed) (g.S.NodeStore.visit_count c.args.store.now) (g.S.NodeStore.visit_count c.next_from-2.new.store) c.root-root.ensures.value c.in_ok-step.ensures.hardly_more

pub returns-in_err-step-clause-few_visits : goal.returns-in_err-step-clause-few_visits
returns-in_err-step-clause-few_visits g c = λ known. one_size (g.S.NodeStore.nodes c.args.store.now) (g.S.NodeStore.table c.args.store.now) c.root-root.result (g.S.NodeStore.visit_count c.args.store.now) (g.S.NodeStore.visit_count c.next_from-2.new.store) c.root-root.ensures.value (c.in_err-step.ensures.few_visits known)

pub returns-in_err-step-clause-twice : goal.returns-in_err-step-clause-twice
returns-in_err-step-clause-twice g c = one_walk (g.S.NodeStore.table c.args.store.now) c.root-root.result (contains nat_eq c.args.passed.now) (contains nat_eq c.next_from-2.new.passed) (g.S.NodeStore.visit_count c.args.store.now) (g.S.NodeStore.visit_count c.next_from-2.new.store) c.root-root.ensures.value c.in_err-step.ensures.hardly_more

pub next_from-requires-3-clause-table : goal.next_from-requires-3-clause-table
next_from-requires-3-clause-table g c = subst (λ (u : Table). IsTable u) (sym c.in_ok-step.ensures.left.table) c.root-root.ensures.table

pub next_from-requires-3-clause-kept : goal.next_from-requires-3-clause-kept
next_from-requires-3-clause-kept g c = subst (λ (u : Table). IsKept u c.root-root.result) (sym c.in_ok-step.ensures.left.table) (root_kept (g.S.NodeStore.table c.args.store.now) c.root-root.result c.root-root.ensures.table c.root-root.ensures.value)

pub next_from-requires-clause-kept : goal.next_from-requires-clause-kept
next_from-requires-clause-kept g c = root_kept (g.S.NodeStore.table c.args.store.now) c.root-root.result c.root-root.ensures.table c.root-root.ensures.value

pub next_from-requires-2-clause-kept : goal.next_from-requires-2-clause-kept
next_from-requires-2-clause-kept g c = root_kept (g.S.NodeStore.table c.args.store.now) c.root-root.result c.root-root.ensures.table c.root-root.ensures.value

pub returns-clause-due : goal.returns-clause-due
returns-clause-due g c = λ known sound.
    walk_due c.args.pushes (g.S.NodeStore.nodes c.args.store.now) (g.S.NodeStore.nodes c.next_from-2.new.store) (g.S.NodeStore.table c.args.store.now) (g.S.NodeStore.table c.next_from-2.new.store) c.root-root.result c.next_from-3.result (c.in_ok-step.ensures.left.kept known) c.in_ok-step.ensures.left.table c.root-root.ensures.value (c.next_from-3.ensures.due (c.in_ok-step.ensures.left.known known) (still_sound (g.S.NodeStore.nodes c.args.store.now) (g.S.NodeStore.nodes c.next_from-2.new.store) (g.S.NodeStore.table c.args.store.now) (g.S.NodeStore.table c.next_from-2.new.store) (c.in_ok-step.ensures.left.kept known) c.in_ok-step.ensures.left.table sound)) (c.next_from-3.ensures.none (c.in_ok-step.ensures.left.known known) (still_sound (g.S.NodeStore.nodes c.args.store.now) (g.S.NodeStore.nodes c.next_from-2.new.store) (g.S.NodeStore.table c.args.store.now) (g.S.NodeStore.table c.next_from-2.new.store) (c.in_ok-step.ensures.left.kept known) c.in_ok-step.ensures.left.table sound) refl (none_passed c.args.pushes (g.S.NodeStore.nodes c.next_from-2.new.store) (g.S.NodeStore.table c.next_from-2.new.store) c.clear.new.self c.clear.ensures.len))

pub returns-clause-to_do : goal.returns-clause-to_do
returns-clause-to_do g c = walk_to_do (g.S.NodeStore.table c.args.store.now) (g.S.NodeStore.table c.next_from-2.new.store) c.root-root.result c.next_from-3.result c.in_ok-step.ensures.left.table c.root-root.ensures.value c.next_from-3.ensures.found

pub returns-clause-at : goal.returns-clause-at
returns-clause-at g c = λ known sound.
    walk_at c.args.pushes (g.S.NodeStore.nodes c.args.store.now) (g.S.NodeStore.nodes c.next_from-2.new.store) (g.S.NodeStore.table c.args.store.now) (g.S.NodeStore.table c.next_from-2.new.store) c.root-root.result c.next_from-3.result (c.in_ok-step.ensures.left.kept known) c.in_ok-step.ensures.left.table c.root-root.ensures.value sound (c.next_from-3.ensures.due (c.in_ok-step.ensures.left.known known) (still_sound (g.S.NodeStore.nodes c.args.store.now) (g.S.NodeStore.nodes c.next_from-2.new.store) (g.S.NodeStore.table c.args.store.now) (g.S.NodeStore.table c.next_from-2.new.store) (c.in_ok-step.ensures.left.kept known) c.in_ok-step.ensures.left.table sound)) c.next_from-3.ensures.found (c.next_from-3.ensures.there (c.in_ok-step.ensures.left.known known))

pub returns-clause-few_visits : goal.returns-clause-few_visits
returns-clause-few_visits g c = λ known. two_sizes (g.S.NodeStore.nodes c.args.store.now) (g.S.NodeStore.nodes c.next_from-2.new.store) (g.S.NodeStore.table c.args.store.now) (g.S.NodeStore.table c.next_from-2.new.store) c.root-root.result (g.S.NodeStore.visit_count c.args.store.now) (g.S.NodeStore.visit_count c.next_from-2.new.store) (g.S.NodeStore.visit_count c.next_from-3.new.store) (c.in_ok-step.ensures.left.kept known) c.in_ok-step.ensures.left.table c.root-root.ensures.value (c.in_ok-step.ensures.few_visits known) (c.next_from-3.ensures.few_visits (c.in_ok-step.ensures.left.known known))

pub returns-clause-twice : goal.returns-clause-twice
returns-clause-twice g c = two_walks (g.S.NodeStore.table c.args.store.now) (g.S.NodeStore.table c.next_from-2.new.store) c.root-root.result (contains nat_eq c.args.passed.now) (contains nat_eq c.next_from-2.new.passed) (contains nat_eq c.clear.new.self) (contains nat_eq c.next_from-3.new.passed) (g.S.NodeStore.visit_count c.args.store.now) (g.S.NodeStore.visit_count c.next_from-2.new.store) (g.S.NodeStore.visit_count c.next_from-3.new.store) c.in_ok-step.ensures.left.table c.root-root.ensures.value
    (none_once c.in_ok-step.field-0 _ c.in_default.is c.in_ok-step.ensures.once) c.next_from-3.ensures.hardly_more
