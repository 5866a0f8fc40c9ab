use Rattle.std.proofs.Common.{ap, sym, subst, ◌∙◌, reverse}
use Rattle.std.specs.Prelude.{IfOk}
use Rattle.bd_node.specs.Meaning.{Nodes}
use Rattle.bd_node.specs.Tables.{Table}
use Rattle.bd_path.specs.Fetching.{IsOwn, AreOwn}
use Rattle.bd_step.specs.Ways.{IsStanding, IsReached, IsWayThere}
use Rattle.bd_step.proofs.Down.{root_own, root_way, root_on_ok, none_own}
use Rattle.bd_step.proofs.ways.next_step.Goals as goal

pub returns-then-edges-ge-FULL_EDGES-clause-at : goal.returns-then-edges-ge-FULL_EDGES-clause-at
returns-then-edges-ge-FULL_EDGES-clause-at g c = λ known sound. (
  root_own (g.S.NodeStore.nodes c.args.store.now) (g.S.NodeStore.table c.args.store.now) c.in_ok-root.root sound (c.in_ok-root.ensures.id ∙ c.root-root.ensures.value)
      (ap (g.S.NodeStore.nodes c.args.store.now) (sym c.root-root.ensures.value) ∙ c.in_ok-root.ensures.contents known),
  tt,
)

pub step_from-requires-clause-way : goal.step_from-requires-clause-way
step_from-requires-clause-way g c =
    root_way (g.S.NodeStore.table c.fetch.new.store) c.in_ok-root.root.id c.new.result.items (c.in_ok-root.ensures.id ∙ c.root-root.ensures.value ∙ ap (λ (u : Table). u.root) (sym c.in_ok-root.ensures.left.table)) c.new.ensures.items

pub returns-clause-at : goal.returns-clause-at
returns-clause-at g c = λ known sound.
    let n : Nodes = g.S.NodeStore.nodes c.args.store.now in
    let t : Table = g.S.NodeStore.table c.args.store.now in
    let m : Nodes = g.S.NodeStore.nodes c.fetch.new.store in
    let own : IsOwn n t c.in_ok-root.root = root_own n t c.in_ok-root.root sound (c.in_ok-root.ensures.id ∙ c.root-root.ensures.value)
    (ap n (sym c.root-root.ensures.value) ∙ c.in_ok-root.ensures.contents known) in
    root_on_ok n t c.in_ok-root.root c.deref-2.result.now c.in_ok-place.place c.step_from.result (c.in_ok-root.ensures.id ∙ c.root-root.ensures.value) c.deref-2.ensures c.in_ok-place.ensures.fullest own
    (subst (λ (f : Nodes). IsOwn f t c.in_ok-root.root → IfOk c.step_from.result (IsStanding f t)) (c.in_ok-root.ensures.left.kept known)
    (subst (λ (u : Table). IsOwn m u c.in_ok-root.root → IfOk c.step_from.result (IsStanding m u)) c.in_ok-root.ensures.left.table (c.step_from.ensures.stands (c.in_ok-root.ensures.left.known known))) own)
    (subst (λ (f : Nodes). IsOwn f t c.in_ok-root.root → IfOk c.step_from.result (IsReached f t c.in_ok-root.root.id c.in_ok-place.place)) (c.in_ok-root.ensures.left.kept known)
    (subst (λ (u : Table). IsOwn m u c.in_ok-root.root → IfOk c.step_from.result (IsReached m u c.in_ok-root.root.id c.in_ok-place.place)) c.in_ok-root.ensures.left.table (c.step_from.ensures.reached (c.in_ok-root.ensures.left.known known))) own)

pub returns-clause-way_at : goal.returns-clause-way_at
returns-clause-way_at g c = λ known sound.
    let n : Nodes = g.S.NodeStore.nodes c.args.store.now in
    let t : Table = g.S.NodeStore.table c.args.store.now in
    let m : Nodes = g.S.NodeStore.nodes c.fetch.new.store in
    let own : IsOwn n t c.in_ok-root.root = root_own n t c.in_ok-root.root sound (c.in_ok-root.ensures.id ∙ c.root-root.ensures.value)
    (ap n (sym c.root-root.ensures.value) ∙ c.in_ok-root.ensures.contents known) in
    subst (λ (f : Nodes). IsOwn f t c.in_ok-root.root → AreOwn f t (reverse c.new.result.items) → IfOk c.step_from.result (IsWayThere f t)) (c.in_ok-root.ensures.left.kept known)
    (subst (λ (u : Table). IsOwn m u c.in_ok-root.root → AreOwn m u (reverse c.new.result.items) → IfOk c.step_from.result (IsWayThere m u)) c.in_ok-root.ensures.left.table (c.step_from.ensures.way_at (c.in_ok-root.ensures.left.known known))) own
    (none_own n t c.new.result.items c.new.ensures.items)
