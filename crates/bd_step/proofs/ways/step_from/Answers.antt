use Rattle.std.proofs.Common.{ℕ, subst, refl, ◌∙◌, ◌<◌, length, reverse, arith, inl}
use Rattle.bd_node.specs.declared.node.Node.{Node}
use Rattle.bd_node.specs.Meaning.{Nodes}
use Rattle.bd_node.specs.Tables.{Table}
use Rattle.bd_node.specs.Parts.{edges_of}
use Rattle.bd_path.specs.declared.fetching.Fetched.{Fetched}
use Rattle.bd_step.specs.declared.ways.Look.{Look}
use Rattle.bd_path.specs.Fetching.{IsOwn, AreOwn}
use Rattle.bd_step.specs.Ways.{IsNext, IsSeen, IsSeenAt, IsWaySeen, IsWaySeenAt}
use Rattle.bd_step.specs.Ways.IsOnWay.{start}
use Rattle.bd_step.proofs.Down.{within_inner, next_under, next_from, next_way}
use Rattle.bd_step.proofs.ways.step_from.Goals as goal

pub loop-nodes-init : goal.loop-nodes-init
loop-nodes-init g c = record {
  table = refl;
  fetched = c.requires.fetched;
  inner = within_inner c.args.parent.node.value c.args.place c.requires.fetched.own.shape c.requires.within;
  room = c.requires.room;
  within = c.requires.within;
  under = c.requires.under;
  edge = inl (refl, refl);
  known = λ known. known;
  nodes = λ known. refl;
  read = g.met.S.NodeStore.reads_none c.args.store.now;
  faults = refl;
  visits = omega arith;
  loans = refl;
  own = λ known own. own;
  reached = λ known own. start;
  way = c.requires.way;
  way_there = λ known own all. all;
}

pub loop-nodes-preserved : goal.loop-nodes-preserved
loop-nodes-preserved g c =
    let t : Table = g.S.NodeStore.table c.args.store.now in
    let n : Nodes = g.S.NodeStore.nodes c.args.store.now in
    let m : Nodes = g.S.NodeStore.nodes c.loop-nodes.store in
    let here : Fetched = c.loop-nodes.here in
    let child : Fetched = c.in-Down.child in
    let at : ℕ = c.loop-nodes.at in
    let next : IsNext t here at child =
    subst (λ (l : Look). IsSeen t here at l) c.in-Down.is
    (subst (λ (u : Table). IsSeen u here at c.in_ok-nodes.field-0) c.loop-nodes.invariant.table c.in_ok-nodes.ensures.seen) in
    let own_child = λ (known : g.S.NodeStore.is_known c.args.store.now) (own : IsOwn n t c.args.parent).
    subst (λ (l : Look). IsSeenAt n t l) c.in-Down.is
    (subst (λ (f : Nodes). IsOwn f t here → IsSeenAt f t c.in_ok-nodes.field-0) (c.loop-nodes.invariant.nodes known)
    (subst (λ (u : Table). IsOwn m u here → IsSeenAt m u c.in_ok-nodes.field-0) c.loop-nodes.invariant.table (c.in_ok-nodes.ensures.at (c.loop-nodes.invariant.known known)))
    (c.loop-nodes.invariant.own known own)) in
    record {
      table = c.in_ok-nodes.ensures.left.table ∙ c.loop-nodes.invariant.table;
      fetched = next.child_is;
      inner = next.inner;
      room = next.room;
      within = subst (λ (d : Node). c.in_ok-at-in-Down.at < length (edges_of d)) c.deref.ensures c.in_ok-at-in-Down.ensures.within;
      under = next_under t here at child c.loop-nodes.invariant.under next;
      edge = next_from t c.args.parent c.args.place here at child c.deref.result.now c.in_ok-at-in-Down.at next c.deref.ensures c.in_ok-at-in-Down.ensures.fullest;
      known = λ known. c.in_ok-nodes.ensures.left.known (c.loop-nodes.invariant.known known);
      nodes = λ known. c.in_ok-nodes.ensures.left.kept (c.loop-nodes.invariant.known known) ∙ c.loop-nodes.invariant.nodes known;
      read = g.met.S.NodeStore.reads_both c.args.store.now c.loop-nodes.store c.look_from.new.store c.loop-nodes.invariant.read c.in_ok-nodes.ensures.left.read;
      faults = c.in_ok-nodes.ensures.cause.kept ∙ c.loop-nodes.invariant.faults;
      visits = omega (arith, c.in_ok-nodes.ensures.few_visits, c.loop-nodes.invariant.visits, next.lower);
      loans = c.in_ok-nodes.ensures.left.same_loans ∙ c.loop-nodes.invariant.loans;
      own = own_child;
      reached = λ known own.
          next_way n t c.args.parent.id c.args.place here at child c.deref.result.now c.in_ok-at-in-Down.at next c.deref.ensures c.in_ok-at-in-Down.ensures.fullest c.loop-nodes.invariant.room
          (c.loop-nodes.invariant.own known own) (own_child known own) (c.loop-nodes.invariant.reached known own);
      way =
          subst (λ (l : Look). IsWaySeen t l) c.in-Down.is
          (subst (λ (u : Table). IsWaySeen u c.in_ok-nodes.field-0) c.loop-nodes.invariant.table c.in_ok-nodes.ensures.way);
      way_there = λ known own all.
          subst (λ (l : Look). IsWaySeenAt n t l) c.in-Down.is
          (subst (λ (f : Nodes). IsOwn f t here → AreOwn f t (reverse c.loop-nodes.above.items) → IsWaySeenAt f t c.in_ok-nodes.field-0) (c.loop-nodes.invariant.nodes known)
          (subst (λ (u : Table). IsOwn m u here → AreOwn m u (reverse c.loop-nodes.above.items) → IsWaySeenAt m u c.in_ok-nodes.field-0) c.loop-nodes.invariant.table (c.in_ok-nodes.ensures.way_at (c.loop-nodes.invariant.known known)))
          (c.loop-nodes.invariant.own known own) (c.loop-nodes.invariant.way_there known own all));
    }
