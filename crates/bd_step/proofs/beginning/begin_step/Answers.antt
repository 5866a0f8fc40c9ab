use Rattle.std.proofs.Common.{List, length, reverse, ap, sym, subst, arith}
use Rattle.bd_node.specs.declared.node.Edge.{Edge}
use Rattle.bd_node.specs.declared.node.Node.{Node}
use Rattle.bd_node.specs.Parts.{edges_of}
use Rattle.bd_path.specs.declared.fetching.Fetched.{Fetched}
use Rattle.bd_path.specs.Fetching.{AreOwn}
use Rattle.bd_step.specs.Beginning.{IsSplitFirst}
use Rattle.bd_step.proofs.Begins.{way_under, all_waited}
use Rattle.bd_step.proofs.beginning.begin_step.Goals as goal

pub step_from-requires-clause-under : goal.step_from-requires-clause-under
step_from-requires-clause-under g c = way_under (g.S.NodeStore.table c.args.store.now) c.args.node.id (reverse c.args.above) c.requires.way

pub returns-then-edges-lt-FULL_EDGES-clause-waited : goal.returns-then-edges-lt-FULL_EDGES-clause-waited
returns-then-edges-lt-FULL_EDGES-clause-waited g c = all_waited (g.S.NodeStore.table c.args.store.now) c.args.node c.args.place c.step_from.result c.requires.pending c.step_from.ensures.due c.step_from.ensures.edge

pub returns-clause-begins : goal.returns-clause-begins
returns-clause-begins g c = record {
  narrow = λ few. absurd (omega (arith, few, c.if-edges-lt-FULL_EDGES.false, ap (λ (n : Node). length (edges_of n)) c.deref.ensures, ap (λ (l : List Edge). length l) c.edges.ensures));
  wide = λ many. subst (λ (l : List Fetched). IsSplitFirst (reverse l) c.args.node c.split_first.result) c.into_vec-above.ensures c.split_first.ensures.first;
}

pub returns-clause-way_at : goal.returns-clause-way_at
returns-clause-way_at g c = λ known own all.
    c.split_first.ensures.way_at (g.S.NodeStore.nodes c.args.store.now) (g.S.NodeStore.table c.args.store.now)
    (subst (λ (l : List Fetched). AreOwn (g.S.NodeStore.nodes c.args.store.now) (g.S.NodeStore.table c.args.store.now) (reverse l)) (sym c.into_vec-above.ensures) all)
