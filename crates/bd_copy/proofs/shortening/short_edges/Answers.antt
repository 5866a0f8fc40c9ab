use Rattle.std.proofs.Common.{◌∙◌, subst, arith}
use Rattle.bd_node.specs.declared.node.Edge.{Edge}
use Rattle.bd_node.specs.Meaning.{Nodes}
use Rattle.bd_node.specs.Tables.{Table}
use Rattle.bd_copy.specs.Shortening.{edge_way, way_visits, IsShortEdge, IsSameEdge}
use Rattle.bd_copy.proofs.Shortened.{zipped_more, visits_more, visits_within, sound_again}
use Rattle.bd_copy.proofs.shortening.short_edges.Goals as goal

pub returns-in_err-push-clause-few_visits : goal.returns-in_err-push-clause-few_visits
returns-in_err-push-clause-few_visits g c =
    visits_within (λ (t : Table) (e : Edge). way_visits t (edge_way e)) (g.S.NodeStore.table c.args.store.now) (g.S.NodeStore.table c.loop-edge.store) c.args.edges.now c.loop-edge.edge-index c.edge-item.result
    (g.S.NodeStore.visit_count c.args.store.now) (g.S.NodeStore.visit_count c.loop-edge.store) (g.S.NodeStore.visit_count c.short_edge.new.store)
    c.loop-edge.invariant.table (omega arith) c.edge-item.is c.loop-edge.invariant.visits c.in_ok-short_edge.ensures.few_visits

pub loop-edge-preserved : goal.loop-edge-preserved
loop-edge-preserved g c =
    let t : Table = g.S.NodeStore.table c.args.store.now in
    let m : Table = g.S.NodeStore.table c.loop-edge.store in
    let nodes : Nodes = g.S.NodeStore.nodes c.args.store.now in
    let mid : Nodes = g.S.NodeStore.nodes c.loop-edge.store in
    let inv = c.loop-edge.invariant in
    let one = c.in_ok-short_edge.ensures in
    record {
      table = one.left.table ∙ inv.table;
      known = λ k. one.left.known (inv.known k);
      nodes = λ k. one.left.kept (inv.known k) ∙ inv.nodes k;
      read = g.met.S.NodeStore.reads_both c.args.store.now c.loop-edge.store c.short_edge.new.store inv.read one.left.read;
      faults = one.cause.kept ∙ inv.faults;
      visits = visits_more (λ (u : Table) (e : Edge). way_visits u (edge_way e)) t m c.args.edges.now c.loop-edge.edge-index c.edge-item.result
          (g.S.NodeStore.visit_count c.args.store.now) (g.S.NodeStore.visit_count c.loop-edge.store) (g.S.NodeStore.visit_count c.short_edge.new.store)
          inv.table (omega arith) c.edge-item.is inv.visits one.few_visits;
      loans = one.left.same_loans ∙ inv.loans;
      short = zipped_more (IsShortEdge t) c.args.edges.now c.loop-edge.made.items c.push.new.self.items c.loop-edge.edge-index c.edge-item.result c.in_ok-short_edge.field-0
          (omega arith) c.edge-item.is c.in_ok-push.ensures.items inv.short (subst (λ (u : Table). IsShortEdge u c.edge-item.result c.in_ok-short_edge.field-0) inv.table one.edge);
      same = λ known sound.
          zipped_more (IsSameEdge nodes) c.args.edges.now c.loop-edge.made.items c.push.new.self.items c.loop-edge.edge-index c.edge-item.result c.in_ok-short_edge.field-0
          (omega arith) c.edge-item.is c.in_ok-push.ensures.items (inv.same known sound)
          (subst (λ (f : Nodes). IsSameEdge f c.edge-item.result c.in_ok-short_edge.field-0) (inv.nodes known) (one.same (inv.known known) (sound_again nodes mid t m (inv.nodes known) inv.table sound)));
    }
