use Rattle.std.proofs.Common.{◌∙◌, subst, arith}
use Rattle.bd_message.specs.declared.message.Message.{Message}
use Rattle.bd_node.specs.Meaning.{Nodes}
use Rattle.bd_node.specs.Tables.{Table}
use Rattle.bd_copy.specs.Shortening.{goto_way, way_visits, IsShortMessage, IsSameMessage}
use Rattle.bd_copy.proofs.Shortened.{zipped_more, visits_more, visits_within, sound_again}
use Rattle.bd_copy.proofs.shortening.short_messages.Goals as goal

pub returns-in_err-push-clause-few_visits : goal.returns-in_err-push-clause-few_visits
returns-in_err-push-clause-few_visits g c =
    visits_within (λ (t : Table) (e : Message). way_visits t (goto_way e)) (g.S.NodeStore.table c.args.store.now) (g.S.NodeStore.table c.loop-message.store) c.args.list.now c.loop-message.message-index c.message-item.result
    (g.S.NodeStore.visit_count c.args.store.now) (g.S.NodeStore.visit_count c.loop-message.store) (g.S.NodeStore.visit_count c.short_message.new.store)
    c.loop-message.invariant.table (omega arith) c.message-item.is c.loop-message.invariant.visits c.in_ok-short_message.ensures.few_visits

pub loop-message-preserved : goal.loop-message-preserved
loop-message-preserved g c =
    let t : Table = g.S.NodeStore.table c.args.store.now in
    let m : Table = g.S.NodeStore.table c.loop-message.store in
    let nodes : Nodes = g.S.NodeStore.nodes c.args.store.now in
    let mid : Nodes = g.S.NodeStore.nodes c.loop-message.store in
    let inv = c.loop-message.invariant in
    let one = c.in_ok-short_message.ensures in
    record {
      table = one.left.table ∙ inv.table;
      known = λ k. one.left.known (inv.known k);
      nodes = λ k. one.left.kept (inv.known k) ∙ inv.nodes k;
      read = g.met.S.NodeStore.reads_both c.args.store.now c.loop-message.store c.short_message.new.store inv.read one.left.read;
      faults = one.cause.kept ∙ inv.faults;
      visits = visits_more (λ (u : Table) (e : Message). way_visits u (goto_way e)) t m c.args.list.now c.loop-message.message-index c.message-item.result
          (g.S.NodeStore.visit_count c.args.store.now) (g.S.NodeStore.visit_count c.loop-message.store) (g.S.NodeStore.visit_count c.short_message.new.store)
          inv.table (omega arith) c.message-item.is inv.visits one.few_visits;
      loans = one.left.same_loans ∙ inv.loans;
      short = zipped_more (IsShortMessage t) c.args.list.now c.loop-message.made.items c.push.new.self.items c.loop-message.message-index c.message-item.result c.in_ok-short_message.field-0
          (omega arith) c.message-item.is c.in_ok-push.ensures.items inv.short (subst (λ (u : Table). IsShortMessage u c.message-item.result c.in_ok-short_message.field-0) inv.table one.message);
      same = λ known sound.
          zipped_more (IsSameMessage nodes) c.args.list.now c.loop-message.made.items c.push.new.self.items c.loop-message.message-index c.message-item.result c.in_ok-short_message.field-0
          (omega arith) c.message-item.is c.in_ok-push.ensures.items (inv.same known sound)
          (subst (λ (f : Nodes). IsSameMessage f c.message-item.result c.in_ok-short_message.field-0) (inv.nodes known) (one.same (inv.known known) (sound_again nodes mid t m (inv.nodes known) inv.table sound)));
    }
