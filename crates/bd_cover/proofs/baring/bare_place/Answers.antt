use Rattle.std.proofs.Common.{ℕ, List, Option, sym, subst, ◌∙◌, arith}
use Rattle.std.specs.Option.{option_copied}
use Rattle.bd_node.specs.Tables.{Table, IsKept}
use Rattle.bd_node.specs.Parts.{end_at}
use Rattle.bd_node.proofs.Parts.{edge_here}
use Rattle.bd_inner.specs.Batches.{IsLifted}
use Rattle.bd_inner.proofs.Fitting.{edge_lifted}
use Rattle.bd_cover.proofs.Covers.{place_low, end_read, past_all}
use Rattle.bd_cover.proofs.Looks.{child_lower}
use Rattle.bd_cover.proofs.Bared.{shown_edges, no_bare_more, no_bare_in, not_bare}
use Rattle.bd_cover.proofs.baring.bare_place.Goals as goal

pub is_bare-requires-clause-kept : goal.is_bare-requires-clause-kept
is_bare-requires-clause-kept g c = λ child is. subst (λ (u : Table). IsKept u child) (sym c.loop-place.invariant.table) (child_lower (g.S.NodeStore.table c.args.store.now) c.args.here.now c.loop-place.place c.index-edges-place.result child c.requires (edge_here c.edges-edges.result.now c.args.here.now.node.value c.loop-place.place c.index-edges-place.result (shown_edges c.args.here.now.node.value c.deref.result.now c.edges-edges.result.now c.deref.ensures c.edges-edges.ensures) (place_low c.args.here.now.node.value c.edges-edges.result.now c.loop-place.place (shown_edges c.args.here.now.node.value c.deref.result.now c.edges-edges.result.now c.deref.ensures c.edges-edges.ensures) c.loop-place-test.true) c.index-edges-place.is) is).kept

pub is_bare-requires-clause-lifted : goal.is_bare-requires-clause-lifted
is_bare-requires-clause-lifted g c =
    subst (λ (o : Option (List ℕ)). IsLifted c.index-edges-place.result o) (sym (end_read c.args.here.now.node.value c.edges-edges.result.now c.loop-place.place (option_copied c.end_of.result) (shown_edges c.args.here.now.node.value c.deref.result.now c.edges-edges.result.now c.deref.ensures c.edges-edges.ensures) c.end_of.ensures))
    (edge_lifted c.args.here.now.node.value c.loop-place.place c.index-edges-place.result c.requires.own.shape (edge_here c.edges-edges.result.now c.args.here.now.node.value c.loop-place.place c.index-edges-place.result (shown_edges c.args.here.now.node.value c.deref.result.now c.edges-edges.result.now c.deref.ensures c.edges-edges.ensures) (place_low c.args.here.now.node.value c.edges-edges.result.now c.loop-place.place (shown_edges c.args.here.now.node.value c.deref.result.now c.edges-edges.result.now c.deref.ensures c.edges-edges.ensures) c.loop-place-test.true) c.index-edges-place.is))

pub loop-place-preserved : goal.loop-place-preserved
loop-place-preserved g c = record {
  low = omega (arith, c.loop-place-test.true);
  table = c.in_ok-is_bare.ensures.left.table ∙ c.loop-place.invariant.table;
  known = λ known. c.in_ok-is_bare.ensures.left.known (c.loop-place.invariant.known known);
  nodes = λ known. c.in_ok-is_bare.ensures.left.kept (c.loop-place.invariant.known known) ∙ c.loop-place.invariant.nodes known;
  read = g.met.S.NodeStore.reads_both c.args.store.now c.loop-place.store c.is_bare.new.store c.loop-place.invariant.read c.in_ok-is_bare.ensures.left.read;
  faults = c.in_ok-is_bare.ensures.cause.kept ∙ c.loop-place.invariant.faults;
  loans = c.in_ok-is_bare.ensures.left.same_loans ∙ c.loop-place.invariant.loans;
  visits = omega (arith, c.loop-place.invariant.visits, c.in_ok-is_bare.ensures.few_visits);
  none = λ known. no_bare_more (g.S.NodeStore.nodes c.args.store.now) c.args.here.now.node.value c.loop-place.place c.index-edges-place.result (c.loop-place.invariant.none known) (edge_here c.edges-edges.result.now c.args.here.now.node.value c.loop-place.place c.index-edges-place.result (shown_edges c.args.here.now.node.value c.deref.result.now c.edges-edges.result.now c.deref.ensures c.edges-edges.ensures) (place_low c.args.here.now.node.value c.edges-edges.result.now c.loop-place.place (shown_edges c.args.here.now.node.value c.deref.result.now c.edges-edges.result.now c.deref.ensures c.edges-edges.ensures) c.loop-place-test.true) c.index-edges-place.is)
      (not_bare (g.S.NodeStore.nodes c.args.store.now) (g.S.NodeStore.nodes c.loop-place.store) c.index-edges-place.result (option_copied c.end_of.result) (end_at c.args.here.now.node.value c.loop-place.place) c.in_ok-is_bare.field-0 (c.loop-place.invariant.nodes known) (end_read c.args.here.now.node.value c.edges-edges.result.now c.loop-place.place (option_copied c.end_of.result) (shown_edges c.args.here.now.node.value c.deref.result.now c.edges-edges.result.now c.deref.ensures c.edges-edges.ensures) c.end_of.ensures) (c.in_ok-is_bare.ensures.bare (c.loop-place.invariant.known known)) c.if-branch.false);
}

pub returns-clause-bare : goal.returns-clause-bare
returns-clause-bare g c = λ known. no_bare_in (g.S.NodeStore.nodes c.args.store.now) c.args.here.now.node.value c.loop-place.place (c.loop-place.invariant.none known) (past_all c.args.here.now.node.value c.edges-edges.result.now c.loop-place.place (shown_edges c.args.here.now.node.value c.deref.result.now c.edges-edges.result.now c.deref.ensures c.edges-edges.ensures) c.loop-place-test.false)
