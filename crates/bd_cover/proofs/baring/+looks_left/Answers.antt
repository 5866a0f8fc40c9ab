use Rattle.std.proofs.Common.{rules, ℕ, ◌+◌, ◌<◌, ◌≤◌, List, drop, refl, sym, subst, ◌∙◌, Option, None, Some, arith}
use Rattle.std.specs.Prelude.{IfSome}
use Rattle.std.specs.Option.{option_copied}
use Rattle.bd_keys.specs.Keys.{IsBelowEnd}
use Rattle.bd_message.proofs.Finds.{not_both}
use Rattle.bd_node.specs.declared.node.Node.{Node}
use Rattle.bd_node.specs.Shape.{end_before}
use Rattle.bd_node.specs.Tables.{Table, IsKept}
use Rattle.bd_inner.specs.Batches.{IsLifted}
use Rattle.bd_inner.proofs.Fitting.{edge_lifted}
use Rattle.bd_cover.specs.declared.asking.Ask.{Ask}
use Rattle.bd_cover.specs.Bare.{PutsNothing, LooksLeave}
use Rattle.bd_cover.proofs.Covers.{end_read}
use Rattle.bd_cover.proofs.Looks.{edges_are, edge_read, edge_at, edge_lower}
use Rattle.bd_cover.proofs.Asks.{asks_child, asks_read}
use Rattle.bd_cover.proofs.Nothing.{looks_in, passed_more, passed_all, no_looks, puts_some, asks_some}
use Rattle.bd_cover.proofs.baring.+looks_left.Goals as goal

pub returns-then-looks-eq0-clause-looked : goal.returns-then-looks-eq0-clause-looked
returns-then-looks-eq0-clause-looked g t c = λ known depth high. no_looks (g.S.NodeStore.nodes c.args.store.now) depth c.args.ask.now c.args.looks (omega (arith, c.if-looks-eq0.true))

pub returns-then-not-puts_nothing-clause-looked : goal.returns-then-not-puts_nothing-clause-looked
returns-then-not-puts_nothing-clause-looked g t c = λ known depth high.
    puts_some (g.S.NodeStore.nodes c.args.store.now) depth c.args.ask.now c.args.looks c.in_ok-here.here.node.value (c.in_ok-here.ensures.contents known)
    (λ puts. not_both (c.puts_nothing.ensures.1 (subst (λ (n : Node). PutsNothing n c.args.ask.now.keys) (sym c.deref.ensures) puts)) c.if-not-puts_nothing.true)

pub asked-requires : goal.asked-requires
asked-requires g t c =
    subst (λ (o : Option (List ℕ)). IsLifted c.index-edges-place.result o) (sym (end_read c.in_ok-here.here.node.value c.edges-edges.result.now c.loop-place.place (option_copied c.end_of.result) (edges_are c.in_ok-here.here c.in_ok-here.here c.deref-2.result.now c.edges-edges.result.now refl c.deref-2.ensures c.edges-edges.ensures) c.end_of.ensures))
    (edge_lifted c.in_ok-here.here.node.value c.loop-place.place c.index-edges-place.result c.in_ok-here.ensures.fetched.own.shape (edge_at (g.S.NodeStore.table c.args.store.now) c.in_ok-here.here c.in_ok-here.here c.deref-2.result.now c.edges-edges.result.now c.loop-place.place c.index-edges-place.result (record { fetched = c.in_ok-here.ensures.fetched; same = refl; shown_is = c.deref-2.ensures; edges = c.edges-edges.ensures; low = c.loop-place-test.true; read = c.index-edges-place.is })))

pub loop-place-preserved-in_default : goal.loop-place-preserved-in_default
loop-place-preserved-in_default g t c = record {
  low = omega (arith, c.loop-place-test.true);
  table = c.loop-place.invariant.table;
  known = c.loop-place.invariant.known;
  nodes = c.loop-place.invariant.nodes;
  read = c.loop-place.invariant.read;
  faults = c.loop-place.invariant.faults;
  loans = c.loop-place.invariant.loans;
  fewer = c.loop-place.invariant.fewer;
  visits = c.loop-place.invariant.visits;
  passed = λ known depth high.
      passed_more (g.S.NodeStore.nodes c.args.store.now) c.args.ask.now.keys c.edges-edges.result.now c.loop-place.place c.args.looks c.loop-place.rest depth c.index-edges-place.result None c.loop-place.rest (c.loop-place.invariant.passed known depth high) (edge_read (g.S.NodeStore.table c.args.store.now) c.in_ok-here.here c.in_ok-here.here c.deref-2.result.now c.edges-edges.result.now c.loop-place.place c.index-edges-place.result (record { fetched = c.in_ok-here.ensures.fetched; same = refl; shown_is = c.deref-2.ensures; edges = c.edges-edges.ensures; low = c.loop-place-test.true; read = c.index-edges-place.is }))
      (sym c.in_default.is ∙ (asks_read c.index-edges-place.result (end_before (drop (c.loop-place.place + 1) c.edges-edges.result.now)) (option_copied c.end_of.result) c.args.ask.now.keys c.as_slice-lo.result.now (option_copied c.end_slice-hi.result) c.in_ok-below.field-0 c.in_ok-below.ensures.asked c.end_of.ensures c.as_slice-lo.ensures c.end_slice-hi.ensures)) tt (omega arith);
}

pub looks_left-requires : goal.looks_left-requires
looks_left-requires g t c =
    let kept : IsKept (g.S.NodeStore.table c.loop-place.store) c.in-Some.below.child = subst (λ (u : Table). IsKept u c.in-Some.below.child) (sym c.loop-place.invariant.table) (edge_lower (g.S.NodeStore.table c.args.store.now) c.in_ok-here.here c.in_ok-here.here c.deref-2.result.now c.edges-edges.result.now c.loop-place.place c.index-edges-place.result (record { fetched = c.in_ok-here.ensures.fetched; same = refl; shown_is = c.deref-2.ensures; edges = c.edges-edges.ensures; low = c.loop-place-test.true; read = c.index-edges-place.is }) c.in-Some.below.child (asks_child c.index-edges-place.result (end_before (drop (c.loop-place.place + 1) c.edges-edges.result.now)) c.args.ask.now.keys.lo c.args.ask.now.keys.hi c.in-Some.below (sym c.in-Some.is ∙ (asks_read c.index-edges-place.result (end_before (drop (c.loop-place.place + 1) c.edges-edges.result.now)) (option_copied c.end_of.result) c.args.ask.now.keys c.as_slice-lo.result.now (option_copied c.end_slice-hi.result) c.in_ok-below.field-0 c.in_ok-below.ensures.asked c.end_of.ensures c.as_slice-lo.ensures c.end_slice-hi.ensures)))).kept in
    let some : IsBelowEnd c.in-Some.below.keys.lo c.in-Some.below.keys.hi = subst (λ (o : Option Ask). IfSome o (λ ask. IsBelowEnd ask.keys.lo ask.keys.hi)) c.in-Some.is c.in_ok-below.ensures.some in
    search (rules, kept, some)

pub returns-in_err-less-clause-left : goal.returns-in_err-less-clause-left
returns-in_err-less-clause-left g t c = record {
  table = c.in_err-less.ensures.left.table ∙ c.loop-place.invariant.table;
  known = λ known. c.in_err-less.ensures.left.known (c.loop-place.invariant.known known);
  kept = λ known. c.in_err-less.ensures.left.kept (c.loop-place.invariant.known known) ∙ c.loop-place.invariant.nodes known;
  read = g.met.S.NodeStore.reads_both c.args.store.now c.loop-place.store c.looks_left.new.store c.loop-place.invariant.read c.in_err-less.ensures.left.read;
  same_loans = c.in_err-less.ensures.left.same_loans ∙ c.loop-place.invariant.loans;
}

pub returns-in_default-2-clause-left : goal.returns-in_default-2-clause-left
returns-in_default-2-clause-left g t c = record {
  table = c.in_ok-less.ensures.left.table ∙ c.loop-place.invariant.table;
  known = λ known. c.in_ok-less.ensures.left.known (c.loop-place.invariant.known known);
  kept = λ known. c.in_ok-less.ensures.left.kept (c.loop-place.invariant.known known) ∙ c.loop-place.invariant.nodes known;
  read = g.met.S.NodeStore.reads_both c.args.store.now c.loop-place.store c.looks_left.new.store c.loop-place.invariant.read c.in_ok-less.ensures.left.read;
  same_loans = c.in_ok-less.ensures.left.same_loans ∙ c.loop-place.invariant.loans;
}

pub returns-in_default-2-clause-looked : goal.returns-in_default-2-clause-looked
returns-in_default-2-clause-looked g t c = λ known depth high.
    asks_some (g.S.NodeStore.nodes c.args.store.now) depth c.args.ask.now c.args.looks c.in_ok-here.here.node.value c.edges-edges.result.now c.loop-place.place c.loop-place.rest c.index-edges-place.result c.in-Some.below (c.in_ok-here.ensures.contents known) (edges_are c.in_ok-here.here c.in_ok-here.here c.deref-2.result.now c.edges-edges.result.now refl c.deref-2.ensures c.edges-edges.ensures) high (omega (arith, c.loop-place.invariant.fewer)) (c.loop-place.invariant.passed known) (edge_read (g.S.NodeStore.table c.args.store.now) c.in_ok-here.here c.in_ok-here.here c.deref-2.result.now c.edges-edges.result.now c.loop-place.place c.index-edges-place.result (record { fetched = c.in_ok-here.ensures.fetched; same = refl; shown_is = c.deref-2.ensures; edges = c.edges-edges.ensures; low = c.loop-place-test.true; read = c.index-edges-place.is })) (sym c.in-Some.is ∙ (asks_read c.index-edges-place.result (end_before (drop (c.loop-place.place + 1) c.edges-edges.result.now)) (option_copied c.end_of.result) c.args.ask.now.keys c.as_slice-lo.result.now (option_copied c.end_slice-hi.result) c.in_ok-below.field-0 c.in_ok-below.ensures.asked c.end_of.ensures c.as_slice-lo.ensures c.end_slice-hi.ensures))
    (λ d more. looks_in (g.S.NodeStore.nodes c.loop-place.store) (g.S.NodeStore.nodes c.args.store.now) d c.in-Some.below c.loop-place.rest c.in_ok-less.field-0 None (c.loop-place.invariant.nodes known) c.in_default-2.is (c.in_ok-less.ensures.looked (c.loop-place.invariant.known known) d more)) c.loop-place.invariant.fewer

pub loop-place-preserved : goal.loop-place-preserved
loop-place-preserved g t c = record {
  low = omega (arith, c.loop-place-test.true);
  table = c.in_ok-less.ensures.left.table ∙ c.loop-place.invariant.table;
  known = λ known. c.in_ok-less.ensures.left.known (c.loop-place.invariant.known known);
  nodes = λ known. c.in_ok-less.ensures.left.kept (c.loop-place.invariant.known known) ∙ c.loop-place.invariant.nodes known;
  read = g.met.S.NodeStore.reads_both c.args.store.now c.loop-place.store c.looks_left.new.store c.loop-place.invariant.read c.in_ok-less.ensures.left.read;
  faults = c.in_ok-less.ensures.cause.kept ∙ c.loop-place.invariant.faults;
  loans = c.in_ok-less.ensures.left.same_loans ∙ c.loop-place.invariant.loans;
  fewer = (let less : c.in-Some-2.less < c.loop-place.rest = subst (λ (o : Option ℕ). IfSome o (λ rest. rest < c.loop-place.rest)) c.in-Some-2.is c.in_ok-less.ensures.fewer in omega (arith, c.loop-place.invariant.fewer));
  visits = (let visits : g.S.NodeStore.visit_count c.looks_left.new.store + c.in-Some-2.less ≤ g.S.NodeStore.visit_count c.loop-place.store + c.loop-place.rest = subst (λ (o : Option ℕ). IfSome o (λ rest. g.S.NodeStore.visit_count c.looks_left.new.store + rest ≤ g.S.NodeStore.visit_count c.loop-place.store + c.loop-place.rest)) c.in-Some-2.is c.in_ok-less.ensures.left_visits in omega (arith, c.loop-place.invariant.visits));
  passed = λ known depth high.
      (let left : LooksLeave (g.S.NodeStore.nodes c.args.store.now) depth c.in-Some.below c.loop-place.rest (Some c.in-Some-2.less) = looks_in (g.S.NodeStore.nodes c.loop-place.store) (g.S.NodeStore.nodes c.args.store.now) depth c.in-Some.below c.loop-place.rest c.in_ok-less.field-0 (Some c.in-Some-2.less) (c.loop-place.invariant.nodes known) c.in-Some-2.is (c.in_ok-less.ensures.looked (c.loop-place.invariant.known known) depth (omega (arith, c.loop-place.invariant.fewer))) in
      passed_more (g.S.NodeStore.nodes c.args.store.now) c.args.ask.now.keys c.edges-edges.result.now c.loop-place.place c.args.looks c.loop-place.rest depth c.index-edges-place.result (Some c.in-Some.below) c.in-Some-2.less (c.loop-place.invariant.passed known depth high) (edge_read (g.S.NodeStore.table c.args.store.now) c.in_ok-here.here c.in_ok-here.here c.deref-2.result.now c.edges-edges.result.now c.loop-place.place c.index-edges-place.result (record { fetched = c.in_ok-here.ensures.fetched; same = refl; shown_is = c.deref-2.ensures; edges = c.edges-edges.ensures; low = c.loop-place-test.true; read = c.index-edges-place.is })) (sym c.in-Some.is ∙ (asks_read c.index-edges-place.result (end_before (drop (c.loop-place.place + 1) c.edges-edges.result.now)) (option_copied c.end_of.result) c.args.ask.now.keys c.as_slice-lo.result.now (option_copied c.end_slice-hi.result) c.in_ok-below.field-0 c.in_ok-below.ensures.asked c.end_of.ensures c.as_slice-lo.ensures c.end_slice-hi.ensures)) left.0 left.1);
}

pub returns-clause-looked : goal.returns-clause-looked
returns-clause-looked g t c = λ known depth high.
    passed_all (g.S.NodeStore.nodes c.args.store.now) depth c.args.ask.now c.args.looks c.in_ok-here.here.node.value c.edges-edges.result.now c.loop-place.place c.loop-place.rest (c.in_ok-here.ensures.contents known) (edges_are c.in_ok-here.here c.in_ok-here.here c.deref-2.result.now c.edges-edges.result.now refl c.deref-2.ensures c.edges-edges.ensures) high (omega (arith, c.loop-place.invariant.fewer)) (c.loop-place.invariant.passed known) c.loop-place-test.false
    (subst (λ (n : Node). PutsNothing n c.args.ask.now.keys) c.deref.ensures (c.puts_nothing.ensures.0 c.if-not-puts_nothing.false))
