use Rattle.std.proofs.Common.{ℕ, refl, sym, subst, ◌∙◌, ◌≤◌, List, length, arith}
use Rattle.bd_keys.specs.Keys.{Begins}
use Rattle.bd_message.proofs.Finds.{not_both}
use Rattle.bd_node.specs.Meaning.{Nodes, at}
use Rattle.bd_node.specs.Tables.{Table, IsSound}
use Rattle.bd_scan.specs.Scans.{IsScan}
use Rattle.bd_scan.specs.declared.scan.Found.{Found}
use Rattle.bd_query.specs.Stretches.{IsTurn, PassesTo, way_limit}
use Rattle.bd_query.specs.Asks.{AreVisitsOfWay, AreVisitsOfPart}
use Rattle.bd_query.proofs.AskLemmas.{IsSearching, searching_begun, searched_last, searched_none, searched_part, searched_along, on_err}
use Rattle.bd_query.proofs.ScanLemmas.{alone_scan, none_scan, turned_run, found_few}
use Rattle.bd_query.proofs.SearchLemmas.{IsLow, turned_ways, low_first, low_other, turned_fewer, turned_low, turned_past, turned_found}
use Rattle.bd_query.proofs.search.scan.Goals as goal

pub turns-init : goal.turns-init
turns-init g c = record {
  table = refl;
  known = λ k. k;
  nodes = λ k. refl;
  read = g.met.S.NodeStore.reads_none c.args.store.now;
  faults = refl;
  loans = refl;
  low = λ known sound.
      subst (λ (k : List ℕ). IsLow (at (g.S.NodeStore.nodes c.args.store.now) c.args.root) c.args.from.now c.args.within.now k) (sym c.in_ok-low.ensures.items)
      (low_first (at (g.S.NodeStore.nodes c.args.store.now) c.args.root) c.args.from.now c.args.within.now c.greater.result.now c.greater.ensures.first c.greater.ensures.second c.greater.ensures.least);
  ways = λ known sound.
      subst (λ (k : List ℕ). IsSearching (g.S.NodeStore.nodes c.args.store.now) c.args.root c.args.from.now k (g.S.NodeStore.visit_count c.args.store.now) (g.S.NodeStore.visit_count c.args.store.now)) (sym c.in_ok-low.ensures.items)
      (searching_begun (g.S.NodeStore.nodes c.args.store.now) c.args.root c.args.from.now c.greater.result.now (g.S.NodeStore.visit_count c.args.store.now) c.greater.ensures.first);
}

pub returns-in-Passed-None-clause-found : goal.returns-in-Passed-None-clause-found
returns-in-Passed-None-clause-found g c known sound =
    let nodes : Nodes = g.S.NodeStore.nodes c.args.store.now in
    let inv = c.turns.invariant in
    let still : IsSound (g.S.NodeStore.nodes c.turns.store) (g.S.NodeStore.table c.turns.store) =
    subst (λ (n : Nodes). IsSound n (g.S.NodeStore.table c.turns.store)) (sym (inv.nodes known)) (subst (λ (u : Table). IsSound nodes u) (sym inv.table) sound) in
    none_scan (at nodes c.args.root) c.args.from.now c.args.within.now c.new.result.items c.new.ensures.items
    (turned_past nodes c.args.root c.args.from.now c.args.within.now c.turns.low.items c.as_slice-in-turns.result.now c.in_ok-turn.turn c.in-Passed-None.end c.as_slice-in-turns.ensures.value c.in-Passed-None.is c.in-Passed-None.end-is
    (subst (λ (n : Nodes). IsTurn (at n c.args.root) c.as_slice-in-turns.result.now c.in_ok-turn.turn) (inv.nodes known) (c.in_ok-turn.ensures.turn (inv.known known) still)) (inv.low known sound))

pub returns-in-Passed-None-clause-few : goal.returns-in-Passed-None-clause-few
returns-in-Passed-None-clause-few g c = subst (λ (fs : List Found). length fs ≤ c.args.most) (sym c.new.ensures.items) (omega arith)

pub turns-smaller : goal.turns-smaller
turns-smaller g c =
    let inv = c.turns.invariant in
    turned_fewer c.args.from.now c.args.within.now c.turns.low.items c.as_slice-in-turns.result.now c.in-Passed-Some.end c.as_slice-in-Passed-Some.result.now c.in_ok-low-in-Passed-Some.low.items (way_limit ((g.S.NodeStore.table c.args.store.now).level c.args.root)) c.in_ok-turn.turn c.in-Passed-Some.end'
    (record {
      slice_is = c.as_slice-in-turns.ensures.value;
      passes = subst (λ (u : Table). PassesTo c.as_slice-in-turns.result.now (way_limit (u.level c.args.root)) c.in_ok-turn.turn) inv.table c.in_ok-turn.ensures.passes;
      bytes = c.in_ok-turn.ensures.bytes;
    }) c.in-Passed-Some.is c.in-Passed-Some.end-is c.as_slice-in-Passed-Some.ensures c.in_ok-low-in-Passed-Some.ensures c.bytes_of-bytes.ensures.bytes

pub turns-preserved : goal.turns-preserved
turns-preserved g c =
    let nodes : Nodes = g.S.NodeStore.nodes c.args.store.now in
    let inv = c.turns.invariant in
    record {
      table = c.in_ok-turn.ensures.left.table ∙ inv.table;
      known = λ k. c.in_ok-turn.ensures.left.known (inv.known k);
      nodes = λ k. c.in_ok-turn.ensures.left.kept (inv.known k) ∙ inv.nodes k;
      read = g.met.S.NodeStore.reads_both c.args.store.now c.turns.store c.turn_at.new.store inv.read c.in_ok-turn.ensures.left.read;
      faults = c.in_ok-turn.ensures.cause.kept ∙ inv.faults;
      loans = c.in_ok-turn.ensures.left.same_loans ∙ inv.loans;
      low = λ known sound.
          let still : IsSound (g.S.NodeStore.nodes c.turns.store) (g.S.NodeStore.table c.turns.store) =
          subst (λ (n : Nodes). IsSound n (g.S.NodeStore.table c.turns.store)) (sym (inv.nodes known)) (subst (λ (u : Table). IsSound nodes u) (sym inv.table) sound) in
          turned_low nodes c.args.root c.args.from.now c.args.within.now c.turns.low.items c.as_slice-in-turns.result.now c.in-Passed-Some.end c.in_ok-low-in-Passed-Some.low.items (way_limit ((g.S.NodeStore.table c.args.store.now).level c.args.root)) c.in_ok-turn.turn c.in-Passed-Some.end'
          (record {
            slice_is = c.as_slice-in-turns.ensures.value;
            passes = subst (λ (u : Table). PassesTo c.as_slice-in-turns.result.now (way_limit (u.level c.args.root)) c.in_ok-turn.turn) inv.table c.in_ok-turn.ensures.passes;
            bytes = c.in_ok-turn.ensures.bytes;
          }) c.in-Passed-Some.is c.in-Passed-Some.end-is c.in_ok-low-in-Passed-Some.ensures
          (subst (λ (n : Nodes). IsTurn (at n c.args.root) c.as_slice-in-turns.result.now c.in_ok-turn.turn) (inv.nodes known) (c.in_ok-turn.ensures.turn (inv.known known) still)) (inv.low known sound);
      ways = λ known sound.
          let still : IsSound (g.S.NodeStore.nodes c.turns.store) (g.S.NodeStore.table c.turns.store) =
          subst (λ (n : Nodes). IsSound n (g.S.NodeStore.table c.turns.store)) (sym (inv.nodes known)) (subst (λ (u : Table). IsSound nodes u) (sym inv.table) sound) in
          turned_ways nodes c.args.root c.args.from.now c.args.within.now c.turns.low.items c.as_slice-in-turns.result.now c.in-Passed-Some.end c.in_ok-low-in-Passed-Some.low.items (way_limit ((g.S.NodeStore.table c.args.store.now).level c.args.root)) c.in_ok-turn.turn c.in-Passed-Some.end' (g.S.NodeStore.visit_count c.args.store.now) (g.S.NodeStore.visit_count c.turns.store) (g.S.NodeStore.visit_count c.turn_at.new.store)
          (record {
            slice_is = c.as_slice-in-turns.ensures.value;
            passes = subst (λ (u : Table). PassesTo c.as_slice-in-turns.result.now (way_limit (u.level c.args.root)) c.in_ok-turn.turn) inv.table c.in_ok-turn.ensures.passes;
            bytes = c.in_ok-turn.ensures.bytes;
          }) c.in-Passed-Some.is c.in-Passed-Some.end-is c.in_ok-low-in-Passed-Some.ensures (inv.ways known sound)
          (subst (λ (n : Nodes). AreVisitsOfWay n c.args.root c.as_slice-in-turns.result.now (g.S.NodeStore.visit_count c.turns.store) (g.S.NodeStore.visit_count c.turn_at.new.store)) (inv.nodes known) (c.in_ok-turn.ensures.way (inv.known known) still));
    }

pub returns-clause-found : goal.returns-clause-found
returns-clause-found g c known sound =
    let inv = c.turns.invariant in
    none_scan (at (g.S.NodeStore.nodes c.args.store.now) c.args.root) c.args.from.now c.args.within.now c.new-2.result.items c.new-2.ensures.items
    (low_other (at (g.S.NodeStore.nodes c.args.store.now) c.args.root) c.args.from.now c.args.within.now c.turns.low.items (inv.low known sound)
    (λ starts. not_both (c.starts.ensures.1 (subst (λ (k : List ℕ). Begins k c.args.within.now) (sym c.as_slice.ensures.value) starts)) c.turns-test.false))

pub returns-clause-few : goal.returns-clause-few
returns-clause-few g c = subst (λ (fs : List Found). length fs ≤ c.args.most) (sym c.new-2.ensures.items) (omega arith)

pub returns-in-Found-clause-ways : goal.returns-in-Found-clause-ways
returns-in-Found-clause-ways g c known sound =
    let nodes : Nodes = g.S.NodeStore.nodes c.args.store.now in
    let inv = c.turns.invariant in
    let still : IsSound (g.S.NodeStore.nodes c.turns.store) (g.S.NodeStore.table c.turns.store) =
    subst (λ (n : Nodes). IsSound n (g.S.NodeStore.table c.turns.store)) (sym (inv.nodes known)) (subst (λ (u : Table). IsSound nodes u) (sym inv.table) sound) in
    searched_last nodes c.args.root c.args.from.now c.turns.low.items c.as_slice-in-turns.result.now (g.S.NodeStore.visit_count c.args.store.now) (g.S.NodeStore.visit_count c.turns.store) (g.S.NodeStore.visit_count c.turn_at.new.store) c.as_slice-in-turns.ensures.value (inv.ways known sound)
    (subst (λ (n : Nodes). AreVisitsOfWay n c.args.root c.as_slice-in-turns.result.now (g.S.NodeStore.visit_count c.turns.store) (g.S.NodeStore.visit_count c.turn_at.new.store)) (inv.nodes known) (c.in_ok-turn.ensures.way (inv.known known) still))

pub returns-in-Found-clause-found : goal.returns-in-Found-clause-found
returns-in-Found-clause-found g c known sound =
    let nodes : Nodes = g.S.NodeStore.nodes c.args.store.now in
    let inv = c.turns.invariant in
    let still : IsSound (g.S.NodeStore.nodes c.turns.store) (g.S.NodeStore.table c.turns.store) =
    subst (λ (n : Nodes). IsSound n (g.S.NodeStore.table c.turns.store)) (sym (inv.nodes known)) (subst (λ (u : Table). IsSound nodes u) (sym inv.table) sound) in
    subst (λ (fs : List Found). IsScan (at nodes c.args.root) c.args.from.now c.args.within.now fs) (sym c.in_ok-alone-in-Found.ensures)
    (alone_scan (at nodes c.args.root) c.args.from.now c.args.within.now c.turns.low.items c.in-Found.value
    (turned_found nodes c.args.root c.args.from.now c.args.within.now c.turns.low.items c.as_slice-in-turns.result.now c.in-Found.value c.in_ok-turn.turn c.as_slice-in-turns.ensures.value c.in-Found.is
    (subst (λ (n : Nodes). IsTurn (at n c.args.root) c.as_slice-in-turns.result.now c.in_ok-turn.turn) (inv.nodes known) (c.in_ok-turn.ensures.turn (inv.known known) still)) (inv.low known sound)
    (subst (λ (k : List ℕ). Begins k c.args.within.now) (c.as_slice.ensures.value ∙ sym c.as_slice-in-turns.ensures.value) (c.starts.ensures.0 c.turns-test.true))))

pub returns-in-Found-clause-few : goal.returns-in-Found-clause-few
returns-in-Found-clause-few g c = subst (λ (fs : List Found). length fs ≤ c.args.most) (sym c.in_ok-alone-in-Found.ensures) c.requires.some

pub returns-in-Passed-None-clause-ways : goal.returns-in-Passed-None-clause-ways
returns-in-Passed-None-clause-ways g c known sound =
    let nodes : Nodes = g.S.NodeStore.nodes c.args.store.now in
    let inv = c.turns.invariant in
    let still : IsSound (g.S.NodeStore.nodes c.turns.store) (g.S.NodeStore.table c.turns.store) =
    subst (λ (n : Nodes). IsSound n (g.S.NodeStore.table c.turns.store)) (sym (inv.nodes known)) (subst (λ (u : Table). IsSound nodes u) (sym inv.table) sound) in
    searched_last nodes c.args.root c.args.from.now c.turns.low.items c.as_slice-in-turns.result.now (g.S.NodeStore.visit_count c.args.store.now) (g.S.NodeStore.visit_count c.turns.store) (g.S.NodeStore.visit_count c.turn_at.new.store) c.as_slice-in-turns.ensures.value (inv.ways known sound)
    (subst (λ (n : Nodes). AreVisitsOfWay n c.args.root c.as_slice-in-turns.result.now (g.S.NodeStore.visit_count c.turns.store) (g.S.NodeStore.visit_count c.turn_at.new.store)) (inv.nodes known) (c.in_ok-turn.ensures.way (inv.known known) still))

pub returns-clause-ways : goal.returns-clause-ways
returns-clause-ways g c known sound = (c.turns.invariant.ways known sound).visits

pub returns-in-Run-clause-found : goal.returns-in-Run-clause-found
returns-in-Run-clause-found g c known sound =
    let nodes : Nodes = g.S.NodeStore.nodes c.args.store.now in
    let inv = c.turns.invariant in
    let still : IsSound (g.S.NodeStore.nodes c.turns.store) (g.S.NodeStore.table c.turns.store) =
    subst (λ (n : Nodes). IsSound n (g.S.NodeStore.table c.turns.store)) (sym (inv.nodes known)) (subst (λ (u : Table). IsSound nodes u) (sym inv.table) sound) in
    subst (λ (fs : List Found). IsScan (at nodes c.args.root) c.args.from.now c.args.within.now fs) (sym c.in_ok-beginning-in-Run.ensures)
    (turned_run nodes c.args.root c.args.most c.args.from.now c.args.within.now c.turns.low.items c.as_slice-in-turns.result.now c.in_ok-turn.turn c.in-Run.entries c.requires.some c.as_slice-in-turns.ensures.value c.in-Run.is
    (subst (λ (n : Nodes). IsTurn (at n c.args.root) c.as_slice-in-turns.result.now c.in_ok-turn.turn) (inv.nodes known) (c.in_ok-turn.ensures.turn (inv.known known) still)) (inv.low known sound))

pub returns-in-Run-clause-few : goal.returns-in-Run-clause-few
returns-in-Run-clause-few g c =
    subst (λ (fs : List Found). length fs ≤ c.args.most) (sym c.in_ok-beginning-in-Run.ensures) (found_few c.args.most c.args.within.now c.in-Run.entries)

pub returns-in-Run-clause-ways : goal.returns-in-Run-clause-ways
returns-in-Run-clause-ways g c known sound =
    let nodes : Nodes = g.S.NodeStore.nodes c.args.store.now in
    let inv = c.turns.invariant in
    let still : IsSound (g.S.NodeStore.nodes c.turns.store) (g.S.NodeStore.table c.turns.store) =
    subst (λ (n : Nodes). IsSound n (g.S.NodeStore.table c.turns.store)) (sym (inv.nodes known)) (subst (λ (u : Table). IsSound nodes u) (sym inv.table) sound) in
    searched_last nodes c.args.root c.args.from.now c.turns.low.items c.as_slice-in-turns.result.now (g.S.NodeStore.visit_count c.args.store.now) (g.S.NodeStore.visit_count c.turns.store) (g.S.NodeStore.visit_count c.turn_at.new.store) c.as_slice-in-turns.ensures.value (inv.ways known sound)
    (subst (λ (n : Nodes). AreVisitsOfWay n c.args.root c.as_slice-in-turns.result.now (g.S.NodeStore.visit_count c.turns.store) (g.S.NodeStore.visit_count c.turn_at.new.store)) (inv.nodes known) (c.in_ok-turn.ensures.way (inv.known known) still))

pub returns-in_err-low-clause-err_ways : goal.returns-in_err-low-clause-err_ways
returns-in_err-low-clause-err_ways g c known sound = on_err c.from_residual.result (searched_none (g.S.NodeStore.nodes c.args.store.now) c.args.root c.args.from.now (g.S.NodeStore.visit_count c.args.store.now))

pub returns-in_err-turn-clause-err_ways : goal.returns-in_err-turn-clause-err_ways
returns-in_err-turn-clause-err_ways g c known sound =
    let nodes : Nodes = g.S.NodeStore.nodes c.args.store.now in
    let inv = c.turns.invariant in
    let still : IsSound (g.S.NodeStore.nodes c.turns.store) (g.S.NodeStore.table c.turns.store) =
    subst (λ (n : Nodes). IsSound n (g.S.NodeStore.table c.turns.store)) (sym (inv.nodes known)) (subst (λ (u : Table). IsSound nodes u) (sym inv.table) sound) in
    on_err c.from_residual-in_err-turn.result (searched_part nodes c.args.root c.args.from.now c.turns.low.items c.as_slice-in-turns.result.now (g.S.NodeStore.visit_count c.args.store.now) (g.S.NodeStore.visit_count c.turns.store) (g.S.NodeStore.visit_count c.turn_at.new.store) c.as_slice-in-turns.ensures.value (inv.ways known sound)
    (subst (λ (n : Nodes). AreVisitsOfPart n c.args.root c.as_slice-in-turns.result.now (g.S.NodeStore.visit_count c.turns.store) (g.S.NodeStore.visit_count c.turn_at.new.store)) (inv.nodes known) (c.in_err-turn.ensures.err_way (inv.known known) still)))

pub returns-in_err-alone-in-Found-clause-err_ways : goal.returns-in_err-alone-in-Found-clause-err_ways
returns-in_err-alone-in-Found-clause-err_ways g c known sound =
    let nodes : Nodes = g.S.NodeStore.nodes c.args.store.now in
    let inv = c.turns.invariant in
    let still : IsSound (g.S.NodeStore.nodes c.turns.store) (g.S.NodeStore.table c.turns.store) =
    subst (λ (n : Nodes). IsSound n (g.S.NodeStore.table c.turns.store)) (sym (inv.nodes known)) (subst (λ (u : Table). IsSound nodes u) (sym inv.table) sound) in
    on_err c.from_residual-in_err-alone-in-Found.result (searched_along nodes c.args.root c.args.from.now c.turns.low.items c.as_slice-in-turns.result.now (g.S.NodeStore.visit_count c.args.store.now) (g.S.NodeStore.visit_count c.turns.store) (g.S.NodeStore.visit_count c.turn_at.new.store) c.as_slice-in-turns.ensures.value (inv.ways known sound)
    (subst (λ (n : Nodes). AreVisitsOfWay n c.args.root c.as_slice-in-turns.result.now (g.S.NodeStore.visit_count c.turns.store) (g.S.NodeStore.visit_count c.turn_at.new.store)) (inv.nodes known) (c.in_ok-turn.ensures.way (inv.known known) still)))

pub returns-in_err-beginning-in-Run-clause-err_ways : goal.returns-in_err-beginning-in-Run-clause-err_ways
returns-in_err-beginning-in-Run-clause-err_ways g c known sound =
    let nodes : Nodes = g.S.NodeStore.nodes c.args.store.now in
    let inv = c.turns.invariant in
    let still : IsSound (g.S.NodeStore.nodes c.turns.store) (g.S.NodeStore.table c.turns.store) =
    subst (λ (n : Nodes). IsSound n (g.S.NodeStore.table c.turns.store)) (sym (inv.nodes known)) (subst (λ (u : Table). IsSound nodes u) (sym inv.table) sound) in
    on_err c.from_residual-in_err-beginning-in-Run.result (searched_along nodes c.args.root c.args.from.now c.turns.low.items c.as_slice-in-turns.result.now (g.S.NodeStore.visit_count c.args.store.now) (g.S.NodeStore.visit_count c.turns.store) (g.S.NodeStore.visit_count c.turn_at.new.store) c.as_slice-in-turns.ensures.value (inv.ways known sound)
    (subst (λ (n : Nodes). AreVisitsOfWay n c.args.root c.as_slice-in-turns.result.now (g.S.NodeStore.visit_count c.turns.store) (g.S.NodeStore.visit_count c.turn_at.new.store)) (inv.nodes known) (c.in_ok-turn.ensures.way (inv.known known) still)))

pub returns-in_err-low-in-Passed-Some-clause-err_ways : goal.returns-in_err-low-in-Passed-Some-clause-err_ways
returns-in_err-low-in-Passed-Some-clause-err_ways g c known sound =
    let nodes : Nodes = g.S.NodeStore.nodes c.args.store.now in
    let inv = c.turns.invariant in
    let still : IsSound (g.S.NodeStore.nodes c.turns.store) (g.S.NodeStore.table c.turns.store) =
    subst (λ (n : Nodes). IsSound n (g.S.NodeStore.table c.turns.store)) (sym (inv.nodes known)) (subst (λ (u : Table). IsSound nodes u) (sym inv.table) sound) in
    on_err c.from_residual-in_err-low-in-Passed-Some.result (searched_along nodes c.args.root c.args.from.now c.turns.low.items c.as_slice-in-turns.result.now (g.S.NodeStore.visit_count c.args.store.now) (g.S.NodeStore.visit_count c.turns.store) (g.S.NodeStore.visit_count c.turn_at.new.store) c.as_slice-in-turns.ensures.value (inv.ways known sound)
    (subst (λ (n : Nodes). AreVisitsOfWay n c.args.root c.as_slice-in-turns.result.now (g.S.NodeStore.visit_count c.turns.store) (g.S.NodeStore.visit_count c.turn_at.new.store)) (inv.nodes known) (c.in_ok-turn.ensures.way (inv.known known) still)))
