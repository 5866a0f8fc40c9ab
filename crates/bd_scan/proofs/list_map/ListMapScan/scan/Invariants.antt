use Rattle.std.proofs.Common.{◌≡◌, ◌≤◌, ◌-◌, length}
use Rattle.std.specs.FinMap.{get}
use Rattle.bd_scan.specs.Scans.{AreNext}
use Rattle.bd_scan.proofs.Rows.{low_after}
use Rattle.bd_scan.proofs.list_map.ListMapScan.scan.Given as goal

abbrev pub invariant-loop-alloc : goal.invariant-loop-alloc
invariant-loop-alloc l = record {
  same : l.self ≡ l.initial.self;
  each : AreNext (λ k. get l.self k) l.from l.within l.found.items;
  low : l.low.items ≡ low_after l.from l.found.items;
  few : length l.found.items ≤ l.most;
}

abbrev pub decreases-loop-alloc : goal.decreases-loop-alloc
decreases-loop-alloc l = l.most - length l.found.items
