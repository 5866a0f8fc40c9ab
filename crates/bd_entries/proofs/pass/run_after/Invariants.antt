use Rattle.std.proofs.Common.{◌≡◌, ◌≤◌, ◌+◌, ℕ, List, [], drop}
use Rattle.bd_message.specs.KeyMaps.{At}
use Rattle.bd_scan.specs.Scans.{AreNext}
use Rattle.bd_entries.specs.Fronts.{key_past}
use Rattle.bd_entries.specs.Passes.{IsPassed}
use Rattle.bd_entries.proofs.Passing.{IsRunning}
use Rattle.bd_entries.proofs.pass.run_after.Given as goal

abbrev pub invariant-loop-each : goal.invariant-loop-each
invariant-loop-each l = record {
  few : l.pass.keys ≤ l.most;
  counted : l.pass.keys ≡ l.initial.pass.keys + l.each-index;
  running : (at : At) (low : List ℕ) → 1 ≤ l.most → IsPassed l.has_modes at low l.initial.pass → AreNext at low [] l.found
      → IsRunning l.has_modes at (key_past low l.found) (drop l.each-index l.found) l.pass;
}
