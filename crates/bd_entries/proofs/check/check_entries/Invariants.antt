use Rattle.std.proofs.Common.{◌≡◌, ◌≤◌, ◌-◌}
use Rattle.bd_message.specs.Reads.{IsLeft}
use Rattle.bd_entries.specs.Passes.{IsPassed}
use Rattle.bd_entries.proofs.check.check_entries.Given as goal

abbrev pub invariant-runs : goal.invariant-runs
invariant-runs g l = record {
  left : IsLeft g.M.KeyMap l.initial.m l.m;
  faults : g.M.KeyMap.fault_count l.m ≡ g.M.KeyMap.fault_count l.initial.m;
  few : l.pass.keys ≤ l.most;
  passed : g.M.KeyMap.is_known l.initial.m → IsPassed l.has_modes (g.M.KeyMap.has l.initial.m) l.from.items l.pass;
}

abbrev pub decreases-runs : goal.decreases-runs
decreases-runs g l = l.most - l.pass.keys
