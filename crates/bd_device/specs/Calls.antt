-- How a device counts its calls.
use Rattle.std.specs.Prelude.{ℕ, Result, false, is_ok, if◌then◌else◌}
use Rattle.bd_io.specs.Cause.{next_count}
use Rattle.bd_device.specs.declared.counts.Counts.{Counts}

-- a count of faults after one call: one more exactly where it failed
abbrev pub faults_after : {T E : Type 0} → ℕ → Result T E → ℕ
faults_after before result = if is_ok result then before else next_count before

-- no call was made yet
abbrev pub no_calls : Counts
no_calls = record { calls = 0; faults = 0; write_faults = 0; last_failed = false }
