-- The calls of an object in memory, and which of them are to fail.
use Rattle.std.specs.Prelude.{ℕ, ◌+◌, ◌^◌, Bool, ◌||◌, ◌==◌, nat_le, false, List, Result, is_ok, is_err, if◌then◌else◌}
use Rattle.std.specs.List.{list_any}
use Rattle.bd_io.specs.Cause.{next_count}

-- the numbers of the calls that are to fail, how many calls there were, how many of them failed,
-- and whether the last one did
pub record PlannedCalls : Type 0 where
  pub fail : List ℕ
  pub calls : ℕ
  pub faults : ℕ
  pub last_failed : Bool

-- no call was made yet
abbrev pub planned : List ℕ → PlannedCalls
planned fail = record { fail = fail; calls = 0; faults = 0; last_failed = false }

-- the next call fails by the plan: it is listed, or the count of calls stands at a u64's last value
abbrev pub next_fails : PlannedCalls → Bool
next_fails c = nat_le (2 ^ 64) (c.calls + 1) || list_any (λ k. k == c.calls + 1) c.fail

-- after a call with this result: one more call, and one more fault where it failed
abbrev pub calls_after : {T E : Type 0} → PlannedCalls → Result T E → PlannedCalls
calls_after c result = record c {
  calls = next_count c.calls;
  faults = if is_ok result then c.faults else next_count c.faults;
  last_failed = is_err result;
}
