-- A source and a sink in memory, as their callers see them.
use Rattle.std.specs.Prelude.{ℕ, ◌-◌, Bool, ◌&&◌, ◌||◌, nat_lt, nat_le, List, length, min}
use Rattle.bd_io.specs.Plan.{PlannedCalls, next_fails}
use Rattle.bd_io.specs.Takes.{Takes}

-- the bytes that are left, the most that one take gives, the calls, how many takes gave no byte,
-- and what the last take gave
pub record MemorySource : Type 0 where
  pub left : List ℕ
  pub piece : ℕ
  pub plan : PlannedCalls
  pub idle : ℕ
  pub last : List ℕ

-- how bytes were asked for
abbrev pub takes_of : MemorySource → Takes
takes_of s = record { count = s.plan.calls; idle = s.idle; last = s.last }

-- how many bytes the next take gives, into a place of this length
abbrev pub given_count : MemorySource → ℕ → ℕ
given_count s place = min place (min s.piece (length s.left))

-- the bytes that were written, how many there is room for in all, and the calls
pub record MemorySink : Type 0 where
  pub written : List ℕ
  pub room : ℕ
  pub plan : PlannedCalls

-- how many bytes of a piece of this length the next put takes
abbrev pub taken_count : MemorySink → ℕ → ℕ
taken_count s len = min len (s.room - length s.written)

-- the next put of a piece of this length fails: by the plan, or since there is no room for a byte
abbrev pub put_fails : MemorySink → ℕ → Bool
put_fails s len = next_fails s.plan || (nat_lt 0 len && nat_le s.room (length s.written))
