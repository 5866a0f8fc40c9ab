-- How bytes were asked for.
use Rattle.std.specs.Prelude.{ℕ, List, [], length, take, ◌==◌, Result, Ok, Err, if◌then◌else◌}
use Rattle.bd_io.specs.Cause.{next_count}

-- how often bytes were asked for, how often none came, also at a fault, and which came last
pub record Takes : Type 0 where
  pub count : ℕ
  pub idle : ℕ
  pub last : List ℕ

-- nothing was asked for yet
abbrev pub no_takes : Takes
no_takes = record { count = 0; idle = 0; last = [] }

-- the bytes that a take with this result gave, from what its place holds then: none at a fault
abbrev pub given_by : {E : Type 0} → Result ℕ E → List ℕ → List ℕ
given_by (Ok n) place = take n place
given_by (Err _) place = []

-- after a take that gave these bytes
abbrev pub takes_after : List ℕ → Takes → Takes
takes_after given t = record {
  count = next_count t.count;
  idle = if length given == 0 then next_count t.idle else t.idle;
  last = given;
}
