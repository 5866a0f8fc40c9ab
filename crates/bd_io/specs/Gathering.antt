-- A sink that gathers bytes over a writer of std, as its callers see it.
use Rattle.std.specs.Prelude.{ℕ}

-- how often it has failed, and how many bytes it keeps back
pub record GatheringSink : Type 0 where
  pub faults : ℕ
  pub waiting : ℕ
