-- How what calls leave, and how they fail, goes on over several calls.
use Rattle.std.proofs.Common.{◌∙◌}
use Rattle.bd_device.specs.Moments.{Nothing}
use Rattle.bd_device.specs.Device.{Stays, OnlyReads}
use Rattle.bd_device.specs.declared.device.Device.{Ghosts}
use Rattle.bd_device.proofs.Moments.{goes_on}

-- two calls after each other
pub stays_then : {D : Type 0} {g : Ghosts D} {a b c : D} → Stays g a b → Stays g b c → Stays g a c
stays_then p q = record {
  count = q.count ∙ p.count;
  same_name = λ name was. q.same_name name (p.same_name name was);
  same_loans = q.same_loans ∙ p.same_loans;
}

-- two calls that write nothing
pub reads_then : {D : Type 0} {g : Ghosts D} {a b c : D} → OnlyReads g a b → OnlyReads g b c → OnlyReads g a c
reads_then p q = record {
  kept = q.kept ∙ p.kept;
  count = q.count ∙ p.count;
  write_faults = q.write_faults ∙ p.write_faults;
  time = goes_on Nothing Nothing p.time q.time (λ image none. none);
  same_name = λ name was. q.same_name name (p.same_name name was);
  same_loans = q.same_loans ∙ p.same_loans;
}

-- what calls leave that write nothing all calls leave
pub reads_stay : {D : Type 0} {g : Ghosts D} {a b : D} → OnlyReads g a b → Stays g a b
reads_stay p = record { count = p.count; same_name = p.same_name; same_loans = p.same_loans }

pub ruleset calls = (stays_then, reads_then)
