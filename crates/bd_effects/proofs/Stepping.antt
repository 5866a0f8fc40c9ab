-- A flush step of a command: one from the root, or one for a graft's source.
use Rattle.std.proofs.Common.{◌≡◌, ℕ, ◌<◌, ◌≤◌, Bool, true, false, List, Some, inl, inr}
use Rattle.std.specs.Prelude.{◌↔◌, Result, Ok}
use Rattle.std.proofs.lemmas.Bool.{cases_lt}
use Rattle.bd_command.specs.declared.Command.{Command}
use Rattle.bd_message.specs.declared.fault.MapFault.{MapFault}
use Rattle.bd_message.specs.KeyMaps.{HasMapCause}
use Rattle.bd_message.proofs.Causes.{cause_weaker}
use Rattle.bd_dirs.specs.Kinds.{kind_of}
use Rattle.bd_node.specs.Meaning.{Nodes}
use Rattle.bd_node.specs.Tables.{Table}
use Rattle.bd_step.specs.Settling.{IsWornToSettle}
use Rattle.bd_step.specs.Steps.{IsWornToFlush}
use Rattle.bd_view.specs.Trees.{waiting_limit, source_of, IsWornToStep}
use Rattle.bd_view.specs.Trees.IsWornToStep.{worn_at_root, worn_at_source}

-- a step from the root that isn't without need is one where more bytes wait
pub more_waits : {E : Type 0} (r : Result Bool E) (size limit : ℕ) → (r ≡ Ok false → ⊥) → ((r ≡ Ok false) ↔ (size ≤ limit)) → limit < size
more_waits r size limit needed enough =
    elim (cases_lt limit size) [ inl many ↦ many | inr few ↦ absurd (needed (enough.1 few)) ]

-- and so is one that is made
pub made_waits : {E : Type 0} (r : Result Bool E) (size limit : ℕ) → r ≡ Ok true → ((r ≡ Ok false) ↔ (size ≤ limit)) → limit < size
made_waits r size limit is enough = more_waits r size limit (λ no. cc) enough

-- why it is refused
pub root_cause : {T : Type 0} (before now : ℕ) (last : Bool) (bad : ℕ → Type 0) (known : Type 0) (nodes : Nodes) (t : Table) (c : Command) (r : Result T MapFault) → waiting_limit c < t.size → HasMapCause before now last bad (IsWornToFlush known nodes t) r → HasMapCause before now last bad (IsWornToStep known nodes t c) r
root_cause before now last bad known nodes t c r many h =
    cause_weaker before now last bad (IsWornToFlush known nodes t) (IsWornToStep known nodes t c) (λ which worn. worn_at_root many worn) r h

-- and why one for a graft's source is
pub source_cause : {T : Type 0} (before now : ℕ) (last : Bool) (bad : ℕ → Type 0) (known : Type 0) (nodes : Nodes) (t : Table) (c : Command) (s : List ℕ) (r : Result T MapFault) → t.size ≤ waiting_limit c → source_of (kind_of c) ≡ Some s → HasMapCause before now last bad (IsWornToSettle known nodes t s) r → HasMapCause before now last bad (IsWornToStep known nodes t c) r
source_cause before now last bad known nodes t c s r few is h =
    cause_weaker before now last bad (IsWornToSettle known nodes t s) (IsWornToStep known nodes t c) (λ which worn. worn_at_source s few is worn) r h
