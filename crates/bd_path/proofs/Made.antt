-- Steps that were made, and counters that are worn for them.
use Rattle.std.proofs.Common.{ℕ, Bool, ◌+◌, ◌^◌, ◌≤◌, length, refl, arith, inl, inr, Result, Ok, Err}
use Rattle.std.specs.Prelude.{OnOk}
use Rattle.bd_message.specs.declared.fault.Counter.TheVariants.{NextId, Level}
use Rattle.bd_message.specs.declared.fault.MapFault.{MapFault}
use Rattle.bd_message.specs.declared.fault.MapFault.TheVariants.{Worn}
use Rattle.bd_message.specs.KeyMaps.{HasMapCause}
use Rattle.bd_message.proofs.Causes.{cause_weaker}
use Rattle.bd_node.specs.declared.node.Step.{Step}
use Rattle.bd_node.specs.Meaning.{Nodes}
use Rattle.bd_node.specs.Tables.{Table}
use Rattle.bd_node.specs.Steps.{IsTableAfter, IsCommitted, IsWornBy}
use Rattle.bd_path.specs.Made.{IsMadeBy, IsWornFor}

pub on_made : {T E : Type 0} (IsOne : Step → Type 0) (nodes : Nodes) (t : Table) (step : Step) (new : Nodes) (u : Table) (r : Result T E) → IsOne step → OnOk r (IsTableAfter t step u) → OnOk r (IsCommitted nodes t step new u) → OnOk r (IsMadeBy IsOne nodes t new u)
on_made IsOne nodes t step new u (Ok x) is after committed = record { step = step; is = is; after = after; committed = committed }
on_made IsOne nodes t step new u (Err e) is after committed = tt

-- the commit's cause is one of the call
pub worn_of : {T : Type 0} (before now : ℕ) (last : Bool) (bad : ℕ → Type 0) (IsOne : Step → Type 0) (high : Type 0) (t : Table) (step : Step) (r : Result T MapFault) → IsOne step → HasMapCause before now last bad (IsWornBy t step) r → HasMapCause before now last bad (IsWornFor IsOne high t) r
worn_of before now last bad IsOne high t step r is cause =
    cause_weaker before now last bad (IsWornBy t step) (IsWornFor IsOne high t) (λ counter worn. inl (record { step = step; is = is; worn = worn })) r cause

-- there are no ids for a step
pub no_ids : {T : Type 0} (count : ℕ) (last : Bool) (bad : ℕ → Type 0) (IsOne : Step → Type 0) (high : Type 0) (t : Table) (step : Step) → IsOne step → 2 ^ 64 ≤ t.next + length step.made → HasMapCause {T = T} count count last bad (IsWornFor IsOne high t) (Err (Worn NextId))
no_ids count last bad IsOne high t step is full = record { later = omega arith; kept = tt; stays = refl; failed = inl (record { step = step; is = is; worn = full }) }

-- a node can't rise
pub too_high : {T : Type 0} (count : ℕ) (last : Bool) (bad : ℕ → Type 0) (IsOne : Step → Type 0) (high : Type 0) (t : Table) → high → HasMapCause {T = T} count count last bad (IsWornFor IsOne high t) (Err (Worn Level))
too_high count last bad IsOne high t is = record { later = omega arith; kept = tt; stays = refl; failed = inr (refl, is) }

-- the cause of a step of some kind is one of another
pub worn_wider : {T : Type 0} (before now : ℕ) (last : Bool) (bad : ℕ → Type 0) (IsOne IsOther : Step → Type 0) (high higher : Type 0) (t : Table) (r : Result T MapFault) → ((step : Step) → IsOne step → IsOther step) → (high → higher) → HasMapCause before now last bad (IsWornFor IsOne high t) r
    → HasMapCause before now last bad (IsWornFor IsOther higher t) r
worn_wider before now last bad IsOne IsOther high higher t r is rises cause =
    cause_weaker before now last bad (IsWornFor IsOne high t) (IsWornFor IsOther higher t)
    (λ counter worn. elim worn [ inl out ↦ inl (record { step = out.step; is = is out.step out.is; worn = out.worn }) | inr up ↦ inr (up.0, rises up.1) ]) r cause

-- and so is what it makes
pub made_wider : {T E : Type 0} (IsOne IsOther : Step → Type 0) (nodes : Nodes) (t : Table) (new : Nodes) (u : Table) (r : Result T E) → ((step : Step) → IsOne step → IsOther step) → OnOk r (IsMadeBy IsOne nodes t new u) → OnOk r (IsMadeBy IsOther nodes t new u)
made_wider IsOne IsOther nodes t new u (Ok x) is made = record { step = made.step; is = is made.step made.is; after = made.after; committed = made.committed }
made_wider IsOne IsOther nodes t new u (Err e) is made = tt
