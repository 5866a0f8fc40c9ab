-- What key maps have, what their calls need, and why they fail.
use Rattle.std.specs.Prelude.{◌≡◌, ℕ, ◌≤◌, Bool, not, false, IsTrue, ◌&&◌, if◌then◌else◌, List, ◌++◌, length, Option, None, Some, IsSome, Result, OnOk, IfErr, All, ⊤}
use Rattle.std.specs.List.{sum_by}
use Rattle.bd_io.specs.Cause.{next_count}
use Rattle.bd_keys.specs.Keys.{Begins, IsAtLeast, IsKey}
use Rattle.bd_limits.specs.Limits.{key_limit, graft_size}
use Rattle.bd_message.specs.declared.fault.Counter.{Counter}
use Rattle.bd_message.specs.declared.fault.MapFault.{MapFault}
use Rattle.bd_message.specs.declared.fault.MapFault.TheVariants.{DeviceFault, Damaged, Worn, NoMemory}
use Rattle.bd_message.specs.declared.message.Message.{Message}
use Rattle.bd_message.specs.Messages.{IsMessage, IsPlain, size}
use Rattle.bd_message.specs.Effect.{begins, rest, acts, no_nodes}

-- what stands at each key
abbrev pub At : Type 0
At = List ℕ → Option (List ℕ)

-- the same stands at each key
abbrev pub SameAt : At → At → Type 0
SameAt old new = (k : List ℕ) → new k ≡ old k

-- a key that has a value, from `from` on, that begins with `within`
abbrev pub IsFound : At → List ℕ → List ℕ → List ℕ → Type 0
IsFound at from within k = IsSome (at k) × IsAtLeast k from × Begins k within

-- the least of these keys, or none where there is none
abbrev pub IsNext : At → List ℕ → List ℕ → Option (List ℕ) → Type 0
IsNext at from within (Some k) =
    IsFound at from within k × ((l : List ℕ) → IsFound at from within l → IsAtLeast l k)
IsNext at from within None = (l : List ℕ) → ¬ IsFound at from within l

-- the least of these keys and its value, or none where there is none
abbrev pub IsNextEntry : At → List ℕ → List ℕ → Option (List ℕ × List ℕ) → Type 0
IsNextEntry at from within (Some entry) =
    IsNext at from within (Some entry.0) × (at entry.0 ≡ Some entry.1)
IsNextEntry at from within None = IsNext at from within None

-- at most four messages that name no node, for which there is room
pub record IsBatch (list : List Message) (room : ℕ) : Type 0 where
  pub few : length list ≤ 4
  pub each : All IsMessage list
  pub plain : All IsPlain list
  pub fits : sum_by size list ≤ room

-- what stands at a key after messages, the first one first
abbrev pub IsApplied : At → List Message → At → Type 0
IsApplied old list new = (k : List ℕ) → IsKey k → new k ≡ acts no_nodes list k (old k)

-- what stands at a key after a graft: at each `d x` what stood at `s x`, and then, without `keep`,
-- nothing at each `s x`
abbrev pub grafted : At → List ℕ → List ℕ → Bool → At
grafted at s d keep k =
    if not keep && begins k s then None else (if begins k d then at (s ++ rest d k) else at k)

abbrev pub IsGrafted : At → List ℕ → List ℕ → Bool → At → Type 0
IsGrafted old s d keep new = (k : List ℕ) → IsKey k → new k ≡ grafted old s d keep k

-- prefixes that can be stored, for which there is room; what is moved isn't moved into itself
pub record CanGraft (s d : List ℕ) (keep : Bool) (room : ℕ) : Type 0 where
  pub source : length s ≤ key_limit
  pub target : length d ≤ key_limit
  pub outside : keep ≡ false → ¬ Begins d s
  pub fits : graft_size ≤ room

-- a fault of the device is that of its last call, and of no other; damage is returned only of a bad
-- block, a worn counter only where it is
abbrev pub IsCause : ℕ → ℕ → Bool → (ℕ → Type 0) → (Counter → Type 0) → MapFault → Type 0
IsCause before now last bad worn DeviceFault = (now ≡ next_count before) × IsTrue last
IsCause before now last bad worn (Damaged block) = bad block
IsCause before now last bad worn (Worn counter) = worn counter
IsCause before now last bad worn NoMemory = ⊤

-- no counter is at its end
abbrev pub NeverWorn : Counter → Type 0
NeverWorn _ = ⊥

-- the count of faults stays at each fault but the device's
abbrev pub StaysUnlessDevice : ℕ → ℕ → MapFault → Type 0
StaysUnlessDevice before now DeviceFault = ⊤
StaysUnlessDevice before now (Damaged block) = now ≡ before
StaysUnlessDevice before now (Worn _) = now ≡ before
StaysUnlessDevice before now NoMemory = now ≡ before

-- the count of faults never falls, and rises in no call but one that answers with the device's
-- fault; a call fails only for a cause; `last` says whether the last call of the device failed
pub record HasMapCause {T : Type 0} (before now : ℕ) (last : Bool) (bad : ℕ → Type 0)
    (worn : Counter → Type 0) (result : Result T MapFault) : Type 0 where
  pub later : before ≤ now
  pub kept : OnOk result (now ≡ before)
  pub stays : IfErr result (StaysUnlessDevice before now)
  pub failed : IfErr result (IsCause before now last bad worn)

-- what a read leaves: what is known and has a value, the room, the loans; no counter comes nearer
-- to its end
pub record IsLeftBy {M : Type 0} (is_known : M → Type 0) (has : M → At) (room_of : M → ℕ)
    (worn : M → Counter → Type 0) (reads : M → M → Type 0) (loans : M → List ℕ) (old new : M)
    : Type 0 where
  pub known : is_known old → is_known new
  pub kept : is_known old → SameAt (has old) (has new)
  pub room : room_of new ≡ room_of old
  pub counters : (counter : Counter) → worn new counter → worn old counter
  pub read : reads old new
  pub same_loans : loans new ≡ loans old
