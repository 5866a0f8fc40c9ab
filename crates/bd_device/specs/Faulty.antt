-- What a device of which listed calls fail shows.
use Rattle.std.specs.Prelude.{◌≡◌, ℕ, ◌+◌, ◌-◌, ◌^◌, ◌≤◌, Bool, true, false, ◌||◌, ◌==◌, nat_le, if◌then◌else◌, zero, suc, List}
use Rattle.std.specs.List.{list_any}
use Rattle.std.proofs.Common.{arith}
use Rattle.std.proofs.lemmas.Bool.Decides.{nat_tests}
use Rattle.bd_io.specs.Cause.{next_count}
use Rattle.bd_device.specs.Blocks.{Image}
use Rattle.bd_device.specs.declared.faulty_device.FaultyDevice.{FaultyDevice}

-- the call of this number is to fail
abbrev pub is_listed : List ℕ → ℕ → Bool
is_listed fail call = list_any (λ k. k == call) fail

-- the numbers of the calls that are to fail
abbrev pub listed_calls : {D : Type 0} → FaultyDevice D → List ℕ
listed_calls f = f.fail.items

-- the device that it passes the others on to
abbrev pub faulty_inner : {D : Type 0} → FaultyDevice D → D
faulty_inner f = f.inner

-- how many calls it has refused
abbrev pub faulty_refused : {D : Type 0} → FaultyDevice D → ℕ
faulty_refused f = f.refused

-- how many writes and barriers it has refused
abbrev pub faulty_writes : {D : Type 0} → FaultyDevice D → ℕ
faulty_writes f = f.refused_writes

-- it has refused the last call
abbrev pub has_refused_last : {D : Type 0} → FaultyDevice D → Bool
has_refused_last f = f.refused_last

-- it has refused the last attach
abbrev pub faulty_detached : {D : Type 0} → FaultyDevice D → Bool
faulty_detached f = f.detached

-- after so many calls the next one is refused: it is listed, or the count stands at its last value
abbrev pub refuses_after : List ℕ → ℕ → Bool
refuses_after fail calls = nat_le (2 ^ 64) (calls + 1) || is_listed fail (calls + 1)

-- of so many calls those after the first `t` that weren't listed
abbrev pub passes_since : List ℕ → ℕ → ℕ → ℕ
passes_since fail t zero = 0
passes_since fail t (suc k) =
    if nat_le (suc k) t then 0
    else if is_listed fail (suc k) then passes_since fail t k
    else passes_since fail t k + 1

-- a meaning over the calls of the inner device, of which there were `count`, where there were
-- `calls` of this one: those since a call that were passed on came last
abbrev pub through : List ℕ → ℕ → ℕ → (ℕ → Image → Type 0) → ℕ → Image → Type 0
through fail count calls left t = left (count - passes_since fail t calls)

-- A call was refused, and then it failed and the inner device stays, or else passed on.
pub record Refuses {D : Type 0} (refuses : Bool) (old new : FaultyDevice D)
    (ok : Bool) : Type 0 where
  pub listed : listed_calls new ≡ listed_calls old
  pub passed : refuses ≡ false → faulty_refused new ≡ faulty_refused old
  pub refused : refuses ≡ true → faulty_refused new ≡ next_count (faulty_refused old)
  pub failed : refuses ≡ true → ok ≡ false
  pub stays : refuses ≡ true → faulty_inner new ≡ faulty_inner old

-- since an earlier call no fewer were passed on
pub passes_since-earlier : (fail : List ℕ) (t u k : ℕ) → t ≤ u
    → passes_since fail u k ≤ passes_since fail t k
passes_since-earlier fail t u zero le = omega arith
passes_since-earlier fail t u (suc k) le =
    grind (arith, nat_tests, passes_since-earlier fail t u k le)

-- and so there is more
pub through-earlier : (fail : List ℕ) (count calls : ℕ) (left : ℕ → Image → Type 0)
    → ((t u : ℕ) (c : Image) → t ≤ u → left u c → left t c)
    → (t u : ℕ) (c : Image) → t ≤ u → through fail count calls left u c
    → through fail count calls left t c
through-earlier fail count calls left earlier t u c le was =
    earlier (count - passes_since fail t calls) (count - passes_since fail u calls) c
    (omega (arith, passes_since-earlier fail t u calls le)) was
