-- What a device of which listed calls fail shows of the crashes of the inner one.
use Rattle.std.proofs.Common.{◌≡◌, ℕ, ◌+◌, ◌-◌, ◌≤◌, ◌^◌, Bool, true, false, inl, ⊎_elim, ◌<◌, if◌then◌else◌, Option, List, zero, suc, refl, ap, sym, subst, ◌∙◌, arith}
use Rattle.std.proofs.Math.Numerals.{add-one}
use Rattle.std.proofs.lemmas.Bool.{cases_lt}
use Rattle.std.proofs.lemmas.Bool.Decides.{nat_tests}
use Rattle.bd_io.specs.Cause.{next_count}
use Rattle.bd_device.specs.Blocks.{Image}
use Rattle.bd_device.specs.Moments.{Elapses, IsOnly}
use Rattle.bd_device.specs.Fuse.{with_refused, unless_detached}
use Rattle.bd_device.specs.declared.faulty_device.FaultyDevice.{FaultyDevice}
use Rattle.bd_device.specs.Faulty.{is_listed, refuses_after, passes_since, through}

-- no call comes after the last one
pub passes_since-none : (fail : List ℕ) (t k : ℕ) → k ≤ t → passes_since fail t k ≡ 0
passes_since-none fail t zero le = refl
passes_since-none fail t (suc k) le = grind (arith, nat_tests)

-- one call more that isn't listed
pub passes_since-passed : (fail : List ℕ) (t k : ℕ) → t ≤ k → is_listed fail (k + 1) ≡ false → passes_since fail t (k + 1) ≡ passes_since fail t k + 1
passes_since-passed fail t k le other =
    let other' : is_listed fail (suc k) ≡ false = ap (is_listed fail) (sym (add-one k)) ∙ other in
    ap (passes_since fail t) (add-one k) ∙ grind (arith, nat_tests)

-- one call more that is listed
pub passes_since-refused : (fail : List ℕ) (t k : ℕ) → t ≤ k → is_listed fail (k + 1) ≡ true → passes_since fail t (k + 1) ≡ passes_since fail t k
passes_since-refused fail t k le listed =
    let listed' : is_listed fail (suc k) ≡ true = ap (is_listed fail) (sym (add-one k)) ∙ listed in
    ap (passes_since fail t) (add-one k) ∙ grind (arith, nat_tests)

-- a call that was passed on
pub through-passed : (fail : List ℕ) (n m refused : ℕ) (old new : ℕ → Image → Type 0) (I : Image → Type 0)
    → refuses_after fail (with_refused n refused) ≡ false → m ≡ next_count n → Elapses n m old new I
    → Elapses (with_refused n refused) (with_refused m refused)
    (through fail n (with_refused n refused) old) (through fail m (with_refused m refused) new) I
through-passed fail n m refused old new I passes counted time =
    let calls : ℕ = with_refused n refused in
    let fits : calls + 1 < 2 ^ 64 = grind (arith, nat_tests) in
    let other : is_listed fail (calls + 1) ≡ false = grind (arith, nat_tests) in
    let one_more : with_refused m refused ≡ calls + 1 = omega (arith, fits, counted) in
    let inner : m ≡ n + 1 = omega (arith, fits, counted) in
    let same : (t : ℕ) → t ≤ calls → n - passes_since fail t calls ≡ m - passes_since fail t (with_refused m refused) =
    λ t le. omega (arith, inner, ap (passes_since fail t) one_more ∙ passes_since-passed fail t calls le other) in
    record {
      later = omega (arith, one_more);
      keeps = λ t c le was. subst (λ k. new k c) (same t le) (time.keeps (n - passes_since fail t calls) c (omega arith) was);
      adds = λ t c le left. time.adds (n - passes_since fail t calls) c (omega arith) (subst (λ k. new k c) (sym (same t le)) left);
    }

-- what is refused with a number left is listed
is_listed-refused : (fail : List ℕ) (k : ℕ) → refuses_after fail k ≡ true → k + 1 < 2 ^ 64 → is_listed fail (k + 1) ≡ true
is_listed-refused fail k refuses more = grind (arith, nat_tests)

-- so it is of each call that is refused
passes_since-again : (fail : List ℕ) (t k next : ℕ) → t ≤ k → refuses_after fail k ≡ true → k ≤ 2 ^ 64 - 1 → next ≡ next_count k
    → passes_since fail t k ≡ passes_since fail t next
passes_since-again fail t k next le refuses fits counted = ⊎_elim
    (λ (more : k + 1 < 2 ^ 64).
    let listed : is_listed fail (k + 1) ≡ true = is_listed-refused fail k refuses more in
    sym (passes_since-refused fail t k le listed) ∙ ap (passes_since fail t) (let e : k + 1 ≡ next = omega (arith, more, counted) in e))
    (λ (last : 2 ^ 64 ≤ k + 1). ap (passes_since fail t) (let e : k ≡ next = omega (arith, last, fits, counted) in e))
    (cases_lt (k + 1) (2 ^ 64))

-- a call that was refused
pub through-refused : (fail : List ℕ) (n refused refused' : ℕ) (left : ℕ → Image → Type 0) (I : Image → Type 0)
    → refuses_after fail (with_refused n refused) ≡ true → refused' ≡ next_count refused
    → Elapses (with_refused n refused) (with_refused n refused')
    (through fail n (with_refused n refused) left) (through fail n (with_refused n refused') left) I
through-refused fail n refused refused' left I refuses counted =
    let calls : ℕ = with_refused n refused in
    let same : (t : ℕ) → t ≤ calls → passes_since fail t calls ≡ passes_since fail t (with_refused n refused') = λ t le.
    passes_since-again fail t calls (with_refused n refused') le refuses (omega arith) (omega (arith, counted)) in
    record {
      later = omega (arith, counted);
      keeps = λ t c le was. subst (λ k. left (n - k) c) (same t le) was;
      adds = λ t c le now. inl (subst (λ k. left (n - k) c) (sym (same t le)) now);
    }

-- now it is what a crash of the inner device leaves now
pub through-now : (fail : List ℕ) (n calls : ℕ) (left : ℕ → Image → Type 0) → through fail n calls left calls ≡ left n
through-now fail n calls left =
    let none : n - passes_since fail calls calls ≡ n = omega (arith, passes_since-none fail calls calls (omega arith)) in
    ap left none

-- so it is of a device, of which one call was passed on
pub passed-time : {D : Type 0} (count : D → ℕ) (left : D → ℕ → Image → Type 0) (old mid : FaultyDevice D) (m : ℕ) (new : ℕ → Image → Type 0) (I : Image → Type 0)
    → mid ≡ record old { refused_last = false } → false ≡ refuses_after old.fail.items (with_refused (count old.inner) old.refused) → m ≡ next_count (count mid.inner) → Elapses (count mid.inner) m (left mid.inner) new I
    → Elapses (with_refused (count old.inner) old.refused) (with_refused m mid.refused)
    (through old.fail.items (count old.inner) (with_refused (count old.inner) old.refused) (left old.inner))
    (through mid.fail.items m (with_refused m mid.refused) new) I
passed-time {D} count left old mid m new I same passes counted time =
    subst (λ (q : FaultyDevice D). false ≡ refuses_after q.fail.items (with_refused (count q.inner) q.refused)
    → Elapses (with_refused (count q.inner) q.refused) (with_refused m mid.refused)
    (through q.fail.items (count q.inner) (with_refused (count q.inner) q.refused) (left q.inner))
    (through mid.fail.items m (with_refused m mid.refused) new) I) same
    (λ passes'. through-passed mid.fail.items (count mid.inner) m mid.refused (left mid.inner) new I (sym passes') counted time) passes

-- and of one that refused a call
pub refused-time : {D : Type 0} (count : D → ℕ) (left : D → ℕ → Image → Type 0) (old new : FaultyDevice D) (refused_writes : ℕ) (I : Image → Type 0)
    → true ≡ refuses_after old.fail.items (with_refused (count old.inner) old.refused) → new ≡ record old { refused = next_count old.refused; refused_writes = refused_writes; refused_last = true }
    → Elapses (with_refused (count old.inner) old.refused) (with_refused (count new.inner) new.refused)
    (through old.fail.items (count old.inner) (with_refused (count old.inner) old.refused) (left old.inner))
    (through new.fail.items (count new.inner) (with_refused (count new.inner) new.refused) (left new.inner)) I
refused-time {D} count left old new refused_writes I refuses stays =
    subst (λ (q : FaultyDevice D). Elapses (with_refused (count old.inner) old.refused) (with_refused (count q.inner) q.refused)
    (through old.fail.items (count old.inner) (with_refused (count old.inner) old.refused) (left old.inner))
    (through q.fail.items (count q.inner) (with_refused (count q.inner) q.refused) (left q.inner)) I) (sym stays)
    (through-refused old.fail.items (count old.inner) old.refused (next_count old.refused) (left old.inner) I (sym refuses) refl)

-- after a barrier that was passed on
pub settled-through : (fail : List ℕ) (n calls blocks : ℕ) (detached : Bool) (left : ℕ → Image → Type 0) (contents : Option Image)
    → (0 < blocks → IsOnly contents (left n)) → 0 < (if detached then 0 else blocks)
    → IsOnly (unless_detached detached contents) (through fail n calls left calls)
settled-through fail n calls blocks true left contents only lt = absurd (omega arith)
settled-through fail n calls blocks false left contents only lt = λ c was.
    only lt c (subst (λ (now : Image → Type 0). now c) (through-now fail n calls left) was)
