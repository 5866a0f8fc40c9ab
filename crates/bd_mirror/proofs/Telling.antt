-- What a mirror tells the layers above of a crash, and how that goes on over its calls.
use Rattle.std.proofs.Common.{◌≡◌, ◌≢◌, ◌↔◌, ℕ, ◌-◌, ◌^◌, ◌<◌, ◌≤◌, ◌⊎◌, min, List, [], ◌∷◌, length, take, Bool, true, false, if◌then◌else◌, Option, None, Some, IfSome, refl, sym, ap, subst, ◌∙◌, arith, inl, inr, ⊎_elim}
use Rattle.std.specs.Prelude.{◌&&◌, ◌==◌, nat_lt, is_some}
use Rattle.std.specs.Option.{option_map}
use Rattle.std.proofs.lemmas.Bool.{false≢true}
use Rattle.std.proofs.lemmas.Option.{same_Some}
use Rattle.bd_io.specs.Cause.{next_count}
use Rattle.bd_device.specs.Blocks.{Image, HasBlocks}
use Rattle.bd_device.specs.Device.{left_now}
use Rattle.bd_device.specs.Moments.{Elapses, IsOnly}
use Rattle.bd_device.specs.declared.device.Device.{Ghosts}
use Rattle.bd_mirror.specs.Calls.{moments_of}
use Rattle.bd_mirror.specs.Contents.{pick, picked_together, PicksAre, LeavesShown, shown_by}
use Rattle.bd_mirror.specs.Halves.{halves_of, with_halves, blocks_in, has_marks, is_two, uses_first}
use Rattle.bd_mirror.specs.Laws.{form_of}
use Rattle.bd_mirror.specs.Names.{HasPlus, first_name, second_name, IsNamed}
use Rattle.bd_mirror.specs.Notes.{Note, last_name}
use Rattle.bd_mirror.specs.Past.{attached_for, IsLeftUpTo, IsLeftPast}
use Rattle.bd_mirror.specs.Shown.{image_of, size_of, second_image}
use Rattle.bd_mirror.specs.Since.{IsLeftOf}
use Rattle.bd_mirror.specs.Sound.{are_told, is_attached, IsLeftBehind, mirror_since}
use Rattle.bd_mirror.specs.declared.halves.Halves.{Halves}
use Rattle.bd_mirror.specs.declared.halves.Halves.TheVariants.{Both}
use Rattle.bd_mirror.specs.declared.halves.Attached.{Attached}
use Rattle.bd_mirror.specs.declared.halves.Attached.TheVariants.{Nothing as Unattached, Alone, Member, Pair, Apart}
use Rattle.bd_mirror.specs.declared.parts.Parts.{Parts}
use Rattle.bd_mirror.proofs.Crashes.{is_known}
use Rattle.bd_mirror.proofs.Past.{up_less, past_on}
use Rattle.bd_mirror.proofs.Told.{both_known, take_blocks, pick_blocks, as_many, are_many, named_is}

-- ---- one half that goes by its name

pub up_named : {A : Type 0} (ga : Ghosts A) (la : A → ℕ → Image → Type 0) (d : A) (n : ℕ) (x : Image) → ((t : ℕ) (c : Image) → la d t c ↔ ga.left_since d t c)
    → ((t u : ℕ) (c : Image) → t ≤ u → ga.left_since d u c → ga.left_since d t c) → ga.left_since d n x → IsLeftUpTo (la d) n x
up_named ga la d n x law earlier left = λ t le. (law t x).1 (earlier t n x le left)

pub now_named : {A : Type 0} (ga : Ghosts A) (la : A → ℕ → Image → Type 0) (d : A) (n : ℕ) (x : Image) → ((t : ℕ) (c : Image) → la d t c ↔ ga.left_since d t c)
    → IsLeftUpTo (la d) n x → ga.left_since d n x
now_named ga la d n x law up = (law n x).0 (up n (omega arith))

-- ---- both halves

-- where more is left of each half that counts
pub form_more : (kind : Attached) (n : ℕ) (la lb la' lb' : Image → Type 0) → ((x : Image) → la x → la' x) → (is_two kind ≡ true → (y : Image) → lb y → lb' y)
    → (c : Image) → IsLeftOf kind n n la lb c → IsLeftOf kind n n la' lb' c
form_more Unattached n la lb la' lb' more_a more_b c left = left
form_more Alone n la lb la' lb' more_a more_b c left = more_a c left
form_more Member n la lb la' lb' more_a more_b c left = (left.0, more_a left.0 left.1, left.2)
form_more (Pair h) n la lb la' lb' more_a more_b c left = (left.0, left.1, more_a left.0 left.2, more_b refl left.1 left.3, left.4)
form_more (Apart h) n la lb la' lb' more_a more_b c left = left

-- by the kind alone
pub of_kind : (kind at : Attached) (h : Halves) (na nb : ℕ) → at ≡ with_halves h kind → (has_marks at ≡ true → na ≡ nb) → IsLeftOf at na nb ≡ IsLeftOf kind na na
of_kind Unattached at h na nb is equal = ap (λ t. IsLeftOf t na nb) is
of_kind Alone at h na nb is equal = ap (λ t. IsLeftOf t na nb) is
of_kind Member at h na nb is equal = ap (λ t. IsLeftOf t na nb) is
of_kind (Pair old) at h na nb is equal = ap (λ t. IsLeftOf t na nb) is ∙ ap (λ k. IsLeftOf (Pair old) na k) (sym (equal (ap has_marks is)))
of_kind (Apart old) at h na nb is equal = ap (λ t. IsLeftOf t na nb) is

-- a name of two halves
pub two_named : (name : List ℕ) → is_two (attached_for name) ≡ true → HasPlus name × (second_name name ≢ [])
two_named name two = ⊎_elim
    (λ (one : (¬ HasPlus name) × (attached_for name ≡ Alone)). absurd (false≢true (sym (ap is_two one.1) ∙ two)))
    (λ more. ⊎_elim
    (λ (one : HasPlus name × (second_name name ≡ []) × (attached_for name ≡ Member)). absurd (false≢true (sym (ap is_two one.2) ∙ two)))
    (λ (both : HasPlus name × (second_name name ≢ []) × (attached_for name ≡ Pair Both)). (both.0, both.1))
    more)
    (form_of name)

-- over a call that is no attach
pub time_for : {A B : Type 0} (ga : Ghosts A) (gb : Ghosts B) (la : A → ℕ → Image → Type 0) (lb : B → ℕ → Image → Type 0) (name : List ℕ) (P : Image → Type 0) (at : Attached) (ms : List (Note × A × B)) (a a1 : A) (b b1 : B) (n n1 na nb : ℕ)
    → IsNamed name at na nb → 0 < blocks_in at na nb → n1 ≡ next_count n → n ≡ min (length ms) (2 ^ 64 - 1)
    → ((t : ℕ) (c : Image) → la a t c ↔ ga.left_since a t c) → ((t : ℕ) (c : Image) → la a1 t c ↔ ga.left_since a1 t c)
    → (is_two (attached_for name) ≡ true → (t : ℕ) (c : Image) → lb b t c ↔ gb.left_since b t c) → (is_two (attached_for name) ≡ true → (t : ℕ) (c : Image) → lb b1 t c ↔ gb.left_since b1 t c)
    → ((t u : ℕ) (c : Image) → t ≤ u → ga.left_since a u c → ga.left_since a t c) → ((t u : ℕ) (c : Image) → t ≤ u → gb.left_since b u c → gb.left_since b t c)
    → ga.call_count a ≤ ga.call_count a1 → gb.call_count b ≤ gb.call_count b1
    → ((c : Image) → IsLeftOf at na nb (ga.left_since a1 (ga.call_count a)) (gb.left_since b1 (gb.call_count b)) c → IsLeftOf at na nb (left_now ga a) (left_now gb b) c ⊎ P c)
    → Elapses n n1 (IsLeftPast la lb ga.call_count gb.call_count (IsLeftOf (attached_for name) na na) name ms a b)
    (IsLeftPast la lb ga.call_count gb.call_count (IsLeftOf (attached_for name) na na) name ((None, a, b) ∷ ms) a1 b1) P
time_for ga gb la lb name P at ms a a1 b b1 n n1 na nb named some counted kept law_a law_a1 law_b law_b1 earlier_a earlier_b le_a le_b inside =
    let kind : Attached = attached_for name in
    let na_now : Image → Type 0 = ga.left_since a1 (ga.call_count a) in
    let nb_now : Image → Type 0 = gb.left_since b1 (gb.call_count b) in
    let by_kind : (c : Image) → IsLeftOf kind na na na_now nb_now c → IsLeftOf kind na na (left_now ga a) (left_now gb b) c ⊎ P c =
    subst (λ (of : (Image → Type 0) → (Image → Type 0) → Image → Type 0). (c : Image) → of na_now nb_now c → of (left_now ga a) (left_now gb b) c ⊎ P c)
    (of_kind kind at (halves_of at) na nb (named_is name at na nb named some) named.equal) inside in
    past_on la lb ga.call_count gb.call_count (IsLeftOf kind na na) name P ms a a1 b b1 n n1 (omega (arith, counted, kept)) (omega (arith, kept))
    (form_more kind na (IsLeftUpTo (la a1) (ga.call_count a1)) (IsLeftUpTo (lb b1) (gb.call_count b1)) (IsLeftUpTo (la a1) (ga.call_count a)) (IsLeftUpTo (lb b1) (gb.call_count b))
    (λ x up. up_less (la a1) (ga.call_count a1) (ga.call_count a) x le_a up) (λ _ y up. up_less (lb b1) (gb.call_count b1) (gb.call_count b) y le_b up))
    (λ c left. ⊎_elim
    (λ was. inl (form_more kind na (left_now ga a) (left_now gb b) (IsLeftUpTo (la a) (ga.call_count a)) (IsLeftUpTo (lb b) (gb.call_count b))
    (λ x now. up_named ga la a (ga.call_count a) x law_a earlier_a now) (λ two y now. up_named gb lb b (gb.call_count b) y (law_b two) earlier_b now) c was))
    (λ here. inr here)
    (by_kind c (form_more kind na (IsLeftUpTo (la a1) (ga.call_count a)) (IsLeftUpTo (lb b1) (gb.call_count b)) na_now nb_now
    (λ x up. now_named ga la a1 (ga.call_count a) x law_a1 up) (λ two y up. now_named gb lb b1 (gb.call_count b) y (law_b1 two) up) c left)))

-- ---- of the image of a name

-- what a mirror shows for a name is what its halves hold, of so many blocks
pub record IsTold {A B : Type 0} (ga : Ghosts A) (gb : Ghosts B) (sa : A → List ℕ → Option Image) (sb : B → List ℕ → Option Image) (m : Parts A B) (name : List ℕ) (na nb : ℕ) : Type 0 where
  pub first_is : sa m.first (first_name name) ≡ ga.contents m.first
  pub second_is : second_image (attached_for name) (gb.contents m.second) (sb m.second (second_name name)) ≡ gb.contents m.second
  pub first_shape : IfSome (ga.contents m.first) (HasBlocks na)
  pub second_shape : IfSome (gb.contents m.second) (HasBlocks nb)

abbrev pub PastOf : {A B : Type 0} → Ghosts A → Ghosts B → (A → List ℕ → ℕ → Image → Type 0) → (B → List ℕ → ℕ → Image → Type 0) → Parts A B → List ℕ → ℕ → ℕ → Image → Type 0
PastOf ga gb la lb m name n = IsLeftPast (λ d. la d (first_name name)) (λ d. lb d (second_name name)) ga.call_count gb.call_count (IsLeftOf (attached_for name) n n) name (moments_of m) m.first m.second

pub record HasPast {A B : Type 0} (ga : Ghosts A) (gb : Ghosts B) (la : A → List ℕ → ℕ → Image → Type 0) (lb : B → List ℕ → ℕ → Image → Type 0) (m : Parts A B) (name : List ℕ) (na nb t : ℕ) (c : Image) : Type 0 where
  pub told : are_told ga gb m ≡ true
  pub some : 0 < size_of (attached_for name) na nb
  pub shape : HasBlocks (size_of (attached_for name) na nb) c
  pub left : PastOf ga gb la lb m name na t c

pub from_behind : {A B : Type 0} (ga : Ghosts A) (gb : Ghosts B) (sa : A → List ℕ → Option Image) (sb : B → List ℕ → Option Image) (la : A → List ℕ → ℕ → Image → Type 0) (lb : B → List ℕ → ℕ → Image → Type 0) (m : Parts A B) (name : List ℕ) (na nb t : ℕ) (c : Image)
    → IsTold ga gb sa sb m name na nb → IsLeftBehind ga gb sa sb la lb m name t c → HasPast ga gb la lb m name na nb t c
from_behind ga gb sa sb la lb m name na nb t c told behind =
    let kind : Attached = attached_for name in
    let kx : ga.contents m.first ≡ Some behind.first = sym told.first_is ∙ behind.first_shown in
    let ky : gb.contents m.second ≡ Some behind.second = sym told.second_is ∙ behind.second_shown in
    let lx : length behind.first ≡ na = (is_known (HasBlocks na) (ga.contents m.first) behind.first kx told.first_shape).count_is in
    let ly : length behind.second ≡ nb = (is_known (HasBlocks nb) (gb.contents m.second) behind.second ky told.second_shape).count_is in
    let size : size_of kind (length behind.first) (length behind.second) ≡ size_of kind na nb =
    ap (λ k. size_of kind k (length behind.second)) lx ∙ ap (λ k. size_of kind na k) ly in
    record {
      told = ap (λ (o : Option Image). is_some o && is_some (gb.contents m.second)) kx ∙ ap (λ (o : Option Image). is_some o) ky;
      some = subst (λ k. 0 < k) size behind.some;
      shape = subst (λ k. HasBlocks k c) size behind.shape;
      left = subst (λ k. PastOf ga gb la lb m name k t c) lx behind.left;
    }

pub to_behind : {A B : Type 0} (ga : Ghosts A) (gb : Ghosts B) (sa : A → List ℕ → Option Image) (sb : B → List ℕ → Option Image) (la : A → List ℕ → ℕ → Image → Type 0) (lb : B → List ℕ → ℕ → Image → Type 0) (m : Parts A B) (name : List ℕ) (na nb t : ℕ) (c : Image)
    → IsTold ga gb sa sb m name na nb → HasPast ga gb la lb m name na nb t c → IsLeftBehind ga gb sa sb la lb m name t c
to_behind ga gb sa sb la lb m name na nb t c told past =
    let kind : Attached = attached_for name in
    let both = both_known (ga.contents m.first) (gb.contents m.second) past.told in
    let x : Image = both.0 in
    let y : Image = both.1 in
    let lx : length x ≡ na = (is_known (HasBlocks na) (ga.contents m.first) x both.2 told.first_shape).count_is in
    let ly : length y ≡ nb = (is_known (HasBlocks nb) (gb.contents m.second) y both.3 told.second_shape).count_is in
    let size : size_of kind na nb ≡ size_of kind (length x) (length y) =
    sym (ap (λ k. size_of kind k (length y)) lx ∙ ap (λ k. size_of kind na k) ly) in
    record {
      first = x;
      second = y;
      first_shown = told.first_is ∙ both.2;
      second_shown = told.second_is ∙ both.3;
      some = subst (λ k. 0 < k) size past.some;
      shape = subst (λ k. HasBlocks k c) size past.shape;
      left = subst (λ k. PastOf ga gb la lb m name k t c) (sym lx) past.left;
    }

-- so it goes on
pub behind_on : {A B : Type 0} (ga : Ghosts A) (gb : Ghosts B) (sa : A → List ℕ → Option Image) (sb : B → List ℕ → Option Image) (la : A → List ℕ → ℕ → Image → Type 0) (lb : B → List ℕ → ℕ → Image → Type 0) (old new : Parts A B) (name : List ℕ) (P Q : Image → Type 0) (n n1 na nb : ℕ)
    → are_told ga gb new ≡ are_told ga gb old → IsTold ga gb sa sb old name na nb → IsTold ga gb sa sb new name na nb
    → Elapses n n1 (PastOf ga gb la lb old name na) (PastOf ga gb la lb new name na) P
    → ((c : Image) → P c → 0 < size_of (attached_for name) na nb → HasBlocks (size_of (attached_for name) na nb) c → are_told ga gb old ≡ true → Q c)
    → Elapses n n1 (IsLeftBehind ga gb sa sb la lb old name) (IsLeftBehind ga gb sa sb la lb new name) Q
behind_on ga gb sa sb la lb old new name P Q n n1 na nb same told_old told_new past here = record {
  later = past.later;
  keeps = λ t c le was.
      let h = from_behind ga gb sa sb la lb old name na nb t c told_old was in
      to_behind ga gb sa sb la lb new name na nb t c told_new (record { told = same ∙ h.told; some = h.some; shape = h.shape; left = past.keeps t c le h.left });
  adds = λ t c le left.
      let h = from_behind ga gb sa sb la lb new name na nb t c told_new left in
      ⊎_elim
      (λ was. inl (to_behind ga gb sa sb la lb old name na nb t c told_old (record { told = sym same ∙ h.told; some = h.some; shape = h.shape; left = was })))
      (λ torn. inr (here c torn h.some h.shape (sym same ∙ h.told)))
      (past.adds t c le h.left);
}

-- by the name of what is attached
pub at_name : {A B : Type 0} (ga : Ghosts A) (gb : Ghosts B) (sa : A → List ℕ → Option Image) (sb : B → List ℕ → Option Image) (la : A → List ℕ → ℕ → Image → Type 0) (lb : B → List ℕ → ℕ → Image → Type 0) (m : Parts A B) (name : List ℕ) (t : ℕ) (c : Image)
    → last_name (moments_of m) ≡ Some name → mirror_since ga gb sa sb la lb m t c → IsLeftBehind ga gb sa sb la lb m name t c
at_name ga gb sa sb la lb m name t c last since =
    subst (λ (n : List ℕ). IsLeftBehind ga gb sa sb la lb m n t c) (same_Some since.0 name (sym since.1 ∙ last)) since.3

pub since_by : {A B : Type 0} (ga : Ghosts A) (gb : Ghosts B) (sa : A → List ℕ → Option Image) (sb : B → List ℕ → Option Image) (la : A → List ℕ → ℕ → Image → Type 0) (lb : B → List ℕ → ℕ → Image → Type 0) (old new : Parts A B) (name : List ℕ) (Q : Image → Type 0) (n n1 : ℕ)
    → last_name (moments_of old) ≡ Some name → last_name (moments_of new) ≡ Some name → is_attached old.attached ≡ true → is_attached new.attached ≡ true
    → Elapses n n1 (IsLeftBehind ga gb sa sb la lb old name) (IsLeftBehind ga gb sa sb la lb new name) Q
    → Elapses n n1 (mirror_since ga gb sa sb la lb old) (mirror_since ga gb sa sb la lb new) Q
since_by ga gb sa sb la lb old new name Q n n1 last last1 has has1 time = record {
  later = time.later;
  keeps = λ t c le was. (name, last1, has1, time.keeps t c le (at_name ga gb sa sb la lb old name t c last was));
  adds = λ t c le left. ⊎_elim (λ behind. inl (name, last, has, behind)) (λ here. inr here) (time.adds t c le (at_name ga gb sa sb la lb new name t c last1 left));
}

-- with nothing attached nothing is left
pub since_none : {A B : Type 0} (ga : Ghosts A) (gb : Ghosts B) (sa : A → List ℕ → Option Image) (sb : B → List ℕ → Option Image) (la : A → List ℕ → ℕ → Image → Type 0) (lb : B → List ℕ → ℕ → Image → Type 0) (old new : Parts A B) (Q : Image → Type 0) (n n1 : ℕ)
    → n ≤ n1 → is_attached old.attached ≡ false → is_attached new.attached ≡ false
    → Elapses n n1 (mirror_since ga gb sa sb la lb old) (mirror_since ga gb sa sb la lb new) Q
since_none ga gb sa sb la lb old new Q n n1 later off off1 = record {
  later = later;
  keeps = λ t c le was. absurd (false≢true (sym off ∙ was.2));
  adds = λ t c le left. absurd (false≢true (sym off1 ∙ left.2));
}

-- ---- now

-- how many blocks the pick has
size_by : (na nb : ℕ) (t : Bool) → (na == nb && nat_lt 0 na) ≡ t → na ≡ nb → 0 < (if t then na - 1 else 0) → min na na - 1 ≡ (if t then na - 1 else 0)
size_by na nb true is e some = omega arith
size_by na nb false is e some = absurd (omega (arith, some))

size_is : (na nb : ℕ) (h : Halves) → na ≡ nb → 0 < size_of (Pair h) na nb → min na na - 1 ≡ size_of (Pair h) na nb
size_is na nb h e some = size_by na nb (na == nb && nat_lt 0 na) refl e some

-- there are as many of both
pub pair_sizes : (na nb : ℕ) (t : Bool) → (na == nb && nat_lt 0 na) ≡ t → 0 < (if t then na - 1 else 0) → (na ≡ nb) × (0 < na)
pair_sizes na nb true is some = as_many na nb is
pair_sizes na nb false is some = absurd (omega (arith, some))

pick_now : (na nb : ℕ) (x y : Image) → length x ≡ na → length y ≡ nb → 0 < size_of (Pair Both) na nb → picked_together x y ≡ pick (min na na - 1) (na - 1) (na - 1) x y
pick_now na nb x y lx ly some =
    let sizes = pair_sizes na nb (na == nb && nat_lt 0 na) refl some in
    let test : (length x == length y && nat_lt 0 (length x)) ≡ true = are_many (length x) (length y) (lx ∙ sizes.0 ∙ sym ly) (omega (arith, lx, sizes.1)) in
    ap (λ t. if t then pick (length x - 1) (length x - 1) (length x - 1) x y else []) test
    ∙ ap (λ k. pick (k - 1) (k - 1) (k - 1) x y) lx
    ∙ ap (λ k. pick k (na - 1) (na - 1) x y) (let e : na - 1 ≡ min na na - 1 = omega arith in e)

-- images of both halves that a crash may leave give one with as many blocks
pub left_blocks : (kind : Attached) (na nb : ℕ) (la lb : Image → Type 0) → ((x : Image) → la x → HasBlocks na x) → (is_two kind ≡ true → (y : Image) → lb y → HasBlocks nb y) → (is_two kind ≡ true → na ≡ nb)
    → 0 < size_of kind na nb → (c : Image) → IsLeftOf kind na na la lb c → HasBlocks (size_of kind na nb) c
left_blocks Unattached na nb la lb whole_a whole_b equal some c left = absurd left
left_blocks Alone na nb la lb whole_a whole_b equal some c left = whole_a c left
left_blocks Member na nb la lb whole_a whole_b equal some c left = subst (HasBlocks (na - 1)) (sym left.2) (take_blocks na (na - 1) left.0 (whole_a left.0 left.1) (omega arith))
left_blocks (Pair h) na nb la lb whole_a whole_b equal some c left =
    let sx : HasBlocks na left.0 = whole_a left.0 left.2 in
    let sy : HasBlocks na left.1 = subst (λ k. HasBlocks k left.1) (sym (equal refl)) (whole_b refl left.1 left.3) in
    let k : ℕ = min na na - 1 in
    let size : k ≡ size_of (Pair h) na nb = size_is na nb h (equal refl) some in
    subst (λ n. HasBlocks n c) size (⊎_elim
    (λ (e : c ≡ pick k (na - 1) (na - 1) left.0 left.1). subst (HasBlocks k) (sym e) (pick_blocks na k (na - 1) (na - 1) left.0 left.1 sx sy (omega arith)))
    (λ (e : c ≡ pick k (na - 1) (na - 1) left.1 left.0). subst (HasBlocks k) (sym e) (pick_blocks na k (na - 1) (na - 1) left.1 left.0 sy sx (omega arith)))
    left.4)
left_blocks (Apart h) na nb la lb whole_a whole_b equal some c left = absurd left

-- what reads give is one of those
pub now_of : (kind : Attached) (na nb : ℕ) (la lb : Image → Type 0) (x y : Image) → length x ≡ na → length y ≡ nb → 0 < size_of kind na nb → la x → (is_two kind ≡ true → lb y)
    → IsLeftOf kind na na la lb (image_of kind x y)
now_of Unattached na nb la lb x y lx ly some hx hy = absurd (omega (arith, some))
now_of Alone na nb la lb x y lx ly some hx hy = hx
now_of Member na nb la lb x y lx ly some hx hy = (x, hx, ap (λ k. take (k - 1) x) lx)
now_of (Pair h) na nb la lb x y lx ly some hx hy = (
  x,
  y,
  hx,
  hy refl,
  inl (pick_now na nb x y lx ly some),
)
now_of (Apart h) na nb la lb x y lx ly some hx hy = absurd (omega (arith, some))

-- where nothing more is left than is shown, that is what reads give
pub only_at : (at : Attached) (na nb : ℕ) (p q : Option Image) (la lb : Image → Type 0) → 0 < blocks_in at na nb → LeavesShown at na nb p q la lb
    → (uses_first (halves_of at) ≡ true → IsOnly p la) → (is_some p && is_some q) ≡ true → (c : Image) → IsLeftOf at na nb la lb c → shown_by at na nb p q ≡ Some c
only_at Unattached na nb p q la lb some shown only told c left = absurd left
only_at Alone na nb p q la lb some shown only told c left = only refl c left
only_at Member na nb p q la lb some shown only told c left = ap (option_map (take (na - 1))) (only refl left.0 left.1) ∙ ap Some (sym left.2)
only_at (Pair h) na nb p q la lb some shown only told c left =
    let both = both_known p q told in
    let size : ℕ = min na nb - 1 in
    let image : Image = pick size (na - 1) (nb - 1) both.0 both.1 in
    let is : shown_by (Pair h) na nb p q ≡ Some image = ap (λ o. shown_by (Pair h) na nb o q) both.2 ∙ ap (λ o. shown_by (Pair h) na nb (Some both.0) o) both.3 in
    let are : PicksAre size (na - 1) (nb - 1) la lb image = is_known (PicksAre size (na - 1) (nb - 1) la lb) (shown_by (Pair h) na nb p q) image is shown in
    is ∙ ap Some (sym (⊎_elim (λ e. e ∙ (are left.0 left.1 left.2 left.3).0) (λ e. e ∙ (are left.0 left.1 left.2 left.3).1) left.4))
only_at (Apart h) na nb p q la lb some shown only told c left = absurd left
