-- The laws of `Device` and `Attach` at a mirror.
use Rattle.std.proofs.Common.{◌≡◌, ◌≢◌, ◌↔◌, ℕ, ◌≤◌, ◌⊎◌, List, [], ◌∷◌, length, Option, Some, true, false, refl, sym, ap, subst, ◌∙◌, arith, inl, inr, ⊎_elim}
use Rattle.std.specs.Prelude.{◌==◌, nat_lt, if◌then◌else◌}
use Rattle.std.specs.List.{position_or_len}
use Rattle.std.proofs.lemmas.Bool.{false≢true, cases_lt}
use Rattle.std.proofs.lemmas.Bool.Decides.{nat_tests}
use Rattle.std.proofs.lemmas.Option.{same_Some}
use Rattle.bd_device.specs.Blocks.{Image}
use Rattle.bd_device.specs.declared.device.Device.{Ghosts}
use Rattle.bd_mirror.specs.Calls.{moments_of}
use Rattle.bd_mirror.specs.Names.{HasPlus, first_name, second_name}
use Rattle.bd_mirror.specs.Notes.{Note, last_name}
use Rattle.bd_mirror.specs.Past.{attached_for, IsLeftInCalls, IsLeftPast}
use Rattle.bd_mirror.specs.Shown.{shown_both, second_image, attached_by}
use Rattle.bd_mirror.specs.Since.{IsLeftOf}
use Rattle.bd_mirror.specs.Sound.{is_attached, mirror_contents, mirror_shows, GoesBy, IsLeftBehind, mirror_since}
use Rattle.bd_mirror.specs.declared.halves.Halves.TheVariants.{Both}
use Rattle.bd_mirror.specs.declared.halves.Attached.{Attached}
use Rattle.bd_mirror.specs.declared.halves.Attached.TheVariants.{Nothing, Alone, Member, Pair, Apart}
use Rattle.bd_mirror.specs.declared.parts.Parts.{Parts}

-- since an earlier call more calls are meant
calls_earlier : {A B : Type 0} (la : A → ℕ → Image → Type 0) (lb : B → ℕ → Image → Type 0) (ca : A → ℕ) (cb : B → ℕ) (of : (Image → Type 0) → (Image → Type 0) → Image → Type 0) (name : List ℕ) (ms : List (Note × A × B)) (a : A) (b : B) (t u : ℕ) (c : Image)
    → t ≤ u → IsLeftInCalls la lb ca cb of name ms a b u c → IsLeftInCalls la lb ca cb of name ms a b t c
calls_earlier la lb ca cb of name [] a b t u c le left = left
calls_earlier la lb ca cb of name (m ∷ ms) a b t u c le (inl here) = inl (omega (arith, le, here.0), here.1)
calls_earlier la lb ca cb of name (m ∷ ms) a b t u c le (inr more) = inr (calls_earlier la lb ca cb of name ms m.1 m.2 t u c le more)

past_earlier : {A B : Type 0} (la : A → ℕ → Image → Type 0) (lb : B → ℕ → Image → Type 0) (ca : A → ℕ) (cb : B → ℕ) (of : (Image → Type 0) → (Image → Type 0) → Image → Type 0) (name : List ℕ) (ms : List (Note × A × B)) (a : A) (b : B) (t u : ℕ) (c : Image)
    → t ≤ u → IsLeftPast la lb ca cb of name ms a b u c → IsLeftPast la lb ca cb of name ms a b t c
past_earlier la lb ca cb of name ms a b t u c le (inl now) = inl now
past_earlier la lb ca cb of name ms a b t u c le (inr calls) = inr (calls_earlier la lb ca cb of name ms a b t u c le calls)

pub earlier_law : {A B : Type 0} (a : Ghosts A) (b : Ghosts B) (sa : A → List ℕ → Option Image) (sb : B → List ℕ → Option Image) (la : A → List ℕ → ℕ → Image → Type 0) (lb : B → List ℕ → ℕ → Image → Type 0)
    (m : Parts A B) (t u : ℕ) (c : Image) → t ≤ u → mirror_since a b sa sb la lb m u c → mirror_since a b sa sb la lb m t c
earlier_law a b sa sb la lb m t u c le since =
    let behind = since.3 in (
      since.0,
      since.1,
      since.2,
      record {
        first = behind.first;
        second = behind.second;
        first_shown = behind.first_shown;
        second_shown = behind.second_shown;
        some = behind.some;
        shape = behind.shape;
        left = past_earlier (λ d. la d (first_name since.0)) (λ d. lb d (second_name since.0)) a.call_count b.call_count
            (IsLeftOf (attached_for since.0) (length behind.first) (length behind.first)) since.0 (moments_of m) m.first m.second t u c le behind.left;
      },
    )

-- ---- by names

-- a byte test of a name
pub has_plus : (name : List ℕ) → HasPlus name → nat_lt (position_or_len (λ byte. byte == 43) name) (length name) ≡ true
has_plus name plus = grind (arith, nat_tests, plus)

pub some_bytes : (l : List ℕ) → l ≢ [] → (length l == 0) ≡ false
some_bytes [] more = absurd (more refl)
some_bytes (x ∷ xs) more = grind (arith, nat_tests)

pub for_alone : (name : List ℕ) → position_or_len (λ byte. byte == 43) name ≡ length name → attached_for name ≡ Alone
for_alone name none =
    ap (λ t. if t then (if length (second_name name) == 0 then Member else Pair Both) else Alone)
    (let e : nat_lt (position_or_len (λ byte. byte == 43) name) (length name) ≡ false = grind (arith, nat_tests, none) in e)

pub for_member : (name : List ℕ) → HasPlus name → second_name name ≡ [] → attached_for name ≡ Member
for_member name plus empty =
    ap (λ t. if t then (if length (second_name name) == 0 then Member else Pair Both) else Alone) (has_plus name plus)
    ∙ ap (λ (l : List ℕ). if length l == 0 then Member else Pair Both) empty

pub for_two : (name : List ℕ) → HasPlus name → second_name name ≢ [] → attached_for name ≡ Pair Both
for_two name plus more =
    ap (λ t. if t then (if length (second_name name) == 0 then Member else Pair Both) else Alone) (has_plus name plus)
    ∙ ap (λ t. if t then Member else Pair Both) (some_bytes (second_name name) more)

-- which of the three it is
abbrev pub IsForm : List ℕ → Type 0
IsForm name =
    ((¬ HasPlus name) × (attached_for name ≡ Alone))
    ⊎ ((HasPlus name × (second_name name ≡ []) × (attached_for name ≡ Member))
    ⊎ (HasPlus name × (second_name name ≢ []) × (attached_for name ≡ Pair Both)))

empty_or : (l : List ℕ) → (l ≡ []) ⊎ (l ≢ [])
empty_or [] = inl refl
empty_or (x ∷ xs) = inr (λ e. cc)

pub form_of : (name : List ℕ) → IsForm name
form_of name = ⊎_elim
    (λ (plus : HasPlus name). ⊎_elim
    (λ (empty : second_name name ≡ []). inr (inl (plus, empty, for_member name plus empty)))
    (λ (more : second_name name ≢ []). inr (inr (plus, more, for_two name plus more)))
    (empty_or (second_name name)))
    (λ none. inl (
      λ plus. omega (arith, plus, none),
      ap (λ t. if t then (if length (second_name name) == 0 then Member else Pair Both) else Alone)
          (let e : nat_lt (position_or_len (λ byte. byte == 43) name) (length name) ≡ false = grind (arith, nat_tests, none) in e),
    ))
    (cases_lt (position_or_len (λ byte. byte == 43) name) (length name))

-- an attached one is what its name says
pub by_last : (at : Attached) (last : Option (List ℕ)) (name : List ℕ) → is_attached at ≡ true → last ≡ Some name → attached_by at last ≡ attached_for name
by_last Nothing last name has is = absurd (false≢true has)
by_last Alone last name has is = ap (attached_by Alone) is
by_last Member last name has is = ap (attached_by Member) is
by_last (Pair h) last name has is = ap (attached_by (Pair h)) is
by_last (Apart h) last name has is = ap (attached_by (Apart h)) is

-- the second half's image is the one that it holds, where it goes by its name
pub second_held : (name : List ℕ) (held named : Option Image) → (HasPlus name → second_name name ≢ [] → named ≡ held) → second_image (attached_for name) held named ≡ held
second_held name held named same = ⊎_elim
    (λ (one : (¬ HasPlus name) × (attached_for name ≡ Alone)). ap (λ at. second_image at held named) one.1)
    (λ more. ⊎_elim
    (λ (one : HasPlus name × (second_name name ≡ []) × (attached_for name ≡ Member)). ap (λ at. second_image at held named) one.2)
    (λ (two : HasPlus name × (second_name name ≢ []) × (attached_for name ≡ Pair Both)). ap (λ at. second_image at held named) two.2 ∙ same two.0 two.1)
    more)
    (form_of name)

-- what is shown for the name of what is attached is what reads give
pub shows_law : {A B : Type 0} (a : Ghosts A) (b : Ghosts B) (sa : A → List ℕ → Option Image) (sb : B → List ℕ → Option Image)
    → ((d : A) (n : List ℕ) → a.is_named d n → sa d n ≡ a.contents d) → ((d : B) (n : List ℕ) → b.is_named d n → sb d n ≡ b.contents d)
    → (m : Parts A B) (name : List ℕ) → GoesBy a b m name → mirror_shows b sa sb m name ≡ mirror_contents a b m
shows_law a b sa sb law_a law_b m name by =
    ap (λ o. shown_both (attached_for name) o (second_image (attached_for name) (b.contents m.second) (sb m.second (second_name name)))) (law_a m.first (first_name name) by.halves.first)
    ∙ ap (λ o. shown_both (attached_for name) (a.contents m.first) o)
    (second_held name (b.contents m.second) (sb m.second (second_name name)) (λ plus more. law_b m.second (second_name name) (by.halves.second plus more)))
    ∙ sym (ap (λ at. shown_both at (a.contents m.first) (b.contents m.second)) (by_last m.attached (last_name (moments_of m)) name by.attached by.last))

-- what is left behind that name is what is left of what is attached
pub left_law : {A B : Type 0} (a : Ghosts A) (b : Ghosts B) (sa : A → List ℕ → Option Image) (sb : B → List ℕ → Option Image) (la : A → List ℕ → ℕ → Image → Type 0) (lb : B → List ℕ → ℕ → Image → Type 0)
    (m : Parts A B) (name : List ℕ) (t : ℕ) (c : Image) → GoesBy a b m name → IsLeftBehind a b sa sb la lb m name t c ↔ mirror_since a b sa sb la lb m t c
left_law a b sa sb la lb m name t c by = (
  λ behind. (name, by.last, by.attached, behind),
  λ since. subst (λ (n : List ℕ). IsLeftBehind a b sa sb la lb m n t c) (same_Some since.0 name (sym since.1 ∙ by.last)) since.3,
)
