-- Messages of which some stay, in place.
use Rattle.std.proofs.Common.{◌≡◌, ℕ, ◌+◌, ◌<◌, ◌≤◌, Bool, true, false, List, [], ◌∷◌, ◌++◌, length, take, drop, set, get_or, refl, sym, ap, subst, ◌∙◌, arith, inl, inr, add-zero}
use Rattle.std.specs.List.{swap}
use Rattle.std.proofs.lemmas.Bool.{cases_lt}
use Rattle.std.proofs.lemmas.List.{append-nil, drop-drop, drop-set-lt, get_or-drop, length-set, take_all, take_more_set, take-set-le}
use Rattle.std.proofs.lemmas.List.Edits.{swap_is}
use Rattle.std.proofs.lemmas.Option.{get_or_from_slice_get}
use Rattle.bd_message.specs.declared.message.Message.{Message}
use Rattle.bd_node.specs.declared.index.Index.{Index}
use Rattle.bd_node.specs.Index.{IsIndex}
use Rattle.bd_node.specs.Stems.{AreByStem}
use Rattle.bd_node.specs.Keeping.{staying, moved}
use Rattle.bd_node.proofs.Keeping.{some_at, staying_more, kept_index, kept_stems}

-- ---- the messages

-- those that stay of the messages before a place stand first, and from there on all are as they were
pub record IsKeeping (mask : List Bool) (old new : List Message) (place kept : ℕ) : Type 0 where
  pub low : kept ≤ place
  pub long : length new ≡ length old
  pub front : take kept new ≡ staying (take place mask) (take place old)
  pub back : drop place new ≡ drop place old

pub keeping_none : (mask : List Bool) (xs : List Message) → IsKeeping mask xs xs 0 0
keeping_none mask xs = record { low = omega arith; long = refl; front = refl; back = refl }

next_back : (xs ys : List Message) (i : ℕ) → drop i xs ≡ drop i ys → drop (i + 1) xs ≡ drop (i + 1) ys
next_back xs ys i same = sym (drop-drop 1 i xs) ∙ ap (λ (l : List Message). drop 1 l) same ∙ drop-drop 1 i ys

-- a message that goes
pub keeping_skip : (mask : List Bool) (old new : List Message) (place kept : ℕ) → length mask ≡ length old → place < length mask → get_or mask place false ≡ false → IsKeeping mask old new place kept → IsKeeping mask old new (place + 1) kept
keeping_skip mask old new place kept long low gone h =
    let here = some_at old place (omega arith) in
    record {
      low = (let l : kept ≤ place = h.low in omega arith);
      long = h.long;
      front = staying_more mask old place false here.0 (take kept new) (take kept new) long low (sym gone) (sym (get_or_from_slice_get old place here.0 here.0 here.1)) h.front (sym (append-nil (take kept new)));
      back = next_back new old place h.back;
    }

swapped_front : (ys : List Message) (kept place : ℕ) (x y : Message) → kept ≤ place → place < length ys → (kept ≡ place → y ≡ x) → take (kept + 1) (set (set ys kept x) place y) ≡ take kept ys ++ x ∷ []
swapped_front ys kept place x y low within same =
    elim (cases_lt kept place) [
      | inl less ↦ take-set-le (kept + 1) (set ys kept x) place y (omega arith) ∙ take_more_set ys kept x (omega arith)
      | inr most ↦
          let e : kept ≡ place = omega arith in
          ap (λ (i : ℕ). take (kept + 1) (set (set ys kept x) i y)) (sym e)
          ∙ take_more_set (set ys kept x) kept y (omega (arith, length-set ys kept x))
          ∙ ap (λ (l : List Message). l ++ y ∷ []) (take-set-le kept ys kept x (omega arith))
          ∙ ap (λ (z : Message). take kept ys ++ z ∷ []) (same e)
    ]

swapped_back : (ys : List Message) (kept place : ℕ) (x y : Message) → kept ≤ place → drop (place + 1) (set (set ys kept x) place y) ≡ drop (place + 1) ys
swapped_back ys kept place x y low = drop-set-lt (place + 1) (set ys kept x) place y (omega arith) ∙ drop-set-lt (place + 1) ys kept x (omega arith)

at_front : (xs : List Message) (i : ℕ) (d : Message) → get_or (drop i xs) 0 d ≡ get_or xs i d
at_front xs i d = get_or-drop i xs 0 d ∙ ap (λ (n : ℕ). get_or xs n d) (add-zero i)

-- a message that stays
pub keeping_swap : (mask : List Bool) (old new next : List Message) (place kept : ℕ) → length mask ≡ length old → place < length mask → get_or mask place false ≡ true → IsKeeping mask old new place kept → next ≡ swap new kept place
    → IsKeeping mask old next (place + 1) (kept + 1)
keeping_swap mask old new next place kept long low stays h is =
    let here = some_at old place (omega arith) in
    let x : Message = here.0 in
    let y : Message = get_or new kept x in
    let within : place < length new = omega (arith, h.long) in
    let least : kept ≤ place = h.low in
    let read_old : get_or old place x ≡ x = get_or_from_slice_get old place x x here.1 in
    let read : get_or new place x ≡ x = sym (at_front new place x) ∙ ap (λ (l : List Message). get_or l 0 x) h.back ∙ at_front old place x ∙ read_old in
    let made : next ≡ set (set new kept x) place y = is ∙ sym (swap_is new kept place x (omega arith) within) ∙ ap (λ (z : Message). set (set new kept z) place y) read in
    record {
      low = omega arith;
      long = ap (λ (l : List Message). length l) made ∙ length-set (set new kept x) place y ∙ length-set new kept x ∙ h.long;
      front = staying_more mask old place true x (take kept new) (take (kept + 1) next) long low (sym stays) (sym read_old) h.front
          (ap (λ (l : List Message). take (kept + 1) l) made ∙ swapped_front new kept place x y least within (λ e. ap (λ (i : ℕ). get_or new i x) e ∙ read));
      back = ap (λ (l : List Message). drop (place + 1) l) made ∙ swapped_back new kept place x y least ∙ next_back new old place h.back;
    }

pub keeping_all : (mask : List Bool) (old new : List Message) (place kept : ℕ) → length mask ≡ length old → length mask ≤ place → IsKeeping mask old new place kept → take kept new ≡ staying mask old
keeping_all mask old new place kept long past h =
    h.front
    ∙ ap (λ (l : List Bool). staying l (take place old)) (take_all place mask past)
    ∙ ap (λ (l : List Message). staying mask l) (take_all place old (omega arith))

-- ---- their index

-- the index is one of these messages
abbrev pub IsIndexOf : List Message → Index → Type 0
IsIndexOf list index =
    IsIndex list (length list) index.points.items index.ranges.items × AreByStem list (length list) index.stems.items

pub kept_both : (mask : List Bool) (xs : List Message) (old new : Index) → length mask ≡ length xs → IsIndexOf xs old → new.points.items ≡ moved mask old.points.items → new.ranges.items ≡ moved mask old.ranges.items → new.stems.items ≡ moved mask old.stems.items
    → IsIndexOf (staying mask xs) new
kept_both mask xs old new long h points ranges stems =
    let kept : List Message = staying mask xs in (
      subst (λ (p : List ℕ). IsIndex kept (length kept) p new.ranges.items) (sym points)
          (subst (λ (r : List ℕ). IsIndex kept (length kept) (moved mask old.points.items) r) (sym ranges) (kept_index mask xs old.points.items old.ranges.items long h.0)),
      subst (λ (s : List ℕ). AreByStem kept (length kept) s) (sym stems) (kept_stems mask xs old.stems.items long h.1),
    )
