-- The messages that can change what stands in a range of keys, from where the range begins and ends
-- among the places.
use Rattle.std.proofs.Common.{length-append, length-take, length-drop, ◌-◌, drop, ◌≡◌, ◌↔◌, ℕ, zero, suc, ◌+◌, ◌<◌, ◌≤◌, Bool, true, not, List, [], ◌∷◌, length, get_or, set, refl, sym, ap, subst, ◌∙◌, Option, Some, arith, inl, inr}
use Rattle.std.specs.Prelude.{slice_get, IsTrue, ◌++◌, take}
use Rattle.std.proofs.lemmas.Bool.{cases_eq, cases_lt, cases_Bool}
use Rattle.std.proofs.lemmas.List.{length-set, take_more}
use Rattle.std.proofs.lemmas.Option.{same_Some, none-some, slice_get_within}
use Rattle.bd_keys.specs.Keys.{InRange}
use Rattle.bd_message.specs.declared.message.Message.{Message}
use Rattle.bd_node.specs.Touching.{CanTouch}
use Rattle.bd_node.specs.Index.{is_point, own_key, is_point_in, is_range_in, key_in, is_point_at, key_at, IsIndex}
use Rattle.bd_node.specs.Spans.{AreTouching, AreMarked, IsEndPosition}
use Rattle.bd_node.proofs.Indexing.{point_touches, touches_point}
use Rattle.bd_node.proofs.Spots.{has_place}

-- ---- one more mark

set_here : (mask : List Bool) (i : ℕ) → i < length mask → slice_get (set mask i true) i ≡ Some true
set_here [] i low = absurd (omega arith)
set_here (b ∷ mask) zero low = refl
set_here (b ∷ mask) (suc i) low = set_here mask i (omega arith)

set_else : (mask : List Bool) (i j : ℕ) → (j ≡ i → ⊥) → slice_get (set mask i true) j ≡ slice_get mask j
set_else [] i j other = refl
set_else (b ∷ mask) zero zero other = absurd (other refl)
set_else (b ∷ mask) zero (suc j) other = refl
set_else (b ∷ mask) (suc i) zero other = refl
set_else (b ∷ mask) (suc i) (suc j) other = set_else mask i j (λ same. other (ap (λ (n : ℕ). suc n) same))

-- what is marked stays so
set_stays : (mask : List Bool) (i j : ℕ) → i < length mask → slice_get mask j ≡ Some true → slice_get (set mask i true) j ≡ Some true
set_stays mask i j low is =
    elim (cases_eq j i) [
      | inl same ↦ ap (λ (n : ℕ). slice_get (set mask i true) n) same ∙ set_here mask i low
      | inr other ↦ set_else mask i j other ∙ is
    ]

pub marked_set : (mask : List Bool) (list : List Message) (lo : List ℕ) (hi : Option (List ℕ)) (places : List ℕ) (count i : ℕ) → AreMarked mask list lo hi places count → i < length list
    → ((m : Message) → slice_get list i ≡ Some m → CanTouch m lo hi) → AreMarked (set mask i true) list lo hi places count
marked_set mask list lo hi places count i h low can =
    let within : i < length mask = omega (arith, h.long) in
    record {
      long = length-set mask i true ∙ h.long;
      only = λ j m here is. elim (cases_eq j i) [
        | inl same ↦ can m (ap (λ (n : ℕ). slice_get list n) (sym same) ∙ here)
        | inr other ↦ h.only j m here (sym (set_else mask i j other) ∙ is)
      ];
      done = λ q m less inside here touch. set_stays mask i (get_or places q 0) within (h.done q m less inside here touch);
    }

pub marked_next : (mask : List Bool) (list : List Message) (lo : List ℕ) (hi : Option (List ℕ)) (places : List ℕ) (count : ℕ) → AreMarked mask list lo hi places count
    → ((m : Message) → slice_get list (get_or places count 0) ≡ Some m → CanTouch m lo hi → slice_get mask (get_or places count 0) ≡ Some true) → AreMarked mask list lo hi places (count + 1)
marked_next mask list lo hi places count h next = record {
  long = h.long;
  only = h.only;
  done = λ q m less inside here touch. elim (cases_lt q count) [
    | inl before ↦ h.done q m before inside here touch
    | inr after ↦ (let e : q ≡ count = omega arith in
        let at : slice_get list (get_or places count 0) ≡ Some m = ap (λ (j : ℕ). slice_get list (get_or places j 0)) (sym e) ∙ here in
        ap (λ (j : ℕ). slice_get mask (get_or places j 0)) e ∙ next m at touch)
  ];
}

-- the same with the mark
pub marked_more : (mask : List Bool) (list : List Message) (lo : List ℕ) (hi : Option (List ℕ)) (places : List ℕ) (count : ℕ) → AreMarked mask list lo hi places count → get_or places count 0 < length list
    → ((m : Message) → slice_get list (get_or places count 0) ≡ Some m → CanTouch m lo hi) → AreMarked (set mask (get_or places count 0) true) list lo hi places (count + 1)
marked_more mask list lo hi places count h low can =
    marked_next (set mask (get_or places count 0) true) list lo hi places count (marked_set mask list lo hi places count (get_or places count 0) h low can)
    (λ m here touch. set_here mask (get_or places count 0) (omega (arith, h.long)))

-- ---- message by message

each_pushed : (P : ℕ → Message → Type 0) (at : ℕ) (mask : List Bool) (front : List Message) (b : Bool) (m : Message) → at ≡ length front → length mask ≡ length front
    → ((i : ℕ) (n : Message) → slice_get front i ≡ Some n → (slice_get mask i ≡ Some true) ↔ P i n) → (IsTrue b ↔ P at m)
    → (i : ℕ) (n : Message) → slice_get (front ++ m ∷ []) i ≡ Some n → (slice_get (mask ++ b ∷ []) i ≡ Some true) ↔ P i n
each_pushed P zero [] [] b m at_is long h one zero n here = (
  (λ is. subst (λ (x : Message). P 0 x) (same_Some m n here) (one.0 (same_Some b true is))),
  (λ holds. ap (λ (x : Bool). Some x) (one.1 (subst (λ (x : Message). P 0 x) (sym (same_Some m n here)) holds))),
)
each_pushed P zero [] [] b m at_is long h one (suc i) n here = absurd (none-some n here)
each_pushed P (suc at) [] [] b m at_is long h one i n here = absurd (omega arith)
each_pushed P zero [] (d ∷ front) b m at_is long h one i n here = absurd (omega arith)
each_pushed P (suc at) [] (d ∷ front) b m at_is long h one i n here = absurd (omega arith)
each_pushed P zero (c ∷ mask) [] b m at_is long h one i n here = absurd (omega arith)
each_pushed P (suc at) (c ∷ mask) [] b m at_is long h one i n here = absurd (omega arith)
each_pushed P zero (c ∷ mask) (d ∷ front) b m at_is long h one i n here = absurd (omega arith)
each_pushed P (suc at) (c ∷ mask) (d ∷ front) b m at_is long h one zero n here = h 0 n here
each_pushed P (suc at) (c ∷ mask) (d ∷ front) b m at_is long h one (suc i) n here =
    each_pushed (λ j x. P (suc j) x) at mask front b m (omega arith) (omega arith) (λ j x there. h (suc j) x there) one i n here

-- what a list says of each message
pub record IsSaid (P : ℕ → Message → Type 0) (mask : List Bool) (list : List Message) : Type 0 where
  pub long : length mask ≡ length list
  pub each : (i : ℕ) (n : Message) → slice_get list i ≡ Some n → (slice_get mask i ≡ Some true) ↔ P i n

pub said_more : (P : ℕ → Message → Type 0) (mask new : List Bool) (b : Bool) (list : List Message) (i : ℕ) (m : Message) → IsSaid P mask (take i list) → i < length list → m ≡ get_or list i m
    → (IsTrue b ↔ P i m) → new ≡ mask ++ b ∷ [] → IsSaid P new (take (i + 1) list)
said_more P mask new b list i m h low is one made =
    let more : take (i + 1) list ≡ take i list ++ m ∷ [] = take_more list i m low ∙ ap (λ (x : Message). take i list ++ x ∷ []) (sym is) in
    let at : i ≡ length (take i list) = omega (arith, length-take {A = Message}) in
    let pushed : IsSaid P (mask ++ b ∷ []) (take i list ++ m ∷ []) = record {
      long = simp length-append (omega (arith, h.long));
      each = each_pushed P i mask (take i list) b m at h.long h.each one;
    } in
    subst (λ (x : List Bool). IsSaid P x (take (i + 1) list)) (sym made) (subst (λ (x : List Message). IsSaid P (mask ++ b ∷ []) x) (sym more) pushed)

pub touching_more : (mask new : List Bool) (b : Bool) (list : List Message) (lo : List ℕ) (hi : Option (List ℕ)) (i : ℕ) (m : Message) → AreTouching mask (take i list) lo hi → i < length list → m ≡ get_or list i m
    → (IsTrue b ↔ CanTouch m lo hi) → new ≡ mask ++ b ∷ [] → AreTouching new (take (i + 1) list) lo hi
touching_more mask new b list lo hi i m h low is can made =
    let said : IsSaid (λ j n. CanTouch n lo hi) mask (take i list) = record { long = h.long; each = h.each } in
    let more = said_more (λ j n. CanTouch n lo hi) mask new b list i m said low is can made in
    record { long = more.long; each = more.each }

-- what is said of those from a place on
dropped : {X : Type 0} (xs : List X) (n i j : ℕ) → j ≡ n + i → slice_get (drop n xs) i ≡ slice_get xs j
dropped xs zero i j e = ap (λ (k : ℕ). slice_get xs k) (let same : i ≡ j = omega arith in same)
dropped [] (suc n) i j e = refl
dropped (x ∷ xs) (suc n) i zero e = absurd (omega arith)
dropped (x ∷ xs) (suc n) i (suc j) e = dropped xs n i j (omega arith)

pub touching_dropped : (mask : List Bool) (list : List Message) (lo : List ℕ) (hi : Option (List ℕ)) (from : ℕ) → AreTouching mask list lo hi → AreTouching (drop from mask) (drop from list) lo hi
touching_dropped mask list lo hi from h = record {
  long = simp length-drop (ap (λ (n : ℕ). n - from) h.long);
  each = λ i m here. subst (λ (o : Option Bool). (o ≡ Some true) ↔ CanTouch m lo hi) (sym (dropped mask from i (from + i) refl))
      (h.each (from + i) m (sym (dropped list from i (from + i) refl) ∙ here));
}

-- ---- messages on one key

touch_range : (list : List Message) (lo : List ℕ) (hi : Option (List ℕ)) (i : ℕ) (m : Message) → slice_get list i ≡ Some m → is_point_at list i ≡ true → CanTouch m lo hi → InRange lo hi (key_at list i)
touch_range list lo hi i m here point can =
    let is : is_point m ≡ true = ap is_point_in (sym here) ∙ point in
    let key : key_at list i ≡ own_key m = ap key_in here in
    subst (λ (k : List ℕ). InRange lo hi k) (sym (key ∙ touches_point (Some m) can.0 is can.2)) can.1

range_touch : (list : List Message) (lo : List ℕ) (hi : Option (List ℕ)) (i : ℕ) (m : Message) → slice_get list i ≡ Some m → is_point_at list i ≡ true → InRange lo hi (key_at list i) → CanTouch m lo hi
range_touch list lo hi i m here point range =
    let is : is_point m ≡ true = ap is_point_in (sym here) ∙ point in
    let key : own_key m ≡ key_at list i = sym (ap key_in here) in
    (key_at list i, range, point_touches (Some m) (key_at list i) is key)

-- those before the range can't
pub points_first : (mask : List Bool) (list : List Message) (lo : List ℕ) (hi : Option (List ℕ)) (points ranges : List ℕ) (first : ℕ) → IsIndex list (length list) points ranges → IsEndPosition list points (Some lo) first
    → AreMarked mask list lo hi [] 0 → AreMarked mask list lo hi points first
points_first mask list lo hi points ranges first ix begin h = record {
  long = h.long;
  only = h.only;
  done = λ q m less inside here touch. absurd ((touch_range list lo hi (get_or points q 0) m here (ix.point q inside) touch).0 (begin.before q less));
}

pub points_more : (mask : List Bool) (list : List Message) (lo : List ℕ) (hi : Option (List ℕ)) (points ranges : List ℕ) (first at last : ℕ) → IsIndex list (length list) points ranges → IsEndPosition list points (Some lo) first
    → IsEndPosition list points hi last → AreMarked mask list lo hi points at → first ≤ at → at < last → AreMarked (set mask (get_or points at 0) true) list lo hi points (at + 1)
points_more mask list lo hi points ranges first at last ix begin end h low less =
    let most : last ≤ length points = end.within in
    let inside : at < length points = omega arith in
    marked_more mask list lo hi points at h (ix.below at inside)
    (λ m here. range_touch list lo hi (get_or points at 0) m here (ix.point at inside) (begin.after at low inside, end.before at less))

-- nor can those after it
pub points_all : (mask : List Bool) (list : List Message) (lo : List ℕ) (hi : Option (List ℕ)) (points ranges : List ℕ) (at last : ℕ) → IsIndex list (length list) points ranges → IsEndPosition list points hi last
    → AreMarked mask list lo hi points at → last ≤ at → AreMarked mask list lo hi points (length points)
points_all mask list lo hi points ranges at last ix end h past = record {
  long = h.long;
  only = h.only;
  done = λ q m less inside here touch. elim (cases_lt q at) [
    | inl before ↦ h.done q m before inside here touch
    | inr after ↦ absurd (end.after q (omega arith) inside (touch_range list lo hi (get_or points q 0) m here (ix.point q inside) touch).1)
  ];
}

-- ---- and those on ranges

-- marks of those on one key, and of the first so many on ranges
pub record AreBothMarked (mask : List Bool) (list : List Message) (lo : List ℕ) (hi : Option (List ℕ)) (points ranges : List ℕ) (at : ℕ) : Type 0 where
  pub points_done : AreMarked mask list lo hi points (length points)
  pub ranges_done : AreMarked mask list lo hi ranges at

pub both_first : (mask : List Bool) (list : List Message) (lo : List ℕ) (hi : Option (List ℕ)) (points ranges : List ℕ) → AreMarked mask list lo hi points (length points) → AreBothMarked mask list lo hi points ranges 0
both_first mask list lo hi points ranges h = record {
  points_done = h;
  ranges_done = record { long = h.long; only = h.only; done = λ q m less inside here touch. absurd (omega arith) };
}

-- the message that is read at a place
read_at : (list : List Message) (i : ℕ) (m : Message) → m ≡ get_or list i m → (n : Message) → slice_get list i ≡ Some n → n ≡ m
read_at [] i m is n here = absurd (let low : i < 0 = slice_get_within [] i n here in omega arith)
read_at (d ∷ list) zero m is n here = sym (same_Some d n here) ∙ sym is
read_at (d ∷ list) (suc i) m is n here = read_at list i m is n here

pub both_marked : (mask : List Bool) (list : List Message) (lo : List ℕ) (hi : Option (List ℕ)) (points ranges : List ℕ) (at : ℕ) (m : Message) → AreBothMarked mask list lo hi points ranges at → get_or ranges at 0 < length list
    → m ≡ get_or list (get_or ranges at 0) m → CanTouch m lo hi → AreBothMarked (set mask (get_or ranges at 0) true) list lo hi points ranges (at + 1)
both_marked mask list lo hi points ranges at m h low is can =
    let each = λ (n : Message) (here : slice_get list (get_or ranges at 0) ≡ Some n). subst (λ (x : Message). CanTouch x lo hi) (sym (read_at list (get_or ranges at 0) m is n here)) can in
    record {
      points_done = marked_set mask list lo hi points (length points) (get_or ranges at 0) h.points_done low each;
      ranges_done = marked_more mask list lo hi ranges at h.ranges_done low each;
    }

pub both_passed : (mask : List Bool) (list : List Message) (lo : List ℕ) (hi : Option (List ℕ)) (points ranges : List ℕ) (at : ℕ) (m : Message) → AreBothMarked mask list lo hi points ranges at
    → m ≡ get_or list (get_or ranges at 0) m → (CanTouch m lo hi → ⊥) → AreBothMarked mask list lo hi points ranges (at + 1)
both_passed mask list lo hi points ranges at m h is cannot = record {
  points_done = h.points_done;
  ranges_done = marked_next mask list lo hi ranges at h.ranges_done
      (λ n here touch. absurd (cannot (subst (λ (x : Message). CanTouch x lo hi) (read_at list (get_or ranges at 0) m is n here) touch)));
}

pub both_all : (mask : List Bool) (list : List Message) (lo : List ℕ) (hi : Option (List ℕ)) (points ranges : List ℕ) (at : ℕ) → IsIndex list (length list) points ranges → AreBothMarked mask list lo hi points ranges at → length ranges ≤ at
    → AreTouching mask list lo hi
both_all mask list lo hi points ranges at ix h past = record {
  long = h.points_done.long;
  each = λ i m here. (
    (λ is. h.points_done.only i m here is),
    (λ touch. (let low : i < length list = slice_get_within list i m here in
        elim (cases_Bool (is_point m)) [
          | inl point ↦ (let there = has_place points i (ix.all_points i low (ap is_point_in here ∙ point)) in
              subst (λ (j : ℕ). slice_get mask j ≡ Some true) there.2
              (h.points_done.done there.0 m there.1 there.1 (ap (λ (j : ℕ). slice_get list j) there.2 ∙ here) touch))
          | inr range ↦ (let there = has_place ranges i (ix.all_ranges i low (ap is_range_in here ∙ ap not range)) in
              let inside : there.0 < length ranges = there.1 in
              subst (λ (j : ℕ). slice_get mask j ≡ Some true) there.2
              (h.ranges_done.done there.0 m (omega arith) there.1 (ap (λ (j : ℕ). slice_get list j) there.2 ∙ here) touch))
        ])),
  );
}
