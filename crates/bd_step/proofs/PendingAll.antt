-- How many bytes are pending for each edge, message by message.
use Rattle.std.proofs.Common.{◌≡◌, Less, ℕ, zero, suc, ◌+◌, ◌<◌, ◌≤◌, true, List, [], ◌∷◌, length, drop, take, get_or, set, refl, sym, ap, subst, ◌∙◌, Some, arith, inl, inr, add-one}
use Rattle.std.specs.Prelude.{slice_get}
use Rattle.std.specs.List.{sum_by}
use Rattle.std.proofs.lemmas.Bool.{cases_eq}
use Rattle.std.proofs.lemmas.Cmp.{nat_list_cmp_total as total}
use Rattle.std.proofs.lemmas.List.{drop_more, get_or_default, get_or-set_same, get_or-set_other, length-set}
use Rattle.std.proofs.lemmas.List.Sums.{sum_by-cons}
use Rattle.std.specs.List.{AllByRecursion}
use Rattle.std.specs.Ordering.{ordering_reverse}
use Rattle.std.proofs.lemmas.Option.{same_Some, none-some, slice_get_within, slice_get-get_or, slice_get_cases}
use Rattle.bd_keys.specs.Keys.{IsBelow, IsBelowEnd, InRange}
use Rattle.bd_message.specs.declared.message.Message.{Message}
use Rattle.bd_message.specs.Messages.{size}
use Rattle.bd_node.specs.declared.node.Edge.{Edge}
use Rattle.bd_node.specs.Index.{is_point, own_key}
use Rattle.bd_node.specs.Nodes.{edge_of}
use Rattle.bd_node.specs.Shape.{end_before, AreRising, IsPending}
use Rattle.bd_node.proofs.Edges.{edge_of-only}
use Rattle.bd_node.proofs.Indexing.{touches_point}
use Rattle.bd_node.proofs.Owning.{edge_has}
use Rattle.bd_step.specs.Filling.{IsWaiting, IsPendingSize, ArePendingSizes, AreRaised, IsFirstGreatest}
use Rattle.bd_step.proofs.PendingSizes.{IsSoFar, so_far_none, so_far_more, so_far_all}

-- ---- edge by edge

-- where the first pivot is empty there is an edge
pub first_some : (es : List Edge) → end_before es ≡ Some [] → 1 ≤ length es
first_some [] first = absurd (none-some [] first)
first_some (e ∷ es) first = omega arith

sizes_each : (buffer : List Message) (es : List Edge) (ns : List ℕ) → length ns ≡ length es → ((j : ℕ) (e : Edge) → slice_get es j ≡ Some e → IsPendingSize e (end_before (drop (suc j) es)) 0 buffer (get_or ns j 0)) → ArePendingSizes buffer es ns
sizes_each buffer [] [] long h = refl
sizes_each buffer [] (n ∷ ns) long h = absurd (omega arith)
sizes_each buffer (e ∷ es) [] long h = absurd (omega arith)
sizes_each buffer (e ∷ es) (n ∷ ns) long h = (h 0 e refl, sizes_each buffer es ns (omega arith) (λ j d there. h (suc j) d there))

-- ---- the messages before a place

-- so many bytes of the messages before a place are pending for each edge
pub record AreSoFar (edges : List Edge) (buffer : List Message) (place : ℕ) (sizes : List ℕ) : Type 0 where
  pub long : length sizes ≡ length edges
  pub each : (j : ℕ) (e : Edge) → slice_get edges j ≡ Some e → IsSoFar e (end_before (drop (suc j) edges)) buffer place (get_or sizes j 0)

pub sizes_none : (edges : List Edge) (buffer : List Message) (sizes : List ℕ) → length sizes ≡ length edges → ((j : ℕ) → get_or sizes j 0 ≡ 0) → AreSoFar edges buffer 0 sizes
sizes_none edges buffer sizes long zeros = record {
  long = long;
  each = λ j e there. subst (λ (n : ℕ). IsSoFar e (end_before (drop (suc j) edges)) buffer 0 n) (sym (zeros j)) (so_far_none e (end_before (drop (suc j) edges)) buffer);
}

pub sizes_more : (edges : List Edge) (buffer : List Message) (place : ℕ) (sizes new : List ℕ) (m : Message) → AreSoFar edges buffer place sizes → place < length buffer → m ≡ get_or buffer place m → AreRaised place m edges sizes new
    → AreSoFar edges buffer (place + 1) new
sizes_more edges buffer place sizes new m h low is raised = record {
  long = raised.long ∙ h.long;
  each = λ j e there.
      let own = raised.each j e there in
      let waits : IsWaiting place m e (end_before (drop (suc j) edges)) own.0 = subst (λ (i : ℕ). IsWaiting place m e (end_before (drop i edges)) own.0) (add-one j) own.1 in
      subst (λ (n : ℕ). IsSoFar e (end_before (drop (suc j) edges)) buffer (place + 1) n) (sym own.2)
      (so_far_more e (end_before (drop (suc j) edges)) buffer place (get_or sizes j 0) own.0 m (h.each j e there) low is waits);
}

-- there is room for the size of the message at the place
pub sizes_room : (edges : List Edge) (buffer : List Message) (place most : ℕ) (sizes : List ℕ) (m : Message) → AreSoFar edges buffer place sizes → place < length buffer → m ≡ get_or buffer place m → sum_by size buffer ≤ most
    → (j : ℕ) → j < length edges → get_or sizes j 0 + size m ≤ most
sizes_room edges buffer place most sizes m h low is fits j within =
    let next : drop place buffer ≡ m ∷ drop (place + 1) buffer = drop_more buffer place m low ∙ ap (λ (x : Message). x ∷ drop (place + 1) buffer) (sym is) in
    let known = slice_get_cases edges j in
    elim known.1 [
      | inl one ↦ (
          let held : get_or sizes j 0 + sum_by size (drop place buffer) ≤ sum_by size buffer = (h.each j one.0 one.2).most in
          omega (arith, ap (λ (ms : List Message). sum_by size ms) next, sum_by-cons size m (drop (place + 1) buffer)))
      | inr none ↦ (let e : length edges ≤ j = none.0 in absurd (omega arith))
    ]

pub sizes_all : (edges : List Edge) (buffer : List Message) (place : ℕ) (sizes : List ℕ) → AreSoFar edges buffer place sizes → drop place buffer ≡ [] → ArePendingSizes buffer edges sizes
sizes_all edges buffer place sizes h end =
    sizes_each buffer edges sizes h.long (λ j e there. so_far_all e (end_before (drop (suc j) edges)) buffer place (get_or sizes j 0) (h.each j e there) end)

-- ---- one message

-- no key is below itself
not_below : (k : List ℕ) → IsBelow k k → ⊥
not_below k less = (let e : Less ≡ ordering_reverse Less = sym less ∙ total.antisymm k k ∙ ap ordering_reverse less in (cc))

below_later : (e : Edge) (es : List Edge) (j : ℕ) (g : Edge) → AreRising (e ∷ es) → slice_get es j ≡ Some g → IsBelow e.pivot g.pivot
below_later e [] j g h there = absurd (none-some g there)
below_later e (f ∷ es) zero g h there = subst (λ (d : Edge). IsBelow e.pivot d.pivot) (same_Some f g there) h.0
below_later e (f ∷ es) (suc j) g h there = total.trans e.pivot f.pivot g.pivot h.0 (below_later f es j g h.1 there)

-- an edge stands at one place
same_place : (es : List Edge) (i j : ℕ) (f : Edge) → AreRising es → slice_get es i ≡ Some f → slice_get es j ≡ Some f → i ≡ j
same_place [] i j f h at_i at_j = absurd (none-some f at_i)
same_place (e ∷ es) zero zero f h at_i at_j = refl
same_place (e ∷ es) zero (suc j) f h at_i at_j = absurd (not_below e.pivot (below_later e es j e h (at_j ∙ sym at_i)))
same_place (e ∷ es) (suc i) zero f h at_i at_j = absurd (not_below e.pivot (below_later e es i e h (at_i ∙ sym at_j)))
same_place (e ∷ es) (suc i) (suc j) f h at_i at_j = ap (λ (n : ℕ). suc n) (same_place es i j f h.1 at_i at_j)

-- a message on one key is pending for no edge but the key's
only_there : (place : ℕ) (m : Message) (es : List Edge) (at j : ℕ) (f : Edge) → AreRising es → is_point m ≡ true → slice_get es at ≡ edge_of es (own_key m) → slice_get es j ≡ Some f → IsPending place m f (end_before (drop (suc j) es)) → j ≡ at
only_there place m es at j f rising point is there h =
    let inside : InRange f.pivot (end_before (drop (suc j) es)) (own_key m) = subst (λ (l : List ℕ). InRange f.pivot (end_before (drop (suc j) es)) l) (sym (touches_point (Some m) h.1.0 point h.1.2)) h.1.1 in
    let found : edge_of es (own_key m) ≡ Some f = edge_has (λ (e : Edge) hi. InRange e.pivot hi (own_key m) → edge_of es (own_key m) ≡ Some e) es j f (edge_of-only es (own_key m) rising) there inside in
    same_place es j at f rising there (is ∙ found)

pub rising_end : (es : List Edge) (at : ℕ) (e : Edge) → AreRising es → at < length es → e ≡ get_or es at e → IsBelowEnd e.pivot (end_before (drop (at + 1) es))
rising_end es at e rising low is =
    subst (λ (i : ℕ). IsBelowEnd e.pivot (end_before (drop i es))) (sym (add-one at))
    (edge_has (λ (d : Edge) hi. IsBelowEnd d.pivot hi) es at e rising (slice_get-get_or es at e low ∙ ap (λ (d : Edge). Some d) (sym is)))

-- the message's size, at the edge of its key
pub raised_one : (place : ℕ) (m : Message) (es : List Edge) (old : List ℕ) (at own : ℕ) (e : Edge) → AreRising es → is_point m ≡ true → length old ≡ length es → slice_get es at ≡ edge_of es (own_key m) → at < length es → e ≡ get_or es at e
    → IsWaiting place m e (end_before (drop (at + 1) es)) own → AreRaised place m es old (set old at (get_or old at 0 + own))
raised_one place m es old at own e rising point long found low is waits = record {
  long = length-set old at (get_or old at 0 + own);
  each = λ j f there. elim (cases_eq j at) [
    | inl same ↦ let here : f ≡ e = same_Some f e (sym there ∙ ap (λ (i : ℕ). slice_get es i) same ∙ slice_get-get_or es at e low ∙ ap (λ (d : Edge). Some d) (sym is)) in (
      own,
      subst (λ (i : ℕ). IsWaiting place m f (end_before (drop (i + 1) es)) own) (sym same) (subst (λ (d : Edge). IsWaiting place m d (end_before (drop (at + 1) es)) own) (sym here) waits),
      ap (λ (i : ℕ). get_or (set old at (get_or old at 0 + own)) i 0) same ∙ get_or-set_same old at (get_or old at 0 + own) 0 (omega arith) ∙ ap (λ (i : ℕ). get_or old i 0 + own) (sym same),
    )
    | inr other ↦ (
      0,
      inr ((λ h. other (only_there place m es at j f rising point found there (subst (λ (i : ℕ). IsPending place m f (end_before (drop i es))) (add-one j) h))), refl),
      get_or-set_other old at j (get_or old at 0 + own) 0 other ∙ (let z : get_or old j 0 ≡ get_or old j 0 + 0 = omega arith in z),
    )
  ];
}

-- the same of the edges before a place
pub record AreRaisedTo (place : ℕ) (m : Message) (edges : List Edge) (old new : List ℕ) (at : ℕ) : Type 0 where
  pub long : length new ≡ length old
  pub each : (j : ℕ) (e : Edge) → j < at → slice_get edges j ≡ Some e → (own : ℕ) × IsWaiting place m e (end_before (drop (j + 1) edges)) own × (get_or new j 0 ≡ get_or old j 0 + own)
  pub rest : (j : ℕ) → at ≤ j → get_or new j 0 ≡ get_or old j 0

pub raised_none : (place : ℕ) (m : Message) (edges : List Edge) (old : List ℕ) → AreRaisedTo place m edges old old 0
raised_none place m edges old = record { long = refl; each = λ j e low there. absurd (omega arith); rest = λ j low. refl }

pub raised_more : (place : ℕ) (m : Message) (es : List Edge) (old new : List ℕ) (at own : ℕ) (e : Edge) → AreRaisedTo place m es old new at → length old ≡ length es → at < length es → e ≡ get_or es at e
    → IsWaiting place m e (end_before (drop (at + 1) es)) own → AreRaisedTo place m es old (set new at (get_or new at 0 + own)) (at + 1)
raised_more place m es old new at own e h long low is waits =
    let same_long : length new ≡ length old = h.long in
    record {
      long = length-set new at (get_or new at 0 + own) ∙ h.long;
      each = λ j f less there. elim (cases_eq j at) [
        | inl same ↦ let here : f ≡ e = same_Some f e (sym there ∙ ap (λ (i : ℕ). slice_get es i) same ∙ slice_get-get_or es at e low ∙ ap (λ (d : Edge). Some d) (sym is)) in (
          own,
          subst (λ (i : ℕ). IsWaiting place m f (end_before (drop (i + 1) es)) own) (sym same) (subst (λ (d : Edge). IsWaiting place m d (end_before (drop (at + 1) es)) own) (sym here) waits),
          ap (λ (i : ℕ). get_or (set new at (get_or new at 0 + own)) i 0) same ∙ get_or-set_same new at (get_or new at 0 + own) 0 (omega arith) ∙ ap (λ (n : ℕ). n + own) (h.rest at (omega arith)) ∙ ap (λ (i : ℕ). get_or old i 0 + own) (sym same),
        )
        | inr other ↦ let before = h.each j f (omega (arith, other)) there in (
          before.0,
          before.1,
          get_or-set_other new at j (get_or new at 0 + own) 0 other ∙ before.2,
        )
      ];
      rest = λ j least. get_or-set_other new at j (get_or new at 0 + own) 0 (λ same. absurd (omega (arith, same))) ∙ h.rest j (omega arith);
    }

pub raised_all : (place : ℕ) (m : Message) (es : List Edge) (old new : List ℕ) (at : ℕ) → AreRaisedTo place m es old new at → length es ≤ at → AreRaised place m es old new
raised_all place m es old new at h end = record {
  long = h.long;
  each = λ j e there. h.each j e (let low : j < length es = slice_get_within es j e there in omega arith) there;
}

-- ---- the greatest

-- the greatest of the numbers before a place, and the first place where it stands
pub record IsGreatestSoFar (numbers : List ℕ) (at place n : ℕ) : Type 0 where
  pub within : place < length numbers
  pub is : n ≡ get_or numbers place 0
  pub most : (j : ℕ) → j < at → get_or numbers j 0 ≤ n
  pub first : (j : ℕ) → j < place → get_or numbers j 0 < n
  pub early : place ≤ at

pub greatest_none : (numbers : List ℕ) (n : ℕ) → 1 ≤ length numbers → n ≡ get_or numbers 0 n → IsGreatestSoFar numbers 0 0 n
greatest_none numbers n some is = record {
  within = omega arith;
  is = is ∙ get_or_default numbers 0 n 0 (omega arith);
  most = λ j low. absurd (omega arith);
  first = λ j low. absurd (omega arith);
  early = omega arith;
}

pub greatest_new : (numbers : List ℕ) (at place n own : ℕ) → IsGreatestSoFar numbers at place n → at < length numbers → own ≡ get_or numbers at own → n < own → IsGreatestSoFar numbers (at + 1) at own
greatest_new numbers at place n own h low is more =
    let here : own ≡ get_or numbers at 0 = is ∙ get_or_default numbers at own 0 low in
    record {
      within = low;
      is = here;
      most = λ j less. elim (cases_eq j at) [
        | inl same ↦ (let e : get_or numbers j 0 ≡ get_or numbers at 0 = ap (λ (i : ℕ). get_or numbers i 0) same in omega arith)
        | inr other ↦ (let l : get_or numbers j 0 ≤ n = h.most j (omega (arith, other)) in omega arith)
      ];
      first = λ j less. (let l : get_or numbers j 0 ≤ n = h.most j less in omega arith);
      early = omega arith;
    }

pub greatest_old : (numbers : List ℕ) (at place n own : ℕ) → IsGreatestSoFar numbers at place n → at < length numbers → own ≡ get_or numbers at own → own ≤ n → IsGreatestSoFar numbers (at + 1) place n
greatest_old numbers at place n own h low is less =
    let here : own ≡ get_or numbers at 0 = is ∙ get_or_default numbers at own 0 low in
    record {
      within = h.within;
      is = h.is;
      most = λ j before. elim (cases_eq j at) [
        | inl same ↦ (let e : get_or numbers j 0 ≡ get_or numbers at 0 = ap (λ (i : ℕ). get_or numbers i 0) same in omega arith)
        | inr other ↦ h.most j (omega (arith, other))
      ];
      first = h.first;
      early = (let l : place ≤ at = h.early in omega arith);
    }

all_most : (xs : List ℕ) (n : ℕ) → ((j : ℕ) → j < length xs → get_or xs j 0 ≤ n) → AllByRecursion (λ m. m ≤ n) xs
all_most [] n h = tt
all_most (x ∷ xs) n h = (h 0 (omega arith), all_most xs n (λ j low. h (suc j) (omega arith)))

all_less : (xs : List ℕ) (place n : ℕ) → place ≤ length xs → ((j : ℕ) → j < place → get_or xs j 0 < n) → AllByRecursion (λ m. m < n) (take place xs)
all_less xs zero n within h = tt
all_less [] (suc place) n within h = absurd (omega arith)
all_less (x ∷ xs) (suc place) n within h = (h 0 (omega arith), all_less xs place n (omega arith) (λ j low. h (suc j) (omega arith)))

pub greatest_all : (numbers : List ℕ) (at place n : ℕ) → IsGreatestSoFar numbers at place n → length numbers ≤ at → IsFirstGreatest numbers place n
greatest_all numbers at place n h end =
    let low : place < length numbers = h.within in
    record {
      there = slice_get-get_or numbers place 0 h.within ∙ ap (λ (x : ℕ). Some x) (sym h.is);
      most = all_most numbers n (λ j less. h.most j (omega arith));
      first = all_less numbers place n (omega arith) h.first;
    }

-- ---- the fullest edge

long_sizes : (buffer : List Message) (es : List Edge) (ns : List ℕ) → ArePendingSizes buffer es ns → length ns ≡ length es
long_sizes buffer [] ns h = ap (λ (l : List ℕ). length l) h
long_sizes buffer (e ∷ es) [] h = absurd h
long_sizes buffer (e ∷ es) (n ∷ ns) h = (let rest : length ns ≡ length es = long_sizes buffer es ns h.1 in omega arith)

pub some_sizes : (buffer : List Message) (es : List Edge) (ns : List ℕ) → ArePendingSizes buffer es ns → 1 ≤ length es → 1 ≤ length ns
some_sizes buffer es ns h some = (let e : length ns ≡ length es = long_sizes buffer es ns h in omega arith)

pub within_edges : (buffer : List Message) (es : List Edge) (ns : List ℕ) (place n : ℕ) → ArePendingSizes buffer es ns → IsFirstGreatest ns place n → place < length es
within_edges buffer es ns place n h great =
    let e : length ns ≡ length es = long_sizes buffer es ns h in
    let low : place < length ns = slice_get_within ns place n great.there in
    omega arith
