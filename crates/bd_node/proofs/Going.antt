-- Which messages go down an edge, and what is to change in their node.
use Rattle.std.proofs.Common.{◌≡◌, ◌↔◌, ◌⊎◌, ℕ, zero, suc, ◌+◌, ◌<◌, ◌≤◌, Bool, true, false, List, [], ◌∷◌, ◌++◌, length, take, drop, set, map, get_or, refl, sym, ap, subst, ◌∙◌, Option, Some, arith, inl, inr, add-one}
use Rattle.std.specs.Prelude.{slice_get, IsTrue}
use Rattle.std.proofs.lemmas.Bool.{cases_lt}
use Rattle.std.proofs.lemmas.List.{get_or_default, map-append, take_all, take_more}
use Rattle.std.proofs.lemmas.Option.{same_Some, none-some, slice_get_read, slice_get_within}
use Rattle.bd_keys.specs.Keys.{IsBelowEnd}
use Rattle.bd_message.specs.declared.message.Message.{Message}
use Rattle.bd_message.specs.Messages.{IsPlain}
use Rattle.bd_node.specs.declared.node.Edge.{Edge}
use Rattle.bd_node.specs.Touching.{CanTouch}
use Rattle.bd_node.specs.Compaction.{IsMask, lowered}
use Rattle.bd_node.specs.Keeping.{stay_count}
use Rattle.bd_node.specs.Shape.{end_before, AreRising, SomeEdge, IsPending}
use Rattle.bd_node.specs.Pushes.{with_seen}
use Rattle.bd_node.specs.Reliefs.{IsGoing, ArePlain}
use Rattle.bd_node.proofs.Keeping.{count-yes, count-skip}
use Rattle.bd_node.proofs.Marking.{IsSaid, said_more}
use Rattle.bd_node.proofs.Owning.{edge_has}
use Rattle.bd_node.proofs.Relieving.{put_at}

-- ---- the edge at a place

-- the edge that is read there
pub edge_read : (es : List Edge) (place : ℕ) (e : Edge) → place < length es → e ≡ get_or es place e → slice_get es place ≡ Some e
edge_read es place e low read = slice_get_read es (length es) place e refl low read

-- its pivot is below where its keys end
pub below_end : (es : List Edge) (place : ℕ) (e : Edge) (lo : List ℕ) (hi : Option (List ℕ)) → AreRising es → slice_get es place ≡ Some e → lo ≡ e.pivot → hi ≡ end_before (drop (place + 1) es) → IsBelowEnd lo hi
below_end es place e lo hi rising here pivot end =
    subst (λ (k : List ℕ). IsBelowEnd k hi) (sym pivot)
    (subst (λ (o : Option (List ℕ)). IsBelowEnd e.pivot o) (sym (end ∙ ap (λ (n : ℕ). end_before (drop n es)) (add-one place)))
    (edge_has (λ (d : Edge) o. IsBelowEnd d.pivot o) es place e rising here))

pub going_test : (es : List Edge) (place from at : ℕ) (m : Message) (e : Edge) (b : Bool) (lo : List ℕ) (hi : Option (List ℕ)) → slice_get es place ≡ Some e → lo ≡ e.pivot → hi ≡ end_before (drop (place + 1) es) → from ≤ at → at < e.seen → (IsTrue b ↔ CanTouch m lo hi)
    → IsTrue b ↔ IsGoing es place from at m
going_test es place from at m e b lo hi here pivot end low high can =
    let touch : IsTrue b ↔ CanTouch m e.pivot (end_before (drop (place + 1) es)) =
    subst (λ (o : Option (List ℕ)). IsTrue b ↔ CanTouch m e.pivot o) end (subst (λ (k : List ℕ). IsTrue b ↔ CanTouch m k hi) pivot can) in (
      (λ is. (e, here, low, high, touch.0 is)),
      (λ going. touch.1 (subst (λ (d : Edge). CanTouch m d.pivot (end_before (drop (place + 1) es))) (same_Some going.0 e (sym going.1 ∙ here)) going.4)),
    )

-- none goes before the edge had seen so many, nor after those that it has seen
pub going_not : (es : List Edge) (place from at : ℕ) (m : Message) (e : Edge) → slice_get es place ≡ Some e → (at < from) ⊎ (e.seen ≤ at) → IsGoing es place from at m → ⊥
going_not es place from at m e here out going =
    let seen : going.0.seen ≡ e.seen = ap (λ (d : Edge). d.seen) (same_Some going.0 e (sym going.1 ∙ here)) in
    let low : from ≤ at = going.2 in
    let high : at < going.0.seen = going.3 in
    elim out [ inl below ↦ absurd (omega arith) | inr past ↦ absurd (omega arith) ]

-- ---- the edges

pub set_is : (es : List Edge) (place : ℕ) (e f : Edge) → slice_get es place ≡ Some e → set es place f ≡ put_at es place f
set_is [] place e f here = absurd (none-some e here)
set_is (d ∷ es) zero e f here = refl
set_is (d ∷ es) (suc place) e f here = ap (λ (l : List Edge). d ∷ l) (set_is es place e f here)

-- ---- the mask

-- what is known of the messages before a place
pub record IsLeft (es : List Edge) (place from : ℕ) (list : List Message) (at : ℕ) (mask : List Bool) : Type 0 where
  pub plain : (i : ℕ) (m : Message) → i < at → slice_get list i ≡ Some m → IsGoing es place from i m → IsPlain m
  pub pending : IsMask mask es (take at list)

pub left_more : (es : List Edge) (place from : ℕ) (list : List Message) (at : ℕ) (mask new : List Bool) (b : Bool) (m : Message) → IsLeft es place from list at mask → at < length list → m ≡ get_or list at m
    → (IsGoing es place from at m → IsPlain m) → (IsTrue b ↔ SomeEdge (IsPending at m) es) → new ≡ mask ++ b ∷ [] → IsLeft es place from list (at + 1) new
left_more es place from list at mask new b m h low read plain pending made =
    let there : slice_get list at ≡ Some m = slice_get_read list (length list) at m refl low read in
    let said : IsSaid (λ (i : ℕ) (n : Message). SomeEdge (IsPending i n) es) mask (take at list) = record { long = h.pending.long; each = h.pending.each } in
    let more = said_more (λ (i : ℕ) (n : Message). SomeEdge (IsPending i n) es) mask new b list at m said low read pending made in
    record {
      plain = λ i n before here going. elim (cases_lt i at) [
        | inl less ↦ h.plain i n less here going
        | inr most ↦
            let same : i ≡ at = omega arith in
            let one : m ≡ n = same_Some m n (sym there ∙ ap (λ (j : ℕ). slice_get list j) (sym same) ∙ here) in
            subst IsPlain one (plain (subst (λ (x : Message). IsGoing es place from at x) (sym one) (subst (λ (j : ℕ). IsGoing es place from j n) same going)))
      ];
      pending = record { long = more.long; each = more.each };
    }

pub left_all : (es : List Edge) (place from : ℕ) (list : List Message) (at : ℕ) (mask : List Bool) → IsLeft es place from list at mask → length list ≤ at → ArePlain es place from list × IsMask mask es list
left_all es place from list at mask h past = (
  (λ i m here going. (let low : i < length list = slice_get_within list i m here in h.plain i m (omega arith) here going)),
  subst (λ (l : List Message). IsMask mask es l) (take_all at list past) h.pending,
)

-- ---- how many of the messages that an edge has seen stay

pub stay_count-low : (mask : List Bool) (n : ℕ) → stay_count mask n ≤ n
stay_count-low mask zero = omega arith
stay_count-low [] (suc n) = omega arith
stay_count-low (true ∷ mask) (suc n) = (let less : stay_count mask n ≤ n = stay_count-low mask n in omega (arith, count-yes (take n mask)))
stay_count-low (false ∷ mask) (suc n) = (let less : stay_count mask n ≤ n = stay_count-low mask n in omega (arith, count-skip (take n mask)))

pub count_read : (counts : List ℕ) (mask : List Bool) (n x : ℕ) → length counts ≡ length mask + 1 → n ≤ length mask → get_or counts n 0 ≡ stay_count mask n → x ≡ get_or counts n x → x ≡ stay_count mask n
count_read counts mask n x long low is read = read ∙ get_or_default counts n x 0 (omega arith) ∙ is

pub seen_more : (mask : List Bool) (es : List Edge) (i : ℕ) (e : Edge) (x : ℕ) (list new : List ℕ) → i < length es → e ≡ get_or es i e → x ≡ stay_count mask e.seen → list ≡ map (λ (d : Edge). stay_count mask d.seen) (take i es) → new ≡ list ++ x ∷ []
    → new ≡ map (λ (d : Edge). stay_count mask d.seen) (take (i + 1) es)
seen_more mask es i e x list new low read is before made =
    let f : Edge → ℕ = λ d. stay_count mask d.seen in
    made
    ∙ ap (λ (l : List ℕ). l ++ x ∷ []) before
    ∙ ap (λ (n : ℕ). map f (take i es) ++ n ∷ []) is
    ∙ sym (map-append f (take i es) (e ∷ []))
    ∙ ap (λ (l : List Edge). map f l) (sym (take_more es i e low ∙ ap (λ (d : Edge). take i es ++ d ∷ []) (sym read)))

-- ---- how many each has seen, one by one

see_next : (seens : List ℕ) (es : List Edge) (i : ℕ) (e : Edge) → length seens ≡ length es → i < length seens → e ≡ get_or (with_seen (take i seens) es) i e
    → set (with_seen (take i seens) es) i (record e { seen = get_or seens i 0 }) ≡ with_seen (take (suc i) seens) es
see_next [] es i e long low read = absurd (omega arith)
see_next (s ∷ seens) [] i e long low read = absurd (omega arith)
see_next (s ∷ seens) (d ∷ es) zero e long low read = ap (λ (x : Edge). record x { seen = s } ∷ es) read
see_next (s ∷ seens) (d ∷ es) (suc i) e long low read =
    ap (λ (l : List Edge). record d { seen = s } ∷ l) (see_next seens es i e (omega arith) (omega arith) read)

pub see_more : (seens : List ℕ) (es list : List Edge) (i : ℕ) (e : Edge) → length seens ≡ length es → i < length seens → list ≡ with_seen (take i seens) es → e ≡ get_or list i e
    → set list i (record e { seen = get_or seens i 0 }) ≡ with_seen (take (i + 1) seens) es
see_more seens es list i e long low is read =
    ap (λ (l : List Edge). set l i (record e { seen = get_or seens i 0 })) is
    ∙ see_next seens es i e long low (read ∙ ap (λ (l : List Edge). get_or l i e) is)
    ∙ ap (λ (n : ℕ). with_seen (take n seens) es) (sym (add-one i))

-- ---- the node

counted_each : (mask : List Bool) (es : List Edge) → with_seen (map (λ (d : Edge). stay_count mask d.seen) es) es ≡ map (lowered mask) es
counted_each mask [] = refl
counted_each mask (d ∷ es) = ap (λ (l : List Edge). lowered mask d ∷ l) (counted_each mask es)

-- the edges over the messages that stay are those with the counts
pub counted_edges : (mask : List Bool) (es : List Edge) (place : ℕ) (e f : Edge) → slice_get es place ≡ Some e → record f { seen = e.seen } ≡ e
    → with_seen (map (λ (d : Edge). stay_count mask d.seen) (put_at es place f)) es ≡ map (lowered mask) (put_at es place f)
counted_edges mask [] place e f here same = absurd (none-some e here)
counted_edges mask (d ∷ es) zero e f here same =
    ap (λ (x : Edge). record x { seen = stay_count mask f.seen } ∷ with_seen (map (λ (y : Edge). stay_count mask y.seen) es) es) (same_Some d e here ∙ sym same)
    ∙ ap (λ (l : List Edge). lowered mask f ∷ l) (counted_each mask es)
counted_edges mask (d ∷ es) (suc place) e f here same =
    ap (λ (l : List Edge). lowered mask d ∷ l) (counted_edges mask es place e f here same)
