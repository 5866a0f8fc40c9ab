-- The edge of each message's key, from where the keys of each edge end among the places.
use Rattle.std.proofs.Common.{◌≡◌, ℕ, leb, zero, suc, ◌+◌, ◌<◌, ◌≤◌, true, List, [], ◌∷◌, length, drop, get_or, set, refl, sym, ap, subst, ◌∙◌, Option, None, Some, arith, inl, inr, add-one}
use Rattle.std.specs.Prelude.{slice_get, IsTrue, ◌↔◌}
use Rattle.std.proofs.lemmas.Bool.Decides.{nat_tests}
use Rattle.std.proofs.lemmas.Bool.{cases_eq, cases_lt}
use Rattle.std.proofs.lemmas.List.{get_or-set_same, get_or-set_other, length-set}
use Rattle.std.proofs.lemmas.Option.{same_Some, none-some, slice_get_within, slice_get_read}
use Rattle.bd_keys.specs.Keys.{IsBelowEnd, IsAtLeast, InRange}
use Rattle.bd_message.specs.declared.message.Message.{Message}
use Rattle.bd_message.proofs.Prefixes.{least_nil}
use Rattle.bd_node.specs.declared.node.Edge.{Edge}
use Rattle.bd_node.specs.Index.{is_point, own_key, is_point_in, key_in, is_point_at, key_at, IsIndex}
use Rattle.bd_node.specs.Nodes.{edge_of}
use Rattle.bd_node.specs.Owners.{IsOwner, AreOwners, IsFrom, AreOwnedTo, AreGiven}
use Rattle.bd_node.specs.Shape.{end_before, AreRising, EachEdge, SomeEdge, IsPending, IsUnseen}
use Rattle.bd_node.specs.Spans.{IsEndPosition}
use Rattle.bd_node.proofs.Edges.{edge_of-only}
use Rattle.bd_node.proofs.Spots.{has_place}
use Rattle.bd_node.proofs.Unseen.{below_is, point_pending, pending_point, unseen_only}

-- ---- one number at several places

-- the number stands at those from the first up to one of them that is no further than the last
pub record IsGiving (old new points : List ℕ) (from at to n : ℕ) : Type 0 where
  pub so_far : AreGiven old new points from at n
  pub inside : (q : ℕ) → from ≤ q → q < at → q < to

pub given_none : (xs points : List ℕ) (from to n : ℕ) → IsGiving xs xs points from from to n
given_none xs points from to n = record {
  so_far = record {
    long = refl;
    given = λ q low high. absurd (omega arith);
    others = λ i. inl refl;
  };
  inside = λ q low high. absurd (omega arith);
}

one_given : (old new points : List ℕ) (from at n : ℕ) → AreGiven old new points from at n → from ≤ at → get_or points at 0 < length new → AreGiven old (set new (get_or points at 0) n) points from (at + 1) n
one_given old new points from at n h low within = record {
  long = length-set new (get_or points at 0) n ∙ h.long;
  given = λ q least less. elim (cases_eq (get_or points q 0) (get_or points at 0)) [
    | inl same ↦ ap (λ (i : ℕ). get_or (set new (get_or points at 0) n) i 0) same ∙ get_or-set_same new (get_or points at 0) n 0 within
    | inr other ↦ (elim (cases_lt q at) [
      | inl before ↦ get_or-set_other new (get_or points at 0) (get_or points q 0) n 0 other ∙ h.given q least before
      | inr after ↦ (let e : q ≡ at = omega arith in absurd (other (ap (λ (j : ℕ). get_or points j 0) e)))
    ])
  ];
  others = λ i. elim (cases_eq i (get_or points at 0)) [
    | inl same ↦ inr (at, low, (omega arith), sym same, ap (λ (j : ℕ). get_or (set new (get_or points at 0) n) j 0) same ∙ get_or-set_same new (get_or points at 0) n 0 within)
    | inr other ↦ (elim (h.others i) [
      | inl kept ↦ inl (get_or-set_other new (get_or points at 0) i n 0 other ∙ kept)
      | inr some ↦ (let less : some.0 < at = some.2 in inr (some.0, some.1, (omega arith), some.3, get_or-set_other new (get_or points at 0) i n 0 other ∙ some.4))
    ])
  ];
}

pub given_more : (old new points : List ℕ) (from at to n : ℕ) → IsGiving old new points from at to n → from ≤ at → at < to → get_or points at 0 < length new → IsGiving old (set new (get_or points at 0) n) points from (at + 1) to n
given_more old new points from at to n h low less within = record {
  so_far = one_given old new points from at n h.so_far low within;
  inside = λ q least below. omega arith;
}

pub given_all : (old new points : List ℕ) (from at to n : ℕ) → IsGiving old new points from at to n → to ≤ at → AreGiven old new points from to n
given_all old new points from at to n h past = record {
  long = h.so_far.long;
  given = λ q least less. h.so_far.given q least (omega arith);
  others = λ i. elim (h.so_far.others i) [
    | inl kept ↦ inl kept
    | inr some ↦ inr (some.0, some.1, h.inside some.0 some.1 some.2, some.3, some.4)
  ];
}

-- ---- edge by edge

-- a property of each edge, at a place
pub edge_has : (P : Edge → Option (List ℕ) → Type 0) (es : List Edge) (j : ℕ) (e : Edge) → EachEdge P es → slice_get es j ≡ Some e → P e (end_before (drop (suc j) es))
edge_has P [] j e h there = absurd (none-some e there)
edge_has P (d ∷ es) zero e h there = subst (λ (x : Edge). P x (end_before es)) (same_Some d e there) h.0
edge_has P (d ∷ es) (suc j) e h there = edge_has P es j e h.1 there

-- an edge at a place is some edge
some_has : (P : Edge → Option (List ℕ) → Type 0) (es : List Edge) (j : ℕ) (e : Edge) → slice_get es j ≡ Some e → P e (end_before (drop (suc j) es)) → SomeEdge P es
some_has P [] j e there h = absurd (none-some e there)
some_has P (d ∷ es) zero e there h = inl (subst (λ (x : Edge). P x (end_before es)) (sym (same_Some d e there)) h)
some_has P (d ∷ es) (suc j) e there h = inr (some_has P es j e there h)

-- what isn't below the end of the edges before a place is of keys from there on
from_next : (es : List Edge) (k : List ℕ) (at : ℕ) → (IsBelowEnd k (end_before (drop at es)) → ⊥) → IsFrom es k at
from_next [] k zero past = absurd (past tt)
from_next [] k (suc at) past = absurd (past tt)
from_next (e ∷ es) k zero past = (e, refl, past)
from_next (e ∷ es) k (suc at) past = from_next es k at past

none_first : ◌≡◌ {A = Option (List ℕ)} None (Some []) → ⊥
none_first h = cc

same_first : {k : List ℕ} → Some k ≡ Some [] → k ≡ []
same_first h = cc

-- where the first pivot is empty, each key is of edges from the first on
from_first : (es : List Edge) (k : List ℕ) → end_before es ≡ Some [] → IsFrom es k 0
from_first [] k first = absurd (none_first first)
from_first (e ∷ es) k first = (e, refl, subst (λ (p : List ℕ). IsAtLeast k p) (sym (same_first first)) (least_nil k))

pub owned_none : (owners : List ℕ) (es : List Edge) (list : List Message) (points : List ℕ) → length owners ≡ length list → end_before es ≡ Some [] → AreOwnedTo owners es list points 0 0
owned_none owners es list points long first = record {
  long = long;
  done = λ q low within. absurd (omega arith);
  rest = λ q low within. from_first es (key_at list (get_or points q 0)) first;
}

-- what stands from a place on and is below the end of an edge is of the edge
owned_here : (es : List Edge) (k : List ℕ) (at : ℕ) → IsFrom es k at → IsBelowEnd k (end_before (drop (at + 1) es)) → IsOwner es k at
owned_here es k at from below = (from.0, from.1, (from.2, below))

pub owned_more : (old new : List ℕ) (es : List Edge) (list : List Message) (points : List ℕ) (at first last : ℕ) (hi : Option (List ℕ)) → AreOwnedTo old es list points at first → hi ≡ end_before (drop (at + 1) es) → IsEndPosition list points hi last
    → AreGiven old new points first last at → AreOwnedTo new es list points (at + 1) last
owned_more old new es list points at first last hi h is end given = record {
  long = given.long ∙ h.long;
  done = λ q less within. elim (cases_lt q first) [
    | inr least ↦ subst (λ (n : ℕ). IsOwner es (key_at list (get_or points q 0)) n) (sym (given.given q least less))
        (owned_here es (key_at list (get_or points q 0)) at (h.rest q least within) (subst (λ (o : Option (List ℕ)). IsBelowEnd (key_at list (get_or points q 0)) o) is (end.before q less)))
    | inl before ↦ (elim (given.others (get_or points q 0)) [
      | inl kept ↦ subst (λ (n : ℕ). IsOwner es (key_at list (get_or points q 0)) n) (sym kept) (h.done q before within)
      | inr some ↦ (
          let most : last ≤ length points = end.within in
          let low : some.0 < last = some.2 in
          let here : IsOwner es (key_at list (get_or points some.0 0)) at = owned_here es (key_at list (get_or points some.0 0)) at (h.rest some.0 some.1 (omega arith)) (subst (λ (o : Option (List ℕ)). IsBelowEnd (key_at list (get_or points some.0 0)) o) is (end.before some.0 some.2)) in
          subst (λ (n : ℕ). IsOwner es (key_at list (get_or points q 0)) n) (sym some.4) (subst (λ (i : ℕ). IsOwner es (key_at list i) at) some.3 here))
    ])
  ];
  rest = λ q least within. from_next es (key_at list (get_or points q 0)) (at + 1) (λ below. end.after q least within (subst (λ (o : Option (List ℕ)). IsBelowEnd (key_at list (get_or points q 0)) o) (sym is) below));
}

pub owned_all : (owners : List ℕ) (es : List Edge) (list : List Message) (points ranges : List ℕ) (at count : ℕ) → IsIndex list (length list) points ranges → AreOwnedTo owners es list points at count → length es ≤ at → AreOwners owners es list
owned_all owners es list points ranges at count ix h past = record {
  long = h.long;
  each = λ i m here point.
      let is : is_point_at list i ≡ true = ap is_point_in here ∙ point in
      let low : i < length list = slice_get_within list i m here in
      let there = has_place points i (ix.all_points i low is) in
      let key : key_at list i ≡ own_key m = ap key_in here in
      let owner : IsOwner es (key_at list (get_or points there.0 0)) (get_or owners (get_or points there.0 0) 0) = elim (cases_lt there.0 count) [
        | inl less ↦ h.done there.0 less there.1
        | inr least ↦ (let from = h.rest there.0 least there.1 in
            let within : at < length es = slice_get_within es at from.0 from.1 in absurd (omega arith))
      ] in
      subst (λ (k : List ℕ). IsOwner es k (get_or owners i 0)) key (subst (λ (j : ℕ). IsOwner es (key_at list j) (get_or owners j 0)) there.2 owner);
}

-- ---- what waits for the edge of its key

-- the edge of a key
pub owner_of : (es : List Edge) (k : List ℕ) (place : ℕ) (e : Edge) → AreRising es → IsOwner es k place → slice_get es place ≡ Some e → edge_of es k ≡ Some e
owner_of es k place e rising owner here =
    let same : owner.0 ≡ e = same_Some owner.0 e (sym owner.1 ∙ here) in
    subst (λ (d : Edge). edge_of es k ≡ Some d) same
    (edge_has (λ (d : Edge) hi. InRange d.pivot hi k → edge_of es k ≡ Some d) es place owner.0 (edge_of-only es k rising) owner.1 (subst (λ (i : ℕ). InRange owner.0.pivot (end_before (drop i es)) k) (add-one place) owner.2))

pub owner_range : (es : List Edge) (k : List ℕ) (place : ℕ) (e : Edge) → IsOwner es k place → slice_get es place ≡ Some e → InRange e.pivot (end_before (drop (suc place) es)) k
owner_range es k place e owner here =
    let same : owner.0 ≡ e = same_Some owner.0 e (sym owner.1 ∙ here) in
    subst (λ (d : Edge). InRange d.pivot (end_before (drop (suc place) es)) k) same (subst (λ (i : ℕ). InRange owner.0.pivot (end_before (drop i es)) k) (add-one place) owner.2)

is_below : (a b : ℕ) → a ≤ b → leb a b ≡ true
is_below a b h = grind (arith, nat_tests)

-- a message on a key is pending where the key's edge hasn't seen it
pub owned_pending : (place : ℕ) (m : Message) (es : List Edge) (owner : ℕ) (e : Edge) → AreRising es → is_point m ≡ true → IsOwner es (own_key m) owner → e ≡ get_or es owner e
    → IsTrue (leb (get_or es owner e).seen place) ↔ SomeEdge (IsPending place m) es
owned_pending place m es owner e rising point is read =
    let here : slice_get es owner ≡ Some e = slice_get_read es (length es) owner e refl (slice_get_within es owner is.0 is.1) read in (
      (λ seen. point_pending place m (own_key m) es point refl (some_has (IsUnseen place (own_key m)) es owner e here (below_is e.seen place (subst (λ (d : Edge). leb d.seen place ≡ true) (sym read) seen), owner_range es (own_key m) owner e is here))),
      (λ some. subst (λ (d : Edge). leb d.seen place ≡ true) read
          (is_below e.seen place (unseen_only place (own_key m) es e rising (owner_of es (own_key m) owner e rising is here) (pending_point place m (own_key m) es point refl some)).0)),
    )
