-- The edges of a node freed of a prefix.
use Rattle.std.proofs.Common.{◌≡◌, ℕ, zero, suc, ◌+◌, ◌-◌, ◌<◌, ◌≤◌, Bool, true, false, cond, not, List, [], ◌∷◌, ◌++◌, length, take, drop, map, refl, sym, ap, subst, ◌∙◌, Option, None, Some, arith, inl, inr, append_assoc, length-drop, get_or}
use Rattle.std.specs.Prelude.{slice_get}
use Rattle.std.specs.List.{AllByRecursion, flat_map, prefix_len}
use Rattle.std.specs.Ordering.{is_lt}
use Rattle.std.proofs.lemmas.Bool.{cases_Bool, cases_lt, cond-true, cond-false}
use Rattle.std.proofs.lemmas.Cmp.{nat_list_cmp_total as total}
use Rattle.std.proofs.lemmas.List.{append-nil, length-append, length-map, length-take, length-take-le}
use Rattle.std.proofs.lemmas.List.Folds.{flat_map-map}
use Rattle.std.proofs.lemmas.List.Sums.{prefix_len-le-length}
use Rattle.std.proofs.Math.Seq.{take-append-add, take-nil, take-length}
use Rattle.bd_keys.specs.Keys.{key_cmp, IsKey, IsBelow, IsBelowEnd, IsAtLeast, Begins}
use Rattle.bd_keys.proofs.Order.{below_from, IsKey-cons, IsKey-rest, key_cmp-front}
use Rattle.bd_limits.specs.Limits.{key_limit}
use Rattle.bd_message.specs.declared.message.Message.{Message}
use Rattle.bd_message.specs.Effect.{NodesAt, begins, rest}
use Rattle.bd_message.proofs.Finds.{begins-is}
use Rattle.bd_message.proofs.Prefixes.{joined_other, least_nil, rest-append, rest_shorter}
use Rattle.bd_node.specs.declared.node.Edge.{Edge}
use Rattle.bd_node.specs.Nodes.{edge_names, edge_from, child_at}
use Rattle.bd_node.specs.Shape.{end_before, EachEdge, IsChild, IsEdge}
use Rattle.bd_node.proofs.Edges.{IsRisingEdge, lt_is, lt_isnt, not_less_lt, less_lt}
use Rattle.bd_inner.specs.Clipping.{IsLongEdge, where_child, source_below, seen_after, clipped_edge, inside_edge, IsFreedEdge, count_before, count_within, AreClippedEdges}
use Rattle.bd_node.proofs.Compacting.{count_names, count_names-append}
use Rattle.bd_inner.proofs.FreedMessages.{drop-nil, dropped_at, drop_names}

-- ---- the edge that has the prefix among its keys

not_yes : (b : Bool) → not b ≡ true → b ≡ false
not_yes true h = cc
not_yes false h = refl

-- what the edges from it on have
pub record IsFrom (s : List ℕ) (e : Edge) (es : List Edge) (first : Edge) (others : List Edge) : Type 0 where
  pub low : IsAtLeast s first.pivot
  pub high : IsBelowEnd s (end_before others)
  pub at : (x : List ℕ) → IsAtLeast x s → edge_from e es x ≡ edge_from first others x
  pub each : (n : ℕ) → EachEdge (IsEdge n) (e ∷ es) → EachEdge (IsEdge n) (first ∷ others)

-- the edges whose pivots aren't above the prefix
abbrev not_above : List ℕ → Edge → Bool
not_above s e = not (is_lt (key_cmp s e.pivot))

parts_of : (x y : Edge) (xs ys : List Edge) → x ∷ xs ≡ y ∷ ys → (x ≡ y) × (xs ≡ ys)
parts_of x y xs ys h = (cc, cc)

pub from_facts : (s : List ℕ) (e : Edge) (es : List Edge) (first : Edge) (others : List Edge) → IsAtLeast s e.pivot → drop (prefix_len (not_above s) es) (e ∷ es) ≡ first ∷ others → IsFrom s e es first others
from_facts s e [] first others low is =
    let two = parts_of e first [] others is in
    record {
      low = subst (λ (d : Edge). IsAtLeast s d.pivot) two.0 low;
      high = subst (λ (ds : List Edge). IsBelowEnd s (end_before ds)) two.1 tt;
      at = λ x least. two.0 ∙ ap (λ (ds : List Edge). edge_from first ds x) two.1;
      each = λ n h. subst (λ (ds : List Edge). EachEdge (IsEdge n) ds) is h;
    }
from_facts s e (f ∷ es) first others low is =
    elim (cases_Bool (is_lt (key_cmp s f.pivot))) [
      | inl less ↦
          let none : prefix_len (not_above s) (f ∷ es) ≡ 0 = cond-false (not_above s f) (1 + prefix_len (not_above s) es) 0 (ap not less) in
          let whole : e ∷ f ∷ es ≡ first ∷ others = sym (ap (λ (n : ℕ). drop n (e ∷ f ∷ es)) none) ∙ is in
          let two = parts_of e first (f ∷ es) others whole in
          record {
            low = subst (λ (d : Edge). IsAtLeast s d.pivot) two.0 low;
            high = subst (λ (ds : List Edge). IsBelowEnd s (end_before ds)) two.1 (lt_is (key_cmp s f.pivot) less);
            at = λ x least. ap (λ (d : Edge). edge_from d (f ∷ es) x) two.0 ∙ ap (λ (ds : List Edge). edge_from first ds x) two.1;
            each = λ n h. subst (λ (ds : List Edge). EachEdge (IsEdge n) ds) whole h;
          }
      | inr more ↦
          let some : prefix_len (not_above s) (f ∷ es) ≡ suc (prefix_len (not_above s) es) = cond-true (not_above s f) (1 + prefix_len (not_above s) es) 0 (ap not more) ∙ omega arith in
          let later : drop (prefix_len (not_above s) es) (f ∷ es) ≡ first ∷ others = sym (ap (λ (n : ℕ). drop n (e ∷ f ∷ es)) some) ∙ is in
          let found : IsFrom s f es first others = from_facts s f es first others (lt_isnt (key_cmp s f.pivot) more) later in
          record {
            low = found.low;
            high = found.high;
            at = λ x least.
                cond-false (is_lt (key_cmp x f.pivot)) e (edge_from f es x) (not_less_lt (key_cmp x f.pivot) (λ below. least (below_from x f.pivot s below (lt_isnt (key_cmp s f.pivot) more))))
                ∙ found.at x least;
            each = λ n h. found.each n h.1;
          }
    ]

-- a key that begins with a prefix isn't below it
pub least_begun : (s k : List ℕ) → IsAtLeast (s ++ k) s
least_begun s k less = least_nil k (sym (key_cmp-front s k []) ∙ ap (λ (l : List ℕ). key_cmp (s ++ k) l) (append-nil s) ∙ less)

-- ---- what an edge asks

dropped_both : (s : List ℕ) (n : ℕ) (k : List ℕ) → drop n (s ++ k) ≡ drop n s ++ drop (n - length s) k
dropped_both [] n k = ap (λ (i : ℕ). drop i k) (let e : n ≡ n - 0 = omega arith in e) ∙ sym (ap (λ (l : List ℕ). l ++ drop (n - 0) k) (drop-nil n))
dropped_both (b ∷ s) zero k = sym (ap (λ (i : ℕ). b ∷ (s ++ drop i k)) (let e : 0 - suc (length s) ≡ 0 = omega arith in e))
dropped_both (b ∷ s) (suc n) k = dropped_both s n k ∙ ap (λ (i : ℕ). drop n s ++ drop i k) (let e : n - length s ≡ suc n - suc (length s) = omega arith in e)

-- the same key of the child
asked : (s : List ℕ) (e : Edge) (k : List ℕ) → e.source ++ drop e.lift (s ++ k) ≡ (e.source ++ drop e.lift s) ++ drop (e.lift - length s) k
asked s e k =
    ap (λ (l : List ℕ). e.source ++ l) (dropped_both s e.lift k)
    ∙ sym (append_assoc e.source (drop e.lift s) (drop (e.lift - length s) k))

child_asked : (below : NodesAt) (child : Option ℕ) (source key : List ℕ) → child_at below child (where_child child source ++ key) ≡ child_at below child (source ++ key)
child_asked below None source key = refl
child_asked below (Some c) source key = refl

pub clipped_child : (below : NodesAt) (s : List ℕ) (e : Edge) (k : List ℕ) → child_at below e.child (source_below s e ++ drop (e.lift - length s) k) ≡ child_at below e.child (e.source ++ drop e.lift (s ++ k))
clipped_child below s e k =
    child_asked below e.child (e.source ++ drop e.lift s) (drop (e.lift - length s) k)
    ∙ ap (λ (l : List ℕ). child_at below e.child l) (sym (asked s e k))

-- ---- the edges whose pivots begin with the prefix

abbrev inside : List ℕ → List Edge → List Edge
inside s others = take (count_within s others) others

inside_yes : (s : List ℕ) (f : Edge) (fs : List Edge) → begins f.pivot s ≡ true → inside s (f ∷ fs) ≡ f ∷ inside s fs
inside_yes s f fs h = ap (λ (n : ℕ). take n (f ∷ fs)) (cond-true (begins f.pivot s) (1 + count_within s fs) 0 h ∙ (let e : 1 + count_within s fs ≡ suc (count_within s fs) = omega arith in e))

inside_no : (s : List ℕ) (f : Edge) (fs : List Edge) → begins f.pivot s ≡ false → inside s (f ∷ fs) ≡ []
inside_no s f fs h = ap (λ (n : ℕ). take n (f ∷ fs)) (cond-false (begins f.pivot s) (1 + count_within s fs) 0 h)

-- a key that begins with the prefix is below a pivot above it that doesn't
below_other : (s k p : List ℕ) → IsBelow s p → begins p s ≡ false → IsBelow (s ++ k) p
below_other s k p below out = joined_other s k p out ∙ below

-- keys behind the prefix are in the order of the pivots behind it
pivot_after : (s k p : List ℕ) → begins p s ≡ true → key_cmp (s ++ k) p ≡ key_cmp k (rest s p)
pivot_after s k p h = ap (λ (l : List ℕ). key_cmp (s ++ k) l) (begins-is p s h) ∙ key_cmp-front s k (rest s p)

-- what is below a pivot is below the next one
below_next : (s : List ℕ) (f : Edge) (fs : List Edge) → IsBelow s f.pivot → IsBelowEnd f.pivot (end_before fs) → IsBelowEnd s (end_before fs)
below_next s f [] below up = tt
below_next s f (g ∷ fs) below up = total.trans s f.pivot g.pivot below up

-- the edge of a key, in both
pub record IsSame (s : List ℕ) (parts : List (Option Message)) (start : ℕ) (d c : Edge) : Type 0 where
  pub pivot : List ℕ
  pub is : c ≡ clipped_edge s parts start pivot d

either_same : (s : List ℕ) (parts : List (Option Message)) (start : ℕ) (b : Bool) (d c e f : Edge) → IsSame s parts start d c → IsSame s parts start e f → IsSame s parts start (cond b d e) (cond b c f)
either_same s parts start true d c e f h g = h
either_same s parts start false d c e f h g = g

pub same_edge : (s : List ℕ) (parts : List (Option Message)) (start : ℕ) (k : List ℕ) (d c : Edge) (others : List Edge) → IsSame s parts start d c → IsBelowEnd s (end_before others) → EachEdge IsRisingEdge others
    → IsSame s parts start (edge_from d others (s ++ k)) (edge_from c (map (inside_edge s parts start) (inside s others)) k)
same_edge s parts start k d c [] same high up = same
same_edge s parts start k d c (f ∷ fs) same high up =
    elim (cases_Bool (begins f.pivot s)) [
      | inl within ↦
          let next : IsBelowEnd s (end_before fs) = below_next s f fs high up.0 in
          let g : Edge = inside_edge s parts start f in
          let deep : IsSame s parts start (edge_from f fs (s ++ k)) (edge_from g (map (inside_edge s parts start) (inside s fs)) k) =
          same_edge s parts start k f g fs (record { pivot = rest s f.pivot; is = refl }) next up.1 in
          let test : is_lt (key_cmp (s ++ k) f.pivot) ≡ is_lt (key_cmp k (rest s f.pivot)) = ap is_lt (pivot_after s k f.pivot within) in
          subst (λ (es : List Edge). IsSame s parts start (edge_from d (f ∷ fs) (s ++ k)) (edge_from c (map (inside_edge s parts start) es) k)) (sym (inside_yes s f fs within))
          (subst (λ (b : Bool). IsSame s parts start (cond b d (edge_from f fs (s ++ k))) (cond (is_lt (key_cmp k (rest s f.pivot))) c (edge_from g (map (inside_edge s parts start) (inside s fs)) k))) (sym test)
          (either_same s parts start (is_lt (key_cmp k (rest s f.pivot))) d c (edge_from f fs (s ++ k)) (edge_from g (map (inside_edge s parts start) (inside s fs)) k) same deep))
      | inr out ↦
          subst (λ (es : List Edge). IsSame s parts start (edge_from d (f ∷ fs) (s ++ k)) (edge_from c (map (inside_edge s parts start) es) k)) (sym (inside_no s f fs out))
          (subst (λ (x : Edge). IsSame s parts start x c) (sym (cond-true (is_lt (key_cmp (s ++ k) f.pivot)) d (edge_from f fs (s ++ k)) (less_lt (key_cmp (s ++ k) f.pivot) (below_other s k f.pivot high out)))) same)
    ]

-- ---- the shape

IsKey-append : (s k : List ℕ) → IsKey s → IsKey k → IsKey (s ++ k)
IsKey-append [] k hs hk = hk
IsKey-append (b ∷ s) k hs hk = IsKey-cons b (s ++ k) (hs 0) (IsKey-append s k (IsKey-rest b s hs) hk)

-- where the keys of the edges behind the prefix end
abbrev end_inside : List ℕ → List (Option Message) → ℕ → List Edge → Option (List ℕ)
end_inside s parts start others = end_before (map (inside_edge s parts start) (inside s others))

rising_in : (s : List ℕ) (parts : List (Option Message)) (start : ℕ) (p : List ℕ) (others : List Edge) → IsBelowEnd (s ++ p) (end_before others) → IsBelowEnd p (end_inside s parts start others)
rising_in s parts start p [] h = tt
rising_in s parts start p (f ∷ fs) h =
    elim (cases_Bool (begins f.pivot s)) [
      | inl within ↦
          subst (λ (es : List Edge). IsBelowEnd p (end_before (map (inside_edge s parts start) es))) (sym (inside_yes s f fs within))
          (sym (pivot_after s p f.pivot within) ∙ h)
      | inr out ↦ subst (λ (es : List Edge). IsBelowEnd p (end_before (map (inside_edge s parts start) es))) (sym (inside_no s f fs out)) tt
    ]

range_out : (s : List ℕ) (parts : List (Option Message)) (start : ℕ) (k : List ℕ) (others : List Edge) → IsBelowEnd s (end_before others) → IsBelowEnd k (end_inside s parts start others) → IsBelowEnd (s ++ k) (end_before others)
range_out s parts start k [] high h = tt
range_out s parts start k (f ∷ fs) high h =
    elim (cases_Bool (begins f.pivot s)) [
      | inl within ↦ pivot_after s k f.pivot within ∙ subst (λ (es : List Edge). IsBelowEnd k (end_before (map (inside_edge s parts start) es))) (inside_yes s f fs within) h
      | inr out ↦ below_other s k f.pivot high out
    ]

child_stays : (child : Option ℕ) (source new : List ℕ) → IsChild child source → IsChild child (where_child child new)
child_stays None source new h = refl
child_stays (Some c) source new h = h

-- the bytes that are left out are no more than the prefix, where the prefix is one of the keys
lift_within : (s : List ℕ) (d : Edge) → d.lift ≤ length d.pivot → Begins s (take d.lift d.pivot) → d.lift ≤ length s
lift_within s d le begun =
    let n : ℕ = length (take d.lift d.pivot) in
    let long : n ≡ d.lift = length-take-le d.lift d.pivot le in
    let same : length (take n s) ≡ n = ap (λ (l : List ℕ). length l) begun in
    omega (arith, length-take n s)

long_first : (n m : ℕ) (s : List ℕ) (parts : List (Option Message)) (start : ℕ) (d : Edge) (others : List Edge) → IsEdge n d (end_before others) → IsAtLeast s d.pivot → IsBelowEnd s (end_before others) → IsKey s → seen_after parts start d.seen ≤ m
    → IsLongEdge m (clipped_edge s parts start [] d) (end_inside s parts start others)
long_first n m s parts start d others h low high key seen =
    let less : d.lift ≤ length s = lift_within s d h.lift (h.common s key (low, high)) in
    record {
      pivot = omega arith;
      rising = rising_in s parts start [] others (subst (λ (l : List ℕ). IsBelowEnd l (end_before others)) (sym (append-nil s)) high);
      lift = (let z : d.lift - length s ≤ 0 = omega arith in z);
      common = λ k own range. subst (λ (l : List ℕ). Begins k l) (sym (take-nil (d.lift - length s))) refl;
      child = child_stays d.child d.source (d.source ++ drop d.lift s) h.child;
      seen = seen;
    }

-- what is common behind the prefix
common_after : (s p k : List ℕ) (lift : ℕ) → lift ≤ length (s ++ p) → Begins (s ++ k) (take lift (s ++ p)) → Begins k (take (lift - length s) p)
common_after s p k lift le h =
    elim (cases_lt (length s) lift) [
      | inl more ↦
          let j : ℕ = lift - length s in
          let both : lift ≡ length s + j = omega arith in
          let long : length (take lift (s ++ p)) ≡ lift = length-take-le lift (s ++ p) le in
          let front : (l : List ℕ) → take lift (s ++ l) ≡ s ++ take j l = λ l. ap (λ (i : ℕ). take i (s ++ l)) both ∙ take-append-add s l j in
          let same : s ++ take j k ≡ s ++ take j p = sym (front k) ∙ sym (ap (λ (i : ℕ). take i (s ++ k)) long) ∙ h ∙ front p in
          let own : take j k ≡ take j p = sym (rest-append s (take j k)) ∙ ap (λ (l : List ℕ). rest s l) same ∙ rest-append s (take j p) in
          let short : length (take j p) ≡ j = length-take-le j p (omega (arith, length-append s p)) in
          ap (λ (i : ℕ). take i k) short ∙ own
      | inr less ↦ subst (λ (i : ℕ). Begins k (take i p)) (let e : 0 ≡ lift - length s = omega arith in e) refl
    ]

long_inside : (n m : ℕ) (s : List ℕ) (parts : List (Option Message)) (start : ℕ) (d : Edge) (others : List Edge) → IsEdge n d (end_before others) → begins d.pivot s ≡ true → IsBelowEnd s (end_before others) → IsKey s → seen_after parts start d.seen ≤ m
    → IsLongEdge m (inside_edge s parts start d) (end_inside s parts start others)
long_inside n m s parts start d others h within high key seen =
    let p : List ℕ = rest s d.pivot in
    let is : d.pivot ≡ s ++ p = begins-is d.pivot s within in
    let most : length d.pivot ≤ key_limit = h.pivot in
    let le : d.lift ≤ length d.pivot = h.lift in
    record {
      pivot = omega (arith, rest_shorter s d.pivot);
      rising = rising_in s parts start p others (subst (λ (l : List ℕ). IsBelowEnd l (end_before others)) is h.rising);
      lift = (let z : d.lift - length s ≤ length p = omega (arith, length-drop (length s) d.pivot) in z);
      common = λ k own range.
          common_after s p k d.lift (subst (λ (l : List ℕ). d.lift ≤ length l) is le)
          (subst (λ (l : List ℕ). Begins (s ++ k) (take d.lift l)) is
          (h.common (s ++ k) (IsKey-append s k key own) ((λ less. range.0 (sym (pivot_after s k d.pivot within) ∙ less)), range_out s parts start k others high range.1)));
      child = child_stays d.child d.source (d.source ++ drop d.lift s) h.child;
      seen = seen;
    }

pub long_edges : (n m : ℕ) (s : List ℕ) (parts : List (Option Message)) (start : ℕ) (others : List Edge) → EachEdge (IsEdge n) others → IsBelowEnd s (end_before others) → IsKey s → ((seen : ℕ) → seen_after parts start seen ≤ m)
    → EachEdge (IsLongEdge m) (map (inside_edge s parts start) (inside s others))
long_edges n m s parts start [] h high key seen = tt
long_edges n m s parts start (f ∷ fs) h high key seen =
    elim (cases_Bool (begins f.pivot s)) [
      | inl within ↦
          let next : IsBelowEnd s (end_before fs) = below_next s f fs high h.0.rising in
          subst (λ (es : List Edge). EachEdge (IsLongEdge m) (map (inside_edge s parts start) es)) (sym (inside_yes s f fs within))
          (long_inside n m s parts start f fs h.0 within next key (seen f.seen), long_edges n m s parts start fs h.1 next key seen)
      | inr out ↦ subst (λ (es : List Edge). EachEdge (IsLongEdge m) (map (inside_edge s parts start) es)) (sym (inside_no s f fs out)) tt
    ]

pub long_all : (n m : ℕ) (s : List ℕ) (parts : List (Option Message)) (start : ℕ) (e : Edge) (es : List Edge) (first : Edge) (others : List Edge) → IsFrom s e es first others → EachEdge (IsEdge n) (e ∷ es) → IsKey s → ((seen : ℕ) → seen_after parts start seen ≤ m)
    → EachEdge (IsLongEdge m) (clipped_edge s parts start [] first ∷ map (inside_edge s parts start) (inside s others))
long_all n m s parts start e es first others h each key seen =
    let own : EachEdge (IsEdge n) (first ∷ others) = h.each n each in
    (long_first n m s parts start first others own.0 h.low h.high key (seen first.seen), long_edges n m s parts start others own.1 h.high key seen)

-- ---- the nodes that they name, and which they are

take_names : (c n : ℕ) (es : List Edge) → count_names c (flat_map edge_names (take n es)) ≤ count_names c (flat_map edge_names es)
take_names c zero es = omega arith
take_names c (suc n) [] = omega arith
take_names c (suc n) (e ∷ es) =
    (let less : count_names c (flat_map edge_names (take n es)) ≤ count_names c (flat_map edge_names es) = take_names c n es in
    omega (arith, count_names-append c (edge_names e) (flat_map edge_names es), count_names-append c (edge_names e) (flat_map edge_names (take n es))))

pub clipped_count : (c : ℕ) (s : List ℕ) (parts : List (Option Message)) (start place n : ℕ) (edges : List Edge) (first : Edge) (others : List Edge) → drop place edges ≡ first ∷ others
    → count_names c (flat_map edge_names (clipped_edge s parts start [] first ∷ map (inside_edge s parts start) (take n others))) ≤ count_names c (flat_map edge_names edges)
clipped_count c s parts start place n edges first others is =
    let same : flat_map edge_names (map (inside_edge s parts start) (take n others)) ≡ flat_map edge_names (take n others) = flat_map-map edge_names (inside_edge s parts start) (take n others) in
    let a : count_names c (edge_names first ++ flat_map edge_names (map (inside_edge s parts start) (take n others))) ≡ count_names c (edge_names first) + count_names c (flat_map edge_names (take n others)) =
    ap (λ (l : List ℕ). count_names c (edge_names first ++ l)) same ∙ count_names-append c (edge_names first) (flat_map edge_names (take n others)) in
    let b : count_names c (flat_map edge_names (take n others)) ≤ count_names c (flat_map edge_names others) = take_names c n others in
    let d : count_names c (edge_names first ++ flat_map edge_names others) ≤ count_names c (flat_map edge_names edges) = subst (λ (l : List Edge). count_names c (flat_map edge_names l) ≤ count_names c (flat_map edge_names edges)) is (drop_names edge_names c place edges) in
    let e : count_names c (edge_names first ++ flat_map edge_names others) ≡ count_names c (edge_names first) + count_names c (flat_map edge_names others) = count_names-append c (edge_names first) (flat_map edge_names others) in
    omega arith

freed_edges : (s : List ℕ) (parts : List (Option Message)) (start : ℕ) (edges : List Edge) (n j : ℕ) (others : List Edge) → ((i : ℕ) (f : Edge) → slice_get others i ≡ Some f → slice_get edges (j + i) ≡ Some f)
    → AllByRecursion (IsFreedEdge s edges) (map (inside_edge s parts start) (take n others))
freed_edges s parts start edges zero j others h = tt
freed_edges s parts start edges (suc n) j [] h = tt
freed_edges s parts start edges (suc n) j (f ∷ fs) h =
    ((f, j + 0, h 0 f refl, refl, refl, refl), freed_edges s parts start edges n (suc j) fs (λ i g there. subst (λ (x : ℕ). slice_get edges x ≡ Some g) (let e : j + suc i ≡ suc j + i = omega arith in e) (h (suc i) g there)))

pub clipped_ones : (s : List ℕ) (parts : List (Option Message)) (start place n : ℕ) (edges : List Edge) (first : Edge) (others : List Edge) → drop place edges ≡ first ∷ others
    → AllByRecursion (IsFreedEdge s edges) (clipped_edge s parts start [] first ∷ map (inside_edge s parts start) (take n others))
clipped_ones s parts start place n edges first others is =
    let at : (i : ℕ) (f : Edge) → slice_get (first ∷ others) i ≡ Some f → slice_get edges (place + i) ≡ Some f = λ i f there.
    sym (dropped_at place i edges) ∙ ap (λ (l : List Edge). slice_get l i) is ∙ there in
    ((first, place + 0, at 0 first refl, refl, refl, refl), freed_edges s parts start edges n (place + 1) others (λ i f there. subst (λ (x : ℕ). slice_get edges x ≡ Some f) (let e : place + suc i ≡ place + 1 + i = omega arith in e) (at (suc i) f there)))

pub clipped_few : (s : List ℕ) (parts : List (Option Message)) (start place n : ℕ) (edges : List Edge) (first : Edge) (others : List Edge) → drop place edges ≡ first ∷ others
    → length (clipped_edge s parts start [] first ∷ map (inside_edge s parts start) (take n others)) ≤ length edges
clipped_few s parts start place n edges first others is =
    let a : length (drop place edges) ≡ suc (length others) = ap (λ (l : List Edge). length l) is in
    omega (arith, length-map (take n others) (inside_edge s parts start), length-take n others, length-drop place edges)

-- ---- the edges as code finds them

pub before_low : (s : List ℕ) (edges : List Edge) → 1 ≤ length edges → count_before s edges < length edges
before_low s edges some =
    omega (arith, prefix_len-le-length (not_above s) (drop 1 edges), length-drop 1 edges)

pub some_left : (s : List ℕ) (edges back : List Edge) (n : ℕ) → 1 ≤ length edges → n ≡ count_before s edges → back ≡ drop n edges → 1 ≤ length back
some_left s edges back n some is same =
    omega (arith, before_low s edges some, ap (λ (l : List Edge). length l) same, length-drop n edges)

-- a slice's first element and the others
abbrev pub others_of : List Edge → List Edge
others_of es = take (length es - 1) (drop 1 es)

pub parted : (es : List Edge) (e : Edge) → 1 ≤ length es → e ≡ get_or es 0 e → es ≡ e ∷ others_of es
parted [] e some first = absurd (omega arith)
parted (x ∷ es) e some first =
    let less : suc (length es) - 1 ≡ length es = omega arith in
    ap (λ (d : Edge). d ∷ es) (sym first) ∙ ap (λ (ds : List Edge). e ∷ ds) (sym (take-length es) ∙ ap (λ (n : ℕ). take n es) (sym less))

pub are_clipped : (s : List ℕ) (parts : List (Option Message)) (start n m : ℕ) (edges back within made new : List Edge) (first c : Edge) (pivot : List ℕ) → n ≡ count_before s edges → back ≡ drop n edges → 1 ≤ length back → first ≡ get_or back 0 first → m ≡ count_within s (others_of back)
    → within ≡ take m (others_of back) → made ≡ map (inside_edge s parts start) within → pivot ≡ [] → c ≡ clipped_edge s parts start pivot first → new ≡ c ∷ made → AreClippedEdges s parts start edges new
are_clipped s parts start n m edges back within made new first c pivot n_is back_is some first_is m_is within_is made_is pivot_is c_is new_is = record {
  first = first;
  others = others_of back;
  from = sym (ap (λ (i : ℕ). drop i edges) n_is) ∙ sym back_is ∙ parted back first some first_is;
  made_are = new_is
      ∙ ap (λ (d : Edge). d ∷ made) (c_is ∙ ap (λ (p : List ℕ). clipped_edge s parts start p first) pivot_is)
      ∙ ap (λ (ds : List Edge). clipped_edge s parts start [] first ∷ ds) (made_is ∙ ap (λ (ds : List Edge). map (inside_edge s parts start) ds) (within_is ∙ ap (λ (i : ℕ). take i (others_of back)) m_is));
}
