-- Edges: each key has one, and messages put after a buffer wait for some edge.
use Rattle.std.proofs.Common.{◌≡◌, ℕ, true, false, List, [], ◌∷◌, refl, sym, ap, subst, ◌∙◌, Option, None, Some, inl, inr, Ordering, Less, Equal, Greater}
use Rattle.std.specs.Ordering.{is_lt, ordering_reverse}
use Rattle.std.proofs.lemmas.Bool.{cond-true, cond-false, cases_Bool}
use Rattle.std.proofs.lemmas.Cmp.{nat_list_cmp_total as total}
use Rattle.bd_keys.specs.Keys.{key_cmp, IsBelow, IsBelowEnd, IsAtLeast, InRange}
use Rattle.bd_node.specs.declared.node.Edge.{Edge}
use Rattle.bd_node.specs.Nodes.{edge_from, edge_of}
use Rattle.bd_node.specs.Shape.{end_before, EachEdge, SomeEdge}

-- ---- the order of keys

pub lt_is : (o : Ordering) → is_lt o ≡ true → o ≡ Less
lt_is Less h = refl
lt_is Equal h = cc
lt_is Greater h = cc

pub lt_isnt : (o : Ordering) → is_lt o ≡ false → o ≡ Less → ⊥
lt_isnt Less h e = cc
lt_isnt Equal h e = cc
lt_isnt Greater h e = cc

pub less_lt : (o : Ordering) → o ≡ Less → is_lt o ≡ true
less_lt o e = ap is_lt e

pub not_less_lt : (o : Ordering) → (o ≡ Less → ⊥) → is_lt o ≡ false
not_less_lt Less h = absurd (h refl)
not_less_lt Equal h = refl
not_less_lt Greater h = refl

-- no key is below the empty one
not_below_empty : (k : List ℕ) → IsAtLeast k []
not_below_empty [] h = cc
not_below_empty (a ∷ k) h = cc

-- no key is below itself
pub not_below_itself : (k : List ℕ) → IsAtLeast k k
not_below_itself k h = lt_isnt (key_cmp k k) (not_less_lt (key_cmp k k) (λ less. (let e : Less ≡ ordering_reverse Less = sym less ∙ total.antisymm k k ∙ ap ordering_reverse less in (cc)))) h

below_cases : (k a b : List ℕ) (o : Ordering) → key_cmp b a ≡ o → IsBelow k a → IsAtLeast b a → IsBelow k b
below_cases k a b Less e below from = absurd (from e)
below_cases k a b Equal e below from =
    total.antisymm k b ∙ ap ordering_reverse (total.congr b a k e) ∙ sym (total.antisymm k a) ∙ below
below_cases k a b Greater e below from =
    total.trans k a b below (total.antisymm a b ∙ ap ordering_reverse e)

-- what is below a is below what isn't below a
below_from : (k a b : List ℕ) → IsBelow k a → IsAtLeast b a → IsBelow k b
below_from k a b below from = below_cases k a b (key_cmp b a) refl below from

-- what is at least b is at least what is below b
pub least_over : (k a b : List ℕ) → IsAtLeast k b → IsBelow a b → IsAtLeast k a
least_over k a b least below less = least (total.trans k a b less below)

-- ---- properties of each edge

pub EachEdge-weaker : (P Q : Edge → Option (List ℕ) → Type 0) → ((e : Edge) (hi : Option (List ℕ)) → P e hi → Q e hi) → (es : List Edge) → EachEdge P es → EachEdge Q es
EachEdge-weaker P Q f [] h = tt
EachEdge-weaker P Q f (e ∷ es) h = (f e (end_before es) h.0, EachEdge-weaker P Q f es h.1)

pub SomeEdge-weaker : (P Q : Edge → Option (List ℕ) → Type 0) → ((e : Edge) (hi : Option (List ℕ)) → P e hi → Q e hi) → (es : List Edge) → SomeEdge P es → SomeEdge Q es
SomeEdge-weaker P Q f [] h = h
SomeEdge-weaker P Q f (e ∷ es) h = elim h [ inl here ↦ inl (f e (end_before es) here) | inr later ↦ inr (SomeEdge-weaker P Q f es later) ]

-- ---- each key has an edge

-- the edge is one of these, and its keys include the key
abbrev pub IsEdgeOf : Edge → List ℕ → (Edge → Option (List ℕ) → Type 0) → Edge → Option (List ℕ) → Type 0
IsEdgeOf found k P e hi = (e ≡ found) × InRange e.pivot hi k × P e hi

pub edge_from-some : (P : Edge → Option (List ℕ) → Type 0) (e : Edge) (es : List Edge) (k : List ℕ) → EachEdge P (e ∷ es) → IsAtLeast k e.pivot → SomeEdge (IsEdgeOf (edge_from e es k) k P) (e ∷ es)
edge_from-some P e [] k h least = inl (refl, (least, tt), h.0)
edge_from-some P e (f ∷ es) k h least =
    elim (cases_Bool (is_lt (key_cmp k f.pivot))) [
      | inl below ↦ inl (sym (cond-true (is_lt (key_cmp k f.pivot)) e (edge_from f es k) below), (least, lt_is (key_cmp k f.pivot) below), h.0)
      | inr above ↦ (let same : edge_from e (f ∷ es) k ≡ edge_from f es k = cond-false (is_lt (key_cmp k f.pivot)) e (edge_from f es k) above in
          let F : Edge → Type 0 = λ found. SomeEdge (IsEdgeOf found k P) (f ∷ es) in
          inr (subst F (sym same) (edge_from-some P f es k h.1 (λ less. lt_isnt (key_cmp k f.pivot) above less))))
    ]

-- ---- and just one

-- each edge's pivot is below the next one's
abbrev pub IsRisingEdge : Edge → Option (List ℕ) → Type 0
IsRisingEdge e hi = IsBelowEnd e.pivot hi

-- a key of one of these edges is at least the first one's pivot
first_least : (e : Edge) (es : List Edge) (k : List ℕ) → EachEdge IsRisingEdge (e ∷ es) → EachEdge (λ (f : Edge) hi. IsAtLeast k f.pivot → IsAtLeast k e.pivot) (e ∷ es)
first_least e [] k h = ((λ least. least), tt)
first_least e (f ∷ es) k h = (
  (λ least. least),
  EachEdge-weaker (λ (g : Edge) hi. IsAtLeast k g.pivot → IsAtLeast k f.pivot) (λ (g : Edge) hi. IsAtLeast k g.pivot → IsAtLeast k e.pivot)
      (λ g hi then least. least_over k e.pivot f.pivot (then least) h.0) (f ∷ es) (first_least f es k h.1),
)

each_both : (P Q R : Edge → Option (List ℕ) → Type 0) → ((e : Edge) (hi : Option (List ℕ)) → P e hi → Q e hi → R e hi) → (es : List Edge) → EachEdge P es → EachEdge Q es → EachEdge R es
each_both P Q R f [] h g = tt
each_both P Q R f (e ∷ es) h g = (f e (end_before es) h.0 g.0, each_both P Q R f es h.1 g.1)

first_only : (e : Edge) (es : List Edge) (k : List ℕ) → IsBelowEnd k (end_before es) → edge_from e es k ≡ e
first_only e [] k below = refl
first_only e (f ∷ es) k below = cond-true (is_lt (key_cmp k f.pivot)) e (edge_from f es k) (less_lt (key_cmp k f.pivot) below)

edge_from-only : (e : Edge) (es : List Edge) (k : List ℕ) → EachEdge IsRisingEdge (e ∷ es) → EachEdge (λ (f : Edge) hi. InRange f.pivot hi k → edge_from e es k ≡ f) (e ∷ es)
edge_from-only e [] k h = ((λ range. refl), tt)
edge_from-only e (f ∷ es) k h = (
  (λ range. first_only e (f ∷ es) k range.1),
  each_both (λ (g : Edge) hi. IsAtLeast k g.pivot → IsAtLeast k f.pivot) (λ (g : Edge) hi. InRange g.pivot hi k → edge_from f es k ≡ g) (λ (g : Edge) hi. InRange g.pivot hi k → edge_from e (f ∷ es) k ≡ g)
      (λ g hi least only range. cond-false (is_lt (key_cmp k f.pivot)) e (edge_from f es k) (not_less_lt (key_cmp k f.pivot) (least range.0)) ∙ only range)
      (f ∷ es) (first_least f es k h.1) (edge_from-only f es k h.1),
)

pub edge_of-only : (es : List Edge) (k : List ℕ) → EachEdge IsRisingEdge es → EachEdge (λ (f : Edge) hi. InRange f.pivot hi k → edge_of es k ≡ Some f) es
edge_of-only [] k h = tt
edge_of-only (e ∷ es) k h =
    EachEdge-weaker (λ (f : Edge) hi. InRange f.pivot hi k → edge_from e es k ≡ f) (λ (f : Edge) hi. InRange f.pivot hi k → edge_of (e ∷ es) k ≡ Some f)
    (λ f hi only range. ap (λ (g : Edge). Some g) (only range)) (e ∷ es) (edge_from-only e es k h)

none_some : ◌≡◌ {A = Option (List ℕ)} None (Some []) → ⊥
none_some h = cc

same_some : {k : List ℕ} → Some k ≡ Some [] → k ≡ []
same_some h = cc

-- where the first pivot is the empty key
pub some_edge : (P : Edge → Option (List ℕ) → Type 0) (es : List Edge) (k : List ℕ) → EachEdge P es → end_before es ≡ Some [] → SomeEdge (λ (e : Edge) hi. (edge_of es k ≡ Some e) × InRange e.pivot hi k × P e hi) es
some_edge P [] k h first = absurd (none_some first)
some_edge P (e ∷ es) k h first =
    let pivot : e.pivot ≡ [] = same_some first in
    let least : IsAtLeast k e.pivot = subst (λ (p : List ℕ). IsAtLeast k p) (sym pivot) (not_below_empty k) in
    SomeEdge-weaker (IsEdgeOf (edge_from e es k) k P) (λ (f : Edge) hi. (edge_of (e ∷ es) k ≡ Some f) × InRange f.pivot hi k × P f hi)
    (λ f hi found. (ap (λ (g : Edge). Some g) (sym found.0), found.1, found.2)) (e ∷ es) (edge_from-some P e es k h least)
