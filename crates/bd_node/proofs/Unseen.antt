-- Whether the edge of a key hasn't seen a message.
use Rattle.std.proofs.Common.{◌≡◌, ℕ, ◌<◌, ◌≤◌, Bool, true, false, not, leb, List, [], ◌∷◌, sym, ap, subst, ◌∙◌, Option, Some, inl, inr, arith}
use Rattle.std.specs.Prelude.{IsTrue, ◌↔◌}
use Rattle.std.proofs.lemmas.Bool.Decides.{nat_tests}
use Rattle.std.specs.Ordering.{is_lt}
use Rattle.std.proofs.lemmas.Bool.{cond-true, cond-false, cases_Bool}
use Rattle.std.proofs.lemmas.Option.{same_Some, none-some}
use Rattle.bd_keys.specs.Keys.{key_cmp, IsAtLeast, InRange}
use Rattle.bd_message.specs.declared.message.Message.{Message}
use Rattle.bd_node.specs.declared.node.Edge.{Edge}
use Rattle.bd_node.specs.Nodes.{edge_from, edge_of}
use Rattle.bd_node.specs.Shape.{end_before, AreRising, EachEdge, SomeEdge, IsPending, IsUnseen}
use Rattle.bd_node.specs.Index.{is_point, own_key}
use Rattle.bd_node.proofs.Edges.{lt_is, lt_isnt, not_less_lt, SomeEdge-weaker, edge_of-only}
use Rattle.bd_node.proofs.Indexing.{point_touches, touches_point}

there_from : (place : ℕ) (k : List ℕ) (e : Edge) (es : List Edge) (found : Edge) → edge_from e es k ≡ found → found.seen ≤ place → IsAtLeast k found.pivot → SomeEdge (IsUnseen place k) (e ∷ es)
there_from place k e [] found is seen least =
    inl (subst (λ (x : Edge). x.seen ≤ place) (sym is) seen, (subst (λ (x : Edge). IsAtLeast k x.pivot) (sym is) least, tt))
there_from place k e (f ∷ es) found is seen least =
    elim (cases_Bool (is_lt (key_cmp k f.pivot))) [
      | inl below ↦ (let same : e ≡ found = sym (cond-true (is_lt (key_cmp k f.pivot)) e (edge_from f es k) below) ∙ is in
          inl (subst (λ (x : Edge). x.seen ≤ place) (sym same) seen, (subst (λ (x : Edge). IsAtLeast k x.pivot) (sym same) least, lt_is (key_cmp k f.pivot) below)))
      | inr above ↦ inr (there_from place k f es found (sym (cond-false (is_lt (key_cmp k f.pivot)) e (edge_from f es k) above) ∙ is) seen least)
    ]

-- the edge of the key is one that hasn't seen it
pub unseen_there : (place : ℕ) (k : List ℕ) (edges : List Edge) (found : Edge) → edge_of edges k ≡ Some found → found.seen ≤ place → IsAtLeast k found.pivot → SomeEdge (IsUnseen place k) edges
unseen_there place k [] found is seen least = absurd (none-some found is)
unseen_there place k (e ∷ es) found is seen least = there_from place k e es found (same_Some (edge_from e es k) found is) seen least

some_each : (P Q : Edge → Option (List ℕ) → Type 0) (R : Type 0) → ((e : Edge) (hi : Option (List ℕ)) → P e hi → Q e hi → R) → (es : List Edge) → SomeEdge P es → EachEdge Q es → R
some_each P Q R f [] h g = absurd h
some_each P Q R f (e ∷ es) h g = elim h [ inl here ↦ f e (end_before es) here g.0 | inr later ↦ some_each P Q R f es later g.1 ]

-- and it alone may be
pub unseen_only : (place : ℕ) (k : List ℕ) (edges : List Edge) (found : Edge) → AreRising edges → edge_of edges k ≡ Some found → SomeEdge (IsUnseen place k) edges → (found.seen ≤ place) × IsAtLeast k found.pivot
unseen_only place k edges found rising is some =
    some_each (IsUnseen place k) (λ (e : Edge) hi. InRange e.pivot hi k → edge_of edges k ≡ Some e) ((found.seen ≤ place) × IsAtLeast k found.pivot)
    (λ e hi here only.
    let same : e ≡ found = same_Some e found (sym (only here.1) ∙ is) in
    subst (λ (x : Edge). (x.seen ≤ place) × IsAtLeast k x.pivot) same (here.0, here.1.0))
    edges some (edge_of-only edges k rising)

-- a message on a key is pending where the key's edge hasn't seen it
pub point_pending : (place : ℕ) (m : Message) (k : List ℕ) (edges : List Edge) → is_point m ≡ true → k ≡ own_key m → SomeEdge (IsUnseen place k) edges → SomeEdge (IsPending place m) edges
point_pending place m k edges point is =
    SomeEdge-weaker (IsUnseen place k) (IsPending place m) (λ e hi here. (here.0, (k, here.1, point_touches (Some m) k point (sym is)))) edges

pub pending_point : (place : ℕ) (m : Message) (k : List ℕ) (edges : List Edge) → is_point m ≡ true → k ≡ own_key m → SomeEdge (IsPending place m) edges → SomeEdge (IsUnseen place k) edges
pending_point place m k edges point is =
    SomeEdge-weaker (IsPending place m) (IsUnseen place k)
    (λ e hi here. (here.0, subst (λ (l : List ℕ). InRange e.pivot hi l) (sym (is ∙ touches_point (Some m) here.1.0 point here.1.2)) here.1.1)) edges

not_false : (b : Bool) → not b ≡ true → b ≡ false
not_false b h = elim (cases_Bool b) [ inl is ↦ (let e : true ≡ false = sym h ∙ ap not is in (cc)) | inr isnt ↦ isnt ]

pub unseen_then : (b : Bool) (place : ℕ) (k pivot : List ℕ) (edges : List Edge) (found : Edge) → AreRising edges → edge_of edges k ≡ Some found → found.seen ≤ place → b ≡ is_lt (key_cmp k pivot) → pivot ≡ found.pivot
    → IsTrue (not b) ↔ SomeEdge (IsUnseen place k) edges
unseen_then b place k pivot edges found rising is seen b_is pivot_is =
    let test : b ≡ is_lt (key_cmp k found.pivot) = b_is ∙ ap (λ (l : List ℕ). is_lt (key_cmp k l)) pivot_is in (
      (λ h. unseen_there place k edges found is seen (lt_isnt (key_cmp k found.pivot) (sym test ∙ not_false b h))),
      (λ some. ap not (test ∙ not_less_lt (key_cmp k found.pivot) (unseen_only place k edges found rising is some).1)),
    )

pub below_is : (a b : ℕ) → leb a b ≡ true → a ≤ b
below_is a b h = grind (arith, nat_tests)

pub unseen_else : (place : ℕ) (k : List ℕ) (edges : List Edge) (found : Edge) → AreRising edges → edge_of edges k ≡ Some found → place < found.seen → IsTrue (leb found.seen place) ↔ SomeEdge (IsUnseen place k) edges
unseen_else place k edges found rising is seen = (
  (λ h. (let l : found.seen ≤ place = below_is found.seen place h in absurd (omega arith))),
  (λ some. (let l : found.seen ≤ place = (unseen_only place k edges found rising is some).0 in absurd (omega arith))),
)
