-- Edges that can stand in place of one, and edges without lifts.
use Rattle.std.proofs.Common.{◌≡◌, ℕ, ◌+◌, ◌^◌, ◌<◌, ◌≤◌, List, [], ◌∷◌, length, take, drop, refl, sym, ap, subst, Option, Some, arith}
use Rattle.std.specs.List.{AllByRecursion, sum_by}
use Rattle.std.proofs.lemmas.Option.{none-some}
use Rattle.bd_keys.specs.Keys.{IsBelowEnd, IsCommon, IsLift}
use Rattle.bd_limits.specs.Limits.{key_limit, buffer_limit, level_limit, edge_limit}
use Rattle.bd_message.specs.declared.message.Message.{Message}
use Rattle.bd_message.specs.Messages.{IsMessage, size}
use Rattle.bd_node.specs.declared.node.Edge.{Edge}
use Rattle.bd_node.specs.declared.node.Node.{Node}
use Rattle.bd_node.specs.declared.node.Node.TheVariants.{Leaf, Inner}
use Rattle.bd_node.specs.Shape.{end_before, EachEdge, AreRising, IsChild, IsEdge, IsInner, IsShape}
use Rattle.bd_inner.specs.Exchanging.{IsFlat}
use Rattle.bd_node.specs.Compaction.{IsLoose}
use Rattle.bd_node.specs.Parts.{edges_of, buffer_of, end_at, IsEdgeAt}
use Rattle.bd_inner.specs.Batches.{IsLifted}
use Rattle.bd_inner.specs.Exchanging.{FitsAt, way_to}
use Rattle.bd_inner.proofs.Splitting.{EachEdge-back}
use Rattle.bd_inner.proofs.Exchanged.{at_place}

-- ---- one edge of a node

pub own_shape : (n : Node) (place : ℕ) (e : Edge) → IsShape n → IsEdgeAt n place e → IsEdge (length (buffer_of n)) e (end_at n place)
own_shape (Leaf entries) place e h here = absurd (none-some e here)
own_shape (Inner level es buffer) place e h here =
    (EachEdge-back (IsEdge (length buffer)) (take place es) (e ∷ drop (place + 1) es)
    (subst (λ (l : List Edge). EachEdge (IsEdge (length buffer)) l) (at_place es place e here).whole h.each)).0

few_edges : (n : Node) (place : ℕ) (e : Edge) → IsShape n → IsEdgeAt n place e → length (edges_of n) ≤ edge_limit
few_edges (Leaf entries) place e h here = absurd (none-some e here)
few_edges (Inner level es buffer) place e h here = h.few

one_fits : (n : Node) (place : ℕ) (e f : Edge) → IsShape n → IsEdgeAt n place e → f.pivot ≡ e.pivot → IsEdge (length (buffer_of n)) f (end_at n place) → FitsAt n place e (f ∷ [])
one_fits n place e f h here same own = record {
  here = here;
  few = (let few : length (edges_of n) ≤ edge_limit = few_edges n place e h here in omega arith);
  first = ap (λ (p : List ℕ). Some p) same;
  each = (own, tt);
}

pub edge_lifted : (n : Node) (place : ℕ) (e : Edge) → IsShape n → IsEdgeAt n place e → IsLifted e (end_at n place)
edge_lifted n place e h here =
    let own : IsEdge (length (buffer_of n)) e (end_at n place) = own_shape n place e h here in
    record { rising = own.rising; lift = own.lift; common = own.common }

pub seen_fits : (n : Node) (place : ℕ) (e : Edge) (seen : ℕ) → IsShape n → IsEdgeAt n place e → seen ≤ length (buffer_of n) → FitsAt n place e (record e { seen = seen } ∷ [])
seen_fits n place e seen h here low =
    let own : IsEdge (length (buffer_of n)) e (end_at n place) = own_shape n place e h here in
    one_fits n place e (record e { seen = seen }) h here refl
    (record { pivot = own.pivot; rising = own.rising; lift = own.lift; common = own.common; source = own.source; child = own.child; seen = low })

pub way_lifted : (n : Node) (place : ℕ) (e : Edge) (lift child : ℕ) → IsShape n → IsEdgeAt n place e → IsLift e.pivot (end_at n place) lift → IsLifted (way_to e lift child) (end_at n place)
way_lifted n place e lift child h here l =
    let own : IsEdge (length (buffer_of n)) e (end_at n place) = own_shape n place e h here in
    record { rising = own.rising; lift = l.within; common = l.common }

pub way_fits : (n : Node) (place : ℕ) (e : Edge) (lift child seen : ℕ) → IsShape n → IsEdgeAt n place e → IsLift e.pivot (end_at n place) lift → 1 ≤ child → child < 2 ^ 64 → seen ≤ length (buffer_of n)
    → FitsAt n place e (record (way_to e lift child) { seen = seen } ∷ [])
way_fits n place e lift child seen h here l some small low =
    let own : IsEdge (length (buffer_of n)) e (end_at n place) = own_shape n place e h here in
    one_fits n place e (record (way_to e lift child) { seen = seen }) h here refl
    (record { pivot = own.pivot; rising = own.rising; lift = l.within; common = l.common; source = omega arith; child = (some, small); seen = low })

-- ---- edges without lifts

flat_edge : (n : ℕ) (e : Edge) (hi : Option (List ℕ)) → IsFlat n e → IsBelowEnd e.pivot hi → IsEdge n e hi
flat_edge n e hi h rising = record {
  pivot = h.pivot;
  rising = rising;
  lift = (let none : e.lift ≡ 0 = h.lift in omega arith);
  common = subst (λ (l : ℕ). IsCommon e.pivot hi (take l e.pivot)) (sym h.lift) (λ k key range. refl);
  source = subst (λ (s : List ℕ). length s ≤ key_limit) (sym h.source) (omega arith);
  child = subst (λ (s : List ℕ). IsChild e.child s) (sym h.source) h.child;
  seen = h.seen;
}

each_flat : (n : ℕ) (es : List Edge) → AreRising es → AllByRecursion (IsFlat n) es → EachEdge (IsEdge n) es
each_flat n [] rising h = tt
each_flat n (e ∷ es) rising h = (flat_edge n e (end_before es) h.0 rising.0, each_flat n es rising.1 h.1)

pub flat_loose : (level : ℕ) (es : List Edge) (buffer : List Message) → 1 ≤ level → level ≤ level_limit → length es ≤ edge_limit → end_before es ≡ Some [] → AreRising es → AllByRecursion (IsFlat (length buffer)) es → AllByRecursion IsMessage buffer → sum_by size buffer ≤ buffer_limit
    → IsLoose level es buffer
flat_loose level es buffer low high few first rising flat messages fits = record {
  low = low;
  high = high;
  few = few;
  first = first;
  each = each_flat (length buffer) es rising flat;
  messages = messages;
  size = fits;
}

pub flat_shape : (level : ℕ) (es : List Edge) → 1 ≤ level → level ≤ level_limit → length es ≤ edge_limit → end_before es ≡ Some [] → AreRising es → AllByRecursion (IsFlat 0) es → IsInner level es []
flat_shape level es low high few first rising flat = record {
  low = low;
  high = high;
  few = few;
  first = first;
  each = each_flat 0 es rising flat;
  messages = tt;
  size = omega arith;
  pending = λ place m there. absurd (none-some m there);
}
