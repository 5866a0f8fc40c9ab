-- What a well-formed inner node has: rising edges, one at least, none of which has seen too much.
use Rattle.std.proofs.Common.{◌≡◌, ℕ, ◌≤◌, true, false, cond, List, [], ◌∷◌, length, subst, Some, arith}
use Rattle.std.specs.Prelude.{slice_get}
use Rattle.std.specs.List.{AllByRecursion}
use Rattle.std.specs.Ordering.{is_lt}
use Rattle.std.proofs.lemmas.Option.{same_Some, none-some}
use Rattle.bd_keys.specs.Keys.{IsBelowEnd, key_cmp}
use Rattle.bd_message.specs.declared.message.Message.{Message}
use Rattle.bd_message.specs.Messages.{IsMessage}
use Rattle.bd_node.specs.declared.node.Edge.{Edge}
use Rattle.bd_node.specs.Nodes.{edge_from, edge_of}
use Rattle.bd_node.specs.Shape.{end_before, EachEdge, IsEdge, IsInner, AreRising}
use Rattle.bd_node.proofs.Edges.{EachEdge-weaker}
use Rattle.bd_node.proofs.Lookup.{each_at}

pub inner_rising : (level : ℕ) (es : List Edge) (buffer : List Message) → IsInner level es buffer → AreRising es
inner_rising level es buffer h = EachEdge-weaker (IsEdge (length buffer)) (λ (e : Edge) hi. IsBelowEnd e.pivot hi) (λ e hi own. own.rising) es h.each

some_edges : (es : List Edge) → end_before es ≡ Some [] → 1 ≤ length es
some_edges [] h = absurd (none-some [] h)
some_edges (e ∷ es) h = omega arith

pub inner_some : (level : ℕ) (es : List Edge) (buffer : List Message) → IsInner level es buffer → 1 ≤ length es
inner_some level es buffer h = some_edges es h.first

edge_seen_from : (n : ℕ) (e : Edge) (es : List Edge) (k : List ℕ) → EachEdge (IsEdge n) (e ∷ es) → (edge_from e es k).seen ≤ n
edge_seen_from n e [] k h = h.0.seen
edge_seen_from n e (f ∷ es) k h =
    elim (is_lt (key_cmp k f.pivot)) as (λ b. (cond b e (edge_from f es k)).seen ≤ n) [
      | true ↦ h.0.seen
      | false ↦ edge_seen_from n f es k h.1
    ]

edge_seen : (n : ℕ) (es : List Edge) (k : List ℕ) (e : Edge) → EachEdge (IsEdge n) es → edge_of es k ≡ Some e → e.seen ≤ n
edge_seen n [] k e h there = absurd (none-some e there)
edge_seen n (f ∷ es) k e h there = subst (λ (d : Edge). d.seen ≤ n) (same_Some (edge_from f es k) e there) (edge_seen_from n f es k h)

pub inner_seen : (level : ℕ) (es : List Edge) (buffer : List Message) (k : List ℕ) (e : Edge) → IsInner level es buffer → edge_of es k ≡ Some e → e.seen ≤ length buffer
inner_seen level es buffer k e h there = edge_seen (length buffer) es k e h.each there

pub message_at : (ms : List Message) (i : ℕ) (m : Message) → AllByRecursion IsMessage ms → slice_get ms i ≡ Some m → IsMessage m
message_at ms i m h there = each_at IsMessage ms i m h there
