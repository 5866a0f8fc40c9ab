-- Nodes freed of a prefix.
use Rattle.std.proofs.Common.{◌≡◌, ℕ, ◌-◌, ◌≤◌, List, [], ◌∷◌, ◌++◌, length, take, drop, map, refl, sym, ap, subst, ◌∙◌, Option, arith}
use Rattle.std.specs.Option.{option_to_list}
use Rattle.std.specs.List.{AllByRecursion, flat_map}
use Rattle.std.proofs.lemmas.Option.{same_Some, none-some}
use Rattle.bd_keys.specs.Keys.{IsKey, IsAtLeast}
use Rattle.bd_keys.proofs.Order.{not_below_nil}
use Rattle.bd_limits.specs.Limits.{key_limit, edge_limit}
use Rattle.bd_message.specs.declared.message.Message.{Message}
use Rattle.bd_message.specs.declared.message.Message.TheVariants.{Put, Del, Patch, Cut, Goto}
use Rattle.bd_message.specs.Messages.{IsMessage}
use Rattle.bd_message.specs.Effect.{NodesAt, acts}
use Rattle.bd_message.specs.Freeing.{freed, source_of}
use Rattle.bd_node.specs.declared.node.Edge.{Edge}
use Rattle.bd_node.specs.declared.node.Node.TheVariants.{Inner}
use Rattle.bd_node.specs.Nodes.{message_names, edge_names, edge_from, edge_at, child_at}
use Rattle.bd_node.specs.Shape.{EachEdge, IsEdge, IsInner}
use Rattle.bd_node.proofs.Edges.{IsRisingEdge}
use Rattle.bd_node.specs.Compaction.{IsLoose}
use Rattle.bd_inner.specs.Clipping.{IsLongEdge, IsLongMessage, IsLong, IsStart, count_before, count_within, source_below, clipped_edge, inside_edge, AreClippedEdges, IsClipped}
use Rattle.bd_node.proofs.Compacting.{count_names, count_names-append}
use Rattle.bd_inner.proofs.Splitting.{rising}
use Rattle.bd_inner.proofs.FreedMessages.{all_freed, map_drop, acts_unseen, seen_within, freed_fit, freed_longs, freed_later, freed_ones, freed_count}
use Rattle.bd_inner.proofs.ClippedEdges.{IsFrom, from_facts, least_begun, clipped_child, IsSame, same_edge, long_all, clipped_count, clipped_ones, clipped_few}

-- what an edge has behind the prefix
edge_has : (below : NodesAt) (s : List ℕ) (start : ℕ) (buffer : List Message) (d c : Edge) (k : List ℕ) → IsStart (map (freed s) buffer) start → IsSame s (map (freed s) buffer) start d c
    → edge_at below c (all_freed s (drop start buffer)) k ≡ edge_at below d buffer (s ++ k)
edge_has below s start buffer d c k h same =
    ap (λ (x : Edge). edge_at below x (all_freed s (drop start buffer)) k) same.is
    ∙ acts_unseen below s d.seen start buffer k (child_at below d.child (source_below s d ++ drop (d.lift - length s) k)) h
    ∙ ap (λ (o : Option (List ℕ)). acts below (drop d.seen buffer) (s ++ k) o) (clipped_child below s d k)

-- the parts of a node with an edge at the front
clipped_parts : (level : ℕ) (e : Edge) (es : List Edge) (buffer : List Message) (s : List ℕ) (start : ℕ) (first : Edge) (others : List Edge) → IsInner level (e ∷ es) buffer → IsKey s → length s ≤ key_limit → IsStart (map (freed s) buffer) start
    → drop (count_before s (e ∷ es)) (e ∷ es) ≡ first ∷ others
    → IsClipped (Inner level (e ∷ es) buffer) s (Inner level (clipped_edge s (map (freed s) buffer) start [] first ∷ map (inside_edge s (map (freed s) buffer) start) (take (count_within s others) others)) (all_freed s (drop start buffer)))
clipped_parts level e es buffer s start first others h key short start_is is =
    let parts : List (Option Message) = map (freed s) buffer in
    let list : List Message = all_freed s (drop start buffer) in
    let place : ℕ = count_before s (e ∷ es) in
    let n : ℕ = count_within s others in
    let pivot : e.pivot ≡ [] = same_Some e.pivot [] h.first in
    let low : IsAtLeast s e.pivot = subst (λ (p : List ℕ). IsAtLeast s p) (sym pivot) (not_below_nil s) in
    let from : IsFrom s e es first others = from_facts s e es first others low is in
    let up : EachEdge IsRisingEdge (first ∷ others) = rising (length buffer) (first ∷ others) (from.each (length buffer) h.each) in
    let few : length (e ∷ es) ≤ edge_limit = h.few in
    record {
      level_is = refl;
      shape = record {
        low = h.low;
        high = h.high;
        few = (let less : _ ≤ length (e ∷ es) = clipped_few s parts start place n (e ∷ es) first others is in omega arith);
        first = refl;
        each = long_all (length buffer) (length list) s parts start e es first others from h.each key (λ seen. seen_within s seen start buffer);
        messages = freed_longs s start buffer h.messages;
        size = freed_fit s start buffer short h.messages start_is h.size;
      };
      meaning = λ below k.
          edge_has below s start buffer (edge_from first others (s ++ k)) (edge_from (clipped_edge s parts start [] first) (map (inside_edge s parts start) (take n others)) k) k start_is
          (same_edge s parts start k first (clipped_edge s parts start [] first) others (record { pivot = []; is = refl }) from.high up.1)
          ∙ sym (ap (λ (x : Edge). edge_at below x buffer (s ++ k)) (from.at (s ++ k) (least_begun s k)));
      edges = clipped_ones s parts start place n (e ∷ es) first others is;
      messages = freed_ones s start buffer;
      later = freed_later s start buffer h.messages start_is;
      names = λ c.
          let new_edges : List Edge = clipped_edge s parts start [] first ∷ map (inside_edge s parts start) (take n others) in
          let a : count_names c (flat_map edge_names new_edges) ≤ count_names c (flat_map edge_names (e ∷ es)) = clipped_count c s parts start place n (e ∷ es) first others is in
          let b : count_names c (flat_map message_names list) ≤ count_names c (flat_map message_names buffer) = freed_count c s start buffer in
          omega (arith, count_names-append c (flat_map edge_names new_edges) (flat_map message_names list), count_names-append c (flat_map edge_names (e ∷ es)) (flat_map message_names buffer));
    }

pub clipped : (level : ℕ) (edges made given : List Edge) (buffer list shown : List Message) (parts newer : List (Option Message)) (s : List ℕ) (start : ℕ) → IsInner level edges buffer → IsKey s → length s ≤ key_limit → parts ≡ map (freed s) buffer → IsStart parts start
    → AreClippedEdges s parts start edges made → newer ≡ drop start parts → list ≡ flat_map option_to_list newer → given ≡ made → shown ≡ list → IsClipped (Inner level edges buffer) s (Inner level given shown)
clipped level [] made given buffer list shown parts newer s start h key short parts_are start_is edges_are newer_is list_is given_is shown_is = absurd (none-some [] h.first)
clipped level (e ∷ es) made given buffer list shown parts newer s start h key short parts_are start_is edges_are newer_is list_is given_is shown_is =
    let freed_parts : List (Option Message) = map (freed s) buffer in
    let start_own : IsStart freed_parts start = subst (λ (ps : List (Option Message)). IsStart ps start) parts_are start_is in
    let edges_own : AreClippedEdges s freed_parts start (e ∷ es) made = subst (λ (ps : List (Option Message)). AreClippedEdges s ps start (e ∷ es) made) parts_are edges_are in
    let messages : shown ≡ all_freed s (drop start buffer) =
    shown_is ∙ list_is ∙ ap (λ (ps : List (Option Message)). flat_map option_to_list ps) (newer_is ∙ ap (λ (ps : List (Option Message)). drop start ps) parts_are ∙ map_drop s start buffer) in
    subst (λ (ms : List Message). IsClipped (Inner level (e ∷ es) buffer) s (Inner level given ms)) (sym messages)
    (subst (λ (ds : List Edge). IsClipped (Inner level (e ∷ es) buffer) s (Inner level ds (all_freed s (drop start buffer)))) (sym (given_is ∙ edges_own.made_are))
    (clipped_parts level e es buffer s start edges_own.first edges_own.others h key short start_own edges_own.from))

-- ---- once no source is too long

short_message : (m : Message) → IsLongMessage m → length (source_of m) ≤ key_limit → IsMessage m
short_message (Put key value) h short = h
short_message (Del key) h short = h
short_message (Patch key off bytes) h short = h
short_message (Cut prefix from) h short = h
short_message (Goto prefix source child) h short = (h.0, short, h.2, h.3)

short_messages : (ms : List Message) → AllByRecursion IsLongMessage ms → AllByRecursion (λ (m : Message). length (source_of m) ≤ key_limit) ms → AllByRecursion IsMessage ms
short_messages [] h short = tt
short_messages (m ∷ ms) h short = (short_message m h.0 short.0, short_messages ms h.1 short.1)

short_edges : (n : ℕ) (es : List Edge) → EachEdge (IsLongEdge n) es → AllByRecursion (λ (e : Edge). length e.source ≤ key_limit) es → EachEdge (IsEdge n) es
short_edges n [] h short = tt
short_edges n (e ∷ es) h short = (
  record {
    pivot = h.0.pivot;
    rising = h.0.rising;
    lift = h.0.lift;
    common = h.0.common;
    source = short.0;
    child = h.0.child;
    seen = h.0.seen;
  },
  short_edges n es h.1 short.1,
)

pub short_loose : (level : ℕ) (edges : List Edge) (buffer : List Message) → IsLong level edges buffer → AllByRecursion (λ (e : Edge). length e.source ≤ key_limit) edges → AllByRecursion (λ (m : Message). length (source_of m) ≤ key_limit) buffer → IsLoose level edges buffer
short_loose level edges buffer h short_e short_m = record {
  low = h.low;
  high = h.high;
  few = h.few;
  first = h.first;
  each = short_edges (length buffer) edges h.each short_e;
  messages = short_messages buffer h.messages short_m;
  size = h.size;
}
