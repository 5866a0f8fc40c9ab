-- What of a node's messages goes down an edge.
use Rattle.std.proofs.Common.{◌≡◌, ℕ, zero, suc, ◌+◌, ◌^◌, ◌<◌, ◌≤◌, List, [], ◌∷◌, length, take, drop, refl, sym, ap, subst, ◌∙◌, Option, arith, get_or, inl, inr, Result, Ok, Err}
use Rattle.std.specs.Prelude.{IfOk}
use Rattle.std.specs.List.{AllByRecursion, All, sum_by}
use Rattle.std.proofs.lemmas.List.Elements.{All-from_recursion, recursion_from_All}
use Rattle.std.proofs.lemmas.Bool.{cases_lt}
use Rattle.std.proofs.lemmas.Option.{same_Some}
use Rattle.bd_limits.specs.Limits.{batch_limit, leaf_limit}
use Rattle.bd_message.specs.declared.message.Message.{Message}
use Rattle.bd_message.specs.Messages.{IsMessage, IsPlain, size}
use Rattle.bd_node.specs.declared.node.Edge.{Edge}
use Rattle.bd_node.specs.declared.node.Entry.{Entry}
use Rattle.bd_node.specs.declared.node.Node.{Node}
use Rattle.bd_node.specs.declared.node.Node.TheVariants.{Leaf, Inner}
use Rattle.bd_node.specs.Nodes.{level_of, appended}
use Rattle.bd_node.specs.Shape.{end_before, IsLeaf, IsShape}
use Rattle.bd_inner.specs.declared.batches.Batch.{Batch}
use Rattle.bd_node.specs.Parts.{edges_of, buffer_of, end_at, IsEdgeAt}
use Rattle.bd_inner.specs.declared.halves.Halves.{Halves}
use Rattle.bd_inner.specs.Halves.{AreHalves}
use Rattle.bd_inner.specs.Batches.{CanMove, IsBatch}
use Rattle.bd_node.specs.Compaction.{IsCompacted}
use Rattle.bd_inner.specs.Exchanging.{FitsAt}
use Rattle.bd_inner.proofs.Fitting.{seen_fits}
use Rattle.bd_node.proofs.Compacting.{few_wait, compacted_shape}
use Rattle.bd_inner.proofs.Exchanged.{exchanged_shape}
use Rattle.bd_leaf.specs.Leaves.{entries_size, IsReceived}
use Rattle.bd_flush.specs.declared.children.Parts.{Parts}
use Rattle.bd_flush.specs.Pushing.{unseen, CanMoveSome, IsWaitedFor, IsEdgeBatch, IsPushInto, IsPartedOver, IsPushedOver, AreLongParts, ArePushed, IsDescent}
use Rattle.bd_node.specs.declared.push.Gain.TheVariants.{Messages, Entries}
use Rattle.bd_node.specs.Pushes.{exchanged, seen_by, IsPlainFor, IsRelieved}
use Rattle.bd_flush.specs.Pushing.IsPushInto.{received, split}
use Rattle.bd_flush.specs.Children.{IsSplitInto, IsLongIn, IsOver}
use Rattle.bd_flush.specs.declared.children.Halving.{Halving}
use Rattle.bd_flush.specs.declared.children.Halving.TheVariants.{Short, Long}
use Rattle.bd_node.proofs.Parts.{some_edge, edge_here}
use Rattle.bd_flush.proofs.ChildSplits.{fits_here}
use Rattle.bd_flush.proofs.GoingDown.{parts_plain}
use Rattle.bd_flush.proofs.Pushed.{batch_low, batch_plain, each_taken}

-- ---- a node's messages

pub messages_of : (n : Node) → IsShape n → AllByRecursion IsMessage (buffer_of n)
messages_of (Leaf entries) h = tt
messages_of (Inner level es buffer) h = h.messages

pub few_messages : (n : Node) → IsShape n → length (buffer_of n) ≤ 2048
few_messages (Leaf entries) h = omega arith
few_messages (Inner level es buffer) h = few_wait level es buffer h

pub each_rest : (P : Message → Type 0) (count : ℕ) (list : List Message) → AllByRecursion P list → AllByRecursion P (drop count list)
each_rest P zero list h = h
each_rest P (suc count) [] h = tt
each_rest P (suc count) (m ∷ list) h = each_rest P count list h.1

-- ---- the batch

pub end_is : (n : Node) (place : ℕ) (es : List Edge) (hi : Option (List ℕ)) → es ≡ edges_of n → hi ≡ end_before (drop (place + 1) es) → hi ≡ end_at n place
end_is n place es hi same end = end ∙ ap (λ (l : List Edge). end_before (drop (place + 1) l)) same

batch_is : (n : Node) (place : ℕ) (f : Edge) (hi : Option (List ℕ)) (list : List Message) (b : Batch) → IsShape n → CanMoveSome n place f → hi ≡ end_at n place → list ≡ unseen n f → IsBatch f hi list b → IsEdgeBatch n place f b
batch_is n place f hi list b h w end list_is is =
    let own : IsBatch f (end_at n place) (unseen n f) b = subst (λ (o : Option (List ℕ)). IsBatch f o (unseen n f) b) end (subst (λ (l : List Message). IsBatch f hi l b) list_is is) in
    record { batch = own; some = own.some w.some }

pub on_batch_for : {E : Type 0} (n : Node) (place : ℕ) (f : Edge) (hi : Option (List ℕ)) (list : List Message) (r : Result Batch E) → IsShape n → CanMoveSome n place f → hi ≡ end_at n place → list ≡ unseen n f → IfOk r (IsBatch f hi list) → IfOk r (IsEdgeBatch n place f)
on_batch_for n place f hi list (Ok b) h w end list_is is = batch_is n place f hi list b h w end list_is is
on_batch_for n place f hi list (Err x) h w end list_is is = tt

pub on_batch : {E : Type 0} (n : Node) (place : ℕ) (e : Edge) (r : Result Batch E) → IsEdgeAt n place e → IfOk r (IsEdgeBatch n place e) → IfOk r (λ b. (d : Edge) → IsEdgeAt n place d → IsEdgeBatch n place d b)
on_batch n place e (Ok b) here is = λ d there. subst (λ (x : Edge). IsEdgeBatch n place x b) (same_Some e d (sym here ∙ there)) is
on_batch n place e (Err x) here is = tt

-- ---- the node above

-- how much the edge has seen then
pub seen_small : (n : Node) (place : ℕ) (e : Edge) (es : List Edge) (count : ℕ) → IsShape n → es ≡ edges_of n → place < length (edges_of n) → e ≡ get_or es place e → ((d : Edge) → IsEdgeAt n place d → d.seen + count ≤ length (buffer_of n)) → e.seen + count < 2 ^ 32
seen_small n place e es count shape same low read there =
    let most : e.seen + count ≤ length (buffer_of n) = there e (edge_here es n place e same low read) in
    let few : length (buffer_of n) ≤ 2048 = few_messages n shape in
    omega arith

pub same_fits : (n : Node) (place : ℕ) (e f : Edge) (count : ℕ) → IsShape n → IsEdgeAt n place e → ((d : Edge) → IsEdgeAt n place d → d.seen + count ≤ length (buffer_of n)) → f ≡ seen_by e count → (d : Edge) → IsEdgeAt n place d → FitsAt n place d (f ∷ [])
same_fits n place e f count shape here low is =
    subst (λ (g : Edge). (d : Edge) → IsEdgeAt n place d → FitsAt n place d (g ∷ [])) (sym is)
    (fits_here n place e (seen_by e count ∷ []) (seen_fits n place e (e.seen + count) shape here (low e here)))

pub on_relieved : {E : Type 0} (n : Node) (place : ℕ) (e f : Edge) (count : ℕ) (r : Result Node E) → IsEdgeAt n place e → f ≡ seen_by e count → IfOk r (IsCompacted (exchanged n place (f ∷ []))) → IfOk r (λ m. (d : Edge) → IsEdgeAt n place d → IsRelieved n place d count m)
on_relieved n place e f count (Ok m) here same is = λ d there.
    subst (λ (x : Edge). IsRelieved n place x count m) (same_Some e d (sym here ∙ there))
    (subst (λ (x : Edge). IsCompacted (exchanged n place (x ∷ [])) m) same is)
on_relieved n place e f count (Err x) here same is = tt

-- the batch's messages, and the room for them
pub batch_messages : (n : Node) (place : ℕ) (b : Batch) → place < length (edges_of n) → ((e : Edge) → IsEdgeAt n place e → IsEdgeBatch n place e b) → AllByRecursion IsMessage b.messages
batch_messages n place b low batch = let found = some_edge n place low in (batch found.0 found.1).batch.moved.each

pub batch_fits : (n : Node) (place : ℕ) (b : Batch) → place < length (edges_of n) → ((e : Edge) → IsEdgeAt n place e → IsEdgeBatch n place e b) → sum_by size b.messages ≤ batch_limit
batch_fits n place b low batch = let found = some_edge n place low in (batch found.0 found.1).batch.fits

pub are_received : (n : Node) (place : ℕ) (m : Node) (next : ℕ) (b : Batch) (parts : Parts) → place < length (edges_of n) → 1 ≤ level_of m → ((e : Edge) → IsEdgeAt n place e → IsEdgeBatch n place e b) → ((e : Edge) → IsEdgeAt n place e → IsRelieved n place e b.count parts.node)
    → parts.half ≡ appended m b.messages → parts.made.items ≡ [] → ArePushed n place m next parts
are_received n place m next b parts low inner batch above half_is made_is =
    let found = some_edge n place low in
    record {
      edge = found.0;
      here = found.1;
      batch = b;
      moved = batch found.0 found.1;
      into = subst (λ (d : Node). IsPushInto n place found.0 m b next parts.node d parts.made.items) (sym half_is)
          (subst (λ (l : List Node). IsPushInto n place found.0 m b next parts.node (appended m b.messages) l) (sym made_is)
          (received parts.node inner (above found.0 found.1)));
    }

-- the same in place, where none of them names a node
pub each_plain : (list messages : List Message) → list ≡ messages → All IsPlain list → AllByRecursion IsPlain messages
each_plain list messages is h = subst (λ (l : List Message). AllByRecursion IsPlain l) is (recursion_from_All IsPlain list h)

pub inner_descent : (n : Node) (place : ℕ) (m : Node) (b : Batch) → place < length (edges_of n) → 1 ≤ level_of m → ((e : Edge) → IsEdgeAt n place e → CanMoveSome n place e) → ((e : Edge) → IsEdgeAt n place e → IsEdgeBatch n place e b) → AllByRecursion IsPlain b.messages
    → IsDescent n place m b.count (Messages b.messages)
inner_descent n place m b low inner waiting batch plain =
    let found = some_edge n place low in
    let is : IsEdgeBatch n place found.0 b = batch found.0 found.1 in
    record {
      edge = found.0;
      here = found.1;
      batch = b;
      moved = is;
      count_is = refl;
      plain = parts_plain found.0 (end_at n place) (take b.count (unseen n found.0)) b.messages (each_taken (CanMove found.0 (end_at n place)) b.count (unseen n found.0) (waiting found.0 found.1).each) is.batch.parts plain;
      gained = (refl, inner, plain);
    }

-- ---- a leaf

pub batch_plain_at : (n : Node) (place : ℕ) (b : Batch) → place < length (edges_of n) → ((e : Edge) → IsEdgeAt n place e → IsWaitedFor n place e) → ((e : Edge) → IsEdgeAt n place e → IsEdgeBatch n place e b) → AllByRecursion IsPlain b.messages
batch_plain_at n place b low waiting batch = let found = some_edge n place low in batch_plain n place found.0 b (waiting found.0 found.1) (batch found.0 found.1)

pub all_messages : (list messages : List Message) → list ≡ messages → AllByRecursion IsMessage messages → All IsMessage list
all_messages list messages is h = All-from_recursion IsMessage list (subst (λ (l : List Message). AllByRecursion IsMessage l) (sym is) h)

pub all_plain : (list messages : List Message) → list ≡ messages → AllByRecursion IsPlain messages → All IsPlain list
all_plain list messages is h = All-from_recursion IsPlain list (subst (λ (l : List Message). AllByRecursion IsPlain l) (sym is) h)

-- a leaf, the batch for it, and its entries then
pub record IsLeafBatch (n : Node) (place : ℕ) (b : Batch) (old new : List Entry) : Type 0 where
  pub low : place < length (edges_of n)
  pub batch : (e : Edge) → IsEdgeAt n place e → IsEdgeBatch n place e b
  pub got : IsReceived old b.messages new

pub is_leaf_batch : (n : Node) (place : ℕ) (b : Batch) (old new : List Entry) (list : List Message) → place < length (edges_of n) → ((e : Edge) → IsEdgeAt n place e → IsEdgeBatch n place e b) → list ≡ b.messages → IsReceived old list new → IsLeafBatch n place b old new
is_leaf_batch n place b old new list low batch is got = record { low = low; batch = batch; got = subst (λ (l : List Message). IsReceived old l new) is got }

pub more_than_fits : (new shown : List Entry) → shown ≡ new → (entries_size shown ≤ leaf_limit → ⊥) → leaf_limit < entries_size new
more_than_fits new shown same over =
    elim (cases_lt leaf_limit (entries_size new)) [
      | inl more ↦ more
      | inr fits ↦ absurd (over (omega (arith, fits, ap entries_size same)))
    ]

-- what a batch leaves of a leaf is little more than one
pub leaf_room : (n : Node) (place : ℕ) (b : Batch) (old new : List Entry) → IsLeaf old → IsLeafBatch n place b old new → entries_size new ≤ leaf_limit + batch_limit
leaf_room n place b old new leaf h =
    let fits : sum_by size b.messages ≤ batch_limit = batch_fits n place b h.low h.batch in
    let own : entries_size old ≤ leaf_limit = leaf.size in
    let more : entries_size new ≤ entries_size old + sum_by size b.messages = h.got.size in
    omega arith

-- the halves in place of the leaf
pub on_parted : {E : Type 0} (n : Node) (place count next : ℕ) (e f : Edge) (new : List Entry) (halves : Halves) (r : Result Halving E) → IsEdgeAt n place e → f ≡ seen_by e count → AreHalves (Leaf new) halves
    → IfOk r (IsOver n place f halves next) → IfOk r (IsPartedOver n place count new next)
on_parted n place count next e f new halves (Err x) here same are is = tt
on_parted n place count next e f new halves (Ok (Long g own)) here same are is = (
  subst (λ (h : Halves). AreHalves (Leaf new) h) (sym is.1) are,
  λ d there.
      let one : e ≡ d = same_Some e d (sym here ∙ there) in (
        is.0 ∙ same ∙ ap (λ (x : Edge). seen_by x count) one,
        subst (λ (h : Halves). IsLongIn n place d h.pivot) (sym is.1) (subst (λ (x : Edge). IsLongIn n place x halves.pivot) one (subst (λ (x : Edge). IsLongIn n place x halves.pivot) same is.2)),
      ),
)
on_parted n place count next e f new halves (Ok (Short parts)) here same are is = λ d there.
    subst (λ (x : Edge). IsSplitInto n place (seen_by x count) (Leaf new) next parts.node parts.half parts.made.items) (same_Some e d (sym here ∙ there))
    (subst (λ (g : Edge). IsSplitInto n place g (Leaf new) next parts.node parts.half parts.made.items) same (is (Leaf new) are))

pub split_over : (n : Node) (place next : ℕ) (b : Batch) (old new : List Entry) (halving : Halving) → IsLeafBatch n place b old new → leaf_limit < entries_size new → IsPartedOver n place b.count new next halving → IsPushedOver n place (Leaf old) next halving
split_over n place next b old new (Long f own) h over is =
    let found = some_edge n place h.low in
    record {
      push = record {
        edge = found.0;
        here = found.1;
        batch = b;
        moved = h.batch found.0 found.1;
        halves = own;
        long = record {
          old = old;
          new = new;
          leaf = refl;
          got = h.got;
          over = over;
          are = is.0;
          long = (is.1 found.0 found.1).1;
        };
      };
      seen = (is.1 found.0 found.1).0;
      are = refl;
    }
split_over n place next b old new (Short parts) h over is =
    let found = some_edge n place h.low in
    record {
      edge = found.0;
      here = found.1;
      batch = b;
      moved = h.batch found.0 found.1;
      into = split old new parts.node parts.half parts.made.items refl h.got over (is found.0 found.1);
    }

pub leaf_descent : (n : Node) (place : ℕ) (b : Batch) (old new shown : List Entry) → IsLeafBatch n place b old new → ((e : Edge) → IsEdgeAt n place e → IsWaitedFor n place e) → shown ≡ new → entries_size shown ≤ leaf_limit → IsDescent n place (Leaf old) b.count (Entries new)
leaf_descent n place b old new shown h waiting same fits =
    let found = some_edge n place h.low in
    let leaf : IsLeaf new = record { each = h.got.entries.each; rising = h.got.entries.rising; size = omega (arith, fits, ap entries_size same) } in
    record {
      edge = found.0;
      here = found.1;
      batch = b;
      moved = h.batch found.0 found.1;
      count_is = refl;
      plain = each_taken (IsPlainFor found.0 (end_at n place)) b.count (unseen n found.0) (waiting found.0 found.1).plain;
      gained = (old, refl, h.got, leaf);
    }

-- ---- halves whose pivot would be too long

pub long_fits : (n shown : Node) (place : ℕ) (m : Node) (f : Edge) (halves : Halves) → shown ≡ n → IsShape n → AreLongParts shown place m f halves → (e : Edge) → IsEdgeAt shown place e → FitsAt shown place e (f ∷ [])
long_fits n shown place m f halves same shape h =
    let own : IsShape shown = subst (λ (d : Node). IsShape d) (sym same) shape in
    subst (λ (g : Edge). (d : Edge) → IsEdgeAt shown place d → FitsAt shown place d (g ∷ [])) (sym h.seen)
    (fits_here shown place h.push.edge (seen_by h.push.edge h.push.batch.count ∷ []) (seen_fits shown place h.push.edge (h.push.edge.seen + h.push.batch.count) own h.push.here (batch_low shown place h.push.edge h.push.batch own h.push.here h.push.moved)))

pub long_shape : (n shown : Node) (place : ℕ) (m : Node) (f : Edge) (halves : Halves) (above : Node) → shown ≡ n → IsShape n → AreLongParts shown place m f halves → IsCompacted (exchanged shown place (f ∷ [])) above → IsShape above
long_shape n shown place m f halves above same shape h is =
    let own : IsShape shown = subst (λ (d : Node). IsShape d) (sym same) shape in
    compacted_shape (exchanged shown place (f ∷ [])) above (exchanged_shape shown place h.push.edge (f ∷ []) own (long_fits n shown place m f halves same shape h h.push.edge h.push.here)) is
