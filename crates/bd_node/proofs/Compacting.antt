-- Compacted nodes: well-formed, and they have what they had.
use Rattle.std.proofs.Common.{◌≡◌, ℕ, zero, suc, ◌+◌, ◌*◌, ◌≤◌, Bool, true, false, cond, List, [], ◌∷◌, ◌++◌, length, take, drop, map, count_by, refl, sym, ap, subst, ◌∙◌, Option, Some, arith, inl, inr}
use Rattle.std.specs.Prelude.{slice_get, ◌==◌, count_by}
use Rattle.std.specs.List.{AllByRecursion, flat_map, sum_by}
use Rattle.std.specs.Ordering.{is_lt}
use Rattle.std.proofs.lemmas.Bool.{cases_Bool}
use Rattle.std.proofs.lemmas.List.{length-map}
use Rattle.std.proofs.lemmas.Option.{same_Some, none-some}
use Rattle.std.proofs.lemmas.List.Sums.{sum_by-cons, sum_by-append}
use Rattle.std.proofs.lemmas.List.Folds.{flat_map-map}
use Rattle.bd_keys.specs.Keys.{key_cmp, InRange}
use Rattle.bd_limits.specs.Limits.{buffer_limit}
use Rattle.bd_message.specs.declared.message.Message.{Message}
use Rattle.bd_message.specs.declared.message.Message.TheVariants.{Put, Del, Patch, Cut, Goto}
use Rattle.bd_message.specs.Messages.{IsMessage, size}
use Rattle.bd_message.specs.Effect.{NodesAt, act, acts}
use Rattle.bd_message.proofs.Finds.{not_both}
use Rattle.bd_node.specs.declared.node.Edge.{Edge}
use Rattle.bd_node.specs.declared.node.Node.{Node}
use Rattle.bd_node.specs.declared.node.Node.TheVariants.{Leaf, Inner}
use Rattle.bd_node.specs.Touching.{touches}
use Rattle.bd_node.specs.Nodes.{level_of, buffer_size, message_names, edge_names, times, edge_from, edge_of, child_at, through, node_at}
use Rattle.bd_node.specs.Shape.{end_before, EachEdge, SomeEdge, IsEdge, IsPending, IsInner, IsShape}
use Rattle.bd_node.proofs.LawLemmas.{untouched}
use Rattle.bd_node.proofs.Edges.{EachEdge-weaker, SomeEdge-weaker, some_edge}
use Rattle.bd_node.proofs.Appending.{some_has}
use Rattle.bd_node.specs.Keeping.{staying, stay_count}
use Rattle.bd_node.proofs.Keeping.{count-yes, count-skip, stay_count-le, stay_count-within, StoodAt, stood_at}
use Rattle.bd_node.specs.Compaction.{IsLoose, IsLooseNode, IsMask, lowered, IsCompacted}

-- ---- what the messages that stay do

-- from a place on, no message that goes touches the key
abbrev pub NoneGoes : List Bool → List Message → ℕ → List ℕ → Type 0
NoneGoes mask xs n k = (i : ℕ) (m : Message) → n ≤ i → slice_get xs i ≡ Some m → slice_get mask i ≡ Some false → touches m k ≡ false

acts_staying : (below : NodesAt) (mask : List Bool) (xs : List Message) (k : List ℕ) → length mask ≡ length xs → NoneGoes mask xs 0 k → (old : Option (List ℕ)) → acts below (staying mask xs) k old ≡ acts below xs k old
acts_staying below [] [] k e none old = refl
acts_staying below [] (x ∷ xs) k e none old = absurd (omega arith)
acts_staying below (b ∷ mask) [] k e none old = absurd (omega arith)
acts_staying below (true ∷ mask) (x ∷ xs) k e none old =
    acts_staying below mask xs k (omega arith) (λ i m low there goes. none (suc i) m (omega arith) there goes) (act below x k old)
acts_staying below (false ∷ mask) (x ∷ xs) k e none old =
    acts_staying below mask xs k (omega arith) (λ i m low there goes. none (suc i) m (omega arith) there goes) old
    ∙ ap (λ (o : Option (List ℕ)). acts below xs k o) (sym (untouched below x k (none 0 x (omega arith) refl refl) old))

pub acts_dropped : (below : NodesAt) (mask : List Bool) (xs : List Message) (n : ℕ) (k : List ℕ) → length mask ≡ length xs → NoneGoes mask xs n k → (old : Option (List ℕ)) → acts below (drop (stay_count mask n) (staying mask xs)) k old ≡ acts below (drop n xs) k old
acts_dropped below mask xs zero k e none old = acts_staying below mask xs k e none old
acts_dropped below [] [] (suc n) k e none old = refl
acts_dropped below [] (x ∷ xs) (suc n) k e none old = absurd (omega arith)
acts_dropped below (b ∷ mask) [] (suc n) k e none old = absurd (omega arith)
acts_dropped below (true ∷ mask) (x ∷ xs) (suc n) k e none old =
    ap (λ (c : ℕ). acts below (drop c (x ∷ staying mask xs)) k old) (count-yes (take n mask))
    ∙ acts_dropped below mask xs n k (omega arith) (λ i m low there goes. none (suc i) m (omega arith) there goes) old
acts_dropped below (false ∷ mask) (x ∷ xs) (suc n) k e none old =
    ap (λ (c : ℕ). acts below (drop c (staying mask xs)) k old) (count-skip (take n mask))
    ∙ acts_dropped below mask xs n k (omega arith) (λ i m low there goes. none (suc i) m (omega arith) there goes) old

-- ---- sizes, names and properties of the messages that stay

pub staying_size : (f : Message → ℕ) (mask : List Bool) (xs : List Message) → sum_by f (staying mask xs) ≤ sum_by f xs
staying_size f [] xs = omega arith
staying_size f (b ∷ mask) [] = omega arith
staying_size f (true ∷ mask) (x ∷ xs) =
    let less : sum_by f (staying mask xs) ≤ sum_by f xs = staying_size f mask xs in
    omega (arith, sum_by-cons f x xs, sum_by-cons f x (staying mask xs))
staying_size f (false ∷ mask) (x ∷ xs) =
    let less : sum_by f (staying mask xs) ≤ sum_by f xs = staying_size f mask xs in
    omega (arith, sum_by-cons f x xs)

pub staying_each : (P : Message → Type 0) (mask : List Bool) (xs : List Message) → AllByRecursion P xs → AllByRecursion P (staying mask xs)
staying_each P [] xs h = tt
staying_each P (b ∷ mask) [] h = tt
staying_each P (true ∷ mask) (x ∷ xs) h = (h.0, staying_each P mask xs h.1)
staying_each P (false ∷ mask) (x ∷ xs) h = staying_each P mask xs h.1

abbrev pub count_names : ℕ → List ℕ → ℕ
count_names c xs = count_by (λ (name : ℕ). name == c) xs

pub count_names-append : (c : ℕ) (xs ys : List ℕ) → count_names c (xs ++ ys) ≡ count_names c xs + count_names c ys
count_names-append c xs ys = sum_by-append (λ (name : ℕ). cond (name == c) 1 0) xs ys

pub staying_names : (c : ℕ) (mask : List Bool) (xs : List Message) → count_names c (flat_map message_names (staying mask xs)) ≤ count_names c (flat_map message_names xs)
staying_names c [] xs = omega arith
staying_names c (b ∷ mask) [] = omega arith
staying_names c (true ∷ mask) (x ∷ xs) =
    let less : count_names c (flat_map message_names (staying mask xs)) ≤ count_names c (flat_map message_names xs) = staying_names c mask xs in
    omega (arith, count_names-append c (message_names x) (flat_map message_names xs), count_names-append c (message_names x) (flat_map message_names (staying mask xs)))
staying_names c (false ∷ mask) (x ∷ xs) =
    let less : count_names c (flat_map message_names (staying mask xs)) ≤ count_names c (flat_map message_names xs) = staying_names c mask xs in
    omega (arith, count_names-append c (message_names x) (flat_map message_names xs))

-- ---- the edges over the messages that stay

cond_map : (g : Edge → Edge) (b : Bool) (x y : Edge) → cond b (g x) (g y) ≡ g (cond b x y)
cond_map g true x y = refl
cond_map g false x y = refl

edge_from-lowered : (mask : List Bool) (e : Edge) (es : List Edge) (k : List ℕ) → edge_from (lowered mask e) (map (lowered mask) es) k ≡ lowered mask (edge_from e es k)
edge_from-lowered mask e [] k = refl
edge_from-lowered mask e (f ∷ es) k =
    ap (λ (d : Edge). cond (is_lt (key_cmp k f.pivot)) (lowered mask e) d) (edge_from-lowered mask f es k)
    ∙ cond_map (lowered mask) (is_lt (key_cmp k f.pivot)) e (edge_from f es k)

pub edge_of-lowered : (mask : List Bool) (es : List Edge) (k : List ℕ) (e : Edge) → edge_of es k ≡ Some e → edge_of (map (lowered mask) es) k ≡ Some (lowered mask e)
edge_of-lowered mask [] k e h = absurd (none-some e h)
edge_of-lowered mask (f ∷ es) k e h =
    ap (λ (d : Edge). Some d) (edge_from-lowered mask f es k ∙ ap (lowered mask) (same_Some (edge_from f es k) e h))

end_before-lowered : (mask : List Bool) (es : List Edge) → end_before (map (lowered mask) es) ≡ end_before es
end_before-lowered mask [] = refl
end_before-lowered mask (e ∷ es) = refl

EachEdge-lowered : (P : Edge → Option (List ℕ) → Type 0) (mask : List Bool) (es : List Edge) → EachEdge (λ (e : Edge) hi. P (lowered mask e) hi) es → EachEdge P (map (lowered mask) es)
EachEdge-lowered P mask [] h = tt
EachEdge-lowered P mask (e ∷ es) h =
    (subst (λ (hi : Option (List ℕ)). P (lowered mask e) hi) (sym (end_before-lowered mask es)) h.0, EachEdge-lowered P mask es h.1)

SomeEdge-lowered : (P : Edge → Option (List ℕ) → Type 0) (mask : List Bool) (es : List Edge) → SomeEdge (λ (e : Edge) hi. P (lowered mask e) hi) es → SomeEdge P (map (lowered mask) es)
SomeEdge-lowered P mask [] h = h
SomeEdge-lowered P mask (e ∷ es) h =
    elim h [
      | inl here ↦ inl (subst (λ (hi : Option (List ℕ)). P (lowered mask e) hi) (sym (end_before-lowered mask es)) here)
      | inr later ↦ inr (SomeEdge-lowered P mask es later)
    ]

pub edge_names-lowered : (mask : List Bool) (es : List Edge) → flat_map edge_names (map (lowered mask) es) ≡ flat_map edge_names es
edge_names-lowered mask es = flat_map-map edge_names (lowered mask) es

-- ---- the shape

lowered_edge : (mask : List Bool) (xs : List Message) (n : ℕ) (e : Edge) (hi : Option (List ℕ)) → length mask ≡ length xs → IsEdge n e hi → IsEdge (length (staying mask xs)) (lowered mask e) hi
lowered_edge mask xs n e hi long h = record {
  pivot = h.pivot;
  rising = h.rising;
  lift = h.lift;
  common = h.common;
  source = h.source;
  child = h.child;
  seen = stay_count-within mask xs e.seen long;
}

still_pending : (mask : List Bool) (es : List Edge) (buffer : List Message) (j : ℕ) (m : Message) → IsMask mask es buffer → StoodAt mask buffer j m → SomeEdge (IsPending j m) (map (lowered mask) es)
still_pending mask es buffer j m pending stood =
    SomeEdge-lowered (IsPending j m) mask es
    (SomeEdge-weaker (IsPending stood.place m) (λ (e : Edge) hi. IsPending j m (lowered mask e) hi)
    (λ e hi waits. (
      let less : stay_count mask e.seen ≤ stay_count mask stood.place = stay_count-le mask e.seen stood.place waits.0 in
          let now : stay_count mask stood.place ≡ j = stood.now in
          omega arith,
      waits.1,
    ))
    es ((pending.each stood.place m stood.there).0 stood.stays))

inner_swept : (level : ℕ) (es : List Edge) (buffer : List Message) (mask : List Bool) → IsLoose level es buffer → IsMask mask es buffer → IsInner level (map (lowered mask) es) (staying mask buffer)
inner_swept level es buffer mask h pending = record {
  low = h.low;
  high = h.high;
  few = (let few : length es ≤ _ = h.few in omega (arith, length-map es (lowered mask)));
  first = end_before-lowered mask es ∙ h.first;
  each = EachEdge-lowered (IsEdge (length (staying mask buffer))) mask es
      (EachEdge-weaker (IsEdge (length buffer)) (λ (e : Edge) hi. IsEdge (length (staying mask buffer)) (lowered mask e) hi) (λ e hi own. lowered_edge mask buffer (length buffer) e hi pending.long own) es h.each);
  messages = staying_each IsMessage mask buffer h.messages;
  size = (let less : sum_by size (staying mask buffer) ≤ sum_by size buffer = staying_size size mask buffer in let high : sum_by size buffer ≤ _ = h.size in omega arith);
  pending = λ place m there. still_pending mask es buffer place m pending (stood_at mask buffer place m there);
}

-- ---- what a swept node has

goes_untouched : (mask : List Bool) (es : List Edge) (buffer : List Message) (k : List ℕ) (e : Edge) → IsMask mask es buffer → SomeEdge (λ (f : Edge) hi. (edge_of es k ≡ Some f) × InRange f.pivot hi k × IsEdge (length buffer) f hi) es → edge_of es k ≡ Some e → NoneGoes mask buffer e.seen k
goes_untouched mask es buffer k e pending own at_k i m low there goes =
    elim (cases_Bool (touches m k)) [
      | inr other ↦ other
      | inl touched ↦
          let waits : SomeEdge (IsPending i m) es =
          SomeEdge-weaker (λ (f : Edge) hi. (edge_of es k ≡ Some f) × InRange f.pivot hi k × IsEdge (length buffer) f hi) (IsPending i m)
          (λ f hi found. (subst (λ (d : Edge). d.seen ≤ i) (same_Some e f (sym at_k ∙ found.0)) low, (k, found.1, touched))) es own in
          absurd (not_both refl (same_Some true false (sym ((pending.each i m there).1 waits) ∙ goes)))
    ]

pub swept_meaning : (below : NodesAt) (level : ℕ) (es : List Edge) (buffer : List Message) (mask : List Bool) (k : List ℕ) → IsLoose level es buffer → IsMask mask es buffer → node_at below (Inner level (map (lowered mask) es) (staying mask buffer)) k ≡ node_at below (Inner level es buffer) k
swept_meaning below level es buffer mask k h pending =
    let own = some_edge (IsEdge (length buffer)) es k h.each h.first in
    some_has (through below (edge_of (map (lowered mask) es) k) (staying mask buffer) k ≡ through below (edge_of es k) buffer k)
    (λ (e : Edge) hi. (edge_of es k ≡ Some e) × InRange e.pivot hi k × IsEdge (length buffer) e hi)
    (λ e hi found.
    ap (λ o. through below o (staying mask buffer) k) (edge_of-lowered mask es k e found.0)
    ∙ acts_dropped below mask buffer e.seen k pending.long (goes_untouched mask es buffer k e pending own found.0) (child_at below e.child (e.source ++ drop e.lift k))
    ∙ sym (ap (λ o. through below o buffer k) found.0))
    es own

-- ---- the laws

pub loose_shape : (n : Node) → IsShape n → IsLooseNode n
loose_shape (Leaf entries) h = h
loose_shape (Inner level es buffer) h = record {
  low = h.low;
  high = h.high;
  few = h.few;
  first = h.first;
  each = h.each;
  messages = h.messages;
  size = h.size;
}

pub compacted_shape : (n m : Node) → IsLooseNode n → IsCompacted n m → IsShape m
compacted_shape (Leaf entries) m h c = subst IsShape (sym c) h
compacted_shape (Inner level es buffer) m h c = subst IsShape (sym c.swept) (inner_swept level es buffer c.mask h c.pending)

pub compacted_level : (n m : Node) → IsCompacted n m → level_of m ≡ level_of n
compacted_level (Leaf entries) m c = ap level_of c
compacted_level (Inner level es buffer) m c = ap level_of c.swept

pub compacted_meaning : (below : NodesAt) (n m : Node) → IsLooseNode n → IsCompacted n m → (k : List ℕ) → node_at below m k ≡ node_at below n k
compacted_meaning below (Leaf entries) m h c k = ap (λ (n : Node). node_at below n k) c
compacted_meaning below (Inner level es buffer) m h c k =
    ap (λ (n : Node). node_at below n k) c.swept ∙ swept_meaning below level es buffer c.mask k h c.pending

pub compacted_size : (n m : Node) → IsCompacted n m → buffer_size m ≤ buffer_size n
compacted_size (Leaf entries) m c = subst (λ (n : Node). buffer_size n ≤ 0) (sym c) (omega arith)
compacted_size (Inner level es buffer) m c =
    subst (λ (n : Node). buffer_size n ≤ sum_by size buffer) (sym c.swept) (staying_size size c.mask buffer)

swept_times : (level : ℕ) (es : List Edge) (buffer : List Message) (mask : List Bool) (c : ℕ) → times (Inner level (map (lowered mask) es) (staying mask buffer)) c ≤ times (Inner level es buffer) c
swept_times level es buffer mask c =
    let less : count_names c (flat_map message_names (staying mask buffer)) ≤ count_names c (flat_map message_names buffer) = staying_names c mask buffer in
    let same : count_names c (flat_map edge_names (map (lowered mask) es)) ≡ count_names c (flat_map edge_names es) = ap (count_names c) (edge_names-lowered mask es) in
    omega (arith, count_names-append c (flat_map edge_names (map (lowered mask) es)) (flat_map message_names (staying mask buffer)), count_names-append c (flat_map edge_names es) (flat_map message_names buffer))

pub compacted_times : (n m : Node) → IsCompacted n m → (c : ℕ) → times m c ≤ times n c
compacted_times (Leaf entries) m c name = subst (λ (n : Node). times n name ≤ times (Leaf entries) name) (sym c) (omega arith)
compacted_times (Inner level es buffer) m c name =
    subst (λ (n : Node). times n name ≤ times (Inner level es buffer) name) (sym c.swept) (swept_times level es buffer c.mask name)

-- ---- how many messages can wait

size_some : (m : Message) → 16 ≤ size m
size_some (Put key value) = omega arith
size_some (Del key) = omega arith
size_some (Patch key off bytes) = omega arith
size_some (Cut prefix from) = omega arith
size_some (Goto prefix source child) = omega arith

sizes_some : (ms : List Message) → 16 * length ms ≤ sum_by size ms
sizes_some [] = omega arith
sizes_some (m ∷ ms) = let more : 16 * length ms ≤ sum_by size ms = sizes_some ms in let one : 16 ≤ size m = size_some m in omega (arith, sum_by-cons size m ms)

pub few_wait : (level : ℕ) (es : List Edge) (buffer : List Message) → IsInner level es buffer → length buffer ≤ 2048
few_wait level es buffer h = let some : 16 * length buffer ≤ sum_by size buffer = sizes_some buffer in let high : sum_by size buffer ≤ buffer_limit = h.size in omega arith
