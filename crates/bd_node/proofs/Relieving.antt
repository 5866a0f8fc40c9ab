-- A node from which messages have gone down an edge: well-formed, and it names what it named.
use Rattle.std.proofs.Common.{◌≡◌, ℕ, zero, suc, ◌+◌, ◌<◌, ◌≤◌, Bool, true, false, List, [], ◌∷◌, ◌++◌, length, take, drop, refl, sym, ap, subst, ◌∙◌, Option, Some, inl, inr, ◌⊎◌, arith, add-one}
use Rattle.std.specs.Prelude.{slice_get}
use Rattle.std.specs.List.{AllByRecursion, flat_map}
use Rattle.std.proofs.lemmas.Bool.{cases_lt}
use Rattle.std.proofs.lemmas.Option.{same_Some, none-some}
use Rattle.bd_limits.specs.Limits.{edge_limit}
use Rattle.bd_message.specs.declared.message.Message.{Message}
use Rattle.bd_message.specs.declared.message.Message.TheVariants.{Put, Del, Patch, Cut, Goto}
use Rattle.bd_message.specs.Messages.{IsPlain}
use Rattle.bd_node.specs.declared.node.Edge.{Edge}
use Rattle.bd_node.specs.declared.node.Node.{Node}
use Rattle.bd_node.specs.declared.node.Node.TheVariants.{Leaf, Inner}
use Rattle.bd_node.specs.Nodes.{level_of, message_names, edge_names, names}
use Rattle.bd_node.specs.Shape.{end_before, EachEdge, SomeEdge, IsEdge, IsPending, IsInner, IsShape}
use Rattle.bd_node.specs.Parts.{buffer_of, IsEdgeAt}
use Rattle.bd_node.specs.Keeping.{staying}
use Rattle.bd_node.specs.Compaction.{IsLoose, IsMask, IsSwept}
use Rattle.bd_node.specs.Pushes.{exchanged, seen_by, IsRelieved, IsPlainFor, CanRelieve}
use Rattle.bd_node.proofs.Compacting.{compacted_shape, compacted_level, edge_names-lowered}

-- ---- another edge at a place

-- the edges with this one at the place
abbrev pub put_at : List Edge → ℕ → Edge → List Edge
put_at es place f = take place es ++ f ∷ drop (suc place) es

pub put_end : (es : List Edge) (place : ℕ) (e f : Edge) → slice_get es place ≡ Some e → f.pivot ≡ e.pivot → end_before (put_at es place f) ≡ end_before es
put_end [] place e f here same = absurd (none-some e here)
put_end (d ∷ es) zero e f here same = ap (λ (p : List ℕ). Some p) (same ∙ sym (ap (λ (x : Edge). x.pivot) (same_Some d e here)))
put_end (d ∷ es) (suc place) e f here same = refl

pub put_length : (es : List Edge) (place : ℕ) (e f : Edge) → slice_get es place ≡ Some e → length (put_at es place f) ≡ length es
put_length [] place e f here = absurd (none-some e here)
put_length (d ∷ es) zero e f here = refl
put_length (d ∷ es) (suc place) e f here = ap (λ (n : ℕ). suc n) (put_length es place e f here)

pub put_each : (P : Edge → Option (List ℕ) → Type 0) (es : List Edge) (place : ℕ) (e f : Edge) → slice_get es place ≡ Some e → f.pivot ≡ e.pivot → EachEdge P es → ((hi : Option (List ℕ)) → P e hi → P f hi) → EachEdge P (put_at es place f)
put_each P [] place e f here same h to = absurd (none-some e here)
put_each P (d ∷ es) zero e f here same h to = (to (end_before es) (subst (λ (x : Edge). P x (end_before es)) (same_Some d e here) h.0), h.1)
put_each P (d ∷ es) (suc place) e f here same h to =
    (subst (λ (hi : Option (List ℕ)). P d hi) (sym (put_end es place e f here same)) h.0, put_each P es place e f here same h.1 to)

-- some edge has a property still, or it was the one that is gone
pub put_some : (P : Edge → Option (List ℕ) → Type 0) (es : List Edge) (place : ℕ) (e f : Edge) → slice_get es place ≡ Some e → f.pivot ≡ e.pivot → SomeEdge P es → SomeEdge P (put_at es place f) ⊎ P e (end_before (drop (suc place) es))
put_some P [] place e f here same h = absurd h
put_some P (d ∷ es) zero e f here same h =
    elim h [
      | inl first ↦ inr (subst (λ (x : Edge). P x (end_before es)) (same_Some d e here) first)
      | inr later ↦ inl (inr later)
    ]
put_some P (d ∷ es) (suc place) e f here same h =
    elim h [
      | inl first ↦ inl (inl (subst (λ (hi : Option (List ℕ)). P d hi) (sym (put_end es place e f here same)) first))
      | inr later ↦ (elim (put_some P es place e f here same later) [
        | inl some ↦ inl (inr some)
        | inr gone ↦ inr gone
      ])
    ]

-- the one that is put there is one of them
pub put_here : (P : Edge → Option (List ℕ) → Type 0) (es : List Edge) (place : ℕ) (e f : Edge) → slice_get es place ≡ Some e → f.pivot ≡ e.pivot → P f (end_before (drop (suc place) es)) → SomeEdge P (put_at es place f)
put_here P [] place e f here same h = absurd (none-some e here)
put_here P (d ∷ es) zero e f here same h = inl h
put_here P (d ∷ es) (suc place) e f here same h = inr (put_here P es place e f here same h)

put_names : (es : List Edge) (place : ℕ) (e f : Edge) → slice_get es place ≡ Some e → edge_names f ≡ edge_names e → flat_map edge_names (put_at es place f) ≡ flat_map edge_names es
put_names [] place e f here same = absurd (none-some e here)
put_names (d ∷ es) zero e f here same = ap (λ (l : List ℕ). l ++ flat_map edge_names es) (same ∙ ap edge_names (sym (same_Some d e here)))
put_names (d ∷ es) (suc place) e f here same = ap (λ (l : List ℕ). edge_names d ++ l) (put_names es place e f here same)

-- as the node with the edge exchanged has them
pub put_is : (es : List Edge) (place : ℕ) (f : Edge) → put_at es place f ≡ take place es ++ ((f ∷ []) ++ drop (place + 1) es)
put_is es place f = ap (λ (n : ℕ). take place es ++ f ∷ drop n es) (sym (add-one place))

-- ---- the level and the shape

exchanged_level : (n : Node) (place : ℕ) (list : List Edge) → level_of (exchanged n place list) ≡ level_of n
exchanged_level (Leaf entries) place list = refl
exchanged_level (Inner level es buffer) place list = refl

pub relieved_level : (n : Node) (place : ℕ) (e : Edge) (count : ℕ) (above : Node) → IsRelieved n place e count above → level_of above ≡ level_of n
relieved_level n place e count above relieved =
    compacted_level (exchanged n place (seen_by e count ∷ [])) above relieved ∙ exchanged_level n place (seen_by e count ∷ [])

-- the edges over a buffer of which one has seen more
pub seen_loose : (level : ℕ) (es : List Edge) (buffer : List Message) (place : ℕ) (e : Edge) (count : ℕ) → IsInner level es buffer → slice_get es place ≡ Some e → e.seen + count ≤ length buffer → IsLoose level (put_at es place (seen_by e count)) buffer
seen_loose level es buffer place e count h here fits = record {
  low = h.low;
  high = h.high;
  few = subst (λ (n : ℕ). n ≤ edge_limit) (sym (put_length es place e (seen_by e count) here)) h.few;
  first = put_end es place e (seen_by e count) here refl ∙ h.first;
  each = put_each (IsEdge (length buffer)) es place e (seen_by e count) here refl h.each
      (λ hi own. record {
        pivot = own.pivot;
        rising = own.rising;
        lift = own.lift;
        common = own.common;
        source = own.source;
        child = own.child;
        seen = fits;
      });
  messages = h.messages;
  size = h.size;
}

pub relieved_shape : (n : Node) (place : ℕ) (e : Edge) (count : ℕ) (above : Node) → IsShape n → IsEdgeAt n place e → e.seen + count ≤ length (buffer_of n) → IsRelieved n place e count above → IsShape above
relieved_shape (Leaf entries) place e count above h here fits relieved = absurd (none-some e here)
relieved_shape (Inner level es buffer) place e count above h here fits relieved =
    compacted_shape (exchanged (Inner level es buffer) place (seen_by e count ∷ [])) above
    (subst (λ (l : List Edge). IsLoose level l buffer) (put_is es place (seen_by e count)) (seen_loose level es buffer place e count h here fits)) relieved

-- ---- the names

-- of a run of messages
taken_has : (P : Message → Type 0) (count : ℕ) (xs : List Message) (i : ℕ) (m : Message) → AllByRecursion P (take count xs) → slice_get xs i ≡ Some m → i < count → P m
taken_has P zero xs i m all there low = absurd (omega arith)
taken_has P (suc count) [] i m all there low = absurd (none-some m there)
taken_has P (suc count) (x ∷ xs) zero m all there low = subst P (same_Some x m there) all.0
taken_has P (suc count) (x ∷ xs) (suc i) m all there low = taken_has P count xs i m all.1 there (omega arith)

pub run_has : (P : Message → Type 0) (from count : ℕ) (xs : List Message) (i : ℕ) (m : Message) → AllByRecursion P (take count (drop from xs)) → slice_get xs i ≡ Some m → from ≤ i → i < from + count → P m
run_has P zero count xs i m all there low high = taken_has P count xs i m all there (omega arith)
run_has P (suc from) count [] i m all there low high = absurd (none-some m there)
run_has P (suc from) count (x ∷ xs) zero m all there low high = absurd (omega arith)
run_has P (suc from) count (x ∷ xs) (suc i) m all there low high = run_has P from count xs i m all there (omega arith) (omega arith)

plain_names : (m : Message) → IsPlain m → message_names m ≡ []
plain_names (Put key value) h = refl
plain_names (Del key) h = refl
plain_names (Patch key off bytes) h = refl
plain_names (Cut prefix from) h = refl
plain_names (Goto prefix source child) h = absurd h

false_true : false ≡ true → ⊥
false_true h = cc

-- where those that go name no node
staying_all : (mask : List Bool) (xs : List Message) → length mask ≡ length xs → ((i : ℕ) (m : Message) → slice_get xs i ≡ Some m → (slice_get mask i ≡ Some true) ⊎ (message_names m ≡ [])) → flat_map message_names (staying mask xs) ≡ flat_map message_names xs
staying_all [] [] long each = refl
staying_all [] (x ∷ xs) long each = absurd (omega arith)
staying_all (b ∷ mask) [] long each = refl
staying_all (true ∷ mask) (x ∷ xs) long each =
    ap (λ (l : List ℕ). message_names x ++ l) (staying_all mask xs (omega arith) (λ i m there. each (suc i) m there))
staying_all (false ∷ mask) (x ∷ xs) long each =
    let none : message_names x ≡ [] = elim (each 0 x refl) [
      | inl stays ↦ absurd (false_true (same_Some false true stays))
      | inr none ↦ none
    ] in
    staying_all mask xs (omega arith) (λ i m there. each (suc i) m there)
    ∙ ap (λ (l : List ℕ). l ++ flat_map message_names xs) (sym none)

-- each message that was pending is so still, or it is of those that go down
pub still_waits : (es : List Edge) (buffer : List Message) (place : ℕ) (e : Edge) (count i : ℕ) (m : Message) → slice_get es place ≡ Some e → SomeEdge (IsPending i m) es
    → SomeEdge (IsPending i m) (put_at es place (seen_by e count)) ⊎ ((i < e.seen + count) × IsPending i m e (end_before (drop (suc place) es)))
still_waits es buffer place e count i m here waits =
    elim (put_some (IsPending i m) es place e (seen_by e count) here refl waits) [
      | inl some ↦ inl some
      | inr own ↦ (elim (cases_lt i (e.seen + count)) [
        | inl low ↦ inr (low, own)
        | inr high ↦ inl (put_here (IsPending i m) es place e (seen_by e count) here refl (high, own.1))
      ])
    ]

stays_or_plain : (level : ℕ) (es : List Edge) (buffer : List Message) (place : ℕ) (e : Edge) (count : ℕ) (mask : List Bool) → IsInner level es buffer → slice_get es place ≡ Some e
    → AllByRecursion (IsPlainFor e (end_before (drop (suc place) es))) (take count (drop e.seen buffer)) → IsMask mask (put_at es place (seen_by e count)) buffer
    → (i : ℕ) (m : Message) → slice_get buffer i ≡ Some m → (slice_get mask i ≡ Some true) ⊎ (message_names m ≡ [])
stays_or_plain level es buffer place e count mask h here plain pending i m there =
    elim (still_waits es buffer place e count i m here (h.pending i m there)) [
      | inl some ↦ inl ((pending.each i m there).1 some)
      | inr gone ↦ inr (plain_names m (run_has (IsPlainFor e (end_before (drop (suc place) es))) e.seen count buffer i m plain there gone.1.0 gone.0 gone.1.1.0 gone.1.1.1 gone.1.1.2))
    ]

swept_names : (level : ℕ) (es : List Edge) (buffer : List Message) (place : ℕ) (e : Edge) (count : ℕ) (above : Node) → IsInner level es buffer → slice_get es place ≡ Some e
    → AllByRecursion (IsPlainFor e (end_before (drop (suc place) es))) (take count (drop e.seen buffer)) → IsSwept level (put_at es place (seen_by e count)) buffer above → names above ≡ names (Inner level es buffer)
swept_names level es buffer place e count above h here plain swept =
    let new : List Edge = put_at es place (seen_by e count) in
    ap names swept.swept
    ∙ ap (λ (l : List ℕ). l ++ flat_map message_names (staying swept.mask buffer)) (edge_names-lowered swept.mask new ∙ put_names es place e (seen_by e count) here refl)
    ∙ ap (λ (l : List ℕ). flat_map edge_names es ++ l)
    (staying_all swept.mask buffer swept.pending.long (stays_or_plain level es buffer place e count swept.mask h here plain swept.pending))

pub relieved_names : (n : Node) (place count : ℕ) (can : CanRelieve n place count) (above : Node) → IsShape n → IsRelieved n place can.edge count above → names above ≡ names n
relieved_names (Leaf entries) place count can above h relieved = absurd (none-some can.edge can.here)
relieved_names (Inner level es buffer) place count can above h relieved =
    swept_names level es buffer place can.edge count above h can.here
    (subst (λ (k : ℕ). AllByRecursion (IsPlainFor can.edge (end_before (drop k es))) (take count (drop can.edge.seen buffer))) (add-one place) can.plain)
    (subst (λ (l : List Edge). IsSwept level l buffer above) (sym (put_is es place (seen_by can.edge count))) relieved)
