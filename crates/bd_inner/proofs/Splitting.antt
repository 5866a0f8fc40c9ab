-- The halves of a node.
use Rattle.std.proofs.Common.{◌≡◌, ℕ, zero, suc, ◌+◌, ◌/◌, ◌<◌, ◌≤◌, Bool, true, false, cond, List, [], ◌∷◌, ◌++◌, length, take, drop, map, refl, sym, ap, subst, ◌∙◌, Option, None, Some, arith, inl, inr, length-append, ◌⊎◌, get_or, length-take, length-drop}
use Rattle.std.specs.Prelude.{slice_get}
use Rattle.std.specs.List.{flat_map}
use Rattle.std.specs.Ordering.{is_lt}
use Rattle.std.proofs.lemmas.Bool.{cond-true, cond-false}
use Rattle.std.proofs.lemmas.Cmp.{nat_list_cmp_total as total}
use Rattle.std.proofs.lemmas.List.{append-nil, length-map, take-append-drop, drop_more}
use Rattle.std.proofs.lemmas.List.Concat.{flat_map-append}
use Rattle.bd_keys.specs.Keys.{key_cmp, IsBelow, IsBelowEnd, IsAtLeast}
use Rattle.bd_keys.proofs.Order.{not_below_nil}
use Rattle.bd_limits.specs.Limits.{key_limit, edge_limit}
use Rattle.bd_message.specs.declared.message.Message.{Message}
use Rattle.bd_node.specs.declared.node.Edge.{Edge}
use Rattle.bd_node.specs.declared.node.Node.{Node}
use Rattle.bd_node.specs.declared.node.Node.TheVariants.{Inner}
use Rattle.bd_node.specs.Nodes.{message_names, edge_names, times, edge_from, edge_of, through}
use Rattle.bd_node.specs.Shape.{end_before, EachEdge, SomeEdge, IsEdge, IsPending, IsInner}
use Rattle.bd_node.proofs.Edges.{IsRisingEdge, EachEdge-weaker, least_over, less_lt, not_less_lt}
use Rattle.bd_node.specs.Keeping.{staying}
use Rattle.bd_node.specs.Parts.{edges_of}
use Rattle.bd_node.specs.Compaction.{IsLoose, lowered, IsSwept}
use Rattle.bd_inner.specs.Halves.{goto_times, bare_edge, IsHalf, AreHalves}
use Rattle.bd_node.proofs.Compacting.{count_names, count_names-append, edge_names-lowered, compacted_shape, compacted_level, compacted_meaning, compacted_size, compacted_times}

-- ---- edges before and after a place

pub end_before-front : (xs : List Edge) (f g : Edge) (ys zs : List Edge) → f.pivot ≡ g.pivot → end_before (xs ++ f ∷ ys) ≡ end_before (xs ++ g ∷ zs)
end_before-front [] f g ys zs e = ap (λ (p : List ℕ). Some p) e
end_before-front (x ∷ xs) f g ys zs e = refl

pub EachEdge-front : (P : Edge → Option (List ℕ) → Type 0) (xs : List Edge) (f g : Edge) (ys zs : List Edge) → f.pivot ≡ g.pivot → EachEdge P (xs ++ f ∷ ys) → EachEdge P (g ∷ zs) → EachEdge P (xs ++ g ∷ zs)
EachEdge-front P [] f g ys zs e h more = more
EachEdge-front P (x ∷ xs) f g ys zs e h more =
    (subst (λ (hi : Option (List ℕ)). P x hi) (end_before-front xs f g ys zs e) h.0, EachEdge-front P xs f g ys zs e h.1 more)

pub EachEdge-back : (P : Edge → Option (List ℕ) → Type 0) (xs ys : List Edge) → EachEdge P (xs ++ ys) → EachEdge P ys
EachEdge-back P [] ys h = h
EachEdge-back P (x ∷ xs) ys h = EachEdge-back P xs ys h.1

SomeEdge-parted : (P : Edge → Option (List ℕ) → Type 0) (xs : List Edge) (f g : Edge) (ys zs : List Edge) → f.pivot ≡ g.pivot → SomeEdge P (xs ++ f ∷ ys) → SomeEdge P (xs ++ g ∷ zs) ⊎ SomeEdge P (f ∷ ys)
SomeEdge-parted P [] f g ys zs e h = inr h
SomeEdge-parted P (x ∷ xs) f g ys zs e h =
    elim h [
      | inl here ↦ inl (inl (subst (λ (hi : Option (List ℕ)). P x hi) (end_before-front xs f g ys zs e) here))
      | inr later ↦ elim (SomeEdge-parted P xs f g ys zs e later) [ inl first ↦ inl (inr first) | inr second ↦ inr second ]
    ]

-- the edge of a key below a later pivot
pub edge_from-front : (e : Edge) (xs : List Edge) (f g : Edge) (ys zs : List Edge) (k : List ℕ) → f.pivot ≡ g.pivot → IsBelow k f.pivot → edge_from e (xs ++ f ∷ ys) k ≡ edge_from e (xs ++ g ∷ zs) k
edge_from-front e [] f g ys zs k same below =
    cond-true (is_lt (key_cmp k f.pivot)) e (edge_from f ys k) (less_lt (key_cmp k f.pivot) below)
    ∙ sym (cond-true (is_lt (key_cmp k g.pivot)) e (edge_from g zs k) (less_lt (key_cmp k g.pivot) (subst (λ (p : List ℕ). IsBelow k p) same below)))
edge_from-front e (x ∷ xs) f g ys zs k same below =
    ap (λ (d : Edge). cond (is_lt (key_cmp k x.pivot)) e d) (edge_from-front x xs f g ys zs k same below)

-- a pivot is below each later one
pub first_below : (x : Edge) (xs : List Edge) (f : Edge) (ys : List Edge) → EachEdge IsRisingEdge (x ∷ (xs ++ f ∷ ys)) → IsBelow x.pivot f.pivot
first_below x [] f ys h = h.0
first_below x (y ∷ xs) f ys h = total.trans x.pivot y.pivot f.pivot h.0 (first_below y xs f ys h.1)

-- the edge of a key from a pivot on
pub edge_from-back : (e : Edge) (xs : List Edge) (f : Edge) (ys : List Edge) (k : List ℕ) → EachEdge IsRisingEdge (e ∷ (xs ++ f ∷ ys)) → IsAtLeast k f.pivot → edge_from e (xs ++ f ∷ ys) k ≡ edge_from f ys k
edge_from-back e [] f ys k h least = cond-false (is_lt (key_cmp k f.pivot)) e (edge_from f ys k) (not_less_lt (key_cmp k f.pivot) least)
edge_from-back e (x ∷ xs) f ys k h least =
    cond-false (is_lt (key_cmp k x.pivot)) e (edge_from x (xs ++ f ∷ ys) k) (not_less_lt (key_cmp k x.pivot) (least_over k x.pivot f.pivot least (first_below x xs f ys h.1)))
    ∙ edge_from-back x xs f ys k h.1 least

pub edge_of-front : (xs : List Edge) (f g : Edge) (ys zs : List Edge) (k : List ℕ) → 1 ≤ length xs → f.pivot ≡ g.pivot → IsBelow k f.pivot → edge_of (xs ++ f ∷ ys) k ≡ edge_of (xs ++ g ∷ zs) k
edge_of-front [] f g ys zs k some same below = absurd (omega arith)
edge_of-front (x ∷ xs) f g ys zs k some same below = ap (λ (d : Edge). Some d) (edge_from-front x xs f g ys zs k same below)

edge_of-back : (e : Edge) (xs : List Edge) (f : Edge) (ys : List Edge) (k : List ℕ) → EachEdge IsRisingEdge (xs ++ f ∷ ys) → IsAtLeast k f.pivot → edge_of (xs ++ f ∷ ys) k ≡ edge_of (e ∷ f ∷ ys) k
edge_of-back e [] f ys k h least =
    ap (λ (d : Edge). Some d) (sym (cond-false (is_lt (key_cmp k f.pivot)) e (edge_from f ys k) (not_less_lt (key_cmp k f.pivot) least)))
edge_of-back e (x ∷ xs) f ys k h least =
    ap (λ (d : Edge). Some d) (edge_from-back x xs f ys k h least ∙ sym (cond-false (is_lt (key_cmp k f.pivot)) e (edge_from f ys k) (not_less_lt (key_cmp k f.pivot) least)))

-- ---- the edges of the halves

nil_below : (p q : List ℕ) → IsBelow p q → IsBelow [] q
nil_below p [] h = absurd (not_below_nil p h)
nil_below p (b ∷ q) h = refl

pub pivot_some : (xs : List Edge) (f : Edge) (ys : List Edge) → 1 ≤ length xs → EachEdge IsRisingEdge (xs ++ f ∷ ys) → IsBelow [] f.pivot
pivot_some [] f ys some h = absurd (omega arith)
pivot_some (x ∷ xs) f ys some h = nil_below x.pivot f.pivot (first_below x xs f ys h)

is_bare : (n : ℕ) (p : List ℕ) (hi : Option (List ℕ)) → length p ≤ key_limit → IsBelowEnd p hi → IsEdge n (bare_edge p n) hi
is_bare n p hi short rising = record {
  pivot = short;
  rising = rising;
  lift = omega arith;
  common = λ k key range. refl;
  source = omega arith;
  child = refl;
  seen = omega arith;
}

abbrev lower_edges : List Edge → Edge → List Message → List Edge
lower_edges xs f buffer = xs ++ bare_edge f.pivot (length buffer) ∷ []

abbrev upper_edges : Edge → List Edge → List Message → List Edge
upper_edges f ys buffer = bare_edge [] (length buffer) ∷ f ∷ ys

pub rising : (n : ℕ) (es : List Edge) → EachEdge (IsEdge n) es → EachEdge IsRisingEdge es
rising n es h = EachEdge-weaker (IsEdge n) IsRisingEdge (λ e hi own. own.rising) es h

pub loose_lower : (level : ℕ) (xs : List Edge) (f : Edge) (ys : List Edge) (buffer : List Message) → IsInner level (xs ++ f ∷ ys) buffer → IsLoose level (lower_edges xs f buffer) buffer
loose_lower level xs f ys buffer h =
    let few : length (xs ++ f ∷ ys) ≤ edge_limit = h.few in
    let own : EachEdge (IsEdge (length buffer)) (f ∷ ys) = EachEdge-back (IsEdge (length buffer)) xs (f ∷ ys) h.each in
    record {
      low = h.low;
      high = h.high;
      few = omega (arith, length-append xs (f ∷ ys), length-append xs (bare_edge f.pivot (length buffer) ∷ []));
      first = sym (end_before-front xs f (bare_edge f.pivot (length buffer)) ys [] refl) ∙ h.first;
      each = EachEdge-front (IsEdge (length buffer)) xs f (bare_edge f.pivot (length buffer)) ys [] refl h.each (is_bare (length buffer) f.pivot None own.0.pivot tt, tt);
      messages = h.messages;
      size = h.size;
    }

pub loose_upper : (level : ℕ) (xs : List Edge) (f : Edge) (ys : List Edge) (buffer : List Message) → IsInner level (xs ++ f ∷ ys) buffer → 1 ≤ length xs → IsLoose level (upper_edges f ys buffer) buffer
loose_upper level xs f ys buffer h some =
    let few : length (xs ++ f ∷ ys) ≤ edge_limit = h.few in
    record {
      low = h.low;
      high = h.high;
      few = omega (arith, length-append xs (f ∷ ys));
      first = refl;
      each = (is_bare (length buffer) [] (Some f.pivot) (omega arith) (pivot_some xs f ys some (rising (length buffer) (xs ++ f ∷ ys) h.each)), EachEdge-back (IsEdge (length buffer)) xs (f ∷ ys) h.each);
      messages = h.messages;
      size = h.size;
    }

-- ---- each half

lower_names : (c : ℕ) (xs : List Edge) (f : Edge) (ys : List Edge) (buffer : List Message) (level : ℕ) → times (Inner level (lower_edges xs f buffer) buffer) c ≤ times (Inner level (xs ++ f ∷ ys) buffer) c
lower_names c xs f ys buffer level =
    let bare : Edge = bare_edge f.pivot (length buffer) in
    omega (
      arith,
      count_names-append c (flat_map edge_names (xs ++ bare ∷ [])) (flat_map message_names buffer),
      count_names-append c (flat_map edge_names (xs ++ f ∷ ys)) (flat_map message_names buffer),
      ap (count_names c) (flat_map-append edge_names xs (bare ∷ [])),
      ap (count_names c) (flat_map-append edge_names xs (f ∷ ys)),
      count_names-append c (flat_map edge_names xs) [],
      count_names-append c (flat_map edge_names xs) (flat_map edge_names (f ∷ ys)),
    )

upper_names : (c : ℕ) (xs : List Edge) (f : Edge) (ys : List Edge) (buffer : List Message) (level : ℕ) → times (Inner level (upper_edges f ys buffer) buffer) c ≤ times (Inner level (xs ++ f ∷ ys) buffer) c
upper_names c xs f ys buffer level =
    omega (
      arith,
      count_names-append c (flat_map edge_names (f ∷ ys)) (flat_map message_names buffer),
      count_names-append c (flat_map edge_names (xs ++ f ∷ ys)) (flat_map message_names buffer),
      ap (count_names c) (flat_map-append edge_names xs (f ∷ ys)),
      count_names-append c (flat_map edge_names xs) (flat_map edge_names (f ∷ ys)),
    )

swept_few : (level : ℕ) (es : List Edge) (buffer : List Message) (n : Node) → IsSwept level es buffer n → length (edges_of n) ≡ length es
swept_few level es buffer n h = ap (λ (m : Node). length (edges_of m)) h.swept ∙ length-map es (lowered h.mask)

-- a swept node with other edges over the same messages
half_of : (level : ℕ) (es part : List Edge) (buffer : List Message) (own : List ℕ → Type 0) (half : Node) → IsLoose level part buffer → IsSwept level part buffer half → length part ≤ 9
    → ((k : List ℕ) → own k → edge_of part k ≡ edge_of es k) → ((c : ℕ) → times (Inner level part buffer) c ≤ times (Inner level es buffer) c) → IsHalf (Inner level es buffer) own half
half_of level es part buffer own half loose swept few same names = record {
  shape = compacted_shape (Inner level part buffer) half loose swept;
  level_is = compacted_level (Inner level part buffer) half swept;
  few = subst (λ (n : ℕ). n ≤ 9) (sym (swept_few level part buffer half swept)) few;
  meaning = λ below k mine. compacted_meaning below (Inner level part buffer) half loose swept k ∙ ap (λ (o : Option Edge). through below o buffer k) (same k mine);
  size = compacted_size (Inner level part buffer) half swept;
  names = λ c. (let a : times half c ≤ times (Inner level part buffer) c = compacted_times (Inner level part buffer) half swept c in
      let b : times (Inner level part buffer) c ≤ times (Inner level es buffer) c = names c in
      omega arith);
}

-- ---- both halves

edges_swept : (level : ℕ) (es : List Edge) (buffer : List Message) (n : Node) → IsSwept level es buffer n → flat_map edge_names (edges_of n) ≡ flat_map edge_names es
edges_swept level es buffer n h = ap (λ (m : Node). flat_map edge_names (edges_of m)) h.swept ∙ edge_names-lowered h.mask es

both_edges : (xs : List Edge) (f : Edge) (ys : List Edge) (buffer : List Message) → flat_map edge_names (lower_edges xs f buffer) ++ flat_map edge_names (upper_edges f ys buffer) ≡ flat_map edge_names (xs ++ f ∷ ys)
both_edges xs f ys buffer =
    ap (λ (l : List ℕ). l ++ flat_map edge_names (f ∷ ys)) (flat_map-append edge_names xs (bare_edge f.pivot (length buffer) ∷ []) ∙ append-nil (flat_map edge_names xs))
    ∙ sym (flat_map-append edge_names xs (f ∷ ys))

-- each message stays by one of the two lists
abbrev AreCovered : List Bool → List Bool → List Message → Type 0
AreCovered first second xs = (i : ℕ) (m : Message) → slice_get xs i ≡ Some m → (slice_get first i ≡ Some true) ⊎ (slice_get second i ≡ Some true)

covered_names : (c : ℕ) (first second : List Bool) (xs : List Message) → length first ≡ length xs → length second ≡ length xs → AreCovered first second xs
    → count_names c (flat_map message_names xs) ≤ count_names c (flat_map message_names (staying first xs)) + count_names c (flat_map message_names (staying second xs))
covered_names c [] [] [] a b h = omega arith
covered_names c [] second (x ∷ xs) a b h = absurd (omega arith)
covered_names c (s ∷ first) second [] a b h = absurd (omega arith)
covered_names c [] (t ∷ second) [] a b h = absurd (omega arith)
covered_names c (s ∷ first) [] (x ∷ xs) a b h = absurd (omega arith)
covered_names c (true ∷ first) (true ∷ second) (x ∷ xs) a b h =
    let more : count_names c (flat_map message_names xs) ≤ count_names c (flat_map message_names (staying first xs)) + count_names c (flat_map message_names (staying second xs))
    = covered_names c first second xs (omega arith) (omega arith) (λ i m there. h (suc i) m there) in
    omega (arith, count_names-append c (message_names x) (flat_map message_names xs), count_names-append c (message_names x) (flat_map message_names (staying first xs)), count_names-append c (message_names x) (flat_map message_names (staying second xs)))
covered_names c (true ∷ first) (false ∷ second) (x ∷ xs) a b h =
    let more : count_names c (flat_map message_names xs) ≤ count_names c (flat_map message_names (staying first xs)) + count_names c (flat_map message_names (staying second xs))
    = covered_names c first second xs (omega arith) (omega arith) (λ i m there. h (suc i) m there) in
    omega (arith, count_names-append c (message_names x) (flat_map message_names xs), count_names-append c (message_names x) (flat_map message_names (staying first xs)))
covered_names c (false ∷ first) (true ∷ second) (x ∷ xs) a b h =
    let more : count_names c (flat_map message_names xs) ≤ count_names c (flat_map message_names (staying first xs)) + count_names c (flat_map message_names (staying second xs))
    = covered_names c first second xs (omega arith) (omega arith) (λ i m there. h (suc i) m there) in
    omega (arith, count_names-append c (message_names x) (flat_map message_names xs), count_names-append c (message_names x) (flat_map message_names (staying second xs)))
covered_names c (false ∷ first) (false ∷ second) (x ∷ xs) a b h = elim (h zero x refl) [ inl here ↦ cc | inr there ↦ cc ]

pub halves_of : (level : ℕ) (xs : List Edge) (f : Edge) (ys : List Edge) (buffer : List Message) (first second : Node) → IsInner level (xs ++ f ∷ ys) buffer → 1 ≤ length xs → length xs ≤ 8 → length (f ∷ ys) ≤ 8
    → IsSwept level (lower_edges xs f buffer) buffer first → IsSwept level (upper_edges f ys buffer) buffer second → AreHalves (Inner level (xs ++ f ∷ ys) buffer) (record { first = first; pivot = f.pivot; second = second })
halves_of level xs f ys buffer first second h some low high s t =
    let bare : Edge = bare_edge f.pivot (length buffer) in
    let up : EachEdge IsRisingEdge (xs ++ f ∷ ys) = rising (length buffer) (xs ++ f ∷ ys) h.each in
    let own : EachEdge (IsEdge (length buffer)) (f ∷ ys) = EachEdge-back (IsEdge (length buffer)) xs (f ∷ ys) h.each in
    record {
      lower = half_of level (xs ++ f ∷ ys) (lower_edges xs f buffer) buffer (λ k. IsBelow k f.pivot) first (loose_lower level xs f ys buffer h) s (omega (arith, length-append xs (bare ∷ [])))
          (λ k below. sym (edge_of-front xs f bare ys [] k some refl below)) (λ c. lower_names c xs f ys buffer level);
      upper = half_of level (xs ++ f ∷ ys) (upper_edges f ys buffer) buffer (λ k. IsAtLeast k f.pivot) second (loose_upper level xs f ys buffer h some) t (omega arith)
          (λ k least. sym (edge_of-back (bare_edge [] (length buffer)) xs f ys k up least)) (λ c. upper_names c xs f ys buffer level);
      some = pivot_some xs f ys some up;
      short = own.0.pivot;
      edges = ap (λ (l : List ℕ). l ++ flat_map edge_names (edges_of second)) (edges_swept level (lower_edges xs f buffer) buffer first s)
          ∙ ap (λ (l : List ℕ). flat_map edge_names (lower_edges xs f buffer) ++ l) (edges_swept level (upper_edges f ys buffer) buffer second t)
          ∙ both_edges xs f ys buffer;
      gotos = λ c.
          subst (λ (n : Node). goto_times (Inner level (xs ++ f ∷ ys) buffer) c ≤ goto_times n c + goto_times second c) (sym s.swept)
          (subst (λ (n : Node). goto_times (Inner level (xs ++ f ∷ ys) buffer) c ≤ goto_times (Inner level (map (lowered s.mask) (lower_edges xs f buffer)) (staying s.mask buffer)) c + goto_times n c) (sym t.swept)
          (covered_names c s.mask t.mask buffer s.pending.long t.pending.long
          (λ i m there. elim (SomeEdge-parted (IsPending i m) xs f bare ys [] refl (h.pending i m there)) [
            | inl here ↦ inl ((s.pending.each i m there).1 here)
            | inr later ↦ inr ((t.pending.each i m there).1 (inr later))
          ])));
    }

-- ---- of a list of edges and a place

-- the edges before a place and from it on
pub record IsParted (es : List Edge) (place : ℕ) (f : Edge) (xs ys : List Edge) : Type 0 where
  pub whole : es ≡ xs ++ f ∷ ys
  pub before : xs ≡ take place es
  pub after : drop place es ≡ f ∷ ys

pub parted : (es : List Edge) (place : ℕ) (f : Edge) → place < length es → f ≡ get_or es place f → IsParted es place f (take place es) (drop (place + 1) es)
parted es place f low is =
    let rest : drop place es ≡ f ∷ drop (place + 1) es = drop_more es place f low ∙ ap (λ (e : Edge). e ∷ drop (place + 1) es) (sym is) in
    record {
      whole = sym (take-append-drop place es) ∙ ap (λ (l : List Edge). take place es ++ l) rest;
      before = refl;
      after = rest;
    }

pub lower_is : (es : List Edge) (m n : ℕ) (f : Edge) (pivot : List ℕ) (low half : List Edge) → low ≡ take m es → pivot ≡ (get_or es m f).pivot → f ≡ get_or es m f → half ≡ low ++ bare_edge pivot n ∷ []
    → half ≡ take m es ++ bare_edge f.pivot n ∷ []
lower_is es m n f pivot low half front pivot_is is half_is =
    half_is
    ∙ ap (λ (l : List Edge). l ++ bare_edge pivot n ∷ []) front
    ∙ ap (λ (p : List ℕ). take m es ++ bare_edge p n ∷ []) (pivot_is ∙ ap (λ (e : Edge). e.pivot) (sym is))

pub upper_is : (es : List Edge) (m n : ℕ) (f : Edge) (high half : List Edge) → m < length es → f ≡ get_or es m f → high ≡ drop m es → half ≡ bare_edge [] n ∷ high → half ≡ bare_edge [] n ∷ f ∷ drop (m + 1) es
upper_is es m n f high half low is back half_is = half_is ∙ ap (λ (l : List Edge). bare_edge [] n ∷ l) (back ∙ (parted es m f low is).after)

pub sweep_lower : (level : ℕ) (es : List Edge) (buffer : List Message) (m : ℕ) (f : Edge) (half : List Edge) → IsInner level es buffer → m < length es → f ≡ get_or es m f → half ≡ take m es ++ bare_edge f.pivot (length buffer) ∷ [] → IsLoose level half buffer
sweep_lower level es buffer m f half h low is half_is =
    subst (λ (l : List Edge). IsLoose level l buffer) (sym half_is)
    (loose_lower level (take m es) f (drop (m + 1) es) buffer (subst (λ (l : List Edge). IsInner level l buffer) (parted es m f low is).whole h))

pub sweep_upper : (level : ℕ) (es : List Edge) (buffer : List Message) (m : ℕ) (f : Edge) (half : List Edge) → IsInner level es buffer → 1 ≤ m → m < length es → f ≡ get_or es m f → half ≡ bare_edge [] (length buffer) ∷ f ∷ drop (m + 1) es → IsLoose level half buffer
sweep_upper level es buffer m f half h some low is half_is =
    subst (λ (l : List Edge). IsLoose level l buffer) (sym half_is)
    (loose_upper level (take m es) f (drop (m + 1) es) buffer (subst (λ (l : List Edge). IsInner level l buffer) (parted es m f low is).whole h) (omega (arith, length-take m es)))

pub halves_at : (level : ℕ) (es : List Edge) (buffer : List Message) (m : ℕ) (f : Edge) (pivot : List ℕ) (low high : List Edge) (first second : Node) → IsInner level es buffer → 15 ≤ length es → m ≡ length es / 2 → f ≡ get_or es m f
    → low ≡ take m es ++ bare_edge f.pivot (length buffer) ∷ [] → high ≡ bare_edge [] (length buffer) ∷ f ∷ drop (m + 1) es → pivot ≡ (get_or es m f).pivot
    → IsSwept level low buffer first → IsSwept level high buffer second → AreHalves (Inner level es buffer) (record { first = first; pivot = pivot; second = second })
halves_at level es buffer m f pivot low high first second h full half is low_is high_is pivot_is s t =
    let few : length es ≤ edge_limit = h.few in
    let within : m < length es = omega arith in
    let parts = parted es m f within is in
    let f_is : f.pivot ≡ pivot = sym (pivot_is ∙ ap (λ (e : Edge). e.pivot) (sym is)) in
    subst (λ (p : List ℕ). AreHalves (Inner level es buffer) (record { first = first; pivot = p; second = second })) f_is
    (subst (λ (l : List Edge). AreHalves (Inner level l buffer) (record { first = first; pivot = f.pivot; second = second })) (sym parts.whole)
    (halves_of level (take m es) f (drop (m + 1) es) buffer first second (subst (λ (l : List Edge). IsInner level l buffer) parts.whole h)
    (omega (arith, length-take m es)) (omega (arith, length-take m es)) (omega (arith, length-drop (m + 1) es))
    (subst (λ (l : List Edge). IsSwept level l buffer first) low_is s) (subst (λ (l : List Edge). IsSwept level l buffer second) high_is t)))
