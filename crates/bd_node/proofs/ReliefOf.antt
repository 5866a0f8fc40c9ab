-- What is to change in a node from which messages go down an edge, as it is found.
use Rattle.std.proofs.Common.{◌≡◌, ◌⊎◌, ℕ, zero, suc, ◌+◌, ◌^◌, ◌<◌, ◌≤◌, Bool, List, [], ◌∷◌, length, take, drop, map, refl, sym, ap, subst, ◌∙◌, Option, Some, arith, inl, inr, add-one}
use Rattle.std.specs.Prelude.{slice_get}
use Rattle.std.specs.List.{AllByRecursion}
use Rattle.std.specs.Option.{ForSome}
use Rattle.std.proofs.lemmas.List.{length-map}
use Rattle.std.proofs.lemmas.Option.{same_Some, none-some, slice_get_within}
use Rattle.bd_keys.specs.Keys.{IsBelowEnd}
use Rattle.bd_message.specs.declared.message.Message.{Message}
use Rattle.bd_node.specs.declared.node.Edge.{Edge}
use Rattle.bd_node.specs.declared.node.Node.{Node}
use Rattle.bd_node.specs.declared.node.Node.TheVariants.{Inner}
use Rattle.bd_node.specs.declared.relief.Relief.{Relief}
use Rattle.bd_node.specs.Compaction.{IsMask, lowered}
use Rattle.bd_node.specs.Keeping.{staying, stay_count}
use Rattle.bd_node.specs.Pushes.{seen_by, with_seen, IsPlainFor, CanRelieve, IsReliefOf}
use Rattle.bd_node.specs.Reliefs.{CanSee, IsGoing, ArePlain, after_seeing}
use Rattle.bd_node.specs.Touching.{CanTouch}
use Rattle.bd_node.specs.Shape.{end_before, AreRising, SomeEdge, IsEdge, IsPending, IsInner, IsShape}
use Rattle.bd_node.proofs.Compacting.{few_wait}
use Rattle.bd_node.proofs.Edges.{EachEdge-weaker}
use Rattle.bd_node.proofs.Going.{counted_edges}
use Rattle.bd_node.proofs.InPlace.{IsIndexOf}
use Rattle.bd_node.proofs.Owning.{edge_has}
use Rattle.bd_node.proofs.Relieving.{put_at, put_is, put_length, seen_loose, run_has, still_waits}

-- ---- the edge that is put at a place

put_there : (es : List Edge) (place : ℕ) (e f : Edge) → slice_get es place ≡ Some e → slice_get (put_at es place f) place ≡ Some f
put_there [] place e f here = absurd (none-some e here)
put_there (d ∷ es) zero e f here = refl
put_there (d ∷ es) (suc place) e f here = put_there es place e f here

put_rest : (es : List Edge) (place : ℕ) (e f : Edge) → slice_get es place ≡ Some e → drop (suc place) (put_at es place f) ≡ drop (suc place) es
put_rest [] place e f here = absurd (none-some e here)
put_rest (d ∷ es) zero e f here = refl
put_rest (d ∷ es) (suc place) e f here = put_rest es place e f here

-- ---- a node's edges, one of which has seen so many more

pub record IsUnder (level : ℕ) (es : List Edge) (buffer : List Message) (place count : ℕ) (e : Edge) : Type 0 where
  pub inner : IsInner level es buffer
  pub here : slice_get es place ≡ Some e
  pub fits : e.seen + count ≤ length buffer

abbrev pub new_edges : List Edge → ℕ → ℕ → Edge → List Edge
new_edges es place count e = put_at es place (seen_by e count)

abbrev rest_end : List Edge → ℕ → Option (List ℕ)
rest_end es place = end_before (drop (suc place) es)

pub seen_within : (level : ℕ) (es : List Edge) (buffer : List Message) (place : ℕ) (e : Edge) → IsInner level es buffer → slice_get es place ≡ Some e → e.seen ≤ length buffer
seen_within level es buffer place e h here = (edge_has (IsEdge (length buffer)) es place e h.each here).seen

pub seen_small : (level : ℕ) (es : List Edge) (buffer : List Message) (place count : ℕ) (e : Edge) → IsUnder level es buffer place count e → e.seen + count < 2 ^ 32
seen_small level es buffer place count e u =
    let few : length buffer ≤ 2048 = few_wait level es buffer u.inner in
    let fits : e.seen + count ≤ length buffer = u.fits in
    omega arith

pub new_rising : (level : ℕ) (es : List Edge) (buffer : List Message) (place count : ℕ) (e : Edge) → IsUnder level es buffer place count e → AreRising (new_edges es place count e)
new_rising level es buffer place count e u =
    EachEdge-weaker (IsEdge (length buffer)) (λ (d : Edge) hi. IsBelowEnd d.pivot hi) (λ d hi own. own.rising) (new_edges es place count e)
    (seen_loose level es buffer place e count u.inner u.here u.fits).each

pub new_seen : (level : ℕ) (es : List Edge) (buffer : List Message) (place count : ℕ) (e : Edge) → IsUnder level es buffer place count e → (i : ℕ) (d : Edge) → slice_get (new_edges es place count e) i ≡ Some d → d.seen ≤ length buffer
new_seen level es buffer place count e u i d there =
    (edge_has (IsEdge (length buffer)) (new_edges es place count e) i d (seen_loose level es buffer place e count u.inner u.here u.fits).each there).seen

-- ---- the messages that go

new_end : (es : List Edge) (place count : ℕ) (e : Edge) → slice_get es place ≡ Some e → end_before (drop (place + 1) (new_edges es place count e)) ≡ rest_end es place
new_end es place count e here =
    ap (λ (n : ℕ). end_before (drop n (new_edges es place count e))) (add-one place) ∙ ap end_before (put_rest es place e (seen_by e count) here)

going_parts : (es : List Edge) (place count i : ℕ) (e : Edge) (m : Message) → slice_get es place ≡ Some e → IsGoing (new_edges es place count e) place e.seen i m → (e.seen ≤ i) × (i < e.seen + count) × CanTouch m e.pivot (rest_end es place)
going_parts es place count i e m here going =
    let one : going.0 ≡ seen_by e count = same_Some going.0 (seen_by e count) (sym going.1 ∙ put_there es place e (seen_by e count) here) in (
      going.2,
      subst (λ (d : Edge). i < d.seen) one going.3,
      subst (λ (o : Option (List ℕ)). CanTouch m e.pivot o) (new_end es place count e here)
          (subst (λ (d : Edge). CanTouch m d.pivot (end_before (drop (place + 1) (new_edges es place count e)))) one going.4),
    )

parts_going : (es : List Edge) (place count i : ℕ) (e : Edge) (m : Message) → slice_get es place ≡ Some e → e.seen ≤ i → i < e.seen + count → CanTouch m e.pivot (rest_end es place) → IsGoing (new_edges es place count e) place e.seen i m
parts_going es place count i e m here low high touch =
    (seen_by e count, put_there es place e (seen_by e count) here, low, high, subst (λ (o : Option (List ℕ)). CanTouch m e.pivot o) (sym (new_end es place count e here)) touch)

pub new_pending : (level : ℕ) (es : List Edge) (buffer : List Message) (place count : ℕ) (e : Edge) → IsUnder level es buffer place count e
    → (i : ℕ) (m : Message) → slice_get buffer i ≡ Some m → SomeEdge (IsPending i m) (new_edges es place count e) ⊎ IsGoing (new_edges es place count e) place e.seen i m
new_pending level es buffer place count e u i m there =
    elim (still_waits es buffer place e count i m u.here (u.inner.pending i m there)) [
      | inl some ↦ inl some
      | inr gone ↦ inr (parts_going es place count i e m u.here gone.1.0 gone.0 gone.1.1)
    ]

-- ---- none of them names a node

taken_all : (P : Message → Type 0) (count : ℕ) (xs : List Message) → ((i : ℕ) (m : Message) → slice_get xs i ≡ Some m → i < count → P m) → AllByRecursion P (take count xs)
taken_all P zero xs each = tt
taken_all P (suc count) [] each = tt
taken_all P (suc count) (x ∷ xs) each = (each 0 x refl (omega arith), taken_all P count xs (λ i m there low. each (suc i) m there (omega arith)))

run_all : (P : Message → Type 0) (from count : ℕ) (xs : List Message) → ((i : ℕ) (m : Message) → slice_get xs i ≡ Some m → from ≤ i → i < from + count → P m) → AllByRecursion P (take count (drop from xs))
run_all P zero count xs each = taken_all P count xs (λ i m there low. each i m there (omega arith) (omega arith))
run_all P (suc from) count [] each = taken_all P count [] (λ i m there low. absurd (none-some m there))
run_all P (suc from) count (x ∷ xs) each = run_all P from count xs (λ i m there low high. each (suc i) m there (omega arith) (omega arith))

abbrev are_plain : List Edge → List Message → ℕ → ℕ → Edge → Type 0
are_plain es buffer place count e = AllByRecursion (IsPlainFor e (rest_end es place)) (take count (drop e.seen buffer))

plain_run : (es : List Edge) (buffer : List Message) (place count : ℕ) (e : Edge) → slice_get es place ≡ Some e → ArePlain (new_edges es place count e) place e.seen buffer → are_plain es buffer place count e
plain_run es buffer place count e here plain =
    run_all (IsPlainFor e (rest_end es place)) e.seen count buffer
    (λ i m there low high k range touch. plain i m there (parts_going es place count i e m here low high (k, range, touch)))

run_plain : (es : List Edge) (buffer : List Message) (place count : ℕ) (e : Edge) → slice_get es place ≡ Some e → are_plain es buffer place count e → ArePlain (new_edges es place count e) place e.seen buffer
run_plain es buffer place count e here all i m there going =
    let parts = going_parts es place count i e m here going in
    run_has (IsPlainFor e (rest_end es place)) e.seen count buffer i m all there parts.0 parts.1 parts.2.0 parts.2.1 parts.2.2

-- ---- the node

can_of : (level : ℕ) (es : List Edge) (buffer : List Message) (place count : ℕ) (e : Edge) → IsUnder level es buffer place count e → ArePlain (new_edges es place count e) place e.seen buffer → CanRelieve (Inner level es buffer) place count
can_of level es buffer place count e u plain = record {
  edge = e;
  here = u.here;
  there = u.fits;
  plain = subst (λ (n : ℕ). AllByRecursion (IsPlainFor e (end_before (drop n es))) (take count (drop e.seen buffer))) (sym (add-one place)) (plain_run es buffer place count e u.here plain);
}

pub cannot : (level : ℕ) (es : List Edge) (buffer : List Message) (place count : ℕ) (e : Edge) → IsUnder level es buffer place count e → ¬ ArePlain (new_edges es place count e) place e.seen buffer → ¬ CanRelieve (Inner level es buffer) place count
cannot level es buffer place count e u not_plain can =
    let same : can.edge ≡ e = same_Some can.edge e (sym can.here ∙ u.here) in
    let all : are_plain es buffer place count can.edge = subst (λ (n : ℕ). AllByRecursion (IsPlainFor can.edge (end_before (drop n es))) (take count (drop can.edge.seen buffer))) (add-one place) can.plain in
    not_plain (run_plain es buffer place count e u.here (subst (λ (d : Edge). are_plain es buffer place count d) same all))

pub relief_of : (level : ℕ) (es : List Edge) (buffer : List Message) (place count : ℕ) (e : Edge) (r : Relief) → IsUnder level es buffer place count e → ArePlain (new_edges es place count e) place e.seen buffer → IsMask r.stays.items (new_edges es place count e) buffer
    → r.seens.items ≡ map (λ (d : Edge). stay_count r.stays.items d.seen) (new_edges es place count e) → ForSome r.index (λ index. IsIndexOf (staying r.stays.items buffer) index) → IsReliefOf (Inner level es buffer) place count r
unfolding can_of
relief_of level es buffer place count e r u plain pending seens index =
    let mask : List Bool = r.stays.items in
    let new : List Edge = new_edges es place count e in
    record {
      can = can_of level es buffer place count e u plain;
      fits = record {
        edges = ap (λ (l : List ℕ). length l) seens ∙ length-map new (λ (d : Edge). stay_count mask d.seen) ∙ put_length es place e (seen_by e count) u.here;
        messages = pending.long;
        index = index;
      };
      relieved = record {
        mask = mask;
        pending = subst (λ (l : List Edge). IsMask mask l buffer) (put_is es place (seen_by e count)) pending;
        swept = ap (λ (l : List Edge). Inner level l (staying mask buffer))
            (ap (λ (l : List ℕ). with_seen l es) seens
            ∙ counted_edges mask es place e (seen_by e count) u.here refl
            ∙ ap (λ (l : List Edge). map (lowered mask) l) (put_is es place (seen_by e count)));
      };
    }

-- ---- as the code has them

-- the edge that was found
pub under_of : (n : Node) (level : ℕ) (es list : List Edge) (buffer : List Message) (place count waiting : ℕ) (e : Edge) → n ≡ Inner level es buffer → IsShape n → list ≡ es → waiting ≡ length buffer → CanSee list place count waiting e → IsUnder level es buffer place count e
under_of n level es list buffer place count waiting e is shape same long can = record {
  inner = subst IsShape is shape;
  here = subst (λ (l : List Edge). slice_get l place ≡ Some e) same can.0;
  fits = subst (λ (w : ℕ). e.seen + count ≤ w) long can.1;
}

-- the edges then
pub new_is : (level : ℕ) (es made list : List Edge) (buffer : List Message) (place count : ℕ) (e : Edge) → IsUnder level es buffer place count e → ((d : Edge) → slice_get es place ≡ Some d → made ≡ after_seeing es place count d) → list ≡ made → list ≡ new_edges es place count e
new_is level es made list buffer place count e u made_is same = same ∙ made_is e u.here ∙ sym (put_is es place (seen_by e count))

pub new_low : (level : ℕ) (es list : List Edge) (buffer : List Message) (place count : ℕ) (e : Edge) → IsUnder level es buffer place count e → list ≡ new_edges es place count e → place < length list
new_low level es list buffer place count e u is =
    subst (λ (l : List Edge). place < length l) (sym is)
    (slice_get_within (new_edges es place count e) place (seen_by e count) (put_there es place e (seen_by e count) u.here))

pub waits_in : (level : ℕ) (es list : List Edge) (buffer : List Message) (place count from : ℕ) (e : Edge) → IsUnder level es buffer place count e → list ≡ new_edges es place count e → from ≡ e.seen
    → (i : ℕ) (m : Message) → slice_get buffer i ≡ Some m → SomeEdge (IsPending i m) list ⊎ IsGoing list place from i m
waits_in level es list buffer place count from e u is start i m there =
    subst (λ (l : List Edge). SomeEdge (IsPending i m) l ⊎ IsGoing l place from i m) (sym is)
    (subst (λ (n : ℕ). SomeEdge (IsPending i m) (new_edges es place count e) ⊎ IsGoing (new_edges es place count e) place n i m) (sym start)
    (new_pending level es buffer place count e u i m there))

pub cannot_in : (n : Node) (level : ℕ) (es list : List Edge) (buffer : List Message) (place count from : ℕ) (e : Edge) → n ≡ Inner level es buffer → IsUnder level es buffer place count e → list ≡ new_edges es place count e → from ≡ e.seen
    → ¬ ArePlain list place from buffer → ¬ CanRelieve n place count
cannot_in n level es list buffer place count from e n_is u is start not_plain =
    subst (λ (m : Node). ¬ CanRelieve m place count) (sym n_is)
    (cannot level es buffer place count e u (λ plain. not_plain
    (subst (λ (l : List Edge). ArePlain l place from buffer) (sym is) (subst (λ (k : ℕ). ArePlain (new_edges es place count e) place k buffer) (sym start) plain))))

pub relief_in : (n : Node) (level : ℕ) (es list : List Edge) (buffer : List Message) (place count from : ℕ) (e : Edge) (r : Relief) (mask : List Bool) → n ≡ Inner level es buffer → IsUnder level es buffer place count e → list ≡ new_edges es place count e → from ≡ e.seen
    → mask ≡ r.stays.items → ArePlain list place from buffer → IsMask r.stays.items list buffer → r.seens.items ≡ map (λ (d : Edge). stay_count mask d.seen) list → ForSome r.index (λ index. IsIndexOf (staying mask buffer) index) → IsReliefOf n place count r
relief_in n level es list buffer place count from e r mask n_is u is start same plain pending seens index =
    let new : List Edge = new_edges es place count e in
    subst (λ (m : Node). IsReliefOf m place count r) (sym n_is)
    (relief_of level es buffer place count e r u
    (subst (λ (k : ℕ). ArePlain new place k buffer) start (subst (λ (l : List Edge). ArePlain l place from buffer) is plain))
    (subst (λ (l : List Edge). IsMask r.stays.items l buffer) is pending)
    (seens ∙ ap (λ (l : List Bool). map (λ (d : Edge). stay_count l d.seen) list) same ∙ ap (λ (l : List Edge). map (λ (d : Edge). stay_count r.stays.items d.seen) l) is)
    (subst (λ (l : List Bool). ForSome r.index (λ x. IsIndexOf (staying l buffer) x)) same index))

pub seen_in : (level : ℕ) (es list : List Edge) (buffer : List Message) (place count : ℕ) (e : Edge) (mask : List Bool) → IsUnder level es buffer place count e → list ≡ new_edges es place count e → length mask ≡ length buffer
    → (i : ℕ) (d : Edge) → slice_get list i ≡ Some d → d.seen ≤ length mask
seen_in level es list buffer place count e mask u is long i d there =
    let low : d.seen ≤ length buffer = new_seen level es buffer place count e u i d (subst (λ (l : List Edge). slice_get l i ≡ Some d) is there) in
    omega arith
