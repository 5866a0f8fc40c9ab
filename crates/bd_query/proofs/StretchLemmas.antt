-- What messages and edges say of a stretch of keys.
use Rattle.std.proofs.Common.{◌≡◌, ℕ, zero, suc, ◌+◌, ◌<◌, ◌≤◌, true, false, not, cond, List, [], ◌∷◌, ◌++◌, length, take, drop, refl, sym, ap, subst, ◌∙◌, Option, None, Some, arith, inl, inr}
use Rattle.std.specs.Prelude.{IsSome, IfSome, slice_get, count_by, ◌==◌}
use Rattle.std.specs.List.{AllByRecursion, flat_map}
use Rattle.std.specs.Option.{unwrap_or}
use Rattle.std.specs.Ordering.{is_lt}
use Rattle.std.proofs.lemmas.Bool.{and_parts, and_from, cond-true, cases_lt}
use Rattle.std.proofs.Common.{get_or, Result, Ok, Err}
use Rattle.std.specs.Prelude.{IfOk}
use Rattle.std.proofs.lemmas.Option.{same_Some, none-some, slice_get_within, slice_get_read, get_or_from_slice_get}
use Rattle.std.proofs.lemmas.List.Sums.{sum_by-append}
use Rattle.std.proofs.lemmas.Cmp.{nat_list_cmp_total as total}
use Rattle.bd_limits.specs.Limits.{key_limit}
use Rattle.bd_keys.specs.Keys.{key_cmp, IsKey, IsBelow, IsBelowEnd, IsAtLeast, InRange, Begins}
use Rattle.bd_keys.proofs.Order.{not_below_itself, key_cmp-front}
use Rattle.bd_keys.specs.Edits.{overwritten}
use Rattle.bd_message.specs.declared.message.Message.{Message}
use Rattle.bd_message.specs.declared.message.Message.TheVariants.{Put, Del, Patch, Cut, Goto}
use Rattle.bd_message.specs.KeyMaps.{At}
use Rattle.bd_message.specs.Messages.{IsMessage}
use Rattle.bd_message.specs.Effect.{NodesAt, same_key, begins, is_cut, rest, act, acts}
use Rattle.bd_message.proofs.Finds.{same_key-true, begins-is, begins-append}
use Rattle.bd_node.specs.declared.node.Edge.{Edge}
use Rattle.bd_node.specs.declared.node.Entry.{Entry}
use Rattle.bd_node.specs.declared.node.Node.{Node}
use Rattle.bd_node.specs.declared.node.Node.TheVariants.{Inner}
use Rattle.bd_node.specs.Touching.{touches, NoneTouches}
use Rattle.bd_node.specs.Nodes.{edge_names, message_names, child_at, edge_at, edge_of, node_at}
use Rattle.bd_node.specs.Shape.{end_before, EachEdge, SomeEdge, IsEdge, IsInner, IsShape, AreRising}
use Rattle.bd_node.proofs.Edges.{not_less_lt}
use Rattle.bd_node.proofs.LawLemmas.{edge_some, edge_only}
use Rattle.bd_message.proofs.Prefixes.{rest-append}
use Rattle.bd_node.proofs.Lookup.{each_weaker}
use Rattle.bd_node.proofs.Touched.{touched_first, below_longer, least_back}
use Rattle.bd_query.proofs.Parts.{acts_rest, named_more}
use Rattle.bd_node.proofs.Shapes.{inner_rising}
use Rattle.bd_node.proofs.Counted.{counted_first, counted_second, message_counted, edge_of_counted}
use Rattle.bd_query.proofs.EndLemmas.{least_trans, begins_split, begins_joined, no_key_between, below_or_least, below_within, length-take}
use Rattle.bd_query.specs.declared.stretch.Stretch.{Stretch}
use Rattle.bd_query.specs.declared.stretch.Stretch.TheVariants.{Present, Run, Absent, Child}
use Rattle.bd_query.specs.Stretches.{IsEnd, IsWithin, end_limit, gives_value, NoneFrom, IsNewest, IsWay, IsEmpty, IsFirst, IsRun, IsAsked, IsStretch, EndsBy, AsksOneOf}

pub if_both : {T E : Type 0} (P Q R : T → Type 0) (r : Result T E) → IfOk r P → IfOk r Q → ((x : T) → P x → Q x → R x) → IfOk r R
if_both P Q R (Ok x) h i f = f x h i
if_both P Q R (Err e) h i f = tt

-- ---- one message

pub begins_true : (k p : List ℕ) → Begins k p → begins k p ≡ true
begins_true k p h = subst (λ (l : List ℕ). begins l p ≡ true) (sym (begins_split k p h)) (begins-append p (drop (length p) k))

pub true_begins : (k p : List ℕ) → begins k p ≡ true → Begins k p
true_begins k p h = subst (λ (l : List ℕ). Begins l p) (sym (begins-is k p h)) (begins_joined p (rest p k))

put_there : (lo key value : List ℕ) (old : Option (List ℕ)) → same_key lo key ≡ true → IsSome (cond (same_key lo key) (Some value) old)
put_there lo key value old h = subst (λ (o : Option (List ℕ)). IsSome o) (sym (cond-true (same_key lo key) (Some value) old h)) refl

-- a message that leaves a value does so at a key that it changes
given_there : (below : NodesAt) (m : Message) (lo : List ℕ) (old : Option (List ℕ)) → gives_value m ≡ true → touches m lo ≡ true → IsSome (act below m lo old)
given_there below (Put key value) lo old gives changes = put_there lo key value old changes
given_there below (Del key) lo old gives changes = absurd (cc)
given_there below (Patch key off bytes) lo old gives changes = put_there lo key (overwritten (unwrap_or old []) off bytes) old changes
given_there below (Cut prefix from) lo old gives changes = absurd (cc)
given_there below (Goto prefix source child) lo old gives changes = absurd (cc)

pub del_empty : (lo key : List ℕ) (old : Option (List ℕ)) → same_key lo key ≡ true → IsEmpty (λ k. cond (same_key k key) None old) lo (Some (lo ++ 0 ∷ []))
del_empty lo key old h k is_k within =
    cond-true (same_key k key) None old (subst (λ (l : List ℕ). same_key l key ≡ true) (sym (no_key_between lo k within.0 within.1)) h)

is_cut_joined : (p x z : List ℕ) → IsAtLeast z x → is_cut p x (p ++ z) ≡ true
is_cut_joined p x z least =
    and_from _ _ (begins-append p z)
    (ap (λ (r : List ℕ). not (is_lt (key_cmp r x))) (rest-append p z) ∙ ap not (not_less_lt (key_cmp z x) least))

cut_more : (p x lo k : List ℕ) → is_cut p x lo ≡ true → IsAtLeast k lo → Begins k p → is_cut p x k ≡ true
cut_more p x lo k h least begins =
    let split : k ≡ p ++ drop (length p) k = begins_split k p begins in
    subst (λ (l : List ℕ). is_cut p x l ≡ true) (sym split)
    (is_cut_joined p x (drop (length p) k) (λ less.
    least_trans k lo (p ++ x) least (touched_first (Cut p x) lo h)
    (subst (λ (l : List ℕ). IsBelow l (p ++ x)) (sym split) (key_cmp-front p (drop (length p) k) x ∙ less))))

pub cut_empty : (lo prefix from : List ℕ) (end old : Option (List ℕ)) → is_cut prefix from lo ≡ true → ((k : List ℕ) → IsKey k → InRange lo end k → Begins k prefix) → IsEmpty (λ k. cond (is_cut prefix from k) None old) lo end
cut_empty lo prefix from end old h begins k is_k within =
    cond-true (is_cut prefix from k) None old (cut_more prefix from lo k h within.0 (begins k is_k within))

pub cut_begins : (lo prefix from : List ℕ) → is_cut prefix from lo ≡ true → Begins lo prefix
cut_begins lo prefix from h = true_begins lo prefix (and_parts _ _ h).0

pub goto_asked : (below : NodesAt) (lo prefix source : List ℕ) (child : ℕ) (end old : Option (List ℕ)) → begins lo prefix ≡ true → ((k : List ℕ) → IsKey k → InRange lo end k → Begins k prefix)
    → IsAsked (λ k. cond (begins k prefix) (below child (source ++ rest prefix k)) old) (below child) lo end (length prefix) source
goto_asked below lo prefix source child end old h begins_all k is_k within =
    let begins_k : Begins k prefix = begins_all k is_k within in (
      subst (λ (p : List ℕ). Begins k p) (sym (true_begins lo prefix h)) begins_k,
      cond-true (begins k prefix) (below child (source ++ rest prefix k)) old (begins_true k prefix begins_k),
    )

pub begins_long : (lo prefix : List ℕ) → begins lo prefix ≡ true → length prefix ≤ length lo
begins_long lo prefix h =
    let e : length lo ≡ length prefix + length (rest prefix lo) = ap (λ (l : List ℕ). length l) (begins-is lo prefix h) ∙ Rattle.std.proofs.Common.length-append prefix (rest prefix lo) in omega arith

-- the key of a Del that changes a key is that one
pub del_short : (m : Message) (lo key : List ℕ) → m ≡ Del key → IsMessage m → touches m lo ≡ true → length lo ≤ key_limit
del_short m lo key is own changes =
    let same : lo ≡ key = same_key-true lo key (subst (λ (n : Message). touches n lo ≡ true) is changes) in
    subst (λ (k : List ℕ). length k ≤ key_limit) (sym same) (subst (λ (n : Message). IsMessage n) is own)

-- the end of the one key alone
pub alone_end : (lo : List ℕ) → length lo ≤ key_limit → IsEnd lo end_limit (Some (lo ++ 0 ∷ []))
alone_end lo short = record {
  above = below_longer lo 0 [];
  short = (let e : length (lo ++ 0 ∷ []) ≡ length lo + 1 = Rattle.std.proofs.Common.length-append lo (0 ∷ []) in omega arith);
}

pub alone_within : (lo : List ℕ) (end : Option (List ℕ)) → IsBelowEnd lo end → IsWithin (Some (lo ++ 0 ∷ [])) end
alone_within lo None above k below = tt
alone_within lo (Some e) above k below =
    elim (below_or_least k lo) [
      | inl less ↦ total.trans k lo e less above
      | inr least ↦ subst (λ (l : List ℕ). IsBelow l e) (sym (no_key_between lo k least below)) above
    ]

-- ---- messages in a buffer

pub none_from_end : (list : List Message) (lo : List ℕ) (end : Option (List ℕ)) → NoneFrom list (length list) lo end
none_from_end list lo end k within i m low high there = absurd (omega arith)

pub none_from_more : (list : List Message) (place : ℕ) (m : Message) (lo : List ℕ) (end new : Option (List ℕ)) → slice_get list place ≡ Some m → NoneFrom list (place + 1) lo end → IsWithin new end
    → ((k : List ℕ) → InRange lo new k → touches m k ≡ false) → NoneFrom list place lo new
none_from_more list place m lo end new there none within untouched k in_new i n low high at_i =
    elim (cases_lt place i) [
      | inl more ↦ none k (in_new.0, within k in_new.1) i n (omega arith) high at_i
      | inr here ↦ (let same : i ≡ place = omega arith in
          let is : m ≡ n = same_Some m n (sym there ∙ ap (λ (j : ℕ). slice_get list j) (sym same) ∙ at_i) in
          subst (λ (q : Message). touches q k ≡ false) is (untouched k in_new))
    ]

-- the newest message is the one at its place
pub newest_there : (ms : List Message) (seen : ℕ) (lo : List ℕ) (end : Option (List ℕ)) (place : ℕ) (m : Message) → IsNewest ms seen lo (Some place) end → m ≡ get_or ms place m → slice_get ms place ≡ Some m
newest_there ms seen lo end place m h is =
    let found = h.2 in
    found.1 ∙ ap (λ (n : Message). Some n) (sym (get_or_from_slice_get ms place found.0 m found.1) ∙ sym is)

-- messages up to one and the later ones
acts_split : (below : NodesAt) (ms : List Message) (k : List ℕ) (from place : ℕ) (m : Message) (first : Option (List ℕ)) → from ≤ place → slice_get ms place ≡ Some m
    → (x : Option (List ℕ)) × (acts below (drop from ms) k first ≡ acts below (drop (suc place) ms) k (act below m k x))
acts_split below [] k from place m first le there = absurd (none-some m there)
acts_split below (n ∷ ms) k zero zero m first le there = (first, ap (λ (q : Message). acts below ms k (act below q k first)) (same_Some n m there))
acts_split below (n ∷ ms) k zero (suc place) m first le there = acts_split below ms k zero place m (act below n k first) (omega arith) there
acts_split below (n ∷ ms) k (suc from) zero m first le there = absurd (omega arith)
acts_split below (n ∷ ms) k (suc from) (suc place) m first le there = acts_split below ms k from place m first (omega arith) there

-- the newest message that changes anything decides
newest_decides : (below : NodesAt) (ms : List Message) (k : List ℕ) (from place : ℕ) (m : Message) (first : Option (List ℕ)) → from ≤ place → slice_get ms place ≡ Some m → NoneTouches ms (place + 1) (length ms) k
    → (x : Option (List ℕ)) × (acts below (drop from ms) k first ≡ act below m k x)
newest_decides below ms k from place m first le there none =
    let split = acts_split below ms k from place m first le there in
    let more : suc place ≡ place + 1 = omega arith in (
      split.0,
      split.1 ∙ ap (λ (j : ℕ). acts below (drop j ms) k (act below m k split.0)) more
          ∙ acts_rest below ms k (place + 1) (act below m k split.0) (let w : place < length ms = slice_get_within ms place m there in omega arith) none,
    )

-- ---- stretches of what stands elsewhere

-- what is, key by key, what something has whose first key this is has that first key
first_from : (at : At) (lo key value : List ℕ) (end : Option (List ℕ)) → IsKey key → IsAtLeast key lo → IsBelowEnd key end
    → ((k : List ℕ) → IsKey k → InRange lo end k → (f : At) × (at k ≡ f k) × IsFirst f lo key value) → IsFirst at lo key value
first_from at lo key value end is_key on by each = record {
  on = on;
  empty = λ k is_k within.
      let near = each k is_k (within.0, below_within k key end within.1 by) in
      near.1 ∙ near.2.empty k is_k within;
  has = (let here = each key is_key (on, by) in here.1 ∙ here.2.has);
}

-- and what is what something has whose first keys have these entries has them too
run_from : (f at : At) (lo : List ℕ) (end : Option (List ℕ)) (es : List Entry) → AllByRecursion (λ (e : Entry). IsBelowEnd e.key end) es → IsRun f lo es
    → ((k : List ℕ) → IsKey k → InRange lo end k → (g : At) × (at k ≡ g k) × IsRun g lo es) → IsRun at lo es
run_from f at lo end [] by known each = tt
run_from f at lo end (e ∷ es) by known each = (
  known.0,
  first_from at lo e.key e.value end known.0 known.1.on by.0 (λ k is_k within. (let here = each k is_k within in (here.0, here.1, here.2.1))),
  run_from f at (e.key ++ 0 ∷ []) end es by.1 known.2
      (λ k is_k within.
      let after : IsAtLeast k e.key = least_trans k (e.key ++ 0 ∷ []) e.key within.0 (least_back e.key (e.key ++ 0 ∷ []) (below_longer e.key 0 [])) in
      let here = each k is_k (least_trans k e.key lo after known.1.on, within.1) in
      (here.0, here.1, here.2.2)),
)

-- what is, key by key, what something has of which all that is said holds that
pub stretch_from : (below : NodesAt) (at : At) (lo : List ℕ) (end : Option (List ℕ)) (s : Stretch) → EndsBy end s → IsKey lo → IsBelowEnd lo end
    → ((k : List ℕ) → IsKey k → InRange lo end k → (f : At) × (at k ≡ f k) × IsStretch below f lo s) → IsStretch below at lo s
stretch_from below at lo end (Present part) by is_lo above each =
    let here = each lo is_lo (not_below_itself lo, above) in
    (subst (λ (o : Option (List ℕ)). IsSome o) (sym here.1) here.2.0, here.1 ∙ here.2.1)
stretch_from below at lo end (Run entries) by is_lo above each =
    let here = each lo is_lo (not_below_itself lo, above) in
    (here.2.0, run_from here.0 at lo end entries by here.2.1 (λ k is_k within. (let there = each k is_k within in (there.0, there.1, there.2.1))))
stretch_from below at lo end (Absent e) by is_lo above each = λ k is_k within.
    let here = each k is_k (within.0, by k within.1) in
    here.1 ∙ here.2 k is_k within
stretch_from below at lo end (Child e child lift source) by is_lo above each = λ k is_k within.
    let here = each k is_k (within.0, by k within.1) in
    let said = here.2 k is_k within in
    (said.0, here.1 ∙ said.1)

-- a value that the newest message leaves stands at the key
pub through_given : (below : NodesAt) (e : Edge) (ms : List Message) (lo : List ℕ) (end : Option (List ℕ)) (place : ℕ) (m : Message) → IsNewest ms e.seen lo (Some place) end → slice_get ms place ≡ Some m → IsBelowEnd lo end → gives_value m ≡ true
    → IsSome (edge_at below e ms lo)
through_given below e ms lo end place m newest there above gives =
    let found = newest.2 in
    let changes : touches m lo ≡ true = subst (λ (n : Message). touches n lo ≡ true) (same_Some found.0 m (sym found.1 ∙ there)) found.2 in
    let decides = newest_decides below ms lo e.seen place m (child_at below e.child (e.source ++ drop e.lift lo)) newest.0 there (newest.1 lo (not_below_itself lo, above)) in
    subst (λ (o : Option (List ℕ)). IsSome o) (sym decides.1) (given_there below m lo decides.0 gives changes)

-- the message that decides says it
pub through_message : (below : NodesAt) (e : Edge) (ms : List Message) (lo : List ℕ) (end : Option (List ℕ)) (place : ℕ) (m : Message) (s : Stretch) → IsNewest ms e.seen lo (Some place) end → slice_get ms place ≡ Some m → EndsBy end s → IsKey lo → IsBelowEnd lo end
    → ((old : Option (List ℕ)) → IsStretch below (λ k. act below m k old) lo s) → IsStretch below (edge_at below e ms) lo s
through_message below e ms lo end place m s newest there by is_lo above said =
    stretch_from below (edge_at below e ms) lo end s by is_lo above
    (λ k is_k within.
    let found = newest_decides below ms k e.seen place m (child_at below e.child (e.source ++ drop e.lift k)) newest.0 there (newest.1 k within) in
    ((λ l. act below m l found.0), found.1, said found.0))

-- where none does, the edge says it
pub through_edge : (below : NodesAt) (e : Edge) (ms : List Message) (lo : List ℕ) (end : Option (List ℕ)) (s : Stretch) → IsNewest ms e.seen lo None end → e.seen ≤ length ms → EndsBy end s → IsKey lo → IsBelowEnd lo end
    → IsStretch below (λ k. child_at below e.child (e.source ++ drop e.lift k)) lo s → IsStretch below (edge_at below e ms) lo s
through_edge below e ms lo end s newest seen by is_lo above said =
    stretch_from below (edge_at below e ms) lo end s by is_lo above
    (λ k is_k within.
    ((λ l. child_at below e.child (e.source ++ drop e.lift l)), acts_rest below ms k e.seen (child_at below e.child (e.source ++ drop e.lift k)) seen (newest k within), said))

pub ends_within : (new end : Option (List ℕ)) (s : Stretch) → IsWithin new end → EndsBy new s → EndsBy end s
ends_within new end (Present part) h by = tt
ends_within new end (Run entries) h by = each_weaker (λ (e : Entry). IsBelowEnd e.key new) (λ (e : Entry). IsBelowEnd e.key end) (λ e below. h e.key below) entries by
ends_within new end (Absent e) h by = λ k below. h k (by k below)
ends_within new end (Child e child lift source) h by = λ k below. h k (by k below)

pub way_within : (e : Edge) (lo : List ℕ) (new end : Option (List ℕ)) → IsWithin new end → IsWay e lo end → IsWay e lo new
way_within e lo new end h way = record { few = way.few; long = way.long; common = λ k is_k within. way.common k is_k (within.0, h k within.1) }

-- ---- edges

each_edge_at : (P : Edge → Option (List ℕ) → Type 0) (es : List Edge) (i : ℕ) (e : Edge) → EachEdge P es → slice_get es i ≡ Some e → P e (end_before (drop (suc i) es))
each_edge_at P [] i e h there = absurd (none-some e there)
each_edge_at P (f ∷ es) zero e h there = subst (λ (d : Edge). P d (end_before es)) (same_Some f e there) h.0
each_edge_at P (f ∷ es) (suc i) e h there = each_edge_at P es i e h.1 there

some_edge_at : (P : Edge → Option (List ℕ) → Type 0) (es : List Edge) → SomeEdge P es → (j : ℕ) × (e : Edge) × (slice_get es j ≡ Some e) × P e (end_before (drop (suc j) es))
some_edge_at P [] h = elim h [ ]
some_edge_at P (e ∷ es) (inl h) = (zero, e, refl, h)
some_edge_at P (e ∷ es) (inr h) = (let found = some_edge_at P es h in (suc found.0, found.1, found.2, found.3))

rising_first : (e : Edge) (es : List Edge) (j : ℕ) (g : Edge) → AreRising (e ∷ es) → slice_get es j ≡ Some g → IsBelow e.pivot g.pivot
rising_first e [] j g h there = absurd (none-some g there)
rising_first e (f ∷ es) zero g h there = subst (λ (d : Edge). IsBelow e.pivot d.pivot) (same_Some f g there) h.0
rising_first e (f ∷ es) (suc j) g h there = total.trans e.pivot f.pivot g.pivot h.0 (rising_first f es j g h.1 there)

rising_places : (es : List Edge) (i j : ℕ) (e f : Edge) → AreRising es → i < j → slice_get es i ≡ Some e → slice_get es j ≡ Some f → IsBelow e.pivot f.pivot
rising_places [] i j e f h low at_i at_j = absurd (none-some e at_i)
rising_places (g ∷ es) i zero e f h low at_i at_j = absurd (omega arith)
rising_places (g ∷ es) zero (suc j) e f h low at_i at_j = subst (λ (d : Edge). IsBelow d.pivot f.pivot) (same_Some g e at_i) (rising_first g es j f h at_j)
rising_places (g ∷ es) (suc i) (suc j) e f h low at_i at_j = rising_places es i j e f h.1 (omega arith) at_i at_j

one_place : (es : List Edge) (i j : ℕ) (e : Edge) → AreRising es → slice_get es i ≡ Some e → slice_get es j ≡ Some e → i ≡ j
one_place es i j e h at_i at_j =
    elim (cases_lt i j) [
      | inl low ↦ absurd (not_below_itself e.pivot (rising_places es i j e e h low at_i at_j))
      | inr high ↦ elim (cases_lt j i) [
        | inl more ↦ absurd (not_below_itself e.pivot (rising_places es j i e e h more at_j at_i))
        | inr least ↦ omega arith
      ]
    ]

-- the edge of a key, its place, and where its keys end
pub record IsPlaced (level : ℕ) (es : List Edge) (ms : List Message) (k : List ℕ) (i : ℕ) (e : Edge) : Type 0 where
  pub inner : IsInner level es ms
  pub there : slice_get es i ≡ Some e
  pub edge : slice_get es i ≡ edge_of es k

pub placed : (n : Node) (level : ℕ) (es slice : List Edge) (ms : List Message) (k : List ℕ) (i : ℕ) (e : Edge) → IsShape n → n ≡ Inner level es ms → slice ≡ es → slice_get slice i ≡ edge_of slice k → i < length slice → e ≡ get_or slice i e
    → IsPlaced level es ms k i e
placed n level es slice ms k i e shape is same edge within there = record {
  inner = subst (λ (m : Node). IsShape m) is shape;
  there = subst (λ (l : List Edge). slice_get l i ≡ Some e) same (slice_get_read slice (length slice) i e refl within there);
  edge = subst (λ (l : List Edge). slice_get l i ≡ edge_of l k) same edge;
}

pub placed_range : (level : ℕ) (es : List Edge) (ms : List Message) (k : List ℕ) (i : ℕ) (e : Edge) → IsPlaced level es ms k i e → InRange e.pivot (end_before (drop (i + 1) es)) k
placed_range level es ms k i e h =
    let found = some_edge_at (λ (d : Edge) hi. (edge_of es k ≡ Some d) × InRange d.pivot hi k) es (edge_some level es ms h.inner k) in
    let is : found.1 ≡ e = same_Some found.1 e (sym found.3.0 ∙ sym h.edge ∙ h.there) in
    let place : i ≡ found.0 = one_place es i found.0 e (inner_rising level es ms h.inner) h.there (found.2 ∙ ap (λ (d : Edge). Some d) is) in
    let more : suc found.0 ≡ i + 1 = omega arith in
    subst (λ (j : ℕ). InRange e.pivot (end_before (drop j es)) k) more
    (subst (λ (d : Edge). InRange d.pivot (end_before (drop (suc found.0) es)) k) is found.3.1)

placed_only : (level : ℕ) (es : List Edge) (ms : List Message) (k : List ℕ) (i : ℕ) (e : Edge) → IsPlaced level es ms k i e → (l : List ℕ) → InRange e.pivot (end_before (drop (i + 1) es)) l → edge_of es l ≡ Some e
placed_only level es ms k i e h l within =
    let more : i + 1 ≡ suc i = omega arith in
    each_edge_at (λ (d : Edge) hi. InRange d.pivot hi l → edge_of es l ≡ Some d) es i e (edge_only level es ms h.inner l) h.there
    (subst (λ (j : ℕ). InRange e.pivot (end_before (drop j es)) l) more within)

placed_edge : (level : ℕ) (es : List Edge) (ms : List Message) (k : List ℕ) (i : ℕ) (e : Edge) → IsPlaced level es ms k i e → IsEdge (length ms) e (end_before (drop (i + 1) es))
placed_edge level es ms k i e h =
    let more : suc i ≡ i + 1 = omega arith in
    subst (λ (j : ℕ). IsEdge (length ms) e (end_before (drop j es))) more (each_edge_at (IsEdge (length ms)) es i e h.inner.each h.there)

pub placed_seen : (level : ℕ) (es : List Edge) (ms : List Message) (k : List ℕ) (i : ℕ) (e : Edge) → IsPlaced level es ms k i e → e.seen ≤ length ms
placed_seen level es ms k i e h = (placed_edge level es ms k i e h).seen

take_short : (n : ℕ) (k : List ℕ) → length (take n k) ≤ length k
take_short zero k = omega arith
take_short (suc n) [] = omega arith
take_short (suc n) (a ∷ k) = (let h : length (take n k) ≤ length k = take_short n k in omega arith)

way_of : (n : ℕ) (e : Edge) (hi : Option (List ℕ)) (lo : List ℕ) → IsEdge n e hi → IsKey lo → InRange e.pivot hi lo → IsWay e lo hi
way_of n e hi lo h is_lo within =
    let long : length (take e.lift e.pivot) ≡ e.lift = length-take e.lift e.pivot h.lift in
    let same : take e.lift lo ≡ take e.lift e.pivot = ap (λ (j : ℕ). take j lo) (sym long) ∙ h.common lo is_lo within in
    record {
      few = (let a : e.lift ≤ length e.pivot = h.lift in let b : length e.pivot ≤ key_limit = h.pivot in omega arith);
      long = (let a : length (take e.lift lo) ≡ e.lift = ap (λ (l : List ℕ). length l) same ∙ long in let b : length (take e.lift lo) ≤ length lo = take_short e.lift lo in omega arith);
      common = λ k is_k in_end. subst (λ (p : List ℕ). Begins k p) (sym same) (h.common k is_k (least_trans k lo e.pivot in_end.0 within.0, in_end.1));
    }

pub placed_way : (level : ℕ) (es : List Edge) (ms : List Message) (k : List ℕ) (i : ℕ) (e : Edge) → IsPlaced level es ms k i e → IsKey k → IsWay e k (end_before (drop (i + 1) es))
placed_way level es ms k i e h is_k = way_of (length ms) e (end_before (drop (i + 1) es)) k (placed_edge level es ms k i e h) is_k (placed_range level es ms k i e h)

pivot_end : (n : ℕ) (es : List Edge) → EachEdge (IsEdge n) es → IfSome (end_before es) (λ key. length key ≤ end_limit)
pivot_end n [] h = tt
pivot_end n (e ∷ es) h = (let a : length e.pivot ≤ key_limit = h.0.pivot in omega arith)

each_dropped : (P : Edge → Option (List ℕ) → Type 0) (j : ℕ) (es : List Edge) → EachEdge P es → EachEdge P (drop j es)
each_dropped P zero es h = h
each_dropped P (suc j) [] h = tt
each_dropped P (suc j) (e ∷ es) h = each_dropped P j es h.1

pub placed_end : (level : ℕ) (es : List Edge) (ms : List Message) (k : List ℕ) (i : ℕ) (e : Edge) → IsPlaced level es ms k i e → IsEnd k end_limit (end_before (drop (i + 1) es))
placed_end level es ms k i e h = record {
  above = (placed_range level es ms k i e h).1;
  short = pivot_end (length ms) (drop (i + 1) es) (each_dropped (IsEdge (length ms)) (i + 1) es h.inner.each);
}

-- what an edge says is what the node says
pub placed_stretch : (below : NodesAt) (level : ℕ) (es : List Edge) (ms : List Message) (k : List ℕ) (i : ℕ) (e : Edge) (s : Stretch) → IsPlaced level es ms k i e → IsKey k → EndsBy (end_before (drop (i + 1) es)) s
    → IsStretch below (edge_at below e ms) k s → IsStretch below (node_at below (Inner level es ms)) k s
placed_stretch below level es ms k i e s h is_k by said =
    let range : InRange e.pivot (end_before (drop (i + 1) es)) k = placed_range level es ms k i e h in
    stretch_from below (node_at below (Inner level es ms)) k (end_before (drop (i + 1) es)) s by is_k range.1
    (λ l is_l within.
    (edge_at below e ms, ap (λ o. Rattle.bd_node.specs.Nodes.through below o ms l) (placed_only level es ms k i e h l (least_trans l k e.pivot within.0 range.0, within.1)), said))

-- ---- the nodes that are asked

counted_front : (c : ℕ) (xs ys zs : List ℕ) → count_by (λ name. name == c) xs ≤ count_by (λ name. name == c) ys → count_by (λ name. name == c) (xs ++ zs) ≤ count_by (λ name. name == c) (ys ++ zs)
counted_front c xs ys zs le = omega (arith, sum_by-append (λ (x : ℕ). cond (x == c) 1 0) xs zs, sum_by-append (λ (x : ℕ). cond (x == c) 1 0) ys zs)

pub asks_more : (xs ys : List ℕ) (s : Stretch) → ((c : ℕ) → count_by (λ name. name == c) xs ≤ count_by (λ name. name == c) ys) → AsksOneOf xs s → AsksOneOf ys s
asks_more xs ys (Present part) more h = named_more xs ys part.base more h
asks_more xs ys (Run entries) more h = tt
asks_more xs ys (Absent end) more h = tt
asks_more xs ys (Child end child lift source) more h = (let m : count_by (λ name. name == child) xs ≤ count_by (λ name. name == child) ys = more child in omega arith)

pub asks_of_message : (ns : List ℕ) (ms : List Message) (i : ℕ) (m : Message) (s : Stretch) → slice_get ms i ≡ Some m → AsksOneOf (message_names m) s → AsksOneOf (ns ++ flat_map message_names ms) s
asks_of_message ns ms i m s there h =
    asks_more (message_names m) (ns ++ flat_map message_names ms) s
    (λ c. (let a : count_by (λ name. name == c) (message_names m) ≤ count_by (λ name. name == c) (flat_map message_names ms) = message_counted ms i m c there in
    let b : count_by (λ name. name == c) (flat_map message_names ms) ≤ count_by (λ name. name == c) (ns ++ flat_map message_names ms) = counted_second c ns (flat_map message_names ms) in omega arith)) h

pub asks_of_edge : (ns more : List ℕ) (s : Stretch) → AsksOneOf ns s → AsksOneOf (ns ++ more) s
asks_of_edge ns more s h = asks_more ns (ns ++ more) s (λ c. counted_first c ns more) h

pub asks_of_node : (es : List Edge) (ms : List Message) (k : List ℕ) (e : Edge) (s : Stretch) → edge_of es k ≡ Some e → AsksOneOf (edge_names e ++ flat_map message_names ms) s → AsksOneOf (flat_map edge_names es ++ flat_map message_names ms) s
asks_of_node es ms k e s there h =
    asks_more (edge_names e ++ flat_map message_names ms) (flat_map edge_names es ++ flat_map message_names ms) s
    (λ c. counted_front c (edge_names e) (flat_map edge_names es) (flat_map message_names ms) (edge_of_counted es k e c there)) h
