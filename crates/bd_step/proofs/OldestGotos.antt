-- The oldest Goto that is pending for an edge, and may not go down it.
use Rattle.std.proofs.Common.{◌≡◌, ℕ, zero, suc, ◌+◌, ◌<◌, ◌≤◌, List, [], ◌∷◌, length, drop, refl, sym, ap, subst, ◌∙◌, Option, None, Some, arith, inl, inr, get_or}
use Rattle.std.specs.Prelude.{slice_get, MatchOption, IfSome}
use Rattle.std.specs.List.{AllByRecursion, flat_map}
use Rattle.std.proofs.lemmas.Bool.{cases_lt}
use Rattle.std.proofs.lemmas.Option.{same_Some, none-some, slice_get_within}
use Rattle.bd_message.specs.declared.message.Message.{Message}
use Rattle.bd_node.specs.declared.node.Edge.{Edge}
use Rattle.bd_node.specs.declared.node.Node.{Node}
use Rattle.bd_node.specs.Nodes.{message_names, names}
use Rattle.bd_node.specs.Shape.{end_before}
use Rattle.bd_node.specs.Tables.{Table, IsKept, IsLower, IsNodeOf}
use Rattle.bd_node.proofs.Lookup.{each_weaker, each_first, each_second}
use Rattle.bd_node.specs.Parts.{buffer_of, end_at, IsEdgeAt}
use Rattle.bd_flush.specs.GoingDown.{GoesDown, child_level}
use Rattle.bd_flush.specs.Pushing.{AllGoDown}
use Rattle.bd_flush.specs.Carving.{IsHeldGoto, IsFreeAt, AreFree, IsOldestGoto, IsOldestAt}
use Rattle.bd_node.proofs.Parts.{edge_here}
use Rattle.bd_flush.proofs.Pushed.{buffer_lower}
use Rattle.bd_step.proofs.Reading.{IsRead, read_end}

-- each message before a place that is pending for the edge may go down it
abbrev pub FreeBefore : (ℕ → ℕ) → ℕ → List Message → Edge → Option (List ℕ) → ℕ → Type 0
FreeBefore level top buffer e hi n = (i : ℕ) (m : Message) → i < n → slice_get buffer i ≡ Some m → IsFreeAt level top i m e hi

-- one message further
pub free_more : (level : ℕ → ℕ) (top : ℕ) (buffer : List Message) (e : Edge) (hi : Option (List ℕ)) (i : ℕ) (m : Message) → FreeBefore level top buffer e hi i → slice_get buffer i ≡ Some m → IsFreeAt level top i m e hi → FreeBefore level top buffer e hi (i + 1)
free_more level top buffer e hi i m before there own j x low at_j =
    elim (cases_lt j i) [
      | inl earlier ↦ before j x earlier at_j
      | inr later ↦
          let same : i ≡ j = omega arith in
          let is : m ≡ x = same_Some m x (sym there ∙ ap (λ (n : ℕ). slice_get buffer n) same ∙ at_j) in
          subst (λ (y : Message). IsFreeAt level top j y e hi) is (subst (λ (n : ℕ). IsFreeAt level top n m e hi) same own)
    ]

pub first_found : (level : ℕ → ℕ) (top : ℕ) (buffer : List Message) (e : Edge) (hi : Option (List ℕ)) (i : ℕ) (m : Message) → FreeBefore level top buffer e hi i → slice_get buffer i ≡ Some m → IsHeldGoto level top i m e hi → IsOldestGoto level top buffer e hi i
first_found level top buffer e hi i m before there held = record { message = m; there = there; held = held; oldest = before }

pub none_found : (level : ℕ → ℕ) (top : ℕ) (buffer : List Message) (e : Edge) (hi : Option (List ℕ)) (n : ℕ) → FreeBefore level top buffer e hi n → length buffer ≤ n → AreFree level top buffer e hi
none_found level top buffer e hi n before long i m there = before i m (let low : i < length buffer = slice_get_within buffer i m there in omega arith) there

-- the names of one message are among those of all
pub message_named : (P : ℕ → Type 0) (ms : List Message) (i : ℕ) (m : Message) → AllByRecursion P (flat_map message_names ms) → i < length ms → m ≡ get_or ms i m → AllByRecursion P (message_names m)
message_named P [] i m h low is = absurd (omega arith)
message_named P (x ∷ ms) zero m h low is = subst (λ (y : Message). AllByRecursion P (message_names y)) (sym is) (each_first P (message_names x) (flat_map message_names ms) h)
message_named P (x ∷ ms) (suc i) m h low is = message_named P ms i m (each_second P (message_names x) (flat_map message_names ms) h) (omega arith) is

-- ---- where there is none, each message may go down

-- of the messages from a place on
free_from : (level : ℕ → ℕ) (top : ℕ) (e : Edge) (hi : Option (List ℕ)) (xs : List Message) (start : ℕ) → e.seen ≤ start → ((i : ℕ) (m : Message) → slice_get xs i ≡ Some m → IsFreeAt level top (start + i) m e hi) → AllByRecursion (GoesDown level top e hi) xs
free_from level top e hi [] start low h = tt
free_from level top e hi (x ∷ xs) start low h = (
  λ can. h 0 x refl (omega arith, can),
  free_from level top e hi xs (suc start) (omega arith) (λ i m there. subst (λ (n : ℕ). IsFreeAt level top n m e hi) (let z : start + suc i ≡ suc start + i = omega arith in z) (h (suc i) m there)),
)

dropped_at : (buffer : List Message) (n i : ℕ) (m : Message) → slice_get (drop n buffer) i ≡ Some m → slice_get buffer (n + i) ≡ Some m
dropped_at buffer zero i m there = ap (λ (j : ℕ). slice_get buffer j) (let z : 0 + i ≡ i = omega arith in z) ∙ there
dropped_at [] (suc n) i m there = absurd (none-some m there)
dropped_at (x ∷ xs) (suc n) i m there =
    ap (λ (j : ℕ). slice_get (x ∷ xs) j) (let z : suc n + i ≡ suc (n + i) = omega arith in z) ∙ dropped_at xs n i m there

all_free : (level : ℕ → ℕ) (top : ℕ) (buffer : List Message) (e : Edge) (hi : Option (List ℕ)) → AreFree level top buffer e hi → AllByRecursion (GoesDown level top e hi) (drop e.seen buffer)
all_free level top buffer e hi h =
    free_from level top e hi (drop e.seen buffer) e.seen (omega arith) (λ i m there. h (e.seen + i) m (dropped_at buffer e.seen i m there))

-- ---- of a node

-- the nodes that its messages name are kept
pub names_kept : (t : Table) (level : ℕ) (n : Node) (buffer : List Message) → IsNodeOf t level n → buffer ≡ buffer_of n → AllByRecursion (IsKept t) (flat_map message_names buffer)
names_kept t level n buffer own same =
    subst (λ (l : List Message). AllByRecursion (IsKept t) (flat_map message_names l)) (sym same)
    (buffer_lower (IsKept t) n (each_weaker (IsLower t level) (IsKept t) (λ x lower. lower.kept) (names n) own.lower))

-- the child's level, as it is read
pub level_read : (level : ℕ → ℕ) (o : Option ℕ) (child top : ℕ) → o ≡ Some child → top ≡ level child → top ≡ child_level level o
level_read level o child top is read = read ∙ sym (ap (λ (x : Option ℕ). child_level level x) is)

pub level_none : (level : ℕ → ℕ) (o : Option ℕ) (top : ℕ) → o ≡ None → top ≡ 0 → top ≡ child_level level o
level_none level o top is read = read ∙ sym (ap (λ (x : Option ℕ). child_level level x) is)

pub none_of : (level : ℕ → ℕ) (top : ℕ) (n : Node) (place : ℕ) (e : Edge) (es : List Edge) (buffer : List Message) (hi : Option (List ℕ)) → IsRead n place e es → hi ≡ end_before (drop (place + 1) es) → buffer ≡ buffer_of n → top ≡ child_level level e.child → AreFree level top buffer e hi
    → (d : Edge) → IsEdgeAt n place d → AllGoDown level (child_level level d.child) n place d
none_of level top n place e es buffer hi h end same top_is free d here =
    subst (λ (x : Edge). AllGoDown level (child_level level x.child) n place x) (same_Some e d (sym (edge_here es n place e h.same h.low h.read) ∙ here))
    (all_free level (child_level level e.child) (buffer_of n) e (end_at n place)
    (subst (λ (x : ℕ). AreFree level x (buffer_of n) e (end_at n place)) top_is
    (subst (λ (o : Option (List ℕ)). AreFree level top (buffer_of n) e o) (read_end n place e es hi h end) (subst (λ (l : List Message). AreFree level top l e hi) same free))))

pub oldest_of : (level : ℕ → ℕ) (top : ℕ) (n : Node) (place : ℕ) (e : Edge) (es : List Edge) (buffer : List Message) (hi : Option (List ℕ)) (index : ℕ) → IsRead n place e es → hi ≡ end_before (drop (place + 1) es) → buffer ≡ buffer_of n → top ≡ child_level level e.child → IsOldestGoto level top buffer e hi index
    → (d : Edge) → IsEdgeAt n place d → IsOldestAt level n place d index
oldest_of level top n place e es buffer hi index h end same top_is found d here =
    subst (λ (x : Edge). IsOldestAt level n place x index) (same_Some e d (sym (edge_here es n place e h.same h.low h.read) ∙ here))
    (subst (λ (x : ℕ). IsOldestGoto level x (buffer_of n) e (end_at n place) index) top_is
    (subst (λ (o : Option (List ℕ)). IsOldestGoto level top (buffer_of n) e o index) (read_end n place e es hi h end) (subst (λ (l : List Message). IsOldestGoto level top l e hi index) same found)))

-- what is found, where there may be none
pub on_none : (level : ℕ → ℕ) (top : ℕ) (n : Node) (place : ℕ) (e : Edge) (es : List Edge) (buffer : List Message) (hi : Option (List ℕ)) (r : Option ℕ) → IsRead n place e es → hi ≡ end_before (drop (place + 1) es) → buffer ≡ buffer_of n → top ≡ child_level level e.child
    → MatchOption r (AreFree level top buffer e hi) (IsOldestGoto level top buffer e hi) → r ≡ None → (d : Edge) → IsEdgeAt n place d → AllGoDown level (child_level level d.child) n place d
on_none level top n place e es buffer hi None h end same top_is found none = none_of level top n place e es buffer hi h end same top_is found
on_none level top n place e es buffer hi (Some index) h end same top_is found none = absurd (none-some index (sym none))

pub on_some : (level : ℕ → ℕ) (top : ℕ) (n : Node) (place : ℕ) (e : Edge) (es : List Edge) (buffer : List Message) (hi : Option (List ℕ)) (r : Option ℕ) → IsRead n place e es → hi ≡ end_before (drop (place + 1) es) → buffer ≡ buffer_of n → top ≡ child_level level e.child
    → MatchOption r (AreFree level top buffer e hi) (IsOldestGoto level top buffer e hi) → IfSome r (λ index. (d : Edge) → IsEdgeAt n place d → IsOldestAt level n place d index)
on_some level top n place e es buffer hi None h end same top_is found = tt
on_some level top n place e es buffer hi (Some index) h end same top_is found = oldest_of level top n place e es buffer hi index h end same top_is found
