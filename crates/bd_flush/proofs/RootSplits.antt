-- A node that is put above its halves: the root that is split, or a child between its parent and its
-- halves, where the nodes above rise.
use Rattle.std.proofs.Common.{◌≡◌, ℕ, Bool, ◌+◌, ◌-◌, ◌^◌, ◌<◌, ◌≤◌, List, [], ◌∷◌, length, map, refl, sym, ap, subst, ◌∙◌, Option, None, Some, MatchOption, arith, inl, inr, IsSome, Result, Ok, Err, OnOk, ◌⊎◌}
use Rattle.std.specs.Prelude.{slice_get}
use Rattle.std.specs.List.{AllByRecursion}
use Rattle.std.specs.Ordering.{is_lt}
use Rattle.std.proofs.lemmas.Bool.{cases_lt, cases_eq, cases_Bool, cond-true, cond-false}
use Rattle.std.proofs.lemmas.Option.{none-some}
use Rattle.bd_limits.specs.Limits.{key_limit, level_limit}
use Rattle.bd_keys.specs.Keys.{IsKey, IsBelow, IsAtLeast, key_cmp}
use Rattle.bd_message.specs.declared.fault.MapFault.TheVariants.{Worn}
use Rattle.bd_message.specs.declared.fault.Counter.TheVariants.{NextId}
use Rattle.bd_message.specs.KeyMaps.{HasMapCause}
use Rattle.bd_message.specs.Effect.{NodesAt}
use Rattle.bd_node.specs.declared.node.Edge.{Edge}
use Rattle.bd_node.specs.declared.node.Node.{Node}
use Rattle.bd_node.specs.declared.node.Change.{Change}
use Rattle.bd_node.specs.declared.node.Step.{Step}
use Rattle.bd_node.specs.Nodes.{level_of, buffer_size, names, times, through, node_at, node_has}
use Rattle.bd_node.specs.Meaning.{Nodes, at, found_at}
use Rattle.bd_node.specs.Shape.{IsShape}
use Rattle.bd_node.specs.Tables.{Table, IsKept, IsTable, IsLower, IsNodeOf, IsSound}
use Rattle.bd_node.specs.Steps.{given, level_or, IsStep, IsInPlace, IsTableAfter, IsCommitted}
use Rattle.bd_node.proofs.Lookup.{Agree, each_weaker, each_named, named_has, node_has-key, count-cons_same, count-cons_le}
use Rattle.bd_node.proofs.Meanings.{at-meets}
use Rattle.bd_node.proofs.Sound.{sound-levelled, named_lower}
use Rattle.bd_node.proofs.Stepping.{by_given, given-old}
use Rattle.bd_node.proofs.Edges.{less_lt, lt_is, lt_isnt, not_less_lt}
use Rattle.bd_inner.specs.declared.halves.Halves.{Halves}
use Rattle.bd_inner.specs.Halves.{IsHalf, AreHalves}
use Rattle.bd_path.specs.declared.fetching.Fetched.{Fetched}
use Rattle.bd_path.specs.Flushed.{IsFlushed, IsHardlyHigher}
use Rattle.bd_path.specs.Made.{IsWornFor}
use Rattle.bd_path.proofs.Made.{no_ids}
use Rattle.bd_path.specs.Flushed.LeadsTo.{itself}
use Rattle.bd_path.specs.Fetching.{IsFetched, IsEdgeTo, IsContents}
use Rattle.bd_path.specs.Paths.{path_step}
use Rattle.bd_flush.specs.Splitting.{plain_edge, over_two, over_step, IsRootSplit, IsRaised}
use Rattle.bd_path.specs.Raising.{raised, raise, IsWayUp, IsRising}
use Rattle.bd_path.specs.Raising.IsWayUp.{top}
use Rattle.bd_path.specs.Raising.IsRising.{at_top}
use Rattle.bd_path.proofs.EdgesAt.{edge_named}
use Rattle.bd_path.proofs.PathSteps.{IsMadeUnder, IsUpper, IsPathStep, RisesByOne, given_child, each_change, has_made, has_path, made_new, path_child, path_old, both_ways, IsPathStepOf, path_may, path_in_place, path_flushed, root_rises}
use Rattle.bd_path.proofs.RisingSteps.{raised_size, way_private, rising_rises, rising_uppers, rising_once, IsChangedBy, changed_more, all_changed, has_room, rising_of}

-- ---- a node over two others

pub over_shape : (level : ℕ) (pivot : List ℕ) (a b : ℕ) → 1 ≤ level → level ≤ level_limit → IsBelow [] pivot → length pivot ≤ key_limit → (1 ≤ a) × (a < 2 ^ 64) → (1 ≤ b) × (b < 2 ^ 64) → IsShape (over_two level pivot a b)
over_shape level pivot a b low high some short child_a child_b = record {
  low = low;
  high = high;
  few = omega arith;
  first = refl;
  each = (
    record { pivot = omega arith; rising = some; lift = omega arith; common = λ k key range. refl; source = omega arith; child = child_a; seen = omega arith },
    (
      record { pivot = short; rising = tt; lift = omega arith; common = λ k key range. refl; source = omega arith; child = child_b; seen = omega arith },
      tt,
    ),
  );
  messages = tt;
  size = omega arith;
  pending = λ place m there. absurd (none-some m there);
}

pub over_names : (level : ℕ) (pivot : List ℕ) (a b : ℕ) → names (over_two level pivot a b) ≡ a ∷ b ∷ []
over_names level pivot a b = refl

-- below the pivot the first one is asked, and else the second
pub over_low : (has : NodesAt) (level : ℕ) (pivot : List ℕ) (a b : ℕ) (k : List ℕ) → IsBelow k pivot → node_at has (over_two level pivot a b) k ≡ has a k
over_low has level pivot a b k below =
    ap (λ (e : Edge). through has (Some e) [] k) (cond-true (is_lt (key_cmp k pivot)) (plain_edge [] a) (plain_edge pivot b) (less_lt (key_cmp k pivot) below))

pub over_high : (has : NodesAt) (level : ℕ) (pivot : List ℕ) (a b : ℕ) (k : List ℕ) → IsAtLeast k pivot → node_at has (over_two level pivot a b) k ≡ has b k
over_high has level pivot a b k least =
    ap (λ (e : Edge). through has (Some e) [] k) (cond-false (is_lt (key_cmp k pivot)) (plain_edge [] a) (plain_edge pivot b) (not_less_lt (key_cmp k pivot) least))

-- ---- the step

-- a node, below those of a way, the nearest first, that is put above its halves
pub record IsSplit (t : Table) (c : ℕ) (n : Node) (halves : Halves) (way rising : List Fetched) : Type 0 where
  pub table : IsTable t
  pub up : IsWayUp t c way
  pub kept : IsKept t c
  pub own : IsNodeOf t (t.level c) n
  pub level : level_of n < level_limit
  pub next : t.next + 1 < 2 ^ 64
  pub are : AreHalves n halves
  pub rise : IsRising (level_of n + 1) way rising

abbrev the_top : Table → Node → Halves → Node
the_top t n halves = over_two (level_of n + 1) halves.pivot t.next (t.next + 1)

abbrev pub both : Halves → List Node
both halves = halves.first ∷ halves.second ∷ []

abbrev the_step : Table → ℕ → Node → Halves → List Fetched → Step
the_step t c n halves rising = path_step t.root c (the_top t n halves) (map raise rising) (both halves)

pub times_first : (level : ℕ) (pivot : List ℕ) (a b : ℕ) → 1 ≤ times (over_two level pivot a b) a
times_first level pivot a b = omega (arith, count-cons_same a (b ∷ []))

pub times_second : (level : ℕ) (pivot : List ℕ) (a b : ℕ) → 1 ≤ times (over_two level pivot a b) b
times_second level pivot a b = omega (arith, count-cons_le a b (b ∷ []), count-cons_same b [])

pub times_made : (level : ℕ) (pivot : List ℕ) (next id : ℕ) → next ≤ id → id < next + 2 → 1 ≤ times (over_two level pivot next (next + 1)) id
times_made level pivot next id high low =
    elim (cases_lt next id) [
      | inl later ↦ subst (λ (i : ℕ). 1 ≤ times (over_two level pivot next (next + 1)) i) (let z : next + 1 ≡ id = omega arith in z) (times_second level pivot next (next + 1))
      | inr here ↦ subst (λ (i : ℕ). 1 ≤ times (over_two level pivot next (next + 1)) i) (let z : next ≡ id = omega arith in z) (times_first level pivot next (next + 1))
    ]

half_lower : (t : Table) (c : ℕ) (n : Node) (own : List ℕ → Type 0) (half : Node) → IsNodeOf t (t.level c) n → IsHalf n own half → (x : ℕ) → 1 ≤ times half x → IsLower t (t.level c) x
half_lower t c n own half node is x one =
    let most : times half x ≤ times n x = is.names x in
    named_has (IsLower t (t.level c)) x (names n) node.lower (omega arith)

half_made : (t : Table) (c : ℕ) (n : Node) (halves : Halves) (way rising : List Fetched) (own : List ℕ → Type 0) (half : Node) → IsSplit t c n halves way rising → IsHalf n own half → IsMadeUnder t (level_of n + 1) c half
half_made t c n halves way rising own half h is =
    let same : level_of half ≡ level_of n = is.level_is in
    let level : level_of n ≡ t.level c = h.own.level_is in
    record {
      shape = is.shape;
      low = omega arith;
      under = omega arith;
      named = λ x one. subst (λ (l : ℕ). IsLower t l x) (sym (same ∙ level)) (half_lower t c n own half h.own is x one);
    }

top_shape : (t : Table) (c : ℕ) (n : Node) (halves : Halves) (way rising : List Fetched) → IsSplit t c n halves way rising → IsShape (the_top t n halves)
top_shape t c n halves way rising h =
    let some : 1 ≤ t.root = h.table.low t.root h.table.root in
    let below : t.root < t.next = h.table.below t.root h.table.root in
    let next : t.next + 1 < 2 ^ 64 = h.next in
    let low : level_of n < level_limit = h.level in
    over_shape (level_of n + 1) halves.pivot t.next (t.next + 1) (omega arith) (omega arith) h.are.some h.are.short (omega arith, omega arith) (omega arith, omega arith)

top_rises : (t : Table) (c : ℕ) (n : Node) (halves : Halves) (way rising : List Fetched) → IsSplit t c n halves way rising → RisesByOne t (record { id = c; node = the_top t n halves })
top_rises t c n halves way rising h = let level : level_of n ≡ t.level c = h.own.level_is in (omega arith, omega arith)

over_path : (t : Table) (c : ℕ) (n : Node) (halves : Halves) (way rising : List Fetched) → IsSplit t c n halves way rising → IsPathStep t c (the_top t n halves) (map raise rising) (both halves)
over_path t c n halves way rising h =
    let level : level_of n ≡ t.level c = h.own.level_is in
    record {
      table = h.table;
      child = h.kept;
      shape = top_shape t c n halves way rising h;
      low = omega arith;
      high = omega arith;
      named = λ x one.
          named_has (λ y. IsLower t (t.level c) y ⊎ ((t.next ≤ y) × (y < t.next + 2))) x (t.next ∷ (t.next + 1) ∷ [])
          (inr (omega arith, omega arith), (inr (omega arith, omega arith), tt)) one;
      top = level_of n + 1;
      under = λ x high one. omega arith;
      made_are = (
        half_made t c n halves way rising (λ k. IsBelow k halves.pivot) halves.first h h.are.lower,
        (half_made t c n halves way rising (λ k. IsAtLeast k halves.pivot) halves.second h h.are.upper, tt),
      );
      used = λ x high low. inl (times_made (level_of n + 1) halves.pivot t.next x high low);
      uppers_are = rising_uppers t c (the_top t n halves) (map raise rising) (both halves) c (level_of n + 1) way rising h.table (top_rises t c n halves way rising h)
          (rising_rises t c (level_of n + 1) way rising h.rise h.up) (omega arith) h.rise h.up;
      once = rising_once t c (level_of n + 1) way rising h.rise h.up;
    }

pub split_step : (t : Table) (c : ℕ) (n : Node) (halves : Halves) (way rising : List Fetched) → IsSplit t c n halves way rising → IsStep t (the_step t c n halves rising)
split_step t c n halves way rising h = path_may t c (the_top t n halves) (map raise rising) (both halves) (over_path t c n halves way rising h)

-- ---- of sound nodes

-- a node to be put above its halves, of known nodes
pub record IsSplitOf (nodes : Nodes) (t : Table) (c : ℕ) (n : Node) (halves : Halves) (way rising : List Fetched) : Type 0 where
  pub split : IsSplit t c n halves way rising
  pub sound : IsSound nodes t
  pub there : nodes c ≡ Some n
  pub stand : AllByRecursion (IsContents nodes) way

-- what holds of the changes of fetched nodes, and the other way round
each_raise : (P : Change → Type 0) (fs : List Fetched) → AllByRecursion (λ (f : Fetched). P (raise f)) fs → AllByRecursion P (map raise fs)
each_raise P [] h = tt
each_raise P (f ∷ fs) h = (h.0, each_raise P fs h.1)

from_raise : (P : Change → Type 0) (fs : List Fetched) → AllByRecursion P (map raise fs) → AllByRecursion (λ (f : Fetched). P (raise f)) fs
from_raise P [] h = tt
from_raise P (f ∷ fs) h = (h.0, from_raise P fs h.1)

each_given : (t : Table) (c : ℕ) (h : Node) (uppers : List Change) (made : List Node) (fs : List Fetched) → AllByRecursion (λ (f : Fetched). f.id < t.next) fs → AllByRecursion (IsChangedBy uppers) fs → AllByRecursion (λ (f : Fetched). IsSome (given t.next (path_step t.root c h uppers made) f.id)) fs
each_given t c h uppers made [] low changed = tt
each_given t c h uppers made (f ∷ fs) low changed = (
  subst (λ (o : Option Node). IsSome o) (sym (given-old t.next (path_step t.root c h uppers made) f.id low.0)) (changed_more (record { id = c; node = h }) uppers f changed.0),
  each_given t c h uppers made fs low.1 changed.1,
)

all_given : (t : Table) (c : ℕ) (n : Node) (halves : Halves) (way rising : List Fetched) → IsSplit t c n halves way rising → AllByRecursion (λ (f : Fetched). IsSome (given t.next (the_step t c n halves rising) f.id)) rising
all_given t c n halves way rising h =
    each_given t c (the_top t n halves) (map raise rising) (both halves) rising
    (from_raise (λ (u : Change). u.id < t.next) rising
    (each_weaker (IsUpper t (the_step t c n halves rising) c) (λ (u : Change). u.id < t.next) (λ u own. h.table.below u.id own.kept) (map raise rising) (over_path t c n halves way rising h).uppers_are))
    (all_changed rising)

made_first : (nodes : Nodes) (next : ℕ) (halves : Halves) (k : List ℕ) → has_made nodes next (both halves) next k ≡ node_has (at nodes) halves.first k
made_first nodes next halves k =
    made_new nodes next (both halves) next (omega arith) k
    ∙ ap (λ (i : ℕ). found_at (at nodes) (slice_get (both halves) i) k) (let z : next - next ≡ 0 = omega arith in z)

made_second : (nodes : Nodes) (next : ℕ) (halves : Halves) (k : List ℕ) → has_made nodes next (both halves) (next + 1) k ≡ node_has (at nodes) halves.second k
made_second nodes next halves k =
    made_new nodes next (both halves) (next + 1) (omega arith) k
    ∙ ap (λ (i : ℕ). found_at (at nodes) (slice_get (both halves) i) k) (let z : next + 1 - next ≡ 1 = omega arith in z)

-- the node over both has what the whole had
pub two_have : (nodes : Nodes) (next level : ℕ) (m : Node) (halves : Halves) → AreHalves m halves → (k : List ℕ) → IsKey k → node_at (has_made nodes next (both halves)) (over_two level halves.pivot next (next + 1)) k ≡ node_at (at nodes) m k
two_have nodes next level m halves are k key =
    let has : NodesAt = has_made nodes next (both halves) in
    elim (cases_Bool (is_lt (key_cmp k halves.pivot))) [
      | inl less ↦
          over_low has level halves.pivot next (next + 1) k (lt_is (key_cmp k halves.pivot) less)
          ∙ made_first nodes next halves k
          ∙ node_has-key (at nodes) halves.first k key
          ∙ are.lower.meaning (at nodes) k (lt_is (key_cmp k halves.pivot) less)
      | inr more ↦
          over_high has level halves.pivot next (next + 1) k (lt_isnt (key_cmp k halves.pivot) more)
          ∙ made_second nodes next halves k
          ∙ node_has-key (at nodes) halves.second k key
          ∙ are.upper.meaning (at nodes) k (lt_isnt (key_cmp k halves.pivot) more)
    ]

at_node : (nodes : Nodes) (t : Table) (id : ℕ) (n : Node) → IsSound nodes t → nodes id ≡ Some n → (k : List ℕ) → IsKey k → at nodes id k ≡ node_at (at nodes) n k
at_node nodes t id n s there k key = (at-meets nodes (sound-levelled nodes t s)).each id n there k ∙ node_has-key (at nodes) n k key

-- so it keeps what it had
top_keeps : (nodes : Nodes) (t : Table) (c : ℕ) (n : Node) (halves : Halves) (way rising : List Fetched) → IsSplitOf nodes t c n halves way rising → (k : List ℕ)
    → has_path nodes t.next c (the_top t n halves) (both halves) c k ≡ at nodes c k
top_keeps nodes t c n halves way rising b k =
    path_child nodes t.next c (the_top t n halves) (both halves) k
    ∙ sym (both_ways nodes (has_made nodes t.next (both halves)) c (the_top t n halves)
    (λ l key. two_have nodes t.next (level_of n + 1) n halves b.split.are l key ∙ sym (at_node nodes t c n b.sound b.there l key)) k)

over_of : (nodes : Nodes) (t : Table) (c : ℕ) (n : Node) (halves : Halves) (way rising : List Fetched) → IsSplitOf nodes t c n halves way rising → IsPathStepOf nodes t c (the_top t n halves) (map raise rising) (both halves)
over_of nodes t c n halves way rising b =
    let step : Step = the_step t c n halves rising in
    let has : NodesAt = has_path nodes t.next c (the_top t n halves) (both halves) in
    let changed = all_given t c n halves way rising b.split in
    let keeps : (k : List ℕ) → has c k ≡ at nodes c k = top_keeps nodes t c n halves way rising b in
    record {
      step = over_path t c n halves way rising b.split;
      sound = b.sound;
      private = way_private nodes t c way b.sound b.split.up b.stand;
      room = has_room nodes t step c (level_of n + 1) (the_top t n halves) way rising refl b.sound b.split.rise b.split.up b.stand changed;
      moves = inl keeps;
      uppers_of = rising_of nodes t c (the_top t n halves) (map raise rising) (both halves) c (level_of n + 1) way rising b.sound itself b.split.rise b.split.up b.stand changed
          (λ q m at_q more. each_named (Agree has (at nodes)) (names m) (λ x one.
          elim (cases_eq x c) [
            | inl same ↦ (λ k. ap (λ (i : ℕ). has i k) same ∙ keeps k ∙ ap (λ (i : ℕ). at nodes i k) (sym same))
            | inr other ↦ path_old nodes t.next c (the_top t n halves) (both halves) x other (b.sound.table.below x (named_lower nodes t b.sound q m at_q x one).kept)
          ]));
    }

pub split_in_place : (nodes : Nodes) (t : Table) (c : ℕ) (n : Node) (halves : Halves) (way rising : List Fetched) → IsSplitOf nodes t c n halves way rising → IsInPlace nodes t (the_step t c n halves rising)
split_in_place nodes t c n halves way rising b = path_in_place nodes t c (the_top t n halves) (map raise rising) (both halves) (over_of nodes t c n halves way rising b)

-- ---- what the step leaves

-- the step was made
pub record IsMade (nodes : Nodes) (t : Table) (c : ℕ) (n : Node) (halves : Halves) (way rising : List Fetched) (new : Nodes) (u : Table) : Type 0 where
  pub of : IsSplitOf nodes t c n halves way rising
  pub after : IsTableAfter t (the_step t c n halves rising) u
  pub committed : IsCommitted nodes t (the_step t c n halves rising) new u

pub flushed : (nodes : Nodes) (t : Table) (c : ℕ) (n : Node) (halves : Halves) (way rising : List Fetched) (new : Nodes) (u : Table) → IsMade nodes t c n halves way rising new u → IsFlushed nodes t new u
flushed nodes t c n halves way rising new u h =
    path_flushed nodes t c (the_top t n halves) (map raise rising) (both halves) new u (record { of = over_of nodes t c n halves way rising h.of; after = h.after; committed = h.committed }) (omega arith)

-- the root's level, and the size of what waits in it
pub over_higher : (t : Table) (c : ℕ) (n : Node) (halves : Halves) (way rising : List Fetched) (u : Table) → IsSplit t c n halves way rising → IsTableAfter t (the_step t c n halves rising) u
    → AllByRecursion (λ (f : Fetched). f.id ≡ t.root → buffer_size f.node.value ≤ t.size) rising → IsHardlyHigher t u
over_higher t c n halves way rising u h after fits =
    let step : Step = the_step t c n halves rising in
    let low : t.root < t.next = h.table.below t.root h.table.root in
    let both_ends = root_rises t c (the_top t n halves) (map raise rising) (both halves) u (over_path t c n halves way rising h) after in
    record {
      root = after.root;
      low = both_ends.0;
      high = both_ends.1;
      size = by_given (u.size ≤ t.size) (given t.next step t.root)
          (λ none. (let same : u.size ≡ t.size = after.same_size none refl in omega arith))
          (λ m some. (let is : u.size ≡ buffer_size m = after.size m some in
          let few : buffer_size m ≤ t.size = each_change (λ (d : Change). d.id ≡ t.root → buffer_size d.node ≤ t.size) t c (the_top t n halves) (map raise rising) (both halves) t.root m (λ same. (omega arith))
          (each_raise (λ (d : Change). d.id ≡ t.root → buffer_size d.node ≤ t.size) rising
          (each_weaker (λ (f : Fetched). f.id ≡ t.root → buffer_size f.node.value ≤ t.size) (λ (f : Fetched). f.id ≡ t.root → buffer_size (raised f.node.value) ≤ t.size) (λ f own same. (let l : buffer_size f.node.value ≤ t.size = own same in omega (arith, raised_size f.node.value))) rising fits))
          low some refl in
          omega arith));
    }

-- ---- the given nodes are there

pub given_top : (t : Table) (c : ℕ) (n : Node) (halves : Halves) (way rising : List Fetched) → IsSplit t c n halves way rising → given t.next (the_step t c n halves rising) c ≡ Some (the_top t n halves)
given_top t c n halves way rising h =
    given_child t c (the_top t n halves) (map raise rising) (both halves) (h.table.below c h.kept)

-- a node of the way is above the one that it names
pub up_lower : (t : Table) (f : Fetched) (place c : ℕ) (e : Edge) → IsFetched t f → IsEdgeTo f.node.value place c e → IsLower t (t.level f.id) c
up_lower t f place c e fetched way = named_has (IsLower t (t.level f.id)) c (names f.node.value) fetched.own.lower (edge_named f.node.value place c e fetched.own.shape way)

-- ---- the root's split

root_raised : (t : Table) (n : Node) (halves : Halves) (u : Table) → IsSplit t t.root n halves [] [] → IsTableAfter t (over_step t.root t.next t.root (level_of n + 1) halves []) u → IsRaised t u
root_raised t n halves u h after =
    let step : Step = over_step t.root t.next t.root (level_of n + 1) halves [] in
    let is : given t.next step t.root ≡ Some (over_two (level_of n + 1) halves.pivot t.next (t.next + 1)) = given_top t t.root n halves [] [] h in
    record {
      root = after.root;
      level =
          ap u.level after.root
          ∙ after.level t.root (subst (λ (r : ℕ). IsKept u r) after.root after.table.root)
          ∙ ap (λ (o : Option Node). level_or o (t.level t.root)) is
          ∙ ap (λ l. l + 1) h.own.level_is;
      size = after.size (over_two (level_of n + 1) halves.pivot t.next (t.next + 1)) is;
      next = after.next;
    }

-- a root to split, and the step
pub record IsToSplit (t : Table) (n : Node) (step : Step) : Type 0 where
  pub table : IsTable t
  pub own : IsNodeOf t (t.level t.root) n
  pub level : level_of n < level_limit
  pub next : t.next + 1 < 2 ^ 64
  pub split : IsRootSplit t n step

to_split : (t : Table) (n : Node) (step : Step) (h : IsToSplit t n step) → IsSplit t t.root n h.split.halves [] []
to_split t n step h = record { table = h.table; up = top; kept = h.table.root; own = h.own; level = h.level; next = h.next; are = h.split.are; rise = at_top (level_of n + 1) }

pub is_step : (t : Table) (n : Node) (step : Step) → IsToSplit t n step → IsStep t step
is_step t n step h = subst (λ (s : Step). IsStep t s) (sym h.split.is) (split_step t t.root n h.split.halves [] [] (to_split t n step h))

split_of : (nodes : Nodes) (t : Table) (n : Node) (step : Step) (h : IsToSplit t n step) → IsSound nodes t → nodes t.root ≡ Some n → IsSplitOf nodes t t.root n h.split.halves [] []
split_of nodes t n step h s there = record { split = to_split t n step h; sound = s; there = there; stand = tt }

pub is_in_place : (nodes : Nodes) (t : Table) (n : Node) (step : Step) → IsToSplit t n step → IsSound nodes t → nodes t.root ≡ Some n → IsInPlace nodes t step
is_in_place nodes t n step h s there = subst (λ (q : Step). IsInPlace nodes t q) (sym h.split.is) (split_in_place nodes t t.root n h.split.halves [] [] (split_of nodes t n step h s there))

made_of : (nodes : Nodes) (t : Table) (n : Node) (step : Step) (new : Nodes) (u : Table) → (h : IsToSplit t n step) → IsSound nodes t → nodes t.root ≡ Some n → IsTableAfter t step u → IsCommitted nodes t step new u
    → IsMade nodes t t.root n h.split.halves [] [] new u
made_of nodes t n step new u h s there after committed = record {
  of = split_of nodes t n step h s there;
  after = subst (λ (q : Step). IsTableAfter t q u) h.split.is after;
  committed = subst (λ (q : Step). IsCommitted nodes t q new u) h.split.is committed;
}

pub on_flushed : {T E : Type 0} (nodes : Nodes) (t : Table) (n : Node) (step : Step) (new : Nodes) (u : Table) (r : Result T E) → IsToSplit t n step → IsSound nodes t → nodes t.root ≡ Some n
    → OnOk r (IsTableAfter t step u) → OnOk r (IsCommitted nodes t step new u) → OnOk r (IsFlushed nodes t new u)
on_flushed nodes t n step new u (Ok x) h s there after committed = flushed nodes t t.root n h.split.halves [] [] new u (made_of nodes t n step new u h s there after committed)
on_flushed nodes t n step new u (Err e) h s there after committed = tt

pub on_raised : {T E : Type 0} (t : Table) (n : Node) (step : Step) (u : Table) (r : Result T E) → IsToSplit t n step → OnOk r (IsTableAfter t step u) → OnOk r (IsRaised t u)
on_raised t n step u (Ok x) h after =
    root_raised t n h.split.halves u (to_split t n step h) (subst (λ (q : Step). IsTableAfter t q u) h.split.is after)
on_raised t n step u (Err e) h after = tt

-- the same step
pub over_same : (root r next n id level l : ℕ) (halves : Halves) (others o : List Change) → root ≡ r → next ≡ n → level ≡ l → others ≡ o → over_step root next id level halves others ≡ over_step r n id l halves o
over_same root r next n id level l halves others o root_is next_is level_is others_are =
    ap (λ (x : ℕ). over_step x next id level halves others) root_is
    ∙ ap (λ (x : ℕ). over_step r x id level halves others) next_is
    ∙ ap (λ (x : ℕ). over_step r n id x halves others) level_is
    ∙ ap (λ (x : List Change). over_step r n id l halves x) others_are

-- the step as it is found
pub over_found : (root next id level : ℕ) (halves : Halves) (others : List Change) (found : Option Step) (step : Step) → found ≡ Some step
    → MatchOption found (2 ^ 64 ≤ next + 1) (λ s. (s ≡ over_step root next id level halves others) × (next + 1 < 2 ^ 64)) → (step ≡ over_step root next id level halves others) × (next + 1 < 2 ^ 64)
over_found root next id level halves others found step is h =
    subst (λ (o : Option Step). MatchOption o (2 ^ 64 ≤ next + 1) (λ s. (s ≡ over_step root next id level halves others) × (next + 1 < 2 ^ 64))) is h

pub over_none : (next : ℕ) (P : Step → Type 0) (found : Option Step) → found ≡ None → MatchOption found (2 ^ 64 ≤ next + 1) P → 2 ^ 64 ≤ next + 1
over_none next P found is h = subst (λ (o : Option Step). MatchOption o (2 ^ 64 ≤ next + 1) P) is h

-- the root's, of its halves
pub root_step : (t : Table) (n : Node) (halves : Halves) (step : Step) (root next level : ℕ) (others : List Change) → level ≡ level_of n → root ≡ t.root → next ≡ t.next → others ≡ [] → AreHalves n halves → step ≡ over_step root next root (level + 1) halves others → IsRootSplit t n step
root_step t n halves step root next level others level_is root_is next_is none are is =
    record {
      halves = halves;
      are = are;
      is =
          is
          ∙ over_same root t.root next t.next root (level + 1) (level_of n + 1) halves others [] root_is next_is (ap (λ (l : ℕ). l + 1) level_is) none
          ∙ ap (λ (i : ℕ). over_step t.root t.next i (level_of n + 1) halves []) root_is;
    }

-- there are no ids for it
pub root_full : {T : Type 0} (count : ℕ) (last : Bool) (bad : ℕ → Type 0) (t : Table) (n : Node) (halves : Halves) (next : ℕ) → next ≡ t.next → AreHalves n halves → 2 ^ 64 ≤ next + 1 → HasMapCause {T = T} count count last bad (IsWornFor (IsRootSplit t n) (t.level t.root ≡ level_limit) t) (Err (Worn NextId))
root_full count last bad t n halves next next_is are full =
    no_ids count last bad (IsRootSplit t n) (t.level t.root ≡ level_limit) t (over_step t.root t.next t.root (level_of n + 1) halves [])
    (record { halves = halves; are = are; is = refl }) (omega arith)

pub is_to_split : (t : Table) (n : Node) (step : Step) → IsTable t → IsNodeOf t (t.level t.root) n → level_of n < level_limit → t.next + 1 < 2 ^ 64 → IsRootSplit t n step → IsToSplit t n step
is_to_split t n step table own level room split = record { table = table; own = own; level = level; next = room; split = split }
