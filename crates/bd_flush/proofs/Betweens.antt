-- A push that puts a node between.
use Rattle.std.proofs.Common.{◌≡◌, ℕ, ◌+◌, ◌^◌, ◌<◌, ◌≤◌, List, [], ◌∷◌, map, drop, refl, sym, ap, subst, ◌∙◌, Option, None, Some, arith, inl, inr, IsSome, rules}
use Rattle.std.specs.List.{AllByRecursion}
use Rattle.std.proofs.lemmas.Bool.{cases_eq}
use Rattle.std.proofs.lemmas.Option.{same_Some}
use Rattle.bd_keys.specs.Keys.{IsKey, IsBelow, IsAtLeast}
use Rattle.bd_message.specs.Effect.{NodesAt}
use Rattle.bd_node.specs.declared.node.Edge.{Edge}
use Rattle.bd_node.specs.declared.node.Entry.{Entry}
use Rattle.bd_node.specs.declared.node.Node.{Node}
use Rattle.bd_node.specs.declared.node.Node.TheVariants.{Leaf}
use Rattle.bd_node.specs.declared.node.Change.{Change}
use Rattle.bd_node.specs.declared.node.Step.{Step}
use Rattle.bd_node.specs.Nodes.{level_of, buffer_size, names, times, node_at}
use Rattle.bd_node.specs.Meaning.{Nodes, at}
use Rattle.bd_node.specs.Shape.{IsShape}
use Rattle.bd_node.specs.Tables.{Table, IsTable, IsLower, IsSound}
use Rattle.bd_node.specs.Private.IsPrivate.{alone}
use Rattle.bd_node.specs.Steps.{given, level_or, level_after, IsOnlyNamed, IsTableAfter, IsCommitted}
use Rattle.bd_node.specs.Steps.HasRoom.{changed_too}
use Rattle.bd_node.proofs.Lookup.{Agree, each_weaker, each_named, named_has, node_has-key}
use Rattle.bd_node.proofs.Meanings.{at-meets}
use Rattle.bd_node.proofs.Sound.{sound-levelled, named_lower, root_unnamed}
use Rattle.bd_node.proofs.Stepping.{given-old, by_given, changed_at-same, changed_at-none}
use Rattle.bd_inner.specs.declared.halves.Halves.{Halves}
use Rattle.bd_inner.specs.Halves.{IsHalf}
use Rattle.bd_node.specs.Pushes.{exchanged, seen_by, IsRelieved}
use Rattle.bd_node.proofs.Compacting.{compacted_shape, compacted_level, compacted_meaning}
use Rattle.bd_inner.proofs.Exchanged.{exchanged_shape}
use Rattle.bd_path.specs.declared.fetching.Fetched.{Fetched}
use Rattle.bd_path.specs.Flushed.{LeadsTo, IsFlushed, IsHardlyHigher}
use Rattle.bd_path.specs.Flushed.LeadsTo.{itself, through}
use Rattle.bd_flush.specs.Splitting.{over_two}
use Rattle.bd_path.specs.Fetching.{IsWayTo, IsContents}
use Rattle.bd_flush.specs.Children.{AreFamily}
use Rattle.bd_path.specs.Paths.{path_step}
use Rattle.bd_path.specs.Raising.{raised, raise, IsWayUp, IsRising, IsRaisedOver}
use Rattle.bd_path.specs.Raising.IsRising.{at_top, high_enough, rises}
use Rattle.bd_path.specs.Raising.IsRaisedOver.{is_above, rises_too}
use Rattle.bd_flush.specs.Pushing.{CanPush, IsLongPush}
use Rattle.bd_flush.proofs.RootSplits.{both, over_shape, two_have, times_made}
use Rattle.bd_flush.proofs.ChildSplits.{one_fits, one_times, lower_child, other_names, at_child, IsSplittable, IsSplittableOf}
use Rattle.bd_path.proofs.EdgesAt.{as_edge, child_named, some_next}
use Rattle.bd_inner.proofs.Named.{level_exchanged, compacted_small}
use Rattle.bd_flush.proofs.Pushed.{batch_low, relieved_inside, leaf_received}
use Rattle.bd_path.proofs.PathSteps.{IsMadeUnder, IsUpper, IsPathStep, RisesByOne, level_bound, given_upper, has_made, has_path, path_child, path_old, each_change, IsPathStepOf, root_rises, path_flushed}
use Rattle.bd_path.proofs.RisingSteps.{raised_size, raised_times, raised_level, raised_shape, raised_has, IsLink, way_link, link_lower, only_namer, rising_rises, rising_uppers, rising_above, once_above, rising_once, IsChangedBy, changed_more, all_changed, has_room, rising_of}
use Rattle.bd_keys.proofs.Order.{IsKey-drop}

-- ---- the parent, one level higher where it has to be

pub record IsRisen (above node : Node) : Type 0 where
  pub shape : IsShape node
  pub least : level_of above ≤ level_of node
  pub most : level_of node ≤ level_of above + 1
  pub over : 1 < level_of node
  pub same : (x : ℕ) → times node x ≡ times above x
  pub has : (f : NodesAt) (k : List ℕ) → node_at f node k ≡ node_at f above k
  pub size : buffer_size node ≡ buffer_size above

risen : (above node : Node) (way rising : List Fetched) → IsShape above → 1 ≤ level_of above → IsRaisedOver 1 above way node rising → IsRisen above node
risen above _ way _ h inner (is_above more) = record { shape = h; least = omega arith; most = omega arith; over = more; same = λ x. refl; has = λ f k. refl; size = refl }
risen above _ way _ h inner (rises_too rising few rise) =
    let up : level_of (raised above) ≡ level_of above + 1 = raised_level above inner in
    record {
      shape = raised_shape above h (omega arith);
      least = omega arith;
      most = omega arith;
      over = omega arith;
      same = raised_times above;
      has = λ f k. raised_has f above k;
      size = raised_size above;
    }

none_rise : (t : Table) (p level : ℕ) (way : List Fetched) → IsWayUp t p way → level ≡ t.level p → IsRising level way []
none_rise t p level [] up is = at_top level
none_rise t p level (f ∷ fs) up is =
    let link : IsLink t p f = (way_link t p f fs up).0 in
    let lower : t.level p < t.level f.id = (link_lower t p f link).lower in
    let own : level_of f.node.value ≡ t.level f.id = link.fetched.own.level_is in
    high_enough level f fs (omega arith)

risen_way : (t : Table) (p : ℕ) (above node : Node) (way rising : List Fetched) → IsWayUp t p way → level_of above ≡ t.level p → 1 ≤ level_of above → IsRaisedOver 1 above way node rising → IsRising (level_of node) way rising
risen_way t p above _ way _ up is inner (is_above more) = none_rise t p (level_of above) way up is
risen_way t p above _ way _ up is inner (rises_too rising few rise) = subst (λ (l : ℕ). IsRising l way rising) (sym (raised_level above inner)) rise

-- ---- the situation

pub record IsToPutBetween (t : Table) (way : List Fetched) (parent : Fetched) (place : ℕ) (child : Fetched) (push : IsLongPush parent.node.value place child.node.value) (node : Node) (rising : List Fetched) : Type 0 where
  pub table : IsTable t
  pub ids : t.next + 1 < 2 ^ 64
  pub can : CanPush t parent place child
  pub way_up : IsWayUp t parent.id way
  pub above : Node
  pub relieved : IsRelieved parent.node.value place push.edge push.batch.count above
  pub rise : IsRaisedOver 1 above way node rising

abbrev pub the_child : Table → Halves → Node
the_child t halves = over_two 1 halves.pivot t.next (t.next + 1)

abbrev pub the_uppers : Fetched → Node → List Fetched → List Change
the_uppers parent node rising = record { id = parent.id; node = node } ∷ map raise rising

abbrev pub the_step : Table → Fetched → Fetched → Halves → Node → List Fetched → Step
the_step t parent child halves node rising = path_step t.root child.id (the_child t halves) (the_uppers parent node rising) (both halves)

same_edge : (t : Table) (way : List Fetched) (parent : Fetched) (place : ℕ) (child : Fetched) (push : IsLongPush parent.node.value place child.node.value) (node : Node) (rising : List Fetched) → (h : IsToPutBetween t way parent place child push node rising) → h.can.edge ≡ push.edge
same_edge t way parent place child push node rising h = same_Some h.can.edge push.edge (sym h.can.way.here ∙ push.here)

way_to_child : (t : Table) (way : List Fetched) (parent : Fetched) (place : ℕ) (child : Fetched) (push : IsLongPush parent.node.value place child.node.value) (node : Node) (rising : List Fetched) → (h : IsToPutBetween t way parent place child push node rising) → IsWayTo parent.node.value place child.id push.edge
way_to_child t way parent place child push node rising h =
    subst (λ (e : Edge). IsWayTo parent.node.value place child.id e) (same_edge t way parent place child push node rising h) h.can.way

pub splittable : (t : Table) (way : List Fetched) (parent : Fetched) (place : ℕ) (child : Fetched) (push : IsLongPush parent.node.value place child.node.value) (node : Node) (rising : List Fetched) → (h : IsToPutBetween t way parent place child push node rising)
    → IsSplittable t parent.id parent.node.value place child.id push.edge (push.edge.seen + push.batch.count) child.node.value
splittable t way parent place child push node rising h = record {
  table = h.table;
  kept = h.can.parent_is.kept;
  own = h.can.parent_is.own;
  few = h.can.room;
  way = way_to_child t way parent place child push node rising h;
  low = batch_low parent.node.value place push.edge push.batch h.can.parent_is.own.shape push.here push.moved;
  child_level = h.can.child_is.own.level_is;
  child_names = h.can.child_is.own.lower;
  next = (let ids : t.next + 1 < 2 ^ 64 = h.ids in omega arith);
}

-- the child is a leaf
leaf_low : (t : Table) (way : List Fetched) (parent : Fetched) (place : ℕ) (child : Fetched) (push : IsLongPush parent.node.value place child.node.value) (node : Node) (rising : List Fetched) → IsToPutBetween t way parent place child push node rising → t.level child.id ≡ 0
leaf_low t way parent place child push node rising h = sym h.can.child_is.own.level_is ∙ ap level_of push.long.leaf

under_parent : (t : Table) (way : List Fetched) (parent : Fetched) (place : ℕ) (child : Fetched) (push : IsLongPush parent.node.value place child.node.value) (node : Node) (rising : List Fetched) → IsToPutBetween t way parent place child push node rising → IsLower t (t.level parent.id) child.id
under_parent t way parent place child push node rising h =
    lower_child t parent.id parent.node.value place child.id push.edge (push.edge.seen + push.batch.count) child.node.value (splittable t way parent place child push node rising h)

-- the parent before it rises
above_level : (t : Table) (way : List Fetched) (parent : Fetched) (place : ℕ) (child : Fetched) (push : IsLongPush parent.node.value place child.node.value) (node : Node) (rising : List Fetched) → (h : IsToPutBetween t way parent place child push node rising) → level_of h.above ≡ t.level parent.id
above_level t way parent place child push node rising h =
    let list : List Edge = seen_by push.edge push.batch.count ∷ [] in
    compacted_level (exchanged parent.node.value place list) h.above h.relieved ∙ level_exchanged parent.node.value place list ∙ h.can.parent_is.own.level_is

parent_risen : (t : Table) (way : List Fetched) (parent : Fetched) (place : ℕ) (child : Fetched) (push : IsLongPush parent.node.value place child.node.value) (node : Node) (rising : List Fetched) → (h : IsToPutBetween t way parent place child push node rising) → IsRisen h.above node
parent_risen t way parent place child push node rising h =
    let n : Node = parent.node.value in
    let list : List Edge = seen_by push.edge push.batch.count ∷ [] in
    let is : level_of h.above ≡ t.level parent.id = above_level t way parent place child push node rising h in
    let lower : IsLower t (t.level parent.id) child.id = under_parent t way parent place child push node rising h in
    let l : t.level child.id < t.level parent.id = lower.lower in
    risen h.above node way rising
    (compacted_shape (exchanged n place list) h.above (exchanged_shape n place push.edge list h.can.parent_is.own.shape (one_fits t parent.id n place child.id push.edge (push.edge.seen + push.batch.count) child.node.value (splittable t way parent place child push node rising h))) h.relieved) (omega arith)
    h.rise

rise_is : (t : Table) (way : List Fetched) (parent : Fetched) (place : ℕ) (child : Fetched) (push : IsLongPush parent.node.value place child.node.value) (node : Node) (rising : List Fetched) → IsToPutBetween t way parent place child push node rising → IsRising (level_of node) way rising
rise_is t way parent place child push node rising h =
    let is : level_of h.above ≡ t.level parent.id = above_level t way parent place child push node rising h in
    let lower : IsLower t (t.level parent.id) child.id = under_parent t way parent place child push node rising h in
    let l : t.level child.id < t.level parent.id = lower.lower in
    risen_way t parent.id h.above node way rising h.way_up is (omega arith) h.rise

-- it names what it named before
parent_named : (t : Table) (way : List Fetched) (parent : Fetched) (place : ℕ) (child : Fetched) (push : IsLongPush parent.node.value place child.node.value) (node : Node) (rising : List Fetched) → IsToPutBetween t way parent place child push node rising → (x : ℕ) → 1 ≤ times node x → IsLower t (t.level parent.id) x
parent_named t way parent place child push node rising h x one =
    let same : times node x ≡ times h.above x = (parent_risen t way parent place child push node rising h).same x in
    let less : times h.above x ≤ times parent.node.value x = one_times parent.node.value place push.edge (push.edge.seen + push.batch.count) h.above h.can.parent_is.own.shape push.here h.relieved x in
    named_has (IsLower t (t.level parent.id)) x (names parent.node.value) h.can.parent_is.own.lower (omega arith)

-- ---- as far as the table tells

child_rises : (t : Table) (way : List Fetched) (parent : Fetched) (place : ℕ) (child : Fetched) (push : IsLongPush parent.node.value place child.node.value) (node : Node) (rising : List Fetched) → IsToPutBetween t way parent place child push node rising → RisesByOne t (record { id = child.id; node = the_child t push.halves })
child_rises t way parent place child push node rising h =
    let zero_is : t.level child.id ≡ 0 = leaf_low t way parent place child push node rising h in
    (omega arith, omega arith)

all_rise : (t : Table) (way : List Fetched) (parent : Fetched) (place : ℕ) (child : Fetched) (push : IsLongPush parent.node.value place child.node.value) (node : Node) (rising : List Fetched) → IsToPutBetween t way parent place child push node rising → AllByRecursion (RisesByOne t) (the_uppers parent node rising)
all_rise t way parent place child push node rising h =
    let is : level_of h.above ≡ t.level parent.id = above_level t way parent place child push node rising h in
    let own = parent_risen t way parent place child push node rising h in
    let least : level_of h.above ≤ level_of node = own.least in
    let most : level_of node ≤ level_of h.above + 1 = own.most in
    ((omega arith, omega arith), rising_rises t parent.id (level_of node) way rising (rise_is t way parent place child push node rising h) h.way_up)

-- a node below the parent is lower than it then
after_low : (t : Table) (way : List Fetched) (parent : Fetched) (place : ℕ) (child : Fetched) (push : IsLongPush parent.node.value place child.node.value) (above node : Node) (rising : List Fetched) → IsToPutBetween t way parent place child push node rising → 1 ≤ level_of above → level_of above ≡ t.level parent.id → IsRaisedOver 1 above way node rising
    → (x : ℕ) → IsLower t (t.level parent.id) x → level_after t (the_step t parent child push.halves node rising) x < level_of node
after_low t way parent place child push above _ _ h inner is (rises_too rising few rise) x lower =
    let node : Node = raised above in
    let up : level_of (raised above) ≡ level_of above + 1 = raised_level above inner in
    let l : t.level x < t.level parent.id = lower.lower in
    let most : level_after t (the_step t parent child push.halves node rising) x ≤ t.level x + 1 =
    (level_bound t child.id (the_child t push.halves) (the_uppers parent node rising) (both push.halves) (child_rises t way parent place child push node rising h) (all_rise t way parent place child push node rising h) x (h.table.below x lower.kept)).1 in
    omega arith
after_low t way parent place child push above _ _ h inner is (is_above more) x lower =
    let step : Step = the_step t parent child push.halves above [] in
    let l : t.level x < t.level parent.id = lower.lower in
    let below : x < t.next = h.table.below x lower.kept in
    elim (cases_eq x child.id) [
      | inl same ↦ (let most : level_after t step x ≤ t.level x + 1 =
          (level_bound t child.id (the_child t push.halves) (the_uppers parent above []) (both push.halves) (child_rises t way parent place child push above [] h) (all_rise t way parent place child push above [] h) x below).1 in
          let zero_is : t.level child.id ≡ 0 = leaf_low t way parent place child push above [] h in
          let e : t.level x ≡ t.level child.id = ap t.level same in
          omega arith)
      | inr other ↦ (let none : given t.next step x ≡ None =
          given_upper t child.id (the_child t push.halves) (the_uppers parent above []) (both push.halves) x below other
          ∙ changed_at-none (λ i. t.level parent.id ≤ t.level i) (the_uppers parent above []) x (omega arith, tt) (λ up. omega arith) in
          let e : level_after t step x ≡ t.level x = ap (λ (o : Option Node). level_or o (t.level x)) none in
          omega arith)
    ]

parent_upper : (t : Table) (way : List Fetched) (parent : Fetched) (place : ℕ) (child : Fetched) (push : IsLongPush parent.node.value place child.node.value) (node : Node) (rising : List Fetched) → IsToPutBetween t way parent place child push node rising
    → IsUpper t (the_step t parent child push.halves node rising) child.id (record { id = parent.id; node = node })
parent_upper t way parent place child push node rising h =
    let is : level_of h.above ≡ t.level parent.id = above_level t way parent place child push node rising h in
    let own = parent_risen t way parent place child push node rising h in
    let least : level_of h.above ≤ level_of node = own.least in
    let most : level_of node ≤ level_of h.above + 1 = own.most in
    let down : t.level child.id < t.level parent.id = (under_parent t way parent place child push node rising h).lower in
    record {
      kept = h.can.parent_is.kept;
      above = down;
      shape = own.shape;
      low = omega arith;
      high = omega arith;
      named = λ x one.
          let lower : IsLower t (t.level parent.id) x = parent_named t way parent place child push node rising h x one in
          record { there = inl lower.kept; lower = after_low t way parent place child push h.above node rising h (omega arith) is h.rise x lower };
    }

half_under : (t : Table) (c : ℕ) (new : List Entry) (own : List ℕ → Type 0) (half : Node) → IsHalf (Leaf new) own half → IsMadeUnder t 1 c half
half_under t c new own half is = record {
  shape = is.shape;
  low = (let e : level_of half ≡ 0 = is.level_is in omega arith);
  under = (let e : level_of half ≡ 0 = is.level_is in omega arith);
  named = λ x one. absurd (let less : times half x ≤ times (Leaf new) x = is.names x in omega arith);
}

pub between_path : (t : Table) (way : List Fetched) (parent : Fetched) (place : ℕ) (child : Fetched) (push : IsLongPush parent.node.value place child.node.value) (node : Node) (rising : List Fetched) → IsToPutBetween t way parent place child push node rising
    → IsPathStep t child.id (the_child t push.halves) (the_uppers parent node rising) (both push.halves)
between_path t way parent place child push node rising h =
    let zero_is : t.level child.id ≡ 0 = leaf_low t way parent place child push node rising h in
    let some : 1 ≤ t.next = some_next t h.table in
    let ids : t.next + 1 < 2 ^ 64 = h.ids in
    let rise : IsRising (level_of node) way rising = rise_is t way parent place child push node rising h in
    let down : t.level child.id < t.level parent.id = (under_parent t way parent place child push node rising h).lower in
    record {
      table = h.table;
      child = h.can.child_is.kept;
      shape = over_shape 1 push.halves.pivot t.next (t.next + 1) (omega arith) (omega arith) push.long.are.some push.long.are.short (omega arith, omega arith) (omega arith, omega arith);
      low = omega arith;
      high = omega arith;
      named = λ x one. inr (named_has (λ (i : ℕ). (t.next ≤ i) × (i < t.next + 2)) x (t.next ∷ (t.next + 1) ∷ []) ((omega arith, omega arith), ((omega arith, omega arith), tt)) one);
      top = 1;
      under = λ x high one. omega arith;
      made_are = (
        half_under t child.id push.long.new (λ k. IsBelow k push.halves.pivot) push.halves.first push.long.are.lower,
        (half_under t child.id push.long.new (λ k. IsAtLeast k push.halves.pivot) push.halves.second push.long.are.upper, tt),
      );
      used = λ x most least. inl (times_made 1 push.halves.pivot t.next x most least);
      uppers_are = (
        parent_upper t way parent place child push node rising h,
        rising_uppers t child.id (the_child t push.halves) (the_uppers parent node rising) (both push.halves) parent.id (level_of node) way rising h.table (child_rises t way parent place child push node rising h) (all_rise t way parent place child push node rising h) (omega arith) rise h.way_up,
      );
      once = (once_above t parent.id (map raise rising) (rising_above t parent.id (level_of node) way rising rise h.way_up), rising_once t parent.id (level_of node) way rising rise h.way_up);
    }

-- ---- of known nodes

-- the nodes are those of the parent, of the child, and of the way above
pub record IsToPutBetweenOf (nodes : Nodes) (t : Table) (way : List Fetched) (parent : Fetched) (place : ℕ) (child : Fetched) (push : IsLongPush parent.node.value place child.node.value) (node : Node) (rising : List Fetched) : Type 0 where
  pub of : IsToPutBetween t way parent place child push node rising
  pub sound : IsSound nodes t
  pub family : AreFamily nodes t parent child
  pub contents : AllByRecursion (IsContents nodes) way

rising_given : (t : Table) (step : Step) (x level : ℕ) (way rising : List Fetched) → IsTable t → AllByRecursion (IsChangedBy step.changes) rising → IsRising level way rising → IsWayUp t x way → AllByRecursion (λ (g : Fetched). IsSome (given t.next step g.id)) rising
rising_given t step x _ _ _ table changed (at_top level) up = tt
rising_given t step x _ _ _ table changed (high_enough level f fs more) up = tt
rising_given t step x _ _ _ table changed (rises level f fs rising few room rise) up =
    let parts = way_link t x f fs up in (
      subst (λ (o : Option Node). IsSome o) (sym (given-old t.next step f.id (table.below f.id parts.0.fetched.kept))) changed.0,
      rising_given t step f.id (level_of f.node.value + 1) fs rising table changed.1 rise parts.1,
    )

the_link : (t : Table) (way : List Fetched) (parent : Fetched) (place : ℕ) (child : Fetched) (push : IsLongPush parent.node.value place child.node.value) (node : Node) (rising : List Fetched) → IsToPutBetween t way parent place child push node rising → IsLink t child.id parent
the_link t way parent place child push node rising h = record {
  place = place;
  edge = push.edge;
  fetched = h.can.parent_is;
  way = as_edge parent.node.value place child.id push.edge (way_to_child t way parent place child push node rising h);
  once = h.can.once;
}

splittable_of : (nodes : Nodes) (t : Table) (way : List Fetched) (parent : Fetched) (place : ℕ) (child : Fetched) (push : IsLongPush parent.node.value place child.node.value) (node : Node) (rising : List Fetched) → (h : IsToPutBetweenOf nodes t way parent place child push node rising)
    → IsSplittableOf nodes t parent.id parent.node.value place child.id push.edge (push.edge.seen + push.batch.count) child.node.value (at nodes)
splittable_of nodes t way parent place child push node rising h = record {
  of = splittable t way parent place child push node rising h.of;
  sound = h.sound;
  there = h.family.parent_there;
  private = h.family.private;
  once = h.of.can.once;
  child_has = at_child nodes t child.id child.node.value h.sound h.family.child_there;
  others_have = λ x other below k. refl;
}

-- what the child has then
child_has : (nodes : Nodes) (t : Table) (way : List Fetched) (parent : Fetched) (place : ℕ) (child : Fetched) (push : IsLongPush parent.node.value place child.node.value) (node : Node) (rising : List Fetched) → (h : IsToPutBetweenOf nodes t way parent place child push node rising) → (x : List ℕ) → IsKey x
    → has_path nodes t.next child.id (the_child t push.halves) (both push.halves) child.id x ≡ node_at (at nodes) (Leaf push.long.new) x
child_has nodes t way parent place child push node rising h x key =
    path_child nodes t.next child.id (the_child t push.halves) (both push.halves) x
    ∙ node_has-key (has_made nodes t.next (both push.halves)) (the_child t push.halves) x key
    ∙ two_have nodes t.next 1 (Leaf push.long.new) push.halves push.long.are x key

parent_meaning : (nodes : Nodes) (t : Table) (way : List Fetched) (parent : Fetched) (place : ℕ) (child : Fetched) (push : IsLongPush parent.node.value place child.node.value) (node : Node) (rising : List Fetched) → IsToPutBetweenOf nodes t way parent place child push node rising → (k : List ℕ) → IsKey k
    → node_at (has_path nodes t.next child.id (the_child t push.halves) (both push.halves)) node k ≡ at nodes parent.id k
parent_meaning nodes t way parent place child push node rising h k key =
    let n : Node = parent.node.value in
    let c : ℕ = child.id in
    let e : Edge = push.edge in
    let has : NodesAt = has_path nodes t.next c (the_child t push.halves) (both push.halves) in
    let list : List Edge = seen_by e push.batch.count ∷ [] in
    let s = splittable_of nodes t way parent place child push node rising h in
    (parent_risen t way parent place child push node rising h.of).has has k
    ∙ compacted_meaning has (exchanged n place list) h.of.above (exchanged_shape n place e list h.of.can.parent_is.own.shape (one_fits t parent.id n place c e (e.seen + push.batch.count) child.node.value s.of)) h.of.relieved k
    ∙ relieved_inside nodes t parent.id n place c e child.node.value push.batch has s push.moved
    (λ l key_l range.
    child_has nodes t way parent place child push node rising h (drop e.lift l) (IsKey-drop e.lift l key_l)
    ∙ leaf_received (at nodes) n place e child.node.value push.long.old push.long.new push.batch.messages push.long.leaf push.long.got l key_l range)
    (each_named (Agree has (at nodes)) (names (exchanged n place [])) (λ x one j.
    let other = other_names nodes t parent.id n place c e (e.seen + push.batch.count) child.node.value (at nodes) s x one in
    path_old nodes t.next c (the_child t push.halves) (both push.halves) x other.0 other.1 j)) k key
    ∙ sym (node_has-key (at nodes) n k key)
    ∙ sym ((at-meets nodes (sound-levelled nodes t h.sound)).each parent.id n h.family.parent_there k)

only_parent : (nodes : Nodes) (t : Table) (way : List Fetched) (parent : Fetched) (place : ℕ) (child : Fetched) (push : IsLongPush parent.node.value place child.node.value) (node : Node) (rising : List Fetched) → IsToPutBetweenOf nodes t way parent place child push node rising
    → IsOnlyNamed nodes t (the_step t parent child push.halves node rising) child.id
only_parent nodes t way parent place child push node rising h = record {
  each = λ q m at_q one.
      let same : q ≡ parent.id = only_namer nodes t child.id parent h.sound (the_link t way parent place child push node rising h.of) h.family.parent_there q m at_q one in
      let down : t.level child.id < t.level parent.id = (under_parent t way parent place child push node rising h.of).lower in
      let is : given t.next (the_step t parent child push.halves node rising) parent.id ≡ Some node =
      given_upper t child.id (the_child t push.halves) (the_uppers parent node rising) (both push.halves) parent.id (h.of.table.below parent.id h.of.can.parent_is.kept)
      (λ e. (let l : t.level parent.id ≡ t.level child.id = ap t.level e in omega arith))
      ∙ changed_at-same (record { id = parent.id; node = node }) (map raise rising) parent.id refl in
      let some : IsSome (Some node) = search rules in
      subst (λ (o : Option Node). IsSome o) (sym (ap (λ (i : ℕ). given t.next (the_step t parent child push.halves node rising) i) same ∙ is)) some;
}

all_given : (t : Table) (way : List Fetched) (parent : Fetched) (place : ℕ) (child : Fetched) (push : IsLongPush parent.node.value place child.node.value) (node : Node) (rising : List Fetched) → IsToPutBetween t way parent place child push node rising
    → AllByRecursion (λ (g : Fetched). IsSome (given t.next (the_step t parent child push.halves node rising) g.id)) rising
all_given t way parent place child push node rising h =
    let step : Step = the_step t parent child push.halves node rising in
    rising_given t step parent.id (level_of node) way rising h.table
    (each_weaker (IsChangedBy (map raise rising)) (IsChangedBy step.changes)
    (λ g some. changed_more (record { id = child.id; node = the_child t push.halves }) (the_uppers parent node rising) g (changed_more (record { id = parent.id; node = node }) (map raise rising) g some)) rising (all_changed rising))
    (rise_is t way parent place child push node rising h) h.way_up

pub between_path_of : (nodes : Nodes) (t : Table) (way : List Fetched) (parent : Fetched) (place : ℕ) (child : Fetched) (push : IsLongPush parent.node.value place child.node.value) (node : Node) (rising : List Fetched) → IsToPutBetweenOf nodes t way parent place child push node rising
    → IsPathStepOf nodes t child.id (the_child t push.halves) (the_uppers parent node rising) (both push.halves)
between_path_of nodes t way parent place child push node rising h =
    let n : Node = parent.node.value in
    let p : ℕ = parent.id in
    let c : ℕ = child.id in
    let top : Node = the_child t push.halves in
    let uppers : List Change = the_uppers parent node rising in
    let made : List Node = both push.halves in
    let step : Step = path_step t.root c top uppers made in
    let rise : IsRising (level_of node) way rising = rise_is t way parent place child push node rising h.of in
    let named : 1 ≤ times n c = child_named n place c push.edge h.of.can.parent_is.own.shape (way_to_child t way parent place child push node rising h.of) in
    let leads : LeadsTo nodes c p = through p c n h.family.parent_there named itself in
    let only : IsOnlyNamed nodes t step c = only_parent nodes t way parent place child push node rising h in
    let changed : AllByRecursion (λ (g : Fetched). IsSome (given t.next step g.id)) rising = all_given t way parent place child push node rising h.of in
    record {
      step = between_path t way parent place child push node rising h.of;
      sound = h.sound;
      private = alone p c n h.family.private h.family.parent_there named h.of.can.once;
      room = changed_too only;
      moves = inr (λ same. root_unnamed nodes t h.sound p n h.family.parent_there (subst (λ (i : ℕ). 1 ≤ times n i) (sym same) named), only);
      uppers_of = (
        record {
          private = h.family.private;
          leads = leads;
          room = has_room nodes t step p (level_of node) node way rising refl h.sound rise h.of.way_up h.contents changed;
          meaning = parent_meaning nodes t way parent place child push node rising h;
        },
        rising_of nodes t c top uppers made p (level_of node) way rising h.sound leads rise h.of.way_up h.contents changed
            (λ q m at_q more.
            each_named (Agree (has_path nodes t.next c top made) (at nodes)) (names m) (λ x one k.
            path_old nodes t.next c top made x
            (λ same. (let is : q ≡ p = only_namer nodes t c parent h.sound (the_link t way parent place child push node rising h.of) h.family.parent_there q m at_q (subst (λ (i : ℕ). 1 ≤ times m i) same one) in
            let e : t.level q ≡ t.level p = ap t.level is in
            let l : t.level p < t.level q = more in
            omega arith))
            (h.of.table.below x (named_lower nodes t h.sound q m at_q x one).kept) k)),
      );
    }

-- ---- what the step leaves

pub record IsPutBetween (nodes : Nodes) (t : Table) (way : List Fetched) (parent : Fetched) (place : ℕ) (child : Fetched) (push : IsLongPush parent.node.value place child.node.value) (node : Node) (rising : List Fetched) (new : Nodes) (u : Table) : Type 0 where
  pub of : IsToPutBetweenOf nodes t way parent place child push node rising
  pub after : IsTableAfter t (the_step t parent child push.halves node rising) u
  pub committed : IsCommitted nodes t (the_step t parent child push.halves node rising) new u

pub between_flushed : (nodes : Nodes) (t : Table) (way : List Fetched) (parent : Fetched) (place : ℕ) (child : Fetched) (push : IsLongPush parent.node.value place child.node.value) (node : Node) (rising : List Fetched) (new : Nodes) (u : Table) → IsPutBetween nodes t way parent place child push node rising new u → IsFlushed nodes t new u
between_flushed nodes t way parent place child push node rising new u h =
    path_flushed nodes t child.id (the_child t push.halves) (the_uppers parent node rising) (both push.halves) new u
    (record { of = between_path_of nodes t way parent place child push node rising h.of; after = h.after; committed = h.committed }) (omega arith)

-- ---- the table

-- the root's messages are no more than before
abbrev FitsRoot : Table → Change → Type 0
FitsRoot t v = v.id ≡ t.root → buffer_size v.node ≤ t.size

rising_fit : (t : Table) (x level : ℕ) (way rising : List Fetched) → IsRising level way rising → IsWayUp t x way → AllByRecursion (FitsRoot t) (map raise rising)
rising_fit t x _ _ _ (at_top level) up = tt
rising_fit t x _ _ _ (high_enough level f fs more) up = tt
rising_fit t x _ _ _ (rises level f fs rising few room rise) up =
    let parts = way_link t x f fs up in (
      λ root. (let is : buffer_size f.node.value ≡ t.size = parts.0.fetched.root root in let same : buffer_size (raised f.node.value) ≡ buffer_size f.node.value = raised_size f.node.value in omega arith),
      rising_fit t f.id (level_of f.node.value + 1) fs rising rise parts.1,
    )

pub between_table : (t : Table) (way : List Fetched) (parent : Fetched) (place : ℕ) (child : Fetched) (push : IsLongPush parent.node.value place child.node.value) (node : Node) (rising : List Fetched) (u : Table) → IsToPutBetween t way parent place child push node rising → IsTableAfter t (the_step t parent child push.halves node rising) u → IsHardlyHigher t u
between_table t way parent place child push node rising u b after =
    let c : ℕ = child.id in
    let top : Node = the_child t push.halves in
    let made : List Node = both push.halves in
    let uppers : List Change = the_uppers parent node rising in
    let step : Step = the_step t parent child push.halves node rising in
    let levels = root_rises t c top uppers made u (between_path t way parent place child push node rising b) after in
    let low_root : t.root < t.next = b.table.below t.root b.table.root in
    let down : t.level c < t.level parent.id = (under_parent t way parent place child push node rising b).lower in
    let under : t.level parent.id ≤ t.level t.root = b.can.under in
    let own : FitsRoot t (record { id = c; node = top }) = λ root. absurd (let e : t.level c ≡ t.level t.root = ap t.level root in omega arith) in
    let above_fits : FitsRoot t (record { id = parent.id; node = node }) =
    λ root.
    let is : buffer_size parent.node.value ≡ t.size = b.can.parent_is.root root in
    let same : buffer_size node ≡ buffer_size b.above = (parent_risen t way parent place child push node rising b).size in
    let less : buffer_size b.above ≤ buffer_size parent.node.value = compacted_small parent.node.value place (seen_by push.edge push.batch.count ∷ []) b.above b.relieved in
    omega arith in
    record {
      root = after.root;
      low = levels.0;
      high = levels.1;
      size =
          by_given (u.size ≤ t.size) (given t.next step t.root)
          (λ none. let is : u.size ≡ t.size = after.same_size none refl in omega arith)
          (λ d some.
          let is : u.size ≡ buffer_size d = after.size d some in
          let fits : FitsRoot t (record { id = t.root; node = d }) = each_change (FitsRoot t) t c top uppers made t.root d own (above_fits, rising_fit t parent.id (level_of node) way rising (rise_is t way parent place child push node rising b) b.way_up) low_root some in
          let less : buffer_size d ≤ t.size = fits refl in
          omega arith);
    }

pub way_shapes : (t : Table) (x : ℕ) (way : List Fetched) → IsWayUp t x way → AllByRecursion (λ (f : Fetched). IsShape f.node.value) way
way_shapes t x [] up = tt
way_shapes t x (f ∷ fs) up = let parts = way_link t x f fs up in (parts.0.fetched.own.shape, way_shapes t f.id fs parts.1)
