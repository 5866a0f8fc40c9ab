-- A pager after a step.
use Rattle.std.proofs.Common.{◌≡◌, ◌≢◌, ℕ, ◌+◌, ◌<◌, ◌≤◌, ◌⊎◌, Bool, true, false, eqb, IsTrue, List, [], length, Option, None, Some, IfSome, refl, sym, ap, subst, ◌∙◌, arith, inl, inr}
use Rattle.std.specs.Prelude.{IsSome}
use Rattle.std.specs.Global.{Global}
use Rattle.std.specs.Option.{option_map, unwrap_or}
use Rattle.std.specs.declared.rc.Rc.{Rc}
use Rattle.std.proofs.lemmas.Bool.{and_from, cases_lt, cond-true, cond-false, eq-eqb, ne_eqb}
use Rattle.std.proofs.lemmas.Option.{none-some, same_Some}
use Rattle.bd_limits.specs.Limits.{level_limit}
use Rattle.bd_device.specs.Blocks.{Image}
use Rattle.bd_table.specs.declared.table.TableEntry.{TableEntry}
use Rattle.bd_device.specs.declared.device.Device.{Ghosts}
use Rattle.bd_cache.specs.Cache.{kept_at, room_of}
use Rattle.bd_cache.specs.declared.cache.NodeCache.{NodeCache}
use Rattle.bd_node.specs.declared.node.Node.{Node}
use Rattle.bd_node.specs.declared.node.Node.TheVariants.{Leaf, Inner}
use Rattle.bd_node.specs.declared.node.Step.{Step}
use Rattle.bd_node.specs.Nodes.{level_of, names, buffer_size}
use Rattle.bd_node.specs.Meaning.{Nodes}
use Rattle.bd_node.specs.Shape.{IsShape}
use Rattle.bd_node.specs.Stores.{StaysBy}
use Rattle.bd_node.specs.Tables.{Table, IsKept, IsTable, IsSound}
use Rattle.bd_node.specs.Steps.{given, after, IsThere, IsNamable, IsPut, IsStep, IsTableAfter, IsCommitted}
use Rattle.bd_node.proofs.Lookup.{each_weaker}
use Rattle.bd_node.proofs.Stepping.{by_given, after-none, after-some}
use Rattle.bd_counts.specs.Naming.{times_among}
use Rattle.bd_counts.specs.Counting.{counted, HasCounts, HasRootSize, IsRecount, MakesTable, Commits}
use Rattle.bd_pager.specs.declared.committing.NewRoot.{NewRoot}
use Rattle.bd_pager.specs.declared.place.Place.{Place}
use Rattle.bd_pager.specs.declared.place.Place.TheVariants.{Memory, Slot}
use Rattle.bd_pager.specs.declared.place.Spot.{Spot}
use Rattle.bd_pager.specs.Calling.{no_reads}
use Rattle.bd_pager.specs.Committing.{IsFound, IsFoundRoot, IsNewRoot}
use Rattle.bd_pager.specs.Keeping.{KeepsSaved}
use Rattle.bd_pager.specs.Slots.{IsOfLevel}
use Rattle.bd_pager.specs.Places.{Spots, refs_in, level_in, copy_at, copy_in, node_of, told, IsLowerIn, IsRead, IsBadSpot, NoneTurnsBad}
use Rattle.bd_pager.specs.Pagers.{Paged, spots_of, is_saved, is_changed, table_of, nodes_of, IsRightPlace, is_known, IsOfSize, IsPlaceIn, IsStoredAs, IsPaged}
use Rattle.bd_pager.specs.Stepping.{held, own_slot_in, with_put, with_count, without_all, with_copy, moved_copy, bare, copied}
use Rattle.bd_pager.specs.Testing.{Marks, is_tested, NamesLower, AreTested, IsNoHigherThan}
use Rattle.bd_pager.proofs.AppendedLemmas.{split_and}
use Rattle.bd_pager.proofs.CopyLemmas.{bare_changed, copied_changed, bare_in, copied_in, bare_placed, copied_placed, bare_right, copied_right, bare_node, copied_node, copied_copy, without_read, moved_at, same_moved, each_moved, moved_bad}
use Rattle.bd_pager.proofs.CopyLemmas.Moved.{to_root, from_root, beside}
use Rattle.bd_pager.proofs.PagerLemmas.{kept_there}
use Rattle.bd_pager.proofs.SteppedLemmas.{AreStepped, Outcome, outcome, is_left, new_refs, new_used, new_level, each_stepped, given_kept, given_put}
use Rattle.bd_pager.proofs.SteppedLemmas.Outcome.{goes, comes, remains}
use Rattle.bd_pager.proofs.TallyLemmas.{put_in}
use Rattle.bd_pager.proofs.TestedLemmas.{tested_then, no_higher, without_back, spot_of_some}

-- ---- parts

level_within : (n : Node) → IsShape n → level_of n ≤ level_limit
level_within (Leaf entries) shape = omega arith
level_within (Inner level edges buffer) shape = shape.high

bare_stored : (spare : List Bool) (entries : List TableEntry) (id level : ℕ) (p : Place) → IsStoredAs spare entries id level p → IsStoredAs spare entries id level (bare p)
bare_stored spare entries id level (Memory node slot) stored = stored
bare_stored spare entries id level (Slot slot copy) stored = stored

copied_stored : (spare : List Bool) (entries : List TableEntry) (id level : ℕ) (node : Rc Node Global) (p : Place) → IsStoredAs spare entries id level p → IsStoredAs spare entries id level (copied node p)
copied_stored spare entries id level node (Memory own slot) stored = stored
copied_stored spare entries id level node (Slot slot None) stored = stored
copied_stored spare entries id level node (Slot slot (Some own)) stored = stored

counted_read : (contents : Option Image) (is_lent : Bool) (count : Option ℕ) (o : Option Spot) (n : Node) → IsRead contents is_lent o n → IsRead contents is_lent (with_count count o) n
counted_read contents is_lent None o n read = read
counted_read contents is_lent (Some c) None n read = read
counted_read contents is_lent (Some c) (Some s) n read = read

same_size : (size bytes : ℕ) (n : Node) (o : Option Node) → buffer_size n ≡ size → IfSome o (λ m. n ≡ m) → IsOfSize bytes o → size ≡ bytes
same_size size bytes n None is copy sized = absurd sized
same_size size bytes n (Some m) is copy sized = sym is ∙ ap buffer_size copy ∙ sized

-- a root that is found, and was the root before, has the size that it had
found_size : (contents : Option Image) (spots : Spots) (root size bytes : ℕ) (copy : Option (Rc Node Global)) → IsFoundRoot contents spots root size copy → IsOfSize bytes (copy_in (spots root)) → size ≡ bytes
found_size contents spots root size bytes None found sized = absurd found
found_size contents spots root size bytes (Some node) found sized = same_size size bytes node.value (copy_in (spots root)) found.1 found.0.copy sized

-- a copy is that of a found root
found_of : (contents : Option Image) (spots : Spots) (root : ℕ) (o : Option Node) (new : NewRoot) (node : Rc Node Global) → new.copy ≡ Some node → IsNewRoot contents spots root o new → IsFound contents spots root node.value × (o ≡ None)
found_of contents spots root (Some n) new node is h = absurd (none-some node (sym h.0 ∙ is))
found_of contents spots root None new node is h = ((subst (λ (c : Option (Rc Node Global)). IsFoundRoot contents spots root new.size c) is h).0, refl)

-- where a root isn't given, it is found
copy_of_found : (contents : Option Image) (spots : Spots) (root size : ℕ) (copy : Option (Rc Node Global)) → IsFoundRoot contents spots root size copy
    → (node : Rc Node Global) × (copy ≡ Some node) × IsFound contents spots root node.value × (buffer_size node.value ≡ size)
copy_of_found contents spots root size None found = absurd found
copy_of_found contents spots root size (Some node) found = (node, refl, found.0, found.1)

no_copy : (copy : Option (Rc Node Global)) (old : Option Spot) → (IsSome copy → ⊥) → with_copy copy old ≡ old
no_copy None old none = refl
no_copy (Some node) old none = absurd (none refl)

spot_of_copy : (node : Rc Node Global) (o : Option Spot) (s : Spot) → with_copy (Some node) o ≡ Some s → (was : Spot) × (o ≡ Some was) × (s.place ≡ copied node was.place)
spot_of_copy node None s is = absurd (none-some s is)
spot_of_copy node (Some was) s is = (was, refl, ap (λ (x : Spot). x.place) (sym (same_Some _ s is)))

copy_as : (o : Option Spot) (was : Spot) (n : Node) → o ≡ Some was → IfSome (copy_in o) (λ m. n ≡ m) → IfSome (copy_at was.place) (λ m. n ≡ m)
copy_as o was n is copy = subst (λ (x : Option Spot). IfSome (copy_in x) (λ m. n ≡ m)) is copy

-- ---- the step

-- the nodes that a step gives, the counts with it and the ids that go, and the root after it
pub record AreGiven {D : Type 0} (g : Ghosts D) (p : Paged D) (step : Step) (put : ℕ → Option (Rc Node Global)) (count : ℕ → Option ℕ) (gone : List ℕ) (root : ℕ) (new_root : NewRoot) : Type 0 where
  pub ok : IsStep (table_of p) step
  pub given_is : (id : ℕ) → option_map held (put id) ≡ given p.next step id
  pub recount : IsRecount (table_of p) step (λ c. unwrap_or (count c) ((table_of p).count c)) gone
  pub table : MakesTable (table_of p) step (λ c. unwrap_or (count c) ((table_of p).count c))
  pub commits : is_known g p → IsSound (nodes_of g p) (table_of p) → Commits (nodes_of g p) (table_of p) step (λ c. unwrap_or (count c) ((table_of p).count c))
  pub root_is : root ≡ step.root
  pub root_new : IsNewRoot (g.contents p.dev) (spots_of p) step.root (given p.next step step.root) new_root

-- no node is cached that is put, or goes, or is the root with its copy
pub record AreForgotten (put : ℕ → Option (Rc Node Global)) (gone : List ℕ) (root : ℕ) (copy : Option (Rc Node Global)) (old new : NodeCache) : Type 0 where
  pub kept : (id : ℕ) (n : Node) → kept_at new id ≡ Some n → kept_at old id ≡ Some n
  pub not_put : (id : ℕ) (n : Node) → kept_at new id ≡ Some n → put id ≡ None
  pub not_gone : (id : ℕ) (n : Node) → kept_at new id ≡ Some n → times_among gone id ≡ 0
  pub not_root : (id : ℕ) (n : Node) → kept_at new id ≡ Some n → IsSome copy → id ≢ root
  pub room : room_of new ≡ room_of old

module _ {D : Type 0} (g : Ghosts D) (p : Paged D) (step : Step) (put : ℕ → Option (Rc Node Global)) (count : ℕ → Option ℕ) (gone : List ℕ) (root : ℕ) (new_root : NewRoot) (entries : List (ℕ × Spot)) (cache : NodeCache) (last visits : ℕ) where
  abbrev pub q : Paged D
  q = record p { spots = entries; root = root; size = new_root.size; next = last; visits = visits; cache = cache; written = None }

  module _ (was : IsPaged (g.contents p.dev) p) (is : AreGiven g p step put count gone root new_root) (last_is : last ≡ p.next + length step.made)
      (carried : (id : ℕ) → spots_of q id ≡ without_all gone id (with_count (count id) (with_put p.spare (put id) (moved_copy p.root root new_root.copy id (spots_of p id)))))
      (forgotten : AreForgotten put gone root new_root.copy p.cache cache) where
    abbrev t : Table
    t = table_of p

    abbrev contents : Option Image
    contents = g.contents p.dev

    abbrev before : Spots
    before id = moved_copy p.root root new_root.copy id (spots_of p id)

    abbrev counts : ℕ → ℕ
    counts id = unwrap_or (count id) (t.count id)

    root_given : IsNewRoot contents (spots_of p) root (given t.next step root) new_root
    root_given = subst (λ (r : ℕ). IsNewRoot contents (spots_of p) r (given t.next step r) new_root) (sym is.root_is) is.root_new

    found_root : (node : Rc Node Global) → new_root.copy ≡ Some node → IsFound contents (spots_of p) root node.value
    found_root node copy = (found_of contents (spots_of p) root (given t.next step root) new_root node copy root_given).0

    -- ---- with the new root's copy

    before_same : {X : Type 0} (F : Option Spot → X) → ((s : Spot) → F (Some (record s { place = bare s.place })) ≡ F (Some s)) → ((node : Rc Node Global) (s : Spot) → F (Some (record s { place = copied node s.place })) ≡ F (Some s))
        → (id : ℕ) → F (before id) ≡ F (spots_of p id)
    before_same F without within = same_moved (spots_of p) p.root root new_root.copy F (λ id s there. without s) (λ node s copy there. within node s)

    before_each : (P : ℕ → Spot → Type 0) → ((id : ℕ) (s : Spot) → P id s → P id (record s { place = bare s.place }))
        → ((node : Rc Node Global) (s : Spot) → new_root.copy ≡ Some node → spots_of p root ≡ Some s → P root s → P root (record s { place = copied node s.place }))
        → ((id : ℕ) (s : Spot) → spots_of p id ≡ Some s → P id s) → (id : ℕ) (s : Spot) → before id ≡ Some s → P id s
    before_each = each_moved (spots_of p) p.root root new_root.copy

    before_changed : (id : ℕ) → is_changed p.spare (before id) ≡ is_changed p.spare (spots_of p id)
    before_changed = before_same (is_changed p.spare) (λ s. bare_changed p.spare s.place) (λ node s. copied_changed p.spare node s.place)

    before_placed : (id : ℕ) (s : Spot) → before id ≡ Some s → IfSome (copy_at s.place) (IsOfLevel s.level)
    before_placed = before_each (λ id s. IfSome (copy_at s.place) (IsOfLevel s.level)) (λ id s. bare_placed s.level s.place)
        (λ node s copy there. copied_placed s.level node s.place (subst (λ (o : Option Spot). IsOfLevel (level_in o) node.value) there (found_root node copy).of_level)) was.placed

    before_in : (id : ℕ) (s : Spot) → before id ≡ Some s → IsPlaceIn p.spare s.place
    before_in = before_each (λ id s. IsPlaceIn p.spare s.place) (λ id s. bare_in p.spare s.place) (λ node s copy there. copied_in p.spare node s.place) was.slots

    before_stored : (id : ℕ) (s : Spot) → before id ≡ Some s → IsStoredAs p.spare p.saved.entries id s.level s.place
    before_stored = before_each (λ id s. IsStoredAs p.spare p.saved.entries id s.level s.place) (λ id s. bare_stored p.spare p.saved.entries id s.level s.place)
        (λ node s copy there. copied_stored p.spare p.saved.entries root s.level node s.place) was.stored

    stepped : AreStepped p.spare t step before (spots_of q) put count gone
    stepped = record {
      table = was.table;
      ok = is.ok;
      recount = is.recount;
      given_is = is.given_is;
      refs = before_same refs_in (λ s. refl) (λ node s. refl);
      levels = before_same level_in (λ s. refl) (λ node s. refl);
      used = before_each (λ id s. 1 ≤ s.refs) (λ id s used. used) (λ node s copy there used. used) was.used;
      each = carried;
    }

    -- ---- what is kept then

    abbrev ending : (id : ℕ) → Outcome p.spare t step before (spots_of q) put counts id
    ending = outcome p.spare t step before (spots_of q) put count gone stepped

    each_new : (P : ℕ → Spot → Type 0)
        → ((id : ℕ) (node : Rc Node Global) → put id ≡ Some node → given t.next step id ≡ Some node.value → IsPut t step node.value → P id (record { refs = counts id; level = level_of node.value; place = Memory node (own_slot_in p.spare (before id)) }))
        → ((id : ℕ) (s : Spot) → before id ≡ Some s → put id ≡ None → given t.next step id ≡ None → P id (record s { refs = counts id }))
        → (id : ℕ) (s : Spot) → spots_of q id ≡ Some s → P id s
    each_new = each_stepped p.spare t step before (spots_of q) put count gone stepped

    new_count : (id : ℕ) → refs_in (spots_of q id) ≡ counts id
    new_count = new_refs p.spare t step before (spots_of q) put count gone stepped

    has_counts : HasCounts t step counts (table_of q)
    has_counts = record {
      count = new_count;
      level = λ id kept. new_level p.spare t step before (spots_of q) put count gone stepped id (subst (λ (n : ℕ). 1 ≤ n) (new_count id) kept);
      root = is.root_is;
      next = last_is;
    }

    new_table : IsTable (table_of q)
    new_table = is.table (table_of q) has_counts

    before_within : (id : ℕ) (o : Option Spot) → before id ≡ o → IfSome o (λ s. IsPlaceIn p.spare s.place)
    before_within id None there = tt
    before_within id (Some s) there = before_in id s there

    new_root_size : IsOfSize new_root.size (copy_in (spots_of q root))
    new_root_size = elim (ending root) [
      | goes nought none ↦ absurd (let some : 1 ≤ counts root = subst (λ (r : ℕ). 1 ≤ counts r) (sym is.root_is) is.recount.root in omega (arith, some, nought))
      | comes node put_there gives one at ↦
          subst (λ (o : Option Spot). IsOfSize new_root.size (copy_in o)) (sym at)
          (subst (λ (o : Option Node). IsNewRoot contents (spots_of p) root o new_root) gives root_given).1
      | remains s there not_put none one at ↦
          let found = copy_of_found contents (spots_of p) root new_root.size new_root.copy (subst (λ (o : Option Node). IsNewRoot contents (spots_of p) root o new_root) none root_given) in
          let node : Rc Node Global = found.0 in
          let copied_there : with_copy (Some node) (spots_of p root) ≡ Some s =
          sym (ap (λ (c : Option (Rc Node Global)). with_copy c (spots_of p root)) found.1)
          ∙ sym (cond-true (eqb root root) (with_copy new_root.copy (spots_of p root)) _ (eq-eqb root root refl)) ∙ there in
          let old = spot_of_copy node (spots_of p root) s copied_there in
          let copy : copy_at s.place ≡ Some node.value = ap copy_at old.2 ∙ copied_copy node old.0.place (copy_as (spots_of p root) old.0 node.value old.1 found.2.copy) in
          subst (λ (o : Option Spot). IsOfSize new_root.size (copy_in o)) (sym at) (subst (λ (o : Option Node). IsOfSize new_root.size o) (sym copy) found.3)
    ]

    moved_read : (id : ℕ) (n : Node) → (IsSome new_root.copy → id ≢ root) → IsRead contents p.is_lent (spots_of p id) n → IsRead contents p.is_lent (before id) n
    moved_read id n apart read = elim (moved_at (spots_of p) p.root root new_root.copy id) [
      | to_root same is_at ↦ subst (λ (o : Option Spot). IsRead contents p.is_lent o n) (sym (is_at ∙ no_copy new_root.copy (spots_of p id) (λ some. apart some same))) read
      | from_root is_at ↦ subst (λ (o : Option Spot). IsRead contents p.is_lent o n) (sym is_at) (without_read contents p.is_lent (spots_of p id) n read)
      | beside is_at ↦ subst (λ (o : Option Spot). IsRead contents p.is_lent o n) (sym is_at) read
    ]

    pub committed_paged : IsPaged contents q
    committed_paged = record {
      table = new_table;
      used = new_used p.spare t step before (spots_of q) put count gone stepped;
      placed = each_new (λ id s. IfSome (copy_at s.place) (IsOfLevel s.level)) (λ id node put_there gives may. record { shape = may.shape; level_is = refl }) (λ id s there not_put none. before_placed id s there);
      root = new_root_size;
      cached = λ id n kept.
          let same : spots_of q id ≡ with_count (count id) (before id) =
          is_left p.spare t step before (spots_of q) put count gone stepped id (forgotten.not_gone id n kept)
          ∙ ap (λ (o : Option (Rc Node Global)). with_count (count id) (with_put p.spare o (before id))) (forgotten.not_put id n kept) in
          subst (λ (o : Option Spot). IsRead contents p.is_lent o n) (sym same)
          (counted_read contents p.is_lent (count id) (before id) n (moved_read id n (forgotten.not_root id n kept) (was.cached id n (forgotten.kept id n kept))));
      levels = each_new (λ id s. s.level ≤ level_limit) (λ id node put_there gives may. level_within node.value may.shape)
          (λ id s there not_put none. before_each (λ i x. x.level ≤ level_limit) (λ i x low. low) (λ node x copy at low. low) was.levels id s there);
      held = was.held;
      spare = was.spare;
      slots = each_new (λ id s. IsPlaceIn p.spare s.place) (λ id node put_there gives may. put_in p.spare node (before id) (before_within id (before id) refl)) (λ id s there not_put none. before_in id s there);
      stored = each_new (λ id s. IsStoredAs p.spare p.saved.entries id s.level s.place) (λ id node put_there gives may. tt) (λ id s there not_put none. before_stored id s there);
      saved = λ id saved. omega (arith, was.saved id saved, last_is);
      entries = was.entries;
      tails = was.tails;
      ready = tt;
    }

    -- ---- names that were looked at, where no node goes or rises

    module _ (none : (id : ℕ) → times_among gone id ≡ 0) (low : (id : ℕ) (node : Rc Node Global) → put id ≡ Some node → IsNoHigherThan node.value (spots_of p id)) where
      still_counted : (id : ℕ) → IsThere t step id → 1 ≤ counts id
      still_counted id there = elim (cases_lt 0 (counts id)) [
        | inl some ↦ omega (arith, some)
        | inr nought ↦ absurd (omega (arith, none id, is.recount.goes id there (omega (arith, nought))))
      ]

      before_level : (id : ℕ) → level_in (before id) ≡ level_in (spots_of p id)
      before_level = before_same level_in (λ s. refl) (λ node s. refl)

      -- what was lower is lower still
      still_lower : (level id : ℕ) → IsLowerIn (spots_of p) level id → IsLowerIn (spots_of q) level id
      still_lower level id was_lower =
          let one : 1 ≤ counts id = still_counted id (inl was_lower.0) in (
            omega (arith, one, new_count id),
            elim (ending id) [
              | goes nought e ↦ absurd (omega (arith, one, nought))
              | comes node put_there gives some at ↦ omega (arith, was_lower.1, ap level_in at, no_higher node.value (spots_of p id) was_lower.0 (low id node put_there))
              | remains s there not_put e some at ↦ omega (arith, was_lower.1, ap level_in at, ap level_in there, before_level id)
            ],
          )

      -- and what the step puts names lower nodes
      put_lower : (id : ℕ) (node : Rc Node Global) → given t.next step id ≡ Some node.value → NamesLower (spots_of q) node.value
      put_lower id node gives =
          each_weaker (IsNamable t step (level_of node.value)) (IsLowerIn (spots_of q) (level_of node.value))
          (λ c may.
          let one : 1 ≤ counts c = still_counted c may.there in (
            omega (arith, one, new_count c),
            omega (arith, may.lower, new_level p.spare t step before (spots_of q) put count gone stepped c one),
          ))
          (names node.value) (given_put t step was.table is.ok id node.value gives).lower

      before_copy : (id : ℕ) (n : Node) → (IsSome new_root.copy → id ≢ root) → copy_in (before id) ≡ Some n → copy_in (spots_of p id) ≡ Some n
      before_copy id n apart copy = elim (moved_at (spots_of p) p.root root new_root.copy id) [
        | to_root same is_at ↦ sym (ap copy_in (is_at ∙ no_copy new_root.copy (spots_of p id) (λ some. apart some same))) ∙ copy
        | from_root is_at ↦ without_back (spots_of p id) n (sym (ap copy_in is_at) ∙ copy)
        | beside is_at ↦ sym (ap copy_in is_at) ∙ copy
      ]

      copy_lower : (id : ℕ) (n : Node) → (IsSome new_root.copy → id ≢ root) → copy_in (spots_of q id) ≡ Some n → (copy_in (spots_of p id) ≡ Some n) ⊎ NamesLower (spots_of q) n
      copy_lower id n apart copy = elim (ending id) [
        | goes nought e ↦ absurd (none-some n (sym (ap copy_in e) ∙ copy))
        | comes node put_there gives some at ↦ inr (subst (λ (m : Node). NamesLower (spots_of q) m) (same_Some node.value n (sym (ap copy_in at) ∙ copy)) (put_lower id node gives))
        | remains s there not_put e some at ↦ inl (before_copy id n apart (ap copy_in there ∙ sym (ap copy_in at) ∙ copy))
      ]

      still_there : (id : ℕ) → IsSome (spots_of p id) → IsSome (spots_of q id)
      still_there id some =
          let old = spot_of_some (spots_of p id) some in
          let kept : 1 ≤ refs_in (spots_of p id) = omega (arith, was.used id old.0 old.1, ap refs_in old.1) in
          kept_there (spots_of q) id (omega (arith, still_counted id (inl kept), new_count id))

      pub committed_tested : (marks now : Marks) → ((id : ℕ) → IsTrue (is_tested now id) → IsTrue (is_tested marks id)) → ((id : ℕ) → IsTrue (is_tested now id) → IsSome new_root.copy → id ≢ root)
          → AreTested (spots_of p) p.cache marks → AreTested (spots_of q) cache now
      committed_tested marks now fewer apart are =
          tested_then (spots_of p) (spots_of q) p.cache cache marks now fewer still_lower (λ id on. still_there id (are id (fewer id on)).there) (λ id n on. copy_lower id n (apart id on)) forgotten.kept are

    -- ---- what a store promises of it

    no_change : is_changed p.spare None ≡ true → ⊥
    no_change on = let e : false ≡ true = on in cc

    pub committed_table : IsTableAfter t step (table_of q)
    committed_table = record {
      table = new_table;
      root = is.root_is;
      next = last_is;
      level = has_counts.level;
      size = λ n gives. sym (subst (λ (o : Option Node). IsNewRoot contents (spots_of p) step.root o new_root) gives is.root_new).1;
      same_size = λ none same.
          found_size contents (spots_of p) step.root new_root.size p.size new_root.copy (subst (λ (o : Option Node). IsNewRoot contents (spots_of p) step.root o new_root) none is.root_new)
          (subst (λ (r : ℕ). IsOfSize p.size (copy_in (spots_of p r))) (sym same) was.root);
      touched = λ id on.
          let both = split_and (is_saved p.saved.entries id) (is_changed p.spare (spots_of q id)) on in
          elim (ending id) [
            | goes nought none ↦ absurd (no_change (sym (ap (is_changed p.spare) none) ∙ both.1))
            | comes node put_there gives one at ↦
                inr (subst (λ (o : Option Node). IsSome o) (sym (given_kept t step was.table is.ok id node.value (was.saved id both.0) gives).1) refl)
            | remains s there not_put none one at ↦
                inl (and_from (is_saved p.saved.entries id) (is_changed p.spare (spots_of p id)) both.0
                (sym (before_changed id) ∙ ap (is_changed p.spare) there ∙ sym (ap (is_changed p.spare) at) ∙ both.1))
          ];
    }

    kept_old : (id : ℕ) → id < p.next → IsKept (table_of q) id → IsKept t id
    kept_old id low kept = elim (is.recount.there id (subst (λ (n : ℕ). 1 ≤ n) (new_count id) kept)) [
      | inl old ↦ old
      | inr made ↦ absurd (omega (arith, low, made.0))
    ]

    before_right : (image : Image) → told contents ≡ image → IsSome contents → ((id : ℕ) (s : Spot) → spots_of p id ≡ Some s → IsRightPlace image s.place) → (id : ℕ) (s : Spot) → before id ≡ Some s → IsRightPlace image s.place
    before_right image image_is known = before_each (λ id s. IsRightPlace image s.place) (λ id s. bare_right image s.place)
        (λ node s copy there. copied_right image node s.place
        (sym (ap (node_of image) there) ∙ sym (ap (λ (i : Image). node_of i (spots_of p root)) image_is) ∙ (found_root node copy).there known))

    committed_known : is_known g p → is_known g q
    committed_known known = record {
      contents_told = known.contents_told;
      right = each_new (λ id s. IsRightPlace (told contents) s.place) (λ id node put_there gives may. tt)
          (λ id s there not_put none. before_right (told contents) refl known.contents_told known.right id s there);
    }

    -- what is put is in memory, and what goes is in no slot
    committed_bad : is_known g p → NoneTurnsBad contents (spots_of p) contents (spots_of q)
    committed_bad known id b bad = elim (ending id) [
      | goes nought none ↦ absurd (subst (λ (o : Option Spot). IsBadSpot contents o b) none bad)
      | comes node put_there gives one at ↦ absurd (subst (λ (o : Option Spot). IsBadSpot contents o b) at bad)
      | remains s there not_put none one at ↦
          moved_bad (spots_of p) p.root root new_root.copy contents known was.placed id b
          (subst (λ (o : Option Spot). IsBadSpot contents o b) (sym there) (subst (λ (o : Option Spot). IsBadSpot contents o b) at bad))
    ]

    pub committed_stays : StaysBy (is_known g) (KeepsSaved g) (λ (x : Paged D). let none : List ℕ = [] in none) p q
    committed_stays = record {
      known = committed_known;
      beside = record {
        device = no_reads g p.dev;
        lent = λ so. so;
        saved = refl;
        at = refl;
        spare = refl;
        touched = λ id low on kept.
            let both = split_and (is_saved p.saved.entries id) (is_changed p.spare (spots_of p id)) on in
            and_from (is_saved p.saved.entries id) (is_changed p.spare (spots_of q id)) both.0
            (elim (ending id) [
              | goes nought none ↦ absurd (omega (arith, kept, new_count id, nought))
              | comes node put_there gives one at ↦ ap (is_changed p.spare) at
              | remains s there not_put none one at ↦ ap (is_changed p.spare) at ∙ sym (ap (is_changed p.spare) there) ∙ before_changed id ∙ both.1
            ]);
        next = omega (arith, last_is);
        kept = kept_old;
        room = forgotten.room;
        known = committed_known;
        bad = committed_bad;
      };
      same_loans = refl;
    }

    -- ---- where the nodes are known

    module _ (known : is_known g p) (sound : IsSound (nodes_of g p) t) where
      before_node : (id : ℕ) → node_of (told contents) (before id) ≡ nodes_of g p id
      before_node = same_moved (spots_of p) p.root root new_root.copy (node_of (told contents)) (λ id s there. bare_node (told contents) s.place (known.right id s there))
          (λ node s copy there. copied_node (told contents) node s.place (sym (ap (node_of (told contents)) there) ∙ (found_root node copy).there known.contents_told))

      abbrev left : Nodes
      left = after (nodes_of g p) t step

      not_counted : (id : ℕ) → counts id ≡ 0 → counted counts left id ≡ None
      not_counted id nought = cond-true (eqb (counts id) 0) None (left id) (eq-eqb (counts id) 0 nought)

      is_counted : (id : ℕ) → 1 ≤ counts id → counted counts left id ≡ left id
      is_counted id one = cond-false (eqb (counts id) 0) None (left id) (ne_eqb (counts id) 0 (λ e. omega (arith, one, e)))

      new_nodes : (id : ℕ) → nodes_of g q id ≡ counted counts left id
      new_nodes id = elim (ending id) [
        | goes nought none ↦ ap (node_of (told contents)) none ∙ sym (not_counted id nought)
        | comes node put_there gives one at ↦ ap (node_of (told contents)) at ∙ sym (is_counted id one ∙ after-some (nodes_of g p) t step id node.value gives)
        | remains s there not_put none one at ↦
            ap (node_of (told contents)) at ∙ sym (ap (node_of (told contents)) there) ∙ before_node id ∙ sym (is_counted id one ∙ after-none (nodes_of g p) t step id none)
      ]

      root_size : HasRootSize left (table_of q)
      root_size = λ n there. by_given (buffer_size n ≡ new_root.size) (given t.next step root)
          (λ none.
          let found = copy_of_found contents (spots_of p) root new_root.size new_root.copy (subst (λ (o : Option Node). IsNewRoot contents (spots_of p) root o new_root) none root_given) in
          ap buffer_size (same_Some n found.0.value (sym there ∙ after-none (nodes_of g p) t step root none ∙ found.2.there known.contents_told)) ∙ found.3)
          (λ m some.
          ap buffer_size (same_Some n m (sym there ∙ after-some (nodes_of g p) t step root m some))
          ∙ (subst (λ (o : Option Node). IsNewRoot contents (spots_of p) root o new_root) some root_given).1)

      pub committed_nodes : IsCommitted (nodes_of g p) t step (nodes_of g q) (table_of q)
      committed_nodes =
          let same : nodes_of g q ≡ counted counts left = λ i id. new_nodes id i in
          subst (λ (m : Nodes). IsCommitted (nodes_of g p) t step m (table_of q)) (sym same) (is.commits known sound (table_of q) has_counts root_size)
