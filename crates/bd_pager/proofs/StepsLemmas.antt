-- A step of a pager, after what it needs was read.
use Rattle.std.proofs.Common.{◌≡◌, ℕ, suc, ◌+◌, ◌-◌, ◌^◌, ◌<◌, ◌≤◌, Bool, true, false, nat_eq, List, [], ◌∷◌, length, map, Option, None, Some, IfSome, refl, sym, ap, subst, ◌∙◌, arith, inl, inr}
use Rattle.std.specs.Prelude.{SomeIff, is_some, not}
use Rattle.std.specs.Global.{Global}
use Rattle.std.specs.HashMap.{get}
use Rattle.std.specs.List.{AllByRecursion}
use Rattle.std.specs.Map.{lookup}
use Rattle.std.specs.Option.{option_map}
use Rattle.std.specs.declared.rc.Rc.{Rc}
use Rattle.std.proofs.lemmas.Option.{none-some}
use Rattle.bd_limits.specs.Limits.{level_limit}
use Rattle.bd_device.specs.Blocks.{Image}
use Rattle.bd_device.specs.declared.device.Device.{Ghosts}
use Rattle.bd_cache.specs.declared.cache.NodeCache.{NodeCache}
use Rattle.bd_node.specs.declared.node.Node.{Node}
use Rattle.bd_node.specs.declared.node.Change.{Change}
use Rattle.bd_node.specs.declared.node.Step.{Step}
use Rattle.bd_node.specs.Meaning.{Nodes}
use Rattle.bd_node.specs.Shape.{IsShape}
use Rattle.bd_node.specs.Stores.{OnlyReadsBy, StaysBy}
use Rattle.bd_node.specs.Tables.{Table, IsKept, IsTable, IsSound}
use Rattle.bd_node.specs.Steps.{changed_at, given, IsChange, IsStep, IsThere, IsTableAfter, IsCommitted}
use Rattle.bd_node.proofs.Lookup.{each_both, each_weaker}
use Rattle.bd_node.proofs.Stepping.{given-new}
use Rattle.bd_counts.specs.Naming.{times_among}
use Rattle.bd_pager.specs.declared.committing.NewRoot.{NewRoot}
use Rattle.bd_pager.specs.declared.committing.Plan.{Plan}
use Rattle.bd_pager.specs.declared.place.Spot.{Spot}
use Rattle.bd_pager.specs.declared.stepping.Put.{Put}
use Rattle.bd_pager.specs.declared.usage.Usage.{Usage}
use Rattle.bd_pager.specs.Calling.{no_reads, read_both, read_keeps, keeps_both}
use Rattle.bd_pager.specs.Committing.{IsPlanOf, carried_spot, IsForgotten}
use Rattle.bd_pager.specs.Counting.{IsTallied}
use Rattle.bd_pager.specs.Keeping.{KeepsSaved}
use Rattle.bd_pager.specs.Places.{Spots, refs_in, copy_in, nodes_at, AreCached, ArePlaced}
use Rattle.bd_pager.specs.Pagers.{Paged, spots_of, touched_at, table_at, table_of, nodes_of, IsKnownOver, is_known, IsOfSize, IsPlaceIn, IsStoredAs, IsReady, IsPaged, IsReadOf}
use Rattle.bd_pager.specs.Stepping.{held, change_of, put_at, with_put, with_count, without_all, moved_copy, made_changes, given_changes}
use Rattle.bd_pager.specs.Testing.{Marks, AreTested, AreStillTested}
use Rattle.bd_pager.proofs.CommittedLemmas.{AreGiven, AreForgotten, committed_paged, committed_table, committed_stays, committed_nodes, committed_tested}
use Rattle.bd_pager.proofs.PuttingLemmas.{given_at, put_is}
use Rattle.bd_pager.proofs.SteppedLemmas.{given_put, slice_get_some}
use Rattle.bd_pager.proofs.CountingLemmas.{wider_tallied}
use Rattle.bd_pager.proofs.TestedLemmas.{each_low}

-- nothing is lent
abbrev pub no_loans : {D : Type 0} → Paged D → List ℕ
no_loans p = []

abbrev pub OnlyReadsOf : {D : Type 0} → Ghosts D → Paged D → Paged D → Type 0
OnlyReadsOf g old new = OnlyReadsBy (is_known g) (nodes_of g) table_of (IsReadOf g) no_loans old new

-- all that holds after a step
pub record IsMade {D : Type 0} (g : Ghosts D) (p : Paged D) (step : Step) (new : Paged D) : Type 0 where
  pub table : IsTableAfter (table_of p) step (table_of new)
  pub stays : StaysBy (is_known g) (KeepsSaved g) no_loans p new
  pub committed : is_known g p → IsSound (nodes_of g p) (table_of p) → IsCommitted (nodes_of g p) (table_of p) step (nodes_of g new) (table_of new)

-- reads before it leave that
pub made_after : {D : Type 0} (g : Ghosts D) (old p : Paged D) (step : Step) (new : Paged D) → OnlyReadsOf g old p → IsMade g p step new → IsMade g old step new
made_after g old p step new left made = record {
  table = subst (λ (t : Table). IsTableAfter t step (table_of new)) left.table made.table;
  stays = record {
    known = λ known. made.stays.known (left.known known);
    beside = keeps_both g old p new (read_keeps g old p left.read) made.stays.beside;
    same_loans = refl;
  };
  committed = λ known sound.
      let nodes : nodes_of g p ≡ nodes_of g old = left.kept known in
      let sound_then : IsSound (nodes_of g p) (table_of p) =
      subst (λ (t : Table). IsSound (nodes_of g p) t) (sym left.table) (subst (λ (n : Nodes). IsSound n (table_of old)) (sym nodes) sound) in
      subst (λ (n : Nodes). IsCommitted n (table_of old) step (nodes_of g new) (table_of new)) nodes
      (subst (λ (t : Table). IsCommitted (nodes_of g p) t step (nodes_of g new) (table_of new)) left.table (made.committed (left.known known) sound_then));
}

module _ {D : Type 0} (g : Ghosts D) (p : Paged D) (step : Step) (put : ℕ → Option (Rc Node Global)) (count : ℕ → Option ℕ) (gone : List ℕ) (root : ℕ) (new_root : NewRoot) (entries : List (ℕ × Spot)) (cache : NodeCache) (last visits : ℕ) where
  abbrev q : Paged D
  q = record p { spots = entries; root = root; size = new_root.size; next = last; visits = visits; cache = cache; written = None }

  pub given_made : IsPaged (g.contents p.dev) p → AreGiven g p step put count gone root new_root → last ≡ p.next + length step.made
      → ((id : ℕ) → spots_of q id ≡ without_all gone id (with_count (count id) (with_put p.spare (put id) (moved_copy p.root root new_root.copy id (spots_of p id)))))
      → AreForgotten put gone root new_root.copy p.cache cache → IsPaged (g.contents p.dev) q × IsMade g p step q
  given_made was is last_is carried forgotten = (
    committed_paged g p step put count gone root new_root entries cache last visits was is last_is carried forgotten,
    record {
      table = committed_table g p step put count gone root new_root entries cache last visits was is last_is carried forgotten;
      stays = committed_stays g p step put count gone root new_root entries cache last visits was is last_is carried forgotten;
      committed = committed_nodes g p step put count gone root new_root entries cache last visits was is last_is carried forgotten;
    },
  )

-- ---- a plan

-- what was planned is planned still after reads
pub planned_after : {D : Type 0} (g : Ghosts D) (old p : Paged D) (step : Step) (plan : Plan) → OnlyReadsOf g old p → IsPlanOf (g.contents old.dev) (spots_of old) (table_of old) step plan
    → IsPlanOf (g.contents p.dev) (spots_of p) (table_of p) step plan
planned_after g old p step plan left is =
    subst (λ (c : Option Image). IsPlanOf c (spots_of p) (table_of p) step plan) (sym left.read.device.kept)
    (subst (λ (s : Spots). IsPlanOf (g.contents old.dev) s (table_of p) step plan) (sym left.read.spots)
    (subst (λ (t : Table). IsPlanOf (g.contents old.dev) (spots_of old) t step plan) (sym left.table) is))

pub plan_forgotten : (plan : Plan) (old new : NodeCache) → IsForgotten plan old new → AreForgotten (λ id. put_at plan.puts.items id) plan.recount.gone.items plan.root plan.new_root.copy old new
plan_forgotten plan old new h = record { kept = h.kept; not_put = h.put; not_gone = h.gone; not_root = h.root; room = h.room }

-- ---- the nodes that it puts

module _ (t : Table) (step : Step) (puts : List Put) (table : IsTable t) (ok : IsStep t step) (are : map change_of puts ≡ given_changes t.next step) where
  pub puts_given : (id : ℕ) → option_map held (put_at puts id) ≡ given t.next step id
  puts_given id = put_is puts id ∙ ap (λ (cs : List Change). changed_at cs id) are ∙ given_at t step table ok id

  -- each is well-formed
  put_shape : (id : ℕ) (o : Option (Rc Node Global)) → put_at puts id ≡ o → IfSome o (λ node. IsShape node.value)
  put_shape id None there = tt
  put_shape id (Some node) there = (given_put t step table ok id node.value (sym (puts_given id) ∙ ap (option_map held) there)).shape

  pub puts_shape : (id : ℕ) → IfSome (put_at puts id) (λ node. IsShape node.value)
  puts_shape id = put_shape id (put_at puts id) refl

  -- what is there and isn't put is kept
  pub unput_kept : (id : ℕ) → IsThere t step id → put_at puts id ≡ None → IsKept t id
  unput_kept id there none = elim there [
    | inl kept ↦ kept
    | inr made ↦
        let some = slice_get_some step.made (id - t.next) (omega (arith, made.0, made.1)) in
        absurd (none-some some.0 (sym (sym (puts_given id) ∙ ap (option_map held) none) ∙ given-new t.next step id made.0 ∙ some.1))
  ]

pub plan_given : {D : Type 0} (g : Ghosts D) (p : Paged D) (step : Step) (plan : Plan) → IsTable (table_of p) → IsStep (table_of p) step → IsPlanOf (g.contents p.dev) (spots_of p) (table_of p) step plan
    → AreGiven g p step (λ id. put_at plan.puts.items id) (λ id. get nat_eq plan.recount.counts id) plan.recount.gone.items plan.root plan.new_root
plan_given g p step plan table ok is = record {
  ok = ok;
  given_is = puts_given (table_of p) step plan.puts.items table ok is.puts;
  recount = is.recount.counts;
  table = is.recount.table;
  commits = is.recount.commits;
  root_is = is.root;
  root_new = is.root_is;
}

-- ---- which ids it names

pub made_below : (made : List Node) (next limit : ℕ) → next + length made ≤ limit → AllByRecursion (λ (c : Change). c.id < limit) (made_changes next made)
made_below [] next limit low = tt
made_below (n ∷ ns) next limit low = (omega (arith, low), made_below ns (suc next) limit (omega (arith, low)))

pub each_mapped : {A B : Type 0} (P : B → Type 0) (f : A → B) (xs : List A) → AllByRecursion P (map f xs) → AllByRecursion (λ x. P (f x)) xs
each_mapped P f [] h = tt
each_mapped P f (x ∷ xs) h = (h.0, each_mapped P f xs h.1)

pub puts_below : (t : Table) (step : Step) (puts : List Put) → IsTable t → IsStep t step → map change_of puts ≡ given_changes t.next step → AllByRecursion (λ (put : Put). put.id < t.next + length step.made) puts
puts_below t step puts table ok is =
    let limit : ℕ = t.next + length step.made in
    each_mapped (λ (c : Change). c.id < limit) change_of puts
    (subst (λ (cs : List Change). AllByRecursion (λ (c : Change). c.id < limit) cs) (sym is)
    (each_both (λ (c : Change). c.id < limit) (made_changes t.next step.made) step.changes
    (made_below step.made t.next limit (omega arith))
    (each_weaker (IsChange t step) (λ (c : Change). c.id < limit) (λ c change. omega (arith, table.below c.id change.kept)) step.changes ok.changes)))

pub there_below : (t : Table) (step : Step) → IsTable t → (id : ℕ) → IsThere t step id → id < t.next + length step.made
there_below t step table id there = elim there [
  | inl kept ↦ omega (arith, table.below id kept)
  | inr made ↦ made.1
]

pub spot_below : (spots : Spots) (next id : ℕ) (o : Option Spot) → spots id ≡ o → next ≤ id → ((i : ℕ) → 1 ≤ refs_in (spots i) → i < next) → ((i : ℕ) (s : Spot) → spots i ≡ Some s → 1 ≤ s.refs) → o ≡ None
spot_below spots next id None there high below used = refl
spot_below spots next id (Some s) there high below used = absurd (omega (arith, high, below id (subst (λ (x : Option Spot). 1 ≤ refs_in x) (sym there) (used id s there))))

-- no more ids are known of than there are, so there may be more
pub tallied_more : {D : Type 0} (contents : Option Image) (p : Paged D) (more : ℕ) (u : Usage) → IsPaged contents p → p.next + more < 2 ^ 64 → IsTallied p.next (spots_of p) u → IsTallied (p.next + more) (spots_of p) u
tallied_more contents p more u was fits tallied =
    wider_tallied p.next more (spots_of p) u fits (λ id high. spot_below (spots_of p) p.next id (spots_of p id) refl high was.table.below was.used) tallied

-- ---- a plan that was carried out

module _ {D : Type 0} (g : Ghosts D) (old p : Paged D) (step : Step) (plan : Plan) (was : IsPaged (g.contents p.dev) p) (ok : IsStep (table_of old) step) (left : OnlyReadsOf g old p)
    (planned : IsPlanOf (g.contents old.dev) (spots_of old) (table_of old) step plan) where
  step_then : IsStep (table_of p) step
  step_then = subst (λ (t : Table). IsStep t step) (sym left.table) ok

  plan_then : IsPlanOf (g.contents p.dev) (spots_of p) (table_of p) step plan
  plan_then = planned_after g old p step plan left planned

  pub plan_fits : p.next + length step.made < 2 ^ 64
  plan_fits = plan_then.fits

  pub plan_below : AllByRecursion (λ (put : Put). put.id < p.next + length step.made) plan.puts.items
  plan_below = puts_below (table_of p) step plan.puts.items was.table step_then plan_then.puts

  pub gone_below : (id : ℕ) → 1 ≤ times_among plan.recount.gone.items id → id < p.next + length step.made
  gone_below id one = there_below (table_of p) step was.table id (plan_then.recount.counts.only id one).0

  module _ (entries : List (ℕ × Spot)) (cache : NodeCache) (spare : List Bool) (last visits : ℕ) where
    abbrev pub done : Paged D
    done = record p { spots = entries; spare = spare; root = plan.root; size = plan.new_root.size; next = last; visits = visits; cache = cache; written = None }

    pub plan_made : spare ≡ p.spare → last ≡ p.next + length step.made → ((id : ℕ) → spots_of done id ≡ carried_spot p.spare p.root plan (spots_of p) id) → IsForgotten plan p.cache cache
        → IsPaged (g.contents p.dev) done × IsMade g old step done
    plan_made spare_is last_is carried forgotten =
        let made = given_made g p step (λ id. put_at plan.puts.items id) (λ id. get nat_eq plan.recount.counts id) plan.recount.gone.items plan.root plan.new_root entries cache last visits
        was (plan_given g p step plan was.table step_then plan_then) last_is carried (plan_forgotten plan p.cache cache forgotten) in
        subst (λ (s : List Bool). let q : Paged D = record done { spare = s } in IsPaged (g.contents p.dev) q × IsMade g old step q) (sym spare_is)
        (made.0, made_after g old p step (record done { spare = p.spare }) left made.1)

    -- what counts still as tested is
    pub plan_tested : last ≡ p.next + length step.made → ((id : ℕ) → spots_of done id ≡ carried_spot p.spare p.root plan (spots_of p) id) → IsForgotten plan p.cache cache
        → (marks now : Marks) → AreStillTested plan (spots_of p) marks now → AreTested (spots_of p) p.cache marks → AreTested (spots_of done) cache now
    plan_tested last_is carried forgotten marks now still are id on =
        committed_tested g p step (λ id. put_at plan.puts.items id) (λ id. get nat_eq plan.recount.counts id) plan.recount.gone.items plan.root plan.new_root entries cache last visits
        was (plan_given g p step plan was.table step_then plan_then) last_is carried (plan_forgotten plan p.cache cache forgotten)
        (λ c. ap (λ (gone : List ℕ). times_among gone c) (still.none_gone id on))
        (λ c node is. each_low (spots_of p) plan.puts.items c node (still.low id on) is)
        marks now still.tested still.root are id on

-- ---- where memory was wanting

-- the same nodes, in perhaps another order
pub reordered : {D : Type 0} (g : Ghosts D) (p : Paged D) (entries : List (ℕ × Spot)) → spots_of p ≡ (λ id. lookup (nat_eq id) entries) → IsPaged (g.contents p.dev) p → IsPaged (g.contents p.dev) (record p { spots = entries })
reordered {D} g p entries same was =
    let along = λ (P : Spots → Type 0) (h : P (spots_of p)). subst P same h in
    record {
      table = along (λ s. IsTable (table_at s p.root p.size p.next (touched_at p.saved.entries p.spare s))) was.table;
      used = along (λ s. (id : ℕ) (x : Spot) → s id ≡ Some x → 1 ≤ x.refs) was.used;
      placed = along ArePlaced was.placed;
      root = along (λ s. IsOfSize p.size (copy_in (s p.root))) was.root;
      cached = along (λ s. AreCached (g.contents p.dev) p.is_lent s p.cache) was.cached;
      levels = along (λ s. (id : ℕ) (x : Spot) → s id ≡ Some x → x.level ≤ level_limit) was.levels;
      held = was.held;
      spare = was.spare;
      slots = along (λ s. (id : ℕ) (x : Spot) → s id ≡ Some x → IsPlaceIn p.spare x.place) was.slots;
      stored = along (λ s. (id : ℕ) (x : Spot) → s id ≡ Some x → IsStoredAs p.spare p.saved.entries id x.level x.place) was.stored;
      saved = was.saved;
      entries = was.entries;
      tails = was.tails;
      ready = along (λ s. IfSome p.written (IsReady p.spare s p.root p.next)) was.ready;
    }

-- is what reads may leave
pub unchanged : {D : Type 0} (g : Ghosts D) (p : Paged D) (entries : List (ℕ × Spot)) → spots_of p ≡ (λ id. lookup (nat_eq id) entries) → OnlyReadsOf g p (record p { spots = entries })
unchanged {D} g p entries same =
    let q : Paged D = record p { spots = entries } in
    let back : spots_of q ≡ spots_of p = sym same in
    record {
      table = ap (λ (s : Spots). table_at s p.root p.size p.next (touched_at p.saved.entries p.spare s)) back;
      known = λ known. subst (λ (s : Spots). IsKnownOver (g.contents p.dev) s) same known;
      kept = λ known. ap (λ (s : Spots). nodes_at (g.contents p.dev) s) back;
      read = record { device = no_reads g p.dev; lent = λ so. so; spots = back; room = refl; rest = refl };
      same_loans = refl;
    }

pub reads_after : {D : Type 0} (g : Ghosts D) (a b c : Paged D) → OnlyReadsOf g a b → OnlyReadsOf g b c → OnlyReadsOf g a c
reads_after g a b c p q = record {
  table = q.table ∙ p.table;
  known = λ known. q.known (p.known known);
  kept = λ known. q.kept (p.known known) ∙ p.kept known;
  read = read_both g a b c p.read q.read;
  same_loans = refl;
}

-- and so no more than any call may
pub reads_stay : {D : Type 0} (g : Ghosts D) (a b : Paged D) → OnlyReadsOf g a b → StaysBy (is_known g) (KeepsSaved g) no_loans a b
reads_stay g a b left = record { known = left.known; beside = read_keeps g a b left.read; same_loans = refl }

-- a sum that was tested
pub fits_if : (r : Option ℕ) (b : Bool) (n : ℕ) → SomeIff r (n < 2 ^ 64) n → is_some r ≡ not b → b ≡ false → n < 2 ^ 64
fits_if None b n sum is off = absurd (let e : false ≡ true = is ∙ ap not off in cc)
fits_if (Some m) b n sum is off = sum.0
