-- A pager in whose root more messages wait, over new nodes.
use Rattle.std.proofs.Common.{◌≡◌, ℕ, ◌+◌, ◌-◌, ◌<◌, ◌≤◌, Bool, true, false, cond, eqb, nat_eq, List, [], ◌∷◌, ◌++◌, length, Option, None, Some, IfSome, refl, sym, ap, subst, ◌∙◌, arith, inl, inr}
use Rattle.std.specs.Prelude.{IsSome}
use Rattle.std.specs.Global.{Global}
use Rattle.std.specs.HashMap.{get}
use Rattle.std.specs.List.{AllByRecursion, sum_by}
use Rattle.std.specs.Map.{lookup}
use Rattle.std.specs.Option.{option_map, unwrap_or}
use Rattle.std.specs.declared.rc.Rc.{Rc}
use Rattle.std.proofs.lemmas.Bool.{cases_eq, cases_lt, cond-true, cond-false, eq-eqb, ne_eqb}
use Rattle.std.proofs.lemmas.Option.{none-some, same_Some, slice_get_within}
use Rattle.std.proofs.lemmas.List.{map-append}
use Rattle.std.proofs.lemmas.List.Sums.{sum_by-cons}
use Rattle.bd_limits.specs.Limits.{buffer_limit}
use Rattle.bd_device.specs.Blocks.{Image}
use Rattle.bd_device.specs.declared.device.Device.{Ghosts}
use Rattle.bd_cache.specs.Cache.{kept_at}
use Rattle.bd_message.specs.declared.message.Message.{Message}
use Rattle.bd_message.specs.Messages.{IsMessage, size}
use Rattle.bd_node.specs.declared.node.Node.{Node}
use Rattle.bd_node.specs.declared.node.Change.{Change}
use Rattle.bd_node.specs.declared.node.Step.{Step}
use Rattle.bd_node.specs.Nodes.{level_of, appended, names, times}
use Rattle.bd_node.specs.Meaning.{Nodes}
use Rattle.bd_node.specs.Stores.{StaysBy}
use Rattle.bd_node.specs.Tables.{Table, IsTable, IsLower, IsSound, times_in, one_if, references}
use Rattle.bd_node.specs.Steps.{changed_at, given, given_times, after, IsChange, IsStep, IsRootOf, extend_step, added_times, IsTableAfter, IsCommitted}
use Rattle.bd_node.proofs.Lookup.{named_has}
use Rattle.bd_node.proofs.Sound.{kept_there, one_if-other}
use Rattle.bd_node.proofs.Stepping.{given-old, given-new, changed_has, after-none, by_given}
use Rattle.bd_node.proofs.Appending.{level_appended}
use Rattle.bd_node.proofs.Extending.{extend_above, root_inner, times_extended, given_extended, given_beside, extended_size, extended_as, added_fit}
use Rattle.bd_counts.specs.Naming.{times_among, step_names}
use Rattle.bd_counts.specs.Counting.{counted, IsRecount, IsOwing}
use Rattle.bd_counts.specs.Releasing.{IsReleasing}
use Rattle.bd_counts.proofs.Names.{step_names_times, step_names_there}
use Rattle.bd_counts.proofs.Recounting.{makes_table, settled_commits}
use Rattle.bd_counts.proofs.Settling.{begun_releasing}
use Rattle.bd_pager.specs.declared.committing.NewRoot.{NewRoot}
use Rattle.bd_pager.specs.declared.extending.Addition.{Addition}
use Rattle.bd_pager.specs.declared.place.Spot.{Spot}
use Rattle.bd_pager.specs.declared.stepping.Put.{Put}
use Rattle.bd_pager.specs.Committing.{IsNewRoot}
use Rattle.bd_pager.specs.Extending.{IsExtended, IsAdditionOf}
use Rattle.bd_pager.specs.Keeping.{KeepsSaved}
use Rattle.bd_pager.specs.Slots.{IsOfLevel}
use Rattle.bd_pager.specs.Testing.{Marks, AreTested, IsNoHigherThan}
use Rattle.bd_pager.specs.Places.{refs_in, copy_at, copy_in, node_of, told, IsLowerIn, IsRead}
use Rattle.bd_pager.specs.Pagers.{Paged, spots_of, table_of, nodes_of, is_known, IsOfSize, IsPaged}
use Rattle.bd_pager.specs.Stepping.{held, change_of, put_at, put_spot, with_put, with_count, with_copy, without_copy, without_all, moved_copy, made_changes}
use Rattle.bd_pager.proofs.AppendedLemmas.{root_copy, sized_copy}
use Rattle.bd_pager.proofs.CommittedLemmas.{AreGiven, AreForgotten, committed_tested}
use Rattle.bd_pager.proofs.FreshLemmas.{copy_at_place}
use Rattle.bd_pager.proofs.PuttingLemmas.{given_at, put_is}
use Rattle.bd_pager.proofs.StepLoops.{put_twice}
use Rattle.bd_pager.proofs.SteppedLemmas.{none_mapped}
use Rattle.bd_pager.proofs.StepsLemmas.{no_loans, IsMade, given_made, each_mapped, made_below, spot_below}
use Rattle.bd_pager.proofs.PagerLemmas.{named_lower, sound_lower}
use Rattle.bd_pager.proofs.ReaderLemmas.{copied_unread, copy_of_level}

none_counted : (b : Bool) (o : Option Node) → o ≡ None → cond b None o ≡ o
none_counted true o none = sym none
none_counted false o none = refl

-- ---- counts

module _ (t : Table) (root : Node) (made : List Node) (list : List Message) (table : IsTable t) (own : IsRootOf t root) where
  abbrev step : Step
  step = extend_step t root made list

  -- how often the nodes of the step name a node: what is added, and what the root named before
  given_all : (c : ℕ) → given_times step c ≡ added_times made list c + times root c
  given_all c =
      let inner : 1 ≤ _ = root_inner t root table own in
      omega (arith, times_extended root list c inner, sum_by-cons (λ (d : Change). times d.node c) (record { id = t.root; node = appended root list }) [])

  -- the root names no new node
  names_no_new : (id : ℕ) → t.next ≤ id → times root id ≡ 0
  names_no_new id high = elim (cases_lt (times root id) 1) [
    | inl none ↦ omega (arith, none)
    | inr one ↦
        let lower : IsLower t (t.level t.root) id = named_has (IsLower t (t.level t.root)) id (names root) own.of_table.lower (omega (arith, one)) in
        absurd (omega (arith, high, table.below id lower.kept))
  ]

  module _ (ok : IsStep t step) (counts : ℕ → ℕ) (are : (c : ℕ) → counts c ≡ t.count c + added_times made list c) where
    made_used : (id : ℕ) → t.next ≤ id → id < t.next + length made → 1 ≤ added_times made list id
    made_used id high low =
        let used : 1 ≤ given_times step id + one_if t.root id = ok.used id high low in
        let other : one_if t.root id ≡ 0 = one_if-other t.root id (λ e. omega (arith, e, high, table.below t.root table.root)) in
        omega (arith, used, other, given_all id, names_no_new id high)

    pub extended_recount : IsRecount t step counts []
    extended_recount = record {
      root = omega (arith, are t.root, table.root);
      there = λ id some. elim (cases_lt 0 (t.count id)) [
        | inl kept ↦ inl (omega (arith, kept))
        | inr new ↦ step_names_there t step ok id (omega (arith, some, new, are id, step_names_times step id, given_all id))
      ];
      goes = λ id there nought. elim there [
        | inl kept ↦ absurd (omega (arith, kept, nought, are id))
        | inr new ↦ absurd (omega (arith, nought, are id, made_used id new.0 new.1))
      ];
      only = λ id one. absurd (let none : 1 ≤ times_among [] id = one in omega (arith, none));
    }

    -- each node after it is counted
    extended_used : (nodes : Nodes) → IsSound nodes t → (id : ℕ) (n : Node) → after nodes t step id ≡ Some n → 1 ≤ counts id
    extended_used nodes s id n there =
        by_given (1 ≤ counts id) (given t.next step id)
        (λ none. omega (arith, are id, kept_there nodes t s id n (sym (after-none nodes t step id none) ∙ there)))
        (λ m some. elim (cases_lt id t.next) [
          | inl low ↦
              let change : IsChange t step (record { id = id; node = m }) = changed_has (IsChange t step) step.changes id m ok.changes (sym (given-old t.next step id low) ∙ some) in
              omega (arith, are id, change.kept)
          | inr high ↦
              let within : id - t.next < length made = slice_get_within made (id - t.next) m (sym (given-new t.next step id high) ∙ some) in
              omega (arith, are id, made_used id high (omega (arith, within, high)))
        ])

    counted_all : (nodes : Nodes) → IsSound nodes t → (id : ℕ) → counted counts (after nodes t step) id ≡ after nodes t step id
    counted_all nodes s id =
        by_given (counted counts (after nodes t step) id ≡ after nodes t step id) (after nodes t step id)
        (λ none. none_counted (eqb (counts id) 0) (after nodes t step id) none)
        (λ n there. cond-false (eqb (counts id) 0) None (after nodes t step id) (ne_eqb (counts id) 0 (λ e. omega (arith, e, extended_used nodes s id n there))))

    pub extended_owing : (nodes : Nodes) → IsSound nodes t → nodes t.root ≡ Some root → IsOwing nodes t step counts []
    extended_owing nodes s there =
        let owed : ℕ → ℕ = λ c. one_if t.root c + sum_by (λ (d : Change). times_in (nodes d.id) c) step.changes in
        let all : ℕ → ℕ = λ c. t.count c + times_among (step_names step) c in
        let begun : IsReleasing (after nodes t step) (t.next + length made) t.root (counted counts (after nodes t step)) all owed =
        begun_releasing nodes t step (counted counts (after nodes t step)) all owed s ok (extend_above nodes t root made list s) (counted_all nodes s) (λ c. refl) (λ c. refl) in
        record {
          closed = begun.closed;
          stays = begun.stays;
          used = λ id n at_id. extended_used nodes s id n (sym (counted_all nodes s id) ∙ at_id);
          exact = λ c.
              let exact : all c ≡ references (counted counts (after nodes t step)) (t.next + length made) t.root c + owed c = begun.exact c in
              let old : times_in (nodes t.root) c ≡ times root c = ap (λ o. times_in o c) there in
              omega (arith, are c, exact, step_names_times step c, given_all c, old, sum_by-cons (λ (d : Change). times_in (nodes d.id) c) (record { id = t.root; node = appended root list }) []);
        }

-- ---- the root

-- the root in memory, where what it names is looked at
pub root_seen : {D : Type 0} (contents : Option Image) (p : Paged D) → IsPaged contents p → (n : Node) × (copy_in (spots_of p p.root) ≡ Some n)
root_seen contents p was = root_copy (copy_in (spots_of p p.root)) (sized_copy p.size (copy_in (spots_of p p.root)) was.root)

pub root_of : {D : Type 0} (contents : Option Image) (p : Paged D) (n : Node) → IsPaged contents p → copy_in (spots_of p p.root) ≡ Some n → AllByRecursion (IsLowerIn (spots_of p) (level_of n)) (names n) → IsRootOf (table_of p) n
root_of contents p n was copy lower = record {
  of_table = named_lower p ((table_of p).level p.root) n (copy_of_level (spots_of p) p.root n was.placed copy) lower;
  size = subst (λ (o : Option Node). IsOfSize p.size o) copy was.root;
}

-- ---- spots

with_both : (spare : List Bool) (xs ys : List Put) (id : ℕ) (o : Option Spot) → with_put spare (put_at xs id) (with_put spare (put_at ys id) o) ≡ with_put spare (put_at (xs ++ ys) id) o
with_both spare [] ys id o = refl
with_both spare (x ∷ xs) ys id o = elim (cases_eq id x.id) [
  | inl same ↦
      ap (λ (p : Option (Rc Node Global)). with_put spare p (with_put spare (put_at ys id) o)) (cond-true (eqb id x.id) (Some x.node) (put_at xs id) (eq-eqb id x.id same))
      ∙ ap Some (put_twice spare x.node (put_at ys id) o)
      ∙ sym (ap (λ (p : Option (Rc Node Global)). with_put spare p o) (cond-true (eqb id x.id) (Some x.node) (put_at (xs ++ ys) id) (eq-eqb id x.id same)))
  | inr other ↦
      ap (λ (p : Option (Rc Node Global)). with_put spare p (with_put spare (put_at ys id) o)) (cond-false (eqb id x.id) (Some x.node) (put_at xs id) (ne_eqb id x.id other))
      ∙ with_both spare xs ys id o
      ∙ sym (ap (λ (p : Option (Rc Node Global)). with_put spare p o) (cond-false (eqb id x.id) (Some x.node) (put_at (xs ++ ys) id) (ne_eqb id x.id other)))
]

pub copied_there : (image : Image) (o : Option Spot) (n : Node) → copy_in o ≡ Some n → node_of image o ≡ Some n
copied_there image None n copy = absurd (none-some n copy)
copied_there image (Some s) n copy = copy_at_place image s.place n copy

-- where the root stays the root, no copy moves
unmoved : (b : Bool) (o : Option Spot) → cond b (with_copy None o) (cond b (without_copy o) o) ≡ o
unmoved true o = refl
unmoved false o = refl

pub read_spot : (contents : Option Image) (is_lent : Bool) (o : Option Spot) (n : Node) → IsRead contents is_lent o n → (s : Spot) × (o ≡ Some s)
read_spot contents is_lent None n read = absurd read
read_spot contents is_lent (Some s) n read = (s, refl)

none_copied : IsSome {T = Rc Node Global} None → ⊥
none_copied some = let e : false ≡ true = some in cc

module _ {D : Type 0} (g : Ghosts D) (p : Paged D) (n : Node) (made : List Node) (list : List Message) (addition : Addition) (entries : List (ℕ × Spot)) (bytes last visits : ℕ) where
  abbrev pub more : Paged D
  more = record p { spots = entries; size = bytes; next = last; visits = visits; written = None }

  module _ (was : IsPaged (g.contents p.dev) p) (copy : copy_in (spots_of p p.root) ≡ Some n) (lower : AllByRecursion (IsLowerIn (spots_of p) (level_of n)) (names n))
      (ok : IsStep (table_of p) (extend_step (table_of p) n made list)) (is : IsAdditionOf (table_of p) made list addition) (bytes_is : bytes ≡ p.size + sum_by size list) (last_is : last ≡ p.next + length made)
      (h : IsExtended p.spare p.root (appended n list) addition (spots_of p) (spots_of more)) where
    abbrev t : Table
    t = table_of p

    abbrev taken : Step
    taken = extend_step t n made list

    abbrev there : Spot
    there = h.changed.was

    copy_was : copy_at there.place ≡ Some n
    copy_was = sym (ap copy_in h.changed.there) ∙ copy

    node_was : IsOfLevel there.level n
    node_was = subst (λ (o : Option Node). IfSome o (IsOfLevel there.level)) copy_was (was.placed p.root there h.changed.there)

    own : IsRootOf t n
    own = root_of (g.contents p.dev) p n was copy lower

    abbrev node : Rc Node Global
    node = h.changed.changed.place.node

    abbrev root_put : Put
    root_put = record { id = p.root; node = node }

    abbrev put : ℕ → Option (Rc Node Global)
    put id = put_at (addition.puts.items ++ root_put ∷ []) id

    abbrev counts : ℕ → ℕ
    counts c = unwrap_or (get nat_eq addition.counts c) (t.count c)

    abbrev new_root : NewRoot
    new_root = record { copy = None; size = bytes }

    now_is : h.changed.now ≡ put_spot p.spare node (Some there)
    now_is = λ i. record {
      refs = h.changed.changed.refs i;
      level = (h.changed.changed.level ∙ sym node_was.level_is ∙ sym (level_appended n list) ∙ ap level_of (sym h.changed.changed.place.value)) i;
      place = h.changed.changed.place.place i;
    }

    mid_is : (id : ℕ) → h.mid id ≡ with_put p.spare (put_at (root_put ∷ []) id) (spots_of p id)
    mid_is id = elim (cases_eq id p.root) [
      | inl same ↦
          ap h.mid same ∙ h.changed.here ∙ ap Some now_is
          ∙ sym (ap (λ (o : Option Spot). Some (put_spot p.spare node o)) (ap (spots_of p) same ∙ h.changed.there))
          ∙ sym (ap (λ (o : Option (Rc Node Global)). with_put p.spare o (spots_of p id)) (cond-true (eqb id p.root) (Some node) None (eq-eqb id p.root same)))
      | inr other ↦
          h.changed.others id other
          ∙ sym (ap (λ (o : Option (Rc Node Global)). with_put p.spare o (spots_of p id)) (cond-false (eqb id p.root) (Some node) None (ne_eqb id p.root other)))
    ]

    given_as : (id : ℕ) → option_map held (put id) ≡ given t.next taken id
    given_as id =
        put_is (addition.puts.items ++ root_put ∷ []) id
        ∙ ap (λ (cs : List Change). changed_at cs id)
        (map-append change_of addition.puts.items (root_put ∷ [])
        ∙ ap (λ (cs : List Change). cs ++ change_of root_put ∷ []) is.puts
        ∙ ap (λ (m : Node). let c : Change = record { id = p.root; node = m } in made_changes t.next made ++ c ∷ []) h.changed.changed.place.value)
        ∙ given_at t taken was.table ok id

    recount : IsRecount t taken counts []
    recount = extended_recount t n made list was.table own ok counts is.counts

    given_all_of : AreGiven g p taken put (λ id. get nat_eq addition.counts id) [] p.root new_root
    given_all_of = record {
      ok = ok;
      given_is = given_as;
      recount = recount;
      table = makes_table t taken counts [] was.table ok recount;
      commits = λ known sound.
          settled_commits (nodes_of g p) t taken counts sound
          (extended_owing t n made list was.table own ok counts is.counts (nodes_of g p) sound
          (ap (node_of (told (g.contents p.dev))) h.changed.there ∙ copy_at_place (told (g.contents p.dev)) there.place n copy_was));
      root_is = refl;
      root_new = subst (λ (o : Option Node). IsNewRoot (g.contents p.dev) (spots_of p) p.root o new_root) (sym (given_extended t n made list was.table))
          (refl, extended_size t n list was.table own ∙ sym bytes_is);
    }

    carried : (id : ℕ) → spots_of more id ≡ without_all [] id (with_count (get nat_eq addition.counts id) (with_put p.spare (put id) (moved_copy p.root p.root None id (spots_of p id))))
    carried id =
        h.each id
        ∙ ap (λ (o : Option Spot). with_count (get nat_eq addition.counts id) o)
        (ap (λ (o : Option Spot). with_put p.spare (put_at addition.puts.items id) o) (mid_is id)
        ∙ with_both p.spare addition.puts.items (root_put ∷ []) id (spots_of p id)
        ∙ ap (λ (o : Option Spot). with_put p.spare (put id) o) (sym (unmoved (eqb id p.root) (spots_of p id))))

    not_cached : (id : ℕ) (m : Node) → kept_at p.cache id ≡ Some m → put id ≡ None
    not_cached id m kept =
        let spot = read_spot (g.contents p.dev) p.is_lent (spots_of p id) m (was.cached id m kept) in
        let low : id < p.next = was.table.below id (subst (λ (o : Option Spot). 1 ≤ refs_in o) (sym spot.1) (was.used id spot.0 spot.1)) in
        none_mapped (put id) (given_as id ∙ given_beside t n made list id low (λ same.
        copied_unread (g.contents p.dev) p.is_lent there.level there.place n m copy_was
        (subst (λ (o : Option Spot). IsRead (g.contents p.dev) p.is_lent o m) (ap (spots_of p) same ∙ h.changed.there) (was.cached id m kept))))

    forgotten : AreForgotten put [] p.root None p.cache p.cache
    forgotten = record { kept = λ id m kept. kept; not_put = not_cached; not_gone = λ id m kept. refl; not_root = λ id m kept some. absurd (none_copied some); room = refl }

    both : IsPaged (g.contents p.dev) more × IsMade g p taken more
    both = given_made g p taken put (λ id. get nat_eq addition.counts id) [] p.root new_root entries p.cache last visits was given_all_of last_is carried forgotten

    -- the root doesn't rise, and new nodes weren't there
    low : (id : ℕ) (r : Rc Node Global) → put id ≡ Some r → IsNoHigherThan r.value (spots_of p id)
    low id r is =
        let gives : given t.next taken id ≡ Some r.value = sym (given_as id) ∙ ap (option_map held) is in
        elim (cases_lt id t.next) [
          | inl below ↦ elim (cases_eq id p.root) [
            | inl same ↦
                let one : appended n list ≡ r.value = same_Some (appended n list) r.value (sym (given_extended t n made list was.table) ∙ ap (given t.next taken) (sym same) ∙ gives) in
                subst (λ (o : Option Spot). IsNoHigherThan r.value o) (sym (ap (spots_of p) same ∙ h.changed.there)) (omega (arith, ap level_of one, level_appended n list, node_was.level_is))
            | inr other ↦ absurd (none-some r.value (sym (given_beside t n made list id below other) ∙ gives))
          ]
          | inr high ↦ subst (λ (o : Option Spot). IsNoHigherThan r.value o) (sym (spot_below (spots_of p) p.next id (spots_of p id) refl high was.table.below was.used)) tt
        ]

    pub extended_tested : (marks : Marks) → AreTested (spots_of p) p.cache marks → AreTested (spots_of more) p.cache marks
    extended_tested marks are =
        committed_tested g p taken put (λ id. get nat_eq addition.counts id) [] p.root new_root entries p.cache last visits was given_all_of last_is carried forgotten
        (λ id. refl) low marks marks (λ id on. on) (λ id on some. absurd (none_copied some)) are

    pub extended_paged : IsPaged (g.contents p.dev) more
    extended_paged = both.0

    pub extended_table : (root : Node) → IsRootOf t root → IsTableAfter t (extend_step t root made list) (table_of more)
    extended_table root other = extended_as t n root made list (table_of more) was.table own other both.1.table

    pub extended_stays : StaysBy (is_known g) (KeepsSaved g) no_loans p more
    extended_stays = both.1.stays

    pub extended_committed : is_known g p → IsSound (nodes_of g p) t → (root : Node) → nodes_of g p p.root ≡ Some root → IsCommitted (nodes_of g p) t (extend_step t root made list) (nodes_of g more) (table_of more)
    extended_committed known sound root at_root =
        let one : n ≡ root = same_Some n root (sym (ap (node_of (told (g.contents p.dev))) h.changed.there ∙ copy_at_place (told (g.contents p.dev)) there.place n copy_was) ∙ at_root) in
        subst (λ (m : Node). IsCommitted (nodes_of g p) t (extend_step t m made list) (nodes_of g more) (table_of more)) one (both.1.committed known sound)

-- ---- whatever the root is

-- the messages are well-formed, and there is room for them
pub extended_fit : (t : Table) (n : Node) (made : List Node) (list : List Message) → IsTable t → IsRootOf t n → IsStep t (extend_step t n made list) → AllByRecursion IsMessage list × (t.size + sum_by size list ≤ buffer_limit)
extended_fit t n made list table own ok =
    let fit = added_fit n list (root_inner t n table own) ok.changes.0.put.shape in
    (fit.0, omega (arith, fit.1, own.size))

-- all that holds then
pub record IsGrownBy {D : Type 0} (g : Ghosts D) (p : Paged D) (made : List Node) (list : List Message) (new : Paged D) : Type 0 where
  pub table : (root : Node) → IsRootOf (table_of p) root → IsTableAfter (table_of p) (extend_step (table_of p) root made list) (table_of new)
  pub stays : StaysBy (is_known g) (KeepsSaved g) no_loans p new
  pub committed : is_known g p → IsSound (nodes_of g p) (table_of p) → (root : Node) → nodes_of g p p.root ≡ Some root → IsCommitted (nodes_of g p) (table_of p) (extend_step (table_of p) root made list) (nodes_of g new) (table_of new)

module _ {D : Type 0} (g : Ghosts D) (p : Paged D) (made : List Node) (list : List Message) (was : IsPaged (g.contents p.dev) p) (ok : (root : Node) → IsRootOf (table_of p) root → IsStep (table_of p) (extend_step (table_of p) root made list))
    (looked : (n : Node) → copy_in (spots_of p p.root) ≡ Some n → AllByRecursion (IsLowerIn (spots_of p) (level_of n)) (names n)) where
  abbrev seen_root : Node
  seen_root = (root_seen (g.contents p.dev) p was).0

  copy_seen : copy_in (spots_of p p.root) ≡ Some seen_root
  copy_seen = (root_seen (g.contents p.dev) p was).1

  own_seen : IsRootOf (table_of p) seen_root
  own_seen = root_of (g.contents p.dev) p seen_root was copy_seen (looked seen_root copy_seen)

  pub list_fits : AllByRecursion IsMessage list × (p.size + sum_by size list ≤ buffer_limit)
  list_fits = extended_fit (table_of p) seen_root made list was.table own_seen (ok seen_root own_seen)

  pub pager_extended : (addition : Addition) (entries : List (ℕ × Spot)) (spare : List Bool) (bytes last visits : ℕ) → IsAdditionOf (table_of p) made list addition → bytes ≡ p.size + sum_by size list → last ≡ p.next + length made → spare ≡ p.spare
      → ((n : Node) → copy_in (spots_of p p.root) ≡ Some n → IsExtended p.spare p.root (appended n list) addition (spots_of p) (λ id. lookup (nat_eq id) entries))
      → IsPaged (g.contents p.dev) (record p { spots = entries; spare = spare; size = bytes; next = last; visits = visits; written = None })
      × IsGrownBy g p made list (record p { spots = entries; spare = spare; size = bytes; next = last; visits = visits; written = None })
  pager_extended addition entries spare bytes last visits is bytes_is last_is spare_is extended =
      let n : Node = seen_root in
      let lower = looked n copy_seen in
      let step_ok = ok n own_seen in
      let h = extended n copy_seen in
      subst (λ (s : List Bool). let q : Paged D = record p { spots = entries; spare = s; size = bytes; next = last; visits = visits; written = None } in IsPaged (g.contents p.dev) q × IsGrownBy g p made list q) (sym spare_is) (
        extended_paged g p n made list addition entries bytes last visits was copy_seen lower step_ok is bytes_is last_is h,
        record {
          table = extended_table g p n made list addition entries bytes last visits was copy_seen lower step_ok is bytes_is last_is h;
          stays = extended_stays g p n made list addition entries bytes last visits was copy_seen lower step_ok is bytes_is last_is h;
          committed = extended_committed g p n made list addition entries bytes last visits was copy_seen lower step_ok is bytes_is last_is h;
        },
      )

  pub pager_tested : (addition : Addition) (entries : List (ℕ × Spot)) (bytes last visits : ℕ) → IsAdditionOf (table_of p) made list addition → bytes ≡ p.size + sum_by size list → last ≡ p.next + length made
      → ((n : Node) → copy_in (spots_of p p.root) ≡ Some n → IsExtended p.spare p.root (appended n list) addition (spots_of p) (λ id. lookup (nat_eq id) entries))
      → (marks : Marks) → AreTested (spots_of p) p.cache marks → AreTested (λ id. lookup (nat_eq id) entries) p.cache marks
  pager_tested addition entries bytes last visits is bytes_is last_is extended =
      extended_tested g p seen_root made list addition entries bytes last visits was copy_seen (looked seen_root copy_seen) (ok seen_root own_seen) is bytes_is last_is (extended seen_root copy_seen)

pub addition_below : (t : Table) (made : List Node) (list : List Message) (addition : Addition) → IsAdditionOf t made list addition → AllByRecursion (λ (put : Put). put.id < t.next + length made) addition.puts.items
addition_below t made list addition is =
    let limit : ℕ = t.next + length made in
    each_mapped (λ (c : Change). c.id < limit) change_of addition.puts.items
    (subst (λ (cs : List Change). AllByRecursion (λ (c : Change). c.id < limit) cs) (sym is.puts) (made_below made t.next limit (omega arith)))

-- where what the root names can't be right, the nodes aren't sound
pub unsound_root : {D : Type 0} (g : Ghosts D) (p : Paged D) (n : Node) → IsPaged (g.contents p.dev) p → copy_in (spots_of p p.root) ≡ Some n → IsSound (nodes_of g p) (table_of p) → AllByRecursion (IsLowerIn (spots_of p) (level_of n)) (names n)
unsound_root g p n was copy sound = sound_lower (nodes_of g p) p p.root n was.table.root (copied_there (told (g.contents p.dev)) (spots_of p p.root) n copy) sound
