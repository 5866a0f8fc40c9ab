-- A pager in which messages went down from a node to its child.
use Rattle.std.proofs.Common.{◌≡◌, ◌≢◌, ℕ, ◌<◌, ◌⊎◌, Bool, true, false, cond, eqb, nat_eq, is_some, IsTrue, List, [], ◌∷◌, map, Option, None, Some, IfSome, refl, sym, ap, subst, ◌∙◌, arith, inl, inr}
use Rattle.std.specs.Prelude.{IsSome, MatchOption}
use Rattle.std.specs.Global.{Global}
use Rattle.std.specs.List.{AllByRecursion}
use Rattle.std.specs.Map.{lookup}
use Rattle.std.specs.Option.{option_map}
use Rattle.std.specs.Rc.{rc_with_value}
use Rattle.std.specs.declared.rc.Rc.{Rc}
use Rattle.std.proofs.lemmas.Bool.{cases_eq, cases_lt, cond-true, cond-false, eq-eqb, ne_eqb}
use Rattle.std.proofs.lemmas.Option.{none-some, same_Some}
use Rattle.bd_device.specs.Blocks.{Image}
use Rattle.bd_device.specs.declared.device.Device.{Ghosts}
use Rattle.bd_cache.specs.Cache.{kept_at, room_of}
use Rattle.bd_cache.specs.declared.cache.NodeCache.{NodeCache}
use Rattle.bd_node.specs.declared.node.Change.{Change}
use Rattle.bd_node.specs.declared.node.Node.{Node}
use Rattle.bd_node.specs.declared.node.Step.{Step}
use Rattle.bd_node.specs.declared.push.Gain.{Gain}
use Rattle.bd_node.specs.declared.push.Gain.TheVariants.{Messages, Entries}
use Rattle.bd_node.specs.declared.push.Push.{Push}
use Rattle.bd_node.specs.Nodes.{level_of, buffer_size, names, appended}
use Rattle.bd_node.specs.Meaning.{Nodes}
use Rattle.bd_node.specs.Pushes.{IsRelieved, gained, push_step, IsGain, HasRoomFor, CanMake, IsPush, CanPush, IsPushStep, HasPushed, IsPushed}
use Rattle.bd_node.specs.Shape.{IsShape}
use Rattle.bd_node.specs.Steps.{given, changed_at}
use Rattle.bd_node.specs.Stores.{StaysBy}
use Rattle.bd_node.specs.Tables.{Table, IsKept, IsSound}
use Rattle.bd_node.proofs.Appending.{shape_appended, level_appended, names_appended}
use Rattle.bd_node.proofs.Stepping.{by_given, given-old, given-new, changed_at-same, changed_at-other}
use Rattle.bd_pager.specs.declared.place.Place.{Place}
use Rattle.bd_pager.specs.declared.place.Place.TheVariants.{Memory}
use Rattle.bd_pager.specs.declared.place.Spot.{Spot}
use Rattle.bd_pager.specs.declared.stepping.Put.{Put}
use Rattle.bd_pager.specs.declared.usage.Tally.{Tally}
use Rattle.bd_pager.specs.declared.usage.Usage.{Usage}
use Rattle.bd_pager.specs.declared.usage.TheConstants.{IN_MEMORY}
use Rattle.bd_pager.specs.Calling.{read_keeps, read_known, keeps_both}
use Rattle.bd_pager.specs.Changing.{own_slot, IsChangedSpot, IsChangedAt}
use Rattle.bd_pager.specs.Counting.{is_in_memory, tally_of, recounted, IsTallied}
use Rattle.bd_pager.specs.Keeping.{KeepsSaved}
use Rattle.bd_pager.specs.Places.{Spots, refs_in, level_in, copy_at, copy_in, told, ArePlaced, IsLowerIn}
use Rattle.bd_pager.specs.Pagers.{Paged, spots_of, table_of, nodes_of, is_known, IsOfSize, IsPaged}
use Rattle.bd_pager.specs.Pushing.{placed_at, with_places, AreNodesPushed, HasBecome, ArePlacesPushed, IsPushedInPlace, IsReadAs, IsPushPlan}
use Rattle.bd_pager.specs.Slots.{IsOfLevel}
use Rattle.bd_pager.specs.Stepping.{held, change_of, put_at, put_spot, with_put}
use Rattle.bd_pager.specs.Testing.{Marks, is_tested, NamesLower, AreTested}
use Rattle.bd_pager.proofs.AlteredLemmas.{WasChanged, AreChanged, AreStillCached, copy_given, altered, altered_paged, altered_tested, altered_table, altered_stays, altered_nodes, altered_count}
use Rattle.bd_pager.proofs.CountingLemmas.{changed_tallied}
use Rattle.bd_pager.proofs.ExtendedLemmas.{copied_there, read_spot}
use Rattle.bd_pager.proofs.PagerLemmas.{kept_there}
use Rattle.bd_pager.proofs.PuttingLemmas.{put_is}
use Rattle.bd_pager.proofs.ReaderLemmas.{copy_of_level}
use Rattle.bd_node.proofs.Relieving.{relieved_level, relieved_shape, relieved_names}
use Rattle.bd_node.proofs.Pushing.{pushed_after}
use Rattle.bd_pager.proofs.SteppedLemmas.{none_mapped}
use Rattle.bd_pager.proofs.StepsLemmas.{OnlyReadsOf, no_loans, each_mapped}
use Rattle.bd_pager.proofs.TestedLemmas.{copy_unread, some_at, spot_of_some}

-- ---- places that are taken and put back

same_at : {X : Type 0} (k i : ℕ) (a b : X) → k ≡ i → cond (eqb k i) a b ≡ a
same_at k i a b same = cond-true (eqb k i) a b (eq-eqb k i same)

other_at : {X : Type 0} (k i : ℕ) (a b : X) → (k ≡ i → ⊥) → cond (eqb k i) a b ≡ b
other_at k i a b other = cond-false (eqb k i) a b (ne_eqb k i other)

placed_twice : (gap place : Place) (o : Option Spot) → placed_at place (placed_at gap o) ≡ placed_at place o
placed_twice gap place None = refl
placed_twice gap place (Some s) = refl

pub places_put : (old first second third last : Spots) (parent child : ℕ) (gap above below : Place) → parent ≢ child
    → ((i : ℕ) → first i ≡ cond (eqb parent i) (placed_at gap (old parent)) (old i)) → ((i : ℕ) → second i ≡ cond (eqb child i) (placed_at gap (first child)) (first i))
    → ((i : ℕ) → third i ≡ cond (eqb child i) (placed_at below (second child)) (second i)) → ((i : ℕ) → last i ≡ cond (eqb parent i) (placed_at above (third parent)) (third i))
    → (i : ℕ) → last i ≡ with_places parent above child below old i
places_put old first second third last parent child gap above below apart one two three four i = elim (cases_eq parent i) [
  | inl same ↦
      let away : child ≡ parent → ⊥ = λ e. apart (sym e) in
      four i ∙ same_at parent i (placed_at above (third parent)) (third i) same
      ∙ ap (placed_at above)
      (three parent ∙ other_at child parent (placed_at below (second child)) (second parent) away
      ∙ two parent ∙ other_at child parent (placed_at gap (first child)) (first parent) away
      ∙ one parent ∙ same_at parent parent (placed_at gap (old parent)) (old parent) refl)
      ∙ placed_twice gap above (old parent)
      ∙ sym (same_at parent i (placed_at above (old parent)) (cond (eqb child i) (placed_at below (old child)) (old i)) same)
  | inr other ↦
      four i ∙ other_at parent i (placed_at above (third parent)) (third i) other
      ∙ elim (cases_eq child i) [
        | inl same ↦
            three i ∙ same_at child i (placed_at below (second child)) (second i) same
            ∙ ap (placed_at below)
            (two child ∙ same_at child child (placed_at gap (first child)) (first child) refl
            ∙ ap (placed_at gap) (one child ∙ other_at parent child (placed_at gap (old parent)) (old child) apart))
            ∙ placed_twice gap below (old child)
            ∙ sym (same_at child i (placed_at below (old child)) (old i) same)
        | inr away ↦
            three i ∙ other_at child i (placed_at below (second child)) (second i) away
            ∙ two i ∙ other_at child i (placed_at gap (first child)) (first i) away
            ∙ one i ∙ other_at parent i (placed_at gap (old parent)) (old i) other
            ∙ sym (other_at child i (placed_at below (old child)) (old i) away)
      ]
      ∙ sym (other_at parent i (placed_at above (old parent)) (cond (eqb child i) (placed_at below (old child)) (old i)) other)
]

placed_own : (o : Option Spot) (place : Place) → IfSome o (λ s. place ≡ s.place) → placed_at place o ≡ o
placed_own None place own = refl
placed_own (Some s) place own = λ j. Some (record s { place = own j })

-- where each is put back where it was, nothing has changed
pub places_own : (old : Spots) (parent child : ℕ) (above below : Place) → IfSome (old parent) (λ s. above ≡ s.place) → IfSome (old child) (λ s. below ≡ s.place)
    → (i : ℕ) → with_places parent above child below old i ≡ old i
places_own old parent child above below own_above own_below i = elim (cases_eq parent i) [
  | inl same ↦
      same_at parent i (placed_at above (old parent)) (cond (eqb child i) (placed_at below (old child)) (old i)) same
      ∙ placed_own (old parent) above own_above ∙ ap old same
  | inr other ↦
      other_at parent i (placed_at above (old parent)) (cond (eqb child i) (placed_at below (old child)) (old i)) other
      ∙ elim (cases_eq child i) [
        | inl same ↦ same_at child i (placed_at below (old child)) (old i) same ∙ placed_own (old child) below own_below ∙ ap old same
        | inr away ↦ other_at child i (placed_at below (old child)) (old i) away
      ]
]

-- a place that was taken is its spot's
taken_from : (spots : Spots) (id : ℕ) (place : Place) → IsSome (spots id) → IfSome (spots id) (λ s. place ≡ s.place) → (s : Spot) × (spots id ≡ Some s) × (place ≡ s.place)
taken_from spots id place some at =
    let old = spot_of_some (spots id) some in
    (old.0, old.1, subst (λ (o : Option Spot). IfSome o (λ s. place ≡ s.place)) old.1 at)

level_kept : (level : ℕ) (o : Option Node) (gain : Gain) → IfSome o (IsOfLevel level) → IsGain level gain → IfSome o (λ m. IsGain (level_of m) gain)
level_kept level None gain own is = tt
level_kept level (Some m) gain own is = subst (λ (l : ℕ). IsGain l gain) (sym own.level_is) is

shape_kept : (level : ℕ) (o : Option Node) → IfSome o (IsOfLevel level) → IfSome o IsShape
shape_kept level None own = tt
shape_kept level (Some m) own = own.shape

taken_own : (spots : Spots) (id : ℕ) (place : Place) (s : Spot) → ArePlaced spots → spots id ≡ Some s → place ≡ s.place → IfSome (copy_at place) (IsOfLevel s.level)
taken_own spots id place s placed there same = subst (λ (l : Place). IfSome (copy_at l) (IsOfLevel s.level)) (sym same) (placed id s there)

pub taken_shape : (spots : Spots) (id : ℕ) (place : Place) → IsSome (spots id) → IfSome (spots id) (λ s. place ≡ s.place) → ArePlaced spots → IfSome (copy_at place) IsShape
taken_shape spots id place some at placed =
    let from = taken_from spots id place some at in
    shape_kept from.0.level (copy_at place) (taken_own spots id place from.0 placed from.1 from.2)

pub taken_gain : (spots : Spots) (id : ℕ) (place : Place) (gain : Gain) → IsSome (spots id) → IfSome (spots id) (λ s. place ≡ s.place) → ArePlaced spots → IfSome (spots id) (λ s. IsGain s.level gain) → IfSome (copy_at place) (λ m. IsGain (level_of m) gain)
taken_gain spots id place gain some at placed is =
    let from = taken_from spots id place some at in
    level_kept from.0.level (copy_at place) gain (taken_own spots id place from.0 placed from.1 from.2) (subst (λ (o : Option Spot). IfSome o (λ s. IsGain s.level gain)) from.1 is)

-- the place of the child, from which that of the parent was taken first
pub taken_second : (spots first : Spots) (parent child : ℕ) (gap place : Place) → parent ≢ child → ((i : ℕ) → first i ≡ cond (eqb parent i) (placed_at gap (spots parent)) (spots i))
    → IfSome (first child) (λ s. place ≡ s.place) → IfSome (spots child) (λ s. place ≡ s.place)
taken_second spots first parent child gap place apart one at =
    subst (λ (o : Option Spot). IfSome o (λ s. place ≡ s.place)) (one child ∙ other_at parent child (placed_at gap (spots parent)) (spots child) apart) at

-- what is so of the places is so of the spots once they are put back
module _ (push : Push) (old first second third last : Spots) (gap above below new_above new_below : Place) (apart : push.parent ≢ push.child)
    (one : (i : ℕ) → first i ≡ cond (eqb push.parent i) (placed_at gap (old push.parent)) (old i)) (two : (i : ℕ) → second i ≡ cond (eqb push.child i) (placed_at gap (first push.child)) (first i))
    (three : (i : ℕ) → third i ≡ cond (eqb push.child i) (placed_at new_below (second push.child)) (second i)) (four : (i : ℕ) → last i ≡ cond (eqb push.parent i) (placed_at new_above (third push.parent)) (third i))
    (some_parent : IsSome (old push.parent)) (some_child : IsSome (old push.child)) (from_parent : IfSome (old push.parent) (λ s. above ≡ s.place)) (from_child : IfSome (old push.child) (λ s. below ≡ s.place)) where
  put_places : (i : ℕ) → last i ≡ with_places push.parent new_above push.child new_below old i
  put_places = places_put old first second third last push.parent push.child gap new_above new_below apart one two three four

  pub put_same : (new_above ≡ above) × (new_below ≡ below) → (i : ℕ) → last i ≡ old i
  put_same same i =
      put_places i
      ∙ places_own old push.parent push.child new_above new_below
      (subst (λ (l : Place). IfSome (old push.parent) (λ s. l ≡ s.place)) (sym same.0) from_parent)
      (subst (λ (l : Place). IfSome (old push.child) (λ s. l ≡ s.place)) (sym same.1) from_child) i

  pub put_pushed : (left : Option Push) → MatchOption left (ArePlacesPushed push above below new_above new_below) (λ p. (p ≡ push) × (new_above ≡ above) × (new_below ≡ below))
      → MatchOption left (IsPushedInPlace push old last) (λ p. (p ≡ push) × ((i : ℕ) → last i ≡ old i))
  put_pushed None made =
      let upper = taken_from old push.parent above some_parent from_parent in
      let lower = taken_from old push.child below some_child from_child in
      record {
        parent = upper.0;
        parent_there = upper.1;
        child = lower.0;
        child_there = lower.1;
        above = new_above;
        below = new_below;
        places = subst (λ (l : Place). ArePlacesPushed push l lower.0.place new_above new_below) upper.2 (subst (λ (l : Place). ArePlacesPushed push above l new_above new_below) lower.2 made);
        is = put_places;
      }
  put_pushed (Some p) made = (made.0, put_same (made.1, made.2))

-- what is so of a node that nobody else holds is so of what holds it
pub held_pushed : (push : Push) (rc child new_child : Rc Node Global) (n now : Node) → n ≡ rc.value → (left : Option Push)
    → MatchOption left (AreNodesPushed push n child.value now new_child.value) (λ p. (p ≡ push) × (now ≡ n) × (new_child ≡ child) × (CanMake push n child.value → ⊥))
    → MatchOption left (AreNodesPushed push rc.value child.value now new_child.value) (λ p. (p ≡ push) × (rc_with_value rc now ≡ rc) × (new_child ≡ child))
held_pushed push rc child new_child n now held None made = subst (λ (m : Node). AreNodesPushed push m child.value now new_child.value) held made
held_pushed push rc child new_child n now held (Some p) made = (made.0, ap (λ (m : Node). rc_with_value rc m) (made.1 ∙ held), made.2)

-- ---- what the step gives

module _ (next root parent child : ℕ) (above below : Node) (parent_low : parent < next) (child_low : child < next) (apart : parent ≢ child) where
  abbrev step : Step
  step = push_step root parent above child below

  abbrev first : Change
  first = record { id = child; node = below }

  abbrev second : Change
  second = record { id = parent; node = above }

  pub gives_child : given next step child ≡ Some below
  gives_child = given-old next step child child_low ∙ changed_at-same first (second ∷ []) child refl

  pub gives_parent : given next step parent ≡ Some above
  gives_parent = given-old next step parent parent_low ∙ changed_at-other first (second ∷ []) parent apart ∙ changed_at-same second [] parent refl

  -- no others
  pub gives_both : (id : ℕ) (n : Node) → given next step id ≡ Some n → ((id ≡ child) × (below ≡ n)) ⊎ ((id ≡ parent) × (above ≡ n))
  gives_both id n some = elim (cases_lt id next) [
    | inl low ↦
        let changed : changed_at (first ∷ second ∷ []) id ≡ Some n = sym (given-old next step id low) ∙ some in
        elim (cases_eq id child) [
          | inl same ↦ inl (same, same_Some below n (sym (changed_at-same first (second ∷ []) id same) ∙ changed))
          | inr other ↦
              let later : changed_at (second ∷ []) id ≡ Some n = sym (changed_at-other first (second ∷ []) id other) ∙ changed in
              elim (cases_eq id parent) [
                | inl same ↦ inr (same, same_Some above n (sym (changed_at-same second [] id same) ∙ later))
                | inr away ↦ absurd (none-some n (sym (changed_at-other second [] id away) ∙ later))
              ]
        ]
    | inr high ↦ absurd (none-some n (sym (given-new next step id high) ∙ some))
  ]

  pub gives_none : (id : ℕ) → given next step id ≡ None → (id ≢ child) × (id ≢ parent)
  gives_none id none = (
    λ same. none-some below (sym none ∙ ap (given next step) same ∙ gives_child),
    λ same. none-some above (sym none ∙ ap (given next step) same ∙ gives_parent),
  )

  pub changed_both : (spare : List Bool) (spots new : Spots) → WasChanged spare child below spots new → WasChanged spare parent above spots new → ((id : ℕ) → id ≢ child → id ≢ parent → new id ≡ spots id)
      → AreChanged spare (λ id. given next step id) spots new
  changed_both spare spots new lower upper others = record {
    some = λ id n some. elim (gives_both id n some) [
      | inl is ↦ subst (λ (k : ℕ). WasChanged spare k n spots new) (sym is.0) (subst (λ (m : Node). WasChanged spare child m spots new) is.1 lower)
      | inr is ↦ subst (λ (k : ℕ). WasChanged spare k n spots new) (sym is.0) (subst (λ (m : Node). WasChanged spare parent m spots new) is.1 upper)
    ];
    none = λ id none. let out = gives_none id none in others id out.0 out.1;
  }

-- ---- what the two nodes are then

gained_own : (level : ℕ) (m : Node) (gain : Gain) → IsOfLevel level m → IsGain level gain → HasRoomFor m gain → IsOfLevel level (gained m gain)
gained_own level m (Messages list) own is room = record { shape = shape_appended m list own.shape is.1 room; level_is = level_appended m list ∙ own.level_is }
gained_own level m (Entries entries) own is room = record { shape = is.1; level_is = sym is.0 }

gained_names : (spots : Spots) (level : ℕ) (m : Node) (gain : Gain) → IsGain level gain → NamesLower spots m → NamesLower spots (gained m gain)
gained_names spots level m (Messages list) is lower =
    subst (λ (ids : List ℕ). AllByRecursion (IsLowerIn spots (level_of (appended m list))) ids) (sym (names_appended m list is.2))
    (subst (λ (l : ℕ). AllByRecursion (IsLowerIn spots l) (names m)) (sym (level_appended m list)) lower)
gained_names spots level m (Entries entries) is lower = tt

-- ---- the pager

size_of_copy : (size : ℕ) (o : Option Node) (n : Node) → IsOfSize size o → IfSome o (λ m. n ≡ m) → buffer_size n ≡ size
size_of_copy size None n sized same = absurd sized
size_of_copy size (Some m) n sized same = ap buffer_size same ∙ sized

-- all that holds then
pub record HasMadePush {D : Type 0} (g : Ghosts D) (p : Paged D) (push : Push) (new : Paged D) : Type 0 where
  pub table : HasPushed (table_of p) push (table_of new)
  pub stays : StaysBy (is_known g) (KeepsSaved g) no_loans p new
  pub committed : is_known g p → IsSound (nodes_of g p) (table_of p) → (n m : Node) → nodes_of g p push.parent ≡ Some n → nodes_of g p push.child ≡ Some m
      → IsPushed (nodes_of g p) (table_of p) push n m (nodes_of g new) (table_of new)

module _ {D : Type 0} (g : Ghosts D) (p : Paged D) (push : Push) (parent child above : Node) (entries : List (ℕ × Spot)) (was : IsPaged (g.contents p.dev) p) (is : IsPush (table_of p) push)
    (parent_own : IsReadAs (g.contents p.dev) (spots_of p) push.parent parent) (child_own : IsReadAs (g.contents p.dev) (spots_of p) push.child child)
    (can : CanMake push parent child) (relieved : IsRelieved parent push.place can.relieve.edge push.count above) where
  abbrev pub taken : Step
  taken = push_step p.root push.parent above push.child (gained child push.gain)

  parent_low : push.parent < p.next
  parent_low = was.table.below push.parent is.parent

  child_low : push.child < p.next
  child_low = was.table.below push.child is.child

  pub nodes_apart : push.parent ≢ push.child
  nodes_apart e = omega (arith, is.lower, ap (table_of p).level e)

  makes : IsPushStep p.root push parent child taken
  makes = record { edge = can.relieve.edge; here = can.relieve.here; above = above; relieved = relieved; is = refl }

  own_above : IsOfLevel (level_in (spots_of p push.parent)) above
  own_above = record {
    shape = relieved_shape parent push.place can.relieve.edge push.count above parent_own.of_level.shape can.relieve.here can.relieve.there relieved;
    level_is = relieved_level parent push.place can.relieve.edge push.count above relieved ∙ parent_own.of_level.level_is;
  }

  own_below : IsOfLevel (level_in (spots_of p push.child)) (gained child push.gain)
  own_below = gained_own (level_in (spots_of p push.child)) child push.gain child_own.of_level is.gain can.room

  pub own_given : (id : ℕ) (n : Node) → given p.next taken id ≡ Some n → IsOfLevel (level_in (spots_of p id)) n
  own_given id n some = elim (gives_both p.next p.root push.parent push.child above (gained child push.gain) parent_low child_low nodes_apart id n some) [
    | inl it ↦ subst (λ (k : ℕ). IsOfLevel (level_in (spots_of p k)) n) (sym it.0) (subst (λ (m : Node). IsOfLevel (level_in (spots_of p push.child)) m) it.1 own_below)
    | inr it ↦ subst (λ (k : ℕ). IsOfLevel (level_in (spots_of p k)) n) (sym it.0) (subst (λ (m : Node). IsOfLevel (level_in (spots_of p push.parent)) m) it.1 own_above)
  ]

  above_names : NamesLower (spots_of p) parent → NamesLower (spots_of p) above
  above_names lower =
      subst (λ (ids : List ℕ). AllByRecursion (IsLowerIn (spots_of p) (level_of above)) ids) (sym (relieved_names parent push.place push.count can.relieve above parent_own.of_level.shape relieved))
      (subst (λ (l : ℕ). AllByRecursion (IsLowerIn (spots_of p) l) (names parent)) (sym (relieved_level parent push.place can.relieve.edge push.count above relieved)) lower)

  -- what is given names what the nodes before named
  pub given_names : (id : ℕ) (n : Node) → given p.next taken id ≡ Some n → (id ≡ push.parent → NamesLower (spots_of p) parent) → (id ≡ push.child → NamesLower (spots_of p) child) → NamesLower (spots_of p) n
  given_names id n some upper lower = elim (gives_both p.next p.root push.parent push.child above (gained child push.gain) parent_low child_low nodes_apart id n some) [
    | inl it ↦ subst (λ (m : Node). NamesLower (spots_of p) m) it.1 (gained_names (spots_of p) (level_in (spots_of p push.child)) child push.gain is.gain (lower it.0))
    | inr it ↦ subst (λ (m : Node). NamesLower (spots_of p) m) it.1 (above_names (upper it.0))
  ]

  module _ (h : AreChanged p.spare (λ id. given p.next taken id) (spots_of p) (λ id. lookup (nat_eq id) entries)) where
    pub root_shape : IfSome (copy_in (lookup (nat_eq p.root) entries)) IsShape
    root_shape = by_given (IfSome (copy_in (lookup (nat_eq p.root) entries)) IsShape) (given p.next taken p.root)
        (λ none. subst (λ (o : Option Spot). IfSome (copy_in o) IsShape) (sym (h.none p.root none)) (of_shape (spots_of p p.root) refl))
        (λ n some. subst (λ (o : Option Node). IfSome o IsShape) (sym (copy_given p.spare (λ id. given p.next taken id) (spots_of p) (λ id. lookup (nat_eq id) entries) h p.root n some)) (own_given p.root n some).shape)
      where
        shape_at : (level : ℕ) (o : Option Node) → IfSome o (IsOfLevel level) → IfSome o IsShape
        shape_at level None own = tt
        shape_at level (Some n) own = own.shape

        of_shape : (o : Option Spot) → spots_of p p.root ≡ o → IfSome (copy_in o) IsShape
        of_shape None there = tt
        of_shape (Some s) there = shape_at s.level (copy_at s.place) (was.placed p.root s there)

    module _ (bytes : ℕ) (cache : NodeCache) (sized : IsSome (copy_in (lookup (nat_eq p.root) entries)) → IsOfSize bytes (copy_in (lookup (nat_eq p.root) entries)))
        (cached : AreStillCached (λ id. given p.next taken id) p.cache cache) where
      abbrev pub pushed : Paged D
      pushed = altered g p taken entries bytes cache

      pub pushed_paged : IsPaged (g.contents p.dev) pushed
      pushed_paged = altered_paged g p taken entries bytes cache was h own_given sized cached

      pub pushed_tested : (marks now : Marks) → ((id : ℕ) → IsTrue (is_tested now id) → IsTrue (is_tested marks id)) → (IsTrue (is_tested now push.parent) → NamesLower (spots_of p) parent) → (IsTrue (is_tested now push.child) → NamesLower (spots_of p) child)
          → AreTested (spots_of p) p.cache marks → AreTested (spots_of pushed) cache now
      pushed_tested marks now fewer upper lower =
          altered_tested g p taken entries bytes cache was h own_given sized cached marks now fewer
          (λ id n some on. given_names id n some
          (λ same. upper (subst (λ (k : ℕ). IsTrue (is_tested now k)) same on))
          (λ same. lower (subst (λ (k : ℕ). IsTrue (is_tested now k)) same on)))

      pub has_made : HasMadePush g p push pushed
      has_made =
          let table = altered_table g p taken entries bytes cache was h own_given sized cached refl refl in
          record {
            table = record {
              parent = parent;
              child = child;
              parent_level = parent_own.of_level.level_is;
              child_level = child_own.of_level.level_is;
              root_size = λ same. size_of_copy p.size (copy_in (spots_of p p.root)) parent was.root (subst (λ (k : ℕ). IfSome (copy_in (spots_of p k)) (λ m. parent ≡ m)) same parent_own.copy);
              step = taken;
              makes = makes;
              table = table;
            };
            stays = altered_stays g p taken entries bytes cache was h own_given sized cached;
            committed = λ known sound n m n_there m_there.
                let parent_there : nodes_of g p push.parent ≡ Some parent = parent_own.there known in
                let child_there : nodes_of g p push.child ≡ Some child = child_own.there known in
                let same_parent : parent ≡ n = same_Some parent n (sym parent_there ∙ n_there) in
                let same_child : child ≡ m = same_Some child m (sym child_there ∙ m_there) in
                subst (λ (x : Node). IsPushed (nodes_of g p) (table_of p) push x m (nodes_of g pushed) (table_of pushed)) same_parent
                (subst (λ (y : Node). IsPushed (nodes_of g p) (table_of p) push parent y (nodes_of g pushed) (table_of pushed)) same_child (record {
                  step = taken;
                  makes = makes;
                  table = table;
                  committed = pushed_after (nodes_of g p) (nodes_of g pushed) (table_of p) (table_of pushed) push parent child taken sound is parent_there child_there can makes
                      (altered_nodes g p taken entries bytes cache was h own_given sized cached) table
                      (altered_count g p taken entries bytes cache was h own_given sized cached);
                }));
          }

-- ---- in place

become_changed : (spare : List Bool) (n m : Node) (s : Spot) (new : Place) → HasBecome n m s.place new → IsChangedSpot spare m s (record s { place = new })
become_changed spare n m s new h = record {
  refs = refl;
  level = refl;
  place = record { node = h.changed; value = h.is_value; place = h.is ∙ ap (Memory h.changed) (sym (ap (own_slot spare) h.was)) };
}

module _ (push : Push) (spots new : Spots) (h : IsPushedInPlace push spots new) (apart : push.parent ≢ push.child) where
  abbrev upper : Spot
  upper = record h.parent { place = h.above }

  abbrev lower : Spot
  lower = record h.child { place = h.below }

  upper_here : new push.parent ≡ Some upper
  upper_here =
      h.is push.parent
      ∙ same_at push.parent push.parent (placed_at h.above (spots push.parent)) (cond (eqb push.child push.parent) (placed_at h.below (spots push.child)) (spots push.parent)) refl
      ∙ ap (placed_at h.above) h.parent_there

  lower_here : new push.child ≡ Some lower
  lower_here =
      h.is push.child
      ∙ other_at push.parent push.child (placed_at h.above (spots push.parent)) (cond (eqb push.child push.child) (placed_at h.below (spots push.child)) (spots push.child)) apart
      ∙ same_at push.child push.child (placed_at h.below (spots push.child)) (spots push.child) refl
      ∙ ap (placed_at h.below) h.child_there

  others_stay : (id : ℕ) → id ≢ push.child → id ≢ push.parent → new id ≡ spots id
  others_stay id off_child off_parent =
      h.is id
      ∙ other_at push.parent id (placed_at h.above (spots push.parent)) (cond (eqb push.child id) (placed_at h.below (spots push.child)) (spots id)) (λ e. off_parent (sym e))
      ∙ other_at push.child id (placed_at h.below (spots push.child)) (spots id) (λ e. off_child (sym e))

  upper_changed : (spare : List Bool) → IsChangedSpot spare h.places.parent_is h.parent upper
  upper_changed spare = become_changed spare h.places.parent_was h.places.parent_is h.parent h.above h.places.parent

  lower_changed : (spare : List Bool) → IsChangedSpot spare h.places.child_is h.child lower
  lower_changed spare = become_changed spare h.places.child_was h.places.child_is h.child h.below h.places.child

  pub place_changed : (spare : List Bool) (next root : ℕ) → push.parent < next → push.child < next → AreChanged spare (λ id. given next (push_step root push.parent h.places.parent_is push.child h.places.child_is) id) spots new
  place_changed spare next root parent_low child_low =
      changed_both next root push.parent push.child h.places.parent_is h.places.child_is parent_low child_low apart spare spots new
      (record { was = h.child; there = h.child_there; now = lower; here = lower_here; changed = lower_changed spare })
      (record { was = h.parent; there = h.parent_there; now = upper; here = upper_here; changed = upper_changed spare })
      others_stay

  -- the child alone was changed
  abbrev mid : Spots
  mid id = cond (eqb push.child id) (Some lower) (spots id)

  child_first : (spare : List Bool) → IsChangedAt spare push.child h.places.child_is spots mid
  child_first spare = record {
    was = h.child;
    there = h.child_there;
    now = lower;
    here = same_at push.child push.child (Some lower) (spots push.child) refl;
    changed = lower_changed spare;
    others = λ i other. other_at push.child i (Some lower) (spots i) (λ e. other (sym e));
  }

  then_parent : (spare : List Bool) → IsChangedAt spare push.parent h.places.parent_is mid new
  then_parent spare = record {
    was = h.parent;
    there = other_at push.child push.parent (Some lower) (spots push.parent) (λ e. apart (sym e)) ∙ h.parent_there;
    now = upper;
    here = upper_here;
    changed = upper_changed spare;
    others = λ i other. elim (cases_eq i push.child) [
      | inl same ↦ ap new same ∙ lower_here ∙ sym (same_at push.child i (Some lower) (spots i) (sym same))
      | inr away ↦ others_stay i away other ∙ sym (other_at push.child i (Some lower) (spots i) (λ e. away (sym e)))
    ];
  }

  memory_tally : (spare : List Bool) (n m : Node) (o : Option Spot) (s : Spot) (place : Place) → o ≡ Some s → HasBecome n m s.place place → tally_of spare o ≡ IN_MEMORY
  memory_tally spare n m o s place there become =
      ap (tally_of spare) there
      ∙ ap (λ (q : Place). tally_of spare (Some (record s { place = q }))) become.was

  memory_there : (n m : Node) (o : Option Spot) (s : Spot) (place : Place) → o ≡ Some s → HasBecome n m s.place place → IsTrue (is_in_memory o)
  memory_there n m o s place there become =
      ap is_in_memory there
      ∙ ap (λ (q : Place). is_in_memory (Some (record s { place = q }))) become.was

  -- both were in memory, and are
  one_tallied : (u : Usage) (next id : ℕ) (n m : Node) (before after : Spots) (place : Place) (c : IsChangedAt u.spare id m before after) → HasBecome n m c.was.place place → id < next → IsTallied next before u → IsTallied next after u
  one_tallied u next id n m before after place c become low was =
      subst (λ (t : Tally). IsTallied next after (recounted t IN_MEMORY u)) (memory_tally u.spare n m (before id) c.was place c.there become)
      (changed_tallied u u next id m before after (record { same = refl; kept = λ i on. on }) (was.listed id (memory_there n m (before id) c.was place c.there become)) c low was)

  pub place_tallied : (u : Usage) (next : ℕ) → push.parent < next → push.child < next → IsTallied next spots u → IsTallied next new u
  unfolding then_parent child_first
  place_tallied u next parent_low child_low was =
      one_tallied u next push.parent h.places.parent_was h.places.parent_is mid new h.above (then_parent u.spare) h.places.parent parent_low
      (one_tallied u next push.child h.places.child_was h.places.child_is spots mid h.below (child_first u.spare) h.places.child child_low was)

  copy_before : (n m : Node) (o : Option Spot) (s : Spot) (place : Place) → o ≡ Some s → HasBecome n m s.place place → copy_in o ≡ Some n
  copy_before n m o s place there become = ap copy_in there ∙ ap copy_at become.was ∙ ap Some become.was_value

  pub parent_copy : copy_in (spots push.parent) ≡ Some h.places.parent_was
  parent_copy = copy_before h.places.parent_was h.places.parent_is (spots push.parent) h.parent h.above h.parent_there h.places.parent

  pub child_copy : copy_in (spots push.child) ≡ Some h.places.child_was
  child_copy = copy_before h.places.child_was h.places.child_is (spots push.child) h.child h.below h.child_there h.places.child

-- the pager after it
module _ {D : Type 0} (g : Ghosts D) (p : Paged D) (push : Push) (entries : List (ℕ × Spot)) (was : IsPaged (g.contents p.dev) p) (is : IsPush (table_of p) push)
    (h : IsPushedInPlace push (spots_of p) (λ id. lookup (nat_eq id) entries)) where
  abbrev parent : Node
  parent = h.places.parent_was

  abbrev child : Node
  child = h.places.child_was

  apart : push.parent ≢ push.child
  apart e = omega (arith, is.lower, ap (table_of p).level e)

  of_parent : copy_in (spots_of p push.parent) ≡ Some parent
  of_parent = parent_copy push (spots_of p) (λ id. lookup (nat_eq id) entries) h apart

  of_child : copy_in (spots_of p push.child) ≡ Some child
  of_child = child_copy push (spots_of p) (λ id. lookup (nat_eq id) entries) h apart

  read_copy : (id : ℕ) (n : Node) → copy_in (spots_of p id) ≡ Some n → IsReadAs (g.contents p.dev) (spots_of p) id n
  read_copy id n copy = record { of_level = copy_of_level (spots_of p) id n was.placed copy; copy = subst (λ (o : Option Node). IfSome o (λ m. n ≡ m)) (sym copy) refl; there = λ known. copied_there (told (g.contents p.dev)) (spots_of p id) n copy }

  parent_as : IsReadAs (g.contents p.dev) (spots_of p) push.parent parent
  parent_as = read_copy push.parent parent of_parent

  child_as : IsReadAs (g.contents p.dev) (spots_of p) push.child child
  child_as = read_copy push.child child of_child

  abbrev made_step : Step
  made_step = push_step p.root push.parent h.places.parent_is push.child (gained child push.gain)

  moved : AreChanged p.spare (λ id. given p.next made_step id) (spots_of p) (λ id. lookup (nat_eq id) entries)
  moved = subst (λ (m : Node). AreChanged p.spare (λ id. given p.next (push_step p.root push.parent h.places.parent_is push.child m) id) (spots_of p) (λ id. lookup (nat_eq id) entries)) h.places.nodes.gained
      (place_changed push (spots_of p) (λ id. lookup (nat_eq id) entries) h apart p.spare p.next p.root (was.table.below push.parent is.parent) (was.table.below push.child is.child))

  pub place_root : IfSome (copy_in (lookup (nat_eq p.root) entries)) IsShape
  place_root = root_shape g p push parent child h.places.parent_is entries was is parent_as child_as h.places.nodes.can h.places.nodes.relieved moved

  uncached_each : (id : ℕ) (n : Node) → kept_at p.cache id ≡ Some n → (kept_at p.cache id ≡ Some n) × (given p.next made_step id ≡ None)
  uncached_each id n kept =
      let unread : (k : ℕ) (m : Node) → copy_in (spots_of p k) ≡ Some m → id ≡ k → ⊥ = λ k m copy same.
      copy_unread (g.contents p.dev) p.is_lent (spots_of p id) m n (ap (λ (i : ℕ). copy_in (spots_of p i)) same ∙ copy) (was.cached id n kept) in (
        kept,
        by_given (given p.next made_step id ≡ None) (given p.next made_step id) (λ none. none)
            (λ m some. absurd (elim (gives_both p.next p.root push.parent push.child h.places.parent_is (gained child push.gain) (was.table.below push.parent is.parent) (was.table.below push.child is.child) apart id m some) as (λ _. ⊥) [
              | inl it ↦ unread push.child child of_child it.0
              | inr it ↦ unread push.parent parent of_parent it.0
            ])),
      )

  uncached : AreStillCached (λ id. given p.next made_step id) p.cache p.cache
  uncached = record { each = uncached_each; room = refl }

  module _ (bytes : ℕ) (sized : IsSome (copy_in (lookup (nat_eq p.root) entries)) → IsOfSize bytes (copy_in (lookup (nat_eq p.root) entries))) where
    pub place_paged : IsPaged (g.contents p.dev) (record p { spots = entries; size = bytes; written = None })
    place_paged = pushed_paged g p push parent child h.places.parent_is entries was is parent_as child_as h.places.nodes.can h.places.nodes.relieved moved bytes p.cache sized uncached

    pub place_made : HasMadePush g p push (record p { spots = entries; size = bytes; written = None })
    place_made = has_made g p push parent child h.places.parent_is entries was is parent_as child_as h.places.nodes.can h.places.nodes.relieved moved bytes p.cache sized uncached

    pub place_tested : (marks : Marks) → AreTested (spots_of p) p.cache marks → AreTested (λ id. lookup (nat_eq id) entries) p.cache marks
    place_tested marks are =
        pushed_tested g p push parent child h.places.parent_is entries was is parent_as child_as h.places.nodes.can h.places.nodes.relieved moved bytes p.cache sized uncached marks marks (λ id on. on)
        (λ on. some_at (NamesLower (spots_of p)) (copy_in (spots_of p push.parent)) parent of_parent (are push.parent on).copy)
        (λ on. some_at (NamesLower (spots_of p)) (copy_in (spots_of p push.child)) child of_child (are push.child on).copy) are

  pub spots_tallied : (u : Usage) → IsTallied p.next (spots_of p) u → IsTallied p.next (λ id. lookup (nat_eq id) entries) u
  spots_tallied u was_tallied =
      place_tallied push (spots_of p) (λ id. lookup (nat_eq id) entries) h apart u p.next (was.table.below push.parent is.parent) (was.table.below push.child is.child) was_tallied

-- ---- by copies

some_held : (o : Option (Rc Node Global)) (n : Node) → option_map held o ≡ Some n → (r : Rc Node Global) × (o ≡ Some r) × (r.value ≡ n)
some_held None n is = absurd (none-some n is)
some_held (Some r) n is = (r, refl, same_Some r.value n is)

unput : (b : Bool) (o : Option Node) (n : Node) → cond b None o ≡ Some n → (b ≡ false) × (o ≡ Some n)
unput true o n kept = absurd (none-some n kept)
unput false o n kept = (refl, kept)

none_put : (o : Option (Rc Node Global)) → is_some o ≡ false → option_map held o ≡ None
none_put None is = refl
none_put (Some r) is = absurd (let e : true ≡ false = is in cc)

module _ (spare : List Bool) (puts : List Put) (spots new : Spots) (each : (id : ℕ) → new id ≡ with_put spare (put_at puts id) (spots id)) where
  put_changed : (id : ℕ) (n : Node) → changed_at (map change_of puts) id ≡ Some n → IsSome (spots id) → level_of n ≡ level_in (spots id) → WasChanged spare id n spots new
  put_changed id n changes some level =
      let put = some_held (put_at puts id) n (put_is puts id ∙ changes) in
      let old = spot_of_some (spots id) some in
      record {
        was = old.0;
        there = old.1;
        now = put_spot spare put.0 (Some old.0);
        here = each id ∙ ap (λ (o : Option (Rc Node Global)). with_put spare o (spots id)) put.1 ∙ ap (λ (o : Option Spot). with_put spare (Some put.0) o) old.1;
        changed = record {
          refs = refl;
          level = ap level_of put.2 ∙ level ∙ ap level_in old.1;
          place = record { node = put.0; value = put.2; place = refl };
        };
      }

  put_stays : (id : ℕ) → changed_at (map change_of puts) id ≡ None → new id ≡ spots id
  put_stays id none = each id ∙ ap (λ (o : Option (Rc Node Global)). with_put spare o (spots id)) (none_mapped (put_at puts id) (put_is puts id ∙ none))

module _ {D : Type 0} (g : Ghosts D) (p : Paged D) (push : Push) (puts : List Put) (entries : List (ℕ × Spot)) (was : IsPaged (g.contents p.dev) p) (is : IsPush (table_of p) push)
    (plan : IsPushPlan (g.contents p.dev) (spots_of p) push puts) where
  abbrev above : Node
  above = plan.made.above

  abbrev below : Node
  below = gained plan.child push.gain

  abbrev copies : Step
  copies = push_step p.root push.parent above push.child below

  two : push.parent ≢ push.child
  two e = omega (arith, is.lower, ap (table_of p).level e)

  changes_are : map change_of puts ≡ copies.changes
  changes_are = plan.made.are ∙ ap (λ (m : Node). let c : Change = record { id = push.child; node = m } in c ∷ record { id = push.parent; node = above } ∷ []) plan.made.nodes.gained

  pub copies_low : AllByRecursion (λ (put : Put). put.id < p.next) puts
  copies_low =
      each_mapped (λ (c : Change). c.id < p.next) change_of puts
      (subst (λ (cs : List Change). AllByRecursion (λ (c : Change). c.id < p.next) cs) (sym changes_are)
      (was.table.below push.child is.child, (was.table.below push.parent is.parent, tt)))

  gives_of : (id : ℕ) → id < p.next → given p.next copies id ≡ changed_at (map change_of puts) id
  gives_of id low = given-old p.next copies id low ∙ ap (λ (cs : List Change). changed_at cs id) (sym changes_are)

  module _ (each : (id : ℕ) → lookup (nat_eq id) entries ≡ with_put p.spare (put_at puts id) (spots_of p id)) where
    abbrev spots : Spots
    spots id = lookup (nat_eq id) entries

    own : (id : ℕ) (n : Node) → given p.next copies id ≡ Some n → IsOfLevel (level_in (spots_of p id)) n
    own = own_given g p push plan.parent plan.child above entries was is plan.parent_read plan.child_read plan.made.nodes.can plan.made.nodes.relieved

    changed_so : (id : ℕ) (n : Node) → id < p.next → IsKept (table_of p) id → given p.next copies id ≡ Some n → WasChanged p.spare id n (spots_of p) spots
    changed_so id n low kept some =
        put_changed p.spare puts (spots_of p) spots each id n (sym (gives_of id low) ∙ some) (kept_there (spots_of p) id kept) (own id n some).level_is

    copied : AreChanged p.spare (λ id. given p.next copies id) (spots_of p) spots
    copied =
        changed_both p.next p.root push.parent push.child above below (was.table.below push.parent is.parent) (was.table.below push.child is.child) two p.spare (spots_of p) spots
        (changed_so push.child below (was.table.below push.child is.child) is.child
        (gives_child p.next p.root push.parent push.child above below (was.table.below push.parent is.parent) (was.table.below push.child is.child) two))
        (changed_so push.parent above (was.table.below push.parent is.parent) is.parent
        (gives_parent p.next p.root push.parent push.child above below (was.table.below push.parent is.parent) (was.table.below push.child is.child) two))
        (λ id off_child off_parent. put_stays p.spare puts (spots_of p) spots each id
        (ap (λ (cs : List Change). changed_at cs id) changes_are
        ∙ changed_at-other (record { id = push.child; node = below }) (record { id = push.parent; node = above } ∷ []) id off_child
        ∙ changed_at-other (record { id = push.parent; node = above }) [] id off_parent))

    pub copies_root : IfSome (copy_in (lookup (nat_eq p.root) entries)) IsShape
    copies_root = root_shape g p push plan.parent plan.child above entries was is plan.parent_read plan.child_read plan.made.nodes.can plan.made.nodes.relieved copied

    module _ (bytes : ℕ) (cache : NodeCache) (sized : IsSome (copy_in (lookup (nat_eq p.root) entries)) → IsOfSize bytes (copy_in (lookup (nat_eq p.root) entries)))
        (forgotten : (id : ℕ) → kept_at cache id ≡ cond (is_some (put_at puts id)) None (kept_at p.cache id)) (room : room_of cache ≡ room_of p.cache) where
      uncached_at : (id : ℕ) (n : Node) → kept_at cache id ≡ Some n → (kept_at p.cache id ≡ Some n) × (given p.next copies id ≡ None)
      uncached_at id n kept =
          let still = unput (is_some (put_at puts id)) (kept_at p.cache id) n (sym (forgotten id) ∙ kept) in
          let spot = read_spot (g.contents p.dev) p.is_lent (spots_of p id) n (was.cached id n still.1) in
          let low : id < p.next = was.table.below id (omega (arith, was.used id spot.0 spot.1, ap refs_in spot.1)) in
          (still.1, gives_of id low ∙ sym (put_is puts id) ∙ none_put (put_at puts id) still.0)

      uncached_so : AreStillCached (λ id. given p.next copies id) p.cache cache
      uncached_so = record { each = uncached_at; room = room }

      pub copies_paged : IsPaged (g.contents p.dev) (record p { spots = entries; size = bytes; cache = cache; written = None })
      copies_paged = pushed_paged g p push plan.parent plan.child above entries was is plan.parent_read plan.child_read plan.made.nodes.can plan.made.nodes.relieved copied bytes cache sized uncached_so

      pub copies_made : HasMadePush g p push (record p { spots = entries; size = bytes; cache = cache; written = None })
      copies_made = has_made g p push plan.parent plan.child above entries was is plan.parent_read plan.child_read plan.made.nodes.can plan.made.nodes.relieved copied bytes cache sized uncached_so

      pub copies_tested : (marks now : Marks) → ((id : ℕ) → IsTrue (is_tested now id) → IsTrue (is_tested marks id)) → (IsTrue (is_tested now push.parent) → ⊥) → (IsTrue (is_tested now push.child) → ⊥)
          → AreTested (spots_of p) p.cache marks → AreTested (λ id. lookup (nat_eq id) entries) cache now
      copies_tested marks now fewer off_parent off_child =
          pushed_tested g p push plan.parent plan.child above entries was is plan.parent_read plan.child_read plan.made.nodes.can plan.made.nodes.relieved copied bytes cache sized uncached_so marks now fewer
          (λ on. absurd (off_parent on)) (λ on. absurd (off_child on))

-- ---- what was read

-- it was so before the reads
pub read_before : {D : Type 0} (g : Ghosts D) (old p : Paged D) (id : ℕ) (n : Node) → OnlyReadsOf g old p → IsReadAs (g.contents p.dev) (spots_of p) id n → IsReadAs (g.contents old.dev) (spots_of old) id n
read_before g old p id n left is =
    subst (λ (c : Option Image). IsReadAs c (spots_of old) id n) left.read.device.kept
    (subst (λ (s : Spots). IsReadAs (g.contents p.dev) s id n) left.read.spots is)

-- and after them
pub plan_after : {D : Type 0} (g : Ghosts D) (old p : Paged D) (push : Push) (puts : List Put) → OnlyReadsOf g old p → IsPushPlan (g.contents old.dev) (spots_of old) push puts → IsPushPlan (g.contents p.dev) (spots_of p) push puts
plan_after g old p push puts left plan =
    subst (λ (c : Option Image). IsPushPlan c (spots_of p) push puts) (sym left.read.device.kept)
    (subst (λ (s : Spots). IsPushPlan (g.contents old.dev) s push puts) (sym left.read.spots) plan)

pub none_made : {X Y : Type 0} (P : X → Type 0) (o : Option X) → o ≡ None → MatchOption o Y P → Y
none_made {X} {Y} P o none made = subst (λ (x : Option X). MatchOption x Y P) none made

-- where nothing can be made of the nodes that were read, no push is one
pub cannot_push : {D : Type 0} (g : Ghosts D) (old : Paged D) (push : Push) (n m : Node) → IsReadAs (g.contents old.dev) (spots_of old) push.parent n → IsReadAs (g.contents old.dev) (spots_of old) push.child m
    → (CanMake push n m → ⊥) → is_known g old → CanPush (nodes_of g old) (table_of old) push → ⊥
cannot_push g old push n m parent_read child_read cannot known may =
    cannot
    (subst (λ (x : Node). CanMake push x m) (same_Some may.parent n (sym may.parent_is ∙ parent_read.there known))
    (subst (λ (y : Node). CanMake push may.parent y) (same_Some may.child m (sym may.child_is ∙ child_read.there known)) may.can))

-- ---- reads before it

module _ {D : Type 0} (g : Ghosts D) (old p : Paged D) (push : Push) (left : OnlyReadsOf g old p) where
  -- what could be pushed can be after reads
  pub can_after : (is_known g old → IsSound (nodes_of g old) (table_of old) → CanPush (nodes_of g old) (table_of old) push) → is_known g p → IsSound (nodes_of g p) (table_of p) → CanPush (nodes_of g p) (table_of p) push
  can_after can known sound =
      let before : is_known g old = read_known g old p left.read known in
      let nodes : nodes_of g p ≡ nodes_of g old = left.kept before in
      subst (λ (t : Table). CanPush (nodes_of g p) t push) (sym left.table)
      (subst (λ (ns : Nodes). CanPush ns (table_of old) push) (sym nodes)
      (can before (subst (λ (t : Table). IsSound (nodes_of g old) t) left.table (subst (λ (ns : Nodes). IsSound ns (table_of p)) nodes sound))))

  -- and what it makes of them it makes of those before
  pub committed_before : (F : Type 0 → Type 0) (new : Paged D)
      → (is_known g p → IsSound (nodes_of g p) (table_of p) → (n m : Node) → nodes_of g p push.parent ≡ Some n → nodes_of g p push.child ≡ Some m → F (IsPushed (nodes_of g p) (table_of p) push n m (nodes_of g new) (table_of new)))
      → is_known g old → IsSound (nodes_of g old) (table_of old) → (n m : Node) → nodes_of g old push.parent ≡ Some n → nodes_of g old push.child ≡ Some m → F (IsPushed (nodes_of g old) (table_of old) push n m (nodes_of g new) (table_of new))
  committed_before F new made known sound n m =
      let nodes : nodes_of g p ≡ nodes_of g old = left.kept known in
      let sound_then : IsSound (nodes_of g p) (table_of p) =
      subst (λ (t : Table). IsSound (nodes_of g p) t) (sym left.table) (subst (λ (ns : Nodes). IsSound ns (table_of old)) (sym nodes) sound) in
      subst (λ (ns : Nodes). ns push.parent ≡ Some n → ns push.child ≡ Some m → F (IsPushed ns (table_of old) push n m (nodes_of g new) (table_of new))) nodes
      (subst (λ (t : Table). nodes_of g p push.parent ≡ Some n → nodes_of g p push.child ≡ Some m → F (IsPushed (nodes_of g p) t push n m (nodes_of g new) (table_of new))) left.table
      (made (left.known known) sound_then n m))

  pub stays_before : (new : Paged D) → StaysBy (is_known g) (KeepsSaved g) no_loans p new → StaysBy (is_known g) (KeepsSaved g) no_loans old new
  stays_before new stays = record {
    known = λ known. stays.known (left.known known);
    beside = keeps_both g old p new (read_keeps g old p left.read) stays.beside;
    same_loans = refl;
  }

  pub made_before : (new : Paged D) → HasMadePush g p push new → HasMadePush g old push new
  made_before new made = record {
    table = subst (λ (t : Table). HasPushed t push (table_of new)) left.table made.table;
    stays = stays_before new made.stays;
    committed = committed_before (λ P. P) new made.committed;
  }

-- the pager after a push by copies of what was read
module _ {D : Type 0} (g : Ghosts D) (old p : Paged D) (push : Push) (puts : List Put) (entries : List (ℕ × Spot)) (was : IsPaged (g.contents p.dev) p) (is : IsPush (table_of old) push) (left : OnlyReadsOf g old p)
    (plan : IsPushPlan (g.contents old.dev) (spots_of old) push puts) where
  is_then : IsPush (table_of p) push
  is_then = subst (λ (t : Table). IsPush t push) (sym left.table) is

  plan_then : IsPushPlan (g.contents p.dev) (spots_of p) push puts
  plan_then = plan_after g old p push puts left plan

  pub read_low : AllByRecursion (λ (put : Put). put.id < p.next) puts
  read_low = copies_low g p push puts entries was is_then plan_then

  module _ (each : (id : ℕ) → lookup (nat_eq id) entries ≡ with_put p.spare (put_at puts id) (spots_of p id)) where
    pub read_root : IfSome (copy_in (lookup (nat_eq p.root) entries)) IsShape
    read_root = copies_root g p push puts entries was is_then plan_then each

    module _ (bytes : ℕ) (cache : NodeCache) (sized : IsSome (copy_in (lookup (nat_eq p.root) entries)) → IsOfSize bytes (copy_in (lookup (nat_eq p.root) entries)))
        (forgotten : (id : ℕ) → kept_at cache id ≡ cond (is_some (put_at puts id)) None (kept_at p.cache id)) (room : room_of cache ≡ room_of p.cache) where
      pub read_made : (spare : List Bool) → spare ≡ p.spare → IsPaged (g.contents p.dev) (record p { spots = entries; spare = spare; size = bytes; cache = cache; written = None })
          × HasMadePush g old push (record p { spots = entries; spare = spare; size = bytes; cache = cache; written = None })
      read_made spare same =
          let at : List Bool → Paged D = λ s. record p { spots = entries; spare = s; size = bytes; cache = cache; written = None } in
          subst (λ (s : List Bool). IsPaged (g.contents p.dev) (at s) × HasMadePush g old push (at s)) (sym same) (
            copies_paged g p push puts entries was is_then plan_then each bytes cache sized forgotten room,
            made_before g old p push left (at p.spare) (copies_made g p push puts entries was is_then plan_then each bytes cache sized forgotten room),
          )

      pub read_tested : (marks now : Marks) → ((id : ℕ) → IsTrue (is_tested now id) → IsTrue (is_tested marks id)) → (IsTrue (is_tested now push.parent) → ⊥) → (IsTrue (is_tested now push.child) → ⊥)
          → AreTested (spots_of p) p.cache marks → AreTested (λ id. lookup (nat_eq id) entries) cache now
      read_tested = copies_tested g p push puts entries was is_then plan_then each bytes cache sized forgotten room

-- ---- a push that was given back

pub made_in_place : (push : Push) (spots new : Spots) (o : Option Push) → o ≡ None → MatchOption o (IsPushedInPlace push spots new) (λ p. (p ≡ push) × ((id : ℕ) → new id ≡ spots id)) → IsPushedInPlace push spots new
made_in_place push spots new o none made = subst (λ (x : Option Push). MatchOption x (IsPushedInPlace push spots new) (λ p. (p ≡ push) × ((id : ℕ) → new id ≡ spots id))) none made

pub given_back : (push : Push) (spots new : Spots) (o : Option Push) (p : Push) → o ≡ Some p → MatchOption o (IsPushedInPlace push spots new) (λ x. (x ≡ push) × ((id : ℕ) → new id ≡ spots id)) → (p ≡ push) × ((id : ℕ) → new id ≡ spots id)
given_back push spots new o p some made = subst (λ (x : Option Push). MatchOption x (IsPushedInPlace push spots new) (λ y. (y ≡ push) × ((id : ℕ) → new id ≡ spots id))) some made
