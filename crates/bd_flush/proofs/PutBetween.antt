-- A child that is put between its parent and its halves.
use Rattle.std.proofs.Common.{◌≡◌, ℕ, Bool, ◌+◌, ◌^◌, ◌<◌, ◌≤◌, List, [], ◌∷◌, ◌++◌, length, map, refl, sym, ap, subst, ◌∙◌, Option, None, Some, arith, Result, Ok, Err, OnOk, MatchOption}
use Rattle.std.specs.List.{AllByRecursion}
use Rattle.bd_limits.specs.Limits.{level_limit}
use Rattle.bd_message.specs.declared.fault.Counter.TheVariants.{NextId}
use Rattle.bd_message.specs.declared.fault.MapFault.TheVariants.{Worn}
use Rattle.bd_message.specs.KeyMaps.{HasMapCause}
use Rattle.bd_node.specs.declared.node.Change.{Change}
use Rattle.bd_node.specs.declared.node.Step.{Step}
use Rattle.bd_node.specs.Nodes.{level_of, buffer_size}
use Rattle.bd_node.specs.Meaning.{Nodes}
use Rattle.bd_node.specs.Shape.{IsShape}
use Rattle.bd_node.specs.Tables.{Table, IsTable, IsSound}
use Rattle.bd_node.specs.Steps.{IsStep, IsInPlace, IsTableAfter, IsCommitted}
use Rattle.bd_inner.specs.declared.halves.Halves.{Halves}
use Rattle.bd_inner.specs.Halves.{AreHalves}
use Rattle.bd_path.specs.declared.fetching.Fetched.{Fetched}
use Rattle.bd_path.specs.Flushed.{IsFlushed, IsHardlyHigher}
use Rattle.bd_path.specs.Fetching.{IsFetched, IsContents}
use Rattle.bd_flush.specs.Children.{CanSplitChild, IsLongPivot}
use Rattle.bd_path.specs.Raising.{raise, IsWayUp, IsRising, CannotRise, AreRaised}
use Rattle.bd_path.specs.Raising.IsWayUp.{top, one_up}
use Rattle.bd_path.specs.Raising.IsRising.{at_top, high_enough, rises}
use Rattle.bd_path.specs.Raising.CannotRise.{here, further}
use Rattle.bd_flush.specs.Between.{IsBetweenStep}
use Rattle.bd_flush.specs.declared.splitting.Plan.{Plan}
use Rattle.bd_flush.specs.declared.splitting.Plan.TheVariants.{Ready, NoId, NoLevel}
use Rattle.bd_path.specs.Made.{IsWornFor}
use Rattle.bd_flush.specs.Splitting.{over_step, IsPlanOf}
use Rattle.bd_path.proofs.Made.{no_ids}
use Rattle.bd_path.proofs.Raisings.{level_high}
use Rattle.bd_path.proofs.EdgesAt.{as_edge}
use Rattle.bd_flush.proofs.RootSplits.{up_lower, IsSplit, IsSplitOf, IsMade, split_step, split_in_place, flushed, over_higher, over_same, over_found, over_none}

-- ---- the way

pub way_shapes : (t : Table) (c : ℕ) (way : List Fetched) → IsWayUp t c way → AllByRecursion (λ (f : Fetched). IsShape f.node.value) way
way_shapes t _ _ top = tt
way_shapes t _ _ (one_up c place f e fs fetched way once up) = (fetched.own.shape, way_shapes t f.id fs up)

-- where nodes rise, none is kept from it
pub rises_or_not : (level : ℕ) (way rising : List Fetched) → IsRising level way rising → CannotRise level way → ⊥
rises_or_not level _ _ (at_top _) cannot = elim cannot [ ]
rises_or_not level _ _ (high_enough _ f fs high) (here _ _ _ under last) = omega arith
rises_or_not level _ _ (high_enough _ f fs high) (further _ _ _ under more) = omega arith
rises_or_not level _ _ (rises _ f fs rising under room more) (here _ _ _ low last) = omega arith
rises_or_not level _ _ (rises _ f fs rising under room more) (further _ _ _ low cannot) = rises_or_not (level_of f.node.value + 1) fs rising more cannot

-- a node below another is below the last level
pub below_last : (t : Table) (f : Fetched) (fs : List Fetched) (child : Fetched) → IsFetched t child → IsWayUp t child.id (f ∷ fs) → level_of child.node.value < level_limit
below_last t f fs child fetched (one_up _ place _ e _ fetched_f way once up) =
    let lower : t.level child.id < t.level f.id = (up_lower t f place child.id e fetched_f way).lower in
    let a : level_of child.node.value ≡ t.level child.id = fetched.own.level_is in
    let b : level_of f.node.value ≡ t.level f.id = fetched_f.own.level_is in
    omega (arith, level_high f.node.value fetched_f.own.shape)

-- as much waits in what rises as waited
rising_fit : (t : Table) (level c : ℕ) (way rising : List Fetched) → IsWayUp t c way → IsRising level way rising → AllByRecursion (λ (f : Fetched). f.id ≡ t.root → buffer_size f.node.value ≤ t.size) rising
rising_fit t level c _ _ up (at_top _) = tt
rising_fit t level c _ _ up (high_enough _ f fs high) = tt
rising_fit t level _ _ _ (one_up c place _ e _ fetched way once up) (rises _ f fs rising under room more) =
    (λ same. (let is : buffer_size f.node.value ≡ t.size = fetched.root same in omega arith), rising_fit t (level_of f.node.value + 1) f.id fs rising up more)

-- ---- the step as it is returned

-- a child to put between its parent and its halves, and the step
pub record IsToPut (t : Table) (way : List Fetched) (child : Fetched) (halves : Halves) (step : Step) : Type 0 where
  pub table : IsTable t
  pub fetched : IsFetched t child
  pub up : IsWayUp t child.id way
  pub level : level_of child.node.value < level_limit
  pub next : t.next + 1 < 2 ^ 64
  pub are : AreHalves child.node.value halves
  pub put : IsBetweenStep t.root t.next way child halves step

pub is_to_put : (t : Table) (f : Fetched) (fs : List Fetched) (child : Fetched) (halves : Halves) (step : Step) → IsTable t → IsFetched t child → IsWayUp t child.id (f ∷ fs) → AreHalves child.node.value halves
    → IsBetweenStep t.root t.next (f ∷ fs) child halves step × (t.next + 1 < 2 ^ 64) → IsToPut t (f ∷ fs) child halves step
is_to_put t f fs child halves step table fetched up are put =
    record { table = table; fetched = fetched; up = up; level = below_last t f fs child fetched up; next = put.1; are = are; put = put.0 }

to_put : (t : Table) (way : List Fetched) (child : Fetched) (halves : Halves) (step : Step) (h : IsToPut t way child halves step) → IsSplit t child.id child.node.value halves way h.put.rising
to_put t way child halves step h = record { table = h.table; up = h.up; kept = h.fetched.kept; own = h.fetched.own; level = h.level; next = h.next; are = h.are; rise = h.put.rise }

put_of : (nodes : Nodes) (t : Table) (way : List Fetched) (child : Fetched) (halves : Halves) (step : Step) (h : IsToPut t way child halves step) → IsSound nodes t → AllByRecursion (IsContents nodes) (child ∷ way) → IsSplitOf nodes t child.id child.node.value halves way h.put.rising
put_of nodes t way child halves step h s there = record { split = to_put t way child halves step h; sound = s; there = there.0; stand = there.1 }

pub may_put : (t : Table) (way : List Fetched) (child : Fetched) (halves : Halves) (step : Step) → IsToPut t way child halves step → IsStep t step
may_put t way child halves step h = subst (λ (s : Step). IsStep t s) (sym h.put.is) (split_step t child.id child.node.value halves way h.put.rising (to_put t way child halves step h))

pub put_in_place : (nodes : Nodes) (t : Table) (way : List Fetched) (child : Fetched) (halves : Halves) (step : Step) → IsToPut t way child halves step → IsSound nodes t → AllByRecursion (IsContents nodes) (child ∷ way) → IsInPlace nodes t step
put_in_place nodes t way child halves step h s there =
    subst (λ (q : Step). IsInPlace nodes t q) (sym h.put.is) (split_in_place nodes t child.id child.node.value halves way h.put.rising (put_of nodes t way child halves step h s there))

made_of : (nodes : Nodes) (t : Table) (way : List Fetched) (child : Fetched) (halves : Halves) (step : Step) (new : Nodes) (u : Table) → (h : IsToPut t way child halves step) → IsSound nodes t → AllByRecursion (IsContents nodes) (child ∷ way) → IsTableAfter t step u → IsCommitted nodes t step new u
    → IsMade nodes t child.id child.node.value halves way h.put.rising new u
made_of nodes t way child halves step new u h s there after committed = record {
  of = put_of nodes t way child halves step h s there;
  after = subst (λ (q : Step). IsTableAfter t q u) h.put.is after;
  committed = subst (λ (q : Step). IsCommitted nodes t q new u) h.put.is committed;
}

pub put_flushed : {T E : Type 0} (nodes : Nodes) (t : Table) (way : List Fetched) (child : Fetched) (halves : Halves) (step : Step) (new : Nodes) (u : Table) (r : Result T E) → IsToPut t way child halves step → IsSound nodes t → AllByRecursion (IsContents nodes) (child ∷ way)
    → OnOk r (IsTableAfter t step u) → OnOk r (IsCommitted nodes t step new u) → OnOk r (IsFlushed nodes t new u)
put_flushed nodes t way child halves step new u (Ok x) h s there after committed =
    flushed nodes t child.id child.node.value halves way h.put.rising new u (made_of nodes t way child halves step new u h s there after committed)
put_flushed nodes t way child halves step new u (Err e) h s there after committed = tt

pub put_higher : {T E : Type 0} (t : Table) (way : List Fetched) (child : Fetched) (halves : Halves) (step : Step) (u : Table) (r : Result T E) → IsToPut t way child halves step → OnOk r (IsTableAfter t step u) → OnOk r (IsHardlyHigher t u)
put_higher t way child halves step u (Ok x) h after =
    over_higher t child.id child.node.value halves way h.put.rising u (to_put t way child halves step h) (subst (λ (q : Step). IsTableAfter t q u) h.put.is after)
    (rising_fit t (level_of child.node.value + 1) child.id way h.put.rising h.up h.put.rise)
put_higher t way child halves step u (Err e) h after = tt

pub put_risen : {T E : Type 0} (t : Table) (way : List Fetched) (child : Fetched) (halves : Halves) (step : Step) (r : Result T E) → IsToPut t way child halves step → OnOk r (CannotRise (level_of child.node.value + 1) way → ⊥)
put_risen t way child halves step (Ok x) h = rises_or_not (level_of child.node.value + 1) way h.put.rising h.put.rise
put_risen t way child halves step (Err e) h = tt

pub way_of : (t : Table) (way : List Fetched) (parent : Fetched) (place : ℕ) (child : Fetched) → CanSplitChild t parent place child → IsWayUp t parent.id way → IsWayUp t child.id (parent ∷ way)
way_of t way parent place child can up = one_up child.id place parent can.edge way can.parent_is (as_edge parent.node.value place child.id can.edge can.way) can.once up

-- ---- the plan

between_step : (root next level : ℕ) (way : List Fetched) (child : Fetched) (halves : Halves) (step : Step) (none risen : List Change) → level ≡ level_of child.node.value → none ≡ [] → AreRaised (level + 1) way none risen
    → step ≡ over_step root next child.id (level + 1) halves risen → IsBetweenStep root next way child halves step
between_step root next level way child halves step none risen level_is empty raised is = record {
  rising = raised.rising;
  rise = subst (λ (l : ℕ). IsRising (l + 1) way raised.rising) level_is raised.rise;
  is = is ∙ over_same root root next next child.id (level + 1) (level_of child.node.value + 1) halves risen (map raise raised.rising) refl refl (ap (λ (l : ℕ). l + 1) level_is) (raised.are ∙ ap (λ (l : List Change). l ++ map raise raised.rising) empty);
}

-- what rises, of the changes that are found
pub found_raised : {V : Type 0} (items : V → List Change) (level : ℕ) (way : List Fetched) (none : List Change) (found : Option V) (risen : V) → found ≡ Some risen → MatchOption found (CannotRise level way) (λ all. AreRaised level way none (items all)) → AreRaised level way none (items risen)
found_raised items level way none found risen is h = subst (λ (o : Option _). MatchOption o (CannotRise level way) (λ all. AreRaised level way none (items all))) is h

pub found_stuck : {V : Type 0} (P : V → Type 0) (level : ℕ) (way : List Fetched) (child : Fetched) (found : Option V) → level ≡ level_of child.node.value → found ≡ None → MatchOption found (CannotRise (level + 1) way) P → CannotRise (level_of child.node.value + 1) way
found_stuck P level way child found level_is is h =
    subst (λ (i : ℕ). CannotRise (i + 1) way) level_is (subst (λ (o : Option _). MatchOption o (CannotRise (level + 1) way) P) is h)

pub between_ready : (root next level : ℕ) (way : List Fetched) (child : Fetched) (halves : Halves) (none risen : List Change) (found : Option Step) (step : Step) → level ≡ level_of child.node.value → none ≡ [] → AreRaised (level + 1) way none risen → found ≡ Some step
    → MatchOption found (2 ^ 64 ≤ next + 1) (λ s. (s ≡ over_step root next child.id (level + 1) halves risen) × (next + 1 < 2 ^ 64)) → IsBetweenStep root next way child halves step × (next + 1 < 2 ^ 64)
between_ready root next level way child halves none risen found step level_is empty raised is h =
    let this = over_found root next child.id (level + 1) halves risen found step is h in
    (between_step root next level way child halves step none risen level_is empty raised this.0, this.1)

-- the step for which there are no ids
pub between_full : (root next level : ℕ) (way : List Fetched) (child : Fetched) (halves : Halves) (none risen : List Change) (found : Option Step) (P : Step → Type 0) → level ≡ level_of child.node.value → none ≡ [] → AreRaised (level + 1) way none risen → found ≡ None → MatchOption found (2 ^ 64 ≤ next + 1) P
    → (step : Step) × IsBetweenStep root next way child halves step × (2 ^ 64 ≤ next + 1)
between_full root next level way child halves none risen found P level_is empty raised is h =
    let step : Step = over_step root next child.id (level + 1) halves risen in
    (step, between_step root next level way child halves step none risen level_is empty raised refl, over_none next P found is h)

-- the plan, as it is found
pub plan_found : (IsOne : ℕ → ℕ → Step → Type 0) (root next : ℕ) (high : Type 0) (plan : Plan) (t : Table) (step : Step) → plan ≡ Ready step → root ≡ t.root → next ≡ t.next → IsPlanOf (IsOne root next) next high plan → IsOne t.root t.next step × (t.next + 1 < 2 ^ 64)
plan_found IsOne root next high plan t step is root_is next_is h =
    subst (λ (i : ℕ). IsOne t.root i step × (i + 1 < 2 ^ 64)) next_is (subst (λ (r : ℕ). IsOne r next step × (next + 1 < 2 ^ 64)) root_is (subst (λ (p : Plan). IsPlanOf (IsOne root next) next high p) is h))

pub plan_high : (IsOne : ℕ → ℕ → Step → Type 0) (root next : ℕ) (high : Type 0) (plan : Plan) → plan ≡ NoLevel → IsPlanOf (IsOne root next) next high plan → high
plan_high IsOne root next high plan is h = subst (λ (p : Plan). IsPlanOf (IsOne root next) next high p) is h

pub put_full : {T : Type 0} (count : ℕ) (last : Bool) (bad : ℕ → Type 0) (high : Type 0) (t : Table) (way : List Fetched) (child : Fetched) (halves : Halves) (root next : ℕ) (plan : Plan) → plan ≡ NoId → root ≡ t.root → next ≡ t.next → IsPlanOf (IsBetweenStep root next way child halves) next high plan
    → HasMapCause {T = T} count count last bad (IsWornFor (IsBetweenStep t.root t.next way child halves) high t) (Err (Worn NextId))
put_full count last bad high t way child halves root next plan is root_is next_is h =
    let none : IsPlanOf (IsBetweenStep t.root t.next way child halves) t.next high NoId = subst (λ (i : ℕ). IsPlanOf (IsBetweenStep t.root i way child halves) i high NoId) next_is (subst (λ (r : ℕ). IsPlanOf (IsBetweenStep r next way child halves) next high NoId) root_is (subst (λ (p : Plan). IsPlanOf (IsBetweenStep root next way child halves) next high p) is h)) in
    let made : length none.0.made ≡ 2 = ap (λ (q : Step). length q.made) none.1.is in
    let full : 2 ^ 64 ≤ t.next + 1 = none.2 in
    no_ids count last bad (IsBetweenStep t.root t.next way child halves) high t none.0 none.1 (omega arith)

-- ---- a child's split

pub long_pivot : (parent : Fetched) (place : ℕ) (child : Fetched) (found : Option Step) (P : Step → Type 0) → found ≡ None → MatchOption found (IsLongPivot parent.node.value place child.node.value) P → IsLongPivot parent.node.value place child.node.value
long_pivot parent place child found P is h = subst (λ (o : Option Step). MatchOption o (IsLongPivot parent.node.value place child.node.value) P) is h
