-- The commit of a push, with a node between or without.
use Rattle.std.proofs.Common.{◌≡◌, ℕ, Bool, ◌+◌, ◌^◌, ◌<◌, ◌≤◌, List, [], ◌∷◌, length, refl, sym, ap, subst, ◌∙◌, arith, inl, inr, ◌⊎◌, Result, Ok, Err, OnOk, OnErr, Option, None, Some, IfOk, MatchOption}
use Rattle.std.specs.List.{AllByRecursion}
use Rattle.std.proofs.lemmas.Option.{same_Some}
use Rattle.bd_message.specs.declared.fault.Counter.TheVariants.{NextId, Level}
use Rattle.bd_message.specs.declared.fault.MapFault.TheVariants.{Worn}
use Rattle.bd_node.specs.declared.node.Edge.{Edge}
use Rattle.bd_message.specs.KeyMaps.{HasMapCause}
use Rattle.bd_node.specs.declared.node.Step.{Step}
use Rattle.bd_node.specs.Nodes.{level_of}
use Rattle.bd_node.specs.Meaning.{Nodes}
use Rattle.bd_node.specs.Tables.{Table, IsTable, IsSound}
use Rattle.bd_node.specs.Steps.{IsStep, IsInPlace, IsTableAfter, IsCommitted}
use Rattle.bd_node.specs.Stores.{visited}
use Rattle.bd_node.specs.Parts.{IsEdgeAt}
use Rattle.bd_path.specs.declared.fetching.Fetched.{Fetched}
use Rattle.bd_flush.specs.declared.pushing.Work.{Work}
use Rattle.bd_flush.specs.declared.pushing.Work.TheVariants.{Planned}
use Rattle.bd_flush.specs.declared.splitting.Plan.{Plan}
use Rattle.bd_flush.specs.declared.splitting.Plan.TheVariants.{Ready, NoId, NoLevel}
use Rattle.bd_path.specs.Flushed.{IsFlushed, IsNoHigher, IsHardlyHigher}
use Rattle.bd_flush.specs.Children.{AreFamily}
use Rattle.bd_path.specs.Fetching.{IsContents}
use Rattle.bd_path.specs.Raising.{IsWayUp, CannotRise, AreChangesOver, CannotRiseOver}
use Rattle.bd_flush.specs.Pushing.{AllGoDown, CanMoveSome, IsWaitedFor, CanPush, IsSomePush, AreLongParts, IsStepOver, IsPlanOver, IsPushBetweenStep, IsPlan, IsWork, IsLongPush, IsHighPush}
use Rattle.bd_path.specs.Made.{IsWornFor}
use Rattle.bd_path.proofs.Made.{no_ids, too_high}
use Rattle.bd_node.specs.declared.node.Change.{Change}
use Rattle.bd_node.specs.declared.node.Node.{Node}
use Rattle.bd_node.specs.Compaction.{IsCompacted}
use Rattle.bd_inner.specs.declared.halves.Halves.{Halves}
use Rattle.bd_node.specs.Pushes.{exchanged}
use Rattle.bd_node.proofs.Compacting.{compacted_level}
use Rattle.bd_flush.specs.Splitting.{over_step}
use Rattle.bd_inner.proofs.Named.{level_exchanged}
use Rattle.bd_flush.proofs.RootSplits.{both, over_none}
use Rattle.bd_flush.proofs.GoingDown.{all_move, all_plain}
use Rattle.bd_path.proofs.PathSteps.{path_may, path_in_place}
use Rattle.bd_flush.proofs.PushCommits.{may_push, push_in_place, push_flushed, push_no_higher, push_made}
use Rattle.bd_flush.proofs.Betweens.{the_child, the_uppers, between_path, between_path_of, between_flushed, between_table}

-- a push, and its step
pub record IsPlanned (t : Table) (way : List Fetched) (parent : Fetched) (place : ℕ) (child : Fetched) (step : Step) : Type 0 where
  pub table : IsTable t
  pub next : t.next < 2 ^ 64
  pub can : CanPush t parent place child
  pub way_up : IsWayUp t parent.id way
  pub push : IsPlan t.root t.next way parent place child (Ready step)

the_plan : (root next : ℕ) (way : List Fetched) (parent : Fetched) (place : ℕ) (child : Fetched) (work : Work) (plan : Plan) → work ≡ Planned plan → IsWork root next way parent place child work → IsPlan root next way parent place child plan
the_plan root next way parent place child work plan is h = subst (λ (w : Work). IsWork root next way parent place child w) is h

pub is_planned : (t : Table) (way : List Fetched) (parent : Fetched) (place : ℕ) (child : Fetched) (step : Step) (work : Work) (plan : Plan) (root next : ℕ) → IsTable t → CanPush t parent place child → IsWayUp t parent.id way → root ≡ t.root → next ≡ t.next → next < 2 ^ 64 → work ≡ Planned plan → plan ≡ Ready step
    → IsWork root next way parent place child work → IsPlanned t way parent place child step
is_planned t way parent place child step work plan root next table can up same_root same_next room planned ready push = record {
  table = table;
  next = omega arith;
  can = can;
  way_up = up;
  push = subst (λ (i : ℕ). IsPlan t.root i way parent place child (Ready step)) same_next (subst (λ (r : ℕ). IsPlan r next way parent place child (Ready step)) same_root (subst (λ (p : Plan). IsPlan root next way parent place child p) ready (the_plan root next way parent place child work plan planned push)));
}

-- what waits can be moved, and names no node where the child is a leaf
pub waiting_moves : (t : Table) (parent : Fetched) (place : ℕ) (child : Fetched) → CanPush t parent place child → (e : Edge) → IsEdgeAt parent.node.value place e → CanMoveSome parent.node.value place e
waiting_moves t parent place child can e here =
    subst (λ (d : Edge). CanMoveSome parent.node.value place d) (same_Some can.edge e (sym can.way.here ∙ here))
    (record { some = can.some; each = all_move t.level (t.level child.id) parent.node.value place can.edge can.parent_is.own.shape can.way.here can.down })

pub waiting_plain : (t : Table) (parent : Fetched) (place : ℕ) (child : Fetched) → CanPush t parent place child → level_of child.node.value ≡ 0 → (e : Edge) → IsEdgeAt parent.node.value place e → IsWaitedFor parent.node.value place e
waiting_plain t parent place child can leaf e here =
    let low : t.level child.id ≡ 0 = sym can.child_is.own.level_is ∙ leaf in
    subst (λ (d : Edge). IsWaitedFor parent.node.value place d) (same_Some can.edge e (sym can.way.here ∙ here))
    (record { some = can.some; plain = all_plain t.level parent.node.value place can.edge (subst (λ (top : ℕ). AllGoDown t.level top parent.node.value place can.edge) low can.down) })

-- and its nodes
pub record IsPlannedOf (nodes : Nodes) (t : Table) (way : List Fetched) (parent : Fetched) (place : ℕ) (child : Fetched) (step : Step) : Type 0 where
  pub of : IsPlanned t way parent place child step
  pub sound : IsSound nodes t
  pub family : AreFamily nodes t parent child
  pub contents : AllByRecursion (IsContents nodes) way

pub planned_may : (t : Table) (way : List Fetched) (parent : Fetched) (place : ℕ) (child : Fetched) (step : Step) → IsPlanned t way parent place child step → IsStep t step
planned_may t way parent place child step h =
    elim h.push [
      | inl own ↦ may_push t parent place child step (record { table = h.table; next = h.next; can = h.can; push = own })
      | inr b ↦
          subst (λ (q : Step). IsStep t q) (sym b.0.over.is)
          (path_may t child.id (the_child t b.0.push.halves) (the_uppers parent b.0.over.node b.0.over.rising) (both b.0.push.halves) (between_path t way parent place child b.0.push b.0.over.node b.0.over.rising (record { table = h.table; ids = b.1; can = h.can; way_up = h.way_up; above = b.0.above; relieved = b.0.relieved; rise = b.0.over.rise })))
    ]

pub planned_in_place : (nodes : Nodes) (t : Table) (way : List Fetched) (parent : Fetched) (place : ℕ) (child : Fetched) (step : Step) → IsPlannedOf nodes t way parent place child step → IsInPlace nodes t step
planned_in_place nodes t way parent place child step h =
    elim h.of.push [
      | inl own ↦ push_in_place nodes t parent place child step (record { table = h.of.table; next = h.of.next; can = h.of.can; push = own }) h.sound h.family
      | inr b ↦
          subst (λ (q : Step). IsInPlace nodes t q) (sym b.0.over.is)
          (path_in_place nodes t child.id (the_child t b.0.push.halves) (the_uppers parent b.0.over.node b.0.over.rising) (both b.0.push.halves)
          (between_path_of nodes t way parent place child b.0.push b.0.over.node b.0.over.rising
          (record { of = record { table = h.of.table; ids = b.1; can = h.of.can; way_up = h.of.way_up; above = b.0.above; relieved = b.0.relieved; rise = b.0.over.rise }; sound = h.sound; family = h.family; contents = h.contents })))
    ]

pub on_planned_flushed : {T E : Type 0} (nodes : Nodes) (t : Table) (way : List Fetched) (parent : Fetched) (place : ℕ) (child : Fetched) (step : Step) (new : Nodes) (u : Table) (r : Result T E) → IsPlannedOf nodes t way parent place child step → OnOk r (IsTableAfter t step u) → OnOk r (IsCommitted nodes t step new u)
    → OnOk r (IsFlushed nodes t new u)
on_planned_flushed nodes t way parent place child step new u (Err e) h after committed = tt
on_planned_flushed nodes t way parent place child step new u (Ok x) h after committed =
    elim h.of.push [
      | inl own ↦ push_flushed nodes t parent place child step new u (record { table = h.of.table; next = h.of.next; can = h.of.can; push = own }) h.sound h.family after committed
      | inr b ↦
          between_flushed nodes t way parent place child b.0.push b.0.over.node b.0.over.rising new u
          (record {
            of = record { of = record { table = h.of.table; ids = b.1; can = h.of.can; way_up = h.of.way_up; above = b.0.above; relieved = b.0.relieved; rise = b.0.over.rise }; sound = h.sound; family = h.family; contents = h.contents };
            after = subst (λ (q : Step). IsTableAfter t q u) b.0.over.is after;
            committed = subst (λ (q : Step). IsCommitted nodes t q new u) b.0.over.is committed;
          })
    ]

pub on_planned_table : {T E : Type 0} (t : Table) (way : List Fetched) (parent : Fetched) (place : ℕ) (child : Fetched) (step : Step) (u : Table) (r : Result T E) → IsPlanned t way parent place child step → OnOk r (IsTableAfter t step u)
    → OnOk r (IsNoHigher t u ⊎ (IsLongPush parent.node.value place child.node.value × IsHardlyHigher t u))
on_planned_table t way parent place child step u (Err e) h after = tt
on_planned_table t way parent place child step u (Ok x) h after =
    elim h.push [
      | inl own ↦ inl (push_no_higher t parent place child step u (record { table = h.table; next = h.next; can = h.can; push = own }) after)
      | inr b ↦ inr (
        b.0.push,
        between_table t way parent place child b.0.push b.0.over.node b.0.over.rising u (record { table = h.table; ids = b.1; can = h.can; way_up = h.way_up; above = b.0.above; relieved = b.0.relieved; rise = b.0.over.rise }) (subst (λ (q : Step). IsTableAfter t q u) b.0.over.is after),
      )
    ]

planned_made : (t : Table) (way : List Fetched) (parent : Fetched) (place : ℕ) (child : Fetched) (step : Step) → IsPlanned t way parent place child step → length step.made ≤ 2
planned_made t way parent place child step h =
    elim h.push [
      | inl own ↦ (let few : length step.made ≤ 1 = push_made t parent place child step (record { table = h.table; next = h.next; can = h.can; push = own }) in omega arith)
      | inr b ↦ (let same : length step.made ≡ 2 = ap (λ (q : Step). length q.made) b.0.over.is in omega arith)
    ]

pub on_planned_visits : {T E : Type 0} (t : Table) (way : List Fetched) (parent : Fetched) (place : ℕ) (child : Fetched) (step : Step) (before now : ℕ) (r : Result T E) → IsPlanned t way parent place child step → OnOk r (now ≡ visited before (length step.made)) → OnErr r (now ≡ before) → now ≤ before + 2
on_planned_visits t way parent place child step before now (Ok x) h is same = let few : length step.made ≤ 2 = planned_made t way parent place child step h in omega arith
on_planned_visits t way parent place child step before now (Err e) h is same = omega arith

-- a node can't rise
pub no_level_cause : {T : Type 0} (count : ℕ) (last : Bool) (bad : ℕ → Type 0) (IsOne : Step → Type 0) (t : Table) (way : List Fetched) (parent : Fetched) (place : ℕ) (child : Fetched) (work : Work) (plan : Plan) (root next : ℕ) → work ≡ Planned plan → plan ≡ NoLevel → IsWork root next way parent place child work
    → HasMapCause {T = T} count count last bad (IsWornFor IsOne (IsHighPush parent.node.value place child.node.value way) t) (Err (Worn Level))
no_level_cause count last bad IsOne t way parent place child work plan root next planned is h =
    too_high count last bad IsOne (IsHighPush parent.node.value place child.node.value way) t (subst (λ (p : Plan). IsPlan root next way parent place child p) is (the_plan root next way parent place child work plan planned h))

-- the step of the store
pub some_push : (t : Table) (way : List Fetched) (parent : Fetched) (place : ℕ) (child : Fetched) (step : Step) → IsPlanned t way parent place child step → IsSomePush t.root t.next way parent place child step
some_push t way parent place child step h = elim h.push [ inl own ↦ inl own | inr b ↦ inr b.0 ]

-- the step for which there are no ids
pub no_id_cause : {T : Type 0} (count : ℕ) (last : Bool) (bad : ℕ → Type 0) (high : Type 0) (t : Table) (way : List Fetched) (parent : Fetched) (place : ℕ) (child : Fetched) (work : Work) (plan : Plan) (root next : ℕ) → root ≡ t.root → next ≡ t.next → work ≡ Planned plan → plan ≡ NoId → IsWork root next way parent place child work
    → HasMapCause {T = T} count count last bad (IsWornFor (IsSomePush t.root t.next way parent place child) high t) (Err (Worn NextId))
no_id_cause count last bad high t way parent place child work plan root next same_root same_next planned is h =
    let none : IsPlan t.root t.next way parent place child NoId = subst (λ (i : ℕ). IsPlan t.root i way parent place child NoId) same_next (subst (λ (r : ℕ). IsPlan r next way parent place child NoId) same_root (subst (λ (p : Plan). IsPlan root next way parent place child p) is (the_plan root next way parent place child work plan planned h))) in
    let made : length none.0.made ≡ 2 = ap (λ (q : Step). length q.made) none.1.over.is in
    let full : 2 ^ 64 ≤ t.next + 1 = none.2 in
    no_ids count last bad (IsSomePush t.root t.next way parent place child) high t none.0 (inr none.1) (omega arith)

-- ---- the plan

over_plan : (root next : ℕ) (way : List Fetched) (parent : Change) (c : ℕ) (halves : Halves) (step : Step) (others : List Change) → AreChangesOver 1 parent way others → step ≡ over_step root next c 1 halves others → IsStepOver root next way parent c halves step
over_plan root next way parent c halves step others over is =
    record { node = over.node; rising = over.rising; rise = over.rise; is = is ∙ ap (λ (l : List Change). over_step root next c 1 halves l) over.are }

-- there are no ids for the step
pub over_full : {V : Type 0} (items : V → List Change) (root next : ℕ) (way : List Fetched) (parent : Change) (c : ℕ) (halves : Halves) (changes : Option V) (others : V) (found : Option Step) (P : Step → Type 0) → changes ≡ Some others → MatchOption changes (CannotRiseOver 1 parent.node way) (λ all. AreChangesOver 1 parent way (items all))
    → found ≡ None → MatchOption found (2 ^ 64 ≤ next + 1) P → (step : Step) × IsStepOver root next way parent c halves step × (2 ^ 64 ≤ next + 1)
over_full items root next way parent c halves changes others found P some over none h =
    let these : AreChangesOver 1 parent way (items others) = subst (λ (o : Option _). MatchOption o (CannotRiseOver 1 parent.node way) (λ all. AreChangesOver 1 parent way (items all))) some over in
    let step : Step = over_step root next c 1 halves (items others) in
    (step, over_plan root next way parent c halves step (items others) these refl, over_none next P found none h)

-- a push that puts a node between
between_of : (root next : ℕ) (way : List Fetched) (parent : Fetched) (place : ℕ) (child : Fetched) (edge : Edge) (halves : Halves) (above : Node) (step : Step) → AreLongParts parent.node.value place child.node.value edge halves → IsCompacted (exchanged parent.node.value place (edge ∷ [])) above
    → IsStepOver root next way (record { id = parent.id; node = above }) child.id halves step → IsPushBetweenStep root next way parent place child step
between_of root next way parent place child edge halves above step long made over = record {
  push = long.push;
  above = above;
  relieved = subst (λ (f : Edge). IsCompacted (exchanged parent.node.value place (f ∷ [])) above) long.seen made;
  over = subst (λ (h : Halves). IsStepOver root next way (record { id = parent.id; node = above }) child.id h step) long.are over;
}

pub long_plan : {E : Type 0} (root next : ℕ) (way : List Fetched) (parent : Fetched) (place : ℕ) (child : Fetched) (edge : Edge) (halves : Halves) (above shown below : Node) (r : Result Plan E) → shown ≡ parent.node.value → below ≡ child.node.value → AreLongParts shown place below edge halves → IsCompacted (exchanged shown place (edge ∷ [])) above
    → IfOk r (IsPlanOver root next way (record { id = parent.id; node = above }) child.id halves) → IfOk r (IsPlan root next way parent place child)
long_plan root next way parent place child edge halves above shown below (Err e) same child_is parts made h = tt
long_plan root next way parent place child edge halves above shown below (Ok (Ready step)) same child_is parts made h =
    let long = subst (λ (m : Node). AreLongParts parent.node.value place m edge halves) child_is (subst (λ (n : Node). AreLongParts n place below edge halves) same parts) in
    inr (between_of root next way parent place child edge halves above step long (subst (λ (n : Node). IsCompacted (exchanged n place (edge ∷ [])) above) same made) h.0, h.1)
long_plan root next way parent place child edge halves above shown below (Ok NoId) same child_is parts made h =
    let long = subst (λ (m : Node). AreLongParts parent.node.value place m edge halves) child_is (subst (λ (n : Node). AreLongParts n place below edge halves) same parts) in
    (h.0, between_of root next way parent place child edge halves above h.0 long (subst (λ (n : Node). IsCompacted (exchanged n place (edge ∷ [])) above) same made) h.1, h.2)
long_plan root next way parent place child edge halves above shown below (Ok NoLevel) same child_is parts made h =
    let long = subst (λ (m : Node). AreLongParts parent.node.value place m edge halves) child_is (subst (λ (n : Node). AreLongParts n place below edge halves) same parts) in
    let level : level_of above ≡ level_of parent.node.value = compacted_level (exchanged shown place (edge ∷ [])) above made ∙ level_exchanged shown place (edge ∷ []) ∙ ap level_of same in
    record {
      long = long.push;
      high = (omega arith, subst (λ (l : ℕ). CannotRise (l + 1) way) level h.1);
    }
