-- The commit of a push.
use Rattle.std.proofs.Common.{◌≡◌, ℕ, ◌+◌, ◌^◌, ◌<◌, ◌≤◌, length, refl, sym, ap, subst, ◌∙◌, arith}
use Rattle.std.proofs.lemmas.Option.{same_Some}
use Rattle.bd_node.specs.declared.node.Edge.{Edge}
use Rattle.bd_node.specs.declared.node.Step.{Step}
use Rattle.bd_node.specs.Nodes.{buffer_size}
use Rattle.bd_node.specs.Meaning.{Nodes}
use Rattle.bd_node.specs.Tables.{Table, IsTable, IsLower, IsSound}
use Rattle.bd_node.specs.Steps.{IsStep, IsInPlace, IsTableAfter, IsCommitted}
use Rattle.bd_path.specs.declared.fetching.Fetched.{Fetched}
use Rattle.bd_path.specs.Flushed.{IsFlushed, IsNoHigher}
use Rattle.bd_path.specs.Fetching.{IsWayTo}
use Rattle.bd_flush.specs.Children.{AreFamily}
use Rattle.bd_flush.specs.Pushing.{AllGoDown, CanPush, IsPushStep}
use Rattle.bd_path.proofs.ChildSteps.{IsChildChange, IsChildChangeOf, IsChildChanged, below_step, below_in_place, child_flushed, no_higher}
use Rattle.bd_flush.proofs.ChildSplits.{IsSplittable, at_child, lower_child}
use Rattle.bd_flush.proofs.Pushed.{batch_low, IsPushable, push_change, push_change_of, push_few, push_size}

-- a push, and the step
pub record IsToPush (t : Table) (parent : Fetched) (place : ℕ) (child : Fetched) (step : Step) : Type 0 where
  pub table : IsTable t
  pub next : t.next < 2 ^ 64
  pub can : CanPush t parent place child
  pub push : IsPushStep t.root t.next parent place child step

same_edge : (t : Table) (parent : Fetched) (place : ℕ) (child : Fetched) (step : Step) → (h : IsToPush t parent place child step) → h.can.edge ≡ h.push.edge
same_edge t parent place child step h = same_Some h.can.edge h.push.edge (sym h.can.way.here ∙ h.push.here)

splittable : (t : Table) (parent : Fetched) (place : ℕ) (child : Fetched) (step : Step) → (h : IsToPush t parent place child step) → IsSplittable t parent.id parent.node.value place child.id h.push.edge (h.push.edge.seen + h.push.batch.count) child.node.value
splittable t parent place child step h = record {
  table = h.table;
  kept = h.can.parent_is.kept;
  own = h.can.parent_is.own;
  few = h.can.room;
  way = subst (λ (e : Edge). IsWayTo parent.node.value place child.id e) (same_edge t parent place child step h) h.can.way;
  low = batch_low parent.node.value place h.push.edge h.push.batch h.can.parent_is.own.shape h.push.here h.push.moved;
  child_level = h.can.child_is.own.level_is;
  child_names = h.can.child_is.own.lower;
  next = h.next;
}

pushable : (t : Table) (parent : Fetched) (place : ℕ) (child : Fetched) (step : Step) → (h : IsToPush t parent place child step) → IsPushable t parent.id parent.node.value place child.id h.push.edge child.node.value h.push.batch
pushable t parent place child step h = record {
  split = splittable t parent place child step h;
  down = subst (λ (e : Edge). AllGoDown t.level (t.level child.id) parent.node.value place e) (same_edge t parent place child step h) h.can.down;
  moved = h.push.moved;
  child = h.can.child_is.own;
  soft = h.can.soft;
}

change : (t : Table) (parent : Fetched) (place : ℕ) (child : Fetched) (step : Step) → (h : IsToPush t parent place child step) → IsChildChange t parent.id h.push.node child.id h.push.half h.push.made
change t parent place child step h =
    push_change t parent.id parent.node.value place child.id h.push.edge child.node.value h.push.batch h.push.node h.push.half h.push.made (pushable t parent place child step h) h.push.into

change_of : (nodes : Nodes) (t : Table) (parent : Fetched) (place : ℕ) (child : Fetched) (step : Step) → (h : IsToPush t parent place child step) → IsSound nodes t → AreFamily nodes t parent child
    → IsChildChangeOf nodes t parent.id parent.node.value h.push.node child.id h.push.half h.push.made
change_of nodes t parent place child step h sound family =
    push_change_of nodes t parent.id parent.node.value place child.id h.push.edge child.node.value h.push.batch h.push.node h.push.half h.push.made (pushable t parent place child step h)
    (record { of = splittable t parent place child step h; sound = sound; there = family.parent_there; private = family.private; once = h.can.once; child_has = at_child nodes t child.id child.node.value sound family.child_there; others_have = λ x other low k. refl }) h.push.into

changed : (nodes : Nodes) (t : Table) (parent : Fetched) (place : ℕ) (child : Fetched) (step : Step) (new : Nodes) (u : Table) → (h : IsToPush t parent place child step) → IsSound nodes t → AreFamily nodes t parent child → IsTableAfter t step u → IsCommitted nodes t step new u
    → IsChildChanged nodes t parent.id parent.node.value h.push.node child.id h.push.half h.push.made new u
changed nodes t parent place child step new u h sound family after committed = record {
  of = change_of nodes t parent place child step h sound family;
  after = subst (λ (q : Step). IsTableAfter t q u) h.push.is after;
  committed = subst (λ (q : Step). IsCommitted nodes t q new u) h.push.is committed;
}

few_made : (t : Table) (parent : Fetched) (place : ℕ) (child : Fetched) (step : Step) → (h : IsToPush t parent place child step) → length h.push.made ≤ 1
few_made t parent place child step h = push_few parent.node.value place h.push.edge child.node.value h.push.batch t.next h.push.node h.push.half h.push.made h.push.into

pub may_push : (t : Table) (parent : Fetched) (place : ℕ) (child : Fetched) (step : Step) → IsToPush t parent place child step → IsStep t step
may_push t parent place child step h =
    subst (λ (q : Step). IsStep t q) (sym h.push.is) (below_step t parent.id h.push.node child.id h.push.half h.push.made (change t parent place child step h))

pub push_in_place : (nodes : Nodes) (t : Table) (parent : Fetched) (place : ℕ) (child : Fetched) (step : Step) → IsToPush t parent place child step → IsSound nodes t → AreFamily nodes t parent child → IsInPlace nodes t step
push_in_place nodes t parent place child step h sound family =
    subst (λ (q : Step). IsInPlace nodes t q) (sym h.push.is)
    (below_in_place nodes t parent.id parent.node.value h.push.node child.id h.push.half h.push.made (change_of nodes t parent place child step h sound family))

pub push_flushed : (nodes : Nodes) (t : Table) (parent : Fetched) (place : ℕ) (child : Fetched) (step : Step) (new : Nodes) (u : Table) → IsToPush t parent place child step → IsSound nodes t → AreFamily nodes t parent child → IsTableAfter t step u → IsCommitted nodes t step new u → IsFlushed nodes t new u
push_flushed nodes t parent place child step new u h sound family after committed =
    child_flushed nodes t parent.id parent.node.value h.push.node child.id h.push.half h.push.made new u (changed nodes t parent place child step new u h sound family after committed)
    (let few : length h.push.made ≤ 1 = few_made t parent place child step h in omega arith)

pub push_no_higher : (t : Table) (parent : Fetched) (place : ℕ) (child : Fetched) (step : Step) (u : Table) → IsToPush t parent place child step → IsTableAfter t step u → IsNoHigher t u
push_no_higher t parent place child step u h after =
    let less : buffer_size h.push.node ≤ buffer_size parent.node.value = push_size parent.node.value place h.push.edge child.node.value h.push.batch t.next h.push.node h.push.half h.push.made h.push.into in
    let lower : IsLower t (t.level parent.id) child.id = lower_child t parent.id parent.node.value place child.id h.push.edge (h.push.edge.seen + h.push.batch.count) child.node.value (splittable t parent place child step h) in
    let down : t.level child.id < t.level parent.id = lower.lower in
    let under : t.level parent.id ≤ t.level t.root = h.can.under in
    no_higher t parent.id h.push.node child.id h.push.half h.push.made u (change t parent place child step h) (subst (λ (q : Step). IsTableAfter t q u) h.push.is after)
    (λ root. let is : buffer_size parent.node.value ≡ t.size = h.can.parent_is.root root in omega arith)
    (λ root. absurd (let same : t.level child.id ≡ t.level t.root = ap t.level root in omega arith))

pub push_made : (t : Table) (parent : Fetched) (place : ℕ) (child : Fetched) (step : Step) → IsToPush t parent place child step → length step.made ≤ 1
push_made t parent place child step h =
    let few : length h.push.made ≤ 1 = few_made t parent place child step h in
    let same : length step.made ≡ length h.push.made = ap (λ (q : Step). length q.made) h.push.is in
    omega arith
