-- The commit of a child's split.
use Rattle.std.proofs.Common.{◌≡◌, ℕ, Bool, ◌+◌, ◌^◌, ◌<◌, ◌≤◌, List, length, refl, sym, ap, subst, ◌∙◌, arith, Err}
use Rattle.std.proofs.lemmas.Option.{same_Some}
use Rattle.bd_message.specs.declared.fault.MapFault.{MapFault}
use Rattle.bd_message.specs.KeyMaps.{HasMapCause}
use Rattle.bd_node.specs.declared.node.Edge.{Edge}
use Rattle.bd_node.specs.declared.node.Step.{Step}
use Rattle.bd_node.specs.Nodes.{buffer_size}
use Rattle.bd_node.specs.Meaning.{Nodes}
use Rattle.bd_node.specs.Tables.{Table, IsTable, IsSound}
use Rattle.bd_node.specs.Steps.{IsStep, IsInPlace, IsTableAfter, IsCommitted, IsWornBy}
use Rattle.bd_node.specs.Stores.{visited}
use Rattle.bd_path.specs.declared.fetching.Fetched.{Fetched}
use Rattle.bd_path.specs.Flushed.{IsFlushed, IsNoHigher}
use Rattle.bd_path.specs.Fetching.{IsWayTo}
use Rattle.bd_flush.specs.Children.{CanSplitChild, AreFamily, IsChildStep}
use Rattle.bd_flush.specs.Between.{IsSplitStep, IsHighSplit}
use Rattle.bd_flush.specs.Between.IsSplitStep.{short}
use Rattle.bd_path.specs.Made.{IsWornFor}
use Rattle.bd_path.proofs.Made.{worn_of}
use Rattle.bd_message.proofs.Causes.{cause_passed}
use Rattle.bd_path.proofs.ChildSteps.{IsChildChange, IsChildChangeOf, IsChildChanged, below_step, below_in_place, child_flushed, no_higher}
use Rattle.bd_inner.proofs.Fitting.{own_shape}
use Rattle.bd_flush.proofs.ChildSplits.{at_child, IsSplittable, split_change, split_change_of, split_few, split_size}

-- a child to split, and the step
pub record IsToSplitChild (t : Table) (parent : Fetched) (place : ℕ) (child : Fetched) (step : Step) : Type 0 where
  pub table : IsTable t
  pub next : t.next < 2 ^ 64
  pub can : CanSplitChild t parent place child
  pub split : IsChildStep t.root t.next parent place child step

pub is_to_split_child : (t : Table) (parent : Fetched) (place : ℕ) (child : Fetched) (step : Step) (root next : ℕ) → IsTable t → CanSplitChild t parent place child → root ≡ t.root → next ≡ t.next → next < 2 ^ 64 → IsChildStep root next parent place child step
    → IsToSplitChild t parent place child step
is_to_split_child t parent place child step root next table can same_root same_next room split = record {
  table = table;
  next = omega arith;
  can = can;
  split = subst (λ (i : ℕ). IsChildStep t.root i parent place child step) same_next (subst (λ (r : ℕ). IsChildStep r next parent place child step) same_root split);
}

splittable : (t : Table) (parent : Fetched) (place : ℕ) (child : Fetched) (step : Step) → (h : IsToSplitChild t parent place child step) → IsSplittable t parent.id parent.node.value place child.id h.split.edge h.split.edge.seen child.node.value
splittable t parent place child step h = record {
  table = h.table;
  kept = h.can.parent_is.kept;
  own = h.can.parent_is.own;
  few = h.can.room;
  way = subst (λ (e : Edge). IsWayTo parent.node.value place child.id e) (same_Some h.can.edge h.split.edge (sym h.can.way.here ∙ h.split.here)) h.can.way;
  low = (own_shape parent.node.value place h.split.edge h.can.parent_is.own.shape h.split.here).seen;
  child_level = h.can.child_is.own.level_is;
  child_names = h.can.child_is.own.lower;
  next = h.next;
}

change : (t : Table) (parent : Fetched) (place : ℕ) (child : Fetched) (step : Step) → (h : IsToSplitChild t parent place child step) → IsChildChange t parent.id h.split.node child.id h.split.half h.split.made
change t parent place child step h =
    split_change t parent.id parent.node.value place child.id h.split.edge h.split.edge.seen child.node.value h.split.node h.split.half h.split.made (splittable t parent place child step h) h.split.into

change_of : (nodes : Nodes) (t : Table) (parent : Fetched) (place : ℕ) (child : Fetched) (step : Step) → (h : IsToSplitChild t parent place child step) → IsSound nodes t → AreFamily nodes t parent child
    → IsChildChangeOf nodes t parent.id parent.node.value h.split.node child.id h.split.half h.split.made
change_of nodes t parent place child step h sound family =
    split_change_of nodes t parent.id parent.node.value place child.id h.split.edge child.node.value h.split.node h.split.half h.split.made
    (record { of = splittable t parent place child step h; sound = sound; there = family.parent_there; private = family.private; once = h.can.once; child_has = at_child nodes t child.id child.node.value sound family.child_there; others_have = λ x other low k. refl }) h.split.into

changed : (nodes : Nodes) (t : Table) (parent : Fetched) (place : ℕ) (child : Fetched) (step : Step) (new : Nodes) (u : Table) → (h : IsToSplitChild t parent place child step) → IsSound nodes t → AreFamily nodes t parent child → IsTableAfter t step u → IsCommitted nodes t step new u
    → IsChildChanged nodes t parent.id parent.node.value h.split.node child.id h.split.half h.split.made new u
changed nodes t parent place child step new u h sound family after committed = record {
  of = change_of nodes t parent place child step h sound family;
  after = subst (λ (q : Step). IsTableAfter t q u) h.split.is after;
  committed = subst (λ (q : Step). IsCommitted nodes t q new u) h.split.is committed;
}

few_made : (t : Table) (parent : Fetched) (place : ℕ) (child : Fetched) (step : Step) → (h : IsToSplitChild t parent place child step) → length h.split.made ≤ 1
few_made t parent place child step h = split_few parent.node.value place h.split.edge child.node.value t.next h.split.node h.split.half h.split.made h.split.into

pub may_split : (t : Table) (parent : Fetched) (place : ℕ) (child : Fetched) (step : Step) → IsToSplitChild t parent place child step → IsStep t step
may_split t parent place child step h =
    subst (λ (q : Step). IsStep t q) (sym h.split.is) (below_step t parent.id h.split.node child.id h.split.half h.split.made (change t parent place child step h))

pub split_in_place : (nodes : Nodes) (t : Table) (parent : Fetched) (place : ℕ) (child : Fetched) (step : Step) → IsToSplitChild t parent place child step → IsSound nodes t → AreFamily nodes t parent child → IsInPlace nodes t step
split_in_place nodes t parent place child step h sound family =
    subst (λ (q : Step). IsInPlace nodes t q) (sym h.split.is)
    (below_in_place nodes t parent.id parent.node.value h.split.node child.id h.split.half h.split.made (change_of nodes t parent place child step h sound family))

pub split_flushed : (nodes : Nodes) (t : Table) (parent : Fetched) (place : ℕ) (child : Fetched) (step : Step) (new : Nodes) (u : Table) → IsToSplitChild t parent place child step → IsSound nodes t → AreFamily nodes t parent child → IsTableAfter t step u → IsCommitted nodes t step new u → IsFlushed nodes t new u
split_flushed nodes t parent place child step new u h sound family after committed =
    child_flushed nodes t parent.id parent.node.value h.split.node child.id h.split.half h.split.made new u (changed nodes t parent place child step new u h sound family after committed)
    (let few : length h.split.made ≤ 1 = few_made t parent place child step h in omega arith)

pub split_no_higher : (t : Table) (parent : Fetched) (place : ℕ) (child : Fetched) (step : Step) (u : Table) → IsToSplitChild t parent place child step → IsTableAfter t step u → IsNoHigher t u
split_no_higher t parent place child step u h after =
    let sizes = split_size parent.node.value place h.split.edge child.node.value t.next h.split.node h.split.half h.split.made h.split.into in
    no_higher t parent.id h.split.node child.id h.split.half h.split.made u (change t parent place child step h) (subst (λ (q : Step). IsTableAfter t q u) h.split.is after)
    (λ root. let is : buffer_size parent.node.value ≡ t.size = h.can.parent_is.root root in let less : buffer_size h.split.node ≤ buffer_size parent.node.value = sizes.0 in omega arith)
    (λ root. let is : buffer_size child.node.value ≡ t.size = h.can.child_is.root root in let less : buffer_size h.split.half ≤ buffer_size child.node.value = sizes.1 in omega arith)

pub split_visits : (t : Table) (parent : Fetched) (place : ℕ) (child : Fetched) (step : Step) (before now : ℕ) → IsToSplitChild t parent place child step → now ≡ visited before (length step.made) → now ≤ before + 1
split_visits t parent place child step before now h is =
    let few : length h.split.made ≤ 1 = few_made t parent place child step h in
    let same : length step.made ≡ length h.split.made = ap (λ (q : Step). length q.made) h.split.is in
    omega arith

pub split_cause : {T U : Type 0} (before now : ℕ) (last : Bool) (bad : ℕ → Type 0) (t : Table) (above : List Fetched) (parent : Fetched) (place : ℕ) (child : Fetched) (step : Step) (e : MapFault) → IsToSplitChild t parent place child step → HasMapCause {T = T} before now last bad (IsWornBy t step) (Err e)
    → HasMapCause {T = U} before now last bad (IsWornFor (IsSplitStep t above parent place child) (IsHighSplit above parent place child) t) (Err e)
split_cause {T} {U} before now last bad t above parent place child step e h cause =
    worn_of {T = U} before now last bad (IsSplitStep t above parent place child) (IsHighSplit above parent place child) t step (Err e) (short h.split) (cause_passed before now last bad (IsWornBy t step) e cause)
