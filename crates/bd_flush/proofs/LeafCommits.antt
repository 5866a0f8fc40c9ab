-- The commit of a push to a new leaf.
use Rattle.std.proofs.Common.{◌≡◌, ℕ, ◌^◌, ◌<◌, ◌≤◌, [], ◌∷◌, length, sym, ap, subst, ◌∙◌, arith, Result, Ok, Err}
use Rattle.std.specs.Prelude.{OnOk}
use Rattle.std.proofs.lemmas.Option.{same_Some}
use Rattle.bd_node.specs.declared.node.Edge.{Edge}
use Rattle.bd_node.specs.declared.node.Step.{Step}
use Rattle.bd_node.specs.declared.node.Node.TheVariants.{Leaf}
use Rattle.bd_node.specs.Nodes.{buffer_size}
use Rattle.bd_node.specs.Meaning.{Nodes}
use Rattle.bd_node.specs.Tables.{Table, IsTable, IsSound}
use Rattle.bd_node.specs.Steps.{IsStep, IsInPlace, IsTableAfter, IsCommitted}
use Rattle.bd_node.specs.Stores.{visited}
use Rattle.bd_path.specs.declared.fetching.Fetched.{Fetched}
use Rattle.bd_path.specs.Flushed.{IsFlushed, IsNoHigher}
use Rattle.bd_flush.specs.Pushing.{CanPushNew, IsNewStep}
use Rattle.bd_path.specs.Fetching.{IsOwn}
use Rattle.bd_path.proofs.OneSteps.{IsOneChange, IsOneChangeOf, IsOneChanged, one_step, one_in_place, one_flushed, one_no_higher}
use Rattle.bd_flush.proofs.LeafPushes.{IsBare, new_change, new_change_of, new_size}

pub record IsToPushNew (t : Table) (parent : Fetched) (place : ℕ) (step : Step) : Type 0 where
  pub table : IsTable t
  pub next : t.next < 2 ^ 64
  pub can : CanPushNew t parent place
  pub push : IsNewStep t.root t.next parent place step

pub is_to_push_new : (t : Table) (parent : Fetched) (place : ℕ) (step : Step) (root next : ℕ) → IsTable t → CanPushNew t parent place → root ≡ t.root → next ≡ t.next → next < 2 ^ 64 → IsNewStep root next parent place step → IsToPushNew t parent place step
is_to_push_new t parent place step root next table can same_root same_next room push = record {
  table = table;
  next = omega arith;
  can = can;
  push = subst (λ (i : ℕ). IsNewStep t.root i parent place step) same_next (subst (λ (r : ℕ). IsNewStep r next parent place step) same_root push);
}

bare_of : (t : Table) (parent : Fetched) (place : ℕ) (step : Step) → (h : IsToPushNew t parent place step) → IsBare t parent.id parent.node.value place h.push.edge
bare_of t parent place step h =
    subst (λ (e : Edge). IsBare t parent.id parent.node.value place e) (same_Some h.can.edge h.push.edge (sym h.can.here ∙ h.push.here))
    (record { table = h.table; kept = h.can.parent_is.kept; own = h.can.parent_is.own; here = h.can.here; bare = h.can.bare; waiting = h.can.waiting; next = h.next })

change : (t : Table) (parent : Fetched) (place : ℕ) (step : Step) → (h : IsToPushNew t parent place step) → IsOneChange t parent.id h.push.node (Leaf h.push.entries ∷ [])
change t parent place step h = new_change t parent.id parent.node.value place h.push.edge h.push.node h.push.entries (bare_of t parent place step h) h.push.into

change_of : (nodes : Nodes) (t : Table) (parent : Fetched) (place : ℕ) (step : Step) → (h : IsToPushNew t parent place step) → IsSound nodes t → IsOwn nodes t parent → IsOneChangeOf nodes t parent.id parent.node.value h.push.node (Leaf h.push.entries ∷ [])
change_of nodes t parent place step h sound own = new_change_of nodes t parent.id parent.node.value place h.push.edge h.push.node h.push.entries (bare_of t parent place step h) sound own.there own.private h.push.into

changed : (nodes : Nodes) (t : Table) (parent : Fetched) (place : ℕ) (step : Step) (new : Nodes) (u : Table) → (h : IsToPushNew t parent place step) → IsSound nodes t → IsOwn nodes t parent → IsTableAfter t step u → IsCommitted nodes t step new u
    → IsOneChanged nodes t parent.id parent.node.value h.push.node (Leaf h.push.entries ∷ []) new u
changed nodes t parent place step new u h sound own after committed = record {
  of = change_of nodes t parent place step h sound own;
  after = subst (λ (q : Step). IsTableAfter t q u) h.push.is after;
  committed = subst (λ (q : Step). IsCommitted nodes t q new u) h.push.is committed;
}

pub may_push_new : (t : Table) (parent : Fetched) (place : ℕ) (step : Step) → IsToPushNew t parent place step → IsStep t step
may_push_new t parent place step h = subst (λ (q : Step). IsStep t q) (sym h.push.is) (one_step t parent.id h.push.node (Leaf h.push.entries ∷ []) (change t parent place step h))

pub new_in_place : (nodes : Nodes) (t : Table) (parent : Fetched) (place : ℕ) (step : Step) → IsToPushNew t parent place step → IsSound nodes t → IsOwn nodes t parent → IsInPlace nodes t step
new_in_place nodes t parent place step h sound own =
    subst (λ (q : Step). IsInPlace nodes t q) (sym h.push.is) (one_in_place nodes t parent.id parent.node.value h.push.node (Leaf h.push.entries ∷ []) (change_of nodes t parent place step h sound own))

-- ---- the result

pub on_new_flushed : {T E : Type 0} (nodes : Nodes) (t : Table) (parent : Fetched) (place : ℕ) (step : Step) (new : Nodes) (u : Table) (r : Result T E) → IsToPushNew t parent place step → IsSound nodes t → IsOwn nodes t parent
    → OnOk r (IsTableAfter t step u) → OnOk r (IsCommitted nodes t step new u) → OnOk r (IsFlushed nodes t new u)
on_new_flushed nodes t parent place step new u (Ok x) h s own after committed = one_flushed nodes t parent.id parent.node.value h.push.node (Leaf h.push.entries ∷ []) new u (changed nodes t parent place step new u h s own after committed) (omega arith)
on_new_flushed nodes t parent place step new u (Err e) h s own after committed = tt

pub on_new_table : {T E : Type 0} (t : Table) (parent : Fetched) (place : ℕ) (step : Step) (u : Table) (r : Result T E) → IsToPushNew t parent place step → OnOk r (IsTableAfter t step u) → OnOk r (IsNoHigher t u)
on_new_table t parent place step u (Ok x) h after =
    one_no_higher t parent.id h.push.node (Leaf h.push.entries ∷ []) u (change t parent place step h) (subst (λ (q : Step). IsTableAfter t q u) h.push.is after)
    (λ root. let is : buffer_size parent.node.value ≡ t.size = h.can.parent_is.root root in
    let less : buffer_size h.push.node ≤ buffer_size parent.node.value = new_size parent.node.value place h.push.edge t.next h.push.node h.push.entries h.push.into in omega arith)
on_new_table t parent place step u (Err e) h after = tt

pub on_new_visits : {T E : Type 0} (t : Table) (parent : Fetched) (place : ℕ) (step : Step) (before now : ℕ) (r : Result T E) → IsToPushNew t parent place step → OnOk r (now ≡ visited before (length step.made)) → OnOk r (now ≡ visited before 1)
on_new_visits t parent place step before now (Ok x) h is = is ∙ ap (λ (q : Step). visited before (length q.made)) h.push.is
on_new_visits t parent place step before now (Err e) h is = tt
