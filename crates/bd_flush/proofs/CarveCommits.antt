-- The commit that carves a Goto out.
use Rattle.std.proofs.Common.{◌≡◌, ℕ, ◌≤◌, List, [], length, sym, ap, subst, ◌∙◌, Option, Some, arith, Result, Ok, Err}
use Rattle.std.specs.Prelude.{slice_get, OnOk, OnErr, IfOk}
use Rattle.bd_message.specs.declared.message.Message.{Message}
use Rattle.bd_message.specs.declared.message.Message.TheVariants.{Put, Del, Patch, Cut, Goto}
use Rattle.bd_node.specs.declared.node.Edge.{Edge}
use Rattle.bd_node.specs.declared.node.Node.{Node}
use Rattle.bd_node.specs.declared.node.Step.{Step}
use Rattle.bd_node.specs.Nodes.{buffer_size, names}
use Rattle.bd_node.specs.Meaning.{Nodes, at}
use Rattle.bd_node.specs.Tables.{Table, IsTable, IsLower, IsSound}
use Rattle.bd_node.specs.Steps.{IsStep, IsInPlace, IsTableAfter, IsCommitted}
use Rattle.bd_node.specs.Stores.{visited}
use Rattle.bd_node.proofs.Lookup.{named_has}
use Rattle.bd_node.specs.Parts.{buffer_of, end_at, IsEdgeAt}
use Rattle.bd_inner.specs.Carving.{IsGotoAt, IsCarved}
use Rattle.bd_inner.proofs.Carved.{carved_shape, carved_level, carved_meaning, carved_size, carved_times}
use Rattle.bd_path.specs.declared.fetching.Fetched.{Fetched}
use Rattle.bd_path.specs.Flushed.{IsFlushed, IsNoHigher}
use Rattle.bd_path.specs.Fetching.{IsOwn}
use Rattle.bd_flush.specs.GoingDown.{MayGoDown, child_level}
use Rattle.bd_flush.specs.Carving.{CanCarve, IsOldestAt, IsCarveStep}
use Rattle.bd_path.specs.Paths.{change_step}
use Rattle.bd_path.proofs.OneSteps.{lone, lone_of, IsOneChange, IsOneChangeOf, IsOneChanged, one_step, one_in_place, one_flushed, one_no_higher}

pub record IsToCarve (t : Table) (parent : Fetched) (place : ℕ) (step : Step) : Type 0 where
  pub table : IsTable t
  pub index : ℕ
  pub can : CanCarve t parent place index
  pub carve : IsCarveStep t parent place step

change : (t : Table) (parent : Fetched) (place : ℕ) (step : Step) → (h : IsToCarve t parent place step) → IsOneChange t parent.id h.carve.node []
change t parent place step h =
    let old : Node = parent.node.value in
    let made : IsCarved old h.carve.carved.index h.carve.node = h.carve.carved.carved in
    let shape = h.can.parent_is.own.shape in
    lone t parent.id h.carve.node h.table h.can.parent_is.kept
    (carved_shape old h.carve.carved.index h.carve.node shape h.can.room made)
    (carved_level old h.carve.carved.index h.carve.node made ∙ h.can.parent_is.own.level_is)
    (λ x one. named_has (IsLower t (t.level parent.id)) x (names old) h.can.parent_is.own.lower (carved_times old h.carve.carved.index h.carve.node shape made x one))

change_of : (nodes : Nodes) (t : Table) (parent : Fetched) (place : ℕ) (step : Step) → (h : IsToCarve t parent place step) → IsSound nodes t → IsOwn nodes t parent → IsOneChangeOf nodes t parent.id parent.node.value h.carve.node []
change_of nodes t parent place step h sound own =
    lone_of nodes t parent.id parent.node.value h.carve.node (change t parent place step h) sound own.there own.private
    (λ k key. carved_meaning (at nodes) parent.node.value h.carve.carved.index h.carve.node h.can.parent_is.own.shape h.can.room h.carve.carved.carved k key)

changed : (nodes : Nodes) (t : Table) (parent : Fetched) (place : ℕ) (step : Step) (new : Nodes) (u : Table) → (h : IsToCarve t parent place step) → IsSound nodes t → IsOwn nodes t parent → IsTableAfter t step u → IsCommitted nodes t step new u
    → IsOneChanged nodes t parent.id parent.node.value h.carve.node [] new u
changed nodes t parent place step new u h sound own after committed = record {
  of = change_of nodes t parent place step h sound own;
  after = subst (λ (q : Step). IsTableAfter t q u) h.carve.is after;
  committed = subst (λ (q : Step). IsCommitted nodes t q new u) h.carve.is committed;
}

pub may_carve : (t : Table) (parent : Fetched) (place : ℕ) (step : Step) → IsToCarve t parent place step → IsStep t step
may_carve t parent place step h = subst (λ (q : Step). IsStep t q) (sym h.carve.is) (one_step t parent.id h.carve.node [] (change t parent place step h))

pub carve_in_place : (nodes : Nodes) (t : Table) (parent : Fetched) (place : ℕ) (step : Step) → IsToCarve t parent place step → IsSound nodes t → IsOwn nodes t parent → IsInPlace nodes t step
carve_in_place nodes t parent place step h sound own =
    subst (λ (q : Step). IsInPlace nodes t q) (sym h.carve.is) (one_in_place nodes t parent.id parent.node.value h.carve.node [] (change_of nodes t parent place step h sound own))

-- ---- the result

pub on_carve_flushed : {T E : Type 0} (nodes : Nodes) (t : Table) (parent : Fetched) (place : ℕ) (step : Step) (new : Nodes) (u : Table) (r : Result T E) → IsToCarve t parent place step → IsSound nodes t → IsOwn nodes t parent
    → OnOk r (IsTableAfter t step u) → OnOk r (IsCommitted nodes t step new u) → OnOk r (IsFlushed nodes t new u)
on_carve_flushed nodes t parent place step new u (Ok x) h s own after committed = one_flushed nodes t parent.id parent.node.value h.carve.node [] new u (changed nodes t parent place step new u h s own after committed) (omega arith)
on_carve_flushed nodes t parent place step new u (Err e) h s own after committed = tt

pub on_carve_table : {T E : Type 0} (t : Table) (parent : Fetched) (place : ℕ) (step : Step) (u : Table) (r : Result T E) → IsToCarve t parent place step → OnOk r (IsTableAfter t step u) → OnOk r (IsNoHigher t u)
on_carve_table t parent place step u (Ok x) h after =
    one_no_higher t parent.id h.carve.node [] u (change t parent place step h) (subst (λ (q : Step). IsTableAfter t q u) h.carve.is after)
    (λ root. let is : buffer_size parent.node.value ≡ t.size = h.can.parent_is.root root in
    let less : buffer_size h.carve.node ≤ buffer_size parent.node.value = carved_size parent.node.value h.carve.carved.index h.carve.node h.carve.carved.carved in omega arith)
on_carve_table t parent place step u (Err e) h after = tt

pub carve_visits : {T E : Type 0} (t : Table) (parent : Fetched) (place : ℕ) (step : Step) (before now : ℕ) (r : Result T E) → IsToCarve t parent place step → OnOk r (now ≡ visited before (length step.made)) → (OnErr r (now ≡ before)) → now ≤ before
carve_visits t parent place step before now (Ok x) h is err =
    let none : length step.made ≡ 0 = ap (λ (q : Step). length q.made) h.carve.is in
    let counted : now ≡ visited before 0 = is ∙ ap (λ (i : ℕ). visited before i) none in
    omega arith
carve_visits t parent place step before now (Err e) h is err = omega (arith, err)

-- ---- the step

goto_there : (level : ℕ → ℕ) (top : ℕ) (e : Edge) (hi : Option (List ℕ)) (n : Node) (index : ℕ) (m : Message) → slice_get (buffer_of n) index ≡ Some m → (MayGoDown level top e hi m → ⊥) → IsGotoAt n index
goto_there level top e hi n index (Put key value) there other = absurd (other tt)
goto_there level top e hi n index (Del key) there other = absurd (other tt)
goto_there level top e hi n index (Patch key off bytes) there other = absurd (other tt)
goto_there level top e hi n index (Cut prefix from) there other = absurd (other tt)
goto_there level top e hi n index (Goto prefix source child) there other = record { prefix = prefix; source = source; child = child; there = there }

oldest_there : (level : ℕ → ℕ) (n : Node) (place : ℕ) (e : Edge) (index : ℕ) → IsOldestAt level n place e index → IsGotoAt n index
oldest_there level n place e index h = goto_there level (child_level level e.child) e (end_at n place) n index h.message h.there h.held.1

pub goto_of : (level : ℕ → ℕ) (n m : Node) (place index : ℕ) (e : Edge) → n ≡ m → IsOldestAt level m place e index → IsGotoAt n index
goto_of level n m place index e same oldest = subst (λ (x : Node). IsGotoAt x index) (sym same) (oldest_there level m place e index oldest)

pub on_carve_step : {E : Type 0} (t : Table) (parent : Fetched) (place index : ℕ) (n made : Node) (e : Edge) (root : ℕ) (r : Result Step E) → n ≡ parent.node.value → root ≡ t.root → IsEdgeAt parent.node.value place e → IsOldestAt t.level parent.node.value place e index
    → IsCarved n index made → IfOk r (λ step. step ≡ change_step root parent.id made) → IfOk r (λ step. IsCarveStep t parent place step)
on_carve_step t parent place index n made e root (Ok step) same root_is here oldest carved is = record {
  node = made;
  carved = record { edge = e; here = here; index = index; oldest = oldest; carved = subst (λ (x : Node). IsCarved x index made) same carved };
  is = is ∙ ap (λ (i : ℕ). change_step i parent.id made) root_is;
}
on_carve_step t parent place index n made e root (Err x) same root_is here oldest carved is = tt
