-- The commit that changes one edge of a private node, and of its neighbours those that become one
-- with it.
use Rattle.std.proofs.Common.{◌≡◌, ℕ, ◌+◌, ◌<◌, ◌≤◌, List, [], sym, ap, subst, ◌∙◌, Some, arith, inl, inr, Result, Ok, Err}
use Rattle.std.specs.Prelude.{OnOk}
use Rattle.std.proofs.lemmas.Bool.{cases_eq}
use Rattle.bd_keys.specs.Keys.{IsKey}
use Rattle.bd_node.specs.declared.node.Node.{Node}
use Rattle.bd_node.specs.declared.node.Step.{Step}
use Rattle.bd_node.specs.Nodes.{level_of, buffer_size, names, times, node_at}
use Rattle.bd_node.specs.Meaning.{Nodes, at as meaning}
use Rattle.bd_node.specs.Shape.{IsShape}
use Rattle.bd_node.specs.Tables.{Table, IsKept, IsTable, IsLower, IsSound, sum_below}
use Rattle.bd_node.specs.Steps.{IsStep, IsInPlace, IsTableAfter, IsCommitted}
use Rattle.bd_node.proofs.Lookup.{named_has}
use Rattle.bd_node.proofs.Stepping.{after-none}
use Rattle.bd_path.specs.declared.fetching.Fetched.{Fetched}
use Rattle.bd_path.specs.Flushed.{IsFlushed, IsNoHigher}
use Rattle.bd_path.specs.Fetching.{IsFetched, IsOwn}
use Rattle.bd_path.specs.Paths.{change_step}
use Rattle.bd_path.proofs.PathSteps.{given_upper}
use Rattle.bd_path.proofs.OneSteps.{lone, lone_of, IsOneChange, IsOneChangeOf, IsOneChanged, one_step, one_in_place, one_flushed, one_there, one_no_higher}
use Rattle.bd_cover.specs.Reclaimed.{IsReclaimed, left_at, left_in, left_over}
use Rattle.bd_cover.proofs.Falls.{sum_falls}

-- a step that changes a node to one that is no larger, names no other nodes, and leaves less to change
pub record IsToChange (t : Table) (node : Fetched) (made : Node) (step : Step) : Type 0 where
  pub table : IsTable t
  pub fetched : IsFetched t node
  pub shape : IsShape made
  pub level : level_of made ≡ level_of node.node.value
  pub named : (x : ℕ) → 1 ≤ times made x → 1 ≤ times node.node.value x
  pub size : buffer_size made ≤ buffer_size node.node.value
  pub less : left_at made < left_at node.node.value
  pub is : step ≡ change_step t.root node.id made

-- a node has what another has
abbrev pub HasSame : Nodes → Node → Node → Type 0
HasSame nodes made n = (k : List ℕ) → IsKey k → node_at (meaning nodes) made k ≡ node_at (meaning nodes) n k

change : (t : Table) (node : Fetched) (made : Node) (step : Step) → IsToChange t node made step → IsOneChange t node.id made []
change t node made step h =
    lone t node.id made h.table h.fetched.kept h.shape (h.level ∙ h.fetched.own.level_is)
    (λ x one. named_has (IsLower t (t.level node.id)) x (names node.node.value) h.fetched.own.lower (h.named x one))

change_of : (nodes : Nodes) (t : Table) (node : Fetched) (made : Node) (step : Step) → IsToChange t node made step → HasSame nodes made node.node.value → IsSound nodes t → IsOwn nodes t node → IsOneChangeOf nodes t node.id node.node.value made []
change_of nodes t node made step h same sound own = lone_of nodes t node.id node.node.value made (change t node made step h) sound own.there own.private same

-- the step is made
pub record IsMade (nodes : Nodes) (t : Table) (node : Fetched) (made : Node) (step : Step) (new : Nodes) (u : Table) : Type 0 where
  pub change : IsToChange t node made step
  pub same : HasSame nodes made node.node.value
  pub sound : IsSound nodes t
  pub own : IsOwn nodes t node
  pub after : IsTableAfter t step u
  pub committed : IsCommitted nodes t step new u

changed : (nodes : Nodes) (t : Table) (node : Fetched) (made : Node) (step : Step) (new : Nodes) (u : Table) → IsMade nodes t node made step new u → IsOneChanged nodes t node.id node.node.value made [] new u
changed nodes t node made step new u m = record {
  of = change_of nodes t node made step m.change m.same m.sound m.own;
  after = subst (λ (q : Step). IsTableAfter t q u) m.change.is m.after;
  committed = subst (λ (q : Step). IsCommitted nodes t q new u) m.change.is m.committed;
}

pub may_change : (t : Table) (node : Fetched) (made : Node) (step : Step) → IsToChange t node made step → IsStep t step
may_change t node made step h = subst (λ (q : Step). IsStep t q) (sym h.is) (one_step t node.id made [] (change t node made step h))

pub change_in_place : (nodes : Nodes) (t : Table) (node : Fetched) (made : Node) (step : Step) → IsToChange t node made step → HasSame nodes made node.node.value → IsSound nodes t → IsOwn nodes t node → IsInPlace nodes t step
change_in_place nodes t node made step h same sound own =
    subst (λ (q : Step). IsInPlace nodes t q) (sym h.is) (one_in_place nodes t node.id node.node.value made [] (change_of nodes t node made step h same sound own))

-- ---- the result

no_higher : (t : Table) (node : Fetched) (made : Node) (step : Step) (u : Table) → IsToChange t node made step → IsTableAfter t step u → IsNoHigher t u
no_higher t node made step u h after =
    one_no_higher t node.id made [] u (change t node made step h) (subst (λ (q : Step). IsTableAfter t q u) h.is after)
    (λ root. let is : buffer_size node.node.value ≡ t.size = h.fetched.root root in
    let less : buffer_size made ≤ buffer_size node.node.value = h.size in omega arith)

same_next : (t : Table) (node : Fetched) (made : Node) (step : Step) (u : Table) → IsToChange t node made step → IsTableAfter t step u → u.next ≡ t.next
same_next t node made step u h after =
    let next : u.next ≡ t.next + 0 = (subst (λ (q : Step). IsTableAfter t q u) h.is after).next in
    omega arith

-- what a step of a flush leaves, and more
pub as_reclaimed : (nodes : Nodes) (t : Table) (new : Nodes) (u : Table) → IsFlushed nodes t new u → IsReclaimed nodes t new u
as_reclaimed nodes t new u h = record {
  same = h.same;
  sound = h.sound;
  later = h.later;
  few = h.few;
  last = h.last;
  private = h.private;
  others = h.others;
  touched = h.touched;
  high = h.high;
}

reclaimed : (nodes : Nodes) (t : Table) (node : Fetched) (made : Node) (step : Step) (new : Nodes) (u : Table) → IsMade nodes t node made step new u → IsReclaimed nodes t new u
reclaimed nodes t node made step new u m =
    as_reclaimed nodes t new u (one_flushed nodes t node.id node.node.value made [] new u (changed nodes t node made step new u m) (omega arith))

rest_same : (nodes : Nodes) (t : Table) (node : Fetched) (made : Node) (step : Step) (new : Nodes) (u : Table) → IsMade nodes t node made step new u → (id : ℕ) → IsKept u id → (id ≡ node.id → ⊥) → new id ≡ nodes id
rest_same nodes t node made step new u m id kept other =
    let done : IsCommitted nodes t (change_step t.root node.id made) new u = subst (λ (q : Step). IsCommitted nodes t q new u) m.change.is m.committed in
    let next : u.next ≡ t.next = same_next t node made step u m.change m.after in
    let low : id < u.next = m.after.table.below id kept in
    done.stays id kept ∙ after-none nodes t (change_step t.root node.id made) id (given_upper t node.id made [] [] id (omega arith) other)

node_there : (nodes : Nodes) (t : Table) (node : Fetched) (made : Node) (step : Step) (new : Nodes) (u : Table) → IsMade nodes t node made step new u → new node.id ≡ Some made
node_there nodes t node made step new u m = one_there nodes t node.id node.node.value made [] new u (changed nodes t node made step new u m)

-- the node is that one, and all others that stay are what they were
pub record IsChangedTo (nodes : Nodes) (node : Fetched) (made : Node) (new : Nodes) (u : Table) : Type 0 where
  pub there : new node.id ≡ Some made
  pub rest : (id : ℕ) → IsKept u id → (id ≡ node.id → ⊥) → new id ≡ nodes id

-- less is left to change at one node, and each other one that stays is what it was
pub record IsLessAt (nodes : Nodes) (t : Table) (id : ℕ) (new : Nodes) (u : Table) : Type 0 where
  pub low : id < t.next
  pub less : left_in (new id) < left_in (nodes id)
  pub rest : (x : ℕ) → IsKept u x → (x ≡ id → ⊥) → new x ≡ nodes x
  pub sound : IsSound new u
  pub next : u.next ≡ t.next
  pub level : u.level u.root ≡ t.level t.root

-- no node has more left to change
each_less : (nodes : Nodes) (t : Table) (id : ℕ) (new : Nodes) (u : Table) → IsLessAt nodes t id new u → (x : ℕ) → left_in (new x) ≤ left_in (nodes x)
each_less nodes t id new u h x =
    elim (cases_eq (u.count x) 0) [
      | inl gone ↦ (let none : left_in (new x) ≡ 0 = ap left_in (h.sound.others x gone) in omega arith)
      | inr kept ↦ elim (cases_eq x id) [
        | inl same ↦ (let less : left_in (new id) < left_in (nodes id) = h.less in subst (λ (i : ℕ). left_in (new i) ≤ left_in (nodes i)) (sym same) (omega arith))
        | inr other ↦ (let is : left_in (new x) ≡ left_in (nodes x) = ap left_in (h.rest x (omega arith) other) in omega arith)
      ]
    ]

pub all_falls : (nodes : Nodes) (t : Table) (id : ℕ) (new : Nodes) (u : Table) → IsLessAt nodes t id new u → left_over new u < left_over nodes t
all_falls nodes t id new u h =
    let sums : sum_below t.next (λ x. left_in (new x)) < sum_below t.next (λ x. left_in (nodes x)) =
    sum_falls t.next (λ x. left_in (nodes x)) (λ x. left_in (new x)) id h.low h.less (λ x low. each_less nodes t id new u h x) in
    let next : sum_below u.next (λ x. left_in (new x)) ≡ sum_below t.next (λ x. left_in (new x)) = ap (λ (i : ℕ). sum_below i (λ x. left_in (new x))) h.next in
    let level : u.level u.root ≡ t.level t.root = h.level in
    omega (arith, sums, next, level)

falls : (nodes : Nodes) (t : Table) (node : Fetched) (made : Node) (step : Step) (new : Nodes) (u : Table) → IsMade nodes t node made step new u → left_over new u < left_over nodes t
falls nodes t node made step new u m =
    let less : left_at made < left_at node.node.value = m.change.less in
    let was : left_in (nodes node.id) ≡ left_at node.node.value = ap left_in m.own.there in
    let is : left_in (new node.id) ≡ left_at made = ap left_in (node_there nodes t node made step new u m) in
    all_falls nodes t node.id new u
    (record {
      low = m.change.table.below node.id m.change.fetched.kept;
      less = omega (arith, less, was, is);
      rest = rest_same nodes t node made step new u m;
      sound = m.committed.sound;
      next = same_next t node made step u m.change m.after;
      level = (no_higher t node made step u m.change m.after).level;
    })

-- ---- on success

-- what the change leaves
pub record IsLeft (nodes : Nodes) (t : Table) (node : Fetched) (made : Node) (new : Nodes) (u : Table) : Type 0 where
  pub reclaimed : IsReclaimed nodes t new u
  pub changed : IsChangedTo nodes node made new u
  pub falls : left_over new u < left_over nodes t

pub on_left : {T E : Type 0} (nodes : Nodes) (t : Table) (node : Fetched) (made : Node) (step : Step) (new : Nodes) (u : Table) (r : Result T E) → IsToChange t node made step → HasSame nodes made node.node.value → IsSound nodes t → IsOwn nodes t node
    → OnOk r (IsTableAfter t step u) → OnOk r (IsCommitted nodes t step new u) → OnOk r (IsLeft nodes t node made new u)
on_left nodes t node made step new u (Ok x) h same sound own after committed =
    let m : IsMade nodes t node made step new u = record { change = h; same = same; sound = sound; own = own; after = after; committed = committed } in
    record {
      reclaimed = reclaimed nodes t node made step new u m;
      changed = record { there = node_there nodes t node made step new u m; rest = rest_same nodes t node made step new u m };
      falls = falls nodes t node made step new u m;
    }
on_left nodes t node made step new u (Err e) h same sound own after committed = tt

pub on_reclaimed : {T E : Type 0} (nodes : Nodes) (t : Table) (node : Fetched) (made : Node) (new : Nodes) (u : Table) (r : Result T E) → OnOk r (IsLeft nodes t node made new u) → OnOk r (IsReclaimed nodes t new u)
on_reclaimed nodes t node made new u (Ok x) h = h.reclaimed
on_reclaimed nodes t node made new u (Err e) h = tt

pub on_falls : {T E : Type 0} (nodes : Nodes) (t : Table) (node : Fetched) (made : Node) (new : Nodes) (u : Table) (r : Result T E) → OnOk r (IsLeft nodes t node made new u) → OnOk r (left_over new u < left_over nodes t)
on_falls nodes t node made new u (Ok x) h = h.falls
on_falls nodes t node made new u (Err e) h = tt

pub on_no_higher : {T E : Type 0} (t : Table) (node : Fetched) (made : Node) (step : Step) (u : Table) (r : Result T E) → IsToChange t node made step → OnOk r (IsTableAfter t step u) → OnOk r (IsNoHigher t u)
on_no_higher t node made step u (Ok x) h after = no_higher t node made step u h after
on_no_higher t node made step u (Err e) h after = tt
