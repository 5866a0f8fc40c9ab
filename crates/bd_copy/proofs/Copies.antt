-- A copy that becomes the child of an edge alone.
use Rattle.std.proofs.Common.{◌≡◌, ℕ, ◌+◌, ◌^◌, ◌<◌, ◌≤◌, List, [], ◌∷◌, ◌++◌, length, drop, refl, sym, ap, subst, ◌∙◌, Option, Some, arith, inl, inr, ◌⊎◌, get_or, Result, Ok, Err, OnOk}
use Rattle.std.specs.Prelude.{IfOk}
use Rattle.std.proofs.lemmas.Bool.{cases_eq}
use Rattle.std.proofs.lemmas.Option.{same_Some, none-some}
use Rattle.bd_keys.specs.Keys.{IsKey}
use Rattle.bd_node.specs.declared.node.Edge.{Edge}
use Rattle.bd_node.specs.declared.node.Node.{Node}
use Rattle.bd_node.specs.declared.node.Node.TheVariants.{Leaf, Inner}
use Rattle.bd_limits.specs.Limits.{edge_limit}
use Rattle.bd_node.specs.declared.node.Step.{Step}
use Rattle.bd_node.specs.Nodes.{level_of, buffer_size, names, times, child_at, node_at}
use Rattle.bd_node.specs.Meaning.{Nodes, at}
use Rattle.bd_node.specs.Shape.{IsEdge, IsShape}
use Rattle.bd_node.specs.Tables.{Table, IsKept, IsTable, IsLower, IsNodeOf, IsSound}
use Rattle.bd_node.specs.Private.{IsPrivate}
use Rattle.bd_node.specs.Steps.{IsStep, IsInPlace, IsTableAfter, IsCommitted}
use Rattle.bd_node.specs.Stores.{visited}
use Rattle.bd_node.proofs.Lookup.{Agree, named_has, each_named, node_has-key, count-cons_other}
use Rattle.bd_node.specs.Parts.{edges_of, buffer_of, end_at, IsEdgeAt}
use Rattle.bd_node.specs.Compaction.{IsCompacted}
use Rattle.bd_inner.specs.Exchanging.{FitsAt, way_to}
use Rattle.bd_node.specs.Pushes.{exchanged}
use Rattle.bd_node.proofs.Compacting.{count_names, compacted_shape, compacted_level, compacted_meaning, compacted_size, compacted_times}
use Rattle.bd_inner.proofs.Fitting.{own_shape}
use Rattle.bd_inner.proofs.Moved.{moved_none}
use Rattle.bd_inner.proofs.Exchanged.{exchanged_shape, pushed}
use Rattle.bd_path.specs.declared.fetching.Fetched.{Fetched}
use Rattle.bd_path.specs.Flushed.{IsFlushed, IsNoHigher}
use Rattle.bd_path.specs.Paths.{path_step}
use Rattle.bd_path.specs.Fetching.{IsOwn}
use Rattle.bd_copy.specs.Copying.{CanPutCopy, IsCopyFor, IsCopyAt, IsRedirected, IsCopyStep}
use Rattle.bd_node.proofs.Parts.{some_edge, inner_of, edge_here}
use Rattle.bd_path.proofs.EdgesAt.{some_next}
use Rattle.bd_inner.proofs.Named.{times_exchanged, count_own, level_exchanged, compacted_named, exchanged_named, size_exchanged, times_without}
use Rattle.bd_keys.proofs.Order.{IsKey-drop}
use Rattle.bd_path.proofs.PathSteps.{has_made, made_old}
use Rattle.bd_path.proofs.OneSteps.{IsOneChange, IsOneChangeOf, IsOneChanged, first_made, one_step, one_in_place, one_flushed, one_no_higher}

-- ---- the node above

few_edges : (n : Node) (place : ℕ) (e : Edge) → IsShape n → IsEdgeAt n place e → length (edges_of n) ≤ edge_limit
few_edges (Leaf entries) place e h here = absurd (none-some e here)
few_edges (Inner level es buffer) place e h here = h.few

one_fits : (n : Node) (place : ℕ) (e f : Edge) → IsShape n → IsEdgeAt n place e → f.pivot ≡ e.pivot → IsEdge (length (buffer_of n)) f (end_at n place) → FitsAt n place e (f ∷ [])
one_fits n place e f h here same own = record {
  here = here;
  few = (let few : length (edges_of n) ≤ edge_limit = few_edges n place e h here in omega arith);
  first = ap (λ (p : List ℕ). Some p) same;
  each = (own, tt);
}

way_fits_so : (n : Node) (place : ℕ) (e : Edge) (child : ℕ) → IsShape n → IsEdgeAt n place e → 1 ≤ child → child < 2 ^ 64 → FitsAt n place e (way_to e e.lift child ∷ [])
way_fits_so n place e child h here some small =
    let own : IsEdge (length (buffer_of n)) e (end_at n place) = own_shape n place e h here in
    one_fits n place e (way_to e e.lift child) h here refl
    (record { pivot = own.pivot; rising = own.rising; lift = own.lift; common = own.common; source = omega arith; child = (some, small); seen = own.seen })

-- a node, an edge of it, and a copy for that, as far as the table tells
pub record IsForCopy (t : Table) (p : ℕ) (n : Node) (place : ℕ) (e : Edge) (child : ℕ) (copy : Node) : Type 0 where
  pub table : IsTable t
  pub kept : IsKept t p
  pub own : IsNodeOf t (t.level p) n
  pub here : IsEdgeAt n place e
  pub child_is : e.child ≡ Some child
  pub copy_own : IsNodeOf t (level_of copy) copy
  pub copy_low : level_of copy < level_of n
  pub next : t.next < 2 ^ 64

fits_next : (t : Table) (p : ℕ) (n : Node) (place : ℕ) (e : Edge) (child : ℕ) (copy : Node) → IsForCopy t p n place e child copy → FitsAt n place e (way_to e e.lift t.next ∷ [])
fits_next t p n place e child copy s = way_fits_so n place e t.next s.own.shape s.here (some_next t s.table) s.next

named_then : (t : Table) (p : ℕ) (n : Node) (place : ℕ) (e : Edge) (child : ℕ) (copy h : Node) → IsForCopy t p n place e child copy → IsRedirected n place e t.next h → (x : ℕ) → 1 ≤ times h x → IsLower t (t.level p) x ⊎ (x ≡ t.next)
named_then t p n place e child copy h s into x one =
    let list : List Edge = way_to e e.lift t.next ∷ [] in
    elim (cases_eq t.next x) [
      | inl same ↦ inr (sym same)
      | inr other ↦ (let less : times h x ≤ times (exchanged n place list) x = compacted_times (exchanged n place list) h into x in
          let none : count_names x (t.next ∷ []) ≡ 0 = count-cons_other t.next x [] other in
          let named : 1 ≤ times n x = omega (arith, times_exchanged n place list x (inner_of n place e s.own.shape s.here), times_without n place e x s.own.shape s.here) in
          inl (named_has (IsLower t (t.level p)) x (names n) s.own.lower named))
    ]

used_then : (t : Table) (p : ℕ) (n : Node) (place : ℕ) (e : Edge) (child : ℕ) (copy h : Node) → IsForCopy t p n place e child copy → IsRedirected n place e t.next h → 1 ≤ times h t.next
used_then t p n place e child copy h s into =
    let list : List Edge = way_to e e.lift t.next ∷ [] in
    omega (arith, count_own t.next, compacted_named (exchanged n place list) h into t.next, exchanged_named n place list t.next (inner_of n place e s.own.shape s.here))

level_then : (t : Table) (p : ℕ) (n : Node) (place : ℕ) (e : Edge) (child : ℕ) (copy h : Node) → IsForCopy t p n place e child copy → IsRedirected n place e t.next h → level_of h ≡ t.level p
level_then t p n place e child copy h s into = compacted_level (exchanged n place (way_to e e.lift t.next ∷ [])) h into ∙ level_exchanged n place (way_to e e.lift t.next ∷ []) ∙ s.own.level_is

pub copy_change : (t : Table) (p : ℕ) (n : Node) (place : ℕ) (e : Edge) (child : ℕ) (copy h : Node) → IsForCopy t p n place e child copy → IsRedirected n place e t.next h → IsOneChange t p h (copy ∷ [])
copy_change t p n place e child copy h s into =
    let list : List Edge = way_to e e.lift t.next ∷ [] in
    let level : level_of h ≡ t.level p = level_then t p n place e child copy h s into in
    let own : level_of n ≡ t.level p = s.own.level_is in
    let low : level_of copy < level_of n = s.copy_low in
    record {
      table = s.table;
      kept = s.kept;
      shape = compacted_shape (exchanged n place list) h (exchanged_shape n place e list s.own.shape (fits_next t p n place e child copy s)) into;
      level = level;
      named = λ x one. elim (named_then t p n place e child copy h s into x one) [
        | inl lower ↦ inl lower
        | inr new ↦ inr (omega arith, omega arith)
      ];
      made_are = (record { shape = s.copy_own.shape; low = omega arith; under = omega arith; named = λ x one. named_has (IsLower t (level_of copy)) x (names copy) s.copy_own.lower one }, tt);
      used = λ x high below. (let same : t.next ≡ x = omega arith in subst (λ (i : ℕ). 1 ≤ times h i) same (used_then t p n place e child copy h s into));
    }

-- ---- of sound nodes

meaning_then : (nodes : Nodes) (t : Table) (p : ℕ) (n : Node) (place : ℕ) (e : Edge) (child : ℕ) (copy h : Node) → IsForCopy t p n place e child copy → IsRedirected n place e t.next h → IsCopyFor nodes e (end_at n place) copy
    → (k : List ℕ) → IsKey k → node_at (has_made nodes t.next (copy ∷ [])) h k ≡ node_at (at nodes) n k
meaning_then nodes t p n place e child copy h s into copied k key =
    let has = has_made nodes t.next (copy ∷ []) in
    let f : Edge = way_to e e.lift t.next in
    let fits : FitsAt n place e (f ∷ []) = fits_next t p n place e child copy s in
    compacted_meaning has (exchanged n place (f ∷ [])) h (exchanged_shape n place e (f ∷ []) s.own.shape fits) into k
    ∙ pushed (at nodes) has n place e f 0 [] s.own.shape fits (let z : e.seen ≡ e.seen + 0 = omega arith in z) (moved_none f (end_at n place))
    (λ l key_l range.
    let x : List ℕ = drop e.lift l in
    first_made nodes t.next copy x
    ∙ node_has-key (at nodes) copy x (IsKey-drop e.lift l key_l)
    ∙ copied child s.child_is l key_l range
    ∙ sym (ap (λ (o : Option ℕ). child_at (at nodes) o (e.source ++ x)) s.child_is))
    (each_named (Agree has (at nodes)) (names (exchanged n place [])) (λ x one.
    let named : 1 ≤ times n x = omega (arith, times_without n place e x s.own.shape s.here) in
    made_old nodes t.next (copy ∷ []) x (s.table.below x (named_has (IsLower t (t.level p)) x (names n) s.own.lower named).kept)))
    k key

pub copy_change_of : (nodes : Nodes) (t : Table) (p : ℕ) (n : Node) (place : ℕ) (e : Edge) (child : ℕ) (copy h : Node) → IsForCopy t p n place e child copy → IsRedirected n place e t.next h → IsSound nodes t → IsPrivate nodes t p → nodes p ≡ Some n → IsCopyFor nodes e (end_at n place) copy
    → IsOneChangeOf nodes t p n h (copy ∷ [])
copy_change_of nodes t p n place e child copy h s into sound private there copied = record {
  step = copy_change t p n place e child copy h s into;
  sound = sound;
  there = there;
  private = private;
  meaning = meaning_then nodes t p n place e child copy h s into copied;
}

-- ---- the commit

pub record IsToPut (t : Table) (parent : Fetched) (place : ℕ) (copy : Node) (step : Step) : Type 0 where
  pub table : IsTable t
  pub next : t.next < 2 ^ 64
  pub can : CanPutCopy t parent place copy
  pub put : IsCopyStep t.root t.next parent place copy step

pub is_to_put : (t : Table) (parent : Fetched) (place : ℕ) (copy : Node) (step : Step) (root next : ℕ) → IsTable t → CanPutCopy t parent place copy → root ≡ t.root → next ≡ t.next → next < 2 ^ 64 → IsCopyStep root next parent place copy step → IsToPut t parent place copy step
is_to_put t parent place copy step root next table can same_root same_next room put = record {
  table = table;
  next = omega arith;
  can = can;
  put = subst (λ (i : ℕ). IsCopyStep t.root i parent place copy step) same_next (subst (λ (r : ℕ). IsCopyStep r next parent place copy step) same_root put);
}

for_copy : (t : Table) (parent : Fetched) (place : ℕ) (copy : Node) (step : Step) → (h : IsToPut t parent place copy step) → IsForCopy t parent.id parent.node.value place h.put.edge h.can.child copy
for_copy t parent place copy step h =
    subst (λ (e : Edge). IsForCopy t parent.id parent.node.value place e h.can.child copy) (same_Some h.can.edge h.put.edge (sym h.can.here ∙ h.put.here))
    (record { table = h.table; kept = h.can.parent_is.kept; own = h.can.parent_is.own; here = h.can.here; child_is = h.can.child_is; copy_own = h.can.own; copy_low = h.can.lower; next = h.next })

change : (t : Table) (parent : Fetched) (place : ℕ) (copy : Node) (step : Step) → (h : IsToPut t parent place copy step) → IsOneChange t parent.id h.put.node (copy ∷ [])
change t parent place copy step h = copy_change t parent.id parent.node.value place h.put.edge h.can.child copy h.put.node (for_copy t parent place copy step h) h.put.into

change_of : (nodes : Nodes) (t : Table) (parent : Fetched) (place : ℕ) (copy : Node) (step : Step) → (h : IsToPut t parent place copy step) → IsSound nodes t → IsOwn nodes t parent → IsCopyAt nodes parent.node.value place copy → IsOneChangeOf nodes t parent.id parent.node.value h.put.node (copy ∷ [])
change_of nodes t parent place copy step h sound own copied =
    copy_change_of nodes t parent.id parent.node.value place h.put.edge h.can.child copy h.put.node (for_copy t parent place copy step h) h.put.into sound own.private own.there (copied h.put.edge h.put.here)

pub may_put : (t : Table) (parent : Fetched) (place : ℕ) (copy : Node) (step : Step) → IsToPut t parent place copy step → IsStep t step
may_put t parent place copy step h = subst (λ (q : Step). IsStep t q) (sym h.put.is) (one_step t parent.id h.put.node (copy ∷ []) (change t parent place copy step h))

pub put_in_place : (nodes : Nodes) (t : Table) (parent : Fetched) (place : ℕ) (copy : Node) (step : Step) → IsToPut t parent place copy step → IsSound nodes t → IsOwn nodes t parent → IsCopyAt nodes parent.node.value place copy → IsInPlace nodes t step
put_in_place nodes t parent place copy step h sound own copied =
    subst (λ (q : Step). IsInPlace nodes t q) (sym h.put.is) (one_in_place nodes t parent.id parent.node.value h.put.node (copy ∷ []) (change_of nodes t parent place copy step h sound own copied))

done : (nodes : Nodes) (t : Table) (parent : Fetched) (place : ℕ) (copy : Node) (step : Step) (new : Nodes) (u : Table) → (h : IsToPut t parent place copy step) → IsSound nodes t → IsOwn nodes t parent → IsCopyAt nodes parent.node.value place copy → IsTableAfter t step u → IsCommitted nodes t step new u
    → IsOneChanged nodes t parent.id parent.node.value h.put.node (copy ∷ []) new u
done nodes t parent place copy step new u h sound own copied after committed = record {
  of = change_of nodes t parent place copy step h sound own copied;
  after = subst (λ (q : Step). IsTableAfter t q u) h.put.is after;
  committed = subst (λ (q : Step). IsCommitted nodes t q new u) h.put.is committed;
}

pub on_put_flushed : {T E : Type 0} (nodes : Nodes) (t : Table) (parent : Fetched) (place : ℕ) (copy : Node) (step : Step) (new : Nodes) (u : Table) (r : Result T E) → IsToPut t parent place copy step → IsSound nodes t → IsOwn nodes t parent → IsCopyAt nodes parent.node.value place copy
    → OnOk r (IsTableAfter t step u) → OnOk r (IsCommitted nodes t step new u) → OnOk r (IsFlushed nodes t new u)
on_put_flushed nodes t parent place copy step new u (Ok x) h s own copied after committed = one_flushed nodes t parent.id parent.node.value h.put.node (copy ∷ []) new u (done nodes t parent place copy step new u h s own copied after committed) (omega arith)
on_put_flushed nodes t parent place copy step new u (Err e) h s own copied after committed = tt

pub on_put_table : {T E : Type 0} (t : Table) (parent : Fetched) (place : ℕ) (copy : Node) (step : Step) (u : Table) (r : Result T E) → IsToPut t parent place copy step → OnOk r (IsTableAfter t step u) → OnOk r (IsNoHigher t u)
on_put_table t parent place copy step u (Ok x) h after =
    one_no_higher t parent.id h.put.node (copy ∷ []) u (change t parent place copy step h) (subst (λ (q : Step). IsTableAfter t q u) h.put.is after)
    (λ root. let list : List Edge = way_to h.put.edge h.put.edge.lift t.next ∷ [] in
    let is : buffer_size parent.node.value ≡ t.size = h.can.parent_is.root root in
    omega (arith, compacted_size (exchanged parent.node.value place list) h.put.node h.put.into, size_exchanged parent.node.value place list))
on_put_table t parent place copy step u (Err e) h after = tt

pub on_put_visits : {T E : Type 0} (t : Table) (parent : Fetched) (place : ℕ) (copy : Node) (step : Step) (before now : ℕ) (r : Result T E) → IsToPut t parent place copy step → OnOk r (now ≡ visited before (length step.made)) → OnOk r (now ≡ visited before 1)
on_put_visits t parent place copy step before now (Ok x) h is = is ∙ ap (λ (q : Step). visited before (length q.made)) h.put.is
on_put_visits t parent place copy step before now (Err e) h is = tt

-- ---- the parts

pub redirected_fits : (n : Node) (place child : ℕ) (es list : List Edge) (e f : Edge) → IsShape n → es ≡ edges_of n → place < length (edges_of n) → e ≡ get_or es place e → 1 ≤ child → child < 2 ^ 64 → list ≡ f ∷ [] → f ≡ way_to e e.lift child → (d : Edge) → IsEdgeAt n place d → FitsAt n place d list
redirected_fits n place child es list e f h same low read some small list_is f_is d there =
    let here : IsEdgeAt n place e = edge_here es n place e same low read in
    subst (λ (x : Edge). FitsAt n place x list) (same_Some e d (sym here ∙ there))
    (subst (λ (l : List Edge). FitsAt n place e l) (sym (list_is ∙ ap (λ (x : Edge). x ∷ []) f_is)) (way_fits_so n place e child h here some small))

pub on_redirected : {E : Type 0} (n : Node) (place child : ℕ) (es list : List Edge) (e f : Edge) (r : Result Node E) → es ≡ edges_of n → place < length (edges_of n) → e ≡ get_or es place e → list ≡ f ∷ [] → f ≡ way_to e e.lift child
    → IfOk r (λ m. IsCompacted (exchanged n place list) m) → IfOk r (λ m. (d : Edge) → IsEdgeAt n place d → IsRedirected n place d child m)
on_redirected n place child es list e f (Ok m) same low read list_is f_is h = λ d there.
    let here : IsEdgeAt n place e = edge_here es n place e same low read in
    subst (λ (x : Edge). IsRedirected n place x child m) (same_Some e d (sym here ∙ there))
    (subst (λ (l : List Edge). IsCompacted (exchanged n place l) m) (list_is ∙ ap (λ (x : Edge). x ∷ []) f_is) h)
on_redirected n place child es list e f (Err x) same low read list_is f_is h = tt

pub on_copy_step : {E : Type 0} (root next : ℕ) (parent : Fetched) (place : ℕ) (copy shown above : Node) (r : Result Step E) → shown ≡ parent.node.value → place < length (edges_of parent.node.value) → ((e : Edge) → IsEdgeAt shown place e → IsRedirected shown place e next above)
    → IfOk r (λ step. step ≡ path_step root parent.id above [] (copy ∷ [])) → IfOk r (λ step. IsCopyStep root next parent place copy step)
on_copy_step root next parent place copy shown above (Ok step) same low into is =
    let found = some_edge parent.node.value place low in
    record {
      edge = found.0;
      here = found.1;
      node = above;
      into = subst (λ (n : Node). IsRedirected n place found.0 next above) same (into found.0 (subst (λ (n : Node). IsEdgeAt n place found.0) (sym same) found.1));
      is = is;
    }
on_copy_step root next parent place copy shown above (Err x) same low into is = tt
