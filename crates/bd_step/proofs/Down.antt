-- The way down.
use Rattle.std.proofs.Common.{◌≡◌, ℕ, ◌<◌, ◌≤◌, List, [], ◌∷◌, ◌++◌, length, reverse, sym, ap, subst, ◌∙◌, Option, None, Some, arith, inr, Result, Ok, Err}
use Rattle.std.specs.Prelude.{IfOk}
use Rattle.std.proofs.lemmas.List.{reverse-append}
use Rattle.bd_limits.specs.Limits.{soft_limit}
use Rattle.bd_node.specs.declared.node.Edge.{Edge}
use Rattle.bd_node.specs.declared.node.Node.{Node}
use Rattle.bd_node.specs.declared.node.Node.TheVariants.{Leaf, Inner}
use Rattle.bd_node.specs.Nodes.{level_of, buffer_size, names}
use Rattle.bd_node.specs.Meaning.{Nodes}
use Rattle.bd_node.specs.Shape.{IsShape}
use Rattle.bd_node.specs.Private.{IsPrivate}
use Rattle.bd_node.specs.Private.IsPrivate.{alone}
use Rattle.bd_node.specs.Tables.{Table, IsKept, IsLower, IsSound}
use Rattle.bd_node.proofs.Lookup.{named_has}
use Rattle.bd_node.proofs.Privacy.{root_private}
use Rattle.bd_node.specs.Parts.{edges_of, IsEdgeAt}
use Rattle.bd_path.specs.declared.fetching.Fetched.{Fetched}
use Rattle.bd_path.specs.Fetching.{IsFetched, IsWayTo, IsOwn, AreOwn}
use Rattle.bd_flush.specs.GoingDown.{child_level}
use Rattle.bd_flush.specs.Pushing.{AllGoDown}
use Rattle.bd_flush.specs.Carving.{IsOldestAt}
use Rattle.bd_step.specs.Ways.{IsFullestAt, IsOnWay, IsTarget, IsReadyToPush, HasHeldGoto, IsUpToRoot, AtEdge, IsSameEdge, IsFromEdge, IsStepAt, IsStanding, IsToDoAt, IsReached, HasWay, IsNext}
use Rattle.bd_step.specs.Ways.IsOnWay.{below}
use Rattle.bd_step.specs.declared.ways.FlushStep.{FlushStep}
use Rattle.bd_step.specs.declared.ways.FlushStep.TheVariants.{SplitRoot, At}
use Rattle.bd_path.specs.Raising.{IsWayUp}
use Rattle.bd_path.specs.Raising.IsWayUp.{top, one_up}
use Rattle.bd_path.proofs.EdgesAt.{as_edge, child_named}

-- ---- what is to be done

target_here : (t : Table) (n : Node) (place : ℕ) (e : Edge) (child : Option Fetched) → IsTarget t n place e child → IsEdgeAt n place e
target_here t n place e None h = h.0
target_here t n place e (Some child) h = h.0.here

pub to_carve : (t : Table) (parent : Fetched) (place index : ℕ) (child : Option Fetched) → ((d : Edge) → IsEdgeAt parent.node.value place d → IsOldestAt t.level parent.node.value place d index) → IsFetched t parent → length (edges_of parent.node.value) ≤ 14 → (e : Edge)
    → IsTarget t parent.node.value place e child → HasHeldGoto t parent place index
to_carve t parent place index child held fetched room e target =
    let here : IsEdgeAt parent.node.value place e = target_here t parent.node.value place e child target in
    record {
      parent_is = fetched;
      room = room;
      edge = e;
      here = here;
      child = child;
      target = target;
      oldest = held e here;
    }

pub to_push : (t : Table) (parent : Fetched) (place : ℕ) (child : Option Fetched) → ((d : Edge) → IsEdgeAt parent.node.value place d → AllGoDown t.level (child_level t.level d.child) parent.node.value place d) → IsFetched t parent → length (edges_of parent.node.value) ≤ 14 → (e : Edge)
    → IsTarget t parent.node.value place e child → IsReadyToPush t parent place child
to_push t parent place child down fetched room e target = record {
  parent_is = fetched;
  room = room;
  edge = e;
  target = target;
  down = down e (target_here t parent.node.value place e child target);
}

-- ---- the next node

pub way_lower : (t : Table) (parent : Fetched) (place child : ℕ) (e : Edge) → IsFetched t parent → IsWayTo parent.node.value place child e → IsLower t (t.level parent.id) child
way_lower t parent place child e h way =
    named_has (IsLower t (t.level parent.id)) child (names parent.node.value) h.own.lower (child_named parent.node.value place child e h.own.shape way)

pub waits_inner : (n : Node) → IsShape n → soft_limit < buffer_size n → 1 ≤ level_of n
waits_inner (Leaf entries) shape h = absurd (omega arith)
waits_inner (Inner level es buffer) shape h = shape.low

pub within_inner : (n : Node) (place : ℕ) → IsShape n → place < length (edges_of n) → 1 ≤ level_of n
within_inner (Leaf entries) place shape low = absurd (omega arith)
within_inner (Inner level es buffer) place shape low = shape.low

pub is_next : (t : Table) (parent : Fetched) (place : ℕ) (child : Fetched) (e : Edge) → IsFetched t parent → IsWayTo parent.node.value place child.id e → t.count child.id ≡ 1 → IsFetched t child → soft_limit < buffer_size child.node.value → length (edges_of child.node.value) < 15 → IsNext t parent place child
is_next t parent place child e fetched way once child_is waits few = record {
  edge = e;
  way = way;
  once = once;
  child_is = child_is;
  lower = (way_lower t parent place child.id e fetched way).lower;
  inner = waits_inner child.node.value child_is.own.shape waits;
  room = omega arith;
  full = waits;
}

-- a private child of a private node
pub child_own : (nodes : Nodes) (t : Table) (parent : Fetched) (place : ℕ) (child : Fetched) (e : Edge) → IsOwn nodes t parent → IsShape parent.node.value → IsWayTo parent.node.value place child.id e → t.count child.id ≡ 1 → nodes child.id ≡ Some child.node.value → IsOwn nodes t child
child_own nodes t parent place child e own shape way once contents = record {
  private = alone parent.id child.id parent.node.value own.private own.there (child_named parent.node.value place child.id e shape way) once;
  there = contents;
}

-- the next node isn't as high as the one above it
pub next_under : (t : Table) (parent : Fetched) (place : ℕ) (child : Fetched) → IsUpToRoot t parent → IsNext t parent place child → IsUpToRoot t child
next_under t parent place child under next =
    let above : t.level parent.id ≤ t.level t.root = under in
    let lower : t.level child.id < t.level parent.id = next.lower in
    omega arith

-- ---- the edges on the way

-- what holds of the edge of a step holds of it in another form
edge_weaker : (P Q : Fetched → ℕ → Type 0) → ((f : Fetched) (place : ℕ) → P f place → Q f place) → (step : FlushStep) → AtEdge P step → AtEdge Q step
edge_weaker P Q weaker (SplitRoot root) h = absurd h
edge_weaker P Q weaker (At site work) h = weaker site.parent site.place h

-- what holds of an edge holds of it as a step has it
edge_same : (P : Fetched → ℕ → Type 0) (f : Fetched) (place : ℕ) → P f place → (p : Fetched) (at : ℕ) → IsSameEdge f place p at → P p at
edge_same P f place h p at same = subst (λ (i : ℕ). P p i) (sym same.1) (subst (λ (x : Fetched). P x place) (sym same.0) h)

pub step_at : (P : Fetched → ℕ → Type 0) (f : Fetched) (place : ℕ) (step : FlushStep) → P f place → IsStepAt f place step → AtEdge P step
step_at P f place step h here = edge_weaker (IsSameEdge f place) P (edge_same P f place h) step here

-- the edge for which most bytes wait, of the next node
pub next_from : (t : Table) (first : Fetched) (from : ℕ) (parent : Fetched) (place : ℕ) (child : Fetched) (n : Node) (next : ℕ) → IsNext t parent place child → n ≡ child.node.value → IsFullestAt n next → IsFromEdge first from child next
next_from t first from parent place child n next h same fullest = inr (record { room = h.room; fullest = subst (λ (m : Node). IsFullestAt m next) same fullest; full = h.full })

pub next_way : (nodes : Nodes) (t : Table) (first from : ℕ) (parent : Fetched) (place : ℕ) (child : Fetched) (n : Node) (next : ℕ) → IsNext t parent place child → n ≡ child.node.value → IsFullestAt n next → length (edges_of parent.node.value) ≤ 14 → IsOwn nodes t parent → IsOwn nodes t child
    → IsOnWay nodes t first from parent.id place → IsOnWay nodes t first from child.id next
next_way nodes t first from parent place child n next h same fullest room own child_own way =
    below parent.id place child.id next parent.node.value child.node.value h.edge way own.there room h.way h.once child_own.there h.full (subst (λ (m : Node). IsFullestAt m next) same fullest)

-- ---- from the root

root_has_way : (nodes : Nodes) (t : Table) (root : Fetched) (n : Node) (place : ℕ) (step : FlushStep) → root.id ≡ t.root → n ≡ root.node.value → IsFullestAt n place → IsOwn nodes t root → IsReached nodes t root.id place step → HasWay nodes t step
root_has_way nodes t root n place (SplitRoot r) same is fullest own reached = tt
root_has_way nodes t root n place (At site work) same is fullest own reached = record {
  node = root.node.value;
  there = ap nodes (sym same) ∙ own.there;
  place = place;
  fullest = subst (λ (m : Node). IsFullestAt m place) is fullest;
  way = subst (λ (i : ℕ). IsReached nodes t i place (At site work)) same reached;
}

pub root_on_ok : {E : Type 0} (nodes : Nodes) (t : Table) (root : Fetched) (n : Node) (place : ℕ) (r : Result FlushStep E) → root.id ≡ t.root → n ≡ root.node.value → IsFullestAt n place → IsOwn nodes t root → IfOk r (IsStanding nodes t) → IfOk r (IsReached nodes t root.id place) → IfOk r (IsToDoAt nodes t)
root_on_ok nodes t root n place (Ok step) same is fullest own stands reached = (stands, root_has_way nodes t root n place step same is fullest own reached)
root_on_ok nodes t root n place (Err e) same is fullest own stands reached = tt

pub root_own : (nodes : Nodes) (t : Table) (root : Fetched) → IsSound nodes t → root.id ≡ t.root → nodes t.root ≡ Some root.node.value → IsOwn nodes t root
root_own nodes t root s same contents = record {
  private = subst (λ (i : ℕ). IsPrivate nodes t i) (sym same) (root_private nodes t s);
  there = ap nodes same ∙ contents;
}

-- the child that an edge asks is kept
pub way_kept : (t : Table) (parent : Fetched) (n : Node) (place child : ℕ) → n ≡ parent.node.value → IsFetched t parent → (e : Edge) × IsWayTo n place child e → IsKept t child
way_kept t parent n place child same fetched asked =
    (way_lower t parent place child asked.0 fetched (subst (λ (m : Node). IsWayTo m place child asked.0) same asked.1)).kept

-- ---- the way upwards

pub way_more : (t : Table) (above pushed : List Fetched) (parent : Fetched) (place c : ℕ) (e : Edge) → pushed ≡ above ++ (parent ∷ []) → IsFetched t parent → IsWayTo parent.node.value place c e → t.count c ≡ 1 → IsWayUp t parent.id (reverse above) → IsWayUp t c (reverse pushed)
way_more t above pushed parent place c e more fetched way once up =
    subst (λ (l : List Fetched). IsWayUp t c l) (sym (ap (λ (l : List Fetched). reverse l) more ∙ reverse-append above (parent ∷ [])))
    (one_up c place parent e (reverse above) fetched (as_edge parent.node.value place c e way) once up)

pub root_way : (t : Table) (id : ℕ) (above : List Fetched) → id ≡ t.root → above ≡ [] → IsWayUp t id (reverse above)
root_way t id above same none =
    subst (λ (l : List Fetched). IsWayUp t id (reverse l)) (sym none) (subst (λ (i : ℕ). IsWayUp t i []) (sym same) top)

pub none_own : (nodes : Nodes) (t : Table) (above : List Fetched) → above ≡ [] → AreOwn nodes t (reverse above)
none_own nodes t above none = subst (λ (l : List Fetched). AreOwn nodes t (reverse l)) (sym none) tt

-- the child that was asked, as it was fetched
pub way_fetched : (n m : Node) (place c id : ℕ) → m ≡ n → id ≡ c → (asked : (e : Edge) × IsWayTo m place c e) → IsWayTo n place id asked.0
way_fetched n m place c id same is asked = subst (λ (i : ℕ). IsWayTo n place i asked.0) (sym is) (subst (λ (d : Node). IsWayTo d place c asked.0) same asked.1)
