-- An edge's way to a new child, as the code finds it.
use Rattle.std.proofs.Common.{◌≡◌, ℕ, ◌+◌, ◌^◌, ◌<◌, ◌≤◌, List, [], ◌∷◌, length, sym, subst, ◌∙◌, Option, arith, Result, Ok, Err}
use Rattle.std.specs.Prelude.{IfOk}
use Rattle.std.specs.List.{All}
use Rattle.std.proofs.lemmas.Option.{same_Some}
use Rattle.bd_keys.specs.Keys.{IsBelowEnd, IsLift}
use Rattle.bd_message.specs.declared.message.Message.{Message}
use Rattle.bd_message.specs.Messages.{IsPlain}
use Rattle.bd_node.specs.declared.node.Edge.{Edge}
use Rattle.bd_node.specs.declared.node.Entry.{Entry}
use Rattle.bd_node.specs.declared.node.Node.{Node}
use Rattle.bd_node.specs.declared.node.Step.{Step}
use Rattle.bd_node.specs.Shape.{IsShape}
use Rattle.bd_inner.specs.declared.batches.Batch.{Batch}
use Rattle.bd_node.specs.Parts.{edges_of, buffer_of, end_at, IsEdgeAt}
use Rattle.bd_inner.specs.Batches.{IsLifted}
use Rattle.bd_node.specs.Compaction.{IsCompacted}
use Rattle.bd_inner.specs.Exchanging.{FitsAt, way_to}
use Rattle.bd_node.specs.Pushes.{exchanged, seen_by}
use Rattle.bd_inner.proofs.Fitting.{own_shape, way_lifted}
use Rattle.bd_leaf.specs.Leaves.{IsReceived}
use Rattle.bd_path.specs.declared.fetching.Fetched.{Fetched}
use Rattle.bd_flush.specs.Pushing.{IsWaitedFor, IsEdgeBatch, IsWay, IsNewLeaf, IsNewStep}
use Rattle.bd_path.specs.Paths.{leaf_step}
use Rattle.bd_flush.proofs.Pushed.{batch_plain}
use Rattle.bd_node.proofs.Parts.{some_edge}
use Rattle.bd_flush.proofs.Batches.{few_messages, all_plain}
use Rattle.bd_flush.proofs.LeafPushes.{way_seen, way_waiting, way_low, way_fit}

pub way_rising : (n : Node) (place : ℕ) (e : Edge) (hi : Option (List ℕ)) → IsShape n → IsEdgeAt n place e → hi ≡ end_at n place → IsBelowEnd e.pivot hi
way_rising n place e hi h here end = subst (λ (o : Option (List ℕ)). IsBelowEnd e.pivot o) (sym end) (own_shape n place e h here).rising

pub on_way : {E : Type 0} (n : Node) (place child : ℕ) (e : Edge) (hi : Option (List ℕ)) (r : Result Edge E) → IsEdgeAt n place e → hi ≡ end_at n place → IfOk r (λ f. f ≡ way_to e f.lift child) → IfOk r (λ f. IsLift e.pivot hi f.lift)
    → IfOk r (λ f. (d : Edge) → IsEdgeAt n place d → IsWay n place child d f)
on_way n place child e hi (Ok f) here end is lift = λ d there.
    subst (λ (x : Edge). IsWay n place child x f) (same_Some e d (sym here ∙ there)) (is, subst (λ (o : Option (List ℕ)). IsLift e.pivot o f.lift) end lift)
on_way n place child e hi (Err x) here end is lift = tt

-- a node, and the way of its edge to a new child
pub record IsWayOf (n : Node) (place child : ℕ) (f : Edge) : Type 0 where
  pub shape : IsShape n
  pub within : place < length (edges_of n)
  pub waiting : (e : Edge) → IsEdgeAt n place e → IsWaitedFor n place e
  pub way : (e : Edge) → IsEdgeAt n place e → IsWay n place child e f

pub of_lifted : (n : Node) (place child : ℕ) (f : Edge) → IsWayOf n place child f → IsLifted f (end_at n place)
of_lifted n place child f h =
    let found = some_edge n place h.within in
    let way = h.way found.0 found.1 in
    subst (λ (g : Edge). IsLifted g (end_at n place)) (sym way.0) (way_lifted n place found.0 f.lift child h.shape found.1 way.1)

pub of_waiting : (n : Node) (place child : ℕ) (f : Edge) → IsWayOf n place child f → IsWaitedFor n place f
of_waiting n place child f h =
    let found = some_edge n place h.within in
    way_waiting n place child found.0 f (h.way found.0 found.1) (h.waiting found.0 found.1)

pub of_plain : (n : Node) (place child : ℕ) (f : Edge) (b : Batch) (list : List Message) → IsWayOf n place child f → IsEdgeBatch n place f b → list ≡ b.messages → All IsPlain list
of_plain n place child f b list h is same = all_plain list b.messages same (batch_plain n place f b (of_waiting n place child f h) is)

pub of_small : (n : Node) (place child : ℕ) (f : Edge) (b : Batch) → IsWayOf n place child f → IsEdgeBatch n place f b → f.seen + b.count < 2 ^ 32
of_small n place child f b h is =
    let found = some_edge n place h.within in
    let low : found.0.seen + b.count ≤ length (buffer_of n) = way_low n place child found.0 f b h.shape found.1 (h.way found.0 found.1) is in
    let same : f.seen ≡ found.0.seen = way_seen n place child found.0 f (h.way found.0 found.1) in
    let few : length (buffer_of n) ≤ 2048 = few_messages n h.shape in
    omega arith

pub of_fits : (n : Node) (place child : ℕ) (f g : Edge) (b : Batch) → IsWayOf n place child f → IsEdgeBatch n place f b → 1 ≤ child → child < 2 ^ 64 → g ≡ seen_by f b.count → (e : Edge) → IsEdgeAt n place e → FitsAt n place e (g ∷ [])
of_fits n place child f g b h is some small same e here =
    subst (λ (x : Edge). FitsAt n place e (x ∷ [])) (sym same)
    (way_fit n place child e f b.count h.shape here (h.way e here) some small (way_low n place child e f b h.shape here (h.way e here) is))

pub is_new_leaf : (n : Node) (place next : ℕ) (f g : Edge) (b : Batch) (list : List Message) (entries : List Entry) (above : Node) → IsWayOf n place next f → IsEdgeBatch n place f b → list ≡ b.messages → IsReceived [] list entries → g ≡ seen_by f b.count → IsCompacted (exchanged n place (g ∷ [])) above
    → (e : Edge) → IsEdgeAt n place e → IsNewLeaf n place e next above entries
is_new_leaf n place next f g b list entries above h is same got seen relieved e here = record {
  edge = f;
  way = h.way e here;
  batch = b;
  moved = is;
  got = subst (λ (l : List Message). IsReceived [] l entries) same got;
  relieved = subst (λ (x : Edge). IsCompacted (exchanged n place (x ∷ [])) above) seen relieved;
}

pub on_new_step : {E : Type 0} (root next : ℕ) (parent : Fetched) (place : ℕ) (n above : Node) (entries : List Entry) (r : Result Step E) → n ≡ parent.node.value → place < length (edges_of parent.node.value) → ((e : Edge) → IsEdgeAt n place e → IsNewLeaf n place e next above entries)
    → IfOk r (λ step. step ≡ leaf_step root parent.id above entries) → IfOk r (λ step. IsNewStep root next parent place step)
on_new_step root next parent place n above entries (Ok step) same low into is =
    let found = some_edge parent.node.value place low in
    record {
      edge = found.0;
      here = found.1;
      node = above;
      entries = entries;
      into = subst (λ (m : Node). (e : Edge) → IsEdgeAt m place e → IsNewLeaf m place e next above entries) same into found.0 found.1;
      is = is;
    }
on_new_step root next parent place n above entries (Err x) same low into is = tt
