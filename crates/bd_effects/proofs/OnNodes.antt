-- What messages and grafts make of nodes, over any store.
use Rattle.std.proofs.Common.{◌≡◌, ℕ, ◌+◌, ◌*◌, ◌≤◌, List, Bool}
use Rattle.std.specs.Prelude.{Result, Ok, Err, OnOk, Some}
use Rattle.bd_message.specs.declared.message.Message.{Message}
use Rattle.bd_node.specs.declared.node.Node.{Node}
use Rattle.bd_node.specs.Meaning.{Nodes}
use Rattle.bd_node.specs.Tables.{Table, IsSound, IsStored}
use Rattle.bd_node.specs.Steps.{IsCommitted, append_step}
use Rattle.bd_graft.specs.declared.grafting.Walk.{Walk}
use Rattle.bd_graft.specs.Grafting.{IsGrown, IsGraftStep, IsWalkOf, AreOthersSame}
use Rattle.bd_view.specs.Trees.{IsAppended, IsGraftMade, IsWalked}

-- messages were put after those of the root, which is there
pub is_appended : {T E : Type 0} (r : Result T E) (nodes : Nodes) (t : Table) (list : List Message) (new : Nodes) (u : Table) → IsSound nodes t
    → ((root : Node) → nodes t.root ≡ Some root → OnOk r (IsCommitted nodes t (append_step t root list) new u)) → OnOk r (IsAppended nodes t list new u)
is_appended (Err e) nodes t list new u sound committed = tt
is_appended (Ok x) nodes t list new u sound committed =
    let root : IsStored nodes t t.root = sound.each t.root sound.table.root in
    record { root = root.node; there = root.there; node_is = committed root.node root.there }

pub is_graft_made : {T E : Type 0} (r : Result T E) (nodes : Nodes) (t : Table) (s d : List ℕ) (keep : Bool) (new : Nodes) (u : Table) (walk : Walk) → OnOk r (IsGraftStep nodes t s d keep new u)
    → OnOk r (AreOthersSame nodes t new u) → OnOk r (IsWalkOf nodes t s u walk.visits) → OnOk r (IsGraftMade nodes t s d keep new u walk)
is_graft_made (Err e) nodes t s d keep new u walk step others visits = tt
is_graft_made (Ok x) nodes t s d keep new u walk step others visits = record { step = step; others = others; visits_are = visits }

pub is_walked : {T E : Type 0} (r : Result T E) (t u : Table) (walk : Walk) → OnOk r (IsGrown t u) → OnOk r (walk.height ≡ t.level t.root + 1) → OnOk r (walk.visits ≤ 5 * walk.height + 2)
    → OnOk r (IsWalked t u walk)
is_walked (Err e) t u walk table height few = tt
is_walked (Ok x) t u walk table height few = record { table_is = table; height_is = height; few_visits = few }
