-- Private nodes, and what changes of them leave.
use Rattle.std.proofs.Common.{◌≡◌, ℕ, zero, suc, ◌+◌, ◌<◌, ◌≤◌, subst, Some, arith, inl, inr}
use Rattle.bd_node.specs.declared.node.Node.{Node}
use Rattle.bd_node.specs.Nodes.{times}
use Rattle.bd_node.specs.Meaning.{Nodes}
use Rattle.bd_node.specs.Tables.{Table, IsKept, IsLower, IsStored, IsSound, one_if}
use Rattle.bd_node.specs.Private.{IsPrivate, IsReached}
use Rattle.bd_node.specs.Private.IsPrivate.{root_alone, alone}
use Rattle.bd_node.specs.Private.IsReached.{at_root, named}
use Rattle.bd_node.proofs.Sound.{root_count, root_unnamed, counted_twice, root_or_named, named_lower, kept_there, level_bound}

-- a node outside a private path names no node of it
pub names_no_private : (nodes : Nodes) (t : Table) → IsSound nodes t → (id c : ℕ) (n : Node) → IsPrivate nodes t c → (IsPrivate nodes t id → ⊥) → nodes id ≡ Some n → 1 ≤ times n c → ⊥
names_no_private nodes t s id c n (root_alone one) other there names_it = root_unnamed nodes t s id n there names_it
names_no_private nodes t s id c n (alone p _ m private at_p name one) other there names_it =
    let apart : p ≡ id → ⊥ = λ e. other (subst (λ q. IsPrivate nodes t q) e private) in
    let two : times m c + times n c + one_if t.root c ≤ t.count c = counted_twice nodes t s p id m n at_p there apart c in
    omega arith

-- the root of sound nodes is private
pub root_private : (nodes : Nodes) (t : Table) → IsSound nodes t → IsPrivate nodes t t.root
root_private nodes t s = root_alone (root_count nodes t s)

-- each kept node is reached from the root
reached_from : (nodes : Nodes) (t : Table) → IsSound nodes t → (d id : ℕ) → IsKept t id → 1000 < t.level id + d → IsReached nodes t.root id
reached_from nodes t s zero id kept high =
    let stored : IsStored nodes t id = s.each id kept in
    let bound : t.level id ≤ 1000 = level_bound nodes t s id stored.node stored.there in
    absurd (omega arith)
reached_from nodes t s (suc d) id kept high =
    elim (root_or_named nodes t s id kept) [
      | inl same ↦ subst (λ q. IsReached nodes t.root q) same at_root
      | inr by ↦ (let lower : IsLower t (t.level by.id) id = named_lower nodes t s by.id by.node by.there id by.names_it in
          let l : t.level id < t.level by.id = lower.lower in
          named by.id id by.node (reached_from nodes t s d by.id (kept_there nodes t s by.id by.node by.there) (omega arith)) by.there by.names_it)
    ]

pub reached : (nodes : Nodes) (t : Table) → IsSound nodes t → (id : ℕ) → IsKept t id → IsReached nodes t.root id
reached nodes t s id kept = reached_from nodes t s 1001 id kept (omega arith)
