-- What is kept in other memory is the same.
use Rattle.std.proofs.Common.{◌≡◌, ℕ, sym, subst, ◌∙◌}
use Rattle.bd_node.specs.Meaning.{Nodes}
use Rattle.bd_node.specs.Tables.{Table, IsSound}
use Rattle.bd_memnodes.specs.declared.kept.Kept.{Kept}
use Rattle.bd_memnodes.specs.Maps.{nodes_in, count_in}
use Rattle.bd_memnodes.specs.Stored.{table_of, table_in, IsWhole}
use Rattle.bd_memnodes.specs.Carried.{SameKept}

pub same_nodes : (old new : Kept) → SameKept old new → nodes_in new.nodes ≡ nodes_in old.nodes
same_nodes old new h = λ i id. h.nodes id i

-- tables of equal parts
pub equal_tables : (m n : Nodes) (f g : ℕ → ℕ) (r s k l a b : ℕ) → m ≡ n → f ≡ g → r ≡ s → k ≡ l → a ≡ b → table_of m f r k a ≡ table_of n g s l b
equal_tables m n f g r s k l a b nodes counts root size next = λ i. table_of (nodes i) (counts i) (root i) (size i) (next i)

pub same_table : (old new : Kept) → SameKept old new → table_in new ≡ table_in old
same_table old new h =
    equal_tables (nodes_in new.nodes) (nodes_in old.nodes) (count_in new.counts) (count_in old.counts) new.root old.root new.size old.size new.next old.next
    (same_nodes old new h) (λ i c. h.counts c i) h.head.root h.head.size h.head.next

-- what holds of nodes and their table
pub of_same : (P : Nodes → Table → Type 0) (old new : Kept) → SameKept old new → P (nodes_in old.nodes) (table_in old) → P (nodes_in new.nodes) (table_in new)
of_same P old new h p =
    subst (λ (t : Table). P (nodes_in new.nodes) t) (sym (same_table old new h)) (subst (λ (n : Nodes). P n (table_in old)) (sym (same_nodes old new h)) p)

pub to_old : (P : Nodes → Table → Type 0) (old new : Kept) → SameKept old new → P (nodes_in new.nodes) (table_in new) → P (nodes_in old.nodes) (table_in old)
to_old P old new h p =
    subst (λ (t : Table). P (nodes_in old.nodes) t) (same_table old new h) (subst (λ (n : Nodes). P n (table_in new)) (same_nodes old new h) p)

pub same_whole : (old new : Kept) → SameKept old new → IsWhole old → IsWhole new
same_whole old new h whole = record { sound = of_same IsSound old new h whole.sound; idle = h.dead ∙ whole.idle }
