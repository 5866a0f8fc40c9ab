-- What a format writes, and that it can.
use Rattle.std.proofs.Common.{◌≡◌, ◌≢◌, ℕ, ◌+◌, ◌≤◌, inl, inr, Bool, true, false, List, ◌++◌, length, Some, refl, sym, ap, subst, ◌∙◌, arith}
use Rattle.std.specs.Prelude.{if◌then◌else◌, nat_le}
use Rattle.std.proofs.lemmas.Bool.{cases_eq}
use Rattle.std.proofs.lemmas.List.{length-replicate}
use Rattle.bd_model.specs.Tree.{root_only}
use Rattle.bd_model.proofs.TreeStays.{root_only_is_tree}
use Rattle.bd_represent.specs.Represents.{Represents}
use Rattle.bd_slots.specs.Layout.{IsSlotCount, table_length}
use Rattle.bd_files.specs.Roots.{root_messages}
use Rattle.bd_message.specs.declared.message.Message.{Message}
use Rattle.bd_node.specs.declared.node.Node.{Node}
use Rattle.bd_node.specs.Meaning.{Nodes, at}
use Rattle.bd_node.specs.New.{new_root, new_nodes, new_table}
use Rattle.bd_node.specs.Tables.{Table, IsKept, IsTable, IsSound, root_at, sum_below, kept_count}
use Rattle.bd_node.specs.Steps.{IsCommitted, HasGrown, append_step}
use Rattle.bd_node.specs.Stores.{FitsRoot}
use Rattle.bd_node.proofs.LawLemmas.{new_sound}
use Rattle.bd_table.specs.Tables.{slots_of}
use Rattle.bd_table.specs.declared.table.TableEntry.{TableEntry}
use Rattle.bd_pager.specs.Counting.{is_new_or_touched, changed_of, free_of}
use Rattle.bd_pager.specs.Pagers.{Paged, spots_of, table_of}
use Rattle.bd_image.specs.Fresh.{fresh_nodes}
use Rattle.bd_image.proofs.Fresh.{other_node, root_fits, represents}
use Rattle.bd_checkpoint.specs.Formatting.{IsNew}
use Rattle.bd_checkpoint.specs.Kept.{AreOfTree}

-- ---- the nodes

-- the root alone is kept
root_alone : (u : Table) → IsTable u → u.root ≡ 1 → u.next ≡ 2 → (id : ℕ) → id ≢ 1 → u.count id ≡ 0
root_alone u table root next id other = elim (cases_eq (u.count id) 0) [
  | inl zero ↦ zero
  | inr more ↦ absurd (other (omega (arith, table.low id (omega (arith, more)), table.below id (omega (arith, more)), next)))
]

pub nodes_are_fresh : (new : Nodes) (u : Table) → IsCommitted new_nodes new_table (append_step new_table new_root root_messages) new u → HasGrown new_table root_messages u → new ≡ fresh_nodes
nodes_are_fresh new u committed grown_is =
    let root : u.root ≡ 1 = ap (λ (v : Table). v.root) grown_is.is in
    let next : u.next ≡ 2 = ap (λ (v : Table). v.next) grown_is.is in
    let kept : IsKept u 1 = subst (IsKept u) root committed.sound.table.root in
    λ i id. one id root next kept i
  where
    one : (id : ℕ) → u.root ≡ 1 → u.next ≡ 2 → IsKept u 1 → new id ≡ fresh_nodes id
    one id root next kept = elim (cases_eq id 1) [
      | inl same ↦ subst (λ (i : ℕ). new i ≡ fresh_nodes i) (sym same) (committed.stays 1 kept)
      | inr other ↦ committed.sound.others id (root_alone u committed.sound.table root next id other) ∙ sym (other_node id other)
    ]

-- the commit of the record of `/` in a new store
pub committed_fresh : (nodes : Nodes) (t : Table) (list : List Message) (new : Nodes) (u : Table) → nodes ≡ new_nodes → t ≡ new_table → list ≡ root_messages
    → (IsSound nodes t → (root : Node) → nodes t.root ≡ Some root → IsCommitted nodes t (append_step t root list) new u) → IsCommitted new_nodes new_table (append_step new_table new_root root_messages) new u
committed_fresh nodes t list new u same_nodes same_table is committed =
    subst (λ (l : List Message). IsSound new_nodes new_table → (root : Node) → new_nodes new_table.root ≡ Some root → IsCommitted new_nodes new_table (append_step new_table root l) new u) is
    (subst (λ (s : Table). IsSound new_nodes s → (root : Node) → new_nodes s.root ≡ Some root → IsCommitted new_nodes s (append_step s root list) new u) same_table
    (subst (λ (m : Nodes). IsSound m t → (root : Node) → m t.root ≡ Some root → IsCommitted m t (append_step t root list) new u) same_nodes committed))
    new_sound new_root refl

pub fits_fresh : (t : Table) (list : List Message) → t ≡ new_table → list ≡ root_messages → FitsRoot t list
fits_fresh t list same is = subst (λ (u : Table). FitsRoot u list) (sym same) (subst (λ (l : List Message). FitsRoot new_table l) (sym is) root_fits)

pub fresh_of_tree : (new : Nodes) (u : Table) → new ≡ fresh_nodes → u.root ≡ 1 → IsSound new u → AreOfTree new u root_only
fresh_of_tree new u same root sound = record {
  sound = sound;
  is_tree = root_only_is_tree;
  represents = subst (λ (m : Nodes). Represents (root_at m u) root_only) (sym same) (subst (λ (r : ℕ). Represents (λ k. at fresh_nodes r k) root_only) (sym root) (represents 0));
}

-- ---- there is room

one_or_none : (b : Bool) → (if b then 1 else 0) ≤ 1
one_or_none true = omega arith
one_or_none false = omega arith

two_at_most : (n : ℕ) (test : ℕ → Bool) → n ≡ 2 → sum_below n (λ id. if test id then 1 else 0) ≤ 2
unfolding sum_below
two_at_most n test two = subst (λ (k : ℕ). sum_below k (λ id. if test id then 1 else 0) ≤ 2) (sym two) (omega (arith, one_or_none (test 0), one_or_none (test 1)))

kept_few : (t : Table) → t.next ≡ 2 → kept_count t ≤ 2
unfolding kept_count
kept_few t next = two_at_most t.next (λ id. nat_le 1 (t.count id)) next

short_table : (count : ℕ) → count ≤ 2 → table_length count ≤ 1
short_table count few = omega arith

pub has_room : {D : Type 0} (slots : ℕ) (dev : D) (p : Paged D) → IsSlotCount slots → IsNew slots dev p → p.next ≡ 2 → changed_of p + table_length (kept_count (table_of p)) ≤ free_of p
has_room slots dev p count new next =
    let changed : changed_of p ≤ 2 = two_at_most p.next (λ id. is_new_or_touched p.saved.entries p.spare (spots_of p) id) next in
    let short : table_length (kept_count (table_of p)) ≤ 1 = short_table (kept_count (table_of p)) (kept_few (table_of p) next) in
    let long : length p.spare ≡ slots = ap length new.spare ∙ length-replicate slots true in
    let none : length (p.at ++ slots_of p.saved.entries) ≡ 0 =
    ap (λ (l : List ℕ). length (l ++ slots_of p.saved.entries)) new.at ∙ ap (λ (es : List TableEntry). length (slots_of es)) new.saved in
    let free : slots ≤ free_of p = omega (arith, long, none) in
    omega (arith, changed, short, free, count.0)
