-- Nodes of a pager that are those of the entries of a table.
use Rattle.std.proofs.Common.{◌≡◌, ℕ, ◌≤◌, ◌⊎◌, inl, inr, Bool, false, List, Option, None, Some, sym, ap, subst, ◌∙◌, arith}
use Rattle.std.specs.Prelude.{All, Contains}
use Rattle.bd_model.specs.Tree.{Tree}
use Rattle.bd_device.specs.Blocks.{Image}
use Rattle.bd_format.specs.Images.{IsImage}
use Rattle.bd_node.specs.declared.node.Node.{Node}
use Rattle.bd_node.specs.Nodes.{names}
use Rattle.bd_node.specs.Meaning.{Nodes}
use Rattle.bd_node.specs.Closed.{buffer_size_in}
use Rattle.bd_node.specs.Tables.{Table, IsLower, IsStored, IsSound}
use Rattle.bd_node.proofs.Lookup.{each_weaker}
use Rattle.bd_table.specs.Tables.{IsTableEntry}
use Rattle.bd_table.specs.declared.table.Table.{Table as StoredTable}
use Rattle.bd_table.specs.declared.table.TableEntry.{TableEntry}
use Rattle.bd_pager.specs.declared.place.Spot.{Spot}
use Rattle.bd_tails.specs.Tails.{slot_bytes}
use Rattle.bd_format.specs.Slots.{HasNode}
use Rattle.bd_pager.specs.Places.{Spots, refs_in, level_in, node_at, node_of, nodes_at}
use Rattle.bd_pager.specs.Pagers.{table_at}
use Rattle.bd_table.specs.Entries.{entry_of}
use Rattle.bd_image.specs.Stored.{IsNodeAt, HoldsNodes, refs_in as entry_refs, level_in as entry_level, table_of as stored_table}
use Rattle.bd_checkpoint.specs.Kept.{AreOfTree}

-- a spot is that of an entry, whose slot has its node
pub record IsSpotOf (image : Image) (e : TableEntry) (s : Spot) : Type 0 where
  pub refs : s.refs ≡ e.refs
  pub level : s.level ≡ e.level
  pub node : (n : Node) → node_at image s.place ≡ Some n → IsImage n (slot_bytes image e.slot)

-- an id has an entry and a spot of it, or neither
abbrev pub HasSpot : Image → List TableEntry → Spots → ℕ → Type 0
HasSpot image entries spots id =
    ((entry_of entries id ≡ None) × (spots id ≡ None))
    ⊎ ((e : TableEntry) × Contains entries e × (s : Spot) × (entry_of entries id ≡ Some e) × (spots id ≡ Some s) × IsSpotOf image e s)

-- what steps have touched is no part of what is sound
retouched : (nodes : Nodes) (t : Table) (touched : ℕ → Bool) → IsSound nodes t → IsSound nodes (record t { touched = touched })
retouched nodes t touched sound =
    let u : Table = record t { touched = touched } in
    record {
      table = record { root = sound.table.root; inner = sound.table.inner; low = sound.table.low; below = sound.table.below };
      each = λ id kept.
          let node : IsStored nodes t id = sound.each id kept in
          record {
            node = node.node;
            there = node.there;
            of_table = record {
              shape = node.of_table.shape;
              level_is = node.of_table.level_is;
              lower = each_weaker (IsLower t (t.level id)) (IsLower u (u.level id)) (λ c low. record { kept = low.kept; lower = low.lower }) (names node.node) node.of_table.lower;
            };
          };
      others = sound.others;
      counts = sound.counts;
      size = sound.size;
    }

module _ (image : Image) (t : StoredTable) (spots : Spots) (each : All IsTableEntry t.entries) (has : (id : ℕ) → HasSpot image t.entries spots id) where
  pub counts_are : ◌≡◌ {A = ℕ → ℕ} (λ id. refs_in (spots id)) (λ id. entry_refs (entry_of t.entries id))
  counts_are = λ i id. one id (has id) i
    where
      one : (id : ℕ) → HasSpot image t.entries spots id → refs_in (spots id) ≡ entry_refs (entry_of t.entries id)
      one id (inl (none, gone)) = ap refs_in gone ∙ sym (ap entry_refs none)
      one id (inr (e, among, s, found, there, of)) = ap refs_in there ∙ of.refs ∙ sym (ap entry_refs found)

  pub levels_are : ◌≡◌ {A = ℕ → ℕ} (λ id. level_in (spots id)) (λ id. entry_level (entry_of t.entries id))
  levels_are = λ i id. one id (has id) i
    where
      one : (id : ℕ) → HasSpot image t.entries spots id → level_in (spots id) ≡ entry_level (entry_of t.entries id)
      one id (inl (none, gone)) = ap level_in gone ∙ sym (ap entry_level none)
      one id (inr (e, among, s, found, there, of)) = ap level_in there ∙ of.level ∙ sym (ap entry_level found)

  -- sound nodes are stored
  pub nodes_held : (root size next : ℕ) (touched : ℕ → Bool) → IsSound (nodes_at (Some image) spots) (table_at spots root size next touched) → HoldsNodes image t (nodes_at (Some image) spots)
  nodes_held root size next touched sound = record { each = λ id. one id (has id) }
    where
      one : (id : ℕ) → HasSpot image t.entries spots id → IsNodeAt image (entry_of t.entries id) (node_of image (spots id))
      one id (inl (none, gone)) =
          subst (λ (o : Option TableEntry). IsNodeAt image o (node_of image (spots id))) (sym none) (subst (λ (o : Option Spot). IsNodeAt image None (node_of image o)) (sym gone) tt)
      one id (inr (e, among, s, found, there, of)) =
          let entry : IsTableEntry e = subst IsTableEntry among.2 (each among.0 e among.1) in
          let kept : 1 ≤ refs_in (spots id) = omega (arith, entry.refs, ap refs_in there, of.refs) in
          let node : IsStored (nodes_at (Some image) spots) (table_at spots root size next touched) id = sound.each id kept in
          let place : node_at image s.place ≡ Some node.node = sym (ap (node_of image) there) ∙ node.there in
          let held : HasNode image e.slot e.level node.node = record {
            shape = node.of_table.shape;
            level_is = node.of_table.level_is ∙ ap level_in there ∙ of.level;
            image_is = of.node node.node place;
          } in
          subst (λ (o : Option TableEntry). IsNodeAt image o (node_of image (spots id))) (sym found) (subst (λ (o : Option Node). IsNodeAt image (Some e) o) (sym node.there) held)

  abbrev with_parts : (ℕ → ℕ) → (ℕ → ℕ) → ℕ → ℕ → ℕ → Table
  with_parts counts levels root size next = record { count = counts; level = levels; root = root; size = size; next = next; touched = λ id. false }

  -- the table that nodes have by the entries
  pub table_is : (nodes : Nodes) (root size next : ℕ) → root ≡ t.root → next ≡ t.next_id → size ≡ buffer_size_in (nodes t.root) → table_at spots root size next (λ id. false) ≡ stored_table t nodes
  table_is nodes root size next root_is next_is size_is =
      let counts : ℕ → ℕ = λ id. entry_refs (entry_of t.entries id) in
      let levels : ℕ → ℕ = λ id. entry_level (entry_of t.entries id) in
      ap (λ (c : ℕ → ℕ). with_parts c (λ id. level_in (spots id)) root size next) counts_are
      ∙ ap (λ (l : ℕ → ℕ). with_parts counts l root size next) levels_are
      ∙ ap (λ (r : ℕ). with_parts counts levels r size next) root_is
      ∙ ap (λ (s : ℕ). with_parts counts levels t.root s next) size_is
      ∙ ap (λ (n : ℕ). with_parts counts levels t.root (buffer_size_in (nodes t.root)) n) next_is

  root_size : (nodes : Nodes) (u : Table) → IsSound nodes u → u.size ≡ buffer_size_in (nodes u.root)
  root_size nodes u sound =
      let root : IsStored nodes u u.root = sound.each u.root sound.table.root in
      sym (sound.size root.node root.there) ∙ sym (ap buffer_size_in root.there)

  -- they represent the same tree by it
  pub of_tree : (nodes : Nodes) (root size next : ℕ) (touched : ℕ → Bool) (tree : Tree) → root ≡ t.root → next ≡ t.next_id
      → AreOfTree nodes (table_at spots root size next touched) tree → AreOfTree nodes (stored_table t nodes) tree
  of_tree nodes root size next touched tree root_is next_is of =
      let sound : IsSound nodes (table_at spots root size next (λ id. false)) = retouched nodes (table_at spots root size next touched) (λ id. false) of.sound in
      let size_is : size ≡ buffer_size_in (nodes t.root) = root_size nodes (table_at spots root size next (λ id. false)) sound ∙ ap (λ (r : ℕ). buffer_size_in (nodes r)) root_is in
      let mine : AreOfTree nodes (table_at spots root size next (λ id. false)) tree = record { sound = sound; is_tree = of.is_tree; represents = of.represents } in
      subst (λ (u : Table). AreOfTree nodes u tree) (table_is nodes root size next root_is next_is size_is) mine
