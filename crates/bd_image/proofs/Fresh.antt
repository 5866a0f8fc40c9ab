-- The image that a format writes stands for the tree of `/` alone.
use Rattle.std.proofs.Common.{rules, lit≤, ◌≡◌, ◌≢◌, ℕ, ◌+◌, ◌≤◌, inl, inr, eqb, List, [], ◌∷◌, Option, None, Some, refl, sym, ap, subst, ◌∙◌, arith}
use Rattle.std.specs.FinMap.{get-from_entries}
use Rattle.std.proofs.lemmas.Bool.{cases_eq, cond-false, ne_eqb}
use Rattle.bd_keys.specs.Keys.{IsKey}
use Rattle.bd_model.specs.Tree.{Directory, root_only}
use Rattle.bd_model.specs.Step.{mode_at}
use Rattle.bd_model.proofs.PathOrder.{paths_total}
use Rattle.bd_model.proofs.TreeStays.{root_only_is_tree}
use Rattle.bd_message.specs.Effect.{acts, no_nodes}
use Rattle.bd_represent.specs.Represents.{Represents}
use Rattle.bd_files.specs.Roots.{root_messages}
use Rattle.bd_files.proofs.Root.{root_made}
use Rattle.bd_device.specs.Blocks.{Image}
use Rattle.bd_device.specs.Commits.{IsCommitted}
use Rattle.bd_node.specs.declared.node.Node.{Node}
use Rattle.bd_node.specs.Meaning.{at}
use Rattle.bd_node.specs.New.{new_root, new_nodes, new_table}
use Rattle.bd_node.specs.Stores.{FitsRoot}
use Rattle.bd_node.specs.Closed.{buffer_size_in}
use Rattle.bd_node.specs.Shape.{IsShape}
use Rattle.bd_node.specs.Tables.{Table, IsNodeOf, IsStored, IsSound, sum_below, one_if, references, root_at}
use Rattle.bd_node.proofs.Sound.{sound-levelled, one_if-same, one_if-other}
use Rattle.bd_node.proofs.LawLemmas.{new_sound, keys_meet}
use Rattle.bd_node.proofs.Appending.{node_appended}
use Rattle.bd_table.specs.declared.table.TableEntry.{TableEntry}
use Rattle.bd_super.specs.Superblocks.{log_block}
use Rattle.bd_super.specs.declared.superblock.Super.{Super}
use Rattle.bd_image.specs.Versions.{HasNoModes}
use Rattle.bd_table.specs.Entries.{entry_of}
use Rattle.bd_image.specs.Stored.{refs_in, IsNodeAt, HoldsNodes, table_of}
use Rattle.bd_image.specs.ImageTree.{ImageStandsFor}
use Rattle.bd_image.specs.Fresh.{fresh_root, fresh_nodes, fresh_table, IsFresh}

-- ---- its one node

entry : ℕ → TableEntry
entry slot = record { id = 1; refs = 1; slot = slot; level = 1 }

other_entry : (slot id : ℕ) → id ≢ 1 → entry_of (fresh_table slot).entries id ≡ None
unfolding entry
other_entry slot id other = cond-false (eqb 1 id) (Some (entry slot)) None (ne_eqb 1 id (λ same. other (sym same)))

pub other_node : (id : ℕ) → id ≢ 1 → fresh_nodes id ≡ None
other_node id other = cond-false (eqb id 1) (Some fresh_root) None (ne_eqb id 1 other)

one_kept : (slot id : ℕ) → 1 ≤ refs_in (entry_of (fresh_table slot).entries id) → id ≡ 1
one_kept slot id kept = elim (cases_eq id 1) [
  | inl same ↦ same
  | inr other ↦ absurd (omega (arith, kept, ap refs_in (other_entry slot id other)))
]

-- ---- its root is well-formed

pub root_fits : FitsRoot new_table root_messages
root_fits = record { few = lit≤ tt; each = search rules; plain = search rules; fits = lit≤ tt }

new_root_of : IsNodeOf new_table 1 new_root
new_root_of =
    let stored = new_sound.each 1 new_sound.table.root in
    let same : new_root ≡ stored.node = (let e : Some new_root ≡ Some stored.node = stored.there in cc) in
    subst (IsNodeOf new_table 1) (sym same) stored.of_table

pub root_shape : IsShape fresh_root
root_shape = (node_appended new_table new_root root_messages new_root_of refl root_fits).shape

-- ---- its nodes are sound

abbrev table_at : ℕ → Table
table_at slot = table_of (fresh_table slot) fresh_nodes

root_stored : (slot : ℕ) → IsStored fresh_nodes (table_at slot) 1
root_stored slot = record { node = fresh_root; there = refl; of_table = record { shape = root_shape; level_is = refl; lower = tt } }

no_references : (c : ℕ) → references fresh_nodes 2 1 c ≡ one_if 1 c
unfolding sum_below
no_references c = omega arith

sound : (slot : ℕ) → IsSound fresh_nodes (table_at slot)
sound slot = record {
  table = record {
    root = omega arith;
    inner = omega arith;
    low = λ id kept. omega (arith, one_kept slot id kept);
    below = λ id kept. omega (arith, one_kept slot id kept);
  };
  each = λ id kept. subst (IsStored fresh_nodes (table_at slot)) (sym (one_kept slot id kept)) (root_stored slot);
  others = λ id none. elim (cases_eq id 1) [
    | inl same ↦ (let one : refs_in (entry_of (fresh_table slot).entries 1) ≡ 0 = subst (λ (i : ℕ). refs_in (entry_of (fresh_table slot).entries i) ≡ 0) same none in absurd (omega (arith, one)))
    | inr other ↦ other_node id other
  ];
  counts = λ id. elim (cases_eq id 1) [
    | inl same ↦ subst (λ (i : ℕ). refs_in (entry_of (fresh_table slot).entries i) ≡ references fresh_nodes 2 1 i) (sym same) (sym (one_if-same 1) ∙ sym (no_references 1))
    | inr other ↦ ap refs_in (other_entry slot id other) ∙ sym (one_if-other 1 id (λ same. other (sym same))) ∙ sym (no_references id)
  ];
  size = λ n there. sym (ap buffer_size_in there);
}

-- ---- its tree

pub represents : (slot : ℕ) → Represents (root_at fresh_nodes (table_at slot)) root_only
represents slot =
    let nothing : (k : List ℕ) → IsKey k → at new_nodes 1 k ≡ None = λ k key. keys_meet new_nodes (sound-levelled new_nodes new_table new_sound) 1 new_root refl k key in
    root_made (at new_nodes 1) (at fresh_nodes 1) root_messages nothing refl
    (λ k key. keys_meet fresh_nodes (sound-levelled fresh_nodes (table_at slot) (sound slot)) 1 fresh_root refl k key
    ∙ sym (ap (λ (o : Option (List ℕ)). acts no_nodes root_messages k o) (nothing k key)))

no_modes : HasNoModes root_only
no_modes [] = ap mode_at (get-from_entries paths_total (([], Directory 0) ∷ []) [])
no_modes (n ∷ q) = ap mode_at (get-from_entries paths_total (([], Directory 0) ∷ []) (n ∷ q))

-- ---- the image

nodes_held : (image : Image) (s : Super) (slot : ℕ) → IsFresh image s slot → HoldsNodes image (fresh_table slot) fresh_nodes
nodes_held image s slot fresh = record {
  each = λ id. elim (cases_eq id 1) [
    | inl same ↦ subst (λ (i : ℕ). IsNodeAt image (entry_of (fresh_table slot).entries i) (fresh_nodes i)) (sym same) fresh.root
    | inr other ↦
        subst (λ (o : Option TableEntry). IsNodeAt image o (fresh_nodes id)) (sym (other_entry slot id other))
        (subst (λ (o : Option Node). IsNodeAt image None o) (sym (other_node id other)) tt)
  ];
}

pub fresh_stands : (image : Image) (s : Super) (slot : ℕ) → IsFresh image s slot → ImageStandsFor root_only 0 image
fresh_stands image s slot fresh =
    let first : log_block s.half + 0 ≡ log_block s.half = omega arith in (
      s,
      fresh_table slot,
      0,
      record {
        nodes = fresh_nodes;
        base = root_only;
        batches = [];
        starts = record { live = fresh.live; table = fresh.table; stored = nodes_held image s slot fresh };
        have = record { sound = sound slot; is_tree = root_only_is_tree; of_version = λ low. no_modes; represents = represents slot };
        logged = record { follow = refl; closed = λ on. fresh.log (subst (IsCommitted image) first on) };
        leads = refl;
        count_is = omega (arith, fresh.count);
      },
    )
