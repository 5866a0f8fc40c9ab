-- A fresh image is there.
use Rattle.std.proofs.Common.{lit≤, lit<, ◌≡◌, ◌≢◌, ℕ, ◌≤◌, ◌<◌, List, [], ◌∷◌, length, replicate, refl, sym, ap, ◌∙◌, arith}
use Rattle.std.specs.Prelude.{AllPairs, slice_index}
use Rattle.std.proofs.lemmas.List.{get_or-replicate}
use Rattle.std.proofs.lemmas.List.Elements.{All-nil, All-cons}
use Rattle.std.proofs.lemmas.List.Kept.{AllPairs-cons}
use Rattle.bd_slots.specs.Layout.{IsSlotCount, AreSlots}
use Rattle.bd_device.specs.Blocks.{Image}
use Rattle.bd_device.specs.Commits.{IsCommit, IsCommitted}
use Rattle.bd_format.specs.Images.{node_bytes, image_of}
use Rattle.bd_node.specs.declared.node.Node.{Node}
use Rattle.bd_node.specs.Nodes.{level_of}
use Rattle.bd_node.specs.Shape.{IsShape}
use Rattle.bd_table.specs.Image.{HoldsTable}
use Rattle.bd_table.specs.Tables.{IsTableEntry, AreTableEntries, IsTableAt, table_bytes}
use Rattle.bd_table.specs.declared.table.Table.{Table as StoredTable}
use Rattle.bd_table.specs.declared.table.TableEntry.{TableEntry}
use Rattle.bd_super.specs.Superblocks.{IsSuper, super_body}
use Rattle.bd_super.specs.Live.{IsLive}
use Rattle.bd_super.specs.declared.superblock.Super.{Super}
use Rattle.bd_format.specs.Slots.{HasNode}
use Rattle.bd_image.specs.Fresh.{fresh_root, fresh_table, IsFresh, first_super, put_together, fresh_image}
use Rattle.bd_image.proofs.Fresh.{root_shape}
use Rattle.bd_image.proofs.FreshBytes.{one_slot, length-one_table, length-image, length-parts, first_there, second_there, commit_there, body_there, other_there, log_there}

none_paired : {X : Type 0} (R : X → X → Type 0) → AllPairs R []
none_paired R = λ i j d up lt. absurd (omega (arith, lt))

one_paired : {X : Type 0} (R : X → X → Type 0) (x : X) → AllPairs R (x ∷ [])
one_paired R x = AllPairs-cons R x [] (All-nil (R x)) (none_paired R)

-- ---- its superblock

abbrev place : List ℕ
place = 1 ∷ []

place_slots : (slots : ℕ) → IsSlotCount slots → AreSlots slots place
place_slots slots count = record {
  below = All-cons (λ (s : ℕ). s < slots) 1 [] (omega (arith, count.0)) (All-nil (λ (s : ℕ). s < slots));
  different = one_paired (λ (s o : ℕ). s ≢ o) 1;
}

super_fits : (slots : ℕ) → IsSlotCount slots → IsSuper (first_super slots place)
super_fits slots count = record {
  slots = count;
  epoch = omega arith;
  last_epoch = lit< tt;
  count = lit< tt;
  table = record { least = omega arith; most = lit≤ tt; differ = place_slots slots count };
}

-- ---- its table

entry_fits : IsTableEntry (record { id = 1; refs = 1; slot = 0; level = 1 })
entry_fits = record { id = omega arith; last_id = lit< tt; refs = omega arith; last_refs = lit< tt; slot = lit< tt; level = lit≤ tt }

entries_fit : AreTableEntries 2 1 (fresh_table 0).entries
entries_fit =
    let e : TableEntry = record { id = 1; refs = 1; slot = 0; level = 1 } in
    record {
      least = omega arith;
      most = lit≤ tt;
      each = All-cons IsTableEntry e [] entry_fits (All-nil IsTableEntry);
      rising = one_paired (λ (x y : TableEntry). x.id < y.id) e;
      below_next = All-cons (λ (x : TableEntry). x.id < 2) e [] (omega arith) (All-nil (λ (x : TableEntry). x.id < 2));
      has_root = (0, e, omega arith, refl, (refl, omega arith));
    }

table_fits : (slots : ℕ) → IsSlotCount slots → IsTableAt slots place (fresh_table 0)
table_fits slots count = record {
  entries = entries_fit;
  last_id = lit< tt;
  place = refl;
  differ = record {
    below = All-cons (λ (s : ℕ). s < slots) 1 (0 ∷ []) (omega (arith, count.0)) (All-cons (λ (s : ℕ). s < slots) 0 [] (omega (arith, count.0)) (All-nil (λ (s : ℕ). s < slots)));
    different = AllPairs-cons (λ (s o : ℕ). s ≢ o) 1 (0 ∷ []) (All-cons (λ (o : ℕ). 1 ≢ o) 0 [] (λ same. omega (arith, same)) (All-nil (λ (o : ℕ). 1 ≢ o))) (one_paired (λ (s o : ℕ). s ≢ o) 0);
  };
}

-- ---- the image

-- it starts from the superblock, has the table and the node, and no batch
record ArePut (image : Image) (s : Super) (n : Node) (t : StoredTable) : Type 0 where
  live : IsLive image s
  table : HoldsTable image s.slots s.table t
  root : HasNode image 0 1 n
  log : ¬ IsCommitted image 4

are_put : (slots : ℕ) (commit body rest : List ℕ) (n : Node) (t : StoredTable) → IsSlotCount slots → IsCommit commit → ¬ IsCommit rest → body ≡ super_body (first_super slots place) → IsShape n
    → level_of n ≡ 1 → length (node_bytes n) ≤ 65536 → IsTableAt slots place t → length t.entries ≡ 1
    → ArePut (put_together slots commit body (image_of n) (table_bytes 1 t) rest) (first_super slots place) n t
are_put slots commit body rest n t count on off is shape level small of one =
    let first : List ℕ = image_of n in
    let second : List ℕ = table_bytes 1 t in
    let image : Image = put_together slots commit body first second rest in
    let fits : length first ≡ 65536 = length-image n small in
    let holds : length second ≡ 65536 = length-one_table t one in
    let size = length-parts slots commit body first second rest count.0 fits holds in
    record {
      live = record {
        held = record {
          committed = ap (λ (l : List ℕ). slice_index l 0) (commit_there slots commit body first second rest count.0 fits holds) ∙ on;
          fits = super_fits slots count;
          body = body_there slots commit body first second rest count.0 fits holds ∙ is;
          size = size;
        };
        newest = λ other. absurd (off (sym (ap (λ (l : List ℕ). slice_index l 0) (other_there slots commit body first second rest count.0 fits holds)) ∙ other));
      };
      table = (of, one_slot image 1 (omega (arith, size, count.0)) ∙ second_there slots commit body first second rest count.0 fits holds);
      root = record { shape = shape; level_is = level; image_is = first_there slots commit body first second rest count.0 fits holds };
      log = λ set. off (sym (ap (λ (l : List ℕ). slice_index l 0) (log_there slots commit body first second rest count.0 fits holds)) ∙ set);
    }

pub fresh_there : ((n : Node) → IsShape n → length (node_bytes n) ≤ 65536) → (slots : ℕ) → IsSlotCount slots → IsFresh (fresh_image slots) (first_super slots place) 0
unfolding fresh_image
fresh_there small slots count =
    let zero_first : slice_index (replicate 4096 0) 0 ≡ 0 = get_or-replicate 4096 0 0 0 (omega arith) in
    let put = are_put slots (1 ∷ replicate 4095 0) (super_body (first_super slots place)) (replicate 4096 0) fresh_root (fresh_table 0) count refl (λ on. omega (arith, on, zero_first)) refl root_shape refl
    (small fresh_root root_shape) (table_fits slots count) refl in
    record { live = put.live; count = refl; table = put.table; root = put.root; log = put.log }
