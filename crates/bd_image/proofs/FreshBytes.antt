-- The image that a format writes, put together of its blocks.
use Rattle.std.proofs.Common.{◌≡◌, ℕ, zero, suc, ◌+◌, ◌-◌, ◌*◌, ◌/◌, ◌≤◌, ◌<◌, List, [], ◌∷◌, ◌++◌, length, take, drop, get_or, replicate, refl, sym, ap, subst, ◌∙◌, arith, append_assoc, append-nil, length-append}
use Rattle.std.specs.Prelude.{slice_index, slice_index_or}
use Rattle.std.specs.List.{concat, flat_map}
use Rattle.std.proofs.Math.Seq.{take-append_seam, drop-append_seam}
use Rattle.std.proofs.lemmas.List.{take-append-drop, length-drop, length-replicate, get_or-drop, take_more}
use Rattle.std.proofs.lemmas.List.Folds.{concat-append}
use Rattle.bd_slots.specs.Layout.{image_blocks, slot_block}
use Rattle.bd_device.specs.Blocks.{Image}
use Rattle.bd_device.specs.Changes.{bytes_at}
use Rattle.bd_device.specs.Commits.{block_at}
use Rattle.bd_format.specs.Images.{node_bytes, image_of}
use Rattle.bd_node.specs.declared.node.Node.{Node}
use Rattle.bd_table.specs.Tables.{table_bytes, table_head, table_magic, table_entry}
use Rattle.bd_table.specs.Image.{table_block, first_bytes, bytes_in}
use Rattle.bd_table.specs.declared.table.Table.{Table as StoredTable}
use Rattle.bd_table.proofs.BlockLemmas.{first_bytes_more}
use Rattle.bd_table.proofs.TableLemmas.{length-fields, length-entries}
use Rattle.bd_wire.specs.Text.{zeros}
use Rattle.bd_image.specs.Fresh.{blocks_of, put_together}

-- ---- bytes in blocks

length-blocks_of : (n : ℕ) (bytes : List ℕ) → length (blocks_of n bytes) ≡ n
length-blocks_of zero bytes = refl
length-blocks_of (suc n) bytes = ap suc (length-blocks_of n (drop 4096 bytes))

concat-blocks_of : (n : ℕ) (bytes : List ℕ) → length bytes ≡ 4096 * n → concat (blocks_of n bytes) ≡ bytes
concat-blocks_of zero [] size = refl
concat-blocks_of zero (b ∷ bytes) size = absurd (omega (arith, size))
concat-blocks_of (suc n) bytes size =
    ap (λ (l : List ℕ). take 4096 bytes ++ l) (concat-blocks_of n (drop 4096 bytes) (length-drop 4096 bytes ∙ omega (arith, size))) ∙ take-append-drop 4096 bytes

-- blocks that stand after others
row_after : (front blocks rest : Image) (b n : ℕ) → length front ≡ b → length blocks ≡ n → take n (drop b (front ++ blocks ++ rest)) ≡ blocks
row_after front blocks rest b n at size =
    ap (λ (l : Image). take n (drop b l)) (append_assoc front blocks rest)
    ∙ ap (λ (k : ℕ). take n (drop k (front ++ (blocks ++ rest)))) (sym at)
    ∙ ap (take n) (drop-append_seam front (blocks ++ rest))
    ∙ ap (λ (k : ℕ). take k (blocks ++ rest)) (sym size)
    ∙ take-append_seam blocks rest

bytes_after : (front rest : Image) (bytes : List ℕ) (b n : ℕ) → length front ≡ b → length bytes ≡ 4096 * n → bytes_at (front ++ blocks_of n bytes ++ rest) b n ≡ bytes
bytes_after front rest bytes b n at size = ap concat (row_after front (blocks_of n bytes) rest b n at (length-blocks_of n bytes)) ∙ concat-blocks_of n bytes size

-- one block more
bytes_next : (image : Image) (b k : ℕ) → b + k < length image → bytes_at image b (k + 1) ≡ bytes_at image b k ++ slice_index_or image (b + k) []
bytes_next image b k lt =
    let within : k < length (drop b image) = omega (arith, lt, length-drop b image) in
    ap concat (take_more (drop b image) k [] within) ∙ concat-append (take k (drop b image)) (get_or (drop b image) k [] ∷ [])
    ∙ ap (λ (l : List ℕ). bytes_at image b k ++ l) (append-nil (get_or (drop b image) k []) ∙ get_or-drop b image k [])

-- ---- a table of one slot

one_block : (slot k : ℕ) → k < 16 → table_block (slot ∷ []) k ≡ slot_block slot + k
one_block slot k lt =
    let first : k / 16 ≡ 0 = omega (arith, lt) in
    let there : slice_index (slot ∷ []) (k / 16) ≡ slot = ap (slice_index (slot ∷ [])) first in
    omega (arith, there, lt)

first_in : (image : Image) (slot k : ℕ) → k ≤ 16 → slot_block slot + 16 ≤ length image → first_bytes image (slot ∷ []) k ≡ bytes_at image (slot_block slot) k
first_in image slot zero le room = refl
first_in image slot (suc k) le room =
    let one : suc k ≡ k + 1 = omega arith in
    let at : ℕ = slot_block slot in
    let next : first_bytes image (slot ∷ []) (k + 1) ≡ bytes_at image at (k + 1) =
    first_bytes_more image (slot ∷ []) k
    ∙ ap (λ (l : List ℕ). l ++ slice_index_or image (table_block (slot ∷ []) k) []) (first_in image slot k (omega (arith, le)) room)
    ∙ ap (λ (b : ℕ). bytes_at image at k ++ slice_index_or image b []) (one_block slot k (omega (arith, le)))
    ∙ sym (bytes_next image at k (omega (arith, le, room))) in
    subst (λ (n : ℕ). first_bytes image (slot ∷ []) n ≡ bytes_at image at n) (sym one) next

-- its bytes are those of the slot
pub one_slot : (image : Image) (slot : ℕ) → slot_block slot + 16 ≤ length image → bytes_in image (slot ∷ []) ≡ bytes_at image (slot_block slot) 16
one_slot image slot room = first_in image slot 16 (omega arith) room

pub length-one_table : (t : StoredTable) → length t.entries ≡ 1 → length (table_bytes 1 t) ≡ 65536
length-one_table t one =
    let head : List ℕ = table_head (length t.entries) t.next_id t.root in
    let all : List ℕ = flat_map table_entry t.entries in
    let rest : ℕ = 65536 * 1 - (32 + 24 * length t.entries) in
    omega (
      arith,
      one,
      length-append (head ++ all) (zeros rest),
      length-append head all,
      length-entries t.entries,
      length-fields table_magic (length t.entries) t.next_id t.root,
      length-replicate {A = ℕ} rest 0,
    )

pub length-image : (n : Node) → length (node_bytes n) ≤ 65536 → length (image_of n) ≡ 65536
length-image n le = omega (arith, le, length-append (node_bytes n) (zeros (65536 - length (node_bytes n))), length-replicate {A = ℕ} (65536 - length (node_bytes n)) 0)

-- ---- the blocks

module _ (slots : ℕ) (commit body first second rest : List ℕ) (many : 24 ≤ slots) (fits : length first ≡ 65536) (holds : length second ≡ 65536) where
  front : Image
  front = commit ∷ body ∷ replicate 130 rest

  abbrev image : Image
  image = put_together slots commit body first second rest

  spare : Image
  spare = replicate (16 * (slots - 2)) rest

  front_long : length front ≡ 132
  unfolding front
  front_long = omega (arith, length-replicate {A = List ℕ} 130 rest)

  two_long : length (front ++ blocks_of 16 first) ≡ 148
  two_long = omega (arith, length-append front (blocks_of 16 first), front_long, length-blocks_of 16 first)

  spare_long : length spare ≡ 16 * (slots - 2)
  unfolding spare
  spare_long = length-replicate (16 * (slots - 2)) rest

  parts : image ≡ front ++ blocks_of 16 first ++ blocks_of 16 second ++ spare
  unfolding front spare put_together
  parts = refl

  pub length-parts : length image ≡ image_blocks slots
  length-parts =
      omega (
        arith,
        many,
        ap length parts,
        length-append (front ++ blocks_of 16 first ++ blocks_of 16 second) spare,
        length-append (front ++ blocks_of 16 first) (blocks_of 16 second),
        two_long,
        length-blocks_of 16 second,
        spare_long,
      )

  pub first_there : bytes_at image (slot_block 0) 16 ≡ first
  first_there =
      ap (λ (i : Image). bytes_at i 132 16) (parts ∙ append_assoc (front ++ blocks_of 16 first) (blocks_of 16 second) spare)
      ∙ bytes_after front (blocks_of 16 second ++ spare) first 132 16 front_long (omega (arith, fits))

  pub second_there : bytes_at image (slot_block 1) 16 ≡ second
  second_there = ap (λ (i : Image). bytes_at i 148 16) parts ∙ bytes_after (front ++ blocks_of 16 first) spare second 148 16 two_long (omega (arith, holds))

  pub commit_there : block_at image 0 ≡ commit
  unfolding put_together
  commit_there = refl

  pub body_there : block_at image 1 ≡ body
  unfolding put_together
  body_there = refl

  pub other_there : block_at image 2 ≡ rest
  unfolding put_together
  other_there = refl

  pub log_there : block_at image 4 ≡ rest
  unfolding put_together
  log_there = refl
