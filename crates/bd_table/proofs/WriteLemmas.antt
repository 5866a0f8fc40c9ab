-- What writes of a table's blocks leave.
use Rattle.std.proofs.Common.{◌≡◌, ◌≢◌, ℕ, zero, suc, ◌+◌, ◌*◌, ◌/◌, ◌<◌, ◌≤◌, List, [], ◌++◌, Option, None, Some, IfSome, length, take, drop, inl, inr, refl, sym, ap, subst, ◌∙◌, arith, length-append}
use Rattle.std.specs.Prelude.{slice_index, slice_index_or, slice_set}
use Rattle.std.proofs.lemmas.Bool.{cases_eq}
use Rattle.std.specs.List.{flat_map}
use Rattle.std.proofs.lemmas.List.{get_or-set_other, get_or-set_same, length-set, length-replicate, take_all}
use Rattle.std.proofs.lemmas.Option.{IfSome_then}
use Rattle.std.proofs.Math.Seq.{take-add}
use Rattle.bd_slots.specs.Layout.{AreSlots, image_blocks}
use Rattle.bd_device.specs.Blocks.{Image, HasBlocks, with_block}
use Rattle.bd_wire.specs.Text.{zeros}
use Rattle.bd_table.specs.Tables.{IsTableAt, table_entry, table_head, table_magic, table_bytes}
use Rattle.bd_table.specs.Words.{part}
use Rattle.bd_table.specs.declared.table.Table.{Table}
use Rattle.bd_table.specs.Image.{HoldsTable, block_total, first_bytes, bytes_in, table_block}
use Rattle.bd_table.proofs.BlockLemmas.{first_bytes_more, inside}
use Rattle.bd_table.proofs.TableLemmas.{zero_count, length-entries, length-fields}

-- two parts of a table stand in two blocks
blocks_differ : (slots : ℕ) (at : List ℕ) (j k : ℕ) → AreSlots slots at → j < k → k < block_total at → table_block at j ≢ table_block at k
blocks_differ slots at j k are before lt same =
    let slot_j = slice_index at (j / 16) in
    let slot_k = slice_index at (k / 16) in
    elim (cases_eq (j / 16) (k / 16)) [
      | inl one ↦ omega (arith, same, one, before, ap (slice_index at) one)
      | inr two ↦
          let differ : slot_j ≢ slot_k = are.different (j / 16) (k / 16) 0 (omega (arith, two, before)) (omega (arith, lt)) in
          differ (let e : slot_j ≡ slot_k = omega (arith, same) in e)
    ]

-- one part more is there
pub written_more : (known new : Option Image) (slots count : ℕ) (at : List ℕ) (k : ℕ) (parts : ℕ → List ℕ) → AreSlots slots at → k < block_total at → count ≡ image_blocks slots
    → IfSome new (HasBlocks count) → new ≡ with_block (table_block at k) (parts k) known
    → IfSome known (λ image. (j : ℕ) → j < k → slice_index_or image (table_block at j) [] ≡ parts j)
    → IfSome new (λ image. (j : ℕ) → j < k + 1 → slice_index_or image (table_block at j) [] ≡ parts j)
written_more None new slots count at k parts are lt size shape e was =
    subst (λ (o : Option Image). IfSome o (λ image. (j : ℕ) → j < k + 1 → slice_index_or image (table_block at j) [] ≡ parts j)) (sym e) tt
written_more (Some image) new slots count at k parts are lt size shape e was =
    let c = slice_set image (table_block at k) (parts k) in
    let blocks : HasBlocks count c = subst (λ (o : Option Image). IfSome o (HasBlocks count)) e shape in
    let room : table_block at k < length image = omega (arith, inside slots at k are lt, blocks.count_is, size, length-set image (table_block at k) (parts k)) in
    subst (λ (o : Option Image). IfSome o (λ i. (j : ℕ) → j < k + 1 → slice_index_or i (table_block at j) [] ≡ parts j)) (sym e)
    (λ j before. elim (cases_eq j k) [
      | inl same ↦
          subst (λ n. slice_index_or c (table_block at n) [] ≡ parts n) (sym same) (get_or-set_same image (table_block at k) (parts k) [] room)
      | inr other ↦
          let first : j < k = omega (arith, other, before) in
          get_or-set_other image (table_block at k) (table_block at j) (parts k) [] (blocks_differ slots at j k are first lt) ∙ was j first
    ])

-- the parts are the whole
all_parts : (image : Image) (at : List ℕ) (bytes : List ℕ) (n : ℕ) → ((j : ℕ) → j < n → slice_index_or image (table_block at j) [] ≡ take 4096 (drop (4096 * j) bytes))
    → first_bytes image at n ≡ take (4096 * n) bytes
all_parts image at bytes zero parts = refl
all_parts image at bytes (suc n) parts =
    let one : suc n ≡ n + 1 = omega arith in
    let more : 4096 * n + 4096 ≡ 4096 * suc n = omega arith in
    ap (first_bytes image at) one ∙ first_bytes_more image at n
    ∙ ap (λ l. l ++ slice_index_or image (table_block at n) []) (all_parts image at bytes n (λ j lt. parts j (omega (arith, lt))))
    ∙ ap (λ l. take (4096 * n) bytes ++ l) (parts n (omega arith)) ∙ sym (take-add (4096 * n) 4096 bytes) ∙ ap (λ m. take m bytes) more

all_written : (known : Option Image) (at : List ℕ) (bytes : List ℕ) → length bytes ≡ 65536 * length at
    → IfSome known (λ image. (j : ℕ) → j < block_total at → slice_index_or image (table_block at j) [] ≡ take 4096 (drop (4096 * j) bytes))
    → IfSome known (λ image. bytes_in image at ≡ bytes)
all_written None at bytes whole parts = tt
all_written (Some image) at bytes whole parts = all_parts image at bytes (block_total at) parts ∙ take_all (4096 * block_total at) bytes (omega (arith, whole))

-- a table's encoding has as many bytes as its slots
length-whole : (slots : ℕ) (at : List ℕ) (t : Table) → IsTableAt slots at t → length (table_bytes (length at) t) ≡ 65536 * length at
length-whole slots at t is =
    let taken = length at in
    let head = table_head (length t.entries) t.next_id t.root in
    let all = flat_map table_entry t.entries in
    let fits : 32 + 24 * length t.entries ≤ 65536 * taken = omega (arith, is.place) in
    omega (
      arith,
      fits,
      length-append (head ++ all) (zeros (zero_count taken t)),
      length-append head all,
      length-entries t.entries,
      length-fields table_magic (length t.entries) t.next_id t.root,
      length-replicate {A = ℕ} (zero_count taken t) 0,
    )

-- with all parts there the image has the table
pub table_written : (known : Option Image) (slots : ℕ) (at : List ℕ) (t : Table) → IsTableAt slots at t
    → IfSome known (λ image. (j : ℕ) → j < block_total at → slice_index_or image (table_block at j) [] ≡ part (length at) t j)
    → IfSome known (λ image. HoldsTable image slots at t)
table_written known slots at t is parts =
    IfSome_then known (all_written known at (table_bytes (length at) t) (length-whole slots at t is) parts) (λ image whole. (is, whole))
