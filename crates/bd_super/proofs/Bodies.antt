-- Bodies of superblocks: how long they are, and that one body is of one superblock.
use Rattle.std.proofs.Common.{◌≡◌, ◌≢◌, ℕ, ◌-◌, ◌*◌, ◌^◌, ◌<◌, List, [], ◌++◌, length, All, refl, sym, ap, subst, ◌∙◌, arith, append_assoc, length-append}
use Rattle.std.specs.Int.{w32}
use Rattle.std.specs.List.{flat_map}
use Rattle.std.proofs.lemmas.List.{length-replicate}
use Rattle.bd_slots.specs.Layout.{IsSlotCount, IsTablePlace}
use Rattle.bd_slots.proofs.Filled.{filled_array}
use Rattle.bd_slots.proofs.Items.{items_alone, length-items}
use Rattle.bd_wire.specs.Numbers.{be, FitsWidth}
use Rattle.bd_wire.specs.Text.{zeros, AreZeros}
use Rattle.bd_wire.specs.Writing.{written, room, Puts}
use Rattle.bd_wire.specs.declared.writer.Out.{Out}
use Rattle.bd_wire.proofs.NumberLemmas.{length-be, IsPrefixFree-be}
use Rattle.bd_super.specs.Superblocks.{IsSuper, version_number, super_magic, super_head, super_body}
use Rattle.bd_super.specs.declared.superblock.Half.{Half}
use Rattle.bd_super.specs.declared.superblock.Version.{Version}
use Rattle.bd_super.specs.declared.superblock.Version.TheVariants.{One, Two}
use Rattle.bd_super.specs.declared.superblock.Super.{Super}
use Rattle.bd_super.proofs.Heads.{fields_alone, length-fields}

-- the table's slots in bytes
abbrev table_bytes : List ℕ → List ℕ
table_bytes table = flat_map (be w32) table

length-table : (table : List ℕ) → length (table_bytes table) ≡ 4 * length table
length-table table = length-items (be w32) 4 (length-be w32) table

-- the head, and what follows it
body_in_order : (s : Super)
    → super_body s ≡ super_head s.version s.slots s.epoch s.count (length s.table) ++ (table_bytes s.table ++ zeros (4060 - 4 * length s.table))
body_in_order s = append_assoc (super_head s.version s.slots s.epoch s.count (length s.table)) (table_bytes s.table) (zeros (4060 - 4 * length s.table))

-- each number fits
table_fits : (s : Super) → IsSuper s → All (FitsWidth w32) s.table
table_fits s is k d lt = omega (arith, is.table.differ.below k d lt, is.slots.1)

-- a body is a block long
pub length-body : (s : Super) → IsSuper s → length (super_body s) ≡ 4096
length-body s is =
    let head = super_head s.version s.slots s.epoch s.count (length s.table) in
    let rest = zeros (4060 - 4 * length s.table) in
    omega (
      arith,
      ap length (body_in_order s),
      length-append head (table_bytes s.table ++ rest),
      length-append (table_bytes s.table) rest,
      length-table s.table,
      length-fields super_magic (version_number s.version) s.slots s.epoch s.count (length s.table),
      length-replicate {A = ℕ} (4060 - 4 * length s.table) 0,
      is.table.most,
    )

-- a version's number fits, and is of one version
pub version_fits : (v : Version) → version_number v < 2 ^ 32
version_fits One = omega arith
version_fits Two = omega arith

pub one_number : (a b : Version) → version_number a ≡ version_number b → a ≡ b
one_number One One e = refl
one_number One Two e = absurd (omega (arith, e))
one_number Two One e = absurd (omega (arith, e))
one_number Two Two e = refl

-- what a head is followed by in a body is the table's slots and zeros
pub head_alone : (version : Version) (slots epoch count table : ℕ) (left : List ℕ) (s : Super) → slots < 2 ^ 32 → epoch < 2 ^ 64 → count < 2 ^ 64 → table < 2 ^ 32 → IsSuper s
    → super_head version slots epoch count table ++ left ≡ super_body s
    → (version ≡ s.version) × (slots ≡ s.slots) × (epoch ≡ s.epoch) × (count ≡ s.count) × (table ≡ length s.table) × (left ≡ table_bytes s.table ++ zeros (4060 - 4 * length s.table))
head_alone version slots epoch count table left s hs he hc ht is e =
    let v = version_number version in
    let w = version_number s.version in
    let rest = table_bytes s.table ++ zeros (4060 - 4 * length s.table) in
    let same = fields_alone super_magic super_magic v slots epoch count table w s.slots s.epoch s.count (length s.table) left rest refl
    (version_fits version) hs he hc ht (version_fits s.version) (omega (arith, is.slots.1)) is.last_epoch is.count (omega (arith, is.table.most)) (e ∙ body_in_order s) in
    (one_number version s.version same.1, same.2, same.3, same.4, same.5, same.6)

-- too few bytes for the table's slots are left after no body's head
pub no_table : (table : ℕ) (left : List ℕ) (s : Super) → table ≡ length s.table → left ≡ table_bytes s.table ++ zeros (4060 - 4 * length s.table)
    → length left < 4 * table → ⊥
no_table table left s count e short =
    omega (arith, count, short, ap length e, length-append (table_bytes s.table) (zeros (4060 - 4 * length s.table)), length-table s.table)

-- as many slots as the body's table has are those, and only zeros follow them
pub table_alone : (table : List ℕ) (left : List ℕ) (s : Super) → All (FitsWidth w32) table → IsSuper s → length table ≡ length s.table
    → table_bytes table ++ left ≡ table_bytes s.table ++ zeros (4060 - 4 * length s.table) → (table ≡ s.table) × AreZeros left
table_alone table left s fits is count e =
    let same = items_alone (FitsWidth w32) (be w32) (IsPrefixFree-be w32) table s.table left (zeros (4060 - 4 * length s.table)) count fits (table_fits s is) e in
    (same.0, same.1 ∙ ap zeros (sym (ap length same.1 ∙ length-replicate {A = ℕ} (4060 - 4 * length s.table) 0)))

-- a block with a head, as many slots as it says and zeros is a body
pub body_whole : (s : Super) (block left after : List ℕ) → length block ≡ 4096
    → block ≡ super_head s.version s.slots s.epoch s.count (length s.table) ++ left → left ≡ table_bytes s.table ++ after → AreZeros after → block ≡ super_body s
body_whole s block left after whole front table rest =
    let head = super_head s.version s.slots s.epoch s.count (length s.table) in
    let count : length after ≡ 4060 - 4 * length s.table =
    omega (
      arith,
      whole,
      ap length front,
      ap length table,
      length-append head left,
      length-append (table_bytes s.table) after,
      length-table s.table,
      length-fields super_magic (version_number s.version) s.slots s.epoch s.count (length s.table),
    ) in
    front ∙ ap (λ l. head ++ l) (table ∙ ap (λ z. table_bytes s.table ++ z) (rest ∙ ap zeros count)) ∙ sym (body_in_order s)

-- what a superblock may hold doesn't say in which half it stands
pub same_fields : (a b : Super) → a.slots ≡ b.slots → a.epoch ≡ b.epoch → a.count ≡ b.count → a.table ≡ b.table → IsSuper b → IsSuper a
same_fields a b slots epoch count table is = record {
  slots = subst IsSlotCount (sym slots) is.slots;
  epoch = omega (arith, epoch, is.epoch);
  last_epoch = omega (arith, epoch, is.last_epoch);
  count = omega (arith, count, is.count);
  table = subst (λ n. IsTablePlace n a.table) (sym slots) (subst (λ t. IsTablePlace b.slots t) (sym table) is.table);
}

-- a superblock of these fields
made : Half → Version → ℕ → ℕ → ℕ → List ℕ → Super
made half version slots epoch count table = record { half = half; version = version; slots = slots; epoch = epoch; count = count; table = table }

is_made : (s : Super) → s ≡ made s.half s.version s.slots s.epoch s.count s.table
unfolding made
is_made s = refl

-- one body is of one superblock of a half
pub one_super : (a b : Super) → IsSuper a → IsSuper b → a.half ≡ b.half → super_body a ≡ super_body b → a ≡ b
one_super a b is_a is_b half e =
    let head = head_alone a.version a.slots a.epoch a.count (length a.table) (table_bytes a.table ++ zeros (4060 - 4 * length a.table)) b
    (omega (arith, is_a.slots.1)) is_a.last_epoch is_a.count (omega (arith, is_a.table.most)) is_b (sym (body_in_order a) ∙ e) in
    let table = table_alone a.table (zeros (4060 - 4 * length a.table)) b (table_fits a is_a) is_b head.4 head.5 in
    let s0 : a.version ≡ b.version = head.0 in
    let s1 : a.slots ≡ b.slots = head.1 in
    let s2 : a.epoch ≡ b.epoch = head.2 in
    let s3 : a.count ≡ b.count = head.3 in
    let s4 : a.table ≡ b.table = table.0 in
    let same : made a.half a.version a.slots a.epoch a.count a.table ≡ made b.half b.version b.slots b.epoch b.count b.table = cc in
    is_made a ∙ same ∙ sym (is_made b)

-- a body fills the block into which it is put
pub filled : (old new : Out) (s : Super) → Puts old new (super_body s) → IsSuper s → written old ≡ [] → length (room old) ≡ 4096 → new.bytes.now ≡ super_body s
filled old new s puts is none space = filled_array old new (super_body s) puts none (omega (arith, space, length-body s is))

-- without a head there is no body
pub no_head : (block : List ℕ) (s : Super) → ((version : Version) (slots epoch count table : ℕ) (rest : List ℕ) → block ≢ super_head version slots epoch count table ++ rest) → block ≢ super_body s
no_head block s none e = none s.version s.slots s.epoch s.count (length s.table) (table_bytes s.table ++ zeros (4060 - 4 * length s.table)) (e ∙ body_in_order s)
