use Rattle.std.proofs.Common.{◌≡◌, ◌++◌, length, All, refl, sym, ap, ◌∙◌, subst, arith}
use Rattle.std.proofs.lemmas.Bool.{true≢false}
use Rattle.std.specs.Int.{w32}
use Rattle.std.specs.List.{flat_map}
use Rattle.bd_wire.specs.Numbers.{be, FitsWidth}
use Rattle.bd_wire.specs.Reading.{Reads}
use Rattle.bd_super.specs.Superblocks.{FitsSuperHead, super_head}
use Rattle.bd_super.specs.declared.superblock.Super.{Super}
use Rattle.bd_super.proofs.Bodies.{head_alone, no_head, no_table, table_alone, body_whole, same_fields}
use Rattle.bd_super.proofs.superblock.Super.read.Goals as goal
use Rattle.bd_super.proofs.superblock.Super.read.Goals.{else-rest_is_zero-via-then-rest_is_zero+else-is_super, else-rest_is_zero-via-else-rest_is_zero}

pub returns-in-Ok-None : goal.returns-in-Ok-None
returns-in-Ok-None c = λ s is e. no_head c.args.block.now s (λ version slots epoch count table rest eq. (rw c.in-Ok-None.field-0-is at c.in-Ok-None.ensures.none) version slots epoch count table rest (c.new-cursor.ensures.left ∙ eq)) e

pub returns-in-Err : goal.returns-in-Err
returns-in-Err c = λ s is e. let h = c.in-Err.ensures.short in absurd (omega (arith, h, c.told-block, ap length c.new-cursor.ensures.left))

pub returns-in_default : goal.returns-in_default
returns-in_default c = λ s is e.
    let h = c.in-Ok-Some.head in
    let found : Reads c.new-cursor.result c.read_head.new.cursor (super_head h.version h.slots h.epoch h.count h.table) = rw c.in-Ok-Some.field-0-is at c.in-Ok-Some.ensures.found in
    let short = rw c.in_default.is at c.in_ok-table.ensures.short in
    let left = c.read_head.new.cursor.left in
    let fits_head : FitsSuperHead h.slots h.epoch h.count h.table = rw c.in-Ok-Some.field-0-is at c.in-Ok-Some.ensures.fits in
    let head = head_alone h.version h.slots h.epoch h.count h.table left s fits_head.0 fits_head.1 fits_head.2 fits_head.3 is (sym found.front ∙ c.new-cursor.ensures.left ∙ e) in
    no_table h.table left s head.4 head.5 short

pub returns-then-is_super : goal.returns-then-is_super
returns-then-is_super c =
    let h = c.in-Ok-Some.head in
    let table = c.in-Some.table.items in
    let found : Reads c.new-cursor.result c.read_head.new.cursor (super_head h.version h.slots h.epoch h.count h.table) = rw c.in-Ok-Some.field-0-is at c.in-Ok-Some.ensures.found in
    let numbers : Reads c.read_head.new.cursor c.read_numbers.new.cursor (flat_map (be w32) table) = rw c.in-Some.is at c.in_ok-table.ensures.read in
    let count : length table ≡ h.table = rw c.in-Some.is at c.in_ok-table.ensures.count in
    let s : Super = record { half = c.args.half; version = h.version; slots = h.slots; epoch = h.epoch; count = h.count; table = c.from_vec.result } in
    let made : c.from_vec.result ≡ table = c.from_vec.ensures in
    let front = subst (λ n. c.args.block.now ≡ super_head h.version h.slots h.epoch h.count n ++ c.read_head.new.cursor.left) (sym count ∙ ap length (sym made)) (sym c.new-cursor.ensures.left ∙ found.front) in (
      refl,
      c.is_super.ensures.0 c.if-is_super.true,
      body_whole s c.args.block.now c.read_head.new.cursor.left c.read_numbers.new.cursor.left c.told-block front
          (subst (λ l. c.read_head.new.cursor.left ≡ flat_map (be w32) l ++ c.read_numbers.new.cursor.left) (sym made) numbers.front) (c.rest_is_zero.ensures.0 c.if-rest_is_zero.true),
    )

pub returns-else-rest_is_zero : goal.returns-else-rest_is_zero
returns-else-rest_is_zero c = λ s is e.
    let h = c.in-Ok-Some.head in
    let table = c.in-Some.table.items in
    let found : Reads c.new-cursor.result c.read_head.new.cursor (super_head h.version h.slots h.epoch h.count h.table) = rw c.in-Ok-Some.field-0-is at c.in-Ok-Some.ensures.found in
    let numbers : Reads c.read_head.new.cursor c.read_numbers.new.cursor (flat_map (be w32) table) = rw c.in-Some.is at c.in_ok-table.ensures.read in
    let count : length table ≡ h.table = rw c.in-Some.is at c.in_ok-table.ensures.count in
    let left = c.read_head.new.cursor.left in
    let fits_head : FitsSuperHead h.slots h.epoch h.count h.table = rw c.in-Ok-Some.field-0-is at c.in-Ok-Some.ensures.fits in
    let head = head_alone h.version h.slots h.epoch h.count h.table left s fits_head.0 fits_head.1 fits_head.2 fits_head.3 is (sym found.front ∙ c.new-cursor.ensures.left ∙ e) in
    let fits : All (FitsWidth w32) table = rw c.in-Some.is at c.in_ok-table.ensures.fits in
    let same = table_alone table c.read_numbers.new.cursor.left s fits is (count ∙ head.4) (sym numbers.front ∙ head.5) in
    elim c.else-rest_is_zero.branch [
      | else-rest_is_zero-via-then-rest_is_zero+else-is_super w ↦
          true≢false (sym (w.is_super.ensures.1 (same_fields record { half = c.args.half; version = h.version; slots = h.slots; epoch = h.epoch; count = h.count; table = c.from_vec.result } s head.1 head.2 head.3 (c.from_vec.ensures ∙ same.0) is)) ∙ w.if-is_super.false)
      | else-rest_is_zero-via-else-rest_is_zero w ↦ true≢false (sym (c.rest_is_zero.ensures.1 same.1) ∙ w.if-rest_is_zero.false)
    ]
