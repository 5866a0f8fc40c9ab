use Rattle.std.proofs.Common.{sym, ◌∙◌, arith}
use Rattle.std.proofs.lemmas.Bool.{true≢false}
use Rattle.bd_super.specs.Superblocks.{version_number, super_magic}
use Rattle.bd_super.proofs.Bodies.{version_fits}
use Rattle.bd_super.proofs.Heads.{fields_read, one_version}
use Rattle.bd_super.proofs.codec.read_head.Goals as goal

pub returns-in_default-clause-none : goal.returns-in_default-clause-none
returns-in_default-clause-none c = λ version s e k t rest eq.
    let m = c.in_ok-magic.magic.now in
    let v = c.in_ok-number.number in
    let found = fields_read c.args.cursor.now c.bytes.new.self c.u32.new.self c.u32-2.new.self c.u64.new.self c.u64-2.new.self c.u32-3.new.self m v c.in_ok-slots.slots c.in_ok-epoch.epoch c.in_ok-count.count c.in_ok-table.table
    c.in_ok-magic.ensures.read c.in_ok-number.ensures.read c.in_ok-slots.ensures.read c.in_ok-epoch.ensures.read c.in_ok-count.ensures.read c.in_ok-table.ensures.read in
    let same = one_version m super_magic v c.in_ok-slots.slots c.in_ok-epoch.epoch c.in_ok-count.count c.in_ok-table.table (version_number version) s e k t c.u32-3.new.self.left rest c.in_ok-magic.ensures.count (omega arith) (version_fits version) (sym found.front ∙ eq) in
    (rw c.in_default.is at c.of.ensures.none) version (sym same.1)

pub returns-then-not-is_magic-clause-none : goal.returns-then-not-is_magic-clause-none
returns-then-not-is_magic-clause-none c = λ version s e k t rest eq.
    let m = c.in_ok-magic.magic.now in
    let v = c.in_ok-number.number in
    let found = fields_read c.args.cursor.now c.bytes.new.self c.u32.new.self c.u32-2.new.self c.u64.new.self c.u64-2.new.self c.u32-3.new.self m v c.in_ok-slots.slots c.in_ok-epoch.epoch c.in_ok-count.count c.in_ok-table.table
    c.in_ok-magic.ensures.read c.in_ok-number.ensures.read c.in_ok-slots.ensures.read c.in_ok-epoch.ensures.read c.in_ok-count.ensures.read c.in_ok-table.ensures.read in
    let same = one_version m super_magic v c.in_ok-slots.slots c.in_ok-epoch.epoch c.in_ok-count.count c.in_ok-table.table (version_number version) s e k t c.u32-3.new.self.left rest c.in_ok-magic.ensures.count (omega arith) (version_fits version) (sym found.front ∙ eq) in
    true≢false (sym (c.if-not-is_magic.ensures.1 same.0))
