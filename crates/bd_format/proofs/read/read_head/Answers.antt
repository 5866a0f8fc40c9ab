use Rattle.std.proofs.Common.{◌++◌, arith}
use Rattle.std.specs.Int.{w32}
use Rattle.bd_wire.specs.Numbers.{be}
use Rattle.bd_wire.proofs.ReadingLemmas.{Reads-append}
use Rattle.bd_format.proofs.Alone.{short_head, other_head, number_read}
use Rattle.bd_format.proofs.read.read_head.Goals as goal

pub returns-in_default : goal.returns-in_default
returns-in_default c = short_head c.args.cursor.now.left (omega (arith, c.in_default.ensures.short))

pub returns-in_default-u32 : goal.returns-in_default-u32
returns-in_default-u32 c =
    short_head c.args.cursor.now.left (omega (arith, number_read c.args.cursor.now c.u32.new.self c.in-Ok.magic c.in-Ok.ensures.read, c.in_default-u32.ensures.short))

pub returns-in_default-u32-2 : goal.returns-in_default-u32-2
returns-in_default-u32-2 c =
    short_head c.args.cursor.now.left (omega (
      arith,
      number_read c.args.cursor.now c.u32.new.self c.in-Ok.magic c.in-Ok.ensures.read,
      number_read c.u32.new.self c.u32-2.new.self c.in-Ok-u32.level c.in-Ok-u32.ensures.read,
      c.in_default-u32-2.ensures.short,
    ))

pub returns-in_default-u32-3 : goal.returns-in_default-u32-3
returns-in_default-u32-3 c =
    short_head c.args.cursor.now.left (omega (
      arith,
      number_read c.args.cursor.now c.u32.new.self c.in-Ok.magic c.in-Ok.ensures.read,
      number_read c.u32.new.self c.u32-2.new.self c.in-Ok-u32.level c.in-Ok-u32.ensures.read,
      number_read c.u32-2.new.self c.u32-3.new.self c.in-Ok-u32-2.items c.in-Ok-u32-2.ensures.read,
      c.in_default-u32-3.ensures.short,
    ))

pub returns-then-magic-ne-NODE_MAGIC : goal.returns-then-magic-ne-NODE_MAGIC
returns-then-magic-ne-NODE_MAGIC c =
    let two = Reads-append c.args.cursor.now c.u32.new.self c.u32-2.new.self (be w32 c.in-Ok.magic) (be w32 c.in-Ok-u32.level) c.in-Ok.ensures.read c.in-Ok-u32.ensures.read in
    let three = Reads-append c.args.cursor.now c.u32-2.new.self c.u32-3.new.self (be w32 c.in-Ok.magic ++ be w32 c.in-Ok-u32.level) (be w32 c.in-Ok-u32-2.items) two c.in-Ok-u32-2.ensures.read in
    let all = Reads-append c.args.cursor.now c.u32-3.new.self c.u32-4.new.self (be w32 c.in-Ok.magic ++ be w32 c.in-Ok-u32.level ++ be w32 c.in-Ok-u32-2.items) (be w32 c.in-Ok-u32-3.messages) three c.in-Ok-u32-3.ensures.read in
    other_head (((c.in-Ok.magic, c.in-Ok-u32.level), c.in-Ok-u32-2.items), c.in-Ok-u32-3.messages) c.args.cursor.now.left c.u32-4.new.self.left
    (((omega arith, omega arith), omega arith), omega arith) c.if-magic-ne-NODE_MAGIC.true all.front
