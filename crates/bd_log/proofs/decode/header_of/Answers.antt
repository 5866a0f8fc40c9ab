use Rattle.std.proofs.Common.{◌++◌, sym, ◌∙◌}
use Rattle.std.specs.Int.{w32, w64}
use Rattle.bd_wire.specs.Numbers.{be}
use Rattle.bd_wire.proofs.ReadingLemmas.{Reads-append}
use Rattle.bd_log.proofs.decode.header_of.Goals as goal

pub returns-clause-some : goal.returns-clause-some
returns-clause-some c =
    let start = c.new-cursor.result in
    let b1 = be w32 c.in-Ok.magic in
    let b2 = be w32 c.in-Ok-u32.blocks in
    let b3 = be w64 c.in-Ok-u64.epoch in
    let b4 = be w32 c.in-Ok-u32-2.count in
    let b5 = be w32 c.in-Ok-u32-3.size in
    let r2 = Reads-append start c.u32.new.self c.u32-2.new.self b1 b2 c.in-Ok.ensures.read c.in-Ok-u32.ensures.read in
    let r3 = Reads-append start c.u32-2.new.self c.u64.new.self (b1 ++ b2) b3 r2 c.in-Ok-u64.ensures.read in
    let r4 = Reads-append start c.u64.new.self c.u32-3.new.self (b1 ++ b2 ++ b3) b4 r3 c.in-Ok-u32-2.ensures.read in
    let r5 = Reads-append start c.u32-3.new.self c.u32-4.new.self (b1 ++ b2 ++ b3 ++ b4) b5 r4 c.in-Ok-u32-3.ensures.read in
    (c.u32-4.new.self.left, sym c.new-cursor.ensures.left ∙ r5.front)
