use Rattle.std.proofs.Common.{arith}
use Rattle.std.specs.Int.{w32, w64}
use Rattle.bd_wire.specs.Numbers.{be, FitsWidth}
use Rattle.bd_wire.proofs.NumberLemmas.{IsPrefixFree-be, BeginsNone-be}
use Rattle.bd_wire.proofs.EncodingLemmas.{BeginsNone-first, BeginsNone-second}
use Rattle.bd_format.proofs.read.read_target.Goals as goal

pub returns-in_default : goal.returns-in_default
returns-in_default c =
    BeginsNone-first (FitsWidth w64) (FitsWidth w32) (be w64) (be w32) c.args.cursor.now.left (BeginsNone-be w64 c.args.cursor.now.left c.in_default.ensures.short)

pub returns-in_default-u32 : goal.returns-in_default-u32
returns-in_default-u32 c =
    BeginsNone-second (FitsWidth w64) (FitsWidth w32) (be w64) (be w32) c.args.cursor.now.left c.in-Ok.child c.u64.new.self.left (IsPrefixFree-be w64)
    (omega arith) c.in-Ok.ensures.read.front (BeginsNone-be w32 c.u64.new.self.left c.in_default-u32.ensures.short)
