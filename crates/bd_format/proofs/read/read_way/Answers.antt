use Rattle.std.proofs.Common.{arith}
use Rattle.std.specs.Int.{w16}
use Rattle.bd_wire.specs.Numbers.{be, FitsWidth}
use Rattle.bd_wire.specs.Encoding.{FitsBoth, encode_both}
use Rattle.bd_wire.specs.Text.{text16, FitsText16}
use Rattle.bd_wire.proofs.NumberLemmas.{IsPrefixFree-be, BeginsNone-be}
use Rattle.bd_wire.proofs.TextLemmas.{IsPrefixFree-text16}
use Rattle.bd_wire.proofs.ReadingLemmas.{Reads-append}
use Rattle.bd_wire.proofs.EncodingLemmas.{BeginsNone-first, BeginsNone-second, IsPrefixFree-both}
use Rattle.bd_format.proofs.read.read_way.Goals as goal

pub returns-in_default-u16 : goal.returns-in_default-u16
returns-in_default-u16 c =
    BeginsNone-first (FitsBoth FitsText16 (FitsWidth w16)) FitsText16 (encode_both text16 (be w16)) text16 c.args.cursor.now.left
    (BeginsNone-second FitsText16 (FitsWidth w16) text16 (be w16) c.args.cursor.now.left c.in-Ok.pivot.now c.text16.new.self.left IsPrefixFree-text16
    c.in-Ok.ensures.fits c.in-Ok.ensures.read.front (BeginsNone-be w16 c.text16.new.self.left c.in_default-u16.ensures.short))

pub returns-in_default-text16 : goal.returns-in_default-text16
returns-in_default-text16 c =
    let both = Reads-append c.args.cursor.now c.text16.new.self c.u16.new.self (text16 c.in-Ok.pivot.now) (be w16 c.in-Ok-u16.lift) c.in-Ok.ensures.read c.in-Ok-u16.ensures.read in
    BeginsNone-second (FitsBoth FitsText16 (FitsWidth w16)) FitsText16 (encode_both text16 (be w16)) text16 c.args.cursor.now.left (c.in-Ok.pivot.now, c.in-Ok-u16.lift) c.u16.new.self.left
    (IsPrefixFree-both FitsText16 (FitsWidth w16) text16 (be w16) IsPrefixFree-text16 (IsPrefixFree-be w16))
    (c.in-Ok.ensures.fits, omega arith) both.front c.in_default-text16.ensures.short
