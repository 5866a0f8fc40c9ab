use Rattle.std.proofs.Common.{arith, subst}
use Rattle.std.specs.Int.{w16}
use Rattle.bd_wire.specs.Numbers.{be, FitsWidth}
use Rattle.bd_wire.proofs.NumberLemmas.{IsPrefixFree-be, BeginsNone-be}
use Rattle.bd_wire.proofs.ReadingLemmas.{Reads-append}
use Rattle.bd_wire.specs.Encoding.{FitsBoth, encode_both}
use Rattle.bd_wire.proofs.EncodingLemmas.{BeginsNone-first, BeginsNone-second, IsPrefixFree-both}
use Rattle.bd_wire.specs.Text.{text16, FitsText16}
use Rattle.bd_wire.proofs.TextLemmas.{IsPrefixFree-text16}
use Rattle.bd_message.specs.Codec.{IsPartAs}
use Rattle.bd_message.proofs.codec.part.Goals as goal

pub returns-in_default-u16 : goal.returns-in_default-u16
returns-in_default-u16 c =
    let first = subst (IsPartAs FitsText16 text16 c.args.ahead.now c.text.new.ahead) c.in-Some.is c.in_ok-first.ensures in
    BeginsNone-first (FitsBoth FitsText16 (FitsWidth w16)) FitsText16 (encode_both text16 (be w16)) text16 c.args.ahead.now.left
    (BeginsNone-second FitsText16 (FitsWidth w16) text16 (be w16) c.args.ahead.now.left c.in-Some.first c.text.new.ahead.left IsPrefixFree-text16
    first.0 first.1.front (BeginsNone-be w16 c.text.new.ahead.left c.in_default-u16.ensures.short))

pub returns-in_default-2 : goal.returns-in_default-2
returns-in_default-2 c =
    let first = subst (IsPartAs FitsText16 text16 c.args.ahead.now c.text.new.ahead) c.in-Some.is c.in_ok-first.ensures in
    let second = subst (IsPartAs FitsText16 text16 c.u16.new.self c.text-2.new.ahead) c.in_default-2.is c.in_ok-second.ensures in
    let both = Reads-append c.args.ahead.now c.text.new.ahead c.u16.new.self (text16 c.in-Some.first) (be w16 c.in-Ok.off) first.1 c.in-Ok.ensures.read in
    BeginsNone-second (FitsBoth FitsText16 (FitsWidth w16)) FitsText16 (encode_both text16 (be w16)) text16 c.args.ahead.now.left (c.in-Some.first, c.in-Ok.off) c.u16.new.self.left
    (IsPrefixFree-both FitsText16 (FitsWidth w16) text16 (be w16) IsPrefixFree-text16 (IsPrefixFree-be w16))
    (first.0, omega arith) both.front second
