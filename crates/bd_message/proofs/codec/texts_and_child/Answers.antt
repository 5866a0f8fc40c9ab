use Rattle.std.proofs.Common.{subst}
use Rattle.std.specs.Int.{w64}
use Rattle.bd_wire.specs.Numbers.{be, FitsWidth}
use Rattle.bd_wire.proofs.NumberLemmas.{BeginsNone-be}
use Rattle.bd_wire.proofs.EncodingLemmas.{BeginsNone-second}
use Rattle.bd_message.specs.Codec.{FitsTexts, encode_texts, IsPartAs}
use Rattle.bd_message.proofs.EncodingSizes.{texts_alone}
use Rattle.bd_message.proofs.codec.texts_and_child.Goals as goal

pub returns-in_default-u64 : goal.returns-in_default-u64
returns-in_default-u64 c =
    let both = subst (IsPartAs FitsTexts encode_texts c.args.ahead.now c.texts.new.ahead) c.in-Some.is c.in_ok-first.ensures in
    BeginsNone-second FitsTexts (FitsWidth w64) encode_texts (be w64) c.args.ahead.now.left (c.in-Some.first, c.in-Some.second) c.texts.new.ahead.left texts_alone
    both.0 both.1.front (BeginsNone-be w64 c.texts.new.ahead.left c.in_default-u64.ensures.short)
