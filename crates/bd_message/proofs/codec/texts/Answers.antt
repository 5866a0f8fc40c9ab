use Rattle.std.proofs.Common.{subst}
use Rattle.bd_wire.proofs.EncodingLemmas.{BeginsNone-second}
use Rattle.bd_wire.specs.Text.{text16, FitsText16}
use Rattle.bd_wire.proofs.TextLemmas.{IsPrefixFree-text16}
use Rattle.bd_message.specs.Codec.{IsPartAs}
use Rattle.bd_message.proofs.codec.texts.Goals as goal

pub returns-in_default-2 : goal.returns-in_default-2
returns-in_default-2 c =
    let first = subst (IsPartAs FitsText16 text16 c.args.ahead.now c.text.new.ahead) c.in-Some.is c.in_ok-first.ensures in
    let second = subst (IsPartAs FitsText16 text16 c.text.new.ahead c.text-2.new.ahead) c.in_default-2.is c.in_ok-second.ensures in
    BeginsNone-second FitsText16 FitsText16 text16 text16 c.args.ahead.now.left c.in-Some.first c.text.new.ahead.left IsPrefixFree-text16 first.0 first.1.front second
