use Rattle.std.proofs.Common.{subst}
use Rattle.std.specs.Option.{option_map}
use Rattle.bd_message.specs.Codec.{IsPartAs, FitsTexts, FitsPart, FitsGoto, encode_texts, encode_part, encode_goto}
use Rattle.bd_message.proofs.EncodingSizes.{tagged, no_put, no_patch, no_cut, no_goto}
use Rattle.bd_message.proofs.codec.encoded.Goals as goal

pub returns-in-None : goal.returns-in-None
returns-in-None c =
    let none = subst (IsPartAs FitsTexts encode_texts c.u8.new.self c.texts.new.ahead) c.in-None.is c.in_ok-key-in-1.ensures in
    tagged c.args.ahead.now.left c.u8.new.self.left c.in-Ok.tag 1 c.in-Ok.ensures.read.front c.in-1.is (no_put c.u8.new.self.left none)

pub returns-in-None-3 : goal.returns-in-None-3
returns-in-None-3 c =
    let none = subst (λ found. IsPartAs FitsPart encode_part c.u8.new.self c.part.new.ahead (option_map (λ p. ((p.0, p.1), p.2)) found)) c.in-None-3.is c.in_ok-key-in-3.ensures in
    tagged c.args.ahead.now.left c.u8.new.self.left c.in-Ok.tag 3 c.in-Ok.ensures.read.front c.in-3.is (no_patch c.u8.new.self.left none)

pub returns-in-None-4 : goal.returns-in-None-4
returns-in-None-4 c =
    let none = subst (IsPartAs FitsTexts encode_texts c.u8.new.self c.texts-in-4.new.ahead) c.in-None-4.is c.in_ok-prefix-in-4.ensures in
    tagged c.args.ahead.now.left c.u8.new.self.left c.in-Ok.tag 4 c.in-Ok.ensures.read.front c.in-4.is (no_cut c.u8.new.self.left none)

pub returns-in-None-5 : goal.returns-in-None-5
returns-in-None-5 c =
    let none = subst (λ found. IsPartAs FitsGoto encode_goto c.u8.new.self c.texts_and_child.new.ahead (option_map (λ p. ((p.0, p.1), p.2)) found)) c.in-None-5.is c.in_ok-prefix-in-5.ensures in
    tagged c.args.ahead.now.left c.u8.new.self.left c.in-Ok.tag 5 c.in-Ok.ensures.read.front c.in-5.is (no_goto c.u8.new.self.left none)
