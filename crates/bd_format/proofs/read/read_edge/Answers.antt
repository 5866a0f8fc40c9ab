use Rattle.bd_message.specs.Codec.{FitsPart, encode_part}
use Rattle.bd_wire.proofs.EncodingLemmas.{BeginsNone-first, BeginsNone-second}
use Rattle.bd_format.specs.Parts.{FitsTarget, encode_target}
use Rattle.bd_format.proofs.Alone.{no_edge, part_alone}
use Rattle.bd_format.proofs.read.read_edge.Goals as goal

pub returns-in_default : goal.returns-in_default
returns-in_default c = no_edge c.args.cursor.now.left (BeginsNone-first FitsPart FitsTarget encode_part encode_target c.args.cursor.now.left c.in_default.ensures)

pub returns-in_default-read_target : goal.returns-in_default-read_target
returns-in_default-read_target c =
    no_edge c.args.cursor.now.left (BeginsNone-second FitsPart FitsTarget encode_part encode_target c.args.cursor.now.left
    ((c.in-Some.pivot.now, c.in-Some.lift), c.in-Some.source.now) c.read_way.new.cursor.left part_alone c.in-Some.ensures.0 c.in-Some.ensures.1.front c.in_default-read_target.ensures)
