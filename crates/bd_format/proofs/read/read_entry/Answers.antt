use Rattle.bd_wire.specs.Text.{text16, FitsText16}
use Rattle.bd_wire.proofs.TextLemmas.{IsPrefixFree-text16}
use Rattle.bd_wire.proofs.EncodingLemmas.{BeginsNone-second}
use Rattle.bd_format.proofs.read.read_entry.Goals as goal

pub returns-in_default-text16 : goal.returns-in_default-text16
returns-in_default-text16 c = λ e rest fits is.
    BeginsNone-second FitsText16 FitsText16 text16 text16 c.args.cursor.now.left c.in-Ok.key.now c.text16.new.self.left IsPrefixFree-text16
    c.in-Ok.ensures.fits c.in-Ok.ensures.read.front c.in_default-text16.ensures.short (e.key, e.value) rest fits is
