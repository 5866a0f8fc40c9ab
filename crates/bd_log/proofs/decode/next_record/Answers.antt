use Rattle.std.proofs.Common.{◌≡◌, ◌+◌, length, take, ap, sym, subst, ◌∙◌}
use Rattle.std.proofs.lemmas.List.{take_at}
use Rattle.bd_wire.specs.Text.{text16}
use Rattle.bd_wire.specs.Reading.{Reads}
use Rattle.bd_wire.proofs.TextLemmas.{length-text16}
use Rattle.bd_log.proofs.decode.next_record.Goals as goal

pub slice_bounds-result-end : goal.slice_bounds-result-end
slice_bounds-result-end c =
    let text = c.in-Ok.text.now in
    let front : take (2 + length text) c.left-left.result.now ≡ text16 text =
    ap (take (2 + length text)) (c.left-left.ensures ∙ c.in-Ok.ensures.read.front) ∙ take_at (text16 text) c.text16.new.self.left (2 + length text) (length-text16 text) in
    sym (ap length front ∙ length-text16 text)

pub returns-clause-record : goal.returns-clause-record
returns-clause-record c =
    let text = c.in-Ok.text.now in
    let front : take (2 + length text) c.left-left.result.now ≡ text16 text =
    ap (take (2 + length text)) (c.left-left.ensures ∙ c.in-Ok.ensures.read.front) ∙ take_at (text16 text) c.text16.new.self.left (2 + length text) (length-text16 text) in
    (text, c.in-Ok.ensures.fits, front)

pub returns-clause-read : goal.returns-clause-read
returns-clause-read c =
    let text = c.in-Ok.text.now in
    let front : take (2 + length text) c.left-left.result.now ≡ text16 text =
    ap (take (2 + length text)) (c.left-left.ensures ∙ c.in-Ok.ensures.read.front) ∙ take_at (text16 text) c.text16.new.self.left (2 + length text) (length-text16 text) in
    subst (Reads c.args.cursor.now c.text16.new.self) (sym front) c.in-Ok.ensures.read
