use Rattle.std.proofs.Common.{sym, ◌∙◌, ap}
use Rattle.bd_device.proofs.Refusals.{OnOk-then}
use Rattle.bd_mirror.specs.Halves.{uses_first, uses_second}
use Rattle.bd_mirror.proofs.Marks.{at_ok, first_row, second_row}
use Rattle.bd_mirror.proofs.parts.Parts.read_run_halves.Goals as goal

pub returns-in-First-clause-bytes : goal.returns-in-First-clause-bytes
returns-in-First-clause-bytes g c =
    let m = c.args.self.now in
    OnOk-then c.read_blocks.result c.read_blocks.ensures.bytes (λ read marked.
    first_row m.attached (g.A.Device.block_count m.first) (g.B.Device.block_count m.second) c.args.first c.args.count _ (g.A.Device.contents m.first) (g.B.Device.contents m.second)
    (ap uses_first (sym c.halves.ensures ∙ c.in-First.is)) marked c.requires.room read)

pub returns-in-Second-clause-bytes : goal.returns-in-Second-clause-bytes
returns-in-Second-clause-bytes g c =
    let m = c.args.self.now in
    OnOk-then c.read_blocks-in-Second.result c.read_blocks-in-Second.ensures.bytes (λ read marked.
    second_row m.attached (g.A.Device.block_count m.first) (g.B.Device.block_count m.second) c.args.first c.args.count _ (g.A.Device.contents m.first) (g.B.Device.contents m.second)
    (ap uses_second (sym c.halves.ensures ∙ c.in-Second.is)) marked c.requires.room read)

pub returns-in-Ok-clause-bytes : goal.returns-in-Ok-clause-bytes
returns-in-Ok-clause-bytes g c = λ marked.
    let m = c.args.self.now in
    first_row m.attached (g.A.Device.block_count m.first) (g.B.Device.block_count m.second) c.args.first c.args.count _ (g.A.Device.contents m.first) (g.B.Device.contents m.second)
    (ap uses_first (sym c.halves.ensures ∙ c.in-Both.is)) marked c.requires.room (at_ok c.in-Ok.is c.read_blocks-in-Both.ensures.bytes)

pub returns-in-Err-clause-bytes : goal.returns-in-Err-clause-bytes
returns-in-Err-clause-bytes g c =
    let m = c.args.self.now in
    OnOk-then c.read_blocks-in-Err.result c.read_blocks-in-Err.ensures.bytes (λ read marked.
    second_row m.attached (g.A.Device.block_count m.first) (g.B.Device.block_count m.second) c.args.first c.args.count _ (g.A.Device.contents m.first) (g.B.Device.contents m.second)
    (ap uses_second (sym c.halves.ensures ∙ c.in-Both.is)) marked c.requires.room read)
