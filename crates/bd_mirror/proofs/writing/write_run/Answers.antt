use Rattle.std.proofs.Common.{arith}
use Rattle.bd_device.proofs.Refusals.{OnOk-then}
use Rattle.bd_device.proofs.Images.{OnErr-always}
use Rattle.bd_mirror.proofs.Rows.{row_changed, row_written}
use Rattle.bd_mirror.proofs.writing.write_run.Goals as goal

pub returns-clause-done : goal.returns-clause-done
returns-clause-done g c =
    let wrote = c.write_blocks-result in
    OnOk-then wrote.result wrote.ensures.written (λ is.
    row_written c.args.first c.args.count (g.D.Device.block_count wrote.new.dev) c.args.from.now _ _ (omega (arith, c.requires.room, wrote.ensures.stays.count)) wrote.ensures.others c.blocks-2.ensures.shape is)

pub returns-clause-others : goal.returns-clause-others
returns-clause-others g c =
    OnErr-always c.write_blocks-result.result (row_changed c.args.first c.args.count _ _ c.write_blocks-result.ensures.others)
