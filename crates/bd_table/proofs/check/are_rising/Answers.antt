use Rattle.bd_table.proofs.FreeLemmas.{rising_more}
use Rattle.bd_table.proofs.check.are_rising.Goals as goal

pub loop-index-preserved : goal.loop-index-preserved
loop-index-preserved c =
    rising_more c.args.entries.now c.loop-index.index _ c.loop-index.auto.index c.loop-index-test.true c.loop-index.invariant c.if-entries-index.false
