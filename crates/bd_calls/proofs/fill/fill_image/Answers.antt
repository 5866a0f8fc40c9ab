-- The lines are those of the generated script, and the replies are counted.
use Rattle.bd_calls.proofs.Fills.{ran_generated, can_fill, cause_named, done_named, fill_attached}
use Rattle.bd_calls.proofs.fill.fill_image.Goals as goal

pub returns-clause-kind : goal.returns-clause-kind
returns-clause-kind g c =
    let ran = c.run_image-result in
    rw c.name_memory.ensures
    (can_fill ran.result.result c.args.seed c.args.count _ _ _ _ _ _ _ _ _ _ _ _ _ _ _ c.new-src.ensures.left c.requires ran.ensures.ran ran.ensures.cause)

pub returns-clause-ran : goal.returns-clause-ran
returns-clause-ran g c =
    let ran = c.run_image-result in
    rw (c.name_memory.ensures, c.tally.ensures)
    (ran_generated ran.result.result c.args.seed c.args.count _ _ _ _ _ _ _ _ _ c.new-src.ensures.left c.new-replies.ensures
    (can_fill ran.result.result c.args.seed c.args.count _ _ _ _ _ _ _ _ _ _ _ _ _ _ _ c.new-src.ensures.left c.requires ran.ensures.ran ran.ensures.cause) ran.ensures.ran)

pub returns-clause-attached : goal.returns-clause-attached
returns-clause-attached g c = rw c.name_memory.ensures (fill_attached c.run_image-result.result.result c.run_image-result.ensures.attached)

pub returns-clause-writes : goal.returns-clause-writes
returns-clause-writes g c = rw c.name_memory.ensures (done_named c.run_image-result.result.result _ c.run_image-result.ensures.writes)

pub returns-clause-cause : goal.returns-clause-cause
returns-clause-cause g c sink = rw c.name_memory.ensures (cause_named c.run_image-result.result.result _ _ _ _ _ c.run_image-result.ensures.cause sink)
