use Rattle.std.proofs.Common.{◌≤◌, ◌+◌, ◌++◌, length, drop, List, subst, arith, ap, ◌∙◌}
use Rattle.std.proofs.lemmas.Result.{err_from_is_err_and}
use Rattle.bd_super.specs.Superblocks.{version_number}
use Rattle.bd_image.specs.Damage.{PlacedRecord, placed_records}
use Rattle.bd_checkpoint.specs.Commands.{records_for, placed_in, IsCommandFault}
use Rattle.bd_checkpoint.proofs.Records.{batch_split, stops_more, all_batches}
use Rattle.bd_checkpoint.proofs.commands.commands_of.Goals as goal

pub loop-batch-preserved : goal.loop-batch-preserved
loop-batch-preserved c =
    let more = placed_records (drop (c.loop-batch.batch-index + 1) c.args.batches.now) in
    let done = c.in_ok-push_commands.ensures.commands in
    record {
      each = done.each;
      same = ap (λ (l : List PlacedRecord). l ++ more) done.same
          ∙ batch_split c.args.batches.now c.loop-batch.batch-index c.batch-item.result c.as_slice.result.now c.loop-batch.list.items c.loop-batch-test.true c.batch-item.is c.as_slice.ensures
          c.loop-batch.invariant.same;
    }

pub returns-in_err-push_commands-clause-cause : goal.returns-in_err-push_commands-clause-cause
returns-in_err-push_commands-clause-cause c =
    let p = err_from_is_err_and c.from_residual.result c.from_residual.ensures.1 in
    let version = version_number c.args.version in
    let list = c.loop-batch.list.items in
    let batch = c.batch-item.result in
    let more = placed_records (drop (c.loop-batch.batch-index + 1) c.args.batches.now) in
    let split = batch_split c.args.batches.now c.loop-batch.batch-index batch c.as_slice.result.now list c.loop-batch-test.true c.batch-item.is c.as_slice.ensures c.loop-batch.invariant.same in
    rw (p.1, p.2)
    (subst (λ (rs : List PlacedRecord). IsCommandFault version rs c.in_err-push_commands.field-0.0) split
    (stops_more version (records_for list ++ placed_in batch.body c.as_slice.result.now) more c.in_err-push_commands.field-0.0 c.in_err-push_commands.ensures.cause))

pub returns-clause-commands : goal.returns-clause-commands
returns-clause-commands c =
    let none : length c.args.batches.now ≤ c.loop-batch.batch-index = omega (arith, c.loop-batch-test.false) in
    all_batches (version_number c.args.version) c.args.batches.now c.loop-batch.batch-index c.loop-batch.list.items none c.loop-batch.invariant.each c.loop-batch.invariant.same
