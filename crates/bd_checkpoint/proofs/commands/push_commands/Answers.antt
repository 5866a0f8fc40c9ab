use Rattle.std.proofs.Common.{◌≤◌, ◌++◌, length, subst, arith}
use Rattle.bd_super.specs.Superblocks.{version_number}
use Rattle.bd_checkpoint.specs.Commands.{records_for, placed_in, IsRecordOf}
use Rattle.bd_checkpoint.proofs.Records.{pushed, stopped, all_pushed}
use Rattle.bd_checkpoint.proofs.commands.push_commands.Goals as goal

pub loop-bytes-preserved : goal.loop-bytes-preserved
loop-bytes-preserved c =
    let version = version_number c.args.version in
    let all = records_for c.args.list.now.items ++ placed_in c.args.block c.args.records.now in
    let next = pushed version c.args.block c.args.records.now c.loop-bytes.bytes-index c.bytes-item.result c.as_slice.result.now c.in-Some.command c.loop-bytes.list.items c.push.new.self.items all
    c.loop-bytes-test.true c.bytes-item.is c.as_slice.ensures (subst (IsRecordOf version c.as_slice.result.now) c.in-Some.is c.in_ok-command.ensures) c.in_ok-push.ensures.items
    c.loop-bytes.invariant.each c.loop-bytes.invariant.same in
    record { each = next.0; same = next.1 }

pub returns-in_default-clause-cause : goal.returns-in_default-clause-cause
returns-in_default-clause-cause c =
    let version = version_number c.args.version in
    let all = records_for c.args.list.now.items ++ placed_in c.args.block c.args.records.now in
    stopped version c.args.block c.args.records.now c.loop-bytes.bytes-index c.bytes-item.result c.as_slice.result.now c.loop-bytes.list.items all
    c.loop-bytes-test.true c.bytes-item.is c.as_slice.ensures (subst (IsRecordOf version c.as_slice.result.now) c.in_default.is c.in_ok-command.ensures)
    c.loop-bytes.invariant.each c.loop-bytes.invariant.same

pub returns-clause-commands : goal.returns-clause-commands
returns-clause-commands c =
    let all = records_for c.args.list.now.items ++ placed_in c.args.block c.args.records.now in
    let none : length c.args.records.now ≤ c.loop-bytes.bytes-index = omega (arith, c.loop-bytes-test.false) in
    all_pushed (version_number c.args.version) c.args.block c.args.records.now c.loop-bytes.bytes-index c.loop-bytes.list.items all none c.loop-bytes.invariant.each c.loop-bytes.invariant.same
