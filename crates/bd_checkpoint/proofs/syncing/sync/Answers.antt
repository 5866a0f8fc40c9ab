use Rattle.std.proofs.Common.{sym, subst}
use Rattle.std.proofs.lemmas.Result.{on_ok_weaker}
use Rattle.bd_device.specs.Device.{left_now}
use Rattle.bd_device.proofs.Moments.{within}
use Rattle.bd_log.specs.Logs.{LogState, IsSyncing}
use Rattle.bd_checkpoint.specs.Kept.{IsOpenOn, IsWithAllOrNone}
use Rattle.bd_checkpoint.proofs.Starting.{PartsAreOne}
use Rattle.bd_checkpoint.proofs.Handed.{both_ok}
use Rattle.bd_checkpoint.proofs.Logged.{with_waiting, with_all_or_none, open_synced}
use Rattle.bd_checkpoint.proofs.syncing.sync.Goals as goal

pub returns-clause-time : goal.returns-clause-time
returns-clause-time g c = λ live saved given.
    let D = g.D.Device in
    let old = c.args.dev.now in
    let log = c.args.log.now in
    let before = left_now D old in
    let one : PartsAreOne = record { tables = c.tables_are_read_again.ensures; batches = c.batches_are_one.ensures } in
    within (IsSyncing log before) (IsWithAllOrNone live log before) c.sync.ensures.time
    (with_all_or_none one (D.contents old) before (D.block_count old) live saved log given)

pub returns-clause-kept : goal.returns-clause-kept
returns-clause-kept g c =
    let D = g.D.Device in
    let old = c.args.dev.now in
    let log = c.args.log.now in
    let one : PartsAreOne = record { tables = c.tables_are_read_again.ensures; batches = c.batches_are_one.ensures } in
    on_ok_weaker c.sync.result (λ synced. λ live saved given image is.
    with_waiting one (D.contents old) (left_now D old) (D.block_count old) live saved log given image (synced image is)) c.sync.ensures.synced

pub returns-clause-open : goal.returns-clause-open
returns-clause-open g c =
    let D = g.D.Device in
    let old = c.args.dev.now in
    let new = c.sync.new.dev in
    let log = c.args.log.now in
    both_ok c.sync.result
    (λ same synced. λ live saved given.
    subst (λ (l : LogState). IsOpenOn D new live saved l) (sym same)
    (open_synced (D.contents old) (D.contents new) (left_now D old) (left_now D new) (D.block_count old) (D.block_count new) live saved log given c.sync.ensures.stays.count c.sync.ensures.others synced))
    c.sync.ensures.ok c.sync.ensures.synced
