use Rattle.std.proofs.Common.{◌≡◌, ℕ, List, IfSome, ap, sym, subst, ◌∙◌}
use Rattle.std.proofs.lemmas.Result.{err_from_is_err_and}
use Rattle.bd_device.specs.Device.{left_now, IsImageCause}
use Rattle.bd_device.specs.Moments.{Nothing}
use Rattle.bd_device.proofs.Moments.{after}
use Rattle.bd_log.specs.Batches.{AreBatches, IsDamagedAt}
use Rattle.bd_log.specs.Logs.{LogState, IsLogHalf, fresh_log}
use Rattle.bd_log.specs.declared.batch.Batch.{Batch}
use Rattle.bd_image.specs.Versions.{version_of}
use Rattle.bd_image.specs.Damage.{placed_records}
use Rattle.bd_image.specs.Synced.{IsLogOf}
use Rattle.bd_checkpoint.specs.Commands.{AreCommandsOf, IsCommandFault}
use Rattle.bd_checkpoint.proofs.Resumed.{log_half, batch_cause, command_cause, open_resumed}
use Rattle.bd_checkpoint.proofs.resuming.resume_log.Goals as goal

pub resume-requires-clause-half : goal.resume-requires-clause-half
resume-requires-clause-half g c = subst IsLogHalf (sym c.log_block.ensures) (log_half c.args.live.now.half)

pub returns-in_err-log-clause-cause : goal.returns-in_err-log-clause-cause
returns-in_err-log-clause-cause g c =
    let p = err_from_is_err_and c.from_residual.result c.from_residual.ensures.1 in
    let D = g.D.Device in
    let old = c.args.dev.now in
    let new = c.resume.new.dev in
    let live = c.args.live.now in
    let known = D.contents old in
    let fault = c.in_err-log.field-0.0 in
    let cause = subst (λ (first : ℕ). IsImageCause D old new (λ b. IfSome known (λ image. IsDamagedAt image first live.epoch b)) fault) c.log_block.ensures c.in_err-log.ensures.cause.failed in
    rw (p.1, p.2) (record { later = c.in_err-log.ensures.cause.later; kept = tt; failed = batch_cause D old new known live fault cause })

pub returns-in_err-commands-clause-cause : goal.returns-in_err-commands-clause-cause
returns-in_err-commands-clause-cause g c =
    let p = err_from_is_err_and c.from_residual-in_err-commands.result c.from_residual-in_err-commands.ensures.1 in
    let D = g.D.Device in
    let old = c.args.dev.now in
    let new = c.resume.new.dev in
    let live = c.args.live.now in
    let known = D.contents old in
    let log = c.in_ok-log.log in
    let fault = c.in_err-commands.field-0.0 in
    let logged = subst (λ (first : ℕ). IfSome known (λ image. AreBatches image first live.epoch log.batches log.place)) c.log_block.ensures c.in_ok-log.ensures.batches in
    let stops = subst (λ (bs : List Batch). IsCommandFault (version_of live) (placed_records bs) fault) c.batches.ensures c.in_err-commands.ensures.cause in
    rw (p.1, p.2)
    (record { later = c.in_ok-log.ensures.cause.later; kept = tt; failed = command_cause D old new known live log.batches log.place fault logged c.in_ok-log.ensures.cause.kept stops })

pub returns-clause-batches : goal.returns-clause-batches
returns-clause-batches g c =
    let live = c.args.live.now in
    let log = c.in_ok-log.log in
    subst (λ (first : ℕ). IfSome (g.D.Device.contents c.args.dev.now) (λ image. AreBatches image first live.epoch log.batches log.place)) c.log_block.ensures c.in_ok-log.ensures.batches

pub returns-clause-idle : goal.returns-clause-idle
returns-clause-idle g c =
    let live = c.args.live.now in
    let log = c.in_ok-log.log in
    subst (λ (first : ℕ). log ≡ record (fresh_log first live.epoch) { place = log.place; batches = log.batches }) c.log_block.ensures c.in_ok-log.ensures.idle

pub returns-clause-commands : goal.returns-clause-commands
returns-clause-commands g c =
    subst (λ (bs : List Batch). AreCommandsOf (version_of c.args.live.now) (placed_records bs) c.in_ok-commands.commands.items) c.batches.ensures c.in_ok-commands.ensures.commands

pub returns-clause-cause : goal.returns-clause-cause
returns-clause-cause g c = record { later = c.in_ok-log.ensures.cause.later; kept = c.in_ok-log.ensures.cause.kept; failed = tt }

pub returns-clause-open : goal.returns-clause-open
returns-clause-open g c = λ t started.
    let D = g.D.Device in
    let old = c.args.dev.now in
    let new = c.resume.new.dev in
    let live = c.args.live.now in
    let log = c.in_ok-log.log in
    let before = left_now D old in
    let reads = c.in_ok-log.ensures.reads in
    let logged = subst (λ (first : ℕ). IfSome (D.contents old) (λ image. AreBatches image first live.epoch log.batches log.place)) c.log_block.ensures c.in_ok-log.ensures.batches in
    let of : IsLogOf live log = record { first = ap (λ (l : LogState). l.first) c.in_ok-log.ensures.idle ∙ c.log_block.ensures; epoch = ap (λ (l : LogState). l.epoch) c.in_ok-log.ensures.idle } in
    open_resumed (D.contents old) (D.contents new) before (left_now D new) (D.block_count old) (D.block_count new) live t log started.fits started.size reads.count reads.kept
    (after Nothing before reads.time (g.met.D.Device.since_earlier new) (λ image is. is) (λ image none. absurd none)) started.only started.live_is started.table_is logged of
