use Rattle.std.proofs.Common.{◌≤◌, ◌<◌, Option, IfSome, subst, arith}
use Rattle.std.proofs.lemmas.Result.{err_from_is_err_and}
use Rattle.bd_device.specs.Blocks.{Image}
use Rattle.bd_device.specs.Device.{left_now}
use Rattle.bd_device.specs.Moments.{Nothing}
use Rattle.bd_device.proofs.Moments.{after}
use Rattle.bd_super.specs.Live.{IsDamaged}
use Rattle.bd_checkpoint.specs.Recovering.{IsFoundIn}
use Rattle.bd_checkpoint.proofs.Causes.{barrier_settles, barrier_fails, settled_then, only_then, cause_on, bad_superblock}
use Rattle.bd_checkpoint.proofs.recovering.read_start.Goals as goal

pub returns-in_err-live-clause-cause : goal.returns-in_err-live-clause-cause
returns-in_err-live-clause-cause g c =
    let p = err_from_is_err_and c.from_residual-in_err-live.result c.from_residual-in_err-live.ensures.1 in
    let D = g.D.Device in
    let old = c.args.dev.now in
    let mid = c.barrier.new.self in
    let new = c.read_live.new.dev in
    let cause = c.in_err-live.ensures.cause in
    let later : D.fault_count old ≤ D.fault_count new = omega (arith, c.in_ok-barrier.ensures.faults, cause.later) in
    rw (p.1, p.2) (record {
      later = later;
      kept = tt;
      failed = cause_on D old mid new (λ b. IfSome (D.contents mid) (λ image. IsDamaged image b)) (IsFoundIn (D.contents old)) c.in_err-live.field-0.0 c.in_ok-barrier.ensures.faults
          (λ b bad. subst (λ (o : Option Image). IsFoundIn o b) c.in_ok-barrier.ensures.kept (bad_superblock (D.contents mid) b bad)) cause.failed;
    })

pub returns-clause-only : goal.returns-clause-only
returns-clause-only g c =
    let D = g.D.Device in
    let old = c.args.dev.now in
    let mid = c.barrier.new.self in
    let new = c.read_live.new.dev in
    let reads = c.in_ok-live.ensures.reads in
    let some : 0 < D.block_count old = omega (arith, c.in_ok-barrier.ensures.count, c.in_ok-live.ensures.size) in
    only_then (D.contents mid) (D.contents new) (left_now D mid) (left_now D new) reads.kept
    (after Nothing (left_now D mid) reads.time (g.met.D.Device.since_earlier new) (λ image is. is) (λ image none. absurd none)) (c.in_ok-barrier.ensures.durable some)

pub returns-in_err-barrier-clause-settles : goal.returns-in_err-barrier-clause-settles
returns-in_err-barrier-clause-settles g c =
    let p = err_from_is_err_and c.from_residual.result c.from_residual.ensures.1 in
    rw p.1
    (λ some first. absurd (first (barrier_fails g.D.Device c.args.dev.now c.barrier.new.self _ c.in_err-barrier.ensures.calls c.in_err-barrier.ensures.write_faults)))

pub returns-in_err-live-clause-settles : goal.returns-in_err-live-clause-settles
returns-in_err-live-clause-settles g c =
    let p = err_from_is_err_and c.from_residual-in_err-live.result c.from_residual-in_err-live.ensures.1 in
    let D = g.D.Device in
    let barrier = c.in_ok-barrier.ensures in
    rw p.1
    (λ some none. settled_then D c.args.dev.now c.barrier.new.self c.read_live.new.dev
    (barrier_settles D c.args.dev.now c.barrier.new.self c.in_ok-barrier.field-0 barrier.calls barrier.kept (barrier.durable some)) c.in_err-live.ensures.reads)

pub returns-in_err-extend_from_slice-clause-settles : goal.returns-in_err-extend_from_slice-clause-settles
returns-in_err-extend_from_slice-clause-settles g c =
    let p = err_from_is_err_and c.from_residual-in_err-extend_from_slice.result c.from_residual-in_err-extend_from_slice.ensures.1 in
    let D = g.D.Device in
    let barrier = c.in_ok-barrier.ensures in
    rw p.1
    (λ some none. settled_then D c.args.dev.now c.barrier.new.self c.read_live.new.dev
    (barrier_settles D c.args.dev.now c.barrier.new.self c.in_ok-barrier.field-0 barrier.calls barrier.kept (barrier.durable some)) c.in_ok-live.ensures.reads)
