use Rattle.std.proofs.Common.{ℕ, List, Option, subst}
use Rattle.bd_device.specs.Blocks.{Image}
use Rattle.bd_device.specs.Device.{left_now}
use Rattle.bd_device.specs.Moments.{Nothing}
use Rattle.bd_device.proofs.Calls.{reads_then}
use Rattle.bd_device.proofs.Moments.{after}
use Rattle.bd_pager.specs.Opened.{IsBadStart}
use Rattle.bd_checkpoint.specs.Recovering.{IsFoundIn}
use Rattle.bd_checkpoint.proofs.Causes.{settled_then, only_then, cause_on, bad_start}
use Rattle.bd_checkpoint.proofs.recovering.open_start.Goals as goal

pub returns-in-Err-open-clause-cause : goal.returns-in-Err-open-clause-cause
returns-in-Err-open-clause-cause g c =
    let D = g.D.Device in
    let old = c.args.dev in
    let mid = c.read_start.new.dev in
    let live = c.in-Ok.start.0 in
    let at = c.in-Ok.start.1.items in
    let new = c.in-Err-open.refused.device in
    cause_on D old mid new (IsBadStart (D.contents mid) live.slots at) (IsFoundIn (D.contents old)) c.in-Err-open.refused.fault c.in-Ok.ensures.cause.kept
    (λ b bad.
    bad_start (D.contents old) live c.in-Ok.ensures.live b
    (subst (λ (l : List ℕ). IsBadStart (D.contents old) live.slots l b) c.in-Ok.ensures.table (subst (λ (o : Option Image). IsBadStart o live.slots at b) c.in-Ok.ensures.reads.kept bad)))
    c.in-Err-open.ensures.cause

pub returns-clause-only : goal.returns-clause-only
returns-clause-only g c =
    let D = g.D.Device in
    let mid = c.read_start.new.dev in
    let new = c.in-Ok-open.pager.dev in
    let reads = c.in-Ok-open.ensures.reads in
    only_then (D.contents mid) (D.contents new) (left_now D mid) (left_now D new) reads.kept
    (after Nothing (left_now D mid) reads.time (g.met.D.Device.since_earlier new) (λ image is. is) (λ image none. absurd none)) c.in-Ok.ensures.only

pub returns-clause-reads : goal.returns-clause-reads
returns-clause-reads g c = reads_then c.in-Ok.ensures.reads c.in-Ok-open.ensures.reads

pub returns-in-Err-open-clause-settles : goal.returns-in-Err-open-clause-settles
returns-in-Err-open-clause-settles g c = λ some none. settled_then g.D.Device c.args.dev c.read_start.new.dev c.in-Err-open.refused.device c.in-Ok.ensures.settled c.in-Err-open.ensures.left

pub returns-clause-settled : goal.returns-clause-settled
returns-clause-settled g c = settled_then g.D.Device c.args.dev c.read_start.new.dev c.in-Ok-open.pager.dev c.in-Ok.ensures.settled c.in-Ok-open.ensures.reads
