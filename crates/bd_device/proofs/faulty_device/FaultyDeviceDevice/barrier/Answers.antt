use Rattle.std.proofs.Common.{◌<◌, if◌then◌else◌, sym, subst}
use Rattle.bd_device.specs.declared.faulty_device.FaultyDevice.{FaultyDevice}
use Rattle.bd_device.specs.Fuse.{with_refused}
use Rattle.bd_device.specs.Moments.{Nothing}
use Rattle.bd_device.proofs.Passes.{passed-time, refused-time, settled-through}
use Rattle.bd_device.proofs.Refusals.{OnOk-then}
use Rattle.bd_device.proofs.faulty_device.FaultyDeviceDevice.barrier.Goals as goal

pub returns-in_err-pass_writing-clause-time : goal.returns-in_err-pass_writing-clause-time
returns-in_err-pass_writing-clause-time g c =
    refused-time g.D.Device.call_count g.D.Device.left_since c.args.self.now c.pass_writing.new.self _ Nothing c.in_err-pass_writing.ensures.fails c.in_err-pass_writing.ensures.err

pub returns-clause-time : goal.returns-clause-time
returns-clause-time g c =
    passed-time g.D.Device.call_count g.D.Device.left_since c.args.self.now c.pass_writing.new.self (g.D.Device.call_count c.barrier.new.self) (g.D.Device.left_since c.barrier.new.self) Nothing
    c.in_ok-pass_writing.ensures.ok c.in_ok-pass_writing.ensures.fails c.barrier.ensures.calls.counted c.barrier.ensures.time

pub returns-clause-durable : goal.returns-clause-durable
returns-clause-durable g c =
    let mid = c.pass_writing.new.self in
    let count = g.D.Device.call_count c.barrier.new.self in
    OnOk-then c.barrier.result c.barrier.ensures.durable (λ only lt.
    settled-through mid.fail.items count (with_refused count mid.refused) (g.D.Device.block_count mid.inner) mid.detached
    (g.D.Device.left_since c.barrier.new.self) (g.D.Device.contents c.barrier.new.self) only
    (subst (λ (m : FaultyDevice g.row.D.Denot). 0 < (if m.detached then 0 else g.D.Device.block_count m.inner)) (sym c.in_ok-pass_writing.ensures.ok) lt))
