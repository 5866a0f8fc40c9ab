use Rattle.bd_device.specs.Moments.{Nothing}
use Rattle.bd_device.proofs.Passes.{passed-time, refused-time}
use Rattle.bd_device.proofs.Refusals.{IfNone-always, OnOk-IfNone-then, OnErr-IfNone-then}
use Rattle.bd_device.proofs.faulty_device.FaultyDeviceAttach.attach.Goals as goal

pub returns-in-Err-clause-behind_time : goal.returns-in-Err-clause-behind_time
returns-in-Err-clause-behind_time g c =
    let old = c.args.self.now in
    IfNone-always c.args.create (
    refused-time g.D.Device.call_count (λ d. g.D.Attach.left_behind d c.args.name.now) old c.pass.new.self old.refused_writes Nothing c.in-Err.ensures.fails c.in-Err.ensures.err)

pub returns-clause-time : goal.returns-clause-time
returns-clause-time g c =
    OnOk-IfNone-then c.attach.result c.args.create c.attach.ensures.time (λ time.
    passed-time g.D.Device.call_count (λ d. g.D.Attach.left_behind d c.args.name.now) c.args.self.now c.pass.new.self (g.D.Device.call_count c.attach.new.self) (g.D.Device.left_since c.attach.new.self) Nothing
    c.in_default.ensures.ok c.in_default.ensures.fails c.attach.ensures.calls.counted time)

pub returns-clause-behind_time : goal.returns-clause-behind_time
returns-clause-behind_time g c =
    OnErr-IfNone-then c.attach.result c.args.create c.attach.ensures.behind_time (λ time.
    passed-time g.D.Device.call_count (λ d. g.D.Attach.left_behind d c.args.name.now) c.args.self.now c.pass.new.self (g.D.Device.call_count c.attach.new.self) (g.D.Attach.left_behind c.attach.new.self c.args.name.now) Nothing
    c.in_default.ensures.ok c.in_default.ensures.fails c.attach.ensures.calls.counted time)
