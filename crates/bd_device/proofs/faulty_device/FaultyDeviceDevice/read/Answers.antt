use Rattle.bd_device.specs.Moments.{Nothing}
use Rattle.bd_device.proofs.Passes.{passed-time, refused-time}
use Rattle.bd_device.proofs.faulty_device.FaultyDeviceDevice.read.Goals as goal

pub returns-in_err-pass-clause-time : goal.returns-in_err-pass-clause-time
returns-in_err-pass-clause-time g c =
    let old = c.args.self.now in
    refused-time g.D.Device.call_count g.D.Device.left_since old c.pass.new.self old.refused_writes Nothing c.in_err-pass.ensures.fails c.in_err-pass.ensures.err

pub returns-clause-time : goal.returns-clause-time
returns-clause-time g c =
    passed-time g.D.Device.call_count g.D.Device.left_since c.args.self.now c.pass.new.self (g.D.Device.call_count c.read.new.self) (g.D.Device.left_since c.read.new.self) Nothing
    c.in_ok-pass.ensures.ok c.in_ok-pass.ensures.fails c.read.ensures.calls.counted c.read.ensures.time
