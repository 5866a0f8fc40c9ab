use Rattle.std.proofs.Common.{◌≡◌, ℕ, ap, sym, subst, ◌∙◌}
use Rattle.bd_device.specs.Blocks.{Image, ChangesOnly}
use Rattle.bd_device.specs.declared.faulty_device.FaultyDevice.{FaultyDevice}
use Rattle.bd_device.specs.Fuse.{unless_detached, with_refused}
use Rattle.bd_device.specs.Moments.{TornAt}
use Rattle.bd_device.specs.Faulty.{through}
use Rattle.bd_device.proofs.Images.{OnErr-always}
use Rattle.bd_device.proofs.Moments.{within}
use Rattle.bd_device.proofs.Passes.{passed-time, through-now}
use Rattle.bd_device.proofs.Refusals.{ChangesOnly-refused}
use Rattle.bd_device.proofs.faulty_device.FaultyDeviceDevice.write.Goals as goal

pub returns-in_err-pass_writing-clause-others : goal.returns-in_err-pass_writing-clause-others
returns-in_err-pass_writing-clause-others g c =
    let old = c.args.self.now in
    OnErr-always c.from_residual.result
    (subst (λ (m : FaultyDevice g.row.D.Denot). ChangesOnly c.args.b (unless_detached old.detached (g.D.Device.contents old.inner)) (unless_detached m.detached (g.D.Device.contents m.inner))) (sym c.in_err-pass_writing.ensures.err)
    (ChangesOnly-refused (g.D.Device.block_count old.inner) c.args.b old.detached (g.D.Device.contents old.inner) c.requires c.blocks-2.ensures.shape))

pub returns-clause-time : goal.returns-clause-time
returns-clause-time g c =
    let old = c.args.self.now in
    let mid = c.pass_writing.new.self in
    let calls : ℕ = with_refused (g.D.Device.call_count old.inner) old.refused in
    let now : g.D.Device.left_since mid.inner (g.D.Device.call_count mid.inner) ≡ through old.fail.items (g.D.Device.call_count old.inner) calls (g.D.Device.left_since old.inner) calls =
    ap (λ (m : FaultyDevice g.row.D.Denot). g.D.Device.left_since m.inner (g.D.Device.call_count m.inner)) c.in_ok-pass_writing.ensures.ok
    ∙ sym (through-now old.fail.items (g.D.Device.call_count old.inner) calls (g.D.Device.left_since old.inner)) in
    within _ _
    (passed-time g.D.Device.call_count g.D.Device.left_since old mid (g.D.Device.call_count c.write.new.self) (g.D.Device.left_since c.write.new.self) _
    c.in_ok-pass_writing.ensures.ok c.in_ok-pass_writing.ensures.fails c.write.ensures.calls.counted c.write.ensures.time)
    (λ image torn. subst (λ (left : Image → Type 0). TornAt c.args.b left image) now torn)
