use Rattle.std.proofs.Common.{◌∙◌, [], ap, sym}
use Rattle.bd_device.proofs.Images.{OnErr-always}
use Rattle.bd_mirror.specs.Writing.{contents_after}
use Rattle.bd_mirror.proofs.Marks.{OnErr-then, after_barrier}
use Rattle.bd_mirror.proofs.writing.WritingCall.make.Goals as goal

pub returns-in-Write-clause-others : goal.returns-in-Write-clause-others
returns-in-Write-clause-others g c =
    OnErr-then c.write.result c.write.ensures.others (λ changed. (
      λ _. changed.0,
      changed.2 ∙ sym (ap (λ call. contents_after call (λ _. changed.0) (g.D.Device.contents c.args.half.now)) c.in-Write.is),
    ))

pub returns-in-Barrier-clause-others : goal.returns-in-Barrier-clause-others
returns-in-Barrier-clause-others g c =
    OnErr-always c.barrier.result (
      λ _. [],
      c.barrier.ensures.kept ∙ sym (after_barrier (λ _. []) (g.D.Device.contents c.args.half.now))
          ∙ sym (ap (λ call. contents_after call (λ _. []) (g.D.Device.contents c.args.half.now)) c.in-Barrier.is),
    )
