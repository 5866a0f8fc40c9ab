use Rattle.std.proofs.Common.{arith, inl, inr, subst}
use Rattle.std.specs.Prelude.{IfSome}
use Rattle.bd_device.specs.Changes.{bytes_at}
use Rattle.bd_log.specs.Reading.{IsBodyOf}
use Rattle.bd_log.proofs.Bodies.{none_named, none_decoded}
use Rattle.bd_log.proofs.read.read_body.Goals as goal
use Rattle.bd_log.proofs.read.read_body.Goals.{then-blocks-eq0-via-then-blocks-eq0, then-blocks-eq0-via-else-blocks-eq0+then-blocks-most}

pub returns-then-blocks-eq0-clause-body : goal.returns-then-blocks-eq0-clause-body
returns-then-blocks-eq0-clause-body g c =
    none_named (g.D.Device.contents c.args.dev.now) c.args.b c.args.most c.args.epoch c.named_blocks-blocks.result c.in_ok-block.block c.in_ok-block.ensures.bytes c.in_ok-block.ensures.size c.requires.few (omega arith)
    c.named_blocks-blocks.ensures
    (elim c.then-blocks-eq0.branch [ then-blocks-eq0-via-then-blocks-eq0 w ↦ inl w.if-blocks-eq0.true | then-blocks-eq0-via-else-blocks-eq0+then-blocks-most w ↦ inr w.if-blocks-most.true ])

pub returns-in-None-clause-body : goal.returns-in-None-clause-body
returns-in-None-clause-body g c =
    let none = subst (λ found. IfSome (g.D.Device.contents c.read_block.new.dev) (λ image. IsBodyOf (bytes_at image c.args.b c.named_blocks-blocks.result) c.args.epoch found)) c.in-None.is c.in_ok-records.ensures.body in
    none_decoded (g.D.Device.contents c.args.dev.now) (g.D.Device.contents c.read_block.new.dev) c.args.b c.args.most c.args.epoch c.named_blocks-blocks.result c.in_ok-block.block
    c.read_block.ensures.reads.kept c.in_ok-block.ensures.bytes c.in_ok-block.ensures.size c.requires.few (omega arith) c.named_blocks-blocks.ensures none
