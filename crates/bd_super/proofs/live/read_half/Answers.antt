use Rattle.std.proofs.Common.{◌≡◌, Some, None, Option, IfSome, slice_get, sym, subst, ◌∙◌, arith}
use Rattle.bd_device.specs.Blocks.{Image}
use Rattle.bd_super.specs.Superblocks.{IsSuperIn}
use Rattle.bd_super.proofs.Halves.{half_held, half_bad}
use Rattle.bd_super.proofs.live.read_half.Goals as goal

pub returns-then-image_blocks-blocks-clause-half : goal.returns-then-image_blocks-blocks-clause-half
returns-then-image_blocks-blocks-clause-half g c =
    let half = c.args.half in
    let first = subst (λ b. IfSome (g.D.Device.contents c.args.dev.now) (λ image. slice_get image b ≡ Some c.in_ok-read_block.field-0)) c.commit_block.ensures c.in_ok-read_block.ensures.bytes in
    let there = subst (λ (contents : Option Image). IfSome contents (λ image. slice_get image c.body_block.result ≡ Some c.in_ok-body.body)) c.read_block.ensures.reads.kept c.in_ok-body.ensures.bytes in
    let second = subst (λ b. IfSome (g.D.Device.contents c.args.dev.now) (λ image. slice_get image b ≡ Some c.in_ok-body.body)) c.body_block.ensures there in
    half_held (g.D.Device.contents c.args.dev.now) half c.in-Some.found c.in_ok-read_block.field-0 c.in_ok-body.body c.args.blocks first second c.requires.shape
    (c.is_committed.ensures.0 c.if-not-is_committed.false) (subst (IsSuperIn half c.in_ok-body.body) c.in-Some.is c.in_ok-found.ensures) (sym c.image_blocks.ensures ∙ c.if-image_blocks-blocks.true)

pub returns-in-None-clause-cause : goal.returns-in-None-clause-cause
returns-in-None-clause-cause g c =
    let half = c.args.half in
    let first = subst (λ b. IfSome (g.D.Device.contents c.args.dev.now) (λ image. slice_get image b ≡ Some c.in_ok-read_block.field-0)) c.commit_block.ensures c.in_ok-read_block.ensures.bytes in
    let there = subst (λ (contents : Option Image). IfSome contents (λ image. slice_get image c.body_block.result ≡ Some c.in_ok-body.body)) c.read_block.ensures.reads.kept c.in_ok-body.ensures.bytes in
    let second = subst (λ b. IfSome (g.D.Device.contents c.args.dev.now) (λ image. slice_get image b ≡ Some c.in_ok-body.body)) c.body_block.ensures there in
    let bad = half_bad (g.D.Device.contents c.args.dev.now) half None c.in_ok-read_block.field-0 c.in_ok-body.body c.args.blocks first second c.requires.shape
    (c.is_committed.ensures.0 c.if-not-is_committed.false) (subst (IsSuperIn half c.in_ok-body.body) c.in-None.is c.in_ok-found.ensures) tt in
    let same = c.in_ok-body.ensures.cause.kept ∙ c.in_ok-read_block.ensures.cause.kept in
    record { later = omega (arith, same); kept = tt; failed = ((c.body_block-in-None.ensures, bad), same) }

pub returns-else-image_blocks-blocks-clause-cause : goal.returns-else-image_blocks-blocks-clause-cause
returns-else-image_blocks-blocks-clause-cause g c =
    let half = c.args.half in
    let first = subst (λ b. IfSome (g.D.Device.contents c.args.dev.now) (λ image. slice_get image b ≡ Some c.in_ok-read_block.field-0)) c.commit_block.ensures c.in_ok-read_block.ensures.bytes in
    let there = subst (λ (contents : Option Image). IfSome contents (λ image. slice_get image c.body_block.result ≡ Some c.in_ok-body.body)) c.read_block.ensures.reads.kept c.in_ok-body.ensures.bytes in
    let second = subst (λ b. IfSome (g.D.Device.contents c.args.dev.now) (λ image. slice_get image b ≡ Some c.in_ok-body.body)) c.body_block.ensures there in
    let bad = half_bad (g.D.Device.contents c.args.dev.now) half (Some c.in-Some.found) c.in_ok-read_block.field-0 c.in_ok-body.body c.args.blocks first second c.requires.shape
    (c.is_committed.ensures.0 c.if-not-is_committed.false) (subst (IsSuperIn half c.in_ok-body.body) c.in-Some.is c.in_ok-found.ensures) (λ e. c.if-image_blocks-blocks.false (c.image_blocks.ensures ∙ e)) in
    let same = c.in_ok-body.ensures.cause.kept ∙ c.in_ok-read_block.ensures.cause.kept in
    record { later = omega (arith, same); kept = tt; failed = ((c.body_block-else-image_blocks-blocks.ensures, bad), same) }
