use Rattle.std.proofs.Common.{◌≡◌, ◌+◌, ◌-◌, ◌*◌, take, drop, ap, ◌∙◌, arith}
use Rattle.bd_device.proofs.blocks.nth_block.Goals as goal

pub returns : goal.returns
returns c =
    let size : c.args.i * 4096 + 4096 - c.args.i * 4096 ≡ 4096 = omega arith in
    c.copy_from_slice.ensures.after ∙ ap (λ n. take n (drop (c.args.i * 4096) c.args.bytes.now)) size
