use Rattle.std.proofs.Common.{arith, length-append}
use Rattle.std.proofs.lemmas.List.{get_or-replicate}
use Rattle.std.proofs.lemmas.List.Elements.{All-push}
use Rattle.bd_device.specs.Blocks.{IsBlock}
use Rattle.bd_device.specs.Memory.{IsZero}
use Rattle.bd_device.proofs.Images.{IsBlock-zero}
use Rattle.bd_device.proofs.mem_device.zero_blocks.Goals as goal

pub loop-blocks-preserved : goal.loop-blocks-preserved
loop-blocks-preserved c = record {
  zero = rw c.in_ok-push.ensures.items (All-push IsZero _ _ c.loop-blocks.invariant.zero (λ i lt. get_or-replicate 4096 i 0 0 lt));
  whole = rw c.in_ok-push.ensures.items (All-push IsBlock _ _ c.loop-blocks.invariant.whole IsBlock-zero);
  room = rw (c.in_ok-push.ensures.items, length-append) (omega arith);
}
