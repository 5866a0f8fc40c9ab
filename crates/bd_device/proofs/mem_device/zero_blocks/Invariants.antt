use Rattle.std.proofs.Common.{◌≤◌, ◌-◌, All, length}
use Rattle.bd_device.specs.Blocks.{IsBlock}
use Rattle.bd_device.specs.Memory.{IsZero}
use Rattle.bd_device.proofs.mem_device.zero_blocks.Given as goal

abbrev pub invariant-loop-blocks : goal.invariant-loop-blocks
invariant-loop-blocks l = record {
  zero : All IsZero l.blocks.items;
  whole : All IsBlock l.blocks.items;
  room : length l.blocks.items ≤ l.count;
}

abbrev pub decreases-loop-blocks : goal.decreases-loop-blocks
decreases-loop-blocks l = l.count - length l.blocks.items
