use Rattle.std.proofs.Common.{◌≡◌, ◌≤◌, length, take, reverse, All}
use Rattle.bd_device.specs.Blocks.{IsBlock}
use Rattle.bd_device.specs.Crash.{torn_blocks}
use Rattle.bd_device.proofs.mem_device.tear.Given as goal

abbrev pub invariant-loop-left : goal.invariant-loop-left
invariant-loop-left l = record {
  torn : torn_blocks l.how l.barrier (reverse (take l.left l.writes)) l.blocks ≡ torn_blocks l.how l.fn.barrier (reverse l.writes) l.fn.blocks;
  kept : length l.blocks ≡ length l.fn.blocks;
  whole : All IsBlock l.blocks;
  within : l.left ≤ length l.writes;
}

abbrev pub decreases-loop-left : goal.decreases-loop-left
decreases-loop-left l = l.left
