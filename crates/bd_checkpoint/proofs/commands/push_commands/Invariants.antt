use Rattle.std.proofs.Common.{◌≡◌, ◌++◌, drop}
use Rattle.std.specs.Prelude.{All}
use Rattle.bd_super.specs.Superblocks.{version_number}
use Rattle.bd_checkpoint.specs.Commands.{IsPlacedIn, records_for, placed_in}
use Rattle.bd_checkpoint.proofs.commands.push_commands.Given as goal

-- the records of the commands so far, and those to come
abbrev pub invariant-loop-bytes : goal.invariant-loop-bytes
invariant-loop-bytes l = record {
  each : All (IsPlacedIn (version_number l.version)) l.list.items;
  same : records_for l.list.items ++ placed_in l.block (drop l.bytes-index l.records) ≡ records_for l.fn.list.items ++ placed_in l.block l.records;
}
