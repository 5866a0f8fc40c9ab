use Rattle.std.proofs.Common.{◌≡◌, ◌++◌, drop}
use Rattle.std.specs.Prelude.{All}
use Rattle.bd_super.specs.Superblocks.{version_number}
use Rattle.bd_image.specs.Damage.{placed_records}
use Rattle.bd_checkpoint.specs.Commands.{IsPlacedIn, records_for}
use Rattle.bd_checkpoint.proofs.commands.commands_of.Given as goal

-- the records of the commands so far, and those to come
abbrev pub invariant-loop-batch : goal.invariant-loop-batch
invariant-loop-batch l = record {
  each : All (IsPlacedIn (version_number l.version)) l.list.items;
  same : records_for l.list.items ++ placed_records (drop l.batch-index l.batches) ≡ placed_records l.batches;
}
