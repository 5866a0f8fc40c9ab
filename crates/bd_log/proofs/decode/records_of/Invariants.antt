use Rattle.std.proofs.Common.{◌≡◌, ◌++◌, length}
use Rattle.std.specs.List.{concat, AllByRecursion}
use Rattle.bd_log.specs.Batches.{IsLogRecord}
use Rattle.bd_log.proofs.decode.records_of.Given as goal

-- so many records are read so far
abbrev pub invariant-loop-i : goal.invariant-loop-i
invariant-loop-i l = record {
  read : l.bytes ≡ concat l.records.items ++ l.cursor.left;
  many : length l.records.items ≡ l._i;
  each : AllByRecursion IsLogRecord l.records.items;
}
