use Rattle.std.proofs.Common.{◌≡◌, ◌<◌, ℕ, [], length, IfSome}
use Rattle.std.specs.Prelude.{slice_index_or}
use Rattle.bd_device.specs.Changes.{StaysBut, IsBeforeBut}
use Rattle.bd_device.specs.Device.{left_now, Goes, Stays}
use Rattle.bd_table.specs.Image.{IsOfTable, table_block}
use Rattle.bd_table.specs.Words.{part}
use Rattle.bd_table.proofs.writing.write.Given as goal

abbrev pub invariant-loop-k : goal.invariant-loop-k
invariant-loop-k g l =
    record {
      written : IfSome (g.D.Device.contents l.dev) (λ image. (j : ℕ) → j < l.k → slice_index_or image (table_block l.at j) [] ≡ part (length l.at) l.table j);
      elsewhere : StaysBut (IsOfTable l.at) (g.D.Device.contents l.initial.dev) (g.D.Device.contents l.dev);
      time : Goes g.D.Device l.initial.dev l.dev (IsBeforeBut (IsOfTable l.at) (left_now g.D.Device l.initial.dev));
      faults : g.D.Device.fault_count l.dev ≡ g.D.Device.fault_count l.initial.dev;
      write_faults : g.D.Device.write_fault_count l.dev ≡ g.D.Device.write_fault_count l.initial.dev;
      stays : Stays g.D.Device l.initial.dev l.dev;
    }
