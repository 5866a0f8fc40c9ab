use Rattle.std.proofs.Common.{◌≡◌, ◌≤◌}
use Rattle.bd_device.specs.Changes.{StaysBut, IsBeforeBut, IsInRange}
use Rattle.bd_device.specs.Device.{left_now, Goes, OnlyReads, Stays}
use Rattle.bd_mirror.specs.Contents.{IsCopy}
use Rattle.bd_mirror.proofs.copying.copy_blocks.Given as goal

-- so many blocks are copied
abbrev pub invariant-loop-b : goal.invariant-loop-b
invariant-loop-b g l = record {
  reads : OnlyReads g.S.Device l.fn.source l.source;
  faults : g.S.Device.fault_count l.source ≡ g.S.Device.fault_count l.fn.source;
  stays : Stays g.C.Device l.fn.copy l.copy;
  later : g.C.Device.fault_count l.fn.copy ≤ g.C.Device.fault_count l.copy;
  copied : IsCopy l.b (g.S.Device.contents l.fn.source) (g.C.Device.contents l.copy);
  others : StaysBut (IsInRange 0 l.count) (g.C.Device.contents l.fn.copy) (g.C.Device.contents l.copy);
  time : Goes g.C.Device l.fn.copy l.copy (IsBeforeBut (IsInRange 0 l.count) (left_now g.C.Device l.fn.copy));
}
