use Rattle.std.proofs.Common.{◌≡◌, take, IfSome}
use Rattle.std.specs.List.{AllByRecursion}
use Rattle.bd_device.specs.Device.{OnlyReads}
use Rattle.bd_tails.specs.Tails.{AreTails}
use Rattle.bd_pager.specs.Damage.{HasGoodNode}
use Rattle.bd_check.specs.Slots.{ids_of}
use Rattle.bd_check.specs.Reading.{Sees}
use Rattle.bd_check.proofs.nodes.read_nodes.Given as goal

-- the slots of the entries so far have good nodes, which were seen
abbrev pub invariant-loop-entry : goal.invariant-loop-entry
invariant-loop-entry g l = record {
  good : IfSome (g.D.Device.contents l.initial.dev) (λ image. AllByRecursion (HasGoodNode image l.entries) (take l.entry-index l.entries));
  seen : Sees (g.D.Device.contents l.initial.dev) l.fn.table (ids_of (take l.entry-index l.entries)) l.owed;
  tails : AreTails (g.D.Device.contents l.dev) l.tails;
  faults : g.D.Device.fault_count l.dev ≡ g.D.Device.fault_count l.initial.dev;
  reads : OnlyReads g.D.Device l.initial.dev l.dev;
}
