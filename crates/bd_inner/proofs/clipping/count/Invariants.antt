use Rattle.std.proofs.Common.{◌≡◌, ◌≤◌, take}
use Rattle.std.specs.Prelude.{count_by}
use Rattle.std.specs.Option.{is_some}
use Rattle.bd_inner.proofs.clipping.count.Given as goal

abbrev pub invariant-loop-part : goal.invariant-loop-part
invariant-loop-part l = record {
  value : l.found ≡ count_by is_some (take l.part-index l.parts);
  few : l.found ≤ l.part-index;
}
