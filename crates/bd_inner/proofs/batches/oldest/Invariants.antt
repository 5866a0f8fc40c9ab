use Rattle.std.proofs.Common.{◌≡◌, ◌≤◌, take}
use Rattle.std.specs.Option.{option_copied}
use Rattle.std.specs.List.{sum_by}
use Rattle.bd_limits.specs.Limits.{batch_limit}
use Rattle.bd_message.specs.Messages.{size}
use Rattle.bd_inner.specs.Batches.{AreParts, IsMoved}
use Rattle.bd_inner.proofs.batches.oldest.Given as goal

abbrev pub invariant-loop-count : goal.invariant-loop-count
invariant-loop-count l = record {
  parts : AreParts l.edge (option_copied l.hi) (take l.count l.list) l.messages.items;
  moved : IsMoved l.edge (option_copied l.hi) (take l.count l.list) l.messages.items;
  size_is : l.size ≡ sum_by size l.messages.items;
  fits : l.size ≤ batch_limit;
}
