use Rattle.std.proofs.Common.{◌≡◌, take}
use Rattle.std.specs.List.{AllByRecursion}
use Rattle.bd_keys.specs.Keys.{IsKey}
use Rattle.bd_node.specs.declared.node.Entry.{Entry}
use Rattle.bd_query.proofs.stretch.copied_between.Given as goal

abbrev pub invariant-loop-entry : goal.invariant-loop-entry
invariant-loop-entry l = record {
  copies : l.copies.items ≡ take l.entry-index l.entry-items;
  keys : AllByRecursion (λ (e : Entry). IsKey e.key) l.copies.items;
}
