use Rattle.std.proofs.Common.{◌≡◌, ◌≤◌, ◌-◌, ◌++◌, length, take}
use Rattle.std.specs.List.{AllByRecursion}
use Rattle.bd_keys.specs.Keys.{IsBelow}
use Rattle.bd_node.specs.declared.node.Entry.{Entry}
use Rattle.bd_leaf.proofs.merging.copy_below.Given as goal

-- the first entries are copied, and all so far are below the key
abbrev pub invariant-loop-place : goal.invariant-loop-place
invariant-loop-place l =
    record {
      within : l.place ≤ length l.rest;
      items : l.new.items ≡ l.fn.new.items ++ take l.place l.rest;
      below : AllByRecursion (λ (e : Entry). IsBelow e.key l.key) l.new.items;
    }

abbrev pub decreases-loop-place : goal.decreases-loop-place
decreases-loop-place l = length l.rest - l.place
