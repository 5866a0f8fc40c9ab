use Rattle.std.proofs.Common.{ℕ, ◌<◌, get_or}
use Rattle.bd_table.specs.declared.table.TableEntry.{TableEntry}
use Rattle.bd_table.proofs.check.are_rising.Given as goal

abbrev pub invariant-loop-index : goal.invariant-loop-index
invariant-loop-index l =
    (i j : ℕ) (d : TableEntry) → i < j → j < l.index → (get_or l.entries i d).id < (get_or l.entries j d).id
