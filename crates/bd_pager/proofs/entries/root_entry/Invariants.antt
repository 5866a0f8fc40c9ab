use Rattle.std.proofs.Common.{ℕ, ◌<◌, get_or}
use Rattle.bd_table.specs.Tables.{IsRoot}
use Rattle.bd_table.specs.declared.table.TableEntry.{TableEntry}
use Rattle.bd_pager.proofs.entries.root_entry.Given as goal

-- none before it is the root's
abbrev pub invariant-loop-entry : goal.invariant-loop-entry
invariant-loop-entry l = (k : ℕ) (d : TableEntry) → k < l.entry-index → ¬ IsRoot l.root (get_or l.entries k d)
