-- What reads of counted nodes leave, and what holds where the nodes are sound.
use Rattle.std.specs.Prelude.{ℕ, List}
use Rattle.std.specs.HashMap.{HashMap}
use Rattle.bd_node.specs.declared.node.Step.{Step}
use Rattle.bd_node.specs.Stores.{OnlyReadsBy}
use Rattle.bd_node.specs.Tables.{IsSound}
use Rattle.bd_counts.specs.declared.counted.Counted.{Ghosts}
use Rattle.bd_counts.specs.Counting.{overlaid}
use Rattle.bd_counts.specs.Reading.{IsReadBy, FallsBelow, IsAccounted}

-- only what reads may change has changed
abbrev pub OnlyReads : {S : Type 0} → Ghosts S → S → S → Type 0
OnlyReads g old new = OnlyReadsBy g.is_known g.nodes g.table g.reads g.loans old new

-- what holds where the nodes are known and sound
abbrev pub OfSound : {S : Type 0} → Ghosts S → S → Type 0 → Type 0
OfSound g s P = g.is_known s → IsSound (g.nodes s) (g.table s) → P

-- the counts of a table, and where it has none those that are kept
abbrev pub counts_over : {S Z : Type 0} → Ghosts S → S → HashMap ℕ ℕ Z → ℕ → ℕ
counts_over g s table = overlaid (g.table s).count table

-- the block is bad for a node that the step reads, where the nodes are known
abbrev pub IsBadFor : {S : Type 0} → Ghosts S → S → Step → S → ℕ → Type 0
IsBadFor g old step new block = g.is_known old
    → (id : ℕ) × IsReadBy (g.nodes old) (g.table old) step id × g.bad new id block

-- a count falls below what the root's pointer counts, where the nodes are known
abbrev pub IsTooLow : {S : Type 0} → Ghosts S → S → Step → Type 0
IsTooLow g s step = g.is_known s → FallsBelow (g.nodes s) (g.table s) step

-- so many names are taken back, and these are owed, where the nodes are known
abbrev pub IsAccount : {S Z : Type 0} → Ghosts S → S → Step → HashMap ℕ ℕ Z → List ℕ → List ℕ
    → Type 0
IsAccount g s step table gone owed = g.is_known s
    → IsAccounted (g.nodes s) (g.table s) step (counts_over g s table) gone owed
