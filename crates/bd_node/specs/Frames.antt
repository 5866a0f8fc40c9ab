-- What calls of a store of nodes leave alone, and what holds where its nodes are sound.
use Rattle.bd_node.specs.declared.store.NodeStore.{Ghosts}
use Rattle.bd_node.specs.Stores.{OnlyReadsBy, StaysBy}
use Rattle.bd_node.specs.Tables.{IsSound}

-- only what reads may change has changed
abbrev pub OnlyReads : {S : Type 0} → Ghosts S → S → S → Type 0
OnlyReads g old new = OnlyReadsBy g.is_known g.nodes g.table g.reads g.loans old new

-- what each call leaves, also one that changes nodes
abbrev pub Stays : {S : Type 0} → Ghosts S → S → S → Type 0
Stays g old new = StaysBy g.is_known g.keeps g.loans old new

-- what holds where the nodes are known and sound
abbrev pub OfSound : {S : Type 0} → Ghosts S → S → Type 0 → Type 0
OfSound g s P = g.is_known s → IsSound (g.nodes s) (g.table s) → P
