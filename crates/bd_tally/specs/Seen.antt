-- What the counts of a table's entries are once some nodes were seen, and which entries are wrong.
use Rattle.std.specs.Prelude.{◌≡◌, ◌≢◌, ℕ, ◌+◌, ◌<◌, List, map, All, Contains}
use Rattle.bd_node.specs.Meaning.{Nodes}
use Rattle.bd_node.specs.Tables.{one_if}
use Rattle.bd_table.specs.declared.table.Table.{Table as StoredTable}
use Rattle.bd_table.specs.declared.table.TableEntry.{TableEntry}
use Rattle.bd_tally.specs.Ids.{named_by}
use Rattle.bd_tally.specs.Counts.{first_count, count_after}
use Rattle.bd_tally.specs.declared.count.Count.{Count}

-- how often the nodes of these ids, and the root's pointer, name a node
abbrev pub named_so_far : Nodes → StoredTable → List ℕ → ℕ → ℕ
named_so_far nodes t seen c = named_by nodes seen c + one_if t.root c

-- the counts of a table's entries once the nodes of these ids were seen: those after their names
-- and the root's pointer
abbrev pub HasSeen : Nodes → StoredTable → List ℕ → List Count → Type 0
HasSeen nodes t seen counts =
    counts ≡ map (λ e. count_after (named_so_far nodes t seen e.id) (first_count e)) t.entries

-- each entry's references are how often its node is named
abbrev pub AreRight : (ℕ → ℕ) → List TableEntry → Type 0
AreRight named entries = All (λ e. e.refs ≡ named e.id) entries

-- the least id of an entry whose references aren't
pub record IsLeastWrong (named : ℕ → ℕ) (entries : List TableEntry) (id : ℕ) : Type 0 where
  pub entry : TableEntry
  pub among : Contains entries entry
  pub id_is : entry.id ≡ id
  pub wrong : entry.refs ≢ named entry.id
  pub least : All (λ e. e.id < id → e.refs ≡ named e.id) entries
