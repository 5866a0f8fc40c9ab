-- The entries of a table by their ids.
use Rattle.std.specs.Prelude.{◌==◌, ℕ, List, Option}
use Rattle.std.specs.List.{find}
use Rattle.std.specs.Option.{option_map}
use Rattle.bd_table.specs.declared.table.TableEntry.{TableEntry}

-- the entry of an id
abbrev pub entry_of : List TableEntry → ℕ → Option TableEntry
entry_of entries id = find (λ e. e.id == id) entries

-- the level of its node
abbrev pub level_at : List TableEntry → ℕ → Option ℕ
level_at entries id = option_map (λ e. e.level) (entry_of entries id)
