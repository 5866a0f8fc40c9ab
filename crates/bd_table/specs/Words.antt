-- The encoding of a table in words of eight bytes.
use Rattle.std.specs.Prelude.{◌*◌, ◌++◌, ℕ, List, [], ◌∷◌, length, take, drop, slice_index_or}
use Rattle.std.specs.Int.{w32, w64}
use Rattle.std.specs.List.{flat_map}
use Rattle.bd_limits.specs.Limits.{block_size}
use Rattle.bd_wire.specs.Numbers.{be}
use Rattle.bd_wire.specs.Text.{zeros}
use Rattle.bd_table.specs.Tables.{table_magic, table_bytes}
use Rattle.bd_table.specs.declared.table.Table.{Table}
use Rattle.bd_table.specs.declared.table.TableEntry.{TableEntry}

-- the bytes of a word
abbrev pub word_size : ℕ
word_size = 8

-- an entry's words: its id, its references, and its slot and its level
abbrev pub entry_words : TableEntry → List (List ℕ)
entry_words e = be w64 e.id ∷ be w64 e.refs ∷ (be w32 e.slot ++ be w32 e.level) ∷ []

-- one of the words of the entries, and zeros after the last
abbrev pub entry_word : List TableEntry → ℕ → List ℕ
entry_word entries index = slice_index_or (flat_map entry_words entries) index (zeros word_size)

-- a table's words
abbrev pub words : Table → List (List ℕ)
words t = table_magic ∷ be w64 (length t.entries) ∷ be w64 t.next_id ∷ be w64 t.root
    ∷ flat_map entry_words t.entries

-- one of them, and zeros after the last
abbrev pub word_at : Table → ℕ → List ℕ
word_at t index = slice_index_or (words t) index (zeros word_size)

-- the k-th block of a table's encoding
abbrev pub part : ℕ → Table → ℕ → List ℕ
part taken t k = take block_size (drop (block_size * k) (table_bytes taken t))
