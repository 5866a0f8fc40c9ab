-- Tables of nodes, and their encoding.
use Rattle.std.specs.Prelude.{◌≡◌, ◌≢◌, ◌-◌, ◌*◌, ◌^◌, ◌<◌, ◌≤◌, ◌↔◌, ℕ, Bool, List, [], ◌∷◌, ◌++◌, length, map, Option, Some, None, All, AllPairs, Any}
use Rattle.std.specs.Int.{w32, w64}
use Rattle.std.specs.List.{flat_map}
use Rattle.bd_limits.specs.Limits.{level_limit, slot_limit, slot_size}
use Rattle.bd_slots.specs.Layout.{AreSlots, table_size, table_length}
use Rattle.bd_slots.specs.Slots.{IsFree}
use Rattle.bd_wire.specs.Numbers.{be}
use Rattle.bd_wire.specs.Text.{zeros}
use Rattle.bd_table.specs.declared.table.Table.{Table}
use Rattle.bd_table.specs.declared.table.TableEntry.{TableEntry}

-- a node has an id, is named at least once, and has a level up to 1,000
pub record IsTableEntry (e : TableEntry) : Type 0 where
  pub id : 1 ≤ e.id
  pub last_id : e.id < 2 ^ 64
  pub refs : 1 ≤ e.refs
  pub last_refs : e.refs < 2 ^ 64
  pub slot : e.slot < 2 ^ 32
  pub level : e.level ≤ level_limit

-- this node is the root, which isn't a leaf
abbrev pub IsRoot : ℕ → TableEntry → Type 0
IsRoot root e = (e.id ≡ root) × (1 ≤ e.level)

-- the entries, by rising ids below the next one, of 1 to 65,536 nodes, among them the root
pub record AreTableEntries (next_id root : ℕ) (entries : List TableEntry) : Type 0 where
  pub least : 1 ≤ length entries
  pub most : length entries ≤ slot_limit
  pub each : All IsTableEntry entries
  pub rising : AllPairs (λ e o. e.id < o.id) entries
  pub below_next : All (λ e. e.id < next_id) entries
  pub has_root : Any (IsRoot root) entries

-- the slot of each node
abbrev pub slots_of : List TableEntry → List ℕ
slots_of entries = map (λ e. e.slot) entries

-- a table that takes the slots `at` of an image of this many slots: its nodes have others, which
-- differ
pub record IsTableAt (slots : ℕ) (at : List ℕ) (t : Table) : Type 0 where
  pub entries : AreTableEntries t.next_id t.root t.entries
  pub last_id : t.next_id < 2 ^ 64
  pub place : table_length (length t.entries) ≡ length at
  pub differ : AreSlots slots (at ++ slots_of t.entries)

-- id, references, slot and level
abbrev pub table_entry : TableEntry → List ℕ
table_entry e = be w64 e.id ++ be w64 e.refs ++ be w32 e.slot ++ be w32 e.level

-- `BDTABLE1`
abbrev pub table_magic : List ℕ
table_magic = 66 ∷ 68 ∷ 84 ∷ 65 ∷ 66 ∷ 76 ∷ 69 ∷ 49 ∷ []

-- the magic, the number of entries, the next id and the root's
abbrev pub table_head : ℕ → ℕ → ℕ → List ℕ
table_head count next_id root = table_magic ++ be w64 count ++ be w64 next_id ++ be w64 root

-- such numbers are as wide as their fields
abbrev pub FitsTableHead : ℕ → ℕ → ℕ → Type 0
FitsTableHead count next_id root = (count < 2 ^ 64) × (next_id < 2 ^ 64) × (root < 2 ^ 64)

abbrev pub FitsTableEntry : TableEntry → Type 0
FitsTableEntry e = (e.id < 2 ^ 64) × (e.refs < 2 ^ 64) × (e.slot < 2 ^ 32) × (e.level < 2 ^ 32)

-- the head, the entries, and zeros to the end of so many slots
abbrev pub table_bytes : ℕ → Table → List ℕ
table_bytes taken t =
    table_head (length t.entries) t.next_id t.root ++ flat_map table_entry t.entries
    ++ zeros (slot_size * taken - table_size (length t.entries))

-- the bytes encode a table that takes the slots `at`, or none
abbrev pub IsTableIn : ℕ → List ℕ → List ℕ → Option Table → Type 0
IsTableIn slots at bytes (Some t) = IsTableAt slots at t × (bytes ≡ table_bytes (length at) t)
IsTableIn slots at bytes None = (t : Table) → IsTableAt slots at t
    → bytes ≢ table_bytes (length at) t

-- of so many slots those are free that aren't taken
pub record AreFreeSlots (slots : ℕ) (taken : List ℕ) (flags : List Bool) : Type 0 where
  pub count : length flags ≡ slots
  pub free : (slot : ℕ) → slot < slots
      → IsFree flags slot ↔ All (λ other. other ≢ slot) taken
