-- What the record of a path says of a tree.
use Rattle.std.proofs.Common.{◌≡◌, ℕ, List, sym, ap, ◌∙◌}
use Rattle.std.specs.Prelude.{Option, Some, None, IfSome}
use Rattle.std.specs.Option.{option_map}
use Rattle.std.specs.FinMap.{get}
use Rattle.bd_names.specs.Names.{AreNames}
use Rattle.bd_model.specs.Tree.{Entry, Directory, FileWith, Tree, IsEntry, IsTree}
use Rattle.bd_records.specs.declared.Record.{Record}
use Rattle.bd_records.specs.Records.{IsRecord, IsReadAs}
use Rattle.bd_records.proofs.Lengths.{one_record}
use Rattle.bd_message.specs.KeyMaps.{At}
use Rattle.bd_represent.specs.EntryKeys.{record_key}
use Rattle.bd_represent.specs.Represents.{record_of, record_value, Represents}

-- the record of an entry is one
pub IsRecord-record_of : (e : Entry) → IsEntry e → IsRecord (record_of e)
IsRecord-record_of (Directory mode) h = h
IsRecord-record_of (FileWith mode bytes) h = (h.0, h.2)

read_of : (e : Entry) (value : List ℕ) (read : Option Record) → IsEntry e → value ≡ record_value e → IsReadAs value read → read ≡ Some (record_of e)
read_of e value None entry is none = absurd (none (record_of e) (IsRecord-record_of e entry) is)
read_of e value (Some r) entry is some = ap Some (one_record r (record_of e) some.0 (IsRecord-record_of e entry) (sym some.1 ∙ is))

read_at : (e : Option Entry) (value : List ℕ) (read : Option Record) → IfSome e IsEntry → Some value ≡ option_map record_value e → IsReadAs value read → read ≡ option_map record_of e
read_at None value read entry is reads = cc
read_at (Some e) value read entry is reads = let same : value ≡ record_value e = cc in read_of e value read entry same reads

-- what is read at the key of the record is the record of what the tree has there
pub record-found : (at : At) (t : Tree) (path : List (List ℕ)) (value : List ℕ) (read : Option Record) → AreNames path → IsTree t → Represents at t
    → Some value ≡ at (record_key path) → IsReadAs value read → read ≡ option_map record_of (get t path)
record-found at t path value read names tree r is reads = read_at (get t path) value read (tree.entries path) (is ∙ r.records path names) reads
