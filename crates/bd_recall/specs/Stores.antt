-- Where the bytes of a finding lie.
use Rattle.std.specs.Prelude.{ℕ, ◌≤◌, List, take, ⊤}
use Rattle.bd_recall.specs.declared.packed.Store.{Store}
use Rattle.bd_recall.specs.declared.packed.Store.TheVariants.{Near, Far}

-- the bytes
abbrev pub stored_bytes : Store → List ℕ
stored_bytes (Near len bytes) = take len bytes
stored_bytes (Far bytes) = bytes.items

-- those in place are at most 31
abbrev pub IsStored : Store → Type 0
IsStored (Near len bytes) = len ≤ 31
IsStored (Far bytes) = ⊤
