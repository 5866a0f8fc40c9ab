-- What is known of a key on the way down.
use Rattle.std.specs.Prelude.{◌≡◌, ℕ, ◌≤◌, ◌⊎◌, ◌==◌, List, [], ◌∷◌, Option, Some, count_by, ⊤}
use Rattle.std.specs.Option.{unwrap_or}
use Rattle.bd_keys.specs.Edits.{overwritten}
use Rattle.bd_message.specs.Effect.{NodesAt}
use Rattle.bd_node.specs.Tables.{Table, IsLower}
use Rattle.bd_query.specs.declared.patch.Patch.{Patch}
use Rattle.bd_query.specs.declared.part.Base.{Base}
use Rattle.bd_query.specs.declared.part.Base.TheVariants.{Value, Ask}
use Rattle.bd_query.specs.declared.part.Part.{Part}

-- a value after patches, the first one first
abbrev pub patched : List Patch → Option (List ℕ) → Option (List ℕ)
patched [] old = old
patched (p ∷ ps) old = patched ps (Some (overwritten (unwrap_or old []) p.off p.bytes))

-- a value that is known, or what a node has at a key
abbrev pub base_at : NodesAt → Base → Option (List ℕ)
base_at below (Value found) = found
base_at below (Ask child key) = below child key

-- what a node's part says of a key
abbrev pub part_at : NodesAt → Part → Option (List ℕ)
part_at below part = patched part.patches.items (base_at below part.base)

-- a node that is asked is one of these
abbrev pub IsNamedIn : List ℕ → Base → Type 0
IsNamedIn ns (Value found) = ⊤
IsNamedIn ns (Ask child key) = 1 ≤ count_by (λ name. name == child) ns

-- the base is the one before, or asks one of these
abbrev pub IsOldOr : List ℕ → Base → Base → Type 0
IsOldOr ns old new = (new ≡ old) ⊎ IsNamedIn ns new

-- a node that is asked is kept and of a lower level
abbrev pub IsLowerBase : Table → ℕ → Base → Type 0
IsLowerBase t level (Value found) = ⊤
IsLowerBase t level (Ask child key) = IsLower t level child
