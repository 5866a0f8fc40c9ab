-- Lists of keys with their values.
use Rattle.std.specs.Prelude.{◌≡◌, ℕ, ◌⊎◌, not, if◌then◌else◌, List, ◌++◌, Option, None, Some}
use Rattle.std.specs.List.{filter}
use Rattle.std.specs.FinMap.{find}
use Rattle.bd_keys.specs.Keys.{key_cmp, IsAtLeast, IsBelow}
use Rattle.bd_message.specs.declared.message.Message.{Message}
use Rattle.bd_message.specs.Effect.{begins, rest, same_key, acts, no_nodes}

-- what the first entry of a key says
abbrev pub entry_at : List (List ℕ × List ℕ) → List ℕ → Option (List ℕ)
entry_at entries k = find key_cmp k entries

-- the entries of other keys
abbrev pub others : List ℕ → List (List ℕ × List ℕ) → List (List ℕ × List ℕ)
others key entries = filter (λ e. not (same_key e.0 key)) entries

-- the new entries say of each key what messages make of what the old ones say
abbrev pub IsActed : List (List ℕ × List ℕ) → List Message → List (List ℕ × List ℕ) → Type 0
IsActed old list new = (k : List ℕ) → entry_at new k ≡ acts no_nodes list k (entry_at old k)

-- a key that begins with `s`, after `d` in its place, with its value
abbrev pub moved_entry : List ℕ → List ℕ → List ℕ × List ℕ → Option (List ℕ × List ℕ)
moved_entry s d e = if begins e.0 s then Some (d ++ rest s e.0, e.1) else None

-- the lesser of two keys, or the second where there is no first
abbrev pub IsLesser : Option (List ℕ) → List ℕ → List ℕ → Type 0
IsLesser None key lesser = lesser ≡ key
IsLesser (Some least) key lesser =
    (IsAtLeast key least × (lesser ≡ least)) ⊎ (IsBelow key least × (lesser ≡ key))
