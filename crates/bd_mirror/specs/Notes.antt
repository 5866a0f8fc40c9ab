-- What a history notes of a call, and the name of the last attach in it.
use Rattle.std.specs.Prelude.{ℕ, List, [], ◌∷◌, Option, None, Some}
use Rattle.bd_mirror.specs.declared.history.Call.{Call}
use Rattle.bd_mirror.specs.declared.history.Call.TheVariants.{Other, Attach}

-- of an attach its name, and how many blocks it made; nothing of another call
abbrev pub Note : Type 0
Note = Option (List ℕ × Option ℕ)

abbrev pub note_of : Call → Note
note_of Other = None
note_of (Attach name create) = Some (name.now, create)

-- the name in a note, or else the one before
abbrev pub name_in : Note → Option (List ℕ) → Option (List ℕ)
name_in None before = before
name_in (Some attach) before = Some attach.0

-- the name of the last attach
abbrev pub last_name : {A B : Type 0} → List (Note × A × B) → Option (List ℕ)
last_name [] = None
last_name (m ∷ ms) = name_in m.0 (last_name ms)
