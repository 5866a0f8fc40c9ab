-- What is found out of a file, and what is planned for it.
use Rattle.std.specs.Prelude.{◌≡◌, ℕ, ◌≤◌, List, length, Option, Some, Result, Ok, Err}
use Rattle.bd_limits.specs.Limits.{file_limit}
use Rattle.bd_command.specs.declared.refusal.Refusal.{Refusal}
use Rattle.bd_model.specs.Tree.{Entry, FileWith}
use Rattle.bd_model.specs.Step.{file_refusal}

-- the length and the mode of the file, or why there is none
abbrev pub IsFileOf : Option Entry → Result (ℕ × ℕ) Refusal → Type 0
IsFileOf entry (Ok found) =
    (bytes : List ℕ) × (entry ≡ Some (FileWith found.1 bytes)) × (found.0 ≡ length bytes)
    × (length bytes ≤ file_limit)
IsFileOf entry (Err refusal) = file_refusal entry ≡ Some refusal
