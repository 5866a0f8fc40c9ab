-- What is planned for a file.
use Rattle.std.specs.Prelude.{◌≡◌, ℕ, List, length, Some, None, ⊤}
use Rattle.std.specs.FinMap.{get}
use Rattle.bd_command.specs.declared.Command.{Command}
use Rattle.bd_model.specs.Tree.{Tree}
use Rattle.bd_model.specs.Step.{refusal_of, changed, file_bytes}
use Rattle.bd_message.specs.declared.message.Message.{Message}
use Rattle.bd_message.specs.KeyMaps.{At}
use Rattle.bd_represent.specs.Plans.{IsSmallBatch, Makes}
use Rattle.bd_files.specs.declared.plan.FilePlan.{FilePlan}
use Rattle.bd_files.specs.declared.plan.FilePlan.TheVariants.{Refused, Apply}

-- the refusal of the tree, or these messages, which make the tree after the command
abbrev pub IsFilePlan : List Message → At → Tree → Command → FilePlan → Type 0
IsFilePlan sent at t c (Refused refusal) = refusal_of t c ≡ Some refusal
IsFilePlan sent at t c (Apply list) =
    (refusal_of t c ≡ None) × Makes at list (changed t c) × (list ≡ sent)

-- how many bytes the file at a path has
abbrev pub size_at : Tree → List (List ℕ) → ℕ
size_at t path = length (file_bytes (get t path))

-- messages that are planned can be done wherever there is room
abbrev pub IsReady : FilePlan → Type 0
IsReady (Refused refusal) = ⊤
IsReady (Apply list) = IsSmallBatch list
