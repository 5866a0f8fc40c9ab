-- How what was read of a line, or of a word, stands to its meaning.
use Rattle.std.specs.Prelude.{◌≡◌, ◌⊎◌, ◌<◌, ℕ, false, List, length, map, IsTrue, is_ok, IfOk}
use Rattle.std.specs.List.{list_any}
use Rattle.std.specs.Borrow.{Bor}
use Rattle.std.specs.declared.result.Result.{Result}
use Rattle.std.specs.declared.result.Result.TheVariants.{Ok, Err}
use Rattle.bd_command.specs.Command.{IsShortPath}
use Rattle.bd_command.specs.declared.refusal.Refusal.{Refusal}
use Rattle.bd_command.specs.declared.refusal.Refusal.TheVariants as refusal
use Rattle.bd_names.specs.declared.fault.PathFault.{PathFault}
use Rattle.bd_names.specs.declared.fault.PathFault.TheVariants as path_fault
use Rattle.bd_script.specs.Lines.{Path, PathPair, LineMeaning, IsLine, is_empty}
use Rattle.bd_script.specs.declared.line.Line.{Line}
use Rattle.bd_script.specs.declared.line.LineFault.{LineFault}
use Rattle.bd_script.specs.declared.line.LineFault.TheVariants.{BadLine, BadPath, NoMemory}

-- the bytes of words that lie in a line
abbrev pub texts : List (Bor (List ℕ)) → List (List ℕ)
texts words = map (λ word. word.now) words

-- the most words of a line
abbrev pub word_limit : ℕ
word_limit = 4

-- a line isn't cut into these words, since one of them is empty, or they are too many
abbrev pub AreUncut : List (List ℕ) → Type 0
AreUncut words = IsTrue (list_any is_empty words) ⊎ (word_limit < length words)

-- it is cut into these, none of which is empty
abbrev pub IsCutInto : List (List ℕ) → List (List ℕ) → Type 0
IsCutInto words cut = (cut ≡ words) × (list_any is_empty words ≡ false)

-- something is read as what its words mean; only what isn't refused can be short of memory
abbrev pub IsReadAs : {A : Type 0} → Result A LineFault → Result A Refusal → Type 0
IsReadAs (Ok read) meaning = meaning ≡ Ok read
IsReadAs (Err BadLine) meaning = meaning ≡ Err refusal.BadLine
IsReadAs (Err BadPath) meaning = meaning ≡ Err refusal.BadPath
IsReadAs (Err NoMemory) meaning = IsTrue (is_ok meaning)

-- a line is read as what it means, and within its limits
abbrev pub IsRead : Result Line LineFault → LineMeaning → Type 0
IsRead result meaning = IsReadAs result meaning × IfOk result IsLine

-- the same of a path
abbrev pub IsPathRead : Result Path LineFault → Result Path Refusal → Type 0
IsPathRead result meaning = IsReadAs result meaning × IfOk result IsShortPath

-- both paths are within their limits
abbrev pub AreShortPaths : PathPair → Type 0
AreShortPaths paths = IsShortPath paths.0 × IsShortPath paths.1

-- the same of two paths
abbrev pub ArePathsRead : Result PathPair LineFault → Result PathPair Refusal → Type 0
ArePathsRead result meaning = IsReadAs result meaning × IfOk result AreShortPaths

-- what a fault of a path is for its line
abbrev pub line_fault : PathFault → LineFault
line_fault path_fault.BadPath = BadPath
line_fault path_fault.NoMemory = NoMemory
