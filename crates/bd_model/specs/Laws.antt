-- What the laws of the tree speak of.
use Rattle.std.specs.Prelude.{◌≡◌, ℕ, List}
use Rattle.std.specs.FinMap.{get}
use Rattle.std.specs.declared.option.Option.TheVariants.{None, Some}
use Rattle.bd_command.specs.declared.Command.{Command}
use Rattle.bd_model.specs.Tree.{Path, FileWith, Tree}
use Rattle.bd_model.specs.Step.{refusal_of, step}

-- the tree accepts a command
abbrev pub Accepts : Tree → Command → Type 0
Accepts t c = refusal_of t c ≡ None

-- the tree after a command
abbrev pub after : Tree → Command → Tree
after t c = (step t c).0

-- the tree has at a path what it had there before the command
abbrev pub StaysAt : Tree → Command → Path → Type 0
StaysAt t c path = get (after t c) path ≡ get t path

-- the bytes of the file at a path become what is made of them, and its mode stays
abbrev pub ChangesBytes : Tree → Command → Path → (List ℕ → List ℕ) → Type 0
ChangesBytes t c path new =
    (mode : ℕ) × (old : List ℕ) × (get t path ≡ Some (FileWith mode old))
    × (get (after t c) path ≡ Some (FileWith mode (new old)))
