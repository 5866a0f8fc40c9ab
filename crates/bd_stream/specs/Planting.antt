-- What the commands of a stream make of a tree.
use Rattle.std.specs.Prelude.{◌≡◌, true, false, List, [], ◌∷◌, ◌++◌}
use Rattle.std.specs.List.{flat_map}
use Rattle.std.specs.FinMap.{get}
use Rattle.std.specs.declared.option.Option.TheVariants.{None}
use Rattle.bd_names.specs.Names.{is_under}
use Rattle.bd_command.specs.declared.Command.{Command}
use Rattle.bd_model.specs.Tree.{Path, Name, Tree, has_directory}
use Rattle.bd_model.specs.Laws.{Accepts, after}
use Rattle.bd_stream.specs.Streams.{entries_at, entry_commands}

-- the tree after commands, one after the other
abbrev pub after_all : Tree → List Command → Tree
after_all t [] = t
after_all t (c ∷ cs) = after_all (after t c) cs

-- each of them is accepted
abbrev pub AreAccepted : Tree → List Command → Type 0
AreAccepted t [] = Unit {0}
AreAccepted t (c ∷ cs) = Accepts t c × AreAccepted (after t c) cs

-- nothing is at a path, and it stands in a directory
pub record IsFree (t : Tree) (path : Path) : Type 0 where
  pub free : get t path ≡ None
  pub around : Path
  pub name : Name
  pub is : path ≡ around ++ name ∷ []
  pub directory : has_directory (get t around) ≡ true

-- what stands at a path of a tree and below it came to a path of another one, where all else stayed
pub record IsPlanted (t : Tree) (top : Path) (old new : Tree) (target : Path) : Type 0 where
  pub planted : (rest : Path) → get new (target ++ rest) ≡ get t (top ++ rest)
  pub beside : (q : Path) → is_under target q ≡ false → get new q ≡ get old q

-- the commands that make the subtree of a tree at a path
abbrev pub planting : Tree → Path → Path → List Command
planting t top target = flat_map (entry_commands target) (entries_at t top)
