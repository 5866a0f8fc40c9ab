-- Where what stands at a path is after commands that were accepted.
use Rattle.std.specs.Prelude.{List, [], ◌∷◌, ◌++◌, if◌then◌else◌}
use Rattle.std.specs.Option.{option_and_then}
use Rattle.std.specs.declared.option.Option.{Option}
use Rattle.std.specs.declared.option.Option.TheVariants.{None, Some}
use Rattle.bd_names.specs.Names.{rest_below, is_under}
use Rattle.bd_command.specs.declared.Command.{Command}
use Rattle.bd_command.specs.declared.Command.TheVariants.{Mkdir, Create, Write, Truncate, Remove, Rename, Clone, Chmod, Read, Stat, List as Ls}
use Rattle.bd_model.specs.Tree.{Path}

-- where a path is once what was at a path or below it is removed: nowhere, or where it was
abbrev pub kept_path : Path → Path → Option Path
kept_path removed path = if is_under removed path then None else Some path

-- where a path is once what was at or below another one, here `rest` below it, came to `target`
abbrev pub moved_path : Path → Path → Option Path → Option Path
moved_path target path None = kept_path target path
moved_path target path (Some rest) = Some (target ++ rest)

-- where a path is after a command that was accepted
abbrev pub followed : Command → Path → Option Path
followed (Mkdir p) path = Some path
followed (Create p) path = Some path
followed (Write p off bytes) path = Some path
followed (Truncate p len) path = Some path
followed (Remove p) path = kept_path p path
followed (Rename a b) path = moved_path b path (rest_below a path)
followed (Clone a b) path = Some path
followed (Chmod p mode) path = Some path
followed (Read p off len) path = Some path
followed (Stat p) path = Some path
followed (Ls p after) path = Some path

-- where a path is after commands that were accepted, one after the other; once gone it stays so
abbrev pub follow : Path → List Command → Option Path
follow path [] = Some path
follow path (c ∷ cs) = option_and_then (λ p. follow p cs) (followed c path)
