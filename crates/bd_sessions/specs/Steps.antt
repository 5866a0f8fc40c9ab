-- Commands that move or remove what stands at a path, by the names of their paths.
use Rattle.std.specs.declared.option.Option.{Option}
use Rattle.std.specs.declared.option.Option.TheVariants.{None, Some}
use Rattle.bd_names.specs.Names.{rest_below}
use Rattle.bd_command.specs.declared.Command.{Command}
use Rattle.bd_command.specs.declared.Command.TheVariants.{Mkdir, Create, Write, Truncate, Remove, Rename, Clone, Chmod, Read, Stat, List as Ls}
use Rattle.bd_model.specs.Tree.{Path}
use Rattle.bd_sessions.specs.declared.handle.Handle.{Handle}
use Rattle.bd_sessions.specs.declared.handle.Handle.TheVariants.{Free, At, Gone}
use Rattle.bd_sessions.specs.declared.step.Step.{Step}
use Rattle.bd_sessions.specs.declared.step.Step.TheVariants.{Removes, Renames}
use Rattle.bd_sessions.specs.Following.{kept_path, moved_path}
use Rattle.bd_sessions.specs.Handles.{handle_of}

-- the step of a command, where it moves or removes something
abbrev pub step_of : Command → Option Step
step_of (Mkdir p) = None
step_of (Create p) = None
step_of (Write p off bytes) = None
step_of (Truncate p len) = None
step_of (Remove p) = Some (Removes p)
step_of (Rename a b) = Some (Renames a b)
step_of (Clone a b) = None
step_of (Chmod p mode) = None
step_of (Read p off len) = None
step_of (Stat p) = None
step_of (Ls p after) = None

-- where a path is after a step
abbrev pub path_after : Step → Path → Option Path
path_after (Removes removed) path = kept_path removed path
path_after (Renames source target) path = moved_path target path (rest_below source path)

-- what a number stands for after a step
abbrev pub handle_after : Step → Handle → Handle
handle_after step Free = Free
handle_after step (At path) = handle_of (path_after step path)
handle_after step Gone = Gone
