-- What a command does to a tree.
use Rattle.std.specs.Prelude.{◌≡◌, Result, IfOk}
use Rattle.std.specs.declared.alloc.AllocError.{AllocError}
use Rattle.bd_command.specs.declared.Command.{Command}
use Rattle.bd_command.specs.declared.reply.Reply.{Reply}
use Rattle.bd_model.specs.Tree.{Tree}
use Rattle.bd_model.specs.Step.{step}

-- where there was memory, the new tree and the reply are those of the step
abbrev pub StepsTo : Tree → Command → Tree → Result Reply AllocError → Type 0
StepsTo old command new result = IfOk result (λ reply. (new, reply) ≡ step old command)
