-- What carrying out a plan comes to.
use Rattle.std.specs.Prelude.{◌≡◌, Bool, true, false}
use Rattle.bd_command.specs.declared.Command.{Command}
use Rattle.bd_command.specs.declared.reply.Reply.{Reply}
use Rattle.bd_model.specs.Tree.{Tree}
use Rattle.bd_model.specs.Step.{step}
use Rattle.bd_message.specs.KeyMaps.{At}
use Rattle.bd_represent.specs.Represents.{Represents}
use Rattle.bd_dirs.specs.declared.plan.Plan.{Plan}
use Rattle.bd_dirs.specs.declared.plan.Plan.TheVariants.{Refused, Apply, Graft}

-- what is planned is done: the command is accepted
abbrev pub accepts : Plan → Bool
accepts (Refused refusal) = false
accepts (Apply list) = true
accepts (Graft s d keep) = true

-- the reply is the step's, and what stands at the keys then represents the tree after the step
pub record TakesStep (t : Tree) (c : Command) (new : At) (reply : Reply) : Type 0 where
  pub reply_is : reply ≡ (step t c).1
  pub represents : Represents new (step t c).0
