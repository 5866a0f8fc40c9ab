use Rattle.std.specs.Prelude.{Ok}
use Rattle.bd_script.specs.declared.line.Line.TheVariants.{Run}
use Rattle.bd_script.proofs.LineLaws.{Keeps-line_of}
use Rattle.bd_script.proofs.laws.lines_are_commands.Goals as goal

pub returns : goal.returns
returns c = λ line command h. Keeps-line_of line (Ok (Run command)) h
