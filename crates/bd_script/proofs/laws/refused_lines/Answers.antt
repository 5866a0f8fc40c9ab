use Rattle.std.specs.Prelude.{Err}
use Rattle.bd_script.proofs.LineLaws.{Keeps-line_of}
use Rattle.bd_script.proofs.laws.refused_lines.Goals as goal

pub returns : goal.returns
returns c = λ line r h. Keeps-line_of line (Err r) h
