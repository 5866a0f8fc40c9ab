use Rattle.bd_sessions.proofs.LongLines.{spoken-held}
use Rattle.bd_sessions.proofs.laws.long_lines_are_bad.Goals as goal

pub returns : goal.returns
returns c = spoken-held
