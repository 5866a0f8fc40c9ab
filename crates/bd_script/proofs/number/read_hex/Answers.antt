use Rattle.std.proofs.Common.{arith, inl, inr}
use Rattle.bd_script.proofs.WordLemmas.{hex_of-size}
use Rattle.bd_script.proofs.number.read_hex.Goals as goal
use Rattle.bd_script.proofs.number.read_hex.Goals.{then-len-eq0-via-then-len-eq0, then-len-eq0-via-else-len-eq0+then-len-gt-MAX_WRITE}

pub returns-then-len-eq0 : goal.returns-then-len-eq0
returns-then-len-eq0 c = elim c.then-len-eq0.branch [
  | then-len-eq0-via-then-len-eq0 w ↦ hex_of-size c.args.word.now (inl (omega arith))
  | then-len-eq0-via-else-len-eq0+then-len-gt-MAX_WRITE w ↦ hex_of-size c.args.word.now (inr (omega arith))
]
