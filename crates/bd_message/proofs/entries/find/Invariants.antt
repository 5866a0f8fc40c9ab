use Rattle.std.proofs.Common.{◌≡◌, drop}
use Rattle.std.specs.FinMap.{find}
use Rattle.bd_keys.specs.Keys.{key_cmp}
use Rattle.bd_message.proofs.entries.find.Given as goal

-- it is found in what is left
abbrev pub invariant-loop-at : goal.invariant-loop-at
invariant-loop-at l = find key_cmp l.key (drop l.at-index l.entries) ≡ find key_cmp l.key l.entries
