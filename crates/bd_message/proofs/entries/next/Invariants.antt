use Rattle.std.proofs.Common.{take}
use Rattle.std.specs.Option.{option_copied}
use Rattle.bd_message.specs.KeyMaps.{IsNext}
use Rattle.bd_message.proofs.Finds.{found}
use Rattle.bd_message.proofs.entries.next.Given as goal

-- the least key of the entries so far
abbrev pub invariant-loop-key : goal.invariant-loop-key
invariant-loop-key l = IsNext (λ k. found k (take l.key-index l.entries)) l.from l.within (option_copied l.least)
