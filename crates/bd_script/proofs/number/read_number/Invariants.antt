use Rattle.std.proofs.Common.{◌≡◌, ◌≤◌, true, take}
use Rattle.std.specs.Prelude.{fold}
use Rattle.std.specs.List.{list_all}
use Rattle.std.specs.Char.{is_ascii_digit}
use Rattle.bd_script.proofs.WordLemmas.{digit_more}
use Rattle.bd_script.proofs.number.read_number.Given as goal

abbrev pub invariant-loop-digit : goal.invariant-loop-digit
invariant-loop-digit l = (l.number ≡ fold digit_more 0 (take l.digit-index l.word)) × (list_all is_ascii_digit (take l.digit-index l.word) ≡ true) × (l.number ≤ 4294967295)
