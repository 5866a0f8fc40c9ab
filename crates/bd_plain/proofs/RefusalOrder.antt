-- The first refusal that holds.
use Rattle.std.proofs.Common.{◌≡◌, Option, Some, None, refl}
use Rattle.std.specs.Option.{option_or}
use Rattle.bd_command.specs.declared.refusal.Refusal.{Refusal}

pub first_of_four : (a b c d : Option Refusal) → option_or (option_or (option_or a b) c) d ≡ option_or a (option_or b (option_or c d))
first_of_four (Some a) b c d = refl
first_of_four None (Some b) c d = refl
first_of_four None None c d = refl

pub ruleset in_order = (first_of_four)
