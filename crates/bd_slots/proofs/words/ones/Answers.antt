use Rattle.std.proofs.Common.{◌∙◌, ◌≡◌, ◌++◌, ◌∷◌, [], ◌-◌, ◌/◌, ◌%◌, ◌^◌, ap, arith, rules}
use Rattle.std.specs.Prelude.{replicate}
use Rattle.std.proofs.lemmas.Nat.{one_shl}
use Rattle.bd_slots.proofs.BitLemmas.{has_bit-ones_below}
use Rattle.bd_slots.proofs.words.ones.Goals as goal

pub returns-clause-bits : goal.returns-clause-bits
returns-clause-bits c =
    let rest = c.args.count % 64 in
    let whole : c.in_ok-words.words.items ≡ replicate (c.args.count / 64) (2 ^ 64 - 1) = search rules in
    has_bit-ones_below c.push.new.self.items c.args.count
    (c.in_ok-push.ensures.items
    ∙ ap (λ power. c.in_ok-words.words.items ++ (power - 1) ∷ []) (one_shl rest 64 (omega arith))
    ∙ ap (λ words. words ++ (2 ^ rest - 1) ∷ []) whole)
