use Rattle.std.proofs.Common.{◌*◌, ◌/◌, ◌%◌, ◌^◌, ◌∙◌, ap, arith, eqb, get_or}
use Rattle.std.specs.Int.{w64, bit_not}
use Rattle.std.specs.Prelude.{bit_and}
use Rattle.std.proofs.lemmas.Nat.Bits.{bit_at_clear_same, bit_at_clear_other}
use Rattle.bd_slots.proofs.BitLemmas.{has_bit-same, has_bit-other}
use Rattle.bd_slots.proofs.words.clear.Goals as goal

pub returns-clause-cleared : goal.returns-clause-cleared
returns-clause-cleared c =
    let w = get_or c.args.words.now (c.args.bit / 64) 0 in
    has_bit-same c.args.words.now c.args.bit (bit_and w (bit_not w64 (1 * 2 ^ (c.args.bit % 64) % 2 ^ 64))) (omega (arith, c.requires))
    ∙ ap (λ b. eqb b 1) (bit_at_clear_same w64 w (c.args.bit % 64) (omega arith))

pub returns-clause-others : goal.returns-clause-others
returns-clause-others c other ne =
    let w = get_or c.args.words.now (c.args.bit / 64) 0 in
    has_bit-other c.args.words.now c.args.bit (bit_and w (bit_not w64 (1 * 2 ^ (c.args.bit % 64) % 2 ^ 64))) other (omega (arith, c.requires)) ne
    (λ i lt ne. bit_at_clear_other w64 w (c.args.bit % 64) (omega arith) i lt ne)
