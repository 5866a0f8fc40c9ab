use Rattle.std.proofs.Common.{arith}
use Rattle.bd_query.proofs.EndLemmas.{prefix_end, prefix_end_within, prefix_end_begins}
use Rattle.bd_query.proofs.ends.end_within.Goals as goal

pub returns-clause-end : goal.returns-clause-end
returns-clause-end c =
    prefix_end c.args.prefix.now c.args.key.now c.args.end c.in_ok-past.past c.lesser.result
    (record { short = c.requires.short; lo_is = (λ i. omega (arith, c.type_inv.key i)); begins = c.requires.begins; own = c.requires.end; range = c.in_ok-past.ensures.range; past_short = c.in_ok-past.ensures.short; below = c.lesser.ensures.below; one = c.lesser.ensures.one })

pub returns-clause-within : goal.returns-clause-within
returns-clause-within c =
    prefix_end_within c.args.prefix.now c.args.key.now c.args.end c.in_ok-past.past c.lesser.result
    (record { short = c.requires.short; lo_is = (λ i. omega (arith, c.type_inv.key i)); begins = c.requires.begins; own = c.requires.end; range = c.in_ok-past.ensures.range; past_short = c.in_ok-past.ensures.short; below = c.lesser.ensures.below; one = c.lesser.ensures.one })

pub returns-clause-begins : goal.returns-clause-begins
returns-clause-begins c =
    prefix_end_begins c.args.prefix.now c.args.key.now c.args.end c.in_ok-past.past c.lesser.result
    (record { short = c.requires.short; lo_is = (λ i. omega (arith, c.type_inv.key i)); begins = c.requires.begins; own = c.requires.end; range = c.in_ok-past.ensures.range; past_short = c.in_ok-past.ensures.short; below = c.lesser.ensures.below; one = c.lesser.ensures.one })
