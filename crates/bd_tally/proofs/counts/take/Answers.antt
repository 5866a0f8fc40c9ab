use Rattle.std.proofs.Common.{◌∙◌, false, get_or, set, sym, ap}
use Rattle.std.proofs.lemmas.List.{get_or_default}
use Rattle.bd_tally.specs.declared.count.Count.{Count}
use Rattle.bd_tally.proofs.CountLemmas.{after_absent, after_at}
use Rattle.bd_tally.proofs.counts.take.Goals as goal

pub returns-in-Some : goal.returns-in-Some
returns-in-Some c =
    let counts = c.args.counts.now in
    let place = c.in-Some.place in
    let none : Count = record { id = 0; left = 0; over = false } in
    let at = c.in-Some.ensures.found in
    ap (λ (count : Count). set counts place count) c.after_name.ensures
    ∙ after_at counts c.args.name place (get_or counts place none) c.requires at (get_or_default counts place none (get_or counts place none) at.within)

pub returns-in_default : goal.returns-in_default
returns-in_default c = sym (after_absent c.args.counts.now c.args.name c.in_default.ensures.none)
