use Rattle.std.proofs.Common.{◌≡◌, None, refl}
use Rattle.bd_entries.proofs.Options.{match_none, match_some}
use Rattle.bd_entries.proofs.Passing.{broken_here, after_found, passed_more}
use Rattle.bd_entries.proofs.pass.pass_after.Goals as goal

pub returns-in_default-clause-passed : goal.returns-in_default-clause-passed
returns-in_default-clause-passed c = λ at low passed next.
    let none : c.in_ok-mark.field-0 ≡ None = cc in
    let after = after_found c.args.has_modes at low c.args.pass c.args.found.now c.as_slice-key.result.now c.as_slice.result.now c.in_ok-mark.field-0 c.as_slice-key.ensures c.as_slice.ensures c.in_ok-mark.ensures passed next in
    broken_here c.args.has_modes at c.args.pass.keys low c.args.found.now.key c.args.found.now.value passed.below next (match_none c.in_ok-mark.field-0 _ _ none after)

pub returns-clause-passed : goal.returns-clause-passed
returns-clause-passed c = λ at low passed next.
    let after = after_found c.args.has_modes at low c.args.pass c.args.found.now c.as_slice-key.result.now c.as_slice.result.now c.in_ok-mark.field-0 c.as_slice-key.ensures c.as_slice.ensures c.in_ok-mark.ensures passed next in
    passed_more c.args.has_modes at low c.args.pass _ c.args.found.now c.in-Some.mark passed next (match_some c.in_ok-mark.field-0 _ _ c.in-Some.mark c.in-Some.is after) refl refl
