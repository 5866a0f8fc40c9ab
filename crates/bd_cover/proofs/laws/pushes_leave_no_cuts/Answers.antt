use Rattle.bd_cover.proofs.laws.pushes_leave_no_cuts.Goals as goal

pub returns : goal.returns
returns c = λ pushes nodes t asked none id n under there place. (none id n under there).0.pushed asked place
