-- The command is executed, and its reply tells how it goes on.
use Rattle.std.proofs.lemmas.Result.{err_from_is_err_and}
use Rattle.bd_shell.proofs.Lines.{fault_as}
use Rattle.bd_shell.proofs.Moving.{went_on}
use Rattle.bd_transfer.proofs.importing.give_one.Goals as goal

pub returns-clause-one : goal.returns-clause-one
returns-clause-one g c first since = record {
  said = c.in_ok-said.said;
  answered = c.in_ok-said.ensures.answer;
  ends = c.end_by.ensures;
  runs = c.in_ok-said.ensures.ok first since;
}

pub returns-in_err-said-clause-one : goal.returns-in_err-said-clause-one
returns-in_err-said-clause-one g c =
    let p = err_from_is_err_and c.from_residual.result c.from_residual.ensures.1 in
    rw (p.1, p.2) (λ first since. (c.in_err-said.ensures.fault, c.in_err-said.ensures.err first since))

pub returns-in_err-said-clause-cause : goal.returns-in_err-said-clause-cause
returns-in_err-said-clause-cause g c =
    let p = err_from_is_err_and c.from_residual.result c.from_residual.ensures.1 in
    rw (p.1, p.2) (λ sink. fault_as _ _ _ c.in_err-said.field-0.0 (c.in_err-said.ensures.cause sink))

pub returns-clause-cause : goal.returns-clause-cause
returns-clause-cause g c sink = went_on _ _ _ _ (c.in_ok-said.ensures.cause sink).kept
