-- The verdict's line is written, or the fault's.
use Rattle.std.proofs.Common.{refl, sym, ◌∙◌, Some}
use Rattle.std.specs.Prelude.{Ok}
use Rattle.bd_shell.proofs.Executes.{append_known-nil}
use Rattle.bd_calls.proofs.Checks.{verdict_known, verdict_of_fault}
use Rattle.bd_calls.proofs.Fills.{tells_all, never_two}
use Rattle.bd_calls.proofs.checking.end_check.Goals as goal

pub returns-in-Ok-clause-known : goal.returns-in-Ok-clause-known
returns-in-Ok-clause-known g c = verdict_known (Ok c.in-Ok.verdict) _ _ _ _ _ c.say_verdict.ensures.told

pub returns-in-Err-clause-told : goal.returns-in-Err-clause-told
returns-in-Err-clause-told g c =
    verdict_of_fault _ _ _ _ _ _ _ c.in-Err.is (tells_all (Some c.in-Err.fault) _ _ _ _ _ _ _ _ c.end_call.ensures.status (sym (append_known-nil _)) refl (c.end_call.ensures.last 0 0))

pub returns-in-Err-clause-known : goal.returns-in-Err-clause-known
returns-in-Err-clause-known g c two = never_two c.in-Err.fault (sym c.end_call.ensures.status ∙ two)
