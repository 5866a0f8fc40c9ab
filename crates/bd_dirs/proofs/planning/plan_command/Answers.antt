use Rattle.std.proofs.Common.{List, ℕ, refl, sym, subst}
use Rattle.bd_command.specs.declared.Command.{Command}
use Rattle.bd_command.specs.declared.Command.TheVariants.{Write, Truncate}
use Rattle.std.specs.FinMap.{get}
use Rattle.bd_model.specs.Step.{mode_at}
use Rattle.bd_files.specs.Sends.{written, truncated}
use Rattle.bd_files.specs.FilePlans.{IsFilePlan, size_at}
use Rattle.bd_dirs.specs.Plans.{IsPlan}
use Rattle.bd_dirs.proofs.planning.plan_command.Goals as goal

pub returns-in_ok-plan_write-in-Write-clause-plan :
    goal.returns-in_ok-plan_write-in-Write-clause-plan
returns-in_ok-plan_write-in-Write-clause-plan g c = λ known t tree r.
    let at = g.M.KeyMap.has c.args.m.now in
    subst (λ (x : Command). IsPlan at t x c.of_file.result) (sym c.in-Write.is)
    (c.of_file.ensures.plan (written c.in-Write.path (mode_at (get t c.in-Write.path)) (size_at t c.in-Write.path) c.in-Write.off c.in-Write.bytes) at t (Write c.in-Write.path c.in-Write.off c.in-Write.bytes) refl
    (subst (λ (b : List ℕ). IsFilePlan (written c.in-Write.path (mode_at (get t c.in-Write.path)) (size_at t c.in-Write.path) c.in-Write.off b) at t (Write c.in-Write.path c.in-Write.off b) c.in_ok-plan_write-in-Write.field-0) c.as_slice.ensures (c.in_ok-plan_write-in-Write.ensures.plan known t tree r)))

pub returns-in_ok-plan_truncate-in-Truncate-clause-plan :
    goal.returns-in_ok-plan_truncate-in-Truncate-clause-plan
returns-in_ok-plan_truncate-in-Truncate-clause-plan g c = λ known t tree r.
    let at = g.M.KeyMap.has c.args.m.now in
    subst (λ (x : Command). IsPlan at t x c.of_file-in-Truncate.result) (sym c.in-Truncate.is)
    (c.of_file-in-Truncate.ensures.plan (truncated at c.in-Truncate.path (mode_at (get t c.in-Truncate.path)) (size_at t c.in-Truncate.path) c.in-Truncate.len) at t (Truncate c.in-Truncate.path c.in-Truncate.len) refl (c.in_ok-plan_truncate-in-Truncate.ensures.plan known t tree r))
