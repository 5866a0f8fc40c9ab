use Rattle.bd_command.specs.declared.Command.TheVariants.{Mkdir}
use Rattle.bd_records.specs.declared.Record.TheVariants.{Dir}
use Rattle.bd_dirs.specs.Plans.{IsPlan, IsNewPlan}
use Rattle.bd_dirs.proofs.News.{of_ok}
use Rattle.bd_dirs.proofs.NewPlans.{mkdir_plan}
use Rattle.bd_dirs.proofs.changes.mkdir.Goals as goal

pub returns-clause-plan : goal.returns-clause-plan
returns-clause-plan g c = λ known t tree r.
    let at = g.M.KeyMap.has c.args.m.now in
    let path = c.args.path.now in
    of_ok c.make.result (IsNewPlan at t path (Dir 0)) (IsPlan at t (Mkdir path)) (c.make.ensures.plan known t tree r) (mkdir_plan at t path)
