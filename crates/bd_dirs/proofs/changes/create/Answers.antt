use Rattle.bd_command.specs.declared.Command.TheVariants.{Create}
use Rattle.bd_records.specs.declared.Record.TheVariants.{File}
use Rattle.bd_dirs.specs.Plans.{IsPlan, IsNewPlan}
use Rattle.bd_dirs.proofs.News.{of_ok}
use Rattle.bd_dirs.proofs.NewPlans.{create_plan}
use Rattle.bd_dirs.proofs.changes.create.Goals as goal

pub returns-clause-plan : goal.returns-clause-plan
returns-clause-plan g c = λ known t tree r.
    let at = g.M.KeyMap.has c.args.m.now in
    let path = c.args.path.now in
    of_ok c.make.result (IsNewPlan at t path (File 0 0)) (IsPlan at t (Create path)) (c.make.ensures.plan known t tree r) (create_plan at t path)
