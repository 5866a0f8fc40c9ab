-- The messages of a file are those of its command.
use Rattle.std.proofs.Common.{subst}
use Rattle.bd_files.specs.FilePlans.{IsFilePlan}
use Rattle.bd_dirs.proofs.NewPlans.{file_plan}
use Rattle.bd_dirs.proofs.planning.of_file.Goals as goal

pub returns-in-Apply-clause-plan : goal.returns-in-Apply-clause-plan
returns-in-Apply-clause-plan c = λ sent at t command is h. file_plan sent c.in-Apply.list at t command is (subst (IsFilePlan sent at t command) c.in-Apply.is h)
