use Rattle.std.proofs.Common.{arith, ◌≤◌, ◌+◌, length, subst, ℕ}
use Rattle.std.specs.Prelude.{Result}
use Rattle.std.specs.FinMap.{get}
use Rattle.bd_limits.specs.Limits.{file_limit}
use Rattle.bd_command.specs.declared.refusal.Refusal.{Refusal}
use Rattle.bd_files.specs.Files.{IsFileOf}
use Rattle.bd_files.proofs.Writes.{write_planned}
use Rattle.bd_files.proofs.write.plan_write.Goals as goal

pub returns-clause-plan : goal.returns-clause-plan
returns-clause-plan g c = λ known t tree r.
    let at = g.M.KeyMap.has c.args.m.now in
    let path = c.args.path.now in
    let file = subst (λ (found : Result (ℕ × ℕ) Refusal). IsFileOf (get t path) found) c.in-Ok.is (c.in_ok-found.ensures.found known t tree r) in
    let fits : c.args.off + length c.args.bytes.now ≤ file_limit = omega arith in
    write_planned at t path c.in-Ok.found.1 c.args.off c.in-Ok.found.0 c.args.bytes.now file.0 c.in_ok-list.list.items c.from_vec.result file.1 fits c.from_vec.ensures
    (c.in_ok-list.ensures.makes at t file.0 r file.1 file.2) file.2 c.in_ok-list.ensures.list
