use Rattle.std.proofs.Common.{ap, ◌∙◌, arith}
use Rattle.std.specs.declared.result.Result.TheVariants.{Err}
use Rattle.bd_sessions.proofs.PathLemmas.{short_read, names_read}
use Rattle.bd_sessions.proofs.paths.short_path.Goals as goal

pub returns-in-Ok : goal.returns-in-Ok
returns-in-Ok c =
    short_read c.args.names.now c.in-Ok.path c.deref.result.now c.in_ok-text.ensures.names (c.deref.ensures.value ∙ c.in_ok-text.ensures.text) (omega arith) c.in-Ok.ensures.path

pub returns-in-Err-BadPath : goal.returns-in-Err-BadPath
returns-in-Err-BadPath c =
    let none = c.in-Err-BadPath.ensures.bad_path.0 (ap Err c.in-Err-BadPath.field-0-is) in
    let some = names_read c.args.names.now c.deref.result.now c.in_ok-text.ensures.names (c.deref.ensures.value ∙ c.in_ok-text.ensures.text) (omega arith) in
    cc
