use Rattle.std.proofs.Common.{ap, ◌∙◌}
use Rattle.std.specs.Prelude.{Some}
use Rattle.std.specs.FinMap.{get}
use Rattle.bd_represent.proofs.TreeLemmas.{Represents-along}
use Rattle.bd_dirs.proofs.News.{file_taken}
use Rattle.bd_dirs.proofs.lookups.is_taken.Goals as goal

pub returns-in_ok-is_file-in-Some-File-clause-taken :
    goal.returns-in_ok-is_file-in-Some-File-clause-taken
returns-in_ok-is_file-in-Some-File-clause-taken g c = λ known t tree r.
    let left = c.in_ok-record.ensures.left in
    let later = Represents-along (g.M.KeyMap.has c.args.m.now) (g.M.KeyMap.has c.record.new.m) t (λ k key. left.kept known k) r in
    file_taken (get t c.args.a.now) (get t c.args.b.now) c.in_ok-is_file-in-Some-File.field-0 c.in_ok-record.field-0 c.in-Some-File.field-0-0 c.in-Some-File.field-0-1
    (c.in_ok-record.ensures.record known t tree r) (c.in-Some-File.is ∙ ap Some c.in-Some-File.field-0-is) (c.in_ok-is_file-in-Some-File.ensures.file (left.known known) t tree later)
