use Rattle.std.proofs.Common.{ℕ, ◌≤◌, length, subst, arith, ◌∙◌}
use Rattle.std.specs.Prelude.{Result}
use Rattle.std.specs.FinMap.{get}
use Rattle.bd_limits.specs.Limits.{file_limit}
use Rattle.bd_command.specs.declared.refusal.Refusal.{Refusal}
use Rattle.bd_represent.proofs.TreeLemmas.{Represents-along}
use Rattle.bd_files.specs.Files.{IsFileOf}
use Rattle.bd_files.proofs.Pieces.{read_reply}
use Rattle.bd_files.proofs.reading.read.Goals as goal

pub returns-clause-reply : goal.returns-clause-reply
returns-clause-reply g c = λ known t tree r.
    let path = c.args.path.now in
    let left = c.in_ok-found.ensures.left in
    let file = subst (λ (found : Result (ℕ × ℕ) Refusal). IsFileOf (get t path) found) c.in-Ok.is (c.in_ok-found.ensures.found known t tree r) in
    let later = Represents-along (g.M.KeyMap.has c.args.m.now) (g.M.KeyMap.has c.file.new.m) t (λ k key. left.kept known k) r in
    let inside : c.min-end.result ≤ length file.0 = omega (arith, c.min-end.ensures, file.2) in
    let limit : c.in-Ok.found.0 ≤ file_limit = omega (arith, file.2, file.3) in
    read_reply t path c.in-Ok.found.1 file.0 c.from_vec.result c.args.off c.args.len c.in-Ok.found.0 c.min-end.result file.1 file.2 limit (omega (arith, c.min-end.ensures, c.saturating_add.ensures))
    (c.from_vec.ensures ∙ c.in_ok-bytes.ensures.bytes (left.known known) t c.in-Ok.found.1 file.0 later file.1 inside)
