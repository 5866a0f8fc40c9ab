use Rattle.std.proofs.Common.{◌≡◌, sym, ◌∙◌}
use Rattle.std.specs.Prelude.{None}
use Rattle.bd_command.specs.declared.Command.TheVariants.{Clone}
use Rattle.bd_model.specs.Step.{refusal_of}
use Rattle.bd_represent.proofs.TreeLemmas.{Represents-along}
use Rattle.bd_dirs.specs.Plans.{IsPlan}
use Rattle.bd_dirs.proofs.Along.{plan_along}
use Rattle.bd_dirs.proofs.News.{of_ok}
use Rattle.bd_dirs.proofs.moving.clone_to.Goals as goal

pub returns-in-None-clause-plan : goal.returns-in-None-clause-plan
returns-in-None-clause-plan g c = λ known t tree r.
    let what = Clone c.args.a.now c.args.b.now in
    let left = c.in_ok-refusal.ensures.left in
    let old = g.M.KeyMap.has c.args.m.now in
    let new = g.M.KeyMap.has c.clone_refusal.new.m in
    let later = Represents-along old new t (λ k key. left.kept known k) r in
    let free : refusal_of t what ≡ None = sym (c.in_ok-refusal.ensures.refusal known t tree r) ∙ c.in-None.is in
    of_ok c.cloned.result (IsPlan new t what) (IsPlan old t what) (c.cloned.ensures.plan (left.known known) t tree later free)
    (λ plan h. plan_along new old t what plan (λ k. sym (left.kept known k)) h)
