use Rattle.std.proofs.Common.{◌≡◌, refl, sym, ◌∙◌}
use Rattle.std.specs.Option.{option_or}
use Rattle.std.specs.FinMap.{get}
use Rattle.bd_model.specs.Step.{absent_refusal, new_refusal}
use Rattle.bd_represent.proofs.TreeLemmas.{Represents-along}
use Rattle.bd_dirs.proofs.Makes.{second_of}
use Rattle.bd_dirs.proofs.News.{of_ok}
use Rattle.bd_dirs.proofs.moving.clone_refusal.Goals as goal

pub returns-in-None-clause-refusal : goal.returns-in-None-clause-refusal
returns-in-None-clause-refusal g c = λ known t tree r.
    let here = absent_refusal (get t c.args.a.now) in
    let there = new_refusal t c.args.b.now in
    let left = c.in_ok-refusal.ensures.left in
    let later = Represents-along (g.M.KeyMap.has c.args.m.now) (g.M.KeyMap.has c.absent.new.m) t (λ k key. left.kept known k) r in
    of_ok c.unmakeable.result (λ refusal. refusal ≡ there) (λ refusal. refusal ≡ option_or here there) (c.unmakeable.ensures.refusal (left.known known) t tree later)
    (λ refusal is. is ∙ sym (second_of here there there (sym (c.in_ok-refusal.ensures.refusal known t tree r) ∙ c.in-None.is) refl))
