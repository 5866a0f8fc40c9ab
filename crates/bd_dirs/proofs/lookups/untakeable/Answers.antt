use Rattle.std.proofs.Common.{◌≡◌, sym, ◌∙◌}
use Rattle.std.specs.Prelude.{Option}
use Rattle.std.specs.Option.{option_and_then}
use Rattle.std.specs.FinMap.{get}
use Rattle.bd_names.specs.Names.{parent_of}
use Rattle.bd_command.specs.declared.refusal.Refusal.{Refusal}
use Rattle.bd_model.specs.Step.{target_refusal, parent_refusal}
use Rattle.bd_represent.proofs.TreeLemmas.{Represents-along}
use Rattle.bd_dirs.proofs.News.{free_target, taken_target, of_ok}
use Rattle.bd_dirs.proofs.lookups.untakeable.Goals as goal

pub returns-then-taken-clause-refusal : goal.returns-then-taken-clause-refusal
returns-then-taken-clause-refusal g c = λ known t tree r.
    taken_target t c.args.a.now c.args.b.now c.in_ok-taken.taken (c.in_ok-taken.ensures.taken known t tree r) c.if-taken.true

pub returns-clause-refusal : goal.returns-clause-refusal
returns-clause-refusal g c = λ known t tree r.
    let a = c.args.a.now in
    let b = c.args.b.now in
    let left = c.in_ok-taken.ensures.left in
    let later = Represents-along (g.M.KeyMap.has c.args.m.now) (g.M.KeyMap.has c.is_taken.new.m) t (λ k key. left.kept known k) r in
    of_ok c.above.result (λ (x : Option Refusal). x ≡ parent_refusal (option_and_then (get t) (parent_of b))) (λ (x : Option Refusal). x ≡ target_refusal t a b) (c.above.ensures.refusal (left.known known) t tree later)
    (λ refusal why. free_target t a b c.in_ok-taken.taken refusal (c.in_ok-taken.ensures.taken known t tree r) c.if-taken.false why)
