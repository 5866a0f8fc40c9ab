use Rattle.std.proofs.Common.{◌≡◌, false, Bool, cond, refl, ap, sym, ◌∙◌}
use Rattle.std.specs.Prelude.{Some, None}
use Rattle.std.specs.Option.{option_or}
use Rattle.std.specs.FinMap.{get}
use Rattle.bd_names.specs.Names.{is_under}
use Rattle.bd_command.specs.declared.refusal.Refusal.TheVariants.{Inside}
use Rattle.bd_command.specs.declared.Command.TheVariants.{Rename}
use Rattle.bd_model.specs.Step.{absent_refusal, target_refusal, root_refusal, inside_refusal, refusal_of}
use Rattle.bd_represent.proofs.TreeLemmas.{Represents-along}
use Rattle.bd_dirs.proofs.Makes.{second_of, root_free}
use Rattle.bd_dirs.proofs.News.{of_ok}
use Rattle.bd_dirs.proofs.moving.rename_refusal.Goals as goal

pub returns-clause-refusal : goal.returns-clause-refusal
returns-clause-refusal g c = λ known t tree r.
    let a = c.args.a.now in
    let b = c.args.b.now in
    let left = c.in_ok-refusal.ensures.left in
    let later = Represents-along (g.M.KeyMap.has c.args.m.now) (g.M.KeyMap.has c.absent.new.m) t (λ k key. left.kept known k) r in
    let here = absent_refusal (get t a) in
    let within = inside_refusal a b in
    let there = target_refusal t a b in
    let outside : is_under a b ≡ false = sym c.is_under.ensures ∙ c.if-is_under.false in
    let out : within ≡ None = ap (λ (x : Bool). cond x (Some Inside) None) outside in
    let all : refusal_of t (Rename a b) ≡ there =
    second_of (root_refusal a) (option_or here (option_or within there)) there (root_free a c.is_root.result c.if-is_root.false c.is_root.ensures.1)
    (second_of here (option_or within there) there (sym (c.in_ok-refusal.ensures.refusal known t tree r) ∙ c.in_default.is)
    (second_of within there there out refl)) in
    of_ok c.untakeable.result (λ refusal. refusal ≡ there) (λ refusal. refusal ≡ refusal_of t (Rename a b)) (c.untakeable.ensures.refusal (left.known known) t tree later)
    (λ refusal is. is ∙ sym all)
