use Rattle.std.proofs.Common.{length, ◌≡◌, ◌++◌, [], ◌∷◌, take, get_or, sym, ◌∙◌, ap, arith}
use Rattle.std.proofs.lemmas.List.{take_all}
use Rattle.bd_names.specs.Names.{key_of, names_in}
use Rattle.bd_names.proofs.CutsLemmas.{cuts-length, key_of-more, IsCut-names, IsCut-length}
use Rattle.bd_names.proofs.NamesLaws.{length-key_of}
use Rattle.bd_names.proofs.path.Path.key.Goals as goal

pub loop-i-preserved : goal.loop-i-preserved
loop-i-preserved c =
    let name : c.name_at.result.now ≡ get_or c.args.self.now c.loop-i.i [] =
    c.name_at.ensures ∙ ap (λ x. get_or (names_in x) c.loop-i.i []) c.deref.ensures.value ∙ ap (λ x. get_or x c.loop-i.i []) c.self.view_is in
    let whole = c.in_ok-extend_from_slice.ensures.items ∙ ap (λ x. x ++ c.name_at.result.now) c.loop-i.invariant ∙ ap (λ x. key_of (take c.loop-i.i c.args.self.now) ++ x) name in
    c.in_ok-push.ensures.items ∙ ap (λ x. x ++ 0 ∷ []) whole
    ∙ sym (key_of-more c.args.self.now c.loop-i.i (omega (arith, cuts-length _ _ _ c.self.invariant c.self.view_is)))

pub returns-clause-names : goal.returns-clause-names
returns-clause-names c = IsCut-names _ _ _ c.self.invariant c.self.view_is

pub returns-clause-length : goal.returns-clause-length
returns-clause-length c =
    let all = c.loop-i.invariant ∙ ap key_of (take_all c.loop-i.i c.args.self.now (omega (arith, cuts-length _ _ _ c.self.invariant c.self.view_is))) in
    omega (arith, ap length all, length-key_of c.args.self.now, IsCut-length _ _ _ c.self.invariant c.self.view_is)

pub returns-clause-key : goal.returns-clause-key
returns-clause-key c =
    c.loop-i.invariant ∙ ap key_of (take_all c.loop-i.i c.args.self.now (omega (arith, cuts-length _ _ _ c.self.invariant c.self.view_is)))
