use Rattle.std.proofs.Common.{◌≡◌, ◌++◌, [], ◌∷◌, take, get_or, sym, ◌∙◌, ap, arith}
use Rattle.std.proofs.lemmas.List.{take_all, take_more}
use Rattle.bd_names.specs.Names.{names_in, is_name}
use Rattle.bd_names.proofs.CutsLemmas.{cuts-length, cut-is_name}
use Rattle.bd_names.proofs.path.Path.names.Goals as goal

pub from_text-requires : goal.from_text-requires
from_text-requires c =
    let name : c.name_at.result.now ≡ get_or c.args.self.now c.loop-i.i [] =
    c.name_at.ensures ∙ ap (λ x. get_or (names_in x) c.loop-i.i []) c.deref.ensures.value ∙ ap (λ x. get_or x c.loop-i.i []) c.self.view_is in
    ap is_name name ∙ cut-is_name _ _ _ c.loop-i.i c.self.invariant c.self.view_is (omega arith)

pub loop-i-preserved : goal.loop-i-preserved
loop-i-preserved c =
    let name : c.name_at.result.now ≡ get_or c.args.self.now c.loop-i.i [] =
    c.name_at.ensures ∙ ap (λ x. get_or (names_in x) c.loop-i.i []) c.deref.ensures.value ∙ ap (λ x. get_or x c.loop-i.i []) c.self.view_is in
    c.in_ok-push.ensures.items
    ∙ ap (λ x. x ++ c.in_ok-from_text.field-0 ∷ []) c.loop-i.invariant
    ∙ ap (λ x. take c.loop-i.i c.args.self.now ++ x ∷ []) (c.in_ok-from_text.ensures ∙ name)
    ∙ sym (take_more c.args.self.now c.loop-i.i [] (omega (arith, cuts-length _ _ _ c.self.invariant c.self.view_is)))

pub returns : goal.returns
returns c =
    c.loop-i.invariant ∙ take_all c.loop-i.i c.args.self.now (omega (arith, cuts-length _ _ _ c.self.invariant c.self.view_is))
