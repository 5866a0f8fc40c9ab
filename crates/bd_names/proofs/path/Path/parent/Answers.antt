use Rattle.std.proofs.Common.{◌≡◌, ◌≤◌, suc, ◌-◌, length, take, get_or, sym, ◌∙◌, ap, arith}
use Rattle.std.proofs.lemmas.List.{length-take-le}
use Rattle.bd_names.specs.Names.{names_in}
use Rattle.std.specs.declared.option.Option.TheVariants.{Some}
use Rattle.bd_names.proofs.CutsLemmas.{parent_fits, parent_cut_at, parent_is}
use Rattle.bd_names.proofs.path.Path.parent.Goals as goal

pub slice_bounds-from_slice-end : goal.slice_bounds-from_slice-end
slice_bounds-from_slice-end c =
    let size : length c.self.inside.cuts.items ≡ suc (suc (c.len-count.result - 2)) = omega arith in
    let fits : get_or c.self.inside.cuts.items (c.len-count.result - 2) 0 ≤ length c.self.inside.text.items =
    parent_fits _ _ _ _ c.self.invariant c.self.view_is size in
    let end : get_or c.deref.result.now (c.len-count.result - 2) 0 ≡ get_or c.self.inside.cuts.items (c.len-count.result - 2) 0 =
    ap (λ x. get_or x (c.len-count.result - 2) 0) c.deref.ensures in
    sym (length-take-le _ c.deref-2.result.now (omega (arith, fits, end, ap length c.deref-2.ensures.value)))

pub invariant_of-result : goal.invariant_of-result
invariant_of-result c =
    let size : length c.self.inside.cuts.items ≡ suc (suc (c.len-count.result - 2)) = omega arith in
    let less : c.len-count.result - 1 ≡ suc (c.len-count.result - 2) = omega arith in
    parent_cut_at _ _ _ (c.len-count.result - 2) _ _ c.self.invariant c.self.view_is size
    (c.in_ok-from_slice.ensures.items ∙ ap (λ x. take (get_or x (c.len-count.result - 2) 0) c.deref-2.result.now) c.deref.ensures ∙ ap (take (get_or c.self.inside.cuts.items (c.len-count.result - 2) 0)) c.deref-2.ensures.value)
    (c.in_ok-from_slice-2.ensures.ok ∙ ap (take (c.len-count.result - 1)) c.deref-3.ensures ∙ ap (λ x. take x c.self.inside.cuts.items) less)

pub returns : goal.returns
returns c =
    let size : length c.self.inside.cuts.items ≡ suc (suc (c.len-count.result - 2)) = omega arith in
    ap (λ x. Some (names_in x)) (c.in_ok-from_slice.ensures.items ∙ ap (λ x. take (get_or x (c.len-count.result - 2) 0) c.deref-2.result.now) c.deref.ensures ∙ ap (take (get_or c.self.inside.cuts.items (c.len-count.result - 2) 0)) c.deref-2.ensures.value)
    ∙ parent_is _ _ _ (c.len-count.result - 2) c.self.invariant c.self.view_is size
