use Rattle.std.proofs.Common.{◌≡◌, List, ℕ, true, false, [], ◌∷◌, sym, ap, ◌∙◌, subst, arith, refl}
use Rattle.std.specs.Prelude.{Some, None, IsSome, not, nat_eq}
use Rattle.std.specs.Cmp.Lexicographic.{pointwise}
use Rattle.bd_model.specs.Tree.{is_directory}
use Rattle.bd_dirs.proofs.Children.{child_listed, is_end}
use Rattle.bd_dirs.proofs.listing.child_at.Goals as goal

pub returns-in_default-clause-child : goal.returns-in_default-clause-child
returns-in_default-clause-child c = λ at t tree r path after names bytes within next.
    let x = child_listed at t path after c.args.key.now c.args.value.now c.args.within.now tree r names bytes (λ i. omega (arith, c.type_inv.key i)) within next in
    let found : c.in_ok-name.field-0 ≡ Some x.0 = c.in_ok-name.ensures.name x.0 (0 ∷ 0 ∷ []) x.2 (c.tail-text.ensures ∙ x.3) in
    let none : c.in_ok-name.field-0 ≡ None = cc in
    cc

pub returns-then-ne-clause-child : goal.returns-then-ne-clause-child
returns-then-ne-clause-child c = λ at t tree r path after names bytes within next.
    let x = child_listed at t path after c.args.key.now c.args.value.now c.args.within.now tree r names bytes (λ i. omega (arith, c.type_inv.key i)) within next in
    let found : c.in_ok-name.field-0 ≡ Some x.0 = c.in_ok-name.ensures.name x.0 (0 ∷ 0 ∷ []) x.2 (c.tail-text.ensures ∙ x.3) in
    let same : c.in-Some.name ≡ x.0 = let is = c.in-Some.is in cc in
    let end : pointwise nat_eq c.tail.result.now c.as_slice.result.now ≡ true = is_end x.0 c.tail-text.result.now c.as_bytes.result.now _ _ (c.tail-text.ensures ∙ x.3) (c.as_bytes.ensures.bytes ∙ same) c.tail.ensures c.as_slice.ensures in
    let other : true ≡ not (pointwise nat_eq c.tail.result.now c.as_slice.result.now) = c.if-ne.ensures in
    absurd (let no : true ≡ false = other ∙ ap not end in cc)

pub returns-clause-child : goal.returns-clause-child
returns-clause-child c = λ at t tree r path after names bytes within next.
    let x = child_listed at t path after c.args.key.now c.args.value.now c.args.within.now tree r names bytes (λ i. omega (arith, c.type_inv.key i)) within next in
    let found : c.in_ok-name.field-0 ≡ Some x.0 = c.in_ok-name.ensures.name x.0 (0 ∷ 0 ∷ []) x.2 (c.tail-text.ensures ∙ x.3) in
    let same : c.in-Some.name ≡ x.0 = let is = c.in-Some.is in cc in
    let listed = c.listed_as.ensures x.1 (x.4 c.read_record.result c.read_record.ensures) in
    let all : c.listed_as.result ≡ Some (record { name = x.0; is_dir = is_directory x.1 }) = listed ∙ ap (λ (n : List ℕ). Some (record { name = n; is_dir = is_directory x.1 })) same in
    (subst IsSome (sym all) refl, all ∙ sym x.5)
