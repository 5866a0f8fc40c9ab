-- How paths are followed.
use Rattle.std.proofs.Common.{◌≡◌, ℕ, true, false, List, ◌+◌, ◌++◌, length, take, drop, refl, sym, ◌∙◌, ap, Bor}
use Rattle.std.specs.Bool.{Decides}
use Rattle.std.specs.Cmp.Lexicographic.{pointwise}
use Rattle.std.specs.Option.{MatchOption, option_copied}
use Rattle.std.specs.declared.option.Option.{Option}
use Rattle.std.specs.declared.option.Option.TheVariants.{None, Some}
use Rattle.std.proofs.lemmas.Slice.Eq.{strip_prefix_is}
use Rattle.bd_names.specs.Names.{same_text, rest_below}
use Rattle.bd_names.proofs.NamesLaws.{rest_below-some, rest_below-append}
use Rattle.bd_model.specs.Tree.{Path}

-- what is stripped of a path is what follows its front
pub rest_below-stripped : (decides : (a b : List ℕ) → Decides (same_text a b) (a ≡ b)) (path of : Path) (r : Option (Bor Path))
    → MatchOption r (pointwise same_text (take (length of) path) of ≡ false)
    (λ x. (pointwise same_text (take (length of) path) of ≡ true) × (x.now ≡ drop (length of) path) × (length x.now + length of ≡ length path))
    → option_copied r ≡ rest_below of path
rest_below-stripped decides path of r h = by r (strip_prefix_is decides path of r h)
  where
    none : (o : Option Path) → rest_below of path ≡ o → ((rest : Path) → path ≡ of ++ rest → ⊥) → None ≡ o
    none None e h = refl
    none (Some rest) e h = absurd (h rest (rest_below-some of path rest e))

    by : (r : Option (Bor Path)) → MatchOption r ((rest : Path) → path ≡ of ++ rest → ⊥) (λ x. path ≡ of ++ x.now) → option_copied r ≡ rest_below of path
    by None h = none (rest_below of path) refl h
    by (Some x) h = sym (ap (rest_below of) h ∙ rest_below-append of x.now)
