-- What follows a prefix of names.
use Rattle.std.proofs.Common.{◌≡◌, ℕ, List, ◌++◌, Bor, sym, ◌∙◌, ap, refl}
use Rattle.std.specs.Prelude.{◌≢◌, Option, None, Some}
use Rattle.std.specs.Option.{option_map, MatchOption}
use Rattle.bd_names.specs.Names.{rest_below}
use Rattle.bd_names.proofs.NamesLaws.{rest_below-append, rest_below-some}

-- where the path doesn't begin with the names, nothing follows them
none_follows : (of path : List (List ℕ)) (found : Option (List (List ℕ))) → rest_below of path ≡ found → ((rest : List (List ℕ)) → path ≢ of ++ rest) → None ≡ found
none_follows of path None e none = refl
none_follows of path (Some rest) e none = absurd (none rest (rest_below-some of path rest e))

-- what is left of a path after a prefix that was stripped is what follows the prefix
pub rest_below-found : (of path : List (List ℕ)) (found : Option (Bor (List (List ℕ)))) → MatchOption found ((rest : List (List ℕ)) → path ≢ of ++ rest) (λ rest. path ≡ of ++ rest.now)
    → option_map (λ rest. rest.now) found ≡ rest_below of path
rest_below-found of path None none = none_follows of path (rest_below of path) refl none
rest_below-found of path (Some rest) e = sym (ap (rest_below of) e ∙ rest_below-append of rest.now)
