-- What a clause on an option says of what it is.
use Rattle.std.proofs.Common.{◌≡◌, Option, None, Some, subst}
use Rattle.std.specs.Prelude.{MatchOption}

pub none_match : {T : Type 0} (r : Option T) (P : Type 0) (Q : T → Type 0) → r ≡ None → P → MatchOption r P Q
none_match None P Q e p = p
none_match (Some x) P Q e p = absurd (let no : Some x ≡ None = e in cc)

pub match_none : {T : Type 0} (r : Option T) (P : Type 0) (Q : T → Type 0) → r ≡ None → MatchOption r P Q → P
match_none None P Q e h = h
match_none (Some x) P Q e h = absurd (let no : Some x ≡ None = e in cc)

pub match_some : {T : Type 0} (r : Option T) (P : Type 0) (Q : T → Type 0) (x : T) → r ≡ Some x → MatchOption r P Q → Q x
match_some None P Q x e h = absurd (let no : None ≡ Some x = e in cc)
match_some (Some y) P Q x e h = let same : y ≡ x = cc in subst Q same h
