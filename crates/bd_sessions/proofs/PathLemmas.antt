-- When a path is one of a command.
use Rattle.std.proofs.Common.{◌≡◌, ℕ, ◌<◌, ◌≤◌, true, false, List, length, sym, ◌∙◌, ap, subst, rules}
use Rattle.std.specs.declared.option.Option.TheVariants.{Some}
use Rattle.bd_limits.specs.Limits.{path_limit}
use Rattle.bd_names.specs.Names.{AreNames, path_text, path_of}
use Rattle.bd_names.proofs.NamesLaws.{path_of-path_text}
use Rattle.bd_command.specs.Command.{IsShortPath}
use Rattle.bd_model.specs.Tree.{Path}
use Rattle.bd_sessions.specs.Sessions.{is_long}

-- the text of names that are few enough is read as these
pub names_read : (names : Path) (text : List ℕ) → AreNames names → text ≡ path_text names → length text ≤ path_limit → path_of text ≡ Some names
names_read names text are is short = ap path_of is ∙ path_of-path_text names are (subst (λ t. length t ≤ path_limit) is short)

pub is_long-short : (names : Path) → length (path_text names) ≤ path_limit → is_long names ≡ false
is_long-short names h = search rules

pub is_long-long : (names : Path) → path_limit < length (path_text names) → is_long names ≡ true
is_long-long names h = search rules

-- the path that such a text is
pub short_read : (names path : Path) (text : List ℕ) → AreNames names → text ≡ path_text names → length text ≤ path_limit → path_of text ≡ Some path
    → (is_long names ≡ false) × (path ≡ names) × IsShortPath path
short_read names path text are is short read =
    let same : Some path ≡ Some names = sym read ∙ names_read names text are is short in
    let e : path ≡ names = cc in
    let few : length (path_text names) ≤ path_limit = subst (λ t. length t ≤ path_limit) is short in
    (is_long-short names few, e, subst IsShortPath (sym e) (are, few))
