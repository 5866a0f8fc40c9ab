use Rattle.std.proofs.Common.{◌∙◌, ap}
use Rattle.bd_names.specs.Names.{key_of, is_under}
use Rattle.bd_names.proofs.NamesLaws.{key_of-append, key_of-front, key_of-injective, is_under-rest, is_under-append}
use Rattle.bd_names.proofs.laws.law_of_keys.Goals as goal

pub returns-clause-under : goal.returns-clause-under
returns-clause-under c = λ of path names_of names_path. (
  λ h. let below = is_under-rest of path h in (key_of below.0, ap key_of below.1 ∙ key_of-append of below.0),
  λ h. let below = key_of-front of path h.0 names_of names_path h.1 in ap (is_under of) below.1 ∙ is_under-append of below.0,
)

pub returns-clause-one_path : goal.returns-clause-one_path
returns-clause-one_path c = key_of-injective
