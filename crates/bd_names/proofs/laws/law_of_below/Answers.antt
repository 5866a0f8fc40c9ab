use Rattle.std.proofs.Common.{◌∙◌, ap}
use Rattle.bd_names.specs.Names.{rest_below, is_under}
use Rattle.bd_names.proofs.NamesLaws.{rest_below-some, rest_below-append, is_under-rest, is_under-append}
use Rattle.bd_names.proofs.laws.law_of_below.Goals as goal

pub returns-clause-rest : goal.returns-clause-rest
returns-clause-rest c = λ of path rest. (λ h. rest_below-some of path rest h, λ h. ap (rest_below of) h ∙ rest_below-append of rest)

pub returns-clause-under : goal.returns-clause-under
returns-clause-under c = λ of path. (λ h. is_under-rest of path h, λ h. ap (is_under of) h.1 ∙ is_under-append of h.0)
