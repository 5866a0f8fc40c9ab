use Rattle.std.proofs.Common.{◌∙◌, ap}
use Rattle.bd_names.specs.Names.{parent_of}
use Rattle.bd_names.proofs.NamesLaws.{parent_of-some, parent_of-append, parent_of-none}
use Rattle.bd_names.proofs.laws.law_of_parents.Goals as goal

pub returns-clause-parent : goal.returns-clause-parent
returns-clause-parent c = λ path parent. (λ h. parent_of-some path parent h, λ h. ap parent_of h.1 ∙ parent_of-append parent h.0)

pub returns-clause-root : goal.returns-clause-root
returns-clause-root c = λ path. (λ h. parent_of-none path h, λ h. ap parent_of h)
