use Rattle.std.proofs.Common.{◌∙◌, ap, sym}
use Rattle.bd_names.specs.Names.{path_of}
use Rattle.bd_names.proofs.NamesLaws.{path_of-some, path_of-path_text}
use Rattle.bd_names.proofs.laws.law_of_path_texts.Goals as goal

pub returns : goal.returns
returns c = λ text names. (λ h. path_of-some text names h, λ h. ap path_of (sym h.2) ∙ path_of-path_text names h.0 h.1)
