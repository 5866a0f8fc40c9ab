use Rattle.std.proofs.Common.{◌∙◌}
use Rattle.bd_names.proofs.CutsLemmas.{IsCut-text, IsCut-length}
use Rattle.bd_names.proofs.path.Path.as_bytes.Goals as goal

pub returns-clause-text : goal.returns-clause-text
returns-clause-text c = c.as_slice.ensures.value ∙ IsCut-text _ _ _ c.self.invariant c.self.view_is

pub returns-clause-length : goal.returns-clause-length
returns-clause-length c = IsCut-length _ _ _ c.self.invariant c.self.view_is
