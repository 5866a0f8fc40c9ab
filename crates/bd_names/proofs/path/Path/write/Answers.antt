use Rattle.std.proofs.Common.{length, sym, ◌∙◌, ap}
use Rattle.std.proofs.lemmas.List.{take_at}
use Rattle.bd_names.proofs.CutsLemmas.{IsCut-text}
use Rattle.bd_names.proofs.path.Path.write.Goals as goal

pub returns-clause-length : goal.returns-clause-length
returns-clause-length c = c.len-len.ensures ∙ sym c.deref.ensures.len ∙ ap length (c.deref.ensures.value ∙ IsCut-text _ _ _ c.self.invariant c.self.view_is)

pub returns-clause-text : goal.returns-clause-text
returns-clause-text c =
    take_at c.copy_from_slice.new.self _ c.len-len.result (ap length c.copy_from_slice.ensures.after ∙ c.deref.ensures.len ∙ sym c.len-len.ensures)
    ∙ c.copy_from_slice.ensures.after ∙ c.deref.ensures.value ∙ IsCut-text _ _ _ c.self.invariant c.self.view_is
