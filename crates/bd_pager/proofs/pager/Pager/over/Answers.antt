use Rattle.std.proofs.Common.{sym, ◌∙◌}
use Rattle.std.proofs.lemmas.Bool.{true≢false}
use Rattle.bd_pager.proofs.pager.Pager.over.Goals as goal

pub invariant_of-result : goal.invariant_of-result
invariant_of-result g c = (c.requires.paged, c.requires.tallied, λ id on. absurd (true≢false (sym on ∙ c.new.ensures id)))
