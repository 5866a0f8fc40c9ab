use Rattle.std.proofs.Common.{rules}
use Rattle.std.proofs.lemmas.Fn.{filter_same}
use Rattle.std.specs.Ordering.{nat_cmp, is_lt}
use Rattle.std.specs.Cmp.Lexicographic.{slice_cmp}
use Rattle.bd_plain.proofs.step.keep_after.Goals as goal

pub returns-in-Some : goal.returns-in-Some
returns-in-Some c = rw c.in-Some.is (filter_same _ (λ l. is_lt (slice_cmp nat_cmp c.in-Some.after.now l.name)) _ (λ x b f' k. search rules) _ _ c.retain.ensures.filtered)
