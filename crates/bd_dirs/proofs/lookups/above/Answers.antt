use Rattle.std.proofs.Common.{◌≡◌, ℕ, List, ap, ◌∙◌}
use Rattle.std.specs.Prelude.{Option}
use Rattle.std.specs.Option.{option_and_then}
use Rattle.std.specs.FinMap.{get}
use Rattle.bd_names.specs.Names.{parent_of}
use Rattle.bd_command.specs.declared.refusal.Refusal.{Refusal}
use Rattle.bd_model.specs.Step.{parent_refusal}
use Rattle.bd_dirs.proofs.News.{of_ok, at_parent}
use Rattle.bd_dirs.proofs.lookups.above.Goals as goal

pub returns-in-Some-clause-refusal : goal.returns-in-Some-clause-refusal
returns-in-Some-clause-refusal g c = λ known t tree r.
    of_ok c.no_parent.result (λ (x : Option Refusal). x ≡ parent_refusal (get t c.in-Some.parent)) (λ (x : Option Refusal). x ≡ parent_refusal (option_and_then (get t) (parent_of c.args.path.now))) (c.no_parent.ensures.refusal known t tree r)
    (λ refusal why. at_parent t c.in_ok-parent.field-0 c.in-Some.parent refusal c.in-Some.is why ∙ ap (λ (o : Option (List (List ℕ))). parent_refusal (option_and_then (get t) o)) c.in_ok-parent.ensures)
