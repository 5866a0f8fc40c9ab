use Rattle.std.proofs.Common.{◌≡◌, ◌∙◌, ap, sym, subst, List, ℕ, false}
use Rattle.bd_message.specs.Effect.{begins}
use Rattle.bd_recall.specs.Sizes.{Found}
use Rattle.bd_recall.proofs.Keeping.{first_kept, first_outside, none_outside}
use Rattle.bd_recall.proofs.recalled.Recalled.first_within.Goals as goal
use Rattle.bd_recall.proofs.recalled.Recalled.first_within.Goals.{in_default-via-in-Some+else-starts_with, in_default-via-in_default}

pub returns-in_ok-new-in-Some-clause-found : goal.returns-in_ok-new-in-Some-clause-found
returns-in_ok-new-in-Some-clause-found c =
    first_kept c.args.self.now.found c.args.prefix.now c.range.result (c.range.ensures.in_range tt) _ _ c.in-Some.ensures.steps c.in_ok-new-in-Some.field-0.0 (ap (λ (f : Found). f.0) c.in_ok-new-in-Some.ensures ∙ c.key-in-Some.ensures)

pub returns-in_default-clause-none : goal.returns-in_default-clause-none
returns-in_default-clause-none c =
    elim c.in_default.branch [
      | in_default-via-in-Some+else-starts_with w ↦
          let out : begins w.in-Some.found.now.0 c.args.prefix.now.0 ≡ false = subst (λ (l : List ℕ). begins l c.args.prefix.now.0 ≡ false) w.key.ensures (subst (λ (l : List ℕ). begins w.key.result.now l ≡ false) c.key-front.ensures (sym w.starts_with.ensures.value ∙ w.if-starts_with.false)) in
          first_outside c.args.self.now.found c.args.prefix.now c.range.result (c.range.ensures.in_range tt) _ _ w.in-Some.ensures.steps out
      | in_default-via-in_default w ↦
          none_outside c.args.self.now.found c.args.prefix.now c.range.result (c.range.ensures.in_range tt) w.in_default.ensures.steps.0
    ]
