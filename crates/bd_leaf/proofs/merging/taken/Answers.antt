use Rattle.std.proofs.Common.{sym, ap, subst, ◌∙◌, List, ℕ}
use Rattle.std.specs.Prelude.{Some}
use Rattle.std.specs.Cmp.Lexicographic.{same_text}
use Rattle.bd_message.specs.Effect.{same_key}
use Rattle.bd_leaf.specs.Merging.{IsTaken}
use Rattle.bd_leaf.proofs.Merges.{taken_own, taken_other}
use Rattle.bd_leaf.proofs.merging.taken.Goals as goal

pub returns-then-eq : goal.returns-then-eq
returns-then-eq c =
    subst (λ (v : List ℕ). IsTaken c.args.entries.now c.args.key.now (Some v)) (sym c.as_slice-then-eq.ensures)
    (taken_own c.args.entries.now c.args.key.now c.in-Some.first.now c.requires.rising (sym c.in-Some.ensures.value)
    (same_text c.in-Some.first.now.key c.args.key.now (sym (ap (λ (l : List ℕ). same_key l c.args.key.now) (sym c.as_slice.ensures) ∙ sym c.eq.ensures ∙ c.if-eq.true))))

pub returns-else-eq : goal.returns-else-eq
returns-else-eq c =
    taken_other c.args.entries.now c.args.key.now c.in-Some.first.now c.requires.rising c.requires.least (sym c.in-Some.ensures.value)
    (ap (λ (l : List ℕ). same_key l c.args.key.now) (sym c.as_slice.ensures) ∙ sym c.eq.ensures ∙ c.if-eq.false)
