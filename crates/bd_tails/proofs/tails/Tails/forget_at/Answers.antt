use Rattle.std.proofs.Common.{ℕ, List, ◌≡◌, ◌⊎◌, sym, subst}
use Rattle.std.specs.Prelude.{Contains}
use Rattle.bd_tails.specs.Tails.{used_at}
use Rattle.bd_tails.proofs.Known.{forgot_these, forgot_others}
use Rattle.bd_tails.proofs.tails.Tails.forget_at.Goals as goal

pub loop-slot-preserved : goal.loop-slot-preserved
loop-slot-preserved c =
    let slots = c.args.slots.now in
    let used = c.loop-slot.self.used.items in
    let first = c.args.self.now.used.items in
    let i = c.loop-slot.slot-index in
    let was = c.loop-slot.invariant in
    record {
      these = λ k slot lt at. subst (λ (l : List ℕ). used_at l slot ≡ 16) (sym c.note.ensures) (forgot_these slots used i k slot was.these lt at c.loop-slot-test.true);
      others = λ slot. subst (λ (l : List ℕ). (used_at l slot ≡ used_at first slot) ⊎ ((used_at l slot ≡ 16) × Contains slots slot)) (sym c.note.ensures)
          (forgot_others slots first used i slot c.loop-slot-test.true (was.others slot));
    }
