use Rattle.std.proofs.Common.{◌≡◌, ℕ, ◌<◌, ◌⊎◌, get_or}
use Rattle.std.specs.Prelude.{Contains}
use Rattle.bd_tails.specs.Tails.{used_of}
use Rattle.bd_tails.proofs.tails.Tails.forget_at.Given as goal

abbrev pub invariant-loop-slot : goal.invariant-loop-slot
invariant-loop-slot l =
    record {
      these : (k slot : ℕ) → k < l.slot-index → get_or l.slots k slot ≡ slot → used_of l.self slot ≡ 16;
      others : (slot : ℕ) → (used_of l.self slot ≡ used_of l.initial.self slot) ⊎ ((used_of l.self slot ≡ 16) × Contains l.slots slot);
    }
