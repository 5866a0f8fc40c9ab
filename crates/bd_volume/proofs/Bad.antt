-- No call of a replay turns a block bad.
use Rattle.std.proofs.Common.{ℕ, inl, inr}
use Rattle.bd_device.specs.declared.device.Device.{Ghosts}
use Rattle.bd_pager.specs.Calling.{read_keeps}
use Rattle.bd_pager.specs.Keeping.{KeepsSaved}
use Rattle.bd_pager.specs.Pagers.{is_bad}
use Rattle.bd_pager.proofs.DamageLemmas.{first_kept}
use Rattle.bd_engine.specs.Engines.{EngineState, IsSoundOn, IsBadOn, IsReadOn, WritesEarly}
use Rattle.bd_volume.specs.Replays.{KeepsGood}

module _ {D : Type 0} (g : Ghosts D) where
  pub good_same : (a : EngineState D) → KeepsGood g a a
  good_same a = record { known = λ known. known; bad = λ known id b bad. bad; first = λ b first. first }

  pub good_both : (a b d : EngineState D) → KeepsGood g a b → KeepsGood g b d → KeepsGood g a d
  good_both a b d p q = record {
    known = λ known. q.known (p.known known);
    bad = λ known id b bad. p.bad known id b (q.bad (p.known known) id b bad);
    first = λ b first. p.first b (q.first b first);
  }

  pub good_kept : (a b : EngineState D) → KeepsSaved g a.pager b.pager → KeepsGood g a b
  good_kept a b h = record { known = h.known; bad = h.bad; first = first_kept g a.pager b.pager h }

  pub good_read : (a b : EngineState D) → IsReadOn g a b → KeepsGood g a b
  good_read a b h = good_kept a b (read_keeps g a.pager b.pager h.read)

  pub good_early : (a b : EngineState D) → WritesEarly g a b → KeepsGood g a b
  good_early a b h = record { known = h.known; bad = h.bad; first = h.first }

  -- a bad block of the nodes is one of the engine
  pub bad_on : (e : EngineState D) (block : ℕ) → is_bad g e.pager block → IsBadOn g e block
  bad_on e block bad = λ known. elim (bad known) [
    | inl spot ↦ inl spot
    | inr first ↦ inr (first.0, λ s. first.1 s.sound)
  ]

  -- and what is bad after a call was bad before it
  pub bad_before : (a b : EngineState D) (block : ℕ) → KeepsGood g a b → (IsSoundOn g a → IsSoundOn g b) → IsBadOn g b block → IsBadOn g a block
  bad_before a b block good sound bad = λ known. elim (bad (good.known known)) [
    | inl spot ↦ inl (spot.0, good.bad known spot.0 block spot.1)
    | inr first ↦ inr (good.first block first.0, λ s. first.1 (sound s))
  ]
