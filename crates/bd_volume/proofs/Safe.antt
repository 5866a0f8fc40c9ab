-- What a crash leaves of a volume, over its calls.
use Rattle.std.proofs.Common.{◌≡◌, ℕ, ◌+◌, List, [], ◌∷◌, ◌++◌, length, refl, sym, subst, inl, inr, arith}
use Rattle.std.proofs.lemmas.List.{length-append}
use Rattle.bd_command.specs.Log.{log_record}
use Rattle.bd_command.specs.declared.Command.{Command}
use Rattle.bd_model.specs.Tree.{Tree}
use Rattle.bd_model.specs.Laws.{Accepts, after as tree_after}
use Rattle.bd_device.specs.Blocks.{Image}
use Rattle.bd_device.specs.Device.{left_now, OnlyReads}
use Rattle.bd_device.specs.Moments.{Nothing}
use Rattle.bd_device.specs.declared.device.Device.{Ghosts}
use Rattle.bd_device.proofs.Moments.{goes_on, within, after}
use Rattle.bd_super.specs.declared.superblock.Super.{Super}
use Rattle.bd_log.specs.Logs.{LogState}
use Rattle.bd_image.specs.ImageTree.{ImageStandsFor}
use Rattle.bd_image.specs.Standing.{IsOldOrNew}
use Rattle.bd_image.specs.Versions.{version_of, IsLoggedIn}
use Rattle.bd_image.proofs.Leading.{leads_more}
use Rattle.bd_checkpoint.specs.Kept.{AllStandFor, AllAsBefore, IsWithWaiting, IsWithAllOrNone}
use Rattle.bd_checkpoint.proofs.Handed.{IsSince}
use Rattle.bd_engine.specs.Engines.{EngineState}
use Rattle.bd_volume.specs.declared.volume.Volume.{Volume}
use Rattle.bd_volume.specs.Volume.{IsSafe, IsSafeOn, GoesBy, device_of}

module _ {D : Type 0} (g : Ghosts D) where
  -- ---- reads

  pub read_before : (old new : D) → IsSince g new → OnlyReads g old new → AllAsBefore (left_now g old) (left_now g new)
  read_before old new earlier reads = λ c left. (c, after Nothing (left_now g old) reads.time earlier (λ image is. is) (λ image none. absurd none) c left, λ t n s. s)

  -- ---- what it falls short by

  -- nothing was logged, and an image that a crash leaves is as one of before
  pub safe_before : (a b : EngineState D) (t : Tree) (n : ℕ) → b.live ≡ a.live → b.log ≡ a.log → AllAsBefore (left_now g a.pager.dev) (left_now g b.pager.dev) → IsSafeOn g a t n → IsSafeOn g b t n
  safe_before a b t n live log before s =
      let left : Image → Type 0 = left_now g b.pager.dev in
      subst (λ (l : LogState). IsSafe (version_of b.live) l.waiting left t n) (sym log)
      (subst (λ (l : Super). IsSafe (version_of l) a.log.waiting left t n) (sym live) (record {
        safe = s.safe;
        low = s.low;
        each = λ c now. (before c now).2 s.safe s.low (s.each (before c now).0 (before c now).1);
        leads = s.leads;
        counted = s.counted;
      }))

  -- each image stands for the tree itself, and nothing waits
  pub safe_now : (b : EngineState D) (t : Tree) (n : ℕ) → AllStandFor t n (left_now g b.pager.dev) → b.log.waiting ≡ [] → IsSafeOn g b t n
  safe_now b t n kept none =
      subst (λ (w : List (List ℕ)). IsSafe (version_of b.live) w (left_now g b.pager.dev) t n) (sym none)
      (record { safe = t; low = n; each = kept; leads = refl; counted = omega arith })

  -- one record more waits
  pub safe_logged : (a b : EngineState D) (c : Command) (t : Tree) (n : ℕ) → IsLoggedIn (version_of a.live) c → Accepts t c → b ≡ record a { log = record a.log { waiting = a.log.waiting ++ log_record c ∷ [] } }
      → IsSafeOn g a t n → IsSafeOn g b (tree_after t c) (n + 1)
  safe_logged a b c t n fits accepts is s =
      let more : length (a.log.waiting ++ log_record c ∷ []) ≡ length a.log.waiting + 1 = length-append a.log.waiting (log_record c ∷ []) in
      subst (λ (e : EngineState D). IsSafeOn g e (tree_after t c) (n + 1)) (sym is) (record {
        safe = s.safe;
        low = s.low;
        each = s.each;
        leads = leads_more (version_of a.live) a.log.waiting (log_record c ∷ []) s.safe t (tree_after t c) s.leads (c, fits, refl, accepts, refl);
        counted = omega (arith, s.counted, more);
      })

  -- an image with the records that wait stands for the tree itself
  pub with_waiting : (a : EngineState D) (t : Tree) (n : ℕ) → IsSafeOn g a t n → (c : Image) → IsWithWaiting a.live a.log (left_now g a.pager.dev) c → ImageStandsFor t n c
  with_waiting a t n s c has =
      subst (λ (k : ℕ). ImageStandsFor t k c) (sym s.counted) (has.2 s.safe t s.low (s.each has.0 has.1) s.leads)

  pub all_or_none : (a : EngineState D) (t : Tree) (n : ℕ) → IsSafeOn g a t n → (c : Image) → IsWithAllOrNone a.live a.log (left_now g a.pager.dev) c → IsOldOrNew (left_now g a.pager.dev) t n c
  all_or_none a t n s c has = elim has [ inl was ↦ inl was | inr now ↦ inr (with_waiting a t n s c now) ]

  -- ---- inside the calls

  pub no_time : (a : Volume D) (t : Tree) (n : ℕ) → GoesBy g a a t n
  no_time a t n = record { later = omega arith; keeps = λ u c le left. left; adds = λ u c le left. inl left }

  pub reads_by : (a b : Volume D) (t : Tree) (n : ℕ) → OnlyReads g (device_of a) (device_of b) → GoesBy g a b t n
  reads_by a b t n reads = within Nothing (IsOldOrNew (left_now g (device_of a)) t n) reads.time (λ image none. absurd none)

  -- an image as one of the middle is as one of the first, or was left inside
  old_or_new : (a b : Volume D) (t : Tree) (n : ℕ) → IsSince g (device_of b) → GoesBy g a b t n → (c : Image) → IsOldOrNew (left_now g (device_of b)) t n c → IsOldOrNew (left_now g (device_of a)) t n c
  old_or_new a b t n earlier p c (inr stands) = inr stands
  old_or_new a b t n earlier p c (inl was) =
      let calls : ℕ = g.call_count (device_of a) in
      elim (p.adds calls was.0 (omega arith) (earlier calls (g.call_count (device_of b)) was.0 p.later was.1)) [
        | inl first ↦ inl (was.0, first, was.2)
        | inr inside ↦ elim inside [
          | inl before ↦ inl (before.0, before.1, λ u m s. was.2 u m (before.2 u m s))
          | inr stands ↦ inr (was.2 t n stands)
        ]
      ]

  pub goes_by_then : (a b d : Volume D) (t : Tree) (n : ℕ) → IsSince g (device_of b) → GoesBy g a b t n → GoesBy g b d t n → GoesBy g a d t n
  goes_by_then a b d t n earlier p q =
      goes_on (IsOldOrNew (left_now g (device_of a)) t n) (IsOldOrNew (left_now g (device_of b)) t n) p q (old_or_new a b t n earlier p)
