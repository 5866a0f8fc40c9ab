-- What is kept of look-ups, where calls change what stands at the keys.
use Rattle.std.proofs.Common.{◌≡◌, ◌⊎◌, inl, inr, ℕ, Bool, not, false, ◌&&◌, cond, List, ◌++◌, Option, None, Some, IfSome, refl, sym, ap, subst, ◌∙◌, Result, Ok, Err, OnOk, OnErr}
use Rattle.bd_device.specs.declared.device.Device.{Ghosts}
use Rattle.bd_keys.specs.Keys.{IsKey}
use Rattle.bd_message.specs.Effect.{acts, begins, no_nodes, rest}
use Rattle.bd_message.specs.KeyMaps.{At, SameAt, IsApplied, IsGrafted, grafted}
use Rattle.bd_message.specs.declared.message.Message.{Message}
use Rattle.bd_recall.specs.Kept.{Findings, kept_for, IsKept, KeepsNone, KeepsUngrafted, KeepsWritten}
use Rattle.bd_engine.specs.Engines.{EngineState, keys_of, HasSoundNodes, IsSoundOn}

-- what holds of what is found for a key holds where it is what is found
each : (fs : Findings) (k : List ℕ) (P Q : Option (List ℕ) → Type 0) → IfSome (kept_for fs k) P → ((found : Option (List ℕ)) → kept_for fs k ≡ Some found → P found → Q found) → IfSome (kept_for fs k) Q
each fs k P Q h f = by (kept_for fs k) refl h
  where
    by : (o : Option (Option (List ℕ))) → kept_for fs k ≡ o → IfSome o P → IfSome o Q
    by None is p = tt
    by (Some found) is p = f found is p

-- what is kept for a key stands there
stands : (at : At) (r : Findings) → IsKept at r → (k : List ℕ) → IsKey k → (found : Option (List ℕ)) → kept_for r k ≡ Some found → at k ≡ found
stands at r kept k is found there = subst (λ (o : Option (Option (List ℕ))). IfSome o (λ f. at k ≡ f)) there (kept k is)

-- what stands there stays so where the same stands at each key
pub kept_on : (old new : At) (r : Findings) → SameAt old new → IsKept old r → IsKept new r
kept_on old new r same kept k is = each r k (λ found. old k ≡ found) (λ found. new k ≡ found) (kept k is) (λ found there here. same k ∙ here)

-- where nothing is kept, all that is stands there
pub kept_none : (at : At) (r : Findings) → KeepsNone r → IsKept at r
kept_none at r none k is = subst (λ (o : Option (Option (List ℕ))). IfSome o (λ found. at k ≡ found)) (sym (none k)) tt

-- what is kept after messages stands there
pub kept_written : (list : List Message) (r s : Findings) → KeepsWritten r list s → (old new : At) → IsApplied old list new → IsKept old r → IsKept new s
kept_written list r s written old new applied kept k is = each s k Written (λ found. new k ≡ found) (written k) (λ found there w. applied k is ∙ by found w)
  where
    Written : Option (List ℕ) → Type 0
    Written found = ((kept_for r k ≡ Some found) × ((o : Option (List ℕ)) → acts no_nodes list k o ≡ o)) ⊎ ((o : Option (List ℕ)) → acts no_nodes list k o ≡ found)

    by : (found : Option (List ℕ)) → Written found → acts no_nodes list k (old k) ≡ found
    by found (inl was) = was.1 (old k) ∙ stands old r kept k is found was.0
    by found (inr all) = all (old k)

-- what is kept over a graft stands there before and after it
module _ (s d : List ℕ) (keep : Bool) (r t : Findings) (outside : KeepsUngrafted r s d keep t) where
  abbrev Outside : List ℕ → Option (List ℕ) → Type 0
  Outside k found = (kept_for r k ≡ Some found) × (begins k d ≡ false) × ((not keep && begins k s) ≡ false)

  pub kept_grafted : (old new : At) → IsGrafted old s d keep new → IsKept old r → IsKept new t
  kept_grafted old new made kept k is =
      each t k (Outside k) (λ found. new k ≡ found) (outside k) (λ found there h.
      let left : grafted old s d keep k ≡ old k = ap (λ b. cond b None (cond (begins k d) (old (s ++ rest d k)) (old k))) h.2 ∙ ap (λ b. cond b (old (s ++ rest d k)) (old k)) h.1 in
      made k is ∙ left ∙ stands old r kept k is found h.0)

  pub kept_outside : (at : At) → IsKept at r → IsKept at t
  kept_outside at kept k is = each t k (Outside k) (λ found. at k ≡ found) (outside k) (λ found there h. stands at r kept k is found h.0)

-- ---- an engine

pub sound_nodes : {D : Type 0} (g : Ghosts D) (e : EngineState D) → IsSoundOn g e → HasSoundNodes g e.pager
sound_nodes g e s = record { known = s.known; sound = s.sound }

-- it is sound where its nodes are, and what it keeps of look-ups stands there
pub sound_with : {D : Type 0} (g : Ghosts D) (e : EngineState D) → HasSoundNodes g e.pager → IsKept (keys_of g e.pager) e.recalled → IsSoundOn g e
sound_with g e s kept = record { known = s.known; sound = s.sound; kept = kept }

-- where what stands at the keys stays, and what is kept
pub sound_same : {D : Type 0} (g : Ghosts D) (old new : EngineState D) → new.recalled ≡ old.recalled → HasSoundNodes g new.pager → SameAt (keys_of g old.pager) (keys_of g new.pager) → IsSoundOn g old → IsSoundOn g new
sound_same g old new recalled nodes same s =
    sound_with g new nodes (subst (λ (r : Findings). IsKept (keys_of g new.pager) r) (sym recalled) (kept_on (keys_of g old.pager) (keys_of g new.pager) old.recalled same s.kept))

-- after messages, also where none were put
pub sound_applied : {D T E : Type 0} (g : Ghosts D) (old new : EngineState D) (list : List Message) (r : Result T E) → OnOk r (KeepsWritten old.recalled list new.recalled) → OnErr r (new.recalled ≡ old.recalled)
    → OnOk r (IsApplied (keys_of g old.pager) list (keys_of g new.pager)) → OnErr r (SameAt (keys_of g old.pager) (keys_of g new.pager)) → HasSoundNodes g new.pager → IsSoundOn g old → IsSoundOn g new
sound_applied g old new list (Ok x) written left applied same nodes s =
    sound_with g new nodes (kept_written list old.recalled new.recalled written (keys_of g old.pager) (keys_of g new.pager) applied s.kept)
sound_applied g old new list (Err e) written left applied same nodes s = sound_same g old new left nodes same s

-- after a graft, also where none was made
pub sound_grafted : {D T E : Type 0} (g : Ghosts D) (old new : EngineState D) (s d : List ℕ) (keep : Bool) (r : Result T E) → KeepsUngrafted old.recalled s d keep new.recalled
    → OnOk r (IsGrafted (keys_of g old.pager) s d keep (keys_of g new.pager)) → OnErr r (SameAt (keys_of g old.pager) (keys_of g new.pager)) → HasSoundNodes g new.pager → IsSoundOn g old → IsSoundOn g new
sound_grafted g old new s d keep (Ok x) outside made same nodes is =
    sound_with g new nodes (kept_grafted s d keep old.recalled new.recalled outside (keys_of g old.pager) (keys_of g new.pager) made is.kept)
sound_grafted g old new s d keep (Err e) outside made same nodes is =
    sound_with g new nodes (kept_on (keys_of g old.pager) (keys_of g new.pager) new.recalled same (kept_outside s d keep old.recalled new.recalled outside (keys_of g old.pager) is.kept))
