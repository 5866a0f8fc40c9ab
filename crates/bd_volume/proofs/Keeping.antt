-- What a volume stands for, over its calls.
use Rattle.std.proofs.Common.{◌≡◌, ℕ, [], ◌∷◌, ◌++◌, None, Some, refl, sym, subst, ap, ◌∙◌, inl, inr}
use Rattle.std.specs.Prelude.{◌⊎◌}
use Rattle.bd_command.specs.Log.{log_record}
use Rattle.bd_command.specs.declared.Command.{Command}
use Rattle.bd_model.specs.Tree.{Tree}
use Rattle.bd_message.specs.KeyMaps.{SameAt}
use Rattle.bd_message.specs.declared.fault.MapFault.{MapFault}
use Rattle.bd_message.specs.declared.fault.MapFault.TheVariants as map
use Rattle.bd_device.specs.Device.{left_now, Goes, OnlyReads}
use Rattle.bd_device.specs.declared.device.Device.{Ghosts}
use Rattle.bd_image.specs.Standing.{IsOldOrNew}
use Rattle.bd_image.specs.Versions.{version_of, IsLoggedIn}
use Rattle.bd_checkpoint.specs.Kept.{AllStandFor, AreOfTree}
use Rattle.bd_checkpoint.proofs.Handed.{IsSince}
use Rattle.bd_pager.specs.Pagers.{nodes_of, table_of, is_known}
use Rattle.bd_engine.specs.Engines.{EngineState, keys_of, IsSoundOn, IsReadOn, OnlyNodesOn, IsStopped, IsGoingOn, IsBegunAnew}
use Rattle.bd_volume.specs.declared.volume.Volume.{Volume}
use Rattle.bd_volume.specs.Volume.{StandsFor, IsSafeOn, KeepsKeys, count_of, device_of, stop_of}
use Rattle.bd_volume.specs.Steps.{StillStands, KeepsStanding, HasLogged}
use Rattle.bd_volume.proofs.Read.{read_same, stands_same}
use Rattle.bd_volume.proofs.Safe.{read_before, safe_before, safe_now, safe_logged, no_time, reads_by, goes_by_then}

module _ {D : Type 0} (g : Ghosts D) where
  pub keeps_none : (a : Volume D) → KeepsStanding g a a
  keeps_none a = λ t n s. record { stands = s; time = no_time g a t n }

  pub keeps_then : (a b d : Volume D) → IsSince g (device_of b) → KeepsStanding g a b → KeepsStanding g b d → KeepsStanding g a d
  keeps_then a b d earlier p q = λ t n s.
      let first : StillStands g a b t n = p t n s in
      let next : StillStands g b d t n = q t n first.stands in
      record { stands = next.stands; time = goes_by_then g a b d t n earlier first.time next.time }

  -- ---- keys

  pub keys_none : (a : Volume D) → KeepsKeys g a a
  keys_none a = record { sound = λ s. s; same = λ s k. refl }

  pub keys_then : (a b d : Volume D) → KeepsKeys g a b → KeepsKeys g b d → KeepsKeys g a d
  keys_then a b d p q = record { sound = λ s. q.sound (p.sound s); same = λ s k. q.same (p.sound s) k ∙ p.same s k }

  -- ---- calls that write nothing

  -- what was safe is so
  pub safe_same : (a b : EngineState D) (t : Tree) (n : ℕ) → IsSince g b.pager.dev → OnlyReads g a.pager.dev b.pager.dev → b.live ≡ a.live → b.log ≡ a.log → b.stop ≡ a.stop
      → (a.stop ≡ None → IsSafeOn g a t n) → b.stop ≡ None → IsSafeOn g b t n
  safe_same a b t n earlier reads live log stop s on = safe_before g a b t n live log (read_before g a.pager.dev b.pager.dev earlier reads) (s (sym stop ∙ on))

  pub keeps_over : (a b : Volume D) → IsSince g (device_of b) → OnlyReads g (device_of a) (device_of b) → b.engine.live ≡ a.engine.live → b.engine.log ≡ a.engine.log → stop_of b ≡ stop_of a
      → (IsSoundOn g a.engine → IsSoundOn g b.engine) → (IsSoundOn g a.engine → SameAt (keys_of g a.engine.pager) (keys_of g b.engine.pager)) → count_of b ≡ count_of a → KeepsStanding g a b
  keeps_over a b earlier reads live log stop sound same count = λ t n s. record {
    stands = stands_same g a b t n s (sound s.nodes) (same s.nodes) count (safe_same a.engine b.engine t n earlier reads live log stop s.safe);
    time = reads_by g a b t n reads;
  }

  pub keeps_read : (a b : Volume D) → IsSince g (device_of b) → IsReadOn g a.engine b.engine → count_of b ≡ count_of a → KeepsStanding g a b
  keeps_read a b earlier r count =
      keeps_over a b earlier r.read.device (ap (λ (e : EngineState D). e.live) r.rest) (ap (λ (e : EngineState D). e.log) r.rest) (ap (λ (e : EngineState D). e.stop) r.rest)
      r.sound (λ s. read_same g a.engine b.engine r) count

  pub keeps_nodes : (a b : Volume D) → IsSince g (device_of b) → OnlyNodesOn g a.engine b.engine → (IsSoundOn g a.engine → IsSoundOn g b.engine)
      → (IsSoundOn g a.engine → SameAt (keys_of g a.engine.pager) (keys_of g b.engine.pager)) → count_of b ≡ count_of a → KeepsStanding g a b
  keeps_nodes a b earlier r sound same count =
      keeps_over a b earlier r.keeps.device (ap (λ (e : EngineState D). e.live) r.rest) (ap (λ (e : EngineState D). e.log) r.rest) (ap (λ (e : EngineState D). e.stop) r.rest) sound same count

  -- ---- checkpoints

  of_tree : (a : Volume D) (t : Tree) (n : ℕ) → StandsFor g a t n → AreOfTree (nodes_of g a.engine.pager) (table_of a.engine.pager) t
  of_tree a t n s = record { sound = s.nodes.sound; is_tree = s.is_tree; represents = s.represents }

  -- inside one, made or not, an image is as one of before, or stands for the tree
  save_time : (a b : Volume D) (t : Tree) (n : ℕ)
      → ((tree : Tree) → is_known g a.engine.pager → AreOfTree (nodes_of g a.engine.pager) (table_of a.engine.pager) tree → Goes g (device_of a) (device_of b) (IsOldOrNew (left_now g (device_of a)) tree a.count))
      → StandsFor g a t n → Goes g (device_of a) (device_of b) (IsOldOrNew (left_now g (device_of a)) t n)
  save_time a b t n time s =
      subst (λ (k : ℕ). Goes g (device_of a) (device_of b) (IsOldOrNew (left_now g (device_of a)) t k)) s.count_is (time t s.nodes.known (of_tree a t n s))

  pub save_kept : (a b : Volume D) (t : Tree) (n : ℕ) → ((tree : Tree) → is_known g a.engine.pager → AreOfTree (nodes_of g a.engine.pager) (table_of a.engine.pager) tree → AllStandFor tree a.count (left_now g (device_of b)))
      → StandsFor g a t n → AllStandFor t n (left_now g (device_of b))
  save_kept a b t n kept s = subst (λ (k : ℕ). AllStandFor t k (left_now g (device_of b))) s.count_is (kept t s.nodes.known (of_tree a t n s))

  -- one was made
  pub keeps_saved : (a b : Volume D) → (IsSoundOn g a.engine → IsSoundOn g b.engine) → (IsSoundOn g a.engine → SameAt (keys_of g a.engine.pager) (keys_of g b.engine.pager)) → count_of b ≡ count_of a
      → ((tree : Tree) → is_known g a.engine.pager → AreOfTree (nodes_of g a.engine.pager) (table_of a.engine.pager) tree → Goes g (device_of a) (device_of b) (IsOldOrNew (left_now g (device_of a)) tree a.count))
      → ((tree : Tree) → is_known g a.engine.pager → AreOfTree (nodes_of g a.engine.pager) (table_of a.engine.pager) tree → AllStandFor tree a.count (left_now g (device_of b)))
      → IsBegunAnew b.engine → KeepsStanding g a b
  keeps_saved a b sound same count time kept anew = λ t n s. record {
    stands = stands_same g a b t n s (sound s.nodes) (same s.nodes) count (λ on. safe_now g b.engine t n (save_kept a b t n kept s) anew.waiting);
    time = save_time a b t n time s;
  }

  not_going : {A : Type 0} (b : EngineState D) (call : ℕ) → b.stop ≡ Some call → b.stop ≡ None → A
  not_going b call off on =
      let bad : ⊥ = cc in
      absurd bad

  -- none was made
  pub keeps_unsaved : (a b : Volume D) (fault : MapFault) → stop_of a ≡ None → (IsSoundOn g a.engine → IsSoundOn g b.engine) → (IsSoundOn g a.engine → SameAt (keys_of g a.engine.pager) (keys_of g b.engine.pager)) → count_of b ≡ count_of a
      → ((tree : Tree) → is_known g a.engine.pager → AreOfTree (nodes_of g a.engine.pager) (table_of a.engine.pager) tree → Goes g (device_of a) (device_of b) (IsOldOrNew (left_now g (device_of a)) tree a.count))
      → (IsStopped g a.engine b.engine × (fault ≡ map.DeviceFault)) ⊎ IsGoingOn g a.engine b.engine → b.engine.live ≡ a.engine.live → b.engine.log ≡ a.engine.log → KeepsStanding g a b
  keeps_unsaved a b fault going sound same count time stop live log = λ t n s. record {
    stands = stands_same g a b t n s (sound s.nodes) (same s.nodes) count (λ on. elim stop [
      | inl halted ↦ not_going b.engine (g.call_count (device_of b)) halted.0.stop_is on
      | inr goes ↦ safe_before g a.engine b.engine t n live log goes.kept (s.safe going)
    ]);
    time = save_time a b t n time s;
  }

  -- ---- a command that was logged

  pub logs_on : (a b d e : Volume D) (c : Command) → IsSince g (device_of b) → IsSince g (device_of d) → KeepsStanding g a b → stop_of b ≡ None → OnlyNodesOn g b.engine d.engine → IsLoggedIn (version_of d.engine.live) c
      → e.engine ≡ record d.engine { log = record d.engine.log { waiting = d.engine.log.waiting ++ log_record c ∷ [] } } → HasLogged g c a e
  logs_on a b d e c earlier then_earlier keeps going only fits is = λ t n s accepts.
      let first : StillStands g a b t n = keeps t n s in
      let safe : IsSafeOn g d.engine t n = safe_same b.engine d.engine t n then_earlier only.keeps.device (ap (λ (x : EngineState D). x.live) only.rest) (ap (λ (x : EngineState D). x.log) only.rest) (ap (λ (x : EngineState D). x.stop) only.rest) first.stands.safe
      (ap (λ (x : EngineState D). x.stop) only.rest ∙ going) in
      let same : device_of d ≡ device_of e = sym (ap (λ (x : EngineState D). x.pager.dev) is) in
      record {
        safe = safe_logged g d.engine e.engine c t n fits accepts is safe;
        time = subst (λ (x : D). Goes g (device_of a) x (IsOldOrNew (left_now g (device_of a)) t n)) same (goes_by_then g a b d t n earlier first.time (reads_by g b d t n only.keeps.device));
      }
