-- What a sync leaves of a volume.
use Rattle.std.proofs.Common.{◌≡◌, ℕ, ◌≤◌, [], None, Some, refl, ap, ◌∙◌, inr, arith}
use Rattle.std.specs.Prelude.{Ok, Err}
use Rattle.bd_model.specs.Tree.{Tree}
use Rattle.bd_message.specs.KeyMaps.{SameAt}
use Rattle.bd_device.specs.Blocks.{Image}
use Rattle.bd_device.specs.Device.{left_now, Goes, Stays, LastFailed}
use Rattle.bd_device.specs.declared.device.Device.{Ghosts}
use Rattle.bd_device.proofs.Moments.{within}
use Rattle.bd_image.specs.Standing.{IsOldOrNew}
use Rattle.bd_checkpoint.specs.Kept.{AllStandFor, IsWithWaiting, IsWithAllOrNone}
use Rattle.bd_node.specs.Meaning.{Nodes}
use Rattle.bd_node.specs.Tables.{Table, root_at}
use Rattle.bd_pager.specs.Pagers.{Paged, nodes_of, table_of}
use Rattle.bd_engine.specs.Engines.{EngineState, keys_of, KeepsNodesOn, IsStopped}
use Rattle.bd_engine.specs.Writes.{WritesOn}
use Rattle.bd_volume.specs.declared.fault.Fault.TheVariants.{Device}
use Rattle.bd_volume.specs.declared.volume.Volume.{Volume}
use Rattle.bd_volume.specs.Volume.{StandsFor, GoesBy, count_of, device_of, stop_of}
use Rattle.bd_volume.specs.Steps.{Ends}
use Rattle.bd_volume.proofs.Read.{stands_same}
use Rattle.bd_volume.proofs.Safe.{safe_now, with_waiting, all_or_none}

module _ {D : Type 0} (g : Ghosts D) where
  -- ---- nodes

  same_table : (a b : EngineState D) → KeepsNodesOn g a b → table_of b.pager ≡ table_of a.pager
  same_table a b h = ap (λ (p : Paged D). table_of p) h.pager.rest

  pub same_keys : (a b : EngineState D) → KeepsNodesOn g a b → SameAt (keys_of g a.pager) (keys_of g b.pager)
  same_keys a b h k =
      ap (λ (m : Nodes). root_at m (table_of b.pager) k) h.pager.nodes ∙ ap (λ (t : Table). root_at (nodes_of g a.pager) t k) (same_table a b h)

  -- ---- what a crash leaves

  pub sync_time : (a b : Volume D) (t : Tree) (n : ℕ) → stop_of a ≡ None → Goes g (device_of a) (device_of b) (IsWithAllOrNone a.engine.live a.engine.log (left_now g (device_of a))) → StandsFor g a t n → GoesBy g a b t n
  sync_time a b t n going time s = within (IsWithAllOrNone a.engine.live a.engine.log (left_now g (device_of a))) (IsOldOrNew (left_now g (device_of a)) t n) time (all_or_none g a.engine t n (s.safe going))

  pub sync_kept : (a b : Volume D) (t : Tree) (n : ℕ) → stop_of a ≡ None → ((c : Image) → left_now g (device_of b) c → IsWithWaiting a.engine.live a.engine.log (left_now g (device_of a)) c) → StandsFor g a t n → AllStandFor t n (left_now g (device_of b))
  sync_kept a b t n going kept s = λ c left. with_waiting g a.engine t n (s.safe going) c (kept c left)

  pub sync_stands : (a b : Volume D) (t : Tree) (n : ℕ) → stop_of a ≡ None → KeepsNodesOn g a.engine b.engine → ((c : Image) → left_now g (device_of b) c → IsWithWaiting a.engine.live a.engine.log (left_now g (device_of a)) c) → b.engine.log.waiting ≡ [] → count_of b ≡ count_of a
      → StandsFor g a t n → StandsFor g b t n
  sync_stands a b t n going nodes kept none count s =
      stands_same g a b t n s (nodes.sound s.nodes) (same_keys a.engine b.engine nodes) count (λ on. safe_now g b.engine t n (sync_kept a b t n going kept s) none)

  not_going : {A : Type 0} (b : Volume D) (call : ℕ) → stop_of b ≡ Some call → stop_of b ≡ None → A
  not_going b call off on =
      let bad : ⊥ = cc in
      absurd bad

  pub stopped_stands : (a b : Volume D) (t : Tree) (n : ℕ) → KeepsNodesOn g a.engine b.engine → IsStopped g a.engine b.engine → count_of b ≡ count_of a → StandsFor g a t n → StandsFor g b t n
  stopped_stands a b t n nodes stop count s =
      stands_same g a b t n s (nodes.sound s.nodes) (same_keys a.engine b.engine nodes) count (λ on. not_going b (g.call_count (device_of b)) stop.stop_is on)

  -- ---- how it ends

  pub sync_well : {T : Type 0} (a b : Volume D) (x : T) → g.fault_count (device_of b) ≡ g.fault_count (device_of a) → stop_of b ≡ None → g.write_fault_count (device_of b) ≡ g.write_fault_count (device_of a) → Stays g (device_of a) (device_of b) → WritesOn g a.engine b.engine → Ends {T = T} g a b (Ok x)
  sync_well a b x faults going write_faults stays writes = record {
    cause = record { later = omega (arith, faults); kept = faults; failed = tt };
    stop = record { ok = record { stop_is = going; write_faults = write_faults }; err = tt };
    stays = stays;
    writes = writes;
  }

  pub sync_fails : {T : Type 0} (a b : Volume D) → g.fault_count (device_of a) ≤ g.fault_count (device_of b) → LastFailed g (device_of a) (device_of b) → IsStopped g a.engine b.engine → Stays g (device_of a) (device_of b) → WritesOn g a.engine b.engine → Ends {T = T} g a b (Err Device)
  sync_fails a b later failed stop stays writes = record {
    cause = record { later = later; kept = tt; failed = failed };
    stop = record { ok = tt; err = inr (record { stop_is = stop.stop_is; write_faults = stop.write_faults; failed = failed }, refl) };
    stays = stays;
    writes = writes;
  }
