-- What a sync leaves of an engine, and what then holds.
use Rattle.std.proofs.Common.{◌≡◌, ℕ, length, Option, None, Some, Result, Ok, Err, OnOk, OnErr, refl, sym, ap, subst, ◌∙◌}
use Rattle.std.specs.List.{concat, AllByRecursion}
use Rattle.bd_device.specs.Calls.{faults_after}
use Rattle.bd_device.specs.Device.{Stays}
use Rattle.bd_device.specs.declared.device.Device.{Ghosts}
use Rattle.bd_table.specs.Tables.{IsTableAt}
use Rattle.bd_log.specs.Batches.{IsLogRecord}
use Rattle.bd_log.specs.Logs.{LogState, after_sync}
use Rattle.bd_message.specs.KeyMaps.{SameAt}
use Rattle.bd_node.specs.Meaning.{Nodes}
use Rattle.bd_node.specs.Tables.{Table, IsSound, root_at}
use Rattle.bd_pager.specs.Pagers.{Paged, cache_room, nodes_of, table_of}
use Rattle.bd_image.specs.Versions.{version_of}
use Rattle.bd_checkpoint.specs.Kept.{Saved, IsOpenOn}
use Rattle.bd_checkpoint.specs.Recovering.{saved_of}
use Rattle.bd_checkpoint.specs.Surviving.{SurvivesOn}
use Rattle.bd_view.specs.Moves.{synced}
use Rattle.bd_view.specs.Views.{View}
use Rattle.bd_shown.specs.Shown.{ids_of}
use Rattle.bd_engine.specs.Engines.{EngineState, seen, view_of, keys_of, stop_by, IsStanding, IsStopped, KeepsNodesOn}
use Rattle.bd_engine.proofs.Damage.{no_worse_survives}
use Rattle.bd_engine.proofs.Recalls.{sound_same}

-- after a sync a view has the place of the log
abbrev pub HasPlace : Type 0
HasPlace = (log : LogState) (v : View) → AllByRecursion IsLogRecord log.waiting → v.place ≡ log.place → v.waiting ≡ length (concat log.waiting) → (synced v).place ≡ (after_sync log).place

module _ {D : Type 0} (g : Ghosts D) (old : EngineState D) (p : Paged D) (log : LogState) (k : SurvivesOn g old.pager p) where
  same_saved : saved_of old.pager ≡ saved_of p
  same_saved = sym (ap (λ (q : Paged D). saved_of q) k.rest)

  standing_with : (stop : Option ℕ) → IsStanding g old → old.stop ≡ None → Stays g old.pager.dev p.dev → AllByRecursion IsLogRecord log.waiting → (stop ≡ None → IsOpenOn g p.dev old.live (saved_of old.pager) log) → IsStanding g (seen p old.recalled log old.live stop old.walk old.flushes)
  standing_with stop h on stays records given = record {
    fits = h.fits;
    size = stays.count ∙ h.size;
    slots = ap (λ (q : Paged D). length q.spare) k.rest ∙ h.slots;
    table = subst (λ (s : Saved). IsTableAt old.live.slots s.at s.table) same_saved h.table;
    unlent = ap (λ (q : Paged D). q.is_lent) k.rest ∙ h.unlent;
    room = ap (λ (q : Paged D). cache_room q) k.rest ∙ h.room;
    records = records;
    going = λ none. subst (λ (s : Saved). IsOpenOn g p.dev old.live s log) same_saved (given none);
    no_worse = λ none. no_worse_survives g old.pager p k (h.no_worse on);
  }

  view_with : (stop : Option ℕ) (v : View) → v.tree ≡ (view_of g old).tree → v.saved ≡ (view_of g old).saved → v.slots ≡ (view_of g old).slots → v.version ≡ (view_of g old).version → v.epoch ≡ (view_of g old).epoch → log.place ≡ v.place → length (concat log.waiting) ≡ v.waiting
      → view_of g (seen p old.recalled log old.live stop old.walk old.flushes) ≡ v
  view_with stop v tree saved slots version epoch place waiting =
      (λ i. record {
        tree = record { nodes = k.nodes i; table = table_of (k.rest i); walk = old.walk };
        saved = ids_of (k.rest i).saved.entries;
        slots = length (k.rest i).spare;
        version = version_of old.live;
        epoch = old.live.epoch;
        place = log.place;
        waiting = length (concat log.waiting);
      })
      ∙ (λ i. record { tree = sym tree i; saved = sym saved i; slots = sym slots i; version = sym version i; epoch = sym epoch i; place = place i; waiting = waiting i })

module _ {D T E : Type 0} (g : Ghosts D) (old : EngineState D) (p : Paged D) (log : LogState) where
  pub synced_standing : (r : Result T E) → SurvivesOn g old.pager p → IsStanding g old → old.stop ≡ None → Stays g old.pager.dev p.dev → OnOk r (log ≡ after_sync old.log) → OnErr r (log ≡ old.log) → OnOk r (IsOpenOn g p.dev old.live (saved_of old.pager) log)
      → IsStanding g (seen p old.recalled log old.live (stop_by (g.call_count p.dev) r) old.walk old.flushes)
  synced_standing (Ok done) k h on stays ok err given =
      standing_with g old p log k None h on stays (subst (λ (l : LogState). AllByRecursion IsLogRecord l.waiting) (sym ok) tt) (λ none. given)
  synced_standing (Err fault) k h on stays ok err given =
      standing_with g old p log k (Some (g.call_count p.dev)) h on stays (subst (λ (l : LogState). AllByRecursion IsLogRecord l.waiting) (sym err) h.records) (λ none. absurd (is_some none))
    where
      is_some : {n : ℕ} → Some n ≡ None → ⊥
      is_some none = cc

  pub synced_view : HasPlace → (r : Result T E) (stop : Option ℕ) → SurvivesOn g old.pager p → IsStanding g old → OnOk r (log ≡ after_sync old.log) → OnOk r (view_of g (seen p old.recalled log old.live stop old.walk old.flushes) ≡ synced (view_of g old))
  synced_view law (Ok done) stop k h ok =
      view_with g old p log k stop (synced (view_of g old)) refl refl refl refl refl
      (ap (λ (l : LogState). l.place) ok ∙ sym (law old.log (view_of g old) h.records refl refl))
      (ap (λ (l : LogState). length (concat l.waiting)) ok)
  synced_view law (Err fault) stop k h ok = tt

  pub failed_view : (r : Result T E) (stop : Option ℕ) → SurvivesOn g old.pager p → OnErr r (log ≡ old.log) → OnErr r (view_of g (seen p old.recalled log old.live stop old.walk old.flushes) ≡ view_of g old)
  failed_view (Ok done) stop k err = tt
  failed_view (Err fault) stop k err =
      view_with g old p log k stop (view_of g old) refl refl refl refl refl (ap (λ (l : LogState). l.place) err) (ap (λ (l : LogState). length (concat l.waiting)) err)

  pub goes_ok : (r : Result T E) → OnOk r (stop_by (g.call_count p.dev) r ≡ None)
  goes_ok (Ok done) = refl
  goes_ok (Err fault) = tt

  pub stops_err : (r : Result T E) → g.write_fault_count p.dev ≡ faults_after (g.write_fault_count old.pager.dev) r → OnErr r (IsStopped g old (seen p old.recalled log old.live (stop_by (g.call_count p.dev) r) old.walk old.flushes))
  stops_err (Ok done) faults = tt
  stops_err (Err fault) faults = record { stop_is = refl; write_faults = faults }

-- ---- nodes

-- those that survive with what was kept of look-ups are sound as before
pub keeps_nodes_on : {D : Type 0} (g : Ghosts D) (old new : EngineState D) → SurvivesOn g old.pager new.pager → new.recalled ≡ old.recalled → new.live ≡ old.live → new.walk ≡ old.walk → new.flushes ≡ old.flushes → KeepsNodesOn g old new
keeps_nodes_on {D} g old new k recalled live walk flushes = record {
  pager = k;
  sound = λ s. sound_same g old new recalled (record { known = k.known s.known; sound = sound s.sound }) same s;
  live = live;
  walk = walk;
  flushes = flushes;
}
  where
    table : table_of new.pager ≡ table_of old.pager
    table = ap (λ (p : Paged D). table_of p) k.rest

    sound : IsSound (nodes_of g old.pager) (table_of old.pager) → IsSound (nodes_of g new.pager) (table_of new.pager)
    sound s = subst (λ (m : Nodes). IsSound m (table_of new.pager)) (sym k.nodes) (subst (λ (t : Table). IsSound (nodes_of g old.pager) t) (sym table) s)

    same : SameAt (keys_of g old.pager) (keys_of g new.pager)
    same key = ap (λ (m : Nodes). root_at m (table_of new.pager) key) k.nodes ∙ ap (λ (t : Table). root_at (nodes_of g old.pager) t key) table
