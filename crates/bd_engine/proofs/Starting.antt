-- What an engine starts with.
use Rattle.std.proofs.Common.{◌≡◌, ℕ, false, List, [], ◌∷◌, ◌++◌, map, length, Option, None, Some, IfSome, refl, sym, ap, subst, ◌∙◌}
use Rattle.std.specs.List.{concat, AllByRecursion}
use Rattle.std.specs.Prelude.{IsSome}
use Rattle.bd_limits.specs.Limits.{cached_limit}
use Rattle.bd_limits.specs.Places.{first_log_block}
use Rattle.bd_model.specs.Tree.{Tree}
use Rattle.bd_device.specs.Blocks.{Image}
use Rattle.bd_device.specs.declared.device.Device.{Ghosts}
use Rattle.bd_files.specs.Roots.{root_messages}
use Rattle.bd_node.specs.New.{new_table}
use Rattle.bd_node.specs.Steps.{with_touched, grown}
use Rattle.bd_node.specs.Tables.{Table, IsSound, sum_below}
use Rattle.bd_table.specs.Tables.{AreFreeSlots, IsTableAt, slots_of}
use Rattle.bd_super.specs.Live.{IsLive}
use Rattle.bd_super.specs.Superblocks.{log_block}
use Rattle.bd_super.specs.declared.superblock.Super.{Super}
use Rattle.bd_log.specs.Batches.{IsLogRecord, AreBatches}
use Rattle.bd_log.specs.Logs.{LogState, fresh_log}
use Rattle.bd_pager.specs.Opened.{IsOpened}
use Rattle.bd_pager.specs.Calling.{read_keeps}
use Rattle.bd_pager.specs.Pagers.{Paged, cache_room, spots_of, nodes_of, table_of, is_known, AreEntriesOf, IsPaged, IsReadOf}
use Rattle.bd_image.specs.Versions.{version_of}
use Rattle.bd_image.specs.Fresh.{first_super, fresh_nodes}
use Rattle.bd_image.specs.ImageTree.{records_of, HasTree, ImageStandsFor}
use Rattle.bd_image.specs.Damage.{placed_records, unplaced}
use Rattle.bd_image.proofs.Leading.{records_placed}
use Rattle.bd_command.specs.Log.{log_record}
use Rattle.bd_log.specs.declared.batch.Batch.{Batch}
use Rattle.bd_checkpoint.specs.Commands.{records_for, AreCommandsOf}
use Rattle.bd_checkpoint.specs.declared.commands.PlacedCommand.{PlacedCommand}
use Rattle.bd_checkpoint.specs.Kept.{slots_held, IsOpenOn, StartsAs}
use Rattle.bd_checkpoint.specs.Recovering.{saved_of, AreStored}
use Rattle.bd_checkpoint.proofs.Handed.{IsSince}
use Rattle.bd_checkpoint.proofs.Starting.{PartsAreOne, recovered}
use Rattle.bd_view.specs.Trees.{fresh_tree}
use Rattle.bd_view.specs.Views.{kept_ids, fresh_view}
use Rattle.bd_shown.specs.Shown.{ids_of, IsCheckpointed}
use Rattle.bd_shown.proofs.Saved.{AreListed, kept_saved}
use Rattle.bd_recall.specs.Kept.{Findings}
use Rattle.bd_engine.specs.Engines.{started, view_of, MayStart}
use Rattle.bd_engine.specs.Stored.{IsStoredView, IsFound, IsStoredBy, ArePlaced}
use Rattle.bd_engine.proofs.Damage.{no_worse_fresh, no_worse_opened}
use Rattle.bd_engine.proofs.Left.{kept_standing, read_sound}

-- ---- from an image

pub opened_standing : {D : Type 0} (g : Ghosts D) (known : Option Image) (p : Paged D) (log : LogState) (live : Super) → IsOpened known live.slots live.table p → IsOpenOn g p.dev live (saved_of p) log
    → log ≡ record (fresh_log (log_block live.half) live.epoch) { place = log.place; batches = log.batches } → g.contents p.dev ≡ known → IfSome known (AreStored g p) → (IsSome (g.contents p.dev) → is_known g p) → cache_room p ≡ cached_limit → MayStart g p log live
opened_standing g known p log live h given idle told stored is room = λ recalled. record {
  fits = given.fits;
  size = given.size;
  slots = h.spare.count;
  table = subst (λ (a : List ℕ). IsTableAt live.slots a p.saved) (sym h.at_is) h.table;
  unlent = h.lent;
  room = room;
  records = subst (λ (l : LogState). AllByRecursion IsLogRecord l.waiting) (sym idle) tt;
  going = λ none. given;
  no_worse = λ none known_now. no_worse_opened g known live.slots live.table p h told stored (is known_now);
}

-- reads of its pager leave what may start so
pub read_standing : {D : Type 0} (g : Ghosts D) (p q : Paged D) (log : LogState) (live : Super) → IsSince g q.dev → IsReadOf g p q → MayStart g p log live → MayStart g q log live
read_standing g p q log live earlier read may = λ recalled.
    kept_standing g (started p recalled log live) q recalled (record { visits = 0; height = 0 }) 0 earlier (may recalled) (read_keeps g p q read) (read_sound g p q read)

-- the records of batches are those of their commands
pub found_records : (version : ℕ) (batches : List Batch) (list : List PlacedCommand) → AreCommandsOf version (placed_records batches) list → map log_record (map (λ p. p.command) list) ≡ records_of batches
found_records version batches list of = sym (unplaced_commands list) ∙ ap unplaced of.same ∙ records_placed batches
  where
    unplaced_commands : (l : List PlacedCommand) → unplaced (records_for l) ≡ map log_record (map (λ p. p.command) l)
    unplaced_commands [] = refl
    unplaced_commands (p ∷ ps) = ap (λ (rs : List (List ℕ)). log_record p.command ∷ rs) (unplaced_commands ps)

-- its view is that of the image's checkpoint, and its commands are those of the open batches
pub first_view : {D : Type 0} (g : Ghosts D) → PartsAreOne → (known : Option Image) (p : Paged D) (recalled : Findings) (log : LogState) (live : Super) → IsOpened known live.slots live.table p → IfSome known (AreStored g p) → IfSome known (λ image. IsLive image live)
    → IfSome known (λ image. AreBatches image (log_block live.half) live.epoch log.batches log.place) → log ≡ record (fresh_log (log_block live.half) live.epoch) { place = log.place; batches = log.batches }
    → (list : List PlacedCommand) → AreCommandsOf (version_of live) (placed_records log.batches) list
    → (tree : Tree) (count : ℕ) → IfSome known (λ image. ImageStandsFor tree count image → IsFound image (view_of g (started p recalled log live)) (map (λ p. p.command) list))
first_view g one None p recalled log live h stored is_live batches idle list of tree count = tt
first_view g one (Some image) p recalled log live h stored is_live batches idle list of tree count = λ stands.
    let starts : StartsAs live (saved_of p) log.place image = record { live_is = is_live; table_is = h.table_held; batches = log.batches; batches_are = batches } in
    let t : HasTree live p.saved log.place tree count image = recovered one live (saved_of p) log.place image tree count starts stands in
    let view : IsStoredView image (view_of g (started p recalled log live)) = record {
      live = live;
      table = p.saved;
      nodes = t.nodes;
      starts = t.starts;
      batches = log.batches;
      batches_are = batches;
      view_is = λ i. record {
        tree = record { nodes = stored.nodes t.nodes t.starts.stored i; table = stored.table t.nodes t.starts.stored i; walk = record { visits = 0; height = 0 } };
        saved = ids_of p.saved.entries;
        slots = h.spare.count i;
        version = version_of live;
        epoch = live.epoch;
        place = log.place;
        waiting = length (concat (idle i).waiting);
      };
    } in
    record { stored = view; records_are = found_records (version_of live) log.batches list of }

-- the nodes are those that the image stores
pub stored_by : {D : Type 0} (g : Ghosts D) (known : Option Image) (p : Paged D) (recalled : Findings) (log : LogState) (live : Super) → IsOpened known live.slots live.table p → IfSome known (AreStored g p) → IfSome known (λ image. IsLive image live)
    → IfSome known (IsStoredBy g (started p recalled log live))
stored_by g None p recalled log live h stored is_live = tt
stored_by g (Some image) p recalled log live h stored is_live = record {
  live_is = is_live;
  table_is = h.table_held;
  at_is = h.at_is;
  spare_is = subst (λ (a : List ℕ). AreFreeSlots live.slots (a ++ slots_of p.saved.entries) p.spare) (sym h.at_is) h.spare;
  nodes = stored;
}

-- each command has its place
pub are_placed : (known : Option Image) (log : LogState) (live : Super) (list : List PlacedCommand) → IfSome known (λ image. IsLive image live) → IfSome known (λ image. AreBatches image (log_block live.half) live.epoch log.batches log.place)
    → AreCommandsOf (version_of live) (placed_records log.batches) list → IfSome known (λ image. ArePlaced image live list)
are_placed None log live list is_live batches of = tt
are_placed (Some image) log live list is_live batches of = record { live_is = is_live; batches = log.batches; place = log.place; batches_are = batches; placed = of }

-- ---- on a new one

pub fresh_standing : {D : Type 0} (g : Ghosts D) (p : Paged D) (log : LogState) (live : Super) (slots : ℕ) → live ≡ first_super slots p.at → IsOpenOn g p.dev live (saved_of p) log → IsTableAt slots p.at p.saved
    → AreFreeSlots slots (slots_held (saved_of p)) p.spare → p.is_lent ≡ false → log ≡ fresh_log first_log_block 1 → (IsSome (g.contents p.dev) → is_known g p × IsSound (nodes_of g p) (table_of p)) → AreEntriesOf p.saved.entries (spots_of p) → cache_room p ≡ cached_limit → MayStart g p log live
fresh_standing g p log live slots is given table spare lent fresh sound entries room = λ recalled.
    let count : live.slots ≡ slots = ap (λ (s : Super). s.slots) is in
    record {
      fits = given.fits;
      size = given.size;
      slots = spare.count ∙ sym count;
      table = subst (λ (n : ℕ). IsTableAt n p.at p.saved) (sym count) table;
      unlent = lent;
      room = room;
      records = subst (λ (l : LogState). AllByRecursion IsLogRecord l.waiting) (sym fresh) tt;
      going = λ none. given;
      no_worse = λ none told. no_worse_fresh g slots p (sound told).0 (sound told).1 entries table spare;
    }

-- the root alone is kept
fresh_ids : kept_ids fresh_tree.table ≡ 1 ∷ []
unfolding sum_below
fresh_ids = refl

pub fresh_shown : {D : Type 0} (g : Ghosts D) → AreListed → (contents : Option Image) (p : Paged D) (recalled : Findings) (log : LogState) (live : Super) (slots : ℕ) → IsPaged contents p → live ≡ first_super slots p.at → log ≡ fresh_log first_log_block 1
    → nodes_of g p ≡ fresh_nodes → table_of p ≡ grown new_table root_messages → AreEntriesOf p.saved.entries (spots_of p) → IsTableAt slots p.at p.saved → AreFreeSlots slots (slots_held (saved_of p)) p.spare
    → view_of g (started p recalled log live) ≡ fresh_view slots
fresh_shown {D} g law contents p recalled log live slots paged is_first is_fresh nodes table entries place spare =
    let checkpointed : IsCheckpointed g p p = record {
      nodes = refl;
      table = table ∙ ap (with_touched (λ id. false)) (sym table);
      slots = refl;
      place = subst (λ (n : ℕ). IsTableAt n p.at p.saved) (sym spare.count) place;
      entries = entries;
    } in
    let ids : ids_of p.saved.entries ≡ 1 ∷ [] = kept_saved g contents p p paged checkpointed law ∙ ap (λ (t : Table). kept_ids t) table ∙ fresh_ids in
    λ i. record {
      tree = record { nodes = nodes i; table = table i; walk = record { visits = 0; height = 0 } };
      saved = ids i;
      slots = spare.count i;
      version = version_of (is_first i);
      epoch = (is_first i).epoch;
      place = (is_fresh i).place;
      waiting = length (concat (is_fresh i).waiting);
    }
