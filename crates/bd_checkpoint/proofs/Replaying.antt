-- The commands of the log of an image lead from the tree of its nodes to the one that it stands for.
use Rattle.std.proofs.Common.{rules, ◌≡◌, ℕ, List, [], ◌∷◌, ◌++◌, length, Option, None, Some, IfSome, sym, ap, subst, ◌∙◌, arith}
use Rattle.std.specs.Prelude.{IsSome, IsSomeAnd}
use Rattle.std.specs.List.{AllByRecursion}
use Rattle.std.proofs.lemmas.List.{length-map}
use Rattle.std.proofs.lemmas.List.Elements.{recursion_from_All}
use Rattle.bd_wire.specs.Encoding.{IsPrefixFree}
use Rattle.bd_command.specs.Log.{IsLogged, log_record}
use Rattle.bd_command.specs.declared.Command.{Command}
use Rattle.bd_model.specs.Tree.{Tree}
use Rattle.bd_model.specs.Laws.{Accepts, after}
use Rattle.bd_device.specs.Blocks.{Image}
use Rattle.bd_device.specs.declared.device.Device.{Ghosts}
use Rattle.bd_node.specs.Meaning.{Nodes}
use Rattle.bd_node.specs.Tables.{Table}
use Rattle.bd_table.specs.Image.{HoldsTable}
use Rattle.bd_super.specs.Superblocks.{log_block}
use Rattle.bd_super.specs.Live.{IsLive}
use Rattle.bd_super.specs.declared.superblock.Super.{Super}
use Rattle.bd_log.specs.Batches.{AreBatches}
use Rattle.bd_log.specs.declared.batch.Batch.{Batch}
use Rattle.bd_pager.specs.Pagers.{Paged, nodes_of, table_of, is_known}
use Rattle.bd_image.specs.Versions.{version_of}
use Rattle.bd_image.specs.Stored.{table_of as stored_table}
use Rattle.bd_image.specs.ImageTree.{LeadsOn, records_of, HasTree, ImageStandsFor}
use Rattle.bd_image.specs.Damage.{PlacedRecord, placed_records, unplaced}
use Rattle.bd_image.proofs.Leading.{records_placed}
use Rattle.bd_checkpoint.specs.declared.commands.PlacedCommand.{PlacedCommand}
use Rattle.bd_checkpoint.specs.Commands.{IsPlacedIn, placed_record, records_for, AreCommandsOf}
use Rattle.bd_checkpoint.specs.Kept.{StartsAs, AreOfTree}
use Rattle.bd_checkpoint.specs.Recovering.{saved_of, AreStored, LeadsBy, LeadsTo}
use Rattle.bd_checkpoint.proofs.Starting.{PartsAreOne, recovered}

-- ---- commands and their records

-- commands lead where their records do
pub leads_by : IsPrefixFree IsLogged log_record → (version : ℕ) (list : List PlacedCommand) (t u : Tree) → AllByRecursion (IsPlacedIn version) list
    → LeadsOn version (unplaced (records_for list)) t u → LeadsBy list t u
leads_by free version [] t u each h = h
leads_by free version (p ∷ ps) t u each h =
    let same : h.0 ≡ p.command = (free h.0 p.command [] [] h.1.0 each.0.0 (ap (λ (l : List ℕ). l ++ []) (sym h.2))).0 in (
      subst (λ (c : Command). Accepts t c) same h.3,
      leads_by free version ps (after t p.command) u each.1 (subst (λ (c : Command). LeadsOn version (unplaced (records_for ps)) (after t c) u) same h.4),
    )

-- the records of batches are those of their commands
of_commands : (version : ℕ) (batches : List Batch) (list : List PlacedCommand) → AreCommandsOf version (placed_records batches) list → records_of batches ≡ unplaced (records_for list)
of_commands version batches list of = sym (records_placed batches) ∙ ap unplaced (sym of.same)

as_many : (version : ℕ) (batches : List Batch) (list : List PlacedCommand) → AreCommandsOf version (placed_records batches) list → length (records_of batches) ≡ length list
as_many version batches list of =
    ap length (of_commands version batches list of) ∙ length-map (records_for list) (λ (r : PlacedRecord). r.1) ∙ length-map list placed_record

-- ---- from the image

replayed : {D : Type 0} (g : Ghosts D) (p : Paged D) → PartsAreOne → IsPrefixFree IsLogged log_record → (live : Super) (place : ℕ) (batches : List Batch) (list : List PlacedCommand) (image : Image) (tree : Tree) (count : ℕ)
    → is_known g p → AreStored g p image → IsLive image live → HoldsTable image live.slots live.table p.saved → AreBatches image (log_block live.half) live.epoch batches place
    → AreCommandsOf (version_of live) (placed_records batches) list → ImageStandsFor tree count image → LeadsTo g p live list tree count
replayed g p one free live place batches list image tree count known stored is_live table logged of stands =
    let starts : StartsAs live (saved_of p) place image = record { live_is = is_live; table_is = table; batches = batches; batches_are = logged } in
    let h : HasTree live p.saved place tree count image = recovered one live (saved_of p) place image tree count starts stands in
    let nodes : nodes_of g p ≡ h.nodes = stored.nodes h.nodes h.starts.stored in
    let there : table_of p ≡ stored_table p.saved h.nodes = stored.table h.nodes h.starts.stored in
    let have : AreOfTree h.nodes (stored_table p.saved h.nodes) h.base = record { sound = h.have.sound; is_tree = h.have.is_tree; represents = h.have.represents } in
    let by_table : AreOfTree h.nodes (table_of p) h.base = subst (λ (t : Table). AreOfTree h.nodes t h.base) (sym there) have in
    let same : h.batches ≡ batches = (one.batches image (log_block live.half) live.epoch h.batches batches place place is_live.held.fits.last_epoch h.logged logged).0 in
    let records : records_of h.batches ≡ unplaced (records_for list) = ap records_of same ∙ of_commands (version_of live) batches list of in
    record {
      known = known;
      base = h.base;
      have = subst (λ (m : Nodes). AreOfTree m (table_of p) h.base) (sym nodes) by_table;
      leads = leads_by free (version_of live) list h.base tree (recursion_from_All (IsPlacedIn (version_of live)) list of.each)
          (subst (λ (rs : List (List ℕ)). LeadsOn (version_of live) rs h.base tree) records h.leads);
      count_is = omega (arith, h.count_is, ap (λ (bs : List Batch). length (records_of bs)) same, as_many (version_of live) batches list of);
    }

-- as far as the contents are known
pub replays : {D : Type 0} (g : Ghosts D) (p : Paged D) → PartsAreOne → IsPrefixFree IsLogged log_record → (live : Super) (place : ℕ) (batches : List Batch) (list : List PlacedCommand) (known : Option Image)
    → (IsSome known → is_known g p) → IfSome known (AreStored g p) → IfSome known (λ image. IsLive image live) → IfSome known (λ image. HoldsTable image live.slots live.table p.saved)
    → IfSome known (λ image. AreBatches image (log_block live.half) live.epoch batches place) → AreCommandsOf (version_of live) (placed_records batches) list
    → (tree : Tree) (count : ℕ) → IsSomeAnd known (ImageStandsFor tree count) → LeadsTo g p live list tree count
replays g p one free live place batches list None told stored is_live table logged of tree count stands = absurd stands
replays g p one free live place batches list (Some image) told stored is_live table logged of tree count stands =
    replayed g p one free live place batches list image tree count (told (search rules)) stored is_live table logged of stands
