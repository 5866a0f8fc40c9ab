-- An image that stands for a tree has no bad block.
use Rattle.std.proofs.Common.{◌≡◌, ℕ, ◌<◌, ◌≤◌, ◌^◌, inl, inr, List, [], ◌∷◌, ◌++◌, Option, None, Some, sym, ap, subst, ◌∙◌, arith}
use Rattle.std.specs.List.{AllByRecursion}
use Rattle.std.specs.Option.{option_map}
use Rattle.bd_command.specs.Log.{log_record}
use Rattle.bd_command.specs.declared.Command.{Command}
use Rattle.bd_model.specs.Tree.{Tree}
use Rattle.bd_model.specs.Laws.{Accepts}
use Rattle.bd_device.specs.Blocks.{Image}
use Rattle.bd_node.specs.declared.node.Node.{Node}
use Rattle.bd_node.specs.Nodes.{names}
use Rattle.bd_node.specs.Meaning.{Nodes}
use Rattle.bd_node.specs.Tables.{IsLower, IsStored, IsSound}
use Rattle.bd_table.specs.Image.{HoldsTable}
use Rattle.bd_table.specs.Tables.{IsTableEntry}
use Rattle.bd_table.proofs.EntryLemmas.{entry_stands}
use Rattle.bd_table.specs.declared.table.Table.{Table as StoredTable}
use Rattle.bd_table.specs.declared.table.TableEntry.{TableEntry}
use Rattle.bd_super.specs.Superblocks.{log_block}
use Rattle.bd_super.specs.Live.{IsLive, IsDamaged}
use Rattle.bd_super.specs.declared.superblock.Super.{Super}
use Rattle.bd_log.specs.Batches.{AreBatches, IsDamagedAt}
use Rattle.bd_log.specs.declared.batch.Batch.{Batch}
use Rattle.bd_format.specs.Slots.{HasNode, IsLowerLevel, IsGoodNode}
use Rattle.bd_image.specs.Versions.{version_of, IsLoggedIn}
use Rattle.bd_table.specs.Entries.{entry_of, level_at}
use Rattle.bd_image.specs.Stored.{refs_in, level_in, IsNodeAt, HoldsNodes, table_of}
use Rattle.bd_image.specs.ImageTree.{LeadsOn, records_of, HaveTree, HasTree, ImageStandsFor}
use Rattle.bd_image.specs.Damage.{PlacedRecord, unplaced, HasRecord, IsTreeAfter, IsNoCommand, IsFoundBad, IsNamedAt, IsBadAt}
use Rattle.bd_image.specs.Damage.IsFoundBad.{bad_super, bad_table, bad_node, bad_batch, bad_record}
use Rattle.bd_image.specs.Damage.IsBadAt.{found_bad, unsound_nodes, refused_record}
use Rattle.bd_image.proofs.Leading.{leads_apart, records_split}
use Rattle.bd_image.proofs.Ones.{AreOne, one_table, one_command, one_way, one_base}

-- ---- the superblock and the table are those of the tree

pub at_super : AreOne → (image : Image) (s o : Super) (t : StoredTable) (place : ℕ) (tree : Tree) (n : ℕ) → HasTree s t place tree n image → IsLive image o → HasTree o t place tree n image
at_super one image s o t place tree n h live = subst (λ (x : Super). HasTree x t place tree n image) (one.supers image s o h.starts.live live) h

pub at_table : AreOne → (image : Image) (s : Super) (t u : StoredTable) (place : ℕ) (tree : Tree) (n : ℕ) → HasTree s t place tree n image → HoldsTable image s.slots s.table u
    → HasTree s u place tree n image
at_table one image s t u place tree n h table = subst (λ (x : StoredTable). HasTree s x place tree n image) (one_table one image s.slots s.table t u h.starts.table table) h

-- ---- nodes

lower_entry : (level : ℕ) (o : Option TableEntry) → 1 ≤ refs_in o → level_in o < level → IsLowerLevel level (option_map (λ e. e.level) o)
lower_entry level None kept lower = absurd (omega (arith, kept))
lower_entry level (Some e) kept lower = lower

lower_entries : (t : StoredTable) (nodes : Nodes) (level : ℕ) (ids : List ℕ) → AllByRecursion (IsLower (table_of t nodes) level) ids → AllByRecursion (λ c. IsLowerLevel level (level_at t.entries c)) ids
lower_entries t nodes level [] h = tt
lower_entries t nodes level (c ∷ ids) h = (lower_entry level (entry_of t.entries c) h.0.kept h.0.lower, lower_entries t nodes level ids h.1)

-- each entry has a good node
good_node : (image : Image) (s : Super) (t : StoredTable) (nodes : Nodes) (e : TableEntry) → HoldsTable image s.slots s.table t → HoldsNodes image t nodes → IsSound nodes (table_of t nodes)
    → entry_of t.entries e.id ≡ Some e → (n : Node) × IsGoodNode image (level_at t.entries) e.slot e.level n
good_node image s t nodes e table stored sound found =
    let at = entry_stands t.entries e.id e found in
    let entry : IsTableEntry e = subst IsTableEntry at.2 (table.0.entries.each at.0 e at.1) in
    let kept : 1 ≤ refs_in (entry_of t.entries e.id) = subst (λ (o : Option TableEntry). 1 ≤ refs_in o) (sym found) entry.refs in
    let node : IsStored nodes (table_of t nodes) e.id = sound.each e.id kept in
    let there : IsNodeAt image (entry_of t.entries e.id) (Some node.node) = subst (λ (n : Option Node). IsNodeAt image (entry_of t.entries e.id) n) node.there (stored.each e.id) in
    let held : HasNode image e.slot e.level node.node = subst (λ (o : Option TableEntry). IsNodeAt image o (Some node.node)) found there in
    let lower : AllByRecursion (λ c. IsLowerLevel e.level (level_at t.entries c)) (names node.node) =
    subst (λ (l : ℕ). AllByRecursion (λ c. IsLowerLevel l (level_at t.entries c)) (names node.node)) (ap level_in found)
    (lower_entries t nodes (level_in (entry_of t.entries e.id)) (names node.node) node.of_table.lower) in
    (node.node, record { held = held; lower = lower })

-- ---- records

-- where a record stands, the records before it lead to a tree, from which it leads on
record_leads : AreOne → (image : Image) (s : Super) (t : StoredTable) (place : ℕ) (tree : Tree) (n : ℕ) (front : List PlacedRecord) (b : ℕ) (r : List ℕ)
    → (h : HasTree s t place tree n image) → (k : HasRecord image s front b r)
    → (u : Tree) × LeadsOn (version_of s) (unplaced front) h.base u × LeadsOn (version_of s) (r ∷ unplaced k.rest) u tree
record_leads one image s t place tree n front b r h k =
    let same : h.batches ≡ k.batches = (one.batches image (log_block s.half) s.epoch h.batches k.batches place k.place h.starts.live.held.fits.last_epoch h.logged k.logged).0 in
    let split : records_of h.batches ≡ unplaced front ++ r ∷ unplaced k.rest = ap records_of same ∙ records_split k.batches front b r k.rest k.there in
    let leads : LeadsOn (version_of s) (unplaced front ++ r ∷ unplaced k.rest) h.base tree = subst (λ (rs : List (List ℕ)). LeadsOn (version_of s) rs h.base tree) split h.leads in
    leads_apart (version_of s) (unplaced front) (r ∷ unplaced k.rest) h.base tree leads

not_no_command : AreOne → (image : Image) (s : Super) (t : StoredTable) (place : ℕ) (tree : Tree) (n : ℕ) (front : List PlacedRecord) (b : ℕ) (r : List ℕ)
    → HasTree s t place tree n image → HasRecord image s front b r → ¬ IsNoCommand (version_of s) r
not_no_command one image s t place tree n front b r h k none =
    let leads = record_leads one image s t place tree n front b r h k in
    none leads.2.0 leads.2.1 leads.2.2

-- a command stands there that the tree before it accepts
not_refused : AreOne → (image : Image) (s : Super) (t : StoredTable) (place : ℕ) (tree : Tree) (n : ℕ) (front : List PlacedRecord) (b : ℕ) (c : Command)
    → HasTree s t place tree n image → HasRecord image s front b (log_record c) → IsLoggedIn (version_of s) c → (before : Tree) × IsTreeAfter image s (unplaced front) before × Accepts before c
not_refused one image s t place tree n front b c h k logged =
    let leads = record_leads one image s t place tree n front b (log_record c) h k in
    let same : c ≡ leads.2.0 = one_command one c leads.2.0 logged.0 leads.2.1.0 leads.2.2 in
    let after : IsTreeAfter image s (unplaced front) leads.0 = record { table = t; nodes = h.nodes; base = h.base; starts = h.starts; have = h.have; leads = leads.1 } in
    (leads.0, after, subst (λ (x : Command). Accepts leads.0 x) (sym same) leads.2.3)

-- ---- the block

not_found : AreOne → ((image : Image) (s : Super) (b : ℕ) → IsLive image s → ¬ IsDamaged image b)
    → ((image : Image) (first epoch block : ℕ) (batches : List Batch) (end : ℕ) → epoch < 2 ^ 64 → IsDamagedAt image first epoch block → AreBatches image first epoch batches end → ⊥)
    → (image : Image) (s : Super) (t : StoredTable) (place : ℕ) (tree : Tree) (n b : ℕ) → HasTree s t place tree n image → ¬ IsFoundBad image b
not_found one no_super no_batch image s t place tree n _ h (bad_super b damaged) = no_super image s b h.starts.live damaged
not_found one no_super no_batch image s t place tree n _ h (bad_table o live none) =
    none t (at_super one image s o t place tree n h live).starts.table
not_found one no_super no_batch image s t place tree n _ h (bad_node o u e has none) =
    let here : HasTree o u place tree n image = at_table one image o t u place tree n (at_super one image s o t place tree n h has.live) has.table in
    let good = good_node image o u here.nodes e has.table here.starts.stored here.have.sound has.entry in
    none good.0 good.1
not_found one no_super no_batch image s t place tree n _ h (bad_batch o b live damaged) =
    let here : HasTree o t place tree n image = at_super one image s o t place tree n h live in
    no_batch image (log_block o.half) o.epoch b here.batches place live.held.fits.last_epoch damaged here.logged
not_found one no_super no_batch image s t place tree n _ h (bad_record o front b r has none) =
    not_no_command one image o t place tree n front b r (at_super one image s o t place tree n h has.live) has none

not_bad : AreOne → ((image : Image) (s : Super) (b : ℕ) → IsLive image s → ¬ IsDamaged image b)
    → ((image : Image) (first epoch block : ℕ) (batches : List Batch) (end : ℕ) → epoch < 2 ^ 64 → IsDamagedAt image first epoch block → AreBatches image first epoch batches end → ⊥)
    → (image : Image) (s : Super) (t : StoredTable) (place : ℕ) (tree : Tree) (n b : ℕ) → HasTree s t place tree n image → ¬ IsBadAt image b
not_bad one no_super no_batch image s t place tree n _ h (found_bad b found) = not_found one no_super no_batch image s t place tree n b h found
not_bad one no_super no_batch image s t place tree n _ h (unsound_nodes o u live table good none) =
    let here : HasTree o u place tree n image = at_table one image o t u place tree n (at_super one image s o t place tree n h live) table in
    none here.nodes here.starts.stored here.have.sound
not_bad one no_super no_batch image s t place tree n _ h (refused_record o front b c has logged refused) =
    let there = not_refused one image o t place tree n front b c (at_super one image s o t place tree n h has.live) has logged in
    refused there.0 there.1 there.2

pub undamaged : AreOne → ((image : Image) (s : Super) (b : ℕ) → IsLive image s → ¬ IsDamaged image b)
    → ((image : Image) (first epoch block : ℕ) (batches : List Batch) (end : ℕ) → epoch < 2 ^ 64 → IsDamagedAt image first epoch block → AreBatches image first epoch batches end → ⊥)
    → (image : Image) (tree : Tree) (n b : ℕ) → ImageStandsFor tree n image → ¬ IsBadAt image b
undamaged one no_super no_batch image tree n b (s, t, place, h) bad = not_bad one no_super no_batch image s t place tree n b h bad

-- ---- a refused command

-- the tree after the same records is one
one_after : AreOne → (image : Image) (s : Super) (rs : List (List ℕ)) (a b : Tree) → IsTreeAfter image s rs a → IsTreeAfter image s rs b → a ≡ b
one_after one image s rs a b h k =
    let table : h.table ≡ k.table = one_table one image s.slots s.table h.table k.table h.starts.table k.starts.table in
    let stored : HoldsNodes image h.table k.nodes = subst (λ (t : StoredTable). HoldsNodes image t k.nodes) (sym table) k.starts.stored in
    let have : HaveTree (version_of s) h.table k.nodes k.base = subst (λ (t : StoredTable). HaveTree (version_of s) t k.nodes k.base) (sym table) k.have in
    let base : h.base ≡ k.base = one_base one image (version_of s) h.table h.nodes k.nodes h.base k.base h.starts.stored stored h.have have in
    one_way one (version_of s) rs h.base a b h.leads (subst (λ (x : Tree). LeadsOn (version_of s) rs x b) (sym base) k.leads)

pub named_bad : AreOne → (image : Image) (b : ℕ) → IsNamedAt image b → IsBadAt image b
named_bad one image b (inl found) = found_bad b found
named_bad one image b (inr r) =
    refused_record r.superblock r.front b r.command r.has r.logged
    (λ tree after. subst (λ (x : Tree). ¬ Accepts x r.command) (one_after one image r.superblock (unplaced r.front) r.tree tree r.before after) r.refused)
