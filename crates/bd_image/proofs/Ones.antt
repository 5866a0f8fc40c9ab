-- An image stands for one tree and one count.
use Rattle.std.proofs.Common.{◌≡◌, ℕ, ◌+◌, ◌<◌, ◌^◌, List, [], ◌∷◌, ◌++◌, length, Option, None, Some, refl, sym, ap, subst, ◌∙◌}
use Rattle.bd_wire.specs.Encoding.{IsPrefixFree}
use Rattle.bd_command.specs.Log.{IsLogged, log_record}
use Rattle.bd_command.specs.declared.Command.{Command}
use Rattle.bd_model.specs.Tree.{Tree, IsTree}
use Rattle.bd_model.specs.Laws.{after}
use Rattle.bd_message.specs.KeyMaps.{At}
use Rattle.bd_represent.specs.Represents.{Represents}
use Rattle.bd_device.specs.Blocks.{Image}
use Rattle.bd_format.specs.Images.{IsImage}
use Rattle.bd_node.specs.declared.node.Node.{Node}
use Rattle.bd_node.specs.Meaning.{Nodes}
use Rattle.bd_node.specs.Shape.{IsShape}
use Rattle.bd_node.specs.Tables.{root_at}
use Rattle.bd_table.specs.Image.{HoldsTable}
use Rattle.bd_table.specs.Tables.{IsTableAt, table_bytes}
use Rattle.bd_table.specs.declared.table.Table.{Table as StoredTable}
use Rattle.bd_table.specs.declared.table.TableEntry.{TableEntry}
use Rattle.bd_super.specs.Live.{IsLive}
use Rattle.bd_super.specs.Superblocks.{log_block}
use Rattle.bd_super.specs.declared.superblock.Super.{Super}
use Rattle.bd_log.specs.Batches.{AreBatches}
use Rattle.bd_log.specs.declared.batch.Batch.{Batch}
use Rattle.bd_tails.specs.Tails.{slot_bytes}
use Rattle.bd_image.specs.Versions.{version_of}
use Rattle.bd_table.specs.Entries.{entry_of}
use Rattle.bd_image.specs.Stored.{IsNodeAt, HoldsNodes, table_of}
use Rattle.bd_image.specs.ImageTree.{LeadsOn, records_of, HaveTree, HasTree, ImageStandsFor}

-- what the parts of an image are told by is one value each
pub record AreOne : Type 0 where
  pub supers : (image : Image) (a b : Super) → IsLive image a → IsLive image b → a ≡ b
  pub tables : (slots : ℕ) (at : List ℕ) (a b : StoredTable) → IsTableAt slots at a → IsTableAt slots at b → table_bytes (length at) a ≡ table_bytes (length at) b → a ≡ b
  pub nodes : (m n : Node) (bytes : List ℕ) → IsShape m → IsShape n → IsImage m bytes → IsImage n bytes → m ≡ n
  pub trees : (at : At) (t u : Tree) → IsTree t → IsTree u → Represents at t → Represents at u → t ≡ u
  pub batches : (image : Image) (first epoch : ℕ) (some others : List Batch) (end place : ℕ) → epoch < 2 ^ 64 → AreBatches image first epoch some end → AreBatches image first epoch others place
      → (some ≡ others) × (end ≡ place)
  pub commands : IsPrefixFree IsLogged log_record

pub one_table : AreOne → (image : Image) (slots : ℕ) (at : List ℕ) (a b : StoredTable) → HoldsTable image slots at a → HoldsTable image slots at b → a ≡ b
one_table one image slots at a b h k = one.tables slots at a b h.0 k.0 (sym h.1 ∙ k.1)

pub one_node : AreOne → (image : Image) (o : Option TableEntry) (m n : Option Node) → IsNodeAt image o m → IsNodeAt image o n → m ≡ n
one_node one image None None None h k = refl
one_node one image None None (Some n) h k = absurd k
one_node one image None (Some m) n h k = absurd h
one_node one image (Some e) None n h k = absurd h
one_node one image (Some e) (Some m) None h k = absurd k
one_node one image (Some e) (Some m) (Some n) h k = ap Some (one.nodes m n (slot_bytes image e.slot) h.shape k.shape h.image_is k.image_is)

pub one_nodes : AreOne → (image : Image) (t : StoredTable) (m n : Nodes) → HoldsNodes image t m → HoldsNodes image t n → m ≡ n
one_nodes one image t m n h k = λ i id. one_node one image (entry_of t.entries id) (m id) (n id) (h.each id) (k.each id) i

-- a record is of one command
pub one_command : AreOne → (a b : Command) → IsLogged a → IsLogged b → log_record a ≡ log_record b → a ≡ b
one_command one a b h k e = (one.commands a b [] [] h k (ap (λ (l : List ℕ). l ++ []) e)).0

-- the way through the records is one
pub one_way : AreOne → (version : ℕ) (rs : List (List ℕ)) (t u v : Tree) → LeadsOn version rs t u → LeadsOn version rs t v → u ≡ v
one_way one version [] t u v h k = sym h ∙ k
one_way one version (r ∷ rs) t u v h k =
    let same : h.0 ≡ k.0 = one_command one h.0 k.0 h.1.0 k.1.0 (sym h.2 ∙ k.2) in
    one_way one version rs (after t h.0) u v h.4 (subst (λ (c : Command). LeadsOn version rs (after t c) v) (sym same) k.4)

-- nodes have one tree
pub one_base : AreOne → (image : Image) (version : ℕ) (t : StoredTable) (m n : Nodes) (a b : Tree) → HoldsNodes image t m → HoldsNodes image t n → HaveTree version t m a → HaveTree version t n b → a ≡ b
one_base one image version t m n a b hm hn ha hb =
    let same : HaveTree version t m b = subst (λ (x : Nodes). HaveTree version t x b) (sym (one_nodes one image t m n hm hn)) hb in
    one.trees (root_at m (table_of t m)) a b ha.is_tree same.is_tree ha.represents same.represents

-- from one superblock and table there is one tree and count
from_one : AreOne → (s : Super) (t : StoredTable) (p q : ℕ) (tree other : Tree) (n m : ℕ) (image : Image) → HasTree s t p tree n image → HasTree s t q other m image → (tree ≡ other) × (n ≡ m)
from_one one s t p q tree other n m image h k =
    let base : h.base ≡ k.base = one_base one image (version_of s) t h.nodes k.nodes h.base k.base h.starts.stored k.starts.stored h.have k.have in
    let batches : h.batches ≡ k.batches = (one.batches image (log_block s.half) s.epoch h.batches k.batches p q h.starts.live.held.fits.last_epoch h.logged k.logged).0 in
    let from : LeadsOn (version_of s) (records_of k.batches) h.base other = subst (λ (x : Tree). LeadsOn (version_of s) (records_of k.batches) x other) (sym base) k.leads in
    let leads : LeadsOn (version_of s) (records_of h.batches) h.base other = subst (λ (bs : List Batch). LeadsOn (version_of s) (records_of bs) h.base other) (sym batches) from in (
      one_way one (version_of s) (records_of h.batches) h.base tree other h.leads leads,
      h.count_is ∙ ap (λ (bs : List Batch). s.count + length (records_of bs)) batches ∙ sym k.count_is,
    )

pub one_tree : AreOne → (image : Image) (tree other : Tree) (n m : ℕ) → ImageStandsFor tree n image → ImageStandsFor other m image → (tree ≡ other) × (n ≡ m)
one_tree one image tree other n m (s, t, p, h) (s', t', q, k) =
    let super : s ≡ s' = one.supers image s s' h.starts.live k.starts.live in
    let same : HasTree s t' q other m image = subst (λ (x : Super). HasTree x t' q other m image) (sym super) k in
    let table : t ≡ t' = one_table one image s.slots s.table t t' h.starts.table same.starts.table in
    let there : HasTree s t q other m image = subst (λ (x : StoredTable). HasTree s x q other m image) (sym table) same in
    from_one one s t p q tree other n m image h there
