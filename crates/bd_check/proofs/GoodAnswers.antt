-- Which verdicts are right of an image that stands for a tree.
use Rattle.std.proofs.Common.{◌≡◌, ℕ, ◌<◌, false, List, inl, inr, Some, sym, ap, subst, ◌∙◌}
use Rattle.std.specs.Prelude.{not}
use Rattle.std.proofs.lemmas.Bool.{cases_lt, le-ltb, false≢true}
use Rattle.bd_model.specs.Tree.{Tree}
use Rattle.bd_represent.specs.Represents.{Represents}
use Rattle.bd_device.specs.Blocks.{Image}
use Rattle.bd_format.specs.Decoding.{node_in}
use Rattle.bd_format.specs.Images.{IsImage}
use Rattle.bd_node.specs.declared.node.Node.{Node}
use Rattle.bd_node.specs.Meaning.{Nodes}
use Rattle.bd_node.specs.Shape.{IsShape}
use Rattle.bd_node.specs.Tables.{references, root_at}
use Rattle.bd_table.specs.Entries.{entry_of}
use Rattle.bd_table.specs.Image.{HoldsTable}
use Rattle.bd_table.specs.declared.table.Table.{Table as StoredTable}
use Rattle.bd_table.specs.declared.table.TableEntry.{TableEntry}
use Rattle.bd_table.proofs.EntryLemmas.{entry_found}
use Rattle.bd_super.specs.Live.{IsLive}
use Rattle.bd_super.specs.declared.superblock.Super.{Super}
use Rattle.bd_image.specs.Versions.{mode_version, version_of, IsOfVersion}
use Rattle.bd_image.specs.Stored.{refs_in, table_of}
use Rattle.bd_image.specs.ImageTree.{HasTree, ImageStandsFor}
use Rattle.bd_image.specs.Damage.{IsBadAt}
use Rattle.bd_image.proofs.Ones.{AreOne, one_nodes, one_tree}
use Rattle.bd_image.proofs.Undamaged.{at_super, at_table, named_bad}
use Rattle.bd_entries.specs.Fronts.{AllowsModes}
use Rattle.bd_check.specs.Slots.{nodes_in}
use Rattle.bd_check.specs.Verdicts.{has_modes, IsMiscountedIn, HasNoTreeAt, IsVerdictOn, IsGoodAnswer}
use Rattle.bd_check.specs.declared.verdict.Verdict.{Verdict}
use Rattle.bd_check.specs.declared.verdict.Verdict.TheVariants.{Yes, BadBlock, BadNode, Limit}
use Rattle.bd_check.proofs.EntryNodes.{held}

-- a version without modes is one before them
before_modes : (version : ℕ) → has_modes version ≡ false → version < mode_version
before_modes version none = elim (cases_lt version mode_version) [
  | inl low ↦ low
  | inr high ↦ absurd (false≢true (sym none ∙ ap not (le-ltb version mode_version high)))
]

pub allowed : (version : ℕ) (tree : Tree) → IsOfVersion version tree → AllowsModes (has_modes version) tree
allowed version tree of path none = of (before_modes version none) path

module _ (one : AreOne) (decodes : (n : Node) (bytes : List ℕ) → IsShape n → IsImage n bytes → node_in bytes ≡ Some n) (image : Image) where
  -- the image has this tree by any superblock and table of it
  at_both : (s o : Super) (t u : StoredTable) (place : ℕ) (tree : Tree) (n : ℕ) → HasTree s t place tree n image → IsLive image o → HoldsTable image o.slots o.table u → HasTree o u place tree n image
  at_both s o t u place tree n h live table = at_table one image o t u place tree n (at_super one image s o t place tree n h live) table

  not_miscounted : (s : Super) (t : StoredTable) (place : ℕ) (tree : Tree) (n id : ℕ) → HasTree s t place tree n image → ¬ IsMiscountedIn image id
  not_miscounted s t place tree n id h m =
      let u : StoredTable = m.table in
      let e : TableEntry = m.wrong.entry in
      let here : HasTree m.superblock u place tree n image = at_both s m.superblock t u place tree n h m.live m.held in
      let same : nodes_in image u ≡ here.nodes = one_nodes one image u (nodes_in image u) here.nodes (held decodes image u m.good) here.starts.stored in
      let found : entry_of u.entries e.id ≡ Some e = entry_found u.entries e m.held.0.entries.rising m.wrong.among in
      m.wrong.wrong (sym (ap refs_in found) ∙ here.have.sound.counts e.id ∙ ap (λ (x : Nodes). references x u.next_id u.root e.id) (sym same))

  not_broken : (s : Super) (t : StoredTable) (place : ℕ) (tree : Tree) (n id : ℕ) → HasTree s t place tree n image → ¬ HasNoTreeAt image id
  not_broken s t place tree n id h m =
      let u : StoredTable = m.table in
      let here : HasTree m.superblock u place tree n image = at_both s m.superblock t u place tree n h m.start.starts.live m.start.starts.table in
      let same : m.nodes ≡ here.nodes = one_nodes one image u m.nodes here.nodes m.start.starts.stored here.starts.stored in
      m.broken.none here.base (record {
        tree = here.have.is_tree;
        modes = allowed (version_of m.superblock) here.base here.have.of_version;
        represents = subst (λ (x : Nodes). Represents (root_at x (table_of u x)) here.base) (sym same) here.have.represents;
      })

  pub good_answer : ((tree : Tree) (count b : ℕ) → ImageStandsFor tree count image → ¬ IsBadAt image b) → (tree : Tree) (number : ℕ) → ImageStandsFor tree number image → (v : Verdict) → IsVerdictOn image v → IsGoodAnswer number v
  good_answer undamaged tree number stands (Yes nodes keys count) y = (one_tree one image y.tree tree count number (y.superblock, y.table, y.place, y.has) stands).1
  good_answer undamaged tree number stands (BadBlock block) named = undamaged tree number block stands (named_bad one image block named)
  good_answer undamaged tree number (s, t, place, h) (BadNode id) (inl m) = not_miscounted s t place tree number id h m
  good_answer undamaged tree number (s, t, place, h) (BadNode id) (inr m) = not_broken s t place tree number id h m
  good_answer undamaged tree number stands Limit many = tt
