-- The view of a volume whose nodes a pager has.
use Rattle.std.specs.Prelude.{◌≡◌, ℕ, false, List, length, map}
use Rattle.bd_device.specs.declared.device.Device.{Ghosts}
use Rattle.bd_graft.specs.declared.grafting.Walk.{Walk}
use Rattle.bd_node.specs.Steps.{with_touched}
use Rattle.bd_table.specs.Tables.{IsTableAt}
use Rattle.bd_table.specs.declared.table.TableEntry.{TableEntry}
use Rattle.bd_pager.specs.Pagers.{Paged, spots_of, nodes_of, table_of, AreEntriesOf}
use Rattle.bd_view.specs.Trees.{TreeView}
use Rattle.bd_view.specs.Views.{View}

-- the ids of a checkpoint's nodes
abbrev pub ids_of : List TableEntry → List ℕ
ids_of entries = map (λ e. e.id) entries

-- the tree of its nodes, with how the last graft went
abbrev pub tree_of : {D : Type 0} → Ghosts D → Paged D → Walk → TreeView
tree_of g p walk = record { nodes = nodes_of g p; table = table_of p; walk = walk }

-- the view, with the version and the epoch of the last checkpoint and the log's numbers
abbrev pub shown : {D : Type 0} → Ghosts D → Paged D → Walk → ℕ → ℕ → ℕ → ℕ → View
shown g p walk version epoch place waiting = record {
  tree = tree_of g p walk;
  saved = ids_of p.saved.entries;
  slots = length p.spare;
  version = version;
  epoch = epoch;
  place = place;
  waiting = waiting;
}

-- the second pager has the nodes of the first one, and a checkpoint of all of them, since which none
-- was changed
pub record IsCheckpointed {D : Type 0} (g : Ghosts D) (old new : Paged D) : Type 0 where
  pub nodes : nodes_of g new ≡ nodes_of g old
  pub table : table_of new ≡ with_touched (λ id. false) (table_of old)
  pub slots : length new.spare ≡ length old.spare
  pub place : IsTableAt (length old.spare) new.at new.saved
  pub entries : AreEntriesOf new.saved.entries (spots_of new)
