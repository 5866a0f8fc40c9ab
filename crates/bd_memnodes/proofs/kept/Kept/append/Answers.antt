use Rattle.std.proofs.Common.{◌≡◌, ◌+◌, ap, Some}
use Rattle.bd_node.specs.declared.node.Node.{Node}
use Rattle.bd_node.specs.Tables.{IsStored}
use Rattle.bd_node.specs.Steps.{grown}
use Rattle.bd_memnodes.specs.declared.kept.Kept.{Kept}
use Rattle.bd_memnodes.specs.Maps.{nodes_in, count_in}
use Rattle.bd_memnodes.specs.Stored.{table_of, table_in}
use Rattle.bd_memnodes.proofs.Appended.{grown_table, append_done}
use Rattle.bd_memnodes.proofs.kept.Kept.append.Goals as goal

root_of : (c : goal.After-self-1) → IsStored (nodes_in c.args.self.now.nodes) (table_in c.args.self.now) c.args.self.now.root
root_of c = c.requires.whole.sound.each c.args.self.now.root c.requires.whole.sound.table.root

has_grown : (c : goal.After-self-1) (root : Node) → nodes_in c.args.self.now.nodes c.args.self.now.root ≡ Some root
    → table_of (nodes_in c.append_at.new.nodes) (count_in c.args.self.now.counts) c.args.self.now.root (c.args.self.now.size + c.size-added.result) c.args.self.now.next ≡ grown (table_in c.args.self.now) c.args.list
has_grown c root there =
    let old : Kept = c.args.self.now in
    grown_table (nodes_in old.nodes) (nodes_in c.append_at.new.nodes) (count_in old.counts) old.root old.size (old.size + c.size-added.result) old.next root c.args.list there
    (c.in_ok-append_at.ensures.ok root there) (ap (λ n. old.size + n) c.size-added.ensures)

pub returns-clause-committed : goal.returns-clause-committed
returns-clause-committed c = λ root there.
    append_done (nodes_in c.args.self.now.nodes) (nodes_in c.append_at.new.nodes) (table_in c.args.self.now) _ root c.args.list c.requires.whole.sound c.requires.fits there
    (c.in_ok-append_at.ensures.ok root there) (has_grown c root there)

pub returns-clause-table : goal.returns-clause-table
returns-clause-table c = has_grown c (root_of c).node (root_of c).there

pub returns-clause-whole : goal.returns-clause-whole
returns-clause-whole c = record {
  sound = (append_done (nodes_in c.args.self.now.nodes) (nodes_in c.append_at.new.nodes) (table_in c.args.self.now) _ (root_of c).node c.args.list c.requires.whole.sound c.requires.fits (root_of c).there
      (c.in_ok-append_at.ensures.ok (root_of c).node (root_of c).there) (has_grown c (root_of c).node (root_of c).there)).sound;
  idle = c.requires.whole.idle;
}
