use Rattle.std.proofs.Common.{List, Global, subst}
use Rattle.std.specs.Vec.Iter.{into_iter_items}
use Rattle.std.specs.declared.rc.Rc.{Rc}
use Rattle.bd_node.specs.declared.node.Node.{Node}
use Rattle.bd_memnodes.proofs.Carrying.{IsAdding, added_one}
use Rattle.bd_memnodes.proofs.kept.Kept.add_all.Goals as goal

pub loop-node-preserved : goal.loop-node-preserved
loop-node-preserved c =
    let e = c.add.ensures in
    added_one c.args.self.now c.args.made.items c.loop-node.yielded (into_iter_items c.next.new.self) c.in-Some.node c.loop-node.self c.add.new.self
    (subst (λ (rest : List (Rc Node Global)). IsAdding c.args.self.now c.args.made.items c.loop-node.yielded rest c.loop-node.self) c.in-Some.ensures.steps.0 c.loop-node.invariant)
    (record {
      nodes = e.nodes;
      counts = e.counts;
      there = e.there;
      others = e.others;
      spare_nodes = e.spare_nodes;
      spare_counts = e.spare_counts;
      len = e.len;
      next = e.next;
      dead = e.dead;
      root = e.root;
      size = e.size;
    })
