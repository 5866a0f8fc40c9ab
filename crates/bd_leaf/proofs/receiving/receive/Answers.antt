use Rattle.std.proofs.Common.{List, sym, subst, ◌∙◌}
use Rattle.bd_leaf.specs.declared.points.Point.{Point}
use Rattle.bd_leaf.specs.Points.{messages_of}
use Rattle.bd_leaf.specs.Merging.{IsMerged}
use Rattle.bd_node.specs.declared.node.Entry.{Entry}
use Rattle.bd_leaf.proofs.Resolves.{received}
use Rattle.bd_leaf.proofs.receiving.receive.Goals as goal

pub returns : goal.returns
returns c =
    received c.args.entries.now c.from_vec.result c.args.list.now (messages_of c.in_ok-points.points.items) (messages_of c.sort.new.points.items) c.in_ok-points.ensures c.in_ok-sort.ensures
    (subst (λ (es : List Entry). IsMerged c.args.entries.now (messages_of c.sort.new.points.items) es) (sym (c.from_vec.ensures ∙ c.shrink_to_fit.ensures.items))
    (subst (λ (ps : List Point). IsMerged c.args.entries.now (messages_of ps) c.in_ok-new.new.items) c.as_slice.ensures.value c.in_ok-new.ensures))
