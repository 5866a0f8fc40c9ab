use Rattle.std.proofs.Common.{◌≡◌, true, sym, ◌∙◌}
use Rattle.bd_node.specs.Index.{is_point}
use Rattle.bd_node.proofs.Owning.{owned_pending}
use Rattle.bd_node.proofs.pending.is_owned_pending.Goals as goal

pub returns-then-is_point : goal.returns-then-is_point
returns-then-is_point c =
    let point : is_point c.args.message.now ≡ true = sym c.is_point.ensures ∙ c.if-is_point.true in
    owned_pending c.args.place c.args.message.now c.args.edges.now c.args.owner c.index-edges-owner.result c.requires.rising point (c.requires.owner point) c.index-edges-owner.is
