use Rattle.std.proofs.Common.{subst}
use Rattle.bd_node.specs.declared.node.Node.{Node}
use Rattle.bd_resolve.specs.declared.following.Followed.{Followed}
use Rattle.bd_resolve.specs.Following.{IsFollowed, IsPast}
use Rattle.bd_resolve.proofs.Going.{looked, lower_target}
use Rattle.bd_resolve.proofs.resolving.looked_through.Goals as goal

pub returns-clause-target : goal.returns-clause-target
returns-clause-target g c = λ known.
    looked (g.S.NodeStore.nodes c.args.store.now) (g.S.NodeStore.table c.args.store.now) c.args.id c.in_ok-node.node.value c.deref.result.now c.args.prefix.now c.in_ok-follow.field-0 c.in-Past.newer c.in-Past.target
    c.in_ok-node.ensures.shape c.requires.inner c.requires.long c.deref.ensures c.in_ok-follow.ensures.followed c.in-Past.is (c.in_ok-node.ensures.contents known)

pub returns-clause-lower : goal.returns-clause-lower
returns-clause-lower g c =
    let past : IsPast c.in_ok-node.node.value c.args.prefix.now c.in-Past.newer c.in-Past.target =
    subst (λ (f : Followed). IsFollowed c.in_ok-node.node.value c.args.prefix.now f) c.in-Past.is (subst (λ (n : Node). IsFollowed n c.args.prefix.now c.in_ok-follow.field-0) c.deref.ensures c.in_ok-follow.ensures.followed) in
    lower_target (g.S.NodeStore.table c.args.store.now) ((g.S.NodeStore.table c.args.store.now).level c.args.id) c.in_ok-node.node.value c.in-Past.target c.in_ok-node.ensures.shape past.named
