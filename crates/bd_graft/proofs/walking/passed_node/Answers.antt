use Rattle.std.proofs.Common.{subst, sym, ◌∙◌, ap, List}
use Rattle.std.specs.List.{AllByRecursion, flat_map}
use Rattle.bd_limits.specs.Limits.{level_limit}
use Rattle.bd_message.specs.declared.message.Message.{Message}
use Rattle.bd_node.specs.declared.node.Node.{Node}
use Rattle.bd_node.specs.Nodes.{level_of, message_names}
use Rattle.bd_node.specs.Tables.{Table, IsLower}
use Rattle.bd_resolve.specs.declared.following.Followed.{Followed}
use Rattle.bd_resolve.specs.Following.{IsFollowed, IsPast}
use Rattle.bd_resolve.proofs.Going.{lower_target}
use Rattle.bd_graft.specs.Layers.{above}
use Rattle.bd_graft.proofs.Laying.{passed_limit, passed_has, passed_layer}
use Rattle.bd_graft.proofs.Ways.{passed_led, ended_led}
use Rattle.bd_graft.proofs.Visits.{root_of}
use Rattle.bd_graft.proofs.walking.passed_node.Goals as goal

pub above-requires : goal.above-requires
above-requires g c =
    subst (λ (t : Table). AllByRecursion (IsLower t level_limit) (flat_map message_names c.as_slice.result.now)) (sym c.in_ok-node.ensures.left.table)
    (passed_limit (g.S.NodeStore.table c.args.store.now) ((g.S.NodeStore.table c.args.store.now).level c.args.id) c.in_ok-node.node.value c.deref-in-Past.result.now c.args.prefix.now c.in-Past.newer c.as_slice.result.now
    c.in_ok-node.ensures.shape c.deref-in-Past.ensures (c.as_slice.ensures ∙ c.in_ok-messages-in-Past.ensures))

pub returns-clause-passed : goal.returns-clause-passed
returns-clause-passed g c = λ known.
    passed_has (g.S.NodeStore.nodes c.args.store.now) c.args.id c.in_ok-node.node.value c.deref.result.now c.deref-in-Past.result.now c.args.prefix.now c.in_ok-follow.field-0 c.in-Past.newer c.in-Past.target c.in_ok-messages-in-Past.messages
    c.deref.ensures c.deref-in-Past.ensures c.in_ok-follow.ensures.followed c.in-Past.is c.in_ok-messages-in-Past.ensures (c.in_ok-node.ensures.contents known)

pub returns-clause-layer : goal.returns-clause-layer
returns-clause-layer g c =
    passed_layer (g.S.NodeStore.table c.args.store.now) ((g.S.NodeStore.table c.args.store.now).level c.args.id) c.in_ok-node.node.value c.deref.result.now c.deref-in-Past.result.now c.args.prefix.now c.in_ok-follow.field-0 c.in-Past.newer c.in-Past.target c.in_ok-messages-in-Past.messages c.above.result c.level.result
    c.in_ok-node.ensures.shape c.deref.ensures c.deref-in-Past.ensures c.in_ok-follow.ensures.followed c.in-Past.is c.in_ok-messages-in-Past.ensures
    (c.above.ensures ∙ ap (λ (t : Table). above t.level (flat_map message_names c.as_slice.result.now)) c.in_ok-node.ensures.left.table ∙ ap (λ (ms : List Message). above (g.S.NodeStore.table c.args.store.now).level (flat_map message_names ms)) c.as_slice.ensures)
    (c.level.ensures ∙ ap level_of c.deref-in-Past-2.ensures ∙ c.in_ok-node.ensures.shape.level_is)

pub returns-clause-lower : goal.returns-clause-lower
returns-clause-lower g c =
    let past : IsPast c.in_ok-node.node.value c.args.prefix.now c.in-Past.newer c.in-Past.target =
    subst (λ (f : Followed). IsFollowed c.in_ok-node.node.value c.args.prefix.now f) c.in-Past.is (subst (λ (n : Node). IsFollowed n c.args.prefix.now c.in_ok-follow.field-0) c.deref.ensures c.in_ok-follow.ensures.followed) in
    lower_target (g.S.NodeStore.table c.args.store.now) ((g.S.NodeStore.table c.args.store.now).level c.args.id) c.in_ok-node.node.value c.in-Past.target c.in_ok-node.ensures.shape past.named

pub returns-clause-led : goal.returns-clause-led
returns-clause-led g c = λ known.
    passed_led (g.S.NodeStore.nodes c.args.store.now) c.args.id c.in_ok-node.node.value c.deref.result.now c.deref-in-Past.result.now c.args.prefix.now c.in_ok-follow.field-0 c.in-Past.newer (record { layer = record { messages = c.in_ok-messages-in-Past.messages; over = c.above.result; level = c.level.result }; target = c.in-Past.target })
    c.deref.ensures c.deref-in-Past.ensures c.in_ok-follow.ensures.leads c.in-Past.is c.in_ok-messages-in-Past.ensures (c.in_ok-node.ensures.contents known)

pub returns-in-Here-clause-led : goal.returns-in-Here-clause-led
returns-in-Here-clause-led g c = λ known.
    ended_led (g.S.NodeStore.nodes c.args.store.now) c.args.id c.in_ok-node.node.value c.deref.result.now c.args.prefix.now c.in_ok-follow.field-0
    c.deref.ensures c.in_ok-follow.ensures.leads c.in-Here.is (c.in_ok-node.ensures.contents known)

pub returns-in-Here-clause-root : goal.returns-in-Here-clause-root
returns-in-Here-clause-root g c = λ same.
    root_of (g.S.NodeStore.is_known c.args.store.now) (g.S.NodeStore.nodes c.args.store.now) (g.S.NodeStore.table c.args.store.now) c.args.id c.in_ok-node.node.value c.in_ok-node.ensures.shape c.in_ok-node.ensures.root c.in_ok-node.ensures.contents same

pub returns-clause-root : goal.returns-clause-root
returns-clause-root g c = λ same.
    root_of (g.S.NodeStore.is_known c.args.store.now) (g.S.NodeStore.nodes c.args.store.now) (g.S.NodeStore.table c.args.store.now) c.args.id c.in_ok-node.node.value c.in_ok-node.ensures.shape c.in_ok-node.ensures.root c.in_ok-node.ensures.contents same
