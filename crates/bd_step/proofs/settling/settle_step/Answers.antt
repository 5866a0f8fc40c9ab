use Rattle.std.proofs.lemmas.Result.{err_from_is_err_and}
use Rattle.bd_node.specs.Meaning.{Nodes}
use Rattle.bd_node.specs.Tables.{Table}
use Rattle.bd_path.specs.Made.{AreKnown}
use Rattle.bd_step.specs.Settling.{IsSettled, IsUnsettled, IsUnsettledIn}
use Rattle.bd_step.proofs.Making.{still_known}
use Rattle.bd_step.proofs.Settles.{some_site, match_site, site_pending, is_settle_step, settle_cause}
use Rattle.bd_step.proofs.settling.settle_step.Goals as goal

pub make_from-requires-clause-pending : goal.make_from-requires-clause-pending
make_from-requires-clause-pending g c =
    let t : Table = g.S.NodeStore.table c.args.store.now in
    site_pending t c.in-Some.site (some_site (IsUnsettled t) c.in_ok-site.field-0 c.in-Some.site c.in-Some.is c.in_ok-site.ensures.found)

pub returns-in_err-make_from-clause-cause : goal.returns-in_err-make_from-clause-cause
returns-in_err-make_from-clause-cause g c =
    let p = err_from_is_err_and c.from_residual-in_err-make_from.result c.from_residual-in_err-make_from.ensures.1 in
    let n : Nodes = g.S.NodeStore.nodes c.args.store.now in
    let t : Table = g.S.NodeStore.table c.args.store.now in
    rw (p.1, p.2)
    (settle_cause (g.S.NodeStore.fault_count c.args.store.now) (g.S.NodeStore.fault_count c.unsettled.new.store) (g.S.NodeStore.fault_count c.make_from.new.store) (g.S.NodeStore.last_failed c.make_from.new.store) (g.S.NodeStore.bad c.make_from.new.store) (AreKnown g.S.NodeStore c.args.store.now) (AreKnown g.S.NodeStore c.unsettled.new.store) n (g.S.NodeStore.nodes c.unsettled.new.store) t (g.S.NodeStore.table c.unsettled.new.store) c.args.prefix.now c.in-Some.site c.in_err-make_from.field-0.0
    c.in_ok-site.ensures.cause.kept c.unsettled.ensures.left.table
    (λ k. still_known (g.S.NodeStore.is_known c.unsettled.new.store) n (g.S.NodeStore.nodes c.unsettled.new.store) t (g.S.NodeStore.table c.unsettled.new.store) (c.unsettled.ensures.left.known k.0) (c.unsettled.ensures.left.kept k.0) c.unsettled.ensures.left.table k.1)
    (some_site (IsUnsettled t) c.in_ok-site.field-0 c.in-Some.site c.in-Some.is c.in_ok-site.ensures.found)
    (λ k. match_site (IsSettled n t c.args.prefix.now) (IsUnsettledIn n t c.args.prefix.now) c.in_ok-site.field-0 c.in-Some.site c.in-Some.is (c.in_ok-site.ensures.at k.0 k.1)) c.in_err-make_from.ensures.cause)

pub returns-clause-step : goal.returns-clause-step
returns-clause-step g c = λ known sound done.
    let n : Nodes = g.S.NodeStore.nodes c.args.store.now in
    let t : Table = g.S.NodeStore.table c.args.store.now in
    is_settle_step n (g.S.NodeStore.nodes c.unsettled.new.store) t (g.S.NodeStore.table c.unsettled.new.store) c.args.prefix.now c.in-Some.site (g.S.NodeStore.nodes c.make_from.new.store) (g.S.NodeStore.table c.make_from.new.store)
    (c.unsettled.ensures.left.kept known) c.unsettled.ensures.left.table sound
    (some_site (IsUnsettled t) c.in_ok-site.field-0 c.in-Some.site c.in-Some.is c.in_ok-site.ensures.found)
    (match_site (IsSettled n t c.args.prefix.now) (IsUnsettledIn n t c.args.prefix.now) c.in_ok-site.field-0 c.in-Some.site c.in-Some.is (c.in_ok-site.ensures.at known sound))
    (λ again. c.in_ok-make_from.ensures.made (c.unsettled.ensures.left.known known) again)
