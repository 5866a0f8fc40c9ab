use Rattle.std.proofs.Common.{◌≡◌, [], sym, ap, subst}
use Rattle.bd_model.specs.Tree.{root_only}
use Rattle.bd_device.specs.Device.{left_now, Stays}
use Rattle.bd_device.specs.Moments.{IsOnly}
use Rattle.bd_log.specs.Logs.{LogState}
use Rattle.bd_pager.specs.Pagers.{nodes_of, table_of, is_known}
use Rattle.bd_checkpoint.specs.Kept.{AllStandFor, AreOfTree}
use Rattle.bd_view.specs.Views.{fresh_view}
use Rattle.bd_engine.specs.Engines.{EngineState, view_of}
use Rattle.bd_engine.proofs.Starting.{fresh_standing, fresh_shown}
use Rattle.bd_engine.proofs.Recalls.{kept_none, sound_with}
use Rattle.bd_engine.proofs.engine.Engine.format.Goals as goal

pub over-requires : goal.over-requires
over-requires g c =
    let f = c.in-Ok.formatted in
    fresh_standing g.D.Device f.pager f.log f.live c.args.slots c.in-Ok.ensures.live c.in-Ok.ensures.open c.in-Ok.ensures.place c.in-Ok.ensures.spare c.in-Ok.ensures.lent c.in-Ok.ensures.log c.in-Ok.ensures.told c.in-Ok.ensures.entries c.in-Ok.ensures.room

pub returns-clause-view : goal.returns-clause-view
returns-clause-view g c = λ told.
    let D = g.D.Device in
    let f = c.in-Ok.formatted in
    subst (λ (e : EngineState g.row.D.Denot). view_of D e ≡ fresh_view c.args.slots) (sym c.over.ensures.started)
    (fresh_shown D c.kept_nodes_are_listed.ensures.one (D.contents f.pager.dev) f.pager c.over.result.recalled f.log f.live c.args.slots c.nodes_are_placed.ensures c.in-Ok.ensures.live c.in-Ok.ensures.log (c.in-Ok.ensures.nodes told) c.in-Ok.ensures.table c.in-Ok.ensures.entries c.in-Ok.ensures.place c.in-Ok.ensures.spare)

pub returns-clause-known : goal.returns-clause-known
returns-clause-known g c = λ told. subst (λ (e : EngineState g.row.D.Denot). is_known g.D.Device e.pager) (sym c.over.ensures.started) (c.in-Ok.ensures.known told)

pub returns-clause-tree : goal.returns-clause-tree
returns-clause-tree g c = λ told.
    let D = g.D.Device in
    subst (λ (e : EngineState g.row.D.Denot). AreOfTree (nodes_of D e.pager) (table_of e.pager) root_only) (sym c.over.ensures.started) (c.in-Ok.ensures.tree told)

pub returns-clause-stands : goal.returns-clause-stands
returns-clause-stands g c = λ told.
    let D = g.D.Device in
    subst (λ (e : EngineState g.row.D.Denot). AllStandFor root_only 0 (left_now D e.pager.dev)) (sym c.over.ensures.started) (c.in-Ok.ensures.stands told)

pub returns-clause-only : goal.returns-clause-only
returns-clause-only g c =
    let D = g.D.Device in
    subst (λ (e : EngineState g.row.D.Denot). IsOnly (D.contents e.pager.dev) (left_now D e.pager.dev)) (sym c.over.ensures.started) c.in-Ok.ensures.only

pub returns-clause-stays : goal.returns-clause-stays
returns-clause-stays g c =
    let D = g.D.Device in
    subst (λ (e : EngineState g.row.D.Denot). Stays D c.args.dev e.pager.dev) (sym c.over.ensures.started) c.in-Ok.ensures.stays

pub returns-clause-faults : goal.returns-clause-faults
returns-clause-faults g c =
    let D = g.D.Device in
    subst (λ (e : EngineState g.row.D.Denot). D.fault_count e.pager.dev ≡ D.fault_count c.args.dev) (sym c.over.ensures.started) c.in-Ok.ensures.faults

pub returns-clause-idle : goal.returns-clause-idle
returns-clause-idle g c =
    subst (λ (e : EngineState g.row.D.Denot). e.log.waiting ≡ []) (sym c.over.ensures.started) (ap (λ (l : LogState). l.waiting) c.in-Ok.ensures.log)

pub returns-clause-fresh : goal.returns-clause-fresh
returns-clause-fresh g c = λ h.
    sound_with g.D.Device c.over.result h (kept_none _ c.over.result.recalled c.over.ensures.fresh)
