-- A checkpoint, all changes, and a last checkpoint.
use Rattle.std.proofs.lemmas.Result.{err_from_is_err_and, on_ok_weaker}
use Rattle.bd_volume.specs.Volume.{view_of}
use Rattle.bd_volume.proofs.Called.{went_on, goes_then, ends_then}
use Rattle.bd_volume.proofs.Keeping.{keeps_then, keys_then}
use Rattle.bd_volume.proofs.Reclaimed.{is_reclaim, first_fails, save_shows, between_fails, between_shows, lasts_fail, saves_show}
use Rattle.bd_volume.proofs.volume.Volume.reclaim_nodes.Goals as goal

pub returns-in_err-checkpoint-clause-fails : goal.returns-in_err-checkpoint-clause-fails
returns-in_err-checkpoint-clause-fails g c =
    let p = err_from_is_err_and c.from_residual.result c.from_residual.ensures.1 in
    let h = c.in_err-checkpoint.ensures in
    rw (p.1, p.2) (first_fails g.D.Device c.args.self.now c.checkpoint.new.self c.in_err-checkpoint.field-0.0
    (record { going = c.requires; unmoved = h.unmoved; full = h.full; wears = h.wears; undamaged = h.undamaged; unsaved = h.unsaved; cause = h.cause }))

pub returns-in_err-checkpoint-clause-shows : goal.returns-in_err-checkpoint-clause-shows
returns-in_err-checkpoint-clause-shows g c =
    let p = err_from_is_err_and c.from_residual.result c.from_residual.ensures.1 in
    let h = c.in_err-checkpoint.ensures in
    rw (p.1, p.2) (save_shows g.D.Device c.args.self.now c.checkpoint.new.self c.in_err-checkpoint.field-0.0
    (record { going = c.requires; unmoved = h.unmoved; full = h.full; wears = h.wears; undamaged = h.undamaged; unsaved = h.unsaved; cause = h.cause }))

pub returns-in_err-checkpoint-clause-ends : goal.returns-in_err-checkpoint-clause-ends
returns-in_err-checkpoint-clause-ends g c =
    let p = err_from_is_err_and c.from_residual.result c.from_residual.ensures.1 in
    let h = c.in_err-checkpoint.ensures in
    rw (p.1, p.2) (record { cause = h.cause; stop = h.stop c.requires; stays = h.device; writes = h.writes })

pub returns-in_err-change_all-clause-fails : goal.returns-in_err-change_all-clause-fails
returns-in_err-change_all-clause-fails g c =
    let p = err_from_is_err_and c.from_residual-in_err-change_all.result c.from_residual-in_err-change_all.ensures.1 in
    let h = c.in_ok-checkpoint.ensures in
    rw (p.1, p.2) (λ t n s. between_fails c.in_err-change_all.field-0.0 (view_of g.D.Device c.args.self.now) (view_of g.D.Device c.checkpoint.new.self) (view_of g.D.Device c.change_all.new.self)
    (h.saves t n s) (c.in_err-change_all.ensures.fails (h.stays t n s).nodes))

pub returns-in_err-checkpoint-clause-keeps : goal.returns-in_err-checkpoint-clause-keeps
returns-in_err-checkpoint-clause-keeps g c = λ t n s. record { stands = c.in_err-checkpoint.ensures.stays t n s; time = c.in_err-checkpoint.ensures.time t n s }

pub returns-in_err-change_all-clause-keeps : goal.returns-in_err-change_all-clause-keeps
returns-in_err-change_all-clause-keeps g c =
    let h = c.in_ok-checkpoint.ensures in
    keeps_then g.D.Device c.args.self.now c.checkpoint.new.self c.change_all.new.self (g.met.D.Device.since_earlier c.checkpoint.new.self.engine.pager.dev) (λ t n s. record { stands = h.stays t n s; time = h.time t n s }) c.in_err-change_all.ensures.keeps

pub returns-in_err-change_all-clause-shows : goal.returns-in_err-change_all-clause-shows
returns-in_err-change_all-clause-shows g c =
    let p = err_from_is_err_and c.from_residual-in_err-change_all.result c.from_residual-in_err-change_all.ensures.1 in
    rw (p.1, p.2) (between_shows g.D.Device c.in_err-change_all.field-0.0 c.change_all.new.self.engine c.in_err-change_all.ensures.shows)

pub returns-in_err-change_all-clause-ends : goal.returns-in_err-change_all-clause-ends
returns-in_err-change_all-clause-ends g c =
    let p = err_from_is_err_and c.from_residual-in_err-change_all.result c.from_residual-in_err-change_all.ensures.1 in
    let h = c.in_ok-checkpoint.ensures in
    let goes = went_on g.D.Device c.args.self.now c.checkpoint.new.self _ (record { cause = h.cause; stop = h.stop c.requires; stays = h.device; writes = h.writes }) h.count_stays in
    rw (p.1, p.2) (ends_then g.D.Device c.args.self.now c.checkpoint.new.self c.change_all.new.self _ goes c.in_err-change_all.ensures.ends)

pub returns-clause-reclaims : goal.returns-clause-reclaims
returns-clause-reclaims g c =
    let h = c.in_ok-checkpoint.ensures in
    let k = c.in_ok-change_all.ensures in
    on_ok_weaker c.checkpoint-2.result (λ saves t n s. is_reclaim (view_of g.D.Device c.args.self.now) (view_of g.D.Device c.checkpoint.new.self) (view_of g.D.Device c.change_all.new.self) (view_of g.D.Device c.checkpoint-2.new.self)
    (h.saves t n s) (k.changes (h.stays t n s).nodes) (saves t n (k.keeps t n (h.stays t n s)).stands)) c.checkpoint-2.ensures.saves

pub returns-clause-fails : goal.returns-clause-fails
returns-clause-fails g c =
    let h = c.in_ok-checkpoint.ensures in
    let k = c.in_ok-change_all.ensures in
    let l = c.checkpoint-2.ensures in
    lasts_fail g.D.Device c.checkpoint-2.result c.args.self.now c.checkpoint.new.self c.change_all.new.self c.checkpoint-2.new.self
    (λ t n s. (h.saves t n s, k.changes (h.stays t n s).nodes, (k.keeps t n (h.stays t n s)).stands))
    (record { going = k.ends.stop.ok.stop_is; unmoved = l.unmoved; full = l.full; wears = l.wears; undamaged = l.undamaged; unsaved = l.unsaved; cause = l.cause })

pub returns-clause-keeps : goal.returns-clause-keeps
returns-clause-keeps g c =
    let h = c.in_ok-checkpoint.ensures in
    let l = c.checkpoint-2.ensures in
    let first = keeps_then g.D.Device c.args.self.now c.checkpoint.new.self c.change_all.new.self (g.met.D.Device.since_earlier c.checkpoint.new.self.engine.pager.dev) (λ t n s. record { stands = h.stays t n s; time = h.time t n s }) c.in_ok-change_all.ensures.keeps in
    keeps_then g.D.Device c.args.self.now c.change_all.new.self c.checkpoint-2.new.self (g.met.D.Device.since_earlier c.change_all.new.self.engine.pager.dev) first (λ t n s. record { stands = l.stays t n s; time = l.time t n s })

pub returns-clause-kept : goal.returns-clause-kept
returns-clause-kept g c =
    on_ok_weaker c.checkpoint-2.result (λ kept t n s. kept t n ((c.in_ok-change_all.ensures.keeps t n (c.in_ok-checkpoint.ensures.stays t n s)).stands)) c.checkpoint-2.ensures.kept

pub returns-clause-shows : goal.returns-clause-shows
returns-clause-shows g c =
    let k = c.in_ok-change_all.ensures in
    let l = c.checkpoint-2.ensures in
    saves_show g.D.Device c.checkpoint-2.result c.change_all.new.self c.checkpoint-2.new.self
    (record { going = k.ends.stop.ok.stop_is; unmoved = l.unmoved; full = l.full; wears = l.wears; undamaged = l.undamaged; unsaved = l.unsaved; cause = l.cause })

pub returns-clause-ends : goal.returns-clause-ends
returns-clause-ends g c =
    let h = c.in_ok-checkpoint.ensures in
    let k = c.in_ok-change_all.ensures in
    let l = c.checkpoint-2.ensures in
    let goes = went_on g.D.Device c.args.self.now c.checkpoint.new.self _ (record { cause = h.cause; stop = h.stop c.requires; stays = h.device; writes = h.writes }) h.count_stays in
    let went = goes_then g.D.Device c.args.self.now c.checkpoint.new.self c.change_all.new.self goes (went_on g.D.Device c.checkpoint.new.self c.change_all.new.self _ k.ends k.count_stays) in
    ends_then g.D.Device c.args.self.now c.change_all.new.self c.checkpoint-2.new.self c.checkpoint-2.result went
    (record { cause = l.cause; stop = l.stop k.ends.stop.ok.stop_is; stays = l.device; writes = l.writes })

pub returns-in_err-checkpoint-clause-keys : goal.returns-in_err-checkpoint-clause-keys
returns-in_err-checkpoint-clause-keys g c = c.in_err-checkpoint.ensures.keys

pub returns-in_err-change_all-clause-keys : goal.returns-in_err-change_all-clause-keys
returns-in_err-change_all-clause-keys g c =
    keys_then g.D.Device c.args.self.now c.checkpoint.new.self c.change_all.new.self c.in_ok-checkpoint.ensures.keys c.in_err-change_all.ensures.keys

pub returns-clause-keys : goal.returns-clause-keys
returns-clause-keys g c =
    keys_then g.D.Device c.args.self.now c.change_all.new.self c.checkpoint-2.new.self
    (keys_then g.D.Device c.args.self.now c.checkpoint.new.self c.change_all.new.self c.in_ok-checkpoint.ensures.keys c.in_ok-change_all.ensures.keys) c.checkpoint-2.ensures.keys
