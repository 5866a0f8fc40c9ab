-- A line's reply follows from the state, and a fault is one of the volume's.
use Rattle.std.proofs.Common.{ap, refl}
use Rattle.std.proofs.lemmas.Result.{err_from_is_err_and}
use Rattle.std.specs.declared.result.Result.TheVariants.{Ok, Err}
use Rattle.bd_script.specs.declared.line.Line.TheVariants.{Run, Walk, Df, Sync, Checkpoint, Reclaim, Stop}
use Rattle.bd_shell.proofs.Lines.{outcome_ok, outcome_err, not_full, run_replies, walk_replies, df_replies, sync_replies, stop_replies, checkpoint_replies, reclaim_replies, command_fills, checkpoint_fills, reclaim_fills, command_leaves, checkpoint_leaves, reclaim_leaves, sync_leaves, sync_fails, fault_as, outcome_damage, unnamed, command_wears, checkpoint_wears, reclaim_wears, acks_line, acks_still, on_ok_any}
use Rattle.bd_shell.proofs.Acks.{acks_one}
use Rattle.bd_shell.proofs.Moving.{went_on}
use Rattle.bd_shell.proofs.Keeping.{view_carries, step_carries}
use Rattle.bd_shell.proofs.shell.execute.Goals as goal

pub returns-in-Ok-clause-ok : goal.returns-in-Ok-clause-ok
returns-in-Ok-clause-ok g c first since s at =
    run_replies g.D.Device c.args.kept.now.volume c.do_command.new.self s c.args.line.now c.in-Run.command c.in-Ok.reply at.at c.in-Run.is c.requires.line
    (c.in-Ok.ensures.replies s.tree s.count at.at.stands) (c.in-Ok.ensures.step s.tree s.count at.at.stands)
    (λ counts. c.in-Ok.ensures.moved counts s.tree s.count at.at.stands) c.in-Ok.ensures.unmoved _
    (step_carries g.D.Device first since c.args.kept.now c.do_command.new.self s c.in-Run.command (g.met.D.Device.since_earlier _) (c.in-Ok.ensures.time s.tree s.count at.at.stands) at)

pub returns-in-Err-clause-ok : goal.returns-in-Err-clause-ok
returns-in-Err-clause-ok g c =
    outcome_ok c.in-Err.fault _ _ c.outcome_of.ensures (λ free need w first since s at.
    command_fills g.D.Device c.args.kept.now.volume c.do_command.new.self s c.args.line.now c.in-Run.command free need at.at c.in-Run.is c.requires.line
    c.in-Err.ensures.stays (c.in-Err.ensures.full free need (ap Err w) s.tree s.count at.at.stands) _
    (view_carries g.D.Device first since c.args.kept.now c.do_command.new.self s (g.met.D.Device.since_earlier _) (c.in-Err.ensures.time s.tree s.count at.at.stands) at))

pub returns-in-Err-clause-err : goal.returns-in-Err-clause-err
returns-in-Err-clause-err g c =
    outcome_err c.in-Err.fault _ _ _ _ c.outcome_of.ensures
    (λ first since s at. command_leaves g.D.Device c.args.kept.now.volume c.do_command.new.self s c.args.line.now c.in-Run.command at.at c.in-Run.is
    c.in-Err.ensures.stays (c.in-Err.ensures.begun s.tree s.count at.at.stands) (c.in-Err.ensures.refused s.tree s.count at.at.stands) _
    (view_carries g.D.Device first since c.args.kept.now c.do_command.new.self s (g.met.D.Device.since_earlier _) (c.in-Err.ensures.time s.tree s.count at.at.stands) at))
    (λ block w first since s at. c.in-Err.ensures.undamaged block (ap Err w) s.tree s.count at.at.stands)
    (λ which w first since s at. command_wears g.D.Device c.args.kept.now.volume c.do_command.new.self s c.args.line.now c.in-Run.command which at.at c.in-Run.is
    c.in-Err.ensures.stays (c.in-Err.ensures.wears which (ap Err w) s.tree s.count at.at.stands) _
    (view_carries g.D.Device first since c.args.kept.now c.do_command.new.self s (g.met.D.Device.since_earlier _) (c.in-Err.ensures.time s.tree s.count at.at.stands) at))

pub returns-in-Ok-checkpoint-clause-ok : goal.returns-in-Ok-checkpoint-clause-ok
returns-in-Ok-checkpoint-clause-ok g c first since s at =
    checkpoint_replies g.D.Device c.args.kept.now.volume c.checkpoint.new.self s c.args.line.now at.at c.in-Checkpoint.is c.in-Ok-checkpoint.ensures.stays
    (c.in-Ok-checkpoint.ensures.saves s.tree s.count at.at.stands) _
    (view_carries g.D.Device first since c.args.kept.now c.checkpoint.new.self s (g.met.D.Device.since_earlier _) (c.in-Ok-checkpoint.ensures.time s.tree s.count at.at.stands) at)

pub returns-in-Err-checkpoint-clause-ok : goal.returns-in-Err-checkpoint-clause-ok
returns-in-Err-checkpoint-clause-ok g c =
    outcome_ok c.in-Err-checkpoint.fault _ _ c.outcome_of-in-Err-checkpoint.ensures (λ free need w first since s at.
    checkpoint_fills g.D.Device c.args.kept.now.volume c.checkpoint.new.self s c.args.line.now free need at.at c.in-Checkpoint.is
    c.in-Err-checkpoint.ensures.stays (c.in-Err-checkpoint.ensures.full free need (ap Err w)) _
    (view_carries g.D.Device first since c.args.kept.now c.checkpoint.new.self s (g.met.D.Device.since_earlier _) (c.in-Err-checkpoint.ensures.time s.tree s.count at.at.stands) at))

pub returns-in-Err-checkpoint-clause-err : goal.returns-in-Err-checkpoint-clause-err
returns-in-Err-checkpoint-clause-err g c =
    outcome_err c.in-Err-checkpoint.fault _ _ _ _ c.outcome_of-in-Err-checkpoint.ensures
    (λ first since s at. checkpoint_leaves g.D.Device c.args.kept.now.volume c.checkpoint.new.self s c.args.line.now at.at c.in-Checkpoint.is
    c.in-Err-checkpoint.ensures.stays (c.in-Err-checkpoint.ensures.unmoved s.tree s.count at.at.stands) _
    (view_carries g.D.Device first since c.args.kept.now c.checkpoint.new.self s (g.met.D.Device.since_earlier _) (c.in-Err-checkpoint.ensures.time s.tree s.count at.at.stands) at))
    (λ block w first since s at. absurd (c.in-Err-checkpoint.ensures.undamaged block (ap Err w)))
    (λ which w first since s at. checkpoint_wears g.D.Device c.args.kept.now.volume c.checkpoint.new.self s c.args.line.now which at.at c.in-Checkpoint.is
    c.in-Err-checkpoint.ensures.stays (c.in-Err-checkpoint.ensures.unmoved s.tree s.count at.at.stands)
    (λ short. not_full c.in-Err-checkpoint.fault which _ _ w (c.in-Err-checkpoint.ensures.short c.requires.going short))
    (c.in-Err-checkpoint.ensures.wears which (ap Err w)) _
    (view_carries g.D.Device first since c.args.kept.now c.checkpoint.new.self s (g.met.D.Device.since_earlier _) (c.in-Err-checkpoint.ensures.time s.tree s.count at.at.stands) at))

pub returns-in-Ok-reclaim-clause-ok : goal.returns-in-Ok-reclaim-clause-ok
returns-in-Ok-reclaim-clause-ok g c first since s at =
    reclaim_replies g.D.Device c.args.kept.now.volume c.reclaim.new.self s c.args.line.now at.at c.in-Reclaim.is c.in-Ok-reclaim.ensures.stays
    (c.in-Ok-reclaim.ensures.reclaims s.tree s.count at.at.stands) _
    (view_carries g.D.Device first since c.args.kept.now c.reclaim.new.self s (g.met.D.Device.since_earlier _) (c.in-Ok-reclaim.ensures.time s.tree s.count at.at.stands) at)

pub returns-in-Err-reclaim-clause-ok : goal.returns-in-Err-reclaim-clause-ok
returns-in-Err-reclaim-clause-ok g c =
    outcome_ok c.in-Err-reclaim.fault _ _ c.outcome_of-in-Err-reclaim.ensures (λ free need w first since s at.
    reclaim_fills g.D.Device c.args.kept.now.volume c.reclaim.new.self s c.args.line.now free need at.at c.in-Reclaim.is
    c.in-Err-reclaim.ensures.stays (c.in-Err-reclaim.ensures.full free need (ap Err w) s.tree s.count at.at.stands) _
    (view_carries g.D.Device first since c.args.kept.now c.reclaim.new.self s (g.met.D.Device.since_earlier _) (c.in-Err-reclaim.ensures.time s.tree s.count at.at.stands) at))

pub returns-in-Err-reclaim-clause-err : goal.returns-in-Err-reclaim-clause-err
returns-in-Err-reclaim-clause-err g c =
    outcome_err c.in-Err-reclaim.fault _ _ _ _ c.outcome_of-in-Err-reclaim.ensures
    (λ first since s at. reclaim_leaves g.D.Device c.args.kept.now.volume c.reclaim.new.self s c.args.line.now at.at c.in-Reclaim.is
    c.in-Err-reclaim.ensures.stays (c.in-Err-reclaim.ensures.begun s.tree s.count at.at.stands) _
    (view_carries g.D.Device first since c.args.kept.now c.reclaim.new.self s (g.met.D.Device.since_earlier _) (c.in-Err-reclaim.ensures.time s.tree s.count at.at.stands) at))
    (λ block w first since s at. c.in-Err-reclaim.ensures.undamaged block (ap Err w) s.tree s.count at.at.stands)
    (λ which w first since s at. reclaim_wears g.D.Device c.args.kept.now.volume c.reclaim.new.self s c.args.line.now which at.at c.in-Reclaim.is
    c.in-Err-reclaim.ensures.stays (c.in-Err-reclaim.ensures.wears which (ap Err w) s.tree s.count at.at.stands) _
    (view_carries g.D.Device first since c.args.kept.now c.reclaim.new.self s (g.met.D.Device.since_earlier _) (c.in-Err-reclaim.ensures.time s.tree s.count at.at.stands) at))

pub returns-in-Walk-clause-ok : goal.returns-in-Walk-clause-ok
returns-in-Walk-clause-ok g c first since s at =
    walk_replies g.D.Device c.args.kept.now.volume s c.args.line.now c.last_walk-walk.result _ at.at at c.in-Walk.is c.last_walk-walk.ensures

pub returns-in-Df-clause-ok : goal.returns-in-Df-clause-ok
returns-in-Df-clause-ok g c first since s at =
    df_replies g.D.Device c.args.kept.now.volume s c.args.line.now c.free.result c.slots.result _ at.at at c.in-Df.is c.free.ensures c.slots.ensures

pub returns-in_err-acknowledge-in-Sync-clause-err : goal.returns-in_err-acknowledge-in-Sync-clause-err
returns-in_err-acknowledge-in-Sync-clause-err g c =
    let p = err_from_is_err_and c.from_residual.result c.from_residual.ensures.1 in
    rw (p.1, p.2) (λ first since s at. sync_fails c.in_err-acknowledge-in-Sync.field-0.0 (Ok c.args.line.now) s _ c.in_err-acknowledge-in-Sync.ensures.kind
    (sync_leaves s c.args.line.now Sync _ (c.in_err-acknowledge-in-Sync.ensures.err first since s at) c.in-Sync.is refl))

pub returns-in_err-acknowledge-in-Sync-clause-cause : goal.returns-in_err-acknowledge-in-Sync-clause-cause
returns-in_err-acknowledge-in-Sync-clause-cause g c =
    let p = err_from_is_err_and c.from_residual.result c.from_residual.ensures.1 in
    rw (p.1, p.2) (λ sink. fault_as _ _ _ c.in_err-acknowledge-in-Sync.field-0.0 (c.in_err-acknowledge-in-Sync.ensures.cause sink))

pub returns-in_ok-acknowledge-in-Sync-clause-ok : goal.returns-in_ok-acknowledge-in-Sync-clause-ok
returns-in_ok-acknowledge-in-Sync-clause-ok g c first since s at =
    let k = c.in_ok-acknowledge-in-Sync.ensures.ok first since s at in
    sync_replies g.D.Device _ s k.calls c.args.line.now _ k.later k.reached.at k.reached c.in-Sync.is

pub returns-in_ok-acknowledge-in-Sync-clause-cause : goal.returns-in_ok-acknowledge-in-Sync-clause-cause
returns-in_ok-acknowledge-in-Sync-clause-cause g c sink = went_on _ _ _ _ (c.in_ok-acknowledge-in-Sync.ensures.cause sink).kept

pub returns-in_err-acknowledge-in-Stop-clause-err : goal.returns-in_err-acknowledge-in-Stop-clause-err
returns-in_err-acknowledge-in-Stop-clause-err g c =
    let p = err_from_is_err_and c.from_residual-in_err-acknowledge-in-Stop.result c.from_residual-in_err-acknowledge-in-Stop.ensures.1 in
    rw (p.1, p.2) (λ first since s at. sync_fails c.in_err-acknowledge-in-Stop.field-0.0 (Ok c.args.line.now) s _ c.in_err-acknowledge-in-Stop.ensures.kind
    (sync_leaves s c.args.line.now Stop _ (c.in_err-acknowledge-in-Stop.ensures.err first since s at) c.in-Stop.is refl))

pub returns-in_err-acknowledge-in-Stop-clause-cause : goal.returns-in_err-acknowledge-in-Stop-clause-cause
returns-in_err-acknowledge-in-Stop-clause-cause g c =
    let p = err_from_is_err_and c.from_residual-in_err-acknowledge-in-Stop.result c.from_residual-in_err-acknowledge-in-Stop.ensures.1 in
    rw (p.1, p.2) (λ sink. fault_as _ _ _ c.in_err-acknowledge-in-Stop.field-0.0 (c.in_err-acknowledge-in-Stop.ensures.cause sink))

pub returns-in_ok-acknowledge-in-Stop-clause-ok : goal.returns-in_ok-acknowledge-in-Stop-clause-ok
returns-in_ok-acknowledge-in-Stop-clause-ok g c first since s at =
    let k = c.in_ok-acknowledge-in-Stop.ensures.ok first since s at in
    stop_replies g.D.Device _ s k.calls c.args.line.now _ k.later k.reached.at k.reached c.in-Stop.is

pub returns-in_ok-acknowledge-in-Stop-clause-cause : goal.returns-in_ok-acknowledge-in-Stop-clause-cause
returns-in_ok-acknowledge-in-Stop-clause-cause g c sink = went_on _ _ _ _ (c.in_ok-acknowledge-in-Stop.ensures.cause sink).kept

pub returns-in-Err-clause-damage : goal.returns-in-Err-clause-damage
returns-in-Err-clause-damage g c = outcome_damage c.in-Err.fault _ _ c.outcome_of.ensures (λ block w. c.in-Err.ensures.damage block (ap Err w))

pub returns-in-Err-checkpoint-clause-damage : goal.returns-in-Err-checkpoint-clause-damage
returns-in-Err-checkpoint-clause-damage g c =
    outcome_damage c.in-Err-checkpoint.fault _ _ c.outcome_of-in-Err-checkpoint.ensures (λ block w. absurd (c.in-Err-checkpoint.ensures.undamaged block (ap Err w)))

pub returns-in-Err-reclaim-clause-damage : goal.returns-in-Err-reclaim-clause-damage
returns-in-Err-reclaim-clause-damage g c =
    outcome_damage c.in-Err-reclaim.fault _ _ c.outcome_of-in-Err-reclaim.ensures (λ block w. c.in-Err-reclaim.ensures.damage block (ap Err w))

pub returns-in_err-acknowledge-in-Sync-clause-damage : goal.returns-in_err-acknowledge-in-Sync-clause-damage
returns-in_err-acknowledge-in-Sync-clause-damage g c =
    let p = err_from_is_err_and c.from_residual.result c.from_residual.ensures.1 in
    rw (p.1, p.2) (unnamed _ c.in_err-acknowledge-in-Sync.field-0.0 c.in_err-acknowledge-in-Sync.ensures.kind)

pub returns-in_err-acknowledge-in-Stop-clause-damage : goal.returns-in_err-acknowledge-in-Stop-clause-damage
returns-in_err-acknowledge-in-Stop-clause-damage g c =
    let p = err_from_is_err_and c.from_residual-in_err-acknowledge-in-Stop.result c.from_residual-in_err-acknowledge-in-Stop.ensures.1 in
    rw (p.1, p.2) (unnamed _ c.in_err-acknowledge-in-Stop.field-0.0 c.in_err-acknowledge-in-Stop.ensures.kind)

pub returns-in-Ok-clause-acked : goal.returns-in-Ok-clause-acked
returns-in-Ok-clause-acked g c = acks_still _ (Ok (Run c.in-Run.command)) _ (ap Ok c.in-Run.is) refl

pub returns-in-Err-clause-acked : goal.returns-in-Err-clause-acked
returns-in-Err-clause-acked g c = on_ok_any c.outcome_of.result _ (acks_still _ (Ok (Run c.in-Run.command)) _ (ap Ok c.in-Run.is) refl)

pub returns-in-Ok-checkpoint-clause-acked : goal.returns-in-Ok-checkpoint-clause-acked
returns-in-Ok-checkpoint-clause-acked g c = acks_still _ (Ok Checkpoint) _ (ap Ok c.in-Checkpoint.is) refl

pub returns-in-Err-checkpoint-clause-acked : goal.returns-in-Err-checkpoint-clause-acked
returns-in-Err-checkpoint-clause-acked g c = on_ok_any c.outcome_of-in-Err-checkpoint.result _ (acks_still _ (Ok Checkpoint) _ (ap Ok c.in-Checkpoint.is) refl)

pub returns-in-Ok-reclaim-clause-acked : goal.returns-in-Ok-reclaim-clause-acked
returns-in-Ok-reclaim-clause-acked g c = acks_still _ (Ok Reclaim) _ (ap Ok c.in-Reclaim.is) refl

pub returns-in-Err-reclaim-clause-acked : goal.returns-in-Err-reclaim-clause-acked
returns-in-Err-reclaim-clause-acked g c = on_ok_any c.outcome_of-in-Err-reclaim.result _ (acks_still _ (Ok Reclaim) _ (ap Ok c.in-Reclaim.is) refl)

pub returns-in-Walk-clause-acked : goal.returns-in-Walk-clause-acked
returns-in-Walk-clause-acked g c = acks_still _ (Ok Walk) _ (ap Ok c.in-Walk.is) refl

pub returns-in-Df-clause-acked : goal.returns-in-Df-clause-acked
returns-in-Df-clause-acked g c = acks_still _ (Ok Df) _ (ap Ok c.in-Df.is) refl

pub returns-in_ok-acknowledge-in-Sync-clause-acked : goal.returns-in_ok-acknowledge-in-Sync-clause-acked
returns-in_ok-acknowledge-in-Sync-clause-acked g c = acks_line _ (Ok Sync) 1 _ _ (ap Ok c.in-Sync.is) refl (acks_one _ _ _ c.in_ok-acknowledge-in-Sync.ensures.acked)

pub returns-in_ok-acknowledge-in-Stop-clause-acked : goal.returns-in_ok-acknowledge-in-Stop-clause-acked
returns-in_ok-acknowledge-in-Stop-clause-acked g c = acks_line _ (Ok Stop) 1 _ _ (ap Ok c.in-Stop.is) refl (acks_one _ _ _ c.in_ok-acknowledge-in-Stop.ensures.acked)
