-- What waits is committed, or the volume is stopped.
use Rattle.std.proofs.Common.{refl, sym, ap, ◌∙◌}
use Rattle.bd_log.specs.Logs.{LogState}
use Rattle.bd_volume.specs.declared.volume.Volume.{Volume}
use Rattle.bd_volume.proofs.Keeping.{keys_none}
use Rattle.bd_volume.proofs.Safe.{no_time}
use Rattle.bd_volume.proofs.Synced.{same_keys, sync_time, sync_kept, sync_stands, stopped_stands}
use Rattle.bd_volume.proofs.volume.Volume.sync.Goals as goal

pub returns-in-Some-clause-time : goal.returns-in-Some-clause-time
returns-in-Some-clause-time g c = λ t n s. no_time g.D.Device c.args.self.now t n

pub returns-in-Ok-clause-stays : goal.returns-in-Ok-clause-stays
returns-in-Ok-clause-stays g c = λ t n s.
    let h = c.in-Ok.ensures in
    let a : Volume g.row.D.Denot = c.args.self.now in
    sync_stands g.D.Device a (record a { engine = c.sync.new.self }) t n (sym c.stop.ensures ∙ c.in_default.is) h.nodes h.kept (ap (λ (l : LogState). l.waiting) h.log) refl s

pub returns-in-Ok-clause-kept : goal.returns-in-Ok-clause-kept
returns-in-Ok-clause-kept g c = λ t n s.
    let a : Volume g.row.D.Denot = c.args.self.now in
    sync_kept g.D.Device a (record a { engine = c.sync.new.self }) t n (sym c.stop.ensures ∙ c.in_default.is) c.in-Ok.ensures.kept s

pub returns-in-Ok-clause-time : goal.returns-in-Ok-clause-time
returns-in-Ok-clause-time g c = λ t n s.
    let a : Volume g.row.D.Denot = c.args.self.now in
    sync_time g.D.Device a (record a { engine = c.sync.new.self }) t n (sym c.stop.ensures ∙ c.in_default.is) c.in-Ok.ensures.time s

pub returns-in-Err-clause-stays : goal.returns-in-Err-clause-stays
returns-in-Err-clause-stays g c = λ t n s.
    let a : Volume g.row.D.Denot = c.args.self.now in
    stopped_stands g.D.Device a (record a { engine = c.sync.new.self }) t n c.in-Err.ensures.nodes c.in-Err.ensures.stop refl s

pub returns-in-Err-clause-time : goal.returns-in-Err-clause-time
returns-in-Err-clause-time g c = λ t n s.
    let a : Volume g.row.D.Denot = c.args.self.now in
    sync_time g.D.Device a (record a { engine = c.sync.new.self }) t n (sym c.stop.ensures ∙ c.in_default.is) c.in-Err.ensures.time s

pub returns-in-Some-clause-keys : goal.returns-in-Some-clause-keys
returns-in-Some-clause-keys g c = keys_none g.D.Device c.args.self.now

pub returns-in-Ok-clause-keys : goal.returns-in-Ok-clause-keys
returns-in-Ok-clause-keys g c = record { sound = c.in-Ok.ensures.nodes.sound; same = λ s. same_keys g.D.Device c.args.self.now.engine c.sync.new.self c.in-Ok.ensures.nodes }

pub returns-in-Err-clause-keys : goal.returns-in-Err-clause-keys
returns-in-Err-clause-keys g c = record { sound = c.in-Err.ensures.nodes.sound; same = λ s. same_keys g.D.Device c.args.self.now.engine c.sync.new.self c.in-Err.ensures.nodes }
