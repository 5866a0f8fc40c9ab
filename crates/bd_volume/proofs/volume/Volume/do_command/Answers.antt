-- What is said of each fault is said of this one.
use Rattle.std.proofs.Common.{ℕ, refl, subst}
use Rattle.bd_model.specs.Tree.{Tree}
use Rattle.bd_volume.specs.declared.fault.Fault.TheVariants.{Worn, Full}
use Rattle.bd_volume.specs.Volume.{StandsFor, view_of}
use Rattle.bd_volume.specs.Wears.{Wears}
use Rattle.bd_volume.specs.Steps.{IsCommandFault, IsOfAccepted}
use Rattle.bd_volume.proofs.Executed.{at_err, damage_named, keys_stay}
use Rattle.bd_volume.proofs.Stepped.{not_stepped}
use Rattle.bd_volume.proofs.Writes.{writes_none}
use Rattle.bd_volume.proofs.volume.Volume.do_command.Goals as goal

pub returns-in-Some-clause-begun : goal.returns-in-Some-clause-begun
returns-in-Some-clause-begun g c = λ t n s.
    let v = view_of g.D.Device c.args.self.now in
    not_stepped c.args.command.now v v refl

pub returns-in-None-clause-full : goal.returns-in-None-clause-full
returns-in-None-clause-full g c = λ free need is t n s.
    let old = view_of g.D.Device c.args.self.now in
    let new = view_of g.D.Device c.execute-done.new.self in (
      at_err c.execute-done.result (Full free need) (λ fault. IsCommandFault fault c.args.self.now.count c.args.command.now old new) (c.execute-done.ensures.fails s.nodes) is,
      at_err c.execute-done.result (Full free need) (λ fault. (u : Tree) (m : ℕ) → StandsFor g.D.Device c.args.self.now u m → IsOfAccepted fault u c.args.command.now) c.execute-done.ensures.accepting is t n s,
    )

pub returns-in-None-clause-wears : goal.returns-in-None-clause-wears
returns-in-None-clause-wears g c = λ which is t n s.
    let old = view_of g.D.Device c.args.self.now in
    let new = view_of g.D.Device c.execute-done.new.self in (
      subst (λ (k : ℕ). Wears which k c.args.command.now old new) s.count_is
          (at_err c.execute-done.result (Worn which) (λ fault. IsCommandFault fault c.args.self.now.count c.args.command.now old new) (c.execute-done.ensures.fails s.nodes) is),
      at_err c.execute-done.result (Worn which) (λ fault. (u : Tree) (m : ℕ) → StandsFor g.D.Device c.args.self.now u m → IsOfAccepted fault u c.args.command.now) c.execute-done.ensures.accepting is t n s,
    )

pub returns-in-None-clause-damage : goal.returns-in-None-clause-damage
returns-in-None-clause-damage g c =
    damage_named g.D.Device c.execute-done.result c.args.self.now c.execute-done.new.self c.execute-done.ensures.ends.cause (c.execute-done.ensures.ends.stop) c.damage_is_shown.ensures

pub returns-in-Some-clause-keys : goal.returns-in-Some-clause-keys
returns-in-Some-clause-keys g c = λ s k. refl

pub returns-in-None-clause-keys : goal.returns-in-None-clause-keys
returns-in-None-clause-keys g c = keys_stay g.D.Device c.execute-done.result c.args.self.now c.execute-done.new.self c.args.command.now c.execute-done.ensures.begun

pub returns-in-Some-clause-writes : goal.returns-in-Some-clause-writes
returns-in-Some-clause-writes g c = writes_none g.D.Device c.args.self.now.engine

pub returns-in-None-clause-writes : goal.returns-in-None-clause-writes
returns-in-None-clause-writes g c = c.execute-done.ensures.ends.writes
