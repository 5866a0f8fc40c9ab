-- What is said of each fault is said of this one.
use Rattle.std.proofs.Common.{ℕ}
use Rattle.bd_model.specs.Tree.{Tree}
use Rattle.bd_volume.specs.declared.fault.Fault.TheVariants.{Damaged, Worn, Full}
use Rattle.bd_volume.specs.Reclaims.{IsReclaimFault, ShowsReclaim}
use Rattle.bd_volume.specs.Volume.{StandsFor, view_of}
use Rattle.bd_volume.proofs.Executed.{at_err, damage_named}
use Rattle.bd_volume.proofs.Keeping.{keys_none}
use Rattle.bd_volume.proofs.Reclaimed.{faults_begun}
use Rattle.bd_volume.proofs.Writes.{writes_none}
use Rattle.bd_volume.proofs.volume.Volume.reclaim.Goals as goal

pub returns-clause-begun : goal.returns-clause-begun
returns-clause-begun g c = faults_begun g.D.Device c.reclaim_nodes-done.result c.args.self.now c.reclaim_nodes-done.new.self c.reclaim_nodes-done.ensures.fails

pub returns-clause-full : goal.returns-clause-full
returns-clause-full g c = λ free need is.
    at_err c.reclaim_nodes-done.result (Full free need) (λ fault. (t : Tree) (n : ℕ) → StandsFor g.D.Device c.args.self.now t n → IsReclaimFault fault (view_of g.D.Device c.args.self.now) (view_of g.D.Device c.reclaim_nodes-done.new.self)) c.reclaim_nodes-done.ensures.fails is

pub returns-clause-wears : goal.returns-clause-wears
returns-clause-wears g c = λ which is.
    at_err c.reclaim_nodes-done.result (Worn which) (λ fault. (t : Tree) (n : ℕ) → StandsFor g.D.Device c.args.self.now t n → IsReclaimFault fault (view_of g.D.Device c.args.self.now) (view_of g.D.Device c.reclaim_nodes-done.new.self)) c.reclaim_nodes-done.ensures.fails is

pub returns-clause-undamaged : goal.returns-clause-undamaged
returns-clause-undamaged g c = λ block is.
    at_err c.reclaim_nodes-done.result (Damaged block) (λ fault. (t : Tree) (n : ℕ) → StandsFor g.D.Device c.args.self.now t n → IsReclaimFault fault (view_of g.D.Device c.args.self.now) (view_of g.D.Device c.reclaim_nodes-done.new.self)) c.reclaim_nodes-done.ensures.fails is

pub returns-clause-damage : goal.returns-clause-damage
returns-clause-damage g c =
    damage_named g.D.Device c.reclaim_nodes-done.result c.args.self.now c.reclaim_nodes-done.new.self c.reclaim_nodes-done.ensures.ends.cause (c.reclaim_nodes-done.ensures.ends.stop) c.damage_is_shown.ensures

pub returns-clause-numbers : goal.returns-clause-numbers
returns-clause-numbers g c = λ free need is.
    at_err c.reclaim_nodes-done.result (Full free need) (λ fault. ShowsReclaim g.D.Device fault c.reclaim_nodes-done.new.self.engine) c.reclaim_nodes-done.ensures.shows is

pub returns-clause-shows : goal.returns-clause-shows
returns-clause-shows g c = λ which is.
    at_err c.reclaim_nodes-done.result (Worn which) (λ fault. ShowsReclaim g.D.Device fault c.reclaim_nodes-done.new.self.engine) c.reclaim_nodes-done.ensures.shows is

pub returns-in-Some-clause-keys : goal.returns-in-Some-clause-keys
returns-in-Some-clause-keys g c = keys_none g.D.Device c.args.self.now

pub returns-clause-keys : goal.returns-clause-keys
returns-clause-keys g c = c.reclaim_nodes-done.ensures.keys

pub returns-in-Some-clause-writes : goal.returns-in-Some-clause-writes
returns-in-Some-clause-writes g c = writes_none g.D.Device c.args.self.now.engine

pub returns-clause-writes : goal.returns-clause-writes
returns-clause-writes g c = c.reclaim_nodes-done.ensures.ends.writes
