use Rattle.bd_super.proofs.Damage.{live_undamaged, one_damage}
use Rattle.bd_super.proofs.laws.damage_is_exact.Goals as goal

pub returns-clause-live : goal.returns-clause-live
returns-clause-live c = live_undamaged

pub returns-clause-one : goal.returns-clause-one
returns-clause-one c = one_damage
