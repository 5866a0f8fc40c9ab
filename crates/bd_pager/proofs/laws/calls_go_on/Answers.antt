use Rattle.bd_pager.specs.Calling.{read_none, read_both, read_known, read_keeps, keeps_both}
use Rattle.bd_pager.proofs.laws.calls_go_on.Goals as goal

pub returns-clause-none : goal.returns-clause-none
returns-clause-none g c = read_none g.D.Device

pub returns-clause-both : goal.returns-clause-both
returns-clause-both g c = read_both g.D.Device

pub returns-clause-known : goal.returns-clause-known
returns-clause-known g c = read_known g.D.Device

pub returns-clause-keep : goal.returns-clause-keep
returns-clause-keep g c = read_keeps g.D.Device

pub returns-clause-keeps_both : goal.returns-clause-keeps_both
returns-clause-keeps_both g c = keeps_both g.D.Device
