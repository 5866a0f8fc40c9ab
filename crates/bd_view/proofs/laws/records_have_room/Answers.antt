use Rattle.bd_view.proofs.Records.{version_has, anew_has}
use Rattle.bd_view.proofs.laws.records_have_room.Goals as goal

pub returns-clause-version : goal.returns-clause-version
returns-clause-version c = version_has

pub returns-clause-anew : goal.returns-clause-anew
returns-clause-anew c = anew_has c.log_records_fit.ensures.fit
