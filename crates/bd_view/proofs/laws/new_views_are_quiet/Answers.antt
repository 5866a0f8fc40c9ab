use Rattle.bd_view.proofs.Fresh.{fresh_free, fresh_need, fresh_quiet}
use Rattle.bd_view.proofs.laws.new_views_are_quiet.Goals as goal

pub returns-clause-free : goal.returns-clause-free
returns-clause-free c = fresh_free

pub returns-clause-need : goal.returns-clause-need
returns-clause-need c = fresh_need

pub returns-clause-quiet : goal.returns-clause-quiet
returns-clause-quiet c = fresh_quiet c.log_records_fit.ensures.fit
