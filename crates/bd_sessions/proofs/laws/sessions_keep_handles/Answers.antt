use Rattle.bd_sessions.proofs.FollowLemmas.{settled-kept, prepared-closed, prepared-stays}
use Rattle.bd_sessions.proofs.laws.sessions_keep_handles.Goals as goal

pub returns-clause-settled : goal.returns-clause-settled
returns-clause-settled c = settled-kept

pub returns-clause-closed : goal.returns-clause-closed
returns-clause-closed c = prepared-closed

pub returns-clause-stays : goal.returns-clause-stays
returns-clause-stays c = prepared-stays
