use Rattle.bd_sessions.proofs.OwnHandles.{own_after-append}
use Rattle.bd_sessions.proofs.laws.own_handles.Goals as goal

pub returns-clause-joined : goal.returns-clause-joined
returns-clause-joined c = own_after-append
