-- The fault is want of memory, and not the sink's.
use Rattle.bd_calls.proofs.Unread.{unread_flushed}
use Rattle.bd_calls.proofs.calling.end_unread.Goals as goal

pub returns-clause-flushed : goal.returns-clause-flushed
returns-clause-flushed g c = unread_flushed c.end_call.ensures.flushed
