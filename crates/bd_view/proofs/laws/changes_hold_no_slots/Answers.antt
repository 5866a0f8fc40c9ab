use Rattle.bd_view.proofs.Records.{nodes_record}
use Rattle.bd_view.proofs.Steps.{nodes_free, nodes_log}
use Rattle.bd_view.proofs.laws.changes_hold_no_slots.Goals as goal

pub returns-clause-free : goal.returns-clause-free
returns-clause-free c = nodes_free

pub returns-clause-log : goal.returns-clause-log
returns-clause-log c = nodes_log

pub returns-clause-record : goal.returns-clause-record
returns-clause-record c = nodes_record
