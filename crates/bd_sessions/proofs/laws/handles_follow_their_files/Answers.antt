use Rattle.std.specs.declared.option.Option.TheVariants.{None}
use Rattle.std.proofs.lemmas.List.{map-set}
use Rattle.bd_sessions.specs.Handles.{stands_for, opening_at}
use Rattle.bd_sessions.proofs.FollowLemmas.{stands_for-one_more, tables-one_more}
use Rattle.bd_sessions.proofs.laws.handles_follow_their_files.Goals as goal

pub returns-clause-one : goal.returns-clause-one
returns-clause-one c = stands_for-one_more

pub returns-clause-all : goal.returns-clause-all
returns-clause-all c = tables-one_more

pub returns-clause-begins : goal.returns-clause-begins
returns-clause-begins c = λ path number row. map-set stands_for row number (opening_at path)

pub returns-clause-ends : goal.returns-clause-ends
returns-clause-ends c = λ number row. map-set stands_for row number None
