use Rattle.std.proofs.Common.{ap}
use Rattle.bd_stream.specs.Exporting.{Move}
use Rattle.bd_stream.proofs.ExportLemmas.{absent_answer}
use Rattle.bd_stream.proofs.AnswerLemmas.{answer_goes, begins_on, begins_all}
use Rattle.bd_stream.proofs.laws.answers_write_the_stream.Goals as goal

pub returns-clause-begins : goal.returns-clause-begins
returns-clause-begins c = begins_on

pub returns-clause-all : goal.returns-clause-all
returns-clause-all c = λ t top e h. begins_all t top

pub returns-clause-goes_on : goal.returns-clause-goes_on
returns-clause-goes_on c = answer_goes

pub returns-clause-absent : goal.returns-clause-absent
returns-clause-absent c = λ t s k tree on ask gone. ap (λ (m : Move). m.0.stage) (absent_answer t s k tree on ask gone)
