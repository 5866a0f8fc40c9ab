use Rattle.bd_sessions.proofs.TurnLemmas.{first_word-found, after_word-found, first_word-none, after_word-none}
use Rattle.bd_sessions.proofs.reading.cut_first.Goals as goal

pub returns-in-Some-clause-word : goal.returns-in-Some-clause-word
returns-in-Some-clause-word c = first_word-found c.args.text.now c.in-Some.end c.in-Some.ensures.place

pub returns-in-Some-clause-rest : goal.returns-in-Some-clause-rest
returns-in-Some-clause-rest c = after_word-found c.args.text.now c.in-Some.end c.in-Some.ensures.place

pub returns-in-None-clause-word : goal.returns-in-None-clause-word
returns-in-None-clause-word c = first_word-none c.args.text.now c.in-None.ensures.place

pub returns-in-None-clause-rest : goal.returns-in-None-clause-rest
returns-in-None-clause-rest c = after_word-none c.args.text.now c.in-None.ensures.place
