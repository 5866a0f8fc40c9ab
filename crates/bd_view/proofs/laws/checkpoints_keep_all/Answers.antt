use Rattle.bd_view.proofs.Saved.{saves_all, saves_free, saves_one, saves_or_full}
use Rattle.bd_view.proofs.laws.checkpoints_keep_all.Goals as goal

pub returns-clause-none : goal.returns-clause-none
returns-clause-none c = saves_all

pub returns-clause-free : goal.returns-clause-free
returns-clause-free c = saves_free

pub returns-clause-one : goal.returns-clause-one
returns-clause-one c = saves_one

pub returns-clause-full : goal.returns-clause-full
returns-clause-full c = saves_or_full
