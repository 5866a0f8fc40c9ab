use Rattle.bd_log.proofs.Ones.{no_list}
use Rattle.bd_log.proofs.laws.damage_excludes_batches.Goals as goal

pub returns : goal.returns
returns c = λ image first epoch block batches end e h k. no_list image first epoch 0 h.0 batches h.1 end e h.2 h.3 h.4 k.follow k.closed
