use Rattle.bd_log.proofs.Ones.{one_list}
use Rattle.bd_log.proofs.laws.batches_are_one.Goals as goal

pub returns : goal.returns
returns c = λ image first epoch some others end place e h k. one_list image first epoch 0 some others end place e h.follow k.follow h.closed k.closed
