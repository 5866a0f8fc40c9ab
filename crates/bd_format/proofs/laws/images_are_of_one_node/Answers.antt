use Rattle.std.proofs.Common.{sym, ◌∙◌, ◌-◌, length}
use Rattle.bd_limits.specs.Limits.{slot_size}
use Rattle.bd_wire.specs.Text.{zeros}
use Rattle.bd_format.specs.Images.{node_bytes}
use Rattle.bd_format.proofs.Alone.{node_alone}
use Rattle.bd_format.proofs.Fitting.{shape_fits}
use Rattle.bd_format.proofs.laws.images_are_of_one_node.Goals as goal

pub returns : goal.returns
returns c = λ m n bytes p q first second.
    (node_alone c.messages_are_prefix_free.ensures m n (zeros (slot_size - length (node_bytes m))) (zeros (slot_size - length (node_bytes n)))
    (shape_fits m p) (shape_fits n q) (sym first ∙ second)).0
