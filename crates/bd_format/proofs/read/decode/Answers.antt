use Rattle.std.proofs.Common.{◌-◌, length, subst, sym, ◌∙◌, true≢false}
use Rattle.bd_limits.specs.Limits.{slot_size}
use Rattle.bd_wire.specs.Text.{zeros}
use Rattle.bd_message.specs.Codec.{IsPartAs}
use Rattle.bd_node.specs.Shape.{IsShape}
use Rattle.bd_format.specs.Images.{node_bytes}
use Rattle.bd_format.specs.Parts.{FitsNode}
use Rattle.bd_format.proofs.Fitting.{shape_fits}
use Rattle.bd_format.proofs.Rest.{one_image, AreZeros-zeros}
use Rattle.bd_format.proofs.read.decode.Goals as goal

pub returns-in_default : goal.returns-in_default
returns-in_default c = λ n shape image.
    subst (IsPartAs FitsNode node_bytes c.new-cursor.result c.read_node.new.cursor) c.in_default.is c.in_ok-node.ensures
    n (zeros (slot_size - length (node_bytes n))) (shape_fits n shape) (c.new-cursor.ensures.left ∙ image)

pub returns-then-not-rest_is_zero : goal.returns-then-not-rest_is_zero
returns-then-not-rest_is_zero c = λ n shape image.
    let read = subst (IsPartAs FitsNode node_bytes c.new-cursor.result c.read_node.new.cursor) c.in-Some.is c.in_ok-node.ensures in
    let one = one_image c.messages_are_prefix_free.ensures c.args.bytes.now c.read_node.new.cursor.left c.in-Some.node n read.0 (sym c.new-cursor.ensures.left ∙ read.1.front) shape image in
    true≢false (sym (c.rest_is_zero.ensures.1 (AreZeros-zeros c.read_node.new.cursor.left (slot_size - length (node_bytes n)) one.1)) ∙ c.if-not-rest_is_zero.true)

pub returns-then-not-is_shape : goal.returns-then-not-is_shape
returns-then-not-is_shape c = λ n shape image.
    let read = subst (IsPartAs FitsNode node_bytes c.new-cursor.result c.read_node.new.cursor) c.in-Some.is c.in_ok-node.ensures in
    let one = one_image c.messages_are_prefix_free.ensures c.args.bytes.now c.read_node.new.cursor.left c.in-Some.node n read.0 (sym c.new-cursor.ensures.left ∙ read.1.front) shape image in
    true≢false (sym (c.is_shape.ensures.1 (subst IsShape (sym one.0) shape)) ∙ c.if-not-is_shape.true)
