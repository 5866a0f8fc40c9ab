use Rattle.std.proofs.Common.{List, length, drop, sym, ap, ◌∙◌, arith, get_or}
use Rattle.std.specs.List.{sum_by}
use Rattle.std.proofs.lemmas.Option.{same_Some}
use Rattle.bd_message.specs.declared.message.Message.{Message}
use Rattle.bd_node.specs.declared.node.Edge.{Edge}
use Rattle.bd_node.specs.Parts.{buffer_of}
use Rattle.bd_step.specs.Settling.{size_under, waiting_under}
use Rattle.bd_step.proofs.Reading.{read_shape, here_of}
use Rattle.bd_step.proofs.settling.waiting_at.Goals as goal

pub split_at-requires : goal.split_at-requires
split_at-requires c =
    let shape = read_shape c.args.node.now c.args.place c.index-edges-place.result c.edges.result.now (record { shape = c.requires.shape; same = c.edges.ensures; low = c.requires.within; read = c.index-edges-place.is }) in
    omega (arith, ap (λ (x : Edge). x.seen) c.index-edges-place.is, shape.seen, ap (λ (l : List Message). length l) c.buffer.ensures)

pub returns : goal.returns
returns c = λ e here.
    let read = here_of c.args.node.now c.args.place c.index-edges-place.result c.edges.result.now (record { shape = c.requires.shape; same = c.edges.ensures; low = c.requires.within; read = c.index-edges-place.is }) in
    c.bytes_under.ensures ∙ ap (λ (l : List Message). sum_by (size_under c.args.prefix.now) l) (c.split_at.ensures.back ∙ ap (λ (l : List Message). drop (get_or c.edges.result.now c.args.place c.index-edges-place.result).seen l) c.buffer.ensures)
    ∙ ap (λ (x : Edge). waiting_under c.args.prefix.now x (buffer_of c.args.node.now)) (sym c.index-edges-place.is ∙ same_Some c.index-edges-place.result e (sym read ∙ here))
