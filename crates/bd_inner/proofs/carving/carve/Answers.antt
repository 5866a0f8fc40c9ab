use Rattle.std.proofs.Common.{List, get_or, refl, ap, ◌∙◌}
use Rattle.std.specs.Option.{option_copied, option_map}
use Rattle.bd_message.specs.declared.message.Message.{Message}
use Rattle.bd_inner.proofs.Carved.{same_carved, ready, goto_low, ready_loose, ready_carved, shape_carved}
use Rattle.bd_inner.proofs.carving.carve.Goals as goal

pub goto_edge-requires-clause-low : goal.goto_edge-requires-clause-low
goto_edge-requires-clause-low c = goto_low c.args.node.now c.in-Inner.level c.in-Inner.edges c.in-Inner.buffer c.args.at c.in-Inner.is c.requires.shape c.requires.goto

pub sweep-requires : goal.sweep-requires
sweep-requires c =
    ready_loose c.args.node.now c.args.at c.in-Inner.level c.in-Inner.edges c.in_ok-edges-in-Inner.edges c.in-Inner.buffer c.in_ok-own-in-Inner.own (option_map (λ key. key.items) c.in_ok-end-in-Inner.end)
    (ready c.args.node.now c.in-Inner.level c.in-Inner.edges c.in-Inner.buffer c.in-Inner.buffer c.args.at c.index-list-at.result c.in_ok-own-in-Inner.own c.as_slice.result.now (option_map (λ key. key.items) c.in_ok-end-in-Inner.end) c.in-Inner.is c.requires.shape c.requires.goto
    refl (c.index-list-at.is ∙ ap (λ (l : List Message). get_or l c.args.at c.index-list-at.result) c.as_slice-list.ensures) c.in_ok-own-in-Inner.ensures c.as_slice.ensures c.in_ok-end-in-Inner.ensures.bytes c.in_ok-end-in-Inner.ensures.end)
    c.requires.room (c.in_ok-edges-in-Inner.ensures ∙ same_carved c.in_ok-own-in-Inner.own (option_copied c.as_end.result) (option_map (λ key. key.items) c.in_ok-end-in-Inner.end) c.as_slice-in-Inner.result.now c.in-Inner.edges c.as_end.ensures c.as_slice-in-Inner.ensures)

pub returns-clause-node : goal.returns-clause-node
returns-clause-node c =
    ready_carved c.args.node.now c.args.at c.in-Inner.level c.in-Inner.edges c.in_ok-edges-in-Inner.edges c.in-Inner.buffer c.in_ok-own-in-Inner.own (option_map (λ key. key.items) c.in_ok-end-in-Inner.end) c.sweep.result
    (ready c.args.node.now c.in-Inner.level c.in-Inner.edges c.in-Inner.buffer c.in-Inner.buffer c.args.at c.index-list-at.result c.in_ok-own-in-Inner.own c.as_slice.result.now (option_map (λ key. key.items) c.in_ok-end-in-Inner.end) c.in-Inner.is c.requires.shape c.requires.goto
    refl (c.index-list-at.is ∙ ap (λ (l : List Message). get_or l c.args.at c.index-list-at.result) c.as_slice-list.ensures) c.in_ok-own-in-Inner.ensures c.as_slice.ensures c.in_ok-end-in-Inner.ensures.bytes c.in_ok-end-in-Inner.ensures.end)
    (c.in_ok-edges-in-Inner.ensures ∙ same_carved c.in_ok-own-in-Inner.own (option_copied c.as_end.result) (option_map (λ key. key.items) c.in_ok-end-in-Inner.end) c.as_slice-in-Inner.result.now c.in-Inner.edges c.as_end.ensures c.as_slice-in-Inner.ensures) c.sweep.ensures

pub returns-clause-shape : goal.returns-clause-shape
returns-clause-shape c = shape_carved c.args.node.now c.args.at c.sweep.result c.requires.shape c.requires.room (returns-clause-node c)
