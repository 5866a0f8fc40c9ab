use Rattle.std.specs.Option.{option_copied}
use Rattle.bd_copy.proofs.Copied.{span_again}
use Rattle.bd_cover.proofs.Trimmed.{on_shape}
use Rattle.bd_cover.proofs.trimming.asked_of.Goals as goal

pub narrow-requires-clause-span : goal.narrow-requires-clause-span
narrow-requires-clause-span c = span_again c.args.edge.now (option_copied c.args.hi) c.asked_from.result.now (option_copied c.asked_end.result) c.requires.asking c.asked_from.ensures c.asked_end.ensures

pub returns-clause-shape : goal.returns-clause-shape
returns-clause-shape c =
    on_shape c.args.node.now c.asked_from.result.now (option_copied c.asked_end.result) c.narrow.result c.narrow.ensures.bytes
    (span_again c.args.edge.now (option_copied c.args.hi) c.asked_from.result.now (option_copied c.asked_end.result) c.requires.asking c.asked_from.ensures c.asked_end.ensures) c.requires.shape c.narrow.ensures.node
