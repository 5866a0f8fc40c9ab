use Rattle.std.proofs.Common.{nat_lt}
use Rattle.std.specs.Option.{option_copied}
use Rattle.bd_cover.specs.Reclaimed.{left_at}
use Rattle.bd_cover.proofs.Trimmed.{less_tested, tells_more}
use Rattle.bd_cover.proofs.trimming.has_more.Goals as goal

pub returns : goal.returns
returns c =
    tells_more c.args.edge.now (option_copied c.args.hi) c.args.node.now c.in_ok-made.made (nat_lt c.left_at.result c.left_at-2.result) c.in_ok-made.ensures.node
    (less_tested c.left_at.result c.left_at-2.result (left_at c.in_ok-made.made) (left_at c.args.node.now) c.left_at.ensures c.left_at-2.ensures)
