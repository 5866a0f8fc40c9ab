use Rattle.std.proofs.Common.{◌-◌, ◌≤◌, ◌<◌, length, get_or, sym, ◌∙◌, arith}
use Rattle.bd_node.proofs.ByStem.{read_stem, passed_far}
use Rattle.bd_node.proofs.stems.passed.Goals as goal

pub returns : goal.returns
returns c =
    let some : 0 < c.args.at = c.requires.some in
    let within : c.args.at ≤ length c.args.stems.now = c.requires.within in
    passed_far c.args.items.now c.args.stems.now c.args.key.now c.stem-own.result.now c.args.at c.up_to.result c.shared.result c.requires.stems c.requires.some c.requires.within
    (read_stem c.args.items.now (get_or c.args.stems.now (c.args.at - 1) 0) c.index-items-stems.result c.stem-own.result.now (c.requires.stems.below (c.args.at - 1) (omega arith)) c.index-items-stems.is c.stem-own.ensures)
    (sym c.starts_with.ensures.value ∙ c.if-starts_with.false) c.shared.ensures.value c.up_to.ensures
