use Rattle.std.proofs.Common.{◌<◌, ◌∙◌, arith}
use Rattle.bd_script.proofs.GeneratedLemmas.{line_more}
use Rattle.bd_script.proofs.generator.Generator.drawn_line.Goals as goal

pub invariant_of-self : goal.invariant_of-self
invariant_of-self c =
    let at = rw (← c.self.view_is) at c.draws_at-draws.ensures in
    let below = rw (← c.self.view_is) at c.requires in
    let room : c.args.n < c.self.inside.count = below in
    (c.draw-line.ensures.state ∙ line_more c.self.inside.seed c.args.n c.draws_at-draws.result.state at, omega arith)
