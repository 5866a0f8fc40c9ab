use Rattle.std.proofs.Common.{◌∙◌, arith}
use Rattle.bd_script.proofs.GeneratedLemmas.{draws_on}
use Rattle.bd_script.proofs.generator.Generator.draws_at.Goals as goal

pub returns-else-n-self : goal.returns-else-n-self
returns-else-n-self c =
    c.after-else-n-self.ensures
    ∙ rw (← c.self.view_is) (draws_on c.self.inside.seed c.self.inside.drawn c.args.n c.self.inside.draws.state (omega arith) c.self.invariant.0)
