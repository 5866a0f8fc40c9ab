use Rattle.std.proofs.lemmas.Result.{IfOk-weaker}
use Rattle.bd_query.specs.declared.part.Part.{Part}
use Rattle.bd_query.proofs.Parts.{through_named}
use Rattle.bd_query.proofs.part.part_through.Goals as goal

pub returns-clause-named : goal.returns-clause-named
returns-clause-named c =
    IfOk-weaker c.through.result _ _ (λ (part : Part) old_or.
    through_named c.args.edge.now c.args.buffer.now c.in_ok-first.first.base part.base c.in_ok-first.ensures.named old_or) c.through.ensures.named
