use Rattle.std.proofs.Common.{ap, ◌∙◌}
use Rattle.bd_message.specs.Effect.{acts, no_nodes}
use Rattle.bd_message.proofs.Finds.{found}
use Rattle.bd_message.proofs.Views.{seen, seen_as, cloned_entries}
use Rattle.bd_message.proofs.list_map.ListMapKeyMap.apply.Goals as goal

pub returns-clause-applied : goal.returns-clause-applied
returns-clause-applied c = λ _ k _.
    seen c.act_all.new.entries.items k
    ∙ c.in_ok-act_all.ensures k
    ∙ ap (acts no_nodes c.args.list.now k) (ap (found k) (cloned_entries _ _ c.in_ok-entries.ensures.cases.0) ∙ seen_as c.self.inside.entries.items c.args.self.now k c.self.view_is)
