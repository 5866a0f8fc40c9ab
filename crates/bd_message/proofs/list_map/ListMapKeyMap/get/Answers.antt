use Rattle.std.proofs.Common.{ap, ◌∙◌}
use Rattle.bd_message.proofs.Finds.{found}
use Rattle.bd_message.proofs.Views.{seen_as}
use Rattle.bd_message.proofs.list_map.ListMapKeyMap.get.Goals as goal

pub returns-clause-value : goal.returns-clause-value
returns-clause-value c = λ _.
    c.in_ok-owned.ensures ∙ c.find.ensures ∙ ap (found c.args.key.now) c.deref.ensures.value ∙ seen_as c.self.inside.entries.items c.args.self.now c.args.key.now c.self.view_is
