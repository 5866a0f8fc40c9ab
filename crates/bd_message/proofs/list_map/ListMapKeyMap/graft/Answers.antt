use Rattle.std.proofs.Common.{ap, ◌∙◌, List}
use Rattle.bd_message.specs.KeyMaps.{At, grafted}
use Rattle.bd_message.proofs.Finds.{Entry, found}
use Rattle.bd_message.proofs.Views.{seen, seen_all}
use Rattle.bd_message.proofs.list_map.ListMapKeyMap.graft.Goals as goal

pub returns-clause-grafted : goal.returns-clause-grafted
returns-clause-grafted c = λ _ k _.
    let graft_of = λ (at : At). grafted at c.args.s.now c.args.d.now c.args.keep k in
    seen c.in_ok-self-inside.field-0.items k
    ∙ c.in_ok-self-inside.ensures k
    ∙ ap (λ (es : List Entry). graft_of (λ l. found l es)) c.deref.ensures.value
    ∙ ap graft_of (seen_all c.self.inside.entries.items c.args.self.now c.self.view_is)
