use Rattle.bd_message.proofs.Views.{next_seen}
use Rattle.bd_message.proofs.list_map.ListMapKeyMap.next.Goals as goal

pub returns-clause-next : goal.returns-clause-next
returns-clause-next c = λ _.
    next_seen c.self.inside.entries.items c.deref.result.now c.args.self.now c.args.from.now c.args.within.now _ _ c.deref.ensures.value c.self.view_is c.in_ok-owned_entry.ensures c.next_entry.ensures
