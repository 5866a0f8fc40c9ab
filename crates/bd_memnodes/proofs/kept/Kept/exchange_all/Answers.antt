use Rattle.std.proofs.Common.{List, subst}
use Rattle.std.specs.Vec.Iter.{into_iter_items}
use Rattle.bd_memnodes.specs.declared.plan.Exchange.{Exchange}
use Rattle.bd_memnodes.proofs.Carrying.{IsExchanging, exchanged_one}
use Rattle.bd_memnodes.proofs.kept.Kept.exchange_all.Goals as goal

pub loop-change-preserved : goal.loop-change-preserved
loop-change-preserved c =
    let e = c.exchange.ensures in
    exchanged_one c.args.self.now c.args.changes.items c.loop-change.yielded (into_iter_items c.next.new.self) c.in-Some.change c.loop-change.self c.exchange.new.self
    c.requires.once
    (subst (λ (rest : List Exchange). IsExchanging c.args.self.now c.args.changes.items c.loop-change.yielded rest c.loop-change.self) c.in-Some.ensures.steps.0 c.loop-change.invariant)
    (record {
      nodes = e.nodes;
      others = e.others;
      waits = e.waits;
      dead = e.dead;
      capacity = e.capacity;
      len = e.len;
      counts = e.counts;
      head = e.head;
    })
