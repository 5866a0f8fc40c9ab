use Rattle.std.proofs.Common.{sym, subst}
use Rattle.std.specs.Prelude.{MatchOption, Option}
use Rattle.bd_node.specs.declared.node.Node.{Node}
use Rattle.bd_node.specs.declared.relief.Relief.{Relief}
use Rattle.bd_node.specs.Pushes.{CanRelieve, HasRoomFor, IsRelieved, IsReliefOf}
use Rattle.bd_pager.proofs.pushing.push_between.Goals as goal

pub returns-clause-ok : goal.returns-clause-ok
returns-clause-ok c =
    let push = c.args.push in
    let node = c.args.parent.now in
    let is : IsReliefOf node push.place push.count c.in-Some.relief =
    subst (λ (o : Option Relief). MatchOption o (¬ CanRelieve node push.place push.count) (λ r. IsReliefOf node push.place push.count r)) c.in-Some.is c.in_ok-found.ensures in
    record {
      can = record { relieve = is.can; room = subst (λ (m : Node). HasRoomFor m push.gain) c.deref.ensures (c.fits.ensures.0 c.if-not-fits.false) };
      relieved = subst (λ (n : Node). IsRelieved node push.place is.can.edge push.count n) (sym c.relieve.ensures) is.relieved;
      gained = c.in_ok-give.ensures.ok;
    }
