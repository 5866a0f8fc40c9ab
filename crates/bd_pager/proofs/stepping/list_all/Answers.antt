use Rattle.bd_pager.proofs.StepLoops.{listed_more, listed_both}
use Rattle.bd_pager.proofs.stepping.list_all.Goals as goal

pub loop-put-preserved : goal.loop-put-preserved
loop-put-preserved c =
    let was = c.loop-put.usage in
    let now = c.list.new.self in
    record {
      listed = listed_more c.args.puts.now c.loop-put.put-index c.put-item.result was.listed now.listed c.loop-put-test.true c.put-item.is c.list.ensures.more.kept c.in_ok-list.ensures.listed c.loop-put.invariant.listed;
      more = listed_both c.args.usage.now was now c.loop-put.invariant.more c.list.ensures.more;
    }
