use Rattle.std.proofs.Common.{◌≡◌, ◌+◌, [], ◌∷◌, length, ap, ◌∙◌, arith, length-append}
use Rattle.bd_pager.specs.Places.{spots_in}
use Rattle.bd_pager.proofs.StepLoops.{put_then}
use Rattle.bd_pager.proofs.stepping.put_all.Goals as goal

pub loop-put-preserved : goal.loop-put-preserved
loop-put-preserved c =
    let rest = c.pop.new.self.items in
    let longer : length c.loop-put.puts.items ≡ length rest + 1 = ap length c.in-Some.ensures.items ∙ length-append rest (c.in-Some.put ∷ []) in
    record {
      room = c.put_one.ensures.room (length rest) (omega (arith, longer, c.loop-put.invariant.room));
      put = put_then c.args.puts.items c.loop-put.puts.items c.pop.new.self.items c.in-Some.put (spots_in c.args.spots.now) (spots_in c.loop-put.spots) (spots_in c.put_one.new.spots) c.args.usage.now c.loop-put.usage c.put_one.new.usage
          c.in-Some.ensures.items c.requires.listed c.put_one.ensures.spots c.put_one.ensures.usage c.loop-put.invariant.put;
    }
