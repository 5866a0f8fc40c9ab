use Rattle.std.proofs.Common.{◌≤◌, length, vec_len}
use Rattle.std.specs.HashMap.{spare}
use Rattle.bd_pager.specs.Places.{spots_in}
use Rattle.bd_pager.proofs.StepLoops.{ArePut}
use Rattle.bd_pager.proofs.stepping.put_all.Given as goal

-- the nodes that aren't left were put
abbrev pub invariant-loop-put : goal.invariant-loop-put
invariant-loop-put l = record {
  room : length l.puts.items ≤ spare l.spots;
  put : ArePut l.fn.puts.items l.puts.items (spots_in l.fn.spots) l.fn.usage (spots_in l.spots) l.usage;
}

abbrev pub decreases-loop-put : goal.decreases-loop-put
decreases-loop-put l = vec_len l.puts
