use Rattle.std.proofs.Common.{◌≡◌, drop}
use Rattle.bd_pager.specs.Stepping.{put_at}
use Rattle.bd_pager.proofs.committing.put_in.Given as goal

-- the nodes so far are put for other ids
abbrev pub invariant-loop-put : goal.invariant-loop-put
invariant-loop-put l = put_at (drop l.put-index l.puts) l.id ≡ put_at l.puts l.id
