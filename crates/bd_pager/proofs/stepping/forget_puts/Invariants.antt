use Rattle.std.proofs.Common.{◌≡◌, ℕ, drop}
use Rattle.bd_cache.specs.Cache.{kept_at, room_of}
use Rattle.bd_pager.proofs.StepLoops.{unless_put}
use Rattle.bd_pager.proofs.stepping.forget_puts.Given as goal

-- the nodes to come are kept no more in the end
abbrev pub invariant-loop-put : goal.invariant-loop-put
invariant-loop-put l = record {
  kept : (id : ℕ) → unless_put (drop l.put-index l.puts) id (kept_at l.cache id) ≡ unless_put l.puts id (kept_at l.fn.cache id);
  room : room_of l.cache ≡ room_of l.fn.cache;
}
