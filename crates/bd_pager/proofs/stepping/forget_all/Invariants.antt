use Rattle.std.proofs.Common.{◌≡◌, ℕ, take}
use Rattle.bd_cache.specs.Cache.{kept_at, room_of}
use Rattle.bd_pager.specs.Stepping.{without_all}
use Rattle.bd_pager.proofs.stepping.forget_all.Given as goal

-- the nodes of the ids so far are kept no more
abbrev pub invariant-loop-id : goal.invariant-loop-id
invariant-loop-id l = record {
  kept : (id : ℕ) → kept_at l.cache id ≡ without_all (take l.id-index l.ids) id (kept_at l.fn.cache id);
  room : room_of l.cache ≡ room_of l.fn.cache;
}
