use Rattle.std.proofs.Common.{◌≡◌, ◌++◌, take, drop}
use Rattle.std.specs.FinMap.{put}
use Rattle.bd_model.specs.Tree.{Entry, path_cmp}
use Rattle.bd_plain.proofs.entries.place.Given as goal

-- its place is in what is left
abbrev pub invariant-loop-at : goal.invariant-loop-at
invariant-loop-at l = (e : Entry) → put path_cmp l.path e l.entries ≡ take l.at l.entries ++ put path_cmp l.path e (drop l.at l.entries)
