use Rattle.std.proofs.Common.{drop}
use Rattle.std.specs.List.{AllByRecursion}
use Rattle.bd_pager.specs.Places.{spots_in}
use Rattle.bd_pager.specs.Testing.{IsNoHigher}
use Rattle.bd_pager.proofs.tested.stay_low.Given as goal

-- it holds of all if it holds of those that are left
abbrev pub invariant-loop-put : goal.invariant-loop-put
invariant-loop-put l =
    AllByRecursion (IsNoHigher (spots_in l.spots)) (drop l.put-index l.puts)
    → AllByRecursion (IsNoHigher (spots_in l.spots)) l.puts
