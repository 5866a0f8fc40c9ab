use Rattle.std.proofs.Common.{◌≡◌, ◌++◌, false, drop}
use Rattle.std.specs.Option.{option_copied}
use Rattle.bd_inner.specs.Carving.{owned}
use Rattle.bd_inner.proofs.carving.owned.Given as goal

abbrev pub invariant-loop-edge : goal.invariant-loop-edge
invariant-loop-edge l =
    l.list.items ++ owned l.own (option_copied l.end) l.before (drop l.edge-index l.edges)
    ≡ owned l.own (option_copied l.end) false l.edges
