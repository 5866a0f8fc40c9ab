use Rattle.std.proofs.Common.{◌≡◌, drop}
use Rattle.std.specs.Option.{option_map}
use Rattle.bd_query.specs.Looks.{patched}
use Rattle.bd_query.proofs.ways.finished.Given as goal

abbrev pub invariant-loop-patch : goal.invariant-loop-patch
invariant-loop-patch l = patched (drop l.patch-index l.patches) (option_map (λ v. v.items) l.value) ≡ patched l.patches l.fn.base
