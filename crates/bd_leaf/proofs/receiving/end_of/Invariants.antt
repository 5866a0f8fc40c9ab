use Rattle.std.proofs.Common.{◌≡◌, ℕ, ◌<◌, ◌≤◌, true, Some}
use Rattle.std.specs.Prelude.{slice_get}
use Rattle.bd_message.specs.Effect.{begins}
use Rattle.bd_node.specs.declared.node.Entry.{Entry}
use Rattle.bd_leaf.proofs.receiving.end_of.Given as goal

-- the keys so far begin with the prefix
abbrev pub invariant-loop-place : goal.invariant-loop-place
invariant-loop-place l =
    (i : ℕ) (e : Entry) → l.fn.start ≤ i → i < l.place → slice_get l.entries i ≡ Some e → begins e.key l.prefix ≡ true
