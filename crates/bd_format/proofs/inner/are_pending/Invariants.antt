use Rattle.std.proofs.Common.{◌≡◌, ℕ, ◌<◌, Some}
use Rattle.std.specs.Prelude.{slice_get}
use Rattle.bd_message.specs.declared.message.Message.{Message}
use Rattle.bd_node.specs.Shape.{SomeEdge, IsPending}
use Rattle.bd_format.proofs.inner.are_pending.Given as goal

-- each message before this place is pending
abbrev pub invariant-loop-place : goal.invariant-loop-place
invariant-loop-place l = (i : ℕ) (m : Message) → i < l.place → slice_get l.buffer i ≡ Some m → SomeEdge (IsPending i m) l.edges
