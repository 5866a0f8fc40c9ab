use Rattle.std.proofs.Common.{◌≡◌, take, map}
use Rattle.bd_message.specs.Freeing.{freed}
use Rattle.bd_inner.proofs.clipping.free_all.Given as goal

abbrev pub invariant-loop-message : goal.invariant-loop-message
invariant-loop-message l = l.parts.items ≡ map (freed l.s) (take l.message-index l.buffer)
