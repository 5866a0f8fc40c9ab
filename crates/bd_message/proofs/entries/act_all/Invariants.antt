use Rattle.std.proofs.Common.{◌≡◌, drop, List, ℕ}
use Rattle.bd_message.specs.Effect.{acts, no_nodes}
use Rattle.bd_message.proofs.Finds.{found}
use Rattle.bd_message.proofs.entries.act_all.Given as goal

-- the messages that are left do what all did at the beginning
abbrev pub invariant-loop-message : goal.invariant-loop-message
invariant-loop-message l =
    (k : List ℕ) → acts no_nodes (drop l.message-index l.list) k (found k l.entries.items) ≡ acts no_nodes l.list k (found k l.fn.entries.items)
