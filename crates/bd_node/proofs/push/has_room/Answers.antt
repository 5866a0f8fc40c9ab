use Rattle.std.proofs.Common.{◌≡◌, true, false, ℕ, zero, suc, ◌+◌, ◌<◌, ◌≤◌, List, [], ◌∷◌, length, take, get_or, ap, arith}
use Rattle.std.specs.List.{sum_by}
use Rattle.std.proofs.lemmas.List.Sums.{sum_by-cons}
use Rattle.bd_limits.specs.Limits.{buffer_limit}
use Rattle.bd_message.specs.declared.message.Message.{Message}
use Rattle.bd_message.specs.Messages.{size}
use Rattle.bd_node.proofs.push.has_room.Goals as goal

false_true : false ≡ true → ⊥
false_true h = cc

-- the messages before one and that one aren't more than all
front_less : (list : List Message) (i : ℕ) (m : Message) → i < length list → m ≡ get_or list i m → sum_by size (take i list) + size m ≤ sum_by size list
front_less [] i m low read = absurd (omega arith)
front_less (x ∷ xs) zero m low read = (let one : size m ≡ size x = ap size read in omega (arith, sum_by-cons size x xs))
front_less (x ∷ xs) (suc i) m low read =
    let less : sum_by size (take i xs) + size m ≤ sum_by size xs = front_less xs i m (omega arith) read in
    omega (arith, sum_by-cons size x xs, sum_by-cons size x (take i xs))

pub returns-then-room-size : goal.returns-then-room-size
returns-then-room-size c =
    let all = c.args.list.now in
    let m : Message = c.message-item.result in
    let less : sum_by size (take c.loop-message.message-index all) + size m ≤ sum_by size all = front_less all c.loop-message.message-index m c.loop-message-test.true c.message-item.is in
    let so_far : c.args.used + sum_by size (take c.loop-message.message-index all) + c.loop-message.room ≡ buffer_limit = c.loop-message.invariant in
    let one : c.size-size.result ≡ size m = c.size-size.ensures in
    let more : c.loop-message.room < c.size-size.result = c.if-room-size.true in (
      (λ is. absurd (false_true is)),
      (λ fits. absurd (omega arith)),
    )
