-- That the messages of a plan have room.
use Rattle.std.proofs.Common.{◌+◌, ◌≤◌, arith, List}
use Rattle.std.specs.Prelude.{slice_index_or}
use Rattle.std.proofs.lemmas.List.Sums.{sum_by-le}
use Rattle.bd_limits.specs.Limits.{key_limit, block_limit, late_limit}
use Rattle.bd_message.specs.declared.message.Message.{Message}
use Rattle.bd_message.specs.declared.message.Message.TheVariants.{Put, Del, Patch, Cut, Goto}
use Rattle.bd_message.specs.Messages.{IsMessage, size}
use Rattle.bd_represent.specs.Plans.{IsSmallBatch}
use Rattle.bd_node.specs.Tables.{Table}
use Rattle.bd_node.specs.Stores.{FitsRoot}

pub size_few : (m : Message) → IsMessage m → size m ≤ 16 + key_limit + block_limit
size_few (Put key value) h = omega (arith, h.0, h.2)
size_few (Del key) h = omega (arith, h)
size_few (Patch key off bytes) h = omega (arith, h.0, h.2)
size_few (Cut prefix from) h = omega (arith, h)
size_few (Goto prefix source child) h = omega (arith, h.0, h.1)

-- a plan's messages have room
pub small_fits : (list : List Message) (t : Table) → IsSmallBatch list → t.size ≤ late_limit → FitsRoot t list
small_fits list t small low = record {
  few = small.few;
  each = small.each;
  plain = small.plain;
  fits = omega (arith, sum_by-le size (16 + key_limit + block_limit) list (λ k d h. size_few (slice_index_or list k d) (small.each k d h)), small.few, low);
}
