use Rattle.std.proofs.Common.{◌≡◌, length}
use Rattle.std.specs.List.{AllByRecursion, flat_map}
use Rattle.bd_wire.specs.Reading.{Reads}
use Rattle.bd_message.specs.Codec.{message_bytes}
use Rattle.bd_message.specs.Messages.{IsMessage}
use Rattle.bd_format.proofs.read.read_messages.Given as goal

-- so many were read so far
abbrev pub invariant-loop-place : goal.invariant-loop-place
invariant-loop-place l = record {
  count : length l.messages.items ≡ l._place;
  fit : AllByRecursion IsMessage l.messages.items;
  read : Reads l.fn.cursor l.cursor (flat_map message_bytes l.messages.items);
}
