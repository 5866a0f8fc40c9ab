use Rattle.std.proofs.Common.{◌≤◌, length, take, drop}
use Rattle.std.specs.List.{flat_map}
use Rattle.bd_wire.specs.Writing.{Puts, room}
use Rattle.bd_message.specs.Codec.{message_bytes}
use Rattle.bd_format.proofs.write.put_messages.Given as goal

-- those before this place were written, and there is room for the others
abbrev pub invariant-loop-message : goal.invariant-loop-message
invariant-loop-message l = record {
  puts : Puts l.fn.out l.out (flat_map message_bytes (take l.message-index l.messages));
  fit : length (flat_map message_bytes (drop l.message-index l.messages)) ≤ length (room l.out);
}
