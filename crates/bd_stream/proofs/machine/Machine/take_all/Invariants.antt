use Rattle.std.proofs.Common.{◌≡◌, ◌++◌, drop}
use Rattle.bd_stream.specs.Importing.{IsSound, state_of, fed}
use Rattle.bd_stream.proofs.machine.Machine.take_all.Given as goal

-- the bytes that are left do what all did at the beginning
abbrev pub invariant-loop-byte : goal.invariant-loop-byte
invariant-loop-byte l = record {
  sound : IsSound (state_of l.self);
  state : (fed (state_of l.self) (drop l.byte-index l.bytes)).0 ≡ (fed (state_of l.fn.self) l.bytes).0;
  made : l.made.items ++ (fed (state_of l.self) (drop l.byte-index l.bytes)).1 ≡ l.fn.made.items ++ (fed (state_of l.fn.self) l.bytes).1;
}
