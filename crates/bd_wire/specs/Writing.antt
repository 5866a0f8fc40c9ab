-- What a writer has written, and where.
use Rattle.std.specs.Prelude.{◌≡◌, ℕ, List, ◌++◌, length, take, drop}
use Rattle.std.specs.Borrow.{GName}
use Rattle.bd_wire.specs.declared.writer.Out.{Out}

-- the bytes written so far
abbrev pub written : Out → List ℕ
written out = take out.at out.bytes.now

-- the bytes that still stand where the next ones go
abbrev pub room : Out → List ℕ
room out = drop out.at out.bytes.now

-- which array is written
abbrev pub array_of : Out → GName
array_of out = out.bytes.ghost_name

-- these bytes were put after those that were written, over the first ones of the room
pub record Puts (old new : Out) (bytes : List ℕ) : Type 0 where
  pub written : written new ≡ written old ++ bytes
  pub room : room new ≡ drop (length bytes) (room old)
  pub array : array_of new ≡ array_of old
