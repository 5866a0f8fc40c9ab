use Rattle.std.proofs.Common.{◌≡◌, map, take}
use Rattle.bd_command.specs.declared.reply.Listed.{Listed}
use Rattle.bd_stream.proofs.listing.copied.Given as goal

-- the names so far
abbrev pub invariant-loop-listed : goal.invariant-loop-listed
invariant-loop-listed l = l.copies.items ≡ map (λ (x : Listed). x.name) (take l.listed-index l.names)
