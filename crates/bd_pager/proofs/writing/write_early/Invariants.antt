use Rattle.std.proofs.Common.{◌≡◌, ℕ, ◌≤◌, min}
use Rattle.bd_cache.specs.Cache.{room_of}
use Rattle.bd_pager.specs.Counting.{AreBelow, IsTallied}
use Rattle.bd_pager.specs.Moving.{AreEarlier, IsOfMoved, OnlyMoves, WritesOnly}
use Rattle.bd_pager.specs.Places.{spots_in}
use Rattle.bd_pager.specs.Readers.{IsReading}
use Rattle.bd_pager.proofs.writing.write_early.Given as goal

-- what is written so far
abbrev pub invariant-loop-usage : goal.invariant-loop-usage
invariant-loop-usage g l = record {
  moves : OnlyMoves g.D.Device l.fn.usage.spare l.root l.fn.reader.dev l.reader.dev (spots_in l.fn.reader.spots) (spots_in l.reader.spots);
  due : WritesOnly g.D.Device (IsOfMoved (spots_in l.fn.reader.spots) (spots_in l.reader.spots)) l.fn.reader.dev l.reader.dev;
  reading : IsReading (g.D.Device.contents l.reader.dev) l.reader;
  lent : l.reader.is_lent ≡ l.fn.reader.is_lent;
  cache_room : room_of l.reader.cache ≡ room_of l.fn.reader.cache;
  spare : l.usage.spare ≡ l.fn.usage.spare;
  enough : min l.early l.fn.usage.in_memory ≤ l.usage.in_memory;
  earlier : AreEarlier l.root (spots_in l.fn.reader.spots) (spots_in l.reader.spots);
  tallied : (next : ℕ) → AreBelow next (spots_in l.fn.reader.spots) → IsTallied next (spots_in l.fn.reader.spots) l.fn.usage → IsTallied next (spots_in l.reader.spots) l.usage;
  faults : g.D.Device.fault_count l.reader.dev ≡ g.D.Device.fault_count l.fn.reader.dev;
  write_faults : g.D.Device.write_fault_count l.reader.dev ≡ g.D.Device.write_fault_count l.fn.reader.dev;
}

abbrev pub decreases-loop-usage : goal.decreases-loop-usage
decreases-loop-usage g l = l.usage.in_memory
