use Rattle.std.proofs.Common.{◌≡◌, ℕ, ◌-◌, ◌≤◌, ◌<◌, List, length, take, drop}
use Rattle.std.specs.Prelude.{Some}
use Rattle.std.specs.FinMap.{get}
use Rattle.bd_model.specs.Tree.{Tree, FileWith}
use Rattle.bd_message.specs.Reads.{IsLeft}
use Rattle.bd_represent.specs.Represents.{Represents}
use Rattle.bd_files.proofs.reading.bytes_between.Given as goal

-- the bytes so far are read, and reads were all that was done
abbrev pub invariant-loop-place : goal.invariant-loop-place
invariant-loop-place g l = record {
  from : l.off ≤ l.place;
  within : l.off < l.end → l.place ≤ l.end;
  none : l.end ≤ l.off → l.place ≡ l.off;
  count : length l.read.items ≤ l.place - l.off;
  left : IsLeft g.M.KeyMap l.initial.m l.m;
  faults : g.M.KeyMap.fault_count l.m ≡ g.M.KeyMap.fault_count l.initial.m;
  bytes : g.M.KeyMap.is_known l.initial.m → (t : Tree) (mode : ℕ) (file : List ℕ) → Represents (g.M.KeyMap.has l.initial.m) t
      → get t l.path ≡ Some (FileWith mode file) → l.end ≤ length file → l.read.items ≡ take (l.place - l.off) (drop l.off file);
}

abbrev pub decreases-loop-place : goal.decreases-loop-place
decreases-loop-place g l = l.end - l.place
