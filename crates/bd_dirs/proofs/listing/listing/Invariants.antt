use Rattle.std.proofs.Common.{◌≡◌, ◌≤◌, length, ◌+◌, ◌*◌, ◌-◌}
use Rattle.std.specs.Option.{option_copied}
use Rattle.bd_limits.specs.Limits.{listing_limit}
use Rattle.bd_message.specs.Reads.{IsLeft}
use Rattle.bd_model.specs.Tree.{Tree, IsTree}
use Rattle.bd_model.specs.Step.{children, those_after}
use Rattle.bd_represent.specs.Represents.{Represents}
use Rattle.bd_dirs.specs.Listings.{IsListedTo}
use Rattle.bd_dirs.proofs.listing.listing.Given as goal

-- of a tree nothing was passed over
abbrev pub invariant-scans : goal.invariant-scans
invariant-scans g l = record {
  left : IsLeft g.M.KeyMap l.initial.m l.m;
  faults : g.M.KeyMap.fault_count l.m ≡ g.M.KeyMap.fault_count l.initial.m;
  few : length l.names.items ≤ listing_limit;
  some : 1 ≤ l.most;
  listed : g.M.KeyMap.is_known l.initial.m → (t : Tree) → IsTree t → Represents (g.M.KeyMap.has l.initial.m) t
      → (l.passed ≡ 0) × IsListedTo t l.path (those_after (option_copied l.after) (children l.path t)) l.names.items l.from.items;
}

abbrev pub decreases-scans : goal.decreases-scans
decreases-scans g l = (listing_limit - length l.names.items) * 65537 + (65536 - l.passed)
