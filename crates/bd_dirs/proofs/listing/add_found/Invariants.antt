use Rattle.std.proofs.Common.{◌≡◌, ◌≤◌, ℕ, List, length, drop}
use Rattle.bd_limits.specs.Limits.{listing_limit}
use Rattle.bd_names.specs.Names.{AreNames, key_of}
use Rattle.bd_command.specs.declared.reply.Listed.{Listed}
use Rattle.bd_model.specs.Tree.{Tree, IsTree}
use Rattle.bd_message.specs.KeyMaps.{At}
use Rattle.bd_represent.specs.Represents.{Represents}
use Rattle.bd_scan.specs.Scans.{AreNext}
use Rattle.bd_dirs.specs.Listings.{IsListedTo}
use Rattle.bd_dirs.proofs.Searches.{IsSearched}
use Rattle.bd_dirs.proofs.listing.add_found.Given as goal

abbrev pub invariant-loop-each : goal.invariant-loop-each
invariant-loop-each l = record {
  few : length l.initial.names.items ≤ listing_limit → length l.names.items ≤ listing_limit;
  more : length l.initial.names.items ≤ length l.names.items;
  searched : (at : At) (t : Tree) (path : List (List ℕ)) (all : List Listed) → IsTree t → Represents at t → AreNames path → l.within ≡ key_of path
      → IsListedTo t path all l.initial.names.items l.initial.from.items → AreNext at l.initial.from.items l.within l.found
      → IsSearched at t path all l.initial.names.items (drop l.each-index l.found) l.each-index l.names.items l.from.items;
}
