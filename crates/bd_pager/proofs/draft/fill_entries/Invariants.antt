use Rattle.std.proofs.Common.{◌≡◌, All, length, take}
use Rattle.bd_table.specs.Tables.{FitsTableEntry}
use Rattle.bd_pager.specs.Drafts.{entries_of}
use Rattle.bd_pager.specs.Places.{spots_in}
use Rattle.bd_pager.proofs.draft.fill_entries.Given as goal

abbrev pub invariant-loop-index : goal.invariant-loop-index
invariant-loop-index l = record {
  size : length l.entries ≡ length l.ids;
  entries : take l.index l.entries ≡ entries_of (spots_in l.spots) (take l.index l.ids);
  fits : All FitsTableEntry (take l.index l.entries);
}
