-- What a checkpoint's table says of nodes.
use Rattle.std.specs.Prelude.{◌≡◌, ◌≢◌, ℕ, List, None, Some, All}
use Rattle.bd_table.specs.declared.table.TableEntry.{TableEntry}
use Rattle.bd_pager.specs.declared.place.Place.TheVariants.{Slot}
use Rattle.bd_pager.specs.declared.place.Spot.{Spot}
use Rattle.bd_pager.specs.Places.{Spots}

-- the node of an entry, in its slot
abbrev pub saved_spot : TableEntry → Spot
saved_spot e = record { refs = e.refs; level = e.level; place = Slot e.slot None }

-- the nodes of these entries are kept, each in its slot, and no others
pub record AreSavedSpots (entries : List TableEntry) (spots : Spots) : Type 0 where
  pub there : All (λ e. spots e.id ≡ Some (saved_spot e)) entries
  pub others : (id : ℕ) → All (λ e. e.id ≢ id) entries → spots id ≡ None
