-- The nodes of a checkpoint that was made are those that the image stores by it.
use Rattle.std.proofs.Common.{◌≡◌, ℕ, ◌⊎◌, inl, inr, false, List, Option, None, Some, IfSome, refl, sym, ap, subst, ◌∙◌}
use Rattle.std.specs.Prelude.{◌≢◌, All, Contains}
use Rattle.std.proofs.lemmas.List.Elements.{recursion_from_All}
use Rattle.bd_device.specs.Blocks.{Image}
use Rattle.bd_device.specs.declared.device.Device.{Ghosts}
use Rattle.bd_format.specs.Decoding.{node_in}
use Rattle.bd_format.specs.Images.{IsImage}
use Rattle.bd_node.specs.declared.node.Node.{Node}
use Rattle.bd_node.specs.Closed.{buffer_size_in}
use Rattle.bd_node.specs.Meaning.{Nodes}
use Rattle.bd_node.specs.Steps.{with_touched}
use Rattle.bd_node.specs.Tables.{Table, IsSound}
use Rattle.bd_table.specs.Tables.{AreTableEntries}
use Rattle.bd_table.specs.declared.table.Table.{Table as StoredTable}
use Rattle.bd_table.specs.declared.table.TableEntry.{TableEntry}
use Rattle.bd_pager.specs.declared.place.Place.{Place}
use Rattle.bd_pager.specs.declared.place.Place.TheVariants.{Memory, Slot}
use Rattle.bd_pager.specs.declared.place.Spot.{Spot}
use Rattle.bd_pager.specs.Pagers.{Paged, spots_of, nodes_of, table_of, table_at, is_known, AreEntriesOf, IsEntryOf, IsInSlot, IsKnownOver, IsOfSize, IsPaged, IsRightPlace}
use Rattle.bd_pager.specs.Places.{Spots, copy_in, node_at, node_of, nodes_at}
use Rattle.bd_tails.specs.Tails.{slot_bytes}
use Rattle.bd_format.specs.Slots.{HasNode}
use Rattle.bd_pager.proofs.OpenedLemmas.{search_id}
use Rattle.bd_table.specs.Entries.{entry_of}
use Rattle.bd_image.specs.Stored.{IsNodeAt, HoldsNodes, table_of as stored_table}
use Rattle.bd_checkpoint.specs.Saving.{IsSaved}
use Rattle.bd_table.proofs.EntryLemmas.{entry_found, no_entry}
use Rattle.bd_checkpoint.proofs.Opened.{AreDecoded}
use Rattle.bd_checkpoint.proofs.Slotted.{IsSpotOf, HasSpot, table_is}
use Rattle.bd_engine.specs.Engines.{HasSoundStored}

-- an id has an entry and a spot in its slot, or neither
abbrev IsSavedAt : Image → List TableEntry → Option Spot → ℕ → Type 0
IsSavedAt image entries spot id =
    ((entry_of entries id ≡ None) × (spot ≡ None))
    ⊎ ((e : TableEntry) × Contains entries e × (s : Spot) × (entry_of entries id ≡ Some e) × (spot ≡ Some s) × IsEntryOf e (Some s) × IsRightPlace image s.place)

none_there : (image : Image) (n : Option Node) → IsNodeAt image None n → None ≡ n
none_there image None h = refl
none_there image (Some n) h = absurd h

-- the root is in memory
copy_size : (image : Image) (size : ℕ) (o : Option Spot) → IsOfSize size (copy_in o) → buffer_size_in (node_of image o) ≡ size
copy_size image size None h = absurd h
copy_size image size (Some s) h = at_place s.place h
  where
    at_place : (p : Place) → IsOfSize size (copy_in (Some (record s { place = p }))) → buffer_size_in (node_at image p) ≡ size
    at_place (Memory node own) h = h
    at_place (Slot slot None) h = absurd h
    at_place (Slot slot (Some node)) h = h

module _ (decoded : AreDecoded) (image : Image) where
  -- what a slot has is what is there
  node_there : (slot level : ℕ) (p : Place) (n : Node) → IsInSlot slot p → IsRightPlace image p → HasNode image slot level n → node_at image p ≡ Some n
  node_there slot level (Memory node own) n inside right h = absurd inside
  node_there slot level (Slot there None) n inside right h =
      ap (λ (k : ℕ). node_in (slot_bytes image k)) inside ∙ decoded.found n (slot_bytes image slot) h.shape h.image_is
  node_there slot level (Slot there (Some copy)) n inside right h =
      sym right ∙ ap (λ (k : ℕ). node_in (slot_bytes image k)) inside ∙ decoded.found n (slot_bytes image slot) h.shape h.image_is

  -- and what is there is what its slot has
  image_there : (slot : ℕ) (p : Place) (n : Node) → IsInSlot slot p → IsRightPlace image p → node_at image p ≡ Some n → IsImage n (slot_bytes image slot)
  image_there slot (Memory node own) n inside right h = absurd inside
  image_there slot (Slot there None) n inside right h = decoded.image n (slot_bytes image slot) (ap (λ (k : ℕ). node_in (slot_bytes image k)) (sym inside) ∙ h)
  image_there slot (Slot there (Some copy)) n inside right h = decoded.image n (slot_bytes image slot) (ap (λ (k : ℕ). node_in (slot_bytes image k)) (sym inside) ∙ right ∙ h)

  module _ (t : StoredTable) (spots : Spots) (are : AreEntriesOf t.entries spots) (entries : AreTableEntries t.next_id t.root t.entries) (known : IsKnownOver (Some image) spots) where
    saved_at : (id : ℕ) → IsSavedAt image t.entries (spots id) id
    saved_at id = by (spots id) refl (search_id t.entries id)
      where
        by : (o : Option Spot) → spots id ≡ o → All (λ (e : TableEntry). e.id ≢ id) t.entries ⊎ ((e : TableEntry) × Contains t.entries e × (e.id ≡ id)) → IsSavedAt image t.entries (spots id) id
        by None gone (inl none) = inl (no_entry t.entries id (recursion_from_All (λ (e : TableEntry). e.id ≢ id) t.entries none), gone)
        by (Some s) there (inl none) =
            let found = are.all id s there in
            absurd (subst (λ (e : TableEntry). e.id ≢ id) found.3 (none found.0 found.1 found.2) found.4)
        by o there (inr (e, among, same)) =
            let own : IsEntryOf e (spots e.id) = subst (λ (x : TableEntry). IsEntryOf x (spots x.id)) among.2 (are.each among.0 e among.1) in
            of o there (subst (IsEntryOf e) (ap spots same ∙ there) own)
          where
            of : (o : Option Spot) → spots id ≡ o → IsEntryOf e o → IsSavedAt image t.entries (spots id) id
            of None there own = absurd own
            of (Some s) there own = inr (e, among, s, ap (entry_of t.entries) (sym same) ∙ entry_found t.entries e entries.rising among, there, own, known.right id s there)

    has_spot : (id : ℕ) → HasSpot image t.entries spots id
    has_spot id = elim (saved_at id) [
      | inl none ↦ inl none
      | inr (e, among, s, found, there, own, right) ↦
          let of : IsSpotOf image e s = record { refs = sym own.0; level = sym own.1; node = λ n is. image_there e.slot s.place n own.2 right is } in
          inr (e, among, s, found, there, of)
    ]

    nodes_are : (m : Nodes) → HoldsNodes image t m → nodes_at (Some image) spots ≡ m
    nodes_are m stored = λ i id. one id (saved_at id) i
      where
        held : (e : TableEntry) (s : Spot) (n : Option Node) → IsEntryOf e (Some s) → IsRightPlace image s.place → IsNodeAt image (Some e) n → node_at image s.place ≡ n
        held e s None own right is = absurd is
        held e s (Some n) own right is = node_there e.slot e.level s.place n own.2 right is

        one : (id : ℕ) → IsSavedAt image t.entries (spots id) id → node_of image (spots id) ≡ m id
        one id (inl (none, gone)) =
            ap (node_of image) gone ∙ none_there image (m id) (subst (λ (o : Option TableEntry). IsNodeAt image o (m id)) none (stored.each id))
        one id (inr (e, among, s, found, there, own, right)) =
            ap (node_of image) there ∙ held e s (m id) own right (subst (λ (o : Option TableEntry). IsNodeAt image o (m id)) found (stored.each id))

-- where the nodes of a checkpoint that was made are sound, so are the pager's
saved_sound : {D : Type 0} (g : Ghosts D) → AreDecoded → (old new : Paged D) → IsSaved g old new → IsPaged (g.contents new.dev) new → is_known g new → (image : Image) → g.contents new.dev ≡ Some image → HasSoundStored image new.saved → IsSound (nodes_of g new) (table_of new)
saved_sound {D} g decoded old new saved paged known image told stored =
    let over : IsKnownOver (Some image) (spots_of new) = subst (λ (o : Option Image). IsKnownOver o (spots_of new)) told known in
    let same : nodes_at (Some image) (spots_of new) ≡ stored.nodes = nodes_are decoded image new.saved (spots_of new) saved.entries saved.place.entries over stored.nodes stored.held in
    let size : new.size ≡ buffer_size_in (stored.nodes new.saved.root) =
    sym (copy_size image new.size (spots_of new new.root) paged.root) ∙ ap (λ (m : Nodes). buffer_size_in (m new.root)) same ∙ ap (λ (r : ℕ). buffer_size_in (stored.nodes r)) (sym saved.root) in
    let untouched : table_of new ≡ table_at (spots_of new) new.root new.size new.next (λ id. false) = saved.table ∙ ap (with_touched (λ id. false)) (sym saved.table) in
    let table : table_of new ≡ stored_table new.saved stored.nodes =
    untouched ∙ table_is image new.saved (spots_of new) saved.place.entries.each (has_spot decoded image new.saved (spots_of new) saved.entries saved.place.entries over) stored.nodes new.root new.size new.next (sym saved.root) (sym saved.next) size in
    subst (λ (u : Table). IsSound (nodes_of g new) u) (sym table)
    (subst (λ (m : Nodes). IsSound m (stored_table new.saved stored.nodes)) (sym (ap (λ (o : Option Image). nodes_at o (spots_of new)) told ∙ same)) stored.sound)

pub saved_sounds : {D : Type 0} (g : Ghosts D) → AreDecoded → (old new : Paged D) → IsSaved g old new → IsPaged (g.contents new.dev) new → is_known g new → IfSome (g.contents new.dev) (λ image. HasSoundStored image new.saved → IsSound (nodes_of g new) (table_of new))
saved_sounds {D} g decoded old new saved paged known = by (g.contents new.dev) (saved_sound g decoded old new saved paged known)
  where
    by : (o : Option Image) → ((image : Image) → o ≡ Some image → HasSoundStored image new.saved → IsSound (nodes_of g new) (table_of new)) → IfSome o (λ image. HasSoundStored image new.saved → IsSound (nodes_of g new) (table_of new))
    by None f = tt
    by (Some image) f = f image refl
