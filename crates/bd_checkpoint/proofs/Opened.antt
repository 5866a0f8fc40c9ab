-- The nodes of an opened pager are those that the image stores.
use Rattle.std.proofs.Common.{◌≡◌, ◌≢◌, ℕ, ◌<◌, ◌⊎◌, inl, inr, Bool, true, false, List, ◌++◌, length, get_or, Option, None, Some, IfSome, refl, sym, ap, subst, ◌∙◌, arith}
use Rattle.std.specs.Prelude.{Contains, slice_index_or, ◌&&◌}
use Rattle.std.proofs.Math.Bool.{and-false}
use Rattle.std.proofs.lemmas.Bool.{cases_eq}
use Rattle.std.proofs.lemmas.List.{get_or-map, length-map}
use Rattle.std.proofs.lemmas.List.Elements.{recursion_from_All, Contains-append_right}
use Rattle.std.proofs.lemmas.Option.{same_Some, slice_get-get_or}
use Rattle.bd_slots.specs.Layout.{slot_block}
use Rattle.bd_device.specs.Blocks.{Image}
use Rattle.bd_device.specs.declared.device.Device.{Ghosts}
use Rattle.bd_format.specs.Images.{IsImage}
use Rattle.bd_format.specs.Decoding.{node_in}
use Rattle.bd_node.specs.declared.node.Node.{Node}
use Rattle.bd_node.specs.Meaning.{Nodes}
use Rattle.bd_node.specs.Shape.{IsShape}
use Rattle.bd_node.specs.Closed.{buffer_size_in}
use Rattle.bd_node.specs.Tables.{IsSound}
use Rattle.bd_table.specs.Image.{HoldsTable}
use Rattle.bd_table.specs.Tables.{slots_of}
use Rattle.bd_table.specs.declared.table.TableEntry.{TableEntry}
use Rattle.bd_super.specs.Live.{IsLive}
use Rattle.bd_super.specs.declared.superblock.Super.{Super}
use Rattle.bd_pager.specs.declared.place.Spot.{Spot}
use Rattle.bd_tails.specs.Tails.{slot_bytes}
use Rattle.bd_format.specs.Slots.{HasNode}
use Rattle.bd_pager.specs.Slots.{IsBadSlot}
use Rattle.bd_pager.specs.Places.{node_at, node_of, nodes_at, IsBadSpot}
use Rattle.bd_pager.specs.Pagers.{Paged, spots_of, table_at, table_of, IsKnownOver, is_known, is_saved, is_changed_place, is_changed, touched_at}
use Rattle.bd_pager.specs.Entries.{saved_spot}
use Rattle.bd_pager.specs.Opened.{root_spot, IsOpened}
use Rattle.bd_pager.proofs.OpenedLemmas.{search_id, slot_within}
use Rattle.bd_table.specs.Entries.{entry_of}
use Rattle.bd_image.specs.Stored.{IsNodeAt, HoldsNodes}
use Rattle.bd_image.specs.Damage.{IsBadAt}
use Rattle.bd_image.specs.Damage.IsFoundBad.{bad_node}
use Rattle.bd_image.specs.Damage.IsBadAt.{found_bad}
use Rattle.bd_checkpoint.specs.Recovering.{AreStored}
use Rattle.bd_table.proofs.EntryLemmas.{entry_found, no_entry}
use Rattle.bd_checkpoint.proofs.Slotted.{IsSpotOf, HasSpot, nodes_held, table_is}

-- images and nodes are of each other
pub record AreDecoded : Type 0 where
  pub found : (n : Node) (bytes : List ℕ) → IsShape n → IsImage n bytes → node_in bytes ≡ Some n
  pub image : (n : Node) (bytes : List ℕ) → node_in bytes ≡ Some n → IsImage n bytes
  pub one : (m n : Node) (bytes : List ℕ) → IsShape m → IsShape n → IsImage m bytes → IsImage n bytes → m ≡ n

-- the node of an entry's slot is the spot's, in a slot that isn't spare
record IsHere (image : Image) (spare : List Bool) (e : TableEntry) (s : Spot) : Type 0 where
  node : (n : Node) → HasNode image e.slot e.level n → node_at image s.place ≡ Some n
  still : is_changed_place spare s.place ≡ false

-- an id has an entry and a spot where its node is, or neither
abbrev IsOneOf : Image → List Bool → List TableEntry → Option Spot → ℕ → Type 0
IsOneOf image spare entries spot id =
    ((entry_of entries id ≡ None) × (spot ≡ None))
    ⊎ ((e : TableEntry) × Contains entries e × (s : Spot) × (entry_of entries id ≡ Some e) × (spot ≡ Some s) × IsSpotOf image e s × IsHere image spare e s)

none_there : (image : Image) (n : Option Node) → IsNodeAt image None n → None ≡ n
none_there image None h = refl
none_there image (Some n) h = absurd h

node_there : (image : Image) (spare : List Bool) (e : TableEntry) (s : Spot) (n : Option Node) → IsHere image spare e s → IsNodeAt image (Some e) n → node_at image s.place ≡ n
node_there image spare e s None h is = absurd is
node_there image spare e s (Some n) h is = h.node n is

module _ {D : Type 0} (g : Ghosts D) (decoded : AreDecoded) (image : Image) (slots : ℕ) (at : List ℕ) (p : Paged D) (h : IsOpened (Some image) slots at p) where
  -- ---- spots

  -- a slot of the checkpoint isn't spare
  still : (e : TableEntry) → Contains p.saved.entries e → slice_index_or p.spare e.slot true ≡ false
  still e among =
      let within : e.slot < length p.spare = slot_within (Some image) slots at p h e among in
      let own : Contains (slots_of p.saved.entries) e.slot = (
        among.0,
        omega (arith, among.1, length-map p.saved.entries (λ (x : TableEntry). x.slot)),
        get_or-map (λ (x : TableEntry). x.slot) p.saved.entries among.0 e e.slot among.1 ∙ ap (λ (x : TableEntry). x.slot) among.2,
      ) in
      let taken : Contains (at ++ slots_of p.saved.entries) e.slot = Contains-append_right at (slots_of p.saved.entries) e.slot own in
      not_free (get_or p.spare e.slot true) refl within taken
    where
      not_free : (b : Bool) → get_or p.spare e.slot true ≡ b → e.slot < length p.spare → Contains (at ++ slots_of p.saved.entries) e.slot → b ≡ false
      not_free false is within taken = refl
      not_free true is within taken =
          absurd ((h.spare.free e.slot (omega (arith, within, h.spare.count))).0 (slice_get-get_or p.spare e.slot true within ∙ ap Some is) taken.0 e.slot taken.1 taken.2)

  found_of : (e : TableEntry) → Contains p.saved.entries e → entry_of p.saved.entries e.id ≡ Some e
  found_of e among = entry_found p.saved.entries e h.table.entries.rising among

  root_found : (id : ℕ) → id ≡ p.saved.root → entry_of p.saved.entries id ≡ Some h.entry
  root_found id is_root = ap (entry_of p.saved.entries) (is_root ∙ sym h.is_root.0) ∙ found_of h.entry h.among

  other_there : (id : ℕ) → id ≢ p.saved.root → (e : TableEntry) → Contains p.saved.entries e → e.id ≡ id → spots_of p id ≡ Some (saved_spot e)
  other_there id other e among same =
      ap (spots_of p) (sym same)
      ∙ subst (λ (x : TableEntry). x.id ≢ p.saved.root → spots_of p x.id ≡ Some (saved_spot x)) among.2 (h.spots.there among.0 e among.1) (λ r. other (sym same ∙ r))

  is_one : (id : ℕ) → IsOneOf image p.spare p.saved.entries (spots_of p id) id
  is_one id = elim (search_id p.saved.entries id) [
    | inl none ↦ inl (no_entry p.saved.entries id (recursion_from_All (λ (e : TableEntry). e.id ≢ id) p.saved.entries none), h.spots.others id none)
    | inr found ↦ elim (cases_eq id p.saved.root) [
      | inl is_root ↦ inr (
        h.entry,
        h.among,
        root_spot h.entry h.node,
        root_found id is_root,
        ap (spots_of p) is_root ∙ h.spots.root_there,
        record { refs = refl; level = refl; node = λ n is. subst (λ (x : Node). IsImage x (slot_bytes image h.entry.slot)) (same_Some h.node.value n is) h.root_held.image_is },
        record {
          node = λ n held. ap Some (decoded.one h.node.value n (slot_bytes image h.entry.slot) h.root_held.shape held.shape h.root_held.image_is held.image_is);
          still = still h.entry h.among;
        },
      )
      | inr other ↦ inr (
        found.0,
        found.1,
        saved_spot found.0,
        ap (entry_of p.saved.entries) (sym found.2) ∙ found_of found.0 found.1,
        other_there id other found.0 found.1 found.2,
        record { refs = refl; level = refl; node = λ n is. decoded.image n (slot_bytes image found.0.slot) is },
        record { node = λ n held. decoded.found n (slot_bytes image found.0.slot) held.shape held.image_is; still = still found.0 found.1 },
      )
    ]
  ]

  has_spot : (id : ℕ) → HasSpot image p.saved.entries (spots_of p) id
  has_spot id = elim (is_one id) [ inl none ↦ inl none | inr (e, among, s, found, there, of, here) ↦ inr (e, among, s, found, there, of) ]

  -- ---- what they are

  nodes_are : (m : Nodes) → HoldsNodes image p.saved m → nodes_at (Some image) (spots_of p) ≡ m
  nodes_are m stored = λ i id. one id (is_one id) i
    where
      one : (id : ℕ) → IsOneOf image p.spare p.saved.entries (spots_of p id) id → node_of image (spots_of p id) ≡ m id
      one id (inl (none, gone)) =
          ap (node_of image) gone ∙ none_there image (m id) (subst (λ (o : Option TableEntry). IsNodeAt image o (m id)) none (stored.each id))
      one id (inr (e, among, s, found, there, of, here)) =
          ap (node_of image) there ∙ node_there image p.spare e s (m id) here (subst (λ (o : Option TableEntry). IsNodeAt image o (m id)) found (stored.each id))

  none_touched : ◌≡◌ {A = ℕ → Bool} (touched_at p.saved.entries p.spare (spots_of p)) (λ id. false)
  none_touched = λ i id. one id (is_one id) i
    where
      one : (id : ℕ) → IsOneOf image p.spare p.saved.entries (spots_of p id) id → touched_at p.saved.entries p.spare (spots_of p) id ≡ false
      one id (inl (none, gone)) = ap (λ (o : Option Spot). is_saved p.saved.entries id && is_changed p.spare o) gone ∙ and-false (is_saved p.saved.entries id)
      one id (inr (e, among, s, found, there, of, here)) =
          ap (λ (o : Option Spot). is_saved p.saved.entries id && is_changed p.spare o) there ∙ ap (λ (b : Bool). is_saved p.saved.entries id && b) here.still ∙ and-false (is_saved p.saved.entries id)

  size_is : (m : Nodes) → HoldsNodes image p.saved m → p.size ≡ buffer_size_in (m p.saved.root)
  size_is m stored =
      let there : Some h.node.value ≡ m p.saved.root = sym (ap (node_of image) h.spots.root_there) ∙ ap (λ (f : Nodes). f p.saved.root) (nodes_are m stored) in
      sym h.size ∙ ap buffer_size_in there

  -- a node that isn't in memory is in the slot of its entry
  opened_bad : (live : Super) → IsLive image live → HoldsTable image live.slots live.table p.saved → (id b : ℕ) → IsBadSpot (Some image) (spots_of p id) b → IsBadAt image b
  opened_bad live is_live held id b bad = elim (search_id p.saved.entries id) [
    | inl none ↦ absurd (subst (λ (o : Option Spot). IsBadSpot (Some image) o b) (h.spots.others id none) bad)
    | inr found ↦ elim (cases_eq id p.saved.root) [
      | inl is_root ↦ absurd (subst (λ (o : Option Spot). IsBadSpot (Some image) o b) (ap (spots_of p) is_root ∙ h.spots.root_there) bad)
      | inr other ↦
          let e : TableEntry = found.0 in
          let mine : IsBadSlot (Some image) e.slot e.level b = subst (λ (o : Option Spot). IsBadSpot (Some image) o b) (other_there id other e found.1 found.2) bad in
          subst (λ (k : ℕ). IsBadAt image k) (sym mine.0)
          (found_bad (slot_block e.slot) (bad_node live p.saved e (record { live = is_live; table = held; entry = found_of e found.1 }) (λ n good. mine.1 n good.held)))
    ]
  ]

  pub opened_stored : g.contents p.dev ≡ Some image → AreStored g p image
  opened_stored told = record {
    nodes = λ m stored. ap (λ (o : Option Image). nodes_at o (spots_of p)) told ∙ nodes_are m stored;
    table = λ m stored.
        ap (λ (f : ℕ → Bool). table_at (spots_of p) p.root p.size p.next f) none_touched
        ∙ table_is image p.saved (spots_of p) h.table.entries.each has_spot m p.root p.size p.next h.root h.next (size_is m stored);
    held = λ sound.
        subst (λ (o : Option Image). HoldsNodes image p.saved (nodes_at o (spots_of p))) (sym told)
        (nodes_held image p.saved (spots_of p) h.table.entries.each has_spot p.root p.size p.next (touched_at p.saved.entries p.spare (spots_of p))
        (subst (λ (o : Option Image). IsSound (nodes_at o (spots_of p)) (table_of p)) told sound));
    bad = opened_bad;
  }

-- as far as the contents are known
pub stored_known : {D : Type 0} (g : Ghosts D) (decoded : AreDecoded) (known : Option Image) (slots : ℕ) (at : List ℕ) (p : Paged D) → IsOpened known slots at p → g.contents p.dev ≡ known → IfSome known (AreStored g p)
stored_known g decoded None slots at p h told = tt
stored_known g decoded (Some image) slots at p h told = opened_stored g decoded image slots at p h told

-- ---- after reads of the device

pub opened_on : {D : Type 0} (known : Option Image) (slots : ℕ) (at : List ℕ) (p : Paged D) (d : D) → IsOpened known slots at p → IsOpened known slots at (record p { dev = d; is_lent = false })
opened_on known slots at p d h = record {
  table = h.table;
  entry = h.entry;
  among = h.among;
  is_root = h.is_root;
  node = h.node;
  of_level = h.of_level;
  spots = h.spots;
  at_is = h.at_is;
  spare = h.spare;
  root = h.root;
  next = h.next;
  size = h.size;
  cached = h.cached;
  visits = h.visits;
  lent = refl;
  tails = h.tails;
  written = h.written;
  table_held = h.table_held;
  root_held = h.root_held;
}

pub known_on : {D : Type 0} (g : Ghosts D) (p : Paged D) (d : D) → g.contents d ≡ g.contents p.dev → is_known g p → is_known g (record p { dev = d; is_lent = false })
known_on g p d same known = subst (λ (o : Option Image). IsKnownOver o (spots_of p)) (sym same) known
