-- Nodes that a pager has written are those that the image stores by their table.
use Rattle.std.proofs.Common.{◌≡◌, ◌≢◌, ℕ, inl, inr, Bool, List, length, Option, None, Some, IfSome, refl, sym, ap, subst, ◌∙◌}
use Rattle.std.specs.Prelude.{All}
use Rattle.std.proofs.lemmas.Bool.{true≢false}
use Rattle.std.proofs.lemmas.List.Elements.{recursion_from_All}
use Rattle.bd_model.specs.Tree.{Tree}
use Rattle.bd_device.specs.Blocks.{Image}
use Rattle.bd_device.specs.declared.device.Device.{Ghosts}
use Rattle.bd_format.specs.Images.{IsImage}
use Rattle.bd_format.specs.Decoding.{node_in}
use Rattle.bd_node.specs.declared.node.Node.{Node}
use Rattle.bd_table.specs.Image.{HoldsTable}
use Rattle.bd_table.specs.declared.table.TableEntry.{TableEntry}
use Rattle.bd_super.specs.declared.superblock.Super.{Super}
use Rattle.bd_pager.specs.declared.place.Place.{Place}
use Rattle.bd_pager.specs.declared.place.Place.TheVariants.{Memory, Slot}
use Rattle.bd_pager.specs.declared.place.Spot.{Spot}
use Rattle.bd_pager.specs.declared.written.Written.{Written}
use Rattle.bd_tails.specs.Tails.{slot_bytes}
use Rattle.bd_pager.specs.Places.{Spots, node_at, nodes_at}
use Rattle.bd_pager.specs.Pagers.{Paged, spots_of, nodes_of, table_at, touched_at, table_of, IsRightPlace, IsKnownOver, is_known, IsInSlot, IsEntryOf, IsReady}
use Rattle.bd_pager.specs.WritingOut.{IsWrittenOut}
use Rattle.bd_pager.proofs.OpenedLemmas.{search_id}
use Rattle.bd_table.specs.Entries.{entry_of}
use Rattle.bd_checkpoint.specs.Following.{HasTableOf, AreWritten}
use Rattle.bd_checkpoint.specs.Kept.{AreOfTree}
use Rattle.bd_table.proofs.EntryLemmas.{entry_found, no_entry}
use Rattle.bd_checkpoint.proofs.Slotted.{IsSpotOf, HasSpot, nodes_held, of_tree}

-- what bytes encode, they are the image of
abbrev pub AreEncoded : Type 0
AreEncoded = (n : Node) (bytes : List ℕ) → node_in bytes ≡ Some n → IsImage n bytes

-- a node that a slot has
in_slot : AreEncoded → (image : Image) (slot : ℕ) (p : Place) (n : Node) → IsInSlot slot p → IsRightPlace image p → node_at image p ≡ Some n → IsImage n (slot_bytes image slot)
in_slot encoded image slot (Memory node own) n inside right is = absurd inside
in_slot encoded image slot (Slot there None) n inside right is = subst (λ (k : ℕ). IsImage n (slot_bytes image k)) inside (encoded n (slot_bytes image there) is)
in_slot encoded image slot (Slot there (Some node)) n inside right is = subst (λ (k : ℕ). IsImage n (slot_bytes image k)) inside (encoded n (slot_bytes image there) (right ∙ is))

module _ (encoded : AreEncoded) (image : Image) (spare : List Bool) (spots : Spots) (root next : ℕ) (w : Written) (ready : IsReady spare spots root next w) (known : IsKnownOver (Some image) spots) where
  spot_of : (e : TableEntry) (o : Option Spot) → spots e.id ≡ o → IsEntryOf e o → (s : Spot) × (spots e.id ≡ Some s) × IsSpotOf image e s
  spot_of e None there of = absurd of
  spot_of e (Some s) there of =
      (s, there, record { refs = sym of.0; level = sym of.1; node = λ n is. in_slot encoded image e.slot s.place n of.2 (known.right e.id s there) is })

  not_kept : (id : ℕ) → All (λ (e : TableEntry). e.id ≢ id) w.table.entries → (o : Option Spot) → spots id ≡ o → o ≡ None
  not_kept id none None there = refl
  not_kept id none (Some s) there =
      let found = ready.entries.all id s there in
      absurd (none found.0 found.1 found.2 (ap (λ (e : TableEntry). e.id) found.3 ∙ found.4))

  pub has_spot : (id : ℕ) → HasSpot image w.table.entries spots id
  has_spot id = elim (search_id w.table.entries id) [
    | inl none ↦ inl (no_entry w.table.entries id (recursion_from_All (λ (e : TableEntry). e.id ≢ id) w.table.entries none), not_kept id none (spots id) refl)
    | inr found ↦
        let e : TableEntry = found.0 in
        let of : IsEntryOf e (spots e.id) = subst (λ (x : TableEntry). IsEntryOf x (spots x.id)) found.1.2 (ready.entries.each found.1.0 e found.1.1) in
        let s = spot_of e (spots e.id) refl of in
        inr (
          e,
          found.1,
          s.0,
          ap (entry_of w.table.entries) (sym found.2) ∙ entry_found w.table.entries e ready.table.entries.rising found.1,
          ap spots (sym found.2) ∙ s.1,
          s.2,
        )
  ]

-- as far as the contents are known
written_over : AreEncoded → (known : Option Image) (spare : List Bool) (spots : Spots) (root size next : ℕ) (touched : ℕ → Bool) (w : Written) (at : List ℕ) (s : Super) (tree : Tree)
    → IsReady spare spots root next w → IfSome known (λ image. HoldsTable image (length spare) at w.table) → s.slots ≡ length spare → s.table ≡ at
    → IsKnownOver known spots → AreOfTree (nodes_at known spots) (table_at spots root size next touched) tree → AreWritten known s w.table (nodes_at known spots) tree
written_over encoded None spare spots root size next touched w at s tree ready held slots table known of = absurd (true≢false (sym known.contents_told))
written_over encoded (Some image) spare spots root size next touched w at s tree ready held slots table known of =
    let has = has_spot encoded image spare spots root next w ready known in
    record {
      table = subst (λ (l : List ℕ). HoldsTable image s.slots l w.table) (sym table) (subst (λ (k : ℕ). HoldsTable image k at w.table) (sym slots) held);
      stored = nodes_held image w.table spots ready.table.entries.each has root size next touched of.sound;
      have = of_tree image w.table spots ready.table.entries.each has (nodes_at (Some image) spots) root size next touched tree (sym ready.root_is) (sym ready.next_is) of;
    }

pub are_written : {D : Type 0} (g : Ghosts D) → AreEncoded → (p : Paged D) (at : List ℕ) (s : Super) (tree : Tree) (w : IsWrittenOut (g.contents p.dev) at p) → s.slots ≡ length p.spare → s.table ≡ at
    → is_known g p → AreOfTree (nodes_of g p) (table_of p) tree → AreWritten (g.contents p.dev) s w.written.table (nodes_of g p) tree
are_written g encoded p at s tree w slots table known of =
    written_over encoded (g.contents p.dev) p.spare (spots_of p) p.root p.size p.next (touched_at p.saved.entries p.spare (spots_of p)) w.written at s tree w.ready w.held slots table known of

-- the table stands where a superblock with these slots says
pub table_written : {D : Type 0} (g : Ghosts D) (p : Paged D) (at : List ℕ) (s : Super) (w : IsWrittenOut (g.contents p.dev) at p) → s.slots ≡ length p.spare → s.table ≡ at
    → IfSome (g.contents p.dev) (HasTableOf s w.written.table)
table_written g p at s w slots table =
    subst (λ (l : List ℕ). IfSome (g.contents p.dev) (λ image. HoldsTable image s.slots l w.written.table)) (sym table)
    (subst (λ (k : ℕ). IfSome (g.contents p.dev) (λ image. HoldsTable image k at w.written.table)) (sym slots) w.held)
