-- A pager with a checkpoint of all its nodes.
use Rattle.std.proofs.Common.{◌≡◌, ℕ, ◌+◌, ◌<◌, ◌≤◌, true, List, length, get_or, nat_eq, Option, None, Some, refl, sym, ap, subst, ◌∙◌, arith}
use Rattle.std.specs.Prelude.{◌==◌, All, AllPairs, IsTrue}
use Rattle.std.specs.List.{list_any}
use Rattle.std.proofs.lemmas.Bool.{eq-eqb}
use Rattle.std.proofs.lemmas.List.{get_or_default, get_or-map, length-map}
use Rattle.std.proofs.lemmas.List.Folds.{list_any-from_Any}
use Rattle.bd_device.specs.Blocks.{Image}
use Rattle.bd_device.specs.declared.device.Device.{Ghosts}
use Rattle.bd_graft.specs.declared.grafting.Walk.{Walk}
use Rattle.bd_node.specs.Tables.{Table, IsKept}
use Rattle.bd_table.specs.declared.table.TableEntry.{TableEntry}
use Rattle.bd_pager.specs.declared.place.Spot.{Spot}
use Rattle.bd_pager.specs.Places.{refs_in}
use Rattle.bd_pager.specs.Pagers.{Paged, spots_of, table_of, is_saved, IsEntryOf, IsPaged}
use Rattle.bd_image.specs.Versions.{mode_version}
use Rattle.bd_view.specs.Views.{kept_ids, free_slots, save_slots}
use Rattle.bd_view.specs.Moves.{Saves}
use Rattle.bd_shown.specs.Shown.{ids_of, shown, IsCheckpointed}
use Rattle.bd_shown.proofs.Numbers.{saved_ids}

-- the law of a list of kept ids
abbrev pub AreListed : Type 0
AreListed = (t : Table) (ids : List ℕ) → AllPairs (λ id later. id < later) ids → All (λ id. (id < t.next) × IsKept t id) ids
    → ((id : ℕ) → id < t.next → IsKept t id → IsTrue (list_any (λ other. other == id) ids)) → ids ≡ kept_ids t

no_entry : TableEntry
no_entry = record { id = 0; refs = 0; slot = 0; level = 0 }

id_at : (entries : List TableEntry) (k d : ℕ) → k < length (ids_of entries) → get_or (ids_of entries) k d ≡ (get_or entries k no_entry).id
id_at entries k d low = get_or-map (λ (e : TableEntry). e.id) entries k no_entry d (omega (arith, low, length-map entries (λ (e : TableEntry). e.id)))

-- an entry's node is there
entry_kept : (e : TableEntry) (o : Option Spot) → IsEntryOf e o → 1 ≤ e.refs → 1 ≤ refs_in o
entry_kept e None own named = absurd own
entry_kept e (Some s) own named = omega (arith, own.0, named)

-- an entry among them is saved
has_entry : (entries : List TableEntry) (k : ℕ) → k < length entries → is_saved entries (get_or entries k no_entry).id ≡ true
has_entry entries k low =
    let e : TableEntry = get_or entries k no_entry in
    list_any-from_Any (λ (o : TableEntry). nat_eq o.id e.id) entries (k, e, low, get_or_default entries k e no_entry low, eq-eqb e.id e.id refl)

module _ {D : Type 0} (g : Ghosts D) (contents : Option Image) (old new : Paged D) (h : IsPaged contents new) (s : IsCheckpointed g old new) where
  rising : AllPairs (λ (id : ℕ) (later : ℕ). id < later) (ids_of new.saved.entries)
  rising i j d lt low =
      let long : length (ids_of new.saved.entries) ≡ length new.saved.entries = length-map new.saved.entries (λ (e : TableEntry). e.id) in
      let less : (get_or new.saved.entries i no_entry).id < (get_or new.saved.entries j no_entry).id = s.place.entries.rising i j no_entry lt (omega (arith, low, long)) in
      omega (arith, less, id_at new.saved.entries i d (omega (arith, lt, low)), id_at new.saved.entries j d low)

  each_kept : All (λ (id : ℕ). (id < new.next) × IsKept (table_of new) id) (ids_of new.saved.entries)
  each_kept k d low =
      let within : k < length new.saved.entries = omega (arith, low, length-map new.saved.entries (λ (e : TableEntry). e.id)) in
      let e : TableEntry = get_or new.saved.entries k no_entry in
      let is : get_or (ids_of new.saved.entries) k d ≡ e.id = id_at new.saved.entries k d low in
      let below : e.id < new.next = h.saved e.id (has_entry new.saved.entries k within) in (
        omega (arith, is, below),
        subst (λ (id : ℕ). IsKept (table_of new) id) (sym is) (entry_kept e (spots_of new e.id) (s.entries.each k no_entry within) (s.place.entries.each k no_entry within).refs),
      )

  listed : (id : ℕ) (o : Option Spot) → spots_of new id ≡ o → 1 ≤ refs_in o → is_saved new.saved.entries id ≡ true
  listed id None there kept = absurd (omega (arith, kept))
  listed id (Some spot) there kept =
      let found = s.entries.all id spot there in
      list_any-from_Any (λ (e : TableEntry). nat_eq e.id id) new.saved.entries (found.0, found.1, found.2, found.3, eq-eqb found.1.id id found.4)

  -- its entries are those of the kept nodes
  pub kept_saved : AreListed → ids_of new.saved.entries ≡ kept_ids (table_of old)
  kept_saved law =
      law (table_of new) (ids_of new.saved.entries) rising each_kept (λ id low kept. saved_ids new.saved.entries id ∙ listed id (spots_of new id) refl kept)
      ∙ ap (λ (t : Table). kept_ids t) s.table

  pub saved_shown : AreListed → (walk : Walk) (version epoch place waiting : ℕ) → save_slots (shown g old walk version epoch place waiting) ≤ free_slots (shown g old walk version epoch place waiting)
      → Saves (shown g old walk version epoch place waiting) (shown g new walk mode_version (epoch + 1) 0 0)
  saved_shown law walk version epoch place waiting room = record {
    room = room;
    after = λ i. record {
      tree = record { nodes = s.nodes i; table = s.table i; walk = walk };
      saved = kept_saved law i;
      slots = s.slots i;
      version = mode_version;
      epoch = epoch + 1;
      place = 0;
      waiting = 0;
    };
  }
