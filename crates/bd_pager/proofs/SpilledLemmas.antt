-- A pager whose nodes were moved to their slots.
use Rattle.std.proofs.Common.{◌≡◌, ℕ, ◌≤◌, ◌<◌, Bool, true, false, ◌&&◌, is_some, List, nat_eq, Option, None, Some, refl, sym, ap, subst, ◌∙◌, arith}
use Rattle.std.specs.Prelude.{Any, IfSome, IsSome}
use Rattle.std.specs.Map.{lookup}
use Rattle.std.proofs.lemmas.Bool.{true≢false}
use Rattle.std.proofs.lemmas.Option.{same_Some, get_or_from_slice_get}
use Rattle.bd_slots.specs.Slots.{IsHeld}
use Rattle.bd_device.specs.Blocks.{Image}
use Rattle.bd_device.specs.declared.device.Device.{Ghosts}
use Rattle.bd_cache.specs.declared.cache.NodeCache.{NodeCache}
use Rattle.bd_node.specs.declared.node.Node.{Node}
use Rattle.bd_table.specs.declared.table.TableEntry.{TableEntry}
use Rattle.bd_tails.specs.Tails.{AreTails}
use Rattle.bd_tails.specs.declared.tails.Tails.{Tails}
use Rattle.bd_pager.specs.declared.place.Place.{Place}
use Rattle.bd_pager.specs.declared.place.Place.TheVariants.{Memory, Slot}
use Rattle.bd_pager.specs.declared.place.Spot.{Spot}
use Rattle.bd_pager.specs.Counting.{AreBelow, AreUnused, is_in_memory}
use Rattle.bd_pager.specs.Moving.{OnlyMoves, Spills}
use Rattle.bd_pager.specs.Places.{Spots, refs_in, level_in, slot_in, slot_at, copy_at, node_at, node_of, told, AreCached, ArePlaced, IsBadPlace, IsBadSpot, NoneTurnsBad}
use Rattle.bd_pager.specs.Slots.{IsOfLevel}
use Rattle.bd_pager.specs.Pagers.{Paged, spots_of, is_saved, touched_at, table_of, is_changed, is_changed_place, IsKnownOver, IsPlaceIn, IsStoredAs, IsOfSize, IsPaged}
use Rattle.bd_pager.proofs.AskedLemmas.{unchanged_held}
use Rattle.bd_pager.proofs.SlotLemmas.{not_bad, still_bad}

-- each node in memory is kept, and its id below the next one
pub paged_below : {D : Type 0} (contents : Option Image) (p : Paged D) → IsPaged contents p → AreBelow p.next (spots_of p)
paged_below contents p h id on = kept_below (spots_of p id) refl on
  where
    kept_below : (o : Option Spot) → spots_of p id ≡ o → is_in_memory o ≡ true → id < p.next
    kept_below None there on = absurd (true≢false (sym on))
    kept_below (Some s) there on = h.table.below id (omega (arith, h.used id s there, ap refs_in there))

-- the place before, of a node that is in a slot that the checkpoint holds
held_before : (spare : List Bool) (p : Place) → IsPlaceIn spare p → is_changed_place spare p ≡ false → (slot : ℕ) × IsHeld spare slot × (slot_at p ≡ Some slot)
held_before spare (Memory node slot) within is = absurd (true≢false is)
held_before spare (Slot slot copy) within is = (slot, unchanged_held spare slot within is, refl)

stored_again : (spare : List Bool) (entries : List TableEntry) (id slot level : ℕ) (p : Place) → IsStoredAs spare entries id level p → slot_at p ≡ Some slot → is_changed_place spare p ≡ false → IsHeld spare slot
    → Any (λ e. (e.id ≡ id) × (e.slot ≡ slot) × (e.level ≡ level)) entries
stored_again spare entries id slot level (Memory node own) stored at is held = absurd (true≢false is)
stored_again spare entries id slot level (Slot there copy) stored at is held =
    let same : there ≡ slot = same_Some there slot at in
    subst (λ (k : ℕ). Any (λ e. (e.id ≡ id) × (e.slot ≡ k) × (e.level ≡ level)) entries) same (stored (subst (λ (k : ℕ). IsHeld spare k) (sym same) held))

module _ {D : Type 0} (g : Ghosts D) (p : Paged D) (e : D) (entries : List (ℕ × Spot)) (cache : NodeCache) (free : List Bool) (tails : Tails) where
  abbrev spots : Spots
  spots id = lookup (nat_eq id) entries

  module _ (was : IsPaged (g.contents p.dev) p) (moves : OnlyMoves g p.spare p.root p.dev e (spots_of p) (λ id. lookup (nat_eq id) entries)) (placed : ArePlaced (λ id. lookup (nat_eq id) entries)) (cached : AreCached (g.contents e) p.is_lent (λ id. lookup (nat_eq id) entries) cache)
      (known : p.is_lent ≡ false → AreTails (g.contents e) tails)
      (unused : AreUnused p.spare free (λ id. lookup (nat_eq id) entries)) where
    -- the spot that there was
    before : (id : ℕ) (s : Spot) → spots id ≡ Some s → (o : Option Spot) → spots_of p id ≡ o → (b : Spot) × (spots_of p id ≡ Some b)
    before id s there None was_there = absurd (let e : true ≡ false = sym (ap is_some there) ∙ moves.kept id ∙ ap is_some was_there in cc)
    before id s there (Some b) was_there = (b, was_there)

    stored_now : (id : ℕ) (s : Spot) (b : Spot) → spots id ≡ Some s → spots_of p id ≡ Some b → (q : Place) → s.place ≡ q → IsStoredAs p.spare p.saved.entries id s.level q
    stored_now id s b there was_there (Memory node slot) is = tt
    stored_now id s b there was_there (Slot slot copy) is = λ held.
        let still : is_changed_place p.spare s.place ≡ false = ap (is_changed_place p.spare) is ∙ get_or_from_slice_get p.spare slot false true held in
        let unchanged : is_changed_place p.spare b.place ≡ false = sym (ap (λ (o : Option Spot). is_changed p.spare o) was_there) ∙ sym (moves.changed id) ∙ ap (λ (o : Option Spot). is_changed p.spare o) there ∙ still in
        let own = held_before p.spare b.place (was.slots id b was_there) unchanged in
        let after : slot_in (spots id) ≡ Some own.0 = moves.slots id own.0 (ap slot_in was_there ∙ own.2) in
        let same : own.0 ≡ slot = same_Some own.0 slot (sym after ∙ ap slot_in there ∙ ap slot_at is) in
        let level : b.level ≡ s.level = sym (ap level_in was_there) ∙ sym (moves.level id) ∙ ap level_in there in
        subst (λ (l : ℕ). Any (λ (x : TableEntry). (x.id ≡ id) × (x.slot ≡ slot) × (x.level ≡ l)) p.saved.entries) level
        (stored_again p.spare p.saved.entries id slot b.level b.place (was.stored id b was_there) (own.2 ∙ ap Some same) unchanged held)

    pub spilled_paged : IsPaged (g.contents e) (record p { dev = e; spots = entries; cache = cache; tails = tails; written = None })
    spilled_paged = record {
      table = record {
        root = subst (λ (n : ℕ). 1 ≤ n) (sym (moves.refs p.root)) was.table.root;
        inner = subst (λ (n : ℕ). 1 ≤ n) (sym (moves.level p.root)) was.table.inner;
        low = λ id kept. was.table.low id (subst (λ (n : ℕ). 1 ≤ n) (moves.refs id) kept);
        below = λ id kept. was.table.below id (subst (λ (n : ℕ). 1 ≤ n) (moves.refs id) kept);
      };
      used = λ id s there.
          let b = before id s there (spots_of p id) refl in
          omega (arith, was.used id b.0 b.1, moves.refs id, ap refs_in there, ap refs_in b.1);
      placed = placed;
      root = subst (λ (o : Option Node). IsOfSize p.size o) (sym moves.root_copy) was.root;
      cached = cached;
      levels = λ id s there.
          let b = before id s there (spots_of p id) refl in
          omega (arith, was.levels id b.0 b.1, moves.level id, ap level_in there, ap level_in b.1);
      held = was.held;
      spare = was.spare;
      slots = unused.slots;
      stored = λ id s there. let b = before id s there (spots_of p id) refl in stored_now id s b.0 there b.1 s.place refl;
      saved = was.saved;
      entries = was.entries;
      tails = known;
      ready = tt;
    }

-- what is seen of it is the same
pub spilled_table : {D : Type 0} (g : Ghosts D) (p q : Paged D) → Spills g p q → table_of q ≡ table_of p
spilled_table {D} g p q h =
    let r : Paged D = record p { dev = q.dev; spots = q.spots; cache = q.cache; tails = q.tails; written = q.written } in
    let same : table_of r ≡ table_of p = λ j. record {
      count = λ id. h.moves.refs id j;
      level = λ id. h.moves.level id j;
      root = p.root;
      size = p.size;
      next = p.next;
      touched = λ id. (let on : touched_at p.saved.entries p.spare (spots_of q) id ≡ touched_at p.saved.entries p.spare (spots_of p) id = ap (λ (b : Bool). is_saved p.saved.entries id && b) (h.moves.changed id) in on) j;
    } in
    ap (λ (x : Paged D). table_of x) h.rest ∙ same

-- ---- bad blocks

-- a slot without a copy that a place became, whose node is what it was
slot_bad : (old new : Option Image) (level after slot : ℕ) (p : Place) (b : ℕ) → IsSome old → IsSome new → after ≡ level → ((own : ℕ) → slot_at p ≡ Some own → Some slot ≡ Some own) → node_at (told new) (Slot slot None) ≡ node_at (told old) p
    → IfSome (copy_at p) (IsOfLevel level) → IsBadPlace new after (Slot slot None) b → IsBadPlace old level p b
slot_bad old new level after slot (Memory node own) b was now levels slots same placed bad = not_bad new slot after b node.value now same (subst (λ (k : ℕ). IsOfLevel k node.value) (sym levels) placed) bad
slot_bad old new level after slot (Slot there (Some node)) b was now levels slots same placed bad = not_bad new slot after b node.value now same (subst (λ (k : ℕ). IsOfLevel k node.value) (sym levels) placed) bad
slot_bad old new level after slot (Slot there None) b was now levels slots same placed bad = still_bad old new there level slot after b was now levels (same_Some slot there (slots there refl)) same bad

place_bad : (old new : Option Image) (level after : ℕ) (p q : Place) (b : ℕ) → IsSome old → IsSome new → after ≡ level → ((own : ℕ) → slot_at p ≡ Some own → slot_at q ≡ Some own) → node_at (told new) q ≡ node_at (told old) p
    → IfSome (copy_at p) (IsOfLevel level) → IsBadPlace new after q b → IsBadPlace old level p b
place_bad old new level after p (Memory node own) b was now levels slots same placed bad = absurd bad
place_bad old new level after p (Slot slot (Some node)) b was now levels slots same placed bad = absurd bad
place_bad old new level after p (Slot slot None) b was now levels slots same placed bad = slot_bad old new level after slot p b was now levels slots same placed bad

spot_bad : (old new : Option Image) (o m : Option Spot) (b : ℕ) → IsSome old → IsSome new → is_some m ≡ is_some o → level_in m ≡ level_in o → ((own : ℕ) → slot_in o ≡ Some own → slot_in m ≡ Some own) → node_of (told new) m ≡ node_of (told old) o
    → ((s : Spot) → o ≡ Some s → IfSome (copy_at s.place) (IsOfLevel s.level)) → IsBadSpot new m b → IsBadSpot old o b
spot_bad old new o None b was now kept level slots same placed bad = absurd bad
spot_bad old new None (Some s) b was now kept level slots same placed bad = absurd (true≢false kept)
spot_bad old new (Some r) (Some s) b was now kept level slots same placed bad = place_bad old new r.level s.level r.place s.place b was now level slots same (placed r refl) bad

-- no block becomes bad
pub spilled_bad : {D : Type 0} (g : Ghosts D) (spare : List Bool) (root : ℕ) (d e : D) (before after : Spots) → OnlyMoves g spare root d e before after → ArePlaced before → IsKnownOver (g.contents d) before → NoneTurnsBad (g.contents d) before (g.contents e) after
spilled_bad g spare root d e before after moves placed known id b bad =
    spot_bad (g.contents d) (g.contents e) (before id) (after id) b known.contents_told (moves.known known).contents_told (moves.kept id) (moves.level id) (moves.slots id) (moves.nodes known id) (placed id) bad
