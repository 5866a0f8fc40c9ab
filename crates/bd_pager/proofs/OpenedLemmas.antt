-- A pager over a checkpoint.
use Rattle.std.proofs.Common.{◌≡◌, ◌≢◌, ℕ, suc, ◌<◌, ◌≤◌, ◌⊎◌, Bool, false, true, eqb, IsTrue, List, [], ◌∷◌, ◌++◌, length, get_or, Option, None, Some, IfSome, All, refl, sym, ap, subst, ◌∙◌, arith, inl, inr, nat_eq}
use Rattle.std.specs.Prelude.{Any, Contains, IsSome}
use Rattle.std.specs.Global.{Global}
use Rattle.std.specs.HashMap.{HashMap, Updates}
use Rattle.std.specs.declared.rc.Rc.{Rc}
use Rattle.std.proofs.lemmas.Bool.{cases_eq, eqb-true, ne_eqb}
use Rattle.std.proofs.lemmas.List.Folds.{Any-from_list_any}
use Rattle.std.proofs.lemmas.List.Elements.{All-cons, Contains-append_right}
use Rattle.std.proofs.lemmas.Option.{none-some, same_Some}
use Rattle.bd_slots.specs.Layout.{AreSlots}
use Rattle.bd_slots.specs.Slots.{IsHeld, free_count}
use Rattle.bd_device.specs.Blocks.{Image}
use Rattle.bd_format.specs.Images.{IsImage}
use Rattle.bd_format.specs.Decoding.{node_in}
use Rattle.bd_node.specs.declared.node.Node.{Node}
use Rattle.bd_node.specs.Shape.{IsShape}
use Rattle.bd_table.specs.Tables.{AreFreeSlots, IsTableEntry, IsRoot, slots_of}
use Rattle.bd_table.specs.declared.table.Table.{Table as Checkpoint}
use Rattle.bd_table.specs.declared.table.TableEntry.{TableEntry}
use Rattle.bd_tails.specs.Tails.{AreTails, slot_bytes}
use Rattle.bd_pager.specs.declared.place.Spot.{Spot}
use Rattle.bd_pager.specs.declared.usage.Usage.{Usage}
use Rattle.bd_pager.specs.declared.written.Written.{Written}
use Rattle.bd_pager.specs.Counting.{AreUnused, is_in_memory, has_own, spot_count, IsTallied}
use Rattle.bd_format.specs.Slots.{HasNode}
use Rattle.bd_pager.specs.Slots.{IsOfLevel}
use Rattle.bd_pager.specs.Places.{spots_in, refs_in, level_in, slot_in, copy_at, copy_in, told}
use Rattle.bd_pager.specs.Entries.{saved_spot, AreSavedSpots}
use Rattle.bd_pager.specs.Opened.{root_spot, AreOpened, IsOpened, IsUnchanged}
use Rattle.bd_pager.specs.Pagers.{Paged, spots_of, is_saved, is_changed, IsRightPlace, IsOfSize, IsInSlot, IsReady, IsPaged}
use Rattle.bd_pager.proofs.CountingLemmas.{count_none, in_place, stored_place, held_unchanged, in_slot_stored, held_not_own, in_slot_at, free_not_held}
use Rattle.bd_pager.proofs.FlagLemmas.{taken_held, entry_slot, one_entry}

-- ---- entries

pub of_all : {X : Type 0} (P : X → Type 0) (xs : List X) (x : X) → All P xs → Contains xs x → P x
of_all P xs x all among = subst P among.2 (all among.0 x among.1)

-- an id is that of some entry or of none
pub search_id : (entries : List TableEntry) (id : ℕ) → All (λ e. e.id ≢ id) entries ⊎ ((e : TableEntry) × Contains entries e × (e.id ≡ id))
search_id [] id = inl (λ k d lt. absurd (omega (arith, lt)))
search_id (x ∷ entries) id = elim (cases_eq x.id id) [
  | inl same ↦ inr (x, (0, omega arith, refl), same)
  | inr other ↦ elim (search_id entries id) [
    | inl none ↦ inl (All-cons (λ (e : TableEntry). e.id ≢ id) x entries other none)
    | inr found ↦ inr (found.0, (suc found.1.0, omega (arith, found.1.1), found.1.2), found.2)
  ]
]

-- the root was put over its entry
pub root_put : {S : Type 0} (m new : HashMap ℕ Spot S) (t : Checkpoint) (e : TableEntry) (node : Rc Node Global) → IsRoot t.root e → Contains t.entries e → AreSavedSpots t.entries (spots_in m)
    → Updates nat_eq m new t.root (Some (root_spot e node)) → AreOpened t e node (spots_in new)
root_put m new t e node is_root among was updates = record {
  root_there = updates.1;
  there = λ k d lt apart. updates.2 (get_or t.entries k d).id (ne_eqb t.root (get_or t.entries k d).id (λ same. apart (sym same))) ∙ was.there k d lt;
  others = λ id none.
      updates.2 id (ne_eqb t.root id (λ same. none among.0 e among.1 (ap (λ (x : TableEntry). x.id) among.2 ∙ is_root.0 ∙ same))) ∙ was.others id none;
}

-- ---- what is kept

right_root : ((m : Node) (bytes : List ℕ) → IsShape m → IsImage m bytes → node_in bytes ≡ Some m) → (contents : Option Image) (slot level : ℕ) (n : Node) → IsSome contents
    → IfSome contents (λ image. HasNode image slot level n) → node_in (slot_bytes (told contents) slot) ≡ Some n
right_root decoded None slot level n known held = absurd (let e : false ≡ true = known in cc)
right_root decoded (Some image) slot level n known held = decoded n (slot_bytes image slot) held.shape held.image_is

-- a kept node is that of an entry
record IsOf (t : Checkpoint) (id : ℕ) (s : Spot) : Type 0 where
  entry : TableEntry
  among : Contains t.entries entry
  id_is : entry.id ≡ id
  refs : s.refs ≡ entry.refs
  level : s.level ≡ entry.level
  inside : IsInSlot entry.slot s.place
  placed : IfSome (copy_at s.place) (IsOfLevel s.level)

module _ {D : Type 0} (contents : Option Image) (slots : ℕ) (at : List ℕ) (p : Paged D) (h : IsOpened contents slots at p) where
  kept_of : (id : ℕ) (s : Spot) → spots_of p id ≡ Some s → IsOf p.saved id s
  kept_of id s there = elim (search_id p.saved.entries id) [
    | inl none ↦ absurd (none-some s (sym (h.spots.others id none) ∙ there))
    | inr found ↦ elim (cases_eq id p.saved.root) [
      | inl is_root ↦
          let e : s ≡ root_spot h.entry h.node = same_Some s (root_spot h.entry h.node) (sym there ∙ ap (spots_of p) is_root ∙ h.spots.root_there) in
          subst (λ (x : Spot). IsOf p.saved id x) (sym e) (record { entry = h.entry; among = h.among; id_is = h.is_root.0 ∙ sym is_root; refs = refl; level = refl; inside = refl; placed = h.of_level })
      | inr other ↦
          let x : TableEntry = found.0 in
          let own : spots_of p x.id ≡ Some (saved_spot x) =
          of_all (λ (y : TableEntry). y.id ≢ p.saved.root → spots_of p y.id ≡ Some (saved_spot y)) p.saved.entries x h.spots.there found.1 (λ r. other (sym found.2 ∙ r)) in
          let e : s ≡ saved_spot x = same_Some s (saved_spot x) (sym there ∙ ap (spots_of p) (sym found.2) ∙ own) in
          subst (λ (y : Spot). IsOf p.saved id y) (sym e) (record { entry = x; among = found.1; id_is = found.2; refs = refl; level = refl; inside = refl; placed = tt })
    ]
  ]

  entry_of : (e : TableEntry) → Contains p.saved.entries e → IsTableEntry e
  entry_of e among = of_all IsTableEntry p.saved.entries e h.table.entries.each among

  slot_taken : (e : TableEntry) → Contains p.saved.entries e → Contains (at ++ slots_of p.saved.entries) e.slot
  slot_taken e among = Contains-append_right at (slots_of p.saved.entries) e.slot (entry_slot p.saved.entries e among)

  -- the slot of an entry is one of those that there are
  pub slot_within : (e : TableEntry) → Contains p.saved.entries e → e.slot < length p.spare
  slot_within e among =
      let below : e.slot < slots = of_all (λ (s : ℕ). s < slots) (at ++ slots_of p.saved.entries) e.slot h.table.differ.below (slot_taken e among) in
      omega (arith, below, h.spare.count)

  saved_within : (id : ℕ) → IsTrue (is_saved p.saved.entries id) → id < p.next
  saved_within id saved =
      let found : Any (λ (e : TableEntry). eqb e.id id ≡ true) p.saved.entries = Any-from_list_any (λ (e : TableEntry). eqb e.id id) p.saved.entries saved in
      let e : TableEntry = found.1 in
      let below : e.id < p.saved.next_id = of_all (λ (x : TableEntry). x.id < p.saved.next_id) p.saved.entries e h.table.entries.below_next (found.0, found.2, found.3) in
      omega (arith, below, eqb-true e.id id found.4, h.next)

  kept_within : (id : ℕ) (o : Option Spot) → spots_of p id ≡ o → 1 ≤ refs_in o → (1 ≤ id) × (id < p.next)
  kept_within id None there kept = absurd (omega (arith, kept))
  kept_within id (Some s) there kept =
      let k : IsOf p.saved id s = kept_of id s there in
      let below : k.entry.id < p.saved.next_id = of_all (λ (e : TableEntry). e.id < p.saved.next_id) p.saved.entries k.entry h.table.entries.below_next k.among in
      (omega (arith, k.id_is, (entry_of k.entry k.among).id), omega (arith, k.id_is, below, h.next))

  pub root_is : spots_of p p.root ≡ Some (root_spot h.entry h.node)
  root_is = ap (spots_of p) h.root ∙ h.spots.root_there

  pub opened_paged : (now : Option Image) → AreTails now p.tails → IsPaged now p
  opened_paged now tails = record {
    table = record {
      root = subst (λ (o : Option Spot). 1 ≤ refs_in o) (sym root_is) (entry_of h.entry h.among).refs;
      inner = subst (λ (o : Option Spot). 1 ≤ level_in o) (sym root_is) h.is_root.1;
      low = λ id kept. (kept_within id (spots_of p id) refl kept).0;
      below = λ id kept. (kept_within id (spots_of p id) refl kept).1;
    };
    used = λ id s there.
        let k : IsOf p.saved id s = kept_of id s there in
        omega (arith, k.refs, (entry_of k.entry k.among).refs);
    placed = λ id s there. (kept_of id s there).placed;
    root = subst (λ (o : Option Spot). IsOfSize p.size (copy_in o)) (sym root_is) h.size;
    cached = λ id n kept. absurd (none-some n (sym (h.cached id) ∙ kept));
    levels = λ id s there.
        let k : IsOf p.saved id s = kept_of id s there in
        omega (arith, k.level, (entry_of k.entry k.among).level);
    held = subst (λ (n : ℕ). AreSlots n (p.at ++ slots_of p.saved.entries)) (sym h.spare.count)
        (subst (λ (l : List ℕ). AreSlots slots (l ++ slots_of p.saved.entries)) (sym h.at_is) h.table.differ);
    spare = subst (λ (n : ℕ). AreFreeSlots n (p.at ++ slots_of p.saved.entries) p.spare) (sym h.spare.count)
        (subst (λ (l : List ℕ). AreFreeSlots slots (l ++ slots_of p.saved.entries) p.spare) (sym h.at_is) h.spare);
    slots = λ id s there.
        let k : IsOf p.saved id s = kept_of id s there in
        in_place p.spare k.entry.slot s.place k.inside (slot_within k.entry k.among);
    stored = λ id s there.
        let k : IsOf p.saved id s = kept_of id s there in
        stored_place p.spare p.saved.entries id s.level k.entry s.place k.among k.inside k.id_is (sym k.level);
    saved = saved_within;
    entries = record { rising = h.table.entries.rising; named = λ k d lt. (h.table.entries.each k d lt).refs };
    tails = λ _. tails;
    ready = subst (λ (o : Option Written). IfSome o (IsReady p.spare (spots_of p) p.root p.next)) (sym h.written) tt;
  }

  -- nothing was changed
  module _ (u : Usage) (spare_is : u.spare ≡ p.spare) (unchanged : IsUnchanged u) where
    held_at : (id : ℕ) (s : Spot) (there : spots_of p id ≡ Some s) → IsHeld p.spare (kept_of id s there).entry.slot
    held_at id s there =
        let k : IsOf p.saved id s = kept_of id s there in
        taken_held slots (at ++ slots_of p.saved.entries) p.spare k.entry.slot h.spare (of_all (λ (x : ℕ). x < slots) (at ++ slots_of p.saved.entries) k.entry.slot h.table.differ.below (slot_taken k.entry k.among))
        (slot_taken k.entry k.among)

    -- what holds of no spot and of each that is in its entry's slot
    each_kept : {X : Type 0} (F : Option Spot → X) (x : X) → F None ≡ x → ((slot : ℕ) (s : Spot) → IsHeld p.spare slot → IsInSlot slot s.place → F (Some s) ≡ x) → (id : ℕ) (o : Option Spot) → spots_of p id ≡ o → F o ≡ x
    each_kept F x none some id None there = none
    each_kept F x none some id (Some s) there = let k : IsOf p.saved id s = kept_of id s there in some k.entry.slot s (held_at id s there) k.inside

    no_changed : (id : ℕ) → is_changed p.spare (spots_of p id) ≡ false
    no_changed id = each_kept (is_changed p.spare) false refl (λ slot s held inside. held_unchanged p.spare slot s.place held inside) id (spots_of p id) refl

    none_in_memory : (id : ℕ) → is_in_memory (spots_of p id) ≡ false
    none_in_memory id = each_kept is_in_memory false refl (λ slot s held inside. in_slot_stored slot s.place inside) id (spots_of p id) refl

    no_own : (id : ℕ) → has_own p.spare (spots_of p id) ≡ false
    no_own id = each_kept (has_own p.spare) false refl (λ slot s held inside. held_not_own p.spare slot s.place held inside) id (spots_of p id) refl

    -- a kept node's slot is that of its entry
    slot_of_entry : (id slot : ℕ) (o : Option Spot) → spots_of p id ≡ o → slot_in o ≡ Some slot → (e : TableEntry) × Contains p.saved.entries e × (e.id ≡ id) × (e.slot ≡ slot) × IsHeld p.spare slot
    slot_of_entry id slot None there one = absurd (none-some slot one)
    slot_of_entry id slot (Some s) there one =
        let k : IsOf p.saved id s = kept_of id s there in
        let same : k.entry.slot ≡ slot = same_Some k.entry.slot slot (sym (in_slot_at k.entry.slot s.place k.inside) ∙ one) in
        (k.entry, k.among, k.id_is, same, subst (λ (x : ℕ). IsHeld p.spare x) same (held_at id s there))

    opened_unused : AreUnused p.spare p.spare (spots_of p)
    opened_unused = record {
      slots = λ id s there.
          let k : IsOf p.saved id s = kept_of id s there in
          in_place p.spare k.entry.slot s.place k.inside (slot_within k.entry k.among);
      apart = λ id other slot one two.
          let a = slot_of_entry id slot (spots_of p id) refl one in
          let b = slot_of_entry other slot (spots_of p other) refl two in
          sym a.2 ∙ ap (λ (x : TableEntry). x.id) (one_entry slots at p.saved.entries a.0 b.0 h.table.differ a.1 b.1 (a.3 ∙ sym b.3)) ∙ b.2;
      count = refl;
      free_is = λ slot. (
        λ free. (free, λ id e. let x = slot_of_entry id slot (spots_of p id) refl e in free_not_held p.spare slot free x.4),
        λ un. un.0,
      );
    }

    pub opened_tallied : IsTallied p.next (spots_of p) u
    opened_tallied = record {
      unused = subst (λ (l : List Bool). AreUnused l u.free (spots_of p)) (sym spare_is) (subst (λ (l : List Bool). AreUnused p.spare l (spots_of p)) (sym (unchanged.free ∙ spare_is)) opened_unused);
      counted = record {
        fits = omega (arith, h.next, h.table.last_id);
        changed = unchanged.changed ∙ sym (ap (λ (l : List Bool). spot_count (is_changed l) p.next (spots_of p)) spare_is ∙ count_none (is_changed p.spare) p.next (spots_of p) no_changed);
        in_memory = unchanged.in_memory ∙ sym (count_none is_in_memory p.next (spots_of p) none_in_memory);
        free = omega (arith, ap free_count unchanged.free, ap (λ (l : List Bool). spot_count (has_own l) p.next (spots_of p)) spare_is, count_none (has_own p.spare) p.next (spots_of p) no_own);
      };
      listed = λ id on. absurd (let e : false ≡ true = sym (none_in_memory id) ∙ on in cc);
    }

  -- the root's copy is what its slot has
  pub opened_right : ((m : Node) (bytes : List ℕ) → IsShape m → IsImage m bytes → node_in bytes ≡ Some m) → (id : ℕ) (s : Spot) → spots_of p id ≡ Some s → IsSome contents → IsRightPlace (told contents) s.place
  opened_right decoded id s there known = elim (search_id p.saved.entries id) [
    | inl none ↦ absurd (none-some s (sym (h.spots.others id none) ∙ there))
    | inr found ↦ elim (cases_eq id p.saved.root) [
      | inl is_root ↦
          let e : s ≡ root_spot h.entry h.node = same_Some s (root_spot h.entry h.node) (sym there ∙ ap (spots_of p) is_root ∙ h.spots.root_there) in
          subst (λ (x : Spot). IsRightPlace (told contents) x.place) (sym e) (right_root decoded contents h.entry.slot h.entry.level h.node.value known h.root_held)
      | inr other ↦
          let x : TableEntry = found.0 in
          let own : spots_of p x.id ≡ Some (saved_spot x) =
          of_all (λ (y : TableEntry). y.id ≢ p.saved.root → spots_of p y.id ≡ Some (saved_spot y)) p.saved.entries x h.spots.there found.1 (λ r. other (sym found.2 ∙ r)) in
          let e : s ≡ saved_spot x = same_Some s (saved_spot x) (sym there ∙ ap (spots_of p) (sym found.2) ∙ own) in
          subst (λ (y : Spot). IsRightPlace (told contents) y.place) (sym e) tt
    ]
  ]
