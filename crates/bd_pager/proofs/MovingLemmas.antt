-- Nodes that are moved from memory to their slots: what stays.
use Rattle.std.proofs.Common.{◌≡◌, ◌≢◌, ℕ, ◌+◌, ◌<◌, ◌≤◌, ◌⊎◌, Bool, true, false, is_some, IsTrue, slice_get, List, length, get_or, set, Option, None, Some, IfSome, refl, sym, ap, subst, ◌∙◌, arith, inl, inr}
use Rattle.std.specs.Prelude.{IsSome}
use Rattle.std.specs.Global.{Global}
use Rattle.std.specs.declared.rc.Rc.{Rc}
use Rattle.std.specs.Option.{option_map}
use Rattle.std.specs.BTreeSet.{BTreeSet}
use Rattle.std.proofs.lemmas.Bool.{cases_eq, true≢false}
use Rattle.std.proofs.lemmas.List.{length-set}
use Rattle.std.proofs.lemmas.Option.{none-some, same_Some, slice_get_within, get_or_from_slice_get}
use Rattle.bd_slots.specs.Layout.{image_blocks}
use Rattle.bd_slots.specs.Slots.{IsFree, free_count, slot_if}
use Rattle.bd_device.specs.Blocks.{Image}
use Rattle.bd_device.specs.Changes.{StaysBut, IsBeforeBut}
use Rattle.bd_device.specs.Device.{left_now, Goes, Stays}
use Rattle.bd_device.specs.Moments.{Nothing}
use Rattle.bd_device.specs.declared.device.Device.{Ghosts}
use Rattle.bd_device.proofs.Calls.{stays_then, reads_stay}
use Rattle.bd_device.proofs.Changes.{stays_both, stays_same, stays_wider, before_wider}
use Rattle.bd_device.proofs.Moments.{within}
use Rattle.bd_format.specs.Images.{IsImage}
use Rattle.bd_format.specs.Decoding.{node_in}
use Rattle.bd_cache.specs.declared.cache.NodeCache.{NodeCache}
use Rattle.bd_node.specs.declared.node.Node.{Node}
use Rattle.bd_node.specs.Shape.{IsShape}
use Rattle.bd_pager.specs.declared.place.Place.{Place}
use Rattle.bd_pager.specs.declared.place.Place.TheVariants.{Memory, Slot}
use Rattle.bd_pager.specs.declared.place.Spot.{Spot}
use Rattle.bd_pager.specs.declared.usage.Usage.{Usage}
use Rattle.bd_pager.specs.Calling.{no_reads}
use Rattle.bd_pager.specs.declared.usage.TheConstants.{IN_MEMORY, STORED}
use Rattle.bd_pager.specs.Changing.{own_slot}
use Rattle.bd_pager.specs.Counting.{AreUnused, is_in_memory, is_in_memory_at, has_own, moved, recounted, AreListed, IsListed, IsTallied}
use Rattle.bd_node.proofs.Sums.{sum_some}
use Rattle.bd_pager.specs.Moving.{copy_if, freed_at, freed_in, stored_at, IsCachedMore, AreEarlier, IsBefore, IsEarliest, IfSpot, IsHeldAt, IsMovedAt, IsOfPlace, IsOfSpot, IsReservedPlace, IsReservedAt, IsWritablePlace, IsOfNode, IsOfMoved, OnlyMoves, WritesOnly}
use Rattle.bd_tails.specs.Tails.{slot_bytes, IsOfSlot}
use Rattle.bd_format.specs.Slots.{HasNode}
use Rattle.bd_pager.specs.Slots.{IsOfLevel, IsSpare}
use Rattle.bd_pager.specs.Places.{Spots, refs_in, level_in, slot_at, slot_in, copy_at, copy_in, node_at, node_of, told, IsReadAt, IsRead, AreCached, ArePlaced}
use Rattle.bd_pager.specs.Pagers.{is_changed, is_changed_place, IsRightPlace, IsPlaceIn}
use Rattle.bd_pager.proofs.CountingLemmas.{flag, count_again, count_kept, count_moved, flag_count, flag_here, flag_other, unused_moved, placed_unused, placed_tallied}
use Rattle.bd_pager.proofs.SlotLemmas.{slot_same, one_slot, written_then}

-- ---- one after the other

pub moves_then : {D : Type 0} (g : Ghosts D) (spare : List Bool) (root : ℕ) (a b c : D) (first mid last : Spots) → ((t u : ℕ) (image : Image) → t ≤ u → g.left_since b u image → g.left_since b t image)
    → OnlyMoves g spare root a b first mid → OnlyMoves g spare root b c mid last → OnlyMoves g spare root a c first last
moves_then g spare root a b c first mid last earlier p q = record {
  stays = stays_then p.stays q.stays;
  elsewhere = stays_both (IsSpare spare) (g.contents a) (g.contents b) (g.contents c) p.elsewhere q.elsewhere;
  time = written_then (IsSpare spare) (IsSpare spare) (λ i own. own) p.time earlier q.time;
  kept = λ id. q.kept id ∙ p.kept id;
  refs = λ id. q.refs id ∙ p.refs id;
  level = λ id. q.level id ∙ p.level id;
  changed = λ id. q.changed id ∙ p.changed id;
  slots = λ id slot e. q.slots id slot (p.slots id slot e);
  memory = λ id on. p.memory id (q.memory id on);
  root_copy = q.root_copy ∙ p.root_copy;
  known = λ known. q.known (p.known known);
  nodes = λ known id. q.nodes (p.known known) id ∙ p.nodes known id;
}

-- ---- which blocks are written

pub only_none : {D : Type 0} (g : Ghosts D) (blocks : ℕ → Type 0) (d : D) → WritesOnly g blocks d d
only_none g blocks d = record {
  elsewhere = stays_same blocks (g.contents d);
  time = within Nothing (IsBeforeBut blocks (left_now g d)) (no_reads g d).time (λ c none. absurd none);
}

pub only_wider : {D : Type 0} (g : Ghosts D) (own all : ℕ → Type 0) (old new : D) → ((b : ℕ) → own b → all b) → WritesOnly g own old new → WritesOnly g all old new
only_wider g own all old new wider w = record {
  elsewhere = stays_wider own all (g.contents old) (g.contents new) wider w.elsewhere;
  time = within (IsBeforeBut own (left_now g old)) (IsBeforeBut all (left_now g old)) w.time (λ c h. before_wider own all (left_now g old) c wider h);
}

pub only_then : {D : Type 0} (g : Ghosts D) (all own : ℕ → Type 0) (a b c : D) → ((t u : ℕ) (image : Image) → t ≤ u → g.left_since b u image → g.left_since b t image)
    → ((i : ℕ) → own i → all i) → WritesOnly g all a b → WritesOnly g own b c → WritesOnly g all a c
only_then g all own a b c earlier wider p q = record {
  elsewhere = stays_both all (g.contents a) (g.contents b) (g.contents c) p.elsewhere (stays_wider own all (g.contents b) (g.contents c) wider q.elsewhere);
  time = written_then all own wider p.time earlier q.time;
}

-- ---- one node is moved, and the device isn't called

each_at : {X : Type 0} (F : Option Spot → X) (id : ℕ) (before after : Spots) → F (after id) ≡ F (before id) → ((i : ℕ) → i ≢ id → after i ≡ before i) → (i : ℕ) → F (after i) ≡ F (before i)
each_at F id before after here others i = elim (cases_eq i id) [
  | inl same ↦ subst (λ (k : ℕ). F (after k) ≡ F (before k)) (sym same) here
  | inr other ↦ ap F (others i other)
]

-- what is the same of it, and what is only there less
pub record IsLess {D : Type 0} (g : Ghosts D) (spare : List Bool) (root id : ℕ) (d : D) (was now : Spot) : Type 0 where
  pub refs : now.refs ≡ was.refs
  pub level : now.level ≡ was.level
  pub changed : is_changed_place spare now.place ≡ is_changed_place spare was.place
  pub slots : (slot : ℕ) → slot_at was.place ≡ Some slot → slot_at now.place ≡ Some slot
  pub memory : IsTrue (is_in_memory_at now.place) → IsTrue (is_in_memory_at was.place)
  pub copy : root ≡ id → copy_at now.place ≡ copy_at was.place
  pub right : IsSome (g.contents d) → IsRightPlace (told (g.contents d)) was.place → IsRightPlace (told (g.contents d)) now.place
  pub node : IsSome (g.contents d) → IsRightPlace (told (g.contents d)) was.place → node_at (told (g.contents d)) now.place ≡ node_at (told (g.contents d)) was.place

module _ {D : Type 0} (g : Ghosts D) (spare : List Bool) (root id : ℕ) (d : D) (before after : Spots) (was now : Spot) (there : before id ≡ Some was) (here : after id ≡ Some now) (others : (i : ℕ) → i ≢ id → after i ≡ before i)
    (less : IsLess g spare root id d was now) where
  image : Image
  image = told (g.contents d)

  each : {X : Type 0} (F : Option Spot → X) → F (Some now) ≡ F (Some was) → (i : ℕ) → F (after i) ≡ F (before i)
  each F e i = each_at F id before after (ap F here ∙ e ∙ sym (ap F there)) others i

  still_right : IsSome (g.contents d) → ((i : ℕ) (s : Spot) → before i ≡ Some s → IsRightPlace (told (g.contents d)) s.place) → (i : ℕ) (s : Spot) → after i ≡ Some s → IsRightPlace (told (g.contents d)) s.place
  still_right told_it right i s e = elim (cases_eq i id) [
    | inl same ↦
        let one : now ≡ s = same_Some now s (sym here ∙ ap after (sym same) ∙ e) in
        subst (λ (x : Spot). IsRightPlace (told (g.contents d)) x.place) one (less.right told_it (right id was there))
    | inr other ↦ right i s (sym (others i other) ∙ e)
  ]

  pub one_moves : OnlyMoves g spare root d d before after
  one_moves = record {
    stays = reads_stay (no_reads g d);
    elsewhere = stays_same (IsSpare spare) (g.contents d);
    time = within Nothing (IsBeforeBut (IsSpare spare) (left_now g d)) (no_reads g d).time (λ c none. absurd none);
    kept = each is_some refl;
    refs = each refs_in less.refs;
    level = each level_in less.level;
    changed = each (is_changed spare) less.changed;
    slots = λ i slot e. elim (cases_eq i id) [
      | inl same ↦
          let mine : slot_at was.place ≡ Some slot = ap slot_in (sym there) ∙ ap (λ (k : ℕ). slot_in (before k)) (sym same) ∙ e in
          ap (λ (k : ℕ). slot_in (after k)) same ∙ ap slot_in here ∙ less.slots slot mine
      | inr other ↦ ap slot_in (others i other) ∙ e
    ];
    memory = λ i on. elim (cases_eq i id) [
      | inl same ↦
          let mine : IsTrue (is_in_memory_at now.place) = subst (λ (o : Option Spot). IsTrue (is_in_memory o)) (ap after same ∙ here) on in
          subst (λ (o : Option Spot). IsTrue (is_in_memory o)) (sym (ap before same ∙ there)) (less.memory mine)
      | inr other ↦ subst (λ (o : Option Spot). IsTrue (is_in_memory o)) (others i other) on
    ];
    root_copy = elim (cases_eq root id) [
      | inl same ↦ ap copy_in (ap after same ∙ here) ∙ less.copy same ∙ sym (ap copy_in (ap before same ∙ there))
      | inr other ↦ ap copy_in (others root other)
    ];
    known = λ known. record { contents_told = known.contents_told; right = still_right known.contents_told known.right };
    nodes = λ known i. each (node_of (told (g.contents d))) (less.node known.contents_told (known.right id was there)) i;
  }

-- ---- the device is called, and no slot changes where a node is

module _ (spots : Spots) (old new : Option Image) (same : (i : ℕ) (s : Spot) (slot : ℕ) (copy : Option (Rc Node Global)) → spots i ≡ Some s → s.place ≡ Slot slot copy → slot_bytes (told new) slot ≡ slot_bytes (told old) slot) where
  bytes_at_place : (p : Place) → ((slot : ℕ) (copy : Option (Rc Node Global)) → p ≡ Slot slot copy → slot_bytes (told new) slot ≡ slot_bytes (told old) slot) → (IsRightPlace (told old) p → IsRightPlace (told new) p) × (node_at (told new) p ≡ node_at (told old) p)
  bytes_at_place (Memory node slot) kept = (λ right. tt, refl)
  bytes_at_place (Slot slot None) kept = (λ right. tt, ap node_in (kept slot None refl))
  bytes_at_place (Slot slot (Some node)) kept = (λ right. ap node_in (kept slot (Some node) refl) ∙ right, refl)

  right_kept : ((i : ℕ) (s : Spot) → spots i ≡ Some s → IsRightPlace (told old) s.place) → (i : ℕ) (s : Spot) → spots i ≡ Some s → IsRightPlace (told new) s.place
  right_kept right i s there = (bytes_at_place s.place (λ slot copy e. same i s slot copy there e)).0 (right i s there)

  node_kept : (i : ℕ) (o : Option Spot) → spots i ≡ o → node_of (told new) o ≡ node_of (told old) o
  node_kept i None there = refl
  node_kept i (Some s) there = (bytes_at_place s.place (λ slot copy e. same i s slot copy there e)).1

has_kept : (old new : Image) (slot level : ℕ) (n : Node) → slot_bytes new slot ≡ slot_bytes old slot → HasNode old slot level n → HasNode new slot level n
has_kept old new slot level n same has = record { shape = has.shape; level_is = has.level_is; image_is = subst (IsImage n) (sym same) has.image_is }

held_kept : (changed : ℕ → Type 0) (old new : Option Image) (slot level : ℕ) (n : Node) → StaysBut changed old new → slot_bytes (told new) slot ≡ slot_bytes (told old) slot → IfSome old (λ image. HasNode image slot level n) → IfSome new (λ image. HasNode image slot level n)
held_kept changed None None slot level n stays same has = tt
held_kept changed None (Some new) slot level n stays same has = absurd stays
held_kept changed (Some old) None slot level n stays same has = absurd stays
held_kept changed (Some old) (Some new) slot level n stays same has = has_kept old new slot level n same has

read_kept : (changed : ℕ → Type 0) (old new : Option Image) (is_lent : Bool) (level : ℕ) (p : Place) (n : Node) → StaysBut changed old new → ((slot : ℕ) (copy : Option (Rc Node Global)) → p ≡ Slot slot copy → slot_bytes (told new) slot ≡ slot_bytes (told old) slot)
    → IsReadAt old is_lent level p n → IsReadAt new is_lent level p n
read_kept changed old new is_lent level (Memory node slot) n stays same read = absurd read
read_kept changed old new is_lent level (Slot slot (Some node)) n stays same read = absurd read
read_kept changed old new is_lent level (Slot slot None) n stays same read = (read.0, λ not_lent. held_kept changed old new slot level n stays (same slot None refl) (read.1 not_lent))

told_kept : (changed : ℕ → Type 0) (old new : Option Image) → StaysBut changed old new → IsSome old → IsSome new
told_kept changed None new stays some = absurd (let e : false ≡ true = some in cc)
told_kept changed (Some old) None stays some = absurd stays
told_kept changed (Some old) (Some new) stays some = refl

slot_kept : (changed : ℕ → Type 0) (old new : Option Image) (slot : ℕ) → StaysBut changed old new → ((b : ℕ) → IsOfSlot slot b → ¬ changed b) → slot_bytes (told new) slot ≡ slot_bytes (told old) slot
slot_kept changed None None slot stays apart = refl
slot_kept changed None (Some new) slot stays apart = absurd stays
slot_kept changed (Some old) None slot stays apart = absurd stays
slot_kept changed (Some old) (Some new) slot stays apart = slot_same changed old new slot stays apart

-- no changed block is of a slot where a node is
abbrev pub AreApartFrom : Spots → (ℕ → Type 0) → Type 0
AreApartFrom spots changed = (i : ℕ) (s : Spot) (slot : ℕ) (copy : Option (Rc Node Global)) → spots i ≡ Some s → s.place ≡ Slot slot copy → (b : ℕ) → IsOfSlot slot b → ¬ changed b

pub cached_kept : (changed : ℕ → Type 0) (old new : Option Image) (is_lent : Bool) (spots : Spots) (cache : NodeCache) → StaysBut changed old new → AreApartFrom spots changed → AreCached old is_lent spots cache → AreCached new is_lent spots cache
cached_kept changed old new is_lent spots cache stays apart was = λ id n kept. read_of (spots id) id n refl (was id n kept)
  where
    read_of : (o : Option Spot) (id : ℕ) (n : Node) → spots id ≡ o → IsRead old is_lent o n → IsRead new is_lent o n
    read_of None id n there read = absurd read
    read_of (Some s) id n there read = read_kept changed old new is_lent s.level s.place n stays (λ slot copy e. slot_kept changed old new slot stays (apart id s slot copy there e)) read

pub device_moves : {D : Type 0} (g : Ghosts D) (spare : List Bool) (root : ℕ) (d e : D) (spots : Spots) (changed : ℕ → Type 0) → ((b : ℕ) → changed b → IsSpare spare b) → AreApartFrom spots changed
    → Stays g d e → StaysBut changed (g.contents d) (g.contents e) → Goes g d e (IsBeforeBut changed (left_now g d)) → OnlyMoves g spare root d e spots spots
device_moves g spare root d e spots changed wider apart stays elsewhere time =
    let old : Option Image = g.contents d in
    let new : Option Image = g.contents e in
    let same : (i : ℕ) (s : Spot) (slot : ℕ) (copy : Option (Rc Node Global)) → spots i ≡ Some s → s.place ≡ Slot slot copy → slot_bytes (told new) slot ≡ slot_bytes (told old) slot = λ i s slot copy there is. slot_kept changed old new slot elsewhere (apart i s slot copy there is) in
    record {
      stays = stays;
      elsewhere = stays_wider changed (IsSpare spare) old new wider elsewhere;
      time = within (IsBeforeBut changed (left_now g d)) (IsBeforeBut (IsSpare spare) (left_now g d)) time (λ c h. before_wider changed (IsSpare spare) (left_now g d) c wider h);
      kept = λ id. refl;
      refs = λ id. refl;
      level = λ id. refl;
      changed = λ id. refl;
      slots = λ id slot is. is;
      memory = λ id on. on;
      root_copy = refl;
      known = λ known. record { contents_told = told_kept changed old new elsewhere known.contents_told; right = right_kept spots old new same known.right };
      nodes = λ known id. node_kept spots old new same id (spots id) refl;
    }

-- ---- a node in memory

-- it has this slot of its own
pub record HasOwn (spots : Spots) (id : ℕ) : Type 0 where
  pub spot : Spot
  pub there : spots id ≡ Some spot
  pub node : Rc Node Global
  pub slot : ℕ
  pub place : spot.place ≡ Memory node (Some slot)

reserved_memory : (p q : Place) (free after : List Bool) → IsReservedPlace p free q after → IsTrue (is_in_memory_at p) → (node : Rc Node Global) × (slot : ℕ) × (q ≡ Memory node (Some slot))
reserved_memory (Memory node None) q free after h on = (node, h.0, h.2)
reserved_memory (Memory node (Some own)) q free after h on = (node, own, h.0)
reserved_memory (Slot slot copy) q free after h on = absurd (let e : false ≡ true = on in cc)

pub has_own_now : (id : ℕ) (spots : Spots) (free : List Bool) (mid : Spots) (after : List Bool) → IsReservedAt id spots free mid after → IsTrue (is_in_memory (spots id)) → HasOwn mid id
has_own_now id spots free mid after h on =
    let found = reserved_memory h.was.place h.now.place free after h.reserved.place (subst (λ (o : Option Spot). IsTrue (is_in_memory o)) h.there on) in
    record { spot = h.now; there = h.here; node = found.0; slot = found.1; place = found.2 }

-- the places before and after it got one
reserved_less : {D : Type 0} (g : Ghosts D) (spare : List Bool) (root id : ℕ) (d : D) (r t : ℕ) (l m : ℕ) (p q : Place) (free after : List Bool) → t ≡ r → m ≡ l → IsReservedPlace p free q after
    → IsLess g spare root id d (record { refs = r; level = l; place = p }) (record { refs = t; level = m; place = q })
reserved_less g spare root id d r t l m (Memory node None) q free after refs level h = record {
  refs = refs;
  level = level;
  changed = ap (is_changed_place spare) h.2;
  slots = λ slot e. absurd (none-some slot e);
  memory = λ on. refl;
  copy = λ same. ap copy_at h.2;
  right = λ told_it right. subst (λ (x : Place). IsRightPlace (told (g.contents d)) x) (sym h.2) tt;
  node = λ told_it right. ap (node_at (told (g.contents d))) h.2;
}
reserved_less g spare root id d r t l m (Memory node (Some own)) q free after refs level h = record {
  refs = refs;
  level = level;
  changed = ap (is_changed_place spare) h.0;
  slots = λ slot e. ap slot_at h.0 ∙ e;
  memory = λ on. refl;
  copy = λ same. ap copy_at h.0;
  right = λ told_it right. subst (λ (x : Place). IsRightPlace (told (g.contents d)) x) (sym h.0) tt;
  node = λ told_it right. ap (node_at (told (g.contents d))) h.0;
}
reserved_less g spare root id d r t l m (Slot there copy) q free after refs level h = record {
  refs = refs;
  level = level;
  changed = ap (is_changed_place spare) h.0;
  slots = λ slot e. ap slot_at h.0 ∙ e;
  memory = λ on. subst (λ (x : Place). IsTrue (is_in_memory_at x)) h.0 on;
  copy = λ same. ap copy_at h.0;
  right = λ told_it right. subst (λ (x : Place). IsRightPlace (told (g.contents d)) x) (sym h.0) right;
  node = λ told_it right. ap (node_at (told (g.contents d))) h.0;
}

pub reserved_moves : {D : Type 0} (g : Ghosts D) (spare : List Bool) (root id : ℕ) (d : D) (spots : Spots) (free : List Bool) (mid : Spots) (after : List Bool) → IsReservedAt id spots free mid after → OnlyMoves g spare root d d spots mid
reserved_moves g spare root id d spots free mid after h =
    one_moves g spare root id d spots mid h.was h.now h.there h.here h.others
    (reserved_less g spare root id d h.was.refs h.now.refs h.was.level h.now.level h.was.place h.now.place free after h.reserved.refs h.reserved.level h.reserved.place)

-- ---- a slot that a node gets

module _ (spare free : List Bool) (spots mid : Spots) (id : ℕ) (old now : Spot) (there : spots id ≡ Some old) (here : mid id ≡ Some now) (others : (i : ℕ) → i ≢ id → mid i ≡ spots i) (node : Rc Node Global) (slot : ℕ)
    (had_none : old.place ≡ Memory node None) (has : now.place ≡ Memory node (Some slot)) (is_free : IsFree free slot) (was : AreUnused spare free spots) where
  unused : IsFree spare slot × ((i : ℕ) → slot_in (spots i) ≢ Some slot)
  unused = (was.free_is slot).0 is_free

  none_before : slot_in (spots id) ≡ None
  none_before = ap slot_in there ∙ ap slot_at had_none

  one_now : slot_in (mid id) ≡ Some slot
  one_now = ap slot_in here ∙ ap slot_at has

  taken_had : (i x : ℕ) → slot_in (mid i) ≡ Some x → ((i ≡ id) × (x ≡ slot)) ⊎ (slot_in (spots i) ≡ Some x)
  taken_had i x e = elim (cases_eq i id) [
    | inl same ↦ inl (same, same_Some x slot (sym e ∙ ap (λ (k : ℕ). slot_in (mid k)) same ∙ one_now))
    | inr other ↦ inr (ap slot_in (sym (others i other)) ∙ e)
  ]

  taken_has : (i x : ℕ) → slot_in (spots i) ≡ Some x → slot_in (mid i) ≡ Some x
  taken_has i x e = elim (cases_eq i id) [
    | inl same ↦ absurd (none-some x (sym none_before ∙ ap (λ (k : ℕ). slot_in (spots k)) (sym same) ∙ e))
    | inr other ↦ ap slot_in (others i other) ∙ e
  ]

  pub taken_unused : AreUnused spare (set free slot false) mid
  taken_unused = record {
    slots = λ i s e. elim (cases_eq i id) [
      | inl same ↦ subst (λ (p : Place). IsPlaceIn spare p) (sym (ap (λ (x : Spot). x.place) (same_Some s now (sym e ∙ ap mid same ∙ here)) ∙ has)) unused.0
      | inr other ↦ was.slots i s (sym (others i other) ∙ e)
    ];
    apart = λ i j x one two. elim (taken_had i x one) [
      | inl mine ↦ elim (taken_had j x two) [
        | inl his ↦ mine.0 ∙ sym his.0
        | inr his ↦ absurd (unused.1 j (his ∙ ap Some mine.1))
      ]
      | inr mine ↦ elim (taken_had j x two) [
        | inl his ↦ absurd (unused.1 i (mine ∙ ap Some his.1))
        | inr his ↦ was.apart i j x mine his
      ]
    ];
    count = length-set free slot false ∙ was.count;
    free_is = λ x. elim (cases_eq x slot) [
      | inl same ↦ (
        λ is. absurd (true≢false (same_Some true false (sym is ∙ ap (slice_get (set free slot false)) same ∙ flag_here free slot false (slice_get_within free slot true is_free)))),
        λ un. absurd (un.1 id (one_now ∙ ap Some (sym same))),
      )
      | inr other ↦ (
        λ is.
            let before : IsFree free x = sym (flag_other free slot x false other) ∙ is in (
              ((was.free_is x).0 before).0,
              λ i e. elim (taken_had i x e) [
                | inl mine ↦ other mine.1
                | inr his ↦ ((was.free_is x).0 before).1 i his
              ],
            ),
        λ un. flag_other free slot x false other ∙ (was.free_is x).1 (un.0, λ i e. un.1 i (taken_has i x e)),
      )
    ];
  }

  same_test : {X : Type 0} (F : Option Spot → X) (G : Place → X) → ((s : Spot) → F (Some s) ≡ G s.place) → G (Memory node (Some slot)) ≡ G (Memory node None) → (i : ℕ) → F (mid i) ≡ F (spots i)
  same_test F G by same i = each_at F id spots mid (ap F here ∙ by now ∙ ap G has ∙ same ∙ sym (ap G had_none) ∙ sym (by old) ∙ sym (ap F there)) others i

  pub taken_tallied : (next : ℕ) (u : Usage) → u.spare ≡ spare → u.free ≡ free → id < next → IsTallied next spots u → IsTallied next mid (record u { free = set free slot false })
  taken_tallied next u spare_is free_is low tallied = record {
    unused = subst (λ (l : List Bool). AreUnused l (set free slot false) mid) (sym spare_is) taken_unused;
    counted = record {
      fits = tallied.counted.fits;
      changed = tallied.counted.changed ∙ sym (count_kept (is_changed u.spare) next spots mid (same_test (is_changed u.spare) (is_changed_place u.spare) (λ s. refl) refl));
      in_memory = tallied.counted.in_memory ∙ sym (count_kept is_in_memory next spots mid (same_test is_in_memory is_in_memory_at (λ s. refl) refl));
      free = omega (
        arith,
        flag_count free slot true false is_free,
        count_moved (has_own u.spare) next id spots mid low others,
        ap (λ (o : Option Spot). flag (has_own u.spare o)) there,
        ap (λ (o : Option Spot). flag (has_own u.spare o)) here,
        ap (λ (p : Place). flag (is_some (own_slot u.spare p))) had_none,
        ap (λ (p : Place). flag (is_some (own_slot u.spare p))) has,
        ap free_count free_is,
        tallied.counted.free,
      );
    };
    listed = λ i on. tallied.listed i (subst (λ (b : Bool). IsTrue b) (same_test is_in_memory is_in_memory_at (λ s. refl) refl i) on);
  }

-- a place that stays
same_places : (id : ℕ) (spots mid : Spots) (was now : Spot) → spots id ≡ Some was → mid id ≡ Some now → ((i : ℕ) → i ≢ id → mid i ≡ spots i) → now.place ≡ was.place
    → (i : ℕ) → option_map (λ (s : Spot). s.place) (mid i) ≡ option_map (λ (s : Spot). s.place) (spots i)
same_places id spots mid was now there here others same i =
    each_at (option_map (λ (s : Spot). s.place)) id spots mid (ap (option_map (λ (s : Spot). s.place)) here ∙ ap Some same ∙ sym (ap (option_map (λ (s : Spot). s.place)) there)) others i

reserved_by : (next : ℕ) (u : Usage) (id : ℕ) (spots mid : Spots) (after : List Bool) (was now : Spot) → spots id ≡ Some was → mid id ≡ Some now → ((i : ℕ) → i ≢ id → mid i ≡ spots i) → (p : Place) → was.place ≡ p → IsReservedPlace p u.free now.place after
    → id < next → IsTallied next spots u → IsTallied next mid (record u { free = after })
reserved_by next u id spots mid after was now there here others (Memory node None) place h low tallied =
    subst (λ (l : List Bool). IsTallied next mid (record u { free = l })) (sym h.3)
    (taken_tallied u.spare u.free spots mid id was now there here others node h.0 place h.2 h.1 tallied.unused next u refl refl low tallied)
reserved_by next u id spots mid after was now there here others (Memory node (Some own)) place h low tallied =
    subst (λ (l : List Bool). IsTallied next mid (record u { free = l })) (sym h.1) (placed_tallied next spots mid u (same_places id spots mid was now there here others (h.0 ∙ sym place)) tallied)
reserved_by next u id spots mid after was now there here others (Slot slot copy) place h low tallied =
    subst (λ (l : List Bool). IsTallied next mid (record u { free = l })) (sym h.1) (placed_tallied next spots mid u (same_places id spots mid was now there here others (h.0 ∙ sym place)) tallied)

pub reserved_tallied : (next : ℕ) (u : Usage) (id : ℕ) (spots mid : Spots) (after : List Bool) → IsReservedAt id spots u.free mid after → id < next → IsTallied next spots u → IsTallied next mid (record u { free = after })
reserved_tallied next u id spots mid after h low tallied = reserved_by next u id spots mid after h.was h.now h.there h.here h.others h.was.place refl h.reserved.place low tallied

unused_by : (spare free : List Bool) (id : ℕ) (spots mid : Spots) (after : List Bool) (was now : Spot) → spots id ≡ Some was → mid id ≡ Some now → ((i : ℕ) → i ≢ id → mid i ≡ spots i) → (p : Place) → was.place ≡ p → IsReservedPlace p free now.place after
    → AreUnused spare free spots → AreUnused spare after mid
unused_by spare free id spots mid after was now there here others (Memory node None) place h unused =
    subst (λ (l : List Bool). AreUnused spare l mid) (sym h.3) (taken_unused spare free spots mid id was now there here others node h.0 place h.2 h.1 unused)
unused_by spare free id spots mid after was now there here others (Memory node (Some own)) place h unused =
    subst (λ (l : List Bool). AreUnused spare l mid) (sym h.1) (placed_unused spare free spots mid (same_places id spots mid was now there here others (h.0 ∙ sym place)) unused)
unused_by spare free id spots mid after was now there here others (Slot slot copy) place h unused =
    subst (λ (l : List Bool). AreUnused spare l mid) (sym h.1) (placed_unused spare free spots mid (same_places id spots mid was now there here others (h.0 ∙ sym place)) unused)

pub reserved_unused : (spare free : List Bool) (id : ℕ) (spots mid : Spots) (after : List Bool) → IsReservedAt id spots free mid after → AreUnused spare free spots → AreUnused spare after mid
reserved_unused spare free id spots mid after h unused = unused_by spare free id spots mid after h.was h.now h.there h.here h.others h.was.place refl h.reserved.place unused

-- ---- a node whose slot has it

module _ (spare free : List Bool) (mid : Spots) (id : ℕ) (own : HasOwn mid id) (was : AreUnused spare free mid) where
  pub own_spare : IsFree spare own.slot
  own_spare = subst (λ (p : Place). IsPlaceIn spare p) own.place (was.slots id own.spot own.there)

  own_in : slot_in (mid id) ≡ Some own.slot
  own_in = ap slot_in own.there ∙ ap slot_at own.place

  own_memory : is_in_memory (mid id) ≡ true
  own_memory = ap is_in_memory own.there ∙ ap is_in_memory_at own.place

  block_own : (b : ℕ) → IsOfSpot (mid id) b → IsOfSlot own.slot b
  block_own b is = subst (λ (p : Place). IsOfPlace p b) own.place (subst (λ (o : Option Spot). IsOfSpot o b) own.there is)

  pub own_block : (b : ℕ) → IsOfSpot (mid id) b → IsOfNode mid id b
  own_block b is = record { slot = own.slot; there = own_in; block = block_own b is }

  pub own_wider : (b : ℕ) → IsOfSpot (mid id) b → IsSpare spare b
  own_wider b is = (own.slot, own_spare, block_own b is)

  pub own_apart : AreApartFrom mid (IsOfSpot (mid id))
  own_apart i s slot copy there place b his is =
      let one : slot ≡ own.slot = one_slot slot own.slot b his (block_own b is) in
      let same : i ≡ id = was.apart i id own.slot (ap slot_in there ∙ ap slot_at place ∙ ap Some one) own_in in
      let memory : is_in_memory_at s.place ≡ true = ap is_in_memory (sym there) ∙ ap (λ (k : ℕ). is_in_memory (mid k)) same ∙ own_memory in
      true≢false (sym memory ∙ ap is_in_memory_at place)

  pub own_writable : (blocks : ℕ) → blocks ≡ image_blocks (length spare) → ArePlaced mid → IfSpot (λ s. IsWritablePlace blocks s.level s.place) (mid id)
  own_writable blocks size placed =
      let node : IsOfLevel own.spot.level own.node.value = subst (λ (p : Place). IfSome (copy_at p) (IsOfLevel own.spot.level)) own.place (placed id own.spot own.there) in
      subst (λ (o : Option Spot). IfSpot (λ s. IsWritablePlace blocks s.level s.place) o) (sym own.there)
      (subst (λ (p : Place). IsWritablePlace blocks own.spot.level p) (sym own.place) (node, omega (arith, size, slice_get_within spare own.slot true own_spare)))

  -- what is there is the node
  module _ (decoded : (n : Node) (bytes : List ℕ) → IsShape n → IsImage n bytes → node_in bytes ≡ Some n) (contents : Option Image) (held : IfSome contents (λ image. IfSpot (λ s. IsHeldAt image s.level s.place) (mid id))) where
    is_there : (o : Option Image) → IfSome o (λ image. IfSpot (λ s. IsHeldAt image s.level s.place) (mid id)) → IsSome o → node_in (slot_bytes (told o) own.slot) ≡ Some own.node.value
    is_there None h some = absurd (let e : false ≡ true = some in cc)
    is_there (Some image) h some =
        let has : HasNode image own.slot own.spot.level own.node.value =
        subst (λ (p : Place). IsHeldAt image own.spot.level p) own.place (subst (λ (o : Option Spot). IfSpot (λ s. IsHeldAt image s.level s.place) o) own.there h) in
        decoded own.node.value (slot_bytes image own.slot) has.shape has.image_is

    pub own_there : IsSome contents → node_in (slot_bytes (told contents) own.slot) ≡ Some own.node.value
    own_there some = is_there contents held some

right_if : (image : Image) (b : Bool) (slot : ℕ) (node : Rc Node Global) → node_in (slot_bytes image slot) ≡ Some node.value → IsRightPlace image (Slot slot (copy_if b node)) × (node_at image (Slot slot (copy_if b node)) ≡ Some node.value)
right_if held true slot node is = (is, refl)
right_if held false slot node is = (tt, is)

copy_when : (b : Bool) (slot : ℕ) (node : Rc Node Global) → b ≡ true → copy_at (Slot slot (copy_if b node)) ≡ Some node.value
copy_when true slot node is = refl
copy_when false slot node is = absurd (true≢false (sym is))

level_if : (b : Bool) (slot level : ℕ) (node : Rc Node Global) → IsOfLevel level node.value → IfSome (copy_at (Slot slot (copy_if b node))) (IsOfLevel level)
level_if true slot level node is = is
level_if false slot level node is = tt

changed_spare : (spare : List Bool) (slot : ℕ) → IsFree spare slot → get_or spare slot true ≡ true
changed_spare spare slot free = get_or_from_slice_get spare slot true true free

module _ {D : Type 0} (g : Ghosts D) (spare free : List Bool) (root id : ℕ) (d : D) (mid last : Spots) (own : HasOwn mid id) (was : AreUnused spare free mid) (is_root : Bool) (step : IsMovedAt id (stored_at is_root) mid last) where
  now : Spot
  now = record own.spot { place = Slot own.slot (copy_if is_root own.node) }

  now_here : last id ≡ Some (record own.spot { place = Slot own.slot (copy_if is_root own.node) })
  now_here =
      step.here
      ∙ ap (λ (s : Spot). Some (record s { place = stored_at is_root s.place })) (same_Some step.was own.spot (sym step.there ∙ own.there))
      ∙ ap (λ (p : Place). Some (record own.spot { place = stored_at is_root p })) own.place

  mine : IsFree spare own.slot
  mine = own_spare spare free mid id own was

  pub settled_gone : is_in_memory (last id) ≡ false
  settled_gone = ap is_in_memory now_here

  pub settled_block : (b : ℕ) → IsOfSpot (mid id) b → IsOfNode last id b
  settled_block b is = record { slot = own.slot; there = ap slot_in now_here; block = block_own spare free mid id own was b is }

  pub settled_moves : (root ≡ id → is_root ≡ true) → (IsSome (g.contents d) → node_in (slot_bytes (told (g.contents d)) own.slot) ≡ Some own.node.value) → OnlyMoves g spare root d d mid last
  settled_moves rooted is =
      one_moves g spare root id d mid last own.spot (record own.spot { place = Slot own.slot (copy_if is_root own.node) }) own.there now_here step.others (record {
        refs = refl;
        level = refl;
        changed = changed_spare spare own.slot mine ∙ sym (ap (is_changed_place spare) own.place);
        slots = λ slot e. sym (ap slot_at own.place) ∙ e;
        memory = λ on. absurd (let e : false ≡ true = on in cc);
        copy = λ same. copy_when is_root own.slot own.node (rooted same) ∙ sym (ap copy_at own.place);
        right = λ told_it right. (right_if (told (g.contents d)) is_root own.slot own.node (is told_it)).0;
        node = λ told_it right. (right_if (told (g.contents d)) is_root own.slot own.node (is told_it)).1 ∙ sym (ap (node_at (told (g.contents d))) own.place);
      })

  pub settled_tallied : (next : ℕ) (u : Usage) (listed : BTreeSet ℕ) → u.spare ≡ spare → u.free ≡ free → id < next → ((i : ℕ) → i ≢ id → IsListed u.listed i → IsListed listed i) → IsTallied next mid u
      → IsTallied next last (record (recounted IN_MEMORY STORED u) { listed = listed })
  settled_tallied next u listed spare_is free_is low more tallied =
      let is_free : IsFree u.spare own.slot = subst (λ (l : List Bool). IsFree l own.slot) (sym spare_is) mine in
      let has : slot_in (last id) ≡ slot_in (mid id) = ap slot_in now_here ∙ sym (ap slot_at own.place) ∙ sym (ap slot_in own.there) in
      record {
        unused = unused_moved u.spare u.free id mid last step.others
            (λ s e. subst (λ (x : Spot). IsPlaceIn u.spare x.place) (same_Some (record own.spot { place = Slot own.slot (copy_if is_root own.node) }) s (sym now_here ∙ e)) (slice_get_within u.spare own.slot true is_free))
            (λ slot e. sym has ∙ e)
            (λ slot spared e. has ∙ e)
            tallied.unused;
        counted = record {
          fits = tallied.counted.fits;
          changed = tallied.counted.changed ∙ sym (count_kept (is_changed u.spare) next mid last (λ i. each_at (is_changed u.spare) id mid last
              (ap (is_changed u.spare) now_here ∙ changed_spare u.spare own.slot is_free ∙ sym (ap (is_changed u.spare) own.there ∙ ap (is_changed_place u.spare) own.place)) step.others i));
          in_memory =
              ap (λ (b : Bool). moved u.in_memory b false) (sym (ap is_in_memory own.there ∙ ap is_in_memory_at own.place))
              ∙ ap (λ (b : Bool). moved u.in_memory (is_in_memory (mid id)) b) (sym (ap is_in_memory now_here))
              ∙ count_again is_in_memory next id u.in_memory mid last tallied.counted.fits low step.others tallied.counted.in_memory;
          free = ap (λ (k : ℕ). free_count u.free + k) (count_kept (has_own u.spare) next mid last (λ i. each_at (has_own u.spare) id mid last
              (ap (has_own u.spare) now_here ∙ ap (λ (o : Option Bool). is_some (slot_if o own.slot)) is_free ∙ sym (ap (has_own u.spare) own.there ∙ ap (λ (p : Place). is_some (own_slot u.spare p)) own.place)) step.others i)) ∙ tallied.counted.free;
        };
        listed = λ i on. elim (cases_eq i id) [
          | inl same ↦ absurd (let e : false ≡ true = sym (ap is_in_memory (ap last same ∙ now_here)) ∙ on in cc)
          | inr other ↦ more i other (tallied.listed i (subst (λ (o : Option Spot). IsTrue (is_in_memory o)) (step.others i other) on))
        ];
      }

-- ---- what is read, once a slot has a node

stored_level : (b : Bool) (level : ℕ) (p : Place) → IfSome (copy_at p) (IsOfLevel level) → IfSome (copy_at (stored_at b p)) (IsOfLevel level)
stored_level b level (Memory node (Some slot)) is = level_if b slot level node is
stored_level b level (Memory node None) is = is
stored_level b level (Slot slot copy) is = is

stored_read : (contents : Option Image) (is_lent b : Bool) (level : ℕ) (p : Place) (n : Node) → IsReadAt contents is_lent level p n → IsReadAt contents is_lent level (stored_at b p) n
stored_read contents is_lent b level (Memory node slot) n read = absurd read
stored_read contents is_lent b level (Slot slot copy) n read = read

held_at : (contents : Option Image) (level : ℕ) (node : Rc Node Global) (slot : ℕ) → IfSome contents (λ image. IsHeldAt image level (Memory node (Some slot))) → IfSome contents (λ image. HasNode image slot level node.value)
held_at None level node slot held = tt
held_at (Some there) level node slot held = held

-- the node that goes out of memory is as if it had been read
freed_read : (contents : Option Image) (is_lent b : Bool) (level : ℕ) (p : Place) (n : Node) → freed_at b p ≡ Some n → IfSome (copy_at p) (IsOfLevel level) → IfSome contents (λ image. IsHeldAt image level p) → IsReadAt contents is_lent level (stored_at b p) n
freed_read contents is_lent true level (Memory node (Some slot)) n freed is held = absurd (none-some n freed)
freed_read contents is_lent false level (Memory node (Some slot)) n freed is held =
    subst (λ (m : Node). IsReadAt contents is_lent level (Slot slot None) m) (same_Some node.value n freed) (is, λ not_lent. held_at contents level node slot held)
freed_read contents is_lent b level (Memory node None) n freed is held = absurd (none-some n freed)
freed_read contents is_lent b level (Slot slot copy) n freed is held = absurd (none-some n freed)

held_in : (contents : Option Image) (o : Option Spot) (s : Spot) → o ≡ Some s → IfSome contents (λ image. IfSpot (λ t. IsHeldAt image t.level t.place) o) → IfSome contents (λ image. IsHeldAt image s.level s.place)
held_in None o s is held = tt
held_in (Some image) o s is held = subst (λ (x : Option Spot). IfSpot (λ t. IsHeldAt image t.level t.place) x) is held

module _ (id : ℕ) (is_root : Bool) (mid last : Spots) (step : IsMovedAt id (stored_at is_root) mid last) where
  pub settled_placed : ArePlaced mid → ArePlaced last
  settled_placed placed = λ i s e. elim (cases_eq i id) [
    | inl same ↦ subst (λ (x : Spot). IfSome (copy_at x.place) (IsOfLevel x.level)) (same_Some (record step.was { place = stored_at is_root step.was.place }) s (sym step.here ∙ ap last (sym same) ∙ e))
        (stored_level is_root step.was.level step.was.place (placed id step.was step.there))
    | inr other ↦ placed i s (sym (step.others i other) ∙ e)
  ]

  pub settled_cached : (contents : Option Image) (is_lent : Bool) (cache later : NodeCache) → IsCachedMore id (freed_in is_root (mid id)) cache later → ArePlaced mid → IfSome contents (λ image. IfSpot (λ s. IsHeldAt image s.level s.place) (mid id))
      → AreCached contents is_lent mid cache → AreCached contents is_lent last later
  settled_cached contents is_lent cache later more placed held cached = λ i n kept. elim (more i n kept) [
    | inl before ↦ elim (cases_eq i id) [
      | inl same ↦ subst (λ (o : Option Spot). IsRead contents is_lent o n) (sym (ap last same ∙ step.here))
          (stored_read contents is_lent is_root step.was.level step.was.place n (subst (λ (o : Option Spot). IsRead contents is_lent o n) (ap mid same ∙ step.there) (cached i n before)))
      | inr other ↦ subst (λ (o : Option Spot). IsRead contents is_lent o n) (sym (step.others i other)) (cached i n before)
    ]
    | inr now ↦ subst (λ (o : Option Spot). IsRead contents is_lent o n) (sym (ap last now.0 ∙ step.here))
        (freed_read contents is_lent is_root step.was.level step.was.place n (sym (ap (freed_in is_root) step.there) ∙ now.1) (placed id step.was step.there) (held_in contents (mid id) step.was step.there held))
  ]

-- ---- what is read, once it got a slot

module _ (id : ℕ) (spots : Spots) (free : List Bool) (mid : Spots) (after : List Bool) (h : IsReservedAt id spots free mid after) (memory : IsTrue (is_in_memory (spots id))) where
  pub reserved_placed : {D : Type 0} (g : Ghosts D) (spare : List Bool) (d : D) → ArePlaced spots → ArePlaced mid
  reserved_placed g spare d placed = λ i s e. elim (cases_eq i id) [
    | inl same ↦
        let less : IsLess g spare id id d (record { refs = h.was.refs; level = h.was.level; place = h.was.place }) (record { refs = h.now.refs; level = h.now.level; place = h.now.place }) =
        reserved_less g spare id id d h.was.refs h.now.refs h.was.level h.now.level h.was.place h.now.place free after h.reserved.refs h.reserved.level h.reserved.place in
        let node : IfSome (copy_at h.now.place) (IsOfLevel h.now.level) =
        subst (λ (o : Option Node). IfSome o (IsOfLevel h.now.level)) (sym (less.copy refl)) (subst (λ (l : ℕ). IfSome (copy_at h.was.place) (IsOfLevel l)) (sym h.reserved.level) (placed id h.was h.there)) in
        subst (λ (x : Spot). IfSome (copy_at x.place) (IsOfLevel x.level)) (same_Some h.now s (sym h.here ∙ ap mid (sym same) ∙ e)) node
    | inr other ↦ placed i s (sym (h.others i other) ∙ e)
  ]

  unread : (contents : Option Image) (is_lent : Bool) (level : ℕ) (p : Place) (n : Node) → IsTrue (is_in_memory_at p) → IsReadAt contents is_lent level p n → ⊥
  unread contents is_lent level (Memory node slot) n on read = read
  unread contents is_lent level (Slot slot copy) n on read = (let e : false ≡ true = on in cc)

  pub reserved_cached : (contents : Option Image) (is_lent : Bool) (cache : NodeCache) → AreCached contents is_lent spots cache → AreCached contents is_lent mid cache
  reserved_cached contents is_lent cache cached = λ i n kept. elim (cases_eq i id) [
    | inl same ↦ absurd (unread contents is_lent h.was.level h.was.place n (subst (λ (o : Option Spot). IsTrue (is_in_memory o)) h.there memory)
        (subst (λ (o : Option Spot). IsRead contents is_lent o n) (ap spots same ∙ h.there) (cached i n kept)))
    | inr other ↦ subst (λ (o : Option Spot). IsRead contents is_lent o n) (sym (h.others i other)) (cached i n kept)
  ]

-- ---- several, one after the other

-- a node in memory, where some are counted
pub some_memory : (next : ℕ) (spots : Spots) (u : Usage) → IsTallied next spots u → 1 ≤ u.in_memory → (id : ℕ) × IsTrue (is_in_memory (spots id))
some_memory next spots u tallied some =
    let found = sum_some next (λ i. flag (is_in_memory (spots i))) (omega (arith, some, tallied.counted.in_memory)) in
    (found.0, flag_on (is_in_memory (spots found.0)) found.2)
  where
    flag_on : (b : Bool) → 1 ≤ flag b → IsTrue b
    flag_on true on = refl
    flag_on false on = absurd (omega (arith, on))

-- the earliest of them is one
pub earliest_memory : (root id other : ℕ) (spots : Spots) → IsEarliest root spots id → IsTrue (is_in_memory (spots other)) → IsTrue (is_in_memory (spots id))
earliest_memory root id other spots h on = elim (cases_eq id root) [
  | inl is_root ↦ elim (cases_eq other id) [
    | inl same ↦ subst (λ (k : ℕ). IsTrue (is_in_memory (spots k))) same on
    | inr apart ↦ absurd ((h.first other on apart).0 is_root)
  ]
  | inr apart ↦ h.memory apart
]

pub by_memory : (b : Bool) → (b ≡ true) ⊎ (b ≡ false)
by_memory true = inl refl
by_memory false = inr refl

before_at : (root : ℕ) (spots mid : Spots) → ((i : ℕ) → level_in (mid i) ≡ level_in (spots i)) → (i j : ℕ) → IsBefore root mid i j → IsBefore root spots i j
before_at root spots mid level i j is = (
  is.0,
  elim is.1 [
    | inl last ↦ inl last
    | inr next ↦ inr (elim next [
      | inl lower ↦ inl (omega (arith, lower, level i, level j))
      | inr same ↦ inr (sym (level i) ∙ same.0 ∙ level j, same.1)
    ])
  ],
)

-- what left memory so far came before what is there, and so does one more
pub earlier_then : (root id : ℕ) (before mid after : Spots) → ((i : ℕ) → level_in (mid i) ≡ level_in (before i)) → AreEarlier root before mid → IsEarliest root mid id → ((i : ℕ) → i ≢ id → is_in_memory (after i) ≡ is_in_memory (mid i))
    → ((i : ℕ) → IsTrue (is_in_memory (after i)) → IsTrue (is_in_memory (mid i))) → AreEarlier root before after
earlier_then root id before mid after level so_far first others less = λ i j was gone on.
    elim (by_memory (is_in_memory (mid i))) [
      | inl here ↦ elim (cases_eq i id) [
        | inl same ↦ elim (cases_eq j id) [
          | inl also ↦ absurd (true≢false (sym on ∙ ap (λ (k : ℕ). is_in_memory (after k)) (also ∙ sym same) ∙ gone))
          | inr apart ↦ subst (λ (k : ℕ). IsBefore root before k j) (sym same) (before_at root before mid level id j (first.first j (less j on) apart))
        ]
        | inr apart ↦ absurd (true≢false (sym here ∙ sym (others i apart) ∙ gone))
      ]
      | inr left ↦ so_far i j was left (less j on)
    ]

-- the first of them is still the first where it stays
pub earliest_still : (root id : ℕ) (mid after : Spots) → ((i : ℕ) → level_in (after i) ≡ level_in (mid i)) → ((i : ℕ) → IsTrue (is_in_memory (after i)) → IsTrue (is_in_memory (mid i)))
    → IsTrue (is_in_memory (after id)) → IsEarliest root mid id → IsEarliest root after id
earliest_still root id mid after level less still h = record {
  memory = λ apart. still;
  first = λ other on apart. before_at root after mid (λ i. sym (level i)) id other (h.first other (less other on) apart);
}

-- a slot that was written is still that of a node that has left memory
pub moved_still : (before mid after : Spots) → ((i : ℕ) → IsTrue (is_in_memory (after i)) → IsTrue (is_in_memory (mid i))) → ((i slot : ℕ) → slot_in (mid i) ≡ Some slot → slot_in (after i) ≡ Some slot)
    → (b : ℕ) → IsOfMoved before mid b → IsOfMoved before after b
moved_still before mid after less slots b h = record {
  id = h.id;
  was = h.was;
  gone = elim (by_memory (is_in_memory (after h.id))) [
    | inl on ↦ absurd (true≢false (sym (less h.id on) ∙ h.gone))
    | inr off ↦ off
  ];
  block = record { slot = h.block.slot; there = slots h.id h.block.slot h.block.there; block = h.block.block };
}

-- where other ids are listed
pub relisted : (next : ℕ) (spots : Spots) (u : Usage) (listed : BTreeSet ℕ) → IsTallied next spots u → AreListed spots listed → IsTallied next spots (record u { listed = listed })
relisted next spots u listed was now = record {
  unused = was.unused;
  counted = record { fits = was.counted.fits; changed = was.counted.changed; in_memory = was.counted.in_memory; free = was.counted.free };
  listed = now;
}

-- none is free where the count is 0
pub none_free : (flags : List Bool) (slot : ℕ) → free_count flags ≡ 0 → ¬ IsFree flags slot
none_free flags slot none free = omega (arith, none, flag_count flags slot true false free)
