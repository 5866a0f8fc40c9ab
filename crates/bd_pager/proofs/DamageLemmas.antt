-- Which slots have good nodes, and why calls name damage.
use Rattle.std.proofs.Common.{◌≡◌, ◌≢◌, ℕ, ◌+◌, ◌<◌, ◌≤◌, Bool, true, false, IsTrue, List, [], ◌∷◌, ◌++◌, length, take, drop, get_or, Option, None, Some, IfSome, Err, nat_eq, inl, inr, refl, sym, ap, subst, ◌∙◌, arith}
use Rattle.std.specs.Prelude.{◌↔◌, Contains}
use Rattle.std.specs.Bool.{MatchBool}
use Rattle.std.specs.List.{AllByRecursion}
use Rattle.std.specs.Map.{lookup}
use Rattle.std.specs.Option.{option_map}
use Rattle.std.proofs.lemmas.Bool.{false≢true}
use Rattle.std.proofs.lemmas.List.{take_more, take-append-drop, get_or_default}
use Rattle.std.proofs.lemmas.List.Elements.{recursion_from_All, Contains-append_right}
use Rattle.std.proofs.lemmas.Option.{IfSome_then}
use Rattle.bd_message.specs.KeyMaps.{HasMapCause, IsCause, NeverWorn, StaysUnlessDevice}
use Rattle.bd_message.specs.declared.fault.Counter.{Counter}
use Rattle.bd_message.specs.declared.fault.MapFault.{MapFault}
use Rattle.bd_message.proofs.Causes.{cause_after}
use Rattle.bd_slots.specs.Slots.{IsHeld}
use Rattle.bd_cache.specs.Cache.{room_of}
use Rattle.bd_device.specs.Blocks.{Image}
use Rattle.bd_device.specs.Changes.{StaysBut}
use Rattle.bd_device.specs.Device.{OnlyReads}
use Rattle.bd_device.specs.declared.device.Device.{Ghosts}
use Rattle.bd_format.specs.Images.{IsImage}
use Rattle.bd_format.specs.Slots.{HasNode, IsLowerLevel, HasNoGoodNode}
use Rattle.bd_node.specs.declared.node.Node.{Node}
use Rattle.bd_node.specs.Nodes.{level_of, names}
use Rattle.bd_node.specs.Meaning.{Nodes}
use Rattle.bd_node.specs.Shape.{IsShape}
use Rattle.bd_node.specs.Tables.{Table, IsSound}
use Rattle.bd_node.proofs.Lookup.{each_weaker}
use Rattle.bd_counts.proofs.Causes.{fault_wider}
use Rattle.bd_counts.proofs.Loops.{dropped_at}
use Rattle.bd_table.specs.Entries.{entry_of, level_at}
use Rattle.bd_table.specs.Tables.{slots_of}
use Rattle.bd_table.specs.declared.table.Table.{Table as Checkpoint}
use Rattle.bd_table.specs.declared.table.TableEntry.{TableEntry}
use Rattle.bd_table.proofs.EntryLemmas.{entry_found, no_entry}
use Rattle.bd_tails.specs.Tails.{slot_bytes}
use Rattle.bd_pager.specs.declared.place.Spot.{Spot}
use Rattle.bd_pager.specs.declared.reader.NodeReader.{NodeReader}
use Rattle.bd_pager.specs.declared.written.Written.{Written}
use Rattle.bd_pager.specs.Calling.{read_table}
use Rattle.bd_pager.specs.Causes.{is_bad_by}
use Rattle.bd_pager.specs.Damage.{AreSavedEntries, HasGoodNode, IsFirstBad, IsFirstDamaged}
use Rattle.bd_pager.specs.Entries.{saved_spot, AreSavedSpots}
use Rattle.bd_pager.specs.Keeping.{KeepsSaved}
use Rattle.bd_pager.specs.Pagers.{Paged, spots_of, nodes_of, table_of, is_known, is_bad, is_first_damaged, IsKnownOver, IsPaged, IsReadOf, seen}
use Rattle.bd_pager.specs.Places.{Spots, refs_in, level_in, nodes_at, IsLowerIn}
use Rattle.bd_pager.specs.Slots.{HasNoNode, IsSpare}
use Rattle.bd_pager.proofs.FlagLemmas.{taken_held, entry_slot}
use Rattle.bd_pager.proofs.NamingLemmas.{all_both, all_first, all_second}
use Rattle.bd_pager.proofs.OpenedLemmas.{of_all, search_id}
use Rattle.bd_pager.proofs.PagerLemmas.{same_entries}
use Rattle.bd_pager.proofs.SlotLemmas.{held_same}
use Rattle.bd_pager.proofs.StepsLemmas.{OnlyReadsOf}

-- ---- levels

lower_to : (level : ℕ) (o : Option TableEntry) → (1 ≤ refs_in (option_map saved_spot o)) × (level_in (option_map saved_spot o) < level) → IsLowerLevel level (option_map (λ e. e.level) o)
lower_to level None h = absurd (omega (arith, h.0))
lower_to level (Some e) h = h.1

lower_from : (level : ℕ) (o : Option TableEntry) → IfSome o (λ e. 1 ≤ e.refs) → IsLowerLevel level (option_map (λ e. e.level) o) → (1 ≤ refs_in (option_map saved_spot o)) × (level_in (option_map saved_spot o) < level)
lower_from level None named h = absurd h
lower_from level (Some e) named h = (named, h)

module _ (entries : List TableEntry) (spots : Spots) (are : AreSavedEntries entries) (saved : AreSavedSpots entries spots) where
  -- what is known of an id is what its entry says
  by_entry : (c : ℕ) → (spots c ≡ option_map saved_spot (entry_of entries c)) × IfSome (entry_of entries c) (λ e. 1 ≤ e.refs)
  by_entry c = elim (search_id entries c) [
    | inl none ↦
        let gone : entry_of entries c ≡ None = no_entry entries c (recursion_from_All (λ (e : TableEntry). e.id ≢ c) entries none) in (
          saved.others c none ∙ sym (ap (option_map saved_spot) gone),
          subst (λ (o : Option TableEntry). IfSome o (λ e. 1 ≤ e.refs)) (sym gone) tt,
        )
    | inr found ↦
        let e : TableEntry = found.0 in
        let there : entry_of entries c ≡ Some e = ap (entry_of entries) (sym found.2) ∙ entry_found entries e are.rising found.1 in
        let spot : spots e.id ≡ Some (saved_spot e) = of_all (λ (x : TableEntry). spots x.id ≡ Some (saved_spot x)) entries e saved.there found.1 in (
          ap spots (sym found.2) ∙ spot ∙ sym (ap (option_map saved_spot) there),
          subst (λ (o : Option TableEntry). IfSome o (λ x. 1 ≤ x.refs)) (sym there) (of_all (λ (x : TableEntry). 1 ≤ x.refs) entries e are.named found.1),
        )
  ]

  to_level : (level c : ℕ) → IsLowerIn spots level c → IsLowerLevel level (level_at entries c)
  to_level level c h = lower_to level (entry_of entries c) (subst (λ (o : Option Spot). (1 ≤ refs_in o) × (level_in o < level)) (by_entry c).0 h)

  from_level : (level c : ℕ) → IsLowerLevel level (level_at entries c) → IsLowerIn spots level c
  from_level level c h = subst (λ (o : Option Spot). (1 ≤ refs_in o) × (level_in o < level)) (sym (by_entry c).0) (lower_from level (entry_of entries c) (by_entry c).1 h)

  -- ---- a slot

  -- the node that it has names nodes of lower levels alone, or not
  pub good_or_not : (contents : Option Image) (e : TableEntry) (node : Node) (b : Bool) → ((m n : Node) (bytes : List ℕ) → IsShape m → IsShape n → IsImage m bytes → IsImage n bytes → m ≡ n)
      → IfSome contents (λ image. HasNode image e.slot e.level node) → IsTrue b ↔ AllByRecursion (IsLowerIn spots (level_of node)) (names node)
      → IfSome contents (λ image. MatchBool b (HasGoodNode image entries e) (HasNoGoodNode image (level_at entries) e.slot e.level))
  good_or_not None e node b one held lower = tt
  good_or_not (Some image) e node true one held lower = (
    node,
    record {
      held = held;
      lower = each_weaker (IsLowerIn spots (level_of node)) (λ c. IsLowerLevel e.level (level_at entries c))
          (λ c h. subst (λ (l : ℕ). IsLowerLevel l (level_at entries c)) held.level_is (to_level (level_of node) c h)) (names node) (lower.0 refl);
    },
  )
  good_or_not (Some image) e node false one held lower = λ n good.
      let same : n ≡ node = one n node (slot_bytes image e.slot) good.held.shape held.shape good.held.image_is held.image_is in
      let low : AllByRecursion (λ c. IsLowerLevel e.level (level_at entries c)) (names node) = subst (λ (m : Node). AllByRecursion (λ c. IsLowerLevel e.level (level_at entries c)) (names m)) same good.lower in
      false≢true (lower.1 (each_weaker (λ c. IsLowerLevel e.level (level_at entries c)) (IsLowerIn spots (level_of node))
      (λ c h. subst (λ (l : ℕ). IsLowerIn spots l c) (sym held.level_is) (from_level e.level c h)) (names node) low))

-- it has no node at all
pub none_good : (contents : Option Image) (entries : List TableEntry) (e : TableEntry) → IfSome contents (λ image. HasNoNode image e.slot e.level) → IfSome contents (λ image. HasNoGoodNode image (level_at entries) e.slot e.level)
none_good contents entries e none = IfSome_then contents none (λ image no n good. no n good.held)

-- ---- one entry after the other

pub is_good : (contents : Option Image) (entries : List TableEntry) (e : TableEntry) (b : Bool) → b ≡ true → IfSome contents (λ image. MatchBool b (HasGoodNode image entries e) (HasNoGoodNode image (level_at entries) e.slot e.level))
    → IfSome contents (λ image. HasGoodNode image entries e)
is_good contents entries e b is h = subst (λ (x : Bool). IfSome contents (λ image. MatchBool x (HasGoodNode image entries e) (HasNoGoodNode image (level_at entries) e.slot e.level))) is h

pub is_none : (contents : Option Image) (entries : List TableEntry) (e : TableEntry) (b : Bool) → b ≡ false → IfSome contents (λ image. MatchBool b (HasGoodNode image entries e) (HasNoGoodNode image (level_at entries) e.slot e.level))
    → IfSome contents (λ image. HasNoGoodNode image (level_at entries) e.slot e.level)
is_none contents entries e b is h = subst (λ (x : Bool). IfSome contents (λ image. MatchBool x (HasGoodNode image entries e) (HasNoGoodNode image (level_at entries) e.slot e.level))) is h

pub good_more : (contents : Option Image) (entries : List TableEntry) (i : ℕ) (d : TableEntry) → i < length entries → IfSome contents (λ image. AllByRecursion (HasGoodNode image entries) (take i entries))
    → IfSome contents (λ image. HasGoodNode image entries (get_or entries i d)) → IfSome contents (λ image. AllByRecursion (HasGoodNode image entries) (take (i + 1) entries))
good_more None entries i d lt was now = tt
good_more (Some image) entries i d lt was now =
    subst (λ (es : List TableEntry). AllByRecursion (HasGoodNode image entries) es) (sym (take_more entries i d lt))
    (all_both (HasGoodNode image entries) (take i entries) (get_or entries i d ∷ []) was (now, tt))

pub first_bad : (contents : Option Image) (entries : List TableEntry) (i : ℕ) (d : TableEntry) → i < length entries → IfSome contents (λ image. AllByRecursion (HasGoodNode image entries) (take i entries))
    → IfSome contents (λ image. HasNoGoodNode image (level_at entries) (get_or entries i d).slot (get_or entries i d).level) → IsFirstBad contents entries (get_or entries i d)
first_bad contents entries i d lt was bad =
    let e : TableEntry = get_or entries i d in
    record {
      front = take i entries;
      rest = drop (i + 1) entries;
      there = sym (take-append-drop i entries) ∙ ap (λ (es : List TableEntry). take i entries ++ es) (dropped_at entries i e lt (get_or_default entries i d e lt));
      good = was;
      bad = bad;
    }

-- ---- what stays

module _ (old new : Image) (entries : List TableEntry) where
  -- the slot has the bytes of before
  abbrev IsSame : TableEntry → Type 0
  IsSame e = slot_bytes new e.slot ≡ slot_bytes old e.slot

  good_before : (e : TableEntry) → IsSame e → HasGoodNode new entries e → HasGoodNode old entries e
  good_before e same good =
      let held : HasNode new e.slot e.level good.0 = good.1.held in
      (good.0, record { held = record { shape = held.shape; level_is = held.level_is; image_is = subst (IsImage good.0) same held.image_is }; lower = good.1.lower })

  none_before : (e : TableEntry) → IsSame e → HasNoGoodNode new (level_at entries) e.slot e.level → HasNoGoodNode old (level_at entries) e.slot e.level
  none_before e same none n good =
      let held : HasNode old e.slot e.level n = good.held in
      none n (record { held = record { shape = held.shape; level_is = held.level_is; image_is = subst (IsImage n) (sym same) held.image_is }; lower = good.lower })

  all_before : (es : List TableEntry) → AllByRecursion IsSame es → AllByRecursion (HasGoodNode new entries) es → AllByRecursion (HasGoodNode old entries) es
  all_before [] same good = tt
  all_before (e ∷ es) same good = (good_before e same.0 good.0, all_before es same.1 good.1)

  first_same : (at : List ℕ) (b : ℕ) → AllByRecursion IsSame entries → IsFirstDamaged (Some new) entries at b → IsFirstDamaged (Some old) entries at b
  first_same at b same (inl (e, is, first)) =
      let each : AllByRecursion IsSame (first.front ++ e ∷ first.rest) = subst (λ (es : List TableEntry). AllByRecursion IsSame es) first.there same in
      inl (
        e,
        is,
        record {
          front = first.front;
          rest = first.rest;
          there = first.there;
          good = all_before first.front (all_first IsSame first.front (e ∷ first.rest) each) first.good;
          bad = none_before e (all_second IsSame first.front (e ∷ first.rest) each).0 first.bad;
        },
      )
  first_same at b same (inr (is, good)) = inr (is, all_before entries same good)

-- the slots of the last checkpoint's nodes are held
entries_held : {D : Type 0} (contents : Option Image) (p : Paged D) → IsPaged contents p → (e : TableEntry) → Contains p.saved.entries e → IsHeld p.spare e.slot
entries_held contents p paged e among =
    let taken : Contains (p.at ++ slots_of p.saved.entries) e.slot = Contains-append_right p.at (slots_of p.saved.entries) e.slot (entry_slot p.saved.entries e among) in
    let low : e.slot < length p.spare = of_all (λ (s : ℕ). s < length p.spare) (p.at ++ slots_of p.saved.entries) e.slot paged.held.below taken in
    taken_held (length p.spare) (p.at ++ slots_of p.saved.entries) p.spare e.slot paged.spare low taken

-- the block that is damaged is the one of before where only spare slots change
pub first_stays : {D : Type 0} (contents before now : Option Image) (p : Paged D) → IsPaged contents p → StaysBut (IsSpare p.spare) before now → (b : ℕ) → IsFirstDamaged now p.saved.entries p.at b → IsFirstDamaged before p.saved.entries p.at b
first_stays contents None None p paged stays b h = h
first_stays contents (Some old) (Some new) p paged stays b h =
    first_same old new p.saved.entries p.at b
    (recursion_from_All (λ (e : TableEntry). slot_bytes new e.slot ≡ slot_bytes old e.slot) p.saved.entries
    (λ k d lt. held_same p.spare old new stays (get_or p.saved.entries k d).slot
    (entries_held contents p paged (get_or p.saved.entries k d) (k, lt, get_or_default p.saved.entries k (get_or p.saved.entries k d) d lt))))
    h
first_stays contents None (Some new) p paged stays b h = absurd stays
first_stays contents (Some old) None p paged stays b h = absurd stays

-- and where nothing is written
pub first_kept : {D : Type 0} (g : Ghosts D) (old new : Paged D) → KeepsSaved g old new → (b : ℕ) → is_first_damaged g new b → is_first_damaged g old b
first_kept g old new k b h =
    subst (λ (o : Option Image). IsFirstDamaged o old.saved.entries old.at b) k.device.kept
    (subst (λ (l : List ℕ). IsFirstDamaged (g.contents new.dev) old.saved.entries l b) k.at
    (subst (λ (t : Checkpoint). IsFirstDamaged (g.contents new.dev) t.entries new.at b) k.saved h))

-- ---- causes

module _ {D : Type 0} (g : Ghosts D) (p : Paged D) where
  -- what a call names as damaged is bad
  pub by_is_bad : (reads : ℕ → Type 0) (shown : Type 0) (b : ℕ) → is_bad_by g p reads shown b → is_bad g p b
  by_is_bad reads shown b h = λ known. elim (h known) [
    | inl spot ↦ inl (spot.0, spot.2)
    | inr first ↦ inr (first.0, first.2)
  ]

  -- it has shown that the nodes aren't sound
  pub shown_cause : {T : Type 0} (before mid : ℕ) (reads : ℕ → Type 0) (shown : Type 0) (worn : Counter → Type 0) (fault : MapFault) → mid ≡ before → mid ≤ g.fault_count p.dev → StaysUnlessDevice mid (g.fault_count p.dev) fault
      → IsCause mid (g.fault_count p.dev) (g.last_failed p.dev) (is_first_damaged g p) NeverWorn fault → (is_known g p → shown × ¬ IsSound (nodes_of g p) (table_of p))
      → HasMapCause {T = T} before (g.fault_count p.dev) (g.last_failed p.dev) (is_bad_by g p reads shown) worn (Err fault)
  shown_cause {T} before mid reads shown worn fault same later stays cause is =
      let found : HasMapCause {T = T} mid (g.fault_count p.dev) (g.last_failed p.dev) (is_first_damaged g p) NeverWorn (Err fault) = record { later = later; kept = tt; stays = stays; failed = cause } in
      cause_after before mid (g.fault_count p.dev) (g.last_failed p.dev) (is_bad_by g p reads shown) worn (Err fault) same
      (fault_wider mid (g.fault_count p.dev) (g.last_failed p.dev) (is_first_damaged g p) (is_bad_by g p reads shown) NeverWorn worn (λ b h known. let s = is known in inr (h, s.0, s.1)) (λ k never. absurd never) fault found)

-- ---- reads

-- reads by a reader are those of its pager
pub reader_reads : {D : Type 0} (g : Ghosts D) (old new : NodeReader D) (saved : Checkpoint) (at : List ℕ) (spare : List Bool) (root size next before after : ℕ) (written : Option Written) → new.spots ≡ old.spots
    → OnlyReads g old.dev new.dev → (old.is_lent ≡ false → new.is_lent ≡ false) → room_of new.cache ≡ room_of old.cache → OnlyReadsOf g (seen old saved at spare root size next before written) (seen new saved at spare root size next after written)
reader_reads {D} g old new saved at spare root size next before after written same device lent room =
    let p : Paged D = seen old saved at spare root size next before written in
    let q : Paged D = seen new saved at spare root size next after written in
    let spots : spots_of q ≡ spots_of p = λ j id. lookup (nat_eq id) (same_entries new.spots old.spots same j) in
    let read : IsReadOf g p q = record { device = device; lent = lent; spots = spots; room = room; rest = refl } in
    record {
      table = read_table g p q read;
      known = λ known. subst (λ (s : Spots). IsKnownOver (g.contents q.dev) s) (sym spots) (subst (λ (o : Option Image). IsKnownOver o (spots_of p)) (sym device.kept) known);
      kept = λ known j. nodes_at (device.kept j) (spots j);
      read = read;
      same_loans = refl;
    }

-- what nodes and their table are after reads they were before, and the other way round
module _ {D : Type 0} (g : Ghosts D) (old new : Paged D) (left : OnlyReadsOf g old new) (P : Nodes → Table → Type 0) (known : is_known g old) where
  pub reads_before : P (nodes_of g new) (table_of new) → P (nodes_of g old) (table_of old)
  reads_before h = subst (λ (n : Nodes). P n (table_of old)) (left.kept known) (subst (λ (t : Table). P (nodes_of g new) t) left.table h)

  pub reads_later : P (nodes_of g old) (table_of old) → P (nodes_of g new) (table_of new)
  reads_later h = subst (λ (t : Table). P (nodes_of g new) t) (sym left.table) (subst (λ (n : Nodes). P n (table_of old)) (sym (left.kept known)) h)
