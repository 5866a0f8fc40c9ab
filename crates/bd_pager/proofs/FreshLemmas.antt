-- A new pager.
use Rattle.std.proofs.Common.{◌≡◌, ◌≢◌, ℕ, ◌+◌, ◌-◌, ◌<◌, Bool, true, false, cond, eqb, is_some, List, [], ◌++◌, length, replicate, get_or, Option, None, Some, IfSome, refl, sym, ap, subst, ◌∙◌, arith, inl, inr, nat_eq}
use Rattle.std.specs.Prelude.{All}
use Rattle.std.specs.HashMap.{HashMap, get, Updates}
use Rattle.std.specs.Global.{Global}
use Rattle.std.specs.Map.{lookup}
use Rattle.std.specs.declared.rc.Rc.{Rc}
use Rattle.std.proofs.lemmas.Bool.{cases_eq, cond-false, ne_eqb}
use Rattle.std.proofs.lemmas.List.{get_or-replicate, length-replicate}
use Rattle.std.proofs.lemmas.Option.{none-some, same_Some, slice_get-get_or}
use Rattle.bd_slots.specs.Layout.{AreSlots}
use Rattle.bd_slots.specs.Slots.{IsFree, free_count}
use Rattle.bd_device.specs.Blocks.{Image}
use Rattle.bd_cache.specs.Cache.{kept_at}
use Rattle.bd_node.specs.declared.node.Node.{Node}
use Rattle.bd_node.specs.Nodes.{height_of}
use Rattle.bd_node.specs.Shape.{IsShape}
use Rattle.bd_node.specs.Tables.{Table, IsTable, sum_below, one_if, references}
use Rattle.bd_node.specs.New.{new_root, new_nodes, new_table}
use Rattle.bd_node.proofs.Sound.{one_if-same, one_if-other}
use Rattle.bd_node.proofs.LawLemmas.{new_sound}
use Rattle.bd_table.specs.Tables.{slots_of}
use Rattle.bd_table.specs.declared.table.TableEntry.{TableEntry}
use Rattle.bd_tails.specs.Tails.{AreTailsAt}
use Rattle.bd_tails.proofs.Known.{none_known}
use Rattle.bd_pager.specs.declared.place.Place.{Place}
use Rattle.bd_pager.specs.declared.place.Place.TheVariants.{Memory, Slot}
use Rattle.bd_pager.specs.declared.place.Spot.{Spot}
use Rattle.bd_pager.specs.declared.usage.Usage.{Usage}
use Rattle.bd_pager.specs.declared.written.Written.{Written}
use Rattle.bd_pager.specs.Changing.{own_slot}
use Rattle.bd_pager.specs.Counting.{AreUnused, is_in_memory, is_in_memory_at, has_own, spot_count, IsListed, IsTallied}
use Rattle.bd_pager.specs.Slots.{IsOfLevel}
use Rattle.bd_pager.specs.Places.{Spots, spots_in, refs_in, level_in, slot_at, slot_in, copy_at, copy_in, node_at, node_of, told, nodes_at}
use Rattle.bd_pager.specs.Pagers.{Paged, spots_of, table_at, is_saved, is_changed, is_changed_place, touched_at, IsRightPlace, IsOfSize, IsPlaceIn, IsStoredAs, IsReady, IsPaged}
use Rattle.bd_pager.specs.Fresh.{AreFreshSpots, IsFreshUsage}
use Rattle.bd_pager.proofs.CountingLemmas.{count_two}

-- ---- a map of the root alone

empty_get : {S : Type 0} (m : HashMap ℕ Spot S) → m.entries ≡ [] → (q : ℕ) → get nat_eq m q ≡ None
empty_get m empty q = ap (λ (es : List (ℕ × Spot)). lookup (nat_eq q) es) empty

pub fresh_spots : {S : Type 0} (start m : HashMap ℕ Spot S) (s : Spot) (node : Rc Node Global) → start.entries ≡ [] → Updates nat_eq start m 1 (Some s) → s.refs ≡ 1 → s.level ≡ 1 → s.place ≡ Memory node None
    → node.value ≡ new_root → AreFreshSpots (spots_in m)
fresh_spots start m s node empty updates refs level place new = record {
  root = s;
  there = updates.1;
  others = λ id other. updates.2 id (ne_eqb 1 id (λ e. other (sym e))) ∙ empty_get start empty id;
  refs = refs;
  level = level;
  node = node;
  place = place;
  new = new;
}

-- ---- its nodes and its table

pub copy_at_place : (image : Image) (p : Place) (n : Node) → copy_at p ≡ Some n → node_at image p ≡ Some n
copy_at_place image (Memory node slot) n e = e
copy_at_place image (Slot slot None) n e = absurd (none-some n e)
copy_at_place image (Slot slot (Some node)) n e = e

new_none : (q : ℕ) → q ≢ 1 → new_nodes q ≡ None
new_none q other = cond-false (eqb q 1) (Some new_root) None (ne_eqb q 1 other)

no_references : (c : ℕ) → references new_nodes 2 1 c ≡ one_if 1 c
unfolding sum_below
no_references c = omega arith

module _ (spots : Spots) (h : AreFreshSpots spots) where
  root_copy : copy_at h.root.place ≡ Some new_root
  root_copy = ap copy_at h.place ∙ ap Some h.new

  each : {X : Type 0} (F : Option Spot → X) (f : ℕ → X) → F (Some h.root) ≡ f 1 → ((q : ℕ) → q ≢ 1 → F None ≡ f q) → (q : ℕ) → F (spots q) ≡ f q
  each {X} F f one none q = elim (cases_eq q 1) [
    | inl same ↦ subst (λ (k : ℕ). F (spots k) ≡ f k) (sym same) (ap F h.there ∙ one)
    | inr other ↦ ap F (h.others q other) ∙ none q other
  ]

  -- the root is all that is kept
  fresh_only : (id : ℕ) (s : Spot) → spots id ≡ Some s → s ≡ h.root
  fresh_only id s there = elim (cases_eq id 1) [
    | inl same ↦ same_Some s h.root (sym there ∙ ap spots same ∙ h.there)
    | inr other ↦ absurd (none-some s (sym (h.others id other) ∙ there))
  ]

  pub fresh_nodes : (contents : Option Image) → nodes_at contents spots ≡ new_nodes
  fresh_nodes contents = λ i id.
      (let all : (q : ℕ) → nodes_at contents spots q ≡ new_nodes q =
      each (node_of (told contents)) new_nodes (copy_at_place (told contents) h.root.place new_root root_copy) (λ q other. sym (new_none q other)) in all id) i

  fresh_counts : ◌≡◌ {A = ℕ → ℕ} (λ id. refs_in (spots id)) (references new_nodes 2 1)
  fresh_counts = λ i id.
      (let all : (q : ℕ) → refs_in (spots q) ≡ references new_nodes 2 1 q =
      each refs_in (references new_nodes 2 1) (h.refs ∙ sym (no_references 1 ∙ one_if-same 1)) (λ q other. sym (no_references q ∙ one_if-other 1 q (λ e. other (sym e)))) in all id) i

  fresh_levels : ◌≡◌ {A = ℕ → ℕ} (λ id. level_in (spots id)) (λ id. height_of (new_nodes id) - 1)
  fresh_levels = λ i id.
      (let all : (q : ℕ) → level_in (spots q) ≡ height_of (new_nodes q) - 1 =
      each level_in (λ q. height_of (new_nodes q) - 1) h.level (λ q other. sym (ap (λ (o : Option Node). height_of o - 1) (new_none q other))) in all id) i

  abbrev table_with : (ℕ → ℕ) → (ℕ → ℕ) → Table
  table_with counts levels = record { count = counts; level = levels; root = 1; size = 0; next = 2; touched = λ id. false }

  -- no slot has it
  pub fresh_right : (image : Image) (id : ℕ) (s : Spot) → spots id ≡ Some s → IsRightPlace image s.place
  fresh_right image id s there = subst (λ (p : Place). IsRightPlace image p) (sym (ap (λ (x : Spot). x.place) (fresh_only id s there) ∙ h.place)) tt

  pub fresh_table : (root size next : ℕ) (entries : List TableEntry) (spare : List Bool) → root ≡ 1 → size ≡ 0 → next ≡ 2 → entries ≡ []
      → table_at spots root size next (touched_at entries spare spots) ≡ new_table
  fresh_table root size next entries spare root_is size_is next_is none =
      ap (λ (r : ℕ). table_at spots r size next (touched_at entries spare spots)) root_is
      ∙ ap (λ (s : ℕ). table_at spots 1 s next (touched_at entries spare spots)) size_is
      ∙ ap (λ (n : ℕ). table_at spots 1 0 n (touched_at entries spare spots)) next_is
      ∙ ap (λ (es : List TableEntry). table_at spots 1 0 2 (touched_at es spare spots)) none
      ∙ ap (λ (c : ℕ → ℕ). table_with c (λ id. level_in (spots id))) fresh_counts
      ∙ ap (λ (l : ℕ → ℕ). table_with (references new_nodes 2 1) l) fresh_levels

  new_shape : IsShape new_root
  new_shape =
      let stored = new_sound.each 1 (omega (arith, no_references 1, one_if-same 1)) in
      subst IsShape (same_Some stored.node new_root (sym stored.there)) stored.of_table.shape

  root_placed : IfSome (copy_at h.root.place) (IsOfLevel h.root.level)
  root_placed = subst (λ (o : Option Node). IfSome o (IsOfLevel h.root.level)) (sym root_copy) (record { shape = new_shape; level_is = sym h.level })

  none : {X : Type 0} (F : Option Spot → X) (x : X) → F (Some h.root) ≡ x → F None ≡ x → (q : ℕ) → F (spots q) ≡ x
  none F x one no_spot q = each F (λ i. x) one (λ i other. no_spot) q

  -- ---- its slots and numbers

  no_slot : (q : ℕ) → slot_in (spots q) ≡ None
  no_slot q = none slot_in None (ap slot_at h.place) refl q

  fresh_unused : (spare free : List Bool) → free ≡ spare → AreUnused spare free spots
  fresh_unused spare free same = record {
    slots = λ id s there. subst (λ (p : Place). IsPlaceIn spare p) (sym (ap (λ (x : Spot). x.place) (fresh_only id s there) ∙ h.place)) tt;
    apart = λ id other slot one two. absurd (none-some slot (sym (no_slot id) ∙ one));
    count = ap length same;
    free_is = λ slot. (
      λ is. (subst (λ (f : List Bool). IsFree f slot) same is, λ id e. none-some slot (sym (no_slot id) ∙ e)),
      λ un. subst (λ (f : List Bool). IsFree f slot) (sym same) un.0,
    );
  }

  count_root : (test : Option Spot → Bool) (b : Bool) → test (Some h.root) ≡ b → test None ≡ false → spot_count test 2 spots ≡ cond b 1 0
  count_root test b one no_spot =
      count_two test spots
      ∙ ap (λ (x : Bool). cond x 1 0 + cond (test (spots 0)) 1 0) (ap test h.there ∙ one)
      ∙ ap (λ (x : Bool). cond b 1 0 + cond x 1 0) (ap test (h.others 0 (omega arith)) ∙ no_spot)
      ∙ omega arith

  pub fresh_tallied : (slots next : ℕ) (u : Usage) → IsFreshUsage slots u → next ≡ 2 → IsTallied next spots u
  fresh_tallied slots next u f next_is =
      let same : u.free ≡ u.spare = f.free ∙ sym f.spare in
      let two : IsTallied 2 spots u = record {
        unused = fresh_unused u.spare u.free same;
        counted = record {
          fits = omega arith;
          changed = f.changed ∙ sym (count_root (is_changed u.spare) true (ap (is_changed_place u.spare) h.place) refl);
          in_memory = f.in_memory ∙ sym (count_root is_in_memory true (ap is_in_memory_at h.place) refl);
          free = omega (arith, count_root (has_own u.spare) false (ap (λ (p : Place). is_some (own_slot u.spare p)) h.place) refl, ap free_count same);
        };
        listed = λ id on. elim (cases_eq id 1) [
          | inl one ↦ subst (λ (k : ℕ). IsListed u.listed k) (sym one) f.listed
          | inr other ↦ absurd (let e : false ≡ true = ap is_in_memory (sym (h.others id other)) ∙ on in cc)
        ];
      } in
      subst (λ (k : ℕ). IsTallied k spots u) (sym next_is) two

-- ---- what holds of it

none_taken : (taken : List ℕ) (slot : ℕ) → taken ≡ [] → All (λ other. other ≢ slot) taken
none_taken taken slot none = λ k d lt. absurd (omega (arith, lt, ap length none))

all_free : (spare : List Bool) (slots slot : ℕ) → spare ≡ replicate slots true → slot < length spare → IsFree spare slot
all_free spare slots slot all lt =
    let long : length spare ≡ slots = ap length all ∙ length-replicate {A = Bool} slots true in
    slice_get-get_or spare slot true lt ∙ ap Some (ap (λ (l : List Bool). get_or l slot true) all ∙ get_or-replicate slots slot true true (omega (arith, lt, long)))

no_slots : (slots : ℕ) (taken : List ℕ) → taken ≡ [] → AreSlots slots taken
no_slots slots taken none = record {
  below = λ k d lt. absurd (omega (arith, lt, ap length none));
  different = λ k j d lt last. absurd (omega (arith, last, ap length none));
}

pub fresh_paged : {D : Type 0} (contents : Option Image) (p : Paged D) (slots : ℕ) → AreFreshSpots (spots_of p) → p.root ≡ 1 → p.size ≡ 0 → p.next ≡ 2 → p.saved.entries ≡ [] → p.at ≡ []
    → p.spare ≡ replicate slots true → ((id : ℕ) → kept_at p.cache id ≡ None) → p.tails.used.items ≡ replicate slots 16 → p.written ≡ None → IsPaged contents p
fresh_paged contents p slots h root_is size_is next_is none at_none spare_is gone unknown unwritten =
    let spots : Spots = spots_of p in
    let no_taken : p.at ++ slots_of p.saved.entries ≡ [] =
    ap (λ (l : List ℕ). l ++ slots_of p.saved.entries) at_none ∙ ap (λ (es : List TableEntry). slots_of es) none in
    record {
      table = subst IsTable (sym (fresh_table spots h p.root p.size p.next p.saved.entries p.spare root_is size_is next_is none)) new_sound.table;
      used = λ id s there. omega (arith, ap (λ (x : Spot). x.refs) (fresh_only spots h id s there), h.refs);
      placed = λ id s there. subst (λ (x : Spot). IfSome (copy_at x.place) (IsOfLevel x.level)) (sym (fresh_only spots h id s there)) (root_placed spots h);
      root = subst (λ (o : Option Node). IsOfSize p.size o) (sym (ap (λ (r : ℕ). copy_in (spots r)) root_is ∙ ap copy_in h.there ∙ root_copy spots h)) (sym size_is);
      cached = λ id n kept. absurd (none-some n (sym (gone id) ∙ kept));
      levels = λ id s there. omega (arith, ap (λ (x : Spot). x.level) (fresh_only spots h id s there), h.level);
      held = no_slots (length p.spare) (p.at ++ slots_of p.saved.entries) no_taken;
      spare = record {
        count = refl;
        free = λ slot lt. (λ _. none_taken (p.at ++ slots_of p.saved.entries) slot no_taken, λ _. all_free p.spare slots slot spare_is lt);
      };
      slots = λ id s there. subst (λ (q : Place). IsPlaceIn p.spare q) (sym (ap (λ (x : Spot). x.place) (fresh_only spots h id s there) ∙ h.place)) tt;
      stored = λ id s there. subst (λ (x : Spot). IsStoredAs p.spare p.saved.entries id x.level x.place) (sym (fresh_only spots h id s there))
          (subst (λ (q : Place). IsStoredAs p.spare p.saved.entries id h.root.level q) (sym h.place) tt);
      saved = λ id saved. absurd (let e : false ≡ true = ap (λ (es : List TableEntry). is_saved es id) (sym none) ∙ saved in cc);
      entries = record { rising = λ i j d lt last. absurd (omega (arith, last, ap length none)); named = λ k d lt. absurd (omega (arith, lt, ap length none)) };
      tails = λ _. subst (λ (used : List ℕ). AreTailsAt contents used) (sym unknown) (none_known contents slots);
      ready = subst (λ (o : Option Written). IfSome o (IsReady p.spare spots p.root p.next)) (sym unwritten) tt;
    }
