-- A pager in whose root more messages wait.
use Rattle.std.proofs.Common.{◌≡◌, ℕ, ◌+◌, ◌≤◌, Bool, true, false, ◌&&◌, nat_eq, List, Option, None, Some, IfSome, refl, sym, ap, subst, ◌∙◌, arith, inl, inr, []}
use Rattle.std.specs.Prelude.{IsSome}
use Rattle.std.specs.List.{AllByRecursion, sum_by}
use Rattle.std.specs.Map.{lookup}
use Rattle.std.proofs.lemmas.Bool.{and_from, cases_eq}
use Rattle.std.proofs.lemmas.Option.{same_Some}
use Rattle.std.proofs.lemmas.List.Elements.{recursion_from_All}
use Rattle.bd_limits.specs.Limits.{buffer_limit, level_limit}
use Rattle.bd_message.specs.declared.message.Message.{Message}
use Rattle.bd_message.specs.Messages.{IsMessage, IsPlain, size}
use Rattle.bd_device.specs.Blocks.{Image}
use Rattle.bd_device.specs.declared.device.Device.{Ghosts}
use Rattle.bd_node.specs.declared.node.Node.{Node}
use Rattle.bd_node.specs.declared.node.Node.TheVariants.{Leaf, Inner}
use Rattle.bd_node.specs.Nodes.{level_of, buffer_size, appended, names}
use Rattle.bd_node.specs.Meaning.{Nodes}
use Rattle.bd_node.specs.Shape.{IsShape}
use Rattle.bd_node.specs.Stores.{FitsRoot, StaysBy}
use Rattle.bd_node.specs.Steps.{after, append_step, grown, with_touched, HasGrown, IsCommitted}
use Rattle.bd_node.specs.Tables.{Table, IsLower, IsNodeOf, IsStored, IsSound}
use Rattle.bd_node.proofs.Lookup.{each_weaker}
use Rattle.bd_node.proofs.Appending.{shape_appended, level_appended, buffer_appended, names_appended, append_sound}
use Rattle.bd_node.proofs.Appending.{is_appended}
use Rattle.bd_pager.specs.declared.place.Place.{Place}
use Rattle.bd_pager.specs.declared.place.Spot.{Spot}
use Rattle.bd_pager.specs.Calling.{no_reads}
use Rattle.bd_pager.specs.Changing.{IsChangedAt}
use Rattle.bd_pager.specs.Keeping.{KeepsSaved}
use Rattle.bd_pager.specs.Slots.{IsOfLevel}
use Rattle.bd_pager.specs.Testing.{Marks, NamesLower, AreTested}
use Rattle.bd_pager.specs.Places.{level_in, copy_at, copy_in, node_of, told, IsLowerIn, IsRead}
use Rattle.bd_pager.specs.Pagers.{Paged, spots_of, is_saved, is_changed, table_of, nodes_of, is_known, IsOfSize, IsPlaceIn, IsStoredAs, IsPaged}
use Rattle.bd_pager.proofs.ChangingLemmas.{same_refs, same_level, each_kept, copy_now, changed_before, changed_stays, changed_bad, node_is, still_right, place_now}
use Rattle.bd_pager.proofs.FreshLemmas.{copy_at_place}
use Rattle.bd_pager.proofs.ReaderLemmas.{copied_unread}
use Rattle.bd_pager.proofs.TestedLemmas.{some_at, still_names, tested_then}

-- ---- the root before

pub sized_copy : (bytes : ℕ) (o : Option Node) → IsOfSize bytes o → IsSome o
sized_copy bytes None sized = absurd sized
sized_copy bytes (Some n) sized = refl

-- the node of it that is in memory
pub root_copy : (o : Option Node) → IsSome o → (n : Node) × (o ≡ Some n)
root_copy None some = absurd (let e : false ≡ true = some in cc)
root_copy (Some n) some = (n, refl)

pub split_and : (a b : Bool) → (a && b) ≡ true → (a ≡ true) × (b ≡ true)
split_and true b both = (refl, both)
split_and false b both = absurd (let e : false ≡ true = both in cc)

waits_within : (n : Node) → IsShape n → buffer_size n ≤ buffer_limit
waits_within (Leaf entries) shape = omega arith
waits_within (Inner level edges buffer) shape = shape.size

-- ---- which nodes were changed is no part of soundness

touched_node : (f : ℕ → Bool) (t : Table) (l : ℕ) (m : Node) → IsNodeOf t l m → IsNodeOf (with_touched f t) l m
touched_node f t l m own = record {
  shape = own.shape;
  level_is = own.level_is;
  lower = each_weaker (IsLower t l) (IsLower (with_touched f t) l) (λ c lower. record { kept = lower.kept; lower = lower.lower }) (names m) own.lower;
}

pub touched_sound : (f : ℕ → Bool) (nodes : Nodes) (t : Table) → IsSound nodes t → IsSound nodes (with_touched f t)
touched_sound f nodes t s = record {
  table = record { root = s.table.root; inner = s.table.inner; low = s.table.low; below = s.table.below };
  each = λ id kept.
      let stored : IsStored nodes t id = s.each id kept in
      record { node = stored.node; there = stored.there; of_table = touched_node f t (t.level id) stored.node stored.of_table };
  others = s.others;
  counts = s.counts;
  size = s.size;
}

-- ---- after it

module _ {D : Type 0} (g : Ghosts D) (p : Paged D) (entries : List (ℕ × Spot)) (bytes : ℕ) (n : Node) (list : List Message) where
  abbrev q : Paged D
  q = record p { spots = entries; size = bytes; written = None }

  module _ (was : IsPaged (g.contents p.dev) p) (copy : copy_in (spots_of p p.root) ≡ Some n) (fits : FitsRoot (table_of p) list) (bytes_is : bytes ≡ p.size + sum_by size list)
      (h : IsChangedAt p.spare p.root (appended n list) (spots_of p) (spots_of q)) where
    abbrev spare : List Bool
    spare = p.spare

    abbrev more : Node
    more = appended n list

    copy_was : copy_at h.was.place ≡ Some n
    copy_was = sym (ap copy_in h.there) ∙ copy

    node_was : IsOfLevel h.was.level n
    node_was = subst (λ (o : Option Node). IfSome o (IsOfLevel h.was.level)) copy_was (was.placed p.root h.was h.there)

    size_was : buffer_size n ≡ p.size
    size_was = subst (λ (o : Option Node). IsOfSize p.size o) copy was.root

    inner_was : 1 ≤ level_of n
    inner_was = omega (arith, was.table.inner, ap level_in h.there, node_was.level_is)

    node_more : IsOfLevel h.now.level more
    node_more = record {
      shape = shape_appended n list node_was.shape (recursion_from_All IsMessage list fits.each) (omega (arith, waits_within n node_was.shape, fits.fits, size_was));
      level_is = level_appended n list ∙ node_was.level_is ∙ sym h.changed.level;
    }

    size_more : buffer_size more ≡ bytes
    size_more = buffer_appended n list inner_was ∙ ap (λ (k : ℕ). k + sum_by size list) size_was ∙ sym bytes_is

    pub appended_paged : IsPaged (g.contents p.dev) q
    appended_paged = record {
      table = record {
        root = subst (λ (k : ℕ). 1 ≤ k) (sym (same_refs spare p.root more (spots_of p) (spots_of q) h p.root)) was.table.root;
        inner = subst (λ (k : ℕ). 1 ≤ k) (sym (same_level spare p.root more (spots_of p) (spots_of q) h p.root)) was.table.inner;
        low = λ id kept. was.table.low id (subst (λ (k : ℕ). 1 ≤ k) (same_refs spare p.root more (spots_of p) (spots_of q) h id) kept);
        below = λ id kept. was.table.below id (subst (λ (k : ℕ). 1 ≤ k) (same_refs spare p.root more (spots_of p) (spots_of q) h id) kept);
      };
      used = each_kept spare p.root more (spots_of p) (spots_of q) h (λ i s. 1 ≤ s.refs) (omega (arith, h.changed.refs, was.used p.root h.was h.there)) was.used;
      placed = each_kept spare p.root more (spots_of p) (spots_of q) h (λ i s. IfSome (copy_at s.place) (IsOfLevel s.level))
          (subst (λ (o : Option Node). IfSome o (IsOfLevel h.now.level)) (sym (copy_now spare p.root more (spots_of p) (spots_of q) h)) node_more) was.placed;
      root = subst (λ (o : Option Node). IsOfSize bytes o) (sym (ap copy_in h.here ∙ copy_now spare p.root more (spots_of p) (spots_of q) h)) size_more;
      cached = λ i m kept. elim (cases_eq i p.root) [
        | inl here ↦
            let there : spots_of p i ≡ Some h.was = ap (spots_of p) here ∙ h.there in
            absurd (copied_unread (g.contents p.dev) p.is_lent h.was.level h.was.place n m copy_was
            (subst (λ (o : Option Spot). IsRead (g.contents p.dev) p.is_lent o m) there (was.cached i m kept)))
        | inr other ↦ subst (λ (o : Option Spot). IsRead (g.contents p.dev) p.is_lent o m) (sym (h.others i other)) (was.cached i m kept)
      ];
      levels = each_kept spare p.root more (spots_of p) (spots_of q) h (λ i s. s.level ≤ level_limit) (omega (arith, h.changed.level, was.levels p.root h.was h.there)) was.levels;
      held = was.held;
      spare = was.spare;
      slots = each_kept spare p.root more (spots_of p) (spots_of q) h (λ i s. IsPlaceIn spare s.place) (place_now spare p.root more (spots_of p) (spots_of q) h (was.slots p.root h.was h.there)) was.slots;
      stored = each_kept spare p.root more (spots_of p) (spots_of q) h (λ i s. IsStoredAs spare p.saved.entries i s.level s.place)
          (subst (λ (l : Place). IsStoredAs spare p.saved.entries p.root h.now.level l) (sym h.changed.place.place) tt) was.stored;
      saved = was.saved;
      entries = was.entries;
      tails = was.tails;
      ready = tt;
    }

    lower_more : (level id : ℕ) → IsLowerIn (spots_of p) level id → IsLowerIn (spots_of q) level id
    lower_more level id lower = (
      omega (arith, lower.0, same_refs spare p.root more (spots_of p) (spots_of q) h id),
      omega (arith, lower.1, same_level spare p.root more (spots_of p) (spots_of q) h id),
    )

    -- the messages name nothing
    names_more : NamesLower (spots_of p) n → NamesLower (spots_of q) more
    names_more lower =
        subst (λ (ids : List ℕ). AllByRecursion (IsLowerIn (spots_of q) (level_of more)) ids) (sym (names_appended n list (recursion_from_All IsPlain list fits.plain)))
        (subst (λ (l : ℕ). AllByRecursion (IsLowerIn (spots_of q) l) (names n)) (sym (level_appended n list)) (still_names (spots_of p) (spots_of q) lower_more n lower))

    there_more : (id : ℕ) → IsSome (spots_of p id) → IsSome (spots_of q id)
    there_more id some = elim (cases_eq id p.root) [
      | inl same ↦ subst (λ (o : Option Spot). IsSome o) (sym (ap (spots_of q) same ∙ h.here)) refl
      | inr other ↦ subst (λ (o : Option Spot). IsSome o) (sym (h.others id other)) some
    ]

    pub appended_tested : (marks : Marks) → AreTested (spots_of p) p.cache marks → AreTested (spots_of q) p.cache marks
    appended_tested marks are =
        tested_then (spots_of p) (spots_of q) p.cache p.cache marks marks (λ id on. on) lower_more (λ id on. there_more id (are id on).there)
        (λ id m on at. elim (cases_eq id p.root) [
          | inl same ↦
              let one : more ≡ m = same_Some more m (sym (ap copy_in h.here ∙ copy_now spare p.root more (spots_of p) (spots_of q) h) ∙ ap (λ (k : ℕ). copy_in (spots_of q k)) (sym same) ∙ at) in
              let lower : NamesLower (spots_of p) n = some_at (NamesLower (spots_of p)) (copy_in (spots_of p id)) n (ap (λ (k : ℕ). copy_in (spots_of p k)) same ∙ copy) (are id on).copy in
              inr (subst (λ (x : Node). NamesLower (spots_of q) x) one (names_more lower))
          | inr other ↦ inl (sym (ap copy_in (h.others id other)) ∙ at)
        ])
        (λ id m kept. kept) are

    table_is : table_of q ≡ with_touched (table_of q).touched (grown (table_of p) list)
    table_is = λ j. record {
      count = λ id. same_refs spare p.root more (spots_of p) (spots_of q) h id j;
      level = λ id. same_level spare p.root more (spots_of p) (spots_of q) h id j;
      root = p.root;
      size = bytes_is j;
      next = p.next;
      touched = (table_of q).touched;
    }

    pub appended_table : HasGrown (table_of p) list (table_of q)
    appended_table = record {
      is = table_is;
      touched = λ id on.
          let both = split_and (is_saved p.saved.entries id) (is_changed spare (spots_of q id)) on in
          elim (changed_before spare p.root more (spots_of p) (spots_of q) h id both.1) [
            | inl before ↦ inl (and_from (is_saved p.saved.entries id) (is_changed spare (spots_of p id)) both.0 before)
            | inr root ↦ inr root
          ];
    }

    appended_known : is_known g p → is_known g q
    appended_known known = record {
      contents_told = known.contents_told;
      right = still_right spare p.root more (spots_of p) (spots_of q) h (told (g.contents p.dev)) known.right;
    }

    pub appended_stays : StaysBy (is_known g) (KeepsSaved g) (λ (x : Paged D). let none : List ℕ = [] in none) p q
    appended_stays = record {
      known = appended_known;
      beside = record {
        device = no_reads g p.dev;
        lent = λ so. so;
        saved = refl;
        at = refl;
        spare = refl;
        touched = λ id low on kept.
            let both = split_and (is_saved p.saved.entries id) (is_changed spare (spots_of p id)) on in
            and_from (is_saved p.saved.entries id) (is_changed spare (spots_of q id)) both.0 (changed_stays spare p.root more (spots_of p) (spots_of q) h id both.1);
        next = omega arith;
        kept = λ id low kept. subst (λ (k : ℕ). 1 ≤ k) (same_refs spare p.root more (spots_of p) (spots_of q) h id) kept;
        room = refl;
        known = appended_known;
        bad = λ known. changed_bad spare p.root more (spots_of p) (spots_of q) h (g.contents p.dev);
      };
      same_loans = refl;
    }

    pub appended_committed : IsSound (nodes_of g p) (table_of p) → (root : Node) → nodes_of g p p.root ≡ Some root
        → IsCommitted (nodes_of g p) (table_of p) (append_step (table_of p) root list) (nodes_of g q) (table_of q)
    appended_committed sound root there =
        let image : Image = told (g.contents p.dev) in
        let t : Table = table_of p in
        let copied : nodes_of g p p.root ≡ Some n = ap (node_of image) h.there ∙ copy_at_place image h.was.place n copy_was in
        let one : n ≡ root = same_Some n root (sym copied ∙ there) in
        let is : nodes_of g q ≡ after (nodes_of g p) t (append_step t n list) =
        is_appended (nodes_of g p) (nodes_of g q) t n list sound (node_is spare p.root more (spots_of p) (spots_of q) h image) in
        subst (λ (m : Node). IsCommitted (nodes_of g p) t (append_step t m list) (nodes_of g q) (table_of q)) one (record {
          stays = λ id kept. ap (λ (m : Nodes). m id) is;
          sound = subst (λ (u : Table). IsSound (nodes_of g q) u) (sym table_is)
              (touched_sound (table_of q).touched (nodes_of g q) (grown t list)
              (subst (λ (m : Nodes). IsSound m (grown t list)) (sym is) (append_sound (nodes_of g p) t n list sound copied fits)));
        })

-- all that holds then
pub record IsGrown {D : Type 0} (g : Ghosts D) (p : Paged D) (list : List Message) (new : Paged D) : Type 0 where
  pub paged : IsPaged (g.contents p.dev) new
  pub table : HasGrown (table_of p) list (table_of new)
  pub stays : StaysBy (is_known g) (KeepsSaved g) (λ (x : Paged D). let none : List ℕ = [] in none) p new
  pub committed : IsSound (nodes_of g p) (table_of p) → (root : Node) → nodes_of g p p.root ≡ Some root
      → IsCommitted (nodes_of g p) (table_of p) (append_step (table_of p) root list) (nodes_of g new) (table_of new)

pub pager_grown : {D : Type 0} (g : Ghosts D) (p : Paged D) (entries : List (ℕ × Spot)) (bytes : ℕ) (list : List Message) → IsPaged (g.contents p.dev) p → FitsRoot (table_of p) list → bytes ≡ p.size + sum_by size list
    → ((n : Node) → copy_in (spots_of p p.root) ≡ Some n → IsChangedAt p.spare p.root (appended n list) (spots_of p) (λ id. lookup (nat_eq id) entries))
    → IsGrown g p list (record p { spots = entries; size = bytes; written = None })
pager_grown {D} g p entries bytes list was fits bytes_is changed =
    let copy = root_copy (copy_in (spots_of p p.root)) (sized_copy p.size (copy_in (spots_of p p.root)) was.root) in
    let h = changed copy.0 copy.1 in
    record {
      paged = appended_paged g p entries bytes copy.0 list was copy.1 fits bytes_is h;
      table = appended_table g p entries bytes copy.0 list was copy.1 fits bytes_is h;
      stays = appended_stays g p entries bytes copy.0 list was copy.1 fits bytes_is h;
      committed = appended_committed g p entries bytes copy.0 list was copy.1 fits bytes_is h;
    }

pub pager_tested : {D : Type 0} (g : Ghosts D) (p : Paged D) (entries : List (ℕ × Spot)) (bytes : ℕ) (list : List Message) (marks : Marks) → IsPaged (g.contents p.dev) p → FitsRoot (table_of p) list → bytes ≡ p.size + sum_by size list
    → ((n : Node) → copy_in (spots_of p p.root) ≡ Some n → IsChangedAt p.spare p.root (appended n list) (spots_of p) (λ id. lookup (nat_eq id) entries))
    → AreTested (spots_of p) p.cache marks → AreTested (λ id. lookup (nat_eq id) entries) p.cache marks
pager_tested g p entries bytes list marks was fits bytes_is changed are =
    let copy = root_copy (copy_in (spots_of p p.root)) (sized_copy p.size (copy_in (spots_of p p.root)) was.root) in
    appended_tested g p entries bytes copy.0 list was copy.1 fits bytes_is (changed copy.0 copy.1) marks are
