-- A pager of which some nodes were changed in memory.
use Rattle.std.proofs.Common.{◌≡◌, ℕ, ◌≤◌, ◌⊎◌, Bool, IsTrue, List, [], length, Option, None, Some, IfSome, refl, sym, ap, subst, ◌∙◌, arith, inl, inr}
use Rattle.std.specs.Prelude.{IsSome}
use Rattle.std.proofs.lemmas.Bool.{and_from}
use Rattle.std.proofs.lemmas.Option.{same_Some}
use Rattle.bd_limits.specs.Limits.{level_limit}
use Rattle.bd_device.specs.Blocks.{Image}
use Rattle.bd_device.specs.declared.device.Device.{Ghosts}
use Rattle.bd_cache.specs.Cache.{kept_at, room_of}
use Rattle.bd_cache.specs.declared.cache.NodeCache.{NodeCache}
use Rattle.bd_node.specs.declared.node.Node.{Node}
use Rattle.bd_node.specs.declared.node.Step.{Step}
use Rattle.bd_node.specs.Stores.{StaysBy}
use Rattle.bd_node.specs.Steps.{given, given_or, changed_at, after, level_or, level_after, IsTableAfter}
use Rattle.bd_node.proofs.Stepping.{by_given, given-old}
use Rattle.bd_pager.specs.declared.place.Place.{Place}
use Rattle.bd_pager.specs.declared.place.Spot.{Spot}
use Rattle.bd_pager.specs.Calling.{no_reads}
use Rattle.bd_pager.specs.Changing.{IsChangedSpot}
use Rattle.bd_pager.specs.Keeping.{KeepsSaved}
use Rattle.bd_pager.specs.Slots.{IsOfLevel}
use Rattle.bd_pager.specs.Testing.{Marks, is_tested, NamesLower, AreTested}
use Rattle.bd_pager.specs.Places.{Spots, refs_in, level_in, copy_at, copy_in, node_at, node_of, told, IsLowerIn, IsRead, IsBadPlace, IsBadSpot, NoneTurnsBad}
use Rattle.bd_pager.specs.Pagers.{Paged, spots_of, is_saved, is_changed, is_changed_place, table_of, nodes_of, is_known, IsRightPlace, IsOfSize, IsPlaceIn, IsStoredAs, IsPaged}
use Rattle.bd_pager.proofs.AppendedLemmas.{split_and}
use Rattle.bd_pager.proofs.ChangingLemmas.{own_in}
use Rattle.bd_pager.proofs.StepsLemmas.{no_loans}
use Rattle.bd_pager.proofs.TestedLemmas.{still_names, tested_then}

-- the node of this id was changed to this one
pub record WasChanged (spare : List Bool) (id : ℕ) (n : Node) (old new : Spots) : Type 0 where
  pub was : Spot
  pub there : old id ≡ Some was
  pub now : Spot
  pub here : new id ≡ Some now
  pub changed : IsChangedSpot spare n was now

-- nodes were changed to those that are given, and no others
pub record AreChanged (spare : List Bool) (gives : ℕ → Option Node) (old new : Spots) : Type 0 where
  pub some : (id : ℕ) (n : Node) → gives id ≡ Some n → WasChanged spare id n old new
  pub none : (id : ℕ) → gives id ≡ None → new id ≡ old id

-- ---- what is known of them

module _ (spare : List Bool) (gives : ℕ → Option Node) (spots new : Spots) (h : AreChanged spare gives spots new) where
  -- what holds where nothing was changed, and where something was, holds
  at_each : (P : ℕ → Option Spot → Option Spot → Type 0) → ((i : ℕ) → gives i ≡ None → P i (spots i) (spots i))
      → ((i : ℕ) (n : Node) (was now : Spot) → gives i ≡ Some n → spots i ≡ Some was → IsChangedSpot spare n was now → P i (Some was) (Some now)) → (i : ℕ) → P i (spots i) (new i)
  at_each P same moved i =
      by_given (P i (spots i) (new i)) (gives i)
      (λ none. subst (λ (o : Option Spot). P i (spots i) o) (sym (h.none i none)) (same i none))
      (λ n some.
      let c = h.some i n some in
      subst (λ (o : Option Spot). P i o (new i)) (sym c.there) (subst (λ (o : Option Spot). P i (Some c.was) o) (sym c.here) (moved i n c.was c.now some c.there c.changed)))

  pub refs_stay : (i : ℕ) → refs_in (new i) ≡ refs_in (spots i)
  refs_stay = at_each (λ i a b. refs_in b ≡ refs_in a) (λ i none. refl) (λ i n was now some there c. c.refs)

  pub levels_stay : (i : ℕ) → level_in (new i) ≡ level_in (spots i)
  levels_stay = at_each (λ i a b. level_in b ≡ level_in a) (λ i none. refl) (λ i n was now some there c. c.level)

  -- what holds of the changed ones, and of those before, holds of all
  all_kept : (P : ℕ → Spot → Type 0) → ((i : ℕ) (n : Node) (was now : Spot) → gives i ≡ Some n → spots i ≡ Some was → IsChangedSpot spare n was now → P i now)
      → ((i : ℕ) (s : Spot) → spots i ≡ Some s → P i s) → (i : ℕ) (s : Spot) → new i ≡ Some s → P i s
  all_kept P own before =
      at_each (λ i a b. (s : Spot) → b ≡ Some s → P i s) (λ i none s there. before i s there)
      (λ i n was now some there c s is. subst (λ (x : Spot). P i x) (same_Some now s is) (own i n was now some there c))

  node_there : (image : Image) (n : Node) (was now : Spot) → IsChangedSpot spare n was now → node_at image now.place ≡ Some n
  node_there image n was now c = ap (node_at image) c.place.place ∙ ap Some c.place.value

  copy_there : (n : Node) (was now : Spot) → IsChangedSpot spare n was now → copy_at now.place ≡ Some n
  copy_there n was now c = ap copy_at c.place.place ∙ ap Some c.place.value

  pub copy_given : (i : ℕ) (n : Node) → gives i ≡ Some n → copy_in (new i) ≡ Some n
  copy_given i n some = let c = h.some i n some in ap copy_in c.here ∙ copy_there n c.was c.now c.changed

  pub nodes_after : (image : Image) (i : ℕ) → node_of image (new i) ≡ given_or (gives i) (node_of image (spots i))
  nodes_after image =
      at_each (λ i a b. node_of image b ≡ given_or (gives i) (node_of image a))
      (λ i none. sym (ap (λ (o : Option Node). given_or o (node_of image (spots i))) none))
      (λ i n was now some there c. node_there image n was now c ∙ sym (ap (λ (o : Option Node). given_or o (node_of image (Some was))) some))

  pub all_stay : (i : ℕ) → IsTrue (is_changed spare (spots i)) → IsTrue (is_changed spare (new i))
  all_stay = at_each (λ i a b. IsTrue (is_changed spare a) → IsTrue (is_changed spare b)) (λ i none on. on)
      (λ i n was now some there c on. ap (is_changed_place spare) c.place.place)

  pub none_bad : (contents : Option Image) → NoneTurnsBad contents spots contents new
  none_bad contents i b =
      at_each (λ k o s. IsBadSpot contents s b → IsBadSpot contents o b) (λ k none bad. bad)
      (λ k n was now some there c bad. absurd (subst (λ (p : Place). IsBadPlace contents now.level p b) c.place.place bad)) i

  pub all_there : (i : ℕ) → IsSome (spots i) → IsSome (new i)
  all_there = at_each (λ i a b. IsSome a → IsSome b) (λ i none some. some) (λ i n was now some there c is. refl)

-- ---- the pager

-- what is cached was before, and none of it is given
pub record AreStillCached (gives : ℕ → Option Node) (old new : NodeCache) : Type 0 where
  pub each : (id : ℕ) (n : Node) → kept_at new id ≡ Some n → (kept_at old id ≡ Some n) × (gives id ≡ None)
  pub room : room_of new ≡ room_of old

module _ {D : Type 0} (g : Ghosts D) (p : Paged D) (step : Step) (entries : List (ℕ × Spot)) (bytes : ℕ) (cache : NodeCache) where
  abbrev pub altered : Paged D
  altered = record p { spots = entries; size = bytes; cache = cache; written = None }

  abbrev gives : ℕ → Option Node
  gives id = given p.next step id

  module _ (was : IsPaged (g.contents p.dev) p) (h : AreChanged p.spare gives (spots_of p) (spots_of altered)) (own : (id : ℕ) (n : Node) → gives id ≡ Some n → IsOfLevel (level_in (spots_of p id)) n)
      (sized : IsSome (copy_in (spots_of altered p.root)) → IsOfSize bytes (copy_in (spots_of altered p.root)))
      (cached : AreStillCached gives p.cache cache) where
    refs : (id : ℕ) → refs_in (spots_of altered id) ≡ refs_in (spots_of p id)
    refs = refs_stay p.spare gives (spots_of p) (spots_of altered) h

    levels : (id : ℕ) → level_in (spots_of altered id) ≡ level_in (spots_of p id)
    levels = levels_stay p.spare gives (spots_of p) (spots_of altered) h

    own_spot : (id : ℕ) (n : Node) (s now : Spot) → gives id ≡ Some n → spots_of p id ≡ Some s → IsChangedSpot p.spare n s now → IsOfLevel now.level n
    own_spot id n s now some there c = subst (λ (l : ℕ). IsOfLevel l n) (ap level_in there ∙ sym c.level) (own id n some)

    root_there : IsSome (copy_in (spots_of altered p.root))
    root_there =
        by_given (IsSome (copy_in (spots_of altered p.root))) (gives p.root)
        (λ none. subst (λ (o : Option Spot). IsSome (copy_in o)) (sym (h.none p.root none)) (sized_some p.size (copy_in (spots_of p p.root)) was.root))
        (λ n some. subst (λ (o : Option Node). IsSome o) (sym (copy_given p.spare gives (spots_of p) (spots_of altered) h p.root n some)) refl)
      where
        sized_some : (size : ℕ) (o : Option Node) → IsOfSize size o → IsSome o
        sized_some size None of_size = absurd of_size
        sized_some size (Some n) of_size = refl

    pub altered_paged : IsPaged (g.contents p.dev) altered
    altered_paged = record {
      table = record {
        root = omega (arith, refs p.root, was.table.root);
        inner = omega (arith, levels p.root, was.table.inner);
        low = λ id kept. was.table.low id (omega (arith, refs id, kept));
        below = λ id kept. was.table.below id (omega (arith, refs id, kept));
      };
      used = all_kept p.spare gives (spots_of p) (spots_of altered) h (λ i s. 1 ≤ s.refs) (λ i n s now some there c. omega (arith, c.refs, was.used i s there)) was.used;
      placed = all_kept p.spare gives (spots_of p) (spots_of altered) h (λ i s. IfSome (copy_at s.place) (IsOfLevel s.level))
          (λ i n s now some there c. subst (λ (o : Option Node). IfSome o (IsOfLevel now.level)) (sym (copy_there p.spare gives (spots_of p) (spots_of altered) h n s now c)) (own_spot i n s now some there c)) was.placed;
      root = sized root_there;
      cached = λ i m kept.
          let still = cached.each i m kept in
          subst (λ (o : Option Spot). IsRead (g.contents p.dev) p.is_lent o m) (sym (h.none i still.1)) (was.cached i m still.0);
      levels = all_kept p.spare gives (spots_of p) (spots_of altered) h (λ i s. s.level ≤ level_limit) (λ i n s now some there c. omega (arith, c.level, was.levels i s there)) was.levels;
      held = was.held;
      spare = was.spare;
      slots = all_kept p.spare gives (spots_of p) (spots_of altered) h (λ i s. IsPlaceIn p.spare s.place)
          (λ i n s now some there c. subst (λ (l : Place). IsPlaceIn p.spare l) (sym c.place.place) (own_in p.spare s.place c.place.node (was.slots i s there))) was.slots;
      stored = all_kept p.spare gives (spots_of p) (spots_of altered) h (λ i s. IsStoredAs p.spare p.saved.entries i s.level s.place)
          (λ i n s now some there c. subst (λ (l : Place). IsStoredAs p.spare p.saved.entries i now.level l) (sym c.place.place) tt) was.stored;
      saved = was.saved;
      entries = was.entries;
      tails = was.tails;
      ready = tt;
    }

    still_lower : (level id : ℕ) → IsLowerIn (spots_of p) level id → IsLowerIn (spots_of altered) level id
    still_lower level id lower = (omega (arith, lower.0, refs id), omega (arith, lower.1, levels id))

    -- what counts still as tested is, if what was changed names lower nodes
    pub altered_tested : (marks now : Marks) → ((id : ℕ) → IsTrue (is_tested now id) → IsTrue (is_tested marks id)) → ((id : ℕ) (n : Node) → gives id ≡ Some n → IsTrue (is_tested now id) → NamesLower (spots_of p) n)
        → AreTested (spots_of p) p.cache marks → AreTested (spots_of altered) cache now
    altered_tested marks now fewer lower are =
        tested_then (spots_of p) (spots_of altered) p.cache cache marks now fewer still_lower
        (λ id on. all_there p.spare gives (spots_of p) (spots_of altered) h id (are id (fewer id on)).there)
        (λ id n on copy. by_given ((copy_in (spots_of p id) ≡ Some n) ⊎ NamesLower (spots_of altered) n) (gives id)
        (λ none. inl (sym (ap copy_in (h.none id none)) ∙ copy))
        (λ m some.
        let one : m ≡ n = same_Some m n (sym (copy_given p.spare gives (spots_of p) (spots_of altered) h id m some) ∙ copy) in
        inr (subst (λ (x : Node). NamesLower (spots_of altered) x) one (still_names (spots_of p) (spots_of altered) still_lower m (lower id m some on)))))
        (λ id n kept. (cached.each id n kept).0) are

    pub altered_table : step.made ≡ [] → step.root ≡ p.root → IsTableAfter (table_of p) step (table_of altered)
    altered_table made root = record {
      table = altered_paged.table;
      root = sym root;
      next = omega (arith, ap (λ (ns : List Node). length ns) made);
      level = λ id kept.
          by_given (level_in (spots_of altered id) ≡ level_after (table_of p) step id) (gives id)
          (λ none. levels id ∙ sym (ap (λ (o : Option Node). level_or o (level_in (spots_of p id))) none))
          (λ n some. levels id ∙ sym (own id n some).level_is ∙ sym (ap (λ (o : Option Node). level_or o (level_in (spots_of p id))) some));
      size = λ n some.
          let copy = copy_given p.spare gives (spots_of p) (spots_of altered) h p.root n (ap gives (sym root) ∙ some) in
          sym (subst (λ (o : Option Node). IsOfSize bytes o) copy (sized root_there));
      same_size = λ none same.
          let copy : copy_in (spots_of altered p.root) ≡ copy_in (spots_of p p.root) = ap copy_in (h.none p.root (ap gives (sym root) ∙ none)) in
          one_size (copy_in (spots_of p p.root)) (subst (λ (o : Option Node). IsOfSize bytes o) copy (sized root_there)) was.root;
      touched = λ id on.
          let both = split_and (is_saved p.saved.entries id) (is_changed p.spare (spots_of altered id)) on in
          by_given (IsTrue ((table_of p).touched id) ⊎ IsSome (changed_at step.changes id)) (gives id)
          (λ none. inl (and_from (is_saved p.saved.entries id) (is_changed p.spare (spots_of p id)) both.0 (sym (ap (is_changed p.spare) (h.none id none)) ∙ both.1)))
          (λ n some. inr (subst (λ (o : Option Node). IsSome o) (sym (sym (given-old p.next step id (was.saved id both.0)) ∙ some)) refl));
    }
      where
        one_size : (o : Option Node) → IsOfSize bytes o → IsOfSize p.size o → bytes ≡ p.size
        one_size None now before = absurd now
        one_size (Some n) now before = sym now ∙ before

    altered_known : is_known g p → is_known g altered
    altered_known known = record {
      contents_told = known.contents_told;
      right = all_kept p.spare gives (spots_of p) (spots_of altered) h (λ i s. IsRightPlace (told (g.contents p.dev)) s.place)
          (λ i n s now some there c. subst (λ (l : Place). IsRightPlace (told (g.contents p.dev)) l) (sym c.place.place) tt) known.right;
    }

    pub altered_stays : StaysBy (is_known g) (KeepsSaved g) no_loans p altered
    altered_stays = record {
      known = altered_known;
      beside = record {
        device = no_reads g p.dev;
        lent = λ so. so;
        saved = refl;
        at = refl;
        spare = refl;
        touched = λ id low on kept.
            let both = split_and (is_saved p.saved.entries id) (is_changed p.spare (spots_of p id)) on in
            and_from (is_saved p.saved.entries id) (is_changed p.spare (spots_of altered id)) both.0 (all_stay p.spare gives (spots_of p) (spots_of altered) h id both.1);
        next = omega arith;
        kept = λ id low kept. omega (arith, refs id, kept);
        room = cached.room;
        known = altered_known;
        bad = λ known. none_bad p.spare gives (spots_of p) (spots_of altered) h (g.contents p.dev);
      };
      same_loans = refl;
    }

    pub altered_nodes : (id : ℕ) → nodes_of g altered id ≡ after (nodes_of g p) (table_of p) step id
    altered_nodes = nodes_after p.spare gives (spots_of p) (spots_of altered) h (told (g.contents p.dev))

    pub altered_count : (id : ℕ) → (table_of altered).count id ≡ (table_of p).count id
    altered_count = refs
