-- Which nodes' names were looked at, and which of them stay lower.
use Rattle.std.proofs.Common.{◌≡◌, ℕ, ◌<◌, ◌≤◌, ◌⊎◌, Bool, true, false, eqb, IsTrue, List, [], ◌∷◌, Option, None, Some, IfSome, refl, sym, ap, subst, ◌∙◌, arith, inl, inr}
use Rattle.std.specs.Prelude.{IsSome}
use Rattle.std.specs.Global.{Global}
use Rattle.std.specs.List.{AllByRecursion}
use Rattle.std.specs.declared.rc.Rc.{Rc}
use Rattle.std.proofs.lemmas.Bool.{cases_eq, cond-true, cond-false, eq-eqb, ne_eqb}
use Rattle.std.proofs.lemmas.Option.{none-some, same_Some}
use Rattle.bd_device.specs.Blocks.{Image}
use Rattle.bd_cache.specs.Cache.{kept_at}
use Rattle.bd_cache.specs.declared.cache.NodeCache.{NodeCache}
use Rattle.bd_node.specs.declared.node.Node.{Node}
use Rattle.bd_node.specs.Nodes.{level_of, names}
use Rattle.bd_node.proofs.Lookup.{each_weaker}
use Rattle.bd_pager.specs.declared.place.Place.{Place}
use Rattle.bd_pager.specs.declared.place.Place.TheVariants.{Memory, Slot}
use Rattle.bd_pager.specs.declared.place.Spot.{Spot}
use Rattle.bd_pager.specs.declared.stepping.Put.{Put}
use Rattle.bd_pager.specs.Moving.{freed_at, freed_in, stored_at, IsCachedMore, IsMovedAt, IsReservedPlace, IsReservedAt}
use Rattle.bd_pager.specs.Places.{Spots, refs_in, level_in, copy_at, copy_in, IsLowerIn, IsRead, AreCached}
use Rattle.bd_pager.specs.Stepping.{put_at, bare, without_copy}
use Rattle.bd_pager.specs.Testing.{Marks, is_tested, NamesLower, IsTested, AreTested, IsAtHand, IsNoHigherThan, IsNoHigher}
use Rattle.bd_pager.proofs.ReaderLemmas.{copied_unread}

-- ---- a copy in memory

pub copy_unread : (contents : Option Image) (is_lent : Bool) (o : Option Spot) (n m : Node) → copy_in o ≡ Some n → IsRead contents is_lent o m → ⊥
copy_unread contents is_lent None n m copy read = read
copy_unread contents is_lent (Some s) n m copy read = copied_unread contents is_lent s.level s.place n m copy read

-- it is at hand
pub copy_at_hand : (contents : Option Image) (is_lent : Bool) (spots : Spots) (cache : NodeCache) (marks : Marks) (id : ℕ) (n : Node) → AreCached contents is_lent spots cache → AreTested spots cache marks → copy_in (spots id) ≡ Some n
    → IsAtHand spots cache marks id n
copy_at_hand contents is_lent spots cache marks id n cached are copy = record {
  copy = subst (λ (o : Option Node). IfSome o (λ m. m ≡ n)) (sym copy) refl;
  cached =
      (let each : (o : Option Node) → kept_at cache id ≡ o → IfSome o (λ m. m ≡ n) = λ o. elim o as (λ v. kept_at cache id ≡ v → IfSome v (λ m. m ≡ n)) [
        | None ↦ λ there. tt
        | Some m ↦ λ there. absurd (copy_unread contents is_lent (spots id) n m copy (cached id m there))
      ] in each (kept_at cache id) refl);
  lower = λ on. subst (λ (o : Option Node). IfSome o (NamesLower spots)) copy (are id on).copy;
}

-- ---- what stays tested

each_some : (P : Node → Type 0) (o : Option Node) → ((n : Node) → o ≡ Some n → P n) → IfSome o P
each_some P None all = tt
each_some P (Some n) all = all n refl

pub some_at : (P : Node → Type 0) (o : Option Node) (n : Node) → o ≡ Some n → IfSome o P → P n
some_at P o n is h = subst (λ (v : Option Node). IfSome v P) is h

pub still_names : (before after : Spots) → ((level id : ℕ) → IsLowerIn before level id → IsLowerIn after level id) → (n : Node) → NamesLower before n → NamesLower after n
still_names before after more n h = each_weaker (IsLowerIn before (level_of n)) (IsLowerIn after (level_of n)) (more (level_of n)) (names n) h

pub tested_then : (before after : Spots) (cache later : NodeCache) (marks now : Marks) → ((id : ℕ) → IsTrue (is_tested now id) → IsTrue (is_tested marks id))
    → ((level id : ℕ) → IsLowerIn before level id → IsLowerIn after level id) → ((id : ℕ) → IsTrue (is_tested now id) → IsSome (after id))
    → ((id : ℕ) (n : Node) → IsTrue (is_tested now id) → copy_in (after id) ≡ Some n → (copy_in (before id) ≡ Some n) ⊎ NamesLower after n)
    → ((id : ℕ) (n : Node) → kept_at later id ≡ Some n → kept_at cache id ≡ Some n) → AreTested before cache marks → AreTested after later now
tested_then before after cache later marks now fewer more there copied kept are id on =
    let was : IsTested before cache id = are id (fewer id on) in
    record {
      there = there id on;
      copy = each_some (NamesLower after) (copy_in (after id)) (λ n copy. elim (copied id n on copy) [
        | inl old ↦ still_names before after more n (some_at (NamesLower before) (copy_in (before id)) n old was.copy)
        | inr lower ↦ lower
      ]);
      cached = each_some (NamesLower after) (kept_at later id) (λ n at. still_names before after more n (some_at (NamesLower before) (kept_at cache id) n (kept id n at) was.cached));
    }

-- ---- one node that is moved

module _ (before after : Spots) (id : ℕ) (was now : Spot) (there : before id ≡ Some was) (here : after id ≡ Some now) (others : (i : ℕ) → (i ≡ id → ⊥) → after i ≡ before i)
    (refs : now.refs ≡ was.refs) (level : now.level ≡ was.level) (copied : (n : Node) → copy_at now.place ≡ Some n → copy_at was.place ≡ Some n) where
  at_each : (P : Option Spot → Option Spot → Type 0) → ((o : Option Spot) → P o o) → P (Some was) (Some now) → (i : ℕ) → P (before i) (after i)
  at_each P same moved i = elim (cases_eq i id) [
    | inl is ↦ subst (λ (k : ℕ). P (before k) (after k)) (sym is) (subst (λ (o : Option Spot). P o (after id)) (sym there) (subst (λ (o : Option Spot). P (Some was) o) (sym here) moved))
    | inr other ↦ subst (λ (o : Option Spot). P (before i) o) (sym (others i other)) (same (before i))
  ]

  one_lower : (l i : ℕ) → IsLowerIn before l i → IsLowerIn after l i
  one_lower l i low = (
    subst (λ (k : ℕ). 1 ≤ k) (at_each (λ a b. refs_in a ≡ refs_in b) (λ o. refl) (sym refs) i) low.0,
    subst (λ (k : ℕ). k < l) (at_each (λ a b. level_in a ≡ level_in b) (λ o. refl) (sym level) i) low.1,
  )

  pub one_names : (n : Node) → NamesLower before n → NamesLower after n
  one_names n h = still_names before after one_lower n h

  pub one_tested : (cache : NodeCache) (marks : Marks) → AreTested before cache marks → AreTested after cache marks
  one_tested cache marks are =
      tested_then before after cache cache marks marks (λ i on. on) one_lower
      (λ i on. at_each (λ a b. IsSome a → IsSome b) (λ o some. some) (λ some. refl) i (are i on).there)
      (λ i n on copy. inl (at_each (λ a b. copy_in b ≡ Some n → copy_in a ≡ Some n) (λ o is. is) (copied n) i copy))
      (λ i n kept. kept) are

reserved_copy : (old : Place) (free : List Bool) (new : Place) (after : List Bool) (n : Node) → IsReservedPlace old free new after → copy_at new ≡ Some n → copy_at old ≡ Some n
reserved_copy (Memory node None) free new after n h copy = sym (ap copy_at h.2) ∙ copy
reserved_copy (Memory node (Some own)) free new after n h copy = sym (ap copy_at h.0) ∙ copy
reserved_copy (Slot slot there) free new after n h copy = sym (ap copy_at h.0) ∙ copy

pub reserved_tested : (id : ℕ) (spots : Spots) (free : List Bool) (mid : Spots) (after : List Bool) → IsReservedAt id spots free mid after → (cache : NodeCache) (marks : Marks) → AreTested spots cache marks → AreTested mid cache marks
reserved_tested id spots free mid after h =
    one_tested spots mid id h.was h.now h.there h.here h.others h.reserved.refs h.reserved.level (λ n. reserved_copy h.was.place free h.now.place after n h.reserved.place)

stored_copy : (is_root : Bool) (p : Place) (n : Node) → copy_at (stored_at is_root p) ≡ Some n → copy_at p ≡ Some n
stored_copy true (Memory node (Some slot)) n copy = copy
stored_copy false (Memory node (Some slot)) n copy = absurd (none-some n copy)
stored_copy is_root (Memory node None) n copy = copy
stored_copy is_root (Slot slot there) n copy = copy

freed_copy : (is_root : Bool) (o : Option Spot) (n : Node) → freed_in is_root o ≡ Some n → copy_in o ≡ Some n
freed_copy is_root None n freed = absurd (none-some n freed)
freed_copy is_root (Some s) n freed = of_place is_root s.place freed
  where
    of_place : (b : Bool) (p : Place) → freed_at b p ≡ Some n → copy_at p ≡ Some n
    of_place true (Memory node (Some slot)) e = absurd (none-some n e)
    of_place false (Memory node (Some slot)) e = e
    of_place b (Memory node None) e = absurd (none-some n e)
    of_place b (Slot slot there) e = absurd (none-some n e)

module _ (id : ℕ) (is_root : Bool) (mid last : Spots) (h : IsMovedAt id (stored_at is_root) mid last) where
  pub settled_tested : (cache later : NodeCache) (marks : Marks) → IsCachedMore id (freed_in is_root (mid id)) cache later → AreTested mid cache marks → AreTested last later marks
  settled_tested cache later marks more are = λ i on.
      let now : IsTested last cache i =
      one_tested mid last id h.was (record h.was { place = stored_at is_root h.was.place }) h.there h.here h.others refl refl (λ n. stored_copy is_root h.was.place n) cache marks are i on in
      record {
        there = now.there;
        copy = now.copy;
        cached = each_some (NamesLower last) (kept_at later i) (λ n kept. elim (more i n kept) [
          | inl before ↦ some_at (NamesLower last) (kept_at cache i) n before now.cached
          | inr freed ↦
              let copy : copy_in (mid i) ≡ Some n = ap (λ (k : ℕ). copy_in (mid k)) freed.0 ∙ freed_copy is_root (mid id) n freed.1 in
              one_names mid last id h.was (record h.was { place = stored_at is_root h.was.place }) h.there h.here h.others refl refl (λ m. stored_copy is_root h.was.place m) n
              (some_at (NamesLower mid) (copy_in (mid i)) n copy (are i on).copy)
        ]);
      }

-- ---- nodes that a step puts

pub no_higher : (n : Node) (o : Option Spot) → 1 ≤ refs_in o → IsNoHigherThan n o → level_of n ≤ level_in o
no_higher n None kept low = absurd (omega (arith, kept))
no_higher n (Some s) kept low = low

pub each_low : (spots : Spots) (puts : List Put) (id : ℕ) (node : Rc Node Global) → AllByRecursion (IsNoHigher spots) puts → put_at puts id ≡ Some node → IsNoHigherThan node.value (spots id)
each_low spots [] id node low is = absurd (none-some node is)
each_low spots (p ∷ ps) id node low is = elim (cases_eq id p.id) [
  | inl same ↦
      let one : p.node ≡ node = same_Some p.node node (sym (cond-true (eqb id p.id) (Some p.node) (put_at ps id) (eq-eqb id p.id same)) ∙ is) in
      subst (λ (k : ℕ). IsNoHigherThan node.value (spots k)) (sym same) (subst (λ (r : Rc Node Global). IsNoHigherThan r.value (spots p.id)) one low.0)
  | inr other ↦ each_low spots ps id node low.1 (sym (cond-false (eqb id p.id) (Some p.node) (put_at ps id) (ne_eqb id p.id other)) ∙ is)
]

bare_back : (p : Place) (n : Node) → copy_at (bare p) ≡ Some n → copy_at p ≡ Some n
bare_back (Memory node slot) n copy = copy
bare_back (Slot slot there) n copy = absurd (none-some n copy)

-- what is there without the old root's copy was there before
pub without_back : (o : Option Spot) (n : Node) → copy_in (without_copy o) ≡ Some n → copy_in o ≡ Some n
without_back None n copy = copy
without_back (Some s) n copy = bare_back s.place n copy

pub spot_of_some : (o : Option Spot) → IsSome o → (s : Spot) × (o ≡ Some s)
spot_of_some None some = absurd (let e : false ≡ true = some in cc)
spot_of_some (Some s) some = (s, refl)
