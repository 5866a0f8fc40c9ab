-- Nodes that rise by one level, as changes of a step.
use Rattle.std.proofs.Common.{◌≡◌, ℕ, ◌+◌, ◌<◌, ◌≤◌, List, [], ◌∷◌, map, refl, sym, ap, subst, ◌∙◌, Option, Some, arith, inl, inr, IsSome, rules}
use Rattle.std.specs.Prelude.{count_by, ◌==◌}
use Rattle.std.specs.List.{AllByRecursion}
use Rattle.std.proofs.lemmas.Bool.{cases_eq}
use Rattle.std.proofs.lemmas.Option.{same_Some}
use Rattle.bd_limits.specs.Limits.{level_limit}
use Rattle.bd_keys.specs.Keys.{IsKey}
use Rattle.bd_message.specs.Effect.{NodesAt}
use Rattle.bd_node.specs.declared.node.Edge.{Edge}
use Rattle.bd_node.specs.declared.node.Node.{Node}
use Rattle.bd_node.specs.declared.node.Node.TheVariants.{Leaf, Inner}
use Rattle.bd_node.specs.declared.node.Change.{Change}
use Rattle.bd_node.specs.declared.node.Step.{Step}
use Rattle.bd_node.specs.Nodes.{level_of, buffer_size, names, times, node_at}
use Rattle.bd_node.specs.Meaning.{Nodes, at}
use Rattle.bd_node.specs.Shape.{IsShape}
use Rattle.bd_node.specs.Tables.{Table, IsTable, IsLower, IsSound, one_if}
use Rattle.bd_node.specs.Private.{IsPrivate}
use Rattle.bd_node.specs.Private.IsPrivate.{alone}
use Rattle.bd_node.specs.Steps.{changed_at, given, level_after, AreOnce, HasRoom}
use Rattle.bd_node.specs.Steps.HasRoom.{of_root, changed_too, under_all}
use Rattle.bd_node.proofs.Lookup.{Agree, each_weaker, named_has, node_at-same, node_has-key}
use Rattle.bd_node.proofs.Meanings.{at-meets}
use Rattle.bd_node.proofs.Sound.{sound-levelled, counted_twice}
use Rattle.bd_node.proofs.Privacy.{root_private}
use Rattle.bd_node.proofs.Stepping.{changed_at-same, changed_at-other}
use Rattle.bd_path.specs.declared.fetching.Fetched.{Fetched}
use Rattle.bd_path.specs.Flushed.{LeadsTo}
use Rattle.bd_path.specs.Flushed.LeadsTo.{through}
use Rattle.bd_path.specs.Fetching.{IsFetched, IsEdgeTo, IsContents}
use Rattle.bd_path.specs.Paths.{path_step}
use Rattle.bd_path.specs.Raising.{raised, raise, IsWayUp, IsRising}
use Rattle.bd_path.specs.Raising.IsWayUp.{top, one_up}
use Rattle.bd_path.specs.Raising.IsRising.{at_top, high_enough, rises}
use Rattle.bd_path.proofs.EdgesAt.{edge_named}
use Rattle.bd_node.proofs.Parts.{inner_of}
use Rattle.bd_path.proofs.PathSteps.{IsUpper, RisesByOne, level_bound, has_path, IsUpperOf}

-- ---- a node one level higher

pub raised_level : (n : Node) → 1 ≤ level_of n → level_of (raised n) ≡ level_of n + 1
raised_level (Leaf entries) inner = absurd (omega arith)
raised_level (Inner level es buffer) inner = refl

pub raised_shape : (n : Node) → IsShape n → level_of n < level_limit → IsShape (raised n)
raised_shape (Leaf entries) h low = h
raised_shape (Inner level es buffer) h low = record {
  low = omega arith;
  high = omega arith;
  few = h.few;
  first = h.first;
  each = h.each;
  messages = h.messages;
  size = h.size;
  pending = h.pending;
}

pub raised_names : (n : Node) → names (raised n) ≡ names n
raised_names (Leaf entries) = refl
raised_names (Inner level es buffer) = refl

pub raised_times : (n : Node) (c : ℕ) → times (raised n) c ≡ times n c
raised_times (Leaf entries) c = refl
raised_times (Inner level es buffer) c = refl

pub raised_size : (n : Node) → buffer_size (raised n) ≡ buffer_size n
raised_size (Leaf entries) = refl
raised_size (Inner level es buffer) = refl

pub raised_has : (has : NodesAt) (n : Node) (k : List ℕ) → node_at has (raised n) k ≡ node_at has n k
raised_has has (Leaf entries) k = refl
raised_has has (Inner level es buffer) k = refl

-- ---- the way up

-- a node above another, whose edge alone names it
pub record IsLink (t : Table) (x : ℕ) (f : Fetched) : Type 0 where
  pub place : ℕ
  pub edge : Edge
  pub fetched : IsFetched t f
  pub way : IsEdgeTo f.node.value place x edge
  pub once : t.count x ≡ 1

pub way_link : (t : Table) (x : ℕ) (f : Fetched) (fs : List Fetched) → IsWayUp t x (f ∷ fs) → IsLink t x f × IsWayUp t f.id fs
way_link t x f fs (one_up _ place _ e _ fetched way once up) = (record { place = place; edge = e; fetched = fetched; way = way; once = once }, up)

pub way_top : (t : Table) (x : ℕ) → IsWayUp t x [] → x ≡ t.root
way_top t x top = refl

pub link_names : (t : Table) (x : ℕ) (f : Fetched) → IsLink t x f → 1 ≤ times f.node.value x
link_names t x f link = edge_named f.node.value link.place x link.edge link.fetched.own.shape link.way

pub link_lower : (t : Table) (x : ℕ) (f : Fetched) → IsLink t x f → IsLower t (t.level f.id) x
link_lower t x f link = named_has (IsLower t (t.level f.id)) x (names f.node.value) link.fetched.own.lower (link_names t x f link)

pub link_inner : (t : Table) (x : ℕ) (f : Fetched) → IsLink t x f → 1 ≤ level_of f.node.value
link_inner t x f link = inner_of f.node.value link.place link.edge link.fetched.own.shape link.way.here

pub way_private : (nodes : Nodes) (t : Table) (x : ℕ) (way : List Fetched) → IsSound nodes t → IsWayUp t x way → AllByRecursion (IsContents nodes) way → IsPrivate nodes t x
way_private nodes t x [] s up there = subst (λ (i : ℕ). IsPrivate nodes t i) (sym (way_top t x up)) (root_private nodes t s)
way_private nodes t x (f ∷ fs) s up there =
    let parts = way_link t x f fs up in
    alone f.id x f.node.value (way_private nodes t f.id fs s parts.1 there.1) there.0 (link_names t x f parts.0) parts.0.once

-- no other node names the one below
pub only_namer : (nodes : Nodes) (t : Table) (x : ℕ) (f : Fetched) → IsSound nodes t → IsLink t x f → nodes f.id ≡ Some f.node.value → (q : ℕ) (m : Node) → nodes q ≡ Some m → 1 ≤ times m x → q ≡ f.id
only_namer nodes t x f s link there q m other one =
    elim (cases_eq q f.id) [
      | inl same ↦ same
      | inr apart ↦ absurd (let two : times m x + times f.node.value x + one_if t.root x ≤ t.count x = counted_twice nodes t s q f.id m f.node.value other there apart x in
          let once : t.count x ≡ 1 = link.once in
          let named : 1 ≤ times f.node.value x = link_names t x f link in
          omega arith)
    ]

-- ---- those that rise, as far as the table tells

raise_rises : (t : Table) (x : ℕ) (f : Fetched) → IsLink t x f → RisesByOne t (raise f)
raise_rises t x f link =
    let is : level_of f.node.value ≡ t.level f.id = link.fetched.own.level_is in
    let up : level_of (raised f.node.value) ≡ level_of f.node.value + 1 = raised_level f.node.value (link_inner t x f link) in
    (omega arith, omega arith)

pub rising_rises : (t : Table) (x level : ℕ) (way rising : List Fetched) → IsRising level way rising → IsWayUp t x way → AllByRecursion (RisesByOne t) (map raise rising)
rising_rises t x _ _ _ (at_top level) up = tt
rising_rises t x _ _ _ (high_enough level f fs high) up = tt
rising_rises t x _ _ _ (rises level f fs rising low room rise) up =
    let parts = way_link t x f fs up in
    (raise_rises t x f parts.0, rising_rises t f.id (level_of f.node.value + 1) fs rising rise parts.1)

raise_upper : (t : Table) (c : ℕ) (h : Node) (uppers : List Change) (made : List Node) (x : ℕ) (f : Fetched) → IsTable t → RisesByOne t (record { id = c; node = h }) → AllByRecursion (RisesByOne t) uppers → t.level c ≤ t.level x → IsLink t x f → level_of f.node.value < level_limit
    → IsUpper t (path_step t.root c h uppers made) c (raise f)
raise_upper t c h uppers made x f table own each low link room =
    let is : level_of f.node.value ≡ t.level f.id = link.fetched.own.level_is in
    let up : level_of (raised f.node.value) ≡ level_of f.node.value + 1 = raised_level f.node.value (link_inner t x f link) in
    let lower : IsLower t (t.level f.id) x = link_lower t x f link in
    let down : t.level x < t.level f.id = lower.lower in
    record {
      kept = link.fetched.kept;
      above = omega arith;
      shape = raised_shape f.node.value link.fetched.own.shape room;
      low = omega arith;
      high = omega arith;
      named = λ y one.
          let under : IsLower t (t.level f.id) y =
          named_has (IsLower t (t.level f.id)) y (names f.node.value) link.fetched.own.lower (subst (λ (l : List ℕ). 1 ≤ count_by (λ name. name == y) l) (raised_names f.node.value) one) in
          let less : t.level y < t.level f.id = under.lower in
          let most : level_after t (path_step t.root c h uppers made) y ≤ t.level y + 1 = (level_bound t c h uppers made own each y (table.below y under.kept)).1 in
          record { there = inl under.kept; lower = omega arith };
    }

pub rising_uppers : (t : Table) (c : ℕ) (h : Node) (uppers : List Change) (made : List Node) (x level : ℕ) (way rising : List Fetched) → IsTable t → RisesByOne t (record { id = c; node = h }) → AllByRecursion (RisesByOne t) uppers → t.level c ≤ t.level x → IsRising level way rising → IsWayUp t x way
    → AllByRecursion (IsUpper t (path_step t.root c h uppers made) c) (map raise rising)
rising_uppers t c h uppers made x _ _ _ table own each low (at_top level) up = tt
rising_uppers t c h uppers made x _ _ _ table own each low (high_enough level f fs high) up = tt
rising_uppers t c h uppers made x _ _ _ table own each low (rises level f fs rising most room rise) up =
    let parts = way_link t x f fs up in
    let lower : IsLower t (t.level f.id) x = link_lower t x f parts.0 in
    let down : t.level x < t.level f.id = lower.lower in (
      raise_upper t c h uppers made x f table own each low parts.0 room,
      rising_uppers t c h uppers made f.id (level_of f.node.value + 1) fs rising table own each (omega arith) rise parts.1,
    )

-- each is above the one below
pub rising_above : (t : Table) (x level : ℕ) (way rising : List Fetched) → IsRising level way rising → IsWayUp t x way → AllByRecursion (λ (u : Change). t.level x < t.level u.id) (map raise rising)
rising_above t x _ _ _ (at_top level) up = tt
rising_above t x _ _ _ (high_enough level f fs high) up = tt
rising_above t x _ _ _ (rises level f fs rising most room rise) up =
    let parts = way_link t x f fs up in
    let lower : IsLower t (t.level f.id) x = link_lower t x f parts.0 in
    let down : t.level x < t.level f.id = lower.lower in (
      down,
      each_weaker (λ (u : Change). t.level f.id < t.level u.id) (λ (u : Change). t.level x < t.level u.id) (λ u more. (let m : t.level f.id < t.level u.id = more in omega arith)) (map raise rising)
          (rising_above t f.id (level_of f.node.value + 1) fs rising rise parts.1),
    )

pub once_above : (t : Table) (x : ℕ) (uppers : List Change) → AllByRecursion (λ (u : Change). t.level x < t.level u.id) uppers → AllByRecursion (λ (u : Change). u.id ≡ x → ⊥) uppers
once_above t x uppers h =
    each_weaker (λ (u : Change). t.level x < t.level u.id) (λ (u : Change). u.id ≡ x → ⊥)
    (λ u more same. (let m : t.level x < t.level u.id = more in let e : t.level u.id ≡ t.level x = ap t.level same in omega arith)) uppers h

pub rising_once : (t : Table) (x level : ℕ) (way rising : List Fetched) → IsRising level way rising → IsWayUp t x way → AreOnce (map raise rising)
rising_once t x _ _ _ (at_top level) up = tt
rising_once t x _ _ _ (high_enough level f fs high) up = tt
rising_once t x _ _ _ (rises level f fs rising most room rise) up =
    let parts = way_link t x f fs up in (
      once_above t f.id (map raise rising) (rising_above t f.id (level_of f.node.value + 1) fs rising rise parts.1),
      rising_once t f.id (level_of f.node.value + 1) fs rising rise parts.1,
    )

-- ---- of sound nodes

-- a fetched node is changed
abbrev pub IsChangedBy : List Change → Fetched → Type 0
IsChangedBy uppers f = IsSome (changed_at uppers f.id)

pub changed_more : (d : Change) (uppers : List Change) (f : Fetched) → IsChangedBy uppers f → IsChangedBy (d ∷ uppers) f
changed_more d uppers f some =
    elim (cases_eq f.id d.id) [
      | inl same ↦ (let here : IsSome (Some d.node) = search rules in subst (λ (o : Option Node). IsSome o) (sym (changed_at-same d uppers f.id same)) here)
      | inr other ↦ subst (λ (o : Option Node). IsSome o) (sym (changed_at-other d uppers f.id other)) some
    ]

pub all_changed : (rising : List Fetched) → AllByRecursion (IsChangedBy (map raise rising)) rising
all_changed [] = tt
all_changed (f ∷ rising) = (
  (let here : IsSome (Some (raised f.node.value)) = search rules in subst (λ (o : Option Node). IsSome o) (sym (changed_at-same (raise f) (map raise rising) f.id refl)) here),
  each_weaker (IsChangedBy (map raise rising)) (IsChangedBy (map raise (f ∷ rising))) (λ g some. changed_more (raise f) (map raise rising) g some) rising (all_changed rising),
)

-- a node whose level rises has room below the next one
pub has_room : (nodes : Nodes) (t : Table) (step : Step) (x level : ℕ) (n : Node) (way rising : List Fetched) → level ≡ level_of n → IsSound nodes t → IsRising level way rising → IsWayUp t x way → AllByRecursion (IsContents nodes) way → AllByRecursion (λ (g : Fetched). IsSome (given t.next step g.id)) rising → HasRoom nodes t step x n
has_room nodes t step x _ n _ _ is s (at_top level) up there changed = of_root (way_top t x up)
has_room nodes t step x _ n _ _ is s (high_enough level g gs high) up there changed =
    let link = (way_link t x g gs up).0 in
    under_all (λ q m at_q one.
    let same : q ≡ g.id = only_namer nodes t x g s link there.0 q m at_q one in
    let node : g.node.value ≡ m = same_Some g.node.value m (sym there.0 ∙ ap nodes (sym same) ∙ at_q) in
    let e : level_of g.node.value ≡ level_of m = ap level_of node in
    omega arith)
has_room nodes t step x _ n _ _ is s (rises level g gs rising low room rise) up there changed =
    let link = (way_link t x g gs up).0 in
    changed_too (record {
      each = λ q m at_q one. subst (λ (i : ℕ). IsSome (given t.next step i)) (sym (only_namer nodes t x g s link there.0 q m at_q one)) changed.0;
    })

-- the raised node has what it had
raise_meaning : (nodes : Nodes) (t : Table) (has : NodesAt) (f : Fetched) → IsSound nodes t → nodes f.id ≡ Some f.node.value → AllByRecursion (Agree has (at nodes)) (names f.node.value) → (k : List ℕ) → IsKey k → node_at has (raised f.node.value) k ≡ at nodes f.id k
raise_meaning nodes t has f s there agree k key =
    raised_has has f.node.value k
    ∙ node_at-same has (at nodes) f.node.value k agree
    ∙ sym (node_has-key (at nodes) f.node.value k key)
    ∙ sym ((at-meets nodes (sound-levelled nodes t s)).each f.id f.node.value there k)

pub rising_of : (nodes : Nodes) (t : Table) (c : ℕ) (h : Node) (uppers : List Change) (made : List Node) (x level : ℕ) (way rising : List Fetched) → IsSound nodes t → LeadsTo nodes c x → IsRising level way rising → IsWayUp t x way → AllByRecursion (IsContents nodes) way
    → AllByRecursion (λ (g : Fetched). IsSome (given t.next (path_step t.root c h uppers made) g.id)) rising
    → ((q : ℕ) (m : Node) → nodes q ≡ Some m → t.level x < t.level q → AllByRecursion (Agree (has_path nodes t.next c h made) (at nodes)) (names m))
    → AllByRecursion (IsUpperOf nodes t c h uppers made) (map raise rising)
rising_of nodes t c h uppers made x _ _ _ s leads (at_top level) up there changed agree = tt
rising_of nodes t c h uppers made x _ _ _ s leads (high_enough level f fs high) up there changed agree = tt
rising_of nodes t c h uppers made x _ _ _ s leads (rises level f fs rising most room rise) up there changed agree =
    let step : Step = path_step t.root c h uppers made in
    let parts = way_link t x f fs up in
    let lower : IsLower t (t.level f.id) x = link_lower t x f parts.0 in
    let down : t.level x < t.level f.id = lower.lower in
    let further : LeadsTo nodes c f.id = through f.id x f.node.value there.0 (link_names t x f parts.0) leads in (
      record {
        private = way_private nodes t f.id fs s parts.1 there.1;
        leads = further;
        room = has_room nodes t step f.id (level_of f.node.value + 1) (raised f.node.value) fs rising (sym (raised_level f.node.value (link_inner t x f parts.0))) s rise parts.1 there.1 changed.1;
        meaning = raise_meaning nodes t (has_path nodes t.next c h made) f s there.0 (agree f.id f.node.value there.0 down);
      },
      rising_of nodes t c h uppers made f.id (level_of f.node.value + 1) fs rising s further rise parts.1 there.1 changed.1
          (λ q m at_q more. agree q m at_q (let l : t.level f.id < t.level q = more in omega arith)),
    )
