-- What a graft leaves of the nodes, and of the table.
use Rattle.std.proofs.Common.{◌≡◌, ℕ, zero, suc, ◌+◌, ◌-◌, ◌<◌, ◌≤◌, Bool, List, [], ◌∷◌, ◌++◌, length, refl, sym, ap, subst, ◌∙◌, Option, None, Some, inl, inr, arith, length-append, Result, Ok, Err, OnOk, cond}
use Rattle.std.specs.Prelude.{◌⊎◌, slice_get, count_by, ◌==◌}
use Rattle.std.specs.List.{AllByRecursion, flat_map}
use Rattle.std.proofs.lemmas.Option.{same_Some, none-some, slice_get_within}
use Rattle.std.proofs.lemmas.Bool.{cases_lt, cases_eq}
use Rattle.std.proofs.lemmas.List.Sums.{sum_by-append}
use Rattle.std.proofs.lemmas.Grind.{flat_map-append}
use Rattle.bd_message.specs.declared.message.Message.{Message}
use Rattle.bd_node.specs.declared.node.Node.{Node}
use Rattle.bd_node.specs.declared.node.Node.TheVariants.{Leaf, Inner}
use Rattle.bd_node.specs.declared.node.Step.{Step}
use Rattle.bd_node.specs.Nodes.{level_of, names, times, message_names, edge_names, appended}
use Rattle.bd_node.specs.Meaning.{Nodes}
use Rattle.bd_node.specs.Tables.{Table, IsKept, IsTable, IsLower, IsSound}
use Rattle.bd_node.specs.Steps.{given, level_or, level_after, after, IsTableAfter, IsCommitted, extend_step}
use Rattle.bd_node.specs.Private.{IsReached}
use Rattle.bd_node.specs.Private.IsReached.{at_root, named}
use Rattle.bd_node.proofs.Lookup.{each_named, named_has, count-cons_same}
use Rattle.bd_node.proofs.Sound.{kept_there, named_lower}
use Rattle.bd_node.proofs.Privacy.{reached}
use Rattle.bd_node.proofs.Stepping.{touched_in, after-none, after-some, isolated_root, isolated_none}
use Rattle.bd_resolve.specs.declared.following.Target.{Target}
use Rattle.bd_graft.specs.declared.packing.Packed.{Packed}
use Rattle.bd_graft.specs.Packing.{IsUnder, AreOverlays, level_in, AreExact, IsOver}
use Rattle.bd_graft.specs.Grafting.{graft_messages, step_over, IsGrown, AreMade, IsGraftStep, AreOthersSame}
use Rattle.bd_graft.proofs.Packs.{get_first, get_last, level_kept, level_made, overlay_same}
use Rattle.bd_graft.proofs.Grafts.{get_some, made_given, graft_named, named_last, the_top, message_times, times_more, root_given, other_given, root_levels, over_none, IsUnderStep, IsOverStep}

-- ---- the made nodes

-- the nodes that a step makes begin with these
abbrev pub AreFirst : List Node → Step → Type 0
AreFirst made step = (place : ℕ) (n : Node) → slice_get made place ≡ Some n → slice_get step.made place ≡ Some n

-- a step that makes these nodes, and maybe others after them, and leaves the levels of the old ones
pub record IsMaking (nodes : Nodes) (t : Table) (step : Step) (made : List Node) (new : Nodes) (u : Table) : Type 0 where
  pub table : IsTable t
  pub levels : (c : ℕ) → IsKept t c → level_after t step c ≡ t.level c
  pub first : AreFirst made step
  pub after : IsTableAfter t step u
  pub committed : IsCommitted nodes t step new u
  pub overlays : AreOverlays t made
  pub exact : AreExact t made
  pub last : (place : ℕ) → length made ≡ suc place → IsKept u (t.next + place)

level_left : (nodes : Nodes) (t : Table) (step : Step) (made : List Node) (new : Nodes) (u : Table) → IsMaking nodes t step made new u → (place level c : ℕ) → IsUnder t made place level c → IsKept u c → level_in t made c ≡ u.level c
level_left nodes t step made new u h place level c own kept = elim own [
  | inl old ↦ level_kept t made c h.table old.kept ∙ sym (h.after.level c kept ∙ h.levels c old.kept)
  | inr older ↦
      ap (λ (i : ℕ). level_in t made i) older.id
      ∙ level_made t made older.at older.node older.there
      ∙ sym (h.after.level c kept ∙ ap (λ (i : ℕ). level_after t step i) older.id
      ∙ ap (λ (o : Option Node). level_or o (t.level (t.next + older.at))) (made_given t step older.at older.node (h.first older.at older.node older.there)))
]

made_there : (nodes : Nodes) (t : Table) (step : Step) (made : List Node) (new : Nodes) (u : Table) → IsMaking nodes t step made new u → (place : ℕ) (n : Node) → slice_get made place ≡ Some n → IsKept u (t.next + place) → new (t.next + place) ≡ Some n
made_there nodes t step made new u h place n there kept = h.committed.stays (t.next + place) kept ∙ after-some nodes t step (t.next + place) n (made_given t step place n (h.first place n there))

made_kept : (nodes : Nodes) (t : Table) (step : Step) (made : List Node) (new : Nodes) (u : Table) → IsMaking nodes t step made new u → (more place : ℕ) → length made ≡ suc (place + more) → IsKept u (t.next + place)
made_kept nodes t step made new u h zero place long = h.last place (omega (arith, long))
made_kept nodes t step made new u h (suc more) place long =
    let up : IsKept u (t.next + suc place) = made_kept nodes t step made new u h more (suc place) (omega (arith, long)) in
    let found = get_some made (suc place) (omega (arith, long)) in
    (named_lower new u h.committed.sound (t.next + suc place) found.0 (made_there nodes t step made new u h (suc place) found.0 found.1 up) (t.next + place) (h.overlays.used place found.0 found.1)).kept

pub made_left : (nodes : Nodes) (t : Table) (step : Step) (made : List Node) (new : Nodes) (u : Table) → IsMaking nodes t step made new u → AreMade new u t.next made
made_left nodes t step made new u h place n there =
    let within : place < length made = slice_get_within made place n there in
    let kept : IsKept u (t.next + place) = made_kept nodes t step made new u h (length made - suc place) place (omega arith) in
    let here : new (t.next + place) ≡ Some n = made_there nodes t step made new u h place n there kept in
    let same : AllByRecursion (λ c. level_in t made c ≡ u.level c) (names n) = each_named (λ c. level_in t made c ≡ u.level c) (names n)
    (λ c one. level_left nodes t step made new u h place (level_of n) c (named_has (IsUnder t made place (level_of n)) c (names n) (h.overlays.lower place n there) one)
    (named_lower new u h.committed.sound (t.next + place) n here c one).kept) in
    (here, overlay_same (level_in t made) u.level n same (h.exact place n there))

-- ---- the old nodes

-- each node that was kept stays, where what replaces a node names what it named
all_stay : (nodes : Nodes) (t : Table) (step : Step) (new : Nodes) (u : Table) → IsCommitted nodes t step new u → IsKept u t.root
    → ((p : ℕ) (n : Node) (c : ℕ) → nodes p ≡ Some n → 1 ≤ times n c → (m : Node) × (after nodes t step p ≡ Some m) × (1 ≤ times m c)) → (id : ℕ) → IsReached nodes t.root id → IsKept u id
all_stay nodes t step new u committed root on id at_root = root
all_stay nodes t step new u committed root on id (named p _ n up there one) =
    let kept : IsKept u p = all_stay nodes t step new u committed root on p up in
    let found = on p n id there one in
    (named_lower new u committed.sound p found.0 (committed.stays p kept ∙ found.1) id found.2).kept

times_kept : (n : Node) (list : List Message) (c : ℕ) → 1 ≤ times n c → 1 ≤ times (appended n list) c
times_kept (Leaf entries) list c one = one
times_kept (Inner level es buffer) list c one =
    omega (
      arith,
      one,
      sum_by-append (λ (x : ℕ). cond (x == c) 1 0) (flat_map edge_names es) (flat_map message_names buffer),
      sum_by-append (λ (x : ℕ). cond (x == c) 1 0) (flat_map edge_names es) (flat_map message_names (buffer ++ list)),
      ap (λ (ns : List ℕ). count_by (λ name. name == c) ns) (flat_map-append message_names buffer list),
      sum_by-append (λ (x : ℕ). cond (x == c) 1 0) (flat_map message_names buffer) (flat_map message_names list),
    )

-- no other id below the next one is kept then
none_back : (nodes : Nodes) (t : Table) (step : Step) (new : Nodes) (u : Table) → IsSound nodes t → IsCommitted nodes t step new u → ((id : ℕ) → id < t.next → (IsKept t id → ⊥) → given t.next step id ≡ None) → (id : ℕ) → IsKept u id → IsKept t id ⊎ (t.next ≤ id)
none_back nodes t step new u sound committed none id kept = elim (cases_lt id t.next) [
  | inr high ↦ inr high
  | inl low ↦ elim (cases_lt 0 (t.count id)) [
    | inl some ↦ inl (omega arith)
    | inr zero_is ↦ absurd (
        let stored = committed.sound.each id kept in
        none-some stored.node (sym (sound.others id (omega arith)) ∙ sym (after-none nodes t step id (none id low (λ old. omega arith))) ∙ sym (committed.stays id kept) ∙ stored.there))
  ]
]

-- each made id is kept then
fresh_made : (nodes : Nodes) (t : Table) (step : Step) (made : List Node) (new : Nodes) (u : Table) → IsMaking nodes t step made new u → (id : ℕ) → t.next ≤ id → id < t.next + length made → IsKept u id
fresh_made nodes t step made new u h id high low =
    let place : ℕ = id - t.next in
    let found = get_some made place (omega arith) in
    subst (λ (i : ℕ). IsKept u i) (let is : t.next + place ≡ id = omega arith in is) (kept_there new u h.committed.sound (t.next + place) found.0 (made_left nodes t step made new u h place found.0 found.1).0)

-- what is packed stands where it is named
last_kept : (t : Table) (made : List Node) (level : ℕ) (target : Target) (u : Table) → IsOver t made level (Some target) → IsKept u target.child → (place : ℕ) → length made ≡ suc place → IsKept u (t.next + place)
last_kept t made level target u over kept place long = named_last (λ n. Unit {0}) t made level target place (λ (c : ℕ). IsKept u c) over long kept

target_old : (t : Table) (made : List Node) (level : ℕ) (target : Target) → IsOver t made level (Some target) → made ≡ [] → IsKept t target.child
target_old t made level target over none = elim over.lower.0 [
  | inl old ↦ old.kept
  | inr older ↦ absurd (let less : older.at < length made = older.before in let e : length made ≡ 0 = ap (λ (ns : List Node). length ns) none in omega arith)
]

-- ---- into the root

-- the step of a graft into the root was made
pub record IsUnderDone (known : Type 0) (nodes : Nodes) (t : Table) (n : Node) (packed : Packed) (s d : List ℕ) (keep : Bool) (new : Nodes) (u : Table) : Type 0 where
  pub step : IsUnderStep known nodes t n packed s d keep (extend_step t n packed.made.items (graft_messages s d keep packed.target))
  pub sound : IsSound nodes t
  pub there : nodes t.root ≡ Some n
  pub after : IsTableAfter t (extend_step t n packed.made.items (graft_messages s d keep packed.target)) u
  pub committed : IsCommitted nodes t (extend_step t n packed.made.items (graft_messages s d keep packed.target)) new u

under_new : (known : Type 0) (nodes : Nodes) (t : Table) (n : Node) (packed : Packed) (s d : List ℕ) (keep : Bool) (new : Nodes) (u : Table) → IsUnderDone known nodes t n packed s d keep new u → new t.root ≡ Some (appended n (graft_messages s d keep packed.target))
under_new known nodes t n packed s d keep new u h =
    let list : List Message = graft_messages s d keep packed.target in
    h.committed.stays t.root (subst (λ (r : ℕ). IsKept u r) h.after.root h.after.table.root)
    ∙ after-some nodes t (extend_step t n packed.made.items list) t.root (appended n list) (root_given t n packed.made.items list (h.sound.table.below t.root h.sound.table.root))

under_target : (known : Type 0) (nodes : Nodes) (t : Table) (n : Node) (packed : Packed) (s d : List ℕ) (keep : Bool) (new : Nodes) (u : Table) → IsUnderDone known nodes t n packed s d keep new u → IsLower u (u.level t.root) packed.target.child
under_target known nodes t n packed s d keep new u h =
    let list : List Message = graft_messages s d keep packed.target in
    let inner : 1 ≤ level_of n = (let i : 1 ≤ t.level t.root = h.sound.table.inner in let o : level_of n ≡ t.level t.root = h.step.low.own.level_is in omega arith) in
    named_lower new u h.committed.sound t.root (appended n list) (under_new known nodes t n packed s d keep new u h) packed.target.child (times_more n list packed.target.child inner (graft_named s d keep packed.target))

under_on : (nodes : Nodes) (t : Table) (n : Node) (made : List Node) (list : List Message) → IsSound nodes t → nodes t.root ≡ Some n → (p : ℕ) (m : Node) (c : ℕ) → nodes p ≡ Some m → 1 ≤ times m c
    → (x : Node) × (after nodes t (extend_step t n made list) p ≡ Some x) × (1 ≤ times x c)
under_on nodes t n made list sound here p m c there one = elim (cases_eq p t.root) [
  | inl same ↦ (
    appended n list,
    ap (λ (i : ℕ). after nodes t (extend_step t n made list) i) same ∙ after-some nodes t (extend_step t n made list) t.root (appended n list) (root_given t n made list (sound.table.below t.root sound.table.root)),
    times_kept n list c (subst (λ (q : Node). 1 ≤ times q c) (same_Some m n (sym there ∙ ap nodes same ∙ here)) one),
  )
  | inr other ↦ (m, after-none nodes t (extend_step t n made list) p (other_given t n made list p (sound.table.below p (kept_there nodes t sound p m there)) other) ∙ there, one)
]

under_step_left : (known : Type 0) (nodes : Nodes) (t : Table) (n : Node) (packed : Packed) (s d : List ℕ) (keep : Bool) (new : Nodes) (u : Table) → IsUnderDone known nodes t n packed s d keep new u → known → IsGraftStep nodes t s d keep new u
under_step_left known nodes t n packed s d keep new u h k =
    let list : List Message = graft_messages s d keep packed.target in
    let made : List Node = packed.made.items in
    let step : Step = extend_step t n made list in
    let kept : IsKept u t.root = subst (λ (r : ℕ). IsKept u r) h.after.root h.after.table.root in
    let target : IsLower u (u.level t.root) packed.target.child = under_target known nodes t n packed s d keep new u h in
    let levels : (c : ℕ) → IsKept t c → level_after t step c ≡ t.level c = root_levels t n made list h.step.low.table h.step.low.own in
    let level : u.level t.root ≡ t.level t.root = h.after.level t.root kept ∙ levels t.root h.sound.table.root in
    let making : IsMaking nodes t step made new u = record {
      table = h.sound.table;
      levels = levels;
      first = λ place m there. there;
      after = h.after;
      committed = h.committed;
      overlays = h.step.ready.packed_is.overlays;
      exact = h.step.ready.packed_is.exact;
      last = last_kept t made (packed.level + 1) packed.target u h.step.ready.packed_is.over target.kept;
    } in
    let next : u.next ≡ t.next + length made = h.after.next in
    record {
      made = made;
      target = packed.target;
      top = packed.level + 1;
      sent = h.step.ready.sent k h.sound;
      there = made_left nodes t step made new u making;
      old = target_old t made (packed.level + 1) packed.target h.step.ready.packed_is.over;
      root = inl (record {
        root = h.after.root;
        next_is = h.after.next;
        old = n;
        old_is = h.there;
        new_is = under_new known nodes t n packed s d keep new u h;
        low = (let low : u.level packed.target.child < u.level t.root = target.lower in omega (arith, level));
      });
      stay = λ id kept_id. all_stay nodes t step new u h.committed kept (under_on nodes t n made list h.sound h.there) id (reached nodes t h.sound id kept_id);
      fresh = λ id high low. fresh_made nodes t step made new u making id high (omega (arith, low, next));
      only = none_back nodes t step new u h.sound h.committed (λ id low no. other_given t n made list id low (λ same. no (subst (λ (r : ℕ). IsKept t r) (sym same) h.sound.table.root)));
    }

under_others : (known : Type 0) (nodes : Nodes) (t : Table) (n : Node) (packed : Packed) (s d : List ℕ) (keep : Bool) (new : Nodes) (u : Table) → IsUnderDone known nodes t n packed s d keep new u → AreOthersSame nodes t new u
under_others known nodes t n packed s d keep new u h =
    let list : List Message = graft_messages s d keep packed.target in
    let made : List Node = packed.made.items in
    let step : Step = extend_step t n made list in
    record {
      node = λ id kept stays other.
          h.committed.stays id stays
          ∙ after-none nodes t step id (other_given t n made list id (h.sound.table.below id kept) (λ same. other (same ∙ sym h.after.root)));
      meaning = λ id kept stays other. isolated_root nodes t step new u h.sound h.committed (refl, tt) id kept stays (λ same. other (same ∙ sym h.after.root));
    }

under_was : (known : Type 0) (nodes : Nodes) (t : Table) (n : Node) (packed : Packed) (s d : List ℕ) (keep : Bool) (step : Step) (new : Nodes) (u : Table) → IsUnderStep known nodes t n packed s d keep step → IsSound nodes t → nodes t.root ≡ Some n → IsTableAfter t step u → IsCommitted nodes t step new u
    → IsUnderDone known nodes t n packed s d keep new u
under_was known nodes t n packed s d keep step new u h sound there after committed = record {
  step = record { ready = h.ready; low = h.low; is = refl };
  sound = sound;
  there = there;
  after = subst (λ (q : Step). IsTableAfter t q u) h.is after;
  committed = subst (λ (q : Step). IsCommitted nodes t q new u) h.is committed;
}

pub under_left : {T E : Type 0} (known : Type 0) (nodes : Nodes) (t : Table) (n : Node) (packed : Packed) (s d : List ℕ) (keep : Bool) (step : Step) (new : Nodes) (u : Table) (r : Result T E) → IsUnderStep known nodes t n packed s d keep step → known → IsSound nodes t → nodes t.root ≡ Some n
    → OnOk r (IsTableAfter t step u) → OnOk r (IsCommitted nodes t step new u) → OnOk r (IsGraftStep nodes t s d keep new u)
under_left known nodes t n packed s d keep step new u (Ok x) h k sound there after committed = under_step_left known nodes t n packed s d keep new u (under_was known nodes t n packed s d keep step new u h sound there after committed) k
under_left known nodes t n packed s d keep step new u (Err e) h k sound there after committed = tt

pub under_same : {T E : Type 0} (known : Type 0) (nodes : Nodes) (t : Table) (n : Node) (packed : Packed) (s d : List ℕ) (keep : Bool) (step : Step) (new : Nodes) (u : Table) (r : Result T E) → IsUnderStep known nodes t n packed s d keep step → IsSound nodes t → nodes t.root ≡ Some n
    → OnOk r (IsTableAfter t step u) → OnOk r (IsCommitted nodes t step new u) → OnOk r (AreOthersSame nodes t new u)
under_same known nodes t n packed s d keep step new u (Ok x) h sound there after committed = under_others known nodes t n packed s d keep new u (under_was known nodes t n packed s d keep step new u h sound there after committed)
under_same known nodes t n packed s d keep step new u (Err e) h sound there after committed = tt

-- the table after it
pub under_grown : {T E : Type 0} (known : Type 0) (nodes : Nodes) (t : Table) (n : Node) (packed : Packed) (s d : List ℕ) (keep : Bool) (step : Step) (u : Table) (r : Result T E) → IsUnderStep known nodes t n packed s d keep step → length packed.made.items ≤ t.level t.root + 1
    → OnOk r (IsTableAfter t step u) → OnOk r (IsGrown t u)
under_grown known nodes t n packed s d keep step u (Ok x) h few ok =
    let list : List Message = graft_messages s d keep packed.target in
    let made : List Node = packed.made.items in
    let after : IsTableAfter t (extend_step t n made list) u = subst (λ (q : Step). IsTableAfter t q u) h.is ok in
    let levels : (id : ℕ) → IsKept t id → IsKept u id → u.level id ≡ t.level id = λ id kept stays. after.level id stays ∙ root_levels t n made list h.low.table h.low.own id kept in
    let level : u.level u.root ≡ t.level t.root = ap u.level after.root ∙ levels t.root h.low.table.root (subst (λ (r : ℕ). IsKept u r) after.root after.table.root) in
    let next : u.next ≡ t.next + length made = after.next in
    record {
      later = omega arith;
      few = omega arith;
      low = omega arith;
      high = omega arith;
      same_root = λ e. after.root;
      new_root = λ less. absurd (omega (arith, less, level));
      levels = levels;
      touched = touched_in (λ (i : ℕ). i ≡ t.root) t u (extend_step t n made list) after (refl, tt);
    }
under_grown known nodes t n packed s d keep step u (Err e) h few ok = tt

-- ---- into a new root over the old one

-- the step of a graft into a new root was made
pub record IsOverDone (known : Type 0) (nodes : Nodes) (t : Table) (packed : Packed) (s d : List ℕ) (keep : Bool) (new : Nodes) (u : Table) : Type 0 where
  pub step : IsOverStep known nodes t packed s d keep (step_over t packed.made.items (graft_messages s d keep packed.target))
  pub tight : t.level t.root ≤ packed.level
  pub sound : IsSound nodes t
  pub after : IsTableAfter t (step_over t packed.made.items (graft_messages s d keep packed.target)) u
  pub committed : IsCommitted nodes t (step_over t packed.made.items (graft_messages s d keep packed.target)) new u

over_new : (known : Type 0) (nodes : Nodes) (t : Table) (packed : Packed) (s d : List ℕ) (keep : Bool) (new : Nodes) (u : Table) → IsOverDone known nodes t packed s d keep new u → new (t.next + length packed.made.items) ≡ Some (the_top t (graft_messages s d keep packed.target))
over_new known nodes t packed s d keep new u h =
    let top : Node = the_top t (graft_messages s d keep packed.target) in
    let made : List Node = packed.made.items in
    let step : Step = step_over t made (graft_messages s d keep packed.target) in
    h.committed.stays (t.next + length made) (subst (λ (r : ℕ). IsKept u r) h.after.root h.after.table.root)
    ∙ after-some nodes t step (t.next + length made) top (made_given t step (length made) top (get_last made top))

over_names : (known : Type 0) (nodes : Nodes) (t : Table) (packed : Packed) (s d : List ℕ) (keep : Bool) (new : Nodes) (u : Table) → IsOverDone known nodes t packed s d keep new u → (c : ℕ) → 1 ≤ times (the_top t (graft_messages s d keep packed.target)) c → IsKept u c
over_names known nodes t packed s d keep new u h c one =
    (named_lower new u h.committed.sound (t.next + length packed.made.items) (the_top t (graft_messages s d keep packed.target)) (over_new known nodes t packed s d keep new u h) c one).kept

over_levels : (t : Table) (made : List Node) (list : List Message) → IsTable t → (c : ℕ) → IsKept t c → level_after t (step_over t made list) c ≡ t.level c
over_levels t made list table c kept = ap (λ (o : Option Node). level_or o (t.level c)) (over_none t made list c (table.below c kept))

over_making : (known : Type 0) (nodes : Nodes) (t : Table) (packed : Packed) (s d : List ℕ) (keep : Bool) (new : Nodes) (u : Table) → IsOverDone known nodes t packed s d keep new u → IsKept u packed.target.child → IsMaking nodes t (step_over t packed.made.items (graft_messages s d keep packed.target)) packed.made.items new u
over_making known nodes t packed s d keep new u h kept = record {
  table = h.sound.table;
  levels = over_levels t packed.made.items (graft_messages s d keep packed.target) h.sound.table;
  first = λ place m there. get_first packed.made.items (the_top t (graft_messages s d keep packed.target) ∷ []) place m there;
  after = h.after;
  committed = h.committed;
  overlays = h.step.ready.packed_is.overlays;
  exact = h.step.ready.packed_is.exact;
  last = last_kept t packed.made.items (packed.level + 1) packed.target u h.step.ready.packed_is.over kept;
}

over_step_left : (known : Type 0) (nodes : Nodes) (t : Table) (packed : Packed) (s d : List ℕ) (keep : Bool) (new : Nodes) (u : Table) → IsOverDone known nodes t packed s d keep new u → known → IsGraftStep nodes t s d keep new u
over_step_left known nodes t packed s d keep new u h k =
    let list : List Message = graft_messages s d keep packed.target in
    let made : List Node = packed.made.items in
    let step : Step = step_over t made list in
    let top : Node = the_top t list in
    let kept : IsKept u t.root = over_names known nodes t packed s d keep new u h t.root (omega (arith, count-cons_same t.root (flat_map message_names list))) in
    let target : IsKept u packed.target.child = over_names known nodes t packed s d keep new u h packed.target.child (message_times (t.level t.root + 1) (Some (record { child = t.root; source = [] })) list packed.target.child (graft_named s d keep packed.target)) in
    let making : IsMaking nodes t step made new u = over_making known nodes t packed s d keep new u h target in
    let level : u.level packed.target.child ≡ packed.level =
    sym (h.step.ready.packed_is.level_is ∙ level_left nodes t step made new u making (length made) (packed.level + 1) packed.target.child h.step.ready.packed_is.over.lower.0 target) in
    let next : u.next ≡ t.next + length (made ++ top ∷ []) = h.after.next in
    let long : length (made ++ top ∷ []) ≡ length made + 1 = length-append made (top ∷ []) in
    record {
      made = made;
      target = packed.target;
      top = packed.level + 1;
      sent = h.step.ready.sent k h.sound;
      there = made_left nodes t step made new u making;
      old = target_old t made (packed.level + 1) packed.target h.step.ready.packed_is.over;
      root = inr (record {
        root = h.after.root;
        next_is = omega (arith, next, long);
        old_is = h.committed.stays t.root kept ∙ after-none nodes t step t.root (over_none t made list t.root (h.sound.table.below t.root h.sound.table.root));
        new_is = over_new known nodes t packed s d keep new u h;
        high = (let tight : t.level t.root ≤ packed.level = h.tight in omega (arith, level));
      });
      stay = λ id kept_id. all_stay nodes t step new u h.committed kept
          (λ p m c there one. (m, after-none nodes t step p (over_none t made list p (h.sound.table.below p (kept_there nodes t h.sound p m there))) ∙ there, one)) id (reached nodes t h.sound id kept_id);
      fresh = λ id high low. elim (cases_lt id (t.next + length made)) [
        | inl less ↦ fresh_made nodes t step made new u making id high less
        | inr last ↦ subst (λ (i : ℕ). IsKept u i) (let is : u.root ≡ id = omega (arith, h.after.root, next, long, low, last) in is) h.after.table.root
      ];
      only = none_back nodes t step new u h.sound h.committed (λ id low no. over_none t made list id low);
    }

over_others : (known : Type 0) (nodes : Nodes) (t : Table) (packed : Packed) (s d : List ℕ) (keep : Bool) (new : Nodes) (u : Table) → IsOverDone known nodes t packed s d keep new u → AreOthersSame nodes t new u
over_others known nodes t packed s d keep new u h =
    let list : List Message = graft_messages s d keep packed.target in
    let made : List Node = packed.made.items in
    let step : Step = step_over t made list in
    record {
      node = λ id kept stays other. h.committed.stays id stays ∙ after-none nodes t step id (over_none t made list id (h.sound.table.below id kept));
      meaning = λ id kept stays other. isolated_none nodes t step new u h.sound h.committed refl id kept stays;
    }

over_was : (known : Type 0) (nodes : Nodes) (t : Table) (packed : Packed) (s d : List ℕ) (keep : Bool) (step : Step) (new : Nodes) (u : Table) → IsOverStep known nodes t packed s d keep step → t.level t.root ≤ packed.level → IsSound nodes t → IsTableAfter t step u → IsCommitted nodes t step new u
    → IsOverDone known nodes t packed s d keep new u
over_was known nodes t packed s d keep step new u h tight sound after committed = record {
  step = record { ready = h.ready; high = h.high; is = refl };
  tight = tight;
  sound = sound;
  after = subst (λ (q : Step). IsTableAfter t q u) h.is after;
  committed = subst (λ (q : Step). IsCommitted nodes t q new u) h.is committed;
}

pub over_left : {T E : Type 0} (known : Type 0) (nodes : Nodes) (t : Table) (packed : Packed) (s d : List ℕ) (keep : Bool) (step : Step) (new : Nodes) (u : Table) (r : Result T E) → IsOverStep known nodes t packed s d keep step → t.level t.root ≤ packed.level → known → IsSound nodes t
    → OnOk r (IsTableAfter t step u) → OnOk r (IsCommitted nodes t step new u) → OnOk r (IsGraftStep nodes t s d keep new u)
over_left known nodes t packed s d keep step new u (Ok x) h tight k sound after committed = over_step_left known nodes t packed s d keep new u (over_was known nodes t packed s d keep step new u h tight sound after committed) k
over_left known nodes t packed s d keep step new u (Err e) h tight k sound after committed = tt

pub over_same : {T E : Type 0} (known : Type 0) (nodes : Nodes) (t : Table) (packed : Packed) (s d : List ℕ) (keep : Bool) (step : Step) (new : Nodes) (u : Table) (r : Result T E) → IsOverStep known nodes t packed s d keep step → t.level t.root ≤ packed.level → IsSound nodes t
    → OnOk r (IsTableAfter t step u) → OnOk r (IsCommitted nodes t step new u) → OnOk r (AreOthersSame nodes t new u)
over_same known nodes t packed s d keep step new u (Ok x) h tight sound after committed = over_others known nodes t packed s d keep new u (over_was known nodes t packed s d keep step new u h tight sound after committed)
over_same known nodes t packed s d keep step new u (Err e) h tight sound after committed = tt

-- the table after it
pub over_grown : {T E : Type 0} (known : Type 0) (nodes : Nodes) (t : Table) (packed : Packed) (s d : List ℕ) (keep : Bool) (step : Step) (u : Table) (r : Result T E) → IsOverStep known nodes t packed s d keep step → length packed.made.items ≤ t.level t.root + 1
    → OnOk r (IsTableAfter t step u) → OnOk r (IsGrown t u)
over_grown known nodes t packed s d keep step u (Ok x) h few ok =
    let list : List Message = graft_messages s d keep packed.target in
    let made : List Node = packed.made.items in
    let top : Node = the_top t list in
    let after : IsTableAfter t (step_over t made list) u = subst (λ (q : Step). IsTableAfter t q u) h.is ok in
    let level : u.level u.root ≡ t.level t.root + 1 =
    after.level u.root after.table.root
    ∙ ap (λ (i : ℕ). level_after t (step_over t made list) i) after.root
    ∙ ap (λ (o : Option Node). level_or o (t.level (t.next + length made))) (made_given t (step_over t made list) (length made) top (get_last made top)) in
    let next : u.next ≡ t.next + length (made ++ top ∷ []) = after.next in
    let long : length (made ++ top ∷ []) ≡ length made + 1 = length-append made (top ∷ []) in
    let root : u.root ≡ t.next + length made = after.root in
    record {
      later = omega arith;
      few = omega arith;
      low = omega arith;
      high = omega arith;
      same_root = λ e. absurd (omega (arith, e, level));
      new_root = λ less. (omega arith, omega arith);
      levels = λ id kept stays. after.level id stays ∙ over_levels t made list h.high.table id kept;
      touched = touched_in (λ (i : ℕ). i ≡ t.root) t u (step_over t made list) after tt;
    }
over_grown known nodes t packed s d keep step u (Err e) h few ok = tt
