-- What the step of a graft leaves.
use Rattle.std.proofs.Common.{◌≡◌, ℕ, zero, suc, ◌+◌, ◌-◌, ◌<◌, ◌≤◌, ◌^◌, Bool, true, false, cond, List, [], ◌∷◌, ◌++◌, length, refl, sym, ap, subst, ◌∙◌, Option, None, Some, inl, inr, arith, length-append, Result, Ok, Err, OnOk}
use Rattle.std.specs.Prelude.{slice_get, count_by, ◌==◌}
use Rattle.std.proofs.Math.Nat.{le-max_left}
use Rattle.std.specs.List.{AllByRecursion, flat_map, sum_by}
use Rattle.std.proofs.lemmas.Option.{same_Some, none-some, slice_get_within}
use Rattle.std.proofs.lemmas.Bool.{cases_lt, cases_eq}
use Rattle.std.proofs.lemmas.List.Sums.{sum_by-cons, sum_by-append}
use Rattle.bd_limits.specs.Limits.{key_limit, buffer_limit, level_limit}
use Rattle.bd_keys.specs.Keys.{IsKey}
use Rattle.bd_keys.proofs.Order.{IsKey-drop}
use Rattle.bd_message.specs.declared.message.Message.{Message}
use Rattle.bd_message.specs.declared.message.Message.TheVariants.{Goto, Cut}
use Rattle.bd_message.specs.Messages.{IsMessage, size}
use Rattle.bd_message.specs.Effect.{NodesAt, begins, rest, acts}
use Rattle.bd_message.specs.KeyMaps.{HasMapCause, At, grafted, IsGrafted}
use Rattle.bd_node.specs.declared.node.Node.{Node}
use Rattle.bd_node.specs.declared.node.Change.{Change}
use Rattle.bd_node.specs.declared.node.Step.{Step}
use Rattle.bd_node.specs.Nodes.{level_of, buffer_size, names, times, message_names, edge_names, appended, node_at}
use Rattle.bd_node.specs.Meaning.{Nodes, at, IsLevelled}
use Rattle.bd_node.specs.Shape.{IsShape}
use Rattle.bd_node.specs.Tables.{Table, IsKept, IsTable, IsLower, IsNodeOf, IsStored, IsSound, one_if, root_at}
use Rattle.bd_node.specs.Steps.{given, after, level_or, level_after, given_times, IsThere, IsNamable, IsPut, IsChange, AreOnce, IsStep, IsInPlace, IsTableAfter, IsCommitted, IsWornBy, IsRootOf, extend_step}
use Rattle.bd_message.specs.declared.fault.MapFault.{MapFault}
use Rattle.bd_node.proofs.Lookup.{Agree, acts-same, node_at-same, each_weaker, each_first, each_second, each_both, count-cons_same, count-cons_le}
use Rattle.bd_node.proofs.Meanings.{at-meets, at_untouched}
use Rattle.bd_node.proofs.LawLemmas.{keys_meet}
use Rattle.bd_node.proofs.Sound.{sound-levelled, one_if-same}
use Rattle.bd_node.proofs.Stepping.{given-old, given-new, changed_at-same, changed_at-other, after-none, after-some, committed_meaning}
use Rattle.bd_node.proofs.Closing.{begun, stay_above}
use Rattle.bd_node.proofs.Appending.{level_appended, node_at-appended, shape_appended}
use Rattle.bd_node.proofs.Privacy.{root_private}
use Rattle.bd_node.specs.Steps.HasRoom.{of_root}
use Rattle.bd_node.specs.declared.node.Node.TheVariants.{Leaf, Inner}
use Rattle.std.proofs.lemmas.Grind.{flat_map-append}
use Rattle.bd_message.proofs.Prefixes.{is_cut-all}
use Rattle.bd_resolve.specs.declared.following.Target.{Target}
use Rattle.bd_resolve.specs.Following.{target_at, IsLowerTarget}
use Rattle.bd_graft.specs.declared.layers.Layer.{Layer}
use Rattle.bd_graft.specs.declared.packing.Packed.{Packed}
use Rattle.bd_graft.specs.Layers.{above, laid, AreLayers}
use Rattle.bd_graft.specs.Packing.{overlay, target_names, HasMade, IsUnder, AreOverlays, IsOver, IsPacked}
use Rattle.bd_graft.proofs.Freeing.{names_both}
use Rattle.bd_graft.proofs.Packs.{get_first, get_last, lower_more, no_more, one_more, id_range, overlay_has, overlay_shape}
use Rattle.bd_graft.specs.Grafting.{graft_messages, top_made, step_over, IsReady}

-- ---- what the messages of a graft do

if_begins : (b : Bool) (x y v w : Option (List ℕ)) → x ≡ y → v ≡ w → cond b x v ≡ cond b y w
if_begins true x y v w e f = e
if_begins false x y v w e f = f

pub graft_acts : (has : NodesAt) (old : At) (s d : List ℕ) (keep : Bool) (target : Target) (k : List ℕ) (v : Option (List ℕ)) → ((r : List ℕ) → IsKey r → target_at has (Some target) r ≡ old (s ++ r)) → v ≡ old k → IsKey k → acts has (graft_messages s d keep target) k v ≡ grafted old s d keep k
graft_acts has old s d true target k v moved same key =
    if_begins (begins k d) (has target.child (target.source ++ rest d k)) (old (s ++ rest d k)) v (old k) (moved (rest d k) (IsKey-drop (length d) k key)) same
graft_acts has old s d false target k v moved same key =
    ap (λ (b : Bool). cond b None (cond (begins k d) (has target.child (target.source ++ rest d k)) v)) (is_cut-all s k)
    ∙ ap (λ (x : Option (List ℕ)). cond (begins k s) None x)
    (if_begins (begins k d) (has target.child (target.source ++ rest d k)) (old (s ++ rest d k)) v (old k) (moved (rest d k) (IsKey-drop (length d) k key)) same)

-- ---- steps that make overlay nodes

pub each_from_get : {A : Type 0} (P : A → Type 0) (xs : List A) → ((i : ℕ) (x : A) → slice_get xs i ≡ Some x → P x) → AllByRecursion P xs
each_from_get P [] h = tt
each_from_get P (x ∷ xs) h = (h 0 x refl, each_from_get P xs (λ i y there. h (suc i) y there))

pub get_some : {A : Type 0} (xs : List A) (i : ℕ) → i < length xs → (x : A) × (slice_get xs i ≡ Some x)
get_some [] i less = absurd (omega arith)
get_some (x ∷ xs) zero less = (x, refl)
get_some (x ∷ xs) (suc i) less = get_some xs i (omega arith)

sum_at : (made : List Node) (c i : ℕ) (n : Node) → slice_get made i ≡ Some n → times n c ≤ sum_by (λ m. times m c) made
sum_at [] c i n there = absurd (none-some n there)
sum_at (m ∷ ms) c zero n there = (let e : times m c ≡ times n c = ap (λ (x : Node). times x c) (same_Some m n there) in omega (arith, sum_by-cons (λ x. times x c) m ms))
sum_at (m ∷ ms) c (suc i) n there = omega (arith, sum_at ms c i n there, sum_by-cons (λ x. times x c) m ms)

-- a step whose made nodes are overlay nodes, and that leaves the levels of the old ones
pub record IsOverlaying (t : Table) (step : Step) : Type 0 where
  pub table : IsTable t
  pub overlays : AreOverlays t step.made
  pub levels : (c : ℕ) → IsKept t c → level_after t step c ≡ t.level c
  pub changes : AllByRecursion (IsChange t step) step.changes
  pub once : AreOnce step.changes
  pub root : IsThere t step step.root
  pub inner : 1 ≤ level_after t step step.root
  pub last : (place : ℕ) → length step.made ≡ suc place → 1 ≤ given_times step (t.next + place) + one_if step.root (t.next + place)

pub made_given : (t : Table) (step : Step) (place : ℕ) (n : Node) → slice_get step.made place ≡ Some n → given t.next step (t.next + place) ≡ Some n
made_given t step place n there = given-new t.next step (t.next + place) (omega arith) ∙ ap (λ (i : ℕ). slice_get step.made i) (let z : t.next + place - t.next ≡ place = omega arith in z) ∙ there

pub namable : (t : Table) (step : Step) (place low high : ℕ) → ((c : ℕ) → IsKept t c → level_after t step c ≡ t.level c) → place ≤ length step.made → low ≤ high → (ns : List ℕ) → AllByRecursion (IsUnder t step.made place low) ns → AllByRecursion (IsNamable t step high) ns
namable t step place low high levels within le ns h =
    each_weaker (IsUnder t step.made place low) (IsNamable t step high)
    (λ c own. elim own [
      | inl old ↦ record { there = inl old.kept; lower = (let l : t.level c < low = old.lower in omega (arith, levels c old.kept)) }
      | inr older ↦ record {
        there = (let e : c ≡ t.next + older.at = older.id in let b : older.at < place = older.before in inr (omega arith, omega arith));
        lower = (let e : level_after t step c ≡ level_of older.node = ap (λ (i : ℕ). level_after t step i) older.id ∙ ap (λ (o : Option Node). level_or o (t.level (t.next + older.at))) (made_given t step older.at older.node older.there) in
            let l : level_of older.node < low = older.lower in omega arith);
      }
    ]) ns h

pub overlaying_step : (t : Table) (step : Step) → IsOverlaying t step → IsStep t step
overlaying_step t step h = record {
  made = each_from_get (IsPut t step) step.made (λ place n there. record {
    shape = h.overlays.shape place n there;
    lower = namable t step place (level_of n) (level_of n) h.levels (let w : place < length step.made = slice_get_within step.made place n there in omega arith) (omega arith) (names n) (h.overlays.lower place n there);
  });
  changes = h.changes;
  once = h.once;
  root = h.root;
  inner = h.inner;
  used = λ id high low.
      let place : ℕ = id - t.next in
      let is : t.next + place ≡ id = omega arith in
      elim (cases_lt (suc place) (length step.made)) [
        | inl more ↦ (let found = get_some step.made (suc place) more in
            let one : 1 ≤ times found.0 (t.next + place) = h.overlays.used place found.0 found.1 in
            subst (λ (i : ℕ). 1 ≤ given_times step i + one_if step.root i) is (omega (arith, sum_at step.made (t.next + place) (suc place) found.0 found.1)))
        | inr last ↦ subst (λ (i : ℕ). 1 ≤ given_times step i + one_if step.root i) is (h.last place (let l : length step.made ≤ suc place = last in omega arith))
      ];
}

-- ---- what each id has after such a step, before nodes go

pub has_made : (nodes : Nodes) (t : Table) (step : Step) → IsLevelled (after nodes t step) → HasMade (at (after nodes t step)) t.next step.made
has_made nodes t step levelled place n there k key =
    keys_meet (after nodes t step) levelled (t.next + place) n (after-some nodes t step (t.next + place) n (made_given t step place n there)) k key

-- old nodes below a level that aren't changed have what they had
pub old_agree : (nodes : Nodes) (t : Table) (step : Step) (level : ℕ) → IsSound nodes t → ((id : ℕ) → IsLower t level id → given t.next step id ≡ None) → (id : ℕ) → IsLower t level id → Agree (at (after nodes t step)) (at nodes) id
old_agree nodes t step level s none =
    at_untouched nodes (after nodes t step) (IsLower t level) (λ id lower. after-none nodes t step id (none id lower))
    (λ id n lower there.
    let stored : IsStored nodes t id = s.each id lower.kept in
    let same : stored.node ≡ n = same_Some stored.node n (sym stored.there ∙ there) in
    subst (λ (m : Node). AllByRecursion (IsLower t level) (names m)) same
    (each_weaker (IsLower t (t.level id)) (IsLower t level) (λ c own. record { kept = own.kept; lower = (let a : t.level c < t.level id = own.lower in let b : t.level id < level = lower.lower in omega arith) }) (names stored.node) stored.of_table.lower))

-- ---- the way's messages and its end

pub raised_target : (t : Table) (low high : ℕ) (end : Option Target) → low ≤ high → IsLowerTarget t low end → IsLowerTarget t high end
raised_target t low high None le h = tt
raised_target t low high (Some target) le h = record { kept = h.kept; lower = (let l : t.level target.child < low = h.lower in omega arith) }

layers_lower : (t : Table) (high : ℕ) (ls : List Layer) (end : Option Target) → AreLayers t high ls end → AllByRecursion (IsLower t high) (flat_map message_names (laid ls))
layers_lower t high [] end h = tt
layers_lower t high (l ∷ ls) end h =
    let low : l.level < high = h.1 in
    names_both (IsLower t high) (laid ls) l.messages (lower_more t l.level high (omega arith) (flat_map message_names (laid ls)) (layers_lower t l.level ls end h.3)) (lower_more t l.level high (omega arith) (flat_map message_names l.messages) h.2.lower)

pub laid_lower : (t : Table) (high : ℕ) (ls : List Layer) (end : Option Target) → AreLayers t (high + 1) ls end → AllByRecursion (IsLower t high) (flat_map message_names (laid ls))
laid_lower t high [] end h = tt
laid_lower t high (l ∷ ls) end h =
    let low : l.level < high + 1 = h.1 in
    names_both (IsLower t high) (laid ls) l.messages (lower_more t l.level high (omega arith) (flat_map message_names (laid ls)) (layers_lower t l.level ls end h.3)) (lower_more t l.level high (omega arith) (flat_map message_names l.messages) h.2.lower)

pub layers_raise : (t : Table) (low high : ℕ) (ls : List Layer) (end : Option Target) → low ≤ high → AreLayers t low ls end → AreLayers t high ls end
layers_raise t low high [] end le h = raised_target t low high end le h
layers_raise t low high (l ∷ ls) end le h = (h.0, (let less : l.level < low = h.1 in omega arith), h.2, h.3)

pub end_lower : (t : Table) (high : ℕ) (ls : List Layer) (end : Option Target) → AreLayers t high ls end → IsLowerTarget t high end
end_lower t high [] end h = h
end_lower t high (l ∷ ls) end h = raised_target t l.level high end (let low : l.level < high = h.1 in omega arith) (end_lower t l.level ls end h.3)

end_below : (t : Table) (high most : ℕ) (end : Option Target) → IsLowerTarget t high end → above t.level (target_names end) ≤ most → IsLowerTarget t most end
end_below t high most None h le = tt
end_below t high most (Some target) h le = record { kept = h.kept; lower = omega (arith, le, le-max_left (t.level target.child + 1) 0) }

target_same : (f g : NodesAt) (t : Table) (level : ℕ) (end : Option Target) (k : List ℕ) → IsLowerTarget t level end → ((c : ℕ) → IsLower t level c → Agree f g c) → target_at f end k ≡ target_at g end k
target_same f g t level None k h same = refl
target_same f g t level (Some target) k h same = same target.child h (target.source ++ k)

-- what is packed has what stood at the source
pub moved : (nodes : Nodes) (t : Table) (step : Step) (bound : ℕ) (ls : List Layer) (end : Option Target) (packed : Packed) (s : List ℕ) → IsPacked t end (laid ls) packed → HasMade (at (after nodes t step)) t.next packed.made.items
    → ((c : ℕ) → IsLower t bound c → Agree (at (after nodes t step)) (at nodes) c) → AllByRecursion (IsLower t bound) (flat_map message_names (laid ls)) → IsLowerTarget t bound end
    → ((k : List ℕ) → IsKey k → acts (at nodes) (laid ls) k (target_at (at nodes) end k) ≡ root_at nodes t (s ++ k)) → (r : List ℕ) → IsKey r → target_at (at (after nodes t step)) (Some packed.target) r ≡ root_at nodes t (s ++ r)
moved nodes t step bound ls end packed s p made same lower low value r key =
    let aft : NodesAt = at (after nodes t step) in
    p.meaning aft made r key
    ∙ acts-same aft (at nodes) (laid ls) r (target_at aft end r) (each_weaker (IsLower t bound) (Agree aft (at nodes)) same (flat_map message_names (laid ls)) lower)
    ∙ ap (λ v. acts (at nodes) (laid ls) r v) (target_same aft (at nodes) t bound end r low same)
    ∙ value r key

graft_names : (P : ℕ → Type 0) (s d : List ℕ) (keep : Bool) (target : Target) → P target.child → AllByRecursion P (flat_map message_names (graft_messages s d keep target))
graft_names P s d true target h = (h, tt)
graft_names P s d false target h = (h, tt)

pub graft_named : (s d : List ℕ) (keep : Bool) (target : Target) → 1 ≤ count_by (λ name. name == target.child) (flat_map message_names (graft_messages s d keep target))
graft_named s d true target = omega (arith, count-cons_same target.child [])
graft_named s d false target = omega (arith, count-cons_same target.child [])

pub named_last : (f : Node → Type 0) (t : Table) (made : List Node) (level : ℕ) (target : Target) (place : ℕ) (F : ℕ → Type 0) → IsOver t made level (Some target) → length made ≡ suc place → F target.child → F (t.next + place)
named_last f t made level target place F over last h = subst F (ap (λ (x : Target). x.child) (same_Some target (record { child = t.next + place; source = [] }) (over.last place last))) h

-- ---- into a new root over the old one

abbrev pub the_top : Table → List Message → Node
the_top t list = overlay (t.level t.root + 1) (Some (record { child = t.root; source = [] })) list

pub message_times : (level : ℕ) (under : Option Target) (list : List Message) (c : ℕ) → 1 ≤ count_by (λ name. name == c) (flat_map message_names list) → 1 ≤ times (overlay level under list) c
message_times level None list c one = one
message_times level (Some target) list c one = omega (arith, one, count-cons_le target.child c (flat_map message_names list))

-- what is packed fits a new root over the old one
pub record IsHigh (t : Table) (packed : Packed) (list : List Message) : Type 0 where
  pub table : IsTable t
  pub next : t.next < 2 ^ 64
  pub level : t.level t.root < level_limit
  pub low : packed.level ≤ t.level t.root
  pub messages : AllByRecursion IsMessage list
  pub fits : sum_by size list ≤ buffer_limit

pub over_overlaying : (t : Table) (end : Option Target) (done : List Message) (packed : Packed) (s d : List ℕ) (keep : Bool) → IsPacked t end done packed → IsHigh t packed (graft_messages s d keep packed.target) → IsOverlaying t (step_over t packed.made.items (graft_messages s d keep packed.target))
over_overlaying t end done packed s d keep p h =
    let list : List Message = graft_messages s d keep packed.target in
    let made : List Node = packed.made.items in
    let top : Node = the_top t list in
    let long : length (made ++ top ∷ []) ≡ length made + 1 = length-append made (top ∷ []) in
    let root_low : t.level t.root < t.level t.root + 1 = omega arith in
    let low : packed.level + 1 ≤ t.level t.root + 1 = (let l : packed.level ≤ t.level t.root = h.low in omega arith) in
    let target_under : AllByRecursion (IsUnder t made (length made) (t.level t.root + 1)) (target_names (Some packed.target)) = no_more t made (packed.level + 1) (t.level t.root + 1) low (target_names (Some packed.target)) p.over.lower in
    let level : t.level t.root < level_limit = h.level in
    let below : t.root < t.next = h.table.below t.root h.table.root in
    record {
      table = h.table;
      overlays = one_more t made top p.overlays
          (overlay_shape (t.level t.root + 1) (Some (record { child = t.root; source = [] })) list (omega arith) (omega arith) (omega arith) ((h.table.low t.root h.table.root, (let n : t.next < 2 ^ 64 = h.next in omega arith)), tt) h.messages h.fits)
          (inl (record { kept = h.table.root; lower = root_low }), graft_names (IsUnder t made (length made) (t.level t.root + 1)) s d keep packed.target target_under.0)
          (λ place last. named_last (λ n. Unit {0}) t made (packed.level + 1) packed.target place (λ (c : ℕ). 1 ≤ times top c) p.over last
          (message_times (t.level t.root + 1) (Some (record { child = t.root; source = [] })) list packed.target.child (graft_named s d keep packed.target)));
      levels = λ c kept. ap (λ (o : Option Node). level_or o (t.level c)) (given-old t.next (step_over t made list) c (h.table.below c kept));
      changes = tt;
      once = tt;
      root = inr (omega arith, omega (arith, long));
      inner = (let e : level_after t (step_over t made list) (t.next + length made) ≡ level_of top = ap (λ (o : Option Node). level_or o (t.level (t.next + length made))) (made_given t (step_over t made list) (length made) top (get_last made top)) in omega arith);
      last = λ place e. (let p : length made ≡ place = omega (arith, long, e) in
          let one : one_if (t.next + length made) (t.next + place) ≡ 1 = ap (λ (i : ℕ). one_if (t.next + length made) (t.next + i)) (sym p) ∙ one_if-same (t.next + length made) in omega arith);
    }

pub over_none : (t : Table) (made : List Node) (list : List Message) (id : ℕ) → id < t.next → given t.next (step_over t made list) id ≡ None
over_none t made list id low = given-old t.next (step_over t made list) id low

pub over_in_place : (nodes : Nodes) (t : Table) (made : List Node) (list : List Message) → IsSound nodes t → IsInPlace nodes t (step_over t made list)
over_in_place nodes t made list s = record {
  private = tt;
  above = stay_above nodes t (step_over t made list) s (λ id n low e. absurd (none-some n (sym (over_none t made list id low) ∙ e)));
}

pub over_grafted : (nodes : Nodes) (t : Table) (ls : List Layer) (end : Option Target) (packed : Packed) (s d : List ℕ) (keep : Bool) (new : Nodes) (u : Table) → IsSound nodes t → IsPacked t end (laid ls) packed → IsHigh t packed (graft_messages s d keep packed.target)
    → AreLayers t (t.level t.root + 1) ls end → ((k : List ℕ) → IsKey k → acts (at nodes) (laid ls) k (target_at (at nodes) end k) ≡ root_at nodes t (s ++ k))
    → IsCommitted nodes t (step_over t packed.made.items (graft_messages s d keep packed.target)) new u → u.root ≡ t.next + length packed.made.items → IsGrafted (root_at nodes t) s d keep (root_at new u)
over_grafted nodes t ls end packed s d keep new u sound p h layers value committed root k key =
    let list : List Message = graft_messages s d keep packed.target in
    let made : List Node = packed.made.items in
    let step : Step = step_over t made list in
    let top : Node = the_top t list in
    let high : ℕ = t.level t.root + 1 in
    let levelled : IsLevelled (after nodes t step) = (begun nodes t step sound (overlaying_step t step (over_overlaying t end (laid ls) packed s d keep p h)) (over_in_place nodes t made list sound).above).levelled in
    let aft : NodesAt = at (after nodes t step) in
    let has : HasMade aft t.next (made ++ top ∷ []) = has_made nodes t step levelled in
    let same : (c : ℕ) → IsLower t high c → Agree aft (at nodes) c = old_agree nodes t step high sound (λ id lower. over_none t made list id (h.table.below id lower.kept)) in
    let kept : IsKept u u.root = committed.sound.table.root in
    committed_meaning nodes t step new u committed aft (at-meets (after nodes t step) levelled) u.root kept k
    ∙ ap (λ (r : ℕ). aft r k) root
    ∙ has (length made) top (get_last made top) k key
    ∙ overlay_has aft high (Some (record { child = t.root; source = [] })) list k
    ∙ graft_acts aft (root_at nodes t) s d keep packed.target k (aft t.root k)
    (moved nodes t step high ls end packed s p (λ place n there l more. has place n (get_first made (top ∷ []) place n there) l more) same
    (lower_more t (t.level t.root) high (omega arith) (flat_map message_names (laid ls)) (laid_lower t (t.level t.root) ls end layers)) (end_lower t high ls end layers) value)
    (same t.root (record { kept = h.table.root; lower = omega arith }) k) key

-- ---- into the root

abbrev the_root : Table → Node → List Message → Change
the_root t n list = record { id = t.root; node = appended n list }

-- what is packed fits the root
pub record IsLow (t : Table) (n : Node) (packed : Packed) (list : List Message) : Type 0 where
  pub table : IsTable t
  pub own : IsNodeOf t (t.level t.root) n
  pub shape : IsShape (appended n list)
  pub low : packed.level < t.level t.root

names_more : (P : ℕ → Type 0) (n : Node) (list : List Message) → AllByRecursion P (names n) → AllByRecursion P (flat_map message_names list) → AllByRecursion P (names (appended n list))
names_more P (Leaf entries) list h g = h
names_more P (Inner level es buffer) list h g =
    each_both P (flat_map edge_names es) (flat_map message_names (buffer ++ list)) (each_first P (flat_map edge_names es) (flat_map message_names buffer) h)
    (names_both P buffer list (each_second P (flat_map edge_names es) (flat_map message_names buffer) h) g)

pub times_more : (n : Node) (list : List Message) (c : ℕ) → 1 ≤ level_of n → 1 ≤ count_by (λ name. name == c) (flat_map message_names list) → 1 ≤ times (appended n list) c
times_more (Leaf entries) list c inner one = absurd (omega arith)
times_more (Inner level es buffer) list c inner one =
    omega (
      arith,
      one,
      sum_by-append (λ (x : ℕ). cond (x == c) 1 0) (flat_map edge_names es) (flat_map message_names (buffer ++ list)),
      ap (λ (ns : List ℕ). count_by (λ name. name == c) ns) (flat_map-append message_names buffer list),
      sum_by-append (λ (x : ℕ). cond (x == c) 1 0) (flat_map message_names buffer) (flat_map message_names list),
    )

pub root_given : (t : Table) (n : Node) (made : List Node) (list : List Message) → t.root < t.next → given t.next (extend_step t n made list) t.root ≡ Some (appended n list)
root_given t n made list low = given-old t.next (extend_step t n made list) t.root low ∙ changed_at-same (the_root t n list) [] t.root refl

pub other_given : (t : Table) (n : Node) (made : List Node) (list : List Message) (c : ℕ) → c < t.next → (c ≡ t.root → ⊥) → given t.next (extend_step t n made list) c ≡ None
other_given t n made list c low other = given-old t.next (extend_step t n made list) c low ∙ changed_at-other (the_root t n list) [] c other

pub root_levels : (t : Table) (n : Node) (made : List Node) (list : List Message) → IsTable t → IsNodeOf t (t.level t.root) n → (c : ℕ) → IsKept t c → level_after t (extend_step t n made list) c ≡ t.level c
root_levels t n made list table own c kept = elim (cases_eq c t.root) [
  | inl same ↦
      ap (λ (i : ℕ). level_after t (extend_step t n made list) i) same
      ∙ ap (λ (o : Option Node). level_or o (t.level t.root)) (root_given t n made list (table.below t.root table.root))
      ∙ level_appended n list ∙ own.level_is ∙ ap t.level (sym same)
  | inr other ↦ ap (λ (o : Option Node). level_or o (t.level c)) (other_given t n made list c (table.below c kept) other)
]

pub under_overlaying : (t : Table) (n : Node) (end : Option Target) (done : List Message) (packed : Packed) (s d : List ℕ) (keep : Bool) → IsPacked t end done packed → IsLow t n packed (graft_messages s d keep packed.target) → IsOverlaying t (extend_step t n packed.made.items (graft_messages s d keep packed.target))
under_overlaying t n end done packed s d keep p h =
    let list : List Message = graft_messages s d keep packed.target in
    let made : List Node = packed.made.items in
    let step : Step = extend_step t n made list in
    let levels : (c : ℕ) → IsKept t c → level_after t step c ≡ t.level c = root_levels t n made list h.table h.own in
    let is_level : level_of (appended n list) ≡ t.level t.root = level_appended n list ∙ h.own.level_is in
    let low : packed.level + 1 ≤ level_of (appended n list) = (let l : packed.level < t.level t.root = h.low in omega (arith, is_level)) in
    let inner : 1 ≤ level_of n = (let i : 1 ≤ t.level t.root = h.table.inner in let o : level_of n ≡ t.level t.root = h.own.level_is in omega arith) in
    let old : AllByRecursion (IsNamable t step (level_of (appended n list))) (names n) =
    each_weaker (IsLower t (t.level t.root)) (IsNamable t step (level_of (appended n list))) (λ c own. record { there = inl own.kept; lower = (let l : t.level c < t.level t.root = own.lower in omega (arith, levels c own.kept, is_level)) }) (names n) h.own.lower in
    let target : AllByRecursion (IsNamable t step (level_of (appended n list))) (target_names (Some packed.target)) = namable t step (length made) (packed.level + 1) (level_of (appended n list)) levels (omega arith) low (target_names (Some packed.target)) p.over.lower in
    record {
      table = h.table;
      overlays = p.overlays;
      levels = levels;
      changes = (
        record { kept = h.table.root; put = record { shape = h.shape; lower = names_more (IsNamable t step (level_of (appended n list))) n list old (graft_names (IsNamable t step (level_of (appended n list))) s d keep packed.target target.0) } },
        tt,
      );
      once = (tt, tt);
      root = inl h.table.root;
      inner = omega (arith, levels t.root h.table.root, h.table.inner);
      last = λ place last.
          let one : 1 ≤ times (appended n list) (t.next + place) = named_last (λ m. Unit {0}) t made (packed.level + 1) packed.target place (λ (c : ℕ). 1 ≤ times (appended n list) c) p.over last
          (times_more n list packed.target.child inner (graft_named s d keep packed.target)) in
          omega (arith, one, sum_by-cons (λ (c : Change). times c.node (t.next + place)) (the_root t n list) []);
    }

pub under_in_place : (nodes : Nodes) (t : Table) (n : Node) (made : List Node) (list : List Message) → IsSound nodes t → IsInPlace nodes t (extend_step t n made list)
under_in_place nodes t n made list s = record {
  private = (root_private nodes t s, tt);
  above = stay_above nodes t (extend_step t n made list) s (λ id m low e. of_root (elim (cases_eq id t.root) [
    | inl same ↦ same
    | inr other ↦ absurd (none-some m (sym (other_given t n made list id low other) ∙ e))
  ]));
}

pub lower_other : (t : Table) (c : ℕ) → IsLower t (t.level t.root) c → c ≡ t.root → ⊥
lower_other t c own same = (let e : t.level c ≡ t.level t.root = ap t.level same in let l : t.level c < t.level t.root = own.lower in omega arith)

pub under_grafted : (nodes : Nodes) (t : Table) (n : Node) (ls : List Layer) (end : Option Target) (packed : Packed) (s d : List ℕ) (keep : Bool) (new : Nodes) (u : Table) → IsSound nodes t → nodes t.root ≡ Some n → IsPacked t end (laid ls) packed → IsLow t n packed (graft_messages s d keep packed.target)
    → AreLayers t (t.level t.root + 1) ls end → ((k : List ℕ) → IsKey k → acts (at nodes) (laid ls) k (target_at (at nodes) end k) ≡ root_at nodes t (s ++ k))
    → IsCommitted nodes t (extend_step t n packed.made.items (graft_messages s d keep packed.target)) new u → u.root ≡ t.root → IsGrafted (root_at nodes t) s d keep (root_at new u)
under_grafted nodes t n ls end packed s d keep new u sound there p h layers value committed root k key =
    let list : List Message = graft_messages s d keep packed.target in
    let made : List Node = packed.made.items in
    let step : Step = extend_step t n made list in
    let high : ℕ = t.level t.root in
    let below : t.root < t.next = h.table.below t.root h.table.root in
    let levelled : IsLevelled (after nodes t step) = (begun nodes t step sound (overlaying_step t step (under_overlaying t n end (laid ls) packed s d keep p h)) (under_in_place nodes t n made list sound).above).levelled in
    let aft : NodesAt = at (after nodes t step) in
    let same : (c : ℕ) → IsLower t high c → Agree aft (at nodes) c = old_agree nodes t step high sound (λ id lower. other_given t n made list id (h.table.below id lower.kept) (lower_other t id lower)) in
    let low : packed.level + 1 ≤ high = (let l : packed.level < t.level t.root = h.low in omega arith) in
    let inner : 1 ≤ level_of n = (let i : 1 ≤ t.level t.root = h.table.inner in let o : level_of n ≡ t.level t.root = h.own.level_is in omega arith) in
    committed_meaning nodes t step new u committed aft (at-meets (after nodes t step) levelled) u.root committed.sound.table.root k
    ∙ ap (λ (r : ℕ). aft r k) root
    ∙ keys_meet (after nodes t step) levelled t.root (appended n list) (after-some nodes t step t.root (appended n list) (root_given t n made list below)) k key
    ∙ node_at-appended aft n list k h.own.shape inner
    ∙ graft_acts aft (root_at nodes t) s d keep packed.target k (node_at aft n k)
    (moved nodes t step high ls end packed s p (has_made nodes t step levelled) same (laid_lower t high ls end layers)
    (end_below t (high + 1) high end (end_lower t (high + 1) ls end layers) (let o : above t.level (target_names end) ≤ packed.level + 1 = p.over_end in omega arith)) value)
    (node_at-same aft (at nodes) n k (each_weaker (IsLower t high) (Agree aft (at nodes)) same (names n) h.own.lower) ∙ sym (keys_meet nodes (sound-levelled nodes t sound) t.root n there k key)) key

-- ---- the step as the code makes it

pub id_some : (t : Table) (made : List Node) (level : ℕ) (target : Target) → IsTable t → t.next + length made < 2 ^ 64 → IsOver t made level (Some target) → (1 ≤ target.child) × (target.child < 2 ^ 64)
id_some t made level target table room over = (id_range t made level table room (target_names (Some target)) over.lower).0

pub messages_are : (s d : List ℕ) (keep : Bool) (target : Target) → length s ≤ key_limit → length d ≤ key_limit → length target.source ≤ key_limit → (1 ≤ target.child) × (target.child < 2 ^ 64)
    → AllByRecursion IsMessage (graft_messages s d keep target) × (sum_by size (graft_messages s d keep target) ≤ 1600)
messages_are s d true target hs hd short child = (((hd, short, child.0, child.1), tt), omega (arith, sum_by-cons size (Goto d target.source target.child) []))
messages_are s d false target hs hd short child = (
  ((hd, short, child.0, child.1), ((omega arith), tt)),
  omega (arith, sum_by-cons size (Goto d target.source target.child) (Cut s [] ∷ []), sum_by-cons size (Cut s []) []),
)

-- the step of a graft into the root
pub record IsUnderStep (known : Type 0) (nodes : Nodes) (t : Table) (n : Node) (packed : Packed) (s d : List ℕ) (keep : Bool) (step : Step) : Type 0 where
  pub ready : IsReady known nodes t s packed
  pub low : IsLow t n packed (graft_messages s d keep packed.target)
  pub is : step ≡ extend_step t n packed.made.items (graft_messages s d keep packed.target)

pub under_step : (known : Type 0) (nodes : Nodes) (t : Table) (n : Node) (packed : Packed) (s d : List ℕ) (keep : Bool) (step : Step) → IsUnderStep known nodes t n packed s d keep step → IsStep t step
under_step known nodes t n packed s d keep step h =
    subst (λ (q : Step). IsStep t q) (sym h.is) (overlaying_step t (extend_step t n packed.made.items (graft_messages s d keep packed.target)) (under_overlaying t n h.ready.end (laid h.ready.layers) packed s d keep h.ready.packed_is h.low))

pub under_place : (known : Type 0) (nodes : Nodes) (t : Table) (n : Node) (packed : Packed) (s d : List ℕ) (keep : Bool) (step : Step) → IsUnderStep known nodes t n packed s d keep step → IsSound nodes t → IsInPlace nodes t step
under_place known nodes t n packed s d keep step h sound =
    subst (λ (q : Step). IsInPlace nodes t q) (sym h.is) (under_in_place nodes t n packed.made.items (graft_messages s d keep packed.target) sound)

pub under_done : {T E : Type 0} (known : Type 0) (nodes : Nodes) (t : Table) (n : Node) (packed : Packed) (s d : List ℕ) (keep : Bool) (step : Step) (new : Nodes) (u : Table) (r : Result T E) → IsUnderStep known nodes t n packed s d keep step → known → IsSound nodes t → nodes t.root ≡ Some n
    → OnOk r (IsTableAfter t step u) → OnOk r (IsCommitted nodes t step new u) → OnOk r (IsGrafted (root_at nodes t) s d keep (root_at new u))
under_done known nodes t n packed s d keep step new u (Ok x) h k sound there after committed =
    under_grafted nodes t n h.ready.layers h.ready.end packed s d keep new u sound there h.ready.packed_is h.low h.ready.layers_are (h.ready.value k sound)
    (subst (λ (q : Step). IsCommitted nodes t q new u) h.is committed) (after.root ∙ ap (λ (q : Step). q.root) h.is)
under_done known nodes t n packed s d keep step new u (Err e) h k sound there after committed = tt

pub ok_sound : {T E : Type 0} (nodes : Nodes) (t : Table) (step : Step) (new : Nodes) (u : Table) (r : Result T E) → OnOk r (IsCommitted nodes t step new u) → OnOk r (IsSound new u)
ok_sound nodes t step new u (Ok x) committed = committed.sound
ok_sound nodes t step new u (Err e) committed = tt

pub under_ready : (known : Type 0) (nodes : Nodes) (t : Table) (n : Node) (packed : Packed) (s d : List ℕ) (keep : Bool) (made : List Node) (list : List Message) → IsReady known nodes t s packed → IsTable t → IsRootOf t n → packed.level < t.level t.root
    → length s ≤ key_limit → length d ≤ key_limit → t.size + 1600 ≤ buffer_limit → t.next + length packed.made.items < 2 ^ 64 → made ≡ packed.made.items → list ≡ graft_messages s d keep packed.target → IsUnderStep known nodes t n packed s d keep (extend_step t n made list)
under_ready known nodes t n packed s d keep made list ready table root low hs hd fits room made_is list_is =
    let sent : List Message = graft_messages s d keep packed.target in
    let messages = messages_are s d keep packed.target hs hd ready.packed_is.over.short (id_some t packed.made.items (packed.level + 1) packed.target table room ready.packed_is.over) in
    let few : sum_by size sent ≤ 1600 = messages.1 in
    let own : buffer_size n ≡ t.size = root.size in
    record {
      ready = ready;
      low = record { table = table; own = root.of_table; shape = shape_appended n sent root.of_table.shape messages.0 (omega arith); low = low };
      is = ap (λ (ms : List Node). extend_step t n ms list) made_is ∙ ap (λ (l : List Message). extend_step t n packed.made.items l) list_is;
    }

pub worn_step : {T : Type 0} (before now : ℕ) (last : Bool) (bad : ℕ → Type 0) (t : Table) (step other : Step) (r : Result T MapFault) → step ≡ other → HasMapCause before now last bad (IsWornBy t step) r → HasMapCause before now last bad (IsWornBy t other) r
worn_step before now last bad t step other r is h = subst (λ (q : Step). HasMapCause before now last bad (IsWornBy t q) r) is h

-- the step of a graft into a new root
pub record IsOverStep (known : Type 0) (nodes : Nodes) (t : Table) (packed : Packed) (s d : List ℕ) (keep : Bool) (step : Step) : Type 0 where
  pub ready : IsReady known nodes t s packed
  pub high : IsHigh t packed (graft_messages s d keep packed.target)
  pub is : step ≡ step_over t packed.made.items (graft_messages s d keep packed.target)

pub over_step : (known : Type 0) (nodes : Nodes) (t : Table) (packed : Packed) (s d : List ℕ) (keep : Bool) (step : Step) → IsOverStep known nodes t packed s d keep step → IsStep t step
over_step known nodes t packed s d keep step h =
    subst (λ (q : Step). IsStep t q) (sym h.is) (overlaying_step t (step_over t packed.made.items (graft_messages s d keep packed.target)) (over_overlaying t h.ready.end (laid h.ready.layers) packed s d keep h.ready.packed_is h.high))

pub over_place : (known : Type 0) (nodes : Nodes) (t : Table) (packed : Packed) (s d : List ℕ) (keep : Bool) (step : Step) → IsOverStep known nodes t packed s d keep step → IsSound nodes t → IsInPlace nodes t step
over_place known nodes t packed s d keep step h sound =
    subst (λ (q : Step). IsInPlace nodes t q) (sym h.is) (over_in_place nodes t packed.made.items (graft_messages s d keep packed.target) sound)

pub over_done : {T E : Type 0} (known : Type 0) (nodes : Nodes) (t : Table) (packed : Packed) (s d : List ℕ) (keep : Bool) (step : Step) (new : Nodes) (u : Table) (r : Result T E) → IsOverStep known nodes t packed s d keep step → known → IsSound nodes t
    → OnOk r (IsTableAfter t step u) → OnOk r (IsCommitted nodes t step new u) → OnOk r (IsGrafted (root_at nodes t) s d keep (root_at new u))
over_done known nodes t packed s d keep step new u (Ok x) h k sound after committed =
    over_grafted nodes t h.ready.layers h.ready.end packed s d keep new u sound h.ready.packed_is h.high h.ready.layers_are (h.ready.value k sound)
    (subst (λ (q : Step). IsCommitted nodes t q new u) h.is committed) (after.root ∙ ap (λ (q : Step). q.root) h.is)
over_done known nodes t packed s d keep step new u (Err e) h k sound after committed = tt

pub over_ready : (known : Type 0) (nodes : Nodes) (t : Table) (top : Node) (packed : Packed) (s d : List ℕ) (keep : Bool) (step : Step) (root next level : ℕ) (list : List Message) → IsReady known nodes t s packed → IsTable t → t.next + length packed.made.items + 1 < 2 ^ 64 → t.level t.root < level_limit → packed.level ≤ t.level t.root
    → length s ≤ key_limit → length d ≤ key_limit → root ≡ t.root → next ≡ t.next → level ≡ t.level t.root + 1 → list ≡ graft_messages s d keep packed.target → top ≡ overlay level (Some (record { child = root; source = [] })) list → step ≡ top_made packed.made.items top next
    → IsOverStep known nodes t packed s d keep step
over_ready known nodes t top packed s d keep step root next level list ready table room high low hs hd root_is next_is level_is list_is top_is is =
    let messages = messages_are s d keep packed.target hs hd ready.packed_is.over.short (id_some t packed.made.items (packed.level + 1) packed.target table (omega arith) ready.packed_is.over) in
    record {
      ready = ready;
      high = record { table = table; next = (omega arith); level = high; low = low; messages = messages.0; fits = (let m : sum_by size (graft_messages s d keep packed.target) ≤ 1600 = messages.1 in omega arith) };
      is = is ∙ ap (λ (n : ℕ). top_made packed.made.items top n) next_is
          ∙ ap (λ (m : Node). top_made packed.made.items m t.next) (top_is
          ∙ ap (λ (r : ℕ). overlay level (Some (record { child = r; source = [] })) list) root_is
          ∙ ap (λ (l : ℕ). overlay l (Some (record { child = t.root; source = [] })) list) level_is
          ∙ ap (λ (ms : List Message). overlay (t.level t.root + 1) (Some (record { child = t.root; source = [] })) ms) list_is);
    }
