-- Overlay nodes over the end of a way.
use Rattle.std.proofs.Common.{◌≡◌, ℕ, zero, suc, ◌+◌, ◌<◌, ◌≤◌, ◌^◌, max, List, [], ◌∷◌, ◌++◌, length, ◌-◌, Bool, true, false, cond, ltb, append_assoc, refl, sym, ap, subst, ◌∙◌, Option, None, Some, inl, inr, ◌⊎◌, arith, length-append}
use Rattle.std.specs.Prelude.{slice_get}
use Rattle.std.specs.Option.{is_some}
use Rattle.std.specs.List.{AllByRecursion, flat_map, sum_by}
use Rattle.std.proofs.lemmas.Option.{same_Some, none-some}
use Rattle.std.proofs.lemmas.List.Sums.{sum_by-append}
use Rattle.std.proofs.Math.Nat.{le-max_left, le-max_right, max-le, max-zero, zero-max}
use Rattle.std.proofs.lemmas.Bool.{lt-ltb, le-ltb}
use Rattle.std.proofs.lemmas.Grind.{flat_map-append}
use Rattle.bd_limits.specs.Limits.{buffer_limit, level_limit}
use Rattle.bd_keys.specs.Keys.{IsAtLeast, IsKey}
use Rattle.bd_message.specs.declared.message.Message.{Message}
use Rattle.bd_message.specs.Messages.{IsMessage, size}
use Rattle.bd_message.specs.Effect.{NodesAt, acts}
use Rattle.bd_message.proofs.Finds.{not_both}
use Rattle.bd_node.specs.declared.node.Node.{Node}
use Rattle.bd_node.specs.Nodes.{level_of, names, times, message_names, node_at}
use Rattle.bd_node.specs.Shape.{IsEdge, IsShape}
use Rattle.bd_node.specs.Tables.{Table, IsTable, IsKept, IsLower}
use Rattle.bd_node.specs.Steps.{level_or}
use Rattle.bd_node.proofs.Lookup.{each_weaker, each_both, count-cons_same}
use Rattle.bd_node.proofs.Appending.{acts-append, key_of, key_of-touched}
use Rattle.bd_message.proofs.Prefixes.{least_nil}
use Rattle.bd_resolve.specs.declared.following.Target.{Target}
use Rattle.bd_resolve.specs.Following.{target_at, IsLowerTarget, IsShort}
use Rattle.bd_graft.specs.declared.layers.Layer.{Layer}
use Rattle.bd_graft.specs.declared.packing.Stack.{Stack}
use Rattle.bd_graft.specs.declared.packing.Packed.{Packed}
use Rattle.bd_graft.specs.Layers.{above, laid, IsLayer, AreLayers}
use Rattle.bd_graft.specs.Packing.{edge_over, overlay, target_names, HasMade, IsUnder, AreOverlays, level_in, IsOverlay, AreExact, IsOver, IsStack, IsPacked, IsClosed, IsJoined, IsLaidOn, IsEnded, IsFinished, IsBegun, level_over}
use Rattle.bd_graft.specs.Packing.IsLaidOn.{fit, new}
use Rattle.bd_graft.specs.Packing.IsFinished.{as_it_is, made_too}
use Rattle.bd_graft.proofs.Freeing.{names_both}

-- ---- one element more

pub get_first : {A : Type 0} (xs ys : List A) (i : ℕ) (x : A) → slice_get xs i ≡ Some x → slice_get (xs ++ ys) i ≡ Some x
get_first [] ys i x there = absurd (none-some x there)
get_first (y ∷ xs) ys zero x there = there
get_first (y ∷ xs) ys (suc i) x there = get_first xs ys i x there

pub get_last : {A : Type 0} (xs : List A) (x : A) → slice_get (xs ++ x ∷ []) (length xs) ≡ Some x
get_last [] x = refl
get_last (y ∷ xs) x = get_last xs x

pub get_cases : {A : Type 0} (xs : List A) (x : A) (i : ℕ) (y : A) → slice_get (xs ++ x ∷ []) i ≡ Some y → (slice_get xs i ≡ Some y) ⊎ ((i ≡ length xs) × (x ≡ y))
get_cases [] x zero y there = inr (refl, same_Some x y there)
get_cases [] x (suc i) y there = absurd (none-some y there)
get_cases (z ∷ xs) x zero y there = inl there
get_cases (z ∷ xs) x (suc i) y there = elim (get_cases xs x i y there) [
  | inl before ↦ inl before
  | inr last ↦ inr ((let e : i ≡ length xs = last.0 in omega arith), last.1)
]

-- ---- levels

pub lower_more : (t : Table) (low high : ℕ) → low ≤ high → (ns : List ℕ) → AllByRecursion (IsLower t low) ns → AllByRecursion (IsLower t high) ns
lower_more t low high le ns h = each_weaker (IsLower t low) (IsLower t high) (λ c own. record { kept = own.kept; lower = (let l : t.level c < low = own.lower in omega arith) }) ns h

pub under_more : (t : Table) (made more : List Node) (place later low high : ℕ) → place ≤ later → low ≤ high → (ns : List ℕ) → AllByRecursion (IsUnder t made place low) ns → AllByRecursion (IsUnder t (made ++ more) later high) ns
under_more t made more place later low high le higher ns h =
    each_weaker (IsUnder t made place low) (IsUnder t (made ++ more) later high)
    (λ c own. elim own [
      | inl old ↦ inl (record { kept = old.kept; lower = (let l : t.level c < low = old.lower in omega arith) })
      | inr older ↦ inr (record { at = older.at; node = older.node; id = older.id; before = (let b : older.at < place = older.before in omega arith); there = get_first made more older.at older.node older.there; lower = (let l : level_of older.node < low = older.lower in omega arith) })
    ]) ns h

-- each is below the level above them
pub below_above : (level : ℕ → ℕ) (ns : List ℕ) → AllByRecursion (λ c. level c < above level ns) ns
below_above level [] = tt
below_above level (c ∷ cs) = (
  omega (arith, le-max_left (level c + 1) (above level cs)),
  each_weaker (λ d. level d < above level cs) (λ d. level d < above level (c ∷ cs)) (λ d less. (let l : level d < above level cs = less in omega (arith, le-max_right (level c + 1) (above level cs)))) cs (below_above level cs),
)

-- ---- the level above nodes

pub max_assoc : (a b c : ℕ) → max a (max b c) ≡ max (max a b) c
max_assoc a b c =
    let left : max a (max b c) ≤ max (max a b) c = max-le (omega (arith, le-max_left a b, le-max_left (max a b) c)) (max-le (omega (arith, le-max_right a b, le-max_left (max a b) c)) (le-max_right (max a b) c)) in
    let right : max (max a b) c ≤ max a (max b c) = max-le (max-le (le-max_left a (max b c)) (omega (arith, le-max_left b c, le-max_right a (max b c)))) (omega (arith, le-max_right b c, le-max_right a (max b c))) in
    omega (arith, left, right)

pub above-append : (level : ℕ → ℕ) (xs ys : List ℕ) → above level (xs ++ ys) ≡ max (above level xs) (above level ys)
above-append level [] ys = sym (zero-max (above level ys))
above-append level (x ∷ xs) ys = ap (λ m. max (level x + 1) m) (above-append level xs ys) ∙ max_assoc (level x + 1) (above level xs) (above level ys)

pub above-same : (f g : ℕ → ℕ) (ns : List ℕ) → AllByRecursion (λ c. f c ≡ g c) ns → above f ns ≡ above g ns
above-same f g [] h = refl
above-same f g (c ∷ cs) h = ap (λ l. max (l + 1) (above f cs)) h.0 ∙ ap (λ m. max (g c + 1) m) (above-same f g cs h.1)

by_side : (b c : Bool) (made : List Node) (place old : ℕ) → b ≡ c → level_or (cond b None (slice_get made place)) old ≡ level_or (cond c None (slice_get made place)) old
by_side b c made place old e = ap (λ (x : Bool). level_or (cond x None (slice_get made place)) old) e

-- the levels of kept and of made nodes
pub level_kept : (t : Table) (made : List Node) (c : ℕ) → IsTable t → IsKept t c → level_in t made c ≡ t.level c
unfolding level_in
level_kept t made c table kept = by_side (ltb c t.next) true made (c - t.next) (t.level c) (lt-ltb c t.next (table.below c kept))

pub level_made : (t : Table) (made : List Node) (place : ℕ) (n : Node) → slice_get made place ≡ Some n → level_in t made (t.next + place) ≡ level_of n
unfolding level_in
level_made t made place n there =
    by_side (ltb (t.next + place) t.next) false made (t.next + place - t.next) (t.level (t.next + place)) (le-ltb (t.next + place) t.next (omega arith))
    ∙ ap (λ (i : ℕ). level_or (slice_get made i) (t.level (t.next + place))) (let z : t.next + place - t.next ≡ place = omega arith in z)
    ∙ ap (λ (o : Option Node). level_or o (t.level (t.next + place))) there

-- more made nodes leave the levels of those below
level_more : (t : Table) (made more : List Node) (place level c : ℕ) → IsTable t → IsUnder t made place level c → level_in t made c ≡ level_in t (made ++ more) c
level_more t made more place level c table own = elim own [
  | inl old ↦ level_kept t made c table old.kept ∙ sym (level_kept t (made ++ more) c table old.kept)
  | inr older ↦
      ap (λ (i : ℕ). level_in t made i) older.id
      ∙ level_made t made older.at older.node older.there
      ∙ sym (level_made t (made ++ more) older.at older.node (get_first made more older.at older.node older.there))
      ∙ ap (λ (i : ℕ). level_in t (made ++ more) i) (sym older.id)
]

levels_more : (t : Table) (made more : List Node) (place level : ℕ) (ns : List ℕ) → IsTable t → AllByRecursion (IsUnder t made place level) ns → AllByRecursion (λ c. level_in t made c ≡ level_in t (made ++ more) c) ns
levels_more t made more place level ns table h = each_weaker (IsUnder t made place level) (λ c. level_in t made c ≡ level_in t (made ++ more) c) (λ c own. level_more t made more place level c table own) ns h

-- an overlay node is one by other levels that are the same where it names
pub overlay_same : (f g : ℕ → ℕ) (n : Node) → AllByRecursion (λ c. f c ≡ g c) (names n) → IsOverlay f n → IsOverlay g n
overlay_same f g n same h = record { one_above = h.one_above ∙ ap (λ m. max m 1) (above-same f g (names n) same); waiting = h.waiting }

kept_lower : (t : Table) (level most : ℕ) (ns : List ℕ) → AllByRecursion (IsLower t level) ns → AllByRecursion (λ c. t.level c < most) ns → AllByRecursion (IsLower t most) ns
kept_lower t level most [] h g = tt
kept_lower t level most (c ∷ cs) h g = (record { kept = h.0.kept; lower = g.0 }, kept_lower t level most cs h.1 g.1)

pub layer_lower : (t : Table) (l : Layer) → IsLayer t l → AllByRecursion (IsLower t l.over) (flat_map message_names l.messages)
layer_lower t l own =
    kept_lower t l.level l.over (flat_map message_names l.messages) own.lower
    (subst (λ (n : ℕ). AllByRecursion (λ c. t.level c < n) (flat_map message_names l.messages)) (sym own.over) (below_above t.level (flat_map message_names l.messages)))

-- ---- a node over a target

pub overlay_has : (has : NodesAt) (level : ℕ) (under : Option Target) (list : List Message) (k : List ℕ) → node_at has (overlay level under list) k ≡ acts has list k (target_at has under k)
overlay_has has level None list k = refl
overlay_has has level (Some target) list k = refl

pub overlay_names : (P : ℕ → Type 0) (level : ℕ) (under : Option Target) (list : List Message) → AllByRecursion P (target_names under) → AllByRecursion P (flat_map message_names list) → AllByRecursion P (names (overlay level under list))
overlay_names P level None list h g = g
overlay_names P level (Some target) list h g = (h.0, g)

names_over : (level : ℕ) (under : Option Target) (list : List Message) → names (overlay level under list) ≡ target_names under ++ flat_map message_names list
names_over level None list = refl
names_over level (Some target) list = refl

-- the node that is made of an open one is an overlay node
made_overlay : (level : ℕ → ℕ) (top : ℕ) (under : Option Target) (waiting : List Message) → top ≡ above level (target_names under ++ flat_map message_names waiting) → (waiting ≡ [] → under ≡ None) → IsOverlay level (overlay (max top 1) under waiting)
made_overlay level top under waiting is none = record {
  one_above = ap (λ m. max m 1) (is ∙ ap (λ ns. above level ns) (sym (names_over (max top 1) under waiting)));
  waiting = λ e.
      names_over (max top 1) under waiting
      ∙ ap (λ (o : Option Target). target_names o ++ flat_map message_names waiting) (none e)
      ∙ ap (λ (ws : List Message). flat_map message_names ws) e;
}

edge_of_over : (under : Option Target) → IsShort under → AllByRecursion (λ c. (1 ≤ c) × (c < 2 ^ 64)) (target_names under) → (n : ℕ) → IsEdge n (edge_over under) None
edge_of_over None short child n = record { pivot = omega arith; rising = tt; lift = omega arith; common = λ k key range. refl; source = omega arith; child = refl; seen = omega arith }
edge_of_over (Some target) short child n = record { pivot = omega arith; rising = tt; lift = omega arith; common = λ k key range. refl; source = short; child = child.0; seen = omega arith }

pivot_of_over : (under : Option Target) → (edge_over under).pivot ≡ []
pivot_of_over None = refl
pivot_of_over (Some target) = refl

seen_of_over : (under : Option Target) → (edge_over under).seen ≡ 0
seen_of_over None = refl
seen_of_over (Some target) = refl

pub overlay_shape : (level : ℕ) (under : Option Target) (list : List Message) → 1 ≤ level → level ≤ level_limit → IsShort under → AllByRecursion (λ c. (1 ≤ c) × (c < 2 ^ 64)) (target_names under) → AllByRecursion IsMessage list → sum_by size list ≤ buffer_limit → IsShape (overlay level under list)
overlay_shape level under list low high short child each fits = record {
  low = low;
  high = high;
  few = omega arith;
  first = ap (λ (p : List ℕ). Some p) (pivot_of_over under);
  each = (edge_of_over under short child (length list), tt);
  messages = each;
  size = fits;
  pending = λ place m there. inl ((let z : (edge_over under).seen ≡ 0 = seen_of_over under in omega arith), (key_of m, (subst (λ (p : List ℕ). IsAtLeast (key_of m) p) (sym (pivot_of_over under)) (least_nil (key_of m)), tt), key_of-touched m));
}

-- ids of nodes
pub id_range : (t : Table) (made : List Node) (level : ℕ) → IsTable t → t.next + length made < 2 ^ 64 → (ns : List ℕ) → AllByRecursion (IsUnder t made (length made) level) ns → AllByRecursion (λ c. (1 ≤ c) × (c < 2 ^ 64)) ns
id_range t made level table room ns h =
    each_weaker (IsUnder t made (length made) level) (λ c. (1 ≤ c) × (c < 2 ^ 64))
    (λ c own. elim own [
      | inl old ↦ (table.low c old.kept, (let b : c < t.next = table.below c old.kept in omega arith))
      | inr older ↦ (let root : 1 ≤ t.root = table.low t.root table.root in let below : t.root < t.next = table.below t.root table.root in let e : c ≡ t.next + older.at = older.id in let b : older.at < length made = older.before in (omega arith, omega arith))
    ]) ns h

-- ---- stacks

-- a stack, part by part
pub record IsStackOf (t : Table) (end : Option Target) (done : List Message) (made : List Node)
    (under : Option Target) (waiting : List Message) (bytes top : ℕ) : Type 0 where
  pub overlays : AreOverlays t made
  pub over : IsOver t made top under
  pub each : AllByRecursion IsMessage waiting
  pub counted : bytes ≡ sum_by size waiting
  pub fits : bytes ≤ buffer_limit
  pub lower : AllByRecursion (IsLower t top) (flat_map message_names waiting)
  pub over_end : above t.level (target_names end) ≤ top
  pub exact : AreExact t made
  pub top_is : top ≡ above (level_in t made) (target_names under ++ flat_map message_names waiting)
  pub meaning : (has : NodesAt) → HasMade has t.next made → (k : List ℕ) → IsKey k
      → acts has waiting k (target_at has under k) ≡ acts has done k (target_at has end k)

of_stack : (t : Table) (end : Option Target) (done : List Message) (s : Stack) → IsStack t end done s → IsStackOf t end done s.made.items s.under s.waiting.items s.size s.level
of_stack t end done s h = record {
  overlays = h.made.overlays;
  over = h.made.over;
  each = h.waiting.each;
  counted = h.waiting.counted;
  fits = h.waiting.fits;
  lower = h.waiting.lower;
  over_end = h.level.end_below;
  exact = h.made.exact;
  top_is = h.level.highest;
  meaning = h.meaning;
}

to_stack : (t : Table) (end : Option Target) (done : List Message) (s : Stack) → IsStackOf t end done s.made.items s.under s.waiting.items s.size s.level → IsStack t end done s
to_stack t end done s h = record {
  made = record { overlays = h.overlays; exact = h.exact; over = h.over };
  waiting = record { each = h.each; counted = h.counted; fits = h.fits; lower = h.lower };
  level = record { highest = h.top_is; end_below = h.over_end };
  meaning = h.meaning;
}

pub restack : (t : Table) (end : Option Target) (done : List Message) (made made2 : List Node) (under under2 : Option Target) (waiting waiting2 : List Message) (bytes bytes2 top top2 : ℕ)
    → made2 ≡ made → under2 ≡ under → waiting2 ≡ waiting → bytes2 ≡ bytes → top2 ≡ top → IsStackOf t end done made under waiting bytes top → IsStackOf t end done made2 under2 waiting2 bytes2 top2
restack t end done made made2 under under2 waiting waiting2 bytes bytes2 top top2 e1 e2 e3 e4 e5 h =
    subst (λ (x : List Node). IsStackOf t end done x under2 waiting2 bytes2 top2) (sym e1)
    (subst (λ (x : Option Target). IsStackOf t end done made x waiting2 bytes2 top2) (sym e2)
    (subst (λ (x : List Message). IsStackOf t end done made under x bytes2 top2) (sym e3)
    (subst (λ (x : ℕ). IsStackOf t end done made under waiting x top2) (sym e4)
    (subst (λ (x : ℕ). IsStackOf t end done made under waiting bytes x) (sym e5) h))))

none_made : (t : Table) → AreOverlays t []
none_made t = record { shape = λ place n there. absurd (none-some n there); lower = λ place n there. absurd (none-some n there); used = λ place n there. absurd (none-some n there) }

end_under : (t : Table) (high : ℕ) (end : Option Target) → IsLowerTarget t high end → AllByRecursion (IsUnder t [] 0 (above t.level (target_names end))) (target_names end)
end_under t high None h = tt
end_under t high (Some target) h = (inl (record { kept = h.kept; lower = omega (arith, le-max_left (t.level target.child + 1) 0) }), tt)

zero_suc : (n : ℕ) → 0 ≡ suc n → ⊥
zero_suc n e = omega arith

end_top : (t : Table) (high : ℕ) (end : Option Target) → IsTable t → IsLowerTarget t high end → above t.level (target_names end) ≡ above (level_in t []) (target_names end ++ [])
end_top t high None table h = refl
end_top t high (Some target) table h = ap (λ l. max (l + 1) 0) (sym (level_kept t [] target.child table h.kept))

begun_of : (t : Table) (high : ℕ) (end : Option Target) → IsTable t → IsLowerTarget t high end → IsShort end → IsStackOf t end [] [] end [] 0 (above t.level (target_names end))
begun_of t high end table lower short = record {
  overlays = none_made t;
  over = record { lower = end_under t high end lower; short = short; last = λ place e. absurd (zero_suc place e) };
  each = tt;
  counted = refl;
  fits = omega arith;
  lower = tt;
  over_end = omega arith;
  exact = λ place n there. absurd (none-some n there);
  top_is = end_top t high end table lower;
  meaning = λ has made k key. refl;
}

pub no_more : (t : Table) (made : List Node) (level high : ℕ) → level ≤ high → (ns : List ℕ) → AllByRecursion (IsUnder t made (length made) level) ns → AllByRecursion (IsUnder t made (length made) high) ns
no_more t made level high le ns h = each_weaker (IsUnder t made (length made) level) (IsUnder t made (length made) high)
    (λ c own. elim own [
      | inl old ↦ inl (record { kept = old.kept; lower = (let l : t.level c < level = old.lower in omega arith) })
      | inr older ↦ inr (record { at = older.at; node = older.node; id = older.id; before = older.before; there = older.there; lower = (let l : level_of older.node < level = older.lower in omega arith) })
    ]) ns h

layer_top : (t : Table) (made : List Node) (l : Layer) → IsTable t → IsLayer t l → l.over ≡ above (level_in t made) (flat_map message_names l.messages)
layer_top t made l table own =
    own.over ∙ above-same t.level (level_in t made) (flat_map message_names l.messages) (each_weaker (IsLower t l.level) (λ c. t.level c ≡ level_in t made c) (λ c lower. sym (level_kept t made c table lower.kept)) (flat_map message_names l.messages) own.lower)

joined_top : (level : ℕ → ℕ) (ns : List ℕ) (waiting more : List Message) (top over : ℕ) → top ≡ above level (ns ++ flat_map message_names waiting) → over ≡ above level (flat_map message_names more) → max top over ≡ above level (ns ++ flat_map message_names (waiting ++ more))
joined_top level ns waiting more top over is also =
    ap (λ m. max m over) is
    ∙ ap (λ m. max (above level (ns ++ flat_map message_names waiting)) m) also
    ∙ sym (above-append level (ns ++ flat_map message_names waiting) (flat_map message_names more))
    ∙ ap (λ xs. above level xs) (append_assoc ns (flat_map message_names waiting) (flat_map message_names more))
    ∙ ap (λ xs. above level (ns ++ xs)) (sym (flat_map-append message_names waiting more))

pub joined_of : (t : Table) (end : Option Target) (done : List Message) (made : List Node) (under : Option Target) (waiting : List Message) (bytes top : ℕ) (l : Layer) → IsTable t → IsStackOf t end done made under waiting bytes top → IsLayer t l → bytes + sum_by size l.messages ≤ buffer_limit
    → IsStackOf t end (done ++ l.messages) made under (waiting ++ l.messages) (bytes + sum_by size l.messages) (max top l.over)
joined_of t end done made under waiting bytes top l table h own fits = record {
  overlays = h.overlays;
  over = record { lower = no_more t made top (max top l.over) (le-max_left top l.over) (target_names under) h.over.lower; short = h.over.short; last = h.over.last };
  each = each_both IsMessage waiting l.messages h.each own.each;
  counted = omega (arith, h.counted, sum_by-append size waiting l.messages);
  fits = fits;
  lower = names_both (IsLower t (max top l.over)) waiting l.messages (lower_more t top (max top l.over) (le-max_left top l.over) (flat_map message_names waiting) h.lower)
      (lower_more t l.over (max top l.over) (le-max_right top l.over) (flat_map message_names l.messages) (layer_lower t l own));
  over_end = omega (arith, h.over_end, le-max_left top l.over);
  exact = h.exact;
  top_is = joined_top (level_in t made) (target_names under) waiting l.messages top l.over h.top_is (layer_top t made l table own);
  meaning = λ has made_has k key.
      acts-append has waiting l.messages k (target_at has under k)
      ∙ ap (λ v. acts has l.messages k v) (h.meaning has made_has k key)
      ∙ sym (acts-append has done l.messages k (target_at has end k));
}

-- the last made node is what is named
last_named : (t : Table) (made : List Node) (place : ℕ) (n : Node) (level top : ℕ) (under : Option Target) (waiting : List Message) → IsOver t made top under → suc place ≡ length made → 1 ≤ times (overlay level under waiting) (t.next + place)
last_named t made place n level top under waiting over last =
    subst (λ (u : Option Target). 1 ≤ times (overlay level u waiting) (t.next + place)) (sym (over.last place (sym last)))
    (omega (arith, count-cons_same (t.next + place) (flat_map message_names waiting)))

-- one node more over overlay nodes
pub one_more : (t : Table) (made : List Node) (top : Node) → AreOverlays t made → IsShape top → AllByRecursion (IsUnder t made (length made) (level_of top)) (names top) → ((place : ℕ) → length made ≡ suc place → 1 ≤ times top (t.next + place)) → AreOverlays t (made ++ top ∷ [])
one_more t made top h shape lower last = record {
  shape = λ place n there. elim (get_cases made top place n there) [
    | inl before ↦ h.shape place n before
    | inr here ↦ subst (λ (m : Node). IsShape m) here.1 shape
  ];
  lower = λ place n there. elim (get_cases made top place n there) [
    | inl before ↦ under_more t made (top ∷ []) place place (level_of n) (level_of n) (omega arith) (omega arith) (names n) (h.lower place n before)
    | inr here ↦ subst (λ (m : Node). AllByRecursion (IsUnder t (made ++ top ∷ []) place (level_of m)) (names m)) here.1
        (under_more t made (top ∷ []) (length made) place (level_of top) (level_of top) (let e : place ≡ length made = here.0 in omega arith) (omega arith) (names top) lower)
  ];
  used = λ place n there. elim (get_cases made top (suc place) n there) [
    | inl before ↦ h.used place n before
    | inr here ↦ subst (λ (m : Node). 1 ≤ times m (t.next + place)) here.1 (last place (sym here.0))
  ];
}

-- and exact where the others are
one_exact : (t : Table) (made : List Node) (top : Node) → IsTable t → AreOverlays t made → AreExact t made → AllByRecursion (IsUnder t made (length made) (level_of top)) (names top) → IsOverlay (level_in t made) top → AreExact t (made ++ top ∷ [])
one_exact t made top table overlays h lower own place n there = elim (get_cases made top place n there) [
  | inl before ↦ overlay_same (level_in t made) (level_in t (made ++ top ∷ [])) n (levels_more t made (top ∷ []) place (level_of n) (names n) table (overlays.lower place n before)) (h place n before)
  | inr here ↦ subst (λ (m : Node). IsOverlay (level_in t (made ++ top ∷ [])) m) here.1
      (overlay_same (level_in t made) (level_in t (made ++ top ∷ [])) top (levels_more t made (top ∷ []) (length made) (level_of top) (names top) table lower) own)
]

pub closed_of : (t : Table) (end : Option Target) (done : List Message) (made : List Node) (under : Option Target) (waiting : List Message) (bytes top : ℕ) → IsTable t → t.next + length made < 2 ^ 64 → top ≤ level_limit → (waiting ≡ [] → under ≡ None) → IsStackOf t end done made under waiting bytes top
    → IsStackOf t end done (made ++ overlay (max top 1) under waiting ∷ []) (Some (record { child = t.next + length made; source = [] })) [] 0 (max top 1 + 1)
closed_of t end done made under waiting bytes top table room high none h =
    let hat : Node = overlay (max top 1) under waiting in
    let level : max top 1 ≤ level_limit = max-le high (omega arith) in
    let names_under : AllByRecursion (IsUnder t made (length made) (max top 1)) (names hat) =
    overlay_names (IsUnder t made (length made) (max top 1)) (max top 1) under waiting (no_more t made top (max top 1) (le-max_left top 1) (target_names under) h.over.lower)
    (each_weaker (IsLower t (max top 1)) (IsUnder t made (length made) (max top 1)) (λ c own. inl own) (flat_map message_names waiting) (lower_more t top (max top 1) (le-max_left top 1) (flat_map message_names waiting) h.lower)) in
    let shape : IsShape hat = overlay_shape (max top 1) under waiting (le-max_right top 1) level h.over.short (id_range t made top table room (target_names under) h.over.lower) h.each (let c : bytes ≡ sum_by size waiting = h.counted in let f : bytes ≤ buffer_limit = h.fits in omega arith) in
    let long : length (made ++ hat ∷ []) ≡ length made + 1 = length-append made (hat ∷ []) in
    record {
      overlays = one_more t made hat h.overlays shape names_under (λ place last. last_named t made place hat (max top 1) top under waiting h.over (sym last));
      over = record {
        lower = (inr (record { at = length made; node = hat; id = refl; before = omega (arith, long); there = get_last made hat; lower = omega arith }), tt);
        short = omega arith;
        last = λ place e. ap (λ (p : ℕ). Some (record { child = t.next + p; source = [] })) (let p : length made ≡ place = omega (arith, long, e) in p);
      };
      each = tt;
      counted = refl;
      fits = omega arith;
      lower = tt;
      over_end = omega (arith, h.over_end, le-max_left top 1);
      exact = one_exact t made hat table h.overlays h.exact names_under (made_overlay (level_in t made) top under waiting h.top_is none);
      top_is = ap (λ l. l + 1) (sym (level_made t (made ++ hat ∷ []) (length made) hat (get_last made hat))) ∙ sym (max-zero (level_in t (made ++ hat ∷ []) (t.next + length made) + 1));
      meaning = λ has made_has k key.
          made_has (length made) hat (get_last made hat) k key
          ∙ overlay_has has (max top 1) under waiting k
          ∙ h.meaning has (λ place n there l more. made_has place n (get_first made (hat ∷ []) place n there) l more) k key;
    }

-- ---- layer by layer

above_most : (level : ℕ → ℕ) (most : ℕ) (ns : List ℕ) → AllByRecursion (λ c. level c < most) ns → above level ns ≤ most
above_most level most [] h = omega arith
above_most level most (c ∷ cs) h = max-le (let l : level c < most = h.0 in omega arith) (above_most level most cs h.1)

over_low : (t : Table) (l : Layer) → IsLayer t l → l.over ≤ l.level
over_low t l own =
    let a : above t.level (flat_map message_names l.messages) ≤ l.level = above_most t.level l.level (flat_map message_names l.messages) (each_weaker (IsLower t l.level) (λ c. t.level c < l.level) (λ c lower. lower.lower) (flat_map message_names l.messages) own.lower) in
    omega (arith, own.over, a)

end_low : (t : Table) (high : ℕ) (end : Option Target) → IsLowerTarget t high end → above t.level (target_names end) ≤ high
end_low t high None h = omega arith
end_low t high (Some target) h = max-le (let l : t.level target.child < high = h.lower in omega arith) (omega arith)

pub over_next : (t : Table) (high : ℕ) (ls : List Layer) (end : Option Target) → AreLayers t high ls end → level_over t ls end ≤ high
over_next t high [] end h = end_low t high end h
over_next t high (l ∷ ls) end h = (let low : l.level < high = h.1 in omega arith)

-- what the stack of layers is
pub record IsBefore (t : Table) (end : Option Target) (ls : List Layer) (a : Stack) : Type 0 where
  pub stack : IsStack t end (laid ls) a
  pub low : a.level ≤ level_over t ls end
  pub few : length a.made.items ≤ length ls
  pub begun : length ls ≡ 0 → IsBegun end a

joined_more : (t : Table) (end : Option Target) (done : List Message) (l : Layer) (a s : Stack) → IsTable t → IsLayer t l → IsStack t end done a → a.size + sum_by size l.messages ≤ buffer_limit → IsJoined a l s → IsStack t end (done ++ l.messages) s
joined_more t end done l a s table own h fits joined =
    to_stack t end (done ++ l.messages) s (restack t end (done ++ l.messages) a.made.items s.made.items a.under s.under (a.waiting.items ++ l.messages) s.waiting.items (a.size + sum_by size l.messages) s.size (max a.level l.over) s.level
    joined.made joined.under joined.waiting joined.size joined.level (joined_of t end done a.made.items a.under a.waiting.items a.size a.level l table (of_stack t end done a h) own fits))

closed_more : (t : Table) (end : Option Target) (done : List Message) (next : ℕ) (a b : Stack) → IsTable t → next ≡ t.next → t.next + length a.made.items < 2 ^ 64 → a.level ≤ level_limit → (a.waiting.items ≡ [] → a.under ≡ None) → IsStack t end done a → IsClosed next a b → IsStack t end done b
closed_more t end done next a b table is room low none h closed =
    to_stack t end done b (restack t end done (a.made.items ++ overlay (max a.level 1) a.under a.waiting.items ∷ []) b.made.items (Some (record { child = t.next + length a.made.items; source = [] })) b.under [] b.waiting.items 0 b.size (max a.level 1 + 1) b.level
    closed.made (closed.under ∙ ap (λ (n : ℕ). Some (record { child = n + length a.made.items; source = [] })) is) closed.waiting closed.size closed.level
    (closed_of t end done a.made.items a.under a.waiting.items a.size a.level table room low none (of_stack t end done a h)))

not_begun_at : (t : Table) (end : Option Target) (ls : List Layer) (a : Stack) → IsBefore t end ls a → 1 ≤ a.size → (high : ℕ) → AreLayers t high ls end → max a.level 1 + 1 ≤ high
not_begun_at t end [] a h some high lower = absurd (let z : a.size ≡ 0 = (h.begun refl).2 in omega arith)
not_begun_at t end (l ∷ ls) a h some high lower =
    let one : 1 ≤ l.level = lower.0 in
    let less : l.level < high = lower.1 in
    let most : max a.level 1 ≤ l.level = max-le h.low one in
    omega arith

-- where bytes are counted messages wait
some_waits : (t : Table) (end : Option Target) (done : List Message) (a : Stack) → IsStack t end done a → 1 ≤ a.size → a.waiting.items ≡ [] → a.under ≡ None
some_waits t end done a h some none = absurd (let c : a.size ≡ sum_by size a.waiting.items = h.waiting.counted in let e : sum_by size a.waiting.items ≡ 0 = ap (λ (ms : List Message). sum_by size ms) none in omega arith)

laid_more_on : (t : Table) (end : Option Target) (next : ℕ) (l : Layer) (ls : List Layer) (a s : Stack) → IsTable t → next ≡ t.next → t.next + length a.made.items < 2 ^ 64 → AreLayers t (level_limit + 1) (l ∷ ls) end → IsBefore t end ls a → IsLaidOn next a l s
    → IsStack t end (laid (l ∷ ls)) s × (s.level ≤ l.level)
laid_more_on t end next l ls a s table is room layers h (fit fits joined) =
    let low : a.level ≤ level_over t ls end = h.low in
    let over : level_over t ls end ≤ l.level = over_next t l.level ls end layers.3 in (
      joined_more t end (laid ls) l a s table layers.2 h.stack fits joined,
      (let m : max a.level l.over ≤ l.level = max-le (omega arith) (over_low t l layers.2) in omega (arith, joined.level, m)),
    )
laid_more_on t end next l ls a s table is room layers h (new b full closed joined) =
    let low : a.level ≤ level_over t ls end = h.low in
    let over : level_over t ls end ≤ l.level = over_next t l.level ls end layers.3 in
    let high : l.level < level_limit + 1 = layers.1 in
    let own : sum_by size l.messages ≤ buffer_limit = layers.2.fits in
    let raised : max a.level 1 + 1 ≤ l.level = not_begun_at t end ls a h (omega arith) l.level layers.3 in
    let size_is : b.size ≡ 0 = closed.size in (
      joined_more t end (laid ls) l b s table layers.2 (closed_more t end (laid ls) next a b table is room (omega arith) (some_waits t end (laid ls) a h.stack (omega arith)) h.stack closed) (omega arith) joined,
      (let m : max b.level l.over ≤ l.level = max-le (omega (arith, closed.level, raised)) (over_low t l layers.2) in omega (arith, joined.level, m)),
    )

made_more : (next n : ℕ) (l : Layer) (a s : Stack) → length a.made.items ≤ n → IsLaidOn next a l s → length s.made.items ≤ n + 1
made_more next n l a s few (fit fits joined) = omega (arith, few, ap (λ (ns : List Node). length ns) joined.made)
made_more next n l a s few (new b full closed joined) =
    omega (arith, few, ap (λ (ns : List Node). length ns) joined.made, ap (λ (ns : List Node). length ns) closed.made, length-append a.made.items (overlay (max a.level 1) a.under a.waiting.items ∷ []))

-- nothing is made yet
pub before_any : (t : Table) (end : Option Target) (a : Stack) → IsTable t → IsLowerTarget t (level_limit + 1) end → IsShort end → a.made.items ≡ [] → a.under ≡ end → a.waiting.items ≡ [] → a.size ≡ 0 → a.level ≡ above t.level (target_names end) → IsBefore t end [] a
before_any t end a table lower short made under waiting bytes level = record {
  stack = to_stack t end [] a (restack t end [] [] a.made.items end a.under [] a.waiting.items 0 a.size (above t.level (target_names end)) a.level made under waiting bytes level (begun_of t (level_limit + 1) end table lower short));
  low = omega (arith, level);
  few = omega (arith, ap (λ (ns : List Node). length ns) made);
  begun = λ none. (waiting, under, bytes);
}

-- one layer more
pub before_more : (t : Table) (end : Option Target) (next : ℕ) (l : Layer) (ls : List Layer) (a s : Stack) → IsTable t → next ≡ t.next → t.next + length a.made.items < 2 ^ 64 → AreLayers t (level_limit + 1) (l ∷ ls) end → IsBefore t end ls a → IsLaidOn next a l s → IsBefore t end (l ∷ ls) s
before_more t end next l ls a s table is room layers h on =
    let more : IsStack t end (laid (l ∷ ls)) s × (s.level ≤ l.level) = laid_more_on t end next l ls a s table is room layers h on in
    record {
      stack = more.0;
      low = more.1;
      few = omega (arith, made_more next (length ls) l a s h.few on);
      begun = λ none. absurd (omega (arith, none));
    }

-- ---- all made

ended_of : (t : Table) (end : Option Target) (done : List Message) (s : Stack) (p : Packed) → IsStack t end done s → s.waiting.items ≡ [] → IsEnded s p → IsPacked t end done p
ended_of t end done s p h none ended = record {
  overlays = subst (λ (ns : List Node). AreOverlays t ns) (sym ended.made) h.made.overlays;
  over = subst (λ (ns : List Node). IsOver t ns (p.level + 1) (Some p.target)) (sym ended.made)
      (subst (λ (o : Option Target). IsOver t s.made.items (p.level + 1) o) ended.target (subst (λ (n : ℕ). IsOver t s.made.items n s.under) ended.level h.made.over));
  over_end = (let o : above t.level (target_names end) ≤ s.level = h.level.end_below in omega (arith, ended.level));
  exact = subst (λ (ns : List Node). AreExact t ns) (sym ended.made) h.made.exact;
  level_is =
      (let top : s.level ≡ max (level_in t s.made.items p.target.child + 1) 0 =
      h.level.highest ∙ ap (λ (o : Option Target). above (level_in t s.made.items) (target_names o ++ flat_map message_names s.waiting.items)) ended.target
      ∙ ap (λ (ms : List Message). above (level_in t s.made.items) (p.target.child ∷ flat_map message_names ms)) none in
      let one : p.level ≡ level_in t s.made.items p.target.child = omega (arith, top, ended.level, max-zero (level_in t s.made.items p.target.child + 1)) in one)
      ∙ ap (λ (ns : List Node). level_in t ns p.target.child) (sym ended.made);
  meaning = λ has made k key.
      ap (λ (o : Option Target). target_at has o k) (sym ended.target)
      ∙ ap (λ (ms : List Message). acts has ms k (target_at has s.under k)) (sym none)
      ∙ h.meaning has (subst (λ (ns : List Node). HasMade has t.next ns) ended.made made) k key;
}

first_low : (t : Table) (end : Option Target) (ls : List Layer) (a : Stack) → AreLayers t (level_limit + 1) ls end → IsBefore t end ls a → (a.waiting.items ≡ [] → a.under ≡ None) → a.level ≤ level_limit
first_low t end [] a layers h none =
    let begun : IsBegun end a = h.begun refl in
    let nothing : end ≡ None = sym begun.1 ∙ none begun.0 in
    let zero_level : level_over t [] end ≡ 0 = ap (λ (o : Option Target). above t.level (target_names o)) nothing in
    omega (arith, h.low, zero_level)
first_low t end (l ∷ ls) a layers h none = (let low : a.level ≤ l.level = h.low in let high : l.level < level_limit + 1 = layers.1 in omega arith)

pub packed_of : (t : Table) (end : Option Target) (next : ℕ) (ls : List Layer) (a : Stack) (p : Packed) → IsTable t → next ≡ t.next → t.next + length a.made.items < 2 ^ 64 → AreLayers t (level_limit + 1) ls end → IsBefore t end ls a → IsFinished next a p → IsPacked t end (laid ls) p
packed_of t end next ls a p table is room layers h (as_it_is none ended) = ended_of t end (laid ls) a p h.stack none ended
packed_of t end next ls a p table is room layers h (made_too b none closed ended) =
    ended_of t end (laid ls) b p (closed_more t end (laid ls) next a b table is room (first_low t end ls a layers h none) none h.stack closed) closed.waiting ended

pub not_some : (o : Option Target) (b : Bool) → b ≡ is_some o → b ≡ false → o ≡ None
not_some None b is not = refl
not_some (Some target) b is not = absurd (not_both is not)
