-- Groups of messages, and the overlay nodes that they get.
use Rattle.std.proofs.Common.{◌≡◌, ℕ, ◌+◌, ◌<◌, ◌≤◌, ◌^◌, max, cond, ltb, List, [], ◌∷◌, ◌++◌, length, refl, sym, ap, subst, ◌∙◌, Option, None, Some, inl, inr, arith, length-append}
use Rattle.std.specs.List.{AllByRecursion, flat_map, sum_by}
use Rattle.std.proofs.lemmas.List.{append-nil}
use Rattle.std.proofs.lemmas.List.Sums.{sum_by-append}
use Rattle.std.proofs.lemmas.Option.{none-some}
use Rattle.std.proofs.lemmas.Bool.{cases_lt, cond-true, cond-false, lt-ltb, le-ltb}
use Rattle.std.proofs.Math.Nat.{max-zero}
use Rattle.std.proofs.lemmas.Grind.{flat_map-append}
use Rattle.bd_limits.specs.Limits.{buffer_limit}
use Rattle.bd_message.specs.declared.message.Message.{Message}
use Rattle.bd_message.specs.Messages.{size}
use Rattle.bd_node.specs.declared.node.Node.{Node}
use Rattle.bd_node.specs.Nodes.{message_names}
use Rattle.bd_node.specs.Tables.{Table}
use Rattle.bd_resolve.specs.declared.following.Target.{Target}
use Rattle.bd_graft.specs.declared.layers.Layer.{Layer}
use Rattle.bd_graft.specs.declared.packing.Stack.{Stack}
use Rattle.bd_graft.specs.declared.packing.Packed.{Packed}
use Rattle.bd_graft.specs.Layers.{above, IsLayer, AreLayers}
use Rattle.bd_graft.specs.Walking.{messages_in}
use Rattle.bd_graft.specs.Packing.{overlay, target_names, gathered, packs, overlaid, over_all, overlay_level, top_over, overlays_over, newest_of, older_of, IsStackWith, IsPackedWith, Fits, IsClosed, IsJoined, IsLaidOn, IsEnded, IsFinished}
use Rattle.bd_graft.specs.Packing.IsLaidOn.{fit, new}
use Rattle.bd_graft.specs.Packing.IsFinished.{as_it_is, made_too}
use Rattle.bd_graft.proofs.Packs.{max_assoc, above-append}

-- ---- how many there are

pub overlays_length : (t : Table) (end : Option Target) (groups : List (List Message)) → length (overlays_over t end groups) ≡ length groups
overlays_length t end [] = refl
overlays_length t end (g ∷ groups) = omega (arith, overlays_length t end groups, length-append (overlays_over t end groups) (overlay (overlay_level t (top_over t end groups) g) (over_all t.next end groups) g ∷ []))

pub by_case : (P : List (List Message) → Type 0) (low high : ℕ) (x y : List (List Message)) → (low < high → P x) → (high ≤ low → P y) → P (cond (ltb low high) x y)
by_case P low high x y less more = elim (cases_lt low high) [
  | inl l ↦ subst P (sym (cond-true (ltb low high) x y (lt-ltb low high l))) (less l)
  | inr m ↦ subst P (sym (cond-false (ltb low high) x y (le-ltb low high m))) (more m)
]

gathered_length : (ms : List Message) (groups : List (List Message)) → length groups ≤ length (gathered ms groups)
gathered_length [] groups = omega arith
gathered_length (m ∷ ms) [] = omega arith
gathered_length (m ∷ ms) (g ∷ groups) =
    by_case (λ x. length (g ∷ groups) ≤ length x) buffer_limit (sum_by size g + sum_by size (m ∷ ms)) ((m ∷ ms) ∷ g ∷ groups) ((g ++ m ∷ ms) ∷ groups) (λ l. omega arith) (λ l. omega arith)

-- fewer layers have no more groups
pub fewer : (xs ys : List Layer) → length (packs (messages_in ys)) ≤ length (packs (messages_in (xs ++ ys)))
fewer [] ys = omega arith
fewer (x ∷ xs) ys = omega (arith, fewer xs ys, gathered_length x.messages (packs (messages_in (xs ++ ys))))

older_length : (groups : List (List Message)) → length (older_of groups) ≤ length groups
older_length [] = omega arith
older_length (g ∷ groups) = omega arith

pub overlaid_length : (end : Option Target) (groups : List (List Message)) → length groups ≤ length (overlaid end groups)
overlaid_length None [] = omega arith
overlaid_length None (g ∷ groups) = omega arith
overlaid_length (Some target) groups = omega arith

-- ---- the stack

-- there is room for the nodes of a stack where there is for all
pub stack_room : (t : Table) (end : Option Target) (groups : List (List Message)) (front : List Message) (a : Stack) (most : ℕ) → IsStackWith t end (older_of groups) front a → length groups ≤ most → t.next + most < 2 ^ 64 → t.next + length a.made.items < 2 ^ 64
stack_room t end groups front a most h few room = omega (arith, ap (λ (ns : List Node). length ns) h.made, overlays_length t end (older_of groups), older_length groups)

pub begun_with : (t : Table) (end : Option Target) (a : Stack) → a.made.items ≡ [] → a.under ≡ end → a.waiting.items ≡ [] → a.size ≡ 0 → a.level ≡ above t.level (target_names end) → IsStackWith t end [] [] a
begun_with t end a made under waiting bytes level = record {
  made = made;
  under = under;
  waiting = waiting;
  bytes = bytes;
  top = level ∙ sym (max-zero (above t.level (target_names end)));
}

above_both : (level : ℕ → ℕ) (xs ys : List Message) → above level (flat_map message_names (xs ++ ys)) ≡ max (above level (flat_map message_names xs)) (above level (flat_map message_names ys))
above_both level xs ys = ap (λ ns. above level ns) (flat_map-append message_names xs ys) ∙ above-append level (flat_map message_names xs) (flat_map message_names ys)

joined_with : (t : Table) (end : Option Target) (closed : List (List Message)) (front : List Message) (l : Layer) (a s : Stack) → IsLayer t l → IsStackWith t end closed front a → IsJoined a l s → IsStackWith t end closed (front ++ l.messages) s
joined_with t end closed front l a s own h joined = record {
  made = joined.made ∙ h.made;
  under = joined.under ∙ h.under;
  waiting = joined.waiting ∙ ap (λ (ms : List Message). ms ++ l.messages) h.waiting;
  bytes = omega (arith, joined.size, h.bytes, sum_by-append size front l.messages);
  top =
      joined.level
      ∙ ap (λ m. max m l.over) h.top
      ∙ ap (λ m. max (max (top_over t end closed) (above t.level (flat_map message_names front))) m) own.over
      ∙ sym (max_assoc (top_over t end closed) (above t.level (flat_map message_names front)) (above t.level (flat_map message_names l.messages)))
      ∙ ap (λ m. max (top_over t end closed) m) (sym (above_both t.level front l.messages));
}

closed_with : (t : Table) (end : Option Target) (closed : List (List Message)) (front : List Message) (a b : Stack) → IsStackWith t end closed front a → IsClosed t.next a b → IsStackWith t end (front ∷ closed) [] b
closed_with t end closed front a b h c = record {
  made =
      c.made
      ∙ ap (λ (ns : List Node). ns ++ overlay (max a.level 1) a.under a.waiting.items ∷ []) h.made
      ∙ ap (λ (l : ℕ). overlays_over t end closed ++ overlay (max l 1) a.under a.waiting.items ∷ []) h.top
      ∙ ap (λ (u : Option Target). overlays_over t end closed ++ overlay (max (max (top_over t end closed) (above t.level (flat_map message_names front))) 1) u a.waiting.items ∷ []) h.under
      ∙ ap (λ (ms : List Message). overlays_over t end closed ++ overlay (max (max (top_over t end closed) (above t.level (flat_map message_names front))) 1) (over_all t.next end closed) ms ∷ []) h.waiting;
  under = c.under ∙ ap (λ (n : ℕ). Some (record { child = t.next + n; source = [] })) (ap (λ (ns : List Node). length ns) h.made ∙ overlays_length t end closed);
  waiting = c.waiting;
  bytes = c.size;
  top = c.level ∙ ap (λ (l : ℕ). max l 1 + 1) h.top ∙ sym (max-zero (top_over t end (front ∷ closed)));
}

next_closed : (next : ℕ) (t : Table) (a b : Stack) → next ≡ t.next → IsClosed next a b → IsClosed t.next a b
next_closed next t a b is c = subst (λ (n : ℕ). IsClosed n a b) is c

opened : (t : Table) (end : Option Target) (closed : List (List Message)) (front ms : List Message) (s : Stack) → front ≡ ms → IsStackWith t end closed front s → IsStackWith t end closed ms s
opened t end closed front ms s is h = subst (λ (x : List Message). IsStackWith t end closed x s) is h

sizes_same : (xs ys : List Message) → xs ≡ ys → sum_by size xs ≡ sum_by size ys
sizes_same xs ys is = ap (λ (ms : List Message). sum_by size ms) is

laid_with : (t : Table) (end : Option Target) (next : ℕ) (groups : List (List Message)) (l : Layer) (ms : List Message) (a s : Stack) → next ≡ t.next → l.messages ≡ ms → IsLayer t l → a.size ≤ buffer_limit → IsStackWith t end (older_of groups) (newest_of groups) a → IsLaidOn next a l s
    → IsStackWith t end (older_of (gathered ms groups)) (newest_of (gathered ms groups)) s
laid_with t end next groups l [] a s at is own small h (fit fits joined) =
    opened t end (older_of groups) (newest_of groups ++ l.messages) (newest_of groups) s (ap (λ (x : List Message). newest_of groups ++ x) is ∙ append-nil (newest_of groups))
    (joined_with t end (older_of groups) (newest_of groups) l a s own h joined)
laid_with t end next groups l [] a s at is own small h (new b full closed joined) = absurd (omega (arith, full, small, sizes_same l.messages [] is))
laid_with t end next [] l (m ∷ ms) a s at is own small h (fit fits joined) = opened t end [] l.messages (m ∷ ms) s is (joined_with t end [] [] l a s own h joined)
laid_with t end next [] l (m ∷ ms) a s at is own small h (new b full closed joined) = absurd (omega (arith, full, h.bytes, own.fits))
laid_with t end next (g ∷ groups) l (m ∷ ms) a s at is own small h (fit fits joined) =
    by_case (λ x. IsStackWith t end (older_of x) (newest_of x) s) buffer_limit (sum_by size g + sum_by size (m ∷ ms)) ((m ∷ ms) ∷ g ∷ groups) ((g ++ m ∷ ms) ∷ groups)
    (λ more. absurd (omega (arith, more, fits, h.bytes, sizes_same l.messages (m ∷ ms) is)))
    (λ less. opened t end groups (g ++ l.messages) (g ++ m ∷ ms) s (ap (λ (x : List Message). g ++ x) is) (joined_with t end groups g l a s own h joined))
laid_with t end next (g ∷ groups) l (m ∷ ms) a s at is own small h (new b full closed joined) =
    by_case (λ x. IsStackWith t end (older_of x) (newest_of x) s) buffer_limit (sum_by size g + sum_by size (m ∷ ms)) ((m ∷ ms) ∷ g ∷ groups) ((g ++ m ∷ ms) ∷ groups)
    (λ more. opened t end (g ∷ groups) l.messages (m ∷ ms) s is (joined_with t end (g ∷ groups) [] l b s own (closed_with t end groups g a b h (next_closed next t a b at closed)) joined))
    (λ less. absurd (omega (arith, less, full, h.bytes, sizes_same l.messages (m ∷ ms) is)))

pub with_more : (t : Table) (end : Option Target) (next : ℕ) (l : Layer) (ls : List Layer) (a s : Stack) → next ≡ t.next → IsLayer t l → a.size ≤ buffer_limit → IsStackWith t end (older_of (packs (messages_in ls))) (newest_of (packs (messages_in ls))) a → IsLaidOn next a l s
    → IsStackWith t end (older_of (packs (messages_in (l ∷ ls)))) (newest_of (packs (messages_in (l ∷ ls)))) s
with_more t end next l ls a s at own small h on = laid_with t end next (packs (messages_in ls)) l l.messages a s at refl own small h on

-- ---- all made

nothing_after : (xs : List Message) (y : Message) (ys : List Message) → xs ++ y ∷ ys ≡ [] → ⊥
nothing_after [] y ys e = cc
nothing_after (x ∷ xs) y ys e = cc

gathered_some : (ms : List Message) (groups : List (List Message)) → (newest_of groups ≡ [] → groups ≡ []) → newest_of (gathered ms groups) ≡ [] → gathered ms groups ≡ []
gathered_some [] groups old = old
gathered_some (m ∷ ms) [] old = λ none. absurd (nothing_after [] m ms none)
gathered_some (m ∷ ms) (g ∷ groups) old =
    by_case (λ x. newest_of x ≡ [] → x ≡ []) buffer_limit (sum_by size g + sum_by size (m ∷ ms)) ((m ∷ ms) ∷ g ∷ groups) ((g ++ m ∷ ms) ∷ groups)
    (λ more none. absurd (nothing_after [] m ms none)) (λ less none. absurd (nothing_after g m ms none))

-- no group is empty
some_in : (travel : List (List Message)) → newest_of (packs travel) ≡ [] → packs travel ≡ []
some_in [] none = refl
some_in (ms ∷ travel) none = gathered_some ms (packs travel) (some_in travel) none

ended_with : (t : Table) (end : Option Target) (groups : List (List Message)) (b : Stack) (p : Packed) → IsStackWith t end groups [] b → IsEnded b p → IsPackedWith t end groups p
ended_with t end groups b p h ended = record {
  made = ended.made ∙ h.made;
  target = sym h.under ∙ ended.target;
  top = sym ended.level ∙ h.top ∙ max-zero (top_over t end groups);
}

none_made_with : (t : Table) (end : Option Target) (groups : List (List Message)) (a : Stack) (p : Packed) → groups ≡ [] → IsStackWith t end (older_of groups) (newest_of groups) a → IsEnded a p → IsPackedWith t end (overlaid end groups) p
none_made_with t None [] a p is h ended = absurd (none-some p.target (sym h.under ∙ ended.target))
none_made_with t (Some target) [] a p is h ended = ended_with t (Some target) [] a p h ended
none_made_with t end (g ∷ groups) a p is h ended = absurd cc

some_made_with : (t : Table) (end : Option Target) (groups : List (List Message)) (a b : Stack) (p : Packed) → (a.waiting.items ≡ [] → a.under ≡ None) → IsStackWith t end (older_of groups) (newest_of groups) a → IsStackWith t end (newest_of groups ∷ older_of groups) [] b → IsEnded b p → IsPackedWith t end (overlaid end groups) p
some_made_with t None [] a b p none h closed ended = ended_with t None ([] ∷ []) b p closed ended
some_made_with t (Some target) [] a b p none h closed ended = absurd (none-some target (sym (none h.waiting) ∙ h.under))
some_made_with t None (g ∷ groups) a b p none h closed ended = ended_with t None (g ∷ groups) b p closed ended
some_made_with t (Some target) (g ∷ groups) a b p none h closed ended = ended_with t (Some target) (g ∷ groups) b p closed ended

pub packed_with : (t : Table) (end : Option Target) (next : ℕ) (travel : List (List Message)) (a : Stack) (p : Packed) → next ≡ t.next → IsStackWith t end (older_of (packs travel)) (newest_of (packs travel)) a → IsFinished next a p → IsPackedWith t end (overlaid end (packs travel)) p
packed_with t end next travel a p at h (as_it_is none ended) = none_made_with t end (packs travel) a p (some_in travel (sym h.waiting ∙ none)) h ended
packed_with t end next travel a p at h (made_too b none closed ended) =
    some_made_with t end (packs travel) a b p none h (closed_with t end (older_of (packs travel)) (newest_of (packs travel)) a b h (next_closed next t a b at closed)) ended

pub packed_length : (t : Table) (end : Option Target) (groups : List (List Message)) (p : Packed) → IsPackedWith t end groups p → length p.made.items ≡ length groups
packed_length t end groups p h = ap (λ (ns : List Node). length ns) h.made ∙ overlays_length t end groups

-- each layer fits a node
pub layers_fit : (t : Table) (high : ℕ) (ls : List Layer) (end : Option Target) → AreLayers t high ls end → AllByRecursion Fits ls
layers_fit t high [] end h = tt
layers_fit t high (l ∷ ls) end h = (record { each = h.2.each; fits = h.2.fits }, layers_fit t l.level ls end h.3)
