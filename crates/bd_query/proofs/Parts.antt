-- What parts say of a key.
use Rattle.std.proofs.Common.{◌≡◌, ℕ, zero, suc, ◌+◌, ◌<◌, ◌≤◌, true, cond, List, [], ◌∷◌, ◌++◌, length, drop, refl, sym, ap, subst, ◌∙◌, Option, Some, arith, inl, inr}
use Rattle.std.specs.Prelude.{slice_get, count_by, ◌==◌}
use Rattle.std.specs.List.{flat_map}
use Rattle.std.proofs.lemmas.Bool.{cond-true, cond-false}
use Rattle.std.proofs.lemmas.List.Sums.{sum_by-append}
use Rattle.std.proofs.lemmas.Option.{same_Some, none-some, slice_get_within}
use Rattle.bd_message.specs.declared.message.Message.{Message}
use Rattle.bd_message.specs.Effect.{NodesAt, act, acts}
use Rattle.bd_node.specs.declared.node.Edge.{Edge}
use Rattle.bd_node.specs.Touching.{touches, NoneTouches}
use Rattle.bd_node.specs.Nodes.{edge_names, message_names, edge_of}
use Rattle.bd_node.proofs.Counted.{counted_first, counted_second, message_counted, edge_of_counted}
use Rattle.bd_node.proofs.LawLemmas.{skipped}
use Rattle.bd_query.specs.declared.patch.Patch.{Patch}
use Rattle.bd_query.specs.declared.part.Base.{Base}
use Rattle.bd_query.specs.declared.part.Base.TheVariants.{Value, Ask}
use Rattle.bd_query.specs.declared.part.Part.{Part}
use Rattle.bd_query.specs.Looks.{patched, part_at, IsNamedIn, IsOldOr}
use Rattle.bd_query.specs.Asks.{Question, asked_by, asked_after, asked_of}

-- patches after patches
pub patched-append : (ps qs : List Patch) (old : Option (List ℕ)) → patched (ps ++ qs) old ≡ patched qs (patched ps old)
patched-append [] qs old = refl
patched-append (p ∷ ps) qs old = patched-append ps qs _

-- ---- names

-- more before the same
counted_more : (c : ℕ) (xs ys zs : List ℕ) → count_by (λ name. name == c) xs ≤ count_by (λ name. name == c) ys → count_by (λ name. name == c) (xs ++ zs) ≤ count_by (λ name. name == c) (ys ++ zs)
counted_more c xs ys zs le =
    omega (arith, le, sum_by-append (λ (x : ℕ). cond (x == c) 1 0) xs zs, sum_by-append (λ (x : ℕ). cond (x == c) 1 0) ys zs)

pub named_more : (xs ys : List ℕ) (base : Base) → ((c : ℕ) → count_by (λ name. name == c) xs ≤ count_by (λ name. name == c) ys) → IsNamedIn xs base → IsNamedIn ys base
named_more xs ys (Value found) more h = tt
named_more xs ys (Ask child key) more h = (let m : count_by (λ name. name == child) xs ≤ count_by (λ name. name == child) ys = more child in omega arith)

-- the base after a message of a buffer is the first one, or asks what the buffer names
pub old_or_more : (ms : List Message) (i : ℕ) (m : Message) (first old new : Base) → slice_get ms i ≡ Some m → IsOldOr (flat_map message_names ms) first old → IsOldOr (message_names m) old new → IsOldOr (flat_map message_names ms) first new
old_or_more ms i m first old new there before step =
    elim step [
      | inl same ↦ subst (λ (b : Base). IsOldOr (flat_map message_names ms) first b) (sym same) before
      | inr named ↦ inr (named_more (message_names m) (flat_map message_names ms) new (λ c. message_counted ms i m c there) named)
    ]

-- what a part through an edge asks is one of the edge's names, or of the buffer's
pub through_named : (e : Edge) (buffer : List Message) (first new : Base) → IsNamedIn (edge_names e) first → IsOldOr (flat_map message_names buffer) first new → IsNamedIn (edge_names e ++ flat_map message_names buffer) new
through_named e buffer first new named step =
    let ns : List ℕ = edge_names e ++ flat_map message_names buffer in
    elim step [
      | inl same ↦ subst (λ (b : Base). IsNamedIn ns b) (sym same) (named_more (edge_names e) ns first (λ c. counted_first c (edge_names e) (flat_map message_names buffer)) named)
      | inr later ↦ named_more (flat_map message_names buffer) ns new (λ c. counted_second c (edge_names e) (flat_map message_names buffer)) later
    ]

-- and so one of the node's
pub inner_named : (es : List Edge) (buffer : List Message) (k : List ℕ) (e : Edge) (new : Base) → edge_of es k ≡ Some e → IsNamedIn (edge_names e ++ flat_map message_names buffer) new → IsNamedIn (flat_map edge_names es ++ flat_map message_names buffer) new
inner_named es buffer k e new there named =
    let later : List ℕ = flat_map message_names buffer in
    named_more (edge_names e ++ later) (flat_map edge_names es ++ later) new (λ c. counted_more c (edge_names e) (flat_map edge_names es) later (edge_of_counted es k e c there)) named

-- ---- messages

pub drop_at : (ms : List Message) (i : ℕ) (m : Message) → slice_get ms i ≡ Some m → drop i ms ≡ m ∷ drop (suc i) ms
drop_at [] i m there = absurd (none-some m there)
drop_at (n ∷ ms) zero m there = ap (λ (q : Message). q ∷ ms) (same_Some n m there)
drop_at (n ∷ ms) (suc i) m there = drop_at ms i m there

drop_end : (ms : List Message) → drop (length ms) ms ≡ []
drop_end [] = refl
drop_end (m ∷ ms) = drop_end ms

-- to the next message that can change the key, and over it
pub acts_over : (below : NodesAt) (ms : List Message) (k : List ℕ) (from place : ℕ) (m : Message) (old : Option (List ℕ)) → from ≤ place → NoneTouches ms from place k → slice_get ms place ≡ Some m → acts below (drop from ms) k old ≡ acts below (drop (place + 1) ms) k (act below m k old)
acts_over below ms k from place m old le none there = (let e : suc place ≡ place + 1 = omega arith in
    skipped below ms from place k none le old ∙ ap (λ l. acts below l k old) (drop_at ms place m there) ∙ ap (λ i. acts below (drop i ms) k (act below m k old)) e)

-- and to the end
pub acts_rest : (below : NodesAt) (ms : List Message) (k : List ℕ) (from : ℕ) (old : Option (List ℕ)) → from ≤ length ms → NoneTouches ms from (length ms) k → acts below (drop from ms) k old ≡ old
acts_rest below ms k from old le none = skipped below ms from (length ms) k none le old ∙ ap (λ l. acts below l k old) (drop_end ms)

-- ---- whom messages ask

-- messages that don't change the key leave whom is asked
asked_skipped : (ms : List Message) (k : List ℕ) (from to : ℕ) (old : Option Question) → from ≤ to → NoneTouches ms from to k → asked_after (drop from ms) k old ≡ asked_after (drop to ms) k old
asked_skipped ms k zero zero old le none = refl
asked_skipped [] k zero (suc to) old le none = refl
asked_skipped (n ∷ ms) k zero (suc to) old le none =
    ap (λ (q : Option Question). asked_after ms k q) (cond-false (touches n k) (asked_by n k old) old (none zero n (omega arith) (omega arith) refl))
    ∙ asked_skipped ms k zero to old (omega arith) (λ i m low high there. none (suc i) m (omega arith) (omega arith) there)
asked_skipped ms k (suc from) zero old le none = absurd (omega arith)
asked_skipped [] k (suc from) (suc to) old le none = refl
asked_skipped (n ∷ ms) k (suc from) (suc to) old le none =
    asked_skipped ms k from to old (omega arith) (λ i m low high there. none (suc i) m (omega arith) (omega arith) there)

-- to the next message that changes the key, and over it
pub asked_over : (ms : List Message) (k : List ℕ) (from place : ℕ) (m : Message) (old : Option Question) → from ≤ place → NoneTouches ms from place k → slice_get ms place ≡ Some m → touches m k ≡ true
    → asked_after (drop from ms) k old ≡ asked_after (drop (place + 1) ms) k (asked_by m k old)
asked_over ms k from place m old le none there changes = (let e : suc place ≡ place + 1 = omega arith in
    asked_skipped ms k from place old le none
    ∙ ap (λ (l : List Message). asked_after l k old) (drop_at ms place m there)
    ∙ ap (λ (q : Option Question). asked_after (drop (suc place) ms) k q) (cond-true (touches m k) (asked_by m k old) old changes)
    ∙ ap (λ (i : ℕ). asked_after (drop i ms) k (asked_by m k old)) e)

-- and to the end
pub asked_rest : (ms : List Message) (k : List ℕ) (from : ℕ) (old : Option Question) → from ≤ length ms → NoneTouches ms from (length ms) k → asked_after (drop from ms) k old ≡ old
asked_rest ms k from old le none = asked_skipped ms k from (length ms) old le none ∙ ap (λ (l : List Message). asked_after l k old) (drop_end ms)

-- ---- a search through a buffer

-- what it keeps
pub record IsThrough (buffer : List Message) (k : List ℕ) (seen place : ℕ) (first now : Part) : Type 0 where
  pub later : seen ≤ place
  pub within : place ≤ length buffer
  pub rest : (below : NodesAt) → acts below (drop place buffer) k (part_at below now) ≡ acts below (drop seen buffer) k (part_at below first)
  pub named : IsOldOr (flat_map message_names buffer) first.base now.base
  pub asks : asked_after (drop place buffer) k (asked_of now.base) ≡ asked_after (drop seen buffer) k (asked_of first.base)

-- what a message that changes the key makes of a part
pub record IsChanged (m : Message) (k : List ℕ) (old new : Part) : Type 0 where
  pub part : (below : NodesAt) → part_at below new ≡ act below m k (part_at below old)
  pub named : IsOldOr (message_names m) old.base new.base
  pub asks : asked_of new.base ≡ asked_by m k (asked_of old.base)

pub through_more : (buffer : List Message) (k : List ℕ) (seen place next : ℕ) (m : Message) (first old new : Part) → IsThrough buffer k seen place first old → place ≤ next → NoneTouches buffer place next k → slice_get buffer next ≡ Some m → touches m k ≡ true
    → IsChanged m k old new → IsThrough buffer k seen (next + 1) first new
through_more buffer k seen place next m first old new h le none there changes is = record {
  later = (let a : seen ≤ place = h.later in omega arith);
  within = (let within : next < length buffer = slice_get_within buffer next m there in omega arith);
  rest = λ below.
      ap (λ v. acts below (drop (next + 1) buffer) k v) (is.part below)
      ∙ sym (acts_over below buffer k place next m (part_at below old) le none there)
      ∙ h.rest below;
  named = old_or_more buffer next m first.base old.base new.base there h.named is.named;
  asks =
      ap (λ (q : Option Question). asked_after (drop (next + 1) buffer) k q) is.asks
      ∙ sym (asked_over buffer k place next m (asked_of old.base) le none there changes)
      ∙ h.asks;
}
