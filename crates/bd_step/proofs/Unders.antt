-- What waits for a prefix is pending for the edge that has all its keys.
use Rattle.std.proofs.Common.{◌≡◌, ℕ, zero, suc, true, false, ◌+◌, ◌≤◌, List, [], ◌∷◌, ◌++◌, drop, refl, ap, subst, ◌∙◌, Option, Some, arith, inl, inr}
use Rattle.std.specs.Prelude.{slice_get}
use Rattle.std.specs.List.{sum_by}
use Rattle.std.proofs.lemmas.Bool.{cases_Bool, cond-true, cond-false}
use Rattle.std.proofs.lemmas.List.Sums.{sum_by-cons}
use Rattle.bd_limits.specs.Limits.{abundant_limit}
use Rattle.bd_message.specs.declared.message.Message.{Message}
use Rattle.bd_message.specs.declared.message.Message.TheVariants.{Put, Del, Patch, Cut, Goto}
use Rattle.bd_message.specs.Effect.{begins}
use Rattle.bd_message.specs.Freeing.{stem}
use Rattle.bd_message.specs.Messages.{size}
use Rattle.bd_message.proofs.Finds.{begins-append}
use Rattle.bd_message.proofs.Prefixes.{begins-more}
use Rattle.bd_node.specs.declared.node.Edge.{Edge}
use Rattle.bd_node.specs.declared.node.Node.{Node}
use Rattle.bd_node.specs.Parts.{buffer_of, end_at}
use Rattle.bd_node.specs.Shape.{IsPending}
use Rattle.bd_node.specs.Touching.{CanTouch}
use Rattle.bd_node.proofs.Appending.{key_of, key_of-touched}
use Rattle.bd_flush.specs.GoingDown.{LiesWithin}
use Rattle.bd_step.specs.Ways.{HasPendingAt}
use Rattle.bd_step.specs.Filling.{IsPendingSize}
use Rattle.bd_step.specs.Settling.{size_under, waiting_under, IsDueAt, ArePending, IsMuchAt}

-- ---- a message on keys that begin with a prefix

-- the first key that it can change begins with what its keys do
key_under : (q : List ℕ) (m : Message) → begins (stem m) q ≡ true → begins (key_of m) q ≡ true
key_under q (Put key value) h = h
key_under q (Del key) h = h
key_under q (Patch key off bytes) h = h
key_under q (Cut prefix from) h = begins-more (prefix ++ from) prefix q (begins-append prefix from) h
key_under q (Goto prefix source child) h = h

pub under_touches : (q lo : List ℕ) (hi : Option (List ℕ)) (m : Message) → LiesWithin q lo hi → begins (stem m) q ≡ true → CanTouch m lo hi
under_touches q lo hi m lies h = (key_of m, lies.range (key_of m) (key_under q m h), key_of-touched m)

pub size_in : (q : List ℕ) (m : Message) → begins (stem m) q ≡ true → size_under q m ≡ size m
size_in q m h = cond-true (begins (stem m) q) (size m) 0 h

pub size_out : (q : List ℕ) (m : Message) → begins (stem m) q ≡ false → size_under q m ≡ 0
size_out q m h = cond-false (begins (stem m) q) (size m) 0 h

-- ---- what waits is pending

-- of messages that the edge hasn't seen
unseen_pending : (q : List ℕ) (e : Edge) (hi : Option (List ℕ)) (place : ℕ) (ms : List Message) → LiesWithin q e.pivot hi → e.seen ≤ place → ArePending e hi place ms (sum_by (size_under q) ms)
unseen_pending q e hi place [] lies low = refl
unseen_pending q e hi place (m ∷ ms) lies low =
    let more : ArePending e hi (place + 1) ms (sum_by (size_under q) ms) = unseen_pending q e hi (place + 1) ms lies (omega arith) in
    elim (cases_Bool (begins (stem m) q)) [
      | inl in_it ↦ (size m, sum_by (size_under q) ms, inl ((low, under_touches q e.pivot hi m lies in_it), refl), more, sum_by-cons (size_under q) m ms ∙ ap (λ (n : ℕ). n + sum_by (size_under q) ms) (size_in q m in_it))
      | inr apart ↦ (0, sum_by (size_under q) ms, inr refl, more, sum_by-cons (size_under q) m ms ∙ ap (λ (n : ℕ). n + sum_by (size_under q) ms) (size_out q m apart))
    ]

-- none are counted that it has
seen_pending : (q : List ℕ) (e : Edge) (hi : Option (List ℕ)) (place seen : ℕ) (ms : List Message) → LiesWithin q e.pivot hi → e.seen ≡ place + seen → ArePending e hi place ms (sum_by (size_under q) (drop seen ms))
seen_pending q e hi place zero ms lies same = unseen_pending q e hi place ms lies (omega arith)
seen_pending q e hi place (suc seen) [] lies same = refl
seen_pending q e hi place (suc seen) (m ∷ ms) lies same =
    (0, sum_by (size_under q) (drop seen ms), inr refl, seen_pending q e hi (place + 1) seen ms lies (omega arith), omega arith)

pub waiting_pending : (q : List ℕ) (e : Edge) (hi : Option (List ℕ)) (ms : List Message) → LiesWithin q e.pivot hi → ArePending e hi 0 ms (waiting_under q e ms)
waiting_pending q e hi ms lies = seen_pending q e hi 0 e.seen ms lies (omega arith)

-- what is pending at all is as much
pub sized_pending : (e : Edge) (hi : Option (List ℕ)) (place : ℕ) (ms : List Message) (n : ℕ) → IsPendingSize e hi place ms n → ArePending e hi place ms n
sized_pending e hi place [] n h = h
sized_pending e hi place (m ∷ ms) n h =
    let more : ArePending e hi (place + 1) ms h.1 = sized_pending e hi (place + 1) ms h.1 h.3 in
    elim h.2 [
      | inl own ↦ (h.0, h.1, inl own, more, h.4)
      | inr other ↦ (h.0, h.1, inr other.1, more, h.4)
    ]

-- ---- one of them

-- a message of a list that is pending for an edge, where the first one stands at a place
record IsOneOf (e : Edge) (hi : Option (List ℕ)) (place : ℕ) (ms : List Message) : Type 0 where
  index : ℕ
  message : Message
  there : slice_get ms index ≡ Some message
  pending : IsPending (place + index) message e hi

one_of : (e : Edge) (hi : Option (List ℕ)) (place : ℕ) (ms : List Message) (n : ℕ) → ArePending e hi place ms n → 1 ≤ n → IsOneOf e hi place ms
one_of e hi place [] n h some = absurd (omega (arith, h))
one_of e hi place (m ∷ ms) n h some =
    elim h.2 [
      | inl own ↦ record {
        index = 0;
        message = m;
        there = refl;
        pending = subst (λ (i : ℕ). IsPending i m e hi) (let z : place ≡ place + 0 = omega arith in z) own.0;
      }
      | inr none ↦ (let is : n ≡ h.0 + h.1 = h.4 in
          let later : IsOneOf e hi (place + 1) ms = one_of e hi (place + 1) ms h.1 h.3 (omega (arith, none)) in
          record {
            index = suc later.index;
            message = later.message;
            there = later.there;
            pending = subst (λ (i : ℕ). IsPending i later.message e hi) (let z : place + 1 + later.index ≡ place + suc later.index = omega arith in z) later.pending;
          })
    ]

-- ---- where a step is due

pub due_much : (n : Node) (q : List ℕ) (place : ℕ) → IsDueAt n q place → IsMuchAt n place
due_much n q place h = record {
  edge = h.edge;
  here = h.for.here;
  bytes = waiting_under q h.edge (buffer_of n);
  pending = waiting_pending q h.edge (end_at n place) (buffer_of n) h.for.all;
  much = h.much;
}

pub much_pending : (n : Node) (place : ℕ) → IsMuchAt n place → HasPendingAt n place
much_pending n place h =
    let much : abundant_limit ≤ h.bytes = h.much in
    let one : IsOneOf h.edge (end_at n place) 0 (buffer_of n) = one_of h.edge (end_at n place) 0 (buffer_of n) h.bytes h.pending (omega arith) in
    record {
      edge = h.edge;
      here = h.here;
      pending = record {
        index = one.index;
        message = one.message;
        there = one.there;
        pending = subst (λ (i : ℕ). IsPending i one.message h.edge (end_at n place)) (let z : 0 + one.index ≡ one.index = omega arith in z) one.pending;
      };
    }
