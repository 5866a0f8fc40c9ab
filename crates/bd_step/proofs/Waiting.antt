-- Where messages wait in a node, one is pending for its fullest edge.
use Rattle.std.proofs.Common.{◌≡◌, ℕ, zero, suc, ◌+◌, ◌≤◌, List, [], ◌∷◌, drop, refl, sym, subst, Option, Some, arith, inl, inr, add-one}
use Rattle.std.specs.Prelude.{slice_get}
use Rattle.std.specs.List.{sum_by}
use Rattle.std.proofs.lemmas.Option.{same_Some}
use Rattle.bd_message.specs.declared.message.Message.{Message}
use Rattle.bd_message.specs.Messages.{size}
use Rattle.bd_node.specs.declared.node.Edge.{Edge}
use Rattle.bd_node.specs.declared.node.Node.{Node}
use Rattle.bd_node.specs.declared.node.Node.TheVariants.{Leaf, Inner}
use Rattle.bd_node.specs.Nodes.{buffer_size}
use Rattle.bd_node.specs.Shape.{end_before, IsPending, IsInner, IsShape}
use Rattle.bd_node.specs.Parts.{buffer_of, end_at, IsEdgeAt}
use Rattle.bd_inner.specs.Batches.{SomeCanTouch}
use Rattle.bd_node.specs.Touching.{CanTouch}
use Rattle.bd_flush.specs.Pushing.{unseen}
use Rattle.bd_step.specs.Filling.{IsPendingSize, ArePendingSizes, IsFullest}
use Rattle.bd_step.specs.Ways.{IsFullestAt, HasPending}
use Rattle.bd_step.proofs.Abundance.{some_bytes}

-- a message of a list that is pending for an edge, where the first one stands at a place
record IsAmong (e : Edge) (hi : Option (List ℕ)) (place : ℕ) (ms : List Message) : Type 0 where
  index : ℕ
  message : Message
  there : slice_get ms index ≡ Some message
  pending : IsPending (place + index) message e hi

among : (e : Edge) (hi : Option (List ℕ)) (place : ℕ) (ms : List Message) (n : ℕ) → IsPendingSize e hi place ms n → 1 ≤ n → IsAmong e hi place ms
among e hi place [] n h some = absurd (omega (arith, h))
among e hi place (m ∷ ms) n h some =
    elim h.2 [
      | inl own ↦ record {
        index = 0;
        message = m;
        there = refl;
        pending = subst (λ (i : ℕ). IsPending i m e hi) (let z : place ≡ place + 0 = omega arith in z) own.0;
      }
      | inr other ↦ (let none : h.0 ≡ 0 = other.1 in
          let is : n ≡ h.0 + h.1 = h.4 in
          let later : IsAmong e hi (place + 1) ms = among e hi (place + 1) ms h.1 h.3 (omega arith) in
          record {
            index = suc later.index;
            message = later.message;
            there = later.there;
            pending = subst (λ (i : ℕ). IsPending i later.message e hi) (let z : place + 1 + later.index ≡ place + suc later.index = omega arith in z) later.pending;
          })
    ]

-- the bytes that are pending for the edge at a place
pub size_at : (buffer : List Message) (es : List Edge) (ns : List ℕ) (place : ℕ) (e : Edge) (n : ℕ) → ArePendingSizes buffer es ns → slice_get es place ≡ Some e → slice_get ns place ≡ Some n
    → IsPendingSize e (end_before (drop (suc place) es)) 0 buffer n
size_at buffer [] ns place e n h there is = cc
size_at buffer (d ∷ es) [] place e n h there is = absurd h
size_at buffer (d ∷ es) (m ∷ ns) zero e n h there is =
    subst (λ (x : Edge). IsPendingSize x (end_before es) 0 buffer n) (same_Some d e there)
    (subst (λ (x : ℕ). IsPendingSize d (end_before es) 0 buffer x) (same_Some m n is) h.0)
size_at buffer (d ∷ es) (m ∷ ns) (suc place) e n h there is = size_at buffer es ns place e n h.1 there is

in_buffer : (level : ℕ) (edges : List Edge) (buffer : List Message) → IsInner level edges buffer → 1 ≤ sum_by size buffer → (place bytes : ℕ) → IsFullest edges buffer place bytes → (e : Edge) → slice_get edges place ≡ Some e
    → IsAmong e (end_before (drop (place + 1) edges)) 0 buffer
in_buffer level edges buffer inner some place bytes h e here =
    let least : 1 ≤ bytes = some_bytes level edges buffer inner some place bytes h in
    let own : IsPendingSize e (end_before (drop (suc place) edges)) 0 buffer bytes = size_at buffer edges h.sizes place e bytes h.each here h.greatest.there in
    among e (end_before (drop (place + 1) edges)) 0 buffer bytes
    (subst (λ (i : ℕ). IsPendingSize e (end_before (drop i edges)) 0 buffer bytes) (sym (add-one place)) own) least

pub fullest_waits : (n : Node) → IsShape n → 1 ≤ buffer_size n → (place : ℕ) → IsFullestAt n place → (e : Edge) → IsEdgeAt n place e → HasPending n place e
fullest_waits (Leaf entries) shape some place full e here = absurd (omega arith)
fullest_waits (Inner level edges buffer) shape some place full e here =
    let one : IsAmong e (end_before (drop (place + 1) edges)) 0 buffer = in_buffer level edges buffer shape some place full.bytes full.fullest e here in
    record {
      index = one.index;
      message = one.message;
      there = one.there;
      pending = subst (λ (i : ℕ). IsPending i one.message e (end_before (drop (place + 1) edges))) (let z : 0 + one.index ≡ one.index = omega arith in z) one.pending;
    }

-- ---- a message that is pending can go down

some_in : (e : Edge) (hi : Option (List ℕ)) (m : Message) (ms : List Message) (i : ℕ) → slice_get ms i ≡ Some m → CanTouch m e.pivot hi → SomeCanTouch e hi ms
some_in e hi m [] i there can = cc
some_in e hi m (x ∷ ms) zero there can = inl (subst (λ (y : Message). CanTouch y e.pivot hi) (sym (same_Some x m there)) can)
some_in e hi m (x ∷ ms) (suc i) there can = inr (some_in e hi m ms i there can)

some_after : (e : Edge) (hi : Option (List ℕ)) (m : Message) (seen : ℕ) (ms : List Message) (i : ℕ) → slice_get ms i ≡ Some m → seen ≤ i → CanTouch m e.pivot hi → SomeCanTouch e hi (drop seen ms)
some_after e hi m zero ms i there low can = some_in e hi m ms i there can
some_after e hi m (suc seen) [] i there low can = cc
some_after e hi m (suc seen) (x ∷ ms) zero there low can = absurd (omega arith)
some_after e hi m (suc seen) (x ∷ ms) (suc i) there low can = some_after e hi m seen ms i there (omega arith) can

-- one that the edge hasn't seen can change what stands at one of its keys
pub pending_waits : (n : Node) (place : ℕ) (e : Edge) → HasPending n place e → SomeCanTouch e (end_at n place) (unseen n e)
pending_waits n place e h = some_after e (end_at n place) h.message e.seen (buffer_of n) h.index h.there h.pending.0 h.pending.1
