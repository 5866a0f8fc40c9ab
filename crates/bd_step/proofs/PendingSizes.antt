-- How many bytes are pending, message by message and edge by edge.
use Rattle.std.proofs.Common.{◌≡◌, ℕ, ◌+◌, ◌<◌, ◌≤◌, List, [], ◌∷◌, length, drop, get_or, refl, sym, ap, subst, ◌∙◌, Option, arith, inl, inr}
use Rattle.std.specs.List.{sum_by}
use Rattle.std.proofs.lemmas.List.{drop_more}
use Rattle.std.proofs.lemmas.List.Sums.{sum_by-cons}
use Rattle.bd_message.specs.declared.message.Message.{Message}
use Rattle.bd_message.specs.Messages.{size}
use Rattle.bd_node.specs.declared.node.Edge.{Edge}
use Rattle.bd_step.specs.Filling.{IsWaiting, IsPendingSize}

-- ---- the messages before a place

pub waiting_most : (place : ℕ) (m : Message) (e : Edge) (hi : Option (List ℕ)) (n : ℕ) → IsWaiting place m e hi n → n ≤ size m
waiting_most place m e hi n h = elim h [ inl own ↦ (let x : n ≡ size m = own.1 in omega arith) | inr other ↦ (let x : n ≡ 0 = other.1 in omega arith) ]

-- so many bytes of the messages before a place are pending
pub record IsSoFar (e : Edge) (hi : Option (List ℕ)) (buffer : List Message) (place bytes : ℕ) : Type 0 where
  pub most : bytes + sum_by size (drop place buffer) ≤ sum_by size buffer
  pub rest : (more : ℕ) → IsPendingSize e hi place (drop place buffer) more → IsPendingSize e hi 0 buffer (bytes + more)

pub so_far_none : (e : Edge) (hi : Option (List ℕ)) (buffer : List Message) → IsSoFar e hi buffer 0 0
so_far_none e hi buffer = record {
  most = omega arith;
  rest = λ more h. subst (λ (n : ℕ). IsPendingSize e hi 0 buffer n) (let z : more ≡ 0 + more = omega arith in z) h;
}

pub so_far_more : (e : Edge) (hi : Option (List ℕ)) (buffer : List Message) (place bytes own : ℕ) (m : Message) → IsSoFar e hi buffer place bytes → place < length buffer → m ≡ get_or buffer place m → IsWaiting place m e hi own
    → IsSoFar e hi buffer (place + 1) (bytes + own)
so_far_more e hi buffer place bytes own m h low there waits =
    let next : drop place buffer ≡ m ∷ drop (place + 1) buffer = drop_more buffer place m low ∙ ap (λ (x : Message). x ∷ drop (place + 1) buffer) (sym there) in
    record {
      most = (let a : bytes + sum_by size (drop place buffer) ≤ sum_by size buffer = h.most in
          let b : own ≤ size m = waiting_most place m e hi own waits in
          omega (arith, ap (λ (ms : List Message). sum_by size ms) next, sum_by-cons size m (drop (place + 1) buffer)));
      rest = λ more p.
          let here : IsPendingSize e hi place (drop place buffer) (own + more) =
          subst (λ (ms : List Message). IsPendingSize e hi place ms (own + more)) (sym next) (own, more, waits, p, refl) in
          subst (λ (n : ℕ). IsPendingSize e hi 0 buffer n) (let z : bytes + (own + more) ≡ bytes + own + more = omega arith in z) (h.rest (own + more) here);
    }

pub so_far_all : (e : Edge) (hi : Option (List ℕ)) (buffer : List Message) (place bytes : ℕ) → IsSoFar e hi buffer place bytes → drop place buffer ≡ [] → IsPendingSize e hi 0 buffer bytes
so_far_all e hi buffer place bytes h end =
    let none : IsPendingSize e hi place (drop place buffer) 0 = subst (λ (ms : List Message). IsPendingSize e hi place ms 0) (sym end) refl in
    subst (λ (n : ℕ). IsPendingSize e hi 0 buffer n) (let z : bytes + 0 ≡ bytes = omega arith in z) (h.rest 0 none)
