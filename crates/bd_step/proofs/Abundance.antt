-- A full buffer has an edge for which much is pending.
use Rattle.std.proofs.Common.{◌≡◌, ℕ, zero, suc, ◌+◌, ◌*◌, ◌<◌, ◌≤◌, List, [], ◌∷◌, length, refl, ap, subst, Some, arith, inl, inr}
use Rattle.std.specs.Prelude.{slice_get}
use Rattle.std.specs.List.{AllByRecursion, sum_by}
use Rattle.std.proofs.lemmas.List.Sums.{sum_by-cons}
use Rattle.bd_limits.specs.Limits.{soft_limit, abundant_limit, edge_limit}
use Rattle.bd_message.specs.declared.message.Message.{Message}
use Rattle.bd_message.specs.Messages.{size}
use Rattle.bd_node.specs.declared.node.Edge.{Edge}
use Rattle.bd_node.specs.Shape.{end_before, SomeEdge, IsPending, IsInner}
use Rattle.bd_step.specs.Filling.{IsPendingSize, ArePendingSizes, IsFullest}

total : List ℕ → ℕ
total [] = 0
total (n ∷ ns) = n + total ns

-- the bytes that are pending for each edge, of messages from a place on
abbrev AreSizes : ℕ → List Message → List Edge → List ℕ → Type 0
AreSizes place ms [] ns = ns ≡ []
AreSizes place ms (e ∷ es) [] = ⊥
AreSizes place ms (e ∷ es) (n ∷ ns) = IsPendingSize e (end_before es) place ms n × AreSizes place ms es ns

are_sizes : (buffer : List Message) (es : List Edge) (ns : List ℕ) → ArePendingSizes buffer es ns → AreSizes 0 buffer es ns
are_sizes buffer [] ns h = h
are_sizes buffer (e ∷ es) [] h = absurd h
are_sizes buffer (e ∷ es) (n ∷ ns) h = (h.0, are_sizes buffer es ns h.1)

-- what is pending without the first message
record IsLess (place : ℕ) (m : Message) (ms : List Message) (es : List Edge) (ns : List ℕ) : Type 0 where
  sizes : List ℕ
  each : AreSizes (place + 1) ms es sizes
  most : total sizes ≤ total ns
  some : SomeEdge (IsPending place m) es → total sizes + size m ≤ total ns

less : (place : ℕ) (m : Message) (ms : List Message) (es : List Edge) (ns : List ℕ) → AreSizes place (m ∷ ms) es ns → IsLess place m ms es ns
unfolding total
less place m ms [] ns h = record { sizes = []; each = refl; most = omega arith; some = λ none. absurd none }
less place m ms (e ∷ es) [] h = absurd h
less place m ms (e ∷ es) (n ∷ ns) h =
    let rest : IsLess place m ms es ns = less place m ms es ns h.1 in
    let is : n ≡ h.0.0 + h.0.1 = h.0.4 in
    let most : total rest.sizes ≤ total ns = rest.most in
    record {
      sizes = h.0.1 ∷ rest.sizes;
      each = (h.0.3, rest.each);
      most = omega arith;
      some = λ pending.
          elim pending [
            | inl here ↦ elim h.0.2 [
              | inl own ↦ (let w : h.0.0 ≡ size m = own.1 in omega arith)
              | inr other ↦ absurd (other.0 here)
            ]
            | inr later ↦ (let more : total rest.sizes + size m ≤ total ns = rest.some later in omega arith)
          ];
    }

-- all messages together
whole : (es : List Edge) (ms : List Message) (place : ℕ) (ns : List ℕ) → AreSizes place ms es ns
    → ((i : ℕ) (m : Message) → slice_get ms i ≡ Some m → SomeEdge (IsPending (place + i) m) es) → sum_by size ms ≤ total ns
whole es [] place ns h pending = omega arith
whole es (m ∷ ms) place ns h pending =
    let rest : IsLess place m ms es ns = less place m ms es ns h in
    let first : SomeEdge (IsPending place m) es = subst (λ (i : ℕ). SomeEdge (IsPending i m) es) (let z : place + 0 ≡ place = omega arith in z) (pending 0 m refl) in
    let here : total rest.sizes + size m ≤ total ns = rest.some first in
    let more : sum_by size ms ≤ total rest.sizes = whole es ms (place + 1) rest.sizes rest.each
    (λ i d there. subst (λ (j : ℕ). SomeEdge (IsPending j d) es) (let z : place + suc i ≡ place + 1 + i = omega arith in z) (pending (suc i) d there)) in
    omega (arith, sum_by-cons size m ms)

sizes_length : (place : ℕ) (ms : List Message) (es : List Edge) (ns : List ℕ) → AreSizes place ms es ns → length ns ≡ length es
sizes_length place ms [] ns h = ap (λ (xs : List ℕ). length xs) h
sizes_length place ms (e ∷ es) [] h = absurd h
sizes_length place ms (e ∷ es) (n ∷ ns) h = ap suc (sizes_length place ms es ns h.1)

few : (ns : List ℕ) (most k : ℕ) → AllByRecursion (λ n. n ≤ most) ns → length ns ≤ k → total ns ≤ k * most
unfolding total
few [] most k h le = omega arith
few (n ∷ ns) most zero h le = absurd (omega arith)
few (n ∷ ns) most (suc k) h le =
    let own : n ≤ most = h.0 in
    let rest : total ns ≤ k * most = few ns most k h.1 (omega arith) in
    omega arith

-- all that waits in a node is at most 16 times what is pending for the fullest edge
pub most_waits : (level : ℕ) (edges : List Edge) (buffer : List Message) → IsInner level edges buffer → (place bytes : ℕ) → IsFullest edges buffer place bytes → sum_by size buffer ≤ 16 * bytes
most_waits level edges buffer inner place bytes h =
    let sizes : AreSizes 0 buffer edges h.sizes = are_sizes buffer edges h.sizes h.each in
    let all : sum_by size buffer ≤ total h.sizes = whole edges buffer 0 h.sizes sizes
    (λ i m there. subst (λ (j : ℕ). SomeEdge (IsPending j m) edges) (let z : i ≡ 0 + i = omega arith in z) (inner.pending i m there)) in
    let long : length h.sizes ≡ length edges = sizes_length 0 buffer edges h.sizes sizes in
    let sixteen : length edges ≤ edge_limit = inner.few in
    let most : total h.sizes ≤ 16 * bytes = few h.sizes bytes 16 h.greatest.most (omega arith) in
    omega arith

pub abundant : (level : ℕ) (edges : List Edge) (buffer : List Message) → IsInner level edges buffer → soft_limit < sum_by size buffer → (place bytes : ℕ) → IsFullest edges buffer place bytes → abundant_limit ≤ bytes
abundant level edges buffer inner high place bytes h =
    let most : sum_by size buffer ≤ 16 * bytes = most_waits level edges buffer inner place bytes h in
    omega arith

pub some_bytes : (level : ℕ) (edges : List Edge) (buffer : List Message) → IsInner level edges buffer → 1 ≤ sum_by size buffer → (place bytes : ℕ) → IsFullest edges buffer place bytes → 1 ≤ bytes
some_bytes level edges buffer inner some place bytes h =
    let most : sum_by size buffer ≤ 16 * bytes = most_waits level edges buffer inner place bytes h in
    omega arith
