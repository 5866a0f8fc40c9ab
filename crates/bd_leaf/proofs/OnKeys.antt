-- What messages on one key each do.
use Rattle.std.proofs.Common.{◌≡◌, ℕ, ◌+◌, ◌≤◌, true, false, List, [], ◌∷◌, ◌++◌, length, refl, ap, ◌∙◌, None, Some, arith, cond}
use Rattle.std.specs.Prelude.{Bool, Option, ⊤}
use Rattle.std.specs.Option.{unwrap_or}
use Rattle.std.specs.List.{AllByRecursion, sum_by, filter}
use Rattle.std.proofs.lemmas.Bool.{cond-true, cond-false}
use Rattle.std.proofs.lemmas.List.Sums.{sum_by-cons}
use Rattle.bd_limits.specs.Limits.{block_limit, base_size}
use Rattle.bd_keys.specs.Edits.{overwritten}
use Rattle.bd_keys.proofs.EditLemmas.{length-overwritten}
use Rattle.bd_message.specs.declared.message.Message.{Message}
use Rattle.bd_message.specs.declared.message.Message.TheVariants.{Put, Del, Patch, Cut, Goto}
use Rattle.bd_message.specs.Messages.{IsMessage, size}
use Rattle.bd_message.specs.Effect.{NodesAt, same_key, act, acts}
use Rattle.bd_node.specs.Index.{is_point, own_key}
use Rattle.bd_leaf.specs.Points.{IsPoint, IsOn, growth, message_of, messages_of, value_after, value_after_all}
use Rattle.bd_leaf.specs.declared.points.Point.{Point}
use Rattle.bd_leaf.proofs.Finds.{same_key-refl}
use Rattle.bd_leaf.proofs.Parts.{false_true}

-- how many bytes a key counts with its value, if it has one
abbrev pub size_with : List ℕ → Option (List ℕ) → ℕ
size_with key None = 0
size_with key (Some value) = base_size + length key + length value

-- ---- one message

-- at another key it does nothing
pub act-other : (below : NodesAt) (m : Message) (k : List ℕ) (o : Option (List ℕ)) → is_point m ≡ true → same_key k (own_key m) ≡ false → act below m k o ≡ o
act-other below (Put key v) k o on other = cond-false (same_key k key) (Some v) o other
act-other below (Del key) k o on other = cond-false (same_key k key) None o other
act-other below (Patch key off bytes) k o on other = cond-false (same_key k key) (Some (overwritten (unwrap_or o []) off bytes)) o other
act-other below (Cut prefix from) k o on other = absurd (false_true on)
act-other below (Goto prefix source child) k o on other = absurd (false_true on)

-- at its own it makes a value of a value
act-own : (below : NodesAt) (m : Message) (k : List ℕ) (o : Option (List ℕ)) → is_point m ≡ true → same_key k (own_key m) ≡ true → act below m k o ≡ value_after m o
act-own below (Put key v) k o on same = cond-true (same_key k key) (Some v) o same
act-own below (Del key) k o on same = cond-true (same_key k key) None o same
act-own below (Patch key off bytes) k o on same = cond-true (same_key k key) (Some (overwritten (unwrap_or o []) off bytes)) o same
act-own below (Cut prefix from) k o on same = absurd (false_true on)
act-own below (Goto prefix source child) k o on same = absurd (false_true on)

-- a value that there may be is as long as one may be
abbrev pub IsFit : Option (List ℕ) → Type 0
IsFit None = ⊤
IsFit (Some v) = (1 ≤ length v) × (length v ≤ block_limit)

overwritten_fit : (o : Option (List ℕ)) (off : ℕ) (bytes : List ℕ) → IsFit o → 1 ≤ length bytes → off + length bytes ≤ block_limit → IsFit (Some (overwritten (unwrap_or o []) off bytes))
overwritten_fit None off bytes h some fits = (let long = length-overwritten [] off bytes in (omega arith, omega arith))
overwritten_fit (Some v) off bytes h some fits = (let long = length-overwritten v off bytes in let short : length v ≤ block_limit = h.1 in (omega arith, omega arith))

value-fit : (m : Message) (o : Option (List ℕ)) → IsMessage m → IsFit o → IsFit (value_after m o)
value-fit (Put key v) o own h = (own.1, own.2)
value-fit (Del key) o own h = tt
value-fit (Patch key off bytes) o own h = overwritten_fit o off bytes h own.1 own.2
value-fit (Cut prefix from) o own h = h
value-fit (Goto prefix source child) o own h = h

overwritten_size : (o : Option (List ℕ)) (k : List ℕ) (off : ℕ) (bytes : List ℕ) → size_with k (Some (overwritten (unwrap_or o []) off bytes)) ≤ size_with k o + (16 + length k + off + length bytes)
overwritten_size None k off bytes = (let long = length-overwritten [] off bytes in omega arith)
overwritten_size (Some v) k off bytes = (let long = length-overwritten v off bytes in omega arith)

value-size : (m : Message) (k : List ℕ) (o : Option (List ℕ)) → own_key m ≡ k → size_with k (value_after m o) ≤ size_with k o + growth m
value-size (Put key v) k o own = (let long : length key ≡ length k = ap (λ (l : List ℕ). length l) own in omega arith)
value-size (Del key) k o own = omega arith
value-size (Patch key off bytes) k o own =
    let long : length key ≡ length k = ap (λ (l : List ℕ). length l) own in
    let more = overwritten_size o k off bytes in
    omega arith
value-size (Cut prefix from) k o own = omega arith
value-size (Goto prefix source child) k o own = omega arith

pub growth-size : (m : Message) → growth m ≤ size m
growth-size (Put key v) = omega arith
growth-size (Del key) = omega arith
growth-size (Patch key off bytes) = omega arith
growth-size (Cut prefix from) = omega arith
growth-size (Goto prefix source child) = omega arith

-- ---- several

pub acts-append : (below : NodesAt) (xs ys : List Message) (k : List ℕ) (o : Option (List ℕ)) → acts below (xs ++ ys) k o ≡ acts below ys k (acts below xs k o)
acts-append below [] ys k o = refl
acts-append below (m ∷ xs) ys k o = acts-append below xs ys k (act below m k o)

-- a message on a key other than this one
abbrev pub IsOther : List ℕ → Message → Type 0
IsOther k m = (is_point m ≡ true) × (same_key k (own_key m) ≡ false)

pub acts-other : (below : NodesAt) (list : List Message) (k : List ℕ) (o : Option (List ℕ)) → AllByRecursion (IsOther k) list → acts below list k o ≡ o
acts-other below [] k o h = refl
acts-other below (m ∷ list) k o h = ap (acts below list k) (act-other below m k o h.0.0 h.0.1) ∙ acts-other below list k o h.1

-- at their own key
pub acts-own : (below : NodesAt) (list : List Message) (k : List ℕ) (o : Option (List ℕ)) → AllByRecursion (IsOn k) list → acts below list k o ≡ value_after_all list o
acts-own below [] k o h = refl
acts-own below (m ∷ list) k o h =
    ap (acts below list k) (act-own below m k o h.0.point.point (ap (same_key k) h.0.key ∙ same_key-refl k)) ∙ acts-own below list k (value_after m o) h.1

pub values-fit : (list : List Message) (k : List ℕ) (o : Option (List ℕ)) → AllByRecursion (IsOn k) list → IsFit o → IsFit (value_after_all list o)
values-fit [] k o h fit = fit
values-fit (m ∷ list) k o h fit = values-fit list k (value_after m o) h.1 (value-fit m o h.0.point.message fit)

pub values-size : (list : List Message) (k : List ℕ) (o : Option (List ℕ)) → AllByRecursion (IsOn k) list → size_with k (value_after_all list o) ≤ size_with k o + sum_by growth list
values-size [] k o h = omega arith
values-size (m ∷ list) k o h =
    let first : size_with k (value_after m o) ≤ size_with k o + growth m = value-size m k o h.0.key in
    let more : size_with k (value_after_all list (value_after m o)) ≤ size_with k (value_after m o) + sum_by growth list = values-size list k (value_after m o) h.1 in
    let sum : sum_by growth (m ∷ list) ≡ growth m + sum_by growth list = sum_by-cons growth m list in
    omega arith

-- ---- points

-- those at other keys don't count
pub acts-filter : (below : NodesAt) (ps : List Point) (k : List ℕ) (o : Option (List ℕ)) → AllByRecursion IsPoint (messages_of ps)
    → acts below (messages_of ps) k o ≡ acts below (messages_of (filter (λ (p : Point). same_key k (own_key (message_of p))) ps)) k o
acts-filter below [] k o h = refl
acts-filter below (p ∷ ps) k o h =
    elim (same_key k (own_key (message_of p))) as (λ (b : Bool). same_key k (own_key (message_of p)) ≡ b
    → acts below (messages_of (p ∷ ps)) k o ≡ acts below (messages_of (cond b (p ∷ filter (λ (q : Point). same_key k (own_key (message_of q))) ps) (filter (λ (q : Point). same_key k (own_key (message_of q))) ps))) k o) [
      | true ↦ λ same. acts-filter below ps k (act below (message_of p) k o) h.1
      | false ↦ λ other. ap (acts below (messages_of ps) k) (act-other below (message_of p) k o h.0.point other) ∙ acts-filter below ps k o h.1
    ] refl
