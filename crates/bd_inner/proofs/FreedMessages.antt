-- A node's messages freed of a prefix.
use Rattle.std.proofs.Common.{◌≡◌, ℕ, zero, suc, ◌+◌, ◌-◌, ◌<◌, ◌≤◌, Bool, true, false, cond, List, [], ◌∷◌, ◌++◌, length, take, drop, map, refl, sym, ap, subst, ◌∙◌, Option, None, Some, arith, inl, inr, ◌⊎◌, IsTrue, ◌↔◌, get_or}
use Rattle.std.specs.Prelude.{IfSome, count_by, slice_get}
use Rattle.std.specs.Option.{option_to_list, is_some}
use Rattle.std.specs.List.{AllByRecursion, flat_map, sum_by}
use Rattle.std.proofs.lemmas.Option.{same_Some, none-some, slice_get_within, get_or_from_slice_get, slice_get-get_or}
use Rattle.std.proofs.lemmas.Bool.{cases_lt}
use Rattle.std.proofs.lemmas.List.{take-append-drop, length-append, append-nil, nil_from_length}
use Rattle.std.proofs.lemmas.List.Concat.{flat_map-append}
use Rattle.std.proofs.Math.Seq.{take-nil}
use Rattle.std.proofs.lemmas.List.Sums.{sum_by-cons, sum_by-append}
use Rattle.bd_limits.specs.Limits.{key_limit, buffer_limit, batch_limit}
use Rattle.bd_message.specs.declared.message.Message.{Message}
use Rattle.bd_message.specs.declared.message.Message.TheVariants.{Put, Del, Patch, Cut, Goto}
use Rattle.bd_message.specs.Messages.{IsMessage, size}
use Rattle.bd_message.specs.Effect.{NodesAt, rest, act, acts}
use Rattle.bd_message.specs.Freeing.{stripped, freed, source_of, source_after, CoversAll}
use Rattle.bd_message.proofs.Finds.{not_both}
use Rattle.bd_message.proofs.Prefixes.{rest_shorter}
use Rattle.bd_message.proofs.Freed.{if_freed, stripped_message, freed_effect, freed_source, freed_smaller, freed_larger, covering}
use Rattle.bd_node.specs.Nodes.{message_names}
use Rattle.bd_node.proofs.Appending.{acts-append}
use Rattle.bd_inner.specs.Clipping.{IsLongMessage, IsFreedMessage, IsStart, seen_after}
use Rattle.bd_node.proofs.Compacting.{count_names, count_names-append}
use Rattle.bd_inner.proofs.Moved.{freed_names, message_small}

-- the messages that there are, freed
abbrev pub all_freed : List ℕ → List Message → List Message
all_freed s ms = flat_map option_to_list (map (freed s) ms)

-- ---- the newest that decides all

-- the same up to a place
pub record IsStartTo (parts : List (Option Message)) (place start : ℕ) : Type 0 where
  pub within : start ≤ place
  pub at : (start ≡ 0) ⊎ ((m : Message) × (slice_get parts start ≡ Some (Some m)) × CoversAll m)
  pub newer : (i : ℕ) (m : Message) → start < i → i < place → slice_get parts i ≡ Some (Some m) → ¬ CoversAll m

abbrev Covers : Option Message → Type 0
Covers part = (m : Message) × (part ≡ Some m) × CoversAll m

pub start_here : (parts : List (Option Message)) (place start : ℕ) (part : Option Message) (r : Bool) → place < length parts → part ≡ get_or parts place part → (IsTrue r ↔ Covers part) → r ≡ true → IsStartTo parts (place + 1) place
start_here parts place start part r low is covers positive =
    let found = covers.0 positive in
    record {
      within = omega arith;
      at = inr (found.0, slice_get-get_or parts place part low ∙ ap Some (sym is ∙ found.1), found.2);
      newer = λ i m above below there. absurd (omega arith);
    }

pub start_stays : (parts : List (Option Message)) (place start : ℕ) (part : Option Message) (r : Bool) → part ≡ get_or parts place part → (IsTrue r ↔ Covers part) → r ≡ false → IsStartTo parts place start → IsStartTo parts (place + 1) start
start_stays parts place start part r is covers negative h = record {
  within = (let w : start ≤ place = h.within in omega arith);
  at = h.at;
  newer = λ i m above below there own.
      elim (cases_lt i place) [
        | inl less ↦ h.newer i m above less there own
        | inr more ↦
            let same : i ≡ place = omega arith in
            let here : part ≡ Some m = is ∙ get_or_from_slice_get parts place (Some m) part (subst (λ (j : ℕ). slice_get parts j ≡ Some (Some m)) same there) in
            absurd (not_both (covers.1 (m, here, own)) negative)
      ];
}

pub start_end : (parts : List (Option Message)) (place start : ℕ) → place ≡ length parts → IsStartTo parts place start → IsStart parts start
start_end parts place start end h = record {
  within = (let w : start ≤ place = h.within in omega arith);
  at = h.at;
  newer = λ i m above there. h.newer i m above (let l : i < length parts = slice_get_within parts i (Some m) there in omega arith) there;
}

-- ---- what they do

acts_one : (below : NodesAt) (s : List ℕ) (m : Message) (ms : List Message) (k : List ℕ) (old : Option (List ℕ)) → acts below (all_freed s (m ∷ ms)) k old ≡ acts below (all_freed s ms) k (act below m (s ++ k) old)
acts_one below s m ms k old =
    acts-append below (option_to_list (freed s m)) (all_freed s ms) k old
    ∙ ap (λ (o : Option (List ℕ)). acts below (all_freed s ms) k o) (freed_effect below s m k old)

acts_freed : (below : NodesAt) (s : List ℕ) (ms : List Message) (k : List ℕ) (old : Option (List ℕ)) → acts below (all_freed s ms) k old ≡ acts below ms (s ++ k) old
acts_freed below s [] k old = refl
acts_freed below s (m ∷ ms) k old = acts_one below s m ms k old ∙ acts_freed below s ms k (act below m (s ++ k) old)

skip_one : (o : Option Message) (os : List (Option Message)) (list : List Message) → drop (count_by is_some (o ∷ os)) (option_to_list o ++ list) ≡ drop (count_by is_some os) list
skip_one None os list = ap (λ (n : ℕ). drop n list) (let e : count_by is_some (None ∷ os) ≡ count_by is_some os = sum_by-cons (λ (o : Option Message). cond (is_some o) 1 0) None os ∙ omega arith in e)
skip_one (Some m) os list = ap (λ (n : ℕ). drop n (m ∷ list)) (let e : count_by is_some (Some m ∷ os) ≡ suc (count_by is_some os) = sum_by-cons (λ (o : Option Message). cond (is_some o) 1 0) (Some m) os ∙ omega arith in e)

skip_freed : (s : List ℕ) (n : ℕ) (ms : List Message) → drop (count_by is_some (take n (map (freed s) ms))) (all_freed s ms) ≡ all_freed s (drop n ms)
skip_freed s zero ms = refl
skip_freed s (suc n) [] = refl
skip_freed s (suc n) (m ∷ ms) = skip_one (freed s m) (take n (map (freed s) ms)) (all_freed s ms) ∙ skip_freed s n ms

pub map_drop : (s : List ℕ) (n : ℕ) (ms : List Message) → drop n (map (freed s) ms) ≡ map (freed s) (drop n ms)
map_drop s zero ms = refl
map_drop s (suc n) [] = refl
map_drop s (suc n) (m ∷ ms) = map_drop s n ms

drop_of_take : {A : Type 0} (a b : ℕ) (xs : List A) → drop a (take b xs) ≡ take (b - a) (drop a xs)
drop_of_take zero b xs = ap (λ (n : ℕ). take n xs) (let e : b ≡ b - 0 = omega arith in e)
drop_of_take (suc a) zero [] = sym (take-nil (0 - suc a))
drop_of_take (suc a) zero (x ∷ xs) = sym (ap (λ (n : ℕ). take n (drop a xs)) (let e : 0 - suc a ≡ 0 = omega arith in e))
drop_of_take (suc a) (suc b) [] = sym (take-nil (suc b - suc a))
drop_of_take (suc a) (suc b) (x ∷ xs) = drop_of_take a b xs ∙ ap (λ (n : ℕ). take n (drop a xs)) (let e : b - a ≡ suc b - suc a = omega arith in e)

pub drop-nil : {A : Type 0} (n : ℕ) → ◌≡◌ {A = List A} (drop n []) []
drop-nil zero = refl
drop-nil (suc n) = refl

drop_twice : {A : Type 0} (a b : ℕ) (xs : List A) → drop b (drop a xs) ≡ drop (a + b) xs
drop_twice zero b xs = ap (λ (n : ℕ). drop n xs) (let e : b ≡ 0 + b = omega arith in e)
drop_twice (suc a) b [] = drop-nil b ∙ sym (drop-nil (suc a + b))
drop_twice (suc a) b (x ∷ xs) = drop_twice a b xs ∙ ap (λ (n : ℕ). drop n (x ∷ xs)) (let e : suc (a + b) ≡ suc a + b = omega arith in e)

-- the message at a place, and those after it
part_at : (s : List ℕ) (i : ℕ) (ms : List Message) (n : Message) → slice_get (map (freed s) ms) i ≡ Some (Some n) → (m : Message) × (rest : List Message) × (drop i ms ≡ m ∷ rest) × (freed s m ≡ Some n)
part_at s i [] n there = absurd (none-some (Some n) there)
part_at s zero (m ∷ ms) n there = (m, ms, refl, same_Some (freed s m) (Some n) there)
part_at s (suc i) (m ∷ ms) n there = part_at s i ms n there

-- where one decides all, what stood before it doesn't matter
decided : (below : NodesAt) (s : List ℕ) (m n : Message) (k : List ℕ) (old : Option (List ℕ)) → freed s m ≡ Some n → CoversAll n → act below m (s ++ k) old ≡ act below m (s ++ k) None
decided below s m n k old is covers =
    let at_old : act below m (s ++ k) old ≡ act below n k old = sym (freed_effect below s m k old) ∙ ap (λ (o : Option Message). acts below (option_to_list o) k old) is in
    let at_none : act below m (s ++ k) None ≡ act below n k None = sym (freed_effect below s m k None) ∙ ap (λ (o : Option Message). acts below (option_to_list o) k None) is in
    at_old ∙ covering below n covers k old ∙ sym at_none

decided_from : (below : NodesAt) (s : List ℕ) (seen start : ℕ) (ms : List Message) (n : Message) (k : List ℕ) (old : Option (List ℕ)) → seen < start → slice_get (map (freed s) ms) start ≡ Some (Some n) → CoversAll n
    → acts below (drop start ms) (s ++ k) old ≡ acts below (drop seen ms) (s ++ k) old
decided_from below s seen start ms n k old low there covers =
    let found = part_at s start ms n there in
    let gap : ℕ = start - seen in
    let mid : List Message = take gap (drop seen ms) in
    let joined : drop seen ms ≡ mid ++ drop start ms =
    sym (take-append-drop gap (drop seen ms)) ∙ ap (λ (l : List Message). mid ++ l) (drop_twice seen gap ms ∙ ap (λ (i : ℕ). drop i ms) (let e : seen + gap ≡ start = omega arith in e)) in
    let either : (o : Option (List ℕ)) → acts below (drop start ms) (s ++ k) o ≡ acts below found.1 (s ++ k) (act below found.0 (s ++ k) None) = λ o.
    ap (λ (l : List Message). acts below l (s ++ k) o) found.2 ∙ ap (λ (v : Option (List ℕ)). acts below found.1 (s ++ k) v) (decided below s found.0 n k o found.3 covers) in
    either old
    ∙ sym (either (acts below mid (s ++ k) old))
    ∙ sym (acts-append below mid (drop start ms) (s ++ k) old)
    ∙ sym (ap (λ (l : List Message). acts below l (s ++ k) old) joined)

-- the messages that an edge hasn't seen
pub acts_unseen : (below : NodesAt) (s : List ℕ) (seen start : ℕ) (ms : List Message) (k : List ℕ) (old : Option (List ℕ)) → IsStart (map (freed s) ms) start
    → acts below (drop (seen_after (map (freed s) ms) start seen) (all_freed s (drop start ms))) k old ≡ acts below (drop seen ms) (s ++ k) old
acts_unseen below s seen start ms k old h =
    let parts : List (Option Message) = map (freed s) ms in
    let count : seen_after parts start seen ≡ count_by is_some (take (seen - start) (map (freed s) (drop start ms))) =
    ap (λ (l : List (Option Message)). count_by is_some l) (drop_of_take start seen parts ∙ ap (λ (l : List (Option Message)). take (seen - start) l) (map_drop s start ms)) in
    let left : drop (seen_after parts start seen) (all_freed s (drop start ms)) ≡ all_freed s (drop (start + (seen - start)) ms) =
    ap (λ (n : ℕ). drop n (all_freed s (drop start ms))) count ∙ skip_freed s (seen - start) (drop start ms) ∙ ap (λ (l : List Message). all_freed s l) (drop_twice start (seen - start) ms) in
    ap (λ (l : List Message). acts below l k old) left
    ∙ acts_freed below s (drop (start + (seen - start)) ms) k old
    ∙ elim (cases_lt seen start) [
      | inl less ↦
          let same : start + (seen - start) ≡ start = omega arith in
          ap (λ (i : ℕ). acts below (drop i ms) (s ++ k) old) same
          ∙ elim h.at [
            | inl none ↦ absurd (omega arith)
            | inr found ↦ decided_from below s seen start ms found.0 k old less found.1 found.2
          ]
      | inr more ↦ ap (λ (i : ℕ). acts below (drop i ms) (s ++ k) old) (let e : start + (seen - start) ≡ seen = omega arith in e)
    ]

-- ---- how many

count_one : (o : Option Message) (os : List (Option Message)) → count_by is_some (o ∷ os) ≡ length (option_to_list o) + count_by is_some os
count_one None os = sum_by-cons (λ (o : Option Message). cond (is_some o) 1 0) None os
count_one (Some m) os = sum_by-cons (λ (o : Option Message). cond (is_some o) 1 0) (Some m) os

count_within_freed : (s : List ℕ) (n : ℕ) (ms : List Message) → count_by is_some (take n (map (freed s) ms)) ≤ length (all_freed s ms)
count_within_freed s zero ms = omega arith
count_within_freed s (suc n) [] = omega arith
count_within_freed s (suc n) (m ∷ ms) =
    let less : count_by is_some (take n (map (freed s) ms)) ≤ length (all_freed s ms) = count_within_freed s n ms in
    omega (arith, count_one (freed s m) (take n (map (freed s) ms)), length-append (option_to_list (freed s m)) (all_freed s ms))

-- so many messages are left
pub seen_within : (s : List ℕ) (seen start : ℕ) (ms : List Message) → seen_after (map (freed s) ms) start seen ≤ length (all_freed s (drop start ms))
seen_within s seen start ms =
    let parts : List (Option Message) = map (freed s) ms in
    let count : seen_after parts start seen ≡ count_by is_some (take (seen - start) (map (freed s) (drop start ms))) =
    ap (λ (l : List (Option Message)). count_by is_some l) (drop_of_take start seen parts ∙ ap (λ (l : List (Option Message)). take (seen - start) l) (map_drop s start ms)) in
    subst (λ (n : ℕ). n ≤ length (all_freed s (drop start ms))) (sym count) (count_within_freed s (seen - start) (drop start ms))

-- ---- how large they are

-- none of them decides all
abbrev NoneCovers : List ℕ → List Message → Type 0
NoneCovers s ms = (i : ℕ) (n : Message) → slice_get (map (freed s) ms) i ≡ Some (Some n) → ¬ CoversAll n

one_smaller : (s : List ℕ) (m : Message) (o : Option Message) → o ≡ freed s m → ((n : Message) → o ≡ Some n → ¬ CoversAll n) → IfSome o (λ n. CoversAll n ⊎ (size n + length s ≤ size m))
    → (sum_by size (option_to_list o) ≤ size m) × (1 ≤ length (option_to_list o) → sum_by size (option_to_list o) + length s ≤ size m)
one_smaller s m None is none h = (omega arith, λ some. absurd (omega arith))
one_smaller s m (Some n) is none h =
    elim h [
      | inl covers ↦ absurd (none n refl covers)
      | inr less ↦ (
        let e : sum_by size (n ∷ []) ≡ size n = sum_by-cons size n [] ∙ omega arith in
            omega arith,
        λ some. (let e : sum_by size (n ∷ []) ≡ size n = sum_by-cons size n [] ∙ omega arith in omega arith),
      )
    ]

smaller : (s : List ℕ) (ms : List Message) → NoneCovers s ms → (sum_by size (all_freed s ms) ≤ sum_by size ms) × (1 ≤ length (all_freed s ms) → sum_by size (all_freed s ms) + length s ≤ sum_by size ms)
smaller s [] none = (omega arith, λ some. absurd (omega arith))
smaller s (m ∷ ms) none =
    let one = one_smaller s m (freed s m) refl (λ n is. none 0 n (ap Some is)) (freed_smaller s m) in
    let more = smaller s ms (λ i n there. none (suc i) n there) in
    let first : List Message = option_to_list (freed s m) in
    let others : List Message = all_freed s ms in
    let sum : sum_by size (first ++ others) ≡ sum_by size first + sum_by size others = sum_by-append size first others in
    let all : sum_by size (m ∷ ms) ≡ size m + sum_by size ms = sum_by-cons size m ms in
    let a : sum_by size first ≤ size m = one.0 in
    let b : sum_by size others ≤ sum_by size ms = more.0 in (
      omega arith,
      λ some.
          elim (cases_lt 0 (length first)) [
            | inl here ↦ (let c : sum_by size first + length s ≤ size m = one.1 (omega arith) in omega arith)
            | inr gone ↦ (let c : sum_by size others + length s ≤ sum_by size ms = more.1 (omega (arith, length-append first others)) in omega arith)
          ],
    )

-- one that may decide all, and newer ones
source_most : (s : List ℕ) (m : Message) → source_after s m ≤ length (source_of m) + length s
source_most s (Put key value) = omega arith
source_most s (Del key) = omega arith
source_most s (Patch key off bytes) = omega arith
source_most s (Cut prefix from) = omega arith
source_most s (Goto prefix source child) = omega arith

one_larger : (s : List ℕ) (m : Message) (o : Option Message) → IfSome o (λ n. length (source_of n) ≡ source_after s m) → IfSome o (λ n. size n + length (source_of m) ≤ size m + length (source_of n)) → sum_by size (option_to_list o) ≤ size m + length s
one_larger s m None h g = omega arith
one_larger s m (Some n) h g =
    let e : sum_by size (n ∷ []) ≡ size n = sum_by-cons size n [] ∙ omega arith in
    let a : length (source_of n) ≡ source_after s m = h in
    let b : size n + length (source_of m) ≤ size m + length (source_of n) = g in
    omega (arith, source_most s m)

-- they still fit
fitting : (s : List ℕ) (m : Message) (ms : List Message) → length s ≤ key_limit → IsMessage m → NoneCovers s ms → sum_by size (m ∷ ms) ≤ buffer_limit → sum_by size (all_freed s (m ∷ ms)) ≤ buffer_limit
fitting s m ms short own none fits =
    let first : List Message = option_to_list (freed s m) in
    let others : List Message = all_freed s ms in
    let sum : sum_by size (first ++ others) ≡ sum_by size first + sum_by size others = sum_by-append size first others in
    let all : sum_by size (m ∷ ms) ≡ size m + sum_by size ms = sum_by-cons size m ms in
    let larger : sum_by size first ≤ size m + length s = one_larger s m (freed s m) (freed_source s m) (freed_larger s m) in
    let small : size m ≤ batch_limit = message_small m own in
    let more = smaller s ms none in
    elim (cases_lt 0 (length others)) [
      | inl some ↦ (let c : sum_by size others + length s ≤ sum_by size ms = more.1 (omega arith) in omega arith)
      | inr gone ↦ (let c : sum_by size others ≡ 0 = ap (λ (l : List Message). sum_by size l) (nil_from_length others (omega arith)) in omega arith)
    ]

drop_sum : (n : ℕ) (ms : List Message) → sum_by size (drop n ms) ≤ sum_by size ms
drop_sum zero ms = omega arith
drop_sum (suc n) [] = omega arith
drop_sum (suc n) (m ∷ ms) = (let less : sum_by size (drop n ms) ≤ sum_by size ms = drop_sum n ms in omega (arith, sum_by-cons size m ms))

each_dropped : (P : Message → Type 0) (n : ℕ) (ms : List Message) → AllByRecursion P ms → AllByRecursion P (drop n ms)
each_dropped P zero ms h = h
each_dropped P (suc n) [] h = tt
each_dropped P (suc n) (m ∷ ms) h = each_dropped P n ms h.1

-- the place of what stands after so many
pub dropped_at : {A : Type 0} (n i : ℕ) (xs : List A) → slice_get (drop n xs) i ≡ slice_get xs (n + i)
dropped_at zero i xs = ap (λ (j : ℕ). slice_get xs j) (let e : i ≡ 0 + i = omega arith in e)
dropped_at (suc n) i [] = refl
dropped_at (suc n) i (x ∷ xs) = dropped_at n i xs ∙ ap (λ (j : ℕ). slice_get (x ∷ xs) j) (let e : suc (n + i) ≡ suc n + i = omega arith in e)

fits_from : (s : List ℕ) (ms : List Message) → length s ≤ key_limit → AllByRecursion IsMessage ms → ((i : ℕ) (n : Message) → 1 ≤ i → slice_get (map (freed s) ms) i ≡ Some (Some n) → ¬ CoversAll n) → sum_by size ms ≤ buffer_limit → sum_by size (all_freed s ms) ≤ buffer_limit
fits_from s [] short own none fits = omega arith
fits_from s (m ∷ ms) short own none fits = fitting s m ms short own.0 (λ i n there. none (suc i) n (omega arith) there) fits

-- none of those after the newest that decides all does
newer_dropped : (s : List ℕ) (start : ℕ) (ms : List Message) → IsStart (map (freed s) ms) start → (i : ℕ) (n : Message) → 1 ≤ i → slice_get (map (freed s) (drop start ms)) i ≡ Some (Some n) → ¬ CoversAll n
newer_dropped s start ms h i n some there =
    h.newer (start + i) n (omega arith)
    (sym (dropped_at start i (map (freed s) ms)) ∙ ap (λ (l : List (Option Message)). slice_get l i) (map_drop s start ms) ∙ there)

pub freed_fit : (s : List ℕ) (start : ℕ) (ms : List Message) → length s ≤ key_limit → AllByRecursion IsMessage ms → IsStart (map (freed s) ms) start → sum_by size ms ≤ buffer_limit → sum_by size (all_freed s (drop start ms)) ≤ buffer_limit
freed_fit s start ms short own h fits =
    let less : sum_by size (drop start ms) ≤ sum_by size ms = drop_sum start ms in
    fits_from s (drop start ms) short (each_dropped IsMessage start ms own) (newer_dropped s start ms h) (omega arith)

-- ---- what they are

long_of : (m : Message) → IsMessage m → IsLongMessage m
long_of (Put key value) h = h
long_of (Del key) h = h
long_of (Patch key off bytes) h = h
long_of (Cut prefix from) h = h
long_of (Goto prefix source child) h = (h.0, omega arith, h.2, h.3)

freed_long : (s : List ℕ) (m : Message) → IsMessage m → IfSome (freed s m) IsLongMessage
freed_long s m own =
    if_freed IsLongMessage s m (λ h. long_of (stripped s m) (stripped_message s m own))
    (λ p x f is within any.
    let cut : length p + length x ≤ key_limit = subst (λ (y : Message). IsMessage y) is own in
    elim any [
      | inl after ↦ (let a : length f ≤ length x = subst (λ (l : List ℕ). length l ≤ length x) (sym after.0) (rest_shorter (rest p s) x) in let z : 0 + length f ≤ key_limit = omega arith in z)
      | inr none ↦ (let a : length f ≡ 0 = ap (λ (l : List ℕ). length l) none in let z : 0 + length f ≤ key_limit = omega arith in z)
    ])
    (λ p source child is within.
    let goto : IsMessage (Goto p source child) = subst (λ (y : Message). IsMessage y) is own in
    (omega arith, omega arith, goto.2, goto.3))

some_all : (P : Message → Type 0) (o : Option Message) (list : List Message) → IfSome o P → AllByRecursion P list → AllByRecursion P (option_to_list o ++ list)
some_all P None list h all = all
some_all P (Some n) list h all = (h, all)

all_long : (s : List ℕ) (ms : List Message) → AllByRecursion IsMessage ms → AllByRecursion IsLongMessage (all_freed s ms)
all_long s [] h = tt
all_long s (m ∷ ms) h = some_all IsLongMessage (freed s m) (all_freed s ms) (freed_long s m h.0) (all_long s ms h.1)

pub freed_longs : (s : List ℕ) (start : ℕ) (ms : List Message) → AllByRecursion IsMessage ms → AllByRecursion IsLongMessage (all_freed s (drop start ms))
freed_longs s start ms h = all_long s (drop start ms) (each_dropped IsMessage start ms h)

-- but for the oldest, none of them has a source of more than 518 bytes
short_of : (m : Message) → IsMessage m → length (source_of m) ≤ key_limit
short_of (Put key value) h = omega arith
short_of (Del key) h = omega arith
short_of (Patch key off bytes) h = omega arith
short_of (Cut prefix from) h = omega arith
short_of (Goto prefix source child) h = h.1

covers_or_short : (s : List ℕ) (m : Message) → IsMessage m → IfSome (freed s m) (λ n. CoversAll n ⊎ (length (source_of n) ≤ key_limit))
covers_or_short s m own =
    if_freed (λ n. CoversAll n ⊎ (length (source_of n) ≤ key_limit)) s m (λ h. inr (short_of (stripped s m) (stripped_message s m own)))
    (λ p x f is within any. inr (omega arith))
    (λ p source child is within. inl refl)

uncovering_short : (o : Option Message) → ((n : Message) → o ≡ Some n → ¬ CoversAll n) → IfSome o (λ n. CoversAll n ⊎ (length (source_of n) ≤ key_limit)) → IfSome o (λ n. length (source_of n) ≤ key_limit)
uncovering_short None none h = tt
uncovering_short (Some n) none h = elim h [ inl covers ↦ absurd (none n refl covers) | inr short ↦ short ]

all_short : (s : List ℕ) (ms : List Message) → AllByRecursion IsMessage ms → NoneCovers s ms → AllByRecursion (λ (n : Message). length (source_of n) ≤ key_limit) (all_freed s ms)
all_short s [] h none = tt
all_short s (m ∷ ms) h none =
    some_all (λ (n : Message). length (source_of n) ≤ key_limit) (freed s m) (all_freed s ms)
    (uncovering_short (freed s m) (λ n is. none 0 n (ap Some is)) (covers_or_short s m h.0))
    (all_short s ms h.1 (λ i n there. none (suc i) n there))

without_first : (P : Message → Type 0) (o : Option Message) (list : List Message) → AllByRecursion P list → AllByRecursion P (drop 1 (option_to_list o ++ list))
without_first P None list h = each_dropped P 1 list h
without_first P (Some n) list h = h

later_from : (s : List ℕ) (ms : List Message) → AllByRecursion IsMessage ms → ((i : ℕ) (n : Message) → 1 ≤ i → slice_get (map (freed s) ms) i ≡ Some (Some n) → ¬ CoversAll n) → AllByRecursion (λ (n : Message). length (source_of n) ≤ key_limit) (drop 1 (all_freed s ms))
later_from s [] own none = tt
later_from s (m ∷ ms) own none =
    without_first (λ (n : Message). length (source_of n) ≤ key_limit) (freed s m) (all_freed s ms)
    (all_short s ms own.1 (λ i n there. none (suc i) n (omega arith) there))

pub freed_later : (s : List ℕ) (start : ℕ) (ms : List Message) → AllByRecursion IsMessage ms → IsStart (map (freed s) ms) start → AllByRecursion (λ (n : Message). length (source_of n) ≤ key_limit) (drop 1 (all_freed s (drop start ms)))
freed_later s start ms own h = later_from s (drop start ms) (each_dropped IsMessage start ms own) (newer_dropped s start ms h)

one_of_them : (s : List ℕ) (buffer : List Message) (m : Message) (i : ℕ) (o : Option Message) → slice_get buffer i ≡ Some m → freed s m ≡ o → IfSome o (IsFreedMessage s buffer)
one_of_them s buffer m i None there is = tt
one_of_them s buffer m i (Some n) there is = (m, i, there, is)

all_of_them : (s : List ℕ) (buffer ms : List Message) (j : ℕ) → ((i : ℕ) (m : Message) → slice_get ms i ≡ Some m → slice_get buffer (j + i) ≡ Some m) → AllByRecursion (IsFreedMessage s buffer) (all_freed s ms)
all_of_them s buffer [] j h = tt
all_of_them s buffer (m ∷ ms) j h =
    some_all (IsFreedMessage s buffer) (freed s m) (all_freed s ms) (one_of_them s buffer m (j + 0) (freed s m) (h 0 m refl) refl)
    (all_of_them s buffer ms (suc j) (λ i n there. subst (λ (x : ℕ). slice_get buffer x ≡ Some n) (let e : j + suc i ≡ suc j + i = omega arith in e) (h (suc i) n there)))

pub freed_ones : (s : List ℕ) (start : ℕ) (ms : List Message) → AllByRecursion (IsFreedMessage s ms) (all_freed s (drop start ms))
freed_ones s start ms = all_of_them s ms (drop start ms) start (λ i m there. sym (dropped_at start i ms) ∙ there)

-- ---- the nodes that they name

some_count : (c : ℕ) (o : Option Message) (m : Message) → IfSome o (λ n. message_names n ≡ message_names m) → count_names c (flat_map message_names (option_to_list o)) ≤ count_names c (message_names m)
some_count c None m h = omega arith
some_count c (Some n) m h = (let e : count_names c (message_names n ++ []) ≡ count_names c (message_names m) = ap (λ (l : List ℕ). count_names c l) (append-nil (message_names n) ∙ h) in omega arith)

all_names : (c : ℕ) (s : List ℕ) (ms : List Message) → count_names c (flat_map message_names (all_freed s ms)) ≤ count_names c (flat_map message_names ms)
all_names c s [] = omega arith
all_names c s (m ∷ ms) =
    let first : List Message = option_to_list (freed s m) in
    let a : count_names c (flat_map message_names first) ≤ count_names c (message_names m) = some_count c (freed s m) m (freed_names s m) in
    let b : count_names c (flat_map message_names (all_freed s ms)) ≤ count_names c (flat_map message_names ms) = all_names c s ms in
    let e : count_names c (flat_map message_names (first ++ all_freed s ms)) ≡ count_names c (flat_map message_names first) + count_names c (flat_map message_names (all_freed s ms)) =
    ap (λ (l : List ℕ). count_names c l) (flat_map-append message_names first (all_freed s ms)) ∙ count_names-append c (flat_map message_names first) (flat_map message_names (all_freed s ms)) in
    let f : count_names c (message_names m ++ flat_map message_names ms) ≡ count_names c (message_names m) + count_names c (flat_map message_names ms) = count_names-append c (message_names m) (flat_map message_names ms) in
    omega arith

pub drop_names : {A : Type 0} (f : A → List ℕ) (c n : ℕ) (xs : List A) → count_names c (flat_map f (drop n xs)) ≤ count_names c (flat_map f xs)
drop_names f c zero xs = omega arith
drop_names f c (suc n) [] = omega arith
drop_names f c (suc n) (x ∷ xs) = (let less : count_names c (flat_map f (drop n xs)) ≤ count_names c (flat_map f xs) = drop_names f c n xs in omega (arith, count_names-append c (f x) (flat_map f xs)))

pub freed_count : (c : ℕ) (s : List ℕ) (start : ℕ) (ms : List Message) → count_names c (flat_map message_names (all_freed s (drop start ms))) ≤ count_names c (flat_map message_names ms)
freed_count c s start ms =
    let a : count_names c (flat_map message_names (all_freed s (drop start ms))) ≤ count_names c (flat_map message_names (drop start ms)) = all_names c s (drop start ms) in
    let b : count_names c (flat_map message_names (drop start ms)) ≤ count_names c (flat_map message_names ms) = drop_names message_names c start ms in
    omega arith
