-- Messages that say alone what stands at all keys that begin with a prefix.
use Rattle.std.proofs.Common.{◌≡◌, ℕ, zero, suc, ◌<◌, ◌≤◌, true, false, List, [], ◌∷◌, ◌++◌, length, drop, refl, sym, ap, ◌∙◌, Option, None, Some, inl, inr, arith, append_assoc, length-append}
use Rattle.std.specs.Prelude.{slice_get}
use Rattle.std.specs.List.{AllByRecursion}
use Rattle.std.proofs.lemmas.Bool.{cases_Bool, cond-true}
use Rattle.std.proofs.lemmas.Option.{same_Some, none-some}
use Rattle.bd_limits.specs.Limits.{key_limit}
use Rattle.bd_message.specs.declared.message.Message.{Message}
use Rattle.bd_message.specs.declared.message.Message.TheVariants.{Put, Del, Patch, Cut, Goto}
use Rattle.bd_message.specs.Messages.{IsMessage}
use Rattle.bd_message.specs.Effect.{NodesAt, same_key, begins, rest, is_cut, act, acts}
use Rattle.bd_message.proofs.Finds.{same_key-true, not_both}
use Rattle.bd_node.specs.Touching.{touches}
use Rattle.bd_node.proofs.LawLemmas.{skipped}
use Rattle.bd_node.proofs.Shapes.{message_at}
use Rattle.bd_resolve.specs.Following.{target_at, covers, covered, NoneCovers}
use Rattle.bd_resolve.proofs.Prefixes.{begins_more, rest_more, begins_less, cut_more, cut_less}

-- ---- what a message that covers a prefix says

pub covers_acts : (below : NodesAt) (m : Message) (q k : List ℕ) (old : Option (List ℕ)) → covers m q ≡ true → act below m (q ++ k) old ≡ target_at below (covered m q) k
covers_acts below (Put key value) q k old h = absurd (not_both h refl)
covers_acts below (Del key) q k old h = absurd (not_both h refl)
covers_acts below (Patch key off bytes) q k old h = absurd (not_both h refl)
covers_acts below (Cut prefix from) q k old h = cond-true (is_cut prefix from (q ++ k)) None old (cut_more prefix from q k h)
covers_acts below (Goto prefix source child) q k old h =
    cond-true (begins (q ++ k) prefix) (below child (source ++ rest prefix (q ++ k))) old (begins_more q k prefix h)
    ∙ ap (λ (l : List ℕ). below child l) (ap (λ (r : List ℕ). source ++ r) (rest_more q k prefix h) ∙ sym (append_assoc source (rest prefix q) k))

-- what older messages say doesn't count
pub acts_cover : (below : NodesAt) (ms : List Message) (s j : ℕ) (m : Message) (k : List ℕ) (c : Option (List ℕ)) → s ≤ j → slice_get ms j ≡ Some m → ((old : Option (List ℕ)) → act below m k old ≡ c) → (old : Option (List ℕ)) → acts below (drop s ms) k old ≡ acts below (drop (suc j) ms) k c
acts_cover below [] s j m k c le there says old = absurd (none-some m there)
acts_cover below (n ∷ ms) zero zero m k c le there says old =
    ap (λ o. acts below ms k o) (ap (λ (x : Message). act below x k old) (same_Some n m there) ∙ says old)
acts_cover below (n ∷ ms) zero (suc j) m k c le there says old = acts_cover below ms zero j m k c (omega arith) there says (act below n k old)
acts_cover below (n ∷ ms) (suc s) zero m k c le there says old = absurd (omega arith)
acts_cover below (n ∷ ms) (suc s) (suc j) m k c le there says old = acts_cover below ms s j m k c (omega arith) there says old

-- ---- prefixes that are too long to be stored

pub too_long : (q k key : List ℕ) → length key ≤ key_limit → key_limit < length q → same_key (q ++ k) key ≡ false
too_long q k key short long = elim (cases_Bool (same_key (q ++ k) key)) [
  | inr other ↦ other
  | inl same ↦ absurd (omega (arith, ap (λ (l : List ℕ). length l) (same_key-true (q ++ k) key same), length-append q k))
]

-- a message that changes what stands at one of the keys covers them all
pub long_untouched : (m : Message) (q k : List ℕ) → IsMessage m → key_limit < length q → covers m q ≡ false → touches m (q ++ k) ≡ false
long_untouched (Put key value) q k own long none = too_long q k key own.0 long
long_untouched (Del key) q k own long none = too_long q k key own long
long_untouched (Patch key off bytes) q k own long none = too_long q k key own.0 long
long_untouched (Cut prefix from) q k own long none = elim (cases_Bool (is_cut prefix from (q ++ k))) [
  | inr other ↦ other
  | inl cut ↦ absurd (not_both (cut_less prefix from q k (omega arith) cut) none)
]
long_untouched (Goto prefix source child) q k own long none = elim (cases_Bool (begins (q ++ k) prefix)) [
  | inr other ↦ other
  | inl inside ↦ absurd (not_both (begins_less q k prefix (let short : length prefix ≤ key_limit = own.0 in omega arith) inside) none)
]

drop_end : (ms : List Message) → drop (length ms) ms ≡ []
drop_end [] = refl
drop_end (m ∷ ms) = drop_end ms

-- so messages of which none covers it change nothing
pub long_acts : (below : NodesAt) (ms : List Message) (from : ℕ) (q k : List ℕ) (old : Option (List ℕ)) → AllByRecursion IsMessage ms → from ≤ length ms → key_limit < length q → NoneCovers ms from q → acts below (drop from ms) (q ++ k) old ≡ old
long_acts below ms from q k old each within long none =
    skipped below ms from (length ms) (q ++ k) (λ i m low high there. long_untouched m q k (message_at ms i m each there) long (none i m low there)) within old
    ∙ ap (λ (l : List Message). acts below l (q ++ k) old) (drop_end ms)
