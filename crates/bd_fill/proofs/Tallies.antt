-- The lines in the text of some replies are as many as these, and begin as they do.
use Rattle.std.proofs.Common.{◌≡◌, ℕ, ◌+◌, ◌-◌, ◌^◌, ◌<◌, ◌≤◌, Bool, true, false, cond, List, [], ◌∷◌, ◌++◌, length, refl, sym, ap, subst, ◌∙◌, arith, nat_eq}
use Rattle.std.specs.Prelude.{min, not}
use Rattle.std.specs.List.{AllByRecursion, All, count_by, flat_map, fold}
use Rattle.std.proofs.lemmas.List.Elements.{All-head, All-tail}
use Rattle.std.proofs.lemmas.List.Sums.{count_by-le-length, fold-append, fold_push, sum_by-cons}
use Rattle.bd_io.specs.Cause.{next_count}
use Rattle.bd_command.specs.declared.reply.Reply.{Reply}
use Rattle.bd_command.specs.declared.reply.Reply.TheVariants.{Done, Bytes, Dir, File, Names, Refused}
use Rattle.bd_command.specs.declared.refusal.Refusal.{Refusal}
use Rattle.bd_script.specs.Lines.{HasNoNewline}
use Rattle.bd_script.specs.Replies.{line_reply_text, line_reply_line}
use Rattle.bd_script.specs.declared.replies.LineReply.{LineReply}
use Rattle.bd_script.specs.declared.replies.LineReply.TheVariants as reply
use Rattle.bd_fill.specs.declared.tally.Tally.{Tally}
use Rattle.bd_fill.specs.Counting.{counted, no_lines, tally_byte, tally_of, tally_line, summary_line}
use Rattle.bd_fill.specs.Summary.{says_ok, says_no, says_full, summary}

abbrev tally : ℕ → ℕ → ℕ → ℕ → Bool → Tally
tally lines accepted refused full unended =
    record { lines = lines; accepted = accepted; refused = refused; full = full; unended = unended }

-- one byte more
pub tally_push : (bytes : List ℕ) (b : ℕ) → tally_of (bytes ++ b ∷ []) ≡ tally_byte (tally_of bytes) b
unfolding tally_of
tally_push bytes b = fold_push tally_byte no_lines bytes b

pub tally_none : tally_of [] ≡ no_lines
unfolding tally_of
tally_none = refl

-- the rest of a line
goes_on : (l o n f : ℕ) (bs : List ℕ) → HasNoNewline bs → fold tally_byte (tally l o n f true) bs ≡ tally l o n f true
goes_on l o n f [] h = refl
goes_on l o n f (b ∷ bs) h =
    ap (λ t. fold tally_byte (tally l o n f (not t)) bs) (All-head (λ k. nat_eq k 10 ≡ false) b bs h)
    ∙ goes_on l o n f bs (All-tail (λ k. nat_eq k 10 ≡ false) b bs h)

-- a whole line
one_line : (l o n f b : ℕ) (bs : List ℕ) → HasNoNewline (b ∷ bs)
    → fold tally_byte (tally l o n f false) ((b ∷ bs) ++ 10 ∷ [])
    ≡ tally (next_count l) (counted (nat_eq b 111) o) (counted (nat_eq b 110) n) (counted (nat_eq b 102) f) false
one_line l o n f b bs h =
    let p = next_count l in
    let q = counted (nat_eq b 111) o in
    let r = counted (nat_eq b 110) n in
    let s = counted (nat_eq b 102) f in
    fold-append tally_byte (tally p q r s (not (nat_eq b 10))) bs (10 ∷ [])
    ∙ ap (λ t. fold tally_byte (fold tally_byte (tally p q r s (not t)) bs) (10 ∷ [])) (All-head (λ k. nat_eq k 10 ≡ false) b bs h)
    ∙ ap (λ t. fold tally_byte t (10 ∷ [])) (goes_on p q r s bs (All-tail (λ k. nat_eq k 10 ≡ false) b bs h))

-- how a reply begins
record Begins (r : LineReply) : Type 0 where
  first : ℕ
  rest : List ℕ
  text_is : line_reply_text r ≡ first ∷ rest
  ok_is : nat_eq first 111 ≡ says_ok r
  no_is : nat_eq first 110 ≡ says_no r
  full_is : nat_eq first 102 ≡ says_full r

begins : (r : LineReply) → Begins r
begins (reply.Command Done) = record { first = 111; rest = _; text_is = refl; ok_is = refl; no_is = refl; full_is = refl }
begins (reply.Command (Bytes bytes)) = record { first = 111; rest = _; text_is = refl; ok_is = refl; no_is = refl; full_is = refl }
begins (reply.Command (Dir mode)) = record { first = 111; rest = _; text_is = refl; ok_is = refl; no_is = refl; full_is = refl }
begins (reply.Command (File len mode)) = record { first = 111; rest = _; text_is = refl; ok_is = refl; no_is = refl; full_is = refl }
begins (reply.Command (Names l)) = record { first = 111; rest = _; text_is = refl; ok_is = refl; no_is = refl; full_is = refl }
begins (reply.Command (Refused refusal)) = record { first = 110; rest = _; text_is = refl; ok_is = refl; no_is = refl; full_is = refl }
begins (reply.Unread refusal) = record { first = 110; rest = _; text_is = refl; ok_is = refl; no_is = refl; full_is = refl }
begins (reply.Walk visits height) = record { first = 111; rest = _; text_is = refl; ok_is = refl; no_is = refl; full_is = refl }
begins reply.Done = record { first = 111; rest = _; text_is = refl; ok_is = refl; no_is = refl; full_is = refl }
begins (reply.Free free slots) = record { first = 111; rest = _; text_is = refl; ok_is = refl; no_is = refl; full_is = refl }
begins (reply.Full free need) = record { first = 102; rest = _; text_is = refl; ok_is = refl; no_is = refl; full_is = refl }
begins reply.Stopped = record { first = 111; rest = _; text_is = refl; ok_is = refl; no_is = refl; full_is = refl }

one_reply : (l o n f : ℕ) (r : LineReply) → HasNoNewline (line_reply_text r)
    → fold tally_byte (tally l o n f false) (line_reply_line r)
    ≡ tally (next_count l) (counted (says_ok r) o) (counted (says_no r) n) (counted (says_full r) f) false
one_reply l o n f r h =
    let x = begins r in
    ap (λ bs. fold tally_byte (tally l o n f false) (bs ++ 10 ∷ [])) x.text_is
    ∙ one_line l o n f x.first x.rest (subst HasNoNewline x.text_is h)
    ∙ ap (λ t. tally (next_count l) (counted t o) (counted (nat_eq x.first 110) n) (counted (nat_eq x.first 102) f) false) x.ok_is
    ∙ ap (λ t. tally (next_count l) (counted (says_ok r) o) (counted t n) (counted (nat_eq x.first 102) f) false) x.no_is
    ∙ ap (λ t. tally (next_count l) (counted (says_ok r) o) (counted (says_no r) n) (counted t f) false) x.full_is

-- ---- counts stop at a u64's last value

capped : ℕ → ℕ
capped n = min n (2 ^ 64 - 1)

next_capped : (n : ℕ) → next_count (capped n) ≡ capped (n + 1)
unfolding capped
next_capped n = by n (2 ^ 64 - 1)
  where
    by : (n m : ℕ) → min (min n m + 1) m ≡ min (n + 1) m
    by n m = omega arith

counted_capped : (t : Bool) (n : ℕ) → counted t (capped n) ≡ capped (n + cond t 1 0)
counted_capped true n = next_capped n
counted_capped false n = ap capped (omega arith)

below_cap : (n : ℕ) → n < 2 ^ 64 → capped n ≡ n
unfolding capped
below_cap n low = by n (2 ^ 64 - 1) (omega arith)
  where
    by : (n m : ℕ) → n ≤ m → min n m ≡ n
    by n m h = omega arith

abbrev capped_tally : ℕ → ℕ → ℕ → ℕ → Tally
capped_tally l o n f = tally (capped l) (capped o) (capped n) (capped f) false

count_more : (p : LineReply → Bool) (r : LineReply) (rs : List LineReply) → count_by p (r ∷ rs) ≡ cond (p r) 1 0 + count_by p rs
count_more p r rs = sum_by-cons (λ x. cond (p x) 1 0) r rs

replies_from : (rs : List LineReply) (l o n f : ℕ) → AllByRecursion (λ r. HasNoNewline (line_reply_text r)) rs
    → fold tally_byte (capped_tally l o n f) (flat_map line_reply_line rs)
    ≡ capped_tally (l + length rs) (o + count_by says_ok rs) (n + count_by says_no rs) (f + count_by says_full rs)
replies_from [] l o n f h = same (omega arith) (omega arith) (omega arith) (omega arith)
  where
    same : l ≡ l + 0 → o ≡ o + 0 → n ≡ n + 0 → f ≡ f + 0 → capped_tally l o n f ≡ capped_tally (l + 0) (o + 0) (n + 0) (f + 0)
    same a b c d = cc
replies_from (r ∷ rs) l o n f h =
    fold-append tally_byte (capped_tally l o n f) (line_reply_line r) (flat_map line_reply_line rs)
    ∙ ap (λ t. fold tally_byte t (flat_map line_reply_line rs))
    (one_reply (capped l) (capped o) (capped n) (capped f) r h.0 ∙ step (next_capped l) (counted_capped (says_ok r) o) (counted_capped (says_no r) n) (counted_capped (says_full r) f))
    ∙ replies_from rs (l + 1) (o + cond (says_ok r) 1 0) (n + cond (says_no r) 1 0) (f + cond (says_full r) 1 0) h.1
    ∙ same (l + 1 + length rs) (l + length (r ∷ rs)) (o + cond (says_ok r) 1 0 + count_by says_ok rs) (o + count_by says_ok (r ∷ rs))
    (n + cond (says_no r) 1 0 + count_by says_no rs) (n + count_by says_no (r ∷ rs)) (f + cond (says_full r) 1 0 + count_by says_full rs) (f + count_by says_full (r ∷ rs))
    (omega arith) (omega (arith, count_more says_ok r rs)) (omega (arith, count_more says_no r rs)) (omega (arith, count_more says_full r rs))
  where
    step : next_count (capped l) ≡ capped (l + 1) → counted (says_ok r) (capped o) ≡ capped (o + cond (says_ok r) 1 0)
        → counted (says_no r) (capped n) ≡ capped (n + cond (says_no r) 1 0) → counted (says_full r) (capped f) ≡ capped (f + cond (says_full r) 1 0)
        → tally (next_count (capped l)) (counted (says_ok r) (capped o)) (counted (says_no r) (capped n)) (counted (says_full r) (capped f)) false
        ≡ capped_tally (l + 1) (o + cond (says_ok r) 1 0) (n + cond (says_no r) 1 0) (f + cond (says_full r) 1 0)
    step a b c d = cc

    same : (p p' q q' s s' t t' : ℕ) → p ≡ p' → q ≡ q' → s ≡ s' → t ≡ t' → capped_tally p q s t ≡ capped_tally p' q' s' t'
    same p p' q q' s s' t t' a b c d = cc

-- what is counted of the text of replies, each of one line, is their summary
pub tally_replies : (rs : List LineReply) → AllByRecursion (λ r. HasNoNewline (line_reply_text r)) rs → length rs < 2 ^ 64
    → tally_line (tally_of (flat_map line_reply_line rs)) ≡ summary rs
unfolding tally_of summary capped
tally_replies rs h short =
    ap tally_line (replies_from rs 0 0 0 0 h)
    ∙ same (0 + length rs) (length rs) (0 + count_by says_ok rs) (count_by says_ok rs) (0 + count_by says_no rs) (count_by says_no rs) (0 + count_by says_full rs) (count_by says_full rs)
    (omega arith) (omega (arith, count_by-le-length says_ok rs)) (omega (arith, count_by-le-length says_no rs)) (omega (arith, count_by-le-length says_full rs))
    (omega arith) (omega arith) (omega arith) (omega arith)
  where
    same : (p p' q q' s s' t t' : ℕ) → p < 2 ^ 64 → q < 2 ^ 64 → s < 2 ^ 64 → t < 2 ^ 64 → p ≡ p' → q ≡ q' → s ≡ s' → t ≡ t'
        → summary_line (capped p) (capped q) (capped s) (capped t) ≡ summary_line p' q' s' t'
    same p p' q q' s s' t t' i j k m a b c d =
        let e = below_cap p i in let x = below_cap q j in let y = below_cap s k in let z = below_cap t m in cc
