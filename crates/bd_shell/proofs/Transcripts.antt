-- Transcripts put together, and the lines up to the first `stop`.
use Rattle.std.proofs.Common.{◌≡◌, ◌≤◌, Bool, true, false, cond, List, [], ◌∷◌, ◌++◌, length, refl, sym, ap, subst, ◌∙◌, append_assoc, arith}
use Rattle.std.specs.Prelude.{◌||◌}
use Rattle.std.specs.List.{list_any}
use Rattle.std.proofs.lemmas.List.{map-append}
use Rattle.std.proofs.lemmas.Grind.{flat_map-append}
use Rattle.bd_sessions.specs.Replies.{said_line}
use Rattle.bd_sessions.specs.Spoken.{Spoken, is_stop, up_to_stop}
use Rattle.bd_sessions.specs.declared.replies.TurnReply.{TurnReply}
use Rattle.bd_shell.specs.Transcript.{State, Exchange, Entry, IsTranscript, HasTranscript, text, executed, exchange_of, exchanges_of, state_after, IsFront}
use Rattle.bd_shell.specs.Shell.{RepliesTo}

-- a transcript, and one from the state after it
pub IsTranscript-append : (s : State) (es fs : List Entry) → IsTranscript s es → IsTranscript (state_after s es) fs
    → IsTranscript s (es ++ fs)
IsTranscript-append s [] fs h g = g
IsTranscript-append s (e ∷ es) fs h g = (h.0, IsTranscript-append e.state es fs h.1 g)

pub state_after-append : (s : State) (es fs : List Entry) → state_after s (es ++ fs) ≡ state_after (state_after s es) fs
state_after-append s [] fs = refl
state_after-append s (e ∷ es) fs = state_after-append e.state es fs

pub text-append : (xs ys : List Exchange) → text (xs ++ ys) ≡ text xs ++ text ys
text-append xs ys = flat_map-append (λ x. said_line x.line.client x.said) xs ys

pub executed-append : (xs ys : List Exchange) → executed (xs ++ ys) ≡ executed xs ++ executed ys
executed-append xs ys = map-append (λ x. x.line) xs ys

exchanges-append : (es fs : List Entry) → exchanges_of (es ++ fs) ≡ exchanges_of es ++ exchanges_of fs
exchanges-append es fs = map-append exchange_of es fs

-- ---- the transcripts of lines that were executed

-- no line
pub transcript_none : (s : State) (at : State → Type 0) → at s → HasTranscript s [] at
transcript_none s at h = record { entries = []; exchanges_are = refl; transcript = tt; reached = h }

-- one line
pub transcript_one : (s : State) (line : Spoken) (said : TurnReply) (at : State → Type 0) → RepliesTo s line said at
    → HasTranscript s (record { line = line; said = said } ∷ []) at
transcript_one s line said at x = record {
  entries = record { line = line; said = said; state = x.after } ∷ [];
  exchanges_are = refl;
  transcript = (record { follows = x.follows; later = x.later; represents = x.represents }, tt);
  reached = x.reached;
}

-- some lines, and then more
pub transcript_more : (s : State) (xs ys : List Exchange) (mid at : State → Type 0) → HasTranscript s xs mid
    → ((t : State) → mid t → HasTranscript t ys at) → HasTranscript s (xs ++ ys) at
transcript_more s xs ys mid at h more =
    let g : HasTranscript (state_after s h.entries) ys at = more (state_after s h.entries) h.reached in
    record {
      entries = h.entries ++ g.entries;
      exchanges_are = exchanges-append h.entries g.entries ∙ ap (λ l. l ++ exchanges_of g.entries) h.exchanges_are
          ∙ ap (λ l. xs ++ l) g.exchanges_are;
      transcript = IsTranscript-append s h.entries g.entries h.transcript g.transcript;
      reached = subst at (sym (state_after-append s h.entries g.entries)) g.reached;
    }

-- what holds of the state after a transcript, as what follows from it
pub transcript_as : (s : State) (xs : List Exchange) (mid at : State → Type 0) → HasTranscript s xs mid
    → ((t : State) → mid t → at t) → HasTranscript s xs at
transcript_as s xs mid at h more = record {
  entries = h.entries;
  exchanges_are = h.exchanges_are;
  transcript = h.transcript;
  reached = more (state_after s h.entries) h.reached;
}

-- ---- fronts

pub IsFront-append : {A : Type 0} (xs ys zs : List A) → IsFront ys zs → IsFront (xs ++ ys) (xs ++ zs)
IsFront-append xs ys zs h = (h.0, ap (λ l. xs ++ l) h.1 ∙ sym (append_assoc xs ys h.0))

pub IsFront-trans : {A : Type 0} (xs ys zs : List A) → IsFront xs ys → IsFront ys zs → IsFront xs zs
IsFront-trans xs ys zs h g = (h.0 ++ g.0, g.1 ∙ ap (λ l. l ++ g.0) h.1 ∙ append_assoc xs h.0 g.0)

-- ---- up to the first `stop`

pub up_to_stop-none : (ls : List Spoken) → list_any is_stop ls ≡ false → up_to_stop ls ≡ ls
up_to_stop-none [] e = refl
up_to_stop-none (l ∷ ls) e = by (is_stop l) e (up_to_stop-none ls)
  where
    by : (s : Bool) → (s || list_any is_stop ls) ≡ false → (list_any is_stop ls ≡ false → up_to_stop ls ≡ ls)
        → l ∷ cond s [] (up_to_stop ls) ≡ l ∷ ls
    by true h f = cc
    by false h f = ap (λ r. l ∷ r) (f h)

-- a `stop` is among them where it is among all
pub up_to_stop-any : (ls : List Spoken) → list_any is_stop (up_to_stop ls) ≡ list_any is_stop ls
up_to_stop-any [] = refl
up_to_stop-any (l ∷ ls) = by (is_stop l) (up_to_stop-any ls)
  where
    by : (s : Bool) → list_any is_stop (up_to_stop ls) ≡ list_any is_stop ls
        → (s || list_any is_stop (cond s [] (up_to_stop ls))) ≡ (s || list_any is_stop ls)
    by true h = refl
    by false h = h

-- what stands after a `stop` doesn't count
pub up_to_stop-stopped : (ls ms : List Spoken) → list_any is_stop ls ≡ true → up_to_stop (ls ++ ms) ≡ up_to_stop ls
up_to_stop-stopped [] ms e = cc
up_to_stop-stopped (l ∷ ls) ms e = by (is_stop l) e (up_to_stop-stopped ls ms)
  where
    by : (s : Bool) → (s || list_any is_stop ls) ≡ true
        → (list_any is_stop ls ≡ true → up_to_stop (ls ++ ms) ≡ up_to_stop ls)
        → l ∷ cond s [] (up_to_stop (ls ++ ms)) ≡ l ∷ cond s [] (up_to_stop ls)
    by true h f = refl
    by false h f = ap (λ r. l ∷ r) (f h)

pub up_to_stop-append : (ls ms : List Spoken) → list_any is_stop ls ≡ false → up_to_stop (ls ++ ms) ≡ ls ++ up_to_stop ms
up_to_stop-append [] ms e = refl
up_to_stop-append (l ∷ ls) ms e = by (is_stop l) e (up_to_stop-append ls ms)
  where
    by : (s : Bool) → (s || list_any is_stop ls) ≡ false
        → (list_any is_stop ls ≡ false → up_to_stop (ls ++ ms) ≡ ls ++ up_to_stop ms)
        → l ∷ cond s [] (up_to_stop (ls ++ ms)) ≡ l ∷ (ls ++ up_to_stop ms)
    by true h f = cc
    by false h f = ap (λ r. l ∷ r) (f h)

-- one line is all that stands up to its `stop`
pub up_to_stop-one : (l : Spoken) → up_to_stop (l ∷ []) ≡ l ∷ []
up_to_stop-one l = by (is_stop l)
  where
    by : (s : Bool) → l ∷ cond s [] [] ≡ l ∷ []
    by true = refl
    by false = refl

-- what stands up to the `stop` of a front stands at the front of what stands up to that of all
pub up_to_stop_front : (xs ys : List Spoken) → IsFront (up_to_stop xs) (up_to_stop (xs ++ ys))
up_to_stop_front [] ys = (up_to_stop ys, refl)
up_to_stop_front (x ∷ xs) ys = by (is_stop x) (up_to_stop_front xs ys)
  where
    by : (s : Bool) → IsFront (up_to_stop xs) (up_to_stop (xs ++ ys))
        → IsFront (x ∷ cond s [] (up_to_stop xs)) (x ∷ cond s [] (up_to_stop (xs ++ ys)))
    by true h = ([], refl)
    by false h = (h.0, ap (λ l. x ∷ l) h.1)

pub up_to_stop-few : (ls : List Spoken) → length (up_to_stop ls) ≤ length ls
up_to_stop-few [] = omega arith
up_to_stop-few (l ∷ ls) = by (is_stop l) (up_to_stop-few ls)
  where
    by : (s : Bool) → length (up_to_stop ls) ≤ length ls → length (l ∷ cond s [] (up_to_stop ls)) ≤ length (l ∷ ls)
    by true h = omega arith
    by false h = omega (arith, h)
