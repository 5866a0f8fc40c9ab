-- Acknowledgements that come one after the other.
use Rattle.std.proofs.Common.{◌≡◌, ℕ, ◌+◌, List, [], ◌∷◌, ◌++◌, refl, sym, ap, subst, ◌∙◌, append_assoc, arith, length-append}
use Rattle.std.proofs.lemmas.List.{append-nil, nil_from_length}
use Rattle.bd_sessions.specs.Spoken.{Spoken}
use Rattle.bd_shell.specs.declared.outcome.Ack.{Ack}
use Rattle.bd_shell.specs.Transcript.{Exchange, HasAcked, durable, executed}
use Rattle.bd_shell.proofs.Transcripts.{executed-append}

-- ---- how many lines make all durable

pub durable-append : (ls ms : List Spoken) → durable (ls ++ ms) ≡ durable ls + durable ms
durable-append [] ms = omega arith
durable-append (l ∷ ls) ms = omega (arith, durable-append ls ms)

durable-joined : (xs ys : List Exchange) → durable (executed xs) + durable (executed ys) ≡ durable (executed (xs ++ ys))
durable-joined xs ys = sym (ap durable (executed-append xs ys) ∙ durable-append (executed xs) (executed ys))

-- ---- what was acknowledged

pub acks_none : (acks : List Ack) → HasAcked 0 acks acks
acks_none acks = record { more = []; acks_are = sym (append-nil acks); count_is = refl }

pub acks_same : (old new : List Ack) → HasAcked 0 old new → new ≡ old
acks_same old new h = h.acks_are ∙ ap (λ l. old ++ l) (nil_from_length h.more h.count_is) ∙ append-nil old

pub acks_one : (a : Ack) (old new : List Ack) → new ≡ old ++ a ∷ [] → HasAcked 1 old new
acks_one a old new is = record { more = a ∷ []; acks_are = is; count_is = refl }

pub acks_then : (n m : ℕ) (a b c : List Ack) → HasAcked n a b → HasAcked m b c → HasAcked (n + m) a c
acks_then n m a b c h k = record {
  more = h.more ++ k.more;
  acks_are = k.acks_are ∙ ap (λ l. l ++ k.more) h.acks_are ∙ append_assoc a h.more k.more;
  count_is = omega (arith, length-append h.more k.more, h.count_is, k.count_is);
}

-- as many, counted otherwise
pub acks_as : (n m : ℕ) (a b : List Ack) → n ≡ m → HasAcked n a b → HasAcked m a b
acks_as n m a b same h = subst (λ k. HasAcked k a b) same h

-- none since
pub acks_kept : (n : ℕ) (a b c : List Ack) → c ≡ b → HasAcked n a b → HasAcked n a c
acks_kept n a b c same h = subst (HasAcked n a) (sym same) h

-- those of some lines, and then of more
pub acks_joined : (xs ys : List Exchange) (a b c : List Ack) → HasAcked (durable (executed xs)) a b → HasAcked (durable (executed ys)) b c
    → HasAcked (durable (executed (xs ++ ys))) a c
acks_joined xs ys a b c h k = acks_as _ _ a c (durable-joined xs ys) (acks_then (durable (executed xs)) (durable (executed ys)) a b c h k)

-- those of lines that go by another name
pub acks_of : (ls ms : List Spoken) (a b : List Ack) → ls ≡ ms → HasAcked (durable ls) a b → HasAcked (durable ms) a b
acks_of ls ms a b same h = subst (λ l. HasAcked (durable l) a b) same h
