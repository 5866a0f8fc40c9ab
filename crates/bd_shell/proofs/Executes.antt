-- Executions put together.
use Rattle.std.proofs.Common.{◌≡◌, ℕ, ◌<◌, Bool, true, false, List, [], ◌∷◌, ◌++◌, length, refl, sym, ap, subst, ◌∙◌, arith}
use Rattle.std.specs.Prelude.{◌||◌, OnOk, OnErr, IfOk}
use Rattle.std.specs.List.{list_any}
use Rattle.std.specs.declared.result.Result.{Result}
use Rattle.std.specs.declared.result.Result.TheVariants.{Ok, Err}
use Rattle.std.specs.declared.option.Option.{Option}
use Rattle.std.specs.declared.option.Option.TheVariants.{None, Some}
use Rattle.std.specs.Io.KnownBytes.{append_known}
use Rattle.std.proofs.lemmas.List.{append-nil}
use Rattle.bd_io.proofs.Written.{append_known-twice}
use Rattle.bd_node.proofs.Lookup.{each_both}
use Rattle.bd_sessions.specs.Replies.{said_line}
use Rattle.bd_sessions.specs.Spoken.{Mode, Spoken, is_stop, spoken}
use Rattle.bd_shell.specs.Transcript.{Output, State, Exchange, IsAnswered, HasAcked, durable, text, executed}
use Rattle.bd_shell.specs.Session.{Executes}
use Rattle.bd_shell.specs.Shell.{ExecutesOne, last_lines}
use Rattle.bd_shell.proofs.Transcripts.{text-append, executed-append, transcript_none, transcript_one, transcript_more}
use Rattle.bd_shell.proofs.Acks.{durable-append, acks_none, acks_then, acks_as, acks_kept, acks_of}

pub append_known-nil : (w : Option (List ℕ)) → append_known w [] ≡ w
append_known-nil None = refl
append_known-nil (Some xs) = ap (λ l. Some l) (append-nil xs)

-- what was written of some replies, and then of more
pub text-twice : (xs ys : List Exchange) (a b c : Option (List ℕ)) → b ≡ append_known a (text xs) → c ≡ append_known b (text ys)
    → c ≡ append_known a (text (xs ++ ys))
text-twice xs ys a b c first second =
    second ∙ ap (λ w. append_known w (text ys)) first ∙ append_known-twice a (text xs) (text ys)
    ∙ ap (append_known a) (sym (text-append xs ys))

-- no line
pub executes_none : (first : State → Type 0) (w : Output) → Executes first first [] w w
executes_none first w = record {
  exchanges = [];
  answered = tt;
  lines_are = refl;
  written = sym (append_known-nil w.written);
  acked = acks_none w.acks;
  runs = λ s h. transcript_none s first h;
}

-- one line
pub executes_one : (first last : State → Type 0) (l : Spoken) (a b : Output) → ExecutesOne first last l a b
    → Executes first last (l ∷ []) a b
executes_one first last l a b x = record {
  exchanges = record { line = l; said = x.said } ∷ [];
  answered = ((x.answer, x.one_line), tt);
  lines_are = refl;
  written = x.written ∙ ap (append_known a.written) (sym (append-nil (said_line l.client x.said)));
  acked = x.acked;
  runs = λ s h. transcript_one s l x.said last (x.replies s h);
}

-- some lines, and then more
pub executes_more : (first mid last : State → Type 0) (ls ms : List Spoken) (a b c : Output) → Executes first mid ls a b
    → Executes mid last ms b c → Executes first last (ls ++ ms) a c
executes_more first mid last ls ms a b c x y = record {
  exchanges = x.exchanges ++ y.exchanges;
  answered = each_both IsAnswered x.exchanges y.exchanges x.answered y.answered;
  lines_are = executed-append x.exchanges y.exchanges ∙ ap (λ l. l ++ executed y.exchanges) x.lines_are
      ∙ ap (λ l. ls ++ l) y.lines_are;
  written = text-twice x.exchanges y.exchanges a.written b.written c.written x.written y.written;
  acked = acks_as _ _ a.acks c.acks (sym (durable-append ls ms)) (acks_then (durable ls) (durable ms) a.acks b.acks c.acks x.acked y.acked);
  runs = λ s h. transcript_more s x.exchanges y.exchanges mid last (x.runs s h) y.runs;
}

-- the same lines, named otherwise
pub executes_as : (first last : State → Type 0) (ls ms : List Spoken) (a b : Output) → ls ≡ ms
    → Executes first last ls a b → Executes first last ms a b
executes_as first last ls ms a b same x = subst (λ l. Executes first last l a b) same x

-- nothing was written or acknowledged since
pub executes_kept : (first last : State → Type 0) (ls : List Spoken) (a b c : Output) → Executes first last ls a b → c.written ≡ b.written
    → c.acks ≡ b.acks → Executes first last ls a c
executes_kept first last ls a b c x same acks = record {
  exchanges = x.exchanges;
  answered = x.answered;
  lines_are = x.lines_are;
  written = same ∙ x.written;
  acked = acks_kept (durable ls) a.acks b.acks c.acks acks x.acked;
  runs = x.runs;
}

-- the acknowledgements of what was executed
pub executes_acked : (first last : State → Type 0) (ls : List Spoken) (a b : Output) → (x : Executes first last ls a b)
    → HasAcked (durable (executed x.exchanges)) a.acks b.acks
executes_acked first last ls a b x = acks_of ls (executed x.exchanges) a.acks b.acks (sym x.lines_are) x.acked

-- what is held at the end is a line where it isn't empty
pub last_some : (mode : Mode) (line same : List ℕ) → same ≡ line → 0 < length line → last_lines mode line ≡ spoken mode same ∷ []
last_some mode [] same is some = absurd (omega arith)
last_some mode (b ∷ line) same is some = ap (λ l. spoken mode l ∷ []) (sym is)

-- one line alone
pub one_stop : (l : Spoken) → is_stop l ≡ list_any is_stop (l ∷ [])
one_stop l = by (is_stop l)
  where
    by : (b : Bool) → b ≡ (b || false)
    by true = refl
    by false = refl

-- what follows from what is said of a result that is Ok
pub on_ok_as : {T E : Type 0} (r : Result T E) (P Q : Type 0) → (P → Q) → OnOk r P → OnOk r Q
on_ok_as (Ok x) P Q f h = f h
on_ok_as (Err e) P Q f h = tt

pub if_ok_as : {T E : Type 0} (r : Result T E) (P Q : T → Type 0) → ((x : T) → P x → Q x) → IfOk r P → IfOk r Q
if_ok_as (Ok x) P Q f h = f x h
if_ok_as (Err e) P Q f h = tt

pub on_err_as : {T E : Type 0} (r : Result T E) (P Q : Type 0) → (P → Q) → OnErr r P → OnErr r Q
on_err_as (Ok x) P Q f h = tt
on_err_as (Err e) P Q f h = f h
