-- How the lines of a script are executed, piece by piece.
use Rattle.std.proofs.Common.{◌≡◌, ◌⊎◌, ℕ, ◌+◌, ◌<◌, ◌≤◌, Bool, true, false, cond, ◌||◌, List, [], ◌∷◌, ◌++◌, length, take, refl, sym, ap, subst, ◌∙◌, append_assoc, arith, length-append, nat_eq, inl, inr}
use Rattle.std.specs.Prelude.{map, IfSome, IfOk, IfErr, OnOk, OnErr}
use Rattle.std.specs.declared.result.Result.{Result}
use Rattle.std.specs.declared.result.Result.TheVariants.{Ok, Err}
use Rattle.std.specs.declared.ops.ControlFlow.{ControlFlow}
use Rattle.std.specs.declared.option.Option.{Option}
use Rattle.std.specs.declared.option.Option.TheVariants.{None, Some}
use Rattle.std.specs.List.{list_any, onto_first}
use Rattle.std.specs.Io.KnownBytes.{append_known, prepend_known, IsAtEnd}
use Rattle.std.specs.Option.{option_map}
use Rattle.std.proofs.lemmas.List.{map-append, append-nil, nil_from_length, length-take-le}
use Rattle.std.proofs.lemmas.List.Folds.{list_any-append}
use Rattle.std.proofs.lemmas.Bool.{eqb-true, ne_eqb}
use Rattle.std.proofs.Math.Seq.{take-append_seam}
use Rattle.bd_limits.specs.Limits.{script_limit, piece_limit}
use Rattle.bd_io.specs.Cause.{next_count}
use Rattle.bd_io.specs.Takes.{Takes, takes_after}
use Rattle.bd_io.specs.Written.{WrotePart}
use Rattle.bd_node.proofs.Lookup.{each_both}
use Rattle.bd_script.specs.Lines.{all_but_last, last_piece, lines_of, whole_lines, open_line, held, is_empty}
use Rattle.bd_script.proofs.CutLines.{some_pieces, whole_lines-more, open_line-more, held_goes_on}
use Rattle.bd_sessions.specs.Replies.{said_line}
use Rattle.bd_sessions.specs.Spoken.{Mode, Spoken, is_stop, spoken, up_to_stop}
use Rattle.bd_sessions.proofs.LongLines.{spoken-held}
use Rattle.bd_shell.specs.declared.fault.Fault.{Fault}
use Rattle.bd_shell.specs.declared.fault.Fault.TheVariants.{Device, Damaged, Source, Memory, TooLong, Worn, Sink}
use Rattle.bd_shell.specs.declared.outcome.Ack.{Ack}
use Rattle.bd_shell.specs.Transcript.{Output, State, synced_state, with_view, Exchange, IsAnswered, HasAcked, durable, text, executed, meanings, lines_to_run, IsFront}
use Rattle.bd_shell.specs.Session.{end_of, Executes, HasNext, IsAtLine, Among, AllComplete, BeginsWith, TakenAt, ReadOut, IsCutShort, IsCutAfter, Replied, Tells, Ends, has_stop, Later, breaks, ClosedAt, acks_at_end, no_acks, EndsIn, Session, RunsPieces}
use Rattle.bd_shell.specs.Shell.{last_lines, IsHeld, HasMore, completed, RunFails, HaltsIn, BreaksOff}
use Rattle.bd_shell.specs.declared.session.Taken.{Taken}
use Rattle.bd_shell.specs.declared.session.Taken.TheVariants as source_gave
use Rattle.bd_shell.specs.Taken.{IsTaken, taken_by, Took, TookLast}
use Rattle.bd_shell.proofs.Held.{spoken-goes_on}
use Rattle.bd_shell.proofs.Left.{leaves_worn, leaves_later, leaves_as}
use Rattle.bd_shell.proofs.Transcripts.{transcript_one, transcript_more, transcript_as, up_to_stop-none, up_to_stop-any, up_to_stop-stopped, up_to_stop-append, up_to_stop-one, up_to_stop_front, IsFront-append, IsFront-trans, executed-append}
use Rattle.bd_shell.proofs.Acks.{acks_none, acks_then, acks_as, acks_kept, acks_joined}
use Rattle.bd_shell.proofs.Executes.{executes_none, executes_more, executes_as, executes_kept, executes_acked, text-twice}
use Rattle.bd_shell.proofs.Feeding.{either, neither}

pub prepend_known-nil : (o : Option (List ℕ)) → prepend_known [] o ≡ o
prepend_known-nil None = refl
prepend_known-nil (Some xs) = refl

pub prepend_known-append : (xs ys : List ℕ) (o : Option (List ℕ)) → prepend_known xs (prepend_known ys o) ≡ prepend_known (xs ++ ys) o
prepend_known-append xs ys None = refl
prepend_known-append xs ys (Some zs) = ap (λ l. Some l) (sym (append_assoc xs ys zs))

-- ---- the lines of a script, and those of a front of it

-- the lines that a piece completes, after what is held of a line
meanings-more : (mode : Mode) (bytes piece line : List ℕ) → line ≡ held (open_line bytes) → meanings mode (bytes ++ piece) ≡ meanings mode bytes ++ meanings mode (line ++ piece)
meanings-more mode bytes piece line is =
    ap (map (spoken mode)) (whole_lines-more bytes piece) ∙ map-append (spoken mode) (whole_lines bytes) (whole_lines (open_line bytes ++ piece))
    ∙ ap (λ l. meanings mode bytes ++ l) (sym (spoken-goes_on mode bytes piece) ∙ ap (λ l. meanings mode (l ++ piece)) (sym is))

held-more : (bytes piece line : List ℕ) → line ≡ held (open_line bytes) → held (open_line (line ++ piece)) ≡ held (open_line (bytes ++ piece))
held-more bytes piece line is = ap (λ l. held (open_line (l ++ piece))) is ∙ (held_goes_on bytes piece).rest ∙ ap held (sym (open_line-more bytes piece))

-- the lines of some bytes after a front of them
lines_front : (mode : Mode) (front rest : List ℕ) → map (spoken mode) (lines_of (front ++ rest)) ≡ meanings mode front ++ map (spoken mode) (lines_of (open_line front ++ rest))
lines_front mode front rest =
    let last : List (List ℕ) = cond (is_empty (open_line (front ++ rest))) [] (open_line (front ++ rest) ∷ []) in
    let same : cond (is_empty (open_line (front ++ rest))) [] (open_line (front ++ rest) ∷ []) ≡ cond (is_empty (open_line (open_line front ++ rest))) [] (open_line (open_line front ++ rest) ∷ []) =
    ap (λ l. cond (is_empty l) [] (l ∷ [])) (open_line-more front rest) in
    ap (map (spoken mode)) (ap (λ l. l ++ last) (whole_lines-more front rest) ∙ append_assoc (whole_lines front) (whole_lines (open_line front ++ rest)) last
    ∙ ap (λ l. whole_lines front ++ (whole_lines (open_line front ++ rest) ++ l)) same)
    ∙ map-append (spoken mode) (whole_lines front) (lines_of (open_line front ++ rest))

run_front : (mode : Mode) (front rest : List ℕ) → list_any is_stop (meanings mode front) ≡ false
    → lines_to_run mode (front ++ rest) ≡ meanings mode front ++ lines_to_run mode (open_line front ++ rest)
run_front mode front rest none = ap up_to_stop (lines_front mode front rest) ∙ up_to_stop-append (meanings mode front) (map (spoken mode) (lines_of (open_line front ++ rest))) none

-- ---- bytes have a line, where there are some

abbrev of_pieces : List (List ℕ) → List (List ℕ)
of_pieces ps = all_but_last ps ++ cond (is_empty (last_piece ps)) [] (last_piece ps ∷ [])

abbrev HasLine : List (List ℕ) → Type 0
HasLine lines = (l : List ℕ) × (ls : List (List ℕ)) × (lines ≡ l ∷ ls)

some_by : (t : Bool) (x : ℕ) (p : List ℕ) (ps : List (List ℕ)) → HasLine (of_pieces (cond t ([] ∷ p ∷ ps) (onto_first x (p ∷ ps))))
some_by true x p ps = ([], of_pieces (p ∷ ps), refl)
some_by false x p [] = (x ∷ p, [], refl)
some_by false x p (q ∷ qs) = (x ∷ p, of_pieces (q ∷ qs), refl)

some_lines : (bytes : List ℕ) → is_empty bytes ≡ false → HasLine (lines_of bytes)
some_lines [] some = cc
some_lines (x ∷ ys) some =
    let h = some_pieces ys in
    subst (λ ps. HasLine (of_pieces (cond (nat_eq x 10) ([] ∷ ps) (onto_first x ps)))) (sym h.2) (some_by (nat_eq x 10) x h.0 h.1)

some-append : (xs ys : List ℕ) → is_empty ys ≡ false → is_empty (xs ++ ys) ≡ false
some-append [] ys h = h
some-append (x ∷ xs) ys h = refl

-- complete lines were executed, and there are more bytes: there is a next line
pub next_of_more : (mode : Mode) (front rest : List ℕ) (xs : List Exchange) → executed xs ≡ meanings mode front → list_any is_stop (meanings mode front) ≡ false
    → is_empty rest ≡ false → (next : Spoken) × HasNext next (executed xs) (lines_to_run mode (front ++ rest))
next_of_more mode front rest xs lines none some =
    let h = some_lines (open_line front ++ rest) (some-append (open_line front) rest some) in
    let first : map (spoken mode) (lines_of (open_line front ++ rest)) ≡ spoken mode h.0 ∷ map (spoken mode) h.1 = ap (map (spoken mode)) h.2 in
    let more : List Spoken = cond (is_stop (spoken mode h.0)) [] (up_to_stop (map (spoken mode) h.1)) in (
      spoken mode h.0,
      record {
        rest = more;
        lines_are = run_front mode front rest none ∙ ap (λ l. meanings mode front ++ l) (ap up_to_stop first) ∙ ap (λ l. l ++ spoken mode h.0 ∷ more) (sym lines);
      },
    )

-- ---- what stands up to the `stop` within a piece

run_stopped : (mode : Mode) (bytes piece line rest : List ℕ) → line ≡ held (open_line bytes) → list_any is_stop (meanings mode bytes) ≡ false
    → list_any is_stop (meanings mode (line ++ piece)) ≡ true
    → lines_to_run mode ((bytes ++ piece) ++ rest) ≡ meanings mode bytes ++ up_to_stop (meanings mode (line ++ piece))
run_stopped mode bytes piece line rest is none some =
    let lines = meanings-more mode bytes piece line is in
    ap up_to_stop (lines_front mode (bytes ++ piece) rest)
    ∙ up_to_stop-stopped (meanings mode (bytes ++ piece)) (map (spoken mode) (lines_of (open_line (bytes ++ piece) ++ rest)))
    (ap (list_any is_stop) lines ∙ list_any-append is_stop (meanings mode bytes) (meanings mode (line ++ piece)) ∙ either _ _ some)
    ∙ ap up_to_stop lines ∙ up_to_stop-append (meanings mode bytes) (meanings mode (line ++ piece)) none

-- the lines that a piece completes stand at the front of those of all the bytes, whatever follows
fed_front : (mode : Mode) (bytes piece line more : List ℕ) → line ≡ held (open_line bytes) → list_any is_stop (meanings mode bytes) ≡ false
    → IsFront (meanings mode bytes ++ up_to_stop (meanings mode (line ++ piece))) (lines_to_run mode ((bytes ++ piece) ++ more))
fed_front mode bytes piece line more is none =
    let lines = meanings-more mode bytes piece line is in
    let tail : List Spoken = map (spoken mode) (lines_of (open_line (bytes ++ piece) ++ more)) in
    subst (λ ls. IsFront (meanings mode bytes ++ up_to_stop (meanings mode (line ++ piece))) (up_to_stop ls)) (sym (lines_front mode (bytes ++ piece) more))
    (subst (λ ls. IsFront ls (up_to_stop (meanings mode (bytes ++ piece) ++ tail)))
    (ap up_to_stop lines ∙ up_to_stop-append (meanings mode bytes) (meanings mode (line ++ piece)) none)
    (up_to_stop_front (meanings mode (bytes ++ piece)) tail))

-- ---- the end of a script

up_to_stop-last_lines : (mode : Mode) (line : List ℕ) → up_to_stop (last_lines mode line) ≡ last_lines mode line
up_to_stop-last_lines mode [] = refl
up_to_stop-last_lines mode (b ∷ line) = up_to_stop-one (spoken mode (b ∷ line))

last_lines-held : (mode : Mode) (line : List ℕ) → last_lines mode (held line) ≡ last_lines mode line
last_lines-held mode [] = refl
last_lines-held mode (b ∷ line) = ap (λ l. l ∷ []) (spoken-held mode (b ∷ line))

last_lines-map : (mode : Mode) (line : List ℕ) → map (spoken mode) (cond (is_empty line) [] (line ∷ [])) ≡ last_lines mode line
last_lines-map mode [] = refl
last_lines-map mode (b ∷ line) = refl

run_ended : (mode : Mode) (bytes line : List ℕ) → line ≡ held (open_line bytes) → list_any is_stop (meanings mode bytes) ≡ false
    → lines_to_run mode bytes ≡ meanings mode bytes ++ last_lines mode line
run_ended mode bytes line is none =
    let last : map (spoken mode) (cond (is_empty (open_line bytes)) [] (open_line bytes ∷ [])) ≡ last_lines mode line =
    last_lines-map mode (open_line bytes) ∙ sym (last_lines-held mode (open_line bytes)) ∙ ap (last_lines mode) (sym is) in
    ap up_to_stop (map-append (spoken mode) (whole_lines bytes) (cond (is_empty (open_line bytes)) [] (open_line bytes ∷ [])) ∙ ap (λ l. meanings mode bytes ++ l) last)
    ∙ up_to_stop-append (meanings mode bytes) (last_lines mode line) none ∙ ap (λ l. meanings mode bytes ++ l) (up_to_stop-last_lines mode line)

-- what is known of a script whose taken part is known
known : (P : List ℕ → Type 0) (bytes : List ℕ) (script rest : Option (List ℕ)) → script ≡ prepend_known bytes rest
    → ((more : List ℕ) → rest ≡ Some more → P (bytes ++ more)) → IfSome script P
known P bytes script None e h = subst (λ o. IfSome o P) (sym e) tt
known P bytes script (Some more) e h = subst (λ o. IfSome o P) (sym e) (h more refl)

end_is : (rest : Option (List ℕ)) → IsAtEnd rest → (more : List ℕ) → rest ≡ Some more → more ≡ []
end_is None h more e = cc
end_is (Some xs) h more e = let same : xs ≡ more = cc in sym same ∙ h

-- ---- takes

-- as many takes gave nothing, where that is told
abbrev pub IdleAlike : Option Takes → Option Takes → Type 0
IdleAlike None None = Unit {0}
IdleAlike None (Some now) = ⊥
IdleAlike (Some before) None = ⊥
IdleAlike (Some before) (Some now) = now.idle ≡ before.idle

pub idle_alike : (t : Option Takes) → IdleAlike t t
idle_alike None = tt
idle_alike (Some t) = refl

idle_by : (given : List ℕ) (t : Takes) (b : Bool) → nat_eq (length given) 0 ≡ b → (takes_after given t).idle ≡ cond b (next_count t.idle) t.idle
idle_by given t b e = ap (λ c. cond c (next_count t.idle) t.idle) e

ne_zero : (given : List ℕ) → 0 < length given → nat_eq (length given) 0 ≡ false
ne_zero given some = ne_eqb (length given) 0 (λ e. omega (arith, e, some))

pub idle_more : (before at : Option Takes) (given : List ℕ) → IdleAlike before at → 0 < length given → IdleAlike before (option_map (takes_after given) at)
idle_more None None given h some = tt
idle_more None (Some t) given h some = h
idle_more (Some b) None given h some = h
idle_more (Some b) (Some t) given h some = idle_by given t false (ne_zero given some) ∙ h

took_by : (given : List ℕ) (before t : Takes) (b : Bool) → nat_eq (length given) 0 ≡ b → length given ≤ piece_limit → t.idle ≡ before.idle
    → TookLast given before (takes_after given t)
took_by given before t true e short idle = record {
  last_is = refl;
  short = short;
  idle = inr (nil_from_length given (eqb-true (length given) 0 e), idle_by given t true e ∙ ap next_count idle);
}
took_by given before t false e short idle = record { last_is = refl; short = short; idle = inl (idle_by given t false e ∙ idle) }

-- a last take, which gave these bytes
pub took : (front given : List ℕ) (before at now : Option Takes) → length given ≤ piece_limit → IdleAlike before at
    → now ≡ option_map (takes_after given) at → Took front given before now
took front given before at now short idle told =
    subst (λ n. Took front given before n) (sym told) (by before at idle)
  where
    by : (b a : Option Takes) → IdleAlike b a → Took front given b (option_map (takes_after given) a)
    by None a h = tt
    by (Some b) None h = h
    by (Some b) (Some t) h = inr (took_by given b t (nat_eq (length given) 0) refl short h)

-- no take
pub took_none : (t : Option Takes) → Took [] [] t t
took_none None = tt
took_none (Some t) = inl (refl, refl, refl)

-- ---- where a session stands

-- what was taken of a script, whose complete lines were executed, none of them a `stop`, and what of the next one is held
pub record Stands (mode : Mode) (first now : State → Type 0) (line : List ℕ) (taken : ℕ) (script rest : Option (List ℕ)) (old new : Output) (before at : Option Takes) : Type 0 where
  pub bytes : List ℕ
  pub count : length bytes ≡ taken
  pub few : taken ≤ script_limit
  pub taken_is : script ≡ prepend_known bytes rest
  pub no_stop : list_any is_stop (meanings mode bytes) ≡ false
  pub line_is : line ≡ held (open_line bytes)
  pub idle : IdleAlike before at
  pub front : List ℕ
  pub final : List ℕ
  pub split : bytes ≡ front ++ final
  pub took : Took front final before at
  pub ran : Executes first now (meanings mode bytes) old new

-- nothing was taken yet
pub stands_first : (mode : Mode) (first : State → Type 0) (line : List ℕ) (script : Option (List ℕ)) (w : Output) (t : Option Takes) → line ≡ []
    → Stands mode first first line 0 script script w w t t
stands_first mode first line script w t none = record {
  bytes = [];
  count = refl;
  few = omega arith;
  taken_is = sym (prepend_known-nil script);
  no_stop = refl;
  line_is = none;
  idle = idle_alike t;
  front = [];
  final = [];
  split = refl;
  took = took_none t;
  ran = executes_none first w;
}

-- a flush keeps what was written and acknowledged
pub stands_kept : (mode : Mode) (first now : State → Type 0) (line : List ℕ) (taken : ℕ) (script rest : Option (List ℕ)) (a b c : Output) (before at : Option Takes)
    → Stands mode first now line taken script rest a b before at → c.written ≡ b.written → c.acks ≡ b.acks → Stands mode first now line taken script rest a c before at
stands_kept mode first now line taken script rest a b c before at s same acks = record {
  bytes = s.bytes;
  count = s.count;
  few = s.few;
  taken_is = s.taken_is;
  no_stop = s.no_stop;
  line_is = s.line_is;
  idle = s.idle;
  front = s.front;
  final = s.final;
  split = s.split;
  took = s.took;
  ran = executes_kept first now (meanings mode s.bytes) a b c s.ran same acks;
}

held_twice : (bytes line : List ℕ) → line ≡ held (open_line bytes) → IsHeld line
held_twice bytes line is =
    ap (λ l. held (open_line l)) (sym (append-nil line)) ∙ held-more bytes [] line is ∙ ap (λ l. held (open_line l)) (append-nil bytes) ∙ sym is

pub stands_held : {mode : Mode} {first now : State → Type 0} {line : List ℕ} {taken : ℕ} {script rest : Option (List ℕ)} {old new : Output} {before at : Option Takes}
    → Stands mode first now line taken script rest old new before at → IsHeld line
stands_held {line = line} s = held_twice s.bytes line s.line_is

-- a piece more
pub stands_more : (mode : Mode) (first mid now : State → Type 0) (line line2 piece : List ℕ) (taken : ℕ) (script left rest : Option (List ℕ)) (a b c : Output) (before at after : Option Takes)
    → Stands mode first mid line taken script left a b before at → taken + length piece ≤ script_limit → left ≡ prepend_known piece rest → 0 < length piece
    → length piece ≤ piece_limit → after ≡ option_map (takes_after piece) at
    → Executes mid now (completed mode line piece) b c → list_any is_stop (meanings mode (line ++ piece)) ≡ false
    → line2 ≡ held (open_line (line ++ piece)) → Stands mode first now line2 (taken + length piece) script rest a c before after
stands_more mode first mid now line line2 piece taken script left rest a b c before at after s fits got some short told x none is =
    let lines = meanings-more mode s.bytes piece line s.line_is in
    record {
      bytes = s.bytes ++ piece;
      count = omega (arith, length-append s.bytes piece, s.count);
      few = fits;
      taken_is = s.taken_is ∙ ap (prepend_known s.bytes) got ∙ prepend_known-append s.bytes piece rest;
      no_stop = ap (list_any is_stop) lines ∙ list_any-append is_stop (meanings mode s.bytes) (meanings mode (line ++ piece)) ∙ neither _ _ s.no_stop none;
      line_is = is ∙ held-more s.bytes piece line s.line_is;
      idle = subst (IdleAlike before) (sym told) (idle_more before at piece s.idle some);
      front = s.bytes;
      final = piece;
      split = refl;
      took = took s.bytes piece before at after short s.idle told;
      ran = executes_as first now _ _ a c (sym lines) (executes_more first mid now (meanings mode s.bytes) (meanings mode (line ++ piece)) a b c s.ran
          (executes_as mid now _ _ b c (up_to_stop-none (meanings mode (line ++ piece)) none) x));
    }

-- ---- a session's ends without a fault

-- lines that begin with those that are complete in some bytes
begins_with : (mode : Mode) (bytes : List ℕ) (xs : List Exchange) (lines more : List Spoken) → executed xs ≡ lines → lines ≡ meanings mode bytes ++ more
    → list_any is_stop (meanings mode bytes) ≡ false → BeginsWith mode bytes xs
begins_with mode bytes xs lines more are is none = record { rest = more; lines_are = are ∙ is; no_stop = none }

-- what holds anyway holds of a script
any_script : (P : Type 0) (o : Option (List ℕ)) → P → IfSome o (λ _. P)
any_script P None h = tt
any_script P (Some bytes) h = h

-- the parts of a session that are the same at each end: what was taken, and what was executed of it
record Parts (front taken : List ℕ) (script rest : Option (List ℕ)) (before after : Option Takes) : Type 0 where
  final : List ℕ
  taken_is : taken ≡ front ++ final
  script_is : script ≡ prepend_known taken rest
  took : Took front final before after
  few : length taken ≤ script_limit

-- the acknowledgements of what was executed, and no more
acked_all : (n : ℕ) (a b : List Ack) → HasAcked n a b → HasAcked (n + 0) a b
acked_all n a b h = acks_as n (n + 0) a b (omega arith) h

stopped_not : (b : Bool) → true ≡ b → b ≡ false → ⊥
stopped_not b e f = cc

-- all lines were executed
all_read : (mode : Mode) (first now : State → Type 0) (lines more : List Spoken) (front taken : List ℕ) (script rest : Option (List ℕ)) (old new : Output) (before after : Option Takes)
    → (p : Parts front taken script rest before after) → Executes first now lines old new → lines ≡ meanings mode front ++ more
    → list_any is_stop (meanings mode front) ≡ false → lines ≡ lines_to_run mode taken → IfSome script (λ bytes. lines ≡ lines_to_run mode bytes)
    → (list_any is_stop lines ≡ false → IsAtEnd rest × (p.final ≡ [])) → Session mode None first (λ _. now) no_acks script rest before after old new
all_read mode first now lines more front taken script rest old new before after p x begins none among all read = record {
  exchanges = x.exchanges;
  answered = x.answered;
  front = front;
  final = p.final;
  taken = taken;
  taken_is = p.taken_is;
  script_is = p.script_is;
  took = p.took;
  begins = begins_with mode front x.exchanges lines more x.lines_are begins none;
  among_taken = x.lines_are ∙ among;
  among_script = by script all;
  taken_at = p.few;
  read_out = λ goes_on. read (ap (list_any is_stop) (sym x.lines_are) ∙ goes_on);
  replied = x.written;
  acked = acked_all _ old.acks new.acks (executes_acked first now lines old new x);
  runs = λ s h. transcript_as s x.exchanges now _ (x.runs s h)
      (λ t g. record { told = tt; told_script = any_script (Unit {0}) script tt; reached = g });
}
  where
    by : (o : Option (List ℕ)) → IfSome o (λ bytes. lines ≡ lines_to_run mode bytes) → IfSome o (λ bytes. executed x.exchanges ≡ lines_to_run mode bytes)
    by None h = tt
    by (Some bytes) h = x.lines_are ∙ h

-- so they were, and how the run goes on tells whether a `stop` is among them
all_run : (mode : Mode) (first now : State → Type 0) (flow : ControlFlow (Unit {0}) (Unit {0})) (lines more : List Spoken) (front taken : List ℕ) (script rest : Option (List ℕ)) (old new : Output) (before after : Option Takes)
    → (p : Parts front taken script rest before after) → Executes first now lines old new → lines ≡ meanings mode front ++ more
    → list_any is_stop (meanings mode front) ≡ false → lines ≡ lines_to_run mode taken → IfSome script (λ bytes. lines ≡ lines_to_run mode bytes)
    → (list_any is_stop lines ≡ false → IsAtEnd rest × (p.final ≡ [])) → breaks flow ≡ list_any is_stop lines
    → RunsPieces mode (Ok flow) first now script rest before after old new
unfolding all_read
all_run mode first now flow lines more front taken script rest old new before after p x begins none among all read stops = record {
  session = all_read mode first now lines more front taken script rest old new before after p x begins none among all read;
  flow = stops ∙ ap (list_any is_stop) (sym x.lines_are);
}

-- a piece more was taken
parts_more : {mode : Mode} {first now : State → Type 0} {line : List ℕ} {taken : ℕ} {script left : Option (List ℕ)} {a b : Output} {before at : Option Takes}
    → (s : Stands mode first now line taken script left a b before at) → (piece : List ℕ) (rest : Option (List ℕ)) (after : Option Takes)
    → taken + length piece ≤ script_limit → left ≡ prepend_known piece rest → length piece ≤ piece_limit → after ≡ option_map (takes_after piece) at
    → Parts s.bytes (s.bytes ++ piece) script rest before after
parts_more {before = before} {at = at} s piece rest after fits got short told = record {
  final = piece;
  taken_is = refl;
  script_is = s.taken_is ∙ ap (prepend_known s.bytes) got ∙ prepend_known-append s.bytes piece rest;
  took = took s.bytes piece before at after short s.idle told;
  few = omega (arith, length-append s.bytes piece, s.count, fits);
}

-- a take that gave nothing
parts_none : {mode : Mode} {first now : State → Type 0} {line : List ℕ} {taken : ℕ} {script rest : Option (List ℕ)} {a b : Output} {before at : Option Takes}
    → (s : Stands mode first now line taken script rest a b before at) → (after : Option Takes) → after ≡ option_map (takes_after []) at
    → Parts s.bytes s.bytes script rest before after
parts_none {before = before} {at = at} s after told = record {
  final = [];
  taken_is = sym (append-nil s.bytes);
  script_is = s.taken_is;
  took = took s.bytes [] before at after (omega arith) s.idle told;
  few = omega (arith, s.count, s.few);
}

-- a `stop` ends the script
pub session_stops : (mode : Mode) (first mid now : State → Type 0) (flow : ControlFlow (Unit {0}) (Unit {0})) (line piece : List ℕ) (taken : ℕ) (script left rest : Option (List ℕ)) (a b c : Output) (before at after : Option Takes)
    → Stands mode first mid line taken script left a b before at → taken + length piece ≤ script_limit → left ≡ prepend_known piece rest
    → length piece ≤ piece_limit → after ≡ option_map (takes_after piece) at
    → Executes mid now (completed mode line piece) b c → list_any is_stop (meanings mode (line ++ piece)) ≡ true
    → breaks flow ≡ true → RunsPieces mode (Ok flow) first now script rest before after a c
session_stops mode first mid now flow line piece taken script left rest a b c before at after s fits got short told x some off =
    let p = parts_more s piece rest after fits got short told in
    let lines : List Spoken = meanings mode s.bytes ++ completed mode line piece in
    let all = λ (more : List ℕ). sym (run_stopped mode s.bytes piece line more s.line_is s.no_stop some) in
    let stops : true ≡ list_any is_stop lines =
    sym (list_any-append is_stop (meanings mode s.bytes) (completed mode line piece) ∙ either _ _ (up_to_stop-any (meanings mode (line ++ piece)) ∙ some)) in
    all_run mode first now flow lines (completed mode line piece) s.bytes (s.bytes ++ piece) script rest a c before after p
    (executes_more first mid now (meanings mode s.bytes) (completed mode line piece) a b c s.ran x) refl s.no_stop
    (all [] ∙ ap (lines_to_run mode) (append-nil (s.bytes ++ piece)))
    (known (λ bytes. lines ≡ lines_to_run mode bytes) (s.bytes ++ piece) script rest p.script_is (λ more e. all more))
    (λ none. absurd (stopped_not (list_any is_stop lines) stops none)) (off ∙ stops)

-- the script's end
pub session_ends : (mode : Mode) (first mid now : State → Type 0) (flow : ControlFlow (Unit {0}) (Unit {0})) (line : List ℕ) (taken : ℕ) (script rest : Option (List ℕ)) (a b c : Output) (before at after : Option Takes)
    → Stands mode first mid line taken script rest a b before at → IsAtEnd rest → after ≡ option_map (takes_after []) at
    → Executes mid now (last_lines mode line) b c → breaks flow ≡ list_any is_stop (last_lines mode line)
    → RunsPieces mode (Ok flow) first now script rest before after a c
unfolding parts_none
session_ends mode first mid now flow line taken script rest a b c before at after s end told x stops =
    let lines : List Spoken = meanings mode s.bytes ++ last_lines mode line in
    let all : lines ≡ lines_to_run mode s.bytes = sym (run_ended mode s.bytes line s.line_is s.no_stop) in
    all_run mode first now flow lines (last_lines mode line) s.bytes s.bytes script rest a c before after (parts_none s after told)
    (executes_more first mid now (meanings mode s.bytes) (last_lines mode line) a b c s.ran x) refl s.no_stop all
    (known (λ bytes. lines ≡ lines_to_run mode bytes) s.bytes script rest s.taken_is
    (λ more e. all ∙ ap (lines_to_run mode) (sym (ap (λ l. s.bytes ++ l) (end_is rest end more e) ∙ append-nil s.bytes))))
    (λ none. (end, refl))
    (stops ∙ sym (list_any-append is_stop (meanings mode s.bytes) (last_lines mode line) ∙ ap (λ b. b || list_any is_stop (last_lines mode line)) s.no_stop))

-- ---- a session's ends by a fault

some-before : (xs ys : List ℕ) → is_empty xs ≡ false → is_empty (xs ++ ys) ≡ false
some-before [] ys h = cc
some-before (x ∷ xs) ys h = refl

HasNext-front : (next : Spoken) (done lines all : List Spoken) → HasNext next done lines → IsFront lines all → HasNext next done all
HasNext-front next done lines all h front = record {
  rest = h.rest ++ front.0;
  lines_are = front.1 ∙ ap (λ l. l ++ front.0) h.lines_are ∙ append_assoc done (next ∷ h.rest) front.0;
}

HasNext-append : (next : Spoken) (xs done lines : List Spoken) → HasNext next done lines → HasNext next (xs ++ done) (xs ++ lines)
HasNext-append next xs done lines h = record {
  rest = h.rest;
  lines_are = ap (λ l. xs ++ l) h.lines_are ∙ sym (append_assoc xs done (next ∷ h.rest));
}

cut_more : (xs ys : List Exchange) (a b c : Option (List ℕ)) → b ≡ append_known a (text xs) → IsCutShort ys b c → IsCutShort (xs ++ ys) a c
cut_more xs ys a b c first cut = record {
  front = xs ++ cut.front;
  last = cut.last;
  exchanges_are = ap (λ l. xs ++ l) cut.exchanges_are ∙ sym (append_assoc xs cut.front (cut.last ∷ []));
  part = subst (λ w. WrotePart (said_line cut.last.line.client cut.last.said) w c) (text-twice xs cut.front a b (append_known b (text cut.front)) first refl) cut.part;
}

-- the lines of what was complete, and of a piece, one after the other
done_twice : (mode : Mode) (bytes : List ℕ) (xs ys : List Exchange) → executed xs ≡ meanings mode bytes → executed (xs ++ ys) ≡ meanings mode bytes ++ executed ys
done_twice mode bytes xs ys are = executed-append xs ys ∙ ap (λ l. l ++ executed ys) are

-- where bytes are left of a piece, there is a next line, whatever follows
at_line : (mode : Mode) (bytes line piece more : List ℕ) (xs ys : List Exchange) → line ≡ held (open_line bytes) → list_any is_stop (meanings mode bytes) ≡ false
    → executed xs ≡ meanings mode bytes → HasMore mode line piece ys → IsAtLine (xs ++ ys) (lines_to_run mode ((bytes ++ piece) ++ more))
at_line mode bytes line piece more xs ys is none are h =
    let front : List ℕ = bytes ++ h.front in
    let lines_of_front : meanings mode front ≡ meanings mode bytes ++ meanings mode (line ++ h.front) = meanings-more mode bytes h.front line is in
    let lines : executed (xs ++ ys) ≡ meanings mode front = done_twice mode bytes xs ys are ∙ ap (λ l. meanings mode bytes ++ l) h.lines_are ∙ sym lines_of_front in
    let no_stop : list_any is_stop (meanings mode front) ≡ false =
    ap (list_any is_stop) lines_of_front ∙ list_any-append is_stop (meanings mode bytes) (meanings mode (line ++ h.front)) ∙ neither _ _ none h.no_stop in
    let joined : bytes ++ piece ≡ front ++ h.rest = ap (λ l. bytes ++ l) h.piece_is ∙ sym (append_assoc bytes h.front h.rest) in
    subst (λ bs. IsAtLine (xs ++ ys) (lines_to_run mode bs)) (sym (ap (λ l. l ++ more) joined ∙ append_assoc front h.rest more))
    (inr (next_of_more mode front (h.rest ++ more) (xs ++ ys) lines no_stop (some-before h.rest more h.some)))

-- what was executed stands at the front where there is a next line
line_front : (xs : List Exchange) (lines : List Spoken) → IsAtLine xs lines → IsFront (executed xs) lines
line_front xs lines (inl none) = subst (λ (l : List Exchange). IsFront (executed l) lines) (sym none) (lines, refl)
line_front xs lines (inr h) = (h.0 ∷ h.1.rest, h.1.lines_are)

-- a next line of a piece is one of all, whatever follows
next_of_all : (mode : Mode) (bytes line piece more : List ℕ) (xs ys : List Exchange) (next : Spoken) → line ≡ held (open_line bytes)
    → list_any is_stop (meanings mode bytes) ≡ false → executed xs ≡ meanings mode bytes → HasNext next (executed ys) (completed mode line piece)
    → HasNext next (executed (xs ++ ys)) (lines_to_run mode ((bytes ++ piece) ++ more))
next_of_all mode bytes line piece more xs ys next is none are h =
    let upto : List Spoken = meanings mode bytes ++ completed mode line piece in
    HasNext-front next (executed (xs ++ ys)) upto (lines_to_run mode ((bytes ++ piece) ++ more))
    (subst (λ d. HasNext next d upto) (sym (done_twice mode bytes xs ys are)) (HasNext-append next (meanings mode bytes) (executed ys) (completed mode line piece) h))
    (fed_front mode bytes piece line more is none)

-- some lines, and then a fault within a piece, by what is said of each fault
broken_by : (mode : Mode) (e : Fault) (first mid now : State → Type 0) (bytes line piece : List ℕ) (script rest : Option (List ℕ)) (a b c : Output) (before after : Option Takes)
    → Parts bytes (bytes ++ piece) script rest before after → list_any is_stop (meanings mode bytes) ≡ false → (x : Executes first mid (meanings mode bytes) a b)
    → (y : BreaksOff mode e mid now line piece b c) → ((more : List ℕ) → Among mode (Some e) ((bytes ++ piece) ++ more) (x.exchanges ++ y.exchanges))
    → TakenAt mode (Some e) (bytes ++ piece) (x.exchanges ++ y.exchanges) → Replied mode (Some e) bytes (bytes ++ piece) (x.exchanges ++ y.exchanges) a.written c.written
    → ((s : State) → Tells (Some e) s (executed y.exchanges) (completed mode line piece) → (more : List ℕ)
    → Tells (Some e) s (executed (x.exchanges ++ y.exchanges)) (lines_to_run mode ((bytes ++ piece) ++ more)))
    → Session mode (Some e) first (λ _. now) no_acks script rest before after a c
broken_by mode e first mid now bytes line piece script rest a b c before after p none x y among taken_at replied tells =
    let all : List Exchange = x.exchanges ++ y.exchanges in
    record {
      exchanges = all;
      answered = each_both IsAnswered x.exchanges y.exchanges x.answered y.answered;
      front = bytes;
      final = p.final;
      taken = bytes ++ piece;
      taken_is = p.taken_is;
      script_is = p.script_is;
      took = p.took;
      begins = begins_with mode bytes all _ (executed y.exchanges) (done_twice mode bytes x.exchanges y.exchanges x.lines_are) refl none;
      among_taken = subst (λ bs. Among mode (Some e) bs all) (append-nil (bytes ++ piece)) (among []);
      among_script = known (λ bs. Among mode (Some e) bs all) (bytes ++ piece) script rest p.script_is (λ more _. among more);
      taken_at = taken_at;
      read_out = tt;
      replied = replied;
      acked = acked_all _ a.acks c.acks (acks_joined x.exchanges y.exchanges a.acks b.acks c.acks (executes_acked first mid (meanings mode bytes) a b x) y.acked);
      runs = λ s h. transcript_as s all (HaltsIn mode e line piece y.exchanges now) _ (transcript_more s x.exchanges y.exchanges mid _ (x.runs s h) y.runs)
          (λ t g. record {
            told = subst (λ bs. Tells (Some e) t (executed all) (lines_to_run mode bs)) (append-nil (bytes ++ piece)) (tells t g.told []);
            told_script = known (λ bs. Tells (Some e) t (executed all) (lines_to_run mode bs)) (bytes ++ piece) script rest p.script_is (λ more _. tells t g.told more);
            reached = g.reached;
          });
    }

broken : (mode : Mode) (e : Fault) (first mid now : State → Type 0) (bytes line piece : List ℕ) (script rest : Option (List ℕ)) (a b c : Output) (before after : Option Takes)
    → Parts bytes (bytes ++ piece) script rest before after → line ≡ held (open_line bytes) → list_any is_stop (meanings mode bytes) ≡ false
    → (x : Executes first mid (meanings mode bytes) a b) → BreaksOff mode e mid now line piece b c → Session mode (Some e) first (λ _. now) no_acks script rest before after a c
unfolding cut_more
broken mode Device first mid now bytes line piece script rest a b c before after p is none x y =
    broken_by mode Device first mid now bytes line piece script rest a b c before after p none x y
    (λ more. line_front _ _ (at_line mode bytes line piece more x.exchanges y.exchanges is none x.lines_are y.halts)) p.few
    (text-twice x.exchanges y.exchanges a.written b.written c.written x.written y.replied) (λ s told more. tt)
broken mode (Damaged block) first mid now bytes line piece script rest a b c before after p is none x y =
    broken_by mode (Damaged block) first mid now bytes line piece script rest a b c before after p none x y
    (λ more. at_line mode bytes line piece more x.exchanges y.exchanges is none x.lines_are y.halts) p.few
    (text-twice x.exchanges y.exchanges a.written b.written c.written x.written y.replied) (λ s told more. told)
broken mode Source first mid now bytes line piece script rest a b c before after p is none x y = absurd y.halts
broken mode Memory first mid now bytes line piece script rest a b c before after p is none x y =
    broken_by mode Memory first mid now bytes line piece script rest a b c before after p none x y
    (λ more. line_front _ _ (at_line mode bytes line piece more x.exchanges y.exchanges is none x.lines_are y.halts)) p.few
    (text-twice x.exchanges y.exchanges a.written b.written c.written x.written y.replied) (λ s told more. tt)
broken mode TooLong first mid now bytes line piece script rest a b c before after p is none x y = absurd y.halts
broken mode (Worn which) first mid now bytes line piece script rest a b c before after p is none x y =
    broken_by mode (Worn which) first mid now bytes line piece script rest a b c before after p none x y
    (λ more. inr (y.halts.0, next_of_all mode bytes line piece more x.exchanges y.exchanges y.halts.0 is none x.lines_are y.halts.1)) p.few
    (text-twice x.exchanges y.exchanges a.written b.written c.written x.written y.replied)
    (λ s told more. record {
      next = told.next;
      has = next_of_all mode bytes line piece more x.exchanges y.exchanges told.next is none x.lines_are told.has;
      left = told.left;
      worn = told.worn;
    })
broken mode Sink first mid now bytes line piece script rest a b c before after p is none x y =
    let all : List Exchange = x.exchanges ++ y.exchanges in
    let upto : List Spoken = meanings mode bytes ++ completed mode line piece in
    let front : IsFront (executed all) upto =
    subst (λ d. IsFront d upto) (sym (done_twice mode bytes x.exchanges y.exchanges x.lines_are)) (IsFront-append (meanings mode bytes) (executed y.exchanges) (completed mode line piece) y.halts) in
    broken_by mode Sink first mid now bytes line piece script rest a b c before after p none x y
    (λ more. IsFront-trans (executed all) upto (lines_to_run mode ((bytes ++ piece) ++ more)) front (fed_front mode bytes piece line more is none)) p.few
    (inl (cut_after x.exchanges y.exchanges a.written b.written c.written bytes x.written x.lines_are none y.replied)) (λ s told more. tt)
  where
    cut_after : (xs ys : List Exchange) (u v w : Option (List ℕ)) (bs : List ℕ) → v ≡ append_known u (text xs) → executed xs ≡ meanings mode bs
        → list_any is_stop (meanings mode bs) ≡ false → IsCutShort ys v w → IsCutAfter mode bs (xs ++ ys) u w
    cut_after xs ys u v w bs first are no_stop cut = record {
      cut = cut_more xs ys u v w first cut;
      begins = begins_with mode bs (xs ++ cut.front) _ (executed cut.front) (done_twice mode bs xs cut.front are) refl no_stop;
    }

-- a session that a fault ends
faulted : (mode : Mode) (e : Fault) (first now : State → Type 0) (script rest : Option (List ℕ)) (before after : Option Takes) (a c : Output)
    → Session mode (Some e) first (λ _. now) no_acks script rest before after a c → RunsPieces mode (Err e) first now script rest before after a c
faulted mode e first now script rest before after a c s = record { session = s; flow = tt }

-- a fault within a piece
pub session_breaks : (mode : Mode) (e : Fault) (first mid now : State → Type 0) (line piece : List ℕ) (taken : ℕ) (script left rest : Option (List ℕ)) (a b c : Output) (before at after : Option Takes)
    → Stands mode first mid line taken script left a b before at → taken + length piece ≤ script_limit → left ≡ prepend_known piece rest
    → length piece ≤ piece_limit → after ≡ option_map (takes_after piece) at
    → BreaksOff mode e mid now line piece b c → RunsPieces mode (Err e) first now script rest before after a c
session_breaks mode e first mid now line piece taken script left rest a b c before at after s fits got short told fails =
    faulted mode e first now script rest before after a c
    (broken mode e first mid now s.bytes line piece script rest a b c before after (parts_more s piece rest after fits got short told) s.line_is s.no_stop s.ran fails)

same_script : (P : List ℕ → Type 0) (script : Option (List ℕ)) (bytes : List ℕ) → IfSome script (λ bs. bs ≡ bytes) → P bytes → IfSome script P
same_script P None bytes same h = tt
same_script P (Some bs) bytes same h = subst P (sym same) h

last_one : (mode : Mode) (line : List ℕ) → is_empty line ≡ false → last_lines mode line ≡ spoken mode line ∷ []
last_one mode [] some = cc
last_one mode (b ∷ line) some = refl

-- what was taken is the whole script, whose last line isn't executed yet
record AtLast (mode : Mode) (bytes line : List ℕ) (script : Option (List ℕ)) : Type 0 where
  none : list_any is_stop (meanings mode bytes) ≡ false
  all : lines_to_run mode bytes ≡ meanings mode bytes ++ spoken mode line ∷ []
  same : IfSome script (λ bs. bs ≡ bytes)

-- a fault before the last line's reply, by what is said of each fault
failed_by : (mode : Mode) (e : Fault) (first mid now : State → Type 0) (bytes line : List ℕ) (script rest : Option (List ℕ)) (a b c : Output) (before after : Option Takes)
    → Parts bytes bytes script rest before after → AtLast mode bytes line script → (x : Executes first mid (meanings mode bytes) a b)
    → (HasNext (spoken mode line) (executed x.exchanges) (lines_to_run mode bytes) → Among mode (Some e) bytes x.exchanges)
    → TakenAt mode (Some e) bytes x.exchanges → Replied mode (Some e) bytes bytes x.exchanges a.written c.written → c.acks ≡ b.acks
    → ((s : State) → mid s → HasNext (spoken mode line) (executed x.exchanges) (lines_to_run mode bytes)
    → Tells (Some e) s (executed x.exchanges) (lines_to_run mode bytes) × Ends (Some e) s now)
    → Session mode (Some e) first (λ _. now) no_acks script rest before after a c
failed_by mode e first mid now bytes line script rest a b c before after p l x among taken_at replied acks ends =
    let has : HasNext (spoken mode line) (executed x.exchanges) (lines_to_run mode bytes) =
    record { rest = []; lines_are = l.all ∙ ap (λ ls. ls ++ spoken mode line ∷ []) (sym x.lines_are) } in
    record {
      exchanges = x.exchanges;
      answered = x.answered;
      front = bytes;
      final = p.final;
      taken = bytes;
      taken_is = p.taken_is;
      script_is = p.script_is;
      took = p.took;
      begins = begins_with mode bytes x.exchanges _ [] x.lines_are (sym (append-nil (meanings mode bytes))) l.none;
      among_taken = among has;
      among_script = same_script (λ bs. Among mode (Some e) bs x.exchanges) script bytes l.same (among has);
      taken_at = taken_at;
      read_out = tt;
      replied = replied;
      acked = acked_all _ a.acks c.acks (acks_kept _ a.acks b.acks c.acks acks (executes_acked first mid (meanings mode bytes) a b x));
      runs = λ s h. transcript_as s x.exchanges mid _ (x.runs s h) (λ t g. let r = ends t g has in
          record {
            told = r.0;
            told_script = same_script (λ bs. Tells (Some e) t (executed x.exchanges) (lines_to_run mode bs)) script bytes l.same r.0;
            reached = r.1;
          });
    }

-- a fault at the last line
failed : (mode : Mode) (e : Fault) (first mid now : State → Type 0) (bytes line : List ℕ) (script rest : Option (List ℕ)) (a b c : Output) (before after : Option Takes)
    → Parts bytes bytes script rest before after → AtLast mode bytes line script → Executes first mid (meanings mode bytes) a b
    → RunFails e mid now (spoken mode line) b c → Session mode (Some e) first (λ _. now) no_acks script rest before after a c
failed mode Device first mid now bytes line script rest a b c before after p l x y =
    failed_by mode Device first mid now bytes line script rest a b c before after p l x (λ has. line_front _ _ (inr (spoken mode line, has))) p.few (y.unwritten ∙ x.written) y.unacked
    (λ s h has. (tt, (spoken mode line, y.leaves s h)))
failed mode (Damaged block) first mid now bytes line script rest a b c before after p l x y =
    failed_by mode (Damaged block) first mid now bytes line script rest a b c before after p l x (λ has. inr (spoken mode line, has)) p.few (y.unwritten ∙ x.written) y.unacked
    (λ s h has. (y.leaves s h, y.leaves s h))
failed mode Source first mid now bytes line script rest a b c before after p l x y = absurd y
failed mode Memory first mid now bytes line script rest a b c before after p l x y =
    failed_by mode Memory first mid now bytes line script rest a b c before after p l x (λ has. line_front _ _ (inr (spoken mode line, has))) p.few (y.unwritten ∙ x.written) y.unacked
    (λ s h has. (tt, (spoken mode line, y.leaves s h)))
failed mode TooLong first mid now bytes line script rest a b c before after p l x y = absurd y
failed mode (Worn which) first mid now bytes line script rest a b c before after p l x y =
    failed_by mode (Worn which) first mid now bytes line script rest a b c before after p l x (λ has. inr (spoken mode line, has)) p.few (y.unwritten ∙ x.written) y.unacked
    (λ s h has. let w = y.leaves s h in (
      record { next = spoken mode line; has = has; left = w.left; worn = w.worn },
      leaves_worn which s (spoken mode line) now w,
    ))
failed mode Sink first mid now bytes line script rest a b c before after p l x y =
    let last : Exchange = record { line = spoken mode line; said = y.said } in
    let xs : List Exchange = x.exchanges ++ last ∷ [] in
    let among : IsFront (executed xs) (lines_to_run mode bytes) =
    ([], l.all ∙ sym (append-nil (meanings mode bytes ++ spoken mode line ∷ [])) ∙ ap (λ ls. ls ++ []) (ap (λ ls. ls ++ spoken mode line ∷ []) (sym x.lines_are) ∙ sym (executed-append x.exchanges (last ∷ [])))) in
    record {
      exchanges = xs;
      answered = each_both IsAnswered x.exchanges (last ∷ []) x.answered ((y.answer, y.one_line), tt);
      front = bytes;
      final = p.final;
      taken = bytes;
      taken_is = p.taken_is;
      script_is = p.script_is;
      took = p.took;
      begins = begins_with mode bytes xs _ (spoken mode line ∷ []) (done_twice mode bytes x.exchanges (last ∷ []) x.lines_are) refl l.none;
      among_taken = among;
      among_script = same_script (λ bs. IsFront (executed xs) (lines_to_run mode bs)) script bytes l.same among;
      taken_at = p.few;
      read_out = tt;
      acked = acked_all _ a.acks c.acks (acks_joined x.exchanges (last ∷ []) a.acks b.acks c.acks (executes_acked first mid (meanings mode bytes) a b x) y.acked);
      replied = inl (record {
        cut = record { front = x.exchanges; last = last; exchanges_are = refl; part = subst (λ w. WrotePart (said_line last.line.client y.said) w c.written) x.written y.part };
        begins = begins_with mode bytes x.exchanges _ [] x.lines_are (sym (append-nil (meanings mode bytes))) l.none;
      });
      runs = λ s h. transcript_as s xs now _
          (transcript_more s x.exchanges (last ∷ []) mid now (x.runs s h) (λ t g. transcript_one t (spoken mode line) y.said now (y.replies t g)))
          (λ t g. record { told = tt; told_script = any_script (Unit {0}) script tt; reached = g });
    }

pub session_fails : (mode : Mode) (e : Fault) (first mid now : State → Type 0) (line : List ℕ) (taken : ℕ) (script rest : Option (List ℕ)) (a b c : Output) (before at after : Option Takes)
    → Stands mode first mid line taken script rest a b before at → IsAtEnd rest → after ≡ option_map (takes_after []) at → is_empty line ≡ false
    → RunFails e mid now (spoken mode line) b c → RunsPieces mode (Err e) first now script rest before after a c
session_fails mode e first mid now line taken script rest a b c before at after s end told some fails =
    faulted mode e first now script rest before after a c (failed mode e first mid now s.bytes line script rest a b c before after (parts_none s after told)
    (record {
      none = s.no_stop;
      all = run_ended mode s.bytes line s.line_is s.no_stop ∙ ap (λ l. meanings mode s.bytes ++ l) (last_one mode line some);
      same = known (λ bs. bs ≡ s.bytes) s.bytes script rest s.taken_is (λ more e. ap (λ l. s.bytes ++ l) (end_is rest end more e) ∙ append-nil s.bytes);
    }) s.ran fails)

complete_front : (mode : Mode) (bytes more : List ℕ) (xs : List Exchange) → executed xs ≡ meanings mode bytes → list_any is_stop (meanings mode bytes) ≡ false
    → IsFront (executed xs) (lines_to_run mode (bytes ++ more))
complete_front mode bytes more xs are none =
    subst (λ l. IsFront l (lines_to_run mode (bytes ++ more))) (sym are) (lines_to_run mode (open_line bytes ++ more), run_front mode bytes more none)

-- what was executed, where all lines that are complete in what was taken were
complete : (mode : Mode) (bytes : List ℕ) (xs : List Exchange) → executed xs ≡ meanings mode bytes → list_any is_stop (meanings mode bytes) ≡ false → AllComplete mode bytes xs
complete mode bytes xs are none = record { lines_are = are; no_stop = ap (list_any is_stop) are ∙ none }

-- a session that ends so, where only complete lines were executed and nothing more is told of the state
complete_by : (mode : Mode) (e : Fault) (first now : State → Type 0) (bytes front final taken more : List ℕ) (script rest : Option (List ℕ)) (a b c : Output) (before after : Option Takes)
    → (x : Executes first now (meanings mode bytes) a b) → list_any is_stop (meanings mode bytes) ≡ false → taken ≡ bytes ++ more → taken ≡ front ++ final
    → script ≡ prepend_known taken rest → Took front final before after → BeginsWith mode front x.exchanges
    → ((bs : List ℕ) → IsFront (executed x.exchanges) (lines_to_run mode bs) → Among mode (Some e) bs x.exchanges)
    → TakenAt mode (Some e) taken x.exchanges → Replied mode (Some e) front taken x.exchanges a.written c.written → c.acks ≡ b.acks
    → ((s : State) (lines : List Spoken) → Tells (Some e) s (executed x.exchanges) lines) → ((s : State) → now s → Ends (Some e) s now)
    → RunsPieces mode (Err e) first now script rest before after a c
complete_by mode e first now bytes front final taken more script rest a b c before after x none joined split is took begins among taken_at replied acks tells ends =
    let xs : List Exchange = x.exchanges in
    let among_all : (further : List ℕ) → Among mode (Some e) (taken ++ further) xs =
    λ further. among (taken ++ further) (subst (λ bs. IsFront (executed xs) (lines_to_run mode bs)) (sym (ap (λ l. l ++ further) joined ∙ append_assoc bytes more further))
    (complete_front mode bytes (more ++ further) xs x.lines_are none)) in
    faulted mode e first now script rest before after a c (record {
      exchanges = xs;
      answered = x.answered;
      front = front;
      final = final;
      taken = taken;
      taken_is = split;
      script_is = is;
      took = took;
      begins = begins;
      among_taken = subst (λ bs. Among mode (Some e) bs xs) (append-nil taken) (among_all []);
      among_script = known (λ bs. Among mode (Some e) bs xs) taken script rest is (λ further _. among_all further);
      taken_at = taken_at;
      read_out = tt;
      replied = replied;
      acked = acked_all _ a.acks c.acks (acks_kept _ a.acks b.acks c.acks acks (executes_acked first now (meanings mode bytes) a b x));
      runs = λ s h. transcript_as s xs now _ (x.runs s h) (λ t g. record {
        told = tells t (lines_to_run mode taken);
        told_script = known (λ bs. Tells (Some e) t (executed xs) (lines_to_run mode bs)) taken script rest is (λ further _. tells t (lines_to_run mode (taken ++ further)));
        reached = ends t g;
      });
    })

-- the source's fault
pub session_source : (mode : Mode) (first now : State → Type 0) (line : List ℕ) (taken : ℕ) (script rest : Option (List ℕ)) (a b : Output) (before at after : Option Takes)
    → Stands mode first now line taken script rest a b before at → after ≡ option_map (takes_after []) at → RunsPieces mode (Err Source) first now script rest before after a b
session_source mode first now line taken script rest a b before at after s told =
    let p = parts_none s after told in
    complete_by mode Source first now s.bytes s.bytes p.final s.bytes [] script rest a b b before after s.ran s.no_stop (sym (append-nil s.bytes)) p.taken_is p.script_is p.took
    (begins_with mode s.bytes s.ran.exchanges _ [] s.ran.lines_are (sym (append-nil (meanings mode s.bytes))) s.no_stop) (λ bs h. h)
    (p.few, complete mode s.bytes s.ran.exchanges s.ran.lines_are s.no_stop) s.ran.written refl (λ t ls. tt) (λ t g. g)

neither_left : (a b : Bool) → (a || b) ≡ false → a ≡ false
neither_left true b e = cc
neither_left false b e = refl

-- what is complete in a front of some bytes comes first
begins_front : (mode : Mode) (front final bytes : List ℕ) (xs : List Exchange) → bytes ≡ front ++ final → executed xs ≡ meanings mode bytes
    → list_any is_stop (meanings mode bytes) ≡ false → BeginsWith mode front xs
begins_front mode front final bytes xs split are none =
    let more : List Spoken = meanings mode (open_line front ++ final) in
    let lines : meanings mode bytes ≡ meanings mode front ++ more =
    ap (meanings mode) split ∙ ap (map (spoken mode)) (whole_lines-more front final) ∙ map-append (spoken mode) (whole_lines front) (whole_lines (open_line front ++ final)) in
    begins_with mode front xs (meanings mode bytes) more are lines
    (neither_left (list_any is_stop (meanings mode front)) (list_any is_stop more)
    (sym (list_any-append is_stop (meanings mode front) more) ∙ sym (ap (list_any is_stop) lines) ∙ none))

-- the sink's fault where it has to pass on the replies before a take
pub session_keeps : (mode : Mode) (first now : State → Type 0) (line : List ℕ) (taken : ℕ) (script rest : Option (List ℕ)) (a b c : Output) (before at : Option Takes)
    → Stands mode first now line taken script rest a b before at → c.written ≡ b.written → c.acks ≡ b.acks
    → RunsPieces mode (Err Sink) first now script rest before at a c
session_keeps mode first now line taken script rest a b c before at s same acks =
    complete_by mode Sink first now s.bytes s.front s.final s.bytes [] script rest a b c before at s.ran s.no_stop (sym (append-nil s.bytes)) s.split s.taken_is s.took
    (begins_front mode s.front s.final s.bytes s.ran.exchanges s.split s.ran.lines_are s.no_stop) (λ bs h. h) (omega (arith, s.count, s.few))
    (inr (record { written = same ∙ s.ran.written; lines_are = inl (complete mode s.bytes s.ran.exchanges s.ran.lines_are s.no_stop) })) acks (λ t ls. tt) (λ t g. g)

all_front : (xs ys : List Spoken) → xs ≡ ys → IsFront xs ys
all_front xs ys is = ([], sym is ∙ sym (append-nil xs))

-- ---- after the last line

-- what holds of the state that an end leaves, as what follows from it
ends_as : (end : Option Fault) (s : State) (at to : State → Type 0) → ((t : State) → at t → to t) → Ends end s at → Ends end s to
ends_as None s at to f h = f s h
ends_as (Some Device) s at to f h = leaves_as s at to f h
ends_as (Some (Damaged block)) s at to f h = h
ends_as (Some Source) s at to f h = f s h
ends_as (Some Memory) s at to f h = leaves_as s at to f h
ends_as (Some TooLong) s at to f h = f s h
ends_as (Some (Worn which)) s at to f h = leaves_as s at to f h
ends_as (Some Sink) s at to f h = f s h

-- a fault makes nothing durable
closed_fault : (e : Fault) (now : State → Type 0) (stopped : Bool) (s : State) → now s → ClosedAt (Some e) now stopped s
closed_fault e now stopped s h = record { calls = s.calls; later = omega arith; reached = h }

-- a session that a fault ended
pub session_faulted : (mode : Mode) (e : Fault) (first now : State → Type 0) (script rest : Option (List ℕ)) (a b : Output) (before at : Option Takes)
    → RunsPieces mode (Err e) first now script rest before at a b → Session mode (Some e) first (ClosedAt (Some e) now) (acks_at_end (Some e)) script rest before at a b
session_faulted mode e first now script rest a b before at r =
    let s = r.session in
    record {
      exchanges = s.exchanges;
      answered = s.answered;
      front = s.front;
      final = s.final;
      taken = s.taken;
      taken_is = s.taken_is;
      script_is = s.script_is;
      took = s.took;
      begins = s.begins;
      among_taken = s.among_taken;
      among_script = s.among_script;
      taken_at = s.taken_at;
      read_out = s.read_out;
      replied = s.replied;
      acked = s.acked;
      runs = λ t h. transcript_as t s.exchanges (EndsIn mode (Some e) s.exchanges s.taken script (λ _. now)) _ (s.runs t h)
          (λ u g. record {
            told = g.told;
            told_script = g.told_script;
            reached = ends_as (Some e) u now (ClosedAt (Some e) now (has_stop s.exchanges)) (closed_fault e now (has_stop s.exchanges)) g.reached;
          });
    }

-- a session that executed all lines, and what follows
session_then : (mode : Mode) (end : Option Fault) (flow : ControlFlow (Unit {0}) (Unit {0})) (first mid : State → Type 0) (last : Bool → State → Type 0) (more : Bool → ℕ)
    (script rest : Option (List ℕ)) (a b c : Output) (before at : Option Takes)
    → RunsPieces mode (Ok flow) first mid script rest before at a b → c.written ≡ b.written → HasAcked (more (breaks flow)) b.acks c.acks
    → ((bytes : List ℕ) (xs : List Exchange) → executed xs ≡ lines_to_run mode bytes → Among mode end bytes xs)
    → ((taken : List ℕ) (xs : List Exchange) → length taken ≤ script_limit → TakenAt mode end taken xs)
    → ((xs : List Exchange) (final : List ℕ) → ReadOut None xs final rest → ReadOut end xs final rest)
    → ((front taken : List ℕ) (xs : List Exchange) → c.written ≡ append_known a.written (text xs) → executed xs ≡ lines_to_run mode taken → Replied mode end front taken xs a.written c.written)
    → ((s : State) (done lines : List Spoken) → Tells end s done lines)
    → ((s : State) → mid s → Ends end s (last (breaks flow)))
    → Session mode end first last more script rest before at a c
session_then mode end flow first mid last more script rest a b c before at r same acks among taken_at read replied tells ends =
    let s = r.session in
    record {
      exchanges = s.exchanges;
      answered = s.answered;
      front = s.front;
      final = s.final;
      taken = s.taken;
      taken_is = s.taken_is;
      script_is = s.script_is;
      took = s.took;
      begins = s.begins;
      among_taken = among s.taken s.exchanges s.among_taken;
      among_script = by s.exchanges script s.among_script;
      taken_at = taken_at s.taken s.exchanges s.taken_at;
      read_out = read s.exchanges s.final s.read_out;
      replied = replied s.front s.taken s.exchanges (same ∙ s.replied) s.among_taken;
      acked = acks_as _ _ a.acks c.acks (omega (arith, ap more r.flow))
          (acks_then (durable (executed s.exchanges) + 0) (more (breaks flow)) a.acks b.acks c.acks s.acked acks);
      runs = λ t h. transcript_as t s.exchanges (EndsIn mode None s.exchanges s.taken script (λ _. mid)) _ (s.runs t h)
          (λ u g. record {
            told = tells u (executed s.exchanges) (lines_to_run mode s.taken);
            told_script = each u (executed s.exchanges) script;
            reached = subst (λ k. Ends end u (last k)) r.flow (ends u g.reached);
          });
    }
  where
    by : (xs : List Exchange) (o : Option (List ℕ)) → IfSome o (λ bytes. executed xs ≡ lines_to_run mode bytes) → IfSome o (λ bytes. Among mode end bytes xs)
    by xs None h = tt
    by xs (Some bytes) h = among bytes xs h

    each : (u : State) (done : List Spoken) (o : Option (List ℕ)) → IfSome o (λ bytes. Tells end u done (lines_to_run mode bytes))
    each u done None = tt
    each u done (Some bytes) = tells u done (lines_to_run mode bytes)

-- no more acknowledgements
none_since : (b c : List Ack) → c ≡ b → HasAcked 0 b c
none_since b c same = acks_kept 0 b b c same (acks_none b)

-- the sink's fault where it has to pass on the last replies
pub session_keeps_last : (mode : Mode) (first now : State → Type 0) (flow : ControlFlow (Unit {0}) (Unit {0})) (script rest : Option (List ℕ)) (a b c : Output) (before at : Option Takes)
    → RunsPieces mode (Ok flow) first now script rest before at a b → c.written ≡ b.written → c.acks ≡ b.acks
    → Session mode (Some Sink) first (ClosedAt (Some Sink) now) (acks_at_end (Some Sink)) script rest before at a c
session_keeps_last mode first now flow script rest a b c before at r same acks =
    session_then mode (Some Sink) flow first now (ClosedAt (Some Sink) now) (acks_at_end (Some Sink)) script rest a b c before at r same (none_since b.acks c.acks acks)
    (λ bs xs h. all_front (executed xs) (lines_to_run mode bs) h) (λ taken xs h. h) (λ xs final h. tt)
    (λ front taken xs written lines. inr (record { written = written; lines_are = inr lines })) (λ u done lines. tt) (λ u h. closed_fault Sink now (breaks flow) u h)

-- all was made durable, where no `stop` did so
pub session_closed : (mode : Mode) (first mid now : State → Type 0) (flow : ControlFlow (Unit {0}) (Unit {0})) (script rest : Option (List ℕ)) (a b c : Output) (before at : Option Takes)
    → RunsPieces mode (Ok flow) first mid script rest before at a b → c.written ≡ b.written → HasAcked (acks_at_end None (breaks flow)) b.acks c.acks
    → ((s : State) → mid s → ClosedAt None now (breaks flow) s)
    → Session mode None first (ClosedAt None now) (acks_at_end None) script rest before at a c
session_closed mode first mid now flow script rest a b c before at r same acks closes =
    session_then mode None flow first mid (ClosedAt None now) (acks_at_end None) script rest a b c before at r same acks (λ bs xs h. h)
    (λ taken xs h. h) (λ xs final h. h) (λ front taken xs written lines. written) (λ u done lines. tt) closes

-- the last sync failed
pub session_unclosed : (mode : Mode) (e : Fault) (first mid now : State → Type 0) (flow : ControlFlow (Unit {0}) (Unit {0})) (script rest : Option (List ℕ)) (a b c : Output) (before at : Option Takes)
    → (e ≡ Device) ⊎ (e ≡ Memory) → RunsPieces mode (Ok flow) first mid script rest before at a b → c.written ≡ b.written → c.acks ≡ b.acks
    → ((s : State) → mid s → Later (with_view s s.view) now s)
    → Session mode (Some e) first (ClosedAt (Some e) now) (acks_at_end (Some e)) script rest before at a c
session_unclosed mode e first mid now flow script rest a b c before at (inl is) r same acks stays =
    subst (λ f. Session mode (Some f) first (ClosedAt (Some f) now) (acks_at_end (Some f)) script rest before at a c) (sym is)
    (session_then mode (Some Device) flow first mid (ClosedAt (Some Device) now) (acks_at_end (Some Device)) script rest a b c before at r same (none_since b.acks c.acks acks)
    (λ bs xs h. all_front (executed xs) (lines_to_run mode bs) h) (λ taken xs h. h) (λ xs final h. tt) (λ front taken xs written lines. written) (λ u done lines. tt)
    (λ u h. leaves_as u now (ClosedAt (Some Device) now (breaks flow)) (closed_fault Device now (breaks flow)) (leaves_later u now (stays u h))))
session_unclosed mode e first mid now flow script rest a b c before at (inr is) r same acks stays =
    subst (λ f. Session mode (Some f) first (ClosedAt (Some f) now) (acks_at_end (Some f)) script rest before at a c) (sym is)
    (session_then mode (Some Memory) flow first mid (ClosedAt (Some Memory) now) (acks_at_end (Some Memory)) script rest a b c before at r same (none_since b.acks c.acks acks)
    (λ bs xs h. all_front (executed xs) (lines_to_run mode bs) h) (λ taken xs h. h) (λ xs final h. tt) (λ front taken xs written lines. written) (λ u done lines. tt)
    (λ u h. leaves_as u now (ClosedAt (Some Memory) now (breaks flow)) (closed_fault Memory now (breaks flow)) (leaves_later u now (stays u h))))

-- the last sync, with either end
pub session_close : (mode : Mode) {T : Type 0} (r : Result T Fault) (first mid now : State → Type 0) (flow : ControlFlow (Unit {0}) (Unit {0})) (script rest : Option (List ℕ)) (a b c : Output)
    (before at : Option Takes) → RunsPieces mode (Ok flow) first mid script rest before at a b → c.written ≡ b.written → breaks flow ≡ false
    → OnOk r ((s : State) → mid s → Later (synced_state s) now s) → OnErr r ((s : State) → mid s → Later (with_view s s.view) now s)
    → OnOk r (HasAcked 1 b.acks c.acks) → OnErr r (c.acks ≡ b.acks) → IfErr r (λ e. (e ≡ Device) ⊎ (e ≡ Memory))
    → Session mode (end_of r) first (ClosedAt (end_of r) now) (acks_at_end (end_of r)) script rest before at a c
session_close mode (Ok x) first mid now flow script rest a b c before at s same on ok err acked unacked kind =
    session_closed mode first mid now flow script rest a b c before at s same (subst (λ t. HasAcked (acks_at_end None t) b.acks c.acks) (sym on) acked)
    (λ u h. subst (λ t. ClosedAt None now t u) (sym on) (ok u h))
session_close mode (Err e) first mid now flow script rest a b c before at s same on ok err acked unacked kind =
    session_unclosed mode e first mid now flow script rest a b c before at kind s same unacked err

-- a `stop` made all durable
pub session_stopped : (mode : Mode) (first now : State → Type 0) (flow : ControlFlow (Unit {0}) (Unit {0})) (script rest : Option (List ℕ)) (a b c : Output) (before at : Option Takes)
    → RunsPieces mode (Ok flow) first now script rest before at a b → c.written ≡ b.written → c.acks ≡ b.acks → breaks flow ≡ true
    → Session mode None first (ClosedAt None now) (acks_at_end None) script rest before at a c
session_stopped mode first now flow script rest a b c before at s same acks off =
    session_closed mode first now now flow script rest a b c before at s same (subst (λ t. HasAcked (acks_at_end None t) b.acks c.acks) (sym off) (none_since b.acks c.acks acks))
    (λ u h. subst (λ t. ClosedAt None now t u) (sym off) (record { calls = u.calls; later = omega arith; reached = h }))

-- a byte past the limit
pub session_too_long : (mode : Mode) (first now : State → Type 0) (line piece : List ℕ) (taken : ℕ) (script left rest : Option (List ℕ)) (a b : Output) (before at after : Option Takes)
    → Stands mode first now line taken script left a b before at → taken ≡ script_limit → left ≡ prepend_known piece rest → length piece ≡ 1
    → after ≡ option_map (takes_after piece) at → RunsPieces mode (Err TooLong) first now script rest before after a b
session_too_long mode first now line piece taken script left rest a b before at after s full got one told =
    let is = s.taken_is ∙ ap (prepend_known s.bytes) got ∙ prepend_known-append s.bytes piece rest in
    let cut : take script_limit (s.bytes ++ piece) ≡ s.bytes = ap (λ n. take n (s.bytes ++ piece)) (sym (s.count ∙ full)) ∙ take-append_seam s.bytes piece in
    complete_by mode TooLong first now s.bytes s.bytes piece (s.bytes ++ piece) piece script rest a b b before after s.ran s.no_stop refl refl is
    (took s.bytes piece before at after (omega (arith, one)) s.idle told)
    (begins_with mode s.bytes s.ran.exchanges _ [] s.ran.lines_are (sym (append-nil (meanings mode s.bytes))) s.no_stop) (λ bs h. h) (
      omega (arith, length-append s.bytes piece, s.count, full, one),
      record { lines_are = s.ran.lines_are ∙ ap (meanings mode) (sym cut); no_stop = ap (list_any is_stop) s.ran.lines_are ∙ s.no_stop },
    ) s.ran.written refl (λ t ls. tt) (λ t g. g)

-- what is said of either end of a call, of its end
pub ends_by : {T : Type 0} (P : Result T Fault → Type 0) (A S : Type 0) (F : T → Type 0) (B : Fault → Type 0) (r : Result T Fault) → OnOk r A → IfOk r F
    → IfErr r B → OnErr r S → ((x : T) → A → F x → P (Ok x)) → ((e : Fault) → B e → S → P (Err e)) → P r
ends_by P A S F B (Ok x) ok flow err some f g = f x ok flow
ends_by P A S F B (Err e) ok flow err some f g = g e err some

-- a piece that a source gave, within the limits
pub record Gave (taken size : ℕ) (place : List ℕ) (old new : Option (List ℕ)) (before after : Option Takes) : Type 0 where
  pub long : length (take size place) ≡ size
  pub fits : taken + length (take size place) ≤ script_limit
  pub got : old ≡ prepend_known (take size place) new
  pub some : 0 < length (take size place)
  pub short : length (take size place) ≤ piece_limit
  pub told : after ≡ option_map (takes_after (take size place)) before

pub gave : (t : Taken) (taken size : ℕ) (place : List ℕ) (old new : Option (List ℕ)) (before after : Option Takes) → t ≡ source_gave.Piece size → length place ≡ 4096
    → IsTaken t taken place old new → after ≡ option_map (takes_after (taken_by (Ok t) place)) before → Gave taken size place old new before after
gave t taken size place old new before after is array h told =
    let got : IsTaken (source_gave.Piece size) taken place old new = subst (λ t. IsTaken t taken place old new) is h in
    let long : length (take size place) ≡ size = length-take-le size place (omega (arith, got.1, array)) in
    record {
      long = long;
      fits = omega (arith, got.2, long);
      got = got.3;
      some = omega (arith, got.0, long);
      short = omega (arith, got.1, long);
      told = told ∙ ap (λ t. option_map (takes_after (taken_by (Ok t) place)) before) is;
    }

-- the byte past the limit
pub gave_more : (t : Taken) (taken : ℕ) (place : List ℕ) (old new : Option (List ℕ)) (before after : Option Takes) → t ≡ source_gave.TooLong → length place ≡ 4096
    → IsTaken t taken place old new → after ≡ option_map (takes_after (taken_by (Ok t) place)) before
    → (taken ≡ script_limit) × (old ≡ prepend_known (take 1 place) new) × (length (take 1 place) ≡ 1) × (after ≡ option_map (takes_after (take 1 place)) before)
gave_more t taken place old new before after is array h told =
    let got : IsTaken source_gave.TooLong taken place old new = subst (λ t. IsTaken t taken place old new) is h in
    (got.0, got.1, length-take-le 1 place (omega (arith, array)), told ∙ ap (λ t. option_map (takes_after (taken_by (Ok t) place)) before) is)

-- the end
pub gave_end : (t : Taken) (taken : ℕ) (place : List ℕ) (old new : Option (List ℕ)) (before after : Option Takes) → t ≡ source_gave.End
    → IsTaken t taken place old new → after ≡ option_map (takes_after (taken_by (Ok t) place)) before
    → IsAtEnd old × (new ≡ old) × (after ≡ option_map (takes_after []) before)
gave_end t taken place old new before after is h told =
    let got : IsTaken source_gave.End taken place old new = subst (λ t. IsTaken t taken place old new) is h in
    (got.0, got.1, told ∙ ap (λ t. option_map (takes_after (taken_by (Ok t) place)) before) is)
