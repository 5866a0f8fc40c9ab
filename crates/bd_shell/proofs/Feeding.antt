-- How the lines of a piece are executed, line by line.
use Rattle.std.proofs.Common.{◌≡◌, ℕ, ◌+◌, ◌≤◌, Bool, true, false, cond, List, [], ◌∷◌, ◌++◌, length, take, drop, get_or, refl, sym, ap, subst, ◌∙◌, append_assoc, arith, nat_eq, drop-cons, add-one}
use Rattle.std.specs.Prelude.{map, MatchOption, not, ◌||◌, ◌==◌, ltb}
use Rattle.std.specs.List.{list_any, position, position_or_len}
use Rattle.std.specs.declared.option.Option.{Option}
use Rattle.std.specs.declared.option.Option.TheVariants.{None, Some}
use Rattle.std.specs.declared.ops.ControlFlow.{ControlFlow}
use Rattle.std.specs.declared.ops.ControlFlow.TheVariants.{Continue, Break}
use Rattle.bd_io.specs.Written.{WrotePart}
use Rattle.bd_node.proofs.Lookup.{each_both}
use Rattle.std.proofs.lemmas.List.{append-nil, map-append, take-append-drop, get_or-take, length-take}
use Rattle.std.proofs.lemmas.List.Folds.{list_any-append}
use Rattle.std.proofs.lemmas.List.Quantifiers.{position-Some}
use Rattle.std.proofs.lemmas.List.Elements.{All-take, All-append, All-nil, All-cons, All-from_get_or}
use Rattle.std.proofs.lemmas.Bool.{eqb-true, ltb-false}
use Rattle.bd_script.specs.Lines.{HasNoNewline, held_limit, whole_lines, open_line, held, is_empty}
use Rattle.bd_script.proofs.CutLines.{no_newline-open_line, whole_lines-newline, open_line-newline, whole_lines-more, open_line-more, whole_lines-none, open_line-none, held-append}
use Rattle.bd_sessions.specs.Replies.{said_line}
use Rattle.bd_sessions.specs.Spoken.{Mode, Spoken, is_stop, spoken, up_to_stop}
use Rattle.bd_shell.specs.declared.fault.Fault.{Fault}
use Rattle.bd_shell.specs.declared.fault.Fault.TheVariants.{Device, Damaged, Source, Memory, TooLong, Worn, Sink}
use Rattle.bd_shell.specs.Transcript.{Output, State, Exchange, IsAnswered, HasAcked, durable, executed, meanings}
use Rattle.bd_shell.specs.Session.{Executes, HasNext, Leaves, breaks}
use Rattle.bd_shell.specs.Shell.{completed, IsHeld, CutsAt, HasMore, RunFails, BreaksOff}
use Rattle.bd_shell.proofs.Transcripts.{up_to_stop-none, up_to_stop-append, executed-append, transcript_one, transcript_more, transcript_as}
use Rattle.bd_shell.proofs.Acks.{acks_kept, acks_joined}
use Rattle.bd_shell.proofs.Executes.{executes_more, executes_as, executes_acked}
use Rattle.bd_shell.proofs.Held.{spoken-front}
use Rattle.bd_shell.proofs.Left.{leaves_worn}

-- what is held has no newline
pub held_plain : (line : List ℕ) → IsHeld line → HasNoNewline line
held_plain line h = subst HasNoNewline h (All-take (λ k. nat_eq k 10 ≡ false) 8193 (open_line line) (no_newline-open_line line))

-- ---- a line more

-- some bytes, then bytes without a newline, and a newline: a line more is complete
pub record OneMore (mode : Mode) (fed x : List ℕ) : Type 0 where
  pub lines : meanings mode ((fed ++ x) ++ 10 ∷ []) ≡ meanings mode fed ++ spoken mode (held (open_line fed) ++ x) ∷ []
  pub opened : open_line ((fed ++ x) ++ 10 ∷ []) ≡ []

-- bytes without a newline go on with what stands open
pub plain_more : (fed x : List ℕ) → HasNoNewline x → (whole_lines (fed ++ x) ≡ whole_lines fed) × (open_line (fed ++ x) ≡ open_line fed ++ x)
plain_more fed x plain =
    let all : HasNoNewline (open_line fed ++ x) = All-append (λ k. nat_eq k 10 ≡ false) (open_line fed) x (no_newline-open_line fed) plain in (
      whole_lines-more fed x ∙ ap (λ l. whole_lines fed ++ l) (whole_lines-none (open_line fed ++ x) all) ∙ append-nil (whole_lines fed),
      open_line-more fed x ∙ open_line-none (open_line fed ++ x) all,
    )

pub one_more : (mode : Mode) (fed x : List ℕ) → HasNoNewline x → OneMore mode fed x
one_more mode fed x plain =
    let more = plain_more fed x plain in
    record {
      lines = ap (map (spoken mode)) (whole_lines-newline (fed ++ x)) ∙ map-append (spoken mode) (whole_lines (fed ++ x)) (open_line (fed ++ x) ∷ [])
          ∙ ap (λ l. map (spoken mode) l ++ spoken mode (open_line (fed ++ x)) ∷ []) more.0
          ∙ ap (λ l. meanings mode fed ++ l ∷ []) (ap (spoken mode) more.1 ∙ sym (spoken-front mode (open_line fed) x));
      opened = open_line-newline (fed ++ x);
    }

-- what is said of no value, where there is none
pub at_none : {A : Type 0} {P : Type 0} (Q : A → Type 0) (o : Option A) → MatchOption o P Q → ((x : A) → o ≡ Some x → ⊥) → P
at_none Q None h none = h
at_none Q (Some x) h none = absurd (none x refl)

pub not_break : (flow : ControlFlow (Unit {0}) (Unit {0})) → ((b : Unit {0}) → flow ≡ Break b → ⊥) → breaks flow ≡ false
not_break (Continue c) h = refl
not_break (Break b) h = absurd (h b refl)

-- ---- where a piece stands

-- a piece of which a front was fed, its complete lines executed, and what of the next one is held
pub record FedTo (mode : Mode) (first now : State → Type 0) (begun piece rest line : List ℕ) (old new : Output) : Type 0 where
  pub front : List ℕ
  pub piece_is : piece ≡ front ++ rest
  pub no_stop : list_any is_stop (meanings mode (begun ++ front)) ≡ false
  pub line_is : line ≡ held (open_line (begun ++ front))
  pub ran : Executes first now (meanings mode (begun ++ front)) old new

pub fed_none : (mode : Mode) (first : State → Type 0) (begun piece : List ℕ) (w : Output) → IsHeld begun
    → Executes first first [] w w → FedTo mode first first begun piece piece begun w w
fed_none mode first begun piece w held_is none =
    let empty : meanings mode (begun ++ []) ≡ [] = ap (meanings mode) (append-nil begun) ∙ ap (map (spoken mode)) (whole_lines-none begun (held_plain begun held_is)) in
    record {
      front = [];
      piece_is = refl;
      no_stop = ap (list_any is_stop) empty;
      line_is = sym (ap (λ l. held (open_line l)) (append-nil begun) ∙ held_is);
      ran = executes_as first first [] (meanings mode (begun ++ [])) w w (sym empty) none;
    }

pub cuts_at : (rest : List ℕ) (i : ℕ) → position (λ b. b == 10) rest ≡ Some i → CutsAt rest (take i rest) (drop (i + 1) rest)
cuts_at rest i found =
    let at = position-Some (λ b. b == 10) rest i 0 found in
    record {
      bytes_are = sym (take-append-drop i rest) ∙ ap (λ l. take i rest ++ l) (drop-cons rest i 0 at.0 ∙ ap (λ n. get_or rest i 0 ∷ drop n rest) (sym (add-one i)) ∙ ap (λ b. b ∷ drop (i + 1) rest) (eqb-true (get_or rest i 0) 10 at.1));
      plain = All-from_get_or (λ b. nat_eq b 10 ≡ false) (take i rest) 0
          (λ k below. ap (λ b. nat_eq b 10) (get_or-take i rest k 0 (omega (arith, length-take i rest, below))) ∙ at.2 k (omega (arith, length-take i rest, below)));
    }

plain_by : (t : Bool) (x : ℕ) (xs : List ℕ) → nat_eq x 10 ≡ t → (length xs ≤ position_or_len (λ b. b == 10) xs → HasNoNewline xs)
    → length (x ∷ xs) ≤ cond (not t) (1 + position_or_len (λ b. b == 10) xs) 0 → HasNoNewline (x ∷ xs)
plain_by true x xs e rest h = absurd (omega arith)
plain_by false x xs e rest h = All-cons (λ b. nat_eq b 10 ≡ false) x xs e (rest (omega arith))

plain_from : (xs : List ℕ) → length xs ≤ position_or_len (λ b. b == 10) xs → HasNoNewline xs
plain_from [] h = All-nil (λ b. nat_eq b 10 ≡ false)
plain_from (x ∷ xs) h = plain_by (nat_eq x 10) x xs refl (plain_from xs) h

-- no newline is found
pub plain_rest : (xs : List ℕ) → position (λ b. b == 10) xs ≡ None → HasNoNewline xs
plain_rest xs none = plain_from xs (ltb-false (position_or_len (λ b. b == 10) xs) (length xs) (by (ltb (position_or_len (λ b. b == 10) xs) (length xs)) (position_or_len (λ b. b == 10) xs) none))
  where
    by : (t : Bool) (n : ℕ) → cond t (Some n) None ≡ None → t ≡ false
    by true n h = cc
    by false n h = refl

pub neither : (a b : Bool) → a ≡ false → b ≡ false → (a || b) ≡ false
neither true b e f = e
neither false b e f = f

pub either : (a b : Bool) → b ≡ true → (a || b) ≡ true
either true b e = refl
either false b e = e

-- ---- the line that a newline completes

-- the fed bytes with a line more, and what follows of the piece
pub record NextLine (mode : Mode) (begun piece front x tail line : List ℕ) : Type 0 where
  pub piece_is : piece ≡ (front ++ (x ++ 10 ∷ [])) ++ tail
  pub lines : meanings mode (begun ++ (front ++ (x ++ 10 ∷ []))) ≡ meanings mode (begun ++ front) ++ spoken mode (line ++ x) ∷ []
  pub opened : open_line (begun ++ (front ++ (x ++ 10 ∷ []))) ≡ []
  pub all : (more : List Spoken) × (meanings mode (begun ++ piece) ≡ meanings mode (begun ++ front) ++ spoken mode (line ++ x) ∷ more)

pub next_line : (mode : Mode) (begun piece front rest x tail line : List ℕ) → piece ≡ front ++ rest → CutsAt rest x tail → line ≡ held (open_line (begun ++ front))
    → NextLine mode begun piece front x tail line
next_line mode begun piece front rest x tail line is cut line_is =
    let fed : List ℕ = begun ++ front in
    let joined : begun ++ (front ++ (x ++ 10 ∷ [])) ≡ (fed ++ x) ++ 10 ∷ [] =
    ap (λ l. begun ++ l) (sym (append_assoc front x (10 ∷ []))) ∙ sym (append_assoc begun (front ++ x) (10 ∷ []))
    ∙ ap (λ l. l ++ 10 ∷ []) (sym (append_assoc begun front x)) in
    let one : OneMore mode fed x = one_more mode fed x cut.plain in
    let lines : meanings mode (begun ++ (front ++ (x ++ 10 ∷ []))) ≡ meanings mode fed ++ spoken mode (line ++ x) ∷ [] =
    ap (meanings mode) joined ∙ one.lines ∙ ap (λ l. meanings mode fed ++ spoken mode (l ++ x) ∷ []) (sym line_is) in
    let cut_is : piece ≡ (front ++ (x ++ 10 ∷ [])) ++ tail =
    is ∙ ap (λ l. front ++ l) (cut.bytes_are ∙ sym (append_assoc x (10 ∷ []) tail)) ∙ sym (append_assoc front (x ++ 10 ∷ []) tail) in
    let after : List ℕ = begun ++ (front ++ (x ++ 10 ∷ [])) in
    record {
      piece_is = cut_is;
      lines = lines;
      opened = ap open_line joined ∙ one.opened;
      all = (
        meanings mode (open_line after ++ tail),
        ap (λ l. meanings mode (begun ++ l)) cut_is ∙ ap (meanings mode) (sym (append_assoc begun (front ++ (x ++ 10 ∷ [])) tail))
            ∙ ap (map (spoken mode)) (whole_lines-more after tail) ∙ map-append (spoken mode) (whole_lines after) (whole_lines (open_line after ++ tail))
            ∙ ap (λ l. l ++ meanings mode (open_line after ++ tail)) lines
            ∙ append_assoc (meanings mode fed) (spoken mode (line ++ x) ∷ []) (meanings mode (open_line after ++ tail)),
      );
    }

-- the line isn't `stop`, and the piece goes on
pub fed_more : (mode : Mode) (first mid now : State → Type 0) (begun piece rest x tail line line2 : List ℕ) (a b c : Output)
    → (at : FedTo mode first mid begun piece rest line a b) → CutsAt rest x tail → is_stop (spoken mode (line ++ x)) ≡ false → line2 ≡ []
    → Executes mid now (spoken mode (line ++ x) ∷ []) b c → FedTo mode first now begun piece tail line2 a c
fed_more mode first mid now begun piece rest x tail line line2 a b c at cut goes_on line2_is runs =
    let next = next_line mode begun piece at.front rest x tail line at.piece_is cut at.line_is in
    record {
      front = at.front ++ (x ++ 10 ∷ []);
      piece_is = next.piece_is;
      no_stop = ap (list_any is_stop) next.lines ∙ list_any-append is_stop (meanings mode (begun ++ at.front)) (spoken mode (line ++ x) ∷ [])
          ∙ neither _ _ at.no_stop (neither (is_stop (spoken mode (line ++ x))) false goes_on refl);
      line_is = line2_is ∙ ap held (sym next.opened);
      ran = executes_as first now _ _ a c (sym next.lines) (executes_more first mid now (meanings mode (begun ++ at.front)) (spoken mode (line ++ x) ∷ []) a b c at.ran runs);
    }

-- what stands up to the `stop` of all, where the lines so far have none
upto : (mode : Mode) (begun piece front line x : List ℕ) (more : List Spoken) → list_any is_stop (meanings mode (begun ++ front)) ≡ false
    → meanings mode (begun ++ piece) ≡ meanings mode (begun ++ front) ++ spoken mode (line ++ x) ∷ more
    → up_to_stop (meanings mode (begun ++ piece)) ≡ meanings mode (begun ++ front) ++ up_to_stop (spoken mode (line ++ x) ∷ more)
upto mode begun piece front line x more none all = ap up_to_stop all ∙ up_to_stop-append (meanings mode (begun ++ front)) (spoken mode (line ++ x) ∷ more) none

stop_alone : (l : Spoken) (more : List Spoken) → is_stop l ≡ true → up_to_stop (l ∷ more) ≡ l ∷ []
stop_alone l more stops = ap (λ (t : Bool). l ∷ cond t [] (up_to_stop more)) stops

-- the line is `stop`, and ends the piece
pub record Stopped (mode : Mode) (begun piece front x line : List ℕ) : Type 0 where
  pub lines : up_to_stop (meanings mode (begun ++ piece)) ≡ meanings mode (begun ++ front) ++ spoken mode (line ++ x) ∷ []
  pub stop : list_any is_stop (meanings mode (begun ++ piece)) ≡ true

pub fed_stops : (mode : Mode) (begun piece front rest x tail line : List ℕ) → piece ≡ front ++ rest → CutsAt rest x tail → line ≡ held (open_line (begun ++ front))
    → list_any is_stop (meanings mode (begun ++ front)) ≡ false → is_stop (spoken mode (line ++ x)) ≡ true → Stopped mode begun piece front x line
fed_stops mode begun piece front rest x tail line is cut line_is none stops =
    let next = next_line mode begun piece front rest x tail line is cut line_is in
    record {
      lines = upto mode begun piece front line x next.all.0 none next.all.1 ∙ ap (λ l. meanings mode (begun ++ front) ++ l) (stop_alone (spoken mode (line ++ x)) next.all.0 stops);
      stop = ap (list_any is_stop) next.all.1 ∙ list_any-append is_stop (meanings mode (begun ++ front)) (spoken mode (line ++ x) ∷ next.all.0)
          ∙ either _ _ (ap (λ (t : Bool). t || list_any is_stop next.all.0) stops);
    }

pub stops_fed : (mode : Mode) (first mid now : State → Type 0) (begun piece rest x tail line : List ℕ) (a b c : Output)
    → FedTo mode first mid begun piece rest line a b → CutsAt rest x tail → is_stop (spoken mode (line ++ x)) ≡ true
    → Executes mid now (spoken mode (line ++ x) ∷ []) b c → Executes first now (completed mode begun piece) a c
stops_fed mode first mid now begun piece rest x tail line a b c at cut stops runs =
    executes_as first now _ _ a c (sym (fed_stops mode begun piece at.front rest x tail line at.piece_is cut at.line_is at.no_stop stops).lines)
    (executes_more first mid now (meanings mode (begun ++ at.front)) (spoken mode (line ++ x) ∷ []) a b c at.ran runs)

-- no newline is left, and what is left is held
pub record Ended (mode : Mode) (begun piece rest line line2 : List ℕ) : Type 0 where
  pub lines : (front : List ℕ) × (piece ≡ front ++ rest) × (meanings mode (begun ++ piece) ≡ meanings mode (begun ++ front))
  pub no_stop : list_any is_stop (meanings mode (begun ++ piece)) ≡ false
  pub line_is : line2 ≡ held (open_line (begun ++ piece))

pub fed_ends : (mode : Mode) (first now : State → Type 0) (begun piece rest line line2 : List ℕ) (a b : Output) → FedTo mode first now begun piece rest line a b
    → HasNoNewline rest → line2 ≡ held (line ++ rest) → Ended mode begun piece rest line line2
fed_ends mode first now begun piece rest line line2 a b at plain is =
    let joined : begun ++ piece ≡ (begun ++ at.front) ++ rest = ap (λ l. begun ++ l) at.piece_is ∙ sym (append_assoc begun at.front rest) in
    let more = plain_more (begun ++ at.front) rest plain in
    let lines : meanings mode (begun ++ piece) ≡ meanings mode (begun ++ at.front) = ap (meanings mode) joined ∙ ap (map (spoken mode)) more.0 in
    record {
      lines = (at.front, at.piece_is, lines);
      no_stop = ap (list_any is_stop) lines ∙ at.no_stop;
      line_is = is ∙ ap (λ l. held (l ++ rest)) at.line_is ∙ held-append (open_line (begun ++ at.front)) rest ∙ sym (ap held (ap open_line joined ∙ more.1));
    }

pub ends_fed : (mode : Mode) (first now : State → Type 0) (begun piece rest line : List ℕ) (a b : Output) → FedTo mode first now begun piece rest line a b
    → HasNoNewline rest → Executes first now (completed mode begun piece) a b
ends_fed mode first now begun piece rest line a b at plain =
    let end = fed_ends mode first now begun piece rest line (held (line ++ rest)) a b at plain refl in
    let joined : begun ++ piece ≡ (begun ++ at.front) ++ rest = ap (λ l. begun ++ l) at.piece_is ∙ sym (append_assoc begun at.front rest) in
    let lines : meanings mode (begun ++ piece) ≡ meanings mode (begun ++ at.front) = ap (meanings mode) joined ∙ ap (map (spoken mode)) (plain_more (begun ++ at.front) rest plain).0 in
    executes_as first now _ _ a b (sym (up_to_stop-none (meanings mode (begun ++ piece)) end.no_stop ∙ lines)) at.ran

-- ---- faults

-- of a fed piece bytes are left
more_fed : (mode : Mode) (first mid : State → Type 0) (begun piece rest line : List ℕ) (a b : Output) → (at : FedTo mode first mid begun piece rest line a b)
    → is_empty rest ≡ false → HasMore mode begun piece at.ran.exchanges
more_fed mode first mid begun piece rest line a b at some = record {
  front = at.front;
  rest = rest;
  piece_is = at.piece_is;
  lines_are = at.ran.lines_are;
  no_stop = at.no_stop;
  some = some;
}

-- the acknowledgements of what was executed, and none since
acked_fed : (first mid : State → Type 0) (ls : List Spoken) (a b c : Output) → (x : Executes first mid ls a b) → c.acks ≡ b.acks
    → HasAcked (durable (executed x.exchanges)) a.acks c.acks
acked_fed first mid ls a b c x acks = acks_kept (durable (executed x.exchanges)) a.acks b.acks c.acks acks (executes_acked first mid ls a b x)

-- want of memory while bytes are left
pub memory_fed : (mode : Mode) (first mid now : State → Type 0) (begun piece rest line : List ℕ) (a b c : Output) → FedTo mode first mid begun piece rest line a b
    → is_empty rest ≡ false → c.written ≡ b.written → c.acks ≡ b.acks → ((t : State) → mid t → Leaves t now) → BreaksOff mode Memory first now begun piece a c
memory_fed mode first mid now begun piece rest line a b c at some same acks stays = record {
  exchanges = at.ran.exchanges;
  answered = at.ran.answered;
  halts = more_fed mode first mid begun piece rest line a b at some;
  replied = same ∙ at.ran.written;
  acked = acked_fed first mid _ a b c at.ran acks;
  runs = λ s h. transcript_as s at.ran.exchanges mid _ (at.ran.runs s h) (λ t g. record { told = tt; reached = stays t g });
}

-- the device's fault while bytes are left
device_fed : (mode : Mode) (first mid now : State → Type 0) (begun piece rest line : List ℕ) (a b c : Output) → FedTo mode first mid begun piece rest line a b
    → is_empty rest ≡ false → c.written ≡ b.written → c.acks ≡ b.acks → ((t : State) → mid t → Leaves t now) → BreaksOff mode Device first now begun piece a c
device_fed mode first mid now begun piece rest line a b c at some same acks stays = record {
  exchanges = at.ran.exchanges;
  answered = at.ran.answered;
  halts = more_fed mode first mid begun piece rest line a b at some;
  replied = same ∙ at.ran.written;
  acked = acked_fed first mid _ a b c at.ran acks;
  runs = λ s h. transcript_as s at.ran.exchanges mid _ (at.ran.runs s h) (λ t g. record { told = tt; reached = stays t g });
}

cut_some : (x tail : List ℕ) → is_empty (x ++ 10 ∷ tail) ≡ false
cut_some [] tail = refl
cut_some (b ∷ x) tail = refl

-- lines that stand before a line more, up to the `stop` of all
pub record Before (mode : Mode) (begun piece x line : List ℕ) (done : List Spoken) : Type 0 where
  pub rest : List Spoken
  pub lines_are : completed mode begun piece ≡ done ++ spoken mode (line ++ x) ∷ rest

before_next : (mode : Mode) (first mid : State → Type 0) (begun piece rest x tail line : List ℕ) (a b : Output) → (at : FedTo mode first mid begun piece rest line a b)
    → CutsAt rest x tail → Before mode begun piece x line (executed at.ran.exchanges)
before_next mode first mid begun piece rest x tail line a b at cut =
    let next = next_line mode begun piece at.front rest x tail line at.piece_is cut at.line_is in
    let rest_of : List Spoken = cond (is_stop (spoken mode (line ++ x))) [] (up_to_stop next.all.0) in
    record {
      rest = rest_of;
      lines_are = upto mode begun piece at.front line x next.all.0 at.no_stop next.all.1 ∙ ap (λ l. l ++ spoken mode (line ++ x) ∷ rest_of) (sym at.ran.lines_are);
    }

-- a fault at a line
pub fails_fed : (mode : Mode) (e : Fault) (first mid now : State → Type 0) (begun piece rest x tail line : List ℕ) (a b c : Output)
    → FedTo mode first mid begun piece rest line a b → CutsAt rest x tail → RunFails e mid now (spoken mode (line ++ x)) b c
    → BreaksOff mode e first now begun piece a c
fails_fed mode Device first mid now begun piece rest x tail line a b c at cut fails =
    device_fed mode first mid now begun piece rest line a b c at (ap is_empty cut.bytes_are ∙ cut_some x tail) fails.unwritten fails.unacked
    (λ t g. (spoken mode (line ++ x), fails.leaves t g))
fails_fed mode (Damaged block) first mid now begun piece rest x tail line a b c at cut fails = record {
  exchanges = at.ran.exchanges;
  answered = at.ran.answered;
  halts = more_fed mode first mid begun piece rest line a b at (ap is_empty cut.bytes_are ∙ cut_some x tail);
  replied = fails.unwritten ∙ at.ran.written;
  acked = acked_fed first mid _ a b c at.ran fails.unacked;
  runs = λ s h. transcript_as s at.ran.exchanges mid _ (at.ran.runs s h) (λ t g. absurd (fails.leaves t g));
}
fails_fed mode Source first mid now begun piece rest x tail line a b c at cut fails = absurd fails
fails_fed mode Memory first mid now begun piece rest x tail line a b c at cut fails =
    memory_fed mode first mid now begun piece rest line a b c at (ap is_empty cut.bytes_are ∙ cut_some x tail) fails.unwritten fails.unacked
    (λ t g. (spoken mode (line ++ x), fails.leaves t g))
fails_fed mode TooLong first mid now begun piece rest x tail line a b c at cut fails = absurd fails
fails_fed mode (Worn which) first mid now begun piece rest x tail line a b c at cut fails =
    let before = before_next mode first mid begun piece rest x tail line a b at cut in
    let has : HasNext (spoken mode (line ++ x)) (executed at.ran.exchanges) (completed mode begun piece) = record { rest = before.rest; lines_are = before.lines_are } in
    record {
      exchanges = at.ran.exchanges;
      answered = at.ran.answered;
      halts = (spoken mode (line ++ x), has);
      replied = fails.unwritten ∙ at.ran.written;
      acked = acked_fed first mid _ a b c at.ran fails.unacked;
      runs = λ s h. transcript_as s at.ran.exchanges mid _ (at.ran.runs s h) (λ t g. let wore = fails.leaves t g in
          record {
            told = record { next = spoken mode (line ++ x); has = has; left = wore.left; worn = wore.worn };
            reached = leaves_worn which t (spoken mode (line ++ x)) now wore;
          });
    }
fails_fed mode Sink first mid now begun piece rest x tail line a b c at cut fails =
    let before = before_next mode first mid begun piece rest x tail line a b at cut in
    let last : Exchange = record { line = spoken mode (line ++ x); said = fails.said } in
    record {
      exchanges = at.ran.exchanges ++ last ∷ [];
      answered = each_both IsAnswered at.ran.exchanges (last ∷ []) at.ran.answered ((fails.answer, fails.one_line), tt);
      halts = (
        before.rest,
        before.lines_are ∙ sym (append_assoc (executed at.ran.exchanges) (spoken mode (line ++ x) ∷ []) before.rest)
            ∙ ap (λ l. l ++ before.rest) (sym (executed-append at.ran.exchanges (last ∷ []))),
      );
      replied = record { front = at.ran.exchanges; last = last; exchanges_are = refl; part = subst (λ w. WrotePart (said_line last.line.client fails.said) w c.written) at.ran.written fails.part };
      acked = acks_joined at.ran.exchanges (last ∷ []) a.acks b.acks c.acks (executes_acked first mid _ a b at.ran) fails.acked;
      runs = λ s h. transcript_as s (at.ran.exchanges ++ last ∷ []) now _
          (transcript_more s at.ran.exchanges (last ∷ []) mid now (at.ran.runs s h) (λ t g. transcript_one t (spoken mode (line ++ x)) fails.said now (fails.replies t g)))
          (λ t g. record { told = tt; reached = g });
    }

-- what is held is short
pub fed_short : (line bytes : List ℕ) → line ≡ held (open_line bytes) → length line ≤ held_limit
fed_short line bytes is = omega (arith, ap length is, length-take held_limit (open_line bytes))
