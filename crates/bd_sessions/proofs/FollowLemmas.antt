-- What the model keeps of handles leads to what the numbers stand for.
use Rattle.std.proofs.Common.{◌≡◌, ◌≢◌, ℕ, zero, suc, Bool, true, false, cond, List, [], ◌∷◌, ◌++◌, map, refl, sym, ap, ◌∙◌}
use Rattle.std.specs.Prelude.{slice_set, ◌&&◌}
use Rattle.std.specs.List.{position}
use Rattle.std.specs.Option.{option_and_then}
use Rattle.std.specs.declared.option.Option.{Option}
use Rattle.std.specs.declared.option.Option.TheVariants.{None, Some}
use Rattle.std.proofs.lemmas.List.{map-set, set-get_or}
use Rattle.bd_command.specs.Command.{writes, is_done}
use Rattle.bd_command.specs.declared.Command.{Command}
use Rattle.bd_command.specs.declared.reply.Reply.{Reply}
use Rattle.bd_command.specs.declared.reply.Reply.TheVariants as reply
use Rattle.bd_model.specs.Tree.{Path}
use Rattle.bd_script.specs.declared.replies.LineReply.TheVariants as line_reply
use Rattle.bd_sessions.specs.declared.asking.Ask.{Ask}
use Rattle.bd_sessions.specs.declared.asking.Ask.TheVariants as ask
use Rattle.bd_sessions.specs.declared.asking.SessionReply.{SessionReply}
use Rattle.bd_sessions.specs.declared.asking.SessionReply.TheVariants as said
use Rattle.bd_sessions.specs.declared.handle.Handle.{Handle}
use Rattle.bd_sessions.specs.declared.handle.Handle.TheVariants.{Free, At, Gone}
use Rattle.bd_sessions.specs.declared.turn.Turn.{Turn}
use Rattle.bd_sessions.specs.declared.turn.Turn.TheVariants as turn
use Rattle.bd_sessions.specs.Following.{followed, follow}
use Rattle.bd_sessions.specs.Handles.{Table, Tables, Opening, Row, Kept, own, row_of, handle_at, table_in, tables_in, opening_at, handle_of, stands_for, one_more, followed_handle, followed_tables, heard}
use Rattle.bd_sessions.specs.Sessions.{asked, closing, after_turn, prepared, waits_on, settled, Opens, is_free, opened_at, opened_in}
use Rattle.bd_sessions.specs.Telling.{open_said, opened_row, opened_kept, turn_said, turn_kept, closed_row, closed_kept}
use Rattle.bd_sessions.proofs.StepLemmas.{still_tables, reading_still}

-- ---- one more command

follow-more : (path : Path) (cs : List Command) (c : Command) → follow path (cs ++ c ∷ []) ≡ option_and_then (followed c) (follow path cs)
follow-more path [] c = by (followed c path)
  where
    by : (o : Option Path) → option_and_then (λ p. Some p) o ≡ o
    by None = refl
    by (Some p) = refl
follow-more path (d ∷ cs) c = by (followed d path) (λ p. follow-more p cs c)
  where
    by : (o : Option Path) → ((p : Path) → follow p (cs ++ c ∷ []) ≡ option_and_then (followed c) (follow p cs))
        → option_and_then (λ p. follow p (cs ++ c ∷ [])) o ≡ option_and_then (followed c) (option_and_then (λ p. follow p cs) o)
    by None h = refl
    by (Some p) h = h p

handle_of-followed : (c : Command) (o : Option Path) → handle_of (option_and_then (followed c) o) ≡ followed_handle c (handle_of o)
handle_of-followed c None = refl
handle_of-followed c (Some p) = refl

pub stands_for-one_more : (c : Command) (o : Option Opening) → stands_for (one_more c o) ≡ followed_handle c (stands_for o)
stands_for-one_more c None = refl
stands_for-one_more c (Some o) = ap handle_of (follow-more o.path o.since c) ∙ handle_of-followed c (follow o.path o.since)

pub row-one_more : (c : Command) (row : Row) → map stands_for (map (one_more c) row) ≡ map (followed_handle c) (map stands_for row)
row-one_more c [] = refl
row-one_more c (o ∷ row) =
    ap (λ h. h ∷ map stands_for (map (one_more c) row)) (stands_for-one_more c o)
    ∙ ap (λ t. followed_handle c (stands_for o) ∷ t) (row-one_more c row)

pub tables-one_more : (c : Command) (kept : Kept) → tables_in (map (map (one_more c)) kept) ≡ followed_tables c (tables_in kept)
tables-one_more c [] = refl
tables-one_more c (row ∷ kept) =
    ap (λ t. t ∷ tables_in (map (map (one_more c)) kept)) (row-one_more c row)
    ∙ ap (λ ts. map (followed_handle c) (map stands_for row) ∷ ts) (tables-one_more c kept)

-- ---- the tables of what is kept

pub own-tables_in : (client : ℕ) (kept : Kept) → own client (tables_in kept) ≡ table_in kept client
own-tables_in client [] = refl
own-tables_in zero (row ∷ kept) = refl
own-tables_in (suc client) (row ∷ kept) = own-tables_in client kept

-- a client's own table, put back as it is
pub own_same : (client : ℕ) (tables : Tables) → slice_set tables client (own client tables) ≡ tables
own_same client tables = set-get_or tables client []

-- a row that is put back, as its tables
put_row : (client : ℕ) (row : Row) (kept : Kept) → tables_in (slice_set kept client row) ≡ slice_set (tables_in kept) client (map stands_for row)
put_row client row kept = map-set (map stands_for) kept client row

closed_table : (t : Turn) (row : Row) → after_turn t (map stands_for row) ≡ map stands_for (closed_row t row)
closed_table (turn.Plain l) row = refl
closed_table (turn.Open path) row = refl
closed_table (turn.Read handle off len) row = refl
closed_table (turn.Write handle off bytes) row = refl
closed_table (turn.Stat handle) row = refl
closed_table (turn.Close handle) row = sym (map-set stands_for row handle None)

-- a turn that closes a handle
pub prepared-closed : (client : ℕ) (t : Turn) (kept : Kept) → prepared client t (tables_in kept) ≡ tables_in (closed_kept client t kept)
prepared-closed client t kept =
    ap (λ table. slice_set (tables_in kept) client (after_turn t table)) (own-tables_in client kept)
    ∙ ap (slice_set (tables_in kept) client) (closed_table t (row_of client kept))
    ∙ sym (put_row client (closed_row t (row_of client kept)) kept)

free_same : (table : Table) (number : ℕ) → closing (handle_at table number) ≢ ask.Closed → slice_set table number Free ≡ table
free_same table number h = ap (slice_set table number) (by (handle_at table number) h) ∙ set-get_or table number Free
  where
    by : (o : Handle) → closing o ≢ ask.Closed → Free ≡ o
    by Free h = refl
    by (At path) h = absurd (h refl)
    by Gone h = absurd (h refl)

after_same : (t : Turn) (table : Table) → asked table t ≢ ask.Closed → after_turn t table ≡ table
after_same (turn.Plain l) table h = refl
after_same (turn.Open path) table h = refl
after_same (turn.Read handle off len) table h = refl
after_same (turn.Write handle off bytes) table h = refl
after_same (turn.Stat handle) table h = refl
after_same (turn.Close handle) table h = free_same table handle h

-- a turn that closes none
pub prepared-stays : (client : ℕ) (t : Turn) (tables : Tables) → asked (own client tables) t ≢ ask.Closed → prepared client t tables ≡ tables
prepared-stays client t tables h = ap (slice_set tables client) (after_same t (own client tables) h) ∙ own_same client tables

-- the same of what is kept
same_prepared : (client : ℕ) (t : Turn) (kept : Kept) → asked (table_in kept client) t ≢ ask.Closed → prepared client t (tables_in kept) ≡ tables_in kept
same_prepared client t kept h =
    prepared-stays client t (tables_in kept) (λ e. h (ap (λ table. asked table t) (sym (own-tables_in client kept)) ∙ e))

-- ---- what a reply does

-- a command that was replied to
runs_kept : (c : Command) (r : Reply) (kept : Kept) → cond (is_done r) (followed_tables c (tables_in kept)) (tables_in kept) ≡ tables_in (heard c (line_reply.Command r) kept)
runs_kept c r kept = by (writes c) (is_done r) refl
  where
    by : (w d : Bool) → writes c ≡ w → cond d (followed_tables c (tables_in kept)) (tables_in kept) ≡ tables_in (cond (w && d) (map (map (one_more c)) kept) kept)
    by true true e = sym (tables-one_more c kept)
    by true false e = refl
    by false true e = still_tables c (reading_still c e) (tables_in kept)
    by false false e = refl

-- a file that was opened
opened_table : (path : Path) (o : Option ℕ) (row : Row) → (opened_at path o (map stands_for row)).1 ≡ map stands_for (opened_row path (opened_at path o (map stands_for row)).0 row)
opened_table path None row = refl
opened_table path (Some number) row = sym (map-set stands_for row number (opening_at path))

opened_in_table : (path : Path) (r : Reply) (row : Row) → (opened_in path r (map stands_for row)).1 ≡ map stands_for (opened_row path (opened_in path r (map stands_for row)).0 row)
opened_in_table path reply.Done row = refl
opened_in_table path (reply.Bytes bytes) row = refl
opened_in_table path (reply.Dir mode) row = refl
opened_in_table path (reply.File len mode) row = opened_table path (position is_free (map stands_for row)) row
opened_in_table path (reply.Names listing) row = refl
opened_in_table path (reply.Refused refusal) row = refl

-- what is said, and all tables then
abbrev Settled : Type 0
Settled = SessionReply × Tables

-- what a command that opens nothing leaves, once it was prepared
run_settled : (client : ℕ) (t : Turn) (c : Command) (r : Reply) (kept : Kept) → asked (table_in kept client) t ≢ ask.Closed
    → ◌≡◌ {A = Settled} (said.Same, cond (is_done r) (followed_tables c (tables_in kept)) (prepared client t (tables_in kept))) (said.Same, tables_in (heard c (line_reply.Command r) kept))
run_settled client t c r kept h =
    ap {B = Settled} (λ (p : Tables). (said.Same, cond (is_done r) (followed_tables c (tables_in kept)) p)) (same_prepared client t kept h)
    ∙ ap {B = Settled} (λ (p : Tables). (said.Same, p)) (runs_kept c r kept)

open_settled : (client : ℕ) (path : Path) (r : Reply) (kept : Kept) → asked (table_in kept client) (turn.Open path) ≢ ask.Closed
    → settled (Opens client path) r (prepared client (turn.Open path) (tables_in kept))
    ≡ (open_said path (line_reply.Command r) (table_in kept client), tables_in (opened_kept client path (line_reply.Command r) kept))
open_settled client path r kept h =
    ap (settled (Opens client path) r) (same_prepared client (turn.Open path) kept h)
    ∙ ap {B = Settled} (λ (table : Table). ((opened_in path r table).0, slice_set (tables_in kept) client (opened_in path r table).1)) (own-tables_in client kept)
    ∙ ap {B = Settled} (λ (ts : Tables). ((opened_in path r (table_in kept client)).0, ts))
    (ap (slice_set (tables_in kept) client) (opened_in_table path r (row_of client kept))
    ∙ sym (put_row client (opened_row path (opened_in path r (table_in kept client)).0 (row_of client kept)) kept))

-- a closed handle asks for no command
no_close : (o : Handle) (c : Command) → closing o ≢ ask.Do c
no_close Free c h = cc
no_close (At path) c h = cc
no_close Gone c h = cc

not_closed : (a : Ask) (c : Command) → a ≡ ask.Do c → a ≢ ask.Closed
not_closed a c h k = cc

-- a turn whose command was replied to leaves what the model keeps, and says what it says
pub settled-kept : (client : ℕ) (t : Turn) (c : Command) (r : Reply) (kept : Kept) → asked (table_in kept client) t ≡ ask.Do c
    → settled (waits_on client t c (tables_in kept)) r (prepared client t (tables_in kept))
    ≡ (turn_said t (line_reply.Command r) (table_in kept client), tables_in (turn_kept client t c (line_reply.Command r) kept))
settled-kept client (turn.Plain l) c r kept h = run_settled client (turn.Plain l) c r kept (not_closed (asked (table_in kept client) (turn.Plain l)) c h)
settled-kept client (turn.Open path) c r kept h = open_settled client path r kept (λ k. cc)
settled-kept client (turn.Read handle off len) c r kept h = run_settled client (turn.Read handle off len) c r kept (not_closed (asked (table_in kept client) (turn.Read handle off len)) c h)
settled-kept client (turn.Write handle off bytes) c r kept h = run_settled client (turn.Write handle off bytes) c r kept (not_closed (asked (table_in kept client) (turn.Write handle off bytes)) c h)
settled-kept client (turn.Stat handle) c r kept h = run_settled client (turn.Stat handle) c r kept (not_closed (asked (table_in kept client) (turn.Stat handle)) c h)
settled-kept client (turn.Close handle) c r kept h = absurd (no_close (handle_at (table_in kept client) handle) c h)
