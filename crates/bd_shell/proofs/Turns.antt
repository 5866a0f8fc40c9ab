-- What holds of the lines of a script, as of what is spoken.
use Rattle.std.proofs.Common.{◌≡◌, refl, sym, subst}
use Rattle.std.specs.declared.result.Result.TheVariants.{Ok, Err}
use Rattle.bd_command.specs.declared.refusal.Refusal.TheVariants.{BadLine}
use Rattle.bd_script.specs.Lines.{LineMeaning}
use Rattle.bd_script.specs.declared.line.Line.TheVariants.{Run}
use Rattle.bd_script.specs.declared.replies.LineReply.{LineReply}
use Rattle.bd_script.specs.declared.replies.LineReply.TheVariants as reply
use Rattle.bd_sessions.specs.Handles.{Kept, table_in}
use Rattle.bd_sessions.specs.Sessions.{asked}
use Rattle.bd_sessions.specs.Spoken.{Spoken, client_or_none}
use Rattle.bd_sessions.specs.Telling.{DoesAsk, DoesTurn, FollowsSpoken, closed_kept, turn_kept}
use Rattle.bd_sessions.specs.Turns.{TurnMeaning}
use Rattle.bd_sessions.specs.declared.asking.Ask.{Ask}
use Rattle.bd_sessions.specs.declared.asking.Ask.TheVariants as ask
use Rattle.bd_sessions.specs.declared.replies.TurnReply.{TurnReply}
use Rattle.bd_sessions.specs.declared.turn.Turn.{Turn}
use Rattle.bd_shell.specs.declared.fault.Fault.{Fault}
use Rattle.bd_shell.specs.declared.fault.Fault.TheVariants.{Device, Damaged, Source, Memory, TooLong, Worn, Sink}
use Rattle.bd_shell.specs.Transcript.{Output, State, Follows, doing, keeping}
use Rattle.bd_shell.specs.Shell.{IsLineFault, RunFails, TurnFails}

-- what holds of a state and of the one after any line of a script, whatever is kept of handles then, holds of the one after what is spoken
pub lifts : (P : State → State → Type 0) → ((s : State) (line : LineMeaning) (said : LineReply) (after : State) → Follows s line said after → P s after)
    → ((s middle : State) (kept : Kept) → P s middle → P s (keeping kept middle)) → (s : State) (x : Spoken) (said : TurnReply) (after : State)
    → FollowsSpoken doing s x said after → P s after
lifts P line keeps s x said after h = by_turn x.turn h
  where
    stays : P s s
    stays = line s (Err BadLine) (reply.Unread BadLine) s (refl, refl)

    by_ask : (t : Turn) (a : Ask) → DoesAsk doing s (client_or_none x.client) t a said after → P s after
    by_ask t (ask.Do c) g =
        subst (P s) (sym g.keeps) (keeps s g.middle (turn_kept (client_or_none x.client) t c g.line s.kept) (line s (Ok (Run c)) g.line g.middle g.answered))
    by_ask t (ask.Service l) g = line s (Ok l) g.line after g.served
    by_ask t ask.Closed g = subst (P s) (sym g.1) (keeps s s (closed_kept (client_or_none x.client) t s.kept) stays)
    by_ask t (ask.No denial) g = subst (P s) (sym g.1) stays

    by_turn : (t : TurnMeaning) → DoesTurn doing s (client_or_none x.client) t said after → P s after
    by_turn (Ok t) g = by_ask t (asked (table_in s.kept (client_or_none x.client)) t) g
    by_turn (Err refusal) g = subst (P s) (sym g.1) stays

-- ---- a fault before the reply

-- nothing is written or acknowledged
pub line_fails : (e : Fault) (first last : State → Type 0) (line : Spoken) (a b : Output) → IsLineFault e → b.written ≡ a.written → b.acks ≡ a.acks
    → ((s : State) → first s → TurnFails e s line last) → RunFails e first last line a b
line_fails Device first last line a b kind same acks f = record { unwritten = same; unacked = acks; leaves = f }
line_fails (Damaged block) first last line a b kind same acks f = record { unwritten = same; unacked = acks; leaves = f }
line_fails Source first last line a b kind same acks f = absurd kind
line_fails Memory first last line a b kind same acks f = record { unwritten = same; unacked = acks; leaves = f }
line_fails TooLong first last line a b kind same acks f = absurd kind
line_fails (Worn which) first last line a b kind same acks f = record { unwritten = same; unacked = acks; leaves = f }
line_fails Sink first last line a b kind same acks f = absurd kind
