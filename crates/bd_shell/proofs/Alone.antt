-- The lines of a script of one client, as what is spoken.
use Rattle.std.proofs.Common.{◌≡◌, ℕ, Bool, true, false, cond, List, [], ◌∷◌, refl, sym, ap, subst, ◌∙◌, arith}
use Rattle.std.specs.Prelude.{map}
use Rattle.std.specs.declared.result.Result.TheVariants.{Ok, Err}
use Rattle.bd_command.specs.declared.Command.{Command}
use Rattle.bd_message.specs.declared.fault.Counter.{Counter}
use Rattle.bd_script.specs.Lines as lines
use Rattle.bd_script.specs.Lines.{LineMeaning}
use Rattle.bd_script.specs.declared.line.Line.TheVariants.{Run, Walk, Df, Sync, Checkpoint, Reclaim, Stop}
use Rattle.bd_script.specs.declared.replies.LineReply.{LineReply}
use Rattle.bd_script.specs.declared.replies.LineReply.TheVariants as reply
use Rattle.bd_sessions.specs.Handles.{heard, is_accepted, no_handles, one_more}
use Rattle.bd_sessions.specs.Spoken.{is_stop}
use Rattle.bd_sessions.specs.Telling.{FollowsSpoken}
use Rattle.bd_sessions.specs.declared.replies.TurnReply.{TurnReply}
use Rattle.bd_sessions.specs.declared.replies.TurnReply.TheVariants.{Line}
use Rattle.bd_view.specs.Moves.{Saves}
use Rattle.bd_view.specs.Reclaiming.{IsReclaim}
use Rattle.bd_view.specs.Views.{View}
use Rattle.bd_shell.specs.declared.fault.Fault.{Fault}
use Rattle.bd_shell.specs.declared.fault.Fault.TheVariants.{Device, Damaged, Source, Memory, TooLong, Worn, Sink}
use Rattle.bd_shell.specs.declared.outcome.Ack.{Ack}
use Rattle.bd_shell.specs.Transcript.{State, Answers, AreAlone, Entry, FillsCheckpoint, FillsReclaim, FollowAlone, Follows, HasAcked, IsTranscript, MayGet, MaySay, Serves, acks_due, alone, doing, durable, keeping, with_view}
use Rattle.bd_shell.specs.Session.{IsLeftBy, IsLeftIn, LeavesBy, WornBy, WornIn}
use Rattle.bd_shell.specs.Shell.{LineFails, Replies, RepliesTo, TurnFails}
use Rattle.bd_shell.proofs.Acks.{acks_as}

-- ---- what is kept of handles

-- no line of a script opens a handle
answers_kept : (s : State) (c : Command) (said : LineReply) (after : State) → Answers s c said after → after.kept ≡ s.kept
answers_kept s c (reply.Command r) after h = ap (λ (u : State). u.kept) h.after_is
answers_kept s c (reply.Unread refusal) after h = absurd h
answers_kept s c (reply.Walk visits height) after h = absurd h
answers_kept s c reply.Done after h = absurd h
answers_kept s c (reply.Free free slots) after h = absurd h
answers_kept s c (reply.Full free need) after h = ap (λ (u : State). u.kept) h.after_is
answers_kept s c reply.Stopped after h = absurd h

serves_kept : (moves : View → View → Type 0) (fills : ℕ → ℕ → View → View → Type 0) (s : State) (said : LineReply) (after : State) → Serves moves fills s said after
    → after.kept ≡ s.kept
serves_kept moves fills s (reply.Command r) after h = absurd h
serves_kept moves fills s (reply.Unread refusal) after h = absurd h
serves_kept moves fills s (reply.Walk visits height) after h = absurd h
serves_kept moves fills s reply.Done after h = ap (λ (u : State). u.kept) h.1
serves_kept moves fills s (reply.Free free slots) after h = absurd h
serves_kept moves fills s (reply.Full free need) after h = ap (λ (u : State). u.kept) h.1
serves_kept moves fills s reply.Stopped after h = absurd h

pub follows_kept : (s : State) (line : LineMeaning) (said : LineReply) (after : State) → Follows s line said after → after.kept ≡ s.kept
follows_kept s (Ok (Run c)) said after h = answers_kept s c said after h
follows_kept s (Ok Walk) said after h = ap (λ (u : State). u.kept) h.1
follows_kept s (Ok Df) said after h = ap (λ (u : State). u.kept) h.1
follows_kept s (Ok Sync) said after h = ap (λ (u : State). u.kept) h.1
follows_kept s (Ok Checkpoint) said after h = serves_kept Saves FillsCheckpoint s said after h
follows_kept s (Ok Reclaim) said after h = serves_kept IsReclaim FillsReclaim s said after h
follows_kept s (Ok Stop) said after h = ap (λ (u : State). u.kept) h.1
follows_kept s (Err refusal) said after h = ap (λ (u : State). u.kept) h.1

-- no open handle hears a command
heard_none : (c : Command) (r : LineReply) → heard c r no_handles ≡ no_handles
heard_none c r = by (is_accepted c r)
  where
    by : (b : Bool) → cond b (map (map (one_more c)) no_handles) no_handles ≡ no_handles
    by true = refl
    by false = refl

-- ---- what follows

-- what follows of a line follows of it as a line of no client, where no handle is open
pub follows_alone : (s : State) (line : LineMeaning) (said : LineReply) (after : State) → s.kept ≡ no_handles → Follows s line said after
    → FollowsSpoken doing s (alone line) (Line said) after
follows_alone s (Ok (Run c)) said after none h = record {
  line = said;
  middle = after;
  answered = h;
  says = refl;
  keeps = ap (λ k. keeping k after) (answers_kept s c said after h ∙ none ∙ sym (ap (heard c said) none ∙ heard_none c said));
}
follows_alone s (Ok Walk) said after none h = record { line = said; served = h; says = refl }
follows_alone s (Ok Df) said after none h = record { line = said; served = h; says = refl }
follows_alone s (Ok Sync) said after none h = record { line = said; served = h; says = refl }
follows_alone s (Ok Checkpoint) said after none h = record { line = said; served = h; says = refl }
follows_alone s (Ok Reclaim) said after none h = record { line = said; served = h; says = refl }
follows_alone s (Ok Stop) said after none h = record { line = said; served = h; says = refl }
follows_alone s (Err refusal) said after none h = (ap Line h.0, h.1)

pub replies_alone : (s : State) (line : LineMeaning) (said : LineReply) (at to : State → Type 0) → s.kept ≡ no_handles → ((t : State) → at t → t.kept ≡ no_handles → to t)
    → Replies s line said at → RepliesTo s (alone line) (Line said) to
replies_alone s line said at to none more h = record {
  after = h.after;
  follows = follows_alone s line said h.after none h.follows;
  later = h.later;
  represents = h.represents;
  reached = more h.after h.reached (follows_kept s line said h.after h.follows ∙ none);
}

-- ---- what a fault leaves

left_alone : (line : LineMeaning) (s : State) (left : View) → IsLeftBy line s left → IsLeftIn (alone line) s left
left_alone (Ok (Run c)) s left h = h
left_alone (Ok Walk) s left h = h
left_alone (Ok Df) s left h = h
left_alone (Ok Sync) s left h = h
left_alone (Ok Checkpoint) s left h = h
left_alone (Ok Reclaim) s left h = h
left_alone (Ok Stop) s left h = h
left_alone (Err refusal) s left h = h

worn_alone : (which : Counter) (line : LineMeaning) (s : State) (left : View) → WornBy which s line left → WornIn which s (alone line) left
worn_alone which (Ok (Run c)) s left h = h
worn_alone which (Ok Walk) s left h = h
worn_alone which (Ok Df) s left h = h
worn_alone which (Ok Sync) s left h = h
worn_alone which (Ok Checkpoint) s left h = h
worn_alone which (Ok Reclaim) s left h = h
worn_alone which (Ok Stop) s left h = h
worn_alone which (Err refusal) s left h = h

leaves_alone : (s : State) (line : LineMeaning) (at to : State → Type 0) → s.kept ≡ no_handles → ((t : State) → at t → t.kept ≡ no_handles → to t)
    → LeavesBy (IsLeftBy line s) s at → LeavesBy (IsLeftIn (alone line) s) s to
leaves_alone s line at to none more h = record {
  left = h.left;
  left_by = left_alone line s h.left h.left_by;
  calls = h.calls;
  later = h.later;
  reached = more (with_view s h.left h.calls) h.reached none;
}

pub fails_alone : (e : Fault) (s : State) (line : LineMeaning) (at to : State → Type 0) → s.kept ≡ no_handles → ((t : State) → at t → t.kept ≡ no_handles → to t)
    → LineFails e s line at → TurnFails e s (alone line) to
fails_alone Device s line at to none more h = leaves_alone s line at to none more h
fails_alone (Damaged block) s line at to none more h = h
fails_alone Source s line at to none more h = h
fails_alone Memory s line at to none more h = leaves_alone s line at to none more h
fails_alone TooLong s line at to none more h = h
fails_alone (Worn which) s line at to none more h = record {
  left = h.left;
  worn = worn_alone which line s h.left h.worn;
  calls = h.calls;
  later = h.later;
  reached = more (with_view s h.left h.calls) h.reached none;
}
fails_alone Sink s line at to none more h = h

-- ---- what may be said, and what it asks for

pub may_alone : (line : LineMeaning) (said : LineReply) → MayGet line said → MaySay (alone line) (Line said)
may_alone (Ok line) said h = h
may_alone (Err refusal) said h = h

durable_alone : (line : LineMeaning) → acks_due line ≡ durable (alone line ∷ [])
durable_alone (Ok line) = omega arith
durable_alone (Err refusal) = omega arith

pub acked_alone : (line : LineMeaning) (old new : List Ack) → HasAcked (acks_due line) old new → HasAcked (durable (alone line ∷ [])) old new
acked_alone line old new h = acks_as _ _ old new (durable_alone line) h

pub stop_alone : (line : LineMeaning) → lines.is_stop line ≡ is_stop (alone line)
stop_alone (Ok line) = refl
stop_alone (Err refusal) = refl

-- ---- a line of no client was all that was said of it

-- so a line without a client is one of a script's, and its reply follows as before
pub alone_follows : (s : State) (line : LineMeaning) (said : TurnReply) (after : State) → s.kept ≡ no_handles → FollowsSpoken doing s (alone line) said after
    → (r : LineReply) × (said ≡ Line r) × Follows s line r after
alone_follows s (Ok (Run c)) said after none h = (
  h.line,
  h.says,
  subst (Answers s c h.line) (sym (h.keeps ∙ ap (λ k. keeping k h.middle) (ap (heard c h.line) none ∙ heard_none c h.line ∙ sym (answers_kept s c h.line h.middle h.answered ∙ none)))) h.answered,
)
alone_follows s (Ok Walk) said after none h = (h.line, h.says, h.served)
alone_follows s (Ok Df) said after none h = (h.line, h.says, h.served)
alone_follows s (Ok Sync) said after none h = (h.line, h.says, h.served)
alone_follows s (Ok Checkpoint) said after none h = (h.line, h.says, h.served)
alone_follows s (Ok Reclaim) said after none h = (h.line, h.says, h.served)
alone_follows s (Ok Stop) said after none h = (h.line, h.says, h.served)
alone_follows s (Err refusal) said after none h = (reply.Unread refusal, h.0, (refl, h.1))

-- so does each entry of a transcript of such lines
pub all_alone : (s : State) (es : List Entry) → s.kept ≡ no_handles → AreAlone es → IsTranscript s es → FollowAlone s es
all_alone s [] none lines h = tt
all_alone s (e ∷ es) none lines h =
    let f = alone_follows s lines.0.0 e.said e.state none (subst (λ x. FollowsSpoken doing s x e.said e.state) lines.0.1 h.0.follows) in (
      record { line = lines.0.0; said = f.0; line_is = lines.0.1; said_is = f.1; follows = f.2 },
      all_alone e.state es (follows_kept s lines.0.0 f.0 e.state f.2 ∙ none) lines.1 h.1,
    )
