-- Along a transcript the calls of what is acknowledged don't fall.
use Rattle.std.proofs.Common.{◌≡◌, ℕ, ◌≤◌, List, [], ◌∷◌, ◌++◌, sym, ap, subst, arith}
use Rattle.std.specs.declared.result.Result.TheVariants.{Ok, Err}
use Rattle.bd_command.specs.declared.Command.{Command}
use Rattle.bd_script.specs.Lines.{LineMeaning}
use Rattle.bd_script.specs.declared.line.Line.TheVariants.{Run, Walk, Df, Sync, Checkpoint, Reclaim, Stop}
use Rattle.bd_script.specs.declared.replies.LineReply.{LineReply}
use Rattle.bd_script.specs.declared.replies.LineReply.TheVariants as reply
use Rattle.bd_view.specs.Views.{View}
use Rattle.bd_view.specs.Moves.{Saves}
use Rattle.bd_view.specs.Reclaiming.{IsReclaim}
use Rattle.bd_shell.specs.declared.outcome.Ack.{Ack}
use Rattle.bd_shell.specs.Transcript.{State, Entry, Answers, Serves, FillsCheckpoint, FillsReclaim, Follows, IsTranscript, ack, state_after, synced_state}
use Rattle.bd_shell.proofs.Turns.{lifts}
use Rattle.bd_calls.specs.Work.{AreInOrder}

-- ---- lists of acknowledgements

in_order_later : (least now then : ℕ) (acks : List Ack) → now ≤ then → AreInOrder least now acks → AreInOrder least then acks
in_order_later least now then [] more h = let few : least ≤ now = h in omega (arith, more, few)
in_order_later least now then (a ∷ acks) more h = (h.0, in_order_later a.calls now then acks more h.1)

in_order_push : (least now then count : ℕ) (acks : List Ack) → now ≤ then → AreInOrder least now acks → AreInOrder least then (acks ++ ack then count ∷ [])
in_order_push least now then count [] more h = let few : least ≤ now = h in (omega (arith, more, few), omega arith)
in_order_push least now then count (a ∷ acks) more h = (h.0, in_order_push a.calls now then count acks more h.1)

-- ---- lines

answered_acks : (s : State) (c : Command) (said : LineReply) (after : State) → Answers s c said after → after.acks ≡ s.acks
answered_acks s c (reply.Command r) after h = ap (λ (t : State). t.acks) h.after_is
answered_acks s c (reply.Unread refusal) after h = absurd h
answered_acks s c (reply.Walk visits height) after h = absurd h
answered_acks s c reply.Done after h = absurd h
answered_acks s c (reply.Free free slots) after h = absurd h
answered_acks s c (reply.Full free need) after h = ap (λ (t : State). t.acks) h.after_is
answered_acks s c reply.Stopped after h = absurd h

served_acks : (moves : View → View → Type 0) (fills : ℕ → ℕ → View → View → Type 0) (s : State) (said : LineReply) (after : State) → Serves moves fills s said after
    → after.acks ≡ s.acks
served_acks moves fills s (reply.Command r) after h = absurd h
served_acks moves fills s (reply.Unread refusal) after h = absurd h
served_acks moves fills s (reply.Walk visits height) after h = absurd h
served_acks moves fills s reply.Done after h = ap (λ (t : State). t.acks) h.1
served_acks moves fills s (reply.Free free slots) after h = absurd h
served_acks moves fills s (reply.Full free need) after h = ap (λ (t : State). t.acks) h.1
served_acks moves fills s reply.Stopped after h = absurd h

keeps_order : (least : ℕ) (s after : State) → after.acks ≡ s.acks → s.calls ≤ after.calls → AreInOrder least s.calls s.acks → AreInOrder least after.calls after.acks
keeps_order least s after same more h = subst (AreInOrder least after.calls) (sym same) (in_order_later least s.calls after.calls s.acks more h)

adds_in_order : (least : ℕ) (s after : State) → after ≡ synced_state s after.calls → s.calls ≤ after.calls → AreInOrder least s.calls s.acks
    → AreInOrder least after.calls after.acks
adds_in_order least s after is more h =
    subst (AreInOrder least after.calls) (sym (ap (λ (t : State). t.acks) is)) (in_order_push least s.calls after.calls s.count s.acks more h)

follows_in_order : (least : ℕ) (s : State) (l : LineMeaning) (said : LineReply) (after : State) → Follows s l said after → s.calls ≤ after.calls
    → AreInOrder least s.calls s.acks → AreInOrder least after.calls after.acks
follows_in_order least s (Ok (Run c)) said after h more before = keeps_order least s after (answered_acks s c said after h) more before
follows_in_order least s (Ok Walk) said after h more before = keeps_order least s after (ap (λ (t : State). t.acks) h.1) more before
follows_in_order least s (Ok Df) said after h more before = keeps_order least s after (ap (λ (t : State). t.acks) h.1) more before
follows_in_order least s (Ok Sync) said after h more before = adds_in_order least s after h.1 more before
follows_in_order least s (Ok Checkpoint) said after h more before = keeps_order least s after (served_acks Saves FillsCheckpoint s said after h) more before
follows_in_order least s (Ok Reclaim) said after h more before = keeps_order least s after (served_acks IsReclaim FillsReclaim s said after h) more before
follows_in_order least s (Ok Stop) said after h more before = adds_in_order least s after h.1 more before
follows_in_order least s (Err refusal) said after h more before = keeps_order least s after (ap (λ (t : State). t.acks) h.1) more before

pub all_in_order : (least : ℕ) (s : State) (es : List Entry) → AreInOrder least s.calls s.acks → IsTranscript s es
    → AreInOrder least (state_after s es).calls (state_after s es).acks
all_in_order least s [] before h = before
all_in_order least s (e ∷ es) before h =
    all_in_order least e.state es
    (lifts (λ (a b : State). a.calls ≤ b.calls → AreInOrder least a.calls a.acks → AreInOrder least b.calls b.acks) (follows_in_order least) (λ a b kept f. f) s e.line e.said e.state
    h.0.follows h.0.later before) h.1
