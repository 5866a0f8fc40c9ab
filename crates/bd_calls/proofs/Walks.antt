-- What each line of a transcript costs.
use Rattle.std.proofs.Common.{◌≡◌, ℕ, ◌+◌, ◌*◌, ◌≤◌, Bool, true, false, List, [], ◌∷◌, refl, sym, ap, subst, ◌∙◌}
use Rattle.std.specs.Prelude.{◌&&◌, MatchBool}
use Rattle.std.specs.declared.option.Option.{Option}
use Rattle.std.specs.declared.result.Result.{Result}
use Rattle.std.specs.declared.result.Result.TheVariants.{Ok, Err}
use Rattle.bd_command.specs.Command.{writes, is_done}
use Rattle.bd_command.specs.declared.Command.{Command}
use Rattle.bd_command.specs.declared.Command.TheVariants.{Mkdir, Create, Write, Truncate, Remove, Rename, Clone, Chmod, Read, Stat, List as Ls}
use Rattle.bd_command.specs.declared.reply.Reply.{Reply}
use Rattle.bd_model.specs.Tree.{Path, Tree}
use Rattle.bd_model.specs.Step.{step}
use Rattle.bd_script.specs.Lines.{LineMeaning}
use Rattle.bd_script.specs.declared.denial.Denial.{Denial}
use Rattle.bd_script.specs.declared.denial.Denial.TheVariants as denial
use Rattle.bd_script.specs.declared.line.Line.{Line}
use Rattle.bd_script.specs.declared.line.Line.TheVariants.{Run, Walk, Df, Sync, Checkpoint, Reclaim, Stop}
use Rattle.bd_script.specs.declared.replies.LineReply.{LineReply}
use Rattle.bd_script.specs.declared.replies.LineReply.TheVariants as reply
use Rattle.bd_sessions.specs.Handles.{handle_at, table_in}
use Rattle.bd_sessions.specs.Sessions.{ask_at, closing, path_of_handle}
use Rattle.bd_sessions.specs.Spoken.{client_or_none}
use Rattle.bd_sessions.specs.Telling.{DoesAsk, DoesTurn}
use Rattle.bd_sessions.specs.Turns.{TurnMeaning}
use Rattle.bd_sessions.specs.declared.asking.Ask.TheVariants as ask
use Rattle.bd_sessions.specs.declared.handle.Handle.{Handle}
use Rattle.bd_sessions.specs.declared.handle.Handle.TheVariants.{Free, At, Gone}
use Rattle.bd_sessions.specs.declared.replies.TurnReply.{TurnReply}
use Rattle.bd_sessions.specs.declared.replies.TurnReply.TheVariants as turn_reply
use Rattle.bd_sessions.specs.declared.turn.Turn.{Turn}
use Rattle.bd_sessions.specs.declared.turn.Turn.TheVariants as turn
use Rattle.bd_dirs.specs.Sendings.{Sending, Nothing, Batch, Move, sending}
use Rattle.bd_graft.specs.declared.grafting.Walk.{Walk as WalkTaken}
use Rattle.bd_message.specs.KeyMaps.{At as MapAt}
use Rattle.bd_view.specs.Trees.{TreeView, HasSent}
use Rattle.bd_view.specs.Views.{View, keys_of}
use Rattle.bd_view.specs.Moves.{Saves, IsExecuted, IsAccepted}
use Rattle.bd_view.specs.Reclaiming.{IsReclaim}
use Rattle.bd_view.specs.Reclaiming.IsReclaimFull.{first, edge, last}
use Rattle.bd_view.proofs.Standing.{steps_walk, reclaims_walk}
use Rattle.bd_shell.specs.Transcript.{State, Entry, Answers, Serves, FillsCheckpoint, FillsReclaim, Follows, Moves, IsTranscript, doing, is_graft, grafts, is_grafted, is_grafted_line, is_made, passes, IsCheap, AreCheap}

-- what is sent is a graft with few visits, or keeps the walk
sent_cheap : (what : Sending) (mid new : TreeView) → HasSent what mid new → MatchBool (is_graft what) (new.walk.visits ≤ 5 * new.walk.height + 2) (new.walk ≡ mid.walk)
sent_cheap Nothing mid new h = absurd h
sent_cheap (Batch list) mid new h = h.walk_is
sent_cheap (Move s d keep) mid new h = h.walked.few_visits

kept_since : (b : Bool) (few : Type 0) (a m n : WalkTaken) → MatchBool b few (n ≡ m) → m ≡ a → MatchBool b few (n ≡ a)
kept_since true few a m n h same = h
kept_since false few a m n h same = h ∙ same

-- so is what is sent after steps, whose record waits
accepted_cheap : (t : Tree) (c : Command) (old new : View) → IsAccepted t c old new
    → MatchBool (is_graft (sending (keys_of old) t c)) (new.tree.walk.visits ≤ 5 * new.tree.walk.height + 2) (new.tree.walk ≡ old.tree.walk)
accepted_cheap t c old new h =
    let x : IsExecuted t c old h.last = h.executed in
    subst (λ (v : View). MatchBool (is_graft (sending (keys_of old) t c)) (v.tree.walk.visits ≤ 5 * v.tree.walk.height + 2) (v.tree.walk ≡ old.tree.walk)) (sym h.after)
    (kept_since (is_graft (sending (keys_of old) t c)) (h.last.tree.walk.visits ≤ 5 * h.last.tree.walk.height + 2) old.tree.walk x.mid.tree.walk h.last.tree.walk
    (sent_cheap (sending (keys_of old) t c) x.mid.tree h.last.tree x.sent) (steps_walk c x.stepped.made old x.mid x.stepped.steps))

walk_of : (old new : View) → new ≡ old → new.tree.walk ≡ old.tree.walk
walk_of old new h = ap (λ (v : View). v.tree.walk) h

-- no command that reads is a graft
graft_writes : (at : MapAt) (t : Tree) (c : Command) → is_graft (sending at t c) ≡ true → writes c ≡ true
graft_writes at t (Mkdir path) h = refl
graft_writes at t (Create path) h = refl
graft_writes at t (Write path off bytes) h = refl
graft_writes at t (Truncate path len) h = refl
graft_writes at t (Remove path) h = refl
graft_writes at t (Rename a b) h = refl
graft_writes at t (Clone a b) h = refl
graft_writes at t (Chmod path mode) h = refl
graft_writes at t (Read path off len) h = cc
graft_writes at t (Stat path) h = cc
graft_writes at t (Ls path after) h = cc

-- where it was accepted, or nothing was done
either_way : (graft writing done : Bool) (accepted stays few same : Type 0) → (accepted → MatchBool graft few same) → (stays → same) → (graft ≡ true → writing ≡ true)
    → MatchBool (writing && done) accepted stays → MatchBool (graft && done) few same
either_way true true true accepted stays few same f g w h = f h
either_way false true true accepted stays few same f g w h = f h
either_way true true false accepted stays few same f g w h = g h
either_way false true false accepted stays few same f g w h = g h
either_way true false done accepted stays few same f g w h = absurd (let no : false ≡ true = w refl in cc)
either_way false false done accepted stays few same f g w h = g h

run_cheap : (t : Tree) (c : Command) (r : Reply) (old new : View) → Moves t c r old new
    → MatchBool (is_graft (sending (keys_of old) t c) && is_done r) (new.tree.walk.visits ≤ 5 * new.tree.walk.height + 2) (new.tree.walk ≡ old.tree.walk)
run_cheap t c r old new h =
    either_way (is_graft (sending (keys_of old) t c)) (writes c) (is_done r) (IsAccepted t c old new) (new ≡ old) (new.tree.walk.visits ≤ 5 * new.tree.walk.height + 2) (new.tree.walk ≡ old.tree.walk)
    (accepted_cheap t c old new) (walk_of old new) (graft_writes (keys_of old) t c) h

answers_cheap : (s : State) (c : Command) (said : LineReply) (after : State) → Answers s c said after
    → MatchBool (is_made s c said) (after.view.tree.walk.visits ≤ 5 * after.view.tree.walk.height + 2) (after.view.tree.walk ≡ s.view.tree.walk)
answers_cheap s c (reply.Command r) after h =
    subst (λ r. MatchBool (grafts s c && is_done r) (after.view.tree.walk.visits ≤ 5 * after.view.tree.walk.height + 2) (after.view.tree.walk ≡ s.view.tree.walk))
    (sym h.said_is) (run_cheap s.tree c (step s.tree c).1 s.view after.view h.moved)
answers_cheap s c (reply.Unread refusal) after h = absurd h
answers_cheap s c (reply.Walk visits height) after h = absurd h
answers_cheap s c reply.Done after h = absurd h
answers_cheap s c (reply.Free free slots) after h = absurd h
answers_cheap s c (reply.Full free need) after h = steps_walk c h.full.stepped.made s.view after.view h.full.stepped.steps
answers_cheap s c reply.Stopped after h = absurd h

serves_keeps : (moves : View → View → Type 0) (fills : ℕ → ℕ → View → View → Type 0) (s : State) (said : LineReply) (after : State)
    → ((v w : View) → moves v w → w.tree.walk ≡ v.tree.walk) → ((free need : ℕ) (v w : View) → fills free need v w → w.tree.walk ≡ v.tree.walk)
    → Serves moves fills s said after → after.view.tree.walk ≡ s.view.tree.walk
serves_keeps moves fills s (reply.Command r) after f g h = absurd h
serves_keeps moves fills s (reply.Unread refusal) after f g h = absurd h
serves_keeps moves fills s (reply.Walk visits height) after f g h = absurd h
serves_keeps moves fills s reply.Done after f g h = f s.view after.view h.0
serves_keeps moves fills s (reply.Free free slots) after f g h = absurd h
serves_keeps moves fills s (reply.Full free need) after f g h = g free need s.view after.view h.0
serves_keeps moves fills s reply.Stopped after f g h = absurd h

saves_keep : (v w : View) → Saves v w → w.tree.walk ≡ v.tree.walk
saves_keep v w h = ap (λ (x : View). x.tree.walk) h.after

reclaim_keeps : (v w : View) → IsReclaim v w → w.tree.walk ≡ v.tree.walk
reclaim_keeps v w h = saves_keep h.last w h.ends ∙ reclaims_walk h.pushes v h.last h.reclaimed

full_checkpoint_keeps : (free need : ℕ) (v w : View) → FillsCheckpoint free need v w → w.tree.walk ≡ v.tree.walk
full_checkpoint_keeps free need v w h = walk_of v w h.1

full_reclaim_keeps : (free need : ℕ) (v w : View) → FillsReclaim free need v w → w.tree.walk ≡ v.tree.walk
full_reclaim_keeps free need v w (first full) = refl
full_reclaim_keeps free need v w (edge pushes change _ h next short free_is need_is unsaved) = reclaims_walk pushes v w h
full_reclaim_keeps free need v w (last pushes _ h whole full) = reclaims_walk pushes v w h

-- what a line of a script costs
abbrev IsCheapLine : State → LineMeaning → LineReply → View → Type 0
IsCheapLine s line said new = MatchBool (is_grafted_line s line said) (new.tree.walk.visits ≤ 5 * new.tree.walk.height + 2) (new.tree.walk ≡ s.view.tree.walk)

cheap_line : (s : State) (l : LineMeaning) (said : LineReply) (after : State) → Follows s l said after → IsCheapLine s l said after.view
cheap_line s (Ok (Run c)) said after h = answers_cheap s c said after h
cheap_line s (Ok Walk) said after h = ap (λ (t : State). t.view.tree.walk) h.1
cheap_line s (Ok Df) said after h = ap (λ (t : State). t.view.tree.walk) h.1
cheap_line s (Ok Sync) said after h = ap (λ (t : State). t.view.tree.walk) h.1
cheap_line s (Ok Checkpoint) said after h = serves_keeps Saves FillsCheckpoint s said after saves_keep full_checkpoint_keeps h
cheap_line s (Ok Reclaim) said after h = serves_keeps IsReclaim FillsReclaim s said after reclaim_keeps full_reclaim_keeps h
cheap_line s (Ok Stop) said after h = ap (λ (t : State). t.view.tree.walk) h.1
cheap_line s (Err refusal) said after h = ap (λ (t : State). t.view.tree.walk) h.1

-- ---- commands for handles

-- what comes to no graft keeps the walk, whatever its reply is
never_made : (s : State) (c : Command) (said : LineReply) → grafts s c ≡ false → is_made s c said ≡ false
never_made s c (reply.Command r) never = ap (λ b. b && is_done r) never
never_made s c (reply.Unread refusal) never = refl
never_made s c (reply.Walk visits height) never = refl
never_made s c reply.Done never = refl
never_made s c (reply.Free free slots) never = refl
never_made s c (reply.Full free need) never = refl
never_made s c reply.Stopped never = refl

module _ (s : State) (client : ℕ) (t : Turn) (said : TurnReply) (after : State) where
  -- such a command, or none
  keeps_walk : (c : Command) → grafts s c ≡ false → DoesAsk doing s client t (ask.Do c) said after → after.view.tree.walk ≡ s.view.tree.walk
  keeps_walk c never h =
      ap (λ (u : State). u.view.tree.walk) h.keeps
      ∙ subst (λ b. MatchBool b (h.middle.view.tree.walk.visits ≤ 5 * h.middle.view.tree.walk.height + 2) (h.middle.view.tree.walk ≡ s.view.tree.walk)) (never_made s c h.line never)
      (answers_cheap s c h.line h.middle h.answered)

  keeps_denied : (d : Denial) → DoesAsk doing s client t (ask.No d) said after → after.view.tree.walk ≡ s.view.tree.walk
  keeps_denied d h = ap (λ (u : State). u.view.tree.walk) h.1

  keeps_handle : (at : Path → Command) → ((p : Path) → grafts s (at p) ≡ false) → (r : Result Path Denial) → DoesAsk doing s client t (ask_at at r) said after
      → after.view.tree.walk ≡ s.view.tree.walk
  keeps_handle at never (Ok path) g = keeps_walk (at path) (never path) g
  keeps_handle at never (Err denial) g = keeps_denied denial g

  keeps_close : (h : Handle) → DoesAsk doing s client t (closing h) said after → after.view.tree.walk ≡ s.view.tree.walk
  keeps_close Free g = keeps_denied denial.NoHandle g
  keeps_close (At path) g = ap (λ (u : State). u.view.tree.walk) g.1
  keeps_close Gone g = ap (λ (u : State). u.view.tree.walk) g.1

-- ---- turns

module _ (s : State) (client : Option ℕ) (said : TurnReply) (after : State) where
  -- the turn of a line of a script
  cheap_plain : (l : Line) (r : LineReply) (middle : State) → said ≡ turn_reply.Line r → after.view ≡ middle.view → Follows s (Ok l) r middle
      → IsCheap s (record { client = client; turn = Ok (turn.Plain l) }) said after.view.tree.walk
  cheap_plain l r middle says same h =
      subst (λ u. IsCheap s (record { client = client; turn = Ok (turn.Plain l) }) u after.view.tree.walk) (sym says)
      (subst (λ w. IsCheapLine s (Ok l) r w) (sym same) (cheap_line s (Ok l) r middle h))

  -- any other turn, which keeps the walk
  cheap_kept : (t : TurnMeaning) → ((r : LineReply) → passes (λ l. is_grafted_line s l r) t ≡ false) → after.view.tree.walk ≡ s.view.tree.walk
      → IsCheap s (record { client = client; turn = t }) said after.view.tree.walk
  cheap_kept t never same = subst (λ b. MatchBool b (after.view.tree.walk.visits ≤ 5 * after.view.tree.walk.height + 2) (after.view.tree.walk ≡ s.view.tree.walk)) (sym (none said)) same
    where
      none : (u : TurnReply) → is_grafted s (record { client = client; turn = t }) u ≡ false
      none (turn_reply.Line r) = never r
      none (turn_reply.Opened number) = refl
      none turn_reply.Closed = refl
      none (turn_reply.No denial) = refl

  cheap_turn : (t : TurnMeaning) → DoesTurn doing s (client_or_none client) t said after
      → IsCheap s (record { client = client; turn = t }) said after.view.tree.walk
  cheap_turn (Ok (turn.Plain (Run c))) h = cheap_plain (Run c) h.line h.middle h.says (ap (λ (u : State). u.view) h.keeps) h.answered
  cheap_turn (Ok (turn.Plain Walk)) h = cheap_plain Walk h.line after h.says refl h.served
  cheap_turn (Ok (turn.Plain Df)) h = cheap_plain Df h.line after h.says refl h.served
  cheap_turn (Ok (turn.Plain Sync)) h = cheap_plain Sync h.line after h.says refl h.served
  cheap_turn (Ok (turn.Plain Checkpoint)) h = cheap_plain Checkpoint h.line after h.says refl h.served
  cheap_turn (Ok (turn.Plain Reclaim)) h = cheap_plain Reclaim h.line after h.says refl h.served
  cheap_turn (Ok (turn.Plain Stop)) h = cheap_plain Stop h.line after h.says refl h.served
  cheap_turn (Ok (turn.Open path)) h =
      cheap_kept (Ok (turn.Open path)) (λ r. refl) (keeps_walk s (client_or_none client) (turn.Open path) said after (Stat path) refl h)
  cheap_turn (Ok (turn.Read handle off len)) h =
      cheap_kept (Ok (turn.Read handle off len)) (λ r. refl)
      (keeps_handle s (client_or_none client) (turn.Read handle off len) said after (λ p. Read p off len) (λ p. refl) (path_of_handle (handle_at (table_in s.kept (client_or_none client)) handle)) h)
  cheap_turn (Ok (turn.Write handle off bytes)) h =
      cheap_kept (Ok (turn.Write handle off bytes)) (λ r. refl)
      (keeps_handle s (client_or_none client) (turn.Write handle off bytes) said after (λ p. Write p off bytes) (λ p. refl) (path_of_handle (handle_at (table_in s.kept (client_or_none client)) handle)) h)
  cheap_turn (Ok (turn.Stat handle)) h =
      cheap_kept (Ok (turn.Stat handle)) (λ r. refl)
      (keeps_handle s (client_or_none client) (turn.Stat handle) said after Stat (λ p. refl) (path_of_handle (handle_at (table_in s.kept (client_or_none client)) handle)) h)
  cheap_turn (Ok (turn.Close handle)) h =
      cheap_kept (Ok (turn.Close handle)) (λ r. refl)
      (keeps_close s (client_or_none client) (turn.Close handle) said after (handle_at (table_in s.kept (client_or_none client)) handle) h)
  cheap_turn (Err refusal) h = cheap_kept (Err refusal) (λ r. refl) (ap (λ (u : State). u.view.tree.walk) h.1)

pub each_cheap : (s : State) (es : List Entry) → IsTranscript s es → AreCheap s es
each_cheap s [] h = tt
each_cheap s (e ∷ es) h = (cheap_turn s e.line.client e.said e.state e.line.turn h.0.follows, each_cheap e.state es h.1)
