-- What a line leaves of the points that were passed.
use Rattle.std.proofs.Common.{◌≡◌, ℕ, ◌+◌, ◌≤◌, Bool, true, false, cond, List, [], ◌∷◌, ◌++◌, refl, sym, ap, subst, arith}
use Rattle.std.specs.Prelude.{◌&&◌}
use Rattle.std.specs.List.{Contains}
use Rattle.std.specs.declared.option.Option.{Option}
use Rattle.std.specs.declared.option.Option.TheVariants.{None, Some}
use Rattle.std.specs.declared.result.Result.TheVariants.{Ok, Err}
use Rattle.std.proofs.lemmas.List.Elements.{Contains-append_left, Contains-push}
use Rattle.bd_command.specs.Command.{writes, is_done, accepted}
use Rattle.bd_command.specs.declared.Command.{Command}
use Rattle.bd_command.specs.declared.Command.TheVariants.{Mkdir, Create, Write, Truncate, Remove, Rename, Clone, Chmod, Read, Stat, List as Ls}
use Rattle.bd_command.specs.declared.refusal.Refusal.{Refusal}
use Rattle.bd_model.specs.Tree.{Tree}
use Rattle.bd_model.specs.Step.{step, stepped, refusal_of}
use Rattle.bd_device.specs.Blocks.{Image}
use Rattle.bd_device.specs.declared.device.Device.{Ghosts}
use Rattle.bd_script.specs.Lines.{LineMeaning}
use Rattle.bd_script.specs.declared.line.Line.TheVariants.{Run, Walk, Df, Sync, Checkpoint, Reclaim, Stop}
use Rattle.bd_script.specs.declared.replies.LineReply.{LineReply}
use Rattle.bd_script.specs.declared.replies.LineReply.TheVariants as reply
use Rattle.bd_view.specs.Moves.{Saves}
use Rattle.bd_view.specs.Reclaiming.{IsReclaim}
use Rattle.bd_view.specs.Views.{View}
use Rattle.bd_volume.specs.Volume.{GoesBy, device_of, view_of}
use Rattle.bd_volume.specs.declared.volume.Volume.{Volume}
use Rattle.bd_shell.specs.declared.fault.Fault.{Fault}
use Rattle.bd_shell.specs.declared.acknowledged.Acknowledged.{Acknowledged}
use Rattle.bd_shell.specs.declared.outcome.Ack.{Ack}
use Rattle.bd_shell.specs.Transcript.{Point, point, State, with_view, state_of_step, Entry, Answers, Serves, FillsCheckpoint, FillsReclaim, Follows, IsTranscript, state_after}
use Rattle.bd_shell.specs.Crashes.{IsSafeSince}
use Rattle.bd_shell.specs.Session.{closed}
use Rattle.bd_shell.specs.Shell.{VolumeAt, KeptAt, device_below}
use Rattle.bd_shell.proofs.Surviving.{safe_then, safe_more}
use Rattle.bd_shell.proofs.Turns.{lifts}

-- the state with the volume's view, after the calls of its device
abbrev pub moved_to : {D : Type 0} → Ghosts D → Volume D → State → State
moved_to g w s = with_view s (view_of g w) (g.call_count (device_of w))

-- the state after a command, with the volume's view, after the calls of its device
abbrev pub stepped_to : {D : Type 0} → Ghosts D → Volume D → State → Command → State
stepped_to g w s c = state_of_step s c (view_of g w) (g.call_count (device_of w))

-- a state that follows at no fewer calls, of which `last` holds where the volume stands for it
pub record Carries {D : Type 0} (g : Ghosts D) (w : Volume D) (s after : State) (last : State → Type 0) : Type 0 where
  pub later : s.calls ≤ after.calls
  pub lift : VolumeAt g w after → last after

-- ---- the points

-- a command that is refused, or that reads, leaves the tree
stays_by : (o : Option Refusal) (t : Tree) (c : Command) → (writes c && is_done (stepped t c o).1) ≡ false → (stepped t c o).0 ≡ t
stays_by (Some r) t c h = refl
stays_by None t (Mkdir path) h = cc
stays_by None t (Create path) h = cc
stays_by None t (Write path off bytes) h = cc
stays_by None t (Truncate path len) h = cc
stays_by None t (Remove path) h = cc
stays_by None t (Rename a b) h = cc
stays_by None t (Clone a b) h = cc
stays_by None t (Chmod path mode) h = cc
stays_by None t (Read path off len) h = refl
stays_by None t (Stat path) h = refl
stays_by None t (Ls path after) h = refl

-- the points that were passed stay
wider_by : (b : Bool) (passed : List Point) (p q : Point) → Contains passed q → Contains (cond b (passed ++ p ∷ []) passed) q
wider_by true passed p q h = Contains-append_left passed (p ∷ []) q h
wider_by false passed p q h = h

-- the point of the state after it is among them
here_by : (b : Bool) (passed : List Point) (t u : Tree) (n : ℕ) → (b ≡ false → u ≡ t) → Contains passed (point t n)
    → Contains (cond b (passed ++ point u (n + cond b 1 0) ∷ []) passed) (point u (n + cond b 1 0))
here_by true passed t u n same h = Contains-push passed (point u (n + 1))
here_by false passed t u n same h =
    subst (λ m. Contains passed (point u m)) (omega arith) (subst (λ x. Contains passed (point x n)) (sym (same refl)) h)

-- ---- lines

module _ {D : Type 0} (g : Ghosts D) where
  -- tree and count stay
  keeps_view : (first : D) (since : ℕ) (v w : Volume D) (acks : List Ack) (s : State)
      → ((t u : ℕ) (c : Image) → t ≤ u → g.left_since (device_of v) u c → g.left_since (device_of v) t c)
      → GoesBy g v w s.tree s.count → IsSafeSince g first since (device_of v) acks s → IsSafeSince g first since (device_of w) acks (moved_to g w s)
  keeps_view first since v w acks s earlier time safe =
      safe_more g first since (device_of w) acks (with_view s s.view (g.call_count (device_of w))) (moved_to g w s) (λ p h. h) (omega arith) safe.here refl refl
      (safe_then g first since (device_of v) (device_of w) acks s earlier time safe)

  -- a command
  keeps_step : (first : D) (since : ℕ) (v w : Volume D) (acks : List Ack) (s : State) (c : Command)
      → ((t u : ℕ) (i : Image) → t ≤ u → g.left_since (device_of v) u i → g.left_since (device_of v) t i)
      → GoesBy g v w s.tree s.count → IsSafeSince g first since (device_of v) acks s → IsSafeSince g first since (device_of w) acks (stepped_to g w s c)
  keeps_step first since v w acks s c earlier time safe =
      let b : Bool = writes c && is_done (step s.tree c).1 in
      safe_more g first since (device_of w) acks (with_view s s.view (g.call_count (device_of w))) (stepped_to g w s c)
      (λ p h. wider_by b s.passed (point (step s.tree c).0 (s.count + accepted c (step s.tree c).1)) p h)
      (omega arith)
      (here_by b s.passed s.tree (step s.tree c).0 s.count (stays_by (refusal_of s.tree c) s.tree c) safe.here) refl refl
      (safe_then g first since (device_of v) (device_of w) acks s earlier time safe)

  -- no fewer calls were made
  calls_later : (first : D) (since : ℕ) (v w : Volume D) (acks : List Ack) (s : State) → GoesBy g v w s.tree s.count → IsSafeSince g first since (device_of v) acks s
      → s.calls ≤ g.call_count (device_of w)
  calls_later first since v w acks s time safe = omega (arith, time.later, safe.calls)

  -- the volume moves on, with its acknowledgements as they were: tree and count stay
  pub view_carries : (first : D) (since : ℕ) (k : Acknowledged D) (w : Volume D) (s : State)
      → ((t u : ℕ) (c : Image) → t ≤ u → g.left_since (device_below k) u c → g.left_since (device_below k) t c)
      → GoesBy g k.volume w s.tree s.count → KeptAt g first since k s → Carries g w s (moved_to g w s) (KeptAt g first since (record k { volume = w }))
  view_carries first since k w s earlier time kept = record {
    later = calls_later first since k.volume w k.acks.items s time kept.safe;
    lift = λ at. record { at = at; safe = keeps_view first since k.volume w k.acks.items s earlier time kept.safe };
  }

  -- by a command
  pub step_carries : (first : D) (since : ℕ) (k : Acknowledged D) (w : Volume D) (s : State) (c : Command)
      → ((t u : ℕ) (i : Image) → t ≤ u → g.left_since (device_below k) u i → g.left_since (device_below k) t i)
      → GoesBy g k.volume w s.tree s.count → KeptAt g first since k s → Carries g w s (stepped_to g w s c) (KeptAt g first since (record k { volume = w }))
  step_carries first since k w s c earlier time kept = record {
    later = calls_later first since k.volume w k.acks.items s time kept.safe;
    lift = λ at. record { at = at; safe = keeps_step first since k.volume w k.acks.items s c earlier time kept.safe };
  }

-- ---- transcripts

served_passed : (moves : View → View → Type 0) (fills : ℕ → ℕ → View → View → Type 0) (s after : State) (said : LineReply) → Serves moves fills s said after → after.passed ≡ s.passed
served_passed moves fills s after (reply.Command r) h = absurd h
served_passed moves fills s after (reply.Unread refusal) h = absurd h
served_passed moves fills s after (reply.Walk visits height) h = absurd h
served_passed moves fills s after reply.Done h = ap (λ (u : State). u.passed) h.1
served_passed moves fills s after (reply.Free free slots) h = absurd h
served_passed moves fills s after (reply.Full free need) h = ap (λ (u : State). u.passed) h.1
served_passed moves fills s after reply.Stopped h = absurd h

-- each point that was passed stays so
still : (s after : State) (p : Point) → after.passed ≡ s.passed → Contains s.passed p → Contains after.passed p
still s after p same was = subst (λ (ps : List Point). Contains ps p) (sym same) was

answered_passed : (s : State) (c : Command) (said : LineReply) (after : State) → Answers s c said after → (p : Point) → Contains s.passed p → Contains after.passed p
answered_passed s c (reply.Command r) after h p was =
    subst (λ (ps : List Point). Contains ps p) (sym (ap (λ (u : State). u.passed) h.after_is))
    (wider_by (writes c && is_done (step s.tree c).1) s.passed (point (step s.tree c).0 (s.count + accepted c (step s.tree c).1)) p was)
answered_passed s c (reply.Unread refusal) after h p was = absurd h
answered_passed s c (reply.Walk visits height) after h p was = absurd h
answered_passed s c reply.Done after h p was = absurd h
answered_passed s c (reply.Free free slots) after h p was = absurd h
answered_passed s c (reply.Full free need) after h p was = still s after p (ap (λ (u : State). u.passed) h.after_is) was
answered_passed s c reply.Stopped after h p was = absurd h

followed_passed : (s : State) (l : LineMeaning) (said : LineReply) (after : State) → Follows s l said after → (p : Point) → Contains s.passed p → Contains after.passed p
followed_passed s (Ok (Run c)) said after h p was = answered_passed s c said after h p was
followed_passed s (Ok Walk) said after h p was = still s after p (ap (λ (u : State). u.passed) h.1) was
followed_passed s (Ok Df) said after h p was = still s after p (ap (λ (u : State). u.passed) h.1) was
followed_passed s (Ok Sync) said after h p was = still s after p (ap (λ (u : State). u.passed) h.1) was
followed_passed s (Ok Checkpoint) said after h p was = still s after p (served_passed Saves FillsCheckpoint s after said h) was
followed_passed s (Ok Reclaim) said after h p was = still s after p (served_passed IsReclaim FillsReclaim s after said h) was
followed_passed s (Ok Stop) said after h p was = still s after p (ap (λ (u : State). u.passed) h.1) was
followed_passed s (Err refusal) said after h p was = still s after p (ap (λ (u : State). u.passed) h.1) was

transcript_passed : (s : State) (es : List Entry) → IsTranscript s es → (p : Point) → Contains s.passed p → Contains (state_after s es).passed p
transcript_passed s [] h p was = was
transcript_passed s (e ∷ es) h p was =
    transcript_passed e.state es h.1 p (lifts (λ (a b : State). (q : Point) → Contains a.passed q → Contains b.passed q) followed_passed (λ a b kept f. f) s e.line e.said e.state h.0.follows p was)

-- also once all was made durable
pub closed_passed : (end : Option Fault) (stopped : Bool) (calls : ℕ) (s : State) (es : List Entry) → IsTranscript s es → (p : Point) → Contains s.passed p
    → Contains (closed end stopped calls (state_after s es)).passed p
closed_passed None true calls s es h p was = transcript_passed s es h p was
closed_passed None false calls s es h p was = transcript_passed s es h p was
closed_passed (Some e) stopped calls s es h p was = transcript_passed s es h p was
