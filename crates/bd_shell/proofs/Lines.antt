-- One line: its reply, or its fault.
use Rattle.std.proofs.Common.{◌≡◌, ℕ, ◌⊎◌, Bool, true, false, cond, List, inl, inr, refl, sym, ap, subst, ◌∙◌, arith}
use Rattle.std.specs.declared.option.Option.{Option}
use Rattle.std.specs.declared.result.Result.{Result}
use Rattle.std.specs.declared.result.Result.TheVariants.{Ok, Err}
use Rattle.std.specs.Prelude.{◌+◌, ◌^◌, ◌<◌, ◌≤◌, ◌&&◌, MatchBool, IsNone, IsSome, IfOk, IfErr, OnOk}
use Rattle.std.proofs.lemmas.Bool.{cases_lt}
use Rattle.bd_command.specs.Command.{writes, is_done, accepted}
use Rattle.bd_command.specs.declared.Command.{Command}
use Rattle.bd_command.specs.declared.refusal.Refusal.{Refusal}
use Rattle.bd_command.specs.declared.reply.Reply.{Reply}
use Rattle.bd_message.specs.declared.fault.Counter.{Counter}
use Rattle.bd_message.specs.declared.fault.Counter.TheVariants.{Epoch}
use Rattle.bd_graft.specs.declared.grafting.Walk.{Walk as WalkTaken}
use Rattle.bd_represent.specs.Represents.{Represents}
use Rattle.bd_model.specs.Tree.{Tree}
use Rattle.bd_model.specs.Step.{step, refusal_of}
use Rattle.bd_device.specs.Blocks.{Image}
use Rattle.bd_device.specs.declared.device.Device.{Ghosts}
use Rattle.bd_script.specs.Lines.{LineMeaning, IsLine, is_stop}
use Rattle.bd_script.specs.Replies.{IsLineReply}
use Rattle.bd_script.specs.declared.line.Line.{Line}
use Rattle.bd_script.specs.declared.line.Line.TheVariants.{Run, Walk, Df, Sync, Checkpoint, Reclaim, Stop}
use Rattle.bd_script.specs.declared.replies.LineReply.{LineReply}
use Rattle.bd_script.specs.declared.replies.LineReply.TheVariants as reply
use Rattle.bd_view.specs.Views.{View, keys_of, free_slots, save_slots}
use Rattle.bd_view.specs.Moves.{HasStepped, IsAccepted, Saves, IsCommandFull, IsCheckpointFull}
use Rattle.bd_view.specs.Reclaiming.{IsReclaim, IsReclaimFull}
use Rattle.bd_checkpoint.specs.Recovering.{IsBadIn}
use Rattle.bd_volume.specs.Volume.{StandsFor, view_of, device_of}
use Rattle.bd_volume.specs.Wears.{Wears, HasBegunReclaiming, WearsReclaiming}
use Rattle.bd_volume.specs.declared.volume.Volume.{Volume}
use Rattle.bd_volume.specs.declared.fault.Fault.{Fault as VolumeFault}
use Rattle.bd_volume.specs.declared.fault.Fault.TheVariants as volume
use Rattle.bd_shell.specs.declared.fault.Fault.{Fault}
use Rattle.bd_shell.specs.declared.fault.Fault.TheVariants.{Device, Damaged, Memory, Worn, Sink}
use Rattle.bd_io.specs.Cause.{Rose}
use Rattle.bd_shell.specs.Fault.{Faults, IsCaused}
use Rattle.bd_shell.specs.Transcript.{State, with_view, synced_state, IsCommandReply, IsDoneOrFull, HasAcked, MayGet, Follows, Moves, acks_due, told, told_free}
use Rattle.bd_shell.specs.Session.{IsLeftBy, LeavesBy, Later, WornBy}
use Rattle.bd_shell.specs.Shell.{VolumeAt, Replies, Wore, is_stopped, counts_of, IsOutcome, IsLineFault, LineFails, NamesBad, NamesBadAt}
use Rattle.bd_shell.specs.declared.outcome.Ack.{Ack}
use Rattle.bd_shell.proofs.Acks.{acks_none, acks_as}
use Rattle.bd_shell.proofs.Keeping.{Carries, moved_to, stepped_to}

-- ---- what a volume stands for after a line

-- the nodes of the view represent the tree
represented : {D : Type 0} (g : Ghosts D) (v : Volume D) (s : State) → VolumeAt g v s → Represents (keys_of s.view) s.tree
represented g v s at = subst (λ w. Represents (keys_of w) s.tree) at.view_is at.stands.represents

-- a volume stands for the state with its own view
at_view : {D : Type 0} (g : Ghosts D) (v w : Volume D) (s : State) → ((t : Tree) (n : ℕ) → StandsFor g v t n → StandsFor g w t n) → VolumeAt g v s
    → VolumeAt g w (moved_to g w s)
at_view g v w s stays at = record { stands = stays s.tree s.count at.stands; view_is = refl }

-- `last` holds of the state after the line where the volume stands for it
replies_by : {D : Type 0} (g : Ghosts D) (v : Volume D) (s after : State) (line : LineMeaning) (said : LineReply) (last : State → Type 0)
    → Follows s line said after → VolumeAt g v after → Carries g v s after last → Replies s line said last
replies_by g v s after line said last follows at carries = record {
  after = after;
  follows = follows;
  later = carries.later;
  represents = represented g v after at;
  reached = carries.lift at;
}

-- where `last` holds of it anyway
carries_any : {D : Type 0} (g : Ghosts D) (v : Volume D) (s after : State) (last : State → Type 0) → s.calls ≤ after.calls → last after → Carries g v s after last
carries_any g v s after last later h = record { later = later; lift = λ _. h }

-- ---- replies

moves_by : (b : Bool) (P Q : Type 0) → (◌≡◌ {A = ℕ} (cond b 1 0) 1 → P) → (◌≡◌ {A = ℕ} (cond b 1 0) 0 → Q) → MatchBool b P Q
moves_by true P Q moved unmoved = moved refl
moves_by false P Q moved unmoved = unmoved refl

-- a command's reply is the step's, and the view moves by it
pub run_replies : {D : Type 0} (g : Ghosts D) (v w : Volume D) (s : State) (line : Line) (c : Command) (said : Reply) → VolumeAt g v s → line ≡ Run c
    → IsLine line → said ≡ (step s.tree c).1 → StandsFor g w (step s.tree c).0 (s.count + accepted c said)
    → (accepted c said ≡ 1 → IsAccepted s.tree c (view_of g v) (view_of g w)) → (accepted c said ≡ 0 → view_of g w ≡ view_of g v)
    → (last : State → Type 0) → Carries g w s (stepped_to g w s c) last → Replies s (Ok line) (reply.Command said) last
run_replies g v w s line c said at is limits said_is stands moved unmoved last carries =
    let after : State = stepped_to g w s c in
    let move : Moves s.tree c said (view_of g v) (view_of g w) =
    moves_by (writes c && is_done said) (IsAccepted s.tree c (view_of g v) (view_of g w)) (view_of g w ≡ view_of g v) moved unmoved in
    let follows : Follows s (Ok (Run c)) (reply.Command said) after = record {
      limits = subst IsLine is limits;
      said_is = said_is;
      after_is = refl;
      moved = subst (λ r. Moves s.tree c r s.view (view_of g w)) said_is (subst (λ old. Moves s.tree c said old (view_of g w)) at.view_is move);
    } in
    replies_by g w s after (Ok line) (reply.Command said) last (subst (λ l. Follows s (Ok l) (reply.Command said) after) (sym is) follows) (record {
      stands = subst (λ r. StandsFor g w (step s.tree c).0 (s.count + accepted c r)) said_is stands;
      view_is = refl;
    }) carries

-- a line that leaves the volume, with a reply that follows from the state
stays_replies : {D : Type 0} (g : Ghosts D) (v : Volume D) (s : State) (meaning same : LineMeaning) (said : LineReply) (last : State → Type 0) → VolumeAt g v s
    → last s → meaning ≡ same → Follows s same said s → Replies s meaning said last
stays_replies g v s meaning same said last at h is follows =
    replies_by g v s s meaning said last (subst (λ m. Follows s m said s) (sym is) follows) at (carries_any g v s s last (omega arith) h)

-- `walk` tells the walk of the view
pub walk_replies : {D : Type 0} (g : Ghosts D) (v : Volume D) (s : State) (line : Line) (walk : WalkTaken) (last : State → Type 0) → VolumeAt g v s → last s
    → line ≡ Walk → walk ≡ (view_of g v).tree.walk → Replies s (Ok line) (told walk) last
walk_replies g v s line walk last at h is same =
    stays_replies g v s (Ok line) (Ok Walk) (told walk) last at h (ap Ok is) (ap told (same ∙ ap (λ (x : View). x.tree.walk) at.view_is), refl)

-- `df` tells the slots of the view
pub df_replies : {D : Type 0} (g : Ghosts D) (v : Volume D) (s : State) (line : Line) (free slots : ℕ) (last : State → Type 0) → VolumeAt g v s → last s
    → line ≡ Df → free ≡ free_slots (view_of g v) → slots ≡ (view_of g v).slots → Replies s (Ok line) (reply.Free free slots) last
df_replies g v s line free slots last at h is free_is slots_is =
    stays_replies g v s (Ok line) (Ok Df) (reply.Free free slots) last at h (ap Ok is) (
      ap (λ n. reply.Free n slots) free_is ∙ ap (λ n. reply.Free (free_slots (view_of g v)) n) slots_is ∙ ap told_free at.view_is,
      refl,
    )

-- all is made durable, and the reply says so
pub sync_replies : {D : Type 0} (g : Ghosts D) (v : Volume D) (s : State) (calls : ℕ) (line : Line) (last : State → Type 0) → s.calls ≤ calls
    → VolumeAt g v (synced_state s calls) → last (synced_state s calls) → line ≡ Sync → Replies s (Ok line) reply.Done last
sync_replies g v s calls line last later at h is =
    replies_by g v s (synced_state s calls) (Ok line) reply.Done last (subst (λ l. Follows s (Ok l) reply.Done (synced_state s calls)) (sym is) (refl, refl)) at
    (carries_any g v s (synced_state s calls) last later h)

pub stop_replies : {D : Type 0} (g : Ghosts D) (v : Volume D) (s : State) (calls : ℕ) (line : Line) (last : State → Type 0) → s.calls ≤ calls
    → VolumeAt g v (synced_state s calls) → last (synced_state s calls) → line ≡ Stop → Replies s (Ok line) reply.Stopped last
stop_replies g v s calls line last later at h is =
    replies_by g v s (synced_state s calls) (Ok line) reply.Stopped last (subst (λ l. Follows s (Ok l) reply.Stopped (synced_state s calls)) (sym is) (refl, refl)) at
    (carries_any g v s (synced_state s calls) last later h)

pub unread_replies : {D : Type 0} (g : Ghosts D) (v : Volume D) (s : State) (meaning : LineMeaning) (r : Refusal) (last : State → Type 0) → VolumeAt g v s → last s
    → meaning ≡ Err r → Replies s meaning (reply.Unread r) last
unread_replies g v s meaning r last at h is = stays_replies g v s meaning (Err r) (reply.Unread r) last at h is (refl, refl)

-- tree and count stay, and the view moves
moved_replies : {D : Type 0} (g : Ghosts D) (v w : Volume D) (s : State) (line same : Line) (said : LineReply) → VolumeAt g v s → line ≡ same
    → ((t : Tree) (n : ℕ) → StandsFor g v t n → StandsFor g w t n) → Follows s (Ok same) said (moved_to g w s) → (last : State → Type 0)
    → Carries g w s (moved_to g w s) last → Replies s (Ok line) said last
moved_replies g v w s line same said at is stays follows last carries =
    replies_by g w s (moved_to g w s) (Ok line) said last (subst (λ l. Follows s (Ok l) said (moved_to g w s)) (sym is) follows) (at_view g v w s stays at) carries

pub checkpoint_replies : {D : Type 0} (g : Ghosts D) (v w : Volume D) (s : State) (line : Line) → VolumeAt g v s → line ≡ Checkpoint
    → ((t : Tree) (n : ℕ) → StandsFor g v t n → StandsFor g w t n) → Saves (view_of g v) (view_of g w) → (last : State → Type 0) → Carries g w s (moved_to g w s) last
    → Replies s (Ok line) reply.Done last
checkpoint_replies g v w s line at is stays saves last carries =
    moved_replies g v w s line Checkpoint reply.Done at is stays (subst (λ old. Saves old (view_of g w)) at.view_is saves, refl) last carries

pub reclaim_replies : {D : Type 0} (g : Ghosts D) (v w : Volume D) (s : State) (line : Line) → VolumeAt g v s → line ≡ Reclaim
    → ((t : Tree) (n : ℕ) → StandsFor g v t n → StandsFor g w t n) → IsReclaim (view_of g v) (view_of g w) → (last : State → Type 0) → Carries g w s (moved_to g w s) last
    → Replies s (Ok line) reply.Done last
reclaim_replies g v w s line at is stays reclaims last carries =
    moved_replies g v w s line Reclaim reply.Done at is stays (subst (λ old. IsReclaim old (view_of g w)) at.view_is reclaims, refl) last carries

-- ---- too few slots

pub command_fills : {D : Type 0} (g : Ghosts D) (v w : Volume D) (s : State) (line : Line) (c : Command) (free need : ℕ) → VolumeAt g v s → line ≡ Run c
    → IsLine line → ((t : Tree) (n : ℕ) → StandsFor g v t n → StandsFor g w t n)
    → IsCommandFull c (view_of g v) (view_of g w) free need × IsNone (refusal_of s.tree c) → (last : State → Type 0) → Carries g w s (moved_to g w s) last
    → Replies s (Ok line) (reply.Full free need) last
command_fills g v w s line c free need at is limits stays h last carries =
    moved_replies g v w s line (Run c) (reply.Full free need) at is stays (record {
      limits = subst IsLine is limits;
      accepted = h.1;
      after_is = refl;
      full = subst (λ old. IsCommandFull c old (view_of g w) free need) at.view_is h.0;
    }) last carries

pub checkpoint_fills : {D : Type 0} (g : Ghosts D) (v w : Volume D) (s : State) (line : Line) (free need : ℕ) → VolumeAt g v s → line ≡ Checkpoint
    → ((t : Tree) (n : ℕ) → StandsFor g v t n → StandsFor g w t n) → IsCheckpointFull (view_of g v) free need × (w ≡ v)
    → (last : State → Type 0) → Carries g w s (moved_to g w s) last → Replies s (Ok line) (reply.Full free need) last
checkpoint_fills g v w s line free need at is stays h last carries =
    moved_replies g v w s line Checkpoint (reply.Full free need) at is stays (
      (subst (λ old. IsCheckpointFull old free need) at.view_is h.0, ap (λ x. view_of g x) h.1 ∙ at.view_is),
      refl,
    ) last carries

pub reclaim_fills : {D : Type 0} (g : Ghosts D) (v w : Volume D) (s : State) (line : Line) (free need : ℕ) → VolumeAt g v s → line ≡ Reclaim
    → ((t : Tree) (n : ℕ) → StandsFor g v t n → StandsFor g w t n) → IsReclaimFull (view_of g v) free need (view_of g w)
    → (last : State → Type 0) → Carries g w s (moved_to g w s) last → Replies s (Ok line) (reply.Full free need) last
reclaim_fills g v w s line free need at is stays h last carries =
    moved_replies g v w s line Reclaim (reply.Full free need) at is stays (subst (λ old. IsReclaimFull old free need (view_of g w)) at.view_is h, refl) last carries

-- ---- what a fault leaves

pub command_leaves : {D : Type 0} (g : Ghosts D) (v w : Volume D) (s : State) (line : Line) (c : Command) → VolumeAt g v s → line ≡ Run c
    → ((t : Tree) (n : ℕ) → StandsFor g v t n → StandsFor g w t n) → HasStepped c (view_of g v) (view_of g w)
    → (IsSome (refusal_of s.tree c) → view_of g w ≡ view_of g v) → (last : State → Type 0) → Carries g w s (moved_to g w s) last
    → LeavesBy (IsLeftBy (Ok line) s) s last
command_leaves g v w s line c at is stays stepped refused last carries =
    subst (λ l. LeavesBy (IsLeftBy (Ok l) s) s last) (sym is) (record {
      left = view_of g w;
      left_by = record { stepped = subst (λ old. HasStepped c old (view_of g w)) at.view_is stepped; refused = λ some. refused some ∙ at.view_is };
      calls = g.call_count (device_of w);
      later = carries.later;
      reached = carries.lift (at_view g v w s stays at);
    })

pub checkpoint_leaves : {D : Type 0} (g : Ghosts D) (v w : Volume D) (s : State) (line : Line) → VolumeAt g v s → line ≡ Checkpoint
    → ((t : Tree) (n : ℕ) → StandsFor g v t n → StandsFor g w t n) → view_of g w ≡ view_of g v → (last : State → Type 0) → Carries g w s (moved_to g w s) last
    → LeavesBy (IsLeftBy (Ok line) s) s last
checkpoint_leaves g v w s line at is stays same last carries =
    subst (λ l. LeavesBy (IsLeftBy (Ok l) s) s last) (sym is) (record { left = view_of g w; left_by = same ∙ at.view_is; calls = g.call_count (device_of w); later = carries.later; reached = carries.lift (at_view g v w s stays at) })

pub reclaim_leaves : {D : Type 0} (g : Ghosts D) (v w : Volume D) (s : State) (line : Line) → VolumeAt g v s → line ≡ Reclaim
    → ((t : Tree) (n : ℕ) → StandsFor g v t n → StandsFor g w t n) → HasBegunReclaiming (view_of g v) (view_of g w) → (last : State → Type 0) → Carries g w s (moved_to g w s) last
    → LeavesBy (IsLeftBy (Ok line) s) s last
reclaim_leaves g v w s line at is stays begun last carries =
    subst (λ l. LeavesBy (IsLeftBy (Ok l) s) s last) (sym is) (record {
      left = view_of g w;
      left_by = subst (λ old. HasBegunReclaiming old (view_of g w)) at.view_is begun;
      calls = g.call_count (device_of w);
      later = carries.later;
      reached = carries.lift (at_view g v w s stays at);
    })

-- a sync that fails leaves the state, but for the number of calls
pub sync_leaves : (s : State) (line same : Line) (last : State → Type 0) → Later (with_view s s.view) last s → line ≡ same → IsLeftBy (Ok same) s s.view
    → LeavesBy (IsLeftBy (Ok line) s) s last
sync_leaves s line same last h is by =
    subst (λ l. LeavesBy (IsLeftBy (Ok l) s) s last) (sym is) (record { left = s.view; left_by = by; calls = h.calls; later = h.later; reached = h.reached })

-- its fault is the device's or memory's
pub sync_fails : (e : Fault) (line : LineMeaning) (s : State) (last : State → Type 0) → (e ≡ Device) ⊎ (e ≡ Memory) → LeavesBy (IsLeftBy line s) s last → LineFails e s line last
sync_fails e line s last (inl is) h = subst (λ f. LineFails f s line last) (sym is) h
sync_fails e line s last (inr is) h = subst (λ f. LineFails f s line last) (sym is) h

pub sync_kind : (e : Fault) → (e ≡ Device) ⊎ (e ≡ Memory) → IsLineFault e
sync_kind e (inl is) = subst IsLineFault (sym is) tt
sync_kind e (inr is) = subst IsLineFault (sym is) tt

-- ---- worn counters

wears_as : (which : Counter) (n m : ℕ) (c : Command) (old same new : View) → n ≡ m → old ≡ same → Wears which n c old new → Wears which m c same new
wears_as which n m c old same new e f h = subst (λ k. Wears which k c same new) e (subst (λ v. Wears which n c v new) f h)

pub command_wears : {D : Type 0} (g : Ghosts D) (v w : Volume D) (s : State) (line : Line) (c : Command) (which : Counter) → VolumeAt g v s → line ≡ Run c
    → ((t : Tree) (n : ℕ) → StandsFor g v t n → StandsFor g w t n)
    → Wears which s.count c (view_of g v) (view_of g w) × IsNone (refusal_of s.tree c) → (last : State → Type 0) → Carries g w s (moved_to g w s) last
    → Wore (WornBy which s (Ok line)) s last
command_wears g v w s line c which at is stays h last carries =
    subst (λ l. Wore (WornBy which s (Ok l)) s last) (sym is) (record {
      left = view_of g w;
      worn = record { accepted = h.1; wears = wears_as which s.count s.count c (view_of g v) s.view (view_of g w) refl at.view_is h.0 };
      calls = g.call_count (device_of w);
      later = carries.later;
      reached = carries.lift (at_view g v w s stays at);
    })

-- a checkpoint isn't short of slots where it is refused otherwise
has_room : (free save : ℕ) → (free < save → ⊥) → save ≤ free
has_room free save not_short = elim (cases_lt free save) [ inl short ↦ absurd (not_short short) | inr room ↦ room ]

pub not_full : {T : Type 0} (e : VolumeFault) (which : Counter) (free need : ℕ) → e ≡ volume.Worn which
    → ◌≡◌ {A = Result T VolumeFault} (Err e) (Err (volume.Full free need)) → ⊥
not_full e which free need worn full = cc

pub checkpoint_wears : {D : Type 0} (g : Ghosts D) (v w : Volume D) (s : State) (line : Line) (which : Counter) → VolumeAt g v s → line ≡ Checkpoint
    → ((t : Tree) (n : ℕ) → StandsFor g v t n → StandsFor g w t n) → view_of g w ≡ view_of g v
    → (free_slots (view_of g v) < save_slots (view_of g v) → ⊥) → (which ≡ Epoch) × (2 ^ 64 ≤ (view_of g v).epoch + 1) → (last : State → Type 0) → Carries g w s (moved_to g w s) last
    → Wore (WornBy which s (Ok line)) s last
checkpoint_wears g v w s line which at is stays same not_short h last carries =
    subst (λ l. Wore (WornBy which s (Ok l)) s last) (sym is) (record {
      left = view_of g w;
      worn = record {
        counter_is = h.0;
        room = subst (λ (x : View). save_slots x ≤ free_slots x) at.view_is (has_room (free_slots (view_of g v)) (save_slots (view_of g v)) not_short);
        worn = subst (λ (x : View). 2 ^ 64 ≤ x.epoch + 1) at.view_is h.1;
        left_is = same ∙ at.view_is;
      };
      calls = g.call_count (device_of w);
      later = carries.later;
      reached = carries.lift (at_view g v w s stays at);
    })

pub reclaim_wears : {D : Type 0} (g : Ghosts D) (v w : Volume D) (s : State) (line : Line) (which : Counter) → VolumeAt g v s → line ≡ Reclaim
    → ((t : Tree) (n : ℕ) → StandsFor g v t n → StandsFor g w t n) → WearsReclaiming which (view_of g v) (view_of g w) → (last : State → Type 0) → Carries g w s (moved_to g w s) last
    → Wore (WornBy which s (Ok line)) s last
reclaim_wears g v w s line which at is stays h last carries =
    subst (λ l. Wore (WornBy which s (Ok l)) s last) (sym is) (record {
      left = view_of g w;
      worn = subst (λ old. WearsReclaiming which old (view_of g w)) at.view_is h;
      calls = g.call_count (device_of w);
      later = carries.later;
      reached = carries.lift (at_view g v w s stays at);
    })

-- ---- what a fault of the volume is for its line

ok_as : {T : Type 0} (P : T → Type 0) (r s : Result T Fault) → r ≡ s → IfOk s P → IfOk r P
ok_as P r s is h = subst (λ x. IfOk x P) (sym is) h

err_as : {T : Type 0} (P : Fault → Type 0) (r s : Result T Fault) → r ≡ s → IfErr s P → IfErr r P
err_as P r s is h = subst (λ x. IfErr x P) (sym is) h

-- want of slots is a reply
pub outcome_ok : (e : VolumeFault) (r : Result LineReply Fault) (P : LineReply → Type 0) → IsOutcome e r
    → ((free need : ℕ) → e ≡ volume.Full free need → P (reply.Full free need)) → IfOk r P
outcome_ok volume.Device r P is full = ok_as P r (Err Device) is tt
outcome_ok (volume.Damaged block) r P is full = ok_as P r (Err (Damaged block)) is tt
outcome_ok (volume.Worn which) r P is full = ok_as P r (Err (Worn which)) is tt
outcome_ok volume.NoMemory r P is full = ok_as P r (Err Memory) is tt
outcome_ok (volume.Full free need) r P is full = ok_as P r (Ok (reply.Full free need)) is (full free need refl)
outcome_ok (volume.Stopped call) r P is full = absurd is

-- each other fault is the run's
pub outcome_err : {D : Type 0} (e : VolumeFault) (r : Result LineReply Fault) (line : LineMeaning) (first last : D → ℕ → State → Type 0) → IsOutcome e r
    → ((d : D) (n : ℕ) (s : State) → first d n s → LeavesBy (IsLeftBy line s) s (last d n))
    → ((block : ℕ) → e ≡ volume.Damaged block → (d : D) (n : ℕ) (s : State) → first d n s → ⊥)
    → ((which : Counter) → e ≡ volume.Worn which → (d : D) (n : ℕ) (s : State) → first d n s → Wore (WornBy which s line) s (last d n))
    → IfErr r (λ f. (d : D) (n : ℕ) (s : State) → first d n s → LineFails f s line (last d n))
outcome_err {D} volume.Device r line first last is leaves undamaged worn =
    err_as (λ f. (d : D) (n : ℕ) (s : State) → first d n s → LineFails f s line (last d n)) r (Err Device) is leaves
outcome_err {D} (volume.Damaged block) r line first last is leaves undamaged worn =
    err_as (λ f. (d : D) (n : ℕ) (s : State) → first d n s → LineFails f s line (last d n)) r (Err (Damaged block)) is (undamaged block refl)
outcome_err {D} (volume.Worn which) r line first last is leaves undamaged worn =
    err_as (λ f. (d : D) (n : ℕ) (s : State) → first d n s → LineFails f s line (last d n)) r (Err (Worn which)) is (worn which refl)
outcome_err {D} volume.NoMemory r line first last is leaves undamaged worn =
    err_as (λ f. (d : D) (n : ℕ) (s : State) → first d n s → LineFails f s line (last d n)) r (Err Memory) is leaves
outcome_err {D} (volume.Full free need) r line first last is leaves undamaged worn =
    err_as (λ f. (d : D) (n : ℕ) (s : State) → first d n s → LineFails f s line (last d n)) r (Ok (reply.Full free need)) is tt
outcome_err (volume.Stopped call) r line first last is leaves undamaged worn = absurd is

-- ---- damage

-- damage that ends a line is the volume's
pub outcome_damage : (e : VolumeFault) (r : Result LineReply Fault) (known : Option Image) → IsOutcome e r → ((block : ℕ) → e ≡ volume.Damaged block → IsBadIn known block) → NamesBad known r
outcome_damage volume.Device r known is bad = subst (NamesBad known) (sym is) tt
outcome_damage (volume.Damaged block) r known is bad = subst (NamesBad known) (sym is) (bad block refl)
outcome_damage (volume.Worn which) r known is bad = subst (NamesBad known) (sym is) tt
outcome_damage volume.NoMemory r known is bad = subst (NamesBad known) (sym is) tt
outcome_damage (volume.Full free need) r known is bad = subst (NamesBad known) (sym is) tt
outcome_damage (volume.Stopped call) r known is bad = absurd is

-- want of memory and a failed device name none
pub unnamed : (known : Option Image) (e : Fault) → (e ≡ Device) ⊎ (e ≡ Memory) → NamesBadAt known e
unnamed known e (inl is) = subst (NamesBadAt known) (sym is) tt
unnamed known e (inr is) = subst (NamesBadAt known) (sym is) tt

-- ---- causes, whatever the volume stands for

-- no call of the device and of the sink failed
caused_ok_at : {D T : Type 0} (g : Ghosts D) (d e : D) (sink later : ℕ) (x : T) → g.fault_count e ≡ g.fault_count d → later ≡ sink
    → IsCaused (counts_of g d sink) (counts_of g e later) (g.last_failed e) (Ok x)
caused_ok_at g d e sink later x same kept = record {
  later = record { device = omega (arith, same); source = omega arith; sink = omega (arith, kept) };
  kept = ap (λ n. record { device = n; source = 0; sink = later }) same ∙ ap (λ n. record { device = g.fault_count d; source = 0; sink = n }) kept;
  cause = tt;
}

-- ---- acknowledgements

-- those of a line, by what it means
pub acks_line : (line same : LineMeaning) (n : ℕ) (a b : List Ack) → line ≡ same → n ≡ acks_due same → HasAcked n a b → HasAcked (acks_due line) a b
acks_line line same n a b is count h = subst (λ l. HasAcked (acks_due l) a b) (sym is) (acks_as n (acks_due same) a b count h)

-- where the line makes nothing durable
pub acks_still : (line same : LineMeaning) (acks : List Ack) → line ≡ same → 0 ≡ acks_due same → HasAcked (acks_due line) acks acks
acks_still line same acks is count = acks_line line same 0 acks acks is count (acks_none acks)

-- what holds anyway holds where a result is Ok
pub on_ok_any : {T E : Type 0} (r : Result T E) (P : Type 0) → P → OnOk r P
on_ok_any (Ok x) P h = h
on_ok_any (Err e) P h = tt

-- ---- a fault or a reply as that of a call above

-- causes of a fault are causes of it in another result
pub fault_as : {T U : Type 0} (before now : Faults) (last : Bool) (e : Fault) → IsCaused {T = T} before now last (Err e) → IsCaused {T = U} before now last (Err e)
fault_as before now last e h = record { later = h.later; kept = tt; cause = h.cause }

-- the line was executed, and its reply written
pub wrote_caused : {D T U : Type 0} (g : Ghosts D) (d e : D) (sink later : ℕ) (x : T) (y : U) → IsCaused (counts_of g d sink) (counts_of g e sink) (g.last_failed e) (Ok x)
    → later ≡ sink → IsCaused (counts_of g d sink) (counts_of g e later) (g.last_failed e) (Ok y)
wrote_caused g d e sink later x y h same =
    caused_ok_at g d e sink later y (ap (λ (f : Faults). f.device) h.kept) same

-- the line was executed, and the sink failed
pub sink_caused : {D T U : Type 0} (g : Ghosts D) (d e : D) (sink later : ℕ) (x : T) → IsCaused (counts_of g d sink) (counts_of g e sink) (g.last_failed e) (Ok x)
    → sink ≤ later → Rose sink later → IsCaused {T = U} (counts_of g d sink) (counts_of g e later) (g.last_failed e) (Err Sink)
sink_caused g d e sink later x h few rose =
    let same : g.fault_count e ≡ g.fault_count d = ap (λ (f : Faults). f.device) h.kept in
    record {
      later = record { device = omega (arith, same); source = omega arith; sink = few };
      kept = tt;
      cause = (rose, ap (λ n. record { device = n; source = 0; sink = later }) same);
    }

-- ---- replies that a line may get

command_small : (said : LineReply) → IsCommandReply said → IsLineReply said
command_small (reply.Command r) h = h
command_small (reply.Unread refusal) h = tt
command_small (reply.Walk visits height) h = tt
command_small reply.Done h = tt
command_small (reply.Free free slots) h = tt
command_small (reply.Full free need) h = tt
command_small reply.Stopped h = tt

done_small : (said : LineReply) → IsDoneOrFull said → IsLineReply said
done_small (reply.Command r) h = absurd h
done_small (reply.Unread refusal) h = tt
done_small (reply.Walk visits height) h = tt
done_small reply.Done h = tt
done_small (reply.Free free slots) h = tt
done_small (reply.Full free need) h = tt
done_small reply.Stopped h = tt

-- they can be written
pub may_small : (line : LineMeaning) (said : LineReply) → MayGet line said → IsLineReply said
may_small (Ok (Run c)) said h = command_small said h
may_small (Ok Walk) said h = subst IsLineReply (sym h.2) tt
may_small (Ok Df) said h = subst IsLineReply (sym h.3) tt
may_small (Ok Sync) said h = subst IsLineReply (sym h) tt
may_small (Ok Checkpoint) said h = done_small said h
may_small (Ok Reclaim) said h = done_small said h
may_small (Ok Stop) said h = subst IsLineReply (sym h) tt
may_small (Err refusal) said h = subst IsLineReply (sym h) tt

command_goes_on : (said : LineReply) → IsCommandReply said → is_stopped said ≡ false
command_goes_on (reply.Command r) h = refl
command_goes_on (reply.Unread refusal) h = refl
command_goes_on (reply.Walk visits height) h = refl
command_goes_on reply.Done h = refl
command_goes_on (reply.Free free slots) h = refl
command_goes_on (reply.Full free need) h = refl
command_goes_on reply.Stopped h = absurd h

done_goes_on : (said : LineReply) → IsDoneOrFull said → is_stopped said ≡ false
done_goes_on (reply.Command r) h = refl
done_goes_on (reply.Unread refusal) h = refl
done_goes_on (reply.Walk visits height) h = refl
done_goes_on reply.Done h = refl
done_goes_on (reply.Free free slots) h = refl
done_goes_on (reply.Full free need) h = refl
done_goes_on reply.Stopped h = absurd h

-- `stop` alone ends the run
pub may_stop : (line : LineMeaning) (said : LineReply) → MayGet line said → is_stopped said ≡ is_stop line
may_stop (Ok (Run c)) said h = command_goes_on said h
may_stop (Ok Walk) said h = ap is_stopped h.2
may_stop (Ok Df) said h = ap is_stopped h.3
may_stop (Ok Sync) said h = ap is_stopped h
may_stop (Ok Checkpoint) said h = done_goes_on said h
may_stop (Ok Reclaim) said h = done_goes_on said h
may_stop (Ok Stop) said h = ap is_stopped h
may_stop (Err refusal) said h = ap is_stopped h
