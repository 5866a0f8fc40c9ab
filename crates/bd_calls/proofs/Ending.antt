-- What a volume stands for once all was made durable, and what a crash leaves then.
use Rattle.std.proofs.Common.{◌≡◌, ℕ, ◌<◌, Bool, true, false, cond, ◌||◌, List, [], ◌∷◌, length, refl, sym, ap, subst, arith, length-append}
use Rattle.std.specs.Prelude.{IfSome}
use Rattle.std.specs.List.{concat, list_any}
use Rattle.std.specs.declared.result.Result.TheVariants.{Ok, Err}
use Rattle.std.specs.declared.option.Option.{Option}
use Rattle.std.specs.declared.option.Option.TheVariants.{None, Some}
use Rattle.bd_wire.proofs.TextLemmas.{length-text16}
use Rattle.bd_command.specs.Log.{log_record, command_bytes}
use Rattle.bd_command.specs.declared.Command.{Command}
use Rattle.bd_model.specs.Tree.{Tree}
use Rattle.bd_device.specs.Blocks.{Image, HasBlocks}
use Rattle.bd_device.specs.Device.{left_now}
use Rattle.bd_device.specs.declared.device.Device.{Ghosts}
use Rattle.bd_image.specs.ImageTree.{LeadsOn, ImageStandsFor}
use Rattle.bd_checkpoint.specs.Kept.{AllStandFor}
use Rattle.bd_engine.specs.Stored.{HasSaved}
use Rattle.bd_script.specs.declared.line.Line.TheVariants.{Run, Walk, Df, Sync, Checkpoint, Reclaim, Stop}
use Rattle.bd_sessions.specs.Spoken.{Spoken, client_or_none, is_stop, is_stop_turn, up_to_stop}
use Rattle.bd_sessions.specs.Telling.{DoesTurn, FollowsSpoken}
use Rattle.bd_sessions.specs.Turns.{TurnMeaning}
use Rattle.bd_sessions.specs.declared.replies.TurnReply.{TurnReply}
use Rattle.bd_sessions.specs.declared.turn.Turn.TheVariants as turn
use Rattle.bd_view.specs.Views.{View}
use Rattle.bd_volume.specs.Volume.{IsSafe, StandsFor, view_of, device_of, stop_of}
use Rattle.bd_volume.specs.declared.volume.Volume.{Volume}
use Rattle.bd_shell.specs.Transcript.{State, Entry, IsTranscript, doing, executed, exchanges_of, state_after}
use Rattle.bd_shell.specs.Session.{closed}
use Rattle.bd_calls.specs.Work.{Shows}

-- ---- nothing waits

some_record : (c : Command) → length (log_record c) ≡ 0 → ⊥
some_record c none = omega (arith, none, length-text16 (command_bytes c))

-- records without a byte are none
none_waits : (version : ℕ) (rs : List (List ℕ)) (t u : Tree) → LeadsOn version rs t u → length (concat rs) ≡ 0 → rs ≡ []
none_waits version [] t u leads none = refl
none_waits version (r ∷ rs) t u leads none =
    absurd (some_record leads.0 (omega (arith, none, ap length leads.2, length-append r (concat rs))))

-- so what a crash leaves is not behind
safe_alone : (version : ℕ) (rs : List (List ℕ)) (left : Image → Type 0) (t : Tree) (n : ℕ) → IsSafe version rs left t n → length (concat rs) ≡ 0
    → AllStandFor t n left
safe_alone version rs left t n h none image was =
    let no_records : rs ≡ [] = none_waits version rs h.safe t h.leads none in
    let same : h.safe ≡ t = subst (λ l. LeadsOn version l h.safe t) no_records h.leads in
    let count : h.low ≡ n = omega (arith, h.counted, ap length no_records) in
    subst (λ m. ImageStandsFor t m image) count (subst (λ u. ImageStandsFor u h.low image) same (h.each image was))

pub settled_all : {D : Type 0} (g : Ghosts D) (v : Volume D) (t : Tree) (n : ℕ) → StandsFor g v t n → stop_of v ≡ None → (view_of g v).waiting ≡ 0
    → AllStandFor t n (left_now g (device_of v))
settled_all g v t n h going none = safe_alone _ _ (left_now g (device_of v)) t n (h.safe going) none

-- ---- the end of a script

-- a `stop` makes all durable
stop_idle : (s : State) (x : Spoken) (said : TurnReply) (after : State) → FollowsSpoken doing s x said after → is_stop x ≡ true → after.view.waiting ≡ 0
stop_idle s x said after h is = by x.turn h is
  where
    by : (t : TurnMeaning) → DoesTurn doing s (client_or_none x.client) t said after → is_stop_turn t ≡ true → after.view.waiting ≡ 0
    by (Ok (turn.Plain (Run c))) g e = cc
    by (Ok (turn.Plain Walk)) g e = cc
    by (Ok (turn.Plain Df)) g e = cc
    by (Ok (turn.Plain Sync)) g e = cc
    by (Ok (turn.Plain Checkpoint)) g e = cc
    by (Ok (turn.Plain Reclaim)) g e = cc
    by (Ok (turn.Plain Stop)) g e = ap (λ (u : State). u.view.waiting) g.served.1
    by (Ok (turn.Open path)) g e = cc
    by (Ok (turn.Read handle off len)) g e = cc
    by (Ok (turn.Write handle off bytes)) g e = cc
    by (Ok (turn.Stat handle)) g e = cc
    by (Ok (turn.Close handle)) g e = cc
    by (Err refusal) g e = cc

no_entries : (es : List Entry) → executed (exchanges_of es) ≡ [] → es ≡ []
no_entries [] h = refl
no_entries (e ∷ es) h = cc

-- a `stop` is the last line
stopped_idle : (s : State) (es : List Entry) (ls : List Spoken) → IsTranscript s es → executed (exchanges_of es) ≡ up_to_stop ls
    → list_any is_stop (executed (exchanges_of es)) ≡ true → (state_after s es).view.waiting ≡ 0
stopped_idle s [] ls h are some = cc
stopped_idle s (e ∷ es) [] h are some = cc
stopped_idle s (e ∷ es) (l ∷ ls) h are some =
    let first : e.line ≡ l = cc in
    let rest : executed (exchanges_of es) ≡ cond (is_stop l) [] (up_to_stop ls) = cc in
    by (is_stop l) (ap is_stop first) rest (stopped_idle e.state es ls h.1) some
  where
    by : (b : Bool) → is_stop e.line ≡ b → executed (exchanges_of es) ≡ cond b [] (up_to_stop ls)
        → (executed (exchanges_of es) ≡ up_to_stop ls → list_any is_stop (executed (exchanges_of es)) ≡ true → (state_after e.state es).view.waiting ≡ 0)
        → (is_stop e.line || list_any is_stop (executed (exchanges_of es))) ≡ true → (state_after e.state es).view.waiting ≡ 0
    by true is are more any =
        subst (λ (fs : List Entry). (state_after e.state fs).view.waiting ≡ 0) (sym (no_entries es are)) (stop_idle s e.line e.said e.state h.0.follows is)
    by false is are more any = more are (subst (λ b. (b || list_any is_stop (executed (exchanges_of es))) ≡ true) is any)

-- at the end all was made durable
pub closed_idle : (s : State) (es : List Entry) (ls : List Spoken) (calls : ℕ) → IsTranscript s es → executed (exchanges_of es) ≡ up_to_stop ls
    → (closed None (list_any is_stop (executed (exchanges_of es))) calls (state_after s es)).view.waiting ≡ 0
closed_idle s es ls calls h are = by (list_any is_stop (executed (exchanges_of es))) (stopped_idle s es ls h are)
  where
    by : (b : Bool) → (b ≡ true → (state_after s es).view.waiting ≡ 0) → (closed None b calls (state_after s es)).view.waiting ≡ 0
    by true idle = idle refl
    by false idle = refl

-- ---- what is shown

-- a known image of so many blocks that stands for a tree isn't empty
pub some_blocks : (t : Tree) (n blocks : ℕ) (known : Option Image) (image : Image) → known ≡ Some image → ImageStandsFor t n image
    → IfSome known (HasBlocks blocks) → 0 < blocks
some_blocks t n blocks known image is stands shape =
    let has : HasBlocks blocks image = subst (λ o. IfSome o (HasBlocks blocks)) is shape in
    omega (arith, has.count_is, stands.3.starts.live.held.size)

-- what reads give is among what a crash leaves
pub shown_by : (o : Option Image) (left : Image → Type 0) (view : View) (s : State) → view ≡ s.view → AllStandFor s.tree s.count left → IfSome o left
    → IfSome o (HasSaved view) → IfSome o (Shows s)
shown_by None left view s is all among saved = tt
shown_by (Some image) left view s is all among saved =
    record { stands = all image among; saved = subst (λ v. HasSaved v image) is saved }
