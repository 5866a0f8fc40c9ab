-- What the replies are to what an export asks of a volume that stands for a tree.
use Rattle.std.proofs.Common.{◌≡◌, ℕ, Bool, true, false, List, [], ◌∷◌, ◌++◌, length, refl, sym, ap, subst, ◌∙◌, append_assoc}
use Rattle.std.specs.Prelude.{IsSome, IsTrue}
use Rattle.std.specs.FinMap.{get}
use Rattle.std.specs.Io.KnownBytes.{append_known}
use Rattle.std.specs.declared.option.Option.{Option}
use Rattle.std.specs.declared.option.Option.TheVariants.{None, Some}
use Rattle.std.specs.declared.result.Result.TheVariants.{Ok}
use Rattle.std.proofs.lemmas.List.{append-nil}
use Rattle.bd_command.specs.Command.{IsShortPath, writes}
use Rattle.bd_command.specs.declared.Command.{Command}
use Rattle.bd_command.specs.declared.refusal.Refusal.TheVariants.{NotFound}
use Rattle.bd_command.specs.declared.reply.Reply.{Reply}
use Rattle.bd_model.specs.Tree.{Tree, IsTree}
use Rattle.bd_model.specs.Step.{step}
use Rattle.bd_model.proofs.TreeLaws.{after-reading}
use Rattle.bd_names.specs.Names.{parent_of}
use Rattle.bd_script.specs.declared.line.Line.TheVariants.{Run}
use Rattle.bd_script.specs.declared.replies.LineReply.{LineReply}
use Rattle.bd_script.specs.declared.replies.LineReply.TheVariants.{Command as Replied, Full as NoRoom}
use Rattle.bd_sessions.specs.Handles.{no_handles}
use Rattle.bd_sessions.specs.Spoken.{Spoken}
use Rattle.bd_sessions.specs.Telling.{FollowsSpoken}
use Rattle.bd_sessions.specs.declared.replies.TurnReply.{TurnReply}
use Rattle.bd_sessions.specs.declared.replies.TurnReply.TheVariants.{Line as Said}
use Rattle.bd_stream.specs.declared.stage.Stage.{Stage}
use Rattle.bd_stream.specs.declared.stage.Stage.TheVariants.{Look, Piece, Inside, Beside, Whole as Complete, Absent as Missing, Overlong}
use Rattle.bd_stream.specs.Importing.{Path}
use Rattle.bd_stream.specs.Exporting.{Export, Move, begin, asked, asked_in, ask_beside, answered, last_name}
use Rattle.bd_stream.specs.Answering.{why_not}
use Rattle.bd_stream.specs.Exports.{Continues as Leads, IsLongNext, IsOnIn, IsOnWay, answers, exported, next_by}
use Rattle.bd_stream.specs.Streams.{stream_of}
use Rattle.bd_stream.specs.declared.fault.ExportFault.TheVariants as why
use Rattle.bd_names.proofs.NamesLaws.{parent_of-none}
use Rattle.bd_stream.proofs.ExportLemmas.{export_way}
use Rattle.bd_shell.specs.Transcript.{State, Exchange, Entry, IsTranscript, HasTranscript, Known, commanded, doing, exchanges_of, exchange_of, Follows}
use Rattle.bd_shell.proofs.Alone.{alone_follows, follows_kept}
use Rattle.bd_shell.proofs.Executes.{append_known-nil}
use Rattle.bd_transfer.specs.declared.exporting.ExportEnd.TheVariants.{Whole, Absent, LongPath, Full}
use Rattle.bd_transfer.specs.declared.exporting.ExportEnd.{ExportEnd}
use Rattle.bd_transfer.specs.Asking.{Asks, Interviews, WritesSo, short}

-- ---- what is asked is read

asks_reading : (stage : Stage) (e : Export) (c : Command) → asked_in stage e ≡ Some c → writes c ≡ false
asks_reading Look e c is = by _ c is refl
  where
    by : (a b : Command) → Some a ≡ Some b → writes a ≡ false → writes b ≡ false
    by a b same h = cc
asks_reading (Piece off left) e c is = by _ c is refl
  where
    by : (a b : Command) → Some a ≡ Some b → writes a ≡ false → writes b ≡ false
    by a b same h = cc
asks_reading Inside e c is = by _ c is refl
  where
    by : (a b : Command) → Some a ≡ Some b → writes a ≡ false → writes b ≡ false
    by a b same h = cc
asks_reading Beside e c is = by (parent_of e.below) is
  where
    same : (a b : Command) → Some a ≡ Some b → writes a ≡ false → writes b ≡ false
    same a b k h = cc

    by : (o : Option Path) → ask_beside e.top o (last_name e.below) ≡ Some c → writes c ≡ false
    by None h = cc
    by (Some around) h = same _ c h refl
asks_reading Complete e c is = cc
asks_reading Missing e c is = cc
asks_reading Overlong e c is = cc

pub reads_only : (e : Export) (c : Command) → asked e ≡ Some c → writes c ≡ false
reads_only e c is = asks_reading e.stage e c is

-- ---- a reply

same_said : (a b : LineReply) → Said a ≡ Said b → a ≡ b
same_said a b is = cc

-- what follows of a question is the tree's reply, and the tree stays
pub record Replies (s : State) (c : Command) (r : Reply) (after : State) : Type 0 where
  pub said : r ≡ (step s.tree c).1
  pub tree : after.tree ≡ s.tree
  pub kept : after.kept ≡ no_handles

pub question_replies : (s after : State) (c : Command) (r : Reply) → s.kept ≡ no_handles → writes c ≡ false → FollowsSpoken doing s (commanded c) (Said (Replied r)) after
    → Replies s c r after
question_replies s after c r none reads h =
    let f = alone_follows s (Ok (Run c)) (Said (Replied r)) after none h in
    let same : f.0 ≡ Replied r = same_said f.0 (Replied r) (sym f.1) in
    let g : Follows s (Ok (Run c)) (Replied r) after = subst (λ k. Follows s (Ok (Run c)) k after) same f.2 in
    record {
      said = g.said_is;
      tree = ap (λ (u : State). u.tree) g.after_is ∙ after-reading s.tree c reads;
      kept = follows_kept s (Ok (Run c)) (Replied r) after g ∙ none;
    }

-- ---- all replies

-- a list of entries that begins with one
record Splits (es : List Entry) (x : Exchange) (xs : List Exchange) : Type 0 where
  entry : Entry
  rest : List Entry
  is : es ≡ entry ∷ rest
  first : exchange_of entry ≡ x
  more : exchanges_of rest ≡ xs

split : (es : List Entry) (x : Exchange) (xs : List Exchange) → exchanges_of es ≡ x ∷ xs → Splits es x xs
split [] x xs h = cc
split (e ∷ es) x xs h = record { entry = e; rest = es; is = refl; first = head_of (exchange_of e) x (exchanges_of es) xs h; more = tail_of (exchange_of e) x (exchanges_of es) xs h }
  where
    head_of : (a b : Exchange) (more rest : List Exchange) → a ∷ more ≡ b ∷ rest → a ≡ b
    head_of a b more rest k = cc

    tail_of : (a b : Exchange) (more rest : List Exchange) → a ∷ more ≡ b ∷ rest → more ≡ rest
    tail_of a b more rest k = cc

-- how far an export is, and what it wrote
abbrev moved : Export → List ℕ → Move
moved e w = (e, w)

-- the export's own replies are the tree's
pub interview_answers : (xs : List Exchange) (es : List Entry) (s : State) (e last : Export) (w out : List ℕ) → s.kept ≡ no_handles → IsTranscript s es → exchanges_of es ≡ xs
    → Interviews e xs last out → moved last (w ++ out) ≡ answers (length xs) s.tree (moved e w)
interview_answers [] es s e last w out none t same h = pair last e (w ++ out) w h.0 (ap (λ o. w ++ o) h.1 ∙ append-nil w)
  where
    pair : (a b : Export) (x y : List ℕ) → a ≡ b → x ≡ y → moved a x ≡ moved b y
    pair a b x y p q = cc
interview_answers (x ∷ xs) es s e last w out none t same h =
    let cut = split es x xs same in
    let u = cut.entry.state in
    let steps : IsTranscript s (cut.entry ∷ cut.rest) = subst (IsTranscript s) cut.is t in
    let c = h.2.command in
    let asks = h.2.asks in
    let line : cut.entry.line ≡ commanded c = ap (λ (k : Exchange). k.line) (cut.first ∙ h.2.exchange) in
    let said : cut.entry.said ≡ Said (Replied h.0) = ap (λ (k : Exchange). k.said) (cut.first ∙ h.2.exchange) in
    let follows : FollowsSpoken doing s (commanded c) (Said (Replied h.0)) u =
    subst (λ (l : Spoken). FollowsSpoken doing s l (Said (Replied h.0)) u) line (subst (λ (k : TurnReply). FollowsSpoken doing s cut.entry.line k u) said steps.0.follows) in
    let r = question_replies s u c h.0 none (reads_only e c asks) follows in
    let a = answered e h.0 in
    let rest = interview_answers xs cut.rest u a.0 last (w ++ a.1) h.1 r.kept steps.1 cut.more h.4 in
    ap (λ o. moved last (w ++ o)) h.3 ∙ ap (λ o. moved last o) (sym (append_assoc w a.1 h.1)) ∙ rest ∙ ap (λ t. answers (length xs) t (moved a.0 (w ++ a.1))) r.tree
    ∙ ap (answers (length xs) s.tree) (ap (λ k. moved (answered e k).0 (w ++ (answered e k).1)) r.said ∙ ap (next_by s.tree (moved e w)) (sym asks))

-- an export of a volume that stands for a tree is one of the tree
pub interview_exported : (s : State) (top : Path) (xs : List Exchange) (last : Export) (out : List ℕ) (at : State → Type 0) → s.kept ≡ no_handles → HasTranscript s xs at
    → Interviews (begin top) xs last out → moved last out ≡ exported (length xs) s.tree top
interview_exported s top xs last out at none h i = interview_answers xs h.entries s (begin top) last [] out none h.transcript h.exchanges_are i

-- so the export is on its way
pub interview_way : (s : State) (top : Path) (xs : List Exchange) (last : Export) (out : List ℕ) (at : State → Type 0) → s.kept ≡ no_handles → IsTree s.tree → IsShortPath top → HasTranscript s xs at
    → Interviews (begin top) xs last out → IsOnWay s.tree top (last, out)
interview_way s top xs last out at none tree short h i =
    subst (IsOnWay s.tree top) (sym (interview_exported s top xs last out at none h i)) (export_way (length xs) s.tree top tree short)

-- a transcript of lines that are these
of_front : (s : State) (xs ys : List Exchange) (at : State → Type 0) → xs ≡ ys → HasTranscript s xs at → HasTranscript s ys at
of_front s xs ys at is h = subst (λ l. HasTranscript s l at) is h

pub entries_way : (s : State) (top : Path) (es : List Entry) (last : Export) (out : List ℕ) → s.kept ≡ no_handles → IsTree s.tree → IsShortPath top → IsTranscript s es
    → Interviews (begin top) (exchanges_of es) last out → IsOnWay s.tree top (last, out)
entries_way s top es last out none tree short t i =
    subst (IsOnWay s.tree top) (sym (interview_answers (exchanges_of es) es s (begin top) last [] out none t refl i)) (export_way (length (exchanges_of es)) s.tree top tree short)

absent_in : (stage : Stage) (t : Tree) (e : Export) (left out : List ℕ) → IsOnIn stage t e → Leads stage t left (e, out) → why_not stage ≡ Some (why.Refused NotFound)
    → (get t e.top ≡ None) × (out ≡ [])
absent_in Look t e left out on is h = cc
absent_in (Piece off n) t e left out on is h = cc
absent_in Inside t e left out on is h = cc
absent_in Beside t e left out on is h = cc
absent_in Complete t e left out on is h = cc
absent_in Missing t e left out on is h = (on, is)
absent_in Overlong t e left out on is h = cc

-- slots are never short
pub never_short : (front : List Exchange) (es : List Entry) (s : State) (e last : Export) (out : List ℕ) (c : Command) (free need : ℕ) → s.kept ≡ no_handles → IsTranscript s es
    → exchanges_of es ≡ front ++ short c free need ∷ [] → Interviews e front last out → asked last ≡ Some c → ⊥
never_short [] es s e last out c free need none t same h asks =
    let cut = split es (short c free need) [] same in
    let u = cut.entry.state in
    let steps : IsTranscript s (cut.entry ∷ cut.rest) = subst (IsTranscript s) cut.is t in
    let line : cut.entry.line ≡ commanded c = ap (λ (k : Exchange). k.line) cut.first in
    let said : cut.entry.said ≡ Said (NoRoom free need) = ap (λ (k : Exchange). k.said) cut.first in
    let follows : FollowsSpoken doing s (commanded c) (Said (NoRoom free need)) u =
    subst (λ (l : Spoken). FollowsSpoken doing s l (Said (NoRoom free need)) u) line (subst (λ (k : TurnReply). FollowsSpoken doing s cut.entry.line k u) said steps.0.follows) in
    let f = alone_follows s (Ok (Run c)) (Said (NoRoom free need)) u none follows in
    let is : f.0 ≡ NoRoom free need = same_said f.0 (NoRoom free need) (sym f.1) in
    let g : Follows s (Ok (Run c)) (NoRoom free need) u = subst (λ k. Follows s (Ok (Run c)) k u) is f.2 in
    both (writes c) g.full.writing (reads_only last c asks)
  where
    both : (b : Bool) → IsTrue b → b ≡ false → ⊥
    both true h k = cc
    both false h k = cc
never_short (x ∷ xs) es s e last out c free need none t same h asks =
    let cut = split es x (xs ++ short c free need ∷ []) same in
    let u = cut.entry.state in
    let steps : IsTranscript s (cut.entry ∷ cut.rest) = subst (IsTranscript s) cut.is t in
    let line : cut.entry.line ≡ commanded h.2.command = ap (λ (k : Exchange). k.line) (cut.first ∙ h.2.exchange) in
    let said : cut.entry.said ≡ Said (Replied h.0) = ap (λ (k : Exchange). k.said) (cut.first ∙ h.2.exchange) in
    let follows : FollowsSpoken doing s (commanded h.2.command) (Said (Replied h.0)) u =
    subst (λ (l : Spoken). FollowsSpoken doing s l (Said (Replied h.0)) u) line (subst (λ (k : TurnReply). FollowsSpoken doing s cut.entry.line k u) said steps.0.follows) in
    let r = question_replies s u h.2.command h.0 none (reads_only e h.2.command h.2.asks) follows in
    never_short xs cut.rest u (answered e h.0).0 last h.1 c free need r.kept steps.1 cut.more h.4 asks

-- ---- what was written

-- a whole stream is all that is left
whole_in : (stage : Stage) (t : Tree) (e : Export) (left out : List ℕ) → IsOnIn stage t e → Leads stage t left (e, out) → asked_in stage e ≡ None → why_not stage ≡ None
    → IsSome (get t e.top) × (left ≡ out)
whole_in Look t e left out on is ask h = cc
whole_in (Piece off n) t e left out on is ask h = cc
whole_in Inside t e left out on is ask h = cc
whole_in Beside t e left out on is ask h = absurd (on.0 (parent_of-none e.below (none_by (parent_of e.below) ask)))
  where
    none_by : (o : Option Path) → ask_beside e.top o (last_name e.below) ≡ None → o ≡ None
    none_by None k = refl
    none_by (Some d) k = cc
whole_in Complete t e left out on is ask h = (on, is)
whole_in Missing t e left out on is ask h = cc
whole_in Overlong t e left out on is ask h = cc

long_in : (stage : Stage) (t : Tree) (e : Export) (left out : List ℕ) → IsOnIn stage t e → Leads stage t left (e, out) → why_not stage ≡ Some why.LongPath
    → IsSome (get t e.top) × IsLongNext t e.top left out
long_in Look t e left out on is h = cc
long_in (Piece off n) t e left out on is h = cc
long_in Inside t e left out on is h = cc
long_in Beside t e left out on is h = cc
long_in Complete t e left out on is h = cc
long_in Missing t e left out on is h = cc
long_in Overlong t e left out on is h = (on, is)

-- at each end
pub writes_so : (end : ExportEnd) (s : State) (top : Path) (first last : State → Type 0) (old new : Known) → s.kept ≡ no_handles → IsTree s.tree → IsShortPath top
    → Asks (Ok end) top first last old new → first s → WritesSo end s.tree top old new
writes_so Whole s top first last old new none tree short a at =
    let w = interview_way s top a.front a.export a.out _ none tree short (of_front s a.exchanges a.front _ a.came.1.exchanges (a.runs s at)) a.interview in
    let g = whole_in a.export.stage s.tree a.export (stream_of s.tree top) a.out w.on w.written a.came.0.0 a.came.0.1 in
    (subst (λ p. IsSome (get s.tree p)) w.top g.0, a.came.1.written ∙ ap (append_known old) (sym g.1))
writes_so Absent s top first last old new none tree short a at =
    let w = interview_way s top a.front a.export a.out _ none tree short (of_front s a.exchanges a.front _ a.came.1.exchanges (a.runs s at)) a.interview in
    let gone = absent_in a.export.stage s.tree a.export (stream_of s.tree top) a.out w.on w.written a.came.0 in
    (ap (get s.tree) (sym w.top) ∙ gone.0, a.came.1.written ∙ ap (append_known old) gone.1 ∙ append_known-nil old)
writes_so LongPath s top first last old new none tree short a at =
    let w = interview_way s top a.front a.export a.out _ none tree short (of_front s a.exchanges a.front _ a.came.1.exchanges (a.runs s at)) a.interview in
    let g = long_in a.export.stage s.tree a.export (stream_of s.tree top) a.out w.on w.written a.came.0 in
    record {
      there = subst (λ p. IsSome (get s.tree p)) w.top g.0;
      out = a.out;
      long = subst (λ p. IsLongNext s.tree p (stream_of s.tree top) a.out) w.top g.1;
      written = a.came.1.written;
    }
writes_so Full s top first last old new none tree short a at =
    let h = a.runs s at in
    never_short a.front h.entries s (begin top) a.export a.out a.came.command a.came.free a.came.need none h.transcript (h.exchanges_are ∙ a.came.exchanges) a.interview a.came.asks
