-- An export that one tree answers writes the stream of the tree.
use Rattle.std.proofs.Common.{◌≡◌, ℕ, zero, suc, ◌≤◌, List, [], ◌++◌, true, false, Option, None, Some, refl, sym, ap, subst, ◌∙◌, arith}
use Rattle.std.specs.Prelude.{is_some, IsSome, ◌↔◌}
use Rattle.std.specs.FinMap.{get}
use Rattle.bd_names.specs.Names.{parent_of}
use Rattle.bd_names.proofs.NamesLaws.{parent_of-none}
use Rattle.bd_command.specs.Command.{IsShortPath}
use Rattle.bd_command.specs.declared.Command.{Command}
use Rattle.bd_command.specs.declared.Command.TheVariants.{Stat}
use Rattle.bd_command.specs.declared.reply.Reply.{Reply}
use Rattle.bd_command.specs.declared.reply.Reply.TheVariants.{Refused}
use Rattle.bd_command.specs.declared.refusal.Refusal.TheVariants.{NotFound}
use Rattle.bd_model.specs.Tree.{Path, Entry, Tree, IsTree}
use Rattle.bd_model.specs.Step.{step, stepped, absent_refusal}
use Rattle.bd_model.proofs.Accepted.{absent_below}
use Rattle.bd_stream.specs.declared.stage.Stage.{Stage}
use Rattle.bd_stream.specs.declared.stage.Stage.TheVariants.{Look, Piece, Inside, Beside, Whole, Absent, Overlong}
use Rattle.bd_stream.specs.Streams.{stream_of}
use Rattle.bd_stream.specs.Exporting.{Export, Move, begin, stays_at, put, looked_at, head_in, asked_in, answered_in, asked, answered, ask_beside, last_name}
use Rattle.bd_stream.specs.Answering.{why_not}
use Rattle.bd_stream.specs.Exports.{rest_of, IsOn, IsOnIn, Continues, IsOnWay, next_by, answers, exported}
use Rattle.bd_stream.proofs.MoveLemmas.{put_continues}
use Rattle.bd_stream.proofs.AnswerLemmas.{answer_goes, begins_on, begins_all}

-- ---- where the exported path isn't there

none_there : (t : Tree) → IsTree t → (top below : Path) → get t top ≡ None → IsSome (get t (top ++ below)) → ⊥
none_there t tree top below none some = (let gone : is_some (get t (top ++ below)) ≡ false = ap is_some (absent_below t tree top below none) in let there : is_some (get t (top ++ below)) ≡ true = some in cc)

absent_in : (t : Tree) → IsTree t → (s : Export) (c : Command) (stage : Stage) → IsOnIn stage t s → asked_in stage s ≡ Some c → get t s.top ≡ None → answered_in stage s (step t c).1 ≡ stays_at Absent s
absent_in t tree s c Look on ask none =
    let same : c ≡ Stat (s.top ++ s.below) = cc in
    let reply : (step t (Stat (s.top ++ s.below))).1 ≡ Refused NotFound = ap (λ (o : Option Entry). (stepped t (Stat (s.top ++ s.below)) (absent_refusal o)).1) (absent_below t tree s.top s.below none) in
    ap (λ (k : Command). looked_at s (head_in s.below (step t k).1)) same ∙ ap (λ (r : Reply). looked_at s (head_in s.below r)) reply
absent_in t tree s c (Piece off left) on ask none = absurd (none_there t tree s.top s.below none (ap is_some on.there))
absent_in t tree s c Inside on ask none = absurd (none_there t tree s.top s.below none (ap is_some on.1))
absent_in t tree s c Beside on ask none = absurd (none_there t tree s.top s.below none on.1)
absent_in t tree s c Whole on ask none = cc
absent_in t tree s c Absent on ask none = cc
absent_in t tree s c Overlong on ask none = cc

pub absent_answer : (t : Tree) (s : Export) (c : Command) → IsTree t → IsOn t s → asked s ≡ Some c → get t s.top ≡ None → answered s (step t c).1 ≡ stays_at Absent s
absent_answer t s c tree on ask none = absent_in t tree s c s.stage on ask none

-- ---- one answer

-- where something is asked there was no fault, and it isn't the end
going : (stage : Stage) (t : Tree) (s : Export) (c : Command) (left : List ℕ) (m : Move) → asked_in stage s ≡ Some c → Continues stage t left m → left ≡ m.1 ++ rest_of t m.0
going Look t s c left m ask is = is
going (Piece off n) t s c left m ask is = is
going Inside t s c left m ask is = is
going Beside t s c left m ask is = is
going Whole t s c left m ask is = cc
going Absent t s c left m ask is = cc
going Overlong t s c left m ask is = cc

-- it is on its way, and has written nothing where the exported path isn't there
record Way (t : Tree) (path : Path) (m : Move) : Type 0 where
  pub way : IsOnWay t path m
  pub nothing : get t path ≡ None → m.1 ≡ []

way_continues : (stage : Stage) (t : Tree) (left written : List ℕ) (a : Move) → (stage ≡ Absent → written ≡ []) → Continues stage t left a → Continues stage t (written ++ left) (put written a)
way_continues Look t left written a none is = put_continues Look t left written a (λ e. cc) is
way_continues (Piece off n) t left written a none is = put_continues (Piece off n) t left written a (λ e. cc) is
way_continues Inside t left written a none is = put_continues Inside t left written a (λ e. cc) is
way_continues Beside t left written a none is = put_continues Beside t left written a (λ e. cc) is
way_continues Whole t left written a none is = put_continues Whole t left written a (λ e. cc) is
way_continues Absent t left written a none is = ap (λ (l : List ℕ). l ++ a.1) (none refl) ∙ is
way_continues Overlong t left written a none is = put_continues Overlong t left written a (λ e. cc) is

on_absent : (stage : Stage) (t : Tree) (s : Export) → IsOnIn stage t s → stage ≡ Absent → get t s.top ≡ None
on_absent Look t s on e = cc
on_absent (Piece off n) t s on e = cc
on_absent Inside t s on e = cc
on_absent Beside t s on e = cc
on_absent Whole t s on e = cc
on_absent Absent t s on e = on
on_absent Overlong t s on e = cc

way_next : (t : Tree) → IsTree t → (path : Path) (m : Move) (c : Command) → Way t path m → asked m.0 ≡ Some c → Way t path (next_by t m (Some c))
way_next t tree path m c w ask =
    let a = answered m.0 (step t c).1 in
    let g = answer_goes t m.0 c tree w.way.on ask in
    let top : a.0.top ≡ path = g.top ∙ w.way.top in
    let left : stream_of t path ≡ m.1 ++ rest_of t m.0 = going m.0.stage t m.0 c (stream_of t path) m ask w.way.written in
    let none : a.0.stage ≡ Absent → m.1 ≡ [] = λ e. w.nothing (ap (get t) (sym top) ∙ on_absent a.0.stage t a.0 g.on e) in
    record {
      way = record {
        top = top;
        on = g.on;
        written = subst (λ (l : List ℕ). Continues a.0.stage t l (put m.1 a)) (sym left) (way_continues a.0.stage t (rest_of t m.0) m.1 a none g.written);
      };
      nothing = λ gone. ap (λ (l : List ℕ). l ++ a.1) (w.nothing gone) ∙ ap (λ (x : Move). x.1) (absent_answer t m.0 c tree w.way.on ask (ap (get t) w.way.top ∙ gone));
    }

way_by : (t : Tree) → IsTree t → (path : Path) (m : Move) (o : Option Command) → asked m.0 ≡ o → Way t path m → Way t path (next_by t m o)
way_by t tree path m None ask w = w
way_by t tree path m (Some c) ask w = way_next t tree path m c w ask

way_answers : (n : ℕ) (t : Tree) → IsTree t → (path : Path) (m : Move) → Way t path m → Way t path (answers n t m)
way_answers zero t tree path m w = w
way_answers (suc n) t tree path m w = way_answers n t tree path (next_by t m (asked m.0)) (way_by t tree path m (asked m.0) refl w)

way_begins : (t : Tree) (path : Path) → IsShortPath path → Way t path (begin path, [])
way_begins t path short =
    record {
      way = record { top = refl; on = begins_on t path short; written = sym (begins_all t path) };
      nothing = λ gone. refl;
    }

-- after any number of answers it is on its way
pub export_way : (n : ℕ) (t : Tree) (path : Path) → IsTree t → IsShortPath path → IsOnWay t path (exported n t path)
export_way n t path tree short = (way_answers n t tree path (begin path, []) (way_begins t path short)).way

-- ---- the end

ends_by : (stage : Stage) (t : Tree) (s : Export) (left : List ℕ) (m : Move) → IsOnIn stage t s → asked_in stage s ≡ None → why_not stage ≡ None → Continues stage t left m → m.1 ≡ left
ends_by Look t s left m on ask why is = cc
ends_by (Piece off n) t s left m on ask why is = cc
ends_by Inside t s left m on ask why is = cc
ends_by Beside t s left m on ask why is = absurd (on.0 (parent_of-none s.below (none_by (parent_of s.below) ask)))
  where
    none_by : (o : Option Path) → ask_beside s.top o (last_name s.below) ≡ None → o ≡ None
    none_by None e = refl
    none_by (Some d) e = cc
ends_by Whole t s left m on ask why is = sym is
ends_by Absent t s left m on ask why is = cc
ends_by Overlong t s left m on ask why is = cc

-- where nothing is asked any more, and there was no fault, the stream was written
pub export_whole : (n : ℕ) (t : Tree) (path : Path) → IsTree t → IsShortPath path → asked (exported n t path).0 ≡ None → why_not (exported n t path).0.stage ≡ None → (exported n t path).1 ≡ stream_of t path
export_whole n t path tree short ask why =
    let x = exported n t path in
    let w = export_way n t path tree short in
    ends_by x.0.stage t x.0 (stream_of t path) x w.on ask why w.written

-- ---- refusals

stays_absent : (n : ℕ) (t : Tree) (m : Move) → m.0.stage ≡ Absent → (answers n t m).0.stage ≡ Absent
stays_absent zero t m e = e
stays_absent (suc n) t m e =
    let none : asked m.0 ≡ None = ap (λ (g : Stage). asked_in g m.0) e in
    subst (λ (o : Option Command). (answers n t (next_by t m o)).0.stage ≡ Absent) (sym none) (stays_absent n t m e)

first_absent : (n : ℕ) (t : Tree) (path : Path) → IsTree t → IsShortPath path → 1 ≤ n → get t path ≡ None → (exported n t path).0.stage ≡ Absent
first_absent zero t path tree short h gone = absurd (omega arith)
first_absent (suc n) t path tree short h gone =
    let c = Stat (path ++ []) in
    let at = absent_answer t (begin path) c tree (begins_on t path short) refl gone in
    stays_absent n t (next_by t (begin path, []) (Some c)) (ap (λ (x : Move). x.0.stage) at)

-- it is refused exactly where the exported path isn't there
pub export_refused : (n : ℕ) (t : Tree) (path : Path) → IsTree t → IsShortPath path → 1 ≤ n → ((exported n t path).0.stage ≡ Absent) ↔ (get t path ≡ None)
export_refused n t path tree short h =
    let x = exported n t path in
    let w = export_way n t path tree short in
    (λ e. ap (get t) (sym w.top) ∙ on_absent x.0.stage t x.0 w.on e, first_absent n t path tree short h)
