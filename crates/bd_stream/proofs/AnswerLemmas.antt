-- The replies of one tree write the stream.
use Rattle.std.proofs.Common.{◌≡◌, ℕ, ◌+◌, ◌-◌, ◌<◌, ◌≤◌, List, [], ◌∷◌, ◌++◌, length, take, drop, Bool, true, false, cond, Option, None, Some, refl, sym, ap, subst, ◌∙◌, arith, append_assoc, append-nil}
use Rattle.std.specs.Prelude.{◌&&◌, nat_lt, nat_le, ◌==◌, unwrap_or, is_some, IsSome, IfSome}
use Rattle.std.specs.FinMap.{get}
use Rattle.std.proofs.lemmas.Bool.{ltb-true, ltb-false, le-leb, eq-eqb, eqb-true, eqb-false}
use Rattle.std.proofs.lemmas.List.{take-append-drop, length-take-le, length-drop, drop-drop, drop_all}
use Rattle.bd_limits.specs.Limits.{path_limit, file_limit, mode_limit, read_limit}
use Rattle.bd_names.specs.Names.{parent_of, path_text}
use Rattle.bd_names.proofs.NamesLaws.{parent_of-some}
use Rattle.bd_command.specs.Command.{IsShortPath}
use Rattle.bd_command.specs.declared.Command.{Command}
use Rattle.bd_command.specs.declared.Command.TheVariants.{Read, Stat, List as Ls}
use Rattle.bd_command.specs.declared.reply.Reply.{Reply}
use Rattle.bd_command.specs.declared.reply.Reply.TheVariants.{Bytes, Dir, File, Refused}
use Rattle.bd_command.specs.declared.refusal.Refusal.TheVariants.{NotFound}
use Rattle.bd_model.specs.Tree.{Path, Name, Entry, Directory, FileWith, Tree, IsTree, IsEntry}
use Rattle.bd_model.specs.Step.{file_bytes, step, stepped, absent_refusal, file_refusal, stat_reply}
use Rattle.bd_stream.specs.declared.head.Head.{Head}
use Rattle.bd_stream.specs.declared.stage.Stage.{Stage}
use Rattle.bd_stream.specs.declared.stage.Stage.TheVariants.{Look, Piece, Inside, Beside, Whole, Absent, Overlong}
use Rattle.bd_stream.specs.Heads.{head_bytes}
use Rattle.bd_stream.specs.Streams.{stream_of}
use Rattle.bd_stream.specs.Exporting.{Export, Move, begin, stays_at, last_name, magic_before, piece_size, filed, left_at, after_head, looked_at, head_in, pieced, piece_in, named, names_after, asked_in, answered_in, asked, answered, ask_beside}
use Rattle.bd_stream.specs.Exports.{from, beyond, past, ending, rest_in, rest_of, AreNext, IsLook, IsPiece, IsOn, IsOnIn, Continues, GoesOn}
use Rattle.bd_stream.proofs.OrderLemmas.{is_after, beyond_in, past_in, from_root}
use Rattle.bd_stream.proofs.EntryLemmas.{ending_next, ending_all}
use Rattle.bd_stream.proofs.PlaceLemmas.{last_name-append}
use Rattle.bd_stream.proofs.ListingLemmas.{IsListed, listed_reply}
use Rattle.bd_stream.proofs.MoveLemmas.{Leads, leads_put, filed_leads, listed_leads}

-- ---- the bytes of a file

left_by : (t : Tree) → IsTree t → (s : Export) (off left mode : ℕ) (bytes : List ℕ) (none : Bool) → (none ≡ true → left ≡ 0) → (none ≡ false → left ≡ 0 → ⊥) → get t (s.top ++ s.below) ≡ Some (FileWith mode bytes) → off + left ≡ length bytes → AreNext t s → Leads t s.top (drop off bytes ++ ending t s.top (beyond s.below)) (cond none (filed s) (stays_at (Piece off left) s))
left_by t tree s off left mode bytes true zeros some there size next =
    let nothing : drop off bytes ≡ [] = drop_all off bytes (let e : left ≡ 0 = zeros refl in omega arith) in
    subst (λ (l : List ℕ). Leads t s.top (l ++ ending t s.top (beyond s.below)) (filed s)) (sym nothing) (filed_leads t tree s mode bytes there next)
left_by t tree s off left mode bytes false zeros some there size next =
    record {
      top = refl;
      on = record { mode = mode; bytes = bytes; there = there; size = size; some = (let e : left ≡ 0 → ⊥ = some refl in omega arith); next = next };
      present = λ e. cc;
      written = ap (λ (x : Option Entry). drop off (file_bytes x) ++ ending t s.top (beyond s.below)) (sym there);
    }

-- so many bytes of a file are left
left_leads : (t : Tree) → IsTree t → (s : Export) (off left mode : ℕ) (bytes : List ℕ) → get t (s.top ++ s.below) ≡ Some (FileWith mode bytes) → off + left ≡ length bytes → AreNext t s → Leads t s.top (drop off bytes ++ ending t s.top (beyond s.below)) (left_at s off left)
left_leads t tree s off left mode bytes there size next = left_by t tree s off left mode bytes (left == 0) (eqb-true left 0) (eqb-false left 0) there size next

size_by : (b : Bool) (left : ℕ) → (b ≡ true → left < read_limit) → (b ≡ false → read_limit ≤ left) → cond b left read_limit ≤ left
size_by true left h g = omega arith
size_by false left h g = g refl

piece_le : (left : ℕ) → piece_size left ≤ left
piece_le left = size_by (nat_lt left read_limit) left (ltb-true left read_limit) (ltb-false left read_limit)

-- ---- an answer, by what is asked

-- the same of what is left at a stage
record Goes (stage : Stage) (t : Tree) (s : Export) (m : Move) : Type 0 where
  pub top : m.0.top ≡ s.top
  pub on : IsOn t m.0
  pub written : Continues m.0.stage t (rest_in stage t s) m

goes_by : (stage : Stage) (t : Tree) (s : Export) (left : List ℕ) (m : Move) → rest_in stage t s ≡ left → Leads t s.top left m → Goes stage t s m
goes_by stage t s left m same h =
    record { top = h.top; on = h.on; written = subst (λ (l : List ℕ). Continues m.0.stage t l m) (sym same) h.written }

piece_goes : (t : Tree) → IsTree t → (s : Export) (off left : ℕ) → IsPiece t s off left → Goes (Piece off left) t s (pieced s off left (piece_in (piece_size left) (step t (Read (s.top ++ s.below) off (piece_size left))).1))
piece_goes t tree s off left on =
    let size = piece_size left in
    let bytes = on.bytes in
    let chunk = take size (drop off bytes) in
    let small = piece_le left in
    let count : length chunk ≡ size = length-take-le size (drop off bytes) (omega (arith, length-drop off bytes, on.size, small)) in
    let reply : (step t (Read (s.top ++ s.below) off size)).1 ≡ Bytes chunk = ap (λ (x : Option Entry). (stepped t (Read (s.top ++ s.below) off size) (file_refusal x)).1) on.there ∙ ap (λ (x : Option Entry). Bytes (take size (drop off (file_bytes x)))) on.there in
    let given : piece_in size (step t (Read (s.top ++ s.below) off size)).1 ≡ Some chunk = ap (piece_in size) reply ∙ ap (λ (b : Bool). cond b (Some chunk) None) (eq-eqb (length chunk) size count) in
    let total : (off + length chunk) + (left - length chunk) ≡ length bytes = omega (arith, count, small, on.size) in
    let rest : drop (off + length chunk) bytes ≡ drop size (drop off bytes) = ap (λ (n : ℕ). drop n bytes) (let e : off + length chunk ≡ off + size = omega (arith, count) in e) ∙ sym (drop-drop size off bytes) in
    let after = left_leads t tree s (off + length chunk) (left - length chunk) on.mode bytes on.there total on.next in
    let whole : rest_in (Piece off left) t s ≡ chunk ++ (drop (off + length chunk) bytes ++ ending t s.top (beyond s.below)) =
    ap (λ (x : Option Entry). drop off (file_bytes x) ++ ending t s.top (beyond s.below)) on.there
    ∙ ap (λ (l : List ℕ). l ++ ending t s.top (beyond s.below)) (sym (take-append-drop size (drop off bytes)) ∙ ap (λ (l : List ℕ). chunk ++ l) (sym rest))
    ∙ append_assoc chunk (drop (off + length chunk) bytes) (ending t s.top (beyond s.below)) in
    goes_by (Piece off left) t s (chunk ++ (drop (off + length chunk) bytes ++ ending t s.top (beyond s.below))) (pieced s off left (piece_in size (step t (Read (s.top ++ s.below) off size)).1)) whole
    (subst (λ (o : Option (List ℕ)). Leads t s.top (chunk ++ (drop (off + length chunk) bytes ++ ending t s.top (beyond s.below))) (pieced s off left o)) (sym given)
    (leads_put t s.top (drop (off + length chunk) bytes ++ ending t s.top (beyond s.below)) chunk (left_at s (off + length chunk) (left - length chunk)) after))

-- ---- the names in a directory

named_leads : (t : Tree) → IsTree t → (s : Export) (d : Path) (mode : ℕ) (lo : Option Name) (P : Path → Bool) → get t (s.top ++ d) ≡ Some (Directory mode) → ((p : Path) (y : Entry) → get t (s.top ++ p) ≡ Some y → P p ≡ Rattle.bd_stream.proofs.OrderLemmas.left_in (is_after lo) d p) → Leads t s.top (ending t s.top P) (named s (Some d) (names_after (unwrap_or lo []) (step t (Ls (s.top ++ d) lo)).1))
named_leads t tree s d mode lo P there agree =
    let l : IsListed t (s.top ++ d) lo (step t (Ls (s.top ++ d) lo)).1 = listed_reply t tree (s.top ++ d) mode lo there in
    subst (λ (o : Option (List Name)). Leads t s.top (ending t s.top P) (named s (Some d) o)) (sym l.given)
    (listed_leads t tree s d (Directory mode) lo l.names l.more P there l.whole l.none agree)

directory_is : (o : Option Entry) → Rattle.bd_model.specs.Tree.has_directory o ≡ true → (mode : ℕ) × (o ≡ Some (Directory mode))
directory_is None h = cc
directory_is (Some (Directory mode)) h = (mode, refl)
directory_is (Some (FileWith mode bytes)) h = cc

beside_by : (t : Tree) → IsTree t → (s : Export) (c : Command) → IsSome (get t (s.top ++ s.below)) → (o : Option Path) → parent_of s.below ≡ o → ask_beside s.top o (last_name s.below) ≡ Some c → Leads t s.top (ending t s.top (past s.below)) (named s o (names_after (unwrap_or (last_name s.below) []) (step t c).1))
beside_by t tree s c there None above ask = cc
beside_by t tree s c there (Some d) above ask =
    let cut = parent_of-some s.below d above in
    let last : last_name s.below ≡ Some cut.0 = ap last_name cut.1 ∙ last_name-append d cut.0 in
    let under : IsSome (get t ((s.top ++ d) ++ cut.0 ∷ [])) = subst (λ (q : Path). IsSome (get t q)) (ap (λ (q : Path). s.top ++ q) cut.1 ∙ sym (append_assoc s.top d (cut.0 ∷ []))) there in
    let dir = directory_is (get t (s.top ++ d)) (tree.parents (s.top ++ d) cut.0 under) in
    let same : c ≡ Ls (s.top ++ d) (last_name s.below) = cc in
    subst (λ (k : Command). Leads t s.top (ending t s.top (past s.below)) (named s (Some d) (names_after (unwrap_or (last_name s.below) []) (step t k).1))) (sym same)
    (named_leads t tree s d dir.0 (last_name s.below) (past s.below) dir.1 (λ p y h. ap (λ (q : Path). past q p) cut.1 ∙ past_in d p cut.0 ∙ ap (λ (o : Option Name). Rattle.bd_stream.proofs.OrderLemmas.left_in (is_after o) d p) (sym last)))

-- ---- what stands at the path

entry_fits : (t : Tree) → IsTree t → (p : Path) (x : Entry) → get t p ≡ Some x → IsEntry x
entry_fits t tree p x there = subst (λ (o : Option Entry). IfSome o IsEntry) there (tree.entries p)

both_true : (a b : Bool) → a ≡ true → b ≡ true → (a && b) ≡ true
both_true true b e f = f
both_true false b e f = cc

look_reply : (t : Tree) (p : Path) (x : Entry) → get t p ≡ Some x → (step t (Stat p)).1 ≡ stat_reply (Some x)
look_reply t p x there =
    ap (λ (o : Option Entry). (stepped t (Stat p) (absent_refusal o)).1) there ∙ ap stat_reply there

look_there : (t : Tree) → IsTree t → (s : Export) (x : Entry) → get t (s.top ++ s.below) ≡ Some x → AreNext t s → Leads t s.top (magic_before s.below ++ ending t s.top (from s.below)) (looked_at s (head_in s.below (stat_reply (Some x))))
look_there t tree s (Directory mode) there next =
    let q = s.below in
    let head : Head = record { path = q; mode = mode; len = None } in
    let read : head_in q (Dir mode) ≡ Some head = ap (λ (b : Bool). cond b (Some head) None) (le-leb mode mode_limit (entry_fits t tree (s.top ++ q) (Directory mode) there)) in
    let left = ending t s.top (beyond q) in
    let inside : Leads t s.top left (after_head s None) = record { top = refl; on = (mode, there); present = λ e. cc; written = refl } in
    let whole : magic_before q ++ ending t s.top (from q) ≡ (magic_before q ++ head_bytes head) ++ left = ap (λ (l : List ℕ). magic_before q ++ l) (ending_next t s.top q (Directory mode) there ∙ ap (λ (l : List ℕ). l ++ left) (append-nil (head_bytes head))) ∙ sym (append_assoc (magic_before q) (head_bytes head) left) in
    subst (λ (o : Option Head). Leads t s.top (magic_before q ++ ending t s.top (from q)) (looked_at s o)) (sym read)
    (subst (λ (l : List ℕ). Leads t s.top l (looked_at s (Some head))) (sym whole) (leads_put t s.top left (magic_before q ++ head_bytes head) (after_head s None) inside))
look_there t tree s (FileWith mode bytes) there next =
    let q = s.below in
    let n = length bytes in
    let head : Head = record { path = q; mode = mode; len = Some n } in
    let fits = entry_fits t tree (s.top ++ q) (FileWith mode bytes) there in
    let read : head_in q (File n mode) ≡ Some head = ap (λ (b : Bool). cond b (Some head) None) (both_true (nat_le mode mode_limit) (nat_le n file_limit) (le-leb mode mode_limit fits.2) (le-leb n file_limit fits.0)) in
    let left = bytes ++ ending t s.top (beyond q) in
    let rest : Leads t s.top left (left_at s 0 n) = left_leads t tree s 0 n mode bytes there (omega arith) next in
    let whole : magic_before q ++ ending t s.top (from q) ≡ (magic_before q ++ head_bytes head) ++ left = ap (λ (l : List ℕ). magic_before q ++ l) (ending_next t s.top q (FileWith mode bytes) there ∙ append_assoc (head_bytes head) bytes (ending t s.top (beyond q))) ∙ sym (append_assoc (magic_before q) (head_bytes head) left) in
    subst (λ (o : Option Head). Leads t s.top (magic_before q ++ ending t s.top (from q)) (looked_at s o)) (sym read)
    (subst (λ (l : List ℕ). Leads t s.top l (looked_at s (Some head))) (sym whole) (leads_put t s.top left (magic_before q ++ head_bytes head) (left_at s 0 n) rest))

root_absent : (t : Tree) (s : Export) → IsLook t s → get t (s.top ++ s.below) ≡ None → get t s.top ≡ None
root_absent t s on none = by s.below refl
  where
    by : (q : Path) → s.below ≡ q → get t s.top ≡ None
    by [] is = ap (get t) (sym (append-nil s.top)) ∙ ap (λ (q : Path). get t (s.top ++ q)) (sym is) ∙ none
    by (n ∷ q) is = absurd (let yes : is_some (get t (s.top ++ s.below)) ≡ true = on.there (λ e. (let clash : n ∷ q ≡ [] = sym is ∙ e in cc)) in let no : is_some (get t (s.top ++ s.below)) ≡ false = ap is_some none in cc)

look_goes : (t : Tree) → IsTree t → (s : Export) → IsLook t s → Goes Look t s (looked_at s (head_in s.below (step t (Stat (s.top ++ s.below))).1))
look_goes t tree s on = by (get t (s.top ++ s.below)) refl
  where
    by : (o : Option Entry) → get t (s.top ++ s.below) ≡ o → Goes Look t s (looked_at s (head_in s.below (step t (Stat (s.top ++ s.below))).1))
    by None is =
        let reply : (step t (Stat (s.top ++ s.below))).1 ≡ Refused NotFound = ap (λ (o : Option Entry). (stepped t (Stat (s.top ++ s.below)) (absent_refusal o)).1) is in
        subst (λ (r : Reply). Goes Look t s (looked_at s (head_in s.below r))) (sym reply)
        (record { top = refl; on = root_absent t s on is; written = refl })
    by (Some x) is =
        subst (λ (r : Reply). Goes Look t s (looked_at s (head_in s.below r))) (sym (look_reply t (s.top ++ s.below) x is))
        (goes_by Look t s (magic_before s.below ++ ending t s.top (from s.below)) (looked_at s (head_in s.below (stat_reply (Some x)))) refl (look_there t tree s x is on.next))

-- ---- an answer

goes_in : (t : Tree) → IsTree t → (s : Export) (c : Command) (stage : Stage) → IsOnIn stage t s → asked_in stage s ≡ Some c → Goes stage t s (answered_in stage s (step t c).1)
goes_in t tree s c Look on ask =
    let same : c ≡ Stat (s.top ++ s.below) = cc in
    subst (λ (k : Command). Goes Look t s (looked_at s (head_in s.below (step t k).1))) (sym same) (look_goes t tree s on)
goes_in t tree s c (Piece off left) on ask =
    let same : c ≡ Read (s.top ++ s.below) off (piece_size left) = cc in
    subst (λ (k : Command). Goes (Piece off left) t s (pieced s off left (piece_in (piece_size left) (step t k).1))) (sym same) (piece_goes t tree s off left on)
goes_in t tree s c Inside on ask =
    let same : c ≡ Ls (s.top ++ s.below) None = cc in
    subst (λ (k : Command). Goes Inside t s (named s (Some s.below) (names_after [] (step t k).1))) (sym same)
    (goes_by Inside t s (ending t s.top (beyond s.below)) (named s (Some s.below) (names_after [] (step t (Ls (s.top ++ s.below) None)).1)) refl
    (named_leads t tree s s.below on.0 None (beyond s.below) on.1 (λ p y h. beyond_in s.below p)))
goes_in t tree s c Beside on ask =
    goes_by Beside t s (ending t s.top (past s.below)) (named s (parent_of s.below) (names_after (unwrap_or (last_name s.below) []) (step t c).1)) refl
    (beside_by t tree s c on.1 (parent_of s.below) refl ask)
goes_in t tree s c Whole on ask = cc
goes_in t tree s c Absent on ask = cc
goes_in t tree s c Overlong on ask = cc

-- an answer of the tree leads on
pub answer_goes : (t : Tree) (s : Export) (c : Command) → IsTree t → IsOn t s → asked s ≡ Some c → GoesOn t s (answered s (step t c).1)
answer_goes t s c tree on ask =
    let g = goes_in t tree s c s.stage on ask in
    record { top = g.top; on = g.on; written = g.written }

-- ---- the beginning

-- an export that begins is one of each tree
pub begins_on : (t : Tree) (top : Path) → IsShortPath top → IsOn t (begin top)
begins_on t top short =
    record {
      there = λ some. absurd (some refl);
      short = subst (λ (q : Path). length (path_text q) ≤ path_limit) (sym (append-nil top)) short.1;
      next = refl;
    }

-- all of the stream is left then
pub begins_all : (t : Tree) (top : Path) → rest_of t (begin top) ≡ stream_of t top
begins_all t top =
    ap (λ (l : List ℕ). Rattle.bd_stream.specs.Importing.magic ++ l) (ending_all t top (from []) (λ p y h. from_root p))
