-- How much is kept: bytes of a stream by an importer, names by an exporter.
use Rattle.std.proofs.Common.{◌≡◌, ℕ, ◌+◌, ◌<◌, ◌≤◌, List, [], ◌∷◌, ◌++◌, ◌-◌, length, map, Bool, true, false, cond, Option, None, Some, refl, subst, arith}
use Rattle.std.specs.Prelude.{◌&&◌, nat_lt, ◌==◌, slice_index, unwrap_or}
use Rattle.std.proofs.lemmas.Bool.{ltb-false, leb-true, eqb-true}
use Rattle.bd_limits.specs.Limits.{write_limit, listing_limit}
use Rattle.bd_names.specs.Names.{parent_of}
use Rattle.bd_command.specs.declared.reply.Listed.{Listed}
use Rattle.bd_command.specs.declared.reply.Reply.{Reply}
use Rattle.bd_command.specs.declared.reply.Reply.TheVariants.{Done, Bytes, Dir, File, Names, Refused}
use Rattle.bd_model.specs.Tree.{Path, Name}
use Rattle.bd_stream.specs.declared.head.Head.{Head}
use Rattle.bd_stream.specs.declared.machine.Phase.{Phase}
use Rattle.bd_stream.specs.declared.machine.Phase.TheVariants.{Start, First, Next, Data, Ended, Bad, Long}
use Rattle.bd_stream.specs.declared.stage.Stage.{Stage}
use Rattle.bd_stream.specs.declared.stage.Stage.TheVariants.{Look, Piece, Inside, Beside, Whole, Absent, Overlong}
use Rattle.bd_stream.specs.Heads.{is_kind, path_count, head_size}
use Rattle.bd_stream.specs.Importing.{State, IsSound, need, head_need, is_long, short_path}
use Rattle.bd_stream.specs.Exporting.{Export, Move, stays_at, closed, next_at, listed, filed_in, filed, left_at, after_head, looked_at, head_in, pieced, piece_in, piece_size, named, names_after, are_rising, is_count, answered_in, answered, last_name}
use Rattle.bd_stream.proofs.WellLemmas.{chunk_fits}

-- ---- an importer

size_by : (tag : ℕ) (n : ℕ) → n ≤ 511 → 3 + n + cond (tag == 68) 2 6 ≤ write_limit
size_by tag n h = by (tag == 68)
  where
    by : (b : Bool) → 3 + n + cond b 2 6 ≤ write_limit
    by true = omega arith
    by false = omega arith

need_by : (t k l : Bool) (size : ℕ) → (l ≡ false → size ≤ write_limit) → cond t (cond k 3 1) (cond l 3 size) ≤ write_limit
need_by true true l size h = omega arith
need_by true false l size h = omega arith
need_by false k true size h = omega arith
need_by false k false size h = h refl

head_fits : (w : List ℕ) → head_need w ≤ write_limit
head_fits w =
    need_by (nat_lt (length w) 3) (is_kind (slice_index w 0)) (is_long w) (head_size w)
    (λ e. size_by (slice_index w 0) (path_count w) (ltb-false 511 (path_count w) e))

need_fits : (phase : Phase) (left : ℕ) (w : List ℕ) → need phase left w ≤ write_limit
need_fits Start left w = omega arith
need_fits First left w = head_fits w
need_fits Next left w = head_fits w
need_fits Data left w = chunk_fits left
need_fits Ended left w = omega arith
need_fits Bad left w = omega arith
need_fits Long left w = omega arith

-- fewer bytes wait than one write carries
pub few_wait : (s : State) → IsSound s → length s.waiting < write_limit
few_wait s h = omega (arith, h.waits, need_fits s.phase s.left s.waiting)

-- ---- an exporter

-- at most one listing of names is known
abbrev IsFew : Move → Type 0
IsFew m = length m.0.names ≤ listing_limit

closed_few : (s : Export) (d : Path) → IsFew (closed s d)
closed_few s d = omega arith

next_few : (s : Export) (below : Path) (ns : List Name) (o : Option Path) → length s.names ≤ listing_limit → length ns ≤ listing_limit → IsFew (next_at s below ns o)
next_few s below ns None h k = h
next_few s below ns (Some p) h k = k

listed_few : (s : Export) (d : Path) (ns : List Name) → length s.names ≤ listing_limit → length ns ≤ listing_limit → IsFew (listed s d ns)
listed_few s d [] h k = closed_few s d
listed_few s d (n ∷ ns) h k = next_few s (d ++ n ∷ []) ns (short_path (s.top ++ (d ++ n ∷ []))) h (omega arith)

filed_few : (s : Export) (o : Option Path) (ns : List Name) → length s.names ≤ listing_limit → length ns ≤ listing_limit → IsFew (filed_in s o ns)
filed_few s None ns h k = closed_few s s.below
filed_few s (Some d) [] h k = closed_few s s.below
filed_few s (Some d) (n ∷ ns) h k = next_few s (d ++ n ∷ []) ns (short_path (s.top ++ (d ++ n ∷ []))) h (omega arith)

left_few : (s : Export) (off left : ℕ) → length s.names ≤ listing_limit → IsFew (left_at s off left)
left_few s off left h = by (left == 0)
  where
    by : (b : Bool) → IsFew (cond b (filed s) (stays_at (Piece off left) s))
    by true = filed_few s (parent_of s.below) s.names h h
    by false = h

head_few : (s : Export) (len : Option ℕ) → length s.names ≤ listing_limit → IsFew (after_head s len)
head_few s None h = omega arith
head_few s (Some n) h = left_few s 0 n h

look_few : (s : Export) (o : Option Head) → length s.names ≤ listing_limit → IsFew (looked_at s o)
look_few s None h = h
look_few s (Some head) h = head_few s head.len h

piece_few : (s : Export) (off left : ℕ) (o : Option (List ℕ)) → length s.names ≤ listing_limit → IsFew (pieced s off left o)
piece_few s off left None h = h
piece_few s off left (Some bytes) h = left_few s (off + length bytes) (left - length bytes) h

length_names : (ls : List Listed) → length (map (λ (l : Listed). l.name) ls) ≡ length ls
length_names [] = refl
length_names (l ∷ ls) = (let rest = length_names ls in omega arith)

count_few : (more : Bool) (count : ℕ) → is_count more count ≡ true → count ≤ listing_limit
count_few true count h = omega (arith, eqb-true count listing_limit h)
count_few false count h = leb-true count listing_limit h

names_by : (b r : Bool) (ls : List Listed) (names : List Name) → (b ≡ true → length ls ≤ listing_limit) → cond (b && r) (Some (map (λ (l : Listed). l.name) ls)) None ≡ Some names → length names ≤ listing_limit
names_by true true ls names few e = (let same : map (λ (l : Listed). l.name) ls ≡ names = cc in subst (λ (l : List Name). length l ≤ listing_limit) same (omega (arith, few refl, length_names ls)))
names_by true false ls names few e = cc
names_by false r ls names few e = cc

names_few : (after : Name) (r : Reply) (names : List Name) → names_after after r ≡ Some names → length names ≤ listing_limit
names_few after Done names e = cc
names_few after (Bytes bytes) names e = cc
names_few after (Dir mode) names e = cc
names_few after (File len mode) names e = cc
names_few after (Names l) names e = names_by (is_count l.more (length l.names)) (are_rising after l.names) l.names names (count_few l.more (length l.names)) e
names_few after (Refused refusal) names e = cc

named_few : (s : Export) (d : Option Path) (o : Option (List Name)) → ((names : List Name) → o ≡ Some names → length names ≤ listing_limit) → length s.names ≤ listing_limit → IsFew (named s d o)
named_few s None o few h = h
named_few s (Some d) None few h = h
named_few s (Some d) (Some names) few h = listed_few s d names h (few names refl)

answer_few : (stage : Stage) (s : Export) (r : Reply) → length s.names ≤ listing_limit → IsFew (answered_in stage s r)
answer_few Look s r h = look_few s (head_in s.below r) h
answer_few (Piece off left) s r h = piece_few s off left (piece_in (piece_size left) r) h
answer_few Inside s r h = named_few s (Some s.below) (names_after [] r) (names_few [] r) h
answer_few Beside s r h = named_few s (parent_of s.below) (names_after (unwrap_or (last_name s.below) []) r) (names_few (unwrap_or (last_name s.below) []) r) h
answer_few Whole s r h = h
answer_few Absent s r h = h
answer_few Overlong s r h = h

-- an answer leaves at most one listing
pub few_names : (s : Export) (r : Reply) → length s.names ≤ listing_limit → length (answered s r).0.names ≤ listing_limit
few_names s r h = answer_few s.stage s r h
