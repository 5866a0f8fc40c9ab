-- A stream that is fed gives the commands of its entries.
use Rattle.std.proofs.Common.{◌≡◌, ◌≢◌, ℕ, ◌+◌, ◌<◌, ◌≤◌, List, [], ◌∷◌, ◌++◌, length, Bool, true, false, cond, Option, None, Some, refl, sym, ap, subst, ◌∙◌, arith, length-append, length-drop, append_assoc, append-nil}
use Rattle.std.specs.Prelude.{slice_index, ◌==◌, is_none}
use Rattle.std.specs.List.{flat_map, AllByRecursion}
use Rattle.std.specs.Int.{w16, w32}
use Rattle.std.proofs.lemmas.Bool.{le-ltb}
use Rattle.bd_names.specs.Names.{path_text}
use Rattle.bd_wire.specs.Numbers.{be, number_at}
use Rattle.bd_wire.specs.Text.{text16}
use Rattle.bd_wire.proofs.NumberLemmas.{length-be, number_at-be}
use Rattle.bd_command.specs.Command.{IsShortPath}
use Rattle.bd_command.specs.declared.Command.{Command}
use Rattle.bd_model.specs.Tree.{Path, Entry, Directory, FileWith, is_directory}
use Rattle.bd_model.specs.Step.{Placed, file_bytes}
use Rattle.bd_stream.specs.declared.head.Head.{Head}
use Rattle.bd_stream.specs.declared.machine.Phase.TheVariants.{First, Next, Ended, Bad, Long}
use Rattle.bd_stream.specs.Heads.{relative_text, head_around, head_bytes, head_of, head_size, is_kind, path_count, tail_size}
use Rattle.bd_stream.specs.Importing.{State, Turn, go, start, magic, head_need, is_long, tag_turn, found_turn, placed_turn, quietly, end_phase, is_in_order, short_path, entered, head_commands, taken, fed}
use Rattle.bd_stream.specs.Streams.{head_at, len_of, entry_bytes, stream_bytes, entry_commands, writes_at, FitsBelow, AreInOrder, IsStreamFor}
use Rattle.bd_stream.proofs.PathLemmas.{is_short}
use Rattle.bd_stream.proofs.NeedLemmas.{need_after}
use Rattle.bd_stream.proofs.HeadLemmas.{head_again}
use Rattle.bd_stream.proofs.FedLemmas.{fed-nil, fed-cons, fed-append}
use Rattle.bd_stream.proofs.GatherLemmas.{with_waiting, midway, fed_gather, front_shorter, file_fed}

-- ---- a head

need_by : (w : List ℕ) → 3 ≤ length w → is_long w ≡ false → head_need w ≡ head_size w
need_by w h long =
    ap (λ (t : Bool). cond t (cond (is_kind (slice_index w 0)) 3 1) (cond (is_long w) 3 (head_size w))) (le-ltb (length w) 3 h)
    ∙ ap (λ (t : Bool). cond t 3 (head_size w)) long

-- the fronts of a head are too short
front_short : (w v x : List ℕ) → is_kind (slice_index w 0) ≡ true → is_long w ≡ false → length w ≡ head_size w → w ≡ v ++ x → x ≢ [] → length v < head_need v
front_short w [] x k long size e n = omega arith
front_short w (a ∷ []) x k long size e n =
    let kind : is_kind a ≡ true = ap (λ (l : List ℕ). is_kind (slice_index l 0)) (sym e) ∙ k in
    subst (λ (t : Bool). 1 < cond t 3 1) (sym kind) (omega arith)
front_short w (a ∷ c ∷ []) x k long size e n =
    let kind : is_kind a ≡ true = ap (λ (l : List ℕ). is_kind (slice_index l 0)) (sym e) ∙ k in
    subst (λ (t : Bool). 2 < cond t 3 1) (sym kind) (omega arith)
front_short w (a ∷ c ∷ d ∷ v) x k long size e n =
    let short : is_long (a ∷ c ∷ d ∷ []) ≡ false = ap is_long (sym e) ∙ long in
    let same : head_size w ≡ head_size (a ∷ c ∷ d ∷ []) = ap head_size e in
    let needed : head_need (a ∷ c ∷ d ∷ v) ≡ head_size (a ∷ c ∷ d ∷ []) = need_after a c d v ∙ ap (λ (t : Bool). cond t 3 (head_size (a ∷ c ∷ d ∷ []))) short in
    omega (arith, front_shorter w (a ∷ c ∷ d ∷ v) x e n, size, same, needed)

-- a head's turn
head_turn : (s : State) (w : List ℕ) (h : Head) → is_kind (slice_index w 0) ≡ true → (slice_index w 0 == 69) ≡ false → is_long w ≡ false → head_of w ≡ Some h → is_in_order s.phase s.last s.is_dir h.path ≡ true → short_path (s.target ++ h.path) ≡ Some (s.target ++ h.path) → tag_turn (slice_index w 0) (with_waiting s w) ≡ (entered s h (s.target ++ h.path), head_commands h (s.target ++ h.path))
head_turn s w h kind tag long read order short =
    let at = with_waiting s w in
    ap (λ (t : Bool). cond t (quietly (end_phase s.phase) at) (cond (is_kind (slice_index w 0)) (cond (is_long w) (quietly Long at) (found_turn at (head_of w))) (quietly Bad at))) tag
    ∙ ap (λ (t : Bool). cond t (cond (is_long w) (quietly Long at) (found_turn at (head_of w))) (quietly Bad at)) kind
    ∙ ap (λ (t : Bool). cond t (quietly Long at) (found_turn at (head_of w))) long
    ∙ ap (found_turn at) read
    ∙ ap (λ (t : Bool). cond t (placed_turn at h (short_path (s.target ++ h.path))) (quietly Bad at)) order
    ∙ ap (placed_turn at h) short

-- a head that may stand here is entered, at the beginning
first_fed : (s : State) (w : List ℕ) (h : Head) → w ≢ [] → 3 ≤ length w → length w ≡ head_size w → is_kind (slice_index w 0) ≡ true → (slice_index w 0 == 69) ≡ false → is_long w ≡ false → head_of w ≡ Some h → is_in_order First s.last s.is_dir h.path ≡ true → short_path (s.target ++ h.path) ≡ Some (s.target ++ h.path) → fed (go First s) w ≡ (entered s h (s.target ++ h.path), head_commands h (s.target ++ h.path))
first_fed s w h some three size kind tag long read order short =
    fed_gather w (go First s) some (λ v x e n. front_short w v x kind long size e n) (omega (arith, need_by w three long, size))
    ∙ head_turn (go First s) w h kind tag long read order short

-- and later
next_fed : (s : State) (w : List ℕ) (h : Head) → w ≢ [] → 3 ≤ length w → length w ≡ head_size w → is_kind (slice_index w 0) ≡ true → (slice_index w 0 == 69) ≡ false → is_long w ≡ false → head_of w ≡ Some h → is_in_order Next s.last s.is_dir h.path ≡ true → short_path (s.target ++ h.path) ≡ Some (s.target ++ h.path) → fed (go Next s) w ≡ (entered s h (s.target ++ h.path), head_commands h (s.target ++ h.path))
next_fed s w h some three size kind tag long read order short =
    fed_gather w (go Next s) some (λ v x e n. front_short w v x kind long size e n) (omega (arith, need_by w three long, size))
    ∙ head_turn (go Next s) w h kind tag long read order short

count_found : (tag : ℕ) (text : List ℕ) (mode : ℕ) (tail : List ℕ) → length text < 65536 → path_count (tag ∷ ((be w16 (length text) ++ text) ++ be w16 mode) ++ tail) ≡ length text
count_found tag text mode tail h =
    let num = be w16 (length text) in
    ap (number_at w16) (append_assoc (num ++ text) (be w16 mode) tail ∙ append_assoc num text (be w16 mode ++ tail))
    ∙ number_at-be w16 (length text) (text ++ (be w16 mode ++ tail)) (omega arith)

-- what holds of a head's bytes
record Shaped (w : List ℕ) : Type 0 where
  pub some : w ≢ []
  pub three : 3 ≤ length w
  pub size : length w ≡ head_size w
  pub kind : is_kind (slice_index w 0) ≡ true
  pub tag : (slice_index w 0 == 69) ≡ false
  pub short : is_long w ≡ false

shaped_by : (tag : ℕ) (text : List ℕ) (mode : ℕ) (tail : List ℕ) → is_kind tag ≡ true → (tag == 69) ≡ false → 2 + length tail ≡ tail_size tag → length text ≤ 511 → Shaped (tag ∷ ((be w16 (length text) ++ text) ++ be w16 mode) ++ tail)
shaped_by tag text mode tail kind not size short =
    let num = be w16 (length text) in
    let w : List ℕ = tag ∷ ((num ++ text) ++ be w16 mode) ++ tail in
    let count = count_found tag text mode tail (omega arith) in
    let long : length (((num ++ text) ++ be w16 mode) ++ tail) ≡ 2 + length text + 2 + length tail = omega (arith, length-append ((num ++ text) ++ be w16 mode) tail, length-append (num ++ text) (be w16 mode), length-append num text, length-be w16 (length text), length-be w16 mode) in
    record {
      some = λ e. cc;
      three = omega (arith, long);
      size = omega (arith, long, count, size);
      kind = kind;
      tag = not;
      short = le-ltb 511 (path_count w) (omega (arith, count));
    }

relative_more : (p : Path) → IsShortPath p → length (relative_text p) ≤ 511
relative_more p h = omega (arith, h.1, length-drop 1 (path_text p))

shaped_around : (p : Path) (mode : ℕ) (len : Option ℕ) → IsShortPath p → Shaped (head_around len (text16 (relative_text p) ++ be w16 mode))
unfolding text16
shaped_around p mode None h =
    let text = relative_text p in
    subst Shaped (append-nil (68 ∷ ((be w16 (length text) ++ text) ++ be w16 mode))) (shaped_by 68 text mode [] refl refl refl (relative_more p h))
shaped_around p mode (Some len) h =
    shaped_by 70 (relative_text p) mode (be w32 len) refl refl (omega (arith, length-be w32 len)) (relative_more p h)

-- ---- an entry

-- after an entry
abbrev after_entry : State → Placed → State
after_entry s e = midway (entered s (head_at e) (s.target ++ e.0)) (0 + length (file_bytes (Some e.1))) 0

body_fed : (s : State) (p path : Path) (x : Entry) → fed (entered s (head_at (p, x)) path) (file_bytes (Some x)) ≡ (midway (entered s (head_at (p, x)) path) (0 + length (file_bytes (Some x))) 0, writes_at (length (file_bytes (Some x))) path 0 (file_bytes (Some x)))
body_fed s p path (Directory mode) = file_fed 0 (entered s (head_at (p, Directory mode)) path) 0 [] (omega arith)
body_fed s p path (FileWith mode bytes) = file_fed (length bytes) (entered s (head_at (p, FileWith mode bytes)) path) 0 bytes (omega arith)

entry_by : (s at : State) (e : Placed) → fed at (head_bytes (head_at e)) ≡ (entered s (head_at e) (s.target ++ e.0), head_commands (head_at e) (s.target ++ e.0)) → fed at (entry_bytes e) ≡ (after_entry s e, entry_commands s.target e)
entry_by s at e head =
    let bytes = file_bytes (Some e.1) in
    fed-append at (head_bytes (head_at e)) bytes
    ∙ ap (λ (t : Turn). ((fed t.0 bytes).0, t.1 ++ (fed t.0 bytes).1)) head
    ∙ ap (λ (t : Turn). (t.0, head_commands (head_at e) (s.target ++ e.0) ++ t.1)) (body_fed s e.0 (s.target ++ e.0) e.1)

first_entry : (s : State) (e : Placed) → FitsBelow s.target e → is_in_order First s.last s.is_dir e.0 ≡ true → fed (go First s) (entry_bytes e) ≡ (after_entry s e, entry_commands s.target e)
first_entry s e fits order =
    let h = head_at e in
    let shape : Shaped (head_bytes h) = shaped_around h.path h.mode h.len fits.head.path in
    entry_by s (go First s) e (first_fed s (head_bytes h) h shape.some shape.three shape.size shape.kind shape.tag shape.short (head_again h fits.head) order (is_short (s.target ++ e.0) fits.path.1))

next_entry : (s : State) (e : Placed) → FitsBelow s.target e → is_in_order Next s.last s.is_dir e.0 ≡ true → fed (go Next s) (entry_bytes e) ≡ (after_entry s e, entry_commands s.target e)
next_entry s e fits order =
    let h = head_at e in
    let shape : Shaped (head_bytes h) = shaped_around h.path h.mode h.len fits.head.path in
    entry_by s (go Next s) e (next_fed s (head_bytes h) h shape.some shape.three shape.size shape.kind shape.tag shape.short (head_again h fits.head) order (is_short (s.target ++ e.0) fits.path.1))

-- ---- a stream

-- the stream is complete, and these commands were given
record Ends (t : Turn) (commands : List Command) : Type 0 where
  pub phase : t.0.phase ≡ Ended
  pub given : t.1 ≡ commands

end_taken : (s : State) → taken (go Next s) 69 ≡ (go Ended s, [])
unfolding taken
end_taken s = refl

end_fed : (s : State) → fed (go Next s) (69 ∷ []) ≡ (go Ended s, [])
end_fed s =
    fed-cons (go Next s) 69 [] ∙ ap (λ (t : Turn). ((fed t.0 []).0, t.1 ++ (fed t.0 []).1)) (end_taken s) ∙ fed-nil (go Ended s)

magic_fed : (target : Path) → fed (start target) magic ≡ (go First (start target), [])
unfolding taken fed
magic_fed target = refl

same_kind : (x : Entry) → is_directory x ≡ is_none (len_of x)
same_kind (Directory mode) = refl
same_kind (FileWith mode bytes) = refl

more_by : (at s : State) (a b : List ℕ) (cs ds : List Command) → fed at a ≡ (s, cs) → Ends (fed s b) ds → Ends (fed at (a ++ b)) (cs ++ ds)
more_by at s a b cs ds first rest =
    let whole : fed at (a ++ b) ≡ ((fed s b).0, cs ++ (fed s b).1) = fed-append at a b ∙ ap (λ (t : Turn). ((fed t.0 b).0, t.1 ++ (fed t.0 b).1)) first in
    record {
      phase = ap (λ (t : Turn). t.0.phase) whole ∙ rest.phase;
      given = ap (λ (t : Turn). t.1) whole ∙ ap (λ (l : List Command). cs ++ l) rest.given;
    }

entries_fed : (es : List Placed) (s : State) → AreInOrder Next s.last s.is_dir es → AllByRecursion (FitsBelow s.target) es → Ends (fed (go Next s) (flat_map entry_bytes es ++ 69 ∷ [])) (flat_map (entry_commands s.target) es)
entries_fed [] s order fits =
    record { phase = ap (λ (t : Turn). t.0.phase) (end_fed s); given = ap (λ (t : Turn). t.1) (end_fed s) }
entries_fed (e ∷ es) s order fits =
    let more = subst (λ (b : Bool). AreInOrder Next e.0 b es) (same_kind e.1) order.1 in
    let rest = entries_fed es (after_entry s e) more fits.1 in
    let whole = more_by (go Next s) (after_entry s e) (entry_bytes e) (flat_map entry_bytes es ++ 69 ∷ []) (entry_commands s.target e) (flat_map (entry_commands s.target) es) (next_entry s e fits.0 order.0) rest in
    subst (λ (l : List ℕ). Ends (fed (go Next s) l) (flat_map (entry_commands s.target) (e ∷ es))) (sym (append_assoc (entry_bytes e) (flat_map entry_bytes es) (69 ∷ []))) whole

all_fed : (es : List Placed) (target : Path) → es ≢ [] → AreInOrder First [] true es → AllByRecursion (FitsBelow target) es → Ends (fed (start target) (stream_bytes es)) (flat_map (entry_commands target) es)
all_fed [] target some order fits = absurd (some refl)
all_fed (e ∷ es) target some order fits =
    let s = start target in
    let more = subst (λ (b : Bool). AreInOrder Next e.0 b es) (same_kind e.1) order.1 in
    let rest = entries_fed es (after_entry s e) more fits.1 in
    let entries = more_by (go First s) (after_entry s e) (entry_bytes e) (flat_map entry_bytes es ++ 69 ∷ []) (entry_commands target e) (flat_map (entry_commands target) es) (first_entry s e fits.0 order.0) rest in
    let whole = more_by s (go First s) magic (entry_bytes e ++ (flat_map entry_bytes es ++ 69 ∷ [])) [] (flat_map (entry_commands target) (e ∷ es)) (magic_fed target) entries in
    let cut : magic ++ (entry_bytes e ++ (flat_map entry_bytes es ++ 69 ∷ [])) ≡ stream_bytes (e ∷ es) = ap (λ (l : List ℕ). magic ++ l) (sym (append_assoc (entry_bytes e) (flat_map entry_bytes es) (69 ∷ []))) ∙ sym (append_assoc magic (entry_bytes e ++ flat_map entry_bytes es) (69 ∷ [])) in
    subst (λ (l : List ℕ). Ends (fed s l) (flat_map (entry_commands target) (e ∷ es))) cut whole

-- a stream gives the commands of its entries
pub stream_commands : (target : Path) (es : List Placed) → IsStreamFor target es → (fed (start target) (stream_bytes es)).1 ≡ flat_map (entry_commands target) es
stream_commands target es h = (all_fed es target h.some h.order h.each).given

-- and is complete then
pub stream_whole : (target : Path) (es : List Placed) → IsStreamFor target es → (fed (start target) (stream_bytes es)).0.phase ≡ Ended
stream_whole target es h = (all_fed es target h.some h.order h.each).phase
