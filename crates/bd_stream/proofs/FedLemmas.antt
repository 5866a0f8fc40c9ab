-- What is known of a stream stays sound, and doesn't depend on how the stream is cut.
use Rattle.std.proofs.Common.{◌≡◌, ◌≢◌, ℕ, ◌+◌, ◌-◌, ◌<◌, ◌≤◌, List, [], ◌∷◌, ◌++◌, length, take, drop, get_or, Bool, true, false, cond, Some, None, Option, refl, sym, ap, subst, ◌∙◌, arith, append_assoc, add-one, drop-cons}
use Rattle.std.specs.Prelude.{nat_lt, nat_le, slice_index, IfSome, unwrap_or}
use Rattle.std.proofs.lemmas.Bool.{ltb-true, ltb-false, leb-true, eqb-false}
use Rattle.bd_limits.specs.Limits.{file_limit, write_limit, mode_limit}
use Rattle.bd_command.specs.declared.Command.{Command}
use Rattle.bd_stream.specs.declared.head.Head.{Head}
use Rattle.bd_stream.specs.declared.machine.Phase.{Phase}
use Rattle.bd_stream.specs.declared.machine.Phase.TheVariants.{Start, First, Next, Data, Ended, Bad, Long}
use Rattle.std.specs.Int.{w16, w32}
use Rattle.std.proofs.Math.ListN.{drop_of_length-le}
use Rattle.bd_wire.specs.Numbers.{number_at}
use Rattle.bd_names.specs.Names.{path_of}
use Rattle.bd_stream.specs.Heads.{is_kind, path_count, head_of, head_with}
use Rattle.bd_stream.specs.Importing.{Path, State, Turn, IsSound, go, quietly, chunk_size, need, phase_with, entered, given, end_phase, first_phase, is_long, is_in_order, short_path, placed_turn, found_turn, tag_turn, turn_in, turn, with_byte, taken, fed}
use Rattle.bd_stream.proofs.NeedLemmas.{need_exact}

-- ---- sound states

chunk_by : (t : Bool) (left : ℕ) → (t ≡ true → left < write_limit) → (t ≡ false → write_limit ≤ left) → cond t left write_limit ≤ left
chunk_by true left h g = omega arith
chunk_by false left h g = g refl

-- no more bytes are written together than are to come
pub chunk_le : (left : ℕ) → chunk_size left ≤ left
chunk_le left = chunk_by (nat_lt left write_limit) left (ltb-true left write_limit) (ltb-false left write_limit)

some_by : (t : Bool) (left : ℕ) → 0 < left → 0 < cond t left write_limit
some_by true left h = h
some_by false left h = omega arith

left_by : (t : Bool) (left : ℕ) → (t ≡ false → left ≡ 0 → ⊥) → 0 < need (cond t Next Data) left []
left_by true left h = omega arith
left_by false left h = some_by (nat_lt left write_limit) left (let not : left ≡ 0 → ⊥ = h refl in omega arith)

-- something is to be there where nothing waits
left_some : (left : ℕ) → 0 < need (phase_with left) left []
left_some left = left_by _ left (eqb-false left 0)

go_sound : (phase : Phase) (s : State) → phase ≢ Data → s.off + s.left ≤ file_limit → IsSound (go phase s)
go_sound Start s h f = record { waits = omega arith; fits = f }
go_sound First s h f = record { waits = omega arith; fits = f }
go_sound Next s h f = record { waits = omega arith; fits = f }
go_sound Data s h f = absurd (h refl)
go_sound Ended s h f = record { waits = omega arith; fits = f }
go_sound Bad s h f = record { waits = omega arith; fits = f }
go_sound Long s h f = record { waits = omega arith; fits = f }

end_not : (phase : Phase) → end_phase phase ≢ Data
end_not Start = λ e. cc
end_not First = λ e. cc
end_not Next = λ e. cc
end_not Data = λ e. cc
end_not Ended = λ e. cc
end_not Bad = λ e. cc
end_not Long = λ e. cc

first_by : (t : Bool) → cond t First Bad ≢ Data
first_by true = λ e. cc
first_by false = λ e. cc

kind_by : (t u : Bool) (path : Path) (mode len : ℕ) (h : Head) → (u ≡ true → len ≤ file_limit) → cond t (Some (record { path = path; mode = mode; len = None })) (cond u (Some (record { path = path; mode = mode; len = Some len })) None) ≡ Some h → IfSome h.len (λ n. n ≤ file_limit)
kind_by true u path mode len h fits e =
    let same : record { path = path; mode = mode; len = None } ≡ h = cc in
    subst (λ (x : Head). IfSome x.len (λ n. n ≤ file_limit)) same tt
kind_by false true path mode len h fits e =
    let same : record { path = path; mode = mode; len = Some len } ≡ h = cc in
    subst (λ (x : Head). IfSome x.len (λ n. n ≤ file_limit)) same (fits refl)
kind_by false false path mode len h fits e = cc

mode_by : (t : Bool) (o : Option Head) (h : Head) → cond t o None ≡ Some h → o ≡ Some h
mode_by true o h e = e
mode_by false o h e = cc

with_len : (tag : ℕ) (o : Option Path) (mode len : ℕ) (h : Head) → head_with tag o mode len ≡ Some h → IfSome h.len (λ n. n ≤ file_limit)
with_len tag None mode len h e = cc
with_len tag (Some path) mode len h e =
    kind_by _ (nat_le len file_limit) path mode len h (leb-true len file_limit) (mode_by (nat_le mode mode_limit) _ h e)

-- the length in a head that was read is one of a file
pub head_of-len : (bytes : List ℕ) (h : Head) → head_of bytes ≡ Some h → IfSome h.len (λ n. n ≤ file_limit)
head_of-len bytes h e = with_len (slice_index bytes 0) (path_of (47 ∷ take (path_count bytes) (drop 3 bytes))) (number_at w16 (drop (3 + path_count bytes) bytes)) (number_at w32 (drop (5 + path_count bytes) bytes)) h e

len_fits : (o : Option ℕ) → IfSome o (λ n. n ≤ file_limit) → unwrap_or o 0 ≤ file_limit
len_fits None h = omega arith
len_fits (Some n) h = h

entered_sound : (s : State) (head : Head) (path : Path) → IfSome head.len (λ n. n ≤ file_limit) → IsSound (entered s head path)
entered_sound s head path h = record { waits = left_some (unwrap_or head.len 0); fits = omega (arith, len_fits head.len h) }

given_sound : (s : State) (count : ℕ) → count ≤ s.left → s.off + s.left ≤ file_limit → IsSound (given s count)
given_sound s count h f = record { waits = left_some (s.left - count); fits = omega arith }

placed_sound : (s : State) (head : Head) (o : Option Path) → IfSome head.len (λ n. n ≤ file_limit) → s.off + s.left ≤ file_limit → IsSound (placed_turn s head o).0
placed_sound s head None h f = go_sound Long s (λ e. cc) f
placed_sound s head (Some path) h f = entered_sound s head path h

order_by : (t : Bool) (s : State) (x : Turn) → IsSound x.0 → s.off + s.left ≤ file_limit → IsSound (cond t x (quietly Bad s)).0
order_by true s x h f = h
order_by false s x h f = go_sound Bad s (λ e. cc) f

found_sound : (s : State) (o : Option Head) → ((h : Head) → o ≡ Some h → IfSome h.len (λ n. n ≤ file_limit)) → s.off + s.left ≤ file_limit → IsSound (found_turn s o).0
found_sound s None h f = go_sound Bad s (λ e. cc) f
found_sound s (Some head) h f =
    order_by (is_in_order s.phase s.last s.is_dir head.path) s (placed_turn s head (short_path (s.target ++ head.path))) (placed_sound s head (short_path (s.target ++ head.path)) (h head refl) f) f

tag_by : (t k l : Bool) (s : State) (x : Turn) → IsSound x.0 → s.off + s.left ≤ file_limit → IsSound (cond t (quietly (end_phase s.phase) s) (cond k (cond l (quietly Long s) x) (quietly Bad s))).0
tag_by true k l s x h f = go_sound (end_phase s.phase) s (end_not s.phase) f
tag_by false true true s x h f = go_sound Long s (λ e. cc) f
tag_by false true false s x h f = h
tag_by false false l s x h f = go_sound Bad s (λ e. cc) f

tag_sound : (tag : ℕ) (s : State) → s.off + s.left ≤ file_limit → IsSound (tag_turn tag s).0
tag_sound tag s f = tag_by _ (is_kind tag) (is_long s.waiting) s (found_turn s (head_of s.waiting)) (found_sound s (head_of s.waiting) (head_of-len s.waiting) f) f

turn_sound : (phase : Phase) (s : State) → s.off + s.left ≤ file_limit → (phase ≡ Data → length s.waiting ≤ s.left) → IsSound (turn_in phase s).0
turn_sound Start s f d = go_sound (first_phase s.waiting) s (first_by _) f
turn_sound First s f d = tag_sound (slice_index s.waiting 0) s f
turn_sound Next s f d = tag_sound (slice_index s.waiting 0) s f
turn_sound Data s f d = given_sound s (length s.waiting) (d refl) f
turn_sound Ended s f d = go_sound Bad s (λ e. cc) f
turn_sound Bad s f d = go_sound Bad s (λ e. cc) f
turn_sound Long s f d = go_sound Long s (λ e. cc) f

looked_by : (t : Bool) (s : State) → (t ≡ true → length s.waiting < need s.phase s.left s.waiting) → (t ≡ false → IsSound (turn s).0) → s.off + s.left ≤ file_limit → IsSound (cond t (s, []) (turn s)).0
looked_by true s h g f = record { waits = h refl; fits = f }
looked_by false s h g f = g refl

data_le : (phase : Phase) (left n : ℕ) (w : List ℕ) → n ≡ need phase left w → phase ≡ Data → n ≤ left
data_le phase left n w e is =
    let chunk : need phase left w ≡ chunk_size left = ap (λ (p : Phase). need p left w) is in
    omega (arith, e, chunk, chunk_le left)

-- a byte leaves it sound
pub taken_sound : (s : State) (b : ℕ) → IsSound s → IsSound (taken s b).0
unfolding taken
taken_sound s b h =
    let more = with_byte s b in
    let have = nat_lt (length more.waiting) (need more.phase more.left more.waiting) in
    looked_by have more (ltb-true (length more.waiting) (need more.phase more.left more.waiting))
    (λ e. turn_sound s.phase more h.fits
    (data_le s.phase s.left (length more.waiting) more.waiting (need_exact s.phase s.left s.waiting b h.waits (ltb-false (length more.waiting) (need more.phase more.left more.waiting) e))))
    h.fits

-- ---- cutting

-- one byte, and then the others
pub fed-cons : (s : State) (b : ℕ) (bytes : List ℕ) → fed s (b ∷ bytes) ≡ ((fed (taken s b).0 bytes).0, (taken s b).1 ++ (fed (taken s b).0 bytes).1)
unfolding fed
fed-cons s b bytes = refl

pub fed-nil : (s : State) → fed s [] ≡ (s, [])
unfolding fed
fed-nil s = refl

-- what is left is one byte, and then the others
pub fed-drop : (s : State) (bytes : List ℕ) (i b : ℕ) → i < length bytes → b ≡ get_or bytes i 0 → fed s (drop i bytes) ≡ ((fed (taken s b).0 (drop (i + 1) bytes)).0, (taken s b).1 ++ (fed (taken s b).0 (drop (i + 1) bytes)).1)
fed-drop s bytes i b h e =
    let cut : drop i bytes ≡ b ∷ drop (i + 1) bytes = rw (e, add-one) (drop-cons bytes i 0 h) in
    ap (fed s) cut ∙ fed-cons s b (drop (i + 1) bytes)

-- nothing is left
pub fed-end : (s : State) (bytes : List ℕ) (i : ℕ) → length bytes ≤ i → fed s (drop i bytes) ≡ (s, [])
fed-end s bytes i h = ap (fed s) (drop_of_length-le bytes h) ∙ fed-nil s

-- bytes that come in two pieces
pub fed-append : (s : State) (a b : List ℕ) → fed s (a ++ b) ≡ ((fed (fed s a).0 b).0, (fed s a).1 ++ (fed (fed s a).0 b).1)
unfolding fed
fed-append s [] b = refl
fed-append s (x ∷ a) b =
    let rest = fed-append (taken s x).0 a b in
    rw rest (ap (λ (l : List Command). ((fed (fed (taken s x).0 a).0 b).0, l)) (sym (append_assoc (taken s x).1 (fed (taken s x).0 a).1 (fed (fed (taken s x).0 a).0 b).1)))

-- ---- after the end

bad_more : (s : State) (b : ℕ) → taken (go Bad s) b ≡ (go Bad s, [])
unfolding taken
bad_more s b = refl

long_more : (s : State) (b : ℕ) → taken (go Long s) b ≡ (go Long s, [])
unfolding taken
long_more s b = refl

ended_more : (s : State) (b : ℕ) → taken (go Ended s) b ≡ (go Bad s, [])
unfolding taken
ended_more s b = refl

-- nothing is taken after a fault
pub bad_stays : (s : State) (bytes : List ℕ) → fed (go Bad s) bytes ≡ (go Bad s, [])
bad_stays s [] = fed-nil (go Bad s)
bad_stays s (b ∷ bytes) =
    fed-cons (go Bad s) b bytes ∙ ap (λ (t : Turn). ((fed t.0 bytes).0, t.1 ++ (fed t.0 bytes).1)) (bad_more s b) ∙ bad_stays s bytes

pub long_stays : (s : State) (bytes : List ℕ) → fed (go Long s) bytes ≡ (go Long s, [])
long_stays s [] = fed-nil (go Long s)
long_stays s (b ∷ bytes) =
    fed-cons (go Long s) b bytes ∙ ap (λ (t : Turn). ((fed t.0 bytes).0, t.1 ++ (fed t.0 bytes).1)) (long_more s b) ∙ long_stays s bytes

-- no byte may come after the end
pub ended_turns : (s : State) (b : ℕ) (bytes : List ℕ) → fed (go Ended s) (b ∷ bytes) ≡ (go Bad s, [])
ended_turns s b bytes =
    fed-cons (go Ended s) b bytes ∙ ap (λ (t : Turn). ((fed t.0 bytes).0, t.1 ++ (fed t.0 bytes).1)) (ended_more s b) ∙ bad_stays s bytes
