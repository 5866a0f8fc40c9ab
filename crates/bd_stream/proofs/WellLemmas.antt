-- The commands that are given are within their limits.
use Rattle.std.proofs.Common.{◌≡◌, ℕ, ◌+◌, ◌<◌, ◌≤◌, ◌^◌, List, [], ◌∷◌, ◌++◌, length, take, drop, Bool, true, false, cond, Option, None, Some, refl, sym, ap, subst, arith, length-append}
use Rattle.std.specs.Prelude.{nat_lt, nat_le, slice_index, ◌==◌}
use Rattle.std.specs.List.{AllByRecursion}
use Rattle.std.specs.Int.{w16, w32}
use Rattle.std.proofs.lemmas.Bool.{ltb-true, ltb-false, leb-true}
use Rattle.bd_limits.specs.Limits.{path_limit, write_limit, mode_limit, file_limit}
use Rattle.bd_names.specs.Names.{AreNames, path_text, path_of}
use Rattle.bd_names.proofs.NamesLaws.{AreNames-append, path_of-some}
use Rattle.bd_wire.specs.Numbers.{number_at}
use Rattle.bd_command.specs.Command.{IsShortPath, IsCommand}
use Rattle.bd_command.specs.declared.Command.{Command}
use Rattle.bd_command.specs.declared.Command.TheVariants.{Chmod}
use Rattle.bd_stream.specs.declared.head.Head.{Head}
use Rattle.bd_stream.specs.declared.machine.Phase.{Phase}
use Rattle.bd_stream.specs.declared.machine.Phase.TheVariants.{Start, First, Next, Data, Ended, Bad, Long}
use Rattle.bd_stream.specs.Heads.{is_kind, path_count, head_of, head_with}
use Rattle.bd_stream.specs.Importing.{Path, State, Turn, IsSound, start, quietly, chunk_size, need, end_phase, first_phase, is_long, is_in_order, short_path, making, placed_turn, found_turn, tag_turn, turn_in, turn, with_byte, taken, fed}
use Rattle.bd_stream.specs.Within.{IsWell}
use Rattle.bd_stream.proofs.NeedLemmas.{need_exact}
use Rattle.bd_stream.proofs.FedLemmas.{fed-nil, fed-cons, taken_sound}

-- ---- lists

pub all_with : (b : ℕ) (l : List ℕ) → b < 256 → AllByRecursion (λ x. x < 256) l → AllByRecursion (λ x. x < 256) (l ++ b ∷ [])
all_with b [] hb h = (hb, tt)
all_with b (x ∷ l) hb h = (h.0, all_with b l hb h.1)

all_append : (a b : List Command) → AllByRecursion IsCommand a → AllByRecursion IsCommand b → AllByRecursion IsCommand (a ++ b)
all_append [] b ha hb = hb
all_append (c ∷ a) b ha hb = (ha.0, all_append a b ha.1 hb)

-- ---- heads

kind_fields : (t u : Bool) (path : Path) (mode len : ℕ) (h : Head) → cond t (Some (record { path = path; mode = mode; len = None })) (cond u (Some (record { path = path; mode = mode; len = Some len })) None) ≡ Some h → (path ≡ h.path) × (mode ≡ h.mode)
kind_fields true u path mode len h e =
    let same : record { path = path; mode = mode; len = None } ≡ h = cc in
    (ap (λ (x : Head). x.path) same, ap (λ (x : Head). x.mode) same)
kind_fields false true path mode len h e =
    let same : record { path = path; mode = mode; len = Some len } ≡ h = cc in
    (ap (λ (x : Head). x.path) same, ap (λ (x : Head). x.mode) same)
kind_fields false false path mode len h e = cc

mode_cond : (t : Bool) (o : Option Head) (h : Head) → cond t o None ≡ Some h → (t ≡ true) × (o ≡ Some h)
mode_cond true o h e = (refl, e)
mode_cond false o h e = cc

with_fits : (tag : ℕ) (o : Option Path) (mode len : ℕ) (h : Head) → ((p : Path) → o ≡ Some p → AreNames p) → head_with tag o mode len ≡ Some h → AreNames h.path × (h.mode ≤ mode_limit)
with_fits tag None mode len h names e = cc
with_fits tag (Some path) mode len h names e =
    let parts = mode_cond (nat_le mode mode_limit) _ h e in
    let fields = kind_fields (tag == 68) (nat_le len file_limit) path mode len h parts.1 in
    (subst AreNames fields.0 (names path refl), subst (λ (m : ℕ). m ≤ mode_limit) fields.1 (leb-true mode mode_limit parts.0))

-- the path in a head is one of names, and the mode is one
head_of-fits : (bytes : List ℕ) (h : Head) → head_of bytes ≡ Some h → AreNames h.path × (h.mode ≤ mode_limit)
head_of-fits bytes h e =
    let text = 47 ∷ take (path_count bytes) (drop 3 bytes) in
    with_fits (slice_index bytes 0) (path_of text) (number_at w16 (drop (3 + path_count bytes) bytes)) (number_at w32 (drop (5 + path_count bytes) bytes)) h (λ p is. (path_of-some text p is).0) e

-- ---- turns

-- what is left, and the commands, are within their limits
pub record Gives (t : Turn) : Type 0 where
  pub well : IsWell t.0
  pub commands : AllByRecursion IsCommand t.1

quiet_well : (phase : Phase) (s : State) → IsWell s → Gives (quietly phase s)
quiet_well phase s h = record { well = record { target = h.target; path = h.path; waiting = tt }; commands = tt }

making_ok : (len : Option ℕ) (p : Path) → IsShortPath p → IsCommand (making len p)
making_ok None p h = h
making_ok (Some n) p h = h

moding_by : (t : Bool) (mode : ℕ) (p : Path) → IsShortPath p → mode ≤ mode_limit → AllByRecursion IsCommand (cond t [] (Chmod p mode ∷ []))
moding_by true mode p h m = tt
moding_by false mode p h m = ((h, m), tt)

short_by : (t : Bool) (p q : Path) → (t ≡ true → length (path_text p) ≤ path_limit) → cond t (Some p) None ≡ Some q → (length (path_text p) ≤ path_limit) × (p ≡ q)
short_by true p q h e = (h refl, cc)
short_by false p q h e = cc

short_some : (p q : Path) → AreNames p → short_path p ≡ Some q → IsShortPath q
short_some p q h e =
    let parts = short_by (nat_le (length (path_text p)) path_limit) p q (leb-true (length (path_text p)) path_limit) e in
    subst IsShortPath parts.1 (h, parts.0)

placed_well : (s : State) (head : Head) (o : Option Path) → IsWell s → head.mode ≤ mode_limit → ((p : Path) → o ≡ Some p → IsShortPath p) → Gives (placed_turn s head o)
placed_well s head None h m short = quiet_well Long s h
placed_well s head (Some p) h m short =
    let ok = short p refl in
    record {
      well = record { target = h.target; path = ok; waiting = tt };
      commands = (making_ok head.len p ok, moding_by (head.mode == 0) head.mode p ok m);
    }

order_by : (t : Bool) (s : State) (x : Turn) → IsWell s → Gives x → Gives (cond t x (quietly Bad s))
order_by true s x h g = g
order_by false s x h g = quiet_well Bad s h

found_well : (s : State) (o : Option Head) → IsWell s → ((head : Head) → o ≡ Some head → AreNames head.path × (head.mode ≤ mode_limit)) → Gives (found_turn s o)
found_well s None h fits = quiet_well Bad s h
found_well s (Some head) h fits =
    let ok = fits head refl in
    order_by (is_in_order s.phase s.last s.is_dir head.path) s (placed_turn s head (short_path (s.target ++ head.path))) h
    (placed_well s head (short_path (s.target ++ head.path)) h ok.1 (λ p is. short_some (s.target ++ head.path) p (AreNames-append s.target head.path h.target ok.0) is))

tag_by : (t k l : Bool) (s : State) (x : Turn) → IsWell s → Gives x → Gives (cond t (quietly (end_phase s.phase) s) (cond k (cond l (quietly Long s) x) (quietly Bad s)))
tag_by true k l s x h g = quiet_well (end_phase s.phase) s h
tag_by false true true s x h g = quiet_well Long s h
tag_by false true false s x h g = g
tag_by false false l s x h g = quiet_well Bad s h

tag_well : (tag : ℕ) (s : State) → IsWell s → Gives (tag_turn tag s)
tag_well tag s h = tag_by (tag == 69) (is_kind tag) (is_long s.waiting) s (found_turn s (head_of s.waiting)) h (found_well s (head_of s.waiting) h (head_of-fits s.waiting))

turn_well : (phase : Phase) (s : State) → IsWell s → s.off < 2 ^ 32 → (phase ≡ Data → (1 ≤ length s.waiting) × (length s.waiting ≤ write_limit)) → Gives (turn_in phase s)
turn_well Start s h f d = quiet_well (first_phase s.waiting) s h
turn_well First s h f d = tag_well (slice_index s.waiting 0) s h
turn_well Next s h f d = tag_well (slice_index s.waiting 0) s h
turn_well Data s h f d =
    let size = d refl in
    record {
      well = record { target = h.target; path = h.path; waiting = tt };
      commands = ((h.path, f, (size.0, size.1, h.waiting)), tt);
    }
turn_well Ended s h f d = quiet_well Bad s h
turn_well Bad s h f d = quiet_well Bad s h
turn_well Long s h f d = quiet_well Long s h

looked_by : (t : Bool) (s : State) → IsWell s → (t ≡ false → Gives (turn s)) → Gives (cond t (s, []) (turn s))
looked_by true s h g = record { well = h; commands = tt }
looked_by false s h g = g refl

chunk_by : (t : Bool) (left : ℕ) → (t ≡ true → left < write_limit) → cond t left write_limit ≤ write_limit
chunk_by true left h = let less : left < write_limit = h refl in omega arith
chunk_by false left h = omega arith

pub chunk_fits : (left : ℕ) → chunk_size left ≤ write_limit
chunk_fits left = chunk_by (nat_lt left write_limit) left (ltb-true left write_limit)

data_size : (phase : Phase) (left n : ℕ) (w : List ℕ) → n ≡ need phase left w → phase ≡ Data → n ≤ write_limit
data_size phase left n w e is =
    let chunk : need phase left w ≡ chunk_size left = ap (λ (p : Phase). need p left w) is in
    omega (arith, e, chunk, chunk_fits left)

-- a byte leaves it well
pub taken_well : (s : State) (b : ℕ) → IsSound s → IsWell s → b < 256 → Gives (taken s b)
unfolding taken
taken_well s b sound h hb =
    let more = with_byte s b in
    let enough = need s.phase s.left more.waiting in
    let well : IsWell more = record { target = h.target; path = h.path; waiting = all_with b s.waiting hb h.waiting } in
    looked_by (nat_lt (length more.waiting) enough) more well
    (λ e. turn_well s.phase more well (omega (arith, sound.fits))
    (λ is. (omega (arith, length-append s.waiting (b ∷ [])), data_size s.phase s.left (length more.waiting) more.waiting (need_exact s.phase s.left s.waiting b sound.waits (ltb-false (length more.waiting) enough e)) is)))

-- bytes leave it well, and give commands that are within their limits
fed_gives : (bytes : List ℕ) (s : State) → IsSound s → IsWell s → AllByRecursion (λ b. b < 256) bytes → Gives (fed s bytes)
fed_gives [] s sound h hb = subst Gives (sym (fed-nil s)) (record { well = h; commands = tt })
fed_gives (b ∷ bytes) s sound h hb =
    let first = taken_well s b sound h hb.0 in
    let rest = fed_gives bytes (taken s b).0 (taken_sound s b sound) first.well hb.1 in
    subst Gives (sym (fed-cons s b bytes)) (record { well = rest.well; commands = all_append (taken s b).1 (fed (taken s b).0 bytes).1 first.commands rest.commands })

pub fed_sound : (bytes : List ℕ) (s : State) → IsSound s → IsSound (fed s bytes).0
fed_sound [] s h = subst (λ (t : Turn). IsSound t.0) (sym (fed-nil s)) h
fed_sound (b ∷ bytes) s h = subst (λ (t : Turn). IsSound t.0) (sym (fed-cons s b bytes)) (fed_sound bytes (taken s b).0 (taken_sound s b h))

pub fed_well : (s : State) (bytes : List ℕ) → IsSound s → IsWell s → AllByRecursion (λ b. b < 256) bytes → IsWell (fed s bytes).0
fed_well s bytes sound h hb = (fed_gives bytes s sound h hb).well

pub fed_commands : (s : State) (bytes : List ℕ) → IsSound s → IsWell s → AllByRecursion (λ b. b < 256) bytes → AllByRecursion IsCommand (fed s bytes).1
fed_commands s bytes sound h hb = (fed_gives bytes s sound h hb).commands

pub start_well : (target : Path) → IsShortPath target → IsWell (start target)
start_well target h = record { target = h.0; path = h; waiting = tt }

pub start_sound : (target : Path) → IsSound (start target)
start_sound target = record { waits = omega arith; fits = omega arith }
