-- Whatever the answers are, an export ends.
use Rattle.std.proofs.Common.{◌≡◌, ℕ, zero, suc, ◌+◌, ◌*◌, ◌-◌, ◌<◌, ◌≤◌, List, [], ◌∷◌, ◌++◌, length, map, Bool, true, false, cond, Option, None, Some, Less, Equal, Greater, refl, sym, ap, subst, ◌∙◌, arith}
use Rattle.std.specs.Prelude.{◌&&◌, nat_lt, nat_le, ◌==◌, unwrap_or, IfSome}
use Rattle.std.specs.Ordering.{is_lt}
use Rattle.std.specs.declared.cmp.Ordering.{Ordering}
use Rattle.std.proofs.lemmas.Bool.{leb-true, eqb-true, eqb-false}
use Rattle.bd_limits.specs.Limits.{path_limit, file_limit, mode_limit, read_limit}
use Rattle.bd_names.specs.Names.{is_name, AreNames, path_text, parent_of}
use Rattle.bd_names.proofs.NamesLaws.{AreNames-parts, AreNames-cons, AreNames-append, parent_of-some}
use Rattle.bd_wire.proofs.NumberLemmas.{higher_digit}
use Rattle.bd_command.specs.Command.{IsShortPath}
use Rattle.bd_command.specs.declared.Command.{Command}
use Rattle.bd_command.specs.declared.reply.Listed.{Listed}
use Rattle.bd_command.specs.declared.reply.Listing.{Listing}
use Rattle.bd_command.specs.declared.reply.Reply.{Reply}
use Rattle.bd_command.specs.declared.reply.Reply.TheVariants.{Done, Bytes, Dir, File, Names, Refused}
use Rattle.bd_model.specs.Tree.{Path, Name}
use Rattle.bd_stream.specs.declared.head.Head.{Head}
use Rattle.bd_stream.specs.declared.stage.Stage.{Stage}
use Rattle.bd_stream.specs.declared.stage.Stage.TheVariants.{Look, Piece, Inside, Beside, Whole, Absent, Overlong}
use Rattle.bd_stream.specs.Importing.{short_path}
use Rattle.bd_stream.specs.Exporting.{Export, Move, begin, stays_at, put, last_name, closed, next_at, next_in, filed_in, filed, left_at, after_head, looked_at, head_in, pieced, piece_in, piece_size, named, names_after, are_rising, is_count, asked_in, answered_in, asked, answered, ask_beside}
use Rattle.bd_stream.specs.Exports.{after_replies}
use Rattle.bd_stream.proofs.OrderLemmas.{name_cmp}
use Rattle.bd_stream.proofs.PlaceLemmas.{last_name-append, text_by}
use Rattle.bd_stream.proofs.MoveLemmas.{short_length}
use Rattle.bd_stream.proofs.ValueLemmas.{weight, place, place_names, place_inside, place_beside, place_last, place_lt}

-- ---- names that rise above one

unfoldable pub Rise : Name → List Name → Type 0
Rise m [] = Unit {0}
Rise m (n ∷ ns) = (is_name n ≡ true) × (is_lt (name_cmp m n) ≡ true) × Rise n ns

less : (o : Ordering) → is_lt o ≡ true → o ≡ Less
less Less h = refl
less Equal h = cc
less Greater h = cc

first : (x y : Bool) → (x && y) ≡ true → x ≡ true
first true y e = refl
first false y e = cc

second : (x y : Bool) → (x && y) ≡ true → y ≡ true
second true y e = e
second false y e = cc

rise_of : (m : Name) (ls : List Listed) → are_rising m ls ≡ true → Rise m (map (λ (l : Listed). l.name) ls)
unfolding Rise
rise_of m [] h = tt
rise_of m (l ∷ ls) h =
    let here = first (is_name l.name && is_lt (name_cmp m l.name)) (are_rising l.name ls) h in
    (first (is_name l.name) (is_lt (name_cmp m l.name)) here, second (is_name l.name) (is_lt (name_cmp m l.name)) here, rise_of l.name ls (second (is_name l.name && is_lt (name_cmp m l.name)) (are_rising l.name ls) h))

rise_by : (m : Name) (l : Listing) (b : Bool) → (b ≡ true → are_rising m l.names ≡ true) → (names : List Name) → cond b (Some (map (λ (x : Listed). x.name) l.names)) None ≡ Some names → Rise m names
rise_by m l true rising names e = (let same : map (λ (x : Listed). x.name) l.names ≡ names = cc in subst (Rise m) same (rise_of m l.names (rising refl)))
rise_by m l false rising names e = cc

-- the names that a reply gives rise
names_rise : (m : Name) (r : Reply) (names : List Name) → names_after m r ≡ Some names → Rise m names
names_rise m Done names e = cc
names_rise m (Bytes bytes) names e = cc
names_rise m (Dir mode) names e = cc
names_rise m (File len mode) names e = cc
names_rise m (Names l) names e = rise_by m l (is_count l.more (length l.names) && are_rising m l.names) (second (is_count l.more (length l.names)) (are_rising m l.names)) names e
names_rise m (Refused refusal) names e = cc

-- the names that are known rise above the last one of the path
pub RiseAfter : Option Name → List Name → Type 0
RiseAfter None names = names ≡ []
RiseAfter (Some m) names = Rise m names

-- ---- what is left

-- a number that is less where the place is higher, or where it is the same and the rank is less
pub amount : ℕ → ℕ → ℕ
amount p rank = suc ((weight 513 - p) * (file_limit + 2) + rank)

by_place : (w c p q r s : ℕ) → p < q → q ≤ w → s < c → suc ((w - q) * c + s) < suc ((w - p) * c + r)
by_place w c p q r s h le small = (let lt = higher_digit (w - q) (w - p) s r c small (omega arith) in omega arith)

higher : (p q r s : ℕ) → p < q → q ≤ weight 513 → s ≤ file_limit + 1 → amount q s < amount p r
unfolding amount
higher p q r s h le small = by_place (weight 513) (file_limit + 2) p q r s h le (omega arith)

lower_rank : (p r s : ℕ) → s < r → amount p s < amount p r
unfolding amount
lower_rank p r s h = omega arith

pub measure_in : Stage → Path → ℕ
measure_in Look below = amount (place below 0) (file_limit + 1)
measure_in (Piece off left) below = amount (place below 0) left
measure_in Inside below = amount (place below 0) 0
measure_in Beside below = amount (place below 257) 0
measure_in Whole below = 0
measure_in Absent below = 0
measure_in Overlong below = 0

pub measure : Export → ℕ
measure s = measure_in s.stage s.below

-- ---- fair exports

pub FairIn : Stage → Export → Type 0
FairIn Look s = RiseAfter (last_name s.below) s.names
FairIn (Piece off left) s = (1 ≤ left) × (left ≤ file_limit) × RiseAfter (last_name s.below) s.names
FairIn Inside s = Unit {0}
FairIn Beside s = Unit {0}
FairIn Whole s = Unit {0}
FairIn Absent s = Unit {0}
FairIn Overlong s = Unit {0}

pub record IsFair (s : Export) : Type 0 where
  pub short : IsShortPath s.below
  pub stage : FairIn s.stage s

-- it is fair, and less is left than so much
pub record Falls (most : ℕ) (m : Move) : Type 0 where
  pub fair : IsFair m.0
  pub fewer : measure m.0 < most

fault_falls : (s : Export) (p rank : ℕ) → IsShortPath s.below → Falls (amount p rank) (stays_at Absent s)
unfolding measure measure_in amount FairIn
fault_falls s p rank short = record { fair = record { short = short; stage = tt }; fewer = omega arith }

put_falls : (most : ℕ) (bytes : List ℕ) (m : Move) → Falls most m → Falls most (put bytes m)
put_falls most bytes m h = record { fair = h.fair; fewer = h.fewer }

closed_falls : (s : Export) (d : Path) (p rank : ℕ) → IsShortPath d → p < place d 257 → Falls (amount p rank) (closed s d)
unfolding measure measure_in amount FairIn
closed_falls s [] p rank short h = record { fair = record { short = short; stage = tt }; fewer = omega arith }
closed_falls s (n ∷ d) p rank short h =
    record {
      fair = record { short = short; stage = tt };
      fewer = higher_plain p (place (n ∷ d) 257) rank h (place_lt (n ∷ d) 257 short.0 (omega arith));
    }
  where
    higher_plain : (a b r : ℕ) → a < b → b < weight 513 → suc ((weight 513 - b) * (file_limit + 2) + 0) < suc ((weight 513 - a) * (file_limit + 2) + r)
    higher_plain a b r lt le = by_place (weight 513) (file_limit + 2) a b r 0 lt (omega arith) (omega arith)

-- ---- the next name

next_falls : (s : Export) (d : Path) (n : Name) (ns : List Name) (p rank : ℕ) → IsShortPath s.below → AreNames d → is_name n ≡ true → Rise n ns → p < place (d ++ n ∷ []) 0 → Falls (amount p rank) (next_in s d n ns)
unfolding measure measure_in amount FairIn RiseAfter
next_falls s d n ns p rank short names name rise h = by (short_path (s.top ++ (d ++ n ∷ []))) refl
  where
    are : AreNames (d ++ n ∷ [])
    are = AreNames-append d (n ∷ []) names (ap (λ (b : Bool). b && true) name)

    overlong : Falls (amount p rank) (stays_at Overlong s)
    overlong = record { fair = record { short = short; stage = tt }; fewer = omega arith }

    looks : length (path_text (s.top ++ (d ++ n ∷ []))) ≤ path_limit → Falls (amount p rank) (record { top = s.top; below = d ++ n ∷ []; stage = Look; names = ns }, [])
    looks len =
        record {
          fair = record {
            short = (are, omega (arith, len, text_by s.top (d ++ n ∷ [])));
            stage = subst (λ (o : Option Name). RiseAfter o ns) (sym (last_name-append d n)) rise;
          };
          fewer = higher p (place (d ++ n ∷ []) 0) rank (file_limit + 1) h (let lt = place_lt (d ++ n ∷ []) 0 are (omega arith) in omega arith) (omega arith);
        }

    by : (o : Option Path) → short_path (s.top ++ (d ++ n ∷ [])) ≡ o → Falls (amount p rank) (next_at s (d ++ n ∷ []) ns o)
    by None is = overlong
    by (Some path) is = looks (short_length (s.top ++ (d ++ n ∷ [])) path is)

-- ---- after a file

names_of : (p d : Path) (m : Name) → p ≡ d ++ m ∷ [] → AreNames p → AreNames d × (is_name m ≡ true)
names_of p d m is h =
    let parts = AreNames-parts d (m ∷ []) (subst AreNames is h) in
    (parts.0, (AreNames-cons m [] parts.1).0)

filed_by : (s : Export) (rank : ℕ) → IsShortPath s.below → (o : Option Path) → parent_of s.below ≡ o → (names : List Name) → RiseAfter (last_name s.below) names → Falls (amount (place s.below 0) rank) (filed_in s o names)
unfolding RiseAfter Rise
filed_by s rank short None above names rise = closed_falls s s.below (place s.below 0) rank short (place_last s.below short.1)
filed_by s rank short (Some d) above [] rise = closed_falls s s.below (place s.below 0) rank short (place_last s.below short.1)
filed_by s rank short (Some d) above (n ∷ ns) rise =
    let cut = parent_of-some s.below d above in
    let last : last_name s.below ≡ Some cut.0 = ap last_name cut.1 ∙ last_name-append d cut.0 in
    let up = subst (λ (o : Option Name). RiseAfter o (n ∷ ns)) last rise in
    let are = names_of s.below d cut.0 cut.1 short.0 in
    let size : length (path_text (d ++ cut.0 ∷ [])) ≤ path_limit = subst (λ (q : Path). length (path_text q) ≤ path_limit) cut.1 short.1 in
    let lt : place s.below 0 < place (d ++ n ∷ []) 0 = subst (λ (q : Path). place q 0 < place (d ++ n ∷ []) 0) (sym cut.1) (place_names d cut.0 n 0 0 (less (name_cmp cut.0 n) up.1) are.1 up.0 size (omega arith)) in
    next_falls s d n ns (place s.below 0) rank short are.0 up.0 up.2 lt

left_by : (s : Export) (off left rank : ℕ) (none : Bool) → (none ≡ false → left ≡ 0 → ⊥) → IsShortPath s.below → left < rank → left ≤ file_limit → RiseAfter (last_name s.below) s.names → Falls (amount (place s.below 0) rank) (cond none (filed s) (stays_at (Piece off left) s))
unfolding measure measure_in FairIn
left_by s off left rank true some short h le rise = filed_by s rank short (parent_of s.below) refl s.names rise
left_by s off left rank false some short h le rise = piece (lower_rank (place s.below 0) rank left h)
  where
    piece : amount (place s.below 0) left < amount (place s.below 0) rank → Falls (amount (place s.below 0) rank) (stays_at (Piece off left) s)
    piece lt = record { fair = record { short = short; stage = ((let e : left ≡ 0 → ⊥ = some refl in omega arith), le, rise) }; fewer = lt }

left_falls : (s : Export) (off left rank : ℕ) → IsShortPath s.below → left < rank → left ≤ file_limit → RiseAfter (last_name s.below) s.names → Falls (amount (place s.below 0) rank) (left_at s off left)
left_falls s off left rank short h le rise = left_by s off left rank (left == 0) (eqb-false left 0) short h le rise

-- ---- what stands at the path

len_by : (a b : Bool) (p : Path) (mode len : ℕ) (h : Head) → (b ≡ true → len ≤ file_limit) → cond (a && b) (Some (record { path = p; mode = mode; len = Some len })) None ≡ Some h → IfSome h.len (λ n. n ≤ file_limit)
len_by true true p mode len h fits e = (let same : record { path = p; mode = mode; len = Some len } ≡ h = cc in subst (λ (x : Head). IfSome x.len (λ n. n ≤ file_limit)) same (fits refl))
len_by true false p mode len h fits e = cc
len_by false b p mode len h fits e = cc

dir_by : (a : Bool) (p : Path) (mode : ℕ) (h : Head) → cond a (Some (record { path = p; mode = mode; len = None })) None ≡ Some h → IfSome h.len (λ n. n ≤ file_limit)
dir_by true p mode h e = (let same : record { path = p; mode = mode; len = None } ≡ h = cc in subst (λ (x : Head). IfSome x.len (λ n. n ≤ file_limit)) same tt)
dir_by false p mode h e = cc

head_len : (p : Path) (r : Reply) (h : Head) → head_in p r ≡ Some h → IfSome h.len (λ n. n ≤ file_limit)
head_len p Done h e = cc
head_len p (Bytes bytes) h e = cc
head_len p (Dir mode) h e = dir_by (nat_le mode mode_limit) p mode h e
head_len p (File len mode) h e = len_by (nat_le mode mode_limit) (nat_le len file_limit) p mode len h (leb-true len file_limit) e
head_len p (Names l) h e = cc
head_len p (Refused refusal) h e = cc

head_falls : (s : Export) (len : Option ℕ) → IfSome len (λ n. n ≤ file_limit) → IsShortPath s.below → RiseAfter (last_name s.below) s.names → Falls (amount (place s.below 0) (file_limit + 1)) (after_head s len)
unfolding measure measure_in FairIn
head_falls s None fits short rise = inside (lower_rank (place s.below 0) (file_limit + 1) 0 (omega arith))
  where
    inside : amount (place s.below 0) 0 < amount (place s.below 0) (file_limit + 1) → Falls (amount (place s.below 0) (file_limit + 1)) (after_head s None)
    inside lt = record { fair = record { short = short; stage = tt }; fewer = lt }
head_falls s (Some len) fits short rise = left_falls s 0 len (file_limit + 1) short (omega (arith, fits)) fits rise

look_falls : (s : Export) (o : Option Head) → ((h : Head) → o ≡ Some h → IfSome h.len (λ n. n ≤ file_limit)) → IsShortPath s.below → RiseAfter (last_name s.below) s.names → Falls (amount (place s.below 0) (file_limit + 1)) (looked_at s o)
look_falls s None fits short rise = fault_falls s (place s.below 0) (file_limit + 1) short
look_falls s (Some h) fits short rise = put_falls (amount (place s.below 0) (file_limit + 1)) _ (after_head s h.len) (head_falls s h.len (fits h refl) short rise)

-- ---- the bytes of a file

count_by : (b : Bool) (size : ℕ) (bytes got : List ℕ) → (b ≡ true → length bytes ≡ size) → cond b (Some bytes) None ≡ Some got → length got ≡ size
count_by true size bytes got count e = (let same : bytes ≡ got = cc in subst (λ (l : List ℕ). length l ≡ size) same (count refl))
count_by false size bytes got count e = cc

piece_count : (size : ℕ) (r : Reply) (got : List ℕ) → piece_in size r ≡ Some got → length got ≡ size
piece_count size Done got e = cc
piece_count size (Bytes bytes) got e = count_by (length bytes == size) size bytes got (eqb-true (length bytes) size) e
piece_count size (Dir mode) got e = cc
piece_count size (File len mode) got e = cc
piece_count size (Names l) got e = cc
piece_count size (Refused refusal) got e = cc

some_by : (b : Bool) (left : ℕ) → 1 ≤ left → 1 ≤ cond b left read_limit
some_by true left h = h
some_by false left h = omega arith

piece_falls : (s : Export) (off left : ℕ) (o : Option (List ℕ)) → ((got : List ℕ) → o ≡ Some got → length got ≡ piece_size left) → IsShortPath s.below → 1 ≤ left → left ≤ file_limit → RiseAfter (last_name s.below) s.names → Falls (amount (place s.below 0) left) (pieced s off left o)
piece_falls s off left None count short some le rise = fault_falls s (place s.below 0) left short
piece_falls s off left (Some bytes) count short some le rise =
    let size : 1 ≤ length bytes = omega (arith, count bytes refl, some_by (nat_lt left read_limit) left some) in
    put_falls (amount (place s.below 0) left) bytes (left_at s (off + length bytes) (left - length bytes))
    (left_falls s (off + length bytes) (left - length bytes) left short (omega arith) (omega arith) rise)

-- ---- the names in a directory

inside_falls : (s : Export) (o : Option (List Name)) → ((names : List Name) → o ≡ Some names → Rise [] names) → IsShortPath s.below → Falls (amount (place s.below 0) 0) (named s (Some s.below) o)
unfolding Rise
inside_falls s None rise short = fault_falls s (place s.below 0) 0 short
inside_falls s (Some []) rise short = closed_falls s s.below (place s.below 0) 0 short (place_last s.below short.1)
inside_falls s (Some (n ∷ ns)) rise short =
    let up = rise (n ∷ ns) refl in
    next_falls s s.below n ns (place s.below 0) 0 short short.0 up.0 up.2 (place_inside s.below n up.0 short.1)

beside_by : (s : Export) (d : Path) (m : Name) (o : Option (List Name)) → s.below ≡ d ++ m ∷ [] → ((names : List Name) → o ≡ Some names → Rise m names) → IsShortPath s.below → IsShortPath d → is_name m ≡ true → length (path_text (d ++ m ∷ [])) ≤ path_limit → Falls (amount (place (d ++ m ∷ []) 257) 0) (named s (Some d) o)
unfolding Rise
beside_by s d m None is rise short above name size = fault_falls s (place (d ++ m ∷ []) 257) 0 short
beside_by s d m (Some []) is rise short above name size = closed_falls s d (place (d ++ m ∷ []) 257) 0 above (place_beside d m 257 name size (omega arith))
beside_by s d m (Some (n ∷ ns)) is rise short above name size =
    let up = rise (n ∷ ns) refl in
    next_falls s d n ns (place (d ++ m ∷ []) 257) 0 short above.0 up.0 up.2 (place_names d m n 257 0 (less (name_cmp m n) up.1) name up.0 size (omega arith))

beside_falls : (s : Export) (r : Reply) → IsShortPath s.below → (o : Option Path) → parent_of s.below ≡ o → Falls (amount (place s.below 257) 0) (named s o (names_after (unwrap_or (last_name s.below) []) r))
beside_falls s r short None above = fault_falls s (place s.below 257) 0 short
beside_falls s r short (Some d) above =
    let cut = parent_of-some s.below d above in
    let last : last_name s.below ≡ Some cut.0 = ap last_name cut.1 ∙ last_name-append d cut.0 in
    let are = names_of s.below d cut.0 cut.1 short.0 in
    let size : length (path_text (d ++ cut.0 ∷ [])) ≤ path_limit = subst (λ (q : Path). length (path_text q) ≤ path_limit) cut.1 short.1 in
    let falls = beside_by s d cut.0 (names_after (unwrap_or (last_name s.below) []) r) cut.1
    (λ names e. names_rise cut.0 r names (ap (λ (o : Option Name). names_after (unwrap_or o []) r) (sym last) ∙ e)) short (are.0, omega (arith, size, Rattle.bd_stream.proofs.PlaceLemmas.text_front d (cut.0 ∷ []))) are.1 size in
    subst (λ (q : Path). Falls (amount (place q 257) 0) (named s (Some d) (names_after (unwrap_or (last_name s.below) []) r))) (sym cut.1) falls

-- ---- an answer

pub answer_in : (stage : Stage) (s : Export) (r : Reply) (c : Command) → FairIn stage s → IsShortPath s.below → asked_in stage s ≡ Some c → Falls (measure_in stage s.below) (answered_in stage s r)
unfolding measure_in FairIn
answer_in Look s r c fair short ask = look_falls s (head_in s.below r) (head_len s.below r) short fair
answer_in (Piece off left) s r c fair short ask = piece_falls s off left (piece_in (piece_size left) r) (piece_count (piece_size left) r) short fair.0 fair.1 fair.2
answer_in Inside s r c fair short ask = inside_falls s (names_after [] r) (names_rise [] r) short
answer_in Beside s r c fair short ask = beside_falls s r short (parent_of s.below) refl
answer_in Whole s r c fair short ask = cc
answer_in Absent s r c fair short ask = cc
answer_in Overlong s r c fair short ask = cc

-- so each answer to what is asked leaves a fair export of which less is left
pub answers_fall : (s : Export) (r : Reply) (c : Command) → IsFair s → asked s ≡ Some c → Falls (measure s) (answered s r)
unfolding measure
answers_fall s r c fair ask = answer_in s.stage s r c fair.stage fair.short ask

-- where nothing is asked, nothing is asked later
no_more : (stage : Stage) (s : Export) (r : Reply) → asked_in stage s ≡ None → asked (answered_in stage s r).0 ≡ None
no_more Look s r h = cc
no_more (Piece off left) s r h = cc
no_more Inside s r h = cc
no_more Beside s r h = by (parent_of s.below) h
  where
    by : (o : Option Path) → ask_beside s.top o (last_name s.below) ≡ None → asked (named s o (names_after (unwrap_or (last_name s.below) []) r)).0 ≡ None
    by None e = refl
    by (Some d) e = cc
no_more Whole s r h = refl
no_more Absent s r h = refl
no_more Overlong s r h = refl

never : (n : ℕ) (replies : ℕ → Reply) (s : Export) → asked s ≡ None → asked (after_replies n replies s) ≡ None
never zero replies s h = h
never (suc n) replies s h = never n (λ k. replies (suc k)) (answered s (replies 0)).0 (no_more s.stage s (replies 0) h)

none_left : (stage : Stage) (s : Export) → measure_in stage s.below ≤ 0 → asked_in stage s ≡ None
unfolding measure_in amount
none_left Look s h = absurd (omega arith)
none_left (Piece off left) s h = absurd (omega arith)
none_left Inside s h = absurd (omega arith)
none_left Beside s h = absurd (omega arith)
none_left Whole s h = refl
none_left Absent s h = refl
none_left Overlong s h = refl

ends_within : (n : ℕ) (replies : ℕ → Reply) (s : Export) → IsFair s → measure s ≤ n → asked (after_replies n replies s) ≡ None
unfolding measure
ends_within zero replies s fair h = none_left s.stage s h
ends_within (suc n) replies s fair h = by (asked s) refl (λ c ask. answer_in s.stage s (replies 0) c fair.stage fair.short ask) (ends_within n (λ k. replies (suc k)) (answered s (replies 0)).0)
  where
    by : (o : Option Command) → asked s ≡ o → ((c : Command) → asked s ≡ Some c → Falls (measure_in s.stage s.below) (answered s (replies 0)))
        → (IsFair (answered s (replies 0)).0 → measure_in (answered s (replies 0)).0.stage (answered s (replies 0)).0.below ≤ n → asked (after_replies n (λ k. replies (suc k)) (answered s (replies 0)).0) ≡ None)
        → asked (after_replies n (λ k. replies (suc k)) (answered s (replies 0)).0) ≡ None
    by None ask falls ih = never n (λ k. replies (suc k)) (answered s (replies 0)).0 (no_more s.stage s (replies 0) ask)
    by (Some c) ask falls ih = (let f = falls c ask in ih f.fair (lower (measure_in (answered s (replies 0)).0.stage (answered s (replies 0)).0.below) (measure_in s.stage s.below) n (fewer_of (answered s (replies 0)) (measure_in s.stage s.below) f) h))
      where
        lower : (a b m : ℕ) → a < b → b ≤ suc m → a ≤ m
        lower a b m x y = omega arith

        fewer_of : (m : Move) (most : ℕ) → Falls most m → measure_in m.0.stage m.0.below < most
        fewer_of m most f = f.fewer

pub begin_fair : (top : Path) → IsFair (begin top)
unfolding FairIn RiseAfter
begin_fair top = record { short = (refl, omega arith); stage = refl }

begin_same : (top : Path) → measure (begin top) ≤ measure (begin [])
unfolding measure
begin_same top = omega arith

-- there is a number of answers after which nothing is asked
pub export_ends : (n : ℕ) × ((top : Path) (replies : ℕ → Reply) → IsShortPath top → asked (after_replies n replies (begin top)) ≡ None)
export_ends = (measure (begin []), λ top replies short. ends_within (measure (begin [])) replies (begin top) (begin_fair top) (begin_same top))
