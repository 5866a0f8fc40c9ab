-- No command's encoding begins another's.
use Rattle.std.proofs.Common.{◌≡◌, ◌≢◌, ℕ, ◌<◌, ◌≤◌, List, [], ◌∷◌, ◌++◌, ◌^◌, length, drop, get_or, sym, ap, subst, ◌∙◌, arith, length-append, append-nil, None, Some, ◌⊎◌, inl, inr, suc, false, true}
use Rattle.std.specs.List.{AllByRecursion}
use Rattle.std.specs.Int.{w16, w32}
use Rattle.bd_names.specs.Names.{path_text, path_of}
use Rattle.bd_names.proofs.NamesLaws.{path_of-path_text}
use Rattle.bd_wire.specs.Numbers.{be, FitsWidth, IsBytes}
use Rattle.bd_wire.specs.Encoding.{IsPrefixFree, BeginsNone}
use Rattle.bd_wire.specs.Text.{text16, FitsText16}
use Rattle.bd_wire.proofs.NumberLemmas.{length-be, IsPrefixFree-be, BeginsNone-be}
use Rattle.bd_wire.proofs.EncodingLemmas.{IsPrefixFree-both}
use Rattle.bd_wire.proofs.TextLemmas.{length-text16, IsPrefixFree-text16}
use Rattle.bd_command.specs.Command.{IsShortPath, IsWritten, IsMode}
use Rattle.bd_command.specs.Log.{IsLogged, path16, command_bytes, log_record, record_limit, FitsWrite, FitsTruncate, FitsPaths, FitsChmod, encode_write, encode_truncate, encode_paths, encode_chmod}
use Rattle.bd_command.specs.declared.Command.{Command}
use Rattle.bd_command.specs.declared.Command.TheVariants.{Mkdir, Create, Write, Truncate, Remove, Rename, Clone, Chmod, Read, Stat, List as Ls}

-- two paths of one text are one
one_path : (a b : List (List ℕ)) → IsShortPath a → IsShortPath b → path_text a ≡ path_text b → a ≡ b
one_path a b h k e =
    let same : Some a ≡ Some b = sym (path_of-path_text a h.0 h.1) ∙ ap path_of e ∙ path_of-path_text b k.0 k.1 in cc

pub path_alone : IsPrefixFree IsShortPath path16
path_alone a b x y h k e =
    let texts = IsPrefixFree-text16 (path_text a) (path_text b) x y (omega (arith, h.1)) (omega (arith, k.1)) e in
    (one_path a b h k texts.0, texts.1)

pub written_alone : IsPrefixFree IsWritten text16
written_alone a b x y h k e = IsPrefixFree-text16 a b x y (omega (arith, h.1)) (omega (arith, k.1)) e

pub truncate_alone : IsPrefixFree FitsTruncate encode_truncate
truncate_alone = IsPrefixFree-both IsShortPath (FitsWidth w32) path16 (be w32) path_alone (IsPrefixFree-be w32)

write_alone : IsPrefixFree FitsWrite encode_write
write_alone = IsPrefixFree-both FitsTruncate IsWritten encode_truncate text16 truncate_alone written_alone

paths_alone : IsPrefixFree FitsPaths encode_paths
paths_alone = IsPrefixFree-both IsShortPath IsShortPath path16 path16 path_alone path_alone

mode_alone : IsPrefixFree IsMode (be w16)
mode_alone a b x y h k e = IsPrefixFree-be w16 a b x y (omega (arith, h)) (omega (arith, k)) e

chmod_alone : IsPrefixFree FitsChmod encode_chmod
chmod_alone = IsPrefixFree-both IsShortPath IsMode path16 (be w16) path_alone mode_alone

-- too few bytes stand there for a mode
pub no_mode : (left : List ℕ) → length left < 2 → BeginsNone IsMode (be w16) left
no_mode left short m rest h e = BeginsNone-be w16 left short m rest (omega (arith, h)) e

-- a number stands there that is no mode
pub not_mode : (left after : List ℕ) (n : ℕ) → n < 2 ^ 16 → left ≡ be w16 n ++ after → 4095 < n → BeginsNone IsMode (be w16) left
not_mode left after n fits read over m rest h e =
    let same = (IsPrefixFree-be w16 n m after rest (omega (arith, fits)) (omega (arith, h)) (sym read ∙ e)).0 in omega (arith, same, h)

-- a reading command has no record
unlogged : {A : Type 0} → false ≡ true → A
unlogged e = cc

-- no command's encoding begins another's
pub command_alone : IsPrefixFree IsLogged command_bytes
command_alone (Read p o l) b x y h k e = unlogged h.0
command_alone (Stat p) b x y h k e = unlogged h.0
command_alone (Ls p o) b x y h k e = unlogged h.0
command_alone a (Read p o l) x y h k e = unlogged k.0
command_alone a (Stat p) x y h k e = unlogged k.0
command_alone a (Ls p o) x y h k e = unlogged k.0
command_alone (Mkdir p) (Mkdir q) x y h k e =
    let same = path_alone p q x y h.1 k.1 (ap (drop 1) e) in (ap Mkdir same.0, same.1)
command_alone (Create p) (Create q) x y h k e =
    let same = path_alone p q x y h.1 k.1 (ap (drop 1) e) in (ap Create same.0, same.1)
command_alone (Write p o bs) (Write q n cs) x y h k e =
    let same = write_alone ((p, o), bs) ((q, n), cs) x y ((h.1.0, omega (arith, h.1.1)), h.1.2) ((k.1.0, omega (arith, k.1.1)), k.1.2) (ap (drop 1) e) in
    (ap (λ (v : (List (List ℕ) × ℕ) × List ℕ). Write v.0.0 v.0.1 v.1) same.0, same.1)
command_alone (Truncate p o) (Truncate q n) x y h k e =
    let same = truncate_alone (p, o) (q, n) x y (h.1.0, omega (arith, h.1.1)) (k.1.0, omega (arith, k.1.1)) (ap (drop 1) e) in
    (ap (λ (v : List (List ℕ) × ℕ). Truncate v.0 v.1) same.0, same.1)
command_alone (Remove p) (Remove q) x y h k e =
    let same = path_alone p q x y h.1 k.1 (ap (drop 1) e) in (ap Remove same.0, same.1)
command_alone (Rename p q) (Rename r s) x y h k e =
    let same = paths_alone (p, q) (r, s) x y h.1 k.1 (ap (drop 1) e) in
    (ap (λ (v : List (List ℕ) × List (List ℕ)). Rename v.0 v.1) same.0, same.1)
command_alone (Clone p q) (Clone r s) x y h k e =
    let same = paths_alone (p, q) (r, s) x y h.1 k.1 (ap (drop 1) e) in
    (ap (λ (v : List (List ℕ) × List (List ℕ)). Clone v.0 v.1) same.0, same.1)
command_alone (Chmod p m) (Chmod q n) x y h k e =
    let same = chmod_alone (p, m) (q, n) x y h.1 k.1 (ap (drop 1) e) in
    (ap (λ (v : List (List ℕ) × ℕ). Chmod v.0 v.1) same.0, same.1)
command_alone a b x y h k e = absurd (omega (arith, ap (λ l. get_or l 0 0) e))

-- no command stands after this first byte: where it is a command's, no such fields do
pub none_after : (n : ℕ) (left : List ℕ)
    → ((n ≡ 1) ⊎ (n ≡ 2) ⊎ (n ≡ 5) → BeginsNone IsShortPath path16 left)
    → (n ≡ 3 → BeginsNone FitsWrite encode_write left)
    → (n ≡ 4 → BeginsNone FitsTruncate encode_truncate left)
    → ((n ≡ 6) ⊎ (n ≡ 7) → BeginsNone FitsPaths encode_paths left)
    → (n ≡ 8 → BeginsNone FitsChmod encode_chmod left)
    → BeginsNone IsLogged command_bytes (n ∷ left)
none_after n left one write truncate two chmod (Mkdir p) rest h e =
    let tag : n ≡ 1 = ap (λ l. get_or l 0 0) e in one (inl tag) p rest h.1 (ap (drop 1) e)
none_after n left one write truncate two chmod (Create p) rest h e =
    let tag : n ≡ 2 = ap (λ l. get_or l 0 0) e in one (inr (inl tag)) p rest h.1 (ap (drop 1) e)
none_after n left one write truncate two chmod (Write p o bs) rest h e =
    let tag : n ≡ 3 = ap (λ l. get_or l 0 0) e in write tag ((p, o), bs) rest ((h.1.0, omega (arith, h.1.1)), h.1.2) (ap (drop 1) e)
none_after n left one write truncate two chmod (Truncate p o) rest h e =
    let tag : n ≡ 4 = ap (λ l. get_or l 0 0) e in truncate tag (p, o) rest (h.1.0, omega (arith, h.1.1)) (ap (drop 1) e)
none_after n left one write truncate two chmod (Remove p) rest h e =
    let tag : n ≡ 5 = ap (λ l. get_or l 0 0) e in one (inr (inr tag)) p rest h.1 (ap (drop 1) e)
none_after n left one write truncate two chmod (Rename p q) rest h e =
    let tag : n ≡ 6 = ap (λ l. get_or l 0 0) e in two (inl tag) (p, q) rest h.1 (ap (drop 1) e)
none_after n left one write truncate two chmod (Clone p q) rest h e =
    let tag : n ≡ 7 = ap (λ l. get_or l 0 0) e in two (inr tag) (p, q) rest h.1 (ap (drop 1) e)
none_after n left one write truncate two chmod (Chmod p m) rest h e =
    let tag : n ≡ 8 = ap (λ l. get_or l 0 0) e in chmod tag (p, m) rest h.1 (ap (drop 1) e)
none_after n left one write truncate two chmod c rest h e = unlogged h.0

-- nor where nothing is left
pub none_left : BeginsNone IsLogged command_bytes []
none_left (Read p o l) rest h e = unlogged h.0
none_left (Stat p) rest h e = unlogged h.0
none_left (Ls p o) rest h e = unlogged h.0
none_left c rest h e = absurd (omega (arith, ap length e))

-- the first byte was read
pub after_tag : (left after : List ℕ) (tag n : ℕ) → left ≡ (tag ∷ []) ++ after → tag ≡ n → BeginsNone IsLogged command_bytes (n ∷ after) → BeginsNone IsLogged command_bytes left
after_tag left after tag n read is none c rest h e = none c rest h (ap (λ b. b ∷ after) (sym is) ∙ sym read ∙ e)

-- a record has at most so many bytes
pub record_fits : (c : Command) → IsLogged c → length (log_record c) ≤ record_limit
record_fits (Mkdir p) h = simp (length-text16) (omega arith)
record_fits (Create p) h = simp (length-text16) (omega arith)
record_fits (Write p o bs) h = simp (length-append, length-text16, length-be) (omega arith)
record_fits (Truncate p o) h = simp (length-append, length-text16, length-be) (omega arith)
record_fits (Remove p) h = simp (length-text16) (omega arith)
record_fits (Rename p q) h = simp (length-append, length-text16) (omega arith)
record_fits (Clone p q) h = simp (length-append, length-text16) (omega arith)
record_fits (Chmod p m) h = simp (length-append, length-text16, length-be) (omega arith)
record_fits c h = unlogged h.0

size_fits : (c : Command) → IsLogged c → FitsText16 (command_bytes c)
size_fits c h = omega (arith, record_fits c h, length-text16 (command_bytes c))

pub record_alone : IsPrefixFree IsLogged log_record
record_alone a b x y h k e =
    let texts = IsPrefixFree-text16 (command_bytes a) (command_bytes b) x y (size_fits a h) (size_fits b k) e in
    let whole = command_alone a b [] [] h k (ap (λ l. l ++ []) texts.0) in
    (whole.0, texts.1)

-- bytes are bytes one by one
pub all_bytes : (bytes : List ℕ) → IsBytes bytes → AllByRecursion (λ b. b < 256) bytes
all_bytes [] h = tt
all_bytes (b ∷ bytes) h = (h 0, all_bytes bytes (λ i. h (suc i)))

-- a text stands there that is no path
pub no_path : (left after text : List ℕ) → FitsText16 text → left ≡ text16 text ++ after → path_of text ≡ None → BeginsNone IsShortPath path16 left
no_path left after text fits read none p rest h e =
    let texts = IsPrefixFree-text16 text (path_text p) after rest fits (omega (arith, h.1)) (sym read ∙ e) in
    let there : path_of text ≡ Some p = ap path_of texts.0 ∙ path_of-path_text p h.0 h.1 in cc

-- bytes stand there that no write carries
pub not_written : (left after bytes : List ℕ) → FitsText16 bytes → left ≡ text16 bytes ++ after → ¬ IsWritten bytes → BeginsNone IsWritten text16 left
not_written left after bytes fits read not other rest h e =
    let texts = IsPrefixFree-text16 bytes other after rest fits (omega (arith, h.1)) (sym read ∙ e) in
    not (subst IsWritten (sym texts.0) h)

-- bytes are left after a command
pub not_whole : (bytes after : List ℕ) (c : Command) → IsLogged c → bytes ≡ command_bytes c ++ after → after ≢ [] → (d : Command) → IsLogged d → bytes ≡ command_bytes d → ⊥
not_whole bytes after c h read more d k e =
    more (command_alone c d after [] h k (sym read ∙ e ∙ sym (append-nil (command_bytes d)))).1

-- no command stands at the front
pub none_whole : (bytes : List ℕ) → BeginsNone IsLogged command_bytes bytes → (d : Command) → IsLogged d → bytes ≡ command_bytes d → ⊥
none_whole bytes none d k e = none d [] k (e ∙ sym (append-nil (command_bytes d)))

-- no record stands where nothing with a length does
pub no_text : (left : List ℕ) → BeginsNone FitsText16 text16 left → BeginsNone IsLogged log_record left
no_text left none c rest h e = none (command_bytes c) rest (size_fits c h) e

-- nor where what has a length is no command
pub no_command : (left after bytes : List ℕ) → FitsText16 bytes → left ≡ text16 bytes ++ after → ((d : Command) → IsLogged d → bytes ≡ command_bytes d → ⊥) → BeginsNone IsLogged log_record left
no_command left after bytes fits read none c rest h e =
    none c h (IsPrefixFree-text16 bytes (command_bytes c) after rest fits (size_fits c h) (sym read ∙ e)).0
