-- What holds of each line, whatever its bytes are.
use Rattle.std.proofs.Common.{◌≡◌, ◌⊎◌, inl, inr, ℕ, ◌<◌, ◌≤◌, ◌^◌, Bool, true, false, cond, List, [], ◌∷◌, length, refl, ap, subst}
use Rattle.std.specs.Prelude.{nat_le, Result, Ok, Err}
use Rattle.std.specs.Option.{ok_or}
use Rattle.std.specs.List.{list_any}
use Rattle.std.specs.declared.option.Option.{Option}
use Rattle.std.specs.declared.option.Option.TheVariants.{None, Some}
use Rattle.std.proofs.lemmas.Bool.{leb-true}
use Rattle.bd_limits.specs.Limits.{line_limit, read_limit, mode_limit}
use Rattle.bd_names.specs.Names.{is_name, path_of}
use Rattle.bd_command.specs.Command.{IsShortPath, IsWritten, IsCommand}
use Rattle.bd_command.specs.declared.Command.{Command}
use Rattle.bd_command.specs.declared.Command.TheVariants.{Mkdir, Create, Write, Truncate, Remove, Rename, Clone, Chmod, Read, Stat, List as Ls}
use Rattle.bd_command.specs.declared.refusal.Refusal.{Refusal}
use Rattle.bd_command.specs.declared.refusal.Refusal.TheVariants.{BadPath, BadLine}
use Rattle.bd_script.specs.declared.line.Line.{Line}
use Rattle.bd_script.specs.declared.line.Line.TheVariants.{Walk, Df, Sync, Checkpoint, Reclaim, Stop}
use Rattle.bd_script.specs.declared.verb.Verb.{Verb}
use Rattle.bd_script.specs.declared.verb.Verb.TheVariants as verb
use Rattle.bd_script.specs.Lines.{Path, LineMeaning, IsLine, runs, is_empty, number_of, mode_of, hex_of, path_in, only_path, both_paths, two_paths, with_path, with_number, with_bytes, run_path, run_paths, line_of_write, line_of_truncate, line_of_chmod, line_of_read, line_of_list, alone, verb_of, with_verb, line_of_verb, words_of, line_of_words, line_of_parts, line_of}
use Rattle.bd_script.proofs.WordLemmas.{IsWritten-hex_of, number_of-below, mode_of-small}
use Rattle.bd_script.proofs.ReadLemmas.{IsShortPath-read}

-- a line's command keeps its limits, and a refusal is one of two
abbrev pub Keeps : LineMeaning → Type 0
Keeps (Ok line) = IsLine line
Keeps (Err r) = (r ≡ BadPath) ⊎ (r ≡ BadLine)

-- as a record, by which a proof finds the line
record Kept (l : LineMeaning) : Type 0 where
  is : Keeps l

kept : (l : LineMeaning) → Keeps l → Kept l
kept l h = record { is = h }

bad_line : Kept (Err BadLine)
bad_line = record { is = inr refl }

bad_path : Kept (Err BadPath)
bad_path = record { is = inl refl }

kept_cond : (b : Bool) (l m : LineMeaning) → (b ≡ true → Kept l) → Kept m → Kept (cond b l m)
kept_cond true l m h g = h refl
kept_cond false l m h g = g

short_path : (o : Option Path) (p : Path) → ok_or o BadPath ≡ Ok p → o ≡ Some p
short_path None p h = cc
short_path (Some q) p h = let same : q ≡ p = cc in ap Some same

bad_path_in : (o : Option Path) (r : Refusal) → ok_or o BadPath ≡ Err r → r ≡ BadPath
bad_path_in None r h = cc
bad_path_in (Some q) r h = cc

path_in-short : (word : List ℕ) (p : Path) → path_in word ≡ Ok p → IsShortPath p
path_in-short word p h = IsShortPath-read word p (short_path (path_of word) p h)

-- a path, or why there is none
kept_path : (word : List ℕ) (f : Path → LineMeaning) → ((p : Path) → IsShortPath p → Kept (f p)) → Kept (with_path (path_in word) f)
kept_path word f h = by (path_in word) refl
  where
    by : (r : Result Path Refusal) → path_in word ≡ r → Kept (with_path r f)
    by (Ok p) e = h p (path_in-short word p e)
    by (Err r) e = kept (Err r) (inl (bad_path_in (path_of word) r e))

-- a command of one path
kept_run : (f : Path → Command) (words : List (List ℕ)) → ((p : Path) → IsShortPath p → IsCommand (f p)) → Kept (run_path f (only_path words))
kept_run f [] h = bad_line
kept_run f (p ∷ []) h = kept_path p (λ path. runs (f path)) (λ path short. kept (runs (f path)) (h path short))
kept_run f (p ∷ q ∷ words) h = bad_line

-- a command of two paths
kept_run_paths : (f : Path → Path → Command) (words : List (List ℕ)) → ((a b : Path) → IsShortPath a → IsShortPath b → IsCommand (f a b)) → Kept (run_paths f (two_paths words))
kept_run_paths f [] h = bad_line
kept_run_paths f (p ∷ []) h = bad_line
kept_run_paths f (p ∷ q ∷ []) h = by (path_in p) (path_in q) refl refl
  where
    by : (r s : Result Path Refusal) → path_in p ≡ r → path_in q ≡ s → Kept (run_paths f (both_paths r s))
    by (Ok a) (Ok b) e g = kept (runs (f a b)) (h a b (path_in-short p a e) (path_in-short q b g))
    by (Ok a) (Err r) e g = kept (Err r) (inl (bad_path_in (path_of q) r g))
    by (Err r) s e g = kept (Err r) (inl (bad_path_in (path_of p) r e))
kept_run_paths f (p ∷ q ∷ w ∷ words) h = bad_line

kept_number : (word : List ℕ) (f : ℕ → LineMeaning) → ((n : ℕ) → n < 2 ^ 32 → Kept (f n)) → Kept (with_number (number_of word) f)
kept_number word f h = by (number_of word) refl
  where
    by : (o : Option ℕ) → number_of word ≡ o → Kept (with_number o f)
    by None e = bad_line
    by (Some n) e = h n (number_of-below word n e)

kept_bytes : (word : List ℕ) (f : List ℕ → LineMeaning) → ((bs : List ℕ) → IsWritten bs → Kept (f bs)) → Kept (with_bytes (hex_of word) f)
kept_bytes word f h = by (hex_of word) refl
  where
    by : (o : Option (List ℕ)) → hex_of word ≡ o → Kept (with_bytes o f)
    by None e = bad_line
    by (Some bs) e = h bs (IsWritten-hex_of word bs e)

kept_write : (words : List (List ℕ)) → Kept (line_of_write words)
kept_write [] = bad_line
kept_write (p ∷ []) = bad_line
kept_write (p ∷ off ∷ []) = bad_line
kept_write (p ∷ off ∷ hex ∷ []) =
    kept_number off _ (λ n k. kept_bytes hex _ (λ bs l. kept_path p _ (λ path h. kept (runs (Write path n bs)) (h, k, l))))
kept_write (p ∷ off ∷ hex ∷ w ∷ words) = bad_line

kept_truncate : (words : List (List ℕ)) → Kept (line_of_truncate words)
kept_truncate [] = bad_line
kept_truncate (p ∷ []) = bad_line
kept_truncate (p ∷ len ∷ []) = kept_number len _ (λ n k. kept_path p _ (λ path h. kept (runs (Truncate path n)) (h, k)))
kept_truncate (p ∷ len ∷ w ∷ words) = bad_line

kept_mode : (word : List ℕ) (f : ℕ → LineMeaning) → ((n : ℕ) → n ≤ mode_limit → Kept (f n)) → Kept (with_number (mode_of word) f)
kept_mode word f h = by (mode_of word) refl
  where
    by : (o : Option ℕ) → mode_of word ≡ o → Kept (with_number o f)
    by None e = bad_line
    by (Some n) e = h n (mode_of-small word n e)

kept_chmod : (words : List (List ℕ)) → Kept (line_of_chmod words)
kept_chmod [] = bad_line
kept_chmod (p ∷ []) = bad_line
kept_chmod (p ∷ mode ∷ []) = kept_mode mode _ (λ m k. kept_path p _ (λ path h. kept (runs (Chmod path m)) (h, k)))
kept_chmod (p ∷ mode ∷ w ∷ words) = bad_line

kept_read : (words : List (List ℕ)) → Kept (line_of_read words)
kept_read [] = bad_line
kept_read (p ∷ []) = bad_line
kept_read (p ∷ off ∷ []) = bad_line
kept_read (p ∷ off ∷ len ∷ []) =
    kept_number off _ (λ n k. kept_number len _ (λ m l.
    kept_cond (nat_le m read_limit) _ _ (λ e. kept_path p _ (λ path h. kept (runs (Read path n m)) (h, k, leb-true m read_limit e))) bad_line))
kept_read (p ∷ off ∷ len ∷ w ∷ words) = bad_line

kept_list : (words : List (List ℕ)) → Kept (line_of_list words)
kept_list [] = bad_line
kept_list (p ∷ []) = kept_path p _ (λ path h. kept (runs (Ls path None)) (h, tt))
kept_list (p ∷ name ∷ []) =
    kept_path p _ (λ path h. kept_cond (is_name name) (runs (Ls path (Some name))) (Err BadPath) (λ e. kept (runs (Ls path (Some name))) (h, e)) bad_path)
kept_list (p ∷ name ∷ w ∷ words) = bad_line

kept_alone : (line : Line) (words : List (List ℕ)) → IsLine line → Kept (alone line words)
kept_alone line [] h = kept (Ok line) h
kept_alone line (w ∷ words) h = bad_line

kept_verb : (v : Verb) (words : List (List ℕ)) → Kept (line_of_verb v words)
kept_verb verb.Mkdir words = kept_run Mkdir words (λ p h. h)
kept_verb verb.Create words = kept_run Create words (λ p h. h)
kept_verb verb.Write words = kept_write words
kept_verb verb.Truncate words = kept_truncate words
kept_verb verb.Remove words = kept_run Remove words (λ p h. h)
kept_verb verb.Rename words = kept_run_paths Rename words (λ a b h k. (h, k))
kept_verb verb.Clone words = kept_run_paths Clone words (λ a b h k. (h, k))
kept_verb verb.Chmod words = kept_chmod words
kept_verb verb.Read words = kept_read words
kept_verb verb.Stat words = kept_run Stat words (λ p h. h)
kept_verb verb.List words = kept_list words
kept_verb verb.Walk words = kept_alone Walk words tt
kept_verb verb.Df words = kept_alone Df words tt
kept_verb verb.Sync words = kept_alone Sync words tt
kept_verb verb.Checkpoint words = kept_alone Checkpoint words tt
kept_verb verb.Reclaim words = kept_alone Reclaim words tt
kept_verb verb.Stop words = kept_alone Stop words tt

kept_words : (ws : List (List ℕ)) → Kept (line_of_words ws)
kept_words [] = bad_line
kept_words (word ∷ words) = by (verb_of word)
  where
    by : (o : Option Verb) → Kept (with_verb o words)
    by None = bad_line
    by (Some v) = kept_verb v words

-- a bad line, or the line that follows a test
kept_past : (b : Bool) (l : LineMeaning) → Kept l → Kept (cond b (Err BadLine) l)
kept_past true l h = bad_line
kept_past false l h = h

kept_line : (line : List ℕ) → Kept (line_of line)
unfolding line_of
kept_line line =
    kept_cond (nat_le (length line) line_limit) (line_of_parts (words_of line)) (Err BadLine)
    (λ e. kept_past (list_any is_empty (words_of line)) (line_of_words (words_of line)) (kept_words (words_of line))) bad_line

pub Keeps-line_of : (line : List ℕ) (l : LineMeaning) → line_of line ≡ l → Keeps l
Keeps-line_of line l e = let P : LineMeaning → Type 0 = Keeps in subst P e (kept_line line).is
