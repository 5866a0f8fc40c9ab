-- How words are read.
use Rattle.std.proofs.Common.{◌≡◌, ℕ, ◌<◌, ◌^◌, Bool, true, false, cond, List, [], ◌∷◌, length, refl, sym, ◌∙◌, ap, subst, arith, get_or, Bor}
use Rattle.std.specs.Prelude.{slice_get, IfOk, OnErr, ◌||◌, nat_eq}
use Rattle.std.proofs.lemmas.Bool.{ne_eqb}
use Rattle.std.proofs.lemmas.Option.{slice_get_within}
use Rattle.std.specs.List.{list_any}
use Rattle.std.specs.declared.option.Option.{Option}
use Rattle.std.specs.declared.option.Option.TheVariants.{None, Some}
use Rattle.std.specs.declared.result.Result.{Result}
use Rattle.std.specs.declared.result.Result.TheVariants.{Ok, Err}
use Rattle.std.specs.Iterator.{DrainsIf, YieldsThen}
use Rattle.std.proofs.lemmas.Iterator.{YieldsList, items_from_drains}
use Rattle.std.proofs.lemmas.Iterator.Consumers.{nth_from_yields_List}
use Rattle.arrayvec.specs.ArrayVec.{ArrayVec}
use Rattle.bd_names.specs.Names.{path_of}
use Rattle.bd_names.proofs.NamesLaws.{path_of-some}
use Rattle.bd_command.specs.Command.{IsShortPath, IsWritten}
use Rattle.bd_command.specs.declared.Command.TheVariants.{Write}
use Rattle.bd_command.specs.declared.refusal.Refusal.TheVariants.{BadLine}
use Rattle.bd_script.specs.declared.verb.Verb.{Verb}
use Rattle.bd_script.specs.declared.verb.Verb.TheVariants as verb
use Rattle.bd_script.specs.Lines.{Path, LineMeaning, runs, is_empty, number_of, hex_of, path_in, with_path, with_number, with_bytes, verb_of, with_verb, line_of_write, line_of_verb, line_of_words, line_of_parts}
use Rattle.bd_script.specs.Reading.{texts}
use Rattle.bd_script.proofs.WordLemmas.{number_of-below, IsWritten-hex_of}

pub IsShortPath-read : (word : List ℕ) (path : Path) → path_of word ≡ Some path → IsShortPath path
IsShortPath-read word path h = let read = path_of-some word path h in (read.0, read.1)

-- ---- the words of a line

-- what an iterator collects into a vector is what it yields
pub texts_if_ok : {S E : Type 0} {steps : S → Option (Bor (List ℕ)) → S → Type 0} {s : S} {all : List (List ℕ)} (r : Result (ArrayVec (Bor (List ℕ))) E)
    → IfOk r (λ v. (it : S) × (xs : List (Bor (List ℕ))) × (it ≡ s) × DrainsIf steps (Unit {0}) it xs × (v.items ≡ xs))
    → YieldsList steps (λ x. x.now) s all → IfOk r (λ v. texts v.items ≡ all)
texts_if_ok {steps} {s} (Ok v) h yields =
    ap texts h.4 ∙ items_from_drains h.1 (subst (λ it. DrainsIf steps (Unit {0}) it h.1) h.2 h.3) yields
texts_if_ok (Err e) h yields = tt

-- where it doesn't fit, more are yielded than fit
pub more_if_err : {S E : Type 0} {steps : S → Option (Bor (List ℕ)) → S → Type 0} {s : S} {all : List (List ℕ)} (n : ℕ) (r : Result (ArrayVec (Bor (List ℕ))) E)
    → OnErr r ((it : S) × (xs : List (Bor (List ℕ))) × (x : Bor (List ℕ)) × (rest : S) × (it ≡ s) × YieldsThen steps it xs (Some x) rest × (length xs ≡ n))
    → YieldsList steps (λ x. x.now) s all → OnErr r (n < length all)
more_if_err n (Ok v) h yields = tt
more_if_err {steps} {s} {all} n (Err e) h yields =
    let got : Some h.2.now ≡ slice_get all (length h.1) = nth_from_yields_List (Some h.2) h.3 (length h.1) (h.1, subst (λ it. YieldsThen steps it h.1 (Some h.2) h.3) h.4 h.5, refl) yields in
    let few : length h.1 < length all = slice_get_within all (length h.1) h.2.now (sym got) in
    omega (arith, few, h.6)

line_of_verb-many : (v : Verb) (a b c d : List ℕ) (more : List (List ℕ)) → line_of_verb v (a ∷ b ∷ c ∷ d ∷ more) ≡ Err BadLine
line_of_verb-many verb.Mkdir a b c d more = refl
line_of_verb-many v a b c d more = refl

with_verb-many : (o : Option Verb) (words : List (List ℕ)) → 3 < length words → with_verb o words ≡ Err BadLine
with_verb-many None words h = refl
with_verb-many (Some v) [] h = absurd (omega arith)
with_verb-many (Some v) (a ∷ []) h = absurd (omega arith)
with_verb-many (Some v) (a ∷ b ∷ []) h = absurd (omega arith)
with_verb-many (Some v) (a ∷ b ∷ c ∷ []) h = absurd (omega arith)
with_verb-many (Some v) (a ∷ b ∷ c ∷ d ∷ more) h = line_of_verb-many v a b c d more

line_of_words-many : (words : List (List ℕ)) → 4 < length words → line_of_words words ≡ Err BadLine
line_of_words-many [] h = absurd (omega arith)
line_of_words-many (word ∷ words) h = with_verb-many (verb_of word) words (omega arith)

either : (t : Bool) (l m : LineMeaning) → l ≡ m → cond t m l ≡ m
either true l m h = refl
either false l m h = h

-- a line of more than four words is a bad one
pub line_of_parts-many : (words : List (List ℕ)) → 4 < length words → line_of_parts words ≡ Err BadLine
line_of_parts-many words h = either (list_any is_empty words) (line_of_words words) (Err BadLine) (line_of_words-many words h)

pub line_of_parts-empty : (words : List (List ℕ)) → list_any is_empty words ≡ true → line_of_parts words ≡ Err BadLine
line_of_parts-empty words h = rw h refl

pub line_of_parts-some : (words : List (List ℕ)) → list_any is_empty words ≡ false → line_of_parts words ≡ line_of_words words
line_of_parts-some words h = rw h refl

pub is_empty-length : (word : List ℕ) → is_empty word ≡ nat_eq (length word) 0
is_empty-length [] = refl
is_empty-length (b ∷ word) = sym (ne_eqb (length (b ∷ word)) 0 (λ e. absurd (omega arith)))

pub list_any-texts : (words : List (Bor (List ℕ))) → list_any (λ w. is_empty w.now) words ≡ list_any is_empty (texts words)
list_any-texts [] = refl
list_any-texts (w ∷ words) = ap (λ t. is_empty w.now || t) (list_any-texts words)

-- ---- commands

pub write_is : (words : List (Bor (List ℕ))) (d : Bor (List ℕ)) (n : ℕ) (path : Path) (text bytes : List ℕ) → length words ≡ 3
    → path_in (get_or words 0 d).now ≡ Ok path → Some n ≡ number_of (get_or words 1 d).now → hex_of (get_or words 2 d).now ≡ Some text → bytes ≡ text
    → (line_of_write (texts words) ≡ runs (Write path n bytes)) × (n < 2 ^ 32) × IsWritten bytes
write_is [] d n path text bytes size is_path is_number is_hex same = absurd (omega arith)
write_is (p ∷ []) d n path text bytes size is_path is_number is_hex same = absurd (omega arith)
write_is (p ∷ off ∷ []) d n path text bytes size is_path is_number is_hex same = absurd (omega arith)
write_is (p ∷ off ∷ hex ∷ []) d n path text bytes size is_path is_number is_hex same = (
  ap (λ o. with_number o (λ m. with_bytes (hex_of hex.now) (λ b. with_path (path_in p.now) (λ x. runs (Write x m b))))) (sym is_number)
      ∙ ap (λ o. with_bytes o (λ b. with_path (path_in p.now) (λ x. runs (Write x n b)))) is_hex
      ∙ ap (λ r. with_path r (λ x. runs (Write x n text))) is_path
      ∙ ap (λ b. runs (Write path n b)) (sym same),
  number_of-below off.now n (sym is_number),
  subst IsWritten (sym same) (IsWritten-hex_of hex.now text is_hex),
)
write_is (p ∷ off ∷ hex ∷ more ∷ words) d n path text bytes size is_path is_number is_hex same = absurd (omega arith)
