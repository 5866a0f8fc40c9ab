-- Encodings one after the other.
use Rattle.std.proofs.Common.{◌≡◌, ℕ, List, ◌++◌, sym, ◌∙◌, append_assoc}
use Rattle.bd_wire.specs.Encoding.{IsPrefixFree, BeginsNone, FitsBoth, encode_both}

-- pairs are equal part by part
same_pair : {A B : Type 0} (v w : A × B) → v.0 ≡ w.0 → v.1 ≡ w.1 → v ≡ w
same_pair (a, b) (c, d) p q = cc

-- where two values follow each other, the pairs are prefix-free
pub IsPrefixFree-both : {A B : Type 0} (fits_a : A → Type 0) (fits_b : B → Type 0) (encode_a : A → List ℕ) (encode_b : B → List ℕ)
    → IsPrefixFree fits_a encode_a → IsPrefixFree fits_b encode_b → IsPrefixFree (FitsBoth fits_a fits_b) (encode_both encode_a encode_b)
IsPrefixFree-both fits_a fits_b encode_a encode_b first second v w x y p q e =
    let front = first v.0 w.0 (encode_b v.1 ++ x) (encode_b w.1 ++ y) p.0 q.0
    (sym (append_assoc (encode_a v.0) (encode_b v.1) x) ∙ e ∙ append_assoc (encode_a w.0) (encode_b w.1) y) in
    let back = second v.1 w.1 x y p.1 q.1 front.1 in
    (same_pair v w front.0 back.0, back.1)

-- no pair stands where no first part does
pub BeginsNone-first : {A B : Type 0} (fits_a : A → Type 0) (fits_b : B → Type 0) (encode_a : A → List ℕ) (encode_b : B → List ℕ) (bytes : List ℕ)
    → BeginsNone fits_a encode_a bytes → BeginsNone (FitsBoth fits_a fits_b) (encode_both encode_a encode_b) bytes
BeginsNone-first fits_a fits_b encode_a encode_b bytes none v rest p e =
    none v.0 (encode_b v.1 ++ rest) p.0 (e ∙ append_assoc (encode_a v.0) (encode_b v.1) rest)

-- nor where no second part follows the first one
pub BeginsNone-second : {A B : Type 0} (fits_a : A → Type 0) (fits_b : B → Type 0) (encode_a : A → List ℕ) (encode_b : B → List ℕ) (bytes : List ℕ) (a : A) (after : List ℕ)
    → IsPrefixFree fits_a encode_a → fits_a a → bytes ≡ encode_a a ++ after → BeginsNone fits_b encode_b after
    → BeginsNone (FitsBoth fits_a fits_b) (encode_both encode_a encode_b) bytes
BeginsNone-second fits_a fits_b encode_a encode_b bytes a after first fits found none v rest p e =
    let front = first a v.0 after (encode_b v.1 ++ rest) fits p.0 (sym found ∙ e ∙ append_assoc (encode_a v.0) (encode_b v.1) rest) in
    none v.1 rest p.1 front.1
