-- Values and their encodings as bytes. `fits` says which values have one.
use Rattle.std.specs.Prelude.{◌≡◌, ◌≢◌, ℕ, List, ◌++◌}

-- the encodings are prefix-free: two values whose encodings begin the same bytes are one, and the
-- same follows
abbrev pub IsPrefixFree : {A : Type 0} → (A → Type 0) → (A → List ℕ) → Type 0
IsPrefixFree {A} fits encoding =
    (a b : A) (x y : List ℕ) → fits a → fits b → encoding a ++ x ≡ encoding b ++ y
    → (a ≡ b) × (x ≡ y)

-- no value's encoding stands at the front, whatever follows it
abbrev pub BeginsNone : {A : Type 0} → (A → Type 0) → (A → List ℕ) → List ℕ → Type 0
BeginsNone {A} fits encoding bytes = (a : A) (rest : List ℕ) → fits a → bytes ≢ encoding a ++ rest

-- what fits part by part
abbrev pub FitsBoth : {A B : Type 0} → (A → Type 0) → (B → Type 0) → A × B → Type 0
FitsBoth fits_a fits_b v = fits_a v.0 × fits_b v.1

-- two encodings one after the other
abbrev pub encode_both : {A B : Type 0} → (A → List ℕ) → (B → List ℕ) → A × B → List ℕ
encode_both encode_a encode_b v = encode_a v.0 ++ encode_b v.1
