-- Lists of values, whose encodings stand one after the other.
use Rattle.std.proofs.Common.{◌≡◌, ℕ, suc, ◌*◌, List, [], ◌∷◌, ◌++◌, length, take, drop, refl, sym, ap, ◌∙◌, arith, append_assoc, length-append, All}
use Rattle.std.specs.List.{flat_map}
use Rattle.std.proofs.Math.Seq.{take-append_seam, drop-append_seam}
use Rattle.bd_wire.specs.Encoding.{IsPrefixFree}

-- two lists of one length are one, and the same follows them
pub items_alone : {A : Type 0} (fits : A → Type 0) (encoding : A → List ℕ) → IsPrefixFree fits encoding
    → (xs ys : List A) (a b : List ℕ) → length xs ≡ length ys → All fits xs → All fits ys
    → flat_map encoding xs ++ a ≡ flat_map encoding ys ++ b → (xs ≡ ys) × (a ≡ b)
items_alone fits encoding alone [] [] a b same fx fy e = (refl, e)
items_alone fits encoding alone [] (y ∷ ys) a b same fx fy e = absurd (omega arith)
items_alone fits encoding alone (x ∷ xs) [] a b same fx fy e = absurd (omega arith)
items_alone fits encoding alone (x ∷ xs) (y ∷ ys) a b same fx fy e =
    let first = alone x y (flat_map encoding xs ++ a) (flat_map encoding ys ++ b) (fx 0 x (omega arith)) (fy 0 y (omega arith))
    (sym (append_assoc (encoding x) (flat_map encoding xs) a) ∙ e ∙ append_assoc (encoding y) (flat_map encoding ys) b) in
    let rest = items_alone fits encoding alone xs ys a b (omega arith) (λ k d lt. fx (suc k) d (omega (arith, lt))) (λ k d lt. fy (suc k) d (omega (arith, lt))) first.1 in
    let head : x ≡ y = first.0 in
    let tail : xs ≡ ys = rest.0 in
    (cc, rest.1)

-- values that take as many bytes each
pub length-items : {A : Type 0} (encoding : A → List ℕ) (n : ℕ) → ((x : A) → length (encoding x) ≡ n) → (xs : List A)
    → length (flat_map encoding xs) ≡ n * length xs
length-items encoding n each [] = omega arith
length-items encoding n each (x ∷ xs) =
    length-append (encoding x) (flat_map encoding xs) ∙ omega (arith, each x, length-items encoding n each xs)

-- lists of one length that begin the same bytes are one, and the same follows them
pub fronts_alone : (a b x y : List ℕ) → length a ≡ length b → a ++ x ≡ b ++ y → (a ≡ b) × (x ≡ y)
fronts_alone a b x y same e = (
  sym (take-append_seam a x) ∙ ap (take (length a)) e ∙ ap (λ n. take n (b ++ y)) same ∙ take-append_seam b y,
  sym (drop-append_seam a x) ∙ ap (drop (length a)) e ∙ ap (λ n. drop n (b ++ y)) same ∙ drop-append_seam b y,
)
