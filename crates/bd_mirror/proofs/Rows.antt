-- Blocks in a row that are written.
use Rattle.std.proofs.Common.{◌≡◌, ℕ, ◌+◌, ◌-◌, ◌*◌, ◌<◌, ◌≤◌, ◌⊎◌, List, [], ◌∷◌, ◌++◌, min, Option, None, Some, IfSome, length, take, drop, zero, suc, refl, sym, ap, subst, ◌∙◌, arith, inl, inr, ⊎_elim, append-nil}
use Rattle.std.specs.List.{concat}
use Rattle.std.specs.Prelude.{slice_set, slice_index_or}
use Rattle.std.proofs.lemmas.Bool.{cases_lt}
use Rattle.std.proofs.lemmas.List.{ext_get_or, get_or-set_same, get_or-set_other, get_or-take, get_or-drop, take_more_set, drop-set-add, drop-take, take_at, take-take, length-drop, length-take, length-take-le, get_or_past}
use Rattle.std.proofs.lemmas.List.Folds.{concat-append}
use Rattle.std.proofs.Math.Seq.{take-set-lt, take-add, drop-append-add}
use Rattle.bd_device.specs.Blocks.{Image, HasBlocks}
use Rattle.bd_device.specs.Changes.{SameBut, StaysBut, IsInRange, bytes_at}
use Rattle.bd_device.specs.Commits.{block_at}
use Rattle.bd_device.proofs.Changes.{same_same, same_then, same_wider, same_set}
use Rattle.bd_mirror.specs.Writing.{with_run, contents_with_run, run_bytes}

-- ---- an image

-- the blocks beside those in the row stay
pub row_same : (first n : ℕ) (bytes : ℕ → List ℕ) (image : Image) → SameBut (IsInRange first (first + n)) image (with_run first n bytes image)
row_same first zero bytes image = same_same (IsInRange first (first + 0)) image
row_same first (suc n) bytes image =
    same_then (same_wider (IsInRange first (first + n)) (IsInRange first (first + suc n)) (λ i is. (is.0, omega (arith, is.1))) (row_same first n bytes image))
    (same_set (IsInRange first (first + suc n)) (first + n) (with_run first n bytes image) (bytes (first + n)) (omega arith, omega arith))

-- those in it hold its bytes
pub row_at : (first n : ℕ) (bytes : ℕ → List ℕ) (image : Image) (i : ℕ) → IsInRange first (first + n) i → i < length image → block_at (with_run first n bytes image) i ≡ bytes i
row_at first zero bytes image i is lt = absurd (omega (arith, is.0, is.1))
row_at first (suc n) bytes image i is lt = ⊎_elim
    (λ (before : i < first + n).
    get_or-set_other (with_run first n bytes image) (first + n) i (bytes (first + n)) [] (λ e. omega (arith, before, e)) ∙ row_at first n bytes image i (is.0, before) lt)
    (λ (last : first + n ≤ i).
    let e : first + n ≡ i = omega (arith, last, is.1) in
    let room : first + n < length (with_run first n bytes image) = omega (arith, lt, e, (row_same first n bytes image).size) in
    ap (λ k. block_at (with_run first (suc n) bytes image) k) (sym e) ∙ get_or-set_same (with_run first n bytes image) (first + n) (bytes (first + n)) [] room ∙ ap bytes e)
    (cases_lt i (first + n))

in_row_or : (from to i : ℕ) → IsInRange from to i ⊎ (¬ IsInRange from to i)
in_row_or from to i = ⊎_elim
    (λ (below : i < from). inr (λ is. omega (arith, below, is.0)))
    (λ (above : from ≤ i). ⊎_elim (λ (lt : i < to). inl (above, lt)) (λ (past : to ≤ i). inr (λ is. omega (arith, past, is.1))) (cases_lt i to))
    (cases_lt i from)

-- an image that differs in a row alone is the one of before with other bytes there
pub row_is : (first n : ℕ) (bytes : ℕ → List ℕ) (old new : Image) → SameBut (IsInRange first (first + n)) old new → ((i : ℕ) → IsInRange first (first + n) i → block_at new i ≡ bytes i)
    → new ≡ with_run first n bytes old
row_is first n bytes old new same held = ext_get_or [] new (with_run first n bytes old)
    (same.size ∙ sym (row_same first n bytes old).size)
    (λ i lt. ⊎_elim
    (λ (is : IsInRange first (first + n) i). held i is ∙ sym (row_at first n bytes old i is (omega (arith, lt, same.size))))
    (λ (not : ¬ IsInRange first (first + n) i). same.others i not ∙ sym ((row_same first n bytes old).others i not))
    (in_row_or first (first + n) i))

-- images that differ in some blocks alone do so in the first ones
pub same_take : (changed : ℕ → Type 0) (size : ℕ) (old new : Image) → SameBut changed old new → SameBut changed (take size old) (take size new)
same_take changed size old new same = record {
  size = length-take size new ∙ ap (λ n. min size n) same.size ∙ sym (length-take size old);
  others = λ b other. ⊎_elim
      (λ (lt : b < size). get_or-take size new b [] lt ∙ same.others b other ∙ sym (get_or-take size old b [] lt))
      (λ (past : size ≤ b).
      get_or_past (take size new) b [] (omega (arith, past, length-take size new)) ∙ sym (get_or_past (take size old) b [] (omega (arith, past, length-take size old))))
      (cases_lt b size);
}

-- of the first blocks it writes what it writes of all
pub row_take : (first n size : ℕ) (bytes : ℕ → List ℕ) (image : Image) → first + n ≤ size → take size (with_run first n bytes image) ≡ with_run first n bytes (take size image)
row_take first zero size bytes image le = refl
row_take first (suc n) size bytes image le =
    take-set-lt size (with_run first n bytes image) (first + n) (bytes (first + n)) (omega (arith, le))
    ∙ ap (λ (l : Image). slice_set l (first + n) (bytes (first + n))) (row_take first n size bytes image (omega (arith, le)))

-- ---- its bytes

-- one block more
row_one : (image : Image) (n : ℕ) (block : List ℕ) → n < length image → take (suc n) (slice_set image n block) ≡ take n image ++ block ∷ []
row_one image n block lt = let e : suc n ≡ n + 1 = omega arith in ap (λ k. take k (slice_set image n block)) e ∙ take_more_set image n block lt

-- what stands in a row that was written
pub row_bytes : (first n : ℕ) (bytes : List ℕ) (image : Image) → first + n ≤ length image → bytes_at (with_run first n (run_bytes first bytes) image) first n ≡ take (n * 4096) bytes
row_bytes first zero bytes image le = refl
row_bytes first (suc n) bytes image le =
    let so_far : Image = with_run first n (run_bytes first bytes) image in
    let block : List ℕ = run_bytes first bytes (first + n) in
    let room : n < length (drop first so_far) = omega (arith, le, length-drop first so_far, (row_same first n (run_bytes first bytes) image).size) in
    let place : first + n - first ≡ n = omega arith in
    let is : block ≡ take 4096 (drop (n * 4096) bytes) = ap (λ k. take 4096 (drop (k * 4096) bytes)) place in
    let size : suc n * 4096 ≡ n * 4096 + 4096 = omega arith in
    ap (λ (l : Image). concat (take (suc n) l)) (drop-set-add first so_far n block)
    ∙ ap concat (row_one (drop first so_far) n block room)
    ∙ concat-append (take n (drop first so_far)) (block ∷ [])
    ∙ ap (λ (l : List ℕ). bytes_at so_far first n ++ l) (append-nil block)
    ∙ ap (λ (l : List ℕ). l ++ block) (row_bytes first n bytes image (omega (arith, le))) ∙ ap (λ (l : List ℕ). take (n * 4096) bytes ++ l) is
    ∙ sym (take-add (n * 4096) 4096 bytes) ∙ ap (λ k. take k bytes) (sym size)

-- a block of those whose bytes stand in a row
block_of : (blocks : Image) (k : ℕ) → ((i : ℕ) → i < length blocks → length (slice_index_or blocks i []) ≡ 4096) → k < length blocks
    → slice_index_or blocks k [] ≡ take 4096 (drop (k * 4096) (concat blocks))
block_of [] k whole lt = absurd (omega (arith, lt))
block_of (x ∷ xs) zero whole lt =
    let size : length x ≡ 4096 = whole 0 (omega (arith, lt)) in sym (take_at x (concat xs) 4096 size)
block_of (x ∷ xs) (suc k) whole lt =
    let size : length x ≡ 4096 = whole 0 (omega (arith, lt)) in
    let place : suc k * 4096 ≡ length x + k * 4096 = omega (arith, size) in
    block_of xs k (λ i less. whole (suc i) (omega (arith, less))) (omega (arith, lt))
    ∙ sym (ap (λ j. take 4096 (drop j (x ++ concat xs))) place ∙ ap (take 4096) (drop-append-add x (concat xs) (k * 4096)))

-- so each holds its part
pub row_held : (first n count : ℕ) (bytes : List ℕ) (image : Image) → HasBlocks count image → first + n ≤ count → bytes_at image first n ≡ take (n * 4096) bytes
    → (i : ℕ) → IsInRange first (first + n) i → block_at image i ≡ run_bytes first bytes i
row_held first n count bytes image shape le is i in_row =
    let k : ℕ = i - first in
    let row : Image = take n (drop first image) in
    let size : length row ≡ n = length-take-le n (drop first image) (omega (arith, le, shape.count_is, length-drop first image)) in
    let at : (j : ℕ) → j < n → slice_index_or row j [] ≡ block_at image (first + j) = λ j lt. get_or-take n (drop first image) j [] lt ∙ get_or-drop first image j [] in
    let place : first + k ≡ i = omega (arith, in_row.0) in
    let rest : n * 4096 ≡ k * 4096 + (n - k) * 4096 = omega (arith, in_row.1, in_row.0) in
    ap (block_at image) (sym place) ∙ sym (at k (omega (arith, in_row.1, in_row.0)))
    ∙ block_of row k (λ j lt. ap length (at j (omega (arith, lt, size))) ∙ (shape.whole (first + j) [] (omega (arith, lt, size, le, shape.count_is))).0) (omega (arith, size, in_row.1, in_row.0))
    ∙ ap (λ (l : List ℕ). take 4096 (drop (k * 4096) l)) is
    ∙ ap (λ m. take 4096 (drop (k * 4096) (take m bytes))) rest ∙ ap (take 4096) (drop-take (k * 4096) ((n - k) * 4096) bytes)
    ∙ take-take 4096 ((n - k) * 4096) (drop (k * 4096) bytes) (omega (arith, in_row.1, in_row.0))

-- ---- what reads give

-- a row alone changed, and holds any bytes
pub row_changed : (first n : ℕ) (old new : Option Image) → StaysBut (IsInRange first (first + n)) old new → (bytes : ℕ → List ℕ) × (new ≡ contents_with_run first n bytes old)
row_changed first n None None same = (λ _. [], refl)
row_changed first n None (Some new) same = absurd same
row_changed first n (Some old) None same = absurd same
row_changed first n (Some old) (Some new) same = (block_at new, ap Some (row_is first n (block_at new) old new same (λ i is. refl)))

-- or these
pub row_written : (first n count : ℕ) (bytes : List ℕ) (old new : Option Image) → first + n ≤ count → StaysBut (IsInRange first (first + n)) old new → IfSome new (HasBlocks count)
    → IfSome new (λ image. bytes_at image first n ≡ take (n * 4096) bytes) → new ≡ contents_with_run first n (run_bytes first bytes) old
row_written first n count bytes None None le same shape is = refl
row_written first n count bytes None (Some new) le same shape is = absurd same
row_written first n count bytes (Some old) None le same shape is = absurd same
row_written first n count bytes (Some old) (Some new) le same shape is =
    ap Some (row_is first n (run_bytes first bytes) old new same (row_held first n count bytes new shape le is))

-- the blocks beside a row stay
pub row_stays : (first n : ℕ) (bytes : ℕ → List ℕ) (old new : Option Image) → new ≡ contents_with_run first n bytes old → StaysBut (IsInRange first (first + n)) old new
row_stays first n bytes None new is = subst (StaysBut (IsInRange first (first + n)) None) (sym is) tt
row_stays first n bytes (Some old) new is = subst (StaysBut (IsInRange first (first + n)) (Some old)) (sym is) (row_same first n bytes old)

-- a row of no blocks
pub row_none : (first n : ℕ) (bytes : ℕ → List ℕ) (known : Option Image) → n ≡ 0 → contents_with_run first n bytes known ≡ known
row_none first n bytes None none = refl
row_none first n bytes (Some image) none = ap Some (ap (λ k. with_run first k bytes image) none)

-- its bytes stand in what was written
pub row_told : (first n count : ℕ) (bytes : List ℕ) (old new : Option Image) → first + n ≤ count → IfSome old (HasBlocks count) → new ≡ contents_with_run first n (run_bytes first bytes) old
    → IfSome new (λ image. bytes_at image first n ≡ take (n * 4096) bytes)
row_told first n count bytes None new le shape is = subst (λ (known : Option Image). IfSome known (λ image. bytes_at image first n ≡ take (n * 4096) bytes)) (sym is) tt
row_told first n count bytes (Some old) new le shape is =
    subst (λ (known : Option Image). IfSome known (λ image. bytes_at image first n ≡ take (n * 4096) bytes)) (sym is)
    (row_bytes first n bytes old (omega (arith, le, shape.count_is)))

-- ---- reads

-- a row of the first blocks
pub row_within : (size first n : ℕ) (image : Image) → first + n ≤ size → bytes_at (take size image) first n ≡ bytes_at image first n
row_within size first n image le =
    let whole : size ≡ first + (size - first) = omega (arith, le) in
    ap (λ k. concat (take n (drop first (take k image)))) whole ∙ ap (λ (l : Image). concat (take n l)) (drop-take first (size - first) image)
    ∙ ap concat (take-take n (size - first) (drop first image) (omega (arith, le)))
