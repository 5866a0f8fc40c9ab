-- The bytes of blocks in a row, block by block.
use Rattle.std.proofs.Common.{◌≡◌, ℕ, ◌+◌, ◌-◌, ◌*◌, ◌<◌, ◌≤◌, List, [], ◌∷◌, ◌++◌, length, take, drop, min, zero, suc, refl, sym, ap, subst, ◌∙◌, arith, length-append}
use Rattle.std.specs.List.{concat, AllByRecursion}
use Rattle.std.proofs.lemmas.List.{length-drop, length-take, take-append-drop, take_at, drop_at, drop-drop, drop_more, drop_all, take-replicate, drop-replicate, replicate-append-replicate}
use Rattle.std.proofs.lemmas.List.Elements.{All-take, All-drop, recursion_from_All}
use Rattle.std.proofs.lemmas.List.Folds.{concat-append}
use Rattle.std.proofs.Math.Seq.{take-add}
use Rattle.bd_wire.specs.Text.{zeros, AreZeros}
use Rattle.bd_device.specs.Blocks.{Image, IsBlock, HasBlocks}
use Rattle.bd_device.specs.Changes.{bytes_at}
use Rattle.bd_device.specs.Commits.{block_at}
use Rattle.bd_tails.specs.Tails.{IsZeroBlock}

-- ---- sizes

blocks_size : (blocks : List (List ℕ)) → AllByRecursion IsBlock blocks → length (concat blocks) ≡ 4096 * length blocks
blocks_size [] all = refl
blocks_size (x ∷ xs) all = omega (arith, length-append x (concat xs), blocks_size xs all.1, all.0.0)

-- blocks in a row have 4,096 bytes each, and there are none past the end
pub row_size : (count : ℕ) (image : Image) (b n : ℕ) → HasBlocks count image → length (bytes_at image b n) ≡ 4096 * min n (count - b)
row_size count image b n has =
    let row : Image = take n (drop b image) in
    blocks_size row (recursion_from_All IsBlock row (All-take IsBlock n (drop b image) (All-drop IsBlock b image has.whole)))
    ∙ ap (λ (k : ℕ). 4096 * k) (length-take n (drop b image) ∙ ap (min n) (length-drop b image ∙ ap (λ (k : ℕ). k - b) has.count_is))

-- ---- one after the other

-- some, and then the others
pub row_parts : (image : Image) (b n m : ℕ) → bytes_at image b (n + m) ≡ bytes_at image b n ++ bytes_at image (b + n) m
row_parts image b n m =
    ap concat (take-add n m (drop b image))
    ∙ concat-append (take n (drop b image)) (take m (drop n (drop b image)))
    ∙ ap (λ (l : Image). bytes_at image b n ++ concat (take m l)) (drop-drop n b image)

-- one, and then the others
row_first : (image : Image) (b n : ℕ) → b < length image → bytes_at image b (suc n) ≡ block_at image b ++ bytes_at image (b + 1) n
row_first image b n lt = ap (λ (l : Image). concat (take (suc n) l)) (drop_more image b [] lt)

-- zeros in a row
pub row_zeros : (image : Image) (b n : ℕ) → ((i : ℕ) → i < n → IsZeroBlock image (b + i)) → bytes_at image b n ≡ zeros (n * 4096)
row_zeros image b zero each = refl
row_zeros image b (suc n) each =
    let first : IsZeroBlock image b = subst (λ (k : ℕ). IsZeroBlock image k) (omega arith) (each 0 (omega arith)) in
    row_first image b n first.0
    ∙ ap (λ (l : List ℕ). l ++ bytes_at image (b + 1) n) first.1
    ∙ ap (λ (l : List ℕ). zeros 4096 ++ l) (row_zeros image (b + 1) n (λ i lt. subst (λ (k : ℕ). IsZeroBlock image k) (omega arith) (each (i + 1) (omega (arith, lt)))))
    ∙ replicate-append-replicate 4096 (n * 4096) 0
    ∙ ap (λ (k : ℕ). zeros k) (omega arith)

-- ---- zeros at the end of bytes

-- fewer of them
pub fewer_zeros : (bytes : List ℕ) (from to : ℕ) → from ≤ to → AreZeros (drop from bytes) → drop to bytes ≡ zeros (length bytes - to)
fewer_zeros bytes from to le are =
    ap (λ (k : ℕ). drop k bytes) (omega (arith, le))
    ∙ sym (drop-drop (to - from) from bytes)
    ∙ ap (drop (to - from)) are
    ∙ drop-replicate (to - from) (length (drop from bytes)) 0
    ∙ ap (λ (k : ℕ). zeros k) (omega (arith, length-drop from bytes, le))

-- a block of a row whose bytes end in zeros from before it is zeros
pub zero_block : (count : ℕ) (image : Image) (b n from i : ℕ) (bytes : List ℕ) → HasBlocks count image → b + n ≤ count → bytes_at image b n ≡ bytes
    → AreZeros (drop (from * 4096) bytes) → from ≤ i → i < n → IsZeroBlock image (b + i)
zero_block count image b n from i bytes has fits same are le lt =
    let inside : b + i < length image = omega (arith, has.count_is, fits, lt) in
    let block : List ℕ = block_at image (b + i) in
    let rest : List ℕ = bytes_at image (b + i + 1) (n - (i + 1)) in
    let size : length (bytes_at image b i) ≡ i * 4096 = omega (arith, row_size count image b i has, fits, lt) in
    let parts : bytes ≡ bytes_at image b i ++ (block ++ rest) =
    sym same ∙ ap (λ (k : ℕ). bytes_at image b k) (omega (arith, lt)) ∙ row_parts image b i (suc (n - (i + 1)))
    ∙ ap (λ (l : List ℕ). bytes_at image b i ++ l) (row_first image (b + i) (n - (i + 1)) inside) in
    let long : length bytes ≡ 4096 * n = sym (ap length same) ∙ row_size count image b n has ∙ omega (arith, fits) in
    let whole : length block ≡ 4096 = (has.whole (b + i) [] inside).0 in (
      inside,
      sym (take_at block rest 4096 whole)
          ∙ ap (take 4096) (sym (drop_at (bytes_at image b i) (block ++ rest) (i * 4096) size) ∙ ap (drop (i * 4096)) (sym parts) ∙ fewer_zeros bytes (from * 4096) (i * 4096) (omega (arith, le)) are)
          ∙ take-replicate 4096 (length bytes - i * 4096) 0 (omega (arith, long, lt)),
    )

-- the bytes from a block on are zeros where each block is
pub blocks_zeros : (bytes : List ℕ) (from n : ℕ) → length bytes ≡ (from + n) * 4096 → ((i : ℕ) → from ≤ i → i < from + n → AreZeros (take 4096 (drop (i * 4096) bytes))) → AreZeros (drop (from * 4096) bytes)
blocks_zeros bytes from zero size each =
    let none : drop (from * 4096) bytes ≡ [] = drop_all (from * 4096) bytes (omega (arith, size)) in
    subst AreZeros (sym none) refl
blocks_zeros bytes from (suc n) size each =
    let one : List ℕ = take 4096 (drop (from * 4096) bytes) in
    let long : length one ≡ 4096 = omega (arith, length-take 4096 (drop (from * 4096) bytes), length-drop (from * 4096) bytes, size) in
    let rest : drop (from * 4096 + 4096) bytes ≡ zeros (length (drop (from * 4096 + 4096) bytes)) =
    ap (λ (k : ℕ). drop k bytes) (omega arith) ∙ blocks_zeros bytes (from + 1) n (omega (arith, size)) (λ i le lt. each i (omega (arith, le)) (omega (arith, lt)))
    ∙ ap (λ (k : ℕ). zeros (length (drop k bytes))) (omega arith) in
    let parts : drop (from * 4096) bytes ≡ one ++ drop (from * 4096 + 4096) bytes =
    sym (take-append-drop 4096 (drop (from * 4096) bytes)) ∙ ap (λ (l : List ℕ). one ++ l) (drop-drop 4096 (from * 4096) bytes) in
    let all : drop (from * 4096) bytes ≡ zeros (length one + length (drop (from * 4096 + 4096) bytes)) =
    parts ∙ ap (λ (l : List ℕ). l ++ drop (from * 4096 + 4096) bytes) (each from (omega arith) (omega arith)) ∙ ap (λ (l : List ℕ). zeros (length one) ++ l) rest
    ∙ replicate-append-replicate (length one) (length (drop (from * 4096 + 4096) bytes)) 0 in
    all ∙ ap (λ (k : ℕ). zeros k) (sym (ap length parts ∙ length-append one (drop (from * 4096 + 4096) bytes)))
