-- What changes of blocks and of lengths do to the bytes of a file.
use Rattle.std.proofs.Common.{zero, suc, take, ◌≡◌, ◌≢◌, ℕ, ◌+◌, ◌-◌, ◌*◌, ◌<◌, ◌≤◌, ◌^◌, List, [], ◌⊎◌, inl, inr, length, refl, sym, ap, subst, ◌∙◌, arith}
use Rattle.std.specs.Prelude.{slice_index, max, min, Option, Some, None, IfSome}
use Rattle.std.specs.Option.{unwrap_or}
use Rattle.std.proofs.lemmas.List.{get_or_past, get_or-take, length-take}
use Rattle.std.proofs.lemmas.Bool.{cases_lt}
use Rattle.bd_limits.specs.Limits.{block_limit}
use Rattle.bd_keys.specs.Edits.{resized, overwritten}
use Rattle.bd_keys.proofs.EditLemmas.{length-resized, resized-kept, resized-zero, length-overwritten, overwritten-new, overwritten-before, overwritten-gap, overwritten-after}
use Rattle.bd_message.specs.KeyMaps.{At}
use Rattle.bd_represent.specs.EntryKeys.{block_key}
use Rattle.bd_represent.specs.Represents.{stored, IsBlockOf, HasBytes, kept_block}

-- ---- bytes of edited files

-- a longer file has zeros past its old end, as a read past the end gives
pub longer : (old : List ℕ) (len n : ℕ) → length old ≤ len → slice_index (resized old len) n ≡ slice_index old n
longer old len n h = by (cases_lt n (length old)) (cases_lt n len)
  where
    by : (n < length old) ⊎ (length old ≤ n) → (n < len) ⊎ (len ≤ n) → slice_index (resized old len) n ≡ slice_index old n
    by (inl under) within = resized-kept old len n (omega arith) under
    by (inr over) (inl within) = resized-zero old len n within over ∙ sym (get_or_past old n 0 over)
    by (inr over) (inr past) = get_or_past (resized old len) n 0 (omega (arith, length-resized old len)) ∙ sym (get_or_past old n 0 over)

-- no byte but those that were overwritten changes
pub beside : (old : List ℕ) (off : ℕ) (bytes : List ℕ) (n : ℕ) → (n < off) ⊎ (off + length bytes ≤ n) → slice_index (overwritten old off bytes) n ≡ slice_index old n
beside old off bytes n (inl before) = by (cases_lt n (length old))
  where
    by : (n < length old) ⊎ (length old ≤ n) → slice_index (overwritten old off bytes) n ≡ slice_index old n
    by (inl under) = overwritten-before old off bytes n before under
    by (inr over) = overwritten-gap old off bytes n before over ∙ sym (get_or_past old n 0 over)
beside old off bytes n (inr after) = overwritten-after old off bytes n after

pub within : (old : List ℕ) (off : ℕ) (bytes : List ℕ) (n : ℕ) → off ≤ n → n < off + length bytes → slice_index (overwritten old off bytes) n ≡ slice_index bytes (n - off)
within old off bytes n from below =
    let place : n ≡ off + (n - off) = omega arith in
    ap (slice_index (overwritten old off bytes)) place ∙ overwritten-new old off bytes (n - off) (omega arith)

-- ---- files of key maps

-- two files of the same length and bytes are had alike
pub HasBytes-same : (at : At) (path : List (List ℕ)) (file other : List ℕ) → length other ≡ length file → ((n : ℕ) → slice_index other n ≡ slice_index file n) → HasBytes at path file → HasBytes at path other
HasBytes-same at path file other long same has =
    record {
      blocks = λ i hi. shape i (at (block_key path i)) (has.blocks i hi);
      bytes = λ i j hi hj. same (block_limit * i + j) ∙ has.bytes i j hi hj;
    }
  where
    shape : (i : ℕ) (o : Option (List ℕ)) → IfSome o (IsBlockOf file i) → IfSome o (IsBlockOf other i)
    shape i None h = h
    shape i (Some b) h = (h.0, omega (arith, h.1, long))

-- a longer file is had by the same blocks
pub HasBytes-longer : (at : At) (path : List (List ℕ)) (file : List ℕ) (len : ℕ) → length file ≤ len → HasBytes at path file → HasBytes at path (resized file len)
HasBytes-longer at path file len h has =
    record {
      blocks = λ i hi. shape i (at (block_key path i)) (has.blocks i hi);
      bytes = λ i j hi hj. longer file len (block_limit * i + j) h ∙ has.bytes i j hi hj;
    }
  where
    shape : (i : ℕ) (o : Option (List ℕ)) → IfSome o (IsBlockOf file i) → IfSome o (IsBlockOf (resized file len) i)
    shape i None h' = h'
    shape i (Some b) h' = (h'.0, omega (arith, h, h'.1, length-resized file len))

-- maps that have the same blocks of a path have the same file there
pub HasBytes-along : (old new : At) (path : List (List ℕ)) (file : List ℕ) → ((i : ℕ) → i < 2 ^ 32 → new (block_key path i) ≡ old (block_key path i)) → HasBytes old path file → HasBytes new path file
HasBytes-along old new path file same has =
    record {
      blocks = λ i hi. subst (λ (o : Option (List ℕ)). IfSome o (IsBlockOf file i)) (sym (same i hi)) (has.blocks i hi);
      bytes = λ i j hi hj. has.bytes i j hi hj ∙ ap (λ (o : Option (List ℕ)). slice_index (unwrap_or o []) j) (sym (same i hi));
    }

-- ---- one block

block_shape : (file block piece : List ℕ) (b o : ℕ) → 1 ≤ length piece → o + length piece ≤ block_limit → length block ≤ block_limit → block_limit * b + length block ≤ length file ⊎ (length block ≡ 0)
    → IsBlockOf (overwritten file (block_limit * b + o) piece) b (overwritten block o piece)
block_shape file block piece b o some fits short inside =
    let new : length (overwritten block o piece) ≡ max (length block) (o + length piece) = length-overwritten block o piece in
    let all : length (overwritten file (block_limit * b + o) piece) ≡ max (length file) (block_limit * b + o + length piece) = length-overwritten file (block_limit * b + o) piece in
    elim inside [
      | inl under ↦ ((omega arith, omega arith), omega arith)
      | inr none ↦ ((omega arith, omega arith), omega arith)
    ]

stored_shape : (file : List ℕ) (b : ℕ) (o : Option (List ℕ)) → IfSome o (IsBlockOf file b) → (length (unwrap_or o []) ≤ block_limit) × (block_limit * b + length (unwrap_or o []) ≤ length file ⊎ (length (unwrap_or o []) ≡ 0))
stored_shape file b None h = (omega arith, inr refl)
stored_shape file b (Some block) h = (h.0.1, inl h.1)

-- the same bytes of the block and of the file are overwritten
block_bytes : (file block piece : List ℕ) (b o j : ℕ) → j < block_limit → slice_index file (block_limit * b + j) ≡ slice_index block j
    → slice_index (overwritten file (block_limit * b + o) piece) (block_limit * b + j) ≡ slice_index (overwritten block o piece) j
block_bytes file block piece b o j hj same = by (cases_lt j o) (cases_lt j (o + length piece))
  where
    by : (j < o) ⊎ (o ≤ j) → (j < o + length piece) ⊎ (o + length piece ≤ j) → slice_index (overwritten file (block_limit * b + o) piece) (block_limit * b + j) ≡ slice_index (overwritten block o piece) j
    by (inl before) any = beside file (block_limit * b + o) piece (block_limit * b + j) (inl (omega arith)) ∙ same ∙ sym (beside block o piece j (inl before))
    by (inr from) (inl below) =
        within file (block_limit * b + o) piece (block_limit * b + j) (omega arith) (omega arith)
        ∙ ap (slice_index piece) (omega arith)
        ∙ sym (within block o piece j from below)
    by (inr from) (inr after) = beside file (block_limit * b + o) piece (block_limit * b + j) (inr (omega arith)) ∙ same ∙ sym (beside block o piece j (inr after))

-- other blocks have none of the bytes that were overwritten in one
other_block : (b o n i j : ℕ) → i ≢ b → j < block_limit → o + n ≤ block_limit → (block_limit * i + j < block_limit * b + o) ⊎ (block_limit * b + o + n ≤ block_limit * i + j)
other_block b o n i j other hj fits = by (cases_lt i b)
  where
    by : (i < b) ⊎ (b ≤ i) → (block_limit * i + j < block_limit * b + o) ⊎ (block_limit * b + o + n ≤ block_limit * i + j)
    by (inl below) = inl (omega arith)
    by (inr from) = inr (omega (arith, other))

-- a block whose bytes were overwritten makes the file whose bytes were
pub HasBytes-patched : (old new : At) (path : List (List ℕ)) (file piece : List ℕ) (b o : ℕ) → 1 ≤ length piece → o + length piece ≤ block_limit → b < 2 ^ 32
    → new (block_key path b) ≡ Some (overwritten (stored old path b) o piece)
    → ((i : ℕ) → i < 2 ^ 32 → i ≢ b → new (block_key path i) ≡ old (block_key path i))
    → HasBytes old path file → HasBytes new path (overwritten file (block_limit * b + o) piece)
HasBytes-patched old new path file piece b o some fits hb here others has =
    record { blocks = λ i hi. blocks i hi (one_or_other i); bytes = λ i j hi hj. bytes i j hi hj (one_or_other i) }
  where
    one_or_other : (i : ℕ) → (i ≡ b) ⊎ (i ≢ b)
    one_or_other i = elim (cases_lt i b) [
      | inl below ↦ inr (λ e. omega (arith, e))
      | inr from ↦ elim (cases_lt b i) [ inl above ↦ inr (λ e. omega (arith, e)) | inr to ↦ inl (omega arith) ]
    ]

    shape : (i : ℕ) (o' : Option (List ℕ)) → IfSome o' (IsBlockOf file i) → IfSome o' (IsBlockOf (overwritten file (block_limit * b + o) piece) i)
    shape i None h = h
    shape i (Some block) h = (h.0, omega (arith, h.1, length-overwritten file (block_limit * b + o) piece))

    blocks : (i : ℕ) → i < 2 ^ 32 → (i ≡ b) ⊎ (i ≢ b) → IfSome (new (block_key path i)) (IsBlockOf (overwritten file (block_limit * b + o) piece) i)
    blocks i hi (inl e) =
        let shapes = stored_shape file b (old (block_key path b)) (has.blocks b hb) in
        let made : IfSome (new (block_key path b)) (IsBlockOf (overwritten file (block_limit * b + o) piece) b) = rw here (block_shape file (stored old path b) piece b o some fits shapes.0 shapes.1) in
        subst (λ (n : ℕ). IfSome (new (block_key path n)) (IsBlockOf (overwritten file (block_limit * b + o) piece) n)) (sym e) made
    blocks i hi (inr other) = subst (λ (o' : Option (List ℕ)). IfSome o' (IsBlockOf (overwritten file (block_limit * b + o) piece) i)) (sym (others i hi other)) (shape i (old (block_key path i)) (has.blocks i hi))

    bytes : (i j : ℕ) → i < 2 ^ 32 → j < block_limit → (i ≡ b) ⊎ (i ≢ b) → slice_index (overwritten file (block_limit * b + o) piece) (block_limit * i + j) ≡ slice_index (stored new path i) j
    bytes i j hi hj (inl e) =
        let made : slice_index (overwritten file (block_limit * b + o) piece) (block_limit * b + j) ≡ slice_index (stored new path b) j = block_bytes file (stored old path b) piece b o j hj (has.bytes b j hb hj) ∙ ap (λ (o' : Option (List ℕ)). slice_index (unwrap_or o' []) j) (sym here) in
        subst (λ (n : ℕ). slice_index (overwritten file (block_limit * b + o) piece) (block_limit * n + j) ≡ slice_index (stored new path n) j) (sym e) made
    bytes i j hi hj (inr other) =
        beside file (block_limit * b + o) piece (block_limit * i + j) (other_block b o (length piece) i j other hj fits)
        ∙ has.bytes i j hi hj
        ∙ ap (λ (o' : Option (List ℕ)). slice_index (unwrap_or o' []) j) (sym (others i hi other))

-- ---- a shorter file

kept_shape : (file : List ℕ) (len i left : ℕ) (o : Option (List ℕ)) → left ≡ len - block_limit * i → len ≤ length file → IfSome o (IsBlockOf file i) → IfSome (kept_block left o) (IsBlockOf (resized file len) i)
kept_shape file len i zero o e h shape = tt
kept_shape file len i (suc l) None e h shape = tt
kept_shape file len i (suc l) (Some block) e h shape =
    let long : length (take (suc l) block) ≡ min (suc l) (length block) = length-take (suc l) block in
    ((omega (arith, long, shape.0.0), omega (arith, long, shape.0.1)), omega (arith, long, length-resized file len))

kept_byte : (left j : ℕ) (o : Option (List ℕ)) → j < left → slice_index (unwrap_or (kept_block left o) []) j ≡ slice_index (unwrap_or o []) j
kept_byte zero j o h = absurd (omega arith)
kept_byte (suc l) j None h = refl
kept_byte (suc l) j (Some block) h = get_or-take (suc l) block j 0 h

cut_byte : (left j : ℕ) (o : Option (List ℕ)) → left ≤ j → slice_index (unwrap_or (kept_block left o) []) j ≡ 0
cut_byte zero j o h = get_or_past [] j 0 (omega arith)
cut_byte (suc l) j None h = get_or_past [] j 0 (omega arith)
cut_byte (suc l) j (Some block) h = get_or_past (take (suc l) block) j 0 (omega (arith, length-take (suc l) block))

-- where each block is cut to what is left of it, the file is
pub HasBytes-cut : (old new : At) (path : List (List ℕ)) (file : List ℕ) (len : ℕ) → len ≤ length file
    → ((i : ℕ) → i < 2 ^ 32 → new (block_key path i) ≡ kept_block (len - block_limit * i) (old (block_key path i)))
    → HasBytes old path file → HasBytes new path (resized file len)
HasBytes-cut old new path file len h kept has =
    record {
      blocks = λ i hi. subst (λ (o : Option (List ℕ)). IfSome o (IsBlockOf (resized file len) i)) (sym (kept i hi)) (kept_shape file len i (len - block_limit * i) (old (block_key path i)) refl h (has.blocks i hi));
      bytes = λ i j hi hj. by i j hi hj (cases_lt (block_limit * i + j) len) ∙ ap (λ (o : Option (List ℕ)). slice_index (unwrap_or o []) j) (sym (kept i hi));
    }
  where
    by : (i j : ℕ) → i < 2 ^ 32 → j < block_limit → (block_limit * i + j < len) ⊎ (len ≤ block_limit * i + j)
        → slice_index (resized file len) (block_limit * i + j) ≡ slice_index (unwrap_or (kept_block (len - block_limit * i) (old (block_key path i))) []) j
    by i j hi hj (inl under) = resized-kept file len (block_limit * i + j) under (omega arith) ∙ has.bytes i j hi hj ∙ sym (kept_byte (len - block_limit * i) j (old (block_key path i)) (omega arith))
    by i j hi hj (inr over) = get_or_past (resized file len) (block_limit * i + j) 0 (omega (arith, length-resized file len)) ∙ sym (cut_byte (len - block_limit * i) j (old (block_key path i)) (omega arith))
