-- What a loss of power leaves is among what a crash may leave.
use Rattle.std.proofs.Common.{◌≡◌, ◌≢◌, ℕ, ◌+◌, ◌-◌, ◌<◌, ◌≤◌, All, inl, inr, ⊎_elim, suc, zero, min, subst, replicate, List, [], ◌∷◌, ◌∙◌, refl, sym, ap, arith, add-one, length, take, reverse, slice_set, slice_index_or}
use Rattle.std.proofs.lemmas.List.{reverse-append, length-set, length-take, length-take-le, get_or-take, length-reverse, get_or-reverse, get_or-set_other, get_or_past, set-set, set-get_or, set_past, ext_get_or}
use Rattle.std.proofs.lemmas.List.Elements.{All-head, All-tail, All-set, All-take}
use Rattle.std.proofs.lemmas.Bool.{cases_eq, cases_lt}
use Rattle.std.proofs.lemmas.Grind.{common_steps, get_or-set_at}
use Rattle.std.proofs.Math.Seq.{take-suc}
use Rattle.bd_device.specs.Blocks.{Image, IsBlock, HasBlocks}
use Rattle.bd_device.specs.Crash.{IsInFlight, torn_bytes, torn_blocks}
use Rattle.bd_device.specs.Memory.{MemoryDevice, IsRecordIn, HasLeft, image_before, left_of}
use Rattle.bd_device.specs.declared.torn.Torn.{Torn}
use Rattle.bd_device.specs.declared.write_record.WriteRecord.{WriteRecord}
use Rattle.bd_device.proofs.Images.{IsBlock-zero}

-- a barrier after the last of them settles them all
pub torn_blocks-settled : (how : Torn) (barrier : ℕ) (ws : List WriteRecord) (blocks : Image) → barrier ≢ 0 → torn_blocks how barrier ws blocks ≡ blocks
torn_blocks-settled how barrier [] blocks settled = refl
torn_blocks-settled how barrier (w ∷ ws) blocks settled = grind (arith, common_steps)

-- the last of them, where no barrier came after it
pub torn_blocks-last : (how : Torn) (ws : List WriteRecord) (i : ℕ) (w : WriteRecord) (blocks : Image) → i < length ws
    → torn_blocks how 0 (reverse (take (i + 1) ws)) blocks
    ≡ torn_blocks how (slice_index_or ws i w).barrier (reverse (take i ws))
    (slice_set blocks (slice_index_or ws i w).block (torn_bytes how (slice_index_or ws i w) (slice_index_or blocks (slice_index_or ws i w).block [])))
torn_blocks-last how ws i w blocks lt =
    ap (λ (l : List WriteRecord). torn_blocks how 0 (reverse l) blocks) (ap (λ k. take k ws) (add-one i) ∙ take-suc ws i w lt)
    ∙ ap (λ (l : List WriteRecord). torn_blocks how 0 l blocks) (reverse-append (take i ws) (slice_index_or ws i w ∷ []))

-- no block is lost
pub length-torn_blocks : (how : Torn) (barrier : ℕ) (ws : List WriteRecord) (blocks : Image) → length (torn_blocks how barrier ws blocks) ≡ length blocks
length-torn_blocks how barrier [] blocks = refl
length-torn_blocks how zero (w ∷ ws) blocks =
    length-torn_blocks how w.barrier ws (slice_set blocks w.block (torn_bytes how w (slice_index_or blocks w.block [])))
    ∙ length-set blocks w.block (torn_bytes how w (slice_index_or blocks w.block []))
length-torn_blocks how (suc k) (w ∷ ws) blocks = ap (λ (i : Image). length i) (torn_blocks-settled how (suc k) (w ∷ ws) blocks (λ e. omega (arith, e)))

-- a block that isn't in flight stays
pub torn_blocks-others : (how : Torn) (barrier : ℕ) (ws : List WriteRecord) (blocks : Image) (b : ℕ) → (IsInFlight barrier ws b → ⊥)
    → slice_index_or (torn_blocks how barrier ws blocks) b [] ≡ slice_index_or blocks b []
torn_blocks-others how barrier [] blocks b settled = refl
torn_blocks-others how zero (w ∷ ws) blocks b settled =
    torn_blocks-others how w.barrier ws (slice_set blocks w.block (torn_bytes how w (slice_index_or blocks w.block []))) b (λ f. settled (refl, inr f))
    ∙ get_or-set_other blocks w.block b (torn_bytes how w (slice_index_or blocks w.block [])) [] (λ e. settled (refl, inl e))
torn_blocks-others how (suc k) (w ∷ ws) blocks b settled =
    ap (λ (i : Image). slice_index_or i b []) (torn_blocks-settled how (suc k) (w ∷ ws) blocks (λ e. omega (arith, e)))

-- a block's bytes, where there is such a block, and else any
block_or_zero : (c : Image) (b : ℕ) (old : List ℕ) → All IsBlock c → (bytes : List ℕ) × IsBlock bytes × (c ≡ slice_set (slice_set c b old) b bytes)
block_or_zero c b old whole = ⊎_elim
    (λ (lt : b < length c). (slice_index_or c b [], whole b [] lt, sym (set-set c b old (slice_index_or c b []) ∙ set-get_or c b [])))
    (λ (le : length c ≤ b). (replicate 4096 0, IsBlock-zero, sym (set-set c b old (replicate 4096 0) ∙ set_past c b (replicate 4096 0) le)))
    (cases_lt b (length c))

-- after the same write at one block two images have the same there
set-there : (c image : Image) (b i : ℕ) (bytes : List ℕ) → length c ≡ length image → i ≡ b
    → slice_index_or (slice_set c b bytes) i [] ≡ slice_index_or (slice_set image b bytes) i []
set-there c image b i bytes len e = ⊎_elim
    (λ (lt : b < length c). get_or-set_at c b i bytes [] e lt ∙ sym (get_or-set_at image b i bytes [] e (omega (arith, lt, len))))
    (λ (le : length c ≤ b). get_or_past (slice_set c b bytes) i [] (omega (arith, le, e, length-set c b bytes))
    ∙ sym (get_or_past (slice_set image b bytes) i [] (omega (arith, le, len, e, length-set image b bytes))))
    (cases_lt b (length c))

-- after the same write at one block two images are as they were elsewhere
set-others : (c image : Image) (b i : ℕ) (bytes : List ℕ) → length c ≡ length image → ((i ≡ b → ⊥) → slice_index_or c i [] ≡ slice_index_or image i [])
    → slice_index_or (slice_set c b bytes) i [] ≡ slice_index_or (slice_set image b bytes) i []
set-others c image b i bytes len others = ⊎_elim
    (λ (e : i ≡ b). set-there c image b i bytes len e)
    (λ (ne : i ≡ b → ⊥). get_or-set_other c b i bytes [] ne ∙ others ne ∙ sym (get_or-set_other image b i bytes [] ne))
    (cases_eq i b)

-- each image of whole blocks that is as reads give but for blocks in flight may be left
pub HasLeft-differs : (barrier : ℕ) (ws : List WriteRecord) (image c : Image) (t : ℕ) → All (λ (w : WriteRecord). IsBlock w.before) ws
    → length c ≡ length image → All IsBlock c → ((i : ℕ) → (IsInFlight barrier ws i → ⊥) → slice_index_or c i [] ≡ slice_index_or image i [])
    → HasLeft barrier ws image t c
HasLeft-differs barrier [] image c t before len whole others = ext_get_or [] c image len (λ i lt. others i (λ f. f))
HasLeft-differs zero (w ∷ ws) image c t before len whole others =
    let d : Image = slice_set c w.block w.before in
    let bytes = block_or_zero c w.block w.before whole in
    inr (inl (
      inl refl,
      (
        d,
        HasLeft-differs w.barrier ws (image_before w image) d (w.call - 1) (All-tail (λ (v : WriteRecord). IsBlock v.before) w ws before)
            (length-set c w.block w.before ∙ len ∙ sym (length-set image w.block w.before))
            (All-set IsBlock c w.block w.before (All-head (λ (v : WriteRecord). IsBlock v.before) w ws before) whole)
            (λ i settled. set-others c image w.block i w.before len (λ ne. others i (λ f. ⊎_elim ne settled f.1))),
        bytes.0,
        bytes.1,
        bytes.2,
      ),
    ))
HasLeft-differs (suc k) (w ∷ ws) image c t before len whole others = inl (ext_get_or [] c image len (λ i lt. others i (λ f. omega (arith, f.0))))

-- what holds of each of a list holds of each of it reversed
All-reverse : {X : Type 0} (P : X → Type 0) → (xs : List X) → All P xs → All P (reverse xs)
All-reverse P xs all k d lt =
    let there : k < length xs = omega (arith, lt, length-reverse xs) in
    subst P (sym (get_or-reverse xs k d there)) (all (length xs - 1 - k) d (omega (arith, there)))

-- the first blocks of two images that are as they were at a block
take-others : (size i : ℕ) (new old : Image) → slice_index_or new i [] ≡ slice_index_or old i []
    → slice_index_or (take size new) i [] ≡ slice_index_or (take size old) i []
take-others size i new old same = ⊎_elim
    (λ (lt : i < size). get_or-take size new i [] lt ∙ same ∙ sym (get_or-take size old i [] lt))
    (λ (le : size ≤ i). get_or_past (take size new) i [] (omega (arith, le, length-take size new))
    ∙ sym (get_or_past (take size old) i [] (omega (arith, le, length-take size old))))
    (cases_lt i size)

-- a loss of power leaves one of the images that a crash may leave
pub left_of-torn : (how : Torn) (d : MemoryDevice) (new : Image) (count : ℕ) → All (IsRecordIn count) d.writes
    → new ≡ torn_blocks how d.barrier (reverse d.writes) d.blocks → All IsBlock new → left_of d d.plan.calls (take d.size new)
left_of-torn how d new count records torn whole =
    let ws = reverse d.writes in
    let len : length new ≡ length d.blocks = ap (λ (i : Image). length i) torn ∙ length-torn_blocks how d.barrier ws d.blocks in
    HasLeft-differs d.barrier ws (take d.size d.blocks) (take d.size new) d.plan.calls
    (All-reverse (λ (w : WriteRecord). IsBlock w.before) d.writes (λ k w lt. (records k w lt).1))
    (length-take d.size new ∙ ap (λ n. min d.size n) len ∙ sym (length-take d.size d.blocks))
    (All-take IsBlock d.size new whole)
    (λ i settled. take-others d.size i new d.blocks
    (ap (λ (image : Image). slice_index_or image i []) torn ∙ torn_blocks-others how d.barrier ws d.blocks i settled))

-- a whole block in place of one
HasBlocks-set : (count : ℕ) (image : Image) (b : ℕ) (bytes : List ℕ) → HasBlocks count image → IsBlock bytes → HasBlocks count (slice_set image b bytes)
HasBlocks-set count image b bytes shape whole = record {
  count_is = length-set image b bytes ∙ shape.count_is;
  whole = All-set IsBlock image b bytes whole shape.whole;
}

-- what a crash may leave has as many whole blocks as there are
pub HasLeft-shape : (count barrier : ℕ) (ws : List WriteRecord) (image c : Image) (t : ℕ) → All (λ (w : WriteRecord). IsBlock w.before) ws
    → HasBlocks count image → HasLeft barrier ws image t c → HasBlocks count c
HasLeft-shape count barrier [] image c t before shape now = subst (HasBlocks count) (sym now) shape
HasLeft-shape count barrier (w ∷ ws) image c t before shape (inl now) = subst (HasBlocks count) (sym now) shape
HasLeft-shape count barrier (w ∷ ws) image c t before shape (inr (inl tears)) =
    let torn = tears.1 in
    let was = HasLeft-shape count w.barrier ws (image_before w image) torn.0 (w.call - 1) (All-tail (λ (v : WriteRecord). IsBlock v.before) w ws before)
    (HasBlocks-set count image w.block w.before shape (All-head (λ (v : WriteRecord). IsBlock v.before) w ws before)) torn.1 in
    subst (HasBlocks count) (sym torn.4) (HasBlocks-set count torn.0 w.block torn.2 was torn.3)
HasLeft-shape count barrier (w ∷ ws) image c t before shape (inr (inr old)) =
    HasLeft-shape count w.barrier ws (image_before w image) c t (All-tail (λ (v : WriteRecord). IsBlock v.before) w ws before)
    (HasBlocks-set count image w.block w.before shape (All-head (λ (v : WriteRecord). IsBlock v.before) w ws before)) old.1

-- so it is of a device
pub left_of-shape : (d : MemoryDevice) (count : ℕ) (c : Image) (t : ℕ) → d.size ≤ length d.blocks → All IsBlock d.blocks
    → All (IsRecordIn count) d.writes → left_of d t c → HasBlocks d.size c
left_of-shape d count c t fits whole records left =
    HasLeft-shape d.size d.barrier (reverse d.writes) (take d.size d.blocks) c t
    (All-reverse (λ (w : WriteRecord). IsBlock w.before) d.writes (λ k w lt. (records k w lt).1))
    (record { count_is = length-take-le d.size d.blocks fits; whole = All-take IsBlock d.size d.blocks whole }) left
