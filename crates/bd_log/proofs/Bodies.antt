-- Bodies and batches in an image, by what is read of their first block.
use Rattle.std.proofs.Common.{◌≡◌, ℕ, ◌+◌, ◌-◌, ◌*◌, ◌^◌, ◌<◌, ◌≤◌, List, [], ◌∷◌, ◌++◌, length, take, drop, refl, sym, ap, subst, ◌∙◌, arith, append_assoc, Option, None, Some, ◌⊎◌, inl, inr, zero, suc}
use Rattle.std.proofs.lemmas.List.{take_at, take-append-le, take-append-drop}
use Rattle.std.specs.Prelude.{IfSome, slice_get, slice_index, slice_index_or}
use Rattle.std.specs.List.{concat}
use Rattle.bd_device.specs.Blocks.{Image}
use Rattle.bd_wire.specs.Text.{zeros}
use Rattle.bd_log.specs.Batches.{IsBatchAt, AreChained, AreBatches, IsDamagedAt, body_blocks, header_bytes}
use Rattle.bd_device.specs.Changes.{bytes_at}
use Rattle.bd_log.specs.Reading.{IsBodyOf, IsBodyAt, IsBodyRead, IsNextBatch, IsBroken}
use Rattle.bd_log.specs.declared.batch.Batch.{Batch}
use Rattle.bd_device.proofs.Changes.{bytes_first}
use Rattle.bd_log.proofs.Buffers.{header_length, records_size}
use Rattle.bd_log.proofs.Chains.{leads_more}

-- what begins as a header does
begins_with : (block more header tail : List ℕ) → length header ≡ 24 → 24 ≤ length block → block ++ more ≡ header ++ tail → block ≡ header ++ drop 24 block
begins_with block more header tail h le e =
    let front : take 24 block ≡ header = sym (take-append-le 24 block more le) ∙ ap (take 24) e ∙ take_at header tail 24 h in
    sym (take-append-drop 24 block) ∙ ap (λ l. l ++ drop 24 block) front

-- the first block of a body begins with its header
begins_header : (image : Image) (b most epoch : ℕ) (block : List ℕ) (rs : List (List ℕ)) → slice_get image b ≡ Some block → length block ≡ 4096 → IsBodyAt image b most epoch rs
    → block ≡ header_bytes (body_blocks rs) epoch (length rs) (length (concat rs)) ++ drop 24 block
begins_header image b most epoch block rs there long h =
    let header = header_bytes (body_blocks rs) epoch (length rs) (length (concat rs)) in
    let tail = zeros (body_blocks rs * 4096 - (24 + length (concat rs))) in
    let more = body_blocks rs - 1 in
    let one : suc more ≡ body_blocks rs = omega arith in
    begins_with block (bytes_at image (suc b) more) header (concat rs ++ tail) (header_length (body_blocks rs) epoch (length rs) (length (concat rs))) (omega (arith, long))
    (sym (bytes_first image b more block there) ∙ ap (bytes_at image b) one ∙ h.bytes ∙ append_assoc header (concat rs) tail)

-- What a block's header says of the blocks of a body.
abbrev pub Names : List ℕ → ℕ → Type 0
Names block named = (blocks epoch count size : ℕ) (rest : List ℕ)
    → blocks < 2 ^ 32 → epoch < 2 ^ 64 → count < 2 ^ 32 → size < 2 ^ 32
    → block ≡ header_bytes blocks epoch count size ++ rest → named ≡ blocks

named_is : (image : Image) (b most epoch named : ℕ) (block : List ℕ) (rs : List (List ℕ)) → slice_get image b ≡ Some block → length block ≡ 4096 → most ≤ 62 → epoch < 2 ^ 64
    → Names block named → IsBodyAt image b most epoch rs → named ≡ body_blocks rs
named_is image b most epoch named block rs there long few e names h =
    names (body_blocks rs) epoch (length rs) (length (concat rs)) (drop 24 block) (omega (arith, h.room)) e (omega (arith, h.room, records_size rs h.each)) (omega (arith, h.room))
    (begins_header image b most epoch block rs there long h)

-- none stands where the header names too many blocks, or none
pub none_named : (known : Option Image) (b most epoch named : ℕ) (block : List ℕ) → IfSome known (λ image. slice_get image b ≡ Some block) → length block ≡ 4096 → most ≤ 62 → epoch < 2 ^ 64
    → Names block named → (named ≡ 0) ⊎ (most < named) → IfSome known (λ image. IsBodyRead image b most epoch None)
none_named None b most epoch named block there long few e names bad = tt
none_named (Some image) b most epoch named block there long few e names bad = λ rs h.
    let is = named_is image b most epoch named block rs there long few e names h in
    elim bad [ inl none ↦ absurd (omega (arith, is, none)) | inr many ↦ absurd (omega (arith, is, many, h.room)) ]

-- nor where the blocks that it names are none
pub none_decoded : (known now : Option Image) (b most epoch named : ℕ) (block : List ℕ) → now ≡ known → IfSome known (λ image. slice_get image b ≡ Some block) → length block ≡ 4096 → most ≤ 62 → epoch < 2 ^ 64
    → Names block named → IfSome now (λ image. IsBodyOf (bytes_at image b named) epoch None) → IfSome known (λ image. IsBodyRead image b most epoch None)
none_decoded None now b most epoch named block same there long few e names none = tt
none_decoded (Some image) now b most epoch named block same there long few e names none = λ rs h.
    let is = named_is image b most epoch named block rs there long few e names h in
    let here : IsBodyOf (bytes_at image b named) epoch None = subst (λ (k : Option Image). IfSome k (λ image. IsBodyOf (bytes_at image b named) epoch None)) same none in
    here rs h.some h.each (ap (bytes_at image b) is ∙ h.bytes)

get_is : (image : Image) (b : ℕ) (block : List ℕ) → slice_get image b ≡ Some block → slice_index_or image b [] ≡ block
get_is [] b block e = cc
get_is (x ∷ xs) zero block e = let same : x ≡ block = cc in same
get_is (x ∷ xs) (suc b) block e = get_is xs b block e

-- a batch as a body
as_body : (image : Image) (first epoch place : ℕ) (batch : Batch) → IsBatchAt image first epoch place batch → IsBodyAt image (first + place + 1) (62 - place) epoch batch.records
as_body image first epoch place batch h = record {
  some = h.some;
  each = h.each;
  room = omega (arith, h.room);
  bytes = ap (λ b. bytes_at image b (body_blocks batch.records)) (sym h.body) ∙ h.bytes;
}

-- a committed place with no body after it is broken
pub broken : (known now : Option Image) (first epoch place : ℕ) (block : List ℕ) → now ≡ known → IfSome known (λ image. slice_get image (first + place) ≡ Some block) → slice_index block 0 ≡ 1
    → IfSome now (λ image. IsBodyRead image (first + place + 1) (62 - place) epoch None) → IfSome known (λ image. IsBroken image first epoch place (first + place + 1))
broken None now first epoch place block same there one none = tt
broken (Some image) now first epoch place block same there one none =
    let here : IsBodyRead image (first + place + 1) (62 - place) epoch None = subst (λ (k : Option Image). IfSome k (λ image. IsBodyRead image (first + place + 1) (62 - place) epoch None)) same none in
    (ap (λ (l : List ℕ). slice_index l 0) (get_is image (first + place) block there) ∙ one, λ batch at. here batch.records (as_body image first epoch place batch at), refl)

-- ---- over the batches of a half

-- one batch more was read
pub follow_more : (known now : Option Image) (first epoch place blocks : ℕ) (batches more : List Batch) (batch : Batch) → now ≡ known
    → IfSome known (λ image. AreChained image first epoch 0 batches place) → IfSome now (λ image. IsNextBatch image first epoch place (Some (batch, blocks)))
    → blocks ≡ body_blocks batch.records → more ≡ batches ++ batch ∷ [] → IfSome known (λ image. AreChained image first epoch 0 more (place + (1 + blocks)))
follow_more None now first epoch place blocks batches more batch same so_far next size is = tt
follow_more (Some image) now first epoch place blocks batches more batch same so_far next size is =
    let here : IsNextBatch image first epoch place (Some (batch, blocks)) = subst (λ (k : Option Image). IfSome k (λ image. IsNextBatch image first epoch place (Some (batch, blocks)))) same next in
    let end : place + 1 + body_blocks batch.records ≡ place + (1 + blocks) = omega (arith, size) in
    subst (λ bs. AreChained image first epoch 0 bs (place + (1 + blocks))) (sym is)
    (subst (λ n. AreChained image first epoch 0 (batches ++ batch ∷ []) n) end (leads_more image first epoch 0 batches place batch so_far here.0 here.1))

-- the commit block after them isn't committed
pub follow_all : (known now : Option Image) (first epoch place : ℕ) (batches : List Batch) → now ≡ known
    → IfSome known (λ image. AreChained image first epoch 0 batches place) → IfSome now (λ image. IsNextBatch image first epoch place None)
    → IfSome known (λ image. AreBatches image first epoch batches place)
follow_all None now first epoch place batches same so_far next = tt
follow_all (Some image) now first epoch place batches same so_far next =
    record { follow = so_far; closed = subst (λ (k : Option Image). IfSome k (λ image. IsNextBatch image first epoch place None)) same next }

-- or no batch stands after it
pub follow_damaged : (known now : Option Image) (first epoch place block : ℕ) (batches : List Batch) → now ≡ known
    → IfSome known (λ image. AreChained image first epoch 0 batches place) → IfSome now (λ image. IsBroken image first epoch place block)
    → IfSome known (λ image. IsDamagedAt image first epoch block)
follow_damaged None now first epoch place block batches same so_far bad = tt
follow_damaged (Some image) now first epoch place block batches same so_far bad =
    let here : IsBroken image first epoch place block = subst (λ (k : Option Image). IfSome k (λ image. IsBroken image first epoch place block)) same bad in
    (batches, place, so_far, here.0, here.1, here.2)
