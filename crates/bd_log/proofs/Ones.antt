-- One batch stands at a place, and so one list of batches in a half.
use Rattle.std.proofs.Common.{◌≡◌, ℕ, ◌+◌, ◌-◌, ◌*◌, ◌^◌, ◌<◌, ◌≤◌, List, [], ◌∷◌, ◌++◌, length, take, drop, refl, sym, ap, subst, ◌∙◌, arith, append_assoc, append-nil, inl, inr}
use Rattle.std.proofs.lemmas.Bool.{cases_lt}
use Rattle.std.proofs.lemmas.List.{take_at}
use Rattle.std.proofs.lemmas.List.Folds.{concat-append}
use Rattle.std.proofs.Math.Seq.{take-add}
use Rattle.std.specs.List.{concat, AllByRecursion}
use Rattle.bd_device.specs.Blocks.{Image}
use Rattle.bd_wire.specs.Text.{zeros}
use Rattle.bd_log.specs.Batches.{IsLogRecord, IsBatchAt, AreChained, records_in, body_blocks, header_bytes, body_bytes}
use Rattle.bd_device.specs.Commits.{IsCommitted}
use Rattle.bd_device.specs.Changes.{bytes_at}
use Rattle.bd_log.specs.declared.batch.Batch.{Batch}
use Rattle.bd_log.proofs.Buffers.{records_in-concat, records_size}
use Rattle.bd_log.proofs.Headers.{headers_same}

-- fewer blocks are the first ones of more
bytes_front : (image : Image) (b few many : ℕ) → few ≤ many → (more : List ℕ) × (bytes_at image b many ≡ bytes_at image b few ++ more)
bytes_front image b few many le =
    let sum : few + (many - few) ≡ many = omega arith in (
      concat (take (many - few) (drop few (drop b image))),
      ap (λ n. bytes_at image b n) (sym sum) ∙ ap concat (take-add few (many - few) (drop b image)) ∙ concat-append (take few (drop b image)) (take (many - few) (drop few (drop b image))),
    )

-- the records that a place has, where one body has no fewer blocks
one_body : (image : Image) (b epoch : ℕ) (rs qs : List (List ℕ)) → epoch < 2 ^ 64 → AllByRecursion IsLogRecord rs → AllByRecursion IsLogRecord qs → body_blocks rs ≤ 62 → body_blocks qs ≤ 62
    → bytes_at image b (body_blocks rs) ≡ body_bytes epoch rs → bytes_at image b (body_blocks qs) ≡ body_bytes epoch qs → body_blocks rs ≤ body_blocks qs → rs ≡ qs
one_body image b epoch rs qs e h k few few' is is' le =
    let front = bytes_front image b (body_blocks rs) (body_blocks qs) le in
    let size = length (concat rs) in
    let size' = length (concat qs) in
    let header = header_bytes (body_blocks rs) epoch (length rs) size in
    let header' = header_bytes (body_blocks qs) epoch (length qs) size' in
    let tail = zeros (body_blocks rs * 4096 - (24 + size)) in
    let tail' = zeros (body_blocks qs * 4096 - (24 + size')) in
    let both : header ++ (concat rs ++ (tail ++ front.0)) ≡ header' ++ (concat qs ++ tail') =
    sym (append_assoc header (concat rs) (tail ++ front.0)) ∙ sym (append_assoc (header ++ concat rs) tail front.0)
    ∙ ap (λ l. l ++ front.0) (sym is) ∙ sym front.1 ∙ is' ∙ append_assoc header' (concat qs) tail' in
    let same = headers_same (body_blocks rs) epoch (length rs) size (body_blocks qs) epoch (length qs) size' (concat rs ++ (tail ++ front.0)) (concat qs ++ tail')
    (omega arith) e (omega (arith, records_size rs h)) (omega arith) (omega arith) e (omega (arith, records_size qs k)) (omega arith) both in
    let bytes : concat rs ≡ concat qs =
    sym (take_at (concat rs) (tail ++ front.0) size refl) ∙ ap (take size) same.3 ∙ take_at (concat qs) tail' size (sym same.2) in
    sym (records_in-concat rs [] h) ∙ ap (records_in (length rs)) (append-nil (concat rs) ∙ bytes ∙ sym (append-nil (concat qs)))
    ∙ ap (λ n. records_in n (concat qs ++ [])) same.1 ∙ records_in-concat qs [] k

batch_is : (a b : Batch) → a.body ≡ b.body → a.records ≡ b.records → a ≡ b
batch_is a b body records =
    let At : ℕ → List (List ℕ) → Batch = λ n rs. record { body = n; records = rs } in
    ap (λ n. At n a.records) body ∙ ap (At b.body) records

-- one batch stands at a place
pub one_batch : (image : Image) (first epoch place : ℕ) (a b : Batch) → epoch < 2 ^ 64 → IsBatchAt image first epoch place a → IsBatchAt image first epoch place b → a ≡ b
one_batch image first epoch place a b e h k =
    let at : a.body ≡ b.body = h.body ∙ sym k.body in
    let there : bytes_at image a.body (body_blocks b.records) ≡ body_bytes epoch b.records = ap (λ n. bytes_at image n (body_blocks b.records)) at ∙ k.bytes in
    elim (cases_lt (body_blocks b.records) (body_blocks a.records)) [
      | inl lt ↦ batch_is a b at (sym (one_body image a.body epoch b.records a.records e k.each h.each (omega (arith, k.room)) (omega (arith, h.room)) there h.bytes (omega arith)))
      | inr le ↦ batch_is a b at (one_body image a.body epoch a.records b.records e h.each k.each (omega (arith, h.room)) (omega (arith, k.room)) h.bytes there le)
    ]

-- two lists of batches from a place are one, where the first commit block after each isn't committed
pub one_list : (image : Image) (first epoch place : ℕ) (these bs : List Batch) (end end' : ℕ) → epoch < 2 ^ 64
    → AreChained image first epoch place these end → AreChained image first epoch place bs end' → ¬ IsCommitted image (first + end) → ¬ IsCommitted image (first + end') → (these ≡ bs) × (end ≡ end')
one_list image first epoch place [] [] end end' e h k closed closed' = (refl, sym h ∙ k)
one_list image first epoch place [] (b ∷ bs) end end' e h k closed closed' = absurd (closed (subst (λ n. IsCommitted image (first + n)) h k.0))
one_list image first epoch place (a ∷ these) [] end end' e h k closed closed' = absurd (closed' (subst (λ n. IsCommitted image (first + n)) k h.0))
one_list image first epoch place (a ∷ these) (b ∷ bs) end end' e h k closed closed' =
    let same = one_batch image first epoch place a b e h.1 k.1 in
    let rest = one_list image first epoch (place + 1 + body_blocks a.records) these bs end end' e h.2
    (subst (λ (c : Batch). AreChained image first epoch (place + 1 + body_blocks c.records) bs end') (sym same) k.2) closed closed' in
    (ap (λ (c : Batch). c ∷ these) same ∙ ap (λ cs. b ∷ cs) rest.0, rest.1)

-- a list of batches doesn't reach past a place where none stands
pub no_list : (image : Image) (first epoch place : ℕ) (these bs : List Batch) (end end' : ℕ) → epoch < 2 ^ 64
    → AreChained image first epoch place these end → IsCommitted image (first + end) → ((batch : Batch) → ¬ IsBatchAt image first epoch end batch)
    → AreChained image first epoch place bs end' → ¬ IsCommitted image (first + end') → ⊥
no_list image first epoch place [] [] end end' e h on none k closed = closed (subst (λ n. IsCommitted image (first + n)) (sym h ∙ k) on)
no_list image first epoch place [] (b ∷ bs) end end' e h on none k closed = none b (subst (λ n. IsBatchAt image first epoch n b) h k.1)
no_list image first epoch place (a ∷ these) [] end end' e h on none k closed = closed (subst (λ n. IsCommitted image (first + n)) k h.0)
no_list image first epoch place (a ∷ these) (b ∷ bs) end end' e h on none k closed =
    let same = one_batch image first epoch place a b e h.1 k.1 in
    no_list image first epoch (place + 1 + body_blocks a.records) these bs end end' e h.2 on none
    (subst (λ (c : Batch). AreChained image first epoch (place + 1 + body_blocks c.records) bs end') (sym same) k.2) closed
