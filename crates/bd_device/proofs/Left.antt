-- What a crash may leave of a device in memory, as its calls go on.
use Rattle.std.proofs.Common.{◌≡◌, ℕ, ◌+◌, ◌-◌, ◌<◌, ◌≤◌, ◌⊎◌, List, [], ◌∷◌, ◌++◌, ◌∙◌, All, Bool, true, false, if◌then◌else◌, ◌^◌, Result, Ok, Err, inl, inr, refl, sym, ap, subst, arith, length, take, reverse, slice_set, slice_index_or}
use Rattle.std.proofs.lemmas.List.{get_or-take, set-get_or, set-set, reverse-append}
use Rattle.std.proofs.lemmas.Bool.Decides.{nat_tests}
use Rattle.std.proofs.Math.Seq.{take-set-lt}
use Rattle.bd_io.specs.Cause.{next_count}
use Rattle.bd_io.specs.Plan.{PlannedCalls}
use Rattle.bd_device.specs.Blocks.{Image, IsBlock}
use Rattle.bd_device.specs.Moments.{Elapses, TornAt}
use Rattle.bd_device.specs.Memory.{MemoryDevice, HasLeft, image_before, held_image, attached_image, attached_size, left_of, is_recorded, written_record, with_record, recorded, after_write}
use Rattle.bd_device.specs.declared.write_record.WriteRecord.{WriteRecord}

-- what is there is among it
pub HasLeft-now : (barrier : ℕ) (ws : List WriteRecord) (image : Image) (t : ℕ) → HasLeft barrier ws image t image
HasLeft-now barrier [] image t = refl
HasLeft-now barrier (w ∷ ws) image t = inl refl

-- calls that change nothing
pub Elapses-same : (before after : ℕ) (left : ℕ → Image → Type 0) (I : Image → Type 0) → before ≤ after → Elapses before after left left I
Elapses-same before after left I le = record { later = le; keeps = λ t c _ was. was; adds = λ t c _ was. inl was }

-- a write with a record leaves what was left before it, and inside it and after it a torn block
pub HasLeft-adds : (n : ℕ) (w : WriteRecord) (ws : List WriteRecord) (image new : Image) (bytes : List ℕ)
    → w.call ≡ n + 1 → image_before w new ≡ image → IsBlock bytes → new ≡ slice_set image w.block bytes
    → (t : ℕ) (c : Image) → HasLeft 0 (w ∷ ws) new t c → HasLeft w.barrier ws image t c ⊎ TornAt w.block (HasLeft w.barrier ws image n) c
HasLeft-adds n w ws image new bytes called undone whole torn t c (inl now) =
    inr (image, HasLeft-now w.barrier ws image n, bytes, whole, now ∙ torn)
HasLeft-adds n w ws image new bytes called undone whole torn t c (inr (inl tears)) =
    let last : w.call - 1 ≡ n = omega (arith, called) in
    inr (subst (λ (i : Image). TornAt w.block (HasLeft w.barrier ws i n) c) undone
    (subst (λ k. TornAt w.block (HasLeft w.barrier ws (image_before w new) k) c) last tears.1))
HasLeft-adds n w ws image new bytes called undone whole torn t c (inr (inr old)) =
    inl (subst (λ (i : Image). HasLeft w.barrier ws i t c) undone old.1)

-- so it is of the records in their order
pub HasLeft-write : (n m : ℕ) (w : WriteRecord) (ws : List WriteRecord) (image new : Image) (bytes : List ℕ)
    → m ≡ n + 1 → w.call ≡ n + 1 → image_before w new ≡ image → IsBlock bytes → new ≡ slice_set image w.block bytes
    → Elapses n m (HasLeft w.barrier (reverse ws) image) (HasLeft 0 (reverse (ws ++ w ∷ [])) new) (TornAt w.block (HasLeft w.barrier (reverse ws) image n))
HasLeft-write n m w ws image new bytes one_more called undone whole torn =
    let order : reverse (ws ++ w ∷ []) ≡ w ∷ reverse ws = reverse-append ws (w ∷ []) in
    subst (λ (l : List WriteRecord). Elapses n m (HasLeft w.barrier (reverse ws) image) (HasLeft 0 l new) (TornAt w.block (HasLeft w.barrier (reverse ws) image n)))
    (sym order) (record {
      later = omega (arith, one_more);
      keeps = λ t c le was. inr (inr (omega (arith, called, le), subst (λ (i : Image). HasLeft w.barrier (reverse ws) i t c) (sym undone) was));
      adds = λ t c le left. HasLeft-adds n w (reverse ws) image new bytes called undone whole torn t c left;
    })

-- where they are there still, this changes nothing
pub put_back-same : (size b : ℕ) (blocks : Image) → b < size → slice_set (take size blocks) b (slice_index_or blocks b []) ≡ take size blocks
put_back-same size b blocks lt =
    ap (λ (bytes : List ℕ). slice_set (take size blocks) b bytes) (sym (get_or-take size blocks b [] lt)) ∙ set-get_or (take size blocks) b []

-- the block's bytes before, put back among the attached blocks
pub put_back-done : (size b : ℕ) (blocks : Image) (bytes : List ℕ) → b < size
    → slice_set (take size (slice_set blocks b bytes)) b (slice_index_or blocks b []) ≡ take size blocks
put_back-done size b blocks bytes lt =
    ap (λ (i : Image). slice_set i b (slice_index_or blocks b [])) (take-set-lt size blocks b bytes lt)
    ∙ set-set (take size blocks) b bytes (slice_index_or blocks b [])
    ∙ put_back-same size b blocks lt

-- a write that failed, with a record or without
pub left-failed : (d : MemoryDevice) (b : ℕ) (bytes : List ℕ) (done recorded : Bool) (plan : PlannedCalls) (write_faults : ℕ)
    → b < d.size → d.size ≤ length d.blocks → All IsBlock d.blocks → plan.calls ≡ next_count d.plan.calls → d.plan.calls ≤ plan.calls
    → (recorded ≡ true → d.plan.calls + 1 < 2 ^ 64)
    → (let new : MemoryDevice = if recorded then with_record d.plan.calls b bytes done (record d { plan = plan; write_faults = write_faults }) else record d { plan = plan; write_faults = write_faults } in
    Elapses d.plan.calls new.plan.calls (left_of d) (left_of new) (TornAt b (left_of d d.plan.calls)))
left-failed d b bytes done false plan write_faults lt fits whole counted later numbered =
    Elapses-same d.plan.calls plan.calls (left_of d) (TornAt b (left_of d d.plan.calls)) later
left-failed d b bytes done true plan write_faults lt fits whole counted later numbered =
    let there = put_back-same d.size b d.blocks lt in
    HasLeft-write d.plan.calls plan.calls (written_record d.plan.calls b bytes done (record d { plan = plan; write_faults = write_faults })) d.writes (held_image d) (held_image d) (slice_index_or d.blocks b [])
    (omega (arith, counted, numbered refl)) refl there (whole b [] (omega (arith, lt, fits))) (sym there)

-- a write that was done
pub left-done : (d : MemoryDevice) (b : ℕ) (bytes : List ℕ) (plan : PlannedCalls) (write_faults : ℕ)
    → b < d.size → IsBlock bytes → plan.calls ≡ next_count d.plan.calls → d.plan.calls + 1 < 2 ^ 64
    → (let new : MemoryDevice = with_record d.plan.calls b bytes true (record d { plan = plan; write_faults = write_faults }) in
    Elapses d.plan.calls plan.calls (left_of d) (left_of (record new { blocks = slice_set d.blocks b bytes })) (TornAt b (left_of d d.plan.calls)))
left-done d b bytes plan write_faults lt whole counted numbered =
    HasLeft-write d.plan.calls plan.calls (written_record d.plan.calls b bytes true (record d { plan = plan; write_faults = write_faults })) d.writes (held_image d) (take d.size (slice_set d.blocks b bytes)) bytes
    (omega (arith, counted, numbered)) refl (put_back-done d.size b d.blocks bytes lt) whole (take-set-lt d.size d.blocks b bytes lt)

-- only a call whose number fits has a record
pub is_recorded-fits : (n : ℕ) (d : MemoryDevice) → is_recorded n d ≡ true → n + 1 < 2 ^ 64
is_recorded-fits n d e = grind (arith, nat_tests)

-- a record changes no block
pub attached_image-recorded : (n b : ℕ) (bytes : List ℕ) (done : Bool) (d : MemoryDevice) → attached_image (recorded n b bytes done d) ≡ attached_image d
attached_image-recorded n b bytes done d =
    elim (is_recorded n d) as (λ r. attached_image (if r then with_record n b bytes done d else d) ≡ attached_image d) [ true ↦ refl | false ↦ refl ]

-- nor the size
pub attached_size-recorded : (n b : ℕ) (bytes : List ℕ) (done : Bool) (d : MemoryDevice) → attached_size (recorded n b bytes done d) ≡ attached_size d
attached_size-recorded n b bytes done d =
    elim (is_recorded n d) as (λ r. attached_size (if r then with_record n b bytes done d else d) ≡ attached_size d) [ true ↦ refl | false ↦ refl ]

-- after a write with a record each image may be left that has any bytes in its block
HasLeft-torn : (w : WriteRecord) (ws : List WriteRecord) (image new c : Image) (t : ℕ) → image_before w new ≡ image
    → TornAt w.block (λ (d : Image). d ≡ image) c → HasLeft 0 (reverse (ws ++ w ∷ [])) new t c
HasLeft-torn w ws image new c t undone torn =
    let base : HasLeft w.barrier (reverse ws) image (w.call - 1) torn.0 =
    subst (λ (i : Image). HasLeft w.barrier (reverse ws) image (w.call - 1) i) (sym torn.1) (HasLeft-now w.barrier (reverse ws) image (w.call - 1)) in
    subst (λ (l : List WriteRecord). HasLeft 0 l new t c) (sym (reverse-append ws (w ∷ [])))
    (inr (inl (
      inl refl,
      (
        torn.0,
        subst (λ (i : Image). HasLeft w.barrier (reverse ws) i (w.call - 1) torn.0) (sym undone) base,
        torn.2,
        torn.3,
        torn.4,
      ),
    )))

-- so it is of a device, whether the write was done or failed
pub left-any : {T E : Type 0} (d : MemoryDevice) (b : ℕ) (bytes : List ℕ) (result : Result T E) (t : ℕ) (c : Image) → b < d.size
    → is_recorded d.plan.calls d ≡ true → TornAt b (λ (i : Image). i ≡ held_image d) c → left_of (after_write b bytes result d) t c
left-any d b bytes (Ok x) t c lt room torn =
    subst (λ (m : MemoryDevice). HasLeft m.barrier (reverse m.writes) (take m.size (slice_set d.blocks b bytes)) t c)
    (sym (ap (λ r. if r then with_record d.plan.calls b bytes true d else d) room))
    (HasLeft-torn (written_record d.plan.calls b bytes true d) d.writes (held_image d) (take d.size (slice_set d.blocks b bytes)) c t (put_back-done d.size b d.blocks bytes lt) torn)
left-any d b bytes (Err e) t c lt room torn =
    subst (λ (m : MemoryDevice). HasLeft m.barrier (reverse m.writes) (take m.size d.blocks) t c)
    (sym (ap (λ r. if r then with_record d.plan.calls b bytes false d else d) room))
    (HasLeft-torn (written_record d.plan.calls b bytes false d) d.writes (held_image d) (held_image d) c t (put_back-same d.size b d.blocks lt) torn)
