-- Batches that follow each other, in images that agree up to a block.
use Rattle.std.proofs.Common.{◌≡◌, ℕ, ◌+◌, ◌-◌, ◌*◌, ◌<◌, ◌≤◌, List, [], ◌∷◌, ◌++◌, length, take, drop, refl, sym, ap, subst, ◌∙◌, arith, append-nil, inl, inr, get_or, zero, suc}
use Rattle.std.proofs.lemmas.List.{drop-take, take-append-le, get_or-take}
use Rattle.bd_wire.specs.Text.{zeros}
use Rattle.std.specs.List.{concat, AllByRecursion}
use Rattle.std.specs.Prelude.{slice_index}
use Rattle.bd_device.specs.Blocks.{Image}
use Rattle.bd_log.specs.Batches.{IsLogRecord, IsBatchAt, AreChained, AreBatches, records_in, blocks_for, body_blocks, header_bytes, body_bytes}
use Rattle.bd_device.specs.Commits.{IsCommitted}
use Rattle.bd_device.specs.Changes.{SameBut, IsInRange, bytes_at}
use Rattle.bd_device.proofs.Changes.{same_same, same_wider, same_before}
use Rattle.bd_log.specs.Commits.{IsWholeAt, IsNoneOrWhole, WasWritten}
use Rattle.bd_log.specs.Logs.{LogState, IsBuffer, HasAll, IsSyncing, IsSynced, batches_of, place_after, after_sync}
use Rattle.bd_log.specs.declared.batch.Batch.{Batch}
use Rattle.bd_log.proofs.Buffers.{length-records_in, waiting_size, fits_half, body_is, sealed_length, take_take}

-- fewer first items agree too
take_fewer : {A : Type 0} (n m : ℕ) (xs ys : List A) → n ≤ m → take m xs ≡ take m ys → take n xs ≡ take n ys
take_fewer zero m xs ys le e = refl
take_fewer (suc n) zero xs ys le e = absurd (omega arith)
take_fewer (suc n) (suc m) [] [] le e = refl
take_fewer (suc n) (suc m) [] (y ∷ ys) le e = cc
take_fewer (suc n) (suc m) (x ∷ xs) [] le e = cc
take_fewer (suc n) (suc m) (x ∷ xs) (y ∷ ys) le e =
    let heads : x ≡ y = cc in
    let tails : take m xs ≡ take m ys = cc in
    let rest : take n xs ≡ take n ys = take_fewer n m xs ys (omega arith) tails in
    cc

-- an item below the range
same_below : {A : Type 0} (n i : ℕ) (d : A) (xs ys : List A) → i < n → take n xs ≡ take n ys → get_or xs i d ≡ get_or ys i d
same_below n i d xs ys lt e = sym (get_or-take n xs i d lt) ∙ ap (λ l. get_or l i d) e ∙ get_or-take n ys i d lt

-- blocks below an end where images agree
same_bytes : (c d : Image) (end b count : ℕ) → b + count ≤ end → take end c ≡ take end d → bytes_at c b count ≡ bytes_at d b count
same_bytes c d end b count le e =
    ap concat (sym (drop-take b count c) ∙ ap (drop b) (take_fewer (b + count) end c d le e) ∙ drop-take b count d)

same_commit : (c d : Image) (end b : ℕ) → b < end → take end c ≡ take end d → IsCommitted d b → IsCommitted c b
same_commit c d end b lt e is = ap (λ (l : List ℕ). slice_index l 0) (same_below end b [] c d lt e) ∙ is

-- batches end no sooner than they begin
pub leads_up : (image : Image) (first epoch place : ℕ) (batches : List Batch) (end : ℕ) → AreChained image first epoch place batches end → place ≤ end
leads_up image first epoch place [] end h = omega (arith, h)
leads_up image first epoch place (b ∷ bs) end h =
    omega (arith, leads_up image first epoch (place + 1 + body_blocks b.records) bs end h.2)

-- they are in each image that agrees below their end
pub leads_same : (c d : Image) (first epoch place : ℕ) (batches : List Batch) (end : ℕ) → take (first + end) c ≡ take (first + end) d
    → AreChained d first epoch place batches end → AreChained c first epoch place batches end
leads_same c d first epoch place [] end e h = h
leads_same c d first epoch place (b ∷ bs) end e h =
    let up = leads_up d first epoch (place + 1 + body_blocks b.records) bs end h.2 in (
      same_commit c d (first + end) (first + place) (omega arith) e h.0,
      record {
        body = h.1.body;
        some = h.1.some;
        each = h.1.each;
        room = h.1.room;
        bytes = same_bytes c d (first + end) b.body (body_blocks b.records) (omega (arith, h.1.body)) e ∙ h.1.bytes;
      },
      leads_same c d first epoch (place + 1 + body_blocks b.records) bs end e h.2,
    )

-- one batch more
pub leads_more : (image : Image) (first epoch place : ℕ) (batches : List Batch) (end : ℕ) (batch : Batch) → AreChained image first epoch place batches end
    → IsCommitted image (first + end) → IsBatchAt image first epoch end batch
    → AreChained image first epoch place (batches ++ batch ∷ []) (end + 1 + body_blocks batch.records)
leads_more image first epoch place [] end batch h on is =
    subst (λ n. AreChained image first epoch n (batch ∷ []) (end + 1 + body_blocks batch.records)) (sym h) (on, is, refl)
leads_more image first epoch place (b ∷ bs) end batch h on is =
    (h.0, h.1, leads_more image first epoch (place + 1 + body_blocks b.records) bs end batch h.2 on is)

-- ---- a sync

some_waiting : (body place : ℕ) (rs : List (List ℕ)) → 1 ≤ length rs → (batches_of body rs ≡ record { body = body; records = rs } ∷ []) × (place_after place rs ≡ place + 1 + body_blocks rs)
some_waiting body place [] h = absurd (omega arith)
some_waiting body place (r ∷ rs) h = (refl, refl)

-- What a sync writes: the batch of the waiting records.
pub record IsWaiting (log : LogState) (blocks : ℕ) (bytes : List ℕ) : Type 0 where
  pub some : 1 ≤ length log.waiting
  pub each : AllByRecursion IsLogRecord log.waiting
  pub size : blocks ≡ body_blocks log.waiting
  pub room : log.place + 1 + blocks ≤ 63
  pub body : bytes ≡ body_bytes log.epoch log.waiting

-- that is what stands in the sealed buffer
pub waiting_is : (first place size count epoch blocks len : ℕ) (batches : List Batch) (body old new value : List ℕ) → IsBuffer place size count body → ¬ (count ≡ 0)
    → blocks ≡ blocks_for size → old ≡ body → length old ≡ len
    → take (blocks * 4096) new ≡ header_bytes blocks epoch count size ++ take size (drop 24 old) ++ zeros (blocks * 4096 - (24 + size))
    → value ≡ take len (new ++ drop (length new) body)
    → IsWaiting (record { first = first; epoch = epoch; place = place; waiting = records_in count (take size (drop 24 body)); batches = batches }) blocks (take (blocks * 4096) value)
waiting_is first place size count epoch blocks len batches body old new value h some is same long sealed items =
    let end = blocks * 4096 in
    let rs = records_in count (take size (drop 24 body)) in
    let room = fits_half place size count blocks body h some is in
    let inside : end ≤ len = omega (arith, room, long, ap length same, h.total) in
    let now : take end new ≡ body_bytes epoch rs =
    sealed ∙ ap (λ b. header_bytes blocks epoch count size ++ take size (drop 24 b) ++ zeros (end - (24 + size))) same ∙ body_is place size count blocks epoch body h is in
    let enough : end ≤ length new = sealed_length size blocks epoch count old new sealed (omega (arith, is)) (omega (arith, ap length same, h.total, room)) in
    record {
      some = omega (arith, length-records_in count (take size (drop 24 body)), some);
      each = h.each;
      size = is ∙ ap blocks_for (sym (waiting_size place size count body h));
      room = room;
      body = ap (take end) items ∙ take_take end len (new ++ drop (length new) body) inside ∙ take-append-le end new (drop (length new) body) enough ∙ now;
    }

-- where the batch is whole, all is there
all_there : (log : LogState) (blocks : ℕ) (bytes : List ℕ) (d c : Image) → IsWaiting log blocks bytes
    → SameBut (IsInRange (log.first + log.place) (log.first + log.place + blocks + 2)) d c → IsWholeAt (log.first + log.place) blocks bytes c → HasAll log d c
all_there log blocks bytes d c w same whole batches was =
    let batch : Batch = record { body = log.first + log.place + 1; records = log.waiting } in
    let added = some_waiting (log.first + log.place + 1) log.place log.waiting w.some in
    let there : IsBatchAt c log.first log.epoch log.place batch = record {
      body = refl;
      some = w.some;
      each = w.each;
      room = omega (arith, w.room, w.size);
      bytes = ap (bytes_at c (log.first + log.place + 1)) (sym w.size) ∙ whole.body ∙ w.body;
    } in
    let next : log.first + log.place + 1 + blocks ≡ log.first + (log.place + 1 + body_blocks log.waiting) = omega (arith, w.size) in
    let now : AreBatches c log.first log.epoch (batches ++ batch ∷ []) (log.place + 1 + body_blocks log.waiting) = record {
      follow = leads_more c log.first log.epoch 0 batches log.place batch (leads_same c d log.first log.epoch 0 batches log.place (same_before (log.first + log.place) (log.first + log.place + blocks + 2) d c same) was.follow) whole.committed there;
      closed = subst (λ b. ¬ IsCommitted c b) next whole.ends;
    } in
    subst (λ end. AreBatches c log.first log.epoch (batches ++ batches_of (log.first + log.place + 1) log.waiting) end) (sym added.1)
    (subst (λ bs. AreBatches c log.first log.epoch (batches ++ bs) (log.place + 1 + body_blocks log.waiting)) (sym added.0) now)

half_outside : (log : LogState) (blocks : ℕ) (bytes : List ℕ) (d c : Image) → IsWaiting log blocks bytes
    → SameBut (IsInRange (log.first + log.place) (log.first + log.place + blocks + 2)) d c → SameBut (IsInRange log.first (log.first + 64)) d c
half_outside log blocks bytes d c w same = same_wider (IsInRange (log.first + log.place) (log.first + log.place + blocks + 2)) (IsInRange log.first (log.first + 64)) (λ i is. (omega (arith, is.0), omega (arith, is.1, w.room))) same

pub syncing : (log : LogState) (blocks : ℕ) (bytes : List ℕ) (before : Image → Type 0) (c : Image) → IsWaiting log blocks bytes
    → IsNoneOrWhole (log.first + log.place) blocks bytes before c → IsSyncing log before c
syncing log blocks bytes before c w h = (
  h.0,
  h.1,
  half_outside log blocks bytes h.0 c w h.2,
  λ batches was. elim h.3 [
    | inl none ↦ inl (record { follow = leads_same c h.0 log.first log.epoch 0 batches log.place (same_before (log.first + log.place) (log.first + log.place + blocks + 2) h.0 c h.2) was.follow; closed = none was.closed })
    | inr whole ↦ inr (all_there log blocks bytes h.0 c w h.2 whole batches was)
  ],
)

pub synced : (log : LogState) (blocks : ℕ) (bytes : List ℕ) (before : Image → Type 0) (c : Image) → IsWaiting log blocks bytes
    → WasWritten (log.first + log.place) blocks bytes before c → IsSynced log before c
synced log blocks bytes before c w h = (h.0, h.1, half_outside log blocks bytes h.0 c w h.2, all_there log blocks bytes h.0 c w h.2 h.3)

-- with nothing waiting all is there already
pub synced_idle : (log : LogState) (before : Image → Type 0) (c : Image) → log.waiting ≡ [] → before c → IsSynced log before c
synced_idle log before c none was = (
  c,
  was,
  same_same (IsInRange log.first (log.first + 64)) c,
  λ batches there.
      subst (λ rs. AreBatches c log.first log.epoch (batches ++ batches_of (log.first + log.place + 1) rs) (place_after log.place rs)) (sym none)
      (subst (λ bs. AreBatches c log.first log.epoch bs log.place) (sym (append-nil batches)) there),
)

-- the log after it
pub after_some : (log : LogState) (blocks : ℕ) (bytes : List ℕ) → IsWaiting log blocks bytes
    → record { first = log.first; epoch = log.epoch; place = log.place + (1 + blocks); waiting = []; batches = log.batches } ≡ after_sync log
after_some log blocks bytes w =
    let place : log.place + (1 + blocks) ≡ log.place + 1 + body_blocks log.waiting = omega (arith, w.size) in
    let LogAt : ℕ → LogState = λ n. record { first = log.first; epoch = log.epoch; place = n; waiting = []; batches = log.batches } in
    ap LogAt (place ∙ sym (some_waiting (log.first + log.place + 1) log.place log.waiting w.some).1)

-- nothing waits only where nothing is counted
pub none_counted : {A : Type 0} (count : ℕ) (bytes : List ℕ) → ¬ (count ≡ 0) → records_in count bytes ≡ [] → A
none_counted count bytes some none = absurd (some (sym (length-records_in count bytes) ∙ ap length none))
