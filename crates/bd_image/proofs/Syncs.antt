-- An image whose log has more batches stands for the tree that their records lead to.
use Rattle.std.proofs.Common.{◌≡◌, ℕ, ◌+◌, ◌≤◌, ◌⊎◌, inl, inr, List, [], ◌∷◌, ◌++◌, length, refl, sym, ap, subst, ◌∙◌, arith, append-nil, length-append}
use Rattle.std.proofs.lemmas.List.Concat.{flat_map-append}
use Rattle.bd_model.specs.Tree.{Tree}
use Rattle.bd_device.specs.Blocks.{Image}
use Rattle.bd_device.specs.Changes.{SameBut, IsInRange}
use Rattle.bd_table.specs.declared.table.Table.{Table as StoredTable}
use Rattle.bd_super.specs.Superblocks.{log_block}
use Rattle.bd_super.specs.Live.{IsLive}
use Rattle.bd_super.specs.Published.{SameSuperblocks}
use Rattle.bd_super.specs.declared.superblock.Half.{Half}
use Rattle.bd_super.specs.declared.superblock.Half.TheVariants.{A, B}
use Rattle.bd_super.specs.declared.superblock.Super.{Super}
use Rattle.bd_super.proofs.LiveLemmas.{same_halves, same_superblocks}
use Rattle.bd_log.specs.Batches.{AreBatches}
use Rattle.bd_log.specs.Logs.{LogState, batches_of, place_after, HasAll, HasAllOrNone}
use Rattle.bd_log.specs.declared.batch.Batch.{Batch}
use Rattle.bd_image.specs.Versions.{version_of}
use Rattle.bd_image.specs.ImageTree.{LeadsOn, records_of, HasTree}
use Rattle.bd_image.specs.Used.{used_slots, SameSlots}
use Rattle.bd_image.specs.Synced.{IsLogOf, HasTreeAfter}
use Rattle.bd_image.proofs.Frame.{table_same, nodes_same}
use Rattle.bd_image.proofs.Leading.{leads_more}

-- ---- what a change of the log leaves

pub half_place : (half : Half) → (4 ≤ log_block half) × (log_block half + 64 ≤ 132)
half_place A = (omega arith, omega arith)
half_place B = (omega arith, omega arith)

-- the blocks of a half of the log change
abbrev pub SameButLog : Half → Image → Image → Type 0
SameButLog half = SameBut (IsInRange (log_block half) (log_block half + 64))

pub live_stays : (half : Half) (s : Super) (old new : Image) → SameButLog half old new → IsLive old s → IsLive new s
live_stays half s old new same live =
    let at = half_place half in
    let supers : SameSuperblocks old new = record { size = same.size; blocks = λ b low. same.others b (λ range. omega (arith, low, at.0, range.0)) } in
    (same_halves old new (same_superblocks old new supers) s).0 live

pub slots_stay : (half : Half) (slots : List ℕ) (old new : Image) → SameButLog half old new → SameSlots slots old new
slots_stay half slots old new same b own =
    let at = half_place half in
    same.others b (λ range. omega (arith, at.1, range.1, own.4.0))

-- ---- more batches

-- the same superblock, table and nodes, with these batches, whose records lead on
with_batches : (s : Super) (t : StoredTable) (place end : ℕ) (tree last : Tree) (count number : ℕ) (old new : Image) (batches : List Batch) → SameButLog s.half old new
    → (h : HasTree s t place tree count old) → AreBatches new (log_block s.half) s.epoch batches end
    → LeadsOn (version_of s) (records_of batches) h.base last → number ≡ s.count + length (records_of batches) → HasTree s t end last number new
with_batches s t place end tree last count number old new batches same h logged leads count_is =
    let slots : SameSlots (used_slots s.table t) old new = slots_stay s.half (used_slots s.table t) old new same in
    record {
      nodes = h.nodes;
      base = h.base;
      batches = batches;
      starts = record {
        live = live_stays s.half s old new same h.starts.live;
        table = table_same s.slots s.table t old new slots h.starts.table;
        stored = nodes_same s.table t h.nodes old new same.size slots h.starts.stored;
      };
      have = h.have;
      logged = logged;
      leads = leads;
      count_is = count_is;
    }

with_more : (s : Super) (t : StoredTable) (place end : ℕ) (tree last : Tree) (count : ℕ) (old new : Image) (more : List Batch) (rs : List (List ℕ)) → records_of more ≡ rs → SameButLog s.half old new
    → (h : HasTree s t place tree count old) → AreBatches new (log_block s.half) s.epoch (h.batches ++ more) end
    → LeadsOn (version_of s) rs tree last → HasTree s t end last (count + length rs) new
with_more s t place end tree last count old new more rs is same h logged leads =
    let split : records_of (h.batches ++ more) ≡ records_of h.batches ++ rs = flat_map-append (λ (b : Batch). b.records) h.batches more ∙ ap (λ qs. records_of h.batches ++ qs) is in
    let way : LeadsOn (version_of s) (records_of h.batches ++ rs) h.base last = leads_more (version_of s) (records_of h.batches) rs h.base tree last h.leads leads in
    let long : length (records_of (h.batches ++ more)) ≡ length (records_of h.batches) + length rs = ap length split ∙ length-append (records_of h.batches) rs in
    with_batches s t place end tree last count (count + length rs) old new (h.batches ++ more) same h logged
    (subst (λ (qs : List (List ℕ)). LeadsOn (version_of s) qs h.base last) (sym split) way) (omega (arith, h.count_is, long))

-- ---- a sync

-- the records of the batch that waits are those that wait
waiting_records : (body : ℕ) (rs : List (List ℕ)) → records_of (batches_of body rs) ≡ rs
waiting_records body [] = refl
waiting_records body (r ∷ rs) = append-nil (r ∷ rs)

-- batches of the log are those of the superblock's half and epoch
pub of_super : (s : Super) (log : LogState) (image : Image) (batches : List Batch) (end : ℕ) → IsLogOf s log → AreBatches image log.first log.epoch batches end → AreBatches image (log_block s.half) s.epoch batches end
of_super s log image batches end of h =
    subst (λ (e : ℕ). AreBatches image (log_block s.half) e batches end) of.epoch (subst (λ (f : ℕ). AreBatches image f log.epoch batches end) of.first h)

pub of_log : (s : Super) (log : LogState) (image : Image) (batches : List Batch) (end : ℕ) → IsLogOf s log → AreBatches image (log_block s.half) s.epoch batches end → AreBatches image log.first log.epoch batches end
of_log s log image batches end of h =
    subst (λ (e : ℕ). AreBatches image log.first e batches end) (sym of.epoch) (subst (λ (f : ℕ). AreBatches image f s.epoch batches end) (sym of.first) h)

pub in_half : (s : Super) (log : LogState) (old new : Image) → IsLogOf s log → SameBut (IsInRange log.first (log.first + 64)) old new → SameButLog s.half old new
in_half s log old new of same = subst (λ (f : ℕ). SameBut (IsInRange f (f + 64)) old new) of.first same

-- all that waited is there
all_there : (s : Super) (t : StoredTable) (log : LogState) (tree : Tree) (count : ℕ) (old new : Image) → IsLogOf s log → SameBut (IsInRange log.first (log.first + 64)) old new
    → (h : HasTree s t log.place tree count old) → AreBatches new log.first log.epoch (h.batches ++ batches_of (log.first + log.place + 1) log.waiting) (place_after log.place log.waiting)
    → HasTreeAfter log.waiting s t (place_after log.place log.waiting) tree count new
all_there s t log tree count old new of same h logged last leads =
    let body : ℕ = log.first + log.place + 1 in
    let end : ℕ = place_after log.place log.waiting in
    with_more s t log.place end tree last count old new (batches_of body log.waiting) log.waiting (waiting_records body log.waiting) (in_half s log old new of same) h
    (of_super s log new (h.batches ++ batches_of body log.waiting) end of logged) leads

pub synced : (s : Super) (t : StoredTable) (log : LogState) (tree : Tree) (count : ℕ) (old new : Image) → IsLogOf s log → SameBut (IsInRange log.first (log.first + 64)) old new → HasAll log old new
    → HasTree s t log.place tree count old → HasTreeAfter log.waiting s t (place_after log.place log.waiting) tree count new
synced s t log tree count old new of same all h = all_there s t log tree count old new of same h (all h.batches (of_log s log old h.batches log.place of h.logged))

pub syncing : (s : Super) (t : StoredTable) (log : LogState) (tree : Tree) (count : ℕ) (old new : Image) → IsLogOf s log → SameBut (IsInRange log.first (log.first + 64)) old new → HasAllOrNone log old new
    → HasTree s t log.place tree count old → HasTree s t log.place tree count new ⊎ HasTreeAfter log.waiting s t (place_after log.place log.waiting) tree count new
syncing s t log tree count old new of same either h = elim (either h.batches (of_log s log old h.batches log.place of h.logged)) [
  | inl none ↦ inl (with_batches s t log.place log.place tree tree count count old new h.batches (in_half s log old new of same) h (of_super s log new h.batches log.place of none) h.leads h.count_is)
  | inr all ↦ inr (all_there s t log tree count old new of same h all)
]
