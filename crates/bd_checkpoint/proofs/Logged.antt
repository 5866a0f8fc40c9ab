-- What is known inside a sync and after it.
use Rattle.std.proofs.Common.{◌≡◌, ℕ, ◌+◌, ◌<◌, inl, inr, List, [], ◌++◌, length, Option, None, Some, IfSome, refl, sym, subst, ◌∙◌, arith, append-nil}
use Rattle.std.specs.Prelude.{IsSomeAnd}
use Rattle.bd_model.specs.Tree.{Tree}
use Rattle.bd_device.specs.Blocks.{Image}
use Rattle.bd_device.specs.Changes.{SameBut, StaysBut, IsInRange}
use Rattle.bd_super.specs.Superblocks.{log_block}
use Rattle.bd_super.specs.Live.{IsLive}
use Rattle.bd_super.specs.Published.{SameSuperblocks}
use Rattle.bd_super.specs.declared.superblock.Half.{Half}
use Rattle.bd_super.specs.declared.superblock.Super.{Super}
use Rattle.bd_log.specs.Batches.{AreBatches}
use Rattle.bd_log.specs.Logs.{LogState, batches_of, place_after, after_sync, HasAll, IsSyncing, IsSynced}
use Rattle.bd_log.specs.declared.batch.Batch.{Batch}
use Rattle.bd_image.specs.Versions.{version_of}
use Rattle.bd_image.specs.ImageTree.{LeadsOn, HasTree, ImageStandsFor}
use Rattle.bd_image.specs.Standing.{StandsAs}
use Rattle.bd_image.specs.Synced.{IsLogOf}
use Rattle.bd_image.specs.Used.{used_slots}
use Rattle.bd_image.proofs.Frame.{table_same}
use Rattle.bd_image.proofs.Syncs.{SameButLog, half_place, live_stays, slots_stay, of_super, of_log, in_half, synced}
use Rattle.bd_checkpoint.specs.Kept.{Saved, StartsAs, IsOpen, IsWithWaiting, IsWithAllOrNone}
use Rattle.bd_checkpoint.proofs.Starting.{PartsAreOne, recovered}

-- ---- which batches an image has

-- no others are open in it
only_these : PartsAreOne → (live : Super) (saved : Saved) (log : LogState) (image : Image) → IsLogOf live log → (starts : StartsAs live saved log.place image)
    → (batches : List Batch) → AreBatches image log.first log.epoch batches log.place → starts.batches ≡ batches
only_these one live saved log image of starts batches h =
    (one.batches image (log_block live.half) live.epoch starts.batches batches log.place log.place starts.live_is.held.fits.last_epoch starts.batches_are (of_super live log image batches log.place of h)).0

-- those of before are there, with all that waited
all_known : PartsAreOne → (live : Super) (saved : Saved) (log : LogState) (old new : Image) → IsLogOf live log → (starts : StartsAs live saved log.place old)
    → AreBatches new log.first log.epoch (starts.batches ++ batches_of (log.first + log.place + 1) log.waiting) (place_after log.place log.waiting) → HasAll log old new
all_known one live saved log old new of starts all = λ batches h.
    subst (λ (bs : List Batch). AreBatches new log.first log.epoch (bs ++ batches_of (log.first + log.place + 1) log.waiting) (place_after log.place log.waiting))
    (only_these one live saved log old of starts batches h) all

-- the log with nothing waiting
abbrev emptied : LogState → LogState
emptied log = record log { waiting = [] }

-- those of before alone are there
none_known : PartsAreOne → (live : Super) (saved : Saved) (log : LogState) (old new : Image) → IsLogOf live log → (starts : StartsAs live saved log.place old)
    → AreBatches new log.first log.epoch starts.batches log.place → HasAll (emptied log) old new
none_known one live saved log old new of starts none = λ batches h.
    subst (λ (bs : List Batch). AreBatches new log.first log.epoch bs log.place) (only_these one live saved log old of starts batches h ∙ sym (append-nil batches)) none

-- ---- what it stands for

-- with the batches of before it stands for what it stood for
as_before : PartsAreOne → (live : Super) (saved : Saved) (log : LogState) (old new : Image) → IsLogOf live log → SameBut (IsInRange log.first (log.first + 64)) old new
    → (starts : StartsAs live saved log.place old) → AreBatches new log.first log.epoch starts.batches log.place → StandsAs old new
as_before one live saved log old new of same starts none = λ tree count stands.
    let h : HasTree live saved.table log.place tree count old = recovered one live saved log.place old tree count starts stands in
    let of_emptied : IsLogOf live (emptied log) = record { first = of.first; epoch = of.epoch } in
    let still : HasTree live saved.table log.place tree (count + 0) new =
    synced live saved.table (emptied log) tree count old new of_emptied same (none_known one live saved log old new of starts none) h tree refl in
    let number : count + 0 ≡ count = omega arith in
    (live, saved.table, log.place, subst (λ (n : ℕ). HasTree live saved.table log.place tree n new) number still)

-- with all that waited it stands for what their records lead to
with_all : PartsAreOne → (live : Super) (saved : Saved) (log : LogState) (old new : Image) → IsLogOf live log → SameBut (IsInRange log.first (log.first + 64)) old new
    → StartsAs live saved log.place old → HasAll log old new
    → (tree last : Tree) (count : ℕ) → ImageStandsFor tree count old → LeadsOn (version_of live) log.waiting tree last → ImageStandsFor last (count + length log.waiting) new
with_all one live saved log old new of same starts all tree last count stands leads =
    let h : HasTree live saved.table log.place tree count old = recovered one live saved log.place old tree count starts stands in
    (live, saved.table, place_after log.place log.waiting, synced live saved.table log tree count old new of same all h last leads)

-- after a sync
pub with_waiting : PartsAreOne → (known : Option Image) (before : Image → Type 0) (count : ℕ) (live : Super) (saved : Saved) (log : LogState) → IsOpen known before count live saved log
    → (c : Image) → IsSynced log before c → IsWithWaiting live log before c
with_waiting one known before count live saved log given c (d, was, same, all) =
    (d, was, with_all one live saved log d c given.log_is same (given.each d was) all)

-- inside a sync
pub with_all_or_none : PartsAreOne → (known : Option Image) (before : Image → Type 0) (count : ℕ) (live : Super) (saved : Saved) (log : LogState) → IsOpen known before count live saved log
    → (c : Image) → IsSyncing log before c → IsWithAllOrNone live log before c
with_all_or_none one known before count live saved log given c (d, was, same, either) =
    let starts = given.each d was in
    elim (either starts.batches (of_log live log d starts.batches log.place given.log_is starts.batches_are)) [
      | inl none ↦ inl (d, was, as_before one live saved log d c given.log_is same starts none)
      | inr all ↦ inr (d, was, with_all one live saved log d c given.log_is same starts (all_known one live saved log d c given.log_is starts all))
    ]

-- ---- what stays known

abbrev OfLog : Half → ℕ → Type 0
OfLog half = IsInRange (log_block half) (log_block half + 64)

-- the superblocks are no blocks of the log
not_of_log : (half : Half) (b : ℕ) → b < 4 → ¬ OfLog half b
not_of_log half b low range = omega (arith, low, (half_place half).0, range.0)

live_known : (live : Super) (known now : Option Image) → StaysBut (OfLog live.half) known now → IfSome known (λ image. IsLive image live) → IfSome now (λ image. IsLive image live)
live_known live None None same is = tt
live_known live (Some old) (Some new) same is = live_stays live.half live old new same is
live_known live None (Some new) same is = absurd same
live_known live (Some old) None same is = absurd same

settled_known : (half : Half) (known now : Option Image) (d c : Image) → StaysBut (OfLog half) known now → SameButLog half d c → IsSomeAnd known (λ image. SameSuperblocks image d)
    → IsSomeAnd now (λ image. SameSuperblocks image c)
settled_known half None now d c stays same is = absurd is
settled_known half (Some old) None d c stays same is = absurd stays
settled_known half (Some old) (Some new) d c stays same is = record {
  size = same.size ∙ is.size ∙ sym stays.size;
  blocks = λ b low. same.others b (not_of_log half b low) ∙ is.blocks b low ∙ sym (stays.others b (not_of_log half b low));
}

-- an image after a sync starts as before it, and has more batches
starts_known : (live : Super) (saved : Saved) (log : LogState) (old new : Image) → IsLogOf live log → SameButLog live.half old new → StartsAs live saved log.place old → HasAll log old new
    → StartsAs live saved (place_after log.place log.waiting) new
starts_known live saved log old new of same starts all =
    let batches : List Batch = starts.batches ++ batches_of (log.first + log.place + 1) log.waiting in
    record {
      live_is = live_stays live.half live old new same starts.live_is;
      table_is = table_same live.slots live.table saved.table old new (slots_stay live.half (used_slots live.table saved.table) old new same) starts.table_is;
      batches = batches;
      batches_are = of_super live log new batches (place_after log.place log.waiting) of (all starts.batches (of_log live log old starts.batches log.place of starts.batches_are));
    }

-- after a sync the same is known
pub open_synced : (known now : Option Image) (before left : Image → Type 0) (count total : ℕ) (live : Super) (saved : Saved) (log : LogState) → IsOpen known before count live saved log
    → total ≡ count → StaysBut (IsInRange log.first (log.first + 64)) known now → ((c : Image) → left c → IsSynced log before c)
    → IsOpen now left total live saved (after_sync log)
open_synced known now before left count total live saved log given same_count outside after =
    let of = given.log_is in
    let stays : StaysBut (OfLog live.half) known now = subst (λ (f : ℕ). StaysBut (IsInRange f (f + 64)) known now) of.first outside in
    record {
      fits = given.fits;
      size = same_count ∙ given.size;
      live_is = live_known live known now stays given.live_is;
      settled = λ c is.
          let (d, was, same, all) = after c is in
          settled_known live.half known now d c stays (in_half live log d c of same) (given.settled d was);
      each = λ c is.
          let (d, was, same, all) = after c is in
          starts_known live saved log d c of (in_half live log d c of same) (given.each d was) all;
      at = given.at;
      log_is = record { first = of.first; epoch = of.epoch };
    }

-- ---- records that wait

pub open_waiting : (known : Option Image) (left : Image → Type 0) (count : ℕ) (live : Super) (saved : Saved) (log : LogState) (waiting : List (List ℕ)) → IsOpen known left count live saved log
    → IsOpen known left count live saved (record log { waiting = waiting })
open_waiting known left count live saved log waiting given = record {
  fits = given.fits;
  size = given.size;
  live_is = given.live_is;
  settled = given.settled;
  each = given.each;
  at = given.at;
  log_is = record { first = given.log_is.first; epoch = given.log_is.epoch };
}
