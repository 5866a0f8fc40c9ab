-- What is known where slots are written that the last checkpoint doesn't hold.
use Rattle.std.proofs.Common.{◌≡◌, ℕ, ◌<◌, inl, inr, Bool, true, List, Option, None, Some, IfSome, refl, sym, ap, subst, ◌∙◌, arith}
use Rattle.std.specs.Prelude.{IsSomeAnd, slice_index}
use Rattle.std.proofs.lemmas.Option.{slice_get_within}
use Rattle.bd_device.specs.Blocks.{Image}
use Rattle.bd_device.specs.Changes.{SameBut, StaysBut, IsBeforeBut}
use Rattle.bd_device.specs.Commits.{block_at, IsCommitted}
use Rattle.bd_device.specs.Device.{left_now, Goes}
use Rattle.bd_device.specs.declared.device.Device.{Ghosts}
use Rattle.bd_device.proofs.Moments.{within, after}
use Rattle.bd_table.specs.Tables.{AreFreeSlots}
use Rattle.bd_super.specs.Superblocks.{log_block}
use Rattle.bd_super.specs.Live.{IsLive, NoneIsCommitted}
use Rattle.bd_super.specs.Published.{SameSuperblocks, AreSettled}
use Rattle.bd_super.specs.declared.superblock.Half.{Half}
use Rattle.bd_super.specs.declared.superblock.Super.{Super}
use Rattle.bd_super.proofs.LiveLemmas.{same_halves, same_superblocks}
use Rattle.bd_log.specs.Logs.{LogState}
use Rattle.bd_pager.specs.Slots.{IsSpare}
use Rattle.bd_image.specs.Standing.{StandsAs, IsAsBefore}
use Rattle.bd_image.specs.Used.{used_slots, IsOfSlots, SameSlots, SameUsed}
use Rattle.bd_image.proofs.Frame.{SameHalf, batches_same, table_same, tree_same}
use Rattle.bd_image.proofs.Syncs.{half_place}
use Rattle.bd_checkpoint.specs.Kept.{Saved, slots_held, StartsAs, IsOpen, IsOpenOn, AllAsBefore}
use Rattle.bd_checkpoint.specs.Spare.{WritesSpare}
use Rattle.bd_checkpoint.proofs.Handed.{IsSince}
use Rattle.bd_checkpoint.proofs.Starting.{PartsAreOne, recovered}

-- ---- what isn't spare

-- no block before the slots
not_low : (spare : List Bool) (b : ℕ) → b < 132 → ¬ IsSpare spare b
not_low spare b low is = omega (arith, low, is.2.0)

-- no block of a slot that is held
pub not_held : (slots : ℕ) (held : List ℕ) (spare : List Bool) (b : ℕ) → AreFreeSlots slots held spare → IsOfSlots held b → ¬ IsSpare spare b
not_held slots held spare b free own is =
    let one : own.1 ≡ is.0 = omega (arith, own.4.0, own.4.1, is.2.0, is.2.1) in
    let within : is.0 < slots = omega (arith, free.count, slice_get_within spare is.0 true is.1) in
    (free.free is.0 within).0 is.1 own.0 own.1 own.2 (own.3 ∙ one)

-- ---- the parts of an image

abbrev SameLow : Image → Image → Type 0
SameLow old new = (b : ℕ) → b < 132 → block_at new b ≡ block_at old b

low_same : (spare : List Bool) (old new : Image) → SameBut (IsSpare spare) old new → SameLow old new
low_same spare old new same b low = same.others b (not_low spare b low)

supers_same : (spare : List Bool) (old new : Image) → SameBut (IsSpare spare) old new → SameSuperblocks old new
supers_same spare old new same = record { size = same.size; blocks = λ b low. low_same spare old new same b (omega (arith, low)) }

live_same : (spare : List Bool) (s : Super) (old new : Image) → SameBut (IsSpare spare) old new → IsLive old s → IsLive new s
live_same spare s old new same = (same_halves old new (same_superblocks old new (supers_same spare old new same)) s).0

half_same : (half : Half) (spare : List Bool) (old new : Image) → SameBut (IsSpare spare) old new → SameHalf (log_block half) old new
half_same half spare old new same = λ b own. low_same spare old new same b (omega (arith, own.1, (half_place half).1))

-- the slots of the last checkpoint
slots_same : (live : Super) (saved : Saved) (spare : List Bool) (old new : Image) → saved.at ≡ live.table → AreFreeSlots live.slots (slots_held saved) spare → SameBut (IsSpare spare) old new
    → SameSlots (used_slots live.table saved.table) old new
slots_same live saved spare old new at free same =
    subst (λ (l : List ℕ). SameSlots (used_slots l saved.table) old new) at (λ b own. same.others b (not_held live.slots (slots_held saved) spare b free own))

-- ---- what is known

starts_spare : (live : Super) (saved : Saved) (place : ℕ) (spare : List Bool) (old new : Image) → saved.at ≡ live.table → AreFreeSlots live.slots (slots_held saved) spare → SameBut (IsSpare spare) old new
    → StartsAs live saved place old → StartsAs live saved place new
starts_spare live saved place spare old new at free same starts = record {
  live_is = live_same spare live old new same starts.live_is;
  table_is = table_same live.slots live.table saved.table old new (slots_same live saved spare old new at free same) starts.table_is;
  batches = starts.batches;
  batches_are = batches_same (log_block live.half) live.epoch old new starts.batches place same.size (half_same live.half spare old new same) starts.batches_are;
}

-- such an image stands for all that it stood for before
stands_spare : PartsAreOne → (live : Super) (saved : Saved) (place : ℕ) (spare : List Bool) (old new : Image) → saved.at ≡ live.table → AreFreeSlots live.slots (slots_held saved) spare
    → SameBut (IsSpare spare) old new → StartsAs live saved place old → StandsAs old new
stands_spare one live saved place spare old new at free same starts = λ tree count stands.
    let log = half_place live.half in
    let slots : SameSlots (used_slots live.table saved.table) old new = slots_same live saved spare old new at free same in
    let used : SameUsed live saved.table old new = λ b is. elim is [
      | inl own ↦ low_same spare old new same b (omega (arith, log.1, own.1))
      | inr own ↦ slots b own
    ] in
    (live, saved.table, place, tree_same live saved.table place tree count old new used (live_same spare live old new same starts.live_is) (recovered one live saved place old tree count starts stands))

as_before_spare : PartsAreOne → (known : Option Image) (before : Image → Type 0) (count : ℕ) (live : Super) (saved : Saved) (log : LogState) (spare : List Bool) → IsOpen known before count live saved log
    → AreFreeSlots live.slots (slots_held saved) spare → (c : Image) → IsBeforeBut (IsSpare spare) before c → IsAsBefore before c
as_before_spare one known before count live saved log spare given free c (d, was, same) =
    (d, was, stands_spare one live saved log.place spare d c given.at free same (given.each d was))

live_known : (spare : List Bool) (live : Super) (known now : Option Image) → StaysBut (IsSpare spare) known now → IfSome known (λ image. IsLive image live) → IfSome now (λ image. IsLive image live)
live_known spare live None None same is = tt
live_known spare live (Some old) (Some new) same is = live_same spare live old new same is
live_known spare live None (Some new) same is = absurd same
live_known spare live (Some old) None same is = absurd same

settled_known : (spare : List Bool) (known now : Option Image) (d c : Image) → StaysBut (IsSpare spare) known now → SameBut (IsSpare spare) d c → IsSomeAnd known (λ image. SameSuperblocks image d)
    → IsSomeAnd now (λ image. SameSuperblocks image c)
settled_known spare None now d c stays same is = absurd is
settled_known spare (Some old) None d c stays same is = absurd stays
settled_known spare (Some old) (Some new) d c stays same is =
    let mine : SameSuperblocks d c = supers_same spare d c same in
    let theirs : SameSuperblocks old new = supers_same spare old new stays in
    record {
      size = mine.size ∙ is.size ∙ sym theirs.size;
      blocks = λ b low. mine.blocks b low ∙ is.blocks b low ∙ sym (theirs.blocks b low);
    }

settled_spare : (known now : Option Image) (before left : Image → Type 0) (spare : List Bool) → AreSettled known before → StaysBut (IsSpare spare) known now → ((c : Image) → left c → IsBeforeBut (IsSpare spare) before c)
    → AreSettled now left
settled_spare known now before left spare settled stays after = λ c is.
    let (d, was, same) = after c is in
    settled_known spare known now d c stays same (settled d was)

open_spare : (known now : Option Image) (before left : Image → Type 0) (count total : ℕ) (live : Super) (saved : Saved) (log : LogState) (spare : List Bool) → IsOpen known before count live saved log
    → AreFreeSlots live.slots (slots_held saved) spare → total ≡ count → StaysBut (IsSpare spare) known now → ((c : Image) → left c → IsBeforeBut (IsSpare spare) before c)
    → IsOpen now left total live saved log
open_spare known now before left count total live saved log spare given free same_count stays after = record {
  fits = given.fits;
  size = same_count ∙ given.size;
  live_is = live_known spare live known now stays given.live_is;
  settled = settled_spare known now before left spare given.settled stays after;
  each = λ c is. let (d, was, same) = after c is in starts_spare live saved log.place spare d c given.at free same (given.each d was);
  at = given.at;
  log_is = given.log_is;
}

-- an image of before is one in which nothing changed
unchanged : (spare : List Bool) (before : Image → Type 0) (c : Image) → before c → IsBeforeBut (IsSpare spare) before c
unchanged spare before c was = (c, was, record { size = refl; others = λ b out. refl })

-- no superblock is committed
closed_same : (spare : List Bool) (old new : Image) (b : ℕ) → b < 132 → SameBut (IsSpare spare) old new → ¬ IsCommitted old b → ¬ IsCommitted new b
closed_same spare old new b low same closed = λ on. closed (ap (λ (l : List ℕ). slice_index l 0) (sym (low_same spare old new same b low)) ∙ on)

pub none_spare : (spare : List Bool) (known now : Option Image) → StaysBut (IsSpare spare) known now → IfSome known NoneIsCommitted → IfSome now NoneIsCommitted
none_spare spare None None same none = tt
none_spare spare (Some old) (Some new) same none = (closed_same spare old new 0 (omega arith) same none.0, closed_same spare old new 2 (omega arith) same none.1)
none_spare spare None (Some new) same none = absurd same
none_spare spare (Some old) None same none = absurd same

-- ---- over a device

module _ {D : Type 0} (g : Ghosts D) (old new : D) (earlier : IsSince g new) (spare : List Bool) (writes : WritesSpare g old new spare) where
  left : (c : Image) → left_now g new c → IsBeforeBut (IsSpare spare) (left_now g old) c
  left = after (IsBeforeBut (IsSpare spare) (left_now g old)) (IsBeforeBut (IsSpare spare) (left_now g old)) writes.time earlier (unchanged spare (left_now g old)) (λ c was. was)

  pub settled_on : AreSettled (g.contents old) (left_now g old) → AreSettled (g.contents new) (left_now g new)
  settled_on settled = settled_spare (g.contents old) (g.contents new) (left_now g old) (left_now g new) spare settled writes.elsewhere left

  module _ (one : PartsAreOne) (live : Super) (saved : Saved) (log : LogState) (given : IsOpenOn g old live saved log) (free : AreFreeSlots live.slots (slots_held saved) spare) where
    inside : (c : Image) → IsBeforeBut (IsSpare spare) (left_now g old) c → IsAsBefore (left_now g old) c
    inside = as_before_spare one (g.contents old) (left_now g old) (g.block_count old) live saved log spare given free

    pub open_on : IsOpenOn g new live saved log
    open_on = open_spare (g.contents old) (g.contents new) (left_now g old) (left_now g new) (g.block_count old) (g.block_count new) live saved log spare given free writes.count writes.elsewhere left

    pub time_on : Goes g old new (IsAsBefore (left_now g old))
    time_on = within (IsBeforeBut (IsSpare spare) (left_now g old)) (IsAsBefore (left_now g old)) writes.time inside

    pub kept_on : AllAsBefore (left_now g old) (left_now g new)
    kept_on = λ c is. inside c (left c is)
