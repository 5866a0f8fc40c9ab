-- What is known is handed on over reads, and from one call to the next.
use Rattle.std.proofs.Common.{◌≡◌, ℕ, ◌≤◌, inl, inr, Option, IfSome, Result, Ok, Err, OnOk, sym, subst, ◌∙◌}
use Rattle.std.specs.Prelude.{IsSomeAnd}
use Rattle.bd_model.specs.Tree.{Tree}
use Rattle.bd_device.specs.Blocks.{Image}
use Rattle.bd_device.specs.Device.{left_now, OnlyReads}
use Rattle.bd_device.specs.Moments.{Nothing}
use Rattle.bd_device.specs.declared.device.Device.{Ghosts}
use Rattle.bd_device.proofs.Moments.{after}
use Rattle.bd_super.specs.Live.{IsLive}
use Rattle.bd_super.specs.Published.{SameSuperblocks}
use Rattle.bd_super.specs.declared.superblock.Super.{Super}
use Rattle.bd_log.specs.Logs.{LogState}
use Rattle.bd_image.specs.Standing.{IsOldOrNew}
use Rattle.bd_checkpoint.specs.Kept.{Saved, IsOpen, IsOpenOn, AllAsBefore}

-- the moments since a call are among those since an earlier one
abbrev pub IsSince : {D : Type 0} → Ghosts D → D → Type 0
IsSince g d = (t u : ℕ) (c : Image) → t ≤ u → g.left_since d u c → g.left_since d t c

open_read : (known now : Option Image) (before left : Image → Type 0) (count total : ℕ) (live : Super) (saved : Saved) (log : LogState) → IsOpen known before count live saved log
    → now ≡ known → total ≡ count → ((c : Image) → left c → before c) → IsOpen now left total live saved log
open_read known now before left count total live saved log given same same_count back = record {
  fits = given.fits;
  size = same_count ∙ given.size;
  live_is = subst (λ (o : Option Image). IfSome o (λ image. IsLive image live)) (sym same) given.live_is;
  settled = λ c was. subst (λ (o : Option Image). IsSomeAnd o (λ image. SameSuperblocks image c)) (sym same) (given.settled c (back c was));
  each = λ c was. given.each c (back c was);
  at = given.at;
  log_is = given.log_is;
}

-- over reads of a device
module _ {D : Type 0} (g : Ghosts D) (old new : D) (earlier : IsSince g new) (reads : OnlyReads g old new) where
  back : (c : Image) → left_now g new c → left_now g old c
  back = after Nothing (left_now g old) reads.time earlier (λ image is. is) (λ image none. absurd none)

  pub open_after : (live : Super) (saved : Saved) (log : LogState) → IsOpenOn g old live saved log → IsOpenOn g new live saved log
  open_after live saved log given =
      open_read (g.contents old) (g.contents new) (left_now g old) (left_now g new) (g.block_count old) (g.block_count new) live saved log given reads.kept reads.count back

  pub all_after : AllAsBefore (left_now g old) (left_now g new)
  all_after = λ c is. (c, back c is, λ tree count stands. stands)

-- as one of the middle, and so as one of before
pub before_twice : (before middle left : Image → Type 0) → AllAsBefore before middle → AllAsBefore middle left → AllAsBefore before left
before_twice before middle left first last = λ c is.
    let m = last c is in
    let b = first m.0 m.1 in
    (b.0, b.1, λ tree count stands. m.2 tree count (b.2 tree count stands))

pub from_before : (before middle : Image → Type 0) (tree : Tree) (count : ℕ) → AllAsBefore before middle → (c : Image) → IsOldOrNew middle tree count c → IsOldOrNew before tree count c
from_before before middle tree count all c (inl is) =
    let one = all is.0 is.1 in
    inl (one.0, one.1, λ t n stands. is.2 t n (one.2 t n stands))
from_before before middle tree count all c (inr new) = inr new

-- what follows from two clauses at Ok
pub both_ok : {T E P Q R : Type 0} (r : Result T E) → (P → Q → R) → OnOk r P → OnOk r Q → OnOk r R
both_ok (Ok x) f p q = f p q
both_ok (Err e) f p q = tt
