-- Copies of blocks, and what writes of them leave.
use Rattle.std.proofs.Common.{◌≡◌, ℕ, ◌+◌, ◌<◌, ◌≤◌, List, [], ◌∷◌, ◌++◌, length, take, refl, sym, ap, subst, ◌∙◌, arith, Option, None, Some, IfSome, Bool, true, false, Result, Ok, Err, OnOk, OnErr, inl, add-one}
use Rattle.std.specs.Prelude.{is_ok, is_err, slice_get, slice_set, slice_index, ◌==◌}
use Rattle.std.proofs.lemmas.Bool.{false≢true}
use Rattle.std.proofs.lemmas.List.{take_more_set, length-set}
use Rattle.std.proofs.lemmas.Option.{slice_get_within, get_or_from_slice_get}
use Rattle.std.proofs.Math.Seq.{take-suc}
use Rattle.bd_device.specs.Blocks.{Image, HasBlocks, with_block}
use Rattle.bd_device.specs.Changes.{SameBut, StaysBut, IsBeforeBut, IsInRange}
use Rattle.bd_device.specs.Device.{left_now, OnlyReads, Stays}
use Rattle.bd_device.specs.Moments.{Elapses, Nothing, IsOnly}
use Rattle.bd_device.specs.declared.device.Device.{Ghosts}
use Rattle.bd_device.proofs.Changes.{before_now}
use Rattle.bd_device.proofs.Moments.{after}
use Rattle.bd_mirror.specs.Contents.{is_open_at, IsCopy}
use Rattle.bd_mirror.proofs.Marks.{take_but_mark}

-- ---- no call

pub elapses_none : (n : ℕ) (left : ℕ → Image → Type 0) (I : Image → Type 0) → Elapses n n left left I
elapses_none n left I = record { later = omega arith; keeps = λ t c le was. was; adds = λ t c le was. inl was }

pub reads_none : {D : Type 0} (g : Ghosts D) (d : D) → OnlyReads g d d
reads_none g d = record {
  kept = refl;
  count = refl;
  write_faults = refl;
  time = elapses_none (g.call_count d) (g.left_since d) Nothing;
  same_name = λ name was. was;
  same_loans = refl;
}

pub stays_none : {D : Type 0} (g : Ghosts D) (d : D) → Stays g d d
stays_none g d = record { count = refl; same_name = λ name was. was; same_loans = refl }

-- ---- results

-- what holds at Ok holds where it isn't an error
pub not_err : {T E P : Type 0} (r : Result T E) → is_err r ≡ false → OnOk r P → P
not_err (Ok x) e p = p
not_err (Err x) e p = absurd (false≢true (sym e))

-- what holds at an error holds where it is one
pub is_err_then : {T E P : Type 0} (r : Result T E) → is_err r ≡ true → OnErr r P → P
is_err_then (Ok x) e p = absurd (false≢true e)
is_err_then (Err x) e p = p

-- what holds at Ok holds where it is Ok
pub is_ok_then : {T E P : Type 0} (r : Result T E) → is_ok r ≡ true → OnOk r P → P
is_ok_then (Ok x) e p = p
is_ok_then (Err x) e p = absurd (false≢true e)

-- ---- copies

pub copy_none : (source copy : Option Image) → IsCopy 0 source copy
copy_none None None = tt
copy_none None (Some copy) = tt
copy_none (Some source) None = tt
copy_none (Some source) (Some copy) = refl

-- one block more
copy_more : (b : ℕ) (block : List ℕ) (source copy : Image) → b < length copy → slice_get source b ≡ Some block → take b copy ≡ take b source
    → take (b + 1) (slice_set copy b block) ≡ take (b + 1) source
copy_more b block source copy lt found e =
    take_more_set copy b block lt ∙ ap (λ l. l ++ block ∷ []) e
    ∙ ap (λ (x : List ℕ). take b source ++ x ∷ []) (sym (get_or_from_slice_get source b block [] found))
    ∙ sym (take-suc source b [] (slice_get_within source b block found)) ∙ ap (λ n. take n source) (sym (add-one b))

pub copied_more : (b count : ℕ) (block : List ℕ) (source now copy new : Option Image) → now ≡ source
    → IfSome now (λ image. slice_get image b ≡ Some block) → b < count → new ≡ with_block b block copy → IfSome new (HasBlocks count)
    → IsCopy b source copy → IsCopy (b + 1) source new
copied_more b count block None now None new same found lt e shape so_far = subst (IsCopy (b + 1) None) (sym e) tt
copied_more b count block None now (Some copy) new same found lt e shape so_far = subst (IsCopy (b + 1) None) (sym e) tt
copied_more b count block (Some source) now None new same found lt e shape so_far = subst (IsCopy (b + 1) (Some source)) (sym e) tt
copied_more b count block (Some source) now (Some copy) new same found lt e shape so_far =
    let there : HasBlocks count (slice_set copy b block) = subst (λ (known : Option Image). IfSome known (HasBlocks count)) e shape in
    let room : b < length copy = omega (arith, lt, there.count_is, length-set copy b block) in
    let have : slice_get source b ≡ Some block = subst (λ (known : Option Image). IfSome known (λ image. slice_get image b ≡ Some block)) same found in
    subst (IsCopy (b + 1) (Some source)) (sym e) (copy_more b block source copy room have so_far)

-- the same first blocks of what reads still give
pub copied_now : (count now : ℕ) (source copy new : Option Image) → now ≡ count → new ≡ copy → IsCopy now source copy → IsCopy count source new
copied_now count now source copy new all same e =
    subst (λ (known : Option Image). IsCopy count source known) (sym same) (subst (λ n. IsCopy n source copy) all e)

-- a copy of what is as it was before the mark
pub copied_from : (mark : ℕ) (old source copy : Option Image) → StaysBut (λ i. i ≡ mark) old source → IsCopy mark source copy → IsCopy mark old copy
copied_from mark None source None same e = tt
copied_from mark None source (Some copy) same e = tt
copied_from mark (Some old) None None same e = tt
copied_from mark (Some old) None (Some copy) same e = absurd same
copied_from mark (Some old) (Some source) None same e = tt
copied_from mark (Some old) (Some source) (Some copy) same e = e ∙ take_but_mark mark mark old source (omega arith) same

-- ---- marks

-- changes of the blocks before it leave a mark
pub open_kept : (mark : ℕ) (old new : Image) → SameBut (IsInRange 0 mark) old new → is_open_at mark new ≡ is_open_at mark old
open_kept mark old new same = ap (λ block. slice_index block 0 == 1) (same.others mark (λ r. omega (arith, r.1)))

pub open_known : (mark : ℕ) (opens : Bool) (old new : Option Image) → StaysBut (IsInRange 0 mark) old new
    → IfSome old (λ image. is_open_at mark image ≡ opens) → IfSome new (λ image. is_open_at mark image ≡ opens)
open_known mark opens None None same e = tt
open_known mark opens None (Some new) same e = absurd same
open_known mark opens (Some old) None same e = tt
open_known mark opens (Some old) (Some new) same e = open_kept mark old new same ∙ e

-- ---- what a crash may leave

-- it has what reads give, where nothing else is left
pub only_has : {left : Image → Type 0} (P : Image → Type 0) (known : Option Image) → IsOnly known left → IfSome known P
    → (c : Image) → left c → P c
only_has P known only has c was = subst (λ (o : Option Image). IfSome o P) (only c was) has

-- after changes before it the mark is as it was
pub left_open : {a b : ℕ} {first mid : ℕ → Image → Type 0} (mark : ℕ) (opens : Bool)
    → Elapses a b first mid (IsBeforeBut (IsInRange 0 mark) (first a))
    → ((t u : ℕ) (image : Image) → t ≤ u → mid u image → mid t image)
    → ((c : Image) → first a c → is_open_at mark c ≡ opens) → (c : Image) → mid b c → is_open_at mark c ≡ opens
left_open mark opens time earlier was c left =
    let before = before_now (IsInRange 0 mark) time earlier c left in
    open_kept mark before.0 c before.2 ∙ was before.0 before.1

-- reads leave it
pub only_read : {D : Type 0} (g : Ghosts D) (old new : D) → OnlyReads g old new
    → ((t u : ℕ) (image : Image) → t ≤ u → g.left_since new u image → g.left_since new t image)
    → IsOnly (g.contents old) (left_now g old) → IsOnly (g.contents new) (left_now g new)
only_read g old new reads earlier only c left =
    reads.kept ∙ only c (after Nothing (left_now g old) reads.time earlier (λ image was. was) (λ image none. absurd none) c left)
