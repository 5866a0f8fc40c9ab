-- What each call of a mirror but an attach leaves to the layers above.
use Rattle.std.proofs.Common.{◌≡◌, ◌↔◌, ℕ, ◌+◌, ◌-◌, ◌*◌, ◌<◌, ◌≤◌, ◌⊎◌, min, List, [], ◌∷◌, length, take, Bool, true, false, Option, None, Some, IfSome, Result, Ok, Err, OnOk, OnErr, refl, sym, ap, subst, ◌∙◌, arith, inl, inr, ⊎_elim, slice_set}
use Rattle.std.specs.Prelude.{◌&&◌, ◌==◌, nat_lt, is_some, is_ok}
use Rattle.std.proofs.lemmas.Bool.{false≢true, cases_lt}
use Rattle.std.proofs.lemmas.List.{get_or-set_same, length-set}
use Rattle.bd_io.specs.Cause.{next_count}
use Rattle.bd_device.specs.Blocks.{Image, IsBlock, HasBlocks, ChangesOnly, with_block}
use Rattle.bd_device.specs.Changes.{IsBeforeBut, bytes_at}
use Rattle.bd_device.specs.Device.{left_now}
use Rattle.bd_device.specs.Moments.{Elapses, Nothing, TornAt, IsOnly}
use Rattle.bd_device.specs.declared.device.Device.{Ghosts}
use Rattle.bd_mirror.specs.Did.{CallDid, LeavesPicks}
use Rattle.bd_mirror.specs.Calls.{in_use, IsFull, FirstFailed, SecondFailed, IsMirror, KeepsMarks, HalvesNamed, HalvesStay, LeavesWhatItShows, AreSettled, moments_of, blocks_now, shown_now}
use Rattle.bd_mirror.specs.Contents.{pick, shown_by, IsMarked, AreLeftMarked, PicksHave}
use Rattle.bd_mirror.specs.Halves.{halves_of, with_halves, blocks_in, has_marks, is_two, EachDid, LeftOnly}
use Rattle.bd_mirror.specs.Laws.{by_last, second_held}
use Rattle.bd_mirror.specs.Names.{first_name, second_name, IsNamed}
use Rattle.bd_mirror.specs.Notes.{Note, last_name}
use Rattle.bd_mirror.specs.Past.{attached_for, IsLeftUpTo, IsLeftPast}
use Rattle.bd_mirror.specs.Shown.{image_of, size_of, shown_both, attached_by}
use Rattle.bd_mirror.specs.Since.{IsLeftOf}
use Rattle.bd_mirror.specs.Sound.{are_told, is_attached, KeepsMoments, AreWhole, IsAttachedBy, IsSound, mirror_contents, GoesBy, mirror_since}
use Rattle.bd_mirror.specs.declared.halves.Halves.{Halves}
use Rattle.bd_mirror.specs.declared.halves.Attached.{Attached}
use Rattle.bd_mirror.specs.declared.halves.Attached.TheVariants.{Nothing as Unattached, Alone, Member, Pair, Apart}
use Rattle.bd_mirror.specs.declared.parts.Parts.{Parts}
use Rattle.bd_mirror.proofs.Crashes.{is_known}
use Rattle.bd_mirror.specs.Writing.{contents_with_run}
use Rattle.bd_mirror.proofs.Past.{none_since}
use Rattle.bd_mirror.proofs.Rows.{row_none}
use Rattle.bd_mirror.proofs.Since.{same_blocks}
use Rattle.bd_mirror.proofs.Telling.{now_named, up_named, form_more, of_kind, two_named, time_for, IsTold, PastOf, from_behind, to_behind, behind_on, at_name, since_by, since_none, left_blocks, pair_sizes, now_of, only_at}
use Rattle.bd_mirror.proofs.Told.{both_known, untold, told_is, of_known, image_blocks, size_named, named_is, named_shown, named_on}

-- ---- what is attached

-- where there are blocks something is attached
pub has_blocks : (at : Attached) (na nb : ℕ) → 0 < blocks_in at na nb → is_attached at ≡ true
has_blocks Unattached na nb some = absurd (omega (arith, some))
has_blocks Alone na nb some = refl
has_blocks Member na nb some = refl
has_blocks (Pair h) na nb some = refl
has_blocks (Apart h) na nb some = refl

pub attached_with : (at : Attached) (h : Halves) → is_attached (with_halves h at) ≡ is_attached at
attached_with Unattached h = refl
attached_with Alone h = refl
attached_with Member h = refl
attached_with (Pair old) h = refl
attached_with (Apart old) h = refl

none_by : (at : Attached) (last : Option (List ℕ)) → is_attached at ≡ false → attached_by at last ≡ Unattached
none_by Unattached last off = refl
none_by Alone last off = absurd (false≢true (sym off))
none_by Member last off = absurd (false≢true (sym off))
none_by (Pair h) last off = absurd (false≢true (sym off))
none_by (Apart h) last off = absurd (false≢true (sym off))

none_in : (at : Attached) (na nb : ℕ) → is_attached at ≡ false → blocks_in at na nb ≡ 0
none_in Unattached na nb off = refl
none_in Alone na nb off = absurd (false≢true (sym off))
none_in Member na nb off = absurd (false≢true (sym off))
none_in (Pair h) na nb off = absurd (false≢true (sym off))
none_in (Apart h) na nb off = absurd (false≢true (sym off))

pub either : (t : Bool) → (t ≡ true) ⊎ (t ≡ false)
either true = inl refl
either false = inr refl

pub some_or : (n : ℕ) → (0 < n) ⊎ (n ≤ 0)
some_or n = cases_lt 0 n

no_blocks : (image : Image) → length image ≡ 0 → image ≡ []
no_blocks [] none = refl
no_blocks (x ∷ xs) none = absurd (omega (arith, none))

-- a name's halves have blocks where its image does
first_room : (kind : Attached) (na nb : ℕ) → 0 < size_of kind na nb → 0 < na
first_room Unattached na nb some = absurd (omega (arith, some))
first_room Alone na nb some = some
first_room Member na nb some = omega (arith, some)
first_room (Pair h) na nb some = (pair_sizes na nb (na == nb && nat_lt 0 na) refl some).1
first_room (Apart h) na nb some = absurd (omega (arith, some))

second_equal : (kind : Attached) (na nb : ℕ) → 0 < size_of kind na nb → is_two kind ≡ true → na ≡ nb
second_equal Unattached na nb some two = absurd (false≢true two)
second_equal Alone na nb some two = absurd (false≢true two)
second_equal Member na nb some two = absurd (false≢true two)
second_equal (Pair h) na nb some two = (pair_sizes na nb (na == nb && nat_lt 0 na) refl some).0
second_equal (Apart h) na nb some two = absurd (omega (arith, some))

second_room : (kind : Attached) (na nb : ℕ) → is_two kind ≡ true → 0 < size_of kind na nb → 0 < nb
second_room kind na nb two some = subst (λ k. 0 < k) (second_equal kind na nb some two) (first_room kind na nb some)

-- ---- contents

-- what reads give, by the name of what is attached
pub by_its_name : {A B : Type 0} (ga : Ghosts A) (gb : Ghosts B) (m : Parts A B) (name : List ℕ) → is_attached m.attached ≡ true → last_name (moments_of m) ≡ Some name
    → mirror_contents ga gb m ≡ shown_both (attached_for name) (ga.contents m.first) (gb.contents m.second)
by_its_name ga gb m name has last = ap (λ at. shown_both at (ga.contents m.first) (gb.contents m.second)) (by_last m.attached (last_name (moments_of m)) name has last)

-- whole blocks, as many as the mirror has
pub shape_of : {A B : Type 0} (ga : Ghosts A) (gb : Ghosts B) (m : Parts A B) → IsSound ga gb m → IfSome (mirror_contents ga gb m) (HasBlocks (blocks_now ga gb m))
shape_of ga gb m sound =
    let na : ℕ = ga.block_count m.first in
    let nb : ℕ = gb.block_count m.second in
    let kind : Attached = attached_by m.attached (last_name (moments_of m)) in
    let size : size_of kind na nb ≡ blocks_now ga gb m = ⊎_elim
    (λ has.
    let by = sound.by_name has in
    ap (λ at. size_of at na nb) (by_last m.attached (last_name (moments_of m)) by.0 has by.1.last) ∙ size_named by.0 m.attached na nb by.1.named)
    (λ off. ap (λ at. size_of at na nb) (none_by m.attached (last_name (moments_of m)) off) ∙ sym (none_in m.attached na nb off))
    (either (is_attached m.attached)) in
    of_known (HasBlocks (blocks_now ga gb m)) kind (ga.contents m.first) (gb.contents m.second) (λ x y kx ky.
    subst (λ k. HasBlocks k (image_of kind x y)) size
    (image_blocks kind na nb x y (is_known (HasBlocks na) (ga.contents m.first) x kx sound.whole.first.shape) (is_known (HasBlocks nb) (gb.contents m.second) y ky sound.whole.second.shape)))

-- where both halves tell what they hold, reads give what is shown
pub contents_are : {A B : Type 0} (ga : Ghosts A) (gb : Ghosts B) (m : Parts A B) → IsSound ga gb m → 0 < blocks_now ga gb m → are_told ga gb m ≡ true → mirror_contents ga gb m ≡ shown_now ga gb m
contents_are ga gb m sound some told =
    let na : ℕ = ga.block_count m.first in
    let nb : ℕ = gb.block_count m.second in
    let has : is_attached m.attached ≡ true = has_blocks m.attached na nb some in
    let by = sound.by_name has in
    let both = both_known (ga.contents m.first) (gb.contents m.second) told in
    let lx : length both.0 ≡ na = (is_known (HasBlocks na) (ga.contents m.first) both.0 both.2 sound.whole.first.shape).count_is in
    let ly : length both.1 ≡ nb = (is_known (HasBlocks nb) (gb.contents m.second) both.1 both.3 sound.whole.second.shape).count_is in
    by_its_name ga gb m by.0 has by.1.last ∙ told_is (attached_for by.0) (ga.contents m.first) (gb.contents m.second) both.0 both.1 both.2 both.3
    ∙ named_shown by.0 m.attached na nb both.0 both.1 by.1.named some lx ly
    ∙ sym (ap (λ o. shown_by m.attached na nb o (gb.contents m.second)) both.2 ∙ ap (λ o. shown_by m.attached na nb (Some both.0) o) both.3)

-- what P says of what is shown it says of what reads give
pub of_shown : {A B : Type 0} (ga : Ghosts A) (gb : Ghosts B) (m : Parts A B) (P : Image → Type 0) → IsSound ga gb m → 0 < blocks_now ga gb m → IfSome (shown_now ga gb m) P → IfSome (mirror_contents ga gb m) P
of_shown ga gb m P sound some shown = ⊎_elim
    (λ told. subst (λ (o : Option Image). IfSome o P) (sym (contents_are ga gb m sound some told)) shown)
    (λ off. subst (λ (o : Option Image). IfSome o P) (sym (untold (attached_by m.attached (last_name (moments_of m))) (ga.contents m.first) (gb.contents m.second) off)) tt)
    (either (are_told ga gb m))

-- a call that changes what is shown so changes what reads give so
pub contents_on : {A B : Type 0} (ga : Ghosts A) (gb : Ghosts B) (old new : Parts A B) (f : Option Image → Option Image) → IsSound ga gb old → IsSound ga gb new
    → blocks_now ga gb new ≡ blocks_now ga gb old → are_told ga gb new ≡ are_told ga gb old → f None ≡ None → (blocks_now ga gb old ≡ 0 → (o : Option Image) → f o ≡ o)
    → shown_now ga gb new ≡ f (shown_now ga gb old) → mirror_contents ga gb new ≡ f (mirror_contents ga gb old)
contents_on ga gb old new f sound sound1 count same none zero shown =
    let kind : Attached = attached_by old.attached (last_name (moments_of old)) in
    let kind1 : Attached = attached_by new.attached (last_name (moments_of new)) in
    ⊎_elim
    (λ (told : are_told ga gb old ≡ true). ⊎_elim
    (λ (some : 0 < blocks_now ga gb old).
    contents_are ga gb new sound1 (subst (λ k. 0 < k) (sym count) some) (same ∙ told) ∙ shown ∙ sym (ap f (contents_are ga gb old sound some told)))
    (λ (zero' : blocks_now ga gb old ≤ 0).
    let off : blocks_now ga gb old ≡ 0 = omega (arith, zero') in
    let both = both_known (ga.contents old.first) (gb.contents old.second) told in
    let both1 = both_known (ga.contents new.first) (gb.contents new.second) (same ∙ told) in
    let is : mirror_contents ga gb old ≡ Some (image_of kind both.0 both.1) = told_is kind (ga.contents old.first) (gb.contents old.second) both.0 both.1 both.2 both.3 in
    let is1 : mirror_contents ga gb new ≡ Some (image_of kind1 both1.0 both1.1) = told_is kind1 (ga.contents new.first) (gb.contents new.second) both1.0 both1.1 both1.2 both1.3 in
    let e : image_of kind both.0 both.1 ≡ [] = no_blocks (image_of kind both.0 both.1) ((is_known (HasBlocks (blocks_now ga gb old)) (mirror_contents ga gb old) (image_of kind both.0 both.1) is (shape_of ga gb old sound)).count_is ∙ off) in
    let e1 : image_of kind1 both1.0 both1.1 ≡ [] = no_blocks (image_of kind1 both1.0 both1.1) ((is_known (HasBlocks (blocks_now ga gb new)) (mirror_contents ga gb new) (image_of kind1 both1.0 both1.1) is1 (shape_of ga gb new sound1)).count_is ∙ count ∙ off) in
    is1 ∙ ap Some (e1 ∙ sym e) ∙ sym is ∙ sym (zero off (mirror_contents ga gb old)))
    (some_or (blocks_now ga gb old)))
    (λ (off : are_told ga gb old ≡ false).
    untold kind1 (ga.contents new.first) (gb.contents new.second) (same ∙ off) ∙ sym none ∙ sym (ap f (untold kind (ga.contents old.first) (gb.contents old.second) off)))
    (either (are_told ga gb old))

-- ---- the name of what is attached

pub last_on : {A B : Type 0} (old new : Parts A B) (name : List ℕ) → moments_of new ≡ (None, old.first, old.second) ∷ moments_of old → last_name (moments_of old) ≡ Some name → last_name (moments_of new) ≡ Some name
last_on old new name noted last = ap last_name noted ∙ last

pub halves_on : {A B : Type 0} (ga : Ghosts A) (gb : Ghosts B) (old new : Parts A B) (name : List ℕ) → HalvesStay ga gb old new → HalvesNamed ga gb name old → HalvesNamed ga gb name new
halves_on ga gb old new name stays halves = record {
  first = stays.first_named (first_name name) halves.first;
  second = λ plus more. stays.second_named (second_name name) (halves.second plus more);
}

pub attached_on : {A B : Type 0} (ga : Ghosts A) (gb : Ghosts B) (old new : Parts A B) → HalvesStay ga gb old new → is_attached new.attached ≡ is_attached old.attached
attached_on ga gb old new stays = ap is_attached stays.attached ∙ attached_with old.attached (halves_of new.attached)

pub goes_by_on : {A B : Type 0} (ga : Ghosts A) (gb : Ghosts B) (old new : Parts A B) (name : List ℕ) → HalvesStay ga gb old new → moments_of new ≡ (None, old.first, old.second) ∷ moments_of old
    → GoesBy ga gb old name → GoesBy ga gb new name
goes_by_on ga gb old new name stays noted by = record {
  last = last_on old new name noted by.last;
  attached = attached_on ga gb old new stays ∙ by.attached;
  halves = halves_on ga gb old new name stays by.halves;
}

-- what holds of each mirror holds after such a call
pub sound_on : {A B : Type 0} (ga : Ghosts A) (gb : Ghosts B) (old new : Parts A B) → IsSound ga gb old → HalvesStay ga gb old new → moments_of new ≡ (None, old.first, old.second) ∷ moments_of old
    → KeepsMoments new → IsMirror ga gb new → KeepsMarks ga gb new → AreWhole ga gb new → IsSound ga gb new
sound_on ga gb old new sound stays noted counted marked kept whole = record {
  counted = counted;
  marked = marked;
  kept = kept;
  whole = whole;
  by_name = λ has.
      let by = sound.by_name (sym (attached_on ga gb old new stays) ∙ has) in (
        by.0,
        record {
          last = last_on old new by.0 noted by.1.last;
          halves = halves_on ga gb old new by.0 stays by.1.halves;
          named = subst (λ k. IsNamed by.0 new.attached k (gb.block_count new.second)) (sym stays.first_count)
              (subst (λ k. IsNamed by.0 new.attached (ga.block_count old.first) k) (sym stays.second_count)
              (subst (λ at. IsNamed by.0 at (ga.block_count old.first) (gb.block_count old.second)) (sym stays.attached)
              (named_on by.0 old.attached (halves_of new.attached) (ga.block_count old.first) (gb.block_count old.second) by.1.named)));
        },
      );
}

pub blocks_on : {A B : Type 0} (ga : Ghosts A) (gb : Ghosts B) (old new : Parts A B) → HalvesStay ga gb old new → blocks_now ga gb new ≡ blocks_now ga gb old
blocks_on ga gb old new stays = same_blocks old.attached new.attached (halves_of new.attached) (ga.block_count old.first) (gb.block_count old.second) _ _ stays.attached stays.first_count stays.second_count

-- there are no bytes in a row of no blocks
no_row : (first n : ℕ) (bytes : List ℕ) (known : Option Image) → n ≡ 0 → IfSome known (λ image. take (n * 4096) bytes ≡ bytes_at image first n)
no_row first n bytes None none = tt
no_row first n bytes (Some image) none = ap (λ k. take (k * 4096) bytes) none ∙ sym (ap (bytes_at image first) none)

-- ---- crashes

-- the laws of both halves
pub record HaveLaws {A B : Type 0} (ga : Ghosts A) (gb : Ghosts B) (sa : A → List ℕ → Option Image) (sb : B → List ℕ → Option Image) (la : A → List ℕ → ℕ → Image → Type 0) (lb : B → List ℕ → ℕ → Image → Type 0) : Type 0 where
  pub shows_a : (d : A) (n : List ℕ) → ga.is_named d n → sa d n ≡ ga.contents d
  pub shows_b : (d : B) (n : List ℕ) → gb.is_named d n → sb d n ≡ gb.contents d
  pub left_a : (d : A) (n : List ℕ) (t : ℕ) (c : Image) → ga.is_named d n → la d n t c ↔ ga.left_since d t c
  pub left_b : (d : B) (n : List ℕ) (t : ℕ) (c : Image) → gb.is_named d n → lb d n t c ↔ gb.left_since d t c
  pub earlier_a : (d : A) (t u : ℕ) (c : Image) → t ≤ u → ga.left_since d u c → ga.left_since d t c
  pub earlier_b : (d : B) (t u : ℕ) (c : Image) → t ≤ u → gb.left_since d u c → gb.left_since d t c

-- what is shown for the name of what is attached is what both halves hold
pub told_for : {A B : Type 0} (ga : Ghosts A) (gb : Ghosts B) (sa : A → List ℕ → Option Image) (sb : B → List ℕ → Option Image) (la : A → List ℕ → ℕ → Image → Type 0) (lb : B → List ℕ → ℕ → Image → Type 0) (m : Parts A B) (name : List ℕ) (na nb : ℕ)
    → HaveLaws ga gb sa sb la lb → HalvesNamed ga gb name m → AreWhole ga gb m → ga.block_count m.first ≡ na → gb.block_count m.second ≡ nb → IsTold ga gb sa sb m name na nb
told_for ga gb sa sb la lb m name na nb laws halves whole ea eb = record {
  first_is = laws.shows_a m.first (first_name name) halves.first;
  second_is = second_held name (gb.contents m.second) (sb m.second (second_name name)) (λ plus more. laws.shows_b m.second (second_name name) (halves.second plus more));
  first_shape = subst (λ k. IfSome (ga.contents m.first) (HasBlocks k)) ea whole.first.shape;
  second_shape = subst (λ k. IfSome (gb.contents m.second) (HasBlocks k)) eb whole.second.shape;
}

second_law : {A B : Type 0} (ga : Ghosts A) (gb : Ghosts B) (sa : A → List ℕ → Option Image) (sb : B → List ℕ → Option Image) (la : A → List ℕ → ℕ → Image → Type 0) (lb : B → List ℕ → ℕ → Image → Type 0) (m : Parts A B) (name : List ℕ)
    → HaveLaws ga gb sa sb la lb → HalvesNamed ga gb name m → is_two (attached_for name) ≡ true → (t : ℕ) (c : Image) → lb m.second (second_name name) t c ↔ gb.left_since m.second t c
second_law ga gb sa sb la lb m name laws halves two t c =
    let plus = two_named name two in laws.left_b m.second (second_name name) t c (halves.second plus.0 plus.1)

-- since an earlier call
pub since_call : {A B : Type 0} (ga : Ghosts A) (gb : Ghosts B) (sa : A → List ℕ → Option Image) (sb : B → List ℕ → Option Image) (la : A → List ℕ → ℕ → Image → Type 0) (lb : B → List ℕ → ℕ → Image → Type 0) (old new : Parts A B) (P Q : Image → Type 0)
    → HaveLaws ga gb sa sb la lb → IsSound ga gb old → AreWhole ga gb new → HalvesStay ga gb old new → moments_of new ≡ (None, old.first, old.second) ∷ moments_of old
    → new.counts.calls ≡ next_count old.counts.calls → are_told ga gb new ≡ are_told ga gb old
    → (0 < blocks_now ga gb old → (c : Image) → IsLeftOf old.attached (ga.block_count old.first) (gb.block_count old.second) (ga.left_since new.first (ga.call_count old.first)) (gb.left_since new.second (gb.call_count old.second)) c
    → IsLeftOf old.attached (ga.block_count old.first) (gb.block_count old.second) (left_now ga old.first) (left_now gb old.second) c ⊎ P c)
    → (0 < blocks_now ga gb old → (c : Image) → P c → HasBlocks (blocks_now ga gb old) c → are_told ga gb old ≡ true → Q c)
    → Elapses old.counts.calls new.counts.calls (mirror_since ga gb sa sb la lb old) (mirror_since ga gb sa sb la lb new) Q
since_call ga gb sa sb la lb old new P Q laws sound whole stays noted counted same inside here =
    let na : ℕ = ga.block_count old.first in
    let nb : ℕ = gb.block_count old.second in
    let later : old.counts.calls ≤ new.counts.calls = omega (arith, counted, sound.counted) in
    ⊎_elim
    (λ (has : is_attached old.attached ≡ true).
    let by = sound.by_name has in
    let name : List ℕ = by.0 in
    let first : List ℕ = first_name name in
    let second : List ℕ = second_name name in
    let halves : HalvesNamed ga gb name new = halves_on ga gb old new name stays by.1.halves in
    let told_old : IsTold ga gb sa sb old name na nb = told_for ga gb sa sb la lb old name na nb laws by.1.halves sound.whole refl refl in
    let told_new : IsTold ga gb sa sb new name na nb = told_for ga gb sa sb la lb new name na nb laws halves whole stays.first_count stays.second_count in
    let size : size_of (attached_for name) na nb ≡ blocks_now ga gb old = size_named name old.attached na nb by.1.named in
    since_by ga gb sa sb la lb old new name Q old.counts.calls new.counts.calls by.1.last (last_on old new name noted by.1.last) has (attached_on ga gb old new stays ∙ has)
    (⊎_elim
    (λ (some : 0 < blocks_now ga gb old).
    behind_on ga gb sa sb la lb old new name P Q old.counts.calls new.counts.calls na nb same told_old told_new
    (subst (λ (ms : List (Note × _ × _)). Elapses old.counts.calls new.counts.calls (PastOf ga gb la lb old name na)
    (IsLeftPast (λ d. la d first) (λ d. lb d second) ga.call_count gb.call_count (IsLeftOf (attached_for name) na na) name ms new.first new.second) P) (sym noted)
    (time_for ga gb (λ d. la d first) (λ d. lb d second) name P old.attached (moments_of old) old.first new.first old.second new.second old.counts.calls new.counts.calls na nb
    by.1.named some counted sound.counted
    (λ t c. laws.left_a old.first first t c by.1.halves.first) (λ t c. laws.left_a new.first first t c halves.first)
    (second_law ga gb sa sb la lb old name laws by.1.halves) (second_law ga gb sa sb la lb new name laws halves)
    (laws.earlier_a old.first) (laws.earlier_b old.second) stays.first_calls stays.second_calls (inside some)))
    (λ c torn _ shape told. here some c torn (subst (λ k. HasBlocks k c) size shape) told))
    (λ (off : blocks_now ga gb old ≤ 0). record {
      later = later;
      keeps = λ t c le was. absurd (omega (arith, off, size, (from_behind ga gb sa sb la lb old name na nb t c told_old was).some));
      adds = λ t c le left. absurd (omega (arith, off, size, (from_behind ga gb sa sb la lb new name na nb t c told_new left).some));
    })
    (some_or (blocks_now ga gb old))))
    (λ (off : is_attached old.attached ≡ false).
    since_none ga gb sa sb la lb old new Q old.counts.calls new.counts.calls later off (attached_on ga gb old new stays ∙ off))
    (either (is_attached old.attached))

-- what a crash now may leave of both halves it may leave of the mirror
leaves_kind : {A B : Type 0} (ga : Ghosts A) (gb : Ghosts B) (sa : A → List ℕ → Option Image) (sb : B → List ℕ → Option Image) (la : A → List ℕ → ℕ → Image → Type 0) (lb : B → List ℕ → ℕ → Image → Type 0) (m : Parts A B) (name : List ℕ) (t : ℕ) (c : Image)
    → HaveLaws ga gb sa sb la lb → IsSound ga gb m → 0 < blocks_now ga gb m → are_told ga gb m ≡ true → IsAttachedBy ga gb m name
    → IsLeftOf (attached_for name) (ga.block_count m.first) (ga.block_count m.first) (left_now ga m.first) (left_now gb m.second) c → mirror_since ga gb sa sb la lb m t c
leaves_kind ga gb sa sb la lb m name t c laws sound some told by left =
    let na : ℕ = ga.block_count m.first in
    let nb : ℕ = gb.block_count m.second in
    let kind : Attached = attached_for name in
    let halves : HalvesNamed ga gb name m = by.halves in
    let size : size_of kind na nb ≡ blocks_now ga gb m = size_named name m.attached na nb by.named in
    let room : 0 < size_of kind na nb = subst (λ k. 0 < k) (sym size) some in (
      name,
      by.last,
      has_blocks m.attached na nb some,
      to_behind ga gb sa sb la lb m name na nb t c (told_for ga gb sa sb la lb m name na nb laws halves sound.whole refl refl) (record {
        told = told;
        some = room;
        shape = left_blocks kind na nb (left_now ga m.first) (left_now gb m.second)
            (λ x now. sound.whole.first.left (first_room kind na nb room) x now) (λ two y now. sound.whole.second.left (second_room kind na nb two room) y now) (second_equal kind na nb room) room c left;
        left = inl (form_more kind na (left_now ga m.first) (left_now gb m.second)
            (IsLeftUpTo (la m.first (first_name name)) (ga.call_count m.first)) (IsLeftUpTo (lb m.second (second_name name)) (gb.call_count m.second))
            (λ x now. up_named ga (λ d. la d (first_name name)) m.first (ga.call_count m.first) x (λ u e. laws.left_a m.first (first_name name) u e halves.first) (laws.earlier_a m.first) now)
            (λ two y now. up_named gb (λ d. lb d (second_name name)) m.second (gb.call_count m.second) y (second_law ga gb sa sb la lb m name laws halves two) (laws.earlier_b m.second) now)
            c left);
      }),
    )

pub leaves_now : {A B : Type 0} (ga : Ghosts A) (gb : Ghosts B) (sa : A → List ℕ → Option Image) (sb : B → List ℕ → Option Image) (la : A → List ℕ → ℕ → Image → Type 0) (lb : B → List ℕ → ℕ → Image → Type 0) (m : Parts A B) (t : ℕ) (c : Image)
    → HaveLaws ga gb sa sb la lb → IsSound ga gb m → 0 < blocks_now ga gb m → are_told ga gb m ≡ true
    → IsLeftOf m.attached (ga.block_count m.first) (gb.block_count m.second) (left_now ga m.first) (left_now gb m.second) c → mirror_since ga gb sa sb la lb m t c
leaves_now ga gb sa sb la lb m t c laws sound some told left =
    let na : ℕ = ga.block_count m.first in
    let nb : ℕ = gb.block_count m.second in
    let by = sound.by_name (has_blocks m.attached na nb some) in
    leaves_kind ga gb sa sb la lb m by.0 t c laws sound some told by.1
    (subst (λ (of : (Image → Type 0) → (Image → Type 0) → Image → Type 0). of (left_now ga m.first) (left_now gb m.second) c)
    (of_kind (attached_for by.0) m.attached (halves_of m.attached) na nb (named_is by.0 m.attached na nb by.1.named some) by.1.named.equal) left)

-- each pair by the pick in either order
picks_at : (at : Attached) (na nb : ℕ) (la lb P : Image → Type 0) → has_marks at ≡ true → ((c : Image) → IsLeftOf at na nb la lb c → P c) → (x y : Image) → la x → lb y
    → PicksHave (min na nb - 1) (na - 1) (nb - 1) P x y
picks_at Unattached na nb la lb P has all x y hx hy = absurd (false≢true has)
picks_at Alone na nb la lb P has all x y hx hy = absurd (false≢true has)
picks_at Member na nb la lb P has all x y hx hy = absurd (false≢true has)
picks_at (Pair h) na nb la lb P has all x y hx hy =
    let size : ℕ = min na nb - 1 in
    (all (pick size (na - 1) (nb - 1) x y) (x, y, hx, hy, inl refl), all (pick size (nb - 1) (na - 1) y x) (x, y, hx, hy, inr refl))
picks_at (Apart h) na nb la lb P has all x y hx hy = absurd (false≢true has)

pub leaves_picks : {A B : Type 0} (ga : Ghosts A) (gb : Ghosts B) (sa : A → List ℕ → Option Image) (sb : B → List ℕ → Option Image) (la : A → List ℕ → ℕ → Image → Type 0) (lb : B → List ℕ → ℕ → Image → Type 0) (m : Parts A B)
    → HaveLaws ga gb sa sb la lb → IsSound ga gb m → LeavesPicks ga gb sa sb la lb m
leaves_picks ga gb sa sb la lb m laws sound = λ has some told.
    picks_at m.attached (ga.block_count m.first) (gb.block_count m.second) (left_now ga m.first) (left_now gb m.second) (mirror_since ga gb sa sb la lb m m.counts.calls) has
    (λ c left. leaves_now ga gb sa sb la lb m m.counts.calls c laws sound some told left)

-- what reads give is one of those
pub stays_now : {A B : Type 0} (ga : Ghosts A) (gb : Ghosts B) (sa : A → List ℕ → Option Image) (sb : B → List ℕ → Option Image) (la : A → List ℕ → ℕ → Image → Type 0) (lb : B → List ℕ → ℕ → Image → Type 0) (m : Parts A B) (t : ℕ)
    → HaveLaws ga gb sa sb la lb → IsSound ga gb m → 0 < blocks_now ga gb m → IfSome (mirror_contents ga gb m) (mirror_since ga gb sa sb la lb m t)
stays_now ga gb sa sb la lb m t laws sound some =
    let na : ℕ = ga.block_count m.first in
    let nb : ℕ = gb.block_count m.second in
    let has : is_attached m.attached ≡ true = has_blocks m.attached na nb some in
    let by = sound.by_name has in
    let kind : Attached = attached_for by.0 in
    let room : 0 < size_of kind na nb = subst (λ k. 0 < k) (sym (size_named by.0 m.attached na nb by.1.named)) some in
    subst (λ (o : Option Image). IfSome o (mirror_since ga gb sa sb la lb m t)) (sym (by_its_name ga gb m by.0 has by.1.last))
    (of_known (mirror_since ga gb sa sb la lb m t) kind (ga.contents m.first) (gb.contents m.second) (λ x y kx ky.
    leaves_kind ga gb sa sb la lb m by.0 t (image_of kind x y) laws sound some
    (ap (λ (o : Option Image). is_some o && is_some (gb.contents m.second)) kx ∙ ap (λ (o : Option Image). is_some o) ky) by.1
    (now_of kind na nb (left_now ga m.first) (left_now gb m.second) x y
    (is_known (HasBlocks na) (ga.contents m.first) x kx sound.whole.first.shape).count_is (is_known (HasBlocks nb) (gb.contents m.second) y ky sound.whole.second.shape).count_is room
    (is_known (left_now ga m.first) (ga.contents m.first) x kx (sound.whole.first.stays (first_room kind na nb room)))
    (λ two. is_known (left_now gb m.second) (gb.contents m.second) y ky (sound.whole.second.stays (second_room kind na nb two room))))))

-- each has as many blocks
pub left_shape : {A B : Type 0} (ga : Ghosts A) (gb : Ghosts B) (sa : A → List ℕ → Option Image) (sb : B → List ℕ → Option Image) (la : A → List ℕ → ℕ → Image → Type 0) (lb : B → List ℕ → ℕ → Image → Type 0) (m : Parts A B) (t : ℕ) (c : Image)
    → HaveLaws ga gb sa sb la lb → IsSound ga gb m → mirror_since ga gb sa sb la lb m t c → HasBlocks (blocks_now ga gb m) c
left_shape ga gb sa sb la lb m t c laws sound since =
    let na : ℕ = ga.block_count m.first in
    let nb : ℕ = gb.block_count m.second in
    let by = sound.by_name since.2 in
    let past = from_behind ga gb sa sb la lb m by.0 na nb t c (told_for ga gb sa sb la lb m by.0 na nb laws by.1.halves sound.whole refl refl)
    (at_name ga gb sa sb la lb m by.0 t c by.1.last since) in
    subst (λ k. HasBlocks k c) (size_named by.0 m.attached na nb by.1.named) past.shape

-- after a barrier only what reads give
pub settled_now : {A B : Type 0} (ga : Ghosts A) (gb : Ghosts B) (sa : A → List ℕ → Option Image) (sb : B → List ℕ → Option Image) (la : A → List ℕ → ℕ → Image → Type 0) (lb : B → List ℕ → ℕ → Image → Type 0) (m : Parts A B)
    → HaveLaws ga gb sa sb la lb → IsSound ga gb m → 0 < blocks_now ga gb m → m.counts.calls ≡ length (moments_of m) → LeavesWhatItShows ga gb m → AreSettled ga gb m
    → IsOnly (mirror_contents ga gb m) (mirror_since ga gb sa sb la lb m m.counts.calls)
settled_now ga gb sa sb la lb m laws sound some late shown settled = λ c since.
    let na : ℕ = ga.block_count m.first in
    let nb : ℕ = gb.block_count m.second in
    let by = sound.by_name since.2 in
    let name : List ℕ = by.0 in
    let first : List ℕ = first_name name in
    let second : List ℕ = second_name name in
    let kind : Attached = attached_for name in
    let past = from_behind ga gb sa sb la lb m name na nb m.counts.calls c (told_for ga gb sa sb la lb m name na nb laws by.1.halves sound.whole refl refl)
    (at_name ga gb sa sb la lb m name m.counts.calls c by.1.last since) in
    let now : IsLeftOf kind na na (IsLeftUpTo (la m.first first) (ga.call_count m.first)) (IsLeftUpTo (lb m.second second) (gb.call_count m.second)) c =
    ⊎_elim (λ here. here)
    (λ calls. absurd (none_since (λ d. la d first) (λ d. lb d second) ga.call_count gb.call_count (IsLeftOf kind na na) name (moments_of m) m.first m.second m.counts.calls c (omega (arith, late)) calls))
    past.left in
    let at_kind : IsLeftOf kind na na (left_now ga m.first) (left_now gb m.second) c =
    form_more kind na (IsLeftUpTo (la m.first first) (ga.call_count m.first)) (IsLeftUpTo (lb m.second second) (gb.call_count m.second)) (left_now ga m.first) (left_now gb m.second)
    (λ x up. now_named ga (λ d. la d first) m.first (ga.call_count m.first) x (λ u e. laws.left_a m.first first u e by.1.halves.first) up)
    (λ two y up. now_named gb (λ d. lb d second) m.second (gb.call_count m.second) y (second_law ga gb sa sb la lb m name laws by.1.halves two) up) c now in
    contents_are ga gb m sound some past.told
    ∙ only_at m.attached na nb (ga.contents m.first) (gb.contents m.second) (left_now ga m.first) (left_now gb m.second) some shown (λ uses. settled.first uses some) past.told c
    (subst (λ (of : (Image → Type 0) → (Image → Type 0) → Image → Type 0). of (left_now ga m.first) (left_now gb m.second) c)
    (sym (of_kind kind m.attached (halves_of m.attached) na nb (named_is name m.attached na nb by.1.named some) by.1.named.equal)) at_kind)

-- a mirror whose halves hold the same is one
pub same_mirror : {A B : Type 0} (ga : Ghosts A) (gb : Ghosts B) (old new : Parts A B) → new.attached ≡ old.attached → ga.block_count new.first ≡ ga.block_count old.first → gb.block_count new.second ≡ gb.block_count old.second
    → ga.contents new.first ≡ ga.contents old.first → gb.contents new.second ≡ gb.contents old.second → IsMirror ga gb old → IsMirror ga gb new
same_mirror ga gb old new at ca cb ka kb is =
    subst (λ t. IsMarked t (ga.block_count new.first) (gb.block_count new.second) (ga.contents new.first) (gb.contents new.second)) (sym at)
    (subst (λ k. IsMarked old.attached k (gb.block_count new.second) (ga.contents new.first) (gb.contents new.second)) (sym ca)
    (subst (λ k. IsMarked old.attached (ga.block_count old.first) k (ga.contents new.first) (gb.contents new.second)) (sym cb)
    (subst (λ (o : Option Image). IsMarked old.attached (ga.block_count old.first) (gb.block_count old.second) o (gb.contents new.second)) (sym ka)
    (subst (λ (o : Option Image). IsMarked old.attached (ga.block_count old.first) (gb.block_count old.second) (ga.contents old.first) o) (sym kb) is))))

pub told_same : (p q p' q' : Option Image) → p' ≡ p → q' ≡ q → (is_some p' && is_some q') ≡ (is_some p && is_some q)
told_same p q p' q' ep eq = ap (λ (o : Option Image). is_some o && is_some q') ep ∙ ap (λ (o : Option Image). is_some p && is_some o) eq

-- ---- a mirror with nothing attached

pub sound_none : {A B : Type 0} (ga : Ghosts A) (gb : Ghosts B) (m : Parts A B) → m.attached ≡ Unattached → KeepsMoments m → AreWhole ga gb m → IsSound ga gb m
sound_none ga gb m none counted whole = record {
  counted = counted;
  marked = subst (λ at. IsMarked at (ga.block_count m.first) (gb.block_count m.second) (ga.contents m.first) (gb.contents m.second)) (sym none) tt;
  kept = subst (λ at. AreLeftMarked at (ga.block_count m.first) (gb.block_count m.second) (left_now ga m.first) (left_now gb m.second)) (sym none) tt;
  whole = whole;
  by_name = λ has. absurd (false≢true (sym (ap is_attached none) ∙ has));
}

-- a block that was set holds whole bytes where the image has whole blocks
changed_block : (old new : Option Image) (b count : ℕ) (bytes : List ℕ) → b < count → ChangesOnly b None None → new ≡ with_block b bytes old → IfSome new (HasBlocks count) → ChangesOnly b old new
changed_block None new b count bytes lt none is shape = (none.0, none.1, is)
changed_block (Some image) new b count bytes lt none is shape =
    let whole : HasBlocks count (slice_set image b bytes) = is_known (HasBlocks count) new (slice_set image b bytes) is shape in
    let long : b < length image = omega (arith, lt, whole.count_is, length-set image b bytes) in
    (bytes, subst IsBlock (get_or-set_same image b bytes [] long) (whole.whole b [] (omega (arith, lt, whole.count_is))), is)

-- ---- what a read, a write and a barrier leave, from what they leave of the parts

-- what is the same of each: what was sound before is sound after
pub record WentOn {A B : Type 0} (ga : Ghosts A) (gb : Ghosts B) (old new : Parts A B) : Type 0 where
  pub sound : IsSound ga gb old
  pub sound_now : IsSound ga gb new
  pub stays : HalvesStay ga gb old new
  pub noted : moments_of new ≡ (None, old.first, old.second) ∷ moments_of old
  pub counted : new.counts.calls ≡ next_count old.counts.calls
  pub told : are_told ga gb new ≡ are_told ga gb old

-- of a call that leaves no image
pub since_quiet : {A B : Type 0} (ga : Ghosts A) (gb : Ghosts B) (sa : A → List ℕ → Option Image) (sb : B → List ℕ → Option Image) (la : A → List ℕ → ℕ → Image → Type 0) (lb : B → List ℕ → ℕ → Image → Type 0) (old new : Parts A B)
    → HaveLaws ga gb sa sb la lb → WentOn ga gb old new
    → (0 < blocks_now ga gb old → (c : Image) → IsLeftOf old.attached (ga.block_count old.first) (gb.block_count old.second) (ga.left_since new.first (ga.call_count old.first)) (gb.left_since new.second (gb.call_count old.second)) c
    → IsLeftOf old.attached (ga.block_count old.first) (gb.block_count old.second) (left_now ga old.first) (left_now gb old.second) c ⊎ Nothing c)
    → Elapses old.counts.calls new.counts.calls (mirror_since ga gb sa sb la lb old) (mirror_since ga gb sa sb la lb new) Nothing
since_quiet ga gb sa sb la lb old new laws went inside =
    since_call ga gb sa sb la lb old new Nothing Nothing laws went.sound went.sound_now.whole went.stays went.noted went.counted went.told inside (λ some c none shape told. none)

-- of a write
pub since_write : {A B : Type 0} (ga : Ghosts A) (gb : Ghosts B) (sa : A → List ℕ → Option Image) (sb : B → List ℕ → Option Image) (la : A → List ℕ → ℕ → Image → Type 0) (lb : B → List ℕ → ℕ → Image → Type 0) (old new : Parts A B) (b : ℕ)
    → HaveLaws ga gb sa sb la lb → WentOn ga gb old new
    → (0 < blocks_now ga gb old → (c : Image) → IsLeftOf old.attached (ga.block_count old.first) (gb.block_count old.second) (ga.left_since new.first (ga.call_count old.first)) (gb.left_since new.second (gb.call_count old.second)) c
    → IsLeftOf old.attached (ga.block_count old.first) (gb.block_count old.second) (left_now ga old.first) (left_now gb old.second) c
    ⊎ TornAt b (IsLeftOf old.attached (ga.block_count old.first) (gb.block_count old.second) (left_now ga old.first) (left_now gb old.second)) c)
    → Elapses old.counts.calls new.counts.calls (mirror_since ga gb sa sb la lb old) (mirror_since ga gb sa sb la lb new) (TornAt b (mirror_since ga gb sa sb la lb old old.counts.calls))
since_write ga gb sa sb la lb old new b laws went inside =
    since_call ga gb sa sb la lb old new
    (TornAt b (IsLeftOf old.attached (ga.block_count old.first) (gb.block_count old.second) (left_now ga old.first) (left_now gb old.second)))
    (TornAt b (mirror_since ga gb sa sb la lb old old.counts.calls))
    laws went.sound went.sound_now.whole went.stays went.noted went.counted went.told inside
    (λ some c torn shape told. (torn.0, leaves_now ga gb sa sb la lb old old.counts.calls torn.0 laws went.sound some told torn.1, torn.2, torn.3, torn.4))

-- of a write of blocks in a row
pub since_run : {A B : Type 0} (ga : Ghosts A) (gb : Ghosts B) (sa : A → List ℕ → Option Image) (sb : B → List ℕ → Option Image) (la : A → List ℕ → ℕ → Image → Type 0) (lb : B → List ℕ → ℕ → Image → Type 0) (old new : Parts A B) (row : ℕ → Type 0)
    → HaveLaws ga gb sa sb la lb → WentOn ga gb old new
    → (0 < blocks_now ga gb old → (c : Image) → IsLeftOf old.attached (ga.block_count old.first) (gb.block_count old.second) (ga.left_since new.first (ga.call_count old.first)) (gb.left_since new.second (gb.call_count old.second)) c
    → IsLeftOf old.attached (ga.block_count old.first) (gb.block_count old.second) (left_now ga old.first) (left_now gb old.second) c
    ⊎ IsBeforeBut row (IsLeftOf old.attached (ga.block_count old.first) (gb.block_count old.second) (left_now ga old.first) (left_now gb old.second)) c)
    → Elapses old.counts.calls new.counts.calls (mirror_since ga gb sa sb la lb old) (mirror_since ga gb sa sb la lb new) (IsBeforeBut row (mirror_since ga gb sa sb la lb old old.counts.calls))
since_run ga gb sa sb la lb old new row laws went inside =
    since_call ga gb sa sb la lb old new
    (IsBeforeBut row (IsLeftOf old.attached (ga.block_count old.first) (gb.block_count old.second) (left_now ga old.first) (left_now gb old.second)))
    (IsBeforeBut row (mirror_since ga gb sa sb la lb old old.counts.calls))
    laws went.sound went.sound_now.whole went.stays went.noted went.counted went.told inside
    (λ some c torn shape told. (torn.0, leaves_now ga gb sa sb la lb old old.counts.calls torn.0 laws went.sound some told torn.1, torn.2))

-- what reads give after one, where a row of no blocks is written too
pub run_contents : {A B : Type 0} (ga : Ghosts A) (gb : Ghosts B) (old new : Parts A B) (first n : ℕ) (bytes : ℕ → List ℕ) → WentOn ga gb old new → first + n ≤ blocks_now ga gb old
    → shown_now ga gb new ≡ contents_with_run first n bytes (shown_now ga gb old) → mirror_contents ga gb new ≡ contents_with_run first n bytes (mirror_contents ga gb old)
run_contents ga gb old new first n bytes went le shown =
    contents_on ga gb old new (contents_with_run first n bytes) went.sound went.sound_now (blocks_on ga gb old new went.stays) went.told refl
    (λ off known. row_none first n bytes known (omega (arith, le, off))) shown

-- what a read of blocks in a row gives, where it is one of no blocks too
pub run_read : {A B : Type 0} (ga : Ghosts A) (gb : Ghosts B) (m : Parts A B) (first n : ℕ) (bytes : List ℕ) → IsSound ga gb m → first + n ≤ blocks_now ga gb m
    → IfSome (shown_now ga gb m) (λ image. take (n * 4096) bytes ≡ bytes_at image first n) → IfSome (mirror_contents ga gb m) (λ image. take (n * 4096) bytes ≡ bytes_at image first n)
run_read ga gb m first n bytes sound le shown = ⊎_elim
    (λ (some : 0 < blocks_now ga gb m). of_shown ga gb m (λ image. take (n * 4096) bytes ≡ bytes_at image first n) sound some shown)
    (λ (off : blocks_now ga gb m ≤ 0). no_row first n bytes (mirror_contents ga gb m) (omega (arith, off, le)))
    (some_or (blocks_now ga gb m))

-- a block that may hold any bytes
pub changes_only : {A B : Type 0} (ga : Ghosts A) (gb : Ghosts B) (old new : Parts A B) (b : ℕ) → WentOn ga gb old new → b < blocks_now ga gb old → ChangesOnly b None None
    → ((bytes : List ℕ) × (shown_now ga gb new ≡ with_block b bytes (shown_now ga gb old))) → ChangesOnly b (mirror_contents ga gb old) (mirror_contents ga gb new)
changes_only ga gb old new b went lt none changed =
    let some : 0 < blocks_now ga gb old = omega (arith, lt) in
    let is : mirror_contents ga gb new ≡ with_block b changed.0 (mirror_contents ga gb old) =
    contents_on ga gb old new (with_block b changed.0) went.sound went.sound_now (blocks_on ga gb old new went.stays) went.told refl (λ off. absurd (omega (arith, some, off))) changed.1 in
    let shape : IfSome (mirror_contents ga gb new) (HasBlocks (blocks_now ga gb old)) =
    subst (λ k. IfSome (mirror_contents ga gb new) (HasBlocks k)) (blocks_on ga gb old new went.stays) (shape_of ga gb new went.sound_now) in
    changed_block (mirror_contents ga gb old) (mirror_contents ga gb new) b (blocks_now ga gb old) changed.0 lt none is shape

-- what holds at an error of two things
pub err_both : {T E P Q R : Type 0} (r : Result T E) → OnErr r P → OnErr r Q → (P → Q → R) → OnErr r R
err_both (Ok x) p q f = tt
err_both (Err e) p q f = f p q

-- a call that changes neither half
pub contents_kept : {A B : Type 0} (ga : Ghosts A) (gb : Ghosts B) (old new : Parts A B) → new.attached ≡ old.attached → moments_of new ≡ (None, old.first, old.second) ∷ moments_of old
    → ga.contents new.first ≡ ga.contents old.first → gb.contents new.second ≡ gb.contents old.second → mirror_contents ga gb new ≡ mirror_contents ga gb old
contents_kept ga gb old new at noted ka kb =
    ap (λ t. shown_both (attached_by t (last_name (moments_of new))) (ga.contents new.first) (gb.contents new.second)) at
    ∙ ap (λ (ms : List (Note × _ × _)). shown_both (attached_by old.attached (last_name ms)) (ga.contents new.first) (gb.contents new.second)) noted
    ∙ ap (λ o. shown_both (attached_by old.attached (last_name (moments_of old))) o (gb.contents new.second)) ka
    ∙ ap (λ o. shown_both (attached_by old.attached (last_name (moments_of old))) (ga.contents old.first) o) kb

-- no half goes out of use
pub left_same : {P Q : Type 0} (at at1 : Attached) → at1 ≡ at → LeftOnly (halves_of at) (halves_of at1) P Q
left_same {P} {Q} at at1 same = subst (λ t. LeftOnly (halves_of at) (halves_of t) P Q) (sym same) (record { first_did = λ uses. inl uses; second_did = λ uses. inl uses })

-- what such a call did
pub call_did : {A B T E : Type 0} (ga : Ghosts A) (gb : Ghosts B) (old new : Parts A B) (r : Result T E)
    → OnErr r (IsFull old ⊎ EachDid (in_use old) (FirstFailed ga old new) (SecondFailed gb old new))
    → LeftOnly (in_use old) (in_use new) (FirstFailed ga old new) (SecondFailed gb old new) → HalvesStay ga gb old new → CallDid ga gb old new (is_ok r)
call_did ga gb old new (Ok x) why only stays = record { why = λ off. absurd (false≢true (sym off)); in_use = only; stays = stays }
call_did ga gb old new (Err e) why only stays = record { why = λ _. why; in_use = only; stays = stays }

-- what holds at Ok of three things
pub three_ok : {T E P Q R S : Type 0} (r : Result T E) → OnOk r P → OnOk r Q → OnOk r R → (P → Q → R → S) → OnOk r S
three_ok (Ok x) p q t f = f p q t
three_ok (Err e) p q t f = tt
