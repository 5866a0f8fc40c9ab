-- What an attach of a mirror leaves to the layers above.
use Rattle.std.proofs.Common.{◌≡◌, ◌≢◌, ℕ, ◌-◌, ◌<◌, ◌≤◌, ◌⊎◌, List, [], ◌∷◌, length, take, Bool, true, false, if◌then◌else◌, Option, None, Some, IfSome, Result, Ok, Err, OnOk, OnErr, refl, sym, ap, subst, ◌∙◌, arith, inl, ⊎_elim}
use Rattle.std.specs.Prelude.{◌&&◌, ◌==◌, nat_lt, not, is_some, is_ok, IfNone}
use Rattle.std.specs.Option.{option_map}
use Rattle.std.specs.List.{position_or_len}
use Rattle.std.proofs.lemmas.Bool.{false≢true, cases_lt}
use Rattle.std.proofs.lemmas.Bool.Decides.{nat_tests}
use Rattle.std.proofs.lemmas.List.{length-take-le}
use Rattle.std.proofs.lemmas.Option.{same_Some}
use Rattle.bd_device.specs.Blocks.{Image, HasBlocks}
use Rattle.bd_device.specs.Moments.{Elapses, Nothing}
use Rattle.bd_device.specs.declared.device.Device.{Ghosts}
use Rattle.bd_device.proofs.Moments.{by_name}
use Rattle.bd_mirror.specs.Calls.{IsMirror, KeepsMarks, HalvesNamed, LeavesWhatItShows, moments_of, blocks_now, attached_to, IsFull, FirstFailed, SecondFailed}
use Rattle.bd_mirror.specs.Crashes.{LosesNothing}
use Rattle.bd_mirror.specs.Did.{AttachDid}
use Rattle.bd_mirror.specs.Contents.{is_open_at, pick, shown_together}
use Rattle.bd_mirror.specs.Halves.{is_two, blocks_in, is_too_many, AttachedTo}
use Rattle.bd_mirror.specs.Laws.{form_of, for_two, left_law}
use Rattle.bd_mirror.specs.Names.{HasPlus, first_name, second_name, IsNamed, without_last, shown_for}
use Rattle.bd_mirror.specs.Notes.{Note, last_name}
use Rattle.bd_mirror.specs.Past.{attached_for, IsLeftPast, IsPairWith, GoesByName}
use Rattle.bd_mirror.specs.Shown.{image_of, size_of, shown_both, second_image, attached_by}
use Rattle.bd_mirror.specs.Since.{IsLeftOf}
use Rattle.bd_mirror.specs.Sound.{are_told, is_attached, KeepsMoments, AreWhole, IsSound, mirror_contents, mirror_shows, GoesBy, IsLeftBehind, mirror_since}
use Rattle.bd_mirror.specs.declared.halves.Halves.TheVariants.{Both}
use Rattle.bd_mirror.specs.declared.halves.Attached.{Attached}
use Rattle.bd_mirror.specs.declared.halves.Attached.TheVariants.{Nothing as Unattached, Alone, Member, Pair, Apart}
use Rattle.bd_mirror.specs.declared.parts.Parts.{Parts}
use Rattle.bd_mirror.proofs.Behind.{shown_member, shown_pair}
use Rattle.bd_mirror.proofs.Methods.{sound_none}
use Rattle.bd_mirror.proofs.Past.{goes_now, past_attach}
use Rattle.bd_mirror.proofs.Telling.{PastOf, pair_sizes}
use Rattle.bd_mirror.proofs.Told.{told_is, known_both, as_many}

-- ---- sizes of new images

pub some_then : {P Q : ℕ → Type 0} (o : Option ℕ) → IfSome o P → ((n : ℕ) → P n → Q n) → IfSome o Q
some_then None p f = tt
some_then (Some n) p f = f n p

pub sized_then : {P Q : Type 0} (f : ℕ → ℕ) (size create : Option ℕ) → size ≡ option_map f create → IfSome size (λ _. P) → (P → Q) → IfSome create (λ _. Q)
sized_then f size None is p go = tt
sized_then {P} f size (Some n) is p go = go (subst (λ (o : Option ℕ). IfSome o (λ _. P)) is p)

pub ok_sized : {T E : Type 0} (P : Type 0) (f : ℕ → ℕ) (r : Result T E) (size create : Option ℕ) → size ≡ option_map f create → OnOk r (IfSome size (λ _. P)) → OnOk r (IfSome create (λ _. P))
ok_sized P f (Err e) size create is p = tt
ok_sized P f (Ok x) size create is p = sized_then {P = P} {Q = P} f size create is p (λ q. q)

pub both_sized : {P Q R : Type 0} (o : Option ℕ) → IfSome o (λ _. P) → IfSome o (λ _. Q) → (P → Q → R) → IfSome o (λ _. R)
both_sized None p q f = tt
both_sized (Some n) p q f = f p q

-- two that show the same together are known alike
together_some : (p q : Option Image) → is_some (shown_together p q) ≡ (is_some p && is_some q)
together_some None None = refl
together_some None (Some y) = refl
together_some (Some x) None = refl
together_some (Some x) (Some y) = refl

pub together_known : (a a' b b' : Option Image) → shown_together a' b' ≡ shown_together a b → (is_some a' && is_some b') ≡ (is_some a && is_some b)
together_known a a' b b' same = sym (together_some a' b') ∙ ap is_some same ∙ together_some a b

-- ---- what is shown for a name

-- it is known where the second half's image is
abbrev with_known : Option Image → Option Image → Option Image
with_known None shown = None
with_known (Some y) shown = shown

alone_both : (p h : Option Image) → shown_both Alone p h ≡ with_known h p
alone_both None None = refl
alone_both None (Some y) = refl
alone_both (Some x) None = refl
alone_both (Some x) (Some y) = refl

member_both : (p h : Option Image) → shown_both Member p h ≡ with_known h (option_map without_last p)
member_both None None = refl
member_both None (Some y) = refl
member_both (Some x) None = refl
member_both (Some x) (Some y) = refl

pair_both : (p q : Option Image) → shown_both (Pair Both) p q ≡ shown_together p q
pair_both None None = refl
pair_both None (Some y) = refl
pair_both (Some x) None = refl
pair_both (Some x) (Some y) = refl

shown_alone : (name : List ℕ) (first second : Option Image) → ¬ HasPlus name → shown_for name first second ≡ first
shown_alone name first second off =
    let none : nat_lt (position_or_len (λ byte. byte == 43) name) (length name) ≡ false = ⊎_elim
    (λ plus. absurd (off plus)) (λ late. let e : nat_lt (position_or_len (λ byte. byte == 43) name) (length name) ≡ false = grind (arith, nat_tests, late) in e)
    (cases_lt (position_or_len (λ byte. byte == 43) name) (length name)) in
    ap (λ t. if t then (if length (second_name name) == 0 then option_map without_last first else shown_together first second) else first) none

-- what the halves show for theirs stays, so what the mirror shows does
pub shows_same : (name : List ℕ) (p p' held held' named named' : Option Image) → shown_for name p' named' ≡ shown_for name p named → ((HasPlus name → second_name name ≡ []) → held' ≡ held)
    → shown_both (attached_for name) p' (second_image (attached_for name) held' named') ≡ shown_both (attached_for name) p (second_image (attached_for name) held named)
shows_same name p p' held held' named named' same kept =
    let goal : Attached → Type 0 = λ kind. shown_both kind p' (second_image kind held' named') ≡ shown_both kind p (second_image kind held named) in
    ⊎_elim
    (λ (one : (¬ HasPlus name) × (attached_for name ≡ Alone)). subst goal (sym one.1)
    (alone_both p' held' ∙ ap (λ h. with_known h p') (kept (λ plus. absurd (one.0 plus)))
    ∙ ap (with_known held) (sym (shown_alone name p' named' one.0) ∙ same ∙ shown_alone name p named one.0) ∙ sym (alone_both p held)))
    (λ more. ⊎_elim
    (λ (one : HasPlus name × (second_name name ≡ []) × (attached_for name ≡ Member)). subst goal (sym one.2)
    (member_both p' held' ∙ ap (λ h. with_known h (option_map without_last p')) (kept (λ _. one.1))
    ∙ ap (with_known held) (sym (shown_member name p' named' one.0 one.1) ∙ same ∙ shown_member name p named one.0 one.1) ∙ sym (member_both p held)))
    (λ (two : HasPlus name × (second_name name ≢ []) × (attached_for name ≡ Pair Both)). subst goal (sym two.2)
    (pair_both p' named' ∙ sym (shown_pair name p' named' two.0 two.1) ∙ same ∙ shown_pair name p named two.0 two.1 ∙ sym (pair_both p named)))
    more)
    (form_of name)

-- ---- lengths

pair_length : (m n : ℕ) → (m == n && nat_lt 0 m) ≡ true → m ≡ n
pair_length m n is = (as_many m n is).0

one_long : (n : ℕ) (t : Bool) (u v : Image) → length u ≡ n → length v ≡ n → length (if t then u else v) ≡ n
one_long n true u v lu lv = lu
one_long n false u v lu lv = lv

length_pick : (k ma mb : ℕ) (x y : Image) → k ≤ length x → k ≤ length y → length (pick k ma mb x y) ≡ k
length_pick k ma mb x y lx ly = one_long k (is_open_at mb y && not (is_open_at ma x)) (take k y) (take k x) (length-take-le k y ly) (length-take-le k x lx)

length_by : (x y : Image) (t : Bool) → (length x == length y && nat_lt 0 (length x)) ≡ t → length (if t then pick (length x - 1) (length x - 1) (length x - 1) x y else []) ≡ (if t then length x - 1 else 0)
length_by x y false is = refl
length_by x y true is =
    let equal : length x ≡ length y = (pair_length (length x) (length y) is) in
    length_pick (length x - 1) (length x - 1) (length x - 1) x y (omega arith) (omega (arith, equal))

-- the image of two images has as many blocks as their lengths say
pub image_length : (kind : Attached) (x y : Image) → length (image_of kind x y) ≡ size_of kind (length x) (length y)
image_length Unattached x y = refl
image_length Alone x y = refl
image_length Member x y = length-take-le (length x - 1) x (omega arith)
image_length (Pair h) x y = length_by x y (length x == length y && nat_lt 0 (length x)) refl
image_length (Apart h) x y = refl

-- halves of the same image have as many blocks
same_by : (m n m1 n1 : ℕ) (t t1 : Bool) → (m == n && nat_lt 0 m) ≡ t → (m1 == n1 && nat_lt 0 m1) ≡ t1 → (if t1 then m1 - 1 else 0) ≡ (if t then m - 1 else 0) → 0 < (if t then m - 1 else 0) → m1 ≡ m
same_by m n m1 n1 false t1 is is1 same some = absurd (omega (arith, some))
same_by m n m1 n1 true false is is1 same some = absurd (omega (arith, some, same))
same_by m n m1 n1 true true is is1 same some = omega (arith, some, same)

half_size : (kind : Attached) (m n m1 n1 : ℕ) → size_of kind m1 n1 ≡ size_of kind m n → 0 < size_of kind m n → m1 ≡ m
half_size Unattached m n m1 n1 same some = absurd (omega (arith, some))
half_size Alone m n m1 n1 same some = same
half_size Member m n m1 n1 same some = omega (arith, same, some)
half_size (Pair h) m n m1 n1 same some = same_by m n m1 n1 (m == n && nat_lt 0 m) (m1 == n1 && nat_lt 0 m1) refl refl same some
half_size (Apart h) m n m1 n1 same some = absurd (omega (arith, some))

-- ---- images of other halves that show the same

from_shown : (kind : Attached) (p q : Option Image) (i : Image) → shown_both kind p q ≡ Some i → (x y : Image) × (p ≡ Some x) × (q ≡ Some y) × (image_of kind x y ≡ i)
from_shown kind None None i is = cc
from_shown kind None (Some y) i is = cc
from_shown kind (Some x) None i is = cc
from_shown kind (Some x) (Some y) i is = (x, y, refl, refl, same_Some (image_of kind x y) i is)

record ShowsAs (kind : Attached) (p q : Option Image) (x y : Image) : Type 0 where
  first : Image
  second : Image
  first_shown : p ≡ Some first
  second_shown : q ≡ Some second
  same_size : size_of kind (length first) (length second) ≡ size_of kind (length x) (length y)
  same_length : length first ≡ length x

shows_as : (kind : Attached) (p q p' q' : Option Image) (x y : Image) → shown_both kind p' q' ≡ shown_both kind p q → p ≡ Some x → q ≡ Some y → 0 < size_of kind (length x) (length y) → ShowsAs kind p' q' x y
shows_as kind p q p' q' x y same kx ky some =
    let found = from_shown kind p' q' (image_of kind x y) (same ∙ told_is kind p q x y kx ky) in
    let size : size_of kind (length found.0) (length found.1) ≡ size_of kind (length x) (length y) = sym (image_length kind found.0 found.1) ∙ ap length found.4 ∙ image_length kind x y in
    record {
      first = found.0;
      second = found.1;
      first_shown = found.2;
      second_shown = found.3;
      same_size = size;
      same_length = half_size kind (length x) (length y) (length found.0) (length found.1) size some;
    }

-- a pair whose image has blocks
pair_with : (name : List ℕ) (x y : Image) (held named : Option Image) → second_image (attached_for name) held named ≡ Some y → 0 < size_of (attached_for name) (length x) (length y) → IsPairWith name x named
pair_with name x y held named shown some = λ plus more.
    let two : attached_for name ≡ Pair Both = for_two name plus more in
    let sizes = pair_sizes (length x) (length y) (length x == length y && nat_lt 0 (length x)) refl (subst (λ at. 0 < size_of at (length x) (length y)) two some) in
    (y, subst (λ at. second_image at held named ≡ Some y) two shown, sizes.1, sizes.0)

-- ---- since an earlier call

pub attach_time : {A B : Type 0} (ga : Ghosts A) (gb : Ghosts B) (sa : A → List ℕ → Option Image) (sb : B → List ℕ → Option Image) (la : A → List ℕ → ℕ → Image → Type 0) (lb : B → List ℕ → ℕ → Image → Type 0) (old new : Parts A B) (name : List ℕ) (n n1 : ℕ)
    → moments_of new ≡ (Some (name, None), old.first, old.second) ∷ moments_of old → n ≤ n1 → n ≤ length (moments_of old)
    → mirror_shows gb sa sb new name ≡ mirror_shows gb sa sb old name
    → GoesByName name (sa old.first (first_name name)) (sb old.second (second_name name)) (λ d. la d (first_name name)) (λ d. lb d (second_name name)) ga.call_count gb.call_count old.first old.second new.first new.second
    → Elapses n n1 (IsLeftBehind ga gb sa sb la lb old name) (IsLeftBehind ga gb sa sb la lb new name) Nothing
attach_time ga gb sa sb la lb old new name n n1 noted later kept same goes =
    let kind : Attached = attached_for name in
    let first : List ℕ = first_name name in
    let second : List ℕ = second_name name in
    let p : Option Image = sa old.first first in
    let q : Option Image = second_image kind (gb.contents old.second) (sb old.second second) in
    let p' : Option Image = sa new.first first in
    let q' : Option Image = second_image kind (gb.contents new.second) (sb new.second second) in
    let time : (x y : Image) → p ≡ Some x → q ≡ Some y → 0 < size_of kind (length x) (length y)
    → Elapses n n1 (PastOf ga gb la lb old name (length x)) (PastOf ga gb la lb new name (length x)) Nothing =
    λ x y kx ky some.
    let over = goes x kx (pair_with name x y (gb.contents old.second) (sb old.second second) ky some) in
    subst (λ (ms : List (Note × _ × _)). Elapses n n1 (PastOf ga gb la lb old name (length x))
    (IsLeftPast (λ d. la d first) (λ d. lb d second) ga.call_count gb.call_count (IsLeftOf kind (length x) (length x)) name ms new.first new.second) Nothing) (sym noted)
    (past_attach (λ d. la d first) (λ d. lb d second) ga.call_count gb.call_count (IsLeftOf kind (length x) (length x)) name (moments_of old) old.first new.first old.second new.second n n1 later kept
    (goes_now (λ d. la d first) (λ d. lb d second) ga.call_count gb.call_count kind (length x) old.first old.second over.0 old.first new.first old.second new.second over.1)) in
    record {
      later = later;
      keeps = λ t c le was.
          let other = shows_as kind p q p' q' was.first was.second same was.first_shown was.second_shown was.some in
          record {
            first = other.first;
            second = other.second;
            first_shown = other.first_shown;
            second_shown = other.second_shown;
            some = subst (λ k. 0 < k) (sym other.same_size) was.some;
            shape = subst (λ k. HasBlocks k c) (sym other.same_size) was.shape;
            left = subst (λ k. PastOf ga gb la lb new name k t c) (sym other.same_length) ((time was.first was.second was.first_shown was.second_shown was.some).keeps t c le was.left);
          };
      adds = λ t c le left.
          let other = shows_as kind p' q' p q left.first left.second (sym same) left.first_shown left.second_shown left.some in
          let some : 0 < size_of kind (length other.first) (length other.second) = subst (λ k. 0 < k) (sym other.same_size) left.some in
          inl (record {
            first = other.first;
            second = other.second;
            first_shown = other.first_shown;
            second_shown = other.second_shown;
            some = some;
            shape = subst (λ k. HasBlocks k c) (sym other.same_size) left.shape;
            left = ⊎_elim (λ was. was) (λ none. absurd none)
                ((time other.first other.second other.first_shown other.second_shown some).adds t c le (subst (λ k. PastOf ga gb la lb new name k t c) (sym other.same_length) left.left));
          });
    }

-- ---- what is attached afterwards

two_attached : (at : Attached) → is_two at ≡ true → is_attached at ≡ true
two_attached Unattached two = absurd (false≢true two)
two_attached Alone two = refl
two_attached Member two = refl
two_attached (Pair h) two = refl
two_attached (Apart h) two = refl

pub named_attached : (name : List ℕ) (at : Attached) (na nb : ℕ) → IsNamed name at na nb → is_attached at ≡ true
named_attached name at na nb named = ⊎_elim
    (λ (one : (¬ HasPlus name) × (attached_for name ≡ Alone)). ap is_attached (named.alone one.0))
    (λ more. ⊎_elim
    (λ (one : HasPlus name × (second_name name ≡ []) × (attached_for name ≡ Member)). ap is_attached (named.member one.0 one.1))
    (λ (two : HasPlus name × (second_name name ≢ []) × (attached_for name ≡ Pair Both)). two_attached at (named.two two.0 two.1))
    more)
    (form_of name)

pub ok_none : {T E P Q R : Type 0} (r : Result T E) (o : Option ℕ) → OnOk r P → IfNone o Q → (P → Q → R) → OnOk r (IfNone o R)
ok_none (Err e) o p q f = tt
ok_none (Ok x) None p q f = f p q
ok_none (Ok x) (Some n) p q f = tt

pub err_none : {T E Q : Type 0} (r : Result T E) → Q → OnErr r Q
err_none (Ok x) q = tt
err_none (Err e) q = q

-- it goes by the name
by_noted : {A B : Type 0} (ga : Ghosts A) (gb : Ghosts B) (old new : Parts A B) (name : List ℕ) (create : Option ℕ) → moments_of new ≡ (Some (name, create), old.first, old.second) ∷ moments_of old
    → IsNamed name new.attached (ga.block_count new.first) (gb.block_count new.second) → HalvesNamed ga gb name new → GoesBy ga gb new name
by_noted ga gb old new name create noted named halves = record {
  last = ap last_name noted;
  attached = named_attached name new.attached (ga.block_count new.first) (gb.block_count new.second) named;
  halves = halves;
}

pub goes_by_name : {A B T E : Type 0} (ga : Ghosts A) (gb : Ghosts B) (old new : Parts A B) (name : List ℕ) (create : Option ℕ) (r : Result T E) → moments_of new ≡ (Some (name, create), old.first, old.second) ∷ moments_of old
    → OnOk r (IsNamed name new.attached (ga.block_count new.first) (gb.block_count new.second)) → OnOk r (HalvesNamed ga gb name new) → OnOk r (GoesBy ga gb new name)
goes_by_name ga gb old new name create (Err e) noted named halves = tt
goes_by_name ga gb old new name create (Ok x) noted named halves = by_noted ga gb old new name create noted named halves

-- what holds of each mirror holds after an attach
pub sound_attached : {A B T E : Type 0} (ga : Ghosts A) (gb : Ghosts B) (old new : Parts A B) (name : List ℕ) (create : Option ℕ) (r : Result T E) → moments_of new ≡ (Some (name, create), old.first, old.second) ∷ moments_of old
    → KeepsMoments new → AreWhole ga gb new → OnOk r (IsNamed name new.attached (ga.block_count new.first) (gb.block_count new.second)) → OnOk r (HalvesNamed ga gb name new)
    → OnOk r (IsMirror ga gb new) → OnOk r (KeepsMarks ga gb new) → OnErr r (new.attached ≡ Unattached) → IsSound ga gb new
sound_attached ga gb old new name create (Err e) noted counted whole named halves marked kept detached = sound_none ga gb new detached counted whole
sound_attached ga gb old new name create (Ok x) noted counted whole named halves marked kept detached = record {
  counted = counted;
  marked = marked;
  kept = kept;
  whole = whole;
  by_name = λ has. (name, record { last = ap last_name noted; halves = halves; named = named });
}

pub attach_detached : {A B T E : Type 0} (ga : Ghosts A) (gb : Ghosts B) (new : Parts A B) (r : Result T E) → OnErr r (new.attached ≡ Unattached) → OnErr r (blocks_now ga gb new ≡ 0)
attach_detached ga gb new (Ok x) detached = tt
attach_detached ga gb new (Err e) detached = ap (λ at. blocks_in at (ga.block_count new.first) (gb.block_count new.second)) detached

pub attach_told : {A B T E : Type 0} (ga : Ghosts A) (gb : Ghosts B) (old new : Parts A B) (create : Option ℕ) (r : Result T E) → OnOk r (IfSome create (λ _. are_told ga gb new ≡ are_told ga gb old))
    → OnOk r (IfSome create (λ _. is_some (mirror_contents ga gb new) ≡ is_some (mirror_contents ga gb old)))
attach_told ga gb old new create (Err e) told = tt
attach_told ga gb old new create (Ok x) told = some_then create told (λ _ same.
    known_both (attached_by new.attached (last_name (moments_of new))) (ga.contents new.first) (gb.contents new.second) ∙ same
    ∙ sym (known_both (attached_by old.attached (last_name (moments_of old))) (ga.contents old.first) (gb.contents old.second)))

-- with `None`
pub attach_times : {A B : Type 0} (ga : Ghosts A) (gb : Ghosts B) (sa : A → List ℕ → Option Image) (sb : B → List ℕ → Option Image) (la : A → List ℕ → ℕ → Image → Type 0) (lb : B → List ℕ → ℕ → Image → Type 0) (old new : Parts A B) (name : List ℕ) (create : Option ℕ) (n n1 : ℕ)
    → moments_of new ≡ (Some (name, create), old.first, old.second) ∷ moments_of old → n ≤ n1 → n ≤ length (moments_of old)
    → IfNone create (mirror_shows gb sa sb new name ≡ mirror_shows gb sa sb old name)
    → IfNone create (GoesByName name (sa old.first (first_name name)) (sb old.second (second_name name)) (λ d. la d (first_name name)) (λ d. lb d (second_name name)) ga.call_count gb.call_count old.first old.second new.first new.second)
    → IfNone create (Elapses n n1 (IsLeftBehind ga gb sa sb la lb old name) (IsLeftBehind ga gb sa sb la lb new name) Nothing)
attach_times ga gb sa sb la lb old new name (Some k) n n1 noted later kept same goes = tt
attach_times ga gb sa sb la lb old new name None n n1 noted later kept same goes = attach_time ga gb sa sb la lb old new name n n1 noted later kept same goes

-- of what is attached then
pub attach_since : {A B : Type 0} (ga : Ghosts A) (gb : Ghosts B) (sa : A → List ℕ → Option Image) (sb : B → List ℕ → Option Image) (la : A → List ℕ → ℕ → Image → Type 0) (lb : B → List ℕ → ℕ → Image → Type 0) (old new : Parts A B) (name : List ℕ) (n n1 : ℕ)
    → GoesBy ga gb new name → Elapses n n1 (IsLeftBehind ga gb sa sb la lb old name) (IsLeftBehind ga gb sa sb la lb new name) Nothing
    → Elapses n n1 (IsLeftBehind ga gb sa sb la lb old name) (mirror_since ga gb sa sb la lb new) Nothing
attach_since ga gb sa sb la lb old new name n n1 by time = by_name Nothing time (λ t image.
    let same = left_law ga gb sa sb la lb new name t image by in (same.1, same.0))

-- what holds with `None`
from_none : (X : Type 0) (o : Option ℕ) → o ≡ None → IfNone o X → X
from_none X None is x = x
from_none X (Some n) is x = cc

-- what it did
pub attach_did : {A B T E : Type 0} (ga : Ghosts A) (gb : Ghosts B) (sa : A → List ℕ → Option Image) (sb : B → List ℕ → Option Image) (la : A → List ℕ → ℕ → Image → Type 0) (lb : B → List ℕ → ℕ → Image → Type 0) (old new : Parts A B) (name : List ℕ) (create : Option ℕ) (r : Result T E)
    → OnErr r (IsFull old ⊎ (is_too_many create ≡ true) ⊎ FirstFailed ga old new ⊎ SecondFailed gb old new)
    → OnOk r (AttachedTo (attached_to new) (FirstFailed ga old new) (SecondFailed gb old new)) → OnOk r (LeavesWhatItShows ga gb new)
    → OnOk r (attached_to new ≡ Member → 0 < ga.block_count new.first → IfSome (ga.contents new.first) (λ image. is_open_at (ga.block_count new.first - 1) image ≡ true))
    → IfNone create (HasPlus name → second_name name ≢ [] → LosesNothing (λ d. sa d (first_name name)) (λ d. sb d (second_name name)) (λ d. la d (first_name name)) (λ d. lb d (second_name name))
    ga.call_count gb.call_count old.first old.second new.first new.second)
    → IfNone create (GoesByName name (sa old.first (first_name name)) (sb old.second (second_name name)) (λ d. la d (first_name name)) (λ d. lb d (second_name name)) ga.call_count gb.call_count old.first old.second new.first new.second)
    → AttachDid ga gb sa sb la lb name create old new (is_ok r)
attach_did ga gb sa sb la lb old new name create (Ok x) why attached left opened inside goes = record {
  why = λ off. absurd (false≢true (sym off));
  attached = λ _. attached;
  left = λ _. left;
  opened = λ _. opened;
  inside = λ none. from_none _ create none inside;
  by_name = λ none. from_none _ create none goes;
}
attach_did ga gb sa sb la lb old new name create (Err e) why attached left opened inside goes = record {
  why = λ _. why;
  attached = λ ok. absurd (false≢true ok);
  left = λ ok. absurd (false≢true ok);
  opened = λ ok. absurd (false≢true ok);
  inside = λ none. from_none _ create none inside;
  by_name = λ none. from_none _ create none goes;
}
