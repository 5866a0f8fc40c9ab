-- What two halves show together stays, also where an attach of both fails.
use Rattle.std.proofs.Common.{◌≡◌, ◌≢◌, ℕ, ◌+◌, ◌-◌, min, length, take, Option, None, Some, IfSome, [], List, Bool, true, false, if◌then◌else◌, refl, sym, ap, subst, ◌∙◌, arith}
use Rattle.std.specs.Prelude.{◌&&◌, ◌==◌, nat_lt, not, IfNone}
use Rattle.std.specs.Option.{option_map}
use Rattle.std.proofs.lemmas.Bool.{false≢true}
use Rattle.std.proofs.lemmas.Bool.Decides.{nat_tests}
use Rattle.bd_device.specs.Blocks.{Image, HasBlocks}
use Rattle.bd_device.specs.Changes.{StaysBut, IsInRange}
use Rattle.bd_device.proofs.Changes.{stays_both, stays_same, stays_wider}
use Rattle.bd_mirror.specs.declared.halves.Halves.{Halves}
use Rattle.bd_mirror.specs.declared.halves.Attached.TheVariants.{Pair}
use Rattle.bd_mirror.specs.Contents.{is_open_at, pick, picked, shown_by, shown_together, IsCopy, KeepsPick}
use Rattle.bd_mirror.specs.Laws.{has_plus, some_bytes}
use Rattle.bd_mirror.specs.Names.{HasPlus, first_name, second_name, without_last, shown_for}
use Rattle.bd_mirror.proofs.Crashes.{is_known}
use Rattle.bd_mirror.proofs.Joined.{at_mark, pick_source, alone_open, alone_closed}
use Rattle.bd_mirror.proofs.Marks.{take_but_mark, pick_closed, pick_open, pick_second}

-- ---- what changes

pub mark_within : (mark : ℕ) (old new : Option Image) → StaysBut (λ i. i ≡ mark) old new → StaysBut (IsInRange 0 (mark + 1)) old new
mark_within mark old new same = stays_wider (λ i. i ≡ mark) (IsInRange 0 (mark + 1)) old new (λ i e. (omega arith, omega (arith, e))) same

pub copied_within : (mark : ℕ) (old mid new : Option Image) → StaysBut (λ i. i ≡ mark) old mid → StaysBut (IsInRange 0 mark) mid new → StaysBut (IsInRange 0 (mark + 1)) old new
copied_within mark old mid new closed copied =
    stays_both (IsInRange 0 (mark + 1)) old mid new (mark_within mark old mid closed)
    (stays_wider (IsInRange 0 mark) (IsInRange 0 (mark + 1)) mid new (λ i within. (within.0, omega (arith, within.1))) copied)

-- ---- the source and its copy

both_none : (mark : ℕ) (c c' : Option Image) → picked mark mark mark c' None ≡ picked mark mark mark c None
both_none mark None None = refl
both_none mark None (Some b) = refl
both_none mark (Some b) None = refl
both_none mark (Some b) (Some b') = refl

-- the pick stays where it does of known images
keeps_known : (mark : ℕ) (alone : Bool) (s c s' c' : Option Image) → StaysBut (λ i. i ≡ mark) s s' → StaysBut (IsInRange 0 (mark + 1)) c c'
    → ((a b a' b' : Image) → s ≡ Some a → c ≡ Some b → s' ≡ Some a' → c' ≡ Some b' → take mark a' ≡ take mark a
    → (pick mark mark mark a' b' ≡ pick mark mark mark a b) × (alone ≡ true → pick mark mark mark b' a' ≡ pick mark mark mark b a))
    → KeepsPick mark alone s c s' c'
keeps_known mark alone None c None c' sa sb known = record { as_first = refl; as_second = λ _. both_none mark c c' }
keeps_known mark alone None c (Some a') c' sa sb known = absurd sa
keeps_known mark alone (Some a) c None c' sa sb known = absurd sa
keeps_known mark alone (Some a) None (Some a') None sa sb known = record { as_first = refl; as_second = λ _. refl }
keeps_known mark alone (Some a) None (Some a') (Some b') sa sb known = absurd sb
keeps_known mark alone (Some a) (Some b) (Some a') None sa sb known = absurd sb
keeps_known mark alone (Some a) (Some b) (Some a') (Some b') sa sb known =
    let kept = known a b a' b' refl refl refl refl (take_but_mark mark mark a a' (omega arith) sa) in
    record { as_first = ap Some kept.0; as_second = λ one. ap Some (kept.1 one) }

-- the source's mark wasn't opened
pub keeps_open : (mark : ℕ) (os oc : Bool) (s c s' : Option Image) → IfSome c (λ i. is_open_at mark i ≡ oc) → (oc && not os) ≡ false
    → StaysBut (λ i. i ≡ mark) s s' → ((os ≡ true) → s' ≡ s) → KeepsPick mark (os && not oc) s c s' c
keeps_open mark true oc s c s' mc first sa same = record {
  as_first = ap (λ o. picked mark mark mark o c) (same refl);
  as_second = λ _. ap (λ o. picked mark mark mark c o) (same refl);
}
keeps_open mark false true s c s' mc first sa same = absurd (false≢true (sym first))
keeps_open mark false false s c s' mc first sa same =
    keeps_known mark false s c s' c sa (stays_same (IsInRange 0 (mark + 1)) c) (λ a b a' b' ka kb ka' kb' still.
    let closed : is_open_at mark b ≡ false = is_known (λ i. is_open_at mark i ≡ false) c b kb mc in
    let shut : is_open_at mark b' ≡ false = is_known (λ i. is_open_at mark i ≡ false) c b' kb' mc in
    (pick_closed mark mark mark a' b' shut ∙ still ∙ sym (pick_closed mark mark mark a b closed), λ one. absurd (false≢true one)))

-- the copy's mark wasn't closed, or the source couldn't be read
pub keeps_source : (mark : ℕ) (os oc : Bool) (s c s' c' : Option Image) → IfSome s (λ i. is_open_at mark i ≡ os) → IfSome c (λ i. is_open_at mark i ≡ oc) → (oc && not os) ≡ false
    → StaysBut (λ i. i ≡ mark) s s' → StaysBut (IsInRange 0 (mark + 1)) c c' → IfSome s' (λ i. is_open_at mark i ≡ true) → (oc ≡ false → IfSome c' (λ i. is_open_at mark i ≡ false))
    → KeepsPick mark (os && not oc) s c s' c'
keeps_source mark os oc s c s' c' ms mc first sa sb opened closed =
    keeps_known mark (os && not oc) s c s' c' sa sb (λ a b a' b' ka kb ka' kb' still.
    let ea : is_open_at mark a ≡ os = is_known (λ i. is_open_at mark i ≡ os) s a ka ms in
    let eb : is_open_at mark b ≡ oc = is_known (λ i. is_open_at mark i ≡ oc) c b kb mc in
    let wide : is_open_at mark a' ≡ true = is_known (λ i. is_open_at mark i ≡ true) s' a' ka' opened in (
      pick_open mark mark mark a' b' wide ∙ still ∙ sym (pick_source mark a b os oc ea eb first),
      λ one.
          let shut : is_open_at mark b' ≡ false = is_known (λ i. is_open_at mark i ≡ false) c' b' kb' (closed (alone_closed os oc one)) in
          pick_second mark mark mark b' a' shut wide ∙ still ∙ sym (pick_second mark mark mark b a (eb ∙ alone_closed os oc one) (ea ∙ alone_open os oc one)),
    ))

-- whether the mark is open or not
ended : (mark : ℕ) (a' b' base : Image) (o : Bool) → is_open_at mark a' ≡ o → is_open_at mark b' ≡ false → take mark a' ≡ base → take mark b' ≡ base
    → pick mark mark mark b' a' ≡ base
ended mark a' b' base true opens shut still copy = pick_second mark mark mark b' a' shut opens ∙ still
ended mark a' b' base false closes shut still copy = pick_closed mark mark mark b' a' closes ∙ copy

-- the source's mark wasn't closed behind a copy
pub keeps_copied : (mark : ℕ) (os oc : Bool) (s c s' c' : Option Image) → IfSome s (λ i. is_open_at mark i ≡ os) → IfSome c (λ i. is_open_at mark i ≡ oc) → (oc && not os) ≡ false
    → StaysBut (λ i. i ≡ mark) s s' → StaysBut (IsInRange 0 (mark + 1)) c c' → IfSome c' (λ i. is_open_at mark i ≡ false) → IsCopy mark s c'
    → KeepsPick mark (os && not oc) s c s' c'
keeps_copied mark os oc s c s' c' ms mc first sa sb closed copied =
    keeps_known mark (os && not oc) s c s' c' sa sb (λ a b a' b' ka kb ka' kb' still.
    let ea : is_open_at mark a ≡ os = is_known (λ i. is_open_at mark i ≡ os) s a ka ms in
    let eb : is_open_at mark b ≡ oc = is_known (λ i. is_open_at mark i ≡ oc) c b kb mc in
    let shut : is_open_at mark b' ≡ false = is_known (λ i. is_open_at mark i ≡ false) c' b' kb' closed in
    let copy : take mark b' ≡ take mark a = subst (λ (o : Option Image). IsCopy mark o (Some b')) ka (subst (λ (o : Option Image). IsCopy mark s o) kb' copied) in (
      pick_closed mark mark mark a' b' shut ∙ still ∙ sym (pick_source mark a b os oc ea eb first),
      λ one. ended mark a' b' (take mark a) (is_open_at mark a') refl shut still copy
          ∙ sym (pick_second mark mark mark b a (eb ∙ alone_closed os oc one) (ea ∙ alone_open os oc one)),
    ))

-- ---- what both show

-- the known image has so many blocks
abbrev HasLength : ℕ → Option Image → Type 0
HasLength n known = IfSome known (λ image. length image ≡ n)

pub length_known : (n count : ℕ) (known : Option Image) → count ≡ n → IfSome known (HasBlocks count) → HasLength n known
length_known n count None e shape = tt
length_known n count (Some image) e shape = shape.count_is ∙ e

length_stays : (n : ℕ) (changed : ℕ → Type 0) (old new : Option Image) → StaysBut changed old new → HasLength n old → HasLength n new
length_stays n changed None None same is = tt
length_stays n changed None (Some new) same is = absurd same
length_stays n changed (Some old) None same is = tt
length_stays n changed (Some old) (Some new) same is = same.size ∙ is

-- two halves with a mark each show their pick
together_is : (mark : ℕ) (a b : Option Image) → HasLength (mark + 1) a → HasLength (mark + 1) b → shown_together a b ≡ picked mark mark mark a b
together_is mark None None la lb = refl
together_is mark None (Some b) la lb = refl
together_is mark (Some a) None la lb = refl
together_is mark (Some a) (Some b) la lb =
    let equal : (length a == length b && nat_lt 0 (length a)) ≡ true = grind (arith, nat_tests, la, lb) in
    let last : length a - 1 ≡ mark = omega (arith, la) in
    ap (λ t. Some (if t then pick (length a - 1) (length a - 1) (length a - 1) a b else [])) equal ∙ ap (λ n. Some (pick n n n a b)) last

-- so that stays where the pick does
pub together_kept : (mark na nb : ℕ) (a b a1 b1 a' b' : Option Image) → na ≡ mark + 1 → nb ≡ mark + 1 → IfSome a (HasBlocks na) → IfSome b (HasBlocks nb) → a1 ≡ a → b1 ≡ b
    → StaysBut (IsInRange 0 (mark + 1)) a1 a' → StaysBut (IsInRange 0 (mark + 1)) b1 b' → picked mark mark mark a' b' ≡ picked mark mark mark a1 b1
    → shown_together a' b' ≡ shown_together a b
together_kept mark na nb a b a1 b1 a' b' ea eb shape_a shape_b is_a is_b sa sb same =
    let la : HasLength (mark + 1) a = length_known (mark + 1) na a ea shape_a in
    let lb : HasLength (mark + 1) b = length_known (mark + 1) nb b eb shape_b in
    let la' : HasLength (mark + 1) a' = length_stays (mark + 1) (IsInRange 0 (mark + 1)) a1 a' sa (subst (HasLength (mark + 1)) (sym is_a) la) in
    let lb' : HasLength (mark + 1) b' = length_stays (mark + 1) (IsInRange 0 (mark + 1)) b1 b' sb (subst (HasLength (mark + 1)) (sym is_b) lb) in
    together_is mark a' b' la' lb' ∙ same ∙ ap (λ o. picked mark mark mark o b1) is_a ∙ ap (λ o. picked mark mark mark a o) is_b ∙ sym (together_is mark a b la lb)

at_mark_only : (mark na nb : ℕ) (a b : Option Image) → na ≡ mark + 1 → nb ≡ mark + 1 → picked mark mark mark a b ≡ picked (min na nb - 1) (na - 1) (nb - 1) a b
at_mark_only mark na nb a b ea eb = at_mark (λ n ma mb. picked mark mark mark a b ≡ picked n ma mb a b) mark na nb ea eb refl

-- and where two halves were joined
pub together_joined : (h : Halves) (mark na nb na' nb' : ℕ) (a b a1 b1 a' b' : Option Image) → na ≡ mark + 1 → nb ≡ mark + 1 → na' ≡ na → nb' ≡ nb
    → IfSome a (HasBlocks na) → IfSome b (HasBlocks nb) → a1 ≡ a → b1 ≡ b
    → StaysBut (IsInRange 0 (mark + 1)) a1 a' → StaysBut (IsInRange 0 (mark + 1)) b1 b' → shown_by (Pair h) na' nb' a' b' ≡ shown_by (Pair h) na nb a b
    → shown_together a' b' ≡ shown_together a b
together_joined h mark na nb na' nb' a b a1 b1 a' b' ea eb ca cb shape_a shape_b is_a is_b sa sb shown =
    let same : picked mark mark mark a' b' ≡ picked mark mark mark a b =
    at_mark_only mark na' nb' a' b' (ca ∙ ea) (cb ∙ eb) ∙ shown ∙ sym (at_mark_only mark na nb a b ea eb) in
    together_kept mark na nb a b a1 b1 a' b' ea eb shape_a shape_b is_a is_b sa sb
    (same ∙ ap (λ o. picked mark mark mark o b) (sym is_a) ∙ ap (λ o. picked mark mark mark a1 o) (sym is_b))

-- ---- by names

pub pair_behind : (size : Option ℕ) (a' b' a b : Option Image) → IfNone size (a' ≡ a) → IfNone size (b' ≡ b) → IfNone size (shown_together a' b' ≡ shown_together a b)
pair_behind None a' b' a b ea eb = ap (λ o. shown_together o b') ea ∙ ap (λ o. shown_together a o) eb
pair_behind (Some n) a' b' a b ea eb = tt

pub pair_joined : (size : Option ℕ) (sa sb a' b' a b a0 b0 : Option Image) → sa ≡ a' → sb ≡ b' → shown_together a' b' ≡ shown_together a b → IfNone size (a ≡ a0) → IfNone size (b ≡ b0)
    → IfNone size (shown_together sa sb ≡ shown_together a0 b0)
pair_joined (Some n) sa sb a' b' a b a0 b0 na nb joined ea eb = tt
pair_joined None sa sb a' b' a b a0 b0 na nb joined ea eb =
    ap (λ o. shown_together o sb) na ∙ ap (λ o. shown_together a' o) nb ∙ joined ∙ ap (λ o. shown_together o b) ea ∙ ap (λ o. shown_together a0 o) eb

-- of a half whose last block was written
member_stays_but : (n : ℕ) (old new : Option Image) → IfSome old (HasBlocks n) → StaysBut (λ i. i ≡ n - 1) old new → option_map without_last new ≡ option_map without_last old
member_stays_but n None None shape same = refl
member_stays_but n None (Some new) shape same = absurd same
member_stays_but n (Some old) None shape same = absurd same
member_stays_but n (Some old) (Some new) shape same =
    ap Some (ap (λ k. take (k - 1) new) same.size ∙ take_but_mark (length old - 1) (n - 1) old new (omega (arith, shape.count_is)) same)

pub member_behind : (n count : ℕ) (known old new : Option Image) → n ≡ count → old ≡ known → IfSome known (HasBlocks count) → StaysBut (λ i. i ≡ n - 1) old new
    → option_map without_last new ≡ option_map without_last old
member_behind n count known old new e kept shape same =
    member_stays_but n old new (subst (λ k. IfSome old (HasBlocks k)) (sym e) (subst (λ (o : Option Image). IfSome o (HasBlocks count)) (sym kept) shape)) same

-- what a mirror shows for a name of one half alone
pub alone_behind : (create : Option ℕ) (name first : List ℕ) (now was : List ℕ → Option Image) (second : Option Image) → first ≡ name
    → IfNone create (now name ≡ was name) → IfNone create (shown_for name (now first) second ≡ shown_for name (was first) second)
alone_behind (Some n) name first now was second all same = tt
alone_behind None name first now was second all same =
    ap (λ o. shown_for name o second) (ap now all ∙ same ∙ ap was (sym all))

-- of one that is kept as a member
pub shown_member : (name : List ℕ) (first second : Option Image) → HasPlus name → second_name name ≡ [] → shown_for name first second ≡ option_map without_last first
shown_member name first second plus empty =
    ap (λ t. if t then (if length (second_name name) == 0 then option_map without_last first else shown_together first second) else first) (has_plus name plus)
    ∙ ap (λ (l : List ℕ). if length l == 0 then option_map without_last first else shown_together first second) empty

pub named_member_behind : (name first : List ℕ) (now was : List ℕ → Option Image) (second_now second : Option Image) → HasPlus name → second_name name ≡ [] → first ≡ first_name name
    → option_map without_last (now first) ≡ option_map without_last (was first)
    → shown_for name (now (first_name name)) second_now ≡ shown_for name (was (first_name name)) second
named_member_behind name first now was second_now second plus empty cut same =
    shown_member name (now (first_name name)) second_now plus empty ∙ ap (λ n. option_map without_last (now n)) (sym cut) ∙ same ∙ ap (λ n. option_map without_last (was n)) cut
    ∙ sym (shown_member name (was (first_name name)) second plus empty)

-- of two halves
pub shown_pair : (name : List ℕ) (first second : Option Image) → HasPlus name → second_name name ≢ [] → shown_for name first second ≡ shown_together first second
shown_pair name first second plus more =
    ap (λ t. if t then (if length (second_name name) == 0 then option_map without_last first else shown_together first second) else first) (has_plus name plus)
    ∙ ap (λ t. if t then option_map without_last first else shown_together first second) (some_bytes (second_name name) more)

pub named_pair_behind : (name first second : List ℕ) (now was : List ℕ → Option Image) (second_now second_was : List ℕ → Option Image) → HasPlus name → second_name name ≢ []
    → first ≡ first_name name → second ≡ second_name name → shown_together (now first) (second_now second) ≡ shown_together (was first) (second_was second)
    → shown_for name (now (first_name name)) (second_now (second_name name)) ≡ shown_for name (was (first_name name)) (second_was (second_name name))
named_pair_behind name first second now was second_now second_was plus more cut rest same =
    shown_pair name (now (first_name name)) (second_now (second_name name)) plus more
    ∙ ap (λ n. shown_together (now n) (second_now (second_name name))) (sym cut) ∙ ap (λ n. shown_together (now first) (second_now n)) (sym rest) ∙ same
    ∙ ap (λ n. shown_together (was n) (second_was second)) cut ∙ ap (λ n. shown_together (was (first_name name)) (second_was n)) rest
    ∙ sym (shown_pair name (was (first_name name)) (second_was (second_name name)) plus more)
