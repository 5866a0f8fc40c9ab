-- How what a crash may leave of the image of a name goes on over an attach.
use Rattle.std.proofs.Common.{◌≡◌, ◌↔◌, ◌≢◌, ℕ, ◌-◌, ◌<◌, ◌≤◌, ◌⊎◌, min, List, [], ◌∷◌, length, take, Option, None, Some, IfSome, refl, sym, ap, subst, ◌∙◌, arith, inl, inr, ⊎_elim}
use Rattle.std.specs.Prelude.{IfNone, ◌==◌}
use Rattle.std.specs.List.{position_or_len}
use Rattle.std.proofs.lemmas.List.{take-set-le}
use Rattle.bd_device.specs.Blocks.{Image, HasBlocks}
use Rattle.bd_device.specs.Device.{left_now}
use Rattle.bd_device.specs.Moments.{Elapses, Nothing, TornAt}
use Rattle.bd_device.specs.declared.device.Device.{Ghosts}
use Rattle.bd_mirror.specs.declared.halves.Halves.TheVariants.{Both}
use Rattle.bd_mirror.specs.declared.halves.Attached.{Attached}
use Rattle.bd_mirror.specs.declared.halves.Attached.TheVariants.{Alone, Member, Pair}
use Rattle.bd_mirror.specs.Contents.{pick, IsPicked}
use Rattle.bd_mirror.specs.Crashes.{IsPickOf, Stretch, GoesOver, GoesOn}
use Rattle.bd_mirror.specs.Laws.{for_alone, for_member, for_two}
use Rattle.bd_mirror.specs.Names.{HasPlus, second_name}
use Rattle.bd_mirror.specs.Notes.{Note}
use Rattle.bd_mirror.specs.Past.{attached_for, IsLeftUpTo, IsLeftInCalls, IsLeftPast, LeavesAsBefore, GoesAsBefore, GoesByName, MemberGoes}
use Rattle.bd_mirror.specs.Since.{IsLeftOf}
use Rattle.bd_mirror.proofs.Copies.{elapses_none}
use Rattle.bd_mirror.proofs.Crashes.{is_known, known_length}
use Rattle.bd_mirror.proofs.Since.{left_more}

-- ---- images left up to a count

-- calls that leave no image
up_before : {n m : ℕ} {old new : ℕ → Image → Type 0} (x : Image) → Elapses n m old new Nothing → IsLeftUpTo new n x → IsLeftUpTo old n x
up_before x time each = λ t le. ⊎_elim (λ was. was) (λ none. absurd none) (time.adds t x le (each t le))

-- up to a lower count
pub up_less : (left : ℕ → Image → Type 0) (n k : ℕ) (x : Image) → k ≤ n → IsLeftUpTo left n x → IsLeftUpTo left k x
up_less left n k x le each = λ t up. each t (omega (arith, le, up))

-- ---- stretches

-- calls of both halves that leave no image
pub goes_quiet : {A B : Type 0} (la : A → ℕ → Image → Type 0) (lb : B → ℕ → Image → Type 0) (ca : A → ℕ) (cb : B → ℕ) (at : Attached) (count : ℕ) (a a1 : A) (b b1 : B)
    → Elapses (ca a) (ca a1) (la a) (la a1) Nothing → Elapses (cb b) (cb b1) (lb b) (lb b1) Nothing
    → GoesAsBefore la lb ca cb (IsLeftOf at count count) a b a1 b1
goes_quiet la lb ca cb at count a a1 b b1 time_a time_b = (
  [],
  (
    λ c l. l,
    left_more at count count (IsLeftUpTo (la a1) (ca a)) (IsLeftUpTo (lb b1) (cb b)) (IsLeftUpTo (la a) (ca a)) (IsLeftUpTo (lb b) (cb b))
        (λ x e. up_before x time_a e) (λ y e. up_before y time_b e),
    time_a.later,
    time_b.later,
  ),
)

-- a pick in one of the two orders
picked_from : (n : ℕ) (x y x0 y0 c : Image) (S T : Image → Type 0) → S x0 → T y0 → IsPickOf n x0 y0 x y → (c ≡ pick n n n x y) ⊎ (c ≡ pick n n n y x) → IsPicked n n n S T c
picked_from n x y x0 y0 c S T sx ty is e = ⊎_elim
    (λ one. ⊎_elim (λ f. (x0, y0, sx, ty, inl (one ∙ f))) (λ f. (x0, y0, sx, ty, inr (one ∙ f))) is.as_named)
    (λ two. ⊎_elim (λ f. (x0, y0, sx, ty, inl (two ∙ f))) (λ f. (x0, y0, sx, ty, inr (two ∙ f))) is.turned)
    e

-- from a moment on at which both halves have their names
joined_over : {A B : Type 0} (ga : Ghosts A) (gb : Ghosts B) (first second : List ℕ) (la : A → ℕ → Image → Type 0) (lb : B → ℕ → Image → Type 0) (n : ℕ) (x0 y0 : Image) (a0 : A) (b0 : B)
    → ((d : A) (t : ℕ) (c : Image) → ga.is_named d first → la d t c ↔ ga.left_since d t c)
    → ((d : B) (t : ℕ) (c : Image) → gb.is_named d second → lb d t c ↔ gb.left_since d t c)
    → IsLeftUpTo (la a0) (ga.call_count a0) x0 → IsLeftUpTo (lb b0) (gb.call_count b0) y0
    → (ms : List (A × B)) (a a1 : A) (b b1 : B) → ga.is_named a first → gb.is_named b second
    → ((c : Image) → IsPicked n n n (IsLeftUpTo (la a) (ga.call_count a)) (IsLeftUpTo (lb b) (gb.call_count b)) c
    → IsPicked n n n (IsLeftUpTo (la a0) (ga.call_count a0)) (IsLeftUpTo (lb b0) (gb.call_count b0)) c)
    → GoesOver (Stretch ga gb (IsPickOf n x0 y0)) a b ms a1 b1 → GoesOver (LeavesAsBefore la lb ga.call_count gb.call_count (IsPicked n n n) a0 b0) a b ms a1 b1
joined_over ga gb first second la lb n x0 y0 a0 b0 law_a law_b sx sy [] a a1 b b1 na nb now h = (
  now,
  λ c l. picked_from n l.0 l.1 x0 y0 c (IsLeftUpTo (la a0) (ga.call_count a0)) (IsLeftUpTo (lb b0) (gb.call_count b0)) sx sy (h.pairs l.0 l.1
      ((law_a a1 (ga.call_count a) l.0 (h.first_stays.same_name first na)).0 (l.2 (ga.call_count a) (omega arith)))
      ((law_b b1 (gb.call_count b) l.1 (h.second_stays.same_name second nb)).0 (l.3 (gb.call_count b) (omega arith)))) l.4,
  h.first_later,
  h.second_later,
)
joined_over ga gb first second la lb n x0 y0 a0 b0 law_a law_b sx sy (m ∷ ms) a a1 b b1 na nb now h =
    let na' = h.0.first_stays.same_name first na in
    let nb' = h.0.second_stays.same_name second nb in
    let S : Image → Type 0 = IsLeftUpTo (la a0) (ga.call_count a0) in
    let T : Image → Type 0 = IsLeftUpTo (lb b0) (gb.call_count b0) in (
      (
        now,
        λ c l. picked_from n l.0 l.1 x0 y0 c S T sx sy (h.0.pairs l.0 l.1
            ((law_a m.0 (ga.call_count a) l.0 na').0 (l.2 (ga.call_count a) (omega arith)))
            ((law_b m.1 (gb.call_count b) l.1 nb').0 (l.3 (gb.call_count b) (omega arith)))) l.4,
        h.0.first_later,
        h.0.second_later,
      ),
      joined_over ga gb first second la lb n x0 y0 a0 b0 law_a law_b sx sy ms m.0 a1 m.1 b1 na' nb'
          (λ c l. picked_from n l.0 l.1 x0 y0 c S T sx sy (h.0.pairs l.0 l.1
          ((law_a m.0 (ga.call_count a) l.0 na').0 (l.2 (ga.call_count a) h.0.first_later))
          ((law_b m.1 (gb.call_count b) l.1 nb').0 (l.3 (gb.call_count b) h.0.second_later))) l.4)
          h.1,
    )

-- what is held after calls that leave no image could be left since each count before them
held_up : {A : Type 0} (ga : Ghosts A) (la : A → ℕ → Image → Type 0) (a ja : A) (x : Image)
    → ((t : ℕ) (c : Image) → la ja t c ↔ ga.left_since ja t c) → ((t u : ℕ) (c : Image) → t ≤ u → ga.left_since ja u c → ga.left_since ja t c)
    → Elapses (ga.call_count a) (ga.call_count ja) (la a) (la ja) Nothing → left_now ga ja x → IsLeftUpTo (la a) (ga.call_count a) x
held_up ga la a ja x law earlier time held =
    up_before x time (λ t up. (law t x).1 (earlier t (ga.call_count ja) x (omega (arith, up, time.later)) held))

-- both halves were attached and are joined
pub goes_joined : {A B : Type 0} (ga : Ghosts A) (gb : Ghosts B) (o : Option ℕ) (first second : List ℕ) (sa : A → Option Image) (sb : B → Option Image) (la : A → ℕ → Image → Type 0) (lb : B → ℕ → Image → Type 0)
    (a a0 ja a1 : A) (b b0 jb b1 : B) → IfNone o (ga.contents a0 ≡ sa a) → IfNone o (gb.contents b0 ≡ sb b)
    → ga.contents ja ≡ ga.contents a0 → gb.contents jb ≡ gb.contents b0 → ga.block_count ja ≡ ga.block_count a0 → gb.block_count jb ≡ gb.block_count b0
    → IfSome (ga.contents a0) (HasBlocks (ga.block_count a0)) → IfSome (gb.contents b0) (HasBlocks (gb.block_count b0))
    → IfNone o (Elapses (ga.call_count a) (ga.call_count ja) (la a) (la ja) Nothing) → IfNone o (Elapses (gb.call_count b) (gb.call_count jb) (lb b) (lb jb) Nothing)
    → ga.is_named ja first → gb.is_named jb second
    → ((d : A) (t : ℕ) (c : Image) → ga.is_named d first → la d t c ↔ ga.left_since d t c)
    → ((d : B) (t : ℕ) (c : Image) → gb.is_named d second → lb d t c ↔ gb.left_since d t c)
    → ((d : A) (t u : ℕ) (c : Image) → t ≤ u → ga.left_since d u c → ga.left_since d t c)
    → ((d : B) (t u : ℕ) (c : Image) → t ≤ u → gb.left_since d u c → gb.left_since d t c)
    → (0 < ga.block_count ja → ga.block_count ja ≡ gb.block_count jb → IfSome (ga.contents ja) (left_now ga ja))
    → (0 < ga.block_count ja → ga.block_count ja ≡ gb.block_count jb → IfSome (gb.contents jb) (left_now gb jb))
    → (0 < ga.block_count ja → ga.block_count ja ≡ gb.block_count jb → (x y : Image) → ga.contents ja ≡ Some x → gb.contents jb ≡ Some y
    → GoesOn (Stretch ga gb (IsPickOf (ga.block_count ja - 1) x y)) ja jb a1 b1)
    → IfNone o ((x y : Image) → sa a ≡ Some x → sb b ≡ Some y → 0 < length x → length x ≡ length y
    → GoesAsBefore la lb ga.call_count gb.call_count (IsLeftOf (Pair Both) (length x) (length x)) a b a1 b1)
goes_joined ga gb (Some n) first second sa sb la lb a a0 ja a1 b b0 jb b1 is_a is_b kept_a kept_b count_a count_b shape_a shape_b time_a time_b na nb law_a law_b earlier_a earlier_b stay_a stay_b inside = tt
goes_joined ga gb None first second sa sb la lb a a0 ja a1 b b0 jb b1 is_a is_b kept_a kept_b count_a count_b shape_a shape_b time_a time_b na nb law_a law_b earlier_a earlier_b stay_a stay_b inside = λ x y sx sy some same.
    let kx : ga.contents ja ≡ Some x = kept_a ∙ is_a ∙ sx in
    let ky : gb.contents jb ≡ Some y = kept_b ∙ is_b ∙ sy in
    let len_x : length x ≡ ga.block_count ja = known_length (ga.block_count a0) (ga.block_count ja) (ga.contents a0) (ga.contents ja) x kept_a count_a shape_a kx in
    let len_y : length y ≡ gb.block_count jb = known_length (gb.block_count b0) (gb.block_count jb) (gb.contents b0) (gb.contents jb) y kept_b count_b shape_b ky in
    let room : 0 < ga.block_count ja = subst (λ n. 0 < n) len_x some in
    let equal : ga.block_count ja ≡ gb.block_count jb = sym len_x ∙ same ∙ len_y in
    let held_x : left_now ga ja x = is_known (left_now ga ja) (ga.contents ja) x kx (stay_a room equal) in
    let held_y : left_now gb jb y = is_known (left_now gb jb) (gb.contents jb) y ky (stay_b room equal) in
    let over : GoesOn (Stretch ga gb (IsPickOf (length x - 1) x y)) ja jb a1 b1 =
    subst (λ k. GoesOn (Stretch ga gb (IsPickOf (k - 1) x y)) ja jb a1 b1) (sym len_x) (inside room equal x y kx ky) in
    let n : ℕ = length x - 1 in
    let from_a = λ (p : Image) (e : IsLeftUpTo (la ja) (ga.call_count a) p). up_before p time_a e in
    let from_b = λ (q : Image) (e : IsLeftUpTo (lb jb) (gb.call_count b) q). up_before q time_b e in
    let all : GoesAsBefore la lb ga.call_count gb.call_count (IsPicked n n n) a b a1 b1 = (
      (ja, jb) ∷ over.0,
      (
        (
          λ c l. l,
          λ c l. (l.0, l.1, from_a l.0 l.2, from_b l.1 l.3, l.4),
          time_a.later,
          time_b.later,
        ),
        joined_over ga gb first second la lb n x y a b law_a law_b
            (held_up ga la a ja x (λ t c. law_a ja t c na) (earlier_a ja) time_a held_x)
            (held_up gb lb b jb y (λ t c. law_b jb t c nb) (earlier_b jb) time_b held_y)
            over.0 ja a1 jb b1 na nb
            (λ c l. (
              l.0,
              l.1,
              from_a l.0 (up_less (la ja) (ga.call_count ja) (ga.call_count a) l.0 time_a.later l.2),
              from_b l.1 (up_less (lb jb) (gb.call_count jb) (gb.call_count b) l.1 time_b.later l.3),
              l.4,
            ))
            over.1,
      ),
    ) in
    let size : n ≡ min (length x) (length x) - 1 = omega arith in
    subst (λ k. GoesAsBefore la lb ga.call_count gb.call_count (IsPicked k n n) a b a1 b1) size all

-- it was not attached, or not joined
pub goes_apart : {A B : Type 0} (o : Option ℕ) (sa : A → Option Image) (sb : B → Option Image) (la : A → ℕ → Image → Type 0) (lb : B → ℕ → Image → Type 0) (ca : A → ℕ) (cb : B → ℕ) (a a1 : A) (b b1 : B)
    → IfNone o (Elapses (ca a) (ca a1) (la a) (la a1) Nothing) → IfNone o (Elapses (cb b) (cb b1) (lb b) (lb b1) Nothing)
    → IfNone o ((x y : Image) → sa a ≡ Some x → sb b ≡ Some y → 0 < length x → length x ≡ length y → GoesAsBefore la lb ca cb (IsLeftOf (Pair Both) (length x) (length x)) a b a1 b1)
goes_apart (Some n) sa sb la lb ca cb a a1 b b1 time_a time_b = tt
goes_apart None sa sb la lb ca cb a a1 b b1 time_a time_b = λ x y sx sy some same. goes_quiet la lb ca cb (Pair Both) (length x) a a1 b b1 time_a time_b

-- ---- one half

-- of a half that was not written all blocks are the same
pub member_quiet : {A : Type 0} (o : Option ℕ) (known : Option Image) (la : A → ℕ → Image → Type 0) (ca : A → ℕ) (a a1 : A)
    → IfNone o (Elapses (ca a) (ca a1) (la a) (la a1) Nothing) → IfNone o ((x : Image) → known ≡ Some x → MemberGoes la ca (take (length x - 1)) a a1)
member_quiet (Some n) known la ca a a1 time = tt
member_quiet None known la ca a a1 time = λ x is. (time.later, λ p each. (p, up_before p time each, refl))

-- of one whose mark was opened all but the mark
pub member_opens : {A : Type 0} (ga : Ghosts A) (o : Option ℕ) (known : Option Image) (first : List ℕ) (la : A → ℕ → Image → Type 0) (count : ℕ) (a a1 a2 : A) (held : Option Image)
    → ((d : A) (t : ℕ) (c : Image) → ga.is_named d first → la d t c ↔ ga.left_since d t c)
    → ((d : A) (t u : ℕ) (c : Image) → t ≤ u → ga.left_since d u c → ga.left_since d t c)
    → ga.is_named a1 first → ga.is_named a2 first
    → IfNone o (held ≡ known) → IfSome held (HasBlocks count)
    → IfNone o (Elapses (ga.call_count a) (ga.call_count a1) (la a) (la a1) Nothing)
    → Elapses (ga.call_count a1) (ga.call_count a2) (ga.left_since a1) (ga.left_since a2) (TornAt (count - 1) (left_now ga a1))
    → IfNone o ((x : Image) → known ≡ Some x → MemberGoes la ga.call_count (take (length x - 1)) a a2)
member_opens ga (Some n) known first la count a a1 a2 held law earlier na na2 is shape time torn = tt
member_opens ga None known first la count a a1 a2 held law earlier na na2 is shape time torn = λ x shows. (
  omega (arith, time.later, torn.later),
  λ p each.
      let whole : HasBlocks count x = is_known (HasBlocks count) held x (is ∙ shows) shape in
      ⊎_elim
      (λ (was : ga.left_since a1 (ga.call_count a) p). (
        p,
        up_before p time (λ t up. (law a1 t p na).1 (earlier a1 t (ga.call_count a) p up was)),
        refl,
      ))
      (λ (here : TornAt (count - 1) (left_now ga a1) p). (
        here.0,
        held_up ga la a a1 here.0 (λ t c. law a1 t c na) (earlier a1) time here.1,
        ap (take (length x - 1)) here.4 ∙ take-set-le (length x - 1) here.0 (count - 1) here.2 (omega (arith, whole.count_is)),
      ))
      (torn.adds (ga.call_count a) p time.later ((law a2 (ga.call_count a) p na2).0 (each (ga.call_count a) (omega arith)))),
)

-- ---- by the mirror's name

goes_for : {A B : Type 0} (name : List ℕ) (at : Attached) (count : ℕ) (la : A → ℕ → Image → Type 0) (lb : B → ℕ → Image → Type 0) (ca : A → ℕ) (cb : B → ℕ) (a a1 : A) (b b1 : B)
    → attached_for name ≡ at → GoesAsBefore la lb ca cb (IsLeftOf at count count) a b a1 b1 → GoesAsBefore la lb ca cb (IsLeftOf (attached_for name) count count) a b a1 b1
goes_for name at count la lb ca cb a a1 b b1 is goes = subst (λ t. GoesAsBefore la lb ca cb (IsLeftOf t count count) a b a1 b1) (sym is) goes

-- the first half alone
pub alone_by_name : {A B : Type 0} (create : Option ℕ) (name first : List ℕ) (sa sb : Option Image) (LA : A → List ℕ → ℕ → Image → Type 0) (lb : B → ℕ → Image → Type 0) (ca : A → ℕ) (cb : B → ℕ) (a a1 : A) (b : B)
    → position_or_len (λ byte. byte == 43) name ≡ length name → first ≡ name
    → IfNone create (Elapses (ca a) (ca a1) (LA a name) (LA a1 name) Nothing)
    → IfNone create (GoesByName name sa sb (λ d. LA d first) lb ca cb a b a1 b)
alone_by_name (Some n) name first sa sb LA lb ca cb a a1 b none all time = tt
alone_by_name None name first sa sb LA lb ca cb a a1 b none all time = λ x is pair.
    goes_for name Alone (length x) (λ d. LA d first) lb ca cb a a1 b b (for_alone name none)
    (goes_quiet (λ d. LA d first) lb ca cb Alone (length x) a a1 b b
    (subst (λ (f : List ℕ). Elapses (ca a) (ca a1) (LA a f) (LA a1 f) Nothing) (sym all) time)
    (elapses_none (cb b) (lb b) Nothing))

-- the first half as a member
pub member_by_name : {A B : Type 0} (name : List ℕ) (sa sb : Option Image) (la : A → ℕ → Image → Type 0) (lb : B → ℕ → Image → Type 0) (ca : A → ℕ) (cb : B → ℕ) (a a1 : A) (b b1 : B)
    → HasPlus name → second_name name ≡ [] → cb b1 ≡ cb b → ((x : Image) → sa ≡ Some x → MemberGoes la ca (take (length x - 1)) a a1)
    → GoesByName name sa sb la lb ca cb a b a1 b1
member_by_name name sa sb la lb ca cb a a1 b b1 plus empty same goes = λ x is pair.
    goes_for name Member (length x) la lb ca cb a a1 b b1 (for_member name plus empty) (
      [],
      (
        λ c l. l,
        λ c l. let was = (goes x is).1 l.0 l.1 in (was.0, was.1, l.2 ∙ was.2),
        (goes x is).0,
        omega (arith, same),
      ),
    )

-- both halves
pub pair_by_name : {A B : Type 0} (name : List ℕ) (sa sb : Option Image) (la : A → ℕ → Image → Type 0) (lb : B → ℕ → Image → Type 0) (ca : A → ℕ) (cb : B → ℕ) (a a1 : A) (b b1 : B)
    → HasPlus name → second_name name ≢ []
    → ((x y : Image) → sa ≡ Some x → sb ≡ Some y → 0 < length x → length x ≡ length y → GoesAsBefore la lb ca cb (IsLeftOf (Pair Both) (length x) (length x)) a b a1 b1)
    → GoesByName name sa sb la lb ca cb a b a1 b1
pair_by_name name sa sb la lb ca cb a a1 b b1 plus more goes = λ x is pair.
    let with = pair plus more in
    goes_for name (Pair Both) (length x) la lb ca cb a a1 b b1 (for_two name plus more) (goes x with.0 is with.1 with.2 with.3)

-- ---- over the calls of a mirror

-- what is left now after such stretches was left before them
pub goes_now : {A B : Type 0} (la : A → ℕ → Image → Type 0) (lb : B → ℕ → Image → Type 0) (ca : A → ℕ) (cb : B → ℕ) (at : Attached) (count : ℕ) (a0 : A) (b0 : B) (ms : List (A × B)) (a a1 : A) (b b1 : B)
    → GoesOver (LeavesAsBefore la lb ca cb (IsLeftOf at count count) a0 b0) a b ms a1 b1
    → (c : Image) → IsLeftOf at count count (IsLeftUpTo (la a1) (ca a1)) (IsLeftUpTo (lb b1) (cb b1)) c
    → IsLeftOf at count count (IsLeftUpTo (la a0) (ca a0)) (IsLeftUpTo (lb b0) (cb b0)) c
goes_now la lb ca cb at count a0 b0 [] a a1 b b1 goes c now =
    goes.1 c (left_more at count count (IsLeftUpTo (la a1) (ca a1)) (IsLeftUpTo (lb b1) (cb b1)) (IsLeftUpTo (la a1) (ca a)) (IsLeftUpTo (lb b1) (cb b))
    (λ x e. up_less (la a1) (ca a1) (ca a) x goes.2 e) (λ y e. up_less (lb b1) (cb b1) (cb b) y goes.3 e) c now)
goes_now la lb ca cb at count a0 b0 (m ∷ ms) a a1 b b1 goes c now = goes_now la lb ca cb at count a0 b0 ms m.0 a1 m.1 b1 goes.1 c now

-- an attach of this image
pub past_attach : {A B : Type 0} (la : A → ℕ → Image → Type 0) (lb : B → ℕ → Image → Type 0) (ca : A → ℕ) (cb : B → ℕ) (of : (Image → Type 0) → (Image → Type 0) → Image → Type 0) (name : List ℕ) (ms : List (Note × A × B)) (a a1 : A) (b b1 : B) (n n1 : ℕ)
    → n ≤ n1 → n ≤ length ms
    → ((c : Image) → of (IsLeftUpTo (la a1) (ca a1)) (IsLeftUpTo (lb b1) (cb b1)) c → of (IsLeftUpTo (la a) (ca a)) (IsLeftUpTo (lb b) (cb b)) c)
    → Elapses n n1 (IsLeftPast la lb ca cb of name ms a b) (IsLeftPast la lb ca cb of name ((Some (name, None), a, b) ∷ ms) a1 b1) Nothing
past_attach la lb ca cb of name ms a a1 b b1 n n1 later kept back = record {
  later = later;
  keeps = λ t c le was. inr (⊎_elim (λ now. inl (omega (arith, le, kept), inl now)) (λ old. inr old) was);
  adds = λ t c le left. inl (⊎_elim
      (λ now. inl (back c now))
      (λ calls. ⊎_elim (λ here. ⊎_elim (λ was. inl was) (λ there. absurd (there.0 refl)) here.1) (λ old. inr old) calls)
      left);
}

-- another call
pub past_on : {A B : Type 0} (la : A → ℕ → Image → Type 0) (lb : B → ℕ → Image → Type 0) (ca : A → ℕ) (cb : B → ℕ) (of : (Image → Type 0) → (Image → Type 0) → Image → Type 0) (name : List ℕ) (P : Image → Type 0) (ms : List (Note × A × B)) (a a1 : A) (b b1 : B) (n n1 : ℕ)
    → n ≤ n1 → n ≤ length ms
    → ((c : Image) → of (IsLeftUpTo (la a1) (ca a1)) (IsLeftUpTo (lb b1) (cb b1)) c → of (IsLeftUpTo (la a1) (ca a)) (IsLeftUpTo (lb b1) (cb b)) c)
    → ((c : Image) → of (IsLeftUpTo (la a1) (ca a)) (IsLeftUpTo (lb b1) (cb b)) c → of (IsLeftUpTo (la a) (ca a)) (IsLeftUpTo (lb b) (cb b)) c ⊎ P c)
    → Elapses n n1 (IsLeftPast la lb ca cb of name ms a b) (IsLeftPast la lb ca cb of name ((None, a, b) ∷ ms) a1 b1) P
past_on la lb ca cb of name P ms a a1 b b1 n n1 later kept more inside =
    let told : (t : ℕ) (c : Image) → of (IsLeftUpTo (la a) (ca a)) (IsLeftUpTo (lb b) (cb b)) c ⊎ P c → IsLeftPast la lb ca cb of name ms a b t c ⊎ P c =
    λ t c q. ⊎_elim (λ was. inl (inl was)) (λ here. inr here) q in
    record {
      later = later;
      keeps = λ t c le was. inr (⊎_elim (λ now. inl (omega (arith, le, kept), inl now)) (λ old. inr old) was);
      adds = λ t c le left. ⊎_elim
          (λ now. told t c (inside c (more c now)))
          (λ calls. ⊎_elim (λ here. ⊎_elim (λ was. inl (inl was)) (λ there. told t c (inside c there.1)) here.1) (λ old. inl (inr old)) calls)
          left;
    }

-- none of the calls began so late
pub none_since : {A B : Type 0} (la : A → ℕ → Image → Type 0) (lb : B → ℕ → Image → Type 0) (ca : A → ℕ) (cb : B → ℕ) (of : (Image → Type 0) → (Image → Type 0) → Image → Type 0) (name : List ℕ) (ms : List (Note × A × B)) (a : A) (b : B) (t : ℕ) (c : Image)
    → length ms ≤ t → IsLeftInCalls la lb ca cb of name ms a b t c → ⊥
none_since la lb ca cb of name [] a b t c le left = left
none_since la lb ca cb of name (m ∷ ms) a b t c le (inl here) = omega (arith, le, here.0)
none_since la lb ca cb of name (m ∷ ms) a b t c le (inr more) = none_since la lb ca cb of name ms m.1 m.2 t c (omega (arith, le)) more
