-- What a crash may leave while one half is made a copy of the other.
use Rattle.std.proofs.Common.{◌≡◌, ◌↔◌, ℕ, ◌-◌, ◌<◌, ◌≤◌, List, [], ◌∷◌, length, take, Option, None, Some, IfSome, Bool, true, false, refl, sym, ap, subst, ◌∙◌, arith, inl, inr, ⊎_elim}
use Rattle.std.specs.Prelude.{◌&&◌, not, IfNone}
use Rattle.std.proofs.lemmas.Bool.{false≢true}
use Rattle.std.proofs.lemmas.List.{take-set-le}
use Rattle.std.proofs.lemmas.Option.{same_Some}
use Rattle.bd_device.specs.Blocks.{Image, HasBlocks}
use Rattle.bd_device.specs.Changes.{StaysBut, IsBeforeBut, IsInRange}
use Rattle.bd_device.specs.Device.{left_now, Goes, OnlyReads, Stays}
use Rattle.bd_device.specs.Moments.{Elapses, Nothing, TornAt, IsOnly}
use Rattle.bd_device.specs.declared.device.Device.{Ghosts}
use Rattle.bd_device.proofs.Calls.{reads_stay}
use Rattle.bd_mirror.specs.Contents.{is_open_at, pick, IsCopy}
use Rattle.bd_mirror.specs.Crashes.{IsPickOf, Stretch, GoesOver, GoesOn, LeavesPairs, LeavesPairsFrom, IsPairFrom, LosesNothing}
use Rattle.bd_mirror.proofs.Copies.{open_kept, only_has}
use Rattle.bd_mirror.proofs.Marks.{take_but_mark, pick_closed, pick_open, pick_second}
use Rattle.bd_mirror.proofs.Joined.{pick_source}

-- ---- images

-- picks of images that have the source's blocks are the source's
picks_same : (mark : ℕ) (a b x y : Image) → take mark a ≡ pick mark mark mark a b
    → pick mark mark mark x y ≡ take mark a → pick mark mark mark y x ≡ take mark a → IsPickOf mark a b x y
picks_same mark a b x y source one two = record { as_named = inl (one ∙ source); turned = inl (two ∙ source) }

-- while the source's mark is open and that of the copy closed
picks_copying : (mark : ℕ) (a b x y : Image) → take mark a ≡ pick mark mark mark a b → take mark x ≡ take mark a → is_open_at mark x ≡ true
    → is_open_at mark y ≡ false → IsPickOf mark a b x y
picks_copying mark a b x y source same opens closed =
    picks_same mark a b x y source (pick_closed mark mark mark x y closed ∙ same) (pick_second mark mark mark y x closed opens ∙ same)

-- while the source's mark is closed behind a copy
picks_ending : (mark : ℕ) (a b x y : Image) (o : Bool) → is_open_at mark x ≡ o → take mark a ≡ pick mark mark mark a b → take mark x ≡ take mark a
    → take mark y ≡ take mark a → is_open_at mark y ≡ false → IsPickOf mark a b x y
picks_ending mark a b x y true opens source same copied closed = picks_copying mark a b x y source same opens closed
picks_ending mark a b x y false shut source same copied closed =
    picks_same mark a b x y source (pick_closed mark mark mark x y closed ∙ same) (pick_closed mark mark mark y x shut ∙ copied)

-- while the marks are opened and closed: both were open
picks_both_open : (mark : ℕ) (a b x y : Image) (o : Bool) → is_open_at mark y ≡ o → is_open_at mark a ≡ true → is_open_at mark b ≡ true
    → take mark x ≡ take mark a → take mark y ≡ take mark b → is_open_at mark x ≡ true → IsPickOf mark a b x y
picks_both_open mark a b x y true oy oa ob sx sy ox = record {
  as_named = inl (pick_open mark mark mark x y ox ∙ sx ∙ sym (pick_open mark mark mark a b oa));
  turned = inr (pick_open mark mark mark y x oy ∙ sy ∙ sym (pick_open mark mark mark b a ob));
}
picks_both_open mark a b x y false cy oa ob sx sy ox =
    picks_copying mark a b x y (sym (pick_open mark mark mark a b oa)) sx ox cy

-- both were closed
picks_both_closed : (mark : ℕ) (a b x y : Image) (o : Bool) → is_open_at mark x ≡ o → is_open_at mark a ≡ false → is_open_at mark b ≡ false
    → take mark x ≡ take mark a → take mark y ≡ take mark b → is_open_at mark y ≡ false → IsPickOf mark a b x y
picks_both_closed mark a b x y true ox ca cb sx sy cy =
    picks_copying mark a b x y (sym (pick_closed mark mark mark a b cb)) sx ox cy
picks_both_closed mark a b x y false cx ca cb sx sy cy = record {
  as_named = inl (pick_closed mark mark mark x y cy ∙ sx ∙ sym (pick_closed mark mark mark a b cb));
  turned = inr (pick_closed mark mark mark y x cx ∙ sy ∙ sym (pick_closed mark mark mark b a ca));
}

picks_marking : (mark : ℕ) (a b x y : Image) (oa ob : Bool) → is_open_at mark a ≡ oa → is_open_at mark b ≡ ob → (ob && not oa) ≡ false
    → take mark x ≡ take mark a → take mark y ≡ take mark b → (oa ≡ true → is_open_at mark x ≡ true) → (ob ≡ false → is_open_at mark y ≡ false)
    → IsPickOf mark a b x y
picks_marking mark a b x y true true ea eb first sx sy ox cy = picks_both_open mark a b x y (is_open_at mark y) refl ea eb sx sy (ox refl)
picks_marking mark a b x y true false ea eb first sx sy ox cy =
    picks_copying mark a b x y (sym (pick_open mark mark mark a b ea)) sx (ox refl) (cy refl)
picks_marking mark a b x y false false ea eb first sx sy ox cy = picks_both_closed mark a b x y (is_open_at mark x) refl ea eb sx sy (cy refl)
picks_marking mark a b x y false true ea eb first sx sy ox cy = absurd (false≢true (sym first))

-- ---- what is left

-- where only the mark was written, the blocks before it are as they were
since_take : {n m : ℕ} {first mid : ℕ → Image → Type 0} (mark : ℕ) (base : Image) → Elapses n m first mid (TornAt mark (first n))
    → ((d : Image) → first n d → take mark d ≡ take mark base) → (x : Image) → mid n x → take mark x ≡ take mark base
since_take {n} mark base time was x left = ⊎_elim (was x)
    (λ torn. ap (take mark) torn.4 ∙ take-set-le mark torn.0 mark torn.2 (omega arith) ∙ was torn.0 torn.1)
    (time.adds n x (omega arith) left)

-- of what wasn't called since nothing else is left
since_none : {D : Type 0} (g : Ghosts D) (P : Image → Type 0) (old new : D) → new ≡ old → ((c : Image) → left_now g old c → P c)
    → (c : Image) → g.left_since new (g.call_count old) c → P c
since_none g P old new same was c left = was c (subst (λ d. g.left_since d (g.call_count old) c) same left)

-- each image that is left of what has these contents has what they have
left_has : {left : Image → Type 0} (P : Image → Type 0) (known : Option Image) (base : Image) → known ≡ Some base → IsOnly known left → P base
    → (c : Image) → left c → P c
left_has P known base is only has = only_has P known only (subst (λ (o : Option Image). IfSome o P) (sym is) has)

pub is_known : (P : Image → Type 0) (known : Option Image) (base : Image) → known ≡ Some base → IfSome known P → P base
is_known P known base is has = subst (λ (o : Option Image). IfSome o P) is has

-- ---- stretches

-- the marks are opened and closed
pub stretch_marking : {S C : Type 0} (gs : Ghosts S) (gc : Ghosts C) (mark : ℕ) (a b : Image) (oa ob : Bool) (s s1 : S) (c c1 : C)
    → gs.contents s ≡ Some a → gc.contents c ≡ Some b
    → IfSome (gs.contents s) (λ i. is_open_at mark i ≡ oa) → IfSome (gc.contents c) (λ i. is_open_at mark i ≡ ob) → (ob && not oa) ≡ false
    → IsOnly (gs.contents s) (left_now gs s) → IsOnly (gc.contents c) (left_now gc c)
    → Stays gs s s1 → Stays gc c c1 → Goes gs s s1 (TornAt mark (left_now gs s)) → Goes gc c c1 (TornAt mark (left_now gc c))
    → (oa ≡ true → s1 ≡ s) → (ob ≡ false → c1 ≡ c) → Stretch gs gc (IsPickOf mark a b) s c s1 c1
stretch_marking gs gc mark a b oa ob s s1 c c1 ka kb ma mb first only_a only_b stays_s stays_c time_s time_c same_s same_c =
    let ea : is_open_at mark a ≡ oa = is_known (λ i. is_open_at mark i ≡ oa) (gs.contents s) a ka ma in
    let eb : is_open_at mark b ≡ ob = is_known (λ i. is_open_at mark i ≡ ob) (gc.contents c) b kb mb in
    record {
      first_stays = stays_s;
      second_stays = stays_c;
      first_later = time_s.later;
      second_later = time_c.later;
      pairs = λ x y lx ly. picks_marking mark a b x y oa ob ea eb first
          (since_take mark a time_s (left_has (λ d. take mark d ≡ take mark a) (gs.contents s) a ka only_a refl) x lx)
          (since_take mark b time_c (left_has (λ d. take mark d ≡ take mark b) (gc.contents c) b kb only_b refl) y ly)
          (λ o. since_none gs (λ d. is_open_at mark d ≡ true) s s1 (same_s o) (left_has (λ d. is_open_at mark d ≡ true) (gs.contents s) a ka only_a (ea ∙ o)) x lx)
          (λ o. since_none gc (λ d. is_open_at mark d ≡ false) c c1 (same_c o) (left_has (λ d. is_open_at mark d ≡ false) (gc.contents c) b kb only_b (eb ∙ o)) y ly);
    }

take_some : (mark : ℕ) (base : Image) (new : Option Image) → StaysBut (λ i. i ≡ mark) (Some base) new → IfSome new (λ d. take mark d ≡ take mark base)
take_some mark base None same = tt
take_some mark base (Some new) same = take_but_mark mark mark base new (omega arith) same

copy_some : (mark : ℕ) (base : Image) (copy : Option Image) → IsCopy mark (Some base) copy → IfSome copy (λ d. take mark d ≡ take mark base)
copy_some mark base None copied = tt
copy_some mark base (Some copy) copied = copied

-- the first blocks of what stays but for its mark
take_known : (mark : ℕ) (base : Image) (old new : Option Image) → old ≡ Some base → StaysBut (λ i. i ≡ mark) old new
    → IfSome new (λ d. take mark d ≡ take mark base)
take_known mark base old new is same = take_some mark base new (subst (λ (o : Option Image). StaysBut (λ i. i ≡ mark) o new) is same)

-- the copy takes the blocks
pub stretch_copying : {S C : Type 0} (gs : Ghosts S) (gc : Ghosts C) (mark : ℕ) (a b : Image) (oa ob : Bool) (s s1 s2 : S) (c c1 c2 : C)
    → gs.contents s ≡ Some a → gc.contents c ≡ Some b
    → IfSome (gs.contents s) (λ i. is_open_at mark i ≡ oa) → IfSome (gc.contents c) (λ i. is_open_at mark i ≡ ob) → (ob && not oa) ≡ false
    → StaysBut (λ i. i ≡ mark) (gs.contents s) (gs.contents s1) → IfSome (gs.contents s1) (λ i. is_open_at mark i ≡ true) → IsOnly (gs.contents s1) (left_now gs s1)
    → OnlyReads gs s1 s2 → IfSome (gc.contents c1) (λ i. is_open_at mark i ≡ false) → IsOnly (gc.contents c1) (left_now gc c1)
    → Stays gc c1 c2 → Goes gc c1 c2 (IsBeforeBut (IsInRange 0 mark) (left_now gc c1)) → Stretch gs gc (IsPickOf mark a b) s1 c1 s2 c2
stretch_copying gs gc mark a b oa ob s s1 s2 c c1 c2 ka kb ma mb first stays_s opened only_s reads closed only_c stays_c time_c =
    let source : take mark a ≡ pick mark mark mark a b = sym (pick_source mark a b oa ob (is_known (λ i. is_open_at mark i ≡ oa) (gs.contents s) a ka ma)
    (is_known (λ i. is_open_at mark i ≡ ob) (gc.contents c) b kb mb) first) in
    record {
      first_stays = reads_stay reads;
      second_stays = stays_c;
      first_later = reads.time.later;
      second_later = time_c.later;
      pairs = λ x y lx ly.
          let was : left_now gs s1 x = ⊎_elim (λ old. old) (λ none. absurd none) (reads.time.adds (gs.call_count s1) x (omega arith) lx) in
          picks_copying mark a b x y source (only_has (λ d. take mark d ≡ take mark a) (gs.contents s1) only_s (take_known mark a (gs.contents s) (gs.contents s1) ka stays_s) x was)
          (only_has (λ d. is_open_at mark d ≡ true) (gs.contents s1) only_s opened x was)
          (⊎_elim (λ old. only_has (λ d. is_open_at mark d ≡ false) (gc.contents c1) only_c closed y old)
          (λ here. open_kept mark here.0 y here.2 ∙ only_has (λ d. is_open_at mark d ≡ false) (gc.contents c1) only_c closed here.0 here.1)
          (time_c.adds (gc.call_count c1) y (omega arith) ly));
    }

-- the mark of the source is closed behind it
pub stretch_ending : {S C : Type 0} (gs : Ghosts S) (gc : Ghosts C) (mark : ℕ) (a b : Image) (oa ob : Bool) (s s2 s3 : S) (c c2 : C)
    → gs.contents s ≡ Some a → gc.contents c ≡ Some b
    → IfSome (gs.contents s) (λ i. is_open_at mark i ≡ oa) → IfSome (gc.contents c) (λ i. is_open_at mark i ≡ ob) → (ob && not oa) ≡ false
    → StaysBut (λ i. i ≡ mark) (gs.contents s) (gs.contents s2) → IsOnly (gs.contents s2) (left_now gs s2) → Stays gs s2 s3 → Goes gs s2 s3 (TornAt mark (left_now gs s2))
    → IsCopy mark (gs.contents s) (gc.contents c2) → IfSome (gc.contents c2) (λ i. is_open_at mark i ≡ false) → IsOnly (gc.contents c2) (left_now gc c2)
    → Stretch gs gc (IsPickOf mark a b) s2 c2 s3 c2
stretch_ending gs gc mark a b oa ob s s2 s3 c c2 ka kb ma mb first stays_s only_s stays_end time_s copied closed only_c =
    let source : take mark a ≡ pick mark mark mark a b = sym (pick_source mark a b oa ob (is_known (λ i. is_open_at mark i ≡ oa) (gs.contents s) a ka ma)
    (is_known (λ i. is_open_at mark i ≡ ob) (gc.contents c) b kb mb) first) in
    record {
      first_stays = stays_end;
      second_stays = record { count = refl; same_name = λ name was. was; same_loans = refl };
      first_later = time_s.later;
      second_later = omega arith;
      pairs = λ x y lx ly. picks_ending mark a b x y (is_open_at mark x) refl source
          (since_take mark a time_s (only_has (λ d. take mark d ≡ take mark a) (gs.contents s2) only_s (take_known mark a (gs.contents s) (gs.contents s2) ka stays_s)) x lx)
          (only_has (λ d. take mark d ≡ take mark a) (gc.contents c2) only_c (copy_some mark a (gc.contents c2) (subst (λ (o : Option Image). IsCopy mark o (gc.contents c2)) ka copied)) y ly)
          (only_has (λ d. is_open_at mark d ≡ false) (gc.contents c2) only_c closed y ly);
    }

-- ---- two halves that go on

-- reads leave what there was
pub stretch_reads : {A B : Type 0} (ga : Ghosts A) (gb : Ghosts B) (mark : ℕ) (a b : Image) (s s1 : A) (c c1 : B)
    → ga.contents s ≡ Some a → gb.contents c ≡ Some b → IsOnly (ga.contents s) (left_now ga s) → IsOnly (gb.contents c) (left_now gb c)
    → OnlyReads ga s s1 → OnlyReads gb c c1 → Stretch ga gb (IsPickOf mark a b) s c s1 c1
stretch_reads ga gb mark a b s s1 c c1 ka kb only_a only_b reads_a reads_b = record {
  first_stays = reads_stay reads_a;
  second_stays = reads_stay reads_b;
  first_later = reads_a.time.later;
  second_later = reads_b.time.later;
  pairs = λ x y lx ly.
      let was_x : left_now ga s x = ⊎_elim (λ old. old) (λ none. absurd none) (reads_a.time.adds (ga.call_count s) x (omega arith) lx) in
      let was_y : left_now gb c y = ⊎_elim (λ old. old) (λ none. absurd none) (reads_b.time.adds (gb.call_count c) y (omega arith) ly) in
      let ex : a ≡ x = same_Some a x (sym ka ∙ only_a x was_x) in
      let ey : b ≡ y = same_Some b y (sym kb ∙ only_b y was_y) in
      subst (λ (i : Image). IsPickOf mark a b i y) ex (subst (λ (i : Image). IsPickOf mark a b a i) ey (record { as_named = inl refl; turned = inr refl }));
}

-- with the halves named the other way round
turned_pick : (mark : ℕ) (a b x y : Image) → IsPickOf mark b a y x → IsPickOf mark a b x y
turned_pick mark a b x y h = record {
  as_named = ⊎_elim (λ e. inr e) (λ e. inl e) h.turned;
  turned = ⊎_elim (λ e. inr e) (λ e. inl e) h.as_named;
}

turned_stretch : {A B : Type 0} (ga : Ghosts A) (gb : Ghosts B) (mark : ℕ) (a b : Image) (s s1 : A) (c c1 : B)
    → Stretch gb ga (IsPickOf mark b a) c s c1 s1 → Stretch ga gb (IsPickOf mark a b) s c s1 c1
turned_stretch ga gb mark a b s s1 c c1 h = record {
  first_stays = h.second_stays;
  second_stays = h.first_stays;
  first_later = h.second_later;
  second_later = h.first_later;
  pairs = λ x y lx ly. turned_pick mark a b x y (h.pairs y x ly lx);
}

abbrev turned_moments : {A B : Type 0} → List (B × A) → List (A × B)
turned_moments [] = []
turned_moments (m ∷ ms) = (m.1, m.0) ∷ turned_moments ms

turned_over : {A B : Type 0} (ga : Ghosts A) (gb : Ghosts B) (mark : ℕ) (a b : Image) (ms : List (B × A)) (s s1 : A) (c c1 : B)
    → GoesOver (Stretch gb ga (IsPickOf mark b a)) c s ms c1 s1 → GoesOver (Stretch ga gb (IsPickOf mark a b)) s c (turned_moments ms) s1 c1
turned_over ga gb mark a b [] s s1 c c1 h = turned_stretch ga gb mark a b s s1 c c1 h
turned_over ga gb mark a b (m ∷ ms) s s1 c c1 h =
    (turned_stretch ga gb mark a b s m.1 c m.0 h.0, turned_over ga gb mark a b ms m.1 s1 m.0 c1 h.1)

-- after reads the first half is the source
pub reads_fore : {A B : Type 0} (ga : Ghosts A) (gb : Ghosts B) (m mark : ℕ) (a b : Image) (s s1 s2 : A) (c c1 c2 : B) → m ≡ mark
    → ga.contents s ≡ Some a → gb.contents c ≡ Some b → IsOnly (ga.contents s) (left_now ga s) → IsOnly (gb.contents c) (left_now gb c)
    → OnlyReads ga s s1 → OnlyReads gb c c1
    → ((x y : Image) → ga.contents s1 ≡ Some x → gb.contents c1 ≡ Some y → GoesOn (Stretch ga gb (IsPickOf m x y)) s1 c1 s2 c2)
    → GoesOn (Stretch ga gb (IsPickOf mark a b)) s c s2 c2
reads_fore ga gb m mark a b s s1 s2 c c1 c2 e ka kb only_a only_b reads_a reads_b goes =
    let over = goes a b (reads_a.kept ∙ ka) (reads_b.kept ∙ kb) in
    subst (λ k. GoesOn (Stretch ga gb (IsPickOf k a b)) s c s2 c2) e
    ((s1, c1) ∷ over.0, (stretch_reads ga gb m a b s s1 c c1 ka kb only_a only_b reads_a reads_b, over.1))

-- or the second one
pub reads_back : {A B : Type 0} (ga : Ghosts A) (gb : Ghosts B) (m mark : ℕ) (a b : Image) (s s1 s2 : A) (c c1 c2 : B) → m ≡ mark
    → ga.contents s ≡ Some a → gb.contents c ≡ Some b → IsOnly (ga.contents s) (left_now ga s) → IsOnly (gb.contents c) (left_now gb c)
    → OnlyReads ga s s1 → OnlyReads gb c c1
    → ((y x : Image) → gb.contents c1 ≡ Some y → ga.contents s1 ≡ Some x → GoesOn (Stretch gb ga (IsPickOf m y x)) c1 s1 c2 s2)
    → GoesOn (Stretch ga gb (IsPickOf mark a b)) s c s2 c2
reads_back ga gb m mark a b s s1 s2 c c1 c2 e ka kb only_a only_b reads_a reads_b goes =
    let over = goes b a (reads_b.kept ∙ kb) (reads_a.kept ∙ ka) in
    subst (λ k. GoesOn (Stretch ga gb (IsPickOf k a b)) s c s2 c2) e (
      (s1, c1) ∷ turned_moments over.0,
      (stretch_reads ga gb m a b s s1 c c1 ka kb only_a only_b reads_a reads_b, turned_over ga gb m a b over.0 s1 s2 c1 c2 over.1),
    )

-- ---- by names

-- what is left of both now is such a pair
pairs_now : {A B : Type 0} (la : A → ℕ → Image → Type 0) (lb : B → ℕ → Image → Type 0) (ca : A → ℕ) (cb : B → ℕ) (x y : Image) (a : A) (b : B)
    → LeavesPairs la lb ca cb (IsPairFrom (la a (ca a)) (lb b (cb b)) x y) a b a b
pairs_now la lb ca cb x y a b = λ p q lp lq. inl (lp, lq)

-- calls that leave no image
pairs_before : {A B : Type 0} (la : A → ℕ → Image → Type 0) (lb : B → ℕ → Image → Type 0) (ca : A → ℕ) (cb : B → ℕ) (x y : Image) (a a1 : A) (b b1 : B)
    → Elapses (ca a) (ca a1) (la a) (la a1) Nothing → Elapses (cb b) (cb b1) (lb b) (lb b1) Nothing
    → LeavesPairs la lb ca cb (IsPairFrom (la a (ca a)) (lb b (cb b)) x y) a b a1 b1
pairs_before la lb ca cb x y a a1 b b1 time_a time_b = λ p q lp lq.
    inl (⊎_elim (λ old. old) (λ none. absurd none) (time_a.adds (ca a) p (omega arith) lp), ⊎_elim (λ old. old) (λ none. absurd none) (time_b.adds (cb b) q (omega arith) lq))

-- what goes on by what is attached goes on by its names
named_over : {A B : Type 0} (ga : Ghosts A) (gb : Ghosts B) (first second : List ℕ) (la : A → ℕ → Image → Type 0) (lb : B → ℕ → Image → Type 0) (P Q : Image → Image → Type 0)
    → ((d : A) (t : ℕ) (c : Image) → ga.is_named d first → la d t c ↔ ga.left_since d t c)
    → ((d : B) (t : ℕ) (c : Image) → gb.is_named d second → lb d t c ↔ gb.left_since d t c)
    → ((d : A) (t u : ℕ) (c : Image) → t ≤ u → ga.left_since d u c → ga.left_since d t c)
    → ((d : B) (t u : ℕ) (c : Image) → t ≤ u → gb.left_since d u c → gb.left_since d t c)
    → ((x y : Image) → P x y → Q x y) → (ms : List (A × B)) (a a1 : A) (b b1 : B) → ga.is_named a first → gb.is_named b second
    → LeavesPairs la lb ga.call_count gb.call_count Q a b a b
    → GoesOver (Stretch ga gb P) a b ms a1 b1 → GoesOver (LeavesPairsFrom la lb ga.call_count gb.call_count Q) a b ms a1 b1
named_over ga gb first second la lb P Q law_a law_b earlier_a earlier_b into [] a a1 b b1 na nb now h = (
  now,
  λ x y lx ly.
      into x y (h.pairs x y ((law_a a1 (ga.call_count a) x (h.first_stays.same_name first na)).0 lx) ((law_b b1 (gb.call_count b) y (h.second_stays.same_name second nb)).0 ly)),
)
named_over ga gb first second la lb P Q law_a law_b earlier_a earlier_b into (m ∷ ms) a a1 b b1 na nb now h =
    let na' = h.0.first_stays.same_name first na in
    let nb' = h.0.second_stays.same_name second nb in (
      (now, λ x y lx ly. into x y (h.0.pairs x y ((law_a m.0 (ga.call_count a) x na').0 lx) ((law_b m.1 (gb.call_count b) y nb').0 ly))),
      named_over ga gb first second la lb P Q law_a law_b earlier_a earlier_b into ms m.0 a1 m.1 b1 na' nb'
          (λ x y lx ly. into x y (h.0.pairs x y
          (earlier_a m.0 (ga.call_count a) (ga.call_count m.0) x h.0.first_later ((law_a m.0 (ga.call_count m.0) x na').0 lx))
          (earlier_b m.1 (gb.call_count b) (gb.call_count m.1) y h.0.second_later ((law_b m.1 (gb.call_count m.1) y nb').0 ly))))
          h.1,
    )

pub none_then : {P Q : Type 0} (o : Option ℕ) → IfNone o P → (P → Q) → IfNone o Q
none_then None p f = f p
none_then (Some n) p f = tt

-- calls that leave no image lose nothing
pub loses_before : {A B : Type 0} (o : Option ℕ) (sa : A → Option Image) (sb : B → Option Image) (la : A → ℕ → Image → Type 0) (lb : B → ℕ → Image → Type 0) (ca : A → ℕ) (cb : B → ℕ) (a a1 : A) (b b1 : B)
    → IfNone o (Elapses (ca a) (ca a1) (la a) (la a1) Nothing) → IfNone o (Elapses (cb b) (cb b1) (lb b) (lb b1) Nothing)
    → IfNone o (LosesNothing sa sb la lb ca cb a b a1 b1)
loses_before (Some n) sa sb la lb ca cb a a1 b b1 time_a time_b = tt
loses_before None sa sb la lb ca cb a a1 b b1 time_a time_b = λ x y sx sy some same.
    ([], (pairs_now la lb ca cb x y a b, pairs_before la lb ca cb x y a a1 b b1 time_a time_b))

-- how many blocks what is known has
pub known_length : (count count' : ℕ) (known now : Option Image) (image : Image) → now ≡ known → count' ≡ count → IfSome known (HasBlocks count)
    → now ≡ Some image → length image ≡ count'
known_length count count' known now image kept same shape is =
    let there : HasBlocks count image = subst (λ (o : Option Image). IfSome o (HasBlocks count)) (sym kept ∙ is) shape in
    there.count_is ∙ sym same

-- what is held after calls that leave no image could be left before them
held_before : {A : Type 0} (ga : Ghosts A) (la : A → ℕ → Image → Type 0) (a ja : A) (x : Image)
    → ((t : ℕ) (c : Image) → la ja t c ↔ ga.left_since ja t c) → ((t u : ℕ) (c : Image) → t ≤ u → ga.left_since ja u c → ga.left_since ja t c)
    → Elapses (ga.call_count a) (ga.call_count ja) (la a) (la ja) Nothing → IfSome (ga.contents ja) (left_now ga ja) → ga.contents ja ≡ Some x → la a (ga.call_count a) x
held_before ga la a ja x law earlier time stays is =
    let held : left_now ga ja x = is_known (left_now ga ja) (ga.contents ja) x is stays in
    ⊎_elim (λ old. old) (λ none. absurd none)
    (time.adds (ga.call_count a) x (omega arith) ((law (ga.call_count a) x).1 (earlier (ga.call_count a) (ga.call_count ja) x time.later held)))

-- nor do two halves that were attached and are joined
pub loses_joined : {A B : Type 0} (ga : Ghosts A) (gb : Ghosts B) (o : Option ℕ) (first second : List ℕ) (sa : A → Option Image) (sb : B → Option Image) (la : A → ℕ → Image → Type 0) (lb : B → ℕ → Image → Type 0)
    (a a0 ja a1 : A) (b b0 jb b1 : B) → IfNone o (ga.contents a0 ≡ sa a) → IfNone o (gb.contents b0 ≡ sb b)
    → ga.contents ja ≡ ga.contents a0 → gb.contents jb ≡ gb.contents b0 → ga.block_count ja ≡ ga.block_count a0 → gb.block_count jb ≡ gb.block_count b0
    → IfSome (ga.contents a0) (HasBlocks (ga.block_count a0)) → IfSome (gb.contents b0) (HasBlocks (gb.block_count b0))
    → IfNone o (Elapses (ga.call_count a) (ga.call_count ja) (la a) (la ja) Nothing) → IfNone o (Elapses (gb.call_count b) (gb.call_count jb) (lb b) (lb jb) Nothing)
    → ga.is_named ja first → gb.is_named jb second
    → ((d : A) (t : ℕ) (c : Image) → ga.is_named d first → la d t c ↔ ga.left_since d t c)
    → ((d : B) (t : ℕ) (c : Image) → gb.is_named d second → lb d t c ↔ gb.left_since d t c)
    → ((d : A) (t u : ℕ) (c : Image) → t ≤ u → ga.left_since d u c → ga.left_since d t c)
    → ((d : B) (t u : ℕ) (c : Image) → t ≤ u → gb.left_since d u c → gb.left_since d t c)
    → (0 < ga.block_count ja → ga.block_count ja ≡ gb.block_count jb → IfSome (ga.contents ja) (left_now ga ja))
    → (0 < ga.block_count ja → ga.block_count ja ≡ gb.block_count jb → IfSome (gb.contents jb) (left_now gb jb))
    → (0 < ga.block_count ja → ga.block_count ja ≡ gb.block_count jb → (x y : Image) → ga.contents ja ≡ Some x → gb.contents jb ≡ Some y
    → GoesOn (Stretch ga gb (IsPickOf (ga.block_count ja - 1) x y)) ja jb a1 b1)
    → IfNone o (LosesNothing sa sb la lb ga.call_count gb.call_count a b a1 b1)
loses_joined ga gb (Some n) first second sa sb la lb a a0 ja a1 b b0 jb b1 is_a is_b kept_a kept_b count_a count_b shape_a shape_b time_a time_b na nb law_a law_b earlier_a earlier_b stay_a stay_b inside = tt
loses_joined ga gb None first second sa sb la lb a a0 ja a1 b b0 jb b1 is_a is_b kept_a kept_b count_a count_b shape_a shape_b time_a time_b na nb law_a law_b earlier_a earlier_b stay_a stay_b inside = λ x y sx sy some same.
    let kx : ga.contents ja ≡ Some x = kept_a ∙ is_a ∙ sx in
    let ky : gb.contents jb ≡ Some y = kept_b ∙ is_b ∙ sy in
    let len_x : length x ≡ ga.block_count ja = known_length (ga.block_count a0) (ga.block_count ja) (ga.contents a0) (ga.contents ja) x kept_a count_a shape_a kx in
    let len_y : length y ≡ gb.block_count jb = known_length (gb.block_count b0) (gb.block_count jb) (gb.contents b0) (gb.contents jb) y kept_b count_b shape_b ky in
    let room : 0 < ga.block_count ja = subst (λ n. 0 < n) len_x some in
    let equal : ga.block_count ja ≡ gb.block_count jb = sym len_x ∙ same ∙ len_y in
    let over = inside room equal x y kx ky in
    let left_x : la a (ga.call_count a) x = held_before ga la a ja x (λ t c. law_a ja t c na) (earlier_a ja) time_a (stay_a room equal) kx in
    let left_y : lb b (gb.call_count b) y = held_before gb lb b jb y (λ t c. law_b jb t c nb) (earlier_b jb) time_b (stay_b room equal) ky in
    let before = pairs_before la lb ga.call_count gb.call_count x y a ja b jb time_a time_b in
    let Q : Image → Image → Type 0 = IsPairFrom (la a (ga.call_count a)) (lb b (gb.call_count b)) x y in (
      (ja, jb) ∷ over.0,
      (
        (pairs_now la lb ga.call_count gb.call_count x y a b, before),
        named_over ga gb first second la lb (IsPickOf (ga.block_count ja - 1) x y) Q law_a law_b earlier_a earlier_b
            (λ p q h. inr (left_x, left_y, subst (λ k. IsPickOf (k - 1) x y p q) (sym len_x) h)) over.0 ja a1 jb b1 na nb
            (λ p q lp lq. before p q
            ((law_a ja (ga.call_count a) p na).1 (earlier_a ja (ga.call_count a) (ga.call_count ja) p time_a.later ((law_a ja (ga.call_count ja) p na).0 lp)))
            ((law_b jb (gb.call_count b) q nb).1 (earlier_b jb (gb.call_count b) (gb.call_count jb) q time_b.later ((law_b jb (gb.call_count jb) q nb).0 lq))))
            over.1,
      ),
    )
