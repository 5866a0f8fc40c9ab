-- Messages of which some stay, and the index of these.
use Rattle.std.proofs.Common.{◌≡◌, ℕ, zero, suc, ◌+◌, ◌<◌, ◌≤◌, Bool, true, false, cond, List, [], ◌∷◌, ◌++◌, length, take, get_or, refl, sym, ap, subst, ◌∙◌, Option, Some, arith, inl, inr}
use Rattle.std.specs.Prelude.{slice_get, count_by, ◌==◌, ◌||◌}
use Rattle.std.proofs.lemmas.Bool.{cases_Bool}
use Rattle.std.proofs.lemmas.List.{take_more, length-take}
use Rattle.std.proofs.lemmas.List.Sums.{sum_by-cons}
use Rattle.std.proofs.lemmas.Option.{none-some}
use Rattle.bd_keys.specs.Keys.{key_cmp, IsAtLeast}
use Rattle.bd_message.specs.declared.message.Message.{Message}
use Rattle.bd_message.proofs.Finds.{tied}
use Rattle.bd_node.specs.Index.{is_point_in, is_range_in, key_in, is_point_at, is_range_at, key_at, spot, is_before, has, IsIndex}
use Rattle.bd_node.specs.Stems.{stem_in, stem_at, AreByStem}
use Rattle.bd_node.specs.Keeping.{staying, stay_count, stays_at, moved}
use Rattle.bd_node.proofs.Spots.{true_false, has_place, has_at}
use Rattle.bd_node.proofs.Indexing.{by_cmp, spot_less, spot_more, same_before, before_same, point_within, range_within}

-- ---- how many messages stay

count-cons : (b : Bool) (mask : List Bool) → count_by (λ (stays : Bool). stays) (b ∷ mask) ≡ cond b 1 0 + count_by (λ (stays : Bool). stays) mask
count-cons b mask = sum_by-cons (λ (stays : Bool). cond stays 1 0) b mask

pub count-yes : (mask : List Bool) → count_by (λ (stays : Bool). stays) (true ∷ mask) ≡ suc (count_by (λ (stays : Bool). stays) mask)
count-yes mask = count-cons true mask ∙ omega arith

pub count-skip : (mask : List Bool) → count_by (λ (stays : Bool). stays) (false ∷ mask) ≡ count_by (λ (stays : Bool). stays) mask
count-skip mask = count-cons false mask ∙ omega arith

pub stay_count-le : (mask : List Bool) (n i : ℕ) → n ≤ i → stay_count mask n ≤ stay_count mask i
stay_count-le mask zero i h = omega arith
stay_count-le [] (suc n) zero h = omega arith
stay_count-le [] (suc n) (suc i) h = omega arith
stay_count-le (b ∷ mask) (suc n) zero h = absurd (omega arith)
stay_count-le (b ∷ mask) (suc n) (suc i) h =
    let less : stay_count mask n ≤ stay_count mask i = stay_count-le mask n i (omega arith) in
    omega (arith, count-cons b (take n mask), count-cons b (take i mask))

pub stay_count-within : (mask : List Bool) (xs : List Message) (n : ℕ) → length mask ≡ length xs → stay_count mask n ≤ length (staying mask xs)
stay_count-within mask xs zero e = omega arith
stay_count-within [] xs (suc n) e = omega arith
stay_count-within (b ∷ mask) [] (suc n) e = absurd (omega arith)
stay_count-within (true ∷ mask) (x ∷ xs) (suc n) e =
    let less : stay_count mask n ≤ length (staying mask xs) = stay_count-within mask xs n (omega arith) in
    omega (arith, count-yes (take n mask))
stay_count-within (false ∷ mask) (x ∷ xs) (suc n) e =
    let less : stay_count mask n ≤ length (staying mask xs) = stay_count-within mask xs n (omega arith) in
    omega (arith, count-skip (take n mask))

-- ---- where a message that stays stood before

pub record StoodAt (mask : List Bool) (xs : List Message) (j : ℕ) (m : Message) : Type 0 where
  pub place : ℕ
  pub stays : slice_get mask place ≡ Some true
  pub there : slice_get xs place ≡ Some m
  pub now : stay_count mask place ≡ j

pub stood_at : (mask : List Bool) (xs : List Message) (j : ℕ) (m : Message) → slice_get (staying mask xs) j ≡ Some m → StoodAt mask xs j m
stood_at [] xs j m h = absurd (none-some m h)
stood_at (b ∷ mask) [] j m h = absurd (none-some m h)
stood_at (true ∷ mask) (x ∷ xs) zero m h = record { place = zero; stays = refl; there = h; now = refl }
stood_at (true ∷ mask) (x ∷ xs) (suc j) m h =
    let found = stood_at mask xs j m h in
    let more : stay_count mask found.place ≡ j = found.now in
    record { place = suc found.place; stays = found.stays; there = found.there; now = count-yes (take found.place mask) ∙ ap (λ (c : ℕ). suc c) more }
stood_at (false ∷ mask) (x ∷ xs) j m h =
    let found = stood_at mask xs j m h in
    record { place = suc found.place; stays = found.stays; there = found.there; now = count-skip (take found.place mask) ∙ found.now }

-- ---- one message further

staying_end : (mask : List Bool) (stays : Bool) (xs : List Message) (m : Message) → length mask ≡ length xs → staying (mask ++ stays ∷ []) (xs ++ m ∷ []) ≡ staying mask xs ++ cond stays (m ∷ []) []
staying_end [] stays [] m e = refl
staying_end [] stays (x ∷ xs) m e = absurd (omega arith)
staying_end (s ∷ mask) stays [] m e = absurd (omega arith)
staying_end (s ∷ mask) stays (x ∷ xs) m e =
    let more : staying (mask ++ stays ∷ []) (xs ++ m ∷ []) ≡ staying mask xs ++ cond stays (m ∷ []) [] = staying_end mask stays xs m (omega arith) in
    elim s as (λ (b : Bool). cond b (x ∷ staying (mask ++ stays ∷ []) (xs ++ m ∷ [])) (staying (mask ++ stays ∷ []) (xs ++ m ∷ [])) ≡ cond b (x ∷ staying mask xs) (staying mask xs) ++ cond stays (m ∷ []) []) [
      | true ↦ ap (λ (r : List Message). x ∷ r) more
      | false ↦ more
    ]

-- one message further
pub staying_more : (mask : List Bool) (buffer : List Message) (i : ℕ) (stays : Bool) (m : Message) (list new : List Message) → length mask ≡ length buffer → i < length mask → stays ≡ get_or mask i false → m ≡ get_or buffer i m → list ≡ staying (take i mask) (take i buffer) → new ≡ list ++ cond stays (m ∷ []) []
    → new ≡ staying (take (i + 1) mask) (take (i + 1) buffer)
staying_more mask buffer i stays m list new e low here there before is =
    is
    ∙ ap (λ (l : List Message). l ++ cond stays (m ∷ []) []) before
    ∙ sym (staying_end (take i mask) stays (take i buffer) m (omega (arith, length-take i mask, length-take i buffer)))
    ∙ ap (λ (l : List Bool). staying l (take i buffer ++ m ∷ [])) (sym (take_more mask i false low ∙ ap (λ (b : Bool). take i mask ++ b ∷ []) (sym here)))
    ∙ ap (λ (l : List Message). staying (take (i + 1) mask) l) (sym (take_more buffer i m (omega arith) ∙ ap (λ (x : Message). take i buffer ++ x ∷ []) (sym there)))

-- ---- where a message that stays then stands

pub read_stays : (mask : List Bool) (i : ℕ) (d b : Bool) → i < length mask → get_or mask i d ≡ b → stays_at mask i ≡ b
read_stays [] i d b low h = absurd (omega arith)
read_stays (s ∷ mask) zero d b low h = h
read_stays (s ∷ mask) (suc i) d b low h = read_stays mask i d b (omega arith) h

stays_there : (mask : List Bool) (i : ℕ) → slice_get mask i ≡ Some true → stays_at mask i ≡ true
stays_there [] i h = absurd (none-some true h)
stays_there (s ∷ mask) zero h = Rattle.std.proofs.lemmas.Option.same_Some s true h
stays_there (s ∷ mask) (suc i) h = stays_there mask i h

-- it stands after those before it that stay
pub kept_there : (mask : List Bool) (xs : List Message) (i : ℕ) → length mask ≡ length xs → stays_at mask i ≡ true → slice_get (staying mask xs) (stay_count mask i) ≡ slice_get xs i
kept_there [] xs i e h = absurd (true_false false h refl)
kept_there (b ∷ mask) [] i e h = absurd (omega arith)
kept_there (true ∷ mask) (x ∷ xs) zero e h = refl
kept_there (false ∷ mask) (x ∷ xs) zero e h = absurd (true_false false h refl)
kept_there (true ∷ mask) (x ∷ xs) (suc i) e h =
    ap (λ (n : ℕ). slice_get (x ∷ staying mask xs) n) (count-yes (take i mask)) ∙ kept_there mask xs i (omega arith) h
kept_there (false ∷ mask) (x ∷ xs) (suc i) e h =
    ap (λ (n : ℕ). slice_get (staying mask xs) n) (count-skip (take i mask)) ∙ kept_there mask xs i (omega arith) h

-- and before those after it
pub kept_less : (mask : List Bool) (i j : ℕ) → stays_at mask i ≡ true → i < j → stay_count mask i < stay_count mask j
kept_less [] i j h low = absurd (true_false false h refl)
kept_less (b ∷ mask) i zero h low = absurd (omega arith)
kept_less (true ∷ mask) zero (suc j) h low = (let e : stay_count (true ∷ mask) (suc j) ≡ suc (stay_count mask j) = count-yes (take j mask) in let z : stay_count (true ∷ mask) 0 ≡ 0 = refl in omega arith)
kept_less (false ∷ mask) zero (suc j) h low = absurd (true_false false h refl)
kept_less (true ∷ mask) (suc i) (suc j) h low =
    let less : stay_count mask i < stay_count mask j = kept_less mask i j h (omega arith) in
    omega (arith, count-yes (take i mask), count-yes (take j mask))
kept_less (false ∷ mask) (suc i) (suc j) h low =
    let less : stay_count mask i < stay_count mask j = kept_less mask i j h (omega arith) in
    omega (arith, count-skip (take i mask), count-skip (take j mask))

-- ---- places of an index

-- a place that is left comes from one of those before
pub record CameFrom (mask : List Bool) (places : List ℕ) (a q : ℕ) : Type 0 where
  pub within : q < length places
  pub stays : stays_at mask (get_or places q 0) ≡ true
  pub is : get_or (moved mask places) a 0 ≡ stay_count mask (get_or places q 0)

moved_yes : (mask : List Bool) (p : ℕ) (ps : List ℕ) → stays_at mask p ≡ true → moved mask (p ∷ ps) ≡ stay_count mask p ∷ moved mask ps
moved_yes mask p ps h = ap (λ (b : Bool). cond b (stay_count mask p ∷ moved mask ps) (moved mask ps)) h

moved_no : (mask : List Bool) (p : ℕ) (ps : List ℕ) → stays_at mask p ≡ false → moved mask (p ∷ ps) ≡ moved mask ps
moved_no mask p ps h = ap (λ (b : Bool). cond b (stay_count mask p ∷ moved mask ps) (moved mask ps)) h

later : (mask : List Bool) (p : ℕ) (ps : List ℕ) (a b q : ℕ) → get_or (moved mask (p ∷ ps)) b 0 ≡ get_or (moved mask ps) a 0 → CameFrom mask ps a q → CameFrom mask (p ∷ ps) b (suc q)
later mask p ps a b q same h = record { within = (let l : q < length ps = h.within in omega arith); stays = h.stays; is = same ∙ h.is }

first_yes : (mask : List Bool) (p : ℕ) (ps : List ℕ) → stays_at mask p ≡ true → CameFrom mask (p ∷ ps) 0 0
first_yes mask p ps held = record { within = omega arith; stays = held; is = ap (λ (l : List ℕ). get_or l 0 0) (moved_yes mask p ps held) }

later_yes : (mask : List Bool) (p : ℕ) (ps : List ℕ) (a q : ℕ) → stays_at mask p ≡ true → CameFrom mask ps a q → CameFrom mask (p ∷ ps) (suc a) (suc q)
later_yes mask p ps a q held h = later mask p ps a (suc a) q (ap (λ (l : List ℕ). get_or l (suc a) 0) (moved_yes mask p ps held)) h

later_no : (mask : List Bool) (p : ℕ) (ps : List ℕ) (a q : ℕ) → stays_at mask p ≡ false → CameFrom mask ps a q → CameFrom mask (p ∷ ps) a (suc q)
later_no mask p ps a q gone h = later mask p ps a a q (ap (λ (l : List ℕ). get_or l a 0) (moved_no mask p ps gone)) h

long_yes : (mask : List Bool) (p : ℕ) (ps : List ℕ) (a : ℕ) → stays_at mask p ≡ true → suc a < length (moved mask (p ∷ ps)) → a < length (moved mask ps)
long_yes mask p ps a held h = (let e : length (moved mask (p ∷ ps)) ≡ suc (length (moved mask ps)) = ap (λ (l : List ℕ). length l) (moved_yes mask p ps held) in omega arith)

long_no : (mask : List Bool) (p : ℕ) (ps : List ℕ) (a : ℕ) → stays_at mask p ≡ false → a < length (moved mask (p ∷ ps)) → a < length (moved mask ps)
long_no mask p ps a gone h = subst (λ (l : List ℕ). a < length l) (moved_no mask p ps gone) h

pub came_from : (mask : List Bool) (ps : List ℕ) (a : ℕ) → a < length (moved mask ps) → (q : ℕ) × CameFrom mask ps a q
came_from mask [] a h = absurd (omega arith)
came_from mask (p ∷ ps) zero h =
    elim (cases_Bool (stays_at mask p)) [
      | inl held ↦ (0, first_yes mask p ps held)
      | inr gone ↦ (let rest = came_from mask ps zero (long_no mask p ps zero gone h) in (suc rest.0, later_no mask p ps zero rest.0 gone rest.1))
    ]
came_from mask (p ∷ ps) (suc a) h =
    elim (cases_Bool (stays_at mask p)) [
      | inl held ↦ (let rest = came_from mask ps a (long_yes mask p ps a held h) in (suc rest.0, later_yes mask p ps a rest.0 held rest.1))
      | inr gone ↦ (let rest = came_from mask ps (suc a) (long_no mask p ps (suc a) gone h) in (suc rest.0, later_no mask p ps (suc a) rest.0 gone rest.1))
    ]

-- two of them, in their order
pub record CameBoth (mask : List Bool) (places : List ℕ) (a b : ℕ) : Type 0 where
  pub p : ℕ
  pub q : ℕ
  pub less : p < q
  pub first : CameFrom mask places a p
  pub second : CameFrom mask places b q

pub came_both : (mask : List Bool) (ps : List ℕ) (a b : ℕ) → a < b → b < length (moved mask ps) → CameBoth mask ps a b
came_both mask [] a b less h = absurd (omega arith)
came_both mask (p ∷ ps) a zero less h = absurd (omega arith)
came_both mask (p ∷ ps) zero (suc b) less h =
    elim (cases_Bool (stays_at mask p)) [
      | inl held ↦ (let rest = came_from mask ps b (long_yes mask p ps b held h) in
          record { p = 0; q = suc rest.0; less = omega arith; first = first_yes mask p ps held; second = later_yes mask p ps b rest.0 held rest.1 })
      | inr gone ↦ (let rest = came_both mask ps zero (suc b) less (long_no mask p ps (suc b) gone h) in
          let l : rest.p < rest.q = rest.less in
          record { p = suc rest.p; q = suc rest.q; less = omega arith; first = later_no mask p ps zero rest.p gone rest.first; second = later_no mask p ps (suc b) rest.q gone rest.second })
    ]
came_both mask (p ∷ ps) (suc a) (suc b) less h =
    elim (cases_Bool (stays_at mask p)) [
      | inl held ↦ (let rest = came_both mask ps a b (omega arith) (long_yes mask p ps b held h) in
          let l : rest.p < rest.q = rest.less in
          record { p = suc rest.p; q = suc rest.q; less = omega arith; first = later_yes mask p ps a rest.p held rest.first; second = later_yes mask p ps b rest.q held rest.second })
      | inr gone ↦ (let rest = came_both mask ps (suc a) (suc b) less (long_no mask p ps (suc b) gone h) in
          let l : rest.p < rest.q = rest.less in
          record { p = suc rest.p; q = suc rest.q; less = omega arith; first = later_no mask p ps (suc a) rest.p gone rest.first; second = later_no mask p ps (suc b) rest.q gone rest.second })
    ]

or_right : (b c : Bool) → c ≡ true → (b || c) ≡ true
or_right true c h = refl
or_right false c h = h

-- each place whose message stays is left
pub kept_has : (mask : List Bool) (ps : List ℕ) (q : ℕ) → q < length ps → stays_at mask (get_or ps q 0) ≡ true → has (moved mask ps) (stay_count mask (get_or ps q 0)) ≡ true
kept_has mask [] q h held = absurd (omega arith)
kept_has mask (p ∷ ps) zero h held =
    subst (λ (l : List ℕ). has l (stay_count mask p) ≡ true) (sym (moved_yes mask p ps held)) (has_at (stay_count mask p ∷ moved mask ps) 0 (stay_count mask p) (omega arith) refl)
kept_has mask (p ∷ ps) (suc q) h held =
    let rest : has (moved mask ps) (stay_count mask (get_or ps q 0)) ≡ true = kept_has mask ps q (omega arith) held in
    elim (cases_Bool (stays_at mask p)) [
      | inl here ↦ subst (λ (l : List ℕ). has l (stay_count mask (get_or ps q 0)) ≡ true) (sym (moved_yes mask p ps here)) (or_right (stay_count mask p == stay_count mask (get_or ps q 0)) (has (moved mask ps) (stay_count mask (get_or ps q 0))) rest)
      | inr gone ↦ subst (λ (l : List ℕ). has l (stay_count mask (get_or ps q 0)) ≡ true) (sym (moved_no mask p ps gone)) rest
    ]

moved_end : (mask : List Bool) (ps : List ℕ) (p : ℕ) → moved mask (ps ++ p ∷ []) ≡ moved mask ps ++ cond (stays_at mask p) (stay_count mask p ∷ []) []
moved_end mask [] p = elim (cases_Bool (stays_at mask p)) [
  | inl held ↦ moved_yes mask p [] held ∙ sym (ap (λ (b : Bool). cond b (stay_count mask p ∷ []) []) held)
  | inr gone ↦ moved_no mask p [] gone ∙ sym (ap (λ (b : Bool). cond b (stay_count mask p ∷ []) []) gone)
]
moved_end mask (q ∷ ps) p =
    let more : moved mask (ps ++ p ∷ []) ≡ moved mask ps ++ cond (stays_at mask p) (stay_count mask p ∷ []) [] = moved_end mask ps p in
    elim (stays_at mask q) as (λ (b : Bool). cond b (stay_count mask q ∷ moved mask (ps ++ p ∷ [])) (moved mask (ps ++ p ∷ [])) ≡ cond b (stay_count mask q ∷ moved mask ps) (moved mask ps) ++ cond (stays_at mask p) (stay_count mask p ∷ []) []) [
      | true ↦ ap (λ (r : List ℕ). stay_count mask q ∷ r) more
      | false ↦ more
    ]

-- one place further
pub moved_more : (mask : List Bool) (ps : List ℕ) (i : ℕ) (b : Bool) (list new : List ℕ) → i < length ps → stays_at mask (get_or ps i 0) ≡ b → list ≡ moved mask (take i ps) → new ≡ list ++ cond b (stay_count mask (get_or ps i 0) ∷ []) []
    → new ≡ moved mask (take (i + 1) ps)
moved_more mask ps i b list new low here before is =
    is
    ∙ ap (λ (l : List ℕ). l ++ cond b (stay_count mask (get_or ps i 0) ∷ []) []) before
    ∙ ap (λ (c : Bool). moved mask (take i ps) ++ cond c (stay_count mask (get_or ps i 0) ∷ []) []) (sym here)
    ∙ sym (moved_end mask (take i ps) (get_or ps i 0))
    ∙ ap (λ (l : List ℕ). moved mask l) (sym (take_more ps i 0 low))

-- ---- the index of the messages that stay

-- messages that stay keep their order
kept_before : (mask : List Bool) (xs : List Message) (i j : ℕ) → length mask ≡ length xs → stays_at mask i ≡ true → stays_at mask j ≡ true → is_before xs i (spot xs j) ≡ true
    → is_before (staying mask xs) (stay_count mask i) (spot (staying mask xs) (stay_count mask j)) ≡ true
kept_before mask xs i j e stays_i stays_j h =
    let key_i : key_at (staying mask xs) (stay_count mask i) ≡ key_at xs i = ap key_in (kept_there mask xs i e stays_i) in
    let key_j : key_at (staying mask xs) (stay_count mask j) ≡ key_at xs j = ap key_in (kept_there mask xs j e stays_j) in
    by_cmp (is_before (staying mask xs) (stay_count mask i) (spot (staying mask xs) (stay_count mask j)) ≡ true) (key_cmp (key_at xs i) (key_at xs j))
    (λ o. spot_less (key_at (staying mask xs) (stay_count mask i)) (key_at (staying mask xs) (stay_count mask j)) (stay_count mask i) (stay_count mask j)
    (ap (λ (k : List ℕ). key_cmp k (key_at (staying mask xs) (stay_count mask j))) key_i ∙ ap (λ (k : List ℕ). key_cmp (key_at xs i) k) key_j ∙ o))
    (λ o. same_before (staying mask xs) (key_at (staying mask xs) (stay_count mask j)) (stay_count mask i) (stay_count mask j)
    (key_i ∙ tied (key_at xs i) (key_at xs j) o ∙ sym key_j)
    (kept_less mask i j stays_i (before_same xs (key_at xs j) i j (tied (key_at xs i) (key_at xs j) o) h)))
    (λ o. absurd (true_false _ h (spot_more (key_at xs i) (key_at xs j) i j o)))

point_kept : (mask : List Bool) (xs : List Message) (i : ℕ) → length mask ≡ length xs → stays_at mask i ≡ true → is_point_at xs i ≡ true → is_point_at (staying mask xs) (stay_count mask i) ≡ true
point_kept mask xs i e stays h = ap is_point_in (kept_there mask xs i e stays) ∙ h

range_kept : (mask : List Bool) (xs : List Message) (i : ℕ) → length mask ≡ length xs → stays_at mask i ≡ true → is_range_at xs i ≡ true → is_range_at (staying mask xs) (stay_count mask i) ≡ true
range_kept mask xs i e stays h = ap is_range_in (kept_there mask xs i e stays) ∙ h

-- among places that have one of each message of a kind, what is left has one of each that stays
left_has : (kind : Option Message → Bool) (mask : List Bool) (xs : List Message) (places : List ℕ) (j : ℕ) (m : Message) → slice_get (staying mask xs) j ≡ Some m → kind (Some m) ≡ true
    → ((i : ℕ) → kind (slice_get xs i) ≡ true → has places i ≡ true) → has (moved mask places) j ≡ true
left_has kind mask xs places j m at is all =
    let stood = stood_at mask xs j m at in
    let there = has_place places stood.place (all stood.place (ap kind stood.there ∙ is)) in
    let stays : stays_at mask (get_or places there.0 0) ≡ true = subst (λ (i : ℕ). stays_at mask i ≡ true) (sym there.2) (stays_there mask stood.place stood.stays) in
    subst (λ (i : ℕ). has (moved mask places) i ≡ true) (ap (stay_count mask) there.2 ∙ stood.now) (kept_has mask places there.0 there.1 stays)

pub some_at : (xs : List Message) (i : ℕ) → i < length xs → (m : Message) × (slice_get xs i ≡ Some m)
some_at [] i h = absurd (omega arith)
some_at (x ∷ xs) zero h = (x, refl)
some_at (x ∷ xs) (suc i) h = some_at xs i (omega arith)

pub kept_index : (mask : List Bool) (xs : List Message) (points ranges : List ℕ) → length mask ≡ length xs → IsIndex xs (length xs) points ranges → IsIndex (staying mask xs) (length (staying mask xs)) (moved mask points) (moved mask ranges)
kept_index mask xs points ranges e ix = record {
  known = omega arith;
  order = record {
    each = λ a b less within.
        let both = came_both mask points a b less within in
        subst (λ (i : ℕ). is_before (staying mask xs) i (spot (staying mask xs) (get_or (moved mask points) b 0)) ≡ true) (sym both.first.is)
        (subst (λ (j : ℕ). is_before (staying mask xs) (stay_count mask (get_or points both.p 0)) (spot (staying mask xs) j) ≡ true) (sym both.second.is)
        (kept_before mask xs (get_or points both.p 0) (get_or points both.q 0) e both.first.stays both.second.stays (ix.order.each both.p both.q both.less both.second.within)));
  };
  below = λ a within.
      let one = came_from mask points a within in
      point_within (staying mask xs) (get_or (moved mask points) a 0)
      (subst (λ (i : ℕ). is_point_at (staying mask xs) i ≡ true) (sym one.1.is) (point_kept mask xs (get_or points one.0 0) e one.1.stays (ix.point one.0 one.1.within)));
  point = λ a within.
      let one = came_from mask points a within in
      subst (λ (i : ℕ). is_point_at (staying mask xs) i ≡ true) (sym one.1.is) (point_kept mask xs (get_or points one.0 0) e one.1.stays (ix.point one.0 one.1.within));
  all_points = λ j low is.
      let some = some_at (staying mask xs) j low in
      left_has is_point_in mask xs points j some.0 some.1 (ap is_point_in (sym some.1) ∙ is) (λ i h. ix.all_points i (point_within xs i h) h);
  rising = λ a b less within.
      let both = came_both mask ranges a b less within in
      let more : stay_count mask (get_or ranges both.p 0) < stay_count mask (get_or ranges both.q 0) = kept_less mask (get_or ranges both.p 0) (get_or ranges both.q 0) both.first.stays (ix.rising both.p both.q both.less both.second.within) in
      let x : get_or (moved mask ranges) a 0 ≡ stay_count mask (get_or ranges both.p 0) = both.first.is in
      let y : get_or (moved mask ranges) b 0 ≡ stay_count mask (get_or ranges both.q 0) = both.second.is in
      omega arith;
  under = λ a within.
      let one = came_from mask ranges a within in
      range_within (staying mask xs) (get_or (moved mask ranges) a 0)
      (subst (λ (i : ℕ). is_range_at (staying mask xs) i ≡ true) (sym one.1.is) (range_kept mask xs (get_or ranges one.0 0) e one.1.stays (ix.range one.0 one.1.within)));
  range = λ a within.
      let one = came_from mask ranges a within in
      subst (λ (i : ℕ). is_range_at (staying mask xs) i ≡ true) (sym one.1.is) (range_kept mask xs (get_or ranges one.0 0) e one.1.stays (ix.range one.0 one.1.within));
  all_ranges = λ j low is.
      let some = some_at (staying mask xs) j low in
      left_has is_range_in mask xs ranges j some.0 some.1 (ap is_range_in (sym some.1) ∙ is) (λ i h. ix.all_ranges i (range_within xs i h) h);
}

-- messages that stay keep the order of their prefixes
pub kept_stems : (mask : List Bool) (xs : List Message) (stems : List ℕ) → length mask ≡ length xs → AreByStem xs (length xs) stems → AreByStem (staying mask xs) (length (staying mask xs)) (moved mask stems)
kept_stems mask xs stems e by = record {
  known = omega arith;
  order = λ a b less within.
      let both = came_both mask stems a b less within in
      let first : stem_at (staying mask xs) (get_or (moved mask stems) a 0) ≡ stem_at xs (get_or stems both.p 0) = ap (λ (i : ℕ). stem_at (staying mask xs) i) both.first.is ∙ ap stem_in (kept_there mask xs (get_or stems both.p 0) e both.first.stays) in
      let second : stem_at (staying mask xs) (get_or (moved mask stems) b 0) ≡ stem_at xs (get_or stems both.q 0) = ap (λ (i : ℕ). stem_at (staying mask xs) i) both.second.is ∙ ap stem_in (kept_there mask xs (get_or stems both.q 0) e both.second.stays) in
      subst (λ (k : List ℕ). IsAtLeast k (stem_at (staying mask xs) (get_or (moved mask stems) a 0))) (sym second)
      (subst (λ (k : List ℕ). IsAtLeast (stem_at xs (get_or stems both.q 0)) k) (sym first)
      (by.order both.p both.q both.less both.second.within));
  below = λ a within.
      let one = came_from mask stems a within in
      range_within (staying mask xs) (get_or (moved mask stems) a 0)
      (subst (λ (i : ℕ). is_range_at (staying mask xs) i ≡ true) (sym one.1.is) (range_kept mask xs (get_or stems one.0 0) e one.1.stays (by.range one.0 one.1.within)));
  range = λ a within.
      let one = came_from mask stems a within in
      subst (λ (i : ℕ). is_range_at (staying mask xs) i ≡ true) (sym one.1.is) (range_kept mask xs (get_or stems one.0 0) e one.1.stays (by.range one.0 one.1.within));
  all = λ j low is.
      let some = some_at (staying mask xs) j low in
      left_has is_range_in mask xs stems j some.0 some.1 (ap is_range_in (sym some.1) ∙ is) (λ i h. by.all i (range_within xs i h) h);
}
