-- Entries merged with messages on one key each.
use Rattle.std.proofs.Common.{◌≡◌, ℕ, ◌+◌, ◌-◌, ◌<◌, ◌≤◌, true, false, not, List, [], ◌∷◌, ◌++◌, length, take, drop, refl, sym, ap, subst, ◌∙◌, None, Some, arith, inl, inr, cond, get_or, take-append-drop, length-drop, length-append, add-one, zero, suc, Ordering, Less, Equal, Greater}
use Rattle.std.specs.Prelude.{Bool, Option, slice_get}
use Rattle.std.specs.List.{AllByRecursion, sum_by}
use Rattle.std.specs.Ordering.{is_lt}
use Rattle.std.specs.Cmp.Lexicographic.{same_text}
use Rattle.std.proofs.lemmas.Bool.{cases_Bool}
use Rattle.std.proofs.lemmas.List.{append_assoc, drop-drop, drop_more, take_all, length-map, length-take-le}
use Rattle.std.proofs.lemmas.Option.{same_Some, none-some, slice_get_read}
use Rattle.std.proofs.lemmas.List.Sums.{sum_by-cons, sum_by-append}
use Rattle.std.proofs.lemmas.Cmp.{nat_list_cmp_total as total}
use Rattle.bd_limits.specs.Limits.{key_limit}
use Rattle.bd_keys.specs.Keys.{key_cmp, IsBelow, IsAtLeast}
use Rattle.bd_message.specs.declared.message.Message.{Message}
use Rattle.bd_message.specs.Effect.{NodesAt, same_key, acts}
use Rattle.bd_node.specs.declared.node.Entry.{Entry}
use Rattle.bd_node.specs.Index.{own_key}
use Rattle.bd_node.specs.Nodes.{entry_at}
use Rattle.bd_node.specs.Shape.{entry_size, IsEntry, IsRising}
use Rattle.bd_keys.proofs.Order.{below_from}
use Rattle.bd_node.proofs.Edges.{not_below_itself, lt_isnt}
use Rattle.bd_node.proofs.Lookup.{each_weaker, each_first, each_second}
use Rattle.bd_leaf.specs.Leaves.{AreEntries, entries_size}
use Rattle.bd_leaf.specs.Points.{IsPoint, IsOn, AreInTurn, growth, message_of, messages_of, value_after_all}
use Rattle.bd_leaf.specs.declared.points.Point.{Point}
use Rattle.bd_leaf.specs.Merging.{IsMerged, AreMoved, IsTaken, IsStep, AreOwn, entry_of, count_of}
use Rattle.bd_leaf.proofs.Finds.{apart_below, apart_above, same_key-refl, tied, above}
use Rattle.bd_leaf.proofs.OnKeys.{size_with, IsFit, IsOther, acts-append, acts-other, acts-own, values-fit, values-size}
use Rattle.bd_leaf.proofs.Covers.{least_over}
use Rattle.bd_leaf.proofs.Parts.{true_false, false_true, exchanged, left_entries, placed_entries, size-parts, rising-back}

-- ---- one key

-- the test whether a key is this one, on the entries around it
before_others : (es : List Entry) (k : List ℕ) → AllByRecursion (λ (e : Entry). IsBelow e.key k) es → AllByRecursion (λ (e : Entry). same_key e.key k ≡ false) es
before_others es k h = each_weaker (λ (e : Entry). IsBelow e.key k) (λ (e : Entry). same_key e.key k ≡ false) (λ e below. apart_below e.key k below) es h

after_others : (es : List Entry) (k : List ℕ) → AllByRecursion (λ (e : Entry). IsBelow k e.key) es → AllByRecursion (λ (e : Entry). same_key e.key k ≡ false) es
after_others es k h = each_weaker (λ (e : Entry). IsBelow k e.key) (λ (e : Entry). same_key e.key k ≡ false) (λ e above. apart_above e.key k above) es h

own_same : (k : List ℕ) (o : Option (List ℕ)) → AllByRecursion (λ (e : Entry). same_key e.key k ≡ true) (entry_of k o)
own_same k None = tt
own_same k (Some v) = (same_key-refl k, tt)

own_at : (k : List ℕ) (o : Option (List ℕ)) → entry_at (entry_of k o) k ≡ o
own_at k None = refl
own_at k (Some v) = ap (λ (b : Bool). cond b (Some v) None) (same_key-refl k)

own_size : (k : List ℕ) (o : Option (List ℕ)) → entries_size (entry_of k o) ≡ size_with k o
own_size k None = refl
own_size k (Some v) = sum_by-cons entry_size (record { key = k; value = v }) [] ∙ (let e : 16 + length k + length v + 0 ≡ 16 + length k + length v = omega arith in e)

own_fit : (k : List ℕ) (o : Option (List ℕ)) → AllByRecursion IsEntry (entry_of k o) → IsFit o
own_fit k None h = tt
own_fit k (Some v) h = (h.0.some, h.0.value)

-- what a key has between those below it and those above it
has_own : (xs ys : List Entry) (k : List ℕ) (old : Option (List ℕ)) → AllByRecursion (λ (e : Entry). IsBelow e.key k) xs → AllByRecursion (λ (e : Entry). IsBelow k e.key) ys → entry_at (xs ++ (entry_of k old ++ ys)) k ≡ old
has_own xs ys k old before after =
    exchanged (λ (l : List ℕ). same_key l k) xs (entry_of k old) (entry_of k old) ys k (before_others xs k before) (own_same k old) (own_same k old) (after_others ys k after)
    ∙ ap (λ (b : Bool). cond b (entry_at (entry_of k old) k) (entry_at (xs ++ (entry_of k old ++ ys)) k)) (same_key-refl k)
    ∙ own_at k old

-- and where its value is another one
has_other : (xs ys : List Entry) (k l : List ℕ) (old new : Option (List ℕ)) → AllByRecursion (λ (e : Entry). IsBelow e.key k) xs → AllByRecursion (λ (e : Entry). IsBelow k e.key) ys → same_key l k ≡ false
    → entry_at (xs ++ (entry_of k new ++ ys)) l ≡ entry_at (xs ++ (entry_of k old ++ ys)) l
has_other xs ys k l old new before after other =
    exchanged (λ (l : List ℕ). same_key l k) xs (entry_of k old) (entry_of k new) ys l (before_others xs k before) (own_same k old) (own_same k new) (after_others ys k after)
    ∙ ap (λ (b : Bool). cond b (entry_at (entry_of k new) l) (entry_at (xs ++ (entry_of k old ++ ys)) l)) other

exchanged_entries : (xs ys : List Entry) (k : List ℕ) (old new : Option (List ℕ)) → AreEntries (xs ++ (entry_of k old ++ ys)) → length k ≤ key_limit → IsFit new → AllByRecursion (λ (e : Entry). IsBelow e.key k) xs → AllByRecursion (λ (e : Entry). IsBelow k e.key) ys
    → AreEntries (xs ++ (entry_of k new ++ ys))
exchanged_entries xs ys k old None h short fit before after = left_entries xs (entry_of k old) ys h
exchanged_entries xs ys k old (Some v) h short fit before after =
    placed_entries xs (entry_of k old) ys (record { key = k; value = v }) h (record { key = short; some = fit.0; value = fit.1 }) before after

-- messages on the key change what it has, and nothing else
pub key_merged : (xs ys : List Entry) (k : List ℕ) (own : List Message) (old new : Option (List ℕ)) → AreEntries (xs ++ (entry_of k old ++ ys)) → length k ≤ key_limit → AllByRecursion (IsOn k) own
    → AllByRecursion (λ (e : Entry). IsBelow e.key k) xs → AllByRecursion (λ (e : Entry). IsBelow k e.key) ys → new ≡ value_after_all own old → IsMerged (xs ++ (entry_of k old ++ ys)) own (xs ++ (entry_of k new ++ ys))
key_merged xs ys k own old new h short on before after is =
    let fit : IsFit old = own_fit k old (each_first IsEntry (entry_of k old) ys (each_second IsEntry xs (entry_of k old ++ ys) h.each)) in
    record {
      entries = exchanged_entries xs ys k old new h short (subst IsFit (sym is) (values-fit own k old on fit)) before after;
      acted = λ below l.
          elim (cases_Bool (same_key l k)) [
            | inl same ↦ (let here : l ≡ k = same_text l k (sym same) in
                ap (entry_at (xs ++ (entry_of k new ++ ys))) here
                ∙ has_own xs ys k new before after
                ∙ is
                ∙ sym (acts-own below own k old on)
                ∙ ap (acts below own k) (sym (has_own xs ys k old before after))
                ∙ ap (λ (m : List ℕ). acts below own m (entry_at (xs ++ (entry_of k old ++ ys)) m)) (sym here))
            | inr other ↦
                has_other xs ys k l old new before after other
                ∙ sym (acts-other below own l (entry_at (xs ++ (entry_of k old ++ ys)) l)
                (each_weaker (IsOn k) (IsOther l) (λ m own. (own.point.point, ap (same_key l) own.key ∙ other)) own on))
          ];
      size = (let now : entries_size (xs ++ (entry_of k new ++ ys)) ≡ entries_size xs + (entries_size (entry_of k new) + entries_size ys) = size-parts xs (entry_of k new) ys in
          let was : entries_size (xs ++ (entry_of k old ++ ys)) ≡ entries_size xs + (entries_size (entry_of k old) + entries_size ys) = size-parts xs (entry_of k old) ys in
          let one : entries_size (entry_of k new) ≡ size_with k (value_after_all own old) = own_size k new ∙ ap (size_with k) is in
          let two : entries_size (entry_of k old) ≡ size_with k old = own_size k old in
          let more : size_with k (value_after_all own old) ≤ size_with k old + sum_by growth own = values-size own k old on in
          omega arith);
    }

-- ---- one step

upto_both : (xs : List Entry) (k : List ℕ) (o : Option (List ℕ)) → AllByRecursion (λ (e : Entry). IsBelow e.key k) xs → AllByRecursion (λ (e : Entry). IsAtLeast k e.key) (xs ++ entry_of k o)
upto_both [] k None h = tt
upto_both [] k (Some v) h = (not_below_itself k, tt)
upto_both (e ∷ xs) k o h = (least_over e.key k h.0, upto_both xs k o h.1)

own_long : (k : List ℕ) (o : Option (List ℕ)) → length (entry_of k o) ≡ count_of o
own_long k None = refl
own_long k (Some v) = refl

taken_within : (es : List Entry) (k : List ℕ) (o : Option (List ℕ)) → IsTaken es k o → count_of o ≤ length es
taken_within es k o h =
    let long : length es ≡ length (entry_of k o ++ drop (count_of o) es) = ap (λ (zs : List Entry). length zs) h.whole in
    let both : length (entry_of k o ++ drop (count_of o) es) ≡ length (entry_of k o) + length (drop (count_of o) es) = length-append (entry_of k o) (drop (count_of o) es) in
    let own : length (entry_of k o) ≡ count_of o = own_long k o in
    omega arith

-- the entries below the key are copied, and its value is changed
stepped : (new rest newer newest : List Entry) (k : List ℕ) (own : List Message) (n count : ℕ) (old value : Option (List ℕ)) → AreEntries (new ++ rest) → length k ≤ key_limit → AllByRecursion (IsOn k) own
    → AreMoved new rest k newer n → IsTaken (drop n rest) k old → value ≡ value_after_all own old → newest ≡ newer ++ entry_of k value → count ≡ n + count_of old → IsStep new rest k own newest count
stepped new rest newer newest k own n count old value h short on moved taken is newest_is count_is =
    let ys : List Entry = drop (count_of old) (drop n rest) in
    let ys_is : ys ≡ drop count rest = drop-drop (count_of old) n rest ∙ ap (λ (m : ℕ). drop m rest) (sym count_is) in
    let was : new ++ rest ≡ newer ++ (entry_of k old ++ ys) =
    ap (λ (zs : List Entry). new ++ zs) (sym (take-append-drop n rest))
    ∙ sym (append_assoc new (take n rest) (drop n rest))
    ∙ ap (λ (zs : List Entry). zs ++ drop n rest) (sym moved.moved)
    ∙ ap (λ (zs : List Entry). newer ++ zs) taken.whole in
    let now : newer ++ (entry_of k value ++ ys) ≡ newest ++ drop count rest =
    sym (append_assoc newer (entry_of k value) ys)
    ∙ ap (λ (zs : List Entry). zs ++ ys) (sym newest_is)
    ∙ ap (λ (zs : List Entry). newest ++ zs) ys_is in
    record {
      within = (let a : n ≤ length rest = moved.within in
          let b : count_of old ≤ length (drop n rest) = taken_within (drop n rest) k old taken in
          let c : length (drop n rest) ≡ length rest - n = length-drop n rest in
          omega arith);
      merged = subst (λ (zs : List Entry). IsMerged (new ++ rest) own zs) now
          (subst (λ (zs : List Entry). IsMerged zs own (newer ++ (entry_of k value ++ ys))) (sym was)
          (key_merged newer ys k own old value (subst AreEntries was h) short on moved.below taken.above is));
      upto = subst (λ (zs : List Entry). AllByRecursion (λ (e : Entry). IsAtLeast k e.key) zs) (sym newest_is) (upto_both newer k value moved.below);
    }

-- a part up to the end
pub to_end : {A : Type 0} (xs : List A) (n : ℕ) → take (length xs - n) (drop n xs) ≡ drop n xs
to_end xs n = take_all (length xs - n) (drop n xs) (let e : length (drop n xs) ≡ length xs - n = length-drop n xs in omega arith)

-- the same, of what the code reads
pub step_done : (new rest newer newest : List Entry) (k : List ℕ) (own : List Message) (n count more : ℕ) (old value : Option (List ℕ)) → AreEntries (new ++ rest) → length k ≤ key_limit → AllByRecursion (IsOn k) own
    → AreMoved new rest k newer n → IsTaken (take (length rest - n) (drop n rest)) k old → value ≡ value_after_all own old → newest ≡ newer ++ entry_of k value → more ≡ count_of old → count ≡ n + more → IsStep new rest k own newest count
step_done new rest newer newest k own n count more old value h short on moved taken is newest_is more_is count_is =
    stepped new rest newer newest k own n count old value h short on moved (subst (λ (zs : List Entry). IsTaken zs k old) (to_end rest n) taken) is newest_is (count_is ∙ ap (λ (m : ℕ). n + m) more_is)

pub points_on : (list : List Message) (k : List ℕ) → AllByRecursion (IsOn k) list → AllByRecursion IsPoint list
points_on list k h = each_weaker (IsOn k) IsPoint (λ m on. on.point) list h

-- ---- what is read of the entries

pub taken_own : (es : List Entry) (k : List ℕ) (e : Entry) → IsRising es → slice_get es 0 ≡ Some e → e.key ≡ k → IsTaken es k (Some e.value)
taken_own [] k e rising there same = absurd (none-some e there)
taken_own (f ∷ es) k e rising there same =
    let is : f ≡ e = same_Some f e there in
    record {
      whole = ap (λ (d : Entry). d ∷ es) (is ∙ ap (λ (l : List ℕ). record { key = l; value = e.value }) same);
      above = subst (λ (l : List ℕ). AllByRecursion (λ (d : Entry). IsBelow l d.key) es) (ap (λ (d : Entry). d.key) is ∙ same) rising.0;
    }

-- a key that isn't below another and isn't it is above it
above_other : (k l : List ℕ) → IsAtLeast l k → same_key l k ≡ false → IsBelow k l
above_other k l least other =
    elim (key_cmp l k) as (λ (o : Ordering). key_cmp l k ≡ o → IsBelow k l) [
      | Less ↦ λ less. absurd (least less)
      | Equal ↦ λ same. absurd (true_false (sym (ap (λ (m : List ℕ). same_key m k) (tied l k same) ∙ same_key-refl k) ∙ other))
      | Greater ↦ λ more. above l k more
    ] refl

below_each : (es : List Entry) (k : List ℕ) (e : Entry) → IsBelow k e.key → AllByRecursion (λ (f : Entry). IsBelow e.key f.key) es → AllByRecursion (λ (f : Entry). IsBelow k f.key) es
below_each es k e below h = each_weaker (λ (f : Entry). IsBelow e.key f.key) (λ (f : Entry). IsBelow k f.key) (λ f more. total.trans k e.key f.key below more) es h

pub taken_other : (es : List Entry) (k : List ℕ) (e : Entry) → IsRising es → AllByRecursion (λ (f : Entry). IsAtLeast f.key k) es → slice_get es 0 ≡ Some e → same_key e.key k ≡ false → IsTaken es k None
taken_other [] k e rising least there other = absurd (none-some e there)
taken_other (f ∷ es) k e rising least there other =
    let is : f ≡ e = same_Some f e there in
    let over : IsBelow k f.key = above_other k f.key least.0 (ap (λ (d : Entry). same_key d.key k) is ∙ other) in
    record { whole = refl; above = (over, below_each es k f over rising.0) }

-- from an entry on that isn't below a key none is
pub least_from : (es : List Entry) (place : ℕ) (k : List ℕ) → IsRising es → ((e : Entry) → slice_get es place ≡ Some e → IsAtLeast e.key k) → AllByRecursion (λ (f : Entry). IsAtLeast f.key k) (drop place es)
least_from [] zero k rising h = tt
least_from [] (suc place) k rising h = tt
least_from (e ∷ es) zero k rising h =
    (h e refl, each_weaker (λ (f : Entry). IsBelow e.key f.key) (λ (f : Entry). IsAtLeast f.key k) (λ f below less. h e refl (total.trans e.key f.key k below less)) es rising.0)
least_from (e ∷ es) (suc place) k rising h = least_from es place k rising.1 h

not_true : (b : Bool) → not b ≡ true → b ≡ false
not_true true h = absurd (false_true h)
not_true false h = refl

pub not_is_true : (a b : Bool) → a ≡ not b → a ≡ true → b ≡ false
not_is_true a b is h = not_true b (sym is ∙ h)

not_false : (b : Bool) → not b ≡ false → b ≡ true
not_false true h = refl
not_false false h = absurd (true_false h)

pub not_is_false : (a b : Bool) → a ≡ not b → a ≡ false → b ≡ true
not_is_false a b is h = not_false b (sym is ∙ h)

pub moved_done : (new rest newer : List Entry) (k : List ℕ) (place : ℕ) (e : Entry) → IsRising rest → newer ≡ new ++ take place rest → AllByRecursion (λ (f : Entry). IsBelow f.key k) newer → place < length rest → e ≡ get_or rest place e → is_lt (key_cmp e.key k) ≡ false
    → AreMoved new rest k newer place
moved_done new rest newer k place e rising items below low is over = record {
  within = omega arith;
  moved = items;
  below = below;
  least = least_from rest place k rising (λ f there.
      let here : slice_get rest place ≡ Some e = slice_get_read rest (length rest) place e refl low is in
      subst (λ (d : Entry). IsAtLeast d.key k) (same_Some e f (sym here ∙ there)) (lt_isnt (key_cmp e.key k) over));
}

rising_drop : (es : List Entry) (n : ℕ) → IsRising es → IsRising (drop n es)
rising_drop [] zero h = tt
rising_drop [] (suc n) h = tt
rising_drop (e ∷ es) zero h = h
rising_drop (e ∷ es) (suc n) h = rising_drop es n h.1

pub rising_to_end : (es : List Entry) (n : ℕ) → IsRising es → IsRising (take (length es - n) (drop n es))
rising_to_end es n h = subst IsRising (sym (to_end es n)) (rising_drop es n h)

pub rising_rest : (new rest : List Entry) → AreEntries (new ++ rest) → IsRising rest
rising_rest new rest h = rising-back new rest h.rising

-- ---- all keys

-- what was done so far, where these are left
pub record IsUnderway (old : List Entry) (points : List Message) (new rest : List Entry) (left : List Message) : Type 0 where
  pub whole : AreEntries (new ++ rest)
  pub acted : (below : NodesAt) (k : List ℕ) → acts below left k (entry_at (new ++ rest) k) ≡ acts below points k (entry_at old k)
  pub size : entries_size (new ++ rest) + sum_by growth left ≤ entries_size old + sum_by growth points
  pub each : AllByRecursion IsPoint left
  pub turn : AreInTurn left
  pub before : AllByRecursion (λ (m : Message). AllByRecursion (λ (e : Entry). IsBelow e.key (own_key m)) new) left

turn-back : (xs ys : List Message) → AreInTurn (xs ++ ys) → AreInTurn ys
turn-back [] ys h = h
turn-back (m ∷ xs) ys h = turn-back xs ys h.1

-- a key up to one below another is below that
upto_below : (a k b : List ℕ) → IsAtLeast k a → IsBelow k b → IsBelow a b
upto_below a k b upto below =
    elim (key_cmp a k) as (λ (o : Ordering). key_cmp a k ≡ o → IsBelow a b) [
      | Less ↦ λ less. total.trans a k b less below
      | Equal ↦ λ same. subst (λ (l : List ℕ). IsBelow l b) (sym (tied a k same)) below
      | Greater ↦ λ more. absurd (upto (above a k more))
    ] refl

-- the messages after those on a key are above it
others_above : (list : List Message) (k : List ℕ) → AreInTurn list → ((m : Message) → slice_get list 0 ≡ Some m → IsBelow k (own_key m)) → AllByRecursion (λ (m : Message). IsBelow k (own_key m)) list
others_above [] k turn first = tt
others_above (m ∷ list) k turn first =
    (first m refl, each_weaker (λ (n : Message). IsAtLeast (own_key n) (own_key m)) (λ (n : Message). IsBelow k (own_key n)) (λ n least. below_from k (own_key m) (own_key n) (first m refl) least) list turn.0)

-- and each of the first is at most each later one
turn_across : (xs ys : List Message) (k : List ℕ) → AreInTurn (xs ++ ys) → AllByRecursion (λ (m : Message). own_key m ≡ k) xs → 1 ≤ length xs → AllByRecursion (λ (m : Message). IsAtLeast (own_key m) k) ys
turn_across [] ys k turn own some = absurd (omega arith)
turn_across (x ∷ xs) ys k turn own some =
    each_weaker (λ (n : Message). IsAtLeast (own_key n) (own_key x)) (λ (n : Message). IsAtLeast (own_key n) k) (λ n least. subst (λ (l : List ℕ). IsAtLeast (own_key n) l) own.0 least) ys
    (each_second (λ (n : Message). IsAtLeast (own_key n) (own_key x)) xs ys turn.0)

-- ---- what is read of the points

read_message : (ps : List Point) (i : ℕ) (p : Point) → i < length ps → p ≡ get_or ps i p → slice_get (messages_of ps) i ≡ Some (message_of p)
read_message [] i p low is = absurd (omega arith)
read_message (q ∷ ps) zero p low is = ap (λ (r : Point). Some (message_of r)) (sym is)
read_message (q ∷ ps) (suc i) p low is = read_message ps i p (omega arith) is

each_message : (P : Message → Type 0) (list : List Message) (i : ℕ) (m : Message) → AllByRecursion P list → slice_get list i ≡ Some m → P m
each_message P [] i m h there = absurd (none-some m there)
each_message P (n ∷ list) zero m h there = subst P (same_Some n m there) h.0
each_message P (n ∷ list) (suc i) m h there = each_message P list i m h.1 there

pub point_at : (ps : List Point) (i : ℕ) (p : Point) → AllByRecursion IsPoint (messages_of ps) → i < length ps → p ≡ get_or ps i p → IsPoint (message_of p)
point_at ps i p h low is = each_message IsPoint (messages_of ps) i (message_of p) h (read_message ps i p low is)

take_suc_each : (P : Message → Type 0) (list : List Message) (i : ℕ) (m : Message) → AllByRecursion P (take i list) → slice_get list i ≡ Some m → P m → AllByRecursion P (take (suc i) list)
take_suc_each P [] i m h there own = absurd (none-some m there)
take_suc_each P (n ∷ list) zero m h there own = (subst P (sym (same_Some n m there)) own, tt)
take_suc_each P (n ∷ list) (suc i) m h there own = (h.0, take_suc_each P list i m h.1 there own)

take_more_each : (P : Message → Type 0) (list : List Message) (i : ℕ) (m : Message) → AllByRecursion P (take i list) → slice_get list i ≡ Some m → P m → AllByRecursion P (take (i + 1) list)
take_more_each P list i m h there own = subst (λ (n : ℕ). AllByRecursion P (take n list)) (sym (add-one i)) (take_suc_each P list i m h there own)

take_each : (P : Message → Type 0) (list : List Message) (i : ℕ) → AllByRecursion P list → AllByRecursion P (take i list)
take_each P [] zero h = tt
take_each P [] (suc i) h = tt
take_each P (m ∷ list) zero h = tt
take_each P (m ∷ list) (suc i) h = (h.0, take_each P list i h.1)

pub own_more : (ps : List Point) (k own : List ℕ) (place : ℕ) (p : Point) → AllByRecursion (λ (m : Message). own_key m ≡ k) (take place (messages_of ps)) → place < length ps → p ≡ get_or ps place p → own ≡ own_key (message_of p) → same_key own k ≡ true
    → AllByRecursion (λ (m : Message). own_key m ≡ k) (take (place + 1) (messages_of ps))
own_more ps k own place p h low is own_is same =
    take_more_each (λ (m : Message). own_key m ≡ k) (messages_of ps) place (message_of p) h (read_message ps place p low is) (sym own_is ∙ same_text own k (sym same))

pub own_ended : (ps : List Point) (k own : List ℕ) (place : ℕ) (p : Point) → 1 ≤ place → AllByRecursion (λ (m : Message). own_key m ≡ k) (take place (messages_of ps)) → place < length ps → p ≡ get_or ps place p → own ≡ own_key (message_of p) → same_key own k ≡ false
    → AreOwn (messages_of ps) k place
own_ended ps k own place p some h low is own_is other = record {
  some = some;
  within = (let l : length (messages_of ps) ≡ length ps = length-map ps message_of in omega arith);
  own = h;
  next = λ m there same.
      true_false (sym (ap (λ (l : List ℕ). same_key l k) (own_is ∙ ap own_key (same_Some (message_of p) m (sym (read_message ps place p low is) ∙ there)) ∙ same) ∙ same_key-refl k) ∙ other);
}

past_end : (list : List Message) (i : ℕ) (m : Message) → length list ≤ i → slice_get list i ≡ Some m → ⊥
past_end [] i m high there = none-some m there
past_end (n ∷ list) zero m high there = omega arith
past_end (n ∷ list) (suc i) m high there = past_end list i m (omega arith) there

pub own_all : (ps : List Point) (k : List ℕ) (place : ℕ) → 1 ≤ length ps → length ps ≤ place → AllByRecursion (λ (m : Message). own_key m ≡ k) (take place (messages_of ps)) → AreOwn (messages_of ps) k (length ps)
own_all ps k place some high h =
    let l : length (messages_of ps) ≡ length ps = length-map ps message_of in
    record {
      some = some;
      within = omega arith;
      own = subst (λ (ms : List Message). AllByRecursion (λ (m : Message). own_key m ≡ k) ms) (take_all place (messages_of ps) (omega arith) ∙ sym (take_all (length ps) (messages_of ps) (omega arith))) h;
      next = λ m there same. past_end (messages_of ps) (length ps) m (omega arith) there;
    }

messages-take : (ps : List Point) (i : ℕ) → messages_of (take i ps) ≡ take i (messages_of ps)
messages-take [] zero = refl
messages-take [] (suc i) = refl
messages-take (p ∷ ps) zero = refl
messages-take (p ∷ ps) (suc i) = ap (λ (ms : List Message). message_of p ∷ ms) (messages-take ps i)

messages-drop : (ps : List Point) (i : ℕ) → messages_of (drop i ps) ≡ drop i (messages_of ps)
messages-drop [] zero = refl
messages-drop [] (suc i) = refl
messages-drop (p ∷ ps) zero = refl
messages-drop (p ∷ ps) (suc i) = messages-drop ps i

-- ---- the loop over the keys

both_on : (list : List Message) (k : List ℕ) → AllByRecursion IsPoint list → AllByRecursion (λ (m : Message). own_key m ≡ k) list → AllByRecursion (IsOn k) list
both_on [] k each own = tt
both_on (m ∷ list) k each own = (record { point = each.0; key = own.0 }, both_on list k each.1 own.1)

drop_first : (xs : List Message) (n : ℕ) (m : Message) → slice_get (drop n xs) 0 ≡ Some m → slice_get xs n ≡ Some m
drop_first [] zero m there = there
drop_first [] (suc n) m there = there
drop_first (x ∷ xs) zero m there = there
drop_first (x ∷ xs) (suc n) m there = drop_first xs n m there

-- each new entry is below each message that is left
all_before : (new : List Entry) (k : List ℕ) (left : List Message) → AllByRecursion (λ (e : Entry). IsAtLeast k e.key) new → AllByRecursion (λ (m : Message). IsBelow k (own_key m)) left
    → AllByRecursion (λ (m : Message). AllByRecursion (λ (e : Entry). IsBelow e.key (own_key m)) new) left
all_before new k [] upto over = tt
all_before new k (m ∷ left) upto over =
    (each_weaker (λ (e : Entry). IsAtLeast k e.key) (λ (e : Entry). IsBelow e.key (own_key m)) (λ e most. upto_below e.key k (own_key m) most over.0) new upto, all_before new k left upto over.1)

-- one key more
went_on : (es new rest newer : List Entry) (points left : List Message) (k : List ℕ) (n count : ℕ) → IsUnderway es points new rest left → AreOwn left k n → IsStep new rest k (take n left) newer count → IsUnderway es points newer (drop count rest) (drop n left)
went_on es new rest newer points left k n count h own step =
    let front : List Message = take n left in
    let back : List Message = drop n left in
    let whole : front ++ back ≡ left = take-append-drop n left in
    let turn : AreInTurn (front ++ back) = subst AreInTurn (sym whole) h.turn in
    let few : n ≤ length left = own.within in
    let some : 1 ≤ n = own.some in
    let long : length front ≡ n = length-take-le n left few in
    let least : AllByRecursion (λ (m : Message). IsAtLeast (own_key m) k) back = turn_across front back k turn own.own (omega arith) in
    let over : AllByRecursion (λ (m : Message). IsBelow k (own_key m)) back =
    others_above back k (turn-back front back turn)
    (λ m there. above_other k (own_key m) (each_message (λ (m : Message). IsAtLeast (own_key m) k) back 0 m least there)
    (elim (cases_Bool (same_key (own_key m) k)) [
      | inl same ↦ absurd (own.next m (drop_first left n m there) (same_text (own_key m) k (sym same)))
      | inr other ↦ other
    ])) in
    record {
      whole = step.merged.entries;
      acted = λ below l.
          ap (acts below back l) (step.merged.acted below l)
          ∙ sym (acts-append below front back l (entry_at (new ++ rest) l))
          ∙ ap (λ (ms : List Message). acts below ms l (entry_at (new ++ rest) l)) whole
          ∙ h.acted below l;
      size = (let sum : sum_by growth (front ++ back) ≡ sum_by growth front + sum_by growth back = sum_by-append growth front back in
          let same : sum_by growth (front ++ back) ≡ sum_by growth left = ap (sum_by growth) whole in
          let was : entries_size (new ++ rest) + sum_by growth left ≤ entries_size es + sum_by growth points = h.size in
          let grown : entries_size (newer ++ drop count rest) ≤ entries_size (new ++ rest) + sum_by growth front = step.merged.size in
          omega arith);
      each = each_second IsPoint front back (subst (λ (ms : List Message). AllByRecursion IsPoint ms) (sym whole) h.each);
      turn = turn-back front back turn;
      before = all_before newer k back step.upto over;
    }

pub before_at : (new : List Entry) (ps : List Point) (at : ℕ) (p : Point) (k : List ℕ) → AllByRecursion (λ (m : Message). AllByRecursion (λ (e : Entry). IsBelow e.key (own_key m)) new) (messages_of (drop at ps)) → at < length ps → p ≡ get_or ps at p → k ≡ own_key (message_of p)
    → AllByRecursion (λ (e : Entry). IsBelow e.key k) new
before_at new ps at p k h low is k_is =
    let front : drop at ps ≡ p ∷ drop (at + 1) ps = drop_more ps at p low ∙ ap (λ (q : Point). q ∷ drop (at + 1) ps) (sym is) in
    let all : AllByRecursion (λ (m : Message). AllByRecursion (λ (e : Entry). IsBelow e.key (own_key m)) new) (messages_of (p ∷ drop (at + 1) ps)) = subst (λ (qs : List Point). AllByRecursion (λ (m : Message). AllByRecursion (λ (e : Entry). IsBelow e.key (own_key m)) new) (messages_of qs)) front h in
    subst (λ (l : List ℕ). AllByRecursion (λ (e : Entry). IsBelow e.key l) new) (sym k_is) all.0

-- the messages of a part
part_is : (ps : List Point) (at n : ℕ) → messages_of (take (at + n - at) (drop at ps)) ≡ take n (messages_of (drop at ps))
part_is ps at n = messages-take (drop at ps) (at + n - at) ∙ ap (λ (m : ℕ). take m (messages_of (drop at ps))) (let e : at + n - at ≡ n = omega arith in e)

own_part : (ps : List Point) (at n : ℕ) (k : List ℕ) → AreOwn (messages_of (take (length ps - at) (drop at ps))) k n → AreOwn (messages_of (drop at ps)) k n
own_part ps at n k h = subst (λ (qs : List Point). AreOwn (messages_of qs) k n) (to_end ps at) h

pub on_part : (ps : List Point) (at n : ℕ) (k : List ℕ) → AllByRecursion IsPoint (messages_of (drop at ps)) → AreOwn (messages_of (take (length ps - at) (drop at ps))) k n → AllByRecursion (IsOn k) (messages_of (take (at + n - at) (drop at ps)))
on_part ps at n k each own =
    let here : AreOwn (messages_of (drop at ps)) k n = own_part ps at n k own in
    subst (λ (ms : List Message). AllByRecursion (IsOn k) ms) (sym (part_is ps at n)) (both_on (take n (messages_of (drop at ps))) k (take_each IsPoint (messages_of (drop at ps)) n each) here.own)

pub low_more : (es new newer : List Entry) (low count : ℕ) (k : List ℕ) (own : List Message) → low ≤ length es → IsStep new (take (length es - low) (drop low es)) k own newer count → low + count ≤ length es
low_more es new newer low count k own within step =
    let few : count ≤ length (take (length es - low) (drop low es)) = step.within in
    let same : length (take (length es - low) (drop low es)) ≡ length (drop low es) = ap (λ (zs : List Entry). length zs) (to_end es low) in
    let long : length (drop low es) ≡ length es - low = length-drop low es in
    omega arith

pub at_more : (ps : List Point) (at n : ℕ) (k : List ℕ) → at ≤ length ps → AreOwn (messages_of (take (length ps - at) (drop at ps))) k n → at + n ≤ length ps
at_more ps at n k short own =
    let here : AreOwn (messages_of (drop at ps)) k n = own_part ps at n k own in
    let few : n ≤ length (messages_of (drop at ps)) = here.within in
    let same : length (messages_of (drop at ps)) ≡ length (drop at ps) = length-map (drop at ps) message_of in
    let long : length (drop at ps) ≡ length ps - at = length-drop at ps in
    omega arith

pub underway_more : (es new newer : List Entry) (ps : List Point) (low count at n : ℕ) (k : List ℕ) → IsUnderway es (messages_of ps) new (drop low es) (messages_of (drop at ps)) → AreOwn (messages_of (take (length ps - at) (drop at ps))) k n
    → IsStep new (take (length es - low) (drop low es)) k (messages_of (take (at + n - at) (drop at ps))) newer count → IsUnderway es (messages_of ps) newer (drop (low + count) es) (messages_of (drop (at + n) ps))
underway_more es new newer ps low count at n k h own step =
    let left : List Message = messages_of (drop at ps) in
    let here : IsStep new (drop low es) k (take n left) newer count =
    subst (λ (ms : List Message). IsStep new (drop low es) k ms newer count) (part_is ps at n)
    (subst (λ (zs : List Entry). IsStep new zs k (messages_of (take (at + n - at) (drop at ps))) newer count) (to_end es low) step) in
    subst (λ (zs : List Entry). IsUnderway es (messages_of ps) newer zs (messages_of (drop (at + n) ps))) (drop-drop count low es)
    (subst (λ (ms : List Message). IsUnderway es (messages_of ps) newer (drop count (drop low es)) ms) (sym (messages-drop (drop at ps) n) ∙ ap messages_of (drop-drop n at ps))
    (went_on es new (drop low es) newer (messages_of ps) left k n count h (own_part ps at n k own) here))
