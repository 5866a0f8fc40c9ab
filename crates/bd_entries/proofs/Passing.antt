-- A pass over keys in a row: how far it has come, one key more, and its end.
use Rattle.std.proofs.Common.{◌≡◌, ℕ, suc, ◌+◌, ◌-◌, ◌<◌, ◌≤◌, Bool, List, [], ◌∷◌, ◌++◌, length, drop, get_or, Option, None, Some, Result, Ok, Err, refl, sym, ap, subst, ◌∙◌, arith, length-append}
use Rattle.std.specs.Prelude.{IsSome, IfOk, MatchOption}
use Rattle.std.specs.Option.{option_map}
use Rattle.std.specs.FinMap.{get}
use Rattle.std.specs.Borrow.{Bor}
use Rattle.std.specs.Slice.{IsGetResult}
use Rattle.std.proofs.lemmas.List.{drop_more, nil_from_length}
use Rattle.bd_keys.specs.Keys.{IsAtLeast}
use Rattle.bd_keys.proofs.Order.{not_below_nil}
use Rattle.bd_message.specs.KeyMaps.{At, SameAt, IsNextEntry}
use Rattle.bd_represent.specs.EntryKeys.{record_key}
use Rattle.bd_represent.specs.Represents.{record_value}
use Rattle.bd_scan.specs.declared.scan.Found.{Found}
use Rattle.bd_scan.specs.Scans.{AreNext, IsScan}
use Rattle.bd_entries.specs.declared.mark.Mark.{Mark}
use Rattle.bd_entries.specs.declared.pass.Pass.{Pass}
use Rattle.bd_entries.specs.Fronts.{IsTreeOf, HasTree, HasNoTree, before, key_past, HasBelow, EndsAt}
use Rattle.bd_entries.specs.Marks.{IsSeen}
use Rattle.bd_entries.specs.Verdicts.{IsWhole, IsBroken, IsOver}
use Rattle.bd_entries.specs.Passes.{IsMarkedTo, IsPassed}
use Rattle.bd_entries.proofs.Below.{before_before, before_end, further, next_front, not_end}
use Rattle.bd_entries.proofs.Growing.{directory_some, some_is}

-- ---- keys in a row

-- maps that have the same at each key are one
pub same_map : (old new : At) → SameAt old new → new ≡ old
same_map old new same = λ i k. same k i

key_past-push : (from : List ℕ) (fs : List Found) (f : Found) → key_past from (fs ++ f ∷ []) ≡ f.key ++ 0 ∷ []
key_past-push from [] f = refl
key_past-push from (g ∷ fs) f = key_past-push (g.key ++ 0 ∷ []) fs f

next_push : (at : At) (from : List ℕ) (fs : List Found) (f : Found) → AreNext at from [] fs → IsNextEntry at (key_past from fs) [] (Some (f.key, f.value)) → AreNext at from [] (fs ++ f ∷ [])
next_push at from [] f each next = (next, tt)
next_push at from (g ∷ fs) f each next = (each.0, next_push at (g.key ++ 0 ∷ []) fs f each.1 next)

-- the next key after the last of those found
pub key_past_last : (from : List ℕ) (fs : List Found) (f : Found) → 0 < length fs → f ≡ get_or fs (length fs - 1) f → key_past from fs ≡ f.key ++ 0 ∷ []
key_past_last from [] f some is = absurd (omega arith)
key_past_last from (g ∷ []) f some is = ap (λ (x : Found). x.key ++ 0 ∷ []) (sym is)
key_past_last from (g ∷ h ∷ fs) f some is =
    let place : length (g ∷ h ∷ fs) - 1 ≡ suc (length (h ∷ fs) - 1) = omega arith in
    key_past_last (g.key ++ 0 ∷ []) (h ∷ fs) f (omega arith) (is ∙ ap (λ (n : ℕ). get_or (g ∷ h ∷ fs) n f) place)

-- no key is below the least one
pub none_below : (at : At) → HasBelow at 0 []
none_below at = record { found = []; each = tt; count = refl; past = refl }

pub below_more : (at : At) (keys : ℕ) (low key value : List ℕ) → HasBelow at keys low → IsNextEntry at low [] (Some (key, value)) → HasBelow at (keys + 1) (key ++ 0 ∷ [])
below_more at keys low key value b next = record {
  found = b.found ++ f ∷ [];
  each = next_push at [] b.found f b.each (subst (λ (k : List ℕ). IsNextEntry at k [] (Some (key, value))) b.past next);
  count = omega (arith, length-append b.found (f ∷ []), b.count);
  past = sym (key_past-push [] b.found f);
}
  where
    f : Found
    f = record { key = key; value = value }

no_found : (fs : List Found) → length fs ≡ 0 → fs ≡ []
no_found [] h = refl
no_found (f ∷ fs) h = absurd (omega arith)

-- below no keys the least one comes first
pub least_first : (at : At) (keys : ℕ) (low : List ℕ) → HasBelow at keys low → keys ≡ 0 → low ≡ []
least_first at keys low b none = b.past ∙ ap (key_past []) (no_found b.found (b.count ∙ none))

-- ---- fronts

-- a map without keys is no tree's
pub empty_no_tree : (has_modes : Bool) (at : At) → EndsAt at [] → HasNoTree has_modes at
empty_no_tree has_modes at ends t of =
    let e = some_is (get t []) (directory_some (get t []) of.tree.root) in
    let is : at (record_key []) ≡ Some (record_value e.0) = of.represents.records [] refl ∙ ap (option_map record_value) e.1 in
    ends (record_key []) (subst IsSome (sym is) refl, not_below_nil (record_key []), refl)

-- what was seen of a map was seen of its front
pub seen_front : (has_modes : Bool) (at : At) (low high : List ℕ) (mark : Mark) → IsAtLeast high low → IsSeen has_modes at low mark → IsSeen has_modes (before at high) low mark
seen_front has_modes at low high mark above seen = record {
  tree = seen.tree;
  is = subst (λ (a : At). IsTreeOf has_modes a seen.tree) (sym (before_before at low high above)) seen.is;
  marked = seen.marked;
}

-- a map of which all was seen is a tree's
pub whole_seen : (has_modes : Bool) (at : At) (low : List ℕ) (mark : Mark) → EndsAt at low → IsSeen has_modes at low mark → HasTree has_modes at
whole_seen has_modes at low mark ends seen = (seen.tree, subst (λ (a : At). IsTreeOf has_modes a seen.tree) (before_end at low ends) seen.is)

-- ---- verdicts

pub broken_more : (has_modes : Bool) (at : At) (few most : ℕ) → few ≤ most → IsBroken has_modes at few → IsBroken has_modes at most
broken_more has_modes at few most le b = record { none = b.none; keys = b.keys; few = omega (arith, le, b.few); low = b.low; below = b.below; front = b.front; ends = b.ends }

pub broken_here : (has_modes : Bool) (at : At) (keys : ℕ) (low key value : List ℕ) → HasBelow at keys low → IsNextEntry at low [] (Some (key, value)) → HasNoTree has_modes at × HasNoTree has_modes (before at (key ++ 0 ∷ []))
    → IsBroken has_modes at (keys + 1)
broken_here has_modes at keys low key value b next none = record {
  none = none.0;
  keys = keys + 1;
  few = omega arith;
  low = key ++ 0 ∷ [];
  below = below_more at keys low key value b next;
  front = none.1;
  ends = λ no. absurd (omega (arith, no));
}

-- where no key is left, a pass that has seen a record has seen a tree
pub ended_whole : (has_modes : Bool) (at : At) (low : List ℕ) (most keys : ℕ) (mark : Mark) → HasBelow at keys low → IsSeen has_modes at low mark → keys ≤ most → EndsAt at low → IsWhole has_modes at most keys
ended_whole has_modes at low most keys mark b seen few ends = record { tree = whole_seen has_modes at low mark ends seen; few = few; low = low; below = b; ends = ends }

-- and else the map is empty
pub ended_broken : (has_modes : Bool) (at : At) (low : List ℕ) (most keys : ℕ) → HasBelow at keys low → keys ≡ 0 → EndsAt at low → IsBroken has_modes at most
ended_broken has_modes at low most keys b none ends =
    let empty : EndsAt at [] = subst (EndsAt at) (least_first at keys low b none) ends in
    record {
      none = empty_no_tree has_modes at empty;
      keys = 0;
      few = omega arith;
      low = [];
      below = none_below at;
      front = subst (HasNoTree has_modes) (sym (before_end at [] empty)) (empty_no_tree has_modes at empty);
      ends = λ _. empty;
    }

-- where another key is left after as many as are looked at, there are more
pub over_here : (has_modes : Bool) (at : At) (low key value : List ℕ) (most : ℕ) (pass : Pass) → 1 ≤ most → pass.keys ≡ most → IsPassed has_modes at low pass → IsNextEntry at low [] (Some (key, value)) → IsOver has_modes at most
over_here has_modes at low key value most pass some full passed next = record {
  low = low;
  below = subst (λ (n : ℕ). HasBelow at n low) full passed.below;
  front = by pass.mark passed.seen;
  more = not_end at low key value next;
}
  where
    by : (mark : Option Mark) → IsMarkedTo has_modes at low pass.keys mark → HasTree has_modes (before at low)
    by None none = absurd (omega (arith, some, full, none))
    by (Some mark) seen = (seen.tree, seen.is)

-- ---- a run of a scan

-- a pass in the middle of what was found: what is left comes next from a key on, up to the last one
pub record IsRunning (has_modes : Bool) (at : At) (end : List ℕ) (left : List Found) (pass : Pass) : Type 0 where
  pub low : List ℕ
  pub passed : IsPassed has_modes at low pass
  pub next : AreNext at low [] left
  pub ends : key_past low left ≡ end

pub run_begins : (has_modes : Bool) (at : At) (low : List ℕ) (found : List Found) (pass : Pass) → IsPassed has_modes at low pass → AreNext at low [] found → IsRunning has_modes at (key_past low found) found pass
run_begins has_modes at low found pass passed next = record { low = low; passed = passed; next = next; ends = refl }

-- before an entry
pub run_here : (has_modes : Bool) (at : At) (end : List ℕ) (found : List Found) (i : ℕ) (f : Found) (pass : Pass) → i < length found → f ≡ get_or found i f → IsRunning has_modes at end (drop i found) pass
    → IsRunning has_modes at end (f ∷ drop (i + 1) found) pass
run_here has_modes at end found i f pass lt is = subst (λ (left : List Found). IsRunning has_modes at end left pass) (drop_more found i f lt ∙ ap (λ (x : Found). x ∷ drop (i + 1) found) (sym is))

pub run_on : (has_modes : Bool) (at : At) (end : List ℕ) (f : Found) (left : List Found) (old new : Pass) → (r : IsRunning has_modes at end (f ∷ left) old) → IsPassed has_modes at (f.key ++ 0 ∷ []) new → IsRunning has_modes at end left new
run_on has_modes at end f left old new r passed = record { low = f.key ++ 0 ∷ []; passed = passed; next = r.next.1; ends = r.ends }

pub run_ends : (has_modes : Bool) (at : At) (end : List ℕ) (left : List Found) (pass : Pass) → length left ≡ 0 → IsRunning has_modes at end left pass → IsPassed has_modes at end pass
run_ends has_modes at end [] pass none r = subst (λ (k : List ℕ). IsPassed has_modes at k pass) r.ends r.passed
run_ends has_modes at end (f ∷ left) pass none r = absurd (omega arith)

-- what was asked of a map that has the same
pub scan_of : (old new : At) (from low : List ℕ) (found : List Found) → SameAt old new → from ≡ low → IsScan new from [] found → IsScan old low [] found
scan_of old new from low found same is scan = subst (λ (k : List ℕ). IsScan old k [] found) is (subst (λ (a : At). IsScan a from [] found) (same_map old new same) scan)

-- ---- one entry more

-- what comes of the mark after a key: none where neither the map nor its front up to the key is a tree's
abbrev pub IsAfter : Bool → At → List ℕ → Option Mark → Type 0
IsAfter has_modes at key next =
    MatchOption next (HasNoTree has_modes at × HasNoTree has_modes (before at (key ++ 0 ∷ []))) (IsSeen has_modes at (key ++ 0 ∷ []))

both_after : (has_modes : Bool) (at : At) (key : List ℕ) (r : Option Mark) → MatchOption r (HasNoTree has_modes at) (IsSeen has_modes at (key ++ 0 ∷ []))
    → MatchOption r (HasNoTree has_modes (before at (key ++ 0 ∷ []))) (IsSeen has_modes (before at (key ++ 0 ∷ [])) (key ++ 0 ∷ [])) → IsAfter has_modes at key r
both_after has_modes at key None whole front = (whole, front)
both_after has_modes at key (Some mark) whole front = whole

pub first_after : (has_modes : Bool) (at : At) (low : List ℕ) (keys : ℕ) (key value : List ℕ) (mark r : Option Mark) → mark ≡ None
    → ((a : At) → IsNextEntry a [] [] (Some (key, value)) → MatchOption r (HasNoTree has_modes a) (IsSeen has_modes a (key ++ 0 ∷ [])))
    → HasBelow at keys low → IsMarkedTo has_modes at low keys mark → IsNextEntry at low [] (Some (key, value)) → IsAfter has_modes at key r
first_after has_modes at low keys key value mark r none clause b seen next =
    let no_keys : keys ≡ 0 = subst (λ (m : Option Mark). IsMarkedTo has_modes at low keys m) none seen in
    let first : IsNextEntry at [] [] (Some (key, value)) = subst (λ (k : List ℕ). IsNextEntry at k [] (Some (key, value))) (least_first at keys low b no_keys) next in
    both_after has_modes at key r (clause at first) (clause (before at (key ++ 0 ∷ [])) (next_front at [] key value first))

pub next_after : {E : Type 0} (has_modes : Bool) (at : At) (low : List ℕ) (keys : ℕ) (key value : List ℕ) (mark : Option Mark) (m : Mark) (r : Result (Option Mark) E) → mark ≡ Some m
    → ((a : At) (l : List ℕ) → IsSeen has_modes a l m → IsNextEntry a l [] (Some (key, value)) → IfOk r (λ next. MatchOption next (HasNoTree has_modes a) (IsSeen has_modes a (key ++ 0 ∷ []))))
    → IsMarkedTo has_modes at low keys mark → IsNextEntry at low [] (Some (key, value)) → IfOk r (IsAfter has_modes at key)
next_after has_modes at low keys key value mark m (Err e) is clause seen next = tt
next_after has_modes at low keys key value mark m (Ok r) is clause seen next =
    let here : IsSeen has_modes at low m = subst (λ (o : Option Mark). IsMarkedTo has_modes at low keys o) is seen in
    both_after has_modes at key r (clause at low here next)
    (clause (before at (key ++ 0 ∷ [])) low (seen_front has_modes at low (key ++ 0 ∷ []) m (further at low key value next) here) (next_front at low key value next))

-- the same, where the key and the value are told otherwise
pub after_found : (has_modes : Bool) (at : At) (low : List ℕ) (pass : Pass) (f : Found) (key value : List ℕ) (r : Option Mark) → key ≡ f.key → value ≡ f.value
    → ((a : At) (l : List ℕ) (keys : ℕ) → HasBelow a keys l → IsMarkedTo has_modes a l keys pass.mark → IsNextEntry a l [] (Some (key, value)) → IsAfter has_modes a key r)
    → IsPassed has_modes at low pass → IsNextEntry at low [] (Some (f.key, f.value)) → IsAfter has_modes at f.key r
after_found has_modes at low pass f key value r key_is value_is clause passed next =
    subst (λ (k : List ℕ). IsAfter has_modes at k r) key_is
    (clause at low pass.keys passed.below passed.seen
    (subst (λ (k : List ℕ). IsNextEntry at low [] (Some (k, value))) (sym key_is) (subst (λ (v : List ℕ). IsNextEntry at low [] (Some (f.key, v))) (sym value_is) next)))

pub passed_more : (has_modes : Bool) (at : At) (low : List ℕ) (old new : Pass) (f : Found) (mark : Mark) → IsPassed has_modes at low old → IsNextEntry at low [] (Some (f.key, f.value)) → IsSeen has_modes at (f.key ++ 0 ∷ []) mark
    → new.mark ≡ Some mark → new.keys ≡ old.keys + 1 → IsPassed has_modes at (f.key ++ 0 ∷ []) new
passed_more has_modes at low old new f mark passed next seen mark_is keys_is = record {
  below = subst (λ (n : ℕ). HasBelow at n (f.key ++ 0 ∷ [])) (sym keys_is) (below_more at old.keys low f.key f.value passed.below next);
  seen = subst (λ (o : Option Mark). IsMarkedTo has_modes at (f.key ++ 0 ∷ []) new.keys o) (sym mark_is) seen;
}

-- ---- the last one found

pub none_last : (xs : List Found) (r : Option (Bor Found)) → IsGetResult xs 0 (length xs - 1) r → r ≡ None → xs ≡ []
none_last xs None h e = nil_from_length xs (let short : length xs ≤ 0 = h.3 in omega arith)
none_last xs (Some x) h e = absurd (let no : Some x ≡ None = e in cc)

pub last_is : (xs : List Found) (r : Option (Bor Found)) (x : Bor Found) → IsGetResult xs 0 (length xs - 1) r → r ≡ Some x → (0 < length xs) × (x.now ≡ get_or xs (length xs - 1) x.now)
last_is xs None x h e = absurd (let no : None ≡ Some x = e in cc)
last_is xs (Some y) x h e = let same : y ≡ x = cc in subst (λ (z : Bor Found). (0 < length xs) × (z.now ≡ get_or xs (length xs - 1) z.now)) same (h.3.0, h.1)
