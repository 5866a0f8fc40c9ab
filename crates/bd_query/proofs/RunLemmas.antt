-- Runs of entries: what is found of them above an edge.
use Rattle.std.proofs.Common.{◌≡◌, ℕ, ◌≤◌, ◌&&◌, Bool, true, false, List, [], ◌∷◌, ◌++◌, length, take, drop, refl, sym, ap, subst, ◌∙◌, Option, None, Some, arith, inl, inr, append_assoc, append-nil, take-append-drop}
use Rattle.std.specs.List.{AllByRecursion}
use Rattle.std.proofs.lemmas.Bool.{cases_Bool, cond-true, cond-false, cond_both, and_parts, and_from, and_left, and_right, true≢false, false_from_ne_true}
use Rattle.bd_keys.specs.Keys.{key_cmp, IsKey, IsBelow, IsBelowEnd, IsAtLeast, InRange, Begins}
use Rattle.bd_keys.proofs.Order.{below_from, IsKey-drop, key_cmp-front}
use Rattle.bd_message.specs.Effect.{begins}
use Rattle.bd_message.specs.KeyMaps.{At}
use Rattle.bd_message.proofs.Finds.{begins-is, begins-append, not_both}
use Rattle.bd_node.specs.declared.node.Entry.{Entry}
use Rattle.bd_node.proofs.Edges.{lt_is, lt_isnt}
use Rattle.bd_node.proofs.Lookup.{each_both}
use Rattle.bd_node.proofs.Touched.{below_longer, least_back}
use Rattle.bd_query.specs.declared.turns.Turn.{Turn}
use Rattle.bd_query.specs.declared.turns.Turn.TheVariants.{Run, Passed}
use Rattle.bd_query.specs.Stretches.{IsEmpty, IsFirst, IsRun, IsSomeRun, IsAsked, IsTurn}
use Rattle.bd_query.specs.Runs.{is_before, raised_key, raised_entry, raised_run}
use Rattle.bd_query.proofs.EndLemmas.{least_trans, below_or_same, begins_split, drop_joined, length-take, above_prefix, least_inside, below_within}
use Rattle.bd_query.proofs.StretchLemmas.{begins_true, true_begins}
use Rattle.bd_query.proofs.TurnLemmas.{IsKey-append}

-- ---- ends

-- what the test of an end says
before_end : (k : List ℕ) (end : Option (List ℕ)) → is_before k end ≡ true → IsBelowEnd k end
before_end k None before = tt
before_end k (Some e) before = lt_is (key_cmp k e) before

below_past : (k l : List ℕ) (end : Option (List ℕ)) → is_before k end ≡ false → IsBelowEnd l end → IsBelow l k
below_past k l None past below = absurd (true≢false past)
below_past k l (Some e) past below = below_from l e k below (lt_isnt (key_cmp k e) past)

-- ---- keys above an edge

-- each key from one up to an end begins with the bytes that an edge leaves out, and has what the
-- child has where the edge's source stands in their place
record IsMoved (at child : At) (shared source rest : List ℕ) (end : Option (List ℕ)) : Type 0 where
  pub begins : (k : List ℕ) → IsKey k → InRange (shared ++ rest) end k → Begins k shared
  pub same : (t : List ℕ) → IsKey (shared ++ t) → InRange (shared ++ rest) end (shared ++ t) → at (shared ++ t) ≡ child (source ++ t)

asked_moved : (at child : At) (lo source : List ℕ) (end : Option (List ℕ)) (lift : ℕ) → lift ≤ length lo → IsAsked at child lo end lift source → IsMoved at child (take lift lo) source (drop lift lo) end
asked_moved at child lo source end lift long asked =
    let whole : take lift lo ++ drop lift lo ≡ lo = take-append-drop lift lo in
    record {
      begins = λ k is_k within. (asked k is_k (subst (λ (l : List ℕ). InRange l end k) whole within)).0;
      same = λ t is_k within.
          (asked (take lift lo ++ t) is_k (subst (λ (l : List ℕ). InRange l end (take lift lo ++ t)) whole within)).1
          ∙ ap (λ (l : List ℕ). child (source ++ l)) (subst (λ (n : ℕ). drop n (take lift lo ++ t) ≡ t) (length-take lift lo long) (drop_joined (take lift lo) t));
    }

-- so does each key after a later one
moved_after : (at child : At) (shared source rest later : List ℕ) (end : Option (List ℕ)) → IsAtLeast (shared ++ later) (shared ++ rest) → IsMoved at child shared source rest end → IsMoved at child shared source (later ++ 0 ∷ []) end
moved_after at child shared source rest later end on moved =
    let next = later ++ 0 ∷ [] in
    let over : IsAtLeast (shared ++ next) (shared ++ rest) = least_trans (shared ++ next) (shared ++ later) (shared ++ rest)
    (subst (λ (k : List ℕ). IsAtLeast k (shared ++ later)) (append_assoc shared later (0 ∷ [])) (least_back (shared ++ later) ((shared ++ later) ++ 0 ∷ []) (below_longer (shared ++ later) 0 []))) on in
    record {
      begins = λ k is_k within. moved.begins k is_k (least_trans k (shared ++ next) (shared ++ rest) within.0 over, within.1);
      same = λ t is_k within. moved.same t is_k (least_trans (shared ++ t) (shared ++ next) (shared ++ rest) within.0 over, within.1);
    }

-- no key up to an end has a value where the child's first key with one is above what they stand for
moved_empty : (at child : At) (shared source rest first value : List ℕ) (end upto : Option (List ℕ)) → IsMoved at child shared source rest end → IsKey source → IsFirst child (source ++ rest) first value
    → ((k : List ℕ) → IsBelowEnd k upto → IsBelowEnd k end) → ((t : List ℕ) → IsBelowEnd (shared ++ t) upto → IsBelow (source ++ t) first) → IsEmpty at (shared ++ rest) upto
moved_empty at child shared source rest first value end upto moved is_source found inside below k is_k within =
    let split : k ≡ shared ++ drop (length shared) k = begins_split k shared (moved.begins k is_k (within.0, inside k within.1)) in
    let here : InRange (shared ++ rest) upto (shared ++ drop (length shared) k) = subst (λ (l : List ℕ). InRange (shared ++ rest) upto l) split within in
    ap at split
    ∙ moved.same (drop (length shared) k) (subst IsKey split is_k) (here.0, inside (shared ++ drop (length shared) k) here.1)
    ∙ found.empty (source ++ drop (length shared) k) (IsKey-append source (drop (length shared) k) is_source (IsKey-drop (length shared) k is_k))
    (least_inside shared rest (drop (length shared) k) source here.0, below (drop (length shared) k) here.1)

-- the first key with a value is the one that stands for the child's
moved_first : (at child : At) (shared source rest later value : List ℕ) (end : Option (List ℕ)) → IsMoved at child shared source rest end → IsKey source → IsKey (shared ++ later) → IsBelowEnd (shared ++ later) end
    → IsFirst child (source ++ rest) (source ++ later) value → IsFirst at (shared ++ rest) (shared ++ later) value
moved_first at child shared source rest later value end moved is_source is_key before found =
    let on : IsAtLeast (shared ++ later) (shared ++ rest) = least_inside source rest later shared found.on in
    record {
      on = on;
      empty = moved_empty at child shared source rest (source ++ later) value end (Some (shared ++ later)) moved is_source found
          (λ k below. below_within k (shared ++ later) end below before)
          (λ t below. key_cmp-front source t later ∙ sym (key_cmp-front shared t later) ∙ below);
      has = moved.same later is_key (on, before) ∙ found.has;
    }

-- ---- runs above an edge

-- the raised entries of a run are a run
raised_is : (at child : At) (shared source rest : List ℕ) (end : Option (List ℕ)) (es : List Entry) → IsMoved at child shared source rest end → IsKey source → IsRun child (source ++ rest) es
    → AllByRecursion (λ (e : Entry). IsKey e.key) (raised_run end shared source es) → IsRun at (shared ++ rest) (raised_run end shared source es)
raised_is at child shared source rest end [] moved is_source run keys = tt
raised_is at child shared source rest end (e ∷ es) moved is_source run keys =
    cond_both (begins e.key source && is_before (raised_key shared source e.key) end) (raised_entry shared source e ∷ raised_run end shared source es) []
    (λ (raised : List Entry). AllByRecursion (λ (f : Entry). IsKey f.key) raised → IsRun at (shared ++ rest) raised)
    (λ taken are_keys.
    let later = drop (length source) e.key in
    let tests = and_parts (begins e.key source) (is_before (shared ++ later) end) taken in
    let split : e.key ≡ source ++ later = begins-is e.key source tests.0 in
    let first : IsFirst at (shared ++ rest) (shared ++ later) e.value =
    moved_first at child shared source rest later e.value end moved is_source are_keys.0 (before_end (shared ++ later) end tests.1)
    (subst (λ (k : List ℕ). IsFirst child (source ++ rest) k e.value) split run.1) in (
      are_keys.0,
      first,
      subst (λ (k : List ℕ). IsRun at k (raised_run end shared source es)) (sym (append_assoc shared later (0 ∷ [])))
          (raised_is at child shared source (later ++ 0 ∷ []) end es (moved_after at child shared source rest later end first.on moved) is_source
          (subst (λ (k : List ℕ). IsRun child k es) (ap (λ (k : List ℕ). k ++ 0 ∷ []) split ∙ append_assoc source later (0 ∷ [])) run.2) are_keys.1),
    ))
    (λ past are_keys. tt) keys

-- where the first entry of a run isn't raised, what the keys up to the end stand for is below its key
past_end : (shared source rest t key : List ℕ) (end : Option (List ℕ)) → IsAtLeast key (source ++ rest) → (begins key source && is_before (raised_key shared source key) end) ≡ false
    → IsBelowEnd (shared ++ t) end → IsBelow (source ++ t) key
past_end shared source rest t key end on past below =
    elim (cases_Bool (begins key source)) [
      | inl starts ↦ (let later = drop (length source) key in
          let over : IsBelow (shared ++ t) (shared ++ later) =
          below_past (shared ++ later) (shared ++ t) end (sym (ap (λ (b : Bool). b && is_before (shared ++ later) end) starts) ∙ past) below in
          subst (λ (k : List ℕ). IsBelow (source ++ t) k) (sym (begins-is key source starts)) (key_cmp-front source t later ∙ sym (key_cmp-front shared t later) ∙ over))
      | inr other ↦ elim (below_or_same (source ++ rest) key on) [
        | inl above ↦ above_prefix source rest t key above (λ starts. not_both (begins_true key source starts) other)
        | inr same ↦ absurd (not_both (begins-append source rest) (ap (λ (k : List ℕ). begins k source) same ∙ other))
      ]
    ]

-- where no entry of a run is raised, no key up to the end has a value
none_raised : (at child : At) (shared source rest : List ℕ) (end : Option (List ℕ)) (es : List Entry) → IsMoved at child shared source rest end → IsKey source → 1 ≤ length es → IsRun child (source ++ rest) es
    → raised_run end shared source es ≡ [] → IsEmpty at (shared ++ rest) end
none_raised at child shared source rest end [] moved is_source some run none = absurd (omega arith)
none_raised at child shared source rest end (e ∷ es) moved is_source some run none =
    cond_both (begins e.key source && is_before (raised_key shared source e.key) end) (raised_entry shared source e ∷ raised_run end shared source es) []
    (λ (raised : List Entry). raised ≡ [] → IsEmpty at (shared ++ rest) end)
    (λ taken no_entry. absurd (cc))
    (λ past no_entry.
    moved_empty at child shared source rest e.key e.value end end moved is_source run.1 (λ k below. below)
    (λ t below. past_end shared source rest t e.key end run.1.on past below)) none

-- ---- raising one entry after another

-- the entries raised so far, and what those that are left give, are what all of them give
pub record IsRaising (end : Option (List ℕ)) (shared source : List ℕ) (all before left : List Entry) : Type 0 where
  pub run : before ++ raised_run end shared source left ≡ raised_run end shared source all
  pub keys : AllByRecursion (λ (e : Entry). IsKey e.key) before

-- one more was raised
pub raised_more : (end : Option (List ℕ)) (shared source : List ℕ) (all before after now left : List Entry) (e raised : Entry) → IsRaising end shared source all before now → now ≡ e ∷ left
    → Begins e.key source → raised ≡ raised_entry shared source e → IsKey raised.key → is_before raised.key end ≡ true → after ≡ before ++ raised ∷ [] → IsRaising end shared source all after left
raised_more end shared source all before after now left e raised so_far there starts is is_key inside pushed =
    let tests : (begins e.key source && is_before (raised_key shared source e.key) end) ≡ true =
    and_from (begins e.key source) (is_before (raised_key shared source e.key) end) (begins_true e.key source starts) (subst (λ (f : Entry). is_before f.key end ≡ true) is inside) in
    let next : raised_run end shared source now ≡ raised ∷ raised_run end shared source left =
    ap (raised_run end shared source) there ∙ cond-true (begins e.key source && is_before (raised_key shared source e.key) end) (raised_entry shared source e ∷ raised_run end shared source left) [] tests
    ∙ ap (λ (f : Entry). f ∷ raised_run end shared source left) (sym is) in
    record {
      run = ap (λ (es : List Entry). es ++ raised_run end shared source left) pushed ∙ append_assoc before (raised ∷ []) (raised_run end shared source left)
          ∙ ap (λ (es : List Entry). before ++ es) (sym next) ∙ so_far.run;
      keys = subst (AllByRecursion (λ (f : Entry). IsKey f.key)) (sym pushed) (each_both (λ (f : Entry). IsKey f.key) before (raised ∷ []) so_far.keys (is_key, tt));
    }

-- none is left
pub raised_all : (end : Option (List ℕ)) (shared source : List ℕ) (all before now : List Entry) → IsRaising end shared source all before now → now ≡ [] → before ≡ raised_run end shared source all
raised_all end shared source all before now so_far none =
    sym (append-nil before) ∙ sym (ap (λ (es : List Entry). before ++ raised_run end shared source es) none) ∙ so_far.run

-- the next one isn't raised
stopped : (end : Option (List ℕ)) (shared source : List ℕ) (all before now left : List Entry) (e : Entry) → IsRaising end shared source all before now → now ≡ e ∷ left
    → (begins e.key source && is_before (raised_key shared source e.key) end) ≡ false → before ≡ raised_run end shared source all
stopped end shared source all before now left e so_far there past =
    let next : raised_run end shared source now ≡ [] =
    ap (raised_run end shared source) there ∙ cond-false (begins e.key source && is_before (raised_key shared source e.key) end) (raised_entry shared source e ∷ raised_run end shared source left) [] past in
    sym (append-nil before) ∙ sym (ap (λ (es : List Entry). before ++ es) next) ∙ so_far.run

-- as no key stands for it
pub stopped_outside : (end : Option (List ℕ)) (shared source : List ℕ) (all before now left : List Entry) (e : Entry) → IsRaising end shared source all before now → now ≡ e ∷ left
    → (Begins e.key source → ⊥) → before ≡ raised_run end shared source all
stopped_outside end shared source all before now left e so_far there other =
    stopped end shared source all before now left e so_far there
    (and_left (begins e.key source) (is_before (raised_key shared source e.key) end) (false_from_ne_true (begins e.key source) (λ starts. other (true_begins e.key source starts))))

-- or as its key isn't below the end
pub stopped_past : (end : Option (List ℕ)) (shared source : List ℕ) (all before now left : List Entry) (e raised : Entry) → IsRaising end shared source all before now → now ≡ e ∷ left
    → raised ≡ raised_entry shared source e → is_before raised.key end ≡ false → before ≡ raised_run end shared source all
stopped_past end shared source all before now left e raised so_far there is past =
    stopped end shared source all before now left e so_far there
    (and_right (begins e.key source) (is_before (raised_key shared source e.key) end) (subst (λ (f : Entry). is_before f.key end ≡ false) is past))

-- ---- turns

-- a turn finds these entries above an edge, or where there is none, that no key up to the end has a value
pub record IsRaisedRun (end : Option (List ℕ)) (raised : List Entry) (new : Turn) : Type 0 where
  pub some : 1 ≤ length raised → new ≡ Run raised
  pub none : raised ≡ [] → new ≡ Passed end

-- what it finds is so
raised_turn_by : (at : At) (lo : List ℕ) (end : Option (List ℕ)) (raised : List Entry) (new : Turn) → IsRaisedRun end raised new → IsRun at lo raised → (raised ≡ [] → IsEmpty at lo end) → IsTurn at lo new
raised_turn_by at lo end [] new is run empty = subst (IsTurn at lo) (sym (is.none refl)) (empty refl)
raised_turn_by at lo end (e ∷ es) new is run empty = subst (IsTurn at lo) (sym (is.some (omega arith))) (omega arith, run)

-- and so where a run was found below
pub raised_turn : (at child : At) (lo source : List ℕ) (end : Option (List ℕ)) (lift : ℕ) (es raised : List Entry) (new : Turn) → IsAsked at child lo end lift source → lift ≤ length lo → IsKey source
    → IsSomeRun child (source ++ drop lift lo) es → raised ≡ raised_run end (take lift lo) source es → AllByRecursion (λ (e : Entry). IsKey e.key) raised → IsRaisedRun end raised new → IsTurn at lo new
raised_turn at child lo source end lift es raised new asked long is_source run is keys found =
    let shared = take lift lo in
    let rest = drop lift lo in
    let moved = asked_moved at child lo source end lift long asked in
    let whole : shared ++ rest ≡ lo = take-append-drop lift lo in
    raised_turn_by at lo end raised new found
    (subst (λ (l : List ℕ). IsRun at l raised) whole
    (subst (IsRun at (shared ++ rest)) (sym is) (raised_is at child shared source rest end es moved is_source run.1 (subst (AllByRecursion (λ (e : Entry). IsKey e.key)) is keys))))
    (λ none. subst (λ (l : List ℕ). IsEmpty at l end) whole (none_raised at child shared source rest end es moved is_source run.0 run.1 (sym is ∙ none)))
