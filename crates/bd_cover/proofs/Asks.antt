-- What an edge asks its child for.
use Rattle.std.proofs.Common.{◌≡◌, ℕ, ◌+◌, ◌<◌, ◌≤◌, Bool, true, false, cond, List, [], ◌∷◌, ◌++◌, length, take, drop, refl, sym, ap, subst, ◌∙◌, Option, None, Some, Ordering, Less, Equal, Greater, inl, inr, arith, length-take}
use Rattle.std.specs.Prelude.{◌⊎◌, ◌==◌, IfSome}
use Rattle.std.specs.Option.{option_map}
use Rattle.std.specs.Ordering.{is_lt, ordering_reverse}
use Rattle.std.proofs.lemmas.Bool.{cases_Bool, cases_eq, cond-true, cond-false, eq-eqb, ne_eqb}
use Rattle.std.proofs.lemmas.Cmp.{nat_list_cmp_total as total}
use Rattle.std.proofs.lemmas.Option.{same_Some, none-some}
use Rattle.std.proofs.lemmas.List.{length-take-le, take-append-drop}
use Rattle.bd_keys.specs.Keys.{key_cmp, IsKey, IsBelow, IsBelowEnd, IsAtLeast, InRange, Begins, IsAboveAll, IsAfter}
use Rattle.bd_keys.specs.declared.range.Range.{Range}
use Rattle.bd_keys.specs.Ranges.{Has}
use Rattle.bd_keys.proofs.Order.{not_below_itself, not_below_nil, below_from, key_cmp-front, first_less, first_same, first_more, IsKey-rest, IsKey-cons, IsKey-nil, Begins-cons, Begins-uncons}
use Rattle.bd_message.specs.Effect.{begins}
use Rattle.bd_message.proofs.Finds.{tied, not_both}
use Rattle.bd_node.specs.declared.node.Edge.{Edge}
use Rattle.bd_node.proofs.Edges.{lt_is, lt_isnt}
use Rattle.bd_inner.specs.Batches.{lifted, IsLifted}
use Rattle.bd_inner.proofs.CarvingOwned.{begins_front, front_begins}
use Rattle.bd_cover.specs.declared.asking.Ask.{Ask}
use Rattle.bd_cover.specs.Asked.{later, earlier, is_below_end, end_from, prefix_end, asked_end, asked_keys, asks_between, asks}

-- ---- where the keys that begin with a prefix end

cases_order : (a b : ℕ) → (a ≡ b) ⊎ ((a < b) ⊎ (b < a))
cases_order a b = grind arith

byte_below : (b : ℕ) (k : List ℕ) (end : Option (List ℕ)) → IsBelowEnd k end → IsBelowEnd (b ∷ k) (end_from b end)
byte_below b k (Some end) below = first_same b k end ∙ below
byte_below b k None below = elim (cases_eq b 255) [
  | inl top ↦ subst (λ (o : Option (List ℕ)). IsBelowEnd (b ∷ k) o) (sym (cond-true (b == 255) None (Some ((b + 1) ∷ [])) (eq-eqb b 255 top))) tt
  | inr other ↦ subst (λ (o : Option (List ℕ)). IsBelowEnd (b ∷ k) o) (sym (cond-false (b == 255) None (Some ((b + 1) ∷ [])) (ne_eqb b 255 other))) (first_less b (b + 1) k [] (omega arith))
]

-- keys that begin with the prefix are below its end
prefix_below : (p k : List ℕ) → Begins k p → IsBelowEnd k (prefix_end p)
prefix_below [] k begun = tt
prefix_below (b ∷ p) [] begun = cc
prefix_below (b ∷ p) (c ∷ k) begun =
    let own : (c ≡ b) × Begins k p = Begins-uncons c b k p begun in
    subst (λ (d : ℕ). IsBelowEnd (d ∷ k) (prefix_end (b ∷ p))) (sym own.0) (byte_below b k (prefix_end p) (prefix_below p k own.1))

same_below : (b : ℕ) (k : List ℕ) (end : Option (List ℕ)) → IsBelowEnd (b ∷ k) (end_from b end) → IsBelowEnd k end
same_below b k None below = tt
same_below b k (Some end) below = sym (first_same b k end) ∙ below

more_is : (o : Ordering) → o ≡ Greater → o ≡ Less → ⊥
more_is o greater less = cc

-- and no key after one of another byte is
not_past : (b c : ℕ) (k : List ℕ) (end : Option (List ℕ)) → b < c → c < 256 → IsBelowEnd (c ∷ k) (end_from b end) → ⊥
not_past b c k (Some end) more byte below = more_is (key_cmp (c ∷ k) (b ∷ end)) (first_more c b k end more) below
not_past b c k None more byte below =
    let other : b ≡ 255 → ⊥ = λ top. omega (arith, top) in
    let one : IsBelow (c ∷ k) ((b + 1) ∷ []) = subst (λ (o : Option (List ℕ)). IsBelowEnd (c ∷ k) o) (cond-false (b == 255) None (Some ((b + 1) ∷ [])) (ne_eqb b 255 other)) below in
    elim (cases_order c (b + 1)) [
      | inl same ↦ not_below_nil k (sym (first_same c k []) ∙ ap (λ (d : ℕ). key_cmp (c ∷ k) (d ∷ [])) same ∙ one)
      | inr apart ↦ elim apart [
        | inl low ↦ omega (arith, low)
        | inr high ↦ more_is (key_cmp (c ∷ k) ((b + 1) ∷ [])) (first_more c (b + 1) k [] high) one
      ]
    ]

prefix_only : (p k : List ℕ) → IsKey k → IsAtLeast k p → IsBelowEnd k (prefix_end p) → Begins k p
prefix_only [] k key least below = refl
prefix_only (b ∷ p) [] key least below = absurd (least refl)
prefix_only (b ∷ p) (c ∷ k) key least below =
    elim (cases_order c b) [
      | inl same ↦
          subst (λ (d : ℕ). Begins (d ∷ k) (b ∷ p)) (sym same)
          (Begins-cons b k p
          (prefix_only p k (IsKey-rest c k key) (λ less. least (ap (λ (d : ℕ). key_cmp (d ∷ k) (b ∷ p)) same ∙ first_same b k p ∙ less))
          (same_below b k (prefix_end p) (subst (λ (d : ℕ). IsBelowEnd (d ∷ k) (prefix_end (b ∷ p))) same below))))
      | inr apart ↦ elim apart [
        | inl low ↦ absurd (least (first_less c b k p low))
        | inr high ↦ absurd (not_past b c k (prefix_end p) high (key 0) below)
      ]
    ]

begins_itself : (k : List ℕ) → Begins k k
begins_itself [] = refl
begins_itself (x ∷ k) = ap (λ (l : List ℕ). x ∷ l) (begins_itself k)

-- no key that is above all these is below the end
not_above : (p k : List ℕ) → IsKey p → IsKey k → IsAboveAll k p → IsBelowEnd k (prefix_end p) → ⊥
not_above p k own key above below =
    let first : IsBelow p k = above p own (begins_itself p) in
    not_below_itself k (above k key (prefix_only p k key (λ less. not_below_itself p (total.trans p k p first less)) below))

byte_end : (b : ℕ) (end : Option (List ℕ)) → b < 256 → IfSome end IsKey → IfSome (end_from b end) IsKey
byte_end b (Some end) low key = IsKey-cons b end low key
byte_end b None low key = elim (cases_eq b 255) [
  | inl top ↦ subst (λ (o : Option (List ℕ)). IfSome o IsKey) (sym (cond-true (b == 255) None (Some ((b + 1) ∷ [])) (eq-eqb b 255 top))) tt
  | inr other ↦ subst (λ (o : Option (List ℕ)). IfSome o IsKey) (sym (cond-false (b == 255) None (Some ((b + 1) ∷ [])) (ne_eqb b 255 other))) (IsKey-cons (b + 1) [] (omega arith) IsKey-nil)
]

prefix_end_key : (p : List ℕ) → IsKey p → IfSome (prefix_end p) IsKey
prefix_end_key [] key = tt
prefix_end_key (b ∷ p) key = byte_end b (prefix_end p) (key 0) (prefix_end_key p (IsKey-rest b p key))

same_by : (k l : List ℕ) (o : Ordering) → key_cmp k l ≡ o → IsAtLeast k l → IsAtLeast l k → k ≡ l
same_by k l Less is first second = absurd (first is)
same_by k l Equal is first second = tied k l is
same_by k l Greater is first second = absurd (second (total.antisymm l k ∙ ap ordering_reverse is))

end_above : (p k : List ℕ) → prefix_end p ≡ Some k → IsAboveAll k p
end_above p k is l key begun = subst (λ (o : Option (List ℕ)). IsBelowEnd l o) is (prefix_below p l begun)

-- the end is the key that is found
end_is : (p k : List ℕ) (end : Option (List ℕ)) → prefix_end p ≡ end → IsKey p → IfSome end IsKey → IsKey k → IsAfter p k → Some k ≡ end
end_is p k None is own key found after = absurd (not_above p k own found after.above (subst (λ (o : Option (List ℕ)). IsBelowEnd k o) (sym is) tt))
end_is p k (Some end) is own key found after =
    ap Some (same_by k end (key_cmp k end) refl
    (λ less. not_above p k own found after.above (subst (λ (o : Option (List ℕ)). IsBelowEnd k o) (sym is) less))
    (after.least end key (end_above p end is)))

pub prefix_end_is : (p k : List ℕ) → IsKey p → IsKey k → IsAfter p k → Some k ≡ prefix_end p
prefix_end_is p k own key after = end_is p k (prefix_end p) refl own (prefix_end_key p own) key after

none_is : (p : List ℕ) (end : Option (List ℕ)) → prefix_end p ≡ end → IfSome end IsKey → ((k : List ℕ) → IsKey k → IsAboveAll k p → ⊥) → None ≡ end
none_is p None is key none = refl
none_is p (Some end) is key none = absurd (none end key (end_above p end is))

-- and there is none, where none is found
pub prefix_end_none : (p : List ℕ) → IsKey p → ((k : List ℕ) → IsKey k → IsAboveAll k p → ⊥) → None ≡ prefix_end p
prefix_end_none p own none = none_is p (prefix_end p) refl (prefix_end_key p own) none

-- ---- the later key and the earlier end

later_least : (a b k : List ℕ) → IsAtLeast k a → IsAtLeast k b → IsAtLeast k (later a b)
later_least a b k first second = elim (cases_Bool (is_lt (key_cmp a b))) [
  | inl less ↦ subst (λ (l : List ℕ). IsAtLeast k l) (sym (cond-true (is_lt (key_cmp a b)) b a less)) second
  | inr more ↦ subst (λ (l : List ℕ). IsAtLeast k l) (sym (cond-false (is_lt (key_cmp a b)) b a more)) first
]

later_first : (a b : List ℕ) → IsAtLeast (later a b) a
later_first a b = elim (cases_Bool (is_lt (key_cmp a b))) [
  | inl less ↦ subst (λ (l : List ℕ). IsAtLeast l a) (sym (cond-true (is_lt (key_cmp a b)) b a less)) (λ under. not_below_itself a (total.trans a b a (lt_is (key_cmp a b) less) under))
  | inr more ↦ subst (λ (l : List ℕ). IsAtLeast l a) (sym (cond-false (is_lt (key_cmp a b)) b a more)) (not_below_itself a)
]

later_second : (a b : List ℕ) → IsAtLeast (later a b) b
later_second a b = elim (cases_Bool (is_lt (key_cmp a b))) [
  | inl less ↦ subst (λ (l : List ℕ). IsAtLeast l b) (sym (cond-true (is_lt (key_cmp a b)) b a less)) (not_below_itself b)
  | inr more ↦ subst (λ (l : List ℕ). IsAtLeast l b) (sym (cond-false (is_lt (key_cmp a b)) b a more)) (lt_isnt (key_cmp a b) more)
]

earlier_below : (a b : Option (List ℕ)) (k : List ℕ) → IsBelowEnd k a → IsBelowEnd k b → IsBelowEnd k (earlier a b)
earlier_below None b k first second = second
earlier_below (Some a) None k first second = first
earlier_below (Some a) (Some b) k first second = elim (cases_Bool (is_lt (key_cmp a b))) [
  | inl less ↦ subst (λ (o : Option (List ℕ)). IsBelowEnd k o) (sym (cond-true (is_lt (key_cmp a b)) (Some a) (Some b) less)) first
  | inr more ↦ subst (λ (o : Option (List ℕ)). IsBelowEnd k o) (sym (cond-false (is_lt (key_cmp a b)) (Some a) (Some b) more)) second
]

earlier_first : (a b : Option (List ℕ)) (k : List ℕ) → IsBelowEnd k (earlier a b) → IsBelowEnd k a
earlier_first None b k below = tt
earlier_first (Some a) None k below = below
earlier_first (Some a) (Some b) k below = elim (cases_Bool (is_lt (key_cmp a b))) [
  | inl less ↦ subst (λ (o : Option (List ℕ)). IsBelowEnd k o) (cond-true (is_lt (key_cmp a b)) (Some a) (Some b) less) below
  | inr more ↦ below_from k b a (subst (λ (o : Option (List ℕ)). IsBelowEnd k o) (cond-false (is_lt (key_cmp a b)) (Some a) (Some b) more) below) (lt_isnt (key_cmp a b) more)
]

earlier_second : (a b : Option (List ℕ)) (k : List ℕ) → IsBelowEnd k (earlier a b) → IsBelowEnd k b
earlier_second None b k below = below
earlier_second (Some a) None k below = tt
earlier_second (Some a) (Some b) k below = elim (cases_Bool (is_lt (key_cmp a b))) [
  | inl less ↦ total.trans k a b (subst (λ (o : Option (List ℕ)). IsBelowEnd k o) (cond-true (is_lt (key_cmp a b)) (Some a) (Some b) less) below) (lt_is (key_cmp a b) less)
  | inr more ↦ subst (λ (o : Option (List ℕ)). IsBelowEnd k o) (cond-false (is_lt (key_cmp a b)) (Some a) (Some b) more) below
]

below_end_is : (k : List ℕ) (end : Option (List ℕ)) → is_below_end k end ≡ true → IsBelowEnd k end
below_end_is k None is = tt
below_end_is k (Some end) is = lt_is (key_cmp k end) is

below_end_holds : (k : List ℕ) (end : Option (List ℕ)) → IsBelowEnd k end → is_below_end k end ≡ true
below_end_holds k None below = refl
below_end_holds k (Some end) below = ap is_lt below

-- what is no more than a key below an end is below it
below_too : (a k : List ℕ) (end : Option (List ℕ)) → IsAtLeast k a → IsBelowEnd k end → IsBelowEnd a end
below_too a k None least below = tt
below_too a k (Some end) least below = elim (cases_Bool (is_lt (key_cmp a end))) [
  | inl less ↦ lt_is (key_cmp a end) less
  | inr more ↦ absurd (least (below_from k end a below (lt_isnt (key_cmp a end) more)))
]

-- ---- keys between two that begin with a prefix

begins_between : (p a k b : List ℕ) → Begins a p → Begins b p → IsAtLeast k a → IsAtLeast b k → Begins k p
begins_between [] a k b first last least most = refl
begins_between (x ∷ p) [] k b first last least most = cc
begins_between (x ∷ p) (y ∷ a) k [] first last least most = cc
begins_between (x ∷ p) (y ∷ a) [] (z ∷ b) first last least most = absurd (least refl)
begins_between (x ∷ p) (y ∷ a) (w ∷ k) (z ∷ b) first last least most =
    let own : (y ≡ x) × Begins a p = Begins-uncons y x a p first in
    let that : (z ≡ x) × Begins b p = Begins-uncons z x b p last in
    elim (cases_order w x) [
      | inl same ↦
          subst (λ (v : ℕ). Begins (v ∷ k) (x ∷ p)) (sym same)
          (Begins-cons x k p
          (begins_between p a k b own.1 that.1
          (λ less. least (ap (λ (v : ℕ). key_cmp (v ∷ k) (y ∷ a)) (same ∙ sym own.0) ∙ first_same y k a ∙ less))
          (λ less. most (ap (λ (v : ℕ). key_cmp (z ∷ b) (v ∷ k)) (same ∙ sym that.0) ∙ first_same z b k ∙ less))))
      | inr other ↦ elim other [
        | inl low ↦ absurd (least (first_less w y k a (omega (arith, own.0))))
        | inr high ↦ absurd (most (first_less z w b k (omega (arith, that.0))))
      ]
    ]

-- ---- what is asked

-- a key that begins so is that, and then the rest
whole_key : (e : Edge) (k : List ℕ) → e.lift ≤ length e.pivot → Begins k (lifted e) → lifted e ++ drop e.lift k ≡ k
whole_key e k lift begun =
    let same : take e.lift k ≡ lifted e = ap (λ (i : ℕ). take i k) (sym (length-take-le e.lift e.pivot lift)) ∙ begun in
    ap (λ (l : List ℕ). l ++ drop e.lift k) (sym same) ∙ take-append-drop e.lift k

-- translations are ordered as the keys are
translated_order : (e : Edge) (k l : List ℕ) → e.lift ≤ length e.pivot → Begins k (lifted e) → Begins l (lifted e) → key_cmp (e.source ++ drop e.lift k) (e.source ++ drop e.lift l) ≡ key_cmp k l
translated_order e k l lift first second =
    key_cmp-front e.source (drop e.lift k) (drop e.lift l)
    ∙ sym (key_cmp-front (lifted e) (drop e.lift k) (drop e.lift l))
    ∙ ap (λ (x : List ℕ). key_cmp x (lifted e ++ drop e.lift l)) (whole_key e k lift first)
    ∙ ap (λ (x : List ℕ). key_cmp k x) (whole_key e l lift second)

pivot_begins : (e : Edge) → e.lift ≤ length e.pivot → Begins e.pivot (lifted e)
pivot_begins e lift = ap (λ (i : ℕ). take i e.pivot) (length-take-le e.lift e.pivot lift)

front_taken : (s r : List ℕ) → Begins (s ++ r) s
front_taken [] r = refl
front_taken (x ∷ s) r = ap (λ (l : List ℕ). x ∷ l) (front_taken s r)

below_asked : (e : Edge) (hi : Option (List ℕ)) (k : List ℕ) → e.lift ≤ length e.pivot → Begins k (lifted e) → IsBelowEnd k hi → IsBelowEnd (e.source ++ drop e.lift k) (asked_end e hi)
below_asked e None k lift begun below = prefix_below e.source (e.source ++ drop e.lift k) (front_taken e.source (drop e.lift k))
below_asked e (Some hi) k lift begun below = elim (cases_Bool (begins hi (lifted e))) [
  | inl so ↦
      subst (λ (o : Option (List ℕ)). IsBelowEnd (e.source ++ drop e.lift k) o) (sym (cond-true (begins hi (lifted e)) (Some (e.source ++ drop e.lift hi)) (prefix_end e.source) so))
      (translated_order e k hi lift begun (begins_front (lifted e) hi so) ∙ below)
  | inr not ↦
      subst (λ (o : Option (List ℕ)). IsBelowEnd (e.source ++ drop e.lift k) o) (sym (cond-false (begins hi (lifted e)) (Some (e.source ++ drop e.lift hi)) (prefix_end e.source) not))
      (prefix_below e.source (e.source ++ drop e.lift k) (front_taken e.source (drop e.lift k)))
]

-- the translation of a key of the edge that is asked for is one of those that the child is asked for
pub asked_inside : (e : Edge) (end : Option (List ℕ)) (lo : List ℕ) (hi : Option (List ℕ)) (k : List ℕ) → IsLifted e end → IsKey k → InRange e.pivot end k → InRange lo hi k → Has (asked_keys e (later e.pivot lo) (earlier end hi)) (e.source ++ drop e.lift k)
asked_inside e end lo hi k own key range asked =
    let first : List ℕ = later e.pivot lo in
    let begun : Begins k (lifted e) = own.common k key range in
    let least : IsAtLeast k first = later_least e.pivot lo k range.0 asked.0 in
    let first_begun : Begins first (lifted e) = begins_between (lifted e) e.pivot first k (pivot_begins e own.lift) begun (later_first e.pivot lo) least in (
      (λ less. least (sym (translated_order e k first own.lift begun first_begun) ∙ less)),
      below_asked e (earlier end hi) k own.lift begun (earlier_below end hi k range.1 asked.1),
    )

-- what is asked of a child
abbrev ask_of : Edge → List ℕ → Option (List ℕ) → ℕ → Ask
ask_of e lo hi child = record { child = child; keys = asked_keys e lo hi }

-- so a child is asked, where there is one
pub asks_at : (e : Edge) (end : Option (List ℕ)) (lo : List ℕ) (hi : Option (List ℕ)) (k : List ℕ) (child : ℕ) → IsLifted e end → IsKey k → InRange e.pivot end k → InRange lo hi k → e.child ≡ Some child
    → (ask : Ask) × (asks e end lo hi ≡ Some ask) × (ask.child ≡ child) × Has ask.keys (e.source ++ drop e.lift k)
unfolding asks
asks_at e end lo hi k child own key range asked is =
    let first : List ℕ = later e.pivot lo in
    let past : Option (List ℕ) = earlier end hi in
    let some : is_below_end first past ≡ true = below_end_holds first past (below_too first k past (later_least e.pivot lo k range.0 asked.0) (earlier_below end hi k range.1 asked.1)) in (
      ask_of e first past child,
      cond-true (is_below_end first past) (option_map (ask_of e first past) e.child) None some ∙ ap (option_map (ask_of e first past)) is,
      refl,
      asked_inside e end lo hi k own key range asked,
    )

-- ---- as it is computed

none_both : {A : Type 0} (b : Bool) → ◌≡◌ {A = Option A} (cond b None None) None
none_both true = refl
none_both false = refl

childless : (e : Edge) (lo : List ℕ) (hi : Option (List ℕ)) → e.child ≡ None → None ≡ asks_between e lo hi
childless e lo hi none =
    sym (ap (λ (o : Option ℕ). cond (is_below_end lo hi) (option_map (ask_of e lo hi) o) None) none ∙ none_both (is_below_end lo hi))

pub asks_childless : (e : Edge) (end : Option (List ℕ)) (lo : List ℕ) (hi : Option (List ℕ)) → e.child ≡ None → None ≡ asks e end lo hi
unfolding asks
asks_childless e end lo hi none = childless e (later e.pivot lo) (earlier end hi) none

-- an edge, and the keys for which it is asked, as they are read
pub record IsRead (e : Edge) (end : Option (List ℕ)) (lo : List ℕ) (hi : Option (List ℕ)) (pivot first : List ℕ) (past : Option (List ℕ)) (some : Bool) : Type 0 where
  pub pivot_is : pivot ≡ e.pivot
  pub first_is : first ≡ later pivot lo
  pub past_is : past ≡ earlier end hi
  pub some_is : some ≡ is_below_end first past

in_words : (e : Edge) (end : Option (List ℕ)) (lo : List ℕ) (hi : Option (List ℕ)) (pivot first : List ℕ) (past : Option (List ℕ)) (some : Bool) → IsRead e end lo hi pivot first past some → asks_between e first past ≡ asks e end lo hi
unfolding asks
in_words e end lo hi pivot first past some h =
    ap (λ (l : List ℕ). asks_between e l past) (h.first_is ∙ ap (λ (l : List ℕ). later l lo) h.pivot_is)
    ∙ ap (λ (o : Option (List ℕ)). asks_between e (later e.pivot lo) o) h.past_is

pub asks_none : (e : Edge) (end : Option (List ℕ)) (lo : List ℕ) (hi : Option (List ℕ)) (pivot first : List ℕ) (past : Option (List ℕ)) (some : Bool) → IsRead e end lo hi pivot first past some → some ≡ false → None ≡ asks e end lo hi
asks_none e end lo hi pivot first past some h none =
    sym (cond-false (is_below_end first past) (option_map (ask_of e first past) e.child) None (sym h.some_is ∙ none)) ∙ in_words e end lo hi pivot first past some h

pub asks_some : (e : Edge) (end : Option (List ℕ)) (lo : List ℕ) (hi : Option (List ℕ)) (pivot first : List ℕ) (past : Option (List ℕ)) (some : Bool) (child : ℕ) (source front : List ℕ) (back : Option (List ℕ)) → IsRead e end lo hi pivot first past some → some ≡ true → e.child ≡ Some child → source ≡ e.source → front ≡ source ++ drop e.lift first → back ≡ asked_end e past
    → Some (record { child = child; keys = record { lo = front; hi = back } }) ≡ asks e end lo hi
asks_some e end lo hi pivot first past some child source front back h holds is source_is front_is back_is =
    ap (λ (l : List ℕ). Some (record { child = child; keys = record { lo = l; hi = back } })) (front_is ∙ ap (λ (l : List ℕ). l ++ drop e.lift first) source_is)
    ∙ ap (λ (o : Option (List ℕ)). Some (record { child = child; keys = record { lo = e.source ++ drop e.lift first; hi = o } })) back_is
    ∙ sym (ap (option_map (ask_of e first past)) is)
    ∙ sym (cond-true (is_below_end first past) (option_map (ask_of e first past) e.child) None (sym h.some_is ∙ holds))
    ∙ in_words e end lo hi pivot first past some h

-- the first key that is asked for is one of the edge's
first_range : (e : Edge) (end : Option (List ℕ)) (lo : List ℕ) (hi : Option (List ℕ)) (pivot first : List ℕ) (past : Option (List ℕ)) (some : Bool) → IsRead e end lo hi pivot first past some → some ≡ true → InRange e.pivot end first × InRange lo hi first
first_range e end lo hi pivot first past some h holds =
    let is : first ≡ later e.pivot lo = h.first_is ∙ ap (λ (l : List ℕ). later l lo) h.pivot_is in
    let below : IsBelowEnd first (earlier end hi) = subst (λ (o : Option (List ℕ)). IsBelowEnd first o) h.past_is (below_end_is first past (sym h.some_is ∙ holds)) in (
      (subst (λ (l : List ℕ). IsAtLeast l e.pivot) (sym is) (later_first e.pivot lo), earlier_first end hi first below),
      (subst (λ (l : List ℕ). IsAtLeast l lo) (sym is) (later_second e.pivot lo), earlier_second end hi first below),
    )

pub first_long : (e : Edge) (end : Option (List ℕ)) (lo : List ℕ) (hi : Option (List ℕ)) (pivot first : List ℕ) (past : Option (List ℕ)) (some : Bool) → IsLifted e end → IsKey first → IsRead e end lo hi pivot first past some → some ≡ true → e.lift ≤ length first
first_long e end lo hi pivot first past some own key h holds =
    let begun : Begins first (lifted e) = own.common first key (first_range e end lo hi pivot first past some h holds).0 in
    omega (arith, ap (λ (l : List ℕ). length l) begun, length-take (length (lifted e)) first, length-take-le e.lift e.pivot own.lift)

-- and its translation is the first one that the child is asked for
pub first_below : (e : Edge) (end : Option (List ℕ)) (lo : List ℕ) (hi : Option (List ℕ)) (pivot first : List ℕ) (past : Option (List ℕ)) (some : Bool) (source front : List ℕ) (back : Option (List ℕ)) → IsLifted e end → IsKey first → IsRead e end lo hi pivot first past some → some ≡ true → source ≡ e.source → front ≡ source ++ drop e.lift first → back ≡ asked_end e past
    → IsBelowEnd front back
first_below e end lo hi pivot first past some source front back own key h holds source_is front_is back_is =
    let range = first_range e end lo hi pivot first past some h holds in
    let inside : IsBelowEnd (e.source ++ drop e.lift first) (asked_end e (earlier end hi)) = (asked_inside e end lo hi first own key range.0 range.1).1 in
    subst (λ (l : List ℕ). IsBelowEnd l back) (sym (front_is ∙ ap (λ (l : List ℕ). l ++ drop e.lift first) source_is))
    (subst (λ (o : Option (List ℕ)). IsBelowEnd (e.source ++ drop e.lift first) o) (sym (back_is ∙ ap (asked_end e) h.past_is)) inside)

-- ---- the child

child_of : (b : Bool) (e : Edge) (lo : List ℕ) (hi : Option (List ℕ)) (ask : Ask) (child : Option ℕ) → Some ask ≡ cond b (option_map (ask_of e lo hi) child) None → child ≡ Some ask.child
child_of true e lo hi ask (Some child) is = sym (ap (λ (a : Ask). Some a.child) (same_Some ask (ask_of e lo hi child) is))
child_of true e lo hi ask None is = cc
child_of false e lo hi ask child is = cc

pub asks_child : (e : Edge) (end : Option (List ℕ)) (lo : List ℕ) (hi : Option (List ℕ)) (ask : Ask) → Some ask ≡ asks e end lo hi → e.child ≡ Some ask.child
unfolding asks
asks_child e end lo hi ask is = child_of (is_below_end (later e.pivot lo) (earlier end hi)) e (later e.pivot lo) (earlier end hi) ask e.child is

-- in other spelling
pub asks_read : (e : Edge) (end read : Option (List ℕ)) (keys : Range) (lo : List ℕ) (hi : Option (List ℕ)) (found : Option Ask) → found ≡ asks e read lo hi → read ≡ end → lo ≡ keys.lo → hi ≡ keys.hi → found ≡ asks e end keys.lo keys.hi
asks_read e end read keys lo hi found is same_end same_lo same_hi =
    is ∙ ap (λ (o : Option (List ℕ)). asks e o lo hi) same_end ∙ ap (λ (l : List ℕ). asks e end l hi) same_lo ∙ ap (λ (o : Option (List ℕ)). asks e end keys.lo o) same_hi

-- ---- the keys that are asked for are translations

append_least : (s x : List ℕ) → IsAtLeast (s ++ x) s
append_least [] x = not_below_nil x
append_least (b ∷ s) x = λ less. append_least s x (sym (first_same b (s ++ x) s) ∙ less)

dropped : (s r : List ℕ) → drop (length s) (s ++ r) ≡ r
dropped [] r = refl
dropped (b ∷ s) r = dropped s r

later_key : (a b : List ℕ) → IsKey a → IsKey b → IsKey (later a b)
later_key a b first second = elim (cases_Bool (is_lt (key_cmp a b))) [
  | inl less ↦ subst IsKey (sym (cond-true (is_lt (key_cmp a b)) b a less)) second
  | inr more ↦ subst IsKey (sym (cond-false (is_lt (key_cmp a b)) b a more)) first
]

-- a key that is asked for begins with the source
asked_begins : (e : Edge) (first l : List ℕ) (past : Option (List ℕ)) → IsKey l → Has (asked_keys e first past) l → Begins l e.source
asked_begins e first l None key has =
    prefix_only e.source l key (λ less. has.0 (below_from l e.source (e.source ++ drop e.lift first) less (append_least e.source (drop e.lift first)))) has.1
asked_begins e first l (Some hi) key has = elim (cases_Bool (begins hi (lifted e))) [
  | inl so ↦
      let below : IsBelow l (e.source ++ drop e.lift hi) = subst (λ (o : Option (List ℕ)). IsBelowEnd l o) (cond-true (begins hi (lifted e)) (Some (e.source ++ drop e.lift hi)) (prefix_end e.source) so) has.1 in
      begins_between e.source (e.source ++ drop e.lift first) l (e.source ++ drop e.lift hi) (front_taken e.source (drop e.lift first)) (front_taken e.source (drop e.lift hi)) has.0
      (λ less. not_below_itself l (total.trans l (e.source ++ drop e.lift hi) l below less))
  | inr not ↦
      prefix_only e.source l key (λ less. has.0 (below_from l e.source (e.source ++ drop e.lift first) less (append_least e.source (drop e.lift first))))
      (subst (λ (o : Option (List ℕ)). IsBelowEnd l o) (cond-false (begins hi (lifted e)) (Some (e.source ++ drop e.lift hi)) (prefix_end e.source) not) has.1)
]

-- and is the translation of a key below the end
back_below : (e : Edge) (first k : List ℕ) (past : Option (List ℕ)) → e.lift ≤ length e.pivot → Begins first (lifted e) → Begins k (lifted e) → IsAtLeast k first → IsBelowEnd first past → IsBelowEnd (e.source ++ drop e.lift k) (asked_end e past) → IsBelowEnd k past
back_below e first k None lift begun own least some below = tt
back_below e first k (Some hi) lift begun own least some below = elim (cases_Bool (begins hi (lifted e))) [
  | inl so ↦
      sym (translated_order e k hi lift own (begins_front (lifted e) hi so))
      ∙ subst (λ (o : Option (List ℕ)). IsBelowEnd (e.source ++ drop e.lift k) o) (cond-true (begins hi (lifted e)) (Some (e.source ++ drop e.lift hi)) (prefix_end e.source) so) below
  | inr not ↦ elim (cases_Bool (is_lt (key_cmp k hi))) [
    | inl less ↦ lt_is (key_cmp k hi) less
    | inr more ↦
        let so : Begins hi (lifted e) = begins_between (lifted e) first hi k begun own (λ less. not_below_itself first (total.trans first hi first some less)) (lt_isnt (key_cmp k hi) more) in
        absurd (not_both (front_begins (lifted e) hi so) not)
  ]
]

-- the key of the edge of which a key that is asked for is the translation
asked_only : (e : Edge) (end : Option (List ℕ)) (lo : List ℕ) (hi : Option (List ℕ)) (l : List ℕ) → IsLifted e end → IsKey e.pivot → IsKey lo → IsKey l → IsBelowEnd (later e.pivot lo) (earlier end hi) → Has (asked_keys e (later e.pivot lo) (earlier end hi)) l
    → (k : List ℕ) × InRange e.pivot end k × InRange lo hi k × (l ≡ e.source ++ drop e.lift k)
asked_only e end lo hi l own pivot_key lo_key key some has =
    let first : List ℕ = later e.pivot lo in
    let past : Option (List ℕ) = earlier end hi in
    let begun : Begins first (lifted e) = own.common first (later_key e.pivot lo pivot_key lo_key) (later_first e.pivot lo, earlier_first end hi first some) in
    let r : List ℕ = drop (length e.source) l in
    let k : List ℕ = lifted e ++ r in
    let whole : e.source ++ r ≡ l = ap (λ (x : List ℕ). x ++ r) (sym (asked_begins e first l past key has)) ∙ take-append-drop (length e.source) l in
    let rest : drop e.lift k ≡ r = ap (λ (i : ℕ). drop i k) (sym (length-take-le e.lift e.pivot own.lift)) ∙ dropped (lifted e) r in
    let is : l ≡ e.source ++ drop e.lift k = sym whole ∙ ap (λ (x : List ℕ). e.source ++ x) (sym rest) in
    let own_begun : Begins k (lifted e) = front_taken (lifted e) r in
    let least : IsAtLeast k first = λ less. has.0 (ap (λ (x : List ℕ). key_cmp x (e.source ++ drop e.lift first)) is ∙ translated_order e k first own.lift own_begun begun ∙ less) in
    let below : IsBelowEnd k past = back_below e first k past own.lift begun own_begun least some (subst (λ (x : List ℕ). IsBelowEnd x (asked_end e past)) is has.1) in (
      k,
      ((λ less. least (below_from k e.pivot first less (later_first e.pivot lo))), earlier_first end hi k below),
      ((λ less. least (below_from k lo first less (later_second e.pivot lo))), earlier_second end hi k below),
      is,
    )

some_between : (b : Bool) (e : Edge) (lo : List ℕ) (hi : Option (List ℕ)) (ask : Ask) → cond b (option_map (ask_of e lo hi) e.child) None ≡ Some ask → b ≡ true
some_between true e lo hi ask is = refl
some_between false e lo hi ask is = cc

keys_of : (e : Edge) (lo : List ℕ) (hi : Option (List ℕ)) (ask : Ask) (child : Option ℕ) → option_map (ask_of e lo hi) child ≡ Some ask → ask.keys ≡ asked_keys e lo hi
keys_of e lo hi ask (Some child) is = sym (ap (λ (a : Ask). a.keys) (same_Some (ask_of e lo hi child) ask is))
keys_of e lo hi ask None is = cc

-- what is asked, and that there is a key for it
asked_so : (e : Edge) (end : Option (List ℕ)) (lo : List ℕ) (hi : Option (List ℕ)) (ask : Ask) → asks e end lo hi ≡ Some ask → IsBelowEnd (later e.pivot lo) (earlier end hi) × (ask.keys ≡ asked_keys e (later e.pivot lo) (earlier end hi))
unfolding asks
asked_so e end lo hi ask is =
    let first : List ℕ = later e.pivot lo in
    let past : Option (List ℕ) = earlier end hi in
    let some : is_below_end first past ≡ true = some_between (is_below_end first past) e first past ask is in (
      below_end_is first past some,
      keys_of e first past ask e.child (sym (cond-true (is_below_end first past) (option_map (ask_of e first past) e.child) None some) ∙ is),
    )

pub asks_inside : (e : Edge) (end : Option (List ℕ)) (lo : List ℕ) (hi : Option (List ℕ)) (ask : Ask) (k : List ℕ) → IsLifted e end → asks e end lo hi ≡ Some ask → IsKey k → InRange e.pivot end k → InRange lo hi k → Has ask.keys (e.source ++ drop e.lift k)
asks_inside e end lo hi ask k own is key range asked =
    subst (λ (r : Range). Has r (e.source ++ drop e.lift k)) (sym (asked_so e end lo hi ask is).1) (asked_inside e end lo hi k own key range asked)

pub asks_only : (e : Edge) (end : Option (List ℕ)) (lo : List ℕ) (hi : Option (List ℕ)) (ask : Ask) (l : List ℕ) → IsLifted e end → asks e end lo hi ≡ Some ask → IsKey e.pivot → IsKey lo → IsKey l → Has ask.keys l
    → (k : List ℕ) × InRange e.pivot end k × InRange lo hi k × (l ≡ e.source ++ drop e.lift k)
asks_only e end lo hi ask l own is pivot_key lo_key key has =
    let so = asked_so e end lo hi ask is in
    asked_only e end lo hi l own pivot_key lo_key key so.0 (subst (λ (r : Range). Has r l) so.1 has)

pub asks_nothing : (e : Edge) (end : Option (List ℕ)) (lo : List ℕ) (hi : Option (List ℕ)) (child : ℕ) (k : List ℕ) → IsLifted e end → asks e end lo hi ≡ None → e.child ≡ Some child → IsKey k → InRange e.pivot end k → InRange lo hi k → ⊥
asks_nothing e end lo hi child k own none is key range asked =
    let some = asks_at e end lo hi k child own key range asked is in
    none-some some.0 (sym none ∙ some.1)
