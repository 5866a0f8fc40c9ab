-- Ends of stretches of keys, and translated keys.
use Rattle.std.proofs.Common.{◌≡◌, ℕ, zero, suc, ◌+◌, ◌≤◌, true, false, List, [], ◌∷◌, ◌++◌, length, take, drop, refl, sym, ap, subst, ◌∙◌, Option, None, Some, arith, inl, inr, Less, Equal, Greater, Ordering, length-append, take-append-drop}
use Rattle.std.specs.Prelude.{◌⊎◌, ◌↔◌, IfSome}
use Rattle.std.specs.Ordering.{ord_min, is_lt}
use Rattle.std.proofs.Common.{cond}
use Rattle.std.proofs.lemmas.Bool.{cases_Bool, cases_order, cases_lt}
use Rattle.std.proofs.lemmas.Cmp.{nat_list_cmp_total as total}
use Rattle.bd_limits.specs.Limits.{key_limit}
use Rattle.bd_keys.specs.Keys.{key_cmp, IsKey, IsBelow, IsBelowEnd, IsAtLeast, InRange, Begins, IsAboveAll, IsAfter, IsPrefixRange}
use Rattle.bd_keys.proofs.Order.{first_less, first_same, first_more, not_below_itself, not_below_nil, below_from, IsKey-rest, IsKey-cons, Begins-cons, Begins-uncons, key_cmp-front}
use Rattle.bd_message.specs.declared.message.Message.{Message}
use Rattle.bd_message.specs.declared.message.Message.TheVariants.{Put, Del, Patch, Cut, Goto}
use Rattle.bd_message.specs.Messages.{IsMessage}
use Rattle.bd_message.proofs.Finds.{tied, not_both}
use Rattle.bd_node.specs.Touching.{touches, CanTouch}
use Rattle.bd_node.proofs.Appending.{key_of, key_of-touched}
use Rattle.bd_node.proofs.Edges.{lt_is, lt_isnt}
use Rattle.bd_node.proofs.Touched.{touched_first, touched_between, least_back}
use Rattle.bd_query.specs.Stretches.{IsEnd, IsWithin, end_limit, first_key}

-- ---- the order of keys

-- what is at least the second is at least what isn't above it
pub least_trans : (a b c : List ℕ) → IsAtLeast a b → IsAtLeast b c → IsAtLeast a c
least_trans a b c ab bc less = ab (below_from a c b less bc)

pub below_trans : (a b c : List ℕ) → IsBelow a b → IsBelow b c → IsBelow a c
below_trans a b c = total.trans a b c

below_or_cases : (a b : List ℕ) (o : Ordering) → key_cmp a b ≡ o → IsAtLeast b a → (IsBelow a b) ⊎ (a ≡ b)
below_or_cases a b Less e least = inl e
below_or_cases a b Equal e least = inr (tied a b e)
below_or_cases a b Greater e least = absurd (least (total.antisymm b a ∙ ap Rattle.std.specs.Ordering.ordering_reverse e))

-- a key that is at least another is above it or is it
pub below_or_same : (a b : List ℕ) → IsAtLeast b a → (IsBelow a b) ⊎ (a ≡ b)
below_or_same a b least = below_or_cases a b (key_cmp a b) refl least

-- a key is below another or at least it
pub below_or_least : (a b : List ℕ) → IsBelow a b ⊎ IsAtLeast a b
below_or_least a b =
    elim (cases_Bool (is_lt (key_cmp a b))) [
      | inl less ↦ inl (lt_is (key_cmp a b) less)
      | inr more ↦ inr (λ less. lt_isnt (key_cmp a b) more less)
    ]

-- no key stands between one and the same with a byte of 0 after it
pub no_key_between : (key k : List ℕ) → IsAtLeast k key → IsBelow k (key ++ 0 ∷ []) → k ≡ key
no_key_between [] [] least below = refl
no_key_between [] (a ∷ k) least below =
    elim (cases_lt 0 a) [
      | inl more ↦ (let e : Less ≡ Greater = sym below ∙ first_more a 0 k [] more in absurd (cc))
      | inr least_is ↦ (let z : a ≡ 0 = omega arith in absurd (not_below_nil k (sym (first_same 0 k []) ∙ subst (λ (d : ℕ). IsBelow (d ∷ k) (0 ∷ [])) z below)))
    ]
no_key_between (c ∷ key) [] least below = absurd (least refl)
no_key_between (c ∷ key) (a ∷ k) least below =
    elim (cases_order a c) [
      | inl e ↦ subst (λ (d : ℕ). a ∷ k ≡ d ∷ key) e (ap (λ (l : List ℕ). a ∷ l) (no_key_between key k
          (λ less. least (subst (λ (d : ℕ). IsBelow (a ∷ k) (d ∷ key)) e (first_same a k key ∙ less)))
          (sym (first_same a k (key ++ 0 ∷ [])) ∙ subst (λ (d : ℕ). IsBelow (a ∷ k) (d ∷ (key ++ 0 ∷ []))) (sym e) below)))
      | inr o ↦ elim o [
        | inl lt ↦ absurd (least (first_less a c k key lt))
        | inr gt ↦ (let e : Less ≡ Greater = sym below ∙ first_more a c k (key ++ 0 ∷ []) gt in absurd (cc))
      ]
    ]

-- ---- keys that begin with a prefix

-- a key that begins with a prefix is it and the rest
pub begins_split : (k p : List ℕ) → Begins k p → k ≡ p ++ drop (length p) k
begins_split k p h = sym (take-append-drop (length p) k) ∙ ap (λ (l : List ℕ). l ++ drop (length p) k) h

take_all : (p x : List ℕ) → take (length p) (p ++ x) ≡ p
take_all [] x = refl
take_all (a ∷ p) x = ap (λ (l : List ℕ). a ∷ l) (take_all p x)

pub begins_joined : (p x : List ℕ) → Begins (p ++ x) p
begins_joined p x = take_all p x

pub drop_joined : (p x : List ℕ) → drop (length p) (p ++ x) ≡ x
drop_joined [] x = refl
drop_joined (a ∷ p) x = drop_joined p x

pub length-take : (n : ℕ) (k : List ℕ) → n ≤ length k → length (take n k) ≡ n
length-take zero k h = refl
length-take (suc n) [] h = absurd (omega arith)
length-take (suc n) (a ∷ k) h = ap suc (length-take n k (omega arith))

-- a key that doesn't begin with a prefix, above one that does, is above all that do
pub above_prefix : (q s t e : List ℕ) → IsBelow (q ++ s) e → (Begins e q → ⊥) → IsBelow (q ++ t) e
above_prefix [] s t e below other = absurd (other refl)
above_prefix (a ∷ q) s t [] below other = absurd (not_below_nil (a ∷ (q ++ s)) below)
above_prefix (a ∷ q) s t (b ∷ e) below other =
    elim (cases_order a b) [
      | inl same ↦ subst (λ (d : ℕ). IsBelow (a ∷ (q ++ t)) (d ∷ e)) same (first_same a (q ++ t) e
          ∙ above_prefix q s t e (sym (first_same a (q ++ s) e) ∙ subst (λ (d : ℕ). IsBelow (a ∷ (q ++ s)) (d ∷ e)) (sym same) below)
          (λ h. other (subst (λ (d : ℕ). Begins (d ∷ e) (a ∷ q)) same (Begins-cons a e q h))))
      | inr o ↦ elim o [
        | inl lt ↦ first_less a b (q ++ t) e lt
        | inr gt ↦ (let c : Less ≡ Greater = sym below ∙ first_more a b (q ++ s) e gt in absurd (cc))
      ]
    ]

-- ---- the end of the keys of a prefix

IsKey-take : (n : ℕ) (p : List ℕ) → IsKey p → IsKey (take n p)
IsKey-take zero p h i = omega arith
IsKey-take (suc n) [] h i = omega arith
IsKey-take (suc n) (b ∷ p) h zero = h 0
IsKey-take (suc n) (b ∷ p) h (suc i) = IsKey-take n p (IsKey-rest b p h) i

Begins-itself : (k : List ℕ) → Begins k k
Begins-itself [] = refl
Begins-itself (a ∷ k) = Begins-cons a k k (Begins-itself k)

above_taken : (p k : List ℕ) → IsKey p → IsKey k → IsAboveAll k p → IsAboveAll (take (length p) k) p
above_taken [] k is_p is_k above l is_l begins = absurd (not_below_itself k (above k is_k refl))
above_taken (a ∷ p) [] is_p is_k above l is_l begins = absurd (not_below_nil (a ∷ p) (above (a ∷ p) is_p (Begins-itself (a ∷ p))))
above_taken (a ∷ p) (b ∷ k) is_p is_k above [] is_l begins = (let e : length {A = ℕ} [] ≡ suc (length p) = ap (λ (l : List ℕ). length l) begins in absurd (omega arith))
above_taken (a ∷ p) (b ∷ k) is_p is_k above (c ∷ l) is_l begins =
    let parts = Begins-uncons c a l p begins in
    elim (cases_order a b) [
      | inl same ↦
          let rest : IsAboveAll k p = λ m is_m m_begins. sym (first_same a m k)
          ∙ subst (λ (d : ℕ). IsBelow (a ∷ m) (d ∷ k)) (sym same) (above (a ∷ m) (IsKey-cons a m (is_p 0) is_m) (Begins-cons a m p m_begins)) in
          let found : IsBelow (a ∷ l) (a ∷ take (length p) k) = first_same a l (take (length p) k) ∙ above_taken p k (IsKey-rest a p is_p) (IsKey-rest b k is_k) rest l (IsKey-rest c l is_l) parts.1 in
          subst (λ (d : ℕ). IsBelow (d ∷ l) (b ∷ take (length p) k)) (sym parts.0) (subst (λ (d : ℕ). IsBelow (a ∷ l) (d ∷ take (length p) k)) same found)
      | inr o ↦ elim o [
        | inl lt ↦ subst (λ (d : ℕ). IsBelow (d ∷ l) (b ∷ take (length p) k)) (sym parts.0) (first_less a b l (take (length p) k) lt)
        | inr gt ↦ (let e : Less ≡ Greater = sym (above (a ∷ p) is_p (Begins-itself (a ∷ p))) ∙ first_more a b p k gt in absurd (cc))
      ]
    ]

taken_at_least : (n : ℕ) (k : List ℕ) → IsAtLeast (take n k) k → length k ≤ n
taken_at_least zero [] h = omega arith
taken_at_least zero (b ∷ k) h = absurd (h refl)
taken_at_least (suc n) [] h = omega arith
taken_at_least (suc n) (b ∷ k) h = (let i : length k ≤ n = taken_at_least n k (λ less. h (first_same b (take n k) k ∙ less)) in omega arith)

-- the least key above all that begin with a prefix is no longer than it
pub after_short : (p k : List ℕ) → IsKey p → IsKey k → IsAfter p k → length k ≤ length p
after_short p k is_p is_k h =
    taken_at_least (length p) k (h.least (take (length p) k) (IsKey-take (length p) k is_k) (above_taken p k is_p is_k h.above))

-- ---- translated keys

-- the keys that are asked for as keys up to an end of their own
pub end_inside : (p s t source e : List ℕ) → InRange (p ++ s) (Some (p ++ e)) (p ++ t) → InRange (source ++ s) (Some (source ++ e)) (source ++ t)
end_inside p s t source e h = (
  (λ less. h.0 (key_cmp-front p t s ∙ sym (key_cmp-front source t s) ∙ less)),
  key_cmp-front source t e ∙ sym (key_cmp-front p t e) ∙ h.1,
)

pub least_inside : (p s t source : List ℕ) → IsAtLeast (p ++ t) (p ++ s) → IsAtLeast (source ++ t) (source ++ s)
least_inside p s t source h less = h (key_cmp-front p t s ∙ sym (key_cmp-front source t s) ∙ less)

-- what an end below says above: with the same rest where it begins with the source, and else nothing
pub data IsRaised (p source : List ℕ) : Option (List ℕ) → Option (List ℕ) → Type 0 where
  same_rest : (e : List ℕ) → IsRaised p source (Some (source ++ e)) (Some (p ++ e))
  past_all : (e : List ℕ) → (Begins e source → ⊥) → IsRaised p source (Some e) None
  no_end : IsRaised p source None None

pub raised_end : (p s source : List ℕ) (most : ℕ) (end new : Option (List ℕ)) → IsRaised p source end new → IsEnd (source ++ s) most end → IsEnd (p ++ s) (length p + most) new
raised_end p s source most (Some _) (Some _) (same_rest e) h = record {
  above = key_cmp-front p s e ∙ sym (key_cmp-front source s e) ∙ h.above;
  short = (let a : length (source ++ e) ≤ most = h.short in let b : length (source ++ e) ≡ length source + length e = length-append source e in
      let c : length (p ++ e) ≡ length p + length e = length-append p e in omega arith);
}
raised_end p s source most (Some _) None (past_all e other) h = record { above = tt; short = tt }
raised_end p s source most None (Some _) x5 h = elim x5 [ ]
raised_end p s source most None None no_end h = record { above = tt; short = tt }

pub raised_inside : (p s t source : List ℕ) (most : ℕ) (end new : Option (List ℕ)) → IsRaised p source end new → IsEnd (source ++ s) most end → InRange (p ++ s) new (p ++ t) → InRange (source ++ s) end (source ++ t)
raised_inside p s t source most (Some _) (Some _) (same_rest e) h within = end_inside p s t source e within
raised_inside p s t source most (Some _) None (past_all e other) h within = (least_inside p s t source within.0, above_prefix source s t e h.above other)
raised_inside p s t source most None (Some _) x7 h within = elim x7 [ ]
raised_inside p s t source most None None no_end h within = (least_inside p s t source within.0, tt)

-- the same of keys that are cut and not joined
pub end_above_end : (key source : List ℕ) (lift most : ℕ) (end new : Option (List ℕ)) → lift ≤ length key → IsRaised (take lift key) source end new → IsEnd (source ++ drop lift key) most end → IsEnd key (lift + most) new
end_above_end key source lift most end new long raised h =
    subst (λ (n : ℕ). IsEnd key (n + most) new) (length-take lift key long)
    (subst (λ (k : List ℕ). IsEnd k (length (take lift key) + most) new) (take-append-drop lift key) (raised_end (take lift key) (drop lift key) source most end new raised h))

pub end_above_inside : (key source : List ℕ) (lift most : ℕ) (end new : Option (List ℕ)) (k : List ℕ) → lift ≤ length key → IsRaised (take lift key) source end new → IsEnd (source ++ drop lift key) most end
    → Begins k (take lift key) → InRange key new k → InRange (source ++ drop lift key) end (source ++ drop lift k)
end_above_inside key source lift most end new k long raised h begins within =
    let split : k ≡ take lift key ++ drop lift k = begins_split k (take lift key) begins ∙ ap (λ (n : ℕ). take lift key ++ drop n k) (length-take lift key long) in
    raised_inside (take lift key) (drop lift key) (drop lift k) source most end new raised h
    (subst (λ (l : List ℕ). InRange l new (take lift key ++ drop lift k)) (sym (take-append-drop lift key)) (subst (λ (l : List ℕ). InRange key new l) split within))

-- ---- the lesser of two ends

pub one_of_two : {R : Type 0} (cmp : R → R → Ordering) (a b least : R) → least ≡ ord_min cmp a b → (least ≡ a) ⊎ (least ≡ b)
one_of_two cmp a b least e =
    elim (is_lt (cmp b a)) as (λ t. least ≡ cond t b a → (least ≡ a) ⊎ (least ≡ b)) [
      | true ↦ λ h. inr h
      | false ↦ λ h. inl h
    ] e

pub lesser_end : (lo : List ℕ) (most : ℕ) (a b least : Option (List ℕ)) → (least ≡ a) ⊎ (least ≡ b) → IsEnd lo most a → IsEnd lo most b → IsEnd lo most least
lesser_end lo most a b least one h i =
    elim one [
      | inl same ↦ subst (λ (e : Option (List ℕ)). IsEnd lo most e) (sym same) h
      | inr same ↦ subst (λ (e : Option (List ℕ)). IsEnd lo most e) (sym same) i
    ]

-- a later limit does as well
pub end_weaker : (lo : List ℕ) (few more : ℕ) (end : Option (List ℕ)) → few ≤ more → IsEnd lo few end → IsEnd lo more end
end_weaker lo few more None le h = record { above = tt; short = tt }
end_weaker lo few more (Some e) le h = record { above = h.above; short = (let a : length e ≤ few = h.short in omega arith) }

-- ---- messages

pub first_is : (m : Message) → first_key m ≡ key_of m
first_is (Put key value) = refl
first_is (Del key) = refl
first_is (Patch key off bytes) = refl
first_is (Cut prefix from) = refl
first_is (Goto prefix source child) = refl

first_short : (m : Message) → IsMessage m → length (first_key m) ≤ key_limit
first_short (Put key value) h = h.0
first_short (Del key) h = h
first_short (Patch key off bytes) h = h.0
first_short (Cut prefix from) h = (let e : length (prefix ++ from) ≡ length prefix + length from = length-append prefix from in omega arith)
first_short (Goto prefix source child) h = h.0

-- a message that can't change the first key of a range, but another one of it
pub record CanLater (m : Message) (lo : List ℕ) (end : Option (List ℕ)) (first : List ℕ) : Type 0 where
  pub message : IsMessage m
  pub other : touches m lo ≡ false
  pub can : CanTouch m lo end
  pub first_is : first ≡ first_key m

-- a key that isn't above another is below what that is below
below_from_least : (a k e : List ℕ) → IsAtLeast k a → IsBelow k e → IsBelow a e
below_from_least a k e least below =
    elim (below_or_same a k least) [
      | inl less ↦ total.trans a k e less below
      | inr same ↦ subst (λ (l : List ℕ). IsBelow l e) (sym same) below
    ]

below_end_from : (a k : List ℕ) (end : Option (List ℕ)) → IsAtLeast k a → IsBelowEnd k end → IsBelowEnd a end
below_end_from a k None least below = tt
below_end_from a k (Some e) least below = below_from_least a k e least below

first_at_least : (m : Message) (lo k : List ℕ) → touches m lo ≡ false → touches m k ≡ true → IsAtLeast k lo → IsAtLeast (key_of m) lo
first_at_least m lo k other changes least less = not_both (touched_between m k lo changes (least_back (key_of m) lo less) least) other

later_within : (m : Message) (lo : List ℕ) (end : Option (List ℕ)) (first : List ℕ) → CanLater m lo end first → InRange lo end first
later_within m lo end first h =
    subst (λ (k : List ℕ). InRange lo end k) (sym (h.first_is ∙ first_is m))
    (first_at_least m lo h.can.0 h.other h.can.2 h.can.1.0, below_end_from (key_of m) h.can.0 end (touched_first m h.can.0 h.can.2) h.can.1.1)

later_above : (m : Message) (lo : List ℕ) (end : Option (List ℕ)) (first : List ℕ) → CanLater m lo end first → IsBelow lo first
later_above m lo end first h =
    elim (below_or_same lo first (later_within m lo end first h).0) [
      | inl below ↦ below
      | inr same ↦ absurd (not_both (subst (λ (k : List ℕ). touches m k ≡ true) (sym (same ∙ h.first_is ∙ first_is m)) (key_of-touched m)) h.other)
    ]

pub later_end : (m : Message) (lo : List ℕ) (end : Option (List ℕ)) (first : List ℕ) → CanLater m lo end first → IsEnd lo end_limit (Some first)
later_end m lo end first h = record {
  above = later_above m lo end first h;
  short = (let a : length (first_key m) ≤ key_limit = first_short m h.message in let e : length first ≡ length (first_key m) = ap (λ (l : List ℕ). length l) h.first_is in omega arith);
}

pub below_within : (k first : List ℕ) (end : Option (List ℕ)) → IsBelow k first → IsBelowEnd first end → IsBelowEnd k end
below_within k first None below within = tt
below_within k first (Some e) below within = total.trans k first e below within

pub later_bound : (m : Message) (lo : List ℕ) (end : Option (List ℕ)) (first : List ℕ) → CanLater m lo end first → IsWithin (Some first) end
later_bound m lo end first h k below = below_within k first end below (later_within m lo end first h).1

pub later_untouched : (m : Message) (lo : List ℕ) (end : Option (List ℕ)) (first : List ℕ) → CanLater m lo end first → (k : List ℕ) → InRange lo (Some first) k → touches m k ≡ false
later_untouched m lo end first h k within =
    elim (cases_Bool (touches m k)) [
      | inl changes ↦ absurd (touched_first m k changes (subst (λ (l : List ℕ). IsBelow k l) (h.first_is ∙ first_is m) within.1))
      | inr no_change ↦ no_change
    ]

-- and one that can change none of it
pub none_untouched : (m : Message) (lo : List ℕ) (end : Option (List ℕ)) → (CanTouch m lo end → ⊥) → (k : List ℕ) → InRange lo end k → touches m k ≡ false
none_untouched m lo end cannot k within =
    elim (cases_Bool (touches m k)) [
      | inl changes ↦ absurd (cannot (k, within, changes))
      | inr no_change ↦ no_change
    ]

-- ---- the keys of a range that begin with a prefix

-- the lesser end of a range and of the keys that begin with a prefix
pub record IsPrefixEnd (prefix lo : List ℕ) (end past least : Option (List ℕ)) : Type 0 where
  pub short : length prefix ≤ key_limit
  pub lo_is : IsKey lo
  pub begins : Begins lo prefix
  pub own : IsEnd lo end_limit end
  pub range : IsPrefixRange prefix past
  pub past_short : IfSome past (λ key. length key ≤ length prefix)
  pub below : (k : List ℕ) → IsBelowEnd k least ↔ (IsBelowEnd k end × IsBelowEnd k past)
  pub one : (least ≡ end) ⊎ (least ≡ past)

past_end : (prefix lo : List ℕ) (past : Option (List ℕ)) → length prefix ≤ key_limit → IsBelowEnd lo past → IfSome past (λ key. length key ≤ length prefix) → IsEnd lo end_limit past
past_end prefix lo None short above past_short = record { above = above; short = tt }
past_end prefix lo (Some e) short above past_short = record { above = above; short = (let a : length e ≤ length prefix = past_short in omega arith) }

pub prefix_end : (prefix lo : List ℕ) (end past least : Option (List ℕ)) → IsPrefixEnd prefix lo end past least → IsEnd lo end_limit least
prefix_end prefix lo end past least h =
    lesser_end lo end_limit end past least h.one h.own (past_end prefix lo past h.short (h.range.inside lo h.lo_is h.begins).1 h.past_short)

pub prefix_end_within : (prefix lo : List ℕ) (end past least : Option (List ℕ)) → IsPrefixEnd prefix lo end past least → IsWithin least end
prefix_end_within prefix lo end past least h k below = ((h.below k).0 below).0

-- a key that is at least one that begins with the prefix, and below the end of those, begins with it
pub prefix_end_begins : (prefix lo : List ℕ) (end past least : Option (List ℕ)) → IsPrefixEnd prefix lo end past least → (k : List ℕ) → IsKey k → InRange lo least k → Begins k prefix
prefix_end_begins prefix lo end past least h k is_k within =
    h.range.only k is_k (least_trans k lo prefix within.0 (h.range.inside lo h.lo_is h.begins).0, ((h.below k).0 within.1).1)

-- ---- what an end below says above, as it is computed

pub raised_here : (p source e new : List ℕ) → Begins e source → new ≡ p ++ drop (length source) e → IsRaised p source (Some e) (Some new)
raised_here p source e new begins is =
    subst (λ (x : List ℕ). IsRaised p source (Some x) (Some new)) (sym (begins_split e source begins))
    (subst (λ (y : List ℕ). IsRaised p source (Some (source ++ drop (length source) e)) (Some y)) (sym is) (same_rest (drop (length source) e)))
