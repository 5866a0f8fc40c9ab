-- The least key among those seen so far.
use Rattle.std.proofs.Common.{◌≡◌, ℕ, true, false, cond, take, length, get_or, ◌+◌, ◌<◌, List, [], ◌∷◌, ◌++◌, refl, sym, ap, subst, ◌∙◌, inl, inr, Option, None, Some, Less, Equal, IsSome, is_some}
use Rattle.std.specs.Prelude.{◌⊎◌}
use Rattle.std.specs.Option.{option_or}
use Rattle.std.specs.Ordering.{eq_by_cmp, is_eq}
use Rattle.std.specs.Cmp.{tied_itself}
use Rattle.std.proofs.lemmas.Cmp.{nat_list_cmp_total}
use Rattle.std.proofs.lemmas.List.{take_more}
use Rattle.bd_keys.specs.Keys.{key_cmp, IsAtLeast, Begins}
use Rattle.bd_message.specs.KeyMaps.{IsNext, IsFound}
use Rattle.bd_message.specs.Entries.{IsLesser}
use Rattle.bd_message.proofs.Finds.{Entry, found, find-both, ties_same, same_key-true}

-- one more entry has what was there
some_left : (a b : Option (List ℕ)) → IsSome a → IsSome (option_or a b)
some_left (Some v) b h = refl
some_left None b h = cc

some_right : (a b : Option (List ℕ)) → IsSome b → IsSome (option_or a b)
some_right (Some v) b h = refl
some_right None b h = h

some_either : (a b : Option (List ℕ)) → IsSome (option_or a b) → IsSome a ⊎ IsSome b
some_either (Some v) b h = inl refl
some_either None b h = inr h

pub found_before : (k : List ℕ) (es : List Entry) (e : Entry) → IsSome (found k es) → IsSome (found k (es ++ e ∷ []))
found_before k es e h = subst IsSome (sym (find-both k es (e ∷ []))) (some_left (found k es) (found k (e ∷ [])) h)

found_alone : (e : Entry) → IsSome (found e.0 (e ∷ []))
found_alone e = ap (λ o. is_some (cond (is_eq o) (Some e.1) None)) (tied_itself nat_list_cmp_total e.0)

pub found_last : (es : List Entry) (e : Entry) → IsSome (found e.0 (es ++ e ∷ []))
found_last es e = subst IsSome (sym (find-both e.0 es (e ∷ []))) (some_right (found e.0 es) (found e.0 (e ∷ [])) (found_alone e))

no_some : IsSome {T = List ℕ} None → ⊥
no_some h = cc

-- and no key but its own besides
alone_is : (k : List ℕ) (e : Entry) → IsSome (found k (e ∷ [])) → k ≡ e.0
alone_is k e h =
    elim (eq_by_cmp key_cmp k e.0) as (λ b. eq_by_cmp key_cmp k e.0 ≡ b → IsSome (cond b (Some e.1) None) → k ≡ e.0) [
      | true ↦ λ t _. same_key-true k e.0 (sym (ties_same k e.0) ∙ t)
      | false ↦ λ t n. absurd (no_some n)
    ] refl h

found_either : (k : List ℕ) (es : List Entry) (e : Entry) → IsSome (found k (es ++ e ∷ [])) → IsSome (found k es) ⊎ (k ≡ e.0)
found_either k es e h =
    elim (some_either (found k es) (found k (e ∷ [])) (subst IsSome (find-both k es (e ∷ [])) h)) [
      | inl before ↦ inl before
      | inr last ↦ inr (alone_is k e last)
    ]

-- the keys that are asked for stay the same where the last one isn't
asked_before : (from within k : List ℕ) (es : List Entry) (e : Entry) → ¬ (IsAtLeast e.0 from × Begins e.0 within) → IsFound (λ l. found l (es ++ e ∷ [])) from within k → IsFound (λ l. found l es) from within k
asked_before from within k es e other (some, after, begins) =
    elim (found_either k es e some) [
      | inl before ↦ (before, after, begins)
      | inr last ↦ absurd (other (subst (λ (l : List ℕ). IsAtLeast l from) last after, subst (λ (l : List ℕ). Begins l within) last begins))
    ]

pub next_passed : (from within : List ℕ) (es : List Entry) (e : Entry) (least : Option (List ℕ)) → ¬ (IsAtLeast e.0 from × Begins e.0 within)
    → IsNext (λ l. found l es) from within least → IsNext (λ l. found l (es ++ e ∷ [])) from within least
next_passed from within es e None other none = λ l asked. none l (asked_before from within l es e other asked)
next_passed from within es e (Some least) other ((some, after, begins), first) =
    ((found_before least es e some, after, begins), λ l asked. first l (asked_before from within l es e other asked))

different : Less ≡ Equal → ⊥
different e = cc

-- no key is below itself
from_itself : (k : List ℕ) → IsAtLeast k k
from_itself k less = different (sym less ∙ tied_itself nat_list_cmp_total k)

pub next_taken : (from within : List ℕ) (es : List Entry) (e : Entry) (least : Option (List ℕ)) (lesser : List ℕ) → IsAtLeast e.0 from → Begins e.0 within → IsLesser least e.0 lesser
    → IsNext (λ l. found l es) from within least → IsNext (λ l. found l (es ++ e ∷ [])) from within (Some lesser)
next_taken from within es e None lesser after begins is none =
    subst (λ (k : List ℕ). IsNext (λ l. found l (es ++ e ∷ [])) from within (Some k)) (sym is) (
      (found_last es e, after, begins),
      λ l asked. elim (found_either l es e asked.0) [
        | inl before ↦ absurd (none l (before, asked.1, asked.2))
        | inr last ↦ subst (λ (k : List ℕ). IsAtLeast k e.0) (sym last) (from_itself e.0)
      ],
    )
next_taken from within es e (Some least) lesser after begins (inl (over, is)) ((some, later, inside), first) =
    subst (λ (k : List ℕ). IsNext (λ l. found l (es ++ e ∷ [])) from within (Some k)) (sym is) (
      (found_before least es e some, later, inside),
      λ l asked. elim (found_either l es e asked.0) [
        | inl before ↦ first l (before, asked.1, asked.2)
        | inr last ↦ subst (λ (k : List ℕ). IsAtLeast k least) (sym last) over
      ],
    )
next_taken from within es e (Some least) lesser after begins (inr (under, is)) ((some, later, inside), first) =
    subst (λ (k : List ℕ). IsNext (λ l. found l (es ++ e ∷ [])) from within (Some k)) (sym is) (
      (found_last es e, after, begins),
      λ l asked. elim (found_either l es e asked.0) [
        | inl before ↦ λ less. first l (before, asked.1, asked.2) (nat_list_cmp_total.trans l e.0 least less under)
        | inr last ↦ subst (λ (k : List ℕ). IsAtLeast k e.0) (sym last) (from_itself e.0)
      ],
    )

-- one entry further in a list
one_more : (es : List Entry) (i : ℕ) (item : Entry) → i < length es → item ≡ get_or es i item → take i es ++ item ∷ [] ≡ take (i + 1) es
one_more es i item lt is = ap (λ (x : Entry). take i es ++ x ∷ []) is ∙ sym (take_more es i item lt)

pub step_passed : (from within : List ℕ) (es : List Entry) (i : ℕ) (item : Entry) (key : List ℕ) (least : Option (List ℕ)) → i < length es → item ≡ get_or es i item → key ≡ item.0
    → ¬ (IsAtLeast key from × Begins key within) → IsNext (λ l. found l (take i es)) from within least → IsNext (λ l. found l (take (i + 1) es)) from within least
step_passed from within es i item key least lt is key_is other next =
    subst (λ (xs : List Entry). IsNext (λ l. found l xs) from within least) (one_more es i item lt is)
    (next_passed from within (take i es) item least (subst (λ (k : List ℕ). ¬ (IsAtLeast k from × Begins k within)) key_is other) next)

pub step_taken : (from within : List ℕ) (es : List Entry) (i : ℕ) (item : Entry) (key again : List ℕ) (least : Option (List ℕ)) (lesser : List ℕ) → i < length es → item ≡ get_or es i item → key ≡ item.0 → again ≡ item.0
    → IsAtLeast key from × Begins key within → IsLesser least again lesser → IsNext (λ l. found l (take i es)) from within least → IsNext (λ l. found l (take (i + 1) es)) from within (Some lesser)
step_taken from within es i item key again least lesser lt is key_is again_is asked which next =
    subst (λ (xs : List Entry). IsNext (λ l. found l xs) from within (Some lesser)) (one_more es i item lt is)
    (let asked' = subst (λ (k : List ℕ). IsAtLeast k from × Begins k within) key_is asked in
    next_taken from within (take i es) item least lesser asked'.0 asked'.1 (subst (λ (k : List ℕ). IsLesser least k lesser) again_is which) next)
