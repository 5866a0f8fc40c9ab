-- Which keys a message can change, in the order of keys.
use Rattle.std.proofs.Common.{◌≡◌, ◌↔◌, ℕ, Bool, true, false, not, List, [], ◌∷◌, ◌++◌, refl, sym, ap, subst, ◌∙◌, Option, None, Some, inl, inr, IsTrue, ◌⊎◌, Less}
use Rattle.std.specs.Ordering.{is_lt}
use Rattle.std.proofs.lemmas.Cmp.{nat_list_cmp_total as total}
use Rattle.std.proofs.lemmas.List.{append-nil}
use Rattle.std.proofs.lemmas.Bool.{and_parts, and_from, cases_Bool, cases_order}
use Rattle.bd_keys.specs.Keys.{key_cmp, IsBelow, IsBelowEnd, IsAtLeast, InRange}
use Rattle.bd_keys.proofs.Order.{first_less, first_same, not_below_itself, below_from, key_cmp-front}
use Rattle.bd_message.specs.declared.message.Message.{Message}
use Rattle.bd_message.specs.declared.message.Message.TheVariants.{Put, Del, Patch, Cut, Goto}
use Rattle.bd_message.specs.Effect.{same_key, begins, rest, is_cut}
use Rattle.bd_message.proofs.Finds.{same_key-true, same_key-refl, begins-is, begins-append, not_both}
use Rattle.bd_message.proofs.Prefixes.{rest-append, least_nil}
use Rattle.bd_node.specs.Touching.{touches, CanTouch}
use Rattle.bd_node.specs.Index.{is_point, own_key}
use Rattle.bd_node.proofs.Edges.{lt_is, lt_isnt, not_less_lt}
use Rattle.bd_node.proofs.Indexing.{point_touches, touches_point}
use Rattle.bd_node.proofs.Appending.{key_of, key_of-touched}

-- ---- keys that begin alike

-- a key between two that begin with a prefix begins with it
pub between : (p x y f : List ℕ) → IsAtLeast f (p ++ x) → IsAtLeast (p ++ y) f → (z : List ℕ) × (f ≡ p ++ z) × IsAtLeast z x
between [] x y f least most = (f, refl, least)
between (b ∷ p) x y [] least most = absurd (least refl)
between (b ∷ p) x y (d ∷ f) least most =
    elim (cases_order d b) [
      | inl e ↦
          let least_b : IsAtLeast (b ∷ f) (b ∷ (p ++ x)) = subst (λ (a : ℕ). IsAtLeast (a ∷ f) (b ∷ (p ++ x))) e least in
          let most_b : IsAtLeast (b ∷ (p ++ y)) (b ∷ f) = subst (λ (a : ℕ). IsAtLeast (b ∷ (p ++ y)) (a ∷ f)) e most in
          let found = between p x y f (λ less. least_b (first_same b f (p ++ x) ∙ less)) (λ less. most_b (first_same b (p ++ y) f ∙ less)) in
          (found.0, ap (λ (l : List ℕ). d ∷ l) found.1 ∙ ap (λ (a : ℕ). a ∷ (p ++ found.0)) e, found.2)
      | inr o ↦ elim o [
        | inl lt ↦ absurd (least (first_less d b f (p ++ x) lt))
        | inr gt ↦ absurd (most (first_less b d (p ++ y) f gt))
      ]
    ]

-- ---- what a cut takes

not_true : (b : Bool) → not b ≡ true → b ≡ false
not_true true h = cc
not_true false h = refl

cut_least : (p x k : List ℕ) → is_cut p x k ≡ true → IsAtLeast (rest p k) x
cut_least p x k h less = lt_isnt (key_cmp (rest p k) x) (not_true _ (and_parts _ _ h).1) less

cut_after : (p x z : List ℕ) → IsAtLeast z x → is_cut p x (p ++ z) ≡ true
cut_after p x z least =
    and_from _ _ (begins-append p z)
    (ap (λ (r : List ℕ). not (is_lt (key_cmp r x))) (rest-append p z) ∙ ap not (not_less_lt (key_cmp z x) least))

pub cut_first : (p x k : List ℕ) → is_cut p x k ≡ true → IsAtLeast k (p ++ x)
cut_first p x k h =
    subst (λ (l : List ℕ). IsAtLeast l (p ++ x)) (sym (begins-is k p (and_parts _ _ h).0))
    (λ less. cut_least p x k h (sym (key_cmp-front p (rest p k) x) ∙ less))

cut_between : (p x k f : List ℕ) → is_cut p x k ≡ true → IsAtLeast f (p ++ x) → IsAtLeast k f → is_cut p x f ≡ true
cut_between p x k f h least most =
    let found = between p x (rest p k) f least (subst (λ (l : List ℕ). IsAtLeast l f) (begins-is k p (and_parts _ _ h).0) most) in
    subst (λ (l : List ℕ). is_cut p x l ≡ true) (sym found.1) (cut_after p x found.0 found.2)

-- ---- the keys that begin with a prefix

begins_cut : (p k : List ℕ) → begins k p ≡ true → is_cut p [] k ≡ true
begins_cut p k h = and_from _ _ h (ap not (not_less_lt (key_cmp (rest p k) []) (least_nil (rest p k))))

-- ---- the same key

-- a key is below what it is followed by
pub below_longer : (key : List ℕ) (b : ℕ) (z : List ℕ) → IsBelow key (key ++ b ∷ z)
below_longer [] b z = refl
below_longer (c ∷ key) b z = first_same c key (key ++ b ∷ z) ∙ below_longer key b z

equal_key : (key k f : List ℕ) → same_key k key ≡ true → IsAtLeast f key → IsAtLeast k f → same_key f key ≡ true
equal_key key k f h least most =
    let at_key : IsAtLeast key f = subst (λ (l : List ℕ). IsAtLeast l f) (same_key-true k key h) most in
    let found = between key [] [] f (subst (λ (l : List ℕ). IsAtLeast f l) (sym (append-nil key)) least) (subst (λ (l : List ℕ). IsAtLeast l f) (sym (append-nil key)) at_key) in
    elim found.0 as (λ z. f ≡ key ++ z → same_key f key ≡ true) [
      | [] ↦ λ e. subst (λ (l : List ℕ). same_key l key ≡ true) (sym (e ∙ append-nil key)) (same_key-refl key)
      | b ∷ z ↦ λ e. absurd (at_key (subst (λ (l : List ℕ). key_cmp key l ≡ Less) (sym e) (below_longer key b z)))
    ] found.1

-- ---- the keys that a message can change are all those from its first one up to some end

pub touched_first : (m : Message) (k : List ℕ) → touches m k ≡ true → IsAtLeast k (key_of m)
touched_first (Put key value) k h = subst (λ (l : List ℕ). IsAtLeast l key) (sym (same_key-true k key h)) (not_below_itself key)
touched_first (Del key) k h = subst (λ (l : List ℕ). IsAtLeast l key) (sym (same_key-true k key h)) (not_below_itself key)
touched_first (Patch key off bytes) k h = subst (λ (l : List ℕ). IsAtLeast l key) (sym (same_key-true k key h)) (not_below_itself key)
touched_first (Cut prefix from) k h = cut_first prefix from k h
touched_first (Goto prefix source child) k h =
    subst (λ (l : List ℕ). IsAtLeast k l) (append-nil prefix) (cut_first prefix [] k (begins_cut prefix k h))

pub touched_between : (m : Message) (k f : List ℕ) → touches m k ≡ true → IsAtLeast f (key_of m) → IsAtLeast k f → touches m f ≡ true
touched_between (Put key value) k f h least most = equal_key key k f h least most
touched_between (Del key) k f h least most = equal_key key k f h least most
touched_between (Patch key off bytes) k f h least most = equal_key key k f h least most
touched_between (Cut prefix from) k f h least most = cut_between prefix from k f h least most
touched_between (Goto prefix source child) k f h least most =
    (and_parts _ _ (cut_between prefix [] k f (begins_cut prefix k h) (subst (λ (l : List ℕ). IsAtLeast f l) (sym (append-nil prefix)) least) most)).0

-- ---- the keys of a range that a message can change

-- what isn't above a key is below what the key is below
pub not_above : (a k hi : List ℕ) → IsAtLeast k a → IsBelow k hi → IsBelow a hi
not_above a k hi least below =
    elim (cases_Bool (is_lt (key_cmp a hi))) [
      | inl less ↦ lt_is (key_cmp a hi) less
      | inr more ↦ absurd (least (below_from k hi a below (λ less. lt_isnt (key_cmp a hi) more less)))
    ]

pub not_above_end : (a k : List ℕ) (hi : Option (List ℕ)) → IsAtLeast k a → IsBelowEnd k hi → IsBelowEnd a hi
not_above_end a k None least below = tt
not_above_end a k (Some hi) least below = not_above a k hi least below

-- of two keys one isn't below the other
pub least_back : (a b : List ℕ) → IsBelow a b → IsAtLeast b a
least_back a b below back = not_below_itself a (total.trans a b a below back)

touched_in : (m : Message) (lo : List ℕ) (hi : Option (List ℕ)) → CanTouch m lo hi → (touches m lo ≡ true) ⊎ InRange lo hi (key_of m)
touched_in m lo hi can =
    elim (cases_Bool (is_lt (key_cmp (key_of m) lo))) [
      | inl less ↦ inl (touched_between m can.0 lo can.2 (least_back (key_of m) lo (lt_is (key_cmp (key_of m) lo) less)) can.1.0)
      | inr more ↦ inr ((λ less. lt_isnt (key_cmp (key_of m) lo) more less), not_above_end (key_of m) can.0 hi (touched_first m can.0 can.2) can.1.1)
    ]

pub touched_at_least : (m : Message) (lo : List ℕ) (hi : Option (List ℕ)) (r : Bool) → IsBelowEnd lo hi → r ≡ true → r ≡ touches m lo → IsTrue r ↔ CanTouch m lo hi
touched_at_least m lo hi r below holds is = ((λ t. (lo, (not_below_itself lo, below), sym is ∙ holds)), λ can. holds)

pub touched_within : (m : Message) (lo : List ℕ) (hi : Option (List ℕ)) (t r : Bool) (first : List ℕ) → t ≡ false → t ≡ touches m lo → first ≡ key_of m → (IsTrue r ↔ InRange lo hi first) → IsTrue r ↔ CanTouch m lo hi
touched_within m lo hi t r first other is same within = (
  (λ holds. (key_of m, subst (λ (k : List ℕ). InRange lo hi k) same (within.0 holds), key_of-touched m)),
  (λ can. elim (touched_in m lo hi can) [
    | inl here ↦ absurd (not_both here (sym is ∙ other))
    | inr inside ↦ within.1 (subst (λ (k : List ℕ). InRange lo hi k) (sym same) inside)
  ]),
)

pub first_of_cut : (m : Message) (prefix from p f : List ℕ) → m ≡ Cut prefix from → p ≡ prefix → f ≡ from → p ++ f ≡ key_of m
first_of_cut m prefix from p f e e1 e2 = ap (λ a. a ++ f) e1 ∙ ap (λ b. prefix ++ b) e2 ∙ sym (ap key_of e)

pub first_of_goto : (m : Message) (prefix source : List ℕ) (child : ℕ) (p : List ℕ) → m ≡ Goto prefix source child → p ≡ prefix → p ≡ key_of m
first_of_goto m prefix source child p e e1 = e1 ∙ sym (ap key_of e)

-- ---- messages on one key

-- a message on a key can change what stands at one of a range's keys where its own is one
pub point_can : (m : Message) (k lo : List ℕ) (hi : Option (List ℕ)) (r : Bool) → is_point m ≡ true → k ≡ own_key m → (IsTrue r ↔ InRange lo hi k) → IsTrue r ↔ CanTouch m lo hi
point_can m k lo hi r point is h = (
  (λ t. (k, h.0 t, point_touches (Some m) k point (sym is))),
  (λ can. h.1 (subst (λ (l : List ℕ). InRange lo hi l) (sym (is ∙ touches_point (Some m) can.0 point can.2)) can.1)),
)

-- what is no Cut and no Goto is on one key
pub point_else : (m : Message) → ((prefix from : List ℕ) → m ≡ Cut prefix from → ⊥) → ((prefix source : List ℕ) (child : ℕ) → m ≡ Goto prefix source child → ⊥) → is_point m ≡ true
point_else (Put key value) cut goto = refl
point_else (Del key) cut goto = refl
point_else (Patch key off bytes) cut goto = refl
point_else (Cut prefix from) cut goto = absurd (cut prefix from refl)
point_else (Goto prefix source child) cut goto = absurd (goto prefix source child refl)
