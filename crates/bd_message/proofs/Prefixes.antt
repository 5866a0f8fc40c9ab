-- Keys that begin alike.
use Rattle.std.proofs.Common.{◌≡◌, ℕ, Bool, true, false, not, ◌&&◌, List, [], ◌∷◌, ◌++◌, length, ◌≤◌, refl, sym, ap, subst, ◌∙◌, inl, inr, ◌⊎◌, arith, length-drop, append_assoc}
use Rattle.std.specs.Ordering.{is_lt}
use Rattle.std.specs.Cmp.{unsigned_Decides}
use Rattle.std.proofs.lemmas.List.{append-nil}
use Rattle.std.proofs.lemmas.Bool.{cases_Bool, cases_order}
use Rattle.bd_keys.specs.Keys.{key_cmp, IsAtLeast}
use Rattle.bd_keys.proofs.Order.{first_less, first_same, first_more, key_cmp-front}
use Rattle.bd_message.specs.Effect.{same_key, begins, rest, is_cut}
use Rattle.bd_message.proofs.Finds.{same_key-true, begins-is, begins-append, not_both}

-- ---- the order

pub joined_begins : (front back key : List ℕ) → begins key front ≡ true → key_cmp (front ++ back) key ≡ key_cmp back (rest front key)
joined_begins front back key h =
    subst (λ (k : List ℕ). key_cmp (front ++ back) k ≡ key_cmp back (rest front key)) (sym (begins-is key front h)) (key_cmp-front front back (rest front key))

pub begins_rest : (a : ℕ) (key front : List ℕ) → begins (a ∷ key) (a ∷ front) ≡ begins key front
begins_rest a key front = rw ((unsigned_Decides a a).1 refl)

pub joined_other : (front back key : List ℕ) → begins key front ≡ false → key_cmp (front ++ back) key ≡ key_cmp front key
joined_other [] back key h = absurd (not_both refl h)
joined_other (a ∷ front) back [] h = refl
joined_other (a ∷ front) back (c ∷ key) h =
    elim (cases_order a c) [
      | inl e ↦
          let at_a : begins (a ∷ key) (a ∷ front) ≡ false = subst (λ (d : ℕ). begins (d ∷ key) (a ∷ front) ≡ false) (sym e) h in
          let same : key_cmp (a ∷ (front ++ back)) (a ∷ key) ≡ key_cmp (a ∷ front) (a ∷ key) =
          first_same a (front ++ back) key ∙ joined_other front back key (sym (begins_rest a key front) ∙ at_a) ∙ sym (first_same a front key) in
          subst (λ (d : ℕ). key_cmp (a ∷ (front ++ back)) (d ∷ key) ≡ key_cmp (a ∷ front) (d ∷ key)) e same
      | inr o ↦ elim o [
        | inl lt ↦ first_less a c (front ++ back) key lt ∙ sym (first_less a c front key lt)
        | inr gt ↦ first_more a c (front ++ back) key gt ∙ sym (first_more a c front key gt)
      ]
    ]

pub least_nil : (k : List ℕ) → IsAtLeast k []
least_nil [] h = cc
least_nil (a ∷ k) h = cc

-- ---- what follows

pub rest-append : (p x : List ℕ) → rest p (p ++ x) ≡ x
rest-append [] x = refl
rest-append (b ∷ p) x = rest-append p x

pub rest-itself : (p : List ℕ) → rest p p ≡ []
rest-itself [] = refl
rest-itself (b ∷ p) = rest-itself p

pub rest_shorter : (s k : List ℕ) → length (rest s k) ≤ length k
rest_shorter s k = omega (arith, length-drop (length s) k)

pub begins_itself : (k : List ℕ) → begins k k ≡ true
begins_itself k = subst (λ (l : List ℕ). begins l k ≡ true) (append-nil k) (begins-append k [])

-- ---- after the same bytes

same_key-both : (s k l : List ℕ) → same_key (s ++ k) (s ++ l) ≡ same_key k l
same_key-both [] k l = refl
same_key-both (b ∷ s) k l = rw ((unsigned_Decides b b).1 refl) (same_key-both s k l)

pub begins-both : (s k p : List ℕ) → begins (s ++ k) (s ++ p) ≡ begins k p
begins-both [] k p = refl
begins-both (b ∷ s) k p = begins_rest b (s ++ k) (s ++ p) ∙ begins-both s k p

pub rest-both : (s k p : List ℕ) → rest (s ++ p) (s ++ k) ≡ rest p k
rest-both [] k p = refl
rest-both (b ∷ s) k p = rest-both s k p

pub is_cut-both : (s p x k : List ℕ) → is_cut (s ++ p) x (s ++ k) ≡ is_cut p x k
is_cut-both s p x k =
    ap (λ (b : Bool). b && not (is_lt (key_cmp (rest (s ++ p) (s ++ k)) x))) (begins-both s k p)
    ∙ ap (λ (r : List ℕ). begins k p && not (is_lt (key_cmp r x))) (rest-both s k p)

-- of two beginnings of one key one begins with the other
pub one_begins : (s k p r : List ℕ) → s ++ k ≡ p ++ r → (begins p s ≡ true) ⊎ (begins s p ≡ true)
one_begins [] k p r e = inl refl
one_begins (b ∷ s) k [] r e = inr refl
one_begins (b ∷ s) k (c ∷ p) r e =
    let same : b ≡ c = cc in
    let more : s ++ k ≡ p ++ r = cc in
    elim (one_begins s k p r more) [
      | inl first ↦ inl (subst (λ (d : ℕ). begins (c ∷ p) (d ∷ s) ≡ true) (sym same) (begins_rest c p s ∙ first))
      | inr second ↦ inr (subst (λ (d : ℕ). begins (d ∷ s) (c ∷ p) ≡ true) (sym same) (begins_rest c s p ∙ second))
    ]

pub neither : (s p k : List ℕ) → begins p s ≡ false → begins s p ≡ false → begins (s ++ k) p ≡ false
neither s p k outside apart =
    elim (cases_Bool (begins (s ++ k) p)) [
      | inr other ↦ other
      | inl inside ↦ elim (one_begins s k p (rest p (s ++ k)) (begins-is (s ++ k) p inside)) [
        | inl first ↦ absurd (not_both first outside)
        | inr second ↦ absurd (not_both second apart)
      ]
    ]

-- ---- keys that begin with a prefix, and others

pub same_key-in : (s key k : List ℕ) → begins key s ≡ true → same_key (s ++ k) key ≡ same_key k (rest s key)
same_key-in s key k h = ap (λ (l : List ℕ). same_key (s ++ k) l) (begins-is key s h) ∙ same_key-both s k (rest s key)

pub same_key-apart : (s key k : List ℕ) → begins k s ≡ true → begins key s ≡ false → same_key k key ≡ false
same_key-apart s key k inside h =
    elim (cases_Bool (same_key k key)) [
      | inr other ↦ other
      | inl same ↦ absurd (not_both (subst (λ (l : List ℕ). begins l s ≡ true) (same_key-true k key same) inside) h)
    ]

pub same_key-out : (s key k : List ℕ) → begins key s ≡ false → same_key (s ++ k) key ≡ false
same_key-out s key k h = same_key-apart s key (s ++ k) (begins-append s k) h

-- what begins with more begins with less
pub begins-more : (k p s : List ℕ) → begins k p ≡ true → begins p s ≡ true → begins k s ≡ true
begins-more k p s h g =
    let is : k ≡ s ++ (rest s p ++ rest p k) = begins-is k p h ∙ ap (λ (l : List ℕ). l ++ rest p k) (begins-is p s g) ∙ append_assoc s (rest s p) (rest p k) in
    subst (λ (l : List ℕ). begins l s ≡ true) (sym is) (begins-append s (rest s p ++ rest p k))

-- ---- cuts

always : (k : List ℕ) → not (is_lt (key_cmp k [])) ≡ true
always [] = refl
always (b ∷ k) = refl

-- a cut from the empty key on takes all that begins with the prefix
pub is_cut-all : (prefix k : List ℕ) → is_cut prefix [] k ≡ begins k prefix
is_cut-all prefix k = by (begins k prefix)
  where
    by : (b : Bool) → (b && not (is_lt (key_cmp (rest prefix k) []))) ≡ b
    by true = always (rest prefix k)
    by false = refl
