-- What messages on the keys that begin with a prefix do to what follows it.
use Rattle.std.proofs.Common.{◌≡◌, ℕ, ◌+◌, ◌-◌, ◌≤◌, Bool, true, false, cond, not, ◌&&◌, List, [], ◌++◌, length, refl, sym, ap, subst, ◌∙◌, Option, None, Some, inl, inr, ◌⊎◌, arith, append_assoc, Ordering, Less, Equal, Greater}
use Rattle.std.specs.Prelude.{IfSome, nat_eq, ◌∷◌}
use Rattle.std.specs.Option.{option_to_list, option_map, unwrap_or}
use Rattle.std.specs.Ordering.{is_lt, ordering_reverse}
use Rattle.std.proofs.lemmas.List.{length-append}
use Rattle.std.proofs.lemmas.Bool.{cases_Bool, cond-true, cond-false}
use Rattle.std.proofs.lemmas.Bool.Decides.{nat_tests}
use Rattle.std.proofs.lemmas.Cmp.{nat_list_cmp_total as total}
use Rattle.bd_keys.specs.Edits.{overwritten}
use Rattle.bd_keys.specs.Keys.{key_cmp}
use Rattle.bd_limits.specs.Limits.{key_limit}
use Rattle.bd_message.specs.declared.message.Message.{Message}
use Rattle.bd_message.specs.declared.message.Message.TheVariants.{Put, Del, Patch, Cut, Goto}
use Rattle.bd_message.specs.Messages.{IsMessage, size}
use Rattle.bd_message.specs.Effect.{NodesAt, same_key, begins, rest, is_cut, act, acts}
use Rattle.bd_message.specs.Freeing.{stem, CanStrip, from_after, narrowed, restricted, stripped, freed, KeepsSource, source_of, source_after, CoversAll, is_apart}
use Rattle.bd_message.proofs.Finds.{tied, same_key-true, begins-is, begins-append, not_both}
use Rattle.bd_message.proofs.Prefixes.{joined_other, least_nil, rest-append, rest-itself, rest_shorter, begins_itself, begins-both, rest-both, is_cut-both, neither, same_key-in, same_key-out, begins-more}
use Rattle.bd_keys.proofs.Order.{key_cmp-front}

-- ---- the order

lt_is : (o : Ordering) → is_lt o ≡ true → o ≡ Less
lt_is Less h = refl
lt_is Equal h = cc
lt_is Greater h = cc

not_less : (o : Ordering) → (o ≡ Less → ⊥) → is_lt o ≡ false
not_less Less h = absurd (h refl)
not_less Equal h = refl
not_less Greater h = refl

greater_not : (a b : List ℕ) → key_cmp b a ≡ Less → is_lt (key_cmp a b) ≡ false
greater_not a b h = ap is_lt (total.antisymm a b ∙ ap ordering_reverse h)

not_equal_less : (o : Ordering) → (o ≡ Equal → ⊥) → is_lt (ordering_reverse o) ≡ false → is_lt o ≡ true
not_equal_less Less ne h = refl
not_equal_less Equal ne h = absurd (ne refl)
not_equal_less Greater ne h = cc

-- ---- without the prefix

pub stripped_effect : (below : NodesAt) (s : List ℕ) (m : Message) → CanStrip s m → (k : List ℕ) (old : Option (List ℕ)) → act below (stripped s m) k old ≡ act below m (s ++ k) old
stripped_effect below s (Put key value) can k old = ap (λ (b : Bool). cond b (Some value) old) (sym (same_key-in s key k can))
stripped_effect below s (Del key) can k old = ap (λ (b : Bool). cond b None old) (sym (same_key-in s key k can))
stripped_effect below s (Patch key off bytes) can k old = ap (λ (b : Bool). cond b (Some (overwritten (unwrap_or old []) off bytes)) old) (sym (same_key-in s key k can))
stripped_effect below s (Cut prefix from) can k old =
    ap (λ (b : Bool). cond b None old) (sym (ap (λ (l : List ℕ). is_cut l from (s ++ k)) (begins-is prefix s can) ∙ is_cut-both s (rest s prefix) from k))
stripped_effect below s (Goto prefix source child) can k old =
    let is : prefix ≡ s ++ rest s prefix = begins-is prefix s can in
    ap (λ (b : Bool). cond b (below child (source ++ rest (rest s prefix) k)) old) (sym (begins-both s k (rest s prefix)))
    ∙ ap (λ (r : List ℕ). cond (begins (s ++ k) (s ++ rest s prefix)) (below child (source ++ r)) old) (sym (rest-both s k (rest s prefix)))
    ∙ sym (ap (λ (p : List ℕ). cond (begins (s ++ k) p) (below child (source ++ rest p (s ++ k))) old) is)

-- ---- cuts of keys that begin with less

-- a cut of all that begins with what the prefix begins with
cut_within : (p t x k : List ℕ) → is_cut p x ((p ++ t) ++ k) ≡ not (is_lt (key_cmp (t ++ k) x))
cut_within p t x k =
    ap (λ (l : List ℕ). is_cut p x l) (append_assoc p t k)
    ∙ ap (λ (b : Bool). b && not (is_lt (key_cmp (rest p (p ++ (t ++ k))) x))) (begins-append p (t ++ k))
    ∙ ap (λ (r : List ℕ). not (is_lt (key_cmp r x))) (rest-append p (t ++ k))

cut_none : (p x k : List ℕ) → begins k p ≡ false → is_cut p x k ≡ false
cut_none p x k h = ap (λ (b : Bool). b && not (is_lt (key_cmp (rest p k) x))) h

-- a cut from where one begins after `t`
abbrev cut_of : List ℕ → Option (List ℕ) → Option Message
cut_of s o = option_map (stripped s) (option_map (λ f. Cut s f) o)

-- what a cut takes of all keys
whole_cut : (s x k : List ℕ) → is_cut (rest s s) x k ≡ not (is_lt (key_cmp k x))
whole_cut s x k = ap (λ (p : List ℕ). is_cut p x k) (rest-itself s)

after_effect : (below : NodesAt) (s t x k : List ℕ) (old : Option (List ℕ)) → acts below (option_to_list (cut_of s (from_after t x))) k old ≡ cond (not (is_lt (key_cmp (t ++ k) x))) None old
after_effect below s t x k old =
    elim (cases_Bool (begins x t)) [
      | inl inside ↦
          ap (λ (o : Option (List ℕ)). acts below (option_to_list (cut_of s o)) k old) (cond-true (begins x t) (Some (rest t x)) (cond (is_lt (key_cmp x t)) (Some []) None) inside)
          ∙ ap (λ (b : Bool). cond b None old) (whole_cut s (rest t x) k)
          ∙ ap (λ (o : Ordering). cond (not (is_lt o)) None old) (sym (ap (λ (l : List ℕ). key_cmp (t ++ k) l) (begins-is x t inside) ∙ key_cmp-front t k (rest t x)))
      | inr outside ↦
          ap (λ (o : Option (List ℕ)). acts below (option_to_list (cut_of s o)) k old) (cond-false (begins x t) (Some (rest t x)) (cond (is_lt (key_cmp x t)) (Some []) None) outside)
          ∙ elim (cases_Bool (is_lt (key_cmp x t))) [
            | inl less ↦
                ap (λ (o : Option (List ℕ)). acts below (option_to_list (cut_of s o)) k old) (cond-true (is_lt (key_cmp x t)) (Some []) None less)
                ∙ ap (λ (b : Bool). cond b None old) (whole_cut s [] k)
                ∙ ap (λ (b : Bool). cond (not b) None old) (not_less (key_cmp k []) (least_nil k))
                ∙ ap (λ (b : Bool). cond (not b) None old) (sym (ap is_lt (joined_other t k x outside) ∙ greater_not t x (lt_is (key_cmp x t) less)))
            | inr more ↦
                ap (λ (o : Option (List ℕ)). acts below (option_to_list (cut_of s o)) k old) (cond-false (is_lt (key_cmp x t)) (Some []) None more)
                ∙ ap (λ (b : Bool). cond (not b) None old)
                (sym (ap is_lt (joined_other t k x outside)
                ∙ not_equal_less (key_cmp t x) (λ same. not_both (subst (λ (l : List ℕ). begins l t ≡ true) (tied t x same) (begins_itself t)) outside) (ap is_lt (sym (total.antisymm x t)) ∙ more)))
          ]
    ]

-- ---- messages of keys that begin with less

narrowed_effect : (below : NodesAt) (s : List ℕ) (m : Message) → begins (stem m) s ≡ false → (k : List ℕ) (old : Option (List ℕ)) → acts below (option_to_list (option_map (stripped s) (narrowed s m))) k old ≡ act below m (s ++ k) old
narrowed_effect below s (Put key value) out k old = ap (λ (b : Bool). cond b (Some value) old) (sym (same_key-out s key k out))
narrowed_effect below s (Del key) out k old = ap (λ (b : Bool). cond b None old) (sym (same_key-out s key k out))
narrowed_effect below s (Patch key off bytes) out k old = ap (λ (b : Bool). cond b (Some (overwritten (unwrap_or old []) off bytes)) old) (sym (same_key-out s key k out))
narrowed_effect below s (Cut p x) out k old =
    elim (cases_Bool (begins s p)) [
      | inl within ↦
          ap (λ (o : Option Message). acts below (option_to_list (option_map (stripped s) o)) k old) (cond-true (begins s p) (option_map (λ f. Cut s f) (from_after (rest p s) x)) None within)
          ∙ after_effect below s (rest p s) x k old
          ∙ ap (λ (b : Bool). cond b None old) (sym (ap (λ (l : List ℕ). is_cut p x (l ++ k)) (begins-is s p within) ∙ cut_within p (rest p s) x k))
      | inr apart ↦
          ap (λ (o : Option Message). acts below (option_to_list (option_map (stripped s) o)) k old) (cond-false (begins s p) (option_map (λ f. Cut s f) (from_after (rest p s) x)) None apart)
          ∙ ap (λ (b : Bool). cond b None old) (sym (cut_none p x (s ++ k) (neither s p k out apart)))
    ]
narrowed_effect below s (Goto p source child) out k old =
    elim (cases_Bool (begins s p)) [
      | inl within ↦
          ap (λ (o : Option Message). acts below (option_to_list (option_map (stripped s) o)) k old) (cond-true (begins s p) (Some (Goto s (source ++ rest p s) child)) None within)
          ∙ ap (λ (r : List ℕ). act below (Goto r (source ++ rest p s) child) k old) (rest-itself s)
          ∙ ap (λ (l : List ℕ). below child l) (append_assoc source (rest p s) k)
          ∙ sym (ap (λ (l : List ℕ). act below (Goto p source child) l old) (ap (λ (l : List ℕ). l ++ k) (begins-is s p within) ∙ append_assoc p (rest p s) k)
          ∙ ap (λ (b : Bool). cond b (below child (source ++ rest p (p ++ (rest p s ++ k)))) old) (begins-append p (rest p s ++ k))
          ∙ ap (λ (l : List ℕ). below child (source ++ l)) (rest-append p (rest p s ++ k)))
      | inr apart ↦
          ap (λ (o : Option Message). acts below (option_to_list (option_map (stripped s) o)) k old) (cond-false (begins s p) (Some (Goto s (source ++ rest p s) child)) None apart)
          ∙ ap (λ (b : Bool). cond b (below child (source ++ rest p (s ++ k))) old) (sym (neither s p k out apart))
    ]

-- ---- each message

restricted_in : (s : List ℕ) (m : Message) → begins (stem m) s ≡ true → restricted s m ≡ Some m
restricted_in s m h = cond-true (begins (stem m) s) (Some m) (narrowed s m) h

restricted_out : (s : List ℕ) (m : Message) → begins (stem m) s ≡ false → restricted s m ≡ narrowed s m
restricted_out s m h = cond-false (begins (stem m) s) (Some m) (narrowed s m) h

pub freed_effect : (below : NodesAt) (s : List ℕ) (m : Message) (k : List ℕ) (old : Option (List ℕ)) → acts below (option_to_list (freed s m)) k old ≡ act below m (s ++ k) old
freed_effect below s m k old =
    elim (cases_Bool (begins (stem m) s)) [
      | inl inside ↦
          ap (λ (o : Option Message). acts below (option_to_list (option_map (stripped s) o)) k old) (restricted_in s m inside)
          ∙ stripped_effect below s m inside k old
      | inr outside ↦
          ap (λ (o : Option Message). acts below (option_to_list (option_map (stripped s) o)) k old) (restricted_out s m outside)
          ∙ narrowed_effect below s m outside k old
    ]

-- ---- what holds of the part

-- of each message of longer keys
if_narrowed : (Q : Message → Type 0) (s : List ℕ) (m : Message)
    → ((p x f : List ℕ) → m ≡ Cut p x → begins s p ≡ true → ((f ≡ rest (rest p s) x) × (begins x (rest p s) ≡ true)) ⊎ (f ≡ []) → Q (Cut s f))
    → ((p source : List ℕ) (child : ℕ) → m ≡ Goto p source child → begins s p ≡ true → Q (Goto s (source ++ rest p s) child))
    → IfSome (narrowed s m) Q
if_narrowed Q s (Put key value) f g = tt
if_narrowed Q s (Del key) f g = tt
if_narrowed Q s (Patch key off bytes) f g = tt
if_narrowed Q s (Cut p x) f g =
    elim (begins s p) as (λ b. begins s p ≡ b → IfSome (cond b (option_map (λ f. Cut s f) (from_after (rest p s) x)) None) Q) [
      | false ↦ λ _. tt
      | true ↦ λ within. elim (begins x (rest p s)) as (λ b. begins x (rest p s) ≡ b → IfSome (option_map (λ f. Cut s f) (cond b (Some (rest (rest p s) x)) (cond (is_lt (key_cmp x (rest p s))) (Some []) None))) Q) [
        | true ↦ λ inside. f p x (rest (rest p s) x) refl within (inl (refl, inside))
        | false ↦ λ outside. elim (is_lt (key_cmp x (rest p s))) as (λ b. IfSome (option_map (λ f. Cut s f) (cond b (Some []) None)) Q) [ true ↦ f p x [] refl within (inr refl) | false ↦ tt ]
      ] refl
    ] refl
if_narrowed Q s (Goto p source child) f g =
    elim (begins s p) as (λ b. begins s p ≡ b → IfSome (cond b (Some (Goto s (source ++ rest p s) child)) None) Q) [ true ↦ λ within. g p source child refl within | false ↦ λ _. tt ] refl

if_restricted : (Q : Message → Type 0) (s : List ℕ) (m : Message) → (begins (stem m) s ≡ true → Q m) → (begins (stem m) s ≡ false → IfSome (narrowed s m) Q) → IfSome (restricted s m) Q
if_restricted Q s m f g =
    elim (begins (stem m) s) as (λ b. begins (stem m) s ≡ b → IfSome (cond b (Some m) (narrowed s m)) Q) [ true ↦ f | false ↦ g ] refl

pub restricted_can : (s : List ℕ) (m : Message) → IfSome (restricted s m) (CanStrip s)
restricted_can s m =
    if_restricted (CanStrip s) s m (λ h. h) (λ h. if_narrowed (CanStrip s) s m (λ p x f is within any. begins_itself s) (λ p source child is within. begins_itself s))

-- ---- apart from the prefix

and_no : (b c : Bool) → c ≡ false → (b && c) ≡ false
and_no true c h = h
and_no false c h = refl

-- lists that are apart don't begin with one another
apart_both : (k l : List ℕ) → is_apart k l ≡ true → (begins k l ≡ false) × (begins l k ≡ false)
apart_both [] l h = absurd (not_both h refl)
apart_both (a ∷ k) [] h = absurd (not_both h refl)
apart_both (a ∷ k) (b ∷ l) h =
    elim (cases_Bool (nat_eq a b)) [
      | inl same ↦ (let rest_of = apart_both k l (sym (cond-true (nat_eq a b) (is_apart k l) true same) ∙ h) in
          (and_no (nat_eq b a) (begins k l) rest_of.0, and_no (nat_eq a b) (begins l k) rest_of.1))
      | inr other ↦ (let back : nat_eq b a ≡ false = grind (arith, nat_tests) in
          (ap (λ (c : Bool). c && begins k l) back, ap (λ (c : Bool). c && begins l k) other))
    ]

narrowed_apart : (s : List ℕ) (m : Message) → begins s (stem m) ≡ false → narrowed s m ≡ None
narrowed_apart s (Put key value) h = refl
narrowed_apart s (Del key) h = refl
narrowed_apart s (Patch key off bytes) h = refl
narrowed_apart s (Cut prefix from) h = cond-false (begins s prefix) (option_map (λ f. Cut s f) (from_after (rest prefix s) from)) None h
narrowed_apart s (Goto prefix source child) h = cond-false (begins s prefix) (Some (Goto s (source ++ rest prefix s) child)) None h

pub freed_apart : (s own : List ℕ) (m : Message) → own ≡ stem m → is_apart own s ≡ true → freed s m ≡ None
freed_apart s own m own_is h =
    let apart = apart_both (stem m) s (subst (λ (k : List ℕ). is_apart k s ≡ true) own_is h) in
    ap (λ (o : Option Message). option_map (stripped s) o) (cond-false (begins (stem m) s) (Some m) (narrowed s m) apart.0 ∙ narrowed_apart s m apart.1)

-- ---- the part, and elsewhere

-- a key doesn't begin with what begins with more than it does
begins_none : (s p k : List ℕ) → begins p s ≡ true → begins k s ≡ false → begins k p ≡ false
begins_none s p k can out =
    elim (cases_Bool (begins k p)) [
      | inr other ↦ other
      | inl inside ↦ absurd (not_both (begins-more k p s inside can) out)
    ]

same_none : (s key k : List ℕ) → begins key s ≡ true → begins k s ≡ false → same_key k key ≡ false
same_none s key k can out =
    elim (cases_Bool (same_key k key)) [
      | inr other ↦ other
      | inl same ↦ absurd (not_both (subst (λ (l : List ℕ). begins l s ≡ true) (sym (same_key-true k key same)) can) out)
    ]

-- a message of keys that begin with a prefix changes nothing elsewhere
unchanged : (below : NodesAt) (s : List ℕ) (m : Message) → CanStrip s m → (k : List ℕ) → begins k s ≡ false → (old : Option (List ℕ)) → act below m k old ≡ old
unchanged below s (Put key value) can k out old = ap (λ (b : Bool). cond b (Some value) old) (same_none s key k can out)
unchanged below s (Del key) can k out old = ap (λ (b : Bool). cond b None old) (same_none s key k can out)
unchanged below s (Patch key off bytes) can k out old = ap (λ (b : Bool). cond b (Some (overwritten (unwrap_or old []) off bytes)) old) (same_none s key k can out)
unchanged below s (Cut prefix from) can k out old = ap (λ (b : Bool). cond b None old) (cut_none prefix from k (begins_none s prefix k can out))
unchanged below s (Goto prefix source child) can k out old = ap (λ (b : Bool). cond b (below child (source ++ rest prefix k)) old) (begins_none s prefix k can out)

some_unchanged : (below : NodesAt) (s : List ℕ) (o : Option Message) → IfSome o (CanStrip s) → (k : List ℕ) → begins k s ≡ false → (old : Option (List ℕ)) → acts below (option_to_list o) k old ≡ old
some_unchanged below s None can k out old = refl
some_unchanged below s (Some m) can k out old = unchanged below s m can k out old

pub restricted_outside : (below : NodesAt) (s : List ℕ) (m : Message) (k : List ℕ) → begins k s ≡ false → (old : Option (List ℕ)) → acts below (option_to_list (restricted s m)) k old ≡ old
restricted_outside below s m k out old = some_unchanged below s (restricted s m) (restricted_can s m) k out old

some_stripped : (below : NodesAt) (s : List ℕ) (o : Option Message) → IfSome o (CanStrip s) → (k : List ℕ) (old : Option (List ℕ)) → acts below (option_to_list (option_map (stripped s) o)) k old ≡ acts below (option_to_list o) (s ++ k) old
some_stripped below s None can k old = refl
some_stripped below s (Some m) can k old = stripped_effect below s m can k old

pub restricted_inside : (below : NodesAt) (s : List ℕ) (m : Message) (k : List ℕ) → begins k s ≡ true → (old : Option (List ℕ)) → acts below (option_to_list (restricted s m)) k old ≡ act below m k old
restricted_inside below s m k inside old =
    subst (λ (l : List ℕ). acts below (option_to_list (restricted s m)) l old ≡ act below m l old) (sym (begins-is k s inside))
    (sym (some_stripped below s (restricted s m) (restricted_can s m) (rest s k) old) ∙ freed_effect below s m (rest s k) old)

-- ---- the lengths

length_parts : (s k : List ℕ) → begins k s ≡ true → length k ≡ length s + length (rest s k)
length_parts s k h = ap (λ (l : List ℕ). length l) (begins-is k s h) ∙ length-append s (rest s k)

some_mapped : (Q : Message → Type 0) (s : List ℕ) (o : Option Message) → IfSome o (λ n. Q (stripped s n)) → IfSome (option_map (stripped s) o) Q
some_mapped Q s None h = tt
some_mapped Q s (Some n) h = h

-- what holds of a freed message
pub if_freed : (Q : Message → Type 0) (s : List ℕ) (m : Message)
    → (begins (stem m) s ≡ true → Q (stripped s m))
    → ((p x f : List ℕ) → m ≡ Cut p x → begins s p ≡ true → ((f ≡ rest (rest p s) x) × (begins x (rest p s) ≡ true)) ⊎ (f ≡ []) → Q (Cut [] f))
    → ((p source : List ℕ) (child : ℕ) → m ≡ Goto p source child → begins s p ≡ true → Q (Goto [] (source ++ rest p s) child))
    → IfSome (freed s m) Q
if_freed Q s m f g h =
    some_mapped Q s (restricted s m)
    (if_restricted (λ n. Q (stripped s n)) s m f
    (λ out. if_narrowed (λ n. Q (stripped s n)) s m
    (λ p x a is within any. subst (λ (r : List ℕ). Q (Cut r a)) (sym (rest-itself s)) (g p x a is within any))
    (λ p source child is within. subst (λ (r : List ℕ). Q (Goto r (source ++ rest p s) child)) (sym (rest-itself s)) (h p source child is within))))

-- how long a source gets
stripped_source : (s : List ℕ) (m : Message) → begins (stem m) s ≡ true → length (source_of (stripped s m)) ≡ source_after s m
stripped_source s (Put key value) h = refl
stripped_source s (Del key) h = refl
stripped_source s (Patch key off bytes) h = refl
stripped_source s (Cut prefix from) h = refl
stripped_source s (Goto prefix source child) h = omega (arith, length_parts s prefix h)

pub freed_source : (s : List ℕ) (m : Message) → IfSome (freed s m) (λ n. length (source_of n) ≡ source_after s m)
freed_source s m =
    if_freed (λ n. length (source_of n) ≡ source_after s m) s m (stripped_source s m)
    (λ p x f is within any. ap (λ (x : Message). source_after s x) (sym is))
    (λ p source child is within.
    let e : length (source ++ rest p s) ≡ length source + length (rest p s) = length-append source (rest p s) in
    let own : length (source ++ rest p s) ≡ source_after s (Goto p source child) = omega (arith, length_parts p s within) in
    own ∙ ap (λ (x : Message). source_after s x) (sym is))

-- a message
pub stripped_message : (s : List ℕ) (m : Message) → IsMessage m → IsMessage (stripped s m)
stripped_message s (Put key value) h = (let a = rest_shorter s key in omega (arith, h.0), h.1, h.2)
stripped_message s (Del key) h = omega (arith, h, rest_shorter s key)
stripped_message s (Patch key off bytes) h = (omega (arith, h.0, rest_shorter s key), h.1, h.2)
stripped_message s (Cut prefix from) h = omega (arith, h, rest_shorter s prefix)
stripped_message s (Goto prefix source child) h = (omega (arith, h.0, rest_shorter s prefix), h.1, h.2, h.3)

pub freed_message : (s : List ℕ) (m : Message) → IsMessage m → source_after s m ≤ key_limit → IfSome (freed s m) IsMessage
freed_message s m own fits =
    if_freed IsMessage s m (λ h. stripped_message s m own)
    (λ p x f is within any.
    let cut : length p + length x ≤ key_limit = subst (λ (y : Message). IsMessage y) is own in
    elim any [
      | inl after ↦ (let a : length f ≤ length x = subst (λ (l : List ℕ). length l ≤ length x) (sym after.0) (rest_shorter (rest p s) x) in let z : 0 + length f ≤ key_limit = omega arith in z)
      | inr none ↦ (let a : length f ≡ 0 = ap (λ (l : List ℕ). length l) none in let z : 0 + length f ≤ key_limit = omega arith in z)
    ])
    (λ p source child is within.
    let goto : IsMessage (Goto p source child) = subst (λ (y : Message). IsMessage y) is own in
    let after : length source + (length s - length p) ≤ key_limit = subst (λ (y : Message). source_after s y ≤ key_limit) is fits in
    (omega arith, omega (arith, length-append source (rest p s), length_parts p s within), goto.2, goto.3))

-- how much smaller it is
stripped_smaller : (s : List ℕ) (m : Message) → begins (stem m) s ≡ true → size (stripped s m) + length s ≡ size m
stripped_smaller s (Put key value) h = omega (arith, length_parts s key h)
stripped_smaller s (Del key) h = omega (arith, length_parts s key h)
stripped_smaller s (Patch key off bytes) h = omega (arith, length_parts s key h)
stripped_smaller s (Cut prefix from) h = omega (arith, length_parts s prefix h)
stripped_smaller s (Goto prefix source child) h = omega (arith, length_parts s prefix h)

pub freed_smaller : (s : List ℕ) (m : Message) → IfSome (freed s m) (λ n. CoversAll n ⊎ (size n + length s ≤ size m))
freed_smaller s m =
    if_freed (λ n. CoversAll n ⊎ (size n + length s ≤ size m)) s m
    (λ h. inr (omega (arith, stripped_smaller s m h)))
    (λ p x f is within any. elim any [
      | inl after ↦
          let e : size m ≡ 16 + length p + length x = ap size is in
          let l : length f ≡ length (rest (rest p s) x) = ap (λ (r : List ℕ). length r) after.0 in
          inr (omega (arith, length_parts p s within, length_parts (rest p s) x after.1))
      | inr none ↦ inl (refl, none)
    ])
    (λ p source child is within. inl refl)

-- it grows with its source alone
stripped_larger : (s : List ℕ) (m : Message) → begins (stem m) s ≡ true → size (stripped s m) + length (source_of m) ≤ size m + length (source_of (stripped s m))
stripped_larger s (Put key value) h = omega (arith, rest_shorter s key)
stripped_larger s (Del key) h = omega (arith, rest_shorter s key)
stripped_larger s (Patch key off bytes) h = omega (arith, rest_shorter s key)
stripped_larger s (Cut prefix from) h = omega (arith, rest_shorter s prefix)
stripped_larger s (Goto prefix source child) h = omega (arith, rest_shorter s prefix)

pub freed_larger : (s : List ℕ) (m : Message) → IfSome (freed s m) (λ n. size n + length (source_of m) ≤ size m + length (source_of n))
freed_larger s m =
    if_freed (λ n. size n + length (source_of m) ≤ size m + length (source_of n)) s m (stripped_larger s m)
    (λ p x f is within any.
    let e : size m ≡ 16 + length p + length x = ap size is in
    let d : length (source_of m) ≡ 0 = ap (λ (y : Message). length (source_of y)) is in
    let l : length f ≤ length x = elim any [
      | inl after ↦ subst (λ (l : List ℕ). length l ≤ length x) (sym after.0) (rest_shorter (rest p s) x)
      | inr none ↦ (let a : length f ≡ 0 = ap (λ (l : List ℕ). length l) none in omega arith)
    ] in
    let z : 16 + 0 + length f + length (source_of m) ≤ size m + 0 = omega arith in z)
    (λ p source child is within.
    let e : size m ≡ 16 + length p + length source = ap size is in
    let d : length (source_of m) ≡ length source = ap (λ (y : Message). length (source_of y)) is in
    let z : 16 + 0 + length (source ++ rest p s) + length (source_of m) ≤ size m + length (source ++ rest p s) = omega arith in z)

-- a source that is kept
pub kept_source : (s : List ℕ) (m : Message) → KeepsSource s m → source_after s m ≡ length (source_of m)
kept_source s (Put key value) h = refl
kept_source s (Del key) h = refl
kept_source s (Patch key off bytes) h = refl
kept_source s (Cut prefix from) h = refl
kept_source s (Goto prefix source child) h = omega (arith, length_parts s prefix h)

pub short_source : (m : Message) → IsMessage m → length (source_of m) ≤ key_limit
short_source (Put key value) h = omega arith
short_source (Del key) h = omega arith
short_source (Patch key off bytes) h = omega arith
short_source (Cut prefix from) h = omega arith
short_source (Goto prefix source child) h = h.1

pub kept_message : (s : List ℕ) (m : Message) → KeepsSource s m → IsMessage m → IfSome (freed s m) IsMessage
kept_message s m keeps own = freed_message s m own (omega (arith, kept_source s m keeps, short_source m own))

size_from : (o : Option Message) (a b c : ℕ) → c ≡ a → IfSome o (λ n. length (source_of n) ≡ c) → IfSome o (λ n. size n + a ≤ b + length (source_of n)) → IfSome o (λ n. size n ≤ b)
size_from None a b c same h g = tt
size_from (Some n) a b c same h g = omega (arith, h, g)

pub kept_size : (s : List ℕ) (m : Message) → KeepsSource s m → IfSome (freed s m) (λ n. size n ≤ size m)
kept_size s m keeps = size_from (freed s m) (length (source_of m)) (size m) (source_after s m) (kept_source s m keeps) (freed_source s m) (freed_larger s m)

either_way : (b : Bool) → b ≡ true → (v old other : Option (List ℕ)) → cond b v old ≡ cond b v other
either_way b h v old other = cond-true b v old h ∙ sym (cond-true b v other h)

-- what covers all keys
pub covering : (below : NodesAt) (m : Message) → CoversAll m → (k : List ℕ) (old : Option (List ℕ)) → act below m k old ≡ act below m k None
covering below (Put key value) h k old = absurd h
covering below (Del key) h k old = absurd h
covering below (Patch key off bytes) h k old = absurd h
covering below (Cut p x) h k old =
    let all : is_cut p x k ≡ true = subst (λ (y : List ℕ × List ℕ). is_cut y.0 y.1 k ≡ true) (sym (λ i. (h.0 i, h.1 i))) (ap not (not_less (key_cmp k []) (least_nil k))) in
    either_way (is_cut p x k) all None old None
covering below (Goto p source child) h k old =
    let all : begins k p ≡ true = subst (λ (y : List ℕ). begins k y ≡ true) (sym h) refl in
    either_way (begins k p) all (below child (source ++ rest p k)) old None
