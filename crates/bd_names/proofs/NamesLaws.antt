-- Laws of names and paths, for the proofs of the crates above.
use Rattle.std.specs.Prelude.{◌≡◌, ℕ, ◌≤◌, Bool, true, false, not, ◌&&◌, List, [], ◌∷◌, ◌++◌, length, nat_le, ◌==◌, is_some, refl, cond}
use Rattle.std.specs.List.{slice_split, onto_first, list_all, flat_map}
use Rattle.std.specs.declared.option.Option.{Option}
use Rattle.std.specs.declared.option.Option.TheVariants.{None, Some}
use Rattle.std.proofs.Common.{sym, ◌∙◌, ap, arith, append_assoc, length-append}
use Rattle.std.proofs.lemmas.Bool.{and_parts, and_from, eqb-true, leb-true, le-leb, not-true, both_ways}
use Rattle.std.proofs.lemmas.List.{append-nil, nil_from_length}
use Rattle.std.proofs.lemmas.List.Folds.{list_all-append}
use Rattle.std.proofs.lemmas.List.Concat.{flat_map-append}
use Rattle.std.proofs.lemmas.Slice.Eq.{bytes_eq-Decides}
use Rattle.bd_limits.specs.Limits.{path_limit, name_limit}
use Rattle.bd_names.specs.Names.{same_text, is_name_byte, is_name, AreNames, path_text, names_in, begins_with_slash, is_path, path_of, key_of, rest_below, is_under, below_name, parent_of}

-- ---- equal texts

pub same_text-true : (a b : List ℕ) → same_text a b ≡ true → a ≡ b
same_text-true a b h = (bytes_eq-Decides a b).0 h

pub same_text-refl : (a : List ℕ) → same_text a a ≡ true
same_text-refl a = (bytes_eq-Decides a a).1 refl

-- ---- what follows a path

pub rest_below-append : (p rest : List (List ℕ)) → rest_below p (p ++ rest) ≡ Some rest
rest_below-append [] rest = refl
rest_below-append (n ∷ p) rest = rw (same_text-refl n) (rest_below-append p rest)

rest_below-cons : (t : Bool) (n m : List ℕ) (p q rest : List (List ℕ)) → (t ≡ true → n ≡ m) → (rest_below p q ≡ Some rest → q ≡ p ++ rest) → cond t (rest_below p q) None ≡ Some rest → m ∷ q ≡ (n ∷ p) ++ rest
rest_below-cons true n m p q rest same below h = let e : n ≡ m = same refl in let f : q ≡ p ++ rest = below h in cc
rest_below-cons false n m p q rest same below h = cc

pub rest_below-some : (p q rest : List (List ℕ)) → rest_below p q ≡ Some rest → q ≡ p ++ rest
rest_below-some [] q rest h = cc
rest_below-some (n ∷ p) [] rest h = cc
rest_below-some (n ∷ p) (m ∷ q) rest h = rest_below-cons (same_text n m) n m p q rest (same_text-true n m) (rest_below-some p q rest) h

is_some-true : {X : Type 0} (o : Option X) → is_some o ≡ true → (x : X) × (o ≡ Some x)
is_some-true None h = cc
is_some-true (Some x) h = (x, refl)

-- ---- at or below a path

pub is_under-append : (p rest : List (List ℕ)) → is_under p (p ++ rest) ≡ true
is_under-append p rest = ap is_some (rest_below-append p rest)

pub is_under-rest : (p q : List (List ℕ)) → is_under p q ≡ true → (rest : List (List ℕ)) × (q ≡ p ++ rest)
is_under-rest p q h = let found = is_some-true (rest_below p q) h in (found.0, rest_below-some p q found.0 found.1)

pub is_under-refl : (p : List (List ℕ)) → is_under p p ≡ true
is_under-refl p = rw (append-nil p) at (is_under-append p [])

pub is_under-trans : (p q r : List (List ℕ)) → is_under p q ≡ true → is_under q r ≡ true → is_under p r ≡ true
is_under-trans p q r h k =
    let u = is_under-rest p q h in
    let v = is_under-rest q r k in
    let e : r ≡ p ++ (u.0 ++ v.0) = v.1 ∙ ap (λ x. x ++ v.0) u.1 ∙ append_assoc p u.0 v.0 in
    rw e (is_under-append p (u.0 ++ v.0))

pub is_under-antisym : (p q : List (List ℕ)) → is_under p q ≡ true → is_under q p ≡ true → p ≡ q
is_under-antisym p q h k =
    let u = is_under-rest p q h in
    let v = is_under-rest q p k in
    let none : u.0 ≡ [] = nil_from_length u.0 (omega (arith, length-append p u.0, length-append q v.0, ap length u.1, ap length v.1)) in
    sym (u.1 ∙ ap (λ x. p ++ x) none ∙ append-nil p)

-- ---- parents

pub parent_of-append : (p : List (List ℕ)) (n : List ℕ) → parent_of (p ++ n ∷ []) ≡ Some p
parent_of-append [] n = refl
parent_of-append (m ∷ []) n = refl
parent_of-append (m ∷ k ∷ p) n = ap (below_name m) (parent_of-append (k ∷ p) n)

below_name-some : (n : List ℕ) (o : Option (List (List ℕ))) (p : List (List ℕ)) → below_name n o ≡ Some p → (r : List (List ℕ)) × (o ≡ Some r) × (p ≡ n ∷ r)
below_name-some n None p h = cc
below_name-some n (Some r) p h = (r, refl, cc)

pub parent_of-some : (q p : List (List ℕ)) → parent_of q ≡ Some p → (n : List ℕ) × (q ≡ p ++ n ∷ [])
parent_of-some [] p h = cc
parent_of-some (n ∷ []) p h = (n, cc)
parent_of-some (n ∷ m ∷ ns) p h =
    let step = below_name-some n (parent_of (m ∷ ns)) p h in
    let rest = parent_of-some (m ∷ ns) step.0 step.1 in
    let e : m ∷ ns ≡ step.0 ++ rest.0 ∷ [] = rest.1 in
    let f : p ≡ n ∷ step.0 = step.2 in
    (rest.0, ap (λ x. n ∷ x) e ∙ ap (λ x. x ++ rest.0 ∷ []) (sym f))

below_name-none : (n : List ℕ) (o : Option (List (List ℕ))) → below_name n o ≡ None → o ≡ None
below_name-none n None h = refl
below_name-none n (Some p) h = cc

pub parent_of-none : (q : List (List ℕ)) → parent_of q ≡ None → q ≡ []
parent_of-none [] h = refl
parent_of-none (n ∷ []) h = cc
parent_of-none (n ∷ m ∷ ns) h = let e : m ∷ ns ≡ [] = parent_of-none (m ∷ ns) (below_name-none n (parent_of (m ∷ ns)) h) in cc

-- ---- lists of names

pub AreNames-append : (p q : List (List ℕ)) → AreNames p → AreNames q → AreNames (p ++ q)
AreNames-append p q h k = list_all-append is_name p q ∙ and_from (list_all is_name p) (list_all is_name q) h k

pub AreNames-parts : (p q : List (List ℕ)) → AreNames (p ++ q) → AreNames p × AreNames q
AreNames-parts p q h = and_parts (list_all is_name p) (list_all is_name q) (sym (list_all-append is_name p q) ∙ h)

pub AreNames-cons : (n : List ℕ) (ns : List (List ℕ)) → AreNames (n ∷ ns) → (is_name n ≡ true) × AreNames ns
AreNames-cons n ns h = and_parts (is_name n) (list_all is_name ns) h

-- ---- texts without a byte

-- a text has no byte c
abbrev pub is_free : ℕ → List ℕ → Bool
is_free c text = list_all (λ b. not (b == c)) text

-- a text is empty or begins with c
abbrev pub is_cut : ℕ → List ℕ → Bool
is_cut c [] = true
is_cut c (b ∷ bs) = b == c

apart : (a b c : ℕ) → not (a == c) ≡ true → b == c ≡ true → a ≡ b → ⊥
apart a b c free at same = both_ways (b == c) (rw same at (not-true (a == c) free)) at

-- two texts without c, each before c or the end, end at the same place
pub first_part : (c : ℕ) (m n x y : List ℕ) → is_free c m ≡ true → is_free c n ≡ true → is_cut c x ≡ true → is_cut c y ≡ true → m ++ x ≡ n ++ y → (m ≡ n) × (x ≡ y)
first_part c [] [] x y fm fn cx cy e = (refl, e)
first_part c [] (b ∷ n) [] y fm fn cx cy e = cc
first_part c [] (b ∷ n) (a ∷ x) y fm fn cx cy e = absurd (apart b a c (and_parts (not (b == c)) (is_free c n) fn).0 cx cc)
first_part c (a ∷ m) [] x [] fm fn cx cy e = cc
first_part c (a ∷ m) [] x (b ∷ y) fm fn cx cy e = absurd (apart a b c (and_parts (not (a == c)) (is_free c m) fm).0 cy cc)
first_part c (a ∷ m) (b ∷ n) x y fm fn cx cy e =
    let tails : m ++ x ≡ n ++ y = cc in
    let rest = first_part c m n x y (and_parts (not (a == c)) (is_free c m) fm).1 (and_parts (not (b == c)) (is_free c n) fn).1 cx cy tails in
    let heads : a ≡ b = cc in
    let e0 : m ≡ n = rest.0 in
    (cc, rest.1)

name_byte-slash : (b : ℕ) → is_name_byte b ≡ true → not (b == 47) ≡ true
name_byte-slash b h = (and_parts (not (b == 47)) (not (b == 127)) (and_parts (nat_le b 255) (not (b == 47) && not (b == 127)) (and_parts (nat_le 33 b) (nat_le b 255 && (not (b == 47) && not (b == 127))) h).1).1).0

zero_apart : (b : ℕ) (t : Bool) → (b == 0) ≡ t → 33 ≤ b → not (b == 0) ≡ true
zero_apart b true e h = absurd (let z : b ≡ 0 = eqb-true b 0 e in omega arith)
zero_apart b false e h = ap not e

name_byte-zero : (b : ℕ) → is_name_byte b ≡ true → not (b == 0) ≡ true
name_byte-zero b h = zero_apart b (b == 0) refl (leb-true 33 b (and_parts (nat_le 33 b) (nat_le b 255 && (not (b == 47) && not (b == 127))) h).0)

list_all-weaken : (p q : ℕ → Bool) → ((b : ℕ) → p b ≡ true → q b ≡ true) → (bytes : List ℕ) → list_all p bytes ≡ true → list_all q bytes ≡ true
list_all-weaken p q each [] h = refl
list_all-weaken p q each (b ∷ bs) h =
    let parts = and_parts (p b) (list_all p bs) h in
    and_from (q b) (list_all q bs) (each b parts.0) (list_all-weaken p q each bs parts.1)

pub is_name-bytes : (n : List ℕ) → is_name n ≡ true → list_all is_name_byte n ≡ true
is_name-bytes n h = (and_parts (list_all is_name_byte n) _ (and_parts (nat_le (length n) name_limit) _ (and_parts (nat_le 1 (length n)) _ h).1).1).0

pub is_name-length : (n : List ℕ) → is_name n ≡ true → (1 ≤ length n) × (length n ≤ name_limit)
is_name-length n h =
    let parts = and_parts (nat_le 1 (length n)) _ h in
    (leb-true 1 (length n) parts.0, leb-true (length n) name_limit (and_parts (nat_le (length n) name_limit) _ parts.1).0)

pub is_name-slash : (n : List ℕ) → is_name n ≡ true → is_free 47 n ≡ true
is_name-slash n h = list_all-weaken is_name_byte (λ b. not (b == 47)) name_byte-slash n (is_name-bytes n h)

pub is_name-zero : (n : List ℕ) → is_name n ≡ true → is_free 0 n ≡ true
is_name-zero n h = list_all-weaken is_name_byte (λ b. not (b == 0)) name_byte-zero n (is_name-bytes n h)

-- ---- keys

pub key_of-append : (p q : List (List ℕ)) → key_of (p ++ q) ≡ key_of p ++ key_of q
key_of-append p q = flat_map-append (λ n. n ++ 0 ∷ []) p q

pub key_of-cons : (n : List ℕ) (ns : List (List ℕ)) → key_of (n ∷ ns) ≡ n ++ 0 ∷ key_of ns
key_of-cons n ns = append_assoc n (0 ∷ []) (key_of ns)

-- a path whose key another key begins with is that one's or above it
pub key_of-front : (p q : List (List ℕ)) (rest : List ℕ) → AreNames p → AreNames q → key_of q ≡ key_of p ++ rest → (below : List (List ℕ)) × (q ≡ p ++ below) × (rest ≡ key_of below)
key_of-front [] q rest hp hq e = (q, refl, sym e)
key_of-front (n ∷ p) [] rest hp hq e = absurd (omega (arith, ap length e, length-append (n ++ 0 ∷ [] ++ key_of p) rest, length-append (n ++ 0 ∷ []) (key_of p), length-append n (0 ∷ [])))
key_of-front (n ∷ p) (m ∷ q) rest hp hq e =
    let name_n = AreNames-cons n p hp in
    let name_m = AreNames-cons m q hq in
    let flat : m ++ 0 ∷ key_of q ≡ n ++ 0 ∷ (key_of p ++ rest) =
    sym (key_of-cons m q) ∙ e ∙ ap (λ x. x ++ rest) (key_of-cons n p) ∙ append_assoc n (0 ∷ key_of p) rest in
    let parts = first_part 0 m n (0 ∷ key_of q) (0 ∷ (key_of p ++ rest)) (is_name-zero m name_m.0) (is_name-zero n name_n.0) refl refl flat in
    let keys : 0 ∷ key_of q ≡ 0 ∷ (key_of p ++ rest) = parts.1 in
    let tails : key_of q ≡ key_of p ++ rest = cc in
    let below = key_of-front p q rest name_n.1 name_m.1 tails in
    let same : m ≡ n = parts.0 in
    let more : q ≡ p ++ below.0 = below.1 in
    (below.0, cc, below.2)

pub key_of-injective : (p q : List (List ℕ)) → AreNames p → AreNames q → key_of p ≡ key_of q → p ≡ q
key_of-injective p q hp hq e =
    let up = key_of-front p q [] hp hq (sym e ∙ sym (append-nil (key_of p))) in
    let down = key_of-front q p [] hq hp (e ∙ sym (append-nil (key_of q))) in
    is_under-antisym p q (rw up.1 (is_under-append p up.0)) (rw down.1 (is_under-append q down.0))

-- ---- the text of a path

-- each name after a slash
abbrev pub slashed : List (List ℕ) → List ℕ
slashed names = flat_map (λ m. 47 ∷ m) names

pub slashed-append : (p q : List (List ℕ)) → slashed (p ++ q) ≡ slashed p ++ slashed q
slashed-append p q = flat_map-append (λ m. 47 ∷ m) p q

slashed-cut : (ns : List (List ℕ)) (t : List ℕ) → is_cut 47 t ≡ true → is_cut 47 (slashed ns ++ t) ≡ true
slashed-cut [] t h = h
slashed-cut (n ∷ ns) t h = refl

-- a path whose text another one begins with, up to a slash or the end, is that one or above it
pub slashed-front : (p q : List (List ℕ)) (rest : List ℕ) → AreNames p → AreNames q → is_cut 47 rest ≡ true → slashed q ≡ slashed p ++ rest → (below : List (List ℕ)) × (q ≡ p ++ below) × (rest ≡ slashed below)
slashed-front [] q rest hp hq cut e = (q, refl, sym e)
slashed-front (n ∷ p) [] rest hp hq cut e = cc
slashed-front (n ∷ p) (m ∷ q) rest hp hq cut e =
    let name_n = AreNames-cons n p hp in
    let name_m = AreNames-cons m q hq in
    let after : m ++ slashed q ≡ (n ++ slashed p) ++ rest = cc in
    let flat : m ++ slashed q ≡ n ++ (slashed p ++ rest) = after ∙ append_assoc n (slashed p) rest in
    let parts = first_part 47 m n (slashed q) (slashed p ++ rest) (is_name-slash m name_m.0) (is_name-slash n name_n.0) (rw (append-nil (slashed q)) at (slashed-cut q [] refl)) (slashed-cut p rest cut) flat in
    let below = slashed-front p q rest name_n.1 name_m.1 cut parts.1 in
    let same : m ≡ n = parts.0 in
    let more : q ≡ p ++ below.0 = below.1 in
    (below.0, cc, below.2)

-- a slash parts a text
abbrev pub at_slashes : List ℕ → List (List ℕ)
at_slashes text = slice_split (λ b. b == 47) text

split_name : (n rest : List ℕ) (parts : List (List ℕ)) → is_free 47 n ≡ true → at_slashes rest ≡ [] ∷ parts → at_slashes (n ++ rest) ≡ n ∷ parts
split_name [] rest parts h e = e
split_name (b ∷ n) rest parts h e =
    let free = and_parts (not (b == 47)) (is_free 47 n) h in
    rw (not-true (b == 47) free.0) (ap (onto_first b) (split_name n rest parts free.1 e))

pub at_slashes-slashed : (n : List ℕ) (ns : List (List ℕ)) → AreNames (n ∷ ns) → at_slashes (n ++ slashed ns) ≡ n ∷ ns
at_slashes-slashed n [] h = split_name n [] [] (is_name-slash n (AreNames-cons n [] h).0) refl
at_slashes-slashed n (m ∷ ns) h =
    let names = AreNames-cons n (m ∷ ns) h in
    split_name n (slashed (m ∷ ns)) (m ∷ ns) (is_name-slash n names.0) (ap (λ x. [] ∷ x) (at_slashes-slashed m ns names.1))

slashed-onto_first : (b : ℕ) (parts : List (List ℕ)) (text : List ℕ) → slashed parts ≡ 47 ∷ text → slashed (onto_first b parts) ≡ 47 ∷ b ∷ text
slashed-onto_first b [] text h = cc
slashed-onto_first b (part ∷ parts) text h = let e : part ++ slashed parts ≡ text = cc in ap (λ x. 47 ∷ b ∷ x) e

slashed-step : (t : Bool) (b : ℕ) (parts : List (List ℕ)) (text : List ℕ) → (t ≡ true → b ≡ 47) → slashed parts ≡ 47 ∷ text → slashed (cond t ([] ∷ parts) (onto_first b parts)) ≡ 47 ∷ b ∷ text
slashed-step true b parts text at h = let e : b ≡ 47 = at refl in rw e (ap (λ x. 47 ∷ x) h)
slashed-step false b parts text at h = slashed-onto_first b parts text h

pub slashed-at_slashes : (text : List ℕ) → slashed (at_slashes text) ≡ 47 ∷ text
slashed-at_slashes [] = refl
slashed-at_slashes (b ∷ text) = slashed-step (b == 47) b (at_slashes text) text (eqb-true b 47) (slashed-at_slashes text)

path_text-slashed : (ns : List (List ℕ)) (text : List ℕ) → slashed ns ≡ 47 ∷ text → path_text ns ≡ 47 ∷ text
path_text-slashed [] text h = cc
path_text-slashed (n ∷ ns) text h = h

pub path_text-cons : (n : List ℕ) (ns : List (List ℕ)) → path_text (n ∷ ns) ≡ slashed (n ∷ ns)
path_text-cons n ns = refl

pub path_text-names_in : (text : List ℕ) → begins_with_slash text ≡ true → path_text (names_in text) ≡ text
path_text-names_in [] h = cc
path_text-names_in (b ∷ []) h = ap (λ x. x ∷ []) (sym (eqb-true b 47 h))
path_text-names_in (b ∷ c ∷ text) h = path_text-slashed (at_slashes (c ∷ text)) (c ∷ text) (slashed-at_slashes (c ∷ text)) ∙ ap (λ x. x ∷ c ∷ text) (sym (eqb-true b 47 h))

pub names_in-path_text : (ns : List (List ℕ)) → AreNames ns → names_in (path_text ns) ≡ ns
names_in-path_text [] h = refl
names_in-path_text ([] ∷ ns) h = absurd (let short = (is_name-length [] (AreNames-cons [] ns h).0).0 in omega arith)
names_in-path_text ((b ∷ n) ∷ ns) h = at_slashes-slashed (b ∷ n) ns h

pub is_path-parts : (text : List ℕ) → is_path text ≡ true → (length text ≤ path_limit) × (begins_with_slash text ≡ true) × AreNames (names_in text)
is_path-parts text h =
    let size = and_parts (nat_le (length text) path_limit) _ h in
    let rest = and_parts (begins_with_slash text) _ size.1 in
    (leb-true (length text) path_limit size.0, rest.0, rest.1)

begins-path_text : (ns : List (List ℕ)) → begins_with_slash (path_text ns) ≡ true
begins-path_text [] = refl
begins-path_text (n ∷ ns) = refl

pub is_path-path_text : (ns : List (List ℕ)) → AreNames ns → length (path_text ns) ≤ path_limit → is_path (path_text ns) ≡ true
is_path-path_text ns h size =
    and_from (nat_le (length (path_text ns)) path_limit) _ (le-leb (length (path_text ns)) path_limit size)
    (and_from (begins_with_slash (path_text ns)) _ (begins-path_text ns) (rw (names_in-path_text ns h) h))

path_of-cond : (t : Bool) (x y : List (List ℕ)) → cond t (Some x) None ≡ Some y → (t ≡ true) × (x ≡ y)
path_of-cond true x y h = (refl, cc)
path_of-cond false x y h = cc

-- a text that is read as a path is its text
pub path_of-some : (text : List ℕ) (ns : List (List ℕ)) → path_of text ≡ Some ns → AreNames ns × (length (path_text ns) ≤ path_limit) × (path_text ns ≡ text)
path_of-some text ns h =
    let read = path_of-cond (is_path text) (names_in text) ns h in
    let parts = is_path-parts text read.0 in
    let same : path_text ns ≡ text = ap path_text (sym read.1) ∙ path_text-names_in text parts.1 in
    (rw (sym read.1) parts.2, rw same parts.0, same)

-- a path is read from its text
pub path_of-path_text : (ns : List (List ℕ)) → AreNames ns → length (path_text ns) ≤ path_limit → path_of (path_text ns) ≡ Some ns
path_of-path_text ns h size = rw (is_path-path_text ns h size) (ap Some (names_in-path_text ns h))

length-keyed : (ns : List (List ℕ)) → length (key_of ns) ≡ length (slashed ns)
length-keyed [] = refl
length-keyed (n ∷ ns) =
    omega (arith, length-keyed ns, ap length (key_of-cons n ns), length-append n (0 ∷ key_of ns), length-append n (slashed ns))

-- a path's key is no longer than its text
pub length-key_of : (ns : List (List ℕ)) → length (key_of ns) ≤ length (path_text ns)
length-key_of [] = omega arith
length-key_of (n ∷ ns) = omega (arith, length-keyed (n ∷ ns), ap length (path_text-cons n ns))
