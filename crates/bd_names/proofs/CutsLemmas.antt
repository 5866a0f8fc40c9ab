-- Where the names of a path end in its text.
use Rattle.std.specs.Prelude.{◌≡◌, ℕ, ◌+◌, ◌-◌, ◌<◌, ◌≤◌, Bool, true, false, zero, suc, List, [], ◌∷◌, ◌++◌, length, take, drop, nat_eq, ◌==◌, refl, cond, if◌then◌else◌}
use Rattle.std.specs.List.{onto_first, list_all}
use Rattle.std.proofs.lemmas.List.Folds.{list_all_at}
use Rattle.std.specs.declared.option.Option.TheVariants.{Some}
use Rattle.std.proofs.Common.{sym, ◌∙◌, ap, subst, arith, get_or, append_assoc, length-append}
use Rattle.std.proofs.lemmas.Bool.{eqb-true, eqb-false, eq-eqb, ne_eqb, false_from_ne_true, both_ways}
use Rattle.std.proofs.lemmas.List.{append-nil, append_cancel_left, take_at, drop_at, take_more, take-append-drop, drop_more, drop_all, nil_from_length, length-drop, length-take-le}
use Rattle.std.proofs.lemmas.List.Splits.{length-slice_split}
use Rattle.std.specs.Cmp.Lexicographic.{pointwise}
use Rattle.std.proofs.lemmas.Slice.Eq.{bytes_eq-Decides}
use Rattle.bd_names.specs.Names.{AreNames, is_name, path_text, names_in, key_of, parent_of, is_under}
use Rattle.bd_limits.specs.Limits.{path_limit}
use Rattle.bd_names.proofs.NamesLaws.{is_path-parts, path_text-names_in, names_in-path_text, is_path-path_text, slashed, slashed-append, slashed-front, at_slashes, parent_of-append, AreNames-parts, AreNames-cons, is_name-length, is_under-append, is_under-rest, is_under-refl, key_of-append}
use Rattle.bd_names.specs.Cuts.{ends_from, IsCut}

-- ---- the text from the cuts

pub IsCut-text : (text cuts : List ℕ) (ns : List (List ℕ)) → IsCut text cuts → names_in text ≡ ns → text ≡ path_text ns
IsCut-text text cuts ns h e = sym (path_text-names_in text (is_path-parts text h.path).1) ∙ ap path_text e

pub IsCut-length : (text cuts : List ℕ) (ns : List (List ℕ)) → IsCut text cuts → names_in text ≡ ns → length (path_text ns) ≤ path_limit
IsCut-length text cuts ns h e = rw (sym (IsCut-text text cuts ns h e)) ((is_path-parts text h.path).0)

pub IsCut-names : (text cuts : List ℕ) (ns : List (List ℕ)) → IsCut text cuts → names_in text ≡ ns → AreNames ns
IsCut-names text cuts ns h e = rw (sym e) ((is_path-parts text h.path).2)

pub IsCut-path_text : (ns : List (List ℕ)) → AreNames ns → length (path_text ns) ≤ path_limit → IsCut (path_text ns) (ends_from 1 ns)
IsCut-path_text ns h size = record { path = is_path-path_text ns h size; ends = ap (ends_from 1) (sym (names_in-path_text ns h)) }

-- ---- a scan of a text for its slashes

-- the places of slashes in a text that stands from a place on, and the place of its end
abbrev pub cuts_from : ℕ → List ℕ → List ℕ
cuts_from at [] = at ∷ []
cuts_from at (b ∷ bs) = if b == 47 then at ∷ cuts_from (at + 1) bs else cuts_from (at + 1) bs

ends_from-onto_first : (at b : ℕ) (parts : List (List ℕ)) → 0 < length parts → ends_from at (onto_first b parts) ≡ ends_from (at + 1) parts
ends_from-onto_first at b [] h = absurd (omega arith)
ends_from-onto_first at b (part ∷ parts) h = let e : at + length (b ∷ part) ≡ at + 1 + length part = omega arith in ap (λ x. x ∷ ends_from (x + 1) parts) e

at_slashes-some : (text : List ℕ) → 0 < length (at_slashes text)
at_slashes-some text = omega (arith, length-slice_split (λ b. b == 47) text)

cuts_from-step : (t : Bool) (at b : ℕ) (text : List ℕ) → cuts_from (at + 1) text ≡ ends_from (at + 1) (at_slashes text) → cond t (at ∷ cuts_from (at + 1) text) (cuts_from (at + 1) text) ≡ ends_from at (cond t ([] ∷ at_slashes text) (onto_first b (at_slashes text)))
cuts_from-step true at b text h = let e : at ≡ at + 0 = omega arith in ap (λ x. at ∷ x) h ∙ ap (λ x. x ∷ ends_from (x + 1) (at_slashes text)) e
cuts_from-step false at b text h = h ∙ sym (ends_from-onto_first at b (at_slashes text) (at_slashes-some text))

pub cuts_from-ends : (at : ℕ) (text : List ℕ) → cuts_from at text ≡ ends_from at (at_slashes text)
cuts_from-ends at [] = let e : at ≡ at + 0 = omega arith in ap (λ x. x ∷ []) e
cuts_from-ends at (b ∷ text) = cuts_from-step (b == 47) at b text (cuts_from-ends (at + 1) text)

pub cuts_from-slash : (text cuts : List ℕ) (i : ℕ) → i < length text → get_or text i 0 ≡ 47 → cuts ++ cuts_from i (drop i text) ≡ (cuts ++ i ∷ []) ++ cuts_from (i + 1) (drop (i + 1) text)
cuts_from-slash text cuts i h e = rw (drop_more text i 0 h) (rw (eq-eqb (get_or text i 0) 47 e) (sym (append_assoc cuts (i ∷ []) (cuts_from (i + 1) (drop (i + 1) text)))))

pub cuts_from-other : (text cuts : List ℕ) (i : ℕ) → i < length text → (get_or text i 0 ≡ 47 → ⊥) → cuts ++ cuts_from i (drop i text) ≡ cuts ++ cuts_from (i + 1) (drop (i + 1) text)
cuts_from-other text cuts i h ne = rw (drop_more text i 0 h) (rw (ne_eqb (get_or text i 0) 47 ne) refl)

pub names_in-long : (text : List ℕ) → 2 ≤ length text → names_in text ≡ at_slashes (drop 1 text)
names_in-long [] h = absurd (omega arith)
names_in-long (b ∷ []) h = absurd (omega arith)
names_in-long (b ∷ c ∷ text) h = refl

pub cuts_done : (text cuts : List ℕ) (i : ℕ) → 2 ≤ length text → i ≡ length text → cuts_from 1 (drop 1 text) ≡ cuts ++ cuts_from i (drop i text) → cuts ++ length text ∷ [] ≡ ends_from 1 (names_in text)
cuts_done text cuts i l at h =
    let none : drop i text ≡ [] = drop_all i text (omega arith) in
    ap (λ x. cuts ++ x ∷ []) (sym at) ∙ ap (λ x. cuts ++ cuts_from i x) (sym none) ∙ sym h
    ∙ cuts_from-ends 1 (drop 1 text) ∙ ap (ends_from 1) (sym (names_in-long text l))

pub names_in-short : (text : List ℕ) → length text < 2 → names_in text ≡ []
names_in-short [] h = refl
names_in-short (b ∷ []) h = refl
names_in-short (b ∷ c ∷ text) h = absurd (omega arith)

-- ---- the place of a name

pub length-ends_from : (at : ℕ) (ns : List (List ℕ)) → length (ends_from at ns) ≡ length ns
length-ends_from at [] = refl
length-ends_from at (n ∷ ns) = ap (λ x. suc x) (length-ends_from (at + length n + 1) ns)

pub ends_from-take : (k at : ℕ) (ns : List (List ℕ)) → take k (ends_from at ns) ≡ ends_from at (take k ns)
ends_from-take zero at ns = refl
ends_from-take (suc k) at [] = refl
ends_from-take (suc k) at (n ∷ ns) = ap (λ x. (at + length n) ∷ x) (ends_from-take k (at + length n + 1) ns)

pub get_or-ends_from : (k at : ℕ) (ns : List (List ℕ)) → k < length ns → get_or (ends_from at ns) k 0 + 1 ≡ at + length (slashed (take (suc k) ns))
get_or-ends_from k at [] h = absurd (omega arith)
get_or-ends_from zero at (n ∷ ns) h = omega (arith, length-append n [])
get_or-ends_from (suc k) at (n ∷ ns) h =
    let e : get_or (ends_from (at + length n + 1) ns) k 0 + 1 ≡ at + length n + 1 + length (slashed (take (suc k) ns)) = get_or-ends_from k (at + length n + 1) ns (omega arith) in
    omega (arith, e, length-append n (slashed (take (suc k) ns)))

pub cut_at : (text cuts : List ℕ) (ns : List (List ℕ)) (k : ℕ) → IsCut text cuts → names_in text ≡ ns → k < length cuts → get_or cuts k 0 ≡ length (slashed (take (suc k) ns))
cut_at text cuts ns k h e l =
    let cut : cuts ≡ ends_from 1 ns = h.ends ∙ ap (ends_from 1) e in
    let size : length cuts ≡ length ns = ap length cut ∙ length-ends_from 1 ns in
    let at : get_or (ends_from 1 ns) k 0 + 1 ≡ 1 + length (slashed (take (suc k) ns)) = get_or-ends_from k 1 ns (omega arith) in
    ap (λ x. get_or x k 0) cut ∙ omega arith

pub cuts-length : (text cuts : List ℕ) (ns : List (List ℕ)) → IsCut text cuts → names_in text ≡ ns → length cuts ≡ length ns
cuts-length text cuts ns h e = ap length (h.ends ∙ ap (ends_from 1) e) ∙ length-ends_from 1 ns

pub path_text-slashed : (ns : List (List ℕ)) → 0 < length ns → path_text ns ≡ slashed ns
path_text-slashed [] h = absurd (omega arith)
path_text-slashed (n ∷ ns) h = refl

-- each of some names is one
pub cut-is_name : (text cuts : List ℕ) (ns : List (List ℕ)) (i : ℕ) → IsCut text cuts → names_in text ≡ ns → i < length cuts → is_name (get_or ns i []) ≡ true
cut-is_name text cuts ns i h e l = by (is_name (get_or ns i [])) refl
  where
    by : (b : Bool) → is_name (get_or ns i []) ≡ b → is_name (get_or ns i []) ≡ true
    by true is = is
    by false is =
        let none : list_all is_name ns ≡ false = list_all_at is_name ns i [] (omega (arith, l, cuts-length text cuts ns h e)) is in
        let all : list_all is_name ns ≡ true = IsCut-names text cuts ns h e in
        cc

parted : (ns : List (List ℕ)) (i : ℕ) → i < length ns → ns ≡ take i ns ++ get_or ns i [] ∷ drop (i + 1) ns
parted ns i h = sym (take-append-drop i ns) ∙ ap (λ x. take i ns ++ x) (drop_more ns i [] h)

-- the text of a path round one of its names
pub slashed-parted : (ns : List (List ℕ)) (i : ℕ) → i < length ns → slashed ns ≡ (slashed (take i ns) ++ 47 ∷ []) ++ (get_or ns i [] ++ slashed (drop (i + 1) ns))
slashed-parted ns i h =
    ap slashed (parted ns i h) ∙ slashed-append (take i ns) (get_or ns i [] ∷ drop (i + 1) ns)
    ∙ sym (append_assoc (slashed (take i ns)) (47 ∷ []) (get_or ns i [] ++ slashed (drop (i + 1) ns)))

pub slashed-more : (ns : List (List ℕ)) (i : ℕ) → i < length ns → length (slashed (take (suc i) ns)) ≡ length (slashed (take i ns)) + 1 + length (get_or ns i [])
slashed-more [] i h = absurd (omega arith)
slashed-more (n ∷ ns) zero h = omega (arith, length-append n [])
slashed-more (n ∷ ns) (suc i) h =
    let e : length (slashed (take (suc i) ns)) ≡ length (slashed (take i ns)) + 1 + length (get_or ns i []) = slashed-more ns i (omega arith) in
    omega (arith, e, length-append n (slashed (take (suc i) ns)), length-append n (slashed (take i ns)))

-- where a name begins and ends, and what stands there
pub name_here : (text cuts : List ℕ) (ns : List (List ℕ)) (i : ℕ) → IsCut text cuts → names_in text ≡ ns → i < length cuts → take (length (get_or ns i [])) (drop (length (slashed (take i ns)) + 1) text) ≡ get_or ns i []
name_here text cuts ns i h e l =
    let lt : i < length ns = omega (arith, cuts-length text cuts ns h e) in
    let whole : text ≡ (slashed (take i ns) ++ 47 ∷ []) ++ (get_or ns i [] ++ slashed (drop (i + 1) ns)) =
    IsCut-text text cuts ns h e ∙ path_text-slashed ns (omega arith) ∙ slashed-parted ns i lt in
    ap (λ x. take (length (get_or ns i [])) (drop (length (slashed (take i ns)) + 1) x)) whole
    ∙ ap (take (length (get_or ns i []))) (drop_at (slashed (take i ns) ++ 47 ∷ []) (get_or ns i [] ++ slashed (drop (i + 1) ns)) (length (slashed (take i ns)) + 1) (length-append (slashed (take i ns)) (47 ∷ [])))
    ∙ take_at (get_or ns i []) (slashed (drop (i + 1) ns)) (length (get_or ns i [])) refl

pub name_fits : (text cuts : List ℕ) (ns : List (List ℕ)) (i : ℕ) → IsCut text cuts → names_in text ≡ ns → i < length cuts → length (slashed (take i ns)) + 1 + length (get_or ns i []) ≤ length text
name_fits text cuts ns i h e l =
    let lt : i < length ns = omega (arith, cuts-length text cuts ns h e) in
    let whole : text ≡ (slashed (take i ns) ++ 47 ∷ []) ++ (get_or ns i [] ++ slashed (drop (i + 1) ns)) =
    IsCut-text text cuts ns h e ∙ path_text-slashed ns (omega arith) ∙ slashed-parted ns i lt in
    omega (arith, ap length whole, length-append (slashed (take i ns) ++ 47 ∷ []) (get_or ns i [] ++ slashed (drop (i + 1) ns)), length-append (slashed (take i ns)) (47 ∷ []), length-append (get_or ns i []) (slashed (drop (i + 1) ns)))

-- ---- parents

front_and_last : (ns : List (List ℕ)) (m : ℕ) → length ns ≡ suc m → ns ≡ take m ns ++ get_or ns m [] ∷ []
front_and_last ns m h =
    parted ns m (omega arith) ∙ ap (λ x. take m ns ++ get_or ns m [] ∷ x) (nil_from_length (drop (m + 1) ns) (omega (arith, length-drop (m + 1) ns)))

pub parent_of-take : (ns : List (List ℕ)) (m : ℕ) → length ns ≡ suc m → parent_of ns ≡ Some (take m ns)
parent_of-take ns m h = ap parent_of (front_and_last ns m h) ∙ parent_of-append (take m ns) (get_or ns m [])

-- the text of a parent that isn't `/`
parent_text : (text cuts : List ℕ) (ns : List (List ℕ)) (k : ℕ) → IsCut text cuts → names_in text ≡ ns → length cuts ≡ suc (suc k) → text ≡ path_text (take (suc k) ns) ++ slashed (get_or ns (suc k) [] ∷ [])
parent_text text cuts ns k h e l =
    let size : length ns ≡ suc (suc k) = sym (cuts-length text cuts ns h e) ∙ l in
    let front : length (take (suc k) ns) ≡ suc k = length-take-le (suc k) ns (omega arith) in
    IsCut-text text cuts ns h e ∙ path_text-slashed ns (omega arith) ∙ ap slashed (front_and_last ns (suc k) size)
    ∙ slashed-append (take (suc k) ns) (get_or ns (suc k) [] ∷ [])
    ∙ ap (λ x. x ++ slashed (get_or ns (suc k) [] ∷ [])) (sym (path_text-slashed (take (suc k) ns) (omega arith)))

pub parent_end : (text cuts : List ℕ) (ns : List (List ℕ)) (k : ℕ) → IsCut text cuts → names_in text ≡ ns → length cuts ≡ suc (suc k) → get_or cuts k 0 ≡ length (path_text (take (suc k) ns))
parent_end text cuts ns k h e l =
    let size : length ns ≡ suc (suc k) = sym (cuts-length text cuts ns h e) ∙ l in
    let front : length (take (suc k) ns) ≡ suc k = length-take-le (suc k) ns (omega arith) in
    cut_at text cuts ns k h e (omega arith) ∙ ap length (sym (path_text-slashed (take (suc k) ns) (omega arith)))

pub parent_front : (text cuts : List ℕ) (ns : List (List ℕ)) (k : ℕ) → IsCut text cuts → names_in text ≡ ns → length cuts ≡ suc (suc k) → take (get_or cuts k 0) text ≡ path_text (take (suc k) ns)
parent_front text cuts ns k h e l =
    ap (take (get_or cuts k 0)) (parent_text text cuts ns k h e l)
    ∙ take_at (path_text (take (suc k) ns)) (slashed (get_or ns (suc k) [] ∷ [])) (get_or cuts k 0) (sym (parent_end text cuts ns k h e l))

pub parent_names : (text cuts : List ℕ) (ns : List (List ℕ)) (k : ℕ) → IsCut text cuts → names_in text ≡ ns → AreNames (take k ns)
parent_names text cuts ns k h e =
    (AreNames-parts (take k ns) (drop k ns) (rw (sym (take-append-drop k ns)) at (IsCut-names text cuts ns h e))).0

pub parent_fits : (text cuts : List ℕ) (ns : List (List ℕ)) (k : ℕ) → IsCut text cuts → names_in text ≡ ns → length cuts ≡ suc (suc k) → get_or cuts k 0 ≤ length text
parent_fits text cuts ns k h e l =
    omega (arith, parent_end text cuts ns k h e l, ap length (parent_text text cuts ns k h e l), length-append (path_text (take (suc k) ns)) (slashed (get_or ns (suc k) [] ∷ [])))

pub parent_cut : (text cuts : List ℕ) (ns : List (List ℕ)) (k : ℕ) → IsCut text cuts → names_in text ≡ ns → length cuts ≡ suc (suc k) → IsCut (take (get_or cuts k 0) text) (take (suc k) cuts)
parent_cut text cuts ns k h e l =
    let names : AreNames (take (suc k) ns) = parent_names text cuts ns (suc k) h e in
    let size : length (path_text (take (suc k) ns)) ≤ path_limit = omega (arith, parent_end text cuts ns k h e l, parent_fits text cuts ns k h e l, (is_path-parts text h.path).0) in
    let ends : take (suc k) cuts ≡ ends_from 1 (take (suc k) ns) = ap (take (suc k)) (h.ends ∙ ap (ends_from 1) e) ∙ ends_from-take (suc k) 1 ns in
    let P : List ℕ → Type 0 = λ x. IsCut x (take (suc k) cuts) in
    let Q : List ℕ → Type 0 = λ x. IsCut (path_text (take (suc k) ns)) x in
    subst P (sym (parent_front text cuts ns k h e l)) (subst Q (sym ends) (IsCut-path_text (take (suc k) ns) names size))

pub parent_is : (text cuts : List ℕ) (ns : List (List ℕ)) (k : ℕ) → IsCut text cuts → names_in text ≡ ns → length cuts ≡ suc (suc k) → Some (names_in (take (get_or cuts k 0) text)) ≡ parent_of ns
parent_is text cuts ns k h e l =
    let size : length ns ≡ suc (suc k) = sym (cuts-length text cuts ns h e) ∙ l in
    ap (λ x. Some (names_in x)) (parent_front text cuts ns k h e l)
    ∙ ap Some (names_in-path_text (take (suc k) ns) (parent_names text cuts ns (suc k) h e))
    ∙ sym (parent_of-take ns (suc k) size)

pub parent_cut_at : (text cuts : List ℕ) (ns : List (List ℕ)) (k : ℕ) (front ends : List ℕ) → IsCut text cuts → names_in text ≡ ns → length cuts ≡ suc (suc k) → front ≡ take (get_or cuts k 0) text → ends ≡ take (suc k) cuts → IsCut front ends
parent_cut_at text cuts ns k front ends h e l f g =
    let P : List ℕ → Type 0 = λ x. IsCut x (take (suc k) cuts) in
    let Q : List ℕ → Type 0 = λ x. IsCut front x in
    subst Q (sym g) (subst P (sym f) (parent_cut text cuts ns k h e l))

-- ---- what stands below

-- the text of a path below another one
under-front : (p q : List (List ℕ)) → is_under p q ≡ true → (rest : List ℕ) × (path_text q ≡ path_text p ++ rest)
under-front [] [] h = ([], refl)
under-front [] (n ∷ q) h = (n ++ slashed q, refl)
under-front (n ∷ p) q h =
    let below = is_under-rest (n ∷ p) q h in
    (slashed below.0, ap path_text below.1 ∙ slashed-append (n ∷ p) below.0)

pub under_none : (p q : List (List ℕ)) → ((rest : List ℕ) → path_text q ≡ path_text p ++ rest → ⊥) → is_under p q ≡ false
under_none p q none = false_from_ne_true (is_under p q) (λ h. let front = under-front p q h in none front.0 front.1)

pub under_same : (p q : List (List ℕ)) → AreNames p → AreNames q → path_text q ≡ path_text p → is_under p q ≡ true
under_same p q hp hq e =
    let same : q ≡ p = sym (names_in-path_text q hq) ∙ ap names_in e ∙ names_in-path_text p hp in
    rw same (is_under-refl p)

long : (n : List ℕ) (p : List (List ℕ)) (b : ℕ) (rest : List ℕ) → AreNames (n ∷ p) → 47 ∷ [] ≡ path_text (n ∷ p) ++ (b ∷ rest) → ⊥
long n p b rest h e = omega (arith, ap length e, (is_name-length n (AreNames-cons n p h).0).0, length-append (47 ∷ n ++ slashed p) (b ∷ rest), length-append n (slashed p))

pub under_slash : (p q : List (List ℕ)) (b : ℕ) (rest : List ℕ) → AreNames p → AreNames q → b ≡ 47 → path_text q ≡ path_text p ++ b ∷ rest → is_under p q ≡ true
under_slash [] q b rest hp hq at e = refl
under_slash (n ∷ p) [] b rest hp hq at e = absurd (long n p b rest hp e)
under_slash (n ∷ p) (m ∷ q) b rest hp hq at e =
    let below = slashed-front (n ∷ p) (m ∷ q) (b ∷ rest) hp hq (eq-eqb b 47 at) e in
    ap (is_under (n ∷ p)) below.1 ∙ is_under-append (n ∷ p) below.0

other_byte : (b : ℕ) (rest : List ℕ) (below : List (List ℕ)) → (b ≡ 47 → ⊥) → slashed below ≡ b ∷ rest → ⊥
other_byte b rest [] ne e = cc
other_byte b rest (n ∷ below) ne e = ne cc

pub under_other : (p q : List (List ℕ)) (b : ℕ) (rest : List ℕ) → (p ≡ [] → ⊥) → (b ≡ 47 → ⊥) → path_text q ≡ path_text p ++ b ∷ rest → is_under p q ≡ false
under_other [] q b rest some ne e = absurd (some refl)
under_other (n ∷ p) q b rest some ne e = false_from_ne_true (is_under (n ∷ p) q) (λ h.
    let below = is_under-rest (n ∷ p) q h in
    let whole : path_text q ≡ slashed (n ∷ p) ++ slashed below.0 = ap path_text below.1 ∙ slashed-append (n ∷ p) below.0 in
    other_byte b rest below.0 ne (append_cancel_left (slashed (n ∷ p)) (slashed below.0) (b ∷ rest) (sym whole ∙ e)))

-- ---- where a name begins and ends

name_start : (text cuts : List ℕ) (ns : List (List ℕ)) (i : ℕ) → IsCut text cuts → names_in text ≡ ns → (i ≡ 0 → ⊥) → i < length cuts → get_or cuts (i - 1) 0 + 1 ≡ length (slashed (take i ns)) + 1
name_start text cuts ns i h e some l =
    let at : suc (i - 1) ≡ i = omega arith in
    ap (λ x. x + 1) (cut_at text cuts ns (i - 1) h e (omega arith) ∙ ap (λ x. length (slashed (take x ns))) at)

start_cases : (t : Bool) (text cuts : List ℕ) (ns : List (List ℕ)) (i : ℕ) → (i == 0) ≡ t → IsCut text cuts → names_in text ≡ ns → i < length cuts → cond t 1 (get_or cuts (i - 1) 0 + 1) ≡ length (slashed (take i ns)) + 1
start_cases true text cuts ns i at h e l = ap (λ x. length (slashed (take x ns)) + 1) (sym (eqb-true i 0 at))
start_cases false text cuts ns i at h e l = name_start text cuts ns i h e (eqb-false i 0 at) l

pub start_is : (text cuts : List ℕ) (i start : ℕ) → IsCut text cuts → i < length cuts → start ≡ cond (i == 0) 1 (get_or cuts (i - 1) 0 + 1) → start ≡ length (slashed (take i (names_in text))) + 1
start_is text cuts i start h l e = e ∙ start_cases (i == 0) text cuts (names_in text) i refl h refl l

pub name_end : (text cuts : List ℕ) (ns : List (List ℕ)) (i : ℕ) → IsCut text cuts → names_in text ≡ ns → i < length cuts → get_or cuts i 0 ≡ length (slashed (take i ns)) + 1 + length (get_or ns i [])
name_end text cuts ns i h e l = cut_at text cuts ns i h e l ∙ slashed-more ns i (omega (arith, cuts-length text cuts ns h e))

pub name_cut : (text cuts : List ℕ) (ns : List (List ℕ)) (i start : ℕ) → IsCut text cuts → names_in text ≡ ns → i < length cuts → start ≡ length (slashed (take i ns)) + 1 → take (get_or cuts i 0 - start) (drop start text) ≡ get_or ns i []
name_cut text cuts ns i start h e l at =
    let size : get_or cuts i 0 - start ≡ length (get_or ns i []) = omega (arith, at, name_end text cuts ns i h e l) in
    ap (λ x. take x (drop start text)) size ∙ ap (λ x. take (length (get_or ns i [])) (drop x text)) at ∙ name_here text cuts ns i h e l

pub end_fits : (text cuts : List ℕ) (ns : List (List ℕ)) (i : ℕ) → IsCut text cuts → names_in text ≡ ns → i < length cuts → get_or cuts i 0 ≤ length text
end_fits text cuts ns i h e l = omega (arith, name_end text cuts ns i h e l, name_fits text cuts ns i h e l)

-- ---- the texts of two paths

pub text_front : (p q : List (List ℕ)) (s t x : List ℕ) → s ≡ path_text q → t ≡ path_text p → pointwise nat_eq (take (length t) s) t ≡ true → x ≡ drop (length t) s → path_text q ≡ path_text p ++ x
text_front p q s t x es et same rest =
    let front : take (length t) s ≡ t = (bytes_eq-Decides (take (length t) s) t).0 same in
    sym es ∙ sym (take-append-drop (length t) s) ∙ ap (λ y. y ++ drop (length t) s) front ∙ ap (λ y. t ++ y) (sym rest) ∙ ap (λ y. y ++ x) et

pub text_no_front : (p q : List (List ℕ)) (s t : List ℕ) → s ≡ path_text q → t ≡ path_text p → pointwise nat_eq (take (length t) s) t ≡ false → is_under p q ≡ false
text_no_front p q s t es et other = under_none p q (λ rest e.
    let whole : s ≡ t ++ rest = es ∙ e ∙ ap (λ y. y ++ rest) (sym et) in
    let front : take (length t) s ≡ t = ap (take (length t)) whole ∙ take_at t rest (length t) refl in
    both_ways (pointwise nat_eq (take (length t) s) t) other ((bytes_eq-Decides (take (length t) s) t).1 front))

under_at : (t : Bool) (p q : List (List ℕ)) (b : ℕ) (rest : List ℕ) → (b == 47) ≡ t → AreNames p → AreNames q → (p ≡ [] → ⊥) → path_text q ≡ path_text p ++ b ∷ rest → t ≡ is_under p q
under_at true p q b rest at hp hq some e = sym (under_slash p q b rest hp hq (eqb-true b 47 at) e)
under_at false p q b rest at hp hq some e = sym (under_other p q b rest some (eqb-false b 47 at) e)

pub under_rest : (p q : List (List ℕ)) (rest : List ℕ) → AreNames p → AreNames q → (p ≡ [] → ⊥) → 1 ≤ length rest → path_text q ≡ path_text p ++ rest → (get_or rest 0 0 == 47) ≡ is_under p q
under_rest p q [] hp hq some l e = absurd (omega arith)
under_rest p q (b ∷ rest) hp hq some l e = under_at (b == 47) p q b rest refl hp hq some e

-- ---- the names up to one

pub key_of-more : (ns : List (List ℕ)) (i : ℕ) → i < length ns → key_of (take (i + 1) ns) ≡ (key_of (take i ns) ++ get_or ns i []) ++ 0 ∷ []
key_of-more ns i l =
    ap key_of (take_more ns i [] l) ∙ key_of-append (take i ns) (get_or ns i [] ∷ [])
    ∙ ap (λ x. key_of (take i ns) ++ x) (append-nil (get_or ns i [] ++ 0 ∷ []))
    ∙ sym (append_assoc (key_of (take i ns)) (get_or ns i []) (0 ∷ []))
