-- The names that come after another in the listing of a directory.
use Rattle.std.proofs.Common.{◌≡◌, ℕ, zero, suc, Bool, true, false, cond, List, [], ◌∷◌, map, Less, refl, sym, ap, subst, ◌∙◌, arith}
use Rattle.std.specs.Prelude.{Option, None, Some}
use Rattle.std.specs.List.{filter, Contains, AllByRecursion}
use Rattle.std.specs.List.Sorted.{IsStrictlySortedBy}
use Rattle.std.specs.Ordering.{nat_cmp, is_lt}
use Rattle.std.specs.Cmp.Lexicographic.{slice_cmp}
use Rattle.bd_command.specs.declared.reply.Listed.{Listed}
use Rattle.bd_keys.specs.Keys.{key_cmp, IsBelow}
use Rattle.bd_keys.proofs.Order.{is_lt-less}
use Rattle.std.specs.Option.{option_map}
use Rattle.std.specs.FinMap.{get}
use Rattle.bd_command.specs.declared.Command.TheVariants.{List as Ls}
use Rattle.bd_command.specs.declared.reply.Listing.{Listing}
use Rattle.bd_command.specs.declared.reply.Reply.TheVariants.{Names}
use Rattle.bd_records.specs.declared.Record.{Record}
use Rattle.bd_records.specs.declared.Record.TheVariants.{Dir}
use Rattle.bd_represent.specs.Represents.{record_of}
use Rattle.bd_model.specs.Tree.{Entry, Directory, FileWith, Tree}
use Rattle.bd_model.specs.Step.{those_after, children, listing_of, step, stepped, directory_refusal}
use Rattle.std.proofs.lemmas.Cmp.{nat_list_cmp_total as total}
use Rattle.bd_dirs.proofs.ChildOrder.{not_twice_below}
use Rattle.bd_dirs.specs.Listings.{lower}

-- names that rise
abbrev pub Rises : List Listed → Type 0
Rises ls = IsStrictlySortedBy (slice_cmp nat_cmp) (map (λ l. l.name) ls)

-- a name is below each of them
abbrev Below : List ℕ → List Listed → Type 0
Below n ls = AllByRecursion (λ m. key_cmp n m ≡ Less) (map (λ l. l.name) ls)

abbrev is_after : List ℕ → Listed → Bool
is_after n l = is_lt (slice_cmp nat_cmp n l.name)

pub after_below : (n : List ℕ) (l : Listed) → is_after n l ≡ true → IsBelow n l.name
after_below n l h = (is_lt-less (slice_cmp nat_cmp n l.name)).0 h

pub below_after : (n : List ℕ) (l : Listed) → IsBelow n l.name → is_after n l ≡ true
below_after n l h = ap is_lt h

rises-first : (l : Listed) (ls : List Listed) → Rises (l ∷ ls) → Below l.name ls
unfolding IsStrictlySortedBy
rises-first l ls h = h.0

rises-rest : (l : Listed) (ls : List Listed) → Rises (l ∷ ls) → Rises ls
unfolding IsStrictlySortedBy
rises-rest l ls h = h.1

below-first : (n : List ℕ) (l : Listed) (ls : List Listed) → Below n (l ∷ ls) → IsBelow n l.name
below-first n l ls h = h.0

below-rest : (n : List ℕ) (l : Listed) (ls : List Listed) → Below n (l ∷ ls) → Below n ls
below-rest n l ls h = h.1

-- where a name is below each, all are after it
all_after : (n : List ℕ) (ls : List Listed) → Below n ls → filter (is_after n) ls ≡ ls
all_after n [] h = refl
all_after n (l ∷ ls) h = by (is_after n l) (below_after n l (below-first n l ls h)) (all_after n ls (below-rest n l ls h))
  where
    by : (b : Bool) → b ≡ true → filter (is_after n) ls ≡ ls → cond b (l ∷ filter (is_after n) ls) (filter (is_after n) ls) ≡ l ∷ ls
    by true e ih = ap (λ (r : List Listed). l ∷ r) ih
    by false e ih = cc

below_trans : (m n : List ℕ) (ls : List Listed) → IsBelow m n → Below n ls → Below m ls
below_trans m n [] less h = tt
below_trans m n (l ∷ ls) less h = (total.trans m n l.name less (below-first n l ls h), below_trans m n ls less (below-rest n l ls h))

not_itself : (n : List ℕ) (l : Listed) → (is_after n l ≡ true → ⊥) → is_after n l ≡ false
not_itself n l never = by (is_after n l) refl never
  where
    by : (b : Bool) → is_after n l ≡ b → (is_after n l ≡ true → ⊥) → b ≡ false
    by true e f = absurd (f e)
    by false e f = refl

-- an element of a filtered list is one of the list, at which the test is true
pub filter-has : (P : Listed → Bool) (ls : List Listed) (l : Listed) → Contains ls l → P l ≡ true → Contains (filter P ls) l
filter-has P [] l (k, h, e) t = absurd (omega arith)
filter-has P (x ∷ ls) l (zero, h, e) t = by (P x) (ap P e ∙ t)
  where
    by : (b : Bool) → b ≡ true → Contains (cond b (x ∷ filter P ls) (filter P ls)) l
    by true f = (0, omega arith, e)
    by false f = cc
filter-has P (x ∷ ls) l (suc k, h, e) t = by (P x) (filter-has P ls l (k, omega arith, e) t)
  where
    by : (b : Bool) → Contains (filter P ls) l → Contains (cond b (x ∷ filter P ls) (filter P ls)) l
    by true (j, g, f) = (suc j, omega arith, f)
    by false ih = ih

pub filter-first : (P : Listed → Bool) (ls : List Listed) (l : Listed) (rest : List Listed) → filter P ls ≡ l ∷ rest → Contains ls l × (P l ≡ true)
filter-first P [] l rest h = cc
filter-first P (x ∷ ls) l rest h = by (P x) refl h (filter-first P ls l rest)
  where
    by : (b : Bool) → P x ≡ b → cond b (x ∷ filter P ls) (filter P ls) ≡ l ∷ rest → (filter P ls ≡ l ∷ rest → Contains ls l × (P l ≡ true)) → Contains (x ∷ ls) l × (P l ≡ true)
    by true e is ih = let same : x ≡ l = cc in ((0, omega arith, same), sym (ap P same) ∙ e)
    by false e is ih = let found = ih is in ((suc found.0.0, omega (arith, found.0.1), found.0.2), found.1)

below_each : (n : List ℕ) (ls : List Listed) (l : Listed) → Below n ls → Contains ls l → IsBelow n l.name
below_each n [] l h (k, g, e) = absurd (omega arith)
below_each n (x ∷ ls) l h (zero, g, e) = subst (λ (y : Listed). IsBelow n y.name) e (below-first n x ls h)
below_each n (x ∷ ls) l h (suc k, g, e) = below_each n ls l (below-rest n x ls h) (k, omega arith, e)

-- those after the first of those after a name are the others
filtered-more : (n : List ℕ) (ls : List Listed) (l : Listed) (rest : List Listed) → Rises ls → filter (is_after n) ls ≡ l ∷ rest → filter (is_after l.name) ls ≡ rest
filtered-more n [] l rest rises h = cc
filtered-more n (x ∷ ls) l rest rises h = by (is_after n x) refl h (filtered-more n ls l rest (rises-rest x ls rises))
  where
    skip : (m : List ℕ) → is_after m x ≡ false → filter (is_after m) (x ∷ ls) ≡ filter (is_after m) ls
    skip m e = ap (λ (b : Bool). cond b (x ∷ filter (is_after m) ls) (filter (is_after m) ls)) e

    by : (b : Bool) → is_after n x ≡ b → cond b (x ∷ filter (is_after n) ls) (filter (is_after n) ls) ≡ l ∷ rest
        → (filter (is_after n) ls ≡ l ∷ rest → filter (is_after l.name) ls ≡ rest) → filter (is_after l.name) (x ∷ ls) ≡ rest
    by true e is ih =
        let same : x ≡ l = cc in
        let others : filter (is_after n) ls ≡ rest = cc in
        let below = rises-first x ls rises in
        let all = all_after n ls (below_trans n x.name ls (after_below n x e) below) in
        subst (λ (y : Listed). filter (is_after y.name) (x ∷ ls) ≡ rest) same
        (skip x.name (not_itself x.name x (λ t. not_twice_below x.name x.name (after_below x.name x t) (after_below x.name x t))) ∙ all_after x.name ls below ∙ sym all ∙ others)
    by false e is ih =
        let found = filter-first (is_after n) ls l rest is in
        let less = below_each x.name ls l (rises-first x ls rises) found.0 in
        skip l.name (not_itself l.name x (λ t. not_twice_below x.name l.name less (after_below l.name x t))) ∙ ih is

pub after-more : (after : Option (List ℕ)) (ls : List Listed) (l : Listed) (rest : List Listed) → Rises ls → those_after after ls ≡ l ∷ rest → those_after (Some l.name) ls ≡ rest
after-more None [] l rest rises h = cc
after-more None (x ∷ ls) l rest rises h =
    let same : x ≡ l = cc in
    let others : ls ≡ rest = cc in
    subst (λ (y : Listed). filter (is_after y.name) (x ∷ ls) ≡ rest) same
    (ap (λ (b : Bool). cond b (x ∷ filter (is_after x.name) ls) (filter (is_after x.name) ls)) (not_itself x.name x (λ t. not_twice_below x.name x.name (after_below x.name x t) (after_below x.name x t)))
    ∙ all_after x.name ls (rises-first x ls rises) ∙ others)
after-more (Some n) ls l rest rises h = filtered-more n ls l rest rises h

-- ---- those after a name or from the first on

pub those-has : (after : Option (List ℕ)) (ls : List Listed) (l : Listed) → Contains ls l → IsBelow (lower after) l.name → Contains (those_after after ls) l
those-has None ls l h less = h
those-has (Some n) ls l h less = filter-has (is_after n) ls l h (below_after n l less)

filter-only : (P : Listed → Bool) (ls : List Listed) (l : Listed) → Contains (filter P ls) l → P l ≡ true
filter-only P [] l (k, h, e) = absurd (omega arith)
filter-only P (x ∷ ls) l h = by (P x) refl h (filter-only P ls l)
  where
    by : (b : Bool) → P x ≡ b → Contains (cond b (x ∷ filter P ls) (filter P ls)) l → (Contains (filter P ls) l → P l ≡ true) → P l ≡ true
    by true e (zero, g, f) ih = sym (ap P f) ∙ e
    by true e (suc k, g, f) ih = ih (k, omega arith, f)
    by false e g ih = ih g

-- the first of those after a name is the one that none of them is below
pub first-least : (after : Option (List ℕ)) (ls : List Listed) (l x : Listed) (rest : List Listed) → Rises ls → those_after after ls ≡ x ∷ rest → Contains (x ∷ rest) l → (IsBelow x.name l.name → ⊥) → x ≡ l
first-least after ls l x rest rises is (zero, g, e) least = e
first-least after ls l x rest rises is (suc k, g, e) least =
    let others : those_after (Some x.name) ls ≡ rest = after-more after ls x rest rises is in
    let at : Contains (filter (is_after x.name) ls) l = subst (λ (r : List Listed). Contains r l) (sym others) (k, omega arith, e) in
    absurd (least (after_below x.name l (filter-only (is_after x.name) ls l at)))

pub those-first : (after : Option (List ℕ)) (ls : List Listed) (x : Listed) (rest : List Listed) → those_after after ls ≡ x ∷ rest → (Contains ls x) × (IsBelow [] x.name → IsBelow (lower after) x.name)
those-first None [] x rest is = cc
those-first None (y ∷ ls) x rest is = let same : y ≡ x = cc in ((0, omega arith, same), λ h. h)
those-first (Some n) ls x rest is = let found = filter-first (is_after n) ls x rest is in (found.0, λ h. after_below n x found.1)

-- the reply to a listing of a directory
pub list_reply : (t : Tree) (path : List (List ℕ)) (after : Option (List ℕ)) (mode : ℕ) (found : Option Record) (listing : Listing) → found ≡ option_map record_of (get t path) → found ≡ Some (Dir mode)
    → listing ≡ listing_of (those_after after (children path t)) → Names listing ≡ (step t (Ls path after)).1
list_reply t path after mode found listing e f is = by (get t path) refl e
  where
    by : (o : Option Entry) → get t path ≡ o → found ≡ option_map record_of o → Names listing ≡ (step t (Ls path after)).1
    by None at g = cc
    by (Some (FileWith m bytes)) at g = cc
    by (Some (Directory m)) at g = ap Names is ∙ sym (ap (λ (o : Option Entry). (stepped t (Ls path after) (directory_refusal o)).1) at)
