-- The reply to a `list` of a directory is taken, and gives the first of its names after one.
use Rattle.std.proofs.Common.{◌≡◌, inl, inr, ℕ, zero, suc, ◌<◌, ◌≤◌, List, [], ◌∷◌, ◌++◌, length, map, take, drop, Bool, true, false, cond, Option, None, Some, Less, refl, sym, ap, ◌∙◌, arith}
use Rattle.std.specs.Prelude.{◌&&◌, nat_lt, nat_le, ◌==◌, unwrap_or}
use Rattle.std.specs.List.{AllByRecursion}
use Rattle.std.specs.List.Sorted.{IsStrictlySortedBy}
use Rattle.std.specs.Ordering.{is_lt}
use Rattle.std.specs.FinMap.{get}
use Rattle.std.proofs.lemmas.Bool.{ltb-true, ltb-false, le-leb, eq-eqb}
use Rattle.std.proofs.lemmas.List.{take-append-drop, map-append, length-take-le}
use Rattle.bd_limits.specs.Limits.{listing_limit}
use Rattle.bd_names.specs.Names.{is_name}
use Rattle.bd_names.proofs.NamesLaws.{AreNames-parts, AreNames-cons, is_name-length}
use Rattle.bd_command.specs.declared.Command.TheVariants.{List as Ls}
use Rattle.bd_command.specs.declared.reply.Listed.{Listed}
use Rattle.bd_command.specs.declared.reply.Reply.{Reply}
use Rattle.bd_command.specs.declared.reply.Reply.TheVariants.{Names}
use Rattle.bd_model.specs.Tree.{Path, Name, Entry, Directory, Tree, IsTree}
use Rattle.bd_model.specs.Step.{children, those_after, listing_of, directory_refusal, step, stepped}
use Rattle.bd_stream.specs.Exporting.{are_rising, is_count, names_after}
use Rattle.bd_stream.specs.Exports.{names_in}
use Rattle.bd_stream.proofs.OrderLemmas.{name_cmp, is_after}
use Rattle.bd_stream.proofs.NameLemmas.{Has, name_there, names_sorted}

-- ---- the number of names

take_all : {X : Type 0} (n : ℕ) (xs : List X) → length xs ≤ n → length (take n xs) ≤ n
take_all zero xs h = omega arith
take_all (suc n) [] h = omega arith
take_all (suc n) (x ∷ xs) h = (let rest : length (take n xs) ≤ n = take_all n xs (omega arith) in omega arith)

count_by : {X : Type 0} (more : Bool) (xs : List X) → (more ≡ true → listing_limit < length xs) → (more ≡ false → length xs ≤ listing_limit) → is_count more (length (take listing_limit xs)) ≡ true
count_by true xs above below = eq-eqb (length (take listing_limit xs)) listing_limit (length-take-le listing_limit xs (omega (arith, above refl)))
count_by false xs above below = le-leb (length (take listing_limit xs)) listing_limit (take_all listing_limit xs (below refl))

count_ok : {X : Type 0} (xs : List X) → is_count (nat_lt listing_limit (length xs)) (length (take listing_limit xs)) ≡ true
count_ok xs = count_by (nat_lt listing_limit (length xs)) xs (ltb-true listing_limit (length xs)) (ltb-false listing_limit (length xs))

-- ---- names that rise

all_of : (P : Name → Type 0) (ns : List Name) → ((k : Name) → Has k ns → P k) → AllByRecursion P ns
unfolding Has
all_of P [] f = tt
all_of P (n ∷ ns) f = (f n (inl refl), all_of P ns (λ k h. f k (inr h)))

all_lt : (n : Name) (ns : List Name) → AllByRecursion (λ m. name_cmp n m ≡ Less) ns → AllByRecursion (λ m. is_lt (name_cmp n m) ≡ true) ns
all_lt n [] all = tt
all_lt n (m ∷ ns) all = (ap is_lt all.0, all_lt n ns all.1)

three : (a b c : Bool) → a ≡ true → b ≡ true → c ≡ true → ((a && b) && c) ≡ true
three true true true e f g = refl
three true true false e f g = cc
three true false c e f g = cc
three false b c e f g = cc

rising : (a : Name) (ls : List Listed) → IsStrictlySortedBy name_cmp (map (λ (l : Listed). l.name) ls) → AllByRecursion (λ n. is_name n ≡ true) (map (λ (l : Listed). l.name) ls) → AllByRecursion (λ n. is_lt (name_cmp a n) ≡ true) (map (λ (l : Listed). l.name) ls) → are_rising a ls ≡ true
unfolding IsStrictlySortedBy
rising a [] sorted names above = refl
rising a (l ∷ ls) sorted names above =
    three (is_name l.name) (is_lt (name_cmp a l.name)) (are_rising l.name ls) names.0 above.0
    (rising l.name ls sorted.1 names.1 (all_lt l.name (map (λ (x : Listed). x.name) ls) sorted.0))

rising_take : (k : ℕ) (a : Name) (ls : List Listed) → are_rising a ls ≡ true → are_rising a (take k ls) ≡ true
rising_take zero a ls h = refl
rising_take (suc k) a [] h = refl
rising_take (suc k) a (l ∷ ls) h = by (is_name l.name && is_lt (name_cmp a l.name)) h (rising_take k l.name ls)
  where
    by : (b : Bool) → (b && are_rising l.name ls) ≡ true → (are_rising l.name ls ≡ true → are_rising l.name (take k ls) ≡ true) → (b && are_rising l.name (take k ls)) ≡ true
    by true e ih = ih e
    by false e ih = cc

-- each name in a directory is one
names_named : (t : Tree) → IsTree t → (d : Path) (lo : Option Name) (k : Name) → Has k (names_in t d lo) → is_name k ≡ true
names_named t tree d lo k h =
    let found = name_there t d lo k h in
    let names = tree.names (d ++ k ∷ []) (ap Rattle.std.specs.Prelude.is_some found.0.1) in
    (AreNames-cons k [] (AreNames-parts d (k ∷ []) names).1).0

some_above : (n : Name) → is_name n ≡ true → is_lt (name_cmp [] n) ≡ true
some_above [] h = absurd (let size = is_name-length [] h in omega arith)
some_above (b ∷ bs) h = refl

above_from : (lo : Option Name) (n : Name) → is_name n ≡ true → is_after lo n ≡ true → is_lt (name_cmp (unwrap_or lo []) n) ≡ true
above_from None n name h = some_above n name
above_from (Some m) n name h = h

rising_in : (t : Tree) → IsTree t → (d : Path) (lo : Option Name) → are_rising (unwrap_or lo []) (those_after lo (children d t)) ≡ true
rising_in t tree d lo =
    rising (unwrap_or lo []) (those_after lo (children d t)) (names_sorted t d lo)
    (all_of (λ n. is_name n ≡ true) (names_in t d lo) (names_named t tree d lo))
    (all_of (λ n. is_lt (name_cmp (unwrap_or lo []) n) ≡ true) (names_in t d lo) (λ k h. above_from lo k (names_named t tree d lo k h) (name_there t d lo k h).1))

-- ---- the reply

-- a reply gives names, the first of those in a directory after one
pub record IsListed (t : Tree) (d : Path) (lo : Option Name) (reply : Reply) : Type 0 where
  pub names : List Name
  pub more : List Name
  pub given : names_after (unwrap_or lo []) reply ≡ Some names
  pub whole : names_in t d lo ≡ names ++ more
  pub none : names ≡ [] → names_in t d lo ≡ []

taken_by : (after : Name) (xs : List Listed) → are_rising after xs ≡ true → names_after after (Names (listing_of xs)) ≡ Some (map (λ (l : Listed). l.name) (take listing_limit xs))
taken_by after xs h =
    ap (λ (b : Bool). cond (b && are_rising after (take listing_limit xs)) (Some (map (λ (l : Listed). l.name) (take listing_limit xs))) None) (count_ok xs)
    ∙ ap (λ (b : Bool). cond b (Some (map (λ (l : Listed). l.name) (take listing_limit xs))) None) (rising_take listing_limit after xs h)

none_taken : (xs : List Listed) → map (λ (l : Listed). l.name) (take listing_limit xs) ≡ [] → map (λ (l : Listed). l.name) xs ≡ []
none_taken [] h = refl
none_taken (x ∷ xs) h = cc

pub listed_reply : (t : Tree) → IsTree t → (d : Path) (mode : ℕ) (lo : Option Name) → get t d ≡ Some (Directory mode) → IsListed t d lo (step t (Ls d lo)).1
listed_reply t tree d mode lo there =
    let xs = those_after lo (children d t) in
    let reply : (step t (Ls d lo)).1 ≡ Names (listing_of xs) = ap (λ (o : Option Entry). (stepped t (Ls d lo) (directory_refusal o)).1) there in
    record {
      names = map (λ (l : Listed). l.name) (take listing_limit xs);
      more = map (λ (l : Listed). l.name) (drop listing_limit xs);
      given = ap (names_after (unwrap_or lo [])) reply ∙ taken_by (unwrap_or lo []) xs (rising_in t tree d lo);
      whole = ap (λ (ls : List Listed). map (λ (l : Listed). l.name) ls) (sym (take-append-drop listing_limit xs)) ∙ map-append (λ (l : Listed). l.name) (take listing_limit xs) (drop listing_limit xs);
      none = none_taken xs;
    }
