-- Messages of a node freed of a prefix that none of them covers.
use Rattle.std.proofs.Common.{◌≡◌, ℕ, zero, suc, ◌+◌, ◌≤◌, Bool, true, false, cond, List, [], ◌∷◌, ◌++◌, drop, refl, sym, ap, subst, ◌∙◌, Option, None, Some, arith}
use Rattle.std.specs.Prelude.{IfSome}
use Rattle.std.specs.Option.{option_to_list, option_map}
use Rattle.std.specs.List.{AllByRecursion, flat_map, sum_by}
use Rattle.std.proofs.lemmas.List.Sums.{sum_by-cons, sum_by-append}
use Rattle.bd_message.specs.declared.message.Message.{Message}
use Rattle.bd_message.specs.declared.message.Message.TheVariants.{Put, Del, Patch, Cut, Goto}
use Rattle.bd_message.specs.Messages.{IsMessage, size}
use Rattle.bd_message.specs.Effect.{NodesAt, begins, rest, acts}
use Rattle.bd_message.specs.Freeing.{stem, from_after, narrowed, stripped, freed}
use Rattle.bd_message.proofs.Freed.{freed_effect, kept_message, kept_size}
use Rattle.bd_node.specs.Nodes.{message_names}
use Rattle.bd_node.proofs.Appending.{acts-append}
use Rattle.bd_node.proofs.Lookup.{each_first, each_second, each_both}
use Rattle.bd_resolve.specs.Following.{covers, NoneCovers}
use Rattle.bd_graft.specs.Layers.{all_freed}

-- ---- what freed messages do

pub all_freed_effect : (below : NodesAt) (s : List ℕ) (ms : List Message) (k : List ℕ) (old : Option (List ℕ)) → acts below (all_freed s ms) k old ≡ acts below ms (s ++ k) old
all_freed_effect below s [] k old = refl
all_freed_effect below s (m ∷ ms) k old =
    acts-append below (option_to_list (freed s m)) (all_freed s ms) k old
    ∙ all_freed_effect below s ms k (acts below (option_to_list (freed s m)) k old)
    ∙ ap (λ v. acts below ms (s ++ k) v) (freed_effect below s m k old)

-- ---- what freed messages name

stripped_names : (s : List ℕ) (m : Message) → message_names (stripped s m) ≡ message_names m
stripped_names s (Put key value) = refl
stripped_names s (Del key) = refl
stripped_names s (Patch key off bytes) = refl
stripped_names s (Cut prefix from) = refl
stripped_names s (Goto prefix source child) = refl

one_name : (P : ℕ → Type 0) (m : Message) → AllByRecursion P (message_names m) → AllByRecursion P (flat_map message_names (m ∷ []))
one_name P m h = each_both P (message_names m) [] h tt

cut_names : (P : ℕ → Type 0) (s : List ℕ) (o : Option (List ℕ)) → AllByRecursion P (flat_map message_names (option_to_list (option_map (stripped s) (option_map (λ f. Cut s f) o))))
cut_names P s None = tt
cut_names P s (Some f) = tt

goto_name : (P : ℕ → Type 0) (s prefix source : List ℕ) (child : ℕ) (b : Bool) → AllByRecursion P (child ∷ []) → AllByRecursion P (flat_map message_names (option_to_list (option_map (stripped s) (cond b (Some (Goto s (source ++ rest prefix s) child)) None))))
goto_name P s prefix source child true h = (h.0, tt)
goto_name P s prefix source child false h = tt

cut_name : (P : ℕ → Type 0) (s prefix from : List ℕ) (b : Bool) → AllByRecursion P (flat_map message_names (option_to_list (option_map (stripped s) (cond b (option_map (λ f. Cut s f) (from_after (rest prefix s) from)) None))))
cut_name P s prefix from true = cut_names P s (from_after (rest prefix s) from)
cut_name P s prefix from false = tt

narrowed_names : (P : ℕ → Type 0) (s : List ℕ) (m : Message) → AllByRecursion P (message_names m) → AllByRecursion P (flat_map message_names (option_to_list (option_map (stripped s) (narrowed s m))))
narrowed_names P s (Put key value) h = tt
narrowed_names P s (Del key) h = tt
narrowed_names P s (Patch key off bytes) h = tt
narrowed_names P s (Cut prefix from) h = cut_name P s prefix from (begins s prefix)
narrowed_names P s (Goto prefix source child) h = goto_name P s prefix source child (begins s prefix) h

by_stem : (P : ℕ → Type 0) (s : List ℕ) (m : Message) (b : Bool) → AllByRecursion P (message_names m) → AllByRecursion P (flat_map message_names (option_to_list (option_map (stripped s) (cond b (Some m) (narrowed s m)))))
by_stem P s m true h = one_name P (stripped s m) (subst (λ (ns : List ℕ). AllByRecursion P ns) (sym (stripped_names s m)) h)
by_stem P s m false h = narrowed_names P s m h

pub names_both : (P : ℕ → Type 0) (xs ys : List Message) → AllByRecursion P (flat_map message_names xs) → AllByRecursion P (flat_map message_names ys) → AllByRecursion P (flat_map message_names (xs ++ ys))
names_both P [] ys h g = g
names_both P (x ∷ xs) ys h g =
    each_both P (message_names x) (flat_map message_names (xs ++ ys)) (each_first P (message_names x) (flat_map message_names xs) h)
    (names_both P xs ys (each_second P (message_names x) (flat_map message_names xs) h) g)

pub all_freed_names : (P : ℕ → Type 0) (s : List ℕ) (ms : List Message) → AllByRecursion P (flat_map message_names ms) → AllByRecursion P (flat_map message_names (all_freed s ms))
all_freed_names P s [] h = tt
all_freed_names P s (m ∷ ms) h =
    names_both P (option_to_list (freed s m)) (all_freed s ms) (by_stem P s m (begins (stem m) s) (each_first P (message_names m) (flat_map message_names ms) h))
    (all_freed_names P s ms (each_second P (message_names m) (flat_map message_names ms) h))

-- ---- freed messages are messages, and no larger

-- a message freed, if there is one, is a message of at most so many bytes
abbrev pub IsSmall : ℕ → List Message → Type 0
IsSmall most ms = AllByRecursion IsMessage ms × (sum_by size ms ≤ most)

small_some : (most : ℕ) (n : Message) → IsMessage n → size n ≤ most → IsSmall most (n ∷ [])
small_some most n own le = ((own, tt), omega (arith, sum_by-cons size n []))

small_if : (most : ℕ) (o : Option Message) → IfSome o IsMessage → IfSome o (λ n. size n ≤ most) → IsSmall most (option_to_list o)
small_if most None own le = (tt, omega arith)
small_if most (Some n) own le = small_some most n own le

goto_freed : (s prefix source : List ℕ) (child : ℕ) (b : Bool) → begins prefix s ≡ b → begins s prefix ≡ false → IsMessage (Goto prefix source child) → IsSmall (size (Goto prefix source child)) (option_to_list (freed s (Goto prefix source child)))
goto_freed s prefix source child true inside none own =
    small_if (size (Goto prefix source child)) (freed s (Goto prefix source child)) (kept_message s (Goto prefix source child) inside own) (kept_size s (Goto prefix source child) inside)
goto_freed s prefix source child false outside none own =
    subst (λ (o : Option Message). IsSmall (size (Goto prefix source child)) (option_to_list o)) (sym (
    ap (λ (b : Bool). option_map (stripped s) (cond b (Some (Goto prefix source child)) (narrowed s (Goto prefix source child)))) outside
    ∙ ap (λ (b : Bool). option_map (stripped s) (cond b (Some (Goto s (source ++ rest prefix s) child)) None)) none))
    (tt, omega arith)

freed_small : (s : List ℕ) (m : Message) → covers m s ≡ false → IsMessage m → IsSmall (size m) (option_to_list (freed s m))
freed_small s (Put key value) none own = small_if _ (freed s (Put key value)) (kept_message s (Put key value) tt own) (kept_size s (Put key value) tt)
freed_small s (Del key) none own = small_if _ (freed s (Del key)) (kept_message s (Del key) tt own) (kept_size s (Del key) tt)
freed_small s (Patch key off bytes) none own = small_if _ (freed s (Patch key off bytes)) (kept_message s (Patch key off bytes) tt own) (kept_size s (Patch key off bytes) tt)
freed_small s (Cut prefix from) none own = small_if _ (freed s (Cut prefix from)) (kept_message s (Cut prefix from) tt own) (kept_size s (Cut prefix from) tt)
freed_small s (Goto prefix source child) none own = goto_freed s prefix source child (begins prefix s) refl none own

-- none of these covers the prefix
abbrev pub Uncovered : List ℕ → List Message → Type 0
Uncovered s ms = AllByRecursion (λ m. covers m s ≡ false) ms

small_both : (a b : ℕ) (xs ys : List Message) → IsSmall a xs → IsSmall b ys → IsSmall (a + b) (xs ++ ys)
small_both a b xs ys h g = (each_both IsMessage xs ys h.0 g.0, (let p : sum_by size xs ≤ a = h.1 in let q : sum_by size ys ≤ b = g.1 in omega (arith, sum_by-append size xs ys)))

pub all_freed_small : (s : List ℕ) (ms : List Message) → Uncovered s ms → AllByRecursion IsMessage ms → IsSmall (sum_by size ms) (all_freed s ms)
all_freed_small s [] none own = (tt, omega arith)
all_freed_small s (m ∷ ms) none own =
    subst (λ (n : ℕ). IsSmall n (all_freed s (m ∷ ms))) (sym (sum_by-cons size m ms))
    (small_both (size m) (sum_by size ms) (option_to_list (freed s m)) (all_freed s ms) (freed_small s m none.0 own.0) (all_freed_small s ms none.1 own.1))

-- those from a place on from which none covers it
pub uncovered_from : (ms : List Message) (from : ℕ) (s : List ℕ) → NoneCovers ms from s → Uncovered s (drop from ms)
uncovered_from [] zero s none = tt
uncovered_from [] (suc from) s none = tt
uncovered_from (m ∷ ms) zero s none = (none 0 m (omega arith) refl, uncovered_from ms 0 s (λ place n le there. none (suc place) n (omega arith) there))
uncovered_from (m ∷ ms) (suc from) s none = uncovered_from ms from s (λ place n le there. none (suc place) n (omega arith) there)
