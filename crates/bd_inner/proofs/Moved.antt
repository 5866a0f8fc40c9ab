-- Messages on the keys of a child.
use Rattle.std.proofs.Common.{◌≡◌, ℕ, zero, suc, ◌+◌, ◌<◌, ◌≤◌, List, [], ◌∷◌, ◌++◌, length, take, drop, refl, sym, ap, subst, ◌∙◌, Option, None, Some, arith, Result, Ok, Err, get_or, length-take-le, append_assoc, inl, inr}
use Rattle.std.specs.Prelude.{IfOk, IfSome}
use Rattle.std.proofs.lemmas.Option.{slice_get_within, get_or_from_slice_get}
use Rattle.bd_limits.specs.Limits.{batch_limit}
use Rattle.std.specs.Option.{option_to_list}
use Rattle.std.specs.List.{AllByRecursion, flat_map, sum_by}
use Rattle.std.proofs.lemmas.List.{take_more, take-append-drop, append-nil}
use Rattle.std.proofs.Math.Seq.{take-length}
use Rattle.std.proofs.lemmas.List.Sums.{sum_by-cons, sum_by-append}
use Rattle.std.proofs.lemmas.List.Concat.{flat_map-append}
use Rattle.bd_keys.specs.Keys.{IsKey, InRange}
use Rattle.bd_message.specs.declared.message.Message.{Message}
use Rattle.bd_message.specs.declared.message.Message.TheVariants.{Put, Del, Patch, Cut, Goto}
use Rattle.bd_message.specs.Messages.{IsMessage, IsPlain, size}
use Rattle.bd_message.specs.Effect.{act, acts}
use Rattle.bd_message.specs.Freeing.{stripped, freed}
use Rattle.bd_message.proofs.Freed.{if_freed, freed_effect, kept_message, kept_size}
use Rattle.bd_node.specs.declared.node.Edge.{Edge}
use Rattle.bd_node.specs.Nodes.{message_names}
use Rattle.bd_node.proofs.Lookup.{each_first, each_second, each_both}
use Rattle.bd_node.proofs.Appending.{acts-append}
use Rattle.bd_inner.specs.Batches.{goto_count, lifted, IsLifted, CanMove, IsMoved, SomeCanTouch, IsPart, AreParts, IsTooMuch, IsBatch}
use Rattle.bd_node.specs.Pushes.{IsPlainFor}
use Rattle.bd_node.specs.Touching.{CanTouch}
use Rattle.bd_node.proofs.Compacting.{count_names, count_names-append}

-- ---- the names of a freed message

stripped_names : (s : List ℕ) (m : Message) → message_names (stripped s m) ≡ message_names m
stripped_names s (Put key value) = refl
stripped_names s (Del key) = refl
stripped_names s (Patch key off bytes) = refl
stripped_names s (Cut prefix from) = refl
stripped_names s (Goto prefix source child) = refl

pub freed_names : (s : List ℕ) (m : Message) → IfSome (freed s m) (λ n. message_names n ≡ message_names m)
freed_names s m =
    if_freed (λ n. message_names n ≡ message_names m) s m (λ h. stripped_names s m)
    (λ p x f is within any. ap (λ (y : Message). message_names y) (sym is))
    (λ p source child is within. ap (λ (y : Message). message_names y) (sym is))

-- ---- several

goto_count-append : (c : ℕ) (xs ys : List Message) → goto_count c (xs ++ ys) ≡ goto_count c xs + goto_count c ys
goto_count-append c xs ys =
    ap (λ (l : List ℕ). count_names c l) (flat_map-append message_names xs ys)
    ∙ count_names-append c (flat_map message_names xs) (flat_map message_names ys)

pub moved_none : (e : Edge) (hi : Option (List ℕ)) → IsMoved e hi [] []
moved_none e hi = record {
  effect = λ below k key range old. refl;
  each = tt;
  size = omega arith;
  names = λ c. omega arith;
  plain = λ h. tt;
}

pub moved_both : (e : Edge) (hi : Option (List ℕ)) (xs ys a b : List Message) → IsMoved e hi xs a → IsMoved e hi ys b → IsMoved e hi (xs ++ ys) (a ++ b)
moved_both e hi xs ys a b h g = record {
  effect = λ below k key range old.
      acts-append below a b (drop e.lift k) old
      ∙ g.effect below k key range (acts below a (drop e.lift k) old)
      ∙ ap (λ (o : Option (List ℕ)). acts below ys k o) (h.effect below k key range old)
      ∙ sym (acts-append below xs ys k old);
  each = each_both IsMessage a b h.each g.each;
  size = (let p : sum_by size a ≤ sum_by size xs = h.size in let q : sum_by size b ≤ sum_by size ys = g.size in omega (arith, sum_by-append size a b, sum_by-append size xs ys));
  names = λ c. (let p : goto_count c a ≤ goto_count c xs = h.names c in let q : goto_count c b ≤ goto_count c ys = g.names c in omega (arith, goto_count-append c a b, goto_count-append c xs ys));
  plain = λ all. each_both IsPlain a b (h.plain (each_first (IsPlainFor e hi) xs ys all)) (g.plain (each_second (IsPlainFor e hi) xs ys all));
}

-- one message further
pub moved_more : (e : Edge) (hi : Option (List ℕ)) (list moved new more : List Message) (i : ℕ) (m : Message) → i < length list → m ≡ get_or list i m → IsMoved e hi (take i list) moved → IsMoved e hi (m ∷ []) more → new ≡ moved ++ more → IsMoved e hi (take (i + 1) list) new
moved_more e hi list moved new more i m low is h g new_is =
    subst (λ (l : List Message). IsMoved e hi (take (i + 1) list) l) (sym new_is)
    (subst (λ (l : List Message). IsMoved e hi l (moved ++ more)) (sym (take_more list i m low ∙ ap (λ (x : Message). take i list ++ x ∷ []) (sym is)))
    (moved_both e hi (take i list) (m ∷ []) moved more h g))

-- ---- one

some_each : (o : Option Message) → IfSome o IsMessage → AllByRecursion IsMessage (option_to_list o)
some_each None h = tt
some_each (Some n) h = (h, tt)

some_size : (o : Option Message) (m : Message) → IfSome o (λ n. size n ≤ size m) → sum_by size (option_to_list o) ≤ sum_by size (m ∷ [])
some_size None m h = omega arith
some_size (Some n) m h = omega (arith, h, sum_by-cons size n [], sum_by-cons size m [])

some_names : (c : ℕ) (o : Option Message) (m : Message) → IfSome o (λ n. message_names n ≡ message_names m) → goto_count c (option_to_list o) ≤ goto_count c (m ∷ [])
some_names c None m h = omega arith
some_names c (Some n) m h = omega (arith, ap (λ (l : List ℕ). count_names c (l ++ [])) h)

plain_names : (m : Message) → IsPlain m → message_names m ≡ []
plain_names (Put key value) h = refl
plain_names (Del key) h = refl
plain_names (Patch key off bytes) h = refl
plain_names (Cut prefix from) h = refl
plain_names (Goto prefix source child) h = absurd h

names_plain : (m : Message) → message_names m ≡ [] → IsPlain m
names_plain (Put key value) h = tt
names_plain (Del key) h = tt
names_plain (Patch key off bytes) h = tt
names_plain (Cut prefix from) h = tt
names_plain (Goto prefix source child) h = absurd (let e : 1 ≡ 0 = ap (λ (l : List ℕ). length l) h in omega arith)

some_plain : (o : Option Message) (m : Message) → IfSome o (λ n. message_names n ≡ message_names m) → IsPlain m → AllByRecursion IsPlain (option_to_list o)
some_plain None m h plain = tt
some_plain (Some n) m h plain = (names_plain n (h ∙ plain_names m plain), tt)

-- a key of an edge is what is left out of it and the rest
key_parts : (e : Edge) (hi : Option (List ℕ)) (k : List ℕ) → IsLifted e hi → IsKey k → InRange e.pivot hi k → lifted e ++ drop e.lift k ≡ k
key_parts e hi k h key range =
    let long : length (lifted e) ≡ e.lift = length-take-le e.lift e.pivot h.lift in
    ap (λ (l : List ℕ). l ++ drop e.lift k) (sym (h.common k key range) ∙ ap (λ (n : ℕ). take n k) long)
    ∙ take-append-drop e.lift k

pub moved_one : (e : Edge) (hi : Option (List ℕ)) (m : Message) (prefix : List ℕ) (found : Option Message) → IsLifted e hi → IsMessage m → CanMove e hi m → CanTouch m e.pivot hi → prefix ≡ lifted e → found ≡ freed prefix m → IsMoved e hi (m ∷ []) (option_to_list found)
moved_one e hi m prefix found h own move can prefix_is found_is =
    let is : found ≡ freed (lifted e) m = found_is ∙ ap (λ (s : List ℕ). freed s m) prefix_is in
    subst (λ (o : Option Message). IsMoved e hi (m ∷ []) (option_to_list o)) (sym is)
    (record {
      effect = λ below k key range old.
          freed_effect below (lifted e) m (drop e.lift k) old
          ∙ ap (λ (l : List ℕ). act below m l old) (key_parts e hi k h key range);
      each = some_each (freed (lifted e) m) (kept_message (lifted e) m (move can.0 can.1 can.2) own);
      size = some_size (freed (lifted e) m) m (kept_size (lifted e) m (move can.0 can.1 can.2));
      names = λ c. some_names c (freed (lifted e) m) m (freed_names (lifted e) m);
      plain = λ all. some_plain (freed (lifted e) m) m (freed_names (lifted e) m) (all.0 can.0 can.1 can.2);
    })

pub if_moved : {E : Type 0} (e : Edge) (hi : Option (List ℕ)) (m : Message) (prefix : List ℕ) (r : Result (Option Message) E) → IsLifted e hi → IsMessage m → CanMove e hi m → CanTouch m e.pivot hi → prefix ≡ lifted e → IfOk r (λ found. found ≡ freed prefix m) → IfOk r (λ found. IsMoved e hi (m ∷ []) (option_to_list found))
if_moved e hi m prefix (Ok found) h own move can prefix_is r_is = moved_one e hi m prefix found h own move can prefix_is r_is
if_moved e hi m prefix (Err x) h own move can prefix_is r_is = tt

-- ---- what goes down

pub if_part : {E : Type 0} (e : Edge) (hi : Option (List ℕ)) (m : Message) (prefix : List ℕ) (r : Result (Option Message) E) → CanTouch m e.pivot hi → prefix ≡ lifted e → IfOk r (λ found. found ≡ freed prefix m) → IfOk r (λ found. IsPart e hi m (option_to_list found))
if_part e hi m prefix (Ok found) can prefix_is r_is = inl (can, ap option_to_list (r_is ∙ ap (λ (s : List ℕ). freed s m) prefix_is))
if_part e hi m prefix (Err x) can prefix_is r_is = tt

parts_more : (e : Edge) (hi : Option (List ℕ)) (xs moved part : List Message) (m : Message) → AreParts e hi xs moved → IsPart e hi m part → AreParts e hi (xs ++ m ∷ []) (moved ++ part)
parts_more e hi [] moved part m h p =
    subst (λ (l : List Message). AreParts e hi (m ∷ []) (l ++ part)) (sym h) (part, [], p, refl, sym (append-nil part))
parts_more e hi (x ∷ xs) moved part m h p =
    (h.0, h.1 ++ part, h.2, parts_more e hi xs h.1 part m h.3 p, ap (λ (l : List Message). l ++ part) h.4 ∙ append_assoc h.0 h.1 part)

-- one message further
pub part_more : (e : Edge) (hi : Option (List ℕ)) (list moved new part : List Message) (i : ℕ) (m : Message) → i < length list → m ≡ get_or list i m → AreParts e hi (take i list) moved → IsPart e hi m part → new ≡ moved ++ part → AreParts e hi (take (i + 1) list) new
part_more e hi list moved new part i m low is h p new_is =
    subst (λ (l : List Message). AreParts e hi (take (i + 1) list) l) (sym new_is)
    (subst (λ (l : List Message). AreParts e hi l (moved ++ part)) (sym (take_more list i m low ∙ ap (λ (x : Message). take i list ++ x ∷ []) (sym is)))
    (parts_more e hi (take i list) moved part m h p))

-- where something goes down, one of the messages can touch a key
some_parts : (e : Edge) (hi : Option (List ℕ)) (list moved : List Message) → AreParts e hi list moved → 1 ≤ sum_by size moved → SomeCanTouch e hi list
some_parts e hi [] moved h some = absurd (let z : sum_by size moved ≡ 0 = ap (λ (l : List Message). sum_by size l) h in omega arith)
some_parts e hi (m ∷ list) moved h some =
    elim h.2 [
      | inl can ↦ inl can.0
      | inr none ↦ inr (some_parts e hi list h.1 h.3 (subst (λ (l : List Message). 1 ≤ sum_by size l) (h.4 ∙ ap (λ (l : List Message). l ++ h.1) none.1) some))
    ]

pub message_small : (m : Message) → IsMessage m → size m ≤ batch_limit
message_small (Put key value) h = omega arith
message_small (Del key) h = omega arith
message_small (Patch key off bytes) h = omega arith
message_small (Cut prefix from) h = omega arith
message_small (Goto prefix source child) h = omega arith

one_of : (o : Option Message) (n : Message) → option_to_list o ≡ n ∷ [] → o ≡ Some n
one_of None n h = absurd (let z : 0 ≡ 1 = ap (λ (l : List Message). length l) h in omega arith)
one_of (Some x) n h = ap Some cc

-- the message that doesn't fit is one that goes down
too_much : (e : Edge) (hi : Option (List ℕ)) (m n : Message) (found : Option Message) (messages : List Message) → found ≡ Some n → IsPart e hi m (option_to_list found) → batch_limit < sum_by size messages + size n → IsTooMuch e hi messages m
too_much e hi m n found messages some part over =
    let here : IsPart e hi m (n ∷ []) = subst (λ (o : Option Message). IsPart e hi m (option_to_list o)) some part in
    elim here [
      | inl can ↦ record { can = can.0; part = n; part_is = one_of (freed (lifted e) m) n (sym can.1); over = over }
      | inr none ↦ absurd (let z : 1 ≡ 0 = ap (λ (l : List Message). length l) none.1 in omega arith)
    ]

-- ---- a message of a list

pub each_at : (P : Message → Type 0) (xs : List Message) (i : ℕ) (m : Message) → AllByRecursion P xs → i < length xs → m ≡ get_or xs i m → P m
each_at P [] i m h low is = absurd (omega arith)
each_at P (x ∷ xs) zero m h low is = subst P (sym is) h.0
each_at P (x ∷ xs) (suc i) m h low is = each_at P xs i m h.1 (omega arith) is

pub sum_push : (xs new : List Message) (m : Message) → new ≡ xs ++ m ∷ [] → sum_by size new ≡ sum_by size xs + size m
sum_push xs new m is = ap (λ (l : List Message). sum_by size l) is ∙ omega (arith, sum_by-append size xs (m ∷ []), sum_by-cons size m [])

-- the whole list
pub batch_all : (e : Edge) (hi : Option (List ℕ)) (list messages given : List Message) (count : ℕ) → count ≡ length list → given ≡ messages → IsMoved e hi (take count list) messages → AreParts e hi (take count list) messages → sum_by size messages ≤ batch_limit
    → IsBatch e hi list (record { count = length list; messages = given })
batch_all e hi list messages given count all given_is h parts fits =
    let whole : take (length list) list ≡ list = take-length list in
    record {
      within = omega arith;
      parts = subst (λ (l : List Message). AreParts e hi (take (length list) list) l) (sym given_is) (subst (λ (n : ℕ). AreParts e hi (take n list) messages) all parts);
      moved = subst (λ (l : List Message). IsMoved e hi (take (length list) list) l) (sym given_is) (subst (λ (n : ℕ). IsMoved e hi (take n list) messages) all h);
      some = λ some. subst (λ (l : List Message). SomeCanTouch e hi l) (sym whole) some;
      fits = subst (λ (l : List Message). sum_by size l ≤ batch_limit) (sym given_is) fits;
      full = λ m there. absurd (let low : length list < length list = slice_get_within list (length list) m there in omega arith);
    }

-- those before a message that doesn't fit
pub batch_part : (e : Edge) (hi : Option (List ℕ)) (list messages given : List Message) (count : ℕ) (m n : Message) (found : Option Message) → count < length list → m ≡ get_or list count m → given ≡ messages → IsMoved e hi (take count list) messages → AreParts e hi (take count list) messages
    → sum_by size messages ≤ batch_limit → found ≡ Some n → IsMoved e hi (m ∷ []) (option_to_list found) → IsPart e hi m (option_to_list found) → batch_limit < sum_by size messages + size n → IsBatch e hi list (record { count = count; messages = given })
batch_part e hi list messages given count m n found low is given_is h parts fits some one part over =
    let own : IsMessage n = (subst (λ (o : Option Message). AllByRecursion IsMessage (option_to_list o)) some one.each).0 in
    let small : size n ≤ batch_limit = message_small n own in
    record {
      within = omega arith;
      parts = subst (λ (l : List Message). AreParts e hi (take count list) l) (sym given_is) parts;
      moved = subst (λ (l : List Message). IsMoved e hi (take count list) l) (sym given_is) h;
      some = λ _. some_parts e hi (take count list) messages parts (omega arith);
      fits = subst (λ (l : List Message). sum_by size l ≤ batch_limit) (sym given_is) fits;
      full = λ x there. subst (λ (y : Message). IsTooMuch e hi given y) (is ∙ get_or_from_slice_get list count x m there)
          (subst (λ (l : List Message). IsTooMuch e hi l m) (sym given_is) (too_much e hi m n found messages some part over));
    }
