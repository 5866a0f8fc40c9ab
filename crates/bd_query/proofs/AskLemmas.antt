-- Which nodes a way down asks, and how many visits that makes.
use Rattle.std.proofs.Common.{◌≡◌, ℕ, zero, suc, ◌+◌, ◌≤◌, true, false, cond, List, [], ◌∷◌, length, drop, refl, sym, ap, subst, ◌∙◌, Option, None, Some, Result, Ok, Err, OnErr, arith, inl, inr}
use Rattle.std.specs.Prelude.{slice_get}
use Rattle.std.proofs.lemmas.Bool.{cond-true, cond-false}
use Rattle.std.proofs.lemmas.Option.{same_Some, none-some, slice_get_within}
use Rattle.bd_keys.specs.Keys.{IsBelow, IsBelowEnd, IsAtLeast}
use Rattle.bd_keys.proofs.Order.{not_below_itself}
use Rattle.std.proofs.Common.{get_or}
use Rattle.bd_message.specs.declared.message.Message.{Message}
use Rattle.bd_node.specs.declared.node.Node.{Node}
use Rattle.bd_node.specs.Meaning.{Nodes}
use Rattle.bd_node.specs.Stores.{visited, AreVisits}
use Rattle.bd_node.specs.Tables.{Table, IsKept, IsStored, IsSound}
use Rattle.bd_node.specs.Touching.{touches, NoneTouches}
use Rattle.bd_query.specs.Asks.{Question, asked_by, asked_after, asked_at, asked_of, IsWayDown, ends_here, goes_down, IsWayBegun, stops_here, goes_on, IsAfterLast, none_yet, one_more, AreVisitsOfWay, AreVisitsOfRest, AreVisitsOfPart, AreVisitsOfRestPart, AreFewOfRest, AreVisitsOfWays, AreVisitsOfSome}
use Rattle.bd_query.specs.Stretches.{IsNewest}
use Rattle.bd_query.specs.Looks.{IsLowerBase}
use Rattle.bd_query.specs.declared.part.Base.{Base}
use Rattle.bd_query.specs.declared.part.Base.TheVariants.{Value, Ask}
use Rattle.bd_node.proofs.Visited.{visited_more, visits_then}
use Rattle.bd_query.proofs.StretchLemmas.{newest_there}

-- ---- whom messages ask

-- messages that don't change the key leave whom is asked
asked_rest : (ms : List Message) (k : List ℕ) (old : Option Question) → ((i : ℕ) (m : Message) → slice_get ms i ≡ Some m → touches m k ≡ false) → asked_after ms k old ≡ old
asked_rest [] k old none = refl
asked_rest (m ∷ ms) k old none =
    ap (λ (q : Option Question). asked_after ms k q) (cond-false (touches m k) (asked_by m k old) old (none zero m refl)) ∙ asked_rest ms k old (λ i n there. none (suc i) n there)

asked_from : (ms : List Message) (k : List ℕ) (from : ℕ) (old : Option Question) → ((i : ℕ) (m : Message) → from ≤ i → slice_get ms i ≡ Some m → touches m k ≡ false) → asked_after (drop from ms) k old ≡ old
asked_from ms k zero old none = asked_rest ms k old (λ i m there. none i m (omega arith) there)
asked_from [] k (suc from) old none = refl
asked_from (n ∷ ms) k (suc from) old none = asked_from ms k from old (λ i m le there. none (suc i) m (omega arith) there)

-- and the newest that changes it decides, where it asks the same whoever was asked before
asked_newest_at : (ms : List Message) (k : List ℕ) (from place : ℕ) (m : Message) (old asks : Option Question) → ((o : Option Question) → asked_by m k o ≡ asks) → from ≤ place → slice_get ms place ≡ Some m → touches m k ≡ true
    → ((i : ℕ) (n : Message) → suc place ≤ i → slice_get ms i ≡ Some n → touches n k ≡ false) → asked_after (drop from ms) k old ≡ asks
asked_newest_at [] k from place m old asks says le there changes none = absurd (none-some m there)
asked_newest_at (n ∷ ms) k zero zero m old asks says le there changes none =
    let same : n ≡ m = same_Some n m there in
    ap (λ (q : Option Question). asked_after ms k q) (ap (λ (l : Message). cond (touches l k) (asked_by l k old) old) same ∙ cond-true (touches m k) (asked_by m k old) old changes ∙ says old)
    ∙ asked_rest ms k asks (λ i l at_i. none (suc i) l (omega arith) at_i)
asked_newest_at (n ∷ ms) k zero (suc place) m old asks says le there changes none =
    asked_newest_at ms k zero place m (cond (touches n k) (asked_by n k old) old) asks says (omega arith) there changes (λ i l high at_i. none (suc i) l (omega arith) at_i)
asked_newest_at (n ∷ ms) k (suc from) zero m old asks says le there changes none = absurd (omega arith)
asked_newest_at (n ∷ ms) k (suc from) (suc place) m old asks says le there changes none =
    asked_newest_at ms k from place m old asks says (omega arith) there changes (λ i l high at_i. none (suc i) l (omega arith) at_i)

pub asked_newest : (ms : List Message) (k : List ℕ) (from place : ℕ) (m : Message) (old asks : Option Question) → ((o : Option Question) → asked_by m k o ≡ asks) → from ≤ place → slice_get ms place ≡ Some m → touches m k ≡ true → NoneTouches ms (place + 1) (length ms) k
    → asked_after (drop from ms) k old ≡ asks
asked_newest ms k from place m old asks says le there changes none =
    asked_newest_at ms k from place m old asks says le there changes (λ i n high at_i. none i n (omega arith) (slice_get_within ms i n at_i) at_i)

pub asked_none : (ms : List Message) (k : List ℕ) (from : ℕ) (old : Option Question) → NoneTouches ms from (length ms) k → asked_after (drop from ms) k old ≡ old
asked_none ms k from old none = asked_from ms k from old (λ i m le at_i. none i m le (slice_get_within ms i m at_i) at_i)

-- the newest message that changes the first key of a stretch decides whom is asked there
pub newest_asks : (ms : List Message) (seen : ℕ) (lo : List ℕ) (end : Option (List ℕ)) (place : ℕ) (m : Message) (old asks : Option Question) → ((o : Option Question) → asked_by m lo o ≡ asks) → IsNewest ms seen lo (Some place) end → IsBelowEnd lo end → m ≡ get_or ms place m
    → asked_after (drop seen ms) lo old ≡ asks
newest_asks ms seen lo end place m old asks says newest above is =
    let there : slice_get ms place ≡ Some m = newest_there ms seen lo end place m newest is in
    let found = newest.2 in
    asked_newest ms lo seen place m old asks says newest.0 there (subst (λ (n : Message). touches n lo ≡ true) (same_Some found.0 m (sym found.1 ∙ there)) found.2) (newest.1 lo (not_below_itself lo, above))

pub none_asks : (ms : List Message) (seen : ℕ) (lo : List ℕ) (end : Option (List ℕ)) (old : Option Question) → IsNewest ms seen lo None end → IsBelowEnd lo end → asked_after (drop seen ms) lo old ≡ old
none_asks ms seen lo end old newest above = asked_none ms lo seen old (newest lo (not_below_itself lo, above))

-- ---- ways down

pub way_ends : (nodes : Nodes) (t : Table) (id : ℕ) (key : List ℕ) (before after : ℕ) → IsSound nodes t → IsKept t id → ((n : Node) → nodes id ≡ Some n → asked_at n key ≡ None) → after ≡ visited before 1
    → AreVisitsOfWay nodes id key before after
way_ends nodes t id key before after sound kept asks one =
    let stored : IsStored nodes t id = sound.each id kept in
    record { number = 1; way = ends_here id key stored.node stored.there (asks stored.node stored.there); counted = one }

pub way_goes_on : (nodes : Nodes) (t : Table) (id child : ℕ) (key asked : List ℕ) (before now after : ℕ) → IsSound nodes t → IsKept t id → ((n : Node) → nodes id ≡ Some n → asked_at n key ≡ Some (child, asked)) → now ≡ visited before 1
    → AreVisitsOfWay nodes child asked now after → AreVisitsOfWay nodes id key before after
way_goes_on nodes t id child key asked before now after sound kept asks one way =
    let stored : IsStored nodes t id = sound.each id kept in
    record {
      number = way.number + 1;
      way = goes_down id key stored.node child asked way.number stored.there (asks stored.node stored.there) way.way;
      counted = way.counted ∙ ap (λ (n : ℕ). visited n way.number) one ∙ visited_more before 1 way.number;
    }

-- a visit, and those of the way that is left
pub way_with_rest : (nodes : Nodes) (t : Table) (id : ℕ) (key : List ℕ) (asked : Option Question) (before now after : ℕ) → IsSound nodes t → IsKept t id → ((n : Node) → nodes id ≡ Some n → asked_at n key ≡ asked) → now ≡ visited before 1
    → AreVisitsOfRest nodes asked now after → AreVisitsOfWay nodes id key before after
way_with_rest nodes t id key None before now after sound kept asks one rest = way_ends nodes t id key before after sound kept asks (rest ∙ one)
way_with_rest nodes t id key (Some asked) before now after sound kept asks one rest = way_goes_on nodes t id asked.0 key asked.1 before now after sound kept asks one rest

-- which are at most as many as there are levels
pub few_with_rest : (t : Table) (level : ℕ) (base : Base) (before now after : ℕ) → IsLowerBase t level base → now ≡ visited before 1 → AreFewOfRest t (asked_of base) now after → AreVisits 1 (level + 1) before after
few_with_rest t level (Value found) before now after lower one rest = record { number = 1; some = (omega arith); few = (omega arith); counted = rest ∙ one }
few_with_rest t level (Ask child key) before now after lower one rest = visits_then before now after (t.level child) level one lower.lower rest

-- ---- ways that were begun

-- what holds anyway holds at an error
pub on_err : {T E P : Type 0} (r : Result T E) → P → OnErr r P
on_err (Ok x) p = tt
on_err (Err e) p = p

-- a whole way was
way_begun : (nodes : Nodes) (id : ℕ) (k : List ℕ) (number : ℕ) → IsWayDown nodes id k number → IsWayBegun nodes id k number
way_begun nodes id k _ (ends_here _ _ n there none) = stops_here id k
way_begun nodes id k _ (goes_down _ _ n child l number there asks way) = goes_on id k n child l number there asks (way_begun nodes child l number way)

pub part_of_way : (nodes : Nodes) (id : ℕ) (k : List ℕ) (before after : ℕ) → AreVisitsOfWay nodes id k before after → AreVisitsOfPart nodes id k before after
part_of_way nodes id k before after way = inr (record { number = way.number; way = way_begun nodes id k way.number way.way; counted = way.counted })

pub part_of_rest : (nodes : Nodes) (asked : Option Question) (before after : ℕ) → AreVisitsOfRest nodes asked before after → AreVisitsOfRestPart nodes asked before after
part_of_rest nodes None before after rest = rest
part_of_rest nodes (Some asked) before after way = part_of_way nodes asked.0 asked.1 before after way

-- the first node alone was visited
pub part_here : (nodes : Nodes) (id : ℕ) (k : List ℕ) (before after : ℕ) → after ≡ visited before 1 → AreVisitsOfPart nodes id k before after
part_here nodes id k before after one = inr (record { number = 1; way = stops_here id k; counted = one })

-- and some below it
pub part_goes_on : (nodes : Nodes) (t : Table) (id child : ℕ) (key asked : List ℕ) (before now after : ℕ) → IsSound nodes t → IsKept t id → ((n : Node) → nodes id ≡ Some n → asked_at n key ≡ Some (child, asked)) → now ≡ visited before 1
    → AreVisitsOfPart nodes child asked now after → AreVisitsOfPart nodes id key before after
part_goes_on nodes t id child key asked before now after sound kept asks one part = elim part [
  | inl none ↦ part_here nodes id key before after (none ∙ one)
  | inr begun ↦
      let stored : IsStored nodes t id = sound.each id kept in
      inr (record {
        number = begun.number + 1;
        way = goes_on id key stored.node child asked begun.number stored.there (asks stored.node stored.there) begun.way;
        counted = begun.counted ∙ ap (λ (n : ℕ). visited n begun.number) one ∙ visited_more before 1 begun.number;
      })
]

pub part_with_rest : (nodes : Nodes) (t : Table) (id : ℕ) (key : List ℕ) (asked : Option Question) (before now after : ℕ) → IsSound nodes t → IsKept t id → ((n : Node) → nodes id ≡ Some n → asked_at n key ≡ asked) → now ≡ visited before 1
    → AreVisitsOfRestPart nodes asked now after → AreVisitsOfPart nodes id key before after
part_with_rest nodes t id key None before now after sound kept asks one rest = part_here nodes id key before after (rest ∙ one)
part_with_rest nodes t id key (Some asked) before now after sound kept asks one rest = part_goes_on nodes t id asked.0 key asked.1 before now after sound kept asks one rest

-- ---- searches

-- what a search has visited before it asks at a key
pub record IsSearching (nodes : Nodes) (root : ℕ) (from low : List ℕ) (before now : ℕ) : Type 0 where
  pub visits : AreVisitsOfWays nodes root from before now
  pub next : IsAfterLast from visits.last low

pub searched_more : (nodes : Nodes) (root : ℕ) (from low : List ℕ) (before now after : ℕ) → IsSearching nodes root from low before now → AreVisitsOfWay nodes root low now after → AreVisitsOfWays nodes root from before after
searched_more nodes root from low before now after h way = record {
  number = h.visits.number + way.number;
  last = Some low;
  ways = one_more h.visits.last low h.visits.number way.number h.visits.ways h.next way.way;
  counted = inl (elim h.visits.counted [
    | inl counted ↦ way.counted ∙ ap (λ (n : ℕ). visited n way.number) counted ∙ visited_more before h.visits.number way.number
        ∙ ap (λ (n : ℕ). visited before n) (omega arith)
    | inr not_yet ↦ way.counted ∙ ap (λ (n : ℕ). visited n way.number) not_yet.1
        ∙ ap (λ (n : ℕ). visited before n) (let e : h.visits.number ≡ 0 = not_yet.0 in omega arith)
  ]);
}

pub searching_on : (nodes : Nodes) (root : ℕ) (from low end : List ℕ) (before now after : ℕ) → IsSearching nodes root from low before now → AreVisitsOfWay nodes root low now after → IsBelow low end → IsSearching nodes root from end before after
unfolding searched_more
searching_on nodes root from low end before now after h way below = record { visits = searched_more nodes root from low before now after h way; next = below }

-- the last way down
pub searched_last : (nodes : Nodes) (root : ℕ) (from low slice : List ℕ) (before now after : ℕ) → slice ≡ low → IsSearching nodes root from low before now → AreVisitsOfWay nodes root slice now after → AreVisitsOfWays nodes root from before after
searched_last nodes root from low slice before now after same h way =
    searched_more nodes root from slice before now after (subst (λ (k : List ℕ). IsSearching nodes root from k before now) (sym same) h) way

-- none yet
pub searching_begun : (nodes : Nodes) (root : ℕ) (from low : List ℕ) (before : ℕ) → IsAtLeast low from → IsSearching nodes root from low before before
searching_begun nodes root from low before least = record {
  visits = record { number = 0; last = None; ways = none_yet; counted = inr (refl, refl) };
  next = least;
}

-- ---- searches that fail

pub searched_whole : (nodes : Nodes) (root : ℕ) (from : List ℕ) (before after : ℕ) → AreVisitsOfWays nodes root from before after → AreVisitsOfSome nodes root from before after
searched_whole nodes root from before after ways = record { now = after; done = ways; begun = inl refl }

pub searched_none : (nodes : Nodes) (root : ℕ) (from : List ℕ) (before : ℕ) → AreVisitsOfSome nodes root from before before
searched_none nodes root from before = searched_whole nodes root from before before (searching_begun nodes root from from before (not_below_itself from)).visits

-- on the way down along a key
pub searched_part : (nodes : Nodes) (root : ℕ) (from low slice : List ℕ) (before now after : ℕ) → slice ≡ low → IsSearching nodes root from low before now → AreVisitsOfPart nodes root slice now after → AreVisitsOfSome nodes root from before after
searched_part nodes root from low slice before now after same h part = record {
  now = now;
  done = h.visits;
  begun = elim part [
    | inl none ↦ inl none
    | inr begun ↦ inr (record { key = slice; next = subst (λ (k : List ℕ). IsAfterLast from h.visits.last k) (sym same) h.next; visits = begun })
  ];
}

-- and at its end
pub searched_along : (nodes : Nodes) (root : ℕ) (from low slice : List ℕ) (before now after : ℕ) → slice ≡ low → IsSearching nodes root from low before now → AreVisitsOfWay nodes root slice now after → AreVisitsOfSome nodes root from before after
searched_along nodes root from low slice before now after same h way =
    searched_whole nodes root from before after (searched_last nodes root from low slice before now after same h way)
