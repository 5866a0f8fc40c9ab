-- Nodes without a child in which nothing stands.
use Rattle.std.proofs.Common.{◌≡◌, ℕ, zero, suc, ◌+◌, ◌<◌, ◌≤◌, Bool, true, false, cond, List, [], ◌∷◌, ◌++◌, length, take, drop, map, refl, sym, ap, subst, ◌∙◌, Option, None, Some, inl, inr, arith, IsTrue, ◌↔◌}
use Rattle.std.specs.Prelude.{IfSome}
use Rattle.std.specs.List.{AllByRecursion}
use Rattle.std.specs.Option.{option_to_list}
use Rattle.std.proofs.lemmas.Bool.{cases_Bool, cases_eq, cond-true, cond-false}
use Rattle.std.proofs.lemmas.List.Sums.{sum_by-cons, sum_by-append}
use Rattle.std.proofs.lemmas.Option.{same_Some, none-some}
use Rattle.bd_limits.specs.Limits.{edge_limit}
use Rattle.bd_keys.specs.declared.range.Range.{Range}
use Rattle.bd_keys.specs.Keys.{IsKey, InRange}
use Rattle.bd_keys.specs.Ranges.{Has}
use Rattle.bd_keys.proofs.Order.{not_below_nil}
use Rattle.bd_message.specs.declared.message.Message.{Message}
use Rattle.bd_message.specs.declared.message.Message.TheVariants.{Put, Del, Patch, Cut, Goto}
use Rattle.bd_message.specs.Effect.{NodesAt, same_key, is_cut, act, acts}
use Rattle.bd_message.proofs.Finds.{same_key-true, not_both}
use Rattle.bd_node.specs.declared.node.Entry.{Entry}
use Rattle.bd_node.specs.declared.node.Edge.{Edge}
use Rattle.bd_node.specs.declared.node.Node.{Node}
use Rattle.bd_node.specs.declared.node.Node.TheVariants.{Leaf, Inner}
use Rattle.bd_node.specs.Compaction.{IsLooseNode, lowered}
use Rattle.bd_node.specs.Keeping.{staying}
use Rattle.bd_node.specs.Meaning.{Nodes, at as meaning}
use Rattle.bd_node.specs.Nodes.{level_of, buffer_size, edge_names, times, is_key, entry_at, edge_of, child_at, edge_at, through, node_at, node_has}
use Rattle.bd_node.specs.Parts.{edges_of, buffer_of, end_at, IsEdgeAt}
use Rattle.bd_node.specs.Pushes.{exchanged}
use Rattle.bd_node.specs.Shape.{EachEdge, IsEdge, IsShape}
use Rattle.bd_node.specs.Touching.{touches, CanTouch}
use Rattle.bd_node.specs.Tables.{Table, IsSound}
use Rattle.bd_node.proofs.Compacting.{compacted_shape, compacted_level, compacted_meaning, compacted_size, compacted_times}
use Rattle.bd_node.proofs.Meanings.{at-meets}
use Rattle.bd_node.proofs.Parts.{edge_within}
use Rattle.bd_node.proofs.Sound.{sound-levelled, node_of}
use Rattle.bd_node.proofs.Appending.{some_has}
use Rattle.bd_node.proofs.Edges.{some_edge}
use Rattle.bd_node.proofs.LawLemmas.{untouched}
use Rattle.bd_node.proofs.Lookup.{key-is_key}
use Rattle.bd_inner.specs.Batches.{IsLifted}
use Rattle.bd_inner.specs.Exchanging.{FitsAt}
use Rattle.bd_inner.specs.Halves.{bare_edge}
use Rattle.bd_inner.proofs.Exchanged.{at_place, in_range, exchanged_shape, meaning_before, meaning_inside, meaning_outside}
use Rattle.bd_inner.proofs.Fitting.{own_shape}
use Rattle.bd_cover.specs.declared.asking.Ask.{Ask}
use Rattle.bd_cover.specs.Asked.{asks}
use Rattle.bd_cover.specs.Bare.{Removes, PutsNothing, FindsNothing, HasNothing, look_limit, HasNoBare, IsBareWay, IsBareAt, IsBared}
use Rattle.bd_cover.specs.Reclaimed.{child_count, unseen_count, left_at}
use Rattle.bd_cover.proofs.Asks.{asks_at}
use Rattle.bd_cover.proofs.Decided.{few_edges, join_times}
use Rattle.bd_cover.proofs.Nothing.{no_depth, finds}
use Rattle.bd_cover.proofs.Falls.{after, count_after, lowered_after, children, lowered_children}

-- ---- nothing stands at the keys that the child is asked for

none_both : (b : Bool) → ◌≡◌ {A = Option (List ℕ)} (cond b None None) None
none_both true = refl
none_both false = refl

remove_one : (below : NodesAt) (m : Message) (k : List ℕ) → Removes m → act below m k None ≡ None
remove_one below (Put key value) k removes = absurd removes
remove_one below (Del key) k removes = none_both (same_key k key)
remove_one below (Patch key off bytes) k removes = absurd removes
remove_one below (Cut prefix from) k removes = none_both (is_cut prefix from k)
remove_one below (Goto prefix source child) k removes = absurd removes

put_none : (below : NodesAt) (m : Message) (keys : Range) (k : List ℕ) → (CanTouch m keys.lo keys.hi → Removes m) → Has keys k → act below m k None ≡ None
put_none below m keys k puts has = elim (cases_Bool (touches m k)) [
  | inl touched ↦ remove_one below m k (puts (k, has, touched))
  | inr other ↦ untouched below m k other None
]

all_put_none : (below : NodesAt) (ms : List Message) (keys : Range) (k : List ℕ) → AllByRecursion (λ (m : Message). CanTouch m keys.lo keys.hi → Removes m) ms → Has keys k → acts below ms k None ≡ None
all_put_none below [] keys k puts has = refl
all_put_none below (m ∷ ms) keys k puts has = ap (λ (v : Option (List ℕ)). acts below ms k v) (put_none below m keys k puts.0 has) ∙ all_put_none below ms keys k puts.1 has

puts_drop : (P : Message → Type 0) (n : ℕ) (ms : List Message) → AllByRecursion P ms → AllByRecursion P (drop n ms)
puts_drop P zero ms all = all
puts_drop P (suc n) [] all = tt
puts_drop P (suc n) (m ∷ ms) all = puts_drop P n ms all.1

entries_nothing : (keys : Range) (entries : List Entry) (k : List ℕ) → AllByRecursion (λ (x : Entry). ¬ Has keys x.key) entries → Has keys k → entry_at entries k ≡ None
entries_nothing keys [] k none has = refl
entries_nothing keys (x ∷ xs) k none has =
    elim (cases_Bool (same_key k x.key)) [
      | inl same ↦ absurd (none.0 (subst (λ (l : List ℕ). Has keys l) (same_key-true k x.key same) has))
      | inr other ↦ cond-false (same_key k x.key) (Some x.value) (entry_at xs k) other ∙ entries_nothing keys xs k none.1 has
    ]

each_both : (P Q : Edge → Option (List ℕ) → Type 0) (es : List Edge) → EachEdge P es → EachEdge Q es → EachEdge (λ (e : Edge) hi. P e hi × Q e hi) es
each_both P Q [] first second = tt
each_both P Q (e ∷ es) first second = ((first.0, second.0), each_both P Q es first.1 second.1)

edge_lift : (count : ℕ) (e : Edge) (hi : Option (List ℕ)) → IsEdge count e hi → IsLifted e hi
edge_lift count e hi own = record { rising = own.rising; lift = own.lift; common = own.common }

-- what is asked of an edge's child has nothing, if what the edge asks does
child_nothing : (below : NodesAt) (Finds : Ask → Type 0) (count : ℕ) (e : Edge) (hi : Option (List ℕ)) (keys : Range) (k : List ℕ) (child : Option ℕ) → ((ask : Ask) (l : List ℕ) → Finds ask → Has ask.keys l → below ask.child l ≡ None) → IsEdge count e hi → IsKey k → InRange e.pivot hi k → Has keys k → IfSome (asks e hi keys.lo keys.hi) Finds → e.child ≡ child
    → child_at below child (e.source ++ drop e.lift k) ≡ None
child_nothing below Finds count e hi keys k None none own key range has finds is = refl
child_nothing below Finds count e hi keys k (Some child) none own key range has finds is =
    let at_k = asks_at e hi keys.lo keys.hi k child (edge_lift count e hi own) key range has is in
    ap (λ (c : ℕ). below c (e.source ++ drop e.lift k)) (sym at_k.2)
    ∙ none at_k.0 (e.source ++ drop e.lift k) (subst (λ (o : Option Ask). IfSome o Finds) at_k.1 finds) at_k.3

edge_nothing : (below : NodesAt) (Finds : Ask → Type 0) (e : Edge) (hi : Option (List ℕ)) (buffer : List Message) (keys : Range) (k : List ℕ) → ((ask : Ask) (l : List ℕ) → Finds ask → Has ask.keys l → below ask.child l ≡ None) → IsEdge (length buffer) e hi → IsKey k → InRange e.pivot hi k → Has keys k → IfSome (asks e hi keys.lo keys.hi) Finds
    → AllByRecursion (λ (m : Message). CanTouch m keys.lo keys.hi → Removes m) buffer → edge_at below e buffer k ≡ None
edge_nothing below Finds e hi buffer keys k none own key range has finds puts =
    ap (λ (v : Option (List ℕ)). acts below (drop e.seen buffer) k v) (child_nothing below Finds (length buffer) e hi keys k e.child none own key range has finds refl)
    ∙ all_put_none below (drop e.seen buffer) keys k (puts_drop (λ (m : Message). CanTouch m keys.lo keys.hi → Removes m) e.seen buffer puts) has

node_nothing : (below : NodesAt) (Finds : Ask → Type 0) (n : Node) (keys : Range) (k : List ℕ) → ((ask : Ask) (l : List ℕ) → Finds ask → Has ask.keys l → below ask.child l ≡ None) → IsShape n → IsKey k → Has keys k → PutsNothing n keys → EachEdge (λ (e : Edge) end. IfSome (asks e end keys.lo keys.hi) Finds) (edges_of n)
    → node_at below n k ≡ None
node_nothing below Finds (Leaf entries) keys k none shape key has puts finds = entries_nothing keys entries k puts has
node_nothing below Finds (Inner level es buffer) keys k none shape key has puts finds =
    some_has (node_at below (Inner level es buffer) k ≡ None)
    (λ (e : Edge) hi. (edge_of es k ≡ Some e) × InRange e.pivot hi k × (IsEdge (length buffer) e hi × IfSome (asks e hi keys.lo keys.hi) Finds))
    (λ e hi found. ap (λ (o : Option Edge). through below o buffer k) found.0 ∙ edge_nothing below Finds e hi buffer keys k none found.2.0 key found.1 has found.2.1 puts)
    es
    (some_edge (λ (e : Edge) hi. IsEdge (length buffer) e hi × IfSome (asks e hi keys.lo keys.hi) Finds) es k
    (each_both (IsEdge (length buffer)) (λ (e : Edge) end. IfSome (asks e end keys.lo keys.hi) Finds) es shape.each finds) shape.first)

has_nothing : (below : NodesAt) (Finds : Ask → Type 0) (n : Node) (keys : Range) (k : List ℕ) → ((ask : Ask) (l : List ℕ) → Finds ask → Has ask.keys l → below ask.child l ≡ None) → IsShape n → Has keys k → PutsNothing n keys → EachEdge (λ (e : Edge) end. IfSome (asks e end keys.lo keys.hi) Finds) (edges_of n)
    → node_has below n k ≡ None
has_nothing below Finds n keys k none shape has puts finds =
    elim (cases_Bool (is_key k)) [
      | inl key ↦ cond-true (is_key k) (node_at below n k) None key ∙ node_nothing below Finds n keys k none shape (key-is_key k key) has puts finds
      | inr other ↦ cond-false (is_key k) (node_at below n k) None other
    ]

-- a child that has nothing at the keys that it is asked for has nothing at each of them
pub asked_nothing : (nodes : Nodes) (t : Table) (depth : ℕ) (ask : Ask) (k : List ℕ) → IsSound nodes t → HasNothing nodes depth ask → Has ask.keys k → meaning nodes ask.child k ≡ None
asked_nothing nodes t zero ask k sound nothing has = absurd (no_depth nodes ask nothing)
asked_nothing nodes t (suc depth) ask k sound nothing has =
    let h : FindsNothing nodes (HasNothing nodes depth) ask = finds nodes depth ask nothing in
    (at-meets nodes (sound-levelled nodes t sound)).each ask.child h.node h.there k
    ∙ has_nothing (meaning nodes) (HasNothing nodes depth) h.node ask.keys k (λ a l. asked_nothing nodes t depth a l sound) (node_of nodes t sound ask.child h.node h.there).shape has h.own h.below

way_nothing : (nodes : Nodes) (t : Table) (count : ℕ) (e : Edge) (hi : Option (List ℕ)) (k : List ℕ) → IsSound nodes t → IsBareWay nodes e hi → IsEdge count e hi → IsKey k → InRange e.pivot hi k → child_at (meaning nodes) e.child (e.source ++ drop e.lift k) ≡ None
way_nothing nodes t count e hi k sound b own key range =
    child_nothing (meaning nodes) (HasNothing nodes look_limit) count e hi (record { lo = []; hi = None }) k e.child (λ a l. asked_nothing nodes t look_limit a l sound) own key range (not_below_nil k, tt)
    (subst (λ (o : Option Ask). IfSome o (HasNothing nodes look_limit)) (sym b.asked) b.nothing) refl

-- ---- a node's edges, as they are looked at

pub shown_edges : (n shown : Node) (es : List Edge) → shown ≡ n → es ≡ edges_of shown → es ≡ edges_of n
shown_edges n shown es same edges = edges ∙ ap edges_of same

-- none of the edges before a place asks a child that has nothing for it
abbrev pub NoBareBefore : Nodes → Node → ℕ → Type 0
NoBareBefore nodes n place = (i : ℕ) → i < place → IsBareAt nodes n i → ⊥

pub no_bare_more : (nodes : Nodes) (n : Node) (place : ℕ) (e : Edge) → NoBareBefore nodes n place → IsEdgeAt n place e → (IsBareWay nodes e (end_at n place) → ⊥) → NoBareBefore nodes n (place + 1)
no_bare_more nodes n place e before here none i low b =
    elim (cases_eq i place) [
      | inl same ↦
          let own : IsBareAt nodes n place = subst (λ (j : ℕ). IsBareAt nodes n j) same b in
          none (subst (λ (x : Edge). IsBareWay nodes x (end_at n place)) (same_Some own.edge e (sym own.here ∙ here)) own.bare)
      | inr other ↦ before i (omega arith) b
    ]

pub no_bare_in : (nodes : Nodes) (n : Node) (place : ℕ) → NoBareBefore nodes n place → length (edges_of n) ≤ place → HasNoBare nodes n
no_bare_in nodes n place before long i b = (let low : i < length (edges_of n) = edge_within n i b.edge b.here in before i (omega arith) b)

pub not_bare : (nodes same_nodes : Nodes) (e : Edge) (hi end : Option (List ℕ)) (is_bare : Bool) → same_nodes ≡ nodes → hi ≡ end → IsTrue is_bare ↔ IsBareWay same_nodes e hi → is_bare ≡ false → IsBareWay nodes e end → ⊥
not_bare nodes same_nodes e hi end is_bare e_nodes same tested off b =
    not_both (tested.1 (subst (λ (m : Nodes). IsBareWay m e hi) (sym e_nodes) (subst (λ (o : Option (List ℕ)). IsBareWay nodes e o) (sym same) b))) off

-- ---- the node without the child

pub bare_fits : (n : Node) (place : ℕ) (e : Edge) → IsShape n → IsEdgeAt n place e → FitsAt n place e (bare_edge e.pivot e.seen ∷ [])
bare_fits n place e h here =
    let own : IsEdge (length (buffer_of n)) e (end_at n place) = own_shape n place e h here in
    record {
      here = here;
      few = (let few : length (edges_of n) ≤ edge_limit = few_edges n h in omega arith);
      first = refl;
      each = (
        record { pivot = own.pivot; rising = own.rising; lift = omega arith; common = λ k key range. refl; source = omega arith; child = refl; seen = own.seen },
        tt,
      );
    }

-- the node with the edge bare
abbrev exchange_bare : Node → ℕ → Edge → Node
exchange_bare n place e = exchanged n place (bare_edge e.pivot e.seen ∷ [])

bare_loose : (n : Node) (place : ℕ) (e : Edge) → IsShape n → IsEdgeAt n place e → IsLooseNode (exchange_bare n place e)
bare_loose n place e h here = exchanged_shape n place e (bare_edge e.pivot e.seen ∷ []) h (bare_fits n place e h here)

pub bared_shape : (n : Node) (place : ℕ) (made : Node) → IsShape n → IsBared n place made → IsShape made
bared_shape n place made h b = compacted_shape (exchange_bare n place b.edge) made (bare_loose n place b.edge h b.here) b.into

level_exchanged : (n : Node) (place : ℕ) (list : List Edge) → level_of (exchanged n place list) ≡ level_of n
level_exchanged (Leaf entries) place list = refl
level_exchanged (Inner level es buffer) place list = refl

pub bared_level : (n : Node) (place : ℕ) (made : Node) → IsBared n place made → level_of made ≡ level_of n
bared_level n place made b = compacted_level (exchange_bare n place b.edge) made b.into ∙ level_exchanged n place (bare_edge b.edge.pivot b.edge.seen ∷ [])

size_exchanged : (n : Node) (place : ℕ) (list : List Edge) → buffer_size (exchanged n place list) ≡ buffer_size n
size_exchanged (Leaf entries) place list = refl
size_exchanged (Inner level es buffer) place list = refl

pub bared_size : (n : Node) (place : ℕ) (made : Node) → IsBared n place made → buffer_size made ≤ buffer_size n
bared_size n place made b =
    omega (arith, compacted_size (exchange_bare n place b.edge) made b.into, size_exchanged n place (bare_edge b.edge.pivot b.edge.seen ∷ []))

bare_times : (n : Node) (place : ℕ) (e : Edge) (x : ℕ) → IsEdgeAt n place e → times (exchange_bare n place e) x ≤ times n x
bare_times (Leaf entries) place e x here = absurd (none-some e here)
bare_times (Inner level es buffer) place e x here =
    let xs : List Edge = take place es in
    let ys : List Edge = drop (place + 1) es in
    let f : Edge = bare_edge e.pivot e.seen in
    let whole : times (Inner level es buffer) x ≡ times (Inner level (xs ++ e ∷ ys) buffer) x = ap (λ (l : List Edge). times (Inner level l buffer) x) (at_place es place e here).whole in
    let less : times (Inner level (xs ++ f ∷ ys) buffer) x ≤ times (Inner level (xs ++ e ∷ ys) buffer) x + 0 = join_times level buffer e f xs [] ys x in
    omega (arith, whole, less)

pub bared_named : (n : Node) (place : ℕ) (made : Node) → IsBared n place made → (x : ℕ) → 1 ≤ times made x → 1 ≤ times n x
bared_named n place made b x one = omega (arith, one, compacted_times (exchange_bare n place b.edge) made b.into x, bare_times n place b.edge x b.here)

-- ---- what it has

bare_inside : (nodes : Nodes) (t : Table) (n : Node) (place : ℕ) (e : Edge) (k : List ℕ) → IsSound nodes t → IsShape n → IsEdgeAt n place e → IsBareWay nodes e (end_at n place) → IsKey k → InRange e.pivot (end_at n place) k → node_at (meaning nodes) (exchange_bare n place e) k ≡ node_at (meaning nodes) n k
bare_inside nodes t n place e k sound h here b key range =
    meaning_inside (meaning nodes) n place e (bare_edge e.pivot e.seen ∷ []) h (bare_fits n place e h here) k range
    ∙ ap (λ (v : Option (List ℕ)). acts (meaning nodes) (drop e.seen (buffer_of n)) k v)
    (sym (way_nothing nodes t (length (buffer_of n)) e (end_at n place) k sound b (own_shape n place e h here) key range))
    ∙ sym (meaning_before (meaning nodes) n place e h here k range)

bare_has : (nodes : Nodes) (t : Table) (n : Node) (place : ℕ) (e : Edge) (k : List ℕ) → IsSound nodes t → IsShape n → IsEdgeAt n place e → IsBareWay nodes e (end_at n place) → IsKey k → node_at (meaning nodes) (exchange_bare n place e) k ≡ node_at (meaning nodes) n k
bare_has nodes t n place e k sound h here b key =
    elim (in_range e.pivot (end_at n place) k) [
      | inl range ↦ bare_inside nodes t n place e k sound h here b key range
      | inr out ↦ meaning_outside (meaning nodes) n place e (bare_edge e.pivot e.seen ∷ []) h (bare_fits n place e h here) k out
    ]

pub bared_meaning : (nodes : Nodes) (t : Table) (n : Node) (place : ℕ) (made : Node) (k : List ℕ) → IsSound nodes t → IsShape n → IsBared n place made → IsBareAt nodes n place → IsKey k → node_at (meaning nodes) made k ≡ node_at (meaning nodes) n k
bared_meaning nodes t n place made k sound h d b key =
    let own : b.edge ≡ d.edge = same_Some b.edge d.edge (sym b.here ∙ d.here) in
    compacted_meaning (meaning nodes) (exchange_bare n place d.edge) made (bare_loose n place d.edge h d.here) d.into k
    ∙ bare_has nodes t n place d.edge k sound h d.here (subst (λ (e : Edge). IsBareWay nodes e (end_at n place)) own b.bare) key

-- ---- how much is left

bare_children : (xs : List Edge) (e f : Edge) (ys : List Edge) (child : ℕ) → e.child ≡ Some child → f.child ≡ None → children (xs ++ f ∷ ys) < children (xs ++ e ∷ ys)
bare_children xs e f ys child some none =
    let h = λ (x : Edge). length (edge_names x) in
    let one : h e ≡ 1 = ap (λ (o : Option ℕ). length (option_to_list o)) some in
    let zero_of : h f ≡ 0 = ap (λ (o : Option ℕ). length (option_to_list o)) none in
    omega (arith, one, zero_of, sum_by-append h xs (f ∷ ys), sum_by-append h xs (e ∷ ys), sum_by-cons h f ys, sum_by-cons h e ys)

bare_unseen : (buffer : List Message) (xs : List Edge) (e f : Edge) (ys : List Edge) → f.seen ≡ e.seen → count_after buffer (xs ++ f ∷ ys) ≡ count_after buffer (xs ++ e ∷ ys)
bare_unseen buffer xs e f ys same =
    let h = λ (x : Edge). after x.seen buffer in
    let own : h f ≡ h e = ap (λ (i : ℕ). after i buffer) same in
    omega (arith, own, sum_by-append h xs (f ∷ ys), sum_by-append h xs (e ∷ ys), sum_by-cons h f ys, sum_by-cons h e ys)

pub bared_less : (n : Node) (place : ℕ) (made : Node) (child : ℕ) → (b : IsBared n place made) → b.edge.child ≡ Some child → left_at made < left_at n
bared_less (Leaf entries) place made child b some = absurd (none-some b.edge b.here)
bared_less (Inner level es buffer) place made child b some =
    let e : Edge = b.edge in
    let f : Edge = bare_edge e.pivot e.seen in
    let xs : List Edge = take place es in
    let ys : List Edge = drop (place + 1) es in
    let mask = b.into.mask in
    let whole : es ≡ xs ++ e ∷ ys = (at_place es place e b.here).whole in
    let unseen : unseen_count made ≡ count_after (staying mask buffer) (map (lowered mask) (xs ++ f ∷ ys)) = ap unseen_count b.into.swept in
    let no_more : count_after (staying mask buffer) (map (lowered mask) (xs ++ f ∷ ys)) ≤ count_after buffer (xs ++ f ∷ ys) = lowered_after mask buffer (xs ++ f ∷ ys) b.into.pending.long in
    let as_many : count_after buffer (xs ++ f ∷ ys) ≡ count_after buffer (xs ++ e ∷ ys) = bare_unseen buffer xs e f ys refl in
    let was_unseen : count_after buffer es ≡ count_after buffer (xs ++ e ∷ ys) = ap (λ (l : List Edge). count_after buffer l) whole in
    let counted : child_count made ≡ children (map (lowered mask) (xs ++ f ∷ ys)) = ap child_count b.into.swept in
    let same : children (map (lowered mask) (xs ++ f ∷ ys)) ≡ children (xs ++ f ∷ ys) = lowered_children mask (xs ++ f ∷ ys) in
    let fewer : children (xs ++ f ∷ ys) < children (xs ++ e ∷ ys) = bare_children xs e f ys child some refl in
    let were : children es ≡ children (xs ++ e ∷ ys) = ap children whole in
    omega (arith, unseen, no_more, as_many, was_unseen, counted, same, fewer, were)
