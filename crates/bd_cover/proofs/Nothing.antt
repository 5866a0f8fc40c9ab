-- Children that have nothing at the keys that they are asked for, as they are looked through.
use Rattle.std.proofs.Common.{◌≡◌, ℕ, zero, suc, ◌+◌, ◌<◌, ◌≤◌, Bool, IsTrue, ◌↔◌, List, [], ◌∷◌, length, drop, refl, sym, ap, subst, ◌∙◌, Option, None, Some, arith, add-one, drop-cons}
use Rattle.std.specs.Prelude.{slice_get, IfSome}
use Rattle.std.specs.Option.{is_some}
use Rattle.std.proofs.lemmas.Option.{same_Some, slice_get_within, get_or_from_slice_get}
use Rattle.bd_keys.specs.declared.range.Range.{Range}
use Rattle.bd_node.specs.declared.node.Edge.{Edge}
use Rattle.bd_node.specs.declared.node.Node.{Node}
use Rattle.bd_node.specs.Meaning.{Nodes}
use Rattle.bd_node.specs.Parts.{edges_of}
use Rattle.bd_node.specs.Shape.{end_before, EachEdge}
use Rattle.bd_cover.specs.declared.asking.Ask.{Ask}
use Rattle.bd_cover.specs.Asked.{asks}
use Rattle.bd_cover.specs.Bare.{PutsNothing, FindsNothing, HasNothing, sum_edges, if_asked, sum_asked, look_count, LooksLeave, look_limit, IsBareWay}

-- ---- the edges from a place on

drop_edge : (es : List Edge) (place : ℕ) (e : Edge) → slice_get es place ≡ Some e → drop place es ≡ e ∷ drop (place + 1) es
drop_edge es place e here =
    drop-cons es place e (slice_get_within es place e here)
    ∙ ap (λ (x : Edge). x ∷ drop (suc place) es) (get_or_from_slice_get es place e e here)
    ∙ ap (λ (i : ℕ). e ∷ drop i es) (sym (add-one place))

drop_all : (es : List Edge) (place : ℕ) → length es ≤ place → drop place es ≡ []
drop_all [] zero long = refl
drop_all [] (suc place) long = refl
drop_all (e ∷ es) zero long = absurd (omega arith)
drop_all (e ∷ es) (suc place) long = drop_all es place (omega arith)

each_dropped : (P : Edge → Option (List ℕ) → Type 0) (place : ℕ) (es : List Edge) → EachEdge P es → EachEdge P (drop place es)
each_dropped P zero es h = h
each_dropped P (suc place) [] h = tt
each_dropped P (suc place) (e ∷ es) h = each_dropped P place es h.1

each_here : (P : Edge → Option (List ℕ) → Type 0) (es : List Edge) (place : ℕ) (e : Edge) → EachEdge P es → slice_get es place ≡ Some e → P e (end_before (drop (place + 1) es))
each_here P es place e h here = (subst (λ (l : List Edge). EachEdge P l) (drop_edge es place e here) (each_dropped P place es h)).0

-- ---- what is looked at below a node

-- an edge of a node, whose keys end there, asks for keys at which its child has nothing, where the
-- node is asked for some
abbrev pub AsksForNothing : Nodes → ℕ → Range → Edge → Option (List ℕ) → Type 0
AsksForNothing nodes depth keys e end = IfSome (asks e end keys.lo keys.hi) (HasNothing nodes depth)

-- how many looks that takes
abbrev pub looks_at : Nodes → ℕ → Range → Edge → Option (List ℕ) → ℕ
looks_at nodes depth keys e end = if_asked (look_count nodes depth) (asks e end keys.lo keys.hi)

-- the edges before a place do, and so many of the looks are left
pub record ArePassed (nodes : Nodes) (keys : Range) (es : List Edge) (place looks rest depth : ℕ) : Type 0 where
  pub none : EachEdge (AsksForNothing nodes depth keys) (drop place es) → EachEdge (AsksForNothing nodes depth keys) es
  pub count : suc rest + sum_edges (looks_at nodes depth keys) es ≡ looks + sum_edges (looks_at nodes depth keys) (drop place es)

pub passed_first : (nodes : Nodes) (keys : Range) (es : List Edge) (looks rest depth : ℕ) → suc rest ≡ looks → ArePassed nodes keys es 0 looks rest depth
passed_first nodes keys es looks rest depth one = record { none = λ h. h; count = omega (arith, one) }

pub passed_more : (nodes : Nodes) (keys : Range) (es : List Edge) (place looks rest depth : ℕ) (e : Edge) (ask : Option Ask) (less : ℕ) → ArePassed nodes keys es place looks rest depth → slice_get es place ≡ Some e → ask ≡ asks e (end_before (drop (place + 1) es)) keys.lo keys.hi → IfSome ask (HasNothing nodes depth) → less + if_asked (look_count nodes depth) ask ≡ rest
    → ArePassed nodes keys es (place + 1) looks less depth
passed_more nodes keys es place looks rest depth e ask less h here is nothing counted =
    let end : Option (List ℕ) = end_before (drop (place + 1) es) in
    let f = looks_at nodes depth keys in
    let split : sum_edges f (drop place es) ≡ f e end + sum_edges f (drop (place + 1) es) = ap (sum_edges f) (drop_edge es place e here) in
    let own : if_asked (look_count nodes depth) ask ≡ f e end = ap (if_asked (look_count nodes depth)) is in
    record {
      none = λ more. h.none (subst (λ (l : List Edge). EachEdge (AsksForNothing nodes depth keys) l) (sym (drop_edge es place e here)) (subst (λ (o : Option Ask). IfSome o (HasNothing nodes depth)) is nothing, more));
      count = omega (arith, h.count, split, own, counted);
    }

-- ---- of a node

-- the looks that a node takes
count_is : (nodes : Nodes) (depth : ℕ) (ask : Ask) (n : Node) → nodes ask.child ≡ Some n → look_count nodes (suc depth) ask ≡ suc (sum_edges (looks_at nodes depth ask.keys) (edges_of n))
unfolding look_count
count_is nodes depth ask n there = ap (λ (o : Option Node). suc (sum_asked (look_count nodes depth) ask.keys o)) there

pub finds : (nodes : Nodes) (depth : ℕ) (ask : Ask) → HasNothing nodes (suc depth) ask → FindsNothing nodes (HasNothing nodes depth) ask
unfolding HasNothing
finds nodes depth ask h = h

nothing_from : (nodes : Nodes) (depth : ℕ) (ask : Ask) → FindsNothing nodes (HasNothing nodes depth) ask → HasNothing nodes (suc depth) ask
unfolding HasNothing
nothing_from nodes depth ask h = h

pub no_depth : (nodes : Nodes) (ask : Ask) → HasNothing nodes zero ask → ⊥
unfolding HasNothing
no_depth nodes ask h = h

-- without a look nothing is seen
pub no_looks : (nodes : Nodes) (depth : ℕ) (ask : Ask) (looks : ℕ) → looks ≡ 0 → LooksLeave nodes depth ask looks None
no_looks nodes zero ask looks none h = absurd (no_depth nodes ask h)
no_looks nodes (suc depth) ask looks none h =
    let n : FindsNothing nodes (HasNothing nodes depth) ask = finds nodes depth ask h in
    omega (arith, none, count_is nodes depth ask n.node n.there)

-- a node that puts something there has something
pub puts_some : (nodes : Nodes) (depth : ℕ) (ask : Ask) (looks : ℕ) (n : Node) → nodes ask.child ≡ Some n → (PutsNothing n ask.keys → ⊥) → LooksLeave nodes depth ask looks None
puts_some nodes zero ask looks n there not h = absurd (no_depth nodes ask h)
puts_some nodes (suc depth) ask looks n there not h =
    let m : FindsNothing nodes (HasNothing nodes depth) ask = finds nodes depth ask h in
    absurd (not (subst (λ (x : Node). PutsNothing x ask.keys) (same_Some m.node n (sym m.there ∙ there)) m.own))

-- so has one whose edge asks for something, or takes too many looks
pub asks_some : (nodes : Nodes) (depth : ℕ) (ask : Ask) (looks : ℕ) (n : Node) (es : List Edge) (place rest : ℕ) (e : Edge) (below : Ask) → nodes ask.child ≡ Some n → es ≡ edges_of n → looks ≤ depth → 0 < looks
    → ((d : ℕ) → looks ≤ suc d → ArePassed nodes ask.keys es place looks rest d) → slice_get es place ≡ Some e → Some below ≡ asks e (end_before (drop (place + 1) es)) ask.keys.lo ask.keys.hi → ((d : ℕ) → rest ≤ d → LooksLeave nodes d below rest None) → rest < looks
    → LooksLeave nodes depth ask looks None
asks_some nodes zero ask looks n es place rest e below there same high some passed here is less low h = absurd (omega arith)
asks_some nodes (suc depth) ask looks n es place rest e below there same high some passed here is less low h =
    let m : FindsNothing nodes (HasNothing nodes depth) ask = finds nodes depth ask h in
    let own : m.node ≡ n = same_Some m.node n (sym m.there ∙ there) in
    let end : Option (List ℕ) = end_before (drop (place + 1) es) in
    let f = looks_at nodes depth ask.keys in
    let each : EachEdge (AsksForNothing nodes depth ask.keys) es = subst (λ (l : List Edge). EachEdge (AsksForNothing nodes depth ask.keys) l) (ap edges_of own ∙ sym same) m.below in
    let nothing : HasNothing nodes depth below = subst (λ (o : Option Ask). IfSome o (HasNothing nodes depth)) (sym is) (each_here (AsksForNothing nodes depth ask.keys) es place e each here) in
    let more : rest < look_count nodes depth below = less depth (omega arith) nothing in
    let split : sum_edges f (drop place es) ≡ f e end + sum_edges f (drop (place + 1) es) = ap (sum_edges f) (drop_edge es place e here) in
    let one : look_count nodes depth below ≡ f e end = ap (if_asked (look_count nodes depth)) is in
    let whole : sum_edges f es ≡ sum_edges f (edges_of n) = ap (sum_edges f) same in
    omega (arith, more, split, one, whole, (passed depth high).count, count_is nodes depth ask n there)

-- and where all edges are passed it has nothing
pub passed_all : (nodes : Nodes) (depth : ℕ) (ask : Ask) (looks : ℕ) (n : Node) (es : List Edge) (place rest : ℕ) → nodes ask.child ≡ Some n → es ≡ edges_of n → looks ≤ depth → 0 < looks
    → ((d : ℕ) → looks ≤ suc d → ArePassed nodes ask.keys es place looks rest d) → length es ≤ place → PutsNothing n ask.keys → LooksLeave nodes depth ask looks (Some rest)
passed_all nodes zero ask looks n es place rest there same high some passed long puts = absurd (omega arith)
passed_all nodes (suc depth) ask looks n es place rest there same high some passed long puts =
    let h : ArePassed nodes ask.keys es place looks rest depth = passed depth high in
    let f = looks_at nodes depth ask.keys in
    let none : drop place es ≡ [] = drop_all es place long in
    let zero_of : sum_edges f (drop place es) ≡ 0 = ap (sum_edges f) none in
    let whole : sum_edges f es ≡ sum_edges f (edges_of n) = ap (sum_edges f) same in
    let each : EachEdge (AsksForNothing nodes depth ask.keys) es = h.none (subst (λ (l : List Edge). EachEdge (AsksForNothing nodes depth ask.keys) l) (sym none) tt) in (
      nothing_from nodes depth ask (record { node = n; there = there; own = puts; below = subst (λ (l : List Edge). EachEdge (AsksForNothing nodes depth ask.keys) l) same each }),
      omega (arith, zero_of, whole, h.count, count_is nodes depth ask n there),
    )

-- ---- in other spelling

pub looks_in : (same_nodes nodes : Nodes) (depth : ℕ) (ask : Ask) (looks : ℕ) (answer found : Option ℕ) → same_nodes ≡ nodes → answer ≡ found → LooksLeave same_nodes depth ask looks answer → LooksLeave nodes depth ask looks found
looks_in same_nodes nodes depth ask looks answer found e_nodes is h =
    subst (λ (m : Nodes). LooksLeave m depth ask looks found) e_nodes (subst (λ (o : Option ℕ). LooksLeave same_nodes depth ask looks o) is h)

-- ---- an edge's child

is_some_is : (nodes : Nodes) (e : Edge) (hi : Option (List ℕ)) (ask : Ask) (found : Option ℕ) → Some ask ≡ asks e hi [] None → LooksLeave nodes look_limit ask look_limit found → IsTrue (is_some found) ↔ IsBareWay nodes e hi
is_some_is nodes e hi ask (Some rest) is left = ((λ so. record { ask = ask; asked = sym is; nothing = left.0; few = omega (arith, left.1) }), λ b. refl)
is_some_is nodes e hi ask None is left = (
  (λ never. cc),
  (λ b.
      let own : b.ask ≡ ask = same_Some b.ask ask (sym b.asked ∙ sym is) in
      let nothing : HasNothing nodes look_limit ask = subst (λ (a : Ask). HasNothing nodes look_limit a) own b.nothing in
      let few : look_count nodes look_limit ask ≤ look_limit = subst (λ (a : Ask). look_count nodes look_limit a ≤ look_limit) own b.few in
      let many : look_limit < look_count nodes look_limit ask = left nothing in
      absurd (omega (arith, few, many))),
)

pub bare_found : (nodes : Nodes) (e : Edge) (hi : Option (List ℕ)) (ask : Ask) (found : Option ℕ) (test : Bool) → Some ask ≡ asks e hi [] None → LooksLeave nodes look_limit ask look_limit found → test ≡ is_some found → IsTrue test ↔ IsBareWay nodes e hi
bare_found nodes e hi ask found test is left tested = subst (λ (b : Bool). IsTrue b ↔ IsBareWay nodes e hi) (sym tested) (is_some_is nodes e hi ask found is left)
