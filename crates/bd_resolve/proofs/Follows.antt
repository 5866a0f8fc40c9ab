-- Where the way of a prefix leads from a node.
use Rattle.std.proofs.Common.{◌≡◌, ◌↔◌, ℕ, suc, ◌+◌, ◌<◌, ◌≤◌, Bool, true, false, cond, List, [], ◌∷◌, ◌++◌, length, take, drop, min, max, get_or, ◌-◌, refl, sym, ap, subst, ◌∙◌, Option, None, Some, inl, inr, arith, append_assoc, IsTrue}
use Rattle.std.specs.Prelude.{slice_get, count_by, ◌==◌}
use Rattle.std.specs.List.{flat_map}
use Rattle.std.specs.Ordering.{is_lt}
use Rattle.std.proofs.lemmas.List.{drop-append-le, length-take, length-take-le, take_all}
use Rattle.std.proofs.lemmas.Bool.{cases_lt}
use Rattle.std.proofs.Math.Nat.{min-eq_right, max-eq_left, max-eq_right, le-max_left, le-max_right}
use Rattle.std.specs.Option.{option_to_list}
use Rattle.std.proofs.lemmas.Option.{same_Some, none-some, slice_get_within}
use Rattle.bd_keys.specs.Keys.{IsKey, InRange, IsBelowEnd, key_cmp}
use Rattle.bd_message.specs.declared.message.Message.{Message}
use Rattle.bd_message.specs.declared.message.Message.TheVariants.{Put, Del, Patch, Cut, Goto}
use Rattle.bd_message.specs.Effect.{NodesAt, begins, acts}
use Rattle.bd_message.proofs.Finds.{begins-append, not_both}
use Rattle.bd_node.specs.declared.node.Edge.{Edge}
use Rattle.bd_node.specs.declared.node.Node.{Node}
use Rattle.bd_node.specs.declared.node.Node.TheVariants.{Inner}
use Rattle.bd_node.specs.Nodes.{edge_names, message_names, edge_from, edge_of, child_at, through, node_at}
use Rattle.bd_node.specs.Shape.{end_before, EachEdge, SomeEdge, IsEdge, IsInner, IsShape}
use Rattle.bd_node.proofs.Appending.{some_has}
use Rattle.bd_node.proofs.Edges.{some_edge, EachEdge-weaker, SomeEdge-weaker}
use Rattle.bd_node.proofs.Lookup.{count-cons_same}
use Rattle.bd_node.proofs.Touched.{touched_at_least, touched_within}
use Rattle.bd_node.proofs.Counted.{counted_first, counted_second, message_counted, edge_of_counted}
use Rattle.bd_node.proofs.Shapes.{inner_seen}
use Rattle.bd_resolve.specs.declared.following.Target.{Target}
use Rattle.bd_resolve.specs.declared.following.Followed.{Followed}
use Rattle.bd_resolve.specs.Following.{target_at, target_of, edge_target, covers, covered, NoneCovers, GoesOn, IsUnder, IsNamedTarget, IsFollowed, IsByCover, IsMostSeen, IsThroughEdge, IsSpreadOver}
use Rattle.bd_resolve.specs.Following.IsByCoverOr.{by_cover, by_none}
use Rattle.bd_resolve.proofs.Prefixes.{same_side}
use Rattle.bd_resolve.proofs.Covers.{covers_acts, acts_cover}

-- ---- edges

-- an edge of which both hold
pub each_some : (P Q R : Edge → Option (List ℕ) → Type 0) → ((e : Edge) (hi : Option (List ℕ)) → P e hi → Q e hi → R e hi) → (es : List Edge) → EachEdge P es → SomeEdge Q es → SomeEdge R es
each_some P Q R f [] h g = g
each_some P Q R f (e ∷ es) h g = elim g [
  | inl here ↦ inl (f e _ h.0 here)
  | inr later ↦ inr (each_some P Q R f es h.1 later)
]

edge_from-more : (e : Edge) (es : List Edge) (q k : List ℕ) → (SomeEdge (GoesOn q) es → ⊥) → edge_from e es (q ++ k) ≡ edge_from e es q
edge_from-more e [] q k one = refl
edge_from-more e (f ∷ es) q k one =
    ap (λ (b : Bool). cond b e (edge_from f es (q ++ k))) (same_side q k f.pivot (λ inside longer. one (inl (inside, longer))))
    ∙ ap (λ (d : Edge). cond (is_lt (key_cmp q f.pivot)) e d) (edge_from-more f es q k (λ some. one (inr some)))

-- where the keys of a prefix are of one edge, it is that of the prefix
pub edge_of-more : (es : List Edge) (q k : List ℕ) → (SomeEdge (GoesOn q) es → ⊥) → edge_of es (q ++ k) ≡ edge_of es q
edge_of-more [] q k one = refl
edge_of-more (e ∷ es) q k one = ap (λ (d : Edge). Some d) (edge_from-more e es q k (λ some. one (inr some)))

taken_short : (lift : ℕ) (pivot q : List ℕ) → lift ≤ length pivot → take (length (take lift pivot)) q ≡ take lift pivot → lift ≤ length q
taken_short lift pivot q le same = elim (cases_lt (length q) lift) [
  | inr more ↦ more
  | inl less ↦ absurd (
      let long : length (take lift pivot) ≡ lift = length-take-le lift pivot le in
      let shorter : length q ≤ length (take lift pivot) = (let l : length q < lift = less in omega arith) in
      let least : min (length (take lift pivot)) (length q) ≡ length q = min-eq_right shorter in
      let l : length q < lift = less in
      omega (arith, ap (λ (l : List ℕ). length l) same, length-take (length (take lift pivot)) q))
]

-- an edge leaves out no more than what its keys begin with
lift_short : (n : ℕ) (e : Edge) (hi : Option (List ℕ)) (q : List ℕ) → IsEdge n e hi → InRange e.pivot hi q → IsKey q → e.lift ≤ length q
lift_short n e hi q own range key = taken_short e.lift e.pivot q own.lift (own.common q key range)

inner_lift : (level : ℕ) (es : List Edge) (buffer : List Message) (q : List ℕ) (e : Edge) → IsInner level es buffer → IsKey q → edge_of es q ≡ Some e → e.lift ≤ length q
inner_lift level es buffer q e h key there =
    some_has (e.lift ≤ length q) (λ (f : Edge) hi. (edge_of es q ≡ Some f) × InRange f.pivot hi q × IsEdge (length buffer) f hi)
    (λ f hi found. subst (λ (d : Edge). d.lift ≤ length q) (same_Some f e (sym found.0 ∙ there)) (lift_short (length buffer) f hi q found.2 found.1 key))
    es (some_edge (IsEdge (length buffer)) es q h.each h.first)

-- ---- what an edge sends keys to

target_more : (below : NodesAt) (child : Option ℕ) (source q k : List ℕ) (lift : ℕ) → lift ≤ length q → child_at below child (source ++ drop lift (q ++ k)) ≡ target_at below (target_of child (source ++ drop lift q)) k
target_more below None source q k lift le = refl
target_more below (Some child) source q k lift le =
    ap (λ (l : List ℕ). below child l) (ap (λ (r : List ℕ). source ++ r) (drop-append-le lift q k le) ∙ sym (append_assoc source (drop lift q) k))

-- ---- names

named_message : (q : List ℕ) (m : Message) → covers m q ≡ true → (target : Target) → covered m q ≡ Some target → 1 ≤ count_by (λ name. name == target.child) (message_names m)
named_message q (Put key value) h target e = absurd (not_both h refl)
named_message q (Del key) h target e = absurd (not_both h refl)
named_message q (Patch key off bytes) h target e = absurd (not_both h refl)
named_message q (Cut prefix from) h target e = absurd (none-some target e)
named_message q (Goto prefix source child) h target e =
    subst (λ (c : ℕ). 1 ≤ count_by (λ name. name == c) (child ∷ [])) (ap (λ (t : Target). t.child) (same_Some _ target e)) (omega (arith, count-cons_same child []))

named_child : (child : Option ℕ) (source : List ℕ) (target : Target) → target_of child source ≡ Some target → 1 ≤ count_by (λ name. name == target.child) (option_to_list child)
named_child None source target is = absurd (none-some target is)
named_child (Some child) source target is =
    subst (λ (c : ℕ). 1 ≤ count_by (λ name. name == c) (child ∷ [])) (ap (λ (t : Target). t.child) (same_Some _ target is)) (omega (arith, count-cons_same child []))

by_target : (ns : List ℕ) (found : Option Target) → ((target : Target) → found ≡ Some target → 1 ≤ count_by (λ name. name == target.child) ns) → IsNamedTarget ns found
by_target ns None h = tt
by_target ns (Some target) h = h target refl

cover_named : (es : List Edge) (buffer : List Message) (q : List ℕ) (place : ℕ) (m : Message) → slice_get buffer place ≡ Some m → covers m q ≡ true → IsNamedTarget (flat_map edge_names es ++ flat_map message_names buffer) (covered m q)
cover_named es buffer q place m there h =
    by_target (flat_map edge_names es ++ flat_map message_names buffer) (covered m q) (λ target is.
    (let one : 1 ≤ count_by (λ name. name == target.child) (message_names m) = named_message q m h target is in
    let of_message : count_by (λ name. name == target.child) (message_names m) ≤ count_by (λ name. name == target.child) (flat_map message_names buffer) = message_counted buffer place m target.child there in
    let of_all : count_by (λ name. name == target.child) (flat_map message_names buffer) ≤ count_by (λ name. name == target.child) (flat_map edge_names es ++ flat_map message_names buffer) = counted_second target.child (flat_map edge_names es) (flat_map message_names buffer) in omega arith))

edge_named : (es : List Edge) (buffer : List Message) (q : List ℕ) (e : Edge) → edge_of es q ≡ Some e → IsNamedTarget (flat_map edge_names es ++ flat_map message_names buffer) (edge_target e q)
edge_named es buffer q e there =
    by_target (flat_map edge_names es ++ flat_map message_names buffer) (edge_target e q)
    (λ target is.
    (let one : 1 ≤ count_by (λ name. name == target.child) (edge_names e) = named_child e.child (e.source ++ drop e.lift q) target is in
    let of_edge : count_by (λ name. name == target.child) (edge_names e) ≤ count_by (λ name. name == target.child) (flat_map edge_names es) = edge_of_counted es q e target.child there in
    let of_all : count_by (λ name. name == target.child) (flat_map edge_names es) ≤ count_by (λ name. name == target.child) (flat_map edge_names es ++ flat_map message_names buffer) = counted_first target.child (flat_map edge_names es) (flat_map message_names buffer) in omega arith))

-- ---- where the way leads

-- where each edge with a key of the prefix has seen at most so many messages
abbrev pub SeenAtMost : List Edge → List ℕ → ℕ → Type 0
SeenAtMost es q seen = (k : List ℕ) → (e : Edge) × (edge_of es (q ++ k) ≡ Some e) × (e.seen ≤ seen)

cover_answer : (level : ℕ) (es : List Edge) (buffer : List Message) (q : List ℕ) (seen place : ℕ) (m : Message) (below : NodesAt) (k : List ℕ) → (e : Edge) × (edge_of es (q ++ k) ≡ Some e) × (e.seen ≤ seen) → seen ≤ place → slice_get buffer place ≡ Some m → covers m q ≡ true
    → node_at below (Inner level es buffer) (q ++ k) ≡ acts below (drop (place + 1) buffer) (q ++ k) (target_at below (covered m q) k)
cover_answer level es buffer q seen place m below k found later there covering =
    let le : found.0.seen ≤ place = (let a : found.0.seen ≤ seen = found.2 in omega arith) in
    let one : suc place ≡ place + 1 = omega arith in
    ap (λ (o : Option Edge). through below o buffer (q ++ k)) found.1
    ∙ acts_cover below buffer found.0.seen place m (q ++ k) (target_at below (covered m q) k) le there (λ old. covers_acts below m q k old covering) _
    ∙ ap (λ (i : ℕ). acts below (drop i buffer) (q ++ k) (target_at below (covered m q) k)) one

covered_followed : (level : ℕ) (es : List Edge) (buffer : List Message) (q : List ℕ) (seen : ℕ) (f : Followed) → SeenAtMost es q seen → IsByCover buffer seen q f → IsFollowed (Inner level es buffer) q f
covered_followed level es buffer q seen f most h =
    subst (λ (g : Followed). IsFollowed (Inner level es buffer) q g) (sym h.leads) (record {
      within = (let w : h.place < length buffer = slice_get_within buffer h.place h.message h.here in omega arith);
      answer = λ below k. cover_answer level es buffer q seen h.place h.message below k (most k) h.later h.here h.covering;
      newest = h.newest;
      named = cover_named es buffer q h.place h.message h.here h.covering;
    })

under_all : (level : ℕ) (es : List Edge) (buffer : List Message) (q : List ℕ) (seen : ℕ) → IsInner level es buffer → EachEdge (λ e hi. IsUnder q e hi → e.seen ≤ seen) es → SeenAtMost es q seen
under_all level es buffer q seen h most k =
    some_has ((e : Edge) × (edge_of es (q ++ k) ≡ Some e) × (e.seen ≤ seen)) (λ (f : Edge) hi. (edge_of es (q ++ k) ≡ Some f) × InRange f.pivot hi (q ++ k) × (IsUnder q f hi → f.seen ≤ seen)) (λ f hi found. (f, found.0, found.2 (q ++ k, found.1, begins-append q k)))
    es (some_edge (λ e hi. IsUnder q e hi → e.seen ≤ seen) es (q ++ k) most h.first)

seen_under : (es : List Edge) (buffer : List Message) (q : List ℕ) (seen : ℕ) → IsMostSeen es q seen → NoneCovers buffer seen q
    → (place : ℕ) (m : Message) → slice_get buffer place ≡ Some m → covers m q ≡ true → SomeEdge (λ e hi. IsUnder q e hi × (place < e.seen)) es
seen_under es buffer q seen most none place m there covering = elim (cases_lt place seen) [
  | inr late ↦ absurd (not_both covering (none place m late there))
  | inl early ↦ SomeEdge-weaker (λ e hi. IsUnder q e hi × (e.seen ≡ seen)) (λ e hi. IsUnder q e hi × (place < e.seen))
      (λ e hi own. (own.0, (let l : place < seen = early in let same : e.seen ≡ seen = own.1 in omega arith))) es (most.one (let l : place < seen = early in omega arith))
]

pub spread_followed : (level : ℕ) (es : List Edge) (buffer : List Message) (q : List ℕ) (f : Followed) → IsInner level es buffer → SomeEdge (GoesOn q) es → IsSpreadOver es buffer q f → IsFollowed (Inner level es buffer) q f
spread_followed level es buffer q f h several over = elim over.leads [
  | by_cover cover ↦ covered_followed level es buffer q over.seen f (under_all level es buffer q over.seen h over.most.all) cover
  | by_none none here ↦ subst (λ (g : Followed). IsFollowed (Inner level es buffer) q g) (sym here) (inr (record {
    several = several;
    seen = seen_under es buffer q over.seen over.most none;
  }))
]

one_edge : (es : List Edge) (q : List ℕ) (e : Edge) → (SomeEdge (GoesOn q) es → ⊥) → edge_of es q ≡ Some e → SeenAtMost es q e.seen
one_edge es q e one there k = (e, edge_of-more es q k one ∙ there, (omega arith))

pub through_followed : (level : ℕ) (es : List Edge) (buffer : List Message) (q : List ℕ) (e : Edge) (f : Followed) → IsInner level es buffer → IsKey q → (SomeEdge (GoesOn q) es → ⊥) → edge_of es q ≡ Some e → IsThroughEdge e buffer q f → IsFollowed (Inner level es buffer) q f
through_followed level es buffer q e f h key one there over = elim over [
  | by_cover cover ↦ covered_followed level es buffer q e.seen f (one_edge es q e one there) cover
  | by_none none asked ↦ subst (λ (g : Followed). IsFollowed (Inner level es buffer) q g) (sym asked) (record {
    within = inner_seen level es buffer q e h there;
    answer = λ below k.
        ap (λ (o : Option Edge). through below o buffer (q ++ k)) (edge_of-more es q k one ∙ there)
        ∙ ap (λ v. acts below (drop e.seen buffer) (q ++ k) v) (target_more below e.child e.source q k e.lift (inner_lift level es buffer q e h key there));
    newest = none;
    named = edge_named es buffer q e there;
  })
]

-- ---- which edges have keys of a prefix

pub under_pivot : (lo : List ℕ) (hi : Option (List ℕ)) (q : List ℕ) (r : Bool) → IsBelowEnd lo hi → r ≡ true → r ≡ begins lo q → IsTrue r ↔ ((k : List ℕ) × InRange lo hi k × (begins k q ≡ true))
under_pivot lo hi q r below holds is = touched_at_least (Goto q [] 0) lo hi r below holds is

pub under_range : (lo : List ℕ) (hi : Option (List ℕ)) (q : List ℕ) (t r : Bool) → t ≡ false → t ≡ begins lo q → (IsTrue r ↔ InRange lo hi q) → IsTrue r ↔ ((k : List ℕ) × InRange lo hi k × (begins k q ≡ true))
under_range lo hi q t r other is within = touched_within (Goto q [] 0) lo hi t r q other is refl within

-- ---- the same, as the code knows it

pub follow_spread : (n : Node) (level : ℕ) (es tested own : List Edge) (buffer list : List Message) (q : List ℕ) (f : Followed) → n ≡ Inner level es buffer → IsShape n → tested ≡ es → own ≡ es → list ≡ buffer → SomeEdge (GoesOn q) tested → IsSpreadOver own list q f → IsFollowed n q f
follow_spread n level es tested own buffer list q f is shape e1 e2 e3 several over =
    let inner : IsInner level es buffer = subst (λ (m : Node). IsShape m) is shape in
    let several_in : SomeEdge (GoesOn q) es = subst (λ (l : List Edge). SomeEdge (GoesOn q) l) e1 several in
    let over_in : IsSpreadOver es buffer q f = subst (λ (l : List Message). IsSpreadOver es l q f) e3 (subst (λ (l : List Edge). IsSpreadOver l list q f) e2 over) in
    subst (λ (m : Node). IsFollowed m q f) (sym is) (spread_followed level es buffer q f inner several_in over_in)

pub follow_through : (n : Node) (level : ℕ) (es tested own : List Edge) (buffer list : List Message) (q : List ℕ) (e : Edge) (f : Followed) → n ≡ Inner level es buffer → IsShape n → IsKey q → tested ≡ es → own ≡ es → list ≡ buffer → (SomeEdge (GoesOn q) tested → ⊥) → edge_of own q ≡ Some e → IsThroughEdge e list q f → IsFollowed n q f
follow_through n level es tested own buffer list q e f is shape key e1 e2 e3 one there over =
    let inner : IsInner level es buffer = subst (λ (m : Node). IsShape m) is shape in
    let one_in : SomeEdge (GoesOn q) es → ⊥ = λ some. one (subst (λ (l : List Edge). SomeEdge (GoesOn q) l) (sym e1) some) in
    let there_in : edge_of es q ≡ Some e = subst (λ (l : List Edge). edge_of l q ≡ Some e) e2 there in
    let over_in : IsThroughEdge e buffer q f = subst (λ (l : List Message). IsThroughEdge e l q f) e3 over in
    subst (λ (m : Node). IsFollowed m q f) (sym is) (through_followed level es buffer q e f inner key one_in there_in over_in)

-- ---- how many messages the edges of a prefix have seen

abbrev pub rest_of : List Edge → List Edge
rest_of es = take (length es - 1) (drop 1 es)

rest_is : (e : Edge) (es : List Edge) → rest_of (e ∷ es) ≡ es
rest_is e es = take_all (length (e ∷ es) - 1) es (omega arith)

most_of_all : (es : List Edge) (q : List ℕ) (e : Edge) (most new : ℕ) → 1 ≤ length es → e ≡ get_or es 0 e → EachEdge (λ f hi. IsUnder q f hi → f.seen ≤ most) (rest_of es) → new ≡ max most e.seen → EachEdge (λ f hi. IsUnder q f hi → f.seen ≤ new) es
most_of_all [] q e most new some is h same = absurd (omega arith)
most_of_all (d ∷ es) q e most new some is h same = (
  (λ under. (let first : e.seen ≡ d.seen = ap (λ (f : Edge). f.seen) is in omega (arith, le-max_right most e.seen, same))),
  EachEdge-weaker (λ f hi. IsUnder q f hi → f.seen ≤ most) (λ f hi. IsUnder q f hi → f.seen ≤ new) (λ f hi before under. (let b : f.seen ≤ most = before under in omega (arith, le-max_left most e.seen, same))) es
      (subst (λ (l : List Edge). EachEdge (λ f hi. IsUnder q f hi → f.seen ≤ most) l) (rest_is d es) h),
)

most_of_one : (es : List Edge) (q : List ℕ) (e : Edge) (most new : ℕ) → 1 ≤ length es → e ≡ get_or es 0 e → IsUnder q e (end_before (rest_of es)) → (1 ≤ most → SomeEdge (λ f hi. IsUnder q f hi × (f.seen ≡ most)) (rest_of es)) → new ≡ max most e.seen → SomeEdge (λ f hi. IsUnder q f hi × (f.seen ≡ new)) es
most_of_one [] q e most new some is under h same = absurd (omega arith)
most_of_one (d ∷ es) q e most new some is under h same = elim (cases_lt e.seen most) [
  | inr more ↦
      let new_is : new ≡ e.seen = same ∙ max-eq_right more in
      inl (subst (λ (f : Edge). IsUnder q f (end_before es)) is (subst (λ (l : List Edge). IsUnder q e (end_before l)) (rest_is d es) under), sym (ap (λ (f : Edge). f.seen) is) ∙ sym new_is)
  | inl less ↦
      let new_is : new ≡ most = same ∙ max-eq_left (let l : e.seen < most = less in omega arith) in
      inr (SomeEdge-weaker (λ f hi. IsUnder q f hi × (f.seen ≡ most)) (λ f hi. IsUnder q f hi × (f.seen ≡ new)) (λ f hi own. (own.0, own.1 ∙ sym new_is)) es
      (subst (λ (l : List Edge). SomeEdge (λ f hi. IsUnder q f hi × (f.seen ≡ most)) l) (rest_is d es) (h (let l : e.seen < most = less in omega arith))))
]

pub most_under : (es : List Edge) (q : List ℕ) (e : Edge) (most new : ℕ) → 1 ≤ length es → e ≡ get_or es 0 e → IsUnder q e (end_before (rest_of es)) → IsMostSeen (rest_of es) q most → new ≡ max most e.seen → IsMostSeen es q new
most_under es q e most new some is under h same = record {
  all = most_of_all es q e most new some is h.all same;
  one = λ any. most_of_one es q e most new some is under h.one same;
}

-- an edge without a key of the prefix doesn't count
pub most_beside : (es : List Edge) (q : List ℕ) (e : Edge) (most : ℕ) → 1 ≤ length es → e ≡ get_or es 0 e → (IsUnder q e (end_before (rest_of es)) → ⊥) → IsMostSeen (rest_of es) q most → IsMostSeen es q most
most_beside [] q e most some is other h = absurd (omega arith)
most_beside (d ∷ es) q e most some is other h =
    let rest : IsMostSeen es q most = subst (λ (l : List Edge). IsMostSeen l q most) (rest_is d es) h in
    let first : IsUnder q d (end_before es) → ⊥ = λ under. other (subst (λ (l : List Edge). IsUnder q e (end_before l)) (sym (rest_is d es)) (subst (λ (f : Edge). IsUnder q f (end_before es)) (sym is) under)) in
    record { all = ((λ under. absurd (first under)), rest.all); one = λ any. inr (rest.one any) }
