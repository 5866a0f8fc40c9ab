-- Which message or edge leads on from a node.
use Rattle.std.proofs.Common.{◌≡◌, ◌≢◌, ℕ, ◌<◌, ◌≤◌, true, List, [], ◌∷◌, ◌++◌, sym, ap, subst, ◌∙◌, Option, Some, inl, inr, arith}
use Rattle.std.proofs.lemmas.List.{append-nil}
use Rattle.std.proofs.lemmas.Bool.{cases_lt}
use Rattle.std.proofs.lemmas.Option.{same_Some}
use Rattle.bd_keys.specs.Keys.{InRange}
use Rattle.bd_message.specs.declared.message.Message.{Message}
use Rattle.bd_message.specs.Effect.{begins, rest}
use Rattle.bd_message.proofs.Finds.{begins-append, begins-is, not_both}
use Rattle.bd_node.specs.declared.node.Edge.{Edge}
use Rattle.bd_node.specs.declared.node.Node.{Node}
use Rattle.bd_node.specs.declared.node.Node.TheVariants.{Inner}
use Rattle.bd_node.specs.Nodes.{edge_of}
use Rattle.bd_node.specs.Shape.{EachEdge, SomeEdge, IsInner, IsShape}
use Rattle.bd_node.proofs.Appending.{some_has}
use Rattle.bd_node.proofs.Edges.{some_edge, EachEdge-weaker}
use Rattle.bd_node.proofs.LawLemmas.{edge_only}
use Rattle.bd_resolve.specs.declared.following.Followed.{Followed}
use Rattle.bd_resolve.specs.Following.{GoesOn, IsUnder, IsByCover, IsThroughEdge, IsSpreadOver, Decides, IsLed, LeadsTo}
use Rattle.bd_resolve.specs.Following.IsByCoverOr.{by_cover, by_none}
use Rattle.bd_resolve.specs.Following.IsLed.{by_message, by_edge, at_several}
use Rattle.bd_resolve.proofs.Follows.{each_some, edge_of-more}

-- the newest message that covers the prefix, from a place on that is past all that its edges have
-- seen, decides
led_cover : (es : List Edge) (buffer : List Message) (q : List ℕ) (seen : ℕ) (f : Followed) → q ≢ [] → EachEdge (λ e hi. IsUnder q e hi → e.seen ≤ seen) es → IsByCover buffer seen q f → IsLed es buffer q f
led_cover es buffer q seen f some most h =
    by_message h.place h.message some
    (record {
      here = h.here;
      covering = h.covering;
      pending = EachEdge-weaker (λ e hi. IsUnder q e hi → e.seen ≤ seen) (λ e hi. IsUnder q e hi → e.seen ≤ h.place)
          (λ e hi before under. (let a : e.seen ≤ seen = before under in let b : seen ≤ h.place = h.later in omega arith)) es most;
    })
    (λ place m late decides. not_both decides.covering (h.newest place m late decides.here))
    h.leads

-- none decides that some edge with keys of the prefix has seen
seen_decides : (es : List Edge) (buffer : List Message) (q : List ℕ) (seen place : ℕ) (m : Message) → SomeEdge (λ e hi. IsUnder q e hi × (e.seen ≡ seen)) es → place < seen → Decides es buffer q place m → ⊥
seen_decides es buffer q seen place m found early h =
    some_has ⊥ (λ e hi. ⊥) (λ e hi no. no) es
    (each_some (λ e hi. IsUnder q e hi → e.seen ≤ place) (λ e hi. IsUnder q e hi × (e.seen ≡ seen)) (λ e hi. ⊥)
    (λ e hi before own. absurd (let a : e.seen ≤ place = before own.0 in let b : e.seen ≡ seen = own.1 in omega arith)) es h.pending found)

pub spread_led : (es : List Edge) (buffer : List Message) (q : List ℕ) (f : Followed) → q ≢ [] → SomeEdge (GoesOn q) es → IsSpreadOver es buffer q f → IsLed es buffer q f
spread_led es buffer q f some several over = elim over.leads [
  | by_cover cover ↦ led_cover es buffer q over.seen f some over.most.all cover
  | by_none none here ↦ at_several some
      (λ place m late decides. elim (cases_lt place over.seen) [
        | inr past ↦ not_both decides.covering (none place m past decides.here)
        | inl early ↦ seen_decides es buffer q over.seen place m (over.most.one (let l : place < over.seen = early in omega arith)) early decides
      ])
      several here
]

-- what holds of each edge for every key
each_key : (P : List ℕ → Edge → Option (List ℕ) → Type 0) (es : List Edge) → ((k : List ℕ) → EachEdge (P k) es) → EachEdge (λ e hi. (k : List ℕ) → P k e hi) es
each_key P [] h = tt
each_key P (e ∷ es) h = ((λ k. (h k).0), each_key P es (λ k. (h k).1))

-- where the keys of a prefix are of one edge, no other has one
under_one : (level : ℕ) (es : List Edge) (buffer : List Message) (q : List ℕ) (e : Edge) → IsInner level es buffer → (SomeEdge (GoesOn q) es → ⊥) → edge_of es q ≡ Some e → EachEdge (λ f hi. IsUnder q f hi → f.seen ≤ e.seen) es
under_one level es buffer q e h one there =
    EachEdge-weaker (λ f hi. (k : List ℕ) → InRange f.pivot hi k → edge_of es k ≡ Some f) (λ f hi. IsUnder q f hi → f.seen ≤ e.seen)
    (λ f hi only under.
    let is : under.0 ≡ q ++ rest q under.0 = begins-is under.0 q under.2 in
    let same : e ≡ f = same_Some e f (sym there ∙ sym (edge_of-more es q (rest q under.0) one) ∙ ap (λ (k : List ℕ). edge_of es k) (sym is) ∙ only under.0 under.1) in
    let seen : e.seen ≡ f.seen = ap (λ (d : Edge). d.seen) same in
    omega arith)
    es (each_key (λ k f hi. InRange f.pivot hi k → edge_of es k ≡ Some f) es (edge_only level es buffer h))

-- none decides that the one edge of the prefix has seen
one_decides : (level : ℕ) (es : List Edge) (buffer : List Message) (q : List ℕ) (e : Edge) (place : ℕ) (m : Message) → IsInner level es buffer → edge_of es q ≡ Some e → place < e.seen → Decides es buffer q place m → ⊥
one_decides level es buffer q e place m h there early decides =
    some_has ⊥ (λ f hi. (edge_of es q ≡ Some f) × InRange f.pivot hi q × (IsUnder q f hi → f.seen ≤ place))
    (λ f hi found.
    let least : f.seen ≤ place = found.2 (q, found.1, subst (λ (k : List ℕ). begins k q ≡ true) (append-nil q) (begins-append q [])) in
    let same : e.seen ≡ f.seen = ap (λ (d : Edge). d.seen) (same_Some e f (sym there ∙ found.0)) in
    absurd (omega arith))
    es (some_edge (λ f hi. IsUnder q f hi → f.seen ≤ place) es q decides.pending h.first)

pub through_led : (level : ℕ) (es : List Edge) (buffer : List Message) (q : List ℕ) (e : Edge) (f : Followed) → IsInner level es buffer → q ≢ [] → (SomeEdge (GoesOn q) es → ⊥) → edge_of es q ≡ Some e → IsThroughEdge e buffer q f → IsLed es buffer q f
through_led level es buffer q e f h some one there over = elim over [
  | by_cover cover ↦ led_cover es buffer q e.seen f some (under_one level es buffer q e h one there) cover
  | by_none none asked ↦ by_edge e some
      (λ place m late decides. elim (cases_lt place e.seen) [
        | inr past ↦ not_both decides.covering (none place m past decides.here)
        | inl early ↦ one_decides level es buffer q e place m h there early decides
      ])
      one there asked
]

-- ---- the same, as the code knows it

pub lead_spread : (n : Node) (level : ℕ) (es tested own : List Edge) (buffer list : List Message) (q : List ℕ) (f : Followed) → n ≡ Inner level es buffer → tested ≡ es → own ≡ es → list ≡ buffer → q ≢ [] → SomeEdge (GoesOn q) tested → IsSpreadOver own list q f → LeadsTo n q f
lead_spread n level es tested own buffer list q f is e1 e2 e3 some several over =
    let several_in : SomeEdge (GoesOn q) es = subst (λ (l : List Edge). SomeEdge (GoesOn q) l) e1 several in
    let over_in : IsSpreadOver es buffer q f = subst (λ (l : List Message). IsSpreadOver es l q f) e3 (subst (λ (l : List Edge). IsSpreadOver l list q f) e2 over) in
    subst (λ (m : Node). LeadsTo m q f) (sym is) (spread_led es buffer q f some several_in over_in)

pub lead_through : (n : Node) (level : ℕ) (es tested own : List Edge) (buffer list : List Message) (q : List ℕ) (e : Edge) (f : Followed) → n ≡ Inner level es buffer → IsShape n → tested ≡ es → own ≡ es → list ≡ buffer → q ≢ [] → (SomeEdge (GoesOn q) tested → ⊥) → edge_of own q ≡ Some e → IsThroughEdge e list q f → LeadsTo n q f
lead_through n level es tested own buffer list q e f is shape e1 e2 e3 some one there over =
    let inner : IsInner level es buffer = subst (λ (m : Node). IsShape m) is shape in
    let one_in : SomeEdge (GoesOn q) es → ⊥ = λ found. one (subst (λ (l : List Edge). SomeEdge (GoesOn q) l) (sym e1) found) in
    let there_in : edge_of es q ≡ Some e = subst (λ (l : List Edge). edge_of l q ≡ Some e) e2 there in
    let over_in : IsThroughEdge e buffer q f = subst (λ (l : List Message). IsThroughEdge e l q f) e3 over in
    subst (λ (m : Node). LeadsTo m q f) (sym is) (through_led level es buffer q e f inner some one_in there_in over_in)
