-- What is seen at a node on the way of a prefix.
use Rattle.std.proofs.Common.{◌≡◌, ℕ, suc, Bool, true, false, ◌+◌, ◌<◌, ◌≤◌, List, [], ◌∷◌, ◌++◌, length, drop, reverse, refl, sym, ap, subst, ◌∙◌, Option, Some, arith, inl, inr}
use Rattle.std.specs.Prelude.{◌↔◌, IsTrue, slice_get}
use Rattle.std.proofs.lemmas.Bool.{cases_eq, cases_lt, false≢true}
use Rattle.std.proofs.lemmas.List.{reverse-append}
use Rattle.std.proofs.lemmas.Option.{same_Some, none-some}
use Rattle.bd_limits.specs.Limits.{abundant_limit}
use Rattle.bd_message.proofs.Prefixes.{begins_itself}
use Rattle.bd_node.specs.declared.node.Edge.{Edge}
use Rattle.bd_node.specs.declared.node.Node.{Node}
use Rattle.bd_node.specs.declared.node.Node.TheVariants.{Leaf, Inner}
use Rattle.bd_node.specs.Nodes.{edge_of}
use Rattle.bd_node.specs.Meaning.{Nodes}
use Rattle.bd_node.specs.Shape.{AreRising, IsShape}
use Rattle.bd_node.specs.Tables.{Table}
use Rattle.bd_node.specs.Parts.{edges_of, buffer_of, end_at, IsEdgeAt}
use Rattle.bd_node.proofs.Owning.{owner_of}
use Rattle.bd_node.proofs.Parts.{edge_within}
use Rattle.bd_node.proofs.Shapes.{inner_rising}
use Rattle.bd_path.specs.declared.fetching.Fetched.{Fetched}
use Rattle.bd_path.specs.Fetching.{IsFetched, IsWayTo, IsOwn, AreOwn}
use Rattle.bd_flush.specs.GoingDown.{LiesWithin}
use Rattle.bd_step.specs.declared.ways.Asked.{Asked}
use Rattle.bd_step.specs.declared.ways.Asked.TheVariants.{Nothing, Through, Child}
use Rattle.bd_step.specs.declared.settling.Along.TheVariants.{Down}
use Rattle.bd_step.specs.Ways.{IsAsked}
use Rattle.bd_step.specs.Settling.{waiting_under, IsEdgeFor, IsDueAt, IsDueOn, IsSettled, HasNoEdgeFor, LeadsDown, StopsAt, IsPassedTo, IsPlainUp, IsAlong}
use Rattle.bd_step.specs.Settling.IsPassedTo.{at_root, below}
use Rattle.bd_step.specs.Settling.IsPlainUp.{top, one_up}
use Rattle.bd_step.proofs.Down.{way_lower}

-- no edge before a place has all keys of the prefix
abbrev pub NoneLies : Node → List ℕ → ℕ → Type 0
NoneLies n q place = (i : ℕ) (e : Edge) → i < place → IsEdgeAt n i e → LiesWithin q e.pivot (end_at n i) → ⊥

pub none_more : (n : Node) (q : List ℕ) (place : ℕ) (e : Edge) (r : Bool) (hi : Option (List ℕ)) → IsEdgeAt n place e → hi ≡ end_at n place → r ≡ false → IsTrue r ↔ LiesWithin q e.pivot hi → NoneLies n q place → NoneLies n q (place + 1)
none_more n q place e r hi here end not_it tells none i d low at_i lies =
    elim (cases_eq i place) [
      | inl same ↦
          let own : d ≡ e = same_Some d e (sym at_i ∙ ap (λ (j : ℕ). slice_get (edges_of n) j) same ∙ here) in
          let there : LiesWithin q e.pivot (end_at n place) = subst (λ (j : ℕ). LiesWithin q e.pivot (end_at n j)) same (subst (λ (x : Edge). LiesWithin q x.pivot (end_at n i)) own lies) in
          false≢true (sym not_it ∙ tells.1 (subst (λ (o : Option (List ℕ)). LiesWithin q e.pivot o) (sym end) there))
      | inr apart ↦ none i d (omega arith) at_i lies
    ]

pub none_at_all : (n : Node) (q : List ℕ) (place : ℕ) → NoneLies n q place → length (edges_of n) ≤ place → HasNoEdgeFor n q
none_at_all n q place none all at e h = none at e (let low : at < length (edges_of n) = edge_within n at e h.here in omega arith) h.here h.all

pub lies_here : (n : Node) (q : List ℕ) (place : ℕ) (e : Edge) (r : Bool) (hi : Option (List ℕ)) → IsShape n → (q ≡ [] → ⊥) → IsEdgeAt n place e → hi ≡ end_at n place → r ≡ true → IsTrue r ↔ LiesWithin q e.pivot hi → (d : Edge) × IsEdgeFor n q place d
lies_here n q place e r hi shape some here end is tells =
    (e, record { shape = shape; some = some; here = here; all = subst (λ (o : Option (List ℕ)). LiesWithin q e.pivot o) end (tells.0 is) })

-- ---- the edge for a prefix is one

rising_edges : (n : Node) (place : ℕ) (e : Edge) → IsShape n → IsEdgeAt n place e → AreRising (edges_of n)
rising_edges (Leaf entries) place e shape here = absurd (none-some e here)
rising_edges (Inner level es buffer) place e shape here = inner_rising level es buffer shape

edge_found : (n : Node) (q : List ℕ) (place : ℕ) (e : Edge) → IsEdgeFor n q place e → edge_of (edges_of n) q ≡ Some e
edge_found n q place e h =
    owner_of (edges_of n) q place e (rising_edges n place e h.shape h.here) (e, h.here, h.all.range q (begins_itself q)) h.here

pub same_for : (n : Node) (q : List ℕ) (i j : ℕ) (d e : Edge) → IsEdgeFor n q i d → IsEdgeFor n q j e → d ≡ e
same_for n q i j d e one other = same_Some d e (sym (edge_found n q i d one) ∙ edge_found n q j e other)

-- ---- where the way ends

pub no_edge_stops : (t : Table) (n : Node) (q : List ℕ) → HasNoEdgeFor n q → StopsAt t n q
no_edge_stops t n q none = (λ place due. none place due.edge due.for, λ place child e leads. none place e leads.for)

-- the edge's child is no private inner node, or asked with something in front of a key
pub stops : (t : Table) (n : Node) (q : List ℕ) (place : ℕ) (e : Edge) → IsEdgeFor n q place e → waiting_under q e (buffer_of n) < abundant_limit → ((child : ℕ) → e.child ≡ Some child → e.source ≡ [] → t.count child ≡ 1 → 1 ≤ t.level child → ⊥) → StopsAt t n q
stops t n q place e own little not = (
  λ at due.
      let same : due.edge ≡ e = same_for n q at place due.edge e due.for own in
      let much : abundant_limit ≤ waiting_under q e (buffer_of n) = subst (λ (d : Edge). abundant_limit ≤ waiting_under q d (buffer_of n)) same due.much in
      omega arith,
  λ at child d leads.
      let same : d ≡ e = same_for n q at place d e leads.for own in
      not child (sym (ap (λ (x : Edge). x.child) same) ∙ leads.way.child_is) (sym (ap (λ (x : Edge). x.source) same) ∙ leads.way.plain) leads.once leads.inner,
)

-- what the edge asks, where the node is read in another spelling
asked_same : (n m : Node) (place : ℕ) (e d : Edge) → m ≡ n → IsEdgeAt n place e → IsEdgeAt m place d → d ≡ e
asked_same n m place e d same here there = same_Some d e (sym (subst (λ (x : Node). IsEdgeAt x place d) same there) ∙ here)

pub unasked_stops : (t : Table) (n m : Node) (place : ℕ) (asked : Asked) (q : List ℕ) (e : Edge) → m ≡ n → IsAsked m place asked → ((child : ℕ) → asked ≡ Child child → ⊥) → IsEdgeFor n q place e → waiting_under q e (buffer_of n) < abundant_limit → StopsAt t n q
unasked_stops t n m place Nothing q e same asks not own little =
    stops t n q place e own little
    (λ child is plain once inner. none-some child (sym asks.2 ∙ (ap (λ (x : Edge). x.child) (asked_same n m place e asks.0 same own.here asks.1) ∙ is)))
unasked_stops t n m place Through q e same asks not own little =
    stops t n q place e own little
    (λ child is plain once inner. asks.4 (ap (λ (x : Edge). x.source) (asked_same n m place e asks.0 same own.here asks.2) ∙ plain))
unasked_stops t n m place (Child child) q e same asks not own little = absurd (not child refl)

pub shared_stops : (t : Table) (n m : Node) (place child : ℕ) (r : Bool) (q : List ℕ) (e : Edge) → m ≡ n → (d : Edge) × IsWayTo m place child d → r ≡ false → IsTrue r ↔ ((t.count child ≡ 1) × (1 ≤ t.level child)) → IsEdgeFor n q place e → waiting_under q e (buffer_of n) < abundant_limit → StopsAt t n q
shared_stops t n m place child r q e same asked not_it tells own little =
    stops t n q place e own little
    (λ other is plain once inner.
    let there : asked.0 ≡ e = asked_same n m place e asked.0 same own.here asked.1.here in
    let one : other ≡ child = same_Some other child (sym is ∙ (sym (ap (λ (x : Edge). x.child) there) ∙ asked.1.child_is)) in
    false≢true (sym not_it ∙ tells.1 (subst (λ (c : ℕ). (t.count c ≡ 1) × (1 ≤ t.level c)) one (once, inner))))

pub leads_down : (t : Table) (n m : Node) (place child : ℕ) (r : Bool) (q : List ℕ) (e read : Edge) → m ≡ n → (d : Edge) × IsWayTo m place child d → r ≡ true → IsTrue r ↔ ((t.count child ≡ 1) × (1 ≤ t.level child)) → IsEdgeAt n place read → IsEdgeFor n q place e → waiting_under q e (buffer_of n) < abundant_limit → (x : ℕ) × (d : Edge) × LeadsDown t n q x child d × (read.lift ≡ d.lift)
leads_down t n m place child r q e read same asked is tells here own little =
    let there : asked.0 ≡ e = asked_same n m place e asked.0 same own.here asked.1.here in
    let both : (t.count child ≡ 1) × (1 ≤ t.level child) = tells.0 is in (
      place,
      e,
      record {
        for = own;
        little = little;
        way = subst (λ (d : Edge). IsWayTo n place child d) there (subst (λ (x : Node). IsWayTo x place child asked.0) same asked.1);
        once = both.0;
        inner = both.1;
      },
      ap (λ (x : Edge). x.lift) (same_Some read e (sym here ∙ own.here)),
    )

-- ---- the next node

-- the way goes on from a fetched node to a fetched child of it
pub record IsLedTo (t : Table) (here next : Fetched) (q : List ℕ) (lift : ℕ) : Type 0 where
  pub place : ℕ
  pub edge : Edge
  pub leads : LeadsDown t here.node.value q place next.id edge
  pub lift_is : lift ≡ edge.lift
  pub lower : t.level next.id < t.level here.id

pub led_to : (t : Table) (here next : Fetched) (q : List ℕ) (child lift : ℕ) → IsFetched t here → IsAlong t here.node.value q (Down child lift) → next.id ≡ child → IsLedTo t here next q lift
led_to t here next q child lift fetched along same =
    let leads : LeadsDown t here.node.value q along.0 next.id along.1 = subst (λ (c : ℕ). LeadsDown t here.node.value q along.0 c along.1) (sym same) along.2 in
    record {
      place = along.0;
      edge = along.1;
      leads = leads;
      lift_is = along.3;
      lower = (way_lower t here along.0 next.id along.1 fetched leads.way).lower;
    }

pub plain_root : (id : ℕ) (above : List Fetched) → above ≡ [] → IsPlainUp id (reverse above)
plain_root id above none = subst (λ (l : List Fetched). IsPlainUp id (reverse l)) (sym none) (top id)

reversed_more : (above pushed : List Fetched) (here : Fetched) → pushed ≡ above ++ (here ∷ []) → reverse pushed ≡ here ∷ reverse above
reversed_more above pushed here more = ap (λ (l : List Fetched). reverse l) more ∙ reverse-append above (here ∷ [])

pub plain_more : (above pushed : List Fetched) (here : Fetched) (place child : ℕ) (e : Edge) → pushed ≡ above ++ (here ∷ []) → IsWayTo here.node.value place child e → IsPlainUp here.id (reverse above) → IsPlainUp child (reverse pushed)
plain_more above pushed here place child e more way up =
    subst (λ (l : List Fetched). IsPlainUp child l) (sym (reversed_more above pushed here more)) (one_up child place here e (reverse above) way up)

pub own_more : (nodes : Nodes) (t : Table) (above pushed : List Fetched) (here : Fetched) → pushed ≡ above ++ (here ∷ []) → IsOwn nodes t here → AreOwn nodes t (reverse above) → AreOwn nodes t (reverse pushed)
own_more nodes t above pushed here more own all =
    subst (λ (l : List Fetched). AreOwn nodes t l) (sym (reversed_more above pushed here more)) (own, all)

pub passed_root : (nodes : Nodes) (t : Table) (s : List ℕ) (id : ℕ) → id ≡ t.root → IsPassedTo nodes t s id s
passed_root nodes t s id same = subst (λ (i : ℕ). IsPassedTo nodes t s i s) (sym same) at_root

pub passed_more : (nodes : Nodes) (t : Table) (s q left : List ℕ) (here next : Fetched) (lift : ℕ) → IsPassedTo nodes t s here.id q → IsOwn nodes t here → IsLedTo t here next q lift → left ≡ drop lift q → IsPassedTo nodes t s next.id left
passed_more nodes t s q left here next lift passed own led same =
    subst (λ (l : List ℕ). IsPassedTo nodes t s next.id l) (sym (same ∙ ap (λ (n : ℕ). drop n q) led.lift_is))
    (below here.id led.place next.id q here.node.value led.edge passed own.there led.leads)

-- ---- the way is one

-- the way goes on below a node
pub record GoesOnAt (nodes : Nodes) (t : Table) (id : ℕ) (q : List ℕ) : Type 0 where
  pub node : Node
  pub there : nodes id ≡ Some node
  pub place : ℕ
  pub child : ℕ
  pub edge : Edge
  pub leads : LeadsDown t node q place child edge

-- how many nodes stand above
steps_of : (nodes : Nodes) (t : Table) (s : List ℕ) (id : ℕ) (q : List ℕ) → IsPassedTo nodes t s id q → ℕ
steps_of nodes t s _ _ at_root = 0
steps_of nodes t s _ _ (below id place child q n e passed there leads) = suc (steps_of nodes t s id q passed)

same_child : (t : Table) (n : Node) (q : List ℕ) (i j c d : ℕ) (e f : Edge) → LeadsDown t n q i c e → LeadsDown t n q j d f → (c ≡ d) × (drop e.lift q ≡ drop f.lift q)
same_child t n q i j c d e f one other =
    let same : e ≡ f = same_for n q i j e f one.for other.for in
    (same_Some c d (sym one.way.child_is ∙ (ap (λ (x : Edge). x.child) same ∙ other.way.child_is)), ap (λ (x : Edge). drop x.lift q) same)

same_at : (nodes : Nodes) (t : Table) (s : List ℕ) (id other : ℕ) (q r : List ℕ) (one : IsPassedTo nodes t s id q) (two : IsPassedTo nodes t s other r) → steps_of nodes t s id q one ≡ steps_of nodes t s other r two → (id ≡ other) × (q ≡ r)
unfolding steps_of
same_at nodes t s _ _ _ _ at_root at_root same = (refl, refl)
same_at nodes t s _ _ _ _ at_root (below id place child q n e passed there leads) same = absurd (omega arith)
same_at nodes t s _ _ _ _ (below id place child q n e passed there leads) at_root same = absurd (omega arith)
same_at nodes t s _ _ _ _ (below id place child q n e passed there leads) (below id2 place2 child2 q2 n2 e2 passed2 there2 leads2) same =
    let up : (id ≡ id2) × (q ≡ q2) = same_at nodes t s id id2 q q2 passed passed2 (omega (arith, same)) in
    let node : n ≡ n2 = same_Some n n2 (sym there ∙ (ap nodes up.0 ∙ there2)) in
    let both : (child ≡ child2) × (drop e.lift q ≡ drop e2.lift q) =
    same_child t n q place place2 child child2 e e2 leads (subst (λ (l : List ℕ). LeadsDown t n l place2 child2 e2) (sym up.1) (subst (λ (x : Node). LeadsDown t x q2 place2 child2 e2) (sym node) leads2)) in
    (both.0, both.1 ∙ ap (λ (l : List ℕ). drop e2.lift l) up.1)

-- a node of a longer way
record IsPassedAt (nodes : Nodes) (t : Table) (s : List ℕ) (count : ℕ) : Type 0 where
  id : ℕ
  left : List ℕ
  passed : IsPassedTo nodes t s id left
  steps : steps_of nodes t s id left passed ≡ count
  goes_on : GoesOnAt nodes t id left

passed_at : (nodes : Nodes) (t : Table) (s : List ℕ) (id : ℕ) (q : List ℕ) (count : ℕ) (one : IsPassedTo nodes t s id q) → count < steps_of nodes t s id q one → IsPassedAt nodes t s count
unfolding steps_of
passed_at nodes t s _ _ count at_root less = absurd (omega arith)
passed_at nodes t s _ _ count (below id place child q n e passed there leads) less =
    elim (cases_eq (steps_of nodes t s id q passed) count) [
      | inl same ↦ record { id = id; left = q; passed = passed; steps = same; goes_on = record { node = n; there = there; place = place; child = child; edge = e; leads = leads } }
      | inr apart ↦ passed_at nodes t s id q count passed (omega arith)
    ]

-- below a node of a way that is shorter than another one the way goes on
shorter : (nodes : Nodes) (t : Table) (s : List ℕ) (id other : ℕ) (q r : List ℕ) (one : IsPassedTo nodes t s id q) (two : IsPassedTo nodes t s other r) → steps_of nodes t s id q one < steps_of nodes t s other r two → GoesOnAt nodes t id q
shorter nodes t s id other q r one two less =
    let at : IsPassedAt nodes t s (steps_of nodes t s id q one) = passed_at nodes t s other r (steps_of nodes t s id q one) two less in
    let same : (at.id ≡ id) × (at.left ≡ q) = same_at nodes t s at.id id at.left q at.passed one at.steps in
    subst (λ (l : List ℕ). GoesOnAt nodes t id l) same.1 (subst (λ (i : ℕ). GoesOnAt nodes t i at.left) same.0 at.goes_on)

due_stays : (nodes : Nodes) (t : Table) (id place : ℕ) (q : List ℕ) (n : Node) → nodes id ≡ Some n → IsDueAt n q place → GoesOnAt nodes t id q → ⊥
due_stays nodes t id place q n there due down =
    let node : down.node ≡ n = same_Some down.node n (sym down.there ∙ there) in
    let leads : LeadsDown t n q down.place down.child down.edge = subst (λ (x : Node). LeadsDown t x q down.place down.child down.edge) node down.leads in
    let same : due.edge ≡ down.edge = same_for n q place down.place due.edge down.edge due.for leads.for in
    let much : abundant_limit ≤ waiting_under q down.edge (buffer_of n) = subst (λ (x : Edge). abundant_limit ≤ waiting_under q x (buffer_of n)) same due.much in
    omega (arith, leads.little)

pub settled_apart : (nodes : Nodes) (t : Table) (s : List ℕ) (id place : ℕ) → IsSettled nodes t s → IsDueOn nodes t s id place → ⊥
settled_apart nodes t s id place settled due =
    elim (cases_lt (steps_of nodes t s settled.id settled.left settled.way) (steps_of nodes t s id due.left due.way)) [
      | inl less ↦
          let down : GoesOnAt nodes t settled.id settled.left = shorter nodes t s settled.id id settled.left due.left settled.way due.way less in
          let node : down.node ≡ settled.node = same_Some down.node settled.node (sym down.there ∙ settled.there) in
          settled.stops.1 down.place down.child down.edge (subst (λ (x : Node). LeadsDown t x settled.left down.place down.child down.edge) node down.leads)
      | inr up ↦ elim (cases_lt (steps_of nodes t s id due.left due.way) (steps_of nodes t s settled.id settled.left settled.way)) [
        | inl less ↦ due_stays nodes t id place due.left due.node due.there due.due (shorter nodes t s id settled.id due.left settled.left due.way settled.way less)
        | inr down ↦
            let same : (id ≡ settled.id) × (due.left ≡ settled.left) = same_at nodes t s id settled.id due.left settled.left due.way settled.way (omega arith) in
            let node : due.node ≡ settled.node = same_Some due.node settled.node (sym due.there ∙ (ap nodes same.0 ∙ settled.there)) in
            settled.stops.0 place (subst (λ (x : Node). IsDueAt x settled.left place) node (subst (λ (l : List ℕ). IsDueAt due.node l place) same.1 due.due))
      ]
    ]

pub due_one : (nodes : Nodes) (t : Table) (s : List ℕ) (id other place at : ℕ) → IsDueOn nodes t s id place → IsDueOn nodes t s other at → id ≡ other
due_one nodes t s id other place at one two =
    elim (cases_lt (steps_of nodes t s id one.left one.way) (steps_of nodes t s other two.left two.way)) [
      | inl less ↦ absurd (due_stays nodes t id place one.left one.node one.there one.due (shorter nodes t s id other one.left two.left one.way two.way less))
      | inr up ↦ elim (cases_lt (steps_of nodes t s other two.left two.way) (steps_of nodes t s id one.left one.way)) [
        | inl less ↦ absurd (due_stays nodes t other at two.left two.node two.there two.due (shorter nodes t s other id two.left one.left two.way one.way less))
        | inr down ↦ (same_at nodes t s id other one.left two.left one.way two.way (omega arith)).0
      ]
    ]
