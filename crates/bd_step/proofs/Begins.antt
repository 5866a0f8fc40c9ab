-- The edge that asks a child, and the steps that begin at an edge.
use Rattle.std.proofs.Common.{◌≡◌, ◌≢◌, ℕ, ◌+◌, ◌<◌, ◌≤◌, Bool, true, false, nat_eq, List, [], ◌∷◌, ◌++◌, length, reverse, refl, sym, ap, subst, ◌∙◌, Option, None, Some, arith, inl, inr, Result, Ok, Err}
use Rattle.std.specs.List.{AllByRecursion}
use Rattle.std.proofs.lemmas.List.{reverse-append, reverse-reverse}
use Rattle.std.specs.Prelude.{◌↔◌, IsTrue, IfOk, OnOk}
use Rattle.std.specs.Option.{option_eq}
use Rattle.std.proofs.lemmas.Bool.{cases_eq, eqb-true, eq-eqb, false≢true}
use Rattle.std.proofs.lemmas.Option.{same_Some, none-some}
use Rattle.bd_message.specs.declared.fault.MapFault.{MapFault}
use Rattle.bd_message.proofs.Causes.{cause_weaker}
use Rattle.bd_message.specs.KeyMaps.{HasMapCause}
use Rattle.bd_node.specs.declared.node.Edge.{Edge}
use Rattle.bd_node.specs.declared.node.Node.{Node}
use Rattle.bd_node.specs.Parts.{edges_of, IsEdgeAt}
use Rattle.bd_node.specs.Nodes.{buffer_size}
use Rattle.bd_node.specs.Meaning.{Nodes}
use Rattle.bd_node.specs.Tables.{Table, IsSound}
use Rattle.bd_path.specs.declared.fetching.Fetched.{Fetched}
use Rattle.bd_step.specs.declared.ways.FlushStep.{FlushStep}
use Rattle.bd_step.specs.declared.ways.FlushStep.TheVariants.{SplitRoot, At}
use Rattle.bd_step.specs.declared.ways.Work.TheVariants.{Split, Push, Privatise, Carve}
use Rattle.bd_path.specs.Fetching.{IsFetched, IsEdgeTo, IsWayTo}
use Rattle.bd_flush.specs.Children.{CanSplitChild}
use Rattle.bd_path.specs.Raising.{IsWayUp}
use Rattle.bd_path.specs.Raising.IsWayUp.{top, one_up}
use Rattle.bd_path.specs.Flushed.{IsFlushed}
use Rattle.bd_step.specs.Ways.{HasPending, HasPendingAt, IsUpToRoot, IsShared, IsDue, IsWaited, IsFromEdge, IsStepFrom, IsStanding, IsReached, IsWayOf, IsWayThere}
use Rattle.bd_step.specs.Steps.{IsFlushMade, IsHighAfter, IsWornStep}
use Rattle.bd_step.proofs.Making.{worn_known}
use Rattle.bd_node.proofs.Parts.{edge_within}
use Rattle.bd_flush.proofs.RootSplits.{up_lower}
use Rattle.bd_step.proofs.Waiting.{fullest_waits, pending_waits}
use Rattle.bd_step.specs.Beginning.{IsSplitFirst, BeginsAt, IsFoundFrom, IsMadeFrom, IsWornFrom}
use Rattle.bd_step.specs.Beginning.IsSplitFirst.{at_root, asked_through, below, further}

-- ---- the edge that asks a child

asks_it : (o : Option ℕ) (c : ℕ) → option_eq nat_eq o (Some c) ≡ true → o ≡ Some c
asks_it None c h = absurd (false≢true h)
asks_it (Some x) c h = ap (λ (i : ℕ). Some i) (eqb-true x c h)

asks_other : (o : Option ℕ) (c : ℕ) → option_eq nat_eq o (Some c) ≡ false → o ≡ Some c → ⊥
asks_other None c h same = absurd (none-some c same)
asks_other (Some x) c h same = false≢true (sym h ∙ eq-eqb x c (same_Some x c same))

-- a place among the edges as they are read
pub place_low : (n : Node) (es : List Edge) (place : ℕ) → es ≡ edges_of n → place < length es → place < length (edges_of n)
place_low n es place same low = subst (λ (l : List Edge). place < length l) same low

pub past_all : (n : Node) (es : List Edge) (place : ℕ) → es ≡ edges_of n → length es ≤ place → length (edges_of n) ≤ place
past_all n es place same high = subst (λ (l : List Edge). length l ≤ place) same high

-- no edge before a place asks the child
abbrev pub NoneAsks : Node → ℕ → ℕ → Type 0
NoneAsks n child place = (i : ℕ) (e : Edge) → i < place → IsEdgeAt n i e → e.child ≡ Some child → ⊥

pub found_it : (n : Node) (place child : ℕ) (e : Edge) → IsEdgeAt n place e → option_eq nat_eq e.child (Some child) ≡ true → (d : Edge) × IsEdgeTo n place child d
found_it n place child e here is = (e, record { here = here; child_is = asks_it e.child child is })

pub none_asks_more : (n : Node) (place child : ℕ) (e : Edge) → IsEdgeAt n place e → option_eq nat_eq e.child (Some child) ≡ false → NoneAsks n child place → NoneAsks n child (place + 1)
none_asks_more n place child e here other none i d low at_i is =
    elim (cases_eq i place) [
      | inl same ↦
          let own : d ≡ e = same_Some d e (sym at_i ∙ subst (λ (j : ℕ). IsEdgeAt n j e) (sym same) here) in
          asks_other e.child child other (sym (ap (λ (x : Edge). x.child) own) ∙ is)
      | inr apart ↦ none i d (omega arith) at_i is
    ]

pub some_asks : (n : Node) (place child : ℕ) → NoneAsks n child place → length (edges_of n) ≤ place → (at : ℕ) × (e : Edge) × IsEdgeTo n at child e → ⊥
some_asks n place child none all found = none found.0 found.1 (let low : found.0 < length (edges_of n) = edge_within n found.0 found.1 found.2.here in omega arith) found.2.here found.2.child_is

-- ---- the nodes above one

-- the last of some nodes
pub popped : (old new : List Fetched) (p : Fetched) → old ≡ new ++ (p ∷ []) → reverse old ≡ p ∷ reverse new
popped old new p same = ap (λ (l : List Fetched). reverse l) same ∙ reverse-append new (p ∷ [])

pub popped_all : (P : Fetched → Type 0) (old new : List Fetched) (p : Fetched) → old ≡ new ++ (p ∷ []) → AllByRecursion P (reverse old) → P p × AllByRecursion P (reverse new)
popped_all P old new p same all = subst (λ (l : List Fetched). AllByRecursion P l) (popped old new p same) all

-- a node and the nearest one above it, as far as the table tells
pub record IsUpLink (t : Table) (p node : Fetched) (rest : List Fetched) : Type 0 where
  pub fetched : IsFetched t p
  pub place : ℕ
  pub edge : Edge
  pub way : IsEdgeTo p.node.value place node.id edge
  pub once : t.count node.id ≡ 1
  pub up : IsWayUp t p.id rest

pub link_of : (t : Table) (p node : Fetched) (rest : List Fetched) (c : ℕ) → c ≡ node.id → IsWayUp t c (p ∷ rest) → IsUpLink t p node rest
link_of t p node rest _ same (one_up c place _ e _ fetched way once up) = record {
  fetched = fetched;
  place = place;
  edge = e;
  way = subst (λ (i : ℕ). IsEdgeTo p.node.value place i e) same way;
  once = ap t.count (sym same) ∙ once;
  up = up;
}

pub up_link : (t : Table) (old new : List Fetched) (p node : Fetched) → old ≡ new ++ (p ∷ []) → IsWayUp t node.id (reverse old) → IsUpLink t p node (reverse new)
up_link t old new p node same way = link_of t p node (reverse new) node.id refl (subst (λ (l : List Fetched). IsWayUp t node.id l) (popped old new p same) way)

-- no node of the way is above the root
pub way_under : (t : Table) (c : ℕ) (way : List Fetched) → IsWayUp t c way → t.level c ≤ t.level t.root
way_under t _ _ top = omega arith
way_under t _ _ (one_up c place f e fs fetched edge once up) =
    let lower : t.level c < t.level f.id = (up_lower t f place c e fetched edge).lower in
    let above : t.level f.id ≤ t.level t.root = way_under t f.id fs up in
    omega arith

at_the_root : (t : Table) (c : ℕ) (way : List Fetched) → length way ≡ 0 → IsWayUp t c way → c ≡ t.root
at_the_root t _ _ none top = refl
at_the_root t _ _ none (one_up c place f e fs fetched edge once up) = absurd (omega arith)

pub nothing_above : (t : Table) (c : ℕ) (above : List Fetched) → length above ≡ 0 → IsWayUp t c (reverse above) → c ≡ t.root
nothing_above t c [] none way = at_the_root t c [] refl way
nothing_above t c (f ∷ fs) none way = absurd (omega arith)

-- ---- what is to be split first

pub first_root : (above : List Fetched) (node : Fetched) → length above ≡ 0 → IsSplitFirst (reverse above) node (SplitRoot node)
first_root [] node none = at_root node
first_root (f ∷ fs) node none = absurd (omega arith)

-- an edge that asks a child, of a node in another spelling
pub asked_here : (n m : Node) (place child : ℕ) → n ≡ m → (e : Edge) × IsEdgeTo n place child e → (e : Edge) × IsEdgeTo m place child e
asked_here n m place child same asked = subst (λ (x : Node). (e : Edge) × IsEdgeTo x place child e) same asked

-- whether it asks with something in front of a key
plainly : (n m : Node) (place child : ℕ) (b : Bool) (asked : (e : Edge) × IsEdgeTo m place child e) → n ≡ m → ((e : Edge) → IsEdgeAt n place e → IsTrue b ↔ (e.source ≡ [])) → IsTrue b ↔ (asked.0.source ≡ [])
plainly n m place child b asked same tells = tells asked.0 (subst (λ (x : Node). IsEdgeAt x place asked.0) (sym same) asked.1.here)

pub asks_through : (n m : Node) (place child : ℕ) (b : Bool) (asked : (e : Edge) × IsEdgeTo m place child e) → n ≡ m → ((e : Edge) → IsEdgeAt n place e → IsTrue b ↔ (e.source ≡ [])) → b ≡ false → asked.0.source ≢ []
asks_through n m place child b asked same tells other plain = false≢true (sym other ∙ (plainly n m place child b asked same tells).1 plain)

pub asks_plain : (n m : Node) (place child : ℕ) (b : Bool) (asked : (e : Edge) × IsEdgeTo m place child e) → n ≡ m → ((e : Edge) → IsEdgeAt n place e → IsTrue b ↔ (e.source ≡ [])) → b ≡ true → asked.0.source ≡ []
asks_plain n m place child b asked same tells own = (plainly n m place child b asked same tells).0 own

-- a node and the one above it, as the code finds them
pub record IsAsking (old new : List Fetched) (p node : Fetched) (place : ℕ) : Type 0 where
  pub more : old ≡ new ++ (p ∷ [])
  pub asked : (e : Edge) × IsEdgeTo p.node.value place node.id e

-- of its nodes in another spelling
in_front : (P : List Fetched → List Fetched → Type 0) (old new list : List Fetched) (p : Fetched) → old ≡ new ++ (p ∷ []) → list ≡ new → P (p ∷ reverse new) (reverse (reverse new)) → P (reverse old) list
in_front P old new list p more same h =
    subst (λ (l : List Fetched). P l list) (sym (popped old new p more))
    (subst (λ (l : List Fetched). P (p ∷ reverse new) l) (reverse-reverse new ∙ sym same) h)

pub first_copied : (old new list : List Fetched) (p node : Fetched) (place : ℕ) (h : IsAsking old new p node place) → list ≡ new → h.asked.0.source ≢ [] → IsSplitFirst (reverse old) node (At (record { above = list; parent = p; place = place }) Privatise)
first_copied old new list p node place h same through =
    in_front (λ up whole. IsSplitFirst up node (At (record { above = whole; parent = p; place = place }) Privatise)) old new list p h.more same
    (asked_through (reverse new) p node place h.asked.0 h.asked.1 through)

-- the edge asks with nothing in front of a key
pub plain_way : (n : Node) (place child : ℕ) (e : Edge) → IsEdgeTo n place child e → e.source ≡ [] → IsWayTo n place child e
plain_way n place child e edge plain = record { here = edge.here; child_is = edge.child_is; plain = plain }

pub first_below : (old new list : List Fetched) (p node : Fetched) (place : ℕ) (h : IsAsking old new p node place) → list ≡ new → h.asked.0.source ≡ [] → length (edges_of p.node.value) ≤ 14 → IsSplitFirst (reverse old) node (At (record { above = list; parent = p; place = place }) (Split node))
first_below old new list p node place h same plain room =
    in_front (λ up whole. IsSplitFirst up node (At (record { above = whole; parent = p; place = place }) (Split node))) old new list p h.more same
    (below (reverse new) p node place h.asked.0 (plain_way p.node.value place node.id h.asked.0 h.asked.1 plain) room)

pub first_further : (old new : List Fetched) (p node : Fetched) (place : ℕ) (h : IsAsking old new p node place) (step : FlushStep) → h.asked.0.source ≡ [] → 15 ≤ length (edges_of p.node.value) → IsSplitFirst (reverse new) p step → IsSplitFirst (reverse old) node step
first_further old new p node place h step plain wide rest =
    subst (λ (l : List Fetched). IsSplitFirst l node step) (sym (popped old new p h.more))
    (further (reverse new) p node place h.asked.0 step (plain_way p.node.value place node.id h.asked.0 h.asked.1 plain) wide rest)

-- ---- it is due

pub copy_due : (t : Table) (old new : List Fetched) (p node : Fetched) (place : ℕ) (h : IsAsking old new p node place) → h.asked.0.source ≢ [] → IsWayUp t node.id (reverse old) → IsShared t p place × IsUpToRoot t p
copy_due t old new p node place h through way =
    let link : IsUpLink t p node (reverse new) = up_link t old new p node h.more way in
    (record { parent_is = link.fetched; edge = h.asked.0; here = h.asked.1.here; child = node.id; child_is = h.asked.1.child_is; shared = inl through }, way_under t p.id (reverse new) link.up)

pub split_due : (t : Table) (old new : List Fetched) (p node : Fetched) (place : ℕ) (h : IsAsking old new p node place) → h.asked.0.source ≡ [] → length (edges_of p.node.value) ≤ 14 → 15 ≤ length (edges_of node.node.value) → IsFetched t node → IsWayUp t node.id (reverse old) → CanSplitChild t p place node × IsUpToRoot t p
split_due t old new p node place h plain room wide fetched way =
    let link : IsUpLink t p node (reverse new) = up_link t old new p node h.more way in
    (record { parent_is = link.fetched; child_is = fetched; room = room; full = wide; edge = h.asked.0; way = plain_way p.node.value place node.id h.asked.0 h.asked.1 plain; once = link.once }, way_under t p.id (reverse new) link.up)

-- ---- messages wait where a step goes down

-- at the edge at which a step begins, and at one further down
edge_waited : (t : Table) (node : Fetched) (from : ℕ) (p : Fetched) (place : ℕ) → HasPendingAt node.node.value from → IsFetched t p → IsFromEdge node from p place → (e : Edge) → IsEdgeAt p.node.value place e → HasPending p.node.value place e
edge_waited t node from p place waits fetched from_edge e here =
    elim from_edge [
      | inl own ↦
          let at_it : IsEdgeAt node.node.value from e = subst (λ (x : Fetched). IsEdgeAt x.node.value from e) own.0 (subst (λ (i : ℕ). IsEdgeAt p.node.value i e) own.1 here) in
          let same : waits.edge ≡ e = same_Some waits.edge e (sym waits.here ∙ at_it) in
          let there : HasPending node.node.value from e = subst (λ (x : Edge). HasPending node.node.value from x) same waits.pending in
          subst (λ (i : ℕ). HasPending p.node.value i e) (sym own.1) (subst (λ (x : Fetched). HasPending x.node.value from e) (sym own.0) there)
      | inr more ↦
          let some : 1 ≤ buffer_size p.node.value = omega (arith, more.full) in
          fullest_waits p.node.value fetched.own.shape some place more.fullest e here
    ]

step_waited : (t : Table) (node : Fetched) (from : ℕ) (step : FlushStep) → HasPendingAt node.node.value from → IsDue t step → IsStepFrom node from step → IsWaited step
step_waited t node from (SplitRoot root) waits due at = tt
step_waited t node from (At site (Split child)) waits due at = tt
step_waited t node from (At site (Push child)) waits due at = λ e here.
    pending_waits site.parent.node.value site.place e (edge_waited t node from site.parent site.place waits due.0.parent_is at e here)
step_waited t node from (At site Privatise) waits due at = tt
step_waited t node from (At site (Carve index)) waits due at = tt

pub all_waited : {E : Type 0} (t : Table) (node : Fetched) (from : ℕ) (r : Result FlushStep E) → HasPendingAt node.node.value from → IfOk r (IsDue t) → IfOk r (IsStepFrom node from) → IfOk r IsWaited
all_waited t node from (Ok step) waits due at = step_waited t node from step waits due at
all_waited t node from (Err e) waits due at = tt

-- ---- what such a step leaves

-- a step that was found in nodes, and what became of them
pub record IsBeginning (nodes mid : Nodes) (t m : Table) (above : List Fetched) (node : Fetched) (place : ℕ) (step : FlushStep) : Type 0 where
  pub nodes_are : mid ≡ nodes
  pub table_is : m ≡ t
  pub sound : IsSound nodes t
  pub due : IsDue t step
  pub begins : BeginsAt above node place step
  pub stands : IsStanding nodes t step
  pub reached : length (edges_of node.node.value) ≤ 14 → IsReached nodes t node.id place step

pub sound_again : (nodes mid : Nodes) (t m : Table) → mid ≡ nodes → m ≡ t → IsSound nodes t → IsSound mid m
sound_again nodes mid t m same table sound = subst (λ (v : Table). IsSound mid v) (sym table) (subst (λ (f : Nodes). IsSound f t) (sym same) sound)

flushed_so : (nodes mid : Nodes) (t m : Table) (new : Nodes) (u : Table) → mid ≡ nodes → m ≡ t → IsFlushed mid m new u → IsFlushed nodes t new u
flushed_so nodes mid t m new u same table h = subst (λ (v : Table). IsFlushed nodes v new u) table (subst (λ (f : Nodes). IsFlushed f m new u) same h)

begun_made : (nodes mid : Nodes) (t m : Table) (new : Nodes) (u : Table) (above : List Fetched) (node : Fetched) (place : ℕ) (step : FlushStep) → IsBeginning nodes mid t m above node place step → (IsSound mid m → IsFlushMade mid m step new u) → IsHighAfter m step u → (IsSound mid m → IsFlushed mid m new u) → IsMadeFrom nodes t above node place new u
begun_made nodes mid t m new u above node place step h made height flushed =
    let again : IsSound mid m = sound_again nodes mid t m h.nodes_are h.table_is h.sound in
    record {
      step = step;
      begins = h.begins;
      due = h.due;
      stands = h.stands;
      reached = h.reached;
      made = subst (λ (v : Table). IsFlushMade nodes v step new u) h.table_is (subst (λ (f : Nodes). IsFlushMade f m step new u) h.nodes_are (made again));
      height = subst (λ (v : Table). IsHighAfter v step u) h.table_is height;
      flushed = flushed_so nodes mid t m new u h.nodes_are h.table_is (flushed again);
    }

-- it stands in the nodes as they were left
pub stands_again : (nodes mid : Nodes) (t m : Table) (step : FlushStep) → mid ≡ nodes → m ≡ t → IsStanding nodes t step → IsStanding mid m step
stands_again nodes mid t m step same table h = subst (λ (v : Table). IsStanding mid v step) (sym table) (subst (λ (f : Nodes). IsStanding f t step) (sym same) h)

pub way_again : (nodes mid : Nodes) (t m : Table) (step : FlushStep) → mid ≡ nodes → m ≡ t → IsWayThere nodes t step → IsWayThere mid m step
way_again nodes mid t m step same table h = subst (λ (v : Table). IsWayThere mid v step) (sym table) (subst (λ (f : Nodes). IsWayThere f t step) (sym same) h)

pub sound_before : (nodes mid : Nodes) (t m : Table) → mid ≡ nodes → m ≡ t → IsSound mid m → IsSound nodes t
sound_before nodes mid t m same table sound = subst (λ (f : Nodes). IsSound f t) same (subst (λ (v : Table). IsSound mid v) table sound)

-- ---- what is said of it

pub begun_on_ok : {T E : Type 0} (nodes mid : Nodes) (t m : Table) (new : Nodes) (u : Table) (r : Result T E) → mid ≡ nodes → m ≡ t → IsSound nodes t → (IsSound mid m → OnOk r (IsFlushed mid m new u)) → OnOk r (IsFlushed nodes t new u)
begun_on_ok nodes mid t m new u (Ok x) same table sound flushed = flushed_so nodes mid t m new u same table (flushed (sound_again nodes mid t m same table sound))
begun_on_ok nodes mid t m new u (Err e) same table sound flushed = tt

pub begun_on_made : {T E : Type 0} (nodes mid : Nodes) (t m : Table) (new : Nodes) (u : Table) (above : List Fetched) (node : Fetched) (place : ℕ) (step : FlushStep) (r : Result T E) → IsBeginning nodes mid t m above node place step → (IsSound mid m → OnOk r (IsFlushMade mid m step new u)) → OnOk r (IsHighAfter m step u) → (IsSound mid m → OnOk r (IsFlushed mid m new u)) → OnOk r (IsMadeFrom nodes t above node place new u)
begun_on_made nodes mid t m new u above node place step (Ok x) h made height flushed = begun_made nodes mid t m new u above node place step h made height flushed
begun_on_made nodes mid t m new u above node place step (Err e) h made height flushed = tt

pub begun_on_found : {T E : Type 0} (t m u : Table) (above : List Fetched) (node : Fetched) (place : ℕ) (step : FlushStep) (r : Result T E) → m ≡ t → BeginsAt above node place step → IsDue t step → OnOk r (IsHighAfter m step u) → OnOk r (IsFoundFrom t above node place u)
begun_on_found t m u above node place step (Ok x) table begins due height = record { step = step; begins = begins; due = due; height = subst (λ (v : Table). IsHighAfter v step u) table height }
begun_on_found t m u above node place step (Err e) table begins due height = tt

-- a fault of the step that is made, after the one before went well
pub begun_cause : {T : Type 0} (before mid now : ℕ) (last : Bool) (bad : ℕ → Type 0) (known again : Type 0) (nodes mids : Nodes) (t m : Table) (above : List Fetched) (node : Fetched) (place : ℕ) (step : FlushStep) (r : Result T MapFault) → mid ≡ before → m ≡ t → (known → again × (mids ≡ nodes)) → BeginsAt above node place step → IsDue t step → IsWayOf t step
    → (known → IsStanding nodes t step) → (known → length (edges_of node.node.value) ≤ 14 → IsReached nodes t node.id place step) → HasMapCause mid now last bad (IsWornStep again mids m step) r → HasMapCause before now last bad (IsWornFrom known nodes t above node place) r
begun_cause before mid now last bad known again nodes mids t m above node place step r same table knows begins due way stands reached cause =
    cause_weaker before now last bad (IsWornStep known nodes t step) (IsWornFrom known nodes t above node place)
    (λ counter worn. record { step = step; begins = begins; due = due; way = way; stands = stands; reached = reached; worn = worn }) r
    (worn_known before mid now last bad known again nodes mids t m step r same table knows cause)
