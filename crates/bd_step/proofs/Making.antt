-- What the way down finds is enough to make a step.
use Rattle.std.proofs.Common.{◌≡◌, ℕ, Bool, ◌+◌, ◌*◌, List, reverse, ◌<◌, ◌≤◌, sym, ap, subst, ◌∙◌, Option, None, Some, arith, inl, inr, Result, Err}
use Rattle.std.specs.List.{AllByRecursion}
use Rattle.bd_limits.specs.Limits.{soft_limit}
use Rattle.bd_node.specs.declared.node.Edge.{Edge}
use Rattle.bd_node.specs.declared.node.Node.{Node}
use Rattle.bd_node.specs.declared.node.Node.TheVariants.{Leaf, Inner}
use Rattle.bd_node.specs.declared.node.Step.{Step}
use Rattle.bd_node.specs.Nodes.{buffer_size}
use Rattle.bd_node.specs.Meaning.{Nodes}
use Rattle.bd_node.specs.Shape.{IsShape}
use Rattle.bd_node.specs.Tables.{Table, IsSound}
use Rattle.bd_inner.specs.Batches.{SomeCanTouch}
use Rattle.bd_node.specs.Parts.{end_at, IsEdgeAt}
use Rattle.bd_path.specs.declared.fetching.Fetched.{Fetched}
use Rattle.bd_step.specs.declared.ways.FlushStep.{FlushStep}
use Rattle.bd_step.specs.declared.ways.FlushStep.TheVariants.{SplitRoot, At}
use Rattle.bd_step.specs.declared.ways.Site.{Site}
use Rattle.bd_step.specs.declared.ways.Work.TheVariants.{Split, Push, Privatise, Carve}
use Rattle.bd_path.specs.Flushed.{IsFlushed}
use Rattle.bd_path.specs.Fetching.{IsFetched, IsContents, IsOwn, AreOwn}
use Rattle.bd_flush.specs.Pushing.{CanPush, CanPushNew, AllGoDown, unseen}
use Rattle.bd_flush.specs.GoingDown.{child_level}
use Rattle.bd_flush.specs.Carving.{CanCarve}
use Rattle.bd_copy.specs.Privatising.{HasChild, IsPrivatiseStep}
use Rattle.bd_copy.specs.Copying.{IsCopyFor}
use Rattle.bd_path.proofs.Made.{worn_wider}
use Rattle.bd_message.specs.declared.fault.MapFault.{MapFault}
use Rattle.bd_message.specs.KeyMaps.{HasMapCause}
use Rattle.bd_message.proofs.Causes.{cause_weaker, cause_passed, cause_after}
use Rattle.bd_path.proofs.EdgesAt.{child_lower}
use Rattle.bd_step.specs.Ways.{IsFullestAt, IsFull, IsFullestIn, IsDue, IsWaited, IsStanding, IsToDo, IsToDoAt, IsWayOf, IsWayThere}
use Rattle.bd_node.proofs.Lookup.{each_weaker}
use Rattle.bd_step.proofs.Abundance.{abundant}
use Rattle.bd_flush.proofs.GoingDown.{all_plain}
use Rattle.bd_step.proofs.Waiting.{fullest_waits, pending_waits}
use Rattle.bd_step.specs.Steps.{IsStepOf, IsFlushMade, IsTooHigh, IsWornStep, IsWornToFlush, IsHighAfter, IsAbundantAt, IsAbundant, IsFlushStep}

-- messages wait in a node of the way
some_wait : (t : Table) (f : Fetched) → 1 ≤ t.size → IsFetched t f → IsFull t f → 1 ≤ buffer_size f.node.value
some_wait t f waits fetched full =
    elim full [
      | inl root ↦ (let is : buffer_size f.node.value ≡ t.size = fetched.root root in omega arith)
      | inr more ↦ omega arith
    ]

-- more than 16,384 bytes, where so many wait in the root
much_waits : (t : Table) (f : Fetched) → soft_limit < t.size → IsFetched t f → IsFull t f → soft_limit < buffer_size f.node.value
much_waits t f waits fetched full =
    elim full [
      | inl root ↦ (let is : buffer_size f.node.value ≡ t.size = fetched.root root in omega arith)
      | inr more ↦ more
    ]

-- messages wait for the fullest edge
waits_for : (t : Table) (parent : Fetched) (place : ℕ) (e : Edge) → 1 ≤ t.size → IsFetched t parent → IsFullestIn t parent place → IsEdgeAt parent.node.value place e → SomeCanTouch e (end_at parent.node.value place) (unseen parent.node.value e)
waits_for t parent place e waits fetched most here =
    pending_waits parent.node.value place e (fullest_waits parent.node.value fetched.own.shape (some_wait t parent waits fetched most.full) place most.fullest e here)

-- what may go down to the edge's child
goes_to : (t : Table) (n : Node) (place : ℕ) (e : Edge) (o : Option ℕ) → e.child ≡ o → AllGoDown t.level (child_level t.level e.child) n place e → AllGoDown t.level (child_level t.level o) n place e
goes_to t n place e o is h = subst (λ (x : Option ℕ). AllGoDown t.level (child_level t.level x) n place e) is h

-- some messages wait, if a step goes down on the way to the fullest edge
pub is_waited : (t : Table) (step : FlushStep) → 1 ≤ t.size → IsToDo t step → IsWaited step
is_waited t (SplitRoot root) waits h = tt
is_waited t (At site (Split child)) waits h = tt
is_waited t (At site (Push child)) waits h = λ e here. waits_for t site.parent site.place e waits h.0.0.parent_is h.1 here
is_waited t (At site Privatise) waits h = tt
is_waited t (At site (Carve index)) waits h = tt

pub can_push : (t : Table) (site : Site) (child : Fetched) → IsWaited (At site (Push (Some child))) → IsDue t (At site (Push (Some child))) → CanPush t site.parent site.place child
can_push t site child waited h = record {
  parent_is = h.0.parent_is;
  child_is = h.0.target.1;
  under = h.1;
  room = h.0.room;
  edge = h.0.edge;
  way = h.0.target.0;
  some = waited h.0.edge h.0.target.0.here;
  down = goes_to t site.parent.node.value site.place h.0.edge (Some child.id) h.0.target.0.child_is h.0.down;
  once = h.0.target.2;
  soft = h.0.target.3;
}

pub can_push_new : (t : Table) (site : Site) → IsWaited (At site (Push None)) → IsDue t (At site (Push None)) → CanPushNew t site.parent site.place
can_push_new t site waited h = record {
  parent_is = h.0.parent_is;
  edge = h.0.edge;
  here = h.0.target.0;
  bare = h.0.target.1;
  waiting = record {
    some = waited h.0.edge h.0.target.0;
    plain = all_plain t.level site.parent.node.value site.place h.0.edge (goes_to t site.parent.node.value site.place h.0.edge None h.0.target.1 h.0.down);
  };
}

pub can_carve : (t : Table) (site : Site) (index : ℕ) → IsDue t (At site (Carve index)) → CanCarve t site.parent site.place index
can_carve t site index h = record {
  parent_is = h.0.parent_is;
  room = h.0.room;
  edge = h.0.edge;
  here = h.0.here;
  oldest = h.0.oldest;
}

pub has_child : (t : Table) (site : Site) → IsDue t (At site Privatise) → HasChild t site.parent site.place
has_child t site h = record {
  parent_is = h.0.parent_is;
  edge = h.0.edge;
  here = h.0.here;
  child = h.0.child;
  child_is = h.0.child_is;
}

pub privatise_few : (t : Table) (site : Site) (before now : ℕ) → IsDue t (At site Privatise) → ((e : Edge) (child : ℕ) → IsEdgeAt site.parent.node.value site.place e → e.child ≡ Some child → now ≤ before + (2 + 17 * t.level child))
    → now ≤ before + (4 + 17 * t.level t.root)
privatise_few t site before now h few =
    let visits : now ≤ before + (2 + 17 * t.level h.0.child) = few h.0.edge h.0.child h.0.here h.0.child_is in
    let lower : t.level h.0.child < t.level site.parent.id = (child_lower t site.parent site.place h.0.child h.0.edge h.0.parent_is h.0.here h.0.child_is).lower in
    let under : t.level site.parent.id ≤ t.level t.root = h.1 in
    omega arith

-- ---- abundance

pub abundant_in : (n : Node) → IsShape n → soft_limit < buffer_size n → (place : ℕ) → IsFullestAt n place → IsAbundantAt n place
abundant_in (Leaf entries) shape more place full = absurd (omega arith)
abundant_in (Inner level edges buffer) shape more place full = record {
  bytes = full.bytes;
  fullest = full.fullest;
  many = abundant level edges buffer shape more place full.bytes full.fullest;
}

abundant_at : (t : Table) (parent : Fetched) (place : ℕ) → soft_limit < t.size → IsFetched t parent → IsFullestIn t parent place → IsAbundantAt parent.node.value place
abundant_at t parent place more fetched most =
    abundant_in parent.node.value fetched.own.shape (much_waits t parent more fetched most.full) place most.fullest

pub is_abundant : (t : Table) (step : FlushStep) → IsToDo t step → soft_limit < t.size → IsAbundant step
is_abundant t (SplitRoot root) h more = tt
is_abundant t (At site (Split child)) h more = abundant_at t site.parent site.place more h.0.0.parent_is h.1
is_abundant t (At site (Push child)) h more = abundant_at t site.parent site.place more h.0.0.parent_is h.1
is_abundant t (At site Privatise) h more = abundant_at t site.parent site.place more h.0.0.parent_is h.1
is_abundant t (At site (Carve index)) h more = abundant_at t site.parent site.place more h.0.0.parent_is h.1

-- ---- the whole step

pub root_found : (nodes : Nodes) (t : Table) (root : Fetched) (n : Node) → n ≡ root.node.value → IsDue t (SplitRoot root) → IsStanding nodes t (SplitRoot root) → nodes t.root ≡ Some n
root_found nodes t root n same due here = ap nodes (sym due.1) ∙ (here.there ∙ ap (λ (m : Node). Some m) (sym same))

pub here_again : (nodes mid : Nodes) (t m : Table) (step : FlushStep) → mid ≡ nodes → m ≡ t → IsSound mid m → (IsSound nodes t → IsToDoAt nodes t step) → IsStanding mid m step
here_again nodes mid t m step same table sound here =
    subst (λ (u : Table). IsStanding mid u step) (sym table)
    (subst (λ (f : Nodes). IsStanding f t step) (sym same)
    (here (subst (λ (f : Nodes). IsSound f t) same (subst (λ (u : Table). IsSound mid u) table sound))).0)

pub way_again : (nodes mid : Nodes) (t m : Table) (step : FlushStep) → mid ≡ nodes → m ≡ t → IsSound mid m → (IsSound nodes t → IsWayThere nodes t step) → IsWayThere mid m step
way_again nodes mid t m step same table sound here =
    subst (λ (u : Table). IsWayThere mid u step) (sym table)
    (subst (λ (f : Nodes). IsWayThere f t step) (sym same)
    (here (subst (λ (f : Nodes). IsSound f t) same (subst (λ (u : Table). IsSound mid u) table sound))))

-- the nodes above are those of the store
pub way_stands : (nodes : Nodes) (t : Table) (way list : List Fetched) → list ≡ way → AreOwn nodes t (reverse way) → AllByRecursion (IsContents nodes) (reverse list)
way_stands nodes t way list same h =
    subst (λ (l : List Fetched). AllByRecursion (IsContents nodes) (reverse l)) (sym same)
    (each_weaker (IsOwn nodes t) (IsContents nodes) (λ f there. there.there) (reverse way) h)

-- what the way down found in nodes, and what was made of them as it left them
pub record IsStepMade (nodes mid : Nodes) (t m : Table) (new : Nodes) (u : Table) (step : FlushStep) : Type 0 where
  pub nodes_are : mid ≡ nodes
  pub table_is : m ≡ t
  pub sound : IsSound nodes t
  pub to_do : IsToDo t step
  pub here : IsToDoAt nodes t step
  pub made : IsSound mid m → IsFlushMade mid m step new u
  pub height : IsHighAfter m step u
  pub flushed : IsSound mid m → IsFlushed mid m new u

pub is_flush_step : (nodes mid : Nodes) (t m : Table) (new : Nodes) (u : Table) (step : FlushStep) → IsStepMade nodes mid t m new u step → IsFlushStep nodes t new u
is_flush_step nodes mid t m new u step h =
    let again : IsSound mid m = subst (λ (v : Table). IsSound mid v) (sym h.table_is) (subst (λ (f : Nodes). IsSound f t) (sym h.nodes_are) h.sound) in
    record {
      step = step;
      to_do = h.to_do;
      here = h.here;
      abundant = is_abundant t step h.to_do;
      made = subst (λ (v : Table). IsFlushMade nodes v step new u) h.table_is (subst (λ (f : Nodes). IsFlushMade f m step new u) h.nodes_are (h.made again));
      height = subst (λ (v : Table). IsHighAfter v step u) h.table_is h.height;
      flushed = subst (λ (v : Table). IsFlushed nodes v new u) h.table_is (subst (λ (f : Nodes). IsFlushed f m new u) h.nodes_are (h.flushed again));
    }

-- ---- worn counters

-- the step of the store, where what is known of it is known of nodes that are the same
copy_known : (known again : Type 0) (nodes mid : Nodes) (t : Table) (parent : Fetched) (place : ℕ) (step : Step) → (known → again × (mid ≡ nodes)) → IsPrivatiseStep again mid t parent place step → IsPrivatiseStep known nodes t parent place step
copy_known known again nodes mid t parent place step knows h = record {
  edge = h.edge;
  here = h.here;
  child = h.child;
  child_is = h.child_is;
  old = h.old;
  own = h.own;
  there = λ k. let both : again × (mid ≡ nodes) = knows k in subst (λ (f : Nodes). f h.child ≡ Some h.old) both.1 (h.there both.0);
  copy = h.copy;
  copied = h.copied;
  level_is = h.level_is;
  has = λ k. let both : again × (mid ≡ nodes) = knows k in subst (λ (f : Nodes). IsCopyFor f h.edge (end_at parent.node.value place) h.copy) both.1 (h.has both.0);
  step_is = h.step_is;
}

pub step_known : (known again : Type 0) (nodes mid : Nodes) (t : Table) (flush : FlushStep) (step : Step) → (known → again × (mid ≡ nodes)) → IsStepOf again mid t flush step → IsStepOf known nodes t flush step
step_known known again nodes mid t (SplitRoot root) step knows h = h
step_known known again nodes mid t (At site (Split child)) step knows h = h
step_known known again nodes mid t (At site (Push None)) step knows h = h
step_known known again nodes mid t (At site (Push (Some child))) step knows h = h
step_known known again nodes mid t (At site Privatise) step knows h = copy_known known again nodes mid t site.parent site.place step knows h
step_known known again nodes mid t (At site (Carve index)) step knows h = h

-- a step that was found before is refused for the same
pub worn_known : {T : Type 0} (before mid now : ℕ) (last : Bool) (bad : ℕ → Type 0) (known again : Type 0) (nodes mids : Nodes) (t m : Table) (flush : FlushStep) (r : Result T MapFault) → mid ≡ before → m ≡ t → (known → again × (mids ≡ nodes)) → HasMapCause mid now last bad (IsWornStep again mids m flush) r
    → HasMapCause before now last bad (IsWornStep known nodes t flush) r
worn_known before mid now last bad known again nodes mids t m flush r same table knows cause =
    worn_wider before now last bad (IsStepOf again mids t flush) (IsStepOf known nodes t flush) (IsTooHigh t flush) (IsTooHigh t flush) t r (λ step is. step_known known again nodes mids t flush step knows is) (λ up. up)
    (cause_after before mid now last bad (IsWornStep again mids t flush) r same
    (subst (λ (v : Table). HasMapCause mid now last bad (IsWornStep again mids v flush) r) table cause))

-- the nodes after reads
pub still_known : (known : Type 0) (nodes mid : Nodes) (t m : Table) → known → mid ≡ nodes → m ≡ t → IsSound nodes t → (known × IsSound mid m) × (mid ≡ nodes)
still_known known nodes mid t m knows same table sound =
    ((knows, subst (λ (v : Table). IsSound mid v) (sym table) (subst (λ (f : Nodes). IsSound f t) (sym same) sound)), same)

pub flush_cause : {T U : Type 0} (before mid now : ℕ) (last : Bool) (bad : ℕ → Type 0) (known again : Type 0) (nodes mids : Nodes) (t m : Table) (flush : FlushStep) (e : MapFault) → mid ≡ before → m ≡ t → (known → again × (mids ≡ nodes)) → IsToDo t flush → IsWayOf t flush → (known → IsToDoAt nodes t flush)
    → HasMapCause {T = T} mid now last bad (IsWornStep again mids m flush) (Err e) → HasMapCause {T = U} before now last bad (IsWornToFlush known nodes t) (Err e)
flush_cause {T} {U} before mid now last bad known again nodes mids t m flush e same table knows to_do way here cause =
    cause_weaker {T = U} before now last bad (IsWornStep known nodes t flush) (IsWornToFlush known nodes t) (λ counter worn. record { step = flush; to_do = to_do; way = way; here = here; worn = worn }) (Err e)
    (cause_passed before now last bad (IsWornStep known nodes t flush) e (worn_known {T = T} before mid now last bad known again nodes mids t m flush (Err e) same table knows cause))
