-- Messages that go down in place.
use Rattle.std.proofs.Common.{◌≡◌, ℕ, Bool, ◌+◌, ◌^◌, ◌<◌, ◌≤◌, List, [], ◌∷◌, length, take, refl, sym, ap, subst, ◌∙◌, Option, Some, None, arith, inl, inr, ◌⊎◌, Result, Ok, Err, OnOk}
use Rattle.std.specs.List.{AllByRecursion, sum_by}
use Rattle.std.proofs.lemmas.Bool.{cases_eq}
use Rattle.std.proofs.lemmas.Option.{same_Some}
use Rattle.bd_limits.specs.Limits.{soft_limit, batch_limit}
use Rattle.bd_message.specs.declared.fault.MapFault.{MapFault}
use Rattle.bd_message.specs.declared.message.Message.{Message}
use Rattle.bd_message.specs.KeyMaps.{HasMapCause, NeverWorn}
use Rattle.bd_message.specs.Messages.{IsMessage, IsPlain, size}
use Rattle.bd_message.proofs.Causes.{cause_weaker}
use Rattle.bd_node.specs.declared.node.Change.{Change}
use Rattle.bd_node.specs.declared.node.Edge.{Edge}
use Rattle.bd_node.specs.declared.node.Node.{Node}
use Rattle.bd_node.specs.declared.node.Step.{Step}
use Rattle.bd_node.specs.declared.push.Gain.{Gain}
use Rattle.bd_node.specs.declared.push.Gain.TheVariants.{Messages, Entries}
use Rattle.bd_node.specs.declared.push.Push.{Push}
use Rattle.bd_node.specs.Nodes.{level_of, buffer_size, appended, names}
use Rattle.bd_node.specs.Meaning.{Nodes}
use Rattle.bd_node.specs.Parts.{end_at}
use Rattle.bd_node.specs.Private.IsPrivate.{alone}
use Rattle.bd_node.specs.Tables.{Table, IsTable, IsLower, IsSound}
use Rattle.bd_node.specs.Steps.{given, level_or, level_after, IsTableAfter}
use Rattle.bd_node.specs.Pushes.{exchanged, seen_by, IsPlainFor, IsRelieved, gained, IsGain, HasRoomFor, CanMake, CanPush as CanPushDown, push_step, IsPushStep as IsDownStep, IsPush, HasPushed, IsPushed}
use Rattle.bd_node.proofs.Lookup.{named_has}
use Rattle.bd_node.proofs.Stepping.{changed_at-same, changed_at-other}
use Rattle.bd_inner.specs.declared.batches.Batch.{Batch}
use Rattle.bd_node.proofs.Compacting.{compacted_level}
use Rattle.bd_inner.proofs.Named.{compacted_small, level_exchanged}
use Rattle.bd_path.specs.declared.fetching.Fetched.{Fetched}
use Rattle.bd_path.specs.Flushed.{IsFlushed, IsNoHigher}
use Rattle.bd_path.specs.Made.{IsMadeBy, IsWornFor}
use Rattle.bd_path.proofs.EdgesAt.{child_named}
use Rattle.bd_path.proofs.PathSteps.{given_upper, root_stays}
use Rattle.bd_flush.specs.declared.pushing.Work.{Work}
use Rattle.bd_flush.specs.declared.pushing.Work.TheVariants.{Down}
use Rattle.bd_flush.specs.Children.{AreFamily}
use Rattle.bd_flush.specs.Pushing.{unseen, IsEdgeBatch, IsPushInto, IsGained, CanPush, IsPushStep, IsSomePush, IsPushOf, IsWork}
use Rattle.bd_flush.specs.Pushing.IsPushInto.{received, fitted}
use Rattle.bd_flush.proofs.Pushed.{batch_low}
use Rattle.bd_flush.proofs.PushCommits.{push_flushed}

-- a push in place, and that it may be made
pub record IsDown (t : Table) (parent : Fetched) (place : ℕ) (child : Fetched) (push : Push) : Type 0 where
  pub table : IsTable t
  pub next : t.next < 2 ^ 64
  pub can : CanPush t parent place child
  pub of : IsPushOf parent place child push

-- what goes down
abbrev pub push_of : Fetched → ℕ → Fetched → ℕ → Gain → Push
push_of parent place child count gain = record { parent = parent.id; place = place; count = count; child = child.id; gain = gain }

pub is_down : (t : Table) (way : List Fetched) (parent : Fetched) (place : ℕ) (child : Fetched) (push : Push) (work : Work) (root next : ℕ) → IsTable t → CanPush t parent place child → next ≡ t.next → next < 2 ^ 64 → work ≡ Down push → IsWork root next way parent place child work → IsDown t parent place child push
is_down t way parent place child push work root next table can same room is of = record {
  table = table;
  next = omega arith;
  can = can;
  of = subst (λ (w : Work). IsWork root next way parent place child w) is of;
}

-- ---- it may be made

names_it : (t : Table) (parent : Fetched) (place : ℕ) (child : Fetched) → (h : CanPush t parent place child) → IsLower t (t.level parent.id) child.id
names_it t parent place child h =
    named_has (IsLower t (t.level parent.id)) child.id (names parent.node.value) h.parent_is.own.lower (child_named parent.node.value place child.id h.edge h.parent_is.own.shape h.way)

gain_is : (level : ℕ) (m : Node) (list : List Message) (gain : Gain) → level_of m ≡ level → AllByRecursion IsMessage list → IsGained m list gain → IsGain level gain
gain_is level m list (Messages own) is each got = (
  (let low : 1 ≤ level_of m = got.1 in omega arith),
  subst (λ (l : List Message). AllByRecursion IsMessage l) (sym got.0) each,
  subst (λ (l : List Message). AllByRecursion IsPlain l) (sym got.0) got.2,
)
gain_is level m list (Entries new) is each got = (sym is ∙ ap level_of got.1, got.3)

room_is : (m : Node) (list : List Message) (gain : Gain) → buffer_size m ≤ soft_limit → sum_by size list ≤ batch_limit → IsGained m list gain → HasRoomFor m gain
room_is m list (Messages own) soft fits got = omega (arith, soft, fits, ap (λ (l : List Message). sum_by size l) got.0)
room_is m list (Entries new) soft fits got = tt

pub may_push_down : (t : Table) (parent : Fetched) (place : ℕ) (child : Fetched) (push : Push) → IsDown t parent place child push → IsPush t push
may_push_down t parent place child push h =
    let lower : IsLower t (t.level parent.id) child.id = names_it t parent place child h.can in
    subst (λ (q : Push). IsPush t q) (sym h.of.is)
    (record {
      parent = h.can.parent_is.kept;
      child = lower.kept;
      lower = lower.lower;
      gain = gain_is (t.level child.id) child.node.value h.of.descent.batch.messages h.of.gain h.can.child_is.own.level_is h.of.descent.moved.batch.moved.each h.of.descent.gained;
    })

can_make : (t : Table) (parent : Fetched) (place : ℕ) (child : Fetched) (push : Push) → (h : IsDown t parent place child push) → CanMake (push_of parent place child h.of.count h.of.gain) parent.node.value child.node.value
can_make t parent place child push h =
    let n : Node = parent.node.value in
    let e : Edge = h.of.descent.edge in
    let b : Batch = h.of.descent.batch in
    let low : e.seen + b.count ≤ length _ = batch_low n place e b h.can.parent_is.own.shape h.of.descent.here h.of.descent.moved in
    record {
      relieve = record {
        edge = e;
        here = h.of.descent.here;
        there = (let same : h.of.count ≡ b.count = h.of.descent.count_is in omega arith);
        plain = subst (λ (count : ℕ). AllByRecursion (IsPlainFor e (end_at n place)) (take count (unseen n e))) (sym h.of.descent.count_is) h.of.descent.plain;
      };
      room = room_is child.node.value b.messages h.of.gain h.can.soft h.of.descent.moved.batch.fits h.of.descent.gained;
    }

pub can_push_down : (nodes : Nodes) (t : Table) (parent : Fetched) (place : ℕ) (child : Fetched) (push : Push) → IsDown t parent place child push → AreFamily nodes t parent child → CanPushDown nodes t push
can_push_down nodes t parent place child push h family =
    subst (λ (q : Push). CanPushDown nodes t q) (sym h.of.is)
    (record {
      parent = parent.node.value;
      child = child.node.value;
      parent_is = family.parent_there;
      child_is = family.child_there;
      can = can_make t parent place child push h;
      parent_private = family.private;
      child_private = alone parent.id child.id parent.node.value family.private family.parent_there (child_named parent.node.value place child.id h.can.edge h.can.parent_is.own.shape h.can.way) h.can.once;
    })

-- ---- its step

into_is : (n : Node) (place : ℕ) (e : Edge) (m : Node) (b : Batch) (next : ℕ) (gain : Gain) (above : Node) → IsGained m b.messages gain → IsRelieved n place e b.count above → IsPushInto n place e m b next above (gained m gain) []
into_is n place e m b next (Messages own) above got r = subst (λ (l : List Message). IsPushInto n place e m b next above (appended m l) []) (sym got.0) (received above got.1 r)
into_is n place e m b next (Entries new) above got r = fitted got.0 new above got.1 got.2 got.3 r

step_is : (t : Table) (parent : Fetched) (place : ℕ) (child : Fetched) (push : Push) (step : Step) → (h : IsDown t parent place child push) → IsDownStep t.root (push_of parent place child h.of.count h.of.gain) parent.node.value child.node.value step → IsPushStep t.root t.next parent place child step
step_is t parent place child push step h makes =
    let n : Node = parent.node.value in
    let b : Batch = h.of.descent.batch in
    record {
      edge = makes.edge;
      here = makes.here;
      batch = b;
      moved = subst (λ (e : Edge). IsEdgeBatch n place e b) (same_Some h.of.descent.edge makes.edge (sym h.of.descent.here ∙ makes.here)) h.of.descent.moved;
      node = makes.above;
      half = gained child.node.value h.of.gain;
      made = [];
      into = into_is n place makes.edge child.node.value b t.next h.of.gain makes.above h.of.descent.gained (subst (λ (count : ℕ). IsRelieved n place makes.edge count makes.above) h.of.descent.count_is makes.relieved);
      is = makes.is;
    }

down_step : (t : Table) (parent : Fetched) (place : ℕ) (child : Fetched) (push : Push) (step : Step) → IsDown t parent place child push → IsDownStep t.root push parent.node.value child.node.value step → IsPushStep t.root t.next parent place child step
down_step t parent place child push step h makes =
    step_is t parent place child push step h (subst (λ (q : Push). IsDownStep t.root q parent.node.value child.node.value step) h.of.is makes)

-- ---- the table after it

abbrev uppers_of : ℕ → Node → List Change
uppers_of p n = record { id = p; node = n } ∷ []

no_higher_after : (t : Table) (p c : ℕ) (above low : Node) (u : Table) → IsTable t → IsLower t (t.level p) c → t.level p ≤ t.level t.root → level_of above ≡ t.level p → (p ≡ t.root → buffer_size above ≤ t.size) → IsTableAfter t (push_step t.root p above c low) u → IsNoHigher t u
no_higher_after t p c above low u table lower under level small after =
    let step : Step = push_step t.root p above c low in
    let down : t.level c < t.level p = lower.lower in
    let far : t.root ≡ c → ⊥ = λ same. (let e : t.level t.root ≡ t.level c = ap t.level same in omega arith) in
    let upper : given t.next step t.root ≡ _ = given_upper t c low (uppers_of p above) [] t.root (table.below t.root table.root) far in
    let stays : u.level u.root ≡ level_after t step t.root = ap u.level after.root ∙ after.level t.root (root_stays t c low (uppers_of p above) [] u after) in
    elim (cases_eq t.root p) [
      | inl same ↦ (let is : given t.next step t.root ≡ Some above = upper ∙ changed_at-same (record { id = p; node = above }) [] t.root same in
          let whole : u.size ≡ buffer_size above = after.size above is in
          let few : buffer_size above ≤ t.size = small (sym same) in
          record {
            root = after.root;
            level = stays ∙ ap (λ (o : Option Node). level_or o (t.level t.root)) is ∙ level ∙ ap t.level (sym same);
            size = omega arith;
          })
      | inr other ↦ (let none : given t.next step t.root ≡ None = upper ∙ changed_at-other (record { id = p; node = above }) [] t.root other in
          let whole : u.size ≡ t.size = after.same_size none refl in
          record {
            root = after.root;
            level = stays ∙ ap (λ (o : Option Node). level_or o (t.level t.root)) none;
            size = omega arith;
          })
    ]

pushed_no_higher : (t : Table) (push : Push) (u : Table) → IsTable t → IsLower t (t.level push.parent) push.child → t.level push.parent ≤ t.level t.root → HasPushed t push u → IsNoHigher t u
pushed_no_higher t push u table lower under h =
    let seen : List Edge = seen_by h.makes.edge push.count ∷ [] in
    let less : buffer_size h.makes.above ≤ buffer_size h.parent = compacted_small h.parent push.place seen h.makes.above h.makes.relieved in
    no_higher_after t push.parent push.child h.makes.above (gained h.child push.gain) u table lower under
    (compacted_level (exchanged h.parent push.place seen) h.makes.above h.makes.relieved ∙ level_exchanged h.parent push.place seen ∙ h.parent_level)
    (λ root. let is : buffer_size h.parent ≡ t.size = h.root_size root in omega arith)
    (subst (λ (q : Step). IsTableAfter t q u) h.makes.is h.table)

-- ---- the result

-- what the store says of it, at the nodes that were fetched
abbrev IsSaid : {T E : Type 0} → Nodes → Table → Push → Nodes → Table → Result T E → Type 0
IsSaid nodes t push new u r = (n m : Node) → nodes push.parent ≡ Some n → nodes push.child ≡ Some m → OnOk r (IsPushed nodes t push n m new u)

on_pushed : {T E : Type 0} (nodes : Nodes) (t : Table) (parent : Fetched) (place : ℕ) (child : Fetched) (push : Push) (new : Nodes) (u : Table) (r : Result T E) → IsDown t parent place child push → AreFamily nodes t parent child → IsSaid nodes t push new u r
    → OnOk r (IsPushed nodes t push parent.node.value child.node.value new u)
on_pushed nodes t parent place child push new u r h family said =
    said parent.node.value child.node.value (ap (λ (q : Push). nodes q.parent) h.of.is ∙ family.parent_there) (ap (λ (q : Push). nodes q.child) h.of.is ∙ family.child_there)

down_flushed : {T E : Type 0} (nodes : Nodes) (t : Table) (parent : Fetched) (place : ℕ) (child : Fetched) (push : Push) (new : Nodes) (u : Table) (r : Result T E) → IsDown t parent place child push → IsSound nodes t → AreFamily nodes t parent child
    → OnOk r (IsPushed nodes t push parent.node.value child.node.value new u) → OnOk r (IsFlushed nodes t new u)
down_flushed nodes t parent place child push new u (Ok x) h sound family p =
    push_flushed nodes t parent place child p.step new u (record { table = h.table; next = h.next; can = h.can; push = down_step t parent place child push p.step h p.makes }) sound family p.table p.committed
down_flushed nodes t parent place child push new u (Err e) h sound family p = tt

pub on_down_flushed : {T E : Type 0} (nodes : Nodes) (t : Table) (parent : Fetched) (place : ℕ) (child : Fetched) (push : Push) (new : Nodes) (u : Table) (r : Result T E) → IsDown t parent place child push → IsSound nodes t → AreFamily nodes t parent child → IsSaid nodes t push new u r → OnOk r (IsFlushed nodes t new u)
on_down_flushed nodes t parent place child push new u r h sound family said =
    down_flushed nodes t parent place child push new u r h sound family (on_pushed nodes t parent place child push new u r h family said)

down_made : {T E : Type 0} (nodes : Nodes) (t : Table) (way : List Fetched) (parent : Fetched) (place : ℕ) (child : Fetched) (push : Push) (new : Nodes) (u : Table) (r : Result T E) → IsDown t parent place child push
    → OnOk r (IsPushed nodes t push parent.node.value child.node.value new u) → OnOk r (IsMadeBy (IsSomePush t.root t.next way parent place child) nodes t new u)
down_made nodes t way parent place child push new u (Ok x) h p = record { step = p.step; is = inl (down_step t parent place child push p.step h p.makes); after = p.table; committed = p.committed }
down_made nodes t way parent place child push new u (Err e) h p = tt

pub on_down_made : {T E : Type 0} (nodes : Nodes) (t : Table) (way : List Fetched) (parent : Fetched) (place : ℕ) (child : Fetched) (push : Push) (new : Nodes) (u : Table) (r : Result T E) → IsDown t parent place child push → AreFamily nodes t parent child → IsSaid nodes t push new u r
    → OnOk r (IsMadeBy (IsSomePush t.root t.next way parent place child) nodes t new u)
on_down_made nodes t way parent place child push new u r h family said =
    down_made nodes t way parent place child push new u r h (on_pushed nodes t parent place child push new u r h family said)

pub on_down_table : {T E : Type 0} (Q : Type 0) (t : Table) (parent : Fetched) (place : ℕ) (child : Fetched) (push : Push) (u : Table) (r : Result T E) → IsDown t parent place child push → OnOk r (HasPushed t push u) → OnOk r (IsNoHigher t u ⊎ Q)
on_down_table Q t parent place child push u (Ok x) h p =
    let lower : IsLower t (t.level parent.id) child.id = names_it t parent place child h.can in
    inl (pushed_no_higher t (push_of parent place child h.of.count h.of.gain) u h.table lower h.can.under (subst (λ (q : Push). HasPushed t q u) h.of.is p))
on_down_table Q t parent place child push u (Err e) h p = tt

-- no counter is worn
pub never_worn : {T : Type 0} (before now : ℕ) (last : Bool) (bad : ℕ → Type 0) (IsOne : Step → Type 0) (high : Type 0) (t : Table) (r : Result T MapFault) → HasMapCause before now last bad NeverWorn r → HasMapCause before now last bad (IsWornFor IsOne high t) r
never_worn before now last bad IsOne high t r cause = cause_weaker before now last bad NeverWorn (IsWornFor IsOne high t) (λ counter worn. absurd worn) r cause
