-- How the parts of a step make a whole one.
use Rattle.std.proofs.Common.{◌≡◌, ℕ, ◌+◌, ◌-◌, ◌<◌, ◌≤◌, refl, sym, ap, subst, ◌∙◌, arith, inl, inr, List, [], ◌∷◌, length, map, nat_eq, IsSome, Option, None, Some, ltb, Global}
use Rattle.std.specs.Prelude.{slice_get}
use Rattle.std.specs.Option.{option_map, unwrap_or}
use Rattle.std.specs.List.{AllByRecursion, sum_by}
use Rattle.std.specs.HashMap.{get}
use Rattle.std.specs.declared.rc.Rc.{Rc}
use Rattle.std.proofs.lemmas.Bool.{cond-true, lt-ltb}
use Rattle.std.proofs.lemmas.List.{length-map}
use Rattle.std.proofs.lemmas.List.Sums.{sum_by-cons}
use Rattle.bd_node.specs.declared.node.Node.{Node}
use Rattle.bd_node.specs.declared.node.Change.{Change}
use Rattle.bd_node.specs.declared.node.Step.{Step}
use Rattle.bd_node.specs.Nodes.{buffer_size}
use Rattle.bd_node.specs.Meaning.{Nodes}
use Rattle.bd_node.specs.Tables.{Table, IsStored, times_in, one_if}
use Rattle.bd_node.specs.Steps.{changed_at, given_or, after, IsChange, IsStep, StayAbove}
use Rattle.bd_node.proofs.Lookup.{each_weaker}
use Rattle.bd_memnodes.specs.declared.kept.Kept.{Kept}
use Rattle.bd_memnodes.specs.declared.plan.Exchange.{Exchange}
use Rattle.bd_memnodes.specs.declared.plan.Plan.{Plan}
use Rattle.bd_counts.specs.Naming.{times_among, step_names}
use Rattle.bd_memnodes.specs.Maps.{nodes_in, count_in, times_of}
use Rattle.bd_counts.specs.Releasing.{IsReleasing}
use Rattle.bd_memnodes.specs.Plans.{change_of, step_of}
use Rattle.bd_memnodes.specs.Stored.{table_of, table_in, IsWhole}
use Rattle.bd_memnodes.specs.Carried.{IsAdded, IsExchanged}
use Rattle.bd_memnodes.proofs.Taking.{times_of-none}
use Rattle.bd_counts.proofs.Settling.{begun_releasing}
use Rattle.bd_counts.proofs.Names.{step_names_there}
use Rattle.bd_memnodes.proofs.Settling.{after_is, settled_done, IsDone}

-- ---- what is there

pub some_of_one : (o : Option ℕ) → 1 ≤ unwrap_or o 0 → IsSome o
some_of_one None one = absurd (omega arith)
some_of_one (Some n) one = refl

pub some_of_node : {Z : Type 0} (o : Option (Rc Node Z)) (n : Node) → option_map (λ s. s.value) o ≡ Some n → IsSome o
some_of_node None n e = cc
some_of_node (Some s) n e = refl

-- each name in a step has a count once its made nodes are added
pub names_there : (old k : Kept) (plan : Plan) → IsStep (table_in old) (step_of plan) → IsAdded old plan.made.items k → (c : ℕ) → 1 ≤ times_among (step_names (step_of plan)) c → IsSome (get nat_eq k.counts c)
names_there old k plan ok added c one =
    elim (step_names_there (table_in old) (step_of plan) ok c one) [
      | inl kept ↦ added.others c (some_of_one (get nat_eq old.counts c) kept)
      | inr made ↦ (let longer : length (map (λ shared. shared.value) plan.made.items) ≡ length plan.made.items = length-map plan.made.items (λ shared. shared.value) in
          let high : c < old.next + length (map (λ shared. shared.value) plan.made.items) = made.1 in
          added.there c made.0 (omega arith))
    ]

pub each_mapped : {A B : Type 0} (P : B → Type 0) (f : A → B) (xs : List A) → AllByRecursion P (map f xs) → AllByRecursion (λ x. P (f x)) xs
each_mapped P f [] h = tt
each_mapped P f (x ∷ xs) h = (h.0, each_mapped P f xs h.1)

-- a node of before is the same once made ones are added
old_same : (old k : Kept) (made : List (Rc Node Global)) → IsAdded old made k → (id : ℕ) → id < old.next → nodes_in k.nodes id ≡ nodes_in old.nodes id
old_same old k made added id low =
    added.nodes id ∙ cond-true (ltb id old.next) (nodes_in old.nodes id) (given_or (slice_get (map (λ shared. shared.value) made) (id - old.next)) (nodes_in old.nodes id)) (lt-ltb id old.next low)

pub changes_there : (old k : Kept) (plan : Plan) → IsWhole old → IsStep (table_in old) (step_of plan) → IsAdded old plan.made.items k → AllByRecursion (λ (x : Exchange). IsSome (get nat_eq k.nodes x.id)) plan.changes.items
changes_there old k plan whole ok added =
    each_weaker (λ (x : Exchange). IsChange (table_in old) (step_of plan) (change_of x)) (λ (x : Exchange). IsSome (get nat_eq k.nodes x.id))
    (λ x change.
    let stored : IsStored (nodes_in old.nodes) (table_in old) x.id = whole.sound.each x.id change.kept in
    some_of_node (get nat_eq k.nodes x.id) stored.node (old_same old k plan.made.items added x.id (whole.sound.table.below x.id change.kept) ∙ stored.there))
    plan.changes.items (each_mapped (IsChange (table_in old) (step_of plan)) change_of plan.changes.items ok.changes)

-- ---- a step is begun

sum_changes : (nodes mid : Nodes) (next c : ℕ) (xs : List Exchange) → AllByRecursion (λ (x : Exchange). x.id < next) xs → ((id : ℕ) → id < next → mid id ≡ nodes id)
    → sum_by (λ (x : Exchange). times_in (mid x.id) c) xs ≡ sum_by (λ (d : Change). times_in (nodes d.id) c) (map change_of xs)
sum_changes nodes mid next c [] low same = refl
sum_changes nodes mid next c (x ∷ xs) low same =
    let rest : sum_by (λ (y : Exchange). times_in (mid y.id) c) xs ≡ sum_by (λ (d : Change). times_in (nodes d.id) c) (map change_of xs) = sum_changes nodes mid next c xs low.1 same in
    let here : times_in (mid x.id) c ≡ times_in (nodes x.id) c = ap (λ o. times_in o c) (same x.id low.0) in
    let a = sum_by-cons (λ (y : Exchange). times_in (mid y.id) c) x xs in
    let b = sum_by-cons (λ (d : Change). times_in (nodes d.id) c) (change_of x) (map change_of xs) in
    omega arith

pub put_owing : (old k raised new : Kept) (plan : Plan) → IsWhole old → IsStep (table_in old) (step_of plan) → StayAbove (nodes_in old.nodes) (table_in old) (step_of plan)
    → IsAdded old plan.made.items k → raised.nodes ≡ k.nodes → raised.dead ≡ k.dead → raised.next ≡ k.next
    → ((c : ℕ) → count_in raised.counts c ≡ count_in k.counts c + times_among (step_names (step_of plan)) c)
    → IsExchanged raised plan.changes.items new
    → IsReleasing (after (nodes_in old.nodes) (table_in old) (step_of plan)) new.next plan.root (nodes_in new.nodes) (count_in new.counts) (λ c. one_if old.root c + times_of new.dead.items c)
put_owing old k raised new plan whole ok above added same_nodes same_dead same_next counts exchanged =
    let nodes : Nodes = nodes_in old.nodes in
    let t : Table = table_in old in
    let step : Step = step_of plan in
    let next_is : new.next ≡ t.next + length step.made =
    exchanged.head.next ∙ same_next ∙ added.next ∙ ap (λ n. old.next + n) (sym (length-map plan.made.items (λ shared. shared.value))) in
    let raised_node : (id : ℕ) → nodes_in raised.nodes id ≡ nodes_in k.nodes id = λ id. ap (λ m. nodes_in m id) same_nodes in
    let low : AllByRecursion (λ (x : Exchange). x.id < old.next) plan.changes.items =
    each_weaker (λ (x : Exchange). IsChange t step (change_of x)) (λ (x : Exchange). x.id < old.next) (λ x change. whole.sound.table.below x.id change.kept)
    plan.changes.items (each_mapped (IsChange t step) change_of plan.changes.items ok.changes) in
    subst (λ (n : ℕ). IsReleasing (after nodes t step) n plan.root (nodes_in new.nodes) (count_in new.counts) (λ c. one_if old.root c + times_of new.dead.items c)) (sym next_is)
    (begun_releasing nodes t step (nodes_in new.nodes) (count_in new.counts) (λ c. one_if old.root c + times_of new.dead.items c) whole.sound ok above
    (λ id. exchanged.nodes id ∙ ap (λ o. given_or (changed_at step.changes id) o) (raised_node id ∙ added.nodes id) ∙ after_is nodes t step whole.sound.table ok id)
    (λ c. ap (λ m. count_in m c) exchanged.counts ∙ counts c ∙ ap (λ n. n + times_among (step_names step) c) (added.counts c))
    (λ c.
    let waits : times_of new.dead.items c ≡ times_of raised.dead.items c + sum_by (λ (x : Exchange). times_in (nodes_in raised.nodes x.id) c) plan.changes.items = exchanged.waits c in
    let idle : times_of raised.dead.items c ≡ 0 = times_of-none raised.dead.items (ap (λ d. d.items) (same_dead ∙ added.dead) ∙ whole.idle) c in
    let sums = sum_changes nodes (nodes_in raised.nodes) old.next c plan.changes.items low (λ id l. raised_node id ∙ old_same old k plan.made.items added id l) in
    omega arith))

-- ---- a step is ended

pub from_here : (first nodes : Nodes) (next root : ℕ) (counts owed : ℕ → ℕ) → IsReleasing first next root nodes counts owed → IsReleasing nodes next root nodes counts owed
from_here first nodes next root counts owed h = record { closed = h.closed; stays = λ id n there. there; used = h.used; exact = h.exact }

pub both_releasing : (first mid nodes : Nodes) (next root : ℕ) (counts owed later_counts later : ℕ → ℕ) → IsReleasing first next root mid counts owed → IsReleasing mid next root nodes later_counts later
    → IsReleasing first next root nodes later_counts later
both_releasing first mid nodes next root counts owed later_counts later h g = record {
  closed = g.closed;
  stays = λ id n there. h.stays id n (g.stays id n there);
  used = g.used;
  exact = g.exact;
}

-- the same with another next id and root
pub same_ends : (first nodes : Nodes) (next other_next root other_root : ℕ) (counts owed : ℕ → ℕ) → other_next ≡ next → other_root ≡ root → IsReleasing first next root nodes counts owed → IsReleasing first other_next other_root nodes counts owed
same_ends first nodes next other_next root other_root counts owed same_next same_root h =
    subst (λ (n : ℕ). IsReleasing first n other_root nodes counts owed) (sym same_next) (subst (λ (r : ℕ). IsReleasing first next r nodes counts owed) (sym same_root) h)

pub carried : (old mid new : Kept) (plan : Plan) (owed : ℕ → ℕ) → IsWhole old
    → IsReleasing (after (nodes_in old.nodes) (table_in old) (step_of plan)) mid.next mid.root (nodes_in mid.nodes) (count_in mid.counts) owed
    → mid.root ≡ plan.root → mid.next ≡ old.next + length plan.made.items
    → IsReleasing (nodes_in mid.nodes) new.next new.root (nodes_in new.nodes) (count_in new.counts) (λ c. 0)
    → ((n : Node) → nodes_in new.nodes new.root ≡ Some n → buffer_size n ≡ new.size)
    → new.root ≡ mid.root → new.next ≡ mid.next
    → IsDone (nodes_in old.nodes) (table_in old) (step_of plan) (nodes_in new.nodes) (table_in new)
carried old mid new plan owed whole owing root next settled size same_root same_next =
    let nodes : Nodes = nodes_in old.nodes in
    let t : Table = table_in old in
    let step : Step = step_of plan in
    let new_root : new.root ≡ step.root = same_root ∙ root in
    let new_next : new.next ≡ t.next + length step.made = same_next ∙ next ∙ ap (λ n. old.next + n) (sym (length-map plan.made.items (λ shared. shared.value))) in
    let all : IsReleasing (after nodes t step) mid.next mid.root (nodes_in new.nodes) (count_in new.counts) (λ c. 0) =
    both_releasing (after nodes t step) (nodes_in mid.nodes) (nodes_in new.nodes) mid.next mid.root (count_in mid.counts) owed (count_in new.counts) (λ c. 0) owing
    (same_ends (nodes_in mid.nodes) (nodes_in new.nodes) new.next mid.next new.root mid.root (count_in new.counts) (λ c. 0) (sym same_next) (sym same_root) settled) in
    let done : IsDone nodes t step (nodes_in new.nodes) (table_of (nodes_in new.nodes) (count_in new.counts) step.root new.size (t.next + length step.made)) =
    settled_done nodes t step new.size (nodes_in new.nodes) (count_in new.counts) whole.sound
    (same_ends (after nodes t step) (nodes_in new.nodes) mid.next (t.next + length step.made) mid.root step.root (count_in new.counts) (λ c. 0)
    (sym new_next ∙ same_next) (sym root) all)
    (λ n there. size n (ap (nodes_in new.nodes) new_root ∙ there)) in
    subst (λ (r : ℕ). IsDone nodes t step (nodes_in new.nodes) (table_of (nodes_in new.nodes) (count_in new.counts) r new.size new.next)) (sym new_root)
    (subst (λ (n : ℕ). IsDone nodes t step (nodes_in new.nodes) (table_of (nodes_in new.nodes) (count_in new.counts) step.root new.size n)) (sym new_next) done)
