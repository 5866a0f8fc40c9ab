use Rattle.std.proofs.Common.{ap, sym, ◌∙◌, subst, refl, arith, inl, List, ℕ, ◌≤◌, ◌<◌, ◌-◌, ◌++◌, Option, None, Some}
use Rattle.bd_limits.specs.Limits.{key_limit}
use Rattle.bd_keys.specs.Keys.{IsKey}
use Rattle.bd_node.specs.Nodes.{node_at}
use Rattle.bd_node.specs.Meaning.{Nodes}
use Rattle.bd_node.specs.Tables.{Table, IsLower}
use Rattle.bd_node.proofs.Visited.{no_visit, visits_one_more}
use Rattle.bd_resolve.specs.declared.following.Target.{Target}
use Rattle.bd_resolve.specs.Following.{IsLowerTarget, target_at}
use Rattle.bd_resolve.proofs.Going.{led_on, long_leaf, gone_down, none_or_more}
use Rattle.bd_resolve.proofs.resolving.resolve.Goals as goal

pub loop-store-init : goal.loop-store-init
loop-store-init g c = record {
  table = refl;
  here = c.requires;
  low = (omega arith);
  known = λ k. k;
  nodes = λ k. refl;
  read = g.met.S.NodeStore.reads_none c.args.store.now;
  faults = refl;
  visits = no_visit (g.S.NodeStore.visit_count c.args.store.now) ((g.S.NodeStore.table c.args.store.now).level c.args.child);
  counted = inl refl;
  loans = refl;
  value = λ known sound k key. refl;
}

pub returns-then-level-eq0-clause-value : goal.returns-then-level-eq0-clause-value
returns-then-level-eq0-clause-value g c = λ known sound k key.
    let inv = c.loop-store.invariant in
    sym (long_leaf (g.S.NodeStore.nodes c.args.store.now) (g.S.NodeStore.table c.args.store.now) c.loop-store.id c.loop-store.prefix k sound inv.here
    (ap (λ (t : Table). t.level c.loop-store.id) (sym inv.table) ∙ sym c.level.ensures ∙ c.if-level-eq0.true) (subst (λ (n : ℕ). key_limit < n) c.len.ensures c.loop-store-test.true))
    ∙ inv.value known sound k key

pub returns-then-level-eq0-clause-visits : goal.returns-then-level-eq0-clause-visits
returns-then-level-eq0-clause-visits g c =
    let high : ℕ = (g.S.NodeStore.table c.args.store.now).level c.args.child in
    none_or_more (high - (g.S.NodeStore.table c.args.store.now).level c.loop-store.id) (high - 0) (g.S.NodeStore.visit_count c.args.store.now) (g.S.NodeStore.visit_count c.loop-store.store) (omega arith) c.loop-store.invariant.counted

pub loop-store-preserved : goal.loop-store-preserved
loop-store-preserved g c =
    let nodes : Nodes = g.S.NodeStore.nodes c.args.store.now in
    let t : Table = g.S.NodeStore.table c.args.store.now in
    let inv = c.loop-store.invariant in
    let lower : IsLower t (t.level c.loop-store.id) c.in-Some.target.child =
    subst (λ (u : Table). IsLowerTarget u (u.level c.loop-store.id) (Some c.in-Some.target)) inv.table
    (subst (λ (o : Option Target). IsLowerTarget (g.S.NodeStore.table c.loop-store.store) ((g.S.NodeStore.table c.loop-store.store).level c.loop-store.id) o) c.in-Some.is c.in_ok-target.ensures.lower) in
    let less : t.level c.in-Some.target.child < t.level c.loop-store.id = lower.lower in
    record {
      table = c.in_ok-target.ensures.left.table ∙ inv.table;
      here = lower.kept;
      low = (let l : t.level c.loop-store.id ≤ t.level c.args.child = inv.low in omega arith);
      known = λ k. c.in_ok-target.ensures.left.known (inv.known k);
      nodes = λ k. c.in_ok-target.ensures.left.kept (inv.known k) ∙ inv.nodes k;
      read = g.met.S.NodeStore.reads_both c.args.store.now c.loop-store.store c.looked_through.new.store inv.read c.in_ok-target.ensures.left.read;
      faults = c.in_ok-target.ensures.cause.kept ∙ inv.faults;
      visits = visits_one_more (g.S.NodeStore.visit_count c.args.store.now) (g.S.NodeStore.visit_count c.loop-store.store) (g.S.NodeStore.visit_count c.looked_through.new.store) (t.level c.args.child) (t.level c.loop-store.id)
          inv.visits c.in_ok-target.ensures.visits (t.level c.in-Some.target.child) less;
      counted = gone_down (g.S.NodeStore.visit_count c.args.store.now) (g.S.NodeStore.visit_count c.loop-store.store) (g.S.NodeStore.visit_count c.looked_through.new.store) (t.level c.args.child) (t.level c.loop-store.id)
          inv.visits c.in_ok-target.ensures.visits (t.level c.in-Some.target.child) less;
      loans = c.in_ok-target.ensures.left.same_loans ∙ inv.loans;
      value = λ known sound k key.
          led_on nodes t c.loop-store.id c.loop-store.prefix (Some c.in-Some.target) sound inv.here (subst (λ (q : List ℕ). IsKey q) c.as_slice.ensures c.in_ok-target.ensures.bytes)
          (λ n there below l. ap (λ (q : List ℕ). node_at below n (q ++ l)) (sym c.as_slice.ensures) ∙ c.in_ok-target.ensures.target (inv.known known) n (ap (λ (f : Nodes). f c.loop-store.id) (inv.nodes known) ∙ there) below l
          ∙ ap (λ (o : Option Target). target_at below o l) c.in-Some.is) k key
          ∙ inv.value known sound k key;
    }

pub returns-in-None-clause-value : goal.returns-in-None-clause-value
returns-in-None-clause-value g c = λ known sound k key.
    let inv = c.loop-store.invariant in
    led_on (g.S.NodeStore.nodes c.args.store.now) (g.S.NodeStore.table c.args.store.now) c.loop-store.id c.loop-store.prefix None sound inv.here (subst (λ (q : List ℕ). IsKey q) c.as_slice.ensures c.in_ok-target.ensures.bytes)
    (λ n there below l. ap (λ (q : List ℕ). node_at below n (q ++ l)) (sym c.as_slice.ensures) ∙ c.in_ok-target.ensures.target (inv.known known) n (ap (λ (f : Nodes). f c.loop-store.id) (inv.nodes known) ∙ there) below l
    ∙ ap (λ (o : Option Target). target_at below o l) c.in-None.is) k key
    ∙ inv.value known sound k key
