use Rattle.std.proofs.Common.{ap, sym, ◌∙◌, subst, arith, inr, length, length-append, List, ℕ, ◌≤◌, ◌<◌, ◌+◌, ◌++◌, ◌∷◌, [], ◌≡◌, Option, None, Some}
use Rattle.bd_limits.specs.Limits.{key_limit}
use Rattle.bd_keys.specs.Keys.{IsKey}
use Rattle.bd_message.specs.Effect.{NodesAt, acts}
use Rattle.bd_node.specs.declared.node.Node.{Node}
use Rattle.bd_node.specs.Nodes.{node_at}
use Rattle.bd_node.specs.Meaning.{Nodes, at}
use Rattle.bd_node.specs.Tables.{Table}
use Rattle.bd_node.specs.Stores.{visited}
use Rattle.bd_node.proofs.Visited.{visits_one_more}
use Rattle.bd_resolve.specs.declared.following.Target.{Target}
use Rattle.bd_resolve.specs.Following.{IsLowerTarget, target_at}
use Rattle.bd_resolve.proofs.Going.{long_leaf, gone_down}
use Rattle.bd_graft.specs.declared.layers.Layer.{Layer}
use Rattle.bd_graft.specs.declared.walking.Passed.{Passed}
use Rattle.bd_graft.specs.Layers.{laid, AreLayers, IsLayer}
use Rattle.bd_graft.proofs.Laying.{layers_more, layers_ended, value_ended, one_further, some_is}
use Rattle.bd_graft.proofs.Ways.{way_at_leaf, way_at_node, way_to_nothing, way_on, led_as}
use Rattle.bd_graft.proofs.Visits.{root_again, root_met, leaf_gone, none_is, leaf_fetches, node_fetches, nothing_fetches, next_more}
use Rattle.bd_graft.proofs.walking.walk.Goals as goal

pub returns-then-level-eq0-clause-value : goal.returns-then-level-eq0-clause-value
returns-then-level-eq0-clause-value g c = λ known sound k key.
    let inv = c.loop-store.invariant in
    value_ended (at (g.S.NodeStore.nodes c.args.store.now)) c.loop-store.layers.items c.ended.result.layers.items c.loop-store.id c.loop-store.asked k c.ended.result.end _
    c.ended.ensures.layers c.ended.ensures.end
    (λ long. long_leaf (g.S.NodeStore.nodes c.args.store.now) (g.S.NodeStore.table c.args.store.now) c.loop-store.id c.loop-store.asked k sound inv.here
    (ap (λ (t : Table). t.level c.loop-store.id) (sym inv.table) ∙ sym c.level.ensures ∙ c.if-level-eq0.true) long)
    (inv.value known sound k key)

pub returns-then-level-eq0-clause-layers : goal.returns-then-level-eq0-clause-layers
returns-then-level-eq0-clause-layers g c =
    layers_ended (g.S.NodeStore.table c.args.store.now) _ c.loop-store.layers.items c.ended.result.layers.items c.loop-store.id c.loop-store.asked c.ended.result.end
    c.ended.ensures.layers c.ended.ensures.end c.loop-store.invariant.layers

pub loop-store-preserved : goal.loop-store-preserved
loop-store-preserved g c =
    let nodes : Nodes = g.S.NodeStore.nodes c.args.store.now in
    let t : Table = g.S.NodeStore.table c.args.store.now in
    let now : Table = g.S.NodeStore.table c.loop-store.store in
    let id : ℕ = c.loop-store.id in
    let high : ℕ = t.level t.root in
    let inv = c.loop-store.invariant in
    let on : Passed = c.in-Some.field-0 in
    let target : Target = c.in-Some-target.target in
    let target_is : on.target ≡ Some target = c.in-Some-target.is in
    let lower : IsLowerTarget t (t.level id) (Some target) =
    subst (λ (o : Option Target). IsLowerTarget t (t.level id) o) target_is
    (subst (λ (u : Table). IsLowerTarget u (u.level id) on.target) inv.table (some_is (λ (p : Passed). IsLowerTarget now (now.level id) p.target) c.in_ok-layer.field-0 on c.in-Some.is c.in_ok-layer.ensures.lower)) in
    let less : t.level target.child < t.level id = lower.lower in
    let more : length c.push.new.self.items ≡ length c.loop-store.layers.items + 1 = ap (λ (ls : List Layer). length ls) c.in_ok-push.ensures.items ∙ length-append c.loop-store.layers.items (on.layer ∷ []) in
    let layer : IsLayer t on.layer = subst (λ (u : Table). IsLayer u on.layer) inv.table (some_is (λ (p : Passed). IsLayer now p.layer) c.in_ok-layer.field-0 on c.in-Some.is c.in_ok-layer.ensures.layer) in
    let level : on.layer.level ≡ t.level id = some_is (λ (p : Passed). p.layer.level ≡ now.level id) c.in_ok-layer.field-0 on c.in-Some.is c.in_ok-layer.ensures.level ∙ ap (λ (u : Table). u.level id) inv.table in
    record {
      table = c.in_ok-layer.ensures.left.table ∙ inv.table;
      here = lower.kept;
      layers = subst (λ (ls : List Layer). AreLayers t (high + 1) ls (Some target)) (sym c.in_ok-push.ensures.items)
          (layers_more t (high + 1) c.loop-store.layers.items on.layer (record { child = id; source = c.loop-store.asked }) (Some target) inv.layers layer level (omega (arith, c.if-level-eq0.false, c.level.ensures, level, ap (λ (u : Table). u.level id) inv.table)) (subst (λ (l : ℕ). IsLowerTarget t l (Some target)) (sym level) lower));
      known = λ k. c.in_ok-layer.ensures.left.known (inv.known k);
      nodes = λ k. c.in_ok-layer.ensures.left.kept (inv.known k) ∙ inv.nodes k;
      read = g.met.S.NodeStore.reads_both c.args.store.now c.loop-store.store c.passed_node.new.store inv.read c.in_ok-layer.ensures.left.read;
      faults = c.in_ok-layer.ensures.cause.kept ∙ inv.faults;
      visits = visits_one_more (g.S.NodeStore.visit_count c.args.store.now) (g.S.NodeStore.visit_count c.loop-store.store) (g.S.NodeStore.visit_count c.passed_node.new.store) high (t.level id)
          inv.visits c.in_ok-layer.ensures.visits (t.level target.child) less;
      counted = gone_down (g.S.NodeStore.visit_count c.args.store.now) (g.S.NodeStore.visit_count c.loop-store.store) (g.S.NodeStore.visit_count c.passed_node.new.store) high (t.level id)
          inv.visits c.in_ok-layer.ensures.visits (t.level target.child) less;
      next = next_more (g.S.NodeStore.visit_count c.args.store.now) (length c.loop-store.layers.items) (g.S.NodeStore.visit_count c.loop-store.store) (g.S.NodeStore.visit_count c.passed_node.new.store) inv.next c.in_ok-layer.ensures.visits
          ∙ ap (λ (n : ℕ). visited (g.S.NodeStore.visit_count c.args.store.now) (n + 1)) (sym more);
      root = inr (record {
        rise = c.in_ok-layer.ensures.visits ∙ inv.next ∙ ap (λ (n : ℕ). visited (g.S.NodeStore.visit_count c.args.store.now) n) (sym more);
        root = root_met (c.loop-store.id ≡ (g.S.NodeStore.table c.args.store.now).root) (g.S.NodeStore.is_known c.args.store.now) (g.S.NodeStore.nodes c.args.store.now) (g.S.NodeStore.table c.args.store.now) (g.S.NodeStore.visit_count c.args.store.now) (g.S.NodeStore.visit_count c.loop-store.store) (length c.loop-store.layers.items) c.loop-store.invariant.root
            (λ same. root_again (g.S.NodeStore.is_known c.args.store.now) (g.S.NodeStore.is_known c.loop-store.store) (g.S.NodeStore.nodes c.args.store.now) (g.S.NodeStore.nodes c.loop-store.store) (g.S.NodeStore.table c.args.store.now) (g.S.NodeStore.table c.loop-store.store)
            c.loop-store.invariant.known c.loop-store.invariant.nodes c.loop-store.invariant.table (c.in_ok-layer.ensures.root (same ∙ ap (λ (t : Table). t.root) (sym c.loop-store.invariant.table))));
      });
      loans = c.in_ok-layer.ensures.left.same_loans ∙ inv.loans;
      way = λ known sound_at.
          way_on nodes t t.root id c.args.prefix.now c.loop-store.asked c.loop-store.layers.items _ on target sound_at inv.here
          (led_as nodes (g.S.NodeStore.nodes c.loop-store.store) id c.loop-store.asked c.as_slice.result.now c.in_ok-layer.field-0 (Some on) (inv.nodes known) c.as_slice.ensures c.in-Some.is (c.in_ok-layer.ensures.led (inv.known known)))
          target_is c.in_ok-push.ensures.items (inv.way known sound_at);
      value = λ known sound k key.
          let says : (n : Node) → nodes id ≡ Some n → (below : NodesAt) (l : List ℕ) → node_at below n (c.loop-store.asked ++ l) ≡ acts below on.layer.messages l (target_at below on.target l) = λ n there below l.
          ap (λ (q : List ℕ). node_at below n (q ++ l)) (sym c.as_slice.ensures)
          ∙ some_is (λ (p : Passed). (n : Node) → g.S.NodeStore.nodes c.loop-store.store id ≡ Some n → (below : NodesAt) (l : List ℕ) → node_at below n (c.as_slice.result.now ++ l) ≡ acts below p.layer.messages l (target_at below p.target l)) c.in_ok-layer.field-0 on c.in-Some.is
          (c.in_ok-layer.ensures.passed (inv.known known)) n (ap (λ (f : Nodes). f id) (inv.nodes known) ∙ there) below l in
          ap (λ (ls : List Layer). acts (at nodes) (laid ls) k (target_at (at nodes) (Some target) k)) c.in_ok-push.ensures.items
          ∙ ap (λ (o : Option Target). acts (at nodes) (laid (c.loop-store.layers.items ++ on.layer ∷ [])) k (target_at (at nodes) o k)) (sym target_is)
          ∙ one_further nodes t id c.loop-store.asked on.layer on.target c.loop-store.layers.items k sound inv.here (subst (λ (q : List ℕ). IsKey q) c.as_slice.ensures c.in_ok-layer.ensures.bytes) key says
          ∙ inv.value known sound k key;
    }

pub returns-in-None-clause-value : goal.returns-in-None-clause-value
returns-in-None-clause-value g c = λ known sound k key.
    let nodes : Nodes = g.S.NodeStore.nodes c.args.store.now in
    let inv = c.loop-store.invariant in
    let id : ℕ = c.loop-store.id in
    let on : Passed = c.in-Some.field-0 in
    let target_is : on.target ≡ None = c.in-None.is in
    let says : (n : Node) → nodes id ≡ Some n → (below : NodesAt) (l : List ℕ) → node_at below n (c.loop-store.asked ++ l) ≡ acts below on.layer.messages l (target_at below on.target l) = λ n there below l.
    ap (λ (q : List ℕ). node_at below n (q ++ l)) (sym c.as_slice.ensures)
    ∙ some_is (λ (p : Passed). (n : Node) → g.S.NodeStore.nodes c.loop-store.store id ≡ Some n → (below : NodesAt) (l : List ℕ) → node_at below n (c.as_slice.result.now ++ l) ≡ acts below p.layer.messages l (target_at below p.target l)) c.in_ok-layer.field-0 on c.in-Some.is
    (c.in_ok-layer.ensures.passed (inv.known known)) n (ap (λ (f : Nodes). f id) (inv.nodes known) ∙ there) below l in
    ap (λ (ls : List Layer). acts (at nodes) (laid ls) k None) c.in_ok-push.ensures.items
    ∙ ap (λ (o : Option Target). acts (at nodes) (laid (c.loop-store.layers.items ++ on.layer ∷ [])) k (target_at (at nodes) o k)) (sym target_is)
    ∙ one_further nodes (g.S.NodeStore.table c.args.store.now) id c.loop-store.asked on.layer on.target c.loop-store.layers.items k sound inv.here (subst (λ (q : List ℕ). IsKey q) c.as_slice.ensures c.in_ok-layer.ensures.bytes) key says
    ∙ inv.value known sound k key

pub returns-in-None-clause-layers : goal.returns-in-None-clause-layers
returns-in-None-clause-layers g c =
    let t : Table = g.S.NodeStore.table c.args.store.now in
    let now : Table = g.S.NodeStore.table c.loop-store.store in
    let id : ℕ = c.loop-store.id in
    let inv = c.loop-store.invariant in
    let on : Passed = c.in-Some.field-0 in
    let layer : IsLayer t on.layer = subst (λ (u : Table). IsLayer u on.layer) inv.table (some_is (λ (p : Passed). IsLayer now p.layer) c.in_ok-layer.field-0 on c.in-Some.is c.in_ok-layer.ensures.layer) in
    let level : on.layer.level ≡ t.level id = some_is (λ (p : Passed). p.layer.level ≡ now.level id) c.in_ok-layer.field-0 on c.in-Some.is c.in_ok-layer.ensures.level ∙ ap (λ (u : Table). u.level id) inv.table in
    subst (λ (ls : List Layer). AreLayers t (t.level t.root + 1) ls None) (sym c.in_ok-push.ensures.items)
    (layers_more t (t.level t.root + 1) c.loop-store.layers.items on.layer (record { child = id; source = c.loop-store.asked }) None inv.layers layer level (omega (arith, c.if-level-eq0.false, c.level.ensures, level, ap (λ (u : Table). u.level id) inv.table)) tt)

pub returns-then-level-eq0-clause-way : goal.returns-then-level-eq0-clause-way
returns-then-level-eq0-clause-way g c = λ known sound.
    let inv = c.loop-store.invariant in
    way_at_leaf (g.S.NodeStore.nodes c.args.store.now) (g.S.NodeStore.table c.args.store.now) (g.S.NodeStore.table c.args.store.now).root c.loop-store.id c.args.prefix.now c.loop-store.asked c.loop-store.layers.items c.ended.result.layers.items c.ended.result.end sound inv.here
    (ap (λ (t : Table). t.level c.loop-store.id) (sym inv.table) ∙ sym c.level.ensures ∙ c.if-level-eq0.true) c.ended.ensures.layers c.ended.ensures.end (inv.way known sound)

pub returns-in_default-clause-way : goal.returns-in_default-clause-way
returns-in_default-clause-way g c = λ known sound.
    let inv = c.loop-store.invariant in
    way_at_node (g.S.NodeStore.nodes c.args.store.now) (g.S.NodeStore.table c.args.store.now) (g.S.NodeStore.table c.args.store.now).root c.loop-store.id c.args.prefix.now c.loop-store.asked c.loop-store.layers.items c.ended-in_default.result.layers.items c.ended-in_default.result.end sound inv.here
    (led_as (g.S.NodeStore.nodes c.args.store.now) (g.S.NodeStore.nodes c.loop-store.store) c.loop-store.id c.loop-store.asked c.as_slice.result.now c.in_ok-layer.field-0 None (inv.nodes known) c.as_slice.ensures c.in_default.is (c.in_ok-layer.ensures.led (inv.known known)))
    c.ended-in_default.ensures.layers c.ended-in_default.ensures.end (inv.way known sound)

pub returns-in-None-clause-way : goal.returns-in-None-clause-way
returns-in-None-clause-way g c = λ known sound.
    let inv = c.loop-store.invariant in
    let on : Passed = c.in-Some.field-0 in
    way_to_nothing (g.S.NodeStore.nodes c.args.store.now) (g.S.NodeStore.table c.args.store.now) (g.S.NodeStore.table c.args.store.now).root c.loop-store.id c.args.prefix.now c.loop-store.asked c.loop-store.layers.items _ on sound inv.here
    (led_as (g.S.NodeStore.nodes c.args.store.now) (g.S.NodeStore.nodes c.loop-store.store) c.loop-store.id c.loop-store.asked c.as_slice.result.now c.in_ok-layer.field-0 (Some on) (inv.nodes known) c.as_slice.ensures c.in-Some.is (c.in_ok-layer.ensures.led (inv.known known)))
    c.in-None.is c.in_ok-push.ensures.items (inv.way known sound)

-- ---- visits

pub returns-then-level-eq0-clause-fetched : goal.returns-then-level-eq0-clause-fetched
returns-then-level-eq0-clause-fetched g c =
    leaf_fetches (g.S.NodeStore.table c.args.store.now) c.loop-store.layers.items c.ended.result.layers.items c.loop-store.id c.ended.result.fetched c.loop-store.asked c.ended.result.end c.ended.ensures.layers c.ended.ensures.end c.ended.ensures.fetched (ap (λ (t : Table). t.level c.loop-store.id) (sym c.loop-store.invariant.table) ∙ sym c.level.ensures ∙ c.if-level-eq0.true)

pub returns-then-level-eq0-clause-visits : goal.returns-then-level-eq0-clause-visits
returns-then-level-eq0-clause-visits g c = (leaf_gone (g.S.NodeStore.is_known c.args.store.now) (g.S.NodeStore.nodes c.args.store.now) (g.S.NodeStore.table c.args.store.now) c.loop-store.id (g.S.NodeStore.visit_count c.args.store.now) (g.S.NodeStore.visit_count c.loop-store.store) (length c.loop-store.layers.items) c.root-id.ensures.table (ap (λ (t : Table). t.level c.loop-store.id) (sym c.loop-store.invariant.table) ∙ sym c.level.ensures ∙ c.if-level-eq0.true) c.loop-store.invariant.root).rise
    ∙ ap (λ (n : ℕ). visited (g.S.NodeStore.visit_count c.args.store.now) n) (omega (arith, c.ended.ensures.fetched))

pub returns-then-level-eq0-clause-root : goal.returns-then-level-eq0-clause-root
returns-then-level-eq0-clause-root g c = (leaf_gone (g.S.NodeStore.is_known c.args.store.now) (g.S.NodeStore.nodes c.args.store.now) (g.S.NodeStore.table c.args.store.now) c.loop-store.id (g.S.NodeStore.visit_count c.args.store.now) (g.S.NodeStore.visit_count c.loop-store.store) (length c.loop-store.layers.items) c.root-id.ensures.table (ap (λ (t : Table). t.level c.loop-store.id) (sym c.loop-store.invariant.table) ∙ sym c.level.ensures ∙ c.if-level-eq0.true) c.loop-store.invariant.root).root

pub returns-in_default-clause-fetched : goal.returns-in_default-clause-fetched
returns-in_default-clause-fetched g c =
    node_fetches (g.S.NodeStore.table c.args.store.now) c.loop-store.layers.items c.ended-in_default.result.layers.items c.loop-store.id c.ended-in_default.result.fetched c.loop-store.asked c.ended-in_default.result.end c.ended-in_default.ensures.layers c.ended-in_default.ensures.end c.ended-in_default.ensures.fetched
    (subst (λ (q : List ℕ). length q ≤ key_limit) c.as_slice.ensures (none_is (length c.as_slice.result.now ≤ key_limit) c.in_ok-layer.field-0 c.in_default.is c.in_ok-layer.ensures.end))
    (omega (arith, c.if-level-eq0.false, c.level.ensures, ap (λ (u : Table). u.level c.loop-store.id) c.loop-store.invariant.table))

pub returns-in_default-clause-visits : goal.returns-in_default-clause-visits
returns-in_default-clause-visits g c =
    c.in_ok-layer.ensures.visits ∙ c.loop-store.invariant.next ∙ ap (λ (n : ℕ). visited (g.S.NodeStore.visit_count c.args.store.now) n) (sym c.ended-in_default.ensures.fetched)

pub returns-in_default-clause-root : goal.returns-in_default-clause-root
returns-in_default-clause-root g c =
    root_met (c.loop-store.id ≡ (g.S.NodeStore.table c.args.store.now).root) (g.S.NodeStore.is_known c.args.store.now) (g.S.NodeStore.nodes c.args.store.now) (g.S.NodeStore.table c.args.store.now) (g.S.NodeStore.visit_count c.args.store.now) (g.S.NodeStore.visit_count c.loop-store.store) (length c.loop-store.layers.items) c.loop-store.invariant.root
    (λ same. root_again (g.S.NodeStore.is_known c.args.store.now) (g.S.NodeStore.is_known c.loop-store.store) (g.S.NodeStore.nodes c.args.store.now) (g.S.NodeStore.nodes c.loop-store.store) (g.S.NodeStore.table c.args.store.now) (g.S.NodeStore.table c.loop-store.store)
    c.loop-store.invariant.known c.loop-store.invariant.nodes c.loop-store.invariant.table (c.in_ok-layer.ensures.root (same ∙ ap (λ (t : Table). t.root) (sym c.loop-store.invariant.table))))

pub returns-in-None-clause-fetched : goal.returns-in-None-clause-fetched
returns-in-None-clause-fetched g c = nothing_fetches (g.S.NodeStore.table c.args.store.now) c.push.new.self.items c.len-fetched.result (omega (arith, c.len-fetched.ensures, c.push.new.self.ok))

pub returns-in-None-clause-visits : goal.returns-in-None-clause-visits
returns-in-None-clause-visits g c =
    c.in_ok-layer.ensures.visits ∙ c.loop-store.invariant.next
    ∙ ap (λ (n : ℕ). visited (g.S.NodeStore.visit_count c.args.store.now) n) (sym ((let n : c.len-fetched.result ≡ length c.push.new.self.items = omega (arith, c.len-fetched.ensures, c.push.new.self.ok) in n) ∙ ap (λ (ls : List Layer). length ls) c.in_ok-push.ensures.items ∙ length-append c.loop-store.layers.items (c.in-Some.field-0.layer ∷ [])))

pub returns-in-None-clause-root : goal.returns-in-None-clause-root
returns-in-None-clause-root g c =
    root_met (c.loop-store.id ≡ (g.S.NodeStore.table c.args.store.now).root) (g.S.NodeStore.is_known c.args.store.now) (g.S.NodeStore.nodes c.args.store.now) (g.S.NodeStore.table c.args.store.now) (g.S.NodeStore.visit_count c.args.store.now) (g.S.NodeStore.visit_count c.loop-store.store) (length c.loop-store.layers.items) c.loop-store.invariant.root
    (λ same. root_again (g.S.NodeStore.is_known c.args.store.now) (g.S.NodeStore.is_known c.loop-store.store) (g.S.NodeStore.nodes c.args.store.now) (g.S.NodeStore.nodes c.loop-store.store) (g.S.NodeStore.table c.args.store.now) (g.S.NodeStore.table c.loop-store.store)
    c.loop-store.invariant.known c.loop-store.invariant.nodes c.loop-store.invariant.table (c.in_ok-layer.ensures.root (same ∙ ap (λ (t : Table). t.root) (sym c.loop-store.invariant.table))))

-- ---- what reads leave

pub returns-in_err-push-clause-left : goal.returns-in_err-push-clause-left
returns-in_err-push-clause-left g c =
    record {
      table = c.in_ok-layer.ensures.left.table ∙ c.loop-store.invariant.table;
      known = λ k. c.in_ok-layer.ensures.left.known (c.loop-store.invariant.known k);
      kept = λ k. c.in_ok-layer.ensures.left.kept (c.loop-store.invariant.known k) ∙ c.loop-store.invariant.nodes k;
      read = g.met.S.NodeStore.reads_both c.args.store.now c.loop-store.store c.passed_node.new.store c.loop-store.invariant.read c.in_ok-layer.ensures.left.read;
      same_loans = c.in_ok-layer.ensures.left.same_loans ∙ c.loop-store.invariant.loans;
    }

pub returns-in-None-clause-left : goal.returns-in-None-clause-left
returns-in-None-clause-left g c =
    record {
      table = c.in_ok-layer.ensures.left.table ∙ c.loop-store.invariant.table;
      known = λ k. c.in_ok-layer.ensures.left.known (c.loop-store.invariant.known k);
      kept = λ k. c.in_ok-layer.ensures.left.kept (c.loop-store.invariant.known k) ∙ c.loop-store.invariant.nodes k;
      read = g.met.S.NodeStore.reads_both c.args.store.now c.loop-store.store c.passed_node.new.store c.loop-store.invariant.read c.in_ok-layer.ensures.left.read;
      same_loans = c.in_ok-layer.ensures.left.same_loans ∙ c.loop-store.invariant.loans;
    }
