use Rattle.std.proofs.Common.{ap, sym, ◌∙◌, subst, refl, inl, List, ℕ, ◌<◌}
use Rattle.bd_keys.specs.Keys.{IsKey}
use Rattle.bd_node.specs.Nodes.{node_at}
use Rattle.bd_node.specs.Meaning.{Nodes, at}
use Rattle.bd_node.specs.Tables.{Table, IsKept, IsLower}
use Rattle.bd_query.specs.declared.patch.Patch.{Patch}
use Rattle.bd_query.specs.declared.part.Base.TheVariants.{Value, Ask}
use Rattle.bd_query.specs.Looks.{patched}
use Rattle.bd_query.specs.Asks.{AreVisitsOfWay, AreVisitsOfPart}
use Rattle.bd_query.proofs.Going.{going_on, lower_ask, IsSaid, IsAsking, asking_same}
use Rattle.bd_query.proofs.AskLemmas.{way_ends, way_goes_on, part_here, part_goes_on, on_err}
use Rattle.bd_node.proofs.Visited.{no_visit, visits_one_more, visits_last, visits_at_most}
use Rattle.bd_query.proofs.ways.get.Goals as goal

pub returns-in-Value-clause-value : goal.returns-in-Value-clause-value
returns-in-Value-clause-value g c = λ known sound.
    let nodes : Nodes = g.S.NodeStore.nodes c.args.store.now in
    let inv = c.loop-patches.invariant in
    let said : IsSaid nodes c.loop-patches.id c.loop-patches.asked c.in_ok-part.part = λ n there below.
    ap (λ (k : List ℕ). node_at below n k) (sym c.as_slice.ensures) ∙ c.in_ok-part.ensures.part (inv.known known) n (ap (λ (f : Nodes). f c.loop-patches.id) (inv.nodes known) ∙ there) below in
    c.in_ok-finished-in-Value.ensures
    ∙ ap (λ (ps : List Patch). patched ps c.in-Value.found) (c.as_slice-in-Value.ensures.value ∙ c.in_ok-append.ensures.items)
    ∙ going_on nodes (g.S.NodeStore.table c.args.store.now) c.loop-patches.id c.loop-patches.asked c.in_ok-part.part (Value c.in-Value.found) c.in_ok-part.part.patches.items c.loop-patches.patches.items
    (at nodes c.args.root c.args.key.now) sound inv.here (subst (λ (k : List ℕ). IsKey k) c.as_slice.ensures c.in_ok-part.ensures.bytes) said refl c.in-Value.is (inv.value known sound)

pub loop-patches-init : goal.loop-patches-init
loop-patches-init g c = record {
  table = refl;
  here = c.requires;
  known = λ k. k;
  nodes = λ k. refl;
  read = g.met.S.NodeStore.reads_none c.args.store.now;
  faults = refl;
  visits = no_visit (g.S.NodeStore.visit_count c.args.store.now) ((g.S.NodeStore.table c.args.store.now).level c.args.root);
  loans = refl;
  value = λ known sound. ap (λ (ps : List Patch). patched ps (at (g.S.NodeStore.nodes c.args.store.now) c.args.root c.in_ok-asked.asked)) c.new-patches.ensures.items
      ∙ ap (λ (k : List ℕ). at (g.S.NodeStore.nodes c.args.store.now) c.args.root k) c.in_ok-asked.ensures;
  way = λ known sound final rest. subst (λ (k : List ℕ). AreVisitsOfWay (g.S.NodeStore.nodes c.args.store.now) c.args.root k (g.S.NodeStore.visit_count c.args.store.now) final) c.in_ok-asked.ensures rest;
  part = λ known sound final rest. subst (λ (k : List ℕ). AreVisitsOfPart (g.S.NodeStore.nodes c.args.store.now) c.args.root k (g.S.NodeStore.visit_count c.args.store.now) final) c.in_ok-asked.ensures rest;
}

pub loop-patches-preserved : goal.loop-patches-preserved
loop-patches-preserved g c =
    let nodes : Nodes = g.S.NodeStore.nodes c.args.store.now in
    let inv = c.loop-patches.invariant in
    let lower : IsLower (g.S.NodeStore.table c.loop-patches.store) ((g.S.NodeStore.table c.loop-patches.store).level c.loop-patches.id) c.in-Ask.child =
    lower_ask (g.S.NodeStore.table c.loop-patches.store) ((g.S.NodeStore.table c.loop-patches.store).level c.loop-patches.id) c.in_ok-part.part.base c.in-Ask.child c.in-Ask.key c.in-Ask.is c.in_ok-part.ensures.lower in
    record {
      table = c.in_ok-part.ensures.left.table ∙ inv.table;
      here = subst (λ (t : Table). IsKept t c.in-Ask.child) inv.table lower.kept;
      known = λ k. c.in_ok-part.ensures.left.known (inv.known k);
      nodes = λ k. c.in_ok-part.ensures.left.kept (inv.known k) ∙ inv.nodes k;
      read = g.met.S.NodeStore.reads_both c.args.store.now c.loop-patches.store c.fetched.new.store inv.read c.in_ok-part.ensures.left.read;
      faults = c.in_ok-part.ensures.cause.kept ∙ inv.faults;
      visits = visits_one_more (g.S.NodeStore.visit_count c.args.store.now) (g.S.NodeStore.visit_count c.loop-patches.store) (g.S.NodeStore.visit_count c.fetched.new.store) ((g.S.NodeStore.table c.args.store.now).level c.args.root) ((g.S.NodeStore.table c.args.store.now).level c.loop-patches.id)
          inv.visits c.in_ok-part.ensures.visits ((g.S.NodeStore.table c.args.store.now).level c.in-Ask.child) (subst (λ (t : Table). t.level c.in-Ask.child < t.level c.loop-patches.id) inv.table lower.lower);
      loans = c.in_ok-part.ensures.left.same_loans ∙ inv.loans;
      value = λ known sound.
          let said : IsSaid nodes c.loop-patches.id c.loop-patches.asked c.in_ok-part.part = λ n there below.
          ap (λ (k : List ℕ). node_at below n k) (sym c.as_slice.ensures) ∙ c.in_ok-part.ensures.part (inv.known known) n (ap (λ (f : Nodes). f c.loop-patches.id) (inv.nodes known) ∙ there) below in
          ap (λ (ps : List Patch). patched ps (at nodes c.in-Ask.child c.in-Ask.key)) c.in_ok-append.ensures.items
          ∙ going_on nodes (g.S.NodeStore.table c.args.store.now) c.loop-patches.id c.loop-patches.asked c.in_ok-part.part (Ask c.in-Ask.child c.in-Ask.key) c.in_ok-part.part.patches.items c.loop-patches.patches.items
          (at nodes c.args.root c.args.key.now) sound inv.here (subst (λ (k : List ℕ). IsKey k) c.as_slice.ensures c.in_ok-part.ensures.bytes) said refl c.in-Ask.is (inv.value known sound);
      way = λ known sound final rest.
          let asking : IsAsking nodes c.loop-patches.id c.loop-patches.asked (Ask c.in-Ask.child c.in-Ask.key) =
          asking_same (g.S.NodeStore.nodes c.loop-patches.store) nodes c.loop-patches.id c.as_slice.result.now c.loop-patches.asked c.in_ok-part.part.base (Ask c.in-Ask.child c.in-Ask.key)
          (inv.nodes known) c.as_slice.ensures c.in-Ask.is (c.in_ok-part.ensures.asks (inv.known known)) in
          inv.way known sound final (way_goes_on nodes (g.S.NodeStore.table c.args.store.now) c.loop-patches.id c.in-Ask.child c.loop-patches.asked c.in-Ask.key (g.S.NodeStore.visit_count c.loop-patches.store) (g.S.NodeStore.visit_count c.fetched.new.store) final sound inv.here asking c.in_ok-part.ensures.visits rest);
      part = λ known sound final rest.
          let asking : IsAsking nodes c.loop-patches.id c.loop-patches.asked (Ask c.in-Ask.child c.in-Ask.key) =
          asking_same (g.S.NodeStore.nodes c.loop-patches.store) nodes c.loop-patches.id c.as_slice.result.now c.loop-patches.asked c.in_ok-part.part.base (Ask c.in-Ask.child c.in-Ask.key)
          (inv.nodes known) c.as_slice.ensures c.in-Ask.is (c.in_ok-part.ensures.asks (inv.known known)) in
          inv.part known sound final (part_goes_on nodes (g.S.NodeStore.table c.args.store.now) c.loop-patches.id c.in-Ask.child c.loop-patches.asked c.in-Ask.key (g.S.NodeStore.visit_count c.loop-patches.store) (g.S.NodeStore.visit_count c.fetched.new.store) final sound inv.here asking c.in_ok-part.ensures.visits rest);
    }

pub returns-in_err-part-clause-few_visits : goal.returns-in_err-part-clause-few_visits
returns-in_err-part-clause-few_visits g c = visits_at_most (g.S.NodeStore.visit_count c.args.store.now) (g.S.NodeStore.visit_count c.loop-patches.store) (g.S.NodeStore.visit_count c.fetched.new.store) ((g.S.NodeStore.table c.args.store.now).level c.args.root) ((g.S.NodeStore.table c.args.store.now).level c.loop-patches.id) c.loop-patches.invariant.visits c.fetched.ensures.visits

pub returns-in_err-append-clause-few_visits : goal.returns-in_err-append-clause-few_visits
returns-in_err-append-clause-few_visits g c = visits_at_most (g.S.NodeStore.visit_count c.args.store.now) (g.S.NodeStore.visit_count c.loop-patches.store) (g.S.NodeStore.visit_count c.fetched.new.store) ((g.S.NodeStore.table c.args.store.now).level c.args.root) ((g.S.NodeStore.table c.args.store.now).level c.loop-patches.id) c.loop-patches.invariant.visits c.fetched.ensures.visits

pub returns-in_err-finished-in-Value-clause-few_visits : goal.returns-in_err-finished-in-Value-clause-few_visits
returns-in_err-finished-in-Value-clause-few_visits g c = visits_at_most (g.S.NodeStore.visit_count c.args.store.now) (g.S.NodeStore.visit_count c.loop-patches.store) (g.S.NodeStore.visit_count c.fetched.new.store) ((g.S.NodeStore.table c.args.store.now).level c.args.root) ((g.S.NodeStore.table c.args.store.now).level c.loop-patches.id) c.loop-patches.invariant.visits c.fetched.ensures.visits

pub returns-in-Value-clause-few_visits : goal.returns-in-Value-clause-few_visits
returns-in-Value-clause-few_visits g c = visits_at_most (g.S.NodeStore.visit_count c.args.store.now) (g.S.NodeStore.visit_count c.loop-patches.store) (g.S.NodeStore.visit_count c.fetched.new.store) ((g.S.NodeStore.table c.args.store.now).level c.args.root) ((g.S.NodeStore.table c.args.store.now).level c.loop-patches.id) c.loop-patches.invariant.visits c.fetched.ensures.visits

pub returns-in-Value-clause-visits : goal.returns-in-Value-clause-visits
returns-in-Value-clause-visits g c = visits_last (g.S.NodeStore.visit_count c.args.store.now) (g.S.NodeStore.visit_count c.loop-patches.store) (g.S.NodeStore.visit_count c.fetched.new.store) ((g.S.NodeStore.table c.args.store.now).level c.args.root) ((g.S.NodeStore.table c.args.store.now).level c.loop-patches.id) c.loop-patches.invariant.visits c.fetched.ensures.visits

pub returns-in-Value-clause-way : goal.returns-in-Value-clause-way
returns-in-Value-clause-way g c = λ known sound.
    let nodes : Nodes = g.S.NodeStore.nodes c.args.store.now in
    let inv = c.loop-patches.invariant in
    let asking : IsAsking nodes c.loop-patches.id c.loop-patches.asked (Value c.in-Value.found) =
    asking_same (g.S.NodeStore.nodes c.loop-patches.store) nodes c.loop-patches.id c.as_slice.result.now c.loop-patches.asked c.in_ok-part.part.base (Value c.in-Value.found)
    (inv.nodes known) c.as_slice.ensures c.in-Value.is (c.in_ok-part.ensures.asks (inv.known known)) in
    inv.way known sound (g.S.NodeStore.visit_count c.fetched.new.store)
    (way_ends nodes (g.S.NodeStore.table c.args.store.now) c.loop-patches.id c.loop-patches.asked (g.S.NodeStore.visit_count c.loop-patches.store) (g.S.NodeStore.visit_count c.fetched.new.store) sound inv.here asking c.in_ok-part.ensures.visits)

pub returns-in_err-asked-clause-err_way : goal.returns-in_err-asked-clause-err_way
returns-in_err-asked-clause-err_way g c = λ known sound. on_err c.from_residual.result (inl refl)

pub returns-in_err-part-clause-err_way : goal.returns-in_err-part-clause-err_way
returns-in_err-part-clause-err_way g c = λ known sound.
    on_err c.from_residual-in_err-part.result (c.loop-patches.invariant.part known sound (g.S.NodeStore.visit_count c.fetched.new.store)
    (part_here (g.S.NodeStore.nodes c.args.store.now) c.loop-patches.id c.loop-patches.asked (g.S.NodeStore.visit_count c.loop-patches.store) (g.S.NodeStore.visit_count c.fetched.new.store) c.fetched.ensures.visits))

pub returns-in_err-append-clause-err_way : goal.returns-in_err-append-clause-err_way
returns-in_err-append-clause-err_way g c = λ known sound.
    on_err c.from_residual-in_err-append.result (c.loop-patches.invariant.part known sound (g.S.NodeStore.visit_count c.fetched.new.store)
    (part_here (g.S.NodeStore.nodes c.args.store.now) c.loop-patches.id c.loop-patches.asked (g.S.NodeStore.visit_count c.loop-patches.store) (g.S.NodeStore.visit_count c.fetched.new.store) c.fetched.ensures.visits))

pub returns-in_err-finished-in-Value-clause-err_way : goal.returns-in_err-finished-in-Value-clause-err_way
returns-in_err-finished-in-Value-clause-err_way g c = λ known sound.
    on_err c.from_residual-in_err-finished-in-Value.result (c.loop-patches.invariant.part known sound (g.S.NodeStore.visit_count c.fetched.new.store)
    (part_here (g.S.NodeStore.nodes c.args.store.now) c.loop-patches.id c.loop-patches.asked (g.S.NodeStore.visit_count c.loop-patches.store) (g.S.NodeStore.visit_count c.fetched.new.store) c.fetched.ensures.visits))
