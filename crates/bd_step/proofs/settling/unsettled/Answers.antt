use Rattle.std.proofs.Common.{◌≡◌, [], ◌∷◌, ◌++◌, ap, sym, subst, ◌∙◌, arith}
use Rattle.bd_node.specs.Meaning.{Nodes}
use Rattle.bd_node.specs.Tables.{Table}
use Rattle.bd_path.specs.declared.fetching.Fetched.{Fetched}
use Rattle.bd_path.specs.Fetching.{IsFetched}
use Rattle.bd_step.specs.declared.settling.Along.TheVariants.{Down, Ends}
use Rattle.bd_step.specs.Settling.{IsAlong}
use Rattle.bd_step.proofs.Alongs.{IsLedTo, led_to, plain_root, plain_more, own_more, passed_root, passed_more}
use Rattle.bd_step.proofs.Down.{root_own, root_way, none_own, way_more, child_own}
use Rattle.bd_step.proofs.settling.unsettled.Goals as goal

pub loop-place-init : goal.loop-place-init
loop-place-init g c =
    let n : Nodes = g.S.NodeStore.nodes c.args.store.now in
    let t : Table = g.S.NodeStore.table c.args.store.now in
    let root_is : c.in_ok-here.here.id ≡ t.root = c.in_ok-here.ensures.id ∙ c.root-root.ensures.value in
    record {
      table = c.in_ok-here.ensures.left.table;
      fetched = c.in_ok-here.ensures.fetched;
      way = root_way t c.in_ok-here.here.id c.new-above.result.items root_is c.new-above.ensures.items;
      plain = plain_root c.in_ok-here.here.id c.new-above.result.items c.new-above.ensures.items;
      known = λ known. c.in_ok-here.ensures.left.known known;
      nodes = λ known. c.in_ok-here.ensures.left.kept known;
      read = c.in_ok-here.ensures.left.read;
      faults = c.in_ok-here.ensures.cause.kept;
      visits = omega (arith, c.in_ok-here.ensures.visits, ap t.level root_is);
      loans = c.in_ok-here.ensures.left.same_loans;
      own = λ known sound. root_own n t c.in_ok-here.here sound root_is (ap n (sym c.root-root.ensures.value) ∙ c.in_ok-here.ensures.contents known);
      all_own = λ known sound. none_own n t c.new-above.result.items c.new-above.ensures.items;
      passed = λ known sound. passed_root n t c.args.prefix.now c.in_ok-here.here.id root_is;
    }

pub loop-place-smaller : goal.loop-place-smaller
loop-place-smaller g c =
    let t : Table = g.S.NodeStore.table c.args.store.now in
    let led : IsLedTo t c.loop-place.here c.in_ok-below-in-Down.below c.loop-place.left.now c.in-Down.lift =
    led_to t c.loop-place.here c.in_ok-below-in-Down.below c.loop-place.left.now c.in-Down.child c.in-Down.lift c.loop-place.invariant.fetched
    (subst (λ (u : Table). IsAlong u c.loop-place.here.node.value c.loop-place.left.now (Down c.in-Down.child c.in-Down.lift)) c.loop-place.invariant.table c.in-Down.ensures) c.in_ok-below-in-Down.ensures.id in
    led.lower

pub loop-place-preserved : goal.loop-place-preserved
loop-place-preserved g c =
    let n : Nodes = g.S.NodeStore.nodes c.args.store.now in
    let t : Table = g.S.NodeStore.table c.args.store.now in
    let here : Fetched = c.loop-place.here in
    let below : Fetched = c.in_ok-below-in-Down.below in
    let more : c.push.new.self.items ≡ c.loop-place.above.items ++ (here ∷ []) = c.in_ok-push-in-Down.ensures.items in
    let led : IsLedTo t here below c.loop-place.left.now c.in-Down.lift =
    led_to t here below c.loop-place.left.now c.in-Down.child c.in-Down.lift c.loop-place.invariant.fetched
    (subst (λ (u : Table). IsAlong u here.node.value c.loop-place.left.now (Down c.in-Down.child c.in-Down.lift)) c.loop-place.invariant.table c.in-Down.ensures) c.in_ok-below-in-Down.ensures.id in
    let contents = λ (known : g.S.NodeStore.is_known c.args.store.now).
    ap (λ (f : Nodes). f below.id) (sym (c.loop-place.invariant.nodes known))
    ∙ (ap (g.S.NodeStore.nodes c.loop-place.store) c.in_ok-below-in-Down.ensures.id ∙ c.in_ok-below-in-Down.ensures.contents (c.loop-place.invariant.known known)) in
    record {
      table = c.in_ok-below-in-Down.ensures.left.table ∙ c.loop-place.invariant.table;
      fetched = subst (λ (u : Table). IsFetched u below) c.loop-place.invariant.table c.in_ok-below-in-Down.ensures.fetched;
      way = way_more t c.loop-place.above.items c.push.new.self.items here led.place below.id led.edge more c.loop-place.invariant.fetched led.leads.way led.leads.once c.loop-place.invariant.way;
      plain = plain_more c.loop-place.above.items c.push.new.self.items here led.place below.id led.edge more led.leads.way c.loop-place.invariant.plain;
      known = λ known. c.in_ok-below-in-Down.ensures.left.known (c.loop-place.invariant.known known);
      nodes = λ known. c.in_ok-below-in-Down.ensures.left.kept (c.loop-place.invariant.known known) ∙ c.loop-place.invariant.nodes known;
      read = g.met.S.NodeStore.reads_both c.args.store.now c.loop-place.store c.fetch-in-Down.new.store c.loop-place.invariant.read c.in_ok-below-in-Down.ensures.left.read;
      faults = c.in_ok-below-in-Down.ensures.cause.kept ∙ c.loop-place.invariant.faults;
      visits = omega (arith, c.in_ok-below-in-Down.ensures.visits, c.loop-place.invariant.visits, led.lower);
      loans = c.in_ok-below-in-Down.ensures.left.same_loans ∙ c.loop-place.invariant.loans;
      own = λ known sound.
          child_own n t here led.place below led.edge (c.loop-place.invariant.own known sound) c.loop-place.invariant.fetched.own.shape led.leads.way led.leads.once (contents known);
      all_own = λ known sound. own_more n t c.loop-place.above.items c.push.new.self.items here more (c.loop-place.invariant.own known sound) (c.loop-place.invariant.all_own known sound);
      passed = λ known sound.
          passed_more n t c.args.prefix.now c.loop-place.left.now c.tail-left.result.now here below c.in-Down.lift (c.loop-place.invariant.passed known sound) (c.loop-place.invariant.own known sound) led c.tail-left.ensures;
    }

pub returns-in-Ends-clause-at : goal.returns-in-Ends-clause-at
returns-in-Ends-clause-at g c = λ known sound. record {
  id = c.loop-place.here.id;
  node = c.loop-place.here.node.value;
  there = (c.loop-place.invariant.own known sound).there;
  left = c.loop-place.left.now;
  way = c.loop-place.invariant.passed known sound;
  stops = subst (λ (u : Table). IsAlong u c.loop-place.here.node.value c.loop-place.left.now Ends) c.loop-place.invariant.table c.in-Ends.ensures;
}
