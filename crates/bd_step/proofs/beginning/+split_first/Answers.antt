use Rattle.std.proofs.Common.{◌<◌, ◌≤◌, List, length, reverse, ap, sym, subst, arith, rules}
use Rattle.bd_node.specs.declared.node.Edge.{Edge}
use Rattle.bd_node.specs.declared.node.Node.{Node}
use Rattle.bd_node.specs.Parts.{edges_of}
use Rattle.bd_path.specs.declared.fetching.Fetched.{Fetched}
use Rattle.bd_node.specs.Tables.{Table}
use Rattle.bd_path.specs.Fetching.{IsFetched, IsOwn}
use Rattle.bd_path.specs.Raising.{IsWayUp}
use Rattle.bd_step.proofs.Begins.{popped_all, up_link, nothing_above, first_root, first_copied, first_below, first_further, copy_due, split_due, asked_here, asks_through, asks_plain}
use Rattle.bd_step.proofs.beginning.+split_first.Goals as goal

pub returns-in_default-clause-first : goal.returns-in_default-clause-first
returns-in_default-clause-first t c = first_root c.args.above.items c.args.node (omega (arith, c.args.above.ok, c.in_default.ensures.cases.0))

pub returns-in_default-clause-due : goal.returns-in_default-clause-due
returns-in_default-clause-due t c = λ u fetched way. (fetched, nothing_above u c.args.node.id c.args.above.items (omega (arith, c.args.above.ok, c.in_default.ensures.cases.0)) way, c.requires.wide)

pub place_of-place-requires : goal.place_of-place-requires
place_of-place-requires t c =
    let link = up_link c.requires.way.0 c.args.above.items c.pop.new.self.items c.in-Some.parent c.args.node c.in-Some.ensures.items c.requires.way.2 in
    let asked = asked_here c.in-Some.parent.node.value c.deref.result.now link.place c.args.node.id (sym c.deref.ensures) (link.edge, link.way) in
    (link.place, asked.0, asked.1)

pub returns-then-not-asks_plainly-clause-first : goal.returns-then-not-asks_plainly-clause-first
returns-then-not-asks_plainly-clause-first t c =
    first_copied c.args.above.items c.pop.new.self.items c.from_vec.result c.in-Some.parent c.args.node c.place_of-place.result (record { more = c.in-Some.ensures.items; asked = asked_here c.deref.result.now c.in-Some.parent.node.value c.place_of-place.result c.args.node.id c.deref.ensures c.place_of-place.ensures.edge }) c.from_vec.ensures
    (asks_through c.deref-2.result.now c.in-Some.parent.node.value c.place_of-place.result c.args.node.id c.asks_plainly.result (asked_here c.deref.result.now c.in-Some.parent.node.value c.place_of-place.result c.args.node.id c.deref.ensures c.place_of-place.ensures.edge) c.deref-2.ensures c.asks_plainly.ensures c.if-not-asks_plainly.true)

pub returns-then-not-asks_plainly-clause-due : goal.returns-then-not-asks_plainly-clause-due
returns-then-not-asks_plainly-clause-due t c = λ u fetched way.
    copy_due u c.args.above.items c.pop.new.self.items c.in-Some.parent c.args.node c.place_of-place.result (record { more = c.in-Some.ensures.items; asked = asked_here c.deref.result.now c.in-Some.parent.node.value c.place_of-place.result c.args.node.id c.deref.ensures c.place_of-place.ensures.edge })
    (asks_through c.deref-2.result.now c.in-Some.parent.node.value c.place_of-place.result c.args.node.id c.asks_plainly.result (asked_here c.deref.result.now c.in-Some.parent.node.value c.place_of-place.result c.args.node.id c.deref.ensures c.place_of-place.ensures.edge) c.deref-2.ensures c.asks_plainly.ensures c.if-not-asks_plainly.true) way

pub returns-then-not-asks_plainly-clause-way : goal.returns-then-not-asks_plainly-clause-way
returns-then-not-asks_plainly-clause-way t c = λ u way.
    subst (λ (l : List Fetched). IsWayUp u c.in-Some.parent.id (reverse l)) (sym c.from_vec.ensures) (up_link u c.args.above.items c.pop.new.self.items c.in-Some.parent c.args.node c.in-Some.ensures.items way).up

pub split_first-requires : goal.split_first-requires
split_first-requires t c =
    let link = up_link c.requires.way.0 c.args.above.items c.pop.new.self.items c.in-Some.parent c.args.node c.in-Some.ensures.items c.requires.way.2 in
    let wide : 15 ≤ length (edges_of c.in-Some.parent.node.value) = omega (arith, (ap (λ (n : Node). length (edges_of n)) c.deref-3.ensures), ap (λ (l : List Edge). length l) c.edges.ensures) in
    let less : length c.pop.new.self.items < length c.args.above.items = omega (arith, c.in-Some.ensures.cases, c.args.above.ok, c.pop.new.self.ok) in
    let up : (u : Table) × IsFetched u c.in-Some.parent × IsWayUp u c.in-Some.parent.id (reverse c.pop.new.self.items) = (c.requires.way.0, link.fetched, link.up) in
    search (rules, less, wide, up)

pub returns-then-edges-ge-FULL_EDGES-clause-first : goal.returns-then-edges-ge-FULL_EDGES-clause-first
returns-then-edges-ge-FULL_EDGES-clause-first t c =
    first_further c.args.above.items c.pop.new.self.items c.in-Some.parent c.args.node c.place_of-place.result (record { more = c.in-Some.ensures.items; asked = asked_here c.deref.result.now c.in-Some.parent.node.value c.place_of-place.result c.args.node.id c.deref.ensures c.place_of-place.ensures.edge }) c.split_first.result
    (asks_plain c.deref-2.result.now c.in-Some.parent.node.value c.place_of-place.result c.args.node.id c.asks_plainly.result (asked_here c.deref.result.now c.in-Some.parent.node.value c.place_of-place.result c.args.node.id c.deref.ensures c.place_of-place.ensures.edge) c.deref-2.ensures c.asks_plainly.ensures c.if-not-asks_plainly.false)
    (omega (arith, (ap (λ (n : Node). length (edges_of n)) c.deref-3.ensures), ap (λ (l : List Edge). length l) c.edges.ensures)) c.split_first.ensures.first

pub returns-then-edges-ge-FULL_EDGES-clause-due : goal.returns-then-edges-ge-FULL_EDGES-clause-due
returns-then-edges-ge-FULL_EDGES-clause-due t c = λ u fetched way.
    let link = up_link u c.args.above.items c.pop.new.self.items c.in-Some.parent c.args.node c.in-Some.ensures.items way in
    c.split_first.ensures.due u link.fetched link.up

pub returns-then-edges-ge-FULL_EDGES-clause-way : goal.returns-then-edges-ge-FULL_EDGES-clause-way
returns-then-edges-ge-FULL_EDGES-clause-way t c = λ u way.
    c.split_first.ensures.way u (up_link u c.args.above.items c.pop.new.self.items c.in-Some.parent c.args.node c.in-Some.ensures.items way).up

pub returns-then-edges-ge-FULL_EDGES-clause-way_at : goal.returns-then-edges-ge-FULL_EDGES-clause-way_at
returns-then-edges-ge-FULL_EDGES-clause-way_at t c = λ nodes u all.
    c.split_first.ensures.way_at nodes u (popped_all (IsOwn nodes u) c.args.above.items c.pop.new.self.items c.in-Some.parent c.in-Some.ensures.items all).1

pub returns-clause-first : goal.returns-clause-first
returns-clause-first t c =
    first_below c.args.above.items c.pop.new.self.items c.from_vec-2.result c.in-Some.parent c.args.node c.place_of-place.result (record { more = c.in-Some.ensures.items; asked = asked_here c.deref.result.now c.in-Some.parent.node.value c.place_of-place.result c.args.node.id c.deref.ensures c.place_of-place.ensures.edge }) c.from_vec-2.ensures
    (asks_plain c.deref-2.result.now c.in-Some.parent.node.value c.place_of-place.result c.args.node.id c.asks_plainly.result (asked_here c.deref.result.now c.in-Some.parent.node.value c.place_of-place.result c.args.node.id c.deref.ensures c.place_of-place.ensures.edge) c.deref-2.ensures c.asks_plainly.ensures c.if-not-asks_plainly.false)
    (omega (arith, (ap (λ (n : Node). length (edges_of n)) c.deref-3.ensures), ap (λ (l : List Edge). length l) c.edges.ensures))

pub returns-clause-due : goal.returns-clause-due
returns-clause-due t c = λ u fetched way.
    split_due u c.args.above.items c.pop.new.self.items c.in-Some.parent c.args.node c.place_of-place.result (record { more = c.in-Some.ensures.items; asked = asked_here c.deref.result.now c.in-Some.parent.node.value c.place_of-place.result c.args.node.id c.deref.ensures c.place_of-place.ensures.edge })
    (asks_plain c.deref-2.result.now c.in-Some.parent.node.value c.place_of-place.result c.args.node.id c.asks_plainly.result (asked_here c.deref.result.now c.in-Some.parent.node.value c.place_of-place.result c.args.node.id c.deref.ensures c.place_of-place.ensures.edge) c.deref-2.ensures c.asks_plainly.ensures c.if-not-asks_plainly.false)
    (omega (arith, (ap (λ (n : Node). length (edges_of n)) c.deref-3.ensures), ap (λ (l : List Edge). length l) c.edges.ensures)) c.requires.wide fetched way

pub returns-clause-way : goal.returns-clause-way
returns-clause-way t c = λ u way.
    subst (λ (l : List Fetched). IsWayUp u c.in-Some.parent.id (reverse l)) (sym c.from_vec-2.ensures) (up_link u c.args.above.items c.pop.new.self.items c.in-Some.parent c.args.node c.in-Some.ensures.items way).up
