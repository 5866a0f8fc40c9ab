use Rattle.std.proofs.Common.{◌≡◌, ℕ, ◌+◌, ◌<◌, ◌≤◌, ◌++◌, sym, ap, subst, ◌∙◌, arith, List, Option, Some, drop}
use Rattle.std.specs.Prelude.{IsSome}
use Rattle.bd_node.specs.Meaning.{Nodes, at}
use Rattle.bd_node.specs.Stores.{visited}
use Rattle.bd_node.specs.Tables.{Table, IsKept, IsLower, IsSound}
use Rattle.bd_query.specs.declared.stretch.Stretch.{Stretch}
use Rattle.bd_query.specs.declared.stretch.Stretch.TheVariants.{Present}
use Rattle.bd_query.specs.Stretches.{IsStretch, IsAsked, AsksLower, IsTurn, PassesTo, end_limit, way_limit}
use Rattle.bd_query.specs.Asks.{asked_in, asked_of, AreVisitsOfWay, AreVisitsOfRest, AreVisitsOfPart, AreVisitsOfRestPart, AreFewOfRest}
use Rattle.bd_query.specs.Looks.{part_at, IsLowerBase}
use Rattle.bd_query.proofs.Going.{lower_ask}
use Rattle.bd_query.proofs.AskLemmas.{way_ends, way_goes_on, way_with_rest, part_of_way, part_here, part_goes_on, part_with_rest, few_with_rest, on_err}
use Rattle.bd_query.proofs.TurnLemmas.{node_says, passes_weaker, level_more}
use Rattle.bd_node.proofs.Visited.{visits_then}
use Rattle.bd_query.proofs.turns.+turn_at.Goals as goal

pub value_of-requires : goal.value_of-requires
value_of-requires g t c child key is =
    let lower : IsLowerBase (g.S.NodeStore.table c.args.store.now) ((g.S.NodeStore.table c.args.store.now).level c.args.id) c.in-Present.part.base =
    subst (λ (s : Stretch). AsksLower (g.S.NodeStore.table c.args.store.now) ((g.S.NodeStore.table c.args.store.now).level c.args.id) s) c.in-Present.is c.in_ok-stretch.ensures.lower in
    subst (λ (u : Table). IsKept u child) (sym c.in_ok-stretch.ensures.left.table)
    (lower_ask (g.S.NodeStore.table c.args.store.now) ((g.S.NodeStore.table c.args.store.now).level c.args.id) c.in-Present.part.base child key is lower).kept

pub returns-in_ok-value-in-Present-clause-turn : goal.returns-in_ok-value-in-Present-clause-turn
returns-in_ok-value-in-Present-clause-turn g t c known sound =
    let nodes : Nodes = g.S.NodeStore.nodes c.args.store.now in
    let same : g.S.NodeStore.nodes c.stretch_at.new.store ≡ nodes = c.in_ok-stretch.ensures.left.kept known in
    let still : IsSound (g.S.NodeStore.nodes c.stretch_at.new.store) (g.S.NodeStore.table c.stretch_at.new.store) =
    subst (λ (n : Nodes). IsSound n (g.S.NodeStore.table c.stretch_at.new.store)) (sym same) (subst (λ (u : Table). IsSound nodes u) (sym c.in_ok-stretch.ensures.left.table) sound) in
    let said : IsStretch (at nodes) (at nodes c.args.id) c.args.key.now (Present c.in-Present.part) =
    subst (λ (s : Stretch). IsStretch (at nodes) (at nodes c.args.id) c.args.key.now s) c.in-Present.is
    (node_says nodes (g.S.NodeStore.table c.args.store.now) c.args.id c.args.key.now c.in_ok-stretch.stretch sound c.requires.kept (λ i. omega (arith, c.type_inv.key i)) (c.in_ok-stretch.ensures.stretch known)) in
    said.1
    ∙ subst (λ (n : Nodes). IsSome (part_at (at n) c.in-Present.part) → part_at (at n) c.in-Present.part ≡ Some c.in_ok-value-in-Present.value) same
    (c.in_ok-value-in-Present.ensures.value (c.in_ok-stretch.ensures.left.known known) still) (subst (λ (o : Option (List ℕ)). IsSome o) said.1 said.0)

pub returns-in_ok-value-in-Present-clause-visits : goal.returns-in_ok-value-in-Present-clause-visits
returns-in_ok-value-in-Present-clause-visits g t c =
    let lower : IsLowerBase (g.S.NodeStore.table c.args.store.now) ((g.S.NodeStore.table c.args.store.now).level c.args.id) c.in-Present.part.base =
    subst (λ (s : Stretch). AsksLower (g.S.NodeStore.table c.args.store.now) ((g.S.NodeStore.table c.args.store.now).level c.args.id) s) c.in-Present.is c.in_ok-stretch.ensures.lower in
    few_with_rest (g.S.NodeStore.table c.args.store.now) ((g.S.NodeStore.table c.args.store.now).level c.args.id) c.in-Present.part.base (g.S.NodeStore.visit_count c.args.store.now) (g.S.NodeStore.visit_count c.stretch_at.new.store) (g.S.NodeStore.visit_count c.value_of.new.store)
    lower c.in_ok-stretch.ensures.visits
    (subst (λ (u : Table). AreFewOfRest u (asked_of c.in-Present.part.base) (g.S.NodeStore.visit_count c.stretch_at.new.store) (g.S.NodeStore.visit_count c.value_of.new.store)) c.in_ok-stretch.ensures.left.table c.in_ok-value-in-Present.ensures.visits)

pub returns-in_err-value-in-Present-clause-few_visits : goal.returns-in_err-value-in-Present-clause-few_visits
returns-in_err-value-in-Present-clause-few_visits g t c =
    let lower : IsLowerBase (g.S.NodeStore.table c.args.store.now) ((g.S.NodeStore.table c.args.store.now).level c.args.id) c.in-Present.part.base =
    subst (λ (s : Stretch). AsksLower (g.S.NodeStore.table c.args.store.now) ((g.S.NodeStore.table c.args.store.now).level c.args.id) s) c.in-Present.is c.in_ok-stretch.ensures.lower in
    let one : g.S.NodeStore.visit_count c.stretch_at.new.store ≡ visited (g.S.NodeStore.visit_count c.args.store.now) 1 = c.in_ok-stretch.ensures.visits in
    let most : g.S.NodeStore.visit_count c.value_of.new.store ≤ g.S.NodeStore.visit_count c.stretch_at.new.store + (g.S.NodeStore.table c.args.store.now).level c.args.id =
    c.value_of.ensures.few_visits ((g.S.NodeStore.table c.args.store.now).level c.args.id)
    (subst (λ (u : Table). IsLowerBase u ((g.S.NodeStore.table c.args.store.now).level c.args.id) c.in-Present.part.base) (sym c.in_ok-stretch.ensures.left.table) lower) in
    omega arith

pub returns-in-Absent-clause-turn : goal.returns-in-Absent-clause-turn
returns-in-Absent-clause-turn g t c known sound =
    let nodes : Nodes = g.S.NodeStore.nodes c.args.store.now in
    subst (λ (s : Stretch). IsStretch (at nodes) (at nodes c.args.id) c.args.key.now s) c.in-Absent.is
    (node_says nodes (g.S.NodeStore.table c.args.store.now) c.args.id c.args.key.now c.in_ok-stretch.stretch sound c.requires.kept (λ i. omega (arith, c.type_inv.key i)) (c.in_ok-stretch.ensures.stretch known))

pub returns-in_ok-turn-in-Child-2-clause-turn : goal.returns-in_ok-turn-in-Child-2-clause-turn
returns-in_ok-turn-in-Child-2-clause-turn g t c known sound =
    let nodes : Nodes = g.S.NodeStore.nodes c.args.store.now in
    let same : g.S.NodeStore.nodes c.stretch_at.new.store ≡ nodes = c.in_ok-stretch.ensures.left.kept known in
    let still : IsSound (g.S.NodeStore.nodes c.stretch_at.new.store) (g.S.NodeStore.table c.stretch_at.new.store) =
    subst (λ (n : Nodes). IsSound n (g.S.NodeStore.table c.stretch_at.new.store)) (sym same) (subst (λ (u : Table). IsSound nodes u) (sym c.in_ok-stretch.ensures.left.table) sound) in
    let source : c.as_slice-in-Child-2.result.now ≡ c.in-Child.source = c.as_slice-in-Child-2.ensures in
    let asked : c.as_slice-in-Child.result.now ≡ c.as_slice-in-Child-2.result.now ++ drop c.in-Child.lift c.args.key.now =
    c.as_slice-in-Child.ensures ∙ c.in_ok-asked-in-Child.ensures ∙ ap (λ (l : List ℕ). l ++ c.tail.result.now) (c.as_slice.ensures ∙ sym source) ∙ ap (λ (l : List ℕ). c.as_slice-in-Child-2.result.now ++ l) c.tail.ensures in
    c.in_ok-turn-in-Child-2.ensures.turn (way_limit ((g.S.NodeStore.table c.stretch_at.new.store).level c.in-Child.child))
    (subst (λ (k : List ℕ). PassesTo k (way_limit ((g.S.NodeStore.table c.stretch_at.new.store).level c.in-Child.child)) c.in_ok-turn-in-Child.turn) asked c.in_ok-turn-in-Child.ensures.passes)
    (at nodes c.args.id) (at nodes c.in-Child.child)
    (subst (λ (l : List ℕ). IsAsked (at nodes c.args.id) (at nodes c.in-Child.child) c.args.key.now c.in-Child.end c.in-Child.lift l) (sym source)
    (subst (λ (s : Stretch). IsStretch (at nodes) (at nodes c.args.id) c.args.key.now s) c.in-Child.is
    (node_says nodes (g.S.NodeStore.table c.args.store.now) c.args.id c.args.key.now c.in_ok-stretch.stretch sound c.requires.kept (λ i. omega (arith, c.type_inv.key i)) (c.in_ok-stretch.ensures.stretch known))))
    (subst (λ (k : List ℕ). IsTurn (at nodes c.in-Child.child) k c.in_ok-turn-in-Child.turn) asked
    (subst (λ (n : Nodes). IsTurn (at n c.in-Child.child) c.as_slice-in-Child.result.now c.in_ok-turn-in-Child.turn) same
    (c.in_ok-turn-in-Child.ensures.turn (c.in_ok-stretch.ensures.left.known known) still)))

pub returns-in_ok-turn-in-Child-2-clause-passes : goal.returns-in_ok-turn-in-Child-2-clause-passes
returns-in_ok-turn-in-Child-2-clause-passes g t c =
    let lower : IsLower (g.S.NodeStore.table c.args.store.now) ((g.S.NodeStore.table c.args.store.now).level c.args.id) c.in-Child.child =
    subst (λ (s : Stretch). AsksLower (g.S.NodeStore.table c.args.store.now) ((g.S.NodeStore.table c.args.store.now).level c.args.id) s) c.in-Child.is c.in_ok-stretch.ensures.lower in
    let source : c.as_slice-in-Child-2.result.now ≡ c.in-Child.source = c.as_slice-in-Child-2.ensures in
    let asked : c.as_slice-in-Child.result.now ≡ c.as_slice-in-Child-2.result.now ++ drop c.in-Child.lift c.args.key.now =
    c.as_slice-in-Child.ensures ∙ c.in_ok-asked-in-Child.ensures ∙ ap (λ (l : List ℕ). l ++ c.tail.result.now) (c.as_slice.ensures ∙ sym source) ∙ ap (λ (l : List ℕ). c.as_slice-in-Child-2.result.now ++ l) c.tail.ensures in
    let passes : PassesTo c.as_slice-in-Child.result.now (way_limit ((g.S.NodeStore.table c.args.store.now).level c.in-Child.child)) c.in_ok-turn-in-Child.turn =
    subst (λ (u : Table). PassesTo c.as_slice-in-Child.result.now (way_limit (u.level c.in-Child.child)) c.in_ok-turn-in-Child.turn) c.in_ok-stretch.ensures.left.table c.in_ok-turn-in-Child.ensures.passes in
    passes_weaker c.args.key.now (end_limit + way_limit ((g.S.NodeStore.table c.args.store.now).level c.in-Child.child)) (way_limit ((g.S.NodeStore.table c.args.store.now).level c.args.id)) c.in_ok-turn-in-Child-2.turn
    (level_more ((g.S.NodeStore.table c.args.store.now).level c.in-Child.child) ((g.S.NodeStore.table c.args.store.now).level c.args.id) lower.lower)
    (c.in_ok-turn-in-Child-2.ensures.passes (way_limit ((g.S.NodeStore.table c.args.store.now).level c.in-Child.child))
    (subst (λ (k : List ℕ). PassesTo k (way_limit ((g.S.NodeStore.table c.args.store.now).level c.in-Child.child)) c.in_ok-turn-in-Child.turn) asked passes))

pub returns-in_ok-turn-in-Child-2-clause-visits : goal.returns-in_ok-turn-in-Child-2-clause-visits
returns-in_ok-turn-in-Child-2-clause-visits g t c =
    let lower : IsLower (g.S.NodeStore.table c.args.store.now) ((g.S.NodeStore.table c.args.store.now).level c.args.id) c.in-Child.child =
    subst (λ (s : Stretch). AsksLower (g.S.NodeStore.table c.args.store.now) ((g.S.NodeStore.table c.args.store.now).level c.args.id) s) c.in-Child.is c.in_ok-stretch.ensures.lower in
    visits_then (g.S.NodeStore.visit_count c.args.store.now) (g.S.NodeStore.visit_count c.stretch_at.new.store) (g.S.NodeStore.visit_count c.turn_at.new.store) ((g.S.NodeStore.table c.stretch_at.new.store).level c.in-Child.child) ((g.S.NodeStore.table c.args.store.now).level c.args.id)
    c.in_ok-stretch.ensures.visits (subst (λ (u : Table). u.level c.in-Child.child < (g.S.NodeStore.table c.args.store.now).level c.args.id) (sym c.in_ok-stretch.ensures.left.table) lower.lower) c.in_ok-turn-in-Child.ensures.visits

pub returns-in_ok-value-in-Present-clause-way : goal.returns-in_ok-value-in-Present-clause-way
returns-in_ok-value-in-Present-clause-way g t c known sound =
    let nodes : Nodes = g.S.NodeStore.nodes c.args.store.now in
    let same : g.S.NodeStore.nodes c.stretch_at.new.store ≡ nodes = c.in_ok-stretch.ensures.left.kept known in
    let still : IsSound (g.S.NodeStore.nodes c.stretch_at.new.store) (g.S.NodeStore.table c.stretch_at.new.store) =
    subst (λ (n : Nodes). IsSound n (g.S.NodeStore.table c.stretch_at.new.store)) (sym same) (subst (λ (u : Table). IsSound nodes u) (sym c.in_ok-stretch.ensures.left.table) sound) in
    way_with_rest nodes (g.S.NodeStore.table c.args.store.now) c.args.id c.args.key.now (asked_of c.in-Present.part.base) (g.S.NodeStore.visit_count c.args.store.now) (g.S.NodeStore.visit_count c.stretch_at.new.store) (g.S.NodeStore.visit_count c.value_of.new.store) sound c.requires.kept
    (λ n there. c.in_ok-stretch.ensures.asks known n there ∙ ap (λ (s : Stretch). asked_in s c.args.key.now) c.in-Present.is) c.in_ok-stretch.ensures.visits
    (subst (λ (n : Nodes). AreVisitsOfRest n (asked_of c.in-Present.part.base) (g.S.NodeStore.visit_count c.stretch_at.new.store) (g.S.NodeStore.visit_count c.value_of.new.store)) same
    (c.in_ok-value-in-Present.ensures.way (c.in_ok-stretch.ensures.left.known known) still))

pub returns-in-Absent-clause-way : goal.returns-in-Absent-clause-way
returns-in-Absent-clause-way g t c known sound =
    way_ends (g.S.NodeStore.nodes c.args.store.now) (g.S.NodeStore.table c.args.store.now) c.args.id c.args.key.now (g.S.NodeStore.visit_count c.args.store.now) (g.S.NodeStore.visit_count c.stretch_at.new.store) sound c.requires.kept
    (λ n there. c.in_ok-stretch.ensures.asks known n there ∙ ap (λ (s : Stretch). asked_in s c.args.key.now) c.in-Absent.is) c.in_ok-stretch.ensures.visits

pub returns-in_ok-turn-in-Child-2-clause-way : goal.returns-in_ok-turn-in-Child-2-clause-way
returns-in_ok-turn-in-Child-2-clause-way g t c known sound =
    let nodes : Nodes = g.S.NodeStore.nodes c.args.store.now in
    let same : g.S.NodeStore.nodes c.stretch_at.new.store ≡ nodes = c.in_ok-stretch.ensures.left.kept known in
    let still : IsSound (g.S.NodeStore.nodes c.stretch_at.new.store) (g.S.NodeStore.table c.stretch_at.new.store) =
    subst (λ (n : Nodes). IsSound n (g.S.NodeStore.table c.stretch_at.new.store)) (sym same) (subst (λ (u : Table). IsSound nodes u) (sym c.in_ok-stretch.ensures.left.table) sound) in
    let asked : c.as_slice-in-Child.result.now ≡ c.in-Child.source ++ drop c.in-Child.lift c.args.key.now =
    c.as_slice-in-Child.ensures ∙ c.in_ok-asked-in-Child.ensures ∙ ap (λ (l : List ℕ). l ++ c.tail.result.now) c.as_slice.ensures ∙ ap (λ (l : List ℕ). c.in-Child.source ++ l) c.tail.ensures in
    way_goes_on nodes (g.S.NodeStore.table c.args.store.now) c.args.id c.in-Child.child c.args.key.now (c.in-Child.source ++ drop c.in-Child.lift c.args.key.now) (g.S.NodeStore.visit_count c.args.store.now) (g.S.NodeStore.visit_count c.stretch_at.new.store) (g.S.NodeStore.visit_count c.turn_at.new.store) sound c.requires.kept
    (λ n there. c.in_ok-stretch.ensures.asks known n there ∙ ap (λ (s : Stretch). asked_in s c.args.key.now) c.in-Child.is) c.in_ok-stretch.ensures.visits
    (subst (λ (k : List ℕ). AreVisitsOfWay nodes c.in-Child.child k (g.S.NodeStore.visit_count c.stretch_at.new.store) (g.S.NodeStore.visit_count c.turn_at.new.store)) asked
    (subst (λ (n : Nodes). AreVisitsOfWay n c.in-Child.child c.as_slice-in-Child.result.now (g.S.NodeStore.visit_count c.stretch_at.new.store) (g.S.NodeStore.visit_count c.turn_at.new.store)) same
    (c.in_ok-turn-in-Child.ensures.way (c.in_ok-stretch.ensures.left.known known) still)))

pub returns-in-Run-clause-turn : goal.returns-in-Run-clause-turn
returns-in-Run-clause-turn g t c known sound =
    let nodes : Nodes = g.S.NodeStore.nodes c.args.store.now in
    subst (λ (s : Stretch). IsStretch (at nodes) (at nodes c.args.id) c.args.key.now s) c.in-Run.is
    (node_says nodes (g.S.NodeStore.table c.args.store.now) c.args.id c.args.key.now c.in_ok-stretch.stretch sound c.requires.kept (λ i. omega (arith, c.type_inv.key i)) (c.in_ok-stretch.ensures.stretch known))

pub returns-in-Run-clause-way : goal.returns-in-Run-clause-way
returns-in-Run-clause-way g t c known sound =
    way_ends (g.S.NodeStore.nodes c.args.store.now) (g.S.NodeStore.table c.args.store.now) c.args.id c.args.key.now (g.S.NodeStore.visit_count c.args.store.now) (g.S.NodeStore.visit_count c.stretch_at.new.store) sound c.requires.kept
    (λ n there. c.in_ok-stretch.ensures.asks known n there ∙ ap (λ (s : Stretch). asked_in s c.args.key.now) c.in-Run.is) c.in_ok-stretch.ensures.visits

pub returns-in_err-stretch-clause-err_way : goal.returns-in_err-stretch-clause-err_way
returns-in_err-stretch-clause-err_way g t c known sound =
    on_err c.from_residual.result (part_here (g.S.NodeStore.nodes c.args.store.now) c.args.id c.args.key.now (g.S.NodeStore.visit_count c.args.store.now) (g.S.NodeStore.visit_count c.stretch_at.new.store) c.stretch_at.ensures.visits)

pub returns-in_err-value-in-Present-clause-err_way : goal.returns-in_err-value-in-Present-clause-err_way
returns-in_err-value-in-Present-clause-err_way g t c known sound =
    let nodes : Nodes = g.S.NodeStore.nodes c.args.store.now in
    let same : g.S.NodeStore.nodes c.stretch_at.new.store ≡ nodes = c.in_ok-stretch.ensures.left.kept known in
    let still : IsSound (g.S.NodeStore.nodes c.stretch_at.new.store) (g.S.NodeStore.table c.stretch_at.new.store) =
    subst (λ (n : Nodes). IsSound n (g.S.NodeStore.table c.stretch_at.new.store)) (sym same) (subst (λ (u : Table). IsSound nodes u) (sym c.in_ok-stretch.ensures.left.table) sound) in
    on_err c.from_residual-in_err-value-in-Present.result (part_with_rest nodes (g.S.NodeStore.table c.args.store.now) c.args.id c.args.key.now (asked_of c.in-Present.part.base) (g.S.NodeStore.visit_count c.args.store.now) (g.S.NodeStore.visit_count c.stretch_at.new.store) (g.S.NodeStore.visit_count c.value_of.new.store) sound c.requires.kept
    (λ n there. c.in_ok-stretch.ensures.asks known n there ∙ ap (λ (s : Stretch). asked_in s c.args.key.now) c.in-Present.is) c.in_ok-stretch.ensures.visits
    (subst (λ (n : Nodes). AreVisitsOfRestPart n (asked_of c.in-Present.part.base) (g.S.NodeStore.visit_count c.stretch_at.new.store) (g.S.NodeStore.visit_count c.value_of.new.store)) same
    (c.in_err-value-in-Present.ensures.err_way (c.in_ok-stretch.ensures.left.known known) still)))

pub returns-in_err-asked-in-Child-clause-err_way : goal.returns-in_err-asked-in-Child-clause-err_way
returns-in_err-asked-in-Child-clause-err_way g t c known sound =
    on_err c.from_residual-in_err-asked-in-Child.result (part_here (g.S.NodeStore.nodes c.args.store.now) c.args.id c.args.key.now (g.S.NodeStore.visit_count c.args.store.now) (g.S.NodeStore.visit_count c.stretch_at.new.store) c.in_ok-stretch.ensures.visits)

pub returns-in_err-turn-in-Child-clause-err_way : goal.returns-in_err-turn-in-Child-clause-err_way
returns-in_err-turn-in-Child-clause-err_way g t c known sound =
    let nodes : Nodes = g.S.NodeStore.nodes c.args.store.now in
    let same : g.S.NodeStore.nodes c.stretch_at.new.store ≡ nodes = c.in_ok-stretch.ensures.left.kept known in
    let still : IsSound (g.S.NodeStore.nodes c.stretch_at.new.store) (g.S.NodeStore.table c.stretch_at.new.store) =
    subst (λ (n : Nodes). IsSound n (g.S.NodeStore.table c.stretch_at.new.store)) (sym same) (subst (λ (u : Table). IsSound nodes u) (sym c.in_ok-stretch.ensures.left.table) sound) in
    let asked : c.as_slice-in-Child.result.now ≡ c.in-Child.source ++ drop c.in-Child.lift c.args.key.now =
    c.as_slice-in-Child.ensures ∙ c.in_ok-asked-in-Child.ensures ∙ ap (λ (l : List ℕ). l ++ c.tail.result.now) c.as_slice.ensures ∙ ap (λ (l : List ℕ). c.in-Child.source ++ l) c.tail.ensures in
    on_err c.from_residual-in_err-turn-in-Child.result (part_goes_on nodes (g.S.NodeStore.table c.args.store.now) c.args.id c.in-Child.child c.args.key.now (c.in-Child.source ++ drop c.in-Child.lift c.args.key.now) (g.S.NodeStore.visit_count c.args.store.now) (g.S.NodeStore.visit_count c.stretch_at.new.store) (g.S.NodeStore.visit_count c.turn_at.new.store) sound c.requires.kept
    (λ n there. c.in_ok-stretch.ensures.asks known n there ∙ ap (λ (s : Stretch). asked_in s c.args.key.now) c.in-Child.is) c.in_ok-stretch.ensures.visits
    (subst (λ (k : List ℕ). AreVisitsOfPart nodes c.in-Child.child k (g.S.NodeStore.visit_count c.stretch_at.new.store) (g.S.NodeStore.visit_count c.turn_at.new.store)) asked
    (subst (λ (n : Nodes). AreVisitsOfPart n c.in-Child.child c.as_slice-in-Child.result.now (g.S.NodeStore.visit_count c.stretch_at.new.store) (g.S.NodeStore.visit_count c.turn_at.new.store)) same
    (c.in_err-turn-in-Child.ensures.err_way (c.in_ok-stretch.ensures.left.known known) still))))

pub returns-in_err-turn-in-Child-2-clause-err_way : goal.returns-in_err-turn-in-Child-2-clause-err_way
returns-in_err-turn-in-Child-2-clause-err_way g t c known sound =
    let nodes : Nodes = g.S.NodeStore.nodes c.args.store.now in
    let same : g.S.NodeStore.nodes c.stretch_at.new.store ≡ nodes = c.in_ok-stretch.ensures.left.kept known in
    let still : IsSound (g.S.NodeStore.nodes c.stretch_at.new.store) (g.S.NodeStore.table c.stretch_at.new.store) =
    subst (λ (n : Nodes). IsSound n (g.S.NodeStore.table c.stretch_at.new.store)) (sym same) (subst (λ (u : Table). IsSound nodes u) (sym c.in_ok-stretch.ensures.left.table) sound) in
    let asked : c.as_slice-in-Child.result.now ≡ c.in-Child.source ++ drop c.in-Child.lift c.args.key.now =
    c.as_slice-in-Child.ensures ∙ c.in_ok-asked-in-Child.ensures ∙ ap (λ (l : List ℕ). l ++ c.tail.result.now) c.as_slice.ensures ∙ ap (λ (l : List ℕ). c.in-Child.source ++ l) c.tail.ensures in
    on_err c.from_residual-in_err-turn-in-Child-2.result (part_of_way nodes c.args.id c.args.key.now (g.S.NodeStore.visit_count c.args.store.now) (g.S.NodeStore.visit_count c.turn_at.new.store)
    (way_goes_on nodes (g.S.NodeStore.table c.args.store.now) c.args.id c.in-Child.child c.args.key.now (c.in-Child.source ++ drop c.in-Child.lift c.args.key.now) (g.S.NodeStore.visit_count c.args.store.now) (g.S.NodeStore.visit_count c.stretch_at.new.store) (g.S.NodeStore.visit_count c.turn_at.new.store) sound c.requires.kept
    (λ n there. c.in_ok-stretch.ensures.asks known n there ∙ ap (λ (s : Stretch). asked_in s c.args.key.now) c.in-Child.is) c.in_ok-stretch.ensures.visits
    (subst (λ (k : List ℕ). AreVisitsOfWay nodes c.in-Child.child k (g.S.NodeStore.visit_count c.stretch_at.new.store) (g.S.NodeStore.visit_count c.turn_at.new.store)) asked
    (subst (λ (n : Nodes). AreVisitsOfWay n c.in-Child.child c.as_slice-in-Child.result.now (g.S.NodeStore.visit_count c.stretch_at.new.store) (g.S.NodeStore.visit_count c.turn_at.new.store)) same
    (c.in_ok-turn-in-Child.ensures.way (c.in_ok-stretch.ensures.left.known known) still)))))
