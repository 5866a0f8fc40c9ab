use Rattle.std.proofs.Common.{ap, sym, ◌∙◌, subst, refl, arith, ◌+◌, ◌-◌, ◌/◌, ◌<◌, ◌≤◌, length, ℕ, List}
use Rattle.std.specs.Ordering.{is_lt}
use Rattle.std.proofs.lemmas.Option.{slice_get_read}
use Rattle.bd_keys.specs.Keys.{key_cmp}
use Rattle.bd_node.specs.declared.node.Edge.{Edge}
use Rattle.bd_node.proofs.Places.{went_up, went_down, ended, IsHalving}
use Rattle.bd_node.proofs.edge.place.Goals as goal

pub loop-high-preserved-then-is_lt : goal.loop-high-preserved-then-is_lt
loop-high-preserved-then-is_lt g c =
    let inv : IsHalving c.args.edges.now c.args.key.now c.loop-high.low c.loop-high.high c.args.steps.now c.loop-high.steps = c.loop-high.invariant in
    let some : 1 < c.loop-high.high - c.loop-high.low = c.loop-high-test.true in
    let there = slice_get_read c.args.edges.now (length c.args.edges.now) (c.loop-high.low + (c.loop-high.high - c.loop-high.low) / 2) c.index-edges-middle.result refl (let e : c.loop-high.high ≤ length c.args.edges.now = inv.end in omega arith) c.index-edges-middle.is in
    subst (λ (n : ℕ). IsHalving c.args.edges.now c.args.key.now c.loop-high.low (c.loop-high.low + (c.loop-high.high - c.loop-high.low) / 2) c.args.steps.now n) (sym c.compare.ensures.step)
    (went_down c.args.edges.now c.args.key.now c.loop-high.low c.loop-high.high (c.loop-high.low + (c.loop-high.high - c.loop-high.low) / 2) c.args.steps.now c.loop-high.steps c.index-edges-middle.result c.requires.rising inv some refl there
    (ap (λ (e : Edge). is_lt (key_cmp c.args.key.now e.pivot)) c.index-edges-middle.is ∙ ap (λ (l : List ℕ). is_lt (key_cmp c.args.key.now l)) (sym c.as_slice.ensures) ∙ ap is_lt (sym c.compare.ensures.value) ∙ sym c.is_lt.ensures ∙ c.if-is_lt.true))

pub loop-high-preserved : goal.loop-high-preserved
loop-high-preserved g c =
    let inv : IsHalving c.args.edges.now c.args.key.now c.loop-high.low c.loop-high.high c.args.steps.now c.loop-high.steps = c.loop-high.invariant in
    let some : 1 < c.loop-high.high - c.loop-high.low = c.loop-high-test.true in
    let there = slice_get_read c.args.edges.now (length c.args.edges.now) (c.loop-high.low + (c.loop-high.high - c.loop-high.low) / 2) c.index-edges-middle.result refl (let e : c.loop-high.high ≤ length c.args.edges.now = inv.end in omega arith) c.index-edges-middle.is in
    subst (λ (n : ℕ). IsHalving c.args.edges.now c.args.key.now (c.loop-high.low + (c.loop-high.high - c.loop-high.low) / 2) c.loop-high.high c.args.steps.now n) (sym c.compare.ensures.step)
    (went_up c.args.edges.now c.args.key.now c.loop-high.low c.loop-high.high (c.loop-high.low + (c.loop-high.high - c.loop-high.low) / 2) c.args.steps.now c.loop-high.steps c.index-edges-middle.result c.requires.rising inv some refl there
    (ap (λ (e : Edge). is_lt (key_cmp c.args.key.now e.pivot)) c.index-edges-middle.is ∙ ap (λ (l : List ℕ). is_lt (key_cmp c.args.key.now l)) (sym c.as_slice.ensures) ∙ ap is_lt (sym c.compare.ensures.value) ∙ sym c.is_lt.ensures ∙ c.if-is_lt.false))

pub returns-clause-edge : goal.returns-clause-edge
returns-clause-edge g c =
    ended c.args.edges.now c.args.key.now c.loop-high.low c.loop-high.high c.args.steps.now c.loop-high.steps c.loop-high.invariant (let none : c.loop-high.high - c.loop-high.low ≤ 1 = c.loop-high-test.false in omega arith)
