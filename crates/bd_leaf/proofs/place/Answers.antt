use Rattle.std.proofs.Common.{ap, sym, ◌∙◌, subst, refl, arith, ◌+◌, ◌-◌, ◌/◌, ◌<◌, ◌≤◌, length, ℕ, List}
use Rattle.std.proofs.lemmas.Option.{slice_get_read}
use Rattle.bd_keys.specs.Keys.{key_cmp}
use Rattle.bd_node.specs.declared.node.Entry.{Entry}
use Rattle.bd_node.proofs.Halving.{step_few}
use Rattle.bd_leaf.proofs.Finds.{went_up, went_down, tied, found_at, nothing_at, IsHalving}
use Rattle.bd_leaf.proofs.place.Goals as goal

pub loop-low-preserved-in-Less : goal.loop-low-preserved-in-Less
loop-low-preserved-in-Less g c =
    let inv : IsHalving c.args.entries.now c.args.key.now c.loop-low.low c.loop-low.high c.args.steps.now c.loop-low.steps = c.loop-low.invariant in
    let some : c.loop-low.low < c.loop-low.high = c.loop-low-test.true in
    let there = slice_get_read c.args.entries.now (length c.args.entries.now) (c.loop-low.low + (c.loop-low.high - c.loop-low.low) / 2) c.index-entries-middle.result refl (let e : c.loop-low.high ≤ length c.args.entries.now = inv.end in omega arith) c.index-entries-middle.is in
    subst (λ (n : ℕ). IsHalving c.args.entries.now c.args.key.now (c.loop-low.low + (c.loop-low.high - c.loop-low.low) / 2 + 1) c.loop-low.high c.args.steps.now n) (sym c.compare.ensures.step)
    (went_up c.args.entries.now c.args.key.now c.loop-low.low c.loop-low.high (c.loop-low.low + (c.loop-low.high - c.loop-low.low) / 2) c.args.steps.now c.loop-low.steps c.index-entries-middle.result c.requires inv some refl there
    (ap (λ (e : Entry). key_cmp e.key c.args.key.now) c.index-entries-middle.is ∙ ap (λ (l : List ℕ). key_cmp l c.args.key.now) (sym c.as_slice.ensures) ∙ sym c.in-Less.ensures.value))

pub loop-low-preserved : goal.loop-low-preserved
loop-low-preserved g c =
    let inv : IsHalving c.args.entries.now c.args.key.now c.loop-low.low c.loop-low.high c.args.steps.now c.loop-low.steps = c.loop-low.invariant in
    let some : c.loop-low.low < c.loop-low.high = c.loop-low-test.true in
    let there = slice_get_read c.args.entries.now (length c.args.entries.now) (c.loop-low.low + (c.loop-low.high - c.loop-low.low) / 2) c.index-entries-middle.result refl (let e : c.loop-low.high ≤ length c.args.entries.now = inv.end in omega arith) c.index-entries-middle.is in
    subst (λ (n : ℕ). IsHalving c.args.entries.now c.args.key.now c.loop-low.low (c.loop-low.low + (c.loop-low.high - c.loop-low.low) / 2) c.args.steps.now n) (sym c.compare.ensures.step)
    (went_down c.args.entries.now c.args.key.now c.loop-low.low c.loop-low.high (c.loop-low.low + (c.loop-low.high - c.loop-low.low) / 2) c.args.steps.now c.loop-low.steps c.index-entries-middle.result c.requires inv some refl there
    (ap (λ (e : Entry). key_cmp e.key c.args.key.now) c.index-entries-middle.is ∙ ap (λ (l : List ℕ). key_cmp l c.args.key.now) (sym c.as_slice.ensures) ∙ sym c.in-Greater.ensures.value))

pub returns-in-Equal-clause-place : goal.returns-in-Equal-clause-place
returns-in-Equal-clause-place g c =
    let inv : IsHalving c.args.entries.now c.args.key.now c.loop-low.low c.loop-low.high c.args.steps.now c.loop-low.steps = c.loop-low.invariant in
    let some : c.loop-low.low < c.loop-low.high = c.loop-low-test.true in
    let there = slice_get_read c.args.entries.now (length c.args.entries.now) (c.loop-low.low + (c.loop-low.high - c.loop-low.low) / 2) c.index-entries-middle.result refl (let e : c.loop-low.high ≤ length c.args.entries.now = inv.end in omega arith) c.index-entries-middle.is in
    let same = tied c.index-entries-middle.result.key c.args.key.now (ap (λ (e : Entry). key_cmp e.key c.args.key.now) c.index-entries-middle.is ∙ ap (λ (l : List ℕ). key_cmp l c.args.key.now) (sym c.as_slice.ensures) ∙ sym c.in-Equal.ensures.value) in
    (c.index-entries-middle.result, there, same, found_at c.args.entries.now (c.loop-low.low + (c.loop-low.high - c.loop-low.low) / 2) c.index-entries-middle.result c.args.key.now c.requires there same)

pub returns-in-Equal-clause-cost : goal.returns-in-Equal-clause-cost
returns-in-Equal-clause-cost g c =
    let inv : IsHalving c.args.entries.now c.args.key.now c.loop-low.low c.loop-low.high c.args.steps.now c.loop-low.steps = c.loop-low.invariant in
    let some : c.loop-low.low < c.loop-low.high = c.loop-low-test.true in
    rw c.compare.ensures.step (step_few (length c.args.entries.now) c.args.steps.now c.loop-low.steps (c.loop-low.high - c.loop-low.low) inv.later inv.left (omega arith))

pub returns-clause-place : goal.returns-clause-place
returns-clause-place g c =
    let inv : IsHalving c.args.entries.now c.args.key.now c.loop-low.low c.loop-low.high c.args.steps.now c.loop-low.steps = c.loop-low.invariant in
    let none : c.loop-low.high ≤ c.loop-low.low = c.loop-low-test.false in
    let within : c.loop-low.low ≤ c.loop-low.high = inv.within in
    let end : c.loop-low.high ≤ length c.args.entries.now = inv.end in
    (omega arith, inv.below, (λ i e high there. inv.over i e (omega arith) there), nothing_at c.args.entries.now c.loop-low.low c.args.key.now inv.below (λ i e high there. inv.over i e (omega arith) there))
