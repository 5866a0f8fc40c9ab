use Rattle.std.proofs.Common.{ℕ, ◌+◌, ◌<◌, length, sym, subst, ◌∙◌, arith, Option}
use Rattle.bd_node.specs.Index.{IsNearest}
use Rattle.bd_node.proofs.Asking.{nearest_within, nearer_step, further_step, nearest_end}
use Rattle.bd_node.proofs.scans.next_point.Goals as goal
use Rattle.bd_node.proofs.scans.next_point.Goals.{then-is_nearer, else-is_nearer}

pub is_nearer-requires-clause-found : goal.is_nearer-requires-clause-found
is_nearer-requires-clause-found c =
    nearest_within c.args.items.now c.args.from c.loop-place.place c.args.key.now c.loop-place.found (let l : c.loop-place.place < length c.args.items.now = c.loop-place-test.true in omega arith) c.loop-place.invariant

pub loop-place-preserved : goal.loop-place-preserved
loop-place-preserved c =
    elim c.if-is_nearer.branch [
      | then-is_nearer w ↦ subst (λ (o : Option ℕ). IsNearest c.args.items.now c.args.from (c.loop-place.place + 1) c.args.key.now o) (sym w.found-is)
          (nearer_step c.args.items.now c.args.from c.loop-place.place c.args.key.now c.loop-place.found c.loop-place.auto.place c.loop-place.invariant (sym c.is_nearer.ensures ∙ w.if-is_nearer.true))
      | else-is_nearer w ↦ subst (λ (o : Option ℕ). IsNearest c.args.items.now c.args.from (c.loop-place.place + 1) c.args.key.now o) (sym w.found-is)
          (further_step c.args.items.now c.args.from c.loop-place.place c.args.key.now c.loop-place.found c.loop-place.invariant (sym c.is_nearer.ensures ∙ w.if-is_nearer.false))
    ]

pub returns : goal.returns
returns c = nearest_end c.args.items.now c.args.from c.loop-place.place c.args.key.now c.loop-place.found c.loop-place-test.false c.loop-place.invariant
