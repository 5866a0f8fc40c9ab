use Rattle.std.proofs.Common.{ℕ, ◌<◌, ◌≤◌, Option, length, sym, subst, arith}
use Rattle.bd_node.specs.Stems.{IsNewestFrom}
use Rattle.bd_node.proofs.ByStem.{newest_step, newest_end}
use Rattle.bd_node.proofs.stems.newest.Goals as goal

pub loop-at-preserved : goal.loop-at-preserved
loop-at-preserved c =
    let less : c.passed-at.result < c.loop-at.at = c.passed-at.ensures.less in
    let inside : c.loop-at.at ≤ length c.args.stems.now = c.loop-at.invariant.within in
    record {
      within = omega arith;
      found = subst (λ (o : Option ℕ). IsNewestFrom c.args.items.now c.args.stems.now c.passed-at.result c.args.from c.args.key.now o) (sym c.newer-found.ensures)
          (newest_step c.args.items.now c.args.stems.now c.args.key.now c.args.from c.loop-at.at c.loop-at.found c.requires c.loop-at-test.true c.loop-at.invariant.within c.passed-at.result c.passed-at.ensures c.loop-at.invariant.found);
    }

pub returns : goal.returns
returns c = newest_end c.args.items.now c.args.stems.now c.args.key.now c.args.from c.loop-at.at c.loop-at.found c.requires c.loop-at-test.false c.loop-at.invariant.found
