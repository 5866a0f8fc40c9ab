use Rattle.std.proofs.Common.{arith}
use Rattle.bd_recall.proofs.Keeping.{kept_removed}
use Rattle.bd_recall.proofs.Sizing.{taken_out}
use Rattle.bd_recall.proofs.recalled.Recalled.take_out.Goals as goal

pub size_before-requires : goal.size_before-requires
size_before-requires c =
    let old = c.args.self.now in
    let out = taken_out c.args.asked.now.0 old.found.keys c.take-removed.new.self.keys c.take-removed.result c.take-removed.ensures.key c.take-removed.ensures.keys in
    omega (arith, old.counted, old.small, out)

pub overflow_sub-self : goal.overflow_sub-self
overflow_sub-self c =
    let old = c.args.self.now in
    let out = taken_out c.args.asked.now.0 old.found.keys c.take-removed.new.self.keys c.take-removed.result c.take-removed.ensures.key c.take-removed.ensures.keys in
    omega (arith, old.counted, out, c.size_before.ensures)

pub invariant_of-self : goal.invariant_of-self
invariant_of-self c =
    let old = c.args.self.now in
    let out = taken_out c.args.asked.now.0 old.found.keys c.take-removed.new.self.keys c.take-removed.result c.take-removed.ensures.key c.take-removed.ensures.keys in
    record {
      counted = omega (arith, old.counted, out, c.size_before.ensures);
      small = omega (arith, old.small);
    }

pub returns-clause-others : goal.returns-clause-others
returns-clause-others c = kept_removed c.args.self.now.found.keys c.take-removed.new.self.keys c.args.asked.now.0 c.take-removed.ensures.keys c.take-removed.ensures.updates.1
