use Rattle.std.proofs.Common.{refl}
use Rattle.bd_memnodes.specs.declared.kept.Kept.{Kept}
use Rattle.bd_memnodes.proofs.Loops.{dropped_one}
use Rattle.bd_memnodes.proofs.kept.Kept.drop_dead.Goals as goal

pub loop-node-preserved : goal.loop-node-preserved
loop-node-preserved c =
    let kept : Kept = c.loop-node.self in
    let popped : Kept = record kept { dead = c.pop.new.self } in
    dropped_one c.args.self.now kept popped c.take_back_names.new.self c.in-Some.node c.deref.result.now c.deref.ensures refl refl
    (record { root = refl; size = refl; next = refl }) c.in-Some.ensures.items
    c.take_back_names.ensures.taken c.take_back_names.ensures.room c.take_back_names.ensures.head c.loop-node.invariant
