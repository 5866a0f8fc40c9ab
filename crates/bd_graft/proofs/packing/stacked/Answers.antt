use Rattle.std.proofs.Common.{◌+◌, arith, rules}
use Rattle.bd_limits.specs.Limits.{level_limit}
use Rattle.bd_graft.proofs.Grafts.{end_lower}
use Rattle.bd_graft.proofs.Stacking.{none_so_far, so_far_low, so_far_room, next_layers, one_so_far, all_before, all_with}
use Rattle.bd_graft.proofs.packing.stacked.Goals as goal

pub begun-stack-requires : goal.begun-stack-requires
begun-stack-requires g c = end_lower (g.S.NodeStore.table c.args.store.now) (level_limit + 1) c.args.layers.items c.args.end c.requires.layers

pub loop-layer-init : goal.loop-layer-init
loop-layer-init g c =
    none_so_far (g.S.NodeStore.table c.args.store.now) c.args.end c.args.layers.items c.begun-stack.result c.requires.table c.requires.layers c.requires.short
    c.begun-stack.ensures.made c.begun-stack.ensures.under c.begun-stack.ensures.waiting c.begun-stack.ensures.size c.begun-stack.ensures.level

pub laid_on-requires-clause-each : goal.laid_on-requires-clause-each
laid_on-requires-clause-each g c =
    (next_layers (g.S.NodeStore.table c.args.store.now) c.args.end c.args.layers.items c.loop-layer.layers.items c.pop.new.self.items c.in-Some.layer c.loop-layer.stack c.requires.layers c.in-Some.ensures.items c.loop-layer.invariant).2.each

pub laid_on-requires-clause-fits : goal.laid_on-requires-clause-fits
laid_on-requires-clause-fits g c =
    (next_layers (g.S.NodeStore.table c.args.store.now) c.args.end c.args.layers.items c.loop-layer.layers.items c.pop.new.self.items c.in-Some.layer c.loop-layer.stack c.requires.layers c.in-Some.ensures.items c.loop-layer.invariant).2.fits

pub laid_on-requires-clause-level : goal.laid_on-requires-clause-level
laid_on-requires-clause-level g c = so_far_low (g.S.NodeStore.table c.args.store.now) c.args.end c.args.layers.items c.loop-layer.layers.items c.loop-layer.stack c.requires.layers c.loop-layer.invariant

pub laid_on-requires-clause-room : goal.laid_on-requires-clause-room
laid_on-requires-clause-room g c =
    omega (arith, c.requires.next, so_far_room (g.S.NodeStore.table c.args.store.now) c.args.end c.args.layers.items c.loop-layer.layers.items c.loop-layer.stack c.requires.room c.loop-layer.invariant)

pub loop-layer-preserved : goal.loop-layer-preserved
loop-layer-preserved g c =
    one_so_far (g.S.NodeStore.table c.args.store.now) c.args.end c.args.next c.args.layers.items c.loop-layer.layers.items c.pop.new.self.items c.in-Some.layer c.loop-layer.stack c.in_ok-stack.stack
    c.requires.table c.requires.next c.requires.room c.requires.layers c.in-Some.ensures.items c.loop-layer.invariant c.in_ok-stack.ensures

pub returns-clause-stack : goal.returns-clause-stack
returns-clause-stack g c = (all_before (g.S.NodeStore.table c.args.store.now) c.args.end c.args.layers.items c.loop-layer.layers.items c.loop-layer.stack (search rules) c.loop-layer.invariant).stack

pub returns-clause-low : goal.returns-clause-low
returns-clause-low g c = (all_before (g.S.NodeStore.table c.args.store.now) c.args.end c.args.layers.items c.loop-layer.layers.items c.loop-layer.stack (search rules) c.loop-layer.invariant).low

pub returns-clause-few : goal.returns-clause-few
returns-clause-few g c = (all_before (g.S.NodeStore.table c.args.store.now) c.args.end c.args.layers.items c.loop-layer.layers.items c.loop-layer.stack (search rules) c.loop-layer.invariant).few

pub returns-clause-begun : goal.returns-clause-begun
returns-clause-begun g c = (all_before (g.S.NodeStore.table c.args.store.now) c.args.end c.args.layers.items c.loop-layer.layers.items c.loop-layer.stack (search rules) c.loop-layer.invariant).begun

pub returns-clause-groups : goal.returns-clause-groups
returns-clause-groups g c = all_with (g.S.NodeStore.table c.args.store.now) c.args.end c.args.layers.items c.loop-layer.layers.items c.loop-layer.stack (search rules) c.loop-layer.invariant
