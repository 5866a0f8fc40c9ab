use Rattle.bd_memnodes.proofs.Same.{same_whole}
use Rattle.bd_memnodes.proofs.Pushed.{push_there, push_once, push_shape, is_pushed, has_pushed, whole_pushed}
use Rattle.bd_memnodes.proofs.kept.Kept.push_down.Goals as goal

pub returns-in_err-make_room-clause-whole : goal.returns-in_err-make_room-clause-whole
returns-in_err-make_room-clause-whole c = same_whole c.args.self.now c.make_room.new.self c.make_room.ensures.same c.requires.whole

pub replace_all-requires-clause-there : goal.replace_all-requires-clause-there
replace_all-requires-clause-there c =
    push_there c.args.self.now c.args.push c.in_ok-step.step c.requires.whole c.requires.push c.requires.can c.in_ok-step.ensures
    c.make_room.new.self c.in_ok-changes.changes.items c.make_room.ensures.same c.in_ok-changes.ensures

pub replace_all-requires-clause-once : goal.replace_all-requires-clause-once
replace_all-requires-clause-once c =
    push_once c.args.self.now c.args.push c.in_ok-step.step c.requires.whole c.requires.push c.requires.can c.in_ok-step.ensures
    c.make_room.new.self c.in_ok-changes.changes.items c.make_room.ensures.same c.in_ok-changes.ensures

pub replace_all-requires-clause-shape : goal.replace_all-requires-clause-shape
replace_all-requires-clause-shape c =
    push_shape c.args.self.now c.args.push c.in_ok-step.step c.requires.whole c.requires.push c.requires.can c.in_ok-step.ensures
    c.make_room.new.self c.in_ok-changes.changes.items c.make_room.ensures.same c.in_ok-changes.ensures

pub returns-clause-pushed : goal.returns-clause-pushed
returns-clause-pushed c =
    is_pushed c.args.self.now c.args.push c.in_ok-step.step c.requires.whole c.requires.push c.requires.can c.in_ok-step.ensures
    c.make_room.new.self c.in_ok-changes.changes.items c.make_room.ensures.same c.in_ok-changes.ensures c.replace_all.new.self c.replace_all.ensures

pub returns-clause-table : goal.returns-clause-table
returns-clause-table c =
    has_pushed c.args.self.now c.args.push c.in_ok-step.step c.requires.whole c.requires.push c.requires.can c.in_ok-step.ensures
    c.make_room.new.self c.in_ok-changes.changes.items c.make_room.ensures.same c.in_ok-changes.ensures c.replace_all.new.self c.replace_all.ensures

pub returns-clause-whole : goal.returns-clause-whole
returns-clause-whole c =
    whole_pushed c.args.self.now c.args.push c.in_ok-step.step c.requires.whole c.requires.push c.requires.can c.in_ok-step.ensures
    c.make_room.new.self c.in_ok-changes.changes.items c.make_room.ensures.same c.in_ok-changes.ensures c.replace_all.new.self c.replace_all.ensures
