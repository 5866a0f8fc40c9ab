use Rattle.std.proofs.Common.{arith}
use Rattle.std.specs.Option.{option_copied}
use Rattle.bd_recall.proofs.Keeping.{put_after}
use Rattle.bd_recall.proofs.Sizing.{put_bytes}
use Rattle.bd_recall.proofs.recalled.Recalled.put.Goals as goal

pub size_before-requires : goal.size_before-requires
size_before-requires c =
    let old = c.make_room.new.self in
    let put = put_bytes old.found.keys c.replace.new.self.keys c.in_ok-finding.finding c.args.key.now (option_copied c.args.value) c.in_ok-before.before
    c.in_ok-finding.ensures c.in_ok-before.ensures.old c.in_ok-before.ensures.len c.in_ok-before.ensures.keys in
    omega (arith, old.counted, put, c.size_of-size.ensures, c.make_room.ensures.size)

pub overflow_sub-self : goal.overflow_sub-self
overflow_sub-self c =
    let old = c.make_room.new.self in
    let put = put_bytes old.found.keys c.replace.new.self.keys c.in_ok-finding.finding c.args.key.now (option_copied c.args.value) c.in_ok-before.before
    c.in_ok-finding.ensures c.in_ok-before.ensures.old c.in_ok-before.ensures.len c.in_ok-before.ensures.keys in
    omega (arith, old.counted, put, c.size_of-size.ensures, c.size_before.ensures)

pub invariant_of-self-2 : goal.invariant_of-self-2
invariant_of-self-2 c =
    let old = c.make_room.new.self in
    let put = put_bytes old.found.keys c.replace.new.self.keys c.in_ok-finding.finding c.args.key.now (option_copied c.args.value) c.in_ok-before.before
    c.in_ok-finding.ensures c.in_ok-before.ensures.old c.in_ok-before.ensures.len c.in_ok-before.ensures.keys in
    record {
      counted = omega (arith, old.counted, put, c.size_of-size.ensures, c.size_before.ensures);
      small = omega (arith, c.make_room.ensures.size);
    }

pub returns-clause-stored : goal.returns-clause-stored
returns-clause-stored c =
    put_after c.args.self.now.found.keys c.make_room.new.self.found.keys c.replace.new.self.keys c.in_ok-finding.finding c.args.key.now (option_copied c.args.value)
    c.in_ok-finding.ensures c.make_room.ensures.fewer c.in_ok-before.ensures.keys
