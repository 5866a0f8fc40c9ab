use Rattle.std.proofs.Common.{◌≡◌, ◌∙◌, arith, false, sym}
use Rattle.std.specs.List.{list_any}
use Rattle.std.specs.Option.{option_copied}
use Rattle.bd_recall.proofs.Keeping.{added_after, at_key, turned}
use Rattle.bd_recall.proofs.Sizing.{added_bytes}
use Rattle.bd_recall.proofs.recalled.Recalled.add.Goals as goal

pub invariant_of-self-then-branch : goal.invariant_of-self-then-branch
invariant_of-self-then-branch c =
    let old = c.make_room.new.self in
    let absent : list_any (at_key c.in_ok-finding.finding.0) old.found.keys ≡ false = turned _ (sym c.in_ok-insert.ensures.added ∙ c.if-branch.true) in
    let put = added_bytes old.found.keys c.insert.new.self.keys c.in_ok-finding.finding c.args.key.now (option_copied c.args.value) c.in_ok-finding.ensures absent c.in_ok-insert.ensures.keys in
    record {
      counted = omega (arith, old.counted, put, c.size_of-size.ensures);
      small = omega (arith, c.make_room.ensures.size);
    }

pub returns-then-branch : goal.returns-then-branch
returns-then-branch c =
    added_after c.args.self.now.found.keys c.make_room.new.self.found.keys c.insert.new.self.keys c.in_ok-finding.finding c.args.key.now (option_copied c.args.value)
    c.in_ok-finding.ensures c.make_room.ensures.fewer c.in_ok-insert.ensures.keys
