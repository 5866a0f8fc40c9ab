use Rattle.std.proofs.Common.{refl}
use Rattle.std.specs.Option.{option_copied}
use Rattle.bd_leaf.specs.Points.{messages_of}
use Rattle.bd_leaf.proofs.Merges.{step_done, points_on, rising_to_end, rising_rest}
use Rattle.bd_leaf.proofs.merging.merge_at.Goals as goal

pub copy_below-requires-clause-rising : goal.copy_below-requires-clause-rising
copy_below-requires-clause-rising c = rising_rest c.args.new.now.items c.args.rest.now c.requires.entries

pub taken-old-requires-clause-rising : goal.taken-old-requires-clause-rising
taken-old-requires-clause-rising c = rising_to_end c.args.rest.now c.in_ok-below.below (rising_rest c.args.new.now.items c.args.rest.now c.requires.entries)

pub value_after-requires : goal.value_after-requires
value_after-requires c = points_on (messages_of c.args.own.now) c.args.key.now c.requires.own

pub returns : goal.returns
returns c =
    step_done c.args.new.now.items c.args.rest.now c.copy_below.new.new.items c.push_value.new.new.items c.args.key.now (messages_of c.args.own.now) c.in_ok-below.below _ c.count.result (option_copied c.taken-old.result) c.in_ok-value.value
    c.requires.entries c.requires.key c.requires.own c.in_ok-below.ensures c.taken-old.ensures c.in_ok-value.ensures c.in_ok-push_value.ensures c.count.ensures refl
