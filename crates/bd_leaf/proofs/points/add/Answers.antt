use Rattle.std.proofs.Common.{sym, ◌∙◌}
use Rattle.bd_message.specs.declared.message.Message.TheVariants.{Cut}
use Rattle.bd_message.proofs.Finds.{on_ok}
use Rattle.bd_leaf.proofs.Resolves.{with_point, cut_added}
use Rattle.bd_leaf.proofs.points.add.Goals as goal

pub returns-then-is_point : goal.returns-then-is_point
returns-then-is_point c =
    λ list h. with_point c.args.entries.now list c.args.points.now.items c.push.new.self.items _ h (record { message = c.requires.message; point = sym c.is_point.ensures ∙ c.if-is_point.true }) c.in_ok-push.ensures.items

pub returns : goal.returns
returns c =
    on_ok c.drop_entries.result
    (λ new_is list h. cut_added c.args.entries.now c.in_ok-gone.gone.now list c.args.points.now.items c.drop_points.new.points.items c.drop_entries.new.points.items c.args.message.now c.as_slice.result.now c.as_slice-2.result.now (c.in-Cut.is ∙ (λ i. Cut (sym c.as_slice.ensures i) (sym c.as_slice-2.ensures i))) c.requires.entries c.in_ok-gone.ensures c.drop_points.ensures new_is h)
    c.drop_entries.ensures
