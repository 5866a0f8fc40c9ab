use Rattle.std.proofs.Common.{sym, ◌∙◌}
use Rattle.bd_message.specs.declared.message.Message.TheVariants.{Cut}
use Rattle.bd_message.proofs.Finds.{acted_put, acted_del, acted_cut}
use Rattle.bd_message.proofs.entries.act.Goals as goal

pub returns-in_ok-put-in-Put : goal.returns-in_ok-put-in-Put
returns-in_ok-put-in-Put c = acted_put c.args.message.now c.args.entries.now.items c.put.new.entries.items c.in-Put.key c.in-Put.value c.in-Put.is (rw c.in_ok-clone-in-Put.ensures.cases at c.in_ok-put-in-Put.ensures)

pub returns-in-Del : goal.returns-in-Del
returns-in-Del c = acted_del c.args.message.now c.args.entries.now.items c.remove.new.entries.items c.in-Del.key c.in-Del.is (rw c.as_slice.ensures at c.remove.ensures)

pub returns-in-Cut : goal.returns-in-Cut
returns-in-Cut c = acted_cut c.args.message.now c.args.entries.now.items c.cut.new.entries.items c.as_slice-in-Cut.result.now c.as_slice-in-Cut-2.result.now (c.in-Cut.is ∙ (λ i. Cut (sym c.as_slice-in-Cut.ensures i) (sym c.as_slice-in-Cut-2.ensures i))) c.cut.ensures
