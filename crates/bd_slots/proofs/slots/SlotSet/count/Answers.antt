use Rattle.std.proofs.Common.{◌∙◌, sym, ap, length}
use Rattle.bd_slots.proofs.FlagLemmas.{length-flags}
use Rattle.bd_slots.proofs.slots.SlotSet.count.Goals as goal

pub returns : goal.returns
returns c =
    let s = c.self.inside in
    sym (length-flags s.words.items s.count) ∙ ap length c.self.view_is
