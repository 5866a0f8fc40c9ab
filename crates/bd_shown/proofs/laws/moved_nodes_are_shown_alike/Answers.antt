use Rattle.bd_shown.proofs.Alike.{read_shown, spill_shown}
use Rattle.bd_shown.proofs.laws.moved_nodes_are_shown_alike.Goals as goal

pub returns-clause-reads : goal.returns-clause-reads
returns-clause-reads g c = λ old new walk version epoch place waiting r. read_shown g.D.Device old new walk version epoch place waiting r

pub returns-clause-spills : goal.returns-clause-spills
returns-clause-spills g c = λ old new walk version epoch place waiting known r.
    let h = c.spills_change_nothing.ensures in
    spill_shown g.D.Device old new walk version epoch place waiting (h.table old new r) (h.nodes old new r known) r
