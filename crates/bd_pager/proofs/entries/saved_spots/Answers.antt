use Rattle.std.proofs.Common.{Some, get_or, nat_eq, subst}
use Rattle.std.specs.HashMap.{Updates}
use Rattle.bd_table.specs.declared.table.TableEntry.{TableEntry}
use Rattle.bd_pager.specs.declared.place.Spot.{Spot}
use Rattle.bd_pager.proofs.EntryLemmas.{no_spots, more_spots}
use Rattle.bd_pager.proofs.entries.saved_spots.Goals as goal

pub loop-entry-init : goal.loop-entry-init
loop-entry-init c = no_spots c.new-spots.result c.args.entries.now c.new-spots.ensures.empty

pub loop-entry-preserved : goal.loop-entry-preserved
loop-entry-preserved c =
    let entries = c.args.entries.now in
    let i = c.loop-entry.entry-index in
    let d : TableEntry = record { id = 0; refs = 0; slot = 0; level = 0 } in
    more_spots c.loop-entry.spots c.insert.new.self entries i d c.loop-entry-test.true c.requires
    (subst (λ (s : Spot). Updates nat_eq c.loop-entry.spots c.insert.new.self (get_or entries i d).id (Some s)) c.saved_spot.ensures c.in_ok-insert.ensures.updates)
    c.loop-entry.invariant
