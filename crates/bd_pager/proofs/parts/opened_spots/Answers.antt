use Rattle.std.proofs.Common.{List, subst}
use Rattle.bd_table.specs.declared.table.TableEntry.{TableEntry}
use Rattle.bd_pager.specs.Places.{spots_in}
use Rattle.bd_pager.specs.Entries.{AreSavedSpots}
use Rattle.bd_pager.proofs.OpenedLemmas.{root_put}
use Rattle.bd_pager.proofs.parts.opened_spots.Goals as goal

pub returns : goal.returns
returns c =
    root_put c.in_ok-spots.spots c.insert.new.self c.args.saved.now c.args.entry c.args.node c.requires.root c.requires.among
    (subst (λ (es : List TableEntry). AreSavedSpots es (spots_in c.in_ok-spots.spots)) c.as_slice.ensures c.in_ok-spots.ensures)
    c.in_ok-insert.ensures.updates
