use Rattle.std.proofs.Common.{◌≡◌, refl, sym, subst}
use Rattle.bd_node.specs.New.{new_nodes, new_table}
use Rattle.bd_pager.specs.Places.{spots_in, told}
use Rattle.bd_pager.specs.Fresh.{assembled, IsUnsaved}
use Rattle.bd_pager.specs.Pagers.{Paged, cache_room, nodes_of, table_of, is_known}
use Rattle.bd_pager.proofs.FreshLemmas.{fresh_nodes, fresh_table, fresh_right, fresh_paged, fresh_tallied}
use Rattle.bd_pager.proofs.pager.Pager.fresh.Goals as goal

pub over-requires-clause-paged : goal.over-requires-clause-paged
over-requires-clause-paged g c =
    let h = c.in-Ok.ensures.fresh in
    fresh_paged (g.D.Device.contents c.args.dev) (assembled c.args.dev c.in-Ok.parts) c.args.slots h.spots h.root h.size h.next h.saved h.at h.usage.spare h.cached h.tails refl

pub over-requires-clause-tallied : goal.over-requires-clause-tallied
over-requires-clause-tallied g c =
    let h = c.in-Ok.ensures.fresh in
    let parts = c.in-Ok.parts in
    fresh_tallied (spots_in parts.spots) h.spots c.args.slots parts.next parts.usage h.usage h.next

pub returns-clause-nodes : goal.returns-clause-nodes
returns-clause-nodes g c =
    subst (λ (p : Paged g.row.D.Denot). nodes_of g.D.Device p ≡ new_nodes) (sym c.over.ensures)
    (fresh_nodes (spots_in c.in-Ok.parts.spots) c.in-Ok.ensures.fresh.spots (g.D.Device.contents c.args.dev))

pub returns-clause-table : goal.returns-clause-table
returns-clause-table g c =
    let h = c.in-Ok.ensures.fresh in
    let parts = c.in-Ok.parts in
    subst (λ (p : Paged g.row.D.Denot). table_of p ≡ new_table) (sym c.over.ensures)
    (fresh_table (spots_in parts.spots) h.spots parts.root parts.size parts.next parts.saved.entries parts.usage.spare h.root h.size h.next h.saved)

pub returns-clause-known : goal.returns-clause-known
returns-clause-known g c = λ known.
    subst (λ (p : Paged g.row.D.Denot). is_known g.D.Device p) (sym c.over.ensures)
    (record { contents_told = known; right = fresh_right (spots_in c.in-Ok.parts.spots) c.in-Ok.ensures.fresh.spots (told (g.D.Device.contents c.args.dev)) })

pub returns-clause-unsaved : goal.returns-clause-unsaved
returns-clause-unsaved g c =
    let h = c.in-Ok.ensures.fresh in
    subst (λ (p : Paged g.row.D.Denot). IsUnsaved c.args.slots c.args.dev p) (sym c.over.ensures)
    (record { device = refl; saved = h.saved; at = h.at; spare = h.usage.spare; visits = refl; lent = refl; written = refl })

pub returns-clause-room : goal.returns-clause-room
returns-clause-room g c =
    subst (λ (p : Paged g.row.D.Denot). cache_room p ≡ c.args.room) (sym c.over.ensures) c.in-Ok.ensures.room
