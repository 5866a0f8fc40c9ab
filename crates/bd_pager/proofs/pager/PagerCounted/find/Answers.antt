use Rattle.std.proofs.Common.{◌≤◌, sym, subst}
use Rattle.bd_pager.specs.Places.{spots_in, refs_in}
use Rattle.bd_pager.specs.Pagers.{Paged, spots_of}
use Rattle.bd_pager.proofs.PagerLemmas.{kept_there, reader_paged}
use Rattle.bd_pager.proofs.pager.PagerCounted.find.Goals as goal

pub find-requires-clause-there : goal.find-requires-clause-there
find-requires-clause-there g c =
    kept_there (spots_in c.self.inside.reader.spots) c.args.id
    (subst (λ (p : Paged g.row.D.Denot). 1 ≤ refs_in (spots_of p c.args.id)) (sym c.self.view_is) c.requires)

pub invariant_of-self : goal.invariant_of-self
invariant_of-self g c =
    let i = c.self.inside in
    reader_paged (g.D.Device.contents i.reader.dev) (g.D.Device.contents c.find.new.self.dev) i.reader c.find.new.self i.saved i.at.items i.usage i.root i.size i.next i.visits _ i.written c.in-Err.ensures.spots c.in-Err.ensures.reading c.self.invariant

pub invariant_of-self-2 : goal.invariant_of-self-2
invariant_of-self-2 g c =
    let i = c.self.inside in
    reader_paged (g.D.Device.contents i.reader.dev) (g.D.Device.contents c.find.new.self.dev) i.reader c.find.new.self i.saved i.at.items i.usage i.root i.size i.next i.visits _ i.written c.in-Ok.ensures.spots c.in-Ok.ensures.reading c.self.invariant
