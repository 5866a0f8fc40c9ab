use Rattle.bd_pager.proofs.PagerLemmas.{reader_paged}
use Rattle.bd_pager.proofs.pager.Pager.root_after.Goals as goal

pub invariant_of-self : goal.invariant_of-self
invariant_of-self g c =
    let i = c.self.inside in
    reader_paged (g.D.Device.contents i.reader.dev) (g.D.Device.contents c.find.new.self.dev) i.reader c.find.new.self i.saved i.at.items i.usage i.root i.size i.next i.visits _ i.written c.in-Err.ensures.spots c.in-Err.ensures.reading c.self.invariant

pub invariant_of-self-2 : goal.invariant_of-self-2
invariant_of-self-2 g c =
    let i = c.self.inside in
    reader_paged (g.D.Device.contents i.reader.dev) (g.D.Device.contents c.find.new.self.dev) i.reader c.find.new.self i.saved i.at.items i.usage i.root i.size i.next i.visits _ i.written c.in-Ok.ensures.spots c.in-Ok.ensures.reading c.self.invariant
