use Rattle.bd_pager.proofs.PagerLemmas.{reader_paged}
use Rattle.bd_pager.proofs.pager.Pager.read.Goals as goal

pub invariant_of-self : goal.invariant_of-self
invariant_of-self g c =
    let i = c.self.inside in
    reader_paged (g.D.Device.contents i.reader.dev) (g.D.Device.contents c.find.new.self.dev) i.reader c.find.new.self i.saved i.at.items i.usage i.root i.size i.next i.visits _ i.written c.find.ensures.spots c.find.ensures.reading c.self.invariant
