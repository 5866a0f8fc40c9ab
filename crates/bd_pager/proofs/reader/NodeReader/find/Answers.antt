use Rattle.std.proofs.Common.{subst}
use Rattle.bd_pager.specs.declared.reader.Found.{Found}
use Rattle.bd_pager.specs.Places.{spots_in}
use Rattle.bd_pager.specs.Readers.{IsFoundAs}
use Rattle.bd_pager.proofs.ReaderLemmas.{copy_of_level, loaded_is_there}
use Rattle.bd_pager.proofs.TestedLemmas.{copy_at_hand}
use Rattle.bd_pager.proofs.reader.NodeReader.find.Goals as goal

pub returns-in-Copy-clause-node : goal.returns-in-Copy-clause-node
returns-in-Copy-clause-node g c =
    let spots = spots_in c.args.self.now.spots in
    copy_of_level spots c.args.id c.in-Copy.node.value c.requires.reading.placed
    (subst (λ (f : Found). IsFoundAs f (spots c.args.id)) c.in-Copy.is c.in-Ok.ensures)

pub returns-in-InSlot-clause-contents : goal.returns-in-InSlot-clause-contents
returns-in-InSlot-clause-contents g c = λ known.
    let spots = spots_in c.args.self.now.spots in
    loaded_is_there (λ node. node.value) (g.D.Device.contents c.args.self.now.dev) c.in-InSlot.slot c.in-InSlot.level (spots c.args.id) c.load.result c.images_are_decoded.ensures.found
    (subst (λ (f : Found). IsFoundAs f (spots c.args.id)) c.in-InSlot.is c.in-Ok.ensures) c.load.ensures.held known

pub returns-in-Copy-clause-at_hand : goal.returns-in-Copy-clause-at_hand
returns-in-Copy-clause-at_hand g c =
    let r = c.args.self.now in
    let spots = spots_in r.spots in
    copy_at_hand (g.D.Device.contents r.dev) r.is_lent spots r.cache r.tested c.args.id c.in-Copy.node.value c.requires.reading.cached c.requires.reading.tested
    (subst (λ (f : Found). IsFoundAs f (spots c.args.id)) c.in-Copy.is c.in-Ok.ensures)
