use Rattle.std.proofs.Common.{◌≡◌, sym, ap}
use Rattle.bd_pager.specs.Places.{spots_in}
use Rattle.bd_pager.proofs.ReaderLemmas.{trusted_read}
use Rattle.bd_pager.proofs.reader.NodeReader.load.Goals as goal

pub returns-in-Some-clause-held : goal.returns-in-Some-clause-held
returns-in-Some-clause-held g c =
    let old = c.args.self.now in
    let new = c.trust.new.self in
    let n = c.in-Some.node.value in
    let stays : spots_in new.spots c.args.id ≡ spots_in old.spots c.args.id = cc c.trust.ensures.spots in
    (trusted_read (g.D.Device.contents old.dev) (g.D.Device.contents new.dev) new.is_lent (spots_in old.spots c.args.id) (spots_in new.spots c.args.id) c.args.slot c.args.level n
    (ap g.D.Device.contents c.trust.ensures.device) c.trust.ensures.trusted stays c.requires.alone (c.trust.ensures.reading.cached c.args.id n (sym c.in-Some.ensures.found))).1

pub returns-in-Some-clause-node : goal.returns-in-Some-clause-node
returns-in-Some-clause-node g c =
    let old = c.args.self.now in
    let new = c.trust.new.self in
    let n = c.in-Some.node.value in
    let stays : spots_in new.spots c.args.id ≡ spots_in old.spots c.args.id = cc c.trust.ensures.spots in
    (trusted_read (g.D.Device.contents old.dev) (g.D.Device.contents new.dev) new.is_lent (spots_in old.spots c.args.id) (spots_in new.spots c.args.id) c.args.slot c.args.level n
    (ap g.D.Device.contents c.trust.ensures.device) c.trust.ensures.trusted stays c.requires.alone (c.trust.ensures.reading.cached c.args.id n (sym c.in-Some.ensures.found))).0
