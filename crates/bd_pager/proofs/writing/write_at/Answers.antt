use Rattle.std.proofs.Common.{false, refl, sym, subst}
use Rattle.std.specs.BTreeSet.{Updates}
use Rattle.std.specs.Ordering.{nat_cmp}
use Rattle.std.proofs.lemmas.Bool.{eq-eqb}
use Rattle.bd_pager.specs.declared.usage.Usage.{Usage}
use Rattle.bd_pager.specs.Counting.{IsTallied}
use Rattle.bd_pager.specs.Moving.{IsOfNode, IsOfSpot}
use Rattle.bd_pager.specs.Places.{spots_in}
use Rattle.bd_pager.proofs.CountingLemmas.{removed_listed}
use Rattle.bd_pager.proofs.MovingLemmas.{moves_then, only_wider, device_moves, cached_kept, has_own_now, reserved_moves, reserved_unused, reserved_tallied, reserved_placed, reserved_cached, own_writable, own_block, own_wider, own_apart, own_there, settled_gone, settled_block, settled_moves, settled_placed, settled_cached, settled_tallied}
use Rattle.bd_pager.proofs.TestedLemmas.{reserved_tested, settled_tested}
use Rattle.bd_pager.proofs.writing.write_at.Goals as goal

pub write_spot-requires-clause-tails : goal.write_spot-requires-clause-tails
write_spot-requires-clause-tails g c = c.doubt.ensures.known (g.D.Device.contents c.args.reader.now.dev) c.requires.reading.tails

pub write_spot-requires-clause-place : goal.write_spot-requires-clause-place
write_spot-requires-clause-place g c =
    let u = c.args.usage.now in
    let mid = spots_in c.reserve.new.spots in
    let own = has_own_now c.args.id (spots_in c.args.reader.now.spots) u.free mid c.reserve.new.free c.reserve.ensures c.requires.memory in
    let unused = reserved_unused u.spare u.free c.args.id (spots_in c.args.reader.now.spots) mid c.reserve.new.free c.reserve.ensures c.requires.unused in
    own_writable u.spare c.reserve.new.free mid c.args.id own unused _ c.requires.size
    (reserved_placed c.args.id (spots_in c.args.reader.now.spots) u.free mid c.reserve.new.free c.reserve.ensures c.requires.memory g.D.Device u.spare c.args.reader.now.dev c.requires.reading.placed)

pub returns-in_err-write_spot-clause-moves : goal.returns-in_err-write_spot-clause-moves
returns-in_err-write_spot-clause-moves g c =
    let D = g.D.Device in
    let u = c.args.usage.now in
    let d = c.args.reader.now.dev in
    let e = c.write_spot.new.dev in
    let spots = spots_in c.args.reader.now.spots in
    let mid = spots_in c.reserve.new.spots in
    let own = has_own_now c.args.id spots u.free mid c.reserve.new.free c.reserve.ensures c.requires.memory in
    let unused = reserved_unused u.spare u.free c.args.id spots mid c.reserve.new.free c.reserve.ensures c.requires.unused in
    let written = c.write_spot.ensures in
    moves_then D u.spare c.args.root d d e spots mid mid (g.met.D.Device.since_earlier d)
    (reserved_moves D u.spare c.args.root c.args.id d spots u.free mid c.reserve.new.free c.reserve.ensures)
    (device_moves D u.spare c.args.root d e mid _ (own_wider u.spare c.reserve.new.free mid c.args.id own unused) (own_apart u.spare c.reserve.new.free mid c.args.id own unused) written.stays written.elsewhere written.time)

pub returns-in_err-write_spot-clause-reading : goal.returns-in_err-write_spot-clause-reading
returns-in_err-write_spot-clause-reading g c =
    let D = g.D.Device in
    let u = c.args.usage.now in
    let r = c.args.reader.now in
    let spots = spots_in r.spots in
    let mid = spots_in c.reserve.new.spots in
    let own = has_own_now c.args.id spots u.free mid c.reserve.new.free c.reserve.ensures c.requires.memory in
    let unused = reserved_unused u.spare u.free c.args.id spots mid c.reserve.new.free c.reserve.ensures c.requires.unused in
    record {
      placed = reserved_placed c.args.id spots u.free mid c.reserve.new.free c.reserve.ensures c.requires.memory D u.spare r.dev c.requires.reading.placed;
      cached = cached_kept _ (D.contents r.dev) (D.contents c.write_spot.new.dev) r.is_lent mid r.cache c.write_spot.ensures.elsewhere (own_apart u.spare c.reserve.new.free mid c.args.id own unused)
          (reserved_cached c.args.id spots u.free mid c.reserve.new.free c.reserve.ensures c.requires.memory (D.contents r.dev) r.is_lent r.cache c.requires.reading.cached);
      tested = reserved_tested c.args.id spots u.free mid c.reserve.new.free c.reserve.ensures r.cache r.tested c.requires.reading.tested;
      tails = λ _. c.write_spot.ensures.tails;
    }

pub returns-in_err-write_spot-clause-tallied : goal.returns-in_err-write_spot-clause-tallied
returns-in_err-write_spot-clause-tallied g c = λ next low tallied.
    reserved_tallied next c.args.usage.now c.args.id (spots_in c.args.reader.now.spots) (spots_in c.reserve.new.spots) c.reserve.new.free c.reserve.ensures low tallied

pub returns-clause-moves : goal.returns-clause-moves
returns-clause-moves g c =
    let D = g.D.Device in
    let u = c.args.usage.now in
    let d = c.args.reader.now.dev in
    let e = c.write_spot.new.dev in
    let spots = spots_in c.args.reader.now.spots in
    let mid = spots_in c.reserve.new.spots in
    let last = spots_in c.settle.new.spots in
    let own = has_own_now c.args.id spots u.free mid c.reserve.new.free c.reserve.ensures c.requires.memory in
    let unused = reserved_unused u.spare u.free c.args.id spots mid c.reserve.new.free c.reserve.ensures c.requires.unused in
    let written = c.in_ok-write_spot.ensures in
    moves_then D u.spare c.args.root d e e spots mid last (g.met.D.Device.since_earlier e)
    (moves_then D u.spare c.args.root d d e spots mid mid (g.met.D.Device.since_earlier d)
    (reserved_moves D u.spare c.args.root c.args.id d spots u.free mid c.reserve.new.free c.reserve.ensures)
    (device_moves D u.spare c.args.root d e mid _ (own_wider u.spare c.reserve.new.free mid c.args.id own unused) (own_apart u.spare c.reserve.new.free mid c.args.id own unused) written.stays written.elsewhere written.time))
    (settled_moves D u.spare c.reserve.new.free c.args.root c.args.id e mid last own unused _ c.settle.ensures.moved (λ same. eq-eqb c.args.id c.args.root (sym same))
    (own_there u.spare c.reserve.new.free mid c.args.id own unused c.images_are_decoded.ensures.found (D.contents e) written.held))

pub returns-clause-reading : goal.returns-clause-reading
returns-clause-reading g c =
    let D = g.D.Device in
    let u = c.args.usage.now in
    let r = c.args.reader.now in
    let spots = spots_in r.spots in
    let mid = spots_in c.reserve.new.spots in
    let last = spots_in c.settle.new.spots in
    let placed = reserved_placed c.args.id spots u.free mid c.reserve.new.free c.reserve.ensures c.requires.memory D u.spare r.dev c.requires.reading.placed in
    let own = has_own_now c.args.id spots u.free mid c.reserve.new.free c.reserve.ensures c.requires.memory in
    let unused = reserved_unused u.spare u.free c.args.id spots mid c.reserve.new.free c.reserve.ensures c.requires.unused in
    record {
      placed = settled_placed c.args.id _ mid last c.settle.ensures.moved placed;
      cached = settled_cached c.args.id _ mid last c.settle.ensures.moved (D.contents c.write_spot.new.dev) r.is_lent r.cache c.settle.new.cache c.settle.ensures.cached placed c.in_ok-write_spot.ensures.held
          (cached_kept _ (D.contents r.dev) (D.contents c.write_spot.new.dev) r.is_lent mid r.cache c.in_ok-write_spot.ensures.elsewhere (own_apart u.spare c.reserve.new.free mid c.args.id own unused)
          (reserved_cached c.args.id spots u.free mid c.reserve.new.free c.reserve.ensures c.requires.memory (D.contents r.dev) r.is_lent r.cache c.requires.reading.cached));
      tested = settled_tested c.args.id _ mid last c.settle.ensures.moved r.cache c.settle.new.cache r.tested c.settle.ensures.cached
          (reserved_tested c.args.id spots u.free mid c.reserve.new.free c.reserve.ensures r.cache r.tested c.requires.reading.tested);
      tails = λ _. c.write_spot.ensures.tails;
    }

pub returns-clause-tallied : goal.returns-clause-tallied
returns-clause-tallied g c = λ next low tallied.
    let D = g.D.Device in
    let u = c.args.usage.now in
    let v : Usage = record u { free = c.reserve.new.free } in
    let spots = spots_in c.args.reader.now.spots in
    let mid = spots_in c.reserve.new.spots in
    let last = spots_in c.settle.new.spots in
    let own = has_own_now c.args.id spots u.free mid c.reserve.new.free c.reserve.ensures c.requires.memory in
    let unused = reserved_unused u.spare u.free c.args.id spots mid c.reserve.new.free c.reserve.ensures c.requires.unused in
    subst (λ (x : Usage). IsTallied next last (record x { listed = c.remove.new.self })) (sym c.recount.ensures)
    (settled_tallied D u.spare c.reserve.new.free c.args.root c.args.id c.args.reader.now.dev mid last own unused _ c.settle.ensures.moved next v c.remove.new.self refl refl low (removed_listed u.listed c.remove.new.self c.args.id (subst (λ (x : Usage). Updates nat_cmp x.listed c.remove.new.self c.args.id false) c.recount.ensures c.remove.ensures.updates))
    (reserved_tallied next u c.args.id spots mid c.reserve.new.free c.reserve.ensures low tallied))

pub returns-in_err-write_spot-clause-only : goal.returns-in_err-write_spot-clause-only
returns-in_err-write_spot-clause-only g c =
    let u = c.args.usage.now in
    let mid = spots_in c.reserve.new.spots in
    let own = has_own_now c.args.id (spots_in c.args.reader.now.spots) u.free mid c.reserve.new.free c.reserve.ensures c.requires.memory in
    let unused = reserved_unused u.spare u.free c.args.id (spots_in c.args.reader.now.spots) mid c.reserve.new.free c.reserve.ensures c.requires.unused in
    let written = c.write_spot.ensures in
    only_wider g.D.Device (IsOfSpot (mid c.args.id)) (IsOfNode mid c.args.id) c.args.reader.now.dev c.write_spot.new.dev (own_block u.spare c.reserve.new.free mid c.args.id own unused) (record { elsewhere = written.elsewhere; time = written.time })

pub returns-clause-only : goal.returns-clause-only
returns-clause-only g c =
    let u = c.args.usage.now in
    let e = c.write_spot.new.dev in
    let mid = spots_in c.reserve.new.spots in
    let last = spots_in c.settle.new.spots in
    let own = has_own_now c.args.id (spots_in c.args.reader.now.spots) u.free mid c.reserve.new.free c.reserve.ensures c.requires.memory in
    let unused = reserved_unused u.spare u.free c.args.id (spots_in c.args.reader.now.spots) mid c.reserve.new.free c.reserve.ensures c.requires.unused in
    let written = c.write_spot.ensures in
    only_wider g.D.Device (IsOfSpot (mid c.args.id)) (IsOfNode last c.args.id) c.args.reader.now.dev e (settled_block g.D.Device u.spare c.reserve.new.free c.args.root c.args.id e mid last own unused _ c.settle.ensures.moved)
    (record { elsewhere = written.elsewhere; time = written.time })

pub returns-clause-gone : goal.returns-clause-gone
returns-clause-gone g c =
    let u = c.args.usage.now in
    let mid = spots_in c.reserve.new.spots in
    let own = has_own_now c.args.id (spots_in c.args.reader.now.spots) u.free mid c.reserve.new.free c.reserve.ensures c.requires.memory in
    let unused = reserved_unused u.spare u.free c.args.id (spots_in c.args.reader.now.spots) mid c.reserve.new.free c.reserve.ensures c.requires.unused in
    settled_gone g.D.Device u.spare c.reserve.new.free c.args.root c.args.id c.write_spot.new.dev mid (spots_in c.settle.new.spots) own unused _ c.settle.ensures.moved
