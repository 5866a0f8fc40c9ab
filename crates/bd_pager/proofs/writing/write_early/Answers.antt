use Rattle.std.proofs.Common.{Bool, true, List, subst, ◌∙◌, arith, inl, inr}
use Rattle.std.proofs.lemmas.Result.{err_from_is_err_and}
use Rattle.bd_pager.specs.Moving.{IsDue, IsOfNode, IsOfMoved, OnlyMoves}
use Rattle.bd_pager.specs.Places.{spots_in}
use Rattle.bd_pager.proofs.MovingLemmas.{moves_then, only_wider, only_then, some_memory, earliest_memory, earliest_still, earlier_then, moved_still, relisted}
use Rattle.bd_pager.proofs.writing.write_early.Goals as goal

pub write_at-requires-clause-memory : goal.write_at-requires-clause-memory
write_at-requires-clause-memory g c =
    let t = c.requires.tallied in
    let was = c.loop-usage.invariant in
    let spots = spots_in c.loop-usage.reader.spots in
    let some = some_memory t.0 spots c.loop-usage.usage (was.tallied t.0 t.1 t.2) (omega (arith, c.loop-usage-test.true)) in
    earliest_memory c.args.root c.earliest-id.result some.0 spots c.earliest-id.ensures.earliest some.1

pub loop-usage-preserved : goal.loop-usage-preserved
loop-usage-preserved g c =
    let D = g.D.Device in
    let t = c.requires.tallied in
    let was = c.loop-usage.invariant in
    let now = c.in_ok-write_at.ensures in
    let root = c.args.root in
    let first = spots_in c.args.reader.now.spots in
    let mid = spots_in c.loop-usage.reader.spots in
    let last = spots_in c.write_at.new.reader.spots in
    let some = some_memory t.0 mid c.loop-usage.usage (was.tallied t.0 t.1 t.2) (omega (arith, c.loop-usage-test.true)) in
    let memory = earliest_memory root c.earliest-id.result some.0 mid c.earliest-id.ensures.earliest some.1 in
    record {
      moves = moves_then D c.args.usage.now.spare root c.args.reader.now.dev c.loop-usage.reader.dev c.write_at.new.reader.dev first mid last (g.met.D.Device.since_earlier c.loop-usage.reader.dev) was.moves
          (subst (λ (l : List Bool). OnlyMoves D l root c.loop-usage.reader.dev c.write_at.new.reader.dev mid last) was.spare now.moves);
      due = only_then D (IsOfMoved first last) (IsOfNode last c.earliest-id.result) c.args.reader.now.dev c.loop-usage.reader.dev c.write_at.new.reader.dev (g.met.D.Device.since_earlier c.loop-usage.reader.dev)
          (λ b is. record { id = c.earliest-id.result; was = was.moves.memory c.earliest-id.result memory; gone = now.gone; block = is })
          (only_wider D (IsOfMoved first mid) (IsOfMoved first last) c.args.reader.now.dev c.loop-usage.reader.dev (moved_still first mid last now.moves.memory now.moves.slots) was.due) now.only;
      reading = now.reading;
      lent = now.lent ∙ was.lent;
      cache_room = now.cache_room ∙ was.cache_room;
      spare = now.spare ∙ was.spare;
      enough = omega (arith, was.enough, now.stored, c.loop-usage-test.true);
      earlier = earlier_then root c.earliest-id.result first mid last was.moves.level was.earlier c.earliest-id.ensures.earliest now.others now.moves.memory;
      tallied = λ next below tallied.
          now.tallied next (below c.earliest-id.result (was.moves.memory c.earliest-id.result memory))
          (relisted next mid c.loop-usage.usage c.earliest-id.new.listed (was.tallied next below tallied) c.earliest-id.ensures.listed);
      faults = now.cause.kept ∙ was.faults;
      write_faults = now.write_faults ∙ was.write_faults;
    }

pub returns-in_err-write_at-clause-moves : goal.returns-in_err-write_at-clause-moves
returns-in_err-write_at-clause-moves g c =
    let D = g.D.Device in
    let was = c.loop-usage.invariant in
    let root = c.args.root in
    let first = spots_in c.args.reader.now.spots in
    let mid = spots_in c.loop-usage.reader.spots in
    let last = spots_in c.write_at.new.reader.spots in
    moves_then D c.args.usage.now.spare root c.args.reader.now.dev c.loop-usage.reader.dev c.write_at.new.reader.dev first mid last (g.met.D.Device.since_earlier c.loop-usage.reader.dev) was.moves
    (subst (λ (l : List Bool). OnlyMoves D l root c.loop-usage.reader.dev c.write_at.new.reader.dev mid last) was.spare c.in_err-write_at.ensures.moves)

pub returns-in_err-write_at-clause-tallied : goal.returns-in_err-write_at-clause-tallied
returns-in_err-write_at-clause-tallied g c = λ next below tallied.
    let t = c.requires.tallied in
    let was = c.loop-usage.invariant in
    let mid = spots_in c.loop-usage.reader.spots in
    let some = some_memory t.0 mid c.loop-usage.usage (was.tallied t.0 t.1 t.2) (omega (arith, c.loop-usage-test.true)) in
    let memory = earliest_memory c.args.root c.earliest-id.result some.0 mid c.earliest-id.ensures.earliest some.1 in
    c.in_err-write_at.ensures.tallied next (below c.earliest-id.result (was.moves.memory c.earliest-id.result memory))
    (relisted next mid c.loop-usage.usage c.earliest-id.new.listed (was.tallied next below tallied) c.earliest-id.ensures.listed)

pub returns-in_err-write_at-clause-earlier : goal.returns-in_err-write_at-clause-earlier
returns-in_err-write_at-clause-earlier g c =
    let was = c.loop-usage.invariant in
    let now = c.in_err-write_at.ensures in
    earlier_then c.args.root c.earliest-id.result (spots_in c.args.reader.now.spots) (spots_in c.loop-usage.reader.spots) (spots_in c.write_at.new.reader.spots) was.moves.level was.earlier c.earliest-id.ensures.earliest now.others now.moves.memory

pub returns-in_err-write_at-clause-due : goal.returns-in_err-write_at-clause-due
returns-in_err-write_at-clause-due g c =
    let D = g.D.Device in
    let was = c.loop-usage.invariant in
    let now = c.in_err-write_at.ensures in
    let root = c.args.root in
    let id = c.earliest-id.result in
    let first = spots_in c.args.reader.now.spots in
    let mid = spots_in c.loop-usage.reader.spots in
    let last = spots_in c.write_at.new.reader.spots in
    let p = err_from_is_err_and c.from_residual.result c.from_residual.ensures.1 in
    rw p.1
    (only_then D (IsDue root true first last) (IsOfNode last id) c.args.reader.now.dev c.loop-usage.reader.dev c.write_at.new.reader.dev (g.met.D.Device.since_earlier c.loop-usage.reader.dev)
    (λ b is. inr (record { id = id; memory = now.still; first = earliest_still root id mid last now.moves.level now.moves.memory now.still c.earliest-id.ensures.earliest; block = is }))
    (only_wider D (IsOfMoved first mid) (IsDue root true first last) c.args.reader.now.dev c.loop-usage.reader.dev (λ b is. inl (moved_still first mid last now.moves.memory now.moves.slots b is)) was.due) now.only)
