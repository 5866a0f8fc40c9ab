use Rattle.std.proofs.Common.{◌≤◌, ℕ, List, Bool, length, sym, subst}
use Rattle.std.specs.Prelude.{All}
use Rattle.bd_slots.specs.Layout.{IsTablePlace}
use Rattle.bd_slots.specs.Slots.{IsFree}
use Rattle.bd_table.specs.Image.{IsOfTable}
use Rattle.bd_table.specs.Tables.{IsTableAt}
use Rattle.bd_pager.specs.Counting.{AreUnused}
use Rattle.bd_pager.specs.Pagers.{IsReady}
use Rattle.bd_pager.specs.Places.{spots_in}
use Rattle.bd_pager.proofs.MovingLemmas.{moves_then, device_moves, cached_kept}
use Rattle.bd_pager.proofs.ReadyLemmas.{filled_ready, filled_table, table_place}
use Rattle.bd_pager.proofs.WrittenLemmas.{table_tails, all_written, table_below, table_spare, table_apart}
use Rattle.bd_pager.proofs.writing_all.write_all.Goals as goal

pub returns-in_err-write_early-clause-tallied : goal.returns-in_err-write_early-clause-tallied
returns-in_err-write_early-clause-tallied g c =
    c.write_early.ensures.tallied c.args.next (table_below c.args.root c.args.next (spots_in c.args.reader.now.spots) c.requires.table) c.requires.tallied

pub filled-written-requires-clause-draft : goal.filled-written-requires-clause-draft
filled-written-requires-clause-draft g c =
    let w = c.in_ok-write_early.ensures in
    let q = c.requires in
    (all_written g.D.Device c.args.root c.args.next c.args.reader.now.dev c.write_early.new.reader.dev (spots_in c.args.reader.now.spots) (spots_in c.write_early.new.reader.spots) c.args.usage.now c.write_early.new.usage c.args.draft
    w.moves w.spare w.tallied w.few q.tallied q.table q.draft q.room).draft_is

pub filled-written-requires-clause-unused : goal.filled-written-requires-clause-unused
filled-written-requires-clause-unused g c =
    let w = c.in_ok-write_early.ensures in
    let q = c.requires in
    let all = all_written g.D.Device c.args.root c.args.next c.args.reader.now.dev c.write_early.new.reader.dev (spots_in c.args.reader.now.spots) (spots_in c.write_early.new.reader.spots) c.args.usage.now c.write_early.new.usage c.args.draft
    w.moves w.spare w.tallied w.few q.tallied q.table q.draft q.room in
    (c.write_early.new.usage.spare, all.tallied.unused)

pub filled-written-requires-clause-stored : goal.filled-written-requires-clause-stored
filled-written-requires-clause-stored g c =
    let w = c.in_ok-write_early.ensures in
    let q = c.requires in
    (all_written g.D.Device c.args.root c.args.next c.args.reader.now.dev c.write_early.new.reader.dev (spots_in c.args.reader.now.spots) (spots_in c.write_early.new.reader.spots) c.args.usage.now c.write_early.new.usage c.args.draft
    w.moves w.spare w.tallied w.few q.tallied q.table q.draft q.room).stored

pub filled-written-requires-clause-room : goal.filled-written-requires-clause-room
filled-written-requires-clause-room g c =
    let w = c.in_ok-write_early.ensures in
    let q = c.requires in
    (all_written g.D.Device c.args.root c.args.next c.args.reader.now.dev c.write_early.new.reader.dev (spots_in c.args.reader.now.spots) (spots_in c.write_early.new.reader.spots) c.args.usage.now c.write_early.new.usage c.args.draft
    w.moves w.spare w.tallied w.few q.tallied q.table q.draft q.room).room

pub write-requires-clause-place : goal.write-requires-clause-place
write-requires-clause-place g c =
    let w = c.in_ok-write_early.ensures in
    let q = c.requires in
    let u = c.write_early.new.usage in
    let spots = spots_in c.write_early.new.reader.spots in
    let all = all_written g.D.Device c.args.root c.args.next c.args.reader.now.dev c.write_early.new.reader.dev (spots_in c.args.reader.now.spots) spots c.args.usage.now u c.args.draft
    w.moves w.spare w.tallied w.few q.tallied q.table q.draft q.room in
    let few = subst (λ (l : List Bool). length l ≤ 65536) (sym w.spare) q.slots in
    let table = filled_table u.spare u.free spots c.args.draft.ids.items c.args.root c.args.next c.filled-written.result.0 all.draft_is.ids all.tallied.unused all.stored all.table all.tallied.counted.fits few c.filled-written.ensures.filled in
    subst (λ (n : ℕ). IsTablePlace n c.as_slice-taken.result.now) (sym c.count-slots.ensures) (subst (λ (l : List ℕ). IsTablePlace (length u.spare) l) (sym c.as_slice-taken.ensures) (table_place (length u.spare) c.filled-written.result.0.at c.filled-written.result.0.table table))

pub write-requires-clause-table : goal.write-requires-clause-table
write-requires-clause-table g c =
    let w = c.in_ok-write_early.ensures in
    let q = c.requires in
    let u = c.write_early.new.usage in
    let spots = spots_in c.write_early.new.reader.spots in
    let all = all_written g.D.Device c.args.root c.args.next c.args.reader.now.dev c.write_early.new.reader.dev (spots_in c.args.reader.now.spots) spots c.args.usage.now u c.args.draft
    w.moves w.spare w.tallied w.few q.tallied q.table q.draft q.room in
    let few = subst (λ (l : List Bool). length l ≤ 65536) (sym w.spare) q.slots in
    let table = filled_table u.spare u.free spots c.args.draft.ids.items c.args.root c.args.next c.filled-written.result.0 all.draft_is.ids all.tallied.unused all.stored all.table all.tallied.counted.fits few c.filled-written.ensures.filled in
    subst (λ (n : ℕ). IsTableAt n c.as_slice-taken.result.now c.filled-written.result.0.table) (sym c.count-slots.ensures)
    (subst (λ (l : List ℕ). IsTableAt (length u.spare) l c.filled-written.result.0.table) (sym c.as_slice-taken.ensures) table)

pub returns-in_err-write-clause-moves : goal.returns-in_err-write-clause-moves
returns-in_err-write-clause-moves g c =
    let D = g.D.Device in
    let w = c.in_ok-write_early.ensures in
    let q = c.requires in
    let u = c.write_early.new.usage in
    let d = c.args.reader.now.dev in
    let e = c.write_early.new.reader.dev in
    let first = spots_in c.args.reader.now.spots in
    let spots = spots_in c.write_early.new.reader.spots in
    let all = all_written D c.args.root c.args.next d e first spots c.args.usage.now u c.args.draft w.moves w.spare w.tallied w.few q.tallied q.table q.draft q.room in
    let free = subst (λ (l : List ℕ). All (IsFree u.free) l) (sym c.as_slice-taken.ensures) c.filled-written.ensures.filled.at in
    let at = c.as_slice-taken.result.now in
    let unused : AreUnused c.args.usage.now.spare u.free spots = subst (λ (l : List Bool). AreUnused l u.free spots) w.spare all.tallied.unused in
    let spare = table_spare c.args.usage.now.spare at (λ k x lt. ((unused.free_is _).0 (free k x lt)).0) in
    let written = c.in_err-write.ensures in
    moves_then D c.args.usage.now.spare c.args.root d e c.write.new.dev first spots spots (g.met.D.Device.since_earlier e) w.moves
    (device_moves D c.args.usage.now.spare c.args.root e c.write.new.dev spots (IsOfTable at) spare (table_apart c.args.usage.now.spare u.free spots at unused free) written.stays written.elsewhere written.time)

pub returns-in_err-write-clause-reading : goal.returns-in_err-write-clause-reading
returns-in_err-write-clause-reading g c =
    let D = g.D.Device in
    let w = c.in_ok-write_early.ensures in
    let q = c.requires in
    let u = c.write_early.new.usage in
    let r = c.write_early.new.reader in
    let spots = spots_in r.spots in
    let all = all_written D c.args.root c.args.next c.args.reader.now.dev r.dev (spots_in c.args.reader.now.spots) spots c.args.usage.now u c.args.draft w.moves w.spare w.tallied w.few q.tallied q.table q.draft q.room in
    let free = subst (λ (l : List ℕ). All (IsFree u.free) l) (sym c.as_slice-taken.ensures) c.filled-written.ensures.filled.at in
    let at = c.as_slice-taken.result.now in
    record {
      placed = w.reading.placed;
      cached = cached_kept (IsOfTable at) (D.contents r.dev) (D.contents c.write.new.dev) r.is_lent spots r.cache c.in_err-write.ensures.elsewhere (table_apart u.spare u.free spots at all.tallied.unused free) w.reading.cached;
      tested = w.reading.tested;
      tails = λ not_lent. table_tails (D.contents r.dev) (D.contents c.write.new.dev) at r.tails c.forget_at.new.self (w.reading.tails not_lent) c.forget_at.ensures c.in_err-write.ensures.elsewhere;
    }

pub returns-in_err-write-clause-tallied : goal.returns-in_err-write-clause-tallied
returns-in_err-write-clause-tallied g c =
    let t = c.write_early.ensures.tallied c.args.next (table_below c.args.root c.args.next (spots_in c.args.reader.now.spots) c.requires.table) c.requires.tallied in
    record { unused = t.unused; counted = record { fits = t.counted.fits; changed = t.counted.changed; in_memory = t.counted.in_memory; free = t.counted.free }; listed = t.listed }

pub returns-clause-moves : goal.returns-clause-moves
returns-clause-moves g c =
    let D = g.D.Device in
    let w = c.in_ok-write_early.ensures in
    let q = c.requires in
    let u = c.write_early.new.usage in
    let d = c.args.reader.now.dev in
    let e = c.write_early.new.reader.dev in
    let first = spots_in c.args.reader.now.spots in
    let spots = spots_in c.write_early.new.reader.spots in
    let all = all_written D c.args.root c.args.next d e first spots c.args.usage.now u c.args.draft w.moves w.spare w.tallied w.few q.tallied q.table q.draft q.room in
    let free = subst (λ (l : List ℕ). All (IsFree u.free) l) (sym c.as_slice-taken.ensures) c.filled-written.ensures.filled.at in
    let at = c.as_slice-taken.result.now in
    let unused : AreUnused c.args.usage.now.spare u.free spots = subst (λ (l : List Bool). AreUnused l u.free spots) w.spare all.tallied.unused in
    let spare = table_spare c.args.usage.now.spare at (λ k x lt. ((unused.free_is _).0 (free k x lt)).0) in
    let written = c.in_ok-write.ensures in
    moves_then D c.args.usage.now.spare c.args.root d e c.write.new.dev first spots spots (g.met.D.Device.since_earlier e) w.moves
    (device_moves D c.args.usage.now.spare c.args.root e c.write.new.dev spots (IsOfTable at) spare (table_apart c.args.usage.now.spare u.free spots at unused free) written.stays written.elsewhere written.time)

pub returns-clause-reading : goal.returns-clause-reading
returns-clause-reading g c =
    let D = g.D.Device in
    let w = c.in_ok-write_early.ensures in
    let q = c.requires in
    let u = c.write_early.new.usage in
    let r = c.write_early.new.reader in
    let spots = spots_in r.spots in
    let all = all_written D c.args.root c.args.next c.args.reader.now.dev r.dev (spots_in c.args.reader.now.spots) spots c.args.usage.now u c.args.draft w.moves w.spare w.tallied w.few q.tallied q.table q.draft q.room in
    let free = subst (λ (l : List ℕ). All (IsFree u.free) l) (sym c.as_slice-taken.ensures) c.filled-written.ensures.filled.at in
    let at = c.as_slice-taken.result.now in
    record {
      placed = w.reading.placed;
      cached = cached_kept (IsOfTable at) (D.contents r.dev) (D.contents c.write.new.dev) r.is_lent spots r.cache c.in_ok-write.ensures.elsewhere (table_apart u.spare u.free spots at all.tallied.unused free) w.reading.cached;
      tested = w.reading.tested;
      tails = λ not_lent. table_tails (D.contents r.dev) (D.contents c.write.new.dev) at r.tails c.forget_at.new.self (w.reading.tails not_lent) c.forget_at.ensures c.in_ok-write.ensures.elsewhere;
    }

pub returns-clause-tallied : goal.returns-clause-tallied
returns-clause-tallied g c =
    let t = c.write_early.ensures.tallied c.args.next (table_below c.args.root c.args.next (spots_in c.args.reader.now.spots) c.requires.table) c.requires.tallied in
    record { unused = t.unused; counted = record { fits = t.counted.fits; changed = t.counted.changed; in_memory = t.counted.in_memory; free = t.counted.free }; listed = t.listed }

pub returns-clause-ready : goal.returns-clause-ready
returns-clause-ready g c =
    let w = c.in_ok-write_early.ensures in
    let q = c.requires in
    let u = c.write_early.new.usage in
    let spots = spots_in c.write_early.new.reader.spots in
    let all = all_written g.D.Device c.args.root c.args.next c.args.reader.now.dev c.write_early.new.reader.dev (spots_in c.args.reader.now.spots) spots c.args.usage.now u c.args.draft
    w.moves w.spare w.tallied w.few q.tallied q.table q.draft q.room in
    let few = subst (λ (l : List Bool). length l ≤ 65536) (sym w.spare) q.slots in
    let ready : IsReady u.spare spots c.args.root c.args.next c.filled-written.result.0 =
    filled_ready u.spare u.free spots c.args.draft.ids.items c.args.root c.args.next c.filled-written.result.0 all.draft_is.ids all.tallied.unused all.stored all.table all.tallied.counted.fits few c.filled-written.ensures.filled in
    subst (λ (l : List Bool). IsReady l spots c.args.root c.args.next c.filled-written.result.0) w.spare ready
