use Rattle.std.proofs.Common.{◌≡◌, ◌+◌, ◌≤◌, ℕ, Bool, List, length, Option, None, Some, IfSome, refl, sym, ap, subst, ◌∙◌, arith, false}
use Rattle.bd_slots.specs.Layout.{table_length, IsTablePlace}
use Rattle.bd_node.specs.Tables.{kept_count}
use Rattle.bd_table.specs.Image.{HoldsTable}
use Rattle.bd_tails.specs.Tails.{AreTails}
use Rattle.bd_pager.specs.declared.written.Written.{Written}
use Rattle.bd_pager.specs.Counting.{changed_of, free_of, AreUnused}
use Rattle.bd_pager.specs.Moving.{Spills}
use Rattle.bd_pager.specs.Pagers.{Paged, table_of, IsPaged, IsReady, seen}
use Rattle.bd_pager.specs.Places.{spots_in, AreCached}
use Rattle.bd_pager.proofs.AskedLemmas.{changed_is, free_is}
use Rattle.bd_pager.proofs.KeptLemmas.{kept_few, kept_spots}
use Rattle.bd_pager.proofs.ReadyLemmas.{table_place}
use Rattle.bd_pager.proofs.SpilledLemmas.{spilled_paged, spilled_bad}
use Rattle.bd_pager.proofs.WrittenLemmas.{paged_table, ready_paged}
use Rattle.bd_pager.proofs.pager.Pager.write_out.Goals as goal

pub table_length-taken-requires : goal.table_length-taken-requires
table_length-taken-requires g c =
    let i = c.self.inside in
    let p : Paged g.row.D.Denot = seen i.reader i.saved i.at.items i.usage.spare i.root i.size i.next i.visits i.written in
    let contents = g.D.Device.contents i.reader.dev in
    let room : changed_of p + table_length (kept_count (table_of p)) ≤ free_of p = subst (λ (x : Paged g.row.D.Denot). changed_of x + table_length (kept_count (table_of x)) ≤ free_of x) (sym c.self.view_is) c.requires.room in
    let slots : length p.spare ≤ 65536 = subst (λ (x : Paged g.row.D.Denot). length x.spare ≤ 65536) (sym c.self.view_is) c.requires.slots in
    omega (arith, c.len.ensures.len, kept_spots contents p c.self.invariant.0 c.len.ensures.unique, kept_few contents p (table_length (kept_count (table_of p))) c.self.invariant.0 room, slots)

pub write_all-requires-clause-table : goal.write_all-requires-clause-table
write_all-requires-clause-table g c =
    let i = c.self.inside in
    let p : Paged g.row.D.Denot = seen i.reader i.saved i.at.items i.usage.spare i.root i.size i.next i.visits i.written in
    paged_table (g.D.Device.contents i.reader.dev) p c.self.invariant.0

pub write_all-requires-clause-room : goal.write_all-requires-clause-room
write_all-requires-clause-room g c =
    let i = c.self.inside in
    let p : Paged g.row.D.Denot = seen i.reader i.saved i.at.items i.usage.spare i.root i.size i.next i.visits i.written in
    let contents = g.D.Device.contents i.reader.dev in
    let room : changed_of p + table_length (kept_count (table_of p)) ≤ free_of p = subst (λ (x : Paged g.row.D.Denot). changed_of x + table_length (kept_count (table_of x)) ≤ free_of x) (sym c.self.view_is) c.requires.room in
    let taken : length c.in-Ok.draft.at.items ≡ table_length (kept_count (table_of p)) = c.in-Ok.ensures.draft.at ∙ ap table_length (c.in-Ok.ensures.kept ∙ sym (kept_spots contents p c.self.invariant.0 c.len.ensures.unique)) in
    omega (arith, room, taken, c.self.invariant.1.counted.changed, changed_is contents p c.self.invariant.0, free_is contents p c.self.invariant.0)

pub invariant_of-self : goal.invariant_of-self
invariant_of-self g c =
    let D = g.D.Device in
    let i = c.self.inside in
    let w = c.write_all.ensures in
    let r = c.write_all.new.reader in
    let v = c.write_all.new.usage in
    let p : Paged g.row.D.Denot = seen i.reader i.saved i.at.items i.usage.spare i.root i.size i.next i.visits i.written in
    let q : Bool → List Bool → Option Written → Paged g.row.D.Denot = λ lent spare written. record p { dev = r.dev; spots = r.spots.entries; cache = r.cache; tails = r.tails; is_lent = lent; spare = spare; written = written } in
    let paged : IsPaged (D.contents r.dev) (q i.reader.is_lent i.usage.spare None) =
    spilled_paged D p r.dev r.spots.entries r.cache v.free r.tails c.self.invariant.0 w.moves w.reading.placed
    (subst (λ (b : Bool). AreCached (D.contents r.dev) b (spots_in r.spots) r.cache) w.lent w.reading.cached)
    (subst (λ (b : Bool). b ≡ false → AreTails (D.contents r.dev) r.tails) w.lent w.reading.tails)
    (subst (λ (l : List Bool). AreUnused l v.free (spots_in r.spots)) w.spare w.tallied.unused) in
    let ready = ready_paged (D.contents r.dev) (q i.reader.is_lent i.usage.spare None) c.in-Ok-write_all.written paged c.in-Ok-write_all.ensures.ready in (
      subst (λ (b : Bool). IsPaged (D.contents r.dev) (q b v.spare (Some c.in-Ok-write_all.written))) (sym w.lent)
          (subst (λ (l : List Bool). IsPaged (D.contents r.dev) (q i.reader.is_lent l (Some c.in-Ok-write_all.written))) (sym w.spare) ready),
      w.tallied,
      w.reading.tested,
    )

pub invariant_of-self-in-Err : goal.invariant_of-self-in-Err
invariant_of-self-in-Err g c =
    let D = g.D.Device in
    let i = c.self.inside in
    let w = c.write_all.ensures in
    let r = c.write_all.new.reader in
    let v = c.write_all.new.usage in
    let p : Paged g.row.D.Denot = seen i.reader i.saved i.at.items i.usage.spare i.root i.size i.next i.visits i.written in
    let q : Bool → List Bool → Option Written → Paged g.row.D.Denot = λ lent spare written. record p { dev = r.dev; spots = r.spots.entries; cache = r.cache; tails = r.tails; is_lent = lent; spare = spare; written = written } in
    let paged : IsPaged (D.contents r.dev) (q i.reader.is_lent i.usage.spare None) =
    spilled_paged D p r.dev r.spots.entries r.cache v.free r.tails c.self.invariant.0 w.moves w.reading.placed
    (subst (λ (b : Bool). AreCached (D.contents r.dev) b (spots_in r.spots) r.cache) w.lent w.reading.cached)
    (subst (λ (b : Bool). b ≡ false → AreTails (D.contents r.dev) r.tails) w.lent w.reading.tails)
    (subst (λ (l : List Bool). AreUnused l v.free (spots_in r.spots)) w.spare w.tallied.unused) in (
      subst (λ (b : Bool). IsPaged (D.contents r.dev) (q b v.spare None)) (sym w.lent) (subst (λ (l : List Bool). IsPaged (D.contents r.dev) (q i.reader.is_lent l None)) (sym w.spare) paged),
      w.tallied,
      w.reading.tested,
    )

pub returns-in-Ok-write_all-clause-spills : goal.returns-in-Ok-write_all-clause-spills
returns-in-Ok-write_all-clause-spills g c =
    let i = c.self.inside in
    let w = c.write_all.ensures in
    let r = c.write_all.new.reader in
    let v = c.write_all.new.usage in
    let p : Paged g.row.D.Denot = seen i.reader i.saved i.at.items i.usage.spare i.root i.size i.next i.visits i.written in
    let q : Bool → List Bool → Paged g.row.D.Denot = λ lent spare. record p { dev = r.dev; spots = r.spots.entries; cache = r.cache; tails = r.tails; is_lent = lent; spare = spare; written = Some c.in-Ok-write_all.written } in
    subst (λ (x : Paged g.row.D.Denot). Spills g.D.Device x (q r.is_lent v.spare)) c.self.view_is
    (record { moves = w.moves; bad = spilled_bad g.D.Device i.usage.spare i.root i.reader.dev r.dev (spots_in i.reader.spots) (spots_in r.spots) w.moves c.self.invariant.0.placed; room = w.cache_room; rest = ap (λ (b : Bool). q b v.spare) w.lent ∙ ap (λ (l : List Bool). q i.reader.is_lent l) w.spare })

pub returns-in-Err-clause-spills : goal.returns-in-Err-clause-spills
returns-in-Err-clause-spills g c =
    let i = c.self.inside in
    let w = c.write_all.ensures in
    let r = c.write_all.new.reader in
    let v = c.write_all.new.usage in
    let p : Paged g.row.D.Denot = seen i.reader i.saved i.at.items i.usage.spare i.root i.size i.next i.visits i.written in
    let q : Bool → List Bool → Paged g.row.D.Denot = λ lent spare. record p { dev = r.dev; spots = r.spots.entries; cache = r.cache; tails = r.tails; is_lent = lent; spare = spare; written = None } in
    subst (λ (x : Paged g.row.D.Denot). Spills g.D.Device x (q r.is_lent v.spare)) c.self.view_is
    (record { moves = w.moves; bad = spilled_bad g.D.Device i.usage.spare i.root i.reader.dev r.dev (spots_in i.reader.spots) (spots_in r.spots) w.moves c.self.invariant.0.placed; room = w.cache_room; rest = ap (λ (b : Bool). q b v.spare) w.lent ∙ ap (λ (l : List Bool). q i.reader.is_lent l) w.spare })

pub returns-in-Ok-write_all-clause-written : goal.returns-in-Ok-write_all-clause-written
returns-in-Ok-write_all-clause-written g c =
    let i = c.self.inside in
    let w = c.in-Ok-write_all.ensures in
    let v = c.write_all.new.usage in
    let done = c.in-Ok-write_all.written in
    let spots = spots_in c.write_all.new.reader.spots in
    let ready : IsReady v.spare spots i.root i.next done = subst (λ (l : List Bool). IsReady l spots i.root i.next done) (sym w.spare) w.ready in
    record {
      written = done;
      written_is = refl;
      at_is = sym w.copy;
      ready = ready;
      place = subst (λ (l : List ℕ). IsTablePlace (length v.spare) l) (sym w.copy) (table_place (length v.spare) done.at done.table ready.table);
      held =
          subst (λ (l : List ℕ). IfSome (g.D.Device.contents c.write_all.new.reader.dev) (λ image. HoldsTable image (length v.spare) l done.table)) (sym w.copy)
          (subst (λ (l : List Bool). IfSome (g.D.Device.contents c.write_all.new.reader.dev) (λ image. HoldsTable image (length l) done.at done.table)) (sym w.spare) w.held);
    }
