use Rattle.std.proofs.Common.{◌≡◌, ◌≤◌, Bool, List, None, length, min, refl, sym, ap, subst, ◌∙◌, arith, inl, inr, false}
use Rattle.std.specs.Prelude.{is_err}
use Rattle.std.proofs.lemmas.Result.{on_ok_weaker}
use Rattle.bd_slots.specs.Layout.{image_blocks}
use Rattle.bd_device.specs.Calls.{faults_after}
use Rattle.bd_device.specs.Device.{FailsLast}
use Rattle.bd_tails.specs.Tails.{AreTails}
use Rattle.bd_pager.specs.Counting.{memory_of, AreUnused}
use Rattle.bd_pager.specs.Moving.{AreEarlier, IsDue, Spills, WritesOnly}
use Rattle.bd_pager.specs.Pagers.{Paged, spots_of, IsPaged, seen}
use Rattle.bd_pager.specs.Places.{spots_in, AreCached}
use Rattle.bd_pager.proofs.MovingLemmas.{none_free}
use Rattle.bd_pager.proofs.SpilledLemmas.{spilled_paged, spilled_bad, paged_below}
use Rattle.bd_pager.proofs.pager.Pager.spill.Goals as goal

pub write_early-requires-clause-tallied : goal.write_early-requires-clause-tallied
write_early-requires-clause-tallied g c =
    let i = c.self.inside in
    let p : Paged g.row.D.Denot = seen i.reader i.saved i.at.items i.usage.spare i.root i.size i.next i.visits i.written in
    (i.next, paged_below (g.D.Device.contents i.reader.dev) p c.self.invariant.0, c.self.invariant.1)

pub write_early-requires-clause-size : goal.write_early-requires-clause-size
write_early-requires-clause-size g c =
    subst (λ (x : Paged g.row.D.Denot). g.D.Device.block_count x.dev ≡ image_blocks (length x.spare)) (sym c.self.view_is) c.requires

pub invariant_of-self : goal.invariant_of-self
invariant_of-self g c =
    let D = g.D.Device in
    let i = c.self.inside in
    let w = c.write_early.ensures in
    let r = c.write_early.new.reader in
    let v = c.write_early.new.usage in
    let p : Paged g.row.D.Denot = seen i.reader i.saved i.at.items i.usage.spare i.root i.size i.next i.visits i.written in
    let q : Bool → List Bool → Paged g.row.D.Denot = λ lent spare. record p { dev = r.dev; spots = r.spots.entries; cache = r.cache; tails = r.tails; is_lent = lent; spare = spare; written = None } in
    let tallied = w.tallied i.next (paged_below (D.contents i.reader.dev) p c.self.invariant.0) c.self.invariant.1 in
    let paged : IsPaged (D.contents r.dev) (q i.reader.is_lent i.usage.spare) =
    spilled_paged D p r.dev r.spots.entries r.cache v.free r.tails c.self.invariant.0 w.moves w.reading.placed
    (subst (λ (b : Bool). AreCached (D.contents r.dev) b (spots_in r.spots) r.cache) w.lent w.reading.cached)
    (subst (λ (b : Bool). b ≡ false → AreTails (D.contents r.dev) r.tails) w.lent w.reading.tails)
    (subst (λ (l : List Bool). AreUnused l v.free (spots_in r.spots)) w.spare tallied.unused) in (
      subst (λ (b : Bool). IsPaged (D.contents r.dev) (q b v.spare)) (sym w.lent) (subst (λ (l : List Bool). IsPaged (D.contents r.dev) (q i.reader.is_lent l)) (sym w.spare) paged),
      tallied,
      w.reading.tested,
    )

pub returns : goal.returns
returns g c =
    let D = g.D.Device in
    let i = c.self.inside in
    let w = c.write_early.ensures in
    let r = c.write_early.new.reader in
    let v = c.write_early.new.usage in
    let p : Paged g.row.D.Denot = seen i.reader i.saved i.at.items i.usage.spare i.root i.size i.next i.visits i.written in
    let q : Bool → List Bool → Paged g.row.D.Denot = λ lent spare. record p { dev = r.dev; spots = r.spots.entries; cache = r.cache; tails = r.tails; is_lent = lent; spare = spare; written = None } in
    let tallied = w.tallied i.next (paged_below (D.contents i.reader.dev) p c.self.invariant.0) c.self.invariant.1 in
    record {
      spills = subst (λ (x : Paged g.row.D.Denot). Spills D x (q r.is_lent v.spare)) c.self.view_is
          (record { moves = w.moves; bad = spilled_bad g.D.Device i.usage.spare i.root i.reader.dev r.dev (spots_in i.reader.spots) (spots_in r.spots) w.moves c.self.invariant.0.placed; room = w.cache_room; rest = ap (λ (b : Bool). q b v.spare) w.lent ∙ ap (λ (l : List Bool). q i.reader.is_lent l) w.spare });
      due = subst (λ (x : Paged g.row.D.Denot). WritesOnly D (IsDue x.root (is_err c.write_early.result) (spots_of x) (spots_in r.spots)) x.dev r.dev) c.self.view_is w.due;
      written = refl;
      few = on_ok_weaker c.write_early.result (λ few. elim few [
        | inl le ↦ inl (omega (arith, le, tallied.counted.in_memory))
        | inr none ↦ inr (λ slot un. none_free v.free slot none ((tallied.unused.free_is slot).1 un))
      ]) w.few;
      enough = subst (λ (x : Paged g.row.D.Denot). min c.args.early (memory_of x) ≤ memory_of (q r.is_lent v.spare)) c.self.view_is
          (omega (arith, w.enough, tallied.counted.in_memory, c.self.invariant.1.counted.in_memory));
      earlier = subst (λ (x : Paged g.row.D.Denot). AreEarlier x.root (spots_of x) (spots_in r.spots)) c.self.view_is w.earlier;
      cause = subst (λ (x : Paged g.row.D.Denot). FailsLast D x.dev r.dev c.write_early.result) c.self.view_is w.cause;
      write_faults = subst (λ (x : Paged g.row.D.Denot). D.write_fault_count r.dev ≡ faults_after (D.write_fault_count x.dev) c.write_early.result) c.self.view_is w.write_faults;
    }
