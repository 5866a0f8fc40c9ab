use Rattle.std.proofs.Common.{◌++◌, ◌∷◌, [], get_or, take, sym, subst, ◌∙◌, arith}
use Rattle.std.proofs.lemmas.Bool.{true≢false}
use Rattle.bd_slots.specs.Layout.{AreSlots}
use Rattle.bd_table.specs.Tables.{AreFreeSlots, slots_of}
use Rattle.bd_table.specs.declared.table.TableEntry.{TableEntry}
use Rattle.bd_table.proofs.FreeLemmas.{hold_free, one_more, slots_more, next_differs}
use Rattle.bd_table.proofs.check.slots_differ.Goals as goal
use Rattle.bd_table.proofs.check.slots_differ.Goals.{then-entry-slots-via-then-entry-slots, then-entry-slots-via-else-entry-slots+then-not-is_free}

pub returns-then-entry-slots : goal.returns-then-entry-slots
returns-then-entry-slots c =
    let at = c.args.at.now in
    let entries = c.args.entries.now in
    let i = c.loop-entry.entry-index in
    let d : TableEntry = record { id = 0; refs = 0; slot = 0; level = 0 } in (
      λ e. absurd (true≢false (sym e)),
      λ differ.
          let next = next_differs c.args.slots at entries i d c.loop-entry-test.true differ in
          elim c.then-entry-slots.branch [
            | then-entry-slots-via-then-entry-slots w ↦ absurd (omega (arith, next.0, w.if-entry-slots.true))
            | then-entry-slots-via-else-entry-slots+then-not-is_free w ↦
                absurd (true≢false (sym (w.is_free.ensures.1 ((c.loop-entry.invariant.free.free (get_or entries i d).slot next.0).1 next.1)) ∙ w.if-not-is_free.true))
          ],
    )

pub loop-entry-preserved : goal.loop-entry-preserved
loop-entry-preserved c =
    let at = c.args.at.now in
    let entries = c.args.entries.now in
    let i = c.loop-entry.entry-index in
    let d : TableEntry = record { id = 0; refs = 0; slot = 0; level = 0 } in
    let x = (get_or entries i d).slot in
    let taken = at ++ slots_of (take i entries) in
    let more = sym (slots_more at entries i d c.loop-entry-test.true) in
    let held = hold_free c.args.slots taken c.loop-entry.free x c.if-entry-slots.false c.loop-entry.invariant.free in
    record {
      free = subst (λ l. AreFreeSlots c.args.slots l c.hold.new.self) more (subst (AreFreeSlots c.args.slots (taken ++ x ∷ [])) (sym c.hold.ensures) held);
      slots = subst (AreSlots c.args.slots) more (one_more c.args.slots taken c.loop-entry.free x c.if-entry-slots.false c.loop-entry.invariant.free (c.is_free.ensures.0 c.if-not-is_free.false) c.loop-entry.invariant.slots);
    }
