use Rattle.std.proofs.Common.{◌++◌, ◌∷◌, [], take, get_or, length, sym, subst}
use Rattle.bd_table.specs.Tables.{AreFreeSlots, slots_of}
use Rattle.bd_table.specs.declared.table.TableEntry.{TableEntry}
use Rattle.bd_table.proofs.FreeLemmas.{hold_free, slots_more, next_differs}
use Rattle.bd_pager.proofs.entries.hold_taken.Goals as goal

pub hold-requires : goal.hold-requires
hold-requires c =
    let at = c.args.at.now in
    let entries = c.args.entries.now in
    let i = c.loop-entry.entry-index in
    let d : TableEntry = record { id = 0; refs = 0; slot = 0; level = 0 } in
    let next = next_differs (length c.args.free.now) at entries i d c.loop-entry-test.true c.requires.differ in
    (c.loop-entry.invariant.free (get_or entries i d).slot next.0).1 next.1

pub loop-entry-preserved : goal.loop-entry-preserved
loop-entry-preserved c =
    let slots = length c.args.free.now in
    let at = c.args.at.now in
    let entries = c.args.entries.now in
    let i = c.loop-entry.entry-index in
    let d : TableEntry = record { id = 0; refs = 0; slot = 0; level = 0 } in
    let x = (get_or entries i d).slot in
    let taken = at ++ slots_of (take i entries) in
    let next = next_differs slots at entries i d c.loop-entry-test.true c.requires.differ in
    let held = hold_free slots taken c.loop-entry.free x next.0 c.loop-entry.invariant in
    subst (λ l. AreFreeSlots slots l c.hold.new.self) (sym (slots_more at entries i d c.loop-entry-test.true))
    (subst (AreFreeSlots slots (taken ++ x ∷ [])) (sym c.hold.ensures) held)
