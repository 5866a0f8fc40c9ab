use Rattle.std.proofs.Common.{◌≡◌, ℕ, Bool, List, ◌++◌, length, refl, sym, ap, subst, ◌∙◌, arith, true}
use Rattle.std.proofs.lemmas.Grind.{common_steps}
use Rattle.std.proofs.lemmas.List.{length-replicate}
use Rattle.std.specs.Prelude.{All}
use Rattle.bd_slots.specs.Layout.{AreSlots}
use Rattle.bd_slots.specs.Slots.{IsFree}
use Rattle.bd_table.specs.Tables.{AreFreeSlots, FitsTableEntry, slots_of}
use Rattle.bd_table.specs.declared.table.TableEntry.{TableEntry}
use Rattle.bd_pager.specs.Drafts.{entries_of}
use Rattle.bd_pager.specs.Places.{spots_in}
use Rattle.bd_pager.proofs.FlagLemmas.{blank_free}
use Rattle.bd_pager.proofs.ReadyLemmas.{taken_slots}
use Rattle.bd_pager.proofs.draft.Draft.filled.Goals as goal

slots_as : (n m : ℕ) (at now : List ℕ) (entries then_now : List TableEntry) → m ≡ n → now ≡ at → then_now ≡ entries → AreSlots n (at ++ slots_of entries) → AreSlots m (now ++ slots_of then_now)
slots_as n m at now entries then_now size at_is entries_is differ =
    subst (λ (k : ℕ). AreSlots k (now ++ slots_of then_now)) (sym size)
    (subst (λ (l : List ℕ). AreSlots n (l ++ slots_of then_now)) (sym at_is)
    (subst (λ (l : List TableEntry). AreSlots n (at ++ slots_of l)) (sym entries_is) differ))

pub hold_taken-requires-clause-all : goal.hold_taken-requires-clause-all
hold_taken-requires-clause-all c = blank_free (length c.args.free.now) c.args.self.spare c.requires.draft.spare

pub hold_taken-requires-2-clause-all : goal.hold_taken-requires-2-clause-all
hold_taken-requires-2-clause-all c = blank_free (length c.args.free.now) c.args.self.free c.requires.draft.free

pub hold_taken-requires-clause-differ : goal.hold_taken-requires-clause-differ
hold_taken-requires-clause-differ c =
    let spots = spots_in c.args.spots.now in
    let ids = c.args.self.ids.items in
    let at : List ℕ = c.pick_free.new.at in
    let at_is : c.deref-3.result.now ≡ c.pick_free.new.at = grind (arith, common_steps) in
    let entries_is : c.deref-4.result.now ≡ c.fill_entries.new.entries = grind (arith, common_steps) in
    let filled : c.fill_entries.new.entries ≡ entries_of spots ids = c.fill_entries.ensures.entries ∙ ap (entries_of spots) c.deref.ensures.value in
    let differ : AreSlots (length c.args.free.now) (at ++ slots_of (entries_of spots ids)) =
    taken_slots spots ids c.requires.draft.ids c.requires.unused.0 c.args.free.now c.requires.unused.1 c.requires.stored at c.pick_free.ensures.slots c.pick_free.ensures.free in
    slots_as (length c.args.free.now) (length c.args.self.spare) at c.deref-3.result.now (entries_of spots ids) c.deref-4.result.now
    (ap length c.requires.draft.spare ∙ length-replicate (length c.args.free.now) true) at_is (entries_is ∙ filled) differ

pub hold_taken-requires-2-clause-differ : goal.hold_taken-requires-2-clause-differ
hold_taken-requires-2-clause-differ c =
    let spots = spots_in c.args.spots.now in
    let ids = c.args.self.ids.items in
    let at : List ℕ = c.pick_free.new.at in
    let at_is : c.deref-5.result.now ≡ c.pick_free.new.at = grind (arith, common_steps) in
    let entries_is : c.deref-6.result.now ≡ c.fill_entries.new.entries = grind (arith, common_steps) in
    let filled : c.fill_entries.new.entries ≡ entries_of spots ids = c.fill_entries.ensures.entries ∙ ap (entries_of spots) c.deref.ensures.value in
    let differ : AreSlots (length c.args.free.now) (at ++ slots_of (entries_of spots ids)) =
    taken_slots spots ids c.requires.draft.ids c.requires.unused.0 c.args.free.now c.requires.unused.1 c.requires.stored at c.pick_free.ensures.slots c.pick_free.ensures.free in
    slots_as (length c.args.free.now) (length c.args.self.free) at c.deref-5.result.now (entries_of spots ids) c.deref-6.result.now
    (ap length c.requires.draft.free ∙ length-replicate (length c.args.free.now) true) at_is (entries_is ∙ filled) differ

pub returns-clause-filled : goal.returns-clause-filled
returns-clause-filled c =
    let spots = spots_in c.args.spots.now in
    let ids = c.args.self.ids.items in
    let free = c.args.free.now in
    let at : List ℕ = c.pick_free.new.at in
    let at_is : c.deref-3.result.now ≡ c.pick_free.new.at = grind (arith, common_steps) in
    let entries_is : c.deref-4.result.now ≡ c.fill_entries.new.entries = grind (arith, common_steps) in
    let from_at : c.from_vec-2.result ≡ c.pick_free.new.at = grind (arith, common_steps) in
    let from_entries : c.from_vec.result ≡ c.fill_entries.new.entries = grind (arith, common_steps) in
    let filled : c.fill_entries.new.entries ≡ entries_of spots ids = c.fill_entries.ensures.entries ∙ ap (entries_of spots) c.deref.ensures.value in
    let again_at : c.deref-5.result.now ≡ c.pick_free.new.at = grind (arith, common_steps) in
    let again_entries : c.deref-6.result.now ≡ c.fill_entries.new.entries = grind (arith, common_steps) in
    let size : length c.pick_free.new.at ≡ length c.args.self.at.items = grind (arith, common_steps) in
    let entries = c.fill_entries.new.entries in
    let differ : AreSlots (length free) (at ++ slots_of (entries_of spots ids)) =
    taken_slots spots ids c.requires.draft.ids c.requires.unused.0 free c.requires.unused.1 c.requires.stored at c.pick_free.ensures.slots c.pick_free.ensures.free in
    let held : (slots : ℕ) (now : List ℕ) (then_now : List TableEntry) (flags : List Bool) → slots ≡ length free → now ≡ at → then_now ≡ entries → AreFreeSlots slots (now ++ slots_of then_now) flags
    → AreFreeSlots (length free) (c.from_vec-2.result ++ slots_of c.from_vec.result) flags = λ slots now then_now flags slots_is now_is then_is h.
    subst (λ (n : ℕ). AreFreeSlots n (c.from_vec-2.result ++ slots_of c.from_vec.result) flags) slots_is
    (subst (λ (l : List ℕ). AreFreeSlots slots (l ++ slots_of c.from_vec.result) flags) (now_is ∙ sym from_at)
    (subst (λ (l : List TableEntry). AreFreeSlots slots (now ++ slots_of l) flags) (then_is ∙ sym from_entries) h)) in
    record {
      entries = from_entries ∙ filled;
      fits = subst (λ (l : List TableEntry). All FitsTableEntry l) (sym from_entries) c.fill_entries.ensures.fits;
      root_is = refl;
      next_is = refl;
      length_is = ap length from_at ∙ size ∙ c.requires.draft.at;
      at = subst (λ (l : List ℕ). All (IsFree free) l) (sym from_at) c.pick_free.ensures.free;
      differ = slots_as (length free) (length free) at c.from_vec-2.result (entries_of spots ids) c.from_vec.result refl from_at (from_entries ∙ filled) differ;
      spare_is = held (length c.args.self.spare) c.deref-3.result.now c.deref-4.result.now c.hold_taken.new.free
          (ap length c.requires.draft.spare ∙ length-replicate (length free) true) at_is entries_is c.hold_taken.ensures;
      free_is = held (length c.args.self.free) c.deref-5.result.now c.deref-6.result.now c.hold_taken-2.new.free
          (ap length c.requires.draft.free ∙ length-replicate (length free) true) again_at again_entries c.hold_taken-2.ensures;
    }
