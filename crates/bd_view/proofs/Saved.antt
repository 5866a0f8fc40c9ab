-- What a checkpoint leaves.
use Rattle.std.proofs.Common.{◌≡◌, ℕ, zero, suc, ◌-◌, ◌<◌, Bool, true, false, not, ◌&&◌, ◌||◌, refl, sym, ap, ◌∙◌, arith}
use Rattle.std.specs.Prelude.{if◌then◌else◌}
use Rattle.std.proofs.lemmas.Bool.{false≢true}
use Rattle.bd_node.specs.Tables.{sum_below, kept_count}
use Rattle.bd_node.proofs.Sums.{sum_same}
use Rattle.bd_view.specs.Views.{View, is_kept, is_saved, is_changed, changed_count, held_slots, free_slots}
use Rattle.bd_view.specs.Moves.{Saves, IsCheckpointFull, saved_view}
use Rattle.bd_view.proofs.Listed.{passing_has, kept_length}

sum_none : (n : ℕ) → sum_below n (λ id. 0) ≡ 0
unfolding sum_below
sum_none zero = refl
sum_none (suc n) = omega (arith, sum_none n)

not_changed : (kept saved : Bool) → (kept ≡ true → saved ≡ true) → (kept && (not saved || false)) ≡ false
not_changed true true h = refl
not_changed true false h = absurd (false≢true (h refl))
not_changed false saved h = refl

-- each kept node is saved, and none is touched
none_changed : (v : View) (id : ℕ) → id < v.tree.table.next → is_changed (saved_view v) id ≡ false
none_changed v id low = not_changed (is_kept v.tree.table id) (is_saved (saved_view v) id) (passing_has (is_kept v.tree.table) v.tree.table.next id low)

saved_changes : (v : View) → changed_count (saved_view v) ≡ 0
saved_changes v = sum_same v.tree.table.next _ (λ id. 0) (λ id low. ap (λ b. if b then 1 else 0) (none_changed v id low)) ∙ sum_none v.tree.table.next

pub saves_all : (old new : View) → Saves old new → changed_count new ≡ 0
saves_all old new h = ap (λ v. changed_count v) h.after ∙ saved_changes old

pub saves_free : (old new : View) → Saves old new → free_slots new ≡ old.slots - held_slots (kept_count old.tree.table)
saves_free old new h = ap (λ v. free_slots v) h.after ∙ ap (λ n. old.slots - held_slots n) (kept_length old.tree.table)

pub saves_one : (old new other : View) → Saves old new → Saves old other → new ≡ other
saves_one old new other h g = h.after ∙ sym g.after

pub saves_or_full : (old new : View) (free need : ℕ) → Saves old new → IsCheckpointFull old free need → ⊥
saves_or_full old new free need h full = omega (arith, h.room, full.free_is, full.need_is, full.short)
