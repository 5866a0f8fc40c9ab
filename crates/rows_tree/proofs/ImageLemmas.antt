-- What keeps a pager on its image.
use Rattle.std.proofs.Common.{◌≡◌, ℕ, ◌≤◌, Bool, List, length, sym, ap, subst, ◌∙◌}
use Rattle.bd_limits.specs.Limits.{slot_limit}
use Rattle.bd_slots.specs.Layout.{image_blocks}
use Rattle.bd_device.specs.declared.device.Device.{Ghosts}
use Rattle.bd_pager.specs.Pagers.{Paged, spots_of, saved_as, IsReady}
use Rattle.bd_pager.specs.Keeping.{KeepsSaved}
use Rattle.bd_pager.specs.Moving.{Spills}
use Rattle.bd_pager.specs.declared.written.Written.{Written}
use Rattle.rows_tree.specs.Images.{IsOnImage}

-- so many slots stay, and so many blocks
pub same : {D : Type 0} {g : Ghosts D} {old new : Paged D}
    → g.block_count new.dev ≡ g.block_count old.dev → length new.spare ≡ length old.spare
    → IsOnImage g old → IsOnImage g new
same count spare on = record {
  size = count ∙ on.size ∙ ap image_blocks (sym spare);
  slots = subst (λ (n : ℕ). n ≤ slot_limit) (sym spare) on.slots;
}

-- as they do in each call of a store of nodes
pub kept : {D : Type 0} {g : Ghosts D} {old new : Paged D} → KeepsSaved g old new
    → IsOnImage g old → IsOnImage g new
kept k on = same k.device.count (ap (λ (s : List Bool). length s) k.spare) on

-- and where nodes are moved to their slots
pub spilled : {D : Type 0} {g : Ghosts D} {old new : Paged D} → Spills g old new
    → IsOnImage g old → IsOnImage g new
spilled {D} s on = same s.moves.stays.count (ap (λ (p : Paged D). length p.spare) s.rest) on

-- and where what was written becomes the last checkpoint
pub marked : {D : Type 0} {g : Ghosts D} {old new : Paged D} (w : Written)
    → IsReady old.spare (spots_of old) old.root old.next w → new ≡ saved_as w old
    → IsOnImage g old → IsOnImage g new
marked {D} {g} w ready is on =
    same (ap (λ (p : Paged D). g.block_count p.dev) is)
    (ap (λ (p : Paged D). length p.spare) is ∙ ready.spare_is.count) on

pub ruleset images = (kept, spilled)
