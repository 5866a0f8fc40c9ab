use Rattle.std.proofs.Common.{◌≡◌, ℕ, ◌≤◌, length, sym, ap, ◌∙◌, arith}
use Rattle.bd_slots.specs.Layout.{image_blocks}
use Rattle.rows_tree.proofs.stored.Stored.open.Goals as goal

pub invariant_of-result : goal.invariant_of-result
invariant_of-result g c =
    let count : length c.in-Ok.pager.spare ≡ c.args.saved.slots = c.in-Ok.ensures.opened.spare.count in
    record {
      size = c.in-Ok.ensures.reads.count ∙ sym c.blocks-else-slots-gt-MAX_SLOTS.ensures.count ∙ c.if-blocks-image_blocks.false ∙ c.image_blocks.ensures ∙ ap image_blocks (sym count);
      slots = omega (arith, count, c.if-slots-gt-MAX_SLOTS.false);
    }
