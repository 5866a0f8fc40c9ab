use Rattle.std.proofs.Common.{ℕ, List, length, refl, sym, subst, arith}
use Rattle.std.specs.Option.{option_copied}
use Rattle.std.proofs.lemmas.Option.{slice_get_read}
use Rattle.bd_message.proofs.Finds.{not_both}
use Rattle.bd_node.specs.Touching.{CanTouch}
use Rattle.bd_cover.proofs.Cuts.{no_cut_more, no_cut_at_all}
use Rattle.bd_cover.proofs.covering.has_cut.Goals as goal
use Rattle.bd_cover.proofs.covering.has_cut.Goals.{else-edge-at-via-then-edge-at+then-says+else-can_touch, else-edge-at-via-then-edge-at+else-says, else-edge-at-via-else-edge-at}

pub loop-at-preserved : goal.loop-at-preserved
loop-at-preserved c =
    no_cut_more c.args.buffer.now c.args.edge.now (option_copied c.args.hi) c.loop-at.at c.index-buffer-at.result c.loop-at.invariant (slice_get_read c.args.buffer.now (length c.args.buffer.now) c.loop-at.at c.index-buffer-at.result refl c.loop-at-test.true c.index-buffer-at.is)
    (elim c.else-edge-at.branch [
      | else-edge-at-via-then-edge-at+then-says+else-can_touch w ↦ λ unseen says touch.
          not_both (w.can_touch.ensures.1 (subst (λ (l : List ℕ). CanTouch c.index-buffer-at.result l (option_copied c.args.hi)) (sym w.as_slice.ensures) touch)) w.if-can_touch.false
      | else-edge-at-via-then-edge-at+else-says w ↦ λ unseen says touch. not_both (w.says.ensures.1 says) w.if-says.false
      | else-edge-at-via-else-edge-at w ↦ λ unseen says touch. absurd (omega arith)
    ])

pub returns : goal.returns
returns c = (
  (λ never. absurd (not_both never refl)),
  (λ cut. absurd (no_cut_at_all c.args.buffer.now c.args.edge.now (option_copied c.args.hi) c.loop-at.at c.loop-at.invariant c.loop-at-test.false cut)),
)
