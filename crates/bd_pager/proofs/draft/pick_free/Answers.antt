use Rattle.std.proofs.Common.{◌≡◌, ◌<◌, ℕ, ◌+◌, sym, subst, ◌∙◌, arith, length, inl, inr, List}
use Rattle.std.proofs.lemmas.Bool.{true≢false}
use Rattle.bd_pager.proofs.DraftLemmas.{ArePicked, one_picked, none_picked}
use Rattle.bd_pager.proofs.draft.pick_free.Goals as goal
use Rattle.bd_pager.proofs.draft.pick_free.Goals.{then-picked-at+then-is_free, else-picked-at, else-picked-at-via-then-picked-at+else-is_free, else-picked-at-via-else-picked-at}

pub loop-slot-preserved : goal.loop-slot-preserved
loop-slot-preserved c =
    let free = c.args.free.now in
    let total = length c.args.at.now in
    let l = c.loop-slot in
    let low : l.slot < length free = omega (arith, c.loop-slot-test.true, c.count-slot-end.ensures) in
    let as_is : (picked : ℕ) (at : List ℕ) → c.if-picked-at.picked ≡ picked → c.if-picked-at.at ≡ at → ArePicked free total (l.slot + 1) picked at → ArePicked free total (l.slot + 1) c.if-picked-at.picked c.if-picked-at.at =
    λ picked at picked_is at_is h. subst (λ (k : ℕ). ArePicked free total (l.slot + 1) k c.if-picked-at.at) (sym picked_is) (subst (λ (x : List ℕ). ArePicked free total (l.slot + 1) picked x) (sym at_is) h) in
    elim c.if-picked-at.branch [
      | then-picked-at+then-is_free w ↦
          as_is _ _ w.picked-is w.at-is (one_picked free total l.slot l.picked l.at low (w.is_free.ensures.0 w.if-is_free.true) (omega (arith, w.if-picked-at.true, l.invariant.size)) l.invariant)
      | else-picked-at w ↦
          as_is _ _ w.picked-is w.at-is (none_picked free total l.slot l.picked l.at low
          (elim w.else-picked-at.branch [
            | else-picked-at-via-then-picked-at+else-is_free v ↦ inr (λ is. true≢false (sym (v.is_free.ensures.1 is) ∙ v.if-is_free.false))
            | else-picked-at-via-else-picked-at v ↦ inl (omega (arith, v.if-picked-at.false, l.invariant.size))
          ])
          l.invariant)
    ]
