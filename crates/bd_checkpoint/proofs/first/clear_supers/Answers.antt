use Rattle.std.proofs.Common.{◌≡◌, ℕ, IfSome, subst, arith}
use Rattle.std.proofs.lemmas.Result.{on_ok_weaker}
use Rattle.bd_device.specs.Blocks.{with_block}
use Rattle.bd_device.specs.Commits.{IsCommitted}
use Rattle.bd_wire.specs.Text.{zeros}
use Rattle.bd_super.proofs.Staging.{written_closed}
use Rattle.bd_checkpoint.proofs.Cleared.{none_committed, still_told}
use Rattle.bd_checkpoint.proofs.first.clear_supers.Goals as goal

pub returns-clause-cleared : goal.returns-clause-cleared
returns-clause-cleared g c =
    let D = g.D.Device in
    let old = c.args.dev.now in
    let mid = c.write.new.self in
    let new = c.settle.new.dev in
    let first = subst (λ (b : ℕ). IfSome (D.contents mid) (λ i. ¬ IsCommitted i b)) c.commit_block.ensures
    (written_closed (D.contents old) (D.contents mid) c.commit_block.result (D.block_count mid) (zeros 4096) c.in_ok-write.ensures.written c.in_ok-write.ensures.shape
    (omega (arith, c.commit_block.ensures, c.requires, c.in_ok-write.ensures.count)) (λ e. omega (arith, e))) in
    on_ok_weaker c.settle.result
    (λ written.
    let second = subst (λ (b : ℕ). IfSome (D.contents new) (λ i. ¬ IsCommitted i b)) c.commit_block-2.ensures
    (written_closed (D.contents mid) (D.contents new) c.commit_block-2.result (D.block_count new) (zeros 4096) written c.settle.ensures.shape
    (omega (arith, c.commit_block-2.ensures, c.requires, c.in_ok-write.ensures.count, c.settle.ensures.stays.count)) (λ e. omega (arith, e))) in
    none_committed (D.contents mid) (D.contents new) (zeros 4096) first
    (subst (λ (b : ℕ). D.contents new ≡ with_block b (zeros 4096) (D.contents mid)) c.commit_block-2.ensures written) second)
    c.settle.ensures.written

pub returns-clause-told : goal.returns-clause-told
returns-clause-told g c =
    let D = g.D.Device in
    let old = c.args.dev.now in
    let mid = c.write.new.self in
    on_ok_weaker c.settle.result
    (λ written. λ told.
    still_told (D.contents mid) (D.contents c.settle.new.dev) c.commit_block-2.result (zeros 4096) written (still_told (D.contents old) (D.contents mid) c.commit_block.result (zeros 4096) c.in_ok-write.ensures.written told))
    c.settle.ensures.written
