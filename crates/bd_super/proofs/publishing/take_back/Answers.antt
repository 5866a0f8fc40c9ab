use Rattle.std.proofs.Common.{Option, IfSome, subst, inl, arith}
use Rattle.std.proofs.lemmas.Result.{on_ok_weaker}
use Rattle.bd_device.specs.Blocks.{Image}
use Rattle.bd_device.specs.Moments.{Nothing, TornAt, Elapses}
use Rattle.bd_device.proofs.Moments.{goes_on, within, after}
use Rattle.bd_super.specs.Superblocks.{commit_block}
use Rattle.bd_device.specs.Commits.{IsCommitted}
use Rattle.bd_device.specs.Changes.{StaysBut}
use Rattle.bd_device.proofs.Changes.{stays_written, stays_changed}
use Rattle.bd_super.specs.Published.{IsOfHalf, IsStaged}
use Rattle.bd_super.proofs.Staging.{torn_back, written_closed, either_way, read_committed}
use Rattle.bd_super.proofs.publishing.take_back.Goals as goal

pub returns-clause-time : goal.returns-clause-time
returns-clause-time g c =
    let D = g.D.Device in
    let half = c.args.half in
    let old = c.args.dev.now in
    let mid = c.read_block.new.dev in
    let new = c.write.new.self in
    let before = D.left_since old (D.call_count old) in
    let P = IsStaged half before in
    let at_read = after Nothing before c.in_ok-read_block.ensures.reads.time (g.met.D.Device.since_earlier mid) (λ image was. was) (λ image none. absurd none) in
    let first = within Nothing P c.in_ok-read_block.ensures.reads.time (λ image none. absurd none) in
    let written : Elapses (D.call_count mid) (D.call_count new) (D.left_since mid) (D.left_since new) (TornAt (commit_block half) (D.left_since mid (D.call_count mid))) =
    subst (λ b. Elapses (D.call_count mid) (D.call_count new) (D.left_since mid) (D.left_since new) (TornAt b (D.left_since mid (D.call_count mid)))) c.commit_block-commit.ensures c.write.ensures.time in
    let committed = read_committed (D.contents old) c.commit_block-commit.result c.in_ok-read_block.field-0 c.in_ok-read_block.ensures.bytes (c.is_committed.ensures.0 c.if-not-is_committed.false) in
    goes_on P (TornAt (commit_block half) (D.left_since mid (D.call_count mid))) first written
    (λ image torn. torn_back (D.contents old) half before c.requires.settled (subst (λ b. IfSome (D.contents old) (λ i. IsCommitted i b)) c.commit_block-commit.ensures committed) c.requires.beside image
    (torn.0, at_read torn.0 torn.1, torn.2, torn.3, torn.4))

pub returns-clause-taken : goal.returns-clause-taken
returns-clause-taken g c =
    let D = g.D.Device in
    let mid = c.read_block.new.dev in
    on_ok_weaker c.write.result
    (λ written. subst (λ b. IfSome (D.contents c.write.new.self) (λ i. ¬ IsCommitted i b)) c.commit_block-commit.ensures
    (written_closed (D.contents mid) (D.contents c.write.new.self) c.commit_block-commit.result (D.block_count c.write.new.self) _ written c.write.ensures.shape
    (omega (arith, c.commit_block-commit.ensures, c.requires.room, c.write.ensures.count, c.in_ok-read_block.ensures.reads.count)) (λ e. omega (arith, e))))
    c.write.ensures.written

pub returns-clause-outside : goal.returns-clause-outside
returns-clause-outside g c =
    let D = g.D.Device in
    let half = c.args.half in
    let mid = c.read_block.new.dev in
    subst (λ (o : Option Image). StaysBut (IsOfHalf half) o (D.contents c.write.new.self)) c.in_ok-read_block.ensures.reads.kept
    (either_way c.write.result c.write.ensures.written c.write.ensures.others
    (λ written. stays_written (IsOfHalf half) c.commit_block-commit.result _ (D.contents mid) (D.contents c.write.new.self) (inl c.commit_block-commit.ensures) written)
    (λ changed. stays_changed (IsOfHalf half) c.commit_block-commit.result (D.contents mid) (D.contents c.write.new.self) (inl c.commit_block-commit.ensures) changed))
