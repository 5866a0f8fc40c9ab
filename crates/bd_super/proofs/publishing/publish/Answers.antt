use Rattle.std.proofs.Common.{◌≡◌, subst, ◌∙◌, inl, inr, arith}
use Rattle.std.proofs.lemmas.Result.{on_ok_weaker}
use Rattle.bd_device.specs.Blocks.{with_block}
use Rattle.bd_device.specs.Moments.{TornAt, Elapses}
use Rattle.bd_device.proofs.Moments.{goes_on, within, after}
use Rattle.bd_wire.specs.Text.{zeros}
use Rattle.bd_super.specs.Superblocks.{super_body, commit_block, body_block, log_block}
use Rattle.bd_device.proofs.Changes.{stays_both, stays_written, stays_changed}
use Rattle.bd_super.specs.Published.{IsOfHalf, IsStaged, IsStagedOrPublished}
use Rattle.bd_super.proofs.Staging.{staged_same, either_way}
use Rattle.bd_super.proofs.Ready.{log_first, ready, torn_commit, torn_log_staged, torn_body_staged, closed_log, published_known}
use Rattle.bd_super.proofs.publishing.publish.Goals as goal

pub settle-requires : goal.settle-requires
settle-requires g c = omega (arith, c.log_block.ensures, c.in_ok-take_back.ensures.stays.count, c.requires.size, log_first c.args.s.now.half)

pub returns-in_err-settle-clause-time : goal.returns-in_err-settle-clause-time
returns-in_err-settle-clause-time g c =
    let D = g.D.Device in
    let s = c.args.s.now in
    let half = s.half in
    let old = c.args.dev.now in
    let known = D.contents old in
    let before = D.left_since old (D.call_count old) in
    let S = IsStaged half before in
    let P = IsStagedOrPublished s known before in
    let d1 = c.take_back.new.dev in
    let left1 = D.left_since d1 (D.call_count d1) in
    let time1 = c.in_ok-take_back.ensures.time in
    let now1 = after S S time1 (g.met.D.Device.since_earlier d1) (staged_same half before) (λ _ staged. staged) in
    let d2 = c.settle.new.dev in
    let left2 = D.left_since d2 (D.call_count d2) in
    let time2 : Elapses (D.call_count d1) (D.call_count d2) (D.left_since d1) (D.left_since d2) (TornAt (log_block half) left1) =
    subst (λ b. Elapses (D.call_count d1) (D.call_count d2) (D.left_since d1) (D.left_since d2) (TornAt b left1)) c.log_block.ensures c.settle.ensures.time in
    let so_far2 = goes_on S (TornAt (log_block half) left1) time1 time2 (torn_log_staged half before left1 now1) in
    within S P so_far2 (λ _ staged. inl staged)

pub returns-in_err-settle-2-clause-time : goal.returns-in_err-settle-2-clause-time
returns-in_err-settle-2-clause-time g c =
    let D = g.D.Device in
    let s = c.args.s.now in
    let half = s.half in
    let old = c.args.dev.now in
    let known = D.contents old in
    let before = D.left_since old (D.call_count old) in
    let S = IsStaged half before in
    let P = IsStagedOrPublished s known before in
    let d1 = c.take_back.new.dev in
    let left1 = D.left_since d1 (D.call_count d1) in
    let time1 = c.in_ok-take_back.ensures.time in
    let now1 = after S S time1 (g.met.D.Device.since_earlier d1) (staged_same half before) (λ _ staged. staged) in
    let d2 = c.settle.new.dev in
    let left2 = D.left_since d2 (D.call_count d2) in
    let time2 : Elapses (D.call_count d1) (D.call_count d2) (D.left_since d1) (D.left_since d2) (TornAt (log_block half) left1) =
    subst (λ b. Elapses (D.call_count d1) (D.call_count d2) (D.left_since d1) (D.left_since d2) (TornAt b left1)) c.log_block.ensures c.settle.ensures.time in
    let so_far2 = goes_on S (TornAt (log_block half) left1) time1 time2 (torn_log_staged half before left1 now1) in
    let now2 = after S S so_far2 (g.met.D.Device.since_earlier d2) (staged_same half before) (λ _ staged. staged) in
    let logged : D.contents d2 ≡ with_block (log_block half) (zeros 4096) (D.contents d1) = subst (λ b. D.contents d2 ≡ with_block b (zeros 4096) (D.contents d1)) c.log_block.ensures c.in_ok-settle.ensures.written in
    let closed2 = closed_log (D.contents d1) (D.contents d2) half (zeros 4096) c.in_ok-take_back.ensures.taken logged in
    let d3 = c.settle-2.new.dev in
    let left3 = D.left_since d3 (D.call_count d3) in
    let time3 : Elapses (D.call_count d2) (D.call_count d3) (D.left_since d2) (D.left_since d3) (TornAt (body_block half) left2) =
    subst (λ b. Elapses (D.call_count d2) (D.call_count d3) (D.left_since d2) (D.left_since d3) (TornAt b left2)) c.body_block.ensures c.settle-2.ensures.time in
    let so_far3 = goes_on S (TornAt (body_block half) left2) so_far2 time3 (torn_body_staged half (D.contents d2) before left2 closed2 c.in_ok-settle.ensures.durable now2) in
    within S P so_far3 (λ _ staged. inl staged)

pub returns-clause-time : goal.returns-clause-time
returns-clause-time g c =
    let D = g.D.Device in
    let s = c.args.s.now in
    let half = s.half in
    let old = c.args.dev.now in
    let known = D.contents old in
    let before = D.left_since old (D.call_count old) in
    let S = IsStaged half before in
    let P = IsStagedOrPublished s known before in
    let d1 = c.take_back.new.dev in
    let left1 = D.left_since d1 (D.call_count d1) in
    let time1 = c.in_ok-take_back.ensures.time in
    let now1 = after S S time1 (g.met.D.Device.since_earlier d1) (staged_same half before) (λ _ staged. staged) in
    let d2 = c.settle.new.dev in
    let left2 = D.left_since d2 (D.call_count d2) in
    let time2 : Elapses (D.call_count d1) (D.call_count d2) (D.left_since d1) (D.left_since d2) (TornAt (log_block half) left1) =
    subst (λ b. Elapses (D.call_count d1) (D.call_count d2) (D.left_since d1) (D.left_since d2) (TornAt b left1)) c.log_block.ensures c.settle.ensures.time in
    let so_far2 = goes_on S (TornAt (log_block half) left1) time1 time2 (torn_log_staged half before left1 now1) in
    let now2 = after S S so_far2 (g.met.D.Device.since_earlier d2) (staged_same half before) (λ _ staged. staged) in
    let logged : D.contents d2 ≡ with_block (log_block half) (zeros 4096) (D.contents d1) = subst (λ b. D.contents d2 ≡ with_block b (zeros 4096) (D.contents d1)) c.log_block.ensures c.in_ok-settle.ensures.written in
    let closed2 = closed_log (D.contents d1) (D.contents d2) half (zeros 4096) c.in_ok-take_back.ensures.taken logged in
    let d3 = c.settle-2.new.dev in
    let left3 = D.left_since d3 (D.call_count d3) in
    let time3 : Elapses (D.call_count d2) (D.call_count d3) (D.left_since d2) (D.left_since d3) (TornAt (body_block half) left2) =
    subst (λ b. Elapses (D.call_count d2) (D.call_count d3) (D.left_since d2) (D.left_since d3) (TornAt b left2)) c.body_block.ensures c.settle-2.ensures.time in
    let so_far3 = goes_on S (TornAt (body_block half) left2) so_far2 time3 (torn_body_staged half (D.contents d2) before left2 closed2 c.in_ok-settle.ensures.durable now2) in
    let now3 = after S S so_far3 (g.met.D.Device.since_earlier d3) (staged_same half before) (λ _ staged. staged) in
    let settled : D.contents d3 ≡ with_block (body_block half) (super_body s) (D.contents d2) =
    subst (λ l. D.contents d3 ≡ with_block (body_block half) l (D.contents d2)) c.body.ensures (subst (λ b. D.contents d3 ≡ with_block b c.body.result (D.contents d2)) c.body_block.ensures c.in_ok-settle-2.ensures.written) in
    let is_ready = ready known (D.contents d1) (D.contents d2) (D.contents d3) s (D.block_count d3) (zeros 4096) c.in_ok-take_back.ensures.outside c.in_ok-take_back.ensures.taken logged (λ e. omega (arith, e)) settled c.in_ok-settle-2.ensures.shape
    (c.in_ok-settle-2.ensures.stays.count ∙ c.in_ok-settle.ensures.stays.count ∙ c.in_ok-take_back.ensures.stays.count ∙ c.requires.size) in
    let d4 = c.settle-3.new.dev in
    let time4 : Elapses (D.call_count d3) (D.call_count d4) (D.left_since d3) (D.left_since d4) (TornAt (commit_block half) left3) =
    subst (λ b. Elapses (D.call_count d3) (D.call_count d4) (D.left_since d3) (D.left_since d4) (TornAt b left3)) c.commit_block.ensures c.settle-3.ensures.time in
    goes_on P (TornAt (commit_block half) left3) (within S P so_far3 (λ _ staged. inl staged)) time4
    (torn_commit known (D.contents d3) s before left3 is_ready c.in_ok-settle-2.ensures.durable now3 c.requires.follows c.requires.fits)

pub returns-clause-published : goal.returns-clause-published
returns-clause-published g c =
    let D = g.D.Device in
    let s = c.args.s.now in
    let half = s.half in
    let known = D.contents c.args.dev.now in
    let d1 = c.take_back.new.dev in
    let d2 = c.settle.new.dev in
    let d3 = c.settle-2.new.dev in
    let logged : D.contents d2 ≡ with_block (log_block half) (zeros 4096) (D.contents d1) = subst (λ b. D.contents d2 ≡ with_block b (zeros 4096) (D.contents d1)) c.log_block.ensures c.in_ok-settle.ensures.written in
    let settled : D.contents d3 ≡ with_block (body_block half) (super_body s) (D.contents d2) =
    subst (λ l. D.contents d3 ≡ with_block (body_block half) l (D.contents d2)) c.body.ensures (subst (λ b. D.contents d3 ≡ with_block b c.body.result (D.contents d2)) c.body_block.ensures c.in_ok-settle-2.ensures.written) in
    let is_ready = ready known (D.contents d1) (D.contents d2) (D.contents d3) s (D.block_count d3) (zeros 4096) c.in_ok-take_back.ensures.outside c.in_ok-take_back.ensures.taken logged (λ e. omega (arith, e)) settled c.in_ok-settle-2.ensures.shape
    (c.in_ok-settle-2.ensures.stays.count ∙ c.in_ok-settle.ensures.stays.count ∙ c.in_ok-take_back.ensures.stays.count ∙ c.requires.size) in
    let d4 = c.settle-3.new.dev in
    on_ok_weaker c.settle-3.result
    (λ written. published_known known (D.contents d3) (D.contents d4) s c.committed_block.result is_ready
    (subst (λ b. D.contents d4 ≡ with_block b c.committed_block.result (D.contents d3)) c.commit_block.ensures written) c.requires.follows c.requires.fits c.committed_block.ensures)
    c.settle-3.ensures.written

pub returns-in_err-settle-clause-outside : goal.returns-in_err-settle-clause-outside
returns-in_err-settle-clause-outside g c =
    let D = g.D.Device in
    let half = c.args.s.now.half in
    let known = D.contents c.args.dev.now in
    let d1 = D.contents c.take_back.new.dev in
    let d2 = D.contents c.settle.new.dev in
    let log = inr (inr c.log_block.ensures) in
    stays_both (IsOfHalf half) known d1 d2 c.in_ok-take_back.ensures.outside
    (either_way c.settle.result c.settle.ensures.written c.settle.ensures.others (stays_written (IsOfHalf half) c.log_block.result _ d1 d2 log) (stays_changed (IsOfHalf half) c.log_block.result d1 d2 log))

pub returns-in_err-settle-2-clause-outside : goal.returns-in_err-settle-2-clause-outside
returns-in_err-settle-2-clause-outside g c =
    let D = g.D.Device in
    let half = c.args.s.now.half in
    let known = D.contents c.args.dev.now in
    let d1 = D.contents c.take_back.new.dev in
    let d2 = D.contents c.settle.new.dev in
    let d3 = D.contents c.settle-2.new.dev in
    let body = inr (inl c.body_block.ensures) in
    stays_both (IsOfHalf half) known d1 d3 c.in_ok-take_back.ensures.outside
    (stays_both (IsOfHalf half) d1 d2 d3 (stays_written (IsOfHalf half) c.log_block.result _ d1 d2 (inr (inr c.log_block.ensures)) c.in_ok-settle.ensures.written)
    (either_way c.settle-2.result c.settle-2.ensures.written c.settle-2.ensures.others (stays_written (IsOfHalf half) c.body_block.result _ d2 d3 body) (stays_changed (IsOfHalf half) c.body_block.result d2 d3 body)))

pub returns-clause-outside : goal.returns-clause-outside
returns-clause-outside g c =
    let D = g.D.Device in
    let half = c.args.s.now.half in
    let known = D.contents c.args.dev.now in
    let d1 = D.contents c.take_back.new.dev in
    let d2 = D.contents c.settle.new.dev in
    let d3 = D.contents c.settle-2.new.dev in
    let d4 = D.contents c.settle-3.new.dev in
    let commit = inl c.commit_block.ensures in
    stays_both (IsOfHalf half) known d1 d4 c.in_ok-take_back.ensures.outside
    (stays_both (IsOfHalf half) d1 d2 d4 (stays_written (IsOfHalf half) c.log_block.result _ d1 d2 (inr (inr c.log_block.ensures)) c.in_ok-settle.ensures.written)
    (stays_both (IsOfHalf half) d2 d3 d4 (stays_written (IsOfHalf half) c.body_block.result _ d2 d3 (inr (inl c.body_block.ensures)) c.in_ok-settle-2.ensures.written)
    (either_way c.settle-3.result c.settle-3.ensures.written c.settle-3.ensures.others (stays_written (IsOfHalf half) c.commit_block.result _ d3 d4 commit) (stays_changed (IsOfHalf half) c.commit_block.result d3 d4 commit))))
