use Rattle.std.proofs.Common.{ap, ◌∙◌, refl, arith}
use Rattle.bd_device.specs.Moments.{Nothing}
use Rattle.bd_device.proofs.Moments.{goes_on, by_name}
use Rattle.bd_device.proofs.Refusals.{IfNone-always}
use Rattle.bd_mirror.specs.Calls.{shown_now, attached_as}
use Rattle.bd_mirror.proofs.Attaching.{pair_shown, marks_now, equal_now}
use Rattle.bd_mirror.proofs.Behind.{pair_behind, pair_joined}
use Rattle.bd_mirror.proofs.Copies.{elapses_none}
use Rattle.bd_mirror.proofs.Crashes.{none_then, loses_before, loses_joined}
use Rattle.bd_mirror.proofs.Marks.{OnOk-always}
use Rattle.bd_mirror.proofs.Past.{goes_apart, goes_joined}
use Rattle.std.specs.Prelude.{is_some}
use Rattle.bd_mirror.proofs.Named.{both_sized, together_known}
use Rattle.bd_mirror.proofs.Told.{told_by}
use Rattle.bd_mirror.proofs.parts.Parts.attach_pair.Goals as goal

pub join-requires-clause-first_settled : goal.join-requires-clause-first_settled
join-requires-clause-first_settled g c = λ some. c.in_ok-barrier.ensures.durable (omega (arith, some, c.barrier.ensures.count))

pub join-requires-clause-second_settled : goal.join-requires-clause-second_settled
join-requires-clause-second_settled g c = λ some. c.in_ok-barrier-2.ensures.durable (omega (arith, some, c.barrier-2.ensures.count))

pub returns-clause-marks : goal.returns-clause-marks
returns-clause-marks g c =
    marks_now c.join.result (g.A.Device.block_count c.barrier.new.self) (g.B.Device.block_count c.barrier-2.new.self)
    (g.A.Device.block_count c.join.new.self.first) (g.B.Device.block_count c.join.new.self.second) c.join.ensures.first_stays.count c.join.ensures.second_stays.count c.join.ensures.marks

pub returns-clause-equal : goal.returns-clause-equal
returns-clause-equal g c =
    equal_now c.join.result (g.A.Device.block_count c.barrier.new.self) (g.B.Device.block_count c.barrier-2.new.self)
    (g.A.Device.block_count c.join.new.self.first) (g.B.Device.block_count c.join.new.self.second) c.join.ensures.first_stays.count c.join.ensures.second_stays.count c.join.ensures.equal

pub returns-clause-shown : goal.returns-clause-shown
returns-clause-shown g c =
    pair_shown c.join.result c.args.size (λ at. shown_now g.A.Device g.B.Device (attached_as at c.join.new.self))
    (g.A.Device.block_count c.barrier.new.self) (g.B.Device.block_count c.barrier-2.new.self)
    (g.A.Device.block_count c.join.new.self.first) (g.B.Device.block_count c.join.new.self.second)
    (g.A.Device.contents c.barrier.new.self) (g.B.Device.contents c.barrier-2.new.self) (g.A.Device.contents c.attach.new.self) (g.B.Device.contents c.attach-2.new.self)
    (g.A.Attach.shows c.args.self.now.first c.args.first.now) (g.B.Attach.shows c.args.self.now.second c.args.second.now)
    c.join.ensures.first_stays.count c.join.ensures.second_stays.count c.barrier.ensures.kept c.barrier-2.ensures.kept
    c.in_ok-attach.ensures.shown c.in_ok-attach-2.ensures.shown c.join.ensures.shown

-- ---- what a crash inside it may leave

pub returns-in_err-attach-clause-inside : goal.returns-in_err-attach-clause-inside
returns-in_err-attach-clause-inside g c =
    loses_before c.args.size (λ d. g.A.Attach.shows d c.args.first.now) (λ d. g.B.Attach.shows d c.args.second.now)
    (λ d. g.A.Attach.left_behind d c.args.first.now) (λ d. g.B.Attach.left_behind d c.args.second.now)
    g.A.Device.call_count g.B.Device.call_count c.args.self.now.first c.attach.new.self c.args.self.now.second c.args.self.now.second
    c.in_err-attach.ensures.behind_time
    (IfNone-always c.args.size (elapses_none (g.B.Device.call_count c.args.self.now.second) (g.B.Attach.left_behind c.args.self.now.second c.args.second.now) Nothing))

pub returns-in_err-attach-2-clause-inside : goal.returns-in_err-attach-2-clause-inside
returns-in_err-attach-2-clause-inside g c =
    loses_before c.args.size (λ d. g.A.Attach.shows d c.args.first.now) (λ d. g.B.Attach.shows d c.args.second.now)
    (λ d. g.A.Attach.left_behind d c.args.first.now) (λ d. g.B.Attach.left_behind d c.args.second.now)
    g.A.Device.call_count g.B.Device.call_count c.args.self.now.first c.attach.new.self c.args.self.now.second c.attach-2.new.self
    (none_then c.args.size c.in_ok-attach.ensures.time (λ time. by_name Nothing time
    (λ t image. g.met.A.Attach.left_named c.attach.new.self c.args.first.now t image c.in_ok-attach.ensures.named)))
    c.in_err-attach-2.ensures.behind_time

pub returns-in_err-barrier-clause-inside : goal.returns-in_err-barrier-clause-inside
returns-in_err-barrier-clause-inside g c =
    loses_before c.args.size (λ d. g.A.Attach.shows d c.args.first.now) (λ d. g.B.Attach.shows d c.args.second.now)
    (λ d. g.A.Attach.left_behind d c.args.first.now) (λ d. g.B.Attach.left_behind d c.args.second.now)
    g.A.Device.call_count g.B.Device.call_count c.args.self.now.first c.barrier.new.self c.args.self.now.second c.attach-2.new.self
    (none_then c.args.size c.in_ok-attach.ensures.time (λ time. by_name Nothing (goes_on Nothing Nothing time c.barrier.ensures.time (λ image none. none))
    (λ t image. g.met.A.Attach.left_named c.barrier.new.self c.args.first.now t image (c.barrier.ensures.same_name c.args.first.now c.in_ok-attach.ensures.named))))
    (none_then c.args.size c.in_ok-attach-2.ensures.time (λ time. by_name Nothing time
    (λ t image. g.met.B.Attach.left_named c.attach-2.new.self c.args.second.now t image c.in_ok-attach-2.ensures.named)))

pub returns-in_err-barrier-2-clause-inside : goal.returns-in_err-barrier-2-clause-inside
returns-in_err-barrier-2-clause-inside g c =
    loses_before c.args.size (λ d. g.A.Attach.shows d c.args.first.now) (λ d. g.B.Attach.shows d c.args.second.now)
    (λ d. g.A.Attach.left_behind d c.args.first.now) (λ d. g.B.Attach.left_behind d c.args.second.now)
    g.A.Device.call_count g.B.Device.call_count c.args.self.now.first c.barrier.new.self c.args.self.now.second c.barrier-2.new.self
    (none_then c.args.size c.in_ok-attach.ensures.time (λ time. by_name Nothing (goes_on Nothing Nothing time c.barrier.ensures.time (λ image none. none))
    (λ t image. g.met.A.Attach.left_named c.barrier.new.self c.args.first.now t image (c.barrier.ensures.same_name c.args.first.now c.in_ok-attach.ensures.named))))
    (none_then c.args.size c.in_ok-attach-2.ensures.time (λ time. by_name Nothing (goes_on Nothing Nothing time c.barrier-2.ensures.time (λ image none. none))
    (λ t image. g.met.B.Attach.left_named c.barrier-2.new.self c.args.second.now t image (c.barrier-2.ensures.same_name c.args.second.now c.in_ok-attach-2.ensures.named))))

pub returns-clause-inside : goal.returns-clause-inside
returns-clause-inside g c =
    loses_joined g.A.Device g.B.Device c.args.size c.args.first.now c.args.second.now (λ d. g.A.Attach.shows d c.args.first.now) (λ d. g.B.Attach.shows d c.args.second.now)
    (λ d. g.A.Attach.left_behind d c.args.first.now) (λ d. g.B.Attach.left_behind d c.args.second.now)
    c.args.self.now.first c.attach.new.self c.barrier.new.self c.join.new.self.first
    c.args.self.now.second c.attach-2.new.self c.barrier-2.new.self c.join.new.self.second
    c.in_ok-attach.ensures.shown c.in_ok-attach-2.ensures.shown c.barrier.ensures.kept c.barrier-2.ensures.kept c.barrier.ensures.count c.barrier-2.ensures.count
    c.attach.ensures.shape c.attach-2.ensures.shape
    (none_then c.args.size c.in_ok-attach.ensures.time (λ time. by_name Nothing (goes_on Nothing Nothing time c.barrier.ensures.time (λ image none. none))
    (λ t image. g.met.A.Attach.left_named c.barrier.new.self c.args.first.now t image (c.barrier.ensures.same_name c.args.first.now c.in_ok-attach.ensures.named))))
    (none_then c.args.size c.in_ok-attach-2.ensures.time (λ time. by_name Nothing (goes_on Nothing Nothing time c.barrier-2.ensures.time (λ image none. none))
    (λ t image. g.met.B.Attach.left_named c.barrier-2.new.self c.args.second.now t image (c.barrier-2.ensures.same_name c.args.second.now c.in_ok-attach-2.ensures.named))))
    (c.barrier.ensures.same_name c.args.first.now c.in_ok-attach.ensures.named) (c.barrier-2.ensures.same_name c.args.second.now c.in_ok-attach-2.ensures.named)
    (λ d t image named. g.met.A.Attach.left_named d c.args.first.now t image named) (λ d t image named. g.met.B.Attach.left_named d c.args.second.now t image named)
    g.met.A.Device.since_earlier g.met.B.Device.since_earlier c.join.ensures.first_holds c.join.ensures.second_holds c.join.ensures.inside

-- ---- what it may leave since an earlier call

pub returns-in_err-attach-clause-by_names : goal.returns-in_err-attach-clause-by_names
returns-in_err-attach-clause-by_names g c =
    goes_apart c.args.size (λ d. g.A.Attach.shows d c.args.first.now) (λ d. g.B.Attach.shows d c.args.second.now)
    (λ d. g.A.Attach.left_behind d c.args.first.now) (λ d. g.B.Attach.left_behind d c.args.second.now)
    g.A.Device.call_count g.B.Device.call_count c.args.self.now.first c.attach.new.self c.args.self.now.second c.args.self.now.second
    c.in_err-attach.ensures.behind_time
    (IfNone-always c.args.size (elapses_none (g.B.Device.call_count c.args.self.now.second) (g.B.Attach.left_behind c.args.self.now.second c.args.second.now) Nothing))

pub returns-in_err-attach-2-clause-by_names : goal.returns-in_err-attach-2-clause-by_names
returns-in_err-attach-2-clause-by_names g c =
    goes_apart c.args.size (λ d. g.A.Attach.shows d c.args.first.now) (λ d. g.B.Attach.shows d c.args.second.now)
    (λ d. g.A.Attach.left_behind d c.args.first.now) (λ d. g.B.Attach.left_behind d c.args.second.now)
    g.A.Device.call_count g.B.Device.call_count c.args.self.now.first c.attach.new.self c.args.self.now.second c.attach-2.new.self
    (none_then c.args.size c.in_ok-attach.ensures.time (λ time. by_name Nothing time
    (λ t image. g.met.A.Attach.left_named c.attach.new.self c.args.first.now t image c.in_ok-attach.ensures.named)))
    c.in_err-attach-2.ensures.behind_time

pub returns-in_err-barrier-clause-by_names : goal.returns-in_err-barrier-clause-by_names
returns-in_err-barrier-clause-by_names g c =
    goes_apart c.args.size (λ d. g.A.Attach.shows d c.args.first.now) (λ d. g.B.Attach.shows d c.args.second.now)
    (λ d. g.A.Attach.left_behind d c.args.first.now) (λ d. g.B.Attach.left_behind d c.args.second.now)
    g.A.Device.call_count g.B.Device.call_count c.args.self.now.first c.barrier.new.self c.args.self.now.second c.attach-2.new.self
    (none_then c.args.size c.in_ok-attach.ensures.time (λ time. by_name Nothing (goes_on Nothing Nothing time c.barrier.ensures.time (λ image none. none))
    (λ t image. g.met.A.Attach.left_named c.barrier.new.self c.args.first.now t image (c.barrier.ensures.same_name c.args.first.now c.in_ok-attach.ensures.named))))
    (none_then c.args.size c.in_ok-attach-2.ensures.time (λ time. by_name Nothing time
    (λ t image. g.met.B.Attach.left_named c.attach-2.new.self c.args.second.now t image c.in_ok-attach-2.ensures.named)))

pub returns-in_err-barrier-2-clause-by_names : goal.returns-in_err-barrier-2-clause-by_names
returns-in_err-barrier-2-clause-by_names g c =
    goes_apart c.args.size (λ d. g.A.Attach.shows d c.args.first.now) (λ d. g.B.Attach.shows d c.args.second.now)
    (λ d. g.A.Attach.left_behind d c.args.first.now) (λ d. g.B.Attach.left_behind d c.args.second.now)
    g.A.Device.call_count g.B.Device.call_count c.args.self.now.first c.barrier.new.self c.args.self.now.second c.barrier-2.new.self
    (none_then c.args.size c.in_ok-attach.ensures.time (λ time. by_name Nothing (goes_on Nothing Nothing time c.barrier.ensures.time (λ image none. none))
    (λ t image. g.met.A.Attach.left_named c.barrier.new.self c.args.first.now t image (c.barrier.ensures.same_name c.args.first.now c.in_ok-attach.ensures.named))))
    (none_then c.args.size c.in_ok-attach-2.ensures.time (λ time. by_name Nothing (goes_on Nothing Nothing time c.barrier-2.ensures.time (λ image none. none))
    (λ t image. g.met.B.Attach.left_named c.barrier-2.new.self c.args.second.now t image (c.barrier-2.ensures.same_name c.args.second.now c.in_ok-attach-2.ensures.named))))

pub returns-clause-by_names : goal.returns-clause-by_names
returns-clause-by_names g c =
    goes_joined g.A.Device g.B.Device c.args.size c.args.first.now c.args.second.now (λ d. g.A.Attach.shows d c.args.first.now) (λ d. g.B.Attach.shows d c.args.second.now)
    (λ d. g.A.Attach.left_behind d c.args.first.now) (λ d. g.B.Attach.left_behind d c.args.second.now)
    c.args.self.now.first c.attach.new.self c.barrier.new.self c.join.new.self.first
    c.args.self.now.second c.attach-2.new.self c.barrier-2.new.self c.join.new.self.second
    c.in_ok-attach.ensures.shown c.in_ok-attach-2.ensures.shown c.barrier.ensures.kept c.barrier-2.ensures.kept c.barrier.ensures.count c.barrier-2.ensures.count
    c.attach.ensures.shape c.attach-2.ensures.shape
    (none_then c.args.size c.in_ok-attach.ensures.time (λ time. by_name Nothing (goes_on Nothing Nothing time c.barrier.ensures.time (λ image none. none))
    (λ t image. g.met.A.Attach.left_named c.barrier.new.self c.args.first.now t image (c.barrier.ensures.same_name c.args.first.now c.in_ok-attach.ensures.named))))
    (none_then c.args.size c.in_ok-attach-2.ensures.time (λ time. by_name Nothing (goes_on Nothing Nothing time c.barrier-2.ensures.time (λ image none. none))
    (λ t image. g.met.B.Attach.left_named c.barrier-2.new.self c.args.second.now t image (c.barrier-2.ensures.same_name c.args.second.now c.in_ok-attach-2.ensures.named))))
    (c.barrier.ensures.same_name c.args.first.now c.in_ok-attach.ensures.named) (c.barrier-2.ensures.same_name c.args.second.now c.in_ok-attach-2.ensures.named)
    (λ d t image named. g.met.A.Attach.left_named d c.args.first.now t image named) (λ d t image named. g.met.B.Attach.left_named d c.args.second.now t image named)
    g.met.A.Device.since_earlier g.met.B.Device.since_earlier c.join.ensures.first_holds c.join.ensures.second_holds c.join.ensures.inside

-- ---- what both show afterwards

pub returns-in_err-attach-clause-behind : goal.returns-in_err-attach-clause-behind
returns-in_err-attach-clause-behind g c =
    pair_behind c.args.size _ _ _ _ c.in_err-attach.ensures.behind (IfNone-always c.args.size refl)

pub returns-in_err-attach-2-clause-behind : goal.returns-in_err-attach-2-clause-behind
returns-in_err-attach-2-clause-behind g c =
    pair_behind c.args.size _ _ _ _
    (none_then c.args.size c.in_ok-attach.ensures.shown (λ e. g.met.A.Attach.shows_named c.attach.new.self c.args.first.now c.in_ok-attach.ensures.named ∙ e))
    c.in_err-attach-2.ensures.behind

pub returns-in_err-barrier-clause-behind : goal.returns-in_err-barrier-clause-behind
returns-in_err-barrier-clause-behind g c =
    pair_behind c.args.size _ _ _ _
    (none_then c.args.size c.in_ok-attach.ensures.shown (λ e. g.met.A.Attach.shows_named c.barrier.new.self c.args.first.now (c.barrier.ensures.same_name c.args.first.now c.in_ok-attach.ensures.named) ∙ c.barrier.ensures.kept ∙ e))
    (none_then c.args.size c.in_ok-attach-2.ensures.shown (λ e. g.met.B.Attach.shows_named c.attach-2.new.self c.args.second.now c.in_ok-attach-2.ensures.named ∙ e))

pub returns-in_err-barrier-2-clause-behind : goal.returns-in_err-barrier-2-clause-behind
returns-in_err-barrier-2-clause-behind g c =
    pair_behind c.args.size _ _ _ _
    (none_then c.args.size c.in_ok-attach.ensures.shown (λ e. g.met.A.Attach.shows_named c.barrier.new.self c.args.first.now (c.barrier.ensures.same_name c.args.first.now c.in_ok-attach.ensures.named) ∙ c.barrier.ensures.kept ∙ e))
    (none_then c.args.size c.in_ok-attach-2.ensures.shown (λ e. g.met.B.Attach.shows_named c.barrier-2.new.self c.args.second.now (c.barrier-2.ensures.same_name c.args.second.now c.in_ok-attach-2.ensures.named) ∙ c.barrier-2.ensures.kept ∙ e))

pub returns-clause-behind : goal.returns-clause-behind
returns-clause-behind g c =
    let named_a = c.join.ensures.first_stays.same_name c.args.first.now (c.barrier.ensures.same_name c.args.first.now c.in_ok-attach.ensures.named) in
    let named_b = c.join.ensures.second_stays.same_name c.args.second.now (c.barrier-2.ensures.same_name c.args.second.now c.in_ok-attach-2.ensures.named) in
    pair_joined c.args.size _ _ _ _ _ _ _ _ (g.met.A.Attach.shows_named c.join.new.self.first c.args.first.now named_a) (g.met.B.Attach.shows_named c.join.new.self.second c.args.second.now named_b)
    c.join.ensures.behind (none_then c.args.size c.in_ok-attach.ensures.shown (λ e. c.barrier.ensures.kept ∙ e)) (none_then c.args.size c.in_ok-attach-2.ensures.shown (λ e. c.barrier-2.ensures.kept ∙ e))

-- ---- names

pub returns-clause-first_named : goal.returns-clause-first_named
returns-clause-first_named g c =
    OnOk-always c.join.result (c.join.ensures.first_stays.same_name c.args.first.now (c.barrier.ensures.same_name c.args.first.now c.in_ok-attach.ensures.named))

pub returns-clause-second_named : goal.returns-clause-second_named
returns-clause-second_named g c =
    OnOk-always c.join.result (c.join.ensures.second_stays.same_name c.args.second.now (c.barrier-2.ensures.same_name c.args.second.now c.in_ok-attach-2.ensures.named))

-- ---- what is known

pub returns-clause-told : goal.returns-clause-told
returns-clause-told g c =
    let new = c.join.new.self in
    let joined = together_known (g.A.Device.contents c.barrier.new.self) (g.A.Device.contents new.first) (g.B.Device.contents c.barrier-2.new.self) (g.B.Device.contents new.second) c.join.ensures.behind in
    OnOk-always c.join.result (both_sized c.args.size c.in_ok-attach.ensures.told c.in_ok-attach-2.ensures.told (λ e f.
    joined ∙ told_by (g.A.Device.contents c.args.self.now.first) (g.A.Device.contents c.barrier.new.self) (g.B.Device.contents c.args.self.now.second) (g.B.Device.contents c.barrier-2.new.self)
    (ap is_some c.barrier.ensures.kept ∙ e) (ap is_some c.barrier-2.ensures.kept ∙ f)))
