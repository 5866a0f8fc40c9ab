use Rattle.std.proofs.Common.{ap, ◌∙◌}
use Rattle.std.specs.Option.{option_map}
use Rattle.bd_device.specs.Moments.{Nothing}
use Rattle.bd_device.proofs.Moments.{goes_on, by_name}
use Rattle.bd_device.proofs.Refusals.{OnOk-then}
use Rattle.bd_mirror.proofs.Attaching.{member_stays, member_opened}
use Rattle.bd_mirror.specs.Names.{without_last}
use Rattle.bd_mirror.proofs.Behind.{member_behind}
use Rattle.bd_mirror.proofs.Crashes.{none_then}
use Rattle.bd_mirror.proofs.Marks.{OnOk-always}
use Rattle.bd_mirror.proofs.Past.{member_quiet, member_opens}
use Rattle.std.specs.Prelude.{is_some}
use Rattle.bd_mirror.proofs.Named.{some_then}
use Rattle.bd_mirror.proofs.Told.{known_stays}
use Rattle.bd_mirror.proofs.parts.Parts.attach_member.Goals as goal

pub returns-clause-shown : goal.returns-clause-shown
returns-clause-shown g c =
    let new = c.open_member.new.half in
    OnOk-always c.open_member.result (member_stays c.args.size (g.A.Device.block_count c.barrier.new.self) (g.A.Device.block_count new)
    (g.A.Attach.shows c.args.self.now.first c.args.name.now) (g.A.Device.contents c.attach.new.self) (g.A.Device.contents c.barrier.new.self) (g.A.Device.contents new)
    c.open_member.ensures.stays.count c.barrier.ensures.kept c.in_ok-attach.ensures.shown c.open_member.ensures.others)

pub returns-clause-opened : goal.returns-clause-opened
returns-clause-opened g c =
    let new = c.open_member.new.half in
    OnOk-then c.open_member.result c.open_member.ensures.opened
    (member_opened (g.A.Device.block_count c.barrier.new.self) (g.A.Device.block_count new) (g.A.Device.contents new) c.open_member.ensures.stays.count)

-- ---- what the half shows afterwards

pub returns-in_err-attach-clause-behind : goal.returns-in_err-attach-clause-behind
returns-in_err-attach-clause-behind g c = none_then c.args.size c.in_err-attach.ensures.behind (λ e. ap (option_map without_last) e)

pub returns-in_err-barrier-clause-behind : goal.returns-in_err-barrier-clause-behind
returns-in_err-barrier-clause-behind g c =
    none_then c.args.size c.in_ok-attach.ensures.shown (λ e.
    ap (option_map without_last) (g.met.A.Attach.shows_named c.barrier.new.self c.args.name.now (c.barrier.ensures.same_name c.args.name.now c.in_ok-attach.ensures.named) ∙ c.barrier.ensures.kept ∙ e))

pub returns-clause-behind : goal.returns-clause-behind
returns-clause-behind g c =
    let new = c.open_member.new.half in
    let named = c.open_member.ensures.stays.same_name c.args.name.now (c.barrier.ensures.same_name c.args.name.now c.in_ok-attach.ensures.named) in
    none_then c.args.size c.in_ok-attach.ensures.shown (λ e.
    ap (option_map without_last) (g.met.A.Attach.shows_named new c.args.name.now named)
    ∙ member_behind (g.A.Device.block_count c.barrier.new.self) (g.A.Device.block_count c.attach.new.self) (g.A.Device.contents c.attach.new.self) (g.A.Device.contents c.barrier.new.self) (g.A.Device.contents new)
    c.barrier.ensures.count c.barrier.ensures.kept c.attach.ensures.shape c.open_member.ensures.others
    ∙ ap (option_map without_last) (c.barrier.ensures.kept ∙ e))

pub returns-clause-named : goal.returns-clause-named
returns-clause-named g c =
    OnOk-always c.open_member.result (c.open_member.ensures.stays.same_name c.args.name.now (c.barrier.ensures.same_name c.args.name.now c.in_ok-attach.ensures.named))

-- ---- what it may leave since an earlier call

pub returns-in_err-attach-clause-by_name : goal.returns-in_err-attach-clause-by_name
returns-in_err-attach-clause-by_name g c =
    member_quiet c.args.size _ (λ d. g.A.Attach.left_behind d c.args.name.now) g.A.Device.call_count c.args.self.now.first c.attach.new.self c.in_err-attach.ensures.behind_time

pub returns-in_err-barrier-clause-by_name : goal.returns-in_err-barrier-clause-by_name
returns-in_err-barrier-clause-by_name g c =
    member_quiet c.args.size _ (λ d. g.A.Attach.left_behind d c.args.name.now) g.A.Device.call_count c.args.self.now.first c.barrier.new.self
    (none_then c.args.size c.in_ok-attach.ensures.time (λ time. by_name Nothing (goes_on Nothing Nothing time c.barrier.ensures.time (λ image none. none))
    (λ t image. g.met.A.Attach.left_named c.barrier.new.self c.args.name.now t image (c.barrier.ensures.same_name c.args.name.now c.in_ok-attach.ensures.named))))

pub returns-clause-by_name : goal.returns-clause-by_name
returns-clause-by_name g c =
    let named = c.barrier.ensures.same_name c.args.name.now c.in_ok-attach.ensures.named in
    member_opens g.A.Device c.args.size (g.A.Attach.shows c.args.self.now.first c.args.name.now) c.args.name.now (λ d. g.A.Attach.left_behind d c.args.name.now)
    (g.A.Device.block_count c.barrier.new.self) c.args.self.now.first c.barrier.new.self c.open_member.new.half (g.A.Device.contents c.attach.new.self)
    (λ d t image is. g.met.A.Attach.left_named d c.args.name.now t image is) g.met.A.Device.since_earlier named (c.open_member.ensures.stays.same_name c.args.name.now named)
    c.in_ok-attach.ensures.shown (rw c.barrier.ensures.count c.attach.ensures.shape)
    (none_then c.args.size c.in_ok-attach.ensures.time (λ time. by_name Nothing (goes_on Nothing Nothing time c.barrier.ensures.time (λ image none. none))
    (λ t image. g.met.A.Attach.left_named c.barrier.new.self c.args.name.now t image named)))
    c.open_member.ensures.time

pub returns-clause-told : goal.returns-clause-told
returns-clause-told g c =
    let known = known_stays _ (g.A.Device.contents c.barrier.new.self) (g.A.Device.contents c.open_member.new.half) c.open_member.ensures.others in
    OnOk-always c.open_member.result (some_then c.args.size c.in_ok-attach.ensures.told (λ n e. known ∙ ap is_some c.barrier.ensures.kept ∙ e))
