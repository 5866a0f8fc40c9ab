use Rattle.std.proofs.Common.{◌≡◌, ℕ, ◌<◌, ◌≤◌, All, true, if◌then◌else◌, Some, length, subst, sym, ap, ◌∙◌, slice_set, arith, rules}
use Rattle.std.proofs.lemmas.Grind.{common_steps}
use Rattle.bd_io.specs.Plan.{calls_after}
use Rattle.bd_device.specs.Blocks.{Image, IsBlock, ChangesOnly}
use Rattle.bd_device.specs.Calls.{faults_after}
use Rattle.bd_device.specs.Moments.{Elapses, TornAt}
use Rattle.bd_device.specs.Memory.{MemoryDevice, attached_image, attached_size, left_of, recorded, with_record, is_recorded}
use Rattle.bd_device.specs.contracts.mem_device.MemDevice.{the_view}
use Rattle.bd_device.proofs.Images.{attached-set, attached_in_size, ChangesOnly-attached, OnErr-always}
use Rattle.bd_device.proofs.Left.{left-failed, left-done, is_recorded-fits, attached_image-recorded, attached_size-recorded}
use Rattle.bd_device.proofs.mem_device.MemDeviceDevice.write.Goals as goal

pub returns-in_err-result-clause-others : goal.returns-in_err-result-clause-others
returns-in_err-result-clause-others c =
    let d = c.args.self.now in
    let fits = subst (λ (m : MemoryDevice). m.size ≤ length m.blocks) c.self.view_is c.self.invariant.0 in
    let whole = subst (λ (m : MemoryDevice). All IsBlock m.blocks) c.self.view_is c.self.invariant.1 in
    let stays : attached_image c.record.new.self ≡ attached_image d =
    ap attached_image c.record.ensures
    ∙ attached_image-recorded c.calls-calls.result c.args.b c.args.from.now c.is_ok.result c.writing_call-result.new.self
    ∙ ap attached_image c.writing_call-result.ensures.after in
    OnErr-always c.from_residual.result
    (subst (λ (image : Image). ChangesOnly c.args.b (Some (attached_image d)) (Some image)) (sym stays)
    (ChangesOnly-attached d.attached d.size c.args.b d.blocks c.requires fits whole))

pub returns-in_err-result-clause-time : goal.returns-in_err-result-clause-time
returns-in_err-result-clause-time c =
    let d = c.args.self.now in
    let p = c.writing_call-result.new.self in
    let m : MemoryDevice = record d {
      plan = calls_after d.plan c.writing_call-result.result;
      write_faults = faults_after d.write_faults c.writing_call-result.result;
    } in
    let fits = subst (λ (m : MemoryDevice). m.size ≤ length m.blocks) c.self.view_is c.self.invariant.0 in
    let whole = subst (λ (m : MemoryDevice). All IsBlock m.blocks) c.self.view_is c.self.invariant.1 in
    let counted = ap (λ (m : MemoryDevice). m.plan.calls) (sym c.writing_call-result.ensures.after) ∙ c.writing_call-result.ensures.calls.counted in
    let in_size : c.args.b < d.size = attached_in_size d c.args.b c.requires in
    let calls_is : c.calls-calls.result ≡ d.plan.calls = c.calls-calls.ensures ∙ ap (λ (m : MemoryDevice). m.plan.calls) c.self.view_is in
    subst (λ (m : MemoryDevice). Elapses d.plan.calls m.plan.calls (left_of d) (left_of m) (TornAt c.args.b (left_of d d.plan.calls)))
    (sym (c.record.ensures ∙ ap (λ n. recorded n c.args.b c.args.from.now c.is_ok.result p) calls_is
    ∙ ap (recorded d.plan.calls c.args.b c.args.from.now c.is_ok.result) c.writing_call-result.ensures.after))
    (left-failed d c.args.b c.args.from.now c.is_ok.result (is_recorded d.plan.calls m) m.plan m.write_faults in_size fits whole counted (omega (arith, counted, c.writing_call-result.ensures.calls))
    (is_recorded-fits d.plan.calls m))

pub returns-clause-written : goal.returns-clause-written
returns-clause-written c =
    let d = c.args.self.now in
    let i = c.self-2.inside in
    let after = c.self-2.view_is ∙ c.record.ensures in
    let same : attached_image (the_view i) ≡ attached_image d =
    ap attached_image after
    ∙ attached_image-recorded c.calls-calls.result c.args.b c.args.from.now c.is_ok.result c.writing_call-result.new.self
    ∙ ap attached_image c.writing_call-result.ensures.after in
    let size : attached_size (the_view i) ≡ attached_size d =
    ap attached_size after
    ∙ attached_size-recorded c.calls-calls.result c.args.b c.args.from.now c.is_ok.result c.writing_call-result.new.self
    ∙ ap attached_size c.writing_call-result.ensures.after in
    attached-set i.attached i.size c.args.b i.blocks.items c.args.from.now (subst (λ (n : ℕ). c.args.b < n) (sym size) c.requires)
    ∙ ap (λ (image : Image). slice_set image c.args.b c.args.from.now) same

pub returns-clause-time : goal.returns-clause-time
returns-clause-time c =
    let d = c.args.self.now in
    let p = c.writing_call-result.new.self in
    let m : MemoryDevice = record d {
      plan = calls_after d.plan c.writing_call-result.result;
      write_faults = faults_after d.write_faults c.writing_call-result.result;
    } in
    let counted = ap (λ (m : MemoryDevice). m.plan.calls) (sym c.writing_call-result.ensures.after) ∙ c.writing_call-result.ensures.calls.counted in
    let in_size : c.args.b < d.size = attached_in_size d c.args.b c.requires in
    let calls_is : c.calls-calls.result ≡ d.plan.calls = c.calls-calls.ensures ∙ ap (λ (m : MemoryDevice). m.plan.calls) c.self.view_is in
    let done : c.is_ok.result ≡ true = grind (arith, common_steps) in
    let room : is_recorded d.plan.calls m ≡ true = grind (arith, common_steps) in
    let after : the_view c.self-2.inside ≡ with_record d.plan.calls c.args.b c.args.from.now true m =
    c.self-2.view_is ∙ c.record.ensures ∙ ap (λ n. recorded n c.args.b c.args.from.now c.is_ok.result p) calls_is
    ∙ ap (recorded d.plan.calls c.args.b c.args.from.now c.is_ok.result) c.writing_call-result.ensures.after
    ∙ ap (λ r. recorded d.plan.calls c.args.b c.args.from.now r m) done
    ∙ ap (λ r. if r then with_record d.plan.calls c.args.b c.args.from.now true m else m) room in
    subst (λ (n : MemoryDevice). Elapses d.plan.calls n.plan.calls (left_of d) (left_of (record n { blocks = slice_set n.blocks c.args.b c.args.from.now })) (TornAt c.args.b (left_of d d.plan.calls)))
    (sym after) (left-done d c.args.b c.args.from.now m.plan m.write_faults in_size (search rules) counted (is_recorded-fits d.plan.calls m room))
