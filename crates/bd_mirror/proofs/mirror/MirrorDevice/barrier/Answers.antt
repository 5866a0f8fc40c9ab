use Rattle.std.proofs.Common.{◌≡◌, ◌<◌, refl, ap, sym, subst, ◌∙◌, arith, inl, OnOk}
use Rattle.std.specs.Prelude.{is_ok}
use Rattle.bd_io.specs.Cause.{HasCause, IsCounted}
use Rattle.bd_device.specs.Calls.{faults_after}
use Rattle.bd_device.specs.Device.{left_now}
use Rattle.bd_device.specs.Moments.{Elapses, Nothing, IsOnly}
use Rattle.bd_mirror.specs.Calls.{blocks_now}
use Rattle.bd_mirror.specs.Did.{MirrorDid, DidBy, last_note}
use Rattle.bd_mirror.specs.Sound.{mirror_contents, mirror_since, GoesBy}
use Rattle.bd_mirror.proofs.Methods.{WentOn, sound_on, contents_on, blocks_on, leaves_picks, goes_by_on, since_quiet, settled_now, three_ok, call_did}
use Rattle.bd_mirror.proofs.Since.{left_inside, all_moments}
use Rattle.bd_mirror.specs.declared.writing.WritingCall.TheVariants.{Barrier}
use Rattle.bd_mirror.proofs.mirror.MirrorDevice.barrier.Goals as goal

pub invariant_of-self : goal.invariant_of-self
invariant_of-self g c =
    let old = c.self.inside.parts in
    let did = c.barrier-result.ensures in
    let new = c.barrier-result.new.self in
    let went : WentOn g.A.Device g.B.Device old new = record {
      sound = c.self.invariant;
      sound_now = sound_on g.A.Device g.B.Device old new c.self.invariant did.stays did.noted (did.moments c.self.invariant.counted) (did.mirror c.self.invariant.marked) (did.marks c.self.invariant.marked c.self.invariant.kept) c.are_whole.ensures;
      stays = did.stays;
      noted = did.noted;
      counted = did.calls.counted;
      told = did.told;
    } in
    went.sound_now

pub returns-clause-kept : goal.returns-clause-kept
returns-clause-kept g c =
    let old = c.self.inside.parts in
    let did = c.barrier-result.ensures in
    let new = c.barrier-result.new.self in
    let went : WentOn g.A.Device g.B.Device old new = record {
      sound = c.self.invariant;
      sound_now = sound_on g.A.Device g.B.Device old new c.self.invariant did.stays did.noted (did.moments c.self.invariant.counted) (did.mirror c.self.invariant.marked) (did.marks c.self.invariant.marked c.self.invariant.kept) c.are_whole.ensures;
      stays = did.stays;
      noted = did.noted;
      counted = did.calls.counted;
      told = did.told;
    } in
    contents_on g.A.Device g.B.Device old new (λ o. o) c.self.invariant went.sound_now (blocks_on g.A.Device g.B.Device old new did.stays) did.told refl (λ _ o. refl) (did.kept c.self.invariant.marked)
    ∙ ap (mirror_contents g.A.Device g.B.Device) c.self.view_is

pub returns-clause-count : goal.returns-clause-count
returns-clause-count g c =
    let old = c.self.inside.parts in
    let did = c.barrier-result.ensures in
    let new = c.barrier-result.new.self in
    let went : WentOn g.A.Device g.B.Device old new = record {
      sound = c.self.invariant;
      sound_now = sound_on g.A.Device g.B.Device old new c.self.invariant did.stays did.noted (did.moments c.self.invariant.counted) (did.mirror c.self.invariant.marked) (did.marks c.self.invariant.marked c.self.invariant.kept) c.are_whole.ensures;
      stays = did.stays;
      noted = did.noted;
      counted = did.calls.counted;
      told = did.told;
    } in
    blocks_on g.A.Device g.B.Device old new did.stays ∙ ap (blocks_now g.A.Device g.B.Device) c.self.view_is

pub returns-clause-time : goal.returns-clause-time
returns-clause-time g c =
    let old = c.self.inside.parts in
    let did = c.barrier-result.ensures in
    let new = c.barrier-result.new.self in
    let went : WentOn g.A.Device g.B.Device old new = record {
      sound = c.self.invariant;
      sound_now = sound_on g.A.Device g.B.Device old new c.self.invariant did.stays did.noted (did.moments c.self.invariant.counted) (did.mirror c.self.invariant.marked) (did.marks c.self.invariant.marked c.self.invariant.kept) c.are_whole.ensures;
      stays = did.stays;
      noted = did.noted;
      counted = did.calls.counted;
      told = did.told;
    } in
    subst (λ m. Elapses m.counts.calls new.counts.calls (mirror_since g.A.Device g.B.Device g.A.Attach.shows g.B.Attach.shows g.A.Attach.left_behind g.B.Attach.left_behind m) (mirror_since g.A.Device g.B.Device g.A.Attach.shows g.B.Attach.shows g.A.Attach.left_behind g.B.Attach.left_behind new) Nothing) c.self.view_is
    (since_quiet g.A.Device g.B.Device g.A.Attach.shows g.B.Attach.shows g.A.Attach.left_behind g.B.Attach.left_behind old new (record {
      shows_a = g.met.A.Attach.shows_named;
      shows_b = g.met.B.Attach.shows_named;
      left_a = λ d n t x is. g.met.A.Attach.left_named d n t x is;
      left_b = λ d n t x is. g.met.B.Attach.left_named d n t x is;
      earlier_a = g.met.A.Device.since_earlier;
      earlier_b = g.met.B.Device.since_earlier;
    }) went (λ some.
    left_inside Barrier old.attached (g.A.Device.block_count old.first) (g.B.Device.block_count old.second) (left_now g.A.Device old.first) (left_now g.B.Device old.second) _ _ tt
    (λ one x left. (did.alone one).adds (g.A.Device.call_count old.first) x (omega arith) left) (λ has x y lx ly. let both = did.inside has c.self.invariant.kept x y lx ly in (inl both.0, inl both.1))))

pub returns-clause-durable : goal.returns-clause-durable
returns-clause-durable g c =
    let old = c.self.inside.parts in
    let did = c.barrier-result.ensures in
    let new = c.barrier-result.new.self in
    let went : WentOn g.A.Device g.B.Device old new = record {
      sound = c.self.invariant;
      sound_now = sound_on g.A.Device g.B.Device old new c.self.invariant did.stays did.noted (did.moments c.self.invariant.counted) (did.mirror c.self.invariant.marked) (did.marks c.self.invariant.marked c.self.invariant.kept) c.are_whole.ensures;
      stays = did.stays;
      noted = did.noted;
      counted = did.calls.counted;
      told = did.told;
    } in
    subst (λ m. OnOk c.barrier-result.result (0 < blocks_now g.A.Device g.B.Device m → IsOnly (mirror_contents g.A.Device g.B.Device new) (mirror_since g.A.Device g.B.Device g.A.Attach.shows g.B.Attach.shows g.A.Attach.left_behind g.B.Attach.left_behind new new.counts.calls))) c.self.view_is
    (three_ok c.barrier-result.result did.left did.durable
    (all_moments c.barrier-result.result old.counts.calls new.counts.calls _ _ _ did.noted did.calls) (λ left durable late some.
    settled_now g.A.Device g.B.Device g.A.Attach.shows g.B.Attach.shows g.A.Attach.left_behind g.B.Attach.left_behind new (record {
      shows_a = g.met.A.Attach.shows_named;
      shows_b = g.met.B.Attach.shows_named;
      left_a = λ d n t x is. g.met.A.Attach.left_named d n t x is;
      left_b = λ d n t x is. g.met.B.Attach.left_named d n t x is;
      earlier_a = g.met.A.Device.since_earlier;
      earlier_b = g.met.B.Device.since_earlier;
    }) went.sound_now (subst (λ k. 0 < k) (sym (blocks_on g.A.Device g.B.Device old new did.stays)) some)
    (late c.self.invariant.counted) (left c.self.invariant.marked c.self.invariant.kept) durable))

pub returns-clause-same_name : goal.returns-clause-same_name
returns-clause-same_name g c = λ name by.
    let old = c.self.inside.parts in
    let did = c.barrier-result.ensures in
    let new = c.barrier-result.new.self in
    let went : WentOn g.A.Device g.B.Device old new = record {
      sound = c.self.invariant;
      sound_now = sound_on g.A.Device g.B.Device old new c.self.invariant did.stays did.noted (did.moments c.self.invariant.counted) (did.mirror c.self.invariant.marked) (did.marks c.self.invariant.marked c.self.invariant.kept) c.are_whole.ensures;
      stays = did.stays;
      noted = did.noted;
      counted = did.calls.counted;
      told = did.told;
    } in
    goes_by_on g.A.Device g.B.Device old new name did.stays did.noted (subst (λ m. GoesBy g.A.Device g.B.Device m name) (sym c.self.view_is) by)

pub returns-clause-also : goal.returns-clause-also
returns-clause-also g c =
    let old = c.self.inside.parts in
    let did = c.barrier-result.ensures in
    let new = c.barrier-result.new.self in
    let went : WentOn g.A.Device g.B.Device old new = record {
      sound = c.self.invariant;
      sound_now = sound_on g.A.Device g.B.Device old new c.self.invariant did.stays did.noted (did.moments c.self.invariant.counted) (did.mirror c.self.invariant.marked) (did.marks c.self.invariant.marked c.self.invariant.kept) c.are_whole.ensures;
      stays = did.stays;
      noted = did.noted;
      counted = did.calls.counted;
      told = did.told;
    } in
    subst (λ m. MirrorDid g.A.Device g.B.Device g.A.Attach.shows g.B.Attach.shows g.A.Attach.left_behind g.B.Attach.left_behind m new (is_ok c.barrier-result.result)) c.self.view_is
    (record {
      did = subst (λ note. DidBy g.A.Device g.B.Device g.A.Attach.shows g.B.Attach.shows g.A.Attach.left_behind g.B.Attach.left_behind note old new (is_ok c.barrier-result.result)) (sym (ap last_note did.noted))
          (call_did g.A.Device g.B.Device old new c.barrier-result.result did.why did.in_use did.stays);
      pairs = leaves_picks g.A.Device g.B.Device g.A.Attach.shows g.B.Attach.shows g.A.Attach.left_behind g.B.Attach.left_behind new (record {
        shows_a = g.met.A.Attach.shows_named;
        shows_b = g.met.B.Attach.shows_named;
        left_a = λ d n t x is. g.met.A.Attach.left_named d n t x is;
        left_b = λ d n t x is. g.met.B.Attach.left_named d n t x is;
        earlier_a = g.met.A.Device.since_earlier;
        earlier_b = g.met.B.Device.since_earlier;
      }) went.sound_now;
    })

-- ---- counts

pub returns-clause-cause : goal.returns-clause-cause
returns-clause-cause g c = subst (λ m. HasCause m.counts.faults c.barrier-result.new.self.counts.faults c.barrier-result.result) c.self.view_is c.barrier-result.ensures.cause

pub returns-clause-faults : goal.returns-clause-faults
returns-clause-faults g c = subst (λ m. c.barrier-result.new.self.counts.faults ≡ faults_after m.counts.faults c.barrier-result.result) c.self.view_is c.barrier-result.ensures.faults

pub returns-clause-last : goal.returns-clause-last
returns-clause-last g c = c.barrier-result.ensures.last

pub returns-clause-calls : goal.returns-clause-calls
returns-clause-calls g c = subst (λ m. IsCounted m.counts.calls c.barrier-result.new.self.counts.calls c.barrier-result.result) c.self.view_is c.barrier-result.ensures.calls

pub returns-clause-write_faults : goal.returns-clause-write_faults
returns-clause-write_faults g c = subst (λ m. c.barrier-result.new.self.counts.write_faults ≡ faults_after m.counts.write_faults c.barrier-result.result) c.self.view_is c.barrier-result.ensures.write_faults
