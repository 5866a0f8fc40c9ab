use Rattle.std.proofs.Common.{◌≡◌, ◌+◌, ◌≤◌, ap, sym, subst, ◌∙◌}
use Rattle.std.specs.Prelude.{is_ok}
use Rattle.bd_device.specs.Calls.{faults_after}
use Rattle.bd_device.specs.Moments.{Elapses, Nothing}
use Rattle.bd_device.proofs.Refusals.{OnOk-then}
use Rattle.bd_mirror.specs.Calls.{blocks_now}
use Rattle.bd_mirror.specs.Did.{MirrorDid, DidBy, last_note}
use Rattle.bd_mirror.specs.Sound.{mirror_contents, mirror_since, GoesBy}
use Rattle.bd_mirror.proofs.Methods.{WentOn, sound_on, same_mirror, told_same, blocks_on, goes_by_on, leaves_picks, call_did, left_same, since_quiet, contents_kept, run_read}
use Rattle.bd_mirror.proofs.Since.{left_read}
use Rattle.bd_mirror.proofs.mirror.MirrorDevice.read_run.Goals as goal

pub invariant_of-self : goal.invariant_of-self
invariant_of-self g c =
    let old = c.self.inside.parts in
    let did = c.read_run-result.ensures in
    let new = c.read_run-result.new.self in
    let went : WentOn g.A.Device g.B.Device old new = record {
      sound = c.self.invariant;
      sound_now = sound_on g.A.Device g.B.Device old new c.self.invariant did.stays did.noted (did.moments c.self.invariant.counted) (same_mirror g.A.Device g.B.Device old new did.attached did.stays.first_count did.stays.second_count did.first_kept did.second_kept c.self.invariant.marked) (did.marks c.self.invariant.kept) c.are_whole.ensures;
      stays = did.stays;
      noted = did.noted;
      counted = did.calls.counted;
      told = told_same (g.A.Device.contents old.first) (g.B.Device.contents old.second) (g.A.Device.contents new.first) (g.B.Device.contents new.second) did.first_kept did.second_kept;
    } in
    went.sound_now

pub returns-clause-bytes : goal.returns-clause-bytes
returns-clause-bytes g c =
    let old = c.self.inside.parts in
    let did = c.read_run-result.ensures in
    let new = c.read_run-result.new.self in
    let went : WentOn g.A.Device g.B.Device old new = record {
      sound = c.self.invariant;
      sound_now = sound_on g.A.Device g.B.Device old new c.self.invariant did.stays did.noted (did.moments c.self.invariant.counted) (same_mirror g.A.Device g.B.Device old new did.attached did.stays.first_count did.stays.second_count did.first_kept did.second_kept c.self.invariant.marked) (did.marks c.self.invariant.kept) c.are_whole.ensures;
      stays = did.stays;
      noted = did.noted;
      counted = did.calls.counted;
      told = told_same (g.A.Device.contents old.first) (g.B.Device.contents old.second) (g.A.Device.contents new.first) (g.B.Device.contents new.second) did.first_kept did.second_kept;
    } in
    let le : c.args.first + c.args.count ≤ blocks_now g.A.Device g.B.Device old = subst (λ m. c.args.first + c.args.count ≤ blocks_now g.A.Device g.B.Device m) (sym c.self.view_is) c.requires.room in
    rw (← c.self.view_is) (OnOk-then c.read_run-result.result did.bytes (λ shown. run_read g.A.Device g.B.Device old c.args.first c.args.count _ c.self.invariant le (shown c.self.invariant.marked)))

pub returns-clause-kept : goal.returns-clause-kept
returns-clause-kept g c =
    let old = c.self.inside.parts in
    let did = c.read_run-result.ensures in
    let new = c.read_run-result.new.self in
    let went : WentOn g.A.Device g.B.Device old new = record {
      sound = c.self.invariant;
      sound_now = sound_on g.A.Device g.B.Device old new c.self.invariant did.stays did.noted (did.moments c.self.invariant.counted) (same_mirror g.A.Device g.B.Device old new did.attached did.stays.first_count did.stays.second_count did.first_kept did.second_kept c.self.invariant.marked) (did.marks c.self.invariant.kept) c.are_whole.ensures;
      stays = did.stays;
      noted = did.noted;
      counted = did.calls.counted;
      told = told_same (g.A.Device.contents old.first) (g.B.Device.contents old.second) (g.A.Device.contents new.first) (g.B.Device.contents new.second) did.first_kept did.second_kept;
    } in
    contents_kept g.A.Device g.B.Device old new did.attached did.noted did.first_kept did.second_kept ∙ ap (mirror_contents g.A.Device g.B.Device) c.self.view_is

pub returns-clause-count : goal.returns-clause-count
returns-clause-count g c =
    let old = c.self.inside.parts in
    let did = c.read_run-result.ensures in
    let new = c.read_run-result.new.self in
    let went : WentOn g.A.Device g.B.Device old new = record {
      sound = c.self.invariant;
      sound_now = sound_on g.A.Device g.B.Device old new c.self.invariant did.stays did.noted (did.moments c.self.invariant.counted) (same_mirror g.A.Device g.B.Device old new did.attached did.stays.first_count did.stays.second_count did.first_kept did.second_kept c.self.invariant.marked) (did.marks c.self.invariant.kept) c.are_whole.ensures;
      stays = did.stays;
      noted = did.noted;
      counted = did.calls.counted;
      told = told_same (g.A.Device.contents old.first) (g.B.Device.contents old.second) (g.A.Device.contents new.first) (g.B.Device.contents new.second) did.first_kept did.second_kept;
    } in
    blocks_on g.A.Device g.B.Device old new did.stays ∙ ap (blocks_now g.A.Device g.B.Device) c.self.view_is

pub returns-clause-time : goal.returns-clause-time
returns-clause-time g c =
    let old = c.self.inside.parts in
    let did = c.read_run-result.ensures in
    let new = c.read_run-result.new.self in
    let went : WentOn g.A.Device g.B.Device old new = record {
      sound = c.self.invariant;
      sound_now = sound_on g.A.Device g.B.Device old new c.self.invariant did.stays did.noted (did.moments c.self.invariant.counted) (same_mirror g.A.Device g.B.Device old new did.attached did.stays.first_count did.stays.second_count did.first_kept did.second_kept c.self.invariant.marked) (did.marks c.self.invariant.kept) c.are_whole.ensures;
      stays = did.stays;
      noted = did.noted;
      counted = did.calls.counted;
      told = told_same (g.A.Device.contents old.first) (g.B.Device.contents old.second) (g.A.Device.contents new.first) (g.B.Device.contents new.second) did.first_kept did.second_kept;
    } in
    subst (λ m. Elapses m.counts.calls new.counts.calls (mirror_since g.A.Device g.B.Device g.A.Attach.shows g.B.Attach.shows g.A.Attach.left_behind g.B.Attach.left_behind m) (mirror_since g.A.Device g.B.Device g.A.Attach.shows g.B.Attach.shows g.A.Attach.left_behind g.B.Attach.left_behind new) Nothing) c.self.view_is
    (since_quiet g.A.Device g.B.Device g.A.Attach.shows g.B.Attach.shows g.A.Attach.left_behind g.B.Attach.left_behind old new (record {
      shows_a = g.met.A.Attach.shows_named;
      shows_b = g.met.B.Attach.shows_named;
      left_a = λ d n t x is. g.met.A.Attach.left_named d n t x is;
      left_b = λ d n t x is. g.met.B.Attach.left_named d n t x is;
      earlier_a = g.met.A.Device.since_earlier;
      earlier_b = g.met.B.Device.since_earlier;
    }) went (λ some.
    left_read g.A.Device g.B.Device old.attached (g.A.Device.block_count old.first) (g.B.Device.block_count old.second) old.first new.first old.second new.second did.first_time did.second_time))

pub returns-clause-same_name : goal.returns-clause-same_name
returns-clause-same_name g c = λ name by.
    let old = c.self.inside.parts in
    let did = c.read_run-result.ensures in
    let new = c.read_run-result.new.self in
    let went : WentOn g.A.Device g.B.Device old new = record {
      sound = c.self.invariant;
      sound_now = sound_on g.A.Device g.B.Device old new c.self.invariant did.stays did.noted (did.moments c.self.invariant.counted) (same_mirror g.A.Device g.B.Device old new did.attached did.stays.first_count did.stays.second_count did.first_kept did.second_kept c.self.invariant.marked) (did.marks c.self.invariant.kept) c.are_whole.ensures;
      stays = did.stays;
      noted = did.noted;
      counted = did.calls.counted;
      told = told_same (g.A.Device.contents old.first) (g.B.Device.contents old.second) (g.A.Device.contents new.first) (g.B.Device.contents new.second) did.first_kept did.second_kept;
    } in
    goes_by_on g.A.Device g.B.Device old new name did.stays did.noted (subst (λ m. GoesBy g.A.Device g.B.Device m name) (sym c.self.view_is) by)

pub returns-clause-also : goal.returns-clause-also
returns-clause-also g c =
    let old = c.self.inside.parts in
    let did = c.read_run-result.ensures in
    let new = c.read_run-result.new.self in
    let went : WentOn g.A.Device g.B.Device old new = record {
      sound = c.self.invariant;
      sound_now = sound_on g.A.Device g.B.Device old new c.self.invariant did.stays did.noted (did.moments c.self.invariant.counted) (same_mirror g.A.Device g.B.Device old new did.attached did.stays.first_count did.stays.second_count did.first_kept did.second_kept c.self.invariant.marked) (did.marks c.self.invariant.kept) c.are_whole.ensures;
      stays = did.stays;
      noted = did.noted;
      counted = did.calls.counted;
      told = told_same (g.A.Device.contents old.first) (g.B.Device.contents old.second) (g.A.Device.contents new.first) (g.B.Device.contents new.second) did.first_kept did.second_kept;
    } in
    subst (λ m. MirrorDid g.A.Device g.B.Device g.A.Attach.shows g.B.Attach.shows g.A.Attach.left_behind g.B.Attach.left_behind m new (is_ok c.read_run-result.result)) c.self.view_is
    (record {
      did = subst (λ note. DidBy g.A.Device g.B.Device g.A.Attach.shows g.B.Attach.shows g.A.Attach.left_behind g.B.Attach.left_behind note old new (is_ok c.read_run-result.result)) (sym (ap last_note did.noted))
          (call_did g.A.Device g.B.Device old new c.read_run-result.result did.why (left_same old.attached new.attached did.attached) did.stays);
      pairs = leaves_picks g.A.Device g.B.Device g.A.Attach.shows g.B.Attach.shows g.A.Attach.left_behind g.B.Attach.left_behind new (record {
        shows_a = g.met.A.Attach.shows_named;
        shows_b = g.met.B.Attach.shows_named;
        left_a = λ d n t x is. g.met.A.Attach.left_named d n t x is;
        left_b = λ d n t x is. g.met.B.Attach.left_named d n t x is;
        earlier_a = g.met.A.Device.since_earlier;
        earlier_b = g.met.B.Device.since_earlier;
      }) went.sound_now;
    })

-- ---- counts

pub returns-clause-faults : goal.returns-clause-faults
returns-clause-faults g c = subst (λ m. c.read_run-result.new.self.counts.faults ≡ faults_after m.counts.faults c.read_run-result.result) c.self.view_is c.read_run-result.ensures.faults

pub returns-clause-later : goal.returns-clause-later
returns-clause-later g c = subst (λ m. m.counts.faults ≤ c.read_run-result.new.self.counts.faults) c.self.view_is c.read_run-result.ensures.later

pub returns-clause-write_faults : goal.returns-clause-write_faults
returns-clause-write_faults g c = c.read_run-result.ensures.write_faults ∙ ap (λ m. m.counts.write_faults) c.self.view_is
