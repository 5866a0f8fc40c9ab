use Rattle.std.proofs.Common.{◌≡◌, ℕ, ◌+◌, ◌≤◌, ap, sym, subst, ◌∙◌, arith}
use Rattle.std.specs.Prelude.{is_ok}
use Rattle.bd_device.specs.Calls.{faults_after}
use Rattle.bd_device.specs.Changes.{StaysBut, IsBeforeBut, IsInRange}
use Rattle.bd_device.specs.Device.{left_now}
use Rattle.bd_device.specs.Moments.{Elapses}
use Rattle.bd_device.proofs.Refusals.{OnOk-then}
use Rattle.bd_mirror.specs.Calls.{blocks_now}
use Rattle.bd_mirror.specs.Did.{MirrorDid, DidBy, last_note}
use Rattle.bd_mirror.specs.Sound.{mirror_contents, mirror_since, GoesBy}
use Rattle.bd_mirror.specs.Writing.{run_bytes}
use Rattle.bd_mirror.proofs.Methods.{WentOn, sound_on, run_contents, blocks_on, goes_by_on, leaves_picks, call_did, shape_of, since_run}
use Rattle.bd_mirror.proofs.Rows.{row_stays, row_told}
use Rattle.bd_mirror.proofs.Since.{left_inside}
use Rattle.bd_mirror.specs.declared.writing.WritingCall.TheVariants.{Run}
use Rattle.bd_mirror.proofs.mirror.MirrorDevice.write_run.Goals as goal

pub invariant_of-self : goal.invariant_of-self
invariant_of-self g c =
    let old = c.self.inside.parts in
    let did = c.write_run-result.ensures in
    let new = c.write_run-result.new.self in
    let went : WentOn g.A.Device g.B.Device old new = record {
      sound = c.self.invariant;
      sound_now = sound_on g.A.Device g.B.Device old new c.self.invariant did.stays did.noted (did.moments c.self.invariant.counted) (did.mirror c.self.invariant.marked) (did.marks c.self.invariant.marked c.self.invariant.kept) c.are_whole.ensures;
      stays = did.stays;
      noted = did.noted;
      counted = did.calls.counted;
      told = did.told;
    } in
    went.sound_now

pub returns-clause-written : goal.returns-clause-written
returns-clause-written g c =
    let old = c.self.inside.parts in
    let did = c.write_run-result.ensures in
    let new = c.write_run-result.new.self in
    let went : WentOn g.A.Device g.B.Device old new = record {
      sound = c.self.invariant;
      sound_now = sound_on g.A.Device g.B.Device old new c.self.invariant did.stays did.noted (did.moments c.self.invariant.counted) (did.mirror c.self.invariant.marked) (did.marks c.self.invariant.marked c.self.invariant.kept) c.are_whole.ensures;
      stays = did.stays;
      noted = did.noted;
      counted = did.calls.counted;
      told = did.told;
    } in
    let le : c.args.first + c.args.count ≤ blocks_now g.A.Device g.B.Device old = subst (λ m. c.args.first + c.args.count ≤ blocks_now g.A.Device g.B.Device m) (sym c.self.view_is) c.requires.room in
    OnOk-then c.write_run-result.result did.written (λ shown.
    row_told c.args.first c.args.count (blocks_now g.A.Device g.B.Device old) c.args.from.now (mirror_contents g.A.Device g.B.Device old) (mirror_contents g.A.Device g.B.Device new) le
    (shape_of g.A.Device g.B.Device old c.self.invariant)
    (run_contents g.A.Device g.B.Device old new c.args.first c.args.count (run_bytes c.args.first c.args.from.now) went le (shown c.self.invariant.marked)))

pub returns-clause-others : goal.returns-clause-others
returns-clause-others g c =
    let old = c.self.inside.parts in
    let did = c.write_run-result.ensures in
    let new = c.write_run-result.new.self in
    let went : WentOn g.A.Device g.B.Device old new = record {
      sound = c.self.invariant;
      sound_now = sound_on g.A.Device g.B.Device old new c.self.invariant did.stays did.noted (did.moments c.self.invariant.counted) (did.mirror c.self.invariant.marked) (did.marks c.self.invariant.marked c.self.invariant.kept) c.are_whole.ensures;
      stays = did.stays;
      noted = did.noted;
      counted = did.calls.counted;
      told = did.told;
    } in
    let le : c.args.first + c.args.count ≤ blocks_now g.A.Device g.B.Device old = subst (λ m. c.args.first + c.args.count ≤ blocks_now g.A.Device g.B.Device m) (sym c.self.view_is) c.requires.room in
    let changed = did.others c.self.invariant.marked in
    subst (λ m. StaysBut (IsInRange c.args.first (c.args.first + c.args.count)) (mirror_contents g.A.Device g.B.Device m) (mirror_contents g.A.Device g.B.Device new)) c.self.view_is
    (row_stays c.args.first c.args.count changed.0 (mirror_contents g.A.Device g.B.Device old) (mirror_contents g.A.Device g.B.Device new)
    (run_contents g.A.Device g.B.Device old new c.args.first c.args.count changed.0 went le changed.1))

pub returns-clause-count : goal.returns-clause-count
returns-clause-count g c =
    let old = c.self.inside.parts in
    let did = c.write_run-result.ensures in
    let new = c.write_run-result.new.self in
    let went : WentOn g.A.Device g.B.Device old new = record {
      sound = c.self.invariant;
      sound_now = sound_on g.A.Device g.B.Device old new c.self.invariant did.stays did.noted (did.moments c.self.invariant.counted) (did.mirror c.self.invariant.marked) (did.marks c.self.invariant.marked c.self.invariant.kept) c.are_whole.ensures;
      stays = did.stays;
      noted = did.noted;
      counted = did.calls.counted;
      told = did.told;
    } in
    blocks_on g.A.Device g.B.Device old new did.stays ∙ ap (blocks_now g.A.Device g.B.Device) c.self.view_is

pub returns-clause-time : goal.returns-clause-time
returns-clause-time g c =
    let old = c.self.inside.parts in
    let did = c.write_run-result.ensures in
    let new = c.write_run-result.new.self in
    let went : WentOn g.A.Device g.B.Device old new = record {
      sound = c.self.invariant;
      sound_now = sound_on g.A.Device g.B.Device old new c.self.invariant did.stays did.noted (did.moments c.self.invariant.counted) (did.mirror c.self.invariant.marked) (did.marks c.self.invariant.marked c.self.invariant.kept) c.are_whole.ensures;
      stays = did.stays;
      noted = did.noted;
      counted = did.calls.counted;
      told = did.told;
    } in
    let le : c.args.first + c.args.count ≤ blocks_now g.A.Device g.B.Device old = subst (λ m. c.args.first + c.args.count ≤ blocks_now g.A.Device g.B.Device m) (sym c.self.view_is) c.requires.room in
    let row : ℕ → Type 0 = IsInRange c.args.first (c.args.first + c.args.count) in
    subst (λ m. Elapses m.counts.calls new.counts.calls (mirror_since g.A.Device g.B.Device g.A.Attach.shows g.B.Attach.shows g.A.Attach.left_behind g.B.Attach.left_behind m) (mirror_since g.A.Device g.B.Device g.A.Attach.shows g.B.Attach.shows g.A.Attach.left_behind g.B.Attach.left_behind new) (IsBeforeBut row (mirror_since g.A.Device g.B.Device g.A.Attach.shows g.B.Attach.shows g.A.Attach.left_behind g.B.Attach.left_behind m m.counts.calls))) c.self.view_is
    (since_run g.A.Device g.B.Device g.A.Attach.shows g.B.Attach.shows g.A.Attach.left_behind g.B.Attach.left_behind old new row (record {
      shows_a = g.met.A.Attach.shows_named;
      shows_b = g.met.B.Attach.shows_named;
      left_a = λ d n t x is. g.met.A.Attach.left_named d n t x is;
      left_b = λ d n t x is. g.met.B.Attach.left_named d n t x is;
      earlier_a = g.met.A.Device.since_earlier;
      earlier_b = g.met.B.Device.since_earlier;
    }) went (λ some.
    left_inside (Run c.args.first c.args.from c.args.count) old.attached (g.A.Device.block_count old.first) (g.B.Device.block_count old.second) (left_now g.A.Device old.first) (left_now g.B.Device old.second) _ _ le
    (λ one x left. (did.alone one).adds (g.A.Device.call_count old.first) x (omega arith) left) (λ has. did.inside has c.self.invariant.kept)))

pub returns-clause-same_name : goal.returns-clause-same_name
returns-clause-same_name g c = λ name by.
    let old = c.self.inside.parts in
    let did = c.write_run-result.ensures in
    let new = c.write_run-result.new.self in
    let went : WentOn g.A.Device g.B.Device old new = record {
      sound = c.self.invariant;
      sound_now = sound_on g.A.Device g.B.Device old new c.self.invariant did.stays did.noted (did.moments c.self.invariant.counted) (did.mirror c.self.invariant.marked) (did.marks c.self.invariant.marked c.self.invariant.kept) c.are_whole.ensures;
      stays = did.stays;
      noted = did.noted;
      counted = did.calls.counted;
      told = did.told;
    } in
    goes_by_on g.A.Device g.B.Device old new name did.stays did.noted (subst (λ m. GoesBy g.A.Device g.B.Device m name) (sym c.self.view_is) by)

pub returns-clause-also : goal.returns-clause-also
returns-clause-also g c =
    let old = c.self.inside.parts in
    let did = c.write_run-result.ensures in
    let new = c.write_run-result.new.self in
    let went : WentOn g.A.Device g.B.Device old new = record {
      sound = c.self.invariant;
      sound_now = sound_on g.A.Device g.B.Device old new c.self.invariant did.stays did.noted (did.moments c.self.invariant.counted) (did.mirror c.self.invariant.marked) (did.marks c.self.invariant.marked c.self.invariant.kept) c.are_whole.ensures;
      stays = did.stays;
      noted = did.noted;
      counted = did.calls.counted;
      told = did.told;
    } in
    subst (λ m. MirrorDid g.A.Device g.B.Device g.A.Attach.shows g.B.Attach.shows g.A.Attach.left_behind g.B.Attach.left_behind m new (is_ok c.write_run-result.result)) c.self.view_is
    (record {
      did = subst (λ note. DidBy g.A.Device g.B.Device g.A.Attach.shows g.B.Attach.shows g.A.Attach.left_behind g.B.Attach.left_behind note old new (is_ok c.write_run-result.result)) (sym (ap last_note did.noted))
          (call_did g.A.Device g.B.Device old new c.write_run-result.result did.why did.in_use did.stays);
      pairs = leaves_picks g.A.Device g.B.Device g.A.Attach.shows g.B.Attach.shows g.A.Attach.left_behind g.B.Attach.left_behind new (record {
        shows_a = g.met.A.Attach.shows_named;
        shows_b = g.met.B.Attach.shows_named;
        left_a = λ d n t x is. g.met.A.Attach.left_named d n t x is;
        left_b = λ d n t x is. g.met.B.Attach.left_named d n t x is;
        earlier_a = g.met.A.Device.since_earlier;
        earlier_b = g.met.B.Device.since_earlier;
      }) went.sound_now;
    })

-- ---- counts

pub returns-clause-faults : goal.returns-clause-faults
returns-clause-faults g c = subst (λ m. c.write_run-result.new.self.counts.faults ≡ faults_after m.counts.faults c.write_run-result.result) c.self.view_is c.write_run-result.ensures.faults

pub returns-clause-later : goal.returns-clause-later
returns-clause-later g c = subst (λ m. m.counts.faults ≤ c.write_run-result.new.self.counts.faults) c.self.view_is c.write_run-result.ensures.later

pub returns-clause-write_faults : goal.returns-clause-write_faults
returns-clause-write_faults g c = subst (λ m. c.write_run-result.new.self.counts.write_faults ≡ faults_after m.counts.write_faults c.write_run-result.result) c.self.view_is c.write_run-result.ensures.write_faults
