use Rattle.std.proofs.Common.{◌≡◌, ◌≤◌, length, ap, sym, subst, ◌∙◌, arith, OnOk, OnErr, IfSome}
use Rattle.std.specs.Prelude.{IfNone, is_some, is_ok}
use Rattle.bd_io.specs.Cause.{HasCause, IsCounted}
use Rattle.bd_device.specs.Calls.{faults_after}
use Rattle.bd_device.specs.Moments.{Elapses, Nothing}
use Rattle.bd_mirror.specs.Calls.{moments_of}
use Rattle.bd_mirror.specs.Did.{MirrorDid, DidBy, last_note}
use Rattle.bd_mirror.specs.Laws.{shows_law}
use Rattle.bd_mirror.specs.Names.{first_name, second_name}
use Rattle.bd_mirror.specs.Sound.{IsSound, mirror_contents, mirror_shows, mirror_since, IsLeftBehind}
use Rattle.bd_mirror.proofs.Crashes.{none_then}
use Rattle.bd_mirror.proofs.Methods.{shape_of, leaves_picks}
use Rattle.bd_mirror.proofs.Named.{shows_same, attach_times, sound_attached, goes_by_name, ok_none, err_none, attach_told, attach_since, attach_detached, attach_did}
use Rattle.bd_mirror.proofs.mirror.MirrorAttach.attach.Goals as goal

pub invariant_of-self : goal.invariant_of-self
invariant_of-self g c =
    let old = c.self.inside.parts in
    let did = c.attach-result.ensures in
    let new = c.attach-result.new.self in
    let name = c.args.name.now in
    let sound_now : IsSound g.A.Device g.B.Device new =
    sound_attached g.A.Device g.B.Device old new name c.args.create c.attach-result.result did.noted (did.moments c.self.invariant.counted) c.are_whole.ensures
    did.named did.halves did.mirror did.marks did.detached in
    sound_now

pub returns-clause-shape : goal.returns-clause-shape
returns-clause-shape g c =
    let old = c.self.inside.parts in
    let did = c.attach-result.ensures in
    let new = c.attach-result.new.self in
    let name = c.args.name.now in
    let sound_now : IsSound g.A.Device g.B.Device new =
    sound_attached g.A.Device g.B.Device old new name c.args.create c.attach-result.result did.noted (did.moments c.self.invariant.counted) c.are_whole.ensures
    did.named did.halves did.mirror did.marks did.detached in
    shape_of g.A.Device g.B.Device new sound_now

pub returns-clause-shown : goal.returns-clause-shown
returns-clause-shown g c =
    let old = c.self.inside.parts in
    let did = c.attach-result.ensures in
    let new = c.attach-result.new.self in
    let name = c.args.name.now in
    let same : IfNone c.args.create (mirror_shows g.B.Device g.A.Attach.shows g.B.Attach.shows new name ≡ mirror_shows g.B.Device g.A.Attach.shows g.B.Attach.shows old name) =
    none_then c.args.create did.behind (λ e. shows_same name (g.A.Attach.shows old.first (first_name name)) (g.A.Attach.shows new.first (first_name name)) (g.B.Device.contents old.second) (g.B.Device.contents new.second)
    (g.B.Attach.shows old.second (second_name name)) (g.B.Attach.shows new.second (second_name name)) e (λ only. ap g.B.Device.contents (did.second_kept only))) in
    subst (λ m. OnOk c.attach-result.result (IfNone c.args.create (mirror_contents g.A.Device g.B.Device new ≡ mirror_shows g.B.Device g.A.Attach.shows g.B.Attach.shows m name))) c.self.view_is
    (ok_none c.attach-result.result c.args.create (goes_by_name g.A.Device g.B.Device old new name c.args.create c.attach-result.result did.noted did.named did.halves) same (λ by e.
    sym (shows_law g.A.Device g.B.Device g.A.Attach.shows g.B.Attach.shows g.met.A.Attach.shows_named g.met.B.Attach.shows_named new name by) ∙ e))

pub returns-clause-made : goal.returns-clause-made
returns-clause-made g c = c.attach-result.ensures.made

pub returns-clause-told : goal.returns-clause-told
returns-clause-told g c =
    let old = c.self.inside.parts in
    let did = c.attach-result.ensures in
    let new = c.attach-result.new.self in
    let name = c.args.name.now in
    subst (λ m. OnOk c.attach-result.result (IfSome c.args.create (λ _. is_some (mirror_contents g.A.Device g.B.Device new) ≡ is_some (mirror_contents g.A.Device g.B.Device m)))) c.self.view_is
    (attach_told g.A.Device g.B.Device old new c.args.create c.attach-result.result did.told)

pub returns-clause-named : goal.returns-clause-named
returns-clause-named g c =
    let old = c.self.inside.parts in
    let did = c.attach-result.ensures in
    let new = c.attach-result.new.self in
    let name = c.args.name.now in
    goes_by_name g.A.Device g.B.Device old new name c.args.create c.attach-result.result did.noted did.named did.halves

pub returns-clause-detached : goal.returns-clause-detached
returns-clause-detached g c = attach_detached g.A.Device g.B.Device c.attach-result.new.self c.attach-result.result c.attach-result.ensures.detached

pub returns-clause-behind : goal.returns-clause-behind
returns-clause-behind g c =
    let old = c.self.inside.parts in
    let did = c.attach-result.ensures in
    let new = c.attach-result.new.self in
    let name = c.args.name.now in
    let same : IfNone c.args.create (mirror_shows g.B.Device g.A.Attach.shows g.B.Attach.shows new name ≡ mirror_shows g.B.Device g.A.Attach.shows g.B.Attach.shows old name) =
    none_then c.args.create did.behind (λ e. shows_same name (g.A.Attach.shows old.first (first_name name)) (g.A.Attach.shows new.first (first_name name)) (g.B.Device.contents old.second) (g.B.Device.contents new.second)
    (g.B.Attach.shows old.second (second_name name)) (g.B.Attach.shows new.second (second_name name)) e (λ only. ap g.B.Device.contents (did.second_kept only))) in
    subst (λ m. OnErr c.attach-result.result (IfNone c.args.create (mirror_shows g.B.Device g.A.Attach.shows g.B.Attach.shows new name ≡ mirror_shows g.B.Device g.A.Attach.shows g.B.Attach.shows m name))) c.self.view_is
    (err_none c.attach-result.result same)

pub returns-clause-time : goal.returns-clause-time
returns-clause-time g c =
    let old = c.self.inside.parts in
    let did = c.attach-result.ensures in
    let new = c.attach-result.new.self in
    let name = c.args.name.now in
    let same : IfNone c.args.create (mirror_shows g.B.Device g.A.Attach.shows g.B.Attach.shows new name ≡ mirror_shows g.B.Device g.A.Attach.shows g.B.Attach.shows old name) =
    none_then c.args.create did.behind (λ e. shows_same name (g.A.Attach.shows old.first (first_name name)) (g.A.Attach.shows new.first (first_name name)) (g.B.Device.contents old.second) (g.B.Device.contents new.second)
    (g.B.Attach.shows old.second (second_name name)) (g.B.Attach.shows new.second (second_name name)) e (λ only. ap g.B.Device.contents (did.second_kept only))) in
    let later : old.counts.calls ≤ new.counts.calls = did.calls.later in
    let kept : old.counts.calls ≤ length (moments_of old) = omega (arith, c.self.invariant.counted) in
    let time : IfNone c.args.create (Elapses old.counts.calls new.counts.calls (IsLeftBehind g.A.Device g.B.Device g.A.Attach.shows g.B.Attach.shows g.A.Attach.left_behind g.B.Attach.left_behind old name) (IsLeftBehind g.A.Device g.B.Device g.A.Attach.shows g.B.Attach.shows g.A.Attach.left_behind g.B.Attach.left_behind new name) Nothing) =
    attach_times g.A.Device g.B.Device g.A.Attach.shows g.B.Attach.shows g.A.Attach.left_behind g.B.Attach.left_behind old new name c.args.create old.counts.calls new.counts.calls did.noted later kept same did.by_name in
    subst (λ m. OnOk c.attach-result.result (IfNone c.args.create (Elapses m.counts.calls new.counts.calls (IsLeftBehind g.A.Device g.B.Device g.A.Attach.shows g.B.Attach.shows g.A.Attach.left_behind g.B.Attach.left_behind m name) (mirror_since g.A.Device g.B.Device g.A.Attach.shows g.B.Attach.shows g.A.Attach.left_behind g.B.Attach.left_behind new) Nothing))) c.self.view_is
    (ok_none c.attach-result.result c.args.create (goes_by_name g.A.Device g.B.Device old new name c.args.create c.attach-result.result did.noted did.named did.halves) time (λ by e.
    attach_since g.A.Device g.B.Device g.A.Attach.shows g.B.Attach.shows g.A.Attach.left_behind g.B.Attach.left_behind old new name old.counts.calls new.counts.calls by e))

pub returns-clause-behind_time : goal.returns-clause-behind_time
returns-clause-behind_time g c =
    let old = c.self.inside.parts in
    let did = c.attach-result.ensures in
    let new = c.attach-result.new.self in
    let name = c.args.name.now in
    let same : IfNone c.args.create (mirror_shows g.B.Device g.A.Attach.shows g.B.Attach.shows new name ≡ mirror_shows g.B.Device g.A.Attach.shows g.B.Attach.shows old name) =
    none_then c.args.create did.behind (λ e. shows_same name (g.A.Attach.shows old.first (first_name name)) (g.A.Attach.shows new.first (first_name name)) (g.B.Device.contents old.second) (g.B.Device.contents new.second)
    (g.B.Attach.shows old.second (second_name name)) (g.B.Attach.shows new.second (second_name name)) e (λ only. ap g.B.Device.contents (did.second_kept only))) in
    let later : old.counts.calls ≤ new.counts.calls = did.calls.later in
    let kept : old.counts.calls ≤ length (moments_of old) = omega (arith, c.self.invariant.counted) in
    let time : IfNone c.args.create (Elapses old.counts.calls new.counts.calls (IsLeftBehind g.A.Device g.B.Device g.A.Attach.shows g.B.Attach.shows g.A.Attach.left_behind g.B.Attach.left_behind old name) (IsLeftBehind g.A.Device g.B.Device g.A.Attach.shows g.B.Attach.shows g.A.Attach.left_behind g.B.Attach.left_behind new name) Nothing) =
    attach_times g.A.Device g.B.Device g.A.Attach.shows g.B.Attach.shows g.A.Attach.left_behind g.B.Attach.left_behind old new name c.args.create old.counts.calls new.counts.calls did.noted later kept same did.by_name in
    subst (λ m. OnErr c.attach-result.result (IfNone c.args.create (Elapses m.counts.calls new.counts.calls (IsLeftBehind g.A.Device g.B.Device g.A.Attach.shows g.B.Attach.shows g.A.Attach.left_behind g.B.Attach.left_behind m name) (IsLeftBehind g.A.Device g.B.Device g.A.Attach.shows g.B.Attach.shows g.A.Attach.left_behind g.B.Attach.left_behind new name) Nothing))) c.self.view_is
    (err_none c.attach-result.result time)

pub returns-clause-also : goal.returns-clause-also
returns-clause-also g c =
    let old = c.self.inside.parts in
    let did = c.attach-result.ensures in
    let new = c.attach-result.new.self in
    let name = c.args.name.now in
    let sound_now : IsSound g.A.Device g.B.Device new =
    sound_attached g.A.Device g.B.Device old new name c.args.create c.attach-result.result did.noted (did.moments c.self.invariant.counted) c.are_whole.ensures
    did.named did.halves did.mirror did.marks did.detached in
    subst (λ m. MirrorDid g.A.Device g.B.Device g.A.Attach.shows g.B.Attach.shows g.A.Attach.left_behind g.B.Attach.left_behind m new (is_ok c.attach-result.result)) c.self.view_is
    (record {
      did = subst (λ note. DidBy g.A.Device g.B.Device g.A.Attach.shows g.B.Attach.shows g.A.Attach.left_behind g.B.Attach.left_behind note old new (is_ok c.attach-result.result)) (sym (ap last_note did.noted))
          (attach_did g.A.Device g.B.Device g.A.Attach.shows g.B.Attach.shows g.A.Attach.left_behind g.B.Attach.left_behind old new name c.args.create c.attach-result.result did.why did.attached did.left did.opened did.inside did.by_name);
      pairs = leaves_picks g.A.Device g.B.Device g.A.Attach.shows g.B.Attach.shows g.A.Attach.left_behind g.B.Attach.left_behind new (record {
        shows_a = g.met.A.Attach.shows_named;
        shows_b = g.met.B.Attach.shows_named;
        left_a = λ d n t x is. g.met.A.Attach.left_named d n t x is;
        left_b = λ d n t x is. g.met.B.Attach.left_named d n t x is;
        earlier_a = g.met.A.Device.since_earlier;
        earlier_b = g.met.B.Device.since_earlier;
      }) sound_now;
    })

-- ---- counts

pub returns-clause-cause : goal.returns-clause-cause
returns-clause-cause g c = subst (λ m. HasCause m.counts.faults c.attach-result.new.self.counts.faults c.attach-result.result) c.self.view_is c.attach-result.ensures.cause

pub returns-clause-faults : goal.returns-clause-faults
returns-clause-faults g c = subst (λ m. c.attach-result.new.self.counts.faults ≡ faults_after m.counts.faults c.attach-result.result) c.self.view_is c.attach-result.ensures.faults

pub returns-clause-last : goal.returns-clause-last
returns-clause-last g c = c.attach-result.ensures.last

pub returns-clause-calls : goal.returns-clause-calls
returns-clause-calls g c = subst (λ m. IsCounted m.counts.calls c.attach-result.new.self.counts.calls c.attach-result.result) c.self.view_is c.attach-result.ensures.calls

pub returns-clause-write_faults : goal.returns-clause-write_faults
returns-clause-write_faults g c = c.attach-result.ensures.write_faults ∙ ap (λ m. m.counts.write_faults) c.self.view_is
