-- From push to push, and a fault leaves the changes before it.
use Rattle.std.proofs.Common.{ℕ, Option, Some, refl, subst, ◌∙◌, arith}
use Rattle.std.proofs.lemmas.Result.{err_from_is_err_and}
use Rattle.bd_view.specs.Reclaiming.AreReclaims.{none}
use Rattle.bd_engine.specs.Engines.{IsSoundOn}
use Rattle.bd_volume.specs.Reclaims.{IsPushedTo}
use Rattle.bd_volume.specs.Volume.{view_of}
use Rattle.bd_volume.proofs.Called.{no_call, went_on, goes_then, ends_then, ends_err, ends_well}
use Rattle.bd_volume.proofs.Keeping.{keeps_none, keeps_then}
use Rattle.bd_volume.proofs.Reclaims.{changed_all}
use Rattle.bd_volume.proofs.volume.Volume.change_all.Goals as goal

pub loop-push-init : goal.loop-push-init
loop-push-init g c = record {
  goes = no_call g.D.Device c.args.self.now c.requires;
  sound = λ s. s;
  same = λ s k. refl;
  keeps = keeps_none g.D.Device c.args.self.now;
  changes = λ s. none (view_of g.D.Device c.args.self.now);
  many = λ s. omega arith;
  few = λ s. omega arith;
}

pub loop-push-preserved : goal.loop-push-preserved
loop-push-preserved g c =
    let i = c.loop-push.invariant in
    let h = c.in_ok-after.ensures in
    let a = view_of g.D.Device c.args.self.now in
    let d = view_of g.D.Device c.change_to_push.new.self in
    let to : IsSoundOn g.D.Device c.args.self.now.engine → IsPushedTo c.loop-push.pushes (Some c.in-Some.after) a d = λ s. subst (λ (o : Option ℕ). IsPushedTo c.loop-push.pushes o a d) c.in-Some.is (h.changes (i.sound s) (i.few s) a (i.changes s)) in
    record {
      goes = goes_then g.D.Device c.args.self.now c.loop-push.self c.change_to_push.new.self i.goes (went_on g.D.Device c.loop-push.self c.change_to_push.new.self _ h.ends h.count_stays);
      sound = λ s. h.sound (i.sound s);
      same = λ s k. h.same (i.sound s) k ∙ i.same s k;
      keeps = keeps_then g.D.Device c.args.self.now c.loop-push.self c.change_to_push.new.self (g.met.D.Device.since_earlier c.loop-push.self.engine.pager.dev) i.keeps h.keeps;
      changes = λ s. (to s).0;
      many = λ s. omega (arith, i.many s, (to s).1);
      few = λ s. (to s).2;
    }

pub returns-in_err-after-clause-fails : goal.returns-in_err-after-clause-fails
returns-in_err-after-clause-fails g c = λ s.
    let p = err_from_is_err_and c.from_residual.result c.from_residual.ensures.1 in
    let i = c.loop-push.invariant in
    rw (p.1, p.2) (c.in_err-after.ensures.fails (i.sound s) (view_of g.D.Device c.args.self.now) (i.changes s))

pub returns-in_err-after-clause-ends : goal.returns-in_err-after-clause-ends
returns-in_err-after-clause-ends g c =
    let p = err_from_is_err_and c.from_residual.result c.from_residual.ensures.1 in
    rw (p.1, p.2) (ends_then g.D.Device c.args.self.now c.loop-push.self c.change_to_push.new.self _ c.loop-push.invariant.goes (ends_err g.D.Device c.loop-push.self c.change_to_push.new.self c.in_err-after.field-0.0 c.in_err-after.ensures.ends))

pub returns-in_err-after-clause-keeps : goal.returns-in_err-after-clause-keeps
returns-in_err-after-clause-keeps g c =
    keeps_then g.D.Device c.args.self.now c.loop-push.self c.change_to_push.new.self (g.met.D.Device.since_earlier c.loop-push.self.engine.pager.dev) c.loop-push.invariant.keeps c.in_err-after.ensures.keeps

pub returns-in_default-clause-keeps : goal.returns-in_default-clause-keeps
returns-in_default-clause-keeps g c =
    keeps_then g.D.Device c.args.self.now c.loop-push.self c.change_to_push.new.self (g.met.D.Device.since_earlier c.loop-push.self.engine.pager.dev) c.loop-push.invariant.keeps c.in_ok-after.ensures.keeps

pub returns-in_default-clause-changes : goal.returns-in_default-clause-changes
returns-in_default-clause-changes g c = λ s.
    let i = c.loop-push.invariant in
    let a = view_of g.D.Device c.args.self.now in
    let d = view_of g.D.Device c.change_to_push.new.self in
    changed_all c.loop-push.pushes a d (subst (λ (o : Option ℕ). IsPushedTo c.loop-push.pushes o a d) c.in_default.is (c.in_ok-after.ensures.changes (i.sound s) (i.few s) a (i.changes s)))

pub returns-in_default-clause-ends : goal.returns-in_default-clause-ends
returns-in_default-clause-ends g c =
    let i = c.loop-push.invariant in
    let h = c.in_ok-after.ensures in
    ends_well g.D.Device c.args.self.now c.change_to_push.new.self _
    (goes_then g.D.Device c.args.self.now c.loop-push.self c.change_to_push.new.self i.goes (went_on g.D.Device c.loop-push.self c.change_to_push.new.self _ h.ends h.count_stays))

pub returns-clause-changes : goal.returns-clause-changes
returns-clause-changes g c = λ s.
    absurd (omega (arith, c.loop-push-test.false, c.loop-push.invariant.many s, c.loop-push.invariant.few s))

pub returns-in_err-after-clause-keys : goal.returns-in_err-after-clause-keys
returns-in_err-after-clause-keys g c = record {
  sound = λ s. c.in_err-after.ensures.sound (c.loop-push.invariant.sound s);
  same = λ s k. c.in_err-after.ensures.same (c.loop-push.invariant.sound s) k ∙ c.loop-push.invariant.same s k;
}

pub returns-in_default-clause-keys : goal.returns-in_default-clause-keys
returns-in_default-clause-keys g c = record {
  sound = λ s. c.in_ok-after.ensures.sound (c.loop-push.invariant.sound s);
  same = λ s k. c.in_ok-after.ensures.same (c.loop-push.invariant.sound s) k ∙ c.loop-push.invariant.same s k;
}

pub returns-clause-keys : goal.returns-clause-keys
returns-clause-keys g c = record { sound = c.loop-push.invariant.sound; same = c.loop-push.invariant.same }
