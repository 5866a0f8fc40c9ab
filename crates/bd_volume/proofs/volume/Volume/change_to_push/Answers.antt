-- Each change is one more, up to the next push, and a fault leaves those before it.
use Rattle.std.proofs.Common.{◌<◌, ℕ, Option, refl, subst, ◌∙◌, arith}
use Rattle.std.proofs.lemmas.Result.{err_from_is_err_and}
use Rattle.bd_engine.specs.Engines.{IsSoundOn}
use Rattle.bd_volume.specs.Reclaims.{ChangesOnce, IsChangedTo}
use Rattle.bd_volume.specs.Volume.{view_of}
use Rattle.bd_volume.proofs.Called.{no_call, went_on, goes_then, ends_then, ends_err, ends_well}
use Rattle.bd_volume.proofs.Keeping.{keeps_none, keeps_then}
use Rattle.bd_volume.proofs.Reclaims.{within_first, within_next, within_end, changed_on, changed_last, pushed_to, stops_changing}
use Rattle.bd_volume.proofs.volume.Volume.change_to_push.Goals as goal

pub loop-made-init : goal.loop-made-init
loop-made-init g c = record {
  goes = no_call g.D.Device c.args.self.now c.requires;
  sound = λ s. s;
  same = λ s k. refl;
  keeps = keeps_none g.D.Device c.args.self.now;
  changes = λ s first h. h;
  within = λ s. within_first (view_of g.D.Device c.args.self.now) c.most_left.result _ (c.most_left.ensures.most s) refl;
}

pub loop-made-preserved : goal.loop-made-preserved
loop-made-preserved g c =
    let i = c.loop-made.invariant in
    let h = c.in_ok-after.ensures in
    let b = view_of g.D.Device c.loop-made.self in
    let d = view_of g.D.Device c.change_once.new.self in
    let once : IsSoundOn g.D.Device c.args.self.now.engine → ChangesOnce c.args.pushes c.in-Some.after b d = λ s. subst (λ (o : Option ℕ). IsChangedTo c.args.pushes o b d) c.in-Some.is (h.changes (i.sound s)) in
    let no : c.args.pushes < c.in-Some.after → ⊥ = λ more. omega (arith, more, c.if-pushes-after.false) in
    record {
      goes = goes_then g.D.Device c.args.self.now c.loop-made.self c.change_once.new.self i.goes (went_on g.D.Device c.loop-made.self c.change_once.new.self _ h.ends h.count_stays);
      sound = λ s. h.sound (i.sound s);
      same = λ s k. h.same (i.sound s) k ∙ i.same s k;
      keeps = keeps_then g.D.Device c.args.self.now c.loop-made.self c.change_once.new.self (g.met.D.Device.since_earlier c.loop-made.self.engine.pager.dev) i.keeps h.keeps;
      changes = λ s first r. changed_on c.args.pushes c.in-Some.after first b d (i.changes s first r) (once s) no;
      within = λ s. within_next c.loop-made._made _ c.args.pushes c.in-Some.after b d (i.within s) (once s) no;
    }

pub returns-in_err-after-clause-fails : goal.returns-in_err-after-clause-fails
returns-in_err-after-clause-fails g c = λ s first r.
    let p = err_from_is_err_and c.from_residual.result c.from_residual.ensures.1 in
    let i = c.loop-made.invariant in
    let h = c.in_err-after.ensures in
    rw (p.1, p.2) (stops_changing c.in_err-after.field-0.0 c.args.pushes first (view_of g.D.Device c.loop-made.self) (view_of g.D.Device c.change_once.new.self) (i.changes s first r) (h.unmoved (i.sound s)) (h.fails (i.sound s)))

pub returns-in_err-after-clause-keeps : goal.returns-in_err-after-clause-keeps
returns-in_err-after-clause-keeps g c =
    keeps_then g.D.Device c.args.self.now c.loop-made.self c.change_once.new.self (g.met.D.Device.since_earlier c.loop-made.self.engine.pager.dev) c.loop-made.invariant.keeps c.in_err-after.ensures.keeps

pub returns-in_err-after-clause-ends : goal.returns-in_err-after-clause-ends
returns-in_err-after-clause-ends g c =
    let p = err_from_is_err_and c.from_residual.result c.from_residual.ensures.1 in
    rw (p.1, p.2) (ends_then g.D.Device c.args.self.now c.loop-made.self c.change_once.new.self _ c.loop-made.invariant.goes (ends_err g.D.Device c.loop-made.self c.change_once.new.self c.in_err-after.field-0.0 c.in_err-after.ensures.ends))

pub returns-in_err-after-clause-sound : goal.returns-in_err-after-clause-sound
returns-in_err-after-clause-sound g c = λ s. c.in_err-after.ensures.sound (c.loop-made.invariant.sound s)

pub returns-in_err-after-clause-same : goal.returns-in_err-after-clause-same
returns-in_err-after-clause-same g c = λ s k. c.in_err-after.ensures.same (c.loop-made.invariant.sound s) k ∙ c.loop-made.invariant.same s k

-- ---- none is left

pub returns-in_default-clause-changes : goal.returns-in_default-clause-changes
returns-in_default-clause-changes g c = λ s few first r.
    let i = c.loop-made.invariant in
    let b = view_of g.D.Device c.loop-made.self in
    let d = view_of g.D.Device c.change_once.new.self in
    changed_last c.args.pushes first b d (i.changes s first r) (subst (λ (o : Option ℕ). IsChangedTo c.args.pushes o b d) c.in_default.is (c.in_ok-after.ensures.changes (i.sound s)))

pub returns-in_default-clause-keeps : goal.returns-in_default-clause-keeps
returns-in_default-clause-keeps g c =
    keeps_then g.D.Device c.args.self.now c.loop-made.self c.change_once.new.self (g.met.D.Device.since_earlier c.loop-made.self.engine.pager.dev) c.loop-made.invariant.keeps c.in_ok-after.ensures.keeps

pub returns-in_default-clause-ends : goal.returns-in_default-clause-ends
returns-in_default-clause-ends g c =
    let i = c.loop-made.invariant in
    let h = c.in_ok-after.ensures in
    ends_well g.D.Device c.args.self.now c.change_once.new.self _
    (goes_then g.D.Device c.args.self.now c.loop-made.self c.change_once.new.self i.goes (went_on g.D.Device c.loop-made.self c.change_once.new.self _ h.ends h.count_stays))

pub returns-in_default-clause-sound : goal.returns-in_default-clause-sound
returns-in_default-clause-sound g c = λ s. c.in_ok-after.ensures.sound (c.loop-made.invariant.sound s)

pub returns-in_default-clause-same : goal.returns-in_default-clause-same
returns-in_default-clause-same g c = λ s k. c.in_ok-after.ensures.same (c.loop-made.invariant.sound s) k ∙ c.loop-made.invariant.same s k

-- ---- a push was made

pub returns-then-pushes-after-clause-changes : goal.returns-then-pushes-after-clause-changes
returns-then-pushes-after-clause-changes g c = λ s few first r.
    let i = c.loop-made.invariant in
    let b = view_of g.D.Device c.loop-made.self in
    let d = view_of g.D.Device c.change_once.new.self in
    pushed_to c.args.pushes c.in-Some.after first b d (i.changes s first r) (subst (λ (o : Option ℕ). IsChangedTo c.args.pushes o b d) c.in-Some.is (c.in_ok-after.ensures.changes (i.sound s))) (omega (arith, c.if-pushes-after.true)) few

pub returns-then-pushes-after-clause-keeps : goal.returns-then-pushes-after-clause-keeps
returns-then-pushes-after-clause-keeps g c =
    keeps_then g.D.Device c.args.self.now c.loop-made.self c.change_once.new.self (g.met.D.Device.since_earlier c.loop-made.self.engine.pager.dev) c.loop-made.invariant.keeps c.in_ok-after.ensures.keeps

pub returns-then-pushes-after-clause-ends : goal.returns-then-pushes-after-clause-ends
returns-then-pushes-after-clause-ends g c =
    let i = c.loop-made.invariant in
    let h = c.in_ok-after.ensures in
    ends_well g.D.Device c.args.self.now c.change_once.new.self _
    (goes_then g.D.Device c.args.self.now c.loop-made.self c.change_once.new.self i.goes (went_on g.D.Device c.loop-made.self c.change_once.new.self _ h.ends h.count_stays))

pub returns-then-pushes-after-clause-sound : goal.returns-then-pushes-after-clause-sound
returns-then-pushes-after-clause-sound g c = λ s. c.in_ok-after.ensures.sound (c.loop-made.invariant.sound s)

pub returns-then-pushes-after-clause-same : goal.returns-then-pushes-after-clause-same
returns-then-pushes-after-clause-same g c = λ s k. c.in_ok-after.ensures.same (c.loop-made.invariant.sound s) k ∙ c.loop-made.invariant.same s k

-- ---- the loop ended

pub returns-clause-changes : goal.returns-clause-changes
returns-clause-changes g c = λ s few first r.
    within_end c.loop-made._made _ (view_of g.D.Device c.loop-made.self) (c.loop-made.invariant.within s) (omega (arith, c.loop-made-test.false))
