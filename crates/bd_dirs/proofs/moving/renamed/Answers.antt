use Rattle.std.proofs.Common.{◌≡◌, false, length, ap, ◌∙◌, subst, arith}
use Rattle.bd_dirs.specs.Plans.{IsCarriedAt}
use Rattle.bd_dirs.proofs.Makes.{makes_rename, not_inside}
use Rattle.bd_dirs.proofs.NewPlans.{moved}
use Rattle.bd_dirs.proofs.Smalls.{small_rename, rename_sent}
use Rattle.bd_dirs.proofs.moving.renamed.Goals as goal

pub returns-in_ok-carried-in-Some-clause-plan : goal.returns-in_ok-carried-in-Some-clause-plan
returns-in_ok-carried-in-Some-clause-plan g c = λ known t tree r free.
    let at = g.M.KeyMap.has c.args.m.now in
    let a = c.args.a.now in
    let b = c.args.b.now in
    let h = c.in_ok-carried-in-Some.ensures in
    small_rename at t a b c.in-Some.file c.from_vec.result h.names.0 h.names.1 tree r free
    (subst (IsCarriedAt at t a b) c.in-Some.is (c.in_ok-file.ensures.found known t tree r)) (c.from_vec.ensures ∙ h.list)

pub returns-in_ok-key-in-None-2-clause-plan : goal.returns-in_ok-key-in-None-2-clause-plan
returns-in_ok-key-in-None-2-clause-plan g c = λ known t tree r free.
    let at = g.M.KeyMap.has c.args.m.now in
    let a = c.args.a.now in
    let b = c.args.b.now in
    let first = c.in_ok-key-in-None.ensures in
    let second = c.in_ok-key-in-None-2.ensures in (
      free,
      makes_rename at t a b c.from_vec-in-None.result c.from_vec-in-None-2.result first.names second.names tree r free (c.from_vec-in-None.ensures ∙ first.key) (c.from_vec-in-None-2.ensures ∙ second.key),
      rename_sent at t a b (subst (IsCarriedAt at t a b) c.in-None.is (c.in_ok-file.ensures.found known t tree r))
          ∙ moved c.from_vec-in-None.result c.from_vec-in-None-2.result _ _ false (c.from_vec-in-None.ensures ∙ first.key) (c.from_vec-in-None-2.ensures ∙ second.key),
    )

pub returns-in_ok-key-in-None-2-clause-ready : goal.returns-in_ok-key-in-None-2-clause-ready
returns-in_ok-key-in-None-2-clause-ready g c =
    let first = c.in_ok-key-in-None.ensures in
    let second = c.in_ok-key-in-None-2.ensures in (
      omega (arith, ap length c.from_vec-in-None.ensures, first.length),
      omega (arith, ap length c.from_vec-in-None-2.ensures, second.length),
      λ moved. not_inside c.args.a.now c.args.b.now c.from_vec-in-None.result c.from_vec-in-None-2.result first.names second.names c.requires
          (c.from_vec-in-None.ensures ∙ first.key) (c.from_vec-in-None-2.ensures ∙ second.key),
    )
