use Rattle.std.proofs.Common.{◌≡◌, true, ◌∙◌, subst}
use Rattle.std.specs.FinMap.{get}
use Rattle.bd_files.specs.Smalls.{IsSmallAt}
use Rattle.bd_dirs.proofs.Makes.{makes_clone}
use Rattle.bd_dirs.proofs.NewPlans.{moved}
use Rattle.bd_dirs.proofs.Smalls.{small_clone, clone_sent}
use Rattle.bd_dirs.proofs.moving.cloned.Goals as goal

pub returns-in_ok-copied-in-Some-clause-plan : goal.returns-in_ok-copied-in-Some-clause-plan
returns-in_ok-copied-in-Some-clause-plan g c = λ known t tree r free.
    let at = g.M.KeyMap.has c.args.m.now in
    let a = c.args.a.now in
    let h = c.in_ok-copied-in-Some.ensures in
    small_clone at t a c.args.b.now c.in-Some.file c.from_vec.result c.in_ok-file.ensures.names h.names tree r free
    (subst (IsSmallAt at a (get t a)) c.in-Some.is (c.in_ok-file.ensures.found known t tree r)) (c.from_vec.ensures ∙ h.list)

pub returns-in_ok-key-in-None-2-clause-plan : goal.returns-in_ok-key-in-None-2-clause-plan
returns-in_ok-key-in-None-2-clause-plan g c = λ known t tree r free.
    let at = g.M.KeyMap.has c.args.m.now in
    let a = c.args.a.now in
    let b = c.args.b.now in
    let first = c.in_ok-key-in-None.ensures in
    let second = c.in_ok-key-in-None-2.ensures in (
      free,
      makes_clone at t a b c.from_vec-in-None.result c.from_vec-in-None-2.result first.names second.names tree r free (c.from_vec-in-None.ensures ∙ first.key) (c.from_vec-in-None-2.ensures ∙ second.key),
      clone_sent at t a b (subst (IsSmallAt at a (get t a)) c.in-None.is (c.in_ok-file.ensures.found known t tree r))
          ∙ moved c.from_vec-in-None.result c.from_vec-in-None-2.result _ _ true (c.from_vec-in-None.ensures ∙ first.key) (c.from_vec-in-None-2.ensures ∙ second.key),
    )
