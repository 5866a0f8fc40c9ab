-- Each command goes on from those before it, and each way out ends as its reply or the fault does.
use Rattle.std.proofs.Common.{◌≡◌, ℕ, refl, sym, ap, subst, ◌∙◌, arith}
use Rattle.std.proofs.lemmas.Result.{err_from_is_err_and}
use Rattle.std.specs.List.{AllByRecursion}
use Rattle.std.specs.declared.result.Result.TheVariants.{Ok}
use Rattle.bd_command.specs.Command.{IsCommand}
use Rattle.bd_shell.specs.Fault.{Faults, faults}
use Rattle.bd_shell.specs.Shell.{ShellAt}
use Rattle.bd_shell.proofs.Moving.{caused_after, stays_more, stays_same, went_on}
use Rattle.bd_transfer.specs.Giving.{GivesOne}
use Rattle.bd_transfer.proofs.Asked.{none_of}
use Rattle.bd_transfer.proofs.Gone.{GoneTo, empty_of, gone_end, gone_fails, gone_last, gone_more, gone_none, gone_popped, popped}
use Rattle.bd_transfer.proofs.importing.give_all.Goals as goal

pub commands-init : goal.commands-init
commands-init g c = record {
  gone = λ first since. subst (λ l. GoneTo c.args.commands.items l (ShellAt g.D.Device first since c.args.shell.now) (ShellAt g.D.Device first since c.args.shell.now)) (sym c.from-left.ensures.0)
      (gone_none c.args.commands.items (ShellAt g.D.Device first since c.args.shell.now));
  limits = subst (AllByRecursion IsCommand) (sym c.from-left.ensures.0) c.requires.limits;
  going = c.requires.going;
  acks = refl;
  device = stays_same g.D.Device _;
  writes = refl;
  count = refl;
}

pub returns-in_err-end-clause-all : goal.returns-in_err-end-clause-all
returns-in_err-end-clause-all g c =
    let p = err_from_is_err_and c.from_residual.result c.from_residual.ensures.1 in
    rw (p.1, p.2) (λ first since. gone_fails c.in_err-end.field-0.0 _ _ c.in-Some.command _ _ _ (gone_popped _ _ _ c.pop_front.result c.in-Some.command _ _ (c.commands.invariant.gone first since) c.pop_front.ensures.items c.in-Some.is)
    (c.in_err-end.ensures.one first since))

pub returns-in_err-end-clause-cause : goal.returns-in_err-end-clause-cause
returns-in_err-end-clause-cause g c =
    let p = err_from_is_err_and c.from_residual.result c.from_residual.ensures.1 in
    rw (p.1, p.2) (λ sink. caused_after _ _ _ _ c.in_err-end.field-0.0 (ap (λ n. faults n 0 sink) c.commands.invariant.count) (c.in_err-end.ensures.cause sink))

pub returns-in-Some-2-clause-all : goal.returns-in-Some-2-clause-all
returns-in-Some-2-clause-all g c first since =
    gone_last c.in-Some-2.end _ _ c.in-Some.command _ _ _ (gone_popped _ _ _ c.pop_front.result c.in-Some.command _ _ (c.commands.invariant.gone first since) c.pop_front.ensures.items c.in-Some.is)
    (subst (λ o. GivesOne (Ok o) c.in-Some.command (ShellAt g.D.Device first since c.commands.shell) (ShellAt g.D.Device first since c.give_one.new.shell)) c.in-Some-2.is (c.in_ok-end.ensures.one first since))

pub returns-in-Some-2-clause-cause : goal.returns-in-Some-2-clause-cause
returns-in-Some-2-clause-cause g c sink = went_on _ _ _ _ ((c.in_ok-end.ensures.cause sink).kept ∙ ap (λ n. faults n 0 sink) c.commands.invariant.count)

pub commands-preserved : goal.commands-preserved
commands-preserved g c =
    let none = none_of c.in_ok-end.field-0 c.in_default-2.not-Some in
    let kept = (c.in_ok-end.ensures.cause 0).kept in
    record {
      gone = λ first since. gone_more _ _ c.in-Some.command _ _ _ (gone_popped _ _ _ c.pop_front.result c.in-Some.command _ _ (c.commands.invariant.gone first since) c.pop_front.ensures.items c.in-Some.is)
          (subst (λ o. GivesOne (Ok o) c.in-Some.command (ShellAt g.D.Device first since c.commands.shell) (ShellAt g.D.Device first since c.give_one.new.shell)) none (c.in_ok-end.ensures.one first since));
      limits = (subst (AllByRecursion IsCommand) (popped c.pop_front.result c.in-Some.command _ _ c.pop_front.ensures.items c.in-Some.is) c.commands.invariant.limits).1;
      going = c.in_ok-end.ensures.going;
      acks = c.in_ok-end.ensures.unacked ∙ c.commands.invariant.acks;
      device = stays_more g.D.Device _ _ _ c.commands.invariant.device c.in_ok-end.ensures.device;
      writes = c.in_ok-end.ensures.writes ∙ c.commands.invariant.writes;
      count = ap (λ (f : Faults). f.device) kept ∙ c.commands.invariant.count;
    }

pub returns-clause-all : goal.returns-clause-all
returns-clause-all g c first since =
    let left = c.commands.left in
    let size : left.len ≡ Rattle.std.proofs.Common.length left.items = omega (arith, left.ok) in
    gone_end _ _ _ (subst (λ l. GoneTo c.args.commands.items l (ShellAt g.D.Device first since c.args.shell.now) (ShellAt g.D.Device first since c.commands.shell))
    (empty_of c.pop_front.result left.items left.len size c.pop_front.ensures.variant c.in_default.not-Some) (c.commands.invariant.gone first since))
