-- The piece is fed, and its commands are executed.
use Rattle.std.proofs.Common.{◌≡◌, [], length, sym, subst, arith, rules}
use Rattle.std.proofs.lemmas.Result.{err_from_is_err_and}
use Rattle.std.specs.List.{AllByRecursion}
use Rattle.std.specs.declared.result.Result.TheVariants.{Ok}
use Rattle.bd_command.specs.Command.{IsCommand}
use Rattle.bd_stream.specs.Feeding.{seen}
use Rattle.bd_stream.specs.Within.{IsWell}
use Rattle.bd_stream.proofs.WellLemmas.{fed_commands, fed_well}
use Rattle.bd_shell.specs.Shell.{ShellAt}
use Rattle.bd_shell.proofs.Lines.{fault_as}
use Rattle.bd_shell.proofs.Moving.{went_on}
use Rattle.bd_transfer.specs.Giving.{FeedsPiece, GivesAll}
use Rattle.bd_transfer.proofs.Gone.{all_made, are_bytes, feeds_all, feeds_err, feeds_none, feeds_stop}
use Rattle.bd_transfer.proofs.importing.feed_piece.Goals as goal

pub give_all-requires-clause-limits : goal.give_all-requires-clause-limits
give_all-requires-clause-limits g c =
    let none : c.new-commands.result.items ≡ [] = search rules in
    subst (AllByRecursion IsCommand) (sym (all_made _ _ _ none c.in_ok-end.ensures.commands))
    (fed_commands (seen c.args.importer.now) c.args.piece.now c.args.importer.now.sound c.requires.well (are_bytes c.args.piece.now (λ i. omega (arith, c.type_inv.piece i))))

pub returns-in_err-end-clause-feeds : goal.returns-in_err-end-clause-feeds
returns-in_err-end-clause-feeds g c =
    let p = err_from_is_err_and c.from_residual.result c.from_residual.ensures.1 in
    rw (p.1, p.2, c.in_err-end.ensures.err) (λ first since. feeds_none _ _ _ _)

pub returns-in_err-give_all-clause-feeds : goal.returns-in_err-give_all-clause-feeds
returns-in_err-give_all-clause-feeds g c =
    let none : c.new-commands.result.items ≡ [] = search rules in
    let p = err_from_is_err_and c.from_residual-in_err-give_all.result c.from_residual-in_err-give_all.ensures.1 in
    rw (p.1, p.2) (λ first since. feeds_err c.in_err-give_all.field-0.0 _ _ _ _ _ _ (all_made _ _ _ none c.in_ok-end.ensures.commands) (c.in_err-give_all.ensures.all first since))

pub returns-in_err-give_all-clause-cause : goal.returns-in_err-give_all-clause-cause
returns-in_err-give_all-clause-cause g c =
    let p = err_from_is_err_and c.from_residual-in_err-give_all.result c.from_residual-in_err-give_all.ensures.1 in
    rw (p.1, p.2) (λ sink. fault_as _ _ _ c.in_err-give_all.field-0.0 (c.in_err-give_all.ensures.cause sink))

pub returns-in-None-clause-feeds : goal.returns-in-None-clause-feeds
returns-in-None-clause-feeds g c first since =
    let none : c.new-commands.result.items ≡ [] = search rules in
    let v = c.take_piece.new.commands in
    let size : c.len-count.result ≡ length v.items = omega (arith, v.ok, c.len-count.ensures) in
    subst (λ r. FeedsPiece (Ok r) (seen c.args.importer.now) (seen c.take_piece.new.importer) c.args.piece.now (ShellAt g.D.Device first since c.args.shell.now) (ShellAt g.D.Device first since c.give_all.new.shell)) (sym c.fed_by.ensures)
    (feeds_all c.in_ok-end.end c.len-count.result _ _ _ _ _ _ c.in_ok-end.ensures.state (all_made _ _ _ none c.in_ok-end.ensures.commands) c.in_ok-end.ensures.end size
    (subst (λ o. GivesAll (Ok o) v.items (ShellAt g.D.Device first since c.args.shell.now) (ShellAt g.D.Device first since c.give_all.new.shell)) c.in-None.is (c.in_ok-give_all.ensures.all first since)))

pub returns-in-None-clause-well : goal.returns-in-None-clause-well
returns-in-None-clause-well g c =
    subst IsWell (sym c.in_ok-end.ensures.state) (fed_well (seen c.args.importer.now) c.args.piece.now c.args.importer.now.sound c.requires.well (are_bytes c.args.piece.now (λ i. omega (arith, c.type_inv.piece i))))

pub returns-in-None-clause-cause : goal.returns-in-None-clause-cause
returns-in-None-clause-cause g c sink = went_on _ _ _ _ (c.in_ok-give_all.ensures.cause sink).kept

pub returns-in-Some-clause-feeds : goal.returns-in-Some-clause-feeds
returns-in-Some-clause-feeds g c first since =
    let none : c.new-commands.result.items ≡ [] = search rules in
    feeds_stop c.in-Some.stop _ _ _ _ _ _ c.in_ok-end.ensures.state (all_made _ _ _ none c.in_ok-end.ensures.commands)
    (subst (λ o. GivesAll (Ok o) c.take_piece.new.commands.items (ShellAt g.D.Device first since c.args.shell.now) (ShellAt g.D.Device first since c.give_all.new.shell)) c.in-Some.is (c.in_ok-give_all.ensures.all first since))

pub returns-in-Some-clause-well : goal.returns-in-Some-clause-well
returns-in-Some-clause-well g c =
    subst IsWell (sym c.in_ok-end.ensures.state) (fed_well (seen c.args.importer.now) c.args.piece.now c.args.importer.now.sound c.requires.well (are_bytes c.args.piece.now (λ i. omega (arith, c.type_inv.piece i))))

pub returns-in-Some-clause-cause : goal.returns-in-Some-clause-cause
returns-in-Some-clause-cause g c sink = went_on _ _ _ _ (c.in_ok-give_all.ensures.cause sink).kept
