use Rattle.std.proofs.Common.{map, ap, ◌∙◌}
use Rattle.bd_sessions.specs.Cells.{now_in, next_in}
use Rattle.bd_sessions.specs.Sessions.{Held}
use Rattle.bd_sessions.specs.Steps.{handle_after}
use Rattle.bd_sessions.proofs.StepLemmas.{waits_still, waits_ready}
use Rattle.bd_sessions.proofs.sessions.Sessions.make_ready.Goals as goal
use Rattle.bd_sessions.proofs.sessions.Sessions.make_ready.Goals.{in-Removes-2, in-Renames-2}

pub returns-in-None-clause-waits : goal.returns-in-None-clause-waits
returns-in-None-clause-waits c =
    waits_still c.in-Do.command c.args.ask.now (map now_in c.self.inside.tables) c.args.self.now.tables c.in-Do.is (rw c.in-None.is at c.in_ok-of.ensures) (ap (λ (h : Held). h.tables) c.self.view_is)

pub returns-in_ok-make_tables_ready-in-Some-clause-waits : goal.returns-in_ok-make_tables_ready-in-Some-clause-waits
returns-in_ok-make_tables_ready-in-Some-clause-waits c =
    let ready = c.in_ok-make_tables_ready-in-Some.ensures.next ∙ ap (λ (h : Held). map (map (handle_after c.in-Some.step)) h.tables) c.self.view_is in
    let waits = waits_ready c.in-Do.command c.in-Some.step c.args.ask.now (map next_in c.make_tables_ready.new.tables) c.args.self.now.tables c.in-Do.is (rw c.in-Some.is at c.in_ok-of.ensures) ready in
    elim c.match-step-2.branch [
      | in-Removes-2 w ↦ ap (λ (h : Held). h.waits) w.self-is ∙ waits
      | in-Renames-2 w ↦ ap (λ (h : Held). h.waits) w.self-is ∙ waits
    ]
