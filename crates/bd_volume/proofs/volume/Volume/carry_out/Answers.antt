-- What is planned gives the step.
use Rattle.std.proofs.Common.{ℕ, List, ap, subst}
use Rattle.bd_message.specs.declared.message.Message.{Message}
use Rattle.bd_message.specs.KeyMaps.{IsApplied, IsGrafted}
use Rattle.bd_effects.specs.Carrying.{accepts}
use Rattle.bd_effects.proofs.Carried.{applied_plan, grafted_plan}
use Rattle.bd_engine.specs.Engines.{keys_of}
use Rattle.bd_volume.specs.Volume.{view_of}
use Rattle.bd_volume.proofs.Executed.{refused_safely, logged_safely}
use Rattle.bd_volume.proofs.Sent.{messages_accepted, graft_accepted}
use Rattle.bd_volume.proofs.volume.Volume.carry_out.Goals as goal

pub returns-in_ok-send-in-Apply-clause-step : goal.returns-in_ok-send-in-Apply-clause-step
returns-in_ok-send-in-Apply-clause-step g c = λ s t r h.
    let old = keys_of g.D.Device c.args.self.now.engine.pager in
    let new = keys_of g.D.Device c.send.new.self.engine.pager in
    applied_plan old new t c.args.command.now c.args.plan c.in-Apply.list c.requires.logged.0 c.in-Apply.is h
    (subst (λ (xs : List Message). IsApplied old xs new) c.as_slice.ensures (c.in_ok-send-in-Apply.ensures.applied s))

pub returns-in_ok-graft-in-Graft-clause-step : goal.returns-in_ok-graft-in-Graft-clause-step
returns-in_ok-graft-in-Graft-clause-step g c = λ s t r h.
    let old = keys_of g.D.Device c.args.self.now.engine.pager in
    let new = keys_of g.D.Device c.graft.new.self.engine.pager in
    grafted_plan old new t c.args.command.now c.args.plan c.in-Graft.s c.in-Graft.d c.in-Graft.keep c.requires.logged.0 c.in-Graft.is h
    (subst (λ (k : List ℕ). IsGrafted old k c.in-Graft.d c.in-Graft.keep new) c.as_slice-in-Graft.ensures
    (subst (λ (k : List ℕ). IsGrafted old c.as_slice-in-Graft.result.now k c.in-Graft.keep new) c.as_slice-in-Graft-2.ensures (c.in_ok-graft-in-Graft.ensures.grafted s)))

pub returns-in-Refused-clause-safe : goal.returns-in-Refused-clause-safe
returns-in-Refused-clause-safe g c = λ t n s h.
    refused_safely g.D.Device c.args.self.now (keys_of g.D.Device c.args.self.now.engine.pager) c.args.command.now c.args.plan c.in-Refused.refusal t n c.in-Refused.is h s

pub returns-in_ok-send-in-Apply-clause-safe : goal.returns-in_ok-send-in-Apply-clause-safe
returns-in_ok-send-in-Apply-clause-safe g c = λ t n s h.
    logged_safely g.D.Device c.args.self.now c.send.new.self (keys_of g.D.Device c.args.self.now.engine.pager) c.args.command.now c.args.plan t n c.requires.logged.0 (ap accepts c.in-Apply.is) h c.in_ok-send-in-Apply.ensures.logged s

pub returns-in_ok-graft-in-Graft-clause-safe : goal.returns-in_ok-graft-in-Graft-clause-safe
returns-in_ok-graft-in-Graft-clause-safe g c = λ t n s h.
    logged_safely g.D.Device c.args.self.now c.graft.new.self (keys_of g.D.Device c.args.self.now.engine.pager) c.args.command.now c.args.plan t n c.requires.logged.0 (ap accepts c.in-Graft.is) h c.in_ok-graft-in-Graft.ensures.logged s

pub returns-in_ok-send-in-Apply-clause-moved : goal.returns-in_ok-send-in-Apply-clause-moved
returns-in_ok-send-in-Apply-clause-moved g c = λ s t h done.
    messages_accepted t c.args.command.now c.args.plan c.in-Apply.list c.as_slice.result.now (view_of g.D.Device c.args.self.now) (view_of g.D.Device c.send.new.self) c.in-Apply.is c.as_slice.ensures h (c.in_ok-send-in-Apply.ensures.sends s)

pub returns-in_ok-graft-in-Graft-clause-moved : goal.returns-in_ok-graft-in-Graft-clause-moved
returns-in_ok-graft-in-Graft-clause-moved g c = λ s t h done.
    graft_accepted t c.args.command.now c.args.plan c.in-Graft.s c.in-Graft.d c.as_slice-in-Graft.result.now c.as_slice-in-Graft-2.result.now c.in-Graft.keep (view_of g.D.Device c.args.self.now) (view_of g.D.Device c.graft.new.self) c.in-Graft.is c.as_slice-in-Graft.ensures c.as_slice-in-Graft-2.ensures h
    (c.in_ok-graft-in-Graft.ensures.sends s)
