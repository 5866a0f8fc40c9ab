use Rattle.std.proofs.Common.{List, reverse, Option, OnOk, ap, sym, subst, ◌∙◌}
use Rattle.bd_message.specs.KeyMaps.{HasMapCause}
use Rattle.bd_path.specs.declared.fetching.Fetched.{Fetched}
use Rattle.bd_path.specs.Made.{AreKnown, IsMadeBy, IsWornFor}
use Rattle.bd_flush.specs.Between.{IsSplitStep, IsHighSplit}
use Rattle.bd_flush.specs.Pushing.{IsSomePush, IsHighPush}
use Rattle.bd_step.specs.Steps.{IsFlushMade, IsWornStep}
use Rattle.bd_step.specs.declared.ways.FlushStep.TheVariants.{At}
use Rattle.bd_step.specs.declared.ways.Work.{Work}
use Rattle.bd_step.specs.declared.ways.Work.TheVariants.{Push}
use Rattle.bd_step.specs.Ways.{IsDue, IsWaited}
use Rattle.bd_step.proofs.Making.{can_push, can_push_new, can_carve, has_child, privatise_few, way_stands}
use Rattle.bd_step.proofs.steps.work_at.Goals as goal

pub split_child-requires-clause-there : goal.split_child-requires-clause-there
split_child-requires-clause-there g c = λ known sound. way_stands (g.S.NodeStore.nodes c.args.store.now) (g.S.NodeStore.table c.args.store.now) c.args.site.above c.as_slice.result.now c.as_slice.ensures (c.requires.way_here known sound)

pub returns-in-Split-clause-made : goal.returns-in-Split-clause-made
returns-in-Split-clause-made g c = λ known sound.
    subst (λ (w : Work). OnOk c.split_child.result (IsFlushMade (g.S.NodeStore.nodes c.args.store.now) (g.S.NodeStore.table c.args.store.now) (At c.args.site w) (g.S.NodeStore.nodes c.split_child.new.store) (g.S.NodeStore.table c.split_child.new.store))) (sym c.in-Split.is)
    (subst (λ (l : List Fetched). OnOk c.split_child.result (IsMadeBy (IsSplitStep (g.S.NodeStore.table c.args.store.now) (reverse l) c.args.site.parent c.args.site.place c.in-Split.child) (g.S.NodeStore.nodes c.args.store.now) (g.S.NodeStore.table c.args.store.now) (g.S.NodeStore.nodes c.split_child.new.store) (g.S.NodeStore.table c.split_child.new.store))) c.as_slice.ensures (c.split_child.ensures.made known sound))

pub returns-in-Split-clause-cause : goal.returns-in-Split-clause-cause
returns-in-Split-clause-cause g c =
    subst (λ (w : Work). HasMapCause (g.S.NodeStore.fault_count c.args.store.now) (g.S.NodeStore.fault_count c.split_child.new.store) (g.S.NodeStore.last_failed c.split_child.new.store) (g.S.NodeStore.bad c.split_child.new.store) (IsWornStep (AreKnown g.S.NodeStore c.args.store.now) (g.S.NodeStore.nodes c.args.store.now) (g.S.NodeStore.table c.args.store.now) (At c.args.site w)) c.split_child.result) (sym c.in-Split.is)
    (subst (λ (l : List Fetched). HasMapCause (g.S.NodeStore.fault_count c.args.store.now) (g.S.NodeStore.fault_count c.split_child.new.store) (g.S.NodeStore.last_failed c.split_child.new.store) (g.S.NodeStore.bad c.split_child.new.store) (IsWornFor (IsSplitStep (g.S.NodeStore.table c.args.store.now) (reverse l) c.args.site.parent c.args.site.place c.in-Split.child) (IsHighSplit (reverse l) c.args.site.parent c.args.site.place c.in-Split.child) (g.S.NodeStore.table c.args.store.now)) c.split_child.result) c.as_slice.ensures c.split_child.ensures.cause)

pub push_new-requires-clause-can : goal.push_new-requires-clause-can
push_new-requires-clause-can g c =
    can_push_new (g.S.NodeStore.table c.args.store.now) c.args.site
    (subst (λ (w : Work). IsWaited (At c.args.site w)) (c.in-Push-None.is ∙ ap (λ (o : Option Fetched). Push o) c.in-Push-None.child-is) c.requires.waited)
    (subst (λ (w : Work). IsDue (g.S.NodeStore.table c.args.store.now) (At c.args.site w)) (c.in-Push-None.is ∙ ap (λ (o : Option Fetched). Push o) c.in-Push-None.child-is) c.requires.due)

pub returns-in-Push-None-clause-made : goal.returns-in-Push-None-clause-made
returns-in-Push-None-clause-made g c = λ known sound.
    subst (λ (w : Work). OnOk c.push_new.result (IsFlushMade (g.S.NodeStore.nodes c.args.store.now) (g.S.NodeStore.table c.args.store.now) (At c.args.site w) (g.S.NodeStore.nodes c.push_new.new.store) (g.S.NodeStore.table c.push_new.new.store))) (sym (c.in-Push-None.is ∙ ap (λ (o : Option Fetched). Push o) c.in-Push-None.child-is))
    (c.push_new.ensures.made known sound)

pub push-requires-clause-can : goal.push-requires-clause-can
push-requires-clause-can g c =
    can_push (g.S.NodeStore.table c.args.store.now) c.args.site c.in-Push-Some.child
    (subst (λ (w : Work). IsWaited (At c.args.site w)) (c.in-Push-Some.is ∙ ap (λ (o : Option Fetched). Push o) c.in-Push-Some.child-is) c.requires.waited)
    (subst (λ (w : Work). IsDue (g.S.NodeStore.table c.args.store.now) (At c.args.site w)) (c.in-Push-Some.is ∙ ap (λ (o : Option Fetched). Push o) c.in-Push-Some.child-is) c.requires.due)

pub push-requires-clause-contents : goal.push-requires-clause-contents
push-requires-clause-contents g c = λ known sound. way_stands (g.S.NodeStore.nodes c.args.store.now) (g.S.NodeStore.table c.args.store.now) c.args.site.above c.as_slice-in-Push-Some.result.now c.as_slice-in-Push-Some.ensures (c.requires.way_here known sound)

pub returns-in-Push-Some-clause-made : goal.returns-in-Push-Some-clause-made
returns-in-Push-Some-clause-made g c = λ known sound.
    subst (λ (w : Work). OnOk c.push.result (IsFlushMade (g.S.NodeStore.nodes c.args.store.now) (g.S.NodeStore.table c.args.store.now) (At c.args.site w) (g.S.NodeStore.nodes c.push.new.store) (g.S.NodeStore.table c.push.new.store))) (sym (c.in-Push-Some.is ∙ ap (λ (o : Option Fetched). Push o) c.in-Push-Some.child-is))
    (subst (λ (l : List Fetched). OnOk c.push.result (IsMadeBy (IsSomePush (g.S.NodeStore.table c.args.store.now).root (g.S.NodeStore.table c.args.store.now).next (reverse l) c.args.site.parent c.args.site.place c.in-Push-Some.child) (g.S.NodeStore.nodes c.args.store.now) (g.S.NodeStore.table c.args.store.now) (g.S.NodeStore.nodes c.push.new.store) (g.S.NodeStore.table c.push.new.store))) c.as_slice-in-Push-Some.ensures (c.push.ensures.made known sound))

pub returns-in-Push-Some-clause-cause : goal.returns-in-Push-Some-clause-cause
returns-in-Push-Some-clause-cause g c =
    subst (λ (w : Work). HasMapCause (g.S.NodeStore.fault_count c.args.store.now) (g.S.NodeStore.fault_count c.push.new.store) (g.S.NodeStore.last_failed c.push.new.store) (g.S.NodeStore.bad c.push.new.store) (IsWornStep (AreKnown g.S.NodeStore c.args.store.now) (g.S.NodeStore.nodes c.args.store.now) (g.S.NodeStore.table c.args.store.now) (At c.args.site w)) c.push.result) (sym (c.in-Push-Some.is ∙ ap (λ (o : Option Fetched). Push o) c.in-Push-Some.child-is))
    (subst (λ (l : List Fetched). HasMapCause (g.S.NodeStore.fault_count c.args.store.now) (g.S.NodeStore.fault_count c.push.new.store) (g.S.NodeStore.last_failed c.push.new.store) (g.S.NodeStore.bad c.push.new.store) (IsWornFor (IsSomePush (g.S.NodeStore.table c.args.store.now).root (g.S.NodeStore.table c.args.store.now).next (reverse l) c.args.site.parent c.args.site.place c.in-Push-Some.child) (IsHighPush c.args.site.parent.node.value c.args.site.place c.in-Push-Some.child.node.value (reverse l)) (g.S.NodeStore.table c.args.store.now)) c.push.result) c.as_slice-in-Push-Some.ensures c.push.ensures.cause)

pub privatise-requires-clause-can : goal.privatise-requires-clause-can
privatise-requires-clause-can g c =
    has_child (g.S.NodeStore.table c.args.store.now) c.args.site (subst (λ (w : Work). IsDue (g.S.NodeStore.table c.args.store.now) (At c.args.site w)) c.in-Privatise.is c.requires.due)

pub returns-in-Privatise-clause-few_visits : goal.returns-in-Privatise-clause-few_visits
returns-in-Privatise-clause-few_visits g c =
    privatise_few (g.S.NodeStore.table c.args.store.now) c.args.site (g.S.NodeStore.visit_count c.args.store.now) (g.S.NodeStore.visit_count c.privatise.new.store)
    (subst (λ (w : Work). IsDue (g.S.NodeStore.table c.args.store.now) (At c.args.site w)) c.in-Privatise.is c.requires.due) c.privatise.ensures.few_visits

pub carve-requires-clause-can : goal.carve-requires-clause-can
carve-requires-clause-can g c =
    can_carve (g.S.NodeStore.table c.args.store.now) c.args.site c.in-Carve.index (subst (λ (w : Work). IsDue (g.S.NodeStore.table c.args.store.now) (At c.args.site w)) c.in-Carve.is c.requires.due)

pub returns-clause-made : goal.returns-clause-made
returns-clause-made g c = λ known sound.
    subst (λ (w : Work). OnOk c.carve.result (IsFlushMade (g.S.NodeStore.nodes c.args.store.now) (g.S.NodeStore.table c.args.store.now) (At c.args.site w) (g.S.NodeStore.nodes c.carve.new.store) (g.S.NodeStore.table c.carve.new.store))) (sym c.in-Carve.is) (c.carve.ensures.made known sound)
