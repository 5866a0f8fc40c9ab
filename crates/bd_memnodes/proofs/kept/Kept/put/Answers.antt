use Rattle.std.proofs.Common.{ℕ, ◌+◌, ◌≤◌, List, refl, ap, subst, ◌∙◌}
use Rattle.bd_memnodes.specs.declared.kept.Kept.{Kept}
use Rattle.bd_counts.specs.Naming.{times_among}
use Rattle.bd_memnodes.specs.Maps.{count_in}
use Rattle.bd_memnodes.proofs.Parts.{names_there, changes_there, put_owing}
use Rattle.bd_memnodes.proofs.kept.Kept.put.Goals as goal

pub raise-requires-clause-there : goal.raise-requires-clause-there
raise-requires-clause-there c = λ k one.
    names_there c.args.self.now c.add_all.new.self c.args.plan c.requires.step c.add_all.ensures.added k
    (subst (λ (xs : List ℕ). 1 ≤ times_among xs k) (c.as_slice.ensures.value ∙ c.requires.names) one)

pub exchange_all-requires-clause-there : goal.exchange_all-requires-clause-there
exchange_all-requires-clause-there c =
    changes_there c.args.self.now c.add_all.new.self c.args.plan c.requires.whole c.requires.step c.add_all.ensures.added

pub returns-clause-owing : goal.returns-clause-owing
returns-clause-owing c =
    let added : Kept = c.add_all.new.self in
    put_owing c.args.self.now added (record added { counts = c.raise.new.counts }) c.exchange_all.new.self c.args.plan
    c.requires.whole c.requires.step c.requires.above c.add_all.ensures.added refl refl refl
    (λ k. c.raise.ensures k ∙ ap (λ (xs : List ℕ). count_in added.counts k + times_among xs k) (c.as_slice.ensures.value ∙ c.requires.names))
    c.exchange_all.ensures.exchanged
