use Rattle.std.proofs.Common.{◌≡◌, ◌⊎◌}
use Rattle.bd_node.specs.Steps.{IsWornBy}
use Rattle.bd_counts.specs.Reading.{IsReadBy, FallsBelow}
use Rattle.bd_counts.proofs.Causes.{cause_wider}
use Rattle.bd_pager.specs.Causes.{is_bad_to_commit}
use Rattle.bd_pager.specs.Pagers.{Paged, nodes_of, table_of, is_bad}
use Rattle.bd_pager.proofs.DamageLemmas.{by_is_bad}
use Rattle.bd_pager.proofs.pager.store.PagerNodeStore.commit.Goals as goal

pub returns-clause-cause : goal.returns-clause-cause
returns-clause-cause g c =
    let D = g.D.Device in
    let old : Paged g.row.D.Denot = c.args.self.now in
    let new : Paged g.row.D.Denot = c.commit.new.self in
    cause_wider (D.fault_count old.dev) (D.fault_count new.dev) (D.last_failed new.dev) (is_bad_to_commit D new c.args.step) (is_bad D new) (IsWornBy (table_of old) c.args.step) (IsWornBy (table_of old) c.args.step)
    (by_is_bad D new (λ id. IsReadBy (nodes_of D new) (table_of new) c.args.step id ⊎ (id ≡ c.args.step.root)) (FallsBelow (nodes_of D new) (table_of new) c.args.step)) (λ k worn. worn) c.commit.result c.commit.ensures.cause
