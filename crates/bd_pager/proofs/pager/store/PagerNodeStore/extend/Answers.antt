use Rattle.bd_node.specs.Steps.{IsWornByAdding}
use Rattle.bd_counts.proofs.Causes.{cause_wider}
use Rattle.bd_pager.specs.Causes.{NamesWrongly, is_bad_to_extend}
use Rattle.bd_pager.specs.Pagers.{Paged, table_of, is_bad}
use Rattle.bd_pager.proofs.DamageLemmas.{by_is_bad}
use Rattle.bd_pager.proofs.pager.store.PagerNodeStore.extend.Goals as goal

pub returns-clause-cause : goal.returns-clause-cause
returns-clause-cause g c =
    let D = g.D.Device in
    let old : Paged g.row.D.Denot = c.args.self.now in
    let new : Paged g.row.D.Denot = c.extend.new.self in
    cause_wider (D.fault_count old.dev) (D.fault_count new.dev) (D.last_failed new.dev) (is_bad_to_extend D new) (is_bad D new) (IsWornByAdding (table_of old) c.args.made c.args.list) (IsWornByAdding (table_of old) c.args.made c.args.list)
    (by_is_bad D new (λ id. ⊥) (NamesWrongly D new new.root)) (λ k worn. worn) c.extend.result c.extend.ensures.cause
