use Rattle.std.proofs.Common.{◌≡◌, ◌⊎◌}
use Rattle.bd_message.specs.KeyMaps.{NeverWorn}
use Rattle.bd_node.specs.Pushes.{CanPush}
use Rattle.bd_counts.proofs.Causes.{cause_wider}
use Rattle.bd_pager.specs.Causes.{is_bad_to_push}
use Rattle.bd_pager.specs.Pagers.{Paged, nodes_of, table_of, is_bad}
use Rattle.bd_pager.proofs.DamageLemmas.{by_is_bad}
use Rattle.bd_pager.proofs.pager.store.PagerNodeStore.push_down.Goals as goal

pub returns-clause-cause : goal.returns-clause-cause
returns-clause-cause g c =
    let D = g.D.Device in
    let old : Paged g.row.D.Denot = c.args.self.now in
    let new : Paged g.row.D.Denot = c.push_down.new.self in
    cause_wider (D.fault_count old.dev) (D.fault_count new.dev) (D.last_failed new.dev) (is_bad_to_push D new c.args.push) (is_bad D new) (NeverWorn) (NeverWorn)
    (by_is_bad D new (λ id. (id ≡ c.args.push.parent) ⊎ (id ≡ c.args.push.child)) (CanPush (nodes_of D new) (table_of new) c.args.push → ⊥)) (λ k worn. worn) c.push_down.result c.push_down.ensures.cause
