use Rattle.std.proofs.Common.{◌≡◌}
use Rattle.bd_message.specs.KeyMaps.{NeverWorn}
use Rattle.bd_counts.proofs.Causes.{cause_wider}
use Rattle.bd_pager.specs.Causes.{NamesWrongly, is_bad_to_fetch}
use Rattle.bd_pager.specs.Pagers.{Paged, is_bad}
use Rattle.bd_pager.proofs.DamageLemmas.{by_is_bad}
use Rattle.bd_pager.proofs.pager.store.PagerNodeStore.fetch.Goals as goal

pub returns-clause-cause : goal.returns-clause-cause
returns-clause-cause g c =
    let D = g.D.Device in
    let old : Paged g.row.D.Denot = c.args.self.now in
    let new : Paged g.row.D.Denot = c.fetch.new.self in
    cause_wider (D.fault_count old.dev) (D.fault_count new.dev) (D.last_failed new.dev) (is_bad_to_fetch D new c.args.id) (is_bad D new) (NeverWorn) (NeverWorn)
    (by_is_bad D new (λ other. other ≡ c.args.id) (NamesWrongly D new c.args.id)) (λ k worn. worn) c.fetch.result c.fetch.ensures.cause
