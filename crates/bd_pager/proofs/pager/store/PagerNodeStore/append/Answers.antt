use Rattle.bd_message.specs.KeyMaps.{NeverWorn}
use Rattle.bd_counts.proofs.Causes.{cause_wider}
use Rattle.bd_pager.specs.Pagers.{Paged, is_bad}
use Rattle.bd_pager.proofs.pager.store.PagerNodeStore.append.Goals as goal

pub returns-clause-cause : goal.returns-clause-cause
returns-clause-cause g c =
    let D = g.D.Device in
    let old : Paged g.row.D.Denot = c.args.self.now in
    let new : Paged g.row.D.Denot = c.append.new.self in
    cause_wider (D.fault_count old.dev) (D.fault_count new.dev) (D.last_failed new.dev) (λ b. ⊥) (is_bad D new) (NeverWorn) (NeverWorn)
    (λ b no. absurd no) (λ k worn. worn) c.append.result c.append.ensures.cause
