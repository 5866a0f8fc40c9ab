use Rattle.std.proofs.Common.{IfOk, sym, subst}
use Rattle.bd_message.specs.KeyMaps.{HasMapCause, NeverWorn}
use Rattle.bd_node.specs.Tables.{IsSound, root_at}
use Rattle.bd_entries.specs.Verdicts.{IsVerdict}
use Rattle.bd_pager.specs.Pagers.{Paged, is_bad, is_known, nodes_of, table_of, IsReadOf}
use Rattle.bd_check.specs.Verdicts.{key_count_limit}
use Rattle.bd_check.proofs.keys.check_keys.Goals as goal

pub returns-clause-verdict : goal.returns-clause-verdict
returns-clause-verdict g c = λ known sound.
    let D = g.D.Device in
    let store = c.over-tree.ensures.store in
    subst (λ (p : Paged g.row.D.Denot). IfOk c.check_entries-found.result (IsVerdict c.args.has_modes (root_at (nodes_of D p) (table_of p)) key_count_limit)) store
    (c.check_entries-found.ensures.verdict (subst (λ (p : Paged g.row.D.Denot). is_known D p) (sym store) known, subst (λ (p : Paged g.row.D.Denot). IsSound (nodes_of D p) (table_of p)) (sym store) sound))

pub returns-clause-left : goal.returns-clause-left
returns-clause-left g c =
    let D = g.D.Device in
    subst (λ (p : Paged g.row.D.Denot). IsReadOf D p c.into_store.result) c.over-tree.ensures.store
    (subst (λ (q : Paged g.row.D.Denot). IsReadOf D c.over-tree.result.store q) (sym c.into_store.ensures) c.check_entries-found.ensures.left.read.0)

pub returns-clause-cause : goal.returns-clause-cause
returns-clause-cause g c =
    let D = g.D.Device in
    subst (λ (p : Paged g.row.D.Denot). HasMapCause (D.fault_count p.dev) (D.fault_count c.into_store.result.dev) (D.last_failed c.into_store.result.dev) (is_bad D c.into_store.result) NeverWorn c.check_entries-found.result) c.over-tree.ensures.store
    (subst (λ (q : Paged g.row.D.Denot). HasMapCause (D.fault_count c.over-tree.result.store.dev) (D.fault_count q.dev) (D.last_failed q.dev) (is_bad D q) NeverWorn c.check_entries-found.result) (sym c.into_store.ensures) c.check_entries-found.ensures.cause)
