-- The keys of the root are looked at, and then the log.
use Rattle.std.proofs.Common.{◌≡◌, Option, sym, subst, ap, ◌∙◌}
use Rattle.std.specs.Prelude.{Result, Ok, IfOk, OnOk}
use Rattle.bd_message.specs.KeyMaps.{HasMapCause, NeverWorn}
use Rattle.bd_message.specs.declared.fault.MapFault.{MapFault}
use Rattle.bd_device.specs.Blocks.{Image}
use Rattle.bd_device.specs.Device.{OnlyReads}
use Rattle.bd_device.proofs.Calls.{reads_then}
use Rattle.bd_node.specs.Tables.{Table, root_at}
use Rattle.bd_pager.specs.Calling.{read_table}
use Rattle.bd_pager.specs.Pagers.{nodes_of, table_of, is_bad}
use Rattle.bd_engine.proofs.Starting.{read_standing}
use Rattle.bd_entries.specs.Verdicts.{IsBroken, IsOver, IsVerdict}
use Rattle.bd_entries.specs.declared.check.Entries.{Entries}
use Rattle.bd_check.specs.Recovered.{HasNodeCount}
use Rattle.bd_check.specs.Verdicts.{key_count_limit, IsBadNode, HasTooManyKeys, IsRightOf}
use Rattle.bd_check.proofs.Recoveries.{as_known, if_ok, cause_after, cause_lent, cause_scan, keys_read, nodes_read, root_broken, root_over}
use Rattle.bd_check.proofs.recovered.check_root.Goals as goal

pub check_records-requires-clause-may : goal.check_records-requires-clause-may
check_records-requires-clause-may g c =
    let r = c.args.recovered in
    let q = c.check_keys-pager.result.0 in
    read_standing g.D.Device r.pager q r.log r.live (g.met.D.Device.since_earlier q.dev) c.check_keys-pager.ensures.left c.requires.may

pub check_records-requires-clause-whole : goal.check_records-requires-clause-whole
check_records-requires-clause-whole g c =
    let D = g.D.Device in
    let r = c.args.recovered in
    let k = c.check_keys-pager in
    keys_read D r k.result.0 c.has_modes.result c.args.nodes c.in-Tree.keys c.has_modes.ensures k.ensures.left
    (λ known sound. if_ok (IsVerdict c.has_modes.result (root_at (nodes_of D r.pager) (table_of r.pager)) key_count_limit) k.result.1 _ (c.in-Ok.is ∙ ap Ok c.in-Tree.is) (k.ensures.verdict known sound)) c.requires.sound

pub returns-in-Tree-clause-verdict : goal.returns-in-Tree-clause-verdict
returns-in-Tree-clause-verdict g c =
    subst (λ (o : Option Image). IfOk c.check_records.result.1 (IsRightOf o)) c.check_keys-pager.ensures.left.device.kept c.check_records.ensures.verdict

pub returns-in-Tree-clause-reads : goal.returns-in-Tree-clause-reads
returns-in-Tree-clause-reads g c = reads_then c.check_keys-pager.ensures.left.device c.check_records.ensures.reads

pub returns-in-Tree-clause-cause : goal.returns-in-Tree-clause-cause
returns-in-Tree-clause-cause g c =
    let D = g.D.Device in
    let k = c.check_keys-pager in
    cause_after D c.check_records.result.1 c.args.recovered.pager.dev k.result.0.dev c.check_records.result.0 k.ensures.left.device.kept (subst (λ (r : Result Entries MapFault). OnOk r (D.fault_count k.result.0.dev ≡ D.fault_count c.args.recovered.pager.dev)) c.in-Ok.is k.ensures.cause.kept) c.check_records.ensures.cause

pub returns-in-Broken-clause-verdict : goal.returns-in-Broken-clause-verdict
returns-in-Broken-clause-verdict g c =
    let D = g.D.Device in
    let r = c.args.recovered in
    let k = c.check_keys-pager in
    let at = root_at (nodes_of D r.pager) (table_of r.pager) in
    as_known (D.contents r.pager.dev) (HasNodeCount D r c.args.nodes) (λ image. IsBadNode image c.root-id.result)
    (λ image h. root_broken D r image h.start c.root-id.result (c.root-id.ensures.value ∙ ap (λ (t : Table). t.root) (read_table D r.pager k.result.0 k.ensures.left))
    (subst (λ (b : _). IsBroken b at key_count_limit) c.has_modes.ensures (if_ok (IsVerdict c.has_modes.result at key_count_limit) k.result.1 _ (c.in-Ok.is ∙ ap Ok c.in-Broken.is) (k.ensures.verdict h.start.known h.start.sound)))) c.requires.sound

pub returns-in-Broken-clause-reads : goal.returns-in-Broken-clause-reads
returns-in-Broken-clause-reads g c =
    subst (λ (d : g.row.D.Denot). OnlyReads g.D.Device c.args.recovered.pager.dev d) (sym c.into_device.ensures) c.check_keys-pager.ensures.left.device

pub returns-in-Broken-clause-cause : goal.returns-in-Broken-clause-cause
returns-in-Broken-clause-cause g c =
    let D = g.D.Device in
    let k = c.check_keys-pager in
    cause_lent D c.args.recovered.pager.dev k.result.0.dev c.into_device.result _ c.into_device.ensures (subst (λ (r : Result Entries MapFault). OnOk r (D.fault_count k.result.0.dev ≡ D.fault_count c.args.recovered.pager.dev)) c.in-Ok.is k.ensures.cause.kept)

pub returns-in-Limit-clause-verdict : goal.returns-in-Limit-clause-verdict
returns-in-Limit-clause-verdict g c =
    let D = g.D.Device in
    let r = c.args.recovered in
    let k = c.check_keys-pager in
    let at = root_at (nodes_of D r.pager) (table_of r.pager) in
    as_known (D.contents r.pager.dev) (HasNodeCount D r c.args.nodes) (λ image. HasTooManyKeys image)
    (λ image h. root_over D r image h.start
    (subst (λ (b : _). IsOver b at key_count_limit) c.has_modes.ensures (if_ok (IsVerdict c.has_modes.result at key_count_limit) k.result.1 _ (c.in-Ok.is ∙ ap Ok c.in-Limit.is) (k.ensures.verdict h.start.known h.start.sound)))) c.requires.sound

pub returns-in-Limit-clause-reads : goal.returns-in-Limit-clause-reads
returns-in-Limit-clause-reads g c =
    subst (λ (d : g.row.D.Denot). OnlyReads g.D.Device c.args.recovered.pager.dev d) (sym c.into_device-in-Limit.ensures) c.check_keys-pager.ensures.left.device

pub returns-in-Limit-clause-cause : goal.returns-in-Limit-clause-cause
returns-in-Limit-clause-cause g c =
    let D = g.D.Device in
    let k = c.check_keys-pager in
    cause_lent D c.args.recovered.pager.dev k.result.0.dev c.into_device-in-Limit.result _ c.into_device-in-Limit.ensures (subst (λ (r : Result Entries MapFault). OnOk r (D.fault_count k.result.0.dev ≡ D.fault_count c.args.recovered.pager.dev)) c.in-Ok.is k.ensures.cause.kept)

pub returns-in-Err-clause-reads : goal.returns-in-Err-clause-reads
returns-in-Err-clause-reads g c =
    subst (λ (d : g.row.D.Denot). OnlyReads g.D.Device c.args.recovered.pager.dev d) (sym c.into_device-in-Err.ensures) c.check_keys-pager.ensures.left.device

pub returns-in-Err-clause-cause : goal.returns-in-Err-clause-cause
returns-in-Err-clause-cause g c =
    let D = g.D.Device in
    let r = c.args.recovered in
    let k = c.check_keys-pager in
    let q = k.result.0 in
    cause_scan D r.pager q c.into_device-in-Err.result c.in-Err.fault c.from.result c.from.ensures c.into_device-in-Err.ensures c.images_are_decoded.ensures.image c.nodes_are_placed.ensures
    (nodes_read D r q c.args.nodes k.ensures.left c.requires.sound)
    (subst (λ (x : Result Entries MapFault). HasMapCause (D.fault_count r.pager.dev) (D.fault_count q.dev) (D.last_failed q.dev) (is_bad D q) NeverWorn x) c.in-Err.is k.ensures.cause)
