use Rattle.std.proofs.Common.{List, Option, IfSome, get_or, take_all, subst, ◌∙◌, arith}
use Rattle.std.specs.List.{AllByRecursion}
use Rattle.bd_device.specs.Blocks.{Image}
use Rattle.bd_device.proofs.Calls.{reads_then}
use Rattle.bd_format.specs.Slots.{IsGoodNode, HasNoGoodNode}
use Rattle.bd_table.specs.Entries.{level_at}
use Rattle.bd_table.specs.declared.table.TableEntry.{TableEntry}
use Rattle.bd_pager.specs.Damage.{HasGoodNode, IsFirstBad}
use Rattle.bd_pager.proofs.DamageLemmas.{good_more, first_bad}
use Rattle.bd_check.proofs.SlotReads.{some_good, none_good, has_good, sees_more, all_good, first_block}
use Rattle.bd_check.proofs.nodes.read_nodes.Goals as goal

pub returns-in-None-clause-bad : goal.returns-in-None-clause-bad
returns-in-None-clause-bad g c =
    let known = g.D.Device.contents c.args.dev.now in
    let entries = c.as_slice-entries.result.now in
    let i = c.loop-entry.entry-index in
    let d : TableEntry = record { id = 0; refs = 0; slot = 0; level = 0 } in
    let e : TableEntry = get_or entries i d in
    let was = c.loop-entry.invariant in
    let here = subst (λ (o : Option Image). IfSome o (λ image. HasNoGoodNode image (level_at entries) e.slot e.level)) was.reads.kept
    (none_good (g.D.Device.contents c.loop-entry.dev) entries e c.in_ok-node.field-0 c.in-None.is c.in_ok-node.ensures.good) in
    first_block known c.args.table.now e c.slot_block.result c.slot_block.ensures
    (subst (λ (es : List TableEntry). IsFirstBad known es e) c.as_slice-entries.ensures (first_bad known entries i d c.loop-entry-test.true was.good here))

pub loop-entry-preserved : goal.loop-entry-preserved
loop-entry-preserved g c =
    let known = g.D.Device.contents c.args.dev.now in
    let entries = c.as_slice-entries.result.now in
    let i = c.loop-entry.entry-index in
    let d : TableEntry = record { id = 0; refs = 0; slot = 0; level = 0 } in
    let e : TableEntry = get_or entries i d in
    let n = c.in-Some.node in
    let was = c.loop-entry.invariant in
    let now = c.in_ok-node.ensures in
    let here = subst (λ (o : Option Image). IfSome o (λ image. IsGoodNode image (level_at entries) e.slot e.level n)) was.reads.kept
    (some_good (g.D.Device.contents c.loop-entry.dev) entries e c.in_ok-node.field-0 n c.in-Some.is now.good) in
    record {
      good = good_more known entries i d c.loop-entry-test.true was.good (has_good known entries e n here);
      seen = sees_more known c.args.table.now entries i d n c.loop-entry.owed c.owe.new.self c.as_slice-entries.ensures c.images_are_decoded.ensures.found c.requires.rising c.loop-entry-test.true here c.owe.ensures was.seen;
      tails = now.tails;
      faults = now.cause.kept ∙ was.faults;
      reads = reads_then was.reads now.reads;
    }

pub returns-clause-bad : goal.returns-clause-bad
returns-clause-bad g c =
    let known = g.D.Device.contents c.args.dev.now in
    let entries = c.as_slice-entries.result.now in
    let all = subst (λ (es : List TableEntry). IfSome known (λ image. AllByRecursion (HasGoodNode image entries) es)) (take_all c.loop-entry.entry-index entries (omega arith)) c.loop-entry.invariant.good in
    all_good known c.args.table.now
    (subst (λ (es : List TableEntry). IfSome known (λ image. AllByRecursion (HasGoodNode image es) es)) c.as_slice-entries.ensures all)
