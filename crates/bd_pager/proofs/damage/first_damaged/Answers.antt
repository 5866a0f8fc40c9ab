use Rattle.std.proofs.Common.{List, Option, IfSome, inl, inr, get_or, take_all, subst, ap, ◌∙◌, arith}
use Rattle.std.specs.List.{AllByRecursion}
use Rattle.bd_slots.specs.Layout.{slot_block}
use Rattle.bd_device.specs.Blocks.{Image}
use Rattle.bd_device.proofs.Calls.{reads_then}
use Rattle.bd_format.specs.Slots.{HasNoGoodNode}
use Rattle.bd_table.specs.Entries.{level_at}
use Rattle.bd_table.specs.declared.table.TableEntry.{TableEntry}
use Rattle.bd_pager.specs.Damage.{HasGoodNode}
use Rattle.bd_pager.proofs.DamageLemmas.{is_good, is_none, good_more, first_bad}
use Rattle.bd_pager.proofs.damage.first_damaged.Goals as goal

pub loop-entry-preserved : goal.loop-entry-preserved
loop-entry-preserved g c =
    let entries = c.args.entries.now in
    let i = c.loop-entry.entry-index in
    let d : TableEntry = record { id = 0; refs = 0; slot = 0; level = 0 } in
    let was = c.loop-entry.invariant in
    let now = c.in_ok-has_good_node.ensures in
    let here = subst (λ (o : Option Image). IfSome o (λ image. HasGoodNode image entries (get_or entries i d))) was.reads.kept
    (is_good (g.D.Device.contents c.loop-entry.dev) entries (get_or entries i d) c.in_ok-has_good_node.field-0 c.if-not-branch.false (now.good entries c.requires.entries c.in_ok-saved.ensures)) in
    record {
      good = good_more _ entries i d c.loop-entry-test.true was.good here;
      tails = now.tails;
      faults = now.cause.kept ∙ was.faults;
      reads = reads_then was.reads now.reads;
    }

pub returns-then-not-branch-clause-first : goal.returns-then-not-branch-clause-first
returns-then-not-branch-clause-first g c =
    let entries = c.args.entries.now in
    let i = c.loop-entry.entry-index in
    let d : TableEntry = record { id = 0; refs = 0; slot = 0; level = 0 } in
    let was = c.loop-entry.invariant in
    let now = c.in_ok-has_good_node.ensures in
    let here = subst (λ (o : Option Image). IfSome o (λ image. HasNoGoodNode image (level_at entries) (get_or entries i d).slot (get_or entries i d).level)) was.reads.kept
    (is_none (g.D.Device.contents c.loop-entry.dev) entries (get_or entries i d) c.in_ok-has_good_node.field-0 c.if-not-branch.true (now.good entries c.requires.entries c.in_ok-saved.ensures)) in
    inl (get_or entries i d, c.slot_block.ensures, first_bad _ entries i d c.loop-entry-test.true was.good here)

pub returns-clause-first : goal.returns-clause-first
returns-clause-first g c =
    let entries = c.args.entries.now in
    let was = c.loop-entry.invariant in
    inr (
      c.slot_block-2.ensures ∙ ap slot_block c.first_slot.ensures,
      subst (λ (es : List TableEntry). IfSome (g.D.Device.contents c.args.dev.now) (λ image. AllByRecursion (HasGoodNode image entries) es)) (take_all c.loop-entry.entry-index entries (omega arith)) was.good,
    )
