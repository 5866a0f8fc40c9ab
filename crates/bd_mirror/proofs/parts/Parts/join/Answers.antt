use Rattle.std.proofs.Common.{◌-◌, [], ap, arith, sym, ◌∙◌}
use Rattle.std.specs.Prelude.{not}
use Rattle.bd_device.specs.Device.{left_now}
use Rattle.bd_mirror.proofs.Copies.{only_read, reads_none}
use Rattle.bd_mirror.proofs.Crashes.{stretch_reads, reads_fore, reads_back}
use Rattle.bd_mirror.proofs.Joined.{alone_open, alone_closed, not_other, fore_took, fore_lost, back_took, back_lost}
use Rattle.bd_mirror.specs.declared.halves.Halves.TheVariants.{Both, First, Second}
use Rattle.bd_mirror.specs.Contents.{shown_together}
use Rattle.bd_mirror.proofs.Behind.{mark_within, together_kept, together_joined}
use Rattle.bd_mirror.proofs.parts.Parts.join.Goals as goal

pub mirror_onto-requires-clause-source_settled : goal.mirror_onto-requires-clause-source_settled
mirror_onto-requires-clause-source_settled g c =
    only_read g.B.Device c.args.self.now.second c.is_open-2.new.half c.is_open-2.ensures.reads (g.met.B.Device.since_earlier c.is_open-2.new.half)
    (c.requires.second_settled (omega (arith, c.if-blocks-eq0.false, c.if-blocks.false, c.blocks-else-blocks-eq0.ensures.count)))

pub mirror_onto-requires-clause-copy_settled : goal.mirror_onto-requires-clause-copy_settled
mirror_onto-requires-clause-copy_settled g c =
    only_read g.A.Device c.args.self.now.first c.is_open.new.half c.is_open.ensures.reads (g.met.A.Device.since_earlier c.is_open.new.half)
    (c.requires.first_settled (omega (arith, c.if-blocks-eq0.false, c.blocks-blocks.ensures.count)))

pub mirror_onto-requires-2-clause-source_settled : goal.mirror_onto-requires-2-clause-source_settled
mirror_onto-requires-2-clause-source_settled g c =
    only_read g.A.Device c.args.self.now.first c.is_open.new.half c.is_open.ensures.reads (g.met.A.Device.since_earlier c.is_open.new.half)
    (c.requires.first_settled (omega (arith, c.if-blocks-eq0.false, c.blocks-blocks.ensures.count)))

pub mirror_onto-requires-2-clause-copy_settled : goal.mirror_onto-requires-2-clause-copy_settled
mirror_onto-requires-2-clause-copy_settled g c =
    only_read g.B.Device c.args.self.now.second c.is_open-2.new.half c.is_open-2.ensures.reads (g.met.B.Device.since_earlier c.is_open-2.new.half)
    (c.requires.second_settled (omega (arith, c.if-blocks-eq0.false, c.if-blocks.false, c.blocks-else-blocks-eq0.ensures.count)))

pub returns-then-branch-clause-mirror : goal.returns-then-branch-clause-mirror
returns-then-branch-clause-mirror g c =
    let all = back_took (c.blocks-blocks.result - 1) (g.A.Device.block_count c.args.self.now.first) (g.B.Device.block_count c.args.self.now.second)
    (g.A.Device.block_count c.mirror_onto.new.copy) (g.B.Device.block_count c.mirror_onto.new.source)
    (g.A.Device.contents c.args.self.now.first) (g.B.Device.contents c.args.self.now.second) (g.A.Device.contents c.is_open.new.half) (g.B.Device.contents c.is_open-2.new.half)
    (g.A.Device.contents c.mirror_onto.new.copy) (g.B.Device.contents c.mirror_onto.new.source) (left_now g.A.Device c.mirror_onto.new.copy) (left_now g.B.Device c.mirror_onto.new.source)
    c.in_ok-first_open.first_open c.in_ok-second_open.second_open (not c.in_ok-mirror_onto.field-0)
    (omega (arith, c.if-blocks-eq0.false, c.blocks-blocks.ensures.count)) (omega (arith, c.if-blocks-eq0.false, c.if-blocks.false, c.blocks-else-blocks-eq0.ensures.count))
    (c.mirror_onto.ensures.copy_stays.count ∙ c.is_open.ensures.reads.count) (c.mirror_onto.ensures.source_stays.count ∙ c.is_open-2.ensures.reads.count)
    c.is_open.ensures.reads.kept c.is_open-2.ensures.reads.kept c.in_ok-first_open.ensures.opens c.in_ok-second_open.ensures.opens
    (alone_closed c.in_ok-second_open.second_open c.in_ok-first_open.first_open (sym c.is_alone.ensures ∙ c.if-is_alone.true))
    (alone_open c.in_ok-second_open.second_open c.in_ok-first_open.first_open (sym c.is_alone.ensures ∙ c.if-is_alone.true))
    c.mirror_onto.ensures.copy_others c.mirror_onto.ensures.source_others c.in_ok-mirror_onto.ensures.copy_mark (ap not c.if-branch.true) c.in_ok-mirror_onto.ensures.source_mark
    (c.in_ok-mirror_onto.ensures.copied c.if-branch.true) (c.in_ok-mirror_onto.ensures.copy_durable c.if-branch.true) c.in_ok-mirror_onto.ensures.source_durable in
    record { marked = all.marked; left = all.left; kept = all.kept }

pub returns-then-branch-clause-shown : goal.returns-then-branch-clause-shown
returns-then-branch-clause-shown g c =
    let all = back_took (c.blocks-blocks.result - 1) (g.A.Device.block_count c.args.self.now.first) (g.B.Device.block_count c.args.self.now.second)
    (g.A.Device.block_count c.mirror_onto.new.copy) (g.B.Device.block_count c.mirror_onto.new.source)
    (g.A.Device.contents c.args.self.now.first) (g.B.Device.contents c.args.self.now.second) (g.A.Device.contents c.is_open.new.half) (g.B.Device.contents c.is_open-2.new.half)
    (g.A.Device.contents c.mirror_onto.new.copy) (g.B.Device.contents c.mirror_onto.new.source) (left_now g.A.Device c.mirror_onto.new.copy) (left_now g.B.Device c.mirror_onto.new.source)
    c.in_ok-first_open.first_open c.in_ok-second_open.second_open (not c.in_ok-mirror_onto.field-0)
    (omega (arith, c.if-blocks-eq0.false, c.blocks-blocks.ensures.count)) (omega (arith, c.if-blocks-eq0.false, c.if-blocks.false, c.blocks-else-blocks-eq0.ensures.count))
    (c.mirror_onto.ensures.copy_stays.count ∙ c.is_open.ensures.reads.count) (c.mirror_onto.ensures.source_stays.count ∙ c.is_open-2.ensures.reads.count)
    c.is_open.ensures.reads.kept c.is_open-2.ensures.reads.kept c.in_ok-first_open.ensures.opens c.in_ok-second_open.ensures.opens
    (alone_closed c.in_ok-second_open.second_open c.in_ok-first_open.first_open (sym c.is_alone.ensures ∙ c.if-is_alone.true))
    (alone_open c.in_ok-second_open.second_open c.in_ok-first_open.first_open (sym c.is_alone.ensures ∙ c.if-is_alone.true))
    c.mirror_onto.ensures.copy_others c.mirror_onto.ensures.source_others c.in_ok-mirror_onto.ensures.copy_mark (ap not c.if-branch.true) c.in_ok-mirror_onto.ensures.source_mark
    (c.in_ok-mirror_onto.ensures.copied c.if-branch.true) (c.in_ok-mirror_onto.ensures.copy_durable c.if-branch.true) c.in_ok-mirror_onto.ensures.source_durable in
    all.shown

pub returns-then-is_alone-clause-mirror : goal.returns-then-is_alone-clause-mirror
returns-then-is_alone-clause-mirror g c =
    let all = back_lost (c.blocks-blocks.result - 1) (g.A.Device.block_count c.args.self.now.first) (g.B.Device.block_count c.args.self.now.second)
    (g.A.Device.block_count c.mirror_onto.new.copy) (g.B.Device.block_count c.mirror_onto.new.source)
    (g.A.Device.contents c.args.self.now.first) (g.B.Device.contents c.args.self.now.second) (g.A.Device.contents c.is_open.new.half) (g.B.Device.contents c.is_open-2.new.half)
    (g.A.Device.contents c.mirror_onto.new.copy) (g.B.Device.contents c.mirror_onto.new.source) (left_now g.A.Device c.mirror_onto.new.copy) (left_now g.B.Device c.mirror_onto.new.source)
    c.in_ok-first_open.first_open c.in_ok-second_open.second_open (not c.in_ok-mirror_onto.field-0)
    (omega (arith, c.if-blocks-eq0.false, c.blocks-blocks.ensures.count)) (omega (arith, c.if-blocks-eq0.false, c.if-blocks.false, c.blocks-else-blocks-eq0.ensures.count))
    (c.mirror_onto.ensures.copy_stays.count ∙ c.is_open.ensures.reads.count) (c.mirror_onto.ensures.source_stays.count ∙ c.is_open-2.ensures.reads.count)
    c.is_open.ensures.reads.kept c.is_open-2.ensures.reads.kept c.in_ok-first_open.ensures.opens c.in_ok-second_open.ensures.opens
    (alone_closed c.in_ok-second_open.second_open c.in_ok-first_open.first_open (sym c.is_alone.ensures ∙ c.if-is_alone.true))
    (alone_open c.in_ok-second_open.second_open c.in_ok-first_open.first_open (sym c.is_alone.ensures ∙ c.if-is_alone.true))
    c.mirror_onto.ensures.copy_others c.mirror_onto.ensures.source_others c.in_ok-mirror_onto.ensures.copy_mark (ap not c.if-branch.false) c.in_ok-mirror_onto.ensures.source_mark
    c.in_ok-mirror_onto.ensures.copy_left c.in_ok-mirror_onto.ensures.source_durable in
    record { marked = all.marked; left = all.left; kept = all.kept }

pub returns-then-is_alone-clause-shown : goal.returns-then-is_alone-clause-shown
returns-then-is_alone-clause-shown g c =
    let all = back_lost (c.blocks-blocks.result - 1) (g.A.Device.block_count c.args.self.now.first) (g.B.Device.block_count c.args.self.now.second)
    (g.A.Device.block_count c.mirror_onto.new.copy) (g.B.Device.block_count c.mirror_onto.new.source)
    (g.A.Device.contents c.args.self.now.first) (g.B.Device.contents c.args.self.now.second) (g.A.Device.contents c.is_open.new.half) (g.B.Device.contents c.is_open-2.new.half)
    (g.A.Device.contents c.mirror_onto.new.copy) (g.B.Device.contents c.mirror_onto.new.source) (left_now g.A.Device c.mirror_onto.new.copy) (left_now g.B.Device c.mirror_onto.new.source)
    c.in_ok-first_open.first_open c.in_ok-second_open.second_open (not c.in_ok-mirror_onto.field-0)
    (omega (arith, c.if-blocks-eq0.false, c.blocks-blocks.ensures.count)) (omega (arith, c.if-blocks-eq0.false, c.if-blocks.false, c.blocks-else-blocks-eq0.ensures.count))
    (c.mirror_onto.ensures.copy_stays.count ∙ c.is_open.ensures.reads.count) (c.mirror_onto.ensures.source_stays.count ∙ c.is_open-2.ensures.reads.count)
    c.is_open.ensures.reads.kept c.is_open-2.ensures.reads.kept c.in_ok-first_open.ensures.opens c.in_ok-second_open.ensures.opens
    (alone_closed c.in_ok-second_open.second_open c.in_ok-first_open.first_open (sym c.is_alone.ensures ∙ c.if-is_alone.true))
    (alone_open c.in_ok-second_open.second_open c.in_ok-first_open.first_open (sym c.is_alone.ensures ∙ c.if-is_alone.true))
    c.mirror_onto.ensures.copy_others c.mirror_onto.ensures.source_others c.in_ok-mirror_onto.ensures.copy_mark (ap not c.if-branch.false) c.in_ok-mirror_onto.ensures.source_mark
    c.in_ok-mirror_onto.ensures.copy_left c.in_ok-mirror_onto.ensures.source_durable in
    all.shown

pub returns-then-branch-2-clause-mirror : goal.returns-then-branch-2-clause-mirror
returns-then-branch-2-clause-mirror g c =
    let all = fore_took (c.blocks-blocks.result - 1) (g.A.Device.block_count c.args.self.now.first) (g.B.Device.block_count c.args.self.now.second)
    (g.A.Device.block_count c.mirror_onto-2.new.source) (g.B.Device.block_count c.mirror_onto-2.new.copy)
    (g.A.Device.contents c.args.self.now.first) (g.B.Device.contents c.args.self.now.second) (g.A.Device.contents c.is_open.new.half) (g.B.Device.contents c.is_open-2.new.half)
    (g.A.Device.contents c.mirror_onto-2.new.source) (g.B.Device.contents c.mirror_onto-2.new.copy) (left_now g.A.Device c.mirror_onto-2.new.source) (left_now g.B.Device c.mirror_onto-2.new.copy)
    c.in_ok-first_open.first_open c.in_ok-second_open.second_open (not c.in_ok-mirror_onto-2.field-0)
    (omega (arith, c.if-blocks-eq0.false, c.blocks-blocks.ensures.count)) (omega (arith, c.if-blocks-eq0.false, c.if-blocks.false, c.blocks-else-blocks-eq0.ensures.count))
    (c.mirror_onto-2.ensures.source_stays.count ∙ c.is_open.ensures.reads.count) (c.mirror_onto-2.ensures.copy_stays.count ∙ c.is_open-2.ensures.reads.count)
    c.is_open.ensures.reads.kept c.is_open-2.ensures.reads.kept c.in_ok-first_open.ensures.opens c.in_ok-second_open.ensures.opens
    (sym c.is_alone.ensures ∙ c.if-is_alone.false)
    c.mirror_onto-2.ensures.source_others c.mirror_onto-2.ensures.copy_others (ap not c.if-branch-2.true) c.in_ok-mirror_onto-2.ensures.source_mark c.in_ok-mirror_onto-2.ensures.copy_mark
    (c.in_ok-mirror_onto-2.ensures.copied c.if-branch-2.true) c.in_ok-mirror_onto-2.ensures.source_durable (c.in_ok-mirror_onto-2.ensures.copy_durable c.if-branch-2.true) in
    record { marked = all.marked; left = all.left; kept = all.kept }

pub returns-then-branch-2-clause-shown : goal.returns-then-branch-2-clause-shown
returns-then-branch-2-clause-shown g c =
    let all = fore_took (c.blocks-blocks.result - 1) (g.A.Device.block_count c.args.self.now.first) (g.B.Device.block_count c.args.self.now.second)
    (g.A.Device.block_count c.mirror_onto-2.new.source) (g.B.Device.block_count c.mirror_onto-2.new.copy)
    (g.A.Device.contents c.args.self.now.first) (g.B.Device.contents c.args.self.now.second) (g.A.Device.contents c.is_open.new.half) (g.B.Device.contents c.is_open-2.new.half)
    (g.A.Device.contents c.mirror_onto-2.new.source) (g.B.Device.contents c.mirror_onto-2.new.copy) (left_now g.A.Device c.mirror_onto-2.new.source) (left_now g.B.Device c.mirror_onto-2.new.copy)
    c.in_ok-first_open.first_open c.in_ok-second_open.second_open (not c.in_ok-mirror_onto-2.field-0)
    (omega (arith, c.if-blocks-eq0.false, c.blocks-blocks.ensures.count)) (omega (arith, c.if-blocks-eq0.false, c.if-blocks.false, c.blocks-else-blocks-eq0.ensures.count))
    (c.mirror_onto-2.ensures.source_stays.count ∙ c.is_open.ensures.reads.count) (c.mirror_onto-2.ensures.copy_stays.count ∙ c.is_open-2.ensures.reads.count)
    c.is_open.ensures.reads.kept c.is_open-2.ensures.reads.kept c.in_ok-first_open.ensures.opens c.in_ok-second_open.ensures.opens
    (sym c.is_alone.ensures ∙ c.if-is_alone.false)
    c.mirror_onto-2.ensures.source_others c.mirror_onto-2.ensures.copy_others (ap not c.if-branch-2.true) c.in_ok-mirror_onto-2.ensures.source_mark c.in_ok-mirror_onto-2.ensures.copy_mark
    (c.in_ok-mirror_onto-2.ensures.copied c.if-branch-2.true) c.in_ok-mirror_onto-2.ensures.source_durable (c.in_ok-mirror_onto-2.ensures.copy_durable c.if-branch-2.true) in
    all.shown

pub returns-clause-mirror : goal.returns-clause-mirror
returns-clause-mirror g c =
    let all = fore_lost (c.blocks-blocks.result - 1) (g.A.Device.block_count c.args.self.now.first) (g.B.Device.block_count c.args.self.now.second)
    (g.A.Device.block_count c.mirror_onto-2.new.source) (g.B.Device.block_count c.mirror_onto-2.new.copy)
    (g.A.Device.contents c.args.self.now.first) (g.B.Device.contents c.args.self.now.second) (g.A.Device.contents c.is_open.new.half) (g.B.Device.contents c.is_open-2.new.half)
    (g.A.Device.contents c.mirror_onto-2.new.source) (g.B.Device.contents c.mirror_onto-2.new.copy) (left_now g.A.Device c.mirror_onto-2.new.source) (left_now g.B.Device c.mirror_onto-2.new.copy)
    c.in_ok-first_open.first_open c.in_ok-second_open.second_open (not c.in_ok-mirror_onto-2.field-0)
    (omega (arith, c.if-blocks-eq0.false, c.blocks-blocks.ensures.count)) (omega (arith, c.if-blocks-eq0.false, c.if-blocks.false, c.blocks-else-blocks-eq0.ensures.count))
    (c.mirror_onto-2.ensures.source_stays.count ∙ c.is_open.ensures.reads.count) (c.mirror_onto-2.ensures.copy_stays.count ∙ c.is_open-2.ensures.reads.count)
    c.is_open.ensures.reads.kept c.is_open-2.ensures.reads.kept c.in_ok-first_open.ensures.opens c.in_ok-second_open.ensures.opens
    (sym c.is_alone.ensures ∙ c.if-is_alone.false)
    c.mirror_onto-2.ensures.source_others c.mirror_onto-2.ensures.copy_others (ap not c.if-branch-2.false) c.in_ok-mirror_onto-2.ensures.source_mark c.in_ok-mirror_onto-2.ensures.copy_mark
    c.in_ok-mirror_onto-2.ensures.source_durable c.in_ok-mirror_onto-2.ensures.copy_left in
    record { marked = all.marked; left = all.left; kept = all.kept }

pub returns-clause-shown : goal.returns-clause-shown
returns-clause-shown g c =
    let all = fore_lost (c.blocks-blocks.result - 1) (g.A.Device.block_count c.args.self.now.first) (g.B.Device.block_count c.args.self.now.second)
    (g.A.Device.block_count c.mirror_onto-2.new.source) (g.B.Device.block_count c.mirror_onto-2.new.copy)
    (g.A.Device.contents c.args.self.now.first) (g.B.Device.contents c.args.self.now.second) (g.A.Device.contents c.is_open.new.half) (g.B.Device.contents c.is_open-2.new.half)
    (g.A.Device.contents c.mirror_onto-2.new.source) (g.B.Device.contents c.mirror_onto-2.new.copy) (left_now g.A.Device c.mirror_onto-2.new.source) (left_now g.B.Device c.mirror_onto-2.new.copy)
    c.in_ok-first_open.first_open c.in_ok-second_open.second_open (not c.in_ok-mirror_onto-2.field-0)
    (omega (arith, c.if-blocks-eq0.false, c.blocks-blocks.ensures.count)) (omega (arith, c.if-blocks-eq0.false, c.if-blocks.false, c.blocks-else-blocks-eq0.ensures.count))
    (c.mirror_onto-2.ensures.source_stays.count ∙ c.is_open.ensures.reads.count) (c.mirror_onto-2.ensures.copy_stays.count ∙ c.is_open-2.ensures.reads.count)
    c.is_open.ensures.reads.kept c.is_open-2.ensures.reads.kept c.in_ok-first_open.ensures.opens c.in_ok-second_open.ensures.opens
    (sym c.is_alone.ensures ∙ c.if-is_alone.false)
    c.mirror_onto-2.ensures.source_others c.mirror_onto-2.ensures.copy_others (ap not c.if-branch-2.false) c.in_ok-mirror_onto-2.ensures.source_mark c.in_ok-mirror_onto-2.ensures.copy_mark
    c.in_ok-mirror_onto-2.ensures.source_durable c.in_ok-mirror_onto-2.ensures.copy_left in
    all.shown

pub mirror_onto-requires-clause-source_first : goal.mirror_onto-requires-clause-source_first
mirror_onto-requires-clause-source_first g c =
    not_other c.in_ok-second_open.second_open c.in_ok-first_open.first_open (sym c.is_alone.ensures ∙ c.if-is_alone.true)

pub mirror_onto-requires-2-clause-source_first : goal.mirror_onto-requires-2-clause-source_first
mirror_onto-requires-2-clause-source_first g c = sym c.is_alone.ensures ∙ c.if-is_alone.false

-- ---- what a crash inside it may leave

pub returns-in_err-first_open-clause-inside : goal.returns-in_err-first_open-clause-inside
returns-in_err-first_open-clause-inside g c = λ some same a b ka kb.
    let m = c.args.self.now in (
      [],
      stretch_reads g.A.Device g.B.Device (g.A.Device.block_count m.first - 1) a b m.first c.is_open.new.half m.second m.second ka kb
          (c.requires.first_settled some) (c.requires.second_settled (omega (arith, some, same))) c.is_open.ensures.reads (reads_none g.B.Device m.second),
    )

pub returns-in_err-second_open-clause-inside : goal.returns-in_err-second_open-clause-inside
returns-in_err-second_open-clause-inside g c = λ some same a b ka kb.
    let m = c.args.self.now in (
      [],
      stretch_reads g.A.Device g.B.Device (g.A.Device.block_count m.first - 1) a b m.first c.is_open.new.half m.second c.is_open-2.new.half ka kb
          (c.requires.first_settled some) (c.requires.second_settled (omega (arith, some, same))) c.is_open.ensures.reads c.is_open-2.ensures.reads,
    )

pub returns-in_err-mirror_onto-clause-inside : goal.returns-in_err-mirror_onto-clause-inside
returns-in_err-mirror_onto-clause-inside g c = λ some same a b ka kb.
    let m = c.args.self.now in
    reads_back g.A.Device g.B.Device (c.blocks-blocks.result - 1) (g.A.Device.block_count m.first - 1) a b m.first c.is_open.new.half c.mirror_onto.new.copy
    m.second c.is_open-2.new.half c.mirror_onto.new.source (ap (λ n. n - 1) c.blocks-blocks.ensures.count) ka kb
    (c.requires.first_settled some) (c.requires.second_settled (omega (arith, some, same))) c.is_open.ensures.reads c.is_open-2.ensures.reads c.mirror_onto.ensures.inside

pub returns-then-branch-clause-inside : goal.returns-then-branch-clause-inside
returns-then-branch-clause-inside g c = λ some same a b ka kb.
    let m = c.args.self.now in
    reads_back g.A.Device g.B.Device (c.blocks-blocks.result - 1) (g.A.Device.block_count m.first - 1) a b m.first c.is_open.new.half c.mirror_onto.new.copy
    m.second c.is_open-2.new.half c.mirror_onto.new.source (ap (λ n. n - 1) c.blocks-blocks.ensures.count) ka kb
    (c.requires.first_settled some) (c.requires.second_settled (omega (arith, some, same))) c.is_open.ensures.reads c.is_open-2.ensures.reads c.mirror_onto.ensures.inside

pub returns-then-is_alone-clause-inside : goal.returns-then-is_alone-clause-inside
returns-then-is_alone-clause-inside g c = λ some same a b ka kb.
    let m = c.args.self.now in
    reads_back g.A.Device g.B.Device (c.blocks-blocks.result - 1) (g.A.Device.block_count m.first - 1) a b m.first c.is_open.new.half c.mirror_onto.new.copy
    m.second c.is_open-2.new.half c.mirror_onto.new.source (ap (λ n. n - 1) c.blocks-blocks.ensures.count) ka kb
    (c.requires.first_settled some) (c.requires.second_settled (omega (arith, some, same))) c.is_open.ensures.reads c.is_open-2.ensures.reads c.mirror_onto.ensures.inside

pub returns-in_err-mirror_onto-2-clause-inside : goal.returns-in_err-mirror_onto-2-clause-inside
returns-in_err-mirror_onto-2-clause-inside g c = λ some same a b ka kb.
    let m = c.args.self.now in
    reads_fore g.A.Device g.B.Device (c.blocks-blocks.result - 1) (g.A.Device.block_count m.first - 1) a b m.first c.is_open.new.half c.mirror_onto-2.new.source
    m.second c.is_open-2.new.half c.mirror_onto-2.new.copy (ap (λ n. n - 1) c.blocks-blocks.ensures.count) ka kb
    (c.requires.first_settled some) (c.requires.second_settled (omega (arith, some, same))) c.is_open.ensures.reads c.is_open-2.ensures.reads c.mirror_onto-2.ensures.inside

pub returns-then-branch-2-clause-inside : goal.returns-then-branch-2-clause-inside
returns-then-branch-2-clause-inside g c = λ some same a b ka kb.
    let m = c.args.self.now in
    reads_fore g.A.Device g.B.Device (c.blocks-blocks.result - 1) (g.A.Device.block_count m.first - 1) a b m.first c.is_open.new.half c.mirror_onto-2.new.source
    m.second c.is_open-2.new.half c.mirror_onto-2.new.copy (ap (λ n. n - 1) c.blocks-blocks.ensures.count) ka kb
    (c.requires.first_settled some) (c.requires.second_settled (omega (arith, some, same))) c.is_open.ensures.reads c.is_open-2.ensures.reads c.mirror_onto-2.ensures.inside

pub returns-clause-inside : goal.returns-clause-inside
returns-clause-inside g c = λ some same a b ka kb.
    let m = c.args.self.now in
    reads_fore g.A.Device g.B.Device (c.blocks-blocks.result - 1) (g.A.Device.block_count m.first - 1) a b m.first c.is_open.new.half c.mirror_onto-2.new.source
    m.second c.is_open-2.new.half c.mirror_onto-2.new.copy (ap (λ n. n - 1) c.blocks-blocks.ensures.count) ka kb
    (c.requires.first_settled some) (c.requires.second_settled (omega (arith, some, same))) c.is_open.ensures.reads c.is_open-2.ensures.reads c.mirror_onto-2.ensures.inside

-- ---- halves with marks have as many blocks

pub returns-then-branch-clause-equal : goal.returns-then-branch-clause-equal
returns-then-branch-clause-equal g c = λ _. omega (arith, c.if-blocks.false, c.blocks-blocks.ensures.count, c.blocks-else-blocks-eq0.ensures.count)

pub returns-then-is_alone-clause-equal : goal.returns-then-is_alone-clause-equal
returns-then-is_alone-clause-equal g c = λ _. omega (arith, c.if-blocks.false, c.blocks-blocks.ensures.count, c.blocks-else-blocks-eq0.ensures.count)

pub returns-then-branch-2-clause-equal : goal.returns-then-branch-2-clause-equal
returns-then-branch-2-clause-equal g c = λ _. omega (arith, c.if-blocks.false, c.blocks-blocks.ensures.count, c.blocks-else-blocks-eq0.ensures.count)

pub returns-clause-equal : goal.returns-clause-equal
returns-clause-equal g c = λ _. omega (arith, c.if-blocks.false, c.blocks-blocks.ensures.count, c.blocks-else-blocks-eq0.ensures.count)

-- ---- what both show afterwards

pub returns-in_err-first_open-clause-behind : goal.returns-in_err-first_open-clause-behind
returns-in_err-first_open-clause-behind g c =
    ap (λ o. shown_together o (g.B.Device.contents c.args.self.now.second)) c.is_open.ensures.reads.kept

pub returns-in_err-second_open-clause-behind : goal.returns-in_err-second_open-clause-behind
returns-in_err-second_open-clause-behind g c =
    ap (λ o. shown_together o (g.B.Device.contents c.is_open-2.new.half)) c.is_open.ensures.reads.kept
    ∙ ap (λ o. shown_together (g.A.Device.contents c.args.self.now.first) o) c.is_open-2.ensures.reads.kept

pub returns-in_err-mirror_onto-clause-behind : goal.returns-in_err-mirror_onto-clause-behind
returns-in_err-mirror_onto-clause-behind g c =
    let m = c.args.self.now in
    let a = g.A.Device.contents m.first in
    let b = g.B.Device.contents m.second in
    let mark = c.blocks-blocks.result - 1 in
    together_kept mark (g.A.Device.block_count m.first) (g.B.Device.block_count m.second) a b (g.A.Device.contents c.is_open.new.half) (g.B.Device.contents c.is_open-2.new.half)
    (g.A.Device.contents c.mirror_onto.new.copy) (g.B.Device.contents c.mirror_onto.new.source) (omega (arith, c.if-blocks-eq0.false, c.blocks-blocks.ensures.count)) (omega (arith, c.if-blocks-eq0.false, c.if-blocks.false, c.blocks-else-blocks-eq0.ensures.count))
    c.blocks-blocks.ensures.shape c.blocks-else-blocks-eq0.ensures.shape c.is_open.ensures.reads.kept c.is_open-2.ensures.reads.kept
    c.mirror_onto.ensures.copy_others (mark_within mark (g.B.Device.contents c.is_open-2.new.half) (g.B.Device.contents c.mirror_onto.new.source) c.mirror_onto.ensures.source_others) (c.in_err-mirror_onto.ensures.behind.as_second (sym c.is_alone.ensures ∙ c.if-is_alone.true))

pub returns-in_err-mirror_onto-2-clause-behind : goal.returns-in_err-mirror_onto-2-clause-behind
returns-in_err-mirror_onto-2-clause-behind g c =
    let m = c.args.self.now in
    let a = g.A.Device.contents m.first in
    let b = g.B.Device.contents m.second in
    let mark = c.blocks-blocks.result - 1 in
    together_kept mark (g.A.Device.block_count m.first) (g.B.Device.block_count m.second) a b (g.A.Device.contents c.is_open.new.half) (g.B.Device.contents c.is_open-2.new.half)
    (g.A.Device.contents c.mirror_onto-2.new.source) (g.B.Device.contents c.mirror_onto-2.new.copy) (omega (arith, c.if-blocks-eq0.false, c.blocks-blocks.ensures.count)) (omega (arith, c.if-blocks-eq0.false, c.if-blocks.false, c.blocks-else-blocks-eq0.ensures.count))
    c.blocks-blocks.ensures.shape c.blocks-else-blocks-eq0.ensures.shape c.is_open.ensures.reads.kept c.is_open-2.ensures.reads.kept
    (mark_within mark (g.A.Device.contents c.is_open.new.half) (g.A.Device.contents c.mirror_onto-2.new.source) c.mirror_onto-2.ensures.source_others) c.mirror_onto-2.ensures.copy_others c.in_err-mirror_onto-2.ensures.behind.as_first

pub returns-then-branch-clause-behind : goal.returns-then-branch-clause-behind
returns-then-branch-clause-behind g c =
    let m = c.args.self.now in
    let a = g.A.Device.contents m.first in
    let b = g.B.Device.contents m.second in
    let mark = c.blocks-blocks.result - 1 in
    together_joined Both mark (g.A.Device.block_count m.first) (g.B.Device.block_count m.second) (g.A.Device.block_count c.mirror_onto.new.copy) (g.B.Device.block_count c.mirror_onto.new.source)
    a b (g.A.Device.contents c.is_open.new.half) (g.B.Device.contents c.is_open-2.new.half) (g.A.Device.contents c.mirror_onto.new.copy) (g.B.Device.contents c.mirror_onto.new.source)
    (omega (arith, c.if-blocks-eq0.false, c.blocks-blocks.ensures.count)) (omega (arith, c.if-blocks-eq0.false, c.if-blocks.false, c.blocks-else-blocks-eq0.ensures.count))
    (c.mirror_onto.ensures.copy_stays.count ∙ c.is_open.ensures.reads.count) (c.mirror_onto.ensures.source_stays.count ∙ c.is_open-2.ensures.reads.count)
    c.blocks-blocks.ensures.shape c.blocks-else-blocks-eq0.ensures.shape c.is_open.ensures.reads.kept c.is_open-2.ensures.reads.kept
    c.mirror_onto.ensures.copy_others (mark_within mark (g.B.Device.contents c.is_open-2.new.half) (g.B.Device.contents c.mirror_onto.new.source) c.mirror_onto.ensures.source_others) (returns-then-branch-clause-shown g c)

pub returns-then-is_alone-clause-behind : goal.returns-then-is_alone-clause-behind
returns-then-is_alone-clause-behind g c =
    let m = c.args.self.now in
    let a = g.A.Device.contents m.first in
    let b = g.B.Device.contents m.second in
    let mark = c.blocks-blocks.result - 1 in
    together_joined Second mark (g.A.Device.block_count m.first) (g.B.Device.block_count m.second) (g.A.Device.block_count c.mirror_onto.new.copy) (g.B.Device.block_count c.mirror_onto.new.source)
    a b (g.A.Device.contents c.is_open.new.half) (g.B.Device.contents c.is_open-2.new.half) (g.A.Device.contents c.mirror_onto.new.copy) (g.B.Device.contents c.mirror_onto.new.source)
    (omega (arith, c.if-blocks-eq0.false, c.blocks-blocks.ensures.count)) (omega (arith, c.if-blocks-eq0.false, c.if-blocks.false, c.blocks-else-blocks-eq0.ensures.count))
    (c.mirror_onto.ensures.copy_stays.count ∙ c.is_open.ensures.reads.count) (c.mirror_onto.ensures.source_stays.count ∙ c.is_open-2.ensures.reads.count)
    c.blocks-blocks.ensures.shape c.blocks-else-blocks-eq0.ensures.shape c.is_open.ensures.reads.kept c.is_open-2.ensures.reads.kept
    c.mirror_onto.ensures.copy_others (mark_within mark (g.B.Device.contents c.is_open-2.new.half) (g.B.Device.contents c.mirror_onto.new.source) c.mirror_onto.ensures.source_others) (returns-then-is_alone-clause-shown g c)

pub returns-then-branch-2-clause-behind : goal.returns-then-branch-2-clause-behind
returns-then-branch-2-clause-behind g c =
    let m = c.args.self.now in
    let a = g.A.Device.contents m.first in
    let b = g.B.Device.contents m.second in
    let mark = c.blocks-blocks.result - 1 in
    together_joined Both mark (g.A.Device.block_count m.first) (g.B.Device.block_count m.second) (g.A.Device.block_count c.mirror_onto-2.new.source) (g.B.Device.block_count c.mirror_onto-2.new.copy)
    a b (g.A.Device.contents c.is_open.new.half) (g.B.Device.contents c.is_open-2.new.half) (g.A.Device.contents c.mirror_onto-2.new.source) (g.B.Device.contents c.mirror_onto-2.new.copy)
    (omega (arith, c.if-blocks-eq0.false, c.blocks-blocks.ensures.count)) (omega (arith, c.if-blocks-eq0.false, c.if-blocks.false, c.blocks-else-blocks-eq0.ensures.count))
    (c.mirror_onto-2.ensures.source_stays.count ∙ c.is_open.ensures.reads.count) (c.mirror_onto-2.ensures.copy_stays.count ∙ c.is_open-2.ensures.reads.count)
    c.blocks-blocks.ensures.shape c.blocks-else-blocks-eq0.ensures.shape c.is_open.ensures.reads.kept c.is_open-2.ensures.reads.kept
    (mark_within mark (g.A.Device.contents c.is_open.new.half) (g.A.Device.contents c.mirror_onto-2.new.source) c.mirror_onto-2.ensures.source_others) c.mirror_onto-2.ensures.copy_others (returns-then-branch-2-clause-shown g c)

pub returns-clause-behind : goal.returns-clause-behind
returns-clause-behind g c =
    let m = c.args.self.now in
    let a = g.A.Device.contents m.first in
    let b = g.B.Device.contents m.second in
    let mark = c.blocks-blocks.result - 1 in
    together_joined First mark (g.A.Device.block_count m.first) (g.B.Device.block_count m.second) (g.A.Device.block_count c.mirror_onto-2.new.source) (g.B.Device.block_count c.mirror_onto-2.new.copy)
    a b (g.A.Device.contents c.is_open.new.half) (g.B.Device.contents c.is_open-2.new.half) (g.A.Device.contents c.mirror_onto-2.new.source) (g.B.Device.contents c.mirror_onto-2.new.copy)
    (omega (arith, c.if-blocks-eq0.false, c.blocks-blocks.ensures.count)) (omega (arith, c.if-blocks-eq0.false, c.if-blocks.false, c.blocks-else-blocks-eq0.ensures.count))
    (c.mirror_onto-2.ensures.source_stays.count ∙ c.is_open.ensures.reads.count) (c.mirror_onto-2.ensures.copy_stays.count ∙ c.is_open-2.ensures.reads.count)
    c.blocks-blocks.ensures.shape c.blocks-else-blocks-eq0.ensures.shape c.is_open.ensures.reads.kept c.is_open-2.ensures.reads.kept
    (mark_within mark (g.A.Device.contents c.is_open.new.half) (g.A.Device.contents c.mirror_onto-2.new.source) c.mirror_onto-2.ensures.source_others) c.mirror_onto-2.ensures.copy_others (returns-clause-shown g c)
