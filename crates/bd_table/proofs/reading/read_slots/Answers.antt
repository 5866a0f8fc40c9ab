use Rattle.std.proofs.Common.{◌≡◌, ◌++◌, [], Option, IfSome, subst, ◌∙◌, arith}
use Rattle.std.specs.Prelude.{slice_index_or}
use Rattle.bd_device.specs.Blocks.{Image}
use Rattle.bd_device.proofs.Calls.{reads_then}
use Rattle.bd_table.proofs.BlockLemmas.{bytes_more}
use Rattle.bd_table.proofs.reading.read_slots.Goals as goal

pub loop-k-preserved : goal.loop-k-preserved
loop-k-preserved g c =
    let D = g.D.Device in
    let old = c.loop-k.bytes.items in
    let new = c.append_block.new.bytes.items in
    let was = c.loop-k.invariant in
    let now = c.in_ok-append_block.ensures in
    let there = subst (λ (known : Option Image). IfSome known (λ image. new ≡ old ++ slice_index_or image c.table_block.result [])) was.reads.kept now.bytes in
    let here = subst (λ b. IfSome (D.contents c.args.dev.now) (λ image. new ≡ old ++ slice_index_or image b [])) c.table_block.ensures there in
    record {
      bytes = bytes_more (D.contents c.args.dev.now) c.args.at.now c.loop-k.k old new was.bytes here;
      size = now.length ∙ omega (arith, was.size);
      faults = now.cause.kept ∙ was.faults;
      reads = reads_then was.reads now.reads;
    }
