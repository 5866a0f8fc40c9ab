use Rattle.std.proofs.Common.{◌≡◌, ◌<◌, ℕ, [], IfSome, length, subst, refl, ◌∙◌, arith}
use Rattle.std.specs.Prelude.{slice_index_or}
use Rattle.bd_device.specs.Blocks.{with_block}
use Rattle.bd_device.specs.Device.{left_now, Goes}
use Rattle.bd_device.specs.Moments.{TornAt}
use Rattle.bd_device.proofs.Calls.{stays_then}
use Rattle.bd_device.proofs.Changes.{write_more, stays_both, stays_written, stays_changed}
use Rattle.bd_table.specs.Image.{IsOfTable, block_total, table_block}
use Rattle.bd_table.specs.Words.{part}
use Rattle.bd_table.proofs.WriteLemmas.{written_more, table_written}
use Rattle.bd_table.proofs.writing.write.Goals as goal

pub returns-in_err-write-clause-time : goal.returns-in_err-write-clause-time
returns-in_err-write-clause-time g c =
    let D = g.D.Device in
    let at = c.args.at.now in
    let k = c.loop-k.k in
    let mid = c.loop-k.dev in
    write_more (IsOfTable at) (table_block at k) (k, omega (arith, c.loop-k-test.true), refl) c.loop-k.invariant.time (g.met.D.Device.since_earlier mid)
    (subst (λ b. Goes D mid c.write.new.self (TornAt b (left_now D mid))) c.table_block.ensures c.write.ensures.time)

pub returns-in_err-write-clause-elsewhere : goal.returns-in_err-write-clause-elsewhere
returns-in_err-write-clause-elsewhere g c =
    let D = g.D.Device in
    let at = c.args.at.now in
    let mid = D.contents c.loop-k.dev in
    let new = D.contents c.write.new.self in
    stays_both (IsOfTable at) (D.contents c.args.dev.now) mid new c.loop-k.invariant.elsewhere
    (stays_changed (IsOfTable at) c.table_block.result mid new (c.loop-k.k, omega (arith, c.loop-k-test.true), c.table_block.ensures) c.in_err-write.ensures.others)

pub loop-k-preserved : goal.loop-k-preserved
loop-k-preserved g c =
    let D = g.D.Device in
    let at = c.args.at.now in
    let k = c.loop-k.k in
    let old = c.args.dev.now in
    let mid = c.loop-k.dev in
    let new = c.write.new.self in
    let was = c.loop-k.invariant in
    let lt : k < block_total at = omega (arith, c.loop-k-test.true) in
    let done : D.contents new ≡ with_block (table_block at k) (part (length at) c.args.table.now k) (D.contents mid) =
    subst (λ l. D.contents new ≡ with_block (table_block at k) l (D.contents mid)) c.part.ensures
    (subst (λ b. D.contents new ≡ with_block b c.part.result (D.contents mid)) c.table_block.ensures c.in_ok-write.ensures.written) in
    record {
      written = written_more (D.contents mid) (D.contents new) c.args.slots (D.block_count new) at k (part (length at) c.args.table.now) c.requires.place.differ lt
          (c.in_ok-write.ensures.count ∙ was.stays.count ∙ c.requires.size) c.in_ok-write.ensures.shape done was.written;
      elsewhere = stays_both (IsOfTable at) (D.contents old) (D.contents mid) (D.contents new) was.elsewhere
          (stays_written (IsOfTable at) (table_block at k) (part (length at) c.args.table.now k) (D.contents mid) (D.contents new) (k, lt, refl) done);
      time = write_more (IsOfTable at) (table_block at k) (k, lt, refl) was.time (g.met.D.Device.since_earlier mid)
          (subst (λ b. Goes D mid new (TornAt b (left_now D mid))) c.table_block.ensures c.write.ensures.time);
      faults = c.in_ok-write.ensures.cause.kept ∙ was.faults;
      write_faults = c.in_ok-write.ensures.write_faults ∙ was.write_faults;
      stays = stays_then was.stays (record {
        count = c.in_ok-write.ensures.count;
        same_name = c.in_ok-write.ensures.same_name;
        same_loans = c.in_ok-write.ensures.same_loans;
      });
    }

pub returns-clause-written : goal.returns-clause-written
returns-clause-written g c =
    let D = g.D.Device in
    let at = c.args.at.now in
    let all : c.loop-k.k ≡ block_total at = omega (arith, c.loop-k-test.false, c.loop-k.auto.k-end) in
    table_written (D.contents c.loop-k.dev) c.args.slots at c.args.table.now c.requires.table
    (subst (λ n. IfSome (D.contents c.loop-k.dev) (λ image. (j : ℕ) → j < n → slice_index_or image (table_block at j) [] ≡ part (length at) c.args.table.now j)) all c.loop-k.invariant.written)
