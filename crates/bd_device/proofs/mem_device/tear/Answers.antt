use Rattle.std.proofs.Common.{◌≡◌, ℕ, ◌+◌, ◌-◌, ◌<◌, false, List, [], length, take, reverse, slice_set, slice_index_or, subst, sym, ap, ◌∙◌, arith, rules}
use Rattle.std.proofs.lemmas.List.{length-set}
use Rattle.std.proofs.Math.Seq.{take-length}
use Rattle.std.proofs.lemmas.List.Elements.{All-set}
use Rattle.bd_device.specs.Blocks.{IsBlock}
use Rattle.bd_device.specs.Crash.{torn_blocks}
use Rattle.bd_device.specs.declared.write_record.WriteRecord.{WriteRecord}
use Rattle.bd_device.proofs.Crash.{torn_blocks-settled, torn_blocks-last}
use Rattle.bd_device.proofs.mem_device.tear.Goals as goal

pub loop-left-init : goal.loop-left-init
loop-left-init c = record {
  torn = ap (λ (l : List WriteRecord). torn_blocks c.args.how c.args.barrier (reverse l) c.args.blocks.now) (take-length c.args.writes.now);
  kept = search rules;
  whole = c.requires.whole;
  within = omega arith;
}

pub loop-left-preserved : goal.loop-left-preserved
loop-left-preserved c =
    let ws = c.args.writes.now in
    let i : ℕ = c.loop-left.left - 1 in
    let w : WriteRecord = slice_index_or ws i (record { call = 0; block = 0; bytes = []; before = []; is_done = false; barrier = 0 }) in
    let lt : i < length ws = omega (arith, c.loop-left-test.true, c.loop-left.invariant.within) in
    let next : i + 1 ≡ c.loop-left.left = omega (arith, c.loop-left-test.true) in
    record {
      torn =
          ap (λ (bytes : List ℕ). torn_blocks c.args.how w.barrier (reverse (take i ws)) (slice_set c.loop-left.blocks w.block bytes)) c.bytes-bytes.ensures.torn
          ∙ sym (torn_blocks-last c.args.how ws i (record { call = 0; block = 0; bytes = []; before = []; is_done = false; barrier = 0 }) c.loop-left.blocks lt)
          ∙ ap (λ k. torn_blocks c.args.how 0 (reverse (take k ws)) c.loop-left.blocks) next
          ∙ ap (λ k. torn_blocks c.args.how k (reverse (take c.loop-left.left ws)) c.loop-left.blocks) (sym c.if-barrier-eq0.true)
          ∙ c.loop-left.invariant.torn;
      kept = length-set c.loop-left.blocks w.block c.bytes-bytes.result ∙ c.loop-left.invariant.kept;
      whole = All-set IsBlock c.loop-left.blocks w.block c.bytes-bytes.result c.bytes-bytes.ensures.whole c.loop-left.invariant.whole;
      within = omega (arith, c.loop-left.invariant.within);
    }

pub returns-else-barrier-eq0-clause-torn : goal.returns-else-barrier-eq0-clause-torn
returns-else-barrier-eq0-clause-torn c =
    sym (torn_blocks-settled c.args.how c.loop-left.barrier (reverse (take c.loop-left.left c.args.writes.now)) c.loop-left.blocks c.if-barrier-eq0.false) ∙ c.loop-left.invariant.torn

pub returns-after-loop-left-clause-torn : goal.returns-after-loop-left-clause-torn
returns-after-loop-left-clause-torn c =
    let none : c.loop-left.left ≡ 0 = omega (arith, c.loop-left-test.false) in
    subst (λ k. torn_blocks c.args.how c.loop-left.barrier (reverse (take k c.args.writes.now)) c.loop-left.blocks ≡ torn_blocks c.args.how c.args.barrier (reverse c.args.writes.now) c.args.blocks.now) none c.loop-left.invariant.torn
