use Rattle.std.proofs.Common.{ℕ, List, ◌≡◌, ◌<◌, ◌≤◌, ◌+◌, ◌-◌, ◌/◌, ◌%◌, ◌++◌, length, take, drop, ap, ◌∙◌, arith, []}
use Rattle.std.proofs.lemmas.List.{length-append, length-drop}
use Rattle.std.specs.Prelude.{Option, min}
use Rattle.std.specs.Option.{unwrap_or}
use Rattle.bd_limits.specs.Limits.{block_limit}
use Rattle.bd_keys.specs.Edits.{resized}
use Rattle.bd_keys.proofs.EditLemmas.{length-resized}
use Rattle.bd_represent.specs.EntryKeys.{block_key}
use Rattle.bd_represent.specs.Represents.{stored}
use Rattle.bd_files.proofs.Pieces.{piece, next_piece, left_both, ends}
use Rattle.bd_files.proofs.reading.bytes_between.Goals as goal

pub loop-place-preserved : goal.loop-place-preserved
loop-place-preserved g c =
    let place = c.loop-place.place in
    let n = c.min-count.result in
    let first = c.loop-place.invariant.left in
    let second = c.in_ok-block.ensures.left in
    let under : place < c.args.end = c.loop-place-test.true in
    let least : n ≡ min (c.args.end - place) (block_limit - place % block_limit) = c.min-count.ensures in
    let room : place % block_limit + n ≤ block_limit = omega (arith, least) in
    let fits : place + n ≤ c.args.end = omega (arith, least, under) in
    record {
      from = omega (arith, c.loop-place.invariant.from);
      within = λ h. fits;
      none = λ h. absurd (omega (arith, c.loop-place.invariant.none h, under, h));
      count = omega (arith, ap length c.in_ok-extend_from_slice.ensures.items, length-append c.loop-place.read.items c.tail.result.now, ap length c.tail.ensures, length-drop (place % block_limit) c.deref-in-loop-place.result.now, ap length c.deref-in-loop-place.ensures.value, ap length c.in_ok-whole.ensures, length-resized c.deref.result.now (place % block_limit + n), c.loop-place.invariant.count, fits);
      left = left_both g.M.KeyMap g.met.M.KeyMap.reads_both c.args.m.now c.loop-place.m c.stored.new.m first second;
      faults = c.in_ok-block.ensures.cause.kept ∙ c.loop-place.invariant.faults;
      bytes = λ known t mode file r found long.
          let at = g.M.KeyMap.has c.args.m.now in
          let kept : c.in_ok-block.block.items ≡ stored at c.args.path.now (place / block_limit) =
          c.in_ok-block.ensures.bytes (first.known known) ∙ ap (λ (o : Option (List ℕ)). unwrap_or o []) (first.kept known (block_key c.args.path.now (place / block_limit))) in
          let got : c.tail.result.now ≡ drop (place % block_limit) (resized (stored at c.args.path.now (place / block_limit)) (place % block_limit + n)) =
          c.tail.ensures ∙ ap (drop (place % block_limit)) (c.deref-in-loop-place.ensures.value ∙ c.in_ok-whole.ensures ∙ ap (λ (b : List ℕ). resized b (place % block_limit + n)) (c.deref.ensures.value ∙ kept)) in
          let read : c.extend_from_slice.new.self.items ≡ c.loop-place.read.items ++ take n (drop place file) =
          c.in_ok-extend_from_slice.ensures.items ∙ ap (λ (b : List ℕ). c.loop-place.read.items ++ b) (got ∙ piece at t c.args.path.now mode file place n c.requires r found (omega arith) room (omega (arith, fits, long))) in
          read ∙ next_piece file c.loop-place.read.items c.args.off place n c.loop-place.invariant.from (c.loop-place.invariant.bytes known t mode file r found long);
    }

pub returns-clause-bytes : goal.returns-clause-bytes
returns-clause-bytes g c = λ known t mode file r found long.
    c.loop-place.invariant.bytes known t mode file r found long
    ∙ ap (λ (n : ℕ). take n (drop c.args.off file)) (ends c.args.off c.args.end c.loop-place.place c.loop-place-test.false c.loop-place.invariant.within c.loop-place.invariant.none)
