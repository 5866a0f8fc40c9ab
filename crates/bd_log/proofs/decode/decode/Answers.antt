use Rattle.std.proofs.Common.{◌≡◌, ◌+◌, ◌-◌, take, drop, arith, ap, sym, subst, ◌∙◌}
use Rattle.std.proofs.lemmas.List.{take_rest}
use Rattle.std.proofs.lemmas.Result.{IfOk-weaker}
use Rattle.bd_wire.specs.Text.{AreZeros}
use Rattle.bd_log.specs.Batches.{blocks_for}
use Rattle.bd_log.specs.Reading.{AreRecordsOf}
use Rattle.bd_log.proofs.Headers.{body_header, body_zeros, body_from, body_size}
use Rattle.bd_log.proofs.decode.decode.Goals as goal

pub returns-then-not-is_of-clause-body : goal.returns-then-not-is_of-clause-body
returns-then-not-is_of-clause-body c = λ rs some each written.
    let rest = c.in-Some.ensures.some in
    let head = body_header c.in-Some.header c.args.blocks c.args.epoch c.args.bytes.now rest.0 rs c.in-Some.ensures.fits c.requires.blocks (omega arith) c.requires.length rest.1 each written in
    let is = c.is_of.ensures.1 (head.0.mark, head.0.many ∙ head.1, head.0.time, omega (arith, head.0.records, some), ap blocks_for head.0.bytes ∙ head.1) in
    let not = c.if-not-is_of.true in
    cc

pub returns-then-not-all_zero-clause-body : goal.returns-then-not-all_zero-clause-body
returns-then-not-all_zero-clause-body c = λ rs some each written.
    let bytes = c.args.bytes.now in
    let rest = c.in-Some.ensures.some in
    let head = body_header c.in-Some.header c.args.blocks c.args.epoch bytes rest.0 rs c.in-Some.ensures.fits c.requires.blocks (omega arith) c.requires.length rest.1 each written in
    let zero = body_zeros c.args.epoch c.in-Some.header.size bytes rs head.0.bytes written in
    let is = c.all_zero.ensures.1 (subst AreZeros (sym (take_rest bytes (24 + c.in-Some.header.size))) zero) in
    let not = c.if-not-all_zero.true in
    cc

pub returns-clause-body : goal.returns-clause-body
returns-clause-body c =
    let h = c.in-Some.header in
    let bytes = c.args.bytes.now in
    let rest = c.in-Some.ensures.some in
    let of = c.is_of.ensures.0 c.if-not-is_of.false in
    let size : 24 + h.size - 24 ≡ h.size = omega arith in
    let zeroed = subst AreZeros (take_rest bytes (24 + h.size)) (c.all_zero.ensures.0 c.if-not-all_zero.false) in
    IfOk-weaker c.records_of.result _ _ (λ found there. body_from h c.args.epoch c.args.blocks bytes rest.0 found (record {
      fits = c.in-Some.ensures.fits;
      read = rest.1;
      few = c.requires.blocks;
      limit = omega arith;
      long = c.requires.length;
      mark = of.0;
      many = of.1;
      time = of.2;
      some = of.3;
      size = of.4;
      zeroed = zeroed;
    }) (subst (λ n. AreRecordsOf (take n (drop 24 bytes)) h.count found) size there)) c.records_of.ensures

pub returns-clause-blocks : goal.returns-clause-blocks
returns-clause-blocks c =
    let h = c.in-Some.header in
    let bytes = c.args.bytes.now in
    let rest = c.in-Some.ensures.some in
    let of = c.is_of.ensures.0 c.if-not-is_of.false in
    let size : 24 + h.size - 24 ≡ h.size = omega arith in
    let zeroed = subst AreZeros (take_rest bytes (24 + h.size)) (c.all_zero.ensures.0 c.if-not-all_zero.false) in
    IfOk-weaker c.records_of.result _ _ (λ found there. body_size c.args.epoch c.args.blocks bytes found c.requires.length (body_from h c.args.epoch c.args.blocks bytes rest.0 found (record {
      fits = c.in-Some.ensures.fits;
      read = rest.1;
      few = c.requires.blocks;
      limit = omega arith;
      long = c.requires.length;
      mark = of.0;
      many = of.1;
      time = of.2;
      some = of.3;
      size = of.4;
      zeroed = zeroed;
    }) (subst (λ n. AreRecordsOf (take n (drop 24 bytes)) h.count found) size there))) c.records_of.ensures
