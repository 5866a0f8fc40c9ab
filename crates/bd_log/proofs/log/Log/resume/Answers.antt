use Rattle.std.proofs.Common.{◌≡◌, length, drop, arith, refl, ap, ◌∙◌}
use Rattle.std.proofs.lemmas.List.{take_at}
use Rattle.bd_log.proofs.log.Log.resume.Goals as goal

pub invariant_of-result : goal.invariant_of-result
invariant_of-result g c =
    let new = c.read_batches.new.buffer in
    let long : length new ≡ c.in_ok-body.body.len = c.read_batches.auto.buffer ∙ c.deref_mut.ensures.len in
    let items = take_at new (drop (length new) c.in_ok-body.body.items) c.in_ok-body.body.len long in (
      c.requires.half,
      c.in_ok-batches.ensures.place,
      record {
        total = ap length items ∙ long ∙ c.in_ok-body.ensures.len;
        room = omega arith;
        whole = refl;
        each = tt;
      },
    )
