use Rattle.std.proofs.Common.{arith, ℕ, min, ◌<◌, ◌≤◌, ◌∷◌, [], sym, subst, ◌*◌, ◌+◌, ◌-◌, ◌/◌, ◌%◌, ◌≡◌, length, take, drop, ap, ◌∙◌, inr, length-append}
use Rattle.std.proofs.lemmas.List.Elements.{All-push}
use Rattle.bd_limits.specs.Limits.{block_limit}
use Rattle.bd_message.specs.declared.message.Message.TheVariants.{Patch}
use Rattle.bd_message.specs.Messages.{IsMessage, IsPlain}
use Rattle.bd_represent.specs.EntryKeys.{block_key}
use Rattle.bd_files.proofs.Overwriting.{next_patch, next_more, next_first}
use Rattle.bd_files.specs.Sends.{patches_of}
use Rattle.bd_files.proofs.Sent.{next_sent, all_sent}
use Rattle.bd_files.proofs.patches.patches.Goals as goal

pub loop-done-preserved : goal.loop-done-preserved
loop-done-preserved c =
    let d = c.loop-done.done in
    let n = c.min-count.result in
    let o = (c.args.off + d) % block_limit in
    let m : c.in_ok-patch.field-0 ≡ Patch (block_key c.args.path.now ((c.args.off + d) / block_limit)) o (take (d + n - d) (drop d c.args.bytes.now)) = c.in_ok-patch.ensures.message in
    let items = c.in_ok-push.ensures.items in
    let least : n ≡ min (length c.args.bytes.now - d) (block_limit - o) = c.min-count.ensures in
    let under : d < length c.args.bytes.now = c.loop-done-test.true in
    let inside : o < block_limit = omega arith in
    let some : 1 ≤ n = omega (arith, least, under, inside) in
    let room : o + n ≤ block_limit = omega (arith, least, inside) in
    let fits : d + n ≤ length c.args.bytes.now = omega (arith, least, under) in
    let long : length c.push.new.self.items ≡ length c.loop-done.list.items + 1 = ap length items ∙ length-append c.loop-done.list.items (c.in_ok-patch.field-0 ∷ []) in
    let so_far : block_limit * length c.loop-done.list.items ≤ d + 1023 = c.loop-done.invariant.more under in
    let place = c.loop-done.invariant.first under in
    let piece : take (d + n - d) (drop d c.args.bytes.now) ≡ take n (drop d c.args.bytes.now) = ap (λ (k : ℕ). take k (drop d c.args.bytes.now)) (omega arith) in
    record {
      within = fits;
      few = omega (arith, long, so_far, under, c.requires.short);
      more = λ left. next_more c.args.off d n (length c.args.bytes.now) (length c.loop-done.list.items) (length c.push.new.self.items) least left long so_far place some;
      first = λ left. inr (next_first c.args.off d n (length c.args.bytes.now) least left);
      each = rw items (All-push IsMessage c.loop-done.list.items c.in_ok-patch.field-0 c.loop-done.invariant.each c.in_ok-patch.ensures.is_message);
      plain = rw items (All-push IsPlain c.loop-done.list.items c.in_ok-patch.field-0 c.loop-done.invariant.plain (subst IsPlain (sym m) tt));
      rest = next_sent c.args.path.now c.args.off c.args.bytes.now c.loop-done.list.items c.push.new.self.items (patches_of 3 c.args.path.now c.args.off c.args.bytes.now) c.in_ok-patch.field-0 d n (omega (arith, so_far, under, c.requires.short)) least under
          (m ∙ ap (Patch (block_key c.args.path.now ((c.args.off + d) / block_limit)) o) piece) items c.loop-done.invariant.rest;
      writes = next_patch c.args.path.now c.args.off c.args.bytes.now c.loop-done.list.items c.push.new.self.items c.in_ok-patch.field-0 d n c.in_ok-patch.ensures.names c.requires.fits fits some room
          (m ∙ ap (Patch (block_key c.args.path.now ((c.args.off + d) / block_limit)) o) piece) items c.loop-done.invariant.writes;
    }

pub returns-clause-list : goal.returns-clause-list
returns-clause-list c = all_sent c.args.path.now c.args.off c.args.bytes.now c.loop-done.list.items (patches_of 3 c.args.path.now c.args.off c.args.bytes.now) c.loop-done.done (omega arith) c.loop-done.invariant.rest
