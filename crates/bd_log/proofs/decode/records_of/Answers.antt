use Rattle.std.proofs.Common.{◌≡◌, ◌==◌, ◌+◌, ◌++◌, ◌∷◌, [], List, ℕ, length, false, arith, ap, sym, ◌∙◌}
use Rattle.std.proofs.lemmas.Bool.Decides.{nat_tests}
use Rattle.bd_log.proofs.Headers.{too_few, too_long, records_more}
use Rattle.bd_log.proofs.decode.records_of.Goals as goal

pub returns-in_default : goal.returns-in_default
returns-in_default c =
    too_few c.args.count c.args.bytes.now c.loop-i.cursor.left c.loop-i.records.items c.loop-i.invariant.read c.loop-i.invariant.each
    (omega (arith, c.loop-i.invariant.many, c.loop-i-test.true)) c.in_default.ensures.none

pub loop-i-preserved : goal.loop-i-preserved
loop-i-preserved c =
    let rs = c.loop-i.records.items in
    let r = c.in-Some.record.now in
    let new : c.push.new.self.items ≡ rs ++ r ∷ [] = c.in_ok-push.ensures.items ∙ ap (λ (x : List ℕ). rs ++ x ∷ []) c.in_ok-from_slice.ensures in
    let more = records_more c.args.bytes.now c.loop-i.cursor.left c.next_record.new.cursor.left r rs c.push.new.self.items
    c.loop-i.invariant.read c.loop-i.invariant.each c.in-Some.ensures.record c.in-Some.ensures.read.front new in
    record { read = more.0; many = more.1 ∙ ap (λ n. n + 1) c.loop-i.invariant.many; each = more.2 }

not_empty : (n : ℕ) → false ≡ (n == 0) → n ≡ 0 → ⊥
not_empty n e h = grind (arith, nat_tests)

pub returns-else-is_empty : goal.returns-else-is_empty
returns-else-is_empty c =
    too_long c.args.count c.args.bytes.now c.loop-i.cursor.left c.loop-i.records.items c.loop-i.invariant.read c.loop-i.invariant.each
    (omega (arith, c.loop-i.invariant.many, c.loop-i-test.false))
    (λ none. not_empty (length c.left.result.now) (sym c.if-is_empty.false ∙ c.is_empty.ensures) (ap length c.left.ensures ∙ none))
