use Rattle.std.proofs.Common.{◌≡◌, ◌+◌, ◌*◌, take, drop, sym, subst, arith}
use Rattle.bd_wire.specs.Writing.{Puts}
use Rattle.bd_wire.proofs.WritingLemmas.{Puts-append}
use Rattle.bd_table.specs.Tables.{table_bytes}
use Rattle.bd_table.specs.Words.{word_at}
use Rattle.bd_table.proofs.WordLemmas.{part_more}
use Rattle.bd_table.proofs.table.Table.put_part.Goals as goal

pub loop-word-preserved : goal.loop-word-preserved
loop-word-preserved c =
    let t = c.args.self.now in
    let taken = c.args.taken in
    let i = c.loop-word.word in
    let so_far = take (8 * i) (drop (4096 * c.args.k) (table_bytes taken t)) in
    subst (Puts c.args.out.now c.put_word.new.out) (sym (part_more taken t c.args.k i c.requires.inside c.loop-word-test.true))
    (Puts-append c.args.out.now c.loop-word.out c.put_word.new.out so_far (word_at t (512 * c.args.k + i)) c.loop-word.invariant c.put_word.ensures)

pub returns : goal.returns
returns c =
    let all : 8 * c.loop-word.word ≡ 4096 = omega (arith, c.loop-word-test.false, c.loop-word.auto.word-end) in
    subst (λ n. Puts c.args.out.now c.loop-word.out (take n (drop (4096 * c.args.k) (table_bytes c.args.taken c.args.self.now)))) all c.loop-word.invariant
