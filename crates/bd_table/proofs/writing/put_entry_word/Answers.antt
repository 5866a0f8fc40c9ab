use Rattle.std.proofs.Common.{◌≡◌, ◌+◌, ◌*◌, ◌/◌, ◌%◌, get_or, sym, ap, subst, ◌∙◌, arith}
use Rattle.bd_wire.specs.Text.{zeros}
use Rattle.bd_wire.specs.Writing.{Puts}
use Rattle.bd_table.specs.Words.{entry_words, entry_word}
use Rattle.bd_table.specs.declared.table.TableEntry.{TableEntry}
use Rattle.bd_table.proofs.WordLemmas.{in_entry, past_entries}
use Rattle.bd_table.proofs.writing.put_entry_word.Goals as goal

pub returns-in-None : goal.returns-in-None
returns-in-None c =
    subst (Puts c.args.out.now c.put_bytes.new.self) (sym (past_entries c.args.entries.now c.args.index c.in-None.ensures.lookup.3)) c.put_bytes.ensures.puts

pub returns-in-Some : goal.returns-in-Some
returns-in-Some c =
    let entries = c.args.entries.now in
    let index = c.args.index in
    let e = c.in-Some.entry.now in
    let is = c.in-Some.ensures.lookup.3 in
    let place : 3 * (index / 3) + index % 3 ≡ index = omega arith in
    let word : get_or (entry_words e) (index % 3) (zeros 8) ≡ entry_word entries index =
    ap (λ (x : TableEntry). get_or (entry_words x) (index % 3) (zeros 8)) (is.1 e) ∙ sym (in_entry entries (index / 3) (index % 3) e is.0 (omega arith)) ∙ ap (entry_word entries) place in
    subst (Puts c.args.out.now c.put_word_of.new.out) word c.put_word_of.ensures
