use Rattle.std.proofs.Common.{◌≡◌, ◌<◌, ◌∙◌, true, false, sym, ap, subst, rules, tests, length, inl, inr}
use Rattle.std.specs.Prelude.{◌==◌, IfOk, OnErr}
use Rattle.std.specs.List.{list_any}
use Rattle.std.proofs.lemmas.Iterator.Splits.{YieldsList-from_slice_split}
use Rattle.bd_script.specs.Lines.{is_empty, words_of, line_of_words}
use Rattle.bd_script.specs.Reading.{texts}
use Rattle.bd_script.proofs.ReadLemmas.{texts_if_ok, more_if_err, line_of_parts-many, line_of_parts-empty, line_of_parts-some}
use Rattle.bd_script.proofs.words.cut_words.Goals as goal
use Rattle.bd_script.proofs.words.cut_words.Goals.{In-Ok}

pub returns-in_default : goal.returns-in_default
returns-in_default c =
    let many = more_if_err 4 c.from_iter.result c.from_iter.ensures.full (YieldsList-from_slice_split _ (λ b. b == 32) c.args.line.now c.split.ensures.rest c.split.ensures.done c.split.ensures.closure (λ x b q k. search (rules, tests))) in
    let more : 4 < length (words_of c.args.line.now) = subst (λ r. OnErr r (4 < length (words_of c.args.line.now))) c.in_default.is many in
    record { line = line_of_parts-many (words_of c.args.line.now) more; words = inr more }

is_words : (c : In-Ok) → texts c.in-Ok.words.items ≡ words_of c.args.line.now
is_words c =
    let all = texts_if_ok c.from_iter.result c.from_iter.ensures.ran (YieldsList-from_slice_split _ (λ b. b == 32) c.args.line.now c.split.ensures.rest c.split.ensures.done c.split.ensures.closure (λ x b q k. search (rules, tests))) in
    subst (λ r. IfOk r (λ v. texts v.items ≡ words_of c.args.line.now)) c.in-Ok.is all

pub returns-then-has_empty : goal.returns-then-has_empty
returns-then-has_empty c =
    let is = is_words (goal.at-returns-then-has_empty c).In-Ok in
    let some : list_any is_empty (words_of c.args.line.now) ≡ true = cc in
    record { line = line_of_parts-empty (words_of c.args.line.now) some; words = inl some }

pub returns : goal.returns
returns c =
    let is = is_words (goal.at-returns c).In-Ok in
    let none : list_any is_empty (words_of c.args.line.now) ≡ false = cc in
    record { line = line_of_parts-some (words_of c.args.line.now) none ∙ ap line_of_words (sym is); words = (is, none) }
