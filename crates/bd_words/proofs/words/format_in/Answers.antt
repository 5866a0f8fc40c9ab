use Rattle.std.proofs.Common.{◌∙◌, ◌∷◌, ℕ, [], Option, ap₂, arith, codes, option_and_then, option_map, sym}
use Rattle.clap.specs.Words.{Text, found_of}
use Rattle.bd_limits.specs.Limits.{slot_limit, slot_minimum}
use Rattle.bd_words.specs.Words.{Format}
use Rattle.bd_words.specs.Line.{number_row}
use Rattle.bd_words.proofs.Values.{image_found, none_some, slots_found}
use Rattle.bd_words.proofs.words.format_in.Goals as goal

pub returns-in_err-image : goal.returns-in_err-image
returns-in_err-image c = λ image slots has.
    absurd (none_some image (c.in_err-image.ensures ∙ image_found (found_of c.args.values.now) image (number_row (codes "slots") has.0 ∷ []) has.1))

pub returns : goal.returns
returns c = λ image slots has.
    ap₂ (λ (x : Option Text) (y : Option ℕ). option_and_then (λ i. option_map (Format i) y) x)
    (c.in_ok-image.ensures ∙ image_found (found_of c.args.values.now) image (number_row (codes "slots") has.0 ∷ []) has.1)
    (sym c.in_ok-slots.was ∙ c.number_of.ensures slot_minimum slot_limit slots has.0 (omega arith)
    (slots_found (found_of c.args.values.now) image has.0 has.1) has.2)
