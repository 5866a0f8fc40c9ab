use Rattle.std.proofs.Common.{◌∙◌, ◌∷◌, [], Option, ap₂, option_and_then, option_map}
use Rattle.clap.specs.Words.{Text, found_of}
use Rattle.bd_words.specs.Words.{Import}
use Rattle.bd_words.specs.Line.{path_row}
use Rattle.bd_words.proofs.Values.{image_found, none_some, path_found}
use Rattle.bd_words.proofs.words.import_in.Goals as goal

pub returns-in_err-image : goal.returns-in_err-image
returns-in_err-image c = λ image path rows.
    absurd (none_some image (c.in_err-image.ensures ∙ image_found (found_of c.args.values.now) image (path_row path ∷ []) rows))

pub returns-in_err-path : goal.returns-in_err-path
returns-in_err-path c = λ image path rows. absurd (none_some path (c.in_err-path.ensures ∙ path_found (found_of c.args.values.now) image path rows))

pub returns : goal.returns
returns c = λ image path rows.
    ap₂ (λ (x y : Option Text). option_and_then (λ i. option_map (Import i) y) x)
    (c.in_ok-image.ensures ∙ image_found (found_of c.args.values.now) image (path_row path ∷ []) rows)
    (c.in_ok-path.ensures ∙ path_found (found_of c.args.values.now) image path rows)
