use Rattle.std.proofs.Common.{◌∙◌, ap, option_map, []}
use Rattle.clap.specs.Words.{found_of}
use Rattle.bd_words.specs.Words.{Serve}
use Rattle.bd_words.proofs.Values.{image_found, none_some}
use Rattle.bd_words.proofs.words.serve_in.Goals as goal

pub returns-in_err-image : goal.returns-in_err-image
returns-in_err-image c = λ image rows. absurd (none_some image (c.in_err-image.ensures ∙ image_found (found_of c.args.values.now) image [] rows))

pub returns : goal.returns
returns c = λ image rows. ap (option_map Serve) (c.in_ok-image.ensures ∙ image_found (found_of c.args.values.now) image [] rows)
