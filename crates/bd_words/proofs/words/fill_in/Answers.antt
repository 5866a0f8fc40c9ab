use Rattle.std.proofs.Common.{◌∙◌, ◌∷◌, ℕ, [], Option, ap₂, arith, codes, option_and_then, option_map, sym}
use Rattle.clap.specs.Words.{Text, found_of}
use Rattle.bd_words.specs.Words.{Fill, fill_limit, seed_limit}
use Rattle.bd_words.specs.Line.{number_row}
use Rattle.bd_words.proofs.Values.{count_found, image_found, none_some, seed_found}
use Rattle.bd_words.proofs.words.fill_in.Goals as goal

pub returns-in_err-image : goal.returns-in_err-image
returns-in_err-image c = λ image seed count has.
    absurd (none_some image (c.in_err-image.ensures
    ∙ image_found (found_of c.args.values.now) image (number_row (codes "seed") has.0 ∷ number_row (codes "count") has.1 ∷ []) has.2))

pub returns-in_err-seed : goal.returns-in_err-seed
returns-in_err-seed c = λ image seed count has.
    absurd (none_some seed (sym c.in_err-seed.was ∙ c.number_of.ensures 0 seed_limit seed has.0 (omega arith)
    (seed_found (found_of c.args.values.now) image has.0 has.1 has.2) has.3))

pub returns-in_err-count : goal.returns-in_err-count
returns-in_err-count c = λ image seed count has.
    absurd (none_some count (sym c.in_err-count.was ∙ c.number_of-2.ensures 0 fill_limit count has.1 (omega arith)
    (count_found (found_of c.args.values.now) image has.0 has.1 has.2) has.4))

pub returns : goal.returns
returns c = λ image seed count has.
    let from_image = c.in_ok-image.ensures
    ∙ image_found (found_of c.args.values.now) image (number_row (codes "seed") has.0 ∷ number_row (codes "count") has.1 ∷ []) has.2 in
    let from_seed = sym c.in_ok-seed.was ∙ c.number_of.ensures 0 seed_limit seed has.0 (omega arith)
    (seed_found (found_of c.args.values.now) image has.0 has.1 has.2) has.3 in
    let from_count = sym c.in_ok-count.was ∙ c.number_of-2.ensures 0 fill_limit count has.1 (omega arith)
    (count_found (found_of c.args.values.now) image has.0 has.1 has.2) has.4 in
    ap₂ (λ (x : Option Text) (y : Option ℕ × Option ℕ). option_and_then (λ i. option_and_then (λ s. option_map (Fill i s) y.1) y.0) x) from_image
    (ap₂ (λ (s n : Option ℕ). (s, n)) from_seed from_count)
