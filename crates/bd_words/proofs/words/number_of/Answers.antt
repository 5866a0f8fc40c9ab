use Rattle.std.proofs.Common.{◌∙◌}
use Rattle.std.specs.Str.Parse.{ExplainsUnsignedError, HasUnsignedDigitsIfOk, ParsesUnsigned}
use Rattle.clap.specs.Words.{found_of}
use Rattle.clap.proofs.WalkLemmas.{one_text-rows}
use Rattle.bd_words.proofs.Ranges.{number_reads}
use Rattle.bd_words.proofs.words.number_of.Goals as goal

pub returns : goal.returns
returns c = λ least most n text small found is.
    number_reads _ (λ bs r. ParsesUnsigned 32 10 bs r × ExplainsUnsignedError 10 bs r × HasUnsignedDigitsIfOk bs r) least most n text c.get_one.result
    small (λ u x g. g.0) is (c.get_one.ensures.value _ (one_text-rows (found_of c.args.values.now) c.args.id.now ∙ found))
