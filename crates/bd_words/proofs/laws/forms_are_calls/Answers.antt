use Rattle.bd_words.proofs.Forms.{form_is_call}
use Rattle.bd_words.proofs.laws.forms_are_calls.Goals as goal

pub returns : goal.returns
returns c = form_is_call
