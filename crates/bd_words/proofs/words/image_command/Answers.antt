use Rattle.std.proofs.Common.{◌∙◌, ◌||◌, ap₂}
use Rattle.std.proofs.lemmas.Result.{IfOk-weaker}
use Rattle.clap.specs.Words.{with_rule}
use Rattle.bd_words.proofs.words.image_command.Goals as goal

pub returns : goal.returns
returns c = record {
  line = IfOk-weaker c.arg.result _ _ (λ r h. h.shape c.image_arg.ensures.local ∙ ap₂ with_rule c.new.ensures.app c.image_arg.ensures.rule) c.arg.ensures;
  local = IfOk-weaker c.arg.result _ _ (λ r h. h.globals ∙ ap₂ (λ a b. a || b) c.new.ensures.local c.image_arg.ensures.local) c.arg.ensures;
}
