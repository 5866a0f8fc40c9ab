use Rattle.std.proofs.Common.{◌∙◌, ◌||◌, ap₂}
use Rattle.std.proofs.lemmas.Result.{IfOk-weaker}
use Rattle.clap.specs.Words.{with_rule}
use Rattle.bd_words.proofs.words.format_command.Goals as goal

pub returns : goal.returns
returns c =
    let first = c.in_ok-arg.ensures.shape c.image_arg.ensures.local ∙ ap₂ with_rule c.new.ensures.app c.image_arg.ensures.rule in
    let first_local = c.in_ok-arg.ensures.globals ∙ ap₂ (λ a b. a || b) c.new.ensures.local c.image_arg.ensures.local in
    record {
      line = IfOk-weaker c.arg-2.result _ _ (λ r h. h.shape c.number_arg.ensures.local ∙ ap₂ with_rule first c.number_arg.ensures.rule) c.arg-2.ensures;
      local = IfOk-weaker c.arg-2.result _ _ (λ r h. h.globals ∙ ap₂ (λ a b. a || b) first_local c.number_arg.ensures.local) c.arg-2.ensures;
    }
