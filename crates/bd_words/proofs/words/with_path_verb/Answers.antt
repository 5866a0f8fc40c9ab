use Rattle.std.proofs.Common.{◌∙◌, ap}
use Rattle.std.proofs.lemmas.Result.{IfOk-weaker}
use Rattle.clap.specs.Words.{app_of}
use Rattle.bd_words.specs.Line.{with_verb}
use Rattle.bd_words.proofs.words.with_path_verb.Goals as goal

pub returns : goal.returns
returns c = record {
  line = IfOk-weaker c.subcommand.result _ _ (λ r h. h.shape c.in_ok-path_command.ensures.local ∙ ap (with_verb (app_of c.args.program)) c.in_ok-path_command.ensures.line) c.subcommand.ensures;
}
