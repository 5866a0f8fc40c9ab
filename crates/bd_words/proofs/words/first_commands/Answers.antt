use Rattle.std.proofs.Common.{◌∙◌, ◌≡◌, ap, codes, true}
use Rattle.std.proofs.lemmas.Result.{IfOk-weaker}
use Rattle.clap.specs.Simple.{app_of_fields}
use Rattle.clap.specs.Words.{App, app_of}
use Rattle.bd_words.specs.Line.{fill_line, format_line, image_line, program_line, with_verb}
use Rattle.bd_words.proofs.words.first_commands.Goals as goal

abbrev wanting : App → App
wanting a = record a { top = record a.top { subcommand_required = true } }

pub returns : goal.returns
returns c =
    let named : app_of c.subcommand_required-program.result ≡ program_line = ap app_of_fields c.subcommand_required-program.ensures ∙ ap wanting c.new.ensures.app in
    let one = c.in_ok-program.ensures.line ∙ ap (λ a. with_verb a (image_line (codes "run"))) named in
    let two = c.in_ok-with_format.ensures.line ∙ ap (λ a. with_verb a format_line) one in
    record {
      line = IfOk-weaker c.with_fill.result _ _ (λ r h. h ∙ ap (λ a. with_verb a fill_line) two) c.with_fill.ensures.line;
    }
