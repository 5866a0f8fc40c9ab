use Rattle.std.proofs.Common.{◌∙◌, ap, codes}
use Rattle.std.proofs.lemmas.Result.{IfOk-weaker}
use Rattle.bd_words.specs.Line.{image_line, path_line, with_verb}
use Rattle.bd_words.proofs.words.command_line.Goals as goal

pub returns : goal.returns
returns c =
    let four = c.in_ok-program.ensures.line ∙ ap (λ a. with_verb a (image_line (codes "check"))) c.in_ok-first_commands.ensures.line in
    let five = c.in_ok-program-2.ensures.line ∙ ap (λ a. with_verb a (path_line (codes "export"))) four in
    let six = c.in_ok-program-3.ensures.line ∙ ap (λ a. with_verb a (path_line (codes "import"))) five in
    record {
      line = IfOk-weaker c.with_image_verb-2.result _ _ (λ r h. h ∙ ap (λ a. with_verb a (image_line (codes "serve"))) six) c.with_image_verb-2.ensures.line;
    }
