use Rattle.std.proofs.Common.{not, rules}
use Rattle.std.proofs.lemmas.Fn.{filter_same}
use Rattle.bd_message.specs.Effect.{is_cut}
use Rattle.bd_message.proofs.entries.cut.Goals as goal

pub returns : goal.returns
returns c = filter_same _ (λ e. not (is_cut c.args.prefix.now c.args.from.now e.0)) _ (λ x b f' k. search rules) _ _ c.retain.ensures.filtered
