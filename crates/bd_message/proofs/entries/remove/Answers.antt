use Rattle.std.proofs.Common.{not, rules}
use Rattle.std.proofs.lemmas.Fn.{filter_same}
use Rattle.bd_message.specs.Effect.{same_key}
use Rattle.bd_message.proofs.entries.remove.Goals as goal

pub returns : goal.returns
returns c = filter_same _ (λ e. not (same_key e.0 c.args.key.now)) _ (λ x b f' k. search rules) _ _ c.retain.ensures.filtered
