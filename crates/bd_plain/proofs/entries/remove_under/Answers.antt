use Rattle.std.proofs.Common.{not, rules}
use Rattle.std.proofs.lemmas.Fn.{filter_same}
use Rattle.bd_names.specs.Names.{is_under}
use Rattle.bd_plain.proofs.entries.remove_under.Goals as goal

pub returns : goal.returns
returns c = filter_same _ (λ e. not (is_under c.args.path.now e.0)) _ (λ x b f' k. search rules) _ _ c.retain.ensures.filtered
