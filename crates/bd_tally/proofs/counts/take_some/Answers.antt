use Rattle.std.proofs.Common.{◌≡◌, ℕ, Option, option_to_list, sym, subst}
use Rattle.bd_tally.specs.Counts.{counts_after}
use Rattle.bd_tally.proofs.CountLemmas.{counts_after-none}
use Rattle.bd_tally.proofs.counts.take_some.Goals as goal

pub returns-in_default : goal.returns-in_default
returns-in_default c =
    subst (λ (o : Option ℕ). c.args.counts.now ≡ counts_after (option_to_list o) c.args.counts.now) (sym c.in_default.is) (sym (counts_after-none c.args.counts.now))
