use Rattle.bd_cover.proofs.Bared.{asked_nothing}
use Rattle.bd_cover.proofs.laws.nothing_stands_at_each_key.Goals as goal

pub returns : goal.returns
returns c = λ nodes t depth ask k sound nothing has. asked_nothing nodes t depth ask k sound nothing has
