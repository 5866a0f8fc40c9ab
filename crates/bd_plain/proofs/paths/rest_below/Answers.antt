use Rattle.std.proofs.lemmas.Slice.Eq.{bytes_eq-Decides, strip_prefix_is}
use Rattle.bd_plain.proofs.RestBelow.{rest_below-found}
use Rattle.bd_plain.proofs.paths.rest_below.Goals as goal

pub returns : goal.returns
returns c = rest_below-found c.args.of.now c.args.path.now c.strip_prefix.result (strip_prefix_is bytes_eq-Decides c.args.path.now c.args.of.now c.strip_prefix.result c.strip_prefix.ensures.cases)
