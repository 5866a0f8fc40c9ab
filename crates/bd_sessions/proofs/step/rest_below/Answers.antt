use Rattle.std.proofs.lemmas.Slice.Eq.{bytes_eq-Decides}
use Rattle.bd_sessions.proofs.FollowingLemmas.{rest_below-stripped}
use Rattle.bd_sessions.proofs.step.rest_below.Goals as goal

pub returns : goal.returns
returns c = rest_below-stripped bytes_eq-Decides c.args.path.now c.args.of.now c.strip_prefix.result c.strip_prefix.ensures.cases
