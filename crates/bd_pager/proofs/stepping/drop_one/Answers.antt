use Rattle.std.proofs.Common.{sym}
use Rattle.bd_pager.specs.Places.{spots_in}
use Rattle.bd_pager.proofs.TallyLemmas.{gone_held}
use Rattle.bd_pager.proofs.stepping.drop_one.Goals as goal

pub uncount-requires-clause-held : goal.uncount-requires-clause-held
uncount-requires-clause-held c =
    gone_held c.args.usage.now.spare c.args.usage.now.free (spots_in c.args.spots.now) c.args.id c.in-Some.spot c.requires (sym c.in-Some.ensures.value)
