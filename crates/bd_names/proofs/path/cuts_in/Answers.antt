use Rattle.std.proofs.Common.{◌∙◌, arith}
use Rattle.bd_names.proofs.CutsLemmas.{cuts_done}
use Rattle.bd_names.proofs.path.cuts_in.Goals as goal

pub returns : goal.returns
returns c = c.in_ok-push-2.ensures.ok ∙ cuts_done c.args.text.now c.loop-i.cuts.items c.loop-i.i (omega arith) (omega arith) c.loop-i.invariant
