use Rattle.std.proofs.Common.{◌∙◌}
use Rattle.bd_leaf.proofs.Clips.{clipped_to}
use Rattle.bd_leaf.proofs.receiving.clip.Goals as goal

pub returns : goal.returns
returns c =
    clipped_to c.args.entries.now c.from_vec.result c.args.prefix.now c.start_of-start.result c.end_of-end.result c.requires c.start_of-start.ensures c.end_of-end.ensures (c.from_vec.ensures ∙ c.in_ok-new.ensures)
