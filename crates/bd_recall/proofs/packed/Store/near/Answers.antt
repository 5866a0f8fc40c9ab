use Rattle.bd_recall.proofs.Packing.{put_both}
use Rattle.bd_recall.proofs.packed.Store.near.Goals as goal

pub returns-clause-bytes : goal.returns-clause-bytes
returns-clause-bytes c = rw (c.copy_from_slice.ensures.after, c.copy_from_slice-2.ensures.after) (put_both c.args.first c.args.front.now c.args.back.now _ _)
