-- What the tree has after a call that failed, and after a change of reclaiming.
use Rattle.std.proofs.Common.{ap, ◌∙◌, Result, Ok, Err}
use Rattle.std.specs.Prelude.{OnOk, OnErr}
use Rattle.bd_message.specs.KeyMaps.{SameAt}
use Rattle.bd_node.specs.declared.store.NodeStore.{Ghosts}
use Rattle.bd_node.specs.Frames.{OnlyReads}
use Rattle.bd_node.specs.Meaning.{Nodes}
use Rattle.bd_node.specs.Tables.{Table, root_at}
use Rattle.bd_cover.specs.Reclaimed.{IsReclaimed}

-- reads leave what the tree has
pub same_read : {S : Type 0} (g : Ghosts S) (old new : S) → g.is_known old → OnlyReads g old new → SameAt (root_at (g.nodes old) (g.table old)) (root_at (g.nodes new) (g.table new))
same_read g old new known left k =
    ap (λ (v : Table). root_at (g.nodes new) v k) left.table ∙ ap (λ (n : Nodes). root_at n (g.table old) k) (left.kept known)

-- and so does a call that failed
pub same_failed : {S T E : Type 0} (g : Ghosts S) (old new : S) (r : Result T E) → g.is_known old → OnErr r (OnlyReads g old new) → OnErr r (SameAt (root_at (g.nodes old) (g.table old)) (root_at (g.nodes new) (g.table new)))
same_failed g old new (Ok _) known left = tt
same_failed g old new (Err _) known left = same_read g old new known left

-- and a change of reclaiming, made or not
pub same_after : {S T E : Type 0} (g : Ghosts S) (old new : S) (r : Result T E) → g.is_known old → OnOk r (IsReclaimed (g.nodes old) (g.table old) (g.nodes new) (g.table new)) → OnErr r (OnlyReads g old new) → SameAt (root_at (g.nodes old) (g.table old)) (root_at (g.nodes new) (g.table new))
same_after g old new (Ok _) known done left = done.same
same_after g old new (Err _) known done left = same_read g old new known left
