use Rattle.std.proofs.Common.{◌≡◌, sym, subst, ◌∙◌}
use Rattle.bd_node.specs.Tables.{kept_count}
use Rattle.bd_memnodes.specs.Seen.{Seen, table}
use Rattle.bd_memnodes.proofs.Keeping.{kept_in}
use Rattle.bd_memnodes.proofs.store.MemNodesNodeStore.kept.Goals as goal

pub returns : goal.returns
returns c =
    subst (λ (s : Seen). c.len.result ≡ kept_count (table s)) c.self.view_is
    (c.len.ensures.len ∙ sym (kept_in c.self.inside.kept c.len.ensures.unique c.self.invariant.sound))
