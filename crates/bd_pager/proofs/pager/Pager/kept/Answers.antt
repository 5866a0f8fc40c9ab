use Rattle.std.proofs.Common.{◌≡◌, sym, subst, ◌∙◌}
use Rattle.bd_node.specs.Tables.{kept_count}
use Rattle.bd_pager.specs.Pagers.{Paged, table_of}
use Rattle.bd_pager.proofs.KeptLemmas.{kept_spots}
use Rattle.bd_pager.proofs.pager.Pager.kept.Goals as goal

pub returns-clause-value : goal.returns-clause-value
returns-clause-value g c =
    subst (λ (p : Paged g.row.D.Denot). c.len.result ≡ kept_count (table_of p)) c.self.view_is
    (c.len.ensures.len ∙ sym (kept_spots (g.D.Device.contents c.self.inside.reader.dev) _ c.self.invariant.0 c.len.ensures.unique))
