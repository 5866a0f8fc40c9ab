use Rattle.std.proofs.Common.{◌≡◌, ap, ◌∙◌, arith}
use Rattle.bd_node.specs.Tables.{kept_count}
use Rattle.bd_pager.specs.Pagers.{Paged, table_of}
use Rattle.bd_engine.specs.Engines.{EngineState}
use Rattle.bd_engine.specs.Reclaiming.{most_left}
use Rattle.bd_engine.proofs.Remaining.{left_low}
use Rattle.bd_engine.proofs.engine.Engine.most_left.Goals as goal

pub returns-clause-value : goal.returns-clause-value
returns-clause-value g c =
    let kept : c.kept-kept.result ≡ kept_count (table_of c.self.inside.tree.map.store) = c.kept-kept.ensures.value ∙ ap (λ (p : Paged g.row.D.Denot). kept_count (table_of p)) c.store.ensures in
    let same : most_left (table_of c.self.inside.tree.map.store) ≡ most_left (table_of c.args.self.now.pager) = ap (λ (e : EngineState g.row.D.Denot). most_left (table_of e.pager)) c.self.view_is in
    omega (arith, kept, same)

pub returns-clause-most : goal.returns-clause-most
returns-clause-most g c = λ s.
    let value : _ ≡ most_left (table_of c.args.self.now.pager) = returns-clause-value g c in
    omega (arith, value, left_low _ _ s.sound)
