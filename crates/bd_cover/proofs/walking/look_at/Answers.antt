use Rattle.std.proofs.Common.{sym, ◌∙◌}
use Rattle.bd_cover.proofs.walking.look_at.Goals as goal
use Rattle.bd_cover.proofs.walking.look_at.Goals.{then-here-root+in_default, else-here-root}

pub returns : goal.returns
returns g c = c.look_at_edges.ensures (g.S.NodeStore.table c.args.store.now)
    (elim c.if-here-root.branch [
      | then-here-root+in_default w ↦ λ same child. w.in_default.ensures child
      | else-here-root w ↦ λ same child thin. absurd (w.if-here-root.false (same ∙ sym c.root.ensures.value))
    ])
