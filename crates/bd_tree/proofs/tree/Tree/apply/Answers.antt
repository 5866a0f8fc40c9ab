use Rattle.std.proofs.Common.{rules, ◌≡◌}
use Rattle.bd_node.specs.Stores.{FitsRoot}
use Rattle.bd_tree.proofs.Applying.{applied, others, stays_sound, fits_again}
use Rattle.bd_tree.proofs.tree.Tree.apply.Goals as goal

pub returns-clause-applied : goal.returns-clause-applied
returns-clause-applied g c =
    let e : c.from_vec-list.result ≡ c.args.list.now = search rules in
    let fits : FitsRoot (g.S.NodeStore.table c.self.inside.store) c.from_vec-list.result = fits_again g.S.NodeStore.table e c.self.view_is c.requires in
    rw (← c.self.view_is, ← e) (λ known sound.
    applied (g.S.NodeStore.nodes c.self.inside.store) (g.S.NodeStore.table c.self.inside.store) c.from_vec-list.result (g.S.NodeStore.nodes c.append.new.self) (g.S.NodeStore.table c.append.new.self) c.append.result
    (record { sound = sound; fits = fits; committed = c.append.ensures.committed known sound; table = c.append.ensures.table }))

pub returns-clause-others : goal.returns-clause-others
returns-clause-others g c =
    let e : c.from_vec-list.result ≡ c.args.list.now = search rules in
    let fits : FitsRoot (g.S.NodeStore.table c.self.inside.store) c.from_vec-list.result = fits_again g.S.NodeStore.table e c.self.view_is c.requires in
    rw (← c.self.view_is) (λ known sound.
    others (g.S.NodeStore.nodes c.self.inside.store) (g.S.NodeStore.table c.self.inside.store) c.from_vec-list.result (g.S.NodeStore.nodes c.append.new.self) (g.S.NodeStore.table c.append.new.self) c.append.result
    (record { sound = sound; fits = fits; committed = c.append.ensures.committed known sound; table = c.append.ensures.table }))

pub returns-clause-sound : goal.returns-clause-sound
returns-clause-sound g c =
    let e : c.from_vec-list.result ≡ c.args.list.now = search rules in
    let fits : FitsRoot (g.S.NodeStore.table c.self.inside.store) c.from_vec-list.result = fits_again g.S.NodeStore.table e c.self.view_is c.requires in
    rw (← c.self.view_is) (λ known sound.
    stays_sound (g.S.NodeStore.nodes c.self.inside.store) (g.S.NodeStore.table c.self.inside.store) c.from_vec-list.result (g.S.NodeStore.nodes c.append.new.self) (g.S.NodeStore.table c.append.new.self) c.append.result
    (record { sound = sound; fits = fits; committed = c.append.ensures.committed known sound; table = c.append.ensures.table }))
