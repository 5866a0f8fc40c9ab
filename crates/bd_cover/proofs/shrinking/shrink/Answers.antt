use Rattle.bd_cover.proofs.Shrinks.{may_shrink, shrunk, shrink_cause}
use Rattle.bd_cover.proofs.shrinking.shrink.Goals as goal

pub fetch-requires : goal.fetch-requires
fetch-requires g c = c.requires.lower.kept

pub commit-requires-clause-in_place : goal.commit-requires-clause-in_place
commit-requires-clause-in_place g c = λ known sound.
    let was = g.met.S.NodeStore.reads_known c.args.store.now c.fetch.new.store c.fetch.ensures.left.read known in
    may_shrink (g.S.NodeStore.nodes c.args.store.now) (g.S.NodeStore.nodes c.fetch.new.store) (g.S.NodeStore.table c.args.store.now) (g.S.NodeStore.table c.fetch.new.store) c.args.child c.root_only.result
    (record { nodes_are = c.fetch.ensures.left.kept was; table_is = c.fetch.ensures.left.table; step_is = c.root_only.ensures }) sound

pub returns-clause-reclaimed : goal.returns-clause-reclaimed
returns-clause-reclaimed g c = λ known sound.
    (shrunk (g.S.NodeStore.nodes c.args.store.now) (g.S.NodeStore.nodes c.fetch.new.store) (g.S.NodeStore.table c.args.store.now) (g.S.NodeStore.table c.fetch.new.store) c.args.child c.root_only.result (g.S.NodeStore.nodes c.commit.new.self) (g.S.NodeStore.table c.commit.new.self) c.commit.result
    (record { nodes_are = c.fetch.ensures.left.kept known; table_is = c.fetch.ensures.left.table; step_is = c.root_only.ensures }) sound c.requires.lower (c.requires.thin known sound) c.commit.ensures.table (c.commit.ensures.committed (c.fetch.ensures.left.known known))).0

pub returns-clause-shrunk : goal.returns-clause-shrunk
returns-clause-shrunk g c = λ known sound.
    (shrunk (g.S.NodeStore.nodes c.args.store.now) (g.S.NodeStore.nodes c.fetch.new.store) (g.S.NodeStore.table c.args.store.now) (g.S.NodeStore.table c.fetch.new.store) c.args.child c.root_only.result (g.S.NodeStore.nodes c.commit.new.self) (g.S.NodeStore.table c.commit.new.self) c.commit.result
    (record { nodes_are = c.fetch.ensures.left.kept known; table_is = c.fetch.ensures.left.table; step_is = c.root_only.ensures }) sound c.requires.lower (c.requires.thin known sound) c.commit.ensures.table (c.commit.ensures.committed (c.fetch.ensures.left.known known))).1

pub returns-clause-falls : goal.returns-clause-falls
returns-clause-falls g c = λ known sound.
    (shrunk (g.S.NodeStore.nodes c.args.store.now) (g.S.NodeStore.nodes c.fetch.new.store) (g.S.NodeStore.table c.args.store.now) (g.S.NodeStore.table c.fetch.new.store) c.args.child c.root_only.result (g.S.NodeStore.nodes c.commit.new.self) (g.S.NodeStore.table c.commit.new.self) c.commit.result
    (record { nodes_are = c.fetch.ensures.left.kept known; table_is = c.fetch.ensures.left.table; step_is = c.root_only.ensures }) sound c.requires.lower (c.requires.thin known sound) c.commit.ensures.table (c.commit.ensures.committed (c.fetch.ensures.left.known known))).2

pub returns-clause-cause : goal.returns-clause-cause
returns-clause-cause g c =
    shrink_cause (g.S.NodeStore.fault_count c.args.store.now) (g.S.NodeStore.fault_count c.fetch.new.store) (g.S.NodeStore.fault_count c.commit.new.self) (g.S.NodeStore.last_failed c.commit.new.self) (g.S.NodeStore.bad c.commit.new.self) (g.S.NodeStore.table c.args.store.now) (g.S.NodeStore.table c.fetch.new.store) c.args.child c.root_only.result c.commit.result c.in_ok-fetch.ensures.cause.kept c.fetch.ensures.left.table c.root_only.ensures c.commit.ensures.cause
