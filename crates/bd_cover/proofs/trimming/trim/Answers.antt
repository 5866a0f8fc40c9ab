use Rattle.std.proofs.Common.{sym, subst}
use Rattle.bd_node.specs.Steps.{IsStep}
use Rattle.bd_node.specs.Tables.{Table}
use Rattle.bd_path.specs.Made.{AreKnown}
use Rattle.bd_cover.proofs.Looks.{still_sound}
use Rattle.bd_cover.proofs.Trims.{to_trim, may_trim, trimming, trim_in_place, on_trim, on_trim_reclaimed, on_trimmed, on_trim_falls, on_trim_next, on_trim_no_higher, trim_worn, in_place_again, committed_again, after_again, on_reads}
use Rattle.bd_cover.proofs.trimming.trim.Goals as goal

pub commit-requires-clause-step : goal.commit-requires-clause-step
commit-requires-clause-step g c = subst (λ (u : Table). IsStep u c.in_ok-step.step) (sym c.in_ok-step.ensures.left.table) (may_trim (AreKnown g.S.NodeStore c.args.store.now) (g.S.NodeStore.nodes c.args.store.now) (g.S.NodeStore.table c.args.store.now) c.args.node.now c.args.place c.in_ok-step.step (to_trim (AreKnown g.S.NodeStore c.args.store.now) (g.S.NodeStore.nodes c.args.store.now) (g.S.NodeStore.table c.args.store.now) c.args.node.now c.args.place c.in_ok-step.step c.in_ok-step.ensures.table c.requires.fetched c.in_ok-step.ensures.step c.in_ok-step.ensures.bytes))

pub commit-requires-clause-in_place : goal.commit-requires-clause-in_place
commit-requires-clause-in_place g c = λ after sound_after.
    let known = g.met.S.NodeStore.reads_known c.args.store.now c.trim_step.new.store c.in_ok-step.ensures.left.read after in
    let sound = still_sound (g.S.NodeStore.nodes c.trim_step.new.store) (g.S.NodeStore.nodes c.args.store.now) (g.S.NodeStore.table c.trim_step.new.store) (g.S.NodeStore.table c.args.store.now) (sym (c.in_ok-step.ensures.left.kept known)) (sym c.in_ok-step.ensures.left.table) sound_after in
    in_place_again (g.S.NodeStore.nodes c.args.store.now) (g.S.NodeStore.nodes c.trim_step.new.store) (g.S.NodeStore.table c.args.store.now) (g.S.NodeStore.table c.trim_step.new.store) c.in_ok-step.step (c.in_ok-step.ensures.left.kept known) c.in_ok-step.ensures.left.table
    (trim_in_place (AreKnown g.S.NodeStore c.args.store.now) (g.S.NodeStore.nodes c.args.store.now) (g.S.NodeStore.table c.args.store.now) c.args.node.now c.args.place c.in_ok-step.step (trimming (AreKnown g.S.NodeStore c.args.store.now) (g.S.NodeStore.nodes c.args.store.now) (g.S.NodeStore.table c.args.store.now) c.args.node.now c.args.place c.in_ok-step.step (to_trim (AreKnown g.S.NodeStore c.args.store.now) (g.S.NodeStore.nodes c.args.store.now) (g.S.NodeStore.table c.args.store.now) c.args.node.now c.args.place c.in_ok-step.step c.in_ok-step.ensures.table c.requires.fetched c.in_ok-step.ensures.step c.in_ok-step.ensures.bytes) (known, sound) sound (c.requires.own known sound) (c.requires.trim known sound)))

pub returns-clause-reclaimed : goal.returns-clause-reclaimed
returns-clause-reclaimed g c = λ known sound.
    on_trim_reclaimed (g.S.NodeStore.nodes c.args.store.now) (g.S.NodeStore.table c.args.store.now) c.args.node.now c.args.place (g.S.NodeStore.nodes c.commit.new.self) (g.S.NodeStore.table c.commit.new.self) c.commit.result (on_trim (AreKnown g.S.NodeStore c.args.store.now) (g.S.NodeStore.nodes c.args.store.now) (g.S.NodeStore.table c.args.store.now) c.args.node.now c.args.place c.in_ok-step.step (g.S.NodeStore.nodes c.commit.new.self) (g.S.NodeStore.table c.commit.new.self) c.commit.result (trimming (AreKnown g.S.NodeStore c.args.store.now) (g.S.NodeStore.nodes c.args.store.now) (g.S.NodeStore.table c.args.store.now) c.args.node.now c.args.place c.in_ok-step.step (to_trim (AreKnown g.S.NodeStore c.args.store.now) (g.S.NodeStore.nodes c.args.store.now) (g.S.NodeStore.table c.args.store.now) c.args.node.now c.args.place c.in_ok-step.step c.in_ok-step.ensures.table c.requires.fetched c.in_ok-step.ensures.step c.in_ok-step.ensures.bytes) (known, sound) sound (c.requires.own known sound) (c.requires.trim known sound)) (after_again (g.S.NodeStore.table c.args.store.now) (g.S.NodeStore.table c.trim_step.new.store) c.in_ok-step.step (g.S.NodeStore.table c.commit.new.self) c.commit.result c.in_ok-step.ensures.left.table c.commit.ensures.table) (committed_again (g.S.NodeStore.nodes c.args.store.now) (g.S.NodeStore.nodes c.trim_step.new.store) (g.S.NodeStore.table c.args.store.now) (g.S.NodeStore.table c.trim_step.new.store) c.in_ok-step.step (g.S.NodeStore.nodes c.commit.new.self) (g.S.NodeStore.table c.commit.new.self) c.commit.result (c.in_ok-step.ensures.left.kept known) c.in_ok-step.ensures.left.table (c.commit.ensures.committed (c.in_ok-step.ensures.left.known known) (still_sound (g.S.NodeStore.nodes c.args.store.now) (g.S.NodeStore.nodes c.trim_step.new.store) (g.S.NodeStore.table c.args.store.now) (g.S.NodeStore.table c.trim_step.new.store) (c.in_ok-step.ensures.left.kept known) c.in_ok-step.ensures.left.table sound))))

pub returns-clause-trimmed : goal.returns-clause-trimmed
returns-clause-trimmed g c = λ known sound.
    on_trimmed (g.S.NodeStore.nodes c.args.store.now) (g.S.NodeStore.table c.args.store.now) c.args.node.now c.args.place (g.S.NodeStore.nodes c.commit.new.self) (g.S.NodeStore.table c.commit.new.self) c.commit.result (on_trim (AreKnown g.S.NodeStore c.args.store.now) (g.S.NodeStore.nodes c.args.store.now) (g.S.NodeStore.table c.args.store.now) c.args.node.now c.args.place c.in_ok-step.step (g.S.NodeStore.nodes c.commit.new.self) (g.S.NodeStore.table c.commit.new.self) c.commit.result (trimming (AreKnown g.S.NodeStore c.args.store.now) (g.S.NodeStore.nodes c.args.store.now) (g.S.NodeStore.table c.args.store.now) c.args.node.now c.args.place c.in_ok-step.step (to_trim (AreKnown g.S.NodeStore c.args.store.now) (g.S.NodeStore.nodes c.args.store.now) (g.S.NodeStore.table c.args.store.now) c.args.node.now c.args.place c.in_ok-step.step c.in_ok-step.ensures.table c.requires.fetched c.in_ok-step.ensures.step c.in_ok-step.ensures.bytes) (known, sound) sound (c.requires.own known sound) (c.requires.trim known sound)) (after_again (g.S.NodeStore.table c.args.store.now) (g.S.NodeStore.table c.trim_step.new.store) c.in_ok-step.step (g.S.NodeStore.table c.commit.new.self) c.commit.result c.in_ok-step.ensures.left.table c.commit.ensures.table) (committed_again (g.S.NodeStore.nodes c.args.store.now) (g.S.NodeStore.nodes c.trim_step.new.store) (g.S.NodeStore.table c.args.store.now) (g.S.NodeStore.table c.trim_step.new.store) c.in_ok-step.step (g.S.NodeStore.nodes c.commit.new.self) (g.S.NodeStore.table c.commit.new.self) c.commit.result (c.in_ok-step.ensures.left.kept known) c.in_ok-step.ensures.left.table (c.commit.ensures.committed (c.in_ok-step.ensures.left.known known) (still_sound (g.S.NodeStore.nodes c.args.store.now) (g.S.NodeStore.nodes c.trim_step.new.store) (g.S.NodeStore.table c.args.store.now) (g.S.NodeStore.table c.trim_step.new.store) (c.in_ok-step.ensures.left.kept known) c.in_ok-step.ensures.left.table sound))))

pub returns-clause-falls : goal.returns-clause-falls
returns-clause-falls g c = λ known sound.
    on_trim_falls (g.S.NodeStore.nodes c.args.store.now) (g.S.NodeStore.table c.args.store.now) c.args.node.now c.args.place (g.S.NodeStore.nodes c.commit.new.self) (g.S.NodeStore.table c.commit.new.self) c.commit.result (on_trim (AreKnown g.S.NodeStore c.args.store.now) (g.S.NodeStore.nodes c.args.store.now) (g.S.NodeStore.table c.args.store.now) c.args.node.now c.args.place c.in_ok-step.step (g.S.NodeStore.nodes c.commit.new.self) (g.S.NodeStore.table c.commit.new.self) c.commit.result (trimming (AreKnown g.S.NodeStore c.args.store.now) (g.S.NodeStore.nodes c.args.store.now) (g.S.NodeStore.table c.args.store.now) c.args.node.now c.args.place c.in_ok-step.step (to_trim (AreKnown g.S.NodeStore c.args.store.now) (g.S.NodeStore.nodes c.args.store.now) (g.S.NodeStore.table c.args.store.now) c.args.node.now c.args.place c.in_ok-step.step c.in_ok-step.ensures.table c.requires.fetched c.in_ok-step.ensures.step c.in_ok-step.ensures.bytes) (known, sound) sound (c.requires.own known sound) (c.requires.trim known sound)) (after_again (g.S.NodeStore.table c.args.store.now) (g.S.NodeStore.table c.trim_step.new.store) c.in_ok-step.step (g.S.NodeStore.table c.commit.new.self) c.commit.result c.in_ok-step.ensures.left.table c.commit.ensures.table) (committed_again (g.S.NodeStore.nodes c.args.store.now) (g.S.NodeStore.nodes c.trim_step.new.store) (g.S.NodeStore.table c.args.store.now) (g.S.NodeStore.table c.trim_step.new.store) c.in_ok-step.step (g.S.NodeStore.nodes c.commit.new.self) (g.S.NodeStore.table c.commit.new.self) c.commit.result (c.in_ok-step.ensures.left.kept known) c.in_ok-step.ensures.left.table (c.commit.ensures.committed (c.in_ok-step.ensures.left.known known) (still_sound (g.S.NodeStore.nodes c.args.store.now) (g.S.NodeStore.nodes c.trim_step.new.store) (g.S.NodeStore.table c.args.store.now) (g.S.NodeStore.table c.trim_step.new.store) (c.in_ok-step.ensures.left.kept known) c.in_ok-step.ensures.left.table sound))))

pub returns-clause-next : goal.returns-clause-next
returns-clause-next g c =
    on_trim_next (AreKnown g.S.NodeStore c.args.store.now) (g.S.NodeStore.nodes c.args.store.now) (g.S.NodeStore.table c.args.store.now) c.args.node.now c.args.place c.in_ok-step.step (g.S.NodeStore.table c.commit.new.self) c.commit.result (to_trim (AreKnown g.S.NodeStore c.args.store.now) (g.S.NodeStore.nodes c.args.store.now) (g.S.NodeStore.table c.args.store.now) c.args.node.now c.args.place c.in_ok-step.step c.in_ok-step.ensures.table c.requires.fetched c.in_ok-step.ensures.step c.in_ok-step.ensures.bytes) (after_again (g.S.NodeStore.table c.args.store.now) (g.S.NodeStore.table c.trim_step.new.store) c.in_ok-step.step (g.S.NodeStore.table c.commit.new.self) c.commit.result c.in_ok-step.ensures.left.table c.commit.ensures.table)

pub returns-clause-root : goal.returns-clause-root
returns-clause-root g c =
    on_trim_no_higher (AreKnown g.S.NodeStore c.args.store.now) (g.S.NodeStore.nodes c.args.store.now) (g.S.NodeStore.table c.args.store.now) c.args.node.now c.args.place c.in_ok-step.step (g.S.NodeStore.table c.commit.new.self) c.commit.result (to_trim (AreKnown g.S.NodeStore c.args.store.now) (g.S.NodeStore.nodes c.args.store.now) (g.S.NodeStore.table c.args.store.now) c.args.node.now c.args.place c.in_ok-step.step c.in_ok-step.ensures.table c.requires.fetched c.in_ok-step.ensures.step c.in_ok-step.ensures.bytes) (after_again (g.S.NodeStore.table c.args.store.now) (g.S.NodeStore.table c.trim_step.new.store) c.in_ok-step.step (g.S.NodeStore.table c.commit.new.self) c.commit.result c.in_ok-step.ensures.left.table c.commit.ensures.table)

pub returns-clause-cause : goal.returns-clause-cause
returns-clause-cause g c =
    trim_worn (AreKnown g.S.NodeStore c.args.store.now) (g.S.NodeStore.fault_count c.args.store.now) (g.S.NodeStore.fault_count c.trim_step.new.store) (g.S.NodeStore.fault_count c.commit.new.self) (g.S.NodeStore.last_failed c.commit.new.self) (g.S.NodeStore.bad c.commit.new.self) (g.S.NodeStore.nodes c.args.store.now) (g.S.NodeStore.table c.args.store.now) (g.S.NodeStore.table c.trim_step.new.store) c.args.node.now c.args.place c.in_ok-step.step c.commit.result c.in_ok-step.ensures.cause.kept c.in_ok-step.ensures.left.table c.in_ok-step.ensures.step c.commit.ensures.cause

pub returns-clause-err : goal.returns-clause-err
returns-clause-err g c = on_reads g.S.NodeStore c.args.store.now c.trim_step.new.store c.commit.new.self c.commit.result (g.met.S.NodeStore.reads_both c.args.store.now c.trim_step.new.store c.commit.new.self) c.in_ok-step.ensures.left c.commit.ensures.err
