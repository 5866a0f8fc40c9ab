use Rattle.bd_path.specs.Made.{AreKnown}
use Rattle.bd_step.proofs.Making.{still_known}
use Rattle.bd_step.proofs.Begins.{begun_on_ok, begun_on_made, begun_on_found, begun_cause, stands_again, way_again, sound_before}
use Rattle.bd_step.proofs.beginning.make_from.Goals as goal

pub make-requires-clause-here : goal.make-requires-clause-here
make-requires-clause-here g c = λ known sound.
    let was = g.met.S.NodeStore.reads_known c.args.store.now c.begin_step.new.store c.begin_step.ensures.left.read known in
    let before = sound_before (g.S.NodeStore.nodes c.args.store.now) (g.S.NodeStore.nodes c.begin_step.new.store) (g.S.NodeStore.table c.args.store.now) (g.S.NodeStore.table c.begin_step.new.store) (c.begin_step.ensures.left.kept was) c.begin_step.ensures.left.table sound in
    stands_again (g.S.NodeStore.nodes c.args.store.now) (g.S.NodeStore.nodes c.begin_step.new.store) (g.S.NodeStore.table c.args.store.now) (g.S.NodeStore.table c.begin_step.new.store) c.in_ok-step.step (c.begin_step.ensures.left.kept was) c.begin_step.ensures.left.table (c.in_ok-step.ensures.stands was (c.requires.own was before) (c.requires.all_own was before))

pub make-requires-clause-way_here : goal.make-requires-clause-way_here
make-requires-clause-way_here g c = λ known sound.
    let was = g.met.S.NodeStore.reads_known c.args.store.now c.begin_step.new.store c.begin_step.ensures.left.read known in
    let before = sound_before (g.S.NodeStore.nodes c.args.store.now) (g.S.NodeStore.nodes c.begin_step.new.store) (g.S.NodeStore.table c.args.store.now) (g.S.NodeStore.table c.begin_step.new.store) (c.begin_step.ensures.left.kept was) c.begin_step.ensures.left.table sound in
    way_again (g.S.NodeStore.nodes c.args.store.now) (g.S.NodeStore.nodes c.begin_step.new.store) (g.S.NodeStore.table c.args.store.now) (g.S.NodeStore.table c.begin_step.new.store) c.in_ok-step.step (c.begin_step.ensures.left.kept was) c.begin_step.ensures.left.table (c.in_ok-step.ensures.way_at was (c.requires.own was before) (c.requires.all_own was before))

pub returns-clause-flushed : goal.returns-clause-flushed
returns-clause-flushed g c = λ known sound.
    begun_on_ok (g.S.NodeStore.nodes c.args.store.now) (g.S.NodeStore.nodes c.begin_step.new.store) (g.S.NodeStore.table c.args.store.now) (g.S.NodeStore.table c.begin_step.new.store) (g.S.NodeStore.nodes c.make.new.store) (g.S.NodeStore.table c.make.new.store) c.make.result (c.begin_step.ensures.left.kept known) c.begin_step.ensures.left.table sound (c.make.ensures.flushed (c.begin_step.ensures.left.known known))

pub returns-clause-made : goal.returns-clause-made
returns-clause-made g c = λ known sound.
    begun_on_made (g.S.NodeStore.nodes c.args.store.now) (g.S.NodeStore.nodes c.begin_step.new.store) (g.S.NodeStore.table c.args.store.now) (g.S.NodeStore.table c.begin_step.new.store) (g.S.NodeStore.nodes c.make.new.store) (g.S.NodeStore.table c.make.new.store) c.args.above c.args.node c.args.place c.in_ok-step.step c.make.result
    (record {
      nodes_are = c.begin_step.ensures.left.kept known;
      table_is = c.begin_step.ensures.left.table;
      sound = sound;
      due = c.in_ok-step.ensures.due;
      begins = c.in_ok-step.ensures.begins;
      stands = c.in_ok-step.ensures.stands known (c.requires.own known sound) (c.requires.all_own known sound);
      reached = c.in_ok-step.ensures.reached known (c.requires.own known sound);
    }) (c.make.ensures.made (c.begin_step.ensures.left.known known)) c.make.ensures.height (c.make.ensures.flushed (c.begin_step.ensures.left.known known))

pub returns-clause-found : goal.returns-clause-found
returns-clause-found g c =
    begun_on_found (g.S.NodeStore.table c.args.store.now) (g.S.NodeStore.table c.begin_step.new.store) (g.S.NodeStore.table c.make.new.store) c.args.above c.args.node c.args.place c.in_ok-step.step c.make.result c.begin_step.ensures.left.table c.in_ok-step.ensures.begins c.in_ok-step.ensures.due c.make.ensures.height

pub returns-clause-cause : goal.returns-clause-cause
returns-clause-cause g c =
    begun_cause (g.S.NodeStore.fault_count c.args.store.now) (g.S.NodeStore.fault_count c.begin_step.new.store) (g.S.NodeStore.fault_count c.make.new.store) (g.S.NodeStore.last_failed c.make.new.store) (g.S.NodeStore.bad c.make.new.store) (AreKnown g.S.NodeStore c.args.store.now) (AreKnown g.S.NodeStore c.begin_step.new.store) (g.S.NodeStore.nodes c.args.store.now) (g.S.NodeStore.nodes c.begin_step.new.store) (g.S.NodeStore.table c.args.store.now) (g.S.NodeStore.table c.begin_step.new.store) c.args.above c.args.node c.args.place c.in_ok-step.step c.make.result
    c.in_ok-step.ensures.cause.kept c.begin_step.ensures.left.table
    (λ k. still_known (g.S.NodeStore.is_known c.begin_step.new.store) (g.S.NodeStore.nodes c.args.store.now) (g.S.NodeStore.nodes c.begin_step.new.store) (g.S.NodeStore.table c.args.store.now) (g.S.NodeStore.table c.begin_step.new.store) (c.begin_step.ensures.left.known k.0) (c.begin_step.ensures.left.kept k.0) c.begin_step.ensures.left.table k.1)
    c.in_ok-step.ensures.begins c.in_ok-step.ensures.due c.in_ok-step.ensures.way (λ k. c.in_ok-step.ensures.stands k.0 (c.requires.own k.0 k.1) (c.requires.all_own k.0 k.1)) (λ k. c.in_ok-step.ensures.reached k.0 (c.requires.own k.0 k.1)) c.make.ensures.cause
