use Rattle.std.proofs.Common.{arith}
use Rattle.std.proofs.lemmas.Result.{err_from_is_err_and}
use Rattle.bd_path.specs.Made.{AreKnown}
use Rattle.bd_step.proofs.Making.{is_waited, here_again, way_again, is_flush_step, still_known, flush_cause}
use Rattle.bd_step.proofs.steps.flush_step.Goals as goal

pub make-requires-clause-waited : goal.make-requires-clause-waited
make-requires-clause-waited g c =
    is_waited (g.S.NodeStore.table c.args.store.now) c.in_ok-step.step (omega (arith, c.root_size.ensures)) c.in_ok-step.ensures.to_do

pub make-requires-clause-here : goal.make-requires-clause-here
make-requires-clause-here g c = λ known sound.
    let was = g.met.S.NodeStore.reads_known c.args.store.now c.next_step.new.store c.next_step.ensures.left.read known in
    here_again (g.S.NodeStore.nodes c.args.store.now) (g.S.NodeStore.nodes c.next_step.new.store) (g.S.NodeStore.table c.args.store.now) (g.S.NodeStore.table c.next_step.new.store) c.in_ok-step.step
    (c.next_step.ensures.left.kept was) c.next_step.ensures.left.table sound (c.in_ok-step.ensures.at was)

pub make-requires-clause-way_here : goal.make-requires-clause-way_here
make-requires-clause-way_here g c = λ known sound.
    let was = g.met.S.NodeStore.reads_known c.args.store.now c.next_step.new.store c.next_step.ensures.left.read known in
    way_again (g.S.NodeStore.nodes c.args.store.now) (g.S.NodeStore.nodes c.next_step.new.store) (g.S.NodeStore.table c.args.store.now) (g.S.NodeStore.table c.next_step.new.store) c.in_ok-step.step
    (c.next_step.ensures.left.kept was) c.next_step.ensures.left.table sound (c.in_ok-step.ensures.way_at was)

pub returns-clause-step : goal.returns-clause-step
returns-clause-step g c = λ known sound done.
    is_flush_step (g.S.NodeStore.nodes c.args.store.now) (g.S.NodeStore.nodes c.next_step.new.store) (g.S.NodeStore.table c.args.store.now) (g.S.NodeStore.table c.next_step.new.store) (g.S.NodeStore.nodes c.make.new.store) (g.S.NodeStore.table c.make.new.store) c.in_ok-step.step
    (record {
      nodes_are = c.next_step.ensures.left.kept known;
      table_is = c.next_step.ensures.left.table;
      sound = sound;
      to_do = c.in_ok-step.ensures.to_do;
      here = c.in_ok-step.ensures.at known sound;
      made = λ again. c.in_ok-make.ensures.made (c.next_step.ensures.left.known known) again;
      height = c.in_ok-make.ensures.height;
      flushed = λ again. c.in_ok-make.ensures.flushed (c.next_step.ensures.left.known known) again;
    })

pub returns-in_err-make-clause-cause : goal.returns-in_err-make-clause-cause
returns-in_err-make-clause-cause g c =
    let p = err_from_is_err_and c.from_residual-in_err-make.result c.from_residual-in_err-make.ensures.1 in
    rw (p.1, p.2)
    (flush_cause (g.S.NodeStore.fault_count c.args.store.now) (g.S.NodeStore.fault_count c.next_step.new.store) (g.S.NodeStore.fault_count c.make.new.store) (g.S.NodeStore.last_failed c.make.new.store) (g.S.NodeStore.bad c.make.new.store) (AreKnown g.S.NodeStore c.args.store.now) (AreKnown g.S.NodeStore c.next_step.new.store) (g.S.NodeStore.nodes c.args.store.now) (g.S.NodeStore.nodes c.next_step.new.store) (g.S.NodeStore.table c.args.store.now) (g.S.NodeStore.table c.next_step.new.store) c.in_ok-step.step c.in_err-make.field-0.0
    c.in_ok-step.ensures.cause.kept c.next_step.ensures.left.table
    (λ k. still_known (g.S.NodeStore.is_known c.next_step.new.store) (g.S.NodeStore.nodes c.args.store.now) (g.S.NodeStore.nodes c.next_step.new.store) (g.S.NodeStore.table c.args.store.now) (g.S.NodeStore.table c.next_step.new.store) (c.next_step.ensures.left.known k.0) (c.next_step.ensures.left.kept k.0) c.next_step.ensures.left.table k.1)
    c.in_ok-step.ensures.to_do c.in_ok-step.ensures.way (λ k. c.in_ok-step.ensures.at k.0 k.1) c.in_err-make.ensures.cause)
