-- Planning a command only reads, and what is planned is then carried out.
use Rattle.std.proofs.Common.{◌≡◌, ◌+◌, ℕ, false, sym, ap, subst}
use Rattle.std.specs.Prelude.{IfOk, IfErr}
use Rattle.std.proofs.lemmas.Result.{err_from_is_err_and}
use Rattle.bd_device.proofs.Images.{OnErr-always}
use Rattle.bd_command.specs.Command.{writes, accepted}
use Rattle.bd_node.specs.Tables.{root_at}
use Rattle.bd_represent.specs.Represents.{Represents}
use Rattle.bd_dirs.specs.Plans.{IsPlan}
use Rattle.bd_view.specs.Views.{View}
use Rattle.bd_view.specs.Moves.{IsAccepted}
use Rattle.bd_engine.specs.Engines.{EngineState, keys_of}
use Rattle.bd_volume.specs.declared.volume.Volume.{Volume}
use Rattle.bd_volume.specs.Steps.{ShowsFault}
use Rattle.bd_volume.specs.Volume.{view_of}
use Rattle.bd_volume.proofs.Executed.{reads_stand, takes_stand, takes_reply, takes_time, fails_stand, executes_for, refused_for, accepting_for, begun_refused, begun_accepted}
use Rattle.bd_volume.proofs.Faulted.{shows_same}
use Rattle.bd_volume.proofs.Keeping.{keeps_read}
use Rattle.bd_volume.proofs.Safe.{reads_by}
use Rattle.bd_volume.proofs.Stepped.{not_stepped}
use Rattle.bd_volume.proofs.volume.Volume.execute.Goals as goal

pub returns-then-not-writes-clause-step : goal.returns-then-not-writes-clause-step
returns-then-not-writes-clause-step g c =
    let reads : writes c.args.command.now ≡ false = cc in
    reads_stand g.D.Device c.answer.result c.args.self.now c.answer.new.self c.args.command.now reads
    (keeps_read g.D.Device c.args.self.now c.answer.new.self (g.met.D.Device.since_earlier c.answer.new.self.engine.pager.dev) c.answer.ensures.read c.answer.ensures.count_stays)

pub returns-then-not-writes-clause-begun : goal.returns-then-not-writes-clause-begun
returns-then-not-writes-clause-begun g c = λ s.
    OnErr-always c.answer.result (not_stepped c.args.command.now (view_of g.D.Device c.args.self.now) (view_of g.D.Device c.answer.new.self) c.answer.ensures.read.view)

pub returns-in_err-plan-clause-begun : goal.returns-in_err-plan-clause-begun
returns-in_err-plan-clause-begun g c = λ s.
    let p = err_from_is_err_and c.from_residual.result c.from_residual.ensures.1 in
    rw p.1 (not_stepped c.args.command.now (view_of g.D.Device c.args.self.now) (view_of g.D.Device c.plan.new.self) c.in_err-plan.ensures.read.view)

pub returns-clause-step : goal.returns-clause-step
returns-clause-step g c =
    let a : Volume g.row.D.Denot = c.args.self.now in
    let read = c.in_ok-plan.ensures.read in
    let keeps = keeps_read g.D.Device a c.plan.new.self (g.met.D.Device.since_earlier c.plan.new.self.engine.pager.dev) read c.in_ok-plan.ensures.count_stays in
    takes_stand g.D.Device c.carry_out.result a c.plan.new.self c.carry_out.new.self c.args.command.now c.requires.limits
    (λ t n s. c.carry_out.ensures.step (read.sound s.nodes) t
    (subst (λ (v : View). Represents (root_at v.tree.nodes v.tree.table) t) (sym read.view) s.represents)
    (subst (λ (v : View). IsPlan (root_at v.tree.nodes v.tree.table) t c.args.command.now c.in_ok-plan.plan) (sym read.view) (c.in_ok-plan.ensures.plan t n s)))
    (λ s. c.carry_out.ensures.sound (read.sound s))
    (λ t n s. c.carry_out.ensures.safe t n (keeps t n s).stands
    (subst (λ (v : View). IsPlan (root_at v.tree.nodes v.tree.table) t c.args.command.now c.in_ok-plan.plan) (sym read.view) (c.in_ok-plan.ensures.plan t n s)))
    (subst (λ (n : ℕ). IfOk c.carry_out.result (λ reply. c.carry_out.new.self.count ≡ n + accepted c.args.command.now reply)) c.in_ok-plan.ensures.count_stays c.carry_out.ensures.counts)

pub returns-clause-replies : goal.returns-clause-replies
returns-clause-replies g c =
    let a : Volume g.row.D.Denot = c.args.self.now in
    let read = c.in_ok-plan.ensures.read in
    takes_reply g.D.Device c.carry_out.result a (keys_of g.D.Device c.carry_out.new.self.engine.pager) c.args.command.now
    (λ t n s. c.carry_out.ensures.step (read.sound s.nodes) t
    (subst (λ (v : View). Represents (root_at v.tree.nodes v.tree.table) t) (sym read.view) s.represents)
    (subst (λ (v : View). IsPlan (root_at v.tree.nodes v.tree.table) t c.args.command.now c.in_ok-plan.plan) (sym read.view) (c.in_ok-plan.ensures.plan t n s)))

pub returns-clause-stays : goal.returns-clause-stays
returns-clause-stays g c =
    let a : Volume g.row.D.Denot = c.args.self.now in
    let read = c.in_ok-plan.ensures.read in
    let keeps = keeps_read g.D.Device a c.plan.new.self (g.met.D.Device.since_earlier c.plan.new.self.engine.pager.dev) read c.in_ok-plan.ensures.count_stays in
    fails_stand g.D.Device c.carry_out.result a c.plan.new.self c.carry_out.new.self keeps c.carry_out.ensures.keeps

pub returns-clause-time : goal.returns-clause-time
returns-clause-time g c =
    let a : Volume g.row.D.Denot = c.args.self.now in
    let read = c.in_ok-plan.ensures.read in
    let keeps = keeps_read g.D.Device a c.plan.new.self (g.met.D.Device.since_earlier c.plan.new.self.engine.pager.dev) read c.in_ok-plan.ensures.count_stays in
    takes_time g.D.Device c.carry_out.result a c.plan.new.self c.carry_out.new.self c.args.command.now (g.met.D.Device.since_earlier c.plan.new.self.engine.pager.dev) keeps
    (λ t n s. c.carry_out.ensures.safe t n (keeps t n s).stands
    (subst (λ (v : View). IsPlan (root_at v.tree.nodes v.tree.table) t c.args.command.now c.in_ok-plan.plan) (sym read.view) (c.in_ok-plan.ensures.plan t n s)))
    c.carry_out.ensures.keeps

pub returns-then-not-writes-clause-time : goal.returns-then-not-writes-clause-time
returns-then-not-writes-clause-time g c = λ t n s. reads_by g.D.Device c.args.self.now c.answer.new.self t n c.answer.ensures.read.read.device

pub returns-then-not-writes-clause-stays : goal.returns-then-not-writes-clause-stays
returns-then-not-writes-clause-stays g c =
    OnErr-always c.answer.result (λ t n s. (keeps_read g.D.Device c.args.self.now c.answer.new.self (g.met.D.Device.since_earlier c.answer.new.self.engine.pager.dev) c.answer.ensures.read c.answer.ensures.count_stays t n s).stands)

pub returns-in_err-plan-clause-time : goal.returns-in_err-plan-clause-time
returns-in_err-plan-clause-time g c = λ t n s. reads_by g.D.Device c.args.self.now c.plan.new.self t n c.in_err-plan.ensures.read.read.device

pub returns-in_err-plan-clause-stays : goal.returns-in_err-plan-clause-stays
returns-in_err-plan-clause-stays g c =
    let p = err_from_is_err_and c.from_residual.result c.from_residual.ensures.1 in
    let h = c.in_err-plan.ensures in
    rw p.1 (λ t n s. (keeps_read g.D.Device c.args.self.now c.plan.new.self (g.met.D.Device.since_earlier c.plan.new.self.engine.pager.dev) h.read h.count_stays t n s).stands)

pub returns-clause-moved : goal.returns-clause-moved
returns-clause-moved g c =
    let a : Volume g.row.D.Denot = c.args.self.now in
    let read = c.in_ok-plan.ensures.read in
    let new = view_of g.D.Device c.carry_out.new.self in
    executes_for g.D.Device c.carry_out.result a c.args.command.now (view_of g.D.Device a) new
    (λ t n s. subst (λ (v : View). IfOk c.carry_out.result (λ reply. accepted c.args.command.now reply ≡ 1 → IsAccepted t c.args.command.now v new)) read.view
    (c.carry_out.ensures.moved (read.sound s.nodes) t
    (subst (λ (v : View). IsPlan (root_at v.tree.nodes v.tree.table) t c.args.command.now c.in_ok-plan.plan) (sym read.view) (c.in_ok-plan.ensures.plan t n s))))

pub returns-clause-refused : goal.returns-clause-refused
returns-clause-refused g c =
    let a : Volume g.row.D.Denot = c.args.self.now in
    let Same = view_of g.D.Device c.carry_out.new.self ≡ view_of g.D.Device a in
    refused_for g.D.Device Same c.carry_out.result a c.args.command.now
    (λ t n s some. begun_refused Same c.carry_out.result (keys_of g.D.Device a.engine.pager) t c.args.command.now c.in_ok-plan.plan c.carry_out.ensures.accepting (c.in_ok-plan.ensures.plan t n s) some)

pub returns-clause-accepting : goal.returns-clause-accepting
returns-clause-accepting g c =
    let a : Volume g.row.D.Denot = c.args.self.now in
    accepting_for g.D.Device c.carry_out.result a c.args.command.now
    (λ t n s. begun_accepted c.carry_out.result (keys_of g.D.Device a.engine.pager) t c.args.command.now c.in_ok-plan.plan c.carry_out.ensures.accepting (c.in_ok-plan.ensures.plan t n s))

pub returns-clause-shows : goal.returns-clause-shows
returns-clause-shows g c =
    let read = c.in_ok-plan.ensures.read in
    let shown = subst (λ (n : ℕ). IfErr c.carry_out.result (λ fault. ShowsFault g.D.Device fault n c.plan.new.self.engine.flushes c.args.command.now c.carry_out.new.self.engine)) c.in_ok-plan.ensures.count_stays c.carry_out.ensures.shows in
    shows_same g.D.Device c.carry_out.result c.args.self.now.count c.plan.new.self.engine.flushes c.args.self.now.engine.flushes c.args.command.now c.carry_out.new.self.engine (ap (λ (e : EngineState g.row.D.Denot). e.flushes) read.rest) shown
