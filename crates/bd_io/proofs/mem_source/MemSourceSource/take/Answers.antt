use Rattle.std.proofs.Common.{◌≡◌, ◌+◌, ◌++◌, length, take, drop, arith, ap, sym, subst, ◌∙◌}
use Rattle.std.proofs.lemmas.Grind.{common_steps}
use Rattle.bd_io.specs.Memory.{MemorySource, takes_of}
use Rattle.bd_io.specs.Plan.{PlannedCalls}
use Rattle.bd_io.specs.Takes.{takes_after}
use Rattle.bd_io.specs.contracts.mem_source.MemSource.{the_view}
use Rattle.bd_io.proofs.Taken.{taken_and_left, last_taken, takes_after-given}
use Rattle.bd_io.proofs.mem_source.MemSourceSource.take.Goals as goal

pub returns-clause-bytes : goal.returns-clause-bytes
returns-clause-bytes c =
    sym (ap (λ (s : MemorySource). s.left) c.self.view_is)
    ∙ taken_and_left c.self.inside.bytes.items c.args.into.now c.copy_from_slice.new.self c.self.inside.at c.min-count.result
    (grind (arith, common_steps)) (grind (arith, common_steps))

pub returns-clause-told : goal.returns-clause-told
returns-clause-told c =
    let i = c.self.inside in
    let n = c.min-count.result in
    let copied = c.copy_from_slice.new.self in
    let given = take n (copied ++ drop n c.args.into.now) in
    let whole : copied ≡ take n (drop i.at i.bytes.items) = grind (arith, common_steps) in
    let len : length copied ≡ n = grind (arith, common_steps) in
    subst (λ (m : MemorySource). takes_of (the_view (record i { at = i.at + n; plan = c.call.new.self; last = n; idle = c.idle_takes-self-inside-2.result })) ≡ takes_after given (takes_of m)) c.self.view_is
    (takes_after-given i.plan.calls c.call.new.self.calls i.idle _ n given _ (ap (λ (p : PlannedCalls). p.calls) c.call.ensures.after) (grind (arith, common_steps)) c.idle_takes-self-inside-2.ensures
    (last_taken i.bytes.items c.args.into.now copied i.at n whole len))
