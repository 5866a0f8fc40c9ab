use Rattle.std.proofs.Common.{rules, ℕ, Bool, List, ◌++◌, ◌∷◌, [], Ok, ap, subst, ◌∙◌}
use Rattle.std.specs.Bool.{MatchBool}
use Rattle.std.proofs.lemmas.Result.{err_from_is_err_and}
use Rattle.bd_message.specs.KeyMaps.{NeverWorn}
use Rattle.bd_message.proofs.Causes.{cause_after}
use Rattle.bd_node.specs.declared.node.Step.{Step}
use Rattle.bd_node.specs.Tables.{Table}
use Rattle.bd_counts.specs.Counting.{overlaid, IsRecount, IsOwing}
use Rattle.bd_counts.specs.Releasing.{IsLess}
use Rattle.bd_counts.specs.Reading.{IsAccounted}
use Rattle.bd_counts.specs.Frames.{IsBadFor, IsTooLow, IsAccount}
use Rattle.bd_counts.proofs.Accounts.{read_before, falls_before, sound_after, owing_after, owing_before, accounted_after, accounted_before}
use Rattle.bd_counts.proofs.Causes.{fault_wider}
use Rattle.bd_counts.proofs.Recounting.{fewer_counts}
use Rattle.bd_counts.proofs.new_counts.settled.Goals as goal

pub loop-id-smaller : goal.loop-id-smaller
loop-id-smaller g c =
    let t : Table = g.S.Counted.table c.args.source.now in
    let counts : ℕ → ℕ = overlaid t.count c.loop-id.recount.counts in
    let new : ℕ → ℕ = overlaid t.count c.take_back.new.recount.counts in
    let less : IsLess c.in-Some.id counts new =
    subst (λ (u : Table). IsLess c.in-Some.id (overlaid u.count c.loop-id.recount.counts) (overlaid u.count c.take_back.new.recount.counts)) c.loop-id.invariant.table
    (c.in_ok-take_back.ensures.less (search rules)) in
    fewer_counts t c.args.step.now c.in-Some.id counts new c.loop-id.recount.gone.items c.requires.table c.loop-id.invariant.counts less

pub take_back-requires-clause-account : goal.take_back-requires-clause-account
take_back-requires-clause-account g c = λ known_now.
    let C = g.S.Counted in
    let old = c.args.source.now in
    let now = c.loop-id.source in
    let inv = c.loop-id.invariant in
    let step = c.args.step.now in
    let known = g.met.S.Counted.reads_known old now inv.read known_now in
    let owed : List ℕ = c.pop.new.self.items ++ c.in-Some.id ∷ [] in
    accounted_after (C.nodes old) (C.nodes now) (C.table old) (C.table now) step (inv.nodes known) inv.table c.loop-id.recount.counts c.loop-id.recount.gone.items owed
    (subst (λ (l : List ℕ). IsAccounted (C.nodes old) (C.table old) step (overlaid (C.table old).count c.loop-id.recount.counts) c.loop-id.recount.gone.items l) c.in-Some.ensures.items (inv.account known))

pub returns-then-not-branch-clause-low : goal.returns-then-not-branch-clause-low
returns-then-not-branch-clause-low g c = λ known.
    let C = g.S.Counted in
    let old = c.args.source.now in
    let now = c.loop-id.source in
    let inv = c.loop-id.invariant in
    let step = c.args.step.now in
    let low : IsTooLow C now step =
    subst (λ (b : Bool). MatchBool b (IsAccount C now step c.take_back.new.recount.counts c.take_back.new.recount.gone.items c.take_back.new.owed.items) (IsTooLow C now step)) c.if-not-branch.true c.in_ok-take_back.ensures.account in
    falls_before (C.nodes old) (C.nodes now) (C.table old) (C.table now) step (inv.nodes known) inv.table (low (inv.known known))

pub returns-in_err-take_back-clause-cause : goal.returns-in_err-take_back-clause-cause
returns-in_err-take_back-clause-cause g c =
    let p = err_from_is_err_and c.from_residual.result c.from_residual.ensures.1 in
    let C = g.S.Counted in
    let old = c.args.source.now in
    let now = c.loop-id.source in
    let new = c.take_back.new.source in
    let inv = c.loop-id.invariant in
    let step = c.args.step.now in
    rw (p.1, p.2)
    (fault_wider (C.fault_count old) (C.fault_count new) (C.last_failed new) (IsBadFor C now step new) (IsBadFor C old step new) NeverWorn NeverWorn
    (λ b bad known. let h = bad (inv.known known) in (h.0, read_before (C.nodes old) (C.nodes now) (C.table old) (C.table now) step (inv.nodes known) inv.table h.0 h.1, h.2))
    (λ k worn. worn) c.in_err-take_back.field-0.0
    (cause_after (C.fault_count old) (C.fault_count now) (C.fault_count new) (C.last_failed new) (IsBadFor C now step new) NeverWorn _ inv.faults c.in_err-take_back.ensures.cause))

pub loop-id-preserved : goal.loop-id-preserved
loop-id-preserved g c =
    let C = g.S.Counted in
    let old = c.args.source.now in
    let now = c.loop-id.source in
    let new = c.take_back.new.source in
    let inv = c.loop-id.invariant in
    let step : Step = c.args.step.now in
    let made = c.take_back.new.recount in
    let left : List ℕ = c.take_back.new.owed.items in
    let back = c.in_ok-take_back.ensures in
    record {
      table = back.left.table ∙ inv.table;
      known = λ k. back.left.known (inv.known k);
      nodes = λ k. back.left.kept (inv.known k) ∙ inv.nodes k;
      read = g.met.S.Counted.reads_both old now new inv.read back.left.read;
      loans = back.left.same_loans ∙ inv.loans;
      visits = back.visits ∙ inv.visits;
      faults = back.cause.kept ∙ inv.faults;
      counts = subst (λ (t : Table). IsRecount t step (overlaid t.count made.counts) made.gone.items) inv.table (back.counts (ap Ok c.if-not-branch.false));
      owing = λ known sound.
          let owing = subst (λ (l : List ℕ). IsOwing (C.nodes old) (C.table old) step (overlaid (C.table old).count c.loop-id.recount.counts) l) c.in-Some.ensures.items (inv.owing known sound) in
          owing_before (C.nodes old) (C.nodes now) (C.table old) (C.table now) step (inv.nodes known) inv.table made.counts left
          (back.owing (inv.known known) (sound_after (C.nodes old) (C.nodes now) (C.table old) (C.table now) step (inv.nodes known) inv.table sound)
          (owing_after (C.nodes old) (C.nodes now) (C.table old) (C.table now) step (inv.nodes known) inv.table c.loop-id.recount.counts (c.pop.new.self.items ++ c.in-Some.id ∷ []) owing)).1;
      account = λ known.
          let account : IsAccount C now step made.counts made.gone.items left =
          subst (λ (b : Bool). MatchBool b (IsAccount C now step made.counts made.gone.items left) (IsTooLow C now step)) c.if-not-branch.false back.account in
          accounted_before (C.nodes old) (C.nodes now) (C.table old) (C.table now) step (inv.nodes known) inv.table made.counts made.gone.items left (account (inv.known known));
    }
