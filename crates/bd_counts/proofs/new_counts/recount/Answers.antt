use Rattle.std.proofs.Common.{◌≡◌, ℕ, sym, subst, [], List}
use Rattle.std.proofs.lemmas.Result.{err_from_is_err_and}
use Rattle.bd_message.specs.KeyMaps.{NeverWorn}
use Rattle.bd_message.proofs.Causes.{cause_after}
use Rattle.bd_node.specs.declared.node.Step.{Step}
use Rattle.bd_node.specs.Meaning.{Nodes}
use Rattle.bd_node.specs.Tables.{Table, IsSound}
use Rattle.bd_node.specs.Steps.{IsWornBy}
use Rattle.bd_counts.specs.declared.new_counts.NewCounts.{NewCounts}
use Rattle.bd_counts.specs.Counting.{overlaid, IsRecount, MakesTable, Commits, IsOwing}
use Rattle.bd_counts.specs.Reading.{FallsBelow}
use Rattle.bd_counts.specs.Frames.{IsBadFor}
use Rattle.bd_counts.proofs.Accounts.{begun_accounted, accounted_after, read_before, falls_before}
use Rattle.bd_counts.proofs.Causes.{fault_wider, cause_wider}
use Rattle.bd_counts.proofs.Recounting.{begun_recount, begun_owing, makes_table, settled_commits, found_weaker, none_weaker}
use Rattle.bd_counts.proofs.new_counts.recount.Goals as goal

pub settled-requires-clause-counts : goal.settled-requires-clause-counts
settled-requires-clause-counts g c =
    let t : Table = g.S.Counted.table c.args.source.now in
    subst (λ (u : Table). IsRecount u c.args.step.now (overlaid u.count c.in_ok-counts.counts) c.new.result.items) (sym c.in_ok-owed.ensures.left.table)
    (begun_recount t c.args.step.now (overlaid t.count c.in_ok-counts.counts) c.new.result.items c.requires.step c.in_ok-counts.ensures.counts c.new.ensures.items)

pub settled-requires-clause-owing : goal.settled-requires-clause-owing
settled-requires-clause-owing g c = λ known_new sound_new.
    let left = c.in_ok-owed.ensures.left in
    let step : Step = c.args.step.now in
    let t : Table = g.S.Counted.table c.args.source.now in
    let nodes : Nodes = g.S.Counted.nodes c.args.source.now in
    let new : Nodes = g.S.Counted.nodes c.owed_names.new.source in
    let owed : List ℕ = c.in_ok-owed.owed.items in
    let known = g.met.S.Counted.reads_known c.args.source.now c.owed_names.new.source left.read known_new in
    let same : new ≡ nodes = left.kept known in
    let sound : IsSound nodes t = subst (λ (n : Nodes). IsSound n t) same (subst (λ (u : Table). IsSound new u) left.table sound_new) in
    subst (λ (u : Table). IsOwing new u step (overlaid u.count c.in_ok-counts.counts) owed) (sym left.table)
    (subst (λ (n : Nodes). IsOwing n t step (overlaid t.count c.in_ok-counts.counts) owed) (sym same)
    (begun_owing nodes t step (overlaid t.count c.in_ok-counts.counts) owed sound c.requires.step (c.requires.above known sound) c.in_ok-counts.ensures.counts (c.in_ok-owed.ensures.owed known)))

pub returns-clause-table : goal.returns-clause-table
returns-clause-table g c =
    let step : Step = c.args.step.now in
    let t : Table = g.S.Counted.table c.args.source.now in
    let u : Table = g.S.Counted.table c.owed_names.new.source in
    found_weaker (λ (r : NewCounts). IsRecount u step (overlaid u.count r.counts) r.gone.items) (λ (r : NewCounts). MakesTable t step (overlaid t.count r.counts)) c.settled.result
    (λ r h. makes_table t step (overlaid t.count r.counts) r.gone.items c.in_ok-owed.ensures.table c.requires.step
    (subst (λ (v : Table). IsRecount v step (overlaid v.count r.counts) r.gone.items) c.in_ok-owed.ensures.left.table h))
    c.settled.ensures.counts

pub returns-clause-commits : goal.returns-clause-commits
returns-clause-commits g c = λ known sound.
    let left = c.in_ok-owed.ensures.left in
    let step : Step = c.args.step.now in
    let t : Table = g.S.Counted.table c.args.source.now in
    let u : Table = g.S.Counted.table c.owed_names.new.source in
    let nodes : Nodes = g.S.Counted.nodes c.args.source.now in
    let new : Nodes = g.S.Counted.nodes c.owed_names.new.source in
    let same : new ≡ nodes = left.kept known in
    let sound_new : IsSound new u = subst (λ (v : Table). IsSound new v) (sym left.table) (subst (λ (n : Nodes). IsSound n t) (sym same) sound) in
    found_weaker (λ (r : NewCounts). IsOwing new u step (overlaid u.count r.counts) []) (λ (r : NewCounts). Commits nodes t step (overlaid t.count r.counts)) c.settled.result
    (λ r h. settled_commits nodes t step (overlaid t.count r.counts) sound
    (subst (λ (n : Nodes). IsOwing n t step (overlaid t.count r.counts) []) same
    (subst (λ (v : Table). IsOwing new v step (overlaid v.count r.counts) []) left.table h)))
    (c.settled.ensures.settled (left.known known) sound_new)

pub settled-requires-clause-account : goal.settled-requires-clause-account
settled-requires-clause-account g c = λ known_new.
    let left = c.in_ok-owed.ensures.left in
    let step : Step = c.args.step.now in
    let t : Table = g.S.Counted.table c.args.source.now in
    let nodes : Nodes = g.S.Counted.nodes c.args.source.now in
    let known = g.met.S.Counted.reads_known c.args.source.now c.owed_names.new.source left.read known_new in
    accounted_after nodes (g.S.Counted.nodes c.owed_names.new.source) t (g.S.Counted.table c.owed_names.new.source) step (left.kept known) left.table c.in_ok-counts.counts c.new.result.items c.in_ok-owed.owed.items
    (begun_accounted nodes t step (overlaid t.count c.in_ok-counts.counts) c.new.result.items c.in_ok-owed.owed.items c.new.ensures.items c.in_ok-counts.ensures.counts (c.in_ok-owed.ensures.owed known))

pub returns-clause-low : goal.returns-clause-low
returns-clause-low g c =
    let C = g.S.Counted in
    let left = c.in_ok-owed.ensures.left in
    let old = c.args.source.now in
    let mid = c.owed_names.new.source in
    none_weaker (C.is_known mid → FallsBelow (C.nodes mid) (C.table mid) c.args.step.now) (C.is_known old → FallsBelow (C.nodes old) (C.table old) c.args.step.now) c.settled.result
    (λ low known. falls_before (C.nodes old) (C.nodes mid) (C.table old) (C.table mid) c.args.step.now (left.kept known) left.table (low (left.known known)))
    c.settled.ensures.low

pub returns-clause-cause : goal.returns-clause-cause
returns-clause-cause g c =
    let C = g.S.Counted in
    let left = c.in_ok-owed.ensures.left in
    let step : Step = c.args.step.now in
    let old = c.args.source.now in
    let mid = c.owed_names.new.source in
    let new = c.settled.new.source in
    cause_wider (C.fault_count old) (C.fault_count new) (C.last_failed new) (IsBadFor C mid step new) (IsBadFor C old step new) NeverWorn (IsWornBy (C.table old) step)
    (λ b bad known. let h = bad (left.known known) in (h.0, read_before (C.nodes old) (C.nodes mid) (C.table old) (C.table mid) step (left.kept known) left.table h.0 h.1, h.2))
    (λ k worn. absurd worn) c.settled.result
    (cause_after (C.fault_count old) (C.fault_count mid) (C.fault_count new) (C.last_failed new) (IsBadFor C mid step new) NeverWorn c.settled.result c.in_ok-owed.ensures.cause.kept c.settled.ensures.cause)

pub returns-in_err-counts-clause-cause : goal.returns-in_err-counts-clause-cause
returns-in_err-counts-clause-cause g c =
    let p = err_from_is_err_and c.from_residual.result c.from_residual.ensures.1 in
    let C = g.S.Counted in
    let old = c.args.source.now in
    let step : Step = c.args.step.now in
    rw (p.1, p.2)
    (fault_wider (C.fault_count old) (C.fault_count old) (C.last_failed old) (λ b. ⊥) (IsBadFor C old step old) (IsWornBy (C.table old) step) (IsWornBy (C.table old) step)
    (λ b no. absurd no) (λ k worn. worn) c.in_err-counts.field-0.0 c.in_err-counts.ensures.cause)
