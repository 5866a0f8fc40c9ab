use Rattle.std.proofs.Common.{◌≡◌, ◌⊎◌, ℕ, false, true, Option, None, IfSome, inl, subst}
use Rattle.std.specs.Prelude.{IfNone, IsSome}
use Rattle.bd_counts.specs.declared.new_counts.NewCounts.{NewCounts}
use Rattle.bd_counts.specs.Counting.{overlaid, IsRecount, MakesTable, Commits}
use Rattle.bd_counts.specs.Reading.{IsReadBy, FallsBelow}
use Rattle.bd_counts.proofs.Causes.{fault_wider}
use Rattle.bd_node.specs.declared.node.Step.{Step}
use Rattle.bd_node.specs.Meaning.{Nodes}
use Rattle.bd_node.specs.Steps.{IsWornBy}
use Rattle.bd_node.specs.Tables.{Table, IsSound}
use Rattle.bd_pager.specs.Calling.{read_known}
use Rattle.bd_pager.specs.Causes.{is_bad_to_commit}
use Rattle.bd_pager.specs.Pagers.{Paged, table_of, nodes_of, spots_of, is_known}
use Rattle.bd_pager.specs.Places.{IsBadSpot}
use Rattle.bd_pager.proofs.DamageLemmas.{shown_cause, reads_before, reads_later}
use Rattle.bd_pager.proofs.StepsLemmas.{OnlyReadsOf, reads_after}
use Rattle.bd_pager.proofs.pager.Pager.recounted.Goals as goal

pub returns-clause-counts : goal.returns-clause-counts
returns-clause-counts g c =
    let t : Table = table_of c.args.self.now in
    let nodes : Nodes = nodes_of g.D.Device c.args.self.now in
    let step = c.args.step.now in
    record {
      counts = subst (λ (f : Option NewCounts). IfSome f (λ r. IsRecount t step (overlaid t.count r.counts) r.gone.items)) c.in-Some.is c.in-Ok.ensures.counts;
      table = subst (λ (f : Option NewCounts). IfSome f (λ r. MakesTable t step (overlaid t.count r.counts))) c.in-Some.is c.in-Ok.ensures.table;
      commits = λ known sound. subst (λ (f : Option NewCounts). IfSome f (λ r. Commits nodes t step (overlaid t.count r.counts))) c.in-Some.is (c.in-Ok.ensures.commits known sound);
    }

pub returns-in-Err-clause-cause : goal.returns-in-Err-clause-cause
returns-in-Err-clause-cause g c =
    let D = g.D.Device in
    let old : Paged g.row.D.Denot = c.args.self.now in
    let new : Paged g.row.D.Denot = c.recount.new.source in
    let step : Step = c.args.step.now in
    let left : OnlyReadsOf D old new = c.in-Err.ensures.left in
    fault_wider (D.fault_count old.dev) (D.fault_count new.dev) (D.last_failed new.dev)
    (λ b. is_known D old → (id : ℕ) × IsReadBy (nodes_of D old) (table_of old) step id × (is_known D new → IsBadSpot (D.contents new.dev) (spots_of new id) b))
    (is_bad_to_commit D new step) (IsWornBy (table_of old) step) (IsWornBy (table_of old) step)
    (λ b bad known_new.
    let known = read_known D old new left.read known_new in
    let h = bad known in
    inl (h.0, inl (reads_later D old new left (λ n t. IsReadBy n t step h.0) known h.1), h.2 known_new))
    (λ k worn. worn) c.in-Err.fault c.in-Err.ensures.cause

pub returns-in_default-clause-left : goal.returns-in_default-clause-left
returns-in_default-clause-left g c = reads_after g.D.Device c.args.self.now c.recount.new.source c.damage.new.self c.in-Ok.ensures.left c.damage.ensures.left

pub returns-in_default-clause-cause : goal.returns-in_default-clause-cause
returns-in_default-clause-cause g c =
    let D = g.D.Device in
    let old : Paged g.row.D.Denot = c.args.self.now in
    let mid : Paged g.row.D.Denot = c.recount.new.source in
    let new : Paged g.row.D.Denot = c.damage.new.self in
    let step : Step = c.args.step.now in
    let left : OnlyReadsOf D old new = reads_after D old mid new c.in-Ok.ensures.left c.damage.ensures.left in
    shown_cause D new (D.fault_count old.dev) (D.fault_count mid.dev) (λ id. IsReadBy (nodes_of D new) (table_of new) step id ⊎ (id ≡ step.root)) (FallsBelow (nodes_of D new) (table_of new) step) (IsWornBy (table_of old) step) c.damage.result
    c.in-Ok.ensures.cause.kept c.damage.ensures.later c.damage.ensures.stays c.damage.ensures.cause
    (λ known_new.
    let known = read_known D old new left.read known_new in
    let low = subst (λ (f : Option NewCounts). IfNone f (is_known D old → FallsBelow (nodes_of D old) (table_of old) step)) c.in_default.is c.in-Ok.ensures.low in (
      reads_later D old new left (λ n t. FallsBelow n t step) known (low known),
      λ sound.
          let some : IsSome {T = NewCounts} None = subst (λ (f : Option NewCounts). IsSome f) c.in_default.is (c.in-Ok.ensures.found known (reads_before D old new left IsSound known sound)) in
          absurd (let e : false ≡ true = some in cc),
    ))
