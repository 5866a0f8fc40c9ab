use Rattle.std.proofs.Common.{◌≤◌, arith, length, List, subst, sym}
use Rattle.bd_node.specs.declared.node.Entry.{Entry}
use Rattle.bd_node.specs.Nodes.{entry_at}
use Rattle.bd_query.specs.Stretches.{IsSomeRun}
use Rattle.bd_query.proofs.LeafLemmas.{gap_last, run_taken}
use Rattle.bd_query.proofs.stretch.among.Goals as goal

pub returns-then-first-last-clause-stretch : goal.returns-then-first-last-clause-stretch
returns-then-first-last-clause-stretch c below =
    gap_last c.args.entries.now c.first_from-first.result c.args.key.now c.requires.rising c.first_from-first.ensures (omega arith)

pub returns-clause-stretch : goal.returns-clause-stretch
returns-clause-stretch c below =
    let within : c.first_from-first.result ≤ length c.args.entries.now = c.first_from-first.ensures.within in
    subst (λ (es : List Entry). IsSomeRun (entry_at c.args.entries.now) c.args.key.now es) (sym c.from_vec-entries.ensures)
    (run_taken c.args.entries.now c.first_from-first.result c.min-last.result c.args.key.now c.in_ok-copied_between.field-0.items c.requires.rising c.first_from-first.ensures (omega arith) (omega arith)
    c.in_ok-copied_between.ensures.copies c.in_ok-copied_between.ensures.keys)
