use Rattle.std.proofs.Common.{◌≡◌, ℕ, ◌+◌, inl, refl, sym, ap, subst, ◌∙◌, arith, List, drop, Some}
use Rattle.std.specs.Prelude.{Any}
use Rattle.std.specs.List.{sum_by}
use Rattle.std.proofs.lemmas.Result.{err_from_is_err_and}
use Rattle.bd_message.specs.KeyMaps.{NeverWorn}
use Rattle.bd_message.proofs.Causes.{cause_after}
use Rattle.bd_node.specs.declared.node.Node.{Node}
use Rattle.bd_node.specs.declared.node.Change.{Change}
use Rattle.bd_node.specs.Nodes.{names, times}
use Rattle.bd_node.specs.Meaning.{Nodes}
use Rattle.bd_node.specs.Tables.{times_in}
use Rattle.bd_counts.specs.Naming.{times_among}
use Rattle.bd_counts.specs.Frames.{IsBadFor}
use Rattle.bd_counts.proofs.Causes.{fault_wider}
use Rattle.bd_counts.proofs.Names.{times_among-append}
use Rattle.bd_counts.proofs.Loops.{sum_rest}
use Rattle.bd_counts.proofs.owing.owed_names.Goals as goal

pub loop-change-preserved : goal.loop-change-preserved
loop-change-preserved g c =
    let inv = c.loop-change.invariant in
    let found = c.in_ok-node.ensures in
    let nodes : Nodes = g.S.Counted.nodes c.args.source.now in
    let x : Change = c.change-item.result in
    let i : ℕ = c.loop-change.change-index in
    let xs : List Change = c.as_slice-change-items.result.now in
    let same : xs ≡ c.args.step.now.changes = c.as_slice-change-items.ensures in
    record {
      table = found.left.table ∙ inv.table;
      known = λ k. found.left.known (inv.known k);
      nodes = λ k. found.left.kept (inv.known k) ∙ inv.nodes k;
      read = g.met.S.Counted.reads_both c.args.source.now c.loop-change.source c.find.new.self inv.read found.left.read;
      loans = found.left.same_loans ∙ inv.loans;
      visits = found.visits ∙ inv.visits;
      faults = found.cause.kept ∙ inv.faults;
      owed = λ k d.
          let F : Change → ℕ = λ (e : Change). times_in (nodes e.id) d in
          let content : nodes x.id ≡ Some c.in_ok-node.node.value = sym (ap (λ (m : Nodes). m x.id) (inv.nodes k)) ∙ found.contents (inv.known k) in
          let here : F x ≡ times c.in_ok-node.node.value d = ap (λ o. times_in o d) content in
          let pushed : times_among c.push_node.new.list.items d ≡ times_among c.loop-change.owed.items d + times c.in_ok-node.node.value d =
          ap (λ (ys : List ℕ). times_among ys d) c.in_ok-push_node.ensures
          ∙ times_among-append c.loop-change.owed.items (names c.deref.result.now) d
          ∙ ap (λ (n : Node). times_among c.loop-change.owed.items d + times n d) c.deref.ensures in
          let sum_here : sum_by F (drop i xs) ≡ F x + sum_by F (drop (i + 1) xs) = sum_rest F xs i x c.loop-change-test.true c.change-item.is in
          let as_here : sum_by F (drop i xs) ≡ sum_by F (drop i c.args.step.now.changes) = ap (λ (ys : List Change). sum_by F (drop i ys)) same in
          let as_next : sum_by F (drop (i + 1) xs) ≡ sum_by F (drop (i + 1) c.args.step.now.changes) = ap (λ (ys : List Change). sum_by F (drop (i + 1) ys)) same in
          let before = inv.owed k d in
          omega arith;
    }

pub returns-in_err-node-clause-cause : goal.returns-in_err-node-clause-cause
returns-in_err-node-clause-cause g c =
    let p = err_from_is_err_and c.from_residual-in_err-node.result c.from_residual-in_err-node.ensures.1 in
    let C = g.S.Counted in
    let old = c.args.source.now in
    let new = c.find.new.self in
    let x : Change = c.change-item.result in
    let xs : List Change = c.as_slice-change-items.result.now in
    let here : Any (λ (d : Change). d.id ≡ x.id) xs = (c.loop-change.change-index, x, c.loop-change-test.true, sym c.change-item.is, refl) in
    let changed : Any (λ (d : Change). d.id ≡ x.id) c.args.step.now.changes = subst (λ (ys : List Change). Any (λ (d : Change). d.id ≡ x.id) ys) c.as_slice-change-items.ensures here in
    rw (p.1, p.2)
    (fault_wider (C.fault_count old) (C.fault_count new) (C.last_failed new) (C.bad new x.id) (IsBadFor C old c.args.step.now new) NeverWorn NeverWorn
    (λ b bad known. (x.id, inl changed, bad)) (λ k worn. worn) c.in_err-node.field-0.0
    (cause_after (C.fault_count old) (C.fault_count c.loop-change.source) (C.fault_count new) (C.last_failed new) (C.bad new x.id) NeverWorn _ c.loop-change.invariant.faults c.in_err-node.ensures.cause))
