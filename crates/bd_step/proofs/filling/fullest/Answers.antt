use Rattle.std.proofs.Common.{List, ℕ, sym, subst}
use Rattle.bd_step.specs.Filling.{ArePendingSizes}
use Rattle.bd_step.proofs.PendingAll.{first_some, some_sizes, within_edges}
use Rattle.bd_step.proofs.filling.fullest.Goals as goal

pub greatest-requires : goal.greatest-requires
greatest-requires c =
    some_sizes c.args.buffer.now c.args.edges.now c.as_slice.result.now (subst (λ (ns : List ℕ). ArePendingSizes c.args.buffer.now c.args.edges.now ns) (sym c.as_slice.ensures.value) c.in_ok-sizes.ensures) (first_some c.args.edges.now c.requires.first)

pub returns-clause-within : goal.returns-clause-within
returns-clause-within c =
    within_edges c.args.buffer.now c.args.edges.now c.as_slice.result.now c.greatest.result.place c.greatest.result.bytes
    (subst (λ (ns : List ℕ). ArePendingSizes c.args.buffer.now c.args.edges.now ns) (sym c.as_slice.ensures.value) c.in_ok-sizes.ensures) c.greatest.ensures
