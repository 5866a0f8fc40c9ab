use Rattle.std.proofs.Common.{sym, subst}
use Rattle.bd_node.specs.Shape.{IsRising}
use Rattle.bd_format.proofs.Rising.{IsChain, chain_rises, rising_chain}
use Rattle.bd_format.proofs.leaf.is_rising.Goals as goal

pub loop-entry-init : goal.loop-entry-init
loop-entry-init c = (
  λ chain. subst IsRising (sym c.in-Some.ensures.cases.0)
      (chain_rises c.in-Some.first.now c.in-Some.rest.now (subst (λ k. IsChain k c.in-Some.rest.now) c.as_slice-last.ensures chain)),
  λ rises. subst (λ k. IsChain k c.in-Some.rest.now) (sym c.as_slice-last.ensures)
      (rising_chain c.in-Some.first.now c.in-Some.rest.now (subst IsRising c.in-Some.ensures.cases.0 rises)),
)
