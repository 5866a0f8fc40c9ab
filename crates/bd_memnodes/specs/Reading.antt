-- Reads, one after the other.
use Rattle.std.specs.Prelude.{refl}
use Rattle.std.proofs.Common.{◌∙◌}
use Rattle.bd_memnodes.specs.Seen.{Seen, SameNodes}

-- no read changes nothing
pub same_nodes-none : (s : Seen) → SameNodes s s
same_nodes-none s = record { nodes = refl; table = refl }

-- nor do two
pub same_nodes-both : (a b c : Seen) → SameNodes a b → SameNodes b c → SameNodes a c
same_nodes-both a b c h g = record { nodes = g.nodes ∙ h.nodes; table = g.table ∙ h.table }
