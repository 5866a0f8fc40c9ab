use Rattle.std.proofs.Common.{Bool, List, sym, ap, subst}
use Rattle.bd_message.specs.declared.message.Message.{Message}
use Rattle.bd_node.specs.declared.node.Node.{Node}
use Rattle.bd_node.specs.Keeping.{staying}
use Rattle.bd_node.specs.Parts.{buffer_of}
use Rattle.bd_node.proofs.InPlace.{IsIndexOf}
use Rattle.bd_node.proofs.node.Node.relieve.Goals as goal

pub keep-requires-clause-index : goal.keep-requires-clause-index
keep-requires-clause-index c = λ x is.
    subst (λ (l : List Message). IsIndexOf (staying c.as_slice-in-Inner.result.now l) x) (ap (λ (n : Node). buffer_of n) c.in-Inner.is)
    (subst (λ (mask : List Bool). IsIndexOf (staying mask (buffer_of c.args.self.now)) x) (sym c.as_slice-in-Inner.ensures.value) (c.requires.index x is))
