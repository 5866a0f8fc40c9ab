use Rattle.std.proofs.Common.{ap, sym, ◌∙◌, subst, List}
use Rattle.std.proofs.lemmas.Result.{IfOk-weaker}
use Rattle.bd_node.specs.declared.node.Edge.{Edge}
use Rattle.bd_node.specs.declared.node.Node.{Node}
use Rattle.bd_node.specs.Nodes.{names, edge_of}
use Rattle.bd_node.specs.Shape.{IsShape}
use Rattle.bd_query.proofs.Parts.{inner_named}
use Rattle.bd_node.proofs.Shapes.{inner_seen}
use Rattle.bd_query.specs.Looks.{IsNamedIn}
use Rattle.bd_query.specs.declared.part.Part.{Part}
use Rattle.bd_query.proofs.part.part_of.Goals as goal

pub part_through-requires-clause-seen : goal.part_through-requires-clause-seen
part_through-requires-clause-seen c =
    inner_seen c.in-Inner.level c.in-Inner.edges c.in-Inner.buffer c.args.key.now c.edge_of.result.now (subst (λ (n : Node). IsShape n) c.in-Inner.is c.requires)
    (ap (λ (es : List Edge). edge_of es c.args.key.now) (sym c.as_slice-in-Inner.ensures) ∙ c.edge_of.ensures)

pub returns-in_ok-found-in-Leaf-clause-named : goal.returns-in_ok-found-in-Leaf-clause-named
returns-in_ok-found-in-Leaf-clause-named c = c.known.ensures.named (names c.args.node.now)

pub returns-in-Inner-clause-named : goal.returns-in-Inner-clause-named
returns-in-Inner-clause-named c =
    IfOk-weaker c.part_through.result _ _ (λ (part : Part) named.
    subst (λ (n : Node). IsNamedIn (names n) part.base) (sym c.in-Inner.is)
    (inner_named c.in-Inner.edges c.in-Inner.buffer c.args.key.now c.edge_of.result.now part.base
    (ap (λ (es : List Edge). edge_of es c.args.key.now) (sym c.as_slice-in-Inner.ensures) ∙ c.edge_of.ensures) named)) c.part_through.ensures.named
