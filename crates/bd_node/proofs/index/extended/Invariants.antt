use Rattle.bd_node.specs.Index.{IsIndex}
use Rattle.bd_node.specs.Stems.{AreByStem}
use Rattle.bd_node.proofs.index.extended.Given as goal

abbrev pub invariant-loop-place : goal.invariant-loop-place
invariant-loop-place l = record {
  index : IsIndex l.items l.place l.index.points.items l.index.ranges.items;
  stems : AreByStem l.items l.place l.index.stems.items;
}
