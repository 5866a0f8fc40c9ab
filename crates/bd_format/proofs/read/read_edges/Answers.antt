use Rattle.std.proofs.Common.{arith, subst}
use Rattle.bd_message.specs.Codec.{IsPartAs}
use Rattle.bd_format.specs.Images.{edge_bytes}
use Rattle.bd_format.specs.Parts.{FitsEdge}
use Rattle.bd_format.proofs.Alone.{edge_alone}
use Rattle.bd_format.proofs.Lists.{BeginsNone-lists}
use Rattle.bd_format.proofs.read.read_edges.Goals as goal

pub returns-in-None : goal.returns-in-None
returns-in-None c =
    BeginsNone-lists FitsEdge edge_bytes edge_alone c.args.count c.loop-place.edges.items c.args.cursor.now.left c.loop-place.cursor.left
    (omega (arith, c.loop-place.invariant.count, c.loop-place-test.true)) c.loop-place.invariant.fit c.loop-place.invariant.read.front
    (subst (IsPartAs FitsEdge edge_bytes c.loop-place.cursor c.read_edge.new.cursor) c.in-None.is c.in_ok-edge.ensures)
