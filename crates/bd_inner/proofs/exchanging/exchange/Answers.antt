use Rattle.std.proofs.Common.{refl}
use Rattle.bd_inner.proofs.Exchanged.{parts_loose, swept_shape}
use Rattle.bd_inner.proofs.exchanging.exchange.Goals as goal

pub sweep-requires : goal.sweep-requires
sweep-requires c =
    parts_loose c.args.node.now c.in-Inner.level c.in-Inner.edges c.as_slice.result.now c.in-Inner.buffer c.in-Inner.buffer c.args.place c.args.list c.in_ok-edges-in-Inner.edges c.in-Inner.is c.requires.shape c.requires.within c.requires.fits c.as_slice.ensures refl c.in_ok-edges-in-Inner.ensures

pub returns-clause-shape : goal.returns-clause-shape
returns-clause-shape c =
    swept_shape c.in-Inner.level c.in_ok-edges-in-Inner.edges c.in-Inner.buffer c.sweep.result
    (parts_loose c.args.node.now c.in-Inner.level c.in-Inner.edges c.as_slice.result.now c.in-Inner.buffer c.in-Inner.buffer c.args.place c.args.list c.in_ok-edges-in-Inner.edges c.in-Inner.is c.requires.shape c.requires.within c.requires.fits c.as_slice.ensures refl c.in_ok-edges-in-Inner.ensures)
    c.sweep.ensures
