use Rattle.bd_inner.proofs.Fitting.{flat_loose, flat_shape}
use Rattle.bd_inner.proofs.laws.flat_edges.Goals as goal

pub returns-clause-loose : goal.returns-clause-loose
returns-clause-loose c = flat_loose

pub returns-clause-shape : goal.returns-clause-shape
returns-clause-shape c = flat_shape
