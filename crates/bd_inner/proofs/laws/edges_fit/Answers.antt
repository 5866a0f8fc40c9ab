use Rattle.bd_inner.proofs.Fitting.{edge_lifted, seen_fits, way_lifted, way_fits}
use Rattle.bd_inner.proofs.laws.edges_fit.Goals as goal

pub returns-clause-lifted : goal.returns-clause-lifted
returns-clause-lifted c = edge_lifted

pub returns-clause-seen : goal.returns-clause-seen
returns-clause-seen c = seen_fits

pub returns-clause-new_lifted : goal.returns-clause-new_lifted
returns-clause-new_lifted c = way_lifted

pub returns-clause-new_child : goal.returns-clause-new_child
returns-clause-new_child c = way_fits
