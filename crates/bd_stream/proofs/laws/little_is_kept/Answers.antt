use Rattle.bd_stream.proofs.BoundLemmas.{few_wait, few_names}
use Rattle.bd_stream.proofs.laws.little_is_kept.Goals as goal

pub returns-clause-importer : goal.returns-clause-importer
returns-clause-importer c = few_wait

pub returns-clause-exporter : goal.returns-clause-exporter
returns-clause-exporter c = few_names
