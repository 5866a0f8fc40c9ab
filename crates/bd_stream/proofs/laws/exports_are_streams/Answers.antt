use Rattle.bd_stream.proofs.ExportLemmas.{export_way, export_whole, export_refused}
use Rattle.bd_stream.proofs.laws.exports_are_streams.Goals as goal

pub returns-clause-way : goal.returns-clause-way
returns-clause-way c = export_way

pub returns-clause-whole : goal.returns-clause-whole
returns-clause-whole c = export_whole

pub returns-clause-refused : goal.returns-clause-refused
returns-clause-refused c = export_refused
