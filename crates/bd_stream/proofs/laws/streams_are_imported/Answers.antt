use Rattle.bd_stream.proofs.StreamLemmas.{stream_commands, stream_whole}
use Rattle.bd_stream.proofs.laws.streams_are_imported.Goals as goal

pub returns-clause-commands : goal.returns-clause-commands
returns-clause-commands c = stream_commands

pub returns-clause-whole : goal.returns-clause-whole
returns-clause-whole c = stream_whole
