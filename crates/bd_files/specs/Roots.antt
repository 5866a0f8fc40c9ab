-- The record of `/` in a key map that has nothing yet.
use Rattle.std.specs.Prelude.{List, [], ◌∷◌}
use Rattle.bd_records.specs.declared.Record.TheVariants.{Dir}
use Rattle.bd_records.specs.Records.{record_bytes}
use Rattle.bd_message.specs.declared.message.Message.{Message}
use Rattle.bd_message.specs.declared.message.Message.TheVariants.{Put}
use Rattle.bd_represent.specs.EntryKeys.{record_key}

-- the messages that make `/`
abbrev pub root_messages : List Message
root_messages = Put (record_key []) (record_bytes (Dir 0)) ∷ []
