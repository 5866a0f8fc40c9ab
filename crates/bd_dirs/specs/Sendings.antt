-- What an accepted command sends: a function of the command, the tree, and what the map has of the
-- last block of a file that gets shorter, or of the block of a small file that is copied or moved.
use Rattle.std.specs.Prelude.{ℕ, Bool, true, false, ◌&&◌, if◌then◌else◌, List, [], ◌∷◌}
use Rattle.bd_names.specs.Names.{key_of}
use Rattle.bd_command.specs.declared.Command.{Command}
use Rattle.bd_command.specs.declared.Command.TheVariants.{Mkdir, Create, Write, Truncate, Remove, Rename, Clone, Chmod, Read, Stat, List as Ls}
use Rattle.std.specs.FinMap.{get}
use Rattle.bd_model.specs.Tree.{Tree}
use Rattle.bd_model.specs.Step.{mode_at, with_mode}
use Rattle.bd_records.specs.declared.Record.{Record}
use Rattle.bd_records.specs.declared.Record.TheVariants.{Dir, File}
use Rattle.bd_records.specs.Records.{record_bytes}
use Rattle.bd_message.specs.declared.message.Message.{Message}
use Rattle.bd_message.specs.declared.message.Message.TheVariants.{Put, Cut}
use Rattle.bd_message.specs.KeyMaps.{At}
use Rattle.bd_represent.specs.EntryKeys.{record_key, block_key}
use Rattle.bd_represent.specs.Represents.{record_of}
use Rattle.bd_files.specs.Sends.{written, truncated}
use Rattle.bd_files.specs.Smalls.{is_small, has_little, copied, carried}
use Rattle.bd_files.specs.FilePlans.{size_at}

-- nothing, messages with the oldest first, or a graft of the keys that begin with one prefix to
-- another, where they stay or not
pub data Sending : Type 0 where
  Nothing : Sending
  Batch : (list : List Message) → Sending
  Move : (s d : List ℕ) (keep : Bool) → Sending

-- the messages that make an entry with this record
abbrev pub made : List (List ℕ) → Record → List Message
made path r = Put (record_key path) (record_bytes r) ∷ []

-- what the command sends to a map that has this and represents the tree: a file of at most one
-- block, where nothing is or such a file, is copied or moved by messages
abbrev pub sending : At → Tree → Command → Sending
sending at t (Mkdir path) = Batch (made path (Dir 0))
sending at t (Create path) = Batch (made path (File 0 0))
sending at t (Write path off bytes) =
    Batch (written path (mode_at (get t path)) (size_at t path) off bytes)
sending at t (Truncate path len) =
    Batch (truncated at path (mode_at (get t path)) (size_at t path) len)
sending at t (Remove path) = Batch (Cut (key_of path) [] ∷ [])
sending at t (Rename a b) =
    if is_small (get t a) && has_little (get t b)
    then Batch (carried a b (mode_at (get t a)) (size_at t a) (at (block_key a 0)))
    else Move (key_of a) (key_of b) false
sending at t (Clone a b) =
    if is_small (get t a)
    then Batch (copied b (mode_at (get t a)) (size_at t a) (at (block_key a 0)))
    else Move (key_of a) (key_of b) true
sending at t (Chmod path mode) = Batch (made path (record_of (with_mode mode (get t path))))
sending at t (Read path off len) = Nothing
sending at t (Stat path) = Nothing
sending at t (Ls path after) = Nothing
