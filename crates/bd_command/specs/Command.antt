-- Which commands write, and which are commands at all.
use Rattle.std.specs.Prelude.{ℕ, ◌^◌, ◌<◌, ◌≤◌, Bool, true, false, ◌&&◌, if◌then◌else◌, List, length, IsTrue, ⊤}
use Rattle.std.specs.List.{AllByRecursion}
use Rattle.std.specs.declared.option.Option.{Option}
use Rattle.std.specs.declared.option.Option.TheVariants.{None, Some}
use Rattle.bd_limits.specs.Limits.{path_limit, mode_limit, write_limit, read_limit, listing_limit}
use Rattle.bd_names.specs.Names.{AreNames, is_name, path_text}
use Rattle.bd_command.specs.declared.Command.{Command}
use Rattle.bd_command.specs.declared.reply.Reply.{Reply}
use Rattle.bd_command.specs.declared.reply.Reply.TheVariants.{Done, Bytes, Dir, File, Names, Refused}
use Rattle.bd_command.specs.declared.Command.TheVariants.{Mkdir, Create, Write, Truncate, Remove, Rename, Clone, Chmod, Read, Stat, List as Ls}

-- the commands that change the tree where they are accepted
abbrev pub writes : Command → Bool
writes (Mkdir path) = true
writes (Create path) = true
writes (Write path off bytes) = true
writes (Truncate path len) = true
writes (Remove path) = true
writes (Rename a b) = true
writes (Clone a b) = true
writes (Chmod path mode) = true
writes (Read path off len) = false
writes (Stat path) = false
writes (Ls path after) = false

abbrev pub is_done : Reply → Bool
is_done Done = true
is_done (Bytes bytes) = false
is_done (Dir mode) = false
is_done (File len mode) = false
is_done (Names listing) = false
is_done (Refused refusal) = false

-- 1 for a writing command that was accepted, and else 0
abbrev pub accepted : Command → Reply → ℕ
accepted command reply = if writes command && is_done reply then 1 else 0

-- a path of a command: made of names, with a text of at most 512 bytes
abbrev pub IsShortPath : List (List ℕ) → Type 0
IsShortPath path = AreNames path × (length (path_text path) ≤ path_limit)

-- 1 to 2,048 bytes
abbrev pub IsWritten : List ℕ → Type 0
IsWritten bytes =
    (1 ≤ length bytes) × (length bytes ≤ write_limit) × AllByRecursion (λ b. b < 256) bytes

-- a mode: twelve bits
abbrev pub IsMode : ℕ → Type 0
IsMode mode = mode ≤ mode_limit

-- a name, where one is given
abbrev pub IsAfter : Option (List ℕ) → Type 0
IsAfter None = ⊤
IsAfter (Some name) = IsTrue (is_name name)

-- the fields of a command are within their limits
abbrev pub IsCommand : Command → Type 0
IsCommand (Mkdir path) = IsShortPath path
IsCommand (Create path) = IsShortPath path
IsCommand (Write path off bytes) = IsShortPath path × (off < 2 ^ 32) × IsWritten bytes
IsCommand (Truncate path len) = IsShortPath path × (len < 2 ^ 32)
IsCommand (Remove path) = IsShortPath path
IsCommand (Rename a b) = IsShortPath a × IsShortPath b
IsCommand (Clone a b) = IsShortPath a × IsShortPath b
IsCommand (Chmod path mode) = IsShortPath path × IsMode mode
IsCommand (Read path off len) = IsShortPath path × (off < 2 ^ 32) × (len ≤ read_limit)
IsCommand (Stat path) = IsShortPath path
IsCommand (Ls path after) = IsShortPath path × IsAfter after

-- at most 4,096 bytes, and at most 100 names
abbrev pub IsReply : Reply → Type 0
IsReply Done = ⊤
IsReply (Bytes bytes) = length bytes ≤ read_limit
IsReply (Dir mode) = ⊤
IsReply (File len mode) = ⊤
IsReply (Names l) = length l.names ≤ listing_limit
IsReply (Refused r) = ⊤
