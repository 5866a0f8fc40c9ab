-- Files of at most one block: what is found of one, and the messages that put it at a path.
use Rattle.std.specs.Prelude.{◌≡◌, ℕ, Bool, true, false, List, [], ◌∷◌, length, nat_le, Option, None, Some, IfSome}
use Rattle.bd_limits.specs.Limits.{block_limit}
use Rattle.bd_model.specs.Tree.{Entry, Directory, FileWith}
use Rattle.bd_model.specs.Step.{file_bytes, mode_at}
use Rattle.bd_records.specs.Records.{IsBlock}
use Rattle.bd_message.specs.declared.message.Message.{Message}
use Rattle.bd_message.specs.declared.message.Message.TheVariants.{Put, Del}
use Rattle.bd_message.specs.KeyMaps.{At}
use Rattle.bd_represent.specs.EntryKeys.{record_key, block_key}
use Rattle.bd_files.specs.Sends.{put_length}
use Rattle.bd_files.specs.declared.small.SmallFile.{SmallFile}

-- a file of at most one block is there
abbrev pub is_small : Option Entry → Bool
is_small None = false
is_small (Some (Directory mode)) = false
is_small (Some (FileWith mode bytes)) = nat_le (length bytes) block_limit

-- nothing is there, or such a file
abbrev pub has_little : Option Entry → Bool
has_little None = true
has_little (Some e) = is_small (Some e)

-- the file that is there and the block that is stored of it, or none where no such file is
abbrev pub IsSmallAt : At → List (List ℕ) → Option Entry → Option SmallFile → Type 0
IsSmallAt at path there None = is_small there ≡ false
IsSmallAt at path there (Some file) =
    (is_small there ≡ true) × (file.len ≡ length (file_bytes there)) × (file.mode ≡ mode_at there)
    × (file.block ≡ at (block_key path 0))

-- the block that is stored is one
abbrev pub HasBlock : SmallFile → Type 0
HasBlock file = IfSome file.block IsBlock

-- the message after which this is stored of the first block of a file, or nothing
abbrev pub put_first : List (List ℕ) → Option (List ℕ) → Message
put_first path None = Del (block_key path 0)
put_first path (Some block) = Put (block_key path 0) block

-- the messages that put a file of at most one block at a path where such a file is, or nothing
abbrev pub copied : List (List ℕ) → ℕ → ℕ → Option (List ℕ) → List Message
copied path mode len block = put_length path mode len ∷ put_first path block ∷ []

-- the same, and those before them that take it from another path
abbrev pub carried : List (List ℕ) → List (List ℕ) → ℕ → ℕ → Option (List ℕ) → List Message
carried a b mode len block =
    Del (record_key a) ∷ Del (block_key a 0) ∷ copied b mode len block
