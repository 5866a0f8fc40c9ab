-- The head of an entry of a stream: what kind it is, its path below the exported one, its mode, and
-- how long a file is.
use Rattle.std.specs.Prelude.{ℕ, ◌+◌, ◌≤◌, Bool, ◌||◌, List, ◌∷◌, ◌++◌, take, drop, slice_index, nat_le, ◌==◌, if◌then◌else◌, IfSome}
use Rattle.std.specs.Int.{w16, w32}
use Rattle.std.specs.declared.option.Option.{Option}
use Rattle.std.specs.declared.option.Option.TheVariants.{None, Some}
use Rattle.bd_limits.specs.Limits.{mode_limit, file_limit}
use Rattle.bd_names.specs.Names.{path_text, path_of}
use Rattle.bd_wire.specs.Numbers.{be, number_at}
use Rattle.bd_wire.specs.Text.{text16}
use Rattle.bd_command.specs.Command.{IsShortPath, IsMode}
use Rattle.bd_stream.specs.declared.head.Head.{Head}

-- the names of a path with slashes between them; none are no bytes
abbrev pub relative_text : List (List ℕ) → List ℕ
relative_text path = drop 1 (path_text path)

-- `D`, or `F` and at last the length
abbrev pub head_around : Option ℕ → List ℕ → List ℕ
head_around None fields = 68 ∷ fields
head_around (Some len) fields = 70 ∷ fields ++ be w32 len

-- a head as bytes
abbrev pub head_bytes : Head → List ℕ
head_bytes head = head_around head.len (text16 (relative_text head.path) ++ be w16 head.mode)

-- the fields of a head are within their limits
pub record IsHead (head : Head) : Type 0 where
  pub path : IsShortPath head.path
  pub mode : IsMode head.mode
  pub len : IfSome head.len (λ n. n ≤ file_limit)

-- ---- the head that bytes are

-- the first byte of a directory's head, or of a file's
abbrev pub is_kind : ℕ → Bool
is_kind tag = (tag == 68) || (tag == 70)

-- how many bytes the path has
abbrev pub path_count : List ℕ → ℕ
path_count bytes = number_at w16 (drop 1 bytes)

-- how many bytes stand after the path
abbrev pub tail_size : ℕ → ℕ
tail_size tag = if tag == 68 then 2 else 6

-- how many bytes a head has that begins with these three or more
abbrev pub head_size : List ℕ → ℕ
head_size bytes = 3 + path_count bytes + tail_size (slice_index bytes 0)

-- the head of a kind, with these fields, where the length is one of a file
abbrev pub head_of_kind : ℕ → List (List ℕ) → ℕ → ℕ → Option Head
head_of_kind tag path mode len =
    if tag == 68 then Some (record { path = path; mode = mode; len = None })
    else (if nat_le len file_limit
    then Some (record { path = path; mode = mode; len = Some len }) else None)

-- the head with these fields, where the path and the mode are such
abbrev pub head_with : ℕ → Option (List (List ℕ)) → ℕ → ℕ → Option Head
head_with tag None mode len = None
head_with tag (Some path) mode len =
    if nat_le mode mode_limit then head_of_kind tag path mode len else None

-- the head that these bytes are, all of them, where they are one
abbrev pub head_of : List ℕ → Option Head
head_of bytes =
    head_with (slice_index bytes 0) (path_of (47 ∷ take (path_count bytes) (drop 3 bytes)))
    (number_at w16 (drop (3 + path_count bytes) bytes))
    (number_at w32 (drop (5 + path_count bytes) bytes))
