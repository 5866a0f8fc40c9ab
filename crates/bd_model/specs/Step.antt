-- What a command does: the first refusal that holds, or else the tree after it and its reply.
use Rattle.std.specs.Prelude.{ℕ, ◌+◌, Bool, true, false, not, ◌&&◌, List, [], ◌∷◌, ◌++◌, length, take, drop, nat_le, nat_lt, if◌then◌else◌, is_some}
use Rattle.std.specs.List.{filter, filter_map}
use Rattle.std.specs.Option.{option_or, option_map, option_and_then}
use Rattle.std.specs.Ordering.{nat_cmp, is_lt}
use Rattle.std.specs.Cmp.Lexicographic.{slice_cmp}
use Rattle.std.specs.declared.option.Option.{Option}
use Rattle.std.specs.declared.option.Option.TheVariants.{None, Some}
use Rattle.std.specs.FinMap.{get, insert, retain_keys, entries, from_entries}
use Rattle.bd_limits.specs.Limits.{file_limit, listing_limit}
use Rattle.bd_keys.specs.Edits.{resized, overwritten}
use Rattle.bd_names.specs.Names.{rest_below, is_under, parent_of}
use Rattle.bd_command.specs.declared.Command.{Command}
use Rattle.bd_command.specs.declared.Command.TheVariants.{Mkdir, Create, Write, Truncate, Remove, Rename, Clone, Chmod, Read, Stat, List as Ls}
use Rattle.bd_command.specs.declared.refusal.Refusal.{Refusal}
use Rattle.bd_command.specs.declared.refusal.Refusal.TheVariants.{NotFound, Exists, NoParent, NotDir, IsDir, Inside, Root, TooBig}
use Rattle.bd_command.specs.declared.reply.Listed.{Listed}
use Rattle.bd_command.specs.declared.reply.Listing.{Listing}
use Rattle.bd_command.specs.declared.reply.Reply.{Reply}
use Rattle.bd_command.specs.declared.reply.Reply.TheVariants.{Done, Bytes, Dir, File, Names, Refused}
use Rattle.bd_model.specs.Tree.{Name, Path, Entry, Directory, FileWith, is_directory, Tree}

-- ---- refusals

-- nothing is there
abbrev pub absent_refusal : Option Entry → Option Refusal
absent_refusal None = Some NotFound
absent_refusal (Some e) = None

-- no file is there
abbrev pub file_refusal : Option Entry → Option Refusal
file_refusal None = Some NotFound
file_refusal (Some (Directory mode)) = Some IsDir
file_refusal (Some (FileWith mode bytes)) = None

-- no directory is there
abbrev pub directory_refusal : Option Entry → Option Refusal
directory_refusal None = Some NotFound
directory_refusal (Some (Directory mode)) = None
directory_refusal (Some (FileWith mode bytes)) = Some NotDir

-- no directory is there that a new entry could stand in
abbrev pub parent_refusal : Option Entry → Option Refusal
parent_refusal None = Some NoParent
parent_refusal (Some (Directory mode)) = None
parent_refusal (Some (FileWith mode bytes)) = Some NotDir

-- a path is taken, or no directory is above it
abbrev pub place_refusal : Bool → Tree → Path → Option Refusal
place_refusal taken t path =
    if taken then Some Exists else parent_refusal (option_and_then (get t) (parent_of path))

-- a new entry can't be made at the path
abbrev pub new_refusal : Tree → Path → Option Refusal
new_refusal t path = place_refusal (is_some (get t path)) t path

-- a file is there
abbrev pub has_file : Option Entry → Bool
has_file None = false
has_file (Some (Directory mode)) = false
has_file (Some (FileWith mode bytes)) = true

-- what is there doesn't give way to what is moved to it: a file does, and to a file alone
abbrev pub is_taken : Option Entry → Option Entry → Bool
is_taken moved there = is_some there && not (has_file moved && has_file there)

-- what is at `a` can't be moved to `b`
abbrev pub target_refusal : Tree → Path → Path → Option Refusal
target_refusal t a b = place_refusal (is_taken (get t a) (get t b)) t b

-- the path is `/`
abbrev pub root_refusal : Path → Option Refusal
root_refusal [] = Some Root
root_refusal (n ∷ ns) = None

-- the file would be longer than `file_limit`
abbrev pub size_refusal : ℕ → Option Refusal
size_refusal size = if nat_le size file_limit then None else Some TooBig

-- `b` is `a` or below it
abbrev pub inside_refusal : Path → Path → Option Refusal
inside_refusal a b = if is_under a b then Some Inside else None

-- why the tree refuses a command, if it does: the first cause that holds
abbrev pub refusal_of : Tree → Command → Option Refusal
refusal_of t (Mkdir path) = new_refusal t path
refusal_of t (Create path) = new_refusal t path
refusal_of t (Write path off bytes) =
    option_or (file_refusal (get t path)) (size_refusal (off + length bytes))
refusal_of t (Truncate path len) = option_or (file_refusal (get t path)) (size_refusal len)
refusal_of t (Remove path) = option_or (root_refusal path) (absent_refusal (get t path))
refusal_of t (Rename a b) =
    option_or (root_refusal a) (option_or (absent_refusal (get t a))
    (option_or (inside_refusal a b) (target_refusal t a b)))
refusal_of t (Clone a b) = option_or (absent_refusal (get t a)) (new_refusal t b)
refusal_of t (Chmod path mode) = absent_refusal (get t path)
refusal_of t (Read path off len) = file_refusal (get t path)
refusal_of t (Stat path) = absent_refusal (get t path)
refusal_of t (Ls path after) = directory_refusal (get t path)

-- ---- the tree after an accepted command

-- the bytes of a file; none where there is none
abbrev pub file_bytes : Option Entry → List ℕ
file_bytes None = []
file_bytes (Some (Directory mode)) = []
file_bytes (Some (FileWith mode bytes)) = bytes

-- the mode of what is there, 0 where nothing is
abbrev pub mode_at : Option Entry → ℕ
mode_at None = 0
mode_at (Some (Directory mode)) = mode
mode_at (Some (FileWith mode bytes)) = mode

-- what is there with another mode
abbrev pub with_mode : ℕ → Option Entry → Entry
with_mode new None = Directory new
with_mode new (Some (Directory mode)) = Directory new
with_mode new (Some (FileWith mode bytes)) = FileWith new bytes

-- a file with other bytes and the mode of what is there
abbrev pub with_bytes : List ℕ → Option Entry → Entry
with_bytes bytes there = FileWith (mode_at there) bytes

-- a path and its entry
abbrev pub Placed : Type 0
Placed = Path × Entry

-- an entry at `a` or below it, moved to the same place at `b`
abbrev pub moved_entry : Path → Path → Placed → Option Placed
moved_entry a b e = option_map (λ rest. (b ++ rest, e.1)) (rest_below a e.0)

-- each entry at `a` or below it, moved to the same place at `b`
abbrev pub moved : Path → Path → Tree → List Placed
moved a b t = filter_map (moved_entry a b) (entries t)

-- without a path and all below it
abbrev pub without : Path → Tree → Tree
without path t = retain_keys t (λ q. not (is_under path q))

-- what stood at `a` or below it stands at `b` too, and all else stays
abbrev pub cloned : Path → Path → Tree → Tree
cloned a b t = from_entries (moved a b t ++ entries t)

-- what stood at `a` or below it stands at `b`, in place of a file that was there, nothing at `a`, and
-- all else stays
abbrev pub renamed : Path → Path → Tree → Tree
renamed a b t = from_entries (moved a b t ++ entries (without a t))

-- the tree after a command that it accepts
abbrev pub changed : Tree → Command → Tree
changed t (Mkdir path) = insert t path (Directory 0)
changed t (Create path) = insert t path (FileWith 0 [])
changed t (Write path off bytes) =
    insert t path (with_bytes (overwritten (file_bytes (get t path)) off bytes) (get t path))
changed t (Truncate path len) =
    insert t path (with_bytes (resized (file_bytes (get t path)) len) (get t path))
changed t (Remove path) = without path t
changed t (Rename a b) = renamed a b t
changed t (Clone a b) = cloned a b t
changed t (Chmod path mode) = insert t path (with_mode mode (get t path))
changed t (Read path off len) = t
changed t (Stat path) = t
changed t (Ls path after) = t

-- ---- the reply to an accepted command

-- what is there
abbrev pub stat_reply : Option Entry → Reply
stat_reply None = Dir 0
stat_reply (Some (Directory mode)) = Dir mode
stat_reply (Some (FileWith mode bytes)) = File (length bytes) mode

-- the name of an entry that stands in a directory, by what follows the directory in its path
abbrev pub child_of : Option Path → Entry → Option Listed
child_of None e = None
child_of (Some []) e = None
child_of (Some (n ∷ [])) e = Some (record { name = n; is_dir = is_directory e })
child_of (Some (n ∷ m ∷ ns)) e = None

-- the names in a directory, in the order of their bytes
abbrev pub children : Path → Tree → List Listed
children path t = filter_map (λ e. child_of (rest_below path e.0) e.1) (entries t)

-- those greater than a name, where one is given
abbrev pub those_after : Option Name → List Listed → List Listed
those_after None names = names
those_after (Some name) names = filter (λ l. is_lt (slice_cmp nat_cmp name l.name)) names

-- at most `listing_limit` of them, and whether more follow
abbrev pub listing_of : List Listed → Listing
listing_of names =
    record { names = take listing_limit names; more = nat_lt listing_limit (length names) }

-- the reply of a tree to a command that it accepts
abbrev pub answer : Tree → Command → Reply
answer t (Read path off len) = Bytes (take len (drop off (file_bytes (get t path))))
answer t (Stat path) = stat_reply (get t path)
answer t (Ls path after) = Names (listing_of (those_after after (children path t)))
answer t (Mkdir path) = Done
answer t (Create path) = Done
answer t (Write path off bytes) = Done
answer t (Truncate path len) = Done
answer t (Remove path) = Done
answer t (Rename a b) = Done
answer t (Clone a b) = Done
answer t (Chmod path mode) = Done

-- ---- the step

-- the tree after, and the reply
abbrev pub stepped : Tree → Command → Option Refusal → Tree × Reply
stepped t c (Some r) = (t, Refused r)
stepped t c None = (changed t c, answer t c)

-- the step of a command on a tree
abbrev pub step : Tree → Command → Tree × Reply
step t c = stepped t c (refusal_of t c)
