-- What the program's entries represent.
use Rattle.std.specs.Prelude.{◌≡◌, ℕ, ◌<◌, ◌≤◌, List, length, slice_set}
use Rattle.std.specs.List.{insert}
use Rattle.std.specs.declared.result.Result.{Result}
use Rattle.std.specs.declared.result.Result.TheVariants.{Ok, Err}
use Rattle.std.specs.FinMap.{put}
use Rattle.bd_model.specs.Tree.{Entry, Directory, FileWith, path_cmp}
use Rattle.bd_plain.specs.declared.entry.Content.{Content}
use Rattle.bd_plain.specs.declared.entry.Content.TheVariants as content

-- the entry of the model
abbrev pub entry_of : Content → Entry
entry_of (content.Directory mode) = Directory mode
entry_of (content.File mode bytes) = FileWith mode bytes

-- where in a list in order an entry of this path stands, or else where it would have to be inserted
abbrev pub IsPlace : List (List (List ℕ) × Entry) → List (List ℕ) → Result ℕ ℕ → Type 0
IsPlace es path (Ok at) =
    (at < length es) × ((e : Entry) → put path_cmp path e es ≡ slice_set es at (path, e))
IsPlace es path (Err at) =
    (at ≤ length es) × ((e : Entry) → put path_cmp path e es ≡ insert es at (path, e))
