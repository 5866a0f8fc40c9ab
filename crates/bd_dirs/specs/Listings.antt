-- What of a directory's children comes next.
use Rattle.std.specs.Prelude.{◌≡◌, ℕ, ◌<◌, ◌≤◌, Bool, true, false, IsTrue, List, [], ◌∷◌, ◌++◌, length, Option, None, Some}
use Rattle.std.specs.List.{list_all}
use Rattle.bd_names.specs.Names.{key_of, is_name_byte}
use Rattle.bd_model.specs.Tree.{Tree}
use Rattle.bd_model.specs.Step.{children, those_after, listing_of}
use Rattle.bd_command.specs.declared.reply.Listed.{Listed}

-- the first of the names, if there is one
abbrev pub first_of : List Listed → Option Listed
first_of [] = None
first_of (l ∷ ls) = Some l

-- the name that others come after, and no byte where all do
abbrev pub lower : Option (List ℕ) → List ℕ
lower None = []
lower (Some n) = n

-- the key after all those of a child with this name, or before those of all children
abbrev pub key_after : List (List ℕ) → Option (List ℕ) → List ℕ
key_after path after = key_of path ++ (lower after ++ 1 ∷ [])

-- a listing as far as it has come: the names that were listed and those after the last of them, from
-- whose keys the search goes on, are all
pub record IsListedTo (t : Tree) (path : List (List ℕ)) (all names : List Listed) (from : List ℕ)
    : Type 0 where
  pub last : Option (List ℕ)
  pub bytes : IsTrue (list_all is_name_byte (lower last))
  pub from_is : from ≡ key_after path last
  pub all_are : all ≡ names ++ those_after last (children path t)

-- what so many entries add: where there is one child more than there is room for, the listing is
-- whole, and else it has come further where there are any entries
pub record IsAdded (t : Tree) (path : List (List ℕ)) (all old new : List Listed) (from : List ℕ)
    (found : ℕ) (more : Bool) : Type 0 where
  pub whole : more ≡ true → record { names = new; more = true } ≡ listing_of all
  pub listed : more ≡ false → IsListedTo t path all new from
  pub further : more ≡ false → 1 ≤ found → length old < length new
